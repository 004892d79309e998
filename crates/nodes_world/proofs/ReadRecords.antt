-- The records that octets stand for are those that are read in them.
use Rattle.std.proofs.Common.{◌≡◌, ◌≢◌, ℕ, zero, suc, ◌+◌, ◌<◌, ◌≤◌, ◌^◌, ◌==◌, ◌&&◌, ◌||◌, Bool, true, false, cond, nat_eq, nat_lt, bytes_eq, IsTrue, List, [], ◌∷◌, ◌++◌, length, take, drop, Some, None, refl, ap, ◌∙◌, arith, append_assoc, length-append}
use Rattle.std.specs.List.{AllByRecursion, flat_map}
use Rattle.std.specs.Option.{option_map}
use Rattle.std.proofs.lemmas.Bool.Decides.{nat_tests}
use Rattle.decision_journal.specs.declared.record.JournalRecord.{JournalRecord}
use Rattle.decision_journal.specs.Layout.{Fits, payload, record_octets, four}
use Rattle.decision_journal.specs.Journal.{Found, AreInTurn, nothing_found, can_follow, with_record, front, header, first_gate, is_fresh}
use Rattle.decision_journal.specs.Growing.{BodiesAreRead}
use Rattle.decision_journal.specs.Reading.{body_at}
use Rattle.nodes_world.specs.Limits.{area_limit}
use Rattle.nodes_world.specs.Journals.{records_with, records_behind, records_from, records_in}
use Rattle.nodes_world.specs.Laws.{RecordsAreRead}

-- a record has octets, and its payload is shorter
longer : (r : JournalRecord) → (0 < length (record_octets r)) × (length (payload r) < length (record_octets r))
longer r = (omega (arith, length-append (four (length (payload r))) (payload r)), omega (arith, length-append (four (length (payload r))) (payload r)))

each_longer : (rs : List JournalRecord) → length rs ≤ length (flat_map record_octets rs)
each_longer [] = omega arith
each_longer (r ∷ rs) =
    let e = each_longer rs in
    omega (arith, e, (longer r).0, length-append (record_octets r) (flat_map record_octets rs))

-- a record that may stand there is read, and then the next ones
with_next : (n place : ℕ) (found : Found) (r : JournalRecord) (rs : List JournalRecord) (behind : List ℕ)
    → IsTrue (can_follow found r) → place + length (record_octets r) < area_limit
    → records_from n (with_record found place r) (place + length (record_octets r)) behind ≡ Some rs
    → records_with (records_from n) found place r behind ≡ Some (r ∷ rs)
with_next n place found r rs behind follows within next =
    both _ None (can_follow found r) (nat_lt (place + length (record_octets r)) area_limit) follows (below _ _ within)
    ∙ ap (λ o. option_map (λ (others : List JournalRecord). r ∷ others) o) next
  where
    below : (a b : ℕ) → a < b → IsTrue (nat_lt a b)
    below a b less = grind (arith, nat_tests)

    both : {A : Type 0} (x y : A) (a b : Bool) → IsTrue a → IsTrue b → cond (a && b) x y ≡ x
    both x y true true t u = refl
    both x y true false t u = absurd cc
    both x y false b t u = absurd cc

closed_gate : (n gate : ℕ) (found : Found) (place : ℕ) (behind : List ℕ) → gate ≢ 1 → records_from (suc n) found place (gate ∷ behind) ≡ Some []
unfolding records_from
closed_gate n gate found place behind closed =
    let is : gate == 1 ≡ false = grind (arith, nat_tests) in
    ap (λ b. cond b (records_behind (records_from n) found place (body_at behind)) (Some [])) is

module _ (read : BodiesAreRead) where
  from_gate : (n : ℕ) (rs : List JournalRecord) (found : Found) (place gate : ℕ) (behind : List ℕ) → length rs < n → gate ≢ 1
      → AllByRecursion Fits rs → AreInTurn found place rs → place + length (flat_map record_octets rs) < area_limit
      → records_from n found place (flat_map record_octets rs ++ gate ∷ behind) ≡ Some rs
  unfolding records_from
  from_gate zero rs found place gate behind enough closed fit turn within = absurd (omega arith)
  from_gate (suc n) [] found place gate behind enough closed fit turn within = closed_gate n gate found place behind closed
  from_gate (suc n) (r ∷ rs) found place gate behind enough closed fit turn within =
      let long = length-append (record_octets r) (flat_map record_octets rs) in
      let rest = flat_map record_octets rs ++ gate ∷ behind in
      let small : length (payload r) < 2 ^ 32 = omega (arith, (longer r).1, long, within) in
      let next = from_gate n rs (with_record found place r) (place + length (record_octets r)) gate behind (omega arith) closed fit.1 turn.1 (omega (arith, long)) in
      ap (records_from (suc n) found place) (append_assoc (record_octets r) (flat_map record_octets rs) (gate ∷ behind))
      ∙ ap (records_behind (records_from n) found place) (read r rest fit.0 small)
      ∙ with_next n place found r rs rest turn.0 (omega (arith, long)) next

  records_of_front : (service : ℕ) (octets : List ℕ) (rs : List JournalRecord) (gate : ℕ) (behind : List ℕ)
      → octets ≡ header service ++ (flat_map record_octets rs ++ gate ∷ behind) → gate ≢ 1 → AllByRecursion Fits rs
      → AreInTurn nothing_found first_gate rs → length (front service rs) < area_limit → records_in service octets ≡ Some rs
  unfolding records_in
  records_of_front service octets rs gate behind is closed fit turn within =
      let rest = flat_map record_octets rs ++ gate ∷ behind in
      let all = header service ++ rest in
      let long : length all ≡ 16 + length rest = length-append (header service) rest in
      let many : length rest ≡ length (flat_map record_octets rs) + length (gate ∷ behind) = length-append (flat_map record_octets rs) (gate ∷ behind) in
      let old : is_fresh all ≡ false = stale (length all) (omega (arith, long, many)) in
      let enough : length rs < length all = omega (arith, long, many, each_longer rs) in
      ap (records_in service) is
      ∙ ap (λ b. cond b (Some []) (cond (bytes_eq (take first_gate all) (header service)) (records_from (length all) nothing_found first_gate (drop first_gate all)) None)) old
      ∙ ap (λ b. cond b (records_from (length all) nothing_found first_gate rest) None) (same_octets (header service))
      ∙ from_gate (length all) rs nothing_found first_gate gate behind enough closed fit turn (omega (arith, within, length-append (header service) (flat_map record_octets rs)))
    where
      stale : (n : ℕ) → 17 ≤ n → nat_lt n 17 || (n == 17 && false) ≡ false
      stale n enough = grind (arith, nat_tests)

      same_octets : (octets : List ℕ) → bytes_eq octets octets ≡ true
      same_octets [] = refl
      same_octets (octet ∷ octets) =
          let same : nat_eq octet octet ≡ true = grind (arith, nat_tests) in
          ap (λ b. b && bytes_eq octets octets) same ∙ same_octets octets

  pub records_are_read : RecordsAreRead
  records_are_read service octets rs stands =
      records_of_front service octets rs stands.gate stands.behind
      (stands.octets_are ∙ append_assoc (header service) (flat_map record_octets rs) (stands.gate ∷ stands.behind))
      stands.closed stands.fit stands.in_turn stands.within
