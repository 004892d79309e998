-- Octets mean one thing.
use Rattle.std.proofs.Common.{◌≡◌, inl, inr, ℕ, ◌+◌, ◌<◌, ◌^◌, List, [], ◌∷◌, ◌++◌, length, get_or, drop, refl, sym, ap, subst, ◌∙◌, arith, append_assoc, length-append}
use Rattle.std.specs.List.{flat_map, AllByRecursion}
use Rattle.std.proofs.lemmas.List.{append_cancel_left, get_or_append_left}
use Rattle.std.proofs.lemmas.Bool.{cases_order}
use Rattle.std.proofs.lemmas.List.Concat.{flat_map-cons}
use Rattle.decision_journal.specs.declared.record.JournalRecord.{JournalRecord}
use Rattle.decision_journal.specs.Limits.{area_limit}
use Rattle.decision_journal.specs.Layout.{four, payload, record_octets, Fits}
use Rattle.decision_journal.specs.Journal.{AreInTurn, Found, HasNoStep, IsBroken, IsOtherHeader, Meaning, Means, Records, Broken, OtherHeader, StandsFor, first_gate, front, header, nothing_found, with_record, with_records}
use Rattle.decision_journal.proofs.OneList.{head_of, one_list, record_first, unfolded}
use Rattle.decision_journal.proofs.Scans.{length_front}

-- how long records are, one of them before the others
longer : (r : JournalRecord) (rs : List JournalRecord) → length (flat_map record_octets (r ∷ rs)) ≡ length (record_octets r) + length (flat_map record_octets rs)
longer r rs = ap length (flat_map-cons record_octets r rs) ∙ length-append (record_octets r) (flat_map record_octets rs)

payload_short : (r : JournalRecord) (place : ℕ) → place + length (record_octets r) < area_limit → length (payload r) < 2 ^ 32
payload_short r place lt = omega (arith, lt, length-append (four (length (payload r))) (payload r))

-- records after which none follows, and others from the same place on: a record would follow where the others go on
module _ (h : ℕ) (x y : List ℕ) where
  abbrev Stops : Found → ℕ → List JournalRecord → List ℕ → Type 0
  Stops found place rs behind = HasNoStep (place + length (flat_map record_octets rs)) behind (with_records found place rs)

  abbrev EndsBelow : ℕ → List JournalRecord → Type 0
  EndsBelow place rs = place + length (flat_map record_octets rs) < area_limit

  first_below : (place : ℕ) (r : JournalRecord) (rs : List JournalRecord) → EndsBelow place (r ∷ rs) → place + length (record_octets r) < area_limit
  first_below place r rs below = omega (arith, below, longer r rs)

  rest_below : (place : ℕ) (r : JournalRecord) (rs : List JournalRecord) → EndsBelow place (r ∷ rs) → EndsBelow (place + length (record_octets r)) rs
  rest_below place r rs below = omega (arith, below, longer r rs)

  rest_stops : (found : Found) (place : ℕ) (r : JournalRecord) (rs : List JournalRecord) (behind : List ℕ) → Stops found place (r ∷ rs) behind → Stops (with_record found place r) (place + length (record_octets r)) rs behind
  rest_stops found place r rs behind stops =
      let at : place + length (flat_map record_octets (r ∷ rs)) ≡ place + length (record_octets r) + length (flat_map record_octets rs) = omega (arith, longer r rs) in
      subst (λ (p : ℕ). HasNoStep p behind (with_records (with_record found place r) (place + length (record_octets r)) rs)) at stops

  -- no record follows at once
  no_first : (found : Found) (place : ℕ) (s : JournalRecord) (ss : List JournalRecord) (behind tail : List ℕ) (g : ℕ) (more : List ℕ) → tail ≡ g ∷ more → Stops found place [] behind → AllByRecursion Fits (s ∷ ss) → AreInTurn found place (s ∷ ss) → EndsBelow place (s ∷ ss)
      → 1 ∷ behind ≡ flat_map record_octets (s ∷ ss) ++ tail → ⊥
  no_first found place s ss behind tail g more tail_is stops fit turn below e =
      let at : place + 0 ≡ place = omega arith in
      let none : HasNoStep place behind found = subst (λ (p : ℕ). HasNoStep p behind found) at stops in
      let is : behind ≡ drop 1 (record_octets s) ++ (flat_map record_octets ss ++ tail) = ap (drop 1) (e ∙ unfolded s ss tail) in
      by_rest (flat_map record_octets ss) refl none is
    where
      by_rest : (o : List ℕ) → flat_map record_octets ss ≡ o → HasNoStep place behind found → behind ≡ drop 1 (record_octets s) ++ (flat_map record_octets ss ++ tail) → ⊥
      by_rest [] o_is none is =
          none s g more fit.0 turn.0 (is ∙ ap (λ (o : List ℕ). drop 1 (record_octets s) ++ (o ++ tail)) o_is ∙ ap (λ (t : List ℕ). drop 1 (record_octets s) ++ t) tail_is) (first_below place s ss below)
      by_rest (b ∷ o) o_is none is =
          none s b (o ++ tail) fit.0 turn.0 (is ∙ ap (λ (o : List ℕ). drop 1 (record_octets s) ++ (o ++ tail)) o_is) (first_below place s ss below)

  pub same_stop : (found : Found) (place : ℕ) (rs ss : List JournalRecord) → AllByRecursion Fits rs → AllByRecursion Fits ss → AreInTurn found place rs → AreInTurn found place ss → EndsBelow place rs → EndsBelow place ss
      → Stops found place rs x → (h ≡ 1 → Stops found place ss y) → flat_map record_octets rs ++ 1 ∷ x ≡ flat_map record_octets ss ++ h ∷ y → (rs ≡ ss) × (h ≡ 1)
  same_stop found place [] [] fr fs tr ts br bs stops other e = (refl, sym (head_of 1 h x y e))
  same_stop found place [] (s ∷ ss) fr fs tr ts br bs stops other e = absurd (no_first found place s ss x (h ∷ y) h y refl stops fs ts bs e)
  same_stop found place (r ∷ rs) [] fr fs tr ts br bs stops other e =
      let one : h ≡ 1 = head_of h 1 y _ (sym e ∙ unfolded r rs (1 ∷ x)) in
      absurd (no_first found place r rs y (1 ∷ x) 1 x refl (other one) fr tr br (ap (λ (g : ℕ). g ∷ y) (sym one) ∙ sym e))
  same_stop found place (r ∷ rs) (s ∷ ss) fr fs tr ts br bs stops other e =
      let first = record_first r s _ _ fr.0 fs.0 (payload_short r place (first_below place r rs br)) (payload_short s place (first_below place s ss bs)) (sym (unfolded r rs (1 ∷ x)) ∙ e ∙ unfolded s ss (h ∷ y)) in
      let same = sym first.0 in
      let turn = subst (λ (q : JournalRecord). AreInTurn (with_record found place q) (place + length (record_octets q)) ss) same ts.1 in
      let below = subst (λ (q : JournalRecord). EndsBelow (place + length (record_octets q)) ss) same (rest_below place s ss bs) in
      let rest = same_stop (with_record found place r) (place + length (record_octets r)) rs ss fr.1 fs.1 tr.1 turn (rest_below place r rs br) below
      (rest_stops found place r rs x stops)
      (λ one. subst (λ (q : JournalRecord). Stops (with_record found place q) (place + length (record_octets q)) ss y) same (rest_stops found place s ss y (other one)))
      first.1 in
      (ap (λ (q : JournalRecord). q ∷ rs) first.0 ∙ ap (λ (l : List JournalRecord). s ∷ l) rest.0, rest.1)

ends_below : (service : ℕ) (rs : List JournalRecord) → length (front service rs) < area_limit → first_gate + length (flat_map record_octets rs) < area_limit
ends_below service rs lt = omega (arith, lt, length_front service rs)

-- the header is the same
behind_header : (service : ℕ) (rs ss : List JournalRecord) (x y : List ℕ) → front service rs ++ x ≡ front service ss ++ y → flat_map record_octets rs ++ x ≡ flat_map record_octets ss ++ y
behind_header service rs ss x y e =
    append_cancel_left (header service) _ _ (sym (append_assoc (header service) (flat_map record_octets rs) x) ∙ e ∙ append_assoc (header service) (flat_map record_octets ss) y)

module _ (service : ℕ) (octets : List ℕ) where
  broken_are : (place : ℕ) (b : IsBroken service octets place) → octets ≡ front service b.filled.0 ++ 1 ∷ b.behind
  broken_are place b = b.octets_are ∙ ap (λ (l : List ℕ). l ++ 1 ∷ b.behind) b.filled.1.octets_are

  broken_at : (place : ℕ) (b : IsBroken service octets place) → place ≡ first_gate + length (flat_map record_octets b.filled.0)
  broken_at place b = omega (arith, b.place_is, ap length b.filled.1.octets_are, length_front service b.filled.0)

  broken_stops : (place : ℕ) (b : IsBroken service octets place) → HasNoStep (first_gate + length (flat_map record_octets b.filled.0)) b.behind (with_records nothing_found first_gate b.filled.0)
  broken_stops place b =
      subst (λ (f : Found). HasNoStep (first_gate + length (flat_map record_octets b.filled.0)) b.behind f) b.filled.1.found_is (subst (λ (p : ℕ). HasNoStep p b.behind b.found) (broken_at place b) b.none)

  broken_stands : (place : ℕ) (rs : List JournalRecord) → IsBroken service octets place → StandsFor service octets rs → ⊥
  broken_stands place rs b stands =
      let both = behind_header service b.filled.0 rs (1 ∷ b.behind) (stands.gate ∷ stands.behind) (sym (broken_are place b) ∙ stands.octets_are) in
      let same = same_stop stands.gate b.behind stands.behind nothing_found first_gate b.filled.0 rs b.filled.1.fit stands.fit b.filled.1.in_turn stands.in_turn
      (ends_below service b.filled.0 b.filled.1.within) (ends_below service rs stands.within) (broken_stops place b) (λ one. absurd (stands.closed one)) both in
      stands.closed same.1

  broken_once : (p q : ℕ) → IsBroken service octets p → IsBroken service octets q → p ≡ q
  broken_once p q a b =
      let both = behind_header service a.filled.0 b.filled.0 (1 ∷ a.behind) (1 ∷ b.behind) (sym (broken_are p a) ∙ broken_are q b) in
      let same = same_stop 1 a.behind b.behind nothing_found first_gate a.filled.0 b.filled.0 a.filled.1.fit b.filled.1.fit a.filled.1.in_turn b.filled.1.in_turn
      (ends_below service a.filled.0 a.filled.1.within) (ends_below service b.filled.0 b.filled.1.within) (broken_stops p a) (λ one. broken_stops q b) both in
      broken_at p a ∙ ap (λ (rs : List JournalRecord). first_gate + length (flat_map record_octets rs)) same.0 ∙ sym (broken_at q b)

  -- octets that begin with the header have no other
  no_other : (place : ℕ) (rs : List JournalRecord) (rest : List ℕ) → octets ≡ front service rs ++ rest → IsOtherHeader service octets place → ⊥
  no_other place rs rest is other =
      let begins : octets ≡ header service ++ (flat_map record_octets rs ++ rest) = is ∙ append_assoc (header service) (flat_map record_octets rs) rest in
      other.differs (ap (λ (o : List ℕ). get_or o place 0) begins ∙ get_or_append_left (header service) (flat_map record_octets rs ++ rest) 0 place (omega (arith, other.within)))

  other_once : (p q : ℕ) → IsOtherHeader service octets p → IsOtherHeader service octets q → p ≡ q
  other_once p q a b = elim (cases_order p q) [
    | inl same ↦ same
    | inr (inl less) ↦ absurd (a.differs (b.same p less))
    | inr (inr more) ↦ absurd (b.differs (a.same q more))
  ]

pub one_meaning : (service : ℕ) (octets : List ℕ) (m n : Meaning) → Means service octets m → Means service octets n → m ≡ n
one_meaning service octets (Records rs) (Records ss) a b = ap Records (one_list service octets rs ss a b)
one_meaning service octets (Records rs) (Broken q) a b = absurd (broken_stands service octets q rs b a)
one_meaning service octets (Records rs) (OtherHeader q) a b = absurd (no_other service octets q rs (a.gate ∷ a.behind) a.octets_are b)
one_meaning service octets (Broken p) (Records ss) a b = absurd (broken_stands service octets p ss a b)
one_meaning service octets (Broken p) (Broken q) a b = ap Broken (broken_once service octets p q a b)
one_meaning service octets (Broken p) (OtherHeader q) a b = absurd (no_other service octets q a.filled.0 (1 ∷ a.behind) (broken_are service octets p a) b)
one_meaning service octets (OtherHeader p) (Records ss) a b = absurd (no_other service octets p ss (b.gate ∷ b.behind) b.octets_are a)
one_meaning service octets (OtherHeader p) (Broken q) a b = absurd (no_other service octets p b.filled.0 (1 ∷ b.behind) (broken_are service octets q b) a)
one_meaning service octets (OtherHeader p) (OtherHeader q) a b = ap OtherHeader (other_once service octets p q a b)
