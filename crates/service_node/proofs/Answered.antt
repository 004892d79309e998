-- An answer to a word that was told again: what it makes of the node and its journal.
use Rattle.std.proofs.Common.{◌≡◌, ◌∙◌, inl, inr, ℕ, zero, suc, ◌+◌, ◌-◌, ◌<◌, Bool, true, false, cond, not, ◌&&◌, ◌||◌, List, [], ◌∷◌, length, get_or, map, Option, Some, None, IsTrue, refl, sym, ap, subst, arith}
use Rattle.std.specs.Prelude.{find, position, ◌==◌}
use Rattle.std.specs.List.{filter, list_any, remove}
use Rattle.std.specs.Option.{option_map}
use Rattle.std.proofs.lemmas.Bool.{cases_lt}
use Rattle.std.proofs.lemmas.Bool.Decides.{nat_tests}
use Rattle.std.proofs.lemmas.List.Edits.{get_or-remove_above, get_or-remove_below, length-remove}
use Rattle.std.proofs.lemmas.List.Quantifiers.{position-Some}
use Rattle.ots_model.specs.declared.completion.CallNumber.{CallNumber}
use Rattle.ots_model.specs.declared.tree.Heard.{Heard}
use Rattle.ots_outside.specs.Disk.{DiskState}
use Rattle.decision_journal.specs.declared.journal.JournalFault.{JournalFault}
use Rattle.decision_journal.specs.declared.journal.JournalFault.TheVariants.{DiskFault, Full, BadHeader, BadRecord, LivesSpent, Memory}
use Rattle.decision_journal.specs.declared.journal.Standing.{Standing}
use Rattle.decision_journal.specs.declared.record.JournalRecord.{JournalRecord}
use Rattle.decision_journal.specs.declared.record.JournalRecord.TheVariants.{Done}
use Rattle.decision_journal.specs.Calls.{IsAfterDone, IsReady, IsRefusedAppend}
use Rattle.decision_journal.specs.Journal.{Found, is_decision, is_decision_at, taken_away, with_record}
use Rattle.decision_journal.specs.State.{JournalState}
use Rattle.recovery_coord.specs.Held.{is_complete, is_held, without}
use Rattle.recovery_coord.specs.Hearing.{completed, completes, held_after, is_retold, record_after, records_after}
use Rattle.recovery_coord.specs.declared.held.Held.{Held}
use Rattle.service_node.specs.Journaling.{still_stands}
use Rattle.service_node.proofs.Asked.{same_found}
use Rattle.service_node.proofs.Stands.{AllStand, IsThere}

-- ---- records stand where the journal has them

same_number : (a b : ℕ) → (a == b) ≡ true → a ≡ b
same_number a b e = grind (arith, nat_tests, e)

both : (a b : Bool) → (a && b) ≡ true → a ≡ true
both true b e = refl
both false b e = absurd cc

any_there : (ss : List Standing) (place : ℕ) → list_any (is_decision_at place) ss ≡ true → IsThere ss place
any_there [] place e = absurd cc
any_there (s ∷ ss) place e = by_test (any_there ss place) (is_decision_at place s) refl e
  where
    by_test : (list_any (is_decision_at place) ss ≡ true → IsThere ss place) → (b : Bool) → is_decision_at place s ≡ b → (b || list_any (is_decision_at place) ss) ≡ true → IsThere (s ∷ ss) place
    by_test rest true here e = (zero, s, omega arith, refl, same_number s.place place (both (s.place == place) (is_decision s.item) here))
    by_test rest false here e = let any = rest e in (suc any.0, any.1, omega (arith, any.2), any.3, any.4)

pub kept_stand : (found : Found) (rs : List Held) → AllStand found.standing (filter (still_stands found) rs)
kept_stand found [] = tt
kept_stand found (r ∷ rs) = by_test (kept_stand found rs) (still_stands found r) refl
  where
    by_test : AllStand found.standing (filter (still_stands found) rs) → (b : Bool) → still_stands found r ≡ b → AllStand found.standing (cond b (r ∷ filter (still_stands found) rs) (filter (still_stands found) rs))
    by_test rest true here = (any_there found.standing r.place here, rest)
    by_test rest false here = rest

module _ (ss : List Standing) (place : ℕ) where
  removed_there : (i q : ℕ) → position (is_decision_at place) ss ≡ Some i → (q ≡ place → ⊥) → IsThere ss q → IsThere (remove ss i) q
  removed_there i q is differs (k, x, within, here, same) = elim (cases_lt k i) [
    | inl less ↦ (k, x, omega (arith, length-remove ss i first.0, less, first.0), get_or-remove_below ss i x k less first.0 ∙ here, same)
    | inr le ↦ let more : i < k = omega (arith, le, other) in
        let next : (k - 1) + 1 ≡ k = omega (arith, more) in
        (k - 1, x, omega (arith, length-remove ss i first.0, more, within), get_or-remove_above ss i x (k - 1) (omega (arith, more)) first.0 ∙ ap (λ (j : ℕ). get_or ss j x) next ∙ here, same)
  ]
    where
      first : (i < length ss) × (is_decision_at place (get_or ss i x) ≡ true) × ((j : ℕ) → j < i → is_decision_at place (get_or ss j x) ≡ false)
      first = position-Some (is_decision_at place) ss i x is

      other : k ≡ i → ⊥
      other e =
          let at : (get_or ss i x).place ≡ place = same_number (get_or ss i x).place place (both ((get_or ss i x).place == place) (is_decision (get_or ss i x).item) first.1) in
          let x_at : get_or ss i x ≡ x = ap (λ (j : ℕ). get_or ss j x) (sym e) ∙ here in
          differs (sym same ∙ ap (λ (s : Standing). s.place) (sym x_at) ∙ at)

  pub away_there : (q : ℕ) → (q ≡ place → ⊥) → IsThere ss q → IsThere (taken_away (position (is_decision_at place) ss) ss) q
  away_there q differs there = by_found (position (is_decision_at place) ss) refl
    where
      by_found : (o : Option ℕ) → position (is_decision_at place) ss ≡ o → IsThere (taken_away o ss) q
      by_found None is = there
      by_found (Some i) is = removed_there i q is differs there

  pub away_stand : (rs : List Held) → AllStand ss rs → AllStand (taken_away (position (is_decision_at place) ss) ss) (without place rs)
  away_stand [] all = tt
  away_stand (r ∷ rs) all = by_test (away_stand rs all.1) (r.place == place) refl
    where
      differs : (r.place == place) ≡ false → r.place ≡ place → ⊥
      differs e same = grind (arith, nat_tests, e, same)

      by_test : AllStand (taken_away (position (is_decision_at place) ss) ss) (without place rs) → (b : Bool) → (r.place == place) ≡ b
          → AllStand (taken_away (position (is_decision_at place) ss) ss) (cond (not b) (r ∷ without place rs) (without place rs))
      by_test rest true e = rest
      by_test rest false e = (away_there r.place (differs e) all.0, rest)

-- an answer moves no record
pub heard_stand : (ss : List Standing) (life : ℕ) (n : CallNumber) (h : Heard) (rs : List Held) → AllStand ss rs → AllStand ss (records_after life n h rs)
heard_stand ss life n h rs all = by_number (is_retold life n)
  where
    same_place : (r : Held) (b : Bool) → (cond b (held_after n.serial h r) r).place ≡ r.place
    same_place r true = refl
    same_place r false = refl

    each : (xs : List Held) → AllStand ss xs → AllStand ss (map (record_after n h) xs)
    each [] stand = tt
    each (r ∷ xs) stand = (subst (IsThere ss) (sym (same_place r (r.place == n.generation))) stand.0, each xs stand.1)

    by_number : (b : Bool) → AllStand ss (cond b (map (record_after n h) rs) rs)
    by_number true = each rs all
    by_number false = all

-- ---- what the journal has found, where no call had failed

none_at : (ss : List Standing) (p : Standing → Bool) → IsTrue (not (list_any p ss)) → position p ss ≡ None
none_at ss p none = by_found (position p ss) refl
  where
    never : (xs : List Standing) (i : ℕ) (d : Standing) → i < length xs → p (get_or xs i d) ≡ true → list_any p xs ≡ true
    never [] i d within passes = absurd (omega (arith, within))
    never (x ∷ xs) zero d within passes = ap (λ (b : Bool). b || list_any p xs) passes
    never (x ∷ xs) (suc i) d within passes = or_right (p x) (list_any p xs) (never xs i d (omega (arith, within)) passes)
      where
        or_right : (a b : Bool) → b ≡ true → (a || b) ≡ true
        or_right true b e = refl
        or_right false b e = e

    at : (i : ℕ) (xs : List Standing) → xs ≡ ss → position p ss ≡ Some i → ⊥
    at i [] e is = absurd (subst (λ (ys : List Standing). position p ys ≡ Some i → ⊥) e (λ f. cc) is)
    at i (x ∷ xs) e is =
        let first = position-Some p ss i x is in
        let yes : list_any p ss ≡ true = never ss i x first.0 first.1 in
        cc

    by_found : (o : Option ℕ) → position p ss ≡ o → o ≡ None
    by_found None is = refl
    by_found (Some i) is = absurd (at i ss refl is)

module _ {D : Type 0} (told : D → Option DiskState) (before after : JournalState D) (sure : before.doubted ≡ None) where
  pub ready_found : (ready : JournalState D) → IsReady told before ready → ready.found ≡ before.found
  ready_found ready is = same_found before.octets ready.octets before.found ready.found before.doubted is.journal.known sure

  none_gone : (place at : ℕ) → IsTrue (not (list_any (is_decision_at place) before.found.standing)) → with_record before.found at (Done place) ≡ before.found
  none_gone place at none = ap (λ (o : Option ℕ). record before.found { standing = taken_away o before.found.standing }) (none_at before.found.standing (is_decision_at place) none)

  pub refused_found : (r : JournalRecord) (fault : JournalFault) → IsRefusedAppend told before r after fault → after.found ≡ before.found
  refused_found r DiskFault left = elim left [ inl un ↦ un.journal.found | inr d ↦ d.doubt.journal.found ∙ ready_found d.ready d.is_ready ]
  refused_found r (Full u n) left = ready_found after left.0
  refused_found r (BadHeader at) left = left.journal.found
  refused_found r (BadRecord at) left = left.journal.found
  refused_found r LivesSpent left = absurd left
  refused_found r Memory left = elim left [ inl un ↦ un.journal.found | inr d ↦ d.doubt.journal.found ∙ ready_found d.ready d.is_ready ]

  pub after_found : (place at : ℕ) → IsAfterDone told before after place → after.found ≡ with_record before.found at (Done place)
  after_found place at d = elim d [
    | inl has ↦ has.appended.journal.found_is ∙ ap (λ (f : Found). with_record f at (Done place)) (ready_found has.ready has.is_ready)
    | inr none ↦ let same = ready_found after none.ready in
        same ∙ sym (none_gone place at (subst (λ (f : Found). IsTrue (not (list_any (is_decision_at place) f.standing))) same none.none))
  ]

-- ---- an answer that no record waits for

not_both : (c : Bool) → (not c && c) ≡ false
not_both true = refl
not_both false = refl

pub none_completed : (life : ℕ) (n : CallNumber) (h : Heard) (rs : List Held) → is_held n.generation rs ≡ false → completed life n h rs ≡ None
none_completed life n h rs none = by_number (is_retold life n)
  where
    left_out : (a b : Bool) → (a || b) ≡ false → (a ≡ false) × (b ≡ false)
    left_out false b e = (refl, e)
    left_out true b e = absurd cc

    elsewhere : (r : Held) → (r.place == n.generation) ≡ false → completes n h r ≡ false
    elsewhere r e = ap (λ (b : Bool). not (is_complete r) && is_complete (cond b (held_after n.serial h r) r)) e ∙ not_both (is_complete r)

    each : (xs : List Held) → is_held n.generation xs ≡ false → find (completes n h) xs ≡ None
    each [] e = refl
    each (r ∷ xs) e =
        let parts = left_out (r.place == n.generation) (is_held n.generation xs) e in
        ap (λ (b : Bool). cond b (Some r) (find (completes n h) xs)) (elsewhere r parts.0) ∙ each xs parts.1

    by_number : (b : Bool) → cond b (option_map (λ (r : Held). r.place) (find (completes n h) rs)) None ≡ None
    by_number false = refl
    by_number true = ap (option_map (λ (r : Held). r.place)) (each rs none)
