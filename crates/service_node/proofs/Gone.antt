-- Where a Done stands, the record that it names stands no more.
use Rattle.std.proofs.Common.{◌≡◌, ◌∙◌, inl, inr, ℕ, ◌+◌, ◌<◌, ◌≤◌, Bool, true, false, cond, not, ◌&&◌, List, [], ◌∷◌, length, get_or, Option, Some, None, refl, sym, ap, subst, arith}
use Rattle.std.specs.Prelude.{position, ◌==◌}
use Rattle.std.specs.List.{count_by, list_any, position_or_len, remove}
use Rattle.std.proofs.lemmas.Bool.{cases_lt}
use Rattle.std.proofs.lemmas.Bool.Decides.{nat_tests}
use Rattle.std.proofs.lemmas.List.Edits.{get_or-remove_above, get_or-remove_below, length-remove}
use Rattle.std.proofs.lemmas.List.Elements.{All-nil}
use Rattle.std.proofs.lemmas.List.Folds.{list_any_none}
use Rattle.std.proofs.lemmas.List.Quantifiers.{position-Some}
use Rattle.ots_model.specs.declared.completion.Stood.{Stood}
use Rattle.ots_model.specs.declared.completion.Stood.TheVariants as answers
use Rattle.ots_outside.specs.Disk.{DiskState}
use Rattle.decision_journal.specs.declared.journal.JournalFault.{JournalFault}
use Rattle.decision_journal.specs.declared.journal.JournalFault.TheVariants.{DiskFault, Full, BadHeader, BadRecord, LivesSpent, Memory}
use Rattle.decision_journal.specs.declared.journal.Standing.{Standing}
use Rattle.decision_journal.specs.declared.record.JournalRecord.{JournalRecord}
use Rattle.decision_journal.specs.declared.record.JournalRecord.TheVariants.{Life, Decision, Done, Prepared, CellsPrepared, CellsOutcome, CellsOnePhase}
use Rattle.decision_journal.specs.Calls.{IsAfterDone}
use Rattle.decision_journal.specs.Index.{AreBefore, AreInOrder, IsIndexed}
use Rattle.decision_journal.specs.Journal.{Found, IsFilled, first_gate, is_decision, is_decision_at, nothing_found, taken_away, with_record, with_records}
use Rattle.decision_journal.specs.Layout.{record_octets}
use Rattle.decision_journal.specs.State.{JournalState}
use Rattle.decision_journal.proofs.Below.{one_more, put_decided, put_other, take_indexed_at}
use Rattle.decision_journal.proofs.Places.{any_place}
use Rattle.decision_journal.proofs.Steps.{length_record}
use Rattle.recovery_coord.specs.Held.{stands_at}
use Rattle.coordinator.specs.Family.{Family}
use Rattle.coordinator.specs.Step.{Wanted, WritesDone, family_step, wanted}
use Rattle.coordinator.specs.declared.event.Event.{Event}
use Rattle.family_laws.specs.LawsOfJournal.{FamiliesCloseLast}
use Rattle.family_step.specs.Asking.{IsAsked, stood_by}
use Rattle.service_node.specs.Applying.{IsGoneWhere, is_done}
use Rattle.service_node.proofs.Reserved.{done_there}
use Rattle.service_node.proofs.Keeping.{not_true}

-- ---- what records leave is in order

indexed : (xs : List Standing) → AreInOrder xs → IsIndexed xs (count_by (λ s. is_decision s.item) xs)
indexed xs order = record { order = order; count = refl }

order_taken : (named : ℕ) (xs : List Standing) → AreInOrder xs → AreInOrder (taken_away (position (is_decision_at named) xs) xs)
order_taken named xs order = by_found (position (is_decision_at named) xs) refl
  where
    by_found : (o : Option ℕ) → position (is_decision_at named) xs ≡ o → AreInOrder (taken_away o xs)
    by_found None is = order
    by_found (Some i) is = (take_indexed_at named i _ xs is (indexed xs order)).order

order_more : (found : Found) (place : ℕ) (r : JournalRecord) → AreInOrder found.standing → AreBefore place found.standing → AreInOrder (with_record found place r).standing
order_more found place (Life life) order before = order
order_more found place (Decision life slot generation k asked regs) order before =
    (put_decided place _ (Decision life slot generation k asked regs) found.standing (indexed found.standing order) before refl).order
order_more found place (Done named) order before = order_taken named found.standing order
order_more found place (Prepared life slot generation recovery regs) order before =
    (put_decided place _ (Prepared life slot generation recovery regs) found.standing (indexed found.standing order) before refl).order
order_more found place (CellsPrepared life number recovery ps) order before =
    (put_other place _ (CellsPrepared life number recovery ps) found.standing (indexed found.standing order) before refl).order
order_more found place (CellsOutcome named end) order before =
    (put_other place _ (CellsOutcome named end) found.standing (indexed found.standing order) before refl).order
order_more found place (CellsOnePhase life number ps) order before =
    (put_other place _ (CellsOnePhase life number ps) found.standing (indexed found.standing order) before refl).order

order_all : (found : Found) (place : ℕ) (rs : List JournalRecord) → AreInOrder found.standing → AreBefore place found.standing → AreInOrder (with_records found place rs).standing
order_all found place [] order before = order
order_all found place (r ∷ rs) order before =
    let next : ℕ = place + length (record_octets r) in
    order_all (with_record found place r) next rs (order_more found place r order before) (one_more found place next r (omega (arith, length_record r)) before)

filled_order : (service : ℕ) (octets : List ℕ) (found : Found) → IsFilled service octets found → AreInOrder found.standing
filled_order service octets found filled =
    subst (λ (f : Found). AreInOrder f.standing) (sym filled.1.found_is)
    (order_all nothing_found first_gate filled.0 (λ i j d lt within. absurd (omega (arith, within))) (All-nil (λ (s : Standing). s.place < first_gate)))

-- ---- a Done takes away what stands at its place

module _ (place : ℕ) (xs : List Standing) (order : AreInOrder xs) where
  none_found : position (is_decision_at place) xs ≡ None → list_any (is_decision_at place) xs ≡ false
  none_found none = by_test (list_any (is_decision_at place) xs) (ap (λ (b : Bool). cond b (Some (position_or_len (is_decision_at place) xs)) None) (sym (any_place (is_decision_at place) xs)) ∙ none)
    where
      by_test : (b : Bool) → cond b (Some (position_or_len (is_decision_at place) xs)) None ≡ None → b ≡ false
      by_test true e = absurd cc
      by_test false e = refl

  at_place : (s : Standing) → is_decision_at place s ≡ true → s.place ≡ place
  at_place s passes = by_test (s.place == place) refl passes
    where
      by_test : (b : Bool) → (s.place == place) ≡ b → (b && is_decision s.item) ≡ true → s.place ≡ place
      by_test true e both = grind (arith, nat_tests, e)
      by_test false e both = absurd cc

  elsewhere : (s : Standing) → place < s.place → is_decision_at place s ≡ false
  elsewhere s above = by_test (s.place == place) refl
    where
      by_test : (b : Bool) → (s.place == place) ≡ b → (b && is_decision s.item) ≡ false
      by_test true e = let same : s.place ≡ place = grind (arith, nat_tests, e) in absurd (omega (arith, same, above))
      by_test false e = refl

  left_fails : (i : ℕ) → position (is_decision_at place) xs ≡ Some i → (k : ℕ) (d : Standing) → k < length (remove xs i) → is_decision_at place (get_or (remove xs i) k d) ≡ false
  left_fails i is k d within =
      let first = position-Some (is_decision_at place) xs i d is in
      elim (cases_lt k i) [
        | inl less ↦ ap (is_decision_at place) (get_or-remove_below xs i d k less first.0) ∙ first.2 k less
        | inr le ↦
            let more : k + 1 < length xs = omega (arith, within, length-remove xs i first.0) in
            let above = order i (k + 1) d (omega (arith, le)) more in
            ap (is_decision_at place) (get_or-remove_above xs i d k le first.0)
            ∙ elsewhere (get_or xs (k + 1) d) (omega (arith, above, at_place (get_or xs i d) first.1))
      ]

  none_left : list_any (is_decision_at place) (taken_away (position (is_decision_at place) xs) xs) ≡ false
  none_left = by_found (position (is_decision_at place) xs) refl
    where
      by_found : (o : Option ℕ) → position (is_decision_at place) xs ≡ o → list_any (is_decision_at place) (taken_away o xs) ≡ false
      by_found None is = none_found is
      by_found (Some i) is = list_any_none (is_decision_at place) (remove xs i) (left_fails i is)

module _ {D : Type 0} (told : D → Option DiskState) (before after : JournalState D) where
  pub after_gone : (place : ℕ) → IsAfterDone told before after place → stands_at place after.found.standing ≡ false
  after_gone place d = elim d [
    | inl has ↦
        let w = has.is_ready.current.within in
        ap (λ (f : Found). list_any (is_decision_at place) f.standing) has.appended.journal.found_is
        ∙ none_left place has.ready.found.standing (filled_order has.ready.service has.ready.octets has.ready.found w.filled)
    | inr none ↦ not_true (list_any (is_decision_at place) after.found.standing) none.none
  ]

  -- a refusal tells of no place
  refused_nowhere : (place : ℕ) (fault : JournalFault) (a b : ℕ) → answers.Stands place ≡ stood_by fault a b → ⊥
  refused_nowhere place DiskFault a b e = cc
  refused_nowhere place (Full u n) a b e = cc
  refused_nowhere place (BadHeader at) a b e = cc
  refused_nowhere place (BadRecord at) a b e = cc
  refused_nowhere place LivesSpent a b e = cc
  refused_nowhere place Memory a b e = cc

  asked_gone : (counts : D → ℕ) (named place : ℕ) (w : Option Wanted) (stood : Option Stood) → w ≡ Some (WritesDone named) → stood ≡ Some (answers.Stands place)
      → IsAsked told counts w before after stood → stands_at place after.found.standing ≡ false
  asked_gone counts named place w stood wants is asked = closes (subst (λ (x : Option Stood). IsAsked told counts (Some (WritesDone named)) before after x) is (subst (λ (x : Option Wanted). IsAsked told counts x before after stood) wants asked))
    where
      closes : IsAsked told counts (Some (WritesDone named)) before after (Some (answers.Stands place)) → stands_at place after.found.standing ≡ false
      closes a = elim a [
        | inl closed ↦ let same : named ≡ place = cc (closed.stood_is) in ap (λ (p : ℕ). stands_at p after.found.standing) (sym same) ∙ after_gone named closed.done
        | inr refused ↦ absurd (refused_nowhere place refused.fault (counts before.disk) (counts after.disk) refused.stood_is)
      ]

  pub told_gone : (counts : D → ℕ) → FamiliesCloseLast → (f : Family) (e : Event) (stood : Option Stood) → IsAsked told counts (wanted f e) before after stood
      → IsGoneWhere (family_step f e stood).effects stood after.found.standing
  told_gone counts laws f e stood asked any place is =
      let t = laws.told f e stood (done_there (family_step f e stood).effects any) in
      asked_gone counts t.0 place (wanted f e) stood t.2 is asked
