-- What a call to a node wants named done: a decision that stands, and that the node tells no more once it is.
use Rattle.std.proofs.Common.{◌≡◌, ◌≢◌, ℕ, zero, suc, ◌<◌, ◌==◌, ◌&&◌, Bool, true, false, not, cond, is_some, if◌then◌else◌, List, [], ◌∷◌, length, map, get_or, Contains, Any, Option, Some, None, refl, sym, ap, subst, ◌∙◌, arith}
use Rattle.std.specs.Prelude.{IsTrue}
use Rattle.std.specs.List.{list_any}
use Rattle.std.specs.Option.{option_and_then, option_map}
use Rattle.std.proofs.lemmas.Bool.Decides.{nat_tests}
use Rattle.std.proofs.lemmas.List.Folds.{list_any-from_Any}
use Rattle.ior_refs.specs.declared.key.ObjectKey.{ObjectKey}
use Rattle.ots_model.specs.declared.completion.CallNumber.{CallNumber}
use Rattle.ots_model.specs.declared.completion.Stood.{Stood}
use Rattle.ots_model.specs.declared.completion.Stood.TheVariants as answers
use Rattle.ots_model.specs.declared.tree.Heard.{Heard}
use Rattle.decision_journal.specs.Journal.{is_decision, is_decision_at}
use Rattle.decision_journal.specs.declared.journal.Standing.{Standing}
use Rattle.decision_journal.specs.declared.record.JournalRecord.{JournalRecord}
use Rattle.decision_journal.specs.declared.record.JournalRecord.TheVariants.{Life, Decision, Done, Prepared, CellsPrepared, CellsOutcome, CellsOnePhase}
use Rattle.decision_journal.specs.declared.record.Registration.{Registration}
use Rattle.recovery_coord.specs.Held.{are_done, is_complete, is_decided, is_held, without}
use Rattle.recovery_coord.specs.Hearing.{completed, held_after, record_after, records_after}
use Rattle.recovery_coord.specs.Laws.{CompletesOnce, registrations_of}
use Rattle.recovery_coord.specs.declared.held.Held.{Held}
use Rattle.recovery_coord.specs.declared.held.Party.{Party}
use Rattle.coordinator.specs.declared.event.Event.{Event}
use Rattle.coordinator.specs.declared.node.NodeFault.TheVariants as faults
use Rattle.coordinator.specs.declared.said.Said.{Said}
use Rattle.coordinator.specs.Family.{Family}
use Rattle.coordinator.specs.History.{has_room}
use Rattle.coordinator.specs.Node.{Node, family_in, family_of, is_of, life, only_of}
use Rattle.coordinator.specs.NodeCalls.{Applied, RetoldAnswer, answers_recovered, applied_by, applies, by_records, call_wants, done_wanted, family_for, hears_record, journaled, records_hear, records_want, records_with, refuses, replies, retold_answer, steps_to, wanted_by}
use Rattle.coordinator.specs.NodeRecords.{record_of, record_says}
use Rattle.coordinator.specs.Step.{Wanted, WritesDone, family_step, wanted}
use Rattle.family_laws.specs.HeldRecords.{HeldRecordsStood}
use Rattle.family_laws.specs.OwnDecisions.{HasDecision, KeepsDecisions, NodesKeepDecisions}
use Rattle.family_laws.specs.SoundNode.{IsDecisionOf}
use Rattle.nodes_lives.specs.Running.{AreStanding}

-- ---- the record that an answer completes

module _ (number : CallNumber) (heard : Heard) (r : Held) (not_before : is_complete r ≡ false) (later : is_complete (record_after number heard r) ≡ true) where
  own_number : r.place == number.generation ≡ true
  own_number = by (r.place == number.generation) refl
    where
      no : false ≡ true → ⊥
      no e = cc

      by : (b : Bool) → r.place == number.generation ≡ b → b ≡ true
      by true is = refl
      by false is = absurd (no (sym not_before ∙ sym (ap (λ (b : Bool). is_complete (if b then held_after number.serial heard r else r)) is) ∙ later))

  some_party : r.parties ≡ [] → ⊥
  some_party none =
      no (sym not_before ∙ ap (λ (ps : List Party). is_decided r.kind && are_done ps) none
      ∙ sym (ap (λ (ps : List Party). is_complete (held_after number.serial heard (record r { parties = ps }))) none)
      ∙ sym (ap (λ (b : Bool). is_complete (if b then held_after number.serial heard r else r)) own_number) ∙ later)
    where
      no : false ≡ true → ⊥
      no e = cc

none_mapped : {A B : Type 0} (g : A → B) (xs : List A) → map g xs ≡ [] → xs ≡ []
none_mapped g [] is = refl
none_mapped g (x ∷ xs) is = absurd cc

decision_named : (item : JournalRecord) → (registrations_of item ≡ [] → ⊥) → is_decision item ≡ true
decision_named (Life in_life) some = absurd (some refl)
decision_named (Decision in_life slot generation by asked regs) some = refl
decision_named (Done place) some = absurd (some refl)
decision_named (Prepared in_life slot generation recovery regs) some = refl
decision_named (CellsPrepared in_life number recovery puts) some = absurd (some refl)
decision_named (CellsOutcome place how) some = absurd (some refl)
decision_named (CellsOnePhase in_life number puts) some = absurd (some refl)

own_decision : (f : Family) (item : JournalRecord) → IsDecisionOf f item → is_decision item ≡ true
own_decision f (Life in_life) own = absurd own
own_decision f (Decision in_life slot generation by asked regs) own = refl
own_decision f (Done place) own = absurd own
own_decision f (Prepared in_life slot generation recovery regs) own = absurd own
own_decision f (CellsPrepared in_life number recovery puts) own = absurd own
own_decision f (CellsOutcome place how) own = absurd own
own_decision f (CellsOnePhase in_life number puts) own = absurd own

-- what stands at a place and is a decision is found there
decides_at : (xs : List Standing) (s : Standing) (place : ℕ) → Contains xs s → is_decision s.item ≡ true → s.place ≡ place → IsTrue (list_any (is_decision_at place) xs)
decides_at xs s place c decision same =
    list_any-from_Any (is_decision_at place) xs (c.0, s, c.1, c.2, both (s.place == place) (is_decision s.item) (equal s.place place same) decision)
  where
    equal : (a b : ℕ) → a ≡ b → (a == b) ≡ true
    equal a b is = grind (arith, nat_tests)

    both : (a b : Bool) → a ≡ true → b ≡ true → (a && b) ≡ true
    both true true one other = refl
    both true false one other = absurd cc
    both false b one other = absurd cc

-- what is left of records isn't at the place of the one that went
not_left : (place : ℕ) (xs : List Held) (y : Held) → Contains (without place xs) y → y.place ≢ place
not_left place [] y c = let l = c.1 in absurd (omega (arith, l))
not_left place (x ∷ xs) y c = go (not (x.place == place)) refl c (not_left place xs y)
  where
    other : (a b : ℕ) → not (a == b) ≡ true → a ≢ b
    other a b is = grind (arith, nat_tests)

    first : not (x.place == place) ≡ true → (i : ℕ) → i < suc (length (without place xs)) → get_or (x ∷ without place xs) i y ≡ y
        → (Contains (without place xs) y → y.place ≢ place) → y.place ≢ place
    first is zero l e rest = subst (λ (z : Held). z.place ≢ place) e (other x.place place is)
    first is (suc i) l e rest = rest (i, omega (arith, l), e)

    go : (t : Bool) → not (x.place == place) ≡ t → Contains (cond t (x ∷ without place xs) (without place xs)) y
        → (Contains (without place xs) y → y.place ≢ place) → y.place ≢ place
    go true is d rest = first is d.0 d.1 d.2 rest
    go false is d rest = rest d

-- ---- a call

-- what a call leaves of what was found
pub record HasFound (n : Node) (a : Applied) (asked : Option Wanted) (stood : Option Stood) : Type 0 where
  pub service : a.node.service ≡ n.service
  pub found : a.node.found ≡ journaled asked stood n.found

-- what it wants named done stands, and once it is, the node tells it no more
pub record IsDue (k : ObjectKey) (e : Event) (n : Node) (place : ℕ) : Type 0 where
  pub stands : IsTrue (list_any (is_decision_at place) n.found.standing)
  pub gone : (at : ℕ) (h : Held) → Contains (applies k e (Some (answers.Stands at)) n).node.recovered h → h.place ≢ place

some_is : {A : Type 0} {x y : A} → Some x ≡ Some y → x ≡ y
some_is e = cc

module _ (k : ObjectKey) (e : Event) (n : Node) where
  pub applied_is : (o : Option Family) → family_for k e n ≡ o → (stood : Option Stood) → applies k e stood n ≡ applied_by o k e stood n
  unfolding applies
  applied_is o is stood = ap (λ (x : Option Family). applied_by x k e stood n) is

  pub wants_is : (o : Option Family) → family_for k e n ≡ o → call_wants k e n ≡ wanted_by o e n
  unfolding call_wants
  wants_is o is = ap (λ (x : Option Family). wanted_by x e n) is

  -- the family is in the slot of the key
  in_slot : (f : Family) → family_for k e n ≡ Some f → family_in n.families k.slot ≡ Some f
  unfolding family_of
  in_slot f is = by_retold (is_some (retold_answer e.act)) is
    where
      only : (g : Family) (b : Bool) → cond b (Some g) None ≡ Some f → g ≡ f
      only g true same = some_is same
      only g false same = absurd cc

      in_place : (o : Option Family) → option_and_then (only_of k) o ≡ Some f → o ≡ Some f
      in_place None same = absurd cc
      in_place (Some g) same = ap (λ (x : Family). Some x) (only g (is_of k g) same)

      by_retold : (b : Bool) → cond b None (option_and_then (only_of k) (family_in n.families k.slot)) ≡ Some f → family_in n.families k.slot ≡ Some f
      by_retold true same = absurd cc
      by_retold false same = in_place (family_in n.families k.slot) same

  module _ (once : CompletesOnce) where
    -- the record that an answer completes is held
    turns : (number : CallNumber) (heard : Heard) (place : ℕ) → completed (life n) number heard n.recovered ≡ Some place
        → Any (λ (r : Held). (r.place ≡ place) × (is_complete r ≡ false) × (is_complete (record_after number heard r) ≡ true)) n.recovered
    turns number heard place is = once (life n) number heard n.recovered place is

    pub held_then : (number : CallNumber) (heard : Heard) (place : ℕ) → completed (life n) number heard n.recovered ≡ Some place → is_held number.generation n.recovered ≡ true
    held_then number heard place is =
        let t = turns number heard place is in
        list_any-from_Any (λ (x : Held). x.place == number.generation) n.recovered
        (t.0, t.1, t.2, t.3, own_number number heard t.1 t.4.1 t.4.2)

    -- ---- what a call leaves of what was found

    by_retold : (r : RetoldAnswer) (stood : Option Stood) → HasFound n (hears_record r.number r.heard stood n) (done_wanted r.number r.heard n) stood
    unfolding hears_record
    by_retold r stood = by (is_held r.number.generation n.recovered) refl (completed (life n) r.number r.heard n.recovered) refl
      where
        no : false ≡ true → ⊥
        no same = cc

        by : (b : Bool) → is_held r.number.generation n.recovered ≡ b → (o : Option ℕ) → completed (life n) r.number r.heard n.recovered ≡ o
            → HasFound n (cond b (records_hear r.number r.heard stood n) (refuses faults.ObjectNotExist n)) (done_wanted r.number r.heard n) stood
        by true held o is = record { service = refl; found = refl }
        by false held None is = record {
          service = refl;
          found = ap (λ (x : Option ℕ). journaled (option_map WritesDone x) stood n.found) (sym is);
        }
        by false held (Some place) is = absurd (no (sym held ∙ held_then r.number r.heard place is))

    by_said : (o : Option Said) (stood : Option Stood) → HasFound n (replies o n) None stood
    by_said None stood = record { service = refl; found = refl }
    by_said (Some said) stood = record { service = refl; found = refl }

    by_answer : (r : Option RetoldAnswer) (stood : Option Stood) → HasFound n (by_records r k e stood n) (records_want r n) stood
    by_answer (Some r) stood = by_retold r stood
    by_answer None stood = by_said (option_and_then (record_says k e.key e.act) (record_of k n)) stood

    by_step : (f : Family) (b : Bool) (stood : Option Stood)
        → HasFound n (cond b (steps_to n f e stood (family_step f e stood)) (refuses faults.NoResources n)) (cond b (wanted f e) None) stood
    by_step f true stood = record { service = refl; found = refl }
    by_step f false stood = record { service = refl; found = refl }

    by_case : (o : Option Family) (stood : Option Stood) → HasFound n (applied_by o k e stood n) (wanted_by o e n) stood
    unfolding answers_recovered
    by_case (Some f) stood = by_step f (has_room f.entries e) stood
    by_case None stood = by_answer (retold_answer e.act) stood

    pub has_found : (stood : Option Stood) → HasFound n (applies k e stood n) (call_wants k e n) stood
    has_found stood =
        let o : Option Family = family_for k e n in
        subst (λ (a : Applied). HasFound n a (call_wants k e n) stood) (sym (applied_is o refl stood))
        (subst (λ (w : Option Wanted). HasFound n (applied_by o k e stood n) w stood) (sym (wants_is o refl)) (by_case o stood))

    -- ---- what it wants named done

    module _ (keep : NodesKeepDecisions) (law : HeldRecordsStood) (edge : ℕ) (keeps : KeepsDecisions edge n) (stand : AreStanding n.found n.recovered) (place : ℕ)
        (wants : call_wants k e n ≡ Some (WritesDone place)) where
      of_family : (f : Family) → family_for k e n ≡ Some f → wanted f e ≡ Some (WritesDone place) → IsDue k e n place
      of_family f is asked =
          let own : HasDecision n f place = keep.closes edge k.slot place f e n keeps (in_slot f is) asked in
          record {
            stands = decides_at n.found.standing own.stood place own.there (own_decision f own.stood.item own.own) own.at;
            gone = λ at h c.
                let was = law.called k e (Some (answers.Stands at)) n h c in
                λ same. own.untold was.before was.there (was.same_place ∙ same);
          }

      by_room : (f : Family) (b : Bool) → family_for k e n ≡ Some f → cond b (wanted f e) None ≡ Some (WritesDone place) → IsDue k e n place
      by_room f true is asked = of_family f is asked
      by_room f false is asked = absurd cc

      recovered_is : (r : RetoldAnswer) → family_for k e n ≡ None → retold_answer e.act ≡ Some r → completed (life n) r.number r.heard n.recovered ≡ Some place → (at : ℕ)
          → (applies k e (Some (answers.Stands at)) n).node.recovered ≡ without place (records_after (life n) r.number r.heard n.recovered)
      unfolding answers_recovered hears_record
      recovered_is r none again is at =
          let stood : Option Stood = Some (answers.Stands at) in
          ap (λ (a : Applied). a.node.recovered) (applied_is None none stood ∙ ap (λ (x : Option RetoldAnswer). by_records x k e stood n) again
          ∙ ap (λ (b : Bool). cond b (records_hear r.number r.heard stood n) (refuses faults.ObjectNotExist n)) (held_then r.number r.heard place is))
          ∙ ap (λ (x : Option ℕ). records_with x stood (records_after (life n) r.number r.heard n.recovered)) is

      of_record : (r : RetoldAnswer) → family_for k e n ≡ None → retold_answer e.act ≡ Some r → completed (life n) r.number r.heard n.recovered ≡ Some place → IsDue k e n place
      of_record r none again is =
          let t = turns r.number r.heard place is in
          let stood = stand t.1 (t.0, t.2, t.3) in
          let decision = decision_named stood.stood.item (λ nobody. some_party r.number r.heard t.1 t.4.1 t.4.2
          (none_mapped (λ (p : Party). p.to) t.1.parties (stood.references ∙ ap (map (λ (g : Registration). g.reference)) nobody))) in
          record {
            stands = decides_at n.found.standing stood.stood place stood.there decision (stood.same_place ∙ t.4.0);
            gone = λ at h c. not_left place (records_after (life n) r.number r.heard n.recovered) h
                (subst (λ (xs : List Held). Contains xs h) (recovered_is r none again is at) c);
          }

      named : (o : Option ℕ) → option_map WritesDone o ≡ Some (WritesDone place) → o ≡ Some place
      named None same = absurd cc
      named (Some p) same = ap (λ (x : ℕ). Some x) (at_place same)
        where
          at_place : Some (WritesDone p) ≡ Some (WritesDone place) → p ≡ place
          at_place is = cc

      by_retold_answer : (r : Option RetoldAnswer) → family_for k e n ≡ None → retold_answer e.act ≡ r → records_want r n ≡ Some (WritesDone place) → IsDue k e n place
      by_retold_answer None none again asked = absurd cc
      by_retold_answer (Some r) none again asked = of_record r none again (named (completed (life n) r.number r.heard n.recovered) asked)

      by_family_for : (o : Option Family) → family_for k e n ≡ o → wanted_by o e n ≡ Some (WritesDone place) → IsDue k e n place
      by_family_for (Some f) is asked = by_room f (has_room f.entries e) is asked
      by_family_for None is asked = by_retold_answer (retold_answer e.act) is refl asked

      pub is_due : IsDue k e n place
      is_due = by_family_for (family_for k e n) refl (sym (wants_is (family_for k e n) refl) ∙ wants)
