-- Where a Done names the decision of a family, each object that this decision names has answered commit.
use Rattle.std.proofs.Common.{◌≡◌, ◌≢◌, ◌⊎◌, inl, inr, ℕ, zero, suc, ◌+◌, ◌==◌, ◌&&◌, ◌||◌, not, Bool, true, false, is_some, if◌then◌else◌, IsTrue, List, [], ◌∷◌, ◌++◌, append-nil, length, map, position, Any, Contains, Option, Some, None, refl, sym, ap, subst, ◌∙◌, arith}
use Rattle.std.specs.List.{list_any}
use Rattle.std.proofs.lemmas.Bool.Decides.{nat_tests}
use Rattle.std.proofs.lemmas.List.Elements.{Contains-append_right}
use Rattle.std.proofs.lemmas.List.Folds.{Any-from_list_any, list_any-append, list_any-from_Any}
use Rattle.std.proofs.lemmas.Slice.Eq.{bytes_eq-Decides}
use Rattle.ior_refs.specs.declared.key.ObjectKey.{ObjectKey}
use Rattle.ots_model.specs.Safe.{Stands, TakesPart}
use Rattle.ots_model.specs.declared.completion.CallNumber.{CallNumber}
use Rattle.ots_model.specs.declared.completion.Vote.TheVariants.{VoteCommit}
use Rattle.ots_model.specs.declared.line.Line.TheVariants as lines
use Rattle.ots_model.specs.declared.service.RetryKey.{RetryKey}
use Rattle.ots_model.specs.declared.tree.Heard.{Heard}
use Rattle.ots_model.specs.declared.tree.Outward.{Outward}
use Rattle.two_phase.specs.Stages as stages
use Rattle.decision_journal.specs.Growing.{JournalsGrow}
use Rattle.decision_journal.specs.Journal.{Found, first_gate, found_in, front, is_decision_at, taken_away, with_record}
use Rattle.decision_journal.specs.declared.journal.Standing.{Standing}
use Rattle.decision_journal.specs.declared.record.JournalRecord.{JournalRecord}
use Rattle.decision_journal.specs.declared.record.JournalRecord.TheVariants.{Life, Decision, Done, Prepared, CellsPrepared, CellsOutcome, CellsOnePhase}
use Rattle.decision_journal.specs.declared.record.Registration.{Registration as Named}
use Rattle.recovery_coord.specs.Held.{are_done, is_complete, is_decided, is_nothing}
use Rattle.recovery_coord.specs.Hearing.{completed, due_after, held_after, party_after, record_after}
use Rattle.recovery_coord.specs.Laws.{CompletesOnce, registrations_of}
use Rattle.recovery_coord.specs.Limits.{retold_slot}
use Rattle.recovery_coord.specs.declared.held.Held.{Held}
use Rattle.recovery_coord.specs.declared.held.Party.{Party}
use Rattle.coordinator.specs.Family.{Family, waiting_for}
use Rattle.coordinator.specs.Hearing.{decision_record, record_place, wants_done}
use Rattle.coordinator.specs.Laws.{FamiliesStepRightly}
use Rattle.coordinator.specs.Node.{Node, family_in, family_of, life}
use Rattle.coordinator.specs.NodeCalls.{call_wants}
use Rattle.coordinator.specs.Step.{Wanted, Appends, Rereads, WritesDone, hears, wanted}
use Rattle.coordinator.specs.declared.said.Said.{Said}
use Rattle.family_laws.specs.LawsOfJournal.{FamiliesCloseLast}
use Rattle.family_laws.specs.LawsOfTelling.{FamiliesHearOutcomesAnswered, FamiliesNumberWords}
use Rattle.family_laws.specs.OwnDecisions.{HasDecision, NodesKeepDecisions}
use Rattle.family_laws.specs.SoundNode.{IsDecisionOf}
use Rattle.nodes_world.specs.CompletionLaws.{CompletionLaws}
use Rattle.nodes_world.specs.declared.message.Content.{Content}
use Rattle.nodes_world.specs.declared.message.Content.TheVariants as contents
use Rattle.nodes_world.specs.Agreement.{IsWord, RestsOnVotes, is_decision_of, is_done_in, is_registration_of, names_object, recorded_key, records_at}
use Rattle.nodes_world.specs.AgreementInside.{IsHeldAs, Known, edge_at, placed}
use Rattle.nodes_world.specs.Deliveries.{answer_event, heard_in}
use Rattle.nodes_world.specs.Journals.{records_in}
use Rattle.nodes_world.specs.Laws.{AreWanted, IsWanted}
use Rattle.nodes_world.specs.Objects.{family_key, service_at}
use Rattle.nodes_world.specs.Told.{Told, known}
use Rattle.nodes_world.specs.World.{World, NamedKey, node_at, referred}
use Rattle.nodes_world.proofs.AnsweredCommits.{HasAnsweredCommit, answered_on}
use Rattle.nodes_world.proofs.AskedFor.{Asks, asks_of, nothing, of_family, of_record, wanted_heard}
use Rattle.nodes_world.proofs.CallKnown.{key_slot}
use Rattle.nodes_world.proofs.ClosesStored.{closes_answered}
use Rattle.nodes_world.proofs.DoneKnown.{stands_still}
use Rattle.nodes_world.proofs.DuesHeard.{AreDueOr, IsDueOr, record_due}
use Rattle.nodes_world.proofs.HearingsMay.{appended}
use Rattle.nodes_world.proofs.HeldAnswered.{HeldAnswered, RetoldAnswered, party_answered}
use Rattle.nodes_world.proofs.HeldLines.{found_is, placed_once}
use Rattle.nodes_world.proofs.KnownFamilies.{all_at}
use Rattle.nodes_world.proofs.LoadedNodes.{standing_placed, standing_record}
use Rattle.nodes_world.proofs.MessagesGo.{HasContent}
use Rattle.nodes_world.proofs.NamedParties.{RecordsNameParties}
use Rattle.nodes_world.proofs.RecordsGo.{RecordsCome, RecordsGo, as_before, on_new, with_asked, with_life}
use Rattle.nodes_world.proofs.ToldReplied.{ToldReplied}

abbrev pub names_of : ObjectKey → List ℕ → JournalRecord → Bool
names_of key to item = is_decision_of key item && names_object to item

abbrev pub DonesAnswered : World → Type 0
DonesAnswered w = (place : ℕ) (rs : List JournalRecord) (key : ObjectKey) (to : List ℕ) → records_at w place ≡ Some rs → IsTrue (list_any (names_of key to) rs)
    → IsTrue (is_done_in rs key) → HasAnsweredCommit w to

inner : {A : Type 0} {x y : A} → Some x ≡ Some y → x ≡ y
inner e = cc

both : (a b : Bool) → (a && b) ≡ true → (a ≡ true) × (b ≡ true)
both true b is = (refl, is)
both false b is = absurd cc

either_true : (a b : Bool) → (a || b) ≡ true → (a ≡ true) ⊎ (b ≡ true)
either_true true b is = inl refl
either_true false b is = inr is

none_of : (a b : Bool) → not (a || b) ≡ true → (not a ≡ true) × (b ≡ false)
none_of true b is = absurd cc
none_of false true is = absurd cc
none_of false false is = (refl, refl)

no_true : false ≡ true → ⊥
no_true e = cc

-- ---- one more record

-- where the last one isn't such a decision
named_before : (key : ObjectKey) (to : List ℕ) (was : List JournalRecord) (item : JournalRecord) → is_decision_of key item ≡ false → list_any (names_of key to) (was ++ item ∷ []) ≡ true
    → list_any (names_of key to) was ≡ true
named_before key to was item other any =
    elim (either_true (list_any (names_of key to) was) (names_of key to item || false) (sym (list_any-append (names_of key to) was (item ∷ [])) ∙ any)) [
      | inl before ↦ before
      | inr last ↦ absurd (by (is_decision_of key item) other last)
    ]
  where
    by : (b : Bool) → b ≡ false → ((b && names_object to item) || false) ≡ true → ⊥
    by true is so = absurd cc
    by false is so = no_true so

-- a decision that is appended stands
decided_after : (grow : JournalsGrow) (service : ℕ) (was : List JournalRecord) (key : ObjectKey) (item : JournalRecord)
    → ((found : Found) (place : ℕ) → (with_record found place item).standing ≡ found.standing ++ record { place = place; item = item } ∷ [])
    → is_done_in (was ++ item ∷ []) key ≡ true → (is_done_in was key ≡ true) × (is_decision_of key item ≡ false)
decided_after grow service was key item stands done =
    let so = none_of (list_any (λ (s : Standing). is_decision_of key s.item) (found_in was).standing) (is_decision_of key item || false)
    (sym (ap not
    (ap (λ (f : Found). list_any (λ (s : Standing). is_decision_of key s.item) f.standing) (grow.added service was item)
    ∙ ap (list_any (λ (s : Standing). is_decision_of key s.item)) (stands (found_in was) (length (front service was)))
    ∙ list_any-append (λ (s : Standing). is_decision_of key s.item) (found_in was).standing (_ ∷ []))) ∙ done) in
    (so.0, by (is_decision_of key item) so.1)
  where
    by : (b : Bool) → (b || false) ≡ false → b ≡ false
    by true is = absurd cc
    by false is = refl

-- a life that begins leaves what stands
life_after : (grow : JournalsGrow) (service : ℕ) (was : List JournalRecord) (key : ObjectKey) (in_life : ℕ) → is_done_in (was ++ Life in_life ∷ []) key ≡ is_done_in was key
life_after grow service was key in_life =
    ap (λ (f : Found). not (list_any (λ (s : Standing). is_decision_of key s.item) f.standing)) (grow.added service was (Life in_life))

-- the decision that a Done takes away
record IsClosedNow (was : List JournalRecord) (key : ObjectKey) (done : ℕ) : Type 0 where
  stood : Standing
  there : Contains (found_in was).standing stood
  at : stood.place ≡ done
  own : is_decision_of key stood.item ≡ true

closed_now : (grow : JournalsGrow) (service : ℕ) (was : List JournalRecord) (key : ObjectKey) (done : ℕ) → is_done_in (was ++ Done done ∷ []) key ≡ true
    → (is_done_in was key ≡ true) ⊎ IsClosedNow was key done
closed_now grow service was key done closed = by (list_any is_so standing) refl
  where
    is_so : Standing → Bool
    is_so s = is_decision_of key s.item

    standing : List Standing
    standing = (found_in was).standing

    later : not (list_any is_so (taken_away (position (is_decision_at done) standing) standing)) ≡ true
    later = sym (ap (λ (f : Found). not (list_any is_so f.standing)) (grow.added service was (Done done))) ∙ closed

    same_or_not : (a b : ℕ) → (a ≡ b) ⊎ (a ≢ b)
    same_or_not a b = grind arith

    gone : (s : Standing) → Contains standing s → is_so s ≡ true → s.place ≢ done → ⊥
    gone s among own other =
        let still = stands_still done standing s among other in
        no_true (sym (ap not (list_any-from_Any is_so (taken_away (position (is_decision_at done) standing) standing) (still.0, s, still.1, still.2, own))) ∙ later)

    at_done : (s : Standing) → Contains standing s → is_so s ≡ true → IsClosedNow was key done
    at_done s among own = elim (same_or_not s.place done) [
      | inl same ↦ record { stood = s; there = among; at = same; own = own }
      | inr other ↦ absurd (gone s among own other)
    ]

    by : (t : Bool) → list_any is_so standing ≡ t → (not t ≡ true) ⊎ IsClosedNow was key done
    by true is = let one = Any-from_list_any is_so standing is in inr (at_done one.1 (one.0, one.2, one.3) one.4)
    by false is = inl refl

-- ---- whose decision a record is

three : (a b c p q r : ℕ) → (a == p && b == q && c == r) ≡ true → (a ≡ p) × (b ≡ q) × (c ≡ r)
three a b c p q r is = grind (arith, nat_tests)

-- the record of a family is that of one key
own_key : (key : ObjectKey) (f : Family) (item : JournalRecord) → is_decision_of key item ≡ true → IsDecisionOf f item
    → (f.key.life ≡ key.life) × (f.key.slot ≡ key.slot) × (f.key.generation ≡ key.generation)
own_key key f (Decision in_life slot generation retry asked regs) is own =
    let parts = three in_life slot generation key.life key.slot key.generation is in
    (own.0 ∙ parts.0, own.1 ∙ parts.1, own.2 ∙ parts.2)
own_key key f (Life in_life) is own = absurd own
own_key key f (Done named) is own = absurd own
own_key key f (Prepared in_life slot generation recovery regs) is own = absurd own
own_key key f (CellsPrepared in_life number recovery puts) is own = absurd own
own_key key f (CellsOutcome named how) is own = absurd own
own_key key f (CellsOnePhase in_life number puts) is own = absurd own

same_decision : (a b : ObjectKey) → a.life ≡ b.life → a.slot ≡ b.slot → a.generation ≡ b.generation → (item : JournalRecord) → is_decision_of b item ≡ is_decision_of a item
same_decision a b one two same (Decision in_life slot generation retry asked regs) =
    ap (λ (x : ℕ). in_life == x && slot == b.slot && generation == b.generation) (sym one)
    ∙ ap (λ (x : ℕ). in_life == a.life && slot == x && generation == b.generation) (sym two)
    ∙ ap (λ (x : ℕ). in_life == a.life && slot == a.slot && generation == x) (sym same)
same_decision a b one two same (Life in_life) = refl
same_decision a b one two same (Done named) = refl
same_decision a b one two same (Prepared in_life slot generation recovery regs) = refl
same_decision a b one two same (CellsPrepared in_life number recovery puts) = refl
same_decision a b one two same (CellsOutcome named how) = refl
same_decision a b one two same (CellsOnePhase in_life number puts) = refl

-- it is a decision with the life, the slot and the generation of the key
record IsDecisionWith (key : ObjectKey) (item : JournalRecord) : Type 0 where
  retry : Option RetryKey
  asked : Bool
  is : item ≡ Decision key.life key.slot key.generation retry asked (registrations_of item)

decision_with : (key : ObjectKey) (item : JournalRecord) → is_decision_of key item ≡ true → IsDecisionWith key item
decision_with key (Decision in_life slot generation retry asked regs) is =
    let parts = three in_life slot generation key.life key.slot key.generation is in
    record {
      retry = retry;
      asked = asked;
      is = ap (λ (x : ℕ). Decision x slot generation retry asked regs) parts.0 ∙ ap (λ (x : ℕ). Decision key.life x generation retry asked regs) parts.1
          ∙ ap (λ (x : ℕ). Decision key.life key.slot x retry asked regs) parts.2;
    }
decision_with key (Life in_life) is = absurd cc
decision_with key (Done named) is = absurd cc
decision_with key (Prepared in_life slot generation recovery regs) is = absurd cc
decision_with key (CellsPrepared in_life number recovery puts) is = absurd cc
decision_with key (CellsOutcome named how) is = absurd cc
decision_with key (CellsOnePhase in_life number puts) is = absurd cc

is_there : {A : Type 0} (o : Option A) → IsTrue (is_some o) → (x : A) × (o ≡ Some x)
is_there (Some x) is = (x, refl)
is_there None is = absurd cc

-- ---- what a record names once all have answered

-- the party of a registration
party_of : (ps : List Party) (regs : List Named) (r : Named) → map (λ (x : Party). x.to) ps ≡ map (λ (x : Named). x.reference) regs → Contains regs r
    → (p : Party) × Contains ps p × (p.to ≡ r.reference)
party_of ps [] r references (i, less, is) = absurd (omega (arith, less))
party_of [] (x ∷ regs) r references among = absurd cc
party_of (p ∷ ps) (x ∷ regs) r references (zero, less, is) = (p, (0, omega arith, refl), head_of references ∙ ap (λ (y : Named). y.reference) is)
  where
    head_of : {A : Type 0} {a b : A} {xs ys : List A} → a ∷ xs ≡ b ∷ ys → a ≡ b
    head_of e = cc
party_of (p ∷ ps) (x ∷ regs) r references (suc i, less, is) =
    let at = party_of ps regs r (tail_of references) (i, omega (arith, less), is) in
    (at.0, Contains-append_right (p ∷ []) ps at.0 at.1, at.2)
  where
    tail_of : {A : Type 0} {a b : A} {xs ys : List A} → a ∷ xs ≡ b ∷ ys → xs ≡ ys
    tail_of e = cc

same_references : (serial : ℕ) (h : Heard) (ps : List Party) → map (λ (x : Party). x.to) (map (party_after serial h) ps) ≡ map (λ (x : Party). x.to) ps
same_references serial h [] = refl
same_references serial h (p ∷ ps) = by (p.index == serial) (same_references serial h ps)
  where
    by : (t : Bool) → map (λ (x : Party). x.to) (map (party_after serial h) ps) ≡ map (λ (x : Party). x.to) ps
        → ((if t then record p { due = due_after p.due h } else p).to ∷ map (λ (x : Party). x.to) (map (party_after serial h) ps)) ≡ (p.to ∷ map (λ (x : Party). x.to) ps)
    by true rest = ap (λ (tos : List (List ℕ)). p.to ∷ tos) rest
    by false rest = ap (λ (tos : List (List ℕ)). p.to ∷ tos) rest

after_references : (n : CallNumber) (h : Heard) (r : Held) → map (λ (x : Party). x.to) (record_after n h r).parties ≡ map (λ (x : Party). x.to) r.parties
after_references n h r = by (r.place == n.generation)
  where
    by : (t : Bool) → map (λ (x : Party). x.to) (if t then held_after n.serial h r else r).parties ≡ map (λ (x : Party). x.to) r.parties
    by true = same_references n.serial h r.parties
    by false = refl

all_done : (ps : List Party) (p : Party) → are_done ps ≡ true → Contains ps p → is_nothing p.due ≡ true
all_done [] p all (i, less, is) = absurd (omega (arith, less))
all_done (x ∷ ps) p all (zero, less, is) = ap (λ (y : Party). is_nothing y.due) (sym is) ∙ (both (is_nothing x.due) (are_done ps) all).0
all_done (x ∷ ps) p all (suc i, less, is) = all_done ps p (both (is_nothing x.due) (are_done ps) all).1 (i, omega (arith, less), is)

-- ---- a Done is written

module _ (grow : JournalsGrow) (complete : CompletesOnce) (keep : NodesKeepDecisions) (completions : CompletionLaws) (close : FamiliesCloseLast) (rightly : FamiliesStepRightly)
    (answered : FamiliesHearOutcomesAnswered) (numbers : FamiliesNumberWords) (w : World) (told : List Told) (k : Known w told) (replied : ToldReplied w)
    (named : RecordsNameParties w) (held : HeldAnswered w) (retold : RetoldAnswered w) (place : ℕ) (n : Node) (up : node_at w place ≡ Some n)
    (was : List JournalRecord) (held_was : records_at w place ≡ Some was) (nth reply now : ℕ) (o : Outward) (answer : Said) (word : IsWord w nth place o)
    (content : HasContent w reply (contents.Reply (nth + 1) answer)) (key : ObjectKey) (to : List ℕ) (names : list_any (names_of key to) was ≡ true) (done : ℕ)
    (closes : IsClosedNow was key done) where
  at_place : Contains (placed first_gate was) closes.stood
  at_place = standing_placed was closes.stood closes.there

  -- by a family
  by_family : (f : Family) (b : ℕ) → family_of (family_key place o.number) n ≡ Some f → waiting_for f o.number ≡ Some b
      → wanted f (answer_event o answer now) ≡ Some (WritesDone done) → HasAnsweredCommit w to
  by_family f b of waits wants =
      closes_answered completions close rightly answered numbers w told k replied place n up nth reply now o answer word content o.number.slot f there b done waits wants
      was held_was to of_own
    where
      there : family_in n.families o.number.slot ≡ Some f
      there = (key_slot (family_key place o.number) n f of).0

      decision : HasDecision n f done
      decision = keep.closes (edge_at w place) o.number.slot done f (answer_event o answer now) n (k.nodes place n up).sound there wants

      decision_placed : Contains (placed first_gate was) decision.stood
      decision_placed = standing_placed was decision.stood (subst (λ (x : Found). Contains x.standing decision.stood) (found_is w told k place n up was held_was) decision.there)

      same : closes.stood ≡ decision.stood
      same = placed_once first_gate was closes.stood decision.stood at_place decision_placed (closes.at ∙ sym decision.at)

      parts : (f.key.life ≡ key.life) × (f.key.slot ≡ key.slot) × (f.key.generation ≡ key.generation)
      parts = own_key key f closes.stood.item closes.own (subst (λ (x : Standing). IsDecisionOf f x.item) (sym same) decision.own)

      of_own : list_any (names_of f.key to) was ≡ true
      of_own =
          let one = Any-from_list_any (names_of key to) was names in
          list_any-from_Any (names_of f.key to) was
          (one.0, one.1, one.2, one.3, ap (λ (t : Bool). t && names_object to one.1) (sym (same_decision f.key key parts.0 parts.1 parts.2 one.1)) ∙ one.4)

  -- by a record that is told again
  module _ (again : o.number.slot ≡ retold_slot) (completes : completed (life n) o.number (heard_in answer) n.recovered ≡ Some done) where
    turns : Any (λ (r : Held). (r.place ≡ done) × (is_complete r ≡ false) × (is_complete (record_after o.number (heard_in answer) r) ≡ true)) n.recovered
    turns = complete (life n) o.number (heard_in answer) n.recovered done completes

    abbrev r : Held
    r = turns.1

    among : Contains n.recovered r
    among = (turns.0, turns.2, turns.3)

    old : IsHeldAs w told place was r
    old = (k.nodes place n up).held was r held_was among

    same_record : closes.stood ≡ old.stood
    same_record = placed_once first_gate was closes.stood old.stood at_place old.there (closes.at ∙ sym turns.4.0 ∙ sym old.same_place)

    abbrev left : Held
    left = record_after o.number (heard_in answer) r

    -- each party of it has answered
    party_then : (p : Party) → Contains left.parties p → HasAnsweredCommit w p.to
    party_then p one = elim (all_at (IsDueOr (HasAnsweredCommit w)) left.parties p due_then one) [
      | inl waits ↦ absurd (no_true (sym (ap is_nothing waits) ∙ all_done left.parties p (both (is_decided left.kind) (are_done left.parties) turns.4.2).1 one))
      | inr is ↦ is
    ]
      where
        due_then : AreDueOr (HasAnsweredCommit w) left
        due_then =
            record_due (HasAnsweredCommit w) o.number (heard_in answer) r
            (party_answered w told k replied named held retold place n up nth reply o answer word again content r among)
            (all_at (AreDueOr (HasAnsweredCommit w)) n.recovered r (held place n up) among)

    -- it names the object
    registered : list_any (is_registration_of to) (registrations_of closes.stood.item) ≡ true → HasAnsweredCommit w to
    registered any =
        let one = Any-from_list_any (is_registration_of to) (registrations_of closes.stood.item) any in
        let at = party_of left.parties (registrations_of closes.stood.item) one.1
        (after_references o.number (heard_in answer) r ∙ old.references
        ∙ ap (λ (x : Standing). map (λ (y : Named). y.reference) (registrations_of x.item)) (sym same_record)) (one.0, one.2, one.3) in
        subst (HasAnsweredCommit w) (at.2 ∙ (bytes_eq-Decides one.1.reference to).0 one.4) (party_then at.0 at.1)

    -- as each record of its key does
    by_record : HasAnsweredCommit w to
    by_record = registered ((rests.voters to object.0 object.1).1 (subst (λ (t : List ℕ). TakesPart object.0.name t (known told)) one_name voter.0, voter.1))
      where
        one : Any (λ (item : JournalRecord). names_of key to item ≡ true) was
        one = Any-from_list_any (names_of key to) was names

        item : JournalRecord
        item = one.1

        so : (is_decision_of key item ≡ true) × (names_object to item ≡ true)
        so = both (is_decision_of key item) (names_object to item) one.4

        d : IsDecisionWith key closes.stood.item
        d = decision_with key closes.stood.item closes.own

        e : IsDecisionWith key item
        e = decision_with key item so.0

        rests : RestsOnVotes w told (recorded_key place key.life key.slot key.generation) (registrations_of closes.stood.item)
        rests = k.records place key.life key.slot key.generation d.retry d.asked (registrations_of closes.stood.item) was held_was
            (subst (Contains was) d.is (standing_record was closes.stood closes.there))

        rests_too : RestsOnVotes w told (recorded_key place key.life key.slot key.generation) (registrations_of item)
        rests_too = k.records place key.life key.slot key.generation e.retry e.asked (registrations_of item) was held_was (subst (Contains was) e.is (one.0, one.2, one.3))

        names_it : list_any (is_registration_of to) (registrations_of item) ≡ true
        names_it = ap (names_object to) (sym e.is) ∙ so.1

        object : (x : NamedKey) × (referred w to ≡ Some x)
        object = is_there (referred w to) (rests_too.named to names_it)

        voter : TakesPart object.0.name rests_too.name (known told) × Stands (lines.Voted object.0.name VoteCommit) (known told)
        voter = (rests_too.voters to object.0 object.1).0 names_it

        one_name : rests_too.name ≡ rests.name
        one_name = k.names.keys rests_too.name rests.name _ rests_too.of_name rests.of_name

-- ---- a step

module _ (grow : JournalsGrow) (complete : CompletesOnce) (keep : NodesKeepDecisions) (completions : CompletionLaws) (close : FamiliesCloseLast) (rightly : FamiliesStepRightly)
    (answered : FamiliesHearOutcomesAnswered) (numbers : FamiliesNumberWords) (w : World) (told : List Told) (k : Known w told) (replied : ToldReplied w)
    (named : RecordsNameParties w) (held : HeldAnswered w) (retold : RetoldAnswered w) (dones : DonesAnswered w) where
  -- behind a record that was asked for
  module _ (place : ℕ) (n : Node) (up : node_at w place ≡ Some n) (was : List JournalRecord) (held_was : records_at w place ≡ Some was) (nth reply now : ℕ) (o : Outward)
      (answer : Said) (word : IsWord w nth place o) (content : HasContent w reply (contents.Reply (nth + 1) answer)) (key : ObjectKey) (to : List ℕ) where
    abbrev Answered : JournalRecord → Type 0
    Answered item = list_any (names_of key to) (was ++ item ∷ []) ≡ true → is_done_in (was ++ item ∷ []) key ≡ true → HasAnsweredCommit w to

    -- a decision
    decided : (h : Family) → Answered (decision_record h)
    unfolding decision_record
    decided h any done =
        let so = decided_after grow (service_at place) was key (decision_record h) (λ found at. refl) done in
        dones place was key to held_was (named_before key to was (decision_record h) so.1 any) so.0

    -- a Done
    closed : (done : ℕ) → (list_any (names_of key to) was ≡ true → IsClosedNow was key done → HasAnsweredCommit w to) → Answered (Done done)
    closed done by any is_done =
        let before = named_before key to was (Done done) refl any in
        elim (closed_now grow (service_at place) was key done is_done) [
          | inl already ↦ dones place was key to held_was before already
          | inr now_closed ↦ by before now_closed
        ]

    -- what a family wants
    by_wanted : (f : Family) (b : ℕ) → family_of (family_key place o.number) n ≡ Some f → waiting_for f o.number ≡ Some b → (x : Wanted)
        → wanted f (answer_event o answer now) ≡ Some x → (item : JournalRecord) → IsWanted (Some x) item → Answered item
    by_wanted f b of waits (Appends appended_item) wants item is =
        subst Answered (sym (is ∙ (appended (stages.wants_decision h.completion) (wants_done h) (record_place h.completion) (decision_record h) appended_item (sym (wanted_heard f b now o answer waits) ∙ wants)).1))
        (decided h)
      where
        h : Family
        h = (hears o.number (heard_in answer) f).family
    by_wanted f b of waits (WritesDone done) wants item is =
        subst Answered (sym is)
        (closed done (λ before closes.
        by_family grow complete keep completions close rightly answered numbers w told k replied named held retold place n up was held_was nth reply now o answer word content key to before done
        closes f b of waits wants))
    by_wanted f b of waits Rereads wants item is = absurd is

    by_asked : (x : Option Wanted) → Asks place now o answer n x → (item : JournalRecord) → IsWanted x item → Answered item
    by_asked _ nothing item is = absurd is
    by_asked _ (of_family f b x of waits wants) item is = by_wanted f b of waits x wants item is
    by_asked _ (of_record done again completes) item is =
        subst Answered (sym is)
        (closed done (λ before closes.
        by_record grow complete keep completions close rightly answered numbers w told k replied named held retold place n up was held_was nth reply now o answer word content key to before done
        closes again completes))

    by_more : (behind : List JournalRecord) → AreWanted (call_wants (family_key place o.number) (answer_event o answer now) n) behind
        → list_any (names_of key to) (was ++ behind) ≡ true → is_done_in (was ++ behind) key ≡ true → HasAnsweredCommit w to
    by_more [] are any done =
        dones place was key to held_was (ap (list_any (names_of key to)) (sym (append-nil was)) ∙ any) (ap (λ (rs : List JournalRecord). is_done_in rs key) (sym (append-nil was)) ∙ done)
    by_more (item ∷ []) are any done = by_asked _ (asks_of place now o answer n) item are any done
    by_more (item ∷ other ∷ others) are any done = absurd are

  by_records : (place : ℕ) (rs : List JournalRecord) (key : ObjectKey) (to : List ℕ) → RecordsCome w place rs → list_any (names_of key to) rs ≡ true
      → is_done_in rs key ≡ true → HasAnsweredCommit w to
  unfolding records_in
  by_records place rs key to (as_before held_was) any done = dones place rs key to held_was any done
  by_records place rs key to (on_new empty) any done = absurd (none rs empty any)
    where
      none : (rs : List JournalRecord) → records_in (service_at place) [] ≡ Some rs → list_any (names_of key to) rs ≡ true → ⊥
      none [] is so = no_true so
      none (x ∷ rs) is so = absurd cc
  by_records place rs key to (with_life was in_life held_was is) any done =
      dones place was key to held_was
      (named_before key to was (Life in_life) refl (ap (list_any (names_of key to)) (sym is) ∙ any))
      (sym (life_after grow (service_at place) was key in_life) ∙ ap (λ (xs : List JournalRecord). is_done_in xs key) (sym is) ∙ done)
  by_records place rs key to (with_asked was behind n nth reply now o answer held_was up word content asked is) any done =
      by_more place n up was held_was nth reply now o answer word content key to behind asked (ap (list_any (names_of key to)) (sym is) ∙ any)
      (ap (λ (xs : List JournalRecord). is_done_in xs key) (sym is) ∙ done)

  pub dones_step : (v : World) → RecordsGo w v → ((nth : ℕ) (content : Content) → HasContent w nth content → HasContent v nth content) → DonesAnswered v
  dones_step v records on place rs key to held_then any done = answered_on w v on to (by_records place rs key to (records place rs held_then) any done)
