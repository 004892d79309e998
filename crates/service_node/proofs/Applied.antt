-- What a step of a family that asks the journal leaves of it, and of what is held.
use Rattle.std.proofs.Common.{◌≡◌, ◌∙◌, ℕ, zero, suc, inl, inr, Bool, true, false, List, [], ◌∷◌, ◌++◌, length, Option, Some, None, refl, sym, ap, subst, arith}
use Rattle.ots_model.specs.declared.completion.Stood.{Stood}
use Rattle.ots_model.specs.declared.completion.Stood.TheVariants as answers
use Rattle.ots_outside.specs.Disk.{DiskState}
use Rattle.decision_journal.specs.declared.journal.JournalFault.{JournalFault}
use Rattle.decision_journal.specs.declared.journal.JournalFault.TheVariants.{DiskFault, Full, BadHeader, BadRecord, LivesSpent, Memory}
use Rattle.decision_journal.specs.declared.journal.Standing.{Standing}
use Rattle.decision_journal.specs.declared.record.JournalRecord.{JournalRecord}
use Rattle.decision_journal.specs.declared.record.JournalRecord.TheVariants.{Life, Decision, Done, Prepared, CellsPrepared, CellsOutcome, CellsOnePhase}
use Rattle.decision_journal.specs.Journal.{Found, is_decision, with_record}
use Rattle.decision_journal.specs.State.{JournalState}
use Rattle.recovery_coord.specs.Held.{without}
use Rattle.recovery_coord.specs.declared.held.Held.{Held}
use Rattle.coordinator.specs.NodeCalls.{journaled, records_with}
use Rattle.coordinator.specs.Step.{Wanted, Appends, WritesDone, Rereads}
use Rattle.family_step.specs.Asking.{IsAsked, IsAnswered, stood_by}
use Rattle.service_node.specs.Applying.{let_go}
use Rattle.service_node.specs.Journaling.{done_of, kept_once}
use Rattle.service_node.proofs.Asked.{KeepsLife, Leaves, Stays, after_leaves, appended_leaves, refused_leaves}
use Rattle.service_node.proofs.Answered.{after_found, away_stand, kept_stand, ready_found, refused_found}
use Rattle.service_node.proofs.Stands.{AllStand, IsThere, shifted}

-- ---- a decision or prepared record that is appended

pub keeps_life : (r : JournalRecord) → is_decision r ≡ true → KeepsLife r
keeps_life (Life life) is = absurd cc
keeps_life (Decision life slot generation k asked regs) is = λ found place. refl
keeps_life (Done named) is = absurd cc
keeps_life (Prepared life slot generation recovery regs) is = λ found place. refl
keeps_life (CellsPrepared life number recovery ps) is = absurd cc
keeps_life (CellsOutcome named ending) is = absurd cc
keeps_life (CellsOnePhase life number ps) is = absurd cc

more_there : (ss more : List Standing) (place : ℕ) → IsThere ss place → IsThere (ss ++ more) place
more_there [] more place (k, x, within, here, same) = absurd (omega (arith, within))
more_there (s ∷ ss) more place (zero, x, within, here, same) = (zero, x, omega arith, here, same)
more_there (s ∷ ss) more place (suc k, x, within, here, same) = shifted s (ss ++ more) place (more_there ss more place (k, x, omega (arith, within), here, same))

all_more : (ss more : List Standing) (rs : List Held) → AllStand ss rs → AllStand (ss ++ more) rs
all_more ss more [] all = tt
all_more ss more (r ∷ rs) all = (more_there ss more r.place all.0, all_more ss more rs all.1)

append_stands : (r : JournalRecord) (found : Found) (place : ℕ) (rs : List Held) → is_decision r ≡ true → AllStand found.standing rs → AllStand (with_record found place r).standing rs
append_stands (Life life) found place rs is all = absurd cc
append_stands (Decision life slot generation k asked regs) found place rs is all = all_more found.standing _ rs all
append_stands (Done named) found place rs is all = absurd cc
append_stands (Prepared life slot generation recovery regs) found place rs is all = all_more found.standing _ rs all
append_stands (CellsPrepared life number recovery ps) found place rs is all = absurd cc
append_stands (CellsOutcome named ending) found place rs is all = absurd cc
append_stands (CellsOnePhase life number ps) found place rs is all = absurd cc

-- ---- a refusal changes nothing that stands

refused_journal : (asked : Wanted) (fault : JournalFault) (a b : ℕ) (found : Found) → journaled (Some asked) (Some (stood_by fault a b)) found ≡ found
refused_journal (Appends item) DiskFault a b found = refl
refused_journal (Appends item) (Full u n) a b found = refl
refused_journal (Appends item) (BadHeader at) a b found = refl
refused_journal (Appends item) (BadRecord at) a b found = refl
refused_journal (Appends item) LivesSpent a b found = refl
refused_journal (Appends item) Memory a b found = refl
refused_journal (WritesDone place) DiskFault a b found = refl
refused_journal (WritesDone place) (Full u n) a b found = refl
refused_journal (WritesDone place) (BadHeader at) a b found = refl
refused_journal (WritesDone place) (BadRecord at) a b found = refl
refused_journal (WritesDone place) LivesSpent a b found = refl
refused_journal (WritesDone place) Memory a b found = refl
refused_journal Rereads DiskFault a b found = refl
refused_journal Rereads (Full u n) a b found = refl
refused_journal Rereads (BadHeader at) a b found = refl
refused_journal Rereads (BadRecord at) a b found = refl
refused_journal Rereads LivesSpent a b found = refl
refused_journal Rereads Memory a b found = refl

refused_held : (place : ℕ) (fault : JournalFault) (a b : ℕ) (rs : List Held) → let_go (Some (WritesDone place)) (Some (stood_by fault a b)) rs ≡ rs
refused_held place DiskFault a b rs = refl
refused_held place (Full u n) a b rs = refl
refused_held place (BadHeader at) a b rs = refl
refused_held place (BadRecord at) a b rs = refl
refused_held place LivesSpent a b rs = refl
refused_held place Memory a b rs = refl

appends_hold : (item : JournalRecord) (stood : Option Stood) (rs : List Held) → let_go (Some (Appends item)) stood rs ≡ rs
appends_hold item None rs = refl
appends_hold item (Some (answers.Stands at)) rs = refl
appends_hold item (Some (answers.Full u n)) rs = refl
appends_hold item (Some (answers.Unsure why)) rs = refl

-- ---- what was asked

-- only decision and prepared records are appended
abbrev pub AppendsDecision : Option Wanted → Type 0
AppendsDecision (Some (Appends item)) = is_decision item ≡ true
AppendsDecision _ = Unit {0}

pub done_kind : (o : Option ℕ) → AppendsDecision (done_of o)
done_kind (Some place) = tt
done_kind None = tt

pub let_go_is : (o : Option ℕ) (stood : Option Stood) (rs : List Held) → let_go (done_of o) stood rs ≡ records_with o stood rs
let_go_is (Some place) (Some (answers.Stands at)) rs = refl
let_go_is (Some place) (Some (answers.Full used need)) rs = refl
let_go_is (Some place) (Some (answers.Unsure why)) rs = refl
let_go_is (Some place) None rs = refl
let_go_is None stood rs = refl

module _ {D : Type 0} (told : D → Option DiskState) (counts : D → ℕ) (before after : JournalState D) where
  same_leaves : Stays before.found before.doubted → after ≡ before → Leaves before after
  same_leaves stays is = record {
    service = ap (λ (j : JournalState D). j.service) is;
    life = ap (λ (j : JournalState D). j.found.life) is;
    stays = subst (λ (j : JournalState D). Stays j.found j.doubted) (sym is) stays;
  }

  pub leaves_asked : Stays before.found before.doubted → (asked : Option Wanted) (stood : Option Stood) → AppendsDecision asked → IsAsked told counts asked before after stood → Leaves before after
  leaves_asked stays None stood kind a = same_leaves stays a.0
  leaves_asked stays (Some w) None kind a = absurd a
  leaves_asked stays (Some (Appends item)) (Some stood) kind a = elim a [
    | inl r ↦ appended_leaves told before after stays item r.place (keeps_life item kind) r.appended
    | inr r ↦ refused_leaves told before after stays item r.fault (keeps_life item kind) r.left
  ]
  leaves_asked stays (Some (WritesDone place)) (Some stood) kind a = elim a [
    | inl r ↦ after_leaves told before after stays place r.done
    | inr r ↦ refused_leaves told before after stays (Done place) r.fault (λ found at. refl) r.left
  ]
  leaves_asked stays (Some Rereads) (Some stood) kind a = absurd a

  module _ (sure : before.doubted ≡ None) where
    by_refusal : (w : Wanted) (stood : Stood) (r : JournalRecord) (fault : JournalFault) (a b : ℕ) → after.found ≡ before.found → stood ≡ stood_by fault a b
        → after.found ≡ journaled (Some w) (Some stood) before.found
    by_refusal w stood r fault a b same is =
        same ∙ sym (refused_journal w fault a b before.found) ∙ ap (λ (x : Stood). journaled (Some w) (Some x) before.found) (sym is)

    pub found_once : (asked : Option Wanted) (stood : Option Stood) → IsAsked told counts asked before after stood → after.found ≡ journaled asked stood before.found
    found_once None stood a = ap (λ (j : JournalState D). j.found) a.0
    found_once (Some w) None a = absurd a
    found_once (Some (Appends item)) (Some stood) a = elim a [
      | inl r ↦ r.appended.appended.journal.found_is
          ∙ ap (λ (f : Found). with_record f (length r.appended.ready.octets) item) (ready_found told before after sure r.appended.ready r.appended.is_ready)
          ∙ ap (λ (n : ℕ). with_record before.found n item) (sym r.appended.appended.journal.place_is)
          ∙ ap (λ (x : Stood). journaled (Some (Appends item)) (Some x) before.found) (sym r.stood_is)
      | inr r ↦ by_refusal (Appends item) stood item r.fault _ _ (refused_found told before after sure item r.fault r.left) r.stood_is
    ]
    found_once (Some (WritesDone place)) (Some stood) a = elim a [
      | inl r ↦ after_found told before after sure place place r.done
          ∙ ap (λ (x : Stood). journaled (Some (WritesDone place)) (Some x) before.found) (sym r.stood_is)
      | inr r ↦ by_refusal (WritesDone place) stood (Done place) r.fault _ _ (refused_found told before after sure (Done place) r.fault r.left) r.stood_is
    ]
    found_once (Some Rereads) (Some stood) a = absurd a

    same_stand : (rs xs : List Held) → after.found ≡ before.found → xs ≡ rs → AllStand before.found.standing rs → AllStand after.found.standing xs
    same_stand rs xs same is all =
        subst (λ (ys : List Held). AllStand after.found.standing ys) (sym is) (subst (λ (f : Found). AllStand f.standing rs) (sym same) all)

    stand_unfailed : (w : Wanted) (stood : Stood) (rs : List Held) → AppendsDecision (Some w) → IsAnswered told counts w before after stood → AllStand before.found.standing rs
        → AllStand after.found.standing (let_go (Some w) (Some stood) rs)
    stand_unfailed (Appends item) stood rs kind a all = subst (λ (xs : List Held). AllStand after.found.standing xs) (sym (appends_hold item (Some stood) rs)) (elim a [
      | inl r ↦ subst (λ (f : Found). AllStand f.standing rs)
          (sym (r.appended.appended.journal.found_is
          ∙ ap (λ (f : Found). with_record f (length r.appended.ready.octets) item) (ready_found told before after sure r.appended.ready r.appended.is_ready)))
          (append_stands item before.found (length r.appended.ready.octets) rs kind all)
      | inr r ↦ same_stand rs rs (refused_found told before after sure item r.fault r.left) refl all
    ])
    stand_unfailed (WritesDone place) stood rs kind a all = elim a [
      | inl r ↦ subst (λ (x : Stood). AllStand after.found.standing (let_go (Some (WritesDone place)) (Some x) rs)) (sym r.stood_is)
          (subst (λ (f : Found). AllStand f.standing (without place rs)) (sym (after_found told before after sure place place r.done)) (away_stand before.found.standing place rs all))
      | inr r ↦ same_stand rs (let_go (Some (WritesDone place)) (Some stood) rs) (refused_found told before after sure (Done place) r.fault r.left)
          (ap (λ (x : Stood). let_go (Some (WritesDone place)) (Some x) rs) r.stood_is ∙ refused_held place r.fault _ _ rs) all
    ]
    stand_unfailed Rereads stood rs kind a all = absurd a

  pub held_stand : (failed : Bool) → (failed ≡ false → before.doubted ≡ None) → (asked : Option Wanted) (stood : Option Stood) (rs : List Held) → AppendsDecision asked
      → IsAsked told counts asked before after stood → AllStand before.found.standing rs
      → AllStand after.found.standing (kept_once asked failed after.found (let_go asked stood rs))
  held_stand failed sure None stood rs kind a all = subst (λ (j : JournalState D). AllStand j.found.standing rs) (sym a.0) all
  held_stand failed sure (Some w) None rs kind a all = absurd a
  held_stand true sure (Some w) (Some stood) rs kind a all = kept_stand after.found (let_go (Some w) (Some stood) rs)
  held_stand false sure (Some w) (Some stood) rs kind a all = stand_unfailed (sure refl) w stood rs kind a all
