-- What holds of every step of every family: whose word each one that goes out is, that an outcome stays, and what changes nothing
-- (Transaction Service, nested transactions and the operations of interface Resource).
use Rattle.std.specs.Prelude.{◌≡◌, ◌⊎◌, Bool, List, [], ◌∷◌, ◌++◌, Option, Some, None}
use Rattle.std.specs.List.{AllByRecursion}
use Rattle.ots_model.specs.declared.completion.CallNumber.{CallNumber}
use Rattle.ots_model.specs.declared.completion.Stood.{Stood}
use Rattle.ots_model.specs.declared.tree.Heard.{Heard}
use Rattle.ots_model.specs.Numbered.{Outcome}
use Rattle.ots_model.specs.declared.tree.Outward.{Outward}
use Rattle.ots_model.specs.declared.tree.Reason.{Reason}
use Rattle.ots_model.specs.declared.tree.Word.{Word}
use Rattle.ots_model.specs.declared.completion.Word.TheVariants as phase_words
use Rattle.ots_model.specs.declared.tree.Word.TheVariants as words
use Rattle.resource_votes.specs.declared.registration.Registration.{Registration}
use Rattle.two_phase.specs.Course as course
use Rattle.two_phase.specs.Course.{Course}
use Rattle.two_phase.specs.LawsOfReached.{TreeBecomes, IsReached}
use Rattle.two_phase.specs.Stages as stages
use Rattle.two_phase.specs.Stages.{Standing, Room, Waiting, Going as UnderWay}
use Rattle.coordinator.specs.declared.event.Act.TheVariants as acts
use Rattle.coordinator.specs.declared.event.Event.{Event}
use Rattle.coordinator.specs.Family.{Family, waiting_for}
use Rattle.coordinator.specs.declared.said.Entry.{Entry}
use Rattle.coordinator.specs.declared.said.Said.{Said}
use Rattle.coordinator.specs.History.{kept_for, repeated}
use Rattle.coordinator.specs.Step.{entry_of, Stepped, family_step}

-- what the completion of a family becomes by any number of steps: it begins once, by asking or by rolling back, and goes on
pub data Proceeds : Standing → Standing → Type 0 where
  still : (s : Standing) → Proceeds s s
  asks : (room : Room) (participants : List Registration) (asked : Bool) (first : CallNumber) (one_phase : Bool)
      → Proceeds (Waiting room) (stages.started participants asked first one_phase)
  rolls_back : (room : Room) (participants : List Registration) (asked : Bool) (first : CallNumber) (one_phase : Bool) (reason : Reason)
      → Proceeds (Waiting room) (stages.started_rollback participants asked first one_phase reason)
  goes_on : (c later : Course) → TreeBecomes c later → Proceeds (UnderWay c) (UnderWay later)
  further : (s between later : Standing) → Proceeds s between → Proceeds between later → Proceeds s later

-- a word is one that the completion sent: the next one, which is out from then on
pub record IsOfCompletion (s : Standing) (o : Outward) : Type 0 where
  pub before : Course
  pub word : Outward
  pub next : course.next_word before ≡ Some word
  pub now : s ≡ UnderWay (course.after_next before)
  pub same_word : o.word ≡ word.word
  pub same_registration : o.registration ≡ word.registration
  pub same_reference : o.to ≡ word.to
  pub same_receipt : o.receipt ≡ word.receipt

-- a word of the end of a subtransaction, or to a synchronization: it is no commit word
abbrev pub IsOfSubtransaction : Word → Type 0
IsOfSubtransaction words.RollbackSub = Unit {0}
IsOfSubtransaction (words.CommitSub above) = Unit {0}
IsOfSubtransaction (words.Phase phase_words.Rollback) = Unit {0}
IsOfSubtransaction words.BeforeCompletion = Unit {0}
IsOfSubtransaction (words.AfterCompletion status) = Unit {0}
IsOfSubtransaction _ = ⊥

abbrev pub GoesOut : Standing → Outward → Type 0
GoesOut s o = IsOfCompletion s o ⊎ (IsOfSubtransaction o.word × (o.receipt ≡ None))

-- a step goes rightly: the completion proceeds, and each word is its own, or of a subtransaction's end, or to a synchronization
pub record StepsRightly (s : Standing) (later : Standing) (some : List Outward) : Type 0 where
  pub proceeds : Proceeds s later
  pub words : AllByRecursion (GoesOut later) some

-- each step does
abbrev pub FamiliesStepRightly : Type 0
FamiliesStepRightly = (f : Family) (e : Event) (stood : Option Stood)
    → StepsRightly f.completion (family_step f e stood).family.completion (family_step f e stood).words

-- a step that makes an entry makes this one, with what the step says and whom it answers
abbrev pub entry_made : Family → Event → Option Stood → Stepped → List Entry
entry_made f e stood s = f.entries ++ entry_of e stood s.said s.finished ∷ []

-- a step makes one entry, or leaves the family as it was
abbrev pub HistoriesGrowByEntries : Type 0
HistoriesGrowByEntries = (f : Family) (e : Event) (stood : Option Stood)
    → ((family_step f e stood).family ≡ f)
    ⊎ ((family_step f e stood).family.entries ≡ entry_made f e stood (family_step f e stood))

-- a completion that there is
abbrev pub IsThere : Standing → Type 0
IsThere (Waiting room) = Unit {0}
IsThere (UnderWay c) = IsReached c

-- an outcome that is fixed stays
abbrev pub FamilyOutcomesStay : Type 0
FamilyOutcomesStay = (f : Family) (e : Event) (stood : Option Stood) (fixed : Outcome)
    → IsThere f.completion → stages.outcome f.completion ≡ Some fixed
    → stages.outcome (family_step f e stood).family.completion ≡ Some fixed

-- an answer that nobody waits for changes nothing
pub record ChangesNothing (f : Family) (s : Stepped) : Type 0 where
  pub family : s.family ≡ f
  pub words : s.words ≡ []
  pub finished : s.finished ≡ []
  pub effects : s.effects ≡ []

-- a call that comes again under its key changes nothing, and is answered as it was, or told to try again
abbrev pub RepeatsChangeNothing : Type 0
RepeatsChangeNothing = (f : Family) (e : Event) (stood : Option Stood) (answer : Said) → kept_for f.entries e.key ≡ Some answer
    → ChangesNothing f (family_step f e stood) × ((family_step f e stood).said ≡ repeated answer)

abbrev pub StaleAnswersChangeNothing : Type 0
StaleAnswersChangeNothing = (f : Family) (e : Event) (stood : Option Stood) (n : CallNumber) (h : Heard)
    → e.act ≡ acts.Answer n h → waiting_for f n ≡ None → ChangesNothing f (family_step f e stood)
