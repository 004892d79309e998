-- When a step of a family asks the journal for a decision record and for its Done, and what stands behind each (Transaction Service,
-- the operations of interface Resource; that a decision is recorded, and named done at last, is our profile).
use Rattle.std.specs.Prelude.{◌≡◌, ◌⊎◌, ℕ, true, Option, Some, None, Contains}
use Rattle.std.specs.List.{AllByRecursion}
use Rattle.ots_model.specs.declared.completion.CallNumber.{CallNumber}
use Rattle.ots_model.specs.declared.completion.Disposition.{Disposition}
use Rattle.ots_model.specs.declared.completion.Ground.TheVariants.{Record}
use Rattle.ots_model.specs.declared.completion.Heard.{Heard as Participant}
use Rattle.ots_model.specs.declared.completion.Heard.TheVariants as phase_hears
use Rattle.ots_model.specs.declared.completion.Stood.{Stood}
use Rattle.ots_model.specs.declared.completion.Stood.TheVariants as answers
use Rattle.ots_model.specs.declared.completion.Vote.TheVariants.{VoteCommit}
use Rattle.ots_model.specs.declared.tree.Heard.{Heard}
use Rattle.ots_model.specs.declared.completion.Outcome.TheVariants as outcomes
use Rattle.two_phase.specs.Course as course
use Rattle.two_phase.specs.Stages as stages
use Rattle.two_phase.specs.Stages.{Standing, Waiting, Going as UnderWay}
use Rattle.two_phase.specs.declared.party.Party.{Party}
use Rattle.decision_journal.specs.declared.record.JournalRecord.{JournalRecord}
use Rattle.coordinator.specs.declared.effect.Effect.TheVariants as effects
use Rattle.coordinator.specs.declared.event.Act.TheVariants as acts
use Rattle.coordinator.specs.declared.event.Event.{Event}
use Rattle.coordinator.specs.Family.{Family}
use Rattle.coordinator.specs.Hearing.{decision_record}
use Rattle.coordinator.specs.Laws.{IsThere}
use Rattle.coordinator.specs.Step.{Appends, WritesDone, family_step, hears, wanted}
use Rattle.family_laws.specs.Sound.{IsSoundFamily}

-- each participant has consented, and one of them waits for the outcome
abbrev pub IsAgreed : Standing → Type 0
IsAgreed (Waiting room) = ⊥
IsAgreed (UnderWay c) = (course.all_consent c ≡ true) × (course.some_commit c ≡ true)

-- A decision is appended of the family that has heard an answer, whose participants agree; where the record stands, the family is
-- decided by it. Where the completion is one that can be reached, the outcome was open, and is commit by that record then.
pub record AppendsOwn (f : Family) (e : Event) (item : JournalRecord) : Type 0 where
  pub number : CallNumber
  pub heard : Heard
  pub answer : e.act ≡ acts.Answer number heard
  pub is_record : item ≡ decision_record (hears number heard f).family
  pub agreed : IsAgreed (hears number heard f).family.completion
  pub undecided : IsThere f.completion → stages.outcome f.completion ≡ None
  pub stands : (place : ℕ) → stages.record_place (family_step f e (Some (answers.Stands place))).family.completion ≡ Some place
  pub decides : IsThere f.completion → (place : ℕ) → stages.outcome (family_step f e (Some (answers.Stands place))).family.completion ≡ Some (outcomes.Commit Record)

abbrev pub FamiliesAppendOwn : Type 0
FamiliesAppendOwn = (f : Family) (e : Event) (item : JournalRecord) → wanted f e ≡ Some (Appends item) → AppendsOwn f e item

-- an answer to forget that lets go of a heuristic outcome
abbrev pub HasForgotten : Option Participant → Type 0
HasForgotten forgot = (forgot ≡ Some phase_hears.Done) ⊎ (forgot ≡ Some phase_hears.NoObject)

-- A participant has completed: by a plain answer, or nobody knows of it any more, or by a heuristic outcome that it was told to
-- forget.
abbrev pub HasCompleted : Party → Type 0
HasCompleted p = (p.told ≡ Some phase_hears.Done) ⊎ (p.told ≡ Some phase_hears.NoObject)
    ⊎ ((d : Disposition) × (p.told ≡ Some (phase_hears.Heuristic d)) × HasForgotten p.forgot)

-- each one that has voted commit
abbrev pub CompletesAll : Standing → Type 0
CompletesAll (Waiting room) = ⊥
CompletesAll (UnderWay c) = AllByRecursion (λ (p : Party). p.ballot ≡ Some (phase_hears.Voted VoteCommit) → HasCompleted p) c.parties

-- A Done is wanted of the family's own record, once all have completed; and it is told exactly where it was wanted and stands.
pub record FamiliesCloseLast : Type 0 where
  pub completed : (f : Family) (e : Event) (place : ℕ) (number : CallNumber) (heard : Heard) → IsSoundFamily f
      → wanted f e ≡ Some (WritesDone place) → e.act ≡ acts.Answer number heard
      → CompletesAll (hears number heard f).family.completion
      × (stages.record_place (hears number heard f).family.completion ≡ Some place)
  pub told : (f : Family) (e : Event) (stood : Option Stood) → Contains (family_step f e stood).effects effects.Done
      → (place : ℕ) × (at : ℕ) × (wanted f e ≡ Some (WritesDone place)) × (stood ≡ Some (answers.Stands at))
  pub tells : (f : Family) (e : Event) (place at : ℕ) → wanted f e ≡ Some (WritesDone place)
      → Contains (family_step f e (Some (answers.Stands at))).effects effects.Done
