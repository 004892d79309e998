-- Short runs of a family, event by event: what is said, which words go out, which calls are answered, what happened, and the
-- phase after each (our profile where the standard leaves it open).
use Rattle.std.specs.Prelude.{◌≡◌, ℕ, Bool, true, false, List, [], ◌∷◌, map, codes, Option, Some, None}
use Rattle.ior_refs.specs.declared.key.ObjectKey.{ObjectKey}
use Rattle.ots_model.specs.declared.completion.Doubted.TheVariants.{Counted}
use Rattle.ots_model.specs.declared.completion.Ground.TheVariants as grounds
use Rattle.ots_model.specs.declared.completion.Stood.{Stood}
use Rattle.ots_model.specs.declared.completion.Stood.TheVariants as answers
use Rattle.ots_model.specs.declared.completion.Vote.TheVariants.{VoteCommit, VoteRollback, VoteReadOnly}
use Rattle.ots_model.specs.declared.service.Status.TheVariants as status
use Rattle.ots_model.specs.declared.completion.Heard.{Heard as PhaseHeard}
use Rattle.ots_model.specs.declared.completion.Heard.TheVariants as phase_hears
use Rattle.ots_model.specs.declared.tree.Heard.TheVariants as hears
use Rattle.ots_model.specs.declared.completion.Outcome.TheVariants as outcomes
use Rattle.ots_model.specs.declared.tree.Outward.{Outward}
use Rattle.ots_model.specs.declared.tree.Parent.TheVariants.{Branch}
use Rattle.ots_model.specs.declared.completion.Reason.TheVariants as phase_reasons
use Rattle.ots_model.specs.declared.tree.Reason.TheVariants as reasons
use Rattle.ots_model.specs.declared.completion.Word.{Word as PhaseWord}
use Rattle.ots_model.specs.declared.tree.Word.{Word}
use Rattle.ots_model.specs.declared.completion.Word.TheVariants as phase_words
use Rattle.ots_model.specs.declared.tree.Word.TheVariants as words
use Rattle.coordinator.specs.declared.effect.Effect.{Effect}
use Rattle.coordinator.specs.declared.effect.Effect.TheVariants as effects
use Rattle.coordinator.specs.declared.event.Act.{Act}
use Rattle.coordinator.specs.declared.event.Act.TheVariants as acts
use Rattle.coordinator.specs.declared.event.Event.{Event}
use Rattle.coordinator.specs.declared.phase.Phase.{Phase}
use Rattle.coordinator.specs.declared.phase.Phase.TheVariants as phases
use Rattle.coordinator.specs.declared.said.Finished.{Finished}
use Rattle.coordinator.specs.declared.said.Said.{Said}
use Rattle.coordinator.specs.declared.said.Said.TheVariants as said
use Rattle.coordinator.specs.Family.{Family, new_family, number_of}
use Rattle.coordinator.specs.Phases.{phase}
use Rattle.coordinator.specs.Step.{Stepped, family_step}

-- an event, and what the journal answers in its step
pub record Turn : Type 0 where
  pub event : Event
  pub stood : Option Stood

-- a word that goes out: its serial number, whom it goes to, and what it is
pub record Sent : Type 0 where
  pub serial : ℕ
  pub registration : ℕ
  pub word : Word

-- what a step shows
pub record Shown : Type 0 where
  pub said : Said
  pub words : List Sent
  pub finished : List Finished
  pub effects : List Effect
  pub phase : Phase

abbrev pub sent : Outward → Sent
sent o = record { serial = o.number.serial; registration = o.registration; word = o.word }

abbrev pub shown : Stepped → Shown
shown s = record { said = s.said; words = map sent s.words; finished = s.finished; effects = s.effects; phase = phase s.family }

-- a family after some events, and what each step shows
abbrev pub played : Family → List Turn → List Shown
played f [] = []
played f (t ∷ others) = shown (family_step f t.event t.stood) ∷ played (family_step f t.event t.stood).family others

abbrev pub after_all : Family → List Turn → Family
after_all f [] = f
after_all f (t ∷ others) = after_all (family_step f t.event t.stood).family others

-- the first family of a node in its first life
abbrev pub first_key : ObjectKey
first_key = record { kind = 75; service = 1; life = 1; slot = 0; generation = 1; index = 0 }

abbrev pub root : Family
root = new_family first_key None

-- one whose time is over at 5
abbrev pub short : Family
short = new_family first_key (Some 5)

-- a call on a branch
abbrev pub on : ℕ → Act → Turn
on branch act = record { event = record { key = None; branch = branch; now = 0; act = act }; stood = None }

-- the same, with a key
abbrev pub keyed : ℕ → Turn → Turn
keyed number t = record t { event = record { key = Some (record { client = 1; number = number }); branch = t.event.branch; now = 0; act = t.event.act } }

-- the answer to the word with this serial number
abbrev pub heard : ℕ → PhaseHeard → Turn
heard serial h = on 0 (acts.Answer (number_of root serial) (hears.Phase h))

-- the journal answers so in the step of this turn
abbrev pub journal : Stood → Turn → Turn
journal stood t = record t { stood = Some stood }

-- the clock stands at a moment
abbrev pub clock : ℕ → Turn
clock now = record { event = record { key = None; branch = 0; now = now; act = acts.Tick }; stood = None }

abbrev pub stands : Turn → Turn
stands t = journal (answers.Stands 26) t

-- two resources, an aware one, and a synchronization
abbrev pub one : List ℕ
one = codes "g"

abbrev pub other : List ℕ
other = codes "k"

abbrev pub register : ℕ → List ℕ → Turn
register branch to = on branch (acts.RegisterResource to false)

-- a step in which nothing but an answer comes
abbrev pub silent : Said → Phase → Shown
silent answer p = record { said = answer; words = []; finished = []; effects = []; phase = p }

-- one in which words go out, and something happens
abbrev pub busy : Said → List Sent → List Effect → Phase → Shown
busy answer some happened p = record { said = answer; words = some; finished = []; effects = happened; phase = p }

-- one in which an earlier call is answered
abbrev pub ending : ℕ → Said → List Effect → Phase → Shown
ending position answer happened p = record {
  said = said.Plain;
  words = [];
  finished = record { position = position; said = answer } ∷ [];
  effects = happened;
  phase = p;
}

abbrev pub word : ℕ → ℕ → Word → List Sent
word serial registration w = record { serial = serial; registration = registration; word = w } ∷ []

abbrev pub phase_word : ℕ → ℕ → PhaseWord → List Sent
phase_word serial registration w = word serial registration (words.Phase w)

abbrev pub decides_record : Effect
decides_record = effects.Decided (outcomes.Commit grounds.Record)

abbrev pub decides_none : Effect
decides_none = effects.Decided (outcomes.Commit grounds.Nobody)

abbrev pub ended_record : Phase
ended_record = phases.Ended (outcomes.Commit grounds.Record)

abbrev pub ended_none : Phase
ended_none = phases.Ended (outcomes.Commit grounds.Nobody)

-- Two resources vote commit, the decision is recorded, both are told, and the record is done.
abbrev pub two_commit : List Turn
two_commit =
    register 0 one ∷ register 0 other ∷ on 0 (acts.Commit false)
    ∷ heard 1 (phase_hears.Voted VoteCommit) ∷ stands (heard 2 (phase_hears.Voted VoteCommit))
    ∷ heard 3 phase_hears.Done ∷ stands (heard 4 phase_hears.Done) ∷ []

abbrev pub two_commit_shows : List Shown
two_commit_shows =
    silent (said.Made 1) phases.Active ∷ silent (said.Made 2) phases.Active
    ∷ busy said.Later (phase_word 1 1 phase_words.Prepare) [] phases.Preparing
    ∷ busy said.Plain (phase_word 2 2 phase_words.Prepare) (effects.Voted 1 VoteCommit ∷ []) phases.Preparing
    ∷ busy said.Plain (phase_word 3 1 phase_words.Commit)
    (effects.Voted 2 VoteCommit ∷ decides_record ∷ []) phases.Committing
    ∷ busy said.Plain (phase_word 4 2 phase_words.Commit) [] phases.Committing
    ∷ ending 2 said.Plain (effects.Done ∷ []) ended_record ∷ []

-- The second one votes rollback, and the first is told so.
abbrev pub one_refuses : List Turn
one_refuses =
    register 0 one ∷ register 0 other ∷ on 0 (acts.Commit false)
    ∷ heard 1 (phase_hears.Voted VoteCommit) ∷ heard 2 (phase_hears.Voted VoteRollback)
    ∷ heard 3 phase_hears.Done ∷ []

abbrev pub one_refuses_shows : List Shown
one_refuses_shows =
    silent (said.Made 1) phases.Active ∷ silent (said.Made 2) phases.Active
    ∷ busy said.Later (phase_word 1 1 phase_words.Prepare) [] phases.Preparing
    ∷ busy said.Plain (phase_word 2 2 phase_words.Prepare) (effects.Voted 1 VoteCommit ∷ []) phases.Preparing
    ∷ busy said.Plain (phase_word 3 1 phase_words.Rollback) (effects.Voted 2 VoteRollback ∷ effects.Decided (outcomes.Rollback (reasons.Phase (phase_reasons.Vote 2))) ∷ []) phases.RollingBack
    ∷ ending 2 said.TransactionRolledBack [] (phases.Ended (outcomes.Rollback (reasons.Phase (phase_reasons.Vote 2)))) ∷ []

-- Nobody is registered; then nothing can be any more.
abbrev pub nobody : List Turn
nobody = on 0 (acts.Commit true) ∷ register 0 one ∷ on 0 (acts.Commit false) ∷ []

abbrev pub nobody_shows : List Shown
nobody_shows =
    busy said.Plain [] (decides_none ∷ []) ended_none ∷ silent said.Inactive ended_none ∷ silent said.InvalidTransaction ended_none ∷ []

-- Both vote read-only.
abbrev pub read_only : List Turn
read_only =
    register 0 one ∷ register 0 other ∷ on 0 (acts.Commit true)
    ∷ heard 1 (phase_hears.Voted VoteReadOnly) ∷ heard 2 (phase_hears.Voted VoteReadOnly) ∷ []

abbrev pub read_only_shows : List Shown
read_only_shows =
    silent (said.Made 1) phases.Active ∷ silent (said.Made 2) phases.Active
    ∷ busy said.Later (phase_word 1 1 phase_words.Prepare) [] phases.Preparing
    ∷ busy said.Plain (phase_word 2 2 phase_words.Prepare) (effects.Voted 1 VoteReadOnly ∷ []) phases.Preparing
    ∷ ending 2 said.Plain (effects.Voted 2 VoteReadOnly ∷ decides_none ∷ []) ended_none ∷ []

-- The only participant is to decide alone, and isn't heard of.
abbrev pub one_phase_lost : Bool → List Turn
one_phase_lost asked = register 0 one ∷ on 0 (acts.Commit asked) ∷ heard 1 phase_hears.Lost ∷ []

abbrev pub one_phase_lost_shows : Said → List Shown
one_phase_lost_shows answer =
    silent (said.Made 1) phases.Active ∷ busy said.Later (phase_word 1 1 phase_words.CommitOnePhase) [] phases.OnePhase
    ∷ ending 1 answer (effects.Decided outcomes.Unknown ∷ []) (phases.Ended outcomes.Unknown) ∷ []

-- A subtransaction of a subtransaction commits, and its resource is rolled back with its parent.
abbrev pub parent_rolls_back : List Turn
parent_rolls_back =
    on 0 acts.CreateSubtransaction ∷ on 1 acts.CreateSubtransaction ∷ register 2 one
    ∷ on 2 (acts.Commit false) ∷ on 1 acts.Rollback ∷ heard 1 phase_hears.Done ∷ on 0 (acts.Commit false) ∷ []

abbrev pub parent_rolls_back_shows : List Shown
parent_rolls_back_shows =
    silent (said.Made 1) phases.Active ∷ silent (said.Made 2) phases.Active ∷ silent (said.Made 1) phases.Active
    ∷ busy said.Plain [] (effects.SubtransactionEnded 2 true ∷ []) phases.Active
    ∷ busy said.Later (phase_word 1 1 phase_words.Rollback) (effects.SubtransactionEnded 1 false ∷ []) phases.Active
    ∷ ending 4 said.Plain [] phases.Active
    ∷ busy said.Plain [] (decides_none ∷ []) ended_none ∷ []

-- A live subtransaction is rolled back before the commit goes on.
abbrev pub live_one : List Turn
live_one = on 0 acts.CreateSubtransaction ∷ register 1 one ∷ on 0 (acts.Commit false) ∷ heard 1 phase_hears.Done ∷ []

abbrev pub live_one_shows : List Shown
live_one_shows =
    silent (said.Made 1) phases.Active ∷ silent (said.Made 1) phases.Active
    ∷ busy said.Later (phase_word 1 1 phase_words.Rollback) (effects.SubtransactionEnded 1 false ∷ []) phases.Finishing
    ∷ ending 2 said.Plain (decides_none ∷ []) ended_none ∷ []

-- A commit that tells an aware resource is overtaken: its caller is answered, what it had out is heard no more, and its
-- resources are rolled back at their turn.
abbrev pub overtaken : List Turn
overtaken =
    on 0 acts.CreateSubtransaction ∷ on 1 (acts.RegisterResource one true) ∷ on 1 (acts.Commit false)
    ∷ on 0 (acts.Commit false) ∷ heard 1 phase_hears.Done ∷ heard 2 phase_hears.Done ∷ heard 3 phase_hears.Done ∷ []

abbrev pub overtaken_shows : List Shown
overtaken_shows =
    silent (said.Made 1) phases.Active ∷ silent (said.Made 1) phases.Active
    ∷ busy said.Later (word 1 1 (words.CommitSub (Branch 0))) [] phases.Active
    ∷ record {
      said = said.Later;
      words = word 2 1 words.RollbackSub;
      finished = record { position = 2; said = said.TransactionRolledBack } ∷ [];
      effects = effects.SubtransactionEnded 1 false ∷ [];
      phase = phases.Finishing;
    }
    ∷ silent said.Plain phases.Finishing
    ∷ busy said.Plain (phase_word 3 1 phase_words.Rollback) [] phases.Finishing
    ∷ ending 3 said.Plain (decides_none ∷ []) ended_none ∷ []

-- A mark: nothing more is registered, and a commit rolls back.
abbrev pub marked : List Turn
marked = register 0 one ∷ on 0 acts.RollbackOnly ∷ on 0 acts.RollbackOnly ∷ register 0 other ∷ on 0 (acts.Commit true) ∷ heard 1 phase_hears.Lost ∷ []

abbrev pub marked_shows : List Shown
marked_shows =
    silent (said.Made 1) phases.Active ∷ busy said.Plain [] (effects.Marked 0 ∷ []) phases.Marked
    ∷ silent said.Plain phases.Marked ∷ silent said.TransactionRolledBack phases.Marked
    ∷ busy said.Later (phase_word 1 1 phase_words.Rollback) (effects.Decided (outcomes.Rollback reasons.Marked) ∷ []) phases.RollingBack
    ∷ ending 4 said.TransactionRolledBack [] (phases.Ended (outcomes.Rollback reasons.Marked)) ∷ []

-- The time is over.
abbrev pub timeout : List Turn
timeout = register 0 one ∷ clock 4 ∷ clock 5 ∷ heard 1 phase_hears.Done ∷ on 0 (acts.Commit false) ∷ []

abbrev pub ended_timeout : Phase
ended_timeout = phases.Ended (outcomes.Rollback reasons.Timeout)

abbrev pub timeout_shows : List Shown
timeout_shows =
    silent (said.Made 1) phases.Active ∷ silent said.Plain phases.Active
    ∷ busy said.Plain (phase_word 1 1 phase_words.Rollback) (effects.Decided (outcomes.Rollback reasons.Timeout) ∷ []) phases.RollingBack
    ∷ silent said.Plain ended_timeout ∷ silent said.TransactionRolledBack ended_timeout ∷ []

-- A synchronization is called before and after; where it doesn't answer plainly, the transaction is rolled back.
abbrev pub synchronized : PhaseHeard → List Turn
synchronized answer = on 0 (acts.RegisterSynchronization one) ∷ on 0 (acts.Commit false) ∷ heard 1 answer ∷ heard 2 phase_hears.Done ∷ []

abbrev pub synchronized_shows : List Shown
synchronized_shows =
    silent said.Plain phases.Active ∷ busy said.Later (word 1 1 words.BeforeCompletion) [] phases.Finishing
    ∷ busy said.Plain (word 2 1 (words.AfterCompletion status.Committed)) (decides_none ∷ []) phases.Committing
    ∷ ending 1 said.Plain [] ended_none ∷ []

abbrev pub balked_shows : List Shown
balked_shows =
    silent said.Plain phases.Active ∷ busy said.Later (word 1 1 words.BeforeCompletion) [] phases.Finishing
    ∷ busy said.Plain (word 2 1 (words.AfterCompletion status.RolledBack)) (effects.Decided (outcomes.Rollback (reasons.SyncLost 1)) ∷ []) phases.RollingBack
    ∷ ending 1 said.TransactionRolledBack [] (phases.Ended (outcomes.Rollback (reasons.SyncLost 1))) ∷ []

-- Nobody knows whether the record stands, and a reread finds it.
abbrev pub doubted : List Turn
doubted =
    register 0 one ∷ register 0 other ∷ on 0 (acts.Commit false) ∷ heard 1 (phase_hears.Voted VoteCommit)
    ∷ journal (answers.Unsure (Counted 0 1)) (heard 2 (phase_hears.Voted VoteCommit))
    ∷ stands (on 0 (acts.Reread true)) ∷ heard 3 phase_hears.Done ∷ stands (heard 4 phase_hears.Done) ∷ []

abbrev pub doubted_shows : List Shown
doubted_shows =
    silent (said.Made 1) phases.Active ∷ silent (said.Made 2) phases.Active
    ∷ busy said.Later (phase_word 1 1 phase_words.Prepare) [] phases.Preparing
    ∷ busy said.Plain (phase_word 2 2 phase_words.Prepare) (effects.Voted 1 VoteCommit ∷ []) phases.Preparing
    ∷ ending 2 said.PersistStore (effects.Voted 2 VoteCommit ∷ effects.Doubted ∷ []) phases.Doubt
    ∷ busy said.Plain (phase_word 3 1 phase_words.Commit) (decides_record ∷ []) phases.Committing
    ∷ busy said.Plain (phase_word 4 2 phase_words.Commit) [] phases.Committing
    ∷ busy said.Plain [] (effects.Done ∷ []) ended_record ∷ []

-- A call that comes again acts once: it is answered to try again while it has no answer, and then as it was answered. An
-- answer that comes again changes nothing.
abbrev pub again : List Turn
again =
    register 0 one ∷ keyed 3 (on 0 (acts.Commit false)) ∷ keyed 3 (on 0 (acts.Commit false)) ∷ heard 1 phase_hears.Done
    ∷ heard 1 phase_hears.RolledBack ∷ keyed 3 (on 0 (acts.Commit false)) ∷ []

abbrev pub ended_phase : Phase
ended_phase = phases.Ended (outcomes.Commit grounds.OnePhase)

abbrev pub again_shows : List Shown
again_shows =
    silent (said.Made 1) phases.Active ∷ busy said.Later (phase_word 1 1 phase_words.CommitOnePhase) [] phases.OnePhase
    ∷ silent said.Transient phases.OnePhase
    ∷ ending 1 said.Plain (effects.Decided (outcomes.Commit grounds.OnePhase) ∷ []) ended_phase
    ∷ silent said.Plain ended_phase ∷ silent said.Plain ended_phase ∷ []

-- what each of these runs shows
pub record FamiliesPlay : Type 0 where
  pub two_commit_play : played root two_commit ≡ two_commit_shows
  pub one_refuses_plays : played root one_refuses ≡ one_refuses_shows
  pub nobody_plays : played root nobody ≡ nobody_shows
  pub read_only_plays : played root read_only ≡ read_only_shows
  pub one_phase_lost_plays : played root (one_phase_lost false) ≡ one_phase_lost_shows said.CommFailure
  pub one_phase_lost_is_reported : played root (one_phase_lost true) ≡ one_phase_lost_shows said.HeuristicHazard
  pub parent_rolls_back_plays : played root parent_rolls_back ≡ parent_rolls_back_shows
  pub live_one_plays : played root live_one ≡ live_one_shows
  pub overtaken_plays : played root overtaken ≡ overtaken_shows
  pub marked_plays : played root marked ≡ marked_shows
  pub timeout_plays : played short timeout ≡ timeout_shows
  pub synchronized_plays : played root (synchronized phase_hears.Done) ≡ synchronized_shows
  pub balked_plays : played root (synchronized phase_hears.Other) ≡ balked_shows
  pub doubted_plays : played root doubted ≡ doubted_shows
  pub again_plays : played root again ≡ again_shows
