-- What each call on a transaction is answered, in every phase: the table of the family, computed (our profile where the
-- standard leaves it open).
use Rattle.std.specs.Prelude.{◌≡◌, ℕ, false, List, [], ◌∷◌, ◌++◌, map, None}
use Rattle.ots_model.specs.declared.completion.Doubted.TheVariants.{Counted}
use Rattle.ots_model.specs.declared.completion.Stood.TheVariants.{Unsure}
use Rattle.ots_model.specs.declared.completion.Vote.TheVariants.{VoteCommit}
use Rattle.ots_model.specs.declared.service.Status.{Status}
use Rattle.ots_model.specs.declared.service.Status.TheVariants as status
use Rattle.ots_model.specs.declared.completion.Heard.TheVariants as phase_hears
use Rattle.coordinator.specs.declared.event.Act.{Act}
use Rattle.coordinator.specs.declared.event.Act.TheVariants as acts
use Rattle.coordinator.specs.declared.said.Said.{Said}
use Rattle.coordinator.specs.declared.said.Said.TheVariants as said
use Rattle.coordinator.specs.Family.{Family}
use Rattle.coordinator.specs.Plays.{Turn, root, on, heard, journal, stands, register, one, other, after_all}
use Rattle.coordinator.specs.Step.{family_step}

-- the calls, in this order
abbrev pub calls : List Act
calls =
    acts.RegisterResource other false ∷ acts.RegisterSynchronization other ∷ acts.CreateSubtransaction ∷ acts.RollbackOnly
    ∷ acts.Commit false ∷ acts.Rollback ∷ acts.Replay 1 one ∷ acts.GetStatus ∷ []

-- what each is answered at once, on a branch of this family
abbrev pub answers_on : ℕ → Family → List Said
answers_on branch f = map (λ act. (family_step f (on branch act).event None).said) calls

-- a family after some turns
abbrev pub after_turns : List Turn → Family
after_turns turns = after_all root turns

abbrev pub begun_commit : Turn
begun_commit = on 0 (acts.Commit false)

-- a transaction with one resource, in each phase
abbrev pub active : List Turn
active = register 0 one ∷ []

abbrev pub marked : List Turn
marked = active ++ on 0 acts.RollbackOnly ∷ []

abbrev pub finishing : List Turn
finishing = active ++ on 0 (acts.RegisterSynchronization one) ∷ begun_commit ∷ []

abbrev pub finishing_marked : List Turn
finishing_marked = finishing ++ on 0 acts.RollbackOnly ∷ []

abbrev pub one_phase : List Turn
one_phase = active ++ begun_commit ∷ []

abbrev pub unknown : List Turn
unknown = one_phase ++ heard 1 phase_hears.Lost ∷ []

abbrev pub rolling_back : List Turn
rolling_back = active ++ on 0 acts.Rollback ∷ []

abbrev pub rolled_back : List Turn
rolled_back = rolling_back ++ heard 1 phase_hears.Done ∷ []

-- with two
abbrev pub preparing : List Turn
preparing = active ++ register 0 other ∷ begun_commit ∷ []

abbrev pub one_vote : List Turn
one_vote = preparing ++ heard 1 (phase_hears.Voted VoteCommit) ∷ []

abbrev pub doubt : List Turn
doubt = one_vote ++ journal (Unsure (Counted 0 1)) (heard 2 (phase_hears.Voted VoteCommit)) ∷ []

abbrev pub committing : List Turn
committing = one_vote ++ stands (heard 2 (phase_hears.Voted VoteCommit)) ∷ []

abbrev pub committed : List Turn
committed = committing ++ heard 3 phase_hears.Done ∷ stands (heard 4 phase_hears.Done) ∷ []

-- with a subtransaction, in each of its states
abbrev pub sub_active : List Turn
sub_active = active ++ on 0 acts.CreateSubtransaction ∷ []

abbrev pub sub_marked : List Turn
sub_marked = sub_active ++ on 1 acts.RollbackOnly ∷ []

abbrev pub sub_ending : List Turn
sub_ending = sub_active ++ on 1 (acts.RegisterSubtranAware other) ∷ on 1 (acts.Commit false) ∷ []

abbrev pub sub_committed : List Turn
sub_committed = sub_active ++ on 1 (acts.Commit false) ∷ []

abbrev pub sub_rolled_back : List Turn
sub_rolled_back = sub_active ++ on 1 acts.Rollback ∷ []

-- and one whose parent is rolling back, before its turn
abbrev pub orphan : List Turn
orphan =
    sub_active ++ on 1 acts.CreateSubtransaction ∷ on 1 acts.CreateSubtransaction ∷ register 3 other ∷ on 1 acts.Rollback ∷ []

-- all registrations are refused so, and then come these answers
abbrev pub closed : Said → Said → Said → Status → List Said
closed commit rollback replay s = said.Inactive ∷ said.Inactive ∷ said.Inactive ∷ said.Inactive ∷ commit ∷ rollback ∷ replay ∷ said.State s ∷ []

-- the same of a subtransaction
abbrev pub sub_closed : Said → Said → Status → List Said
sub_closed commit rollback s =
    said.Inactive ∷ said.SynchronizationUnavailable ∷ said.Inactive ∷ said.Inactive ∷ commit ∷ rollback ∷ said.NotPrepared ∷ said.State s ∷ []

-- the answers in each phase
pub record AnswersByPhase : Type 0 where
  pub in_active : answers_on 0 (after_turns active)
      ≡ said.Made 2 ∷ said.Plain ∷ said.Made 1 ∷ said.Plain ∷ said.Later ∷ said.Later ∷ said.NotPrepared ∷ said.State status.Active ∷ []
  pub in_marked : answers_on 0 (after_turns marked)
      ≡ said.TransactionRolledBack ∷ said.TransactionRolledBack ∷ said.TransactionRolledBack ∷ said.Plain ∷ said.Later ∷ said.Later ∷ said.NotPrepared
      ∷ said.State status.MarkedRollback ∷ []
  pub in_finishing : answers_on 0 (after_turns finishing)
      ≡ said.Made 2 ∷ said.Plain ∷ said.Inactive ∷ said.Plain ∷ said.InvalidTransaction ∷ said.InvalidTransaction ∷ said.NotPrepared
      ∷ said.State status.Active ∷ []
  pub in_finishing_marked : answers_on 0 (after_turns finishing_marked)
      ≡ said.TransactionRolledBack ∷ said.TransactionRolledBack ∷ said.Inactive ∷ said.Plain ∷ said.InvalidTransaction ∷ said.InvalidTransaction
      ∷ said.NotPrepared ∷ said.State status.MarkedRollback ∷ []
  pub in_preparing : answers_on 0 (after_turns preparing) ≡ closed said.InvalidTransaction said.InvalidTransaction said.NotPrepared status.Preparing
  pub of_a_voter : answers_on 0 (after_turns one_vote) ≡ closed said.InvalidTransaction said.InvalidTransaction (said.State status.Preparing) status.Preparing
  pub in_one_phase : answers_on 0 (after_turns one_phase) ≡ closed said.InvalidTransaction said.InvalidTransaction said.NotPrepared status.Unknown
  pub in_doubt : answers_on 0 (after_turns doubt) ≡ closed said.InvalidTransaction said.InvalidTransaction (said.State status.Unknown) status.Unknown
  pub in_committing : answers_on 0 (after_turns committing)
      ≡ closed said.InvalidTransaction said.InvalidTransaction (said.State status.Committing) status.Committing
  pub in_rolling_back : answers_on 0 (after_turns rolling_back)
      ≡ closed said.TransactionRolledBack said.Plain (said.State status.RollingBack) status.RollingBack
  pub in_committed : answers_on 0 (after_turns committed) ≡ closed said.InvalidTransaction said.InvalidTransaction (said.State status.Committed) status.Committed
  pub in_rolled_back : answers_on 0 (after_turns rolled_back)
      ≡ closed said.TransactionRolledBack said.Plain (said.State status.RolledBack) status.RolledBack
  pub in_unknown : answers_on 0 (after_turns unknown) ≡ closed said.InvalidTransaction said.InvalidTransaction (said.State status.Unknown) status.Unknown
  pub of_an_active_sub : answers_on 1 (after_turns sub_active)
      ≡ said.Made 2 ∷ said.SynchronizationUnavailable ∷ said.Made 2 ∷ said.Plain ∷ said.Plain ∷ said.Plain ∷ said.NotPrepared ∷ said.State status.Active ∷ []
  pub of_a_marked_sub : answers_on 1 (after_turns sub_marked)
      ≡ said.TransactionRolledBack ∷ said.SynchronizationUnavailable ∷ said.TransactionRolledBack ∷ said.Plain ∷ said.TransactionRolledBack ∷ said.Plain
      ∷ said.NotPrepared ∷ said.State status.MarkedRollback ∷ []
  pub of_an_ending_sub : answers_on 1 (after_turns sub_ending) ≡ sub_closed said.InvalidTransaction said.InvalidTransaction status.Committing
  pub of_a_committed_sub : answers_on 1 (after_turns sub_committed) ≡ sub_closed said.InvalidTransaction said.InvalidTransaction status.Committed
  pub of_a_rolled_back_sub : answers_on 1 (after_turns sub_rolled_back) ≡ sub_closed said.TransactionRolledBack said.Plain status.RolledBack
  pub of_an_orphan : answers_on 2 (after_turns orphan)
      ≡ said.Made 3 ∷ said.SynchronizationUnavailable ∷ said.Made 4 ∷ said.Plain ∷ said.TransactionRolledBack ∷ said.Plain ∷ said.NotPrepared
      ∷ said.State status.Active ∷ []
