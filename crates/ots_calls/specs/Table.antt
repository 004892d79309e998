-- The operations (Transaction Service 1.4, module CosTransactions; CORBA, interface Object), and the interface Cells of
-- our profile. Each row of one table says, of an operation, its interface, its name, what it takes, what it gives, and
-- which user exceptions it raises.
use Rattle.std.specs.Prelude.{ℕ, Bool, ◌&&◌, ◌==◌, List, [], ◌∷◌, Option, find, codes}
use Rattle.std.specs.List.{list_any}
use Rattle.std.specs.Str.{bytes_eq}
use Rattle.ots_calls.specs.declared.interface.Interface.{Interface}
use Rattle.ots_calls.specs.declared.interface.Interface.TheVariants.{TransactionFactory, Control, Terminator, Coordinator, RecoveryCoordinator, Resource, Synchronization, SubtransactionAwareResource, Cells, Object}
use Rattle.ots_calls.specs.declared.operation.Bare.TheVariants.{GetTerminator, GetCoordinator, RollbackTransaction, GetStatus, GetParentStatus, GetTopLevelStatus, IsTopLevelTransaction, HashTransaction, HashTopLevelTran, RollbackOnly, GetTransactionName, CreateSubtransaction, GetTxcontext, Prepare, Rollback, Commit, CommitOnePhase, Forget, BeforeCompletion, RollbackSubtransaction, NonExistent}
use Rattle.ots_calls.specs.declared.operation.Handing.TheVariants.{IsSameTransaction, IsRelatedTransaction, IsAncestorTransaction, IsDescendantTransaction, RegisterResource, RegisterSynchronization, RegisterSubtranAware, ReplayCompletion, CommitSubtransaction}
use Rattle.ots_calls.specs.declared.operation.Operation.{Operation}
use Rattle.ots_calls.specs.declared.operation.Operation.TheVariants.{Bare, Handing, Create, Recreate, CommitTransaction, AfterCompletion, Put, Get, IsA}
use Rattle.ots_calls.specs.declared.gives.Gives.{Gives}
use Rattle.ots_calls.specs.declared.gives.Gives.TheVariants as given
use Rattle.ots_calls.specs.declared.exception.UserException.{UserException}
use Rattle.ots_calls.specs.declared.exception.UserException.TheVariants.{HeuristicRollback, HeuristicCommit, HeuristicMixed, HeuristicHazard, Inactive, NotPrepared, NotSubtransaction, SubtransactionsUnavailable, SynchronizationUnavailable, Unavailable}

-- the shapes of what an operation takes
pub data Shape : Type 0 where
  -- nothing
  Void : Shape
  Flag : Shape
  -- an unsigned long
  Number : Shape
  Reference : Shape
  -- a Status
  State : Shape
  -- a string
  Word : Shape
  -- a PropagationContext
  Transaction : Shape
  -- the number of a cell; that and a value
  Cell : Shape
  CellAndValue : Shape

-- the kinds of keys whose objects have an interface: of Resource also the resource of a subordinate, and one that is aware
-- of subtransactions; of every object all of them
abbrev pub kinds_of : Interface → List ℕ
kinds_of TransactionFactory = codes "F"
kinds_of Control = codes "C"
kinds_of Terminator = codes "T"
kinds_of Coordinator = codes "K"
kinds_of RecoveryCoordinator = codes "V"
kinds_of Resource = codes "RUA"
kinds_of Synchronization = codes "Y"
kinds_of SubtransactionAwareResource = codes "A"
kinds_of Cells = codes "D"
kinds_of Object = codes "FCTKVRUYAD"

pub record Row : Type 0 where
  pub interface : Interface
  pub word : List ℕ
  pub takes : Shape
  pub gives : Gives
  pub raises : List UserException

abbrev row : Interface → List ℕ → Shape → Gives → List UserException → Row
row interface word takes gives raises = record {
  interface = interface;
  word = word;
  takes = takes;
  gives = gives;
  raises = raises;
}

-- the row of an operation
abbrev pub row_of : Operation → Row
row_of Create = row TransactionFactory (codes "create") Number given.Reference []
row_of Recreate = row TransactionFactory (codes "recreate") Transaction given.Reference []
row_of (Bare GetTerminator) = row Control (codes "get_terminator") Void given.Reference (Unavailable ∷ [])
row_of (Bare GetCoordinator) = row Control (codes "get_coordinator") Void given.Reference (Unavailable ∷ [])
row_of CommitTransaction = row Terminator (codes "commit") Flag given.Nothing (HeuristicMixed ∷ HeuristicHazard ∷ [])
row_of (Bare RollbackTransaction) = row Terminator (codes "rollback") Void given.Nothing []
row_of (Bare GetStatus) = row Coordinator (codes "get_status") Void given.State []
row_of (Bare GetParentStatus) = row Coordinator (codes "get_parent_status") Void given.State []
row_of (Bare GetTopLevelStatus) = row Coordinator (codes "get_top_level_status") Void given.State []
row_of (Handing IsSameTransaction) = row Coordinator (codes "is_same_transaction") Reference given.Flag []
row_of (Handing IsRelatedTransaction) = row Coordinator (codes "is_related_transaction") Reference given.Flag []
row_of (Handing IsAncestorTransaction) = row Coordinator (codes "is_ancestor_transaction") Reference given.Flag []
row_of (Handing IsDescendantTransaction) = row Coordinator (codes "is_descendant_transaction") Reference given.Flag []
row_of (Bare IsTopLevelTransaction) = row Coordinator (codes "is_top_level_transaction") Void given.Flag []
row_of (Bare HashTransaction) = row Coordinator (codes "hash_transaction") Void given.Number []
row_of (Bare HashTopLevelTran) = row Coordinator (codes "hash_top_level_tran") Void given.Number []
row_of (Handing RegisterResource) = row Coordinator (codes "register_resource") Reference given.Reference (Inactive ∷ [])
row_of (Handing RegisterSynchronization) = row Coordinator (codes "register_synchronization") Reference given.Nothing (Inactive ∷ SynchronizationUnavailable ∷ [])
row_of (Handing RegisterSubtranAware) = row Coordinator (codes "register_subtran_aware") Reference given.Nothing (Inactive ∷ NotSubtransaction ∷ [])
row_of (Bare RollbackOnly) = row Coordinator (codes "rollback_only") Void given.Nothing (Inactive ∷ [])
row_of (Bare GetTransactionName) = row Coordinator (codes "get_transaction_name") Void given.Word []
row_of (Bare CreateSubtransaction) = row Coordinator (codes "create_subtransaction") Void given.Reference (SubtransactionsUnavailable ∷ Inactive ∷ [])
row_of (Bare GetTxcontext) = row Coordinator (codes "get_txcontext") Void given.Transaction (Unavailable ∷ [])
row_of (Handing ReplayCompletion) = row RecoveryCoordinator (codes "replay_completion") Reference given.State (NotPrepared ∷ [])
row_of (Bare Prepare) = row Resource (codes "prepare") Void given.Ballot (HeuristicMixed ∷ HeuristicHazard ∷ [])
row_of (Bare Rollback) = row Resource (codes "rollback") Void given.Nothing (HeuristicCommit ∷ HeuristicMixed ∷ HeuristicHazard ∷ [])
row_of (Bare Commit) = row Resource (codes "commit") Void given.Nothing (NotPrepared ∷ HeuristicRollback ∷ HeuristicMixed ∷ HeuristicHazard ∷ [])
row_of (Bare CommitOnePhase) = row Resource (codes "commit_one_phase") Void given.Nothing (HeuristicHazard ∷ [])
row_of (Bare Forget) = row Resource (codes "forget") Void given.Nothing []
row_of (Bare BeforeCompletion) = row Synchronization (codes "before_completion") Void given.Nothing []
row_of AfterCompletion = row Synchronization (codes "after_completion") State given.Nothing []
row_of (Handing CommitSubtransaction) = row SubtransactionAwareResource (codes "commit_subtransaction") Reference given.Nothing []
row_of (Bare RollbackSubtransaction) = row SubtransactionAwareResource (codes "rollback_subtransaction") Void given.Nothing []
row_of Put = row Cells (codes "put") CellAndValue given.Nothing []
row_of Get = row Cells (codes "get") Cell given.Found []
row_of IsA = row Object (codes "_is_a") Word given.Flag []
row_of (Bare NonExistent) = row Object (codes "_non_existent") Void given.Flag []

-- the operations of the table
abbrev pub operations : List Operation
operations =
    Create ∷ Recreate ∷ Bare GetTerminator ∷ Bare GetCoordinator ∷ CommitTransaction ∷ Bare RollbackTransaction
    ∷ Handing ReplayCompletion ∷ Bare BeforeCompletion ∷ AfterCompletion ∷ Put ∷ Get ∷ Handing CommitSubtransaction
    ∷ Bare RollbackSubtransaction ∷ Bare Prepare ∷ Bare Rollback ∷ Bare Commit ∷ Bare CommitOnePhase ∷ Bare Forget
    ∷ Bare GetStatus ∷ Bare GetParentStatus ∷ Bare GetTopLevelStatus ∷ Bare IsTopLevelTransaction
    ∷ Bare HashTransaction ∷ Bare HashTopLevelTran ∷ Bare RollbackOnly ∷ Bare GetTransactionName
    ∷ Bare CreateSubtransaction ∷ Bare GetTxcontext ∷ Handing IsSameTransaction
    ∷ Handing IsRelatedTransaction ∷ Handing IsAncestorTransaction ∷ Handing IsDescendantTransaction
    ∷ Handing RegisterResource ∷ Handing RegisterSynchronization ∷ Handing RegisterSubtranAware ∷ IsA
    ∷ Bare NonExistent ∷ []

-- the name of an operation
abbrev pub word_of : Operation → List ℕ
word_of operation = (row_of operation).word

-- objects with keys of this kind have the operation
abbrev pub serves : ℕ → Operation → Bool
serves kind operation = list_any (λ one. kind == one) (kinds_of (row_of operation).interface)

-- the operation of that name which objects of this kind have
unfoldable pub operation_named : ℕ → List ℕ → Option Operation
operation_named kind word = find (λ operation. serves kind operation && bytes_eq word (word_of operation)) operations
