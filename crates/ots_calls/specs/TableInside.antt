-- The operations by the lengths of their names, of which each has few.
use Rattle.std.specs.Prelude.{ℕ, List, [], ◌∷◌, slice_index_or}
use Rattle.ots_calls.specs.declared.operation.Bare.TheVariants.{GetTerminator, GetCoordinator, RollbackTransaction, GetStatus, GetParentStatus, GetTopLevelStatus, IsTopLevelTransaction, HashTransaction, HashTopLevelTran, RollbackOnly, GetTransactionName, CreateSubtransaction, GetTxcontext, Prepare, Rollback, Commit, CommitOnePhase, Forget, BeforeCompletion, RollbackSubtransaction, NonExistent}
use Rattle.ots_calls.specs.declared.operation.Handing.TheVariants.{IsSameTransaction, IsRelatedTransaction, IsAncestorTransaction, IsDescendantTransaction, RegisterResource, RegisterSynchronization, RegisterSubtranAware, ReplayCompletion, CommitSubtransaction}
use Rattle.ots_calls.specs.declared.operation.Operation.{Operation}
use Rattle.ots_calls.specs.declared.operation.Operation.TheVariants.{Bare, Handing, Create, Recreate, CommitTransaction, AfterCompletion, Put, Get, IsA}

-- those whose names have no octets, one, two and so on
abbrev pub by_length : List (List Operation)
by_length =
    []
    ∷ []
    ∷ []
    ∷ (Put ∷ Get ∷ [])
    ∷ []
    ∷ (IsA ∷ [])
    ∷ (Create ∷ CommitTransaction ∷ Bare Commit ∷ Bare Forget ∷ [])
    ∷ (Bare Prepare ∷ [])
    ∷ (Recreate ∷ Bare RollbackTransaction ∷ Bare Rollback ∷ [])
    ∷ []
    ∷ (Bare GetStatus ∷ [])
    ∷ []
    ∷ []
    ∷ (Bare RollbackOnly ∷ Bare GetTxcontext ∷ Bare NonExistent ∷ [])
    ∷ (Bare GetTerminator ∷ [])
    ∷ (Bare GetCoordinator ∷ [])
    ∷ (Bare HashTransaction ∷ Bare CommitOnePhase ∷ AfterCompletion ∷ [])
    ∷ (Bare GetParentStatus ∷ Handing RegisterResource ∷ Handing ReplayCompletion ∷ Bare BeforeCompletion ∷ [])
    ∷ []
    ∷ (Handing IsSameTransaction ∷ Bare HashTopLevelTran ∷ [])
    ∷ (Bare GetTopLevelStatus ∷ Bare GetTransactionName ∷ [])
    ∷ (Bare CreateSubtransaction ∷ Handing CommitSubtransaction ∷ [])
    ∷ (Handing IsRelatedTransaction ∷ Handing RegisterSubtranAware ∷ [])
    ∷ (Handing IsAncestorTransaction ∷ Bare RollbackSubtransaction ∷ [])
    ∷ (Bare IsTopLevelTransaction ∷ Handing RegisterSynchronization ∷ [])
    ∷ (Handing IsDescendantTransaction ∷ [])
    ∷ []

-- the operations whose names have so many octets
abbrev pub of_length : ℕ → List Operation
of_length length = slice_index_or by_length length []
