-- The names of operations are short, and have no NUL.
use Rattle.std.proofs.Common.{◌≡◌, ◌≤◌, false, refl, length, arith}
use Rattle.cdr_values.specs.Value.{has_nul}
use Rattle.ots_calls.specs.declared.operation.Bare.TheVariants.{GetTerminator, GetCoordinator, RollbackTransaction, GetStatus, GetParentStatus, GetTopLevelStatus, IsTopLevelTransaction, HashTransaction, HashTopLevelTran, RollbackOnly, GetTransactionName, CreateSubtransaction, GetTxcontext, Prepare, Rollback, Commit, CommitOnePhase, Forget, BeforeCompletion, RollbackSubtransaction, NonExistent}
use Rattle.ots_calls.specs.declared.operation.Handing.TheVariants.{IsSameTransaction, IsRelatedTransaction, IsAncestorTransaction, IsDescendantTransaction, RegisterResource, RegisterSynchronization, RegisterSubtranAware, ReplayCompletion, CommitSubtransaction}
use Rattle.ots_calls.specs.declared.operation.Operation.{Operation}
use Rattle.ots_calls.specs.declared.operation.Operation.TheVariants.{Bare, Handing, Create, Recreate, CommitTransaction, AfterCompletion, Put, Get, IsA}
use Rattle.ots_calls.specs.Table.{word_of}

pub word_plain : (operation : Operation) → has_nul (word_of operation) ≡ false
word_plain (Bare GetTerminator) = refl
word_plain (Bare GetCoordinator) = refl
word_plain (Bare RollbackTransaction) = refl
word_plain (Bare GetStatus) = refl
word_plain (Bare GetParentStatus) = refl
word_plain (Bare GetTopLevelStatus) = refl
word_plain (Bare IsTopLevelTransaction) = refl
word_plain (Bare HashTransaction) = refl
word_plain (Bare HashTopLevelTran) = refl
word_plain (Bare RollbackOnly) = refl
word_plain (Bare GetTransactionName) = refl
word_plain (Bare CreateSubtransaction) = refl
word_plain (Bare GetTxcontext) = refl
word_plain (Bare Prepare) = refl
word_plain (Bare Rollback) = refl
word_plain (Bare Commit) = refl
word_plain (Bare CommitOnePhase) = refl
word_plain (Bare Forget) = refl
word_plain (Bare BeforeCompletion) = refl
word_plain (Bare RollbackSubtransaction) = refl
word_plain (Bare NonExistent) = refl
word_plain (Handing IsSameTransaction) = refl
word_plain (Handing IsRelatedTransaction) = refl
word_plain (Handing IsAncestorTransaction) = refl
word_plain (Handing IsDescendantTransaction) = refl
word_plain (Handing RegisterResource) = refl
word_plain (Handing RegisterSynchronization) = refl
word_plain (Handing RegisterSubtranAware) = refl
word_plain (Handing ReplayCompletion) = refl
word_plain (Handing CommitSubtransaction) = refl
word_plain Create = refl
word_plain Recreate = refl
word_plain CommitTransaction = refl
word_plain AfterCompletion = refl
word_plain Put = refl
word_plain Get = refl
word_plain IsA = refl

pub word_short : (operation : Operation) → length (word_of operation) ≤ 25
word_short (Bare GetTerminator) = omega arith
word_short (Bare GetCoordinator) = omega arith
word_short (Bare RollbackTransaction) = omega arith
word_short (Bare GetStatus) = omega arith
word_short (Bare GetParentStatus) = omega arith
word_short (Bare GetTopLevelStatus) = omega arith
word_short (Bare IsTopLevelTransaction) = omega arith
word_short (Bare HashTransaction) = omega arith
word_short (Bare HashTopLevelTran) = omega arith
word_short (Bare RollbackOnly) = omega arith
word_short (Bare GetTransactionName) = omega arith
word_short (Bare CreateSubtransaction) = omega arith
word_short (Bare GetTxcontext) = omega arith
word_short (Bare Prepare) = omega arith
word_short (Bare Rollback) = omega arith
word_short (Bare Commit) = omega arith
word_short (Bare CommitOnePhase) = omega arith
word_short (Bare Forget) = omega arith
word_short (Bare BeforeCompletion) = omega arith
word_short (Bare RollbackSubtransaction) = omega arith
word_short (Bare NonExistent) = omega arith
word_short (Handing IsSameTransaction) = omega arith
word_short (Handing IsRelatedTransaction) = omega arith
word_short (Handing IsAncestorTransaction) = omega arith
word_short (Handing IsDescendantTransaction) = omega arith
word_short (Handing RegisterResource) = omega arith
word_short (Handing RegisterSynchronization) = omega arith
word_short (Handing RegisterSubtranAware) = omega arith
word_short (Handing ReplayCompletion) = omega arith
word_short (Handing CommitSubtransaction) = omega arith
word_short Create = omega arith
word_short Recreate = omega arith
word_short CommitTransaction = omega arith
word_short AfterCompletion = omega arith
word_short Put = omega arith
word_short Get = omega arith
word_short IsA = omega arith
