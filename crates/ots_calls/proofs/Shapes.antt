-- What a call hands over is what the row of its operation takes.
use Rattle.std.proofs.Common.{◌≡◌, refl}
use Rattle.ots_calls.specs.Call.{operation_of, shape_of}
use Rattle.ots_calls.specs.Table.{row_of}
use Rattle.ots_calls.specs.declared.operation.Bare.TheVariants as bare
use Rattle.ots_calls.specs.declared.operation.Handing.TheVariants as handing
use Rattle.ots_calls.specs.declared.call.Call.{Call}
use Rattle.ots_calls.specs.declared.call.Call.TheVariants as calls

pub takes : (call : Call) → shape_of call ≡ (row_of (operation_of call)).takes
takes (calls.Bare bare.GetTerminator) = refl
takes (calls.Bare bare.GetCoordinator) = refl
takes (calls.Bare bare.RollbackTransaction) = refl
takes (calls.Bare bare.GetStatus) = refl
takes (calls.Bare bare.GetParentStatus) = refl
takes (calls.Bare bare.GetTopLevelStatus) = refl
takes (calls.Bare bare.IsTopLevelTransaction) = refl
takes (calls.Bare bare.HashTransaction) = refl
takes (calls.Bare bare.HashTopLevelTran) = refl
takes (calls.Bare bare.RollbackOnly) = refl
takes (calls.Bare bare.GetTransactionName) = refl
takes (calls.Bare bare.CreateSubtransaction) = refl
takes (calls.Bare bare.GetTxcontext) = refl
takes (calls.Bare bare.Prepare) = refl
takes (calls.Bare bare.Rollback) = refl
takes (calls.Bare bare.Commit) = refl
takes (calls.Bare bare.CommitOnePhase) = refl
takes (calls.Bare bare.Forget) = refl
takes (calls.Bare bare.BeforeCompletion) = refl
takes (calls.Bare bare.RollbackSubtransaction) = refl
takes (calls.Bare bare.NonExistent) = refl
takes (calls.Handing handing.IsSameTransaction reference) = refl
takes (calls.Handing handing.IsRelatedTransaction reference) = refl
takes (calls.Handing handing.IsAncestorTransaction reference) = refl
takes (calls.Handing handing.IsDescendantTransaction reference) = refl
takes (calls.Handing handing.RegisterResource reference) = refl
takes (calls.Handing handing.RegisterSynchronization reference) = refl
takes (calls.Handing handing.RegisterSubtranAware reference) = refl
takes (calls.Handing handing.ReplayCompletion reference) = refl
takes (calls.Handing handing.CommitSubtransaction reference) = refl
takes (calls.Create time_out) = refl
takes (calls.Recreate context) = refl
takes (calls.CommitTransaction report_heuristics) = refl
takes (calls.AfterCompletion status) = refl
takes (calls.Put cell value) = refl
takes (calls.Get cell) = refl
takes (calls.IsA id) = refl
