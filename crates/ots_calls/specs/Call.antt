-- Which octets are the body of a call (Transaction Service 1.4, module CosTransactions; CORBA, General Inter-ORB
-- Protocol, Request Body): the values of the parameters in order. That some octets may be left is our profile.
use Rattle.std.specs.Prelude.{◌≡◌, ◌≤◌, ℕ, List, [], ◌∷◌, length, IsTrue}
use Rattle.cdr_values.specs.Value.{Value, Boolean, ULong, ULongLong, Text}
use Rattle.cdr_values.specs.Values.{ReadsAll}
use Rattle.cdr_values.specs.Reading.{Reading}
use Rattle.cdr_values.specs.Tagged.{reference_values}
use Rattle.ior_refs.specs.Reference.{is_short, nil}
use Rattle.ots_model.specs.declared.service.Status.{Status}
use Rattle.ots_model.specs.declared.service.Status.TheVariants as statuses
use Rattle.ots_context.specs.Context.{StandsAsContext}
use Rattle.ots_calls.specs.Limits.{left_limit}
use Rattle.ots_calls.specs.Table.{Shape, Void, Flag, Number, Reference, State, Word, Transaction, Cell, CellAndValue}
use Rattle.ots_calls.specs.declared.operation.Operation.{Operation}
use Rattle.ots_calls.specs.declared.operation.Operation.TheVariants as operations
use Rattle.ots_calls.specs.declared.call.Call.{Call}
use Rattle.ots_calls.specs.declared.call.Call.TheVariants as calls

-- the row of a call
abbrev pub operation_of : Call → Operation
operation_of (calls.Bare bare) = operations.Bare bare
operation_of (calls.Handing handing reference) = operations.Handing handing
operation_of (calls.Create time_out) = operations.Create
operation_of (calls.Recreate context) = operations.Recreate
operation_of (calls.CommitTransaction report_heuristics) = operations.CommitTransaction
operation_of (calls.AfterCompletion status) = operations.AfterCompletion
operation_of (calls.Put cell value) = operations.Put
operation_of (calls.Get cell) = operations.Get
operation_of (calls.IsA id) = operations.IsA

-- the shape of what a call hands over
abbrev pub shape_of : Call → Shape
shape_of (calls.Bare bare) = Void
shape_of (calls.Handing handing reference) = Reference
shape_of (calls.Create time_out) = Number
shape_of (calls.Recreate context) = Transaction
shape_of (calls.CommitTransaction report_heuristics) = Flag
shape_of (calls.AfterCompletion status) = State
shape_of (calls.Put cell value) = CellAndValue
shape_of (calls.Get cell) = Cell
shape_of (calls.IsA id) = Word

-- the number of a Status
abbrev pub status_number : Status → ℕ
status_number statuses.Active = 0
status_number statuses.MarkedRollback = 1
status_number statuses.Prepared = 2
status_number statuses.Committed = 3
status_number statuses.RolledBack = 4
status_number statuses.Unknown = 5
status_number statuses.NoTransaction = 6
status_number statuses.Preparing = 7
status_number statuses.Committing = 8
status_number statuses.RollingBack = 9

-- the values of a call's parameters, but for a context, which is told otherwise
abbrev pub arguments : Call → List Value
arguments (calls.Bare bare) = []
arguments (calls.Handing handing reference) = reference_values reference
arguments (calls.Create time_out) = ULong time_out ∷ []
arguments (calls.Recreate context) = []
arguments (calls.CommitTransaction report_heuristics) = Boolean report_heuristics ∷ []
arguments (calls.AfterCompletion status) = ULong (status_number status) ∷ []
arguments (calls.Put cell value) = ULongLong cell ∷ ULongLong value ∷ []
arguments (calls.Get cell) = ULongLong cell ∷ []
arguments (calls.IsA id) = Text id ∷ []

-- the values are what a reader has left, but for a few octets
pub record AreLeft (values : List Value) (r : Reading) : Type 0 where
  pub behind : Reading
  pub stand : ReadsAll r values behind
  pub few : length behind.rest ≤ left_limit

-- what a reader has left is the body of the call. A reference is not too long, and names an object; a context is all
-- that is left.
abbrev pub IsBody : Call → Reading → Type 0
IsBody (calls.Handing handing reference) r =
    AreLeft (reference_values reference) r × IsTrue (is_short reference) × ¬ (reference ≡ nil)
IsBody (calls.Recreate context) r = StandsAsContext context r
IsBody call r = AreLeft (arguments call) r
