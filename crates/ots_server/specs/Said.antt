-- What a call is answered of which this is said (Transaction Service 1.4, module CosTransactions; which completion_status a system
-- exception has is our profile).
use Rattle.std.specs.Prelude.{ℕ, Option, Some, None}
use Rattle.std.specs.Option.{option_map}
use Rattle.ior_refs.specs.declared.key.ObjectKey.{ObjectKey}
use Rattle.ots_calls.specs.declared.answer.Answer.{Answer}
use Rattle.ots_calls.specs.declared.answer.Answer.TheVariants as answers
use Rattle.ots_calls.specs.declared.answer.Completed.{Completed}
use Rattle.ots_calls.specs.declared.answer.Completed.TheVariants as completed
use Rattle.ots_calls.specs.declared.answer.Given.{Given}
use Rattle.ots_calls.specs.declared.answer.Given.TheVariants as given
use Rattle.ots_calls.specs.declared.call.Call.{Call}
use Rattle.ots_calls.specs.declared.call.Call.TheVariants as calls
use Rattle.ots_calls.specs.declared.exception.UserException.{UserException}
use Rattle.ots_calls.specs.declared.exception.UserException.TheVariants as users
use Rattle.ots_calls.specs.declared.operation.Bare.TheVariants as bares
use Rattle.ots_calls.specs.declared.operation.Handing.TheVariants as handings
use Rattle.ots_calls.specs.declared.system.SystemException.{SystemException}
use Rattle.ots_calls.specs.declared.system.SystemException.TheVariants as systems
use Rattle.ots_context.specs.declared.context.Context.{Context}
use Rattle.ots_model.specs.declared.service.Endpoint.{Endpoint}
use Rattle.coordinator.specs.declared.said.Said.{Said}
use Rattle.coordinator.specs.declared.said.Said.TheVariants as says
use Rattle.ots_sessions.specs.References.{reference_to}

-- the reference to another object of the family whose object was called, by its letter and its number
abbrev pub sibling : Endpoint → ObjectKey → ℕ → ℕ → Given
sibling at key kind index = given.Reference (reference_to at (record key { kind = kind; index = index }))

-- what a call gives that was done: a terminator (T), a coordinator (K), a context, or nothing
abbrev pub given_plainly : Endpoint → ObjectKey → Call → Option Context → Option Given
given_plainly at key (calls.Bare bares.GetTerminator) context = Some (sibling at key 84 key.index)
given_plainly at key (calls.Bare bares.GetCoordinator) context = Some (sibling at key 75 key.index)
given_plainly at key (calls.Bare bares.GetTxcontext) context = option_map given.Transaction context
given_plainly at key call context = Some given.Nothing

-- what a call gives that has made something with this number: the control (C) of a subtransaction, the recovery coordinator (V) of
-- a resource, or nothing
abbrev pub given_made : Endpoint → ObjectKey → Call → ℕ → Given
given_made at key (calls.Bare bares.CreateSubtransaction) number = sibling at key 67 number
given_made at key (calls.Handing handings.RegisterResource reference) number = sibling at key 86 number
given_made at key call number = given.Nothing

-- what a call gives of which this is said; an exception gives nothing
abbrev pub given_by : Endpoint → ObjectKey → Call → Option Context → Said → Option Given
given_by at key call context says.Plain = given_plainly at key call context
given_by at key call context (says.Made number) = Some (given_made at key call number)
given_by at key call context (says.Flag flag) = Some (given.Flag flag)
given_by at key call context (says.State status) = Some (given.State status)
given_by at key call context (says.Number number) = Some (given.Number number)
given_by at key call context (says.Name name) = Some (given.Word name)
given_by at key call context (says.Voted vote) = Some (given.Ballot vote)
given_by at key call context said = None

-- the user exceptions
abbrev pub user_exception : Said → Option UserException
user_exception says.HeuristicMixed = Some users.HeuristicMixed
user_exception says.HeuristicHazard = Some users.HeuristicHazard
user_exception says.HeuristicRollback = Some users.HeuristicRollback
user_exception says.HeuristicCommit = Some users.HeuristicCommit
user_exception says.Inactive = Some users.Inactive
user_exception says.NotPrepared = Some users.NotPrepared
user_exception says.Unavailable = Some users.Unavailable
user_exception says.NotSubtransaction = Some users.NotSubtransaction
user_exception says.SynchronizationUnavailable = Some users.SynchronizationUnavailable
user_exception says.SubtransactionsUnavailable = Some users.SubtransactionsUnavailable
user_exception said = None

-- what TRANSACTION_ROLLEDBACK says of the call: the commit of a terminator was done so, and nothing else was done
abbrev pub rolled_back_completion : Call → Completed
rolled_back_completion (calls.CommitTransaction asked) = completed.Yes
rolled_back_completion call = completed.No

-- the system exceptions
abbrev pub system_exception : Said → SystemException
system_exception says.TransactionRolledBack = systems.TransactionRolledBack
system_exception says.CommFailure = systems.CommFailure
system_exception says.PersistStore = systems.PersistStore
system_exception says.NoMemory = systems.NoMemory
system_exception says.InvalidTransaction = systems.InvalidTransaction
system_exception says.Transient = systems.Transient
system_exception says.NoResources = systems.NoResources
system_exception says.NoImplement = systems.NoImplement
system_exception said = systems.ObjectNotExist

-- what they say of the call: a failure leaves open whether it was done
abbrev pub completion_of : Call → Said → Completed
completion_of call says.TransactionRolledBack = rolled_back_completion call
completion_of call says.CommFailure = completed.Maybe
completion_of call says.PersistStore = completed.Maybe
completion_of call says.NoMemory = completed.Maybe
completion_of call said = completed.No

abbrev pub system_answer : Call → Said → Answer
system_answer call said = answers.System (system_exception said) 0 (completion_of call said)

-- an exception that is said: a user exception, or else a system exception
abbrev pub raised : Call → Said → Option UserException → Answer
raised call said (Some exception) = answers.User exception
raised call said None = system_answer call said

abbrev pub given_or_raised : Call → Said → Option Given → Answer
given_or_raised call said (Some what) = answers.Plain what
given_or_raised call said None = raised call said (user_exception said)

-- the answer of a call on this object, of a service that stands at this place, of which this is said. The context is that of the
-- transaction, where the call asked for it
unfoldable pub answer_of : Endpoint → ObjectKey → Call → Option Context → Said → Answer
answer_of at key call context said = given_or_raised call said (given_by at key call context said)
