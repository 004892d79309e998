-- The reply to a request, and in which order a request is refused (CORBA, General Inter-ORB Protocol, Reply Message; Transaction
-- Service 1.4, module CosTransactions): by its target, then as it is no call, then by the object that is called.
use Rattle.std.specs.Prelude.{◌≡◌, ◌<◌, ◌^◌, ◌⊎◌, ◌&&◌, ◌||◌, ℕ, Bool, true, false, not, List, [], ◌∷◌, Ok, if◌then◌else◌}
use Rattle.std.specs.Str.{bytes_eq}
use Rattle.cdr_values.specs.declared.order.Order.TheVariants.{Big}
use Rattle.giop_frames.specs.declared.message.Reply.{Reply}
use Rattle.giop_frames.specs.declared.message.Request.{Request}
use Rattle.ior_refs.specs.declared.key.ObjectKey.{ObjectKey}
use Rattle.ots_calls.specs.Answer.{IsOf, IsOwn}
use Rattle.ots_calls.specs.AnswerWriting.{given_length, reply_of}
use Rattle.ots_calls.specs.Call.{operation_of}
use Rattle.ots_calls.specs.Request as requests
use Rattle.ots_calls.specs.Request.{HasNoKey, IsFor, called_with}
use Rattle.ots_calls.specs.declared.answer.Answer.{Answer}
use Rattle.ots_calls.specs.declared.answer.Answer.TheVariants as answered
use Rattle.ots_calls.specs.declared.answer.Completed.TheVariants as completed
use Rattle.ots_calls.specs.declared.answer.Given.TheVariants as given
use Rattle.ots_calls.specs.declared.call.Call.{Call}
use Rattle.ots_calls.specs.declared.call.Call.TheVariants as calls
use Rattle.ots_calls.specs.declared.call.Called.{Called}
use Rattle.ots_calls.specs.declared.fault.CallFault.{CallFault}
use Rattle.ots_calls.specs.declared.fault.CallFault.TheVariants as faults
use Rattle.ots_calls.specs.declared.operation.Bare.TheVariants as bares
use Rattle.ots_calls.specs.declared.operation.Operation.{Operation}
use Rattle.ots_calls.specs.declared.system.SystemException.{SystemException}
use Rattle.ots_calls.specs.declared.system.SystemException.TheVariants as systems
use Rattle.ots_sessions.specs.References.{aware_id, object_id, resource_id, type_id_of}

-- ---- refusals

-- the exception of a request that is no call
abbrev pub exception_of : CallFault → SystemException
exception_of faults.BadOperation = systems.BadOperation
exception_of (faults.Marshal fault) = systems.Marshal
exception_of (faults.Garbled fault) = systems.Marshal
exception_of faults.BadParam = systems.BadParam
exception_of faults.BadTarget = systems.ObjectNotExist
exception_of faults.BadKey = systems.ObjectNotExist
exception_of faults.Memory = systems.NoMemory

-- a system exception of a call that has done nothing
abbrev pub without_step : SystemException → Answer
without_step exception = answered.System exception 0 completed.No

-- NEEDS_ADDRESSING_MODE: a key is wanted (KeyAddr)
abbrev pub wants_key : ℕ → Reply
wants_key id = record { id = id; status = 5; contexts = []; order = Big; body = 0 ∷ 0 ∷ [] }

-- a reply can be written with an answer: it is short, and a system exception of it has our own minor code
abbrev pub IsWritable : Answer → Type 0
IsWritable answer = (given_length answer < 2 ^ 31) × IsOwn answer

-- ---- calls that every object has

-- the interface with this repository id is, or is derived from, the one with another
abbrev pub derives : List ℕ → List ℕ → Bool
derives type_id id = bytes_eq id type_id || (bytes_eq id object_id || (bytes_eq type_id aware_id && bytes_eq id resource_id))

-- objects with keys of this kind have the interface of this repository id
abbrev pub has_interface : ℕ → List ℕ → Bool
has_interface kind id = derives (type_id_of kind) id

-- what `_non_existent` and `_is_a` are answered
abbrev pub absent : Bool → Answer
absent there = answered.Plain (given.Flag (not there))

abbrev pub is_a : Bool → ℕ → List ℕ → Answer
is_a there kind id =
    if there then answered.Plain (given.Flag (has_interface kind id)) else without_step systems.ObjectNotExist

-- a call is one that every object has
abbrev pub is_common : Call → Bool
is_common (calls.Bare bares.NonExistent) = true
is_common (calls.IsA id) = true
is_common call = false

-- what it is answered on an object with a key of this kind that is there, or isn't
abbrev pub common_answer : Bool → ℕ → Call → Answer
common_answer there kind (calls.IsA id) = is_a there kind id
common_answer there kind call = absent there

-- ---- replies

-- the target of a request is a key, but it is no call, and is refused by the first cause
pub record IsRefusal (r : Request) (reply : Reply) : Type 0 where
  pub keyed : ¬ HasNoKey r.target
  pub fault : CallFault
  pub cause : requests.Refuses fault r
  pub reply_is : reply_of r.id (without_step (exception_of fault)) ≡ Ok reply

-- an answer is told as it is, where it is one of the operation's, and else as BAD_PARAM: it may be that of an earlier call of
-- another operation, with the same retry key
pub record IsTold (operation : Operation) (answer told : Answer) : Type 0 where
  pub own : IsOf operation answer → told ≡ answer
  pub foreign : ¬ IsOf operation answer → told ≡ without_step systems.BadParam

-- a request that is answered without a step: its target is no key, or it is no call
abbrev pub IsUncalled : Request → Reply → Type 0
IsUncalled r reply = (HasNoKey r.target × (reply ≡ wants_key r.id)) ⊎ IsRefusal r reply

-- ---- what a servant answers, of which is known how it finds objects and how it answers its own calls

module _ {S : Type 0} (finds : S → ObjectKey → Bool → S → Type 0) (answers : S → Called → Answer → S → Type 0) where
  -- a call that every object has is answered by whether the object is there
  pub record AnswersCommon (before : S) (called : Called) (answer : Answer) (after : S) : Type 0 where
    pub there : Bool
    pub found : finds before called.key there after
    pub answer_is : answer ≡ common_answer there called.key.kind called.call

  abbrev pub AnswersBy : Bool → S → Called → Answer → S → Type 0
  AnswersBy true before called answer after = AnswersCommon before called answer after
  AnswersBy false before called answer after = answers before called answer after

  -- what a call is answered
  abbrev pub AnswersCall : S → Called → Answer → S → Type 0
  AnswersCall before called answer after = AnswersBy (is_common called.call) before called answer after

  -- the request is a call, and is answered
  pub record IsAnswered (before : S) (r : Request) (reply : Reply) (after : S) : Type 0 where
    pub called : Called
    pub key : IsFor called.key r.target
    pub read : called_with called.key r ≡ Ok called
    pub answer : Answer
    pub answers_call : AnswersCall before called answer after
    pub told : Answer
    pub told_is : IsTold (operation_of called.call) answer told
    pub reply_is : reply_of r.id told ≡ Ok reply

  -- the reply to a request
  abbrev pub IsReply : S → Request → Reply → S → Type 0
  IsReply before r reply after = (IsUncalled r reply × (after ≡ before)) ⊎ IsAnswered before r reply after
