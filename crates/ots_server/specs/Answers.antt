-- What calls on the objects of a room are answered (Transaction Service 1.4, module CosTransactions).
use Rattle.std.specs.Prelude.{◌≡◌, ◌≢◌, ◌≤◌, ◌⊎◌, ℕ, Bool, true, false, List, [], Option, Some, None, Ok, if◌then◌else◌}
use Rattle.ior_refs.specs.declared.key.ObjectKey.{ObjectKey}
use Rattle.ots_calls.specs.declared.answer.Answer.{Answer}
use Rattle.ots_calls.specs.declared.answer.Answer.TheVariants as answers
use Rattle.ots_calls.specs.declared.answer.Completed.TheVariants as completed
use Rattle.ots_calls.specs.declared.answer.Given.TheVariants as given
use Rattle.ots_calls.specs.declared.call.Call.{Call}
use Rattle.ots_calls.specs.declared.call.Call.TheVariants as calls
use Rattle.ots_calls.specs.declared.call.Called.{Called}
use Rattle.ots_calls.specs.declared.system.SystemException.{SystemException}
use Rattle.ots_calls.specs.declared.system.SystemException.TheVariants as systems
use Rattle.ots_context.specs.declared.context.Context.{Context}
use Rattle.ots_model.specs.declared.service.Endpoint.{Endpoint}
use Rattle.ots_model.specs.declared.tree.Outward.{Outward}
use Rattle.coordinator.specs.declared.event.Act.{Act}
use Rattle.coordinator.specs.declared.event.Event.{Event}
use Rattle.coordinator.specs.declared.said.StepAnswer.{StepAnswer}
use Rattle.tree_room.specs.Answers.{IsCreated, IsThereBy, IsUncreated}
use Rattle.tree_room.specs.Room.{RoomState}
use Rattle.tree_room.specs.declared.fault.RoomFault.{RoomFault}
use Rattle.tree_room.specs.declared.fault.RoomFault.TheVariants as refusals
use Rattle.ots_server.specs.Acts.{IsActOf}
use Rattle.ots_server.specs.Said.{answer_of}
use Rattle.ots_server.specs.Site.{Answers, Refuses, Site}
use Rattle.ots_server.specs.Telling.{HaveGone, Telling, is_starved, said_in_the_end}
use Rattle.ots_sessions.specs.References.{factory_key, reference_to}
use Rattle.ots_sessions.specs.Replies.{without_step}
use Rattle.outward_calls.specs.Moment.{LinkMoment}

-- ---- refusals

-- the exception of a call that the room refuses
abbrev pub exception_by : RoomFault → SystemException
exception_by refusals.ObjectNotExist = systems.ObjectNotExist
exception_by refusals.NoResources = systems.NoResources
exception_by refusals.NoImplement = systems.NoImplement
exception_by refusals.Memory = systems.NoMemory

abbrev pub refused_by : RoomFault → Answer
refused_by fault = without_step (exception_by fault)

-- ---- which objects there are

-- whether there is the object that a key names: the factory is, and of the others the room tells it
pub record IsThere (D : Type 0) (room : RoomState) (key : ObjectKey) (there : Bool) : Type 0 where
  pub factory : key ≡ factory_key room.service → there ≡ true
  pub others : key ≢ factory_key room.service → IsThereBy D room.service room.life key there

-- ---- the factory

-- the control of a transaction that was made with this coordinator
abbrev pub control : RoomState → ObjectKey → Answer
control room key = answers.Plain (given.Reference (reference_to room.at (record key { kind = 67 })))

-- what a `create` of the service's factory is answered: the control of what its room has made, or why it has made nothing
abbrev pub IsCreation : (D : Type 0) → RoomState → ℕ → ℕ → Answer → Type 0
IsCreation D room now seconds a =
    ((key : ObjectKey) × IsCreated D room.service room.life now seconds (Ok key) × (a ≡ control room key))
    ⊎ ((fault : RoomFault) × IsUncreated D room.service room.life now seconds fault × (a ≡ refused_by fault))

-- a call on a factory: another service's isn't there
pub record IsOfFactory (service : ℕ) (key : ObjectKey) (a : Answer) (Own : Type 0) : Type 0 where
  pub own : key ≡ factory_key service → Own
  pub foreign : key ≢ factory_key service → a ≡ without_step systems.ObjectNotExist

-- what a call on the factory is answered at a moment; it brings no words
abbrev pub AnswersAlone : (D : Type 0) → RoomState → ℕ → ObjectKey → Call → Answer → Type 0
AnswersAlone D room now key (calls.Create seconds) a = IsOfFactory room.service key a (IsCreation D room now seconds a)
AnswersAlone D room now key (calls.Recreate context) a = IsOfFactory room.service key a (a ≡ without_step systems.NoImplement)
AnswersAlone D room now key call a = ⊥

-- ---- calls on an object of a transaction

-- the event that a call is to it
abbrev pub event_for : ℕ → Called → Act → Event
event_for now called act = record { key = called.retry; branch = called.key.index; now = now; act = act }

-- the room has refused it
pub record IsRefusedStep {D : Type 0} (s : Site D) (now : ℕ) (called : Called) (act : Act) (a : Answer) : Type 0 where
  pub fault : RoomFault
  pub more : List Outward
  pub refused : Refuses s called.key (event_for now called act) fault [] more
  pub answer_is : a ≡ refused_by fault

-- what it is answered once all words went out. Where memory was wanted for one of them, the outcome isn't known
abbrev pub answer_after : Endpoint → Called → StepAnswer → Option Context → List Telling → Answer
answer_after at called answer context tellings =
    if is_starved tellings then answers.System systems.NoMemory 0 completed.Maybe
    else answer_of at called.key called.call context (said_in_the_end called.call answer tellings)

-- the room has made its step, and all words of it went out, each once
pub record IsStep {D : Type 0} (s : Site D) (now : ℕ) (called : Called) (act : Act) (before after : LinkMoment) (a : Answer) : Type 0 where
  pub answer : StepAnswer
  pub context : Option Context
  pub words : List Outward
  pub stepped : Answers s called.key (event_for now called act) answer context [] words
  pub tellings : List Telling
  pub gone : HaveGone s now words before tellings [] after
  pub answer_is : a ≡ answer_after s.room.at called answer context tellings

abbrev pub Steps : {D : Type 0} → Site D → ℕ → Called → Option Act → LinkMoment → LinkMoment → Answer → Type 0
Steps s now called None before after a = (a ≡ without_step systems.ObjectNotExist) × (after ≡ before)
Steps s now called (Some act) before after a =
    (IsRefusedStep s now called act a × (after ≡ before)) ⊎ IsStep s now called act before after a

pub record IsStepped {D : Type 0} (s : Site D) (now : ℕ) (called : Called) (before after : LinkMoment) (a : Answer) : Type 0 where
  pub act : Option Act
  pub act_is : IsActOf called.key.index called.call act
  pub steps : Steps s now called act before after a

-- what a call is answered that goes to no object of a transaction
pub record IsAnsweredAlone {D : Type 0} (s : Site D) (now : ℕ) (called : Called) (before after : LinkMoment) (a : Answer) : Type 0 where
  pub answers : AnswersAlone D s.room now called.key called.call a
  pub unsaid : after ≡ before

-- a call goes to no object of a transaction: it is one of the factory
abbrev pub is_alone : Call → Bool
is_alone (calls.Create seconds) = true
is_alone (calls.Recreate context) = true
is_alone call = false

-- what a call is answered at a moment, and what has gone over the link
abbrev pub AnswersBy : {D : Type 0} → Bool → Site D → ℕ → Called → LinkMoment → LinkMoment → Answer → Type 0
AnswersBy true s now called before after a = IsAnsweredAlone s now called before after a
AnswersBy false s now called before after a = IsStepped s now called before after a

abbrev pub AnswersCall : {D : Type 0} → Site D → ℕ → Called → LinkMoment → LinkMoment → Answer → Type 0
AnswersCall s now called before after a = AnswersBy (is_alone called.call) s now called before after a

-- what it is answered, at a moment that the clock told meanwhile
pub record AnswersWithin {D : Type 0} (s : Site D) (called : Called) (first last : ℕ) (before after : LinkMoment) (a : Answer) : Type 0 where
  pub now : ℕ
  pub begins : first ≤ now
  pub ends : now ≤ last
  pub answers_call : AnswersCall s now called before after a
