-- What the server of a resource end answers (our profile; CORBA, Transaction Service 1.4, module CosTransactions: Resource).
use Rattle.std.specs.Prelude.{◌≡◌, ◌≢◌, ℕ, Bool, true, false, List, Option, Some, None, Result, Ok, Err}
use Rattle.std.specs.Option.{option_map}
use Rattle.ior_refs.specs.declared.key.ObjectKey.{ObjectKey}
use Rattle.ots_calls.specs.declared.answer.Answer.{Answer}
use Rattle.ots_calls.specs.declared.answer.Answer.TheVariants as answers
use Rattle.ots_calls.specs.declared.answer.Completed.{Completed}
use Rattle.ots_calls.specs.declared.answer.Completed.TheVariants as completed
use Rattle.ots_calls.specs.declared.answer.Given.TheVariants as given
use Rattle.ots_calls.specs.declared.call.Called.{Called}
use Rattle.ots_calls.specs.declared.exception.UserException.{UserException}
use Rattle.ots_calls.specs.declared.exception.UserException.TheVariants as users
use Rattle.ots_calls.specs.declared.system.SystemException.TheVariants as systems
use Rattle.ots_context.specs.declared.context.Context.{Context}
use Rattle.ots_model.specs.Heard.{of_participant}
use Rattle.ots_model.specs.declared.completion.Disposition.{Disposition}
use Rattle.ots_model.specs.declared.completion.Disposition.TheVariants as dispositions
use Rattle.ots_model.specs.declared.completion.Heard.{Heard as PhaseHeard}
use Rattle.ots_model.specs.declared.completion.Heard.TheVariants as phase_hears
use Rattle.ots_model.specs.declared.tree.Heard.{Heard}
use Rattle.ots_model.specs.declared.tree.Heard.TheVariants as hears
use Rattle.resource_end.specs.declared.fault.EndFault.{EndFault}
use Rattle.resource_end.specs.declared.fault.EndFault.TheVariants as faults
use Rattle.resource_end.specs.declared.state.Word.{Word}
use Rattle.end_room.specs.Deeds.{Deed, Enters, Binds, Unmakes, Puts, Reads, Has, Tells}
use Rattle.end_room.specs.Place.{EndPlace}
use Rattle.end_room.specs.declared.ends.Entered.{Entered}
use Rattle.end_room.specs.declared.ends.Entered.TheVariants.{New, Registering, Known}
use Rattle.outward_calls.specs.Moment.{LinkMoment}
use Rattle.ots_sessions.specs.References.{cells_key}
use Rattle.ots_sessions.specs.Replies.{without_step}
use Rattle.end_server.specs.Serving.{EndSide, GoesOut, asked_of, registering}
use Rattle.end_server.specs.declared.asked.Asked.{Asked}
use Rattle.end_server.specs.declared.asked.Asked.TheVariants as asks

-- ---- answers

-- it was done, and gives nothing
abbrev pub nothing : Answer
nothing = answers.Plain given.Nothing

-- the heuristic exception that tells what became of the updates
abbrev pub heuristic : Disposition → UserException
heuristic dispositions.Committed = users.HeuristicCommit
heuristic dispositions.RolledBack = users.HeuristicRollback
heuristic dispositions.Mixed = users.HeuristicMixed
heuristic dispositions.Unknown = users.HeuristicHazard

-- the answer by which its caller hears this. A resource says none of the last three
abbrev pub answer_heard : PhaseHeard → Answer
answer_heard phase_hears.Done = nothing
answer_heard (phase_hears.Voted vote) = answers.Plain (given.Ballot vote)
answer_heard (phase_hears.Heuristic disposition) = answers.User (heuristic disposition)
answer_heard phase_hears.NotPrepared = answers.User users.NotPrepared
answer_heard phase_hears.RolledBack = without_step systems.TransactionRolledBack
answer_heard phase_hears.NoObject = without_step systems.ObjectNotExist
answer_heard phase_hears.Other = without_step systems.Unknown
answer_heard phase_hears.Lost = without_step systems.Unknown
answer_heard phase_hears.Starved = without_step systems.Unknown

-- the answer of a call that the end refuses. Where its journal fails it isn't known whether the call was done; nor where its
-- memory does, but before the call's first step
abbrev pub refused_by : Completed → EndFault → Answer
refused_by so_far (faults.Transient number) = without_step systems.Transient
refused_by so_far faults.Inactive = without_step systems.InvalidTransaction
refused_by so_far faults.ObjectNotExist = without_step systems.ObjectNotExist
refused_by so_far faults.PersistStore = answers.System systems.PersistStore 0 completed.Maybe
refused_by so_far faults.NoResources = without_step systems.NoResources
refused_by so_far (faults.Start fault) = answers.System systems.PersistStore 0 completed.Maybe
refused_by so_far faults.Memory = answers.System systems.NoMemory 0 so_far

-- the answer of a put, and of a word to a resource
abbrev pub answer_to_put : Completed → Result (Unit {0}) EndFault → Answer
answer_to_put so_far (Ok done) = nothing
answer_to_put so_far (Err fault) = refused_by so_far fault

abbrev pub answer_to_word : Result Heard EndFault → Answer
answer_to_word (Ok heard) = answer_heard (of_participant heard)
answer_to_word (Err fault) = refused_by completed.Maybe fault

-- the answer of a put whose resource wasn't registered, by what was heard of that
abbrev pub unregistered : Heard → Answer
unregistered (hears.Phase phase_hears.Lost) = without_step systems.CommFailure
unregistered (hears.Phase phase_hears.Starved) = without_step systems.NoMemory
unregistered heard = without_step systems.TransactionRolledBack

-- there is an object, or there isn't
abbrev pub where_there : Bool → Answer
where_there true = nothing
where_there false = without_step systems.ObjectNotExist

abbrev pub tid_of : Context → List ℕ
tid_of context = context.current.otid.tid

-- ---- what a call does to an end that stands at this place

module _ {E : Type 0} (does : E → Deed → E → Type 0) where
  -- the end has done this, and no word has gone out
  pub record DoesOne (deed : Deed) (before after : EndSide E) : Type 0 where
    pub deed_is : does before.ends deed after.ends
    pub unsaid : after.link ≡ before.link

  -- it is answered so, and nothing was done
  abbrev pub IsAnsweredAlone : Answer → EndSide E → Answer → EndSide E → Type 0
  IsAnsweredAlone own before answer after = (answer ≡ own) × (after ≡ before)

  -- a resource puts a value into a cell
  abbrev pub PutsInto : Completed → ObjectKey → ℕ → ℕ → EndSide E → Answer → EndSide E → Type 0
  PutsInto so_far key cell value before answer after =
      (said : Result (Unit {0}) EndFault) × DoesOne (Puts key cell value said) before after × (answer ≡ answer_to_put so_far said)

  -- once it is bound
  abbrev pub OnBound : Result (Unit {0}) EndFault → ObjectKey → ℕ → ℕ → EndSide E → Answer → EndSide E → Type 0
  OnBound (Ok done) key cell value before answer after = PutsInto completed.Maybe key cell value before answer after
  OnBound (Err fault) key cell value before answer after = IsAnsweredAlone (refused_by completed.Maybe fault) before answer after

  -- the resource of a transaction is registered, and puts
  abbrev pub PutsRegistered : List ℕ → List ℕ → ObjectKey → ℕ → ℕ → EndSide E → Answer → EndSide E → Type 0
  PutsRegistered tid recovery key cell value before answer after =
      (said : Result (Unit {0}) EndFault) × ((midway : EndSide E)
      × DoesOne (Binds tid key recovery said) before midway × OnBound said key cell value midway answer after)

  -- it isn't registered, and is unmade
  pub record IsUnregistered (key : ObjectKey) (heard : Heard) (before : EndSide E) (answer : Answer) (after : EndSide E) : Type 0 where
    pub unmakes : DoesOne (Unmakes key) before after
    pub answer_is : answer ≡ unregistered heard

  -- by what was heard of the registration
  abbrev pub OnHeard : Heard → List ℕ → ObjectKey → ℕ → ℕ → EndSide E → Answer → EndSide E → Type 0
  OnHeard (hears.Enlisted recovery) tid key cell value before answer after =
      PutsRegistered tid recovery key cell value before answer after
  OnHeard heard tid key cell value before answer after = IsUnregistered key heard before answer after

  -- a new resource is registered, while others may call the end, and puts
  abbrev pub PutsNew : EndPlace → Context → ObjectKey → ℕ → ℕ → EndSide E → Answer → EndSide E → Type 0
  PutsNew place context key cell value before answer after =
      (heard : Heard) × ((link : LinkMoment)
      × GoesOut place (registering context.current.coord key) before.link heard link
      × OnHeard heard (tid_of context) key cell value (record before { link = link }) answer after)

  -- by what a transaction found that wants to put something
  abbrev pub OnEntered : EndPlace → Context → ℕ → ℕ → Result Entered EndFault → EndSide E → Answer → EndSide E → Type 0
  OnEntered place context cell value (Ok (New key)) before answer after = PutsNew place context key cell value before answer after
  OnEntered place context cell value (Ok Registering) before answer after =
      IsAnsweredAlone (without_step systems.Transient) before answer after
  OnEntered place context cell value (Ok (Known key)) before answer after =
      PutsInto completed.No key cell value before answer after
  OnEntered place context cell value (Err fault) before answer after =
      IsAnsweredAlone (refused_by completed.No fault) before answer after

  -- a transaction puts a value into a cell
  abbrev pub PutsWithin : EndPlace → Context → ℕ → ℕ → EndSide E → Answer → EndSide E → Type 0
  PutsWithin place context cell value before answer after =
      (said : Result Entered EndFault) × ((midway : EndSide E)
      × DoesOne (Enters (tid_of context) said) before midway × OnEntered place context cell value said midway answer after)

  -- outside of a transaction nobody can put
  abbrev pub PutsBy : EndPlace → Option Context → ℕ → ℕ → EndSide E → Answer → EndSide E → Type 0
  PutsBy place (Some context) cell value before answer after = PutsWithin place context cell value before answer after
  PutsBy place None cell value before answer after = IsAnsweredAlone (without_step systems.BadParam) before answer after

  -- what a transaction sees of a cell, or nobody
  abbrev pub Gets : Option Context → ℕ → EndSide E → Answer → EndSide E → Type 0
  Gets context cell before answer after =
      (seen : Option ℕ) × DoesOne (Reads (option_map tid_of context) cell seen) before after × (answer ≡ answers.Plain (given.Found seen))

  -- a resource is told a word
  abbrev pub IsTold : Word → ObjectKey → EndSide E → Answer → EndSide E → Type 0
  IsTold word key before answer after =
      (said : Result Heard EndFault) × DoesOne (Tells word key said) before after × (answer ≡ answer_to_word said)

  -- a resource hears of the end of a subtransaction, which changes nothing
  abbrev pub HearsOfSubtransaction : ObjectKey → EndSide E → Answer → EndSide E → Type 0
  HearsOfSubtransaction key before answer after =
      (there : Bool) × DoesOne (Has key there) before after × (answer ≡ where_there there)

  -- a call of the cells: those of another end aren't there
  pub record IsOfCells (service : ℕ) (key : ObjectKey) (before : EndSide E) (answer : Answer) (after : EndSide E) (Own : Type 0) : Type 0 where
    pub own : key ≡ cells_key service → Own
    pub foreign : key ≢ cells_key service → IsAnsweredAlone (without_step systems.ObjectNotExist) before answer after

  -- what a call is answered that asks this
  abbrev pub AnswersAsked : EndPlace → ObjectKey → Option Context → Asked → EndSide E → Answer → EndSide E → Type 0
  AnswersAsked place key context (asks.Put cell value) before answer after =
      IsOfCells place.service key before answer after (PutsBy place context cell value before answer after)
  AnswersAsked place key context (asks.Get cell) before answer after =
      IsOfCells place.service key before answer after (Gets context cell before answer after)
  AnswersAsked place key context (asks.Word word) before answer after = IsTold word key before answer after
  AnswersAsked place key context asks.Subtransaction before answer after = HearsOfSubtransaction key before answer after
  AnswersAsked place key context asks.Other before answer after = IsAnsweredAlone (without_step systems.ObjectNotExist) before answer after

  abbrev pub AnswersCall : EndPlace → Called → EndSide E → Answer → EndSide E → Type 0
  AnswersCall place called before answer after =
      AnswersAsked place called.key called.context (asked_of called.call) before answer after

  -- whether there is the object of a key: the cells are, and of the resources the end tells it
  pub record IsThere (place : EndPlace) (key : ObjectKey) (there : Bool) (before after : EndSide E) : Type 0 where
    pub cells : key ≡ cells_key place.service → (there ≡ true) × (after ≡ before)
    pub others : key ≢ cells_key place.service → DoesOne (Has key there) before after
