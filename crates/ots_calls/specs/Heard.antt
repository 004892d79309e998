-- What the caller of an outward call hears in its answer (Transaction Service 1.4, interfaces Resource,
-- RecoveryCoordinator and Coordinator). Which answers are any other is our profile.
use Rattle.std.specs.Prelude.{Result, Ok, Err}
use Rattle.giop_frames.specs.declared.message.Reply.{Reply}
use Rattle.ots_model.specs.declared.completion.Disposition.TheVariants as dispositions
use Rattle.ots_model.specs.declared.tree.Heard.{Heard}
use Rattle.ots_model.specs.declared.completion.Heard.TheVariants as phase_hears
use Rattle.ots_model.specs.declared.tree.Heard.TheVariants as hears
use Rattle.ior_refs.specs.Reference.{canonical_octets}
use Rattle.ots_calls.specs.Answering.{answer_with}
use Rattle.ots_calls.specs.declared.answer.Answer.{Answer}
use Rattle.ots_calls.specs.declared.answer.Answer.TheVariants as answers
use Rattle.ots_calls.specs.declared.answer.Given.{Given}
use Rattle.ots_calls.specs.declared.answer.Given.TheVariants as given
use Rattle.ots_calls.specs.declared.call.Call.{Call}
use Rattle.ots_calls.specs.declared.exception.UserException.{UserException}
use Rattle.ots_calls.specs.declared.exception.UserException.TheVariants as users
use Rattle.ots_calls.specs.declared.fault.CallFault.{CallFault}
use Rattle.ots_calls.specs.declared.system.SystemException.{SystemException}
use Rattle.ots_calls.specs.declared.system.SystemException.TheVariants as systems

-- where this was given. No outward call is given anything else.
abbrev pub heard_of_given : Given → Heard
heard_of_given given.Nothing = hears.Phase phase_hears.Done
heard_of_given (given.Ballot vote) = hears.Phase (phase_hears.Voted vote)
heard_of_given (given.State status) = hears.Told status
heard_of_given (given.Reference reference) = hears.Enlisted (canonical_octets reference)
heard_of_given what = hears.Phase phase_hears.Other

-- a user exception. A heuristic one tells what became of the updates.
abbrev pub heard_of_user : UserException → Heard
heard_of_user users.HeuristicRollback = hears.Phase (phase_hears.Heuristic dispositions.RolledBack)
heard_of_user users.HeuristicCommit = hears.Phase (phase_hears.Heuristic dispositions.Committed)
heard_of_user users.HeuristicMixed = hears.Phase (phase_hears.Heuristic dispositions.Mixed)
heard_of_user users.HeuristicHazard = hears.Phase (phase_hears.Heuristic dispositions.Unknown)
heard_of_user users.NotPrepared = hears.Phase phase_hears.NotPrepared
heard_of_user exception = hears.Phase phase_hears.Other

-- a system exception
abbrev pub heard_of_system : SystemException → Heard
heard_of_system systems.TransactionRolledBack = hears.Phase phase_hears.RolledBack
heard_of_system systems.ObjectNotExist = hears.Phase phase_hears.NoObject
heard_of_system exception = hears.Phase phase_hears.Other

-- an answer, as it is heard. The minor code of a system exception, and whether the operation was done, make no difference.
abbrev pub heard_in : Answer → Heard
heard_in (answers.Plain what) = heard_of_given what
heard_in (answers.User exception) = heard_of_user exception
heard_in (answers.System exception minor done) = heard_of_system exception

-- a reference was given: what is heard holds it. For nothing else memory is wanted.
abbrev pub GivesReference : Answer → Type 0
GivesReference (answers.Plain (given.Reference reference)) = Unit {0}
GivesReference answer = ⊥

-- what is heard where an answer came: the call didn't fail, and no memory was wanted
abbrev pub IsAnswered : Heard → Type 0
IsAnswered (hears.Phase phase_hears.Lost) = ⊥
IsAnswered (hears.Phase phase_hears.Starved) = ⊥
IsAnswered heard = Unit {0}

-- what reading a reply gave, as it is heard. A reply that is no answer is heard as any other (our profile).
abbrev pub heard_in_read : Result Answer CallFault → Heard
heard_in_read (Ok answer) = heard_in answer
heard_in_read (Err fault) = hears.Phase phase_hears.Other

-- a reply to a call, as it is heard
abbrev pub heard_in_reply : Call → Reply → Heard
heard_in_reply call reply = heard_in_read (answer_with call reply)
