-- What is heard in a reply.
use Rattle.std.proofs.Common.{◌≡◌, subst}
use Rattle.giop_frames.specs.declared.message.Reply.{Reply}
use Rattle.ots_model.specs.declared.tree.Heard.{Heard}
use Rattle.ots_model.specs.declared.completion.Heard.TheVariants as phase_hears
use Rattle.ots_model.specs.declared.tree.Heard.TheVariants as hears
use Rattle.ots_calls.specs.Answer.{IsAnswer}
use Rattle.ots_calls.specs.Answering.{IsHeld, WantsMemory}
use Rattle.ots_calls.specs.Call.{operation_of}
use Rattle.ots_calls.specs.Heard.{GivesReference, IsAnswered}
use Rattle.ots_calls.specs.declared.answer.Answer.{Answer}
use Rattle.ots_calls.specs.declared.answer.Answer.TheVariants as answers
use Rattle.ots_calls.specs.declared.answer.Given.TheVariants as given
use Rattle.ots_calls.specs.declared.call.Call.{Call}

-- memory is wanted to read a reply that gives a reference
pub reference_held : (call : Call) (answer : Answer) (reply : Reply) → IsAnswer call answer reply → GivesReference answer → WantsMemory (operation_of call) reply.status
reference_held call (answers.Plain (given.Reference reference)) reply is h = (is.status, subst IsHeld is.ours tt)
reference_held call (answers.Plain given.Nothing) reply is h = absurd h
reference_held call (answers.Plain (given.Flag flag)) reply is h = absurd h
reference_held call (answers.Plain (given.Number number)) reply is h = absurd h
reference_held call (answers.Plain (given.State status)) reply is h = absurd h
reference_held call (answers.Plain (given.Ballot vote)) reply is h = absurd h
reference_held call (answers.Plain (given.Word text)) reply is h = absurd h
reference_held call (answers.Plain (given.Transaction context)) reply is h = absurd h
reference_held call (answers.Plain (given.Found value)) reply is h = absurd h
reference_held call (answers.User exception) reply is h = absurd h
reference_held call (answers.System exception minor done) reply is h = absurd h

pub not_starved : (heard : Heard) → IsAnswered heard → ¬ (heard ≡ hears.Phase phase_hears.Starved)
not_starved heard is same = subst IsAnswered same is

pub not_lost : (heard : Heard) → IsAnswered heard → ¬ (heard ≡ hears.Phase phase_hears.Lost)
not_lost heard is same = subst IsAnswered same is
