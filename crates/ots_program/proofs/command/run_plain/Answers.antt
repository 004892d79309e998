use Rattle.ots_program.specs.Words.{Replays}
use Rattle.ots_program.proofs.command.run_plain.Goals as goal

pub returns-in-None-clause-replays : goal.returns-in-None-clause-replays
returns-in-None-clause-replays g c = λ asked. absurd (c.in-None.ensures.none Replays asked)
