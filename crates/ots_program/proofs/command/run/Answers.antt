use Rattle.ots_program.specs.Words.{Replays, Shows}
use Rattle.ots_program.proofs.Serving.{no_service}
use Rattle.ots_program.proofs.command.run.Goals as goal

pub returns-in_default-clause-replays : goal.returns-in_default-clause-replays
returns-in_default-clause-replays g c = λ asked. absurd (c.in_default.ensures.none Replays asked)

pub returns-in_default-clause-shows : goal.returns-in_default-clause-shows
returns-in_default-clause-shows g c = λ asked. absurd (c.in_default.ensures.none Shows asked)

pub returns-in_default-clause-of_service : goal.returns-in_default-clause-of_service
returns-in_default-clause-of_service g c = λ service asked. absurd (no_service _ service c.in_default.ensures.none asked)
