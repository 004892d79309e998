-- What is heard of a participant of a completion.
use Rattle.ots_model.specs.declared.completion.Heard.{Heard}
use Rattle.ots_model.specs.declared.completion.Heard.TheVariants as participants
use Rattle.ots_model.specs.declared.tree.Heard.{Heard as AllHeard}
use Rattle.ots_model.specs.declared.tree.Heard.TheVariants as hears

-- an answer that no word to a participant has is any other
abbrev pub of_participant : AllHeard → Heard
of_participant (hears.Phase heard) = heard
of_participant (hears.Told status) = participants.Other
of_participant (hears.Enlisted reference) = participants.Other
