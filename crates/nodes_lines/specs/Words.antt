-- Answers that a line shows by a word (our profile).
use Rattle.std.specs.Prelude.{Bool, true, false}
use Rattle.coordinator.specs.declared.said.Said.{Said}
use Rattle.coordinator.specs.declared.said.Said.TheVariants as said

-- it is no number and no name
abbrev pub has_word : Said → Bool
has_word (said.Number n) = false
has_word (said.Name name) = false
has_word _ = true
