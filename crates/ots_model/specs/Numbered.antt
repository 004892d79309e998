-- How a transaction ends, by what names its registrations: numbers in a family, names in a line of output.
use Rattle.std.specs.Prelude.{ℕ, List}
use Rattle.ots_model.specs.declared.completion.Outcome.{Outcome as OutcomeBy}
use Rattle.ots_model.specs.declared.completion.Reason.{Reason as PhaseReason}
use Rattle.ots_model.specs.declared.tree.Reason.{Reason}

abbrev pub Outcome : Type 0
Outcome = OutcomeBy Reason

abbrev pub LineOutcome : Type 0
LineOutcome = OutcomeBy (PhaseReason (List ℕ))
