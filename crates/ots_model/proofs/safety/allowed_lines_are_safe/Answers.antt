use Rattle.ots_model.proofs.SafeTurned.{allowed_is_safe}
use Rattle.ots_model.proofs.safety.allowed_lines_are_safe.Goals as goal

pub returns : goal.returns
returns c = allowed_is_safe
