use Rattle.ots_model.proofs.SafeLists.{safety_examples}
use Rattle.ots_model.proofs.safety.safety_refuses.Goals as goal

pub returns : goal.returns
returns c = safety_examples
