use Rattle.nodes_told.proofs.Reaching as proved
use Rattle.nodes_told.proofs.laws.reached_lines_are_told.Goals as goal

pub returns : goal.returns
returns c = proved.reached_lines_are_told
