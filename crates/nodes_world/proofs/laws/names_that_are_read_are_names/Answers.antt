use Rattle.nodes_world.proofs.ReadNames.{read_names_are_names}
use Rattle.nodes_world.proofs.laws.names_that_are_read_are_names.Goals as goal

pub returns : goal.returns
returns c = read_names_are_names
