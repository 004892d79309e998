use Rattle.nodes_seats.proofs.Nothing.{empty_whole}
use Rattle.nodes_seats.proofs.makings.empty.Goals as goal

pub returns-clause-whole : goal.returns-clause-whole
returns-clause-whole c = empty_whole c.new.result c.new.ensures.empty c.new.ensures.names
