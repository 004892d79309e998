use Rattle.giop_streams.proofs.Numbered.{if_found, if_none}
use Rattle.giop_streams.proofs.parts.position.Goals as goal

pub returns-clause-found : goal.returns-clause-found
returns-clause-found c = if_found c.args.id c.args.unfinished.now c.first_of.result c.first_of.ensures

pub returns-clause-none : goal.returns-clause-none
returns-clause-none c = if_none c.args.id c.args.unfinished.now c.first_of.result c.first_of.ensures
