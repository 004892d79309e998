use Rattle.nodes_world.proofs.Struck.{appends_strike}
use Rattle.nodes_world.proofs.laws.appends_strike_disks.Goals as goal

pub returns : goal.returns
returns c = appends_strike
