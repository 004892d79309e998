use Rattle.std.proofs.Common.{refl, subst}
use Rattle.service_node.specs.NodeState.{HangsTogether}
use Rattle.service_node.proofs.node.Node.hangs_together.Goals as goal

pub returns : goal.returns
returns g c = subst HangsTogether c.self.view_is (record {
  whole = c.self.invariant.whole;
  service_is = refl;
  found_is = refl;
  life_stays = c.self.invariant.own.life_stays;
})
