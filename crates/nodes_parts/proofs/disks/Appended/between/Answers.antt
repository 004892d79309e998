use Rattle.nodes_parts.proofs.Seams.{closed_again}
use Rattle.nodes_parts.proofs.disks.Appended.between.Goals as goal

pub returns : goal.returns
returns c = closed_again c.args.self.now c.in_ok-octets.octets.items c.requires.gone (c.in_ok-octets.ensures.items_if_clones_equal (λ x y e. e))
