use Rattle.std.proofs.Common.{refl, sym, ◌∙◌}
use Rattle.nodes_parts.proofs.SharedLemmas.{same_behind, same_here}
use Rattle.nodes_parts.proofs.shared.are_same.Goals as goal

pub loop-at-init : goal.loop-at-init
loop-at-init c = refl

pub loop-at-preserved : goal.loop-at-preserved
loop-at-preserved c =
    c.loop-at.invariant ∙ same_here c.args.octets.now c.args.others.now c.loop-at.at c.loop-at-test.true c.requires c.if-octets-at.false

pub returns : goal.returns
returns c = sym (c.loop-at.invariant ∙ same_behind c.args.octets.now c.args.others.now c.loop-at.at c.loop-at-test.false c.requires)
