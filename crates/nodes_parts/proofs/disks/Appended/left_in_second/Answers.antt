use Rattle.std.proofs.Common.{◌≡◌, ◌+◌, ◌++◌, take, drop, slice_range, sym, ap, ◌∙◌}
use Rattle.std.proofs.lemmas.Result.{IfOk-weaker}
use Rattle.nodes_world.specs.Disks.{left_by}
use Rattle.nodes_parts.specs.Filling.{cycled}
use Rattle.nodes_parts.specs.Striking.{in_second}
use Rattle.nodes_parts.proofs.Unsynced.{second_left}
use Rattle.nodes_parts.proofs.disks.Appended.left_in_second.Goals as goal

pub returns-in-Octets : goal.returns-in-Octets
unfolding left_by
returns-in-Octets c =
    let a = c.args.self.now in
    let from = c.args.self.now.gates.last in
    let to = c.args.self.now.gates.last + 1 in
    IfOk-weaker c.with_cycled.result _ (λ octets. octets.items ≡ left_by c.args.image.now (in_second c.args.self.now))
    (λ x e. e ∙ ap (λ ys. take from ys ++ cycled c.bytes.result.now (slice_range ys from to) ++ drop to ys) c.requires.gone.reads
    ∙ ap (λ o. take from (in_second a).reads ++ cycled o (slice_range (in_second a).reads from to) ++ drop to (in_second a).reads) c.bytes.ensures.same
    ∙ sym (second_left a c.in-Octets.octets c.requires.gone) ∙ sym (ap (λ i. left_by i (in_second a)) c.in-Octets.is))
    c.with_cycled.ensures
