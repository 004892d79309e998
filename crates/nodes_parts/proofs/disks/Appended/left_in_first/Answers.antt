use Rattle.std.proofs.Common.{◌≡◌, ◌+◌, ◌++◌, take, drop, slice_range, sym, ap, ◌∙◌}
use Rattle.std.proofs.lemmas.Result.{IfOk-weaker}
use Rattle.nodes_world.specs.Disks.{left_by}
use Rattle.nodes_parts.specs.Filling.{cycled}
use Rattle.nodes_parts.specs.Striking.{in_first}
use Rattle.nodes_parts.proofs.Unsynced.{first_left}
use Rattle.nodes_parts.proofs.disks.Appended.left_in_first.Goals as goal

pub returns-in_ok-between-in-Octets : goal.returns-in_ok-between-in-Octets
unfolding left_by
returns-in_ok-between-in-Octets c =
    let a = c.args.self.now in
    let from = c.args.self.now.gates.last + 1 in
    let to = c.args.self.now.gates.end + 1 in
    let read = c.deref.ensures.value ∙ c.in_ok-between-in-Octets.ensures in
    IfOk-weaker c.with_cycled.result _ (λ octets. octets.items ≡ left_by c.args.image.now (in_first c.args.self.now))
    (λ x e. e ∙ ap (λ ys. take from ys ++ cycled c.bytes.result.now (slice_range ys from to) ++ drop to ys) read
    ∙ ap (λ o. take from (in_first a).reads ++ cycled o (slice_range (in_first a).reads from to) ++ drop to (in_first a).reads) c.bytes.ensures.same
    ∙ sym (first_left a c.in-Octets.octets c.requires.gone) ∙ sym (ap (λ i. left_by i (in_first a)) c.in-Octets.is))
    c.with_cycled.ensures
