use Rattle.std.proofs.Common.{◌≡◌, ℕ, ◌+◌, ◌-◌, length, ap, ◌∙◌, arith}
use Rattle.std.proofs.lemmas.Grind.{common_steps}
use Rattle.nodes_world.specs.Ends.{with_fresh}
use Rattle.nodes_parts.specs.Kept.{resource_numbered}
use Rattle.nodes_parts.proofs.Ending.{kept_made, last_is_free, made_view}
use Rattle.nodes_parts.proofs.ends.End.make.Goals as goal

pub invariant_of-self : goal.invariant_of-self
invariant_of-self c =
    let objects = c.self.inside.objects.items in
    let i : ℕ = c.len-place.result - 1 in
    let count : c.len-place.result ≡ length c.self.inside.objects.items = grind (arith, common_steps) in
    let drawn : length c.self.inside.objects.items ≡ c.args.self.now.drawn = ap (λ e. e.drawn) c.self.view_is in
    let some = c.requires.some in
    let last = c.requires.last in
    let l : length c.self.inside.objects.items ≡ (c.len-place.result - 1) + 1 = omega arith in
    let n : c.args.self.now.drawn ≡ (c.len-place.result - 1) + 1 = omega arith in
    let free = ap (resource_numbered c.args.self.now.drawn) c.self.view_is ∙ c.requires.free in
    let at = last_is_free objects (c.len-place.result - 1) c.args.self.now.drawn c.self.invariant.numbered l n free in
    let number = ap (λ r. r.key.generation) c.fresh.ensures in
    kept_made objects (c.len-place.result - 1) c.fresh.result c.self.inside.cells c.self.invariant l at (number ∙ last ∙ n) (ap (λ r. r.put) c.fresh.ensures)

pub returns : goal.returns
returns c =
    let objects = c.self.inside.objects.items in
    let count : c.len-place.result ≡ length c.self.inside.objects.items = grind (arith, common_steps) in
    let drawn : length c.self.inside.objects.items ≡ c.args.self.now.drawn = ap (λ e. e.drawn) c.self.view_is in
    let some = c.requires.some in
    let l : length c.self.inside.objects.items ≡ (c.len-place.result - 1) + 1 = omega arith in
    let n : c.args.self.now.drawn ≡ (c.len-place.result - 1) + 1 = omega arith in
    let free = ap (resource_numbered c.args.self.now.drawn) c.self.view_is ∙ c.requires.free in
    let at = last_is_free objects (c.len-place.result - 1) c.args.self.now.drawn c.self.invariant.numbered l n free in
    made_view objects (c.len-place.result - 1) c.fresh.result c.args.key.now l at c.fresh.ensures ∙ ap (with_fresh c.args.key.now) c.self.view_is
