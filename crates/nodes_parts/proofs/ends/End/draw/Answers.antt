use Rattle.std.proofs.Common.{◌≡◌, ◌+◌, length, ap, ◌∙◌, arith}
use Rattle.std.proofs.lemmas.Grind.{common_steps}
use Rattle.nodes_world.specs.Ends.{drawn_once}
use Rattle.nodes_parts.proofs.Ending.{drawn_view, free_drawn, kept_drawn, length_drawn}
use Rattle.nodes_parts.proofs.ends.End.draw.Goals as goal

pub invariant_of-self-2 : goal.invariant_of-self-2
invariant_of-self-2 c = kept_drawn c.self.inside.objects.items c.push.new.self.items c.self.inside.cells c.in_ok-push.ensures.items c.self.invariant

pub returns-clause-ok : goal.returns-clause-ok
returns-clause-ok c =
    let more : length c.push.new.self.items ≡ length c.self.inside.objects.items + 1 =
    ap length c.in_ok-push.ensures.items ∙ length_drawn c.self.inside.objects.items in
    let drawn = ap (λ e. e.drawn) c.self.view_is in
    let count : c.len.result ≡ length c.push.new.self.items = grind (arith, common_steps) in (
      count ∙ more ∙ ap (λ n. n + 1) drawn,
      drawn_view c.self.inside.objects.items c.push.new.self.items c.in_ok-push.ensures.items ∙ ap drawn_once c.self.view_is,
    )

pub returns-clause-free : goal.returns-clause-free
returns-clause-free c =
    let count : c.len.result ≡ length c.push.new.self.items = grind (arith, common_steps) in
    free_drawn c.self.inside.objects.items c.push.new.self.items c.len.result c.self.invariant.numbered c.in_ok-push.ensures.items
    (count ∙ ap length c.in_ok-push.ensures.items ∙ length_drawn c.self.inside.objects.items)
