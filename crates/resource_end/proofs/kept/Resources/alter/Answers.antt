use Rattle.std.proofs.Common.{◌≡◌, ◌∙◌, ap, sym}
use Rattle.std.specs.BTreeMap.{is_at}
use Rattle.std.specs.Set.{remove_key}
use Rattle.resource_end.specs.States.{is_unfinished}
use Rattle.resource_end.specs.End.{moved}
use Rattle.resource_end.specs.Inside.{MayFollow, id_cmp, numbered, placed, puts_stored, resource_at, unfinished_ids}
use Rattle.resource_end.proofs.Claims.{at_known}
use Rattle.resource_end.proofs.Counted.{after_set, ids_set_over, ids_set_same, it_is, of_it, of_none}
use Rattle.resource_end.proofs.kept.Resources.alter.Goals as goal

pub returns-in_default-clause-after : goal.returns-in_default-clause-after
returns-in_default-clause-after c =
    of_none c.args.id c.self.inside.map.entries c.args.self.now c.self.view_is c.self.invariant.0 (sym c.in_default.ensures.value) _

pub returns-in_default-clause-puts : goal.returns-in_default-clause-puts
returns-in_default-clause-puts c =
    of_none c.args.id c.self.inside.map.entries c.args.self.now c.self.view_is c.self.invariant.0 (sym c.in_default.ensures.value) _

pub invariant_of-self-then-not-is_unfinished : goal.invariant_of-self-then-not-is_unfinished
invariant_of-self-then-not-is_unfinished c =
    let held = c.get_mut.follows.holds c.change-puts.new.self in
    let over = ap is_unfinished c.change-puts.ensures.state ∙ sym c.if-not-is_unfinished.ensures in (
      held.4,
      c.remove.ensures.keys
          ∙ ap (remove_key (is_at (id_cmp c.args.id))) c.self.invariant.1
          ∙ sym (ids_set_over c.args.id c.change-puts.new.self c.self.inside.map.entries c.self.invariant.0 over)
          ∙ ap unfinished_ids (sym held.0),
    )

pub invariant_of-self-else-not-is_unfinished : goal.invariant_of-self-else-not-is_unfinished
invariant_of-self-else-not-is_unfinished c =
    let held = c.get_mut.follows.holds c.change-puts.new.self in
    let was = it_is c.args.id c.self.inside.map.entries c.args.self.now c.self.view_is c.self.invariant.0 c.in-Some.kept.now (sym c.in-Some.ensures.value) in
    let follows = at_known (numbered c.args.id c.args.self.now) (resource_at c.args.id c.in-Some.kept.now) (λ r. MayFollow c.args.next r.state) was c.requires.follows in
    let same = ap is_unfinished c.change-puts.ensures.state ∙ sym c.if-not-is_unfinished.ensures ∙ sym (follows.unfinished (sym c.if-not-is_unfinished.ensures)) in (
      held.4,
      c.self.invariant.1
          ∙ sym (ids_set_same c.args.id c.change-puts.new.self c.in-Some.kept.now c.self.inside.map.entries (sym c.in-Some.ensures.value) same)
          ∙ ap unfinished_ids (sym held.0),
    )

pub returns-then-not-is_unfinished-clause-after : goal.returns-then-not-is_unfinished-clause-after
returns-then-not-is_unfinished-clause-after c =
    after_set c.args.id c.self.inside.map.entries c.args.self.now c.self.view_is c.self.invariant.0 c.change-puts.new.self c.in-Some.kept.now (sym c.in-Some.ensures.value)
    (c.get_mut.follows.lender c.change-puts.new.self).entries (c.get_mut.follows.holds c.change-puts.new.self).0
    (λ r. moved c.args.next (placed c.args.next c.args.place r)) (c.change-puts.ensures.after c.args.id)

pub returns-then-not-is_unfinished-clause-puts : goal.returns-then-not-is_unfinished-clause-puts
returns-then-not-is_unfinished-clause-puts c =
    of_it c.args.id c.self.inside.map.entries c.args.self.now c.self.view_is c.self.invariant.0 c.in-Some.kept.now (sym c.in-Some.ensures.value)
    (λ r. c.change-puts.result.items ≡ puts_stored c.args.next r) (c.change-puts.ensures.puts c.args.id)

pub returns-else-not-is_unfinished-clause-after : goal.returns-else-not-is_unfinished-clause-after
returns-else-not-is_unfinished-clause-after c =
    after_set c.args.id c.self.inside.map.entries c.args.self.now c.self.view_is c.self.invariant.0 c.change-puts.new.self c.in-Some.kept.now (sym c.in-Some.ensures.value)
    (c.get_mut.follows.lender c.change-puts.new.self).entries (c.get_mut.follows.holds c.change-puts.new.self).0
    (λ r. moved c.args.next (placed c.args.next c.args.place r)) (c.change-puts.ensures.after c.args.id)

pub returns-else-not-is_unfinished-clause-puts : goal.returns-else-not-is_unfinished-clause-puts
returns-else-not-is_unfinished-clause-puts c =
    of_it c.args.id c.self.inside.map.entries c.args.self.now c.self.view_is c.self.invariant.0 c.in-Some.kept.now (sym c.in-Some.ensures.value)
    (λ r. c.change-puts.result.items ≡ puts_stored c.args.next r) (c.change-puts.ensures.puts c.args.id)
