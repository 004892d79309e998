use Rattle.std.proofs.Common.{◌≡◌, ◌∙◌, true, ap, sym}
use Rattle.std.specs.Prelude.{IfSome}
use Rattle.resource_end.specs.States.{is_unfinished}
use Rattle.resource_end.specs.End.{Resource, with_resource}
use Rattle.resource_end.specs.Calls.{with_cell}
use Rattle.resource_end.specs.Inside.{numbered, resource_at, resources_of, unfinished_ids}
use Rattle.resource_end.proofs.Claims.{at_known, either_way, on_err, on_ok}
use Rattle.resource_end.proofs.Counted.{after_set, ids_set_same, it_is, of_none, same_set}
use Rattle.resource_end.proofs.kept.Resources.put.Goals as goal

pub returns-in_default-clause-ok : goal.returns-in_default-clause-ok
returns-in_default-clause-ok c =
    of_none c.args.id c.self.inside.map.entries c.args.self.now c.self.view_is c.self.invariant.0 (sym c.in_default.ensures.value) _

pub invariant_of-self-2 : goal.invariant_of-self-2
invariant_of-self-2 c =
    let held = c.get_mut.follows.holds c.put.new.self in
    let was = it_is c.args.id c.self.inside.map.entries c.args.self.now c.self.view_is c.self.invariant.0 c.in-Some.kept.now (sym c.in-Some.ensures.value) in
    let yes = at_known (numbered c.args.id c.args.self.now) (resource_at c.args.id c.in-Some.kept.now) (λ r. is_unfinished r.state ≡ true) was c.requires.unfinished in
    let same = either_way c.put.result _ _ (is_unfinished c.put.new.self.state ≡ is_unfinished c.in-Some.kept.now.state) c.put.ensures.ok c.put.ensures.err
    (λ put. ap (λ (r : Resource). is_unfinished r.state) (put c.args.id) ∙ sym yes) (λ stays. ap (λ (r : Resource). is_unfinished r.state) (stays c.args.id)) in (
      held.4,
      c.self.invariant.1
          ∙ sym (ids_set_same c.args.id c.put.new.self c.in-Some.kept.now c.self.inside.map.entries (sym c.in-Some.ensures.value) same)
          ∙ ap unfinished_ids (sym held.0),
    )

pub returns-clause-ok : goal.returns-clause-ok
returns-clause-ok c =
    on_ok c.put.result _ (IfSome (numbered c.args.id c.args.self.now)
    (λ r. resources_of (c.get_mut.follows.lender c.put.new.self).entries ≡ with_resource (with_cell c.args.put.cell c.args.put.value r) c.args.self.now)) c.put.ensures.ok (λ put.
    after_set c.args.id c.self.inside.map.entries c.args.self.now c.self.view_is c.self.invariant.0 c.put.new.self c.in-Some.kept.now (sym c.in-Some.ensures.value)
    (c.get_mut.follows.lender c.put.new.self).entries (c.get_mut.follows.holds c.put.new.self).0
    (with_cell c.args.put.cell c.args.put.value) (put c.args.id))

pub returns-clause-err : goal.returns-clause-err
returns-clause-err c =
    on_err c.put.result _ (resources_of (c.get_mut.follows.lender c.put.new.self).entries ≡ c.args.self.now) c.put.ensures.err (λ stays.
    ap resources_of (c.get_mut.follows.holds c.put.new.self).0
    ∙ same_set c.args.id c.self.inside.map.entries c.put.new.self c.in-Some.kept.now (sym c.in-Some.ensures.value) stays ∙ c.self.view_is)
