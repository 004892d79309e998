use Rattle.std.proofs.Common.{◌≡◌, true, None, sym, subst}
use Rattle.std.specs.Prelude.{find, IfSome, IsSome}
use Rattle.resource_end.specs.States.{is_unfinished}
use Rattle.resource_end.specs.End.{with_resource}
use Rattle.resource_end.specs.Calls.{with_cell}
use Rattle.resource_end.specs.Inside.{AreHeld, HasOwnPuts, is_other_holder, numbered}
use Rattle.resource_end.proofs.Claims.{at_known, either_way, held_cell, held_put, known}
use Rattle.resource_end.proofs.contents.Contents.put.Goals as goal

pub put-requires : goal.put-requires
put-requires c = record { unfinished = subst (λ s. IfSome (numbered c.args.id s.resources) (λ r. is_unfinished r.state ≡ true)) (sym c.self.view_is) c.requires.unfinished }

pub invariant_of-self-2 : goal.invariant_of-self-2
invariant_of-self-2 c =
    let there = subst (λ s. IsSome (numbered c.args.id s.resources)) (sym c.self.view_is) c.requires.known in
    let clean = subst (λ s. IfSome (numbered c.args.id s.resources) HasOwnPuts) (sym c.self.view_is) c.requires.clean in
    let free = subst (λ s. find (is_other_holder c.args.id c.args.put.cell) s.resources ≡ None) (sym c.self.view_is) c.requires.free in
    let held : AreHeld c.self.inside.contested c.hold.new.self c.self.inside.resources =
    held_cell c.self.inside.contested c.self.inside.cells c.hold.new.self c.self.inside.resources c.args.id c.args.put.cell free
    c.in-Ok.ensures.held c.in-Ok.ensures.others c.self.invariant in
    either_way c.put.result _ _ (AreHeld c.self.inside.contested c.hold.new.self c.put.new.self) c.put.ensures.ok c.put.ensures.err
    (λ after.
    let it = known (numbered c.args.id c.self.inside.resources) there (λ r. c.put.new.self ≡ with_resource (with_cell c.args.put.cell c.args.put.value r) c.self.inside.resources) after in
    subst (AreHeld c.self.inside.contested c.hold.new.self) (sym it.1.1)
    (held_put c.self.inside.contested c.hold.new.self c.self.inside.resources c.args.id it.0 c.args.put.cell c.args.put.value it.1.0
    (at_known (numbered c.args.id c.self.inside.resources) it.0 HasOwnPuts it.1.0 clean) c.in-Ok.ensures.held held))
    (λ same. subst (AreHeld c.self.inside.contested c.hold.new.self) (sym same) held)
