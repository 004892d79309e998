use Rattle.std.proofs.Common.{Option, Ok, subst, sym}
use Rattle.nodes_world.specs.Clients.{registers_object}
use Rattle.nodes_world.specs.Happenings.{Done, nothing}
use Rattle.nodes_state.specs.Does.{Does}
use Rattle.nodes_state.specs.Shown.{shown}
use Rattle.nodes_state.proofs.Doing.{does_nothing}
use Rattle.nodes_world.specs.World.{World}
use Rattle.nodes_calls.specs.Drawing.{DrawsObject, IsOfEnd}
use Rattle.nodes_calls.specs.declared.objects.Object.{Object}
use Rattle.nodes_ready.proofs.Readied.{ready_nodes}
use Rattle.nodes_calls.proofs.Registered.{registers_does, registers_nothing}
use Rattle.nodes_calls.proofs.registers.register.Goals as goal

pub register_object-requires-clause-ready : goal.register_object-requires-clause-ready
register_object-requires-clause-ready c =
    ready_nodes c.draw_object.new.state c.reference_to.new.state c.reference_to.ensures.nodes c.reference_to.ensures.messages
    (ready_nodes c.args.state.now c.draw_object.new.state c.in_ok-object.ensures.nodes c.draw_object.ensures.messages c.requires.ready)

pub register_object-requires-clause-made : goal.register_object-requires-clause-made
register_object-requires-clause-made c =
    let w = shown c.args.state.now in
    let u = shown c.draw_object.new.state in
    subst (λ (x : World). IsOfEnd c.in-Some.object x) (sym c.reference_to.ensures.world)
    (subst (λ (o : Option Object). DrawsObject c.args.manner c.args.place w u o) c.in-Some.is c.in_ok-object.ensures.drawn).1

pub returns-in_ok-to-in-Some-clause-does : goal.returns-in_ok-to-in-Some-clause-does
returns-in_ok-to-in-Some-clause-does c =
    let w = shown c.args.state.now in
    let u = shown c.draw_object.new.state in
    let v = shown c.register_object.new.state in
    let o = c.in-Some.object in
    let result = c.register_object.result in
    registers_does c.args.manner c.args.transaction.now c.args.place c.args.name.now w o u v
    c.args.lines.now.items c.register_object.new.lines.items result
    (subst (λ (x : Option Object). DrawsObject c.args.manner c.args.place w u x) c.in-Some.is c.in_ok-object.ensures.drawn).0
    (subst (λ (x : World). Does (registers_object o.manner o.key o.end c.args.transaction.now c.args.name.now x) v c.args.lines.now.items c.register_object.new.lines.items result)
    c.reference_to.ensures.world c.register_object.ensures.does)

pub returns-in-None-clause-does : goal.returns-in-None-clause-does
returns-in-None-clause-does c =
    let w = shown c.args.state.now in
    let u = shown c.draw_object.new.state in
    let none = subst (λ (o : Option Object). DrawsObject c.args.manner c.args.place w u o) c.in-None.is c.in_ok-object.ensures.drawn in
    subst (λ (d : Done). Does d u c.args.lines.now.items c.args.lines.now.items (Ok tt))
    (sym (registers_nothing c.args.manner c.args.transaction.now c.args.place c.args.name.now w none.0))
    (subst (λ (x : World). Does (nothing w) x c.args.lines.now.items c.args.lines.now.items (Ok tt)) (sym none.1) (does_nothing w c.args.lines.now.items))
