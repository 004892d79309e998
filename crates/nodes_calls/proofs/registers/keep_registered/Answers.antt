use Rattle.std.proofs.Common.{◌∙◌}
use Rattle.nodes_world.specs.Objects.{place_of}
use Rattle.nodes_ready.proofs.Keeping.{named_nodes}
use Rattle.nodes_calls.proofs.Named.{ready_resource}
use Rattle.nodes_ready.proofs.Readied.{ready_nodes}
use Rattle.nodes_calls.proofs.registers.keep_registered.Goals as goal

pub returns-clause-ready : goal.returns-clause-ready
returns-clause-ready c =
    let s = c.args.state.now in
    let m = c.make_resource.new.state in
    let key = c.args.object.now.key in
    ready_resource m c.name_resource.new.self c.args.name.now key c.args.octets.items c.args.object.now.end
    (named_nodes s m c.make_resource.ensures.nodes (place_of key) ∙ c.requires.made.named) c.requires.octets c.in_ok-name_resource.ensures.things
    c.in_ok-name_resource.ensures.referred (ready_nodes s m c.make_resource.ensures.nodes c.make_resource.ensures.messages c.requires.ready)
