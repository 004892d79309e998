use Rattle.std.proofs.Common.{ℕ, ◌+◌, List, Option, Ok, refl, sym, ap, ◌∙◌}
use Rattle.std.specs.Option.{option_and_then, option_map}
use Rattle.nodes_parts.specs.Referring.{named}
use Rattle.nodes_parts.specs.declared.references.NamedKey.{NamedKey as Kept}
use Rattle.nodes_parts.specs.Sending.{called_by}
use Rattle.nodes_world.specs.World.{resource_at}
use Rattle.nodes_world.specs.declared.message.Content.{Content}
use Rattle.nodes_world.specs.declared.message.Content.TheVariants as contents
use Rattle.nodes_world.specs.declared.message.Message.{Message}
use Rattle.nodes_state.specs.Shown.{shown}
use Rattle.nodes_state.proofs.Doing.{tells_none}
use Rattle.nodes_deliveries.proofs.Receiving.{led_there}
use Rattle.nodes_deliveries.proofs.Delivered.{reached_node, reached_nobody, reached_resource, reached_sender}
use Rattle.nodes_ready.proofs.Readied.{ready_obeying}
use Rattle.nodes_deliveries.proofs.arriving.reach.Goals as goal

pub returns-in-Call-clause-does : goal.returns-in-Call-clause-does
returns-in-Call-clause-does c = λ content says.
    reached_node (shown c.args.state.now) (shown c.call_again.new.state) c.args.place (c.args.place + 1) content c.in-Some.message.now c.args.lines.now.items
    c.call_again.new.lines.items c.call_again.result says (sym c.in-Some.ensures) c.in-Call.to c.in-Call.act c.in-Call.is
    (c.call_again.ensures.does c.in-Call.to c.in-Call.act
    (ap (λ (o : Option Message). option_and_then (λ (m : Message). called_by m.content) o) (sym c.in-Some.ensures) ∙ ap (λ (x : Content). called_by x) c.in-Call.is))

pub returns-in-Some-resource-clause-does : goal.returns-in-Some-resource-clause-does
returns-in-Some-resource-clause-does c = λ content says.
    let found = sym (c.requires.ready.whole.names.references c.in-Request.outward.to)
    ∙ sym (led_there c.args.state.now c.args.place c.in-Some.message.now (contents.Request c.in-Request.from c.in-Request.outward) (sym c.in-Some.ensures) c.in-Request.is)
    ∙ sym c.requires.led ∙ ap (λ (r : Option Kept). option_map named r) c.in-Some-resource.is in
    reached_resource (shown c.args.state.now) (shown c.obey.new.state) c.args.place (c.args.place + 1) content c.in-Some.message.now c.args.lines.now.items
    c.obey.new.lines.items c.obey.result says (sym c.in-Some.ensures) c.in-Request.from c.in-Request.outward (named c.in-Some-resource.named) c.in-Request.is found
    c.obey.ensures.does

pub returns-in-Some-resource-clause-ready : goal.returns-in-Some-resource-clause-ready
returns-in-Some-resource-clause-ready c =
    ready_obeying c.args.state.now c.obey.new.state (resource_at (shown c.args.state.now) c.in-Some-resource.named.key) (c.args.place + 1)
    (named c.in-Some-resource.named) c.in-Request.outward.word c.args.lines.now.items c.obey.new.lines.items c.obey.result c.obey.ensures.nodes c.obey.ensures.does
    c.requires.ready

pub returns-in-None-clause-does : goal.returns-in-None-clause-does
returns-in-None-clause-does c = λ content says.
    let none = sym (c.requires.ready.whole.names.references c.in-Request.outward.to)
    ∙ sym (led_there c.args.state.now c.args.place c.in-Some.message.now (contents.Request c.in-Request.from c.in-Request.outward) (sym c.in-Some.ensures) c.in-Request.is)
    ∙ sym c.requires.led ∙ ap (λ (r : Option Kept). option_map named r) c.in-None.is in
    reached_nobody (shown c.args.state.now) (shown c.args.state.now) c.args.place (c.args.place + 1) content c.in-Some.message.now c.args.lines.now.items
    c.args.lines.now.items (Ok tt) says (sym c.in-Some.ensures) c.in-Request.from c.in-Request.outward c.in-Request.is none
    (refl, tells_none c.args.lines.now.items)

pub returns-in-Reply-clause-does : goal.returns-in-Reply-clause-does
returns-in-Reply-clause-does c = λ content says.
    reached_sender (shown c.args.state.now) (shown c.hear.new.state) c.args.place (c.args.place + 1) content c.in-Some.message.now c.args.lines.now.items
    c.hear.new.lines.items c.hear.result says (sym c.in-Some.ensures) c.in-Reply.request c.in-Reply.said c.in-Reply.is
    (c.hear.ensures.does c.in-Reply.said (sym c.heard_in-heard.ensures))
