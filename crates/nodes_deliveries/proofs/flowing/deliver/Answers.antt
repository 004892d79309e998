use Rattle.std.proofs.Common.{◌≡◌, ℕ, List, Option, sym, ap, subst, ◌∙◌}
use Rattle.std.specs.Option.{option_map}
use Rattle.std.specs.Prelude.{IfSome}
use Rattle.nodes_parts.specs.Referring.{named}
use Rattle.nodes_world.specs.declared.message.Message.{Message}
use Rattle.nodes_state.specs.Shown.{shown}
use Rattle.nodes_deliveries.specs.Arriving.{led_at}
use Rattle.nodes_deliveries.specs.declared.waiting.Receiver.{Receiver}
use Rattle.nodes_deliveries.proofs.Delivered.{delivered_nowhere, delivered_to, led_stays, marked_keeps}
use Rattle.nodes_ready.proofs.Growing.{KeepsCalls}
use Rattle.nodes_ready.proofs.Readied.{ready_messages}
use Rattle.nodes_deliveries.proofs.flowing.deliver.Goals as goal

abbrev seat_of : Option Receiver → Option ℕ
seat_of o = option_map (λ (r : Receiver). r.seat) o

pub arrive-requires-clause-ready : goal.arrive-requires-clause-ready
arrive-requires-clause-ready c =
    ready_messages c.args.state.now c.deliver.new.self
    (subst (λ (ms : List Message). KeepsCalls c.args.state.now.messages ms) (sym c.deliver.ensures) (marked_keeps c.args.state.now.messages c.args.place)) c.requires.ready

pub arrive-requires-clause-led : goal.arrive-requires-clause-led
arrive-requires-clause-led c =
    let led : option_map named c.in-Some.receiver.resource ≡ led_at c.args.state.now c.args.place =
    subst (λ (o : Option Receiver). IfSome o (λ r. option_map named r.resource ≡ led_at c.args.state.now c.args.place)) c.in-Some.is c.receiver_of-receiver.ensures.resource in
    led ∙ led_stays c.args.state.now c.args.place c.deliver.new.self c.deliver.ensures

pub returns-in-Some-clause-does : goal.returns-in-Some-clause-does
returns-in-Some-clause-does c =
    delivered_to c.args.state.now c.args.place (shown c.arrive.new.state) c.args.lines.now.items c.arrive.new.lines.items c.arrive.result c.requires.there
    c.deliver.new.self c.deliver.ensures c.in-Some.receiver.seat (sym c.receiver_of-receiver.ensures.seat ∙ ap seat_of c.in-Some.is) c.arrive.ensures.does

pub returns-in-None-clause-does : goal.returns-in-None-clause-does
returns-in-None-clause-does c =
    delivered_nowhere c.args.state.now c.args.place c.args.lines.now.items c.deliver.new.self c.requires.there c.deliver.ensures
    (sym c.receiver_of-receiver.ensures.seat ∙ ap seat_of c.in-None.is)

pub returns-in-None-clause-ready : goal.returns-in-None-clause-ready
returns-in-None-clause-ready c =
    ready_messages c.args.state.now c.deliver.new.self
    (subst (λ (ms : List Message). KeepsCalls c.args.state.now.messages ms) (sym c.deliver.ensures) (marked_keeps c.args.state.now.messages c.args.place)) c.requires.ready
