use Rattle.std.proofs.Common.{◌≡◌, ℕ, List, Option, Some, None, slice_get, sym, ap, subst, ◌∙◌}
use Rattle.std.specs.Option.{option_map}
use Rattle.std.specs.Prelude.{IfSome}
use Rattle.nodes_parts.specs.Referring.{named, referred_in}
use Rattle.nodes_world.specs.declared.message.Content.TheVariants as contents
use Rattle.nodes_state.specs.Shown.{shown}
use Rattle.nodes_state.specs.declared.state.State.{State}
use Rattle.nodes_deliveries.specs.Arriving.{led_at}
use Rattle.nodes_deliveries.specs.declared.waiting.Receiver.{Receiver}
use Rattle.nodes_deliveries.proofs.Receiving.{led_there, to_node, to_resource, to_sender}
use Rattle.nodes_deliveries.proofs.waiting.receiver_of.Goals as goal

abbrev seat_of : Option Receiver → Option ℕ
seat_of o = option_map (λ (r : Receiver). r.seat) o

-- nothing is said of no receiver
module _ (s : State) (place : ℕ) where
  abbrev leads : Option Receiver → Type 0
  leads o = IfSome o (λ r. option_map named r.resource ≡ led_at s place)

  nobody : (o : Option Receiver) → o ≡ None → leads o
  nobody o none = subst leads (sym none) tt

pub returns-in_err-to-clause-resource : goal.returns-in_err-to-clause-resource
returns-in_err-to-clause-resource c = nobody c.args.state.now c.args.place c.from_residual.result c.from_residual.ensures

pub returns-in_err-resource-in-Request-clause-resource : goal.returns-in_err-resource-in-Request-clause-resource
returns-in_err-resource-in-Request-clause-resource c =
    nobody c.args.state.now c.args.place c.from_residual-in_err-resource-in-Request.result c.from_residual-in_err-resource-in-Request.ensures

pub returns-in_err-request-in-Reply-clause-resource : goal.returns-in_err-request-in-Reply-clause-resource
returns-in_err-request-in-Reply-clause-resource c =
    nobody c.args.state.now c.args.place c.from_residual-in_err-request-in-Reply.result c.from_residual-in_err-request-in-Reply.ensures

pub returns-in_err-sender_of-in-Reply-clause-resource : goal.returns-in_err-sender_of-in-Reply-clause-resource
returns-in_err-sender_of-in-Reply-clause-resource c =
    nobody c.args.state.now c.args.place c.from_residual-in_err-sender_of-in-Reply.result c.from_residual-in_err-sender_of-in-Reply.ensures

pub returns-in_err-resource-in-Request-clause-seat : goal.returns-in_err-resource-in-Request-clause-seat
returns-in_err-resource-in-Request-clause-seat c =
    let none = sym (c.requires.names.references c.in-Request.outward.to)
    ∙ ap (λ (to : List ℕ). referred_in c.args.state.now.names.referred to) (sym c.bytes.ensures.same) ∙ sym c.in_err-resource-in-Request.ensures.referred in
    ap seat_of c.from_residual-in_err-resource-in-Request.ensures
    ∙ sym (to_resource (shown c.args.state.now) c.args.place c.in_ok-to.field-0.now c.in-Request.from c.in-Request.outward None (sym c.in_ok-to.ensures) c.in-Request.is none)

pub returns-in_err-request-in-Reply-clause-seat : goal.returns-in_err-request-in-Reply-clause-seat
returns-in_err-request-in-Reply-clause-seat c =
    ap seat_of c.from_residual-in_err-request-in-Reply.ensures
    ∙ sym (to_sender (shown c.args.state.now) c.args.place c.in_ok-to.field-0.now c.in-Reply.request c.in-Reply.said None (sym c.in_ok-to.ensures) c.in-Reply.is
    (ap (λ n. slice_get c.args.state.now.messages n) (sym c.message_place.ensures) ∙ sym c.in_err-request-in-Reply.ensures))

pub returns-in_err-sender_of-in-Reply-clause-seat : goal.returns-in_err-sender_of-in-Reply-clause-seat
returns-in_err-sender_of-in-Reply-clause-seat c =
    ap seat_of c.from_residual-in_err-sender_of-in-Reply.ensures ∙ c.in_err-sender_of-in-Reply.ensures
    ∙ sym (to_sender (shown c.args.state.now) c.args.place c.in_ok-to.field-0.now c.in-Reply.request c.in-Reply.said (Some c.in_ok-request-in-Reply.request.now) (sym c.in_ok-to.ensures)
    c.in-Reply.is (ap (λ n. slice_get c.args.state.now.messages n) (sym c.message_place.ensures) ∙ sym c.in_ok-request-in-Reply.ensures))

pub returns-in-Call-clause-seat : goal.returns-in-Call-clause-seat
returns-in-Call-clause-seat c =
    ap (λ (r : Receiver). Some r.seat) c.seated.ensures ∙ ap (λ n. Some n) c.place_of.ensures
    ∙ sym (to_node (shown c.args.state.now) c.args.place c.in_ok-to.field-0.now c.in-Call.to c.in-Call.act (sym c.in_ok-to.ensures) c.in-Call.is)

pub returns-in-Call-clause-resource : goal.returns-in-Call-clause-resource
returns-in-Call-clause-resource c =
    ap (λ (r : Receiver). option_map named r.resource) c.seated.ensures
    ∙ sym (led_there c.args.state.now c.args.place c.in_ok-to.field-0.now (contents.Call c.in-Call.to c.in-Call.act) (sym c.in_ok-to.ensures) c.in-Call.is)

pub returns-in_ok-resource-in-Request-clause-seat : goal.returns-in_ok-resource-in-Request-clause-seat
returns-in_ok-resource-in-Request-clause-seat c =
    let there = sym (c.requires.names.references c.in-Request.outward.to)
    ∙ ap (λ (to : List ℕ). referred_in c.args.state.now.names.referred to) (sym c.bytes.ensures.same) ∙ sym c.in_ok-resource-in-Request.ensures.referred in
    ap (λ n. Some n) c.place_of-in-Request.ensures
    ∙ sym (to_resource (shown c.args.state.now) c.args.place c.in_ok-to.field-0.now c.in-Request.from c.in-Request.outward (Some (named c.in_ok-resource-in-Request.resource))
    (sym c.in_ok-to.ensures) c.in-Request.is there)

pub returns-in_ok-resource-in-Request-clause-resource : goal.returns-in_ok-resource-in-Request-clause-resource
returns-in_ok-resource-in-Request-clause-resource c =
    c.in_ok-resource-in-Request.ensures.referred
    ∙ ap (λ (to : List ℕ). referred_in c.args.state.now.names.referred to) c.bytes.ensures.same
    ∙ sym (led_there c.args.state.now c.args.place c.in_ok-to.field-0.now (contents.Request c.in-Request.from c.in-Request.outward) (sym c.in_ok-to.ensures) c.in-Request.is)

pub returns-in_ok-sender_of-in-Reply-clause-seat : goal.returns-in_ok-sender_of-in-Reply-clause-seat
returns-in_ok-sender_of-in-Reply-clause-seat c =
    ap (λ (r : Receiver). Some r.seat) c.seated-in-Reply.ensures ∙ c.in_ok-sender_of-in-Reply.ensures
    ∙ sym (to_sender (shown c.args.state.now) c.args.place c.in_ok-to.field-0.now c.in-Reply.request c.in-Reply.said (Some c.in_ok-request-in-Reply.request.now) (sym c.in_ok-to.ensures)
    c.in-Reply.is (ap (λ n. slice_get c.args.state.now.messages n) (sym c.message_place.ensures) ∙ sym c.in_ok-request-in-Reply.ensures))

pub returns-in_ok-sender_of-in-Reply-clause-resource : goal.returns-in_ok-sender_of-in-Reply-clause-resource
returns-in_ok-sender_of-in-Reply-clause-resource c =
    ap (λ (r : Receiver). option_map named r.resource) c.seated-in-Reply.ensures
    ∙ sym (led_there c.args.state.now c.args.place c.in_ok-to.field-0.now (contents.Reply c.in-Reply.request c.in-Reply.said) (sym c.in_ok-to.ensures) c.in-Reply.is)
