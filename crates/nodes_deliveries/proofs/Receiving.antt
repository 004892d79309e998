-- To whom a message goes, and who waits for a reply.
use Rattle.std.proofs.Common.{◌≡◌, ℕ, Bool, false, slice_get, Option, Some, None, if◌then◌else◌, ◌==◌, ap, ◌∙◌}
use Rattle.std.specs.Option.{option_map, option_map_or, option_and_then}
use Rattle.std.specs.Prelude.{not, ◌&&◌}
use Rattle.ior_refs.specs.declared.key.ObjectKey.{ObjectKey}
use Rattle.ots_model.specs.declared.completion.CallNumber.{CallNumber}
use Rattle.ots_model.specs.declared.tree.Outward.{Outward}
use Rattle.coordinator.specs.declared.event.Act.{Act}
use Rattle.coordinator.specs.declared.said.Said.{Said}
use Rattle.nodes_world.specs.declared.message.Content.{Content}
use Rattle.nodes_world.specs.declared.message.Content.TheVariants as contents
use Rattle.nodes_world.specs.declared.message.Message.{Message}
use Rattle.nodes_world.specs.Deliveries.{receiver_of, sender_of}
use Rattle.nodes_world.specs.Objects.{place_of}
use Rattle.nodes_world.specs.World.{NamedKey, World, life_at, message_numbered, referred}
use Rattle.nodes_state.specs.declared.state.State.{State}
use Rattle.nodes_deliveries.specs.Arriving.{led_at, led_by, receiver_at, waits_for, waits_in}

-- ---- to whom the message at a place goes

module _ (w : World) (place : ℕ) where
  pub no_receiver : slice_get w.messages place ≡ None → receiver_at w place ≡ None
  no_receiver none = ap (λ (o : Option Message). option_and_then (λ (x : Message). receiver_of w x.content) o) none

  receiver_there : (m : Message) (c : Content) → slice_get w.messages place ≡ Some m → m.content ≡ c → receiver_at w place ≡ receiver_of w c
  receiver_there m c there says =
      ap (λ (o : Option Message). option_and_then (λ (x : Message). receiver_of w x.content) o) there ∙ ap (λ (x : Content). receiver_of w x) says

  pub to_node : (m : Message) (to : ObjectKey) (act : Act) → slice_get w.messages place ≡ Some m → m.content ≡ contents.Call to act
      → receiver_at w place ≡ Some (place_of to)
  unfolding receiver_of
  to_node m to act there says = receiver_there m (contents.Call to act) there says

  pub to_resource : (m : Message) (from : ℕ) (o : Outward) (found : Option NamedKey) → slice_get w.messages place ≡ Some m
      → m.content ≡ contents.Request from o → referred w o.to ≡ found → receiver_at w place ≡ option_map (λ (r : NamedKey). place_of r.key) found
  unfolding receiver_of
  to_resource m from o found there says is =
      receiver_there m (contents.Request from o) there says ∙ ap (λ (x : Option NamedKey). option_map (λ (r : NamedKey). place_of r.key) x) is

  pub to_sender : (m : Message) (request : ℕ) (said : Said) (found : Option Message) → slice_get w.messages place ≡ Some m
      → m.content ≡ contents.Reply request said → message_numbered w request ≡ found
      → receiver_at w place ≡ option_and_then (λ (x : Message). sender_of x.content) found
  unfolding receiver_of
  to_sender m request said found there says is =
      receiver_there m (contents.Reply request said) there says ∙ ap (λ (x : Option Message). option_and_then (λ (y : Message). sender_of y.content) x) is

-- ---- the resource to which it leads

pub led_there : (s : State) (place : ℕ) (m : Message) (c : Content) → slice_get s.messages place ≡ Some m → m.content ≡ c
    → led_at s place ≡ led_by s.names.referred c
led_there s place m c there says =
    ap (λ (o : Option Message). option_and_then (λ (x : Message). led_by s.names.referred x.content) o) there
    ∙ ap (λ (x : Content). led_by s.names.referred x) says

-- ---- who waits for a reply

module _ (w : World) (request : ℕ) where
  pub nobody_waits : message_numbered w request ≡ None → waits_for w request ≡ None
  nobody_waits none = ap (λ (o : Option Message). option_and_then (λ (x : Message). waits_in w x x.content) o) none

  pub waits_there : (m : Message) (c : Content) → message_numbered w request ≡ Some m → m.content ≡ c → waits_for w request ≡ waits_in w m c
  waits_there m c there says =
      ap (λ (o : Option Message). option_and_then (λ (x : Message). waits_in w x x.content) o) there ∙ ap (λ (x : Content). waits_in w m x) says

  abbrev waiter : ℕ → CallNumber → Bool → Option (ℕ × CallNumber)
  waiter from number waited = if waited then Some (from, number) else None

  pub waits_by : (m : Message) (from : ℕ) (o : Outward) (answered : Bool) (life : Option ℕ) → message_numbered w request ≡ Some m
      → m.content ≡ contents.Request from o → m.answered ≡ answered → life_at w from ≡ life
      → waits_for w request ≡ waiter from o.number (not answered && option_map_or (λ (l : ℕ). l == o.number.life) life false)
  waits_by m from o answered life there says heard is =
      waits_there m (contents.Request from o) there says
      ∙ ap (λ b. waiter from o.number (not b && option_map_or (λ (l : ℕ). l == o.number.life) (life_at w from) false)) heard
      ∙ ap (λ (x : Option ℕ). waiter from o.number (not answered && option_map_or (λ (l : ℕ). l == o.number.life) x false)) is
