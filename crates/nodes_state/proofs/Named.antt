-- The names of a world are found where its seats and names stay.
use Rattle.std.proofs.Common.{◌≡◌, ℕ, List, [], map, refl, sym, ap, ◌∙◌}
use Rattle.ior_refs.specs.declared.key.ObjectKey.{ObjectKey}
use Rattle.nodes_world.specs.declared.message.Message.{Message}
use Rattle.nodes_world.specs.declared.thing.Thing.{Thing}
use Rattle.nodes_world.specs.World.{Seat, World, referred, transaction_name}
use Rattle.nodes_parts.specs.Naming.{HasNoNames, Names, name_of_key}
use Rattle.nodes_parts.specs.Referring.{referred_in}
use Rattle.nodes_state.specs.Does.{StaysSo}
use Rattle.nodes_state.specs.Seated.{seat_of}
use Rattle.nodes_state.specs.Shown.{HasNames, shown}
use Rattle.nodes_state.specs.Telling.{AreNamesOf}
use Rattle.nodes_state.specs.declared.state.State.{State}

-- a transaction's name is found among the names alone
pub name_is : (things : List (List ℕ × Thing)) (w : World) (key : ObjectKey) → w.names ≡ things → name_of_key things key ≡ transaction_name w key
unfolding transaction_name
name_is things w key e = ap (λ (xs : List (List ℕ × Thing)). name_of_key xs key) (sym e)

-- messages don't matter
referred_alike : (seats : List Seat) (m k : List Message) (names : List (List ℕ × Thing)) (to : List ℕ)
    → referred (record { seats = seats; messages = m; names = names }) to ≡ referred (record { seats = seats; messages = k; names = names }) to
unfolding referred
referred_alike seats m k names to = refl

none_referred : (seats : List Seat) (m : List Message) (to : List ℕ) → referred (record { seats = seats; messages = m; names = [] }) to ≡ referred_in [] to
unfolding referred
none_referred seats m to = refl

pub nothing_named : (n : Names) (seats : List Seat) (m : List Message) → HasNoNames n → AreNamesOf n (record { seats = seats; messages = m; names = n.things })
nothing_named n seats m none = record {
  things = refl;
  transactions = λ key. name_is n.things (record { seats = seats; messages = m; names = n.things }) key refl;
  references = λ to. ap (λ xs. referred_in xs to) none.referred ∙ sym (none_referred seats m to)
      ∙ sym (ap (λ xs. referred (record { seats = seats; messages = m; names = xs }) to) none.things);
}

pub names_stay : (old new : State) → StaysSo old new → HasNames old → HasNames new
names_stay old new same h = record {
  things = refl;
  transactions = λ key. name_is new.names.things (shown new) key refl;
  references = λ to.
      ap (λ (n : Names). referred_in n.referred to) same.names ∙ h.references to
      ∙ referred_alike (map seat_of old.seats.items) old.messages new.messages old.names.things to
      ∙ sym (ap (λ (n : Names). referred (record { seats = map seat_of old.seats.items; messages = new.messages; names = n.things }) to) same.names)
      ∙ sym (ap (λ xs. referred (record { seats = map seat_of xs; messages = new.messages; names = new.names.things }) to) (ap (λ v. v.items) same.seats));
}
