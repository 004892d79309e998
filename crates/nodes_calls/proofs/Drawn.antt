-- An end makes an object, and that becomes a resource.
use Rattle.std.proofs.Common.{◌≡◌, ℕ, ◌+◌, ◌<◌, List, length, map, get_or, slice_get, slice_set, Option, Some, None, refl, sym, ap, subst, ◌∙◌, arith, inr}
use Rattle.std.specs.Option.{option_and_then, option_map}
use Rattle.std.proofs.lemmas.List.{set-get_or}
use Rattle.std.proofs.lemmas.Option.{same_Some, slice_get-map, slice_get_read, slice_get_within}
use Rattle.ior_refs.specs.declared.key.ObjectKey.{ObjectKey}
use Rattle.nodes_parts.specs.Kept.{resource_numbered}
use Rattle.nodes_parts.specs.Naming.{Names}
use Rattle.nodes_world.specs.declared.deed.Manner.{Manner}
use Rattle.nodes_world.specs.declared.message.Message.{Message}
use Rattle.nodes_world.specs.Ends.{drawn_once, with_end}
use Rattle.nodes_world.specs.Objects.{place_of, resource_key}
use Rattle.nodes_world.specs.World.{FlatEnd, Seat, World, end_at, end_in, seat_name}
use Rattle.nodes_state.specs.Seated.{seat_of, server_of}
use Rattle.nodes_state.specs.Shown.{shown}
use Rattle.nodes_state.specs.declared.seats.Seat.{Seat as Kept}
use Rattle.nodes_state.specs.declared.seats.Server.{Server}
use Rattle.nodes_state.specs.declared.seats.Server.TheVariants as servers
use Rattle.nodes_state.specs.declared.state.State.{State}
use Rattle.nodes_ends.specs.Ending.{KeepsNodes, with_end_in, with_end_there}
use Rattle.nodes_ends.proofs.EndChanged.{end_changed, end_keeps}
use Rattle.nodes_calls.specs.Drawing.{DrawsObject, HasDrawn, IsLast, IsLastIn}
use Rattle.nodes_calls.specs.declared.objects.Object.{Object}
use Rattle.nodes_calls.proofs.Ends.{end_becomes, no_end_becomes}
use Rattle.nodes_ready.proofs.Keeping.{named_nodes}

-- ---- an end at a place

seat_there : (s : State) (place : ℕ) (o : Option Kept) → slice_get s.seats.items place ≡ o → slice_get (shown s).seats place ≡ option_map seat_of o
seat_there s place o e = slice_get-map seat_of s.seats.items place ∙ ap (λ (x : Option Kept). option_map seat_of x) e

end_there : (s : State) (place : ℕ) (o : Option Kept) → slice_get s.seats.items place ≡ o
    → end_at (shown s) place ≡ option_and_then (λ (x : Seat). end_in x.server) (option_map seat_of o)
unfolding end_at
end_there s place o e = ap (λ (x : Option Seat). option_and_then (λ (y : Seat). end_in y.server) x) (seat_there s place o e)

pub no_seat : (s : State) (place : ℕ) → slice_get s.seats.items place ≡ None → end_at (shown s) place ≡ None
no_seat s place e = end_there s place None e

pub end_within : (s : State) (place : ℕ) (e : FlatEnd) → end_at (shown s) place ≡ Some e → place < length s.seats.items
end_within s place e there = by_seat (slice_get s.seats.items place) refl
  where
    by_seat : (o : Option Kept) → slice_get s.seats.items place ≡ o → place < length s.seats.items
    by_seat (Some k) is = slice_get_within s.seats.items place k is
    by_seat None is = let none : end_at (shown s) place ≡ None = no_seat s place is in absurd cc

pub last_in : (s : State) (place : ℕ) (k : Kept) (key : ObjectKey) (e : FlatEnd) → slice_get s.seats.items place ≡ Some k → end_at (shown s) place ≡ Some e
    → IsLast key e → IsLastIn key k.server
last_in s place k key e is there last = by_server k.server (sym (end_there s place (Some k) is) ∙ there)
  where
    by_server : (v : Server) → end_in (server_of v) ≡ Some e → IsLastIn key v
    by_server (servers.Up n) same = tt
    by_server (servers.Down octets) same = tt
    by_server (servers.End x) same = subst (λ (y : FlatEnd). IsLast key y) (sym (same_Some x e same)) last

pub at_place : (xs : List Kept) (place : ℕ) (k : Kept) → place < length xs → k ≡ get_or xs place k → slice_get xs place ≡ Some k
at_place xs place k within has = slice_get_read xs (length xs) place k refl within has

pub same_seat : (xs : List Kept) (place : ℕ) (k x : Kept) → slice_get xs place ≡ Some k → slice_get xs place ≡ Some x → k ≡ x
same_seat xs place k x a b = cc

-- ---- it becomes another

module _ (s new : State) (place : ℕ) (k : Kept) (v : Server) (there : slice_get s.seats.items place ≡ Some k)
    (seats : new.seats.items ≡ slice_set s.seats.items place (record k { server = v })) (messages : new.messages ≡ s.messages) (names : new.names ≡ s.names) where
  module _ (change : FlatEnd → FlatEnd) (becomes : v ≡ with_end_there change k.server) where
    in_seats : new.seats.items ≡ with_end_in place change s.seats.items
    in_seats =
        seats ∙ ap (λ (x : Server). slice_set s.seats.items place (record k { server = x })) becomes
        ∙ sym (ap (λ (o : Option Kept). elim o as (λ _. List Kept) [
          | Some x ↦ slice_set s.seats.items place (record x { server = with_end_there change x.server })
          | None ↦ s.seats.items
        ]) there)

    pub world_becomes : shown new ≡ with_end place change (shown s)
    world_becomes =
        ap (λ (xs : List Kept). record { seats = map seat_of xs; messages = new.messages; names = new.names.things }) in_seats
        ∙ ap (λ (m : List Message). record { seats = map seat_of (with_end_in place change s.seats.items); messages = m; names = new.names.things }) messages
        ∙ ap (λ (n : Names). record { seats = map seat_of (with_end_in place change s.seats.items); messages = s.messages; names = n.things }) names
        ∙ end_changed s.seats.items s.messages s.names.things place change

    pub nodes_stay : KeepsNodes s new
    nodes_stay = end_keeps s new place change names in_seats

  -- ---- it has made one more object

  drawn_by : (number : ℕ) (b : Server) → k.server ≡ b → HasDrawn b v (Some number) → v ≡ with_end_there drawn_once k.server
  drawn_by number (servers.Up n) is h = absurd h
  drawn_by number (servers.Down octets) is h = absurd h
  drawn_by number (servers.End e) is h = h.2 ∙ sym (ap (λ (x : Server). with_end_there drawn_once x) is)

  pub has_drawn : (number : ℕ) → HasDrawn k.server v (Some number) → v ≡ with_end_there drawn_once k.server
  has_drawn number h = drawn_by number k.server refl h

  named_there : seat_name (shown s) place ≡ Some k.name
  named_there = ap (λ (o : Option Seat). option_map (λ (x : Seat). x.name) o) (seat_there s place (Some k) there)

  module _ (manner : Manner) (number : ℕ) (o : Object) (manner_is : o.manner ≡ manner) (key_is : o.key ≡ resource_key manner place number) (end_is : o.end ≡ k.name) where
    draws_by : (b : Server) → k.server ≡ b → HasDrawn b v (Some number) → DrawsObject manner place (shown s) (shown new) (Some o)
    draws_by (servers.Up n) is h = absurd h
    draws_by (servers.Down octets) is h = absurd h
    draws_by (servers.End e) is h =
        let becomes = drawn_by number (servers.End e) is h in
        let up : end_at (shown s) place ≡ Some e = end_there s place (Some k) there ∙ ap (λ (x : Server). end_in (server_of x)) is in
        let later = world_becomes drawn_once becomes in
        let back : place_of (resource_key manner place number) ≡ place = omega arith in
        let at : place_of o.key ≡ place = ap place_of key_is ∙ back in
        let number_is : number ≡ e.drawn + 1 = h.0 in
        let free : resource_numbered number e ≡ None = h.1 in (
          record {
            end = e;
            there = up;
            named = named_there ∙ ap (λ (n : List ℕ). Some n) (sym end_is);
            manner = manner_is;
            key = key_is ∙ ap (λ n. resource_key manner place n) number_is;
            later = later;
          },
          record {
            end = drawn_once e;
            there = ap (λ n. end_at (shown new) n) at ∙ ap (λ (w : World). end_at w place) later ∙ end_becomes place drawn_once (shown s) e up;
            last = record {
              number = ap (λ (key : ObjectKey). key.generation) key_is ∙ number_is;
              some = omega arith;
              free = ap (λ n. resource_numbered n e) (sym number_is) ∙ free;
            };
            named = ap (λ n. seat_name (shown new) n) at ∙ named_nodes s new (nodes_stay drawn_once becomes) place ∙ named_there
                ∙ ap (λ (n : List ℕ). Some n) (sym end_is);
          },
        )

    pub draws : HasDrawn k.server v (Some number) → DrawsObject manner place (shown s) (shown new) (Some o)
    draws h = draws_by k.server refl h

  -- ---- or there is none

  none_by : (b : Server) → k.server ≡ b → HasDrawn b v None → (v ≡ with_end_there drawn_once k.server) × (end_at (shown s) place ≡ None)
  none_by (servers.Up n) is h = (
    h ∙ sym (ap (λ (x : Server). with_end_there drawn_once x) is),
    end_there s place (Some k) there ∙ ap (λ (x : Server). end_in (server_of x)) is,
  )
  none_by (servers.Down octets) is h = (
    h ∙ sym (ap (λ (x : Server). with_end_there drawn_once x) is),
    end_there s place (Some k) there ∙ ap (λ (x : Server). end_in (server_of x)) is,
  )
  none_by (servers.End e) is h = absurd h

  pub none_drawn : HasDrawn k.server v None → v ≡ with_end_there drawn_once k.server
  none_drawn h = (none_by k.server refl h).0

  pub draws_none : (manner : Manner) → HasDrawn k.server v None → DrawsObject manner place (shown s) (shown new) None
  draws_none manner h =
      let b = none_by k.server refl h in
      (b.1, world_becomes drawn_once b.0 ∙ no_end_becomes place drawn_once (shown s) b.1)

-- ---- what stands at a seat stays as it is

module _ (s new : State) (place : ℕ) (k : Kept) (v : Server) (is : k ≡ get_or s.seats.items place k)
    (seats : new.seats.items ≡ slice_set s.seats.items place (record k { server = v })) (messages : new.messages ≡ s.messages) (names : new.names ≡ s.names)
    (same : v ≡ k.server) where
  seats_stay : new.seats.items ≡ s.seats.items
  seats_stay =
      seats ∙ ap (λ (x : Server). slice_set s.seats.items place (record k { server = x })) same
      ∙ ap (λ (x : Kept). slice_set s.seats.items place x) is ∙ set-get_or s.seats.items place k

  pub world_stays : shown new ≡ shown s
  world_stays =
      ap (λ (xs : List Kept). record (shown new) { seats = map seat_of xs }) seats_stay
      ∙ ap (λ (ms : List Message). record (shown s) { messages = ms; names = new.names.things }) messages
      ∙ ap (λ (n : Names). record (shown s) { names = n.things }) names

  pub all_nodes_stay : KeepsNodes s new
  all_nodes_stay = record {
    names = names;
    seat_names = ap (λ (xs : List Kept). map (λ (x : Kept). x.name) xs) seats_stay;
    seats = λ at x there. inr (subst (λ (xs : List Kept). slice_get xs at ≡ Some x) seats_stay there);
  }

pub none_changed : (s : State) → KeepsNodes s s
none_changed s = record { names = refl; seat_names = refl; seats = λ at x there. inr there }
