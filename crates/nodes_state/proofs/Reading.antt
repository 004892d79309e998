-- What stands at a place, read in the seats that the code keeps.
use Rattle.std.proofs.Common.{◌≡◌, ℕ, ◌<◌, ◌≤◌, List, length, map, find, slice_get, Option, Some, None, MatchOption, Bor, refl, sym, ap, ◌∙◌}
use Rattle.std.specs.List.{HoldsAt}
use Rattle.std.specs.Option.{option_map, option_and_then, option_copied}
use Rattle.std.proofs.lemmas.Option.{slice_get-map, slice_get_read, slice_get_past}
use Rattle.ior_refs.specs.declared.key.ObjectKey.{ObjectKey}
use Rattle.nodes_parts.specs.Kept.{resource_numbered}
use Rattle.nodes_world.specs.Objects.{place_of}
use Rattle.nodes_world.specs.World.{FlatEnd, Seat, World, end_at, end_in, has_number, life_at, life_in, node_at, node_in, resource_at}
use Rattle.nodes_state.specs.Seated.{seat_of, server_of}
use Rattle.nodes_state.specs.Shown.{shown}
use Rattle.nodes_state.specs.declared.seats.Seat.{Seat as Kept}
use Rattle.nodes_state.specs.declared.state.State.{State}

-- what `get` found
abbrev Finds : {A : Type 0} → List A → ℕ → Option (Bor A) → Type 0
Finds {A} xs i found = MatchOption found (length xs ≤ i) (λ x. (i < length xs) × HoldsAt {X = A} (λ y. x.now ≡ y) xs i)

pub read_at : {A : Type 0} (xs ys : List A) (i : ℕ) (found : Option (Bor A)) → xs ≡ ys → Finds xs i found → slice_get ys i ≡ option_copied found
read_at xs ys i None same past = ap (λ zs. slice_get zs i) (sym same) ∙ slice_get_past xs i past
read_at xs ys i (Some x) same at = ap (λ zs. slice_get zs i) (sym same) ∙ slice_get_read xs (length xs) i x.now refl at.0 (at.1 x.now)

seat_shown : (s : State) (place : ℕ) (o : Option Kept) → slice_get s.seats.items place ≡ o → slice_get (map seat_of s.seats.items) place ≡ option_map seat_of o
seat_shown s place o e = slice_get-map seat_of s.seats.items place ∙ ap (λ x. option_map seat_of x) e

pub clock_shown : (s : State) (place : ℕ) (o : Option Kept) → slice_get s.seats.items place ≡ o
    → option_map (λ (x : Seat). x.clock) (slice_get (shown s).seats place) ≡ option_map (λ (k : Kept). k.clock) o
clock_shown s place o e = ap (λ x. option_map (λ (y : Seat). y.clock) x) (seat_shown s place o e) ∙ twice o
  where
    twice : (x : Option Kept) → option_map (λ (y : Seat). y.clock) (option_map seat_of x) ≡ option_map (λ (k : Kept). k.clock) x
    twice (Some k) = refl
    twice None = refl

pub node_there : (s : State) (place : ℕ) (k : Kept) → slice_get s.seats.items place ≡ Some k → node_at (shown s) place ≡ node_in (server_of k.server)
unfolding node_at
node_there s place k e = ap (λ o. option_and_then (λ (x : Seat). node_in x.server) o) (seat_shown s place (Some k) e)

pub no_node : (s : State) (place : ℕ) → slice_get s.seats.items place ≡ None → node_at (shown s) place ≡ None
unfolding node_at
no_node s place e = ap (λ o. option_and_then (λ (x : Seat). node_in x.server) o) (seat_shown s place None e)

pub end_there : (s : State) (place : ℕ) (k : Kept) → slice_get s.seats.items place ≡ Some k → end_at (shown s) place ≡ end_in (server_of k.server)
unfolding end_at
end_there s place k e = ap (λ o. option_and_then (λ (x : Seat). end_in x.server) o) (seat_shown s place (Some k) e)

pub no_end : (s : State) (place : ℕ) → slice_get s.seats.items place ≡ None → end_at (shown s) place ≡ None
unfolding end_at
no_end s place e = ap (λ o. option_and_then (λ (x : Seat). end_in x.server) o) (seat_shown s place None e)

pub life_there : (s : State) (place : ℕ) (k : Kept) → slice_get s.seats.items place ≡ Some k → life_at (shown s) place ≡ life_in (server_of k.server)
unfolding life_at
life_there s place k e = ap (λ o. option_and_then (λ (x : Seat). life_in x.server) o) (seat_shown s place (Some k) e)

pub no_life : (s : State) (place : ℕ) → slice_get s.seats.items place ≡ None → life_at (shown s) place ≡ None
unfolding life_at
no_life s place e = ap (λ o. option_and_then (λ (x : Seat). life_in x.server) o) (seat_shown s place None e)

pub resource_there : (w : World) (key : ObjectKey) (e : FlatEnd) → end_at w (place_of key) ≡ Some e → resource_at w key ≡ resource_numbered key.generation e
unfolding resource_at
resource_there w key e is = ap (λ o. option_and_then (λ (x : FlatEnd). find (has_number key) x.resources) o) is

pub no_resource : (w : World) (key : ObjectKey) → end_at w (place_of key) ≡ None → resource_at w key ≡ None
unfolding resource_at
no_resource w key is = ap (λ o. option_and_then (λ (x : FlatEnd). find (has_number key) x.resources) o) is
