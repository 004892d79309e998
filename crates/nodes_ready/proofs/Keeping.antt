-- A world stays whole where its seats keep their names, and what stands at each is of the service of its place.
use Rattle.std.proofs.Common.{◌≡◌, inl, inr, ℕ, zero, suc, ◌<◌, ◌≤◌, Bool, false, cond, List, [], ◌∷◌, length, find, filter_map, slice_get, Option, Some, None, refl, sym, ap, subst, ◌∙◌, arith}
use Rattle.std.specs.Global.{Vec}
use Rattle.std.specs.Option.{option_map, option_map_or}
use Rattle.std.specs.Prelude.{bytes_eq, Contains}
use Rattle.std.proofs.lemmas.List.{length-map}
use Rattle.std.proofs.lemmas.Option.{slice_get-map, slice_get_past, slice_get_within}
use Rattle.nodes_world.specs.declared.thing.Thing.{Thing}
use Rattle.nodes_world.specs.Objects.{place_of, reference}
use Rattle.nodes_world.specs.World.{NamedKey, Seat, is_referred_to, referred, resource_in, resources, seat_name}
use Rattle.nodes_parts.specs.Naming.{Names}
use Rattle.nodes_parts.specs.Referring.{referred_in}
use Rattle.nodes_lives.specs.Loads.{StoresJournal}
use Rattle.nodes_state.specs.Does.{StaysSo}
use Rattle.nodes_state.specs.Seated.{seat_of}
use Rattle.nodes_state.specs.Shown.{HasNames, shown}
use Rattle.nodes_state.specs.declared.seats.Seat.{Seat as Kept}
use Rattle.nodes_state.specs.declared.seats.Server.{Server}
use Rattle.nodes_state.specs.declared.seats.Server.TheVariants as servers
use Rattle.nodes_state.specs.declared.state.State.{State}
use Rattle.nodes_state.proofs.Named.{name_is}
use Rattle.nodes_ends.specs.Ending.{IsEndSeat, KeepsNodes}
use Rattle.nodes_seats.specs.Whole.{IsServed, IsWhole}
use Rattle.nodes_clients.specs.Keeping.{KeepsSeats, KeepsServer}

-- ---- names

abbrev name_of : Kept → List ℕ
name_of k = k.name

abbrev name_at : State → ℕ → Option (List ℕ)
name_at s place = option_map name_of (slice_get s.seats.items place)

-- each seat has the name that it had
abbrev HaveNames : State → State → Type 0
HaveNames old new = (place : ℕ) → name_at new place ≡ name_at old place

shown_name : (s : State) (place : ℕ) → seat_name (shown s) place ≡ name_at s place
shown_name s place =
    ap (λ (o : Option Seat). option_map (λ (y : Seat). y.name) o) (slice_get-map seat_of s.seats.items place) ∙ twice (slice_get s.seats.items place)
  where
    twice : (o : Option Kept) → option_map (λ (y : Seat). y.name) (option_map seat_of o) ≡ option_map name_of o
    twice (Some k) = refl
    twice None = refl

find_alike : {A : Type 0} (p q : A → Bool) → ((x : A) → p x ≡ q x) → (xs : List A) → find p xs ≡ find q xs
find_alike p q e [] = refl
find_alike p q e (x ∷ xs) =
    ap (λ b. cond b (Some x) (find p xs)) (e x) ∙ ap (λ o. cond (q x) (Some x) o) (find_alike p q e xs)

abbrev resource_of : List ℕ × Thing → Option NamedKey
resource_of entry = resource_in entry.0 entry.1

referred_same : (old new : State) (to : List ℕ) → HaveNames old new → new.names ≡ old.names → referred (shown new) to ≡ referred (shown old) to
unfolding referred
referred_same old new to same names =
    ap (λ (n : Names). find (is_referred_to (shown new) to) (filter_map resource_of n.things)) names
    ∙ find_alike (is_referred_to (shown new) to) (is_referred_to (shown old) to)
    (λ (r : NamedKey). ap (λ (o : Option (List ℕ)). option_map_or (λ (octets : List ℕ). bytes_eq octets to) (option_map (λ (name : List ℕ). reference name r.key) o) false)
    (shown_name new (place_of r.key) ∙ same (place_of r.key) ∙ sym (shown_name old (place_of r.key))))
    (resources (shown old))

names_same : (old new : State) → HaveNames old new → new.names ≡ old.names → HasNames old → HasNames new
names_same old new same names h = record {
  things = refl;
  transactions = λ key. name_is new.names.things (shown new) key refl;
  references = λ to. ap (λ (n : Names). referred_in n.referred to) names ∙ h.references to ∙ sym (referred_same old new to same names);
}

-- ---- a whole world

whole_by : (old new : State) → IsWhole old → length new.seats.items ≡ length old.seats.items → resources (shown new) ≡ resources (shown old) → HasNames new
    → ((place : ℕ) (seat : Kept) → slice_get new.seats.items place ≡ Some seat → IsServed place seat.server) → IsWhole new
whole_by old new whole count same names served = record {
  few = let few = whole.few in omega arith;
  served = served;
  names = names;
  placed = λ r c.
      let e = length-map new.seats.items seat_of in
      let f = length-map old.seats.items seat_of in
      let less = whole.placed r (subst (λ (rs : List NamedKey). Contains rs r) same c) in
      omega arith;
}

resources_same : (old new : State) → new.names ≡ old.names → resources (shown new) ≡ resources (shown old)
resources_same old new names = ap (λ (n : Names). filter_map resource_of n.things) names

whole_same : (old new : State) → IsWhole old → length new.seats.items ≡ length old.seats.items → HaveNames old new → new.names ≡ old.names
    → ((place : ℕ) (seat : Kept) → slice_get new.seats.items place ≡ Some seat → IsServed place seat.server) → IsWhole new
whole_same old new whole count same names served =
    whole_by old new whole count (resources_same old new names) (names_same old new same names whole.names) served

-- where seats and names stay
pub whole_stays : (old new : State) → StaysSo old new → IsWhole old → IsWhole new
whole_stays old new same whole =
    whole_same old new whole
    (ap (λ (v : Vec Kept). length v.items) same.seats)
    (λ place. ap (λ (v : Vec Kept). option_map name_of (slice_get v.items place)) same.seats)
    same.names
    (λ place seat there. whole.served place seat (ap (λ (v : Vec Kept). slice_get v.items place) (sym same.seats) ∙ there))

-- where only ends change
end_served : (place : ℕ) (server : Server) → IsEndSeat server → IsServed place server
end_served place (servers.Up n) h = absurd h
end_served place (servers.Down octets) h = absurd h
end_served place (servers.End e) h = tt

pub whole_nodes : (old new : State) → KeepsNodes old new → IsWhole old → IsWhole new
whole_nodes old new k whole =
    whole_same old new whole
    (sym (length-map new.seats.items name_of) ∙ ap (λ (names : List (List ℕ)). length names) k.seat_names ∙ length-map old.seats.items name_of)
    (λ place. sym (slice_get-map name_of new.seats.items place) ∙ ap (λ (names : List (List ℕ)). slice_get names place) k.seat_names
    ∙ slice_get-map name_of old.seats.items place)
    k.names
    (λ place seat there. elim (k.seats place seat there) [
      | inl end ↦ end_served place seat.server end
      | inr same ↦ whole.served place seat same
    ])

pub named_nodes : (old new : State) → KeepsNodes old new → (place : ℕ) → seat_name (shown new) place ≡ seat_name (shown old) place
named_nodes old new k place =
    shown_name new place ∙ sym (slice_get-map name_of new.seats.items place)
    ∙ ap (λ (names : List (List ℕ)). slice_get names place) k.seat_names
    ∙ slice_get-map name_of old.seats.items place ∙ sym (shown_name old place)

-- where what stands at each seat is kept by what came to it
pub there_at : {A : Type 0} (xs : List A) (i : ℕ) → i < length xs → (x : A) × (slice_get xs i ≡ Some x)
there_at [] i less = absurd (omega arith)
there_at (x ∷ xs) zero less = (x, refl)
there_at (x ∷ xs) (suc i) less = there_at xs i (omega arith)

past : {A : Type 0} (xs : List A) (i : ℕ) → slice_get xs i ≡ None → length xs ≤ i
past [] i none = omega arith
past (x ∷ xs) zero none = absurd cc
past (x ∷ xs) (suc i) none = let less = past xs i none in omega arith

kept_served : (place : ℕ) (before after : Server) → KeepsServer before after → IsServed place before → IsServed place after
kept_served place (servers.Up n) (servers.Up m) k s = k ∙ s
kept_served place (servers.Up n) (servers.Down octets) k s = subst (λ (service : ℕ). StoresJournal service octets.items) s k
kept_served place (servers.Up n) (servers.End e) k s = absurd k
kept_served place (servers.Down octets) after k s = subst (λ (x : Server). IsServed place x) (sym k) s
kept_served place (servers.End e) (servers.Up m) k s = absurd k
kept_served place (servers.End e) (servers.Down octets) k s = absurd k
kept_served place (servers.End e) (servers.End f) k s = tt

module _ (old new : State) (k : KeepsSeats old new) where
  was_there : (place : ℕ) (after : Kept) → slice_get new.seats.items place ≡ Some after → (before : Kept) × (slice_get old.seats.items place ≡ Some before)
  was_there place after there =
      let count = k.count in
      let less = slice_get_within new.seats.items place after there in
      there_at old.seats.items place (omega arith)

  kept_name : (place : ℕ) (o : Option Kept) → slice_get new.seats.items place ≡ o → name_at new place ≡ name_at old place
  kept_name place (Some after) e =
      let b = was_there place after e in
      ap (λ (x : Option Kept). option_map name_of x) e ∙ ap (λ (n : List ℕ). Some n) (k.each place b.0 after b.1 e).name
      ∙ sym (ap (λ (x : Option Kept). option_map name_of x) b.1)
  kept_name place None e =
      let count = k.count in
      let less = past new.seats.items place e in
      ap (λ (x : Option Kept). option_map name_of x) e ∙ sym (ap (λ (x : Option Kept). option_map name_of x) (slice_get_past old.seats.items place (omega arith)))

  still_served : IsWhole old → (place : ℕ) (after : Kept) → slice_get new.seats.items place ≡ Some after → IsServed place after.server
  still_served whole place after there =
      let b = was_there place after there in
      kept_served place b.0.server after.server (k.each place b.0 after b.1 there).server (whole.served place b.0 b.1)

  pub whole_kept : new.names ≡ old.names → IsWhole old → IsWhole new
  whole_kept names whole =
      whole_same old new whole k.count (λ place. kept_name place (slice_get new.seats.items place) refl) names (still_served whole)

  -- also where more names are given, but to no resource
  pub whole_named : resources (shown new) ≡ resources (shown old) → HasNames new → IsWhole old → IsWhole new
  whole_named same names whole = whole_by old new whole k.count same names (still_served whole)

  -- and its names
  pub named_kept : (place : ℕ) → seat_name (shown new) place ≡ seat_name (shown old) place
  named_kept place = shown_name new place ∙ kept_name place (slice_get new.seats.items place) refl ∙ sym (shown_name old place)
