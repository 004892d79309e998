-- An end becomes another where it stands.
use Rattle.std.proofs.Common.{◌≡◌, ◌⊎◌, ℕ, zero, suc, inl, inr, List, [], ◌∷◌, map, slice_get, slice_set, Option, Some, None, refl, sym, ap, subst, ◌∙◌}
use Rattle.std.specs.Global.{Vec}
use Rattle.std.specs.Option.{option_and_then}
use Rattle.std.proofs.lemmas.List.{map-set}
use Rattle.std.proofs.lemmas.Option.{same_Some, slice_get-map}
use Rattle.nodes_world.specs.declared.message.Message.{Message}
use Rattle.nodes_world.specs.declared.thing.Thing.{Thing}
use Rattle.nodes_world.specs.Ends.{with_end}
use Rattle.nodes_world.specs.World.{FlatEnd, OfEnd, OfNode, World, end_at, end_in, with_server}
use Rattle.nodes_world.specs.World as world
use Rattle.nodes_parts.proofs.Lists.{set_cases}
use Rattle.nodes_ends.specs.Ending.{IsEndSeat, KeepsNodes, with_end_in, with_end_there}
use Rattle.nodes_state.specs.Seated.{seat_of, server_of}
use Rattle.nodes_state.specs.declared.seats.Seat.{Seat}
use Rattle.nodes_state.specs.declared.seats.Server.{Server}
use Rattle.nodes_state.specs.declared.seats.Server.TheVariants as servers
use Rattle.nodes_state.specs.declared.state.State.{State}

set_same : {A : Type 0} (xs : List A) (i : ℕ) (x : A) → slice_get xs i ≡ Some x → slice_set xs i x ≡ xs
set_same [] i x e = refl
set_same (y ∷ xs) zero x e = ap (λ z. z ∷ xs) (sym (same_Some y x e))
set_same (y ∷ xs) (suc i) x e = ap (λ zs. y ∷ zs) (set_same xs i x e)

module _ (seats : List Seat) (messages : List Message) (names : List (List ℕ × Thing)) (place : ℕ) (change : FlatEnd → FlatEnd) where
  abbrev of_seats : List Seat → World
  of_seats xs = record { seats = map seat_of xs; messages = messages; names = names }

  there : (s : Seat) → slice_get seats place ≡ Some s → slice_get (map seat_of seats) place ≡ Some (seat_of s)
  there s e = slice_get-map seat_of seats place ∙ ap (λ o. elim o [ Some x ↦ Some (seat_of x) | None ↦ None ]) e

  -- in the seats that the code keeps
  in_seats : (s : Seat) → slice_get seats place ≡ Some s → with_end_in place change seats ≡ slice_set seats place (record s { server = with_end_there change s.server })
  in_seats s e = ap (λ o. elim o [ Some x ↦ slice_set seats place (record x { server = with_end_there change x.server }) | None ↦ seats ]) e

  -- and in the world
  end_there : (s : Seat) → slice_get seats place ≡ Some s → end_at (of_seats seats) place ≡ end_in (server_of s.server)
  unfolding end_at
  end_there s e = ap (λ o. option_and_then (λ (x : world.Seat). end_in x.server) o) (there s e)

  none_changed : (s : Seat) → slice_get seats place ≡ Some s → with_end_there change s.server ≡ s.server → end_in (server_of s.server) ≡ None
      → of_seats (with_end_in place change seats) ≡ with_end place change (of_seats seats)
  none_changed s e same none =
      ap of_seats (in_seats s e ∙ ap (λ v. slice_set seats place (record s { server = v })) same ∙ set_same seats place s e)
      ∙ sym (ap (λ o. elim o [ Some x ↦ with_server place (OfEnd (Some (change x))) (of_seats seats) | None ↦ of_seats seats ]) (end_there s e ∙ none))

  one_changed : (v : Server) (s : Seat) → slice_get seats place ≡ Some (record s { server = v })
      → of_seats (with_end_in place change seats) ≡ with_end place change (of_seats seats)
  one_changed (servers.Up r) s e = none_changed (record s { server = servers.Up r }) e refl refl
  one_changed (servers.Down octets) s e = none_changed (record s { server = servers.Down octets }) e refl refl
  one_changed (servers.End x) s e =
      let kept = record s { server = servers.End x } in
      ap of_seats (in_seats kept e)
      ∙ ap (λ (xs : List world.Seat). record { seats = xs; messages = messages; names = names }) (map-set seat_of seats place (record kept { server = servers.End (change x) }))
      ∙ sym (ap (λ o. elim o [
        | Some t ↦ record { seats = slice_set (map seat_of seats) place (record t { server = OfEnd (Some (change x)) }); messages = messages; names = names }
        | None ↦ of_seats seats
      ]) (there kept e))
      ∙ sym (ap (λ o. elim o [ Some y ↦ with_server place (OfEnd (Some (change y))) (of_seats seats) | None ↦ of_seats seats ]) (end_there kept e))

  by_seat : (o : Option Seat) → slice_get seats place ≡ o → of_seats (with_end_in place change seats) ≡ with_end place change (of_seats seats)
  unfolding end_at
  by_seat (Some s) e = one_changed s.server s e
  by_seat None e =
      let none = slice_get-map seat_of seats place ∙ ap (λ o. elim o [ Some x ↦ Some (seat_of x) | None ↦ None ]) e in
      ap of_seats (ap (λ o. elim o [ Some x ↦ slice_set seats place (record x { server = with_end_there change x.server }) | None ↦ seats ]) e)
      ∙ sym (ap (λ o. elim (option_and_then (λ (x : world.Seat). end_in x.server) o) [ Some y ↦ with_server place (OfEnd (Some (change y))) (of_seats seats) | None ↦ of_seats seats ]) none)

  pub end_changed : of_seats (with_end_in place change seats) ≡ with_end place change (of_seats seats)
  end_changed = by_seat (slice_get seats place) refl

-- ---- all else stays

module _ (seats : List Seat) (place : ℕ) (change : FlatEnd → FlatEnd) where
  kept_in : (s : Seat) → slice_get seats place ≡ Some s → with_end_in place change seats ≡ slice_set seats place (record s { server = with_end_there change s.server })
  kept_in s e = ap (λ o. elim o [ Some x ↦ slice_set seats place (record x { server = with_end_there change x.server }) | None ↦ seats ]) e

  none_in : slice_get seats place ≡ None → with_end_in place change seats ≡ seats
  none_in e = ap (λ o. elim o [ Some x ↦ slice_set seats place (record x { server = with_end_there change x.server }) | None ↦ seats ]) e

  names_by : (o : Option Seat) → slice_get seats place ≡ o → map (λ (s : Seat). s.name) (with_end_in place change seats) ≡ map (λ (s : Seat). s.name) seats
  names_by (Some s) e =
      ap (λ xs. map (λ (x : Seat). x.name) xs) (kept_in s e)
      ∙ map-set (λ (x : Seat). x.name) seats place (record s { server = with_end_there change s.server })
      ∙ set_same (map (λ (x : Seat). x.name) seats) place s.name
      (slice_get-map (λ (x : Seat). x.name) seats place ∙ ap (λ o. elim o [ Some x ↦ Some x.name | None ↦ None ]) e)
  names_by None e = ap (λ xs. map (λ (x : Seat). x.name) xs) (none_in e)

  is_kept : (v : Server) (s t : Seat) (p : ℕ) → slice_get seats place ≡ Some (record s { server = v }) → p ≡ place
      → t ≡ record s { server = with_end_there change v } → IsEndSeat t.server ⊎ (slice_get seats p ≡ Some t)
  is_kept (servers.Up r) s t p e at is = inr (ap (slice_get seats) at ∙ e ∙ ap (λ (x : Seat). Some x) (sym is))
  is_kept (servers.Down octets) s t p e at is = inr (ap (slice_get seats) at ∙ e ∙ ap (λ (x : Seat). Some x) (sym is))
  is_kept (servers.End x) s t p e at is = inl (subst (λ (y : Seat). IsEndSeat y.server) (sym is) tt)

  seats_by : (o : Option Seat) → slice_get seats place ≡ o → (p : ℕ) (t : Seat) → slice_get (with_end_in place change seats) p ≡ Some t
      → IsEndSeat t.server ⊎ (slice_get seats p ≡ Some t)
  seats_by (Some s) e p t there =
      elim (set_cases seats place p (record s { server = with_end_there change s.server }) t (ap (λ xs. slice_get xs p) (sym (kept_in s e)) ∙ there)) [
        | inl here ↦ is_kept s.server s t p e here.0 here.1
        | inr old ↦ inr old
      ]
  seats_by None e p t there = inr (ap (λ xs. slice_get xs p) (sym (none_in e)) ∙ there)

pub end_keeps : (old new : State) (place : ℕ) (change : FlatEnd → FlatEnd) → new.names ≡ old.names
    → new.seats.items ≡ with_end_in place change old.seats.items → KeepsNodes old new
end_keeps old new place change names seats = record {
  names = names;
  seat_names = ap (λ xs. map (λ (x : Seat). x.name) xs) seats ∙ names_by old.seats.items place change (slice_get old.seats.items place) refl;
  seats = λ p t e. seats_by old.seats.items place change (slice_get old.seats.items place) refl p t (ap (λ xs. slice_get xs p) (sym seats) ∙ e);
}

pub all_kept : (old new : State) → new.names ≡ old.names → new.seats ≡ old.seats → KeepsNodes old new
all_kept old new names seats = record {
  names = names;
  seat_names = ap (λ (v : Vec Seat). map (λ (x : Seat). x.name) v.items) seats;
  seats = λ p t e. inr (ap (λ (v : Vec Seat). slice_get v.items p) (sym seats) ∙ e);
}
