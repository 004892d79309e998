-- A world in which nothing was made is whole.
use Rattle.std.proofs.Common.{◌≡◌, ℕ, zero, suc, ◌≤◌, List, [], ◌∷◌, length, map, slice_get, Some, refl, sym, ap, subst, arith}
use Rattle.nodes_world.specs.Limits.{seat_limit}
use Rattle.nodes_world.specs.World.{World, empty}
use Rattle.nodes_state.specs.Seated.{seat_of}
use Rattle.nodes_state.specs.Shown.{HasNames, shown}
use Rattle.nodes_state.specs.declared.seats.Seat.{Seat}
use Rattle.nodes_state.specs.declared.state.State.{State}
use Rattle.nodes_seats.specs.Whole.{ArePlaced, IsWhole}

none_mapped : {A B : Type 0} (f : A → B) (xs : List A) → map f xs ≡ [] → xs ≡ []
none_mapped f [] e = refl
none_mapped f (x ∷ xs) e = absurd cc

none_at : {A : Type 0} (k : ℕ) (x : A) → slice_get [] k ≡ Some x → ⊥
none_at zero x e = absurd (cc (e))
none_at (suc k) x e = absurd (cc (e))

none_placed : ArePlaced empty
none_placed r (i, less, at) = absurd (omega (arith, less))

pub empty_whole : (s : State) → shown s ≡ empty → HasNames s → IsWhole s
empty_whole s is named =
    let none : s.seats.items ≡ [] = none_mapped seat_of s.seats.items (ap (λ (w : World). w.seats) is) in
    record {
      few = subst (λ (xs : List Seat). length xs ≤ seat_limit) (sym none) (omega arith);
      served = λ place seat at. absurd (none_at place seat (subst (λ (xs : List Seat). slice_get xs place ≡ Some seat) none at));
      names = named;
      placed = subst ArePlaced (sym is) none_placed;
    }
