-- What stays where something comes to one seat.
use Rattle.std.proofs.Common.{◌≡◌, ◌⊎◌, inl, inr, ℕ, zero, suc, ◌<◌, List, [], ◌∷◌, length, map, get_or, slice_get, slice_set, Option, Some, Result, Ok, Err, refl, sym, ap, subst, ◌∙◌}
use Rattle.std.specs.Result.{OnOk}
use Rattle.std.proofs.lemmas.List.{length-set, map-set}
use Rattle.std.proofs.lemmas.Option.{slice_get_read}
use Rattle.nodes_state.specs.Seated.{seat_of}
use Rattle.nodes_state.specs.declared.seats.Seat.{Seat}
use Rattle.nodes_state.specs.declared.state.State.{State}
use Rattle.nodes_clients.specs.Keeping.{KeepsSeat, KeepsSeats}
use Rattle.nodes_clients.proofs.Come.{same_keeps}

pub at_place : (xs : List Seat) (place : ℕ) (k : Seat) → place < length xs → k ≡ get_or xs place k → slice_get xs place ≡ Some k
at_place xs place k within has = slice_get_read xs (length xs) place k refl within has

set_cases : {A : Type 0} (xs : List A) (i k : ℕ) (y u : A) → slice_get (slice_set xs i y) k ≡ Some u → ((k ≡ i) × (u ≡ y)) ⊎ (slice_get xs k ≡ Some u)
set_cases [] i k y u e = inr e
set_cases (x ∷ xs) zero zero y u e = inl (refl, cc)
set_cases (x ∷ xs) zero (suc k) y u e = inr e
set_cases (x ∷ xs) (suc i) zero y u e = inr e
set_cases (x ∷ xs) (suc i) (suc k) y u e = elim (set_cases xs i k y u e) [
  | inl here ↦ inl (ap suc here.0, here.1)
  | inr there ↦ inr there
]

same_there : (a b : Seat) (o : Option Seat) → o ≡ Some a → o ≡ Some b → a ≡ b
same_there a b o here there = cc

stays : (a b : Seat) → a ≡ b → KeepsSeat a b
stays a b same = subst (λ (x : Seat). KeepsSeat a x) same (record { name = refl; server = same_keeps a.server })

pub seats_kept : (xs : List Seat) (place : ℕ) (k x : Seat) → slice_get xs place ≡ Some k → KeepsSeat k x → (i : ℕ) (before after : Seat) → slice_get xs i ≡ Some before
    → slice_get (slice_set xs place x) i ≡ Some after → KeepsSeat before after
seats_kept xs place k x there kept i before after was is = elim (set_cases xs place i x after is) [
  | inl here ↦ subst (λ (b : Seat). KeepsSeat b after)
      (same_there k before (slice_get xs place) there (sym (ap (λ n. slice_get xs n) here.0) ∙ was))
      (subst (λ (a : Seat). KeepsSeat k a) (sym here.1) kept)
  | inr other ↦ stays before after (same_there before after (slice_get xs i) was other)
]

pub seats_set : (xs : List Seat) (place : ℕ) (x : Seat) → map seat_of (slice_set xs place x) ≡ slice_set (map seat_of xs) place (seat_of x)
seats_set xs place x = map-set seat_of xs place x

pub count_set : (xs : List Seat) (place : ℕ) (x : Seat) → length (slice_set xs place x) ≡ length xs
count_set xs place x = length-set xs place x

pub keeps_on : (s t u : State) → KeepsSeats s t → u.seats ≡ t.seats → KeepsSeats s u
keeps_on s t u kept same = record {
  count = ap (λ v. length v.items) same ∙ kept.count;
  each = λ place before after was is. kept.each place before after was (sym (ap (λ v. slice_get v.items place) same) ∙ is);
}

pub on_ok : {T E : Type 0} (r : Result T E) (P : Type 0) → P → OnOk r P
on_ok (Ok x) P p = p
on_ok (Err fault) P p = tt

pub keeps_before : (s t u : State) → t.seats ≡ s.seats → KeepsSeats t u → KeepsSeats s u
keeps_before s t u same kept = record {
  count = kept.count ∙ ap (λ v. length v.items) same;
  each = λ place before after was is. kept.each place before after (ap (λ v. slice_get v.items place) same ∙ was) is;
}
