-- What a list holds, as it grows or changes at one place.
use Rattle.std.proofs.Common.{◌≡◌, ℕ, zero, suc, ◌⊎◌, inl, inr, List, [], ◌∷◌, ◌++◌, length, slice_set, Some, sym, ap, refl}
use Rattle.std.specs.List.{slice_get}
use Rattle.std.proofs.lemmas.Option.{same_Some}

-- after a write at one place, an element is the one written or an old one
pub set_cases : {A : Type 0} (xs : List A) (i k : ℕ) (y u : A) → slice_get (slice_set xs i y) k ≡ Some u → ((k ≡ i) × (u ≡ y)) ⊎ (slice_get xs k ≡ Some u)
set_cases [] i k y u e = inr e
set_cases (z ∷ xs) zero zero y u e = inl (refl, sym (same_Some y u e))
set_cases (z ∷ xs) zero (suc k) y u e = inr e
set_cases (z ∷ xs) (suc i) zero y u e = inr e
set_cases (z ∷ xs) (suc i) (suc k) y u e = elim (set_cases xs i k y u e) [
  | inl here ↦ inl (ap suc here.0, here.1)
  | inr there ↦ inr there
]

pub push_last : {A : Type 0} (xs : List A) (y : A) → slice_get (xs ++ y ∷ []) (length xs) ≡ Some y
push_last [] y = refl
push_last (z ∷ xs) y = push_last xs y

pub push_cases : {A : Type 0} (xs : List A) (k : ℕ) (y u : A) → slice_get (xs ++ y ∷ []) k ≡ Some u → (slice_get xs k ≡ Some u) ⊎ ((k ≡ length xs) × (u ≡ y))
push_cases [] zero y u e = inr (refl, sym (same_Some y u e))
push_cases [] (suc k) y u e = absurd (cc)
push_cases (z ∷ xs) zero y u e = inl e
push_cases (z ∷ xs) (suc k) y u e = elim (push_cases xs k y u e) [
  | inl there ↦ inl there
  | inr here ↦ inr (ap suc here.0, here.1)
]
