-- What holds of lists of slots.
use Rattle.std.proofs.Common.{◌≡◌, ◌∙◌, ℕ, zero, suc, ◌+◌, ◌<◌, Bool, cond, not, ltb, List, [], ◌∷◌, length, set, map, replicate, Some, None, refl, ap, arith}
use Rattle.std.specs.Prelude.{position}
use Rattle.std.specs.List.{position_or_len, slice_get}
use Rattle.std.proofs.lemmas.List.{length-map}

-- ---- the first that passes a test, of a list that is shown by another

first_map : {X Y : Type 0} (f : X → Y) (p : Y → Bool) (xs : List X) → position_or_len p (map f xs) ≡ position_or_len (λ x. p (f x)) xs
first_map f p [] = refl
first_map f p (x ∷ xs) = ap (λ (n : ℕ). cond (not (p (f x))) (1 + n) 0) (first_map f p xs)

pub position_map : {X Y : Type 0} (f : X → Y) (p : Y → Bool) (xs : List X) → position p (map f xs) ≡ position (λ x. p (f x)) xs
position_map f p xs =
    ap (λ (n : ℕ). cond (ltb n (length (map f xs))) (Some n) None) (first_map f p xs)
    ∙ ap (λ (m : ℕ). cond (ltb (position_or_len (λ x. p (f x)) xs) m) (Some (position_or_len (λ x. p (f x)) xs)) None) (length-map xs f)

pub map_replicate : {X Y : Type 0} (f : X → Y) (n : ℕ) (x : X) → map f (replicate n x) ≡ replicate n (f x)
map_replicate f zero x = refl
map_replicate f (suc n) x = ap (λ ys. f x ∷ ys) (map_replicate f n x)

-- ---- an element that is put

pub get_put : {X : Type 0} (xs : List X) (i : ℕ) (a : X) → i < length xs → slice_get (set xs i a) i ≡ Some a
get_put [] i a lt = absurd (omega (arith, lt))
get_put (x ∷ xs) zero a lt = refl
get_put (x ∷ xs) (suc i) a lt = get_put xs i a (omega (arith, lt))

pub get_other : {X : Type 0} (xs : List X) (i j : ℕ) (a : X) → (j ≡ i → ⊥) → slice_get (set xs i a) j ≡ slice_get xs j
get_other [] i j a differs = refl
get_other (x ∷ xs) zero zero a differs = absurd (differs refl)
get_other (x ∷ xs) zero (suc j) a differs = refl
get_other (x ∷ xs) (suc i) zero a differs = refl
get_other (x ∷ xs) (suc i) (suc j) a differs = get_other xs i j a (λ e. differs (ap suc e))
