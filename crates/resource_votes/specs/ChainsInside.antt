-- Linked numbers: each leads to the one behind it; 0 is no number.
use Rattle.std.specs.Prelude.{◌≡◌, ℕ, ◌-◌, ◌<◌, ◌≤◌, zero, suc, List, [], ◌∷◌, length, slice_index}

-- the numbers from one on, at most so many
abbrev pub walk : ℕ → List ℕ → ℕ → List ℕ
walk zero next at = []
walk (suc n) next zero = []
walk (suc n) next (suc i) = suc i ∷ walk n next (slice_index next i)

-- these are the numbers from one on, and the last of them leads to none
abbrev pub IsChain : List ℕ → ℕ → List ℕ → Type 0
IsChain next at [] = at ≡ 0
IsChain next at (x ∷ xs) = (at ≡ x) × (0 < x) × (x ≤ length next) × IsChain next (slice_index next (x - 1)) xs

abbrev pub last_of : List ℕ → ℕ
last_of [] = 0
last_of (x ∷ []) = x
last_of (x ∷ y ∷ ys) = last_of (y ∷ ys)
