-- Lists of numbers, one for each branch (our profile: the order in which a transaction asks its resources).
use Rattle.std.specs.Prelude.{ℕ, ◌<◌, ◌≤◌, ⊤, List, [], ◌∷◌, ◌++◌, slice_index_or, slice_set}

-- the list of this branch
abbrev pub list_at : List (List ℕ) → ℕ → List ℕ
list_at lists b = slice_index_or lists b []

-- a number at the end of a list
abbrev pub added_to : List (List ℕ) → ℕ → ℕ → List (List ℕ)
added_to lists b number = slice_set lists b (list_at lists b ++ number ∷ [])

-- a list in one piece at the end of another one, and empty from then on
abbrev pub handed_lists : List (List ℕ) → ℕ → ℕ → List (List ℕ)
handed_lists lists from to = slice_set (slice_set lists from []) to (list_at lists to ++ list_at lists from)

-- each one is among so many, counted from 1
abbrev pub AreNumbers : ℕ → List ℕ → Type 0
AreNumbers count [] = ⊤
AreNumbers count (x ∷ xs) = (0 < x) × (x ≤ count) × AreNumbers count xs
