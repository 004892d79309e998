-- Octets that stand over and over (our profile).
use Rattle.std.specs.Prelude.{◌≡◌, ℕ, List, [], ◌∷◌, drop}
use Rattle.nodes_world.specs.Disks.{left_over, with_first}

-- in place of each stands the next of these, over and over; where there are none, they stay
abbrev pub cycled_from : List ℕ → List ℕ → List ℕ → List ℕ
cycled_from all left [] = []
cycled_from all left (octet ∷ others) = with_first (left_over all left) (λ (rest : List ℕ). cycled_from all rest others) octet

abbrev pub cycled : List ℕ → List ℕ → List ℕ
cycled all places = cycled_from all [] places

-- in place of an octet stands the one at an index, or the first; and then comes this index
abbrev pub PutsNext : List ℕ → ℕ → ℕ → ℕ → ℕ → Type 0
PutsNext all next octet put later = (rest : List ℕ)
    → with_first (left_over all (drop next all)) (λ (left : List ℕ). cycled_from all left rest) octet ≡ put ∷ cycled_from all (drop later all) rest
