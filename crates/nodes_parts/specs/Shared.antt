-- References that share octets (our profile).
use Rattle.std.specs.Prelude.{◌≡◌, ◌≤◌, ℕ, List, [], length, Option, None, Some, IsSome, ⊤}

-- the octets of a reference from the number of its object on, where it is long enough for one
abbrev pub tail_octets : Option (List ℕ) → List ℕ
tail_octets None = []
tail_octets (Some octets) = octets

-- they are as many as a number and what stands behind it
abbrev pub IsTail : Option (List ℕ) → Type 0
IsTail None = ⊤
IsTail (Some octets) = length octets ≡ 16

-- octets that are enough for a number and what stands behind it have a tail
abbrev pub IsParted : List ℕ → Option (List ℕ) → Type 0
IsParted octets tail = 16 ≤ length octets → IsSome tail
