-- What a source of octets gives, and how faults are counted (our profile).
use Rattle.std.specs.Prelude.{◌≡◌, ℕ, ◌<◌, ◌≤◌, ◌+◌, ◌-◌, ◌^◌, ◌⊎◌, List, [], length, min, take, drop, Option, Some, Result, IfOk, IfSome, MatchResult}

-- where a count ends: the greatest number of 64 bits
abbrev pub count_end : ℕ
count_end = 2 ^ 64 - 1

-- a count, raised by one; it stands still at its end
abbrev pub raised : ℕ → ℕ
raised count = min (count + 1) count_end

-- a count of faults rose; one that stands at its end counts as risen
abbrev pub HasRisen : ℕ → ℕ → Type 0
HasRisen before after = (before < after) ⊎ (before ≡ count_end)

-- a failure raised this count of faults by one, and an Ok left it
abbrev pub CountsFault : {T E : Type 0} → Result T E → ℕ → ℕ → Type 0
CountsFault result before after = MatchResult result (λ _. after ≡ before) (λ _. after ≡ raised before)

-- a read's count is within the piece
abbrev pub CountsWithin : {E : Type 0} → Result ℕ E → List ℕ → Type 0
CountsWithin result piece = IfOk result (λ n. n ≤ length piece)

-- from a source that had these octets left, a read of a piece of so many places gave n octets, which stand at the piece's front
pub record Gives (left : List ℕ) (places n : ℕ) (piece : List ℕ) (after : Option (List ℕ)) : Type 0 where
  pub octets : take n piece ≡ take n left
  pub within : n ≤ length left
  pub rest : after ≡ Some (drop n left)
  -- nothing comes only at the end, or where there is no place
  pub end : n ≡ 0 → 0 < places → left ≡ []

-- where the source told what it had left, the read gave of that
abbrev pub GivesOf : Option (List ℕ) → ℕ → ℕ → List ℕ → Option (List ℕ) → Type 0
GivesOf before places n piece after = IfSome before (λ left. Gives left places n piece after)

-- a read that succeeded gave so many octets to the piece, of those that were left where the source told them
abbrev pub GivesTo : {E : Type 0} → Result ℕ E → List ℕ → List ℕ → Option (List ℕ) → Option (List ℕ) → Type 0
GivesTo result piece filled before after = IfOk result (λ n. GivesOf before (length piece) n filled after)
