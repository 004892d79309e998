-- The numbers of those who are registered: each one's is its place, and it stands in one list at most.
use Rattle.std.specs.Prelude.{◌≡◌, ℕ, ◌≤◌, List, length, nat_le, sum_by, Some, if◌then◌else◌}
use Rattle.resource_votes.specs.Ballots.{numbered}
use Rattle.resource_votes.specs.History.{times}
use Rattle.resource_votes.specs.declared.registration.Registration.{Registration}

-- each one's number is its place, counted from 1
abbrev pub ArePlaces : List Registration → Type 0
ArePlaces registrations = (n : ℕ) (r : Registration) → numbered registrations n ≡ Some r → r.index ≡ n

-- how often a number may stand in lists of the numbers up to a count
abbrev pub at_most : ℕ → ℕ → ℕ
at_most count i = if nat_le i count then 1 else 0

-- each number up to a count is in one of the lists at most, and once; no greater one is in any
abbrev pub AreOnce : List (List ℕ) → ℕ → Type 0
AreOnce lists count = (i : ℕ) → sum_by (times i) lists ≤ at_most count i

-- the lists together have at most so many numbers
abbrev pub AreFew : List (List ℕ) → ℕ → Type 0
AreFew lists count = sum_by (λ (xs : List ℕ). length xs) lists ≤ count
