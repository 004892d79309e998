-- The numbers of those who are registered.
use Rattle.std.specs.Prelude.{◌≡◌, ℕ, List, Some}
use Rattle.resource_votes.specs.Ballots.{numbered}
use Rattle.resource_votes.specs.declared.registration.Registration.{Registration}

-- each registration's number is its place, counted from 1
abbrev pub AreInOrder : List Registration → Type 0
AreInOrder registrations = (n : ℕ) (r : Registration) → numbered registrations n ≡ Some r → r.index ≡ n
