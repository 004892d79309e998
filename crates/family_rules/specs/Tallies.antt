-- What is counted over the seats of a family (our profile).
use Rattle.std.specs.Prelude.{◌≡◌, ℕ, ◌+◌, is_some, List, [], ◌∷◌, if◌then◌else◌}
use Rattle.family_rules.specs.Calls.{AllLeft}
use Rattle.family_rules.specs.declared.call.Seat.{Seat}
use Rattle.family_rules.specs.declared.tally.Tally.{Tally}

-- one for a seat that has a call
abbrev pub one_at : Seat → ℕ
one_at s = if is_some s.call then 1 else 0

-- how many seats have a call
abbrev pub open_in : List Seat → ℕ
open_in [] = 0
open_in (s ∷ seats) = one_at s + open_in seats

-- no seat keeps more than is counted, and so many have a call
pub record IsTallied (t : Tally) (seats : List Seat) : Type 0 where
  pub left : AllLeft seats t.most
  pub calls : t.calls ≡ open_in seats
