-- A family, with the memory that was taken for its next steps.
use Rattle.std.specs.Prelude.{ℕ, ◌-◌}
use Rattle.ots_model.specs.Limits.{reference_limit}
use Rattle.two_phase.specs.Stages.{Standing, Waiting, Going as UnderWay}
use Rattle.coordinator.specs.Family.{Family}

-- a family, for how many more subtransactions and registrations memory is taken, for registrations with how long a reference, and
-- for how many more entries
pub record StateParts : Type 0 where
  pub family : Family
  pub room : ℕ
  pub reach : ℕ
  pub history_room : ℕ

-- for how many more participants a completion has room, beside so many; one that has started takes no further one
abbrev pub spare : Standing → ℕ → ℕ
spare (Waiting room) count = room.places - count
spare (UnderWay c) count = 1

-- and for participants with how long a reference
abbrev pub reach : Standing → ℕ
reach (Waiting room) = room.octets
reach (UnderWay c) = reference_limit
