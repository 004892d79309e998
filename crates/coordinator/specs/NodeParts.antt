-- What a node may be put together from (our profile).
use Rattle.std.specs.Prelude.{◌≡◌, ℕ, ◌<◌, ◌≤◌, length, Some}
use Rattle.std.specs.List.{AllByRecursion, Any}
use Rattle.coordinator.specs.Limits.{slot_limit, generation_limit}
use Rattle.coordinator.specs.Family.{Family}
use Rattle.coordinator.specs.Node.{Node, life, family_in}

-- the family in a slot is one of this service and life, its own slot, and a number that was given
pub record IsInSlot (n : Node) (slot : ℕ) (f : Family) : Type 0 where
  pub of_service : f.key.service ≡ n.service
  pub of_life : f.key.life ≡ life n
  pub own_slot : f.key.slot ≡ slot
  pub given : f.key.generation ≤ n.generation

-- so are all families, and what is held of records is held of those that stand
pub record IsWhole (n : Node) : Type 0 where
  pub slots : length n.families ≡ slot_limit
  pub families : (slot : ℕ) (f : Family) → family_in n.families slot ≡ Some f → IsInSlot n slot f
  pub last : n.last < slot_limit
  pub numbers : n.generation ≤ generation_limit
  pub held : AllByRecursion (λ r. Any (λ s. s.place ≡ r.place) n.found.standing) n.recovered
