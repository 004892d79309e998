-- What comes of making a family (our profile).
use Rattle.std.specs.Prelude.{◌≡◌, ℕ, Result, Err}
use Rattle.std.specs.Result.{IsOk}
use Rattle.ior_refs.specs.declared.key.ObjectKey.{ObjectKey}
use Rattle.coordinator.specs.NodeSlots.{creates}
use Rattle.coordinator.specs.declared.node.NodeFault.{NodeFault}
use Rattle.coordinator.specs.declared.node.NodeFault.TheVariants as faults
use Rattle.nodes_lives.specs.Living.{Living}

-- it is made as the definition says, and the disk stays
pub record HasMade (now seconds : ℕ) (before after : Living) (said : Result ObjectKey NodeFault) : Type 0 where
  pub node : after.node ≡ (creates now seconds before.node).node
  pub answer : said ≡ (creates now seconds before.node).answer
  pub disk : after.disk ≡ before.disk

-- one would be made, but memory was wanted, and nothing happened
pub record IsStarved (now seconds : ℕ) (before after : Living) (said : Result ObjectKey NodeFault) : Type 0 where
  pub granted : IsOk (creates now seconds before.node).answer
  pub same : after ≡ before
  pub answer : said ≡ Err faults.Memory
