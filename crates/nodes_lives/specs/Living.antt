-- A node that is up, as its callers see it (our profile).
use Rattle.ots_outside.specs.Disk.{DiskState}
use Rattle.coordinator.specs.Node.{Node}

-- a node, and its disk
pub record Living : Type 0 where
  pub node : Node
  pub disk : DiskState
