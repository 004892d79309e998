-- Words that are put behind others (our profile).
use Rattle.std.specs.Prelude.{◌≡◌, List, ◌++◌}
use Rattle.ots_model.specs.declared.tree.Outward.{Outward}

-- a front of these words stands behind the older ones
pub record HasFrontOf (older more newer : List Outward) : Type 0 where
  pub front : List Outward
  pub rest : List Outward
  pub stands : newer ≡ older ++ front
  pub is_front : more ≡ front ++ rest
