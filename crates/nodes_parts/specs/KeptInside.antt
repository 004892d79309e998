-- What holds of an end as the code keeps it (our profile).
use Rattle.std.specs.Prelude.{◌≡◌, ℕ, List, Option}
use Rattle.std.specs.List.{list_any}
use Rattle.nodes_parts.specs.declared.ends.Resource.{Resource}
use Rattle.nodes_parts.specs.Cell.{is_cell}
use Rattle.nodes_parts.specs.Kept.{AreNumbered, end_of, names_cell}

pub record IsKept (objects : List (Option Resource)) (cells : List ℕ) : Type 0 where
  pub numbered : AreNumbered objects
  pub cells_are : (cell : ℕ) → list_any (is_cell cell) cells ≡ names_cell cell (end_of objects)
