-- How the program keeps a row.
use Rattle.std.specs.Prelude.{◌≡◌, ℕ, ◌≤◌, List, length, take}
use Rattle.ots_model.specs.Limits.{row_limit}
use Rattle.ots_model.specs.declared.row.Row.TheInside.{Inside}

-- the octets of the row
abbrev pub shown : Inside → List ℕ
shown r = take r.length r.octets

-- there is room behind the octets of the row, up to the limit
pub record IsWithin (r : Inside) : Type 0 where
  pub limit : length r.octets ≡ row_limit
  pub within : r.length ≤ row_limit
