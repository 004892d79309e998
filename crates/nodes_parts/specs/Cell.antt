-- Cells that were put (our profile).
use Rattle.std.specs.Prelude.{ℕ, ◌==◌, Bool}

abbrev pub is_cell : ℕ → ℕ → Bool
is_cell cell other = cell == other
