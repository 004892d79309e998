-- What a call that tells a line has done (our profile).
use Rattle.std.specs.Prelude.{◌≡◌, ℕ, ◌++◌, List, Result, Ok, Err}
use Rattle.nodes_world.specs.Told.{Told, spelled}

-- the line was told; or, where memory ran out, nothing
abbrev pub IsTold : {E : Type 0} → Result (Unit {0}) E → Told → List ℕ → List ℕ → Type 0
IsTold (Ok _) line before after = after ≡ before ++ spelled line
IsTold (Err _) line before after = after ≡ before
