use Rattle.std.specs.Prelude.{ℕ, List, [], ◌∷◌, Option, Some, None}
use Rattle.ots_model.specs.declared.tree.Outward.{Outward}

-- for how many cells of the queue one more word wants room: for none while there is no word
abbrev pub needed : Option Outward → List Outward → ℕ
needed None [] = 0
needed None (w ∷ ws) = 1
needed (Some first) ws = 1
