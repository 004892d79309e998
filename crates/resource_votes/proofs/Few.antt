use Rattle.std.proofs.Common.{◌≤◌, List, [], ◌∷◌, length, Option, arith}
use Rattle.std.proofs.lemmas.Grind.{common_steps}
use Rattle.std.specs.List.{filter_map}

-- what is found of some items is at most as long
pub found_few : {A B : Type 0} (h : A → Option B) (xs : List A) → length (filter_map h xs) ≤ length xs
found_few h [] = omega arith
found_few h (x ∷ xs) = let r = found_few h xs in grind (arith, common_steps, r)
