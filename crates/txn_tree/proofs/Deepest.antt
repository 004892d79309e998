-- The deepest branch of a list, one by one.
use Rattle.std.proofs.Common.{◌≡◌, ℕ, ◌&&◌, Bool, true, false, List, ◌∷◌, Option, Some, refl}
use Rattle.std.specs.Prelude.{filter, if◌then◌else◌}
use Rattle.txn_tree.specs.Calls.{is_live_below, is_deeper, deepest}
use Rattle.txn_tree.specs.declared.row.Row.{Row}

by_depth : (deep : Bool) (a b : Option ℕ) → (if deep then a else b) ≡ (if deep && true then a else b)
by_depth true a b = refl
by_depth false a b = refl

no_depth : (deep : Bool) (a b : Option ℕ) → b ≡ (if deep && false then a else b)
no_depth true a b = refl
no_depth false a b = refl

by_tests : (rows : List Row) (place : ℕ) (qs : List ℕ) (live : Bool) → deepest rows (if live then place ∷ qs else qs) ≡ (if is_deeper rows place (deepest rows qs) && live then Some place else deepest rows qs)
by_tests rows place qs true = by_depth (is_deeper rows place (deepest rows qs)) (Some place) (deepest rows qs)
by_tests rows place qs false = no_depth (is_deeper rows place (deepest rows qs)) (Some place) (deepest rows qs)

pub kept_or_not : (rows : List Row) (b place : ℕ) (qs : List ℕ) → deepest rows (filter (is_live_below rows b) (place ∷ qs)) ≡ (if is_deeper rows place (deepest rows (filter (is_live_below rows b) qs)) && is_live_below rows b place then Some place else deepest rows (filter (is_live_below rows b) qs))
kept_or_not rows b place qs = by_tests rows place (filter (is_live_below rows b) qs) (is_live_below rows b place)
