-- What a family's call answers that makes a subtransaction, by what its tree answered.
use Rattle.std.proofs.Common.{◌≡◌, ◌∙◌, ap, ℕ, List, [], ◌∷◌, ◌++◌, length, Option, Some, None, Result, Ok, Err}
use Rattle.std.specs.Option.{IfSome}
use Rattle.std.specs.Result.{IfOk, IsErrOf, IsOk, OnOk}
use Rattle.txn_tree.specs.Calls.{created}
use Rattle.txn_tree.specs.declared.row.Row.{Row}
use Rattle.txn_tree.specs.declared.row.TreeFault.{TreeFault}
use Rattle.coordinator.specs.Family.{Call, Family}
use Rattle.family_rules.specs.Asking.{Creates}

abbrev ok_of : ℕ → Result ℕ TreeFault
ok_of n = Ok n

-- where the tree made one
pub creates_one : (cause : Option TreeFault) (b : ℕ) (f : Family) (rows : List Row) (calls : List (Option Call)) (result : Result ℕ TreeFault) → IsOk result
    → IfSome cause (λ fault. IsErrOf result fault) → OnOk result (rows ≡ created f.rows b) → IfOk result (λ n. n ≡ length f.rows) → calls ≡ f.calls ++ None ∷ []
    → Creates cause b f (record f { rows = rows; calls = calls }) result
creates_one None b f rows calls (Ok n) is refused ok index more =
    (ap (λ (k : ℕ). ok_of k) index, ap (λ (x : List Row). record f { rows = x; calls = calls }) ok ∙ ap (λ (x : List (Option Call)). record f { rows = created f.rows b; calls = x }) more)
creates_one None b f rows calls (Err fault) is refused ok index more = absurd (cc (is))
creates_one (Some x) b f rows calls (Ok n) is refused ok index more = absurd (cc (refused))
creates_one (Some x) b f rows calls (Err fault) is refused ok index more = absurd (cc (is))

pub at_ok : {A P : Type 0} (result : Result A TreeFault) → IsOk result → OnOk result P → P
at_ok (Ok n) is p = p
at_ok (Err fault) is p = absurd (cc (is))
