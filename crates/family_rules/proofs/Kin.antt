-- A key that is of a family names one of its transactions.
use Rattle.std.proofs.Common.{◌≡◌, ◌<◌, ℕ, Bool, true, false, ◌&&◌, nat_lt, length, arith}
use Rattle.std.proofs.lemmas.Bool.Decides.{nat_tests}
use Rattle.ior_refs.specs.declared.key.ObjectKey.{ObjectKey}
use Rattle.coordinator.specs.Family.{Family}
use Rattle.coordinator.specs.Names.{is_of_family}

both_right : (a b : Bool) → (a && b) ≡ true → b ≡ true
both_right true b h = h
both_right false b h = absurd (cc h)

below : (m n : ℕ) → nat_lt m n ≡ true → m < n
below m n h = grind (arith, nat_tests)

pub known_branch : (f : Family) (k : ObjectKey) → is_of_family f k ≡ true → k.index < length f.rows
known_branch f k h = below k.index (length f.rows) (both_right _ (nat_lt k.index (length f.rows)) h)
