-- Octets that a call appends to others (our profile).
use Rattle.std.specs.Prelude.{◌≡◌, ℕ, List, ◌++◌, length, take, Result, OnErr, OnOk}

-- a call appended the octets, or nothing
pub record Appends {F : Type 0} (octets : List ℕ) (result : Result (Unit {0}) F) (old new : List ℕ) : Type 0 where
  pub ok : OnOk result (new ≡ old ++ octets)
  pub err : OnErr result (new ≡ old)

-- a call appended the octets, or some of them
pub record AppendsSome {F : Type 0} (octets : List ℕ) (result : Result (Unit {0}) F) (old new : List ℕ) : Type 0 where
  pub ok : OnOk result (new ≡ old ++ octets)
  pub err : OnErr result (take (length old) new ≡ old)
