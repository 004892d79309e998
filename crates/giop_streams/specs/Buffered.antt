-- What a buffer holds.
use Rattle.std.specs.Prelude.{ℕ, List}

-- octets, and for how many there is memory
pub record Buffered : Type 0 where
  pub octets : List ℕ
  pub memory : ℕ
