-- The limits of a completion (our profile).
use Rattle.std.specs.Prelude.{ℕ}
pub use Rattle.ots_model.specs.Limits.{registration_limit}

-- how many dispositions its participants have at most: each one that of its first answer, and that of its answer to the word
-- that tells the outcome
abbrev pub disposition_limit : ℕ
disposition_limit = 128
