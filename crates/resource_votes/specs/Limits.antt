-- The limits of the registrations with a tree of transactions (our profile). Registrations of both kinds count together.
use Rattle.std.specs.Prelude.{ℕ}
pub use Rattle.ots_model.specs.Limits.{registration_limit}

-- how many synchronizations a tree has at most
abbrev pub synchronization_limit : ℕ
synchronization_limit = 64

-- how many lists there are, one for each branch that a tree may have
abbrev pub list_count : ℕ
list_count = 1024
