-- The limits of a tree (our profile).
use Rattle.std.specs.Prelude.{ℕ}

-- how deep a transaction lies at most, where the top has depth 1
abbrev pub depth_limit : ℕ
depth_limit = 16

-- how many transactions a tree has at most
abbrev pub transaction_limit : ℕ
transaction_limit = 1024
