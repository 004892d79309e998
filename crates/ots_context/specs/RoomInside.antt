-- Bounds of how many octets parts of a context take, at whatever offset they stand; not the least ones. With 16 parents
-- there is room for all that stands in front of the tail.
use Rattle.std.specs.Prelude.{ℕ}

-- a reference: 1,024 canonical octets, and other padding
abbrev pub reference_size : ℕ
reference_size = 1792

abbrev pub otid_size : ℕ
otid_size = 245

abbrev pub identity_size : ℕ
identity_size = 3829
