-- The limits of this service, each a number (our profile).
use Rattle.std.specs.Prelude.{ℕ}

-- how many registrations a transaction has at most
abbrev pub registration_limit : ℕ
registration_limit = 64

-- how many octets a name has at most
abbrev pub name_limit : ℕ
name_limit = 12

-- how many octets a reference has at most
abbrev pub reference_limit : ℕ
reference_limit = 1024

-- how many octets of a line are put together before they are written, at most
abbrev pub row_limit : ℕ
row_limit = 96
