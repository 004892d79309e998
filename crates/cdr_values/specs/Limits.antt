-- How much a value and a writer have at most (our profile).
use Rattle.std.specs.Prelude.{ℕ}

-- the octets of a sequence of octets, and those of a string with its NUL
abbrev pub length_limit : ℕ
length_limit = 65536

-- the octets that a writer has written
abbrev pub output_limit : ℕ
output_limit = 65536

-- the offset at which a writer begins: the header of a message may stand in front, and its longest content
abbrev pub start_limit : ℕ
start_limit = 65548
