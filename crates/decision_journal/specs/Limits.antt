-- The limits of a journal, each a number (our profile).
use Rattle.std.specs.Prelude.{ℕ}

-- how many octets an area has at most: 64 MB
abbrev pub area_limit : ℕ
area_limit = 67108864

-- how many decisions and prepared records stand at most
abbrev pub standing_limit : ℕ
standing_limit = 8192

-- how many octets are read at a time: 64 KiB
abbrev pub piece_length : ℕ
piece_length = 65536
