-- How much a script may have, and how much is read at once (our profile).
use Rattle.std.specs.Prelude.{ℕ}

-- lines
abbrev pub lines_limit : ℕ
lines_limit = 100000

-- octets, line feeds included
abbrev pub octets_limit : ℕ
octets_limit = 16777216

-- the octets that are read at once, of a script or of a stream
abbrev pub piece_limit : ℕ
piece_limit = 8192
