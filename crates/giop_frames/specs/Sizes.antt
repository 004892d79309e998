-- How many octets values have, by their sizes alone: as many in both byte orders.
use Rattle.std.specs.Prelude.{ℕ, ◌+◌, List, [], ◌∷◌, length}
use Rattle.cdr_values.specs.Value.{Value, Octet, Boolean, UShort, ULong, ULongLong, OctetSequence, Text, Aligned, alignment, gap}

-- how many octets a value has without its padding
abbrev pub size_of : Value → ℕ
size_of (Octet n) = 1
size_of (Boolean b) = 1
size_of (UShort n) = 2
size_of (ULong n) = 4
size_of (ULongLong n) = 8
size_of (OctetSequence octets) = 4 + length octets
size_of (Text text) = 4 + (length text + 1)
size_of (Aligned n) = 0

-- the offset behind values that stand from an offset on
abbrev pub end_of : ℕ → List Value → ℕ
end_of at [] = at
end_of at (value ∷ values) = end_of (at + gap (alignment value) at + size_of value) values
