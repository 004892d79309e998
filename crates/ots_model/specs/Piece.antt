-- What a line is made of: words, parted by single spaces (our profile).
use Rattle.std.specs.Prelude.{ℕ, ◌^◌, ◌<◌, List, [], ◌∷◌, ◌++◌, map}
use Rattle.std.specs.List.{join_with_byte}
use Rattle.std.specs.Fmt.{decimal}
use Rattle.ots_model.specs.Name.{IsName}

-- a word of a line: a fixed one, a name, or a number in decimal digits
pub data Part : Type 0 where
  Fixed : (octets : List ℕ) → Part
  Named : (name : List ℕ) → Part
  Number : (number : ℕ) → Part

-- the octets of a word
abbrev pub word_of : Part → List ℕ
word_of (Fixed octets) = octets
word_of (Named name) = name
word_of (Number number) = decimal number

-- words, parted by single spaces
abbrev pub spaced : List Part → List ℕ
spaced parts = join_with_byte 32 (map word_of parts)

-- words as a line: parted by single spaces, and a line feed behind them
abbrev pub line_of : List Part → List ℕ
line_of parts = join_with_byte 32 (map word_of parts) ++ 10 ∷ []

-- a number that the program can hold
abbrev pub IsNumber : ℕ → Type 0
IsNumber n = n < 2 ^ 64

-- a word whose name is a name, or whose number is a number
abbrev pub IsWell : Part → Type 0
IsWell (Fixed octets) = Unit {0}
IsWell (Named name) = IsName name
IsWell (Number number) = IsNumber number
