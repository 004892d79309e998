-- What the spelling of lines tells (our profile).
use Rattle.std.specs.Prelude.{◌≡◌, ◌≢◌, ℕ, List, ◌++◌}
use Rattle.std.specs.List.{All}
use Rattle.ots_model.specs.Piece.{IsWell}
use Rattle.ots_model.specs.Line.{parts, spelling, text_of}
use Rattle.ots_model.specs.declared.line.Line.{Line}

-- a line whose names are names and whose numbers are numbers
unfoldable pub IsLine : Line → Type 0
IsLine line = All IsWell (parts line)

-- no line ends in these octets
abbrev pub HasNoLineFeed : List ℕ → Type 0
HasNoLineFeed octets = All (λ b. b ≢ 10) octets

-- two lines with one spelling are one line
abbrev pub DifferentLinesDiffer : Type 0
DifferentLinesDiffer = (a b : Line) → IsLine a → IsLine b → spelling a ≡ spelling b → a ≡ b

-- a text tells its lines, and what stands behind the last of them
abbrev pub TextReadsBack : Type 0
TextReadsBack = (some others : List Line) (rest end : List ℕ) → All IsLine some → All IsLine others
    → HasNoLineFeed rest → HasNoLineFeed end → text_of some ++ rest ≡ text_of others ++ end
    → (some ≡ others) × (rest ≡ end)
