-- The words that are written of a line (our profile).
use Rattle.std.specs.Prelude.{◌≡◌, ℕ, Bool, ◌++◌, List, [], ◌∷◌, if◌then◌else◌, map, Result, Ok, Err}
use Rattle.ots_model.specs.Piece.{Part, Fixed, Named, Number, line_of}
use Rattle.ots_model.specs.declared.piece.Piece.{Piece}
use Rattle.ots_model.specs.declared.piece.Piece.TheVariants as pieces

-- the word that a piece stands for
abbrev pub part_of : Piece → Part
part_of (pieces.Text octets) = Fixed octets.now
part_of (pieces.Named name) = Named name
part_of (pieces.Number number) = Number number

abbrev pub parts_of : List Piece → List Part
parts_of some = map part_of some

-- the space in front of a word, where other words stand in front of it
abbrev pub gap : Bool → List ℕ
gap parted = if parted then 32 ∷ [] else []

-- a line of these words was written, whole; or, where memory ran out, nothing
abbrev pub IsWritten : {E : Type 0} → Result (Unit {0}) E → List Part → List ℕ → List ℕ → Type 0
IsWritten (Ok _) words before after = after ≡ before ++ line_of words
IsWritten (Err _) words before after = after ≡ before
