-- A line is read back from its words.
use Rattle.std.proofs.Common.{◌≡◌, ℕ, List, [], ◌∷◌, map, refl, sym, ap, ◌∙◌, arith}
use Rattle.std.proofs.lemmas.Fmt.{decimal_is_IsNumeral}
use Rattle.std.proofs.lemmas.List.Elements.{recursion_from_All}
use Rattle.std.specs.List.{AllByRecursion}
use Rattle.std.specs.Fmt.{decimal}
use Rattle.std.specs.Str.Parse.{digits_value}
use Rattle.ots_model.specs.Piece.{Part, Fixed, Named, Number, word_of, IsWell}
use Rattle.ots_model.specs.Line.{parts}
use Rattle.ots_model.specs.LineLaws.{IsLine}
use Rattle.ots_model.specs.declared.line.Line.{Line}

-- a word, and the number that its digits write
abbrev Cell : Type 0
Cell = List ℕ × ℕ

abbrev cell_of : List ℕ → Cell
cell_of word = (word, digits_value 10 word)

-- the same of a part, whose number is at hand
abbrev cell : Part → Cell
cell (Fixed octets) = cell_of octets
cell (Named name) = cell_of name
cell (Number number) = (decimal number, number)

abbrev cells : List Part → List Cell
cells some = map cell some

-- lines with the same cells are one line: in each case of the two the first words differ, or the cells tell the rest
same_cells : (a b : Line) → cells (parts a) ≡ cells (parts b) → a ≡ b
unfolding parts
same_cells a b e = grind arith

-- well-named parts are told by their words
cells_told : (some : List Part) → AllByRecursion IsWell some → cells some ≡ map cell_of (map word_of some)
cells_told [] h = refl
cells_told (Fixed octets ∷ some) h = ap (λ (rest : List Cell). cell_of octets ∷ rest) (cells_told some h.1)
cells_told (Named name ∷ some) h = ap (λ (rest : List Cell). cell_of name ∷ rest) (cells_told some h.1)
cells_told (Number number ∷ some) h =
    ap (λ (n : ℕ). (decimal number, n) ∷ cells some) (sym (decimal_is_IsNumeral number h.0).1)
    ∙ ap (λ (rest : List Cell). cell_of (decimal number) ∷ rest) (cells_told some h.1)

-- two lines with the same words are one line
pub same_words : (a b : Line) → IsLine a → IsLine b → map word_of (parts a) ≡ map word_of (parts b) → a ≡ b
unfolding IsLine
same_words a b ia ib e =
    same_cells a b
    (cells_told (parts a) (recursion_from_All IsWell (parts a) ia) ∙ ap (map cell_of) e
    ∙ sym (cells_told (parts b) (recursion_from_All IsWell (parts b) ib)))
