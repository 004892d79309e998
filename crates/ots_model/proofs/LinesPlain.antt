-- The words of a line are plain.
use Rattle.std.proofs.Common.{◌≡◌, ◌<◌, Bool, true, false, List, [], ◌∷◌, length, map, refl, arith}
use Rattle.std.specs.List.{list_all, AllByRecursion}
use Rattle.std.proofs.lemmas.List.Elements.{recursion_from_All}
use Rattle.ots_model.specs.Piece.{Part, Fixed, Named, Number, word_of, IsWell}
use Rattle.ots_model.specs.Line.{parts}
use Rattle.ots_model.specs.LineLaws.{IsLine}
use Rattle.ots_model.proofs.PlainWords.{IsPlain, ArePlain, is_plain, first_of_both, last_of_both, fixed_is_plain, name_is_plain, number_is_plain}
use Rattle.ots_model.specs.declared.line.Line.{Line}

-- the part is plain, if its name is a name and its number a number
abbrev is_plain_part : Part → Bool
is_plain_part (Fixed octets) = is_plain octets
is_plain_part (Named name) = true
is_plain_part (Number number) = true

-- there are parts, and their fixed words are plain
abbrev can_be_parted : List Part → Bool
can_be_parted [] = false
can_be_parted (p ∷ ps) = list_all is_plain_part (p ∷ ps)

line_can_be_parted : (line : Line) → can_be_parted (parts line) ≡ true
unfolding parts
line_can_be_parted line = grind arith

part_is_plain : (p : Part) → is_plain_part p ≡ true → IsWell p → IsPlain (word_of p)
part_is_plain (Fixed octets) h well = fixed_is_plain octets h
part_is_plain (Named name) h well = name_is_plain name well
part_is_plain (Number number) h well = number_is_plain number well

parts_are_plain : (ps : List Part) → list_all is_plain_part ps ≡ true → AllByRecursion IsWell ps → ArePlain (map word_of ps)
parts_are_plain [] h well = tt
parts_are_plain (p ∷ ps) h well = (
  part_is_plain p (first_of_both (is_plain_part p) (list_all is_plain_part ps) h) well.0,
  parts_are_plain ps (last_of_both (is_plain_part p) (list_all is_plain_part ps) h) well.1,
)

some_plain : (ps : List Part) → can_be_parted ps ≡ true → list_all is_plain_part ps ≡ true
some_plain [] h = refl
some_plain (p ∷ ps) h = h

some_words : (ps : List Part) → can_be_parted ps ≡ true → 0 < length (map word_of ps)
some_words [] h = cc
some_words (p ∷ ps) h = omega arith

-- the words of a line are plain
pub line_is_plain : (line : Line) → IsLine line → ArePlain (map word_of (parts line))
unfolding IsLine
line_is_plain line h =
    parts_are_plain (parts line) (some_plain (parts line) (line_can_be_parted line)) (recursion_from_All IsWell (parts line) h)

-- a line has words
pub line_has_words : (line : Line) → 0 < length (map word_of (parts line))
line_has_words line = some_words (parts line) (line_can_be_parted line)
