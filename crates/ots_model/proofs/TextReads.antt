-- A text is read back: its rows are lines, and a row tells its line.
use Rattle.std.proofs.Common.{◌≡◌, ◌≢◌, ℕ, false, List, [], ◌∷◌, ◌++◌, length, map, refl, ap, sym, ◌∙◌, arith, append_assoc}
use Rattle.std.specs.List.{join_with_byte, slice_split, All, AllByRecursion}
use Rattle.std.proofs.lemmas.List.{append_cancel_left, append_cancel_right}
use Rattle.std.proofs.lemmas.List.Elements.{All-weaker, recursion_from_All}
use Rattle.std.proofs.lemmas.List.Splits.{slice_split_none, slice_split_at, length-slice_split}
use Rattle.ots_model.specs.Piece.{word_of}
use Rattle.ots_model.specs.Line.{parts, spelling, text_of}
use Rattle.ots_model.specs.LineLaws.{IsLine, DifferentLinesDiffer, TextReadsBack}
use Rattle.ots_model.proofs.LinesRead.{same_words}
use Rattle.ots_model.proofs.PlainWords.{is_octet, parted, joined_on_one_line}
use Rattle.ots_model.proofs.LinesPlain.{line_is_plain, line_has_words}
use Rattle.ots_model.specs.declared.line.Line.{Line}

-- the words of a line
abbrev pub words : Line → List (List ℕ)
words line = map word_of (parts line)

-- a line without its line feed
abbrev pub body : Line → List ℕ
body line = join_with_byte 32 (words line)

-- the octets up to each line feed, and those behind the last
abbrev pub rows : List ℕ → List (List ℕ)
rows octets = slice_split (is_octet 10) octets

same_bodies : (a b : Line) → IsLine a → IsLine b → body a ≡ body b → a ≡ b
same_bodies a b ia ib e =
    same_words a b ia ib
    (sym (parted (words a) (line_has_words a) (line_is_plain a ia))
    ∙ ap (λ (octets : List ℕ). slice_split (is_octet 32) octets) e
    ∙ parted (words b) (line_has_words b) (line_is_plain b ib))

-- two lines with one spelling are one line
pub different_lines : DifferentLinesDiffer
unfolding spelling
different_lines a b ia ib e = same_bodies a b ia ib (append_cancel_right (body a) (body b) (10 ∷ []) e)

-- a line is the first row of a text that begins with it
first_row : (a : Line) (rest : List ℕ) → IsLine a → rows (spelling a ++ rest) ≡ body a ∷ rows rest
unfolding spelling
first_row a rest ia =
    ap (λ (octets : List ℕ). rows octets) (append_assoc (body a) (10 ∷ []) rest)
    ∙ slice_split_at (is_octet 10) (body a) 10 rest (joined_on_one_line (words a) (line_is_plain a ia)) refl

-- octets with no line feed begin with no line
no_line_there : (end rest : List ℕ) (b : Line) → IsLine b → All (λ o. is_octet 10 o ≡ false) end → end ≡ spelling b ++ rest → ⊥
no_line_there end rest b ib none e =
    let one : (end ∷ []) ≡ (body b ∷ rows rest) =
    sym (slice_split_none (is_octet 10) end none) ∙ ap (λ (octets : List ℕ). rows octets) e ∙ first_row b rest ib in
    let nothing : [] ≡ rows rest = cc in
    omega (arith, length-slice_split (is_octet 10) rest, ap length nothing)

-- what follows two equal texts
reads_back : (some others : List Line) (rest end : List ℕ) → AllByRecursion IsLine some → AllByRecursion IsLine others
    → All (λ o. is_octet 10 o ≡ false) rest → All (λ o. is_octet 10 o ≡ false) end
    → text_of some ++ rest ≡ text_of others ++ end → (some ≡ others) × (rest ≡ end)
reads_back [] [] rest end is js hr he e = (refl, e)
reads_back [] (b ∷ others) rest end is js hr he e =
    absurd (no_line_there rest (text_of others ++ end) b js.0 hr (e ∙ append_assoc (spelling b) (text_of others) end))
reads_back (a ∷ some) [] rest end is js hr he e =
    absurd (no_line_there end (text_of some ++ rest) a is.0 he (sym e ∙ append_assoc (spelling a) (text_of some) rest))
reads_back (a ∷ some) (b ∷ others) rest end is js hr he e =
    let lines : spelling a ++ (text_of some ++ rest) ≡ spelling b ++ (text_of others ++ end) =
    sym (append_assoc (spelling a) (text_of some) rest) ∙ e ∙ append_assoc (spelling b) (text_of others) end in
    let heads : (body a ∷ rows (text_of some ++ rest)) ≡ (body b ∷ rows (text_of others ++ end)) =
    sym (first_row a (text_of some ++ rest) is.0) ∙ ap (λ (octets : List ℕ). rows octets) lines
    ∙ first_row b (text_of others ++ end) js.0 in
    let bodies : body a ≡ body b = cc in
    let first : a ≡ b = same_bodies a b is.0 js.0 bodies in
    let behind : text_of some ++ rest ≡ text_of others ++ end =
    append_cancel_left (spelling a) (text_of some ++ rest) (text_of others ++ end)
    (lines ∙ ap (λ (line : Line). spelling line ++ (text_of others ++ end)) (sym first)) in
    let more : (some ≡ others) × (rest ≡ end) = reads_back some others rest end is.1 js.1 hr he behind in
    (cc, more.1)

other_octet : (b : ℕ) → b ≢ 10 → is_octet 10 b ≡ false
other_octet b h = grind (arith)

-- a text tells its lines, and what stands behind the last of them
pub text_reads : TextReadsBack
text_reads some others rest end is js hr he e =
    reads_back some others rest end (recursion_from_All IsLine some is) (recursion_from_All IsLine others js)
    (All-weaker (λ b. b ≢ 10) (λ o. is_octet 10 o ≡ false) other_octet rest hr)
    (All-weaker (λ b. b ≢ 10) (λ o. is_octet 10 o ≡ false) other_octet end he) e
