-- How words are written one after another.
use Rattle.std.proofs.Common.{◌≡◌, ℕ, zero, suc, ◌+◌, ◌<◌, List, [], ◌∷◌, ◌++◌, length, get_or, take, drop, map, refl, sym, ap, ◌∙◌, append_assoc, arith}
use Rattle.std.proofs.lemmas.List.{take-append-drop, take_more, length-take}
use Rattle.std.proofs.Math.Seq.{take-append_seam}
use Rattle.std.proofs.lemmas.Bool.{lt-ltb}
use Rattle.std.specs.List.{join_with_byte}
use Rattle.std.specs.Prelude.{nat_lt}
use Rattle.ots_model.specs.Piece.{word_of}
use Rattle.ots_model.specs.Pieces.{gap, part_of, parts_of}
use Rattle.ots_model.specs.declared.piece.Piece.{Piece}

-- pieces, parted by single spaces
abbrev pub joined : List Piece → List ℕ
joined words = join_with_byte 32 (map word_of (parts_of words))

-- what stood in front of a list stands in front of each longer one
pub kept_in_front : (old was ys new : List ℕ) → was ≡ old ++ ys → take (length was) new ≡ was → take (length old) new ≡ old
kept_in_front old was ys new e kept =
    let whole : new ≡ old ++ (ys ++ drop (length was) new) =
    sym (take-append-drop (length was) new) ∙ ap (λ (front : List ℕ). front ++ drop (length was) new) (kept ∙ e)
    ∙ append_assoc old ys (drop (length was) new) in
    ap (λ (all : List ℕ). take (length old) all) whole ∙ take-append_seam old (ys ++ drop (length was) new)

joined-push : (words : List Piece) (word : Piece) → 0 < length words
    → joined (words ++ word ∷ []) ≡ joined words ++ 32 ∷ word_of (part_of word)
joined-push [] word some = absurd (omega arith)
joined-push (first ∷ []) word some = refl
joined-push (first ∷ second ∷ words) word some =
    ap (λ (rest : List ℕ). word_of (part_of first) ++ 32 ∷ rest) (joined-push (second ∷ words) word (omega arith))
    ∙ sym (append_assoc (word_of (part_of first)) (32 ∷ joined (second ∷ words)) (32 ∷ word_of (part_of word)))

-- the first word
pub first_joined : (words : List Piece) (word : Piece) → 0 < length words → word ≡ get_or words 0 word
    → joined (take 1 words) ≡ word_of (part_of word)
first_joined [] word some e = absurd (omega arith)
first_joined (first ∷ words) word some e = rw (← e)

-- one more word
pub more_joined : (words : List Piece) (i : ℕ) (word : Piece) → 0 < i → i < length words → word ≡ get_or words i word
    → joined (take (i + 1) words) ≡ joined (take i words) ++ 32 ∷ word_of (part_of word)
more_joined words i word some low e =
    ap joined (take_more words i word low ∙ ap (λ (w : Piece). take i words ++ w ∷ []) (sym e))
    ∙ joined-push (take i words) word (omega (arith, length-take i words))

-- one more word, behind a space where words stand in front of it
pub word_joined : (words : List Piece) (i : ℕ) (word : Piece) → i < length words → word ≡ get_or words i word
    → joined (take (i + 1) words) ≡ joined (take i words) ++ (gap (nat_lt 0 i) ++ word_of (part_of word))
word_joined words zero word low e = first_joined words word low e
word_joined words (suc i) word low e = rw (lt-ltb 0 (suc i) (omega arith)) (more_joined words (suc i) word (omega arith) low e)
