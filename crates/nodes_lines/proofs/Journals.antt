-- The hexadecimal digits of octets, one after another.
use Rattle.std.proofs.Common.{◌≡◌, ℕ, ◌/◌, ◌%◌, List, [], ◌∷◌, ◌++◌, length, take, slice_index, refl, ap, sym, ◌∙◌, append_assoc, codes}
use Rattle.std.proofs.Math.Seq.{take-append_seam}
use Rattle.ots_model.proofs.PieceLemmas.{kept_in_front}
use Rattle.ots_model.proofs.RowLemmas.{front_trans}
use Rattle.hex.specs.Hex.{encode_with, encode_lower, lower_digits}
use Rattle.nodes_world.specs.Told.{Journal, spelled, words_of}

-- of none
pub encode_none : (table : List ℕ) → encode_with table [] ≡ []
unfolding encode_with
encode_none table = refl

-- of some, and of others behind them
pub encode_append : (table xs ys : List ℕ) → encode_with table (xs ++ ys) ≡ encode_with table xs ++ encode_with table ys
unfolding encode_with
encode_append table [] ys = refl
encode_append table (x ∷ xs) ys =
    ap (λ (rest : List ℕ). slice_index table (x / 16) ∷ slice_index table (x % 16) ∷ rest) (encode_append table xs ys)

-- those of a chunk were written behind others
pub chunk_written : (before lines chunk all rest after : List ℕ) → all ≡ chunk ++ rest → after ≡ lines ++ encode_lower chunk
    → lines ++ encode_lower all ≡ before → after ++ encode_lower rest ≡ before
chunk_written before lines chunk all rest after parts written was =
    rw (written, append_assoc) (sym (ap (λ (digits : List ℕ). lines ++ digits) (ap encode_lower parts ∙ encode_append lower_digits chunk rest)) ∙ was)

-- they are written behind what stood in front
pub front_written : (before lines digits after : List ℕ) → take (length before) lines ≡ before → after ≡ lines ++ digits
    → take (length before) after ≡ before
front_written before lines digits after front written =
    front_trans before lines after front (rw (written, take-append_seam))

-- what stood in front of the words of a line stays
pub front_kept : (before server lines after : List ℕ) → lines ≡ ((before ++ codes "journal ") ++ server) ++ 32 ∷ []
    → take (length lines) after ≡ lines → take (length before) after ≡ before
front_kept before server lines after written kept =
    kept_in_front before lines (codes "journal " ++ (server ++ 32 ∷ [])) after (written ∙ simp append_assoc) kept

-- the parts of a line
pub line_written : (before server octets : List ℕ) (gate : ℕ)
    → (((((before ++ codes "journal ") ++ server) ++ 32 ∷ []) ++ encode_lower octets) ++ encode_lower (gate ∷ [])) ++ 10 ∷ []
    ≡ before ++ spelled (Journal server (octets ++ gate ∷ []))
unfolding spelled words_of
line_written before server octets gate = simp (encode_append, append_assoc)
