-- The lines of octets.
use Rattle.std.proofs.Common.{◌≡◌, ◌≢◌, ℕ, ◌+◌, ◌<◌, Bool, true, false, cond, eqb, List, [], ◌∷◌, ◌++◌, length, refl, arith}
use Rattle.ots_program.specs.PlayingInside.{IsOneLine}
use Rattle.std.proofs.lemmas.Bool.{ne_eqb}
use Rattle.ots_program.specs.Replay.{Row, rows, onto_first_row, size}

-- one octet more, at the end
pub IsOneLine-push : (text : List ℕ) (octet : ℕ) → IsOneLine text → octet ≢ 10 → IsOneLine (text ++ octet ∷ [])
IsOneLine-push [] octet h ne = (ne, tt)
IsOneLine-push (next ∷ text) octet h ne = (h.0, IsOneLine-push text octet h.1 ne)

-- a line with its line feed
pub rows-ended : (text rest : List ℕ) → IsOneLine text → rows (text ++ 10 ∷ rest) ≡ record { text = text; ended = true } ∷ rows rest
rows-ended [] rest h = refl
rows-ended (octet ∷ text) rest h = rw (ne_eqb octet 10 h.0, rows-ended text rest h.1) refl

-- a last line without one
pub rows-open : (octet : ℕ) (text : List ℕ) → IsOneLine (octet ∷ text) → rows (octet ∷ text) ≡ record { text = octet ∷ text; ended = false } ∷ []
rows-open octet [] h = rw (ne_eqb octet 10 h.0) refl
rows-open octet (next ∷ text) h = rw (ne_eqb octet 10 h.0) (rw (rows-open next text h.1) refl)

-- the first of these lines is longer than the text
pub record Begins (text : List ℕ) (some : List Row) : Type 0 where
  pub row : Row
  pub others : List Row
  pub split : some ≡ row ∷ others
  pub long : length text < size row

size-cons : (octet : ℕ) (text : List ℕ) (ended : Bool) → size (record { text = octet ∷ text; ended = ended }) ≡ size (record { text = text; ended = ended }) + 1
size-cons octet text true = omega arith
size-cons octet text false = omega arith

Begins-one : (is_feed : Bool) (octet : ℕ) (behind : List Row) → Begins [] (cond is_feed (record { text = []; ended = true } ∷ behind) (onto_first_row octet behind))
Begins-one true octet behind = record { row = record { text = []; ended = true }; others = behind; split = refl; long = omega arith }
Begins-one false octet [] = record { row = record { text = octet ∷ []; ended = false }; others = []; split = refl; long = omega arith }
Begins-one false octet (row ∷ others) = record { row = record { text = octet ∷ row.text; ended = row.ended }; others = others; split = refl; long = omega (arith, size-cons octet row.text row.ended) }

-- a text without line feeds, and one octet more
pub rows-begun : (text : List ℕ) (octet : ℕ) (rest : List ℕ) → IsOneLine text → Begins text (rows (text ++ octet ∷ rest))
rows-begun [] octet rest h = Begins-one (eqb octet 10) octet (rows rest)
rows-begun (next ∷ text) octet rest h =
    let b = rows-begun text octet rest h.1 in
    record { row = record { text = next ∷ b.row.text; ended = b.row.ended }; others = b.others; split = rw (ne_eqb next 10 h.0, b.split) refl; long = omega (arith, size-cons next b.row.text b.row.ended, b.long) }
