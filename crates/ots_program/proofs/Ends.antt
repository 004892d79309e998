-- Octets of a script up to a line feed, and without one.
use Rattle.std.proofs.Common.{◌≡◌, ◌==◌, ℕ, zero, suc, ◌+◌, ◌<◌, Bool, true, false, cond, List, [], ◌∷◌, ◌++◌, length, get_or, take, drop, Some, None, refl, sym, ◌∙◌, append_assoc, arith}
use Rattle.std.specs.List.{position, position_from}
use Rattle.std.proofs.lemmas.Bool.{eqb-true, eqb-false}
use Rattle.std.proofs.lemmas.Iterator.Adapters.{position_from-zero}
use Rattle.std.proofs.lemmas.List.{drop_more, take-append-drop}
use Rattle.std.proofs.lemmas.List.Quantifiers.{position-Some}
use Rattle.ots_program.specs.PlayingInside.{IsOneLine}

-- an octet is a line feed
abbrev is_feed : ℕ → Bool
is_feed octet = octet == 10

none_by : (i octet : ℕ) (octets : List ℕ) (b : Bool) → is_feed octet ≡ b → (position_from is_feed (i + 1) octets ≡ None → IsOneLine octets)
    → cond b (Some i) (position_from is_feed (i + 1) octets) ≡ None → IsOneLine (octet ∷ octets)
none_by i octet octets true e rest h = absurd (cc (h))
none_by i octet octets false e rest h = (eqb-false octet 10 e, rest h)

none_from : (i : ℕ) (octets : List ℕ) → position_from is_feed i octets ≡ None → IsOneLine octets
none_from i [] h = tt
none_from i (octet ∷ octets) h = none_by i octet octets (is_feed octet) refl (none_from (i + 1) octets) h

-- there is none
pub no_feed : (octets : List ℕ) → position is_feed octets ≡ None → IsOneLine octets
no_feed octets h = none_from 0 octets (sym (position_from-zero is_feed octets) ∙ h)

before : (end : ℕ) (octets : List ℕ) → ((k : ℕ) → k < end → is_feed (get_or octets k 0) ≡ false) → IsOneLine (take end octets)
before zero octets h = tt
before (suc end) [] h = tt
before (suc end) (octet ∷ octets) h =
    (eqb-false octet 10 (h 0 (omega arith)), before end octets (λ k less. h (suc k) (omega (arith, less))))

-- what stands in front of the first one, with it, and what stands behind it
pub record Parts (octets : List ℕ) (end : ℕ) : Type 0 where
  pub within : end < length octets
  pub one_line : IsOneLine (take end octets)
  pub parts : octets ≡ (take end octets ++ 10 ∷ []) ++ drop (end + 1) octets

pub first_feed : (octets : List ℕ) (end : ℕ) → position is_feed octets ≡ Some end → Parts octets end
first_feed octets end h =
    let p = position-Some is_feed octets end 0 h in
    let feed : get_or octets end 0 ≡ 10 = eqb-true (get_or octets end 0) 10 p.1 in
    record {
      within = p.0;
      one_line = before end octets p.2;
      parts = sym (take-append-drop end octets) ∙ rw (drop_more octets end 0 p.0, feed) refl ∙ sym (append_assoc (take end octets) (10 ∷ []) (drop (end + 1) octets));
    }
