-- Which texts have digits of octets.
use Rattle.std.proofs.Common.{◌≡◌, ℕ, suc, ◌+◌, ◌-◌, ◌<◌, ◌≤◌, ◌%◌, ◌⊎◌, inl, inr, Bool, true, false, cond, eqb, List, [], ◌∷◌, length, take, drop, Result, Ok, Err, refl, sym, ◌∙◌, arith, length-drop}
use Rattle.std.specs.Prelude.{zip}
use Rattle.std.specs.Char.{is_ascii_hexdigit}
use Rattle.std.specs.List.{AllPass, prefix_len}
use Rattle.std.proofs.lemmas.List.{take_all}
use Rattle.std.proofs.lemmas.List.Elements.{All-cons, All-head, All-nil, All-tail}
use Rattle.std.proofs.lemmas.List.Folds.{length-prefix_len}
use Rattle.std.proofs.lemmas.List.Sums.{prefix_len-le-length}
use Rattle.std.proofs.lemmas.Slice.Zip.{length-zip}
use Rattle.hex.specs.declared.error.FromHexError.{FromHexError}
use Rattle.hex.specs.Hex.{decode_of, is_hex_digit}
use Rattle.hex.proofs.HexLemmas.{decode_of-digits, decode_of-ok}
use Rattle.ior_refs.specs.Text.{TellsForm, agreeing, digits_in_front, octets_in_text, octets_of_digits, prefix}
use Rattle.ior_refs.specs.declared.fault.IorFault.{IorFault}
use Rattle.ior_refs.specs.declared.fault.IorFault.TheVariants.{BadText}

-- an octet is a digit
abbrev holds : ℕ → Type 0
holds octet = is_hex_digit octet ≡ true

same_digit : (octet : ℕ) → is_ascii_hexdigit octet ≡ is_hex_digit octet
same_digit octet = grind arith

-- where all are digits, all of them stand in front
all_in_front : (xs : List ℕ) → AllPass is_hex_digit xs → prefix_len is_ascii_hexdigit xs ≡ length xs
all_in_front [] h = refl
all_in_front (x ∷ xs) h =
    let one : is_ascii_hexdigit x ≡ true = same_digit x ∙ All-head holds x xs h in
    let others = all_in_front xs (All-tail holds x xs h) in
    rw one (omega (arith, others))

in_front_all : (xs : List ℕ) → length xs ≤ prefix_len is_ascii_hexdigit xs → AllPass is_hex_digit xs
in_front_all [] h = All-nil holds
in_front_all (x ∷ xs) h = by_test (is_ascii_hexdigit x) x xs refl h (λ few. in_front_all xs few) where
  by_test : (b : Bool) (x : ℕ) (xs : List ℕ) → is_ascii_hexdigit x ≡ b → suc (length xs) ≤ cond b (1 + prefix_len is_ascii_hexdigit xs) 0
      → (length xs ≤ prefix_len is_ascii_hexdigit xs → AllPass is_hex_digit xs) → AllPass is_hex_digit (x ∷ xs)
  by_test true x xs e h others = All-cons holds x xs (sym (same_digit x) ∙ e) (others (omega (arith, h)))
  by_test false x xs e h others = absurd (omega (arith, h))

-- an octet that is no digit, or a digit that is wanting, is told
not_digits : (digits : List ℕ) → (digits_in_front digits < length digits) ⊎ (length digits % 2 ≡ 1) → octets_of_digits digits (decode_of digits) ≡ Err (BadText (4 + digits_in_front digits))
not_digits digits h = by_result digits (decode_of digits) refl h where
  by_result : (digits : List ℕ) (decoded : Result (List ℕ) FromHexError) → decode_of digits ≡ decoded → (digits_in_front digits < length digits) ⊎ (length digits % 2 ≡ 1)
      → octets_of_digits digits decoded ≡ Err (BadText (4 + digits_in_front digits))
  by_result digits (Err fault) e h = refl
  by_result digits (Ok octets) e h =
      let is = decode_of-ok digits octets e in
      elim h [
        | inl few ↦ absurd (omega (arith, few, length-prefix_len is_ascii_hexdigit digits, all_in_front digits is.1))
        | inr odd ↦ absurd (omega (arith, odd, is.0))
      ]

-- the octets behind the prefix
pub behind : (text : List ℕ) → drop 4 text ≡ take (length text - 4) (drop 4 text)
behind text = sym (take_all (length text - 4) (drop 4 text) (omega (arith, length-drop 4 text)))

-- whether two octets are the same
abbrev same_pair : ℕ × ℕ → Bool
same_pair pair = eqb pair.0 pair.1

agrees : (text : List ℕ) → 4 ≤ agreeing prefix text → agreeing prefix text ≡ 4
agrees text h =
    let pairs = zip prefix text in
    omega (arith, h, length-prefix_len same_pair pairs, prefix_len-le-length same_pair pairs, length-zip prefix text)

pub form_refused : (text digits : List ℕ) → drop 4 text ≡ digits → 4 ≤ agreeing prefix text → (digits_in_front digits < length digits) ⊎ (length digits % 2 ≡ 1)
    → octets_in_text text ≡ Err (BadText (4 + digits_in_front digits))
unfolding octets_in_text
form_refused text digits is same bad = rw (agrees text same, is) (not_digits digits bad)

-- a text of digits in pairs has the form
pub form_told : {X : Type 0} (text digits : List ℕ) (result : Result X IorFault) → drop 4 text ≡ digits → 4 ≤ agreeing prefix text → length digits ≤ digits_in_front digits → (length digits % 2 ≡ 1 → ⊥)
    → TellsForm text result
unfolding octets_in_text
form_told text digits result is same full even =
    let all = in_front_all digits (omega (arith, full, length-prefix_len is_ascii_hexdigit digits)) in
    let decoded = decode_of-digits digits (omega (arith, even)) all in
    rw (agrees text same, is, decoded.1) tt
