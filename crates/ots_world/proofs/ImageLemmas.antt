-- Which words spell the octets of an image, and what wants memory.
use Rattle.std.proofs.Common.{◌≡◌, ℕ, ◌<◌, ◌≤◌, ◌/◌, ◌%◌, ◌⊎◌, inl, inr, Bool, true, false, List, [], ◌∷◌, length, Some, None, Result, Ok, Err, refl, sym, ap, ◌∙◌, arith}
use Rattle.std.specs.Prelude.{nat_le, ◌&&◌}
use Rattle.std.specs.Option.{is_some}
use Rattle.std.specs.Char.{is_ascii_hexdigit}
use Rattle.std.specs.List.{list_all}
use Rattle.std.proofs.lemmas.Bool.Decides.{nat_tests}
use Rattle.std.proofs.lemmas.List.Sums.{AllPass-from_list_all, list_all-from_AllPass}
use Rattle.hex.specs.Hex.{decode_of, is_hex_digit}
use Rattle.hex.specs.declared.error.FromHexError.{FromHexError}
use Rattle.hex.proofs.HexLemmas.{decode_of-digits, decode_of-ok}
use Rattle.ots_world.specs.Limits.{image_limit}
use Rattle.ots_world.specs.Script.{octets_of}

same_digit : (octet : ℕ) → is_hex_digit octet ≡ is_ascii_hexdigit octet
same_digit octet = grind arith

same_digits : (word : List ℕ) → list_all is_hex_digit word ≡ list_all is_ascii_hexdigit word
same_digits [] = refl
same_digits (octet ∷ others) = ap (λ b. b && list_all is_hex_digit others) (same_digit octet) ∙ ap (λ b. is_ascii_hexdigit octet && b) (same_digits others)

-- octets that are not too many, and one at least
within : (octets : List ℕ) → 1 ≤ length octets → length octets ≤ image_limit → octets_of (Ok octets) ≡ Some octets
within octets low high =
    let l : nat_le 1 (length octets) ≡ true = grind (arith, nat_tests) in
    let h : nat_le (length octets) image_limit ≡ true = grind (arith, nat_tests) in
    rw (l, h) refl

outside : (octets : List ℕ) → (length octets < 1) ⊎ (image_limit < length octets) → octets_of (Ok octets) ≡ None
outside octets (inl few) =
    let l : nat_le 1 (length octets) ≡ false = grind (arith, nat_tests) in
    rw l refl
outside octets (inr many) =
    let l : nat_le 1 (length octets) ≡ true = grind (arith, nat_tests) in
    let h : nat_le (length octets) image_limit ≡ false = grind (arith, nat_tests) in
    rw (l, h) refl

-- digits of octets that are not too many, and of one at least
pub digits_tell : (word : List ℕ) → length word % 2 ≡ 0 → 1 ≤ length word / 2 → length word / 2 ≤ image_limit
    → list_all is_ascii_hexdigit word ≡ is_some (octets_of (decode_of word))
digits_tell word even low high = by (list_all is_hex_digit word) (decode_of word) refl refl
  where
    by : (all : Bool) (octets : Result (List ℕ) FromHexError) → list_all is_hex_digit word ≡ all → decode_of word ≡ octets
        → list_all is_ascii_hexdigit word ≡ is_some (octets_of octets)
    by all (Ok octets) digits is =
        let read = decode_of-ok word octets is in
        sym (same_digits word) ∙ list_all-from_AllPass is_hex_digit word read.1
        ∙ ap is_some (sym (within octets (omega (arith, read.2, low)) (omega (arith, read.2, high))))
    by true (Err fault) digits is =
        let read = decode_of-digits word even (AllPass-from_list_all is_hex_digit word digits) in
        cc (sym is ∙ read.1)
    by false (Err fault) digits is = sym (same_digits word) ∙ digits

-- a word of another length
pub others_tell : (word : List ℕ) → (length word % 2 ≡ 1) ⊎ (length word / 2 < 1) ⊎ (image_limit < length word / 2)
    → false ≡ is_some (octets_of (decode_of word))
others_tell word h = by (decode_of word) refl h
  where
    by : (octets : Result (List ℕ) FromHexError) → decode_of word ≡ octets
        → (length word % 2 ≡ 1) ⊎ (length word / 2 < 1) ⊎ (image_limit < length word / 2) → false ≡ is_some (octets_of octets)
    by (Ok octets) is (inl odd) = absurd (omega (arith, odd, (decode_of-ok word octets is).0))
    by (Ok octets) is (inr (inl few)) = ap is_some (sym (outside octets (inl (omega (arith, few, (decode_of-ok word octets is).2)))))
    by (Ok octets) is (inr (inr many)) = ap is_some (sym (outside octets (inr (omega (arith, many, (decode_of-ok word octets is).2)))))
    by (Err fault) is other = refl
