-- A name tells its otid: its words are parted at the dots.
use Rattle.std.proofs.Common.{◌≡◌, ℕ, suc, ◌<◌, ◌^◌, ◌/◌, ◌%◌, eqb, Bool, true, false, cond, List, [], ◌∷◌, ◌++◌, length, drop, refl, sym, ap, ◌∙◌, arith, inl, inr}
use Rattle.std.specs.Prelude.{slice_index, ℤ, pos, negsuc, Some, Ok}
use lib.Signed.{mag}
use Rattle.std.specs.List.{slice_split, All, AllByRecursion}
use Rattle.std.specs.Fmt.{decimal, signed_decimal}
use Rattle.std.specs.Str.Parse.{AllDigits}
use Rattle.std.proofs.lemmas.Fmt.{decimal_is_IsNumeral, decimal_injective, signed_decimal_injective}
use Rattle.std.proofs.lemmas.Str.Parse.{digit_from_value}
use Rattle.std.proofs.lemmas.Bool.{cases_eq}
use Rattle.std.proofs.lemmas.List.Elements.{All-from_recursion}
use Rattle.std.proofs.lemmas.List.Splits.{slice_split_none, slice_split_at}
use Rattle.byteorder.specs.Numbers.{big_from-lt}
use Rattle.hex.specs.Hex.{encode_with, encode_lower, lower_digits, hex_digit_value, decode_of}
use Rattle.hex.proofs.HexLemmas.{IsDigits-lower_digits, decode_of-encode_lower}
use Rattle.otid_names.specs.Otid.{OtidParts, IsOtid}
use Rattle.otid_names.specs.Own.{is_own, IsOwn, numbers_in}
use Rattle.otid_names.specs.Name.{own_words, foreign_words, dotted}
use Rattle.otid_names.specs.Laws.{AreNumbers, SameNameSameTid}
use Rattle.otid_names.proofs.Tids.{octets_of_drop, same_numbers_of, same_numbers}
use Rattle.otid_names.specs.declared.otid.OwnNumbers.{OwnNumbers}

abbrev pub is_dot : ℕ → Bool
is_dot b = eqb b 46

-- a word without a dot
abbrev pub HasNoDot : List ℕ → Type 0
HasNoDot word = All (λ b. is_dot b ≡ false) word

abbrev LacksDots : List ℕ → Type 0
LacksDots word = AllByRecursion (λ b. is_dot b ≡ false) word

other_octet : (b : ℕ) → (b ≡ 46 → ⊥) → is_dot b ≡ false
other_octet b h = grind (arith)

digits_lack_dots : (ds : List ℕ) → AllDigits 10 ds → LacksDots ds
digits_lack_dots [] h = tt
digits_lack_dots (d ∷ ds) h =
    let low = digit_from_value d h.0 in
    (other_octet d (λ e. omega arith), digits_lack_dots ds h.1)

decimal_lacks_dots : (n : ℕ) → n < 2 ^ 64 → LacksDots (decimal n)
decimal_lacks_dots n h = digits_lack_dots (decimal n) (decimal_is_IsNumeral n h).0.1

no_dot : (word : List ℕ) → LacksDots word → HasNoDot word
no_dot word h = All-from_recursion (λ b. is_dot b ≡ false) word h

signed_lacks_dots : (z : ℤ) → mag z < 2 ^ 63 → LacksDots (signed_decimal z)
signed_lacks_dots (pos n) h = decimal_lacks_dots n (omega arith)
signed_lacks_dots (negsuc n) h = (refl, decimal_lacks_dots (suc n) (omega arith))

hex_digit_is_no_dot : (d : ℕ) → d < 16 → is_dot (slice_index lower_digits d) ≡ false
hex_digit_is_no_dot d h =
    let value = IsDigits-lower_digits d h in
    elim (cases_eq (slice_index lower_digits d) 46) [
      | inl e ↦ let nothing : hex_digit_value 46 ≡ Some d = sym (ap hex_digit_value e) ∙ value in cc
      | inr ne ↦ other_octet (slice_index lower_digits d) ne
    ]

hex_lacks_dots : (xs : List ℕ) → ((i : ℕ) → slice_index xs i < 256) → LacksDots (encode_lower xs)
unfolding encode_with
hex_lacks_dots [] h = tt
hex_lacks_dots (x ∷ xs) h =
    let octet : x < 256 = h 0 in (
      hex_digit_is_no_dot (x / 16) (omega arith),
      (hex_digit_is_no_dot (x % 16) (omega arith), hex_lacks_dots xs (λ i. h (suc i))),
    )

-- a word is parted from what stands behind its dot
parted : (word rest : List ℕ) → LacksDots word → slice_split is_dot (word ++ 46 ∷ rest) ≡ word ∷ slice_split is_dot rest
parted word rest h = slice_split_at is_dot word 46 rest (no_dot word h) refl

own_parted : (n : OwnNumbers) → AreNumbers n → slice_split is_dot (dotted (own_words n)) ≡ own_words n
own_parted n h =
    let s = decimal n.service in
    let l = decimal n.life in
    let g = decimal n.generation in
    let b = decimal n.branch in
    parted s (l ++ (46 ∷ (g ++ 46 ∷ b))) (decimal_lacks_dots n.service h.service)
    ∙ ap (λ (ws : List (List ℕ)). s ∷ ws) (
    parted l (g ++ 46 ∷ b) (decimal_lacks_dots n.life (omega (arith, h.life)))
    ∙ ap (λ (ws : List (List ℕ)). l ∷ ws) (
    parted g b (decimal_lacks_dots n.generation h.generation)
    ∙ ap (λ (ws : List (List ℕ)). g ∷ ws) (slice_split_none is_dot b (no_dot b (decimal_lacks_dots n.branch (omega (arith, h.branch)))))
    )
    )

foreign_parted : (o : OtidParts) → IsOtid o → slice_split is_dot (dotted (foreign_words o)) ≡ foreign_words o
foreign_parted o is =
    parted (signed_decimal o.format) (encode_lower o.tid) (signed_lacks_dots o.format (omega (arith, is.format.sfits)))
    ∙ ap (λ (ws : List (List ℕ)). signed_decimal o.format ∷ ws) (slice_split_none is_dot (encode_lower o.tid) (no_dot (encode_lower o.tid) (hex_lacks_dots o.tid is.octets)))

-- the numbers of an otid fit
numbers_fit : (o : OtidParts) → IsOtid o → AreNumbers (numbers_in o.tid)
numbers_fit o is = record {
  service = omega (arith, big_from-lt 0 8 o.tid is.octets);
  life = omega (arith, big_from-lt 0 4 (drop 8 o.tid) (octets_of_drop 8 o.tid is.octets));
  generation = omega (arith, big_from-lt 0 8 (drop 12 o.tid) (octets_of_drop 12 o.tid is.octets));
  branch = omega (arith, big_from-lt 0 4 (drop 20 o.tid) (octets_of_drop 20 o.tid is.octets));
}

-- four words tell their numbers
words_tell : (m n : OwnNumbers) → AreNumbers m → AreNumbers n → own_words m ≡ own_words n → m ≡ n
words_tell m n hm hn e =
    let s : decimal m.service ≡ decimal n.service = cc in
    let l : decimal m.life ≡ decimal n.life = cc in
    let g : decimal m.generation ≡ decimal n.generation = cc in
    let b : decimal m.branch ≡ decimal n.branch = cc in
    same_numbers_of m n
    (decimal_injective m.service n.service hm.service hn.service s)
    (decimal_injective m.life n.life (omega (arith, hm.life)) (omega (arith, hn.life)) l)
    (decimal_injective m.generation n.generation hm.generation hn.generation g)
    (decimal_injective m.branch n.branch (omega (arith, hm.branch)) (omega (arith, hn.branch)) b)

both_own : (a b : OtidParts) → IsOtid a → IsOtid b → IsOwn a → IsOwn b → dotted (own_words (numbers_in a.tid)) ≡ dotted (own_words (numbers_in b.tid)) → a ≡ b
both_own a b ia ib oa ob e =
    same_numbers a b ia ib oa ob
    (words_tell (numbers_in a.tid) (numbers_in b.tid) (numbers_fit a ia) (numbers_fit b ib)
    (sym (own_parted (numbers_in a.tid) (numbers_fit a ia)) ∙ ap (slice_split is_dot) e ∙ own_parted (numbers_in b.tid) (numbers_fit b ib)))

both_foreign : (a b : OtidParts) → IsOtid a → IsOtid b → dotted (foreign_words a) ≡ dotted (foreign_words b) → (a.format ≡ b.format) × (a.tid ≡ b.tid)
both_foreign a b ia ib e =
    let words : foreign_words a ≡ foreign_words b =
    sym (foreign_parted a ia) ∙ ap (slice_split is_dot) e ∙ foreign_parted b ib in
    let formats : signed_decimal a.format ≡ signed_decimal b.format = cc in
    let digits : encode_lower a.tid ≡ encode_lower b.tid = cc in
    let tids : Ok a.tid ≡ Ok b.tid = sym (decode_of-encode_lower a.tid ia.octets) ∙ ap decode_of digits ∙ decode_of-encode_lower b.tid ib.octets in (
      signed_decimal_injective a.format b.format (omega (arith, ia.format.sfits)) (omega (arith, ib.format.sfits)) formats,
      (cc),
    )

-- a name of ours has more words than a foreign one
one_of_each : (n : OwnNumbers) (o : OtidParts) → AreNumbers n → IsOtid o → dotted (own_words n) ≡ dotted (foreign_words o) → ⊥
one_of_each n o h is e =
    let words : own_words n ≡ foreign_words o = sym (own_parted n h) ∙ ap (slice_split is_dot) e ∙ foreign_parted o is in
    omega (arith, ap length words)

-- by whether each is our own
told : (p q : Bool) (a b : OtidParts) → IsOtid a → IsOtid b → is_own a ≡ p → is_own b ≡ q
    → dotted (cond p (own_words (numbers_in a.tid)) (foreign_words a)) ≡ dotted (cond q (own_words (numbers_in b.tid)) (foreign_words b))
    → (a.format ≡ b.format) × (a.tid ≡ b.tid) × (is_own a ≡ is_own b)
told true true a b ia ib p q e =
    let same = both_own a b ia ib p q e in
    (ap (λ (o : OtidParts). o.format) same, ap (λ (o : OtidParts). o.tid) same, p ∙ sym q)
told true false a b ia ib p q e = absurd (one_of_each (numbers_in a.tid) b (numbers_fit a ia) ib e)
told false true a b ia ib p q e = absurd (one_of_each (numbers_in b.tid) a (numbers_fit b ib) ia (sym e))
told false false a b ia ib p q e =
    let same = both_foreign a b ia ib e in (same.0, same.1, p ∙ sym q)

pub same_name : SameNameSameTid
same_name a b ia ib e = told (is_own a) (is_own b) a b ia ib refl refl e
