-- The digits of numbers: they are plain, and tell the number, where they aren't too many.
use Rattle.std.proofs.Common.{◌≡◌, ℕ, zero, suc, ◌+◌, ◌/◌, ◌%◌, ◌^◌, ◌<◌, ◌≤◌, Bool, true, false, cond, List, [], ◌∷◌, length, refl, sym, ap, subst, ◌∙◌, arith}
use Rattle.std.specs.Prelude.{nat_eq, nat_lt}
use Rattle.std.specs.Fmt.{decimal, digits, digits_onto, digit_glyph}
use Rattle.std.specs.Str.Parse.{digits_value}
use Rattle.std.proofs.lemmas.Fmt.{decimal_is_IsNumeral_wide, length-decimal-le}
use native.Mathlib.Nat.{pow-suc, one-le-pow}
use borrow.Author.Tests.{ltb-true, ltb-false, eqb-true}
use Rattle.ots_model.specs.Piece.{IsNumber}
use Rattle.nodes_told.specs.Reading.{IsPlain, IsPlainOctet}

pub high_is_plain : (b : ℕ) → 32 < b → IsPlainOctet b
high_is_plain b high = (λ e. omega (arith, e, high), λ e. omega (arith, e, high))

glyph_is_high : (few : Bool) (d : ℕ) → 32 < cond few (48 + d) (87 + d)
glyph_is_high true d = omega arith
glyph_is_high false d = omega arith

digits_are_plain : (k n : ℕ) (behind : List ℕ) → IsPlain behind → IsPlain (digits_onto k 10 false n behind)
digits_are_plain zero n behind h = h
digits_are_plain (suc k) n behind h = by (nat_eq (n / 10) 0) (digits_are_plain k (n / 10) (digit_glyph false (n % 10) ∷ behind))
  where
    More : Type 0
    More = IsPlain (digit_glyph false (n % 10) ∷ behind) → IsPlain (digits_onto k 10 false (n / 10) (digit_glyph false (n % 10) ∷ behind))

    digit : IsPlainOctet (digit_glyph false (n % 10))
    digit = high_is_plain (digit_glyph false (n % 10)) (glyph_is_high (nat_lt (n % 10) 10) (n % 10))

    by : (last : Bool) → More
        → IsPlain (cond last (digit_glyph false (n % 10) ∷ behind) (digits_onto k 10 false (n / 10) (digit_glyph false (n % 10) ∷ behind)))
    by true more = (digit, h)
    by false more = more (digit, h)

digits_onto_nothing : (n : ℕ) → digits_onto 64 10 false n [] ≡ decimal n
unfolding digits
digits_onto_nothing n = refl

pub number_is_plain : (n : ℕ) → IsPlain (decimal n)
number_is_plain n = subst IsPlain (digits_onto_nothing n) (digits_are_plain 64 n [] tt)

-- a number below the limit has few digits
number_is_short : (n : ℕ) → IsNumber n → length (decimal n) < 64
number_is_short n h = omega (arith, length-decimal-le 20 n (omega arith) (omega arith) h)

-- and one that has few is below this
digits_are_many : (k n : ℕ) (behind : List ℕ) → 10 ^ k ≤ n → k + length behind ≤ length (digits_onto k 10 false n behind)
digits_are_many zero n behind h = omega arith
digits_are_many (suc k) n behind h = by (nat_eq (n / 10) 0) refl (digits_are_many k (n / 10) (digit_glyph false (n % 10) ∷ behind))
  where
    More : Type 0
    More = 10 ^ k ≤ n / 10 → k + suc (length behind) ≤ length (digits_onto k 10 false (n / 10) (digit_glyph false (n % 10) ∷ behind))

    large : 10 ^ k ≤ n / 10
    large = omega (arith, pow-suc 10 k)

    by : (last : Bool) → nat_eq (n / 10) 0 ≡ last → More → suc k + length behind
        ≤ length (cond last (digit_glyph false (n % 10) ∷ behind) (digits_onto k 10 false (n / 10) (digit_glyph false (n % 10) ∷ behind)))
    by true is more = absurd (omega (arith, large, eqb-true (n / 10) 0 is, one-le-pow k 10 (omega arith)))
    by false is more = omega (arith, more large)

few_digits : (n : ℕ) → length (decimal n) < 64 → n < 10 ^ 64
few_digits n short = by (nat_lt n (10 ^ 64)) refl
  where
    by : (t : Bool) → nat_lt n (10 ^ 64) ≡ t → n < 10 ^ 64
    by true is = ltb-true n (10 ^ 64) is
    by false is =
        absurd (omega (arith, short, subst (λ ds. 64 + 0 ≤ length ds) (digits_onto_nothing n) (digits_are_many 64 n [] (ltb-false n (10 ^ 64) is))))

-- a number that is written as one below the limit is that one
pub same_number : (m n : ℕ) → IsNumber n → decimal m ≡ decimal n → m ≡ n
same_number m n is same =
    let short = number_is_short n is in
    sym (decimal_is_IsNumeral_wide m (few_digits m (subst (λ ds. length ds < 64) (sym same) short))).1
    ∙ ap (λ ds. digits_value 10 ds) same
    ∙ (decimal_is_IsNumeral_wide n (few_digits n short)).1
