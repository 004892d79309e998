-- Plain words: they hold no space and no line feed, and a text of them is parted at those.
use Rattle.std.proofs.Common.{◌≡◌, ℕ, ◌<◌, ◌≤◌, Bool, true, false, List, [], ◌∷◌, length, refl, ap, ◌∙◌, arith, leb-true}
use Rattle.std.specs.Prelude.{◌&&◌, ◌||◌, nat_eq, nat_lt, nat_le}
use Rattle.std.specs.List.{join_with_byte, slice_split, list_all, All, AllByRecursion}
use Rattle.std.specs.Fmt.{decimal}
use Rattle.std.specs.Str.Parse.{AllDigits}
use Rattle.std.proofs.lemmas.Fmt.{decimal_is_IsNumeral}
use Rattle.std.proofs.lemmas.Str.Parse.{digit_from_value}
use Rattle.std.proofs.lemmas.List.Elements.{All-from_recursion, All-append, All-cons}
use Rattle.std.proofs.lemmas.List.Splits.{slice_split_none, slice_split_at}
use borrow.Author.Tests.{ltb-true}
use Rattle.ots_model.specs.Limits.{name_limit}
use Rattle.ots_model.specs.Name.{IsName, is_letter, is_digit, is_name_octet}
use Rattle.ots_model.specs.Piece.{IsNumber}

-- the octet is past the space and the line feed
abbrev pub IsPlainOctet : ℕ → Type 0
IsPlainOctet b = 32 < b

-- a word of such octets
abbrev pub IsPlain : List ℕ → Type 0
IsPlain word = AllByRecursion IsPlainOctet word

-- such words
abbrev pub ArePlain : List (List ℕ) → Type 0
ArePlain words = AllByRecursion IsPlain words

-- both of two tests that pass together
pub first_of_both : (a b : Bool) → (a && b) ≡ true → a ≡ true
first_of_both true b h = refl
first_of_both false b h = cc

pub last_of_both : (a b : Bool) → (a && b) ≡ true → b ≡ true
last_of_both true b h = h
last_of_both false b h = cc

either_of : {X : Type 0} (a b : Bool) → (a || b) ≡ true → (a ≡ true → X) → (b ≡ true → X) → X
either_of true b h f g = f refl
either_of false b h f g = g h

letter_is_plain : (b : ℕ) → is_letter b ≡ true → IsPlainOctet b
letter_is_plain b h = omega (arith, leb-true 97 b (first_of_both (nat_le 97 b) (nat_le b 122) h))

digit_is_plain : (b : ℕ) → is_digit b ≡ true → IsPlainOctet b
digit_is_plain b h = omega (arith, leb-true 48 b (first_of_both (nat_le 48 b) (nat_le b 57) h))

name_octets_are_plain : (bs : List ℕ) → list_all is_name_octet bs ≡ true → IsPlain bs
name_octets_are_plain [] h = tt
name_octets_are_plain (b ∷ bs) h = (
  either_of (is_letter b) (is_digit b) (first_of_both (is_name_octet b) (list_all is_name_octet bs) h) (letter_is_plain b) (digit_is_plain b),
  name_octets_are_plain bs (last_of_both (is_name_octet b) (list_all is_name_octet bs) h),
)

pub name_is_plain : (word : List ℕ) → IsName word → IsPlain word
name_is_plain [] h = cc
name_is_plain (b ∷ bs) h =
    let inner : (is_letter b && list_all is_name_octet bs) ≡ true = first_of_both (is_letter b && list_all is_name_octet bs) (nat_lt (length bs) name_limit) h in (
      letter_is_plain b (first_of_both (is_letter b) (list_all is_name_octet bs) inner),
      name_octets_are_plain bs (last_of_both (is_letter b) (list_all is_name_octet bs) inner),
    )

digits_are_plain : (ds : List ℕ) → AllDigits 10 ds → IsPlain ds
digits_are_plain [] h = tt
digits_are_plain (d ∷ ds) h = (omega (arith, digit_from_value d h.0), digits_are_plain ds h.1)

pub number_is_plain : (n : ℕ) → IsNumber n → IsPlain (decimal n)
number_is_plain n h = digits_are_plain (decimal n) (decimal_is_IsNumeral n h).0.1

-- a word whose octets pass the test
abbrev pub is_plain : List ℕ → Bool
is_plain word = list_all (nat_lt 32) word

pub fixed_is_plain : (word : List ℕ) → is_plain word ≡ true → IsPlain word
fixed_is_plain [] h = tt
fixed_is_plain (b ∷ word) h = (
  ltb-true 32 b (first_of_both (nat_lt 32 b) (is_plain word) h),
  fixed_is_plain word (last_of_both (nat_lt 32 b) (is_plain word) h),
)

-- the octet is such and no other
abbrev pub is_octet : ℕ → ℕ → Bool
is_octet c b = nat_eq b c

plain_octet_differs : (c b : ℕ) → c ≤ 32 → 32 < b → nat_eq b c ≡ false
plain_octet_differs c b low high = grind (arith)

lacks_in_turn : (c : ℕ) (word : List ℕ) → c ≤ 32 → IsPlain word → AllByRecursion (λ b. nat_eq b c ≡ false) word
lacks_in_turn c [] low h = tt
lacks_in_turn c (b ∷ word) low h = (plain_octet_differs c b low h.0, lacks_in_turn c word low h.1)

-- a plain word has no space and no line feed
pub lacks : (c : ℕ) (word : List ℕ) → c ≤ 32 → IsPlain word → All (λ b. is_octet c b ≡ false) word
lacks c word low h = All-from_recursion (λ b. is_octet c b ≡ false) word (lacks_in_turn c word low h)

-- words that were joined by spaces are parted at the spaces
pub parted : (words : List (List ℕ)) → 0 < length words → ArePlain words → slice_split (is_octet 32) (join_with_byte 32 words) ≡ words
parted [] some h = absurd (omega arith)
parted (w ∷ []) some h = slice_split_none (is_octet 32) w (lacks 32 w (omega arith) h.0)
parted (w ∷ v ∷ words) some h =
    slice_split_at (is_octet 32) w 32 (join_with_byte 32 (v ∷ words)) (lacks 32 w (omega arith) h.0) refl
    ∙ ap (λ (others : List (List ℕ)). w ∷ others) (parted (v ∷ words) (omega arith) h.1)

-- joined words have no line feed
pub joined_on_one_line : (words : List (List ℕ)) → ArePlain words → All (λ b. is_octet 10 b ≡ false) (join_with_byte 32 words)
joined_on_one_line [] h = All-from_recursion (λ b. is_octet 10 b ≡ false) [] tt
joined_on_one_line (w ∷ []) h = lacks 10 w (omega arith) h.0
joined_on_one_line (w ∷ v ∷ words) h =
    All-append (λ b. is_octet 10 b ≡ false) w (32 ∷ join_with_byte 32 (v ∷ words)) (lacks 10 w (omega arith) h.0)
    (All-cons (λ b. is_octet 10 b ≡ false) 32 (join_with_byte 32 (v ∷ words)) refl (joined_on_one_line (v ∷ words) h.1))
