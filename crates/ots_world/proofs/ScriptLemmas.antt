-- The words of a line, and the numbers that its digits write.
use Rattle.std.proofs.Common.{◌≡◌, ℕ, ◌+◌, ◌-◌, ◌<◌, ◌≤◌, ◌^◌, ◌*◌, Bool, true, false, List, [], ◌∷◌, length, get_or, take, drop, Bor, Option, Some, None, arith, refl}
use Rattle.std.specs.Prelude.{◌==◌, ◌&&◌, nat_lt, if◌then◌else◌}
use Rattle.std.specs.Char.{digit_value}
use Rattle.std.specs.List.{list_all, position, position_or_len}
use Rattle.std.specs.Option.{is_some, option_map_or}
use Rattle.std.specs.Str.Parse.{digits_value}
use Rattle.std.proofs.lemmas.Bool.Decides.{nat_tests}
use Rattle.std.proofs.lemmas.Grind.{common_steps}
use Rattle.std.proofs.lemmas.Int.Digits.{digits_value_more}
use Rattle.std.proofs.lemmas.List.Elements.{All-from_get_or}
use Rattle.std.proofs.lemmas.List.Folds.{list_all_more}
use Rattle.std.proofs.lemmas.List.Splits.{length-slice_split, slice_split_first, slice_split_none}
use Rattle.std.proofs.lemmas.List.Sums.{fails_before_first}
use Rattle.std.proofs.lemmas.Option.{cond_some}
use Rattle.std.proofs.lemmas.Str.Parse.{digits_value-take-le}
use Rattle.ots_model.specs.Name.{is_digit}
use Rattle.ots_world.specs.Script.{event_of, words}

abbrev is_space : ℕ → Bool
is_space b = b == 32

-- a line with a space is its first word, and the words behind that space
pub words_at_space : (text : List ℕ) (at : ℕ) → position is_space text ≡ Some at
    → words text ≡ take at text ∷ words (take (length text - (at + 1)) (drop (at + 1) text))
words_at_space text at h =
    let first = position_or_len is_space text in
    let found : (nat_lt first (length text) ≡ true) × (first ≡ at) = cond_some (nat_lt first (length text)) first at h in
    let within : first < length text = grind (arith, nat_tests) in
    let split : words text ≡ take first text ∷ words (drop (first + 1) text) = slice_split_first is_space text 0 within in
    grind (arith, common_steps)

-- a line without one is a single word
pub words_without_space : (text : List ℕ) → position is_space text ≡ None → words text ≡ text ∷ []
words_without_space text h = slice_split_none is_space text
    (All-from_get_or (λ b. is_space b ≡ false) text 0 (λ k below. fails_before_first is_space text k 0 (grind (arith, nat_tests))))

digit_value_is : (b : ℕ) → is_digit b ≡ true → digit_value b ≡ b - 48
digit_value_is b h = grind (arith, nat_tests)

-- one more digit
pub digits_value_next : (digits : List ℕ) (i b : ℕ) → i < length digits → b ≡ get_or digits i 0 → is_digit b ≡ true
    → digits_value 10 (take (i + 1) digits) ≡ digits_value 10 (take i digits) * 10 + (b - 48)
digits_value_next digits i b below here digit =
    let more = digits_value_more 10 digits i below in
    let value = digit_value_is b digit in
    cc

pub all_digits_next : (digits : List ℕ) (i b : ℕ) → i < length digits → b ≡ get_or digits i 0 → is_digit b ≡ true
    → list_all is_digit (take i digits) ≡ true → list_all is_digit (take (i + 1) digits) ≡ true
all_digits_next digits i b below here digit before =
    rw (list_all_more is_digit digits i 0 below, before, ← here) digit

-- what some digits write is too large where what the first of them write is
pub too_large : (digits : List ℕ) (i b : ℕ) → i < length digits → b ≡ get_or digits i 0 → is_digit b ≡ true
    → 2 ^ 64 ≤ digits_value 10 (take i digits) * 10 + (b - 48)
    → None ≡ (if list_all is_digit digits && nat_lt (digits_value 10 digits) (2 ^ 64) then Some (digits_value 10 digits) else None)
too_large digits i b below here digit large =
    let next = digits_value_next digits i b below here digit in
    let most = digits_value-take-le 10 digits (i + 1) (omega arith) in
    let over : nat_lt (digits_value 10 digits) (2 ^ 64) ≡ false = grind (arith, nat_tests) in
    rw over (elim (list_all is_digit digits) as (λ all. None ≡ (if all && false then Some (digits_value 10 digits) else None)) [ true ↦ refl | false ↦ refl ])

-- all digits, and a number below 2 ^ 64
pub read_all : (digits : List ℕ) (value : ℕ) → list_all is_digit digits ≡ true → value ≡ digits_value 10 digits → value < 2 ^ 64
    → Some value ≡ (if list_all is_digit digits && nat_lt (digits_value 10 digits) (2 ^ 64) then Some (digits_value 10 digits) else None)
read_all digits value all same small =
    let under : nat_lt (digits_value 10 digits) (2 ^ 64) ≡ true = grind (arith, nat_tests) in
    rw (all, under, same)

-- a line of five words or more says nothing
longer : (word a b c : List ℕ) (more : List (List ℕ)) → 0 < length more → event_of (word ∷ a ∷ b ∷ c ∷ more) ≡ None
longer word a b c [] h = absurd (omega arith)
longer word a b c (d ∷ ds) h = refl

pub five_words : (word a b c : List ℕ) (rest : Option (Bor (List ℕ))) → is_some rest ≡ true
    → event_of (word ∷ a ∷ b ∷ c ∷ option_map_or (λ text. words text.now) rest []) ≡ None
five_words word a b c None h = cc
five_words word a b c (Some text) h = longer word a b c (words text.now) (omega (arith, length-slice_split is_space text.now))
