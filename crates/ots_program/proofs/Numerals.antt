-- The numbers that digits write.
use Rattle.std.proofs.Common.{◌≡◌, ℕ, ◌+◌, ◌-◌, ◌<◌, ◌≤◌, ◌^◌, ◌*◌, true, false, List, length, get_or, take, Some, None, arith, refl}
use Rattle.std.specs.Prelude.{◌&&◌, nat_lt, if◌then◌else◌}
use Rattle.std.specs.Char.{digit_value}
use Rattle.std.specs.List.{list_all}
use Rattle.std.specs.Str.Parse.{digits_value}
use Rattle.std.proofs.lemmas.Bool.Decides.{nat_tests}
use Rattle.std.proofs.lemmas.Int.Digits.{digits_value_more}
use Rattle.std.proofs.lemmas.List.Folds.{list_all_more}
use Rattle.std.proofs.lemmas.Str.Parse.{digits_value-take-le}
use Rattle.ots_model.specs.Name.{is_digit}

digit_value_is : (b : ℕ) → is_digit b ≡ true → digit_value b ≡ b - 48
digit_value_is b h = grind (arith, nat_tests)

-- one more digit
pub digits_value_next : (digits : List ℕ) (i b : ℕ) → i < length digits → b ≡ get_or digits i 0 → is_digit b ≡ true
    → digits_value 10 (take (i + 1) digits) ≡ digits_value 10 (take i digits) * 10 + (b - 48)
digits_value_next digits i b below here digit =
    let more = digits_value_more 10 digits i below in
    let value = digit_value_is b digit in
    cc

pub all_digits_next : (digits : List ℕ) (i b : ℕ) → i < length digits → b ≡ get_or digits i 0 → is_digit b ≡ true
    → list_all is_digit (take i digits) ≡ true → list_all is_digit (take (i + 1) digits) ≡ true
all_digits_next digits i b below here digit before =
    rw (list_all_more is_digit digits i 0 below, before, ← here) digit

-- what some digits write is too large where what the first of them write is
pub too_large : (digits : List ℕ) (i b : ℕ) → i < length digits → b ≡ get_or digits i 0 → is_digit b ≡ true
    → 2 ^ 64 ≤ digits_value 10 (take i digits) * 10 + (b - 48)
    → None ≡ (if list_all is_digit digits && nat_lt (digits_value 10 digits) (2 ^ 64) then Some (digits_value 10 digits) else None)
too_large digits i b below here digit large =
    let next = digits_value_next digits i b below here digit in
    let most = digits_value-take-le 10 digits (i + 1) (omega arith) in
    let over : nat_lt (digits_value 10 digits) (2 ^ 64) ≡ false = grind (arith, nat_tests) in
    rw over (elim (list_all is_digit digits) as (λ all. None ≡ (if all && false then Some (digits_value 10 digits) else None)) [ true ↦ refl | false ↦ refl ])

-- all digits, and a number below 2 ^ 64
pub read_all : (digits : List ℕ) (value : ℕ) → list_all is_digit digits ≡ true → value ≡ digits_value 10 digits → value < 2 ^ 64
    → Some value ≡ (if list_all is_digit digits && nat_lt (digits_value 10 digits) (2 ^ 64) then Some (digits_value 10 digits) else None)
read_all digits value all same small =
    let under : nat_lt (digits_value 10 digits) (2 ^ 64) ≡ true = grind (arith, nat_tests) in
    rw (all, under, same)
