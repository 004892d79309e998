-- How names and numbers are put into a row.
use Rattle.std.proofs.Common.{◌≡◌, ℕ, ◌+◌, ◌/◌, ◌%◌, ◌^◌, ◌<◌, ◌≤◌, List, [], ◌∷◌, ◌++◌, length, take, drop, ap, sym, refl, ◌∙◌, append_assoc, append-nil, arith}
use Rattle.std.proofs.Math.Seq.{take-append_seam}
use Rattle.std.proofs.lemmas.List.{length-append, take-append-drop}
use Rattle.std.proofs.lemmas.Fmt.{decimal_digit, decimal_step}
use Rattle.std.specs.Fmt.{decimal}
use Rattle.ots_model.specs.Rows.{Puts, digit_of, last_two, last_three}
use Rattle.ots_model.proofs.PieceLemmas.{kept_in_front}

-- of a name with zeros behind it the name is kept
pub name_kept : (row name zeros padded : List ℕ) (end : ℕ) → padded ≡ name ++ zeros → end ≡ length row + length name
    → take end (row ++ padded) ≡ row ++ name
name_kept row name zeros padded end whole e =
    ap (λ (n : ℕ). take n (row ++ padded)) (e ∙ sym (length-append row name))
    ∙ ap (λ (all : List ℕ). take (length (row ++ name)) all)
    (ap (λ (octets : List ℕ). row ++ octets) whole ∙ sym (append_assoc row name zeros))
    ∙ take-append_seam (row ++ name) zeros

-- the digits of a number below 10
pub one_digit : (n : ℕ) → n < 10 → decimal n ≡ digit_of n ∷ []
one_digit n low =
    let same : n % 10 ≡ n = omega arith in
    decimal_digit n low ∙ ap (λ (d : ℕ). (48 + d) ∷ []) (sym same)

-- of one that is not, below 100
pub two_digits : (n : ℕ) → 10 ≤ n → n < 100 → decimal n ≡ last_two n
two_digits n high low =
    let fits : n < 2 ^ 64 = omega arith in
    let tens : n / 10 < 10 = omega arith in
    rw (decimal_step n high fits, one_digit (n / 10) tens) refl

-- of one that is not, below 1,000
pub three_digits : (n : ℕ) → 100 ≤ n → n < 1000 → decimal n ≡ last_three n
three_digits n high low =
    let fits : n < 2 ^ 64 = omega arith in
    let tens : 10 ≤ n / 10 = omega arith in
    let few : n / 10 < 100 = omega arith in
    let two : 10 ≤ n = omega arith in
    let same : n / 10 / 10 ≡ n / 100 = omega arith in
    rw (decimal_step n two fits, two_digits (n / 10) tens few, same) refl

-- of one that is not
pub more_digits : (n : ℕ) → 1000 ≤ n → n < 2 ^ 64 → decimal n ≡ decimal (n / 1000) ++ last_three n
more_digits n high fits =
    let two : 10 ≤ n = omega arith in
    let tens : 10 ≤ n / 10 = omega arith in
    let hundreds : 10 ≤ n / 10 / 10 = omega arith in
    let fits_tens : n / 10 < 2 ^ 64 = omega arith in
    let fits_hundreds : n / 10 / 10 < 2 ^ 64 = omega arith in
    let same : n / 10 / 10 ≡ n / 100 = omega arith in
    let same_front : n / 10 / 10 / 10 ≡ n / 1000 = omega arith in
    rw (
      decimal_step n two fits,
      decimal_step (n / 10) tens fits_tens,
      decimal_step (n / 10 / 10) hundreds fits_hundreds,
      same_front,
      same,
    )
    (append_assoc (decimal (n / 1000) ++ digit_of (n / 100) ∷ []) (digit_of (n / 10) ∷ []) (digit_of n ∷ [])
    ∙ append_assoc (decimal (n / 1000)) (digit_of (n / 100) ∷ []) (last_two n))

-- what stands in front of a text stands in front of what the text stands in front of
pub front_trans : (a b c : List ℕ) → take (length a) b ≡ a → take (length b) c ≡ b → take (length a) c ≡ a
front_trans a b c one two =
    kept_in_front a b (drop (length a) b) c
    (sym (take-append-drop (length a) b) ∙ ap (λ (front : List ℕ). front ++ drop (length a) b) one) two

-- octets were put behind others
pub puts_then : (a p xs b q ys c r : List ℕ) → Puts a p xs b q → Puts b q ys c r → Puts a p (xs ++ ys) c r
puts_then a p xs b q ys c r one two = record {
  whole = two.whole ∙ ap (λ (front : List ℕ). front ++ ys) one.whole ∙ append_assoc (a ++ p) xs ys;
  front = front_trans a b c one.front two.front;
}

-- octets were put into room that was made
pub puts_into_room : (a p xs b q c r ys s all : List ℕ) → Puts a p xs b q → Puts b q [] c r → s ≡ r ++ ys → all ≡ xs ++ ys → Puts a p all c s
puts_into_room a p xs b q c r ys s all one two three is = record {
  whole = ap (λ (row : List ℕ). c ++ row) three
      ∙ sym (append_assoc c r ys)
      ∙ ap (λ (front : List ℕ). front ++ ys) (two.whole ∙ append-nil (b ++ q) ∙ one.whole)
      ∙ append_assoc (a ++ p) xs ys
      ∙ ap (λ (octets : List ℕ). (a ++ p) ++ octets) (sym is);
  front = front_trans a b c one.front two.front;
}

-- a line was put into an empty row, and written
pub line_written : (a p words b q c r d : List ℕ) → p ≡ [] → Puts a p words b q → Puts b q (10 ∷ []) c r → d ≡ c ++ r → d ≡ a ++ (words ++ 10 ∷ [])
line_written a p words b q c r d none one two three =
    three ∙ two.whole
    ∙ ap (λ (front : List ℕ). front ++ 10 ∷ [])
    (one.whole ∙ ap (λ (row : List ℕ). (a ++ row) ++ words) none ∙ ap (λ (front : List ℕ). front ++ words) (append-nil a))
    ∙ append_assoc a words (10 ∷ [])
