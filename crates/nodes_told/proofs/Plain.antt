-- Plain words: they hold no space and no line feed, and a text of them is parted at those.
use Rattle.std.proofs.Common.{◌≡◌, ◌≢◌, ℕ, ◌<◌, ◌≤◌, Bool, true, false, List, [], ◌∷◌, ◌++◌, length, take, refl, sym, ap, subst, ◌∙◌, append_assoc, arith, leb-true}
use Rattle.std.specs.Prelude.{◌&&◌, ◌||◌, nat_eq, nat_lt, nat_le}
use Rattle.std.specs.List.{join_with_byte, slice_split, list_all, flat_map, All, AllByRecursion}
use Rattle.std.proofs.lemmas.Bool.{and_parts}
use Rattle.std.proofs.lemmas.List.{append_cancel_left, length-append, take-append-le}
use Rattle.std.proofs.lemmas.List.Elements.{All-from_recursion, All-append, All-cons, All-take, All-weaker}
use Rattle.std.proofs.lemmas.List.Splits.{slice_split_none, slice_split_at, length-slice_split}
use borrow.Author.Tests.{ltb-true}
use Rattle.ots_model.specs.LineLaws.{HasNoLineFeed}
use Rattle.ots_model.specs.Limits.{name_limit}
use Rattle.ots_model.specs.Name.{IsName, is_letter, is_digit, is_name_octet}
use Rattle.nodes_told.specs.Reading.{IsPlain, IsPlainOctet}
use Rattle.nodes_told.proofs.Numbers.{high_is_plain}

-- ---- words that are plain

either_of : {X : Type 0} (a b : Bool) → (a || b) ≡ true → (a ≡ true → X) → (b ≡ true → X) → X
either_of true b h f g = f refl
either_of false b h f g = g h

-- a word whose octets pass the test
abbrev pub is_plain : List ℕ → Bool
is_plain word = list_all (nat_lt 32) word

pub fixed_is_plain : (word : List ℕ) → is_plain word ≡ true → IsPlain word
fixed_is_plain [] h = tt
fixed_is_plain (b ∷ word) h = (
  high_is_plain b (ltb-true 32 b (and_parts (nat_lt 32 b) (is_plain word) h).0),
  fixed_is_plain word (and_parts (nat_lt 32 b) (is_plain word) h).1,
)

letter_is_plain : (b : ℕ) → is_letter b ≡ true → IsPlainOctet b
letter_is_plain b h = high_is_plain b (omega (arith, leb-true 97 b (and_parts (nat_le 97 b) (nat_le b 122) h).0))

digit_is_plain : (b : ℕ) → is_digit b ≡ true → IsPlainOctet b
digit_is_plain b h = high_is_plain b (omega (arith, leb-true 48 b (and_parts (nat_le 48 b) (nat_le b 57) h).0))

name_octets_are_plain : (bs : List ℕ) → list_all is_name_octet bs ≡ true → IsPlain bs
name_octets_are_plain [] h = tt
name_octets_are_plain (b ∷ bs) h = (
  either_of (is_letter b) (is_digit b) (and_parts (is_name_octet b) (list_all is_name_octet bs) h).0 (letter_is_plain b) (digit_is_plain b),
  name_octets_are_plain bs (and_parts (is_name_octet b) (list_all is_name_octet bs) h).1,
)

pub name_is_plain : (word : List ℕ) → IsName word → IsPlain word
name_is_plain [] h = cc
name_is_plain (b ∷ bs) h =
    let inner : (is_letter b && list_all is_name_octet bs) ≡ true = (and_parts (is_letter b && list_all is_name_octet bs) (nat_lt (length bs) name_limit) h).0 in (
      letter_is_plain b (and_parts (is_letter b) (list_all is_name_octet bs) inner).0,
      name_octets_are_plain bs (and_parts (is_letter b) (list_all is_name_octet bs) inner).1,
    )

-- ---- lines of such words

-- the octet is such and no other
abbrev is_octet : ℕ → ℕ → Bool
is_octet c b = nat_eq b c

octet_differs : (b c : ℕ) → b ≢ c → nat_eq b c ≡ false
octet_differs b c h = grind (arith)

spaces_in_turn : (word : List ℕ) → IsPlain word → AllByRecursion (λ b. nat_eq b 32 ≡ false) word
spaces_in_turn [] h = tt
spaces_in_turn (b ∷ word) h = (octet_differs b 32 h.0.0, spaces_in_turn word h.1)

feeds_in_turn : (word : List ℕ) → IsPlain word → AllByRecursion (λ b. nat_eq b 10 ≡ false) word
feeds_in_turn [] h = tt
feeds_in_turn (b ∷ word) h = (octet_differs b 10 h.0.1, feeds_in_turn word h.1)

-- a plain word has no space and no line feed
no_space : (word : List ℕ) → IsPlain word → All (λ b. is_octet 32 b ≡ false) word
no_space word h = All-from_recursion (λ b. is_octet 32 b ≡ false) word (spaces_in_turn word h)

no_feed : (word : List ℕ) → IsPlain word → All (λ b. is_octet 10 b ≡ false) word
no_feed word h = All-from_recursion (λ b. is_octet 10 b ≡ false) word (feeds_in_turn word h)

-- words of which a line can be made: there is one, and each is plain
pub record CanBeLine (words : List (List ℕ)) : Type 0 where
  pub one : 0 < length words
  pub plain : AllByRecursion IsPlain words

-- words that were joined by spaces are parted at the spaces
parted : (words : List (List ℕ)) → 0 < length words → AllByRecursion IsPlain words → slice_split (is_octet 32) (join_with_byte 32 words) ≡ words
parted [] some h = absurd (omega arith)
parted (w ∷ []) some h = slice_split_none (is_octet 32) w (no_space w h.0)
parted (w ∷ v ∷ words) some h =
    slice_split_at (is_octet 32) w 32 (join_with_byte 32 (v ∷ words)) (no_space w h.0) refl
    ∙ ap (λ (others : List (List ℕ)). w ∷ others) (parted (v ∷ words) (omega arith) h.1)

-- joined words have no line feed
on_one_line : (words : List (List ℕ)) → AllByRecursion IsPlain words → All (λ b. is_octet 10 b ≡ false) (join_with_byte 32 words)
on_one_line [] h = All-from_recursion (λ b. is_octet 10 b ≡ false) [] tt
on_one_line (w ∷ []) h = no_feed w h.0
on_one_line (w ∷ v ∷ words) h =
    All-append (λ b. is_octet 10 b ≡ false) w (32 ∷ join_with_byte 32 (v ∷ words)) (no_feed w h.0)
    (All-cons (λ b. is_octet 10 b ≡ false) 32 (join_with_byte 32 (v ∷ words)) refl (on_one_line (v ∷ words) h.1))

-- words as a line, without its line feed and with it
abbrev body : List (List ℕ) → List ℕ
body words = join_with_byte 32 words

abbrev pub line : List (List ℕ) → List ℕ
line words = body words ++ 10 ∷ []

abbrev pub lines : List (List (List ℕ)) → List ℕ
lines some = flat_map line some

-- the octets up to each line feed, and those behind the last
abbrev rows : List ℕ → List (List ℕ)
rows octets = slice_split (is_octet 10) octets

same_bodies : (a b : List (List ℕ)) → CanBeLine a → CanBeLine b → body a ≡ body b → a ≡ b
same_bodies a b ia ib e =
    sym (parted a ia.one ia.plain) ∙ ap (λ (octets : List ℕ). slice_split (is_octet 32) octets) e ∙ parted b ib.one ib.plain

-- a line is the first row of a text that begins with it
first_row : (a : List (List ℕ)) (rest : List ℕ) → CanBeLine a → rows (line a ++ rest) ≡ body a ∷ rows rest
first_row a rest ia =
    ap (λ (octets : List ℕ). rows octets) (append_assoc (body a) (10 ∷ []) rest)
    ∙ slice_split_at (is_octet 10) (body a) 10 rest (on_one_line a ia.plain) refl

octet_of_none : (b : ℕ) → is_octet 10 b ≡ false → b ≢ 10
octet_of_none b h = grind (arith)

-- a part of a line, less than the whole, has no line feed
pub part_has_none : (words : List (List ℕ)) (n : ℕ) → CanBeLine words → n < length (line words) → HasNoLineFeed (take n (line words))
part_has_none words n is low =
    let within : n ≤ length (body words) = omega (arith, low, length-append (body words) (10 ∷ [])) in
    subst (λ (octets : List ℕ). HasNoLineFeed octets) (sym (take-append-le n (body words) (10 ∷ []) within))
    (All-weaker (λ o. is_octet 10 o ≡ false) (λ b. b ≢ 10) octet_of_none (take n (body words))
    (All-take (λ o. is_octet 10 o ≡ false) n (body words) (on_one_line words is.plain)))

-- two texts that are alike begin with the same line
pub first_lines : (a b : List (List ℕ)) (rest end : List ℕ) → CanBeLine a → CanBeLine b → line a ++ rest ≡ line b ++ end
    → (a ≡ b) × (rest ≡ end)
first_lines a b rest end ia ib e =
    let heads : (body a ∷ rows rest) ≡ (body b ∷ rows end) =
    sym (first_row a rest ia) ∙ ap (λ (octets : List ℕ). rows octets) e ∙ first_row b end ib in
    let bodies : body a ≡ body b = cc in
    let first : a ≡ b = same_bodies a b ia ib bodies in
    (first, append_cancel_left (line a) rest end (e ∙ ap (λ (words : List (List ℕ)). line words ++ end) (sym first)))

other_octet : (b : ℕ) → b ≢ 10 → is_octet 10 b ≡ false
other_octet b h = grind (arith)

-- octets with no line feed begin with no line
no_line_there : (end rest : List ℕ) (b : List (List ℕ)) → CanBeLine b → All (λ o. is_octet 10 o ≡ false) end → end ≡ line b ++ rest → ⊥
no_line_there end rest b ib none e =
    let one : (end ∷ []) ≡ (body b ∷ rows rest) =
    sym (slice_split_none (is_octet 10) end none) ∙ ap (λ (octets : List ℕ). rows octets) e ∙ first_row b rest ib in
    let nothing : [] ≡ rows rest = cc in
    omega (arith, length-slice_split (is_octet 10) rest, ap length nothing)

-- what follows two equal texts
reads_back : (some others : List (List (List ℕ))) (rest end : List ℕ) → AllByRecursion CanBeLine some → AllByRecursion CanBeLine others
    → All (λ o. is_octet 10 o ≡ false) rest → All (λ o. is_octet 10 o ≡ false) end
    → lines some ++ rest ≡ lines others ++ end → (some ≡ others) × (rest ≡ end)
reads_back [] [] rest end is js hr he e = (refl, e)
reads_back [] (b ∷ others) rest end is js hr he e =
    absurd (no_line_there rest (lines others ++ end) b js.0 hr (e ∙ append_assoc (line b) (lines others) end))
reads_back (a ∷ some) [] rest end is js hr he e =
    absurd (no_line_there end (lines some ++ rest) a is.0 he (sym e ∙ append_assoc (line a) (lines some) rest))
reads_back (a ∷ some) (b ∷ others) rest end is js hr he e =
    let one : (a ≡ b) × (lines some ++ rest ≡ lines others ++ end) =
    first_lines a b (lines some ++ rest) (lines others ++ end) is.0 js.0
    (sym (append_assoc (line a) (lines some) rest) ∙ e ∙ append_assoc (line b) (lines others) end) in
    let more : (some ≡ others) × (rest ≡ end) = reads_back some others rest end is.1 js.1 hr he one.1 in
    (ap (λ (first : List (List ℕ)). first ∷ some) one.0 ∙ ap (λ (behind : List (List (List ℕ))). b ∷ behind) more.0, more.1)

-- octets with no line feed hold no line
pub no_line : (end behind : List ℕ) (b : List (List ℕ)) → CanBeLine b → HasNoLineFeed end → end ≡ line b ++ behind → ⊥
no_line end behind b ib none e =
    no_line_there end behind b ib (All-weaker (λ b. b ≢ 10) (λ o. is_octet 10 o ≡ false) other_octet end none) e

-- a text tells the words of its lines, and what stands behind the last of them
pub words_read : (some others : List (List (List ℕ))) (rest end : List ℕ) → AllByRecursion CanBeLine some → AllByRecursion CanBeLine others
    → HasNoLineFeed rest → HasNoLineFeed end → lines some ++ rest ≡ lines others ++ end → (some ≡ others) × (rest ≡ end)
words_read some others rest end is js hr he e =
    reads_back some others rest end is js
    (All-weaker (λ b. b ≢ 10) (λ o. is_octet 10 o ≡ false) other_octet rest hr)
    (All-weaker (λ b. b ≢ 10) (λ o. is_octet 10 o ≡ false) other_octet end he) e
