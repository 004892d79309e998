-- The words that are out, by the seats of the calls that wait for their answers.
use Rattle.std.proofs.Common.{◌≡◌, ◌≢◌, ◌∙◌, refl, ap, sym, subst, ℕ, zero, suc, ◌+◌, ◌<◌, ◌≤◌, ◌⊎◌, ⊎_elim, inl, inr, Bool, true, false, cond, if◌then◌else◌, List, [], ◌∷◌, ◌++◌, length, get_or, position, slice_set, Option, Some, None, arith}
use Rattle.std.specs.Prelude.{◌==◌, nat_lt, sum_by}
use Rattle.std.specs.List.{position_or_len}
use Rattle.std.specs.Option.{option_map, option_map_or, option_and_then}
use Rattle.std.proofs.lemmas.Bool.{cases_lt}
use Rattle.std.proofs.lemmas.Bool.Decides.{nat_tests}
use Rattle.std.proofs.lemmas.List.Sums.{position_or_len_is, sum_by-cons, sum_by-set, sum_by_push}
use Rattle.std.proofs.lemmas.Option.{slice_get-get_or}
use Rattle.coordinator.specs.declared.call.Leg.TheVariants.{Deciding}
use Rattle.family_rules.specs.Calls.{deciding_seat, has_serial}
use Rattle.family_rules.specs.Outs.{AreOut, IsFirstOf, one_of, out_at, out_of, some_of, times}
use Rattle.family_rules.specs.declared.call.Call.{Call as KeptCall}
use Rattle.family_rules.specs.declared.call.Seat.{Seat}
use Rattle.family_rules.specs.declared.outs.Posted.{Posted}

-- ---- the word of a seat's call

abbrev one_in : Seat → ℕ
one_in s = some_of (out_of s.call)

at_seat : (seats : List Seat) (b : ℕ) (s : Seat) → b < length seats → s ≡ get_or seats b s → out_at seats b ≡ out_of s.call
at_seat seats b s within is =
    ap (λ (o : Option Seat). out_of (option_and_then (λ (x : Seat). x.call) o)) (slice_get-get_or seats b s within ∙ ap (λ (x : Seat). Some x) (sym is))

set_here : (seats : List Seat) (b : ℕ) (new : Seat) → b < length seats → out_at (slice_set seats b new) b ≡ out_of new.call
set_here [] b new within = absurd (omega (arith, within))
set_here (x ∷ seats) zero new within = refl
set_here (x ∷ seats) (suc b) new within = set_here seats b new (omega (arith, within))

set_elsewhere : (seats : List Seat) (b c : ℕ) (new : Seat) → c ≢ b → out_at (slice_set seats b new) c ≡ out_at seats c
set_elsewhere [] b c new other = refl
set_elsewhere (x ∷ seats) zero zero new other = absurd (other refl)
set_elsewhere (x ∷ seats) zero (suc c) new other = refl
set_elsewhere (x ∷ seats) (suc b) zero new other = refl
set_elsewhere (x ∷ seats) (suc b) (suc c) new other = set_elsewhere seats b c new (λ e. other (ap (λ (n : ℕ). suc n) e))

no_other : (n c b : ℕ) (o : Option ℕ) → c ≢ b → one_of n c b o ≡ 0
no_other n c b None other = refl
no_other n c b (Some t) other = by_branch (b == c) refl
  where
    by_branch : (same : Bool) → (b == c) ≡ same → one_of n c b (Some t) ≡ 0
    by_branch true is = absurd (other (grind (arith, nat_tests, is)))
    by_branch false is = grind (arith, nat_tests, is)

same_or_not : (c b : ℕ) → (c ≡ b) ⊎ (c ≢ b)
same_or_not zero zero = inl refl
same_or_not zero (suc b) = inr (λ e. absurd (cc (e)))
same_or_not (suc c) zero = inr (λ e. absurd (cc (e)))
same_or_not (suc c) (suc b) = ⊎_elim (λ e. inl (ap (λ (n : ℕ). suc n) e)) (λ no. inr (λ e. no (cc (e)))) (same_or_not c b)

-- ---- a seat changes

pub outs_set : (words later : List Posted) (seats : List Seat) (b : ℕ) (s new : Seat) (before after : Option ℕ) → b < length seats → s ≡ get_or seats b s
    → before ≡ out_of s.call → after ≡ out_of new.call → AreOut words seats
    → ((n c : ℕ) → times n c later + one_of n c b before ≡ times n c words + one_of n c b after) → length later + some_of before ≡ length words + some_of after
    → AreOut later (slice_set seats b new)
outs_set words later seats b s new before after within is was now p each count = record { each = λ n c. by_branch n c (same_or_not c b); count = counted }
  where
    by_branch : (n c : ℕ) → (c ≡ b) ⊎ (c ≢ b) → times n c later ≡ one_of n c c (out_at (slice_set seats b new) c)
    by_branch n c (inl e) = subst (λ (d : ℕ). times n d later ≡ one_of n d d (out_at (slice_set seats b new) d)) (sym e)
        (let step = each n b in
        let old : times n b words ≡ one_of n b b before = p.each n b ∙ ap (λ (o : Option ℕ). one_of n b b o) (at_seat seats b s within is ∙ sym was) in
        let here : one_of n b b (out_at (slice_set seats b new) b) ≡ one_of n b b after = ap (λ (o : Option ℕ). one_of n b b o) (set_here seats b new within ∙ sym now) in
        omega (arith, step, old, here))
    by_branch n c (inr other) =
        let step = each n c in
        let none = no_other n c b before other in
        let no = no_other n c b after other in
        let old = p.each n c in
        let here : one_of n c c (out_at (slice_set seats b new) c) ≡ one_of n c c (out_at seats c) = ap (λ (o : Option ℕ). one_of n c c o) (set_elsewhere seats b c new other) in
        omega (arith, step, none, no, old, here)

    counted : length later ≡ sum_by one_in (slice_set seats b new)
    counted =
        let sums = sum_by-set one_in seats b new s within in
        let old : one_in (get_or seats b s) ≡ some_of before = ap (λ (x : Seat). one_in x) (sym is) ∙ ap (λ (o : Option ℕ). some_of o) (sym was) in
        let here : one_in new ≡ some_of after = ap (λ (o : Option ℕ). some_of o) (sym now) in
        let all = p.count in
        omega (arith, sums, old, here, all, count)

-- its call has the same word out
pub outs_kept : (words : List Posted) (seats : List Seat) (b : ℕ) (s new : Seat) → b < length seats → s ≡ get_or seats b s → AreOut words seats
    → out_of new.call ≡ out_of s.call → AreOut words (slice_set seats b new)
outs_kept words seats b s new within is p same = outs_set words words seats b s new (out_of s.call) (out_of s.call) within is refl (sym same) p (λ n c. refl) refl

same_word : (f : KeptCall → KeptCall) → ((k : KeptCall) → (f k).out ≡ k.out) → (o : Option KeptCall) → out_of (option_map f o) ≡ out_of o
same_word f alike None = refl
same_word f alike (Some k) = alike k

pub outs_deciding : (words : List Posted) (seats : List Seat) (b : ℕ) (s new : Seat) → b < length seats → s ≡ get_or seats b s → AreOut words seats
    → new ≡ deciding_seat s → AreOut words (slice_set seats b new)
outs_deciding words seats b s new within is p now =
    outs_kept words seats b s new within is p
    (ap (λ (x : Seat). out_of x.call) now ∙ same_word (λ (c : KeptCall). record c { leg = Deciding }) (λ k. refl) s.call)

-- ---- what a change wants

one_there : (n b : ℕ) → one_of n b b (Some n) ≡ 1
one_there n b = grind (arith, nat_tests)

pub outs_there : (words : List Posted) (seats : List Seat) (b n : ℕ) (s : Seat) → b < length seats → s ≡ get_or seats b s → AreOut words seats
    → out_of s.call ≡ Some n → 0 < times n b words
outs_there words seats b n s within is p has =
    let each : times n b words ≡ one_of n b b (Some n) = p.each n b ∙ ap (λ (o : Option ℕ). one_of n b b o) (at_seat seats b s within is ∙ has) in
    let one = one_there n b in
    omega (arith, each, one)

some_few : (o : Option ℕ) → some_of o ≤ 1
some_few None = omega arith
some_few (Some t) = omega arith

few_seats : (seats : List Seat) → sum_by one_in seats ≤ length seats
few_seats [] = omega arith
few_seats (x ∷ seats) =
    let rest = few_seats seats in
    let one = some_few (out_of x.call) in
    let sums = sum_by-cons one_in x seats in
    omega (arith, rest, one, sums)

few_others : (seats : List Seat) (b : ℕ) (s : Seat) → b < length seats → s ≡ get_or seats b s → sum_by one_in seats < length seats + one_in s
few_others [] b s within is = absurd (omega (arith, within))
few_others (x ∷ seats) zero s within is =
    let rest = few_seats seats in
    let sums = sum_by-cons one_in x seats in
    let same : one_in s ≡ one_in x = ap (λ (t : Seat). one_in t) is in
    omega (arith, rest, sums, same)
few_others (x ∷ seats) (suc b) s within is =
    let rest = few_others seats b s (omega (arith, within)) is in
    let one = some_few (out_of x.call) in
    let sums = sum_by-cons one_in x seats in
    omega (arith, rest, one, sums)

pub outs_few : (words : List Posted) (seats : List Seat) (b : ℕ) (s : Seat) → b < length seats → s ≡ get_or seats b s → AreOut words seats
    → length words < length seats + some_of (out_of s.call)
outs_few words seats b s within is p = let few = few_others seats b s within is in let all = p.count in omega (arith, few, all)

-- ---- a seat comes last, on which no call is under way

pub none_out : (words : List Posted) (s : Seat) → words ≡ [] → s.call ≡ None → AreOut words (s ∷ [])
none_out words s empty none = record { each = λ n c. ap (λ (ws : List Posted). times n c ws) empty ∙ sym (nothing n c); count = counted }
  where
    nothing : (n c : ℕ) → one_of n c c (out_at (s ∷ []) c) ≡ 0
    nothing n zero = ap (λ (o : Option KeptCall). one_of n 0 0 (out_of o)) none
    nothing n (suc c) = refl

    counted : length words ≡ sum_by one_in (s ∷ [])
    counted =
        let len = ap (λ (ws : List Posted). length ws) empty in
        let sums = sum_by-cons one_in s [] in
        let no : one_in s ≡ 0 = ap (λ (o : Option KeptCall). some_of (out_of o)) none in
        omega (arith, len, sums, no)

pub outs_more : (words : List Posted) (seats : List Seat) (s : Seat) → s.call ≡ None → AreOut words seats → AreOut words (seats ++ s ∷ [])
outs_more words seats s none p = record { each = λ n c. p.each n c ∙ ap (λ (o : Option ℕ). one_of n c c o) (sym (same seats c)); count = counted }
  where
    same : (xs : List Seat) (c : ℕ) → out_at (xs ++ s ∷ []) c ≡ out_at xs c
    same [] zero = ap (λ (o : Option KeptCall). out_of o) none
    same [] (suc c) = refl
    same (x ∷ xs) zero = refl
    same (x ∷ xs) (suc c) = same xs c

    counted : length words ≡ sum_by one_in (seats ++ s ∷ [])
    counted =
        let all = p.count in
        let sums = sum_by_push one_in seats s in
        let no : one_in s ≡ 0 = ap (λ (o : Option KeptCall). some_of (out_of o)) none in
        omega (arith, all, sums, no)

-- ---- the first with a number is the seat that is looked for

serial_in : (n b : ℕ) (o : Option ℕ) → one_of n b b o ≡ (if option_map_or (λ (t : ℕ). t == n) o false then 1 else 0)
serial_in n b None = refl
serial_in n b (Some t) = grind (arith, nat_tests)

serial_of : (n b : ℕ) (c : Option KeptCall) → one_of n b b (out_of c) ≡ (if has_serial n c then 1 else 0)
serial_of n b None = refl
serial_of n b (Some k) = serial_in n b k.out

at_place : (words : List Posted) (seats : List Seat) (n b : ℕ) (d : Seat) → b < length seats → AreOut words seats
    → times n b words ≡ (if has_serial n (get_or seats b d).call then 1 else 0)
at_place words seats n b d within p =
    p.each n b
    ∙ (ap (λ (o : Option Seat). one_of n b b (out_of (option_and_then (λ (x : Seat). x.call) o))) (slice_get-get_or seats b d within)
    ∙ serial_of n b (get_or seats b d).call)

is_true : (x : Bool) (n : ℕ) → n ≡ (if x then 1 else 0) → 0 < n → x ≡ true
is_true true n e h = refl
is_true false n e h = absurd (omega (arith, e, h))

is_false : (x : Bool) (n : ℕ) → n ≡ (if x then 1 else 0) → n ≡ 0 → x ≡ false
is_false true n e h = absurd (omega (arith, e, h))
is_false false n e h = refl

within_some : (seats : List Seat) (n b : ℕ) → 0 < one_of n b b (out_at seats b) → b < length seats
within_some seats n b h = ⊎_elim (λ l. l) (λ past. absurd (nowhere (none seats b past) h)) (cases_lt b (length seats))
  where
    none : (xs : List Seat) (i : ℕ) → length xs ≤ i → out_at xs i ≡ None
    none [] i past = refl
    none (x ∷ xs) zero past = absurd (omega (arith, past))
    none (x ∷ xs) (suc i) past = none xs i (omega (arith, past))

    nowhere : out_at seats b ≡ None → 0 < one_of n b b (out_at seats b) → ⊥
    nowhere e h = let no : one_of n b b (out_at seats b) ≡ 0 = ap (λ (o : Option ℕ). one_of n b b o) e in omega (arith, no, h)

place_is : (q : Seat → Bool) (seats : List Seat) (i : ℕ) (x : Bool) (r : Option ℕ) → position_or_len q seats ≡ i → nat_lt i (length seats) ≡ x → cond x (Some i) None ≡ r
    → r ≡ position q seats
place_is q seats i x r at lt is = sym
    (ap (λ (m : ℕ). cond (nat_lt m (length seats)) (Some m) None) at ∙ (ap (λ (y : Bool). cond y (Some i) None) lt ∙ is))

first_at : (words : List Posted) (seats : List Seat) (n : ℕ) (d : Seat) (r : Option ℕ) → AreOut words seats → IsFirstOf n words r
    → r ≡ position (λ (s : Seat). has_serial n s.call) seats
first_at words seats n d (Some b) p h =
    let within : b < length seats = within_some seats n b (let e = p.each n b in let some = h.0 in omega (arith, e, some)) in
    let at = is_true (has_serial n (get_or seats b d).call) (times n b words) (at_place words seats n b d within p) h.0 in
    place_is (λ (s : Seat). has_serial n s.call) seats b true (Some b)
    (position_or_len_is (λ (s : Seat). has_serial n s.call) seats b d (omega (arith, within))
    (λ k less. is_false (has_serial n (get_or seats k d).call) (times n k words) (at_place words seats n k d (omega (arith, within, less)) p) (h.1 k less))
    (λ l. at))
    (grind (arith, nat_tests, within)) refl
first_at words seats n d None p h =
    place_is (λ (s : Seat). has_serial n s.call) seats (length seats) false None
    (position_or_len_is (λ (s : Seat). has_serial n s.call) seats (length seats) d (omega arith)
    (λ k less. is_false (has_serial n (get_or seats k d).call) (times n k words) (at_place words seats n k d less p) (h k))
    (λ l. absurd (omega (arith, l))))
    (grind (arith, nat_tests)) refl

pub first_out : (words : List Posted) (seats : List Seat) (n : ℕ) (r : Option ℕ) → AreOut words seats → IsFirstOf n words r
    → r ≡ position (λ (s : Seat). has_serial n s.call) seats
first_out words [] n None p h = refl
first_out words [] n (Some b) p h = absurd (let e = p.each n b in let some = h.0 in let none : one_of n b b (out_at [] b) ≡ 0 = refl in omega (arith, e, some, none))
first_out words (x ∷ seats) n r p h = first_at words (x ∷ seats) n x r p h
