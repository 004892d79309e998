-- Each number stands in one list at most, and the lists together have no more numbers than there are registrations.
use Rattle.std.proofs.Common.{◌≡◌, ◌≢◌, ap, sym, ℕ, zero, suc, ◌+◌, ◌≤◌, if◌then◌else◌, List, [], ◌∷◌, ◌++◌, length, arith, length-append}
use Rattle.std.specs.Prelude.{◌==◌, slice_set, sum_by, replicate}
use Rattle.std.proofs.lemmas.Bool.Decides.{nat_tests}
use Rattle.std.proofs.lemmas.List.{get_or-set_other}
use Rattle.std.proofs.lemmas.List.Sums.{sum_by-cons}
use Rattle.resource_votes.specs.Lists.{list_at, added_to, handed_lists}
use Rattle.resource_votes.specs.History.{times}
use Rattle.resource_votes.specs.Numbers.{AreFew, AreOnce, at_most}
use Rattle.resource_votes.proofs.Tallies.{times_append}

-- ---- the lists have no more numbers than there are registrations

abbrev total : List (List ℕ) → ℕ
total lists = sum_by (λ (xs : List ℕ). length xs) lists

cons_total : (x : List ℕ) (lists : List (List ℕ)) → total (x ∷ lists) ≡ length x + total lists
cons_total x lists = sum_by-cons (λ (xs : List ℕ). length xs) x lists

set_total : (lists : List (List ℕ)) (b : ℕ) (ys : List ℕ) → total (slice_set lists b ys) + length (list_at lists b) ≤ total lists + length ys
set_total [] b ys = omega arith
set_total (x ∷ lists) zero ys = omega (arith, cons_total x lists, cons_total ys lists)
set_total (x ∷ lists) (suc b) ys = omega (arith, cons_total x lists, cons_total x (slice_set lists b ys), set_total lists b ys)

pub added_few : (lists : List (List ℕ)) (b n count : ℕ) → AreFew lists count → AreFew (added_to lists b n) (count + 1)
added_few lists b n count few =
    let r : total (added_to lists b n) + length (list_at lists b) ≤ total lists + length (list_at lists b ++ n ∷ []) = set_total lists b (list_at lists b ++ n ∷ []) in
    let k : length (list_at lists b ++ n ∷ []) ≡ length (list_at lists b) + 1 = length-append (list_at lists b) (n ∷ []) in
    omega (arith, r, k, few)

pub handed_few : (lists : List (List ℕ)) (child parent count : ℕ) → child ≢ parent → AreFew lists count → AreFew (handed_lists lists child parent) count
handed_few lists child parent count differ few =
    let out : total (slice_set lists child []) + length (list_at lists child) ≤ total lists + 0 = set_total lists child [] in
    let kept : list_at (slice_set lists child []) parent ≡ list_at lists parent = get_or-set_other lists child parent [] [] (λ e. differ (sym e)) in
    let same : length (list_at (slice_set lists child []) parent) ≡ length (list_at lists parent) = ap (λ (xs : List ℕ). length xs) kept in
    let into : total (handed_lists lists child parent) + length (list_at (slice_set lists child []) parent)
    ≤ total (slice_set lists child []) + length (list_at lists parent ++ list_at lists child) = set_total (slice_set lists child []) parent (list_at lists parent ++ list_at lists child) in
    let k : length (list_at lists parent ++ list_at lists child) ≡ length (list_at lists parent) + length (list_at lists child) = length-append (list_at lists parent) (list_at lists child) in
    omega (arith, out, same, into, k, few)

pub none_few : (n : ℕ) → AreFew (replicate {A = List ℕ} n []) 0
none_few zero = omega arith
none_few (suc n) = omega (arith, none_few n, cons_total [] (replicate n []))

-- ---- each number is in one list at most

cons_times : (i : ℕ) (x : List ℕ) (lists : List (List ℕ)) → sum_by (times i) (x ∷ lists) ≡ times i x + sum_by (times i) lists
cons_times i x lists = sum_by-cons (times i) x lists

set_times : (i : ℕ) (lists : List (List ℕ)) (b : ℕ) (ys : List ℕ)
    → sum_by (times i) (slice_set lists b ys) + times i (list_at lists b) ≤ sum_by (times i) lists + times i ys
set_times i [] b ys = omega arith
set_times i (x ∷ lists) zero ys = omega (arith, cons_times i x lists, cons_times i ys lists)
set_times i (x ∷ lists) (suc b) ys = omega (arith, cons_times i x lists, cons_times i x (slice_set lists b ys), set_times i lists b ys)

cons_once : (i x : ℕ) (xs : List ℕ) → times i (x ∷ xs) ≡ (if x == i then 1 else 0) + times i xs
cons_once i x xs = sum_by-cons (λ (n : ℕ). if n == i then 1 else 0) x xs

more_allowed : (count i : ℕ) → at_most count i ≤ at_most (count + 1) i
more_allowed count i = grind (arith, nat_tests)

-- the next number, and any other one
next_allowed : (count i : ℕ) → (if count + 1 == i then 1 else 0) + at_most count i ≤ at_most (count + 1) i
next_allowed count i = grind (arith, nat_tests)

pub more_once : (lists : List (List ℕ)) (count : ℕ) → AreOnce lists count → AreOnce lists (count + 1)
more_once lists count once = λ i. omega (arith, once i, more_allowed count i)

pub added_once : (lists : List (List ℕ)) (b count : ℕ) → AreOnce lists count → AreOnce (added_to lists b (count + 1)) (count + 1)
added_once lists b count once = λ i.
    let n : ℕ = count + 1 in
    let r = set_times i lists b (list_at lists b ++ n ∷ []) in
    let k = times_append i (list_at lists b) (n ∷ []) in
    let one = cons_once i n [] in
    omega (arith, r, k, one, once i, next_allowed count i)

pub handed_once : (lists : List (List ℕ)) (child parent count : ℕ) → child ≢ parent → AreOnce lists count → AreOnce (handed_lists lists child parent) count
handed_once lists child parent count differ once = λ i.
    let out = set_times i lists child [] in
    let kept : list_at (slice_set lists child []) parent ≡ list_at lists parent = get_or-set_other lists child parent [] [] (λ e. differ (sym e)) in
    let same : times i (list_at (slice_set lists child []) parent) ≡ times i (list_at lists parent) = ap (λ (xs : List ℕ). times i xs) kept in
    let into = set_times i (slice_set lists child []) parent (list_at lists parent ++ list_at lists child) in
    let k = times_append i (list_at lists parent) (list_at lists child) in
    omega (arith, out, same, into, k, once i)

pub none_once : (n : ℕ) → AreOnce (replicate {A = List ℕ} n []) 0
none_once zero = λ i. omega arith
none_once (suc n) = λ i. omega (arith, none_once n i, cons_times i [] (replicate n []))
