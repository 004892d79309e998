-- What a state keeps stays so.
use Rattle.std.proofs.Common.{◌≡◌, ◌≢◌, refl, ap, sym, subst, ℕ, zero, suc, ◌+◌, ◌<◌, ◌≤◌, if◌then◌else◌, List, [], ◌∷◌, ◌++◌, length, map, get_or, Option, Some, None, is_some, false, arith, length-append}
use Rattle.std.specs.Prelude.{◌==◌, slice_set, sum_by, replicate}
use Rattle.std.specs.List.{cons_option, filter_map, slice_get}
use Rattle.std.proofs.lemmas.Bool.Decides.{nat_tests}
use Rattle.std.proofs.lemmas.Grind.{common_steps}
use Rattle.std.proofs.lemmas.List.{get_or-set_other}
use Rattle.std.proofs.lemmas.Option.{same_Some}
use Rattle.std.proofs.lemmas.List.Sums.{sum_by-append, sum_by-cons}
use Rattle.ots_model.specs.declared.completion.CallNumber.{CallNumber}
use Rattle.ots_model.specs.declared.completion.Heard.{Heard}
use Rattle.ots_model.specs.declared.completion.Stood.{Stood}
use Rattle.resource_votes.specs.Ballots.{Ballots, no_ballots, numbered, participants}
use Rattle.resource_votes.specs.History.{times}
use Rattle.resource_votes.specs.Lists.{list_at, added_to, handed_lists}
use Rattle.resource_votes.specs.declared.registration.Registration.{Registration}
use Rattle.decision_journal.specs.declared.record.Registration.{Registration as Recorded}
use Rattle.two_phase.specs.Stages as stages
use Rattle.two_phase.specs.Stages.{Standing, Waiting, Going as UnderWay, HasRoom, longest, no_room}
use Rattle.family_rules.specs.declared.call.Seat.{Seat}
use Rattle.family_rules.specs.Calls.{AreTasks, AllTasks}
use Rattle.family_rules.specs.Order.{AreInOrder}
use Rattle.family_rules.specs.StateInside.{AreFew, AreOnce, HasPlaces, share}
use Rattle.family_rules.specs.Recording.{recorded}

-- ---- what seats have left to tell

pub tasks_set : (rs : List Registration) (seats : List Seat) (b : ℕ) (s : Seat) → AllTasks rs seats → AreTasks rs s.left.items → AllTasks rs (slice_set seats b s)
tasks_set rs [] b s all one = tt
tasks_set rs (x ∷ seats) zero s all one = (one, all.1)
tasks_set rs (x ∷ seats) (suc b) s all one = (all.0, tasks_set rs seats b s all.1 one)

pub tasks_at : (rs : List Registration) (seats : List Seat) (b : ℕ) (s : Seat) → b < length seats → AllTasks rs seats → s ≡ get_or seats b s → AreTasks rs s.left.items
tasks_at rs [] b s within all is = absurd (omega (arith, within))
tasks_at rs (x ∷ seats) zero s within all is = subst (λ (t : Seat). AreTasks rs t.left.items) (sym is) all.0
tasks_at rs (x ∷ seats) (suc b) s within all is = tasks_at rs seats b s (omega (arith, within)) all.1 is

-- ---- the lists have no more numbers than there are registrations

abbrev total : List (List ℕ) → ℕ
total lists = sum_by (λ (xs : List ℕ). length xs) lists

cons_total : (x : List ℕ) (lists : List (List ℕ)) → total (x ∷ lists) ≡ length x + total lists
cons_total x lists = sum_by-cons (λ (xs : List ℕ). length xs) x lists

within_total : (lists : List (List ℕ)) (b : ℕ) → length (list_at lists b) ≤ total lists
within_total [] b = omega arith
within_total (x ∷ lists) zero = omega (arith, cons_total x lists)
within_total (x ∷ lists) (suc b) = omega (arith, cons_total x lists, within_total lists b)

set_total : (lists : List (List ℕ)) (b : ℕ) (ys : List ℕ) → total (slice_set lists b ys) + length (list_at lists b) ≤ total lists + length ys
set_total [] b ys = omega arith
set_total (x ∷ lists) zero ys = omega (arith, cons_total x lists, cons_total ys lists)
set_total (x ∷ lists) (suc b) ys = omega (arith, cons_total x lists, cons_total x (slice_set lists b ys), set_total lists b ys)

pub added_few : (lists : List (List ℕ)) (b n count : ℕ) → AreFew lists count → AreFew (added_to lists b n) (count + 1)
added_few lists b n count few =
    let r : total (added_to lists b n) + length (list_at lists b) ≤ total lists + length (list_at lists b ++ n ∷ []) = set_total lists b (list_at lists b ++ n ∷ []) in
    let k : length (list_at lists b ++ n ∷ []) ≡ length (list_at lists b) + 1 = length-append (list_at lists b) (n ∷ []) in
    omega (arith, r, k, few)

pub handed_few : (lists : List (List ℕ)) (child parent count : ℕ) → child ≢ parent → AreFew lists count → AreFew (handed_lists lists child parent) count
handed_few lists child parent count differ few =
    let out : total (slice_set lists child []) + length (list_at lists child) ≤ total lists + 0 = set_total lists child [] in
    let kept : list_at (slice_set lists child []) parent ≡ list_at lists parent = get_or-set_other lists child parent [] [] (λ e. differ (sym e)) in
    let same : length (list_at (slice_set lists child []) parent) ≡ length (list_at lists parent) = ap (λ (xs : List ℕ). length xs) kept in
    let into : total (handed_lists lists child parent) + length (list_at (slice_set lists child []) parent)
    ≤ total (slice_set lists child []) + length (list_at lists parent ++ list_at lists child) = set_total (slice_set lists child []) parent (list_at lists parent ++ list_at lists child) in
    let k : length (list_at lists parent ++ list_at lists child) ≡ length (list_at lists parent) + length (list_at lists child) = length-append (list_at lists parent) (list_at lists child) in
    omega (arith, out, same, into, k, few)

pub none_few : (n : ℕ) → AreFew (replicate {A = List ℕ} n []) 0
none_few zero = omega arith
none_few (suc n) = omega (arith, none_few n, cons_total [] (replicate n []))

-- ---- each number is in one list at most

cons_times : (i : ℕ) (x : List ℕ) (lists : List (List ℕ)) → sum_by (times i) (x ∷ lists) ≡ times i x + sum_by (times i) lists
cons_times i x lists = sum_by-cons (times i) x lists

pub within_times : (i : ℕ) (lists : List (List ℕ)) (b : ℕ) → times i (list_at lists b) ≤ sum_by (times i) lists
within_times i [] b = omega arith
within_times i (x ∷ lists) zero = omega (arith, cons_times i x lists)
within_times i (x ∷ lists) (suc b) = omega (arith, cons_times i x lists, within_times i lists b)

set_times : (i : ℕ) (lists : List (List ℕ)) (b : ℕ) (ys : List ℕ)
    → sum_by (times i) (slice_set lists b ys) + times i (list_at lists b) ≤ sum_by (times i) lists + times i ys
set_times i [] b ys = omega arith
set_times i (x ∷ lists) zero ys = omega (arith, cons_times i x lists, cons_times i ys lists)
set_times i (x ∷ lists) (suc b) ys = omega (arith, cons_times i x lists, cons_times i x (slice_set lists b ys), set_times i lists b ys)

-- a number is among those behind it as often as in both parts
cons_once : (i x : ℕ) (xs : List ℕ) → times i (x ∷ xs) ≡ (if x == i then 1 else 0) + times i xs
cons_once i x xs = sum_by-cons (λ (n : ℕ). if n == i then 1 else 0) x xs

times_append : (i : ℕ) (xs ys : List ℕ) → times i (xs ++ ys) ≡ times i xs + times i ys
times_append i xs ys = sum_by-append (λ (n : ℕ). if n == i then 1 else 0) xs ys

share_more : (count i : ℕ) → share count i ≤ share (count + 1) i
share_more count i = grind (arith, nat_tests)

-- the next number, and any other one
share_next : (count i : ℕ) → (if count + 1 == i then 1 else 0) + share count i ≤ share (count + 1) i
share_next count i = grind (arith, nat_tests)

pub more_once : (lists : List (List ℕ)) (count : ℕ) → AreOnce lists count → AreOnce lists (count + 1)
more_once lists count once = λ i. omega (arith, once i, share_more count i)

pub added_once : (lists : List (List ℕ)) (b count : ℕ) → AreOnce lists count → AreOnce (added_to lists b (count + 1)) (count + 1)
added_once lists b count once = λ i.
    let n : ℕ = count + 1 in
    let r = set_times i lists b (list_at lists b ++ n ∷ []) in
    let k = times_append i (list_at lists b) (n ∷ []) in
    let one = cons_once i n [] in
    omega (arith, r, k, one, once i, share_next count i)

pub handed_once : (lists : List (List ℕ)) (child parent count : ℕ) → child ≢ parent → AreOnce lists count → AreOnce (handed_lists lists child parent) count
handed_once lists child parent count differ once = λ i.
    let out = set_times i lists child [] in
    let kept : list_at (slice_set lists child []) parent ≡ list_at lists parent = get_or-set_other lists child parent [] [] (λ e. differ (sym e)) in
    let same : times i (list_at (slice_set lists child []) parent) ≡ times i (list_at lists parent) = ap (λ (xs : List ℕ). times i xs) kept in
    let into = set_times i (slice_set lists child []) parent (list_at lists parent ++ list_at lists child) in
    let k = times_append i (list_at lists parent) (list_at lists child) in
    omega (arith, out, same, into, k, once i)

pub none_once : (n : ℕ) → AreOnce (replicate {A = List ℕ} n []) 0
none_once zero = λ i. omega arith
none_once (suc n) = λ i. omega (arith, none_once n i, cons_times i [] (replicate n []))

-- those that are found have the numbers by which they were looked for
abbrev copied_numbers : List Registration → List ℕ
copied_numbers rs = map (λ (r : Recorded). r.index) (map recorded rs)

found_times : (rs : List Registration) → AreInOrder rs → (i : ℕ) (xs : List ℕ) → times i (copied_numbers (filter_map (numbered rs) xs)) ≤ times i xs
found_times rs order i [] = omega arith
found_times rs order i (x ∷ xs) = by_found (numbered rs x) refl (found_times rs order i xs)
  where
    rest : List ℕ
    rest = copied_numbers (filter_map (numbered rs) xs)

    by_found : (o : Option Registration) → numbered rs x ≡ o → times i (copied_numbers (filter_map (numbered rs) xs)) ≤ times i xs
        → times i (copied_numbers (cons_option o (filter_map (numbered rs) xs))) ≤ times i (x ∷ xs)
    by_found None is more = omega (arith, more, cons_once i x xs)
    by_found (Some r) is more =
        let one : times i (r.index ∷ rest) ≡ times i (x ∷ rest) = ap (λ (n : ℕ). times i (n ∷ rest)) (order x r is) in
        omega (arith, one, cons_once i x rest, cons_once i x xs, more)

share_one : (count i : ℕ) → share count i ≤ 1
share_one count i = grind (arith, nat_tests)

pub each_once : (b : Ballots) → AreInOrder b.registrations → AreOnce b.lists (length b.registrations) → (i : ℕ) → times i (copied_numbers (participants 0 b)) ≤ 1
each_once b order once i =
    omega (arith, found_times b.registrations order i (list_at b.lists 0), within_times i b.lists 0, once i, share_one (length b.registrations) i)

-- ---- room for all who take part

pub found_few : {A B : Type 0} (h : A → Option B) (xs : List A) → length (filter_map h xs) ≤ length xs
found_few h [] = omega arith
found_few h (x ∷ xs) = let r = found_few h xs in grind (arith, common_steps, r)

-- nobody needs room
pub none_placed : (s : Standing) (b : Ballots) → s ≡ Waiting no_room → b ≡ no_ballots → HasPlaces s b.registrations
none_placed s b is none =
    let empty : HasPlaces (Waiting no_room) [] = (omega arith, omega arith) in
    subst (λ (x : Standing). HasPlaces x b.registrations) (sym is) (subst (λ (x : Ballots). HasPlaces (Waiting no_room) x.registrations) (sym none) empty)

pub places_reserved : (n octets : ℕ) (rs : List Registration) (s : Standing) → HasPlaces s rs → HasPlaces (stages.after_reserve n octets s) rs
places_reserved n octets rs (Waiting room) h = let count = h.0 in let long = h.1 in (omega (arith, count), omega (arith, long))
places_reserved n octets rs (UnderWay c) h = tt

-- none is longer than the longest
one_of : (rs : List Registration) (i : ℕ) (r : Registration) → slice_get rs i ≡ Some r → length r.to ≤ longest rs
one_of [] i r at = absurd (cc (at))
one_of (x ∷ rs) zero r at = let e : length x.to ≡ length r.to = ap (λ (y : Registration). length y.to) (same_Some x r at) in omega (arith, e)
one_of (x ∷ rs) (suc i) r at = let more = one_of rs i r at in omega (arith, more)

one_numbered : (rs : List Registration) (n : ℕ) (r : Registration) → numbered rs n ≡ Some r → length r.to ≤ longest rs
one_numbered rs zero r at = absurd (cc (at))
one_numbered rs (suc i) r at = one_of rs i r at

found_within : (rs : List Registration) (xs : List ℕ) → longest (filter_map (numbered rs) xs) ≤ longest rs
found_within rs [] = omega arith
found_within rs (x ∷ xs) = by_found (numbered rs x) refl (found_within rs xs)
  where
    by_found : (o : Option Registration) → numbered rs x ≡ o → longest (filter_map (numbered rs) xs) ≤ longest rs
        → longest (cons_option o (filter_map (numbered rs) xs)) ≤ longest rs
    by_found None is more = more
    by_found (Some r) is more = let one = one_numbered rs x r is in omega (arith, one, more)

-- a completion that hasn't started has room for the participants of the top-level transaction
pub has_room : (s : Standing) (b : Ballots) → HasPlaces s b.registrations → AreFew b.lists (length b.registrations) → is_some (stages.number s) ≡ false
    → HasRoom s (participants 0 b)
has_room (Waiting room) b places few is =
    let found = found_few (numbered b.registrations) (list_at b.lists 0) in
    let all = within_total b.lists 0 in
    let count = places.0 in
    let long = places.1 in
    let within = found_within b.registrations (list_at b.lists 0) in
    (omega (arith, found, all, count, few), omega (arith, within, long))
has_room (UnderWay c) b places few is = absurd (cc (is))

pub places_answered : (n : CallNumber) (h : Heard) (s : Standing) (rs : List Registration) → HasPlaces s rs → HasPlaces (stages.after_answer n h s) rs
places_answered n h (Waiting room) rs places = places
places_answered n h (UnderWay c) rs places = tt

pub places_decided : (stood : Stood) (s : Standing) (rs : List Registration) → HasPlaces s rs → HasPlaces (stages.after_decided stood s) rs
places_decided stood (Waiting room) rs places = places
places_decided stood (UnderWay c) rs places = tt

pub places_reread : (found : Option ℕ) (s : Standing) (rs : List Registration) → HasPlaces s rs → HasPlaces (stages.after_reread found s) rs
places_reread found (Waiting room) rs places = places
places_reread found (UnderWay c) rs places = tt
