-- What is counted over the seats stays so.
use Rattle.std.proofs.Common.{◌≡◌, ◌∙◌, refl, ap, sym, subst, ℕ, zero, suc, ◌+◌, ◌-◌, ◌<◌, ◌≤◌, ◌&&◌, Bool, true, false, if◌then◌else◌, List, [], ◌∷◌, ◌++◌, length, drop, get_or, slice_set, max, Option, Some, None, is_some, is_none, arith}
use Rattle.std.specs.Prelude.{◌==◌}
use Rattle.std.specs.List.{list_all}
use Rattle.std.specs.Option.{option_map}
use Rattle.std.proofs.lemmas.Bool.Decides.{nat_tests}
use Rattle.family_rules.specs.Calls.{AllLeft, changed_seat, deciding_seat, left_behind, left_below_it, left_by_call, owes_below}
use Rattle.coordinator.specs.declared.call.Leg.TheVariants.{Deciding}
use Rattle.family_rules.specs.Tallies.{IsTallied, one_at, open_in}
use Rattle.family_rules.specs.declared.call.Call.{Call as KeptCall}
use Rattle.family_rules.specs.declared.call.Seat.{Seat}
use Rattle.family_rules.specs.declared.call.Task.{Task}
use Rattle.family_rules.specs.declared.tally.Tally.{Tally}

-- ---- the most that one keeps

more_left : (seats : List Seat) (m n : ℕ) → m ≤ n → AllLeft seats m → AllLeft seats n
more_left [] m n few all = tt
more_left (s ∷ seats) m n few all = let h = all.0 in (omega (arith, few, h), more_left seats m n few all.1)

left_set : (seats : List Seat) (b : ℕ) (new : Seat) (m : ℕ) → length new.left.items ≤ m → AllLeft seats m → AllLeft (slice_set seats b new) m
left_set [] b new m few all = tt
left_set (s ∷ seats) zero new m few all = (few, all.1)
left_set (s ∷ seats) (suc b) new m few all = (all.0, left_set seats b new m few all.1)

pub left_at : (seats : List Seat) (b : ℕ) (s : Seat) (m : ℕ) → b < length seats → s ≡ get_or seats b s → AllLeft seats m → length s.left.items ≤ m
left_at [] b s m within is all = absurd (omega (arith, within))
left_at (x ∷ seats) zero s m within is all = subst (λ (t : Seat). length t.left.items ≤ m) (sym is) all.0
left_at (x ∷ seats) (suc b) s m within is all = left_at seats b s m (omega (arith, within)) is all.1

-- ---- how many have a call

open_set : (seats : List Seat) (b : ℕ) (s new : Seat) → b < length seats → s ≡ get_or seats b s
    → open_in (slice_set seats b new) + one_at s ≡ open_in seats + one_at new
open_set [] b s new within is = absurd (omega (arith, within))
open_set (x ∷ seats) zero s new within is =
    let same : one_at s ≡ one_at x = ap (λ (t : Seat). one_at t) is in
    omega (arith, same)
open_set (x ∷ seats) (suc b) s new within is =
    let r = open_set seats b s new (omega (arith, within)) is in
    omega (arith, r)

one_few : (s : Seat) → one_at s ≤ 1
one_few s = by_call (is_some s.call)
  where
    by_call : (b : Bool) → (if b then 1 else 0) ≤ 1
    by_call true = omega arith
    by_call false = omega arith

open_few : (seats : List Seat) → open_in seats ≤ length seats
open_few [] = omega arith
open_few (s ∷ seats) = let r = open_few seats in let one = one_few s in omega (arith, r, one)

open_at : (seats : List Seat) (b : ℕ) (s : Seat) → b < length seats → s ≡ get_or seats b s → one_at s ≤ open_in seats
open_at [] b s within is = absurd (omega (arith, within))
open_at (x ∷ seats) zero s within is = let same : one_at s ≡ one_at x = ap (λ (t : Seat). one_at t) is in omega (arith, same)
open_at (x ∷ seats) (suc b) s within is = let r = open_at seats b s (omega (arith, within)) is in omega (arith, r)

-- ---- a seat changes

-- a seat's new content fits the new counts
pub tallied_set : (t u : Tally) (seats : List Seat) (b : ℕ) (s new : Seat) → b < length seats → s ≡ get_or seats b s → IsTallied t seats
    → t.most ≤ u.most → length new.left.items ≤ u.most → u.calls + one_at s ≡ t.calls + one_at new → IsTallied u (slice_set seats b new)
tallied_set t u seats b s new within is p more few count =
    let sets = open_set seats b s new within is in
    let calls = p.calls in
    record {
      left = left_set seats b new u.most few (more_left seats t.most u.most more p.left);
      calls = omega (arith, sets, calls, count);
    }

-- its call changes, and it keeps no more
pub tallied_kept : (t : Tally) (seats : List Seat) (b : ℕ) (s new : Seat) → b < length seats → s ≡ get_or seats b s → IsTallied t seats
    → length new.left.items ≤ length s.left.items → is_some new.call ≡ is_some s.call → IsTallied t (slice_set seats b new)
tallied_kept t seats b s new within is p few same =
    let most = left_at seats b s t.most within is p.left in
    let one : one_at s ≡ one_at new = ap (λ (x : Bool). if x then 1 else 0) (sym same) in
    tallied_set t t seats b s new within is p (omega arith) (omega (arith, most, few)) (omega (arith, one))

-- it has a call from now on
pub tallied_called : (t : Tally) (seats : List Seat) (b : ℕ) (s new : Seat) → b < length seats → s ≡ get_or seats b s → IsTallied t seats
    → length new.left.items ≤ length s.left.items → is_some new.call ≡ true
    → IsTallied (record t { calls = if is_some s.call then t.calls else t.calls + 1 }) (slice_set seats b new)
tallied_called t seats b s new within is p few has =
    let most = left_at seats b s t.most within is p.left in
    let one : one_at new ≡ 1 = ap {B = ℕ} (λ (x : Bool). if x then 1 else 0) has in
    tallied_set t (record t { calls = if is_some s.call then t.calls else t.calls + 1 }) seats b s new within is p (omega arith) (omega (arith, most, few))
    (by_call (is_some s.call) one)
  where
    by_call : (x : Bool) → one_at new ≡ 1 → (if x then t.calls else t.calls + 1) + (if x then 1 else 0) ≡ t.calls + one_at new
    by_call true one = omega (arith, one)
    by_call false one = omega (arith, one)

-- it has none from now on
pub tallied_cleared : (t : Tally) (seats : List Seat) (b : ℕ) (s new : Seat) → b < length seats → s ≡ get_or seats b s → IsTallied t seats
    → length new.left.items ≤ length s.left.items → is_some new.call ≡ false
    → IsTallied (record t { calls = if is_some s.call then t.calls - 1 else t.calls }) (slice_set seats b new)
tallied_cleared t seats b s new within is p few has =
    let most = left_at seats b s t.most within is p.left in
    let none : one_at new ≡ 0 = ap {B = ℕ} (λ (x : Bool). if x then 1 else 0) has in
    let there = open_at seats b s within is in
    let calls = p.calls in
    tallied_set t (record t { calls = if is_some s.call then t.calls - 1 else t.calls }) seats b s new within is p (omega arith) (omega (arith, most, few))
    (by_call (is_some s.call) none (omega (arith, there, calls)))
  where
    by_call : (x : Bool) → one_at new ≡ 0 → (if x then 1 else 0) ≤ t.calls → (if x then t.calls - 1 else t.calls) + (if x then 1 else 0) ≡ t.calls + one_at new
    by_call true none there = omega (arith, none, there)
    by_call false none there = omega (arith, none)

-- it is what it was but for its caller, its word and its leg
same_some : (f : KeptCall → KeptCall) (o : Option KeptCall) → is_some (option_map f o) ≡ is_some o
same_some f None = refl
same_some f (Some k) = refl

altered : (t : Tally) (seats : List Seat) (b : ℕ) (s new : Seat) (f : KeptCall → KeptCall) → b < length seats → s ≡ get_or seats b s → IsTallied t seats
    → new ≡ record s { call = option_map f s.call } → IsTallied t (slice_set seats b new)
altered t seats b s new f within is p now =
    subst (λ (x : Seat). IsTallied t (slice_set seats b x)) (sym now)
    (tallied_kept t seats b s (record s { call = option_map f s.call }) within is p (omega arith) (same_some f s.call))

pub tallied_changed : (t : Tally) (seats : List Seat) (b : ℕ) (s new : Seat) (caller out : Option ℕ) → b < length seats → s ≡ get_or seats b s → IsTallied t seats
    → new ≡ changed_seat caller out s → IsTallied t (slice_set seats b new)
tallied_changed t seats b s new caller out within is p now = altered t seats b s new (λ (c : KeptCall). record c { caller = caller; out = out }) within is p now

pub tallied_deciding : (t : Tally) (seats : List Seat) (b : ℕ) (s new : Seat) → b < length seats → s ≡ get_or seats b s → IsTallied t seats
    → new ≡ deciding_seat s → IsTallied t (slice_set seats b new)
tallied_deciding t seats b s new within is p now = altered t seats b s new (λ (c : KeptCall). record c { leg = Deciding }) within is p now

-- it keeps what is behind the first
drop_few : (xs : List Task) → length (drop 1 xs) ≤ length xs
drop_few [] = omega arith
drop_few (x ∷ xs) = omega arith

behind_few : (xs : List Task) (b : Bool) → length (if b then drop 1 xs else xs) ≤ length xs
behind_few xs true = drop_few xs
behind_few xs false = omega arith

left_few : (xs : List Task) (o : Option KeptCall) → length (left_by_call o xs) ≤ length xs
left_few xs None = omega arith
left_few xs (Some k) = behind_few xs k.owes

pub tallied_told : (t : Tally) (seats : List Seat) (b : ℕ) (s new : Seat) → b < length seats → s ≡ get_or seats b s → IsTallied t seats
    → new.call ≡ s.call → new.left.items ≡ left_behind s → IsTallied t (slice_set seats b new)
tallied_told t seats b s new within is p call left =
    let few = left_few s.left.items s.call in
    let same = ap (λ (xs : List Task). length xs) left in
    tallied_kept t seats b s new within is p (omega (arith, few, same)) (ap (λ (o : Option KeptCall). is_some o) call)

-- it is vacated
none_or_all : (xs : List Task) (b : Bool) → length (if b then [] else xs) ≤ length xs
none_or_all xs true = omega arith
none_or_all xs false = omega arith

pub tallied_vacated : (t : Tally) (seats : List Seat) (b : ℕ) (s new : Seat) → b < length seats → s ≡ get_or seats b s → IsTallied t seats
    → new.call ≡ None → new.left.items ≡ left_below_it s
    → IsTallied (record t { calls = if is_some s.call then t.calls - 1 else t.calls }) (slice_set seats b new)
tallied_vacated t seats b s new within is p call left =
    let few = none_or_all s.left.items (owes_below s.call) in
    let same = ap (λ (xs : List Task). length xs) left in
    tallied_cleared t seats b s new within is p (omega (arith, few, same)) (ap (λ (o : Option KeptCall). is_some o) call)

-- it keeps so many tasks, of a call that it has from now on
pub tallied_gathered : (t : Tally) (seats : List Seat) (b : ℕ) (s new : Seat) (tasks : ℕ) → b < length seats → s ≡ get_or seats b s → IsTallied t seats
    → is_some new.call ≡ true → length new.left.items ≡ tasks
    → IsTallied (record t { most = max t.most tasks; calls = if is_some s.call then t.calls else t.calls + 1 }) (slice_set seats b new)
tallied_gathered t seats b s new tasks within is p has many =
    let one : one_at new ≡ 1 = ap {B = ℕ} (λ (x : Bool). if x then 1 else 0) has in
    let before : t.most ≤ max t.most tasks = omega arith in
    let now : tasks ≤ max t.most tasks = omega arith in
    tallied_set t (record t { most = max t.most tasks; calls = if is_some s.call then t.calls else t.calls + 1 }) seats b s new within is p
    before (omega (arith, many, now)) (by_call (is_some s.call) one)
  where
    by_call : (x : Bool) → one_at new ≡ 1 → (if x then t.calls else t.calls + 1) + (if x then 1 else 0) ≡ t.calls + one_at new
    by_call true one = omega (arith, one)
    by_call false one = omega (arith, one)

-- there are calls where a seat has one, and no more than seats
pub some_open : (t : Tally) (seats : List Seat) (b : ℕ) (s : Seat) → b < length seats → s ≡ get_or seats b s → IsTallied t seats
    → is_some s.call ≡ true → 0 < t.calls
some_open t seats b s within is p has =
    let there = open_at seats b s within is in
    let one : one_at s ≡ 1 = ap {B = ℕ} (λ (x : Bool). if x then 1 else 0) has in
    let calls = p.calls in
    omega (arith, there, one, calls)

pub few_open : (t : Tally) (seats : List Seat) → IsTallied t seats → t.calls ≤ length seats
few_open t seats p = let few = open_few seats in let calls = p.calls in omega (arith, few, calls)

-- ---- a seat comes last, on which no call is under way

pub tallied_more : (t : Tally) (seats : List Seat) (s : Seat) → s.left.items ≡ [] → s.call ≡ None → IsTallied t seats → IsTallied t (seats ++ s ∷ [])
tallied_more t seats s empty none p = record { left = left_more seats p.left; calls = p.calls ∙ sym (open_more seats) }
  where
    none_kept : length s.left.items ≡ 0
    none_kept = ap (λ (xs : List Task). length xs) empty

    left_more : (xs : List Seat) → AllLeft xs t.most → AllLeft (xs ++ s ∷ []) t.most
    left_more [] all = (let h = none_kept in omega (arith, h), tt)
    left_more (x ∷ xs) all = (all.0, left_more xs all.1)

    open_more : (xs : List Seat) → open_in (xs ++ s ∷ []) ≡ open_in xs
    open_more [] = ap (λ (o : Option KeptCall). (if is_some o then 1 else 0) + 0) none
    open_more (x ∷ xs) = ap (λ (n : ℕ). one_at x + n) (open_more xs)

-- ---- none has a call

pub none_open : (t : Tally) (seats : List Seat) → IsTallied t seats → (t.calls == 0) ≡ list_all (λ (s : Seat). is_none s.call) seats
none_open t seats p = ap (λ (n : ℕ). n == 0) p.calls ∙ counted seats
  where
    by_seat : (s : Seat) (n : ℕ) (all : Bool) (o : Option KeptCall) → (n == 0) ≡ all → ((if is_some o then 1 else 0) + n == 0) ≡ (is_none o && all)
    by_seat s n all None is = let same : 0 + n ≡ n = omega arith in ap (λ (m : ℕ). m == 0) same ∙ is
    by_seat s n all (Some k) is = grind (arith, nat_tests)

    counted : (xs : List Seat) → (open_in xs == 0) ≡ list_all (λ (s : Seat). is_none s.call) xs
    counted [] = refl
    counted (x ∷ xs) = by_seat x (open_in xs) (list_all (λ (s : Seat). is_none s.call) xs) x.call (counted xs)
