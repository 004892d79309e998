-- Whom the decision record names: of those that take part, the ones that have voted commit.
use Rattle.std.proofs.Common.{◌≡◌, ◌∙◌, refl, sym, ap, subst, ℕ, ◌+◌, ◌≤◌, ◌&&◌, ◌||◌, Bool, true, false, List, [], ◌∷◌, map, arith, if◌then◌else◌}
use Rattle.std.specs.Prelude.{◌==◌, filter}
use Rattle.std.specs.List.{AllByRecursion, list_any}
use Rattle.std.proofs.lemmas.Bool.Decides.{nat_tests}
use Rattle.std.proofs.lemmas.List.Sums.{sum_by-cons}
use Rattle.resource_votes.specs.History.{times}
use Rattle.resource_votes.specs.declared.registration.Registration.{Registration}
use Rattle.two_phase.specs.Parties.{has_voted_commit}
use Rattle.two_phase.specs.Stages as stages
use Rattle.two_phase.specs.Stages.{Standing, Waiting, Going as UnderWay}
use Rattle.two_phase.specs.declared.party.Party.{Party}
use Rattle.decision_journal.specs.declared.record.Registration.{Registration as Recorded}
use Rattle.coordinator.specs.Hearing.{named, recorded as named_by}
use Rattle.family_laws.specs.Sound.{HasParties}
use Rattle.family_rules.specs.Recording.{recorded}

-- ---- numbers that are there once

abbrev at_number : ℕ → Party → Bool
at_number i p = p.index == i && has_voted_commit p

cons_times : (i x : ℕ) (xs : List ℕ) → times i (x ∷ xs) ≡ (if x == i then 1 else 0) + times i xs
cons_times i x xs = sum_by-cons (λ (n : ℕ). if n == i then 1 else 0) x xs

-- what isn't among some is none of them
none_voted : (i : ℕ) (ps : List Party) → times i (map (λ (p : Party). p.index) ps) ≡ 0 → list_any (at_number i) ps ≡ false
none_voted i [] none = refl
none_voted i (p ∷ ps) none = by_number (p.index == i) (none_voted i ps) (sym (cons_times i p.index (map (λ (q : Party). q.index) ps)) ∙ none)
  where
    by_number : (same : Bool) → (times i (map (λ (q : Party). q.index) ps) ≡ 0 → list_any (at_number i) ps ≡ false)
        → (if same then 1 else 0) + times i (map (λ (q : Party). q.index) ps) ≡ 0 → ((same && has_voted_commit p) || list_any (at_number i) ps) ≡ false
    by_number true rest none = absurd (omega (arith, none))
    by_number false rest none = rest (omega (arith, none))

same_number : (i : ℕ) → (i == i) ≡ true
same_number i = grind (arith, nat_tests)

rest_none : (i : ℕ) (xs : List ℕ) → times i (i ∷ xs) ≤ 1 → times i xs ≡ 0
rest_none i xs once =
    let one = cons_times i i xs in
    let is : (if i == i then 1 else 0) ≡ 1 = ap {B = ℕ} (λ (b : Bool). if b then 1 else 0) (same_number i) in
    omega (arith, once, one, is)

-- a number that is there once is that of the one that has it
abbrev AreOnce : List Party → Type 0
AreOnce ps = (i : ℕ) → times i (map (λ (p : Party). p.index) ps) ≤ 1

rest_once : (p : Party) (ps : List Party) → AreOnce (p ∷ ps) → AreOnce ps
rest_once p ps once = λ i.
    let all = once i in
    let one = cons_times i p.index (map (λ (q : Party). q.index) ps) in
    omega (arith, all, one)

abbrev IsOwn : List Party → Party → Type 0
IsOwn ps q = list_any (at_number q.index) ps ≡ has_voted_commit q

or_none : (x y : Bool) → y ≡ false → (x || y) ≡ x
or_none true y none = refl
or_none false y none = none

head_own : (p : Party) (ps : List Party) → AreOnce (p ∷ ps) → IsOwn (p ∷ ps) p
head_own p ps once =
    ap (λ (b : Bool). (b && has_voted_commit p) || list_any (at_number p.index) ps) (same_number p.index)
    ∙ or_none (has_voted_commit p) (list_any (at_number p.index) ps) (none_voted p.index ps (rest_none p.index (map (λ (q : Party). q.index) ps) (once p.index)))

-- one behind it has another number
other_own : (p : Party) (ps qs : List Party) → times p.index (map (λ (q : Party). q.index) qs) ≡ 0 → AllByRecursion (IsOwn ps) qs → AllByRecursion (IsOwn (p ∷ ps)) qs
other_own p ps [] none all = tt
other_own p ps (q ∷ qs) none all =
    let split = cons_times p.index q.index (map (λ (x : Party). x.index) qs) in
    (by_number (p.index == q.index) refl, other_own p ps qs (omega (arith, split, none)) all.1)
  where
    turned : (p.index == q.index) ≡ true → (q.index == p.index) ≡ true
    turned e = grind (arith, nat_tests, e)

    by_number : (same : Bool) → (p.index == q.index) ≡ same → ((same && has_voted_commit p) || list_any (at_number q.index) ps) ≡ has_voted_commit q
    by_number true e =
        let split = cons_times p.index q.index (map (λ (x : Party). x.index) qs) in
        let one : (if q.index == p.index then 1 else 0) ≡ 1 = ap {B = ℕ} (λ (b : Bool). if b then 1 else 0) (turned e) in
        absurd (omega (arith, split, none, one))
    by_number false e = all.0

all_own : (ps : List Party) → AreOnce ps → AllByRecursion (IsOwn ps) ps
all_own [] once = tt
all_own (p ∷ ps) once =
    (head_own p ps once, other_own p ps ps (rest_none p.index (map (λ (q : Party). q.index) ps) (once p.index)) (all_own ps (rest_once p ps once)))

-- ---- those that take part, as a record names them

abbrev AreAlike : List Party → List Registration → Type 0
AreAlike ps rs = (map (λ (p : Party). p.index) ps ≡ map (λ (r : Registration). r.index) rs) × (map (λ (p : Party). p.to) ps ≡ map (λ (r : Registration). r.to) rs)

first_number : (x y : ℕ) (xs ys : List ℕ) → x ∷ xs ≡ y ∷ ys → (x ≡ y) × (xs ≡ ys)
first_number x y xs ys e = (cc (e), cc (e))

first_octets : (x y : List ℕ) (xs ys : List (List ℕ)) → x ∷ xs ≡ y ∷ ys → (x ≡ y) × (xs ≡ ys)
first_octets x y xs ys e = (cc (e), cc (e))

alike_one : (p : Party) (r : Registration) → p.index ≡ r.index → p.to ≡ r.to → recorded r ≡ named_by p
alike_one p r number to =
    ap (λ (n : ℕ). record { index = n; reference = r.to }) (sym number) ∙ ap (λ (xs : List ℕ). record { index = p.index; reference = xs }) (sym to)

voters : (t : ℕ → Bool) (ps : List Party) (rs : List Registration) → AreAlike ps rs → AllByRecursion (λ (p : Party). t p.index ≡ has_voted_commit p) ps
    → filter (λ (r : Recorded). t r.index) (map recorded rs) ≡ map named_by (filter has_voted_commit ps)
voters t [] [] same own = refl
voters t [] (r ∷ rs) same own = absurd (cc (same.0))
voters t (p ∷ ps) [] same own = absurd (cc (same.0))
voters t (p ∷ ps) (r ∷ rs) same own =
    let number = first_number p.index r.index (map (λ (x : Party). x.index) ps) (map (λ (x : Registration). x.index) rs) same.0 in
    let to = first_octets p.to r.to (map (λ (x : Party). x.to) ps) (map (λ (x : Registration). x.to) rs) same.1 in
    let more = voters t ps rs (number.1, to.1) own.1 in
    ap (λ (x : Recorded). if t x.index then x ∷ filter (λ (y : Recorded). t y.index) (map recorded rs) else filter (λ (y : Recorded). t y.index) (map recorded rs)) (alike_one p r number.0 to.0)
    ∙ (ap (λ (b : Bool). if b then named_by p ∷ filter (λ (y : Recorded). t y.index) (map recorded rs) else filter (λ (y : Recorded). t y.index) (map recorded rs)) own.0
    ∙ by_vote (has_voted_commit p) more)
  where
    by_vote : (b : Bool) → filter (λ (y : Recorded). t y.index) (map recorded rs) ≡ map named_by (filter has_voted_commit ps)
        → (if b then named_by p ∷ filter (λ (y : Recorded). t y.index) (map recorded rs) else filter (λ (y : Recorded). t y.index) (map recorded rs))
        ≡ map named_by (if b then p ∷ filter has_voted_commit ps else filter has_voted_commit ps)
    by_vote true e = ap (λ (xs : List Recorded). named_by p ∷ xs) e
    by_vote false e = e

recorded_numbers : (rs : List Registration) → map (λ (r : Recorded). r.index) (map recorded rs) ≡ map (λ (r : Registration). r.index) rs
recorded_numbers [] = refl
recorded_numbers (r ∷ rs) = ap (λ (xs : List ℕ). r.index ∷ xs) (recorded_numbers rs)

pub voters_named : (s : Standing) (rs : List Registration) → HasParties s rs → stages.wants_decision s ≡ true
    → ((i : ℕ) → times i (map (λ (r : Recorded). r.index) (map recorded rs)) ≤ 1)
    → filter (λ (r : Recorded). stages.is_named s r.index) (map recorded rs) ≡ named s
voters_named (Waiting room) rs same wants once = absurd (cc (wants))
voters_named (UnderWay c) rs same wants once =
    let numbers_same : map (λ (r : Recorded). r.index) (map recorded rs) ≡ map (λ (p : Party). p.index) c.parties = recorded_numbers rs ∙ sym same.0 in
    voters (λ g. list_any (at_number g) c.parties) c.parties rs same
    (all_own c.parties (λ i. subst (λ (xs : List ℕ). times i xs ≤ 1) numbers_same (once i)))
