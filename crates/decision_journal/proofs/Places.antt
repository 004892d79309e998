-- What stands, found by its place.
use Rattle.std.proofs.Common.{◌≡◌, inl, inr, ℕ, ◌+◌, ◌<◌, ◌≤◌, Bool, true, false, cond, not, ltb, ltb-true, ◌&&◌, ◌||◌, List, [], ◌∷◌, length, get_or, Some, None, refl, ap, subst, ◌∙◌, arith}
use Rattle.std.specs.Prelude.{position, ◌==◌}
use Rattle.std.specs.List.{All, position_or_len, list_any}
use Rattle.std.specs.List.Sorted.{IsNonDecreasingBy, IsPartitionPoint}
use Rattle.std.proofs.lemmas.Bool.{cases_lt, le-ltb, ltb-false, lt-ltb}
use Rattle.std.proofs.lemmas.Bool.Decides.{nat_tests}
use Rattle.std.proofs.lemmas.List.{get_or_default}
use Rattle.std.proofs.lemmas.List.Sums.{position_or_len_is}
use Rattle.std.proofs.lemmas.List.Folds.{list_any_none, list_any_at}
use Rattle.std.proofs.lemmas.List.Quantifiers.{position-Some}
use Rattle.decision_journal.specs.declared.journal.Standing.{Standing}
use Rattle.decision_journal.specs.Index.{AreInOrder}

abbrev pub is_at : ℕ → Standing → Bool
is_at place s = s.place == place

-- ---- a test, and the first that passes it

next : (n m k : ℕ) → k ≡ m + 1 → ltb (1 + n) k ≡ ltb n m
next n m k e = by_test (ltb n m) refl
  where
    by_test : (b : Bool) → ltb n m ≡ b → ltb (1 + n) k ≡ b
    by_test true t = let lt = ltb-true n m t in lt-ltb (1 + n) k (omega arith)
    by_test false t = let le = ltb-false n m t in le-ltb (1 + n) k (omega arith)

pub any_place : (p : Standing → Bool) (xs : List Standing) → ltb (position_or_len p xs) (length xs) ≡ list_any p xs
any_place p [] = refl
any_place p (x ∷ xs) = by_test (p x) (any_place p xs)
  where
    by_test : (b : Bool) → ltb (position_or_len p xs) (length xs) ≡ list_any p xs → ltb (cond (not b) (1 + position_or_len p xs) 0) (length (x ∷ xs)) ≡ (b || list_any p xs)
    by_test true rest = lt-ltb 0 (length (x ∷ xs)) (omega arith)
    by_test false rest = next (position_or_len p xs) (length xs) (length (x ∷ xs)) (omega arith) ∙ rest

none_passes : (p : Standing → Bool) (xs : List Standing) → All (λ x. p x ≡ false) xs → (position p xs ≡ None) × (list_any p xs ≡ false)
none_passes p xs none =
    let no = list_any_none p xs none in
    (ap (λ (b : Bool). cond b (Some (position_or_len p xs)) None) (any_place p xs ∙ no), no)

pub one_passes : (p : Standing → Bool) (xs : List Standing) (i : ℕ) (d : Standing) → i < length xs → p (get_or xs i d) ≡ true → ((k : ℕ) → k < i → p (get_or xs k d) ≡ false) → (position p xs ≡ Some i) × (list_any p xs ≡ true)
one_passes p xs i d within passes before =
    let at = position_or_len_is p xs i d (omega arith) before (λ lt. passes) in
    let yes = list_any_at p xs i d within passes in
    (ap (λ (b : Bool). cond b (Some (position_or_len p xs)) None) (any_place p xs ∙ yes) ∙ ap Some at, yes)

-- ---- in order

pub rising : (xs : List Standing) → AreInOrder xs → IsNonDecreasingBy (λ s. s.place) xs
rising xs order i j d le within = elim (cases_lt i j) [
  | inl less ↦ omega (arith, order i j d less within)
  | inr more ↦ let same : i ≡ j = omega arith in omega (arith, ap (λ (k : ℕ). (get_or xs k d).place) same)
]

one_place : (xs : List Standing) → AreInOrder xs → (i k : ℕ) (d : Standing) → i < length xs → k < length xs → (get_or xs i d).place ≡ (get_or xs k d).place → i ≡ k
one_place xs order i k d i_in k_in same = elim (cases_lt i k) [
  | inl less ↦ absurd (omega (arith, order i k d less k_in, same))
  | inr le ↦ elim (cases_lt k i) [ inl less ↦ absurd (omega (arith, order k i d less i_in, same)) | inr le_too ↦ omega arith ]
]

not_at : (place : ℕ) (s : Standing) → (s.place ≡ place → ⊥) → is_at place s ≡ false
not_at place s differs = grind (arith, nat_tests, differs)

module _ (xs : List Standing) (order : AreInOrder xs) (place i : ℕ) (point : IsPartitionPoint (λ (s : Standing). ltb s.place place ≡ true) (λ s. ltb s.place place ≡ false) xs i) where
  below : (k : ℕ) (d : Standing) → k < i → (get_or xs k d).place < place
  below k d lt = ltb-true _ _ (point.0 k d (omega arith) lt)

  above : (k : ℕ) (d : Standing) → i ≤ k → k < length xs → place ≤ (get_or xs k d).place
  above k d le within = ltb-false _ _ (point.1 k d le within)

  pub at_point_by : (d : Standing) → i < length xs → (get_or xs i d).place ≡ place → position (is_at place) xs ≡ Some i
  at_point_by d within same = (one_passes (is_at place) xs i d within (grind (arith, nat_tests, same)) (λ k lt. not_at place (get_or xs k d) (λ e. omega (arith, below k d lt, e)))).0

  pub not_at_point : ((d : Standing) → i < length xs → (get_or xs i d).place ≡ place → ⊥) → position (is_at place) xs ≡ None
  not_at_point differs = (none_passes (is_at place) xs (λ k d within. not_at place (get_or xs k d) (λ e.
      elim (cases_lt k i) [
        | inl less ↦ omega (arith, below k d less, e)
        | inr le ↦ elim (cases_lt i k) [
          | inl more ↦ omega (arith, above i d (omega arith) (omega arith), order i k d more within, e)
          | inr le_too ↦ let same : i ≡ k = omega arith in differs d (omega arith) (ap (λ (n : ℕ). (get_or xs n d).place) same ∙ e)
        ]
      ]))).0

-- ---- at the place, and passing another test

module _ (xs : List Standing) (order : AreInOrder xs) (place : ℕ) (q : Standing → Bool) where
  abbrev p : Standing → Bool
  p s = s.place == place && q s

  fails_left : (s : Standing) → is_at place s ≡ false → p s ≡ false
  fails_left s e = ap (λ (b : Bool). b && q s) e

  fails_right : (s : Standing) → q s ≡ false → p s ≡ false
  fails_right s e = ap (λ (b : Bool). s.place == place && b) e ∙ and_false (s.place == place)
    where
      and_false : (b : Bool) → (b && false) ≡ false
      and_false true = refl
      and_false false = refl

  pub none_there : position (is_at place) xs ≡ None → (position p xs ≡ None) × (list_any p xs ≡ false)
  none_there none = none_passes p xs (λ k d within. fails_left (get_or xs k d) (by_test k d within (is_at place (get_or xs k d)) refl))
    where
      by_test : (k : ℕ) (d : Standing) → k < length xs → (b : Bool) → is_at place (get_or xs k d) ≡ b → is_at place (get_or xs k d) ≡ false
      by_test k d within false e = e
      by_test k d within true e =
          absurd (let any = any_place (is_at place) xs ∙ list_any_at (is_at place) xs k d within e in
          let some = ap (λ (b : Bool). cond b (Some (position_or_len (is_at place) xs)) None) any in
          cc)

  pub one_there : (i : ℕ) (d : Standing) → position (is_at place) xs ≡ Some i → q (get_or xs i d) ≡ true → (position p xs ≡ Some i) × (list_any p xs ≡ true)
  one_there i d is passes =
      let first = position-Some (is_at place) xs i d is in
      one_passes p xs i d first.0 (ap (λ (b : Bool). b && q (get_or xs i d)) first.1 ∙ passes) (λ k lt. fails_left (get_or xs k d) (first.2 k lt))

  pub other_there : (i : ℕ) (e : Standing) → position (is_at place) xs ≡ Some i → q (get_or xs i e) ≡ false → (position p xs ≡ None) × (list_any p xs ≡ false)
  other_there i e is fails = none_passes p xs (λ k d within. by_test k d within (is_at place (get_or xs k d)) refl)
    where
      default_same : (d : Standing) → i < length xs → q (get_or xs i d) ≡ false
      default_same d within = ap q (get_or_default xs i d e within) ∙ fails

      by_test : (k : ℕ) (d : Standing) → k < length xs → (b : Bool) → is_at place (get_or xs k d) ≡ b → p (get_or xs k d) ≡ false
      by_test k d within false at = fails_left (get_or xs k d) at
      by_test k d within true at =
          let first = position-Some (is_at place) xs i d is in
          let same : i ≡ k = one_place xs order i k d first.0 within (grind (arith, nat_tests, first.1, at)) in
          fails_right (get_or xs k d) (subst (λ (n : ℕ). q (get_or xs n d) ≡ false) same (default_same d first.0))

  -- the length within the list
  pub is_within : (i : ℕ) (d : Standing) → position (is_at place) xs ≡ Some i → i < length xs
  is_within i d is = (position-Some (is_at place) xs i d is).0

-- ---- without an element to stand for the others

module _ (xs : List Standing) (order : AreInOrder xs) (place i : ℕ) (point : IsPartitionPoint (λ (s : Standing). ltb s.place place ≡ true) (λ s. ltb s.place place ≡ false) xs i) where
  pub at_point : i < length xs → ((d : Standing) → (get_or xs i d).place ≡ place) → position (is_at place) xs ≡ Some i
  at_point within same = at_by xs order point within same
    where
      at_by : (xs : List Standing) → AreInOrder xs → IsPartitionPoint (λ (s : Standing). ltb s.place place ≡ true) (λ s. ltb s.place place ≡ false) xs i → i < length xs → ((d : Standing) → (get_or xs i d).place ≡ place) → position (is_at place) xs ≡ Some i
      at_by [] order point within same = absurd (omega (arith, within))
      at_by (x ∷ xs) order point within same = at_point_by (x ∷ xs) order place i point x within (same x)

-- the record there, and what another test says of it
module _ (xs : List Standing) (order : AreInOrder xs) (place : ℕ) (q : Standing → Bool) (i : ℕ) (is : position (is_at place) xs ≡ Some i) where
  pub one_at : ((d : Standing) → i < length xs → q (get_or xs i d) ≡ true) → (position (λ s. s.place == place && q s) xs ≡ Some i) × (list_any (λ s. s.place == place && q s) xs ≡ true)
  one_at passes = by_list xs order is passes
    where
      by_list : (xs : List Standing) → AreInOrder xs → position (is_at place) xs ≡ Some i → ((d : Standing) → i < length xs → q (get_or xs i d) ≡ true) → (position (λ s. s.place == place && q s) xs ≡ Some i) × (list_any (λ s. s.place == place && q s) xs ≡ true)
      by_list [] order is passes = absurd cc
      by_list (x ∷ xs) order is passes = one_there (x ∷ xs) order place q i x is (passes x (is_within (x ∷ xs) order place q i x is))

  pub other_at : ((d : Standing) → i < length xs → q (get_or xs i d) ≡ false) → (position (λ s. s.place == place && q s) xs ≡ None) × (list_any (λ s. s.place == place && q s) xs ≡ false)
  other_at fails = by_list xs order is fails
    where
      by_list : (xs : List Standing) → AreInOrder xs → position (is_at place) xs ≡ Some i → ((d : Standing) → i < length xs → q (get_or xs i d) ≡ false) → (position (λ s. s.place == place && q s) xs ≡ None) × (list_any (λ s. s.place == place && q s) xs ≡ false)
      by_list [] order is fails = absurd cc
      by_list (x ∷ xs) order is fails = other_there (x ∷ xs) order place q i x is (fails x (is_within (x ∷ xs) order place q i x is))

  -- the test of the record there is that of the list
  pub at_test : (b : Bool) → ((d : Standing) → i < length xs → q (get_or xs i d) ≡ b) → list_any (λ s. s.place == place && q s) xs ≡ b
  at_test true same = (one_at same).1
  at_test false same = (other_at same).1
