-- What stands in the order of its places, found by its place.
use Rattle.std.proofs.Common.{◌≡◌, ◌∙◌, inl, inr, ℕ, ◌<◌, ◌≤◌, Bool, true, false, ltb, ltb-true, ltb-false, ◌&&◌, ◌||◌, cond, List, [], ◌∷◌, length, get_or, Some, None, refl, sym, ap, subst, arith}
use Rattle.std.specs.Prelude.{find, ◌==◌}
use Rattle.std.specs.List.{list_any, slice_get}
use Rattle.std.specs.List.Sorted.{IsNonDecreasingBy, IsPartitionPoint}
use Rattle.std.proofs.lemmas.Bool.{cases_lt}
use Rattle.std.proofs.lemmas.Bool.Decides.{nat_tests}
use Rattle.std.proofs.lemmas.List.Sums.{position_or_len_is}
use Rattle.std.proofs.lemmas.List.Folds.{find_at}
use Rattle.std.proofs.lemmas.Option.{slice_get-get_or, slice_get_past}
use Rattle.decision_journal.specs.Index.{AreInOrder}
use Rattle.decision_journal.specs.Journal.{is_decision, is_decision_at}
use Rattle.decision_journal.specs.declared.journal.Standing.{Standing}

pub rising : (xs : List Standing) → AreInOrder xs → IsNonDecreasingBy (λ s. s.place) xs
rising xs order i j d le within = elim (cases_lt i j) [
  | inl less ↦ omega (arith, order i j d less within)
  | inr more ↦ let same : i ≡ j = omega arith in omega (arith, ap (λ (k : ℕ). (get_or xs k d).place) same)
]

elsewhere : (place : ℕ) (s : Standing) → (s.place ≡ place → ⊥) → is_decision_at place s ≡ false
elsewhere place s differs = by_test (s.place == place) refl
  where
    by_test : (b : Bool) → (s.place == place) ≡ b → (b && is_decision s.item) ≡ false
    by_test true e = absurd (differs (grind (arith, nat_tests, e)))
    by_test false e = refl

module _ (xs : List Standing) (order : AreInOrder xs) (place i : ℕ) (point : IsPartitionPoint (λ (s : Standing). ltb s.place place ≡ true) (λ s. ltb s.place place ≡ false) xs i) where
  before : (k : ℕ) (d : Standing) → i ≤ length xs → k < i → is_decision_at place (get_or xs k d) ≡ false
  before k d within lt = elsewhere place (get_or xs k d) (λ e. omega (arith, ltb-true _ _ (point.0 k d (omega arith) lt), e))

  pub found_here : (d : Standing) → i < length xs → is_decision_at place (get_or xs i d) ≡ true → find (is_decision_at place) xs ≡ Some (get_or xs i d)
  found_here d within passes =
      find_at (is_decision_at place) xs
      ∙ ap (slice_get xs) (position_or_len_is (is_decision_at place) xs i d (omega arith) (λ k lt. before k d (omega arith) lt) (λ lt. passes))
      ∙ slice_get-get_or xs i d within

  pub none_here : ((d : Standing) → i < length xs → is_decision_at place (get_or xs i d) ≡ false) → i ≤ length xs → find (is_decision_at place) xs ≡ None
  none_here fails within = by_list xs refl
    where
      at_each : (k : ℕ) (d : Standing) → k < length xs → is_decision_at place (get_or xs k d) ≡ false
      at_each k d lt = elim (cases_lt k i) [
        | inl less ↦ before k d within less
        | inr le ↦ elim (cases_lt i k) [
          | inl more ↦ elsewhere place (get_or xs k d) (λ e. omega (arith, order i k d more lt, ltb-false _ _ (point.1 i d (omega arith) (omega (arith, lt, more))), e))
          | inr le_too ↦ let same : i ≡ k = omega arith in subst (λ (n : ℕ). is_decision_at place (get_or xs n d) ≡ false) same (fails d (omega arith))
        ]
      ]

      by_list : (ys : List Standing) → ys ≡ xs → find (is_decision_at place) xs ≡ None
      by_list [] e = ap (find (is_decision_at place)) (sym e)
      by_list (y ∷ ys) e =
          find_at (is_decision_at place) xs
          ∙ ap (slice_get xs) (position_or_len_is (is_decision_at place) xs (length xs) y (omega arith) (λ k lt. at_each k y lt) (λ lt. absurd (omega (arith, lt))))
          ∙ slice_get_past xs (length xs) (omega arith)

-- ---- a record is there where it is found

pub any_found : (p : Standing → Bool) (ss : List Standing) (s : Standing) → find p ss ≡ Some s → list_any p ss ≡ true
any_found p [] s e = absurd cc
any_found p (x ∷ ss) s e = by_test (any_found p ss s) (p x) e
  where
    by_test : (find p ss ≡ Some s → list_any p ss ≡ true) → (b : Bool) → cond b (Some x) (find p ss) ≡ Some s → (b || list_any p ss) ≡ true
    by_test rest true e = refl
    by_test rest false e = rest e

pub none_found : (p : Standing → Bool) (ss : List Standing) → find p ss ≡ None → list_any p ss ≡ false
none_found p [] e = refl
none_found p (x ∷ ss) e = by_test (none_found p ss) (p x) e
  where
    by_test : (find p ss ≡ None → list_any p ss ≡ false) → (b : Bool) → cond b (Some x) (find p ss) ≡ None → (b || list_any p ss) ≡ false
    by_test rest true e = absurd cc
    by_test rest false e = rest e
