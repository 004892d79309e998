-- A put in its turn, by the index of the first put whose cell isn't below.
use Rattle.std.proofs.Common.{◌≡◌, ◌∙◌, inl, inr, ℕ, zero, suc, ◌<◌, ◌≤◌, Bool, true, false, cond, ltb, ltb-true, List, [], ◌∷◌, length, get_or, set, Some, None, refl, ap, arith}
use Rattle.std.specs.Prelude.{◌==◌, nat_lt}
use Rattle.std.specs.List.{AllByRecursion, insert}
use Rattle.std.specs.List.Sorted.{IsNonDecreasingBy, IsPartitionPoint}
use Rattle.std.proofs.lemmas.Bool.{and_parts, cases_lt, eq-eqb, ltb-false, ne_eqb}
use Rattle.std.proofs.lemmas.Bool.Decides.{nat_tests}
use Rattle.decision_journal.specs.Layout.{is_rising, rises_from}
use Rattle.decision_journal.specs.declared.record.Put.{Put}
use Rattle.resource_end.specs.Cells.{value_at, with_put}
use Rattle.resource_end.specs.Inside.{IsGap}

-- the gap of what stands behind the first
rest_gap : (cell i : ℕ) (q : Put) (qs : List Put) → IsGap cell (suc i) (q ∷ qs) → IsGap cell i qs
rest_gap cell i q qs gap = record {
  within = omega (arith, gap.within);
  below = λ k d lt. gap.below (suc k) d (omega arith);
  at = λ d lt. gap.at d (omega arith);
}

module _ (p : Put) where
  in_place : (q : Put) (qs : List Put) → q.cell ≡ p.cell → with_put p (q ∷ qs) ≡ p ∷ qs
  in_place q qs same =
      let yes : (p.cell == q.cell) ≡ true = grind (arith, nat_tests, same) in
      ap (λ b. cond b (p ∷ qs) (cond (nat_lt p.cell q.cell) (p ∷ q ∷ qs) (q ∷ with_put p qs))) yes

  in_turn : (q : Put) (qs : List Put) → p.cell < q.cell → with_put p (q ∷ qs) ≡ p ∷ q ∷ qs
  in_turn q qs lt =
      let no : (p.cell == q.cell) ≡ false = grind (arith, nat_tests, lt) in
      let yes : nat_lt p.cell q.cell ≡ true = grind (arith, nat_tests, lt) in
      (λ i. cond (no i) (p ∷ qs) (cond (yes i) (p ∷ q ∷ qs) (q ∷ with_put p qs)))

  behind : (q : Put) (qs : List Put) → q.cell < p.cell → with_put p (q ∷ qs) ≡ q ∷ with_put p qs
  behind q qs lt =
      let no : (p.cell == q.cell) ≡ false = grind (arith, nat_tests, lt) in
      let not_yet : nat_lt p.cell q.cell ≡ false = grind (arith, nat_tests, lt) in
      (λ i. cond (no i) (p ∷ qs) (cond (not_yet i) (p ∷ q ∷ qs) (q ∷ with_put p qs)))

  pub set_at : (i : ℕ) (qs : List Put) (d : Put) → IsGap p.cell i qs → i < length qs → (get_or qs i d).cell ≡ p.cell → with_put p qs ≡ set qs i p
  set_at i [] d gap within same = absurd (omega arith)
  set_at zero (q ∷ qs) d gap within same = in_place q qs same
  set_at (suc i) (q ∷ qs) d gap within same =
      behind q qs (gap.below zero q (omega arith)) ∙ ap (λ xs. q ∷ xs) (set_at i qs d (rest_gap p.cell i q qs gap) (omega arith) same)

  pub insert_at : (i : ℕ) (qs : List Put) → IsGap p.cell i qs → ((d : Put) → i < length qs → (get_or qs i d).cell ≡ p.cell → ⊥) → with_put p qs ≡ insert qs i p
  insert_at zero [] gap differs = refl
  insert_at (suc i) [] gap differs = absurd (omega (arith, gap.within))
  insert_at zero (q ∷ qs) gap differs =
      let ne : q.cell ≡ p.cell → ⊥ = differs q (omega arith) in
      let le : p.cell ≤ q.cell = gap.at q (omega arith) in
      in_turn q qs (omega (arith, ne, le))
  insert_at (suc i) (q ∷ qs) gap differs =
      behind q qs (gap.below zero q (omega arith)) ∙ ap (λ xs. q ∷ xs) (insert_at i qs (rest_gap p.cell i q qs gap) (λ d lt. differs d (omega arith)))

-- ---- puts that rise

rest_rises : (q : Put) (qs : List Put) → is_rising (q ∷ qs) ≡ true → is_rising qs ≡ true
rest_rises q [] h = refl
rest_rises q (p ∷ ps) h = (and_parts (nat_lt q.cell p.cell) (rises_from p.cell ps) h).1

above : (cell : ℕ) (puts : List Put) → rises_from cell puts ≡ true → (k : ℕ) (d : Put) → k < length puts → cell < (get_or puts k d).cell
above cell [] h k d lt = absurd (omega arith)
above cell (p ∷ ps) h zero d lt = grind (arith, nat_tests, (and_parts (nat_lt cell p.cell) (rises_from p.cell ps) h).0)
above cell (p ∷ ps) h (suc k) d lt =
    let both = and_parts (nat_lt cell p.cell) (rises_from p.cell ps) h in
    let first : cell < p.cell = grind (arith, nat_tests, both.0) in
    omega (arith, first, above p.cell ps both.1 k d (omega arith))

pub not_falling : (puts : List Put) → is_rising puts ≡ true → IsNonDecreasingBy (λ (p : Put). p.cell) puts
not_falling [] h i j d le within = absurd (omega arith)
not_falling (p ∷ ps) h zero zero d le within = omega arith
not_falling (p ∷ ps) h zero (suc j) d le within = omega (arith, above p.cell ps h j d (omega arith))
not_falling (p ∷ ps) h (suc i) zero d le within = absurd (omega arith)
not_falling (p ∷ ps) h (suc i) (suc j) d le within = not_falling ps (rest_rises p ps h) i j d (omega arith) (omega arith)

-- what they say of a cell is what the put at the gap says, where it is of that cell
pub value_there : (cell i : ℕ) (qs : List Put) (d : Put) → IsGap cell i qs → i < length qs → (get_or qs i d).cell ≡ cell
    → value_at cell qs ≡ Some (get_or qs i d).value
value_there cell i [] d gap within same = absurd (omega arith)
value_there cell zero (q ∷ qs) d gap within same = ap (λ b. cond b (Some q.value) (value_at cell qs)) (eq-eqb q.cell cell same)
value_there cell (suc i) (q ∷ qs) d gap within same =
    let less : q.cell < cell = gap.below zero q (omega arith) in
    ap (λ b. cond b (Some q.value) (value_at cell qs)) (ne_eqb q.cell cell (λ e. omega (arith, less, e)))
    ∙ value_there cell i qs d (rest_gap cell i q qs gap) (omega arith) same

-- and else nothing
pub value_nowhere : (cell : ℕ) (puts : List Put) → ((k : ℕ) (d : Put) → k < length puts → (get_or puts k d).cell ≡ cell → ⊥) → value_at cell puts ≡ None
value_nowhere cell [] never = refl
value_nowhere cell (p ∷ ps) never =
    ap (λ b. cond b (Some p.value) (value_at cell ps)) (ne_eqb p.cell cell (never zero p (omega arith)))
    ∙ value_nowhere cell ps (λ k d lt. never (suc k) d (omega arith))

-- none behind the gap is of the cell, where the one at it isn't
pub other_cells : (cell i : ℕ) (puts : List Put) → is_rising puts ≡ true → IsGap cell i puts → ((d : Put) → i < length puts → (get_or puts i d).cell ≡ cell → ⊥)
    → (k : ℕ) (d : Put) → k < length puts → (get_or puts k d).cell ≡ cell → ⊥
other_cells cell i puts h gap differs k d lt e = elim (cases_lt k i) [
  | inl less ↦ omega (arith, gap.below k d less, e)
  | inr le ↦
      let there : i < length puts = omega (arith, le, lt) in
      let at : cell ≤ (get_or puts i d).cell = gap.at d there in
      let up : (get_or puts i d).cell ≤ (get_or puts k d).cell = not_falling puts h i k d (omega (arith, le)) lt in
      differs d there (omega (arith, at, up, e))
]

-- the gap is where the cells below end
pub gap_at : (cell i : ℕ) (puts : List Put) → i ≤ length puts → IsPartitionPoint (λ (p : Put). ltb p.cell cell ≡ true) (λ p. ltb p.cell cell ≡ false) puts i → IsGap cell i puts
gap_at cell i puts within point = record {
  within = within;
  below = λ k d less. ltb-true _ _ (point.0 k d (omega (arith, within, less)) less);
  at = λ d lt. ltb-false _ _ (point.1 i d (omega arith) lt);
}

-- what holds of each put holds of that at an index
pub all_at : (P : Put → Type 0) (puts : List Put) → AllByRecursion P puts → (k : ℕ) (d : Put) → k < length puts → P (get_or puts k d)
all_at P [] all k d lt = absurd (omega arith)
all_at P (p ∷ puts) all zero d lt = all.0
all_at P (p ∷ puts) all (suc k) d lt = all_at P puts all.1 k d (omega arith)
