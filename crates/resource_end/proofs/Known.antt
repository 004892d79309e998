-- What a map of cells has stored: one cell of it, and what it has once one more is stored.
use Rattle.std.proofs.Common.{◌≡◌, ◌∙◌, ℕ, Bool, true, false, cond, List, [], ◌∷◌, Option, Some, None, refl, sym, ap, subst, arith}
use Rattle.std.specs.Prelude.{◌==◌, ◌<◌, is_some, nat_lt}
use Rattle.std.specs.BTreeMap.{insert_entry, is_at}
use Rattle.std.specs.List.{AllByRecursion, cons_option}
use Rattle.std.specs.List.Sorted.{IsStrictlySortedBy}
use Rattle.std.specs.Map.{keys_of, lookup, set_value}
use Rattle.std.specs.Option.{option_and_then, option_map}
use Rattle.std.specs.declared.cmp.Ordering.{Ordering}
use Rattle.std.specs.declared.cmp.Ordering.TheVariants.{Less, Equal, Greater}
use Rattle.std.specs.Ordering.{MatchOrdering, is_eq, match_ordering, nat_cmp}
use Rattle.std.proofs.lemmas.Bool.{both_ways}
use Rattle.std.proofs.lemmas.Bool.Decides.{nat_tests}
use Rattle.std.proofs.lemmas.Cmp.{ranked, nat_cmp_total, eq_by_cmp_equiv}
use Rattle.std.proofs.lemmas.Map.{lookup-none}
use Rattle.std.proofs.lemmas.Map.Entries.{none_below_head, none_past_head}
use Rattle.std.proofs.lemmas.Map.Keys.{IsDistinct-from_sorted, sorted_head, sorted_tail}
use Rattle.decision_journal.specs.declared.record.Put.{Put}
use Rattle.resource_end.specs.declared.cells.Cell.{Cell}
use Rattle.resource_end.specs.Cells.{value_at, with_put}
use Rattle.resource_end.specs.Inside.{stored_cells}

-- what is stored with one more cell in front
abbrev in_front : ℕ → Option ℕ → List Put → List Put
in_front cell s puts = cons_option (option_map (λ v. record { cell = cell; value = v }) s) puts

none_twice : (k : ℕ) (e : ℕ × Cell) (es : List (ℕ × Cell)) → IsStrictlySortedBy nat_cmp (keys_of (e ∷ es)) → is_eq (nat_cmp k e.0) ≡ true → lookup (is_at (nat_cmp k)) es ≡ None
none_twice k e es sorted equal =
    lookup-none (is_at (nat_cmp k)) es (none_past_head (eq_by_cmp_equiv nat_cmp_total) k e es (IsDistinct-from_sorted nat_cmp (keys_of (e ∷ es)) sorted) equal)

none_there : (k : ℕ) (e : ℕ × Cell) (es : List (ℕ × Cell)) → IsStrictlySortedBy nat_cmp (keys_of (e ∷ es)) → nat_cmp k e.0 ≡ Less → lookup (is_at (nat_cmp k)) es ≡ None
none_there k e es sorted less = lookup-none (is_at (nat_cmp k)) es (none_below_head nat_cmp_total k e es sorted less).1

-- ---- one cell

abbrev stored_in : ℕ → List (ℕ × Cell) → Option ℕ
stored_in cell es = option_and_then (λ c. c.stored) (lookup (is_at (nat_cmp cell)) es)

other_cell : (cell key : ℕ) (s : Option ℕ) (puts : List Put) → (key == cell) ≡ false → value_at cell (in_front key s puts) ≡ value_at cell puts
other_cell cell key None puts h = refl
other_cell cell key (Some v) puts h = ap (λ b. cond b (Some v) (value_at cell puts)) h

that_cell : (cell key : ℕ) (s : Option ℕ) (puts : List Put) → (key == cell) ≡ true → value_at cell puts ≡ None → value_at cell (in_front key s puts) ≡ s
that_cell cell key None puts h none = none
that_cell cell key (Some v) puts h none = ap (λ b. cond b (Some v) (value_at cell puts)) h

pub one_cell : (cell : ℕ) (es : List (ℕ × Cell)) → IsStrictlySortedBy nat_cmp (keys_of es) → stored_in cell es ≡ value_at cell (stored_cells es)
one_cell cell [] sorted = refl
one_cell cell (e ∷ es) sorted = by (one_cell cell es (sorted_tail nat_cmp e.0 (keys_of es) sorted)) (nat_cmp cell e.0) refl (ranked cell e.0 _ refl)
  where
    by : stored_in cell es ≡ value_at cell (stored_cells es) → (o : Ordering) → nat_cmp cell e.0 ≡ o → MatchOrdering o (cell < e.0) (cell ≡ e.0) (e.0 < cell)
        → option_and_then (λ (c : Cell). c.stored) (cond (is_eq o) (Some e.1) (lookup (is_at (nat_cmp cell)) es)) ≡ value_at cell (in_front e.0 e.1.stored (stored_cells es))
    by rest Less o h = rest ∙ sym (other_cell cell e.0 e.1.stored (stored_cells es) (grind (arith, nat_tests, h)))
    by rest Equal o h =
        sym (that_cell cell e.0 e.1.stored (stored_cells es) (grind (arith, nat_tests, h))
        (sym rest ∙ ap (option_and_then (λ (c : Cell). c.stored)) (none_twice cell e es sorted (ap is_eq o))))
    by rest Greater o h = rest ∙ sym (other_cell cell e.0 e.1.stored (stored_cells es) (grind (arith, nat_tests, h)))

-- ---- one more is stored

module _ (cell value : ℕ) where
  in_turn : (q : Put) (qs : List Put) → cell < q.cell → with_put (record { cell = cell; value = value }) (q ∷ qs) ≡ record { cell = cell; value = value } ∷ q ∷ qs
  in_turn q qs lt =
      let no : (cell == q.cell) ≡ false = grind (arith, nat_tests, lt) in
      let yes : nat_lt cell q.cell ≡ true = grind (arith, nat_tests, lt) in
      (λ i. cond (no i) (record { cell = cell; value = value } ∷ qs) (cond (yes i) (record { cell = cell; value = value } ∷ q ∷ qs) (q ∷ with_put (record { cell = cell; value = value }) qs)))

  behind : (q : Put) (qs : List Put) → q.cell < cell → with_put (record { cell = cell; value = value }) (q ∷ qs) ≡ q ∷ with_put (record { cell = cell; value = value }) qs
  behind q qs lt =
      let no : (cell == q.cell) ≡ false = grind (arith, nat_tests, lt) in
      let not_yet : nat_lt cell q.cell ≡ false = grind (arith, nat_tests, lt) in
      (λ i. cond (no i) (record { cell = cell; value = value } ∷ qs) (cond (not_yet i) (record { cell = cell; value = value } ∷ q ∷ qs) (q ∷ with_put (record { cell = cell; value = value }) qs)))

  in_place : (q : Put) (qs : List Put) → q.cell ≡ cell → with_put (record { cell = cell; value = value }) (q ∷ qs) ≡ record { cell = cell; value = value } ∷ qs
  in_place q qs same =
      let yes : (cell == q.cell) ≡ true = grind (arith, nat_tests, same) in
      ap (λ b. cond b (record { cell = cell; value = value } ∷ qs) (cond (nat_lt cell q.cell) (record { cell = cell; value = value } ∷ q ∷ qs) (q ∷ with_put (record { cell = cell; value = value }) qs))) yes

  first : (es : List (ℕ × Cell)) → AllByRecursion (λ k. nat_cmp cell k ≡ Less) (keys_of es) → with_put (record { cell = cell; value = value }) (stored_cells es) ≡ record { cell = cell; value = value } ∷ stored_cells es
  first [] above = refl
  first (e ∷ es) above = by (first es above.1) e.1.stored
    where
      by : with_put (record { cell = cell; value = value }) (stored_cells es) ≡ record { cell = cell; value = value } ∷ stored_cells es
          → (s : Option ℕ) → with_put (record { cell = cell; value = value }) (in_front e.0 s (stored_cells es)) ≡ record { cell = cell; value = value } ∷ in_front e.0 s (stored_cells es)
      by rest None = rest
      by rest (Some v) = in_turn (record { cell = e.0; value = v }) (stored_cells es) (ranked cell e.0 Less (sym above.0))

  front_by : (e : ℕ × Cell) (es : List (ℕ × Cell)) (s : Option ℕ) → cell ≡ e.0 → AllByRecursion (λ k. nat_cmp cell k ≡ Less) (keys_of es)
      → with_put (record { cell = cell; value = value }) (in_front e.0 s (stored_cells es)) ≡ record { cell = cell; value = value } ∷ stored_cells es
  front_by e es None h above = first es above
  front_by e es (Some v) h above = in_place (record { cell = e.0; value = v }) (stored_cells es) (sym h)

  behind_by : (key : ℕ) (puts : List Put) (s : Option ℕ) → key < cell
      → in_front key s (with_put (record { cell = cell; value = value }) puts) ≡ with_put (record { cell = cell; value = value }) (in_front key s puts)
  behind_by key puts None lt = refl
  behind_by key puts (Some v) lt = sym (behind (record { cell = key; value = v }) puts lt)

  above_too : (k : ℕ) → nat_cmp cell k ≡ Less → (ks : List ℕ) → AllByRecursion (λ y. nat_cmp k y ≡ Less) ks → AllByRecursion (λ y. nat_cmp cell y ≡ Less) ks
  above_too k less [] above = tt
  above_too k less (y ∷ ks) above = (nat_cmp_total.trans cell k y less above.0, above_too k less ks above.1)

  above_same : (k : ℕ) → cell ≡ k → (ks : List ℕ) → AllByRecursion (λ y. nat_cmp k y ≡ Less) ks → AllByRecursion (λ y. nat_cmp cell y ≡ Less) ks
  above_same k is ks above = subst (λ x. AllByRecursion (λ y. nat_cmp x y ≡ Less) ks) (sym is) above

  pub stored_one : (x : Cell) → x.stored ≡ Some value → (es : List (ℕ × Cell)) → IsStrictlySortedBy nat_cmp (keys_of es)
      → stored_cells (insert_entry nat_cmp es cell x) ≡ with_put (record { cell = cell; value = value }) (stored_cells es)
  stored_one x has [] sorted = ap (λ s. in_front cell s []) has
  stored_one x has (e ∷ es) sorted = by (stored_one x has es (sorted_tail nat_cmp e.0 (keys_of es) sorted)) (nat_cmp cell e.0) refl (ranked cell e.0 _ refl)
    where
      head : AllByRecursion (λ y. nat_cmp e.0 y ≡ Less) (keys_of es)
      head = sorted_head nat_cmp e.0 (keys_of es) sorted

      by : stored_cells (insert_entry nat_cmp es cell x) ≡ with_put (record { cell = cell; value = value }) (stored_cells es)
          → (o : Ordering) → nat_cmp cell e.0 ≡ o → MatchOrdering o (cell < e.0) (cell ≡ e.0) (e.0 < cell)
          → stored_cells (match_ordering o ((cell, x) ∷ e ∷ es) ((e.0, x) ∷ es) (e ∷ insert_entry nat_cmp es cell x))
          ≡ with_put (record { cell = cell; value = value }) (in_front e.0 e.1.stored (stored_cells es))
      by rest Less o h =
          ap (λ s. in_front cell s (in_front e.0 e.1.stored (stored_cells es))) has
          ∙ sym (first (e ∷ es) (o, above_too e.0 o (keys_of es) head))
      by rest Equal o h =
          ap (λ s. in_front e.0 s (stored_cells es)) has
          ∙ ap (λ k. record { cell = k; value = value } ∷ stored_cells es) (sym h)
          ∙ sym (front_by e es e.1.stored h (above_same e.0 h (keys_of es) head))
      by rest Greater o h =
          ap (in_front e.0 e.1.stored) rest
          ∙ behind_by e.0 (stored_cells es) e.1.stored h

  -- in the place of one that is known
  pub stored_there : (x w : Cell) → x.stored ≡ Some value → (es : List (ℕ × Cell)) → IsStrictlySortedBy nat_cmp (keys_of es) → lookup (is_at (nat_cmp cell)) es ≡ Some w
      → stored_cells (set_value (is_at (nat_cmp cell)) es x) ≡ with_put (record { cell = cell; value = value }) (stored_cells es)
  stored_there x w has [] sorted there = absurd (both_ways _ (ap is_some (sym there)) refl)
  stored_there x w has (e ∷ es) sorted there = by (stored_there x w has es (sorted_tail nat_cmp e.0 (keys_of es) sorted)) (nat_cmp cell e.0) refl (ranked cell e.0 _ refl)
    where
      head : AllByRecursion (λ y. nat_cmp e.0 y ≡ Less) (keys_of es)
      head = sorted_head nat_cmp e.0 (keys_of es) sorted

      in_rest : (o : Ordering) → nat_cmp cell e.0 ≡ o → cond (is_eq o) (Some e.1) (lookup (is_at (nat_cmp cell)) es) ≡ Some w
      in_rest o is = ap (λ y. cond (is_eq y) (Some e.1) (lookup (is_at (nat_cmp cell)) es)) (sym is) ∙ there

      by : (lookup (is_at (nat_cmp cell)) es ≡ Some w → stored_cells (set_value (is_at (nat_cmp cell)) es x) ≡ with_put (record { cell = cell; value = value }) (stored_cells es))
          → (o : Ordering) → nat_cmp cell e.0 ≡ o → MatchOrdering o (cell < e.0) (cell ≡ e.0) (e.0 < cell)
          → stored_cells (cond (is_eq o) ((e.0, x) ∷ es) (e ∷ set_value (is_at (nat_cmp cell)) es x))
          ≡ with_put (record { cell = cell; value = value }) (in_front e.0 e.1.stored (stored_cells es))
      by rest Less o h = absurd (both_ways _ (ap is_some (sym (in_rest Less o) ∙ none_there cell e es sorted o)) refl)
      by rest Equal o h =
          ap (λ s. in_front e.0 s (stored_cells es)) has
          ∙ ap (λ k. record { cell = k; value = value } ∷ stored_cells es) (sym h)
          ∙ sym (front_by e es e.1.stored h (above_same e.0 h (keys_of es) head))
      by rest Greater o h =
          ap (in_front e.0 e.1.stored) (rest (in_rest Greater o))
          ∙ behind_by e.0 (stored_cells es) e.1.stored h

-- ---- what is stored stays

pub same_there : (cell : ℕ) (x w : Cell) → x.stored ≡ w.stored → (es : List (ℕ × Cell)) → lookup (is_at (nat_cmp cell)) es ≡ Some w
    → stored_cells (set_value (is_at (nat_cmp cell)) es x) ≡ stored_cells es
same_there cell x w same [] there = refl
same_there cell x w same (e ∷ es) there = by (same_there cell x w same es) (is_eq (nat_cmp cell e.0)) refl
  where
    by : (lookup (is_at (nat_cmp cell)) es ≡ Some w → stored_cells (set_value (is_at (nat_cmp cell)) es x) ≡ stored_cells es)
        → (b : Bool) → is_eq (nat_cmp cell e.0) ≡ b
        → stored_cells (cond b ((e.0, x) ∷ es) (e ∷ set_value (is_at (nat_cmp cell)) es x)) ≡ in_front e.0 e.1.stored (stored_cells es)
    by rest true h =
        let is : Some e.1 ≡ Some w = ap (λ b. cond b (Some e.1) (lookup (is_at (nat_cmp cell)) es)) (sym h) ∙ there in
        ap (λ s. in_front e.0 s (stored_cells es)) (same ∙ sym (ap (λ o. option_and_then (λ (c : Cell). c.stored) o) is))
    by rest false h =
        ap (in_front e.0 e.1.stored) (rest (ap (λ b. cond b (Some e.1) (lookup (is_at (nat_cmp cell)) es)) (sym h) ∙ there))

pub same_with : (cell : ℕ) (x : Cell) → x.stored ≡ None → (es : List (ℕ × Cell)) → lookup (is_at (nat_cmp cell)) es ≡ None
    → stored_cells (insert_entry nat_cmp es cell x) ≡ stored_cells es
same_with cell x empty [] none = ap (λ s. in_front cell s []) empty
same_with cell x empty (e ∷ es) none = by (same_with cell x empty es) (nat_cmp cell e.0) refl
  where
    by : (lookup (is_at (nat_cmp cell)) es ≡ None → stored_cells (insert_entry nat_cmp es cell x) ≡ stored_cells es)
        → (o : Ordering) → nat_cmp cell e.0 ≡ o
        → stored_cells (match_ordering o ((cell, x) ∷ e ∷ es) ((e.0, x) ∷ es) (e ∷ insert_entry nat_cmp es cell x)) ≡ in_front e.0 e.1.stored (stored_cells es)
    by rest Less o = ap (λ s. in_front cell s (in_front e.0 e.1.stored (stored_cells es))) empty
    by rest Equal o = absurd (both_ways _ (ap is_some (sym (ap (λ y. cond (is_eq y) (Some e.1) (lookup (is_at (nat_cmp cell)) es)) o) ∙ none)) refl)
    by rest Greater o =
        ap (in_front e.0 e.1.stored) (rest (ap (λ y. cond (is_eq y) (Some e.1) (lookup (is_at (nat_cmp cell)) es)) (sym o) ∙ none))
