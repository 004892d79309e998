-- What lies below a branch.
use Rattle.std.proofs.Common.{◌≡◌, ◌≢◌, ◌⊎◌, inl, inr, ℕ, ◌<◌, ◌==◌, ◌&&◌, ◌||◌, Bool, true, false, not, zero, suc, List, length, Option, Some, None, refl, ap, sym, ◌∙◌, arith}
use Rattle.std.specs.List.{list_any}
use Rattle.std.specs.Option.{option_map_or}
use Rattle.std.proofs.lemmas.Bool.Decides.{nat_tests}
use Rattle.txn_tree.specs.Rows.{parent, IsTree, is_ancestor, ancestors, depth, is_live_branch}
use Rattle.txn_tree.specs.Calls.{is_live_below}
use Rattle.txn_tree.specs.Links.{is_below}
use Rattle.txn_tree.specs.declared.row.Row.{Row}
use Rattle.txn_tree.proofs.Kept.{same_or_not}
use Rattle.txn_tree.proofs.Lineages.{is_ancestor_step, parent_below, depth_step, lineage_alike}

-- one of two tests passes
either : (p a : ℕ) (x : Bool) → ((p == a) || x) ≡ true → (p ≡ a) ⊎ (x ≡ true)
either p a x h = elim (same_or_not p a) [ inl e ↦ inl e | inr ne ↦ inr (grind (arith, nat_tests)) ]

first_passes : (p a : ℕ) (x : Bool) → p ≡ a → ((p == a) || x) ≡ true
first_passes p a x e = grind (arith, nat_tests)

second_passes : (p a : ℕ) (x : Bool) → x ≡ true → ((p == a) || x) ≡ true
second_passes p a true e = grind (arith, nat_tests)
second_passes p a false e = absurd (cc)

second_decides : (p a : ℕ) (x : Bool) → p ≢ a → ((p == a) || x) ≡ x
second_decides p a x ne = grind (arith, nat_tests)

pub below_parent : (rows : List Row) → IsTree rows → (a q p : ℕ) → q < length rows → parent rows q ≡ Some p → is_below rows a q ≡ ((p == a) || is_below rows a p)
below_parent rows t a q p h e =
    let low : p < q = parent_below rows t q p h e in
    ap (λ (o : Option ℕ). option_map_or (λ p. is_ancestor rows a p) o false) e ∙ is_ancestor_step rows t a p (omega arith)

pub below_top : (rows : List Row) (a q : ℕ) → parent rows q ≡ None → is_below rows a q ≡ false
below_top rows a q e = ap (λ (o : Option ℕ). option_map_or (λ p. is_ancestor rows a p) o false) e

pub depth_parent : (rows : List Row) → IsTree rows → (q p : ℕ) → q < length rows → parent rows q ≡ Some p → depth rows q ≡ suc (depth rows p)
depth_parent rows t q p h e = depth_step rows t q h ∙ ap (λ (o : Option ℕ). suc (option_map_or (λ p. depth rows p) o 0)) e

-- it is made later, and lies deeper
pub below_low : (rows : List Row) → IsTree rows → (n a q : ℕ) → q < n → q < length rows → is_below rows a q ≡ true → a < q
below_low rows t zero a q k h b = absurd (omega arith)
below_low rows t (suc n) a q k h b = by_parent (λ p l w more. below_low rows t n a p (omega (arith, l)) w more) (parent rows q) refl
  where
    by_parent : ((p : ℕ) → p < q → p < length rows → is_below rows a p ≡ true → a < p) → (o : Option ℕ) → parent rows q ≡ o → a < q
    by_parent up None e = absurd (cc (below_top rows a q e, b))
    by_parent up (Some p) e =
        let low : p < q = parent_below rows t q p h e in
        elim (either p a (is_below rows a p) (sym (below_parent rows t a q p h e) ∙ b)) [
          | inl same ↦ omega (arith, same)
          | inr more ↦ let lower : a < p = up p low (omega arith) more in omega arith
        ]

pub below_deep : (rows : List Row) → IsTree rows → (n a q : ℕ) → q < n → q < length rows → is_below rows a q ≡ true → depth rows a < depth rows q
below_deep rows t zero a q k h b = absurd (omega arith)
below_deep rows t (suc n) a q k h b = by_parent (λ p l w more. below_deep rows t n a p (omega (arith, l)) w more) (parent rows q) refl
  where
    by_parent : ((p : ℕ) → p < q → p < length rows → is_below rows a p ≡ true → depth rows a < depth rows p) → (o : Option ℕ) → parent rows q ≡ o → depth rows a < depth rows q
    by_parent up None e = absurd (cc (below_top rows a q e, b))
    by_parent up (Some p) e =
        let low : p < q = parent_below rows t q p h e in
        let deep : depth rows q ≡ suc (depth rows p) = depth_parent rows t q p h e in
        elim (either p a (is_below rows a p) (sym (below_parent rows t a q p h e) ∙ b)) [
          | inl same ↦ let alike : depth rows p ≡ depth rows a = ap (λ (x : ℕ). depth rows x) same in omega arith
          | inr more ↦ let lower : depth rows a < depth rows p = up p low (omega arith) more in omega arith
        ]

-- the parent of a branch has below it what that branch is an ancestor of
pub below_up : (rows : List Row) → IsTree rows → (n at above b : ℕ) → b < n → b < length rows → is_ancestor rows at b ≡ true → parent rows at ≡ Some above → is_below rows above b ≡ true
below_up rows t zero at above b k h a e = absurd (omega arith)
below_up rows t (suc n) at above b k h a e =
    elim (either b at (is_below rows at b) (sym (is_ancestor_step rows t at b h) ∙ a)) [
      | inl same ↦ below_parent rows t above b above h (rw same e) ∙ first_passes above above (is_below rows above above) refl
      | inr more ↦ by_parent (λ p l w its. below_up rows t n at above p (omega (arith, l)) w its e) (parent rows b) refl more
    ]
  where
    by_parent : ((p : ℕ) → p < b → p < length rows → is_ancestor rows at p ≡ true → is_below rows above p ≡ true) → (o : Option ℕ) → parent rows b ≡ o → is_below rows at b ≡ true → is_below rows above b ≡ true
    by_parent up None f more = absurd (cc (below_top rows at b f, more))
    by_parent up (Some p) f more =
        let low : p < b = parent_below rows t b p h f in
        let within : p < length rows = omega arith in
        let its : is_ancestor rows at p ≡ true = is_ancestor_step rows t at p within ∙ sym (below_parent rows t at b p h f) ∙ more in
        below_parent rows t above b p h f ∙ second_passes p above (is_below rows above p) (up p low within its)

pub ancestor_of_below : (rows : List Row) → IsTree rows → (a b : ℕ) → b < length rows → is_below rows a b ≡ true → is_ancestor rows a b ≡ true
ancestor_of_below rows t a b h below = is_ancestor_step rows t a b h ∙ second_passes b a (is_below rows a b) below

-- what is below the parent, or is it
pub parent_is_above : (rows : List Row) → IsTree rows → (at above : ℕ) → at < length rows → parent rows at ≡ Some above → is_below rows above at ≡ true
parent_is_above rows t at above h e = below_parent rows t above at above h e ∙ first_passes above above (is_below rows above above) refl

pub above_parent : (rows : List Row) → IsTree rows → (a at above : ℕ) → at < length rows → parent rows at ≡ Some above → is_below rows a above ≡ true → is_below rows a at ≡ true
above_parent rows t a at above h e below = below_parent rows t a at above h e ∙ second_passes above a (is_below rows a above) below

pub not_above_parent : (rows : List Row) → IsTree rows → (a at above : ℕ) → at < length rows → parent rows at ≡ Some above → a ≢ above → is_below rows a above ≡ false → is_below rows a at ≡ false
not_above_parent rows t a at above h e ne not_below = below_parent rows t a at above h e ∙ second_decides above a (is_below rows a above) (λ same. ne (sym same)) ∙ not_below

-- the same in the words of the calls
regrouped : (x y z : Bool) → ((x && y) && z) ≡ (x && (y && z))
regrouped true y z = refl
regrouped false y z = refl

pub live_below_is : (rows : List Row) → IsTree rows → (b q : ℕ) → q < length rows → is_live_below rows b q ≡ (is_live_branch rows q && is_below rows b q)
live_below_is rows t b q h = regrouped (is_live_branch rows q) (not (q == b)) (is_ancestor rows b q) ∙ ap (λ (x : Bool). is_live_branch rows q && x) (by_value (is_below rows b q) refl)
  where
    by_value : (x : Bool) → is_below rows b q ≡ x → (not (q == b) && is_ancestor rows b q) ≡ is_below rows b q
    by_value true e =
        let low : b < q = below_low rows t (suc q) b q (omega arith) h e in
        let its : is_ancestor rows b q ≡ true = ancestor_of_below rows t b q h e in
        grind (arith, nat_tests)
    by_value false e =
        let its : is_ancestor rows b q ≡ ((q == b) || is_below rows b q) = is_ancestor_step rows t b q h in
        elim (same_or_not q b) [ inl same ↦ grind (arith, nat_tests) | inr other ↦ grind (arith, nat_tests) ]

-- rows with the same parents have the same below
ancestor_alike : (rows more : List Row) → IsTree rows → ((q : ℕ) → q < length rows → parent more q ≡ parent rows q) → (a p : ℕ) → p < length rows → is_ancestor more a p ≡ is_ancestor rows a p
unfolding is_ancestor ancestors
ancestor_alike rows more t same a p k = ap (λ (xs : List ℕ). list_any (λ c. c == a) xs) (lineage_alike rows more t same (suc p) p k)

pub below_alike : (rows more : List Row) → IsTree rows → ((q : ℕ) → q < length rows → parent more q ≡ parent rows q) → (a q : ℕ) → q < length rows → is_below more a q ≡ is_below rows a q
below_alike rows more t same a q h = by_parent (parent rows q) refl
  where
    by_parent : (o : Option ℕ) → parent rows q ≡ o → is_below more a q ≡ is_below rows a q
    by_parent None e = below_top more a q (same q h ∙ e) ∙ sym (below_top rows a q e)
    by_parent (Some p) e =
        let low : p < q = parent_below rows t q p h e in
        ap (λ (o : Option ℕ). option_map_or (λ p. is_ancestor more a p) o false) (same q h ∙ e)
        ∙ ancestor_alike rows more t same a p (omega arith)
        ∙ sym (ap (λ (o : Option ℕ). option_map_or (λ p. is_ancestor rows a p) o false) e)
