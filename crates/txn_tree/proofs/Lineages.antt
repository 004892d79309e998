-- What lies above a branch depends on the parents alone.
use Rattle.std.proofs.Common.{◌≡◌, ◌≢◌, ◌⊎◌, inl, inr, ℕ, ◌<◌, ◌==◌, ◌&&◌, ◌||◌, Bool, true, false, zero, suc, List, [], ◌∷◌, ◌++◌, length, Option, Some, None, refl, ap, ◌∙◌, arith}
use Rattle.std.proofs.lemmas.Grind.{common_steps}
use Rattle.std.specs.List.{slice_get, list_any}
use Rattle.std.specs.Option.{option_map_or, option_and_then}
use Rattle.txn_tree.specs.Rows.{parent, state, IsParent, IsTree, lineage, ancestors, is_ancestor, are_related, depth, is_committed, is_committed_within, is_committed_up}
use Rattle.txn_tree.specs.Calls.{created, with_state}
use Rattle.txn_tree.specs.Laws.{KeepParents}
use Rattle.txn_tree.specs.declared.row.Row.{Row}
use Rattle.txn_tree.specs.declared.row.State.{State}
use Rattle.txn_tree.specs.declared.row.State.TheVariants.{Active}

-- two functions that agree below a branch agree at its parent
same_above : (o : Option ℕ) (b : ℕ) → IsParent b o → (f g : ℕ → List ℕ) → ((p : ℕ) → p < b → f p ≡ g p) → option_map_or f o [] ≡ option_map_or g o []
same_above None b h f g s = refl
same_above (Some p) b h f g s = s p h

-- each number of generations that is enough gives the same
pub lineage_enough : (rows : List Row) → IsTree rows → (n m b : ℕ) → b < n → b < m → b < length rows → lineage n rows b ≡ lineage m rows b
lineage_enough rows t zero m b h k within = absurd (omega arith)
lineage_enough rows t (suc n) zero b h k within = absurd (omega arith)
lineage_enough rows t (suc n) (suc m) b h k within =
    ap (λ (xs : List ℕ). b ∷ xs) (same_above (parent rows b) b (t.parents b within) (λ p. lineage n rows p) (λ p. lineage m rows p)
    (λ p (below : p < b). lineage_enough rows t n m p (omega arith) (omega arith) (omega arith)))

-- the ancestors are the branch and those of its parent
pub ancestors_step : (rows : List Row) → IsTree rows → (b : ℕ) → b < length rows → ancestors rows b ≡ b ∷ option_map_or (λ p. ancestors rows p) (parent rows b) []
unfolding ancestors
ancestors_step rows t b within =
    ap (λ (xs : List ℕ). b ∷ xs) (same_above (parent rows b) b (t.parents b within) (λ p. lineage b rows p) (λ p. ancestors rows p)
    (λ p (below : p < b). lineage_enough rows t b (suc p) p below (omega arith) (omega arith)))

-- rows with the same parents have the same lineages
pub lineage_alike : (rows more : List Row) → IsTree rows → ((q : ℕ) → q < length rows → parent more q ≡ parent rows q) → (n b : ℕ) → b < length rows → lineage n more b ≡ lineage n rows b
lineage_alike rows more t same zero b within = refl
lineage_alike rows more t same (suc n) b within =
    ap (λ (xs : List ℕ). b ∷ xs)
    (ap (λ (o : Option ℕ). option_map_or (λ p. lineage n more p) o []) (same b within)
    ∙ same_above (parent rows b) b (t.parents b within) (λ p. lineage n more p) (λ p. lineage n rows p)
    (λ p (below : p < b). lineage_alike rows more t same n p (omega arith)))

pub depth_alike : (rows more : List Row) → IsTree rows → ((q : ℕ) → q < length rows → parent more q ≡ parent rows q) → (b : ℕ) → b < length rows → depth more b ≡ depth rows b
unfolding ancestors depth
depth_alike rows more t same b within = ap (λ (xs : List ℕ). length xs) (lineage_alike rows more t same (suc b) b within)

-- a is an ancestor of b exactly where it is b, or an ancestor of b's parent
any_step : (a b : ℕ) (o : Option ℕ) (f : ℕ → List ℕ) → list_any (λ c. c == a) (b ∷ option_map_or f o []) ≡ ((b == a) || option_map_or (λ p. list_any (λ c. c == a) (f p)) o false)
any_step a b None f = refl
any_step a b (Some p) f = refl

pub is_ancestor_step : (rows : List Row) → IsTree rows → (a b : ℕ) → b < length rows → is_ancestor rows a b ≡ ((b == a) || option_map_or (λ p. is_ancestor rows a p) (parent rows b) false)
unfolding is_ancestor
is_ancestor_step rows t a b within =
    ap (λ (xs : List ℕ). list_any (λ c. c == a) xs) (ancestors_step rows t b within) ∙ any_step a b (parent rows b) (λ p. ancestors rows p)

-- a branch is an ancestor of itself, and else an ancestor of its parent
pub ancestor_itself : (rows : List Row) → IsTree rows → (a : ℕ) → a < length rows → is_ancestor rows a a ≡ true
ancestor_itself rows t a within = is_ancestor_step rows t a a within ∙ grind arith

pub ancestor_of_parent : (rows : List Row) → IsTree rows → (a b p : ℕ) → b < length rows → b ≢ a → parent rows b ≡ Some p → is_ancestor rows a b ≡ is_ancestor rows a p
ancestor_of_parent rows t a b p within other h = rw h at (is_ancestor_step rows t a b within) ∙ grind arith

pub no_ancestor : (rows : List Row) → IsTree rows → (a b : ℕ) → b < length rows → b ≢ a → parent rows b ≡ None → is_ancestor rows a b ≡ false
no_ancestor rows t a b within other h = rw h at (is_ancestor_step rows t a b within) ∙ grind arith

-- a parent is made before its child
pub parent_below : (rows : List Row) → IsTree rows → (b p : ℕ) → b < length rows → parent rows b ≡ Some p → p < b
parent_below rows t b p within h = rw h at (t.parents b within)

-- the depth is one more than that of the parent
length_step : (b : ℕ) (o : Option ℕ) (f : ℕ → List ℕ) → length (b ∷ option_map_or f o []) ≡ suc (option_map_or (λ p. length (f p)) o 0)
length_step b None f = refl
length_step b (Some p) f = refl

pub depth_step : (rows : List Row) → IsTree rows → (b : ℕ) → b < length rows → depth rows b ≡ suc (option_map_or (λ p. depth rows p) (parent rows b) 0)
unfolding depth
depth_step rows t b within = ap (λ (xs : List ℕ). length xs) (ancestors_step rows t b within) ∙ length_step b (parent rows b) (λ p. ancestors rows p)

-- the top is an ancestor of each branch
any_of_top : (b : ℕ) (o : Option ℕ) → IsParent b o → (f : ℕ → List ℕ) → ((p : ℕ) → p < b → list_any (λ c. c == 0) (f p) ≡ true) → list_any (λ c. c == 0) (b ∷ option_map_or f o []) ≡ true
any_of_top b None h f s = grind (arith, h)
any_of_top b (Some p) h f s = grind (arith, s p h)

pub top_above : (rows : List Row) → IsTree rows → (n b : ℕ) → b < n → b < length rows → list_any (λ c. c == 0) (lineage n rows b) ≡ true
top_above rows t zero b h within = absurd (omega arith)
top_above rows t (suc n) b h within = any_of_top b (parent rows b) (t.parents b within) (λ p. lineage n rows p)
    (λ p (below : p < b). top_above rows t n p (omega arith) (omega arith))

pub top_ancestor : (rows : List Row) → IsTree rows → (b : ℕ) → b < length rows → is_ancestor rows 0 b ≡ true
unfolding is_ancestor ancestors
top_ancestor rows t b within = top_above rows t (suc b) b (omega arith) within

-- where 0 is one of them, and passes, one passes
one_passes : (xs : List ℕ) (test : ℕ → Bool) → list_any (λ c. c == 0) xs ≡ true → test 0 ≡ true → list_any test xs ≡ true
one_passes [] test h k = h
one_passes (zero ∷ xs) test h k = grind (arith, k)
one_passes (suc x ∷ xs) test h k =
    let other : (suc x == 0) ≡ false = grind arith in
    let rest : list_any (λ c. c == 0) xs ≡ true = grind (arith, other, h) in
    grind (arith, one_passes xs test rest k)

pub all_related : (rows : List Row) → IsTree rows → (a b : ℕ) → a < length rows → b < length rows → are_related rows a b ≡ true
unfolding are_related is_ancestor ancestors
all_related rows t a b within also = one_passes (ancestors rows a) (λ c. is_ancestor rows c b) (top_above rows t (suc a) a (omega arith) within) (top_above rows t (suc b) b (omega arith) also)

-- one more row
pub parent_before : (rows : List Row) (r : Row) (q : ℕ) → q < length rows → parent (rows ++ r ∷ []) q ≡ parent rows q
parent_before rows r q h = ap (λ (o : Option Row). option_and_then (λ (r : Row). r.parent) o) (before rows q h)
  where
    before : (rows : List Row) (q : ℕ) → q < length rows → slice_get (rows ++ r ∷ []) q ≡ slice_get rows q
    before [] q h = absurd (omega arith)
    before (x ∷ rows) zero h = refl
    before (x ∷ rows) (suc q) h = before rows q (omega arith)

pub parent_last : (rows : List Row) (r : Row) → parent (rows ++ r ∷ []) (length rows) ≡ r.parent
parent_last [] r = refl
parent_last (x ∷ rows) r = parent_last rows r

-- another state
pub parent_kept : (rows : List Row) (b : ℕ) (s : State) (q : ℕ) → parent (with_state rows b s) q ≡ parent rows q
parent_kept [] b s q = refl
parent_kept (r ∷ rows) zero s zero = refl
parent_kept (r ∷ rows) zero s (suc q) = refl
parent_kept (r ∷ rows) (suc b) s zero = refl
parent_kept (r ∷ rows) (suc b) s (suc q) = parent_kept rows b s q

pub length_kept : (rows : List Row) (b : ℕ) (s : State) → length (with_state rows b s) ≡ length rows
length_kept rows b s = grind (arith, common_steps)

-- the rows are those of a tree still
pub tree_kept : (rows : List Row) → IsTree rows → (b : ℕ) (s : State) → IsTree (with_state rows b s)
tree_kept rows t b s =
    let same : length (with_state rows b s) ≡ length rows = length_kept rows b s in
    record {
      some = rw same t.some;
      parents = λ q (h : q < length (with_state rows b s)). rw (parent_kept rows b s q) (t.parents q (rw same at h));
    }

pub depth_kept : (rows : List Row) → IsTree rows → (b : ℕ) (s : State) (q : ℕ) → q < length rows → depth (with_state rows b s) q ≡ depth rows q
depth_kept rows t b s q h = depth_alike rows (with_state rows b s) t (λ q _. parent_kept rows b s q) q h

pub before_or_last : (q n : ℕ) → q < suc n → (q < n) ⊎ (q ≡ n)
before_or_last q n h = grind arith

new_parent : (rows : List Row) → IsTree rows → (b : ℕ) → b < length rows → (q : ℕ) → q < suc (length rows) → IsParent q (parent (created rows b) q)
new_parent rows t b h q k =
    elim (before_or_last q (length rows) k) [
      | inl l ↦ rw (parent_before rows (record { parent = Some b; state = Active }) q l) (t.parents q l)
      | inr e ↦ rw (e, parent_last rows (record { parent = Some b; state = Active })) h
    ]

pub tree_grows : (rows : List Row) → IsTree rows → (b : ℕ) → b < length rows → IsTree (created rows b)
tree_grows rows t b h =
    let longer : length (created rows b) ≡ suc (length rows) = grind (arith, common_steps) in
    record {
      some = omega arith;
      parents = λ q (k : q < length (created rows b)). new_parent rows t b h q (omega arith);
    }

-- the parents after each call
pub parents_kept : (rows : List Row) (b : ℕ) → KeepParents rows b
parents_kept rows b = record {
  with_a_child = record {
    count = grind (arith, common_steps);
    parents = parent_before rows (record { parent = Some b; state = Active });
    new = parent_last rows (record { parent = Some b; state = Active });
  };
  with_a_state = λ s. record { count = length_kept rows b s; parents = parent_kept rows b s };
}

pub depth_grows : (rows : List Row) → IsTree rows → (b : ℕ) (q : ℕ) → q < length rows → depth (created rows b) q ≡ depth rows q
depth_grows rows t b q h = depth_alike rows (created rows b) t (λ q k. parent_before rows (record { parent = Some b; state = Active }) q k) q h

pub depth_last : (rows : List Row) → IsTree rows → (b : ℕ) → b < length rows → depth (created rows b) (length rows) ≡ suc (depth rows b)
depth_last rows t b h =
    let last : length rows < length (created rows b) = grind (arith, common_steps) in
    depth_step (created rows b) (tree_grows rows t b h) (length rows) last
    ∙ ap (λ (o : Option ℕ). suc (option_map_or (λ p. depth (created rows b) p) o 0)) (parent_last rows (record { parent = Some b; state = Active }))
    ∙ ap (λ (n : ℕ). suc n) (depth_grows rows t b b h)

-- each number of generations that is enough tells the same of commits
same_up : (o : Option ℕ) (b : ℕ) → IsParent b o → (f g : ℕ → Bool) → ((p : ℕ) → p < b → f p ≡ g p) → option_map_or f o false ≡ option_map_or g o false
same_up None b h f g s = refl
same_up (Some p) b h f g s = s p h

committed_enough : (rows : List Row) → IsTree rows → (above n m b : ℕ) → b < n → b < m → b < length rows → is_committed_within n rows above b ≡ is_committed_within m rows above b
committed_enough rows t above zero m b h k within = absurd (omega arith)
committed_enough rows t above (suc n) zero b h k within = absurd (omega arith)
committed_enough rows t above (suc n) (suc m) b h k within =
    ap (λ (x : Bool). (b == above) || (option_map_or is_committed (state rows b) false && x))
    (same_up (parent rows b) b (t.parents b within) (λ p. is_committed_within n rows above p) (λ p. is_committed_within m rows above p)
    (λ p (below : p < b). committed_enough rows t above n m p (omega arith) (omega arith) (omega arith)))

pub committed_up_step : (rows : List Row) → IsTree rows → (above b : ℕ) → b < length rows → is_committed_up rows above b ≡ ((b == above) || (option_map_or is_committed (state rows b) false && option_map_or (λ p. is_committed_up rows above p) (parent rows b) false))
unfolding is_committed_up
committed_up_step rows t above b within =
    ap (λ (x : Bool). (b == above) || (option_map_or is_committed (state rows b) false && x))
    (same_up (parent rows b) b (t.parents b within) (λ p. is_committed_within b rows above p) (λ p. is_committed_up rows above p)
    (λ p (below : p < b). committed_enough rows t above b (suc p) p below (omega arith) (omega arith)))
