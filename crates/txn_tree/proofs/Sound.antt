-- What a tree keeps as it changes.
use Rattle.std.proofs.Common.{◌≡◌, inl, inr, ℕ, ◌+◌, ◌<◌, ◌≤◌, Bool, true, false, ◌||◌, zero, suc, List, [], ◌∷◌, ◌++◌, length, Option, Some, None, refl, ap, sym, ◌∙◌, arith}
use Rattle.std.specs.Prelude.{slice_index, nat_le}
use Rattle.std.proofs.lemmas.Grind.{common_steps}
use Rattle.std.proofs.lemmas.Bool.Decides.{nat_tests}
use Rattle.txn_tree.specs.Limits.{depth_limit, transaction_limit}
use Rattle.txn_tree.specs.Rows.{parent, state, IsParent, depth, ancestors}
use Rattle.txn_tree.specs.Calls.{created, with_state, top_alone, creating, creating_by, is_full}
use Rattle.txn_tree.specs.TreeInside.{HaveDepths}
use Rattle.txn_tree.specs.declared.row.Row.{Row}
use Rattle.txn_tree.specs.declared.row.State.{State}
use Rattle.txn_tree.specs.declared.row.State.TheVariants.{Active, Marked, Committed, RolledBack}
use Rattle.txn_tree.proofs.Lineages.{tree_kept, length_kept, depth_kept, tree_grows, depth_grows, depth_last, before_or_last}

pub depths_kept : (rows : List Row) (depths : List ℕ) → HaveDepths rows depths → (b : ℕ) (s : State) → HaveDepths (with_state rows b s) depths
depths_kept rows depths h b s =
    let same : length (with_state rows b s) ≡ length rows = length_kept rows b s in
    record {
      tree = tree_kept rows h.tree b s;
      few = rw same h.few;
      each_has_one = h.each_has_one ∙ sym same;
      depths_are = λ q (k : q < length (with_state rows b s)).
          h.depths_are q (rw same at k) ∙ sym (depth_kept rows h.tree b s q (rw same at k));
      shallow = λ q (k : q < length (with_state rows b s)).
          rw (depth_kept rows h.tree b s q (rw same at k)) (h.shallow q (rw same at k));
    }

pub depths_grow : (rows : List Row) (depths : List ℕ) → HaveDepths rows depths → (b : ℕ) → b < length rows → (d : ℕ) → d ≡ depth rows b → d < depth_limit → length rows < transaction_limit → HaveDepths (created rows b) (depths ++ (d + 1) ∷ [])
depths_grow rows depths h b within d is shallow few =
    let longer : length (created rows b) ≡ suc (length rows) = grind (arith, common_steps) in
    let also : length (depths ++ (d + 1) ∷ []) ≡ suc (length depths) = grind (arith, common_steps) in
    record {
      tree = tree_grows rows h.tree b within;
      few = omega arith;
      each_has_one = also ∙ ap (λ (n : ℕ). suc n) h.each_has_one ∙ sym longer;
      depths_are = λ q (k : q < length (created rows b)). new_depth rows depths h b within d is q (omega arith);
      shallow = λ q (k : q < length (created rows b)). new_shallow rows depths h b within d is shallow q (omega arith);
    }
  where
    new_depth : (rows : List Row) (depths : List ℕ) → HaveDepths rows depths → (b : ℕ) → b < length rows → (d : ℕ) → d ≡ depth rows b → (q : ℕ) → q < suc (length rows) → slice_index (depths ++ (d + 1) ∷ []) q ≡ depth (created rows b) q
    new_depth rows depths h b within d is q k =
        elim (before_or_last q (length rows) k) [
          | inl l ↦
              let same : slice_index (depths ++ (d + 1) ∷ []) q ≡ slice_index depths q = grind (arith, common_steps, h.each_has_one) in
              same ∙ h.depths_are q l ∙ sym (depth_grows rows h.tree b q l)
          | inr e ↦
              let last : slice_index (depths ++ (d + 1) ∷ []) q ≡ d + 1 = grind (arith, common_steps, h.each_has_one) in
              last ∙ (omega (arith, depth_last rows h.tree b within)) ∙ sym (ap (λ (n : ℕ). depth (created rows b) n) e)
        ]

    new_shallow : (rows : List Row) (depths : List ℕ) → HaveDepths rows depths → (b : ℕ) → b < length rows → (d : ℕ) → d ≡ depth rows b → d < depth_limit → (q : ℕ) → q < suc (length rows) → depth (created rows b) q ≤ depth_limit
    new_shallow rows depths h b within d is shallow q k =
        elim (before_or_last q (length rows) k) [
          | inl l ↦ rw (depth_grows rows h.tree b q l) (h.shallow q l)
          | inr e ↦ rw e (omega (arith, depth_last rows h.tree b within))
        ]

-- where a subtransaction is allowed, there is room for it
pub has_space : (rows : List Row) (b : ℕ) → creating rows b ≡ None → (depth rows b < depth_limit) × (length rows < transaction_limit)
has_space rows b h = below (not_full (is_full rows b) (state rows b) h)
  where
    not_full : (full : Bool) (s : Option State) → creating_by full s ≡ None → full ≡ false
    not_full false s h = refl
    not_full true None h = absurd (cc)
    not_full true (Some Active) h = absurd (cc)
    not_full true (Some Marked) h = absurd (cc)
    not_full true (Some Committed) h = absurd (cc)
    not_full true (Some RolledBack) h = absurd (cc)

    below : (nat_le depth_limit (depth rows b) || nat_le transaction_limit (length rows)) ≡ false → (depth rows b < depth_limit) × (length rows < transaction_limit)
    below h = (grind (arith, nat_tests), grind (arith, nat_tests))

pub depths_begin : HaveDepths top_alone (1 ∷ [])
unfolding depth ancestors
depths_begin = record {
  tree = record { some = omega arith; parents = λ b (h : b < 1). only_top b h };
  few = omega arith;
  each_has_one = refl;
  depths_are = λ b (h : b < 1). only_depth b h;
  shallow = λ b (h : b < 1). only_shallow b h;
}
  where
    only_top : (b : ℕ) → b < 1 → IsParent b (parent top_alone b)
    only_top zero h = refl
    only_top (suc b) h = absurd (omega arith)

    only_depth : (b : ℕ) → b < 1 → slice_index (1 ∷ []) b ≡ depth top_alone b
    only_depth zero h = refl
    only_depth (suc b) h = absurd (omega arith)

    only_shallow : (b : ℕ) → b < 1 → depth top_alone b ≤ depth_limit
    only_shallow zero h = omega arith
    only_shallow (suc b) h = absurd (omega arith)
