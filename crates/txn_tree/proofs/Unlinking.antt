-- A branch that has ended is taken out of the links, ancestor by ancestor.
use Rattle.std.proofs.Common.{◌≡◌, ◌≢◌, inl, inr, ℕ, ◌+◌, ◌<◌, true, false, List, length, Option, Some, None, refl, sym, ◌∙◌, arith}
use Rattle.txn_tree.specs.Rows.{parent, IsTree, is_ancestor, depth}
use Rattle.txn_tree.specs.Links.{last, before, AreWide, is_below, LiesBelow, LooksBack, IsFound, LeaveNoneOut, AreLinked, AreLinkedBut}
use Rattle.txn_tree.specs.declared.row.Row.{Row}
use Rattle.txn_tree.specs.declared.links.Links.{Links}
use Rattle.txn_tree.proofs.Kept.{same_or_not}
use Rattle.txn_tree.proofs.Lineages.{ancestor_itself, parent_below}
use Rattle.txn_tree.proofs.Below.{below_top, below_up, ancestor_of_below, not_above_parent}
use Rattle.txn_tree.proofs.Ways.{carried, found_too}
use Rattle.txn_tree.proofs.Linking.{both_so, first_not, second_not}
use Rattle.std.specs.Prelude.{if◌then◌else◌, ◌==◌, ◌&&◌}

-- the ancestors from a branch upwards are still to come
pub record Unlinking (rows : List Row) (links : List Links) (b at : ℕ) : Type 0 where
  pub there : at < length rows
  pub up : is_ancestor rows at b ≡ true
  pub ways : LeaveNoneOut rows links (length rows)
  pub live : (a l : ℕ) → last links a l ≢ Some b → IsFound rows (last links a l)
  pub done : (a l : ℕ) → is_below rows a at ≡ false → IsFound rows (last links a l)

-- what is kept is the branch that has ended only where that one lies there
not_there : (rows : List Row) (a l b end : ℕ) (o : Option ℕ) → (LiesBelow rows a l b → ⊥) → LooksBack rows a l end o → (o ≢ Some b → IsFound rows o) → IsFound rows o
not_there rows a l b end None off h live = tt
not_there rows a l b end (Some t) off h live = live (λ same. off (let e : t ≡ b = cc in rw e at h.lies))

pub unlinking_begins : (rows : List Row) (links : List Links) (b : ℕ) → IsTree rows → b < length rows → AreLinkedBut rows links b → Unlinking rows links b b
unlinking_begins rows links b t h linked = record {
  there = h;
  up = ancestor_itself rows t b h;
  ways = linked.ways;
  live = linked.live;
  done = λ a l none. not_there rows a l b (length rows) (last links a l) (λ lies. absurd (cc (lies.below, none))) (linked.ways.lasts a l) (linked.live a l);
}

pub unlinking_ends : (rows : List Row) (links : List Links) (b at : ℕ) → parent rows at ≡ None → Unlinking rows links b at → AreLinked rows links (length rows)
unlinking_ends rows links b at e s = record {
  ways = s.ways;
  live = λ a l. s.done a l (below_top rows a at e);
}

-- what is written at one ancestor
pub record Mends (rows : List Row) (links new : List Links) (b above : ℕ) : Type 0 where
  pub each_has_one : length new ≡ length links
  pub wide : AreWide new
  pub befores : (q d : ℕ) → before new q d ≡ before links q d
  pub others : (a l : ℕ) → a ≢ above → last new a l ≡ last links a l
  pub other_depths : (a l : ℕ) → l ≢ depth rows b → last new a l ≡ last links a l
  pub here : LooksBack rows above (depth rows b) (length rows) (last new above (depth rows b))
  pub live : IsFound rows (last new above (depth rows b))

pub unlinking_goes_on : (rows : List Row) (links new : List Links) (b at above : ℕ) → IsTree rows → b < length rows → parent rows at ≡ Some above → Unlinking rows links b at → Mends rows links new b above → Unlinking rows new b above
unlinking_goes_on rows links new b at above t h e s w = record {
  there = let low : above < at = parent_below rows t at above s.there e in omega (arith, s.there);
  up = ancestor_of_below rows t above b h (below_up rows t (b + 1) at above b (omega arith) h s.up e);
  ways = record {
    each_has_one = w.each_has_one ∙ s.ways.each_has_one;
    wide = w.wide;
    lasts = λ a l. by_place a l
        (λ (o : Option ℕ). LooksBack rows a l (length rows) o)
        (λ same its. rw (same, its) w.here)
        (s.ways.lasts a l);
    befores = λ a q k below. carried rows a (depth rows q) q _ _ (w.befores q (depth rows a)) (s.ways.befores a q k below);
  };
  live = λ a l ne.
      elim (same_or_not a above) [
        | inl same ↦ rw same (elim (same_or_not l (depth rows b)) [
          | inl its ↦ rw its w.live
          | inr other ↦ found_too rows _ _ (w.other_depths above l other) (s.live above l (rw (same, w.other_depths above l other) at ne))
        ])
        | inr off ↦ found_too rows _ _ (w.others a l off) (s.live a l (rw (w.others a l off) at ne))
      ];
  done = λ a l none.
      elim (same_or_not a above) [
        | inl same ↦ rw same (elim (same_or_not l (depth rows b)) [
          | inl its ↦ rw its w.live
          | inr other ↦ found_too rows _ _ (w.other_depths above l other)
              (not_there rows above l b (length rows) _ (λ lies. other (sym lies.deep)) (s.ways.lasts above l) (s.live above l))
        ])
        | inr off ↦ found_too rows _ _ (w.others a l off) (s.done a l (not_above_parent rows t a at above s.there e off none))
      ];
}
  where
    by_place : (a l : ℕ) (P : Option ℕ → Type 0) → (a ≡ above → l ≡ depth rows b → P (last new a l)) → P (last links a l) → P (last new a l)
    by_place a l P here there =
        elim (same_or_not a above) [
          | inl same ↦ elim (same_or_not l (depth rows b)) [
            | inl its ↦ here same its
            | inr other ↦ rw (w.other_depths a l other) there
          ]
          | inr off ↦ rw (w.others a l off) there
        ]

pub mends : (rows : List Row) (links new : List Links) (b above deep : ℕ) (o : Option ℕ) → deep ≡ depth rows b → length new ≡ length links → AreWide new → ((q d : ℕ) → before new q d ≡ before links q d) → ((a l : ℕ) → last new a l ≡ (if a == above && l == deep then o else last links a l)) → LooksBack rows above deep (length rows) o → IsFound rows o → Mends rows links new b above
mends rows links new b above deep o e same wide befores lasts back live = record {
  each_has_one = same;
  wide = wide;
  befores = befores;
  others = λ a l ne. lasts a l ∙ first_not a above l deep _ _ ne;
  other_depths = λ a l ne. lasts a l ∙ second_not a above l deep _ _ (λ f. ne (f ∙ e));
  here = carried rows above (depth rows b) (length rows) _ _ its (rw e at back);
  live = found_too rows _ _ its live;
}
  where
    its : last new above (depth rows b) ≡ o
    its = lasts above (depth rows b) ∙ both_so above above (depth rows b) deep _ _ refl (sym e)
