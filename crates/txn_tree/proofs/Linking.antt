-- A branch is linked, ancestor by ancestor.
use Rattle.std.proofs.Common.{◌≡◌, ◌≢◌, inl, inr, ℕ, ◌+◌, ◌<◌, ◌≤◌, ◌==◌, ◌&&◌, true, false, zero, suc, List, [], ◌∷◌, length, Option, Some, None, refl, ap, sym, ◌∙◌, arith}
use Rattle.std.specs.Prelude.{if◌then◌else◌}
use Rattle.std.specs.List.{slice_index_or}
use Rattle.std.proofs.lemmas.Bool.Decides.{nat_tests}
use Rattle.txn_tree.specs.Rows.{parent, IsTree, is_ancestor, depth, is_live, is_live_branch}
use Rattle.txn_tree.specs.Links.{last, before, AreWide, is_below, LooksBack, IsFound, AreLinked}
use Rattle.txn_tree.specs.declared.row.Row.{Row}
use Rattle.txn_tree.specs.declared.links.Links.{Links}
use Rattle.txn_tree.proofs.Kept.{same_or_not}
use Rattle.txn_tree.proofs.Lineages.{ancestor_itself, parent_below}
use Rattle.txn_tree.proofs.Below.{below_top, below_low, below_up, ancestor_of_below, parent_is_above, above_parent, not_above_parent, depth_parent}
use Rattle.txn_tree.proofs.Ways.{carried, found_too, looks_on, looks_at_new}

-- the ancestors from a branch upwards are still to come
pub record Linking (rows : List Row) (links : List Links) (b at : ℕ) : Type 0 where
  pub each_has_one : length links ≡ length rows
  pub wide : AreWide links
  pub there : at < length rows
  pub up : is_ancestor rows at b ≡ true
  pub pending : (a l : ℕ) → is_below rows a at ≡ true → LooksBack rows a l b (last links a l)
  pub done : (a l : ℕ) → is_below rows a at ≡ false → LooksBack rows a l (b + 1) (last links a l)
  pub live : (a l : ℕ) → IsFound rows (last links a l)
  pub befores : (a q : ℕ) → q < b → is_below rows a q ≡ true → LooksBack rows a (depth rows q) q (before links q (depth rows a))
  pub its : (a : ℕ) → is_below rows a b ≡ true → is_below rows a at ≡ false → LooksBack rows a (depth rows b) b (before links b (depth rows a))
  pub deeper : (a : ℕ) → is_below rows a b ≡ true → is_below rows a at ≡ false → depth rows at ≤ depth rows a

pub linking_begins : (rows : List Row) (links : List Links) (b : ℕ) → IsTree rows → b < length rows → AreLinked rows links b → Linking rows links b b
linking_begins rows links b t h linked = record {
  each_has_one = linked.ways.each_has_one;
  wide = linked.ways.wide;
  there = h;
  up = ancestor_itself rows t b h;
  pending = λ a l _. linked.ways.lasts a l;
  done = λ a l none. looks_on rows a l b (last links a l) (linked.ways.lasts a l) (λ lies. absurd (cc (lies.below, none)));
  live = linked.live;
  befores = linked.ways.befores;
  its = λ a yes none. absurd (cc (yes, none));
  deeper = λ a yes none. absurd (cc (yes, none));
}

pub linking_ends : (rows : List Row) (links : List Links) (b at : ℕ) → parent rows at ≡ None → Linking rows links b at → AreLinked rows links (b + 1)
linking_ends rows links b at e s = record {
  ways = record {
    each_has_one = s.each_has_one;
    wide = s.wide;
    lasts = λ a l. s.done a l (below_top rows a at e);
    befores = λ a q k below.
        elim (same_or_not q b) [
          | inl same ↦ rw same (s.its a (rw same at below) (below_top rows a at e))
          | inr other ↦ s.befores a q (omega (arith, k, other)) below
        ];
  };
  live = s.live;
}

pub both_so : (a b l n : ℕ) (o p : Option ℕ) → a ≡ b → l ≡ n → (if a == b && l == n then o else p) ≡ o
both_so a b l n o p e f = grind (arith, nat_tests)

pub first_not : (a b l n : ℕ) (o p : Option ℕ) → a ≢ b → (if a == b && l == n then o else p) ≡ p
first_not a b l n o p e = grind (arith, nat_tests)

pub second_not : (a b l n : ℕ) (o p : Option ℕ) → l ≢ n → (if a == b && l == n then o else p) ≡ p
second_not a b l n o p e = grind (arith, nat_tests)

-- what is written at one ancestor
pub record Puts (rows : List Row) (links new : List Links) (b above : ℕ) : Type 0 where
  pub each_has_one : length new ≡ length links
  pub wide : AreWide new
  pub its : (q d : ℕ) → before new q d ≡ (if q == b && d == depth rows above then last links above (depth rows b) else before links q d)
  pub others : (a l : ℕ) → a ≢ above → last new a l ≡ last links a l
  pub other_depths : (a l : ℕ) → l ≢ depth rows b → last new a l ≡ last links a l
  pub here : LooksBack rows above (depth rows b) (b + 1) (last new above (depth rows b))
  pub live : IsFound rows (last new above (depth rows b))

pub linking_goes_on : (rows : List Row) (links new : List Links) (b at above : ℕ) → IsTree rows → b < length rows → parent rows at ≡ Some above → Linking rows links b at → Puts rows links new b above → Linking rows new b above
linking_goes_on rows links new b at above t h e s w = record {
  each_has_one = w.each_has_one ∙ s.each_has_one;
  wide = w.wide;
  there = within;
  up = ancestor_of_below rows t above b h yes;
  pending = λ a l below.
      let low : a < above = below_low rows t (above + 1) a above (omega arith) within below in
      carried rows a l b _ _ (w.others a l (λ same. absurd (omega (arith, same, low)))) (s.pending a l (above_parent rows t a at above s.there e below));
  done = λ a l off.
      elim (same_or_not a above) [
        | inl same ↦ rw same (elim (same_or_not l (depth rows b)) [
          | inl its ↦ rw its w.here
          | inr other ↦ carried rows above l (b + 1) _ _ (w.other_depths above l other)
              (looks_on rows above l b _ (s.pending above l (parent_is_above rows t at above s.there e)) (λ lies. absurd (other (sym lies.deep))))
        ])
        | inr ne ↦ carried rows a l (b + 1) _ _ (w.others a l ne) (s.done a l (not_above_parent rows t a at above s.there e ne off))
      ];
  live = λ a l.
      elim (same_or_not a above) [
        | inl same ↦ rw same (elim (same_or_not l (depth rows b)) [
          | inl its ↦ rw its w.live
          | inr other ↦ found_too rows _ _ (w.other_depths above l other) (s.live above l)
        ])
        | inr ne ↦ found_too rows _ _ (w.others a l ne) (s.live a l)
      ];
  befores = λ a q k below.
      carried rows a (depth rows q) q _ _ (w.its q (depth rows a) ∙ first_not q b (depth rows a) (depth rows above) _ _ (λ same. absurd (omega (arith, same, k)))) (s.befores a q k below);
  its = λ a below off.
      elim (same_or_not a above) [
        | inl same ↦ rw same (carried rows above (depth rows b) b _ _ (w.its b (depth rows above) ∙ both_so b b (depth rows above) (depth rows above) _ _ refl refl)
            (s.pending above (depth rows b) (parent_is_above rows t at above s.there e)))
        | inr ne ↦
            let none : is_below rows a at ≡ false = not_above_parent rows t a at above s.there e ne off in
            let deep : depth rows at ≤ depth rows a = s.deeper a below none in
            carried rows a (depth rows b) b _ _ (w.its b (depth rows a) ∙ second_not b b (depth rows a) (depth rows above) _ _ (λ same. absurd (omega (arith, same, deep, deeper)))) (s.its a below none)
      ];
  deeper = λ a below off.
      elim (same_or_not a above) [
        | inl same ↦ let alike : depth rows a ≡ depth rows above = ap (λ (x : ℕ). depth rows x) same in omega (arith, alike)
        | inr ne ↦
            let none : is_below rows a at ≡ false = not_above_parent rows t a at above s.there e ne off in
            let deep : depth rows at ≤ depth rows a = s.deeper a below none in
            omega (arith, deep, deeper)
      ];
}
  where
    low_parent : above < at
    low_parent = parent_below rows t at above s.there e

    within : above < length rows
    within = let k = low_parent in omega (arith, s.there)

    yes : is_below rows above b ≡ true
    yes = below_up rows t (b + 1) at above b (omega arith) h s.up e

    deeper : depth rows at ≡ suc (depth rows above)
    deeper = depth_parent rows t at above s.there e

-- the link that is made for one ancestor
its_link : (rows : List Row) (links mid : List Links) (b above deep high : ℕ) (o : Option ℕ) → deep ≡ depth rows b → high ≡ depth rows above → o ≡ last links above deep → ((q d : ℕ) → before mid q d ≡ (if q == b && d == high then o else before links q d)) → (q d : ℕ) → before mid q d ≡ (if q == b && d == depth rows above then last links above (depth rows b) else before links q d)
its_link rows links mid b above deep high o e f g h q d =
    h q d
    ∙ ap (λ (x : ℕ). if q == b && d == x then o else before links q d) f
    ∙ ap (λ (p : Option ℕ). if q == b && d == depth rows above then p else before links q d) (g ∙ ap (λ (x : ℕ). last links above x) e)

pub puts_ended : (rows : List Row) (links new : List Links) (b at above deep high : ℕ) (o : Option ℕ) → IsTree rows → parent rows at ≡ Some above → Linking rows links b at → is_live_branch rows b ≡ false → deep ≡ depth rows b → high ≡ depth rows above → o ≡ last links above deep → length new ≡ length links → AreWide new → ((a l : ℕ) → last new a l ≡ last links a l) → ((q d : ℕ) → before new q d ≡ (if q == b && d == high then o else before links q d)) → Puts rows links new b above
puts_ended rows links new b at above deep high o t e s dead d k g same wide lasts befores = record {
  each_has_one = same;
  wide = wide;
  its = its_link rows links new b above deep high o d k g befores;
  others = λ a l _. lasts a l;
  other_depths = λ a l _. lasts a l;
  here = carried rows above (depth rows b) (b + 1) _ _ (lasts above (depth rows b))
      (looks_on rows above (depth rows b) b _ (s.pending above (depth rows b) (parent_is_above rows t at above s.there e)) (λ _. dead));
  live = found_too rows _ _ (lasts above (depth rows b)) (s.live above (depth rows b));
}

pub puts_live : (rows : List Row) (links mid new : List Links) (b at above deep high : ℕ) (o n : Option ℕ) → IsTree rows → b < length rows → parent rows at ≡ Some above → Linking rows links b at → is_live_branch rows b ≡ true → deep ≡ depth rows b → high ≡ depth rows above → o ≡ last links above deep → n ≡ Some b → length mid ≡ length links → length new ≡ length mid → AreWide new → ((a l : ℕ) → last mid a l ≡ last links a l) → ((a l : ℕ) → last new a l ≡ (if a == above && l == deep then n else last mid a l)) → ((q d : ℕ) → before mid q d ≡ (if q == b && d == high then o else before links q d)) → ((q d : ℕ) → before new q d ≡ before mid q d) → Puts rows links new b above
puts_live rows links mid new b at above deep high o n t h e s live d k g same len more wide lasts written befores kept = record {
  each_has_one = more ∙ len;
  wide = wide;
  its = λ q x. kept q x ∙ its_link rows links mid b above deep high o d k g befores q x;
  others = λ a l ne. written a l ∙ first_not a above l deep _ _ ne ∙ lasts a l;
  other_depths = λ a l ne. written a l ∙ second_not a above l deep _ _ (λ f. ne (f ∙ d)) ∙ lasts a l;
  here = carried rows above (depth rows b) (b + 1) _ _ its (looks_at_new rows above (depth rows b) b (record {
    there = h;
    below = below_up rows t (b + 1) at above b (omega arith) h s.up e;
    deep = refl;
  }));
  live = found_too rows _ _ its live;
}
  where
    its : last new above (depth rows b) ≡ Some b
    its = written above (depth rows b) ∙ both_so above above (depth rows b) deep _ _ refl (sym d) ∙ same

-- a row as it is read
pub live_read : (rows : List Row) (b : ℕ) (d : Row) → b < length rows → is_live_branch rows b ≡ is_live (slice_index_or rows b d).state
live_read [] b d h = absurd (omega arith)
live_read (r ∷ rows) zero d h = refl
live_read (r ∷ rows) (suc b) d h = live_read rows b d (omega arith)
