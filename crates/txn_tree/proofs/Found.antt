-- What the links of a tree tell of its live branches.
use Rattle.std.proofs.Common.{◌≡◌, ◌⊎◌, inl, inr, ℕ, ◌+◌, ◌<◌, ◌≤◌, ◌&&◌, Bool, true, false, List, length, Option, Some, None, refl, ap, sym, ◌∙◌, arith}
use Rattle.std.specs.Prelude.{MatchOption}
use Rattle.txn_tree.specs.Rows.{depth, is_live_branch}
use Rattle.txn_tree.specs.Calls.{is_live_below, live_under}
use Rattle.txn_tree.specs.Laws.{GoesFirst, IsNext}
use Rattle.txn_tree.specs.Links.{last, is_below, NoneLive, IsBack, AreLinked, NoneKept, IsDeepestAt, IsDeepest}
use Rattle.txn_tree.specs.TreeInside.{HaveDepths}
use Rattle.txn_tree.specs.declared.row.Row.{Row}
use Rattle.txn_tree.specs.declared.links.Links.{Links}
use Rattle.txn_tree.proofs.Below.{live_below_is}
use Rattle.txn_tree.proofs.Next.{next_is_first}

first_of : (x y : Bool) → (x && y) ≡ true → (x ≡ true) × (y ≡ true)
first_of true true h = (refl, refl)
first_of true false h = absurd (cc)
first_of false y h = absurd (cc)

both : (x y : Bool) → x ≡ true → y ≡ true → (x && y) ≡ true
both x y h k = rw (h, k) refl

-- where none is kept for its depth, a branch isn't live below
nothing_kept : (rows : List Row) (links : List Links) (b q : ℕ) → AreLinked rows links (length rows) → q < length rows → last links b (depth rows q) ≡ None → is_below rows b q ≡ true → is_live_branch rows q ≡ false
nothing_kept rows links b q linked h none below =
    let dead : NoneLive rows b (depth rows q) 0 (length rows) = rw none at (linked.ways.lasts b (depth rows q)) in
    dead.dead q (omega arith) h (record { there = h; below = below; deep = refl })

pub none_next : (rows : List Row) (depths : List ℕ) (links : List Links) (b : ℕ) → HaveDepths rows depths → AreLinked rows links (length rows) → NoneKept links b 0 → (q : ℕ) → q < length rows → is_live_below rows b q ≡ false
none_next rows depths links b shape linked none q h = by_value (is_live_below rows b q) refl
  where
    by_value : (x : Bool) → is_live_below rows b q ≡ x → is_live_below rows b q ≡ false
    by_value false e = e
    by_value true e =
        let both_so = first_of (is_live_branch rows q) (is_below rows b q) (sym (live_below_is rows shape.tree b q h) ∙ e) in
        absurd (cc (nothing_kept rows links b q linked h (none (depth rows q) (omega arith) (shape.shallow q h)) both_so.1, both_so.0))

by_depth : (m n : ℕ) → (m < n) ⊎ ((m ≡ n) ⊎ (n + 1 ≤ m))
by_depth m n = grind arith

before_or_after : (q t : ℕ) → (q ≤ t) ⊎ (t + 1 ≤ q)
before_or_after q t = grind arith

pub is_next : (rows : List Row) (depths : List ℕ) (links : List Links) (b t : ℕ) → HaveDepths rows depths → AreLinked rows links (length rows) → IsDeepestAt links b t → IsNext rows b t
is_next rows depths links b t shape linked d = record {
  there = back.lies.there;
  live = live_below_is rows shape.tree b t back.lies.there ∙ both _ _ live back.lies.below;
  first = λ q h alive.
      let both_so = first_of (is_live_branch rows q) (is_below rows b q) (sym (live_below_is rows shape.tree b q h) ∙ alive) in
      elim (by_depth (depth rows q) d.at) [
        | inl less ↦ inl (omega (arith, less, back.lies.deep))
        | inr rest ↦ elim rest [
          | inl same ↦ inr (
            same ∙ sym back.lies.deep,
            elim (before_or_after q t) [
              | inl early ↦ early
              | inr late ↦ absurd (cc (back.none.dead q late h (record { there = h; below = both_so.1; deep = same }), both_so.0))
            ],
          )
          | inr more ↦ absurd (cc (nothing_kept rows links b q linked h (d.none (depth rows q) more (shape.shallow q h)) both_so.1, both_so.0))
        ]
      ];
}
  where
    back : IsBack rows b d.at (length rows) t
    back = rw d.its at (linked.ways.lasts b d.at)

    live : is_live_branch rows t ≡ true
    live = rw d.its at (linked.live b d.at)

-- there is one that goes first
only_one : (rows : List Row) (r q : ℕ) → GoesFirst rows r q → GoesFirst rows q r → r ≡ q
only_one rows r q (inl h) (inl k) = absurd (omega (arith, h, k))
only_one rows r q (inl h) (inr k) = absurd (omega (arith, h, k.0))
only_one rows r q (inr h) (inl k) = absurd (omega (arith, h.0, k))
only_one rows r q (inr h) (inr k) = omega (arith, h.1, k.1)

pub found_next : (rows : List Row) (depths : List ℕ) (links : List Links) (b : ℕ) → HaveDepths rows depths → AreLinked rows links (length rows) → (o : Option ℕ) → IsDeepest links b o → o ≡ live_under rows b
found_next rows depths links b shape linked o d = by_both o (live_under rows b) d (next_is_first rows b)
  where
    by_both : (o p : Option ℕ) → IsDeepest links b o → MatchOption p ((q : ℕ) → q < length rows → is_live_below rows b q ≡ false) (IsNext rows b) → o ≡ p
    by_both None None h k = refl
    by_both None (Some r) h k = absurd (cc (none_next rows depths links b shape linked h r k.there, k.live))
    by_both (Some t) None h k = let n = is_next rows depths links b t shape linked h in absurd (cc (k t n.there, n.live))
    by_both (Some t) (Some r) h k =
        let n = is_next rows depths links b t shape linked h in
        ap (λ (x : ℕ). Some x) (only_one rows t r (n.first r k.there k.live) (k.first t n.there n.live))
