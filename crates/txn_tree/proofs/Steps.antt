-- The links stay right as branches are made and end.
use Rattle.std.proofs.Common.{◌≡◌, ◌≢◌, inl, inr, ℕ, ◌<◌, true, false, zero, suc, List, [], ◌∷◌, ◌++◌, length, Option, Some, None, refl, ap, sym, ◌∙◌, arith}
use Rattle.std.specs.Prelude.{slice_set}
use Rattle.std.proofs.lemmas.Grind.{common_steps}
use Rattle.txn_tree.specs.Rows.{parent, IsTree, depth, is_live, is_live_branch}
use Rattle.txn_tree.specs.Calls.{created, with_state, top_alone}
use Rattle.txn_tree.specs.Links.{depth_count, kept, last, is_below, LooksBack, IsFound, AreLinked, AreLinkedBut}
use Rattle.txn_tree.specs.declared.row.Row.{Row}
use Rattle.txn_tree.specs.declared.row.State.{State}
use Rattle.txn_tree.specs.declared.row.State.TheVariants.{Active}
use Rattle.txn_tree.specs.declared.links.Links.{Links}
use Rattle.txn_tree.proofs.Kept.{same_or_not, wide_push, last_push, before_push}
use Rattle.txn_tree.proofs.Lineages.{parent_before, parent_kept, length_kept, depth_kept, depth_grows}
use Rattle.txn_tree.proofs.Below.{below_alike, below_low}
use Rattle.txn_tree.proofs.Ways.{carried, found_too, GoOn, looks_still, befores_still, linked_still, linked_but}

-- a row is written
live_other : (rows : List Row) (b : ℕ) (r : Row) (q : ℕ) → q ≢ b → is_live_branch (slice_set rows b r) q ≡ is_live_branch rows q
live_other [] b r q h = refl
live_other (x ∷ rows) zero r zero h = absurd (h refl)
live_other (x ∷ rows) zero r (suc q) h = refl
live_other (x ∷ rows) (suc b) r zero h = refl
live_other (x ∷ rows) (suc b) r (suc q) h = live_other rows b r q (λ e. h (ap (λ (n : ℕ). suc n) e))

live_here : (rows : List Row) (b : ℕ) (r : Row) → b < length rows → is_live_branch (slice_set rows b r) b ≡ is_live r.state
live_here [] b r h = absurd (omega arith)
live_here (x ∷ rows) zero r h = refl
live_here (x ∷ rows) (suc b) r h = live_here rows b r (omega arith)

live_before : (rows : List Row) (r : Row) (q : ℕ) → q < length rows → is_live_branch (rows ++ r ∷ []) q ≡ is_live_branch rows q
live_before [] r q h = absurd (omega arith)
live_before (x ∷ rows) r zero h = refl
live_before (x ∷ rows) r (suc q) h = live_before rows r q (omega arith)

-- another state
state_goes_on : (rows : List Row) (b : ℕ) (s : State) → IsTree rows → b < length rows → (is_live_branch rows b ≡ false → is_live s ≡ false) → GoOn rows (with_state rows b s) (length rows)
state_goes_on rows b s t h dead = record {
  tree = t;
  few = omega arith;
  fits = let same : length (with_state rows b s) ≡ length rows = length_kept rows b s in omega arith;
  same_below = λ a q k. below_alike rows (with_state rows b s) t (λ p _. parent_kept rows b s p) a q k;
  same_depth = λ q k. depth_kept rows t b s q k;
  low = λ a q k below. below_low rows t (suc q) a q (omega arith) k below;
  dead = λ q k off.
      elim (same_or_not q b) [
        | inl e ↦ rw e (live_here rows b (record { parent = parent rows b; state = s }) h ∙ dead (rw e at off))
        | inr ne ↦ live_other rows b (record { parent = parent rows b; state = s }) q ne ∙ off
      ];
}

pub state_ended : (rows : List Row) (links : List Links) (b : ℕ) (s : State) → IsTree rows → b < length rows → is_live s ≡ false → AreLinked rows links (length rows) → AreLinkedBut (with_state rows b s) links b
state_ended rows links b s t h dead linked =
    linked_but rows (with_state rows b s) links b (state_goes_on rows b s t h (λ _. dead)) (length_kept rows b s)
    (λ q ne live. live_other rows b (record { parent = parent rows b; state = s }) q ne ∙ live) linked

pub state_lives : (rows : List Row) (links : List Links) (b : ℕ) (s : State) → IsTree rows → b < length rows → is_live s ≡ true → is_live_branch rows b ≡ true → AreLinked rows links (length rows) → AreLinked (with_state rows b s) links (length (with_state rows b s))
state_lives rows links b s t h live was linked =
    rw (length_kept rows b s)
    (linked_still rows (with_state rows b s) links (length rows) (state_goes_on rows b s t h (λ off. absurd (cc (off, was)))) (linked.ways.each_has_one ∙ sym (length_kept rows b s)) alive linked)
  where
    alive : (q : ℕ) → q < length rows → is_live_branch rows q ≡ true → is_live_branch (with_state rows b s) q ≡ true
    alive q k on =
        elim (same_or_not q b) [
          | inl e ↦ rw e (live_here rows b (record { parent = parent rows b; state = s }) h ∙ live)
          | inr ne ↦ live_other rows b (record { parent = parent rows b; state = s }) q ne ∙ on
        ]

-- one more branch
grows_on : (rows : List Row) (b : ℕ) → IsTree rows → GoOn rows (created rows b) (length rows)
grows_on rows b t = record {
  tree = t;
  few = omega arith;
  fits = let more : length (created rows b) ≡ suc (length rows) = grind (arith, common_steps) in omega arith;
  same_below = λ a q k. below_alike rows (created rows b) t (λ p w. parent_before rows (record { parent = Some b; state = Active }) p w) a q k;
  same_depth = λ q k. depth_grows rows t b q k;
  low = λ a q k below. below_low rows t (suc q) a q (omega arith) k below;
  dead = λ q k off. live_before rows (record { parent = Some b; state = Active }) q k ∙ off;
}

pub links_grow : (rows : List Row) (links : List Links) (b : ℕ) (k : Links) → IsTree rows → AreLinked rows links (length rows) → ((l : ℕ) → kept k.last l ≡ None) → length k.last ≡ depth_count → length k.before ≡ depth_count → AreLinked (created rows b) (links ++ k ∷ []) (length rows)
links_grow rows links b k t linked fresh wide also = record {
  ways = record {
    each_has_one =
        let more : length (created rows b) ≡ suc (length rows) = grind (arith, common_steps) in
        let one : length (links ++ k ∷ []) ≡ suc (length links) = grind (arith, common_steps) in
        omega (arith, linked.ways.each_has_one);
    wide = wide_push links k linked.ways.wide wide also;
    lasts = λ a l. carried (created rows b) a l (length rows) _ _ (last_push links k fresh a l)
        (looks_still rows (created rows b) (length rows) (grows_on rows b t) a l (length rows) (omega arith) _ (linked.ways.lasts a l));
    befores = λ a q low below. carried (created rows b) a (depth (created rows b) q) q _ _
        (before_push links k q (depth (created rows b) a) (omega (arith, low, linked.ways.each_has_one)))
        (befores_still rows (created rows b) links (length rows) (grows_on rows b t) linked.ways a q low below);
  };
  live = λ a l. found_too (created rows b) _ _ (last_push links k fresh a l) (found_on a l (last links a l) (linked.ways.lasts a l) (linked.live a l));
}
  where
    found_on : (a l : ℕ) (o : Option ℕ) → LooksBack rows a l (length rows) o → IsFound rows o → IsFound (created rows b) o
    found_on a l None h f = tt
    found_on a l (Some q) h f = live_before rows (record { parent = Some b; state = Active }) q h.earlier ∙ f

-- the top alone
pub links_begin : (k : Links) → ((l : ℕ) → kept k.last l ≡ None) → length k.last ≡ depth_count → length k.before ≡ depth_count → AreLinked top_alone (k ∷ []) 1
links_begin k fresh wide also = record {
  ways = record {
    each_has_one = refl;
    wide = (wide, also, tt);
    lasts = λ a l. carried top_alone a l 1 _ _ (last_push [] k fresh a l) (record { dead = λ q low high lies. absurd (cc (none_below a q high, lies.below)) });
    befores = λ a q low below. absurd (cc (none_below a q low, below));
  };
  live = λ a l. found_too top_alone _ None (last_push [] k fresh a l) tt;
}
  where
    none_below : (a q : ℕ) → q < 1 → is_below top_alone a q ≡ false
    none_below a zero h = refl
    none_below a (suc q) h = absurd (omega arith)
