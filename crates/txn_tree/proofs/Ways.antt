-- What looks back over the branches.
use Rattle.std.proofs.Common.{◌≡◌, ◌≢◌, ◌⊎◌, inl, inr, ℕ, ◌+◌, ◌<◌, ◌≤◌, true, false, List, [], ◌∷◌, ◌++◌, length, Option, Some, None, ap, sym, ◌∙◌, arith}
use Rattle.std.specs.Prelude.{IfSome}
use Rattle.txn_tree.specs.Rows.{IsTree, depth, is_live_branch}
use Rattle.txn_tree.specs.Links.{kept, last, before, AreWide, is_below, LiesBelow, NoneLive, IsBack, LooksBack, IsFound, LeaveNoneOut, AreLinked, AreLinkedBut}
use Rattle.txn_tree.specs.declared.row.Row.{Row}
use Rattle.txn_tree.specs.declared.links.Links.{Links}
use Rattle.txn_tree.proofs.Kept.{same_or_not, last_push, before_push}

pub before_at_after : (q t : ℕ) → (q < t) ⊎ ((q ≡ t) ⊎ (t + 1 ≤ q))
before_at_after q t = grind arith

pub carried : (rows : List Row) (a l end : ℕ) (o p : Option ℕ) → o ≡ p → LooksBack rows a l end p → LooksBack rows a l end o
carried rows a l end o p e h = rw e h

pub found_too : (rows : List Row) (o p : Option ℕ) → o ≡ p → IsFound rows p → IsFound rows o
found_too rows o p e h = rw e h

-- one more branch, which is not live there
none_more : (rows : List Row) (a l from end : ℕ) → NoneLive rows a l from end → (LiesBelow rows a l end → is_live_branch rows end ≡ false) → NoneLive rows a l from (end + 1)
none_more rows a l from end h here = record {
  dead = λ q low high lies.
      elim (same_or_not q end) [
        | inl e ↦ rw e (here (rw e at lies))
        | inr ne ↦ h.dead q low (omega (arith, high, ne)) lies
      ];
}

pub looks_on : (rows : List Row) (a l end : ℕ) (o : Option ℕ) → LooksBack rows a l end o → (LiesBelow rows a l end → is_live_branch rows end ≡ false) → LooksBack rows a l (end + 1) o
looks_on rows a l end None h here = none_more rows a l 0 end h here
looks_on rows a l end (Some t) h here = record {
  lies = h.lies;
  earlier = omega (arith, h.earlier);
  none = none_more rows a l (t + 1) end h.none here;
}

-- the new branch is the last one
pub looks_at_new : (rows : List Row) (a l b : ℕ) → LiesBelow rows a l b → LooksBack rows a l (b + 1) (Some b)
looks_at_new rows a l b lies = record {
  lies = lies;
  earlier = omega arith;
  none = record { dead = λ q low high _. absurd (omega (arith, low, high)) };
}

-- further back over one that has ended
joined : (rows : List Row) (a l from t end : ℕ) → NoneLive rows a l from t → is_live_branch rows t ≡ false → NoneLive rows a l (t + 1) end → NoneLive rows a l from end
joined rows a l from t end low here high = record {
  dead = λ q k m lies.
      elim (before_at_after q t) [
        | inl early ↦ low.dead q k early lies
        | inr rest ↦ elim rest [ inl same ↦ rw same here | inr late ↦ high.dead q late m lies ]
      ];
}

further : (rows : List Row) (a l t end : ℕ) (o : Option ℕ) → LooksBack rows a l t o → is_live_branch rows t ≡ false → t < end → NoneLive rows a l (t + 1) end → LooksBack rows a l end o
further rows a l t end None h here k high = joined rows a l 0 t end h here high
further rows a l t end (Some s) h here k high = record {
  lies = h.lies;
  earlier = omega (arith, h.earlier);
  none = joined rows a l (s + 1) t end h.none here high;
}

pub goes_back : (rows : List Row) (links : List Links) (a l end t : ℕ) → LeaveNoneOut rows links end → IsBack rows a l end t → is_live_branch rows t ≡ false → LooksBack rows a l end (before links t (depth rows a))
goes_back rows links a l end t ways h here =
    let step : LooksBack rows a l t (before links t (depth rows a)) = rw h.lies.deep at (ways.befores a t h.earlier h.lies.below) in
    further rows a l t end _ step here h.earlier h.none

pub goes_down : (rows : List Row) (links : List Links) (a l end t : ℕ) → LeaveNoneOut rows links end → IsBack rows a l end t → IfSome (before links t (depth rows a)) (λ s. s < t)
goes_down rows links a l end t ways h = down (before links t (depth rows a)) (ways.befores a t h.earlier h.lies.below)
  where
    down : (o : Option ℕ) → LooksBack rows a (depth rows t) t o → IfSome o (λ s. s < t)
    down None k = tt
    down (Some s) k = k.earlier

-- rows that have the same tree, where what has ended has ended still
pub record GoOn (rows more : List Row) (end : ℕ) : Type 0 where
  pub tree : IsTree rows
  pub few : end ≤ length rows
  pub fits : end ≤ length more
  pub same_below : (a q : ℕ) → q < end → is_below more a q ≡ is_below rows a q
  pub same_depth : (q : ℕ) → q < end → depth more q ≡ depth rows q
  pub low : (a q : ℕ) → q < end → is_below rows a q ≡ true → a < q
  pub dead : (q : ℕ) → q < end → is_live_branch rows q ≡ false → is_live_branch more q ≡ false

none_on : (rows more : List Row) (end : ℕ) → GoOn rows more end → (a l from upto : ℕ) → upto ≤ end → NoneLive rows a l from upto → NoneLive more a l from upto
none_on rows more end g a l from upto k h = record {
  dead = λ q low high lies.
      let within : q < end = omega (arith, high) in
      g.dead q within (h.dead q low high (record {
        there = omega (arith, g.few);
        below = sym (g.same_below a q within) ∙ lies.below;
        deep = sym (g.same_depth q within) ∙ lies.deep;
      }));
}

pub looks_still : (rows more : List Row) (end : ℕ) → GoOn rows more end → (a l upto : ℕ) → upto ≤ end → (o : Option ℕ) → LooksBack rows a l upto o → LooksBack more a l upto o
looks_still rows more end g a l upto k None h = none_on rows more end g a l 0 upto k h
looks_still rows more end g a l upto k (Some t) h =
    let within : t < end = omega (arith, h.earlier) in
    record {
      lies = record {
        there = omega (arith, g.fits);
        below = g.same_below a t within ∙ h.lies.below;
        deep = g.same_depth t within ∙ h.lies.deep;
      };
      earlier = h.earlier;
      none = none_on rows more end g a l (t + 1) upto k h.none;
    }

pub befores_still : (rows more : List Row) (links : List Links) (end : ℕ) → GoOn rows more end → LeaveNoneOut rows links end → (a q : ℕ) → q < end → is_below more a q ≡ true → LooksBack more a (depth more q) q (before links q (depth more a))
befores_still rows more links end g ways a q k b =
    let below : is_below rows a q ≡ true = sym (g.same_below a q k) ∙ b in
    let low : a < q = g.low a q k below in
    rw (g.same_depth q k, g.same_depth a (omega arith)) (looks_still rows more end g a (depth rows q) q (omega arith) _ (ways.befores a q k below))

-- with no links all branches before the first are linked
pub cleared : (rows : List Row) (links : List Links) → length links ≡ length rows → AreWide links → ((a l : ℕ) → last links a l ≡ None) → AreLinked rows links 0
cleared rows links same wide none = record {
  ways = record {
    each_has_one = same;
    wide = wide;
    lasts = λ a l. carried rows a l 0 _ None (none a l) (record { dead = λ q low high _. absurd (omega (arith, high)) });
    befores = λ a q h _. absurd (omega (arith, h));
  };
  live = λ a l. found_too rows _ None (none a l) tt;
}

-- where nothing ended anew, what was found is found
pub linked_still : (rows more : List Row) (links : List Links) (end : ℕ) → GoOn rows more end → length links ≡ length more → ((t : ℕ) → t < end → is_live_branch rows t ≡ true → is_live_branch more t ≡ true) → AreLinked rows links end → AreLinked more links end
linked_still rows more links end g same alive linked = record {
  ways = record {
    each_has_one = same;
    wide = linked.ways.wide;
    lasts = λ a l. looks_still rows more end g a l end (omega arith) _ (linked.ways.lasts a l);
    befores = befores_still rows more links end g linked.ways;
  };
  live = λ a l. found_still a l (last links a l) (linked.ways.lasts a l) (linked.live a l);
}
  where
    found_still : (a l : ℕ) (o : Option ℕ) → LooksBack rows a l end o → IsFound rows o → IsFound more o
    found_still a l None h f = tt
    found_still a l (Some t) h f = alive t h.earlier f

-- where one ended, all others that were found are found
pub linked_but : (rows more : List Row) (links : List Links) (ended : ℕ) → GoOn rows more (length rows) → length more ≡ length rows → ((t : ℕ) → t ≢ ended → is_live_branch rows t ≡ true → is_live_branch more t ≡ true) → AreLinked rows links (length rows) → AreLinkedBut more links ended
linked_but rows more links ended g same alive linked = record {
  ways = rw same (record {
    each_has_one = linked.ways.each_has_one ∙ sym same;
    wide = linked.ways.wide;
    lasts = λ a l. looks_still rows more (length rows) g a l (length rows) (omega arith) _ (linked.ways.lasts a l);
    befores = befores_still rows more links (length rows) g linked.ways;
  });
  live = λ a l ne. found_else (last links a l) ne (linked.live a l);
}
  where
    found_else : (o : Option ℕ) → o ≢ Some ended → IsFound rows o → IsFound more o
    found_else None ne f = tt
    found_else (Some t) ne f = alive t (λ e. ne (ap (λ (x : ℕ). Some x) e)) f

-- the links of one more branch
pub linked_more : (rows : List Row) (links : List Links) (k : Links) (end : ℕ) → end ≤ length links → ((l : ℕ) → kept k.last l ≡ None) → AreWide (links ++ k ∷ []) → length (links ++ k ∷ []) ≡ length rows → ((a l : ℕ) → LooksBack rows a l end (last links a l)) → ((a l : ℕ) → IsFound rows (last links a l)) → ((a q : ℕ) → q < end → is_below rows a q ≡ true → LooksBack rows a (depth rows q) q (before links q (depth rows a))) → AreLinked rows (links ++ k ∷ []) end
linked_more rows links k end h fresh wide same lasts live befores = record {
  ways = record {
    each_has_one = same;
    wide = wide;
    lasts = λ a l. carried rows a l end _ _ (last_push links k fresh a l) (lasts a l);
    befores = λ a q low below. carried rows a (depth rows q) q _ _ (before_push links k q (depth rows a) (omega (arith, low))) (befores a q low below);
  };
  live = λ a l. found_too rows _ _ (last_push links k fresh a l) (live a l);
}
