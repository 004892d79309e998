-- Records that stand no more are let go, one after another.
use Rattle.std.proofs.Common.{◌≡◌, ◌∙◌, ℕ, zero, suc, ◌+◌, ◌<◌, ◌≤◌, Bool, true, false, cond, not, ◌||◌, List, [], ◌∷◌, length, get_or, take, Some, None, refl, sym, ap, subst, arith}
use Rattle.std.specs.Prelude.{find, ◌==◌}
use Rattle.std.specs.List.{filter, list_any}
use Rattle.std.specs.Option.{option_or}
use Rattle.std.proofs.lemmas.List.{length-take, take_more}
use Rattle.std.proofs.lemmas.List.Folds.{find-append}
use Rattle.std.proofs.lemmas.Bool.Decides.{nat_tests}
use Rattle.decision_journal.specs.Journal.{is_decision_at}
use Rattle.decision_journal.specs.declared.journal.Standing.{Standing}
use Rattle.recovery_coord.specs.Held.{Recoveries, without}
use Rattle.recovery_coord.specs.declared.held.Held.{Held}

same_number : (a b : ℕ) → (a == b) ≡ true → a ≡ b
same_number a b e = grind (arith, nat_tests, e)

is_itself : (a : ℕ) → (a == a) ≡ true
is_itself a = grind (arith, nat_tests)

pub not_false : (b : Bool) → not b ≡ false → b ≡ true
not_false true e = refl
not_false false e = absurd cc

pub not_true : (b : Bool) → not b ≡ true → b ≡ false
not_true true e = absurd cc
not_true false e = refl

-- ---- the first that passes a test

pub find_next : {X : Type 0} (q : X → Bool) (xs : List X) (i : ℕ) (x : X) → i < length xs → x ≡ get_or xs i x → find q (take i xs) ≡ None → q x ≡ true → find q xs ≡ Some x
find_next q [] i x lt is none passes = absurd (omega (arith, lt))
find_next q (y ∷ ys) zero x lt is none passes =
    ap (λ (z : _). cond (q z) (Some z) (find q ys)) (sym is) ∙ ap (λ (b : Bool). cond b (Some x) (find q ys)) passes
find_next q (y ∷ ys) (suc i) x lt is none passes = by_test (find_next q ys i x (omega (arith, lt)) is) (q y) none
  where
    by_test : (find q (take i ys) ≡ None → q x ≡ true → find q ys ≡ Some x) → (b : Bool) → cond b (Some y) (find q (take i ys)) ≡ None → cond b (Some y) (find q ys) ≡ Some x
    by_test rest true e = absurd cc
    by_test rest false e = rest e passes

pub find_more : {X : Type 0} (q : X → Bool) (xs : List X) (i : ℕ) (x : X) → i < length xs → x ≡ get_or xs i x → find q (take i xs) ≡ None → q x ≡ false → find q (take (i + 1) xs) ≡ None
find_more q xs i x lt is none fails =
    ap (find q) (take_more xs i x lt)
    ∙ find-append q (take i xs) (get_or xs i x ∷ [])
    ∙ ap (λ o. option_or o (find q (get_or xs i x ∷ []))) none
    ∙ ap (λ z. cond (q z) (Some z) None) (sym is)
    ∙ ap (λ (b : Bool). cond b (Some x) None) fails

-- ---- records that stand

module _ (standing : List Standing) where
  abbrev pub is_there : ℕ → Bool
  is_there place = list_any (is_decision_at place) standing

  abbrev pub keeps : Held → Bool
  keeps r = list_any (is_decision_at r.place) standing

  abbrev pub loses : Held → Bool
  loses r = not (list_any (is_decision_at r.place) standing)

  pub kept_without : (place : ℕ) → is_there place ≡ false → (rs : List Held) → filter keeps (without place rs) ≡ filter keeps rs
  kept_without place gone [] = refl
  kept_without place gone (r ∷ rs) = by_place (kept_without place gone rs) (r.place == place) refl
    where
      by_keep : filter keeps (without place rs) ≡ filter keeps rs → (b : Bool) → cond b (r ∷ filter keeps (without place rs)) (filter keeps (without place rs)) ≡ cond b (r ∷ filter keeps rs) (filter keeps rs)
      by_keep rest true = ap (λ (xs : List Held). r ∷ xs) rest
      by_keep rest false = rest

      by_place : filter keeps (without place rs) ≡ filter keeps rs → (b : Bool) → (r.place == place) ≡ b → filter keeps (cond (not b) (r ∷ without place rs) (without place rs)) ≡ cond (keeps r) (r ∷ filter keeps rs) (filter keeps rs)
      by_place rest false e = by_keep rest (keeps r)
      by_place rest true e =
          let lost : keeps r ≡ false = ap is_there (same_number r.place place e) ∙ gone in
          rest ∙ sym (ap (λ (b : Bool). cond b (r ∷ filter keeps rs) (filter keeps rs)) lost)

  no_more : (place : ℕ) (rs : List Held) → length (without place rs) ≤ length rs
  no_more place [] = omega arith
  no_more place (r ∷ rs) = by_place (no_more place rs) (not (r.place == place))
    where
      by_place : length (without place rs) ≤ length rs → (b : Bool) → length (cond b (r ∷ without place rs) (without place rs)) ≤ length (r ∷ rs)
      by_place rest true = omega (arith, rest)
      by_place rest false = omega (arith, rest)

  fewer : (rs : List Held) (r : Held) → find loses rs ≡ Some r → length (without r.place rs) < length rs
  fewer [] r e = absurd cc
  fewer (x ∷ rs) r e = by_test (fewer rs r) (loses x) e
    where
      passed : length (without r.place rs) < length rs → (b : Bool) → length (cond b (x ∷ without r.place rs) (without r.place rs)) < length (x ∷ rs)
      passed less true = omega (arith, less)
      passed less false = omega (arith, less)

      itself : x ≡ r → length (cond (not (x.place == r.place)) (x ∷ without r.place rs) (without r.place rs)) < length (x ∷ rs)
      itself is =
          let same : (x.place == r.place) ≡ true = ap (λ (y : Held). x.place == y.place) (sym is) ∙ is_itself x.place in
          subst (λ (b : Bool). length (cond (not b) (x ∷ without r.place rs) (without r.place rs)) < length (x ∷ rs)) (sym same) (omega (arith, no_more r.place rs))

      by_test : (find loses rs ≡ Some r → length (without r.place rs) < length rs) → (b : Bool) → cond b (Some x) (find loses rs) ≡ Some r → length (without r.place (x ∷ rs)) < length (x ∷ rs)
      by_test rest true e = let is : x ≡ r = cc in itself is
      by_test rest false e = passed (rest e) (not (x.place == r.place))

  pub all_kept : (rs : List Held) → find loses rs ≡ None → filter keeps rs ≡ rs
  all_kept [] e = refl
  all_kept (x ∷ rs) e = by_test (all_kept rs) (keeps x) e
    where
      by_test : (find loses rs ≡ None → filter keeps rs ≡ rs) → (b : Bool) → cond (not b) (Some x) (find loses rs) ≡ None → cond b (x ∷ filter keeps rs) (filter keeps rs) ≡ x ∷ rs
      by_test rest true e = ap (λ (xs : List Held). x ∷ xs) (rest e)
      by_test rest false e = absurd cc

  -- the first records stay where all of them stand
  pub front_stays : (place : ℕ) → is_there place ≡ false → (i : ℕ) (rs : List Held) → find loses (take i rs) ≡ None → take i (without place rs) ≡ take i rs
  front_stays place gone zero rs e = refl
  front_stays place gone (suc i) [] e = refl
  front_stays place gone (suc i) (r ∷ rs) e = by_keep (front_stays place gone i rs) (keeps r) refl e
    where
      by_place : take i (without place rs) ≡ take i rs → keeps r ≡ true → (b : Bool) → (r.place == place) ≡ b → take (suc i) (cond (not b) (r ∷ without place rs) (without place rs)) ≡ r ∷ take i rs
      by_place rest kept false e = ap (λ (xs : List Held). r ∷ xs) rest
      by_place rest kept true e = let lost : is_there r.place ≡ false = ap is_there (same_number r.place place e) ∙ gone in absurd (cc (lost, kept))

      by_keep : (find loses (take i rs) ≡ None → take i (without place rs) ≡ take i rs) → (b : Bool) → keeps r ≡ b → cond (not b) (Some r) (find loses (take i rs)) ≡ None → take (suc i) (without place (r ∷ rs)) ≡ r ∷ take i rs
      by_keep rest true kept e = by_place (rest e) kept (r.place == place) refl
      by_keep rest false kept e = absurd cc

  -- one of them that stands no more is let go, and all before it stand
  module _ (rs : List Held) (i : ℕ) (x : Held) (lt : i < length rs) (is : x ≡ get_or rs i x) (none : find loses (take i rs) ≡ None) (lost : is_there x.place ≡ false) where
    found : find loses rs ≡ Some x
    found = find_next loses rs i x lt is none (ap not lost)

    pub fewer_left : length (without x.place rs) < length rs
    fewer_left = fewer rs x found

    pub front_left : take i (without x.place rs) ≡ take i rs
    front_left = front_stays x.place lost i rs none

    pub still_within : i ≤ length (without x.place rs)
    still_within = omega (arith, lt, ap length front_left, length-take i rs, length-take i (without x.place rs))

-- ---- records with others in their place

pub same_others : (a b c : Recoveries) (rs : List Held) → a ≡ record b { records = rs } → b ≡ record c { records = b.records } → a ≡ record c { records = a.records }
same_others a b c rs e f =
    e ∙ ap (λ (x : Recoveries). record x { records = rs }) f
    ∙ ap (λ (xs : List Held). record c { records = xs }) (sym (ap (λ (x : Recoveries). x.records) e))
