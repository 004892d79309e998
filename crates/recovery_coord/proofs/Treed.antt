-- The first record of a tree, among records in the order of their places: what one more record, one less, and a change of each
-- make of it.
use Rattle.std.proofs.Common.{◌≡◌, ◌∙◌, inl, inr, refl, sym, ap, ℕ, zero, suc, ◌+◌, ◌<◌, ◌≤◌, Bool, true, false, cond, not, ◌&&◌, ◌||◌, List, [], ◌∷◌, length, get_or, map, take, Option, Some, None, is_some, arith}
use Rattle.std.specs.Prelude.{◌==◌, find, min, IsOk, IsSome, OnErr, OnOk, Result, Ok, Err}
use Rattle.std.specs.List.{insert, list_any, remove}
use Rattle.std.specs.Option.{option_map_or}
use Rattle.std.proofs.lemmas.Bool.{cases_lt, not-true}
use Rattle.std.proofs.lemmas.Bool.Decides.{nat_tests}
use Rattle.std.proofs.lemmas.List.{get_or-take, get_or_default, length-take-le, take_more}
use Rattle.std.proofs.lemmas.List.Edits.{insert_end}
use Rattle.std.proofs.lemmas.List.Folds.{list_any_at}
use Rattle.ots_model.specs.declared.completion.CallNumber.{CallNumber}
use Rattle.ots_model.specs.declared.tree.Heard.{Heard}
use Rattle.ior_refs.specs.declared.key.ObjectKey.{ObjectKey}
use Rattle.recovery_coord.specs.declared.held.Held.{Held}
use Rattle.recovery_coord.specs.declared.trees.First.{First}
use Rattle.recovery_coord.specs.declared.trees.Tree.{Tree}
use Rattle.recovery_coord.specs.Held.{is_complete}
use Rattle.recovery_coord.specs.Hearing.{held_after, record_after}
use Rattle.recovery_coord.specs.Telling.{recalled, retold}
use Rattle.recovery_coord.specs.Order.{IsAt, IsGap, RiseFrom}
use Rattle.recovery_coord.specs.Replay.{is_of_tree}
use Rattle.recovery_coord.specs.Trees.{Firsts, IsIndex, IsParted, IsPut, Joins, first_in, first_of, is_of, joined, joins, parted, same_tree, tree_named, tree_of}
use Rattle.recovery_coord.proofs.Ordered.{none_at, rising, tail_gap}

module _ (t : Tree) where
  abbrev here : Held → List Held → First
  here r rs = record { place = r.place; alone = not (list_any (is_of t) rs) }

  -- ---- whether there is one

  pub first_any : (rs : List Held) → is_some (first_of t rs) ≡ list_any (is_of t) rs
  first_any [] = refl
  first_any (r ∷ rs) = by_test (first_any rs) (is_of t r)
    where
      by_test : is_some (first_of t rs) ≡ list_any (is_of t) rs → (b : Bool) → is_some (cond b (Some (here r rs)) (first_of t rs)) ≡ (b || list_any (is_of t) rs)
      by_test rest true = refl
      by_test rest false = rest

  none_of : (o : Option First) → is_some o ≡ false → o ≡ None
  none_of None e = refl
  none_of (Some x) e = absurd (cc (e))

  -- ---- where it is

  pub first_above : (n : ℕ) (rs : List Held) → ((k : ℕ) (d : Held) → k < length rs → n < (get_or rs k d).place) → (f : First) → first_of t rs ≡ Some f → n < f.place
  first_above n [] above f e = absurd (cc (e))
  first_above n (r ∷ rs) above f e = by_test (λ is. first_above n rs (λ k d lt. above (suc k) d (omega (arith, lt))) f is) (is_of t r) e
    where
      by_test : (first_of t rs ≡ Some f → n < f.place) → (b : Bool) → cond b (Some (here r rs)) (first_of t rs) ≡ Some f → n < f.place
      by_test rest true e =
          let same : r.place ≡ f.place = cc (e) in
          omega (arith, above zero r (omega arith), same)
      by_test rest false e = rest e

  -- the record at that index is the first one
  record IsFirst (rs : List Held) (f : First) (k : ℕ) : Type 0 where
    pub within : k < length rs
    pub place : (d : Held) → (get_or rs k d).place ≡ f.place
    pub found : (d : Held) → find (is_of t) rs ≡ Some (get_or rs k d)

  first_at : (rs : List Held) (f : First) → first_of t rs ≡ Some f → (k : ℕ) × IsFirst rs f k
  first_at [] f e = absurd (cc (e))
  first_at (r ∷ rs) f e = by_test (λ is. first_at rs f is) (is_of t r) refl e
    where
      by_test : (first_of t rs ≡ Some f → (k : ℕ) × IsFirst rs f k) → (b : Bool) → is_of t r ≡ b → cond b (Some (here r rs)) (first_of t rs) ≡ Some f
          → (k : ℕ) × IsFirst (r ∷ rs) f k
      by_test rest_of true is e = (
        0,
        record {
          within = omega arith;
          place = λ d. cc (e);
          found = λ d. ap (λ (b : Bool). cond b (Some r) (find (is_of t) rs)) is;
        },
      )
      by_test rest_of false is e =
          let rest = rest_of e in (
            suc rest.0,
            record {
              within = omega (arith, rest.1.within);
              place = λ d. rest.1.place d;
              found = λ d. ap (λ (b : Bool). cond b (Some r) (find (is_of t) rs)) is ∙ rest.1.found d;
            },
          )

  pub first_none : (rs : List Held) → first_of t rs ≡ None → find (is_of t) rs ≡ None
  first_none [] e = refl
  first_none (r ∷ rs) e = by_test (λ is. first_none rs is) (is_of t r) e
    where
      by_test : (first_of t rs ≡ None → find (is_of t) rs ≡ None) → (b : Bool) → cond b (Some (here r rs)) (first_of t rs) ≡ None → cond b (Some r) (find (is_of t) rs) ≡ None
      by_test rest true e = absurd (cc (e))
      by_test rest false e = rest e

  pub first_found : (rs : List Held) → RiseFrom 0 rs → (f : First) → first_of t rs ≡ Some f → (i : ℕ) (d : Held) → IsAt f.place i rs → find (is_of t) rs ≡ Some (get_or rs i d)
  first_found rs rise f e i d at =
      let there = first_at rs f e in
      let same : there.0 ≡ i = only there.0 i there.1.within at.within (there.1.place d ∙ sym (at.same d)) in
      there.1.found d ∙ ap (λ (k : ℕ). Some (get_or rs k d)) same
    where
      only : (j k : ℕ) → j < length rs → k < length rs → (get_or rs j d).place ≡ (get_or rs k d).place → j ≡ k
      only j k less more same = elim (cases_lt j k) [
        | inl lt ↦ absurd (omega (arith, rising 0 rs rise j k d lt more, same))
        | inr ge ↦ elim (cases_lt k j) [
          | inl lt ↦ absurd (omega (arith, rising 0 rs rise k j d lt less, same))
          | inr le ↦ omega (arith, ge, le)
        ]
      ]

  pub first_no_gap : (rs : List Held) (f : First) → first_of t rs ≡ Some f → (i : ℕ) → IsGap f.place i rs → ⊥
  first_no_gap [] f e i gap = absurd (cc (e))
  first_no_gap (r ∷ rs) f e i gap =
      let there = first_at (r ∷ rs) f e in
      none_at f.place i (r ∷ rs) gap there.0 r there.1.within (there.1.place r)

  -- ---- one more

  any_insert : (x : Held) (rs : List Held) (i : ℕ) → i ≤ length rs → list_any (is_of t) (insert rs i x) ≡ (is_of t x || list_any (is_of t) rs)
  any_insert x rs zero le = refl
  any_insert x [] (suc i) le = absurd (omega (arith, le))
  any_insert x (r ∷ rs) (suc i) le = ap (λ (b : Bool). is_of t r || b) (any_insert x rs i (omega (arith, le))) ∙ swap (is_of t r) (is_of t x) (list_any (is_of t) rs)
    where
      swap : (a b c : Bool) → (a || (b || c)) ≡ (b || (a || c))
      swap true true c = refl
      swap true false c = refl
      swap false b c = refl

  front : (x : Held) (rs : List Held) → ((f : First) → first_of t rs ≡ Some f → x.place < f.place) → Some (here x rs) ≡ Some (joined x.place (first_of t rs))
  front x rs above = by_first (first_of t rs) refl (first_any rs)
    where
      by_first : (o : Option First) → first_of t rs ≡ o → is_some (first_of t rs) ≡ list_any (is_of t) rs → Some (here x rs) ≡ Some (joined x.place o)
      by_first None is any =
          let none : list_any (is_of t) rs ≡ false = sym any ∙ ap is_some is in
          ap (λ (b : Bool). Some (record { place = x.place; alone = not b })) none
      by_first (Some f) is any =
          let some : list_any (is_of t) rs ≡ true = sym any ∙ ap is_some is in
          let least : x.place ≡ min x.place f.place = omega (arith, above f is) in
          ap (λ (b : Bool). Some (record { place = x.place; alone = not b })) some ∙ ap (λ (n : ℕ). Some (record { place = n; alone = false })) least

  pub first_insert : (x : Held) (rs : List Held) (i : ℕ) → IsGap x.place i rs → first_of t (insert rs i x) ≡ joins t x (first_of t rs)
  first_insert x rs zero gap = ap (λ (o : Option First). cond (is_of t x) o (first_of t rs)) (front x rs (first_above x.place rs (λ k d lt. gap.above k d (omega arith) lt)))
  first_insert x [] (suc i) gap = absurd (omega (arith, gap.within))
  first_insert x (r ∷ rs) (suc i) gap =
      by_test (is_of t r) (first_insert x rs i (tail_gap x i r rs gap)) (any_insert x rs i (omega (arith, gap.within)))
    where
      least : r.place ≡ min x.place r.place
      least = omega (arith, gap.below zero r (omega arith))

      by_both : (b : Bool) → Some (record { place = r.place; alone = not (b || list_any (is_of t) rs) }) ≡ cond b (Some (joined x.place (Some (here r rs)))) (Some (here r rs))
      by_both true = ap (λ (n : ℕ). Some (record { place = n; alone = false })) least
      by_both false = refl

      by_test : (b : Bool) → first_of t (insert rs i x) ≡ joins t x (first_of t rs) → list_any (is_of t) (insert rs i x) ≡ (is_of t x || list_any (is_of t) rs)
          → cond b (Some (here r (insert rs i x))) (first_of t (insert rs i x)) ≡ joins t x (cond b (Some (here r rs)) (first_of t rs))
      by_test true rest any = ap (λ (c : Bool). Some (record { place = r.place; alone = not c })) any ∙ by_both (is_of t x)
      by_test false rest any = rest

  -- ---- one less

  any_remove : (rs : List Held) (i : ℕ) (d : Held) → i < length rs → is_of t (get_or rs i d) ≡ false → list_any (is_of t) (remove rs i) ≡ list_any (is_of t) rs
  any_remove [] i d lt other = absurd (omega arith)
  any_remove (r ∷ rs) zero d lt other = sym (ap (λ (b : Bool). b || list_any (is_of t) rs) other)
  any_remove (r ∷ rs) (suc i) d lt other = ap (λ (b : Bool). is_of t r || b) (any_remove rs i d (omega (arith, lt)) other)

  pub first_remove : (rs : List Held) (i : ℕ) (d : Held) → i < length rs → is_of t (get_or rs i d) ≡ false → first_of t (remove rs i) ≡ first_of t rs
  first_remove [] i d lt other = absurd (omega arith)
  first_remove (r ∷ rs) zero d lt other = sym (ap (λ (b : Bool). cond b (Some (here r rs)) (first_of t rs)) other)
  first_remove (r ∷ rs) (suc i) d lt other =
      ap (λ (b : Bool). cond (is_of t r) (Some (record { place = r.place; alone = not b })) (first_of t (remove rs i))) (any_remove rs i d (omega (arith, lt)) other)
      ∙ ap (λ (o : Option First). cond (is_of t r) (Some (here r rs)) o) (first_remove rs i d (omega (arith, lt)) other)

  pub first_alone : (rs : List Held) (i : ℕ) (d : Held) → i < length rs → is_of t (get_or rs i d) ≡ true → (f : First) → first_of t rs ≡ Some f → f.alone ≡ true → first_of t (remove rs i) ≡ None
  first_alone [] i d lt own f e alone = absurd (omega arith)
  first_alone (r ∷ rs) zero d lt own f e alone =
      let is : Some (here r rs) ≡ Some f = sym (ap (λ (b : Bool). cond b (Some (here r rs)) (first_of t rs)) own) ∙ e in
      let none : not (list_any (is_of t) rs) ≡ true = ap (λ (o : Option First). option_map_or (λ (x : First). x.alone) o true) is ∙ alone in
      none_of (first_of t rs) (first_any rs ∙ not-true (list_any (is_of t) rs) none)
  first_alone (r ∷ rs) (suc i) d lt own f e alone = by_test (λ is. first_alone rs i d (omega (arith, lt)) own f is alone) (is_of t r) e
    where
      some : list_any (is_of t) rs ≡ true
      some = list_any_at (is_of t) rs i d (omega (arith, lt)) own

      by_test : (first_of t rs ≡ Some f → first_of t (remove rs i) ≡ None) → (b : Bool) → cond b (Some (here r rs)) (first_of t rs) ≡ Some f
          → cond b (Some (here r (remove rs i))) (first_of t (remove rs i)) ≡ None
      by_test rest true e =
          let none : not (list_any (is_of t) rs) ≡ true = ap (λ (o : Option First). option_map_or (λ (x : First). x.alone) o true) e ∙ alone in
          absurd (cc (none, some))
      by_test rest false e = rest e

  -- ---- a change of each

  module _ (g : Held → Held) (places : (r : Held) → (g r).place ≡ r.place) (trees : (r : Held) → tree_of (g r) ≡ tree_of r) where
    same : (r : Held) → is_of t (g r) ≡ is_of t r
    same r = ap (λ (x : Tree). same_tree x t) (trees r)

    any_map : (rs : List Held) → list_any (is_of t) (map g rs) ≡ list_any (is_of t) rs
    any_map [] = refl
    any_map (r ∷ rs) = ap (λ (b : Bool). b || list_any (is_of t) (map g rs)) (same r) ∙ ap (λ (b : Bool). is_of t r || b) (any_map rs)

    pub first_map : (rs : List Held) → first_of t (map g rs) ≡ first_of t rs
    first_map [] = refl
    first_map (r ∷ rs) =
        ap (λ (b : Bool). cond b (Some (here (g r) (map g rs))) (first_of t (map g rs))) (same r)
        ∙ ap (λ (n : ℕ). cond (is_of t r) (Some (record { place = n; alone = not (list_any (is_of t) (map g rs)) })) (first_of t (map g rs))) (places r)
        ∙ ap (λ (b : Bool). cond (is_of t r) (Some (record { place = r.place; alone = not b })) (first_of t (map g rs))) (any_map rs)
        ∙ ap (λ (o : Option First). cond (is_of t r) (Some (here r rs)) o) (first_map rs)

-- ---- trees that are the same

both : (p q : Bool) → (p && q) ≡ true → (p ≡ true) × (q ≡ true)
both true true e = (refl, refl)
both true false e = absurd (cc (e))
both false q e = absurd (cc (e))

number_is : (m n : ℕ) → (m == n) ≡ true → m ≡ n
number_is m n e = grind (arith, nat_tests, e)

number_self : (n : ℕ) → (n == n) ≡ true
number_self n = grind (arith, nat_tests)

pub tree_is : (a b : Tree) → same_tree a b ≡ true → a ≡ b
tree_is a b e =
    let lives = both (a.life == b.life) (a.slot == b.slot && a.generation == b.generation) e in
    let others = both (a.slot == b.slot) (a.generation == b.generation) lives.1 in
    ap (λ (n : ℕ). record { life = n; slot = a.slot; generation = a.generation }) (number_is a.life b.life lives.0)
    ∙ ap (λ (n : ℕ). record { life = b.life; slot = n; generation = a.generation }) (number_is a.slot b.slot others.0)
    ∙ ap (λ (n : ℕ). record { life = b.life; slot = b.slot; generation = n }) (number_is a.generation b.generation others.1)

pub tree_self : (a : Tree) → same_tree a a ≡ true
tree_self a =
    ap (λ (b : Bool). b && (a.slot == a.slot && a.generation == a.generation)) (number_self a.life)
    ∙ ap (λ (b : Bool). b && a.generation == a.generation) (number_self a.slot)
    ∙ number_self a.generation

-- ---- the index

-- it stays where records keep their trees and places
pub index_map : (g : Held → Held) → ((r : Held) → (g r).place ≡ r.place) → ((r : Held) → tree_of (g r) ≡ tree_of r)
    → (firsts : Firsts) (rs : List Held) → IsIndex firsts rs → IsIndex firsts (map g rs)
index_map g places trees firsts rs index = λ t. index t ∙ sym (first_map t g places trees rs)

pub index_joined : (before after : Firsts) (x : Held) (rs later : List Held) → IsIndex before rs → Joins x rs later
    → IsPut (tree_of x) (Some (joined x.place (first_in before (tree_of x)))) before after → IsIndex after later
index_joined before after x rs later index joins_all put = λ t. put t ∙ by_test t (same_tree (tree_of x) t) refl ∙ sym (joins_all t)
  where
    by_test : (t : Tree) (b : Bool) → same_tree (tree_of x) t ≡ b
        → cond b (Some (joined x.place (first_in before (tree_of x)))) (first_in before t) ≡ cond b (Some (joined x.place (first_of t rs))) (first_of t rs)
    by_test t true is =
        ap (λ (u : Tree). Some (joined x.place (first_in before u))) (tree_is (tree_of x) t is) ∙ ap (λ (o : Option First). Some (joined x.place o)) (index t)
    by_test t false is = index t

pub index_parted : (before after : Firsts) (tree : Tree) (rs later : List Held) → IsIndex before rs → IsParted tree rs later
    → IsPut tree (parted (first_in before tree) (first_of tree later)) before after → IsIndex after later
index_parted before after tree rs later index parts put = λ t. put t ∙ by_test t (same_tree tree t) refl
  where
    by_test : (t : Tree) (b : Bool) → same_tree tree t ≡ b
        → cond b (parted (first_in before tree) (first_of tree later)) (first_in before t) ≡ first_of t later
    by_test t true is =
        ap (λ (o : Option First). parted o (first_of tree later)) (index tree) ∙ parts.left ∙ ap (λ (u : Tree). first_of u later) (tree_is tree t is)
    by_test t false is = index t ∙ sym (parts.others t is)

-- a record is taken out
pub removed : (rs : List Held) (i : ℕ) (d x : Held) → i < length rs → x ≡ get_or rs i d → IsParted (tree_of x) rs (remove rs i)
removed rs i d x lt is = record {
  others = λ t other. first_remove t rs i d lt (ap (λ (r : Held). is_of t r) (sym is) ∙ other);
  left = by_first (first_of (tree_of x) rs) refl;
}
  where
    own : is_of (tree_of x) (get_or rs i d) ≡ true
    own = ap (λ (r : Held). is_of (tree_of x) r) (sym is) ∙ tree_self (tree_of x)

    by_alone : (f : First) (b : Bool) → f.alone ≡ b → first_of (tree_of x) rs ≡ Some f → cond b None (first_of (tree_of x) (remove rs i)) ≡ first_of (tree_of x) (remove rs i)
    by_alone f true alone e = sym (first_alone (tree_of x) rs i d lt own f e alone)
    by_alone f false alone e = refl

    by_first : (o : Option First) → first_of (tree_of x) rs ≡ o → parted o (first_of (tree_of x) (remove rs i)) ≡ first_of (tree_of x) (remove rs i)
    by_first None e =
        let some : is_some (first_of (tree_of x) rs) ≡ true = first_any (tree_of x) rs ∙ list_any_at (is_of (tree_of x)) rs i d lt own in
        absurd (cc (some, e))
    by_first (Some f) e = by_alone f f.alone refl e

-- one is put in at the end
pub first_push : (t : Tree) (rs : List Held) → RiseFrom 0 rs → (i : ℕ) (d : Held) → i < length rs
    → first_of t (take (i + 1) rs) ≡ joins t (get_or rs i d) (first_of t (take i rs))
first_push t rs rise i d lt =
    let x = get_or rs i d in
    let count : length (take i rs) ≡ i = length-take-le i rs (omega (arith, lt)) in
    ap (first_of t) (take_more rs i d lt ∙ sym (insert_end (take i rs) x))
    ∙ first_insert t x (take i rs) (length (take i rs)) (record {
      within = omega arith;
      below = λ k e less.
          let within : k < i = omega (arith, less, count) in
          let same : (get_or (take i rs) k e).place ≡ (get_or rs k d).place =
          ap (λ (r : Held). r.place) (get_or-take i rs k e within ∙ get_or_default rs k e d (omega (arith, within, lt))) in
          omega (arith, same, rising 0 rs rise k i d within lt);
      above = λ k e ge less. absurd (omega (arith, ge, less));
    })

-- ---- what changes of a record is none of its tree

pub heard_tree : (n : CallNumber) (h : Heard) (r : Held) → tree_of (record_after n h r) ≡ tree_of r
heard_tree n h r = by_test (r.place == n.generation)
  where
    by_test : (b : Bool) → tree_of (cond b (held_after n.serial h r) r) ≡ tree_of r
    by_test true = refl
    by_test false = refl

pub retold_tree : (r : Held) → tree_of (retold r) ≡ tree_of r
retold_tree r = by_test (is_complete r)
  where
    by_test : (b : Bool) → tree_of (cond b (record r { parties = map recalled r.parties }) r) ≡ tree_of r
    by_test true = refl
    by_test false = refl

-- ---- the tree that a key names

own_nested : (a b c d : Bool) → a ≡ true → (a && b && c && d) ≡ (b && (c && d))
own_nested true true true d e = refl
own_nested true true false d e = refl
own_nested true false c d e = refl
own_nested false b c d e = absurd (cc (e))

other_nested : (a b c d : Bool) → a ≡ false → (a && b && c && d) ≡ false
other_nested false b c d e = refl
other_nested true b c d e = absurd (cc (e))

turn : (m n : ℕ) → (m == n) ≡ (n == m)
turn m n = grind (arith, nat_tests)

named_test : (service : ℕ) (key : ObjectKey) → (key.service == service) ≡ true → (r : Held) → is_of_tree service key r ≡ is_of (tree_named key) r
named_test service key own r =
    own_nested (key.service == service) (key.life == r.life) (key.slot == r.slot) (key.generation == r.generation) own
    ∙ ap (λ (b : Bool). b && (key.slot == r.slot && key.generation == r.generation)) (turn key.life r.life)
    ∙ ap (λ (b : Bool). r.life == key.life && (b && key.generation == r.generation)) (turn key.slot r.slot)
    ∙ ap (λ (b : Bool). r.life == key.life && (r.slot == key.slot && b)) (turn key.generation r.generation)

pub named_find : (service : ℕ) (key : ObjectKey) → (key.service == service) ≡ true → (rs : List Held) → find (is_of_tree service key) rs ≡ find (is_of (tree_named key)) rs
named_find service key own [] = refl
named_find service key own (r ∷ rs) =
    ap (λ (b : Bool). cond b (Some r) (find (is_of_tree service key) rs)) (named_test service key own r)
    ∙ ap (λ (o : Option Held). cond (is_of (tree_named key) r) (Some r) o) (named_find service key own rs)

pub none_find : (p : Held → Bool) → ((r : Held) → p r ≡ false) → (rs : List Held) → find p rs ≡ None
none_find p never [] = refl
none_find p never (r ∷ rs) = ap (λ (b : Bool). cond b (Some r) (find p rs)) (never r) ∙ none_find p never rs

pub other_service : (service : ℕ) (key : ObjectKey) → (key.service == service) ≡ false → (rs : List Held) → find (is_of_tree service key) rs ≡ None
other_service service key other rs = none_find (is_of_tree service key) (λ r. other_nested (key.service == service) (key.life == r.life) (key.slot == r.slot) (key.generation == r.generation) other) rs

pub other_kind : (service kind : ℕ) (key : ObjectKey) → (key.kind == kind) ≡ false → (rs : List Held) → find (λ r. key.kind == kind && is_of_tree service key r) rs ≡ None
other_kind service kind key other rs = none_find (λ r. key.kind == kind && is_of_tree service key r) (λ r. ap (λ (b : Bool). b && is_of_tree service key r) other) rs

-- ---- calls of a map

pub on_ok : {A E : Type 0} (r : Result A E) (P : Type 0) → IsOk r → OnOk r P → P
on_ok (Ok x) P ok p = p
on_ok (Err x) P ok p = absurd (cc (ok))

pub ok_where : {A E : Type 0} (r : Result A E) (P Q : Type 0) → OnErr r P → (P → ⊥) → OnOk r Q → Q
ok_where (Ok x) P Q err never ok = ok
ok_where (Err x) P Q err never ok = absurd (never err)

pub some_none : {A : Type 0} (o : Option A) → IsSome o → o ≡ None → ⊥
some_none None some e = absurd (cc (some))
some_none (Some x) some e = absurd (cc (e))

pub parted_some : (o left : Option First) → IsSome (parted o left) → IsSome o
parted_some None left some = absurd (cc (some))
parted_some (Some f) left some = refl
