-- What a map by life and number is as a list of resources: which one is found, and what one more, one less and another one in a
-- place leave.
use Rattle.std.proofs.Common.{◌≡◌, ◌∙◌, Bool, true, false, cond, not, ltb, ◌&&◌, ◌||◌, List, [], ◌∷◌, Option, Some, None, refl, sym, ap, subst, arith}
use Rattle.std.specs.Prelude.{◌==◌, ◌<◌, find, IfSome, is_some}
use Rattle.std.specs.BTreeMap.{insert_entry, is_at}
use Rattle.std.specs.Cmp.{IsTotalOrder}
use Rattle.std.specs.List.Sorted.{IsStrictlySortedBy}
use Rattle.std.specs.Map.{keys_of, lookup, remove_entry, set_value}
use Rattle.std.specs.Option.{option_map}
use Rattle.std.specs.declared.cmp.Ordering.{Ordering}
use Rattle.std.specs.declared.cmp.Ordering.TheVariants.{Less, Equal, Greater}
use Rattle.std.specs.Ordering.{MatchOrdering, is_eq, match_ordering, nat_cmp, ordering_then}
use Rattle.std.proofs.lemmas.Bool.{both_ways}
use Rattle.std.proofs.lemmas.Bool.Decides.{nat_tests}
use Rattle.std.proofs.lemmas.Cmp.{ranked, nat_cmp_total, on_total, then_total, eq_by_cmp_equiv}
use Rattle.std.proofs.lemmas.Map.{NonePasses, lookup-none}
use Rattle.std.proofs.lemmas.Map.Entries.{none_below_head, none_past_head}
use Rattle.std.proofs.lemmas.Map.Keys.{IsDistinct-from_sorted, sorted_tail}
use Rattle.resource_end.specs.declared.kept.Kept.{Kept}
use Rattle.resource_end.specs.End.{Resource, with_resource}
use Rattle.resource_end.specs.Inside.{Id, PassesAlone, id_cmp, if_passes, numbered, resource_at, resources_of, without}

pub id_total : IsTotalOrder id_cmp
id_total = then_total (on_total (λ (k : Id). k.0) nat_cmp_total) (on_total (λ (k : Id). k.1) nat_cmp_total)

-- ---- two keys

-- the second is the first
abbrev same : Id → Id → Bool
same k e = e.0 == k.0 && e.1 == k.1

-- the first comes before the second
abbrev earlier : Id → Id → Bool
earlier k e = ltb k.0 e.0 || (k.0 == e.0 && ltb k.1 e.1)

abbrev Compares : Id → Id → Ordering → Type 0
Compares k e Less = (same k e ≡ false) × (earlier k e ≡ true)
Compares k e Equal = (same k e ≡ true) × (e ≡ k)
Compares k e Greater = (same k e ≡ false) × (earlier k e ≡ false)

by_parts : (k e : Id) (p q : Ordering) → MatchOrdering p (k.0 < e.0) (k.0 ≡ e.0) (e.0 < k.0) → MatchOrdering q (k.1 < e.1) (k.1 ≡ e.1) (e.1 < k.1)
    → Compares k e (ordering_then p q)
by_parts k e Less q h i = (grind (arith, nat_tests, h), grind (arith, nat_tests, h))
by_parts k e Equal Less h i = (grind (arith, nat_tests, h, i), grind (arith, nat_tests, h, i))
by_parts k e Equal Equal h i = (grind (arith, nat_tests, h, i), (λ j. (sym h j, sym i j)))
by_parts k e Equal Greater h i = (grind (arith, nat_tests, h, i), grind (arith, nat_tests, h, i))
by_parts k e Greater q h i = (grind (arith, nat_tests, h), grind (arith, nat_tests, h))

compares : (k e : Id) → Compares k e (id_cmp k e)
compares k e = by_parts k e (nat_cmp k.0 e.0) (nat_cmp k.1 e.1) (ranked k.0 e.0 _ refl) (ranked k.1 e.1 _ refl)

-- two keys that compare as equal are one
pub id_tied : (k e : Id) → id_cmp k e ≡ Equal → e ≡ k
id_tied k e h = (subst (Compares k e) h (compares k e)).1

same_as : (k e : Id) → same k e ≡ is_eq (id_cmp k e)
same_as k e = by (id_cmp k e) (compares k e)
  where
    by : (o : Ordering) → Compares k e o → same k e ≡ is_eq o
    by Less c = c.0
    by Equal c = c.0
    by Greater c = c.0

itself : (k : Id) → same k k ≡ true
itself k = grind (arith, nat_tests)

is_same : (k e : Id) → same k e ≡ true → e ≡ k
is_same k e h = by (id_cmp k e) (compares k e)
  where
    by : (o : Ordering) → Compares k e o → e ≡ k
    by Less c = absurd (both_ways _ c.0 h)
    by Equal c = c.1
    by Greater c = absurd (both_ways _ c.0 h)

-- ---- one is found

pub found : (k : Id) (es : List (Id × Kept)) → option_map (resource_at k) (lookup (is_at (id_cmp k)) es) ≡ numbered k (resources_of es)
found k [] = refl
found k (e ∷ es) = by (found k es) (id_cmp k e.0) (compares k e.0)
  where
    by : option_map (resource_at k) (lookup (is_at (id_cmp k)) es) ≡ numbered k (resources_of es)
        → (o : Ordering) → Compares k e.0 o
        → option_map (resource_at k) (cond (is_eq o) (Some e.1) (lookup (is_at (id_cmp k)) es)) ≡ cond (same k e.0) (Some (resource_at e.0 e.1)) (numbered k (resources_of es))
    by rest Less c = rest ∙ sym (ap (λ b. cond b (Some (resource_at e.0 e.1)) (numbered k (resources_of es))) c.0)
    by rest Equal c =
        ap (λ x. Some (resource_at x e.1)) (sym c.1) ∙ sym (ap (λ b. cond b (Some (resource_at e.0 e.1)) (numbered k (resources_of es))) c.0)
    by rest Greater c = rest ∙ sym (ap (λ b. cond b (Some (resource_at e.0 e.1)) (numbered k (resources_of es))) c.0)

-- ---- one more, or another one in its place

-- what comes of a list, once it is known how the first of it compares
abbrev placed_by : Bool → Bool → Resource → Resource → List Resource → List Resource
placed_by is before r s rest = cond is (r ∷ rest) (cond before (r ∷ s ∷ rest) (s ∷ with_resource r rest))

tested : (is before : Bool) (r s : Resource) (rest : List Resource) (b c : Bool) → is ≡ b → before ≡ c → placed_by is before r s rest ≡ placed_by b c r s rest
tested is before r s rest b c h k = (λ i. placed_by (h i) (k i) r s rest)

pub inserted : (k : Id) (v : Kept) (es : List (Id × Kept)) → resources_of (insert_entry id_cmp es k v) ≡ with_resource (resource_at k v) (resources_of es)
inserted k v [] = refl
inserted k v (e ∷ es) = by (inserted k v es) (id_cmp k e.0) (compares k e.0)
  where
    by : resources_of (insert_entry id_cmp es k v) ≡ with_resource (resource_at k v) (resources_of es)
        → (o : Ordering) → Compares k e.0 o
        → resources_of (match_ordering o ((k, v) ∷ e ∷ es) ((e.0, v) ∷ es) (e ∷ insert_entry id_cmp es k v))
        ≡ placed_by (same k e.0) (earlier k e.0) (resource_at k v) (resource_at e.0 e.1) (resources_of es)
    by rest Less c = sym (tested (same k e.0) (earlier k e.0) (resource_at k v) (resource_at e.0 e.1) (resources_of es) false true c.0 c.1)
    by rest Equal c =
        ap (λ x. resource_at x v ∷ resources_of es) c.1
        ∙ sym (tested (same k e.0) (earlier k e.0) (resource_at k v) (resource_at e.0 e.1) (resources_of es) true (earlier k e.0) c.0 refl)
    by rest Greater c =
        ap (λ x. resource_at e.0 e.1 ∷ x) rest
        ∙ sym (tested (same k e.0) (earlier k e.0) (resource_at k v) (resource_at e.0 e.1) (resources_of es) false false c.0 c.1)

-- none is found behind one that comes later
none_there : (k : Id) (e : Id × Kept) (es : List (Id × Kept)) → IsStrictlySortedBy id_cmp (keys_of (e ∷ es)) → id_cmp k e.0 ≡ Less → lookup (is_at (id_cmp k)) es ≡ None
none_there k e es sorted less = lookup-none (is_at (id_cmp k)) es (none_below_head id_total k e es sorted less).1

-- nor behind itself
none_twice : (k : Id) (e : Id × Kept) (es : List (Id × Kept)) → IsStrictlySortedBy id_cmp (keys_of (e ∷ es)) → is_eq (id_cmp k e.0) ≡ true → lookup (is_at (id_cmp k)) es ≡ None
none_twice k e es sorted equal =
    lookup-none (is_at (id_cmp k)) es (none_past_head (eq_by_cmp_equiv id_total) k e es (IsDistinct-from_sorted id_cmp (keys_of (e ∷ es)) sorted) equal)

-- another value in the place of one that is there
pub set_there : (k : Id) (v w : Kept) (es : List (Id × Kept)) → IsStrictlySortedBy id_cmp (keys_of es) → lookup (is_at (id_cmp k)) es ≡ Some w
    → resources_of (set_value (is_at (id_cmp k)) es v) ≡ with_resource (resource_at k v) (resources_of es)
set_there k v w [] sorted there = absurd (no_such there)
  where
    no_such : None ≡ Some w → ⊥
    no_such h = both_ways _ (ap is_some (sym h)) refl
set_there k v w (e ∷ es) sorted there = by (set_there k v w es (sorted_tail id_cmp e.0 (keys_of es) sorted)) (id_cmp k e.0) refl (compares k e.0)
  where
    by : (lookup (is_at (id_cmp k)) es ≡ Some w → resources_of (set_value (is_at (id_cmp k)) es v) ≡ with_resource (resource_at k v) (resources_of es))
        → (o : Ordering) → id_cmp k e.0 ≡ o → Compares k e.0 o
        → resources_of (cond (is_eq o) ((e.0, v) ∷ es) (e ∷ set_value (is_at (id_cmp k)) es v))
        ≡ placed_by (same k e.0) (earlier k e.0) (resource_at k v) (resource_at e.0 e.1) (resources_of es)
    by rest Less o c = absurd (both_ways _ (ap is_some (sym there ∙ ap (λ x. cond (is_eq x) (Some e.1) (lookup (is_at (id_cmp k)) es)) o ∙ none_there k e es sorted o)) refl)
    by rest Equal o c =
        ap (λ x. resource_at x v ∷ resources_of es) c.1
        ∙ sym (tested (same k e.0) (earlier k e.0) (resource_at k v) (resource_at e.0 e.1) (resources_of es) true (earlier k e.0) c.0 refl)
    by rest Greater o c =
        ap (λ x. resource_at e.0 e.1 ∷ x)
        (rest (ap (λ x. cond (is_eq x) (Some e.1) (lookup (is_at (id_cmp k)) es)) (sym o) ∙ there))
        ∙ sym (tested (same k e.0) (earlier k e.0) (resource_at k v) (resource_at e.0 e.1) (resources_of es) false false c.0 c.1)

-- ---- one less

unchanged : (k : Id) (es : List (Id × Kept)) → NonePasses (is_at (id_cmp k)) es → without k (resources_of es) ≡ resources_of es
unchanged k [] none = refl
unchanged k (e ∷ es) none =
    ap (λ b. cond (not b) (resource_at e.0 e.1 ∷ without k (resources_of es)) (without k (resources_of es))) (same_as k e.0 ∙ none.0)
    ∙ ap (λ xs. resource_at e.0 e.1 ∷ xs) (unchanged k es none.1)

pub removed : (k : Id) (es : List (Id × Kept)) → IsStrictlySortedBy id_cmp (keys_of es) → resources_of (remove_entry (is_at (id_cmp k)) es) ≡ without k (resources_of es)
removed k [] sorted = refl
removed k (e ∷ es) sorted = by (removed k es (sorted_tail id_cmp e.0 (keys_of es) sorted)) (is_eq (id_cmp k e.0)) refl
  where
    by : resources_of (remove_entry (is_at (id_cmp k)) es) ≡ without k (resources_of es)
        → (b : Bool) → is_eq (id_cmp k e.0) ≡ b
        → resources_of (cond b es (e ∷ remove_entry (is_at (id_cmp k)) es))
        ≡ cond (not (same k e.0)) (resource_at e.0 e.1 ∷ without k (resources_of es)) (without k (resources_of es))
    by rest true h =
        sym (unchanged k es (none_past_head (eq_by_cmp_equiv id_total) k e es (IsDistinct-from_sorted id_cmp (keys_of (e ∷ es)) sorted) h))
        ∙ sym (ap (λ b. cond (not b) (resource_at e.0 e.1 ∷ without k (resources_of es)) (without k (resources_of es))) (same_as k e.0 ∙ h))
    by rest false h =
        ap (λ xs. resource_at e.0 e.1 ∷ xs) rest
        ∙ sym (ap (λ b. cond (not b) (resource_at e.0 e.1 ∷ without k (resources_of es)) (without k (resources_of es))) (same_as k e.0 ∙ h))

-- ---- one alone can pass a test

module _ (test : Resource → Bool) (k : Id) where
  -- so it is of those behind the first
  of_rest : (e : Id × Kept) (es : List (Id × Kept)) → IsStrictlySortedBy id_cmp (keys_of (e ∷ es)) → PassesAlone test k (resources_of (e ∷ es)) → PassesAlone test k (resources_of es)
  of_rest e es sorted alone other = by (same other e.0) refl
    where
      by : (b : Bool) → same other e.0 ≡ b → IfSome (numbered other (resources_of es)) (λ r. test r ≡ true → other ≡ k)
      by true h =
          subst (λ o. IfSome o (λ r. test r ≡ true → other ≡ k))
          (sym (ap (option_map (resource_at other)) (none_twice other e es sorted (sym (same_as other e.0) ∙ h))) ∙ found other es) tt
      by false h =
          subst (λ b. IfSome (cond b (Some (resource_at e.0 e.1)) (numbered other (resources_of es))) (λ r. test r ≡ true → other ≡ k)) h (alone other)

  of_first : (e : Id × Kept) (es : List (Id × Kept)) → PassesAlone test k (resources_of (e ∷ es)) → test (resource_at e.0 e.1) ≡ true → e.0 ≡ k
  of_first e es alone =
      subst (λ b. IfSome (cond b (Some (resource_at e.0 e.1)) (numbered e.0 (resources_of es))) (λ r. test r ≡ true → e.0 ≡ k)) (itself e.0) (alone e.0)

  pub only : (es : List (Id × Kept)) → IsStrictlySortedBy id_cmp (keys_of es) → PassesAlone test k (resources_of es)
      → find test (resources_of es) ≡ if_passes test (numbered k (resources_of es))
  only [] sorted alone = refl
  only (e ∷ es) sorted alone = by (only es (sorted_tail id_cmp e.0 (keys_of es) sorted) (of_rest e es sorted alone)) (test (resource_at e.0 e.1)) (same k e.0) refl refl
    where
      by : find test (resources_of es) ≡ if_passes test (numbered k (resources_of es)) → (b c : Bool) → test (resource_at e.0 e.1) ≡ b → same k e.0 ≡ c
          → cond (test (resource_at e.0 e.1)) (Some (resource_at e.0 e.1)) (find test (resources_of es))
          ≡ if_passes test (cond (same k e.0) (Some (resource_at e.0 e.1)) (numbered k (resources_of es)))
      by rest true c h i =
          let is : same k e.0 ≡ true = ap (λ x. same k x) (of_first e es alone h) ∙ itself k in
          ap (λ b. cond b (Some (resource_at e.0 e.1)) (find test (resources_of es))) h
          ∙ sym (ap (λ b. cond b (Some (resource_at e.0 e.1)) None) h)
          ∙ sym (ap (λ b. if_passes test (cond b (Some (resource_at e.0 e.1)) (numbered k (resources_of es)))) is)
      by rest false true h i =
          let none : numbered k (resources_of es) ≡ None =
          sym (found k es) ∙ ap (option_map (resource_at k)) (none_twice k e es sorted (sym (same_as k e.0) ∙ i)) in
          ap (λ b. cond b (Some (resource_at e.0 e.1)) (find test (resources_of es))) h
          ∙ rest ∙ ap (if_passes test) none
          ∙ sym (ap (λ b. cond b (Some (resource_at e.0 e.1)) None) h)
          ∙ sym (ap (λ b. if_passes test (cond b (Some (resource_at e.0 e.1)) (numbered k (resources_of es)))) i)
      by rest false false h i =
          ap (λ b. cond b (Some (resource_at e.0 e.1)) (find test (resources_of es))) h
          ∙ rest
          ∙ sym (ap (λ b. if_passes test (cond b (Some (resource_at e.0 e.1)) (numbered k (resources_of es)))) i)

-- the same of the list that a map is seen as
pub only_now : (test : Resource → Bool) (k : Id) (es : List (Id × Kept)) (now : List Resource) → resources_of es ≡ now → IsStrictlySortedBy id_cmp (keys_of es)
    → PassesAlone test k now → find test now ≡ if_passes test (numbered k now)
only_now test k es now is sorted = subst (λ xs. PassesAlone test k xs → find test xs ≡ if_passes test (numbered k xs)) is (only test k es sorted)

pub it_passes : (test : Resource → Bool) (r : Resource) → test r ≡ true → if_passes test (Some r) ≡ Some r
it_passes test r h = ap (λ b. cond b (Some r) None) h

pub it_fails : (test : Resource → Bool) (r : Resource) → test r ≡ false → if_passes test (Some r) ≡ None
it_fails test r h = ap (λ b. cond b (Some r) None) h

-- what passes of that of a number, by what the map has there
pub passes_by : (test : Resource → Bool) (k : Id) (es : List (Id × Kept)) (now : List Resource) → resources_of es ≡ now
    → (o : Option Kept) → o ≡ lookup (is_at (id_cmp k)) es → if_passes test (numbered k now) ≡ if_passes test (option_map (resource_at k) o)
passes_by test k es now is o there = ap (if_passes test) (ap (numbered k) (sym is) ∙ sym (found k es) ∙ ap (option_map (resource_at k)) (sym there))

-- the same, where one alone may pass
pub find_by : (test : Resource → Bool) (k : Id) (es : List (Id × Kept)) (now : List Resource) → resources_of es ≡ now → IsStrictlySortedBy id_cmp (keys_of es)
    → PassesAlone test k now → (o : Option Kept) → o ≡ lookup (is_at (id_cmp k)) es → find test now ≡ if_passes test (option_map (resource_at k) o)
find_by test k es now is sorted alone o there = only_now test k es now is sorted alone ∙ passes_by test k es now is o there
