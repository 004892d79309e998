-- An end as its objects change.
use Rattle.std.proofs.Common.{◌≡◌, ℕ, ◌+◌, ◌-◌, ◌<◌, ◌≤◌, ◌==◌, ◌||◌, Bool, true, false, zero, suc, inl, inr, List, [], ◌∷◌, ◌++◌, length, slice_set, Option, Some, None, sym, ap, subst, ◌∙◌, refl, arith}
use Rattle.std.specs.List.{slice_get, find, list_any}
use Rattle.std.specs.Option.{option_and_then}
use Rattle.std.proofs.lemmas.Option.{same_Some, slice_get_within, slice_get-get_or}
use Rattle.std.proofs.lemmas.List.{length-set}
use Rattle.std.proofs.lemmas.List.Folds.{list_any-append}
use Rattle.std.proofs.lemmas.Cmp.{nat_eq_equiv}
use Rattle.std.proofs.lemmas.Grind.{common_steps}
use Rattle.ior_refs.specs.declared.key.ObjectKey.{ObjectKey}
use Rattle.decision_journal.specs.declared.record.Put.{Put}
use Rattle.nodes_world.specs.World.{FlatResource}
use Rattle.nodes_world.specs.Ends.{drawn_once, with_fresh, with_resource, fresh}
use Rattle.nodes_world.specs.Resolve.{has_put}
use Rattle.nodes_parts.specs.Cell.{is_cell}
use Rattle.nodes_parts.specs.Kept.{AreNumbered, end_of, flat, flat_all, flat_object, numbered, place_numbered, resource_numbered}
use Rattle.nodes_parts.specs.KeptInside.{IsKept}
use Rattle.nodes_parts.specs.declared.ends.Resource.{Resource}
use Rattle.nodes_parts.proofs.Lists.{push_cases, push_last, set_cases}
use Rattle.nodes_parts.proofs.Numbered.{any_kept, any_put, found_at, from_here, made_last, none_before, not_same_above, replaced_at}

-- ---- an object is made

all_drawn : (objects : List (Option Resource)) → flat_all (objects ++ None ∷ []) ≡ flat_all objects
all_drawn [] = refl
all_drawn (None ∷ objects) = all_drawn objects
all_drawn (Some r ∷ objects) = ap (λ others. flat r ∷ others) (all_drawn objects)

pub length_drawn : (objects : List (Option Resource)) → length (objects ++ None ∷ []) ≡ length objects + 1
length_drawn objects = grind (arith, common_steps)

pub drawn_view : (objects more : List (Option Resource)) → more ≡ objects ++ None ∷ [] → end_of more ≡ drawn_once (end_of objects)
drawn_view objects more e =
    let n : length more ≡ length objects + 1 = ap length e ∙ length_drawn objects in
    let r : flat_all more ≡ flat_all objects = ap flat_all e ∙ all_drawn objects in
    cc

numbered_drawn : (objects : List (Option Resource)) → AreNumbered objects → AreNumbered (objects ++ None ∷ [])
numbered_drawn objects h = λ i r at. elim (push_cases objects i None (Some r) at) [
  | inl there ↦ h i r there
  | inr last ↦ absurd (cc last.1)
]

pub kept_drawn : (objects more : List (Option Resource)) (cells : List ℕ) → more ≡ objects ++ None ∷ [] → IsKept objects cells → IsKept more cells
kept_drawn objects more cells e k = record {
  numbered = subst AreNumbered (sym e) (numbered_drawn objects k.numbered);
  cells_are = λ cell. k.cells_are cell ∙ sym (ap (λ xs. list_any (has_put cell) (flat_all xs)) e ∙ ap (list_any (has_put cell)) (all_drawn objects));
}

pub free_drawn : (objects more : List (Option Resource)) (n : ℕ) → AreNumbered objects → more ≡ objects ++ None ∷ [] → n ≡ length objects + 1
    → resource_numbered n (end_of more) ≡ None
free_drawn objects more n h e same =
    let all = objects ++ None ∷ [] in
    let found = found_at all 0 (length objects) (from_here all (numbered_drawn objects h)) in
    let number : n ≡ 0 + length objects + 1 = omega arith in
    ap (λ xs. find (numbered n) (flat_all xs)) e ∙ ap (λ m. find (numbered m) (flat_all all)) number ∙ found
    ∙ ap (option_and_then flat_object) (push_last objects None)

-- ---- it becomes a resource

none_of : (o : Option Resource) → flat_object o ≡ None → o ≡ None
none_of None e = refl
none_of (Some r) e = absurd (cc)

pub last_is_free : (objects : List (Option Resource)) (i n : ℕ) → AreNumbered objects → length objects ≡ i + 1 → n ≡ i + 1
    → resource_numbered n (end_of objects) ≡ None → slice_get objects i ≡ Some None
last_is_free objects i n h l same free =
    let there = slice_get-get_or objects i None (omega arith) in
    let number : 0 + i + 1 ≡ n = omega arith in
    let found = found_at objects 0 i (from_here objects h) in
    there ∙ ap Some (none_of _ (sym (ap (option_and_then flat_object) there) ∙ sym found ∙ ap (λ m. find (numbered m) (flat_all objects)) number ∙ free))

pub made_view : (objects : List (Option Resource)) (i : ℕ) (r : Resource) (key : ObjectKey) → length objects ≡ i + 1 → slice_get objects i ≡ Some None
    → flat r ≡ fresh key → end_of (slice_set objects i (Some r)) ≡ with_fresh key (end_of objects)
made_view objects i r key l at e =
    let n : length (slice_set objects i (Some r)) ≡ length objects = length-set objects i (Some r) in
    let all : flat_all (slice_set objects i (Some r)) ≡ flat_all objects ++ fresh key ∷ [] =
    made_last objects i r l at ∙ ap (λ f. flat_all objects ++ f ∷ []) e in
    cc

numbered_set : (objects : List (Option Resource)) (i : ℕ) (r : Resource) → AreNumbered objects → r.key.generation ≡ i + 1
    → AreNumbered (slice_set objects i (Some r))
numbered_set objects i r h n = λ k s at. elim (set_cases objects i k (Some r) (Some s) at) [
  | inl here ↦ ap (λ x. x.key.generation) (same_Some s r here.1) ∙ n ∙ ap (λ m. m + 1) (sym here.0)
  | inr there ↦ h k s there
]

or_none : (a : Bool) → (a || (false || false)) ≡ a
or_none true = refl
or_none false = refl

pub kept_made : (objects : List (Option Resource)) (i : ℕ) (r : Resource) (cells : List ℕ) → IsKept objects cells → length objects ≡ i + 1
    → slice_get objects i ≡ Some None → r.key.generation ≡ i + 1 → r.put ≡ None → IsKept (slice_set objects i (Some r)) cells
kept_made objects i r cells k l at n none = record {
  numbered = numbered_set objects i r k.numbered n;
  cells_are = λ cell.
      let all = made_last objects i r l at in
      let last : list_any (has_put cell) (flat r ∷ []) ≡ (false || false) = rw none refl in
      k.cells_are cell ∙ sym (ap (list_any (has_put cell)) all ∙ list_any-append (has_put cell) (flat_all objects) (flat r ∷ [])
      ∙ ap (λ b. list_any (has_put cell) (flat_all objects) || b) last ∙ or_none _);
}

-- ---- a resource changes

-- the resource with a number stands at its place
pub record Stands (objects : List (Option Resource)) (n : ℕ) (f : FlatResource) : Type 0 where
  pub some : 0 < n
  pub old : Resource
  pub at : slice_get objects (n - 1) ≡ Some (Some old)
  pub same : flat old ≡ f
  pub within : n ≤ length objects

pub record IsThere (o : Option (Option Resource)) (f : FlatResource) : Type 0 where
  pub old : Resource
  pub is : o ≡ Some (Some old)
  pub same : flat old ≡ f

is_there : (o : Option (Option Resource)) (f : FlatResource) → option_and_then flat_object o ≡ Some f → IsThere o f
is_there None f e = absurd (cc)
is_there (Some None) f e = absurd (cc)
is_there (Some (Some r)) f e = record { old = r; is = refl; same = same_Some (flat r) f e }

pub standing_at : (objects : List (Option Resource)) (n : ℕ) (f : FlatResource) → AreNumbered objects → resource_numbered n (end_of objects) ≡ Some f → Stands objects n f
standing_at objects zero f h e = absurd (cc (none_before objects 0 0 (from_here objects h) (omega arith)))
standing_at objects (suc i) f h e =
    let number : 0 + i + 1 ≡ suc i = omega arith in
    let place : suc i - 1 ≡ i = omega arith in
    let found = found_at objects 0 i (from_here objects h) in
    let there = is_there (slice_get objects i) f (sym found ∙ ap (λ m. find (numbered m) (flat_all objects)) number ∙ e) in
    let within : i < length objects = slice_get_within objects i _ there.is in
    record {
      some = omega arith;
      old = there.old;
      at = ap (slice_get objects) place ∙ there.is;
      same = there.same;
      within = omega arith;
    }

pub replaced_view : (objects : List (Option Resource)) (r : Resource) (f : FlatResource) → AreNumbered objects → Stands objects r.key.generation f
    → end_of (slice_set objects (r.key.generation - 1) (Some r)) ≡ with_resource (flat r) (end_of objects)
replaced_view objects r f h s =
    let i : ℕ = r.key.generation - 1 in
    let some = s.some in
    let number : r.key.generation ≡ 0 + (r.key.generation - 1) + 1 = omega arith in
    let n : length (slice_set objects (r.key.generation - 1) (Some r)) ≡ length objects = length-set objects (r.key.generation - 1) (Some r) in
    let all = replaced_at objects 0 (r.key.generation - 1) r s.old (from_here objects h) number s.at in
    cc

pub kept_replaced : (objects : List (Option Resource)) (r : Resource) (f : FlatResource) (cells : List ℕ) → IsKept objects cells → Stands objects r.key.generation f
    → r.put ≡ f.put → IsKept (slice_set objects (r.key.generation - 1) (Some r)) cells
kept_replaced objects r f cells k s put =
    let some = s.some in
    record {
      numbered = numbered_set objects (r.key.generation - 1) r k.numbered (omega arith);
      cells_are = λ cell. k.cells_are cell
          ∙ sym (any_kept objects (r.key.generation - 1) cell r s.old s.at (put ∙ sym (ap (λ x. x.put) s.same)));
    }

pub kept_put : (objects : List (Option Resource)) (r : Resource) (f : FlatResource) (p : Put) (cells more : List ℕ) → IsKept objects cells → Stands objects r.key.generation f
    → f.put ≡ None → r.put ≡ Some p
    → ((c : ℕ) → list_any (is_cell c) more ≡ (is_cell c p.cell || list_any (is_cell c) cells))
    → IsKept (slice_set objects (r.key.generation - 1) (Some r)) more
kept_put objects r f p cells more k s none put added =
    let some = s.some in
    record {
      numbered = numbered_set objects (r.key.generation - 1) r k.numbered (omega arith);
      cells_are = λ cell.
          let named = any_put objects (r.key.generation - 1) cell r s.old p s.at (ap (λ x. x.put) s.same ∙ none) put in
          let flip : (cell == p.cell) ≡ (p.cell == cell) = nat_eq_equiv.symm cell p.cell in
          let before = k.cells_are cell in
          let after = added cell in
          cc;
    }

place_behind : (i : ℕ) → Some i ≡ place_numbered (suc i)
place_behind i =
    let other : (suc i == 0) ≡ false = not_same_above (suc i) 0 (omega arith) in
    rw other (ap Some (omega arith))

-- a resource is found at the place of its number
pub by_place : (objects : List (Option Resource)) (n : ℕ) → AreNumbered objects
    → resource_numbered n (end_of objects) ≡ option_and_then (λ (place : ℕ). option_and_then flat_object (slice_get objects place)) (place_numbered n)
by_place objects zero h = none_before objects 0 0 (from_here objects h) (omega arith)
by_place objects (suc i) h =
    let number : suc i ≡ 0 + i + 1 = omega arith in
    ap (λ m. find (numbered m) (flat_all objects)) number ∙ found_at objects 0 i (from_here objects h)
    ∙ ap (option_and_then (λ (place : ℕ). option_and_then flat_object (slice_get objects place))) (place_behind i)
