-- Which resources count as unfinished, where one of a map changes; and what the map is then.
use Rattle.std.proofs.Common.{◌≡◌, ◌∙◌, ◌+◌, Bool, true, false, cond, List, [], ◌∷◌, length, Some, None, refl, sym, ap, subst, arith}
use Rattle.std.specs.Prelude.{IfSome}
use Rattle.std.specs.BTreeMap.{insert_entry, is_at}
use Rattle.std.specs.BTreeSet.{insert_key}
use Rattle.std.specs.List.{count_by}
use Rattle.std.specs.List.Sorted.{IsStrictlySortedBy}
use Rattle.std.specs.Map.{keys_of, lookup, remove_entry, set_value}
use Rattle.std.specs.Option.{option_map, unwrap_or}
use Rattle.std.specs.Ordering.{is_eq}
use Rattle.std.specs.Set.{remove_key}
use Rattle.std.proofs.lemmas.List.Sums.{sum_by-cons}
use Rattle.resource_end.specs.declared.kept.Kept.{Kept}
use Rattle.resource_end.specs.States.{is_unfinished}
use Rattle.resource_end.specs.End.{Resource, with_resource}
use Rattle.resource_end.specs.Inside.{Id, id_cmp, numbered, resource_at, resources_of, unfinished_ids}
use Rattle.resource_end.proofs.Numbered.{found, id_tied, id_total, set_there}
use Rattle.resource_end.proofs.Passing.{put_failing, put_passing, removed_passing, set_failing, set_same, taken_back}

-- they are as many as there are numbers of them
pub counted : (es : List (Id × Kept)) → length (unfinished_ids es) ≡ count_by (λ (r : Resource). is_unfinished r.state) (resources_of es)
counted [] = refl
counted (e ∷ es) = by (is_unfinished e.1.state) ∙ ap (λ n. cond (is_unfinished e.1.state) 1 0 + n) (counted es) ∙ sym (sum_by-cons (λ (r : Resource). cond (is_unfinished r.state) 1 0) (resource_at e.0 e.1) (resources_of es))
  where
    by : (b : Bool) → length (cond b (e.0 ∷ unfinished_ids es) (unfinished_ids es)) ≡ cond b 1 0 + length (unfinished_ids es)
    by true = omega arith
    by false = omega arith

-- ---- their numbers, where one is put, changes or is taken out

module _ (k : Id) (v : Kept) (es : List (Id × Kept)) (sorted : IsStrictlySortedBy id_cmp (keys_of es)) where
  pub ids_put : is_unfinished v.state ≡ true → unfinished_ids (insert_entry id_cmp es k v) ≡ insert_key id_cmp (unfinished_ids es) k
  ids_put = put_passing id_cmp id_total id_tied (λ (kept : Kept). is_unfinished kept.state) k v es sorted

  pub ids_put_over : is_unfinished v.state ≡ false → unfinished_ids (insert_entry id_cmp es k v) ≡ remove_key (is_at (id_cmp k)) (unfinished_ids es)
  ids_put_over = put_failing id_cmp id_total id_tied (λ (kept : Kept). is_unfinished kept.state) k v es sorted

  pub ids_set_over : is_unfinished v.state ≡ false → unfinished_ids (set_value (is_at (id_cmp k)) es v) ≡ remove_key (is_at (id_cmp k)) (unfinished_ids es)
  ids_set_over = set_failing id_cmp id_total id_tied (λ (kept : Kept). is_unfinished kept.state) k v es sorted

pub ids_set_same : (k : Id) (v w : Kept) (es : List (Id × Kept)) → lookup (is_at (id_cmp k)) es ≡ Some w → is_unfinished v.state ≡ is_unfinished w.state
    → unfinished_ids (set_value (is_at (id_cmp k)) es v) ≡ unfinished_ids es
ids_set_same = set_same id_cmp id_total id_tied (λ (kept : Kept). is_unfinished kept.state)

pub ids_removed : (k : Id) (es : List (Id × Kept)) → IsStrictlySortedBy id_cmp (keys_of es)
    → unfinished_ids (remove_entry (is_at (id_cmp k)) es) ≡ remove_key (is_at (id_cmp k)) (unfinished_ids es)
ids_removed = removed_passing id_cmp id_total id_tied (λ (kept : Kept). is_unfinished kept.state)

pub ids_taken_back : (k : Id) (es : List (Id × Kept)) → lookup (is_at (id_cmp k)) es ≡ None
    → remove_key (is_at (id_cmp k)) (insert_key id_cmp (unfinished_ids es) k) ≡ unfinished_ids es
ids_taken_back = taken_back id_cmp id_total id_tied (λ (kept : Kept). is_unfinished kept.state)

-- one that is there has changed
module _ (k : Id) (es : List (Id × Kept)) (now : List Resource) (is : resources_of es ≡ now) (sorted : IsStrictlySortedBy id_cmp (keys_of es)) where
  pub it_is : (w : Kept) → lookup (is_at (id_cmp k)) es ≡ Some w → numbered k now ≡ Some (resource_at k w)
  it_is w there = ap (numbered k) (sym is) ∙ sym (found k es) ∙ ap (option_map (resource_at k)) there

  pub after_set : (v w : Kept) → lookup (is_at (id_cmp k)) es ≡ Some w → (new : List (Id × Kept)) → new ≡ set_value (is_at (id_cmp k)) es v
      → (f : Resource → Resource) → resource_at k v ≡ f (resource_at k w) → IfSome (numbered k now) (λ r. resources_of new ≡ with_resource (f r) now)
  after_set v w there new set f same =
      subst (λ o. IfSome o (λ r. resources_of new ≡ with_resource (f r) now)) (sym (it_is w there))
      (ap resources_of set ∙ set_there k v w es sorted there ∙ ap (λ x. with_resource x (resources_of es)) same ∙ ap (with_resource (f (resource_at k w))) is)

  pub it_is_none : lookup (is_at (id_cmp k)) es ≡ None → numbered k now ≡ None
  it_is_none none = ap (numbered k) (sym is) ∙ sym (found k es) ∙ ap (option_map (resource_at k)) none

  -- what is said of one that isn't there
  pub of_none : lookup (is_at (id_cmp k)) es ≡ None → (P : Resource → Type 0) → IfSome (numbered k now) P
  of_none none P = subst (λ o. IfSome o P) (sym (it_is_none none)) tt

  pub of_it : (w : Kept) → lookup (is_at (id_cmp k)) es ≡ Some w → (P : Resource → Type 0) → P (resource_at k w) → IfSome (numbered k now) P
  of_it w there P holds = subst (λ o. IfSome o P) (sym (it_is w there)) holds

-- nothing has changed that is seen
pub same_set : (k : Id) (es : List (Id × Kept)) (v w : Kept) → lookup (is_at (id_cmp k)) es ≡ Some w → ((id : Id) → resource_at id v ≡ resource_at id w)
    → resources_of (set_value (is_at (id_cmp k)) es v) ≡ resources_of es
same_set k [] v w there same = refl
same_set k (e ∷ es) v w there same = by (same_set k es v w) (is_eq (id_cmp k e.0)) refl
  where
    by : (lookup (is_at (id_cmp k)) es ≡ Some w → ((id : Id) → resource_at id v ≡ resource_at id w) → resources_of (set_value (is_at (id_cmp k)) es v) ≡ resources_of es)
        → (b : Bool) → is_eq (id_cmp k e.0) ≡ b
        → resources_of (cond b ((e.0, v) ∷ es) (e ∷ set_value (is_at (id_cmp k)) es v)) ≡ resource_at e.0 e.1 ∷ resources_of es
    by rest true h =
        let it : Some e.1 ≡ Some w = ap (λ b. cond b (Some e.1) (lookup (is_at (id_cmp k)) es)) (sym h) ∙ there in
        ap (λ r. r ∷ resources_of es) (same e.0 ∙ sym (ap (λ o. resource_at e.0 (unwrap_or o e.1)) it))
    by rest false h =
        ap (λ rs. resource_at e.0 e.1 ∷ rs) (rest (ap (λ b. cond b (Some e.1) (lookup (is_at (id_cmp k)) es)) (sym h) ∙ there) same)
