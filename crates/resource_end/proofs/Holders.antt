-- The first that passes a test, among those that are unfinished.
use Rattle.std.proofs.Common.{◌≡◌, ◌∙◌, ℕ, Bool, true, false, cond, List, [], ◌∷◌, Option, Some, None, refl, sym, ap, subst}
use Rattle.std.specs.Prelude.{find, is_some}
use Rattle.std.specs.List.{AllByRecursion}
use Rattle.std.specs.List.Sorted.{IsStrictlySortedBy}
use Rattle.std.specs.Map.{keys_of}
use Rattle.std.specs.Option.{option_map, option_or}
use Rattle.std.proofs.lemmas.Bool.{and_left, both_ways}
use Rattle.resource_end.specs.declared.kept.Kept.{Kept}
use Rattle.resource_end.specs.declared.state.State.{State}
use Rattle.resource_end.specs.declared.state.State.TheVariants as states
use Rattle.resource_end.specs.States.{holds, is_unfinished}
use Rattle.resource_end.specs.Cells.{value_at}
use Rattle.resource_end.specs.End.{Resource}
use Rattle.resource_end.specs.Inside.{Id, id_cmp, if_passes, is_other_holder, numbered, resource_at, resources_of, unfinished_ids}
use Rattle.resource_end.proofs.Asked.{IsAmong, all_among}
use Rattle.resource_end.proofs.Named.{holds_not}

-- the first of these numbers, among these resources
abbrev pub find_among : (Resource → Bool) → List Resource → List Id → Option Resource
find_among test all [] = None
find_among test all (k ∷ ks) = option_or (if_passes test (numbered k all)) (find_among test all ks)

-- one that is over holds nothing
over_holds_not : (s : State) → is_unfinished s ≡ false → holds s ≡ false
over_holds_not states.Working h = absurd (both_ways _ h refl)
over_holds_not states.Prepared h = absurd (both_ways _ h refl)
over_holds_not _ h = refl

module _ (id : Id) (cell : ℕ) where
  abbrev test : Resource → Bool
  test = is_other_holder id cell

  found_among : (all : List Resource) (es : List (Id × Kept)) → AllByRecursion (IsAmong all) es → find test (resources_of es) ≡ find_among test all (unfinished_ids es)
  found_among all [] found = refl
  found_among all (e ∷ es) found = by (found_among all es found.1) (is_unfinished e.1.state) (test (resource_at e.0 e.1)) refl refl
    where
      it : Resource
      it = resource_at e.0 e.1

      by : find test (resources_of es) ≡ find_among test all (unfinished_ids es) → (b c : Bool) → is_unfinished e.1.state ≡ b → test it ≡ c
          → cond (test it) (Some it) (find test (resources_of es)) ≡ find_among test all (cond b (e.0 ∷ unfinished_ids es) (unfinished_ids es))
      by rest true true h t =
          ap (λ x. cond x (Some it) (find test (resources_of es))) t
          ∙ sym (ap (λ o. option_or (if_passes test o) (find_among test all (unfinished_ids es))) found.0
          ∙ ap (λ x. option_or (cond x (Some it) None) (find_among test all (unfinished_ids es))) t)
      by rest true false h t =
          ap (λ x. cond x (Some it) (find test (resources_of es))) t
          ∙ rest
          ∙ sym (ap (λ o. option_or (if_passes test o) (find_among test all (unfinished_ids es))) found.0
          ∙ ap (λ x. option_or (cond x (Some it) None) (find_among test all (unfinished_ids es))) t)
      by rest false c h t =
          ap (λ x. cond x (Some it) (find test (resources_of es))) (holds_not id cell it (and_left _ _ (over_holds_not e.1.state h)))
          ∙ rest

  -- so the first is that of the first of the numbers
  pub found_by_numbers : (es : List (Id × Kept)) (now : List Resource) (ids : List Id) → resources_of es ≡ now → IsStrictlySortedBy id_cmp (keys_of es) → ids ≡ unfinished_ids es
      → find test now ≡ find_among test now ids
  found_by_numbers es now ids is sorted these =
      subst (λ rs. find test rs ≡ find_among test rs ids) is
      (found_among (resources_of es) es (all_among es sorted) ∙ ap (find_among test (resources_of es)) (sym these))

-- the number of the first of two
abbrev number : Option Resource → Option ℕ
number o = option_map (λ r. r.number) o

pub first_is : (o rest : Option Resource) → is_some (number o) ≡ true → number (option_or o rest) ≡ number o
first_is None rest h = absurd (both_ways _ refl h)
first_is (Some r) rest h = refl

pub first_is_not : (o rest : Option Resource) → is_some (number o) ≡ false → option_or o rest ≡ rest
first_is_not None rest h = refl
first_is_not (Some r) rest h = absurd (both_ways _ h refl)
