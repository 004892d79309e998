-- The asks of one resource after another.
use Rattle.std.proofs.Common.{◌≡◌, ◌∙◌, Bool, true, false, cond, List, [], ◌∷◌, ◌++◌, Some, refl, sym, ap, subst, append_assoc, append-nil}
use Rattle.std.specs.Prelude.{filter, map}
use Rattle.std.specs.BTreeMap.{is_at}
use Rattle.std.specs.List.{AllByRecursion, flat_map}
use Rattle.std.specs.List.Sorted.{IsStrictlySortedBy}
use Rattle.std.specs.Map.{keys_of, lookup}
use Rattle.std.specs.Option.{option_map}
use Rattle.std.proofs.lemmas.Bool.{both_ways}
use Rattle.ots_model.specs.declared.tree.Outward.{Outward}
use Rattle.resource_end.specs.declared.kept.Kept.{Kept}
use Rattle.resource_end.specs.declared.state.State.{State}
use Rattle.resource_end.specs.declared.state.State.TheVariants as states
use Rattle.resource_end.specs.States.{is_prepared, is_unfinished}
use Rattle.resource_end.specs.Calls.{ask_of}
use Rattle.resource_end.specs.End.{Resource}
use Rattle.resource_end.specs.Asking.{HasFrontOf}
use Rattle.resource_end.specs.Inside.{Id, asks_by, asks_of, id_cmp, numbered, resource_at, resources_of, unfinished_ids}
use Rattle.resource_end.proofs.Numbered.{found, id_tied, id_total}
use Rattle.resource_end.proofs.Passing.{each_found}
use Rattle.resource_end.proofs.Recorded.{each_weaker}

asks_more : (r : Resource) (rs : List Resource) → asks_of (r ∷ rs) ≡ asks_of (r ∷ []) ++ asks_of rs
asks_more r rs = by (is_prepared r.state)
  where
    by : (b : Bool) → map ask_of (cond b (r ∷ filter (λ s. is_prepared s.state) rs) (filter (λ s. is_prepared s.state) rs))
        ≡ map ask_of (cond b (r ∷ []) []) ++ map ask_of (filter (λ s. is_prepared s.state) rs)
    by true = refl
    by false = refl

pub none_asks : (r : Resource) → is_prepared r.state ≡ false → asks_of (r ∷ []) ≡ []
none_asks r h = ap (λ b. map ask_of (cond b (r ∷ []) [])) h

pub one_asks : (r : Resource) → is_prepared r.state ≡ true → asks_of (r ∷ []) ≡ ask_of r ∷ []
one_asks r h = ap (λ b. map ask_of (cond b (r ∷ []) [])) h

-- ---- by the numbers of those that are unfinished

-- one that is over waits for nothing
over_waits_not : (s : State) → is_unfinished s ≡ false → is_prepared s ≡ false
over_waits_not states.Prepared h = absurd (both_ways _ h refl)
over_waits_not _ h = refl

-- the asks of those of these numbers, among these resources
abbrev pub asks_among : List Resource → List Id → List Outward
asks_among all ids = flat_map (λ id. asks_by (numbered id all)) ids

-- the resource of each entry is found among these
abbrev pub IsAmong : List Resource → Id × Kept → Type 0
IsAmong all e = numbered e.0 all ≡ Some (resource_at e.0 e.1)

among : (all : List Resource) (es : List (Id × Kept)) → AllByRecursion (IsAmong all) es → asks_of (resources_of es) ≡ asks_among all (unfinished_ids es)
among all [] found = refl
among all (e ∷ es) found =
    asks_more (resource_at e.0 e.1) (resources_of es)
    ∙ ap (λ xs. asks_of (resource_at e.0 e.1 ∷ []) ++ xs) (among all es found.1)
    ∙ by (is_unfinished e.1.state) refl
  where
    by : (b : Bool) → is_unfinished e.1.state ≡ b
        → asks_of (resource_at e.0 e.1 ∷ []) ++ asks_among all (unfinished_ids es) ≡ asks_among all (cond b (e.0 ∷ unfinished_ids es) (unfinished_ids es))
    by true h = ap (λ o. asks_by o ++ asks_among all (unfinished_ids es)) (sym found.0)
    by false h = ap (λ xs. xs ++ asks_among all (unfinished_ids es)) (none_asks (resource_at e.0 e.1) (over_waits_not e.1.state h))

pub all_among : (es : List (Id × Kept)) → IsStrictlySortedBy id_cmp (keys_of es) → AllByRecursion (IsAmong (resources_of es)) es
all_among es sorted =
    each_weaker (λ e. lookup (is_at (id_cmp e.0)) es ≡ Some e.1) (IsAmong (resources_of es)) es (λ e h. sym (found e.0 es) ∙ ap (option_map (resource_at e.0)) h)
    (each_found id_cmp id_total id_tied (λ (kept : Kept). is_unfinished kept.state) es sorted)

-- so each ask is that of a number
pub by_numbers : (es : List (Id × Kept)) (now : List Resource) (ids : List Id) → resources_of es ≡ now → IsStrictlySortedBy id_cmp (keys_of es) → ids ≡ unfinished_ids es
    → asks_of now ≡ asks_among now ids
by_numbers es now ids is sorted these =
    subst (λ rs. asks_of rs ≡ asks_among rs ids) is
    (among (resources_of es) es (all_among es sorted) ∙ ap (asks_among (resources_of es)) (sym these))

-- ---- one after another

-- a front of the words stands behind the older ones, and the rest is still to come
pub record Asked (older now more left : List Outward) : Type 0 where
  pub front : List Outward
  pub stands : now ≡ older ++ front
  pub is_front : more ≡ front ++ left

pub asked_first : (older more left : List Outward) → more ≡ left → Asked older older more left
asked_first older more left is = record { front = []; stands = sym (append-nil older); is_front = is }

pub asked_one : (older now later more left one rest : List Outward) → left ≡ one ++ rest → later ≡ now ++ one → Asked older now more left → Asked older later more rest
asked_one older now later more left one rest is adds h = record {
  front = h.front ++ one;
  stands = adds ∙ ap (λ xs. xs ++ one) h.stands ∙ append_assoc older h.front one;
  is_front = h.is_front ∙ ap (λ xs. h.front ++ xs) is ∙ sym (append_assoc h.front one rest);
}

pub asked_front : (older now more left : List Outward) → Asked older now more left → HasFrontOf older more now
asked_front older now more left h = record { front = h.front; rest = left; stands = h.stands; is_front = h.is_front }

pub asked_all : (older now more left : List Outward) → left ≡ [] → Asked older now more left → now ≡ older ++ more
asked_all older now more left none h = h.stands ∙ ap (λ xs. older ++ xs) (sym (h.is_front ∙ ap (λ xs. h.front ++ xs) none ∙ append-nil h.front))
