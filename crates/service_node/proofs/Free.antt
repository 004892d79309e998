-- The slot that is given next.
use Rattle.std.proofs.Common.{◌≡◌, ◌∙◌, ℕ, ◌+◌, ◌-◌, ◌<◌, ◌≤◌, Bool, cond, lt-ltb, le-ltb, List, length, drop, take, map, Option, Some, None, IfSome, IsNone, IsOk, Ok, is_ok, refl, sym, ap, arith}
use Rattle.std.specs.Prelude.{position}
use Rattle.std.specs.Option.{option_map}
use Rattle.std.proofs.lemmas.List.{drop-map, length-drop, take-map, take_all}
use Rattle.ior_refs.specs.declared.key.ObjectKey.{ObjectKey}
use Rattle.coordinator.specs.Family.{Family, FamilyParts}
use Rattle.coordinator.specs.Limits.{generation_limit, slot_limit}
use Rattle.coordinator.specs.Node.{Node}
use Rattle.coordinator.specs.NodeSlots.{Created, free_behind, free_slot, free_up_to, is_free, makes, makes_in, makes_no_family, next_key, with_new}
use Rattle.service_node.specs.NodeState.{shown}
use Rattle.service_node.proofs.Listed.{position_map}

pub behind_shown : (last : ℕ) (items : List (Option FamilyParts))
    → free_behind last (map shown items) ≡ option_map (λ i. last + 1 + i) (position (λ place. is_free (shown place)) (drop (last + 1) items))
behind_shown last items =
    ap (λ (o : Option ℕ). option_map (λ (i : ℕ). last + 1 + i) o)
    (ap (position is_free) (drop-map shown (last + 1) items) ∙ position_map shown is_free (drop (last + 1) items))

-- the rest of a list, as it is cut out
pub rest_is : {X : Type 0} (n : ℕ) (xs : List X) → take (length xs - n) (drop n xs) ≡ drop n xs
rest_is n xs = let e = length-drop n xs in take_all (length xs - n) (drop n xs) (omega (arith, e))

pub up_to_shown : (last : ℕ) (items : List (Option FamilyParts))
    → free_up_to last (map shown items) ≡ position (λ place. is_free (shown place)) (take (last + 1) items)
up_to_shown last items = ap (position is_free) (take-map shown (last + 1) items) ∙ position_map shown is_free (take (last + 1) items)

module _ (n : Node) where
  -- there is a number, and a slot
  pub slot_given : (r : Option ℕ) → r ≡ free_slot n → IfSome r (λ slot. slot < slot_limit) → n.generation < generation_limit
      → IfSome r (λ slot. (free_slot n ≡ Some slot) × (slot < slot_limit) × (n.generation < generation_limit))
  slot_given None e within number = tt
  slot_given (Some slot) e within number = (sym e, within, number)

  pub no_slot : (r : Option ℕ) → r ≡ free_slot n → IsNone r → (make : ObjectKey → Family) → makes make n ≡ makes_no_family n
  unfolding makes
  no_slot None e none make = ap (λ (o : Option ℕ). makes_in o make n) (sym e)
  no_slot (Some slot) e none make = absurd cc

  pub no_number : generation_limit ≤ n.generation → (make : ObjectKey → Family) → makes make n ≡ makes_no_family n
  unfolding makes
  no_number spent make = by_slot (free_slot n)
    where
      by_slot : (o : Option ℕ) → makes_in o make n ≡ makes_no_family n
      by_slot None = refl
      by_slot (Some slot) = ap (λ (b : Bool). cond b (record { node = with_new make slot n; answer = Ok (next_key n slot) }) (makes_no_family n)) (le-ltb n.generation generation_limit spent)

  pub made : (make : ObjectKey → Family) (slot : ℕ) → free_slot n ≡ Some slot → n.generation < generation_limit
      → makes make n ≡ record { node = with_new make slot n; answer = Ok (next_key n slot) }
  unfolding makes
  made make slot e number =
      ap (λ (o : Option ℕ). makes_in o make n) e
      ∙ ap (λ (b : Bool). cond b (record { node = with_new make slot n; answer = Ok (next_key n slot) }) (makes_no_family n)) (lt-ltb n.generation generation_limit number)

  pub grants : (make : ObjectKey → Family) (slot : ℕ) → free_slot n ≡ Some slot → n.generation < generation_limit → IsOk (makes make n).answer
  grants make slot e number = ap (λ (x : Created). is_ok x.answer) (made make slot e number)
