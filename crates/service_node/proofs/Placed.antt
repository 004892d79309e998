-- A step of the family in a place, and of that in a slot.
use Rattle.std.proofs.Common.{◌≡◌, ◌∙◌, ◌↔◌, ℕ, zero, suc, ◌<◌, Bool, true, false, List, [], ◌∷◌, length, get_or, set, map, Option, Some, IsSome, Result, Ok, Err, IfOk, IfErr, IsErr, OnErr, refl, sym, ap, arith}
use Rattle.std.specs.Option.{option_and_then, option_map}
use Rattle.std.specs.Result.{IsErrOf}
use Rattle.std.proofs.lemmas.List.{map-set}
use Rattle.std.proofs.lemmas.Option.{slice_get-get_or, slice_get-map}
use Rattle.std.proofs.Math.Seq.{map-set_same}
use Rattle.ots_model.specs.declared.tree.Outward.{Outward}
use Rattle.ots_outside.specs.Disk.{DiskState}
use Rattle.decision_journal.specs.State.{JournalState}
use Rattle.recovery_coord.specs.Held.{Recoveries}
use Rattle.coordinator.specs.declared.event.Event.{Event}
use Rattle.coordinator.specs.declared.node.NodeFault.{NodeFault}
use Rattle.coordinator.specs.declared.said.StepAnswer.{StepAnswer}
use Rattle.coordinator.specs.Family.{Family, FamilyParts}
use Rattle.coordinator.specs.History.{has_room}
use Rattle.coordinator.specs.Node.{family_in}
use Rattle.family_step.specs.declared.family.FamilyFault.{FamilyFault}
use Rattle.family_step.specs.declared.family.FamilyFault.TheVariants as steps
use Rattle.service_node.specs.Applying.{HasSteppedAt, HasSteppedIn, IsStepFault, IsUnmoved, IsUnmovedAt}
use Rattle.service_node.specs.NodeState.{shown}

-- ---- in a place

module _ {D : Type 0} (wants : Bool) (told : D → Option DiskState) (counts : D → ℕ) (e : Event) (f g : Family) (before after : JournalState D) (held kept : Recoveries) (words more : List Outward) where
  pub placed_step : (r : Result StepAnswer NodeFault) → g.key ≡ f.key
      → IfOk r (λ answer. HasSteppedIn wants told counts f e before after held kept g answer words more) → IfOk r (λ answer. has_room f.entries e ≡ true)
      → IfOk r (λ answer. HasSteppedAt wants told counts 0 e (Some f ∷ []) (Some g ∷ []) before after held kept answer words more)
  placed_step (Ok answer) key stepped fits = record { family = f; next = g; there = refl; placed = refl; key = key; fits = fits; stepped = stepped }
  placed_step (Err fault) key stepped fits = tt

  pub placed_fault : (r : Result StepAnswer NodeFault) → OnErr r (IsUnmoved f g before after held kept words more) → IfErr r (IsStepFault f e)
      → IfErr r (λ fault. IsUnmovedAt 0 e (Some f ∷ []) (Some g ∷ []) before after held kept fault words more)
  placed_fault (Ok answer) un cause = tt
  placed_fault (Err fault) un cause = record {
    family = f;
    there = refl;
    cause = cause;
    families_are = ap (λ (h : Family). Some h ∷ []) un.family;
    journal = un.journal;
    recovered = un.recovered;
    unsaid = un.unsaid;
  }

-- ---- in a slot

pub within : (items : List (Option FamilyParts)) (slot : ℕ) → IsSome (family_in (map shown items) slot) → slot < length items
within [] slot some = absurd cc
within (x ∷ items) zero some = omega arith
within (x ∷ items) (suc slot) some = let rest = within items slot some in omega (arith, rest)

module _ (items : List (Option FamilyParts)) (slot : ℕ) (x : Option FamilyParts) (lt : slot < length items) (is : x ≡ get_or items slot x) where
  pub in_slot : family_in (map shown items) slot ≡ shown x
  in_slot =
      ap (option_and_then (λ (o : Option Family). o))
      (slice_get-map shown items slot ∙ ap (option_map shown) (slice_get-get_or items slot x lt ∙ ap (λ (p : Option FamilyParts). Some p) (sym is)))

  module _ {D : Type 0} (wants : Bool) (told : D → Option DiskState) (counts : D → ℕ) (e : Event) (y : Option FamilyParts) (before after : JournalState D) (held kept : Recoveries) (words more : List Outward) where
    first : (a b : Option Family) → a ∷ [] ≡ b ∷ [] → a ≡ b
    first a b same = ap (λ (xs : List (Option Family)). get_or xs 0 a) same

    pub slot_step : (r : Result StepAnswer NodeFault)
        → IfOk r (λ answer. HasSteppedAt wants told counts 0 e (shown x ∷ []) (shown y ∷ []) before after held kept answer words more)
        → IfOk r (λ answer. HasSteppedAt wants told counts slot e (map shown items) (map shown (set items slot y)) before after held kept answer words more)
    slot_step (Err fault) s = tt
    slot_step (Ok answer) s = record {
      family = s.family;
      next = s.next;
      there = in_slot ∙ s.there;
      placed = map-set shown items slot y ∙ ap (λ (o : Option Family). set (map shown items) slot o) (first (shown y) (Some s.next) s.placed);
      key = s.key;
      fits = s.fits;
      stepped = s.stepped;
    }

    pub slot_fault : (r : Result StepAnswer NodeFault)
        → IfErr r (λ fault. IsUnmovedAt 0 e (shown x ∷ []) (shown y ∷ []) before after held kept fault words more)
        → IfErr r (λ fault. IsUnmovedAt slot e (map shown items) (map shown (set items slot y)) before after held kept fault words more)
    slot_fault (Ok answer) s = tt
    slot_fault (Err fault) s = record {
      family = s.family;
      there = in_slot ∙ s.there;
      cause = s.cause;
      families_are = map-set_same shown items slot y x (first (shown y) (shown x) s.families_are ∙ ap shown is);
      journal = s.journal;
      recovered = s.recovered;
      unsaid = s.unsaid;
    }

-- ---- why no memory was taken for it

pub no_room : {A : Type 0} (b : Bool) (fault : FamilyFault) (n : ℕ) → fault ≡ steps.History n
    → (b ≡ true → IsErr {T = A} (Err fault) → IsErrOf {T = A} (Err fault) steps.Memory) → b ≡ false
no_room false fault n is memory = refl
no_room true fault n is memory = let e = memory refl refl in absurd cc

pub room_left : {A : Type 0} (b : Bool) (fault : FamilyFault) (n : ℕ) → fault ≡ steps.Memory
    → (IsErrOf {T = A} (Err fault) (steps.History n) ↔ (b ≡ false)) → b ≡ true
room_left true fault n is history = refl
room_left false fault n is history = let e = history.1 refl in absurd cc
