-- The families of a node by their slots, and those that a tick leaves there.
use Rattle.std.proofs.Common.{◌≡◌, ◌≢◌, ℕ, ◌<◌, ◌≤◌, zero, suc, List, [], ◌∷◌, length, map, Option, Some, None, refl, ap, sym, ◌∙◌, arith}
use Rattle.std.specs.Prelude.{slice_set}
use Rattle.std.proofs.lemmas.Grind.{common_steps}
use Rattle.ior_refs.specs.declared.key.ObjectKey.{ObjectKey}
use Rattle.decision_journal.specs.declared.record.JournalRecord.{JournalRecord}
use Rattle.decision_journal.specs.declared.record.JournalRecord.TheVariants.{Life, Decision, Done, Prepared, CellsPrepared, CellsOutcome, CellsOnePhase}
use Rattle.coordinator.specs.Family.{Family}
use Rattle.coordinator.specs.Node.{Node, life, family_in}
use Rattle.coordinator.specs.NodeParts.{IsInSlot}
use Rattle.coordinator.specs.NodeTick.{ticked}
use Rattle.family_laws.specs.SoundNode.{IsDecisionOf}

-- ---- families by their slots

pub family_other : (fs : List (Option Family)) (b d : ℕ) (o : Option Family) → d ≢ b → family_in (slice_set fs b o) d ≡ family_in fs d
family_other [] b d o n = refl
family_other (x ∷ fs) zero zero o n = absurd (n refl)
family_other (x ∷ fs) zero (suc d) o n = refl
family_other (x ∷ fs) (suc b) zero o n = refl
family_other (x ∷ fs) (suc b) (suc d) o n = family_other fs b d o (λ e. n (ap (λ (k : ℕ). suc k) e))

pub family_same : (fs : List (Option Family)) (b : ℕ) (o : Option Family) (f : Family) → family_in (slice_set fs b o) b ≡ Some f → o ≡ Some f
family_same [] b o f e = absurd (cc e)
family_same (x ∷ fs) zero o f e = e
family_same (x ∷ fs) (suc b) o f e = family_same fs b o f e

pub family_put : (fs : List (Option Family)) (b : ℕ) (f : Family) → b < length fs → family_in (slice_set fs b (Some f)) b ≡ Some f
family_put [] b f l = absurd (omega (arith, l))
family_put (x ∷ fs) zero f l = refl
family_put (x ∷ fs) (suc b) f l = family_put fs b f (omega (arith, l))

pub family_within : (fs : List (Option Family)) (b : ℕ) (f : Family) → family_in fs b ≡ Some f → b < length fs
family_within [] b f e = absurd (cc e)
family_within (x ∷ fs) zero f e = omega arith
family_within (x ∷ fs) (suc b) f e = let l = family_within fs b f e in omega (arith, l)

pub set_length : (fs : List (Option Family)) (b : ℕ) (o : Option Family) → length (slice_set fs b o) ≡ length fs
set_length fs b o = grind (arith, common_steps)

-- another family with the same key
pub in_slot_kept : (n later : Node) (slot : ℕ) (f g : Family) → later.service ≡ n.service → life later ≡ life n → n.generation ≤ later.generation → g.key ≡ f.key → IsInSlot n slot f → IsInSlot later slot g
in_slot_kept n later slot f g service lives more key h = record {
  of_service = ap (λ (k : ObjectKey). k.service) key ∙ h.of_service ∙ sym service;
  of_life = ap (λ (k : ObjectKey). k.life) key ∙ h.of_life ∙ sym lives;
  own_slot = ap (λ (k : ObjectKey). k.slot) key ∙ h.own_slot;
  given = let x = h.given in let e = ap (λ (k : ObjectKey). k.generation) key in omega (arith, x, e, more);
}

pub own_kept : (f g : Family) → g.key ≡ f.key → (r : JournalRecord) → IsDecisionOf f r → IsDecisionOf g r
own_kept f g e (Decision l s n by asked regs) h =
    (ap (λ (k : ObjectKey). k.life) e ∙ h.0, ap (λ (k : ObjectKey). k.slot) e ∙ h.1, ap (λ (k : ObjectKey). k.generation) e ∙ h.2)
own_kept f g e (Life l) h = h
own_kept f g e (Done named) h = h
own_kept f g e (Prepared l s n recovery regs) h = h
own_kept f g e (CellsPrepared l number recovery ps) h = h
own_kept f g e (CellsOutcome named end) h = h
own_kept f g e (CellsOnePhase l number ps) h = h

-- two families of which one record is the decision are in one slot
pub same_slot : (f g : Family) (r : JournalRecord) → IsDecisionOf f r → IsDecisionOf g r → f.key.slot ≡ g.key.slot
same_slot f g (Decision l s n by asked regs) h k = h.1 ∙ sym k.1
same_slot f g (Life l) h k = absurd h
same_slot f g (Done named) h k = absurd h
same_slot f g (Prepared l s n recovery regs) h k = absurd h
same_slot f g (CellsPrepared l number recovery ps) h k = absurd h
same_slot f g (CellsOutcome named end) h k = absurd h
same_slot f g (CellsOnePhase l number ps) h k = absurd h

-- ---- and time passes

pub family_ticked : (now : ℕ) (fs : List (Option Family)) (slot : ℕ) → family_in (map (ticked now) fs) slot ≡ ticked now (family_in fs slot)
family_ticked now [] slot = refl
family_ticked now (None ∷ fs) zero = refl
family_ticked now (Some f ∷ fs) zero = refl
family_ticked now (x ∷ fs) (suc slot) = family_ticked now fs slot

pub map_length : (now : ℕ) (fs : List (Option Family)) → length (map (ticked now) fs) ≡ length fs
map_length now [] = refl
map_length now (x ∷ fs) = ap (λ (k : ℕ). suc k) (map_length now fs)
