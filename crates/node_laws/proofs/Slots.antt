-- The families of a node by their slots, and the records that are their decisions.
use Rattle.std.proofs.Common.{◌≡◌, ◌≢◌, ℕ, ◌<◌, zero, suc, List, [], ◌∷◌, length, map, replicate, Option, Some, None, refl, ap, sym, ◌∙◌, arith}
use Rattle.std.specs.Prelude.{slice_set}
use Rattle.ior_refs.specs.declared.key.ObjectKey.{ObjectKey}
use Rattle.decision_journal.specs.declared.record.JournalRecord.{JournalRecord}
use Rattle.decision_journal.specs.declared.record.JournalRecord.TheVariants.{Life, Decision, Done, Prepared, CellsPrepared, CellsOutcome, CellsOnePhase}
use Rattle.coordinator.specs.Family.{Family}
use Rattle.coordinator.specs.Node.{family_in}
use Rattle.coordinator.specs.NodeTick.{ticked}
use Rattle.family_laws.specs.SoundNode.{IsDecisionOf}

pub family_other : (fs : List (Option Family)) (b d : ℕ) (o : Option Family) → d ≢ b → family_in (slice_set fs b o) d ≡ family_in fs d
family_other [] b d o n = refl
family_other (x ∷ fs) zero zero o n = absurd (n refl)
family_other (x ∷ fs) zero (suc d) o n = refl
family_other (x ∷ fs) (suc b) zero o n = refl
family_other (x ∷ fs) (suc b) (suc d) o n = family_other fs b d o (λ e. n (ap (λ (k : ℕ). suc k) e))

pub family_same : (fs : List (Option Family)) (b : ℕ) (o : Option Family) (f : Family) → family_in (slice_set fs b o) b ≡ Some f → o ≡ Some f
family_same [] b o f e = absurd (cc e)
family_same (x ∷ fs) zero o f e = e
family_same (x ∷ fs) (suc b) o f e = family_same fs b o f e

pub family_put : (fs : List (Option Family)) (b : ℕ) (f : Family) → b < length fs → family_in (slice_set fs b (Some f)) b ≡ Some f
family_put [] b f l = absurd (omega (arith, l))
family_put (x ∷ fs) zero f l = refl
family_put (x ∷ fs) (suc b) f l = family_put fs b f (omega (arith, l))

pub family_within : (fs : List (Option Family)) (b : ℕ) (f : Family) → family_in fs b ≡ Some f → b < length fs
family_within [] b f e = absurd (cc e)
family_within (x ∷ fs) zero f e = omega arith
family_within (x ∷ fs) (suc b) f e = let l = family_within fs b f e in omega (arith, l)

pub set_length : {A : Type 0} (xs : List A) (b : ℕ) (x : A) → length (slice_set xs b x) ≡ length xs
set_length [] b x = refl
set_length (y ∷ ys) zero x = refl
set_length (y ∷ ys) (suc b) x = ap (λ (k : ℕ). suc k) (set_length ys b x)

pub none_in : (n slot : ℕ) (f : Family) → family_in (replicate n None) slot ≡ Some f → ⊥
none_in zero slot f e = absurd (cc e)
none_in (suc n) zero f e = absurd (cc e)
none_in (suc n) (suc slot) f e = none_in n slot f e

pub family_ticked : (now : ℕ) (fs : List (Option Family)) (slot : ℕ) → family_in (map (ticked now) fs) slot ≡ ticked now (family_in fs slot)
family_ticked now [] slot = refl
family_ticked now (None ∷ fs) zero = refl
family_ticked now (Some f ∷ fs) zero = refl
family_ticked now (x ∷ fs) (suc slot) = family_ticked now fs slot

pub map_length : {A B : Type 0} (g : A → B) (xs : List A) → length (map g xs) ≡ length xs
map_length g [] = refl
map_length g (x ∷ xs) = ap (λ (k : ℕ). suc k) (map_length g xs)

-- another family with the same key
pub own_kept : (f g : Family) → g.key ≡ f.key → (r : JournalRecord) → IsDecisionOf f r → IsDecisionOf g r
own_kept f g e (Decision l s n by asked regs) h =
    (ap (λ (k : ObjectKey). k.life) e ∙ h.0, ap (λ (k : ObjectKey). k.slot) e ∙ h.1, ap (λ (k : ObjectKey). k.generation) e ∙ h.2)
own_kept f g e (Life l) h = h
own_kept f g e (Done named) h = h
own_kept f g e (Prepared l s n recovery regs) h = h
own_kept f g e (CellsPrepared l number recovery ps) h = h
own_kept f g e (CellsOutcome named end) h = h
own_kept f g e (CellsOnePhase l number ps) h = h

-- two families of which one record is the decision
pub record AreAlike (f g : Family) : Type 0 where
  pub same_life : f.key.life ≡ g.key.life
  pub same_slot : f.key.slot ≡ g.key.slot
  pub same_number : f.key.generation ≡ g.key.generation

pub are_alike : (f g : Family) (r : JournalRecord) → IsDecisionOf f r → IsDecisionOf g r → AreAlike f g
are_alike f g (Decision l s n by asked regs) h k = record { same_life = h.0 ∙ sym k.0; same_slot = h.1 ∙ sym k.1; same_number = h.2 ∙ sym k.2 }
are_alike f g (Life l) h k = absurd h
are_alike f g (Done named) h k = absurd h
are_alike f g (Prepared l s n recovery regs) h k = absurd h
are_alike f g (CellsPrepared l number recovery ps) h k = absurd h
are_alike f g (CellsOutcome named end) h k = absurd h
are_alike f g (CellsOnePhase l number ps) h k = absurd h
