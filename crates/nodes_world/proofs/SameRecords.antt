-- A node one of whose families is as far with its record as before: it keeps its decisions.
use Rattle.std.proofs.Common.{◌≡◌, ◌≢◌, ◌⊎◌, inl, inr, ℕ, ◌<◌, ◌≤◌, Contains, Some, refl, sym, ap, subst, ◌∙◌, arith}
use Rattle.ior_refs.specs.declared.key.ObjectKey.{ObjectKey}
use Rattle.two_phase.specs.Stages as stages
use Rattle.decision_journal.specs.declared.journal.Standing.{Standing}
use Rattle.decision_journal.specs.declared.record.JournalRecord.{JournalRecord}
use Rattle.decision_journal.specs.declared.record.JournalRecord.TheVariants.{Life, Decision, Done, Prepared, CellsPrepared, CellsOutcome, CellsOnePhase}
use Rattle.coordinator.specs.Family.{Family}
use Rattle.coordinator.specs.Node.{Node, family_in, with_family}
use Rattle.coordinator.specs.NodeParts.{IsInSlot}
use Rattle.family_laws.specs.OwnDecisions.{HasDecision, IsUnclosed, KeepsDecisions}
use Rattle.family_laws.specs.Sound.{IsSoundFamily}
use Rattle.family_laws.specs.SoundNode.{HasFamilyOf, IsDecisionOf, IsSoundNode}
use Rattle.nodes_world.proofs.KnownSeats.{as_long}
use Rattle.nodes_world.proofs.StepSeats as seats

-- what a family is as which another one goes on, as far with its record
pub record IsAsFar (f g : Family) : Type 0 where
  pub key : g.key ≡ f.key
  pub sound : IsSoundFamily g
  pub places : stages.record_place g.completion ≡ stages.record_place f.completion
  pub unclosed : (place : ℕ) → IsUnclosed g place → IsUnclosed f place

same_or_not : (a b : ℕ) → (a ≡ b) ⊎ (a ≢ b)
same_or_not a b = grind arith

inner : {A : Type 0} {a b : A} → Some a ≡ Some b → a ≡ b
inner e = cc

-- a decision of the one is that of the other
own_as : (f g : Family) (r : JournalRecord) → g.key ≡ f.key → IsDecisionOf f r → IsDecisionOf g r
own_as f g (Decision in_life slot generation by asked regs) same own =
    (ap (λ (k : ObjectKey). k.life) same ∙ own.0, ap (λ (k : ObjectKey). k.slot) same ∙ own.1, ap (λ (k : ObjectKey). k.generation) same ∙ own.2)
own_as f g (Life in_life) same own = own
own_as f g (Done named) same own = own
own_as f g (Prepared in_life slot generation recovery regs) same own = own
own_as f g (CellsPrepared in_life number recovery puts) same own = own
own_as f g (CellsOutcome named how) same own = own
own_as f g (CellsOnePhase in_life number puts) same own = own

module _ (n : Node) (f g : Family) (slotted : family_in n.families f.key.slot ≡ Some f) (edge : ℕ) (keeps : KeepsDecisions edge n) (far : IsAsFar f g) where
  abbrev m : Node
  m = with_family g n

  abbrev InFamilies : (ℕ → Family → Type 0) → Type 0
  InFamilies P = (slot : ℕ) (h : Family) → family_in m.families slot ≡ Some h → P slot h

  -- a family is that one, or another one, as it was
  by_slot : (P : ℕ → Family → Type 0) → P g.key.slot g → ((slot : ℕ) (h : Family) → family_in n.families slot ≡ Some h → P slot h) → InFamilies P
  by_slot P own others slot h at = elim (seats.slot_cases n f g far.key slotted slot h at) [
    | inl here ↦ subst (λ (i : ℕ). P i h) (sym here.0) (subst (P g.key.slot) (sym here.1) own)
    | inr other ↦ others slot h other.1
  ]

  kept_slot : (slot : ℕ) (h : Family) → IsInSlot n slot h → IsInSlot m slot h
  kept_slot slot h was = record { of_service = was.of_service; of_life = was.of_life; own_slot = was.own_slot; given = was.given }

  own_there : IsInSlot m g.key.slot g × IsSoundFamily g
  own_there =
      let was = (keeps.sound.families f.key.slot f slotted).0 in (
        record {
          of_service = ap (λ (k : ObjectKey). k.service) far.key ∙ was.of_service;
          of_life = ap (λ (k : ObjectKey). k.life) far.key ∙ was.of_life;
          own_slot = refl;
          given = subst (λ (k : ObjectKey). k.generation ≤ n.generation) (sym far.key) was.given;
        },
        far.sound,
      )

  family_of_it : (x : Standing) → HasFamilyOf n.families x → HasFamilyOf m.families x
  family_of_it x has = elim (same_or_not has.slot g.key.slot) [
    | inl here ↦
        let is : f ≡ has.family = inner (sym slotted ∙ ap (family_in n.families) (sym (here ∙ ap (λ (k : ObjectKey). k.slot) far.key)) ∙ has.there) in
        record {
          slot = g.key.slot;
          family = g;
          there = seats.in_own_slot n f g far.key slotted;
          own = own_as f g x.item far.key (subst (λ (y : Family). IsDecisionOf y x.item) (sym is) has.own);
          decided = far.places ∙ ap (λ (y : Family). stages.record_place y.completion) is ∙ has.decided;
        }
    | inr other ↦ record {
      slot = has.slot;
      family = has.family;
      there = seats.in_other_slot n f g far.key slotted has.slot other ∙ has.there;
      own = has.own;
      decided = has.decided;
    }
  ]

  own_then : InFamilies (λ (slot : ℕ) (h : Family). (x : Standing) → Contains n.found.standing x → stages.record_place h.completion ≡ Some x.place → IsDecisionOf h x.item)
  own_then = by_slot (λ (slot : ℕ) (h : Family). (x : Standing) → Contains n.found.standing x → stages.record_place h.completion ≡ Some x.place → IsDecisionOf h x.item)
      (λ x c at. own_as f g x.item far.key (keeps.own f.key.slot f x slotted c (sym far.places ∙ at))) (λ slot h at x c decided. keeps.own slot h x at c decided)

  decision_then : (h : Family) (place : ℕ) → HasDecision n h place → HasDecision m h place
  decision_then h place was = record { stood = was.stood; there = was.there; at = was.at; own = was.own; untold = was.untold }

  unclosed_then : InFamilies (λ (slot : ℕ) (h : Family). (place : ℕ) → IsUnclosed h place → HasDecision m h place)
  unclosed_then = by_slot (λ (slot : ℕ) (h : Family). (place : ℕ) → IsUnclosed h place → HasDecision m h place)
      (λ place u.
      let was = keeps.unclosed f.key.slot place f slotted (far.unclosed place u) in
      record { stood = was.stood; there = was.there; at = was.at; own = own_as f g was.stood.item far.key was.own; untold = was.untold })
      (λ slot h at place u. decision_then h place (keeps.unclosed slot place h at u))

  decided_then : InFamilies (λ (slot : ℕ) (h : Family). (place : ℕ) → stages.record_place h.completion ≡ Some place → place < edge)
  decided_then = by_slot (λ (slot : ℕ) (h : Family). (place : ℕ) → stages.record_place h.completion ≡ Some place → place < edge)
      (λ place at. keeps.decided f.key.slot place f slotted (sym far.places ∙ at)) (λ slot h at place decided. keeps.decided slot place h at decided)

  sound_then : IsSoundNode m
  sound_then = record {
    slots = as_long n.families g.key.slot (Some g) ∙ keeps.sound.slots;
    families = by_slot (λ (slot : ℕ) (h : Family). IsInSlot m slot h × IsSoundFamily h) own_there
        (λ slot h at. let was = keeps.sound.families slot h at in (kept_slot slot h was.0, was.1));
    last = keeps.sound.last;
    numbers = keeps.sound.numbers;
    order = keeps.sound.order;
    decisions = λ x c is. elim (keeps.sound.decisions x c is) [ inl held ↦ inl held | inr has ↦ inr (family_of_it x has) ];
  }

  pub as_far_keeps : KeepsDecisions edge m
  as_far_keeps = record {
    sound = sound_then;
    before = keeps.before;
    decided = λ slot place h at is. decided_then slot h at place is;
    own = λ slot h x at c decided. own_then slot h at x c decided;
    held = keeps.held;
    unclosed = λ slot place h at u. unclosed_then slot h at place u;
  }
