-- A node one of whose families is decided by a record that was just appended: it keeps its decisions, up to a later edge.
use Rattle.std.proofs.Common.{◌≡◌, ◌≢◌, ◌⊎◌, inl, inr, ℕ, ◌<◌, ◌≤◌, Bool, List, [], ◌∷◌, ◌++◌, Contains, Option, Some, None, refl, sym, ap, subst, ◌∙◌, arith}
use Rattle.std.specs.List.{AllByRecursion}
use Rattle.std.proofs.lemmas.List.Elements.{Contains-append_left, Contains-append_right, Contains-push_cases}
use Rattle.ots_model.specs.declared.service.RetryKey.{RetryKey}
use Rattle.two_phase.specs.Stages as stages
use Rattle.two_phase.specs.Stages.{Standing as Completion}
use Rattle.decision_journal.specs.Journal.{with_record}
use Rattle.decision_journal.specs.declared.journal.Standing.{Standing}
use Rattle.decision_journal.specs.declared.record.JournalRecord.{JournalRecord}
use Rattle.decision_journal.specs.declared.record.JournalRecord.TheVariants.{Decision}
use Rattle.decision_journal.specs.declared.record.Registration.{Registration as Named}
use Rattle.recovery_coord.specs.declared.held.Held.{Held}
use Rattle.coordinator.specs.Family.{Family}
use Rattle.coordinator.specs.Node.{Node, family_in, with_family}
use Rattle.coordinator.specs.NodeParts.{IsInSlot}
use Rattle.family_laws.specs.OwnDecisions.{HasDecision, IsUnclosed, KeepsDecisions, StandsAt}
use Rattle.family_laws.specs.Sound.{IsSoundFamily}
use Rattle.family_laws.specs.SoundNode.{AreInOrder, HasFamilyOf, IsDecisionOf, IsSoundNode}
use Rattle.nodes_world.proofs.KnownFamilies.{all_at}
use Rattle.nodes_world.proofs.KnownSeats.{as_long}
use Rattle.nodes_world.proofs.LoadedLines.{all_both}
use Rattle.nodes_world.proofs.SoundNodes.{all_of}
use Rattle.nodes_world.proofs.StepSeats as seats

-- one more stands in order, where it stands behind the others
in_order_then : (xs : List Standing) (x : Standing) → AreInOrder xs → AllByRecursion (λ (s : Standing). s.place < x.place) xs → AreInOrder (xs ++ x ∷ [])
in_order_then [] x order all = (tt, tt)
in_order_then (s ∷ xs) x (one, order) (less, all) =
    (all_both (λ (t : Standing). s.place < t.place) xs (x ∷ []) one (less, tt), in_order_then xs x order all)

same_or_not : (a b : ℕ) → (a ≡ b) ⊎ (a ≢ b)
same_or_not a b = grind arith

inner : {A : Type 0} {a b : A} → Some a ≡ Some b → a ≡ b
inner e = cc

none_not : {x : ℕ} → None ≡ Some x → ⊥
none_not e = cc

module _ (n : Node) (f : Family) (later : Completion) (slotted : family_in n.families f.key.slot ≡ Some f) (edge beyond : ℕ) (keeps : KeepsDecisions edge n)
    (sound : IsSoundFamily (record f { completion = later })) (none : stages.record_place f.completion ≡ None) (at : ℕ) (stands : stages.record_place later ≡ Some at)
    (behind : edge ≤ at) (before : at < beyond) (by : Option RetryKey) (asked : Bool) (regs : List Named) where
  abbrev g : Family
  g = record f { completion = later }

  abbrev item : JournalRecord
  item = Decision f.key.life f.key.slot f.key.generation by asked regs

  abbrev new : Standing
  new = record { place = at; item = item }

  abbrev pub decided_node : Node
  decided_node = with_family g (record n { found = with_record n.found at item })

  -- what stood stands still, and the new one
  still : (x : Standing) → Contains n.found.standing x → Contains decided_node.found.standing x
  still x c = Contains-append_left n.found.standing (new ∷ []) x c

  new_there : Contains decided_node.found.standing new
  new_there = Contains-append_right n.found.standing (new ∷ []) new (0, omega arith, refl)

  cases : (x : Standing) → Contains decided_node.found.standing x → Contains n.found.standing x ⊎ (new ≡ x)
  cases x c = Contains-push_cases n.found.standing new x c

  low : (x : Standing) → Contains n.found.standing x → x.place < at
  low x c = let b = all_at (λ (y : Standing). y.place < edge) n.found.standing x keeps.before c in omega (arith, b, behind)

  -- a family is that one, or another one, as it was
  by_slot : (P : ℕ → Family → Type 0) → P f.key.slot g → ((slot : ℕ) (h : Family) → slot ≢ f.key.slot → family_in n.families slot ≡ Some h → P slot h) → (slot : ℕ) (h : Family)
      → family_in decided_node.families slot ≡ Some h → P slot h
  by_slot P own others slot h there = elim (seats.slot_cases n f g refl slotted slot h there) [
    | inl here ↦ subst (λ (i : ℕ). P i h) (sym here.0) (subst (P f.key.slot) (sym here.1) own)
    | inr other ↦ others slot h other.0 other.1
  ]

  own_place : {place : ℕ} → stages.record_place later ≡ Some place → at ≡ place
  own_place is = inner (sym stands ∙ is)

  kept_slot : (slot : ℕ) (h : Family) → IsInSlot n slot h → IsInSlot decided_node slot h
  kept_slot slot h was = record { of_service = was.of_service; of_life = was.of_life; own_slot = was.own_slot; given = was.given }

  own_there : IsInSlot decided_node f.key.slot g × IsSoundFamily g
  own_there =
      let was = keeps.sound.families f.key.slot f slotted in
      (record { of_service = was.0.of_service; of_life = was.0.of_life; own_slot = was.0.own_slot; given = was.0.given }, sound)

  family_of_it : (x : Standing) → HasFamilyOf n.families x → HasFamilyOf decided_node.families x
  family_of_it x has = elim (same_or_not has.slot f.key.slot) [
    | inl here ↦
        let is : f ≡ has.family = inner (sym slotted ∙ ap (family_in n.families) (sym here) ∙ has.there) in
        absurd (none_not (sym none ∙ ap (λ (y : Family). stages.record_place y.completion) is ∙ has.decided))
    | inr other ↦ record {
      slot = has.slot;
      family = has.family;
      there = seats.in_other_slot n f g refl slotted has.slot other ∙ has.there;
      own = has.own;
      decided = has.decided;
    }
  ]

  family_of_new : (x : Standing) → new ≡ x → HasFamilyOf decided_node.families x
  family_of_new x is = subst (HasFamilyOf decided_node.families) is (record {
    slot = f.key.slot;
    family = g;
    there = seats.in_own_slot n f g refl slotted;
    own = (refl, refl, refl);
    decided = stands;
  })

  sound_then : IsSoundNode decided_node
  sound_then = record {
    slots = as_long n.families f.key.slot (Some g) ∙ keeps.sound.slots;
    families = by_slot (λ (slot : ℕ) (h : Family). IsInSlot decided_node slot h × IsSoundFamily h) own_there
        (λ slot h other there. let was = keeps.sound.families slot h there in (kept_slot slot h was.0, was.1));
    last = keeps.sound.last;
    numbers = keeps.sound.numbers;
    order = in_order_then n.found.standing new keeps.sound.order (all_of (λ (s : Standing). s.place < at) n.found.standing low);
    decisions = λ x c is. elim (cases x c) [
      | inl was ↦ elim (keeps.sound.decisions x was is) [ inl held ↦ inl held | inr has ↦ inr (family_of_it x has) ]
      | inr new_one ↦ inr (family_of_new x new_one)
    ];
  }

  decided_then : (slot : ℕ) (h : Family) → family_in decided_node.families slot ≡ Some h → (place : ℕ) → stages.record_place h.completion ≡ Some place → place < beyond
  decided_then = by_slot (λ (slot : ℕ) (h : Family). (place : ℕ) → stages.record_place h.completion ≡ Some place → place < beyond)
      (λ place is. let same = own_place is in omega (arith, same, before))
      (λ slot h other there place decided. let less = keeps.decided slot place h there decided in omega (arith, less, behind, before))

  own_then : (slot : ℕ) (h : Family) → family_in decided_node.families slot ≡ Some h → (x : Standing) → Contains decided_node.found.standing x
      → stages.record_place h.completion ≡ Some x.place → IsDecisionOf h x.item
  own_then = by_slot (λ (slot : ℕ) (h : Family). (x : Standing) → Contains decided_node.found.standing x → stages.record_place h.completion ≡ Some x.place → IsDecisionOf h x.item)
      (λ x c is. elim (cases x c) [
        | inl was ↦ let less = low x was in let same = own_place is in absurd (omega (arith, less, same))
        | inr new_one ↦ subst (λ (y : Standing). IsDecisionOf g y.item) new_one (refl, refl, refl)
      ])
      (λ slot h other there x c is. elim (cases x c) [
        | inl was ↦ keeps.own slot h x there was is
        | inr new_one ↦
            let less = keeps.decided slot x.place h there is in
            let same = ap (λ (y : Standing). y.place) new_one in
            absurd (omega (arith, less, same, behind))
      ])

  held_then : (h : Held) → Contains n.recovered h → StandsAt decided_node.found.standing h.place
  held_then h c = let was = keeps.held h c in record { stood = was.stood; there = still was.stood was.there; at = was.at }

  untold : (h : Held) → Contains n.recovered h → h.place ≢ at
  untold h c same = let was = keeps.held h c in let less = low was.stood was.there in let is = was.at in omega (arith, less, is, same)

  unclosed_then : (slot : ℕ) (h : Family) → family_in decided_node.families slot ≡ Some h → (place : ℕ) → IsUnclosed h place → HasDecision decided_node h place
  unclosed_then = by_slot (λ (slot : ℕ) (h : Family). (place : ℕ) → IsUnclosed h place → HasDecision decided_node h place)
      (λ place u. subst (HasDecision decided_node g) (own_place u.decided)
      (record { stood = new; there = new_there; at = refl; own = (refl, refl, refl); untold = untold }))
      (λ slot h other there place u. let was = keeps.unclosed slot place h there u in
      record { stood = was.stood; there = still was.stood was.there; at = was.at; own = was.own; untold = was.untold })

  pub decided_keeps : KeepsDecisions beyond decided_node
  decided_keeps = record {
    sound = sound_then;
    before = all_both (λ (s : Standing). s.place < beyond) n.found.standing (new ∷ [])
        (all_of (λ (s : Standing). s.place < beyond) n.found.standing (λ x c. let less = low x c in omega (arith, less, before))) (before, tt);
    decided = λ slot place h there is. decided_then slot h there place is;
    own = λ slot h x there c is. own_then slot h there x c is;
    held = held_then;
    unclosed = λ slot place h there u. unclosed_then slot h there place u;
  }
