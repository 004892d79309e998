-- A call that is a step of a family makes of a node what the definition says.
use Rattle.std.proofs.Common.{◌≡◌, ◌∙◌, ℕ, ◌<◌, inl, inr, Bool, true, false, cond, if◌then◌else◌, zero, suc, List, [], ◌∷◌, ◌++◌, length, set, Option, Some, None, Ok, is_some, refl, sym, ap, subst, arith}
use Rattle.std.specs.Prelude.{slice_set}
use Rattle.std.specs.Option.{option_and_then, option_map}
use Rattle.std.proofs.lemmas.Bool.{cases_eq}
use Rattle.std.proofs.lemmas.List.{length-set}
use Rattle.ior_refs.specs.declared.key.ObjectKey.{ObjectKey}
use Rattle.ots_model.specs.declared.completion.Stood.{Stood}
use Rattle.ots_model.specs.declared.tree.Outward.{Outward}
use Rattle.ots_outside.specs.Disk.{DiskState}
use Rattle.decision_journal.specs.Journal.{is_decision}
use Rattle.decision_journal.specs.State.{JournalState}
use Rattle.recovery_coord.specs.Held.{Recoveries}
use Rattle.coordinator.specs.declared.event.Act.{Act}
use Rattle.coordinator.specs.declared.event.Act.TheVariants as acts
use Rattle.coordinator.specs.declared.event.Event.{Event}
use Rattle.coordinator.specs.declared.node.NodeFault.TheVariants as faults
use Rattle.coordinator.specs.declared.said.StepAnswer.{StepAnswer}
use Rattle.coordinator.specs.Family.{Family, waiting_for}
use Rattle.coordinator.specs.Hearing.{decision_record, wants_done, record_place}
use Rattle.coordinator.specs.History.{kept_for}
use Rattle.coordinator.specs.Node.{Node, family_in, family_of, is_of, only_of, with_family}
use Rattle.coordinator.specs.NodeCalls.{Applied, RetoldAnswer, applied_by, applies, call_wants, family_for, journaled, refuses, retold_answer, steps_to, wanted_by as wants_by}
use Rattle.coordinator.specs.NodeParts.{IsInSlot}
use Rattle.coordinator.specs.Step.{Stepped, Wanted, Appends, WritesDone, family_step, hears, wanted, wanted_act, wanted_by}
use Rattle.two_phase.specs.Stages as stages
use Rattle.family_step.specs.Asking.{IsAsked}
use Rattle.service_node.specs.Applying.{HasSteppedAt, IsApplied, let_go, released}
use Rattle.service_node.specs.Journaling.{kept_once, once_asked}
use Rattle.service_node.specs.NodeState.{BelongTogether, node_of}
use Rattle.service_node.proofs.Applied.{AppendsDecision, found_once, held_stand, leaves_asked}
use Rattle.service_node.proofs.Asked.{Leaves}
use Rattle.service_node.proofs.Listed.{get_other, get_put}
use Rattle.service_node.proofs.Stands.{AllStand}

-- ---- a family appends decisions alone

a_decision : (f : Family) → is_decision (decision_record f) ≡ true
unfolding decision_record
a_decision f = refl

wants_decisions : (f : Family) → AppendsDecision (wanted_by f)
wants_decisions f = by_first (stages.wants_decision f.completion)
  where
    by_place : (o : Option ℕ) → AppendsDecision (option_map WritesDone o)
    by_place (Some place) = tt
    by_place None = tt

    by_second : (b : Bool) → AppendsDecision (cond b (option_map WritesDone (record_place f.completion)) None)
    by_second true = by_place (record_place f.completion)
    by_second false = tt

    by_first : (b : Bool) → AppendsDecision (cond b (Some (Appends (decision_record f))) (cond (wants_done f) (option_map WritesDone (record_place f.completion)) None))
    by_first true = a_decision f
    by_first false = by_second (wants_done f)

act_wants : (a : Act) (f : Family) → AppendsDecision (wanted_act a f)
act_wants (acts.Answer n h) f = by_waiting (is_some (waiting_for f n))
  where
    by_waiting : (b : Bool) → AppendsDecision (cond b (wanted_by (hears n h f).family) None)
    by_waiting true = wants_decisions (hears n h f).family
    by_waiting false = tt
act_wants (acts.Reread stands) f = tt
act_wants _ f = tt

pub appends_decision : (f : Family) (e : Event) → AppendsDecision (wanted f e)
unfolding wanted
appends_decision f e = by_kept (is_some (kept_for f.entries e.key))
  where
    by_kept : (b : Bool) → AppendsDecision (cond b None (wanted_act e.act f))
    by_kept true = tt
    by_kept false = act_wants e.act f

-- ---- the family of a key is in its slot

pub own_slot : (k : ObjectKey) (n : Node) (f : Family) → family_of k n ≡ Some f → family_in n.families k.slot ≡ Some f
unfolding family_of
own_slot k n f is = by_place (family_in n.families k.slot) is
  where
    by_key : (g : Family) (b : Bool) → cond b (Some g) None ≡ Some f → Some g ≡ Some f
    by_key g true e = e
    by_key g false e = absurd cc

    by_place : (o : Option Family) → option_and_then (only_of k) o ≡ Some f → o ≡ Some f
    by_place (Some g) e = by_key g (is_of k g) e
    by_place None e = absurd cc

-- ---- the node stays whole

module _ {D : Type 0} (wants : Bool) (told : D → Option DiskState) (counts : D → ℕ) (k : ObjectKey) (e : Event) (before after : JournalState D) (held later : Recoveries)
    (families next : List (Option Family)) (last generation : ℕ) (answer : StepAnswer) (words more : List Outward)
    (together : BelongTogether before held families last generation)
    (at : HasSteppedAt wants told counts k.slot e families next before after held later answer words more)
    (sure : before.failed ≡ false → before.doubted ≡ None) where
  abbrev f : Family
  f = at.family

  abbrev asked : Option Wanted
  asked = wanted f e

  abbrev stood : Option Stood
  stood = at.stepped.stood

  abbrev node0 : Node
  node0 = node_of before.service before.found held.records families last generation

  abbrev node1 : Node
  node1 = node_of after.service after.found later.records next last generation

  left : Leaves before after
  left = leaves_asked told counts before after together.own.life_stays asked stood (appends_decision f e) at.stepped.asked

  in_slot : IsInSlot node0 k.slot f
  in_slot = together.whole.families k.slot f at.there

  records_are : later.records ≡ kept_once asked before.failed after.found (let_go asked stood held.records)
  records_are = ap (λ (x : Recoveries). x.records) at.stepped.held_is

  stand : AllStand after.found.standing later.records
  stand = subst (AllStand after.found.standing) (sym records_are)
      (held_stand told counts before after before.failed sure asked stood held.records (appends_decision f e) at.stepped.asked together.whole.held)

  other_families : (slot : ℕ) (g : Family) → family_in next slot ≡ Some g → IsInSlot node1 slot g
  other_families slot g is = elim (cases_eq slot k.slot) [
    | inl same ↦ itself same
    | inr other ↦ another other
  ]
    where
      placed : family_in (set families k.slot (Some at.next)) slot ≡ Some g
      placed = ap (λ (xs : List (Option Family)). family_in xs slot) (sym at.placed) ∙ is

      within : k.slot < length families
      within = slot_within families at.there
        where
          slot_within : (xs : List (Option Family)) → family_in xs k.slot ≡ Some f → k.slot < length xs
          slot_within xs there = by_number xs k.slot there
            where
              by_number : (ys : List (Option Family)) (i : ℕ) → family_in ys i ≡ Some f → i < length ys
              by_number [] i e = absurd cc
              by_number (y ∷ ys) zero e = omega arith
              by_number (y ∷ ys) (suc i) e = let r = by_number ys i e in omega (arith, r)

      key_in : IsInSlot node1 k.slot at.next
      key_in = record {
        of_service = ap (λ (x : ObjectKey). x.service) at.key ∙ in_slot.of_service ∙ sym left.service;
        of_life = ap (λ (x : ObjectKey). x.life) at.key ∙ in_slot.of_life ∙ sym left.life;
        own_slot = ap (λ (x : ObjectKey). x.slot) at.key ∙ in_slot.own_slot;
        given = let same = ap (λ (x : ObjectKey). x.generation) at.key in omega (arith, same, in_slot.given);
      }

      itself : slot ≡ k.slot → IsInSlot node1 slot g
      itself same =
          let there = ap (option_and_then (λ (o : Option Family). o)) (get_put families k.slot (Some at.next) within) in
          let at_slot : family_in (set families k.slot (Some at.next)) k.slot ≡ Some g = subst (λ (i : ℕ). family_in (set families k.slot (Some at.next)) i ≡ Some g) same placed in
          let one : at.next ≡ g = cc in
          subst (λ (i : ℕ). IsInSlot node1 i g) (sym same) (subst (λ (h : Family). IsInSlot node1 k.slot h) one key_in)

      another : (slot ≡ k.slot → ⊥) → IsInSlot node1 slot g
      another other =
          let old = together.whole.families slot g (sym (ap (option_and_then (λ (o : Option Family). o)) (get_other families k.slot slot (Some at.next) other)) ∙ placed) in
          record { of_service = old.of_service ∙ sym left.service; of_life = old.of_life ∙ sym left.life; own_slot = old.own_slot; given = old.given }

  pub stepped_together : BelongTogether after later next last generation
  stepped_together = record {
    whole = record {
      slots = ap (λ (xs : List (Option Family)). length xs) at.placed ∙ length-set families k.slot (Some at.next) ∙ together.whole.slots;
      families = other_families;
      last = together.whole.last;
      numbers = together.whole.numbers;
      held = stand;
    };
    own = record {
      service_is = ap (λ (x : Recoveries). x.service) at.stepped.held_is ∙ together.own.service_is ∙ sym left.service;
      life_is = ap (λ (x : Recoveries). x.life) at.stepped.held_is ∙ together.own.life_is ∙ sym left.life;
      life_stays = left.stays;
    };
  }

  -- ---- the node is the definition's

  abbrev s : Stepped
  s = family_step f e stood

  families_are : next ≡ slice_set families s.family.key.slot (Some s.family)
  families_are =
      at.placed
      ∙ ap (λ (g : Family). slice_set families k.slot (Some g)) at.stepped.family_is
      ∙ ap (λ (i : ℕ). slice_set families i (Some s.family)) (sym slot_is)
    where
      slot_is : s.family.key.slot ≡ k.slot
      slot_is = ap (λ (g : Family). g.key.slot) (sym at.stepped.family_is) ∙ ap (λ (x : ObjectKey). x.slot) at.key ∙ in_slot.own_slot

  by_asked : (o : Option Wanted) → IsAsked told counts o before after stood → (failed : Bool) → before.failed ≡ failed
      → later.records ≡ kept_once o failed after.found (let_go o stood held.records)
      → node1 ≡ once_asked o failed after.found (released o stood (with_family s.family (record node0 { found = journaled o stood before.found })))
  by_asked None a failed is records = λ i. record {
    service = left.service i;
    found = (ap (λ (j : JournalState D). j.found) a.0) i;
    recovered = records i;
    families = families_are i;
    last = last;
    generation = generation;
  }
  by_asked (Some w) a true is records = λ i. record {
    service = left.service i;
    found = after.found;
    recovered = records i;
    families = families_are i;
    last = last;
    generation = generation;
  }
  by_asked (Some w) a false is records = λ i. record {
    service = left.service i;
    found = (found_once told counts before after (sure is) (Some w) stood a) i;
    recovered = records i;
    families = families_are i;
    last = last;
    generation = generation;
  }

  -- ---- and so is the call

  module _ (new : retold_answer e.act ≡ None) (own : family_of k node0 ≡ Some f) where
    for_family : family_for k e node0 ≡ Some f
    for_family = ap (λ (o : Option RetoldAnswer). if is_some o then None else family_of k node0) new ∙ own

    wants_it : call_wants k e node0 ≡ asked
    unfolding call_wants
    wants_it = ap (λ (o : Option Family). wants_by o e node0) for_family ∙ ap (λ (b : Bool). if b then asked else None) at.fits

    applies_it : applies k e stood node0 ≡ steps_to node0 f e stood s
    unfolding applies
    applies_it =
        ap (λ (o : Option Family). applied_by o k e stood node0) for_family
        ∙ ap (λ (b : Bool). if b then steps_to node0 f e stood s else refuses faults.NoResources node0) at.fits

    pub applied : IsApplied wants told counts k e (record { node = node0; journal = before }) (record { node = node1; journal = after }) (Ok answer) words more
    applied = record {
      stood = stood;
      asked = subst (λ (o : Option Wanted). IsAsked told counts o before after stood) (sym wants_it) at.stepped.asked;
      caused = at.stepped.caused;
      node_is =
          by_asked asked at.stepped.asked before.failed refl records_are
          ∙ ap (λ (o : Option Wanted). once_asked o before.failed after.found (released o stood (steps_to node0 f e stood s).node)) (sym wants_it)
          ∙ ap (λ (x : Applied). once_asked (call_wants k e node0) before.failed after.found (released (call_wants k e node0) stood x.node)) (sym applies_it);
      answer_is = ap (λ (a : StepAnswer). Ok a) at.stepped.answer_is ∙ ap (λ (x : Applied). x.answer) (sym applies_it);
      words_are = at.stepped.words_are ∙ ap (λ (x : Applied). words ++ x.words) (sym applies_it);
    }
