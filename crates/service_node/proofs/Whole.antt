-- The parts of a node stay whole.
use Rattle.std.proofs.Common.{◌≡◌, ◌∙◌, ℕ, zero, suc, ◌+◌, ◌<◌, inl, inr, List, set, replicate, Option, Some, None, sym, ap, subst, arith}
use Rattle.std.specs.Prelude.{IfSome}
use Rattle.std.specs.List.{filter_map}
use Rattle.std.specs.Option.{option_and_then}
use Rattle.std.proofs.lemmas.Bool.{cases_eq}
use Rattle.std.proofs.lemmas.List.{length-set, length-replicate}
use Rattle.ior_refs.specs.declared.key.ObjectKey.{ObjectKey}
use Rattle.decision_journal.specs.Journal.{Found, with_record}
use Rattle.decision_journal.specs.State.{JournalState}
use Rattle.decision_journal.specs.declared.record.JournalRecord.{JournalRecord}
use Rattle.recovery_coord.specs.Held.{Recoveries, loaded}
use Rattle.recovery_coord.specs.declared.held.Held.{Held}
use Rattle.coordinator.specs.Family.{Family}
use Rattle.coordinator.specs.Limits.{slot_limit, last_slot, generation_limit}
use Rattle.coordinator.specs.Node.{Node, family_in, life, loaded_node, no_families}
use Rattle.coordinator.specs.NodeParts.{IsInSlot, IsWhole}
use Rattle.coordinator.specs.NodeSlots.{next_key, takes_over, with_new}
use Rattle.service_node.specs.NodeState.{BelongTogether, node_of}
use Rattle.service_node.proofs.Listed.{get_put, get_other}
use Rattle.service_node.proofs.Stands.{AllStand, loaded_stand, over_stand}

-- ---- after a load

none_in : (n slot : ℕ) (f : Family) → family_in (replicate n None) slot ≡ Some f → ⊥
none_in zero slot f e = cc
none_in (suc n) zero f e = cc
none_in (suc n) (suc slot) f e = none_in n slot f e

pub whole_loaded : (service : ℕ) (found : Found) → IsWhole (loaded_node service found)
whole_loaded service found = record {
  slots = let none : Option Family = None in length-replicate slot_limit none;
  families = λ slot f e. absurd (none_in slot_limit slot f e);
  last = omega arith;
  numbers = omega arith;
  held = loaded_stand found.standing;
}

-- ---- other records

pub whole_with_records : (n : Node) (records : List Held) → IsWhole n → AllStand n.found.standing records → IsWhole (record n { recovered = records })
whole_with_records n records whole held = record {
  slots = whole.slots;
  families = λ slot f e. let old = whole.families slot f e in record { of_service = old.of_service; of_life = old.of_life; own_slot = old.own_slot; given = old.given };
  last = whole.last;
  numbers = whole.numbers;
  held = held;
}

-- ---- a family begins

module _ (n : Node) (slot : ℕ) (f : Family) where
  abbrev later : Node
  later = with_new (λ (k : ObjectKey). f) slot n

  pub whole_with_new : IsWhole n → slot < slot_limit → n.generation < generation_limit → f.key ≡ next_key n slot → IsWhole later
  whole_with_new whole within number key = record {
    slots = length-set n.families slot (Some f) ∙ whole.slots;
    families = each;
    last = within;
    numbers = omega arith;
    held = over_stand n.found (family_in n.families slot) n.recovered whole.held;
  }
    where
      new_one : IsInSlot later slot f
      new_one = record {
        of_service = ap (λ (k : ObjectKey). k.service) key;
        of_life = ap (λ (k : ObjectKey). k.life) key;
        own_slot = ap (λ (k : ObjectKey). k.slot) key;
        given = let e = ap (λ (k : ObjectKey). k.generation) key in omega (arith, e);
      }

      old_one : (at : ℕ) (g : Family) → IsInSlot n at g → IsInSlot later at g
      old_one at g old = record {
        of_service = old.of_service;
        of_life = old.of_life;
        own_slot = old.own_slot;
        given = omega (arith, old.given);
      }

      each : (at : ℕ) (g : Family) → family_in (set n.families slot (Some f)) at ≡ Some g → IsInSlot later at g
      each at g e = elim (cases_eq at slot) [
        | inl same ↦ let there = get_put n.families slot (Some f) (omega (arith, whole.slots, within)) in
            let is : family_in (set n.families slot (Some f)) slot ≡ Some f = ap (option_and_then (λ (o : Option Family). o)) there in
            let at_slot : family_in (set n.families slot (Some f)) slot ≡ Some g = subst (λ (k : ℕ). family_in (set n.families slot (Some f)) k ≡ Some g) same e in
            let fg : f ≡ g = cc in
            subst (λ (k : ℕ). IsInSlot later k g) (sym same) (subst (λ (h : Family). IsInSlot later slot h) fg new_one)
        | inr other ↦ old_one at g (whole.families at g (sym (ap (option_and_then (λ (o : Option Family). o)) (get_other n.families slot at (Some f) other)) ∙ e))
      ]

-- ---- what belongs together

module _ {D : Type 0} (journal : JournalState D) where
  pub loaded_together : (recovered : Recoveries) (families : List (Option Family)) → recovered.service ≡ journal.service → recovered.life ≡ journal.found.life
      → recovered.records ≡ filter_map loaded journal.found.standing → families ≡ no_families → journal.doubted ≡ None
      → BelongTogether journal recovered families last_slot 0
  loaded_together recovered families service life records none sure = record {
    whole =
        subst (λ (fs : List (Option Family)). IsWhole (node_of journal.service journal.found recovered.records fs last_slot 0)) (sym none)
        (subst (λ (rs : List Held). IsWhole (node_of journal.service journal.found rs no_families last_slot 0)) (sym records) (whole_loaded journal.service journal.found));
    own = record {
      service_is = service;
      life_is = life;
      life_stays = subst (λ (o : Option JournalRecord). IfSome o (λ r. (place : ℕ) → (with_record journal.found place r).life ≡ journal.found.life)) (sym sure) tt;
    };
  }

  pub records_together : (held later : Recoveries) (families : List (Option Family)) (last generation : ℕ) → BelongTogether journal held families last generation
      → later ≡ record held { records = later.records } → AllStand journal.found.standing later.records → BelongTogether journal later families last generation
  records_together held later families last generation together same stand = record {
    whole = whole_with_records (node_of journal.service journal.found held.records families last generation) later.records together.whole stand;
    own = record {
      service_is = ap (λ (x : Recoveries). x.service) same ∙ together.own.service_is;
      life_is = ap (λ (x : Recoveries). x.life) same ∙ together.own.life_is;
      life_stays = together.own.life_stays;
    };
  }

  pub begun_together : (held later : Recoveries) (families after : List (Option Family)) (last generation slot : ℕ) (f : Family)
      → BelongTogether journal held families last generation → slot < slot_limit → generation < generation_limit
      → f.key ≡ next_key (node_of journal.service journal.found held.records families last generation) slot
      → later ≡ record held { records = takes_over journal.found (family_in families slot) held.records } → after ≡ set families slot (Some f)
      → BelongTogether journal later after slot (generation + 1)
  begun_together held later families after last generation slot f together within number key later_is after_is = record {
    whole =
        subst (λ (fs : List (Option Family)). IsWhole (node_of journal.service journal.found later.records fs slot (generation + 1))) (sym after_is)
        (subst (λ (rs : List Held). IsWhole (node_of journal.service journal.found rs (set families slot (Some f)) slot (generation + 1))) (sym (ap (λ (x : Recoveries). x.records) later_is))
        (whole_with_new (node_of journal.service journal.found held.records families last generation) slot f together.whole within number key));
    own = record {
      service_is = ap (λ (x : Recoveries). x.service) later_is ∙ together.own.service_is;
      life_is = ap (λ (x : Recoveries). x.life) later_is ∙ together.own.life_is;
      life_stays = together.own.life_stays;
    };
  }
