-- A call that a family hears makes of a node what the definition says, or nothing.
use Rattle.std.proofs.Common.{◌≡◌, ◌∙◌, ◌⊎◌, ℕ, inl, inr, Bool, true, false, ◌&&◌, if◌then◌else◌, List, ◌++◌, Option, Some, None, Result, Ok, Err, IfOk, IfErr, is_none, is_some, refl, sym, ap, subst}
use Rattle.std.specs.Option.{option_map}
use Rattle.std.proofs.lemmas.List.{append-nil}
use Rattle.ior_refs.specs.declared.key.ObjectKey.{ObjectKey}
use Rattle.ots_model.specs.declared.tree.Outward.{Outward}
use Rattle.ots_outside.specs.Disk.{DiskState}
use Rattle.decision_journal.specs.State.{JournalState}
use Rattle.recovery_coord.specs.Held.{Recoveries}
use Rattle.coordinator.specs.declared.event.Event.{Event}
use Rattle.coordinator.specs.declared.node.NodeFault.{NodeFault}
use Rattle.coordinator.specs.declared.node.NodeFault.TheVariants as faults
use Rattle.coordinator.specs.declared.said.StepAnswer.{StepAnswer}
use Rattle.coordinator.specs.Family.{Family}
use Rattle.coordinator.specs.Node.{Node, family_in, family_of}
use Rattle.coordinator.specs.NodeCalls.{Applied, RetoldAnswer, applied_by, applies, call_wants, family_for, refuses, retold_answer, steps_to, wanted_by}
use Rattle.coordinator.specs.Step.{Wanted, family_step, wanted}
use Rattle.family_step.specs.Asking.{IsAsked}
use Rattle.service_node.specs.Applying.{HasSteppedAt, IsApplied, IsUnapplied, IsUnmovedAt, released, takes_by}
use Rattle.service_node.specs.Journaling.{once_asked}
use Rattle.service_node.specs.NodeState.{BelongTogether, NodeState, node_of}
use Rattle.service_node.proofs.Applies.{applied, own_slot, stepped_together}

-- ---- which family hears it

pub some_map : {A B : Type 0} (f : A → B) (o : Option A) → is_some (option_map f o) ≡ is_some o
some_map f (Some x) = refl
some_map f None = refl

pub none_map : {A B : Type 0} (f : A → B) (o : Option A) → is_none (option_map f o) ≡ is_none o
none_map f (Some x) = refl
none_map f None = refl

pub none_where : {A : Type 0} (o : Option A) → is_some o ≡ false → o ≡ None
none_where None none = refl
none_where (Some x) none = absurd cc

pub hears_either : (o : Option RetoldAnswer) (f : Option Family) → (is_none o && is_some f) ≡ is_some (if is_some o then None else f)
hears_either (Some a) f = refl
hears_either None f = refl

not_retold : (o : Option RetoldAnswer) (f : Option Family) → is_some (if is_some o then None else f) ≡ true → o ≡ None
not_retold (Some a) f hears = absurd cc
not_retold None f hears = refl

hearer_there : (o : Option RetoldAnswer) (f : Option Family) → is_some (if is_some o then None else f) ≡ true → is_some f ≡ true
hearer_there (Some a) f hears = absurd cc
hearer_there None f hears = hears

-- it is in the slot of the key
pub slot_has : (k : ObjectKey) (e : Event) (n : Node) → is_some (family_for k e n) ≡ true → is_some (family_in n.families k.slot) ≡ true
slot_has k e n hears = by_family (family_of k n) refl (hearer_there (retold_answer e.act) (family_of k n) hears)
  where
    by_family : (o : Option Family) → family_of k n ≡ o → is_some o ≡ true → is_some (family_in n.families k.slot) ≡ true
    by_family None is some = absurd cc
    by_family (Some g) is some = ap is_some (own_slot k n g is)

module _ {D : Type 0} (wants : Bool) (told : D → Option DiskState) (counts : D → ℕ) (k : ObjectKey) (e : Event) (before after : JournalState D) (held later : Recoveries)
    (families next : List (Option Family)) (last generation : ℕ) (words more : List Outward)
    (together : BelongTogether before held families last generation) (sure : before.failed ≡ false → before.doubted ≡ None) where
  abbrev At : StepAnswer → Type 0
  At answer = HasSteppedAt wants told counts k.slot e families next before after held later answer words more

  abbrev Unmoved : NodeFault → Type 0
  Unmoved fault = IsUnmovedAt k.slot e families next before after held later fault words more

  -- ---- the node stays whole

  pub still_together : (r : Result StepAnswer NodeFault) → IfOk r At → IfErr r Unmoved → BelongTogether after later next last generation
  still_together (Ok answer) at unmoved =
      stepped_together wants told counts k e before after held later families next last generation answer words more together at sure
  still_together (Err fault) at unmoved =
      subst (λ (j : JournalState D). BelongTogether j later next last generation) (sym unmoved.journal)
      (subst (λ (h : Recoveries). BelongTogether before h next last generation) (sym unmoved.recovered)
      (subst (λ (fs : List (Option Family)). BelongTogether before held fs last generation) (sym unmoved.families_are) together))

  -- ---- the call is the definition's

  abbrev node0 : Node
  node0 = node_of before.service before.found held.records families last generation

  abbrev state0 : NodeState D
  state0 = record { node = node0; journal = before }

  abbrev state1 : NodeState D
  state1 = record { node = node_of after.service after.found later.records next last generation; journal = after }

  same : (fault : NodeFault) → Unmoved fault → state1 ≡ state0
  same fault unmoved = λ i. record {
    node = node_of (unmoved.journal i).service (unmoved.journal i).found (unmoved.recovered i).records (unmoved.families_are i) last generation;
    journal = unmoved.journal i;
  }

  module _ (hears : is_some (family_for k e node0) ≡ true) where
    new : retold_answer e.act ≡ None
    new = not_retold (retold_answer e.act) (family_of k node0) hears

    own : (f : Family) → family_in families k.slot ≡ Some f → family_of k node0 ≡ Some f
    own f there = by_family (family_of k node0) refl (hearer_there (retold_answer e.act) (family_of k node0) hears)
      where
        by_family : (o : Option Family) → family_of k node0 ≡ o → is_some o ≡ true → family_of k node0 ≡ Some f
        by_family None is some = absurd cc
        by_family (Some g) is some = is ∙ sym (own_slot k node0 g is) ∙ there

    for_family : (f : Family) → family_in families k.slot ≡ Some f → family_for k e node0 ≡ Some f
    for_family f there = ap (λ (o : Option RetoldAnswer). if is_some o then None else family_of k node0) new ∙ own f there

    -- its history is full
    module _ (unmoved : Unmoved faults.NoResources) where
      abbrev f : Family
      f = unmoved.family

      wants_nothing : call_wants k e node0 ≡ None
      unfolding call_wants
      wants_nothing = ap (λ (o : Option Family). wanted_by o e node0) (for_family f unmoved.there) ∙ ap (λ (b : Bool). if b then wanted f e else None) unmoved.cause

      refused : applies k e None node0 ≡ refuses faults.NoResources node0
      unfolding applies
      refused =
          ap (λ (o : Option Family). applied_by o k e None node0) (for_family f unmoved.there)
          ∙ ap (λ (b : Bool). if b then steps_to node0 f e None (family_step f e None) else refuses faults.NoResources node0) unmoved.cause

      full : IsApplied wants told counts k e state0 state1 (Err faults.NoResources) words more
      full = record {
        stood = None;
        asked = subst (λ (o : Option Wanted). IsAsked told counts o before after None) (sym wants_nothing) (unmoved.journal, refl);
        caused = tt;
        node_is =
            ap (λ (s : NodeState D). s.node) (same faults.NoResources unmoved)
            ∙ ap (λ (x : Applied). x.node) (sym refused)
            ∙ ap (λ (o : Option Wanted). once_asked o before.failed after.found (released o None (applies k e None node0).node)) (sym wants_nothing);
        answer_is = ap (λ (x : Applied). x.answer) (sym refused);
        words_are = unmoved.unsaid ∙ sym (append-nil words) ∙ ap (λ (x : Applied). words ++ x.words) (sym refused);
      }

    by_fault : (fault : NodeFault) → Unmoved fault
        → IsApplied wants told counts k e state0 state1 (Err fault) words more ⊎ IsUnapplied k e state0 state1 (Err fault) words more
    by_fault faults.NoResources unmoved = inl (full unmoved)
    by_fault faults.Memory unmoved = inr (record {
      wanted = ap (λ (o : Option Family). takes_by o e node0) (for_family unmoved.family unmoved.there) ∙ unmoved.cause;
      same = same faults.Memory unmoved;
      fault = refl;
      unsaid = unmoved.unsaid;
    })
    by_fault faults.ObjectNotExist unmoved = absurd unmoved.cause
    by_fault faults.NoImplement unmoved = absurd unmoved.cause
    by_fault (faults.Journal fault) unmoved = absurd unmoved.cause

    pub returned : (r : Result StepAnswer NodeFault) → IfOk r At → IfErr r Unmoved
        → IsApplied wants told counts k e state0 state1 r words more ⊎ IsUnapplied k e state0 state1 r words more
    returned (Ok answer) at unmoved =
        inl (applied wants told counts k e before after held later families next last generation answer words more together at sure new (own at.family at.there))
    returned (Err fault) at unmoved = by_fault fault unmoved
