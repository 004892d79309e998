-- Nodes stay sound, and forget no decision.
use Rattle.std.proofs.Common.{◌≡◌, ◌≢◌, ◌⊎◌, ◌==◌, ◌&&◌, inl, inr, ℕ, ◌+◌, ◌<◌, zero, suc, List, [], ◌∷◌, length, map, replicate, take, drop, Bool, true, false, if◌then◌else◌, Option, Some, None, Ok, min, ◌-◌, Contains, position, is_some, refl, ap, sym, subst, ◌∙◌, arith}
use Rattle.std.specs.Prelude.{nat_lt, get_or, slice_set}
use Rattle.std.specs.List.{find}
use Rattle.std.specs.Option.{option_and_then, option_map, option_or}
use Rattle.std.proofs.lemmas.Bool.Decides.{nat_tests}
use Rattle.std.proofs.lemmas.List.{length-replicate, get_or-take, get_or-drop, length-take, length-drop}
use Rattle.std.proofs.lemmas.List.Quantifiers.{position-Some}
use Rattle.std.proofs.lemmas.Option.{slice_get-get_or}
use Rattle.ior_refs.specs.declared.key.ObjectKey.{ObjectKey}
use Rattle.ots_model.specs.declared.completion.CallNumber.{CallNumber}
use Rattle.ots_model.specs.declared.completion.Stood.{Stood}
use Rattle.ots_model.specs.declared.completion.Stood.TheVariants as answers
use Rattle.ots_model.specs.declared.tree.Heard.{Heard}
use Rattle.decision_journal.specs.Journal.{Found, found_in, is_decision, is_decision_at}
use Rattle.decision_journal.specs.declared.journal.Standing.{Standing}
use Rattle.decision_journal.specs.declared.record.JournalRecord.{JournalRecord}
use Rattle.recovery_coord.specs.Held.{is_held, taken}
use Rattle.recovery_coord.specs.Hearing.{records_after, completed}
use Rattle.recovery_coord.specs.declared.held.Held.{Held}
use Rattle.two_phase.specs.LawsOfReached.{TreeOutcomeStays}
use Rattle.two_phase.specs.Stages as stages
use Rattle.coordinator.specs.declared.event.Event.{Event}
use Rattle.coordinator.specs.declared.node.NodeFault.TheVariants as faults
use Rattle.coordinator.specs.declared.said.Said.{Said}
use Rattle.coordinator.specs.declared.said.Said.TheVariants as said
use Rattle.coordinator.specs.Family.{Family, new_family}
use Rattle.coordinator.specs.Hearing.{record_place}
use Rattle.coordinator.specs.History.{has_room}
use Rattle.coordinator.specs.Limits.{slot_limit, generation_limit}
use Rattle.coordinator.specs.Node.{Node, life, load, in_next_life, family_in, with_family, is_of, only_of, family_of}
use Rattle.coordinator.specs.NodeCalls.{RetoldAnswer, retold_answer, journaled, steps_to, by_family, refuses, replies, records_with, done_wanted, records_hear, hears_record, by_records, answers_recovered, family_for, applied_by, applies, family_wants, wanted_by, call_wants}
use Rattle.coordinator.specs.NodeLaws.{NodesKeepNumbers, by_call, still, further}
use Rattle.coordinator.specs.NodeParts.{IsInSlot}
use Rattle.coordinator.specs.NodeRecords.{record_of, record_says}
use Rattle.coordinator.specs.NodeSlots.{is_free, free_behind, free_up_to, free_slot, left_record, held_for, takes_over, next_key, with_new, makes_no_family, makes_in, makes, creates, deadline_after}
use Rattle.coordinator.specs.NodeTick.{tick_at, tick_of, ticked, takes_all_over, passes_time, tells_again, ticks}
use Rattle.coordinator.specs.Step.{quiet, family_step, Appends, WritesDone, wanted, is_finished}
use Rattle.family_laws.specs.Sound.{IsSoundFamily}
use Rattle.family_laws.specs.SoundNode.{IsDecisionOf, is_family_decision, HasFamilyOf, IsSoundNode, IsBehind, NodesStaySound}
use Rattle.family_laws.specs.LawsBelow.{Laws}
use Rattle.family_laws.proofs.Appended.{appended_own}
use Rattle.family_laws.proofs.Slots.{family_other, family_same, family_put, family_within, set_length, in_slot_kept, own_kept, family_ticked, map_length}
use Rattle.family_laws.proofs.Standing.{found_order, journaled_order, IsNew, journaled_new, done_gone, held_taken, held_without, held_retold, held_heard, held_decision, held_loaded, found_at, decision_passes}
use Rattle.family_laws.proofs.Steps.{families_stay_sound, new_sound}
use Rattle.family_laws.proofs.StepsTell.{families_number_words, step_place}
use Rattle.family_laws.proofs.Trees.{same_or_not}

-- ---- a load

pub none_in : (n slot : ℕ) (f : Family) → family_in (replicate n None) slot ≡ Some f → ⊥
none_in zero slot f e = absurd (cc e)
none_in (suc n) zero f e = absurd (cc e)
none_in (suc n) (suc slot) f e = none_in n slot f e

load_sound : (service : ℕ) (records : List JournalRecord) → IsSoundNode (load service records)
load_sound service records = record {
  slots = length-replicate {A = Option Family} slot_limit None;
  families = λ slot f e. absurd (none_in slot_limit slot f e);
  last = omega arith;
  numbers = omega arith;
  order = found_order (in_next_life records);
  decisions = λ s c h. inl (held_loaded (found_in (in_next_life records)).standing s c h);
}

-- ---- a family is made

-- a slot that is free has no family, or a finished one
record IsFreeSlot (fs : List (Option Family)) (slot : ℕ) : Type 0 where
  within : slot < length fs
  free : is_free (get_or fs slot None) ≡ true

behind_free : (last : ℕ) (fs : List (Option Family)) (slot : ℕ) → free_behind last fs ≡ Some slot → IsFreeSlot fs slot
behind_free last fs slot e = go (position is_free (drop (last + 1) fs)) refl e
  where
    go : (o : Option ℕ) → position is_free (drop (last + 1) fs) ≡ o → option_map (λ i. last + 1 + i) o ≡ Some slot → IsFreeSlot fs slot
    go None i x = absurd (cc x)
    go (Some at) i x =
        let p = position-Some is_free (drop (last + 1) fs) at None i in
        let l : length (drop (last + 1) fs) ≡ length fs - (last + 1) = length-drop (last + 1) fs in
        let w = p.0 in
        let is : last + 1 + at ≡ slot = cc x in
        record {
          within = omega (arith, l, w, is);
          free = subst (λ (k : ℕ). is_free (get_or fs k None) ≡ true) is (ap (λ (y : Option Family). is_free y) (sym (get_or-drop (last + 1) fs at None)) ∙ p.1);
        }

up_to_free : (last : ℕ) (fs : List (Option Family)) (slot : ℕ) → free_up_to last fs ≡ Some slot → IsFreeSlot fs slot
up_to_free last fs slot e =
    let p = position-Some is_free (take (last + 1) fs) slot None e in
    let l : length (take (last + 1) fs) ≡ min (last + 1) (length fs) = length-take (last + 1) fs in
    let w = p.0 in
    record {
      within = omega (arith, l, w);
      free = ap (λ (y : Option Family). is_free y) (sym (get_or-take (last + 1) fs slot None (omega (arith, l, w)))) ∙ p.1;
    }

slot_free : (n : Node) (slot : ℕ) → free_slot n ≡ Some slot → IsFreeSlot n.families slot
unfolding free_slot
slot_free n slot e = go (free_behind n.last n.families) refl e
  where
    go : (o : Option ℕ) → free_behind n.last n.families ≡ o → option_or o (free_up_to n.last n.families) ≡ Some slot → IsFreeSlot n.families slot
    go (Some at) i x = behind_free n.last n.families slot (i ∙ x)
    go None i x = up_to_free n.last n.families slot x

finished_there : (fs : List (Option Family)) (slot : ℕ) (f : Family) → IsFreeSlot fs slot → family_in fs slot ≡ Some f → is_finished f ≡ true
finished_there fs slot f free e =
    go (get_or fs slot None) (sym (ap (λ (o : Option (Option Family)). option_and_then (λ (x : Option Family). x) o) (slice_get-get_or fs slot None free.within)) ∙ e) free.free
  where
    go : (o : Option Family) → o ≡ Some f → is_free o ≡ true → is_finished f ≡ true
    go None i h = absurd (cc i)
    go (Some g) i h = let j : g ≡ f = cc i in subst (λ (x : Family). is_finished x ≡ true) j h

-- the decision of a finished family goes on without it
over_held : (found : Found) (f : Family) (s : Standing) (xs : List Held) → is_finished f ≡ true → stages.record_place f.completion ≡ Some s.place → Contains found.standing s → is_family_decision s.item ≡ true
    → is_held s.place (takes_over found (Some f) xs) ≡ true
over_held found f s xs fin at c h =
    let t = found_at s.place found.standing s c (decision_passes s.place s refl h) in
    let is : left_record found f ≡ Some t.0 = left t.0 t.1 in
    let same : t.0.place ≡ s.place = place_of t.0 t.2 in
    ap (λ (o : Option Standing). is_held s.place (taken (option_and_then (held_for f) o) xs)) is
    ∙ subst (λ (p : ℕ). is_held p (taken (held_for f t.0) xs) ≡ true) same
    (held_decision t.0 (stages.pending_commits f.completion) (stages.pending_forgets f.completion) xs (decision_of t.0 t.2))
  where
    left : (t : Standing) → find (is_decision_at s.place) found.standing ≡ Some t → left_record found f ≡ Some t
    left t e =
        ap (λ (b : Bool). if b then option_and_then (λ place. find (is_decision_at place) found.standing) (record_place f.completion) else None) fin
        ∙ ap (λ (o : Option ℕ). option_and_then (λ place. find (is_decision_at place) found.standing) o) at ∙ e

    first : (a b : Bool) → (a && b) ≡ true → a ≡ true
    first true b h = refl
    first false b h = absurd (cc h)

    second : (a b : Bool) → (a && b) ≡ true → b ≡ true
    second true b h = h
    second false b h = absurd (cc h)

    place_of : (t : Standing) → is_decision_at s.place t ≡ true → t.place ≡ s.place
    place_of t e = let l : (t.place == s.place) ≡ true = first (t.place == s.place) (is_decision t.item) e in grind (arith, l)

    decision_of : (t : Standing) → is_decision_at s.place t ≡ true → is_decision t.item ≡ true
    decision_of t e = second (t.place == s.place) (is_decision t.item) e

held_over : (found : Found) (o : Option Family) (place : ℕ) (xs : List Held) → is_held place xs ≡ true → is_held place (takes_over found o xs) ≡ true
held_over found None place xs h = h
held_over found (Some f) place xs h = held_taken place (option_and_then (held_for f) (left_record found f)) xs h

new_sound_node : (make : ObjectKey → Family) → ((key : ObjectKey) → ((make key).key ≡ key) × IsSoundFamily (make key)) → (slot : ℕ) (n : Node) → IsFreeSlot n.families slot → n.generation < generation_limit
    → IsSoundNode n → IsSoundNode (with_new make slot n)
new_sound_node make made slot n free few h = record {
  slots = set_length n.families slot (Some (make (next_key n slot))) ∙ h.slots;
  families = λ other f e. elim (same_or_not other slot) [
    | inl i ↦ let is : make (next_key n slot) ≡ f = cc (family_same n.families slot (Some (make (next_key n slot))) f (rw i at e)) in rw i (subst (λ (g : Family). IsInSlot (with_new make slot n) slot g × IsSoundFamily g) is (placed, (made (next_key n slot)).1))
    | inr u ↦
        let old = h.families other f (sym (family_other n.families slot other (Some (make (next_key n slot))) u) ∙ e) in
        (in_slot_kept n (with_new make slot n) other f f refl refl (omega arith) refl old.0, old.1)
  ];
  last = let w = free.within in let l = h.slots in omega (arith, w, l);
  numbers = omega (arith, few);
  order = h.order;
  decisions = λ s c d. decide s c d (h.decisions s c d);
}
  where
    placed : IsInSlot (with_new make slot n) slot (make (next_key n slot))
    placed =
        let key = (made (next_key n slot)).0 in
        record {
          of_service = ap (λ (k : ObjectKey). k.service) key;
          of_life = ap (λ (k : ObjectKey). k.life) key;
          own_slot = ap (λ (k : ObjectKey). k.slot) key;
          given = let e : (make (next_key n slot)).key.generation ≡ n.generation + 1 = ap (λ (k : ObjectKey). k.generation) key in omega (arith, e);
        }

    by_family_there : (s : Standing) → Contains n.found.standing s → is_family_decision s.item ≡ true → (x : HasFamilyOf n.families s) → (x.slot ≡ slot) ⊎ (x.slot ≢ slot)
        → (is_held s.place (takes_over n.found (family_in n.families slot) n.recovered) ≡ true) ⊎ HasFamilyOf (slice_set n.families slot (Some (make (next_key n slot)))) s
    by_family_there s c d x (inl i) =
        let there : family_in n.families slot ≡ Some x.family = rw i at x.there in
        inl (rw there (over_held n.found x.family s n.recovered (finished_there n.families slot x.family free there) x.decided c d))
    by_family_there s c d x (inr u) = inr (record {
      slot = x.slot;
      family = x.family;
      there = family_other n.families slot x.slot (Some (make (next_key n slot))) u ∙ x.there;
      own = x.own;
      decided = x.decided;
    })

    decide : (s : Standing) → Contains n.found.standing s → is_family_decision s.item ≡ true → (is_held s.place n.recovered ≡ true) ⊎ HasFamilyOf n.families s
        → (is_held s.place (takes_over n.found (family_in n.families slot) n.recovered) ≡ true) ⊎ HasFamilyOf (slice_set n.families slot (Some (make (next_key n slot)))) s
    decide s c d (inl k) = inl (held_over n.found (family_in n.families slot) s.place n.recovered k)
    decide s c d (inr x) = by_family_there s c d x (same_or_not x.slot slot)

made_sound : Laws → (now seconds : ℕ) (n : Node) → IsSoundNode n → IsSoundNode (creates now seconds n).node
unfolding creates makes
made_sound law now seconds n h = by_slot (free_slot n) refl
  where
    make : ObjectKey → Family
    make key = new_family key (deadline_after now seconds)

    by_number : (slot : ℕ) → IsFreeSlot n.families slot → (t : Bool) → nat_lt n.generation generation_limit ≡ t
        → IsSoundNode (if t then record { node = with_new make slot n; answer = Ok (next_key n slot) } else makes_no_family n).node
    by_number slot free true e = new_sound_node make (λ key. (refl, new_sound law key (deadline_after now seconds))) slot n free (grind (arith, nat_tests, e)) h
    by_number slot free false e = h

    by_slot : (o : Option ℕ) → free_slot n ≡ o → IsSoundNode (makes_in o make n).node
    by_slot None e = h
    by_slot (Some slot) e = by_number slot (slot_free n slot e) (nat_lt n.generation generation_limit) refl

-- ---- time passes

-- a step keeps what a family is
record IsLater (f g : Family) : Type 0 where
  key : g.key ≡ f.key
  sound : IsSoundFamily f → IsSoundFamily g
  place : (p : ℕ) → stages.record_place f.completion ≡ Some p → stages.record_place g.completion ≡ Some p

step_later : Laws → (f : Family) (e : Event) (stood : Option Stood) → IsLater f (family_step f e stood).family
step_later law f e stood = record {
  key = families_number_words.key f e stood;
  sound = λ h. (families_stay_sound law).steps f e stood h;
  place = step_place f e stood;
}

tick_later : Laws → (now : ℕ) (f : Family) → IsLater f (tick_of now f).family
tick_later law now f = go (has_room f.entries (tick_at now))
  where
    go : (t : Bool) → IsLater f (if t then family_step f (tick_at now) None else quiet said.Plain f).family
    go true = step_later law f (tick_at now) None
    go false = record { key = refl; sound = λ h. h; place = λ p e. e }

all_over : (found : Found) (fs : List (Option Family)) (place : ℕ) (xs : List Held) → is_held place xs ≡ true → is_held place (takes_all_over found fs xs) ≡ true
all_over found [] place xs h = h
all_over found (o ∷ fs) place xs h = all_over found fs place (takes_over found o xs) (held_over found o place xs h)

ticked_sound : Laws → (now : ℕ) (n : Node) → IsSoundNode n → IsSoundNode (ticks now n).node
unfolding ticks
ticked_sound law now n h = record {
  slots = map_length now n.families ∙ h.slots;
  families = λ slot f e. placed slot f (family_in n.families slot) refl (sym (family_ticked now n.families slot) ∙ e);
  last = h.last;
  numbers = h.numbers;
  order = h.order;
  decisions = λ s c d. decide s (h.decisions s c d);
}
  where
    later : Node
    later = tells_again (passes_time now n)

    placed : (slot : ℕ) (f : Family) (o : Option Family) → family_in n.families slot ≡ o → ticked now o ≡ Some f → IsInSlot later slot f × IsSoundFamily f
    placed slot f None i e = absurd (cc e)
    placed slot f (Some g) i e =
        let old = h.families slot g i in
        let step = tick_later law now g in
        let is : (tick_of now g).family ≡ f = cc e in
        subst (λ (x : Family). IsInSlot later slot x × IsSoundFamily x) is (in_slot_kept n later slot g (tick_of now g).family refl refl (omega arith) step.key old.0, step.sound old.1)

    decide : (s : Standing) → (is_held s.place n.recovered ≡ true) ⊎ HasFamilyOf n.families s → (is_held s.place later.recovered ≡ true) ⊎ HasFamilyOf (map (ticked now) n.families) s
    decide s (inl k) = inl (held_retold s.place (takes_all_over n.found (map (ticked now) n.families) n.recovered) ∙ all_over n.found (map (ticked now) n.families) s.place n.recovered k)
    decide s (inr x) =
        let step = tick_later law now x.family in
        inr (record {
          slot = x.slot;
          family = (tick_of now x.family).family;
          there = family_ticked now n.families x.slot ∙ ap (λ (o : Option Family). ticked now o) x.there;
          own = own_kept x.family (tick_of now x.family).family step.key s.item x.own;
          decided = step.place s.place x.decided;
        })

-- ---- a call comes

of_key : (k : ObjectKey) (o : Option Family) (f : Family) → option_and_then (only_of k) o ≡ Some f → o ≡ Some f
of_key k None f e = absurd (cc e)
of_key k (Some g) f e = go (is_of k g) e
  where
    go : (t : Bool) → (if t then Some g else None) ≡ Some f → Some g ≡ Some f
    go true x = x
    go false x = absurd (cc x)

pub called_family : (k : ObjectKey) (e : Event) (n : Node) (f : Family) → family_for k e n ≡ Some f → family_in n.families k.slot ≡ Some f
unfolding family_of
called_family k e n f h = go (is_some (retold_answer e.act)) h
  where
    go : (t : Bool) → (if t then None else option_and_then (only_of k) (family_in n.families k.slot)) ≡ Some f → family_in n.families k.slot ≡ Some f
    go true x = absurd (cc x)
    go false x = of_key k (family_in n.families k.slot) f x

-- where a family is called, the node's life stays
stepped_sound : Laws → TreeOutcomeStays → (f : Family) (e : Event) (stood : Option Stood) (n : Node) (slot : ℕ) → family_in n.families slot ≡ Some f → IsBehind (wanted f e) stood n
    → (journaled (wanted f e) stood n.found).life ≡ life n → IsSoundNode n → IsSoundNode (steps_to n f e stood (family_step f e stood)).node
stepped_sound law stays f e stood n slot there behind lives h = record {
  slots = set_length n.families g.key.slot (Some g) ∙ h.slots;
  families = λ other x i. placed other x i (same_or_not other slot);
  last = h.last;
  numbers = h.numbers;
  order = journaled_order (wanted f e) stood n.found behind h.order;
  decisions = λ s c d. decide s d (journaled_new (wanted f e) stood n.found s c);
}
  where
    g : Family
    g = (family_step f e stood).family

    later : Node
    later = with_family g (record n { found = journaled (wanted f e) stood n.found })

    step : IsLater f g
    step = step_later law f e stood

    old : IsInSlot n slot f × IsSoundFamily f
    old = h.families slot f there

    own_slot : g.key.slot ≡ slot
    own_slot = ap (λ (k : ObjectKey). k.slot) step.key ∙ old.0.own_slot

    placed : (other : ℕ) (x : Family) → family_in (slice_set n.families g.key.slot (Some g)) other ≡ Some x → (other ≡ slot) ⊎ (other ≢ slot) → IsInSlot later other x × IsSoundFamily x
    placed other x i (inl same) =
        let is : g ≡ x = cc (family_same n.families g.key.slot (Some g) x (rw (same ∙ sym own_slot) at i)) in
        rw same (subst (λ (y : Family). IsInSlot later slot y × IsSoundFamily y) is (in_slot_kept n later slot f g refl lives (omega arith) step.key old.0, step.sound old.1))
    placed other x i (inr apart) =
        let before = h.families other x (sym (family_other n.families g.key.slot other (Some g) (λ e. apart (e ∙ own_slot))) ∙ i) in
        (in_slot_kept n later other x x refl lives (omega arith) refl before.0, before.1)

    now_there : family_in (slice_set n.families g.key.slot (Some g)) slot ≡ Some g
    now_there = subst (λ (k : ℕ). family_in (slice_set n.families k (Some g)) slot ≡ Some g) (sym own_slot) (family_put n.families slot g (family_within n.families slot f there))

    by_slot : (s : Standing) → (x : HasFamilyOf n.families s) → (x.slot ≡ slot) ⊎ (x.slot ≢ slot) → HasFamilyOf (slice_set n.families g.key.slot (Some g)) s
    by_slot s x (inl same) =
        let is : x.family ≡ f = cc (sym (rw same at x.there) ∙ there) in
        record {
          slot = slot;
          family = g;
          there = now_there;
          own = own_kept f g step.key s.item (subst (λ (y : Family). IsDecisionOf y s.item) is x.own);
          decided = step.place s.place (subst (λ (y : Family). stages.record_place y.completion ≡ Some s.place) is x.decided);
        }
    by_slot s x (inr apart) = record {
      slot = x.slot;
      family = x.family;
      there = family_other n.families g.key.slot x.slot (Some g) (λ e. apart (e ∙ own_slot)) ∙ x.there;
      own = x.own;
      decided = x.decided;
    }

    kept : (s : Standing) → (is_held s.place n.recovered ≡ true) ⊎ HasFamilyOf n.families s → (is_held s.place n.recovered ≡ true) ⊎ HasFamilyOf (slice_set n.families g.key.slot (Some g)) s
    kept s (inl k) = inl k
    kept s (inr x) = inr (by_slot s x (same_or_not x.slot slot))

    decide : (s : Standing) → is_family_decision s.item ≡ true → Contains n.found.standing s ⊎ IsNew (wanted f e) stood s
        → (is_held s.place n.recovered ≡ true) ⊎ HasFamilyOf (slice_set n.families g.key.slot (Some g)) s
    decide s d (inl c) = kept s (h.decisions s c d)
    decide s d (inr x) =
        let own = appended_own law stays f e stood s x in
        inr (record { slot = slot; family = g; there = now_there; own = own.0; decided = own.1 })

-- where a record hears an answer
heard_sound : (number : CallNumber) (heard : Heard) (stood : Option Stood) (n : Node) → (journaled (done_wanted number heard n) stood n.found).life ≡ life n
    → IsSoundNode n → IsSoundNode (records_hear number heard stood n).node
heard_sound number heard stood n lives h = record {
  slots = h.slots;
  families = λ slot f e. let old = h.families slot f e in (in_slot_kept n later slot f f refl lives (omega arith) refl old.0, old.1);
  last = h.last;
  numbers = h.numbers;
  order = journaled_order (done_wanted number heard n) stood n.found (λ item place e g. absurd (not_appended complete item e)) h.order;
  decisions = λ s c d. decide s c d (stood_before s c);
}
  where
    complete : Option ℕ
    complete = completed (life n) number heard n.recovered

    later : Node
    later = (records_hear number heard stood n).node

    not_appended : (o : Option ℕ) (item : JournalRecord) → option_map WritesDone o ≡ Some (Appends item) → ⊥
    not_appended None item e = absurd (cc e)
    not_appended (Some place) item e = absurd (cc e)

    stood_before : (s : Standing) → Contains (journaled (done_wanted number heard n) stood n.found).standing s → Contains n.found.standing s
    stood_before s c = go (journaled_new (done_wanted number heard n) stood n.found s c)
      where
        go : Contains n.found.standing s ⊎ IsNew (done_wanted number heard n) stood s → Contains n.found.standing s
        go (inl x) = x
        go (inr x) = absurd (not_appended complete x.item x.wanted)

    kept : (o : Option ℕ) (t : Option Stood) (s : Standing) → Contains (journaled (option_map WritesDone o) t n.found).standing s → is_family_decision s.item ≡ true
        → is_held s.place (records_after (life n) number heard n.recovered) ≡ true → is_held s.place (records_with o t (records_after (life n) number heard n.recovered)) ≡ true
    kept (Some place) (Some (answers.Stands done)) s c d k = held_without s.place place (done_gone n.found done place s h.order c d) (records_after (life n) number heard n.recovered) k
    kept (Some place) (Some (answers.Full used need)) s c d k = k
    kept (Some place) (Some (answers.Unsure why)) s c d k = k
    kept (Some place) None s c d k = k
    kept None t s c d k = k

    decide : (s : Standing) → Contains (journaled (done_wanted number heard n) stood n.found).standing s → is_family_decision s.item ≡ true → Contains n.found.standing s
        → (is_held s.place (records_with complete stood (records_after (life n) number heard n.recovered)) ≡ true) ⊎ HasFamilyOf n.families s
    decide s c d before = go (h.decisions s before d)
      where
        go : (is_held s.place n.recovered ≡ true) ⊎ HasFamilyOf n.families s → (is_held s.place (records_with complete stood (records_after (life n) number heard n.recovered)) ≡ true) ⊎ HasFamilyOf n.families s
        go (inl k) = inl (kept complete stood s c d (held_heard s.place (life n) number heard n.recovered ∙ k))
        go (inr x) = inr x

replies_node : (o : Option Said) (n : Node) → (replies o n).node ≡ n
replies_node (Some answer) n = refl
replies_node None n = refl

by_records_sound : (o : Option RetoldAnswer) (k : ObjectKey) (e : Event) (stood : Option Stood) (n : Node) → life (by_records o k e stood n).node ≡ life n
    → IsSoundNode n → IsSoundNode (by_records o k e stood n).node
unfolding hears_record
by_records_sound (Some a) k e stood n lives h = go (is_held a.number.generation n.recovered) lives
  where
    go : (t : Bool) → life (if t then records_hear a.number a.heard stood n else refuses faults.ObjectNotExist n).node ≡ life n
        → IsSoundNode (if t then records_hear a.number a.heard stood n else refuses faults.ObjectNotExist n).node
    go true l = heard_sound a.number a.heard stood n l h
    go false l = h
by_records_sound None k e stood n lives h =
    subst (λ (x : Node). IsSoundNode x) (sym (replies_node (option_and_then (record_says k e.key e.act) (record_of k n)) n)) h

by_family_sound : Laws → TreeOutcomeStays → (f : Family) (e : Event) (stood : Option Stood) (n : Node) (slot : ℕ) → family_in n.families slot ≡ Some f → IsBehind (family_wants f e) stood n
    → life (by_family f e stood n).node ≡ life n → IsSoundNode n → IsSoundNode (by_family f e stood n).node
by_family_sound law stays f e stood n slot there behind lives h = go (has_room f.entries e) lives behind
  where
    go : (t : Bool) → life (if t then steps_to n f e stood (family_step f e stood) else refuses faults.NoResources n).node ≡ life n
        → IsBehind (if t then wanted f e else None) stood n → IsSoundNode (if t then steps_to n f e stood (family_step f e stood) else refuses faults.NoResources n).node
    go true l b = stepped_sound law stays f e stood n slot there b l h
    go false l b = h

applied_sound : Laws → TreeOutcomeStays → (o : Option Family) (k : ObjectKey) (e : Event) (stood : Option Stood) (n : Node) → family_for k e n ≡ o → IsBehind (wanted_by o e n) stood n
    → life (applied_by o k e stood n).node ≡ life n → IsSoundNode n → IsSoundNode (applied_by o k e stood n).node
unfolding answers_recovered
applied_sound law stays (Some f) k e stood n is behind lives h = by_family_sound law stays f e stood n k.slot (called_family k e n f is) behind lives h
applied_sound law stays None k e stood n is behind lives h = by_records_sound (retold_answer e.act) k e stood n lives h

called_life : NodesKeepNumbers → (k : ObjectKey) (e : Event) (stood : Option Stood) (n : Node) → life (applies k e stood n).node ≡ life n
called_life keep k e stood n = (keep n (applies k e stood n).node (further n (applies k e stood n).node still (by_call k e stood n))).same_life

called_sound : Laws → TreeOutcomeStays → (k : ObjectKey) (e : Event) (stood : Option Stood) (n : Node) → life (applies k e stood n).node ≡ life n → IsBehind (call_wants k e n) stood n → IsSoundNode n
    → IsSoundNode (applies k e stood n).node
unfolding applies call_wants
called_sound law stays k e stood n lives behind h = applied_sound law stays (family_for k e n) k e stood n refl behind lives h

pub nodes_stay_sound : Laws → TreeOutcomeStays → NodesKeepNumbers → NodesStaySound
nodes_stay_sound law stays keep = record {
  loaded = load_sound;
  made = made_sound law;
  called = λ k e stood n behind h. called_sound law stays k e stood n (called_life keep k e stood n) behind h;
  ticked = ticked_sound law;
}
