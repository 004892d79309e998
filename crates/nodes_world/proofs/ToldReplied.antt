-- A participant that counts as told has replied to the word that told it the outcome; where the family is decided by a record, it has
-- stored its updates.
use Rattle.std.proofs.Common.{◌≡◌, ◌⊎◌, inl, inr, ℕ, zero, suc, ◌+◌, Bool, true, false, is_some, if◌then◌else◌, List, [], ◌∷◌, map, replicate, slice_get, slice_set, Option, Some, None, refl, sym, ap, subst, ◌∙◌, arith}
use Rattle.std.specs.Option.{option_and_then, option_map}
use Rattle.std.specs.Prelude.{Ok}
use Rattle.ior_refs.specs.declared.key.ObjectKey.{ObjectKey}
use Rattle.ots_model.specs.Heard.{of_participant}
use Rattle.ots_model.specs.declared.completion.CallNumber.{CallNumber}
use Rattle.ots_model.specs.declared.completion.Heard.{Heard as ParticipantHeard}
use Rattle.ots_model.specs.declared.completion.Heard.TheVariants as phase_hears
use Rattle.ots_model.specs.declared.completion.Stood.{Stood}
use Rattle.ots_model.specs.declared.tree.Heard.{Heard}
use Rattle.ots_model.specs.declared.tree.Outward.{Outward}
use Rattle.two_phase.specs.Stages.{Standing, Waiting, Going as UnderWay, no_room}
use Rattle.two_phase.specs.declared.party.Errand.{Errand}
use Rattle.two_phase.specs.declared.party.Party.{Party}
use Rattle.two_phase.specs.declared.party.Stage.{Stage as Round}
use Rattle.coordinator.specs.Family.{Family, Call, call_at, new_family, waiting_for}
use Rattle.coordinator.specs.History.{has_room}
use Rattle.coordinator.specs.Laws.{FamiliesStepRightly}
use Rattle.coordinator.specs.Limits.{slot_limit}
use Rattle.coordinator.specs.Node.{Node, family_in, family_of}
use Rattle.coordinator.specs.NodeCalls.{RetoldAnswer, answers_recovered, applied_by, applies, by_records, family_for, hears_record, journaled, records_hear, refuses, replies, retold_answer, steps_to}
use Rattle.coordinator.specs.NodeParts.{IsInSlot}
use Rattle.coordinator.specs.NodeRecords.{record_of, record_says}
use Rattle.coordinator.specs.NodeSlots.{creates, deadline_after, free_slot, makes, makes_in, makes_no_family, next_key, with_new}
use Rattle.coordinator.specs.NodeTick.{tick_at, ticked as ticked_family, ticks}
use Rattle.coordinator.specs.Step.{family_step, quiet, wanted}
use Rattle.coordinator.specs.declared.call.Leg.{Leg}
use Rattle.coordinator.specs.declared.call.Leg.TheVariants.{Deciding}
use Rattle.coordinator.specs.declared.event.Act.TheVariants as acts
use Rattle.coordinator.specs.declared.event.Event.{Event}
use Rattle.coordinator.specs.declared.node.NodeFault.TheVariants as faults
use Rattle.coordinator.specs.declared.said.Said.{Said}
use Rattle.coordinator.specs.declared.said.Said.TheVariants as said
use Rattle.family_laws.specs.LawsOfTelling.{FamiliesHearOutcomesAnswered, FamiliesNumberWords}
use Rattle.nodes_world.specs.declared.message.Content.{Content}
use Rattle.nodes_world.specs.declared.message.Content.TheVariants as contents
use Rattle.nodes_world.specs.Agreement.{IsWord}
use Rattle.nodes_world.specs.AgreementInside.{FamilyIsKnown, IsNumberedBy, IsOutcomeWord, Known, TellsOne, decides_out, notice_at, notice_out, out_at}
use Rattle.nodes_world.specs.Deliveries.{answer_event, heard_in}
use Rattle.nodes_world.specs.Objects.{family_key, place_of, service_at}
use Rattle.nodes_world.specs.Told.{Told}
use Rattle.nodes_world.specs.World.{World, family_at, node_at}
use Rattle.nodes_world.proofs.AskedCalls.{IsDeafAt, call_cases, deaf_leaves}
use Rattle.nodes_world.proofs.AskedWords.{first_waits, own_number}
use Rattle.nodes_world.proofs.CallKnown.{key_slot}
use Rattle.nodes_world.proofs.Deeds.{NodeIsUp, node_is_up}
use Rattle.nodes_world.proofs.KnownFamilies.{family_found, is_own, same_parts}
use Rattle.nodes_world.proofs.KnownLines.{lines_of}
use Rattle.nodes_world.proofs.MessagesGo.{HasContent}
use Rattle.nodes_world.proofs.NodesGo.{Becomes, IsNoAnswer, NodesGo, called, heard_so, loaded_so, made, ticked}
use Rattle.nodes_world.proofs.StepSeats as seats
use Rattle.nodes_world.proofs.ToldParties.{IsTelling, IsTold, told_by_step}

-- ---- the families that a node has then

no_family : (f : Family) → None ≡ Some f → ⊥
no_family f e = cc

inner : {A : Type 0} {x y : A} → Some x ≡ Some y → x ≡ y
inner e = cc

-- it was there, or is what a step of one makes of it
abbrev IsStepOf : Node → Event → Option Stood → ℕ → Family → Type 0
IsStepOf n e stood slot g = (f : Family) × (family_in n.families slot ≡ Some f) × (g ≡ (family_step f e stood).family)

module _ (numbers : FamiliesNumberWords) (k : ObjectKey) (e : Event) (stood : Option Stood) (n : Node) (slot : ℕ) (g : Family) where
  abbrev CameBy : Type 0
  CameBy = (family_in n.families slot ≡ Some g) ⊎ ((f : Family) × (family_of k n ≡ Some f) × (family_in n.families slot ≡ Some f) × (g ≡ (family_step f e stood).family))

  pub family_for_of : (f : Family) → family_for k e n ≡ Some f → family_of k n ≡ Some f
  family_for_of f is = by (is_some (retold_answer e.act)) is
    where
      by : (t : Bool) → (if t then None else family_of k n) ≡ Some f → family_of k n ≡ Some f
      by true is = absurd (no_family f is)
      by false is = is

  by_step : (f : Family) → family_of k n ≡ Some f → family_in (steps_to n f e stood (family_step f e stood)).node.families slot ≡ Some g → CameBy
  by_step f of is =
      let m : Node = record n { found = journaled (wanted f e) stood n.found } in
      let at = key_slot k n f of in
      let parts = same_parts k.service k.life k.slot k.generation f.key.service f.key.life f.key.slot f.key.generation at.1 in
      let slotted : family_in n.families f.key.slot ≡ Some f = subst (λ (i : ℕ). family_in n.families i ≡ Some f) parts.2 at.0 in
      let same = numbers.key f e stood in
      elim (seats.slot_cases m f (family_step f e stood).family same slotted slot g is) [
        | inl here ↦ inr (f, of, ap (family_in n.families) (here.0 ∙ ap (λ (x : ObjectKey). x.slot) same) ∙ slotted, here.1)
        | inr other ↦ inl other.1
      ]

  by_family : (f : Family) → family_of k n ≡ Some f → (t : Bool)
      → family_in (if t then steps_to n f e stood (family_step f e stood) else refuses faults.NoResources n).node.families slot ≡ Some g → CameBy
  by_family f of true is = by_step f of is
  by_family f of false is = inl is

  same_hearing : (number : CallNumber) (h : Heard) → (hears_record number h stood n).node.families ≡ n.families
  unfolding hears_record
  same_hearing number h = by _
    where
      by : (t : Bool) → (if t then records_hear number h stood n else refuses faults.ObjectNotExist n).node.families ≡ n.families
      by true = refl
      by false = refl

  same_replying : (o : Option Said) → (replies o n).node.families ≡ n.families
  same_replying (Some answer) = refl
  same_replying None = refl

  same_recovered : (answers_recovered k e stood n).node.families ≡ n.families
  unfolding answers_recovered
  same_recovered = by (retold_answer e.act)
    where
      by : (a : Option RetoldAnswer) → (by_records a k e stood n).node.families ≡ n.families
      by (Some a) = same_hearing a.number a.heard
      by None = same_replying (option_and_then (record_says k e.key e.act) (record_of k n))

  pub came_by : family_in (applies k e stood n).node.families slot ≡ Some g → CameBy
  unfolding applies
  came_by is = by (family_for k e n) refl is
    where
      by : (o : Option Family) → family_for k e n ≡ o → family_in (applied_by o k e stood n).node.families slot ≡ Some g → CameBy
      by (Some f) of is = by_family f (family_for_of f of) (has_room f.entries e) is
      by None of is = inl (ap (λ (fs : List (Option Family)). family_in fs slot) (sym same_recovered) ∙ is)

ticked_in : (now : ℕ) (fs : List (Option Family)) (slot : ℕ) → family_in (map (ticked_family now) fs) slot ≡ ticked_family now (family_in fs slot)
ticked_in now [] slot = refl
ticked_in now (x ∷ fs) zero = refl
ticked_in now (x ∷ fs) (suc slot) = ticked_in now fs slot

pub came_by_tick : (now : ℕ) (n : Node) (slot : ℕ) (g : Family) → family_in (ticks now n).node.families slot ≡ Some g
    → (family_in n.families slot ≡ Some g) ⊎ IsStepOf n (tick_at now) None slot g
unfolding ticks
came_by_tick now n slot g is = by (family_in n.families slot) refl (sym (ticked_in now n.families slot) ∙ is)
  where
    by_room : (f : Family) → family_in n.families slot ≡ Some f → (t : Bool) → (if t then family_step f (tick_at now) None else quiet said.Plain f).family ≡ g
        → (family_in n.families slot ≡ Some g) ⊎ IsStepOf n (tick_at now) None slot g
    by_room f there true same = inr (f, there, sym same)
    by_room f there false same = inl (there ∙ ap (λ (x : Family). Some x) same)

    by : (o : Option Family) → family_in n.families slot ≡ o → ticked_family now o ≡ Some g → (family_in n.families slot ≡ Some g) ⊎ IsStepOf n (tick_at now) None slot g
    by (Some f) there is = by_room f there (has_room f.entries (tick_at now)) (inner is)
    by None there is = absurd (no_family g is)

-- a slot that is set has the new one, or the slot is as it was
set_in : (fs : List (Option Family)) (i slot : ℕ) (x : Family) (g : Family) → family_in (slice_set fs i (Some x)) slot ≡ Some g → (x ≡ g) ⊎ (family_in fs slot ≡ Some g)
set_in [] i slot x g is = inr is
set_in (y ∷ fs) zero zero x g is = inl (inner is)
set_in (y ∷ fs) zero (suc slot) x g is = inr is
set_in (y ∷ fs) (suc i) zero x g is = inr is
set_in (y ∷ fs) (suc i) (suc slot) x g is = set_in fs i slot x g is

pub made_in : (now seconds : ℕ) (n : Node) (slot : ℕ) (g : Family) → family_in (creates now seconds n).node.families slot ≡ Some g
    → (family_in n.families slot ≡ Some g) ⊎ (g.completion ≡ Waiting no_room)
unfolding creates makes
made_in now seconds n slot g is = by_slot (free_slot n) is
  where
    make : ObjectKey → Family
    make key = new_family key (deadline_after now seconds)

    by_number : (i : ℕ) (t : Bool) → family_in (if t then record { node = with_new make i n; answer = Ok (next_key n i) } else makes_no_family n).node.families slot ≡ Some g
        → (family_in n.families slot ≡ Some g) ⊎ (g.completion ≡ Waiting no_room)
    by_number i true is = elim (set_in n.families i slot (make (next_key n i)) g is) [
      | inl new ↦ inr (ap (λ (x : Family). x.completion) (sym new))
      | inr old ↦ inl old
    ]
    by_number i false is = inl is

    by_slot : (o : Option ℕ) → family_in (makes_in o make n).node.families slot ≡ Some g → (family_in n.families slot ≡ Some g) ⊎ (g.completion ≡ Waiting no_room)
    by_slot (Some i) is = by_number i _ is
    by_slot None is = inl is

pub none_in : (many slot : ℕ) (g : Family) → family_in (replicate many None) slot ≡ Some g → ⊥
none_in zero slot g is = absurd cc
none_in (suc many) zero g is = absurd cc
none_in (suc many) (suc slot) g is = none_in many slot g is

-- ---- who has replied

-- the object of a reference has replied to a word that told it the outcome
pub record IsReplied (w : World) (to : List ℕ) : Type 0 where
  pub nth : ℕ
  pub place : ℕ
  pub reply : ℕ
  pub word : Outward
  pub answer : Said
  pub sent : IsWord w nth place word
  pub own : word.to ≡ to
  pub outcome : IsOutcomeWord word.word
  pub replied : HasContent w reply (contents.Reply (nth + 1) answer)

-- so has each one that counts as told, of a family that is there
abbrev pub ToldReplied : World → Type 0
ToldReplied w = (place : ℕ) (n : Node) (slot : ℕ) (f : Family) (to : List ℕ) (x : ParticipantHeard) → node_at w place ≡ Some n → family_in n.families slot ≡ Some f
    → IsTold f.completion to x → IsReplied w to

replied_on : (w v : World) → ((nth : ℕ) (content : Content) → HasContent w nth content → HasContent v nth content) → (to : List ℕ) → IsReplied w to → IsReplied v to
replied_on w v on to is = record {
  nth = is.nth;
  place = is.place;
  reply = is.reply;
  word = is.word;
  answer = is.answer;
  sent = on is.nth (contents.Request is.place is.word) is.sent;
  own = is.own;
  outcome = is.outcome;
  replied = on is.reply (contents.Reply (is.nth + 1) is.answer) is.replied;
}

-- a family in a slot is that of its key
module _ (w : World) (told : List Told) (k : Known w told) (place : ℕ) (n : Node) (up : node_at w place ≡ Some n) (slot : ℕ) (f : Family)
    (there : family_in n.families slot ≡ Some f) where
  seat_up : NodeIsUp w place n
  seat_up = node_is_up w place n up

  pub in_slot : IsInSlot n slot f
  in_slot = (k.disks.whole place seat_up.seat n seat_up.there seat_up.up).families slot f there

  pub slot_service : f.key.service ≡ service_at place
  slot_service = in_slot.of_service ∙ (k.disks.follows place seat_up.seat n seat_up.there seat_up.up).service

  pub slot_place : place_of f.key ≡ place
  slot_place =
      let service = slot_service in
      let is : service_at place ≡ place + 1 = refl in
      omega (arith, service, is)

  pub slot_found : family_at w f.key ≡ Some f
  slot_found = family_found w f.key f (record {
    seat = seat_up.seat;
    node = n;
    there = ap (slice_get w.seats) slot_place ∙ seat_up.there;
    up = seat_up.up;
    slotted = ap (family_in n.families) in_slot.own_slot ∙ there;
    own = is_own f;
  })

  pub slot_known : FamilyIsKnown w (lines_of told) f
  slot_known = k.families f.key f slot_found

-- the word that is out tells it
telling_notice : (s : Standing) (to : List ℕ) → IsTelling s to → (index : ℕ) × (notice_out s ≡ Some (TellsOne index to))
telling_notice (Waiting room) to is = absurd is
telling_notice (UnderWay c) to (e, p, out, round, at, reference) = (
  p.index,
  ap (λ (o : Option Errand). option_and_then (notice_at c) o) out
      ∙ ap (λ (r : Round). notice_at c (record e { stage = r })) round
      ∙ ap (λ (o : Option Party). option_map (λ (x : Party). TellsOne x.index x.to) o) at
      ∙ ap (λ (x : List ℕ). Some (TellsOne p.index x)) reference,
)

module _ (rightly : FamiliesStepRightly) (answered : FamiliesHearOutcomesAnswered) (numbers : FamiliesNumberWords) (w : World) (told : List Told) (k : Known w told)
    (are : ToldReplied w) where
  -- ---- a step

  -- without an answer nobody is told
  no_answer : (place : ℕ) (n : Node) → node_at w place ≡ Some n → (slot : ℕ) (f : Family) → family_in n.families slot ≡ Some f → (e : Event) (stood : Option Stood)
      → IsNoAnswer e.act → (to : List ℕ) (x : ParticipantHeard) → IsTold (family_step f e stood).family.completion to x → IsReplied w to
  no_answer place n up slot f there e stood never to x is =
      let known = slot_known w told k place n up slot f there in
      elim (told_by_step rightly answered f e stood known.sound known.numbered to x is) [
        | inl before ↦ are place n slot f to x up there before
        | inr now ↦ absurd (never now.number now.answer now.is)
      ]

  -- an answer tells the one that gives it
  module _ (place : ℕ) (n : Node) (up : node_at w place ≡ Some n) (nth reply now : ℕ) (o : Outward) (answer : Said) (stood : Option Stood) (word : IsWord w nth place o)
      (replied : HasContent w reply (contents.Reply (nth + 1) answer)) (slot : ℕ) (f : Family) (there : family_in n.families slot ≡ Some f)
      (to : List ℕ) (x : ParticipantHeard) where
    abbrev left : Said → Standing
    left so = (family_step f (answer_event o so now) stood).family.completion

    known : FamilyIsKnown w (lines_of told) f
    known = slot_known w told k place n up slot f there

    by_answer : (so : Said) → IsTold (left so) to x
        → IsReplied w to ⊎ ((of_participant (heard_in so) ≡ x) × (waiting_for f o.number ≡ Some 0) × IsTelling f.completion to)
    by_answer so is = elim (told_by_step rightly answered f (answer_event o so now) stood known.sound known.numbered to x is) [
      | inl before ↦ inl (are place n slot f to x up there before)
      | inr here ↦
          let same = parts here.is in
          inr (ap of_participant same.1 ∙ here.says, ap (waiting_for f) same.0 ∙ here.waited, here.telling)
    ]
      where
        parts : {a b : CallNumber} {h i : Heard} → acts.Answer a h ≡ acts.Answer b i → (a ≡ b) × (h ≡ i)
        parts e = (cc, cc)

    -- the call is at the decision, and waits for the word that went to it
    pub decides : waiting_for f o.number ≡ Some 0 → IsTelling f.completion to → (c : Call) → call_at f 0 ≡ Some c → c.leg ≡ Deciding → IsReplied w to
    decides waits telling c at deciding =
        let own = own_number f o.number waits in
        let numbered : IsNumberedBy f o =
        k.words.serials place o f f.key (nth, word) (slot_found w told k place n up slot f there) own.0 own.1 own.2 (slot_place w told k place n up slot f there) in
        let notice = telling_notice f.completion to telling in
        let is = numbered.out (TellsOne notice.0 to) (ap decides_out at ∙ ap (λ (leg : Leg). out_at leg c.out) deciding ∙ first_waits f o.number c waits at) notice.1 in
        record {
          nth = nth;
          place = place;
          reply = reply;
          word = o;
          answer = answer;
          sent = word;
          own = sym is.1;
          outcome = is.2;
          replied = replied;
        }

    -- one that isn't hears nothing of it, whatever it is
    deaf : waiting_for f o.number ≡ Some 0 → IsDeafAt (call_at f 0) → IsTold (left answer) to x → IsReplied w to
    unfolding heard_in
    deaf waits is_deaf is = either (by_answer said.Plain (instead said.Plain)) (by_answer said.ObjectNotExist (instead said.ObjectNotExist))
      where
        instead : (so : Said) → IsTold (left so) to x
        instead so = subst (λ (s : Standing). IsTold s to x) (deaf_leaves f o answer now waits is_deaf stood so) is

        apart : of_participant (heard_in said.Plain) ≡ of_participant (heard_in said.ObjectNotExist) → ⊥
        apart same = no same
          where
            no : phase_hears.Done ≡ phase_hears.NoObject → ⊥
            no e = cc

        either : IsReplied w to ⊎ ((of_participant (heard_in said.Plain) ≡ x) × (waiting_for f o.number ≡ Some 0) × IsTelling f.completion to)
            → IsReplied w to ⊎ ((of_participant (heard_in said.ObjectNotExist) ≡ x) × (waiting_for f o.number ≡ Some 0) × IsTelling f.completion to) → IsReplied w to
        either (inl is) other = is
        either (inr one) (inl is) = is
        either (inr one) (inr other) = absurd (apart (one.0 ∙ sym other.0))

    by_hearing : IsTold (left answer) to x → IsReplied w to
    by_hearing is = elim (by_answer answer is) [
      | inl before ↦ before
      | inr (says, waits, telling) ↦ elim (call_cases f known.sound (known.legs 0)) [
        | inl is_deaf ↦ deaf waits is_deaf is
        | inr (c, at, deciding) ↦ decides waits telling c at deciding
      ]
    ]

  -- ---- a node then

  pub becomes_replied : (place : ℕ) (m : Node) → Becomes w place m → (slot : ℕ) (g : Family) (to : List ℕ) (x : ParticipantHeard) → family_in m.families slot ≡ Some g
      → IsTold g.completion to x → IsReplied w to
  becomes_replied place _ (loaded_so service rs) slot g to x there is = absurd (none_in slot_limit slot g there)
  becomes_replied place _ (made now seconds n up) slot g to x there is = elim (made_in now seconds n slot g there) [
    | inl old ↦ are place n slot g to x up old is
    | inr new ↦ absurd (subst (λ (s : Standing). IsTold s to x) new is)
  ]
  becomes_replied place _ (called key e stood n up never) slot g to x there is = elim (came_by numbers key e stood n slot g there) [
    | inl old ↦ are place n slot g to x up old is
    | inr (f, of, was, same) ↦ no_answer place n up slot f was e stood never to x (subst (λ (y : Family). IsTold y.completion to x) same is)
  ]
  becomes_replied place _ (heard_so nth reply now o answer stood n up word replied) slot g to x there is =
      elim (came_by numbers (family_key place o.number) (answer_event o answer now) stood n slot g there) [
        | inl old ↦ are place n slot g to x up old is
        | inr (f, of, was, same) ↦
            by_hearing place n up nth reply now o answer stood word replied slot f was to x (subst (λ (y : Family). IsTold y.completion to x) same is)
      ]
  becomes_replied place _ (ticked now n up) slot g to x there is = elim (came_by_tick now n slot g there) [
    | inl old ↦ are place n slot g to x up old is
    | inr (f, was, same) ↦ no_answer place n up slot f was (tick_at now) None no_tick to x (subst (λ (y : Family). IsTold y.completion to x) same is)
  ]
    where
      no_tick : IsNoAnswer acts.Tick
      no_tick number heard same = cc

  pub replied_step : (v : World) → NodesGo w v → ((nth : ℕ) (content : Content) → HasContent w nth content → HasContent v nth content) → ToldReplied v
  replied_step v go on place m slot g to x up there is = replied_on w v on to (by (go place m up))
    where
      by : (node_at w place ≡ Some m) ⊎ Becomes w place m → IsReplied w to
      by (inl old) = are place m slot g to x old there is
      by (inr new) = becomes_replied place m new slot g to x there is
