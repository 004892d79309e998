-- An answer comes to a family of a node that is up, which asks its journal for something: where the family is, and what the journal has.
use Rattle.std.proofs.Common.{◌≡◌, ℕ, ◌-◌, ◌==◌, Bool, true, false, IsTrue, if◌then◌else◌, List, slice_get, Option, Some, None, sym, ap, subst, ◌∙◌, arith}
use Rattle.std.specs.Option.{option_and_then}
use Rattle.ior_refs.specs.declared.key.ObjectKey.{ObjectKey}
use Rattle.ots_model.specs.declared.completion.Stood.{Stood}
use Rattle.ots_model.specs.declared.tree.Outward.{Outward}
use Rattle.decision_journal.specs.Journal.{Found, found_in}
use Rattle.decision_journal.specs.declared.record.JournalRecord.{JournalRecord}
use Rattle.recovery_coord.specs.Limits.{retold_slot}
use Rattle.coordinator.specs.declared.event.Event.{Event}
use Rattle.coordinator.specs.declared.node.NodeFault.TheVariants as faults
use Rattle.coordinator.specs.declared.said.Said.{Said}
use Rattle.coordinator.specs.Family.{Family}
use Rattle.coordinator.specs.History.{has_room}
use Rattle.coordinator.specs.Node.{Node, family_in, family_of, is_of}
use Rattle.coordinator.specs.NodeCalls.{applied_by, applies, call_wants, refuses, retold_answer, steps_to, wanted_by}
use Rattle.coordinator.specs.Step.{Wanted, family_step, wanted}
use Rattle.family_laws.specs.OwnDecisions.{KeepsDecisions}
use Rattle.nodes_world.specs.Agreement.{FollowsDisk, records_at}
use Rattle.nodes_world.specs.AgreementInside.{Known, edge_at}
use Rattle.nodes_world.specs.Deliveries.{answer_event, heard_in}
use Rattle.nodes_world.specs.Journals.{asks, records_on}
use Rattle.nodes_world.specs.Laws.{IsInOrder}
use Rattle.nodes_world.specs.Objects.{family_key, place_of, service_at}
use Rattle.nodes_world.specs.Told.{Told}
use Rattle.nodes_world.specs.World.{World, Seat, OfNode, family_at, node_at}
use Rattle.nodes_world.proofs.CallKnown.{for_key, key_slot}
use Rattle.nodes_world.proofs.KnownFamilies.{family_found, same_parts}
use Rattle.nodes_world.proofs.KnownWorlds.{node_there}

-- what is known then
pub record ComesTo (w : World) (place now : ℕ) (o : Outward) (answer : Said) (s : Seat) (n : Node) (f : Family) (item : Wanted) : Type 0 where
  -- the answer is none to a record, and the family makes its step
  pub retold : retold_answer (answer_event o answer now).act ≡ None
  pub applied : (stood : Option Stood) → applies (family_key place o.number) (answer_event o answer now) stood n
      ≡ steps_to n f (answer_event o answer now) stood (family_step f (answer_event o answer now) stood)
  pub wants : call_wants (family_key place o.number) (answer_event o answer now) n ≡ Some item
  -- the family is in its slot
  pub own_place : place_of (family_key place o.number) ≡ place
  pub slot : (family_in n.families o.number.slot ≡ Some f) × IsTrue (is_of (family_key place o.number) f)
  pub same_slot : o.number.slot ≡ f.key.slot
  pub at_place : place_of f.key ≡ place
  pub slotted : family_in n.families f.key.slot ≡ Some f
  pub there : family_at w (family_key place o.number) ≡ Some f
  -- its node goes by the records of its disk
  pub up : node_at w place ≡ Some n
  pub rs : List JournalRecord
  pub reads : records_on (service_at place) s.disk ≡ Some rs
  pub held : records_at w place ≡ Some rs
  pub order : IsInOrder (service_at place) s.disk rs
  pub found : n.found ≡ found_in rs
  pub sound : KeepsDecisions (edge_at w place) n
  pub asks_so : asks (call_wants (family_key place o.number) (answer_event o answer now) n) n.service n.found s.disk s.stop
      ≡ asks (Some item) (service_at place) (found_in rs) s.disk s.stop

module _ (w : World) (place now : ℕ) (o : Outward) (answer : Said) (s : Seat) (n : Node) (f : Family) (item : Wanted) (there : slice_get w.seats place ≡ Some s)
    (up : s.server ≡ OfNode (Some n)) (family : o.number.slot == retold_slot ≡ false) (of : family_of (family_key place o.number) n ≡ Some f)
    (room : has_room f.entries (answer_event o answer now) ≡ true) (wants : wanted f (answer_event o answer now) ≡ Some item) (told : List Told) (k : Known w told) where
  abbrev key : ObjectKey
  key = family_key place o.number

  abbrev e : Event
  e = answer_event o answer now

  retold : retold_answer e.act ≡ None
  retold = ap (λ (b : Bool). if b then Some (record { number = o.number; heard = heard_in answer }) else None) family

  own_place : place_of key ≡ place
  own_place = omega arith

  applied_is : (stood : Option Stood) → applies key e stood n ≡ steps_to n f e stood (family_step f e stood)
  unfolding applies
  applied_is stood =
      ap (λ (x : Option Family). applied_by x key e stood n) (for_key key e n retold ∙ of)
      ∙ ap (λ (b : Bool). if b then steps_to n f e stood (family_step f e stood) else refuses faults.NoResources n) room

  wants_it : call_wants key e n ≡ Some item
  unfolding call_wants
  wants_it = ap (λ (x : Option Family). wanted_by x e n) (for_key key e n retold ∙ of) ∙ ap (λ (b : Bool). if b then wanted f e else None) room ∙ wants

  slot : (family_in n.families key.slot ≡ Some f) × IsTrue (is_of key f)
  slot = key_slot key n f of

  parts : (key.service ≡ f.key.service) × (key.life ≡ f.key.life) × (key.slot ≡ f.key.slot) × (key.generation ≡ f.key.generation)
  parts = same_parts key.service key.life key.slot key.generation f.key.service f.key.life f.key.slot f.key.generation slot.1

  follows : FollowsDisk place s n
  follows = k.disks.follows place s n there up

  held : records_at w place ≡ Some follows.records
  held = ap (λ (x : Option Seat). option_and_then (λ (y : Seat). records_on (service_at place) y.disk) x) there ∙ follows.held

  pub comes_to : ComesTo w place now o answer s n f item
  comes_to = record {
    retold = retold;
    applied = applied_is;
    wants = wants_it;
    own_place = own_place;
    slot = slot;
    same_slot = parts.2;
    at_place = ap (λ (x : ℕ). x - 1) (sym parts.0) ∙ own_place;
    slotted = subst (λ (x : ℕ). family_in n.families x ≡ Some f) parts.2 slot.0;
    there = family_found w key f (record { seat = s; node = n; there = ap (slice_get w.seats) own_place ∙ there; up = up; slotted = slot.0; own = slot.1 });
    up = node_there w place s n there up;
    rs = follows.records;
    reads = follows.held;
    held = held;
    order = (k.nodes place n (node_there w place s n there up)).order s follows.records there held;
    found = follows.found;
    sound = (k.nodes place n (node_there w place s n there up)).sound;
    asks_so =
        ap (λ (x : Option Wanted). asks x n.service n.found s.disk s.stop) wants_it
        ∙ ap (λ (x : ℕ). asks (Some item) x n.found s.disk s.stop) follows.service
        ∙ ap (λ (x : Found). asks (Some item) (service_at place) x s.disk s.stop) follows.found;
  }
