-- Time passes for a node: what is known stays known.
use Rattle.std.proofs.Common.{◌≡◌, ◌⊎◌, ℕ, Bool, true, cond, List, ◌++◌, filter_map, slice_get, Contains, Option, Some, None, refl, sym, ap, subst, ◌∙◌, append_assoc, arith, inl, inr}
use Rattle.ots_model.specs.declared.completion.Stood.{Stood}
use Rattle.ots_model.specs.declared.tree.Outward.{Outward}
use Rattle.recovery_coord.specs.Telling as telling
use Rattle.recovery_coord.specs.declared.held.Held.{Held}
use Rattle.coordinator.specs.declared.event.Event.{Event}
use Rattle.coordinator.specs.declared.node.NodeFault.TheVariants as faults
use Rattle.coordinator.specs.Family.{Family}
use Rattle.coordinator.specs.History.{has_room}
use Rattle.coordinator.specs.Node.{Node, family_in, life, with_family}
use Rattle.coordinator.specs.NodeCalls.{Applied, applied_by, applies, journaled, refuses, steps_to}
use Rattle.coordinator.specs.NodeTick.{happens_in, passes_time, tells_again, tick_at, ticks}
use Rattle.coordinator.specs.Step.{Stepped, Wanted, family_step}
use Rattle.family_laws.specs.HeldRecords.{HeldRecordsStood, IsOfStanding, WasHeld}
use Rattle.family_laws.specs.OwnDecisions.{KeepsDecisions, NodesKeepDecisions}
use Rattle.nodes_world.specs.Agreement.{records_at}
use Rattle.nodes_world.specs.AgreementInside.{Known, HasMessage, edge_at}
use Rattle.nodes_world.specs.AgreementSteps.{StaysKnown}
use Rattle.nodes_world.specs.Happenings.{Done, after, all_effect_lines, all_finished_lines, cast_of, requests_all}
use Rattle.nodes_world.specs.Journals.{records_on}
use Rattle.nodes_world.specs.Nodes.{happens_all, ticks_node}
use Rattle.nodes_world.specs.Objects.{place_of, service_at}
use Rattle.nodes_world.specs.Told.{Told}
use Rattle.nodes_world.specs.World.{World, Seat, OfNode, family_at, with_seat}
use Rattle.nodes_world.proofs.CallKnown.{for_key, slot_key, tidy_of}
use Rattle.nodes_world.proofs.Edges.{edge_kept}
use Rattle.nodes_world.proofs.Going.{get_set, on_seat_there}
use Rattle.nodes_world.proofs.KnownFamilies.{family_found, is_own}
use Rattle.nodes_world.proofs.KnownRecoveries.{recoveries_known}
use Rattle.nodes_world.proofs.KnownWorlds.{node_there}
use Rattle.nodes_world.proofs.RetoldWords.{retold_known, words_retold}
use Rattle.nodes_world.proofs.SeatSwaps.{happens_seats, happens_swap}
use Rattle.nodes_world.proofs.StepIs.{FamilyLaws, StepIs, steady_is, steady_wants, entry_cases}
use Rattle.nodes_world.proofs.StepWhole.{words_gone}
use Rattle.nodes_world.proofs.TickSlots.{families_ticked, set_twice}
use Rattle.coordinator.specs.declared.said.Entry.{Entry}
use Rattle.ots_model.specs.declared.service.RetryKey.{RetryKey}
use Rattle.std.specs.Option.{option_and_then}

-- ---- a step of one family

module _ (laws : FamilyLaws) (nodes : NodesKeepDecisions) (place now : ℕ) (u : World) (told : List Told) (s : Seat) (n : Node) (f : Family) (k : Known u told)
    (there : slice_get u.seats place ≡ Some s) (up : s.server ≡ OfNode (Some n)) (slotted : family_in n.families f.key.slot ≡ Some f)
    (room : has_room f.entries (tick_at now) ≡ true) where
  abbrev e : Event
  e = tick_at now

  abbrev st : Stepped
  st = family_step f e None

  sound_before : KeepsDecisions (edge_at u place) n
  sound_before = (k.nodes place n (node_there u place s n there up)).sound

  at_place : place_of f.key ≡ place
  at_place =
      let of_service = (sound_before.sound.families f.key.slot f slotted).0.of_service in
      let service = (k.disks.follows place s n there up).service in
      omega (arith, of_service, service)

  found : family_at u f.key ≡ Some f
  found = family_found u f.key f
      (record { seat = s; node = n; there = ap (slice_get u.seats) at_place ∙ there; up = up; slotted = slotted; own = is_own f })

  stepped : StepIs u f st.family st.effects st.words
  stepped = steady_is laws f e None refl (k.families f.key f found).sound (tidy_of u told k f.key f found) (k.families f.key f found).ready

  applied : applies f.key e None n ≡ steps_to n f e None st
  unfolding applies
  applied =
      ap (λ (o : Option Family). applied_by o f.key e None n) (for_key f.key e n refl ∙ slot_key f.key n f slotted (is_own f))
      ∙ ap (λ (b : Bool). cond b (steps_to n f e None st) (refuses faults.NoResources n)) room

  node_now : (steps_to n f e None st).node ≡ with_family st.family n
  node_now = ap (λ (o : Option Wanted). with_family st.family (record n { found = journaled o None n.found })) (steady_wants f e refl)

  sound_now : KeepsDecisions (edge_at u place) (with_family st.family n)
  sound_now =
      subst (KeepsDecisions (edge_at u place)) (ap (λ (a : Applied). a.node) applied ∙ node_now)
      (nodes.called (edge_at u place) (edge_at u place) f.key e None n (omega arith) (λ item at asked stood. absurd (no stood))
      (λ x at called asked stood. absurd (no stood)) sound_before)
    where
      no : {x : Stood} → None ≡ Some x → ⊥
      no e = cc

  entries_came : (x : Entry) (r : RetryKey) → Contains st.family.entries x → x.event.key ≡ Some r → HasMessage u r
  entries_came x r among by = elim (entry_cases laws f e None x among) [
    | inl was ↦ (k.families f.key f found).came x r was by
    | inr new ↦ absurd (no (ap (λ (y : Event). y.key) (sym new) ∙ by))
  ]
    where
      no : None ≡ Some r → ⊥
      no is = cc

  abbrev first : World
  first = with_seat place (record s { server = OfNode (Some (with_family st.family n)) }) u

  tick_keeps : Known (requests_all place st.words first).world
      ((told ++ (all_effect_lines u (cast_of st.family) st.effects ++ all_finished_lines st.family.entries st.finished)) ++ (requests_all place st.words first).lines)
  tick_keeps =
      words_gone u place s n f st.family there up slotted at_place told k f.key found (cast_of st.family) (record { key = stepped.key; registrations = stepped.registrations }) st.effects st.words stepped st.family.entries st.finished sound_now entries_came

-- ---- the node

module _ (laws : FamilyLaws) (nodes : NodesKeepDecisions) (stood : HeldRecordsStood) (w : World) (place now : ℕ) (s : Seat) (n : Node)
    (there : slice_get w.seats place ≡ Some s) (up : s.server ≡ OfNode (Some n)) (told : List Told) (k : Known w told) where
  abbrev passed : Node
  passed = passes_time now n

  abbrev m : Node
  m = tells_again passed

  node_is : (ticks now n).node ≡ m
  unfolding ticks
  node_is = refl

  abbrev at_seat : Node → Seat
  at_seat x = record s { server = OfNode (Some x) }

  abbrev d : Done
  d = happens_all place m (filter_map (happens_in now) n.families) w

  -- its families
  families_known : Known (with_seat place (at_seat passed) d.world) (told ++ d.lines)
  families_known = families_ticked place now n m refl laws.numbers
      (λ u told s n f k there up slotted room. tick_keeps laws nodes place now u told s n f k there up slotted room) w told s k there up

  d_there : slice_get d.world.seats place ≡ Some s
  d_there = ap (λ (ss : List Seat). slice_get ss place) (happens_seats place m (filter_map (happens_in now) n.families) w) ∙ there

  sound : KeepsDecisions (edge_at w place) m
  sound = subst (KeepsDecisions (edge_at w place)) node_is (nodes.ticked (edge_at w place) now n (k.nodes place n (node_there w place s n there up)).sound)

  records_same : records_at (with_seat place (at_seat passed) d.world) place ≡ records_at w place
  records_same =
      ap (λ (o : Option Seat). option_and_then (λ (x : Seat). records_on (service_at place) x.disk) o) (get_set d.world.seats place s (at_seat passed) d_there)
      ∙ sym (ap (λ (o : Option Seat). option_and_then (λ (x : Seat). records_on (service_at place) x.disk) o) there)

  holds : (h : Held) → Contains m.recovered h → WasHeld n.recovered h ⊎ IsOfStanding n.found.standing h
  holds h among = stood.ticked now n h (subst (λ (x : Node). Contains x.recovered h) (sym node_is) among)

  -- then its records
  records_known : Known (with_seat place (at_seat m) d.world) (told ++ d.lines)
  records_known =
      subst (λ (x : World). Known x (told ++ d.lines))
      (ap (λ (ss : List Seat). record d.world { seats = ss }) (set_twice d.world.seats place (at_seat passed) (at_seat m)))
      (recoveries_known (with_seat place (at_seat passed) d.world) place (at_seat passed) passed m (told ++ d.lines)
      (get_set d.world.seats place s (at_seat passed) d_there) refl families_known refl refl refl refl
      (edge_kept (with_seat place (at_seat passed) d.world) w place m records_same sound) holds)

  -- and the words that it tells again
  abbrev words : List Outward
  words = telling.words (life m) m.recovered

  words_known : Known (requests_all place words (with_seat place (at_seat m) d.world)).world
      ((told ++ d.lines) ++ (requests_all place words (with_seat place (at_seat m) d.world)).lines)
  words_known =
      retold_known words (with_seat place (at_seat m) d.world) (told ++ d.lines) records_known place m
      (node_there (with_seat place (at_seat m) d.world) place (at_seat m) m (get_set d.world.seats place s (at_seat m) d_there) refl)
      (words_retold (life m) m.recovered)

  -- all that a tick does
  ticks_are : ticks_node place now n w ≡ after d (requests_all place words (with_seat place (at_seat m) d.world))
  unfolding ticks_node ticks
  ticks_are =
      ap (λ (v : World). after (happens_all place m (filter_map (happens_in now) n.families) v)
      (requests_all place words (happens_all place m (filter_map (happens_in now) n.families) v).world))
      (on_seat_there place (λ (x : Seat). record x { server = OfNode (Some m) }) w s there)
      ∙ ap (λ (x : Done). after x (requests_all place words x.world))
      (happens_swap place (at_seat m) place m (filter_map (happens_in now) n.families) w (record { seat = s; there = there; same = refl }))

  node_ticked : Known (ticks_node place now n w).world (told ++ (ticks_node place now n w).lines)
  node_ticked =
      subst (λ (x : Done). Known x.world (told ++ x.lines)) (sym ticks_are)
      (subst (Known (requests_all place words (with_seat place (at_seat m) d.world)).world)
      (append_assoc told d.lines (requests_all place words (with_seat place (at_seat m) d.world)).lines) words_known)

pub known_tick : FamilyLaws → NodesKeepDecisions → HeldRecordsStood → (w : World) (place : ℕ) (s : Seat) (n : Node) → slice_get w.seats place ≡ Some s
    → s.server ≡ OfNode (Some n) → StaysKnown w (ticks_node place s.clock n w)
known_tick laws nodes stood w place s n there up told k = node_ticked laws nodes stood w place s.clock s n there up told k
