-- A top-level transaction is made: what is known stays known.
use Rattle.std.proofs.Common.{◌≡◌, ◌⊎◌, ℕ, ◌<◌, Bool, true, false, cond, List, [], ◌∷◌, ◌++◌, slice_get, slice_set, Contains, Option, Some, None, refl, sym, ap, subst, arith}
use Rattle.std.specs.Prelude.{nat_lt, Ok}
use Rattle.ior_refs.specs.declared.key.ObjectKey.{ObjectKey}
use Rattle.ots_model.specs.declared.line.Line.TheVariants as lines
use Rattle.ots_model.specs.declared.line.Line.{Line}
use Rattle.recovery_coord.specs.declared.held.Held.{Held}
use Rattle.coordinator.specs.Family.{Family, new_family}
use Rattle.coordinator.specs.declared.node.NodeFault.TheVariants as faults
use Rattle.coordinator.specs.Limits.{generation_limit}
use Rattle.coordinator.specs.Node.{Node}
use Rattle.coordinator.specs.NodeSlots.{Created, creates, deadline_after, free_slot, makes, makes_in, makes_no_family, next_key, with_new}
use Rattle.family_laws.specs.HeldRecords.{HeldRecordsStood, IsOfStanding, WasHeld}
use Rattle.family_laws.specs.OwnDecisions.{KeepsDecisions, NodesKeepDecisions}
use Rattle.nodes_world.specs.declared.thing.Thing.TheVariants as things
use Rattle.nodes_world.specs.Clients.{begins_at, begun_by, begun_with}
use Rattle.nodes_world.specs.Told as tell
use Rattle.nodes_world.specs.Told.{Told}
use Rattle.nodes_world.specs.World.{World, Seat, OfNode, thing, with_name, with_seat}
use Rattle.nodes_world.specs.Agreement.{FollowsDisk, IsTransaction}
use Rattle.nodes_world.specs.AgreementInside.{Known, edge_at}
use Rattle.nodes_world.specs.AgreementSteps.{StaysKnown}
use Rattle.nodes_world.proofs.Going.{on_seat_there}
use Rattle.nodes_world.proofs.KnownWorlds.{node_there}
use Rattle.nodes_world.proofs.SoundNodes.{held_whole, node_holds, node_whole}
use Rattle.nodes_world.proofs.KnownBegin.{allowed_begun, names_begun}
use Rattle.nodes_world.proofs.KnownBeginParts as parts
use Rattle.nodes_world.proofs.KnownBeginRefused.{known_refused}
use Rattle.nodes_world.proofs.KnownBeginResources.{all_resources_begun}
use Rattle.nodes_world.proofs.KnownBeginSeats.{disks_begun, resources_begun, seats_begun}
use Rattle.nodes_world.proofs.KnownBeginWords.{words_begun}

module _ (stays : NodesKeepDecisions) (stood : HeldRecordsStood) (w : World) (place : ℕ) (name : List ℕ) (seconds : ℕ) (s : Seat) (n : Node)
    (there : slice_get w.seats place ≡ Some s) (up : s.server ≡ OfNode (Some n)) (free : thing w name ≡ None) (told : List Told) (k : Known w told) where
  abbrev deadline : Option ℕ
  deadline = deadline_after s.clock seconds

  abbrev make : ObjectKey → Family
  make key = new_family key deadline

  -- a family is made in a slot
  module _ (slot : ℕ) (is : creates s.clock seconds n ≡ record { node = with_new make slot n; answer = Ok (next_key n slot) }) where
    abbrev c : Node
    c = with_new make slot n

    abbrev key : ObjectKey
    key = next_key n slot

    abbrev left : Seat
    left = record s { server = OfNode (Some c) }

    abbrev v : World
    v = with_name name (things.Transaction key) (with_seat place left w)

    abbrev line : Line
    line = lines.Top name s.name

    abbrev later : List Told
    later = told ++ tell.Known line ∷ []

    sound : KeepsDecisions (edge_at w place) c
    sound = subst (KeepsDecisions (edge_at w place)) (ap (λ (x : Created). x.node) is) (stays.made (edge_at w place) s.clock seconds n (k.nodes place n (node_there w place s n there up)).sound)

    holds : (h : Held) → Contains c.recovered h → WasHeld n.recovered h ⊎ IsOfStanding n.found.standing h
    holds h among = stood.made s.clock seconds n h (subst (λ (x : Created). Contains x.node.recovered h) (sym is) among)

    whole : (h : Held) → Contains c.recovered h → IsOfStanding c.found.standing h
    whole h among = held_whole n c refl (λ x old. (k.disks.decisions place s n there up).whole x old) h (holds h among)

    follows : FollowsDisk place left c
    follows = let was = k.disks.follows place s n there up in
        record { service = was.service; records = was.records; held = was.held; found = was.found; settled = was.settled }

    served : 0 < key.service
    served = let is = follows.service in omega (arith, is)

    fresh : (other : List ℕ) → IsTransaction w other key → ⊥
    fresh = parts.fresh_key w place name deadline slot s n c told there up free k refl refl refl sound holds

    made_known : Known v later
    made_known = record {
      names = names_begun w name s.name key (slice_set w.seats place left) told free k fresh refl refl served
          (λ r. resources_begun w place name key s n c told there up free k r);
      seats = seats_begun w place name key s n c told there up free k;
      disks = disks_begun w place name key s n c told there up free k (node_whole place c follows.service sound.sound whole) follows
          (node_holds place c follows.service sound.sound whole);
      words = words_begun w place name key s n c told there up free k
          (parts.given_begun w place name deadline slot s n c told there up free k refl refl refl sound holds)
          (parts.serials_begun w place name deadline slot s n c told there up free k refl refl refl sound holds);
      votes = parts.votes_begun w place name deadline slot s n c told there up free k refl refl refl sound holds;
      resources = all_resources_begun w place name key s n c told there up free k;
      families = parts.families_begun w place name deadline slot s n c told there up free k refl refl refl sound holds;
      open_words = parts.open_begun w place name deadline slot s n c told there up free k refl refl refl sound holds;
      records = parts.rests_begun w place name deadline slot s n c told there up free k refl refl refl sound holds;
      recorded = parts.recorded_begun w place name deadline slot s n c told there up free k refl refl refl sound holds;
      ends = parts.ends_begun w place name deadline slot s n c told there up free k refl refl refl sound holds;
      one_outcome = parts.one_outcome_begun w place name deadline slot s n c told there up free k refl refl refl sound holds;
      commits = parts.commits_begun w place name deadline slot s n c told there up free k refl refl refl sound holds;
      one_phase = parts.one_phase_begun w place name deadline slot s n c told there up free k refl refl refl sound holds;
      rollbacks = parts.rollbacks_begun w place name deadline slot s n c told there up free k refl refl refl sound holds;
      rolled_back = parts.rolled_back_begun w place name deadline slot s n c told there up free k refl refl refl sound holds;
      told_back = parts.told_back_begun w place name deadline slot s n c told there up free k refl refl refl sound holds;
      transactions = parts.transactions_begun w place name deadline slot s n c told there up free k refl refl refl sound holds;
      nodes = parts.nodes_begun w place name deadline slot s n c told there up free k refl refl refl sound holds;
      counted = parts.counted_begun w place name deadline slot s n c told there up free k refl refl refl sound holds;
      allowed = allowed_begun w name s.name key (slice_set w.seats place left) told free k fresh refl refl served;
    }

    begun_known : Known (begun_with place name s.name c (Ok key) w).world (told ++ (begun_with place name s.name c (Ok key) w).lines)
    begun_known =
        subst (λ (x : World). Known (with_name name (things.Transaction key) x) later)
        (sym (on_seat_there place (λ (x : Seat). record x { server = OfNode (Some c) }) w s there)) made_known

  by_room : (slot : ℕ) (b : Bool) → creates s.clock seconds n ≡ cond b (record { node = with_new make slot n; answer = Ok (next_key n slot) }) (makes_no_family n)
      → Known (begun_by place name s.name (creates s.clock seconds n) w).world (told ++ (begun_by place name s.name (creates s.clock seconds n) w).lines)
  by_room slot true is =
      subst (λ (x : Created). Known (begun_by place name s.name x w).world (told ++ (begun_by place name s.name x w).lines)) (sym is) (begun_known slot is)
  by_room slot false is =
      subst (λ (x : Created). Known (begun_by place name s.name x w).world (told ++ (begun_by place name s.name x w).lines)) (sym is)
      (known_refused w place name s.name n faults.NoResources told k)

  by_slot : (o : Option ℕ) → creates s.clock seconds n ≡ makes_in o make n
      → Known (begun_by place name s.name (creates s.clock seconds n) w).world (told ++ (begun_by place name s.name (creates s.clock seconds n) w).lines)
  by_slot (Some slot) is = by_room slot (nat_lt n.generation generation_limit) is
  by_slot None is =
      subst (λ (x : Created). Known (begun_by place name s.name x w).world (told ++ (begun_by place name s.name x w).lines)) (sym is)
      (known_refused w place name s.name n faults.NoResources told k)

  creates_is : creates s.clock seconds n ≡ makes_in (free_slot n) make n
  unfolding creates makes
  creates_is = refl

pub known_begin : NodesKeepDecisions → HeldRecordsStood → (w : World) (place : ℕ) (name : List ℕ) (seconds : ℕ) (s : Seat) (n : Node) → slice_get w.seats place ≡ Some s
    → s.server ≡ OfNode (Some n) → thing w name ≡ None → StaysKnown w (begins_at place name seconds s (Some n) w)
known_begin stays stood w place name seconds s n there up free told k =
    by_slot stays stood w place name seconds s n there up free told k (free_slot n) (creates_is stays stood w place name seconds s n there up free told k)
