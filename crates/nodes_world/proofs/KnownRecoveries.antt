-- What is known of a world is known once a node that is up holds other records to be told again, each of which it held before or which
-- stands.
use Rattle.std.proofs.Common.{◌≡◌, ◌≢◌, ◌⊎◌, inl, inr, ℕ, ◌≤◌, false, List, [], slice_get, slice_set, Contains, Option, Some, None, refl, sym, ap, subst, ◌∙◌, append-nil, arith}
use Rattle.std.specs.List.{list_any}
use Rattle.std.specs.Option.{option_and_then, option_map_or}
use Rattle.ior_refs.specs.declared.key.ObjectKey.{ObjectKey}
use Rattle.ots_model.specs.Safe.{Stands}
use Rattle.ots_model.specs.declared.line.Line.TheVariants as lines
use Rattle.ots_model.specs.declared.tree.Outward.{Outward}
use Rattle.decision_journal.specs.Journal.{Holds, found_in}
use Rattle.decision_journal.specs.Laws.{IsSettled}
use Rattle.decision_journal.specs.declared.record.JournalRecord.{JournalRecord}
use Rattle.recovery_coord.specs.Limits.{retold_slot}
use Rattle.recovery_coord.specs.declared.held.Held.{Held}
use Rattle.coordinator.specs.Family.{Family}
use Rattle.coordinator.specs.Node.{Node, family_in, family_of, life, only_of}
use Rattle.coordinator.specs.NodeParts.{IsWhole}
use Rattle.family_laws.specs.HeldRecords.{IsOfStanding, WasHeld}
use Rattle.family_laws.specs.OwnDecisions.{KeepsDecisions}
use Rattle.nodes_world.specs.Agreement.{FollowsDisk, HasSent, HoldsDecisions, records_at}
use Rattle.nodes_world.specs.AgreementInside.{Known, DisksAreKnown, NodeIsKnown, edge_at}
use Rattle.nodes_world.specs.Laws.{IsInOrder}
use Rattle.nodes_world.specs.Objects.{place_of, service_at}
use Rattle.nodes_world.specs.Told.{Told, known}
use Rattle.nodes_world.specs.World.{World, Seat, OfNode, end_in, family_at, node_at, node_in, with_seat}
use Rattle.nodes_world.proofs.Deeds.{node_is_up}
use Rattle.nodes_world.proofs.Edges.{edge_kept}
use Rattle.nodes_world.proofs.Going.{get_set}
use Rattle.nodes_world.proofs.KnownLines.{lines_of}
use Rattle.nodes_world.proofs.KnownTelling.{is_bare, tells_on, TellsOn}
use Rattle.nodes_world.proofs.KnownWorlds.{Frame, WasUp, follows_self, framed_known, node_there}
use Rattle.nodes_world.proofs.KnownAlike.{referred_by, resources_by}
use Rattle.nodes_world.proofs.KnownSeats.{disks_kept, ends_kept, seat_names_kept, seats_kept, set_at, set_cases}
use Rattle.nodes_world.proofs.KnownTouch.{set_other}
use Rattle.nodes_world.proofs.HeldLines.{held_as}
use Rattle.nodes_world.proofs.SoundNodes.{held_whole, node_holds, node_whole}

same_or_not : (a b : ℕ) → (a ≡ b) ⊎ (a ≢ b)
same_or_not a b = grind arith

inner : {A : Type 0} (x y : A) → Some x ≡ Some y → x ≡ y
inner x y e = cc

module _ (w : World) (place : ℕ) (s : Seat) (n m : Node) (told : List Told) (there : slice_get w.seats place ≡ Some s) (up : s.server ≡ OfNode (Some n))
    (k : Known w told) (service : m.service ≡ n.service) (found : m.found ≡ n.found) (families : m.families ≡ n.families) (generation : m.generation ≡ n.generation)
    (sound : KeepsDecisions (edge_at w place) m) (holds : (h : Held) → Contains m.recovered h → WasHeld n.recovered h ⊎ IsOfStanding n.found.standing h) where
  abbrev left : Seat
  left = record s { server = OfNode (Some m) }

  abbrev v : World
  v = with_seat place left w

  node_up : node_at w place ≡ Some n
  node_up = node_there w place s n there up

  some_node : (c : Node) → OfNode (Some m) ≡ OfNode (Some c) → m ≡ c
  some_node c e = cc

  records_same : (p : ℕ) → records_at v p ≡ records_at w p
  records_same p = disks_kept w place s left there refl refl p

  -- its families are as before
  family_same : (key : ObjectKey) → family_of key m ≡ family_of key n
  unfolding family_of
  family_same key = ap (λ (fs : List (Option Family)). option_and_then (only_of key) (family_in fs key.slot)) families

  family_back : (key : ObjectKey) (f : Family) → family_at v key ≡ Some f → family_at w key ≡ Some f
  unfolding node_at
  family_back key f is = elim (set_at w.seats place s left (place_of key) there) [
    | inl here ↦
        ap (λ (i : ℕ). option_and_then (family_of key) (option_and_then (λ (x : Seat). node_in x.server) (slice_get w.seats i))) here.0
        ∙ ap (λ (o : Option Seat). option_and_then (family_of key) (option_and_then (λ (x : Seat). node_in x.server) o)) there
        ∙ ap (λ (x : _). option_and_then (family_of key) (node_in x)) up
        ∙ sym (family_same key)
        ∙ sym (ap (λ (o : Option Seat). option_and_then (family_of key) (option_and_then (λ (x : Seat). node_in x.server) o)) here.1) ∙ is
    | inr other ↦ sym (ap (λ (o : Option Seat). option_and_then (family_of key) (option_and_then (λ (x : Seat). node_in x.server) o)) other) ∙ is
  ]

  node_then : NodeIsKnown v told place m
  node_then =
      let old = k.nodes place n node_up in
      record {
        sound = edge_kept v w place m (records_same place) sound;
        given = λ name key named at in_life.
            let less = old.given name key named at (in_life ∙ ap (λ (x : _). x.life) found) in
            subst (λ (g : ℕ). key.generation ≤ g) (sym generation) less;
        order = λ x rs at held.
            subst (λ (y : Seat). IsInOrder (service_at place) y.disk rs) (inner left x (sym (get_set w.seats place s left there) ∙ at))
            (old.order s rs there (sym (records_same place) ∙ held));
        held = λ rs h held among.
            let now = held_as w told k place n node_up rs (sym (records_same place) ∙ held) h (holds h among) in
            record {
              stood = now.stood;
              there = now.there;
              same_place = now.same_place;
              numbers = now.numbers;
              references = now.references;
              line = now.line;
            };
      }

  nodes_then : (p : ℕ) (c : Node) → node_at v p ≡ Some c → WasUp w v p c ⊎ NodeIsKnown v told p c
  nodes_then p c is =
      let at = node_is_up v p c is in
      elim (same_or_not p place) [
        | inl here ↦
            let seat = inner left at.seat (sym (get_set w.seats place s left there) ∙ ap (slice_get (slice_set w.seats place left)) (sym here) ∙ at.there) in
            inr (subst (λ (i : ℕ). NodeIsKnown v told i c) (sym here)
            (subst (NodeIsKnown v told place) (some_node c (ap (λ (x : Seat). x.server) seat ∙ at.up)) node_then))
        | inr other ↦ inl (record {
          up = node_there w p at.seat c (sym (set_other w.seats place p left other) ∙ at.there) at.up;
          records = records_same p;
          disks = λ x now. (x, sym (set_other w.seats place p left other) ∙ now, refl);
        })
      ]

  frame : Frame w v told told
  frame = record {
    tells = subst (TellsOn is_bare told) (append-nil told) (tells_on is_bare told [] tt);
    allowed = λ all. all;
    decided = λ name key named stands. inl stands;
    commits = λ name key f at named stands. stands;
    named = λ name stands. inl stands;
    transaction_on = λ name key is. is;
    transaction_back = λ name key is. is;
    resource_on = λ name key is. is;
    resource_back = λ name key is. is;
    refers = λ to. referred_by w v to refl (seat_names_kept w place s left there refl);
    resources = λ key. resources_by w v key (ends_kept w place s left there refl (sym (ap end_in up)) (place_of key));
    messages_on = λ nth x at. (x, at, refl);
    messages_back = λ nth x at heard. (x, at, refl);
    families = family_back;
    records = λ p rs held. inl (rs, sym (records_same p) ∙ held, follows_self rs);
    has = λ p is_so none other. ap (λ (o : Option (List JournalRecord)). option_map_or (λ (rs : List JournalRecord). list_any is_so rs) o false) (records_same p);
    seats = λ p server is. seat_names_kept w place s left there refl p ∙ is;
    nodes = nodes_then;
    counted = λ was. record {
      numbers = λ p e is. was.numbers p e (sym (ends_kept w place s left there refl (sym (ap end_in up)) p) ∙ is);
      messages = λ p e is. was.messages p e (sym (ends_kept w place s left there refl (sym (ap end_in up)) p) ∙ is);
      short = λ p e name is named. was.short p e name (sym (ends_kept w place s left there refl (sym (ap end_in up)) p) ∙ is) (sym (seat_names_kept w place s left there refl p) ∙ named);
    };
  }

  -- ---- its disk

  whole : (h : Held) → Contains m.recovered h → IsOfStanding m.found.standing h
  whole h among = held_whole n m found (λ x old. (k.disks.decisions place s n there up).whole x old) h (holds h among)

  follows : FollowsDisk place left m
  follows =
      let was = k.disks.follows place s n there up in
      record { service = service ∙ was.service; records = was.records; held = was.held; found = found ∙ was.found; settled = was.settled }

  -- a seat then is the one of the node, or was there
  seats_by : (P : ℕ → Seat → Type 0) → P place left → ((p : ℕ) (x : Seat) → slice_get w.seats p ≡ Some x → P p x) → (p : ℕ) (x : Seat)
      → slice_get v.seats p ≡ Some x → P p x
  seats_by P new old p x at = elim (set_cases w.seats place s left p x there at) [
    | inl here ↦ subst (λ (i : ℕ). P i x) (sym here.0) (subst (P place) here.1 new)
    | inr was ↦ old p x was
  ]

  disks_then : DisksAreKnown v told
  disks_then = record {
    held = λ p x o. seats_by (λ p x. x.server ≡ OfNode o → (rs : List JournalRecord) × Holds (service_at p) x.disk.reads rs × (records_at v p ≡ Some rs))
        (λ is. let was = k.disks.held place s (Some n) there up in (was.0, was.1, records_same place ∙ was.2))
        (λ p x at is. let was = k.disks.held p x o at is in (was.0, was.1, records_same p ∙ was.2)) p x;
    whole = λ p x c. seats_by (λ p x. x.server ≡ OfNode (Some c) → IsWhole c) (λ is. subst IsWhole (some_node c is) (node_whole place m follows.service sound.sound whole))
        (λ p x at is. k.disks.whole p x c at is) p x;
    follows = λ p x c. seats_by (λ p x. x.server ≡ OfNode (Some c) → FollowsDisk p x c) (λ is. subst (FollowsDisk place left) (some_node c is) follows)
        (λ p x at is. k.disks.follows p x c at is) p x;
    decisions = λ p x c. seats_by (λ p x. x.server ≡ OfNode (Some c) → HoldsDecisions p c)
        (λ is. subst (HoldsDecisions place) (some_node c is) (node_holds place m follows.service sound.sound whole))
        (λ p x at is. k.disks.decisions p x c at is) p x;
    rise = k.disks.rise;
    lives = λ p x o in_life rs at is stands has. lives_then p x o in_life rs at is stands (sym (records_same p) ∙ has);
    no_superior = λ p rs r has among. k.disks.no_superior p rs r (sym (records_same p) ∙ has) among;
    rests = seats_by (λ p x. x.server ≡ OfNode None → IsSettled x.disk) (λ is. absurd (up_still is)) (λ p x at is. k.disks.rests p x at is);
  }
    where
      up_still : OfNode (Some m) ≡ OfNode None → ⊥
      up_still e = cc

      lives_then : (p : ℕ) (x : Seat) (o : Option Node) (in_life : ℕ) (rs : List JournalRecord) → slice_get v.seats p ≡ Some x → x.server ≡ OfNode o
          → Stands (lines.Up x.name in_life) (known told) → records_at w p ≡ Some rs → in_life ≤ (found_in rs).life
      lives_then p x o in_life rs = seats_by (λ p x. x.server ≡ OfNode o → Stands (lines.Up x.name in_life) (known told) → records_at w p ≡ Some rs → in_life ≤ (found_in rs).life)
          (λ is stands has. k.disks.lives place s (Some n) in_life rs there up stands has)
          (λ p x at is stands has. k.disks.lives p x o in_life rs at is stands has) p x

  given_then : (p : ℕ) (x : Seat) (c : Node) (o : Outward) → slice_get v.seats p ≡ Some x → x.server ≡ OfNode (Some c) → HasSent w p o
      → o.number.life ≡ life c → (o.number.slot ≡ retold_slot) ⊎ (o.number.generation ≤ c.generation)
  given_then p x c o = seats_by (λ p x. x.server ≡ OfNode (Some c) → HasSent w p o → o.number.life ≡ life c → (o.number.slot ≡ retold_slot) ⊎ (o.number.generation ≤ c.generation))
      (λ is sent same. subst (λ (y : Node). (o.number.slot ≡ retold_slot) ⊎ (o.number.generation ≤ y.generation)) (some_node c is)
      (subst (λ (g : ℕ). (o.number.slot ≡ retold_slot) ⊎ (o.number.generation ≤ g)) (sym generation)
      (k.words.given place s n o there up sent (same ∙ ap life (sym (some_node c is)) ∙ ap (λ (y : _). y.life) found))))
      (λ p x at is sent same. k.words.given p x c o at is sent same) p x

  pub recoveries_known : Known v told
  recoveries_known =
      framed_known w v told told frame k k.names.keys k.names.once
      (seats_kept w place s left there refl (lines_of told) (lines_of told) k.seats (λ name in_life stands. k.seats.up name in_life stands))
      disks_then given_then
