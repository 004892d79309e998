-- What disks read is as before once something has come of a world, or there is more behind it: a life, or what a node has asked for
-- that has heard an answer. A decision is then of the life in which the node is.
use Rattle.std.proofs.Common.{◌≡◌, ℕ, ◌+◌, ◌-◌, Bool, true, false, List, [], ◌∷◌, ◌++◌, slice_get, Option, Some, None, refl, sym, ap, subst, ◌∙◌, inl, inr}
use Rattle.std.specs.Prelude.{Result, Ok, Err}
use Rattle.std.specs.List.{AllByRecursion}
use Rattle.ior_refs.specs.declared.key.ObjectKey.{ObjectKey}
use Rattle.ots_model.specs.declared.tree.Outward.{Outward}
use Rattle.ots_outside.specs.Disk.{at_first}
use Rattle.decision_journal.specs.Growing.{JournalsGrow}
use Rattle.decision_journal.specs.Journal.{Holds, StandsFor, found_in}
use Rattle.decision_journal.specs.Laws.{IsSettled}
use Rattle.decision_journal.specs.Loading.{LoadsAreSafe, loaded, next_life}
use Rattle.decision_journal.specs.declared.record.JournalRecord.{JournalRecord}
use Rattle.decision_journal.specs.declared.record.JournalRecord.TheVariants.{Decision}
use Rattle.coordinator.specs.Node.{Node, load}
use Rattle.coordinator.specs.NodeSlots.{creates}
use Rattle.coordinator.specs.declared.event.Act.TheVariants as acts
use Rattle.coordinator.specs.declared.node.NodeFault.{NodeFault}
use Rattle.coordinator.specs.declared.said.Said.{Said}
use Rattle.coordinator.specs.declared.said.Said.TheVariants as said
use Rattle.nodes_world.specs.declared.deed.Manner.{Manner}
use Rattle.nodes_world.specs.declared.deed.Manner.TheVariants as manners
use Rattle.nodes_world.specs.declared.message.Content.TheVariants as contents
use Rattle.nodes_world.specs.declared.message.Message.{Message}
use Rattle.nodes_world.specs.declared.thing.Thing.{Thing}
use Rattle.nodes_world.specs.declared.thing.Thing.TheVariants as things
use Rattle.nodes_world.specs.AgreementInside.{Known}
use Rattle.nodes_world.specs.AgreementSteps.{Goes, IsAlike, by_alike, by_begin, by_call, by_calling, by_crash, by_end, by_hearing, by_load, by_node, by_receipt, by_register, by_sub, by_tick, by_touch, by_word, kept_seat}
use Rattle.nodes_world.specs.Clients.{begins_at, begun_with, call_event, created, creates_sub, is_registered, registered, registered_if, registering, registers_at}
use Rattle.nodes_world.specs.Deliveries.{hears_answer, is_waited_for}
use Rattle.nodes_world.specs.Ends.{drawn_once, with_end, with_fresh}
use Rattle.nodes_world.specs.Happenings.{Done}
use Rattle.nodes_world.specs.Journals.{records_on}
use Rattle.nodes_world.specs.Laws.{RecordsAreRead}
use Rattle.nodes_world.specs.Lives.{loads, makes_end, new_end, new_seat, with_named_seat}
use Rattle.nodes_world.specs.Nodes.{crashes_seat}
use Rattle.nodes_world.specs.Objects.{place_of, reference, resource_key, service_at}
use Rattle.nodes_world.specs.Step.{lacks_life}
use Rattle.nodes_world.specs.Told.{Told}
use Rattle.nodes_world.specs.World.{World, Seat, Server, OfNode, OfEnd, FlatEnd, on_seat, thing_in, thing, with_new_seat, with_seat, with_server}
use Rattle.nodes_world.proofs.DisksSame.{DisksSame, IsQuietEvent, calls_same, end_same, name_same, new_seat_same, obeys_same, on_seat_same, quiet_by, quiet_call, resource_same, same_self, same_then, sent_same, server_same, steps_same, ticks_same}
use Rattle.nodes_world.proofs.Going.{on_seat_twice}
use Rattle.nodes_world.proofs.KnownAlike.{map_get}
use Rattle.nodes_world.proofs.KnownLoad.{held_as}
use Rattle.nodes_world.proofs.KnownSeats.{set_at}
use Rattle.nodes_world.proofs.LoadedDisks.{load_leaves}
use Rattle.nodes_world.proofs.LoadedLives.{life_fits}

-- a record that is a decision is one of this life
abbrev pub DecidesIn : ℕ → JournalRecord → Type 0
DecidesIn now (Decision life slot generation by asked regs) = life ≡ now
DecidesIn now _ = Unit {0}

-- the disk of a seat reads what it read, or further records behind that
pub data RecordsGoOn (place : ℕ) (s later : Seat) : Type 0 where
  same : later.disk.reads ≡ s.disk.reads → RecordsGoOn place s later
  more : (up : Option Node) (rs behind : List JournalRecord) → s.server ≡ OfNode up → records_on (service_at place) s.disk ≡ Some rs
      → records_on (service_at place) later.disk ≡ Some (rs ++ behind) → AllByRecursion (DecidesIn (found_in rs).life) behind
      → RecordsGoOn place s later

pub record SeatGoesOn (v : World) (place : ℕ) (s : Seat) : Type 0 where
  pub seat : Seat
  pub there : slice_get v.seats place ≡ Some seat
  pub name : seat.name ≡ s.name
  pub records : RecordsGoOn place s seat

pub record DisksGoOn (w v : World) : Type 0 where
  pub names : (name : List ℕ) (x : Thing) → thing w name ≡ Some x → thing v name ≡ Some x
  pub seats : (place : ℕ) (s : Seat) → slice_get w.seats place ≡ Some s → SeatGoesOn v place s

-- an answer that is heard leaves disks so
abbrev pub HearingsGoOn : Type 0
HearingsGoOn = (w : World) (told : List Told) (request from reply : ℕ) (o : Outward) (m back : Message) (answer : Said) (s : Seat)
    → Known w told → slice_get w.messages (request - 1) ≡ Some m → m.content ≡ contents.Request from o → slice_get w.messages reply ≡ Some back
    → back.content ≡ contents.Reply request answer → slice_get w.seats from ≡ Some s → is_waited_for w m from o ≡ true
    → DisksGoOn w (hears_answer (request - 1) m from o answer s w).world

pub same_goes : (w v : World) → DisksSame w v → DisksGoOn w v
same_goes w v is = record {
  names = is.names;
  seats = λ place s there.
      let at = is.seats place s there in
      record { seat = at.seat; there = at.there; name = at.name; records = same at.reads };
}

inner : {A : Type 0} {x y : A} → Some x ≡ Some y → x ≡ y
inner e = cc

-- ---- what changes nothing that is known

pub alike_same : (w v : World) → IsAlike w v → DisksSame w v
alike_same w v alike = record {
  names = λ name x is. ap (λ (ns : List (List ℕ × Thing)). thing_in ns name) alike.names ∙ is;
  seats = λ place s there.
      let at = map_get kept_seat w.seats v.seats place s (sym alike.seats) there in
      record { seat = at.0; there = at.1; name = ap (λ (x : Seat). x.name) at.2; reads = ap (λ (x : Seat). x.disk.reads) at.2 };
  back = λ place t there. let at = map_get kept_seat v.seats w.seats place t alike.seats there in inl (at.0, at.1);
}

-- ---- nodes and ends

pub seated_same : (name : List ℕ) (server : Server) (w : World) → DisksSame w (with_named_seat name server w)
seated_same name server w = same_then w (with_new_seat (new_seat name server) w) _ (new_seat_same (new_seat name server) w refl) (name_same name _ _)

pub made_end_same : (name : List ℕ) (w : World) → DisksSame w (makes_end name w).world
unfolding makes_end
made_end_same name w = seated_same name (OfEnd (Some new_end)) w

pub crash_same : (w : World) (place : ℕ) (s : Seat) → slice_get w.seats place ≡ Some s → DisksSame w (crashes_seat place s.disk.reads s w).world
crash_same w place s there =
    let down : Seat → Seat = λ x. record x { disk = at_first s.disk.reads; stop = None } in
    same_then w (on_seat place down w) _
    (on_seat_same place down w (λ x at. (refl, ap (λ (y : Seat). y.disk.reads) (inner (sym there ∙ at))))) (server_same place (OfNode None) _)

load_goes : JournalsGrow → LoadsAreSafe → RecordsAreRead → (w : World) (told : List Told) (place : ℕ) (s : Seat) (rs : List JournalRecord)
    → Known w told → slice_get w.seats place ≡ Some s → s.server ≡ OfNode None → records_on (service_at place) s.disk ≡ Some rs
    → lacks_life (service_at place) rs ≡ false → DisksGoOn w (loads place s (Some rs) w).world
load_goes grow safe read w told place s rs k there down held lacks =
    subst (DisksGoOn w) (sym (on_seat_twice place first second w s there)) goes
  where
    first : Seat → Seat
    first x = record x { disk = loaded (service_at place) rs s.disk; stop = None }

    second : Seat → Seat
    second x = record x { server = OfNode (Some (load (service_at place) rs)) }

    holds : Holds (service_at place) s.disk.reads rs
    holds = held_as w place s rs told there down held k

    left : StandsFor (service_at place) (loaded (service_at place) rs s.disk).reads (rs ++ next_life rs ∷ []) × IsSettled (loaded (service_at place) rs s.disk)
    left = load_leaves grow safe (service_at place) rs s.disk (k.disks.rests place s there down) holds (life_fits (service_at place) s.disk.reads rs holds) lacks

    up : Seat
    up = second (first s)

    own : RecordsGoOn place s up
    own = more None rs (next_life rs ∷ []) down held (read (service_at place) up.disk.reads (rs ++ next_life rs ∷ []) left.0) (tt, tt)

    goes : DisksGoOn w (with_seat place up w)
    goes = record {
      names = λ name x is. is;
      seats = λ p t at. elim (set_at w.seats place s up p there) [
        | inl here ↦
            let is : s ≡ t = inner (sym there ∙ ap (slice_get w.seats) (sym here.0) ∙ at) in
            record {
              seat = up;
              there = here.1;
              name = ap (λ (y : Seat). y.name) is;
              records = subst (λ (y : Seat). RecordsGoOn p y up) is (subst (λ (i : ℕ). RecordsGoOn i s up) (sym here.0) own);
            }
        | inr other ↦ record { seat = t; there = other ∙ at; name = refl; records = same refl }
      ];
    }

-- ---- transactions

pub begin_same : (w : World) (place : ℕ) (name : List ℕ) (seconds : ℕ) (s : Seat) (n : Node) → DisksSame w (begins_at place name seconds s (Some n) w).world
begin_same w place name seconds s n = by (creates s.clock seconds n).answer
  where
    by : (answer : Result ObjectKey NodeFault) → DisksSame w (begun_with place name s.name (creates s.clock seconds n).node answer w).world
    by (Ok key) =
        same_then w (with_server place (OfNode (Some (creates s.clock seconds n).node)) w) _
        (server_same place (OfNode (Some (creates s.clock seconds n).node)) w) (name_same name (things.Transaction key) _)
    by (Err fault) = same_self w

pub quiet_sub : (parent : ObjectKey) (message now : ℕ) → IsQuietEvent (call_event message parent acts.CreateSubtransaction now)
quiet_sub parent message now = quiet_by (call_event message parent acts.CreateSubtransaction now) refl (λ f. refl)

created_same : (parent : ObjectKey) (name : List ℕ) (answer : Said) (v : World) → DisksSame v (created parent name answer v).world
created_same parent name (said.Made branch) v = name_same name _ v
created_same parent name _ v = same_self v

pub sub_same : (w : World) (parent : ObjectKey) (name : List ℕ) → DisksSame w (creates_sub parent name w).world
unfolding creates_sub
sub_same w parent name = calls_same parent acts.CreateSubtransaction (created parent name) (quiet_sub parent) (created_same parent name) w

quiet_registering : (manner : Manner) (of to : ObjectKey) (octets : List ℕ) (message now : ℕ) → IsQuietEvent (call_event message of (registering manner octets) now)
quiet_registering manners.Resource of to octets message now = quiet_by (call_event message of (registering manners.Resource octets) now) refl (λ f. refl)
quiet_registering manners.Aware of to octets message now = quiet_by (call_event message of (registering manners.Aware octets) now) refl (λ f. refl)
quiet_registering manners.Double of to octets message now = quiet_by (call_event message of (registering manners.Double octets) now) refl (λ f. refl)

registered_same : (manner : Manner) (key : ObjectKey) (end : List ℕ) (transaction : ObjectKey) (name : List ℕ) (answer : Said) (v : World)
    → DisksSame v (registered manner key end transaction name answer v).world
registered_same manner key end transaction name answer v = by (is_registered manner answer)
  where
    by : (is : Bool) → DisksSame v (registered_if is manner key end transaction name v).world
    by true = same_then v (with_end (place_of key) (with_fresh key) v) _ (end_same (place_of key) (with_fresh key) v) (name_same name (things.Resource key) _)
    by false = same_self v

pub register_same : (w : World) (manner : Manner) (transaction : ObjectKey) (place : ℕ) (name : List ℕ) (s : Seat) (e : FlatEnd)
    → DisksSame w (registers_at manner transaction place s (Some e) name w).world
register_same w manner transaction place name s e =
    let key = resource_key manner place (e.drawn + 1) in
    let octets = reference s.name key in
    let drawn = with_end place drawn_once w in
    same_then w drawn _ (end_same place drawn_once w)
    (calls_same transaction (registering manner octets) (registered manner key s.name transaction name) (quiet_registering manner transaction key octets)
    (registered_same manner key s.name transaction name) drawn)

-- ---- each step

module _ (grow : JournalsGrow) (safe : LoadsAreSafe) (read : RecordsAreRead) (hearings : HearingsGoOn) where
  pub disks_go : (w : World) (told : List Told) (d : Done) → Known w told → Goes w d → DisksGoOn w d.world
  disks_go w told d k (by_alike v quiet alike all) = same_goes w v (alike_same w v alike)
  disks_go w told d k (by_receipt number) = same_goes w w (same_self w)
  disks_go w told d k (by_node name free room) = same_goes w _ (seated_same name (OfNode None) w)
  disks_go w told d k (by_end name free room short) = same_goes w _ (made_end_same name w)
  disks_go w told d k (by_load place s rs there down held lacks) = load_goes grow safe read w told place s rs k there down held lacks
  disks_go w told d k (by_crash place s n there up) = same_goes w _ (crash_same w place s there)
  disks_go w told d k (by_begin place name seconds s n there up free) = same_goes w _ (begin_same w place name seconds s n)
  disks_go w told d k (by_calling to act asked few) = same_goes w _ (sent_same _ w)
  disks_go w told d k (by_call nth now to act m there is asked) =
      same_goes w _ (steps_same (place_of to) to (call_event (nth + 1) to act now) w (quiet_call (nth + 1) to act now asked))
  disks_go w told d k (by_sub parent name free few) = same_goes w _ (sub_same w parent name)
  disks_go w told d k (by_register manner transaction place name s e there up free may few) =
      same_goes w _ (register_same w manner transaction place name s e)
  disks_go w told d k (by_touch name key r later named there touched) = same_goes w _ (resource_same key later w)
  disks_go w told d k (by_word nth place o is) = same_goes w _ (obeys_same (nth + 1) o w)
  disks_go w told d k (by_hearing request from reply o m back answer s there is replied says seated waits) =
      hearings w told request from reply o m back answer s k there is replied says seated waits
  disks_go w told d k (by_tick place s n there up) = same_goes w _ (ticks_same place s.clock n w)
