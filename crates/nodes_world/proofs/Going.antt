-- How changes of a world are put together, and that calls and words are made of them.
use Rattle.std.proofs.Common.{◌≡◌, ℕ, zero, suc, List, [], ◌∷◌, ◌++◌, length, slice_get, slice_set, find, Option, Some, None, refl, sym, ap, subst, ◌∙◌}
use Rattle.std.specs.Option.{option_and_then}
use Rattle.ior_refs.specs.declared.key.ObjectKey.{ObjectKey}
use Rattle.ots_model.specs.declared.completion.Stood.{Stood}
use Rattle.ots_model.specs.declared.tree.Outward.{Outward}
use Rattle.ots_outside.specs.Disk.{DiskState, at_first}
use Rattle.coordinator.specs.declared.event.Event.{Event}
use Rattle.coordinator.specs.declared.said.Said.{Said}
use Rattle.coordinator.specs.Node.{Node}
use Rattle.coordinator.specs.NodeCalls.{Applied, applies}
use Rattle.coordinator.specs.NodeTick.{Happening, Ticked, ticks}
use Rattle.nodes_world.specs.declared.message.Content.TheVariants as contents
use Rattle.nodes_world.specs.declared.message.Message.{Message}
use Rattle.nodes_world.specs.Disks.{Stop}
use Rattle.nodes_world.specs.Journals.{Asked, Answers, Stops}
use Rattle.nodes_world.specs.Objects.{place_of}
use Rattle.nodes_world.specs.World.{World, Seat, Server, OfNode, OfEnd, FlatEnd, FlatResource, node_in, end_in, end_at, resource_at, has_number, on_seat, with_seat, with_server, with_disk, with_sent, with_message}
use Rattle.nodes_world.specs.Happenings.{Done, new_message, requests, requests_all, replies}
use Rattle.nodes_world.specs.Nodes.{Stepping, steps, steps_by, steps_node, crashes, crashes_seat, happens, happens_all, ticks_node}
use Rattle.nodes_world.specs.Ends.{with_end, with_resource, with_resource_at}
use Rattle.nodes_world.specs.Changes.{CallIsDelivered, SeatBecomes, by_call, by_crash_inside, by_end, by_tick, EndBecomes, by_change, ResourceBecomes, WorldBecomes, by_seat, by_sending, by_message, WorldGoesOn, still, further, asked_of, left_with, MessageBecomes}

-- ---- places of a list

pub get_set : {A : Type 0} (xs : List A) (i : ℕ) (x y : A) → slice_get xs i ≡ Some x → slice_get (slice_set xs i y) i ≡ Some y
get_set [] i x y is = absurd cc
get_set (z ∷ xs) zero x y is = refl
get_set (z ∷ xs) (suc i) x y is = get_set xs i x y is

pub set_twice : {A : Type 0} (xs : List A) (i : ℕ) (x y : A) → slice_set (slice_set xs i x) i y ≡ slice_set xs i y
set_twice [] i x y = refl
set_twice (z ∷ xs) zero x y = refl
set_twice (z ∷ xs) (suc i) x y = ap (λ zs. z ∷ zs) (set_twice xs i x y)

pub get_last : {A : Type 0} (xs : List A) (x : A) → slice_get (xs ++ x ∷ []) (length xs) ≡ Some x
get_last [] x = refl
get_last (z ∷ xs) x = get_last xs x

-- ---- one change after another

pub goes_then : (a b c : World) → WorldGoesOn a b → WorldGoesOn b c → WorldGoesOn a c
goes_then a b c first still = first
goes_then a b c first (further between later before last) = further between later (goes_then a b between first before) last

-- a world goes on, and no name is given
pub record GoesUnnamed (w later : World) : Type 0 where
  pub goes : WorldGoesOn w later
  pub names : later.names ≡ w.names

pub stays : (w : World) → GoesUnnamed w w
stays w = record { goes = still; names = refl }

pub once : (w later : World) → WorldBecomes w later → later.names ≡ w.names → GoesUnnamed w later
once w later change same = record { goes = further w later still change; names = same }

pub and_then : (a b c : World) → GoesUnnamed a b → GoesUnnamed b c → GoesUnnamed a c
and_then a b c first later = record { goes = goes_then a b c first.goes later.goes; names = later.names ∙ first.names }

-- ---- seats

-- a seat that is there is changed
pub on_seat_there : (place : ℕ) (change : Seat → Seat) (w : World) (s : Seat) → slice_get w.seats place ≡ Some s
    → on_seat place change w ≡ with_seat place (change s) w
on_seat_there place change w s there =
    ap (λ (o : Option Seat). elim o as (λ _. World) [ Some x ↦ with_seat place (change x) w | None ↦ w ]) there

-- and changed again
pub on_seat_twice : (place : ℕ) (first then : Seat → Seat) (w : World) (s : Seat) → slice_get w.seats place ≡ Some s
    → on_seat place then (on_seat place first w) ≡ with_seat place (then (first s)) w
on_seat_twice place first then w s there =
    let once = on_seat_there place first w s there in
    ap (on_seat place then) once
    ∙ on_seat_there place then (with_seat place (first s) w) (first s) (get_set w.seats place s (first s) there)
    ∙ ap (λ seats. record w { seats = seats }) (set_twice w.seats place (first s) (then (first s)))

pub seat_becomes : (place : ℕ) (s later : Seat) (w v : World) → slice_get w.seats place ≡ Some s → SeatBecomes place s later
    → v ≡ with_seat place later w → GoesUnnamed w v
seat_becomes place s later w v there change is =
    subst (GoesUnnamed w) (sym is) (once w (with_seat place later w) (by_seat place s later there change) refl)

-- ---- messages

pub sends_one : (m : Message) (w : World) → CallIsDelivered m → GoesUnnamed w (with_sent m w)
sends_one m w delivered = once w (with_sent m w) (by_sending m delivered) refl

pub requests_unnamed : (place : ℕ) (o : Outward) (w : World) → GoesUnnamed w (requests place o w).world
unfolding requests
requests_unnamed place o w = sends_one (new_message (contents.Request place o)) w (λ to act says. cc)

pub requests_all_unnamed : (place : ℕ) (some : List Outward) (w : World) → GoesUnnamed w (requests_all place some w).world
requests_all_unnamed place [] w = stays w
requests_all_unnamed place (o ∷ others) w =
    and_then w (requests place o w).world (requests_all place others (requests place o w).world).world (requests_unnamed place o w)
    (requests_all_unnamed place others (requests place o w).world)

pub replies_unnamed : (request : ℕ) (answer : Said) (w : World) → GoesUnnamed w (replies request answer w).world
unfolding replies
replies_unnamed request answer w = sends_one (new_message (contents.Reply request answer)) w (λ to act says. cc)

-- something becomes of a message that is there
pub message_becomes : (place : ℕ) (m later : Message) (w : World) → slice_get w.messages place ≡ Some m → MessageBecomes m later
    → GoesUnnamed w (with_message place later w)
message_becomes place m later w there change = once w (with_message place later w) (by_message place m later there change) refl

-- ---- a call to a node

pub node_up : (server : Server) (n : Node) → node_in server ≡ Some n → server ≡ OfNode (Some n)
node_up (OfNode (Some m)) n is = cc
node_up (OfNode None) n is = absurd cc
node_up (OfEnd e) n is = absurd cc

-- its journal answers
answers_unnamed : (place : ℕ) (k : ObjectKey) (e : Event) (n : Node) (s : Seat) (stood : Option Stood) (disk : DiskState) (stop : Option Stop) (w : World)
    → slice_get w.seats place ≡ Some s → s.server ≡ OfNode (Some n) → asked_of s n k e ≡ Answers stood disk stop
    → GoesUnnamed w (steps_by (Answers stood disk stop) place k e n w).done.world
answers_unnamed place k e n s stood disk stop w there up asked =
    let a : Applied = applies k e stood n in
    let seated = with_server place (OfNode (Some a.node)) (with_disk place disk stop w) in
    let later : Seat = record s { disk = disk; stop = stop; server = OfNode (Some a.node) } in
    let becomes = seat_becomes place s later w seated there (by_call s n k e stood disk stop up asked)
    (on_seat_twice place (λ (x : Seat). record x { disk = disk; stop = stop }) (λ (x : Seat). record x { server = OfNode (Some a.node) }) w s there) in
    and_then w seated (requests_all place a.words seated).world becomes (requests_all_unnamed place a.words seated)

-- a node goes down with an image
pub crashes_unnamed : (place : ℕ) (image : List ℕ) (s : Seat) (w : World) → slice_get w.seats place ≡ Some s → SeatBecomes place s (left_with image s)
    → GoesUnnamed w (crashes place image w).world
unfolding crashes
crashes_unnamed place image s w there change =
    let down = (crashes_seat place image s w).world in
    let is = ap (λ (o : Option Seat). (elim o as (λ _. Done) [ Some x ↦ crashes_seat place image x w | None ↦ record { world = w; lines = [] } ]).world) there in
    seat_becomes place s (left_with image s) w _ there change
    (is ∙ on_seat_twice place (λ (x : Seat). record x { disk = at_first image; stop = None }) (λ (x : Seat). record x { server = OfNode None }) w s there)

-- what comes of asking it
steps_by_unnamed : (asked : Asked) (place : ℕ) (k : ObjectKey) (e : Event) (n : Node) (s : Seat) (w : World)
    → slice_get w.seats place ≡ Some s → s.server ≡ OfNode (Some n) → asked_of s n k e ≡ asked
    → GoesUnnamed w (steps_by asked place k e n w).done.world
steps_by_unnamed (Answers stood disk stop) place k e n s w there up asked = answers_unnamed place k e n s stood disk stop w there up asked
steps_by_unnamed (Stops image) place k e n s w there up asked = crashes_unnamed place image s w there (by_crash_inside s n k e image up asked)

steps_node_unnamed : (up : Option Node) (s : Seat) (place : ℕ) (k : ObjectKey) (e : Event) (w : World) → slice_get w.seats place ≡ Some s
    → node_in s.server ≡ up → GoesUnnamed w (steps_node up s place k e w).done.world
steps_node_unnamed (Some n) s place k e w there up = steps_by_unnamed (asked_of s n k e) place k e n s w there (node_up s.server n up) refl
steps_node_unnamed None s place k e w there up = stays w

pub steps_unnamed : (place : ℕ) (k : ObjectKey) (e : Event) (w : World) → GoesUnnamed w (steps place k e w).done.world
unfolding steps
steps_unnamed place k e w = by (slice_get w.seats place) refl
  where
    by : (o : Option Seat) → slice_get w.seats place ≡ o
        → GoesUnnamed w (elim o as (λ _. Stepping) [ Some s ↦ steps_node (node_in s.server) s place k e w | None ↦ record { done = record { world = w; lines = [] }; answer = None } ]).done.world
    by (Some s) there = steps_node_unnamed (node_in s.server) s place k e w there refl
    by None there = stays w

-- ---- a tick

pub happens_all_unnamed : (place : ℕ) (later : Node) (some : List Happening) (w : World) → GoesUnnamed w (happens_all place later some w).world
happens_all_unnamed place later [] w = stays w
happens_all_unnamed place later (h ∷ others) w =
    and_then w (happens place later h w).world (happens_all place later others (happens place later h w).world).world
    (requests_all_unnamed place h.words w) (happens_all_unnamed place later others (happens place later h w).world)

pub ticks_unnamed : (place now : ℕ) (n : Node) (s : Seat) (w : World) → slice_get w.seats place ≡ Some s → s.server ≡ OfNode (Some n)
    → GoesUnnamed w (ticks_node place now n w).world
unfolding ticks_node
ticks_unnamed place now n s w there up =
    let t : Ticked = ticks now n in
    let seated = with_server place (OfNode (Some t.node)) w in
    let told = (happens_all place t.node t.happened seated).world in
    let becomes = seat_becomes place s (record s { server = OfNode (Some t.node) }) w seated there (by_tick s n now up)
    (on_seat_there place (λ (x : Seat). record x { server = OfNode (Some t.node) }) w s there) in
    and_then w told (requests_all place t.words told).world
    (and_then w seated told becomes (happens_all_unnamed place t.node t.happened seated)) (requests_all_unnamed place t.words told)

-- ---- an end

-- where an end is up, its seat is there
pub record EndIsUp (w : World) (place : ℕ) (e : FlatEnd) : Type 0 where
  pub seat : Seat
  pub there : slice_get w.seats place ≡ Some seat
  pub up : seat.server ≡ OfEnd (Some e)

pub end_up : (server : Server) (e : FlatEnd) → end_in server ≡ Some e → server ≡ OfEnd (Some e)
end_up (OfEnd (Some f)) e is = cc
end_up (OfEnd None) e is = absurd cc
end_up (OfNode n) e is = absurd cc

pub end_is_up : (w : World) (place : ℕ) (e : FlatEnd) → end_at w place ≡ Some e → EndIsUp w place e
unfolding end_at
end_is_up w place e is = by (slice_get w.seats place) refl is
  where
    by : (o : Option Seat) → slice_get w.seats place ≡ o → option_and_then (λ (s : Seat). end_in s.server) o ≡ Some e → EndIsUp w place e
    by (Some s) there is = record { seat = s; there = there; up = end_up s.server e is }
    by None there is = absurd cc

-- an end changes where one is up
pub ends_unnamed : (place : ℕ) (change : FlatEnd → FlatEnd) (w : World) → ((e : FlatEnd) → end_at w place ≡ Some e → EndBecomes e (change e))
    → GoesUnnamed w (with_end place change w)
ends_unnamed place change w becomes = by (end_at w place) refl
  where
    by : (o : Option FlatEnd) → end_at w place ≡ o
        → GoesUnnamed w (elim o as (λ _. World) [ Some e ↦ with_server place (OfEnd (Some (change e))) w | None ↦ w ])
    by (Some e) is =
        let at = end_is_up w place e is in
        seat_becomes place at.seat (record at.seat { server = OfEnd (Some (change e)) }) w _ at.there (by_end at.seat e (change e) at.up (becomes e is))
        (on_seat_there place (λ (x : Seat). record x { server = OfEnd (Some (change e)) }) w at.seat at.there)
    by None is = stays w

-- a resource changes
found_there : (w : World) (key : ObjectKey) (r : FlatResource) (e : FlatEnd) → resource_at w key ≡ Some r → end_at w (place_of key) ≡ Some e
    → find (has_number key) e.resources ≡ Some r
unfolding resource_at
found_there w key r e is up = sym (ap (λ (o : Option FlatEnd). option_and_then (λ (x : FlatEnd). find (has_number key) x.resources) o) up) ∙ is

pub resource_unnamed : (key : ObjectKey) (r later : FlatResource) (w : World) → resource_at w key ≡ Some r → ResourceBecomes r later
    → GoesUnnamed w (with_resource_at key later w)
unfolding with_resource_at
resource_unnamed key r later w is change =
    ends_unnamed (place_of key) (with_resource later) w (λ e up. by_change e key r later (found_there w key r e is up) change)
