-- A client's call leaves each end as it was, and what an end becomes stands at its place.
use Rattle.std.proofs.Common.{◌≡◌, ℕ, zero, suc, List, [], ◌∷◌, slice_get, slice_set, Option, Some, None, refl, sym, ap, ◌∙◌}
use Rattle.std.specs.Option.{option_and_then}
use Rattle.ior_refs.specs.declared.key.ObjectKey.{ObjectKey}
use Rattle.ots_outside.specs.Disk.{DiskState, at_first}
use Rattle.ots_model.specs.declared.tree.Outward.{Outward}
use Rattle.coordinator.specs.declared.event.Act.{Act}
use Rattle.coordinator.specs.declared.event.Event.{Event}
use Rattle.coordinator.specs.Node.{Node}
use Rattle.coordinator.specs.NodeCalls.{Applied, applies, call_wants}
use Rattle.nodes_world.specs.declared.message.Message.{Message}
use Rattle.nodes_world.specs.declared.message.Content.TheVariants as contents
use Rattle.nodes_world.specs.Clients.{call_event}
use Rattle.nodes_world.specs.Disks.{Stop}
use Rattle.nodes_world.specs.Ends.{with_end}
use Rattle.nodes_world.specs.Happenings.{Done, client_message, new_message, nothing, requests, requests_all}
use Rattle.nodes_world.specs.Journals.{Asked, Answers, Stops, asks}
use Rattle.nodes_world.specs.Nodes.{Stepping, crashes, crashes_seat, no_step, steps, steps_by, steps_node}
use Rattle.nodes_world.specs.Objects.{place_of}
use Rattle.nodes_world.specs.World.{FlatEnd, OfEnd, OfNode, Seat, Server, World, end_at, end_in, next_message, node_in, on_seat, with_disk, with_seat, with_sent, with_server}
use Rattle.nodes_clients.specs.Calling.{sends_call}
use Rattle.nodes_clients.specs.Called.{acts_in, called}

abbrev end_of_seat : Option Seat → Option FlatEnd
end_of_seat o = option_and_then (λ (s : Seat). end_in s.server) o

-- each end stays
abbrev KeepsEnds : World → World → Type 0
KeepsEnds w v = (q : ℕ) → end_at v q ≡ end_at w q

end_set : (xs : List Seat) (place q : ℕ) (s x : Seat) → slice_get xs place ≡ Some s → end_in x.server ≡ end_in s.server
    → end_of_seat (slice_get (slice_set xs place x) q) ≡ end_of_seat (slice_get xs q)
end_set [] place q s x there same = refl
end_set (y ∷ xs) zero zero s x there same = same ∙ ap end_of_seat (sym there)
end_set (y ∷ xs) zero (suc q) s x there same = refl
end_set (y ∷ xs) (suc place) zero s x there same = refl
end_set (y ∷ xs) (suc place) (suc q) s x there same = end_set xs place q s x there same

end_on_seat : (place : ℕ) (change : Seat → Seat) (w : World)
    → ((s : Seat) → slice_get w.seats place ≡ Some s → end_in (change s).server ≡ end_in s.server) → KeepsEnds w (on_seat place change w)
unfolding end_at
end_on_seat place change w same q = by_seat (slice_get w.seats place) refl
  where
    by_seat : (o : Option Seat) → slice_get w.seats place ≡ o
        → end_of_seat (slice_get (elim o as (λ _. World) [ Some s ↦ with_seat place (change s) w | None ↦ w ]).seats q) ≡ end_of_seat (slice_get w.seats q)
    by_seat (Some s) there = end_set w.seats place q s (change s) there (same s there)
    by_seat None there = refl

disk_kept : (place : ℕ) (disk : DiskState) (stop : Option Stop) (w : World) → KeepsEnds w (with_disk place disk stop w)
disk_kept place disk stop w = end_on_seat place (λ (s : Seat). record s { disk = disk; stop = stop }) w (λ s there. refl)

server_kept : (place : ℕ) (up : Option Node) (w : World) → end_at w place ≡ None → KeepsEnds w (with_server place (OfNode up) w)
unfolding end_at
server_kept place up w none =
    end_on_seat place (λ (s : Seat). record s { server = OfNode up }) w (λ s there. sym (sym (ap end_of_seat there) ∙ none))

node_kept : (place : ℕ) (up : Option Node) (disk : DiskState) (stop : Option Stop) (w : World) → end_at w place ≡ None
    → KeepsEnds w (with_server place (OfNode up) (with_disk place disk stop w))
node_kept place up disk stop w none q =
    server_kept place up (with_disk place disk stop w) (disk_kept place disk stop w place ∙ none) q ∙ disk_kept place disk stop w q

sent_kept : (m : Message) (w : World) → KeepsEnds w (with_sent m w)
unfolding end_at
sent_kept m w q = refl

request_kept : (place : ℕ) (o : Outward) (w : World) → KeepsEnds w (requests place o w).world
unfolding requests
request_kept place o w q = sent_kept (new_message (contents.Request place o)) w q

requests_kept : (place : ℕ) (words : List Outward) (w : World) → KeepsEnds w (requests_all place words w).world
requests_kept place [] w q = refl
requests_kept place (o ∷ others) w q = requests_kept place others (requests place o w).world q ∙ request_kept place o w q

crashes_kept : (place : ℕ) (image : List ℕ) (w : World) → end_at w place ≡ None → KeepsEnds w (crashes place image w).world
unfolding crashes
crashes_kept place image w none q = by_seat (slice_get w.seats place)
  where
    by_seat : (o : Option Seat) → end_at (elim o as (λ _. Done) [ Some s ↦ crashes_seat place image s w | None ↦ nothing w ]).world q ≡ end_at w q
    by_seat (Some s) = node_kept place None (at_first image) None w none q
    by_seat None = refl

asked_kept : (a : Asked) (place : ℕ) (k : ObjectKey) (e : Event) (n : Node) (w : World) → end_at w place ≡ None
    → KeepsEnds w (steps_by a place k e n w).done.world
asked_kept (Answers stood disk stop) place k e n w none q =
    let a : Applied = applies k e stood n in
    requests_kept place a.words (with_server place (OfNode (Some a.node)) (with_disk place disk stop w)) q
    ∙ node_kept place (Some a.node) disk stop w none q
asked_kept (Stops image) place k e n w none q = crashes_kept place image w none q

no_end : (v : Server) (n : Node) → node_in v ≡ Some n → end_in v ≡ None
no_end (OfNode up) n is = refl
no_end (OfEnd up) n is = absurd cc

no_end_there : (w : World) (place : ℕ) (s : Seat) (n : Node) → slice_get w.seats place ≡ Some s → node_in s.server ≡ Some n → end_at w place ≡ None
unfolding end_at
no_end_there w place s n there is = ap end_of_seat there ∙ no_end s.server n is

by_node : (o : Option Node) (s : Seat) (place : ℕ) (k : ObjectKey) (e : Event) (w : World) → slice_get w.seats place ≡ Some s → node_in s.server ≡ o
    → KeepsEnds w (steps_node o s place k e w).done.world
by_node (Some n) s place k e w there is q =
    asked_kept (asks (call_wants k e n) n.service n.found s.disk s.stop) place k e n w (no_end_there w place s n there is) q
by_node None s place k e w there is q = refl

steps_kept : (place : ℕ) (k : ObjectKey) (e : Event) (w : World) → KeepsEnds w (steps place k e w).done.world
unfolding steps
steps_kept place k e w q = by_seat (slice_get w.seats place) refl
  where
    by_seat : (o : Option Seat) → slice_get w.seats place ≡ o
        → end_at (elim o as (λ _. Stepping) [ Some s ↦ steps_node (node_in s.server) s place k e w | None ↦ no_step w ]).done.world q ≡ end_at w q
    by_seat (Some s) there = by_node (node_in s.server) s place k e w there refl q
    by_seat None there = refl

acts_kept : (message : ℕ) (to : ObjectKey) (act : Act) (w : World) → KeepsEnds w (acts_in message to act w).done.world
acts_kept message to act w q = by_seat (slice_get w.seats (place_of to))
  where
    by_seat : (o : Option Seat)
        → end_at (elim o as (λ _. Stepping) [
          | Some s ↦ steps (place_of to) to (call_event message to act s.clock) w
          | None ↦ no_step w
        ]).done.world q ≡ end_at w q
    by_seat (Some s) = steps_kept (place_of to) to (call_event message to act s.clock) w q
    by_seat None = refl

pub called_kept : (to : ObjectKey) (act : Act) (w : World) (place : ℕ) → end_at (called to act w).done.world place ≡ end_at w place
called_kept to act w q =
    acts_kept (next_message w) to act (sends_call to act w).world q ∙ sent_kept (client_message (contents.Call to act)) w q

-- ---- an end becomes another

get_set : {A : Type 0} (xs : List A) (i : ℕ) (s x : A) → slice_get xs i ≡ Some s → slice_get (slice_set xs i x) i ≡ Some x
get_set [] i s x e = absurd (cc e)
get_set (y ∷ xs) zero s x e = refl
get_set (y ∷ xs) (suc i) s x e = get_set xs i s x e

server_set : (place : ℕ) (x e : FlatEnd) (w : World) → end_at w place ≡ Some e → end_at (with_server place (OfEnd (Some x)) w) place ≡ Some x
unfolding end_at
server_set place x e w there = by_seat (slice_get w.seats place) refl there
  where
    by_seat : (o : Option Seat) → slice_get w.seats place ≡ o → end_of_seat o ≡ Some e
        → end_of_seat (slice_get (elim o as (λ _. World) [ Some s ↦ with_seat place (record s { server = OfEnd (Some x) }) w | None ↦ w ]).seats place) ≡ Some x
    by_seat (Some s) at is = ap end_of_seat (get_set w.seats place s (record s { server = OfEnd (Some x) }) at)
    by_seat None at is = absurd cc

pub end_becomes : (place : ℕ) (change : FlatEnd → FlatEnd) (w : World) (e : FlatEnd) → end_at w place ≡ Some e
    → end_at (with_end place change w) place ≡ Some (change e)
end_becomes place change w e there =
    ap (λ (v : World). end_at v place)
    (ap (λ (o : Option FlatEnd). elim o as (λ _. World) [ Some x ↦ with_server place (OfEnd (Some (change x))) w | None ↦ w ]) there)
    ∙ server_set place (change e) e w there

pub no_end_becomes : (place : ℕ) (change : FlatEnd → FlatEnd) (w : World) → end_at w place ≡ None → with_end place change w ≡ w
no_end_becomes place change w none = ap (λ (o : Option FlatEnd). elim o as (λ _. World) [ Some x ↦ with_server place (OfEnd (Some (change x))) w | None ↦ w ]) none
