-- What is done in a world takes no message back, and adds no client's call that a node tells its families itself.
use Rattle.std.proofs.Common.{◌≡◌, ◌⊎◌, inl, inr, ℕ, zero, suc, ◌≤◌, List, [], ◌∷◌, ◌++◌, length, slice_get, slice_set, Option, Some, None, refl, sym, ap, subst, ◌∙◌, arith, length-append}
use Rattle.std.proofs.lemmas.List.{length-set}
use Rattle.ior_refs.specs.declared.key.ObjectKey.{ObjectKey}
use Rattle.ots_outside.specs.Disk.{DiskState, at_first}
use Rattle.ots_model.specs.declared.tree.Outward.{Outward}
use Rattle.coordinator.specs.declared.event.Act.{Act}
use Rattle.coordinator.specs.declared.event.Event.{Event}
use Rattle.coordinator.specs.declared.said.Said.{Said}
use Rattle.coordinator.specs.Node.{Node}
use Rattle.coordinator.specs.NodeCalls.{Applied, applies, call_wants}
use Rattle.nodes_world.specs.declared.message.Content.TheVariants as contents
use Rattle.nodes_world.specs.declared.message.Message.{Message}
use Rattle.nodes_world.specs.Disks.{Stop}
use Rattle.nodes_world.specs.Happenings.{Done, new_message, nothing, replies, requests, requests_all}
use Rattle.nodes_world.specs.Journals.{Asked, Answers, Stops, asks}
use Rattle.nodes_world.specs.Nodes.{Stepping, crashes, crashes_seat, no_step, steps, steps_by, steps_node}
use Rattle.nodes_world.specs.World.{OfNode, Seat, Server, World, node_in, on_seat, with_disk, with_seat, with_server}
use Rattle.nodes_ready.specs.Ready.{AreClients}

-- none of these messages goes away, and no further one is a client's call that a node tells its families itself
pub record KeepsCalls (before after : List Message) : Type 0 where
  pub longer : length before ≤ length after
  pub clients : AreClients before → AreClients after

-- so in what is done
abbrev pub Keeps : (World → Done) → Type 0
Keeps d = (w : World) → KeepsCalls w.messages (d w).world.messages

pub calls_stay : (messages : List Message) → KeepsCalls messages messages
calls_stay messages = record { longer = omega arith; clients = λ c. c }

pub calls_same : (before after : List Message) → after ≡ before → KeepsCalls before after
calls_same before after e = subst (λ ms. KeepsCalls before ms) (sym e) (calls_stay before)

pub calls_then : (a b c : List Message) → KeepsCalls a b → KeepsCalls b c → KeepsCalls a c
calls_then a b c first next = record {
  longer = let x = first.longer in let y = next.longer in omega arith;
  clients = λ given. next.clients (first.clients given);
}

-- ---- one more message, and one in place of another

pub push_cases : {A : Type 0} (xs : List A) (y u : A) (k : ℕ) → slice_get (xs ++ y ∷ []) k ≡ Some u → (u ≡ y) ⊎ (slice_get xs k ≡ Some u)
push_cases [] y u zero e = inl cc
push_cases [] y u (suc k) e = inr e
push_cases (x ∷ xs) y u zero e = inr e
push_cases (x ∷ xs) y u (suc k) e = push_cases xs y u k e

abbrev pub IsNoCall : Message → Type 0
IsNoCall m = (to : ObjectKey) (act : Act) → m.content ≡ contents.Call to act → ⊥

pub one_more : (messages : List Message) (m : Message) → IsNoCall m → KeepsCalls messages (messages ++ m ∷ [])
one_more messages m other = record {
  longer = omega (arith, length-append messages (m ∷ []));
  clients = λ given place u to act is says. elim (push_cases messages m u place is) [
    | inl new ↦ absurd (other to act (sym (ap (λ (x : Message). x.content) new) ∙ says))
    | inr there ↦ given place u to act there says
  ];
}

set_cases : {A : Type 0} (xs : List A) (i k : ℕ) (y u : A) → slice_get (slice_set xs i y) k ≡ Some u → (u ≡ y) ⊎ (slice_get xs k ≡ Some u)
set_cases [] i k y u e = inr e
set_cases (x ∷ xs) zero zero y u e = inl cc
set_cases (x ∷ xs) zero (suc k) y u e = inr e
set_cases (x ∷ xs) (suc i) zero y u e = inr e
set_cases (x ∷ xs) (suc i) (suc k) y u e = set_cases xs i k y u e

pub one_marked : (messages : List Message) (place : ℕ) (m x : Message) → slice_get messages place ≡ Some m → x.content ≡ m.content
    → KeepsCalls messages (slice_set messages place x)
one_marked messages place m x there same = record {
  longer = let e : length (slice_set messages place x) ≡ length messages = length-set messages place x in omega arith;
  clients = λ given i u to act is says. elim (set_cases messages place i x u is) [
    | inl here ↦ given place m to act there (sym same ∙ sym (ap (λ (y : Message). y.content) here) ∙ says)
    | inr other ↦ given i u to act other says
  ];
}

-- ---- what is done at a seat

pub seat_messages : (place : ℕ) (change : Seat → Seat) (w : World) → (on_seat place change w).messages ≡ w.messages
seat_messages place change w = by_seat (slice_get w.seats place)
  where
    by_seat : (o : Option Seat) → (elim o as (λ _. World) [ Some s ↦ with_seat place (change s) w | None ↦ w ]).messages ≡ w.messages
    by_seat (Some s) = refl
    by_seat None = refl

pub server_messages : (place : ℕ) (server : Server) (disk : DiskState) (stop : Option Stop) (w : World)
    → (with_server place server (with_disk place disk stop w)).messages ≡ w.messages
server_messages place server disk stop w =
    seat_messages place (λ (s : Seat). record s { server = server }) (with_disk place disk stop w)
    ∙ seat_messages place (λ (s : Seat). record s { disk = disk; stop = stop }) w

pub crashes_keep : (place : ℕ) (image : List ℕ) → Keeps (crashes place image)
unfolding crashes
crashes_keep place image w = by_seat (slice_get w.seats place)
  where
    by_seat : (o : Option Seat) → KeepsCalls w.messages (elim o as (λ _. Done) [ Some s ↦ crashes_seat place image s w | None ↦ nothing w ]).world.messages
    by_seat (Some s) =
        calls_same w.messages (crashes_seat place image s w).world.messages (server_messages place (OfNode None) (at_first image) None w)
    by_seat None = calls_stay w.messages

request_keeps : (place : ℕ) (o : Outward) → Keeps (requests place o)
unfolding requests
request_keeps place o w = one_more w.messages (new_message (contents.Request place o)) (λ to act e. cc)

pub requests_keep : (place : ℕ) (words : List Outward) → Keeps (requests_all place words)
requests_keep place [] w = calls_stay w.messages
requests_keep place (o ∷ others) w =
    calls_then w.messages (requests place o w).world.messages (requests_all place (o ∷ others) w).world.messages
    (request_keeps place o w) (requests_keep place others (requests place o w).world)

pub reply_keeps : (request : ℕ) (answer : Said) → Keeps (replies request answer)
unfolding replies
reply_keeps request answer w = one_more w.messages (new_message (contents.Reply request answer)) (λ to act e. cc)

-- ---- an event that comes to a node

by_asked : (place : ℕ) (k : ObjectKey) (e : Event) (n : Node) (w : World) (a : Asked) → KeepsCalls w.messages (steps_by a place k e n w).done.world.messages
by_asked place k e n w (Answers stood disk stop) =
    let a : Applied = applies k e stood n in
    let v : World = with_server place (OfNode (Some a.node)) (with_disk place disk stop w) in
    calls_then w.messages v.messages (requests_all place a.words v).world.messages
    (calls_same w.messages v.messages (server_messages place (OfNode (Some a.node)) disk stop w)) (requests_keep place a.words v)
by_asked place k e n w (Stops image) = crashes_keep place image w

by_node : (s : Seat) (place : ℕ) (k : ObjectKey) (e : Event) (w : World) (o : Option Node) → KeepsCalls w.messages (steps_node o s place k e w).done.world.messages
by_node s place k e w (Some n) = by_asked place k e n w (asks (call_wants k e n) n.service n.found s.disk s.stop)
by_node s place k e w None = calls_stay w.messages

pub steps_keep : (place : ℕ) (k : ObjectKey) (e : Event) (w : World) → KeepsCalls w.messages (steps place k e w).done.world.messages
unfolding steps
steps_keep place k e w = by_seat (slice_get w.seats place)
  where
    by_seat : (o : Option Seat)
        → KeepsCalls w.messages (elim o as (λ _. Stepping) [ Some s ↦ steps_node (node_in s.server) s place k e w | None ↦ no_step w ]).done.world.messages
    by_seat (Some s) = by_node s place k e w (node_in s.server)
    by_seat None = calls_stay w.messages
