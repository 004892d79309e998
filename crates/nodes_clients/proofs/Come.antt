-- What comes of an event at a seat.
use Rattle.std.proofs.Common.{◌≡◌, ℕ, Bool, true, false, List, [], ◌++◌, Option, Some, None, if◌then◌else◌, refl, sym, ap, subst, ◌∙◌}
use Rattle.std.specs.Option.{option_map}
use Rattle.ior_refs.specs.declared.key.ObjectKey.{ObjectKey}
use Rattle.ots_model.specs.declared.completion.Stood.{Stood}
use Rattle.ots_model.specs.declared.tree.Outward.{Outward}
use Rattle.ots_outside.specs.Disk.{DiskState}
use Rattle.recovery_coord.specs.Held.{is_held}
use Rattle.coordinator.specs.Family.{Family}
use Rattle.coordinator.specs.History.{has_room}
use Rattle.coordinator.specs.Node.{Node}
use Rattle.coordinator.specs.NodeCalls.{Applied, RetoldAnswer, answers_recovered, applied_by, applies, by_records, call_wants, family_for, hears_record, records_hear, refuses, replies, retold_answer, steps_to}
use Rattle.coordinator.specs.Step.{family_step}
use Rattle.coordinator.specs.declared.event.Event.{Event}
use Rattle.coordinator.specs.declared.node.NodeFault.TheVariants as faults
use Rattle.coordinator.specs.declared.said.Said.{Said}
use Rattle.nodes_world.specs.Disks.{Stop}
use Rattle.nodes_world.specs.Journals.{asks}
use Rattle.nodes_world.specs.World.{OfNode, node_in}
use Rattle.nodes_lives.specs.Calling.{HasAnswered, HasStopped, stop_of}
use Rattle.nodes_lives.specs.Living.{Living}
use Rattle.nodes_lives.specs.declared.calling.Answered.{Answered}
use Rattle.nodes_lives.specs.declared.calling.Stopped.{Stopped}
use Rattle.nodes_state.specs.Seated.{disk_of, seat_of, server_of}
use Rattle.nodes_state.specs.declared.seats.Seat.{Seat as Kept}
use Rattle.nodes_state.specs.declared.seats.Server.{Server}
use Rattle.nodes_state.specs.declared.seats.Server.TheVariants as servers
use Rattle.nodes_clients.specs.Coming.{WentDown, WentThrough}
use Rattle.nodes_clients.specs.Keeping.{KeepsServer}

-- ---- a node stays of its service

either : (b : Bool) (x y : Applied) (service : ℕ) → x.node.service ≡ service → y.node.service ≡ service → (if b then x else y).node.service ≡ service
either true x y service one other = one
either false x y service one other = other

hearing_keeps : (a : RetoldAnswer) (stood : Option Stood) (n : Node) → (hears_record a.number a.heard stood n).node.service ≡ n.service
unfolding hears_record
hearing_keeps a stood n =
    either (is_held a.number.generation n.recovered) (records_hear a.number a.heard stood n) (refuses faults.ObjectNotExist n) n.service refl refl

replying_keeps : (o : Option Said) (n : Node) → (replies o n).node.service ≡ n.service
replying_keeps (Some answer) n = refl
replying_keeps None n = refl

records_keep : (a : Option RetoldAnswer) (k : ObjectKey) (e : Event) (stood : Option Stood) (n : Node) → (by_records a k e stood n).node.service ≡ n.service
records_keep (Some a) k e stood n = hearing_keeps a stood n
records_keep None k e stood n = replying_keeps _ n

recovered_keeps : (k : ObjectKey) (e : Event) (stood : Option Stood) (n : Node) → (answers_recovered k e stood n).node.service ≡ n.service
unfolding answers_recovered
recovered_keeps k e stood n = records_keep (retold_answer e.act) k e stood n

applied_keeps : (f : Option Family) (k : ObjectKey) (e : Event) (stood : Option Stood) (n : Node) → (applied_by f k e stood n).node.service ≡ n.service
applied_keeps (Some f) k e stood n =
    either (has_room f.entries e) (steps_to n f e stood (family_step f e stood)) (refuses faults.NoResources n) n.service refl refl
applied_keeps None k e stood n = recovered_keeps k e stood n

pub service_keeps : (k : ObjectKey) (e : Event) (stood : Option Stood) (n : Node) → (applies k e stood n).node.service ≡ n.service
unfolding applies
service_keeps k e stood n = applied_keeps (family_for k e n) k e stood n

-- ---- at a seat

pub went_through : (k : ObjectKey) (e : Event) (s : Kept) (n : Living) (a : Answered) (words more : List Outward) → s.server ≡ servers.Up n → words ≡ []
    → HasAnswered k e n (option_map stop_of s.stop) a words more
    → WentThrough k e (seat_of s) (seat_of (record s { server = servers.Up a.node; stop = a.stop })) a.answer more
went_through k e s n a words more is none h = record {
  node = n.node;
  up = ap (λ x. node_in (server_of x)) is;
  stood = h.stood;
  disk = a.node.disk;
  stop = option_map stop_of a.stop;
  asked = ap (λ (d : DiskState). asks (call_wants k e n.node) n.node.service n.node.found d (option_map stop_of s.stop)) (ap (λ x. disk_of x) is) ∙ h.asked;
  answer_is = h.answer;
  words_are = h.words_are ∙ ap (λ (xs : List Outward). xs ++ (applies k e h.stood n.node).words) none;
  later = ap (λ (m : Node). record { name = s.name; clock = s.clock; disk = a.node.disk; stop = option_map stop_of a.stop; server = OfNode (Some m) }) h.node;
}

pub went_down : (k : ObjectKey) (e : Event) (s : Kept) (n : Living) (x : Stopped) (more : List Outward) → s.server ≡ servers.Up n
    → HasStopped k e n (option_map stop_of s.stop) x more
    → WentDown k e (seat_of s) (seat_of (record s { server = servers.Down x.image; stop = None })) x.heard
went_down k e s n x more is h = record {
  node = n.node;
  up = ap (λ y. node_in (server_of y)) is;
  image = x.image.items;
  asked = ap (λ (d : DiskState). asks (call_wants k e n.node) n.node.service n.node.found d (option_map stop_of s.stop)) (ap (λ y. disk_of y) is) ∙ h.asked;
  heard_is = h.heard;
  later = refl;
}

pub through_keeps : (k : ObjectKey) (e : Event) (s : Server) (n : Living) (stop : Option Stop) (a : Answered) (words more : List Outward) → s ≡ servers.Up n → HasAnswered k e n stop a words more
    → KeepsServer s (servers.Up a.node)
through_keeps k e s n stop a words more is h =
    subst (λ (x : Server). KeepsServer x (servers.Up a.node)) (sym is) (ap (λ (m : Node). m.service) h.node ∙ service_keeps k e h.stood n.node)

pub down_keeps : (k : ObjectKey) (e : Event) (s : Server) (n : Living) (stop : Option Stop) (x : Stopped) (more : List Outward) → s ≡ servers.Up n → HasStopped k e n stop x more
    → KeepsServer s (servers.Down x.image)
down_keeps k e s n stop x more is h = subst (λ (y : Server). KeepsServer y (servers.Down x.image)) (sym is) h.holds

pub same_keeps : (s : Server) → KeepsServer s s
same_keeps (servers.Up n) = refl
same_keeps (servers.Down octets) = refl
same_keeps (servers.End e) = tt

pub no_node_in : (s : Server) → ((n : Living) → s ≡ servers.Up n → ⊥) → node_in (server_of s) ≡ None
no_node_in (servers.Up n) other = absurd (other n refl)
no_node_in (servers.Down octets) other = refl
no_node_in (servers.End e) other = refl
