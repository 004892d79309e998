-- What comes of the making of a top-level transaction.
use Rattle.std.proofs.Common.{◌≡◌, ◌⊎◌, inl, inr, ℕ, zero, suc, Bool, true, false, nat_lt, List, [], ◌∷◌, ◌++◌, map, codes, slice_get, slice_set, Option, Some, None, Result, Ok, Err, if◌then◌else◌, refl, sym, ap, subst, ◌∙◌}
use Rattle.std.specs.Option.{option_map}
use Rattle.std.proofs.lemmas.List.{append-nil, map-set}
use Rattle.std.proofs.lemmas.Option.{slice_get-map}
use Rattle.ior_refs.specs.declared.key.ObjectKey.{ObjectKey}
use Rattle.ots_model.specs.declared.line.Line.TheVariants as lines
use Rattle.ots_world.specs.declared.fault.WorldFault.{WorldFault}
use Rattle.ots_world.specs.declared.fault.WorldFault.TheVariants as faults
use Rattle.coordinator.specs.declared.node.NodeFault.{NodeFault}
use Rattle.coordinator.specs.Family.{Family}
use Rattle.coordinator.specs.Limits.{generation_limit}
use Rattle.coordinator.specs.Node.{Node}
use Rattle.coordinator.specs.NodeSlots.{Created, creates, free_slot, makes, makes_in, makes_no_family, next_key, with_new}
use Rattle.nodes_world.specs.declared.message.Message.{Message}
use Rattle.nodes_world.specs.declared.thing.Thing.{Thing}
use Rattle.nodes_world.specs.declared.thing.Thing.TheVariants as things
use Rattle.nodes_world.specs.Clients.{begins, begins_at, begun_with, fault_said}
use Rattle.nodes_world.specs.Happenings.{Done, nothing, tells}
use Rattle.nodes_world.specs.Told.{Known, Refused, text}
use Rattle.nodes_world.specs.World.{OfEnd, OfNode, Seat, Server as Runs, World, node_in, with_name, with_seat, with_server}
use Rattle.nodes_lives.specs.Living.{Living}
use Rattle.nodes_lives.specs.Calling.{stop_of}
use Rattle.nodes_lives.specs.Making.{HasMade, IsStarved}
use Rattle.nodes_state.specs.Does.{Does}
use Rattle.nodes_state.specs.Seated.{disk_of, seat_of, server_of}
use Rattle.nodes_state.specs.declared.seats.Seat.{Seat as Kept}
use Rattle.nodes_state.specs.declared.seats.Server.{Server}
use Rattle.nodes_state.specs.declared.seats.Server.TheVariants as servers
use Rattle.nodes_clients.specs.Beginning.{HasMadeAt, begun_named, is_starved}
use Rattle.nodes_clients.specs.Keeping.{KeepsSeat, KeepsServer}

-- ---- at a seat

made : (seconds : ℕ) (k : Kept) (n m : Living) (said : Result ObjectKey NodeFault) → k.server ≡ servers.Up n → HasMade k.clock seconds n m said
    → HasMadeAt seconds (seat_of k) (seat_of (record k { server = servers.Up m })) said
made seconds k n m said is h = record {
  node = n.node;
  up = ap (λ s. node_in (server_of s)) is;
  answer = h.answer;
  later = ap (λ d. record { name = k.name; clock = k.clock; disk = d; stop = option_map stop_of k.stop; server = OfNode (Some m.node) })
      (h.disk ∙ sym (ap (λ s. disk_of s) is))
      ∙ ap (λ x. record { name = k.name; clock = k.clock; disk = disk_of k.server; stop = option_map stop_of k.stop; server = OfNode (Some x) }) h.node;
}

pub made_at : (seconds : ℕ) (k : Kept) (n m : Living) (said : Result ObjectKey NodeFault) → k.server ≡ servers.Up n
    → HasMade k.clock seconds n m said ⊎ IsStarved k.clock seconds n m said → is_starved said ≡ false
    → HasMadeAt seconds (seat_of k) (seat_of (record k { server = servers.Up m })) said
made_at seconds k n m said is (inl h) fed = made seconds k n m said is h
made_at seconds k n m said is (inr s) fed = let starved : is_starved said ≡ true = ap (λ x. is_starved x) s.answer in absurd cc

abbrev makes_by : Bool → ℕ → (ObjectKey → Family) → Node → Created
makes_by b slot make n = if b then record { node = with_new make slot n; answer = Ok (next_key n slot) } else makes_no_family n

service_in : (slot : Option ℕ) (make : ObjectKey → Family) (n : Node) → (makes_in slot make n).node.service ≡ n.service
service_in None make n = refl
service_in (Some slot) make n = cases (nat_lt n.generation generation_limit)
  where
    cases : (b : Bool) → (makes_by b slot make n).node.service ≡ n.service
    cases true = refl
    cases false = refl

service_made : (now seconds : ℕ) (n : Node) → (creates now seconds n).node.service ≡ n.service
unfolding creates makes
service_made now seconds n = service_in (free_slot n) _ n

service_keeps : (now seconds : ℕ) (n m : Living) (said : Result ObjectKey NodeFault) → HasMade now seconds n m said ⊎ IsStarved now seconds n m said
    → m.node.service ≡ n.node.service
service_keeps now seconds n m said (inl h) = ap (λ (x : Node). x.service) h.node ∙ service_made now seconds n.node
service_keeps now seconds n m said (inr s) = ap (λ (x : Living). x.node.service) s.same

-- the node that made a family is of its service
pub made_keeps : (seconds : ℕ) (k : Kept) (n m : Living) (said : Result ObjectKey NodeFault) → k.server ≡ servers.Up n
    → HasMade k.clock seconds n m said ⊎ IsStarved k.clock seconds n m said → KeepsSeat k (record k { server = servers.Up m })
made_keeps seconds k n m said is made = record {
  name = refl;
  server = subst (λ (x : Server). KeepsServer x (servers.Up m)) (sym is) (service_keeps k.clock seconds n m said made);
}

-- ---- in a world

with_server_there : (w : World) (place : ℕ) (s : Seat) (server : Runs) → slice_get w.seats place ≡ Some s
    → with_server place server w ≡ with_seat place (record s { server = server }) w
with_server_there w place s server there =
    ap (λ (o : Option Seat). elim o [ Some x ↦ with_seat place (record x { server = server }) w | None ↦ w ]) there

begins_there : (w : World) (place seconds : ℕ) (name : List ℕ) (s : Seat) → slice_get w.seats place ≡ Some s
    → begins place name seconds w ≡ begins_at place name seconds s (node_in s.server) w
unfolding begins
begins_there w place seconds name s there =
    ap (λ (o : Option Seat). elim o [ Some x ↦ begins_at place name seconds x (node_in x.server) w | None ↦ nothing w ]) there

pub begins_nowhere : (w : World) (place seconds : ℕ) (name : List ℕ) → slice_get w.seats place ≡ None → begins place name seconds w ≡ nothing w
unfolding begins
begins_nowhere w place seconds name there =
    ap (λ (o : Option Seat). elim o [ Some x ↦ begins_at place name seconds x (node_in x.server) w | None ↦ nothing w ]) there

is_node : (s : Runs) (n : Node) → node_in s ≡ Some n → s ≡ OfNode (Some n)
is_node (OfNode up) n e = ap (λ o. OfNode o) e
is_node (OfEnd up) n e = absurd cc

set_same : {A : Type 0} (xs : List A) (place : ℕ) (x : A) → slice_get xs place ≡ Some x → slice_set xs place x ≡ xs
set_same [] place x is = refl
set_same (y ∷ xs) zero x is = let e : y ≡ x = cc in ap (λ z. z ∷ xs) (sym e)
set_same (y ∷ xs) (suc place) x is = ap (λ ys. y ∷ ys) (set_same xs place x is)

refused_in : (slot : Option ℕ) (make : ObjectKey → Family) (n : Node) (fault : NodeFault) → (makes_in slot make n).answer ≡ Err fault → (makes_in slot make n).node ≡ n
refused_in None make n fault e = refl
refused_in (Some slot) make n fault e = cases (nat_lt n.generation generation_limit) e
  where
    cases : (b : Bool) → (makes_by b slot make n).answer ≡ Err fault → (makes_by b slot make n).node ≡ n
    cases true e = absurd cc
    cases false e = refl

refused : (now seconds : ℕ) (n : Node) (fault : NodeFault) → (creates now seconds n).answer ≡ Err fault → (creates now seconds n).node ≡ n
unfolding creates makes
refused now seconds n fault e = refused_in (free_slot n) _ n fault e

-- the seats that are shown
shown_set : (xs : List Kept) (place : ℕ) (x : Kept) (s : Seat) → seat_of x ≡ s → map seat_of (slice_set xs place x) ≡ slice_set (map seat_of xs) place s
shown_set xs place x s is = map-set seat_of xs place x ∙ ap (λ y. slice_set (map seat_of xs) place y) is

shown_at : (xs : List Kept) (place : ℕ) (k : Kept) → slice_get xs place ≡ Some k → slice_get (map seat_of xs) place ≡ Some (seat_of k)
shown_at xs place k there = slice_get-map seat_of xs place ∙ ap (λ o. option_map seat_of o) there

pub shown_same : (xs : List Kept) (place : ℕ) (k x : Kept) → slice_get xs place ≡ Some k → seat_of x ≡ seat_of k → map seat_of (slice_set xs place x) ≡ map seat_of xs
shown_same xs place k x there same = shown_set xs place x (seat_of k) same ∙ set_same (map seat_of xs) place (seat_of k) (shown_at xs place k there)

abbrev world : List Seat → List Message → List (List ℕ × Thing) → World
world seats messages names = record { seats = seats; messages = messages; names = names }

module _ (xs : List Kept) (m : List Message) (names : List (List ℕ × Thing)) (place seconds : ℕ) (name : List ℕ) (k x : Kept) (said : Result ObjectKey NodeFault)
    (there : slice_get xs place ≡ Some k) where
  abbrev before : World
  before = world (map seat_of xs) m names

  abbrev later : World
  later = world (map seat_of (slice_set xs place x)) m names

  later_is : (n : Node) → seat_of x ≡ record (seat_of k) { server = OfNode (Some n) } → later ≡ with_server place (OfNode (Some n)) before
  later_is n is =
      ap (λ ss. world ss m names) (shown_set xs place x (record (seat_of k) { server = OfNode (Some n) }) is)
      ∙ sym (with_server_there before place (seat_of k) (OfNode (Some n)) (shown_at xs place k there))

  by_answer : (h : HasMadeAt seconds (seat_of k) (seat_of x) said) (a : Result ObjectKey NodeFault) → (creates k.clock seconds h.node).answer ≡ a
      → begun_named name k.name a later ≡ begun_with place name k.name (creates k.clock seconds h.node).node a before
  by_answer h (Ok key) e =
      ap (λ (v : World). record { world = with_name name (things.Transaction key) v; lines = Known (lines.Top name k.name) ∷ [] })
      (later_is (creates k.clock seconds h.node).node h.later)
  by_answer h (Err fault) e =
      let same : seat_of x ≡ seat_of k = h.later
      ∙ ap (λ n. record (seat_of k) { server = OfNode (Some n) }) (refused k.clock seconds h.node fault e)
      ∙ ap (λ s. record (seat_of k) { server = s }) (sym (is_node (server_of k.server) h.node h.up)) in
      ap (λ ss. tells (Refused (codes "begin") (fault_said fault) ∷ []) (world ss m names)) (shown_same xs place k x there same)

  begun : HasMadeAt seconds (seat_of k) (seat_of x) said → begun_named name k.name said later ≡ begins place name seconds before
  begun h =
      ap (λ a. begun_named name k.name a later) h.answer
      ∙ by_answer h (creates k.clock seconds h.node).answer refl
      ∙ sym (begins_there before place seconds name (seat_of k) (shown_at xs place k there)
      ∙ ap (λ o. begins_at place name seconds (seat_of k) o before) h.up)

  pub begun_does : (v : World) (old new : List ℕ) (result : Result (Unit {0}) WorldFault) → HasMadeAt seconds (seat_of k) (seat_of x) said
      → Does (begun_named name k.name said later) v old new result → Does (begins place name seconds before) v old new result
  begun_does v old new result h d = subst (λ (x : Done). Does x v old new result) (begun h) d

  pub no_node_begins : node_in (server_of k.server) ≡ None → begins place name seconds before ≡ nothing before
  no_node_begins none =
      begins_there before place seconds name (seat_of k) (shown_at xs place k there) ∙ ap (λ o. begins_at place name seconds (seat_of k) o before) none

pub does_nothing : (d : Done) (w v : World) (old : List ℕ) → d ≡ nothing w → v ≡ w → Does d v old old (Ok tt)
does_nothing d w v old e same = (same ∙ sym (ap (λ (x : Done). x.world) e), sym (append-nil old) ∙ sym (ap (λ (x : Done). old ++ text x.lines) e))

pub begin_breaks : (d : Done) (v : World) (old : List ℕ) (result : Result (Unit {0}) WorldFault) (fault : WorldFault) → result ≡ Err fault → fault ≡ faults.Memory
    → Does d v old old result
begin_breaks d v old result fault e is =
    subst (λ (r : Result (Unit {0}) WorldFault). Does d v old old r) (sym (e ∙ ap Err is)) (0, sym (append-nil old))
