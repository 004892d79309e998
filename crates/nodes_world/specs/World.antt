-- A world: nodes and ends in the order of their making, every message ever sent, and what each name names (our profile). All
-- changes of a world are made of the few at the end of this file.
use Rattle.std.specs.Prelude.{ℕ, ◌+◌, ◌-◌, ◌==◌, Bool, false, List, [], ◌∷◌, ◌++◌, length, find, bytes_eq, slice_get, slice_set, filter_map, Option, Some, None, is_none, is_some, if◌then◌else◌}
use Rattle.std.specs.Option.{option_map, option_map_or, option_and_then}
use Rattle.ior_refs.specs.declared.key.ObjectKey.{ObjectKey}
use Rattle.ots_outside.specs.Disk.{DiskState}
use Rattle.decision_journal.specs.declared.record.Put.{Put}
use Rattle.resource_end.specs.declared.state.State.{State}
use Rattle.coordinator.specs.Family.{Family}
use Rattle.coordinator.specs.Node.{Node, family_of, life}
use Rattle.nodes_world.specs.declared.message.Message.{Message}
use Rattle.nodes_world.specs.declared.thing.Thing.{Thing}
use Rattle.nodes_world.specs.declared.thing.Thing.TheVariants as things
use Rattle.nodes_world.specs.Limits.{only_life}
use Rattle.nodes_world.specs.Disks.{Stop}
use Rattle.nodes_world.specs.Objects.{place_of, same_transaction, reference}

-- a resource of an end that doesn't crash: its key, how it stands, the put that was accepted, and whether a refuse was
pub record FlatResource : Type 0 where
  pub key : ObjectKey
  pub state : State
  pub put : Option Put
  pub refused : Bool

-- such an end: how many objects it has made, and its resources in the order of their making
pub record FlatEnd : Type 0 where
  pub drawn : ℕ
  pub resources : List FlatResource

-- a node or an end, while it is up
pub data Server : Type 0 where
  OfNode : (up : Option Node) → Server
  OfEnd : (up : Option FlatEnd) → Server

-- where a node or an end runs: its name, its clock, its disk, and the crash inside a write that is to come
pub record Seat : Type 0 where
  pub name : List ℕ
  pub clock : ℕ
  pub disk : DiskState
  pub stop : Option Stop
  pub server : Server

pub record World : Type 0 where
  pub seats : List Seat
  -- message number n is at place n - 1
  pub messages : List Message
  pub names : List (List ℕ × Thing)

-- nothing was made yet
abbrev pub empty : World
empty = record { seats = []; messages = []; names = [] }

-- ---- what is up

abbrev pub node_in : Server → Option Node
node_in (OfNode up) = up
node_in (OfEnd up) = None

abbrev pub end_in : Server → Option FlatEnd
end_in (OfNode up) = None
end_in (OfEnd up) = up

-- the node, and the end, that is up at a place
unfoldable pub node_at : World → ℕ → Option Node
node_at w place = option_and_then (λ (s : Seat). node_in s.server) (slice_get w.seats place)

unfoldable pub end_at : World → ℕ → Option FlatEnd
end_at w place = option_and_then (λ (s : Seat). end_in s.server) (slice_get w.seats place)

-- the life of a node or an end that is up
abbrev pub life_in : Server → Option ℕ
life_in (OfNode up) = option_map life up
life_in (OfEnd up) = option_map (λ (e : FlatEnd). only_life) up

unfoldable pub life_at : World → ℕ → Option ℕ
life_at w place = option_and_then (λ (s : Seat). life_in s.server) (slice_get w.seats place)

abbrev pub is_up : World → ℕ → Bool
is_up w place = is_some (life_at w place)

-- the family of a key, where its node is up and its slot holds it
abbrev pub family_at : World → ObjectKey → Option Family
family_at w key = option_and_then (family_of key) (node_at w (place_of key))

-- the resource of a key, where its end is up
abbrev pub has_number : ObjectKey → FlatResource → Bool
has_number key r = r.key.generation == key.generation

unfoldable pub resource_at : World → ObjectKey → Option FlatResource
resource_at w key = option_and_then (λ (e : FlatEnd). find (has_number key) e.resources) (end_at w (place_of key))

-- the number of the next message
abbrev pub next_message : World → ℕ
next_message w = length w.messages + 1

-- the message with a number
abbrev pub message_numbered : World → ℕ → Option Message
message_numbered w number = slice_get w.messages (number - 1)

-- ---- names

-- what a name names
unfoldable pub thing_in : List (List ℕ × Thing) → List ℕ → Option Thing
thing_in [] name = None
thing_in (entry ∷ others) name = if bytes_eq name entry.0 then Some entry.1 else thing_in others name

abbrev pub thing : World → List ℕ → Option Thing
thing w name = thing_in w.names name

abbrev pub is_free : World → List ℕ → Bool
is_free w name = is_none (thing w name)

-- a key, and the name of what has it
pub record NamedKey : Type 0 where
  pub name : List ℕ
  pub key : ObjectKey

abbrev pub transaction_in : List ℕ → Thing → Option NamedKey
transaction_in name (things.Transaction key) = Some (record { name = name; key = key })
transaction_in name _ = None

abbrev pub resource_in : List ℕ → Thing → Option NamedKey
resource_in name (things.Resource key) = Some (record { name = name; key = key })
resource_in name _ = None

-- all transactions, and all resources, in the order of their making
abbrev pub transactions : World → List NamedKey
transactions w = filter_map (λ (entry : List ℕ × Thing). transaction_in entry.0 entry.1) w.names

abbrev pub resources : World → List NamedKey
resources w = filter_map (λ (entry : List ℕ × Thing). resource_in entry.0 entry.1) w.names

-- the name of a transaction
unfoldable pub transaction_name : World → ObjectKey → Option (List ℕ)
transaction_name w key =
    option_map (λ (t : NamedKey). t.name) (find (λ (t : NamedKey). same_transaction t.key key) (transactions w))

-- the name of the seat at a place
abbrev pub seat_name : World → ℕ → Option (List ℕ)
seat_name w place = option_map (λ (s : Seat). s.name) (slice_get w.seats place)

-- the reference to an object of a node or an end
abbrev pub reference_to_object : World → ObjectKey → Option (List ℕ)
reference_to_object w key = option_map (λ (name : List ℕ). reference name key) (seat_name w (place_of key))

-- an object is the one to which a reference leads
abbrev pub is_referred_to : World → List ℕ → NamedKey → Bool
is_referred_to w to r = option_map_or (λ (octets : List ℕ). bytes_eq octets to) (reference_to_object w r.key) false

-- the resource to which a reference leads
unfoldable pub referred : World → List ℕ → Option NamedKey
referred w to = find (is_referred_to w to) (resources w)

-- ---- the changes of which all are made

-- a seat in place of the one that was there
abbrev pub with_seat : ℕ → Seat → World → World
with_seat place s w = record w { seats = slice_set w.seats place s }

abbrev pub on_seat : ℕ → (Seat → Seat) → World → World
on_seat place change w = elim (slice_get w.seats place) [ Some s ↦ with_seat place (change s) w | None ↦ w ]

-- a further seat
abbrev pub with_new_seat : Seat → World → World
with_new_seat s w = record w { seats = w.seats ++ s ∷ [] }

-- what is up at a place, or that nothing is
abbrev pub with_server : ℕ → Server → World → World
with_server place server w = on_seat place (λ (s : Seat). record s { server = server }) w

-- a disk, and the stop that is still to come
abbrev pub with_disk : ℕ → DiskState → Option Stop → World → World
with_disk place disk stop w = on_seat place (λ (s : Seat). record s { disk = disk; stop = stop }) w

abbrev pub with_clock : ℕ → ℕ → World → World
with_clock place clock w = on_seat place (λ (s : Seat). record s { clock = clock }) w

-- a message goes out
abbrev pub with_sent : Message → World → World
with_sent m w = record w { messages = w.messages ++ m ∷ [] }

-- something became of a message
abbrev pub with_message : ℕ → Message → World → World
with_message place m w = record w { messages = slice_set w.messages place m }

-- a name names something from now on
abbrev pub with_name : List ℕ → Thing → World → World
with_name name thing w = record w { names = w.names ++ (name, thing) ∷ [] }
