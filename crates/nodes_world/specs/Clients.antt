-- The client's calls in a world (Transaction Service, interfaces TransactionFactory, Terminator and Coordinator). Each is a message
-- of its own, which is delivered at once; its number is its retry key (our profile).
use Rattle.std.specs.Prelude.{ℕ, ◌+◌, Bool, true, false, List, [], ◌∷◌, codes, slice_get, Option, Some, None, Result, Ok, Err}
use Rattle.ior_refs.specs.declared.key.ObjectKey.{ObjectKey}
use Rattle.ots_model.specs.declared.line.Line.TheVariants as lines
use Rattle.coordinator.specs.declared.event.Act.{Act}
use Rattle.coordinator.specs.declared.event.Act.TheVariants as acts
use Rattle.coordinator.specs.declared.event.Event.{Event}
use Rattle.coordinator.specs.declared.node.NodeFault.{NodeFault}
use Rattle.coordinator.specs.declared.node.NodeFault.TheVariants as faults
use Rattle.coordinator.specs.declared.said.Said.{Said}
use Rattle.coordinator.specs.declared.said.Said.TheVariants as said
use Rattle.coordinator.specs.declared.said.StepAnswer.{StepAnswer}
use Rattle.coordinator.specs.History.{is_later}
use Rattle.coordinator.specs.Node.{Node}
use Rattle.coordinator.specs.NodeSlots.{Created, creates}
use Rattle.nodes_world.specs.declared.deed.Manner.{Manner}
use Rattle.nodes_world.specs.declared.deed.Manner.TheVariants as manners
use Rattle.nodes_world.specs.declared.message.Content.TheVariants as contents
use Rattle.nodes_world.specs.declared.thing.Thing.TheVariants as things
use Rattle.nodes_world.specs.Limits.{script_client}
use Rattle.nodes_world.specs.Objects.{place_of, branch_of, resource_key, reference}
use Rattle.nodes_world.specs.Told.{Told, Known, Called, Answered, Aware, operation_of}
use Rattle.nodes_world.specs.World.{World, Seat, OfNode, FlatEnd, end_in, node_in, next_message, transaction_name, with_server, with_sent, with_name}
use Rattle.nodes_world.specs.Happenings.{Done, nothing, tells, changes, ◌▹◌, naming, client_message}
use Rattle.nodes_world.specs.Nodes.{Stepping, steps}
use Rattle.nodes_world.specs.Ends.{with_end, drawn_once, with_fresh, refuses}

-- ---- a call

-- the event that a client's call is, at a moment
abbrev pub call_event : ℕ → ObjectKey → Act → ℕ → Event
call_event message to act now = record {
  key = Some (record { client = script_client; number = message });
  branch = to.index;
  now = now;
  act = act;
}

-- what a call is answered at once; where it is answered later, another step tells it
abbrev pub fault_said : NodeFault → Said
fault_said faults.ObjectNotExist = said.ObjectNotExist
fault_said faults.NoResources = said.NoResources
fault_said faults.NoImplement = said.NoImplement
fault_said (faults.Journal fault) = said.PersistStore
fault_said faults.Memory = said.NoMemory

abbrev pub said_in : Result StepAnswer NodeFault → Said
said_in (Ok a) = a.said
said_in (Err fault) = fault_said fault

-- an answer that comes later is told then
abbrev pub said_lines : ℕ → Bool → Said → List Told
said_lines message true answer = []
said_lines message false answer = Answered message answer ∷ []

-- a call was answered: what comes of that by itself, and then its answer
abbrev pub answered_then : ℕ → (Said → World → Done) → Said → World → Done
answered_then message behind answer w = behind answer w ▹ tells (said_lines message (is_later answer) answer)

abbrev pub answered_with : ℕ → (Said → World → Done) → Option (Result StepAnswer NodeFault) → World → Done
answered_with message behind (Some answer) w = answered_then message behind (said_in answer) w
answered_with message behind None w = nothing w

-- a step that a client's call is, and its answer
abbrev pub then_answers : ℕ → (Said → World → Done) → Stepping → Done
then_answers message behind s = s.done ▹ answered_with message behind s.answer

-- the call with a number acts at the node of its object
unfoldable pub acts_at : ℕ → ObjectKey → Act → (Said → World → Done) → World → Done
acts_at message to act behind w = elim (slice_get w.seats (place_of to)) [
  | Some s ↦ then_answers message behind (steps (place_of to) to (call_event message to act s.clock) w)
  | None ↦ nothing w
]

-- the line of a call, where it is one of a transaction that has a name
abbrev pub called_line : ℕ → Option (List ℕ) → Option (List ℕ) → List Told
called_line message (Some operation) (Some name) = Called message operation name ∷ []
called_line message operation name = []

-- a client calls a transaction: the call is sent and delivered, and acts; `behind` is what comes of its answer
unfoldable pub calls : ObjectKey → Act → (Said → World → Done) → World → Done
calls to act behind w =
    record {
      world = with_sent (client_message (contents.Call to act)) w;
      lines = called_line (next_message w) (operation_of act) (transaction_name w to);
    }
    ▹ acts_at (next_message w) to act behind

-- nothing comes of its answer but the line that tells it
abbrev pub answer_only : Said → World → Done
answer_only answer w = nothing w

-- ---- calls that make something

-- `begin N T S`: create of the node's factory
abbrev pub begun_with : ℕ → List ℕ → List ℕ → Node → Result ObjectKey NodeFault → World → Done
begun_with place name node later (Ok key) w = record {
  world = with_name name (things.Transaction key) (with_server place (OfNode (Some later)) w);
  lines = Known (lines.Top name node) ∷ [];
}
begun_with place name node later (Err fault) w = refuses (codes "begin") (fault_said fault) w

abbrev pub begun_by : ℕ → List ℕ → List ℕ → Created → World → Done
begun_by place name node c w = begun_with place name node c.node c.answer w

abbrev pub begins_at : ℕ → List ℕ → ℕ → Seat → Option Node → World → Done
begins_at place name seconds s (Some n) w = begun_by place name s.name (creates s.clock seconds n) w
begins_at place name seconds s None w = nothing w

unfoldable pub begins : ℕ → List ℕ → ℕ → World → Done
begins place name seconds w = elim (slice_get w.seats place) [
  | Some s ↦ begins_at place name seconds s (node_in s.server) w
  | None ↦ nothing w
]

-- a subtransaction of this parent was made
abbrev pub created : ObjectKey → List ℕ → Said → World → Done
created parent name (said.Made branch) w = record {
  world = with_name name (things.Transaction (branch_of parent branch)) w;
  lines = naming (λ (above : List ℕ). Known (lines.Sub name above)) (transaction_name w parent);
}
created parent name _ w = nothing w

-- `sub P T`
unfoldable pub creates_sub : ObjectKey → List ℕ → World → Done
creates_sub parent name w = calls parent acts.CreateSubtransaction (created parent name) w

-- the call by which a resource is registered
abbrev pub registering : Manner → List ℕ → Act
registering manners.Resource to = acts.RegisterResource to false
registering manners.Aware to = acts.RegisterSubtranAware to
registering manners.Double to = acts.RegisterResource to true

-- the line that tells it
abbrev pub registered_line : Manner → List ℕ → List ℕ → List ℕ → Told
registered_line manners.Resource name end transaction = Known (lines.Reg name transaction end)
registered_line manners.Aware name end transaction = Aware name transaction end
registered_line manners.Double name end transaction = Known (lines.Reg name transaction end)

-- it was registered: one that takes part is given its number, one that is told of the end alone nothing
abbrev pub is_registered : Manner → Said → Bool
is_registered manners.Aware said.Plain = true
is_registered manners.Aware _ = false
is_registered _ (said.Made number) = true
is_registered _ _ = false

-- then the end has it, and it has its name
abbrev pub registered_if : Bool → Manner → ObjectKey → List ℕ → ObjectKey → List ℕ → World → Done
registered_if true manner key end transaction name w = record {
  world = with_name name (things.Resource key) (with_end (place_of key) (with_fresh key) w);
  lines = naming (registered_line manner name end) (transaction_name w transaction);
}
registered_if false manner key end transaction name w = nothing w

abbrev pub registered : Manner → ObjectKey → List ℕ → ObjectKey → List ℕ → Said → World → Done
registered manner key end transaction name answer w =
    registered_if (is_registered manner answer) manner key end transaction name w

-- the end of that name makes an object, and the client registers it
abbrev pub registers_object : Manner → ObjectKey → List ℕ → ObjectKey → List ℕ → World → Done
registers_object manner key end transaction name w =
    calls transaction (registering manner (reference end key)) (registered manner key end transaction name) w

abbrev pub registers_at : Manner → ObjectKey → ℕ → Seat → Option FlatEnd → List ℕ → World → Done
registers_at manner transaction place s (Some e) name w =
    changes (with_end place drawn_once w) ▹ registers_object manner (resource_key manner place (e.drawn + 1)) s.name transaction name
registers_at manner transaction place s None name w = nothing w

-- `register T E G`, `aware T E G`, `double T E G`
unfoldable pub registers : Manner → ObjectKey → ℕ → List ℕ → World → Done
registers manner transaction place name w = elim (slice_get w.seats place) [
  | Some s ↦ registers_at manner transaction place s (end_in s.server) name w
  | None ↦ nothing w
]
