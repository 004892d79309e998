-- A world that is ready stays so, by what was done in it.
use Rattle.std.proofs.Common.{◌≡◌, ℕ, ◌+◌, false, List, length, Option, Result, Ok, Err, refl, sym, ap, subst}
use Rattle.std.specs.Result.{OnOk}
use Rattle.ior_refs.specs.declared.key.ObjectKey.{ObjectKey}
use Rattle.ots_model.specs.declared.tree.Word.{Word}
use Rattle.ots_world.specs.declared.fault.WorldFault.{WorldFault}
use Rattle.service_node.specs.Given.{node_makes}
use Rattle.coordinator.specs.declared.event.Act.{Act}
use Rattle.coordinator.specs.declared.event.Event.{Event}
use Rattle.nodes_world.specs.declared.message.Message.{Message}
use Rattle.nodes_world.specs.Ends.{obeys_as}
use Rattle.nodes_world.specs.Nodes.{steps}
use Rattle.nodes_world.specs.World.{FlatResource, NamedKey, World}
use Rattle.nodes_state.specs.Does.{Does}
use Rattle.nodes_state.specs.Shown.{shown}
use Rattle.nodes_state.specs.declared.state.State.{State}
use Rattle.nodes_ends.specs.Ending.{KeepsNodes}
use Rattle.nodes_clients.specs.Called.{called}
use Rattle.nodes_clients.specs.Calling.{sends_call}
use Rattle.nodes_clients.specs.Keeping.{KeepsSeats}
use Rattle.nodes_seats.specs.Whole.{IsWhole}
use Rattle.nodes_ready.specs.Ready.{AreClients, IsReady}
use Rattle.nodes_ready.proofs.CallsGrow.{acted_keeps, sent_keeps}
use Rattle.nodes_ready.proofs.EndsGrow.{obeys_as_keeps}
use Rattle.nodes_ready.proofs.Growing.{KeepsCalls, calls_then, steps_keep}
use Rattle.nodes_ready.proofs.Keeping.{whole_kept, whole_nodes, whole_stays}

-- the world is whole behind it, and no call was added that a node tells its families itself
pub ready_by : (old new : State) (w : World) → KeepsCalls (shown old).messages w.messages → shown new ≡ w → IsWhole new → IsReady old → IsReady new
ready_by old new w keeps world whole ready = record {
  whole = whole;
  clients = subst AreClients (sym (ap (λ (x : World). x.messages) world)) (keeps.clients ready.clients);
}

-- messages alone change
pub ready_messages : (s : State) (messages : List Message) → KeepsCalls s.messages messages → IsReady s → IsReady (record s { messages = messages })
ready_messages s messages keeps ready = record {
  whole = whole_stays s (record s { messages = messages }) (record { seats = refl; names = refl }) ready.whole;
  clients = keeps.clients ready.clients;
}

-- an end became another
pub ready_nodes : (old new : State) → KeepsNodes old new → new.messages ≡ old.messages → IsReady old → IsReady new
ready_nodes old new keeps same ready = record {
  whole = whole_nodes old new keeps ready.whole;
  clients = subst AreClients (sym same) ready.clients;
}

-- a resource was told a word
pub ready_obeyed : (old new : State) (there : Option FlatResource) (request : ℕ) (named : NamedKey) (word : Word) → KeepsNodes old new
    → shown new ≡ (obeys_as there request named word (shown old)).world → IsReady old → IsReady new
ready_obeyed old new there request named word keeps world ready =
    ready_by old new (obeys_as there request named word (shown old)).world (obeys_as_keeps there request named word (shown old)) world
    (whole_nodes old new keeps ready.whole) ready

pub ready_obeying : (old new : State) (there : Option FlatResource) (request : ℕ) (named : NamedKey) (word : Word) (before after : List ℕ)
    (result : Result (Unit {0}) WorldFault) → OnOk result (KeepsNodes old new) → Does (obeys_as there request named word (shown old)) (shown new) before after result
    → IsReady old → OnOk result (IsReady new)
ready_obeying old new there request named word before after (Ok u) keeps does ready = ready_obeyed old new there request named word keeps does.0 ready
ready_obeying old new there request named word before after (Err fault) keeps does ready = tt

-- an event came to a node
pub ready_carried : (old new : State) (place : ℕ) (k : ObjectKey) (e : Event) → KeepsSeats old new → new.names ≡ old.names
    → shown new ≡ (steps place k e (shown old)).done.world → IsReady old → IsReady new
ready_carried old new place k e keeps names world ready =
    ready_by old new (steps place k e (shown old)).done.world (steps_keep place k e (shown old)) world (whole_kept old new keeps names ready.whole) ready

-- a call went out and acted
pub ready_called : (old new : State) (to : ObjectKey) (act : Act) → node_makes act ≡ false → KeepsSeats old new → new.names ≡ old.names
    → shown new ≡ (called to act (shown old)).done.world → IsReady old → IsReady new
ready_called old new to act given keeps names world ready =
    let w = shown old in
    let sent : World = (sends_call to act w).world in
    let later : World = (called to act w).done.world in
    ready_by old new later (calls_then w.messages sent.messages later.messages (sent_keeps w.messages to act given) (acted_keeps (length w.messages + 1) to act sent))
    world (whole_kept old new keeps names ready.whole) ready
