-- What a node may ask of its journal when it hears an answer: a decision of its own life, which can be written as a record, or the
-- Done of a decision that stands.
use Rattle.std.specs.Prelude.{◌≡◌, ℕ, ◌-◌, true, List, slice_get, Option, Some}
use Rattle.ots_model.specs.declared.tree.Outward.{Outward}
use Rattle.decision_journal.specs.declared.record.JournalRecord.{JournalRecord}
use Rattle.decision_journal.specs.declared.record.JournalRecord.TheVariants.{Decision}
use Rattle.coordinator.specs.Node.{Node, life}
use Rattle.coordinator.specs.NodeCalls.{call_wants}
use Rattle.coordinator.specs.Step.{Wanted, Appends, Rereads}
use Rattle.coordinator.specs.declared.said.Said.{Said}
use Rattle.nodes_world.specs.declared.message.Content.TheVariants as contents
use Rattle.nodes_world.specs.declared.message.Message.{Message}
use Rattle.nodes_world.specs.Agreement.{Reaches}
use Rattle.nodes_world.specs.Deliveries.{answer_event, is_waited_for}
use Rattle.nodes_world.specs.Laws.{CanAsk}
use Rattle.nodes_world.specs.Objects.{family_key}
use Rattle.nodes_world.specs.Told.{Told}
use Rattle.nodes_world.specs.World.{World, Seat, OfNode}

-- a record is a decision of this life
abbrev pub IsOfLife : ℕ → JournalRecord → Type 0
IsOfLife now (Decision life slot generation by asked regs) = life ≡ now
IsOfLife now _ = ⊥

-- what is asked of a journal may be asked: a decision of this life, or a Done; it isn't asked to read its disk again
pub record MayAsk (wanted : Option Wanted) (n : Node) : Type 0 where
  pub can : CanAsk wanted n.found
  pub own : (item : JournalRecord) → wanted ≡ Some (Appends item) → IsOfLife (life n) item
  pub once : wanted ≡ Some Rereads → ⊥

-- in each world that a script reaches, what a node asks that hears an answer may be asked
abbrev pub HearingsMayAsk : Type 0
HearingsMayAsk = (w : World) (told : List Told) (request from reply : ℕ) (o : Outward) (m back : Message) (answer : Said) (s : Seat) (n : Node)
    → Reaches w told → slice_get w.messages (request - 1) ≡ Some m → m.content ≡ contents.Request from o → slice_get w.messages reply ≡ Some back
    → back.content ≡ contents.Reply request answer → slice_get w.seats from ≡ Some s → s.server ≡ OfNode (Some n) → is_waited_for w m from o ≡ true
    → MayAsk (call_wants (family_key from o.number) (answer_event o answer s.clock) n) n
