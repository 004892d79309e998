-- What a call has done to the disk of a node (our profile).
use Rattle.std.specs.Prelude.{◌≡◌, ℕ, Bool, true, false, List, [], ◌∷◌, ◌++◌, length, Option, Some, Result, Err}
use Rattle.ior_refs.specs.declared.key.ObjectKey.{ObjectKey}
use Rattle.ots_model.specs.declared.completion.Stood.{Stood}
use Rattle.ots_model.specs.declared.completion.Stood.TheVariants as answers
use Rattle.ots_model.specs.declared.tree.Outward.{Outward}
use Rattle.ots_outside.specs.Disk.{DiskState}
use Rattle.decision_journal.specs.Journal.{StandsFor}
use Rattle.decision_journal.specs.Laws.{CanAppend, IsSettled, appended, behind_gate}
use Rattle.decision_journal.specs.Layout.{record_octets}
use Rattle.decision_journal.specs.declared.record.JournalRecord.{JournalRecord}
use Rattle.coordinator.specs.NodeCalls.{applies, call_wants}
use Rattle.coordinator.specs.declared.event.Event.{Event}
use Rattle.coordinator.specs.declared.node.NodeFault.{NodeFault}
use Rattle.coordinator.specs.declared.node.NodeFault.TheVariants as faults
use Rattle.coordinator.specs.declared.said.StepAnswer.{StepAnswer}
use Rattle.nodes_world.specs.Disks.{Stop, strikes}
use Rattle.nodes_world.specs.Journals.{Asked, Answers, append_strokes, answered_by, asks}
use Rattle.nodes_world.specs.Laws.{IsWanted}
use Rattle.nodes_parts.specs.Gated.{place_behind}
use Rattle.nodes_parts.specs.Striking.{closed_over}
use Rattle.nodes_lives.specs.Living.{Living}
use Rattle.nodes_lives.specs.Shown.{living}
use Rattle.nodes_lives.specs.declared.running.Running.{Running}
use Rattle.nodes_lives.specs.declared.running.Through.{Through}

-- what comes of asking the journal for what a call wants
abbrev pub asked_by : ObjectKey → Event → Living → Option Stop → Asked
asked_by k e n stop = asks (call_wants k e n.node) n.node.service n.node.found n.disk stop

-- a record was appended behind others
pub record HasWritten (loaded : List ℕ) (before after : DiskState) (rs : List JournalRecord) (r : JournalRecord) : Type 0 where
  pub front : List ℕ
  pub behind : List ℕ
  pub place : length front ≡ place_behind rs
  pub settled : IsSettled before
  pub were : before.reads ≡ closed_over front loaded
  pub are : after.reads ≡ front ++ (record_octets r ++ 0 ∷ behind)
  pub disk : after ≡ appended (place_behind rs) (behind_gate r) before

-- The journal wrote nothing, or the record that was wanted behind those it had, and its end moved with that; and whatever stop was to come, this comes of asking it.
pub data Writes (k : ObjectKey) (e : Event) (loaded : List ℕ) (before : Living) (after : DiskState) (stood : Option Stood) (end now : ℕ) : Type 0 where
  nothing : after ≡ before.disk → now ≡ end
      → ((stop : Option Stop) → asked_by k e before stop ≡ Answers stood before.disk stop) → Writes k e loaded before after stood end now
  one : (rs : List JournalRecord) (r : JournalRecord) (at : ℕ) → IsWanted (call_wants k e before.node) r → end ≡ place_behind rs → now ≡ place_behind (rs ++ r ∷ [])
      → StandsFor before.node.service before.disk.reads rs → CanAppend before.node.service rs r → stood ≡ Some (answers.Stands at) → HasWritten loaded before.disk after rs r
      → ((stop : Option Stop) → asked_by k e before stop ≡ answered_by (answers.Stands at) (strikes (append_strokes (place_behind rs) r) before.disk stop))
      → Writes k e loaded before after stood end now

-- the call went through, as long as no stop comes
pub record HasGoneThrough (k : ObjectKey) (e : Event) (before : Running) (t : Through) (words more : List Outward) : Type 0 where
  pub stood : Option Stood
  pub writes : Writes k e before.loaded.items (living before) (t.running.node.value.journal.disk.disk) stood before.end t.running.end
  pub loaded : t.running.loaded.items ≡ before.loaded.items
  pub node : t.running.node.value.node ≡ (applies k e stood before.node.value.node).node
  pub answer : t.answer ≡ (applies k e stood before.node.value.node).answer
  pub words_are : more ≡ words ++ (applies k e stood before.node.value.node).words

-- a call was refused for want of memory
abbrev pub is_memory : Result StepAnswer NodeFault → Bool
is_memory (Err faults.Memory) = true
is_memory _ = false
