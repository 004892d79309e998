-- A call to a node that is up goes through, or memory was wanted in it.
use Rattle.std.proofs.Common.{◌≡◌, ◌⊎◌, inl, inr, ℕ, Bool, true, false, List, ◌++◌, Option, sym, ap, ◌∙◌}
use Rattle.std.specs.Prelude.{Result}
use Rattle.ior_refs.specs.declared.key.ObjectKey.{ObjectKey}
use Rattle.ots_model.specs.declared.completion.Stood.{Stood}
use Rattle.ots_model.specs.declared.tree.Outward.{Outward}
use Rattle.ots_outside.specs.MemDisk.{MemDiskState}
use Rattle.decision_journal.specs.Calls.{IsCurrent}
use Rattle.recovery_coord.specs.Laws.{CompletesOnce}
use Rattle.coordinator.specs.NodeCalls.{applies}
use Rattle.coordinator.specs.declared.event.Event.{Event}
use Rattle.coordinator.specs.declared.node.NodeFault.{NodeFault}
use Rattle.coordinator.specs.declared.said.StepAnswer.{StepAnswer}
use Rattle.family_laws.specs.HeldRecords.{HeldRecordsStood}
use Rattle.family_laws.specs.OwnDecisions.{NodesKeepDecisions}
use Rattle.nodes_world.specs.Laws.{RecordsAreRead}
use Rattle.service_node.specs.Applying.{IsApplied, IsUnapplied}
use Rattle.service_node.specs.NodeState.{NodeState}
use Rattle.nodes_lives.specs.Running.{IsRunning, end_from, told}
use Rattle.nodes_lives.specs.Writing.{Writes, is_memory}
use Rattle.nodes_lives.proofs.Applying.{node_now, runs_on, writes}

-- it went through
pub record Goes (k : ObjectKey) (e : Event) (loaded : List ℕ) (end : ℕ) (s t : NodeState MemDiskState) (said : Result StepAnswer NodeFault) (words more : List Outward) : Type 0 where
  pub stood : Option Stood
  pub runs : IsRunning t loaded (end_from t.journal.disk.disk.reads end)
  pub writes : Writes k e loaded (record { node = s.node; disk = s.journal.disk.disk }) t.journal.disk.disk stood end (end_from t.journal.disk.disk.reads end)
  pub node : t.node ≡ (applies k e stood s.node).node
  pub answer : said ≡ (applies k e stood s.node).answer
  pub words_are : more ≡ words ++ (applies k e stood s.node).words

module _ (wants : Bool) (counts : MemDiskState → ℕ) (read : RecordsAreRead) (keep : NodesKeepDecisions) (law : HeldRecordsStood) (once : CompletesOnce) (k : ObjectKey) (e : Event)
    (s t : NodeState MemDiskState) (loaded : List ℕ) (end : ℕ) (r : IsRunning s loaded end) (current : IsCurrent told s.journal) (said : Result StepAnswer NodeFault)
    (words more : List Outward) (other : is_memory said ≡ false) (works : t.journal.failed ≡ false) where
  by_applied : IsApplied wants told counts k e s t said words more → Goes k e loaded end s t said words more
  by_applied a = record {
    stood = a.stood;
    runs = runs_on counts read keep law once k e s t loaded end r current a.stood a.asked works a.node_is;
    writes = writes counts read keep law once k e s t loaded end r current a.stood a.asked works a.node_is;
    node = node_now counts read keep law once k e s t loaded end r current a.stood a.asked works a.node_is;
    answer = a.answer_is;
    words_are = a.words_are;
  }

  by_want : IsUnapplied k e s t said words more → Goes k e loaded end s t said words more
  by_want u = absurd (no (sym other ∙ ap is_memory u.fault))
    where
      no : false ≡ true → ⊥
      no same = cc

  pub goes : IsApplied wants told counts k e s t said words more ⊎ IsUnapplied k e s t said words more → Goes k e loaded end s t said words more
  goes (inl a) = by_applied a
  goes (inr u) = by_want u
