-- A node stays of its service, and in its life.
use Rattle.std.proofs.Common.{◌≡◌, ◌⊎◌, inl, inr, ap, ℕ, Bool, true, false, List, Option, Some, None, Result, if◌then◌else◌}
use Rattle.std.specs.Prelude.{IfSome}
use Rattle.std.specs.Option.{option_map}
use Rattle.ior_refs.specs.declared.key.ObjectKey.{ObjectKey}
use Rattle.ots_model.specs.declared.tree.Outward.{Outward}
use Rattle.ots_outside.specs.Disk.{DiskState}
use Rattle.decision_journal.specs.Journal.{with_record}
use Rattle.decision_journal.specs.State.{JournalState}
use Rattle.coordinator.specs.declared.event.Event.{Event}
use Rattle.coordinator.specs.declared.node.NodeFault.{NodeFault}
use Rattle.coordinator.specs.declared.said.StepAnswer.{StepAnswer}
use Rattle.coordinator.specs.Family.{Family}
use Rattle.coordinator.specs.History.{has_room}
use Rattle.coordinator.specs.Node.{Node, life}
use Rattle.coordinator.specs.NodeCalls.{RetoldAnswer, call_wants, family_for, records_want, retold_answer, wanted_by}
use Rattle.coordinator.specs.Step.{WritesDone, wanted}
use Rattle.recovery_coord.specs.Hearing.{completed}
use Rattle.service_node.specs.Applying.{IsApplied, IsUnapplied}
use Rattle.service_node.specs.NodeState.{NodeState, StaysInLife}
use Rattle.service_node.proofs.Applied.{AppendsDecision, leaves_asked}
use Rattle.service_node.proofs.Applies.{appends_decision}

-- only decisions are appended in a call
wants_decision : (k : ObjectKey) (e : Event) (n : Node) → AppendsDecision (call_wants k e n)
unfolding call_wants
wants_decision k e n = by_family (family_for k e n)
  where
    by_room : (f : Family) (b : Bool) → AppendsDecision (if b then wanted f e else None)
    by_room f true = appends_decision f e
    by_room f false = tt

    by_place : (o : Option ℕ) → AppendsDecision (option_map WritesDone o)
    by_place (Some place) = tt
    by_place None = tt

    by_answer : (o : Option RetoldAnswer) → AppendsDecision (records_want o n)
    by_answer (Some a) = by_place (completed (life n) a.number a.heard n.recovered)
    by_answer None = tt

    by_family : (o : Option Family) → AppendsDecision (wanted_by o e n)
    by_family (Some f) = by_room f (has_room f.entries e)
    by_family None = by_answer (retold_answer e.act)

module _ {D : Type 0} where
  pub stays_in_life : (wants : Bool) (told : D → Option DiskState) (counts : D → ℕ) (k : ObjectKey) (e : Event) (before after : NodeState D)
      (said : Result StepAnswer NodeFault) (words more : List Outward)
      → IfSome before.journal.doubted (λ r. (place : ℕ) → (with_record before.journal.found place r).life ≡ before.journal.found.life)
      → IsApplied wants told counts k e before after said words more ⊎ IsUnapplied k e before after said words more → StaysInLife before after
  stays_in_life wants told counts k e before after said words more sure (inl applied) =
      let left = leaves_asked told counts before.journal after.journal sure (call_wants k e before.node) applied.stood
      (wants_decision k e before.node) applied.asked in
      record { service_is = left.service; life_is = left.life }
  stays_in_life wants told counts k e before after said words more sure (inr unapplied) = record {
    service_is = ap (λ (n : NodeState D). n.journal.service) unapplied.same;
    life_is = ap (λ (n : NodeState D). n.journal.found.life) unapplied.same;
  }
