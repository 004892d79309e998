use Rattle.std.proofs.lemmas.Result.{err_from_is_err_and}
use Rattle.std.proofs.Common.{◌∙◌, Err, Ok, inl, inr, refl, sym, ap, subst}
use Rattle.recovery_coord.specs.Held.{is_held}
use Rattle.recovery_coord.specs.Hearing.{completed}
use Rattle.coordinator.specs.declared.node.NodeFault.{NodeFault}
use Rattle.coordinator.specs.declared.said.StepAnswer.{StepAnswer}
use Rattle.coordinator.specs.Node.{life}
use Rattle.coordinator.specs.NodeCalls.{hears_record}
use Rattle.service_node.specs.Journaling.{IsAnsweredOrStarved}
use Rattle.service_node.specs.NodeState.{NodeState, node_of}
use Rattle.service_node.proofs.Told.{answered, still_together, unheld}
use Rattle.service_node.proofs.node.Node.hear_record.Goals as goal

pub returns-then-not-holds-clause-answered : goal.returns-then-not-holds-clause-answered
returns-then-not-holds-clause-answered g c =
    inl (unheld g.D.Disk.wants_memory g.D.Disk.told g.D.Disk.faults c.args.self.now c.args.number.now c.args.heard.now
    (ap (λ (s : NodeState g.row.D.Denot). is_held c.args.number.now.generation s.node.recovered) (sym c.self.view_is)
    ∙ sym c.holds.ensures ∙ c.if-not-holds.true))

pub invariant_of-self : goal.invariant_of-self
invariant_of-self g c =
    still_together g.D.Disk.wants_memory g.D.Disk.told g.D.Disk.faults c.self.inside.journal c.conclude.new.journal c.self.inside.recovered c.heard-complete.new.self c.conclude.new.recovered
    c.self.inside.slots c.self.inside.last c.self.inside.generation c.args.number.now c.args.heard.now c.heard-complete.result c.conclude.new.happened.items
    c.self.invariant c.heard-complete.ensures.records c.conclude.ensures.concluded c.conclude.ensures.sure

pub returns-clause-answered : goal.returns-clause-answered
returns-clause-answered g c =
    let told = g.D.Disk.told in
    let n = c.args.number.now in
    let h = c.args.heard.now in
    let later : NodeState g.row.D.Denot = record {
      node = node_of c.conclude.new.journal.service c.conclude.new.journal.found c.conclude.new.recovered.records c.self.inside.slots c.self.inside.last c.self.inside.generation;
      journal = c.conclude.new.journal;
    } in
    subst (λ (s : NodeState g.row.D.Denot). IsAnsweredOrStarved g.D.Disk.wants_memory told g.D.Disk.faults s later (Ok c.alone.result) (is_held n.generation s.node.recovered) (completed (life s.node) n h s.node.recovered) (hears_record n h)) c.self.view_is
    (subst (λ (a : StepAnswer). IsAnsweredOrStarved g.D.Disk.wants_memory told g.D.Disk.faults (record {
      node = node_of c.self.inside.journal.service c.self.inside.journal.found c.self.inside.recovered.records c.self.inside.slots c.self.inside.last c.self.inside.generation;
      journal = c.self.inside.journal;
    }) later (Ok a) (is_held n.generation c.self.inside.recovered.records) (completed c.self.inside.journal.found.life n h c.self.inside.recovered.records) (hears_record n h)) (sym c.alone.ensures)
    (inl (answered g.D.Disk.wants_memory told g.D.Disk.faults c.self.inside.journal c.conclude.new.journal c.self.inside.recovered c.heard-complete.new.self c.conclude.new.recovered
    c.self.inside.slots c.self.inside.last c.self.inside.generation n h c.heard-complete.result c.conclude.new.happened.items
    c.self.invariant c.heard-complete.ensures.records c.conclude.ensures.concluded c.conclude.ensures.sure
    (sym c.holds.ensures ∙ c.if-not-holds.false)
    c.heard-complete.ensures.complete)))

pub returns-in_err-happened-clause-answered : goal.returns-in_err-happened-clause-answered
returns-in_err-happened-clause-answered g c =
    let gone = err_from_is_err_and c.from_residual.result c.from_residual.ensures.1 in
    inr (record {
      wanted = ap (λ (s : NodeState g.row.D.Denot). is_held c.args.number.now.generation s.node.recovered) (sym c.self.view_is)
          ∙ sym c.holds.ensures ∙ c.if-not-holds.false;
      same = refl;
      answer = gone.1 ∙ ap (λ (fault : NodeFault). Err fault) gone.2;
    })
