use Rattle.std.proofs.Common.{OnErr, refl, subst}
use Rattle.coordinator.specs.Node.{Node}
use Rattle.service_node.specs.NodeState.{NodeState, node_of}
use Rattle.service_node.specs.Ticking.{HasPassedInPart, HasPassedSome}
use Rattle.service_node.proofs.Passed.{on_err_too, passed_some, passed_together, taken_some}
use Rattle.service_node.proofs.Stands.{taken_stands}
use Rattle.service_node.proofs.Whole.{records_together}
use Rattle.service_node.proofs.node.Node.pass_time.Goals as goal

pub invariant_of-self : goal.invariant_of-self
invariant_of-self g c =
    let now = c.args.now in
    let journal = c.self.inside.journal in
    let held = c.self.inside.recovered in
    let later = c.pass_time.new.recovered in
    let fs = c.self.inside.slots in
    let gs = c.pass_time.new.self in
    let passed = passed_some now fs gs c.pass_time.result journal.found held.records later.records c.args.out.now.words c.pass_time.new.out.words c.pass_time.ensures.part c.pass_time.ensures.passed in
    let taken = taken_some now fs gs c.pass_time.result journal.found held.records later.records c.args.out.now.words c.pass_time.new.out.words c.pass_time.ensures.part c.pass_time.ensures.taken in
    passed_together journal later fs gs c.self.inside.last c.self.inside.generation now passed.0
    (records_together journal held later fs c.self.inside.last c.self.inside.generation c.self.invariant c.pass_time.ensures.others
    (taken_stands journal.found now taken.0 fs held.records later.records taken.1 c.self.invariant.whole.held)) passed.1

pub returns-clause-part : goal.returns-clause-part
returns-clause-part g c =
    let held = c.self.inside.recovered in
    let later = c.pass_time.new.recovered in
    let after : Node = node_of c.self.inside.journal.service c.self.inside.journal.found later.records c.pass_time.new.self c.self.inside.last c.self.inside.generation in
    subst (λ (s : NodeState g.row.D.Denot). OnErr c.pass_time.result (HasPassedSome c.args.now s.node after c.args.out.now.words c.pass_time.new.out.words)) c.self.view_is
    (on_err_too c.pass_time.result
    (λ (p : HasPassedInPart c.args.now c.self.inside.journal.found c.self.inside.slots c.pass_time.new.self held.records later.records c.args.out.now.words c.pass_time.new.out.words). record { others = refl; passed = p })
    c.pass_time.ensures.part)
