use Rattle.std.proofs.Common.{◌≡◌, ◌≤◌, ◌⊎◌, is_some, subst, sym, true}
use Rattle.coordinator.specs.NodeCalls.{family_for}
use Rattle.service_node.specs.Applying.{IsApplied, IsUnapplied}
use Rattle.service_node.specs.NodeState.{NodeState, node_of}
use Rattle.service_node.proofs.Stepping.{returned, slot_has, still_together}
use Rattle.service_node.proofs.node.Node.step_in.Goals as goal

pub step-requires-clause-there : goal.step-requires-clause-there
step-requires-clause-there g c =
    let i = c.self.inside in
    slot_has c.args.key.now c.args.event.now (node_of i.journal.service i.journal.found i.recovered.records i.slots i.last i.generation)
    (subst (λ (s : NodeState g.row.D.Denot). is_some (family_for c.args.key.now c.args.event.now s.node) ≡ true) (sym c.self.view_is) c.requires.hears)

pub invariant_of-self : goal.invariant_of-self
invariant_of-self g c =
    still_together g.D.Disk.wants_memory g.D.Disk.told g.D.Disk.faults c.args.key.now c.args.event.now c.self.inside.journal c.step.new.journal c.self.inside.recovered c.step.new.recovered
    c.self.inside.slots c.step.new.self c.self.inside.last c.self.inside.generation c.args.out.now.words c.step.new.out.words
    c.self.invariant c.step.ensures.sure c.step.result c.step.ensures.stepped c.step.ensures.unmoved

pub returns-clause-applied : goal.returns-clause-applied
returns-clause-applied g c =
    let told = g.D.Disk.told in
    let counts = g.D.Disk.faults in
    let k = c.args.key.now in
    let e = c.args.event.now in
    let i = c.self.inside in
    let words = c.args.out.now.words in
    let new = c.step.new in
    let later : NodeState g.row.D.Denot = record {
      node = node_of new.journal.service new.journal.found new.recovered.records new.self i.last i.generation;
      journal = new.journal;
    } in
    subst (λ (s : NodeState g.row.D.Denot). IsApplied g.D.Disk.wants_memory told counts k e s later c.step.result words new.out.words ⊎ IsUnapplied k e s later c.step.result words new.out.words)
    c.self.view_is
    (returned g.D.Disk.wants_memory told counts k e i.journal new.journal i.recovered new.recovered i.slots new.self i.last i.generation words new.out.words c.self.invariant
    c.step.ensures.sure (subst (λ (s : NodeState g.row.D.Denot). is_some (family_for k e s.node) ≡ true) (sym c.self.view_is) c.requires.hears)
    c.step.result c.step.ensures.stepped c.step.ensures.unmoved)

pub returns-clause-later : goal.returns-clause-later
returns-clause-later g c =
    subst (λ (s : NodeState g.row.D.Denot). g.D.Disk.faults s.journal.disk ≤ g.D.Disk.faults c.step.new.journal.disk) c.self.view_is c.step.ensures.later
