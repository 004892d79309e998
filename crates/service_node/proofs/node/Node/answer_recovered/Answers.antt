use Rattle.coordinator.specs.NodeCalls.{answers_recovered, retold_answer}
use Rattle.service_node.specs.Journaling.{completed_by, records_take}
use Rattle.service_node.proofs.Crashing.{answered_safe}
use Rattle.service_node.proofs.node.Node.answer_recovered.Goals as goal

pub returns-clause-crash : goal.returns-clause-crash
returns-clause-crash g c =
    let n = c.args.self.now.node in
    let o = retold_answer c.args.event.now.act in
    answered_safe c.kept.ensures.appends g.D.Disk.told g.D.Disk.faults c.args.self.now c.answer-said.new.self c.kept.ensures.known c.kept-2.ensures.known
    c.answer-said.result g.D.Disk.wants_memory (records_take o n) (completed_by o n) (answers_recovered c.args.key.now c.args.event.now) c.answer-said.ensures.answered
