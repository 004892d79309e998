use Rattle.std.proofs.Common.{Option, None, inl, refl, subst}
use Rattle.ots_model.specs.declared.completion.Stood.{Stood}
use Rattle.coordinator.specs.Node.{Node}
use Rattle.coordinator.specs.NodeCalls.{RetoldAnswer, answers_recovered, by_records}
use Rattle.service_node.specs.Journaling.{IsAnsweredOrStarved, completed_by, records_take}
use Rattle.service_node.proofs.Told.{replies_stay}
use Rattle.service_node.proofs.node.Node.answer.Goals as goal

pub returns-in-Some-clause-answered : goal.returns-in-Some-clause-answered
unfolding answers_recovered
returns-in-Some-clause-answered g c =
    subst (λ (o : Option RetoldAnswer). IsAnsweredOrStarved g.D.Disk.wants_memory g.D.Disk.told g.D.Disk.faults c.args.self.now c.hear_record.new.self c.hear_record.result (records_take o c.args.self.now.node) (completed_by o c.args.self.now.node)
    (λ (stood : Option Stood) (n : Node). by_records o c.args.key.now c.args.event.now stood n)) c.in-Some.ensures c.hear_record.ensures.answered

pub returns-in-None-clause-answered : goal.returns-in-None-clause-answered
unfolding answers_recovered
returns-in-None-clause-answered g c =
    subst (λ (o : Option RetoldAnswer). IsAnsweredOrStarved g.D.Disk.wants_memory g.D.Disk.told g.D.Disk.faults c.args.self.now c.args.self.now c.say.result (records_take o c.args.self.now.node) (completed_by o c.args.self.now.node)
    (λ (stood : Option Stood) (n : Node). by_records o c.args.key.now c.args.event.now stood n)) c.in-None.ensures
    (inl (record {
      stood = None;
      caused = tt;
      asked = (refl, refl);
      node = replies_stay _ c.args.self.now.node;
      answer = c.say.ensures;
    }))
