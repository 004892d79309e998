use Rattle.std.proofs.Common.{◌≡◌, inl, None, subst, if◌then◌else◌}
use Rattle.coordinator.specs.Contexts.{context_named}
use Rattle.service_node.specs.NodeState.{NodeState}
use Rattle.tree_room.specs.Answers.{asks_context, is_plain}
use Rattle.tree_room.proofs.Tails.{applied_where, given_where}
use Rattle.tree_room.proofs.room.call.Goals as goal

pub returns-in-Ok-clause-answered : goal.returns-in-Ok-clause-answered
returns-in-Ok-clause-answered g c = record {
  before = c.args.node.now;
  after = c.apply.new.self;
  of_room = c.apply.ensures.of_room;
  applied = applied_where g.D.Disk.wants_memory g.D.Disk.told g.D.Disk.faults c.args.key.now c.args.event.now c.args.node.now c.apply.new.self
      c.in-Ok.answer c.args.out.now.words c.apply.new.out.words c.in-Ok.ensures.applied;
  context_is = given_where (asks_context c.args.event.now.act) (is_plain c.in-Ok.answer.said)
      (context_named c.args.at.now c.args.event.now.now c.args.key.now c.args.node.now.node)
      c.in_ok-found.found c.given_plainly-context.result
      (subst (λ (n : NodeState g.row.D.Denot). c.in_ok-found.found ≡ (if asks_context c.args.event.now.act
      then context_named c.args.at.now c.args.event.now.now c.args.key.now n.node else None)) c.node.ensures.same c.in_ok-found.ensures.found)
      c.given_plainly-context.ensures.given;
  crash = c.apply.ensures.crash;
}

pub returns-in-Err-clause-refused : goal.returns-in-Err-clause-refused
returns-in-Err-clause-refused g c = inl (record {
  before = c.args.node.now;
  after = c.apply.new.self;
  fault = c.in-Err.fault;
  of_room = c.apply.ensures.of_room;
  applied = c.in-Err.ensures.applied;
  refusal_is = c.from.ensures;
  crash = c.apply.ensures.crash;
})
