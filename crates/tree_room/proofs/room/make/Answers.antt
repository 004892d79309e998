use Rattle.tree_room.proofs.room.make.Goals as goal

pub returns-in-Err-clause-refused : goal.returns-in-Err-clause-refused
returns-in-Err-clause-refused g c = record {
  fault = c.in-Err.fault;
  created = record { before = c.args.node.now; after = c.create.new.self; of_room = c.create.ensures.of_room; made = c.in-Err.ensures.made };
  refusal_is = c.from.ensures;
}
