use Rattle.end_room.proofs.shared_end.SharedEndEnds.asks.Goals as goal

pub returns-clause-does : goal.returns-clause-does
returns-clause-does g c = (_, (_, c.asks.ensures.does))
