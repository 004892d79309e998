use Rattle.std.proofs.Common.{sym, ◌∙◌}
use Rattle.nodes_clients.proofs.Begun.{made_at, made_keeps}
use Rattle.nodes_clients.proofs.beginning.create_in.Goals as goal

pub returns-clause-created : goal.returns-clause-created
returns-clause-created c = made_at c.args.seconds c.args.seat.now c.in-Up.node c.create-answer.new.self c.create-answer.result c.in-Up.is c.create-answer.ensures (sym c.is_starved.ensures ∙ c.if-is_starved.false)

pub returns-clause-keeps : goal.returns-clause-keeps
returns-clause-keeps c = made_keeps c.args.seconds c.args.seat.now c.in-Up.node c.create-answer.new.self c.create-answer.result c.in-Up.is c.create-answer.ensures
