use Rattle.std.proofs.Common.{sym, ◌∙◌}
use Rattle.nodes_replay.proofs.Flowing.{looked_nothing, none_waits}
use Rattle.nodes_replay.proofs.deeds.flow_waiting.Goals as goal

pub returns-in-None-clause-does : goal.returns-in-None-clause-does
returns-in-None-clause-does c =
    looked_nothing c.args.state.now c.lowest.new.self c.lowest.ensures.same c.args.count c.args.lines.now.items
    (sym c.lowest.ensures.lowest ∙ c.in-None.is)

pub returns-in-Some-clause-quiet : goal.returns-in-Some-clause-quiet
returns-in-Some-clause-quiet c none =
    absurd (none_waits c.args.state.now c.lowest.result _ c.lowest.ensures.lowest c.in-Some.is none)
