use Rattle.nodes_replay.proofs.Safely.{ends_safely}
use Rattle.nodes_replay.proofs.world.World.tell_end.Goals as goal

pub returns-clause-agreement : goal.returns-clause-agreement
returns-clause-agreement c told h =
    ends_safely c.laws_hold.ensures.lines c.args.self.now told c.args.lines.now.items c.tell_journals.new.lines.items c.tell_journals.result h
    c.tell_journals.ensures.finished
