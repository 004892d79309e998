use Rattle.nodes_replay.proofs.Promises.{commits_kept, decisions_told, goes_on_lasting, resources_stay, restart_tells_again}
use Rattle.nodes_replay.proofs.Safely.{goes_on_safely}
use Rattle.nodes_replay.proofs.world.World.step.Goals as goal

pub returns-clause-agreement : goal.returns-clause-agreement
returns-clause-agreement c told h =
    goes_on_safely c.laws_hold.ensures.lines c.args.self.now c.args.event.now c.carry_out.new.self told c.args.lines.now.items
    c.carry_out.new.lines.items c.carry_out.result c.goes_on.ensures c.gives_name.ensures h c.carry_out.ensures.stepped

pub returns-clause-lasts : goal.returns-clause-lasts
returns-clause-lasts c told h =
    goes_on_lasting c.laws_hold.ensures.lines c.args.self.now c.args.event.now c.carry_out.new.self told c.args.lines.now.items
    c.carry_out.new.lines.items c.carry_out.result c.goes_on.ensures c.gives_name.ensures h c.carry_out.ensures.stepped.moved

pub returns-clause-recorded : goal.returns-clause-recorded
returns-clause-recorded c told h = decisions_told c.laws_hold.ensures.told c.carry_out.new.self told h

pub returns-clause-again : goal.returns-clause-again
returns-clause-again c told h =
    restart_tells_again c.laws_hold.ensures.lines c.laws_hold.ensures.again c.args.self.now c.args.event.now c.carry_out.new.self told c.args.lines.now.items
    c.carry_out.new.lines.items c.carry_out.result h c.carry_out.ensures.stepped.moved

pub returns-clause-stays : goal.returns-clause-stays
returns-clause-stays c =
    resources_stay c.laws_hold.ensures.lines c.laws_hold.ensures.stays c.args.self.now c.args.event.now c.carry_out.new.self c.args.lines.now.items
    c.carry_out.new.lines.items c.carry_out.result c.carry_out.ensures.stepped.moved

pub returns-clause-stored : goal.returns-clause-stored
returns-clause-stored c told h = commits_kept c.laws_hold.ensures.stored c.carry_out.new.self told h
