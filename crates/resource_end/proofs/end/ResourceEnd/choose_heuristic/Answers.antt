use Rattle.resource_end.specs.Calls.{choose_heuristic, wanted_by_choice}
use Rattle.resource_end.proofs.Crashing.{called_safe}
use Rattle.resource_end.proofs.Staying.{chosen_stays}
use Rattle.resource_end.proofs.end.ResourceEnd.choose_heuristic.Goals as goal

pub returns-clause-crash : goal.returns-clause-crash
returns-clause-crash g c =
    called_safe c.kept.ensures.appends g.D.Disk.told c.args.self.now c.try_choice-said.new.self c.try_choice-said.result c.kept.ensures.whole c.kept-2.ensures.whole
    (wanted_by_choice c.args.d c.args.key.now) (choose_heuristic c.args.key.now c.args.d) c.try_choice-said.ensures.called

pub returns-clause-stays : goal.returns-clause-stays
returns-clause-stays g c =
    λ h. chosen_stays g.D.Disk.told c.args.self.now c.try_choice-said.new.self h c.args.key.now c.args.d c.try_choice-said.result c.try_choice-said.ensures.called
