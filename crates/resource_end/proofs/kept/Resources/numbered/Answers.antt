use Rattle.std.proofs.Common.{◌∙◌, ap}
use Rattle.std.specs.Option.{option_map}
use Rattle.resource_end.specs.Inside.{numbered, resource_at}
use Rattle.resource_end.proofs.Numbered.{found, only_now}
use Rattle.resource_end.proofs.kept.Resources.numbered.Goals as goal

pub returns-clause-found : goal.returns-clause-found
returns-clause-found c = ap (option_map (resource_at c.args.id)) c.get.ensures.value ∙ found c.args.id c.self.inside.map.entries ∙ ap (numbered c.args.id) c.self.view_is

pub returns-clause-apart : goal.returns-clause-apart
returns-clause-apart c test id alone = only_now test id c.self.inside.map.entries c.args.self.now c.self.view_is c.self.invariant.0 alone
