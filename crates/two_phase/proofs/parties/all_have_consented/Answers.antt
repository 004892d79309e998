use Rattle.std.proofs.Common.{ap, ◌∙◌}
use Rattle.std.specs.List.{list_all}
use Rattle.two_phase.specs.Parties.{has_consented}
use Rattle.two_phase.proofs.Consented.{all_behind}
use Rattle.two_phase.proofs.parties.all_have_consented.Goals as goal

pub returns : goal.returns
returns c = c.are_consents.ensures ∙ ap (list_all has_consented) c.behind.ensures ∙ all_behind c.args.consented c.args.parties.now c.requires.consented
