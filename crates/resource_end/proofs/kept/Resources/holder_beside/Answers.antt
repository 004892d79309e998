use Rattle.std.proofs.Common.{◌∙◌, ap, sym}
use Rattle.std.specs.Option.{option_map}
use Rattle.resource_end.specs.End.{Resource}
use Rattle.resource_end.specs.Inside.{is_other_holder}
use Rattle.resource_end.proofs.Named.{other_alone}
use Rattle.resource_end.proofs.Numbered.{only_now}
use Rattle.resource_end.proofs.kept.Resources.holder_beside.Goals as goal

pub returns : goal.returns
returns c =
    c.holder_at.ensures
    ∙ ap (option_map (λ (r : Resource). r.number))
    (sym (only_now (is_other_holder c.args.id c.args.cell) c.args.holder c.self.inside.map.entries c.args.self.now c.self.view_is c.self.invariant.0
    (other_alone c.args.id c.args.holder c.args.cell c.args.self.now c.requires)))
