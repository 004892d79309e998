use Rattle.std.proofs.Common.{◌∙◌, ap, sym}
use Rattle.std.specs.BTreeMap.{is_at}
use Rattle.std.specs.Set.{remove_key}
use Rattle.resource_end.specs.Inside.{id_cmp, resources_of, unfinished_ids, without}
use Rattle.resource_end.proofs.Counted.{ids_removed}
use Rattle.resource_end.proofs.Numbered.{removed}
use Rattle.resource_end.proofs.kept.Resources.remove.Goals as goal

pub invariant_of-self : goal.invariant_of-self
invariant_of-self c = (
  c.remove.ensures.ordered,
  c.remove-2.ensures.keys
      ∙ ap (remove_key (is_at (id_cmp c.args.id))) c.self.invariant.1
      ∙ sym (ids_removed c.args.id c.self.inside.map.entries c.self.invariant.0)
      ∙ ap unfinished_ids (sym c.remove.ensures.entries),
)

pub returns : goal.returns
returns c = ap resources_of c.remove.ensures.entries ∙ removed c.args.id c.self.inside.map.entries c.self.invariant.0 ∙ ap (without c.args.id) c.self.view_is
