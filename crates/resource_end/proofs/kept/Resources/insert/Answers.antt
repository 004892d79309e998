use Rattle.std.proofs.Common.{◌∙◌, ap, sym}
use Rattle.std.specs.BTreeMap.{is_at}
use Rattle.std.specs.BTreeSet.{insert_key}
use Rattle.std.specs.Set.{remove_key}
use Rattle.resource_end.specs.End.{with_resource}
use Rattle.resource_end.specs.Inside.{id_cmp, resource_at, resources_of, unfinished_ids}
use Rattle.resource_end.proofs.Counted.{ids_put, ids_put_over, ids_taken_back}
use Rattle.resource_end.proofs.Numbered.{inserted}
use Rattle.resource_end.proofs.kept.Resources.insert.Goals as goal

pub invariant_of-self-then-not-is_unfinished : goal.invariant_of-self-then-not-is_unfinished
invariant_of-self-then-not-is_unfinished c = (
  c.insert.ensures.ordered,
  c.remove.ensures.keys
      ∙ ap (remove_key (is_at (id_cmp c.args.id))) c.self.invariant.1
      ∙ sym (ids_put_over c.args.id c.args.kept c.self.inside.map.entries c.self.invariant.0 (sym c.if-not-is_unfinished.ensures))
      ∙ ap unfinished_ids (sym c.in-Ok.ensures.entries),
)

pub returns-then-not-is_unfinished-clause-ok : goal.returns-then-not-is_unfinished-clause-ok
returns-then-not-is_unfinished-clause-ok c =
    ap resources_of c.in-Ok.ensures.entries ∙ inserted c.args.id c.args.kept c.self.inside.map.entries ∙ ap (with_resource (resource_at c.args.id c.args.kept)) c.self.view_is

pub invariant_of-self-in-Err-insert-2 : goal.invariant_of-self-in-Err-insert-2
invariant_of-self-in-Err-insert-2 c = (
  c.insert-3.ensures.ordered,
  c.remove-in-Err-insert-2.ensures.keys
      ∙ ap (remove_key (is_at (id_cmp c.args.id))) (c.in-Ok-insert.ensures.keys ∙ ap (λ ks. insert_key id_cmp ks c.args.id) c.self.invariant.1)
      ∙ ids_taken_back c.args.id c.self.inside.map.entries c.in-Err-insert-2.ensures.absent
      ∙ ap unfinished_ids (sym c.in-Err-insert-2.ensures.err),
)

pub invariant_of-self-in-Ok-insert-2 : goal.invariant_of-self-in-Ok-insert-2
invariant_of-self-in-Ok-insert-2 c = (
  c.insert-3.ensures.ordered,
  c.in-Ok-insert.ensures.keys
      ∙ ap (λ ks. insert_key id_cmp ks c.args.id) c.self.invariant.1
      ∙ sym (ids_put c.args.id c.args.kept c.self.inside.map.entries c.self.invariant.0 (sym c.if-not-is_unfinished.ensures))
      ∙ ap unfinished_ids (sym c.in-Ok-insert-2.ensures.entries),
)

pub returns-in-Ok-insert-2-clause-ok : goal.returns-in-Ok-insert-2-clause-ok
returns-in-Ok-insert-2-clause-ok c =
    ap resources_of c.in-Ok-insert-2.ensures.entries ∙ inserted c.args.id c.args.kept c.self.inside.map.entries ∙ ap (with_resource (resource_at c.args.id c.args.kept)) c.self.view_is
