use Rattle.std.proofs.Common.{◌≡◌, ◌∙◌, None, ap, sym, subst}
use Rattle.std.specs.Prelude.{find, IsSome}
use Rattle.resource_end.specs.States.{is_unfinished, state_of}
use Rattle.resource_end.specs.Cells.{with_puts}
use Rattle.resource_end.specs.End.{kept, moved}
use Rattle.resource_end.specs.Recall.{is_recorded_at}
use Rattle.resource_end.specs.Inside.{AreRecorded, IsRecorded, contents_of, ended, numbered, placed, puts_stored, stored_cells}
use Rattle.resource_end.proofs.Again.{all_may, ends_over}
use Rattle.resource_end.proofs.Claims.{at_known, its_number, itself, known, on_ok}
use Rattle.resource_end.proofs.Named.{one_number}
use Rattle.resource_end.proofs.Told.{all_kept, ended_is}
use Rattle.resource_end.proofs.loading.Loading.end.Goals as goal

pub returns-in-None : goal.returns-in-None
returns-in-None c = record {
  after = ap (λ o. ended (state_of c.args.end) o (contents_of c.args.self.now.resources c.args.self.now.cells)) (sym c.in-None.ensures);
  recorded = c.requires.recorded;
}

pub change-puts-requires : goal.change-puts-requires
change-puts-requires c = record {
  known = subst IsSome c.in-Some.ensures.0 c.in-Some.ensures.1;
  follows = all_may c.of_end.result (numbered c.in-Some.id c.args.self.now.resources) (ap is_unfinished c.of_end.ensures ∙ ends_over c.args.end);
}

pub returns : goal.returns
returns c =
    let there = subst IsSome c.in-Some.ensures.0 c.in-Some.ensures.1 in
    let it = known (numbered c.in-Some.id c.args.self.now.resources) there
    (λ r. c.change-puts.new.self ≡ kept (moved c.of_end.result (placed c.of_end.result None r)) c.args.self.now.resources) c.change-puts.ensures.after in
    let puts = at_known (numbered c.in-Some.id c.args.self.now.resources) it.0 (λ r. c.change-puts.result.items ≡ puts_stored c.of_end.result r) it.1.0 c.change-puts.ensures.puts in
    let own = at_known (numbered c.in-Some.id c.args.self.now.resources) it.0 (IsRecorded c.args.standing.now c.in-Some.id) it.1.0 (c.requires.recorded c.in-Some.id) in
    let id = one_number c.in-Some.id (it.0.life, it.0.number) it.0 (its_number c.in-Some.id c.args.self.now.resources it.0 it.1.0) (itself it.0) in
    record {
      after = on_ok c.load_all.result _ _ c.load_all.ensures.stored (λ stored.
          ended_is c.of_end.result it.0 c.args.self.now.resources c.change-puts.new.self (stored_cells c.args.self.now.cells) (stored_cells c.load_all.new.self)
          (find (is_recorded_at c.args.place) c.args.self.now.resources) (c.in-Some.ensures.0 ∙ it.1.0) it.1.1
          (stored ∙ ap (λ ps. with_puts ps (stored_cells c.args.self.now.cells)) (c.as_slice.ensures.value ∙ puts))
          ∙ ap (λ s. ended s (find (is_recorded_at c.args.place) c.args.self.now.resources) (contents_of c.args.self.now.resources c.args.self.now.cells)) c.of_end.ensures);
      recorded = on_ok c.load_all.result _ _ c.load_all.ensures.stored (λ stored.
          subst (AreRecorded c.args.standing.now) (sym it.1.1)
          (all_kept (IsRecorded c.args.standing.now) c.args.self.now.resources (moved c.of_end.result it.0) c.requires.recorded
          (subst (λ k. IsRecorded c.args.standing.now k it.0) id own)));
    }
