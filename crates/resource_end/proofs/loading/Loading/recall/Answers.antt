use Rattle.std.proofs.Common.{◌∙◌, [], Some, None, ap, sym, subst}
use Rattle.std.specs.Prelude.{find}
use Rattle.decision_journal.specs.Layout.{Fits}
use Rattle.resource_end.specs.declared.state.State.TheVariants as states
use Rattle.resource_end.specs.Recall.{is_recorded_at}
use Rattle.resource_end.specs.Inside.{AreRecorded, AreWritable, IsRecorded, IsWritable, contents_of, prepared_id, put_by_record, stored_cells}
use Rattle.resource_end.proofs.Claims.{on_both, on_ok}
use Rattle.resource_end.proofs.Told.{all_with, applies_told, at_its_place, ended_writable, ends_told, others_told, prepares_told}
use Rattle.resource_end.proofs.loading.Loading.recall.Goals as goal

pub returns-in-CellsPrepared-clause-told : goal.returns-in-CellsPrepared-clause-told
returns-in-CellsPrepared-clause-told c =
    on_ok c.prepare.result _ _ c.prepare.ensures.resources
    (λ p. prepares_told c.args.each.now c.in-CellsPrepared.life c.in-CellsPrepared.number c.in-CellsPrepared.recovery c.in-CellsPrepared.puts c.in-CellsPrepared.is
    c.args.self.now.resources c.prepare.new.self.resources (stored_cells c.args.self.now.cells) (stored_cells c.prepare.new.self.cells) p c.prepare.ensures.cells)

pub returns-in-CellsPrepared-clause-recorded : goal.returns-in-CellsPrepared-clause-recorded
returns-in-CellsPrepared-clause-recorded c =
    on_ok c.prepare.result _ _ c.prepare.ensures.resources
    (λ p. subst (AreRecorded c.args.standing.now) (sym p)
    (all_with (IsRecorded c.args.standing.now) c.args.self.now.resources
    (put_by_record states.Prepared (c.in-CellsPrepared.life, c.in-CellsPrepared.number) c.in-CellsPrepared.recovery c.in-CellsPrepared.puts (Some c.args.each.now.place) c.args.self.now.resources)
    c.requires.recorded
    (at_its_place c.args.standing.now c.requires.order c.args.each.now c.requires.among ∙ ap prepared_id c.in-CellsPrepared.is)))

pub returns-in-CellsOutcome-clause-told : goal.returns-in-CellsOutcome-clause-told
returns-in-CellsOutcome-clause-told c =
    on_ok c.end.result _ _ c.end.ensures.after (λ p. ends_told c.args.each.now c.in-CellsOutcome.place c.in-CellsOutcome.end c.in-CellsOutcome.is _ _ p)

pub returns-in-CellsOnePhase-clause-told : goal.returns-in-CellsOnePhase-clause-told
returns-in-CellsOnePhase-clause-told c =
    on_both c.apply.result _ _ _ c.apply.ensures.resources c.apply.ensures.cells
    (λ p q. applies_told c.args.each.now c.in-CellsOnePhase.life c.in-CellsOnePhase.number c.in-CellsOnePhase.puts c.in-CellsOnePhase.is
    c.args.self.now.resources c.apply.new.self.resources (stored_cells c.args.self.now.cells) (stored_cells c.apply.new.self.cells) p q)

pub returns-in-CellsOnePhase-clause-recorded : goal.returns-in-CellsOnePhase-clause-recorded
returns-in-CellsOnePhase-clause-recorded c =
    on_ok c.apply.result _ _ c.apply.ensures.resources
    (λ p. subst (AreRecorded c.args.standing.now) (sym p)
    (all_with (IsRecorded c.args.standing.now) c.args.self.now.resources
    (put_by_record states.Applied (c.in-CellsOnePhase.life, c.in-CellsOnePhase.number) [] [] None c.args.self.now.resources) c.requires.recorded tt))

pub returns-in_default : goal.returns-in_default
returns-in_default c = record {
  told = λ e. others_told c.args.each.now c.in_default.not-CellsPrepared c.in_default.not-CellsOutcome c.in_default.not-CellsOnePhase _;
  recorded = c.requires.recorded;
  writable = c.requires.writable;
}

pub returns-in-CellsPrepared-clause-writable : goal.returns-in-CellsPrepared-clause-writable
returns-in-CellsPrepared-clause-writable c =
    on_ok c.prepare.result _ _ c.prepare.ensures.resources
    (λ p. subst (AreWritable 0) (sym p)
    (all_with (λ id r. IsWritable 0 r.state r) c.args.self.now.resources
    (put_by_record states.Prepared (c.in-CellsPrepared.life, c.in-CellsPrepared.number) c.in-CellsPrepared.recovery c.in-CellsPrepared.puts (Some c.args.each.now.place) c.args.self.now.resources)
    c.requires.writable tt))

pub returns-in-CellsOutcome-clause-writable : goal.returns-in-CellsOutcome-clause-writable
returns-in-CellsOutcome-clause-writable c =
    on_ok c.end.result _ _ c.end.ensures.after
    (λ p. subst (λ s. AreWritable 0 s.resources) (sym p)
    (ended_writable 0 c.in-CellsOutcome.end (find (is_recorded_at c.in-CellsOutcome.place) c.args.self.now.resources)
    (contents_of c.args.self.now.resources c.args.self.now.cells) c.requires.writable))

pub returns-in-CellsOnePhase-clause-writable : goal.returns-in-CellsOnePhase-clause-writable
returns-in-CellsOnePhase-clause-writable c =
    on_ok c.apply.result _ _ c.apply.ensures.resources
    (λ p. subst (AreWritable 0) (sym p)
    (all_with (λ id r. IsWritable 0 r.state r) c.args.self.now.resources
    (put_by_record states.Applied (c.in-CellsOnePhase.life, c.in-CellsOnePhase.number) [] [] None c.args.self.now.resources)
    c.requires.writable tt))

pub prepare-requires : goal.prepare-requires
prepare-requires c = (subst Fits c.in-CellsPrepared.is c.requires.fits).3.2
