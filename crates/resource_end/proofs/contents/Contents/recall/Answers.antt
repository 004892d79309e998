use Rattle.std.proofs.Common.{◌≡◌, None, refl, sym, subst}
use Rattle.std.specs.Prelude.{find}
use Rattle.resource_end.specs.declared.state.State.TheVariants as states
use Rattle.resource_end.specs.Recall.{is_recorded_at}
use Rattle.resource_end.specs.Inside.{AreRecorded, AreWritable, IsRecallable, IsUnrecorded, IsUnrecordedWith, changed, numbered, placed, with_record_of}
use Rattle.resource_end.proofs.Again.{applied_told, changed_recorded, changed_writable, all_may, own_recorded, place_recorded, prepared_told, so_if, so_is_some, some_so}
use Rattle.resource_end.proofs.Claims.{at_known}
use Rattle.resource_end.proofs.Told.{ended_writable, ends_told, others_told}
use Rattle.resource_end.proofs.contents.Contents.recall.Goals as goal

pub recall_prepared-requires : goal.recall_prepared-requires
recall_prepared-requires c =
    let can = subst (λ item. IsRecallable item c.args.recovery c.args.self.now.resources) c.in-CellsPrepared.is c.requires.recallable in
    let o = numbered (c.in-CellsPrepared.life, c.in-CellsPrepared.number) c.args.self.now.resources in
    record {
      known = so_is_some o (IsUnrecordedWith c.in-CellsPrepared.field-3) can.1;
      works = so_if o (IsUnrecordedWith c.in-CellsPrepared.field-3) IsUnrecorded can.1 (λ r h. h.unrecorded);
    }

pub returns-in-CellsPrepared : goal.returns-in-CellsPrepared
returns-in-CellsPrepared c =
    let can = subst (λ item. IsRecallable item c.args.recovery c.args.self.now.resources) c.in-CellsPrepared.is c.requires.recallable in
    let o = numbered (c.in-CellsPrepared.life, c.in-CellsPrepared.number) c.args.self.now.resources in
    let it = some_so o (IsUnrecordedWith c.in-CellsPrepared.field-3) can.1 in
    let after = at_known o it.0 (λ r. c.recall_prepared.new.self ≡ changed states.Prepared (with_record_of c.args.recovery c.args.each.now.place r) c.args.self.now)
    it.1.0 c.recall_prepared.ensures in
    record {
      told = prepared_told c.args.each.now c.in-CellsPrepared.life c.in-CellsPrepared.number c.in-CellsPrepared.field-2 c.args.recovery c.in-CellsPrepared.field-3
          c.in-CellsPrepared.is can.0 c.args.self.now c.recall_prepared.new.self it.0 it.1.0 it.1.1 after;
      recorded = subst (λ s. AreRecorded c.args.standing.now s.resources) (sym after)
          (changed_recorded c.args.standing.now states.Prepared (with_record_of c.args.recovery c.args.each.now.place it.0) c.args.self.now c.requires.recorded
          (place_recorded c.args.standing.now c.args.each.now c.in-CellsPrepared.life c.in-CellsPrepared.number c.in-CellsPrepared.field-2 c.in-CellsPrepared.field-3
          c.requires.order c.requires.among c.in-CellsPrepared.is c.args.self.now.resources it.0 it.1.0));
      writable = λ drawn all. subst (λ s. AreWritable drawn s.resources) (sym after)
          (changed_writable drawn states.Prepared (with_record_of c.args.recovery c.args.each.now.place it.0) c.args.self.now all tt);
    }

pub returns-in-CellsOutcome : goal.returns-in-CellsOutcome
returns-in-CellsOutcome c = record {
  told = ends_told c.args.each.now c.in-CellsOutcome.place c.in-CellsOutcome.end c.in-CellsOutcome.is c.args.self.now c.recall_end.new.self c.recall_end.ensures.after;
  recorded = c.recall_end.ensures.recorded;
  writable = λ drawn all. subst (λ s. AreWritable drawn s.resources) (sym c.recall_end.ensures.after)
      (ended_writable drawn c.in-CellsOutcome.end (find (is_recorded_at c.in-CellsOutcome.place) c.args.self.now.resources) c.args.self.now all);
}

pub change-requires : goal.change-requires
change-requires c =
    let can = subst (λ item. IsRecallable item c.args.recovery c.args.self.now.resources) c.in-CellsOnePhase.is c.requires.recallable in
    let o = numbered (c.in-CellsOnePhase.life, c.in-CellsOnePhase.number) c.args.self.now.resources in
    record {
      known = so_is_some o (IsUnrecordedWith c.in-CellsOnePhase.field-2) can;
      follows = all_may states.Applied o refl;
    }

pub returns-in-CellsOnePhase : goal.returns-in-CellsOnePhase
returns-in-CellsOnePhase c =
    let can = subst (λ item. IsRecallable item c.args.recovery c.args.self.now.resources) c.in-CellsOnePhase.is c.requires.recallable in
    let o = numbered (c.in-CellsOnePhase.life, c.in-CellsOnePhase.number) c.args.self.now.resources in
    let it = some_so o (IsUnrecordedWith c.in-CellsOnePhase.field-2) can in
    let after = at_known o it.0 (λ r. c.change.new.self ≡ changed states.Applied (placed states.Applied None r) c.args.self.now) it.1.0 c.change.ensures in
    record {
      told = applied_told c.args.each.now c.in-CellsOnePhase.life c.in-CellsOnePhase.number c.in-CellsOnePhase.field-2
          c.in-CellsOnePhase.is c.args.self.now c.change.new.self it.0 it.1.0 it.1.1 after;
      recorded = subst (λ s. AreRecorded c.args.standing.now s.resources) (sym after)
          (changed_recorded c.args.standing.now states.Applied it.0 c.args.self.now c.requires.recorded
          (own_recorded c.args.standing.now (c.in-CellsOnePhase.life, c.in-CellsOnePhase.number) c.args.self.now.resources it.0 it.1.0 c.requires.recorded));
      writable = λ drawn all. subst (λ s. AreWritable drawn s.resources) (sym after) (changed_writable drawn states.Applied it.0 c.args.self.now all tt);
    }

pub returns-in_default : goal.returns-in_default
returns-in_default c = record {
  told = λ e. others_told c.args.each.now c.in_default.not-CellsPrepared c.in_default.not-CellsOutcome c.in_default.not-CellsOnePhase _;
  recorded = c.requires.recorded;
  writable = λ drawn all. all;
}
