use Rattle.std.proofs.Common.{Some, sym, ap, ◌∙◌}
use Rattle.recovery_coord.proofs.Ordered.{place_found, place_free}
use Rattle.recovery_coord.proofs.records.record_at.Goals as goal

pub returns-in-Ok : goal.returns-in-Ok
returns-in-Ok c =
    ap Some c.index-records-index.is
    ∙ sym (place_found c.args.place 0 c.args.records.now c.requires.order c.in-Ok.index c.index-records-index.result c.in-Ok.ensures.found)

pub returns-in-Err : goal.returns-in-Err
returns-in-Err c = sym (place_free c.args.place c.in-Err.field-0 c.args.records.now c.in-Err.ensures.none)
