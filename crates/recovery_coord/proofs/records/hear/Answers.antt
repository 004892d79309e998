use Rattle.std.proofs.Common.{sym, ap}
use Rattle.std.specs.Option.{option_map}
use Rattle.recovery_coord.specs.declared.held.Held.{Held}
use Rattle.recovery_coord.proofs.Ordered.{heard_list, heard_place, heard_rise, none_at, none_completes, unchanged}
use Rattle.recovery_coord.proofs.records.hear.Goals as goal

pub returns-in-Err-clause-after : goal.returns-in-Err-clause-after
returns-in-Err-clause-after c =
    sym (unchanged c.args.n.now c.args.h.now c.args.records.now (none_at c.args.n.now.generation c.in-Err.field-0 c.args.records.now c.in-Err.ensures.none))

pub returns-in-Err-clause-complete : goal.returns-in-Err-clause-complete
returns-in-Err-clause-complete c =
    sym (ap (option_map (λ (r : Held). r.place)) (none_completes c.args.n.now c.args.h.now c.args.records.now (none_at c.args.n.now.generation c.in-Err.field-0 c.args.records.now c.in-Err.ensures.none)))

pub returns-clause-after : goal.returns-clause-after
returns-clause-after c =
    heard_list c.args.n.now c.args.h.now c.args.records.now c.requires.order c.in-Ok.index c.index-records-index.result c.hear_one.new.held c.in-Ok.ensures.found c.hear_one.ensures.after

pub returns-clause-order : goal.returns-clause-order
returns-clause-order c =
    heard_rise c.args.n.now c.args.h.now c.args.records.now c.requires.order c.in-Ok.index c.index-records-index.result c.hear_one.new.held c.in-Ok.ensures.found c.hear_one.ensures.after

pub returns-clause-complete : goal.returns-clause-complete
returns-clause-complete c =
    heard_place c.args.n.now c.args.h.now c.args.records.now c.requires.order c.in-Ok.index c.index-records-index.result c.hear_one.new.held c.in-Ok.ensures.found c.hear_one.ensures.after c.hear_one.result c.hear_one.ensures.complete
