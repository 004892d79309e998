use Rattle.std.proofs.Common.{[], arith}
use Rattle.recovery_coord.specs.Held.{loaded}
use Rattle.recovery_coord.proofs.Pieces.{one_more}
use Rattle.recovery_coord.proofs.recovered.load_all.Goals as goal

pub loop-each-preserved : goal.loop-each-preserved
loop-each-preserved c =
    one_more loaded c.args.standing.now c.loop-each.each-index c.each-item.result
    [] c.loop-each.records.items c.load_one.new.records.items (omega arith) c.each-item.is c.loop-each.invariant c.in_ok-load_one.ensures
