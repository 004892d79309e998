use Rattle.std.proofs.Common.{◌≡◌, arith, subst, sym, All}
use Rattle.std.specs.Arc.{arc_value}
use Rattle.ots_server.proofs.Counts.{one_more}
use Rattle.ots_server.proofs.servant.servants_of.Goals as goal

pub loop-number-preserved : goal.loop-number-preserved
loop-number-preserved g c = record {
  made = omega (arith, c.in_ok-push.ensures.len, c.loop-number.invariant.made);
  passes = omega (arith, c.in-Some-pop-2.ensures.len, c.loop-number.invariant.passes);
  links = omega (arith, c.in-Some-pop.ensures.len, c.loop-number.invariant.links);
  clocks = omega (arith, c.in-Some.ensures.len, c.loop-number.invariant.clocks);
  rooms = subst (All (λ servant. arc_value servant.room ≡ arc_value c.args.room.now)) (sym c.in_ok-push.ensures.items)
      (one_more (λ servant. arc_value servant.room) (arc_value c.args.room.now) c.loop-number.servants.items _ c.loop-number.invariant.rooms c.in_ok-mine.ensures);
}
