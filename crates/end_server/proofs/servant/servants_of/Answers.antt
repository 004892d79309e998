use Rattle.std.proofs.Common.{◌≡◌, arith, subst, sym, All}
use Rattle.end_room.specs.Sharing.{place_of}
use Rattle.end_server.proofs.Counts.{one_more}
use Rattle.end_server.proofs.servant.servants_of.Goals as goal

pub loop-number-preserved : goal.loop-number-preserved
loop-number-preserved g c = record {
  made = omega (arith, c.in_ok-push.ensures.len, c.loop-number.invariant.made);
  links = omega (arith, c.in-Some-pop.ensures.len, c.loop-number.invariant.links);
  clocks = omega (arith, c.in-Some.ensures.len, c.loop-number.invariant.clocks);
  places = subst (All (λ servant. place_of servant.ends ≡ place_of c.args.shared.now)) (sym c.in_ok-push.ensures.items)
      (one_more (λ servant. place_of servant.ends) (place_of c.args.shared.now) c.loop-number.servants.items _ c.loop-number.invariant.places c.in_ok-ends.ensures.place);
}
