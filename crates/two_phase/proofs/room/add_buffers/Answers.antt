use Rattle.std.proofs.Common.{◌≡◌, ◌++◌, ◌∷◌, [], sym, subst, arith}
use Rattle.two_phase.specs.StockInside.{AreRoomy}
use Rattle.two_phase.proofs.Reach.{more_roomy}
use Rattle.two_phase.proofs.room.add_buffers.Goals as goal

pub loop-so_many-preserved : goal.loop-so_many-preserved
loop-so_many-preserved c =
    let before = c.loop-so_many.invariant in
    let len = c.in_ok-push.ensures.len in
    let items : c.push.new.self.items ≡ c.loop-so_many.buffers.items ++ c.in_ok-new.field-0 ∷ [] = c.in_ok-push.ensures.items in
    record {
      more = let more = before.more in omega (arith, more, len);
      enough = let enough = before.enough in omega (arith, enough, len);
      roomy = subst (λ bs. AreRoomy c.args.octets bs) (sym items) (more_roomy c.args.octets c.in_ok-new.field-0 c.loop-so_many.buffers.items before.roomy c.in_ok-new.ensures);
    }
