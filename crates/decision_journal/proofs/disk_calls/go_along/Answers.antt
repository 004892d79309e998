use Rattle.std.proofs.Common.{ℕ, ◌+◌, false, true, refl, subst, ◌∙◌, ◌++◌, arith, drop, length, length-append, length-drop, length-take, take}
use Rattle.ots_outside.specs.Asked.{AskRead}
use Rattle.decision_journal.proofs.Along.{along_piece, piece_front}
use Rattle.decision_journal.proofs.Asking.{read_all, read_one, read_refused}
use Rattle.decision_journal.proofs.Pieces.{some_step}
use Rattle.decision_journal.proofs.disk_calls.go_along.Goals as goal

pub loop-place-preserved : goal.loop-place-preserved
loop-place-preserved g c =
    let part = c.min-part.result in
    record {
      within = omega (arith, c.loop-place-test.true);
      before = omega (arith, c.with_piece-found.ensures.before, length-take part (c.read_at.new.into ++ drop part c.loop-place.piece));
      known = c.with_piece-found.ensures.known;
      pieces = omega (arith, length-append c.read_at.new.into (drop part c.loop-place.piece), length-drop part c.loop-place.piece, c.loop-place.invariant.pieces, c.loop-place-test.true);
      untouched = c.read_at.ensures.untouched ∙ c.loop-place.invariant.untouched;
      along = some_step (g.D.Disk.told c.args.disk.now) (g.D.Disk.told c.loop-place.disk) _ _ _ _ c.loop-place.invariant.untouched c.loop-place.invariant.along c.requires.whole c.in-Ok.ensures.octets
          (λ s a size read. along_piece c.args.known.now s.reads _ c.loop-place.place part c.loop-place.found.same c.with_piece-found.result.same c.loop-place.found.closed c.with_piece-found.result.closed (omega (arith, size, c.loop-place-test.true))
          (piece_front c.read_at.new.into (drop part c.loop-place.piece) s.reads c.loop-place.place part (length (take part c.loop-place.piece)) (omega (arith, length-take part c.loop-place.piece)) (omega (arith, size, c.loop-place-test.true)) read) c.with_piece-found.ensures.along a);
      asked = read_one g.D.Disk.asked c.loop-place.place part (c.loop-place.place + part) c.args.count c.args.disk.now c.loop-place.disk c.read_at.new.self c.loop-place.invariant.asked c.loop-place-test.true (omega (arith, c.min-part.ensures, c.loop-place.invariant.pieces, c.requires.piece)) refl (subst (λ (n : ℕ). g.D.Disk.asked c.loop-place.disk (AskRead c.loop-place.place n) true c.read_at.new.self) {y = part} (omega (arith, length-take part c.loop-place.piece, c.min-part.ensures)) c.in-Ok.ensures.asked);
      calm = c.in-Ok.ensures.calm ∙ c.loop-place.invariant.calm;
    }

pub returns-in-Err-clause-asked : goal.returns-in-Err-clause-asked
returns-in-Err-clause-asked g c =
    let part = c.min-part.result in
    read_refused g.D.Disk.asked c.loop-place.place part c.args.count c.args.disk.now c.loop-place.disk c.read_at.new.self c.loop-place.invariant.asked c.loop-place-test.true (omega (arith, c.min-part.ensures, c.loop-place.invariant.pieces, c.requires.piece)) (subst (λ (n : ℕ). g.D.Disk.asked c.loop-place.disk (AskRead c.loop-place.place n) false c.read_at.new.self) {y = part} (omega (arith, length-take part c.loop-place.piece, c.min-part.ensures)) c.in-Err.ensures.asked)

pub returns-clause-asked : goal.returns-clause-asked
returns-clause-asked g c = read_all g.D.Disk.asked c.loop-place.place c.args.count c.args.disk.now c.loop-place.disk c.loop-place.invariant.asked (omega (arith, c.loop-place.invariant.within, c.loop-place-test.false))
