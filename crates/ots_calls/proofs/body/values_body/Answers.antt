use Rattle.std.proofs.lemmas.List.{drop_all}
use Rattle.ots_calls.specs.WritingInside.{values_of}
use Rattle.ots_calls.proofs.Pieces.{begins, writes_next}
use Rattle.ots_calls.proofs.Written.{left_again}
use Rattle.ots_calls.proofs.body.values_body.Goals as goal

pub loop-piece-init : goal.loop-piece-init
loop-piece-init c = rw c.new-writer.ensures.stands (begins c.args.pieces.now c.requires)

pub loop-piece-preserved : goal.loop-piece-preserved
loop-piece-preserved c =
    rw c.in_ok-write_piece.ensures.ok (writes_next c.args.pieces.now c.loop-piece.piece-index _ c.loop-piece.writer c.loop-piece.invariant c.loop-piece-test.true c.in_ok-write_piece.ensures.fits)

pub returns-clause-left : goal.returns-clause-left
returns-clause-left c =
    let end = drop_all c.loop-piece.piece-index c.args.pieces.now c.loop-piece-test.false in
    left_again c.values_are_read_again.ensures (values_of c.args.pieces.now) c.loop-piece.writer c.finish.result
    ((rw end at c.loop-piece.invariant.fit) tt) (rw end at c.loop-piece.invariant.so_far) c.finish.ensures.octets
