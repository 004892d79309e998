use Rattle.std.proofs.Common.{refl}
use Rattle.std.proofs.lemmas.Result.{IfErr-weaker, IfErr-at_err, err_from_is_err_and}
use Rattle.ots_program.proofs.Showing.{not_write, stopped_broke, write_broke}
use Rattle.ots_program.proofs.show.show_piece.Goals as goal

pub returns-in_err-write_out-clause-broken : goal.returns-in_err-write_out-clause-broken
returns-in_err-write_out-clause-broken g c =
    let p = err_from_is_err_and c.from_residual.result c.from_residual.ensures.1 in
    rw (p.1, p.2, c.in_err-write_out.ensures.fault) (write_broke c.take_piece-taken.result c.args.stream.now c.take_piece-taken.new.stream c.args.piece.now c.take_piece-taken.new.lines.items _ _ c.take_piece-taken.ensures.took c.take_piece-taken.ensures.broken c.in_err-write_out.ensures.part)

pub returns-clause-broken : goal.returns-clause-broken
returns-clause-broken g c =
    IfErr-weaker c.take_piece-taken.result _ _ (λ status b. stopped_broke status _ _ _ _ _ b c.in_ok-write_out.ensures.whole) c.take_piece-taken.ensures.broken

pub returns-clause-write_fault : goal.returns-clause-write_fault
returns-clause-write_fault g c e = absurd (not_write _ (IfErr-at_err _ e c.take_piece-taken.ensures.broken).stops refl)
