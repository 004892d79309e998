use Rattle.std.proofs.lemmas.Result.{err_from_is_err_and}
use Rattle.giop_streams.proofs.Judging.{id_fault}
use Rattle.giop_streams.proofs.parts.read_id.Goals as goal

pub returns-in_err-ulong : goal.returns-in_err-ulong
returns-in_err-ulong c =
    let p = err_from_is_err_and c.from_residual.result c.from_residual.ensures.1 in
    rw (p.1, p.2) (id_fault _ c.args.order c.args.content.now _ c.new.ensures.stands c.in_err-ulong.ensures.exact.0)
