use Rattle.std.proofs.Common.{refl}
use Rattle.std.proofs.lemmas.Result.{err_from_is_err_and}
use Rattle.giop_frames.proofs.content.build_reply.Goals as goal

pub returns-in_err-copy_contexts-clause-found : goal.returns-in_err-copy_contexts-clause-found
returns-in_err-copy_contexts-clause-found c =
    let p = err_from_is_err_and c.from_residual.result c.from_residual.ensures.1 in
    rw p.1 tt

pub returns-in_err-new-clause-found : goal.returns-in_err-new-clause-found
returns-in_err-new-clause-found c =
    let p = err_from_is_err_and c.from_residual-in_err-new.result c.from_residual-in_err-new.ensures.1 in
    rw p.1 tt

pub returns-clause-found : goal.returns-clause-found
returns-clause-found c = rw (c.in_ok-copy_contexts.ensures.found, c.contexts.ensures, c.in_ok-new.ensures.copy) refl
