use Rattle.std.proofs.lemmas.Result.{err_from_is_err_and}
use Rattle.giop_frames.proofs.content.build_request.Goals as goal

pub returns-in_err-target-clause-found : goal.returns-in_err-target-clause-found
returns-in_err-target-clause-found c =
    let p = err_from_is_err_and c.from_residual.result c.from_residual.ensures.1 in
    rw p.1 tt

pub returns-in_err-operation-clause-found : goal.returns-in_err-operation-clause-found
returns-in_err-operation-clause-found c =
    let p = err_from_is_err_and c.from_residual-in_err-operation.result c.from_residual-in_err-operation.ensures.1 in
    rw p.1 tt

pub returns-in_err-contexts-clause-found : goal.returns-in_err-contexts-clause-found
returns-in_err-contexts-clause-found c =
    let p = err_from_is_err_and c.from_residual-in_err-contexts.result c.from_residual-in_err-contexts.ensures.1 in
    rw p.1 tt

pub returns-in_err-new-clause-found : goal.returns-in_err-new-clause-found
returns-in_err-new-clause-found c =
    let p = err_from_is_err_and c.from_residual-in_err-new.result c.from_residual-in_err-new.ensures.1 in
    rw p.1 tt
