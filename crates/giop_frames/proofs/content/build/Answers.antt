use Rattle.std.proofs.Common.{refl}
use Rattle.std.proofs.lemmas.Result.{err_from_is_err_and}
use Rattle.giop_frames.proofs.content.build.Goals as goal

pub returns-in_err-build_request-in-Request-clause-message : goal.returns-in_err-build_request-in-Request-clause-message
returns-in_err-build_request-in-Request-clause-message c =
    let p = err_from_is_err_and c.from_residual.result c.from_residual.ensures.1 in
    rw (p.1, p.2) tt

pub returns-in_err-build_request-in-Request-clause-told : goal.returns-in_err-build_request-in-Request-clause-told
returns-in_err-build_request-in-Request-clause-told c = rw c.in-Request.is tt

pub returns-in_ok-build_request-in-Request-clause-message : goal.returns-in_ok-build_request-in-Request-clause-message
returns-in_ok-build_request-in-Request-clause-message c = rw c.in-Request.is c.in_ok-build_request-in-Request.ensures.found

pub returns-in_ok-build_request-in-Request-clause-told : goal.returns-in_ok-build_request-in-Request-clause-told
returns-in_ok-build_request-in-Request-clause-told c = rw c.in-Request.is tt

pub returns-in_err-build_reply-in-Reply-clause-message : goal.returns-in_err-build_reply-in-Reply-clause-message
returns-in_err-build_reply-in-Reply-clause-message c =
    let p = err_from_is_err_and c.from_residual-in_err-build_reply-in-Reply.result c.from_residual-in_err-build_reply-in-Reply.ensures.1 in
    rw (p.1, p.2) tt

pub returns-in_err-build_reply-in-Reply-clause-told : goal.returns-in_err-build_reply-in-Reply-clause-told
returns-in_err-build_reply-in-Reply-clause-told c = rw c.in-Reply.is tt

pub returns-in_ok-build_reply-in-Reply-clause-message : goal.returns-in_ok-build_reply-in-Reply-clause-message
returns-in_ok-build_reply-in-Reply-clause-message c = rw c.in-Reply.is c.in_ok-build_reply-in-Reply.ensures.found

pub returns-in_ok-build_reply-in-Reply-clause-told : goal.returns-in_ok-build_reply-in-Reply-clause-told
returns-in_ok-build_reply-in-Reply-clause-told c = rw c.in-Reply.is tt

pub returns-in_err-copy_target-in-LocateRequest-clause-message : goal.returns-in_err-copy_target-in-LocateRequest-clause-message
returns-in_err-copy_target-in-LocateRequest-clause-message c =
    let p = err_from_is_err_and c.from_residual-in_err-copy_target-in-LocateRequest.result c.from_residual-in_err-copy_target-in-LocateRequest.ensures.1 in
    rw (p.1, p.2) tt

pub returns-in_err-copy_target-in-LocateRequest-clause-told : goal.returns-in_err-copy_target-in-LocateRequest-clause-told
returns-in_err-copy_target-in-LocateRequest-clause-told c = rw c.in-LocateRequest.is tt

pub returns-in_ok-copy_target-in-LocateRequest-clause-message : goal.returns-in_ok-copy_target-in-LocateRequest-clause-message
returns-in_ok-copy_target-in-LocateRequest-clause-message c = rw (c.in-LocateRequest.is, c.in_ok-copy_target-in-LocateRequest.ensures.found) refl

pub returns-in_ok-copy_target-in-LocateRequest-clause-told : goal.returns-in_ok-copy_target-in-LocateRequest-clause-told
returns-in_ok-copy_target-in-LocateRequest-clause-told c = rw c.in-LocateRequest.is tt

pub returns-in_err-new-in-LocateReply-clause-message : goal.returns-in_err-new-in-LocateReply-clause-message
returns-in_err-new-in-LocateReply-clause-message c =
    let p = err_from_is_err_and c.from_residual-in_err-new-in-LocateReply.result c.from_residual-in_err-new-in-LocateReply.ensures.1 in
    rw (p.1, p.2) tt

pub returns-in_err-new-in-LocateReply-clause-told : goal.returns-in_err-new-in-LocateReply-clause-told
returns-in_err-new-in-LocateReply-clause-told c = rw c.in-LocateReply.is tt

pub returns-in_ok-new-in-LocateReply-clause-message : goal.returns-in_ok-new-in-LocateReply-clause-message
returns-in_ok-new-in-LocateReply-clause-message c = rw (c.in-LocateReply.is, c.in_ok-new-in-LocateReply.ensures.copy) refl

pub returns-in_ok-new-in-LocateReply-clause-told : goal.returns-in_ok-new-in-LocateReply-clause-told
returns-in_ok-new-in-LocateReply-clause-told c = rw c.in-LocateReply.is tt

pub returns-in-CancelRequest-clause-message : goal.returns-in-CancelRequest-clause-message
returns-in-CancelRequest-clause-message c = rw c.in-CancelRequest.is refl

pub returns-in-CancelRequest-clause-told : goal.returns-in-CancelRequest-clause-told
returns-in-CancelRequest-clause-told c = rw c.in-CancelRequest.is tt

pub returns-in-CloseConnection-clause-message : goal.returns-in-CloseConnection-clause-message
returns-in-CloseConnection-clause-message c = rw c.in-CloseConnection.is refl

pub returns-in-CloseConnection-clause-told : goal.returns-in-CloseConnection-clause-told
returns-in-CloseConnection-clause-told c = rw c.in-CloseConnection.is tt

pub returns-in-MessageError-clause-message : goal.returns-in-MessageError-clause-message
returns-in-MessageError-clause-message c = rw c.in-MessageError.is refl

pub returns-in-MessageError-clause-told : goal.returns-in-MessageError-clause-told
returns-in-MessageError-clause-told c = rw c.in-MessageError.is tt

pub returns-in-Fragment-clause-message : goal.returns-in-Fragment-clause-message
returns-in-Fragment-clause-message c = rw c.in-Fragment.is refl

pub returns-in-Fragment-clause-told : goal.returns-in-Fragment-clause-told
returns-in-Fragment-clause-told c = rw c.in-Fragment.is refl

pub returns-in_err-build_request-in-Request-clause-memory : goal.returns-in_err-build_request-in-Request-clause-memory
returns-in_err-build_request-in-Request-clause-memory c =
    let p = err_from_is_err_and c.from_residual.result c.from_residual.ensures.1 in
    rw (p.1, p.2) (λ e. rw c.in-Request.is c.in_err-build_request-in-Request.ensures.memory)

pub returns-in_err-build_reply-in-Reply-clause-memory : goal.returns-in_err-build_reply-in-Reply-clause-memory
returns-in_err-build_reply-in-Reply-clause-memory c =
    let p = err_from_is_err_and c.from_residual-in_err-build_reply-in-Reply.result c.from_residual-in_err-build_reply-in-Reply.ensures.1 in
    rw (p.1, p.2) (λ e. rw c.in-Reply.is c.in_err-build_reply-in-Reply.ensures.memory)

pub returns-in_err-copy_target-in-LocateRequest-clause-memory : goal.returns-in_err-copy_target-in-LocateRequest-clause-memory
returns-in_err-copy_target-in-LocateRequest-clause-memory c =
    let p = err_from_is_err_and c.from_residual-in_err-copy_target-in-LocateRequest.result c.from_residual-in_err-copy_target-in-LocateRequest.ensures.1 in
    rw (p.1, p.2) (λ e. rw c.in-LocateRequest.is c.in_err-copy_target-in-LocateRequest.ensures.needed)

pub returns-in_err-new-in-LocateReply-clause-memory : goal.returns-in_err-new-in-LocateReply-clause-memory
returns-in_err-new-in-LocateReply-clause-memory c =
    let p = err_from_is_err_and c.from_residual-in_err-new-in-LocateReply.result c.from_residual-in_err-new-in-LocateReply.ensures.1 in
    rw (p.1, p.2) (λ e. rw c.in-LocateReply.is c.in_err-new-in-LocateReply.ensures.needed)
