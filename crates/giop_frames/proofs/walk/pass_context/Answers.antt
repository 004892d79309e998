use Rattle.std.proofs.Common.{refl, arith}
use Rattle.std.proofs.lemmas.Result.{err_from_is_err_and}
use Rattle.giop_frames.proofs.Walking.{contexts_told, context_told, contexts_fail}
use Rattle.giop_frames.proofs.walk.pass_context.Goals as goal

pub returns-in_err-id : goal.returns-in_err-id
returns-in_err-id c =
    let p = err_from_is_err_and c.from_residual.result c.from_residual.ensures.1 in
    rw (p.1, p.2) (contexts_fail c.args.left c.args.reader.now _ (omega arith) c.in_err-id.ensures.0, refl, c.in_err-id.ensures.1)

pub returns-then-left-eq0 : goal.returns-then-left-eq0
returns-then-left-eq0 c = contexts_told c.args.found.now c.args.reader.now c.args.left c.if-left-eq0.true

pub returns : goal.returns
returns c = context_told c.args.found.now c.args.reader.now c.read_tagged.new.reader c.args.left c.in_ok-id.id c.in_ok-id.bytes (omega arith) c.requires (omega arith) c.in_ok-id.ensures
