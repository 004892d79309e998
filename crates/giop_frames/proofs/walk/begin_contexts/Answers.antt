use Rattle.std.proofs.lemmas.Result.{err_from_is_err_and}
use Rattle.giop_frames.proofs.Near.{contexts_stop}
use Rattle.giop_frames.proofs.Walking.{contexts_begun, no_contexts}
use Rattle.giop_frames.proofs.walk.begin_contexts.Goals as goal

pub returns : goal.returns
returns c = contexts_begun c.reading_is_exact.ensures c.args.found.now c.args.reader.now c.ulong.new.self c.in_ok-count.count c.in_ok-count.ensures.exact c.if-count-gt-CONTEXT_LIMIT.false

pub returns-then-count-eq0 : goal.returns-then-count-eq0
returns-then-count-eq0 c = no_contexts c.reading_is_exact.ensures c.args.found.now c.args.reader.now c.ulong.new.self c.in_ok-count.count c.in_ok-count.ensures.exact c.if-count-eq0.true

pub returns-in_err-count : goal.returns-in_err-count
returns-in_err-count c =
    let p = err_from_is_err_and c.from_residual.result c.from_residual.ensures.1 in
    rw (p.1, p.2) (contexts_stop c.args.found.now c.args.reader.now c.ulong.new.self c.in_err-count.field-0.0 c.in_err-count.ensures.exact.0)
