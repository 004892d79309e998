use Rattle.std.proofs.lemmas.Result.{err_from_is_err_and}
use Rattle.ots_program.proofs.Showing.{telling_memory, telling_more, telling_refused, telling_start, telling_unfed}
use Rattle.ots_program.proofs.show.take_piece.Goals as goal

pub returns-in-Err-clause-broken : goal.returns-in-Err-clause-broken
returns-in-Err-clause-broken c =
    rw c.refusal.ensures (telling_unfed c.args.stream.now c.feed.new.self c.args.piece.now c.args.lines.now.items c.in-Err.fault c.requires.accepts c.in-Err.ensures.refused c.requires.lines)

pub loop-framed-init : goal.loop-framed-init
loop-framed-init c = telling_start c.args.stream.now c.feed.new.self c.args.piece.now c.args.lines.now.items c.in_default.ensures.ok c.requires.lines c.in_default.ensures.accepts

pub loop-framed-preserved : goal.loop-framed-preserved
loop-framed-preserved c =
    telling_more c.args.stream.now c.loop-framed.stream c.next_framed.new.self c.args.piece.now c.loop-framed.lines.items c.tell.new.lines.items c.in-Ok-Some.framed c.loop-framed.invariant
    (rw c.in-Ok-Some.field-0-is at c.in-Ok-Some.ensures.message) c.in_ok-tell-in-Ok-Some.ensures.ok c.in-Ok-Some.ensures.accepts

pub returns-in-Err-next_framed-clause-broken : goal.returns-in-Err-next_framed-clause-broken
returns-in-Err-next_framed-clause-broken c =
    rw c.refusal-in-Err-next_framed.ensures (telling_refused c.args.stream.now c.loop-framed.stream c.next_framed.new.self c.args.piece.now c.loop-framed.lines.items c.in-Err-next_framed.fault c.loop-framed.invariant c.in-Err-next_framed.ensures.refused c.in-Err-next_framed.ensures.remembered)

pub returns-in_err-tell-in-Ok-Some-clause-broken : goal.returns-in_err-tell-in-Ok-Some-clause-broken
returns-in_err-tell-in-Ok-Some-clause-broken c =
    let p = err_from_is_err_and c.from_residual.result c.from_residual.ensures.1 in
    rw (p.1, p.2, c.in_err-tell-in-Ok-Some.ensures.memory, c.in_err-tell-in-Ok-Some.ensures.err) (telling_memory c.args.stream.now c.loop-framed.stream c.args.piece.now c.loop-framed.lines.items c.loop-framed.invariant)
