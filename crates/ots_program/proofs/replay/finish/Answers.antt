use Rattle.std.proofs.Common.{[]}
use Rattle.std.proofs.lemmas.Result.{IfErr-at_err}
use Rattle.ots_program.specs.PlayingInside.{StopsAt, left}
use Rattle.ots_program.proofs.Taken.{Halts-cut, Halts-stopped}
use Rattle.ots_program.proofs.replay.finish.Goals as goal

pub returns-in-Err-clause-halts : goal.returns-in-Err-clause-halts
returns-in-Err-clause-halts g c =
    rw c.in-Err.ensures.fault (Halts-cut c.finish-output.result.1 (left c.args.player []) _ _ _ _ c.requires.ready.written c.finish-output.ensures.ends c.finish-output.ensures.stops c.in-Err.ensures.part)

pub returns-clause-halts : goal.returns-clause-halts
returns-clause-halts g c =
    let stops = IfErr-at_err (λ stop. StopsAt stop (left c.args.player []) c.args.player.output.items c.finish-output.result.0.items) c.in-Err-ended.is c.finish-output.ensures.stops in
    rw c.into.ensures (Halts-stopped c.in-Err-ended.stop _ _ _ _ (rw c.requires.ready.written at stops) c.in_default.ensures.whole)
