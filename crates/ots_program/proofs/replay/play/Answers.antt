use Rattle.std.proofs.Common.{refl}
use Rattle.std.proofs.lemmas.Result.{err_from_is_err_and}
use Rattle.ots_program.proofs.Taken.{BreaksOff-cut, BreaksOff-stopped, PlaysPiece-fed}
use Rattle.ots_program.proofs.replay.play.Goals as goal

pub returns-in_err-write_out-clause-breaks_off : goal.returns-in_err-write_out-clause-breaks_off
returns-in_err-write_out-clause-breaks_off g c =
    let p = err_from_is_err_and c.from_residual.result c.from_residual.ensures.1 in
    rw (p.1, p.2, c.in_err-write_out.ensures.fault)
    (BreaksOff-cut c.feed-played.result c.args.player.now c.feed-played.new.self c.args.piece.now _ _ c.requires.ready.written c.feed-played.ensures.fed c.feed-played.ensures.stops c.in_err-write_out.ensures.part)

pub returns-in_err-played-clause-breaks_off : goal.returns-in_err-played-clause-breaks_off
returns-in_err-played-clause-breaks_off g c =
    let p = err_from_is_err_and c.from_residual-in_err-played.result c.from_residual-in_err-played.ensures.1 in
    rw (p.1, p.2) (BreaksOff-stopped c.in_err-played.field-0.0 c.args.player.now c.feed-played.new.self c.args.piece.now _ _ c.requires.ready.written c.in_err-played.ensures.stops c.in_ok-write_out.ensures.whole)

pub returns-clause-plays : goal.returns-clause-plays
returns-clause-plays g c =
    let fed = c.in_ok-played.ensures.fed in
    PlaysPiece-fed c.args.player.now c.feed-played.new.self (record c.feed-played.new.self { output = c.write_out.new.output }) c.args.piece.now _ _ c.requires.ready.written fed
    (record {
      plays = record { stands = fed.plays.stands; one_line = fed.plays.one_line; octets = fed.plays.octets; lines = fed.plays.lines; begun = fed.plays.begun };
      written = c.write_out.ensures.emptied;
    }) refl (λ rest. refl) c.in_ok-write_out.ensures.whole
