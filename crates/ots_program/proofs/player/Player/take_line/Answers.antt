use Rattle.std.proofs.lemmas.Result.{err_from_is_err_and}
use Rattle.ots_program.proofs.Replays.{turn-within}
use Rattle.ots_program.specs.PlayingInside.{place_of, row_of}
use Rattle.ots_program.proofs.player.Player.take_line.Goals as goal

pub returns-in_err-carry_out-clause-turned : goal.returns-in_err-carry_out-clause-turned
returns-in_err-carry_out-clause-turned c =
    let p = err_from_is_err_and c.from_residual.result c.from_residual.ensures.1 in
    rw (p.1, p.2, turn-within (place_of c.args.self.now) (row_of c.args.text.now c.args.ended) c.requires.lines c.requires.octets) c.in_err-carry_out.ensures.turned

pub returns-clause-turned : goal.returns-clause-turned
returns-clause-turned c =
    rw (turn-within (place_of c.args.self.now) (row_of c.args.text.now c.args.ended) c.requires.lines c.requires.octets) c.in_ok-carry_out.ensures.turned
