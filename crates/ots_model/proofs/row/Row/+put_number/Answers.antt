use Rattle.std.proofs.Common.{arith}
use Rattle.ots_model.proofs.RowLemmas.{more_digits, puts_into_room}
use Rattle.ots_model.proofs.row.Row.+put_number.Goals as goal

pub returns-clause-ok : goal.returns-clause-ok
returns-clause-ok t c =
    puts_into_room _ _ _ _ _ _ _ _ _ _ c.in_ok-put_number.ensures.ok c.in_ok-make_room-2.ensures.ok c.add_last_three.ensures
    (more_digits c.args.number (omega arith) (omega arith))
