use Rattle.std.proofs.Common.{sym, ◌∙◌}
use Rattle.std.proofs.lemmas.Result.{err_from_is_err_and}
use Rattle.ots_context.proofs.Placing.{refused, placed, misplaced}
use Rattle.ots_context.proofs.encoding.write_tail.Goals as goal

pub returns-in_err-write_octets : goal.returns-in_err-write_octets
returns-in_err-write_octets c =
    let p = err_from_is_err_and c.from_residual.result c.from_residual.ensures.1 in
    rw (p.1, p.2) (refused c.args.writer.now c.args.tail.now c.in_err-write_octets.field-0.0 c.in_err-write_octets.ensures.refused)

pub returns-then-can_stand : goal.returns-then-can_stand
returns-then-can_stand c =
    placed c.args.writer.now c.write_octets.new.writer c.args.tail.now c.in_ok-write_octets.ensures.ok c.in_ok-write_octets.ensures.fits (rw c.place-place.ensures at (sym c.can_stand.ensures ∙ c.if-can_stand.true))

pub returns-else-can_stand : goal.returns-else-can_stand
returns-else-can_stand c =
    misplaced c.args.writer.now c.args.tail.now c.in_ok-write_octets.ensures.fits (rw c.place-place.ensures at (sym c.can_stand.ensures ∙ c.if-can_stand.false))
