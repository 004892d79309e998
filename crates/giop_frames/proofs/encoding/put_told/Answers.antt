use Rattle.std.proofs.Common.{arith}
use Rattle.std.proofs.lemmas.Result.{err_from_is_err_and}
use Rattle.giop_frames.proofs.encoding.put_told.Goals as goal

pub put_fields-requires-clause-small : goal.put_fields-requires-clause-small
put_fields-requires-clause-small c = omega (arith, c.requires)

pub returns-in_err-put_fields-clause-end : goal.returns-in_err-put_fields-clause-end
returns-in_err-put_fields-clause-end c =
    let p = err_from_is_err_and c.from_residual.result c.from_residual.ensures.1 in
    rw p.1 tt

pub returns-in_err-put_fields-clause-written : goal.returns-in_err-put_fields-clause-written
returns-in_err-put_fields-clause-written c =
    let p = err_from_is_err_and c.from_residual.result c.from_residual.ensures.1 in
    rw p.1 tt

pub returns-in_err-put_fields-clause-within : goal.returns-in_err-put_fields-clause-within
returns-in_err-put_fields-clause-within c =
    let p = err_from_is_err_and c.from_residual.result c.from_residual.ensures.1 in
    rw p.1 tt

pub returns-in_err-put_fields-clause-passes : goal.returns-in_err-put_fields-clause-passes
returns-in_err-put_fields-clause-passes c =
    let p = err_from_is_err_and c.from_residual.result c.from_residual.ensures.1 in
    rw p.1 tt

pub returns-in_err-put_fields-clause-refused : goal.returns-in_err-put_fields-clause-refused
returns-in_err-put_fields-clause-refused c =
    let p = err_from_is_err_and c.from_residual.result c.from_residual.ensures.1 in
    rw (p.1, p.2) c.in_err-put_fields.ensures.puts.refused

pub returns-clause-end : goal.returns-clause-end
returns-clause-end c = c.in_ok-put_fields.ensures.puts.put.end

pub returns-clause-written : goal.returns-clause-written
returns-clause-written c = rw c.new.ensures.stands at c.in_ok-put_fields.ensures.puts.put.written

pub returns-clause-within : goal.returns-clause-within
returns-clause-within c = omega (arith, c.in_ok-put_fields.ensures.within)

pub returns-clause-passes : goal.returns-clause-passes
returns-clause-passes c = c.in_ok-put_fields.ensures.puts.passes
