use Rattle.std.proofs.lemmas.Result.{err_from_is_err_and}
use Rattle.ots_calls.proofs.replying.write_answer.Goals as goal

pub returns-then-not-is_of-clause-exact : goal.returns-then-not-is_of-clause-exact
returns-then-not-is_of-clause-exact c = tt

pub returns-then-not-is_of-clause-answer : goal.returns-then-not-is_of-clause-answer
returns-then-not-is_of-clause-answer c = tt

pub returns-then-not-is_of-clause-again : goal.returns-then-not-is_of-clause-again
returns-then-not-is_of-clause-again c = tt

pub returns-then-not-is_of-clause-big : goal.returns-then-not-is_of-clause-big
returns-then-not-is_of-clause-big c = tt

pub returns-then-not-is_of-clause-short : goal.returns-then-not-is_of-clause-short
returns-then-not-is_of-clause-short c = tt

pub returns-then-not-is_of-clause-framed : goal.returns-then-not-is_of-clause-framed
returns-then-not-is_of-clause-framed c = tt

pub returns-in_err-body-clause-exact : goal.returns-in_err-body-clause-exact
returns-in_err-body-clause-exact c =
    let p = err_from_is_err_and c.from_residual.result c.from_residual.ensures.1 in
    rw p.1 tt

pub returns-in_err-body-clause-answer : goal.returns-in_err-body-clause-answer
returns-in_err-body-clause-answer c =
    let p = err_from_is_err_and c.from_residual.result c.from_residual.ensures.1 in
    rw p.1 tt

pub returns-in_err-body-clause-again : goal.returns-in_err-body-clause-again
returns-in_err-body-clause-again c =
    let p = err_from_is_err_and c.from_residual.result c.from_residual.ensures.1 in
    rw p.1 tt

pub returns-in_err-body-clause-big : goal.returns-in_err-body-clause-big
returns-in_err-body-clause-big c =
    let p = err_from_is_err_and c.from_residual.result c.from_residual.ensures.1 in
    rw p.1 tt

pub returns-in_err-body-clause-short : goal.returns-in_err-body-clause-short
returns-in_err-body-clause-short c =
    let p = err_from_is_err_and c.from_residual.result c.from_residual.ensures.1 in
    rw p.1 tt

pub returns-in_err-body-clause-framed : goal.returns-in_err-body-clause-framed
returns-in_err-body-clause-framed c =
    let p = err_from_is_err_and c.from_residual.result c.from_residual.ensures.1 in
    rw p.1 tt
