use Rattle.std.proofs.Common.{refl, arith}
use Rattle.std.proofs.lemmas.Result.{err_from_is_err_and}
use Rattle.giop_frames.proofs.Walking.{reference_told, profiles_fail, profiles_passed}
use Rattle.giop_frames.proofs.walk.pass_profiles.Goals as goal

pub returns-in_err-read_tagged : goal.returns-in_err-read_tagged
returns-in_err-read_tagged c =
    let p = err_from_is_err_and c.from_residual.result c.from_residual.ensures.1 in
    rw (p.1, p.2) (profiles_fail c.args.left c.args.reader.now _ (omega arith) c.in_err-read_tagged.ensures.0, refl, c.in_err-read_tagged.ensures.1)

pub returns-then-left-eq0 : goal.returns-then-left-eq0
returns-then-left-eq0 c = reference_told c.args.found.now c.args.reader.now c.args.left c.if-left-eq0.true

pub returns : goal.returns
returns c = profiles_passed c.args.found.now c.args.reader.now c.read_tagged.new.reader c.args.left c.in_ok-read_tagged.field-0.0 c.in_ok-read_tagged.field-0.1 (omega arith) c.in_ok-read_tagged.ensures
