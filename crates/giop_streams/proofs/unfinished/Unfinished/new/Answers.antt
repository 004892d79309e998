use Rattle.std.proofs.Common.{List, ℕ, ap}
use Rattle.std.proofs.lemmas.Result.{err_from_is_err_and}
use Rattle.giop_streams.specs.Stream.{begun_as, part_of}
use Rattle.giop_streams.proofs.unfinished.Unfinished.new.Goals as goal

pub returns-in_err-walk-clause-refused : goal.returns-in_err-walk-clause-refused
returns-in_err-walk-clause-refused c =
    let p = err_from_is_err_and c.from_residual.result c.from_residual.ensures.1 in
    rw (p.1, p.2) c.in_err-walk.ensures.refused

pub returns-in_err-walk-clause-memory : goal.returns-in_err-walk-clause-memory
returns-in_err-walk-clause-memory c =
    let p = err_from_is_err_and c.from_residual.result c.from_residual.ensures.1 in
    rw (p.1, p.2) c.in_err-walk.ensures.memory

pub returns-clause-begun : goal.returns-clause-begun
returns-clause-begun c = ap (λ (x : List ℕ). begun_as c.args.id c.args.place (part_of c.args.header x)) c.in_ok-of.ensures.octets
