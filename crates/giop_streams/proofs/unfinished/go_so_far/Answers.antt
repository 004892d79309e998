use Rattle.std.proofs.Common.{◌∙◌, ◌++◌, ◌≤◌, List, ℕ, ap, arith, length, subst, sym, take}
use Rattle.std.proofs.lemmas.List.{take_at}
use Rattle.std.proofs.lemmas.Result.{err_from_is_err_and}
use Rattle.giop_frames.specs.Limits.{size_limit}
use Rattle.giop_frames.specs.Walk.{IsWalked}
use Rattle.giop_streams.proofs.Results.{fails_from}
use Rattle.giop_streams.proofs.SoFar.{limited_is, walked_on}
use Rattle.giop_streams.proofs.unfinished.go_so_far.Goals as goal

pub walk_so_far-requires-clause-walked : goal.walk_so_far-requires-clause-walked
walk_so_far-requires-clause-walked c =
    let joined = c.octets.ensures ∙ c.in_ok-join.ensures.joined in
    subst (λ (x : List ℕ). IsWalked c.args.header x c.args.walk.now) (sym joined) (walked_on c.args.header c.args.content.now.octets c.args.octets.now c.args.walk.now c.requires.walked)

pub returns-in-Err-clause-refused : goal.returns-in-Err-clause-refused
returns-in-Err-clause-refused c =
    let octets = c.octets.result.now in
    let short : length octets ≤ size_limit = rw c.octets.ensures c.in_ok-join.ensures.short in
    let joined = c.octets.ensures ∙ c.in_ok-join.ensures.joined in
    fails_from c.in-Err.fault _ (limited_is c.args.header octets (c.args.content.now.octets ++ c.args.octets.now) _ joined short c.in-Err.ensures.refused)

pub returns-in-Err-clause-memory : goal.returns-in-Err-clause-memory
returns-in-Err-clause-memory c e = absurd (c.in-Err.ensures.memory e)

pub returns-in-Err-clause-err : goal.returns-in-Err-clause-err
returns-in-Err-clause-err c =
    let old = c.args.content.now.octets in
    c.take_back.ensures.octets ∙ ap (take c.len-before.result) c.in_ok-join.ensures.joined ∙ take_at old c.args.octets.now c.len-before.result (omega arith)

pub returns-clause-says : goal.returns-clause-says
returns-clause-says c =
    let octets = c.octets.result.now in
    let short : length octets ≤ size_limit = rw c.octets.ensures c.in_ok-join.ensures.short in
    let joined = c.octets.ensures ∙ c.in_ok-join.ensures.joined in
    limited_is c.args.header octets (c.args.content.now.octets ++ c.args.octets.now) _ joined short c.in_default.ensures.says

pub returns-in_err-join-clause-refused : goal.returns-in_err-join-clause-refused
returns-in_err-join-clause-refused c =
    let p = err_from_is_err_and c.from_residual.result c.from_residual.ensures.1 in
    rw (p.1, p.2) (c.in_err-join.ensures.refused c.args.header)

pub returns-in_err-join-clause-memory : goal.returns-in_err-join-clause-memory
returns-in_err-join-clause-memory c =
    let p = err_from_is_err_and c.from_residual.result c.from_residual.ensures.1 in
    rw (p.1, p.2) c.in_err-join.ensures.memory
