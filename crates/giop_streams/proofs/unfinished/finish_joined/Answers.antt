use Rattle.std.proofs.Common.{◌∙◌, ◌++◌, ◌≡◌, ◌≤◌, List, ℕ, ap, arith, inl, length, subst, sym, take}
use Rattle.std.proofs.lemmas.List.{take_at}
use Rattle.std.proofs.lemmas.Result.{err_from_is_err_and}
use Rattle.giop_frames.specs.Walk.{IsAsFar, IsWalked}
use Rattle.giop_streams.specs.StreamInside.{limited_so_far, limited_whole}
use Rattle.giop_streams.proofs.Finished.{limited_whole_is, whole_memory, whole_refused, whole_says}
use Rattle.giop_streams.proofs.Results.{fails_on}
use Rattle.giop_streams.proofs.SoFar.{joined_fails}
use Rattle.giop_streams.proofs.unfinished.finish_joined.Goals as goal

pub end_joined-requires-clause-walked : goal.end_joined-requires-clause-walked
end_joined-requires-clause-walked c =
    let before = ap (take c.len-before.result) c.in_ok-join.ensures.joined ∙ take_at c.args.content.now.octets c.args.octets.now c.len-before.result (omega arith) in
    subst (λ (x : List ℕ). IsWalked c.args.header x c.args.walk.now) (sym before) c.requires.walked

pub end_joined-requires-clause-far : goal.end_joined-requires-clause-far
end_joined-requires-clause-far c =
    let before = ap (take c.len-before.result) c.in_ok-join.ensures.joined ∙ take_at c.args.content.now.octets c.args.octets.now c.len-before.result (omega arith) in
    subst (λ (x : List ℕ). IsAsFar c.args.header x c.args.walk.now) (sym before) c.requires.far

pub returns-clause-says : goal.returns-clause-says
returns-clause-says c =
    let same = limited_whole_is c.args.place c.args.header _ _ c.in_ok-join.ensures.joined c.in_ok-join.ensures.short in
    whole_says c.end_joined.result _ _ same c.end_joined.ensures.whole

pub returns-clause-refused : goal.returns-clause-refused
returns-clause-refused c =
    let same = limited_whole_is c.args.place c.args.header _ _ c.in_ok-join.ensures.joined c.in_ok-join.ensures.short in
    whole_refused c.end_joined.result _ _ same c.end_joined.ensures.whole

pub returns-clause-memory : goal.returns-clause-memory
returns-clause-memory c =
    whole_memory c.end_joined.result c.args.header c.args.content.now.octets c.args.octets.now _ c.in_ok-join.ensures.joined c.in_ok-join.ensures.short c.end_joined.ensures.memory

pub returns-clause-err : goal.returns-clause-err
returns-clause-err c =
    let before = ap (take c.len-before.result) c.in_ok-join.ensures.joined ∙ take_at c.args.content.now.octets c.args.octets.now c.len-before.result (omega arith) in
    rw before at c.end_joined.ensures.err

pub returns-in_err-join-clause-refused : goal.returns-in_err-join-clause-refused
returns-in_err-join-clause-refused c =
    let h = c.args.header in
    let content = c.args.content.now.octets in
    let octets = c.args.octets.now in
    let p = err_from_is_err_and c.from_residual.result c.from_residual.ensures.1 in
    let fault = c.in_err-join.field-0.0 in
    rw (p.1, p.2) (fails_on fault (limited_so_far h (content ++ octets)) (limited_whole c.args.place h (content ++ octets)) (λ e. joined_fails octets (record { id = 0; place = c.args.place; header = h; content = content }) fault e) (c.in_err-join.ensures.refused h))

pub returns-in_err-join-clause-memory : goal.returns-in_err-join-clause-memory
returns-in_err-join-clause-memory c =
    let p = err_from_is_err_and c.from_residual.result c.from_residual.ensures.1 in
    rw (p.1, p.2) (λ e. let wants = c.in_err-join.ensures.memory e in (wants.0, inl wants.1))
