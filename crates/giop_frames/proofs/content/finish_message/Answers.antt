use Rattle.std.proofs.Common.{◌≡◌, ◌∙◌, ap, subst, sym}
use Rattle.std.proofs.lemmas.Result.{err_from_is_err_and}
use Rattle.giop_frames.specs.Layout.{kept_tail, message_with}
use Rattle.giop_frames.specs.Content.{GivesKept, message_by}
use Rattle.giop_frames.specs.Walk.{told_by}
use Rattle.giop_frames.proofs.Loops.{fails_from, fails_on, told_from, told_ok, told_on}
use Rattle.giop_frames.proofs.Walking.{message_fails, message_walked, start_walked}
use Rattle.giop_frames.proofs.content.finish_message.Goals as goal

pub returns-in_err-go_on-clause-message : goal.returns-in_err-go_on-clause-message
returns-in_err-go_on-clause-message c =
    let p = err_from_is_err_and c.from_residual.result c.from_residual.ensures.1 in
    let fault = c.in_err-go_on.field-0.0 in
    rw (p.1, p.2) (fails_from fault _ (message_fails c.args.header c.args.content.now fault c.in_err-go_on.ensures.fault))

pub returns-in_err-build-clause-message : goal.returns-in_err-build-clause-message
returns-in_err-build-clause-message c =
    let w = c.go_on.new.self in
    let told = told_by c.args.content.now w.found in
    let tail = c.kept_tail-tail.ensures ∙ ap (kept_tail c.args.header.version c.args.header.kind w.place) c.behind-octets.ensures in
    let same : message_by c.args.header c.args.content.now ≡ message_with c.args.header.order c.args.header.kind told c.kept_tail-tail.result.now =
    message_walked c.args.header c.args.content.now w c.in_ok-go_on.ensures.walked c.in_ok-go_on.ensures.done ∙ ap (message_with c.args.header.order c.args.header.kind told) (sym tail) in
    let p = err_from_is_err_and c.from_residual-in_err-build.result c.from_residual-in_err-build.ensures.1 in
    rw (p.1, p.2) (fails_on c.in_err-build.field-0.0 _ (message_by c.args.header c.args.content.now) (λ e. same ∙ e) c.in_err-build.ensures.message)

pub returns-clause-message : goal.returns-clause-message
returns-clause-message c =
    let w = c.go_on.new.self in
    let told = told_by c.args.content.now w.found in
    let tail = c.kept_tail-tail.ensures ∙ ap (kept_tail c.args.header.version c.args.header.kind w.place) c.behind-octets.ensures in
    message_walked c.args.header c.args.content.now w c.in_ok-go_on.ensures.walked c.in_ok-go_on.ensures.done ∙ ap (message_with c.args.header.order c.args.header.kind told) (sym tail) ∙ c.in_ok-build.ensures.message

pub returns-clause-start : goal.returns-clause-start
returns-clause-start c =
    c.tail_start.ensures ∙ sym (start_walked c.args.header c.args.content.now c.go_on.new.self c.in_ok-go_on.ensures.walked c.in_ok-go_on.ensures.done)

pub returns-in_err-go_on-clause-told : goal.returns-in_err-go_on-clause-told
returns-in_err-go_on-clause-told c =
    let p = err_from_is_err_and c.from_residual.result c.from_residual.ensures.1 in
    let fault = c.in_err-go_on.field-0.0 in
    rw (p.1, p.2) (told_from _ fault _ (message_fails c.args.header c.args.content.now fault c.in_err-go_on.ensures.fault))

pub returns-in_err-build-clause-told : goal.returns-in_err-build-clause-told
returns-in_err-build-clause-told c =
    let w = c.go_on.new.self in
    let told = told_by c.args.content.now w.found in
    let tail = c.kept_tail-tail.ensures ∙ ap (kept_tail c.args.header.version c.args.header.kind w.place) c.behind-octets.ensures in
    let same : message_by c.args.header c.args.content.now ≡ message_with c.args.header.order c.args.header.kind told c.kept_tail-tail.result.now =
    message_walked c.args.header c.args.content.now w c.in_ok-go_on.ensures.walked c.in_ok-go_on.ensures.done ∙ ap (message_with c.args.header.order c.args.header.kind told) (sym tail) in
    let p = err_from_is_err_and c.from_residual-in_err-build.result c.from_residual-in_err-build.ensures.1 in
    rw (p.1, p.2) (told_on _ _ c.in_err-build.field-0.0 _ (message_by c.args.header c.args.content.now) same c.in_err-build.ensures.told)

pub returns-clause-told : goal.returns-clause-told
returns-clause-told c = told_ok _ _ _ (returns-clause-message c)

pub returns-in_err-go_on-clause-start : goal.returns-in_err-go_on-clause-start
returns-in_err-go_on-clause-start c =
    let p = err_from_is_err_and c.from_residual.result c.from_residual.ensures.1 in
    rw p.1 tt

pub returns-in_err-build-clause-start : goal.returns-in_err-build-clause-start
returns-in_err-build-clause-start c =
    let p = err_from_is_err_and c.from_residual-in_err-build.result c.from_residual-in_err-build.ensures.1 in
    rw p.1 tt

pub returns-in_err-go_on-clause-memory : goal.returns-in_err-go_on-clause-memory
returns-in_err-go_on-clause-memory c =
    let p = err_from_is_err_and c.from_residual.result c.from_residual.ensures.1 in
    let near = rw c.in_err-go_on.ensures.fault at c.in_err-go_on.ensures.far.0 in
    rw (p.1, p.2) (λ e. absurd (rw e at near))

pub returns-in_err-build-clause-memory : goal.returns-in_err-build-clause-memory
returns-in_err-build-clause-memory c =
    let w = c.go_on.new.self in
    let told = told_by c.args.content.now w.found in
    let tail = c.kept_tail-tail.ensures ∙ ap (kept_tail c.args.header.version c.args.header.kind w.place) c.behind-octets.ensures in
    let same : message_by c.args.header c.args.content.now ≡ message_with c.args.header.order c.args.header.kind told c.kept_tail-tail.result.now =
    message_walked c.args.header c.args.content.now w c.in_ok-go_on.ensures.walked c.in_ok-go_on.ensures.done ∙ ap (message_with c.args.header.order c.args.header.kind told) (sym tail) in
    let p = err_from_is_err_and c.from_residual-in_err-build.result c.from_residual-in_err-build.ensures.1 in
    rw (p.1, p.2) (λ e. subst GivesKept (sym same) (c.in_err-build.ensures.memory e))
