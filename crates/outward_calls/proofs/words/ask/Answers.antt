use Rattle.std.proofs.Common.{◌∙◌, ap, drop, length, subst, sym, List, ℕ}
use Rattle.std.specs.Prelude.{IfSome}
use Rattle.std.proofs.lemmas.Result.{err_from_is_err_and}
use Rattle.ots_calls.specs.declared.call.Called.{Called}
use Rattle.outward_calls.specs.Words.{IsSent, home}
use Rattle.outward_calls.specs.WordsInside.{IsNowhere, IsStarved, IsUnspoken, heard_by}
use Rattle.outward_calls.specs.declared.words.Unheard.{Unheard}
use Rattle.outward_calls.proofs.Sending.{failed_where, heard_where, nowhere_where, starved_where, starving_where, unspoken_where}
use Rattle.outward_calls.proofs.words.ask.Goals as goal

pub returns-in-Ok-clause-exchange : goal.returns-in-Ok-clause-exchange
returns-in-Ok-clause-exchange g c =
    heard_where (home c.args.at.now c.args.sender.service c.args.sender.resource_kind) c.args.word.now c.in_ok-place.place c.in_ok-request.request.items c.as_slice.result.now c.as_slice.ensures.value
    (g.L.Link.exchanged c.args.link.now) (g.L.Link.exchanged c.invoke.new.self)
    (drop (length c.new-reply.result.items) c.invoke.new.reply.items) c.as_slice-in-Ok.result.now c.in_ok-called.called.call c.hear.result
    c.in_ok-request.ensures.spelled
    (ap (λ (xs : List ℕ). drop (length xs) c.invoke.new.reply.items) c.new-reply.ensures.items ∙ sym c.as_slice-in-Ok.ensures.value)
    (ap (λ (x : Called). x.call) c.in_ok-called.ensures.called) c.in-Ok.ensures.exchange c.hear.ensures

pub returns-in-Err-Failed-clause-exchange : goal.returns-in-Err-Failed-clause-exchange
returns-in-Err-Failed-clause-exchange g c =
    failed_where (home c.args.at.now c.args.sender.service c.args.sender.resource_kind) c.args.word.now c.in_ok-place.place c.in_ok-request.request.items c.as_slice.result.now c.as_slice.ensures.value
    (g.L.Link.exchanged c.args.link.now) (g.L.Link.exchanged c.invoke.new.self)
    (drop (length c.new-reply.result.items) c.invoke.new.reply.items) c.in-Err-Failed.field-0 c.in_ok-request.ensures.spelled
    c.in-Err-Failed.field-0-is c.in-Err-Failed.ensures.exchange

pub returns-clause-exchange : goal.returns-clause-exchange
returns-clause-exchange g c =
    starving_where (home c.args.at.now c.args.sender.service c.args.sender.resource_kind) c.args.word.now c.in_ok-place.place c.in_ok-request.request.items c.as_slice.result.now c.as_slice.ensures.value
    (g.L.Link.exchanged c.args.link.now) (g.L.Link.exchanged c.invoke.new.self)
    (drop (length c.new-reply.result.items) c.invoke.new.reply.items) c.in-Err-Memory.field-0 c.in_ok-request.ensures.spelled
    c.in-Err-Memory.field-0-is c.in-Err-Memory.ensures.exchange

pub returns-in_err-request-clause-exchange : goal.returns-in_err-request-clause-exchange
returns-in_err-request-clause-exchange g c =
    let p = err_from_is_err_and c.from_residual-in_err-request.result c.from_residual-in_err-request.ensures.1 in
    subst (λ r. IfSome (g.L.Link.exchanged c.args.link.now) (λ done. IsSent (home c.args.at.now c.args.sender.service c.args.sender.resource_kind) c.args.word.now (heard_by r) done
    (g.L.Link.exchanged c.args.link.now))) (sym p.1)
    (unspoken_where (home c.args.at.now c.args.sender.service c.args.sender.resource_kind) c.args.word.now c.in_ok-place.place (g.L.Link.exchanged c.args.link.now) p.0.0 c.in_ok-place.ensures.place
    (subst (λ (u : Unheard). IsUnspoken (home c.args.at.now c.args.sender.service c.args.sender.resource_kind) c.args.word.now c.in_ok-place.place u.0) (sym p.2) c.in_err-request.ensures.none))

pub returns-in_err-place-clause-exchange : goal.returns-in_err-place-clause-exchange
returns-in_err-place-clause-exchange g c =
    let p = err_from_is_err_and c.from_residual.result c.from_residual.ensures.1 in
    subst (λ r. IfSome (g.L.Link.exchanged c.args.link.now) (λ done. IsSent (home c.args.at.now c.args.sender.service c.args.sender.resource_kind) c.args.word.now (heard_by r) done
    (g.L.Link.exchanged c.args.link.now))) (sym p.1)
    (nowhere_where (home c.args.at.now c.args.sender.service c.args.sender.resource_kind) c.args.word.now (g.L.Link.exchanged c.args.link.now) p.0.0
    (subst (λ (u : Unheard). IsNowhere c.args.word.now.to u.0) (sym p.2) c.in_err-place.ensures.none))

pub returns-in_err-called-clause-exchange : goal.returns-in_err-called-clause-exchange
returns-in_err-called-clause-exchange g c =
    let p = err_from_is_err_and c.from_residual-in_err-called.result c.from_residual-in_err-called.ensures.1 in
    subst (λ r. IfSome (g.L.Link.exchanged c.args.link.now) (λ done. IsSent (home c.args.at.now c.args.sender.service c.args.sender.resource_kind) c.args.word.now (heard_by r) done
    (g.L.Link.exchanged c.args.link.now))) (sym p.1)
    (starved_where (home c.args.at.now c.args.sender.service c.args.sender.resource_kind) c.args.word.now (g.L.Link.exchanged c.args.link.now) p.0.0
    (subst (λ (u : Unheard). IsStarved u.0) (sym p.2) c.in_err-called.ensures.none))
