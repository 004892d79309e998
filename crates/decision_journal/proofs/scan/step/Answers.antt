use Rattle.std.proofs.Common.{◌∙◌, sym, arith}
use Rattle.decision_journal.specs.Index.{left}
use Rattle.decision_journal.proofs.Left.{follow_left}
use Rattle.decision_journal.proofs.Steps.{failed_read, outside_read, unfit_read, both_ways, is_step, ok_of}
use Rattle.decision_journal.proofs.scan.step.Goals as goal

pub returns-in-Err-clause-none : goal.returns-in-Err-clause-none
returns-in-Err-clause-none c =
    λ is. failed_read c.in-Err.fault c.args.gate c.args.behind.now (left c.args.index.now.found) c.in-Err.ensures is

pub returns-then-not-is_within-clause-none : goal.returns-then-not-is_within-clause-none
returns-then-not-is_within-clause-none c =
    λ is. outside_read c.args.gate c.args.behind.now (left c.args.index.now.found) c.in-Ok.value.0 c.in-Ok.value.1.now (λ i. omega (arith, c.type_inv.behind i)) c.in-Ok.ensures
    (λ w. both_ways c.is_within.result (c.is_within.ensures.1 w) c.if-not-is_within.true)

pub returns-then-not-takes-clause-none : goal.returns-then-not-takes-clause-none
returns-then-not-takes-clause-none c =
    λ is. unfit_read c.args.gate c.args.behind.now (left c.args.index.now.found) c.in-Ok.value.0 c.in-Ok.value.1.now c.in-Ok.ensures (follow_left c.args.index.now.found c.in-Ok.value.0 ∙ (sym c.takes.ensures ∙ c.if-not-takes.true))

pub returns-clause-next : goal.returns-clause-next
returns-clause-next c =
    let w = c.is_within.ensures.0 c.if-not-is_within.false in
    is_step c.args.behind.now c.in-Ok.value.0 c.in-Ok.value.1.now (λ i. omega (arith, c.type_inv.behind i)) c.in-Ok.ensures c.args.gate (left c.args.index.now.found) (left c.gather.new.self.found)
    w.0 w.1 (follow_left c.args.index.now.found c.in-Ok.value.0 ∙ (sym c.takes.ensures ∙ c.if-not-takes.false)) (ok_of c.gather.result (sym c.is_err.ensures.value ∙ c.if-is_err.false) c.gather.ensures.ok)

pub returns-clause-before : goal.returns-clause-before
returns-clause-before c = ok_of c.gather.result (sym c.is_err.ensures.value ∙ c.if-is_err.false) c.gather.ensures.before
