use Rattle.std.proofs.Common.{◌∙◌, sym}
use Rattle.ots_calls.proofs.Refusals.{allowed, key_refused, not_both, object_refused, operation_refused, refused}
use Rattle.ots_calls.proofs.writing.write_call.Goals as goal

pub returns-in-Some-clause-call : goal.returns-in-Some-clause-call
returns-in-Some-clause-call c = tt

pub returns-in-Some-clause-again : goal.returns-in-Some-clause-again
returns-in-Some-clause-again c = tt

pub returns-in-Some-clause-big : goal.returns-in-Some-clause-big
returns-in-Some-clause-big c = tt

pub returns-in-Some-clause-short : goal.returns-in-Some-clause-short
returns-in-Some-clause-short c = tt

pub returns-in-Some-clause-framed : goal.returns-in-Some-clause-framed
returns-in-Some-clause-framed c = tt

pub returns-in-None-clause-call : goal.returns-in-None-clause-call
returns-in-None-clause-call c = c.request_of.ensures.call

pub returns-in-None-clause-big : goal.returns-in-None-clause-big
returns-in-None-clause-big c = c.request_of.ensures.big

pub returns-in-None-clause-short : goal.returns-in-None-clause-short
returns-in-None-clause-short c = c.request_of.ensures.short

pub returns-in-None-clause-framed : goal.returns-in-None-clause-framed
returns-in-None-clause-framed c = c.request_of.ensures.framed

pub returns-in-Some-clause-exact : goal.returns-in-Some-clause-exact
returns-in-Some-clause-exact c = refused c.args.id c.args.c.now c.in-Some.fault (sym c.refusal_of.ensures ∙ c.in-Some.is)

pub returns-in-Some-clause-kind : goal.returns-in-Some-clause-kind
returns-in-Some-clause-kind c = key_refused c.args.c.now c.in-Some.fault (sym c.refusal_of.ensures ∙ c.in-Some.is)

pub returns-in-Some-clause-served : goal.returns-in-Some-clause-served
returns-in-Some-clause-served c = operation_refused c.args.c.now c.in-Some.fault (sym c.refusal_of.ensures ∙ c.in-Some.is)

pub returns-in-Some-clause-object : goal.returns-in-Some-clause-object
returns-in-Some-clause-object c = object_refused c.args.c.now c.in-Some.fault (sym c.refusal_of.ensures ∙ c.in-Some.is)

pub request_of-requires-clause-allowed : goal.request_of-requires-clause-allowed
request_of-requires-clause-allowed c = allowed c.args.c.now (sym c.refusal_of.ensures ∙ c.in-None.is)

pub returns-in-None-clause-kind : goal.returns-in-None-clause-kind
returns-in-None-clause-kind c lacks =
    absurd (not_both _ lacks (allowed c.args.c.now (sym c.refusal_of.ensures ∙ c.in-None.is)).kind)

pub returns-in-None-clause-served : goal.returns-in-None-clause-served
returns-in-None-clause-served c lacks =
    absurd (not_both _ lacks.1 (allowed c.args.c.now (sym c.refusal_of.ensures ∙ c.in-None.is)).served)

pub returns-in-None-clause-object : goal.returns-in-None-clause-object
returns-in-None-clause-object c lacks =
    absurd (not_both _ (allowed c.args.c.now (sym c.refusal_of.ensures ∙ c.in-None.is)).object lacks.2)
