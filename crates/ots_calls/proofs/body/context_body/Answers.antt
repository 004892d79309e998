use Rattle.std.proofs.Common.{◌≡◌, List, ℕ, Result, Ok, Err, IfOk}
use Rattle.cdr_values.specs.Again.{standing}
use Rattle.cdr_values.specs.declared.order.Order.TheVariants.{Big}
use Rattle.ots_context.specs.Context.{StandsAsContext}
use Rattle.ots_context.specs.Laws.{ContextsStandExactly}
use Rattle.ots_context.specs.Reading.{context_at}
use Rattle.ots_context.specs.declared.context.Context.{Context}
use Rattle.ots_calls.specs.declared.fault.CallFault.{CallFault}
use Rattle.ots_calls.proofs.body.context_body.Goals as goal

stands_where_read : ContextsStandExactly → (c : Context) (written : Result (List ℕ) CallFault) → IfOk written (λ octets. context_at (standing Big 0 octets) ≡ Ok c) → IfOk written (λ octets. StandsAsContext c (standing Big 0 octets))
stands_where_read exact c (Ok octets) h = (exact (standing Big 0 octets) c).0 h
stands_where_read exact c (Err fault) h = tt

pub returns-clause-stands : goal.returns-clause-stands
returns-clause-stands c =
    stands_where_read c.contexts_stand_exactly.ensures c.args.context.now c.context_octets.result c.context_octets.ensures.read
