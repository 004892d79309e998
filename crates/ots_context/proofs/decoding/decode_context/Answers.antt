use Rattle.ots_context.specs.Fault.{Finds}
use Rattle.ots_context.specs.Reading.{context_in}
use Rattle.ots_context.specs.declared.context.Context.{Context}
use Rattle.ots_context.proofs.Faults.{finds_only}
use Rattle.ots_context.proofs.decoding.decode_context.Goals as goal

pub returns-clause-only : goal.returns-clause-only
unfolding context_in
returns-clause-only c context is =
    let octets = c.args.b.now in
    let exact : Finds (λ (x : Context). x) c.read_context.result (context_in octets) = rw c.in_ok-reader.ensures.exact c.read_context.ensures in
    finds_only c.read_context.result (context_in octets) context ((c.contexts_are_read_exactly.ensures octets context).1 is) exact
