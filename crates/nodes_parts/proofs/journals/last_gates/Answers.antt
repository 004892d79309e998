use Rattle.std.proofs.Common.{◌∙◌, ◌++◌, ◌∷◌, [], sym}
use Rattle.nodes_parts.proofs.Walking.{ahead_first, ahead_next, ahead_none, last_found}
use Rattle.nodes_parts.proofs.journals.last_gates.Goals as goal

pub loop-next-init : goal.loop-next-init
loop-next-init c = λ rs h. ahead_first c.args.octets.now rs h

pub loop-next-preserved : goal.loop-next-preserved
loop-next-preserved c = λ rs h.
    ahead_next c.args.octets.now c.loop-next.gates.last c.loop-next.gates.end rs (c.loop-next.invariant rs h) c.in-Some.next
    (sym c.next_gate.ensures.next ∙ c.in-Some.is)

pub returns-clause-end : goal.returns-clause-end
returns-clause-end c = λ rs h.
    (ahead_none c.args.octets.now c.loop-next.gates.last c.loop-next.gates.end rs (c.loop-next.invariant rs h)
    (sym c.next_gate.ensures.next ∙ c.in_default.is)).end_is

pub returns-clause-last : goal.returns-clause-last
returns-clause-last c = λ before r h.
    last_found c.args.octets.now c.loop-next.gates.last c.loop-next.gates.end before r
    (ahead_none c.args.octets.now c.loop-next.gates.last c.loop-next.gates.end (before ++ r ∷ []) (c.loop-next.invariant (before ++ r ∷ []) h)
    (sym c.next_gate.ensures.next ∙ c.in_default.is)).last_is
