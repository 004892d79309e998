use Rattle.std.proofs.Common.{◌-◌, inl, inr, sym, ◌∙◌, arith}
use Rattle.txn_tree.proofs.Kept.{same_or_not}
use Rattle.txn_tree.proofs.links.last_under.Goals as goal

pub loop-depth-init : goal.loop-depth-init
loop-depth-init c = λ l low high. absurd (omega (arith, low, high))

pub loop-depth-preserved : goal.loop-depth-preserved
loop-depth-preserved c = λ l low high.
    elim (same_or_not l (c.loop-depth.depth - 1)) [
      | inl e ↦ rw e (sym c.last_below.ensures ∙ c.in_default.is)
      | inr ne ↦ c.loop-depth.invariant l (omega (arith, low, ne)) high
    ]
