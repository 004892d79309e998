use Rattle.std.proofs.Common.{List, sym, ap, subst, ◌∙◌}
use Rattle.decision_journal.specs.declared.journal.Standing.{Standing}
use Rattle.decision_journal.specs.Index.{IsIndexed, left}
use Rattle.decision_journal.specs.Room.{Stock}
use Rattle.decision_journal.proofs.Left.{settled_indexed}
use Rattle.decision_journal.proofs.found.Index.settle.Goals as goal

pub invariant_of-self : goal.invariant_of-self
invariant_of-self c =
    subst (λ (xs : List Standing). IsIndexed xs c.self.inside.decisions) (sym c.settle.ensures) (settled_indexed c.self.inside.decisions c.self.inside.standing.standing c.self.invariant)

pub returns : goal.returns
returns c = ap (λ (xs : List Standing). record { life = c.self.inside.life; standing = xs }) c.settle.ensures ∙ ap (λ (s : Stock). left s.found) c.self.view_is
