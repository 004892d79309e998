use Rattle.std.proofs.Common.{◌≡◌, ◌∙◌, ◌-◌, List, Some, sym, subst, arith}
use Rattle.std.specs.Prelude.{position}
use Rattle.decision_journal.specs.declared.journal.Standing.{Standing}
use Rattle.decision_journal.specs.Journal.{is_decision_at}
use Rattle.decision_journal.specs.Index.{IsIndexed}
use Rattle.decision_journal.proofs.Below.{some_stand_at, take_indexed_at}
use Rattle.decision_journal.proofs.found.Index.take_away.Goals as goal

pub overflow_sub-self : goal.overflow_sub-self
overflow_sub-self c =
    let at = subst (λ (xs : List Standing). position (is_decision_at c.args.place) xs ≡ Some c.in-Some.index) c.as_slice.ensures (sym c.decision_at.ensures.index ∙ c.in-Some.is) in
    omega (arith, some_stand_at c.args.place c.in-Some.index c.self.inside.decisions c.self.inside.standing.standing at c.self.invariant)

pub invariant_of-self : goal.invariant_of-self
invariant_of-self c =
    let at = subst (λ (xs : List Standing). position (is_decision_at c.args.place) xs ≡ Some c.in-Some.index) c.as_slice.ensures (sym c.decision_at.ensures.index ∙ c.in-Some.is) in
    subst (λ (xs : List Standing). IsIndexed xs (c.self.inside.decisions - 1)) (sym c.remove.ensures.standing)
    (take_indexed_at c.args.place c.in-Some.index c.self.inside.decisions c.self.inside.standing.standing at c.self.invariant)

pub returns-in-Some-clause-decisions : goal.returns-in-Some-clause-decisions
returns-in-Some-clause-decisions c =
    let at = subst (λ (xs : List Standing). position (is_decision_at c.args.place) xs ≡ Some c.in-Some.index) c.as_slice.ensures (sym c.decision_at.ensures.index ∙ c.in-Some.is) in
    let after = take_indexed_at c.args.place c.in-Some.index c.self.inside.decisions c.self.inside.standing.standing at c.self.invariant in
    rw (← c.self.view_is, c.remove.ensures.standing) (omega (arith, c.self.invariant.count, after.count, some_stand_at c.args.place c.in-Some.index c.self.inside.decisions c.self.inside.standing.standing at c.self.invariant, c.remove.ensures.spare))
