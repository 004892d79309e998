use Rattle.std.proofs.Common.{◌≡◌, ◌∙◌, ◌-◌, false, List, Some, refl, sym, ap, subst, arith}
use Rattle.std.specs.Prelude.{is_some, position}
use Rattle.std.specs.List.{list_any}
use Rattle.decision_journal.specs.declared.journal.Standing.{Standing}
use Rattle.decision_journal.specs.declared.record.JournalRecord.TheVariants.{Done}
use Rattle.decision_journal.specs.Journal.{is_decision_at}
use Rattle.decision_journal.specs.Room.{Stock}
use Rattle.decision_journal.specs.Index.{AreBefore, IsIndexed, Lined, left}
use Rattle.decision_journal.proofs.Below.{some_stand_at}
use Rattle.decision_journal.proofs.Left.{marked_before, marked_found, marked_indexed, unmarked_found}
use Rattle.decision_journal.proofs.found.Index.mark.Goals as goal

pub overflow_sub-self : goal.overflow_sub-self
overflow_sub-self c =
    let at = subst (λ (xs : List Standing). position (is_decision_at c.args.place) xs ≡ Some c.in-Some.index) c.as_slice.ensures (sym c.decision_at.ensures.index ∙ c.in-Some.is) in
    omega (arith, some_stand_at c.args.place c.in-Some.index c.self.inside.decisions c.self.inside.standing.standing at c.self.invariant)

pub invariant_of-self : goal.invariant_of-self
invariant_of-self c =
    let at = subst (λ (xs : List Standing). position (is_decision_at c.args.place) xs ≡ Some c.in-Some.index) c.as_slice.ensures (sym c.decision_at.ensures.index ∙ c.in-Some.is) in
    subst (λ (l : Lined). IsIndexed l.standing (c.self.inside.decisions - 1)) (sym c.set.ensures) (marked_indexed c.args.place c.in-Some.index (record { place = c.args.place; item = Done c.args.place }) c.self.inside.standing.standing refl at c.self.inside.decisions refl c.self.invariant)

pub returns-in-Some-clause-marked : goal.returns-in-Some-clause-marked
returns-in-Some-clause-marked c =
    let at = subst (λ (xs : List Standing). position (is_decision_at c.args.place) xs ≡ Some c.in-Some.index) c.as_slice.ensures (sym c.decision_at.ensures.index ∙ c.in-Some.is) in
    ap (λ (l : Lined). left (record { life = c.self.inside.life; standing = l.standing })) c.set.ensures
    ∙ marked_found c.args.place c.in-Some.index c.self.inside.life (record { place = c.args.place; item = Done c.args.place }) c.self.inside.standing.standing c.args.self.now.found (ap (λ (s : Stock). s.found) c.self.view_is) refl at

pub returns-in-Some-clause-before : goal.returns-in-Some-clause-before
returns-in-Some-clause-before c =
    let at = subst (λ (xs : List Standing). position (is_decision_at c.args.place) xs ≡ Some c.in-Some.index) c.as_slice.ensures (sym c.decision_at.ensures.index ∙ c.in-Some.is) in
    λ n before. subst (λ (l : Lined). AreBefore n l.standing) (sym c.set.ensures)
    (marked_before c.args.place c.in-Some.index (record { place = c.args.place; item = Done c.args.place }) c.self.inside.standing.standing refl at n (subst (λ (s : Stock). AreBefore n s.found.standing) (sym c.self.view_is) before))

pub returns-in_default-clause-marked : goal.returns-in_default-clause-marked
returns-in_default-clause-marked c =
    let none = subst (λ (xs : List Standing). list_any (is_decision_at c.args.place) xs ≡ false) c.as_slice.ensures (sym c.decision_at.ensures.stands ∙ ap is_some c.in_default.is) in
    unmarked_found c.args.place c.args.self.now.found (subst (λ (s : Stock). list_any (is_decision_at c.args.place) s.found.standing ≡ false) c.self.view_is none)
