use Rattle.std.proofs.Common.{◌∙◌, ◌+◌, List, [], ◌∷◌, length, sym, ap, subst, arith, length-append}
use Rattle.std.proofs.lemmas.List.Sums.{count_by-le-length}
use Rattle.decision_journal.specs.declared.journal.Standing.{Standing}
use Rattle.decision_journal.specs.Journal.{is_decision}
use Rattle.decision_journal.specs.Index.{AreBefore, IsIndexed}
use Rattle.decision_journal.specs.Room.{Stock}
use Rattle.decision_journal.proofs.Below.{put_decided, put_other}
use Rattle.decision_journal.proofs.found.Index.put.Goals as goal

pub push-requires : goal.push-requires
push-requires c = omega (arith, c.requires.room, ap (λ (s : Stock). s.spare) c.self.view_is)

pub overflow_add-self : goal.overflow_add-self
overflow_add-self c = omega (arith, c.self.invariant.count, count_by-le-length (λ (s : Standing). is_decision s.item) c.self.inside.standing.standing, ap length c.push.ensures.standing, length-append c.self.inside.standing.standing (record { place = c.args.place; item = c.args.item } ∷ []), c.push.ensures.fits)

pub invariant_of-self : goal.invariant_of-self
invariant_of-self c =
    subst (λ (xs : List Standing). IsIndexed xs (c.self.inside.decisions + 1)) (sym c.push.ensures.standing)
    (put_decided c.args.place c.self.inside.decisions c.args.item c.self.inside.standing.standing c.self.invariant (subst (λ (s : Stock). AreBefore c.args.place s.found.standing) (sym c.self.view_is) c.requires.behind) (sym c.is_decided-decided.ensures ∙ c.if-decided.true))

pub invariant_of-self-else-decided : goal.invariant_of-self-else-decided
invariant_of-self-else-decided c =
    subst (λ (xs : List Standing). IsIndexed xs c.self.inside.decisions) (sym c.push.ensures.standing)
    (put_other c.args.place c.self.inside.decisions c.args.item c.self.inside.standing.standing c.self.invariant (subst (λ (s : Stock). AreBefore c.args.place s.found.standing) (sym c.self.view_is) c.requires.behind) (sym c.is_decided-decided.ensures ∙ c.if-decided.false))
