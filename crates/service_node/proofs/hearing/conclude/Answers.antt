use Rattle.std.proofs.Common.{◌≡◌, ◌∙◌, ℕ, cond, List, [], ◌∷◌, ◌++◌, false, Option, sym, ap, subst}
use Rattle.std.specs.List.{filter}
use Rattle.decision_journal.specs.declared.journal.Standing.{Standing}
use Rattle.recovery_coord.specs.Held.{stands_at}
use Rattle.coordinator.specs.declared.effect.Effect.{Effect}
use Rattle.coordinator.specs.declared.effect.Effect.TheVariants as effects
use Rattle.service_node.specs.Journaling.{HasConcluded}
use Rattle.service_node.proofs.Asked.{concluded}
use Rattle.service_node.proofs.Gone.{after_gone}
use Rattle.service_node.proofs.Keeping.{keeps}
use Rattle.service_node.proofs.hearing.conclude.Goals as goal

pub returns-in-Some-clause-concluded : goal.returns-in-Some-clause-concluded
returns-in-Some-clause-concluded g c =
    let failed = c.failed-failed.result in
    let stands = c.ask_done-stands.result in
    let mid = c.let_go.new.recovered in
    subst (λ (o : Option ℕ). HasConcluded g.D.Disk.wants_memory g.D.Disk.told g.D.Disk.faults o c.args.journal.now c.ask_done-stands.new.journal c.args.recovered.now c.keep_where.new.recovered c.let_go.new.happened.items) (sym c.in-Some.is)
    (concluded g.D.Disk.wants_memory g.D.Disk.told g.D.Disk.faults c.args.journal.now c.ask_done-stands.new.journal c.args.recovered.now mid c.keep_where.new.recovered c.in-Some.place failed c.let_go.new.happened.items stands
    c.failed-failed.ensures c.ask_done-stands.ensures.stands c.ask_done-stands.ensures.refused c.let_go.ensures.records
    (c.let_go.ensures.happened ∙ ap (λ (xs : List Effect). cond stands (xs ++ effects.Done ∷ []) xs) c.requires.none)
    (c.keep_where.ensures ∙ ap (λ (ss : List Standing). record mid { records = cond failed (filter (keeps ss) mid.records) mid.records }) c.standing-in-Some.ensures.same))

pub let_go-requires-clause-gone : goal.let_go-requires-clause-gone
let_go-requires-clause-gone g c = λ stands.
    subst (λ (ss : List Standing). stands_at c.in-Some.place ss ≡ false) (sym c.standing.ensures.same)
    (after_gone g.D.Disk.told c.args.journal.now c.ask_done-stands.new.journal c.in-Some.place (c.ask_done-stands.ensures.stands stands))
