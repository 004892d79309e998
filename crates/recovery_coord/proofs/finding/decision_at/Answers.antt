use Rattle.std.proofs.Common.{◌∙◌, Some, ltb, sym, ap, arith, rules}
use Rattle.std.proofs.lemmas.List.{get_or_default}
use Rattle.std.proofs.lemmas.List.Sorted.{IsPartitionPoint-from_clause, IsPartitionedBy-ltb}
use Rattle.decision_journal.specs.Journal.{is_decision_at}
use Rattle.decision_journal.specs.declared.journal.Standing.{Standing}
use Rattle.recovery_coord.proofs.Halving.{rising, found_here, none_here}
use Rattle.recovery_coord.proofs.finding.decision_at.Goals as goal

pub returns-then-index-standing : goal.returns-then-index-standing
returns-then-index-standing c =
    let parted = IsPartitionedBy-ltb (λ (s : Standing). s.place) c.args.standing.now c.args.place (rising c.args.standing.now c.requires.order) in
    let point = IsPartitionPoint-from_clause (λ (s : Standing). ltb s.place c.args.place) c.args.standing.now c.partition_point-index.result c.partition_point-index.ensures.partitioned parted (λ a r q k. search rules) in
    sym (none_here c.args.standing.now c.requires.order c.args.place c.partition_point-index.result point (λ d within. absurd (omega (arith, within))) c.partition_point-index.ensures.bound)

pub returns-then-not-stands_at : goal.returns-then-not-stands_at
returns-then-not-stands_at c =
    let parted = IsPartitionedBy-ltb (λ (s : Standing). s.place) c.args.standing.now c.args.place (rising c.args.standing.now c.requires.order) in
    let point = IsPartitionPoint-from_clause (λ (s : Standing). ltb s.place c.args.place) c.args.standing.now c.partition_point-index.result c.partition_point-index.ensures.partitioned parted (λ a r q k. search rules) in
    sym (none_here c.args.standing.now c.requires.order c.args.place c.partition_point-index.result point
    (λ d within. ap (is_decision_at c.args.place) (get_or_default c.args.standing.now c.partition_point-index.result d c.index-standing-index.result within ∙ sym c.index-standing-index.is) ∙ sym c.stands_at.ensures ∙ c.if-not-stands_at.true)
    c.partition_point-index.ensures.bound)

pub returns : goal.returns
returns c =
    let parted = IsPartitionedBy-ltb (λ (s : Standing). s.place) c.args.standing.now c.args.place (rising c.args.standing.now c.requires.order) in
    let point = IsPartitionPoint-from_clause (λ (s : Standing). ltb s.place c.args.place) c.args.standing.now c.partition_point-index.result c.partition_point-index.ensures.partitioned parted (λ a r q k. search rules) in
    sym (found_here c.args.standing.now c.requires.order c.args.place c.partition_point-index.result point c.index-standing-index.result (omega arith)
    (ap (is_decision_at c.args.place) (sym c.index-standing-index.is) ∙ sym c.stands_at.ensures ∙ c.if-not-stands_at.false)
    ∙ ap Some (sym c.index-standing-index.is))
