use Rattle.std.proofs.Common.{◌∙◌, ltb, ap, sym, arith, rules}
use Rattle.std.proofs.lemmas.Bool.Decides.{nat_tests}
use Rattle.std.proofs.lemmas.List.{get_or_default}
use Rattle.std.proofs.lemmas.List.Sorted.{IsPartitionPoint-from_clause, IsPartitionedBy-ltb}
use Rattle.decision_journal.specs.declared.journal.Standing.{Standing}
use Rattle.resource_end.specs.Inside.{prepared_id}
use Rattle.resource_end.proofs.Told.{it_stands, none_stands, not_falling, not_prepared}
use Rattle.resource_end.proofs.standing.prepared_at.Goals as goal

pub returns-then-index-standing : goal.returns-then-index-standing
returns-then-index-standing c =
    let parted = IsPartitionedBy-ltb (λ (s : Standing). s.place) c.args.standing.now c.args.place (not_falling c.args.standing.now c.requires.order) in
    let point = IsPartitionPoint-from_clause (λ (s : Standing). ltb s.place c.args.place) c.args.standing.now c.partition_point-index.result c.partition_point-index.ensures.partitioned parted (λ a r q k. search rules) in
    sym (none_stands c.args.standing.now c.requires.order c.args.place c.partition_point-index.result point (λ d within same. omega (arith, within, c.if-index-standing.true)))

pub returns-then-each-place : goal.returns-then-each-place
returns-then-each-place c =
    let parted = IsPartitionedBy-ltb (λ (s : Standing). s.place) c.args.standing.now c.args.place (not_falling c.args.standing.now c.requires.order) in
    let point = IsPartitionPoint-from_clause (λ (s : Standing). ltb s.place c.args.place) c.args.standing.now c.partition_point-index.result c.partition_point-index.ensures.partitioned parted (λ a r q k. search rules) in
    sym (none_stands c.args.standing.now c.requires.order c.args.place c.partition_point-index.result point (λ d within same.
    let e = ap (λ (s : Standing). s.place) (get_or_default c.args.standing.now c.partition_point-index.result c.index-standing-index.result d within) in
    grind (arith, nat_tests, e, same)))

pub returns-in-CellsPrepared : goal.returns-in-CellsPrepared
returns-in-CellsPrepared c =
    let parted = IsPartitionedBy-ltb (λ (s : Standing). s.place) c.args.standing.now c.args.place (not_falling c.args.standing.now c.requires.order) in
    let point = IsPartitionPoint-from_clause (λ (s : Standing). ltb s.place c.args.place) c.args.standing.now c.partition_point-index.result c.partition_point-index.ensures.partitioned parted (λ a r q k. search rules) in
    sym (it_stands c.args.standing.now c.requires.order c.args.place c.partition_point-index.result point c.index-standing-index.result (omega (arith, c.if-index-standing.false))
    (sym c.index-standing-index.is) c.if-each-place.false
    ∙ ap prepared_id c.in-CellsPrepared.is)

pub returns-in_default : goal.returns-in_default
returns-in_default c =
    let parted = IsPartitionedBy-ltb (λ (s : Standing). s.place) c.args.standing.now c.args.place (not_falling c.args.standing.now c.requires.order) in
    let point = IsPartitionPoint-from_clause (λ (s : Standing). ltb s.place c.args.place) c.args.standing.now c.partition_point-index.result c.partition_point-index.ensures.partitioned parted (λ a r q k. search rules) in
    sym (it_stands c.args.standing.now c.requires.order c.args.place c.partition_point-index.result point c.index-standing-index.result (omega (arith, c.if-index-standing.false))
    (sym c.index-standing-index.is) c.if-each-place.false
    ∙ not_prepared c.index-standing-index.result.item c.in_default.not-CellsPrepared)
