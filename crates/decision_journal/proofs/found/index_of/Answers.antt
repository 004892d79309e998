use Rattle.std.proofs.Common.{ltb, sym, ap, arith, rules}
use Rattle.std.proofs.lemmas.Bool.Decides.{nat_tests}
use Rattle.std.proofs.lemmas.List.{get_or_default}
use Rattle.std.proofs.lemmas.List.Sorted.{IsPartitionPoint-from_clause, IsPartitionedBy-ltb}
use Rattle.decision_journal.specs.declared.journal.Standing.{Standing}
use Rattle.decision_journal.proofs.Places.{rising, at_point_by, not_at_point}
use Rattle.decision_journal.proofs.found.index_of.Goals as goal

pub returns-then-index-standing : goal.returns-then-index-standing
returns-then-index-standing c =
    let parted = IsPartitionedBy-ltb (λ (s : Standing). s.place) c.args.standing.now c.args.place (rising c.args.standing.now c.requires) in
    let point = IsPartitionPoint-from_clause (λ (s : Standing). ltb s.place c.args.place) c.args.standing.now c.partition_point-index.result c.partition_point-index.ensures.partitioned parted (λ a r q k. search rules) in
    sym (not_at_point c.args.standing.now c.requires c.args.place c.partition_point-index.result point (λ d within same. omega (arith, within)))

pub returns-then-standing-index : goal.returns-then-standing-index
returns-then-standing-index c =
    let parted = IsPartitionedBy-ltb (λ (s : Standing). s.place) c.args.standing.now c.args.place (rising c.args.standing.now c.requires) in
    let point = IsPartitionPoint-from_clause (λ (s : Standing). ltb s.place c.args.place) c.args.standing.now c.partition_point-index.result c.partition_point-index.ensures.partitioned parted (λ a r q k. search rules) in
    sym (not_at_point c.args.standing.now c.requires c.args.place c.partition_point-index.result point (λ d within same.
    let e = ap (λ (s : Standing). s.place) (get_or_default c.args.standing.now c.partition_point-index.result c.index-standing-index.result d within) in
    grind (arith, nat_tests, e, same)))

pub returns : goal.returns
returns c =
    let parted = IsPartitionedBy-ltb (λ (s : Standing). s.place) c.args.standing.now c.args.place (rising c.args.standing.now c.requires) in
    let point = IsPartitionPoint-from_clause (λ (s : Standing). ltb s.place c.args.place) c.args.standing.now c.partition_point-index.result c.partition_point-index.ensures.partitioned parted (λ a r q k. search rules) in
    sym (at_point_by c.args.standing.now c.requires c.args.place c.partition_point-index.result point c.index-standing-index.result (omega arith) (grind (arith, nat_tests)))
