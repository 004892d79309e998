use Rattle.std.proofs.Common.{ltb, ap, arith, rules}
use Rattle.std.proofs.lemmas.Bool.Decides.{nat_tests}
use Rattle.std.proofs.lemmas.List.{get_or_default}
use Rattle.std.proofs.lemmas.List.Sorted.{IsPartitionPoint-from_clause, IsPartitionedBy-ltb}
use Rattle.recovery_coord.specs.declared.held.Held.{Held}
use Rattle.recovery_coord.proofs.Ordered.{gap, not_falling}
use Rattle.recovery_coord.proofs.records.search.Goals as goal

pub returns-then-index-records-clause-none : goal.returns-then-index-records-clause-none
returns-then-index-records-clause-none c =
    let parted = IsPartitionedBy-ltb (λ (r : Held). r.place) c.args.records.now c.args.place (not_falling 0 c.args.records.now c.requires.order) in
    let point = IsPartitionPoint-from_clause (λ (r : Held). ltb r.place c.args.place) c.args.records.now c.partition_point-index.result c.partition_point-index.ensures.partitioned parted (λ a r q k. search rules) in
    gap 0 c.args.records.now c.requires.order c.args.place c.partition_point-index.result point c.partition_point-index.ensures.bound (λ d within same. omega (arith, within))

pub returns-then-from-place-clause-none : goal.returns-then-from-place-clause-none
returns-then-from-place-clause-none c =
    let parted = IsPartitionedBy-ltb (λ (r : Held). r.place) c.args.records.now c.args.place (not_falling 0 c.args.records.now c.requires.order) in
    let point = IsPartitionPoint-from_clause (λ (r : Held). ltb r.place c.args.place) c.args.records.now c.partition_point-index.result c.partition_point-index.ensures.partitioned parted (λ a r q k. search rules) in
    gap 0 c.args.records.now c.requires.order c.args.place c.partition_point-index.result point c.partition_point-index.ensures.bound (λ d within same.
    let e = ap (λ (r : Held). r.place) (get_or_default c.args.records.now c.partition_point-index.result c.index-records-index.result d within) in
    grind (arith, nat_tests, e, same))
