use Rattle.std.proofs.Common.{ltb, rules}
use Rattle.std.proofs.lemmas.List.Sorted.{IsPartitionPoint-from_clause, IsPartitionedBy-ltb}
use Rattle.decision_journal.specs.declared.record.Put.{Put}
use Rattle.resource_end.proofs.Gaps.{gap_at, not_falling}
use Rattle.resource_end.proofs.puts.gap.Goals as goal

pub returns : goal.returns
returns c =
    let parted = IsPartitionedBy-ltb (λ (p : Put). p.cell) c.args.puts.now c.args.cell (not_falling c.args.puts.now c.requires) in
    let point = IsPartitionPoint-from_clause (λ (p : Put). ltb p.cell c.args.cell) c.args.puts.now c.partition_point.result c.partition_point.ensures.partitioned parted (λ a r q k. search rules) in
    gap_at c.args.cell c.partition_point.result c.args.puts.now c.partition_point.ensures.bound point
