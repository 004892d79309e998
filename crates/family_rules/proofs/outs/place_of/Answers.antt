use Rattle.std.proofs.Common.{rules, get_or, arith}
use Rattle.std.specs.List.Sorted.{IsPartitionedBy}
use Rattle.std.proofs.lemmas.List.Sorted.{IsPartitionPoint-from_clause}
use Rattle.family_rules.specs.Outs.{comes_before}
use Rattle.family_rules.proofs.Words.{before_later, in_order}
use Rattle.family_rules.proofs.outs.place_of.Goals as goal

pub returns-clause-below : goal.returns-clause-below
returns-clause-below c =
    let xs = c.args.list.now in
    let p = c.args.posted in
    let parted : IsPartitionedBy (λ w. comes_before w p) xs = λ i j d up within h. before_later (get_or xs i d) (get_or xs j d) p h (in_order xs c.requires.order i j d up within) in
    let point = IsPartitionPoint-from_clause (λ w. comes_before w p) _ _ c.partition_point.ensures.partitioned parted (λ a r q k. search rules) in
    λ k d h. point.0 k d (omega arith) h

pub returns-clause-above : goal.returns-clause-above
returns-clause-above c =
    let xs = c.args.list.now in
    let p = c.args.posted in
    let parted : IsPartitionedBy (λ w. comes_before w p) xs = λ i j d up within h. before_later (get_or xs i d) (get_or xs j d) p h (in_order xs c.requires.order i j d up within) in
    let point = IsPartitionPoint-from_clause (λ w. comes_before w p) _ _ c.partition_point.ensures.partitioned parted (λ a r q k. search rules) in
    λ k d l h. point.1 k d l h
