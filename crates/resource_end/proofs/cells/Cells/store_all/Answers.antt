use Rattle.std.proofs.Common.{◌-◌, sym, subst, arith}
use Rattle.std.specs.Option.{IsSome}
use Rattle.decision_journal.specs.declared.record.Put.{Put}
use Rattle.resource_end.specs.Inside.{holder_in}
use Rattle.resource_end.proofs.Gaps.{all_at}
use Rattle.resource_end.proofs.cells.Cells.store_all.Goals as goal

pub store-requires : goal.store-requires
store-requires c = record {
  known = subst IsSome (sym (c.loop-left.invariant.2 _))
      (all_at (λ (p : Put). IsSome (holder_in p.cell c.args.self.now)) c.args.puts.now c.requires.known (c.loop-left.left - 1) (record { cell = 0; value = 0 })
      (omega (arith, c.loop-left.invariant.0, c.loop-left-test.true)));
}
