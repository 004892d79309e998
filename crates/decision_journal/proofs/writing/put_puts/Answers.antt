use Rattle.std.proofs.Common.{◌++◌, ap, arith, length, length-append, length-take, take}
use Rattle.std.specs.List.{flat_map}
use Rattle.decision_journal.specs.Layout.{put, two}
use Rattle.decision_journal.proofs.Lengths.{all_puts}
use Rattle.decision_journal.proofs.writing.put_puts.Goals as goal

pub put_put-requires : goal.put_put-requires
put_put-requires c =
    let front = take c.loop-item.item-index c.items-items.result.now in
    omega (
      arith,
      c.requires.room,
      ap length c.items-items.ensures.same,
      c.loop-item-test.true,
      c.loop-item.invariant.room,
      ap length c.loop-item.invariant.items,
      length-append c.args.out.now.items (two (length c.items-items.result.now) ++ flat_map put front),
      length-append (two (length c.items-items.result.now)) (flat_map put front),
      all_puts front,
      length-take c.loop-item.item-index c.items-items.result.now,
    )
