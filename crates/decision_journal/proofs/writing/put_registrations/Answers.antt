use Rattle.std.proofs.Common.{◌++◌, ap, arith, length, length-append, take}
use Rattle.std.specs.List.{flat_map}
use Rattle.decision_journal.specs.Layout.{registration, two}
use Rattle.decision_journal.proofs.Lengths.{one_fits, registration_length, registrations_length}
use Rattle.decision_journal.proofs.writing.put_registrations.Goals as goal

pub put_registration-requires : goal.put_registration-requires
put_registration-requires c =
    let front = take c.loop-item.item-index c.items-items.result.now in
    omega (
      arith,
      c.requires.room,
      ap (λ rs. length (flat_map registration rs)) c.items-items.ensures.same,
      registrations_length c.args.items.now,
      registration_length c.item-item.result,
      c.loop-item.invariant.room,
      ap length c.loop-item.invariant.items,
      length-append c.args.out.now.items (two (length c.items-items.result.now) ++ flat_map registration front),
      length-append (two (length c.items-items.result.now)) (flat_map registration front),
      one_fits registration c.items-items.result.now c.loop-item.item-index c.item-item.result c.loop-item-test.true c.item-item.is,
    )
