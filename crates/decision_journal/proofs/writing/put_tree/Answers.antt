use Rattle.std.proofs.Common.{◌∙◌, ap, append_assoc, arith, length, length-append}
use Rattle.decision_journal.specs.Layout.{four}
use Rattle.decision_journal.proofs.writing.put_tree.Goals as goal

pub put_u64-requires : goal.put_u64-requires
put_u64-requires c =
    omega (
      arith,
      c.requires,
      ap length c.put_u32.ensures.items,
      length-append c.args.out.now.items (four c.args.life),
      c.put_u32.ensures.room,
      ap length c.put_u32-2.ensures.items,
      length-append c.put_u32.new.out.items (four c.args.slot),
      c.put_u32-2.ensures.room,
    )

pub returns-clause-items : goal.returns-clause-items
returns-clause-items c = c.put_u64.ensures.items ∙ rw (c.put_u32-2.ensures.items, c.put_u32.ensures.items) (simp append_assoc)
