use Rattle.std.proofs.Common.{◌∙◌, ap, append_assoc, arith, length, length-append}
use Rattle.std.specs.List.{concat}
use Rattle.std.proofs.lemmas.List.{append-nil}
use Rattle.decision_journal.specs.Layout.{eight, fields, four, reference, two}
use Rattle.decision_journal.proofs.Lengths.{cells_length, one_phase_length}
use Rattle.decision_journal.proofs.writing.put_fields.Goals as goal

pub put_puts-requires-clause-room : goal.put_puts-requires-clause-room
put_puts-requires-clause-room c =
    omega (
      arith,
      c.requires.room,
      ap (λ r. length (concat (fields r))) c.in-CellsPrepared.is,
      cells_length c.in-CellsPrepared.life c.in-CellsPrepared.number c.in-CellsPrepared.recovery c.in-CellsPrepared.items,
      ap length c.put_u32-in-CellsPrepared.ensures.items,
      length-append c.args.out.now.items (four c.in-CellsPrepared.life),
      c.put_u32-in-CellsPrepared.ensures.room,
      ap length c.put_u64.ensures.items,
      length-append c.put_u32-in-CellsPrepared.new.out.items (eight c.in-CellsPrepared.number),
      c.put_u64.ensures.room,
      ap length c.put_reference-in-CellsPrepared.ensures.items,
      length-append c.put_u64.new.out.items (reference c.in-CellsPrepared.recovery),
      length-append (two (length c.in-CellsPrepared.recovery)) c.in-CellsPrepared.recovery,
      c.put_reference-in-CellsPrepared.ensures.room,
    )

pub put_puts-requires-in-CellsOnePhase-clause-room : goal.put_puts-requires-in-CellsOnePhase-clause-room
put_puts-requires-in-CellsOnePhase-clause-room c =
    omega (
      arith,
      c.requires.room,
      ap (λ r. length (concat (fields r))) c.in-CellsOnePhase.is,
      one_phase_length c.in-CellsOnePhase.life c.in-CellsOnePhase.number c.in-CellsOnePhase.items,
      ap length c.put_u32-in-CellsOnePhase.ensures.items,
      length-append c.args.out.now.items (four c.in-CellsOnePhase.life),
      c.put_u32-in-CellsOnePhase.ensures.room,
      ap length c.put_u64-in-CellsOnePhase.ensures.items,
      length-append c.put_u32-in-CellsOnePhase.new.out.items (eight c.in-CellsOnePhase.number),
      c.put_u64-in-CellsOnePhase.ensures.room,
    )

pub returns-in-Decision-clause-items : goal.returns-in-Decision-clause-items
returns-in-Decision-clause-items c =
    rw c.in-Decision.is (c.put_registrations.ensures.items ∙ rw (c.put_u8.ensures.items, c.flag_of.ensures, c.put_key.ensures.items, c.put_tree.ensures.items) (simp (append_assoc, append-nil)))

pub returns-in-Prepared-clause-items : goal.returns-in-Prepared-clause-items
returns-in-Prepared-clause-items c =
    rw c.in-Prepared.is (c.put_registrations-in-Prepared.ensures.items ∙ rw (c.put_reference.ensures.items, c.put_tree-in-Prepared.ensures.items) (simp (append_assoc, append-nil)))
