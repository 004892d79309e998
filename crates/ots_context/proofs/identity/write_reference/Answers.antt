use Rattle.ots_context.proofs.Room.{written_err}
use Rattle.ots_context.proofs.identity.write_reference.Goals as goal

pub returns-clause-memory : goal.returns-clause-memory
returns-clause-memory c =
    written_err c.args.reference.now c.write_ref.result c.args.writer.now c.write_ref.new.w c.bytes-length.ensures.reference c.requires.room c.write_ref.ensures
