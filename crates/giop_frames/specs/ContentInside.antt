-- What the laws of values say of the fields of messages.
use Rattle.cdr_values.specs.Laws.{ReadingLaws}
use Rattle.cdr_values.specs.Sequence.{SequencesAreExact}
use Rattle.cdr_values.specs.Tagged.{TaggedLaws}
use Rattle.giop_frames.specs.declared.fault.FrameFault.{FrameFault}
use Rattle.giop_frames.specs.declared.message.ServiceContext.{ServiceContext}

-- values, octets with a tag, references and service contexts are read exactly where they stand
pub record FieldLaws : Type 0 where
  pub values : ReadingLaws
  pub tagged : TaggedLaws FrameFault
  pub contexts : SequencesAreExact ServiceContext FrameFault
