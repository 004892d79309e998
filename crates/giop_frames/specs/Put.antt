-- Putting the values of fields one after another into a sink, which counts their octets, and writes them where it has a
-- writer.
use Rattle.std.specs.Prelude.{◌≡◌, ◌<◌, ◌^◌, false, List, length, Option, Some, None, Result, IfErr, OnOk}
use Rattle.std.specs.List.{AllByRecursion}
use Rattle.cdr_values.specs.Value.{Value, Octet, Boolean, UShort, ULong, ULongLong, OctetSequence, Text, Aligned, has_nul}
use Rattle.cdr_values.specs.Values.{with_values}
use Rattle.cdr_values.specs.Writing.{Writing}
use Rattle.giop_frames.specs.declared.fault.FrameFault.{FrameFault}
use Rattle.giop_frames.specs.declared.sink.FieldValue.{FieldValue}
use Rattle.giop_frames.specs.declared.sink.FieldValue.TheVariants as puts
use Rattle.giop_frames.specs.declared.sink.Sink.{Sink}
use Rattle.giop_frames.specs.Sizes.{end_of}

-- the value of CDR
abbrev pub value_of : FieldValue → Value
value_of (puts.Octet n) = Octet n
value_of (puts.UShort n) = UShort n
value_of (puts.ULong n) = ULong n
value_of (puts.Octets octets) = OctetSequence octets.now
value_of (puts.Text text) = Text text.now

-- a value may be put: octets are no more than a call may be lent, and a text has no NUL
abbrev pub MayBePut : Value → Type 0
MayBePut (OctetSequence octets) = length octets < 2 ^ 31
MayBePut (Text text) = (length text < 2 ^ 31) × (has_nul text ≡ false)
MayBePut _ = Unit {0}

-- a number has the range of its type, and a text has no NUL
abbrev pub IsPlain : Value → Type 0
IsPlain (Octet n) = n < 2 ^ 8
IsPlain (Boolean b) = Unit {0}
IsPlain (UShort n) = n < 2 ^ 16
IsPlain (ULong n) = n < 2 ^ 32
IsPlain (ULongLong n) = n < 2 ^ 64
IsPlain (OctetSequence octets) = Unit {0}
IsPlain (Text text) = has_nul text ≡ false
IsPlain (Aligned n) = Unit {0}

abbrev pub ArePlain : List Value → Type 0
ArePlain values = AllByRecursion IsPlain values

-- a writer has written values; there is none any more where it wanted memory, or where it would have written too much
abbrev pub IsPut : List Value → Option Writing → Option Writing → Type 0
IsPut values old None = Unit {0}
IsPut values None (Some w) = ⊥
IsPut values (Some v) (Some w) = (w ≡ with_values v values) × ArePlain values

-- values were put into a sink
pub record HasPut (values : List Value) (old new : Sink) : Type 0 where
  pub end : new.end ≡ end_of old.end values
  pub written : IsPut values old.writer new.writer

-- a call put values into a sink, or answered what refuses them
pub record Puts (values : List Value) (refusal : Option FrameFault) (result : Result (Unit {0}) FrameFault)
    (old new : Sink) : Type 0 where
  pub put : OnOk result (HasPut values old new)
  pub passes : OnOk result (refusal ≡ None)
  pub refused : IfErr result (λ fault. refusal ≡ Some fault)
