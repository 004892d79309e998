-- Values of one type (CORBA, CDR Transfer Syntax).
use Rattle.std.specs.Prelude.{◌≡◌, ℕ}
use Rattle.cdr_values.specs.Value.{Value, Octet, Boolean, UShort, ULong, ULongLong, OctetSequence, Text, Aligned}

-- the types of values
pub data Kind : Type 0 where
  OctetKind : Kind
  BooleanKind : Kind
  UShortKind : Kind
  ULongKind : Kind
  ULongLongKind : Kind
  OctetsKind : Kind
  TextKind : Kind
  AlignedKind : ℕ → Kind

abbrev pub kind_of : Value → Kind
kind_of (Octet n) = OctetKind
kind_of (Boolean b) = BooleanKind
kind_of (UShort n) = UShortKind
kind_of (ULong n) = ULongKind
kind_of (ULongLong n) = ULongLongKind
kind_of (OctetSequence octets) = OctetsKind
kind_of (Text text) = TextKind
kind_of (Aligned n) = AlignedKind n

-- both are of one type
abbrev pub AreAlike : Value → Value → Type 0
AreAlike one other = kind_of one ≡ kind_of other
