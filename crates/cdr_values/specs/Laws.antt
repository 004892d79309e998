-- What reading, writing and spelling have to do with each other (CORBA, CDR Transfer Syntax).
use Rattle.std.specs.Prelude.{◌≡◌, ℕ, List, ◌++◌, Result, Ok}
use Rattle.cdr_values.specs.declared.order.Order.{Order}
use Rattle.cdr_values.specs.declared.fault.CdrFault.{CdrFault}
use Rattle.cdr_values.specs.Value.{Value, Octet, Boolean, UShort, ULong, ULongLong, OctetSequence, Text, Aligned, Spells, Fits, canonical}
use Rattle.cdr_values.specs.Alike.{AreAlike}
use Rattle.cdr_values.specs.Reading.{Reading, Reads, octet_at, boolean_at, ushort_at, ulong_at, ulonglong_at, octets_at, string_at, aligned_at}

-- the canonical spelling is a spelling
abbrev pub CanonicalSpells : Type 0
CanonicalSpells =
    (order : Order) (at : ℕ) (value : Value) → Fits value → Spells order at value (canonical order at value)

-- at one place and in one order, no spelling of a value begins a spelling of another value of that type
abbrev pub NoSpellingBeginsAnother : Type 0
NoSpellingBeginsAnother =
    (order : Order) (at : ℕ) (one other : Value) (a b x y : List ℕ) → AreAlike one other
    → Spells order at one a → Spells order at other b → a ++ x ≡ b ++ y → (a ≡ b) × (one ≡ other)

-- this reading gives a value exactly where octets spell it
pub record ReadsExactly {A : Type 0} (read : Reading → Result (A × Reading) CdrFault) (value : A → Value) : Type 0 where
  pub found : (r : Reading) (x : A) (behind : Reading) → read r ≡ Ok (x, behind) → Reads r (value x) behind
  pub only : (r : Reading) (x : A) (behind : Reading) → Reads r (value x) behind → read r ≡ Ok (x, behind)

-- each read gives a value exactly where octets spell it
pub record ReadingLaws : Type 0 where
  pub octet : ReadsExactly octet_at Octet
  pub boolean : ReadsExactly boolean_at Boolean
  pub ushort : ReadsExactly ushort_at UShort
  pub ulong : ReadsExactly ulong_at ULong
  pub ulonglong : ReadsExactly ulonglong_at ULongLong
  pub octets : ReadsExactly octets_at OctetSequence
  pub string : ReadsExactly string_at Text
  pub aligned : (n : ℕ) → ReadsExactly (aligned_at n) (λ nothing. Aligned n)
