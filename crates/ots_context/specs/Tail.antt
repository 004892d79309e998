-- The any at the end of a context (Transaction Service 1.4, struct PropagationContext: implementation_specific_data).
-- It is not read: it is what stands behind the other fields. Of a tail that isn't null its byte order and its offset
-- modulo 8 are kept, since its octets mean the same nowhere else (our profile).
use Rattle.std.specs.Prelude.{◌≡◌, ℕ, ◌%◌, ◌==◌, Bool, true, false, ◌&&◌, not, List, [], length, Result, Ok, Err, if◌then◌else◌}
use Rattle.cdr_values.specs.declared.order.Order.{Order}
use Rattle.cdr_values.specs.declared.order.Order.TheVariants.{Big, Little}
use Rattle.cdr_values.specs.declared.fault.CdrFault.{CdrFault}
use Rattle.cdr_values.specs.Again.{standing}
use Rattle.cdr_values.specs.Reading.{Reading, Reads, ulong_at}
use Rattle.cdr_values.specs.Value.{ULong, canonical}
use Rattle.ots_context.specs.declared.context.AnyTail.{AnyTail}
use Rattle.ots_context.specs.declared.context.AnyTail.TheVariants.{Null, Kept}

-- what is left is the any without a value: its TypeCode tk_null, the unsigned long 0, and nothing behind it
pub record IsNull (r : Reading) : Type 0 where
  pub behind : Reading
  pub zero : Reads r (ULong 0) behind
  pub nothing : behind.rest ≡ []

-- the tail is what is left
abbrev pub IsTail : AnyTail → Reading → Type 0
IsTail Null r = IsNull r
IsTail (Kept order modulo octets) r =
    (order ≡ r.order) × (modulo ≡ r.place % 8) × (octets ≡ r.rest) × ¬ (IsNull r)

-- an unsigned long that was read is 0, and nothing stands behind it
abbrev pub is_zero : Result (ℕ × Reading) CdrFault → Bool
is_zero (Ok found) = (found.0 == 0) && (length found.1.rest == 0)
is_zero (Err fault) = false

-- the same by reading
unfoldable pub reads_null : Reading → Bool
reads_null r = is_zero (ulong_at r)

unfoldable pub tail_at : Reading → AnyTail
tail_at r = if reads_null r then Null else Kept r.order (r.place % 8) r.rest

abbrev pub is_big : Order → Bool
is_big Big = true
is_big Little = false

-- the octets of a tail that is written at this offset
abbrev pub octets_of_tail : ℕ → AnyTail → List ℕ
octets_of_tail place Null = canonical Big place (ULong 0)
octets_of_tail place (Kept order modulo octets) = octets

-- a tail can stand there: it is big endian, it stood at the same offset modulo 8, and it would not be read there as null
abbrev pub can_stand : ℕ → AnyTail → Bool
can_stand place Null = true
can_stand place (Kept order modulo octets) =
    is_big order && ((modulo == place % 8) && not (reads_null (standing Big place octets)))
