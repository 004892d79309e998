-- Reading values from the front (CORBA, CDR Transfer Syntax), and the fault of what no value spells (our profile).
use Rattle.std.specs.Prelude.{◌≡◌, ℕ, ◌+◌, ◌-◌, ◌==◌, Bool, ◌&&◌, not, nat_lt, List, ◌++◌, length, take, drop, slice_index, Result, Ok, Err, IfOk, IsOkAnd, if◌then◌else◌}
use Rattle.cdr_values.specs.declared.order.Order.{Order}
use Rattle.cdr_values.specs.declared.fault.CdrFault.{CdrFault}
use Rattle.cdr_values.specs.declared.fault.CdrFault.TheVariants.{Short, BadBoolean, BadString, TooLong}
use Rattle.cdr_values.specs.Limits.{length_limit}
use Rattle.cdr_values.specs.Value.{Value, Spells, gap, number_in, has_nul}

-- where a reader stands: its offset, and the octets from there on
pub record Reading : Type 0 where
  pub order : Order
  pub place : ℕ
  pub rest : List ℕ

-- so many octets further on
abbrev pub further : Reading → ℕ → Reading
further r n = record r { place = r.place + n; rest = drop n r.rest }

-- the value's octets stand at the place, and the reader then stands behind them
pub record Reads (old : Reading) (value : Value) (new : Reading) : Type 0 where
  pub octets : List ℕ
  pub spelled : Spells old.order old.place value octets
  pub front : old.rest ≡ octets ++ new.rest
  pub place : new.place ≡ old.place + length octets
  pub order : new.order ≡ old.order

infixl 10 ◌>>=◌
abbrev pub ◌>>=◌ : {F A B : Type 0} → Result A F → (A → Result B F) → Result B F
(Ok x) >>= f = f x
(Err e) >>= f = Err e

-- a call answered what a read gives, and left the reader behind the value, or as it was
abbrev pub Gives : {F X Y : Type 0} → (X → Y) → Result X F → Reading → Reading → Result (Y × Reading) F → Type 0
Gives view (Ok x) new old read = read ≡ Ok (view x, new)
Gives view (Err fault) new old read = (read ≡ Err fault) × (new ≡ old)

-- a call gave a value of this kind, as this read does: what it found stands at the place, and whichever stands there it
-- found
pub record GivesValue {F X Y : Type 0} (value : Y → Value) (read : Reading → Result (Y × Reading) F) (view : X → Y)
    (result : Result X F) (old new : Reading) : Type 0 where
  pub found : IfOk result (λ x. Reads old (value (view x)) new)
  pub only : (y : Y) (behind : Reading) → Reads old (value y) behind → IsOkAnd result (λ x. view x ≡ y) × (new ≡ behind)
  pub exact : Gives view result new old (read old)

-- a call found what reading gives
abbrev pub Finds : {F X Y : Type 0} → (X → Y) → Result X F → Result Y F → Type 0
Finds view (Ok x) read = read ≡ Ok (view x)
Finds view (Err fault) read = read ≡ Err fault

-- n octets behind padding to a multiple of n
unfoldable pub sized_at : ℕ → Reading → Result (List ℕ × Reading) CdrFault
sized_at n r =
    if nat_lt (length r.rest) (gap n r.place + n) then Err (Short r.place) else
    Ok (take n (drop (gap n r.place) r.rest), further r (gap n r.place + n))

unfoldable pub octet_at : Reading → Result (ℕ × Reading) CdrFault
octet_at r = do
  octets ← sized_at 1 r
  Ok (slice_index octets.0 0, octets.1)

unfoldable pub boolean_at : Reading → Result (Bool × Reading) CdrFault
boolean_at r = do
  octet ← octet_at r
  if nat_lt 1 octet.0 then Err (BadBoolean r.place) else Ok (octet.0 == 1, octet.1)

unfoldable pub number_at : ℕ → Reading → Result (ℕ × Reading) CdrFault
number_at n r = do
  octets ← sized_at n r
  Ok (number_in r.order n octets.0, octets.1)

abbrev pub ushort_at : Reading → Result (ℕ × Reading) CdrFault
ushort_at r = number_at 2 r

abbrev pub ulong_at : Reading → Result (ℕ × Reading) CdrFault
ulong_at r = number_at 4 r

abbrev pub ulonglong_at : Reading → Result (ℕ × Reading) CdrFault
ulonglong_at r = number_at 8 r

-- a length above the limit is refused before the octets are counted
unfoldable pub octets_at : Reading → Result (List ℕ × Reading) CdrFault
octets_at r = do
  count ← ulong_at r
  if nat_lt length_limit count.0 then Err (TooLong r.place count.0) else (
      if nat_lt (length count.1.rest) count.0 then Err (Short r.place) else
      Ok (take count.0 count.1.rest, further count.1 count.0))

-- a string's octets but the last, which is its NUL
abbrev pub text_in : List ℕ → List ℕ
text_in octets = take (length octets - 1) octets

-- a text, and one NUL behind it
abbrev pub is_string : List ℕ → Bool
is_string octets =
    nat_lt 0 (length octets) && (slice_index octets (length octets - 1) == 0) && not (has_nul (text_in octets))

unfoldable pub string_at : Reading → Result (List ℕ × Reading) CdrFault
string_at r = do
  counted ← octets_at r
  if is_string counted.0 then Ok (text_in counted.0, counted.1) else Err (BadString r.place)

-- up to the next multiple of n
unfoldable pub aligned_at : ℕ → Reading → Result (Unit {0} × Reading) CdrFault
aligned_at n r =
    if nat_lt (length r.rest) (gap n r.place) then Err (Short r.place) else Ok (tt, further r (gap n r.place))
