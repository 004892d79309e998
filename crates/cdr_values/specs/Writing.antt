-- Writing values at the end (CORBA, CDR Transfer Syntax), and what refuses them (our profile).
use Rattle.std.specs.Prelude.{◌≡◌, ℕ, ◌+◌, ◌-◌, ◌⊎◌, Bool, false, nat_lt, List, ◌++◌, length, take, Option, Some, None, Result, Err, IfErr, IfSome, OnErr, OnOk, if◌then◌else◌}
use Rattle.cdr_values.specs.declared.order.Order.{Order}
use Rattle.cdr_values.specs.declared.fault.CdrFault.{CdrFault}
use Rattle.cdr_values.specs.declared.fault.CdrFault.TheVariants.{BadString, TooLong, Memory}
use Rattle.cdr_values.specs.Limits.{output_limit}
use Rattle.cdr_values.specs.Value.{Value, Text, canonical, has_nul}

-- what a writer has written, from the offset at which it began
pub record Writing : Type 0 where
  pub order : Order
  pub start : ℕ
  pub octets : List ℕ

-- the offset at which a writer stands
abbrev pub place_of : Writing → ℕ
place_of w = w.start + length w.octets

-- with these octets at its end
abbrev pub with_octets : Writing → List ℕ → Writing
with_octets w octets = record w { octets = w.octets ++ octets }

-- with what it had written before this offset
abbrev pub written_before : ℕ → Writing → Writing
written_before place w = record w { octets = take (place - w.start) w.octets }

-- with one more value, in its canonical spelling
abbrev pub with_value : Writing → Value → Writing
with_value w value = with_octets w (canonical w.order (place_of w) value)

-- why octets are not written: with them there would be more than a writer writes
abbrev pub no_room : Writing → List ℕ → Option CdrFault
no_room w octets =
    if nat_lt output_limit (length (w.octets ++ octets)) then Some (TooLong (place_of w) (length (w.octets ++ octets)))
    else None

-- a text holds a NUL
abbrev pub is_bad : Value → Bool
is_bad (Text text) = has_nul text
is_bad _ = false

-- why a value is not written: its text holds a NUL, or there is no room for it
abbrev pub refusal : Writing → Value → Option CdrFault
refusal w value =
    if is_bad value then Some (BadString (place_of w)) else no_room w (canonical w.order (place_of w) value)

-- a call wrote the value, or answered why it isn't written, or for want of memory; then the writer is as it was. What
-- refuses the value is told, never want of memory.
pub record WritesValue (value : Value) (result : Result (Unit {0}) CdrFault) (old new : Writing) : Type 0 where
  pub ok : OnOk result (new ≡ with_value old value)
  pub fits : OnOk result (refusal old value ≡ None)
  pub refused : IfErr result (λ fault. (fault ≡ Memory) ⊎ (refusal old value ≡ Some fault))
  pub told : IfSome (refusal old value) (λ fault. result ≡ Err fault)
  pub err : OnErr result (new ≡ old)
