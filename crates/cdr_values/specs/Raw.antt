-- Octets written as they stand (our profile).
use Rattle.std.specs.Prelude.{◌≡◌, ℕ, ◌⊎◌, List, Result, Err, Some, None, IfErr, IfSome, OnErr, OnOk}
use Rattle.cdr_values.specs.declared.fault.CdrFault.{CdrFault}
use Rattle.cdr_values.specs.declared.fault.CdrFault.TheVariants.{Memory}
use Rattle.cdr_values.specs.Writing.{Writing, no_room, with_octets}

-- a call wrote the octets as they stand, or answered that there is no room, or for want of memory; then the writer is
-- as it was. That there is no room is told, never want of memory.
pub record WritesOctets (octets : List ℕ) (result : Result (Unit {0}) CdrFault) (old new : Writing) : Type 0 where
  pub ok : OnOk result (new ≡ with_octets old octets)
  pub fits : OnOk result (no_room old octets ≡ None)
  pub refused : IfErr result (λ fault. (fault ≡ Memory) ⊎ (no_room old octets ≡ Some fault))
  pub told : IfSome (no_room old octets) (λ fault. result ≡ Err fault)
  pub err : OnErr result (new ≡ old)
