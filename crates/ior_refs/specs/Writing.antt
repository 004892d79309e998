-- Writing a reference, which is several values (our profile).
use Rattle.std.specs.Prelude.{◌≡◌, ◌⊎◌, List, Some, None, Result, Ok, Err, IfErr, OnErr, OnOk}
use Rattle.cdr_values.specs.declared.fault.CdrFault.{CdrFault}
use Rattle.cdr_values.specs.declared.fault.CdrFault.TheVariants.{Memory}
use Rattle.cdr_values.specs.Value.{Value}
use Rattle.cdr_values.specs.Values.{refusal_of_all, with_values}
use Rattle.cdr_values.specs.Writing.{Writing}

-- a writer has written the values, and refuses none of them
pub record HasWritten (values : List Value) (old new : Writing) : Type 0 where
  pub stands : new ≡ with_values old values
  pub fits : refusal_of_all old values ≡ None

-- a writer has written some values and goes no further: by this fault it refuses the values, or memory ran out
pub record StopsIn (values : List Value) (fault : CdrFault) (old new : Writing) : Type 0 where
  pub written : List Value
  pub stands : new ≡ with_values old written
  pub cause : (fault ≡ Memory) ⊎ (refusal_of_all old values ≡ Some fault)

-- a call wrote the values, or stopped in them
abbrev pub WritesAll : List Value → Result (Unit {0}) CdrFault → Writing → Writing → Type 0
WritesAll values (Ok nothing) old new = HasWritten values old new
WritesAll values (Err fault) old new = StopsIn values fault old new

-- a call wrote the values, or answered why the first that is refused isn't written, or for want of memory; then the
-- writer is as it was
pub record WritesWhole (values : List Value) (result : Result (Unit {0}) CdrFault) (old new : Writing) : Type 0 where
  pub ok : OnOk result (new ≡ with_values old values)
  pub fits : OnOk result (refusal_of_all old values ≡ None)
  pub refused : IfErr result (λ fault. (fault ≡ Memory) ⊎ (refusal_of_all old values ≡ Some fault))
  pub err : OnErr result (new ≡ old)
