-- Faults of values, references and contexts as faults of calls: MARSHAL with the place (our profile). Want of memory
-- comes in place of any answer of a call that takes some.
use Rattle.std.specs.Prelude.{◌≡◌, Option, Some, None, Result, Ok, Err}
use Rattle.cdr_values.specs.declared.fault.CdrFault.{CdrFault}
use Rattle.cdr_values.specs.declared.fault.CdrFault.TheVariants as cdr
use Rattle.ior_refs.specs.declared.fault.IorFault.{IorFault}
use Rattle.ior_refs.specs.declared.fault.IorFault.TheVariants as ior
use Rattle.ots_context.specs.declared.fault.ContextFault.{ContextFault}
use Rattle.ots_context.specs.declared.fault.ContextFault.TheVariants as contexts
use Rattle.ots_calls.specs.declared.fault.CallFault.{CallFault}
use Rattle.ots_calls.specs.declared.fault.CallFault.TheVariants.{Marshal, Memory}

-- the fault of a value
abbrev pub fault_of : CdrFault → CallFault
fault_of (cdr.Short place) = Marshal place
fault_of (cdr.BadBoolean place) = Marshal place
fault_of (cdr.BadString place) = Marshal place
fault_of (cdr.BadOrder place) = Marshal place
fault_of (cdr.TooLong place length) = Marshal place
fault_of cdr.Memory = Memory

-- the fault of a reference
abbrev pub fault_of_reference : IorFault → CallFault
fault_of_reference (ior.Cdr fault) = fault_of fault
fault_of_reference (ior.BadText place) = Marshal place
fault_of_reference (ior.TooLong place) = Marshal place
fault_of_reference (ior.Rest place) = Marshal place
fault_of_reference ior.NoIiop = Marshal 0
fault_of_reference ior.Memory = Memory

-- the fault of a context. One that names no place is told with that of the context.
abbrev pub fault_of_context : ContextFault → CallFault
fault_of_context (contexts.Cdr fault) = fault_of fault
fault_of_context (contexts.Ior fault) = fault_of_reference fault
fault_of_context (contexts.TooMany place) = Marshal place
fault_of_context contexts.Otid = Marshal 0
fault_of_context contexts.TailPlace = Marshal 0
fault_of_context contexts.Memory = Memory

-- a result whose fault is told as another
abbrev pub told_as : {A F : Type 0} → (F → CallFault) → Result A F → Result A CallFault
told_as as_fault (Ok x) = Ok x
told_as as_fault (Err fault) = Err (as_fault fault)

-- what is there, or a refusal
abbrev pub or_refuse : {A : Type 0} → CallFault → Option A → Result A CallFault
or_refuse fault (Some x) = Ok x
or_refuse fault None = Err fault

-- a call answered this fault where reading gives it, or for want of memory
abbrev pub Fails : {Y : Type 0} → CallFault → Result Y CallFault → Type 0
Fails Memory read = Unit {0}
Fails fault read = read ≡ Err fault

-- a call answered what reading gives, or wanted memory
abbrev pub Finds : {X Y : Type 0} → (X → Y) → Result X CallFault → Result Y CallFault → Type 0
Finds view (Ok x) read = read ≡ Ok (view x)
Finds view (Err fault) read = Fails fault read
