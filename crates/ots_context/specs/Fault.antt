-- Faults of values and of references as faults of contexts (our profile). Want of memory comes in place of any answer of
-- a call that takes some.
use Rattle.std.specs.Prelude.{◌≡◌, ℕ, Result, Ok, Err}
use Rattle.cdr_values.specs.declared.fault.CdrFault.{CdrFault}
use Rattle.cdr_values.specs.declared.fault.CdrFault.TheVariants as cdr
use Rattle.cdr_values.specs.Reading.{Reading}
use Rattle.ior_refs.specs.declared.fault.IorFault.{IorFault}
use Rattle.ior_refs.specs.declared.fault.IorFault.TheVariants as ior
use Rattle.ots_context.specs.declared.fault.ContextFault.{ContextFault}
use Rattle.ots_context.specs.declared.fault.ContextFault.TheVariants.{Cdr, Ior, TooMany, Memory}

-- the fault of a value, at its place
abbrev pub fault_of : CdrFault → ContextFault
fault_of (cdr.Short place) = Cdr (cdr.Short place)
fault_of (cdr.BadBoolean place) = Cdr (cdr.BadBoolean place)
fault_of (cdr.BadString place) = Cdr (cdr.BadString place)
fault_of (cdr.BadOrder place) = Cdr (cdr.BadOrder place)
fault_of (cdr.TooLong place length) = Cdr (cdr.TooLong place length)
fault_of cdr.Memory = Memory

-- the fault of a reference
abbrev pub fault_of_reference : IorFault → ContextFault
fault_of_reference (ior.BadText place) = Ior (ior.BadText place)
fault_of_reference (ior.Cdr fault) = Ior (ior.Cdr fault)
fault_of_reference (ior.TooLong place) = Ior (ior.TooLong place)
fault_of_reference ior.NoIiop = Ior ior.NoIiop
fault_of_reference (ior.Rest place) = Ior (ior.Rest place)
fault_of_reference ior.Memory = Memory

-- a reference's fault is the context's
abbrev pub of_reference : {A : Type 0} → Result A IorFault → Result A ContextFault
of_reference (Ok x) = Ok x
of_reference (Err fault) = Err (fault_of_reference fault)

-- there are more parents than the limit, which their count at this place tells
abbrev pub too_many : ℕ → ℕ → ContextFault
too_many place count = TooMany place

-- a call answered this fault where reading gives it, or for want of memory
abbrev pub Fails : {Y : Type 0} → ContextFault → Result Y ContextFault → Type 0
Fails Memory read = Unit {0}
Fails fault read = read ≡ Err fault

-- a call answered what reading gives, or wanted memory
abbrev pub Finds : {X Y : Type 0} → (X → Y) → Result X ContextFault → Result Y ContextFault → Type 0
Finds view (Ok x) read = read ≡ Ok (view x)
Finds view (Err fault) read = Fails fault read

-- the same for a call that goes on behind what it read
abbrev pub Gives : {X Y : Type 0} → (X → Y) → Result X ContextFault → Reading
    → Result (Y × Reading) ContextFault → Type 0
Gives view (Ok x) new read = read ≡ Ok (view x, new)
Gives view (Err fault) new read = Fails fault read
