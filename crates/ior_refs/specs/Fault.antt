-- Faults of values as faults of references (our profile). Want of memory comes in place of any answer of a call that
-- takes some.
use Rattle.std.specs.Prelude.{◌≡◌, ℕ, Result, Ok, Err}
use Rattle.cdr_values.specs.declared.fault.CdrFault.{CdrFault}
use Rattle.cdr_values.specs.declared.fault.CdrFault.TheVariants as cdr
use Rattle.cdr_values.specs.Reading.{Reading}
use Rattle.ior_refs.specs.declared.fault.IorFault.{IorFault}
use Rattle.ior_refs.specs.declared.fault.IorFault.TheVariants.{Cdr, TooLong, Memory}

-- the fault of a value, at its place
abbrev pub fault_of : CdrFault → IorFault
fault_of (cdr.Short place) = Cdr (cdr.Short place)
fault_of (cdr.BadBoolean place) = Cdr (cdr.BadBoolean place)
fault_of (cdr.BadString place) = Cdr (cdr.BadString place)
fault_of (cdr.BadOrder place) = Cdr (cdr.BadOrder place)
fault_of (cdr.TooLong place length) = Cdr (cdr.TooLong place length)
fault_of cdr.Memory = Memory

-- a count of profiles or components is above its limit
abbrev pub too_many : ℕ → ℕ → IorFault
too_many place count = Cdr (cdr.TooLong place count)

-- why the reference that begins at this place is not kept, where the writer of its canonical octets stopped
abbrev pub stopped_as : ℕ → CdrFault → IorFault
stopped_as place cdr.Memory = Memory
stopped_as place _ = TooLong place

-- a call answered this fault where reading gives it, or for want of memory
abbrev pub Fails : {Y : Type 0} → IorFault → Result Y IorFault → Type 0
Fails Memory read = Unit {0}
Fails fault read = read ≡ Err fault

-- a call answered what reading gives, or wanted memory
abbrev pub Finds : {X Y : Type 0} → (X → Y) → Result X IorFault → Result Y IorFault → Type 0
Finds view (Ok x) read = read ≡ Ok (view x)
Finds view (Err fault) read = Fails fault read

-- the same for a call that goes on behind what it read
abbrev pub Gives : {X Y : Type 0} → (X → Y) → Result X IorFault → Reading
    → Result (Y × Reading) IorFault → Type 0
Gives view (Ok x) new read = read ≡ Ok (view x, new)
Gives view (Err fault) new read = Fails fault read
