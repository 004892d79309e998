-- Faults of fields as faults of messages (our profile).
use Rattle.std.specs.Prelude.{◌≡◌, ◌⊎◌, ℕ, Result, Ok, Err, IfErr}
use Rattle.cdr_values.specs.declared.fault.CdrFault.{CdrFault}
use Rattle.cdr_values.specs.Reading.{Reading}
use Rattle.cdr_values.specs.declared.fault.CdrFault.TheVariants as cdr
use Rattle.cdr_values.specs.Sequence.{fault_as}
use Rattle.giop_frames.specs.declared.fault.FrameFault.{FrameFault}
use Rattle.giop_frames.specs.declared.fault.FrameFault.TheVariants.{Body, Memory}

-- the fault of a field, at its place
abbrev pub fault_of : CdrFault → FrameFault
fault_of (cdr.Short place) = Body place (cdr.Short place)
fault_of (cdr.BadBoolean place) = Body place (cdr.BadBoolean place)
fault_of (cdr.BadString place) = Body place (cdr.BadString place)
fault_of (cdr.BadOrder place) = Body place (cdr.BadOrder place)
fault_of (cdr.TooLong place length) = Body place (cdr.TooLong place length)
fault_of cdr.Memory = Memory

-- a limit of this profile is passed at the place
abbrev pub too_long : ℕ → ℕ → FrameFault
too_long place length = Body place (cdr.TooLong place length)

-- a field's fault is the message's
abbrev pub field : {A : Type 0} → Result A CdrFault → Result A FrameFault
field read = fault_as fault_of read

-- a fault that a call answers is want of memory, or one of these
abbrev pub IfRefused : {X : Type 0} → Result X FrameFault → (FrameFault → Type 0) → Type 0
IfRefused result Refuses = IfErr result (λ fault. (fault ≡ Memory) ⊎ Refuses fault)

-- a call answered this fault where reading gives it; want of memory comes in place of any answer
abbrev pub Fails : {Y : Type 0} → FrameFault → Result Y FrameFault → Type 0
Fails Memory read = Unit {0}
Fails fault read = read ≡ Err fault

-- a call answered what reading gives, or wanted memory
abbrev pub Finds : {X Y : Type 0} → (X → Y) → Result X FrameFault → Result Y FrameFault → Type 0
Finds view (Ok x) read = read ≡ Ok (view x)
Finds view (Err fault) read = Fails fault read

-- the same for a call that goes on behind what it read
abbrev pub Gives : {X Y : Type 0} → (X → Y) → Result X FrameFault → Reading
    → Result (Y × Reading) FrameFault → Type 0
Gives view (Ok x) new read = read ≡ Ok (view x, new)
Gives view (Err fault) new read = Fails fault read
