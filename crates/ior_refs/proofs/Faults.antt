-- Faults of steps as faults of the whole.
use Rattle.std.proofs.Common.{◌≡◌, ◌⊎◌, inl, inr, refl, Result, Err}
use Rattle.ior_refs.specs.declared.fault.IorFault.{IorFault}
use Rattle.ior_refs.specs.declared.fault.IorFault.TheVariants.{BadText, Cdr, TooLong, NoIiop, Rest, Memory}
use Rattle.ior_refs.specs.Fault.{Fails}

-- a fault of a step is the fault of the whole
pub fails_on : {X Y : Type 0} (fault : IorFault) (step : Result X IorFault) (whole : Result Y IorFault) → (step ≡ Err fault → whole ≡ Err fault) → Fails fault step → Fails fault whole
fails_on (BadText n) step whole on h = on h
fails_on (Cdr f) step whole on h = on h
fails_on (TooLong n) step whole on h = on h
fails_on NoIiop step whole on h = on h
fails_on (Rest n) step whole on h = on h
fails_on Memory step whole on h = tt

-- what answers a fault fails with it
pub fails_from : {X : Type 0} (fault : IorFault) (read : Result X IorFault) → read ≡ Err fault → Fails fault read
fails_from (BadText n) read e = e
fails_from (Cdr f) read e = e
fails_from (TooLong n) read e = e
fails_from NoIiop read e = e
fails_from (Rest n) read e = e
fails_from Memory read e = tt

-- what fails with a fault answers it, or memory ran out
pub fails_is : {X : Type 0} (fault : IorFault) (read : Result X IorFault) → Fails fault read → (fault ≡ Memory) ⊎ (read ≡ Err fault)
fails_is (BadText n) read h = inr h
fails_is (Cdr f) read h = inr h
fails_is (TooLong n) read h = inr h
fails_is NoIiop read h = inr h
fails_is (Rest n) read h = inr h
fails_is Memory read h = inl refl
