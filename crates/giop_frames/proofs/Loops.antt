-- A fault of a step is the fault of the whole.
use Rattle.std.proofs.Common.{◌≡◌, Result, Ok, Err, refl, ap}
use Rattle.std.specs.Prelude.{IfErr}
use Rattle.cdr_values.specs.Reading.{◌>>=◌}
use Rattle.giop_frames.specs.declared.fault.FrameFault.{FrameFault}
use Rattle.giop_frames.specs.declared.fault.FrameFault.TheVariants as faults
use Rattle.giop_frames.specs.Fault.{Fails}
use Rattle.giop_frames.proofs.Given.{err_is, failed}

-- a fault of a step is the fault of the whole
pub fails_on : {X Y : Type 0} (fault : FrameFault) (step : Result X FrameFault) (whole : Result Y FrameFault) → (step ≡ Err fault → whole ≡ Err fault) → Fails fault step → Fails fault whole
fails_on faults.BadMagic step whole on h = on h
fails_on faults.BadVersion step whole on h = on h
fails_on faults.BadType step whole on h = on h
fails_on (faults.TooLarge n) step whole on h = on h
fails_on faults.BadFragment step whole on h = on h
fails_on (faults.Body place cdr) step whole on h = on h
fails_on faults.Short step whole on h = on h
fails_on faults.NotWritten step whole on h = on h
fails_on faults.Memory step whole on h = tt

-- what answers a fault fails with it
pub fails_from : {X : Type 0} (fault : FrameFault) (read : Result X FrameFault) → read ≡ Err fault → Fails fault read
fails_from faults.BadMagic read e = e
fails_from faults.BadVersion read e = e
fails_from faults.BadType read e = e
fails_from (faults.TooLarge n) read e = e
fails_from faults.BadFragment read e = e
fails_from (faults.Body place cdr) read e = e
fails_from faults.Short read e = e
fails_from faults.NotWritten read e = e
fails_from faults.Memory read e = tt

-- ---- a fault that reading finds is told

pub told_from : (X : Type 0) {Y : Type 0} (fault : FrameFault) (read : Result Y FrameFault) → read ≡ Err fault → IfErr read (λ found. failed {A = X} fault ≡ failed found)
told_from X fault read e = rw e refl

pub told_ok : {X Y : Type 0} (read : Result Y FrameFault) (y : Y) (result : Result X FrameFault) → read ≡ Ok y → IfErr read (λ found. result ≡ failed found)
told_ok read y result e = rw e tt

told_alike : (X Y : Type 0) {Z : Type 0} (fault : FrameFault) (read : Result Z FrameFault) → IfErr read (λ found. failed {A = X} fault ≡ failed found) → IfErr read (λ found. failed {A = Y} fault ≡ failed found)
told_alike X Y fault (Ok z) told = tt
told_alike X Y fault (Err found) told = ap (λ (d : FrameFault). Err d) (err_is {A = X} fault found told)

-- by a call, of what reading gives in other words
pub told_on : (X Y : Type 0) {Z : Type 0} (fault : FrameFault) (step whole : Result Z FrameFault) → whole ≡ step → IfErr step (λ found. failed {A = X} fault ≡ failed found) → IfErr whole (λ found. failed {A = Y} fault ≡ failed found)
told_on X Y fault step whole same told = rw same (told_alike X Y fault step told)

-- by a call that makes something of what a step gave
pub told_behind : (X Y : Type 0) {Z W : Type 0} (fault : FrameFault) (step : Result Z FrameFault) (make : Z → W) (whole : Result W FrameFault) → whole ≡ (step >>= λ z. Ok (make z)) → IfErr step (λ found. failed {A = X} fault ≡ failed found)
    → IfErr whole (λ found. failed {A = Y} fault ≡ failed found)
told_behind X Y fault (Ok z) make whole same told = rw same tt
told_behind X Y fault (Err found) make whole same told = rw same (ap (λ (d : FrameFault). Err d) (err_is {A = X} fault found told))
