-- From a result, or a fault, to the results and faults of its steps.
use Rattle.std.proofs.Common.{◌≡◌, ℕ, ◌<◌, ◌≤◌, ◌⊎◌, inl, inr, Bool, true, false, cond, Some, None, Result, Ok, Err, refl, ap, arith}
use Rattle.cdr_values.specs.Reading.{◌>>=◌}
use Rattle.giop_frames.specs.declared.fault.FrameFault.{FrameFault}
use Rattle.giop_frames.specs.declared.fault.FrameFault.TheVariants as faults
use Rattle.giop_frames.specs.Fault.{Fails}

-- a result that did not fail
abbrev done : {A : Type 0} → A → Result A FrameFault
done x = Ok x

-- a result that failed
abbrev failed : {A : Type 0} → FrameFault → Result A FrameFault
failed fault = Err fault

-- results that fail alike have one fault
pub err_is : {A : Type 0} (d fault : FrameFault) → failed {A = A} d ≡ failed fault → d ≡ fault
err_is d fault e = cc

-- a result either failed or did not
pub not_failed : {A : Type 0} (x : A) (fault : FrameFault) → done x ≡ failed fault → ⊥
not_failed x fault e = cc

pub not_done : {A : Type 0} (x : A) (fault : FrameFault) → failed fault ≡ done x → ⊥
not_done x fault e = cc

-- what is there is not nothing
pub not_none : {A : Type 0} (x : A) → done (Some x) ≡ done None → ⊥
not_none x e = cc

-- results that are equal hold equal values
pub ok_is : {A : Type 0} (x y : A) → done x ≡ done y → x ≡ y
ok_is x y e = cc

-- the value of a step that did not fail, and of a test
pub bind_ok : {A B : Type 0} (step : Result A FrameFault) (next : A → Result B FrameFault) (y : B) → (step >>= next) ≡ Ok y → (x : A) × (step ≡ Ok x) × (next x ≡ Ok y)
bind_ok (Ok x) next y e = (x, refl, e)
bind_ok (Err d) next y e = absurd cc

pub guard_ok : {A : Type 0} (b : Bool) (d : FrameFault) (r : Result A FrameFault) (y : A) → cond b (Err d) r ≡ Ok y → (b ≡ false) × (r ≡ Ok y)
guard_ok true d r y e = absurd cc
guard_ok false d r y e = (refl, e)

-- a step that failed, or what followed it; the same of a test
pub bind_err : {A B : Type 0} (step : Result A FrameFault) (next : A → Result B FrameFault) (fault : FrameFault) → (step >>= next) ≡ Err fault → (step ≡ Err fault) ⊎ ((x : A) × (step ≡ Ok x) × (next x ≡ Err fault))
bind_err (Ok x) next fault e = inr (x, refl, e)
bind_err {A} {B} (Err d) next fault e = inl (ap (failed {A = A}) (err_is {A = B} d fault e))

pub guard_err : {A : Type 0} (b : Bool) (d : FrameFault) (r : Result A FrameFault) (fault : FrameFault) → cond b (Err d) r ≡ Err fault → ((b ≡ true) × (d ≡ fault)) ⊎ ((b ≡ false) × (r ≡ Err fault))
guard_err {A} true d r fault e = inl (refl, err_is {A = A} d fault e)
guard_err false d r fault e = inr (refl, e)

-- a call that fails with what a step answers fails with what the whole answers
pub fails_on : {X Y : Type 0} (fault : FrameFault) (step : Result X FrameFault) (whole : Result Y FrameFault) → (step ≡ Err fault → whole ≡ Err fault) → Fails fault step → Fails fault whole
fails_on faults.Memory step whole on fails = tt
fails_on faults.Short step whole on fails = on fails
fails_on faults.BadMagic step whole on fails = on fails
fails_on faults.BadVersion step whole on fails = on fails
fails_on faults.BadType step whole on fails = on fails
fails_on faults.BadFragment step whole on fails = on fails
fails_on faults.NotWritten step whole on fails = on fails
fails_on (faults.TooLarge n) step whole on fails = on fails
fails_on (faults.Body place cdr) step whole on fails = on fails

pub fails_from : {X : Type 0} (fault : FrameFault) (whole : Result X FrameFault) → whole ≡ Err fault → Fails fault whole
fails_from faults.Memory whole e = tt
fails_from faults.Short whole e = e
fails_from faults.BadMagic whole e = e
fails_from faults.BadVersion whole e = e
fails_from faults.BadType whole e = e
fails_from faults.BadFragment whole e = e
fails_from faults.NotWritten whole e = e
fails_from (faults.TooLarge n) whole e = e
fails_from (faults.Body place cdr) whole e = e

-- less than what is no more
pub less_than : (a b c : ℕ) → a < b → b ≤ c → a < c
less_than a b c p q = omega (arith, p, q)

pub no_more_than : (a b c : ℕ) → a < b → b ≤ c → a ≤ c
no_more_than a b c p q = omega (arith, p, q)
