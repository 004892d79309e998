-- From a result to the results of its steps.
use Rattle.std.proofs.Common.{◌≡◌, ℕ, Bool, true, false, cond, List, Result, Ok, Err, refl, sym, ap, ◌∙◌, ◌⊎◌, inl, inr}
use Rattle.cdr_values.specs.declared.order.Order.{Order}
use Rattle.cdr_values.specs.declared.fault.CdrFault.{CdrFault}
use Rattle.cdr_values.specs.Reading.{Reading, ◌>>=◌}
use Rattle.giop_frames.specs.declared.fault.FrameFault.{FrameFault}
use Rattle.giop_frames.specs.Fault.{field}

-- a result that did not fail
abbrev done : {A : Type 0} → A → Result A FrameFault
done x = Ok x

-- a result that failed
abbrev pub failed : {F A : Type 0} → F → Result A F
failed fault = Err fault

-- results that fail alike have one fault
pub err_is : {F A : Type 0} (d fault : F) → failed {A = A} d ≡ failed fault → d ≡ fault
err_is d fault e = cc

-- results that are equal hold equal values
pub ok_is : {A : Type 0} (x y : A) → done x ≡ done y → x ≡ y
ok_is x y e = cc

-- reads that are equal give equal values, and end at one place
pub read_is : {A : Type 0} (x : A) (s : Reading) (y : A) (t : Reading) → done {A = A × Reading} (x, s) ≡ done {A = A × Reading} (y, t) → (x ≡ y) × (s ≡ t) × (t ≡ s)
read_is {A} x s y t e =
    let p = ok_is {A = A × Reading} (x, s) (y, t) e in
    let q : s ≡ t = ap (λ (z : A × Reading). z.1) p in
    (ap (λ (z : A × Reading). z.0) p, q, sym q)

-- the value of a step that did not fail
pub bind_ok : {A B : Type 0} (r : Result A FrameFault) (f : A → Result B FrameFault) (y : B) → (r >>= f) ≡ Ok y → (x : A) × (r ≡ Ok x) × (f x ≡ Ok y)
bind_ok (Ok x) f y e = (x, refl, e)
bind_ok (Err d) f y e = absurd cc

-- the value of a field that did not fail
pub field_ok : {A B : Type 0} (r : Result A CdrFault) (f : A → Result B FrameFault) (y : B) → (field r >>= f) ≡ Ok y → (x : A) × (r ≡ Ok x) × (f x ≡ Ok y)
field_ok (Ok x) f y e = (x, refl, e)
field_ok (Err d) f y e = absurd cc

-- a test that did not fail
pub guard_ok : {A : Type 0} (b : Bool) (d : FrameFault) (r : Result A FrameFault) (y : A) → cond b (Err d) r ≡ Ok y → (b ≡ false) × (r ≡ Ok y)
guard_ok true d r y e = absurd cc
guard_ok false d r y e = (refl, e)

-- the way that a test took
pub which : {A : Type 0} (b : Bool) (r s : Result A FrameFault) (y : A) → cond b r s ≡ Ok y → ((b ≡ true) × (r ≡ Ok y)) ⊎ ((b ≡ false) × (s ≡ Ok y))
which true r s y e = inl (refl, e)
which false r s y e = inr (refl, e)

-- a reading with this order, place and rest
abbrev reading : Order → ℕ → List ℕ → Reading
reading order place rest = record { order = order; place = place; rest = rest }

-- a reading is its order, its place and its octets
pub reading_is : (r s : Reading) → r.order ≡ s.order → r.place ≡ s.place → r.rest ≡ s.rest → r ≡ s
reading_is r s o p t = ap (λ (x : Order). reading x r.place r.rest) o ∙ ap (λ (x : ℕ). reading s.order x r.rest) p ∙ ap (reading s.order s.place) t
