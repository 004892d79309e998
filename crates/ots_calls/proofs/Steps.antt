-- Results of steps.
use Rattle.std.proofs.Common.{◌≡◌, Bool, true, false, cond, Option, Some, None, List, [], ◌∷◌, Result, Ok, Err, refl, subst, find}
use Rattle.cdr_values.specs.Reading.{◌>>=◌}
use Rattle.ots_calls.specs.Fault.{told_as, or_refuse}
use Rattle.ots_calls.specs.declared.fault.CallFault.{CallFault}

-- a result that holds a value
abbrev done : {F A : Type 0} → A → Result A F
done x = Ok x

-- results that are equal hold equal values
pub ok_is : {F A : Type 0} (x y : A) → done {F = F} x ≡ done y → x ≡ y
ok_is x y e = cc

-- the value of a step that did not fail
pub bind_ok : {F A B : Type 0} (r : Result A F) (f : A → Result B F) (y : B) → (r >>= f) ≡ Ok y → (x : A) × (r ≡ Ok x) × (f x ≡ Ok y)
bind_ok (Ok x) f y e = (x, refl, e)
bind_ok (Err d) f y e = absurd cc

-- a refusal that did not come
pub guard_ok : {F A : Type 0} (b : Bool) (d : F) (r : Result A F) (y : A) → cond b (Err d) r ≡ Ok y → (b ≡ false) × (r ≡ Ok y)
guard_ok true d r y e = absurd cc
guard_ok false d r y e = (refl, e)

-- a test that was passed
pub check_ok : {F A : Type 0} (b : Bool) (d : F) (r : Result A F) (y : A) → cond b r (Err d) ≡ Ok y → (b ≡ true) × (r ≡ Ok y)
check_ok true d r y e = (refl, e)
check_ok false d r y e = absurd cc

-- a step whose fault would be told as another
pub told_ok : {A F : Type 0} (as_fault : F → CallFault) (read : Result A F) (x : A) → told_as as_fault read ≡ Ok x → read ≡ Ok x
told_ok {F = F} as_fault (Ok y) x e = let same : y ≡ x = ok_is {F = CallFault} y x e in subst (λ z. done {F = F} y ≡ done z) same refl
told_ok as_fault (Err fault) x e = absurd cc

-- what is there
pub there_ok : {A : Type 0} (fault : CallFault) (x : Option A) (y : A) → or_refuse fault x ≡ Ok y → x ≡ Some y
there_ok fault (Some x) y e = let same : x ≡ y = ok_is {F = CallFault} x y e in subst (λ z. Some x ≡ Some z) same refl
there_ok fault None y e = absurd cc

-- what is found passed the test
found_at : {A : Type 0} (p : A → Bool) (x found : A) (xs : List A) (b : Bool) → p x ≡ b → (find p xs ≡ Some found → p found ≡ true) → cond b (Some x) (find p xs) ≡ Some found → p found ≡ true
found_at p x found xs true e more h =
    let same : x ≡ found = cc in
    subst (λ y. p y ≡ true) same e
found_at p x found xs false e more h = more h

pub found : {A : Type 0} (p : A → Bool) (xs : List A) (x : A) → find p xs ≡ Some x → p x ≡ true
found p [] x e = absurd cc
found p (y ∷ xs) x e = found_at p y x xs (p y) refl (found p xs x) e
