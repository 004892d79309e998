-- Results of steps, and values one after another.
use Rattle.std.proofs.Common.{◌≡◌, Bool, true, false, cond, List, [], ◌∷◌, ◌++◌, refl, subst, Result, Ok, Err}
use Rattle.cdr_values.specs.Value.{Value}
use Rattle.cdr_values.specs.Again.{AllFit}
use Rattle.cdr_values.specs.Reading.{Reading, ◌>>=◌}
use Rattle.cdr_values.specs.Values.{ReadsAll, with_values}
use Rattle.cdr_values.specs.Writing.{Writing, with_value}

-- a result that holds a value
abbrev done : {F A : Type 0} → A → Result A F
done x = Ok x

-- results that are equal hold equal values
pub ok_is : {F A : Type 0} (x y : A) → done {F = F} x ≡ done y → x ≡ y
ok_is x y e = cc

-- the value of a step that did not fail
pub bind_ok : {F A B : Type 0} (r : Result A F) (f : A → Result B F) (y : B) → (r >>= f) ≡ Ok y → (x : A) × (r ≡ Ok x) × (f x ≡ Ok y)
bind_ok (Ok x) f y e = (x, refl, e)
bind_ok (Err d) f y e = absurd cc

-- a refusal that did not come
pub guard_ok : {F A : Type 0} (b : Bool) (d : F) (r : Result A F) (y : A) → cond b (Err d) r ≡ Ok y → (b ≡ false) × (r ≡ Ok y)
guard_ok true d r y e = absurd cc
guard_ok false d r y e = (refl, e)

-- a test that was passed
pub check_ok : {F A : Type 0} (b : Bool) (d : F) (r : Result A F) (y : A) → cond b r (Err d) ≡ Ok y → (b ≡ true) × (r ≡ Ok y)
check_ok true d r y e = (refl, e)
check_ok false d r y e = absurd cc

-- a reader goes over values and then over more values
pub reads_then : (us vs : List Value) (r middle behind : Reading) → ReadsAll r us middle → ReadsAll middle vs behind → ReadsAll r (us ++ vs) behind
reads_then [] vs r middle behind h k = subst (λ (s : Reading). ReadsAll s vs behind) h k
reads_then (u ∷ us) vs r middle behind h k = (h.0, h.1, reads_then us vs h.0 middle behind h.2 k)

-- where the reader stands between them
pub reads_apart : (us vs : List Value) (r behind : Reading) → ReadsAll r (us ++ vs) behind → (middle : Reading) × ReadsAll r us middle × ReadsAll middle vs behind
reads_apart [] vs r behind h = (r, refl, h)
reads_apart (u ∷ us) vs r behind h =
    let p = reads_apart us vs h.0 behind h.2 in
    (p.0, (h.0, h.1, p.1), p.2)

-- values behind others
pub with_values-append : (w : Writing) (xs ys : List Value) → with_values w (xs ++ ys) ≡ with_values (with_values w xs) ys
with_values-append w [] ys = refl
with_values-append w (x ∷ xs) ys = with_values-append (with_value w x) xs ys

-- values that fit, and others
pub fit-append : (xs ys : List Value) → AllFit xs → AllFit ys → AllFit (xs ++ ys)
fit-append [] ys p q = q
fit-append (x ∷ xs) ys p q = (p.0, fit-append xs ys p.1 q)
