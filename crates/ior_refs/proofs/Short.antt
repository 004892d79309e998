-- The canonical octets of a reference, as a writer makes them.
use Rattle.std.proofs.Common.{◌≡◌, ℕ, ◌+◌, ◌<◌, ◌≤◌, ◌⊎◌, inl, inr, Bool, true, false, cond, ltb, Some, None, Option, List, [], ◌∷◌, ◌++◌, length, refl, sym, ap, subst, ◌∙◌, append_assoc, arith, length-append, Result, Ok, Err}
use Rattle.std.specs.Option.{option_or}
use Rattle.std.proofs.lemmas.List.{append-nil}
use Rattle.std.proofs.lemmas.Bool.{ltb-true, lt-ltb, le-ltb}
use Rattle.cdr_values.specs.declared.order.Order.{Order}
use Rattle.cdr_values.specs.declared.order.Order.TheVariants.{Big}
use Rattle.cdr_values.specs.declared.fault.CdrFault.{CdrFault}
use Rattle.cdr_values.specs.declared.fault.CdrFault.TheVariants as cdr
use Rattle.cdr_values.specs.Limits.{output_limit}
use Rattle.cdr_values.specs.Value.{Value, Octet, Boolean, UShort, ULong, ULongLong, OctetSequence, Text, Aligned, Fits, canonical}
use Rattle.cdr_values.specs.Again.{AllFit}
use Rattle.cdr_values.specs.Values.{canonical_all, refusal_of_all, with_values}
use Rattle.cdr_values.specs.Writing.{Writing, place_of, with_value, is_bad, refusal}
use Rattle.cdr_values.specs.Tagged.{reference_values}
use Rattle.ior_refs.specs.Reference.{Reference, canonical_octets}
use Rattle.ior_refs.specs.Reading.{if_short}
use Rattle.ior_refs.specs.Writing.{StopsIn, WritesAll}
use Rattle.ior_refs.specs.Fault.{Fails, stopped_as}
use Rattle.ior_refs.specs.declared.fault.IorFault.{IorFault}
use Rattle.ior_refs.specs.declared.fault.IorFault.TheVariants.{TooLong, Memory}

-- a writing with these octets
abbrev pub writing : Order → ℕ → List ℕ → Writing
writing order start octets = record { order = order; start = start; octets = octets }

-- the octets of the values stand behind those that were there
pub with_values-is : (w : Writing) (values : List Value) → with_values w values ≡ writing w.order w.start (w.octets ++ canonical_all w.order (place_of w) values)
with_values-is w [] = ap (writing w.order w.start) (sym (append-nil w.octets))
with_values-is w (x ∷ xs) =
    let one = canonical w.order (place_of w) x in
    let place : place_of (with_value w x) ≡ place_of w + length one = omega (arith, length-append w.octets one) in
    with_values-is (with_value w x) xs ∙ ap (writing w.order w.start) (ap (λ (k : ℕ). (w.octets ++ one) ++ canonical_all w.order k xs) place ∙ append_assoc w.octets one (canonical_all w.order (place_of w + length one) xs))

-- octets only come
pub grows : (w : Writing) (values : List Value) → length w.octets ≤ length (with_values w values).octets
grows w values =
    let size : length (with_values w values).octets ≡ length (w.octets ++ canonical_all w.order (place_of w) values) = ap (λ (x : Writing). length x.octets) (with_values-is w values) in
    omega (arith, size, length-append w.octets (canonical_all w.order (place_of w) values))

-- a writer of canonical octets, at its start
abbrev pub at_start : Writing
at_start = record { order = Big; start = 0; octets = [] }

-- what it has written in the end
pub written_is : (reference : Reference) (w : Writing) → w ≡ with_values at_start (reference_values reference) → w.octets ≡ canonical_octets reference
unfolding canonical_octets
written_is reference w e = ap (λ (x : Writing). x.octets) (e ∙ with_values-is at_start (reference_values reference))

-- a value that fits is no text with a NUL
good : (value : Value) → Fits value → is_bad value ≡ false
good (Octet n) h = refl
good (Boolean b) h = refl
good (UShort n) h = refl
good (ULong n) h = refl
good (ULongLong n) h = refl
good (OctetSequence octets) h = refl
good (Text text) h = h.1
good (Aligned n) h = refl

-- a test that passed
passed : (b : Bool) (x y : CdrFault) → cond b (Some x) None ≡ Some y → b ≡ true
passed true x y e = refl
passed false x y e = absurd cc

-- a writer that is full
pub full_if : (value : Value) (fault : CdrFault) (w : Writing) → is_bad value ≡ false → refusal w value ≡ Some fault → output_limit < length (with_value w value).octets
full_if value fault w plain refused =
    let n = length (with_value w value).octets in
    ltb-true _ _ (passed (ltb output_limit n) (cdr.TooLong (place_of w) n) fault (rw plain at refused))

full : (value : Value) (fault : CdrFault) (w : Writing) → Fits value → refusal w value ≡ Some fault → output_limit < length (with_value w value).octets
full value fault w fit refused = full_if value fault w (good value fit) refused

-- where values are refused, there are more octets than a writer writes
refused_full : (values : List Value) (fault : CdrFault) (w : Writing) → AllFit values → refusal_of_all w values ≡ Some fault → output_limit < length (with_values w values).octets
refused_full [] fault w fit e = absurd cc
refused_full (v ∷ vs) fault w fit e = by_first (refusal w v) v vs fault w fit.0 refl e (λ f. refused_full vs fault (with_value w v) fit.1 f) where
  by_first : (first : Option CdrFault) (v : Value) (vs : List Value) (fault : CdrFault) (w : Writing) → Fits v → refusal w v ≡ first → option_or first (refusal_of_all (with_value w v) vs) ≡ Some fault
      → (refusal_of_all (with_value w v) vs ≡ Some fault → output_limit < length (with_values (with_value w v) vs).octets) → output_limit < length (with_values (with_value w v) vs).octets
  by_first (Some cause) v vs fault w fit is e others = omega (arith, full v cause w fit is, grows (with_value w v) vs)
  by_first None v vs fault w fit is e others = others e

stops_full : (values : List Value) (fault : CdrFault) (w new : Writing) → AllFit values → (fault ≡ cdr.Memory → ⊥) → StopsIn values fault w new → output_limit < length (with_values w values).octets
stops_full values fault w new fit other h =
    elim h.cause [ inl memory ↦ absurd (other memory) | inr refused ↦ refused_full values fault w fit refused ]

-- a reference that is too long, and one that isn't
pub long : (place : ℕ) (reference : Reference) → 1024 < length (canonical_octets reference) → if_short place reference ≡ Err (TooLong place)
unfolding if_short
long place reference h = rw (lt-ltb _ _ h) refl

pub short : (place : ℕ) (reference : Reference) → length (canonical_octets reference) ≤ 1024 → if_short place reference ≡ Ok reference
unfolding if_short
short place reference h = rw (le-ltb 1024 (length (canonical_octets reference)) h) refl

-- a writer that stops for another cause than memory has a reference that is too long
stopped_long : (place : ℕ) (reference : Reference) (fault : CdrFault) (new : Writing) → AllFit (reference_values reference) → (fault ≡ cdr.Memory → ⊥) → StopsIn (reference_values reference) fault at_start new → if_short place reference ≡ Err (TooLong place)
stopped_long place reference fault new fit other h =
    let many = stops_full (reference_values reference) fault at_start new fit other h in
    let size : length (with_values at_start (reference_values reference)).octets ≡ length (canonical_octets reference) = ap length (written_is reference (with_values at_start (reference_values reference)) refl) in
    long place reference (omega (arith, many, size))

pub stopped : (place : ℕ) (reference : Reference) (fault : CdrFault) (new : Writing) → AllFit (reference_values reference) → StopsIn (reference_values reference) fault at_start new → Fails (stopped_as place fault) (if_short place reference)
stopped place reference cdr.Memory new fit h = tt
stopped place reference (cdr.Short n) new fit h = stopped_long place reference (cdr.Short n) new fit (λ e. cc) h
stopped place reference (cdr.BadBoolean n) new fit h = stopped_long place reference (cdr.BadBoolean n) new fit (λ e. cc) h
stopped place reference (cdr.BadString n) new fit h = stopped_long place reference (cdr.BadString n) new fit (λ e. cc) h
stopped place reference (cdr.TooLong n m) new fit h = stopped_long place reference (cdr.TooLong n m) new fit (λ e. cc) h
stopped place reference (cdr.BadOrder n) new fit h = stopped_long place reference (cdr.BadOrder n) new fit (λ e. cc) h

-- a call that wrote values, since it has no fault
pub wrote : (values : List Value) (result : Result (Unit {0}) CdrFault) (w new : Writing) → ((fault : CdrFault) → result ≡ Err fault → ⊥) → WritesAll values result w new → new ≡ with_values w values
wrote values (Ok nothing) w new never h = h.stands
wrote values (Err fault) w new never h = absurd (never fault refl)

-- a copy that isn't made
pub kept_fails : (place : ℕ) (reference : Reference) (fault : IorFault) (octets : List ℕ) → octets ≡ canonical_octets reference → (fault ≡ Memory) ⊎ ((fault ≡ TooLong place) × (1024 < length octets)) → Fails fault (if_short place reference)
kept_fails place reference fault octets is (inl memory) = subst (λ (f : IorFault). Fails f (if_short place reference)) (sym memory) tt
kept_fails place reference fault octets is (inr many) =
    subst (λ (f : IorFault). Fails f (if_short place reference)) (sym many.0) (long place reference (omega (arith, many.1, ap length is)))
