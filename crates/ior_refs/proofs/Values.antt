-- Values that are written one after another, and where a writer stops.
use Rattle.std.proofs.Common.{◌≡◌, ◌⊎◌, inl, inr, Some, None, Option, List, [], ◌∷◌, ◌++◌, refl, sym, ap, ◌∙◌, Result, Ok, Err}
use Rattle.std.specs.Option.{option_or}
use Rattle.cdr_values.specs.declared.fault.CdrFault.{CdrFault}
use Rattle.cdr_values.specs.declared.fault.CdrFault.TheVariants.{Memory}
use Rattle.cdr_values.specs.Value.{Value}
use Rattle.cdr_values.specs.Again.{AllFit}
use Rattle.cdr_values.specs.Values.{refusal_of_all, with_values}
use Rattle.cdr_values.specs.Writing.{Writing, WritesValue, with_value, refusal}
use Rattle.ior_refs.specs.Writing.{HasWritten, StopsIn, WritesAll}

-- values behind others
pub with_values-append : (w : Writing) (xs ys : List Value) → with_values w (xs ++ ys) ≡ with_values (with_values w xs) ys
with_values-append w [] ys = refl
with_values-append w (x ∷ xs) ys = with_values-append (with_value w x) xs ys

-- the first of three faults
first_of_three : (a b c : Option CdrFault) → option_or a (option_or b c) ≡ option_or (option_or a b) c
first_of_three None b c = refl
first_of_three (Some fault) b c = refl

-- values behind others are refused where the others are, or behind them
pub refused-append : (w : Writing) (xs ys : List Value) → refusal_of_all w (xs ++ ys) ≡ option_or (refusal_of_all w xs) (refusal_of_all (with_values w xs) ys)
refused-append w [] ys = refl
refused-append w (x ∷ xs) ys =
    ap (option_or (refusal w x)) (refused-append (with_value w x) xs ys)
    ∙ first_of_three (refusal w x) (refusal_of_all (with_value w x) xs) (refusal_of_all (with_values (with_value w x) xs) ys)

-- where the others are not refused, only those behind them are
pub refused_behind : (w : Writing) (xs ys : List Value) → refusal_of_all w xs ≡ None → refusal_of_all w (xs ++ ys) ≡ refusal_of_all (with_values w xs) ys
refused_behind w xs ys fits = refused-append w xs ys ∙ ap (λ (first : Option CdrFault). option_or first (refusal_of_all (with_values w xs) ys)) fits

-- values that fit, and others
pub fit-append : (xs ys : List Value) → AllFit xs → AllFit ys → AllFit (xs ++ ys)
fit-append [] ys p q = q
fit-append (x ∷ xs) ys p q = (p.0, fit-append xs ys p.1 q)

pub fit_front : (xs ys : List Value) → AllFit (xs ++ ys) → AllFit xs
fit_front [] ys p = tt
fit_front (x ∷ xs) ys p = (p.0, fit_front xs ys p.1)

pub fit_behind : (xs ys : List Value) → AllFit (xs ++ ys) → AllFit ys
fit_behind [] ys p = p
fit_behind (x ∷ xs) ys p = fit_behind xs ys p.1

-- a writer that has written one value
pub wrote_one : (value : Value) (w new : Writing) → new ≡ with_value w value → refusal w value ≡ None → HasWritten (value ∷ []) w new
wrote_one value w new stands fits = record {
  stands = stands;
  fits = ap (λ (first : Option CdrFault). option_or first None) fits;
}

-- a writer that has written some values and then more
pub wrote_more : (xs ys : List Value) (w middle new : Writing) → HasWritten xs w middle → HasWritten ys middle new → HasWritten (xs ++ ys) w new
wrote_more xs ys w middle new m h = record {
  stands = h.stands ∙ ap (λ (x : Writing). with_values x ys) m.stands ∙ sym (with_values-append w xs ys);
  fits = refused_behind w xs ys m.fits ∙ ap (λ (x : Writing). refusal_of_all x ys) (sym m.stands) ∙ h.fits;
}

-- a writer that refuses one value stops in front of it
pub stops_one : (value : Value) (others : List Value) (fault : CdrFault) (w new : Writing) → (fault ≡ Memory) ⊎ (refusal w value ≡ Some fault) → new ≡ w → StopsIn (value ∷ others) fault w new
stops_one value others fault w new cause same = record {
  written = [];
  stands = same;
  cause = elim cause [
    | inl memory ↦ inl memory
    | inr refused ↦ inr (ap (λ (first : Option CdrFault). option_or first (refusal_of_all (with_value w value) others)) refused)
  ];
}

-- one that stops in some values stops in them and others
pub stops_more : (xs ys : List Value) (fault : CdrFault) (w new : Writing) → StopsIn xs fault w new → StopsIn (xs ++ ys) fault w new
stops_more xs ys fault w new h = record {
  written = h.written;
  stands = h.stands;
  cause = elim h.cause [
    | inl memory ↦ inl memory
    | inr refused ↦ inr (refused-append w xs ys ∙ ap (λ (first : Option CdrFault). option_or first (refusal_of_all (with_values w xs) ys)) refused)
  ];
}

-- one that stops in values behind others stops in all of them
pub stops_behind : (xs ys : List Value) (fault : CdrFault) (w middle new : Writing) → HasWritten xs w middle → StopsIn ys fault middle new → StopsIn (xs ++ ys) fault w new
stops_behind xs ys fault w middle new m h = record {
  written = xs ++ h.written;
  stands = h.stands ∙ ap (λ (x : Writing). with_values x h.written) m.stands ∙ sym (with_values-append w xs h.written);
  cause = elim h.cause [
    | inl memory ↦ inl memory
    | inr refused ↦ inr (refused_behind w xs ys m.fits ∙ ap (λ (x : Writing). refusal_of_all x ys) (sym m.stands) ∙ refused)
  ];
}

-- a call that writes a value writes it and no other, or stops in front of it
one_value : (value : Value) (result : Result (Unit {0}) CdrFault) (w new : Writing) → WritesValue value result w new → WritesAll (value ∷ []) result w new
one_value value (Ok nothing) w new h = wrote_one value w new h.ok h.fits
one_value value (Err fault) w new h = stops_one value [] fault w new h.refused h.err

-- a call that writes values behind others writes all of them, or stops in them
pub then_all : (xs ys : List Value) (result : Result (Unit {0}) CdrFault) (w middle new : Writing) → HasWritten xs w middle → WritesAll ys result middle new → WritesAll (xs ++ ys) result w new
then_all xs ys (Ok nothing) w middle new m h = wrote_more xs ys w middle new m h
then_all xs ys (Err fault) w middle new m h = stops_behind xs ys fault w middle new m h

-- and so does one that writes a value behind others
pub then_value : (xs : List Value) (value : Value) (result : Result (Unit {0}) CdrFault) (w middle new : Writing) → HasWritten xs w middle → WritesValue value result middle new → WritesAll (xs ++ value ∷ []) result w new
then_value xs value result w middle new m h = then_all xs (value ∷ []) result w middle new m (one_value value result middle new h)
