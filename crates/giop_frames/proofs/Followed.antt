-- What was read is read too where more octets follow, and the reader stands behind it.
use Rattle.std.proofs.Common.{◌≡◌, ℕ, List, [], ◌++◌, Result, Ok, refl, sym, ap, ◌∙◌, append_assoc, arith}
use Rattle.std.proofs.lemmas.List.{length-append}
use Rattle.cdr_values.specs.declared.fault.CdrFault.{CdrFault}
use Rattle.cdr_values.specs.Value.{Value}
use Rattle.cdr_values.specs.Reading.{Reading, Reads}
use Rattle.cdr_values.specs.Laws.{ReadsExactly}
use Rattle.giop_frames.specs.Walk.{IsBehind, followed}

-- a value that stands at the place stands there where more octets follow
reads_followed : (r : Reading) (value : Value) (new : Reading) (more : List ℕ) → Reads r value new → Reads (followed r more) value (followed new more)
reads_followed r value new more h = record {
  octets = h.octets;
  spelled = h.spelled;
  front = ap (λ (x : List ℕ). x ++ more) h.front ∙ append_assoc h.octets new.rest more;
  place = h.place;
  order = h.order;
}

-- ---- where a reader stands

pub here : (r : Reading) → IsBehind r r
here r = record { octets = []; front = refl; place = omega arith; order = refl }

pub further_on : (a b c : Reading) → IsBehind a b → IsBehind b c → IsBehind a c
further_on a b c h k = record {
  octets = h.octets ++ k.octets;
  front = h.front ∙ ap (λ (x : List ℕ). h.octets ++ x) k.front ∙ sym (append_assoc h.octets k.octets c.rest);
  place = omega (arith, h.place, k.place, length-append h.octets k.octets);
  order = k.order ∙ h.order;
}

-- ---- a field

-- a call of a reader finds what it found, where more octets follow
pub kept : {A : Type 0} (read : Reading → Result (A × Reading) CdrFault) (value : A → Value) → ReadsExactly read value → (r : Reading) (x : A) (new : Reading) → read r ≡ Ok (x, new) → (more : List ℕ) → read (followed r more) ≡ Ok (x, followed new more)
kept read value exact r x new e more = exact.only (followed r more) x (followed new more) (reads_followed r (value x) new more (exact.found r x new e))

-- and stands behind it
pub passed : {A : Type 0} (read : Reading → Result (A × Reading) CdrFault) (value : A → Value) → ReadsExactly read value → (r : Reading) (x : A) (new : Reading) → read r ≡ Ok (x, new) → IsBehind r new
passed read value exact r x new e =
    let h = exact.found r x new e in
    record { octets = h.octets; front = h.front; place = h.place; order = h.order }
