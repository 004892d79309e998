-- What stands in front plays no part, where a look begins behind it.
use Rattle.std.proofs.Common.{◌≡◌, refl, ℕ, zero, suc, ◌+◌, ◌<◌, ◌≤◌, List, [], ◌∷◌, length, take, drop, slice_set, position, Some, ap, sym, ◌∙◌, Bool, true, false, if◌then◌else◌, arith}
use Rattle.std.specs.List.{slice_get, list_all, position_from}
use Rattle.std.specs.Option.{option_map}
use Rattle.std.proofs.lemmas.Iterator.Adapters.{position_from-zero}
use Rattle.std.proofs.lemmas.List.Quantifiers.{position-Some}
use Rattle.std.proofs.lemmas.Option.{same_Some}
use Rattle.two_phase.specs.declared.party.Party.{Party}
use Rattle.two_phase.proofs.Rests.{and_left, and_right}

pub drop_none : (n : ℕ) (ps : List Party) → length ps ≤ n → [] ≡ drop n ps
drop_none zero [] h = refl
drop_none (suc n) [] h = refl
drop_none zero (p ∷ ps) h = absurd (omega (arith, h))
drop_none (suc n) (p ∷ ps) h = drop_none n ps (omega (arith, h))

pub front : (f : Party → Bool) (p : Party) (n : ℕ) (ps : List Party) → list_all f (take (suc n) (p ∷ ps)) ≡ true → f p ≡ true
front f p n ps all = and_left (f p) (list_all f (take n ps)) all

pub rest : (f : Party → Bool) (p : Party) (n : ℕ) (ps : List Party) → list_all f (take (suc n) (p ∷ ps)) ≡ true → list_all f (take n ps) ≡ true
rest f p n ps all = and_right (f p) (list_all f (take n ps)) all

-- where none of those in front passes, the first that passes comes behind them
from_behind : (f g : Party → Bool) → ((p : Party) → f p ≡ true → g p ≡ false) → (i n : ℕ) (ps : List Party) → list_all f (take n ps) ≡ true
    → position_from g i ps ≡ position_from g (i + n) (drop n ps)
from_behind f g never i zero ps all = let e : i ≡ i + 0 = omega arith in ap (λ j. position_from g j ps) e
from_behind f g never i (suc n) [] all = refl
from_behind f g never i (suc n) (p ∷ ps) all =
    let e : (i + 1) + n ≡ i + suc n = omega arith in
    rw (never p (front f p n ps all))
    (from_behind f g never (i + 1) n ps (rest f p n ps all) ∙ ap (λ j. position_from g j (drop n ps)) e)

later : (f : Party → Bool) (n i : ℕ) (ps : List Party) → position_from f (i + n) ps ≡ option_map (λ j. n + j) (position_from f i ps)
later f n i [] = refl
later f n i (p ∷ ps) = by_head (f p) (later f n (i + 1) ps)
  where
    by_head : (b : Bool) → position_from f ((i + 1) + n) ps ≡ option_map (λ (j : ℕ). n + j) (position_from f (i + 1) ps)
        → (if b then Some (i + n) else position_from f ((i + n) + 1) ps) ≡ option_map (λ (j : ℕ). n + j) (if b then Some i else position_from f (i + 1) ps)
    by_head true more = let e : i + n ≡ n + i = omega arith in ap (λ (j : ℕ). Some j) e
    by_head false more = let e : (i + n) + 1 ≡ (i + 1) + n = omega arith in ap (λ (j : ℕ). position_from f j ps) e ∙ more

is_from : (f : Party → Bool) (ps : List Party) → position f ps ≡ position_from f 0 ps
is_from f ps = position_from-zero f ps

pub found_behind : (f g : Party → Bool) → ((p : Party) → f p ≡ true → g p ≡ false) → (n : ℕ) (ps : List Party) → list_all f (take n ps) ≡ true
    → position g ps ≡ option_map (λ i. n + i) (position g (drop n ps))
found_behind f g never n ps all =
    is_from g ps ∙ from_behind f g never 0 n ps all ∙ later g n 0 (drop n ps) ∙ ap (option_map (λ i. n + i)) (sym (is_from g (drop n ps)))

-- a place behind them is a place of one
dropped : (n : ℕ) (ps : List Party) (i : ℕ) → i < length (drop n ps) → n + i < length ps
dropped zero ps i h = omega (arith, h)
dropped (suc n) [] i h = absurd (omega (arith, h))
dropped (suc n) (p ∷ ps) i h = let k = dropped n ps i h in omega (arith, k)

pub found_within : (f : Party → Bool) (n : ℕ) (ps : List Party) (i : ℕ) (d : Party) → position f (drop n ps) ≡ Some i → n + i < length ps
found_within f n ps i d is = dropped n ps i (position-Some f (drop n ps) i d is).0

-- one that changes and passes still leaves them so
pub set_all : (f : Party → Bool) (n : ℕ) (ps : List Party) (i : ℕ) (x y : Party) → slice_get ps i ≡ Some x → (f x ≡ true → f y ≡ true)
    → list_all f (take n ps) ≡ true → list_all f (take n (slice_set ps i y)) ≡ true
set_all f zero ps i x y at stays all = refl
set_all f (suc n) [] i x y at stays all = absurd (cc (at))
set_all f (suc n) (p ∷ ps) zero x y at stays all =
    rw (stays (ap f (sym (same_Some p x at)) ∙ front f p n ps all), rest f p n ps all) refl
set_all f (suc n) (p ∷ ps) (suc i) x y at stays all =
    rw (front f p n ps all, set_all f n ps i x y at stays (rest f p n ps all)) refl

-- the first behind them makes them one more, where it passes then
pub set_more : (f : Party → Bool) (n : ℕ) (ps : List Party) (x y : Party) → slice_get ps n ≡ Some x → f y ≡ true
    → list_all f (take n ps) ≡ true → list_all f (take (suc n) (slice_set ps n y)) ≡ true
set_more f n [] x y at passes all = absurd (cc (at))
set_more f zero (p ∷ ps) x y at passes all = rw passes refl
set_more f (suc n) (p ∷ ps) x y at passes all = rw (front f p n ps all, set_more f n ps x y at passes (rest f p n ps all)) refl
