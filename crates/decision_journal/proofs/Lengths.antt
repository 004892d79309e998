-- How many octets records have.
use Rattle.std.proofs.Common.{◌≡◌, ℕ, zero, suc, ◌+◌, ◌*◌, ◌<◌, ◌≤◌, List, [], ◌∷◌, ◌++◌, length, get_or, take, refl, ap, arith, length-append}
use Rattle.std.specs.List.{concat, flat_map}
use Rattle.std.proofs.lemmas.List.Concat.{flat_map-cons}
use Rattle.decision_journal.specs.declared.record.Registration.{Registration}
use Rattle.decision_journal.specs.declared.record.Put.{Put}
use Rattle.decision_journal.specs.declared.record.JournalRecord.TheVariants.{CellsPrepared, CellsOnePhase}
use Rattle.decision_journal.specs.Layout.{eight, fields, four, put, puts, reference, registration, registrations, two}

-- ---- lists

pub one_fits : {A : Type 0} (f : A → List ℕ) (xs : List A) (i : ℕ) (x : A) → i < length xs → x ≡ get_or xs i x → length (flat_map f (take i xs)) + length (f x) ≤ length (flat_map f xs)
one_fits f [] i x lt is = absurd (omega (arith, lt))
one_fits f (y ∷ ys) zero x lt is =
    omega (arith, ap (λ z. length (f z)) is, ap length (flat_map-cons f y ys), length-append (f y) (flat_map f ys))
one_fits f (y ∷ ys) (suc i) x lt is =
    let rest = one_fits f ys i x (omega (arith, lt)) is in
    omega (arith, rest, ap length (flat_map-cons f y (take i ys)), length-append (f y) (flat_map f (take i ys)), ap length (flat_map-cons f y ys), length-append (f y) (flat_map f ys))

-- ---- parts of records

pub registration_length : (r : Registration) → length (registration r) ≡ 6 + length r.reference
registration_length r = omega (arith, length-append (four r.index) (reference r.reference), length-append (two (length r.reference)) r.reference)

pub registrations_length : (rs : List Registration) → length (registrations rs) ≡ 2 + length (flat_map registration rs)
registrations_length rs = omega (arith, length-append (two (length rs)) (flat_map registration rs))

pub all_puts : (ps : List Put) → length (flat_map put ps) ≡ 16 * length ps
all_puts [] = refl
all_puts (p ∷ ps) = omega (arith, all_puts ps, ap length (flat_map-cons put p ps), length-append (put p) (flat_map put ps), length-append (eight p.cell) (eight p.value))

pub puts_length : (ps : List Put) → length (puts ps) ≡ 2 + 16 * length ps
puts_length ps = omega (arith, all_puts ps, length-append (two (length ps)) (flat_map put ps))

-- ---- the fields of records

pub cells_length : (life number : ℕ) (recovery : List ℕ) (ps : List Put) → length (concat (fields (CellsPrepared life number recovery ps))) ≡ 16 + length recovery + 16 * length ps
cells_length life number recovery ps =
    let last = puts ps ++ [] in
    omega (
      arith,
      length-append (four life) (eight number ++ (reference recovery ++ last)),
      length-append (eight number) (reference recovery ++ last),
      length-append (reference recovery) last,
      length-append (two (length recovery)) recovery,
      length-append (puts ps) [],
      puts_length ps,
    )

pub one_phase_length : (life number : ℕ) (ps : List Put) → length (concat (fields (CellsOnePhase life number ps))) ≡ 14 + 16 * length ps
one_phase_length life number ps =
    omega (arith, length-append (four life) (eight number ++ (puts ps ++ [])), length-append (eight number) (puts ps ++ []), length-append (puts ps) [], puts_length ps)
