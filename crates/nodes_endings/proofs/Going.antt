-- The journals are told seat by seat.
use Rattle.std.proofs.Common.{◌≡◌, ℕ, zero, suc, ◌+◌, ◌<◌, ◌≤◌, List, [], ◌∷◌, ◌++◌, drop, get_or, length, map, Result, Ok, Err, refl, sym, ap, subst, ◌∙◌, arith}
use Rattle.std.specs.Prelude.{OnErr}
use Rattle.std.specs.Result.{IsErr}
use Rattle.std.proofs.lemmas.List.{at_drop_all, at_drop_more}
use Rattle.nodes_world.specs.Lives.{journal_lines_from, journal_lines_of}
use Rattle.nodes_world.specs.Told.{Told}
use Rattle.nodes_state.specs.Seated.{seat_of, server_of}
use Rattle.nodes_state.specs.Telling.{Tells}
use Rattle.nodes_state.specs.declared.seats.Seat.{Seat}
use Rattle.nodes_state.proofs.Progress.{IsTelling, telling_goes_on}

-- the lines of the seats from a place on
abbrev pub Left : List Seat → ℕ → List Told
Left seats place = journal_lines_from place (map seat_of (drop place seats))

left_more : (seats : List Seat) (place : ℕ) (s : Seat) → place < length seats → get_or seats place s ≡ s
    → Left seats place ≡ journal_lines_of place (seat_of s) (server_of s.server) ++ Left seats (place + 1)
unfolding journal_lines_from
left_more seats place s within here =
    at_drop_more (λ xs. journal_lines_from place (map seat_of xs)) seats place s within
    ∙ ap (λ x. journal_lines_of place (seat_of x) (server_of x.server) ++ Left seats (place + 1)) here

pub seat_told : (seats : List Seat) (place : ℕ) (s : Seat) (total : List Told) (before now next : List ℕ) → place < length seats → get_or seats place s ≡ s
    → IsTelling total before (Left seats place) now → Tells (journal_lines_of place (seat_of s) (server_of s.server)) now next
    → IsTelling total before (Left seats (place + 1)) next
seat_told seats place s total before now next within here i told =
    telling_goes_on total (journal_lines_of place (seat_of s) (server_of s.server)) (Left seats (place + 1)) before now next
    (subst (λ (some : List Told). IsTelling total before some now) (left_more seats place s within here) i) told

pub none_left : (seats : List Seat) (place : ℕ) → length seats ≤ place → Left seats place ≡ []
unfolding journal_lines_from
none_left seats place past = at_drop_all (λ xs. journal_lines_from place (map seat_of xs)) seats place past

-- ---- where no line ends a script

first_none : (some others : List Told) → some ++ others ≡ [] → some ≡ []
first_none [] others e = refl
first_none (line ∷ some) others e = absurd cc

others_none : (some others : List Told) → some ++ others ≡ [] → others ≡ []
others_none [] others e = e
others_none (line ∷ some) others e = absurd cc

-- none is told of a seat
none_from : (from : ℕ) (seats : List Seat) (place : ℕ) (s : Seat) → place < length seats → get_or seats place s ≡ s
    → journal_lines_from from (map seat_of seats) ≡ [] → journal_lines_of (from + place) (seat_of s) (server_of s.server) ≡ []
unfolding journal_lines_from
none_from from [] place s within here none = absurd (omega (arith, within))
none_from from (x ∷ seats) zero s within here none =
    let first = first_none (journal_lines_of from (seat_of x) (server_of x.server)) (journal_lines_from (from + 1) (map seat_of seats)) none in
    let same : x ≡ s = here in
    let at : from ≡ from + 0 = omega arith in
    subst (λ (place : ℕ). journal_lines_of place (seat_of s) (server_of s.server) ≡ []) at
    (subst (λ (y : Seat). journal_lines_of from (seat_of y) (server_of y.server) ≡ []) same first)
none_from from (x ∷ seats) (suc place) s within here none =
    let others = others_none (journal_lines_of from (seat_of x) (server_of x.server)) (journal_lines_from (from + 1) (map seat_of seats)) none in
    let at : from + 1 + place ≡ from + suc place = omega arith in
    let few : place < length seats = omega (arith, within) in
    subst (λ (place : ℕ). journal_lines_of place (seat_of s) (server_of s.server) ≡ []) at
    (none_from (from + 1) seats place s few here others)

pub none_of_seat : (seats : List Seat) (place : ℕ) (s : Seat) → place < length seats → get_or seats place s ≡ s
    → journal_lines_from 0 (map seat_of seats) ≡ [] → journal_lines_of place (seat_of s) (server_of s.server) ≡ []
none_of_seat seats place s within here none =
    let at : 0 + place ≡ place = omega arith in
    subst (λ (n : ℕ). journal_lines_of n (seat_of s) (server_of s.server) ≡ []) at (none_from 0 seats place s within here none)

pub is_failed : {E P : Type 0} (result : Result (Unit {0}) E) → IsErr result → P → OnErr result P
is_failed (Ok u) e p = absurd cc
is_failed (Err fault) e p = p
