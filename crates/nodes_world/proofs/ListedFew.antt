-- No more are listed than are registered: each is listed once where it is registered, and lists pass whole from child to parent.
use Rattle.std.proofs.Common.{◌≡◌, ℕ, zero, suc, ◌+◌, ◌<◌, ◌≤◌, List, [], ◌∷◌, ◌++◌, length, length-append, replicate, slice_set, Bool, true, Option, Some, None, refl, ap, arith}
use Rattle.std.specs.List.{cons_option, filter_map}
use Rattle.std.proofs.lemmas.List.{get_or-set_other}
use Rattle.ots_model.specs.Limits.{registration_limit}
use Rattle.resource_votes.specs.Ballots.{Ballots, adopted, no_ballots, numbered, participants, registered, registered_aware}
use Rattle.resource_votes.specs.Lists.{list_at}
use Rattle.resource_votes.specs.Limits.{list_count}
use Rattle.resource_votes.specs.declared.registration.Registration.{Registration}
use Rattle.nodes_world.specs.AgreementInside.{AreFew, listed_in}

-- a list in place of another one
set_listed : (lists : List (List ℕ)) (b : ℕ) (xs : List ℕ) → listed_in (slice_set lists b xs) + length (list_at lists b) ≤ listed_in lists + length xs
set_listed [] b xs = omega arith
set_listed (y ∷ lists) zero xs = omega arith
set_listed (y ∷ lists) (suc b) xs = let rest = set_listed lists b xs in omega (arith, rest)

-- none is longer than all together
pub at_listed : (lists : List (List ℕ)) (b : ℕ) → length (list_at lists b) ≤ listed_in lists
at_listed [] b = omega arith
at_listed (y ∷ lists) zero = omega arith
at_listed (y ∷ lists) (suc b) = let rest = at_listed lists b in omega (arith, rest)

pub adopted_few : (some : Ballots) (child above : ℕ) → above < child → AreFew some → AreFew (adopted child above some)
adopted_few some child above less few =
    let empty = set_listed some.lists child [] in
    let joined = set_listed (slice_set some.lists child []) above (list_at some.lists above ++ list_at some.lists child) in
    let both = length-append (list_at some.lists above) (list_at some.lists child) in
    let same = ap length (get_or-set_other some.lists child above [] [] (λ e. omega (arith, less, e))) in
    let before = few.listed in
    record { listed = omega (arith, empty, joined, both, same, before); registered = few.registered }

-- one more is registered, and listed once or not at all
pub entered_few : (some : Ballots) (b : ℕ) (to : List ℕ) (aware : Bool) → length some.registrations < registration_limit → AreFew some → AreFew (registered b to aware some)
entered_few some b to aware left few =
    let more = length-append some.registrations (record { index = length some.registrations + 1; branch = b; to = to; aware = aware } ∷ []) in
    let one = length-append (list_at some.lists b) ((length some.registrations + 1) ∷ []) in
    let listed = set_listed some.lists b (list_at some.lists b ++ ((length some.registrations + 1) ∷ [])) in
    let before = few.listed in
    record { listed = omega (arith, more, one, listed, before); registered = omega (arith, more, left) }

pub aware_few : (some : Ballots) (b : ℕ) (to : List ℕ) → length some.registrations < registration_limit → AreFew some → AreFew (registered_aware b to some)
aware_few some b to left few =
    let more = length-append some.registrations (record { index = length some.registrations + 1; branch = b; to = to; aware = true } ∷ []) in
    let before = few.listed in
    record { listed = omega (arith, more, before); registered = omega (arith, more, left) }

none_listed : (n : ℕ) → listed_in (replicate {A = List ℕ} n []) ≡ 0
none_listed zero = refl
none_listed (suc n) = ap (λ (k : ℕ). 0 + k) (none_listed n)

pub none_few : AreFew no_ballots
none_few = record { listed = let none = none_listed list_count in omega (arith, none); registered = omega arith }

-- ---- who takes part

entered_fewer : (rs : List Registration) (numbers : List ℕ) → length (filter_map (numbered rs) numbers) ≤ length numbers
entered_fewer rs [] = omega arith
entered_fewer rs (i ∷ numbers) = by (numbered rs i) (entered_fewer rs numbers)
  where
    by : (o : Option Registration) → length (filter_map (numbered rs) numbers) ≤ length numbers
        → length (cons_option o (filter_map (numbered rs) numbers)) ≤ suc (length numbers)
    by (Some r) rest = omega (arith, rest)
    by None rest = omega (arith, rest)

pub participants_few : (some : Ballots) (b : ℕ) → AreFew some → length (participants b some) ≤ registration_limit
participants_few some b few =
    let entered = entered_fewer some.registrations (list_at some.lists b) in
    let within = at_listed some.lists b in
    let listed = few.listed in
    let registered_ones = few.registered in
    omega (arith, entered, within, listed, registered_ones)
