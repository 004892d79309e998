-- What comes last changes nothing of what stands before it.
use Rattle.std.proofs.Common.{◌≡◌, ◌∙◌, ◌⊎◌, inl, inr, refl, ap, sym, subst, ℕ, zero, suc, ◌+◌, ◌<◌, ◌≤◌, List, [], ◌∷◌, ◌++◌, length, Option, Some, None, is_some, arith, length-append, if◌then◌else◌}
use Rattle.std.specs.Prelude.{max}
use Rattle.std.specs.List.{slice_get, cons_option}
use Rattle.std.specs.Option.{option_map, IsSome}
use Rattle.std.proofs.lemmas.List.{map-append}
use Rattle.resource_votes.specs.Ballots.{numbered}
use Rattle.resource_votes.specs.declared.registration.Registration.{Registration}
use Rattle.two_phase.specs.Stages.{Standing, Waiting, Going as UnderWay, longest}
use Rattle.coordinator.specs.Family.{Call, Duty}
use Rattle.family_rules.specs.Calls.{AllTasks, AreTasks, all_seated, call_in, duties_in, duty_in, plain_call, seated}
use Rattle.family_rules.specs.Room.{spare, reach}
use Rattle.family_rules.specs.Order.{AreInOrder}
use Rattle.family_rules.specs.StateInside.{HasPlaces}
use Rattle.family_rules.specs.declared.call.Call.{Call as KeptCall}
use Rattle.family_rules.specs.declared.call.Seat.{Seat}
use Rattle.family_rules.specs.declared.call.Task.{Task}

-- ---- a registration comes last

stays_at : (rs : List Registration) (r : Registration) (i : ℕ) → IsSome (slice_get rs i) → slice_get (rs ++ r ∷ []) i ≡ slice_get rs i
stays_at [] r i some = absurd (cc (some))
stays_at (x ∷ rs) r zero some = refl
stays_at (x ∷ rs) r (suc i) some = stays_at rs r i some

numbered_stays : (rs : List Registration) (r : Registration) (n : ℕ) → IsSome (numbered rs n) → numbered (rs ++ r ∷ []) n ≡ numbered rs n
numbered_stays rs r zero some = refl
numbered_stays rs r (suc i) some = stays_at rs r i some

duties_stay : (rs : List Registration) (r : Registration) (ts : List Task) → AreTasks rs ts → duties_in (rs ++ r ∷ []) ts ≡ duties_in rs ts
duties_stay rs r [] all = refl
duties_stay rs r (t ∷ ts) all =
    ap (λ (o : Option Registration). cons_option (option_map (λ (x : Registration). record { ending = t.ending; resource = x }) o) (duties_in (rs ++ r ∷ []) ts))
    (numbered_stays rs r t.registration all.0)
    ∙ ap (λ (ds : List Duty). cons_option (duty_in rs t) ds) (duties_stay rs r ts all.1)

tasks_stay : (rs : List Registration) (r : Registration) (ts : List Task) → AreTasks rs ts → AreTasks (rs ++ r ∷ []) ts
tasks_stay rs r [] all = tt
tasks_stay rs r (t ∷ ts) all =
    (ap (λ (o : Option Registration). is_some o) (numbered_stays rs r t.registration all.0) ∙ all.0, tasks_stay rs r ts all.1)

seated_stays : (rs : List Registration) (r : Registration) (left : List Task) (o : Option KeptCall) → AreTasks rs left
    → option_map (call_in (rs ++ r ∷ []) left) o ≡ option_map (call_in rs left) o
seated_stays rs r left None all = refl
seated_stays rs r left (Some k) all =
    ap (λ (ds : List Duty). Some (record (plain_call k) { left = if k.owes then ds else [] })) (duties_stay rs r left all)

pub seats_stay : (rs : List Registration) (r : Registration) (seats : List Seat) → AllTasks rs seats → all_seated (rs ++ r ∷ []) seats ≡ all_seated rs seats
unfolding all_seated
seats_stay rs r [] all = refl
seats_stay rs r (s ∷ seats) all =
    ap (λ (o : Option Call). o ∷ all_seated (rs ++ r ∷ []) seats) (seated_stays rs r s.left.items s.call all.0)
    ∙ ap (λ (cs : List (Option Call)). seated rs s ∷ cs) (seats_stay rs r seats all.1)

pub all_stay : (rs : List Registration) (r : Registration) (seats : List Seat) → AllTasks rs seats → AllTasks (rs ++ r ∷ []) seats
all_stay rs r [] all = tt
all_stay rs r (s ∷ seats) all = (tasks_stay rs r s.left.items all.0, all_stay rs r seats all.1)

abbrev LastOrBefore : List Registration → Registration → Registration → ℕ → Type 0
LastOrBefore rs r x i = (slice_get rs i ≡ Some x) ⊎ ((i ≡ length rs) × (x ≡ r))

one_later : (rs : List Registration) (y r x : Registration) (i : ℕ) → LastOrBefore rs r x i → LastOrBefore (y ∷ rs) r x (suc i)
one_later rs y r x i (inl h) = inl h
one_later rs y r x i (inr h) = inr (omega (arith, h.0), h.1)

found_last : (rs : List Registration) (r x : Registration) (i : ℕ) → slice_get (rs ++ r ∷ []) i ≡ Some x → LastOrBefore rs r x i
found_last [] r x zero is = let e : x ≡ r = sym (cc (is)) in inr (refl, e)
found_last [] r x (suc i) is = absurd (cc (is))
found_last (y ∷ rs) r x zero is = inl is
found_last (y ∷ rs) r x (suc i) is = one_later rs y r x i (found_last rs r x i is)

order_by : (rs : List Registration) (r x : Registration) (i : ℕ) → r.index ≡ length rs + 1 → AreInOrder rs → LastOrBefore rs r x i → x.index ≡ suc i
order_by rs r x i last order (inl h) = order (suc i) x h
order_by rs r x i last order (inr h) =
    let e : x.index ≡ r.index = ap (λ (q : Registration). q.index) h.1 in
    omega (arith, e, last, h.0)

order_at : (rs : List Registration) (r : Registration) (n : ℕ) (x : Registration) → r.index ≡ length rs + 1 → AreInOrder rs
    → numbered (rs ++ r ∷ []) n ≡ Some x → x.index ≡ n
order_at rs r zero x last order is = absurd (cc (is))
order_at rs r (suc i) x last order is = order_by rs r x i last order (found_last rs r x i is)

pub order_stays : (rs : List Registration) (r : Registration) → r.index ≡ length rs + 1 → AreInOrder rs → AreInOrder (rs ++ r ∷ [])
order_stays rs r last order = λ n x is. order_at rs r n x last order is

longest_more : (rs : List Registration) (r : Registration) → longest (rs ++ r ∷ []) ≡ max (longest rs) (length r.to)
longest_more [] r = omega arith
longest_more (x ∷ rs) r = let e = longest_more rs r in omega (arith, e)

pub places_stay : (s : Standing) (rs : List Registration) (r : Registration) → HasPlaces s rs → 0 < spare s (length rs) → length r.to ≤ reach s
    → HasPlaces s (rs ++ r ∷ [])
places_stay (Waiting room) rs r places some fits =
    let one : length (rs ++ r ∷ []) ≡ length rs + 1 = length-append rs (r ∷ []) in
    let long = places.1 in
    let more = longest_more rs r in
    (omega (arith, one, some), omega (arith, long, more, fits))
places_stay (UnderWay c) rs r places some fits = tt

-- ---- a seat comes last, on which no call is under way

pub seats_more : (rs : List Registration) (seats : List Seat) (s : Seat) → s.call ≡ None → all_seated rs (seats ++ s ∷ []) ≡ all_seated rs seats ++ None ∷ []
unfolding all_seated
seats_more rs seats s none =
    map-append (seated rs) seats (s ∷ [])
    ∙ ap (λ (o : Option KeptCall). all_seated rs seats ++ option_map (call_in rs s.left.items) o ∷ []) none

pub tasks_more : (rs : List Registration) (seats : List Seat) (s : Seat) → s.left.items ≡ [] → AllTasks rs seats → AllTasks rs (seats ++ s ∷ [])
tasks_more rs [] s none all = (subst (λ (ts : List Task). AreTasks rs ts) (sym none) tt, tt)
tasks_more rs (x ∷ seats) s none all = (all.0, tasks_more rs seats s none all.1)
