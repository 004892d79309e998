-- What a family's call answers that registers something, by what its registrations answered.
use Rattle.std.proofs.Common.{◌≡◌, ◌==◌, ◌∙◌, refl, ap, sym, subst, ℕ, ◌+◌, ◌-◌, ◌<◌, ◌≤◌, Bool, true, false, if◌then◌else◌, List, [], ◌∷◌, length, Option, Some, None, Result, Ok, Err, arith, length-append}
use Rattle.std.specs.Result.{IfOk, OnOk, OnErr}
use Rattle.std.specs.Prelude.{nat_le, min, vec_capacity, vec_len}
use Rattle.std.proofs.Math.Nat.{min-le_left, min-le_right}
use Rattle.std.specs.Option.{option_or}
use Rattle.std.proofs.lemmas.Bool.Decides.{nat_tests}
use Rattle.txn_tree.specs.Calls.{status}
use Rattle.txn_tree.specs.declared.row.Row.{Row}
use Rattle.resource_votes.specs.Ballots.{AnswersTo, Ballots, VotesParts, by_count, by_status, entered, registered, registered_aware, registered_sync, registering_sync}
use Rattle.resource_votes.specs.Limits.{synchronization_limit}
use Rattle.resource_votes.specs.declared.registration.VoteFault.TheVariants as faults
use Rattle.resource_votes.specs.declared.registration.Registration.{Registration}
use Rattle.resource_votes.specs.declared.registration.VoteFault.{VoteFault}
use Rattle.family_rules.specs.Asking.{Registers}
use Rattle.coordinator.specs.Family.{Call}
use Rattle.family_rules.specs.Calls.{all_seated}
use Rattle.family_rules.specs.Room.{spare, reach}
use Rattle.family_rules.specs.StateInside.{AreFew, AreOnce, IsSound, shown}
use Rattle.family_rules.specs.declared.state.State.TheInside.{Inside}
use Rattle.family_rules.proofs.Added.{all_stay, order_stays, places_stay}
use Rattle.family_rules.proofs.Kept.{added_few, added_once, more_once}

-- what the registrations answer
abbrev pub Answers : Option VoteFault → ℕ → Ballots → Ballots → Ballots → Result ℕ VoteFault → Type 0
Answers None number later old new result = (result ≡ Ok number) × (new ≡ later)
Answers (Some fault) number later old new result = (result ≡ Err fault) × (new ≡ old)

abbrev ok_of : ℕ → Result ℕ VoteFault
ok_of n = Ok n

pub answers : (cause : Option VoteFault) (number room : ℕ) (later old new : Ballots) (result : Result ℕ VoteFault) → 0 < room → AnswersTo cause room result
    → OnOk result (new ≡ later) → IfOk result (λ i. i ≡ number) → OnErr result (new ≡ old) → Answers cause number later old new result
answers None number room later old new (Ok n) some to ok index err = (ap ok_of index, ok)
answers None number room later old new (Err fault) some to ok index err = let h = (to refl).1 in absurd (omega (arith, some, h))
answers (Some cause) number room later old new (Ok n) some to ok index err = absurd (cc (to))
answers (Some cause) number room later old new (Err fault) some to ok index err = (to, err)

-- where the calls stay what they are, so it is with the family
pub registers_in : (s : Inside) (v : VotesParts) (cause : Option VoteFault) (number : ℕ) (later : Ballots) (result : Result ℕ VoteFault)
    → Answers cause number later s.votes.ballots v.ballots result
    → all_seated later.registrations s.seats.items ≡ all_seated s.votes.ballots.registrations s.seats.items
    → Registers cause number later (shown s).family (shown (record s { votes = v })).family result
registers_in s v None number later result h stays = (
  h.0,
  ap (λ (x : Ballots). record (shown s).family { ballots = x; calls = all_seated x.registrations s.seats.items }) h.1
      ∙ ap (λ (cs : List (Option Call)). record (shown s).family { ballots = later; calls = cs }) stays,
)
registers_in s v (Some fault) number later result h stays =
    (h.0, ap (λ (x : Ballots). record (shown s).family { ballots = x; calls = all_seated x.registrations s.seats.items }) h.1)

-- ---- what is kept stays whole

pub either_way : {P : Type 0} (result : Result ℕ VoteFault) (new later old : Ballots) → OnOk result (new ≡ later) → OnErr result (new ≡ old)
    → (new ≡ later → P) → (new ≡ old → P) → P
either_way (Ok n) new later old ok err p q = p ok
either_way (Err fault) new later old ok err p q = q err

pub sound_same : (s : Inside) (v : VotesParts) → IsSound s → v.ballots ≡ s.votes.ballots → IsSound (record s { votes = v })
sound_same s v p is = subst (λ (x : Ballots). IsSound (record s { votes = record v { ballots = x } })) (sym is) (record {
  few = p.few;
  serial = p.serial;
  seats = p.seats;
  synchronizations = p.synchronizations;
  order = p.order;
  synchronization_order = p.synchronization_order;
  lists = p.lists;
  once = p.once;
  tasks = p.tasks;
  places = p.places;
  tally = p.tally;
  outs = p.outs;
  outs_room = p.outs_room;
  top = p.top;
})

-- one more registration
one_more : (s : Inside) (v : VotesParts) (b : ℕ) (to : List ℕ) (aware : Bool) (lists : List (List ℕ)) → IsSound s
    → 0 < spare s.completion (length s.votes.ballots.registrations) → length to ≤ reach s.completion → AreFew lists (length s.votes.ballots.registrations + 1)
    → AreOnce lists (length s.votes.ballots.registrations + 1)
    → IsSound (record s { votes = record v { ballots = record (entered b to aware s.votes.ballots) { lists = lists } } })
one_more s v b to aware lists p some fits few once =
    let rs : List Registration = s.votes.ballots.registrations in
    let r : Registration = record { index = length rs + 1; branch = b; to = to; aware = aware } in
    let more = length-append rs (r ∷ []) in
    record {
      few = p.few;
      serial = p.serial;
      seats = p.seats;
      synchronizations = p.synchronizations;
      order = order_stays rs r refl p.order;
      synchronization_order = p.synchronization_order;
      lists = omega (arith, few, more);
      once = subst (λ (n : ℕ). AreOnce lists n) (sym more) once;
      tasks = all_stay rs r s.seats.items p.tasks;
      places = places_stay s.completion rs r p.places some fits;
      tally = p.tally;
      outs = p.outs;
      outs_room = p.outs_room;
      top = p.top;
    }

pub sound_registered : (s : Inside) (v : VotesParts) (b : ℕ) (to : List ℕ) (aware : Bool) → IsSound s → 0 < spare s.completion (length s.votes.ballots.registrations)
    → length to ≤ reach s.completion → v.ballots ≡ registered b to aware s.votes.ballots → IsSound (record s { votes = v })
sound_registered s v b to aware p some fits is = subst (λ (x : Ballots). IsSound (record s { votes = record v { ballots = x } })) (sym is)
    (one_more s v b to aware _ p some fits (added_few s.votes.ballots.lists b (length s.votes.ballots.registrations + 1) (length s.votes.ballots.registrations) p.lists)
    (added_once s.votes.ballots.lists b (length s.votes.ballots.registrations) p.once))

pub sound_aware : (s : Inside) (v : VotesParts) (b : ℕ) (to : List ℕ) → IsSound s → 0 < spare s.completion (length s.votes.ballots.registrations)
    → length to ≤ reach s.completion → v.ballots ≡ registered_aware b to s.votes.ballots → IsSound (record s { votes = v })
sound_aware s v b to p some fits is = subst (λ (x : Ballots). IsSound (record s { votes = record v { ballots = x } })) (sym is)
    (one_more s v b to true _ p some fits (let few = p.lists in omega (arith, few)) (more_once s.votes.ballots.lists (length s.votes.ballots.registrations) p.once))

pub sound_sync : (s : Inside) (v : VotesParts) (b : ℕ) (to : List ℕ) → IsSound s → length s.votes.ballots.synchronizations < synchronization_limit
    → v.ballots ≡ registered_sync b to s.votes.ballots → IsSound (record s { votes = v })
sound_sync s v b to p fits is = subst (λ (x : Ballots). IsSound (record s { votes = record v { ballots = x } })) (sym is)
    (let r : Registration = record { index = length s.votes.ballots.synchronizations + 1; branch = b; to = to; aware = false } in
    let more = length-append s.votes.ballots.synchronizations (r ∷ []) in
    record {
      few = p.few;
      serial = p.serial;
      seats = p.seats;
      synchronizations = omega (arith, fits, more);
      order = p.order;
      synchronization_order = order_stays s.votes.ballots.synchronizations r refl p.synchronization_order;
      lists = p.lists;
      once = p.once;
      tasks = p.tasks;
      places = p.places;
      tally = p.tally;
      outs = p.outs;
      outs_room = p.outs_room;
      top = p.top;
    })

-- the synchronizations are fewer than there may be where one was taken
by_limit : (full : Bool) (n : ℕ) → nat_le synchronization_limit n ≡ full → by_count synchronization_limit n ≡ None → n < synchronization_limit
by_limit true n e h = absurd (cc (sym (ap (λ (b : Bool). if b then Some faults.NoResources else None) e) ∙ h))
by_limit false n e h = grind (arith, nat_tests)

by_place : (o p : Option VoteFault) → option_or o p ≡ None → p ≡ None
by_place None p h = h
by_place (Some x) p h = absurd (cc (h))

by_top : (top : Bool) (o : Option VoteFault) → (if top then o else Some faults.SynchronizationUnavailable) ≡ None → o ≡ None
by_top true o h = h
by_top false o h = absurd (cc (h))

pub sync_fits : (rows : List Row) (b : ℕ) (k : Ballots) → registering_sync rows b k ≡ None → length k.synchronizations < synchronization_limit
sync_fits rows b k h =
    by_limit (nat_le synchronization_limit (length k.synchronizations)) (length k.synchronizations) refl
    (by_place (by_status (status rows b)) _ (by_top (b == 0) _ h))

allowed : (cause : Option VoteFault) (room n : ℕ) → AnswersTo cause room (Ok n) → cause ≡ None
allowed None room n h = refl
allowed (Some x) room n h = absurd (cc (h))

pub sync_allowed : (rows : List Row) (b room n : ℕ) (k : Ballots) → AnswersTo (registering_sync rows b k) room (Ok n) → length k.synchronizations < synchronization_limit
sync_allowed rows b room n k h = sync_fits rows b k (allowed (registering_sync rows b k) room n h)

-- a synchronization was registered, or refused
pub sound_asked : (s : Inside) (v : VotesParts) (b : ℕ) (to : List ℕ) (room : ℕ) (result : Result ℕ VoteFault) → IsSound s
    → AnswersTo (registering_sync s.tree.rows b s.votes.ballots) room result → OnOk result (v.ballots ≡ registered_sync b to s.votes.ballots)
    → OnErr result (v.ballots ≡ s.votes.ballots) → IsSound (record s { votes = v })
sound_asked s v b to room (Ok n) p answer ok err = sound_sync s v b to p (sync_allowed s.tree.rows b room n s.votes.ballots answer) ok
sound_asked s v b to room (Err fault) p answer ok err = sound_same s v p err

-- ---- there is room

least : (a b : ℕ) → 0 < min a b → (0 < a) × (0 < b)
least a b h = let p = min-le_left a b in let q = min-le_right a b in (omega (arith, h, p), omega (arith, h, q))

pub spare_there : (s : Inside) → 0 < (shown s).room → (0 < s.tree.room) × (0 < s.votes.room) × (0 < spare s.completion (length s.votes.ballots.registrations))
spare_there s h =
    let all = least (min (vec_capacity s.seats - vec_len s.seats) (s.outs.capacity - vec_len s.seats)) _ h in
    let some = least (min s.tree.room s.votes.room) _ all.1 in
    let both = least s.tree.room s.votes.room some.0 in
    (both.0, both.1, some.1)

pub seat_there : (s : Inside) → 0 < (shown s).room → vec_len s.seats < s.outs.capacity
seat_there s h =
    let all = least (min (vec_capacity s.seats - vec_len s.seats) (s.outs.capacity - vec_len s.seats)) _ h in
    let both = least (vec_capacity s.seats - vec_len s.seats) (s.outs.capacity - vec_len s.seats) all.0 in
    let some = both.1 in
    omega (arith, some)
