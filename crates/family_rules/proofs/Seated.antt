-- The calls of a family, by the seats that keep them.
use Rattle.std.proofs.Common.{◌≡◌, refl, ap, ◌∙◌, ℕ, Bool, false, ◌&&◌, List, [], ◌∷◌, slice_set, Option, Some, None, is_some, is_none, if◌then◌else◌}
use Rattle.std.proofs.lemmas.List.{map-set}
use Rattle.std.specs.List.{slice_get, list_all}
use Rattle.std.specs.Option.{option_map, option_map_or, option_and_then}
use Rattle.std.proofs.lemmas.Option.{slice_get-map}
use Rattle.resource_votes.specs.declared.registration.Registration.{Registration}
use Rattle.family_rules.specs.declared.call.Call.{Call as KeptCall}
use Rattle.family_rules.specs.declared.call.Seat.{Seat}
use Rattle.family_rules.specs.declared.call.Task.{Task}
use Rattle.family_rules.specs.Calls.{seated, all_seated, call_in, has_call, plain_call, duties_in}
use Rattle.coordinator.specs.Family.{Call}

flat : {A B : Type 0} (f : A → Option B) (o : Option A) → option_and_then (λ (c : Option B). c) (option_map f o) ≡ option_and_then f o
flat f None = refl
flat f (Some x) = refl

-- the call at a place is that of the seat there
pub call_seated : (rs : List Registration) (seats : List Seat) (b : ℕ)
    → option_and_then (λ (c : Option Call). c) (slice_get (all_seated rs seats) b) ≡ option_and_then (seated rs) (slice_get seats b)
unfolding all_seated
call_seated rs seats b =
    ap (λ (o : Option (Option Call)). option_and_then (λ (c : Option Call). c) o) (slice_get-map (seated rs) seats b) ∙ flat (seated rs) (slice_get seats b)

-- there is one where the seat has one
some_seated : (rs : List Registration) (s : Seat) (c : Option KeptCall) → is_some (option_map (call_in rs s.left.items) c) ≡ is_some c
some_seated rs s None = refl
some_seated rs s (Some c) = refl

some_there : (rs : List Registration) (o : Option Seat) → is_some (option_and_then (seated rs) o) ≡ option_map_or (λ (s : Seat). is_some s.call) o false
some_there rs None = refl
some_there rs (Some s) = some_seated rs s s.call

pub is_seated : (rs : List Registration) (seats : List Seat) (b : ℕ)
    → is_some (option_and_then (λ (c : Option Call). c) (slice_get (all_seated rs seats) b)) ≡ has_call seats b
is_seated rs seats b = ap (λ (o : Option Call). is_some o) (call_seated rs seats b) ∙ some_there rs (slice_get seats b)

none_is : (rs : List Registration) (s : Seat) (c : Option KeptCall) → is_none (option_map (call_in rs s.left.items) c) ≡ is_none c
none_is rs s None = refl
none_is rs s (Some c) = refl

-- there is none where no seat has one
pub none_seated : (rs : List Registration) (seats : List Seat) → list_all is_none (all_seated rs seats) ≡ list_all (λ (s : Seat). is_none s.call) seats
unfolding all_seated
none_seated rs [] = refl
none_seated rs (s ∷ seats) =
    ap (λ b. b && list_all is_none (all_seated rs seats)) (none_is rs s s.call) ∙ ap (λ b. is_none s.call && b) (none_seated rs seats)

-- a call that has nothing left is what it is, whatever its seat keeps
pub plain_is : (rs : List Registration) (left : List Task) (c : KeptCall) → c.owes ≡ false → call_in rs left c ≡ plain_call c
plain_is rs left c h = ap (λ (b : Bool). record (plain_call c) { left = if b then duties_in rs left else [] }) h

-- a seat changes, and the calls with it
pub set_seated : (rs : List Registration) (seats : List Seat) (b : ℕ) (s : Seat) → all_seated rs (slice_set seats b s) ≡ slice_set (all_seated rs seats) b (seated rs s)
unfolding all_seated
set_seated rs seats b s = map-set (seated rs) seats b s

pub set_plain : (rs : List Registration) (seats : List Seat) (b : ℕ) (s : Seat) (c : KeptCall) → s.call ≡ Some c → c.owes ≡ false
    → all_seated rs (slice_set seats b s) ≡ slice_set (all_seated rs seats) b (Some (plain_call c))
set_plain rs seats b s c is plain =
    set_seated rs seats b s
    ∙ ap (λ (o : Option Call). slice_set (all_seated rs seats) b o)
    (ap (λ (o : Option KeptCall). option_map (call_in rs s.left.items) o) is ∙ ap (λ (x : Call). Some x) (plain_is rs s.left.items c plain))

pub set_none : (rs : List Registration) (seats : List Seat) (b : ℕ) (s : Seat) → s.call ≡ None
    → all_seated rs (slice_set seats b s) ≡ slice_set (all_seated rs seats) b None
set_none rs seats b s is =
    set_seated rs seats b s ∙ ap (λ (o : Option Call). slice_set (all_seated rs seats) b o) (ap (λ (o : Option KeptCall). option_map (call_in rs s.left.items) o) is)
