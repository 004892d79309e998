-- What the calls of a family are by its seats, and what a change of one of these makes of the family.
use Rattle.std.proofs.Common.{◌≡◌, ◌∙◌, refl, ap, sym, subst, ℕ, zero, suc, ◌<◌, ◌&&◌, ◌+◌, Bool, true, false, not, cond, position, List, [], ◌∷◌, drop, length, get_or, slice_set, Option, Some, None, is_some, arith, if◌then◌else◌}
use Rattle.std.specs.Prelude.{nat_lt}
use Rattle.std.specs.List.{slice_get, prefix_len}
use Rattle.std.specs.Option.{option_map, option_map_or, option_and_then, IsSome, IfSome}
use Rattle.resource_votes.specs.Ballots.{numbered}
use Rattle.std.proofs.lemmas.List.{set-get_or, length-map, length-set, get_or-set_same}
use Rattle.std.proofs.lemmas.Option.{slice_get-get_or}
use Rattle.ots_model.specs.declared.completion.CallNumber.{CallNumber}
use Rattle.resource_votes.specs.declared.registration.Registration.{Registration}
use Rattle.family_rules.specs.declared.call.Call.{Call as KeptCall}
use Rattle.family_rules.specs.declared.call.Seat.{Seat}
use Rattle.family_rules.specs.declared.call.Task.{Task}
use Rattle.family_rules.specs.Calls.{deciding_in, deciding_seat, AreTasks, AllTasks, Sees, all_seated, call_in, call_kept, changed_in, changed_seat, duties_in, duty_in, has_left, has_serial, has_tasks, keeps_tasks, left_at, left_behind, left_below_it, left_by_call, owed, owed_below, owed_by, owes_below, plain_call, seated, told_in}
use Rattle.coordinator.specs.Family.{Family, Call, Duty, call_at, with_call, has_out, is_own_number, waiting_for}
use Rattle.coordinator.specs.Running.{has_some, left_by, left_below, is_below, overtaken_caller}
use Rattle.coordinator.specs.declared.call.Leg.{Leg}
use Rattle.coordinator.specs.declared.call.Leg.TheVariants.{Below, Own, Before, Deciding, After}
use Rattle.family_rules.proofs.Duties.{duty_of}
use Rattle.family_rules.proofs.Seated.{call_seated, set_seated}

-- ---- the call of a seat

pub at_seat : (f : Family) (rs : List Registration) (seats : List Seat) (b : ℕ) (s : Seat) → f.calls ≡ all_seated rs seats → b < length seats → s ≡ get_or seats b s
    → call_at f b ≡ seated rs s
at_seat f rs seats b s is within has =
    ap (λ (cs : List (Option Call)). call_at (record f { calls = cs }) b) is
    ∙ (call_seated rs seats b
    ∙ ap (λ (o : Option Seat). option_and_then (seated rs) o) (slice_get-get_or seats b s within ∙ ap (λ (x : Seat). Some x) (sym has)))

sees_call : (rs : List Registration) (left : List Task) (o : Option KeptCall) → Sees o (option_map (call_in rs left) o)
sees_call rs left None = refl
sees_call rs left (Some k) =
    ((if k.owes then duties_in rs left else []), refl, λ (h : k.owes ≡ false). ap (λ (b : Bool). if b then duties_in rs left else []) h)

sees_seat : (rs : List Registration) (o : Option Seat) → Sees (option_and_then (λ (s : Seat). s.call) o) (option_and_then (seated rs) o)
sees_seat rs None = refl
sees_seat rs (Some s) = sees_call rs s.left.items s.call

pub sees : (f : Family) (rs : List Registration) (seats : List Seat) (b : ℕ) → f.calls ≡ all_seated rs seats → Sees (call_kept seats b) (call_at f b)
sees f rs seats b is =
    subst (λ (o : Option Call). Sees (call_kept seats b) o)
    (sym (ap (λ (cs : List (Option Call)). call_at (record f { calls = cs }) b) is ∙ call_seated rs seats b))
    (sees_seat rs (slice_get seats b))

pub kept_within : (seats : List Seat) (b : ℕ) → is_some (call_kept seats b) ≡ true → b < length seats
kept_within [] b h = absurd (cc (h))
kept_within (s ∷ seats) zero h = omega arith
kept_within (s ∷ seats) (suc b) h = omega (arith, kept_within seats b h)

-- ---- what it has left to tell

by_owes : (rs : List Registration) (left : List Task) (b : Bool) → (if b then duties_in rs left else []) ≡ duties_in rs (if b then left else [])
by_owes rs left true = refl
by_owes rs left false = refl

left_of : (rs : List Registration) (left : List Task) (o : Option KeptCall)
    → option_map_or (λ (c : Call). c.left) (option_map (call_in rs left) o) [] ≡ duties_in rs (owed_by o left)
left_of rs left None = refl
left_of rs left (Some k) = by_owes rs left k.owes

tasks_if : (rs : List Registration) (left : List Task) (b : Bool) → AreTasks rs left → AreTasks rs (if b then left else [])
tasks_if rs left true all = all
tasks_if rs left false all = tt

tasks_owed : (rs : List Registration) (left : List Task) (o : Option KeptCall) → AreTasks rs left → AreTasks rs (owed_by o left)
tasks_owed rs left None all = tt
tasks_owed rs left (Some k) all = tasks_if rs left k.owes all

pub left_is : (f : Family) (rs : List Registration) (seats : List Seat) (b : ℕ) (s : Seat) → f.calls ≡ all_seated rs seats → b < length seats → s ≡ get_or seats b s
    → left_at f b ≡ duties_in rs (owed s)
left_is f rs seats b s is within has =
    ap (λ (o : Option Call). option_map_or (λ (c : Call). c.left) o []) (at_seat f rs seats b s is within has) ∙ left_of rs s.left.items s.call

has_some_of : (rs : List Registration) (tasks : List Task) → AreTasks rs tasks → has_some (duties_in rs tasks) ≡ has_tasks tasks
has_some_of rs [] all = refl
has_some_of rs (t ∷ tasks) all = ap (λ (ds : List Duty). has_some ds) (duty_of rs t tasks all.0).first

left_in : (rs : List Registration) (seats : List Seat) (b : ℕ) → AllTasks rs seats
    → has_some (option_map_or (λ (c : Call). c.left) (option_and_then (seated rs) (slice_get seats b)) []) ≡ keeps_tasks seats b
left_in rs [] b all = refl
left_in rs (s ∷ seats) zero all =
    ap (λ (ds : List Duty). has_some ds) (left_of rs s.left.items s.call) ∙ has_some_of rs (owed s) (tasks_owed rs s.left.items s.call all.0)
left_in rs (s ∷ seats) (suc b) all = left_in rs seats b all.1

pub has_left_is : (f : Family) (rs : List Registration) (seats : List Seat) (b : ℕ) → f.calls ≡ all_seated rs seats → AllTasks rs seats
    → keeps_tasks seats b ≡ has_left f b
has_left_is f rs seats b is all =
    sym (ap (λ (cs : List (Option Call)). has_left (record f { calls = cs }) b) is
    ∙ (ap (λ (o : Option Call). has_some (option_map_or (λ (c : Call). c.left) o [])) (call_seated rs seats b) ∙ left_in rs seats b all))

-- ---- a seat changes

pub put : (f : Family) (rs : List Registration) (seats : List Seat) (b : ℕ) (new : Seat) (o : Option Call) → f.calls ≡ all_seated rs seats → seated rs new ≡ o
    → ◌≡◌ {A = Family} (record f { calls = all_seated rs (slice_set seats b new) }) (record f { calls = slice_set f.calls b o })
put f rs seats b new o is of =
    ap (λ (cs : List (Option Call)). record f { calls = cs })
    (set_seated rs seats b new
    ∙ (ap (λ (x : Option Call). slice_set (all_seated rs seats) b x) of ∙ ap (λ (cs : List (Option Call)). slice_set cs b o) (sym is)))

-- a seat is what it was, for all that a family has of it
pub puts_same : (f : Family) (rs : List Registration) (seats : List Seat) (b : ℕ) (s new : Seat) → f.calls ≡ all_seated rs seats → s ≡ get_or seats b s
    → seated rs new ≡ seated rs s → ◌≡◌ {A = Family} (record f { calls = all_seated rs (slice_set seats b new) }) f
puts_same f rs seats b s new is has same =
    put f rs seats b new (seated rs s) is same
    ∙ ap (λ (cs : List (Option Call)). record f { calls = cs })
    (ap (λ (cs : List (Option Call)). slice_set cs b (seated rs s)) is
    ∙ (sym (set_seated rs seats b s)
    ∙ (ap (λ (x : Seat). all_seated rs (slice_set seats b x)) has ∙ (ap (λ (xs : List Seat). all_seated rs xs) (set-get_or seats b s) ∙ sym is))))

-- the call of a family changes as that of its seat does
altered : (Call → Call) → Option Call → ℕ → Family → Family
altered q (Some c) b f = with_call b (q c) f
altered q None b f = f

alters_by : (f : Family) (rs : List Registration) (seats : List Seat) (b : ℕ) (s : Seat) (p : KeptCall → KeptCall) (q : Call → Call) (o : Option KeptCall) → s.call ≡ o
    → ((k : KeptCall) → call_in rs s.left.items (p k) ≡ q (call_in rs s.left.items k)) → f.calls ≡ all_seated rs seats → b < length seats → s ≡ get_or seats b s
    → ◌≡◌ {A = Family} (record f { calls = all_seated rs (slice_set seats b (record s { call = option_map p s.call })) }) (altered q (call_at f b) b f)
unfolding altered
alters_by f rs seats b s p q None of alike is within has =
    let left : List Task = s.left.items in
    let same : option_map (call_in rs left) (option_map p s.call) ≡ seated rs s =
    ap (λ (x : Option KeptCall). option_map (call_in rs left) (option_map p x)) of ∙ sym (ap (λ (x : Option KeptCall). option_map (call_in rs left) x) of) in
    let none : call_at f b ≡ None = at_seat f rs seats b s is within has ∙ ap (λ (x : Option KeptCall). option_map (call_in rs left) x) of in
    puts_same f rs seats b s (record s { call = option_map p s.call }) is has same ∙ sym (ap (λ (x : Option Call). altered q x b f) none)
alters_by f rs seats b s p q (Some k) of alike is within has =
    let left : List Task = s.left.items in
    let now : option_map (call_in rs left) (option_map p s.call) ≡ Some (q (call_in rs left k)) =
    ap (λ (x : Option KeptCall). option_map (call_in rs left) (option_map p x)) of ∙ ap (λ (x : Call). Some x) (alike k) in
    let was : call_at f b ≡ Some (call_in rs left k) = at_seat f rs seats b s is within has ∙ ap (λ (x : Option KeptCall). option_map (call_in rs left) x) of in
    put f rs seats b (record s { call = option_map p s.call }) _ is now ∙ sym (ap (λ (x : Option Call). altered q x b f) was)

changed_alike : (caller out : Option ℕ) (o : Option Call) (b : ℕ) (f : Family) → altered (λ (c : Call). record c { caller = caller; out = out }) o b f ≡ changed_in o b caller out f
unfolding altered
changed_alike caller out None b f = refl
changed_alike caller out (Some c) b f = refl

pub call_changes : (f : Family) (rs : List Registration) (seats : List Seat) (b : ℕ) (s : Seat) (caller out : Option ℕ)
    → f.calls ≡ all_seated rs seats → b < length seats → s ≡ get_or seats b s
    → ◌≡◌ {A = Family} (record f { calls = all_seated rs (slice_set seats b (changed_seat caller out s)) }) (changed_in (call_at f b) b caller out f)
call_changes f rs seats b s caller out is within has =
    alters_by f rs seats b s (λ (k : KeptCall). record k { caller = caller; out = out }) (λ (c : Call). record c { caller = caller; out = out }) s.call refl (λ k. refl) is within has
    ∙ changed_alike caller out (call_at f b) b f

deciding_alike : (o : Option Call) (b : ℕ) (f : Family) → altered (λ (c : Call). record c { leg = Deciding }) o b f ≡ deciding_in o b f
unfolding altered
deciding_alike None b f = refl
deciding_alike (Some c) b f = refl

pub call_decides : (f : Family) (rs : List Registration) (seats : List Seat) (b : ℕ) (s : Seat)
    → f.calls ≡ all_seated rs seats → b < length seats → s ≡ get_or seats b s
    → ◌≡◌ {A = Family} (record f { calls = all_seated rs (slice_set seats b (deciding_seat s)) }) (deciding_in (call_at f b) b f)
call_decides f rs seats b s is within has =
    alters_by f rs seats b s (λ (k : KeptCall). record k { leg = Deciding }) (λ (c : Call). record c { leg = Deciding }) s.call refl (λ k. refl) is within has
    ∙ deciding_alike (call_at f b) b f

-- ---- a task is told

dropped : (rs : List Registration) (tasks : List Task) → AreTasks rs tasks → duties_in rs (drop 1 tasks) ≡ drop 1 (duties_in rs tasks)
dropped rs [] all = refl
dropped rs (t ∷ tasks) all = sym (ap (λ (ds : List Duty). drop 1 ds) (duty_of rs t tasks all.0).first)

if_dropped : (rs : List Registration) (left : List Task) (b : Bool) → AreTasks rs left
    → (if b then duties_in rs (if b then drop 1 left else left) else []) ≡ drop 1 (if b then duties_in rs left else [])
if_dropped rs left true all = dropped rs left all
if_dropped rs left false all = refl

tells_by : (f : Family) (rs : List Registration) (seats : List Seat) (b : ℕ) (s new : Seat) (o : Option KeptCall) → s.call ≡ o → new.call ≡ s.call
    → new.left.items ≡ left_behind s → AreTasks rs s.left.items → f.calls ≡ all_seated rs seats → b < length seats → s ≡ get_or seats b s
    → ◌≡◌ {A = Family} (record f { calls = all_seated rs (slice_set seats b new) }) (told_in (call_at f b) b f)
tells_by f rs seats b s new None of call rest all is within has =
    let none : seated rs s ≡ None = ap (λ (x : Option KeptCall). option_map (call_in rs s.left.items) x) of in
    let now : seated rs new ≡ None = ap (λ (x : Option KeptCall). option_map (call_in rs new.left.items) x) (call ∙ of) in
    puts_same f rs seats b s new is has (now ∙ sym none)
    ∙ sym (ap (λ (x : Option Call). told_in x b f) (at_seat f rs seats b s is within has ∙ none))
tells_by f rs seats b s new (Some k) of call rest all is within has =
    let left : List Task = s.left.items in
    let was : seated rs s ≡ Some (call_in rs left k) = ap (λ (x : Option KeptCall). option_map (call_in rs left) x) of in
    let behind : new.left.items ≡ (if k.owes then drop 1 left else left) = rest ∙ ap (λ (x : Option KeptCall). left_by_call x left) of in
    let now : seated rs new ≡ Some (record (plain_call k) { left = drop 1 (if k.owes then duties_in rs left else []) }) =
    ap (λ (x : Option KeptCall). option_map (call_in rs new.left.items) x) (call ∙ of)
    ∙ ap (λ (ds : List Duty). Some (record (plain_call k) { left = ds }))
    (ap (λ (xs : List Task). if k.owes then duties_in rs xs else []) behind ∙ if_dropped rs left k.owes all) in
    put f rs seats b new _ is now
    ∙ sym (ap (λ (x : Option Call). told_in x b f) (at_seat f rs seats b s is within has ∙ was))

pub tells_first : (f : Family) (rs : List Registration) (seats : List Seat) (b : ℕ) (s new : Seat) → new.call ≡ s.call
    → new.left.items ≡ left_behind s → AreTasks rs s.left.items → f.calls ≡ all_seated rs seats → b < length seats → s ≡ get_or seats b s
    → ◌≡◌ {A = Family} (record f { calls = all_seated rs (slice_set seats b new) }) (told_in (call_at f b) b f)
tells_first f rs seats b s new call rest all is within has = tells_by f rs seats b s new s.call refl call rest all is within has

first_duty : (rs : List Registration) (tasks : List Task) → AreTasks rs tasks → option_and_then (duty_in rs) (slice_get tasks 0) ≡ slice_get (duties_in rs tasks) 0
first_duty rs [] all = refl
first_duty rs (t ∷ tasks) all =
    let d = duty_of rs t tasks all.0 in
    d.is ∙ sym (ap (λ (ds : List Duty). slice_get ds 0) d.first)

pub first_is : (f : Family) (rs : List Registration) (seats : List Seat) (b : ℕ) (s : Seat) (t : Option Task) → t ≡ slice_get (owed s) 0 → AreTasks rs s.left.items
    → f.calls ≡ all_seated rs seats → b < length seats → s ≡ get_or seats b s
    → option_and_then (duty_in rs) t ≡ slice_get (left_at f b) 0
first_is f rs seats b s t of all is within has =
    ap (λ (x : Option Task). option_and_then (duty_in rs) x) of
    ∙ (first_duty rs (owed s) (tasks_owed rs s.left.items s.call all)
    ∙ sym (ap (λ (ds : List Duty). slice_get ds 0) (left_is f rs seats b s is within has)))

first_there : (rs : List Registration) (tasks : List Task) → AreTasks rs tasks
    → IfSome (slice_get tasks 0) (λ (t : Task). IsSome (numbered rs t.registration))
first_there rs [] all = tt
first_there rs (t ∷ tasks) all = all.0

pub first_task_there : (rs : List Registration) (s : Seat) (t : Option Task) → t ≡ slice_get (owed s) 0 → AreTasks rs s.left.items
    → IfSome t (λ (x : Task). IsSome (numbered rs x.registration))
first_task_there rs s t of all =
    subst (λ (o : Option Task). IfSome o (λ (x : Task). IsSome (numbered rs x.registration))) (sym of) (first_there rs (owed s) (tasks_owed rs s.left.items s.call all))

tasks_dropped : (rs : List Registration) (left : List Task) → AreTasks rs left → AreTasks rs (drop 1 left)
tasks_dropped rs [] all = tt
tasks_dropped rs (t ∷ tasks) all = all.1

tasks_if_dropped : (rs : List Registration) (left : List Task) (b : Bool) → AreTasks rs left → AreTasks rs (if b then drop 1 left else left)
tasks_if_dropped rs left true all = tasks_dropped rs left all
tasks_if_dropped rs left false all = all

tasks_left : (rs : List Registration) (left : List Task) (o : Option KeptCall) → AreTasks rs left → AreTasks rs (left_by_call o left)
tasks_left rs left None all = all
tasks_left rs left (Some k) all = tasks_if_dropped rs left k.owes all

pub still_tasks : (rs : List Registration) (s : Seat) (xs : List Task) → xs ≡ left_behind s → AreTasks rs s.left.items → AreTasks rs xs
still_tasks rs s xs is all = subst (λ (ys : List Task). AreTasks rs ys) (sym is) (tasks_left rs s.left.items s.call all)

-- ---- a seat is vacated

abbrev cond_below : Bool → Leg → List Task → List Task
cond_below owes leg left = if owes && is_below leg then left else []

if_below : (rs : List Registration) (left : List Task) (leg : Leg) (k : Call) (owes : Bool) → k.left ≡ (if owes then duties_in rs left else [])
    → left_below leg k ≡ duties_in rs (cond_below owes leg left)
if_below rs left Below k true is = is
if_below rs left Below k false is = is
if_below rs left Own k true is = refl
if_below rs left Own k false is = refl
if_below rs left (Before n) k true is = refl
if_below rs left (Before n) k false is = refl
if_below rs left Deciding k true is = refl
if_below rs left Deciding k false is = refl
if_below rs left (After n) k true is = refl
if_below rs left (After n) k false is = refl

left_by_is : (rs : List Registration) (left : List Task) (o : Option KeptCall)
    → left_by (option_map (call_in rs left) o) ≡ duties_in rs (if owes_below o then left else [])
left_by_is rs left None = refl
left_by_is rs left (Some k) = if_below rs left k.leg (call_in rs left k) k.owes refl

pub owed_below_is : (f : Family) (rs : List Registration) (seats : List Seat) (b : ℕ) (s : Seat)
    → f.calls ≡ all_seated rs seats → b < length seats → s ≡ get_or seats b s → duties_in rs (owed_below s) ≡ left_by (call_at f b)
owed_below_is f rs seats b s is within has =
    sym (ap (λ (o : Option Call). left_by o) (at_seat f rs seats b s is within has) ∙ left_by_is rs s.left.items s.call)

pub tasks_below : (rs : List Registration) (s : Seat) → AreTasks rs s.left.items → AreTasks rs (owed_below s)
tasks_below rs s all = tasks_if rs s.left.items (owes_below s.call) all

tasks_if_not : (rs : List Registration) (left : List Task) (b : Bool) → AreTasks rs left → AreTasks rs (if b then [] else left)
tasks_if_not rs left true all = tt
tasks_if_not rs left false all = all

pub tasks_left_below : (rs : List Registration) (s : Seat) (xs : List Task) → xs ≡ left_below_it s → AreTasks rs s.left.items → AreTasks rs xs
tasks_left_below rs s xs is all = subst (λ (ys : List Task). AreTasks rs ys) (sym is) (tasks_if_not rs s.left.items (owes_below s.call) all)

caller_by : (rs : List Registration) (left : List Task) (o : Option KeptCall)
    → overtaken_caller (option_map (call_in rs left) o) ≡ option_and_then (λ (k : KeptCall). k.caller) o
caller_by rs left None = refl
caller_by rs left (Some k) = refl

pub caller_is : (f : Family) (rs : List Registration) (seats : List Seat) (b : ℕ) (s : Seat)
    → f.calls ≡ all_seated rs seats → b < length seats → s ≡ get_or seats b s
    → option_and_then (λ (k : KeptCall). k.caller) s.call ≡ overtaken_caller (call_at f b)
caller_is f rs seats b s is within has =
    sym (ap (λ (o : Option Call). overtaken_caller o) (at_seat f rs seats b s is within has) ∙ caller_by rs s.left.items s.call)

pub puts_none : (f : Family) (rs : List Registration) (seats : List Seat) (b : ℕ) (new : Seat) → f.calls ≡ all_seated rs seats → new.call ≡ None
    → ◌≡◌ {A = Family} (record f { calls = all_seated rs (slice_set seats b new) }) (record f { calls = slice_set f.calls b None })
puts_none f rs seats b new is none = put f rs seats b new None is (ap (λ (o : Option KeptCall). option_map (call_in rs new.left.items) o) none)

-- ---- the seat whose word is out

out_of : (rs : List Registration) (left : List Task) (serial : ℕ) (o : Option KeptCall) → has_out serial (option_map (call_in rs left) o) ≡ has_serial serial o
out_of rs left serial None = refl
out_of rs left serial (Some k) = refl

passed : (rs : List Registration) (serial : ℕ) (seats : List Seat)
    → prefix_len (λ (c : Option Call). not (has_out serial c)) (all_seated rs seats) ≡ prefix_len (λ (s : Seat). not (has_serial serial s.call)) seats
unfolding all_seated
passed rs serial [] = refl
passed rs serial (s ∷ seats) =
    ap (λ (b : Bool). cond (not b) (1 + prefix_len (λ (c : Option Call). not (has_out serial c)) (all_seated rs seats)) 0) (out_of rs s.left.items serial s.call)
    ∙ ap (λ (n : ℕ). cond (not (has_serial serial s.call)) (1 + n) 0) (passed rs serial seats)

as_many_seated : (rs : List Registration) (seats : List Seat) → length (all_seated rs seats) ≡ length seats
unfolding all_seated
as_many_seated rs seats = simp length-map

pub placed : (f : Family) (rs : List Registration) (serial : ℕ) (seats : List Seat) → f.calls ≡ all_seated rs seats
    → position (λ (s : Seat). has_serial serial s.call) seats ≡ position (has_out serial) f.calls
placed f rs serial seats is =
    sym (ap (λ (cs : List (Option Call)). position (has_out serial) cs) is
    ∙ (ap (λ (n : ℕ). cond (nat_lt n (length (all_seated rs seats))) (Some n) None) (passed rs serial seats)
    ∙ ap (λ (m : ℕ). cond (nat_lt (prefix_len (λ (s : Seat). not (has_serial serial s.call)) seats) m) (Some (prefix_len (λ (s : Seat). not (has_serial serial s.call)) seats)) None) (as_many_seated rs seats)))

pub waits_at : (f : Family) (n : CallNumber) (o : Option ℕ) → is_own_number f n ≡ true → o ≡ position (has_out n.serial) f.calls → o ≡ waiting_for f n
unfolding waiting_for
waits_at f n o own is = is ∙ sym (ap (λ (b : Bool). if b then position (has_out n.serial) f.calls else None) own)

pub waits_nowhere : (f : Family) (n : CallNumber) → is_own_number f n ≡ false → None ≡ waiting_for f n
unfolding waiting_for
waits_nowhere f n own = sym (ap (λ (b : Bool). if b then position (has_out n.serial) f.calls else None) own)

-- a call that was put is there
pub put_there : (f : Family) (rs : List Registration) (seats : List Seat) (b : ℕ) (new : Seat) → f.calls ≡ all_seated rs (slice_set seats b new) → b < length seats
    → call_at f b ≡ seated rs new
put_there f rs seats b new is within =
    let many : length (slice_set seats b new) ≡ length seats = simp length-set in
    at_seat f rs (slice_set seats b new) b new is (omega (arith, many, within)) (sym (get_or-set_same seats b new new within))
