-- How a family keeps the calls under way.
use Rattle.std.specs.Prelude.{◌≡◌, ℕ, ◌==◌, ◌&&◌, ◌≤◌, length, Bool, true, false, is_some, List, [], ◌∷◌, drop, map, Option, Some, None, if◌then◌else◌}
use Rattle.std.specs.List.{filter_map, slice_get}
use Rattle.std.specs.Option.{option_map, option_map_or, option_and_then, IsSome}
use Rattle.resource_votes.specs.Ballots.{Ballots, numbered}
use Rattle.resource_votes.specs.declared.registration.Registration.{Registration}
use Rattle.family_rules.specs.declared.call.Aim.{Aim as KeptAim}
use Rattle.family_rules.specs.declared.call.Aim.TheVariants as kept
use Rattle.family_rules.specs.declared.call.Call.{Call as KeptCall}
use Rattle.family_rules.specs.declared.call.Reply.{Reply}
use Rattle.family_rules.specs.declared.call.Reply.TheVariants as replies
use Rattle.family_rules.specs.declared.call.Seat.{Seat}
use Rattle.family_rules.specs.declared.call.Task.{Task}
use Rattle.coordinator.specs.declared.said.Said.{Said}
use Rattle.coordinator.specs.declared.said.Said.TheVariants as said
use Rattle.coordinator.specs.Family.{Family, Call, Duty, Aim, Commits, RollsBack, call_at, with_call}
use Rattle.coordinator.specs.declared.call.Ending.{Ending}
use Rattle.coordinator.specs.declared.call.Leg.TheVariants.{Deciding}
use Rattle.coordinator.specs.Running.{has_some, is_below}

abbrev pub said_of : Reply → Said
said_of replies.Plain = said.Plain
said_of replies.RolledBack = said.TransactionRolledBack
said_of replies.Mixed = said.HeuristicMixed
said_of replies.Hazard = said.HeuristicHazard
said_of replies.CommFailure = said.CommFailure
said_of replies.PersistStore = said.PersistStore
said_of replies.NoMemory = said.NoMemory

abbrev pub aim_of : KeptAim → Aim
aim_of (kept.Commits asked) = Commits asked
aim_of (kept.RollsBack reply) = RollsBack (said_of reply)

-- what a task is among these registrations
abbrev pub duty_in : List Registration → Task → Option Duty
duty_in registrations t = option_map (λ (r : Registration). record { ending = t.ending; resource = r }) (numbered registrations t.registration)

abbrev pub duties_in : List Registration → List Task → List Duty
duties_in registrations tasks = filter_map (duty_in registrations) tasks

-- each task is of a registration that there is
abbrev pub AreTasks : List Registration → List Task → Type 0
AreTasks registrations [] = Unit {0}
AreTasks registrations (t ∷ tasks) = IsSome (numbered registrations t.registration) × AreTasks registrations tasks

-- what each seat keeps is
abbrev pub AllTasks : List Registration → List Seat → Type 0
AllTasks registrations [] = Unit {0}
AllTasks registrations (s ∷ seats) = AreTasks registrations s.left.items × AllTasks registrations seats

-- a call that has nothing left to tell
abbrev pub plain_call : KeptCall → Call
plain_call c = record { caller = c.caller; aim = aim_of c.aim; leg = c.leg; left = []; out = c.out }

abbrev pub call_in : List Registration → List Task → KeptCall → Call
call_in registrations left c = record (plain_call c) { left = if c.owes then duties_in registrations left else [] }

-- the call of a seat
abbrev pub seated : List Registration → Seat → Option Call
seated registrations s = option_map (call_in registrations s.left.items) s.call

unfoldable pub all_seated : List Registration → List Seat → List (Option Call)
all_seated registrations seats = map (seated registrations) seats

-- a call is under way at this place
abbrev pub has_call : List Seat → ℕ → Bool
has_call seats place = option_map_or (λ (s : Seat). is_some s.call) (slice_get seats place) false

-- a call as it is kept is one of the family, apart from what it has left to tell
abbrev pub Sees : Option KeptCall → Option Call → Type 0
Sees None c = c ≡ None
Sees (Some k) c = (left : List Duty) × (c ≡ Some (record (plain_call k) { left = left })) × (k.owes ≡ false → left ≡ [])

-- a call has the word with this number out
abbrev pub has_serial : ℕ → Option KeptCall → Bool
has_serial serial c = option_map_or (λ (d : KeptCall). option_map_or (λ s. s == serial) d.out false) c false

-- what the call of a family at a branch has left to tell
abbrev pub left_at : Family → ℕ → List Duty
left_at f b = option_map_or (λ (c : Call). c.left) (call_at f b) []

abbrev pub has_left : Family → ℕ → Bool
has_left f b = has_some (left_at f b)

-- the call of the seat at a place
abbrev pub call_kept : List Seat → ℕ → Option KeptCall
call_kept seats place = option_and_then (λ (s : Seat). s.call) (slice_get seats place)

-- what a seat's call has left to tell
abbrev pub owed_by : Option KeptCall → List Task → List Task
owed_by (Some c) left = if c.owes then left else []
owed_by None left = []

abbrev pub owed : Seat → List Task
owed s = owed_by s.call s.left.items

abbrev pub has_tasks : List Task → Bool
has_tasks [] = false
has_tasks (t ∷ tasks) = true

abbrev pub keeps_tasks : List Seat → ℕ → Bool
keeps_tasks seats place = option_map_or (λ (s : Seat). has_tasks (owed s)) (slice_get seats place) false

-- a seat whose call has another caller, and another word out
abbrev pub changed_seat : Option ℕ → Option ℕ → Seat → Seat
changed_seat caller out s = record s { call = option_map (λ (c : KeptCall). record c { caller = caller; out = out }) s.call }

-- a seat whose call goes on with the completion
abbrev pub deciding_seat : Seat → Seat
deciding_seat s = record s { call = option_map (λ (c : KeptCall). record c { leg = Deciding }) s.call }

-- what a seat keeps once its call has told the first of what it has left
abbrev pub left_by_call : Option KeptCall → List Task → List Task
left_by_call (Some c) left = if c.owes then drop 1 left else left
left_by_call None left = left

abbrev pub left_behind : Seat → List Task
left_behind s = left_by_call s.call s.left.items

-- what its call has left to tell of a rollback below it, and what the seat keeps without that
abbrev pub owes_below : Option KeptCall → Bool
owes_below (Some c) = c.owes && is_below c.leg
owes_below None = false

abbrev pub owed_below : Seat → List Task
owed_below s = if owes_below s.call then s.left.items else []

abbrev pub left_below_it : Seat → List Task
left_below_it s = if owes_below s.call then [] else s.left.items

-- a task for a registration
abbrev pub task_to : Ending → Registration → Task
task_to ending r = record { ending = ending; registration = r.index }

-- the caller of a call changes, and which word of it is out
abbrev pub changed_in : Option Call → ℕ → Option ℕ → Option ℕ → Family → Family
changed_in (Some c) b caller out f = with_call b (record c { caller = caller; out = out }) f
changed_in None b caller out f = f

-- a call goes on with the completion
abbrev pub deciding_in : Option Call → ℕ → Family → Family
deciding_in (Some c) b f = with_call b (record c { leg = Deciding }) f
deciding_in None b f = f

-- a call has told the first of what it has left
abbrev pub told_in : Option Call → ℕ → Family → Family
told_in (Some c) b f = with_call b (record c { left = drop 1 c.left }) f
told_in None b f = f

-- the registration with a number is told of the end of a subtransaction
abbrev pub is_aware_at : Ballots → ℕ → ℕ → Bool
is_aware_at b branch number = option_map_or (λ (r : Registration). r.aware && r.branch == branch) (numbered b.registrations number) false

-- no seat keeps more than so many
abbrev pub AllLeft : List Seat → ℕ → Type 0
AllLeft [] most = Unit {0}
AllLeft (s ∷ seats) most = (length s.left.items ≤ most) × AllLeft seats most
