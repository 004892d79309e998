-- A resource end, the resources that transactions have there in this life, and what each call makes of both (our profile).
use Rattle.std.specs.Prelude.{◌≡◌, ◌≢◌, ◌⊎◌, ◌≤◌, ◌++◌, ℕ, Bool, true, false, not, if◌then◌else◌, List, Option, Some, None, Result, Ok, Err, IfErr, OnOk}
use Rattle.std.specs.Map.{lookup}
use Rattle.std.specs.Option.{option_and_then}
use Rattle.std.specs.Str.{bytes_eq}
use Rattle.ior_refs.specs.declared.key.ObjectKey.{ObjectKey}
use Rattle.ots_model.specs.declared.tree.Heard.{Heard}
use Rattle.ots_model.specs.declared.tree.Outward.{Outward}
use Rattle.ots_outside.specs.Disk.{DiskState}
use Rattle.resource_end.specs.Asking.{HasFrontOf}
use Rattle.resource_end.specs.Calls as calls
use Rattle.resource_end.specs.Calls.{Called, Journaled}
use Rattle.resource_end.specs.Crashes.{IsCrashSafe}
use Rattle.resource_end.specs.End.{End, state_named, stored}
use Rattle.resource_end.specs.Journaling.{EndState, IsAlone, IsCalled, IsCalledOrStarved, IsCause, IsMadeOrUnmade, afresh}
use Rattle.resource_end.specs.Limits.{resource_kind}
use Rattle.resource_end.specs.OnRecord.{IsOnRecord}
use Rattle.resource_end.specs.States.{is_forgotten, is_unfinished}
use Rattle.resource_end.specs.declared.fault.EndFault.{EndFault}
use Rattle.resource_end.specs.declared.fault.EndFault.TheVariants as faults
use Rattle.resource_end.specs.declared.state.Word.{Word}
use Rattle.end_room.specs.Deeds.{Deed, Enters, Binds, Unmakes, Puts, Reads, Has, Tells, Asks, Learns}
use Rattle.end_room.specs.Place.{EndPlace}
use Rattle.end_room.specs.declared.ends.Enlisted.{Enlisted}
use Rattle.end_room.specs.declared.ends.Entered.{Entered}
use Rattle.end_room.specs.declared.ends.Entered.TheVariants.{New, Registering, Known}

-- the resources that transactions have, by the tids of their otids
abbrev pub Names : Type 0
Names = List (List ℕ × Enlisted)

-- the resource of a transaction
abbrev pub named : List ℕ → Names → Option Enlisted
named tid names = lookup (bytes_eq tid) names

-- a resource end with its journal, the resources of transactions, and where it stands
pub record OwnState (D : Type 0) : Type 0 where
  pub end : EndState D
  pub names : Names
  pub place : EndPlace

-- ---- the unfinished resource of a transaction

abbrev pub live_one : End → Enlisted → Option Enlisted
live_one e r = if is_unfinished (state_named r.key e) then Some r else None

-- a transaction's resource, while that is unfinished
abbrev pub live : List ℕ → Names → End → Option Enlisted
live tid names e = option_and_then (live_one e) (named tid names)

-- ---- names that come and go

-- a transaction has this resource now, and the others what they had
pub record IsNamed (tid : List ℕ) (r : Enlisted) (before after : Names) : Type 0 where
  pub own : named tid after ≡ Some r
  pub others : (other : List ℕ) → other ≢ tid → named other after ≡ named other before

-- the name of one that is over may be dropped
abbrev pub IsDropped : End → Option Enlisted → Option Enlisted → Type 0
IsDropped e None after = ⊥
IsDropped e (Some r) after = (is_unfinished (state_named r.key e) ≡ false) × (after ≡ None)

-- each transaction has what it had, but that the names of those that are over may be dropped
abbrev pub Keeps : End → Names → Names → Type 0
Keeps e before after = (tid : List ℕ) → (named tid after ≡ named tid before) ⊎ IsDropped e (named tid before) (named tid after)

-- ---- what each call does

-- what holds of a call that may touch the journal: a crash inside it is safe, what is on record stays so, and each fault has a cause
pub record IsKept {A D : Type 0} (wants : Bool) (told : D → Option DiskState) (counts : D → ℕ) (before after : EndState D)
    (said : Result A EndFault) : Type 0 where
  pub crash : IsCrashSafe told before after
  pub stays : IsOnRecord before → IsOnRecord after
  pub fault : IfErr said (IsCause wants told counts before.journal after.journal)
  pub later : counts before.journal.disk ≤ counts after.journal.disk

-- how a transaction finds its unfinished resource
abbrev pub entered_as : Enlisted → Entered
entered_as r = if r.bound then Known r.key else Registering

abbrev pub new_as : Result ObjectKey EndFault → Result Entered EndFault
new_as (Ok key) = Ok (New key)
new_as (Err fault) = Err fault

abbrev pub NamesNew : List ℕ → Result ObjectKey EndFault → Names → Names → Type 0
NamesNew tid (Ok key) before after = IsNamed tid (record { key = key; bound = false }) before after
NamesNew tid (Err fault) before after = after ≡ before

-- a resource is made for a transaction, or none can be
pub record IsNew {D : Type 0} (tid : List ℕ) (before : OwnState D) (said : Result Entered EndFault) (after : OwnState D) : Type 0 where
  pub key : Result ObjectKey EndFault
  pub made : IsMadeOrUnmade resource_kind before.end after.end key
  pub stays : IsOnRecord before.end → IsOnRecord after.end
  pub said_is : said ≡ new_as key
  pub names : NamesNew tid key before.names after.names

-- one was made, but memory was wanted for its name, and it was unmade
pub record IsUnkept {D : Type 0} (before : OwnState D) (said : Result Entered EndFault) (after : OwnState D) : Type 0 where
  pub key : ObjectKey
  pub midway : EndState D
  pub made : IsMadeOrUnmade resource_kind before.end midway (Ok key)
  pub unmade : after.end ≡ record midway { end = calls.unmake key midway.end }
  pub stays : IsOnRecord before.end → IsOnRecord after.end
  pub said_is : said ≡ Err faults.Memory
  pub names : after.names ≡ before.names

abbrev pub EntersAs : {D : Type 0} → Option Enlisted → List ℕ → OwnState D → Result Entered EndFault → OwnState D → Type 0
EntersAs (Some r) tid before said after = (said ≡ Ok (entered_as r)) × (after ≡ before)
EntersAs None tid before said after = IsNew tid before said after ⊎ IsUnkept before said after

-- a transaction has the resource of this key registered, where that is its own; no name changes else
pub record IsRegistered (r : Enlisted) (tid : List ℕ) (key : ObjectKey) (before after : Names) : Type 0 where
  pub this : r.key ≡ key → IsNamed tid (record r { bound = true }) before after
  pub another : r.key ≢ key → after ≡ before

abbrev pub NamesBound : Option Enlisted → List ℕ → ObjectKey → Names → Names → Type 0
NamesBound (Some r) tid key before after = IsRegistered r tid key before after
NamesBound None tid key before after = after ≡ before

-- a resource is bound, as the end does it. One that was told its end meanwhile may be its transaction's no more
pub record IsBound {D : Type 0} (tid : List ℕ) (key : ObjectKey) (recovery : List ℕ) (before : OwnState D) (said : Result (Unit {0}) EndFault)
    (after : OwnState D) : Type 0 where
  pub called : IsAlone before.end after.end said (calls.bind key recovery before.end.end)
  pub stays : IsOnRecord before.end → IsOnRecord after.end
  pub names : NamesBound (named tid before.names) tid key before.names after.names

-- a resource is unmade, where it has put nothing
pub record UnmakesAs {D : Type 0} (key : ObjectKey) (before after : OwnState D) : Type 0 where
  pub unmade : after.end ≡ record before.end { end = calls.unmake key before.end.end }
  pub stays : IsOnRecord before.end → IsOnRecord after.end
  pub names : Keeps after.end.end before.names after.names

-- a resource has put a value into a cell, or was refused
pub record HasPut {D : Type 0} (wants : Bool) (told : D → Option DiskState) (counts : D → ℕ) (key : ObjectKey) (cell value : ℕ)
    (before : OwnState D) (said : Result (Unit {0}) EndFault) (after : OwnState D) : Type 0 where
  pub called : IsCalledOrStarved told before.end after.end said (calls.put key cell value)
  pub kept : IsKept wants told counts before.end after.end said
  pub names : after.names ≡ before.names

-- what a transaction sees of a cell
abbrev pub seen_or : Option ℕ → Result (Option ℕ) EndFault → Option ℕ
seen_or other (Ok seen) = seen
seen_or other (Err fault) = other

abbrev pub seen_by : ℕ → End → Option Enlisted → Option ℕ
seen_by cell e (Some r) = seen_or (stored cell e) (calls.get r.key cell e)
seen_by cell e None = stored cell e

abbrev pub sees : Option (List ℕ) → ℕ → Names → End → Option ℕ
sees (Some tid) cell names e = seen_by cell e (live tid names e)
sees None cell names e = stored cell e

-- a resource was told a word
pub record IsTold {D : Type 0} (wants : Bool) (told : D → Option DiskState) (counts : D → ℕ) (word : Word) (key : ObjectKey)
    (before : OwnState D) (said : Result Heard EndFault) (after : OwnState D) : Type 0 where
  pub called : IsCalled told (afresh before.end) after.end said (calls.wanted word key) (calls.told word key)
  pub kept : IsKept wants told counts before.end after.end said
  pub names : Keeps after.end.end before.names after.names

-- the asks of those that wait for an outcome were put behind other words
pub record HasAsked (e : End) (words more : List Outward) (said : Result (Unit {0}) EndFault) : Type 0 where
  pub all : OnOk said (more ≡ words ++ calls.asks e)
  pub front : HasFrontOf words (calls.asks e) more
  pub memory : IfErr said (λ fault. fault ≡ faults.Memory)

-- a resource has heard the answer to its ask
pub record HasLearnt {D : Type 0} (wants : Bool) (told : D → Option DiskState) (counts : D → ℕ) (key : ObjectKey) (heard : Heard)
    (before : OwnState D) (said : Result (Unit {0}) EndFault) (after : OwnState D) : Type 0 where
  pub called : IsCalled told (afresh before.end) after.end said (calls.wanted_by_answer heard key) (calls.learn key heard)
  pub kept : IsKept wants told counts before.end after.end said
  pub names : Keeps after.end.end before.names after.names

-- a call of an end has done this
abbrev pub Does : {D : Type 0} → Bool → (D → Option DiskState) → (D → ℕ) → OwnState D → Deed → OwnState D → Type 0
Does wants told counts before (Enters tid said) after = EntersAs (live tid before.names before.end.end) tid before said after
Does wants told counts before (Binds tid key recovery said) after = IsBound tid key recovery before said after
Does wants told counts before (Unmakes key) after = UnmakesAs key before after
Does wants told counts before (Puts key cell value said) after = HasPut wants told counts key cell value before said after
Does wants told counts before (Reads tid cell seen) after = (seen ≡ sees tid cell before.names before.end.end) × (after ≡ before)
Does wants told counts before (Has key there) after = (there ≡ not (is_forgotten (state_named key before.end.end))) × (after ≡ before)
Does wants told counts before (Tells word key said) after = IsTold wants told counts word key before said after
Does wants told counts before (Asks words more said) after = HasAsked before.end.end words more said × (after ≡ before)
Does wants told counts before (Learns key heard said) after = HasLearnt wants told counts key heard before said after

-- some end has done it, one that lies behind a lock
abbrev pub DoesSome : {D : Type 0} → Bool → (D → Option DiskState) → (D → ℕ) → Deed → Type 0
DoesSome {D = D} wants told counts deed = (before : OwnState D) × ((after : OwnState D) × Does wants told counts before deed after)
