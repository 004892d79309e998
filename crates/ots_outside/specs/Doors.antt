-- What a door gives, and how its connections are counted (our profile).
use Rattle.std.specs.Prelude.{◌≡◌, ℕ, Bool, true, List, [], ◌∷◌, Option, Some, None, Result, Ok, Err}
use Rattle.ots_outside.specs.declared.door.MemConn.{MemConn}
use Rattle.ots_outside.specs.Source.{raised}

-- a connection that was given is counted, and nothing else is
abbrev pub CountsGiven : {C E : Type 0} → Result (Option C) E → ℕ → ℕ → Type 0
CountsGiven (Ok (Some conn)) before after = after ≡ raised before
CountsGiven (Ok None) before after = after ≡ before
CountsGiven (Err e) before after = after ≡ before

-- a door has ended once it gives nothing
abbrev pub Ends : {C E : Type 0} → Result (Option C) E → Bool → Bool → Type 0
Ends (Ok (Some conn)) before after = after ≡ before
Ends (Ok None) before after = after ≡ true
Ends (Err e) before after = after ≡ before

-- an in-memory door: the connections that wait, the calls that are to fail, the number of the next call, how often it failed,
-- how many connections it gave, and whether it has ended
pub record DoorState : Type 0 where
  pub waiting : List MemConn
  pub failing : List ℕ
  pub calls : ℕ
  pub faults : ℕ
  pub given : ℕ
  pub ended : Bool

-- the connection that waited first was taken; where none waited, the door has ended
abbrev pub TakesFirst : DoorState → Option MemConn → DoorState → Type 0
TakesFirst before (Some conn) after =
    (before.waiting ≡ conn ∷ after.waiting) × (after ≡ record before { waiting = after.waiting; given = raised before.given })
TakesFirst before None after = (before.waiting ≡ []) × (after ≡ record before { ended = true })
