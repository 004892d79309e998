-- What the world's answer makes of a line's turn.
use Rattle.std.proofs.Common.{◌≡◌, ℕ, ◌+◌, inl, inr, List, Ok, Err, refl}
use Rattle.ots_world.specs.declared.fault.WorldFault.{WorldFault}
use Rattle.ots_world.specs.declared.fault.WorldFault.TheVariants as faults
use Rattle.ots_world.specs.declared.script.ScriptEvent.{ScriptEvent}
use Rattle.nodes_world.specs.Step.{Stepped, Moves, Passes, Names, step}
use Rattle.nodes_world.specs.Told.{Told}
use Rattle.nodes_state.specs.Telling.{TellsPart}
use Rattle.nodes_replay.specs.Standing.{Standing}
use Rattle.nodes_replay.specs.Stands as stands
use Rattle.ots_program.specs.declared.player.Stop.TheVariants as stops
use Rattle.ots_program.specs.PlayingInside.{Turns, StopsWithin, stop_by, lines_of}
use Rattle.ots_program.specs.Replay.{Place, Limited, turn_by}

-- memory ran out
TellsPart-stopped : (t : Stepped) (p : Place) (lines : List Told) (before after : List ℕ) → stands.MayTell t lines → TellsPart lines before after → TellsPart (lines_of (turn_by p t)) before after
TellsPart-stopped (Moves done) p lines before after may told = rw may at told
TellsPart-stopped (Passes limit some) p lines before after may told = rw may at told
TellsPart-stopped Names p lines before after may told = absurd may

-- a limit is passed
StopsWithin-stopped : (n : ℕ) (p : Place) (event : ScriptEvent) (old now : Standing) (before after : List ℕ) → old ≡ Ok p.world → stands.Stopped old event (faults.Limit n) now before after
    → stands.PassesLimit old event n → StopsWithin (turn_by p (step event p.world)) (Limited (p.lines + 1) n) before after
StopsWithin-stopped n p event old now before after is h limit =
    let l : stands.PassesLimit (Ok p.world) event n = rw is at limit in
    let same : h.world ≡ p.world = cc (h.was, is) in
    let may : stands.MayTell (step event p.world) h.lines = rw same at h.may in
    let e : h.lines ≡ l.0 = rw l.1 at may in
    record { further = l.0; stops = rw l.1 refl; told = rw e at h.told }

-- the line is refused for its names
Turns-named : (p : Place) (event : ScriptEvent) (old now : Standing) (before after : List ℕ) → old ≡ Ok p.world → stands.Refused old event now before after → Turns (Err (stops.Script (p.lines + 1))) (turn_by p (step event p.world)) now before after
Turns-named p event old now before after is r =
    let e : step event p.world ≡ Names = cc (r.refused, r.was, is) in
    (rw e refl, r.told)

-- the world stopped
Turns-stopped : (fault : WorldFault) (p : Place) (event : ScriptEvent) (old now : Standing) (before after : List ℕ) → old ≡ Ok p.world
    → (fault ≡ faults.Names → stands.Refused old event now before after)
    → stands.Stopped old event fault now before after
    → ((n : ℕ) → fault ≡ faults.Limit n → stands.PassesLimit old event n)
    → Turns (Err (stop_by fault (p.lines + 1))) (turn_by p (step event p.world)) now before after
Turns-stopped faults.Names p event old now before after is names h limit = Turns-named p event old now before after is (names refl)
Turns-stopped (faults.Limit n) p event old now before after is names h limit = StopsWithin-stopped n p event old now before after is h (limit n refl)
Turns-stopped faults.Memory p event old now before after is names h limit =
    let same : h.world ≡ p.world = cc (h.was, is) in
    TellsPart-stopped (step event p.world) p h.lines before after (rw same at h.may) h.told

-- the world refused the line
pub Turns-refused : (fault : WorldFault) (p : Place) (event : ScriptEvent) (old now : Standing) (before after : List ℕ) → old ≡ Ok p.world
    → (fault ≡ faults.Names → stands.Refused old event now before after)
    → stands.IsRefusal old event fault now before after
    → ((n : ℕ) → fault ≡ faults.Limit n → stands.PassesLimit old event n)
    → Turns (Err (stop_by fault (p.lines + 1))) (turn_by p (step event p.world)) now before after
Turns-refused fault p event old now before after is names (inl e) limit = rw e (Turns-named p event old now before after is (names e))
Turns-refused fault p event old now before after is names (inr (inl h)) limit = Turns-stopped fault p event old now before after is names h limit
Turns-refused fault p event old now before after is names (inr (inr h)) limit = absurd (cc (h.was, is))
