-- What a world is before and after a line of a script, by what the line is answered (our profile).
use Rattle.std.specs.Prelude.{◌≡◌, ◌≢◌, ℕ, ◌⊎◌, List, [], Result, Ok, Err, IsErrOf, IfErr, OnOk}
use Rattle.ots_world.specs.declared.fault.WorldFault.{WorldFault}
use Rattle.ots_world.specs.declared.fault.WorldFault.TheVariants as faults
use Rattle.ots_world.specs.declared.script.ScriptEvent.{ScriptEvent}
use Rattle.nodes_world.specs.Happenings.{Done}
use Rattle.nodes_world.specs.Lives.{last_lines}
use Rattle.nodes_world.specs.Step.{Stepped, Moves, Passes, Names, step}
use Rattle.nodes_world.specs.Told.{Told}
use Rattle.nodes_world.specs.World.{World}
use Rattle.nodes_state.specs.Telling.{Tells, TellsPart}
use Rattle.nodes_replay.specs.Quiet.{IsQuiet}
use Rattle.nodes_replay.specs.Standing.{Standing}

-- the line moved the world on, and its lines were told
pub record Moved (old : Standing) (event : ScriptEvent) (new : Standing) (before after : List ℕ) : Type 0 where
  pub world : World
  pub was : old ≡ Ok world
  pub to : Done
  pub moves : step event world ≡ Moves to
  pub now : new ≡ Ok to.world
  pub told : Tells to.lines before after

-- the line is refused for its names, and nothing has changed
pub record Refused (old : Standing) (event : ScriptEvent) (new : Standing) (before after : List ℕ) : Type 0 where
  pub world : World
  pub was : old ≡ Ok world
  pub refused : step event world ≡ Names
  pub now : new ≡ old
  pub told : after ≡ before

-- the lines that a line of a script may tell
abbrev pub MayTell : Stepped → List Told → Type 0
MayTell (Moves to) some = some ≡ to.lines
MayTell (Passes limit lines) some = some ≡ lines
MayTell Names some = ⊥

-- The world has stopped at the line: it answers this refusal for good. Some of the lines were told, whole, from the front.
pub record Stopped (old : Standing) (event : ScriptEvent) (fault : WorldFault) (new : Standing) (before after : List ℕ) : Type 0 where
  pub world : World
  pub was : old ≡ Ok world
  pub now : new ≡ Err fault
  pub lines : List Told
  pub may : MayTell (step event world) lines
  pub told : TellsPart lines before after

-- the world answers a refusal for good
pub record Spent (old : Standing) (fault : WorldFault) (new : Standing) (before after : List ℕ) : Type 0 where
  pub was : old ≡ Err fault
  pub now : new ≡ old
  pub told : after ≡ before

-- a refusal is about names, or the world stops with it, or had stopped with it before
abbrev pub IsRefusal : Standing → ScriptEvent → WorldFault → Standing → List ℕ → List ℕ → Type 0
IsRefusal old event fault new before after = (fault ≡ faults.Names) ⊎ Stopped old event fault new before after ⊎ Spent old fault new before after

-- the line passes this limit, or the world answered it before
abbrev pub PassesLimit : Standing → ScriptEvent → ℕ → Type 0
PassesLimit (Ok w) event limit = (lines : List Told) × (step event w ≡ Passes limit lines)
PassesLimit (Err fault) event limit = fault ≡ faults.Limit limit

-- What a world has done with a line of a script, by what it answers.
pub record HasStepped (old : Standing) (event : ScriptEvent) (new : Standing) (before after : List ℕ) (result : Result (Unit {0}) WorldFault) : Type 0 where
  -- the world after the line, and the lines that tell it, are the definition's
  pub moved : OnOk result (Moved old event new before after)
  -- a line is refused for its names where the definition refuses it
  pub names : IsErrOf result faults.Names → Refused old event new before after
  -- a line that the definition refuses is refused for its names, and for nothing else
  pub refuses : (w : World) → old ≡ Ok w → step event w ≡ Names → result ≡ Err faults.Names
  -- any other refusal is answered for good, whole lines having been told
  pub stopped : IfErr result (λ fault. IsRefusal old event fault new before after)
  -- a limit is answered only where it is passed
  pub limit : (n : ℕ) → result ≡ Err (faults.Limit n) → PassesLimit old event n
  -- a line that wants no memory isn't answered by want of it
  pub quiet : (w : World) → old ≡ Ok w → IsQuiet event w → ¬ (IsErrOf result faults.Memory)
  -- what the world answers for good it answers again
  pub spent : (fault : WorldFault) → old ≡ Err fault → result ≡ Err fault

-- The end of a script: the journals are told, or memory ran out where there is one; or the refusal that the world answers for good comes
-- again.
abbrev pub HasFinished : Standing → List ℕ → List ℕ → Result (Unit {0}) WorldFault → Type 0
HasFinished (Ok w) before after (Ok _) = Tells (last_lines w) before after
HasFinished (Ok w) before after (Err fault) = (fault ≡ faults.Memory) × TellsPart (last_lines w) before after × (last_lines w ≢ [])
HasFinished (Err fault) before after result = (result ≡ Err fault) × (after ≡ before)
