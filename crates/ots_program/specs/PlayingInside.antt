-- The player of a replay: what it is fed, and what it tells (our profile).
use Rattle.std.specs.Prelude.{◌≡◌, ◌≢◌, ℕ, ◌+◌, ◌<◌, ◌≤◌, Bool, List, [], ◌++◌, length, take, Result, Ok, Err}
use Rattle.std.specs.List.{AllByRecursion}
use Rattle.ots_world.specs.declared.fault.WorldFault.{WorldFault}
use Rattle.ots_world.specs.declared.fault.WorldFault.TheVariants as faults
use Rattle.nodes_world.specs.Told.{Told}
use Rattle.nodes_world.specs.World.{World, empty}
use Rattle.nodes_state.specs.Telling.{Tells, TellsPart}
use Rattle.nodes_replay.specs.Standing.{Standing}
use Rattle.ots_program.specs.declared.player.Player.{Player}
use Rattle.ots_program.specs.declared.player.Stop.{Stop}
use Rattle.ots_program.specs.declared.player.Stop.TheVariants as stops
use Rattle.ots_program.specs.Limits.{lines_limit, octets_limit}
use Rattle.ots_program.specs.Replay.{Replay, Ending, Completed, Refused, Limited, Place, Row, Turn, Goes, Stops, rows, replay_from, ahead_of}

-- the world that stands
abbrev pub world_of : Standing → World
world_of (Ok world) = world
world_of (Err fault) = empty

-- how many octets the player was fed
abbrev pub octets_fed : Player → ℕ
octets_fed p = p.octets + length p.line.items

-- octets without a line feed
abbrev pub IsOneLine : List ℕ → Type 0
IsOneLine text = AllByRecursion (λ octet. octet ≢ 10) text

-- the player plays on, within the limits, and what it has of the next line holds no line feed
pub record Plays (p : Player) : Type 0 where
  pub stands : p.world ≡ Ok (world_of p.world)
  pub one_line : IsOneLine p.line.items
  pub octets : octets_fed p ≤ octets_limit
  pub lines : p.lines ≤ lines_limit
  pub begun : p.line.items ≢ [] → p.lines < lines_limit

-- where the player stands in front of the next line
abbrev pub place_of : Player → Place
place_of p = record { world = world_of p.world; lines = p.lines; octets = p.octets }

-- a line that is whole, with its line feed or without
abbrev pub row_of : List ℕ → Bool → Row
row_of text ended = record { text = text; ended = ended }

-- the replay that is left, where these octets are still to come
abbrev pub left : Player → List ℕ → Replay
left p octets = replay_from (place_of p) (rows (p.line.items ++ octets))

-- a replay went on to what is left of it, and its lines so far were told
pub record Passes (from rest : Replay) (before after : List ℕ) : Type 0 where
  pub lines : List Told
  pub whole : from ≡ ahead_of lines rest
  pub told : Tells lines before after

-- octets were fed to a player, which plays on, whatever comes behind them
pub record IsFed (old new : Player) (octets : List ℕ) : Type 0 where
  pub plays : Plays new
  pub count : octets_fed new ≡ octets_fed old + length octets
  pub passes : (rest : List ℕ) → Passes (left old (octets ++ rest)) (left new rest) old.output.items new.output.items

-- a replay stopped, and its lines were told
abbrev pub StopsAt : Stop → Replay → List ℕ → List ℕ → Type 0
StopsAt (stops.Script line) r before after = (r.ending ≡ Refused line) × Tells r.lines before after
StopsAt (stops.Limit line number) r before after =
    (r.ending ≡ Limited line number) × ((k : ℕ) × Tells (r.lines ++ take k r.further) before after)
StopsAt stops.Memory r before after = TellsPart (r.lines ++ r.further) before after

-- what had come of the next line was taken out of a player
pub record IsEmptied (old new : Player) : Type 0 where
  pub line : new.line.items ≡ []
  pub world : new.world ≡ old.world
  pub lines : new.lines ≡ old.lines
  pub octets : new.octets ≡ old.octets
  pub output : new.output ≡ old.output

-- octets were fed to a player, which stopped in them, whatever comes behind them
abbrev pub StopsIn : Stop → Player → Player → List ℕ → Type 0
StopsIn stop old new octets =
    (rest : List ℕ) → StopsAt stop (left old (octets ++ rest)) old.output.items new.output.items

-- the script has ended, and all of its lines were told
pub record Ends (r : Replay) (before after : List ℕ) : Type 0 where
  pub ending : r.ending ≡ Completed
  pub told : Tells r.lines before after

-- why a replay stops at a line, by why the world refuses it
abbrev pub stop_by : WorldFault → ℕ → Stop
stop_by faults.Names line = stops.Script line
stop_by (faults.Limit number) line = stops.Limit line number
stop_by faults.Memory line = stops.Memory

-- the lines that a turn tells
abbrev pub lines_of : Turn → List Told
lines_of (Goes world lines) = lines
lines_of (Stops ending further) = further

-- a turn went on, to a world that stands now, and its lines were told
pub record GoesOn (turn : Turn) (now : Standing) (before after : List ℕ) : Type 0 where
  pub world : World
  pub lines : List Told
  pub goes : turn ≡ Goes world lines
  pub stands : now ≡ Ok world
  pub told : Tells lines before after

-- a turn stopped at a limit, and some of its lines were told
pub record StopsWithin (turn : Turn) (ending : Ending) (before after : List ℕ) : Type 0 where
  pub further : List Told
  pub stops : turn ≡ Stops ending further
  pub told : TellsPart further before after

-- a line's turn was taken, as it is answered
abbrev pub Turns : Result (Unit {0}) Stop → Turn → Standing → List ℕ → List ℕ → Type 0
Turns (Ok _) turn now before after = GoesOn turn now before after
Turns (Err (stops.Script line)) turn now before after = (turn ≡ Stops (Refused line) []) × (after ≡ before)
Turns (Err (stops.Limit line number)) turn now before after = StopsWithin turn (Limited line number) before after
Turns (Err stops.Memory) turn now before after = TellsPart (lines_of turn) before after
