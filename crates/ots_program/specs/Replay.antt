-- What the replay of a script writes, and how it ends, by the octets of the script (our profile).
use Rattle.std.specs.Prelude.{ℕ, ◌+◌, Bool, true, false, ◌==◌, nat_lt, nat_le, List, [], ◌∷◌, ◌++◌, length, if◌then◌else◌}
use Rattle.nodes_world.specs.Lives.{last_lines}
use Rattle.nodes_world.specs.Step.{Stepped, Moves, Passes, Names, step}
use Rattle.nodes_world.specs.Told.{Told}
use Rattle.nodes_world.specs.World.{World, empty}
use Rattle.ots_world.specs.Script.{Reading, Blank, Says, Bad, reading}
use Rattle.ots_program.specs.Limits.{lines_limit, octets_limit}

-- one line of a script, and whether a line feed ends it
pub record Row : Type 0 where
  pub text : List ℕ
  pub ended : Bool

-- the lines of octets: each ends with its line feed, and the last one may lack it
abbrev pub onto_first_row : ℕ → List Row → List Row
onto_first_row octet [] = record { text = octet ∷ []; ended = false } ∷ []
onto_first_row octet (row ∷ others) = record { text = octet ∷ row.text; ended = row.ended } ∷ others

abbrev pub rows : List ℕ → List Row
rows [] = []
rows (octet ∷ octets) = if octet == 10 then record { text = []; ended = true } ∷ rows octets
    else onto_first_row octet (rows octets)

-- how many octets a line takes
abbrev pub size : Row → ℕ
size row = if row.ended then length row.text + 1 else length row.text

-- how a replay ends: all lines were carried out, or it stops at a line, which counts from 1
pub data Ending : Type 0 where
  Completed : Ending
  Refused : (line : ℕ) → Ending
  Limited : (line limit : ℕ) → Ending

-- The lines that a replay tells, and how it ends. Where it ends inside a script's line, at a limit, some of the further
-- lines may be told too.
pub record Replay : Type 0 where
  pub lines : List Told
  pub further : List Told
  pub ending : Ending
  -- the world behind the last line of the script that was carried out, and the lines that were told on the way to it
  pub world : World
  pub told : List Told

-- where a replay stands in front of a line: the world, and how many lines and octets were read
pub record Place : Type 0 where
  pub world : World
  pub lines : ℕ
  pub octets : ℕ

-- what one line of a script does: the replay goes on in another world, or it stops
pub data Turn : Type 0 where
  Goes : (world : World) → (lines : List Told) → Turn
  Stops : (ending : Ending) → (further : List Told) → Turn

-- by what the world makes of an event
abbrev pub turn_by : Place → Stepped → Turn
turn_by p Names = Stops (Refused (p.lines + 1)) []
turn_by p (Moves done) = Goes done.world done.lines
turn_by p (Passes limit some) = Stops (Limited (p.lines + 1) limit) some

-- by what a line says
abbrev pub turn_of : Place → Reading → Turn
turn_of p Blank = Goes p.world []
turn_of p Bad = Stops (Refused (p.lines + 1)) []
turn_of p (Says event) = turn_by p (step event p.world)

-- the limits on lines and octets come first
unfoldable pub turn : Place → Row → Turn
turn p row = if nat_le lines_limit p.lines then Stops (Limited (p.lines + 1) lines_limit) []
    else if nat_lt octets_limit (p.octets + size row) then Stops (Limited (p.lines + 1) octets_limit) []
    else turn_of p (reading row.text)

-- the place behind a line
abbrev pub behind : Place → Row → World → Place
behind p row world = record { world = world; lines = p.lines + 1; octets = p.octets + size row }

-- lines, and then a replay
abbrev pub ahead_of : List Told → Replay → Replay
ahead_of lines r = record {
  lines = lines ++ r.lines;
  further = r.further;
  ending = r.ending;
  world = r.world;
  told = lines ++ r.told;
}

-- the script has ended: the journal of each node is told
abbrev pub completed : World → Replay
completed w = record { lines = last_lines w; further = []; ending = Completed; world = w; told = [] }

-- it stops at a line
abbrev pub stopped : World → Ending → List Told → Replay
stopped w ending further = record { lines = []; further = further; ending = ending; world = w; told = [] }

-- the replay of lines, from a place on
unfoldable pub replay_from : Place → List Row → Replay
replay_from p [] = completed p.world
replay_from p (row ∷ others) = elim (turn p row) [
  | Goes world lines ↦ ahead_of lines (replay_from (behind p row world) others)
  | Stops ending further ↦ stopped p.world ending further
]

-- the start of a script, where nothing was made
abbrev pub start : Place
start = record { world = empty; lines = 0; octets = 0 }

-- the replay of a script
abbrev pub replay : List ℕ → Replay
replay octets = replay_from start (rows octets)
