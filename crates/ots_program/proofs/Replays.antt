-- A replay, line by line.
use Rattle.std.proofs.Common.{◌≡◌, ◌+◌, ◌<◌, ◌≤◌, List, [], ◌∷◌, refl}
use Rattle.std.proofs.lemmas.Bool.{le-leb, lt-leb, le-ltb, lt-ltb}
use Rattle.ots_world.specs.Script.{reading}
use Rattle.nodes_world.specs.Told.{Told}
use Rattle.nodes_world.specs.World.{World}
use Rattle.ots_program.specs.Limits.{lines_limit, octets_limit}
use Rattle.ots_program.specs.Replay.{Row, size, Ending, Limited, Place, Goes, Stops, turn, turn_of, behind, ahead_of, completed, stopped, replay_from}

-- a line too many
pub turn-past_lines : (p : Place) (row : Row) → lines_limit ≤ p.lines → turn p row ≡ Stops (Limited (p.lines + 1) lines_limit) []
unfolding turn
turn-past_lines p row h = rw (le-leb lines_limit p.lines h) refl

-- an octet too many
pub turn-past_octets : (p : Place) (row : Row) → p.lines < lines_limit → octets_limit < p.octets + size row → turn p row ≡ Stops (Limited (p.lines + 1) octets_limit) []
unfolding turn
turn-past_octets p row h long = rw (lt-leb lines_limit p.lines h, lt-ltb octets_limit (p.octets + size row) long) refl

-- a line within the limits
pub turn-within : (p : Place) (row : Row) → p.lines < lines_limit → p.octets + size row ≤ octets_limit → turn p row ≡ turn_of p (reading row.text)
unfolding turn
turn-within p row h short = rw (lt-leb lines_limit p.lines h, le-ltb octets_limit (p.octets + size row) short) refl

pub replay-ended : (p : Place) → replay_from p [] ≡ completed p.world
unfolding replay_from
replay-ended p = refl

pub replay-goes : (p : Place) (row : Row) (others : List Row) (world : World) (lines : List Told) → turn p row ≡ Goes world lines → replay_from p (row ∷ others) ≡ ahead_of lines (replay_from (behind p row world) others)
unfolding replay_from
replay-goes p row others world lines e = rw (e, replay_from) refl

pub replay-stops : (p : Place) (row : Row) (others : List Row) (ending : Ending) (further : List Told) → turn p row ≡ Stops ending further → replay_from p (row ∷ others) ≡ stopped p.world ending further
unfolding replay_from
replay-stops p row others ending further e = rw (e, replay_from) refl
