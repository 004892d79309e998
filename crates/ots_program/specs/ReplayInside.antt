-- A replay at a piece of its source, and at the end: what its player told goes to the sink (our profile).
use Rattle.std.specs.Prelude.{◌≡◌, ℕ, ◌+◌, List, [], ◌++◌, length, Option, IfSome}
use Rattle.nodes_world.specs.Told.{Told, text}
use Rattle.ots_outside.specs.Sink.{Takes}
use Rattle.ots_program.specs.declared.player.Player.{Player}
use Rattle.ots_program.specs.declared.player.Stop.{Stop}
use Rattle.ots_program.specs.declared.player.Stop.TheVariants as stops
use Rattle.ots_program.specs.declared.status.Status.{Status}
use Rattle.ots_program.specs.declared.status.Status.TheVariants as statuses
use Rattle.ots_program.specs.Answers.{OfReplay, Tells, Writes}
use Rattle.ots_program.specs.PlayingInside.{Plays, left, octets_fed}
use Rattle.ots_program.specs.Replay.{Replay, ahead_of}

-- the player plays on, and all that it told was written
pub record IsReady (p : Player) : Type 0 where
  pub plays : Plays p
  pub written : p.output.items ≡ []

-- a replay went on to what is left of it, and the sink has taken its lines so far
pub record Advances (from rest : Replay) (before after : Option (List ℕ)) : Type 0 where
  pub lines : List Told
  pub whole : from ≡ ahead_of lines rest
  pub taken : Takes before (text lines) after

-- a replay ended with this status, and the sink has taken its lines
pub record Halts (status : Status) (r : Replay) (before after : Option (List ℕ)) : Type 0 where
  pub of_replay : OfReplay status
  pub tells : Tells status r.ending
  pub writes : IfSome before (λ taken. Writes status r taken after)

-- the player played a piece, whatever comes behind it
pub record PlaysPiece (old new : Player) (piece : List ℕ) (before after : Option (List ℕ)) : Type 0 where
  pub ready : IsReady new
  pub fed : octets_fed new ≡ octets_fed old + length piece
  pub advances : (rest : List ℕ) → Advances (left old (piece ++ rest)) (left new rest) before after

-- the status for a stop
abbrev pub status_of : Stop → Status
status_of (stops.Script line) = statuses.Script line
status_of (stops.Limit line number) = statuses.Limit line number
status_of stops.Memory = statuses.Memory

-- a status with which a replay breaks off at a piece
abbrev pub StopsReplay : Status → Type 0
StopsReplay (statuses.Script line) = Unit {0}
StopsReplay statuses.WriteFault = Unit {0}
StopsReplay (statuses.Limit line number) = Unit {0}
StopsReplay statuses.Memory = Unit {0}
StopsReplay _ = ⊥

-- the replay broke off at a piece, whatever comes behind it
pub record BreaksOff (status : Status) (old : Player) (piece : List ℕ) (before after : Option (List ℕ)) : Type 0 where
  pub stops : StopsReplay status
  pub halts : (rest : List ℕ) → Halts status (left old (piece ++ rest)) before after
