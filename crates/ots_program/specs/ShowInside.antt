-- A show at a piece of its source, behind which more may come, and at the end (our profile).
use Rattle.std.specs.Prelude.{◌≡◌, ℕ, List, ◌++◌, Option, None, IfSome, Err}
use Rattle.giop_frames.specs.declared.fault.FrameFault.{FrameFault}
use Rattle.giop_frames.specs.declared.fault.FrameFault.TheVariants.{Short, Memory}
use Rattle.giop_streams.specs.declared.framed.Framed.{Framed}
use Rattle.giop_frames.specs.Header.{profile_versions}
use Rattle.giop_streams.specs.Stream.{IsBegun, IsCut, IsRefused, IsWhole, part_at}
use Rattle.giop_streams.specs.Held.{Held, Holds}
use Rattle.ots_outside.specs.Sink.{Takes}
use Rattle.ots_program.specs.declared.status.Status.{Status}
use Rattle.ots_program.specs.declared.status.Status.TheVariants as statuses
use Rattle.ots_program.specs.MessageLine.{message_lines}
use Rattle.ots_program.specs.Show.{WritesMessageLines}

-- how a show breaks off at a piece, by its status, behind the messages whose lines were told; more octets may come
abbrev pub Breaks : Status → List Framed → List ℕ → Type 0
Breaks (statuses.BadMessage place fault) messages octets = IsRefused profile_versions messages place fault octets
Breaks _ messages octets = IsBegun profile_versions messages octets

-- a status with which taking a piece breaks off
abbrev pub OfPiece : Status → Type 0
OfPiece (statuses.BadMessage place fault) = Unit {0}
OfPiece statuses.Memory = Unit {0}
OfPiece _ = ⊥

-- a status with which showing a piece breaks off
abbrev pub StopsShow : Status → Type 0
StopsShow statuses.WriteFault = Unit {0}
StopsShow status = OfPiece status

-- the status by which a show breaks off at a refusal of the stream, which stands at this place
abbrev pub status_by : ℕ → FrameFault → Status
status_by place Memory = statuses.Memory
status_by place fault = statuses.BadMessage place fault

-- a stream took a piece, and gave these messages
abbrev pub GivesMessages : Held → Held → List ℕ → List Framed → Type 0
GivesMessages old new piece messages =
    (octets : List ℕ) (given : List Framed) → Holds profile_versions octets given old → Holds profile_versions (octets ++ piece) (given ++ messages) new

-- a stream gave these messages of a piece, and then broke off
abbrev pub BreaksBehind : Status → Held → List ℕ → List Framed → Type 0
BreaksBehind status old piece messages =
    (octets : List ℕ) (given : List Framed) → Holds profile_versions octets given old → Breaks status (given ++ messages) (octets ++ piece)

-- a stream took a piece, and the lines of the messages that are whole now were told; no whole part is left
pub record TellsPiece (old new : Held) (piece told : List ℕ) : Type 0 where
  pub messages : List Framed
  pub gives : GivesMessages old new piece messages
  pub told_is : told ≡ message_lines messages
  pub partial : part_at new.versions new.rest ≡ Err Short
  pub accepts : new.refused ≡ None

-- a show broke off at a piece, and these lines were told
pub record TellsBreak (status : Status) (old : Held) (piece told : List ℕ) : Type 0 where
  pub messages : List Framed
  pub stops : OfPiece status
  pub breaks : BreaksBehind status old piece messages
  pub told_is : told ≡ message_lines messages

-- a stream took a piece, and the lines of the messages that are whole now went out; no whole part is left
pub record TookPiece (old new : Held) (piece : List ℕ) (before after : Option (List ℕ)) : Type 0 where
  pub messages : List Framed
  pub gives : GivesMessages old new piece messages
  pub taken : Takes before (message_lines messages) after
  pub partial : part_at new.versions new.rest ≡ Err Short
  pub accepts : new.refused ≡ None

-- a show broke off at a piece
pub record BrokeOff (status : Status) (old : Held) (piece : List ℕ) (before after : Option (List ℕ)) : Type 0 where
  pub messages : List Framed
  pub stops : StopsShow status
  pub breaks : BreaksBehind status old piece messages
  pub writes : IfSome before (λ taken. WritesMessageLines status messages taken after)

-- the stream ends here: with no message unfinished, or inside the earliest message that isn't whole
abbrev pub EndsStream : Status → Held → Type 0
EndsStream statuses.Done h =
    (octets : List ℕ) (messages : List Framed) → Holds profile_versions octets messages h → IsWhole profile_versions messages octets
EndsStream (statuses.BadMessage place fault) h =
    (fault ≡ Short) × ((octets : List ℕ) (messages : List Framed) → Holds profile_versions octets messages h → IsCut profile_versions messages place octets)
EndsStream _ h = ⊥
