-- What a replay answers, and what its sink has taken (our profile).
use Rattle.std.specs.Prelude.{◌≡◌, ◌≢◌, ℕ, ◌<◌, List, [], ◌∷◌, ◌++◌, length, take, Option, Some, IfSome}
use Rattle.std.specs.List.{AllByRecursion}
use Rattle.ots_model.specs.LineLaws.{HasNoLineFeed}
use Rattle.ots_model.specs.Safe.{AreSafe}
use Rattle.coordinator.specs.Node.{Node}
use Rattle.nodes_world.specs.Agreement.{DonesAreComplete, IsKnown, OutcomesLast, Reaches}
use Rattle.nodes_world.specs.Lives.{last_lines}
use Rattle.nodes_world.specs.StandingDecisions.{AreToldDecided}
use Rattle.nodes_world.specs.Told.{Told, known, spelled, text}
use Rattle.nodes_world.specs.ToldAgain.{TellsAgain}
use Rattle.nodes_world.specs.World.{World, node_at}
use Rattle.nodes_told.specs.Reading.{IsTold}
use Rattle.ots_outside.specs.Source.{HasRisen}
use Rattle.ots_program.specs.declared.status.Status.{Status}
use Rattle.ots_program.specs.declared.status.Status.TheVariants as statuses
use Rattle.ots_program.specs.ReadBack.{ReadsSafely}
use Rattle.ots_program.specs.Replay.{Replay, Row, Ending, Completed, Refused, Limited, replay, replay_from, rows, start}

-- the source was read to its end, where it tells its octets
abbrev pub IsReadToEnd : Option (List ℕ) → Option (List ℕ) → Type 0
IsReadToEnd before after = IfSome before (λ octets. after ≡ Some [])

-- Done comes only where the source was read to its end
abbrev pub IsDoneAtEnd : Status → Option (List ℕ) → Option (List ℕ) → Type 0
IsDoneAtEnd status before after = status ≡ statuses.Done → IsReadToEnd before after

-- ReadFault comes only where the source's count of faults rose; with any other status the count is as it was
abbrev pub HasReadFault : Status → ℕ → ℕ → Type 0
HasReadFault status before after = (status ≡ statuses.ReadFault → HasRisen before after) × (status ≢ statuses.ReadFault → after ≡ before)

-- WriteFault comes only where the sink's count of faults rose; with any other status the count is as it was
abbrev pub HasWriteFault : Status → ℕ → ℕ → Type 0
HasWriteFault status before after = (status ≡ statuses.WriteFault → HasRisen before after) × (status ≢ statuses.WriteFault → after ≡ before)

-- a status of a replay
abbrev pub OfReplay : Status → Type 0
OfReplay statuses.Done = Unit {0}
OfReplay (statuses.Script line) = Unit {0}
OfReplay statuses.ReadFault = Unit {0}
OfReplay statuses.WriteFault = Unit {0}
OfReplay (statuses.Limit line number) = Unit {0}
OfReplay statuses.Memory = Unit {0}
OfReplay _ = ⊥

-- the status tells how the replay ends; faults of the devices and want of memory may come in its place
abbrev pub Tells : Status → Ending → Type 0
Tells statuses.Done ending = ending ≡ Completed
Tells (statuses.Script line) ending = ending ≡ Refused line
Tells (statuses.Limit line number) ending = ending ≡ Limited line number
Tells _ ending = Unit {0}

-- the sink has taken these lines, whole, and nothing else
abbrev pub TakesLines : List Told → List ℕ → Option (List ℕ) → Type 0
TakesLines lines before after = after ≡ Some (before ++ text lines)

-- the sink has taken some of these lines, whole, from the front
abbrev pub TakesSome : List Told → List ℕ → Option (List ℕ) → Type 0
TakesSome lines before after = (k : ℕ) × TakesLines (take k lines) before after

-- the sink has taken a part of the text of these lines, from the front
abbrev pub TakesFront : List Told → List ℕ → Option (List ℕ) → Type 0
TakesFront lines before after = (n : ℕ) × (after ≡ Some (before ++ take n (text lines)))

-- What the sink has taken, by the status: the replay's lines, and maybe some of the further ones at a limit. Where reading
-- failed or memory ran out, some of these lines, whole, from the front. Where writing failed, a part of their text.
abbrev pub Writes : Status → Replay → List ℕ → Option (List ℕ) → Type 0
Writes statuses.Done r before after = TakesLines r.lines before after
Writes (statuses.Script line) r before after = TakesLines r.lines before after
Writes (statuses.Limit line number) r before after = (k : ℕ) × TakesLines (r.lines ++ take k r.further) before after
Writes statuses.ReadFault r before after = TakesSome (r.lines ++ r.further) before after
Writes statuses.Memory r before after = TakesSome (r.lines ++ r.further) before after
Writes _ r before after = TakesFront (r.lines ++ r.further) before after

-- a part of the first of these lines, less than the whole; nothing, where there are none
abbrev pub IsPart : List ℕ → List Told → Type 0
IsPart octets [] = octets ≡ []
IsPart octets (line ∷ others) = (n : ℕ) × (n < length (spelled line)) × (octets ≡ take n (spelled line))

-- The sink has taken whole lines, which are safe and can be read, and then maybe a part of the next one, in which no line
-- ends. They are what the replay of these octets tells first.
pub record TakesSafely (octets before : List ℕ) (after : Option (List ℕ)) : Type 0 where
  pub lines : List Told
  pub others : List Told
  pub of_replay : (replay octets).lines ++ (replay octets).further ≡ lines ++ others
  pub part : List ℕ
  pub of_next : IsPart part others
  pub taken : after ≡ Some (before ++ (text lines ++ part))
  pub safe : AreSafe (known lines)
  pub told : AllByRecursion IsTold lines
  pub one_line : HasNoLineFeed part

-- the journals that a replay tells in the end: those of its world, where all lines were carried out
abbrev pub journals_by : Ending → World → List Told
journals_by Completed w = last_lines w
journals_by (Refused line) w = []
journals_by (Limited line number) w = []

-- Agreement of a replay: the world in which it stands in the end is one that a script can reach, telling what the replay
-- has told but the journals. So all is known of it that is known of such worlds: no family is both decided and closed,
-- numbers and keys name one thing each, decisions rest on votes, and the other parts; each decision that stands at a node
-- that is up was told; and each Done names a decision that is over for all whom it names.
pub record Agrees (r : Replay) : Type 0 where
  pub lines : r.lines ≡ r.told ++ journals_by r.ending r.world
  pub reached : Reaches r.world r.told
  pub is_known : IsKnown r.world r.told
  pub standing : (place : ℕ) (n : Node) → node_at r.world place ≡ Some n → AreToldDecided r.world r.told place n.found.standing
  pub dones : DonesAreComplete r.world

-- what is decided or closed behind some of a script's lines, from its first on, is so in the end
abbrev pub OutcomesStay : List ℕ → Type 0
OutcomesStay octets = (front others : List Row) → rows octets ≡ front ++ others
    → OutcomesLast (replay_from start front).world (replay octets).world (replay_from start front).told (replay octets).told

-- Wherever a script stands, behind some of its lines, a decision that stood is told again: by a restart, and then at each tick of
-- its node to all whom it names and who haven't answered.
abbrev pub DecisionsAreToldAgain : List ℕ → Type 0
DecisionsAreToldAgain octets = (front others : List Row) → rows octets ≡ front ++ others
    → TellsAgain (replay_from start front).world (replay_from start front).told

-- A replay with this status: the source had these octets left, and the sink had taken the octets before and has taken
-- those after.
pub record Replays (status : Status) (left before after : Option (List ℕ)) : Type 0 where
  -- no other command's status is answered
  pub of_replay : OfReplay status
  -- these octets were replayed, which are all of the source's where it tells them
  pub octets : List ℕ
  pub of_source : IfSome left (λ all. all ≡ octets)
  -- the status tells how their replay ends
  pub tells : Tells status (replay octets).ending
  -- the sink has taken the lines of that replay, where it tells what it has taken
  pub writes : IfSome before (λ taken. Writes status (replay octets) taken after)
  -- and the whole lines among what it has taken are safe, whatever the status
  pub safe : IfSome before (λ taken. TakesSafely octets taken after)
  -- so they are as whichever lines they are read: lines whose names are names, and whose numbers are below 2^64
  pub read : IfSome before (λ taken. ReadsSafely taken after)
  -- the world in which that replay stands in the end agrees with what it has told
  pub agreed : Agrees (replay octets)
  -- and each family that was decided or closed on the way is so there
  pub lasts : OutcomesStay octets
  -- a decision that stood is owed after a restart, and each tick tells it to all whom it names but those that have answered
  pub again : DecisionsAreToldAgain octets

-- all that a replay tells is safe, whatever the octets
abbrev pub ReplaysAreSafe : Type 0
ReplaysAreSafe = (octets : List ℕ) → AreSafe (known ((replay octets).lines ++ (replay octets).further))
