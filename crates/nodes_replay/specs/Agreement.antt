-- What is promised of a script's world beyond the definition of a line: its lines are safe, what is known of it holds, its outcomes
-- last, and decisions outlive crashes (Transaction Service, the two phases of interfaces Terminator, Coordinator and Resource).
use Rattle.std.specs.Prelude.{◌≡◌, ℕ, ◌+◌, List, [], ◌++◌, take, slice_get, Some, Result, Ok, Err}
use Rattle.ots_model.specs.Safe.{AreSafe}
use Rattle.ots_model.specs.declared.tree.Outward.{Outward}
use Rattle.ots_model.specs.declared.completion.Word.TheVariants.{Commit}
use Rattle.ots_model.specs.declared.tree.Word.TheVariants.{Phase}
use Rattle.ots_world.specs.declared.fault.WorldFault.{WorldFault}
use Rattle.ots_world.specs.declared.script.ScriptEvent.{ScriptEvent}
use Rattle.ior_refs.specs.declared.key.ObjectKey.{ObjectKey}
use Rattle.decision_journal.specs.Journal.{found_in}
use Rattle.decision_journal.specs.declared.record.JournalRecord.{JournalRecord}
use Rattle.coordinator.specs.Node.{Node}
use Rattle.coordinator.specs.declared.said.Said.{Said}
use Rattle.nodes_world.specs.declared.deed.Deed.TheVariants.{Restart}
use Rattle.resource_end.specs.declared.state.State.{State}
use Rattle.resource_end.specs.declared.state.State.TheVariants.{Applied, Undone}
use Rattle.nodes_world.specs.Agreement.{DonesAreComplete, IsKnown, IsOver, IsWord, OutcomesLast, Reaches, records_at}
use Rattle.nodes_world.specs.OverForGood.{IsAt}
use Rattle.nodes_world.specs.Lives.{last_lines}
use Rattle.nodes_world.specs.Resolve.{resolve}
use Rattle.nodes_world.specs.StandingDecisions.{AreToldDecided}
use Rattle.nodes_world.specs.Step.{Stepped, Moves, Passes, Names, step}
use Rattle.nodes_world.specs.Told.{Told, known}
use Rattle.nodes_world.specs.World.{NamedKey, World, node_at, referred}
use Rattle.nodes_world.specs.declared.message.Content.TheVariants.{Reply}
use Rattle.nodes_world.specs.declared.message.Message.{Message}
use Rattle.nodes_state.specs.Telling.{Tells}
use Rattle.nodes_replay.specs.Standing.{Standing}

-- what is known of a world, or of the refusal that it answers for good, with the lines that were told so far
abbrev pub HasTold : Standing → List Told → Type 0
HasTold (Ok w) told = Reaches w told
HasTold (Err fault) told = AreSafe (known told)

-- ---- the lines that are told

-- lines from the front of these
abbrev pub AreFront : List Told → List Told → Type 0
AreFront some lines = (k : ℕ) × (some ≡ take k lines)

-- the lines that a line of a script has told: all where it moves the world on, some from the front where the world stops, and none
-- where it is refused for its names
abbrev pub AreOfStep : Stepped → Standing → List Told → Type 0
AreOfStep (Moves to) (Ok w) some = some ≡ to.lines
AreOfStep (Moves to) (Err fault) some = AreFront some to.lines
AreOfStep (Passes limit lines) new some = AreFront some lines
AreOfStep Names new some = some ≡ []

-- a world that had stopped before tells none
abbrev pub AreOf : Standing → ScriptEvent → Standing → List Told → Type 0
AreOf (Ok w) event new some = AreOfStep (step event w) new some
AreOf (Err fault) event new some = some ≡ []

-- the lines that the end of a script has told: all, or some from the front where memory ran out; or none where the world had stopped
abbrev pub AreLast : Standing → Result (Unit {0}) WorldFault → List Told → Type 0
AreLast (Ok w) (Ok _) some = some ≡ last_lines w
AreLast (Ok w) (Err fault) some = AreFront some (last_lines w)
AreLast (Err fault) result some = some ≡ []

-- ---- what is promised

-- the line's own lines were told behind these, and all of them are safe
pub record GoesOnSafely (old : Standing) (event : ScriptEvent) (so_far : List Told) (new : Standing)
    (before after : List ℕ) : Type 0 where
  pub further : List Told
  pub own : AreOf old event new further
  pub told : Tells further before after
  pub has_told : HasTold new (so_far ++ further)
  pub safe : AreSafe (known (so_far ++ further))

-- the lines of the end were told behind these, and all of them are safe
pub record EndsSafely (old : Standing) (so_far : List Told) (before after : List ℕ)
    (result : Result (Unit {0}) WorldFault) : Type 0 where
  pub further : List Told
  pub own : AreLast old result further
  pub told : Tells further before after
  pub safe : AreSafe (known (so_far ++ further))

-- What is known of every world that is reached: no family is both decided and closed, numbers and keys name one thing each, records
-- rest on votes, and the other parts.
abbrev pub StandsKnown : Standing → List Told → Type 0
StandsKnown (Ok w) told = IsKnown w told
StandsKnown (Err fault) told = Unit {0}

-- each Done names a decision that is over for all whom it names
abbrev pub StandsComplete : Standing → Type 0
StandsComplete (Ok w) = DonesAreComplete w
StandsComplete (Err fault) = Unit {0}

-- each resource that has answered commit has stored its updates
abbrev pub CommitsAreKept : Standing → Type 0
CommitsAreKept (Ok w) =
    (nth place reply : ℕ) (o : Outward) (m : Message) (answer : Said) (r : NamedKey) → IsWord w nth place o → o.word ≡ Phase Commit
    → slice_get w.messages reply ≡ Some m → m.content ≡ Reply (nth + 1) answer → referred w o.to ≡ Some r
    → IsAt (λ (s : State). s ≡ Applied) w r.key
CommitsAreKept (Err fault) = Unit {0}

-- where a node is up, each decision that stands was told
abbrev pub DecisionsAreTold : Standing → List Told → Type 0
DecisionsAreTold (Ok w) told = (place : ℕ) (n : Node) → node_at w place ≡ Some n → AreToldDecided w told place n.found.standing
DecisionsAreTold (Err fault) told = Unit {0}

-- the line's own lines were told behind these, and what was decided or closed before them is so behind them
pub record GoesOnLasting (old : Standing) (event : ScriptEvent) (so_far : List Told) (new : Standing)
    (before after : List ℕ) : Type 0 where
  pub world : World
  pub was : old ≡ Ok world
  pub later : World
  pub now : new ≡ Ok later
  pub further : List Told
  pub own : AreOf old event new further
  pub told : Tells further before after
  pub last : OutcomesLast world later so_far (so_far ++ further)

-- a resource that had stored its updates has them still; one that had dropped them, too; and where it was over for one, it is so
pub record ResourcesStayOver (old new : Standing) : Type 0 where
  pub world : World
  pub was : old ≡ Ok world
  pub later : World
  pub now : new ≡ Ok later
  pub stored : (key : ObjectKey) → IsAt (λ (s : State). s ≡ Applied) world key → IsAt (λ (s : State). s ≡ Applied) later key
  pub dropped : (key : ObjectKey) → IsAt (λ (s : State). s ≡ Undone) world key → IsAt (λ (s : State). s ≡ Undone) later key
  pub over : (key : ObjectKey) → IsAt IsOver world key → IsAt IsOver later key

-- the line's own lines told again each decision that stands in these records of a node
pub record TellsAgain (w : World) (event : ScriptEvent) (new : Standing) (place : ℕ) (rs : List JournalRecord)
    (before after : List ℕ) : Type 0 where
  pub further : List Told
  pub own : AreOfStep (step event w) new further
  pub told : Tells further before after
  pub again : AreToldDecided w further place (found_in rs).standing

-- so it is where the line was a restart of the node whose disk holds them
abbrev pub RestartTellsAgain : Standing → ScriptEvent → Standing → List ℕ → List ℕ → Type 0
RestartTellsAgain (Ok w) event new before after =
    (place : ℕ) (rs : List JournalRecord) → resolve event w ≡ Some (Restart place) → records_at w place ≡ Some rs
    → TellsAgain w event new place rs before after
RestartTellsAgain (Err fault) event new before after = Unit {0}
