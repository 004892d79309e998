-- That no call number is used twice: what a node hands out in one life has numbers of its own, and those of two lives differ (our
-- profile).
use Rattle.std.specs.Prelude.{◌≡◌, ◌≢◌, ℕ, ◌<◌, List, [], ◌∷◌, ◌++◌, Option, Contains}
use Rattle.std.specs.List.{AllByRecursion, flat_map}
use Rattle.ior_refs.specs.declared.key.ObjectKey.{ObjectKey}
use Rattle.ots_model.specs.declared.completion.Stood.{Stood}
use Rattle.ots_model.specs.declared.tree.Outward.{Outward}
use Rattle.decision_journal.specs.declared.record.JournalRecord.{JournalRecord}
use Rattle.recovery_coord.specs.Limits.{retold_slot}
use Rattle.coordinator.specs.declared.event.Event.{Event}
use Rattle.coordinator.specs.Node.{Node, life, load}
use Rattle.coordinator.specs.NodeCalls.{applies}
use Rattle.coordinator.specs.NodeSlots.{creates}
use Rattle.coordinator.specs.NodeTick.{Happening, ticks}

-- the words that go out at a tick: those of families, and then those that are told again
abbrev pub tick_words : ℕ → Node → List Outward
tick_words now n = flat_map (λ (h : Happening). h.words) (ticks now n).happened ++ (ticks now n).words

-- what a node becomes in one life, and all words that it has handed out on the way, in order: a family is made, a call comes, or
-- time passes
pub data HandsOut (n : Node) : Node → List Outward → Type 0 where
  nothing : HandsOut n n []
  made : (now seconds : ℕ) (later : Node) (some : List Outward) → HandsOut n later some → HandsOut n (creates now seconds later).node some
  called : (k : ObjectKey) (e : Event) (stood : Option Stood) (later : Node) (some : List Outward) → HandsOut n later some
      → HandsOut n (applies k e stood later).node (some ++ (applies k e stood later).words)
  ticked : (now : ℕ) (later : Node) (some : List Outward) → HandsOut n later some → HandsOut n (ticks now later).node (some ++ tick_words now later)

-- A word is told again for a record: its number has the record's place for a generation, and the registration's number for its
-- own.
pub record IsToldAgain (o : Outward) : Type 0 where
  pub slot : o.number.slot ≡ retold_slot
  pub of_registration : o.number.serial ≡ o.registration

pub record AreToldAgain (o p : Outward) : Type 0 where
  pub first : IsToldAgain o
  pub second : IsToldAgain p

-- two words have different numbers, unless both are told again, for one registration of one record
abbrev pub AreApart : Outward → Outward → Type 0
AreApart o p = o.number ≡ p.number → AreToldAgain o p

-- so has each word, and each one behind it
abbrev pub AreNumberedOnce : List Outward → Type 0
AreNumberedOnce [] = Unit {0}
AreNumberedOnce (o ∷ others) = AllByRecursion (AreApart o) others × AreNumberedOnce others

pub record NumbersAreOnce : Type 0 where
  -- whatever a node does in one life
  pub once : (service : ℕ) (records : List JournalRecord) (later : Node) (some : List Outward) → HandsOut (load service records) later some
      → AreNumberedOnce some
  -- the numbers are of that life
  pub of_life : (service : ℕ) (records : List JournalRecord) (later : Node) (some : List Outward) (o : Outward)
      → HandsOut (load service records) later some → Contains some o → o.number.life ≡ life (load service records)
  -- so those of two lives differ, also where a word is told again
  pub of_two_lives : (service other : ℕ) (records more : List JournalRecord) (n m : Node) (some others : List Outward) (o p : Outward)
      → HandsOut (load service records) n some → HandsOut (load other more) m others → life (load service records) < life (load other more)
      → Contains some o → Contains others p → o.number ≢ p.number
