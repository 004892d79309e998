-- A call under way waits for its answer at an entry that is there, and entries answer only calls that have their entries (our profile).
use Rattle.std.specs.Prelude.{ℕ, ◌<◌, List, length, Option, IfSome}
use Rattle.std.specs.List.{AllByRecursion}
use Rattle.coordinator.specs.Family.{Family, Call}
use Rattle.coordinator.specs.declared.said.Entry.{Entry}
use Rattle.coordinator.specs.declared.said.Finished.{Finished}

-- the place at which a call waits, if it waits at one, comes before this one
abbrev pub IsBefore : ℕ → Option ℕ → Type 0
IsBefore n caller = IfSome caller (λ position. position < n)

abbrev pub CallIsBefore : ℕ → Option Call → Type 0
CallIsBefore n o = IfSome o (λ (c : Call). IsBefore n c.caller)

-- so it does of each call under way
abbrev pub CallsAreBefore : ℕ → List (Option Call) → Type 0
CallsAreBefore n calls = AllByRecursion (CallIsBefore n) calls

-- these answers are for calls before a place
abbrev pub AnswersAreBefore : ℕ → List Finished → Type 0
AnswersAreBefore n answers = AllByRecursion (λ (a : Finished). a.position < n) answers

abbrev pub EntriesAreBefore : ℕ → List Entry → Type 0
EntriesAreBefore n entries = AllByRecursion (λ (e : Entry). AnswersAreBefore n e.finished) entries

-- each call that waits, and each that was answered later, has its entry
pub record AreThere (f : Family) : Type 0 where
  pub waiting : CallsAreBefore (length f.entries) f.calls
  pub answered : EntriesAreBefore (length f.entries) f.entries
