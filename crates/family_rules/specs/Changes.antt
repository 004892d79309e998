-- What a step brings, while it goes on.
use Rattle.std.specs.Prelude.{◌≡◌, ◌⊎◌, ℕ, List, [], None}
use Rattle.ots_model.specs.declared.completion.CallNumber.{CallNumber}
use Rattle.ots_model.specs.declared.tree.Outward.{Outward}
use Rattle.ots_model.specs.declared.tree.Word.{Word}
use Rattle.resource_votes.specs.declared.registration.Registration.{Registration}
use Rattle.family_rules.specs.declared.call.Reply.{Reply}
use Rattle.family_rules.specs.declared.call.Task.{Task}
use Rattle.family_rules.specs.declared.draft.Told.{Told}
use Rattle.coordinator.specs.declared.effect.Effect.{Effect}
use Rattle.coordinator.specs.declared.said.Finished.{Finished}
use Rattle.coordinator.specs.declared.said.Said.{Said}
use Rattle.family_rules.specs.Calls.{said_of}
use Rattle.coordinator.specs.Family.{Family}
use Rattle.coordinator.specs.Moves.{Moved}

-- the words that go out, the earlier calls that are answered, what happened, and the tasks that were gathered for a call
pub record Changes : Type 0 where
  pub words : List Outward
  pub finished : List Finished
  pub effects : List Effect
  pub tasks : List Task

-- these; for how many more answers and effects memory is taken, and for how many tasks together
pub record DraftParts : Type 0 where
  pub changes : Changes
  pub room : ℕ
  pub tasks_room : ℕ

-- the answer to a call
abbrev pub finished_of : Told → Finished
finished_of t = record { position = t.position; said = said_of t.reply }

-- a family, with what has come so far of a step
abbrev pub so_far : Family → DraftParts → Moved
so_far f d = record { family = f; words = d.changes.words; finished = d.changes.finished; effects = d.changes.effects }

-- nothing has come yet, and this is the memory that was taken
abbrev pub nothing_yet : ℕ → ℕ → DraftParts
nothing_yet room tasks_room = record { changes = record { words = []; finished = []; effects = []; tasks = [] }; room = room; tasks_room = tasks_room }

-- the same, with these tasks
abbrev pub with_tasks : List Task → DraftParts → DraftParts
with_tasks tasks d = record d { changes = record d.changes { tasks = tasks } }

-- a word to a registration or a synchronization
abbrev pub word_to : CallNumber → Word → Registration → Outward
word_to number word to = record { number = number; registration = to.index; to = to.to; word = word; receipt = None }

-- what is said is this, or what a call is answered that ends
abbrev pub IsReplied : Said → Said → Type 0
IsReplied otherwise x = (x ≡ otherwise) ⊎ ((r : Reply) × (x ≡ said_of r))
