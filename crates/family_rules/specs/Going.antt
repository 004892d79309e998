-- What a rule needs so that it can be carried out without memory, and what it then does.
use Rattle.std.specs.Prelude.{◌≡◌, ℕ, ◌+◌, ◌*◌, ◌<◌, ◌≤◌, [], length}
use Rattle.ots_model.specs.Limits.{registration_limit}
use Rattle.family_rules.specs.Changes.{DraftParts, so_far}
use Rattle.coordinator.specs.Family.{Family, call_at}
use Rattle.coordinator.specs.Moves.{Moved, after, ◌▹◌}
use Rattle.coordinator.specs.Table.{Acted}
use Rattle.coordinator.specs.declared.said.Said.{Said}
use Rattle.coordinator.specs.Running.{left_by}

-- a rule has been carried out
abbrev pub Does : Family → DraftParts → (Family → Moved) → Family → DraftParts → Type 0
Does f d rule g e = so_far g e ≡ (so_far f d ▹ rule)

-- a call has been carried out, and is answered so
abbrev pub ActsBy : Family → DraftParts → (Family → Acted) → Family → DraftParts → Said → Type 0
ActsBy f d rule g e answer = (so_far g e ≡ after (so_far f d) (rule f).moved) × (answer ≡ (rule f).said)

-- there is room for what any call has left, and for all that a transaction's end has to tell
abbrev pub TasksFit : Family → ℕ → Type 0
TasksFit f room = (b : ℕ) → length (left_by (call_at f b)) + 2 * registration_limit ≤ room

-- no more words have gone out than there are entries, none of this step, nothing is gathered, and there is memory for so many
-- answers and effects
pub record CanGo (more : ℕ) (f : Family) (d : DraftParts) : Type 0 where
  pub some : 0 < length f.rows
  pub serial : f.serial ≤ length f.entries
  pub quiet : d.changes.words ≡ []
  pub empty : d.changes.tasks ≡ []
  pub room : more ≤ d.room
  pub tasks : TasksFit f d.tasks_room
