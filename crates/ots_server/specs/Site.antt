-- Where calls are answered: a room, with what is known of the disk under it (our profile).
use Rattle.std.specs.Prelude.{◌⊎◌, ℕ, Bool, List, Option}
use Rattle.ior_refs.specs.declared.key.ObjectKey.{ObjectKey}
use Rattle.ots_context.specs.declared.context.Context.{Context}
use Rattle.ots_model.specs.declared.tree.Outward.{Outward}
use Rattle.ots_outside.specs.Disk.{DiskState}
use Rattle.coordinator.specs.declared.event.Event.{Event}
use Rattle.coordinator.specs.declared.said.StepAnswer.{StepAnswer}
use Rattle.tree_room.specs.Answers.{IsAnswered, IsRefused, IsStarved}
use Rattle.tree_room.specs.Room.{RoomState}
use Rattle.tree_room.specs.declared.fault.RoomFault.{RoomFault}

-- a room, and of its disk: whether it may want memory, what it tells, and how often it has failed
pub record Site (D : Type 0) : Type 0 where
  pub wants : Bool
  pub told : D → Option DiskState
  pub counts : D → ℕ
  pub room : RoomState

-- the room has answered a call so, and these are the words that went out before and after it
abbrev pub Answers : {D : Type 0} → Site D → ObjectKey → Event → StepAnswer → Option Context → List Outward → List Outward → Type 0
Answers s key event answer context words more =
    IsAnswered s.wants s.told s.counts s.room.at s.room.service s.room.life key event answer context words more

-- it has refused it
abbrev pub Refuses : {D : Type 0} → Site D → ObjectKey → Event → RoomFault → List Outward → List Outward → Type 0
Refuses s key event fault words more =
    IsRefused s.wants s.told s.counts s.room.service s.room.life key event fault words more ⊎ IsStarved event fault words more

abbrev pub site : {D : Type 0} → Bool → (D → Option DiskState) → (D → ℕ) → RoomState → Site D
site wants told counts room = record { wants = wants; told = told; counts = counts; room = room }
