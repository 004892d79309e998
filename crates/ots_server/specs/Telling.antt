-- The words of a step go out one after another, and what is heard of each is told to its transaction, whose step may bring more of
-- them; and what is said of a call in the end (our profile).
use Rattle.std.specs.Prelude.{◌≡◌, ◌≤◌, ◌⊎◌, ℕ, Bool, true, false, List, [], ◌∷◌, ◌++◌, flat_map, Option, Some, None, IfSome, if◌then◌else◌}
use Rattle.std.specs.List.{list_any}
use Rattle.ots_calls.specs.declared.call.Call.{Call}
use Rattle.ots_calls.specs.declared.call.Call.TheVariants as calls
use Rattle.ots_calls.specs.declared.operation.Bare.TheVariants as bares
use Rattle.ots_context.specs.declared.context.Context.{Context}
use Rattle.ots_model.specs.declared.completion.Heard.TheVariants as phase_hears
use Rattle.ots_model.specs.declared.completion.Vote.TheVariants as votes
use Rattle.ots_model.specs.declared.tree.Heard.{Heard}
use Rattle.ots_model.specs.declared.tree.Heard.TheVariants as hears
use Rattle.ots_model.specs.declared.tree.Outward.{Outward}
use Rattle.coordinator.specs.declared.event.Act.TheVariants as acts
use Rattle.coordinator.specs.declared.event.Event.{Event}
use Rattle.coordinator.specs.declared.said.Finished.{Finished}
use Rattle.coordinator.specs.declared.said.Said.{Said}
use Rattle.coordinator.specs.declared.said.Said.TheVariants as says
use Rattle.coordinator.specs.declared.said.StepAnswer.{StepAnswer}
use Rattle.coordinator.specs.History.{answer_among, is_later}
use Rattle.tree_room.specs.Answers.{HasTicked}
use Rattle.tree_room.specs.declared.fault.RoomFault.TheVariants as refusals
use Rattle.tree_room.specs.Room.{RoomState}
use Rattle.ots_server.specs.Site.{Answers, Refuses, Site}
use Rattle.ots_sessions.specs.References.{coordinator_key}
use Rattle.outward_calls.specs.Moment.{LinkMoment}
use Rattle.outward_calls.specs.Words.{Home, IsLostBy, IsSent, home}

-- what came of a word: what was heard, and which earlier calls were answered by that
pub record Telling : Type 0 where
  pub heard : Heard
  pub finished : List Finished

-- what is told to the transaction that a word is of
abbrev pub event_of : ℕ → Outward → Heard → Event
event_of now word heard = record { key = None; branch = 0; now = now; act = acts.Answer word.number heard }

-- the transaction has heard it, and its words went behind the others; or it isn't there any more, and nobody was answered
pub record IsToldTo {D : Type 0} (s : Site D) (now : ℕ) (word : Outward) (telling : Telling) (rest more : List Outward) : Type 0 where
  pub answer : StepAnswer
  pub context : Option Context
  pub answered : Answers s (coordinator_key s.room.service word.number 0) (event_of now word telling.heard) answer context rest more
  pub finished_are : telling.finished ≡ answer.finished

pub record IsToldToNobody {D : Type 0} (s : Site D) (now : ℕ) (word : Outward) (telling : Telling) (rest more : List Outward) : Type 0 where
  pub gone : Refuses s (coordinator_key s.room.service word.number 0) (event_of now word telling.heard) refusals.ObjectNotExist rest more
  pub nobody : telling.finished ≡ []

-- who sends the words of a room: its service. The resources that it hands over are those of its subordinates (U)
abbrev pub home_of : RoomState → Home
home_of room = home room.at room.service 85

-- a word went out, was heard, and was told
pub record IsTelling {D : Type 0} (s : Site D) (now : ℕ) (word : Outward) (telling : Telling) (rest more : List Outward) (before after : LinkMoment) : Type 0 where
  pub sent : IfSome before.exchanged (λ done. IsSent (home_of s.room) word telling.heard done after.exchanged)
  pub lost : IsLostBy telling.heard before.faults after.faults
  pub later : before.faults ≤ after.faults
  pub told : IsToldTo s now word telling rest more ⊎ IsToldToNobody s now word telling rest more

-- from these words and this moment of the link on, each word that was first in turn went out, once, and this is what came of them;
-- what is left are these words, at this moment
pub data HaveGone {D : Type 0} (s : Site D) (now : ℕ) (words : List Outward) (before : LinkMoment) : List Telling → List Outward → LinkMoment → Type 0 where
  none : HaveGone s now words before [] words before
  one_more : (tellings : List Telling) (telling : Telling) (word : Outward) (rest more : List Outward) (midway after : LinkMoment)
      → HaveGone s now words before tellings (word ∷ rest) midway → IsTelling s now word telling rest more midway after
      → HaveGone s now words before (tellings ++ telling ∷ []) more after

-- ---- what is said in the end

-- memory was wanted for a word
abbrev pub is_want : Heard → Bool
is_want (hears.Phase phase_hears.Starved) = true
is_want heard = false

abbrev pub is_starved : List Telling → Bool
is_starved tellings = list_any (λ (t : Telling). is_want t.heard) tellings

-- who was answered in a step, and then as its words were told
abbrev pub all_finished : List Finished → List Telling → List Finished
all_finished first tellings = first ++ flat_map (λ (t : Telling). t.finished) tellings

-- what is said of a call that another session's step has answered: its transaction was rolled back
abbrev pub overtaken : Call → Said
overtaken (calls.Bare bares.Prepare) = says.Voted votes.VoteRollback
overtaken call = says.TransactionRolledBack

abbrev pub or_overtaken : Call → Option Said → Said
or_overtaken call (Some said) = said
or_overtaken call None = overtaken call

-- what is said of a call in the end: at once, or where it is answered later, there
abbrev pub said_in_the_end : Call → StepAnswer → List Telling → Said
said_in_the_end call answer tellings =
    if is_later answer.said then or_overtaken call (answer_among answer.position (all_finished answer.finished tellings)) else answer.said

-- ---- ticks

-- the clock of the room went on, and all words that were told then went out, each once, with memory for each
pub record Ticks {D : Type 0} (s : Site D) (now : ℕ) (before after : LinkMoment) : Type 0 where
  pub words : List Outward
  pub ticked : HasTicked D s.room.service s.room.life now [] words
  pub tellings : List Telling
  pub gone : HaveGone s now words before tellings [] after
  pub fed : is_starved tellings ≡ false
