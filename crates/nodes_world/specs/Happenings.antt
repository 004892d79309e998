-- What comes of something in a world, and the lines that tell what happened to a family (our profile).
use Rattle.std.specs.Prelude.{ℕ, ◌==◌, true, false, List, [], ◌∷◌, ◌++◌, codes, find, slice_get, Option, Some, None}
use Rattle.std.specs.List.{flat_map}
use Rattle.std.specs.Option.{option_map, option_and_then}
use Rattle.ior_refs.specs.declared.key.ObjectKey.{ObjectKey}
use Rattle.ots_model.specs.declared.completion.Reason.TheVariants as phase_reasons
use Rattle.ots_model.specs.declared.line.Line.TheVariants as lines
use Rattle.ots_model.specs.declared.service.RetryKey.{RetryKey}
use Rattle.ots_model.specs.Numbered.{Outcome}
use Rattle.ots_model.specs.declared.completion.Outcome.TheVariants as outcomes
use Rattle.ots_model.specs.declared.tree.Outward.{Outward}
use Rattle.ots_model.specs.declared.tree.Reason.{Reason}
use Rattle.ots_model.specs.declared.tree.Reason.TheVariants as reasons
use Rattle.resource_votes.specs.declared.registration.Registration.{Registration}
use Rattle.coordinator.specs.declared.effect.Effect.{Effect}
use Rattle.coordinator.specs.declared.effect.Effect.TheVariants as effects
use Rattle.coordinator.specs.declared.said.Entry.{Entry}
use Rattle.coordinator.specs.declared.said.Finished.{Finished}
use Rattle.coordinator.specs.declared.said.Said.{Said}
use Rattle.coordinator.specs.Family.{Family}
use Rattle.nodes_world.specs.declared.message.Content.{Content}
use Rattle.nodes_world.specs.declared.message.Content.TheVariants as contents
use Rattle.nodes_world.specs.declared.message.Message.{Message}
use Rattle.nodes_world.specs.Objects.{branch_of}
use Rattle.nodes_world.specs.Told.{Told, Known, Answered, Back, RolledBack, RolledBackBy, Marked, Doubted, sent}
use Rattle.nodes_world.specs.World.{World, NamedKey, next_message, transaction_name, referred, with_sent}

-- the world after something, and the lines that tell it
pub record Done : Type 0 where
  pub world : World
  pub lines : List Told

-- nothing comes of it
abbrev pub nothing : World → Done
nothing w = record { world = w; lines = [] }

-- it is told, and changes nothing
abbrev pub tells : List Told → World → Done
tells some w = record { world = w; lines = some }

-- it changes the world, and isn't told
abbrev pub changes : World → Done
changes w = nothing w

abbrev pub after : Done → Done → Done
after first later = record { world = later.world; lines = first.lines ++ later.lines }

-- one thing, and then what comes next
infixl 10 ◌▹◌
abbrev pub ◌▹◌ : Done → (World → Done) → Done
first ▹ next = after first (next first.world)

-- a line that speaks of something by its name, where it has one
abbrev pub naming : (List ℕ → Told) → Option (List ℕ) → List Told
naming say (Some name) = say name ∷ []
naming say None = []

-- ---- messages

-- a message that was just sent
abbrev pub new_message : Content → Message
new_message content = record { content = content; delivered = false; lost = false; answered = false }

-- a client's call, which is delivered at once
abbrev pub client_message : Content → Message
client_message content = record (new_message content) { delivered = true }

-- a word goes out from the seat at a place
unfoldable pub requests : ℕ → Outward → World → Done
requests place o w = record {
  world = with_sent (new_message (contents.Request place o)) w;
  lines = naming (sent (next_message w) o.word) (option_map (λ (r : NamedKey). r.name) (referred w o.to));
}

-- and words, in order
abbrev pub requests_all : ℕ → List Outward → World → Done
requests_all place [] w = nothing w
requests_all place (o ∷ others) w = requests place o w ▹ requests_all place others

-- the reply to a request goes out
unfoldable pub replies : ℕ → Said → World → Done
replies request answer w = record {
  world = with_sent (new_message (contents.Reply request answer)) w;
  lines = Back (next_message w) request answer ∷ [];
}

-- ---- what happened to a family

-- whom the effects of a family speak of: the key of the family, and who is registered with it
pub record Cast : Type 0 where
  pub key : ObjectKey
  pub registrations : List Registration
  pub synchronizations : List Registration

abbrev pub cast_of : Family → Cast
cast_of f = record { key = f.key; registrations = f.ballots.registrations; synchronizations = f.ballots.synchronizations }

-- of a family that is gone only its key is spoken of
abbrev pub cast_of_key : ObjectKey → Cast
cast_of_key key = record { key = key; registrations = []; synchronizations = [] }

-- the name of a branch
abbrev pub branch_name : World → Cast → ℕ → Option (List ℕ)
branch_name w c branch = transaction_name w (branch_of c.key branch)

-- the name of the object that is registered with a number
abbrev pub name_numbered : World → List Registration → ℕ → Option (List ℕ)
name_numbered w some number =
    option_map (λ (r : NamedKey). r.name)
    (option_and_then (λ (r : Registration). referred w r.to) (find (λ (r : Registration). r.index == number) some))

abbrev pub registered : World → Cast → ℕ → Option (List ℕ)
registered w c number = name_numbered w c.registrations number

abbrev pub synchronized : World → Cast → ℕ → Option (List ℕ)
synchronized w c number = name_numbered w c.synchronizations number

-- why a transaction was rolled back
abbrev pub rollback_lines : World → Cast → List ℕ → Reason → List Told
rollback_lines w c name reasons.Asked = RolledBack name (codes "Asked") ∷ []
rollback_lines w c name reasons.Marked = RolledBack name (codes "Marked") ∷ []
rollback_lines w c name reasons.Timeout = RolledBack name (codes "Timeout") ∷ []
rollback_lines w c name (reasons.Phase (phase_reasons.Vote g)) =
    naming (λ (object : List ℕ). Known (lines.Decide name (outcomes.Rollback (phase_reasons.Vote object)))) (registered w c g)
rollback_lines w c name (reasons.Phase (phase_reasons.PrepareLost g)) =
    naming (λ (object : List ℕ). Known (lines.Decide name (outcomes.Rollback (phase_reasons.PrepareLost object)))) (registered w c g)
rollback_lines w c name (reasons.Phase (phase_reasons.PrepareStarved g)) =
    naming (λ (object : List ℕ). Known (lines.Decide name (outcomes.Rollback (phase_reasons.PrepareStarved object)))) (registered w c g)
rollback_lines w c name (reasons.Phase (phase_reasons.PrepareFault g)) =
    naming (λ (object : List ℕ). Known (lines.Decide name (outcomes.Rollback (phase_reasons.PrepareFault object)))) (registered w c g)
rollback_lines w c name (reasons.SyncLost s) = naming (RolledBackBy name (codes "SyncLost")) (synchronized w c s)
rollback_lines w c name (reasons.SyncStarved s) = naming (RolledBackBy name (codes "SyncStarved")) (synchronized w c s)
rollback_lines w c name (reasons.Phase (phase_reasons.JournalFull used need)) =
    Known (lines.Decide name (outcomes.Rollback (phase_reasons.JournalFull used need))) ∷ []
rollback_lines w c name reasons.NotStored = RolledBack name (codes "NotStored") ∷ []
rollback_lines w c name reasons.Superior = RolledBack name (codes "Superior") ∷ []
rollback_lines w c name reasons.NotEnlisted = RolledBack name (codes "NotEnlisted") ∷ []

-- how a transaction ends
abbrev pub outcome_lines : World → Cast → Outcome → List ℕ → List Told
outcome_lines w c (outcomes.Commit basis) name = Known (lines.Decide name (outcomes.Commit basis)) ∷ []
outcome_lines w c (outcomes.Rollback reason) name = rollback_lines w c name reason
outcome_lines w c outcomes.Unknown name = Known (lines.Decide name outcomes.Unknown) ∷ []

abbrev pub decided_lines : World → Cast → Outcome → Option (List ℕ) → List Told
decided_lines w c outcome (Some name) = outcome_lines w c outcome name
decided_lines w c outcome None = []

-- the lines of one thing that happened
unfoldable pub effect_lines : World → Cast → Effect → List Told
effect_lines w c (effects.Voted g vote) = naming (λ (name : List ℕ). Known (lines.Voted name vote)) (registered w c g)
effect_lines w c (effects.Decided outcome) = decided_lines w c outcome (branch_name w c 0)
effect_lines w c (effects.SubtransactionEnded b committed) =
    naming (λ (name : List ℕ). Known (lines.SubDone name committed)) (branch_name w c b)
effect_lines w c (effects.Marked b) = naming Marked (branch_name w c b)
effect_lines w c effects.Doubted = naming Doubted (branch_name w c 0)
effect_lines w c effects.Done = naming (λ (name : List ℕ). Known (lines.Done name)) (branch_name w c 0)

abbrev pub all_effect_lines : World → Cast → List Effect → List Told
all_effect_lines w c some = flat_map (effect_lines w c) some

-- ---- answers to clients

-- the number of the message in which the call of an entry came
abbrev pub call_number : List Entry → ℕ → Option ℕ
call_number entries position =
    option_map (λ (k : RetryKey). k.number) (option_and_then (λ (e : Entry). e.event.key) (slice_get entries position))

abbrev pub answer_lines : Said → Option ℕ → List Told
answer_lines answer (Some message) = Answered message answer ∷ []
answer_lines answer None = []

-- earlier calls are answered
abbrev pub finished_lines : List Entry → Finished → List Told
finished_lines entries a = answer_lines a.said (call_number entries a.position)

abbrev pub all_finished_lines : List Entry → List Finished → List Told
all_finished_lines entries some = flat_map (finished_lines entries) some
