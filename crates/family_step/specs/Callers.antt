-- The calls of a history, by their retry keys, as the code finds them (our profile).
use Rattle.std.specs.Prelude.{◌≡◌, ℕ, ◌==◌, ◌&&◌, Bool, false, List, position, Option, Some, None, if◌then◌else◌}
use Rattle.std.specs.List.{list_any, slice_get}
use Rattle.std.specs.Map.{lookup}
use Rattle.std.specs.Option.{option_and_then, option_map, option_map_or, option_or}
use Rattle.ots_model.specs.declared.service.RetryKey.{RetryKey}
use Rattle.coordinator.specs.History.{answer_among, first_with, has_key, is_for, is_later, same_key}
use Rattle.coordinator.specs.declared.said.Entry.{Entry}
use Rattle.coordinator.specs.declared.said.Finished.{Finished}
use Rattle.coordinator.specs.declared.said.Said.{Said}
use Rattle.coordinator.specs.declared.said.Said.TheVariants as said
use Rattle.family_step.specs.declared.callers.CallerKey.{CallerKey}
use Rattle.family_step.specs.declared.callers.CallPlaces.{CallPlaces}

abbrev pub caller_key : RetryKey → CallerKey
caller_key k = record { client = k.client; number = k.number }

abbrev pub same_caller : CallerKey → CallerKey → Bool
same_caller a b = a.client == b.client && a.number == b.number

-- the keys with the places of their calls
abbrev pub Places : Type 0
Places = List (CallerKey × CallPlaces)

-- and how many more fit
pub record CallersParts : Type 0 where
  pub places : Places
  pub room : ℕ

-- the places of the call with a key
abbrev pub call_in : Places → RetryKey → Option CallPlaces
call_in places k = lookup (same_caller (caller_key k)) places

-- they are found as before
abbrev pub IsKept : Places → Places → Type 0
IsKept before after = (k : RetryKey) → call_in after k ≡ call_in before k

-- a call at a place, which has no answer yet
abbrev pub unanswered : ℕ → CallPlaces
unanswered place = record { entry = place; answered = None }

-- a key has this place from now on, where it had none
abbrev pub IsAdded : RetryKey → ℕ → Places → Places → Type 0
IsAdded key place before after = (k : RetryKey)
    → call_in after k ≡ option_or (call_in before k) (if same_key k key then Some (unanswered place) else None)

-- the key of the entry at a place
abbrev pub key_at : List Entry → ℕ → Option RetryKey
key_at entries at = option_and_then (λ (e : Entry). e.event.key) (slice_get entries at)

abbrev pub is_keyed : List Entry → ℕ → RetryKey → Bool
is_keyed entries at k = option_map_or (same_key k) (key_at entries at) false

-- the entry at a place answers a call, which keeps its first answer
abbrev pub answered_by : ℕ → CallPlaces → CallPlaces
answered_by place c = record { entry = c.entry; answered = option_or c.answered (Some place) }

-- it answers the one at this position alone
abbrev pub meets : ℕ → ℕ → CallPlaces → CallPlaces
meets position place c = if c.entry == position then answered_by place c else c

-- and so, where the entry at that position has this key
abbrev pub meets_keyed : List Entry → ℕ → ℕ → RetryKey → CallPlaces → CallPlaces
meets_keyed entries position place k c = if is_keyed entries position k then meets position place c else c

abbrev pub IsAnswered : List Entry → ℕ → ℕ → Places → Places → Type 0
IsAnswered entries position place before after = (k : RetryKey)
    → call_in after k ≡ option_map (meets_keyed entries position place k) (call_in before k)

-- it has all these answers
abbrev pub told_by : List Entry → List Finished → ℕ → RetryKey → CallPlaces → CallPlaces
told_by entries answers place k c =
    if is_keyed entries c.entry k && list_any (is_for c.entry) answers then answered_by place c else c

abbrev pub AreAnswered : List Entry → List Finished → ℕ → Places → Places → Type 0
AreAnswered entries answers place before after = (k : RetryKey)
    → call_in after k ≡ option_map (told_by entries answers place k) (call_in before k)

-- the entry at a place, where there is one, answers calls, and has its key from now on
abbrev pub noted : List Entry → ℕ → Option Entry → RetryKey → Option CallPlaces → Option CallPlaces
noted entries place None k before = before
noted entries place (Some e) k before =
    option_or (option_map (told_by entries e.finished place k) before) (if has_key k e then Some (unanswered place) else None)

abbrev pub IsNoted : List Entry → ℕ → Places → Places → Type 0
IsNoted entries place before after = (k : RetryKey)
    → call_in after k ≡ noted entries place (slice_get entries place) k (call_in before k)

-- an entry answers the call at a place
abbrev pub answers_at : ℕ → Entry → Bool
answers_at at e = list_any (is_for at) e.finished

-- a call at a place, and the first entry that answers it
abbrev pub places_at : List Entry → ℕ → CallPlaces
places_at entries at = record { entry = at; answered = position (answers_at at) entries }

-- the place of the first entry that has the call at a place among those that it answers, or that place, where none has
abbrev pub answering : List Entry → ℕ → ℕ
answering entries at = option_map_or (λ x. x) (position (answers_at at) entries) at

-- and so for the first call with a key
abbrev pub answered_at : List Entry → RetryKey → Option ℕ
answered_at entries k = option_map (answering entries) (first_with entries k)

-- each key has the place of the first entry with it, and of the first one that answers that
abbrev pub IsIndex : Places → List Entry → Type 0
IsIndex places entries = (k : RetryKey) → call_in places k ≡ option_map (places_at entries) (position (has_key k) entries)

-- the places of the call with the key of an event
abbrev pub call_for : Places → Option RetryKey → Option CallPlaces
call_for places None = None
call_for places (Some k) = call_in places k

-- what an entry answers the call at a place
abbrev pub answer_in : ℕ → Option Entry → Option Said
answer_in at o = option_and_then (λ (e : Entry). answer_among at e.finished) o

-- what the first entry that answers a call says of it
abbrev pub answered_later : List Entry → CallPlaces → Option Said
answered_later entries c = option_and_then (λ (place : ℕ). answer_in c.entry (slice_get entries place)) c.answered

-- what a call was answered, where this is its entry
abbrev pub answer_to : List Entry → CallPlaces → Entry → Said
answer_to entries c e = if is_later e.said then option_map_or (λ x. x) (answered_later entries c) said.Later else e.said
