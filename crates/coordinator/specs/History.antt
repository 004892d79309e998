-- The history of a family: one entry for each thing that happened, and what it answers to a call that comes again under its
-- key (our profile).
use Rattle.std.specs.Prelude.{ℕ, ◌==◌, ◌&&◌, ◌||◌, Bool, true, false, not, nat_le, List, length, find, position, Option, Some, None, is_some, if◌then◌else◌}
use Rattle.std.specs.List.{slice_get, flat_map}
use Rattle.std.specs.Option.{option_map, option_map_or, option_and_then}
use Rattle.ots_model.specs.declared.service.RetryKey.{RetryKey}
use Rattle.coordinator.specs.declared.event.Act.{Act}
use Rattle.coordinator.specs.declared.event.Act.TheVariants as acts
use Rattle.coordinator.specs.declared.event.Event.{Event}
use Rattle.coordinator.specs.declared.said.Entry.{Entry}
use Rattle.coordinator.specs.declared.said.Finished.{Finished}
use Rattle.coordinator.specs.declared.said.Said.{Said}
use Rattle.coordinator.specs.declared.said.Said.TheVariants as said
use Rattle.coordinator.specs.Limits.{call_limit, history_limit}

-- the answer is still to come
abbrev pub is_later : Said → Bool
is_later said.Later = true
is_later _ = false

-- the first answer to the call at a place, among those that entries have
abbrev pub is_for : ℕ → Finished → Bool
is_for at a = a.position == at

abbrev pub answer_among : ℕ → List Finished → Option Said
answer_among at answers = option_map (λ (a : Finished). a.said) (find (is_for at) answers)

abbrev pub later_answer : List Entry → ℕ → Option Said
later_answer entries at = answer_among at (flat_map (λ (e : Entry). e.finished) entries)

-- what the call at a place was answered; Later where it has no answer yet
abbrev pub answer_of : List Entry → ℕ → Entry → Said
answer_of entries at e = if is_later e.said then option_map_or (λ x. x) (later_answer entries at) said.Later else e.said

unfoldable pub answer_at : List Entry → ℕ → Option Said
answer_at entries at = option_map (answer_of entries at) (slice_get entries at)

abbrev pub same_key : RetryKey → RetryKey → Bool
same_key k other = k.client == other.client && k.number == other.number

abbrev pub has_key : RetryKey → Entry → Bool
has_key k e = option_map_or (same_key k) e.event.key false

-- the place of the first call with this key
abbrev pub first_with : List Entry → RetryKey → Option ℕ
first_with entries k = position (has_key k) entries

-- what the call with this key was answered
unfoldable pub kept : List Entry → RetryKey → Option Said
kept entries k = option_and_then (answer_at entries) (first_with entries k)

-- a repeat is answered that, and else to try again
abbrev pub repeated : Said → Said
repeated answer = if is_later answer then said.Transient else answer

abbrev pub kept_for : List Entry → Option RetryKey → Option Said
kept_for entries None = None
kept_for entries (Some k) = kept entries k

-- what the service itself brings; all else comes from outside
abbrev pub is_own_act : Act → Bool
is_own_act (acts.Answer n h) = true
is_own_act acts.Tick = true
is_own_act (acts.Reread stands) = true
is_own_act (acts.Opened deadline) = true
is_own_act _ = false

-- how many entries there may be before an act; a root takes no words of a superior, so they change nothing
abbrev pub limit_of : Act → ℕ
limit_of act = if is_own_act act then history_limit else call_limit

-- the history has no room for an event
abbrev pub is_full : ℕ → Event → Bool
is_full entries e = nat_le (limit_of e.act) entries

-- the history has room for an event, or the event is a call that comes again
abbrev pub has_room : List Entry → Event → Bool
has_room entries e = is_some (kept_for entries e.key) || not (is_full (length entries) e)
