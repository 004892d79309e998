-- How a node makes a family: in which slot, with which key, and what becomes of the record of the family that was there
-- (Transaction Service, interface TransactionFactory; slots and numbers are our profile).
use Rattle.std.specs.Prelude.{ℕ, ◌+◌, ◌==◌, min, Bool, true, nat_lt, List, take, drop, find, position, slice_set, Option, Some, None, Result, Ok, Err, if◌then◌else◌}
use Rattle.std.specs.Option.{option_map, option_map_or, option_and_then, option_or}
use Rattle.ior_refs.specs.declared.key.ObjectKey.{ObjectKey}
use Rattle.decision_journal.specs.Journal.{Found, is_decision_at}
use Rattle.decision_journal.specs.declared.journal.Standing.{Standing}
use Rattle.recovery_coord.specs.Held.{held_of, taken}
use Rattle.recovery_coord.specs.declared.held.Held.{Held}
use Rattle.two_phase.specs.Stages as stages
use Rattle.coordinator.specs.declared.node.NodeFault.{NodeFault}
use Rattle.coordinator.specs.declared.node.NodeFault.TheVariants as faults
use Rattle.coordinator.specs.Limits.{generation_limit, last_moment}
use Rattle.coordinator.specs.Family.{Family, new_family}
use Rattle.coordinator.specs.Hearing.{record_place}
use Rattle.coordinator.specs.Names.{coordinator_kind}
use Rattle.coordinator.specs.Step.{is_finished}
use Rattle.coordinator.specs.Node.{Node, life, family_in}

-- a slot may be given: it has no family, or one that is finished
abbrev pub is_free : Option Family → Bool
is_free place = option_map_or is_finished place true

-- the first such slot behind the one that was given last, and the first one up to that
abbrev pub free_behind : ℕ → List (Option Family) → Option ℕ
free_behind last families = option_map (λ i. last + 1 + i) (position is_free (drop (last + 1) families))

abbrev pub free_up_to : ℕ → List (Option Family) → Option ℕ
free_up_to last families = position is_free (take (last + 1) families)

-- slots are given in turn, round
unfoldable pub free_slot : Node → Option ℕ
free_slot n = option_or (free_behind n.last n.families) (free_up_to n.last n.families)

-- the record of a finished family, where it stands
abbrev pub left_record : Found → Family → Option Standing
left_record found f =
    if is_finished f then option_and_then (λ place. find (is_decision_at place) found.standing) (record_place f.completion) else None

-- it goes on without its family, with the words that are left over
abbrev pub held_for : Family → Standing → Option Held
held_for f s = held_of s.place s.item (stages.pending_commits f.completion) (stages.pending_forgets f.completion)

abbrev pub takes_over : Found → Option Family → List Held → List Held
takes_over found None records = records
takes_over found (Some f) records = taken (option_and_then (held_for f) (left_record found f)) records

-- the key of the next family
abbrev pub next_key : Node → ℕ → ObjectKey
next_key n slot = record {
  kind = coordinator_kind;
  service = n.service;
  life = life n;
  slot = slot;
  generation = n.generation + 1;
  index = 0;
}

-- it begins in a slot, and the record of the family that was there goes on
abbrev pub with_new : (ObjectKey → Family) → ℕ → Node → Node
with_new make slot n = record n {
  recovered = takes_over n.found (family_in n.families slot) n.recovered;
  families = slice_set n.families slot (Some (make (next_key n slot)));
  last = slot;
  generation = n.generation + 1;
}

-- the node, and the key of the new family's top-level transaction, or why there is none
pub record Created : Type 0 where
  pub node : Node
  pub answer : Result ObjectKey NodeFault

abbrev pub makes_no_family : Node → Created
makes_no_family n = record { node = n; answer = Err faults.NoResources }

abbrev pub makes_in : Option ℕ → (ObjectKey → Family) → Node → Created
makes_in None make n = makes_no_family n
makes_in (Some slot) make n =
    if nat_lt n.generation generation_limit then record { node = with_new make slot n; answer = Ok (next_key n slot) }
    else makes_no_family n

-- a family is made, where there is a slot for it
unfoldable pub makes : (ObjectKey → Family) → Node → Created
makes make n = makes_in (free_slot n) make n

-- the moment at which its time is over: none where no seconds are given
abbrev pub deadline_after : ℕ → ℕ → Option ℕ
deadline_after now seconds = if seconds == 0 then None else Some (min (now + seconds) last_moment)

-- create of TransactionFactory
unfoldable pub creates : ℕ → ℕ → Node → Created
creates now seconds n = makes (λ key. new_family key (deadline_after now seconds)) n
