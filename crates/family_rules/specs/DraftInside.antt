use Rattle.std.specs.Prelude.{◌≡◌, ◌-◌, ◌≤◌, [], map, min, Option, Some, None, vec_len, vec_capacity}
use Rattle.std.specs.Option.{option_to_list, IsSome}
use Rattle.std.specs.VecDeque.{deque_capacity}
use Rattle.ots_model.specs.declared.tree.Outward.{Outward}
use Rattle.two_phase.specs.declared.room.Blank.{Blank}
use Rattle.family_rules.specs.Changes.{DraftParts, finished_of}
use Rattle.family_rules.specs.declared.draft.Draft.TheInside.{Inside}

abbrev pub shown : Inside → DraftParts
shown d = record {
  changes = record {
    words = option_to_list d.parts.value.word;
    finished = map finished_of d.parts.value.finished.items;
    effects = d.parts.value.effects.items;
    tasks = d.tasks.items;
  };
  room = min (min (vec_capacity d.parts.value.finished - vec_len d.parts.value.finished) (vec_capacity d.parts.value.effects - vec_len d.parts.value.effects))
      (min (vec_capacity d.parts.value.told - vec_len d.parts.value.finished) (vec_capacity d.parts.value.kept - vec_len d.parts.value.finished));
  tasks_room = deque_capacity d.tasks;
}

-- until a word goes out there is a buffer for its reference
abbrev pub HasBlank : Option Outward → Option Blank → Type 0
HasBlank None blank = IsSome blank
HasBlank (Some word) blank = Unit {0}

-- and for each answer there is memory in both places, which are empty
pub record IsSound (d : Inside) : Type 0 where
  pub blank : HasBlank d.parts.value.word d.parts.value.blank
  pub told : vec_len d.parts.value.finished ≤ vec_capacity d.parts.value.told
  pub kept : vec_len d.parts.value.finished ≤ vec_capacity d.parts.value.kept
  pub none_told : d.parts.value.told.items ≡ []
  pub none_kept : d.parts.value.kept.items ≡ []
