-- What an answer to a word that was told again makes of the records (Transaction Service, the operations of interface Resource).
use Rattle.std.specs.Prelude.{ℕ, ◌==◌, Bool, not, ◌&&◌, if◌then◌else◌, List, map, find, Option, None}
use Rattle.std.specs.Option.{option_map}
use Rattle.ots_model.specs.declared.completion.CallNumber.{CallNumber}
use Rattle.ots_model.specs.declared.tree.Heard.{Heard}
use Rattle.ots_model.specs.declared.completion.Heard.TheVariants as phase_hears
use Rattle.ots_model.specs.declared.tree.Heard.TheVariants as heard
use Rattle.recovery_coord.specs.declared.held.Due.{Due}
use Rattle.recovery_coord.specs.declared.held.Due.TheVariants as due
use Rattle.recovery_coord.specs.declared.held.Party.{Party}
use Rattle.recovery_coord.specs.declared.held.Held.{Held}
use Rattle.recovery_coord.specs.Limits.{retold_slot}
use Rattle.recovery_coord.specs.Held.{is_complete}

-- by a plain answer or OBJECT_NOT_EXIST commit is done, by a heuristic exception forget is due, by any other commit stays due
abbrev pub after_commit : Heard → Due
after_commit (heard.Phase phase_hears.Done) = due.Nothing
after_commit (heard.Phase phase_hears.NoObject) = due.Nothing
after_commit (heard.Phase (phase_hears.Heuristic disposition)) = due.Forget
after_commit _ = due.Commit

-- by a plain answer or OBJECT_NOT_EXIST forget is done, by any other it stays due
abbrev pub after_forget : Heard → Due
after_forget (heard.Phase phase_hears.Done) = due.Nothing
after_forget (heard.Phase phase_hears.NoObject) = due.Nothing
after_forget _ = due.Forget

-- what a registration waits for once it has answered what it waited for
abbrev pub due_after : Due → Heard → Due
due_after due.Commit h = after_commit h
due_after due.Forget h = after_forget h
due_after due.Nothing h = due.Nothing

abbrev pub party_after : ℕ → Heard → Party → Party
party_after serial h p = if p.index == serial then record p { due = due_after p.due h } else p

abbrev pub held_after : ℕ → Heard → Held → Held
held_after serial h r = record r { parties = map (party_after serial h) r.parties }

-- the record at the place that the number of the call names has heard the answer
abbrev pub record_after : CallNumber → Heard → Held → Held
record_after n h r = if r.place == n.generation then held_after n.serial h r else r

-- it is the number of a word that was told again in this life
abbrev pub is_retold : ℕ → CallNumber → Bool
is_retold life n = n.life == life && n.slot == retold_slot

-- the records, once an answer was heard
abbrev pub records_after : ℕ → CallNumber → Heard → List Held → List Held
records_after life n h records = if is_retold life n then map (record_after n h) records else records

-- the answer completes this record
abbrev pub completes : CallNumber → Heard → Held → Bool
completes n h r = not (is_complete r) && is_complete (record_after n h r)

-- the place of the record that an answer completes
abbrev pub completed : ℕ → CallNumber → Heard → List Held → Option ℕ
completed life n h records = if is_retold life n then option_map (λ r. r.place) (find (completes n h) records) else None
