-- What the registrations of a record wait for, taken together, as the code keeps it beside them (our profile).
use Rattle.std.specs.Prelude.{Bool, true, false, ◌&&◌, ◌||◌, List}
use Rattle.std.specs.List.{list_any}
use Rattle.recovery_coord.specs.declared.held.Due.{Due}
use Rattle.recovery_coord.specs.declared.held.Due.TheVariants as due
use Rattle.recovery_coord.specs.declared.held.Party.{Party}
use Rattle.recovery_coord.specs.declared.waiting.Waiting.{Waiting}

abbrev pub is_commit : Due → Bool
is_commit due.Commit = true
is_commit due.Forget = false
is_commit due.Nothing = false

abbrev pub is_forget : Due → Bool
is_forget due.Commit = false
is_forget due.Forget = true
is_forget due.Nothing = false

-- whether one of them waits for commit, and whether one waits for forget
abbrev pub waiting_of : List Party → Waiting
waiting_of parties = record {
  commit = list_any (λ p. is_commit p.due) parties;
  forget = list_any (λ p. is_forget p.due) parties;
}

-- the same with one more registration, which waits for this
abbrev pub waiting_with : Due → Waiting → Waiting
waiting_with d w = record { commit = w.commit || is_commit d; forget = w.forget || is_forget d }

-- One of them has a word to tell. The forgets of a prepared record wait for its superior's.
abbrev pub have_words : Bool → Waiting → Bool
have_words decided w = w.commit || (decided && w.forget)
