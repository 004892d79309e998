-- The words that are told again for records that stand, and their numbers (our profile).
use Rattle.std.specs.Prelude.{◌≡◌, ℕ, Bool, true, false, if◌then◌else◌, List, ◌++◌, map, Option, Some, None}
use Rattle.std.specs.List.{filter_map, flat_map}
use Rattle.ots_model.specs.declared.completion.CallNumber.{CallNumber}
use Rattle.ots_model.specs.declared.completion.Receipt.{Receipt}
use Rattle.ots_model.specs.declared.tree.Outward.{Outward}
use Rattle.ots_model.specs.declared.tree.Word.{Word}
use Rattle.ots_model.specs.declared.completion.Word.TheVariants as phase_words
use Rattle.ots_model.specs.declared.tree.Word.TheVariants as word
use Rattle.recovery_coord.specs.declared.held.Due.{Due}
use Rattle.recovery_coord.specs.declared.held.Due.TheVariants as due
use Rattle.recovery_coord.specs.declared.held.Party.{Party}
use Rattle.recovery_coord.specs.declared.held.Held.{Held}
use Rattle.recovery_coord.specs.Limits.{retold_slot}
use Rattle.recovery_coord.specs.Held.{is_complete, is_decided}

-- the number of each call that tells a registration of a record again: the record's place stands for a generation
abbrev pub number_of : ℕ → ℕ → ℕ → CallNumber
number_of life place index = record { life = life; slot = retold_slot; generation = place; serial = index }

abbrev pub outward : ℕ → ℕ → Party → Word → Option Receipt → Outward
outward life place p w receipt = record {
  number = number_of life place p.index;
  registration = p.index;
  to = p.to;
  word = w;
  receipt = receipt;
}

-- The word that a registration is told again, where there is one. A commit word names the record behind it. The forgets of a
-- prepared record wait for its superior's.
abbrev pub word_by : ℕ → ℕ → Bool → Party → Due → Option Outward
word_by life place decided p due.Commit =
    Some (outward life place p (word.Phase phase_words.Commit)
    (Some (record { place = place; registration = p.index })))
word_by life place true p due.Forget = Some (outward life place p word.Forget None)
word_by life place false p due.Forget = None
word_by life place decided p due.Nothing = None

abbrev pub word_to : ℕ → ℕ → Bool → Party → Option Outward
word_to life place decided p = word_by life place decided p p.due

-- the words of a record, in the order of its registrations
abbrev pub words_of : ℕ → Held → List Outward
words_of life r = filter_map (word_to life r.place (is_decided r.kind)) r.parties

-- the words of all records, in record order
abbrev pub words : ℕ → List Held → List Outward
words life records = flat_map (words_of life) records

-- a registration that waits for commit once more
abbrev pub recalled : Party → Party
recalled p = record p { due = due.Commit }

-- a record that is complete and held still: its Done doesn't stand, so it is told again as a load leaves it
abbrev pub retold : Held → Held
retold r = if is_complete r then record r { parties = map recalled r.parties } else r

-- words with some more behind them
abbrev pub IsMore : List Outward → List Outward → Type 0
IsMore older newer = (more : List Outward) × (newer ≡ older ++ more)
