-- Laws of records that are told again (Transaction Service, the operations of interfaces Resource and RecoveryCoordinator): which
-- answers count, and when a record is complete; and whom a record names, and the receipt of a word.
use Rattle.std.specs.Prelude.{◌≡◌, ℕ, ◌==◌, Bool, true, false, not, ◌&&◌, List, [], Option, Some, None}
use Rattle.std.specs.List.{Any, list_any}
use Rattle.ots_model.specs.declared.completion.CallNumber.{CallNumber}
use Rattle.ots_model.specs.declared.completion.Receipt.{Receipt}
use Rattle.ots_model.specs.declared.tree.Heard.{Heard}
use Rattle.ots_model.specs.declared.tree.Word.{Word}
use Rattle.ots_model.specs.declared.completion.Word.TheVariants as phase_words
use Rattle.ots_model.specs.declared.tree.Word.TheVariants as word
use Rattle.decision_journal.specs.declared.record.Registration.{Registration}
use Rattle.decision_journal.specs.declared.record.JournalRecord.{JournalRecord}
use Rattle.decision_journal.specs.declared.record.JournalRecord.TheVariants.{Life, Decision, Done, Prepared, CellsPrepared, CellsOutcome, CellsOnePhase}
use Rattle.recovery_coord.specs.declared.held.Party.{Party}
use Rattle.recovery_coord.specs.declared.held.Held.{Held}
use Rattle.recovery_coord.specs.Held.{is_complete, is_nothing}
use Rattle.recovery_coord.specs.Hearing.{completed, is_retold, record_after, records_after}

-- ---- which answers count

-- a registration of this number waits for an answer
abbrev pub waits : ℕ → List Party → Bool
waits serial parties = list_any (λ p. p.index == serial && not (is_nothing p.due)) parties

-- the number is that of a word which a record still has to tell
abbrev pub is_outstanding : ℕ → CallNumber → List Held → Bool
is_outstanding life n records = is_retold life n && list_any (λ r. r.place == n.generation && waits n.serial r.parties) records

-- an answer whose number isn't outstanding changes nothing, and completes no record
abbrev pub OtherAnswersChangeNothing : Type 0
OtherAnswersChangeNothing = (life : ℕ) (n : CallNumber) (h : Heard) (records : List Held) → is_outstanding life n records ≡ false
    → (records_after life n h records ≡ records) × (completed life n h records ≡ None)

-- ---- when a record is complete

-- A record that an answer completes was held at that place and wasn't complete, and is now: each of its registrations waits for
-- nothing. So no further answer completes it, until it is told again.
abbrev pub CompletesOnce : Type 0
CompletesOnce = (life : ℕ) (n : CallNumber) (h : Heard) (records : List Held) (place : ℕ) → completed life n h records ≡ Some place
    → Any (λ r. (r.place ≡ place) × (is_complete r ≡ false) × (is_complete (record_after n h r) ≡ true)) records

-- ---- what a record names, and what a word has for a receipt

-- the registrations that a record of the journal names
abbrev pub registrations_of : JournalRecord → List Registration
registrations_of (Life life) = []
registrations_of (Decision life slot generation key asked regs) = regs
registrations_of (Done place) = []
registrations_of (Prepared life slot generation recovery regs) = regs
registrations_of (CellsPrepared life number recovery puts) = []
registrations_of (CellsOutcome place end) = []
registrations_of (CellsOnePhase life number puts) = []

-- a commit word has the record behind it as its receipt, and no other word has one
abbrev pub IsReceipted : Word → ℕ → ℕ → Option Receipt → Type 0
IsReceipted (word.Phase phase_words.Commit) place index receipt =
    receipt ≡ Some (record { place = place; registration = index })
IsReceipted _ place index receipt = receipt ≡ None
