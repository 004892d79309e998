-- Reading a record from the left (our profile). Its laws say that it is the reverse of the layout.
use Rattle.std.specs.Prelude.{◌≡◌, ℕ, zero, suc, Bool, true, false, nat_lt, ◌==◌, if◌then◌else◌, List, [], ◌∷◌, length, take, drop, Option, Some, None, Result, Ok, Err}
use Rattle.byteorder.specs.Endian.{big_number}
use Rattle.ots_model.specs.Limits.{reference_limit}
use Rattle.ots_model.specs.declared.service.RetryKey.{RetryKey}
use Rattle.decision_journal.specs.declared.record.Registration.{Registration}
use Rattle.decision_journal.specs.declared.record.Put.{Put}
use Rattle.decision_journal.specs.declared.record.CellsEnd.{CellsEnd}
use Rattle.decision_journal.specs.declared.record.CellsEnd.TheVariants.{Applied, Undone, ChoseCommit, ChoseRollback, Forgotten}
use Rattle.decision_journal.specs.declared.record.JournalRecord.{JournalRecord}
use Rattle.decision_journal.specs.declared.record.JournalRecord.TheVariants.{Life, Decision, Done, Prepared, CellsPrepared, CellsOutcome, CellsOnePhase}
use Rattle.decision_journal.specs.declared.reading.ReadFault.{ReadFault}
use Rattle.decision_journal.specs.declared.reading.ReadFault.TheVariants.{Memory, NoRecord}
use Rattle.decision_journal.specs.Layout.{is_rising}

infixl 10 ◌>>=◌
abbrev pub ◌>>=◌ : {A B : Type 0} → Option A → (A → Option B) → Option B
None >>= f = None
(Some x) >>= f = f x

-- what a function returned, seen by view, is what reading gives, unless memory ran out
abbrev pub Fails : {Y : Type 0} → ReadFault → Option Y → Type 0
Fails Memory read = Unit {0}
Fails NoRecord read = read ≡ None

abbrev pub Gives : {X Y : Type 0} → (X → Y) → Result X ReadFault → Option Y → Type 0
Gives view (Ok x) read = read ≡ Some (view x)
Gives view (Err fault) read = Fails fault read

-- a value at the front, and the octets behind it
abbrev pub Reading : Type 0 → Type 0
Reading A = Option (A × List ℕ)

abbrev pub number_at : ℕ → List ℕ → Reading ℕ
number_at n octets = if nat_lt (length octets) n then None else Some (big_number n octets, drop n octets)

-- one after another
abbrev pub both_at : {A B : Type 0} → (List ℕ → Reading A) → (List ℕ → Reading B) → List ℕ → Reading (A × B)
both_at first second octets = first octets >>= λ x. second x.1 >>= λ y. Some ((x.0, y.0), y.1)

-- a value that a function makes of another, or refuses
abbrev pub made_at : {A B : Type 0} → (A → Option B) → (List ℕ → Reading A) → List ℕ → Reading B
made_at make at octets = at octets >>= λ x. make x.0 >>= λ y. Some (y, x.1)

abbrev pub kept_octets : ℕ → List ℕ → Reading (List ℕ)
kept_octets n octets = if nat_lt (length octets) n then None else Some (take n octets, drop n octets)

unfoldable pub reference_at : List ℕ → Reading (List ℕ)
reference_at octets = number_at 2 octets >>= λ n. if nat_lt reference_limit n.0 then None else kept_octets n.0 n.1

abbrev pub make_registration : ℕ × List ℕ → Option Registration
make_registration x = Some (record { index = x.0; reference = x.1 })

unfoldable pub registration_at : List ℕ → Reading Registration
registration_at octets = made_at make_registration (both_at (number_at 4) reference_at) octets

-- so many, one after another
unfoldable pub list_at : {A : Type 0} → (List ℕ → Reading A) → ℕ → List ℕ → Reading (List A)
list_at at zero octets = Some ([], octets)
list_at at (suc n) octets = at octets >>= λ first. list_at at n first.1 >>= λ others. Some (first.0 ∷ others.0, others.1)

abbrev pub counted_at : {A : Type 0} → (List ℕ → Reading A) → List ℕ → Reading (List A)
counted_at at octets = number_at 2 octets >>= λ n. list_at at n.0 n.1

unfoldable pub registrations_at : List ℕ → Reading (List Registration)
registrations_at octets = counted_at registration_at octets

abbrev pub make_put : ℕ × ℕ → Option Put
make_put x = Some (record { cell = x.0; value = x.1 })

unfoldable pub put_at : List ℕ → Reading Put
put_at octets = made_at make_put (both_at (number_at 8) (number_at 8)) octets

abbrev pub make_puts : List Put → Option (List Put)
make_puts ps = if is_rising ps then Some ps else None

unfoldable pub puts_at : List ℕ → Reading (List Put)
puts_at octets = made_at make_puts (counted_at put_at) octets

abbrev pub make_flag : ℕ → Option Bool
make_flag n = if n == 0 then Some false else if n == 1 then Some true else None

unfoldable pub flag_at : List ℕ → Reading Bool
flag_at octets = made_at make_flag (number_at 1) octets

abbrev pub make_key : ℕ × (ℕ × ℕ) → Option (Option RetryKey)
make_key x =
    if x.0 == 1 then Some (Some (record { client = x.1.0; number = x.1.1 }))
    else if x.0 == 0 then (if x.1.0 == 0 then (if x.1.1 == 0 then Some None else None) else None) else None

unfoldable pub key_at : List ℕ → Reading (Option RetryKey)
key_at octets = made_at make_key (both_at (number_at 1) (both_at (number_at 8) (number_at 8))) octets

abbrev pub make_end : ℕ → Option CellsEnd
make_end n =
    if n == 1 then Some Applied
    else if n == 2 then Some Undone
    else if n == 3 then Some ChoseCommit
    else if n == 4 then Some ChoseRollback
    else if n == 5 then Some Forgotten else None

unfoldable pub end_at : List ℕ → Reading CellsEnd
end_at octets = made_at make_end (number_at 1) octets

-- nothing is left
abbrev pub none_at : List ℕ → Reading (Unit {0})
none_at octets = Some (tt, octets)

abbrev pub Decided : Type 0
Decided = ℕ × (ℕ × (ℕ × (Option RetryKey × (Bool × (List Registration × Unit {0})))))

unfoldable pub life_at : List ℕ → Reading JournalRecord
life_at octets = made_at (λ x. Some (Life x.0)) (both_at (number_at 4) none_at) octets

unfoldable pub decision_at : List ℕ → Reading JournalRecord
decision_at octets =
    made_at (λ x. Some (Decision x.0 x.1.0 x.1.1.0 x.1.1.1.0 x.1.1.1.1.0 x.1.1.1.1.1.0))
    (both_at (number_at 4) (both_at (number_at 4) (both_at (number_at 8) (both_at key_at (both_at flag_at (both_at registrations_at none_at)))))) octets

unfoldable pub done_at : List ℕ → Reading JournalRecord
done_at octets = made_at (λ x. Some (Done x.0)) (both_at (number_at 4) none_at) octets

unfoldable pub prepared_at : List ℕ → Reading JournalRecord
prepared_at octets =
    made_at (λ x. Some (Prepared x.0 x.1.0 x.1.1.0 x.1.1.1.0 x.1.1.1.1.0))
    (both_at (number_at 4) (both_at (number_at 4) (both_at (number_at 8) (both_at reference_at (both_at registrations_at none_at))))) octets

unfoldable pub cells_prepared_at : List ℕ → Reading JournalRecord
cells_prepared_at octets =
    made_at (λ x. Some (CellsPrepared x.0 x.1.0 x.1.1.0 x.1.1.1.0))
    (both_at (number_at 4) (both_at (number_at 8) (both_at reference_at (both_at puts_at none_at)))) octets

unfoldable pub cells_outcome_at : List ℕ → Reading JournalRecord
cells_outcome_at octets = made_at (λ x. Some (CellsOutcome x.0 x.1.0)) (both_at (number_at 4) (both_at end_at none_at)) octets

unfoldable pub one_phase_at : List ℕ → Reading JournalRecord
one_phase_at octets =
    made_at (λ x. Some (CellsOnePhase x.0 x.1.0 x.1.1.0))
    (both_at (number_at 4) (both_at (number_at 8) (both_at puts_at none_at))) octets

-- the record of a kind
unfoldable pub fields_at : ℕ → List ℕ → Reading JournalRecord
fields_at k octets =
    if k == 1 then life_at octets
    else if k == 2 then decision_at octets
    else if k == 3 then done_at octets
    else if k == 4 then prepared_at octets
    else if k == 5 then cells_prepared_at octets
    else if k == 6 then cells_outcome_at octets
    else if k == 7 then one_phase_at octets else None

-- the record that a payload is, all of it
unfoldable pub record_in : List ℕ → Option JournalRecord
record_in octets = number_at 1 octets >>= λ k. fields_at k.0 k.1 >>= λ x. if length x.1 == 0 then Some x.0 else None

-- the record behind an open gate: the length, and so many octets, which are its payload
unfoldable pub body_at : List ℕ → Reading JournalRecord
body_at octets = number_at 4 octets >>= λ n. kept_octets n.0 n.1 >>= λ p. record_in p.0 >>= λ r. Some (r, p.1)
