-- The octets of each record (our profile). Numbers are big endian, without padding.
use Rattle.std.specs.Prelude.{ℕ, ◌<◌, ◌≤◌, ◌^◌, Bool, true, ◌&&◌, nat_lt, if◌then◌else◌, List, [], ◌∷◌, ◌++◌, length, Option, Some, None, IfSome, IsTrue}
use Rattle.std.specs.List.{concat, flat_map, AllByRecursion}
use Rattle.byteorder.specs.Endian.{big_bytes}
use Rattle.ots_model.specs.Limits.{reference_limit}
use Rattle.ots_model.specs.declared.service.RetryKey.{RetryKey}
use Rattle.decision_journal.specs.declared.record.Registration.{Registration}
use Rattle.decision_journal.specs.declared.record.Put.{Put}
use Rattle.decision_journal.specs.declared.record.CellsEnd.{CellsEnd}
use Rattle.decision_journal.specs.declared.record.CellsEnd.TheVariants.{Applied, Undone, ChoseCommit, ChoseRollback, Forgotten}
use Rattle.decision_journal.specs.declared.record.JournalRecord.{JournalRecord}
use Rattle.decision_journal.specs.declared.record.JournalRecord.TheVariants.{Life, Decision, Done, Prepared, CellsPrepared, CellsOutcome, CellsOnePhase}

abbrev pub one : ℕ → List ℕ
one n = n ∷ []

abbrev pub two : ℕ → List ℕ
two n = big_bytes 2 n

abbrev pub four : ℕ → List ℕ
four n = big_bytes 4 n

abbrev pub eight : ℕ → List ℕ
eight n = big_bytes 8 n

abbrev pub reference : List ℕ → List ℕ
reference octets = two (length octets) ++ octets

abbrev pub registration : Registration → List ℕ
registration r = four r.index ++ reference r.reference

abbrev pub registrations : List Registration → List ℕ
registrations rs = two (length rs) ++ flat_map registration rs

abbrev pub put : Put → List ℕ
put p = eight p.cell ++ eight p.value

abbrev pub puts : List Put → List ℕ
puts ps = two (length ps) ++ flat_map put ps

-- a flag, a client and a number; without a key all are 0
abbrev pub key : Option RetryKey → List ℕ
key None = one 0 ++ (eight 0 ++ eight 0)
key (Some k) = one 1 ++ (eight k.client ++ eight k.number)

abbrev pub flag : Bool → ℕ
flag b = if b then 1 else 0

abbrev pub end_number : CellsEnd → ℕ
end_number Applied = 1
end_number Undone = 2
end_number ChoseCommit = 3
end_number ChoseRollback = 4
end_number Forgotten = 5

-- the number of a record's kind
abbrev pub kind : JournalRecord → ℕ
kind (Life life) = 1
kind (Decision life slot generation k asked rs) = 2
kind (Done place) = 3
kind (Prepared life slot generation recovery rs) = 4
kind (CellsPrepared life number recovery ps) = 5
kind (CellsOutcome place end) = 6
kind (CellsOnePhase life number ps) = 7

-- the fields behind it
abbrev pub fields : JournalRecord → List (List ℕ)
fields (Life life) = four life ∷ []
fields (Decision life slot generation k asked rs) =
    four life ∷ four slot ∷ eight generation ∷ key k ∷ one (flag asked) ∷ registrations rs ∷ []
fields (Done place) = four place ∷ []
fields (Prepared life slot generation recovery rs) =
    four life ∷ four slot ∷ eight generation ∷ reference recovery ∷ registrations rs ∷ []
fields (CellsPrepared life number recovery ps) = four life ∷ eight number ∷ reference recovery ∷ puts ps ∷ []
fields (CellsOutcome place end) = four place ∷ one (end_number end) ∷ []
fields (CellsOnePhase life number ps) = four life ∷ eight number ∷ puts ps ∷ []

-- a record's payload
abbrev pub payload : JournalRecord → List ℕ
payload r = kind r ∷ concat (fields r)

-- a record with an open gate: the gate, the length of the payload, the payload
abbrev pub record_octets : JournalRecord → List ℕ
record_octets r = 1 ∷ (four (length (payload r)) ++ payload r)

-- each cell is above the one before it
abbrev pub rises_from : ℕ → List Put → Bool
rises_from cell [] = true
rises_from cell (p ∷ ps) = nat_lt cell p.cell && rises_from p.cell ps

abbrev pub is_rising : List Put → Bool
is_rising [] = true
is_rising (p ∷ ps) = rises_from p.cell ps

abbrev pub Fits16 : ℕ → Type 0
Fits16 n = n < 2 ^ 16

abbrev pub Fits32 : ℕ → Type 0
Fits32 n = n < 2 ^ 32

abbrev pub Fits64 : ℕ → Type 0
Fits64 n = n < 2 ^ 64

abbrev pub FitsReference : List ℕ → Type 0
FitsReference octets = length octets ≤ reference_limit

abbrev pub FitsRegistration : Registration → Type 0
FitsRegistration r = Fits32 r.index × FitsReference r.reference

abbrev pub FitsRegistrations : List Registration → Type 0
FitsRegistrations rs = Fits16 (length rs) × AllByRecursion FitsRegistration rs

abbrev pub FitsPut : Put → Type 0
FitsPut p = Fits64 p.cell × Fits64 p.value

abbrev pub FitsPuts : List Put → Type 0
FitsPuts ps = Fits16 (length ps) × AllByRecursion FitsPut ps × IsTrue (is_rising ps)

abbrev pub FitsKey : Option RetryKey → Type 0
FitsKey k = IfSome k (λ key. Fits64 key.client × Fits64 key.number)

-- which records have octets: each field fits its place, and the cells rise
abbrev pub Fits : JournalRecord → Type 0
Fits (Life life) = Fits32 life
Fits (Decision life slot generation k asked rs) =
    Fits32 life × Fits32 slot × Fits64 generation × FitsKey k × FitsRegistrations rs
Fits (Done place) = Fits32 place
Fits (Prepared life slot generation recovery rs) =
    Fits32 life × Fits32 slot × Fits64 generation × FitsReference recovery × FitsRegistrations rs
Fits (CellsPrepared life number recovery ps) = Fits32 life × Fits64 number × FitsReference recovery × FitsPuts ps
Fits (CellsOutcome place end) = Fits32 place
Fits (CellsOnePhase life number ps) = Fits32 life × Fits64 number × FitsPuts ps
