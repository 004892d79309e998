-- A record that a change writes tells that change where it is read again.
use Rattle.std.proofs.Common.{refl, ap, sym, subst, ◌∙◌}
use Rattle.std.specs.Prelude.{◌≡◌, ℕ, find, Option, Some, None, IfSome}
use Rattle.std.specs.Option.{option_and_then}
use Rattle.decision_journal.specs.declared.record.CellsEnd.{CellsEnd}
use Rattle.decision_journal.specs.declared.record.CellsEnd.TheVariants as ends
use Rattle.decision_journal.specs.declared.record.JournalRecord.{JournalRecord}
use Rattle.decision_journal.specs.declared.record.JournalRecord.TheVariants.{CellsPrepared, CellsOutcome, CellsOnePhase}
use Rattle.resource_end.specs.declared.state.State.{State}
use Rattle.resource_end.specs.declared.state.State.TheVariants as states
use Rattle.resource_end.specs.States.{end_of, state_of}
use Rattle.resource_end.specs.End.{End, Resource, changes, is_numbered, outcome_record, puts_record, record_by, with_place}
use Rattle.resource_end.specs.Recall.{ends_as, is_recorded_at, letter_of, recalls}
use Rattle.resource_end.specs.Laws.{RecordsTellChanges}

-- a record, where there is one, tells this
abbrev Tells : Option JournalRecord → ℕ → End → End → Type 0
Tells (Some item) place e after = recalls (record { place = place; item = item }) e ≡ after
Tells None place e after = Unit {0}

-- whether there is a record
abbrev IsThere : Option JournalRecord → Type 0
IsThere (Some item) = Unit {0}
IsThere None = ⊥

pub nothing_is : (item : JournalRecord) → None ≡ Some item → ⊥
nothing_is item h = subst IsThere (sym h) tt

-- the record that is told of, where it is known which one
told_by : (x : JournalRecord) (item : JournalRecord) (place : ℕ) (e after : End) → Some x ≡ Some item
    → recalls (record { place = place; item = x }) e ≡ after → recalls (record { place = place; item = item }) e ≡ after
told_by x item place e after h k = subst (λ o. Tells o place e after) h k

-- an outcome
outcome : (how : CellsEnd) (r : Resource) (e : End) (own place : ℕ) → find (is_recorded_at own) e.resources ≡ Some r
    → recalls (record { place = place; item = CellsOutcome own how }) e ≡ changes (state_of how) r e
unfolding recalls
outcome how r e own place h = ap (λ o. ends_as how o e) h

-- the resource that a record tells of is the one that wrote it
same_letter : (r : Resource) (e : End) → find (is_numbered r.life r.number) e.resources ≡ Some r → letter_of r.life r.number e ≡ r.kind
same_letter r e h = ap (λ o. option_and_then (λ s. s.kind) o) h

prepares : (r : Resource) (e : End) (place : ℕ) → find (is_numbered r.life r.number) e.resources ≡ Some r → r.state ≡ states.Working
    → recalls (record { place = place; item = CellsPrepared r.life r.number r.recovery r.puts }) e ≡ changes states.Prepared (with_place states.Prepared place r) e
unfolding recalls
prepares r e place h w =
    ap (λ k. changes states.Prepared (record { life = r.life; number = r.number; kind = k; state = states.Working; recovery = r.recovery; puts = r.puts; record_place = Some place }) e) (same_letter r e h)
    ∙ ap (λ s. changes states.Prepared (record { life = r.life; number = r.number; kind = r.kind; state = s; recovery = r.recovery; puts = r.puts; record_place = Some place }) e) (sym w)

applies : (r : Resource) (e : End) (place : ℕ) → find (is_numbered r.life r.number) e.resources ≡ Some r → r.state ≡ states.Working → r.record_place ≡ None
    → recalls (record { place = place; item = CellsOnePhase r.life r.number r.puts }) e ≡ changes states.Applied r e
unfolding recalls changes
applies r e place h w n =
    ap (λ k. changes states.Applied (record { life = r.life; number = r.number; kind = k; state = states.Working; recovery = r.recovery; puts = r.puts; record_place = None }) e) (same_letter r e h)
    ∙ ap (λ s. changes states.Applied (record { life = r.life; number = r.number; kind = r.kind; state = s; recovery = r.recovery; puts = r.puts; record_place = None }) e) (sym w)
    ∙ ap (λ p. changes states.Applied (record { life = r.life; number = r.number; kind = r.kind; state = r.state; recovery = r.recovery; puts = r.puts; record_place = p }) e) (sym n)

-- of one that had prepared
ended : (s : State) (r : Resource) (e : End) (own place : ℕ) (item : JournalRecord) → find (is_recorded_at own) e.resources ≡ Some r
    → outcome_record own (end_of s) ≡ Some item → recalls (record { place = place; item = item }) e ≡ changes s (with_place s place r) e
ended states.Fresh r e own place item h k = absurd (nothing_is item k)
ended states.Working r e own place item h k = absurd (nothing_is item k)
ended states.Refused r e own place item h k = absurd (nothing_is item k)
ended states.Prepared r e own place item h k = absurd (nothing_is item k)
ended states.Applied r e own place item h k = told_by _ item place e _ k (outcome ends.Applied r e own place h)
ended states.Undone r e own place item h k = told_by _ item place e _ k (outcome ends.Undone r e own place h)
ended states.ChoseCommit r e own place item h k = told_by _ item place e _ k (outcome ends.ChoseCommit r e own place h)
ended states.ChoseRollback r e own place item h k = told_by _ item place e _ k (outcome ends.ChoseRollback r e own place h)
ended states.Forgotten r e own place item h k = told_by _ item place e _ k (outcome ends.Forgotten r e own place h)

-- of one that had not
began : (now s : State) (r : Resource) (e : End) (place : ℕ) (item : JournalRecord) → find (is_numbered r.life r.number) e.resources ≡ Some r
    → r.state ≡ now → r.record_place ≡ None → puts_record now s r ≡ Some item → recalls (record { place = place; item = item }) e ≡ changes s (with_place s place r) e
began states.Working states.Prepared r e place item h w n k = told_by _ item place e _ k (prepares r e place h w)
began states.Working states.Applied r e place item h w n k = told_by _ item place e _ k (applies r e place h w n)
began now s r e place item h w n k = absurd (nothing_is item k)

by_place : (o : Option ℕ) (s : State) (r : Resource) (e : End) (place : ℕ) (item : JournalRecord) → r.record_place ≡ o
    → find (is_numbered r.life r.number) e.resources ≡ Some r → IfSome o (λ own. find (is_recorded_at own) e.resources ≡ Some r)
    → record_by o s r ≡ Some item → recalls (record { place = place; item = item }) e ≡ changes s (with_place s place r) e
by_place (Some own) s r e place item n h i k = ended s r e own place item i k
by_place None s r e place item n h i k = began r.state s r e place item h refl n k

pub records_tell_changes : RecordsTellChanges
records_tell_changes s r e place item of k = by_place r.record_place s r e place item refl of.numbered of.recorded k
