-- Where a decision stands that a journal was asked for: at its end.
use Rattle.std.proofs.Common.{◌≡◌, ℕ, suc, ◌+◌, ◌<◌, Bool, true, false, cond, nat_le, length, List, [], ◌∷◌, ◌++◌, append-nil, Option, Some, refl, sym, ap, ◌∙◌, arith}
use Rattle.std.proofs.lemmas.List.{length-append}
use Rattle.std.proofs.lemmas.Grind.{flat_map-append}
use Rattle.std.specs.List.{flat_map}
use Rattle.ots_model.specs.declared.completion.Stood.TheVariants as answers
use Rattle.ots_outside.specs.Disk.{DiskState}
use Rattle.decision_journal.specs.Journal.{Found, found_in, front, header, with_record}
use Rattle.decision_journal.specs.Layout.{eight, four, payload, record_octets}
use Rattle.decision_journal.specs.State.{need, used}
use Rattle.decision_journal.specs.declared.record.JournalRecord.{JournalRecord}
use Rattle.coordinator.specs.NodeCalls.{journaled}
use Rattle.coordinator.specs.Step.{Appends}
use Rattle.nodes_world.specs.AgreementInside.{journal_end}
use Rattle.nodes_world.specs.Disks.{Stop, Struck, Whole, Broken, strikes}
use Rattle.nodes_world.specs.Journals.{Answers, append_strokes, answered_by, asks, asks_by, records_on}
use Rattle.nodes_world.specs.Limits.{area_limit}

-- the end of a journal is behind its octets
pub end_is : (service : ℕ) (rs : List JournalRecord) → journal_end rs ≡ length (front service rs)
end_is service rs =
    let both = length-append (header service) (flat_map record_octets rs) in
    let long = length-append (four 1) (eight service) in
    omega (arith, both, long)

pub end_behind : (rs : List JournalRecord) (r : JournalRecord) → journal_end rs < journal_end (rs ++ r ∷ [])
end_behind rs r =
    let is = ap length (flat_map-append record_octets rs (r ∷ [])) in
    let both = length-append (flat_map record_octets rs) (flat_map record_octets (r ∷ [])) in
    let one = ap length (append-nil (record_octets r)) in
    let some : length (record_octets r) ≡ suc (length (tail_of r)) = refl in
    omega (arith, is, both, one, some)
  where
    tail_of : JournalRecord → List ℕ
    tail_of r = four (length (payload r)) ++ payload r

pub asked_at : (item : JournalRecord) (service : ℕ) (rs : List JournalRecord) (found : Found) (disk : DiskState) (stop : Option Stop) → records_on service disk ≡ Some rs
    → (at : ℕ) (later : DiskState) (next : Option Stop) → asks (Some (Appends item)) service found disk stop ≡ Answers (Some (answers.Stands at)) later next
    → at ≡ length (front service rs)
unfolding asks
asked_at item service rs found disk stop held at later next is =
    by (nat_le (used octets found + need area_limit found item) area_limit)
    (sym (ap (λ (x : Option (List JournalRecord)). asks_by (Some (Appends item)) x service found disk stop) held) ∙ is)
  where
    octets : List ℕ
    octets = front service rs

    told : (x : Struck) → answered_by (answers.Stands (length octets)) x ≡ Answers (Some (answers.Stands at)) later next → at ≡ length octets
    told (Whole d s) is = cc
    told (Broken image) is = absurd cc

    by : (t : Bool) → cond t (answered_by (answers.Stands (length octets)) (strikes (append_strokes (length octets) item) disk stop))
        (Answers (Some (answers.Full (used octets found) (need area_limit found item))) disk stop) ≡ Answers (Some (answers.Stands at)) later next → at ≡ length octets
    by true is = told (strikes (append_strokes (length octets) item) disk stop) is
    by false is = absurd cc

-- what was answered says that it is there
pub one_more : (item : JournalRecord) (at : ℕ) (rs more : List JournalRecord) → length (with_record (found_in rs) at item).standing ≡ length (found_in rs).standing + 1
    → journaled (Some (Appends item)) (Some (answers.Stands at)) (found_in rs) ≡ found_in (rs ++ more) → more ≡ [] → ⊥
one_more item at rs more longer found none =
    let same = ap (λ (x : Found). length x.standing) (found ∙ ap (λ (xs : List JournalRecord). found_in (rs ++ xs)) none ∙ ap found_in (append-nil rs)) in
    omega (arith, longer, same)
