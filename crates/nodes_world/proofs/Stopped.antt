-- What a stop inside an append leaves: the records of before, or these and the new one.
use Rattle.std.proofs.Common.{◌≡◌, ℕ, ◌+◌, ◌-◌, ◌<◌, ◌≤◌, Bool, true, false, cond, nat_le, List, [], ◌∷◌, ◌++◌, length, take, drop, Option, Some, None, refl, sym, ap, subst, ◌∙◌, arith, length-append, length-take}
use Rattle.std.proofs.lemmas.List.{append_cancel_right}
use Rattle.ots_outside.specs.Disk.{DiskState, Moment, IsImage, EachLeavesOnly, LeavesOnlySince, moments, written}
use Rattle.ots_outside.specs.Laws.{WritesReadImages}
use Rattle.decision_journal.specs.declared.record.JournalRecord.{JournalRecord}
use Rattle.decision_journal.specs.Journal.{StandsFor, StandsForEither, front}
use Rattle.decision_journal.specs.Laws.{IsSettled, CanAppend, AppendsAreSafe, appended, behind_gate, filled_behind}
use Rattle.nodes_world.specs.Disks.{Stop, Struck, Whole, Broken, left_by, strikes}
use Rattle.nodes_world.specs.Laws.{WhatIsLeftIsAnImage, StoppedAppendsAreSafe, AppendsGoThrough, struck_by}

abbrev first_write : ℕ → JournalRecord → DiskState → DiskState
first_write gate r disk = written (gate + 1) (behind_gate r) disk

abbrev second_write : ℕ → JournalRecord → DiskState → DiskState
second_write gate r disk = written gate (1 ∷ []) (filled_behind gate (behind_gate r) disk)

-- what comes of the second write, and of the first
abbrev second_struck : ℕ → JournalRecord → DiskState → Stop → Struck
second_struck gate r disk s =
    cond (nat_le s.write 1) (Broken (left_by s.image (second_write gate r disk)))
    (Whole (appended gate (behind_gate r) disk) (Some (record s { write = s.write - 1 })))

abbrev first_struck : ℕ → JournalRecord → DiskState → Stop → Struck
first_struck gate r disk s =
    cond (nat_le s.write 1) (Broken (left_by s.image (first_write gate r disk))) (second_struck gate r disk (record s { write = s.write - 1 }))

struck_is : (gate : ℕ) (r : JournalRecord) (disk : DiskState) (s : Stop) → struck_by gate r disk (Some s) ≡ first_struck gate r disk s
unfolding strikes
struck_is gate r disk s = refl

goes_through_none : (gate : ℕ) (r : JournalRecord) (disk : DiskState) → struck_by gate r disk None ≡ Whole (appended gate (behind_gate r) disk) None
unfolding strikes
goes_through_none gate r disk = refl

-- where an append goes through, it is that of the journal
pub appends_go_through : AppendsGoThrough
appends_go_through gate r disk None later next whole = disk_of (sym (goes_through_none gate r disk) ∙ whole)
  where
    disk_of : {a b : DiskState} {s t : Option Stop} → Whole a s ≡ Whole b t → b ≡ a
    disk_of is = cc
appends_go_through gate r disk (Some s) later next whole =
    by (nat_le s.write 1) (nat_le (s.write - 1) 1) (left_by s.image (first_write gate r disk)) (left_by s.image (second_write gate r disk)) _ _
    (sym (struck_is gate r disk s) ∙ whole)
  where
    by : (a b : Bool) (x y : List ℕ) (d : DiskState) (t : Option Stop) → cond a (Broken x) (cond b (Broken y) (Whole d t)) ≡ Whole later next → later ≡ d
    by true b x y d t is = absurd (no_whole is)
      where
        no_whole : {x : List ℕ} → Broken x ≡ Whole later next → ⊥
        no_whole is = cc
    by false true x y d t is = absurd (no_whole is)
      where
        no_whole : {x : List ℕ} → Broken x ≡ Whole later next → ⊥
        no_whole is = cc
    by false false x y d t is = cc

-- what it leaves otherwise is left by one of its two writes
data IsLeft (gate : ℕ) (r : JournalRecord) (disk : DiskState) (image : List ℕ) : Type 0 where
  by_first : (s : Stop) → image ≡ left_by s.image (first_write gate r disk) → IsLeft gate r disk image
  by_second : (s : Stop) → image ≡ left_by s.image (second_write gate r disk) → IsLeft gate r disk image

is_left : (gate : ℕ) (r : JournalRecord) (disk : DiskState) (stop : Option Stop) (image : List ℕ)
    → struck_by gate r disk stop ≡ Broken image → IsLeft gate r disk image
is_left gate r disk None image broken = absurd (none (sym (goes_through_none gate r disk) ∙ broken))
  where
    none : {d : DiskState} {t : Option Stop} → Whole d t ≡ Broken image → ⊥
    none is = cc
is_left gate r disk (Some s) image broken =
    by (nat_le s.write 1) (nat_le (s.write - 1) 1) (sym (struck_is gate r disk s) ∙ broken)
  where
    octets_of : {x y : List ℕ} → Broken x ≡ Broken y → y ≡ x
    octets_of is = cc

    none : {d : DiskState} {t : Option Stop} → Whole d t ≡ Broken image → ⊥
    none is = cc

    by : (a b : Bool)
        → cond a (Broken (left_by s.image (first_write gate r disk)))
        (cond b (Broken (left_by s.image (second_write gate r disk))) (Whole (appended gate (behind_gate r) disk) (Some (record s { write = s.write - 1 - 1 }))))
        ≡ Broken image
        → IsLeft gate r disk image
    by true b is = by_first s (octets_of is)
    by false true is = by_second s (octets_of is)
    by false false is = absurd (none is)

-- the moments of an append, newest first
abbrev steps_of : ℕ → JournalRecord → DiskState → List Moment
steps_of gate r disk =
    (appended gate (behind_gate r) disk).present ∷ (second_write gate r disk).present ∷ (filled_behind gate (behind_gate r) disk).present
    ∷ (first_write gate r disk).present ∷ []

each_step : (P : List ℕ → Type 0) (gate : ℕ) (r : JournalRecord) (disk : DiskState)
    → LeavesOnlySince P disk (appended gate (behind_gate r) disk) → EachLeavesOnly P (steps_of gate r disk)
each_step P gate r disk since =
    subst (EachLeavesOnly P) (sym (append_cancel_right (steps_of gate r disk) since.more (moments disk) since.moments)) since.later

-- the gate at the end stands within the octets, also once those behind it are written
gate_within : (service : ℕ) (rs : List JournalRecord) (octets : List ℕ) → StandsFor service octets rs → length (front service rs) < length octets
gate_within service rs octets stands =
    omega (arith, ap length stands.octets_are, length-append (front service rs) (stands.gate ∷ stands.behind))

filled_within : (gate : ℕ) (r : JournalRecord) (disk : DiskState) → gate < length disk.reads → gate ≤ length (filled_behind gate (behind_gate r) disk).reads
filled_within gate r disk within =
    let front = take (gate + 1) disk.reads in
    let rest = drop (gate + 1 + length (behind_gate r)) disk.reads in
    let long : length (filled_behind gate (behind_gate r) disk).reads ≡ length (front ++ behind_gate r) + length rest = length-append (front ++ behind_gate r) rest in
    omega (arith, long, length-append front (behind_gate r), length-take (gate + 1) disk.reads)

-- a settled disk reads what is synced
reads_image : (disk : DiskState) → IsSettled disk → IsImage disk.present disk.reads
reads_image disk settled =
    subst (λ (m : Moment). IsImage m disk.reads) (sym settled) (record { no_shorter = omega arith; no_longer = omega arith; kept = λ i within none. refl })

module _ (writes_read : WritesReadImages) (safe : AppendsAreSafe) (left : WhatIsLeftIsAnImage) where
  by_write : (service : ℕ) (rs : List JournalRecord) (r : JournalRecord) (disk : DiskState) (image : List ℕ)
      → IsSettled disk → StandsFor service disk.reads rs → CanAppend service rs r
      → IsLeft (length (front service rs)) r disk image → StandsForEither service rs r image
  by_write service rs r disk image settled stands can (by_first s is) =
      let gate = length (front service rs) in
      let steps = each_step (StandsForEither service rs r) gate r disk (safe service rs r disk settled stands can).1 in
      let reads = writes_read disk (gate + 1) (behind_gate r) (let less = gate_within service rs disk.reads stands in omega (arith, less)) (reads_image disk settled) in
      subst (StandsForEither service rs r) (sym is) (steps.1.1.1.0 _ (left s.image (first_write gate r disk) reads))
  by_write service rs r disk image settled stands can (by_second s is) =
      let gate = length (front service rs) in
      let steps = each_step (StandsForEither service rs r) gate r disk (safe service rs r disk settled stands can).1 in
      let filled = filled_behind gate (behind_gate r) disk in
      let reads = writes_read filled gate (1 ∷ []) (filled_within gate r disk (gate_within service rs disk.reads stands)) (reads_image filled refl) in
      subst (StandsForEither service rs r) (sym is) (steps.1.0 _ (left s.image (second_write gate r disk) reads))

  pub stopped_appends_are_safe : StoppedAppendsAreSafe
  stopped_appends_are_safe service rs r disk stop image settled stands can broken =
      by_write service rs r disk image settled stands can (is_left (length (front service rs)) r disk stop image broken)
