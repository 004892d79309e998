-- A reading of a disk, and then a write of a record.
use Rattle.std.proofs.Common.{◌≡◌, inl, inr, ℕ, ◌≤◌, Bool, true, List, Option, Some, None, Result, Ok, Err, refl, sym, subst, arith}
use Rattle.std.specs.Prelude.{IfErr, IsErrOf}
use Rattle.std.proofs.lemmas.Bool.{cases_lt}
use Rattle.ots_outside.specs.Disk.{DiskState, Tells}
use Rattle.ots_outside.specs.Source.{HasRisen}
use Rattle.ots_outside.specs.declared.disk.DiskRefusal.{DiskRefusal}
use Rattle.ots_outside.specs.declared.disk.DiskRefusal.TheVariants.{Failed as DiskFailed, Memory as DiskMemory}
use Rattle.decision_journal.specs.declared.record.JournalRecord.{JournalRecord}
use Rattle.decision_journal.specs.declared.record.JournalRecord.TheVariants.{Done}
use Rattle.decision_journal.specs.declared.journal.JournalFault.{JournalFault}
use Rattle.decision_journal.specs.declared.journal.JournalFault.TheVariants.{DiskFault, Full, BadHeader, BadRecord, LivesSpent, Memory}
use Rattle.decision_journal.specs.Journal.{Found, StandsFor}
use Rattle.decision_journal.specs.State.{AppendIsDone, AppendIsSafe, DoneIsDone, IsAppendFault, IsOld, IsOldOrMore, IsReadFault, IsRoomFault, MayFind, MayHold, ReadIsDone, ReadIsSafe}
use Rattle.decision_journal.proofs.Images.{image_settled}
use Rattle.decision_journal.proofs.OneList.{one_list}
use Rattle.decision_journal.proofs.Since.{since_then, since_weaker}
use Rattle.decision_journal.proofs.Ways.{tells_then, tells_weaker}
use Rattle.ots_outside.specs.Disk.{IsImage}

-- ---- disks

held_before : (service : ℕ) (s t : DiskState) (rs : List JournalRecord) → ReadIsDone service s t → MayHold service t rs → MayHold service s rs
held_before service s t rs done held =
    let image : held.image ≡ t.reads = image_settled t.reads held.image (subst (λ m. IsImage m held.image) done.settled held.is_image) in
    let same : done.old.0 ≡ rs = one_list service t.reads done.old.0 rs done.old.1.1 (subst (λ (l : List ℕ). StandsFor service l rs) image held.stands) in
    subst (MayHold service s) same done.old.1.0

safe_weaker : (service : ℕ) (r : JournalRecord) (s t : DiskState) → ReadIsSafe service s t → AppendIsSafe service r s t
safe_weaker service r s t safe = since_weaker (IsOld service s) (IsOldOrMore service s r) s t (λ c old. (old.0, (old.1.0, inl old.1.1))) safe

pub read_only : (service : ℕ) (r : JournalRecord) (a b : Option DiskState) → Tells a b (ReadIsSafe service) → Tells a b (AppendIsSafe service r)
read_only service r a b safe = tells_weaker a b (ReadIsSafe service) (AppendIsSafe service r) (safe_weaker service r) safe

-- two facts of one call
pub tells_both : (a b : Option DiskState) (R S : DiskState → DiskState → Type 0) → Tells a b R → Tells a b S → Tells a b (λ s t. R s t × S s t)
tells_both None None R S x y = tt
tells_both None (Some t) R S x y = absurd x
tells_both (Some s) None R S x y = absurd x
tells_both (Some s) (Some t) R S x y = (x, y)

pub safe_then : (service : ℕ) (r : JournalRecord) (a b c : Option DiskState) → Tells a b (ReadIsSafe service) → Tells a b (ReadIsDone service) → Tells b c (AppendIsSafe service r) → Tells a c (AppendIsSafe service r)
safe_then service r a b c safe done more =
    tells_weaker a c _ (AppendIsSafe service r) (λ s u h.
    let t = h.0 in
    since_then (IsOldOrMore service s r) s t u (safe_weaker service r s t h.1.0)
    (since_weaker (IsOldOrMore service t r) (IsOldOrMore service s r) t u (λ c old. (old.0, (held_before service s t old.0 h.1.1 old.1.0, old.1.1))) h.2))
    (tells_then a b c (λ s t. ReadIsSafe service s t × ReadIsDone service s t) (AppendIsSafe service r) (tells_both a b (ReadIsSafe service) (ReadIsDone service) safe done) more)

pub done_then : (service : ℕ) (r : JournalRecord) (a b c : Option DiskState) → Tells a b (ReadIsDone service) → Tells b c (AppendIsDone service r) → Tells a c (AppendIsDone service r)
done_then service r a b c done more =
    tells_weaker a c _ (AppendIsDone service r) (λ s u h.
    let m = h.2 in
    record { records = m.records; held = held_before service s h.0 m.records h.1 m.held; stands = m.stands; settled = m.settled })
    (tells_then a b c (ReadIsDone service) (AppendIsDone service r) done more)

pub done_written : (service place : ℕ) (a b : Option DiskState) → Tells a b (AppendIsDone service (Done place)) → Tells a b (DoneIsDone service place)
done_written service place a b done = tells_weaker a b (AppendIsDone service (Done place)) (DoneIsDone service place) (λ s t h. inl h) done

pub done_unwritten : (service place : ℕ) (a b : Option DiskState) → Tells a b (ReadIsSafe service) → Tells a b (ReadIsDone service) → Tells a b (DoneIsDone service place)
done_unwritten service place a b safe done =
    tells_weaker a b _ (DoneIsDone service place) (λ s t h. inr h) (tells_both a b (ReadIsSafe service) (ReadIsDone service) safe done)

-- ---- the service is the same
pub at_service : (R : ℕ → DiskState → DiskState → Type 0) (a b : Option DiskState) (x y : ℕ) → x ≡ y → Tells a b (R x) → Tells a b (R y)
at_service R a b x y e h = subst (λ (n : ℕ). Tells a b (R n)) e h

-- ---- journals

pub known_now : (o octets : List ℕ) (f found : Found) (d : Option JournalRecord) → d ≡ None → MayFind octets found d o f → (o ≡ octets) × (f ≡ found)
known_now o octets f found None e may = may
known_now o octets f found (Some r) e may = absurd cc

-- ---- faults

pub if_err_weaker : {T E : Type 0} (r : Result T E) (P Q : E → Type 0) → ((e : E) → P e → Q e) → IfErr r P → IfErr r Q
if_err_weaker (Ok x) P Q f h = tt
if_err_weaker (Err e) P Q f h = f e h

-- the fault of a refusal
pub refused_as : {T : Type 0} (P : JournalFault → Type 0) (refusal : DiskRefusal) (fault : JournalFault) → (refusal ≡ DiskFailed → fault ≡ DiskFault) → (refusal ≡ DiskMemory → fault ≡ Memory)
    → (IsErrOf {T = T} (Err refusal) DiskFailed → P DiskFault) → (IsErrOf {T = T} (Err refusal) DiskMemory → P Memory) → P fault
refused_as P DiskFailed fault failed memory cause want = subst P (sym (failed refl)) (cause refl)
refused_as P DiskMemory fault failed memory cause want = subst P (sym (memory refl)) (want refl)

pub risen_later : (before mid after : ℕ) → before ≤ mid → mid ≤ after → HasRisen mid after → HasRisen before after
risen_later before mid after first second (inl rose) = inl (omega arith)
risen_later before mid after first second (inr at_end) = elim (cases_lt before mid) [ inl less ↦ inl (omega arith) | inr same ↦ inr (omega (arith, first, same, at_end)) ]

pub append_fault : (wants : Bool) (told : Option DiskState) (before after : ℕ) (fault : JournalFault) → IsReadFault wants told before after fault → IsAppendFault wants told before after fault
append_fault wants told before after DiskFault h = h
append_fault wants told before after (Full u n) h = absurd h
append_fault wants told before after (BadHeader place) h = h
append_fault wants told before after (BadRecord place) h = h
append_fault wants told before after LivesSpent h = absurd h
append_fault wants told before after Memory h = h

pub room_fault : (area : ℕ) (octets : List ℕ) (found : Found) (r : JournalRecord) (wants : Bool) (told : Option DiskState) (before after : ℕ) (fault : JournalFault) → IsRoomFault area octets found r fault → IsAppendFault wants told before after fault
room_fault area octets found r wants told before after DiskFault h = absurd h
room_fault area octets found r wants told before after (Full u n) h = tt
room_fault area octets found r wants told before after (BadHeader place) h = absurd h
room_fault area octets found r wants told before after (BadRecord place) h = absurd h
room_fault area octets found r wants told before after LivesSpent h = absurd h
room_fault area octets found r wants told before after Memory h = absurd h

-- where memory may be wanted
pub wanting_fault : (wants : Bool) (told : Option DiskState) (before after : ℕ) (fault : JournalFault) → IsReadFault wants told before after fault → IsReadFault true told before after fault
wanting_fault wants told before after DiskFault h = h
wanting_fault wants told before after (Full u n) h = absurd h
wanting_fault wants told before after (BadHeader place) h = h
wanting_fault wants told before after (BadRecord place) h = h
wanting_fault wants told before after LivesSpent h = absurd h
wanting_fault wants told before after Memory h = refl
