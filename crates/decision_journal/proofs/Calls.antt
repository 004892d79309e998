-- A reading of a disk and then a write of a record: what is written, and what stands where that is refused.
use Rattle.std.proofs.Common.{◌≡◌, inl, inr, ℕ, ◌+◌, ◌≤◌, Bool, true, false, length, Option, Some, None, Result, Ok, Err, refl, sym, subst}
use Rattle.std.specs.Prelude.{IfErr, IfOk, OnErr}
use Rattle.ots_outside.specs.Disk.{DiskState, Tells}
use Rattle.decision_journal.specs.declared.record.JournalRecord.{JournalRecord}
use Rattle.decision_journal.specs.declared.journal.JournalFault.{JournalFault}
use Rattle.decision_journal.specs.declared.journal.JournalFault.TheVariants.{DiskFault, Full, BadHeader, BadRecord, LivesSpent, Memory}
use Rattle.decision_journal.specs.Laws.{IsOnTheWay, appended, behind_gate}
use Rattle.decision_journal.specs.State.{HasMore, HasReread, IsAppendFault, IsReadFault, IsRoomFault, IsSound, IsUnread, IsUnsure, JournalState, need, used}
use Rattle.decision_journal.specs.Calls.{HasAppended, HasDoubt, IsCurrent, IsReady, IsRefusedAppend, IsRefusedReading, IsUnready, IsUnwritten, reread}
use Rattle.decision_journal.specs.Loading.{IsDiskFault}
use Rattle.decision_journal.proofs.Joined.{risen_later}
use Rattle.decision_journal.proofs.Kept.{at_rest, within_now}
use Rattle.decision_journal.proofs.Ways.{tells_then, tells_weaker}

-- ---- disks

-- where no call had failed, the disk is as it was
pub reread_fine : (failed : Bool) (a : Option DiskState) → failed ≡ false → Tells a a (λ s t. t ≡ reread failed s)
reread_fine failed None e = tt
reread_fine failed (Some s) e = subst (λ (f : Bool). s ≡ reread f s) (sym e) refl

-- and what comes behind it is so of the disk before
pub fine_then : (failed : Bool) → failed ≡ false → (a b c : Option DiskState) (R : DiskState → DiskState → Type 0) → Tells a b (λ s t. t ≡ reread failed s) → Tells b c R → Tells a c R
fine_then true e a b c R first second = absurd cc
fine_then false e a b c R first second = tells_weaker a c _ R (λ s u h. subst (λ (m : DiskState). R m u) h.1 h.2) (tells_then a b c (λ s t. t ≡ s) R first second)

-- where one had, it was synced
pub reread_failed : (failed : Bool) (a b : Option DiskState) → failed ≡ true → Tells a b (λ s t. t ≡ reread true s) → Tells a b (λ s t. t ≡ reread failed s)
reread_failed failed a b e h = subst (λ (f : Bool). Tells a b (λ s t. t ≡ reread f s)) (sym e) h

-- ---- journals

-- a journal that needn't read its disk again has what it holds
pub current_fine : {D : Type 0} (told : D → Option DiskState) (j : JournalState D) → IsSound (told j.disk) j.area j.service j.octets j.found j.failed j.doubted → j.failed ≡ false → IsCurrent told j
current_fine told j sound fine = record {
  within = within_now (told j.disk) j.area j.service j.octets j.found j.failed j.doubted sound;
  rest = at_rest j.failed j.octets j.doubted (told j.disk) fine sound.kept;
}

pub current_of : {D : Type 0} (told : D → Option DiskState) (j : JournalState D) → IsSound (told j.disk) j.area j.service j.octets j.found false j.doubted → IsCurrent told j
current_of told j sound = record {
  within = within_now (told j.disk) j.area j.service j.octets j.found false j.doubted sound;
  rest = at_rest false j.octets j.doubted (told j.disk) refl sound.kept;
}

-- ---- refusals

module _ {D : Type 0} (told : D → Option DiskState) (before : JournalState D) where
  module _ (after : JournalState D) (unread : IsUnread before after) (unwritten : Tells (told before.disk) (told after.disk) IsUnwritten) (was : before.failed ≡ true) where
    unready : IsUnready told before after
    unready = record { journal = unread; disk = unwritten; was = was }

    pub refused_unready : (r : JournalRecord) (wants : Bool) (now : Option DiskState) (n m : ℕ) (fault : JournalFault) → IsReadFault wants now n m fault → IsRefusedAppend told before r after fault
    refused_unready r wants now n m DiskFault f = inl unready
    refused_unready r wants now n m (Full u k) f = absurd f
    refused_unready r wants now n m (BadHeader place) f = unready
    refused_unready r wants now n m (BadRecord place) f = unready
    refused_unready r wants now n m LivesSpent f = absurd f
    refused_unready r wants now n m Memory f = inl unready

    pub unready_reading : (wants : Bool) (now : Option DiskState) (n m : ℕ) (fault : JournalFault) → IsReadFault wants now n m fault → IsRefusedReading told before after fault
    unready_reading wants now n m DiskFault f = unready
    unready_reading wants now n m (Full u k) f = absurd f
    unready_reading wants now n m (BadHeader place) f = unready
    unready_reading wants now n m (BadRecord place) f = unready
    unready_reading wants now n m LivesSpent f = absurd f
    unready_reading wants now n m Memory f = inl unready

  module _ (mid : JournalState D) (read : HasReread before mid) (disk : Tells (told before.disk) (told mid.disk) (λ s t. t ≡ reread before.failed s)) (current : IsCurrent told mid) where
    pub ready_of : IsReady told before mid
    ready_of = record { journal = read; disk = disk; current = current }

    module _ (r : JournalRecord) where
      pub refused_ready : (fault : JournalFault) → IsRoomFault mid.area mid.octets mid.found r fault → IsRefusedAppend told before r mid fault
      refused_ready DiskFault f = absurd f
      refused_ready (Full u n) f = (ready_of, f)
      refused_ready (BadHeader place) f = absurd f
      refused_ready (BadRecord place) f = absurd f
      refused_ready LivesSpent f = absurd f
      refused_ready Memory f = absurd f

      module _ (after : JournalState D) (unsure : IsUnsure mid r after) (way : Tells (told mid.disk) (told after.disk) (λ s t. IsOnTheWay s (appended (length mid.octets) (behind_gate r) s) t)) where
        doubt : HasDoubt told before r after
        doubt = record { ready = mid; is_ready = ready_of; doubt = record { journal = unsure; disk = way } }

        pub refused_doubt : (wants : Bool) (n m : ℕ) (fault : JournalFault) → IsDiskFault wants n m fault → IsRefusedAppend told before r after fault
        refused_doubt wants n m DiskFault f = inr doubt
        refused_doubt wants n m (Full u k) f = absurd f
        refused_doubt wants n m (BadHeader place) f = absurd f
        refused_doubt wants n m (BadRecord place) f = absurd f
        refused_doubt wants n m LivesSpent f = absurd f
        refused_doubt wants n m Memory f = inr doubt

      -- of what a write answers
      pub refused_write : {T : Type 0} (result : Result T JournalFault) (after : JournalState D) (wants : Bool) (n m : ℕ) → IfErr result (IsDiskFault wants n m) → OnErr result (IsUnsure mid r after)
          → OnErr result (Tells (told mid.disk) (told after.disk) (λ s t. IsOnTheWay s (appended (length mid.octets) (behind_gate r) s) t)) → IfErr result (IsRefusedAppend told before r after)
      refused_write (Ok x) after wants n m f unsure way = tt
      refused_write (Err fault) after wants n m f unsure way = refused_doubt after unsure way wants n m fault f

      pub appended_write : (result : Result ℕ JournalFault) (after : JournalState D) → IfOk result (HasMore mid after r) → IfOk result (λ place. Tells (told mid.disk) (told after.disk) (λ s t. t ≡ appended place (behind_gate r) s))
          → used mid.octets mid.found + need mid.area mid.found r ≤ mid.area → IfOk result (HasAppended told before r after)
      appended_write (Ok place) after more written room = record { ready = mid; is_ready = ready_of; appended = record { journal = more; disk = written }; room = room }
      appended_write (Err fault) after more written room = tt

-- ---- causes

module _ (wants : Bool) (told : Option DiskState) (before mid after : ℕ) (first : before ≤ mid) (second : mid ≤ after) where
  pub append_fault_then : (fault : JournalFault) → IsDiskFault wants mid after fault → IsAppendFault wants told before after fault
  append_fault_then DiskFault f = risen_later before mid after first second f
  append_fault_then (Full u n) f = absurd f
  append_fault_then (BadHeader place) f = absurd f
  append_fault_then (BadRecord place) f = absurd f
  append_fault_then LivesSpent f = absurd f
  append_fault_then Memory f = f

  pub done_fault_then : (fault : JournalFault) → IsDiskFault wants mid after fault → IsReadFault wants told before after fault
  done_fault_then DiskFault f = risen_later before mid after first second f
  done_fault_then (Full u n) f = absurd f
  done_fault_then (BadHeader place) f = absurd f
  done_fault_then (BadRecord place) f = absurd f
  done_fault_then LivesSpent f = absurd f
  done_fault_then Memory f = f
