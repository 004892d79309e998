-- What reading the journal again makes of an end, and why it is refused.
use Rattle.std.proofs.Common.{◌≡◌, ◌∙◌, inl, inr, ℕ, ◌+◌, ◌<◌, ◌≤◌, Bool, true, false, List, [], ◌∷◌, length, Option, Some, None, refl, sym, ap, subst, arith, length-append}
use Rattle.std.specs.Prelude.{IfSome, Ok, Err, is_some}
use Rattle.std.proofs.lemmas.Bool.{both_ways}
use Rattle.ots_model.specs.declared.service.Status.{Status}
use Rattle.ots_outside.specs.Disk.{DiskState, Tells, synced}
use Rattle.decision_journal.specs.Calls as journal_calls
use Rattle.decision_journal.specs.Calls.{IsCurrent, IsReady, IsRefusedAppend, IsUnready, IsUnwritten}
use Rattle.decision_journal.specs.Journal.{Found, with_record}
use Rattle.decision_journal.specs.State.{HasReread, IsAppendFault, IsReadFault, IsUnread, JournalState, MayFind, cells_in}
use Rattle.decision_journal.specs.declared.journal.JournalFault.{JournalFault}
use Rattle.decision_journal.specs.declared.journal.JournalFault.TheVariants as journal_faults
use Rattle.decision_journal.specs.declared.journal.Standing.{Standing}
use Rattle.decision_journal.specs.declared.record.JournalRecord.{JournalRecord}
use Rattle.decision_journal.specs.declared.record.JournalRecord.TheVariants.{Life, Decision, Done, Prepared, CellsPrepared, CellsOutcome, CellsOnePhase}
use Rattle.resource_end.specs.declared.fault.EndFault.{EndFault}
use Rattle.resource_end.specs.End.{End, Resource}
use Rattle.resource_end.specs.Faults.{write_fault}
use Rattle.resource_end.specs.Recall.{Stands, StandsNot, Unread, reread, reread_by, sure}
use Rattle.resource_end.specs.Inside.{AnswersSo, ContentsState, HasReadAgain, IsRecallable, IsToldBy}
use Rattle.resource_end.specs.Journaling.{IsCause, IsDiskFault, IsRereadWhere}
use Rattle.resource_end.proofs.Writing.{cells_more, doubts_one, seen}

-- ---- why it is refused

pub read_kind : (wants : Bool) (told : Option DiskState) (before after : ℕ) (fault : JournalFault) → IsReadFault wants told before after fault → IsDiskFault (write_fault fault)
read_kind wants told before after journal_faults.DiskFault h = tt
read_kind wants told before after (journal_faults.Full u n) h = absurd h
read_kind wants told before after (journal_faults.BadHeader place) h = tt
read_kind wants told before after (journal_faults.BadRecord place) h = tt
read_kind wants told before after journal_faults.LivesSpent h = absurd h
read_kind wants told before after journal_faults.Memory h = tt

module _ {D : Type 0} (wants : Bool) (told : D → Option DiskState) (count : D → ℕ) (a b : JournalState D) where
  pub read_cause : (fault : JournalFault) → a.failed ≡ true → IsReadFault wants (told b.disk) (count a.disk) (count b.disk) fault
      → IsCause wants told count a b (write_fault fault)
  read_cause journal_faults.DiskFault failed h = inl h
  read_cause (journal_faults.Full u n) failed h = absurd h
  read_cause (journal_faults.BadHeader place) failed h = inr (failed, h)
  read_cause (journal_faults.BadRecord place) failed h = inr (failed, h)
  read_cause journal_faults.LivesSpent failed h = absurd h
  read_cause journal_faults.Memory failed h = inl h

  -- a journal that was ready doesn't read its disk again, so it finds no other octets
  pub append_cause : (room : ℕ) (item : JournalRecord) (fault : JournalFault) → a.failed ≡ false → IsRefusedAppend told (record a { room = room }) item b fault
      → IsAppendFault wants (told b.disk) (count a.disk) (count b.disk) fault → IsCause wants told count a b (write_fault fault)
  append_cause room item journal_faults.DiskFault ready why h = inl h
  append_cause room item (journal_faults.Full u n) ready why h = tt
  append_cause room item (journal_faults.BadHeader place) ready why h = absurd (both_ways a.failed ready why.was)
  append_cause room item (journal_faults.BadRecord place) ready why h = absurd (both_ways a.failed ready why.was)
  append_cause room item journal_faults.LivesSpent ready why h = absurd h
  append_cause room item journal_faults.Memory ready why h = inl h

-- ---- what is found

pub recallable_cells : (item : JournalRecord) (recovery : List ℕ) (rs : List Resource) → IsRecallable item recovery rs → cells_in item ≡ 1
recallable_cells (Life life) recovery rs h = absurd h
recallable_cells (Decision life slot generation k asked regs) recovery rs h = absurd h
recallable_cells (Done done) recovery rs h = absurd h
recallable_cells (Prepared life slot generation superior regs) recovery rs h = absurd h
recallable_cells (CellsPrepared life number said puts) recovery rs h = refl
recallable_cells (CellsOutcome done how) recovery rs h = refl
recallable_cells (CellsOnePhase life number puts) recovery rs h = refl

pub found_more : (octets more : List ℕ) (found after : Found) (item : JournalRecord) → MayFind octets found (Some item) more after
    → length found.standing < length after.standing → after ≡ with_record found (length octets) item
found_more octets more found after item (inl h) lt = absurd (omega (arith, lt, ap (λ (f : Found). length f.standing) h.1))
found_more octets more found after item (inr h) lt = h.1

pub found_same : (octets more : List ℕ) (found after : Found) (item : JournalRecord) → cells_in item ≡ 1 → MayFind octets found (Some item) more after
    → length after.standing ≤ length found.standing → after ≡ found
found_same octets more found after item cells (inl h) le = h.1
found_same octets more found after item cells (inr h) le =
    let s : Standing = record { place = length octets; item = item } in
    let n : length after.standing ≡ length found.standing + 1 =
    ap (λ (f : Found). length f.standing) (h.1 ∙ cells_more found (length octets) item cells) ∙ length-append found.standing (s ∷ []) in
    absurd (omega (arith, le, n))

-- ---- what the end becomes

module _ {D : Type 0} (told : D → Option DiskState) (a : JournalState D) (drawn : ℕ) (c : ContentsState) (changed : Option Status) where
  abbrev before : End
  before = (seen a drawn c changed).end

  pub no_reread : a.failed ≡ false → a.doubted ≡ None → HasReadAgain told (seen a drawn c changed) (seen a drawn c changed) (Ok tt)
  unfolding reread
  no_reread ready none = record {
    found = StandsNot;
    read = subst (λ f. IsRereadWhere f told a a StandsNot) (sym ready) refl;
    answers = subst (λ d. AnswersSo (reread_by d StandsNot before) (seen a drawn c changed) (seen a drawn c changed) (Ok tt)) (sym none) (refl, refl);
  }

  module _ (b : JournalState D) (item : JournalRecord) (failed : a.failed ≡ true) (doubted : a.doubted ≡ Some item) where
    pub known : HasReread a b → MayFind a.octets a.found (Some item) b.octets b.found
    known h = subst (λ d. MayFind a.octets a.found d b.octets b.found) doubted h.known

    pub is_ready : HasReread a b → IsCurrent told b → Tells (told a.disk) (told b.disk) (λ s t. t ≡ synced s) → IsReady told a b
    is_ready h current disk = record {
      journal = h;
      disk = subst (λ f. Tells (told a.disk) (told b.disk) (λ s t. t ≡ journal_calls.reread f s)) (sym failed) disk;
      current = current;
    }

    pub stands_not : IsReady told a b → b.found ≡ a.found → HasReadAgain told (seen a drawn c changed) (seen b drawn c changed) (Ok tt)
    unfolding reread
    stands_not h found = record {
      found = StandsNot;
      read = subst (λ f. IsRereadWhere f told a b StandsNot) (sym failed) (h, found);
      answers = subst (λ d. AnswersSo (reread_by d StandsNot before) (seen a drawn c changed) (seen b drawn c changed) (Ok tt)) (sym doubted) (
        (λ i. record {
          service = h.journal.service i;
          life = (found i).life;
          drawn = drawn;
          resources = c.resources;
          cells = c.cells;
          doubted = h.journal.doubted i;
          changed = changed;
        }),
        refl,
      );
    }

    pub stands : (later : ContentsState) → IsReady told a b → cells_in item ≡ 1 → b.found ≡ with_record a.found (length a.octets) item
        → IsToldBy (record { place = length a.octets; item = item }) c later → HasReadAgain told (seen a drawn c changed) (seen b drawn later changed) (Ok tt)
    unfolding reread
    stands later h cells found said = record {
      found = Stands (length a.octets);
      read = subst (λ f. IsRereadWhere f told a b (Stands (length a.octets))) (sym failed)
          (h, (refl, subst (λ d. IfSome d (λ r. b.found ≡ with_record a.found (length a.octets) r)) (sym doubted) found));
      answers = subst (λ d. AnswersSo (reread_by d (Stands (length a.octets)) before) (seen a drawn c changed) (seen b drawn later changed) (Ok tt)) (sym doubted) (
        ((λ i. record {
          service = h.journal.service i;
          life = ((found ∙ cells_more a.found (length a.octets) item cells) i).life;
          drawn = drawn;
          resources = later.resources;
          cells = later.cells;
          doubted = h.journal.doubted i;
          changed = changed;
        }) ∙ sym (said (sure before))),
        refl,
      );
    }

    pub unread : (fault : EndFault) → IsUnread a b → Tells (told a.disk) (told b.disk) IsUnwritten → IsDiskFault fault
        → HasReadAgain told (seen a drawn c changed) (seen b drawn c changed) (Err fault)
    unfolding reread
    unread fault h disk kind = record {
      found = Unread fault;
      read = subst (λ f. IsRereadWhere f told a b (Unread fault)) (sym failed) (record { journal = h; disk = disk; was = failed }, kind);
      answers = subst (λ d. AnswersSo (reread_by d (Unread fault) before) (seen a drawn c changed) (seen b drawn c changed) (Err fault)) (sym doubted) (
        (λ i. record {
          service = h.service i;
          life = (h.found i).life;
          drawn = drawn;
          resources = c.resources;
          cells = c.cells;
          doubted = h.doubted i;
          changed = changed;
        }),
        refl,
      );
    }

-- the record in doubt, and that it can be recalled
pub in_doubt : {D : Type 0} (a : JournalState D) (recovery : List ℕ) (rs : List Resource) → a.failed ≡ true → a.failed ≡ is_some a.doubted
    → IfSome a.doubted (λ item. IsRecallable item recovery rs) → (item : JournalRecord) × ((a.doubted ≡ Some item) × IsRecallable item recovery rs)
in_doubt a recovery rs failed is recallable =
    let it = doubts_one a.failed a.doubted failed is in
    (it.0, (it.1, subst (λ d. IfSome d (λ item. IsRecallable item recovery rs)) it.1 recallable))
