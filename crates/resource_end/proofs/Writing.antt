-- What an append and a reread of the journal make of what is known.
use Rattle.std.proofs.Common.{◌≡◌, ◌∙◌, inl, inr, ℕ, ◌+◌, Bool, true, false, List, [], ◌∷◌, ◌++◌, length, Option, Some, None, refl, sym, ap, subst, arith, length-append}
use Rattle.std.specs.Prelude.{◌==◌, find, IfSome, IsTrue, is_some, Result, Ok, Err}
use Rattle.std.specs.List.{slice_get}
use Rattle.std.specs.Option.{option_and_then, option_or}
use Rattle.std.specs.Result.{IsErrAnd}
use Rattle.std.proofs.lemmas.Bool.{both_ways}
use Rattle.std.proofs.lemmas.Option.{slice_get-get_or}
use Rattle.std.proofs.lemmas.List.Folds.{find-append}
use Rattle.std.proofs.Math.Seq.{get_or-append_seam}
use Rattle.ots_model.specs.declared.service.Status.{Status}
use Rattle.ots_outside.specs.Disk.{DiskState}
use Rattle.decision_journal.specs.Calls.{HasAppended, HasDoubt, IsReady, IsRefusedAppend, IsUnready}
use Rattle.decision_journal.specs.Journal.{Found, can_follow, with_record}
use Rattle.decision_journal.specs.State.{HasNoRoom, JournalState, MayFind, MayFollow, cells_in}
use Rattle.decision_journal.specs.declared.journal.JournalFault.{JournalFault}
use Rattle.decision_journal.specs.declared.journal.JournalFault.TheVariants as journal_faults
use Rattle.decision_journal.specs.declared.journal.Standing.{Standing}
use Rattle.decision_journal.specs.declared.record.JournalRecord.{JournalRecord}
use Rattle.decision_journal.specs.declared.record.JournalRecord.TheVariants.{Life, Decision, Done, Prepared, CellsPrepared, CellsOutcome, CellsOnePhase}
use Rattle.resource_end.specs.declared.fault.EndFault.{EndFault}
use Rattle.resource_end.specs.declared.fault.EndFault.TheVariants as faults
use Rattle.resource_end.specs.End.{Resource}
use Rattle.resource_end.specs.Calls.{StandsAt, Unwritten, InDoubt}
use Rattle.resource_end.specs.Faults.{write_fault}
use Rattle.resource_end.specs.Inside.{AreRecorded, ContentsState, HasWritten, Id, IsRecallable, IsToldBy, last_of, numbered, prepared_at, prepared_id, told_by_record}
use Rattle.resource_end.specs.Journaling.{CanStand, EndState, IsDiskFault}

-- ---- one record more

pub last_appended : (xs : List Standing) (x : Standing) → last_of (xs ++ x ∷ []) ≡ Some x
last_appended xs x =
    let n : length (xs ++ x ∷ []) ≡ length xs + 1 = length-append xs (x ∷ []) in
    ap (slice_get (xs ++ x ∷ [])) (omega (arith, n))
    ∙ slice_get-get_or (xs ++ x ∷ []) (length xs) x (omega (arith, n)) ∙ ap Some (get_or-append_seam xs x [] x)

still : (id : Id) (o q : Option Standing) → option_and_then (λ s. prepared_id s.item) o ≡ Some id → option_and_then (λ s. prepared_id s.item) (option_or o q) ≡ Some id
still id None q h = absurd (both_ways _ refl (ap is_some h))
still id (Some s) q h = h

pub still_there : (xs ys : List Standing) (place : ℕ) (id : Id) → prepared_at place xs ≡ Some id → prepared_at place (xs ++ ys) ≡ Some id
still_there xs ys place id h =
    ap (option_and_then (λ (s : Standing). prepared_id s.item)) (find-append (λ s. s.place == place) xs ys)
    ∙ still id (find (λ s. s.place == place) xs) (find (λ s. s.place == place) ys) h

pub more_recorded : (xs ys : List Standing) (rs : List Resource) → AreRecorded xs rs → AreRecorded (xs ++ ys) rs
more_recorded xs ys rs recorded id = by (numbered id rs) (recorded id)
  where
    at : (o : Option ℕ) → IfSome o (λ place. prepared_at place xs ≡ Some id) → IfSome o (λ place. prepared_at place (xs ++ ys) ≡ Some id)
    at None h = tt
    at (Some place) h = still_there xs ys place id h

    by : (o : Option Resource) → IfSome o (λ r. IfSome r.record_place (λ place. prepared_at place xs ≡ Some id))
        → IfSome o (λ r. IfSome r.record_place (λ place. prepared_at place (xs ++ ys) ≡ Some id))
    by None h = tt
    by (Some r) h = at r.record_place h

-- a record of cells stands behind the others
pub cells_more : (found : Found) (place : ℕ) (item : JournalRecord) → cells_in item ≡ 1
    → with_record found place item ≡ record { life = found.life; standing = found.standing ++ record { place = place; item = item } ∷ [] }
cells_more found place (Life life) h = absurd (omega (arith, h))
cells_more found place (Decision life slot generation k asked regs) h = absurd (omega (arith, h))
cells_more found place (Done done) h = absurd (omega (arith, h))
cells_more found place (Prepared life slot generation recovery regs) h = absurd (omega (arith, h))
cells_more found place (CellsPrepared life number recovery puts) h = refl
cells_more found place (CellsOutcome done how) h = refl
cells_more found place (CellsOnePhase life number puts) h = refl

-- ---- a journal that doubts nothing

pub doubts_nothing : {A : Type 0} (failed : Bool) (doubted : Option A) → failed ≡ false → failed ≡ is_some doubted → doubted ≡ None
doubts_nothing failed None f is = refl
doubts_nothing failed (Some r) f is = absurd (both_ways failed f is)

pub doubts_one : {A : Type 0} (failed : Bool) (doubted : Option A) → failed ≡ true → failed ≡ is_some doubted → (r : A) × (doubted ≡ Some r)
doubts_one failed None f is = absurd (both_ways failed is f)
doubts_one failed (Some r) f is = (r, refl)

pub finds_known : (octets more : List ℕ) (found after : Found) (doubted : Option JournalRecord) → doubted ≡ None → MayFind octets found doubted more after → after ≡ found
finds_known octets more found after doubted none h = (subst (λ d. MayFind octets found d more after) none h).1

pub may_follow : {D : Type 0} (j : JournalState D) (item : JournalRecord) → j.doubted ≡ None → IsTrue (can_follow j.found item) → MayFollow j item
may_follow j item none t octets found h = subst (λ f. IsTrue (can_follow f item)) (sym (finds_known j.octets octets j.found found j.doubted none h)) t

-- ---- a record is written

-- what is seen of an end
abbrev pub seen : {D : Type 0} → JournalState D → ℕ → ContentsState → Option Status → EndState D
seen j drawn c changed = record {
  end = record {
    service = j.service;
    life = j.found.life;
    drawn = drawn;
    resources = c.resources;
    cells = c.cells;
    doubted = j.doubted;
    changed = changed;
  };
  journal = j;
}

module _ {D : Type 0} (told : D → Option DiskState) (a b : JournalState D) (room : ℕ) where
  roomless : IsReady told (record a { room = room }) b → IsReady told a b
  roomless h = record {
    journal = record {
      area = h.journal.area;
      service = h.journal.service;
      known = h.journal.known;
      failed = h.journal.failed;
      doubted = h.journal.doubted;
    };
    disk = h.disk;
    current = h.current;
  }

  -- the journal that was ready has what was known
  ready_found : a.doubted ≡ None → IsReady told (record a { room = room }) b → b.found ≡ a.found
  ready_found none h = finds_known a.octets b.octets a.found b.found a.doubted none h.journal.known

module _ {D : Type 0} (told : D → Option DiskState) (a b : JournalState D) (room drawn : ℕ) (c : ContentsState) (changed : Option Status) (item : JournalRecord)
    (none : a.doubted ≡ None) where
  pub appended_found : (place : ℕ) → cells_in item ≡ 1 → HasAppended told (record a { room = room }) item b place
      → b.found ≡ record { life = a.found.life; standing = a.found.standing ++ record { place = place; item = item } ∷ [] }
  appended_found place cells h =
      h.appended.journal.found_is
      ∙ ap (λ p. with_record h.ready.found p item) (sym h.appended.journal.place_is)
      ∙ ap (λ f. with_record f place item) (ready_found told a h.ready room none h.is_ready)
      ∙ cells_more a.found place item cells

  pub wrote : (place : ℕ) (later : ContentsState) → cells_in item ≡ 1 → HasAppended told (record a { room = room }) item b place
      → IsToldBy (record { place = place; item = item }) c later
      → HasWritten told (seen a drawn c changed) (seen b drawn later changed) (Ok tt) (Some item) (λ written. told_by_record written item)
  wrote place later cells h said =
      let found = appended_found place cells h in
      record {
        written = StandsAt place;
        wrote = record { ready = h.ready; is_ready = roomless told a h.ready room h.is_ready; appended = h.appended; room = h.room };
        comes = record {
          end = (λ i. record {
            service = (h.appended.journal.service ∙ h.is_ready.journal.service) i;
            life = (found i).life;
            drawn = drawn;
            resources = later.resources;
            cells = later.cells;
            doubted = (h.appended.journal.doubted ∙ sym none) i;
            changed = changed;
          })
              ∙ sym (said (seen a drawn c changed).end);
          answer = refl;
        };
      }

  -- it may stand or not
  doubts : (fault : EndFault) → CanStand a.found item → IsDiskFault fault → HasDoubt told (record a { room = room }) item b
      → HasWritten told (seen a drawn c changed) (seen b drawn c changed) (Err fault) (Some item) (λ written. told_by_record written item)
  doubts fault can kind h =
      let found = h.doubt.journal.found ∙ ready_found told a h.ready room none h.is_ready in
      record {
        written = InDoubt fault;
        wrote = (record { ready = h.ready; is_ready = roomless told a h.ready room h.is_ready; doubt = h.doubt }, kind, can);
        comes = record {
          end = (λ i. record {
            service = (h.doubt.journal.service ∙ h.is_ready.journal.service) i;
            life = (found i).life;
            drawn = drawn;
            resources = c.resources;
            cells = c.cells;
            doubted = h.doubt.journal.doubted i;
            changed = changed;
          });
          answer = refl;
        };
      }

  -- it is as before
  same_seen : b.service ≡ a.service → b.found ≡ a.found → b.doubted ≡ None → (seen b drawn c changed).end ≡ (seen a drawn c changed).end
  same_seen service found doubted = (λ i. record {
    service = service i;
    life = (found i).life;
    drawn = drawn;
    resources = c.resources;
    cells = c.cells;
    doubted = (doubted ∙ sym none) i;
    changed = changed;
  })

  no_room : (u n : ℕ) → IsReady told (record a { room = room }) b → HasNoRoom b.area b.octets b.found item u n
      → HasWritten told (seen a drawn c changed) (seen b drawn c changed) (Err faults.NoResources) (Some item) (λ written. told_by_record written item)
  no_room u n h full = record {
    written = Unwritten faults.NoResources;
    wrote = inr (roomless told a b room h, refl, (u, n, full));
    comes = record { end = same_seen h.journal.service (ready_found told a b room none h) h.journal.doubted; answer = refl };
  }

  pub starved : b ≡ record a { room = b.room }
      → HasWritten told (seen a drawn c changed) (seen b drawn c changed) (Err faults.Memory) (Some item) (λ written. told_by_record written item)
  starved same = record {
    written = Unwritten faults.Memory;
    wrote = inl (same, refl);
    comes = record { end = ap (λ j. (seen j drawn c changed).end) same; answer = refl };
  }

  was_ready : {A : Type 0} → a.failed ≡ false → IsUnready told (record a { room = room }) b → A
  was_ready ready h = absurd (both_ways a.failed ready h.was)

  pub refused : (fault : JournalFault) → CanStand a.found item → a.failed ≡ false → IsRefusedAppend told (record a { room = room }) item b fault
      → HasWritten told (seen a drawn c changed) (seen b drawn c changed) (Err (write_fault fault)) (Some item) (λ written. told_by_record written item)
  refused journal_faults.DiskFault can ready (inl h) = was_ready ready h
  refused journal_faults.DiskFault can ready (inr h) = doubts faults.PersistStore can tt h
  refused (journal_faults.Full u n) can ready h = no_room u n h.0 h.1
  refused (journal_faults.BadHeader place) can ready h = was_ready ready h
  refused (journal_faults.BadRecord place) can ready h = was_ready ready h
  refused journal_faults.LivesSpent can ready h = absurd h
  refused journal_faults.Memory can ready (inl h) = was_ready ready h
  refused journal_faults.Memory can ready (inr h) = doubts faults.Memory can tt h

-- ---- what is known where a record was appended

-- the last record is this one, and it can be recalled
pub last_recallable : (standing : List Standing) (s : Standing) (recovery : List ℕ) (rs : List Resource) → last_of standing ≡ Some s → IsRecallable s.item recovery rs
    → IfSome (last_of standing) (λ x. IsRecallable x.item recovery rs)
last_recallable standing s recovery rs is h = subst (λ o. IfSome o (λ x. IsRecallable x.item recovery rs)) (sym is) h

pub last_told : (standing : List Standing) (s : Standing) (before after : ContentsState) → last_of standing ≡ Some s
    → IfSome (last_of standing) (λ x. IsToldBy x before after) → IsToldBy s before after
last_told standing s before after is h = subst (λ o. IfSome o (λ x. IsToldBy x before after)) is h

-- memory was wanted
pub memory_err : {A : Type 0} (result : Result A EndFault) → IsErrAnd result (λ fault. fault ≡ faults.Memory) → result ≡ Err faults.Memory
memory_err (Ok x) h = absurd h
memory_err (Err e) h = ap (λ x. Err x) h

pub same_err : {A : Type 0} (result : Result A EndFault) (fault : EndFault) → IsErrAnd result (λ e. e ≡ fault) → result ≡ Err fault
same_err (Ok x) fault h = absurd h
same_err (Err e) fault h = ap (λ x. Err x) h
