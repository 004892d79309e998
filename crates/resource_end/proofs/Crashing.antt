-- A crash at any moment of a call leaves what a load before it might have made, or what one behind it might make.
use Rattle.std.proofs.Common.{◌≡◌, ◌∙◌, inl, inr, ℕ, ◌+◌, Bool, true, false, List, [], ◌∷◌, ◌++◌, length, Option, Some, None, refl, sym, ap, subst, arith, length-append}
use Rattle.std.specs.Prelude.{IfSome, IsTrue, is_some, Result, Ok, Err}
use Rattle.std.specs.List.{AllByRecursion}
use Rattle.std.proofs.lemmas.Bool.{both_ways}
use Rattle.ots_outside.specs.Disk.{DiskState, LeavesOnly, LeavesOnlySince, Moment, Tells, moments, synced}
use Rattle.decision_journal.specs.Calls as journal_calls
use Rattle.decision_journal.specs.Calls.{HasAppended, HasDoubt, IsAppended, IsInDoubt, IsReady, IsUnwritten}
use Rattle.decision_journal.specs.Journal.{AreInTurn, AreRecords, Found, Holds, IsFilled, StandsAt, StandsFor, StandsForEither, can_follow, found_in, front, with_record, with_records}
use Rattle.decision_journal.specs.Laws.{AppendsAreSafe, CanAppend, IsOnTheWay, OctetsStandForOneList, appended, behind_gate}
use Rattle.decision_journal.specs.Layout.{Fits, record_octets}
use Rattle.decision_journal.specs.Loading.{LoadIsDone, next_life}
use Rattle.decision_journal.specs.State.{BeginsWithEither, IsAtRest, IsKept, IsWithinArea, JournalState, MayFind, MayHave, StaysWithinArea}
use Rattle.decision_journal.specs.declared.record.JournalRecord.{JournalRecord}
use Rattle.decision_journal.specs.declared.record.JournalRecord.TheVariants.{Life}
use Rattle.decision_journal.proofs.Joined.{known_now}
use Rattle.decision_journal.proofs.Kept.{at_rest, known, stands_from}
use Rattle.decision_journal.proofs.Scans.{more_are}
use Rattle.decision_journal.proofs.Since.{leaves_settled, since_start, since_then, since_weaker}
use Rattle.decision_journal.proofs.Ways.{on_the_way, tells_then, tells_weaker}
use Rattle.resource_end.specs.declared.fault.EndFault.{EndFault}
use Rattle.resource_end.specs.Calls.{Called, Journaled, Written, StandsAt as StandsThere, Unwritten, InDoubt}
use Rattle.resource_end.specs.Crashes.{Gives, IsBeforeOrAfter, IsCrashSafe, Makes, RestartsTellOneMore, restarted}
use Rattle.resource_end.specs.End.{End}
use Rattle.resource_end.specs.Inside.{IsKeptWhole}
use Rattle.resource_end.specs.Journaling.{CanStand, EndState, IsCalled, IsCalledOrStarved, IsRereadWhere, IsStarved, afresh, IsWrittenWhere, Journals, WritesBehind, nothing}
use Rattle.resource_end.proofs.Counting.{loads_tell_one_more}
use Rattle.resource_end.proofs.Writing.{cells_more}
use Rattle.resource_end.specs.Recall.{Reread, Stands, StandsNot, Unread, loaded, reread, reread_by}

-- ---- runs of a disk

head_of : (m n : Moment) (ms ns : List Moment) → m ∷ ms ≡ n ∷ ns → m ≡ n
head_of m n ms ns e = cc

module _ (P : List ℕ → Type 0) where
  -- a crash now leaves octets that have P
  abbrev Now : Option DiskState → Type 0
  Now o = IfSome o (λ s. LeavesOnly P s.present)

  abbrev Run : Option DiskState → Option DiskState → Type 0
  Run a b = Tells a b (LeavesOnlySince P)

  run_none : (a : Option DiskState) → Now a → Run a a
  run_none None h = tt
  run_none (Some s) h = since_start P s h

  run_then : (a b c : Option DiskState) → Run a b → Run b c → Run a c
  run_then a b c x y =
      tells_weaker a c _ (LeavesOnlySince P) (λ s u h. since_then P s h.0 u h.1 h.2) (tells_then a b c (LeavesOnlySince P) (LeavesOnlySince P) x y)

  since_one : (s t : DiskState) → LeavesOnly P s.present → LeavesOnly P t.present → moments t ≡ moments (synced s) → LeavesOnlySince P s t
  since_one s t here now e = record {
    more = t.present ∷ [];
    moments = e ∙ ap (λ m. m ∷ moments s) (sym (head_of t.present (synced s).present t.earlier (moments s) e));
    at_start = here;
    later = (now, tt);
  }

  run_reread : (failed : Bool) (a b : Option DiskState) → Now a → Now b → Tells a b (λ s t. t ≡ journal_calls.reread failed s) → Run a b
  run_reread failed None None here now h = tt
  run_reread failed None (Some t) here now h = absurd h
  run_reread failed (Some s) None here now h = absurd h
  run_reread true (Some s) (Some t) here now is = since_one s t here now (ap moments is)
  run_reread false (Some s) (Some t) here now is = subst (LeavesOnlySince P s) (sym is) (since_start P s here)

  run_unwritten : (a b : Option DiskState) → Now a → Now b → Tells a b IsUnwritten → Run a b
  run_unwritten None None here now h = tt
  run_unwritten None (Some t) here now h = absurd h
  run_unwritten (Some s) None here now h = absurd h
  run_unwritten (Some s) (Some t) here now h = elim h.moments [
    | inl same ↦ record { more = []; moments = same; at_start = here; later = tt }
    | inr same ↦ since_one s t here now same
  ]

  module _ (appends : AppendsAreSafe) (service : ℕ) (rs : List JournalRecord) (r : JournalRecord) (octets : List ℕ) (found : Found)
      (are : AreRecords service octets found rs) (can : CanAppend service rs r) (has : (c : List ℕ) → StandsForEither service rs r c → P c) where
    abbrev end_of : DiskState → DiskState
    end_of s = appended (length (front service rs)) (behind_gate r) s

    since_append : (s t : DiskState) → IsAtRest octets s → IsOnTheWay s (end_of s) t → LeavesOnlySince P s t
    since_append s t rest way =
        on_the_way P s (end_of s) t
        (since_weaker (StandsForEither service rs r) P s (end_of s) has
        (appends service rs r s rest.settled (stands_from service octets s.reads found rs are rest.stands) can).1) way

    run_way : (a b : Option DiskState) → IfSome a (IsAtRest octets) → Tells a b (λ s t. IsOnTheWay s (end_of s) t) → Run a b
    run_way None None rest h = tt
    run_way None (Some t) rest h = absurd h
    run_way (Some s) None rest h = absurd h
    run_way (Some s) (Some t) rest h = since_append s t rest h

    run_append : (a b : Option DiskState) (place : ℕ) → place ≡ length octets → IfSome a (IsAtRest octets)
        → Tells a b (λ s t. IsOnTheWay s (appended place (behind_gate r) s) t) → Run a b
    run_append a b place is rest h =
        run_way a b rest
        (subst (λ g. Tells a b (λ s t. IsOnTheWay s (appended g (behind_gate r) s) t)) (is ∙ ap length are.octets_are) h)

-- the end of an append is on the way to it
at_end : (a b : Option DiskState) (place : ℕ) (r : JournalRecord) → Tells a b (λ s t. t ≡ appended place (behind_gate r) s)
    → Tells a b (λ s t. IsOnTheWay s (appended place (behind_gate r) s) t)
at_end a b place r h =
    tells_weaker a b (λ s t. t ≡ appended place (behind_gate r) s) (λ s t. IsOnTheWay s (appended place (behind_gate r) s) t)
    (λ s t e. record { left = 0; within = omega arith; moments_are = ap moments e }) h

-- ---- what octets begin with

either : (octets image : List ℕ) (found : Found) (doubted : Option JournalRecord) (Q : Type 0)
    → ((o : List ℕ) (f : Found) → MayFind octets found doubted o f → StandsAt o image → Q) → BeginsWithEither octets doubted image → Q
either octets image found None Q has at = has octets found (refl, refl) at
either octets image found (Some r) Q has (inl at) = has octets found (inl (refl, refl)) at
either octets image found (Some r) Q has (inr at) = has (octets ++ record_octets r) (with_record found (length octets) r) (inr (refl, refl)) at

rest_now : (P : List ℕ → Type 0) (o : Option DiskState) (octets : List ℕ) → ((image : List ℕ) → StandsAt octets image → P image) → IfSome o (IsAtRest octets) → Now P o
rest_now P None octets has rest = tt
rest_now P (Some s) octets has rest = leaves_settled P s rest.settled (has s.reads rest.stands)

kept_now : (P : List ℕ → Type 0) (failed : Bool) (octets : List ℕ) (doubted : Option JournalRecord) (o : Option DiskState)
    → ((image : List ℕ) → BeginsWithEither octets doubted image → P image) → IsKept failed octets doubted o → Now P o
kept_now P true octets doubted None has kept = tt
kept_now P true octets doubted (Some s) has kept = λ c image. has c (kept c image)
kept_now P false octets None o has kept = rest_now P o octets has kept
kept_now P false octets (Some r) o has kept = absurd kept

-- ---- the last record of some

fit_last : (rs : List JournalRecord) (r : JournalRecord) → AllByRecursion Fits (rs ++ r ∷ []) → Fits r
fit_last [] r fit = fit.0
fit_last (s ∷ rs) r fit = fit_last rs r fit.1

turn_last : (found : Found) (place : ℕ) (rs : List JournalRecord) (r : JournalRecord) → AreInTurn found place (rs ++ r ∷ []) → IsTrue (can_follow (with_records found place rs) r)
turn_last found place [] r turn = turn.0
turn_last found place (s ∷ rs) r turn = turn_last (with_record found place s) (place + length (record_octets s)) rs r turn.1

-- ---- journals

module _ {D : Type 0} (told : D → Option DiskState) (before after : JournalState D) where
  abbrev P : List ℕ → Type 0
  P = IsBeforeOrAfter before after

  gives : (octets : List ℕ) (found : Found) (image : List ℕ) → IsFilled before.service octets found → StandsAt octets image
      → Gives before.service image (restarted before.service found)
  gives octets found image filled at = record {
    records = filled.0;
    stand = stands_from before.service octets image found filled.0 filled.1 at;
    end = ap (restarted before.service) filled.1.found_is;
  }

  was : (octets : List ℕ) (found : Found) → MayHave before octets found → IsFilled before.service octets found → (image : List ℕ) → StandsAt octets image → P image
  was octets found may filled image at =
      (restarted before.service found, (gives octets found image filled at, inl (record { octets = octets; found = found; known = may; end = refl })))

  is : (octets : List ℕ) (found : Found) → MayHave after octets found → after.service ≡ before.service → IsFilled before.service octets found
      → (image : List ℕ) → StandsAt octets image → P image
  is octets found may service filled image at = (
    restarted before.service found,
    (gives octets found image filled at, inr (record { octets = octets; found = found; known = may; end = ap (λ n. restarted n found) (sym service) })),
  )

  before_now : IsKept before.failed before.octets before.doubted (told before.disk) → StaysWithinArea before → Now P (told before.disk)
  before_now kept each =
      kept_now P before.failed before.octets before.doubted (told before.disk)
      (λ image. either before.octets image before.found before.doubted (P image) (λ o f may. was o f may (each o f may).filled image)) kept

  after_now : IsKept after.failed after.octets after.doubted (told after.disk) → StaysWithinArea after → after.service ≡ before.service → Now P (told after.disk)
  after_now kept each service =
      kept_now P after.failed after.octets after.doubted (told after.disk)
      (λ image. either after.octets image after.found after.doubted (P image)
      (λ o f may. is o f may service (subst (λ n. IsFilled n o f) service (each o f may).filled) image)) kept

  -- a journal that is ready has what was known before
  record IsSteady (j : JournalState D) : Type 0 where
    may : MayHave before j.octets j.found
    service : j.service ≡ before.service
    filled : IsFilled before.service j.octets j.found
    rest : IfSome (told j.disk) (IsAtRest j.octets)
    failed : j.failed ≡ false
    doubted : j.doubted ≡ None

  steady_now : (j : JournalState D) → IsSteady j → Now P (told j.disk)
  steady_now j s = rest_now P (told j.disk) j.octets (was j.octets j.found s.may s.filled) s.rest

  steady_read : (j : JournalState D) → IsReady told before j → IsSteady j
  steady_read j h = record {
    may = h.journal.known;
    service = h.journal.service;
    filled = subst (λ n. IsFilled n j.octets j.found) h.journal.service h.current.within.filled;
    rest = h.current.rest;
    failed = h.journal.failed;
    doubted = h.journal.doubted;
  }

  steady_again : (j k : JournalState D) → IsSteady j → IsReady told j k → IsSteady k
  steady_again j k s h =
      let same = known_now k.octets j.octets k.found j.found j.doubted s.doubted h.journal.known in
      record {
        may = (subst (λ o. MayHave before o k.found) (sym same.0) (subst (λ f. MayHave before j.octets f) (sym same.1) s.may));
        service = h.journal.service ∙ s.service;
        filled = subst (λ n. IsFilled n k.octets k.found) (h.journal.service ∙ s.service) h.current.within.filled;
        rest = h.current.rest;
        failed = h.journal.failed;
        doubted = h.journal.doubted;
      }

  run_again : (j k : JournalState D) → IsSteady j → IsReady told j k → Run P (told j.disk) (told k.disk)
  run_again j k s h = run_reread P j.failed (told j.disk) (told k.disk) (steady_now j s) (steady_now k (steady_again j k s h)) h.disk

  -- a record was appended
  run_appended : AppendsAreSafe → (k : JournalState D) (r : JournalRecord) (place : ℕ) → IsSteady k → IsAppended told k r after place → Run P (told k.disk) (told after.disk)
  run_appended appends k r place s h =
      let m = h.journal in
      run_append P appends k.service m.records r k.octets k.found m.were
      (record { fits = fit_last m.records r m.are.fit; follows = turn_last _ _ m.records r m.are.in_turn; within = m.are.within })
      has (told k.disk) (told after.disk) place m.place_is s.rest (at_end (told k.disk) (told after.disk) place r h.disk)
    where
      has : (c : List ℕ) → StandsForEither k.service h.journal.records r c → P c
      has c (inl old) = (
        restarted before.service k.found,
        (
          record {
            records = h.journal.records;
            stand = subst (λ n. StandsFor n c h.journal.records) s.service old;
            end = ap (restarted before.service) h.journal.were.found_is;
          },
          inl (record { octets = k.octets; found = k.found; known = s.may; end = refl }),
        ),
      )
      has c (inr more) = (
        restarted before.service after.found,
        (
          record {
            records = h.journal.records ++ r ∷ [];
            stand = subst (λ n. StandsFor n c (h.journal.records ++ r ∷ [])) s.service more;
            end = ap (restarted before.service) h.journal.are.found_is;
          },
          inr (record {
            octets = after.octets;
            found = after.found;
            known = known after.octets after.found after.doubted;
            end = ap (λ n. restarted n after.found) (sym (h.journal.service ∙ s.service));
          }),
        ),
      )

  -- a record is in doubt
  module _ (k : JournalState D) (r : JournalRecord) (s : IsSteady k) (h : IsInDoubt told k r after) (can : CanStand k.found r) (each : StaysWithinArea after) where
    abbrev with_it : Found
    with_it = with_record k.found (length k.octets) r

    may_have : MayHave after (k.octets ++ record_octets r) with_it
    may_have =
        subst (λ d. MayFind after.octets after.found d (k.octets ++ record_octets r) with_it) (sym h.journal.doubted)
        (inr (ap (λ o. o ++ record_octets r) (sym h.journal.octets), (λ i. with_record (sym h.journal.found i) (length (sym h.journal.octets i)) r)))

    more : AreRecords before.service (k.octets ++ record_octets r) with_it (s.filled.0 ++ r ∷ [])
    more =
        let w = (each (k.octets ++ record_octets r) with_it may_have).filled.1 in
        more_are before.service (length k.octets) k.octets k.found with_it r s.filled.0 s.filled.1 refl can.fits can.follows
        (omega (arith, ap length w.octets_are, length-append k.octets (record_octets r), w.within)) refl

    has_doubt : (c : List ℕ) → StandsForEither before.service s.filled.0 r c → P c
    has_doubt c (inl old) = (
      restarted before.service k.found,
      (
        record { records = s.filled.0; stand = old; end = ap (restarted before.service) s.filled.1.found_is },
        inl (record { octets = k.octets; found = k.found; known = s.may; end = refl }),
      ),
    )
    has_doubt c (inr new) = (
      restarted before.service with_it,
      (
        record { records = s.filled.0 ++ r ∷ []; stand = new; end = ap (restarted before.service) more.found_is },
        inr (record {
          octets = k.octets ++ record_octets r;
          found = with_it;
          known = may_have;
          end = ap (λ n. restarted n with_it) (sym (h.journal.service ∙ s.service));
        }),
      ),
    )

    run_doubt : AppendsAreSafe → Run P (told k.disk) (told after.disk)
    run_doubt appends =
        run_append P appends before.service s.filled.0 r k.octets k.found s.filled.1
        (record { fits = can.fits; follows = subst (λ f. IsTrue (can_follow f r)) s.filled.1.found_is can.follows; within = more.within })
        has_doubt (told k.disk) (told after.disk) (length k.octets) refl s.rest h.disk

  -- ---- a record is written, or none is

  run_same : (j : JournalState D) → IsSteady j → told after.disk ≡ told j.disk → Run P (told j.disk) (told after.disk)
  run_same j s same = subst (λ o. Run P (told j.disk) o) (sym same) (run_none P (told j.disk) (steady_now j s))

  module _ (appends : AppendsAreSafe) (each : StaysWithinArea after) (j : JournalState D) (s : IsSteady j) where
    run_written : (r : JournalRecord) (written : Written) → IsWrittenWhere (Some r) told j after written → Run P (told j.disk) (told after.disk)
    run_written r (StandsThere place) h =
        let k = h.ready in
        run_then P (told j.disk) (told k.disk) (told after.disk) (run_again j k s h.is_ready)
        (run_appended appends k r place (steady_again j k s h.is_ready) h.appended)
    run_written r (Unwritten fault) (inl h) = run_same j s (ap (λ x. told x.disk) h.0)
    run_written r (Unwritten fault) (inr h) = run_again j after s h.0
    run_written r (InDoubt fault) h =
        let k = h.0.ready in
        let same = known_now k.octets j.octets k.found j.found j.doubted s.doubted h.0.is_ready.journal.known in
        run_then P (told j.disk) (told k.disk) (told after.disk) (run_again j k s h.0.is_ready)
        (run_doubt k r (steady_again j k s h.0.is_ready) h.0.doubt
        (record { fits = h.2.fits; follows = subst (λ f. IsTrue (can_follow f r)) (sym same.1) h.2.follows }) each appends)

    run_where : (o : Option JournalRecord) (written : Written) → IsWrittenWhere o told j after written → Run P (told j.disk) (told after.disk)
    run_where (Some r) written h = run_written r written h
    run_where None written same = run_same j s (ap (λ x. told x.disk) same)

    run_behind : (o : Result End EndFault) (wanted : End → Option JournalRecord) (written : Written) → WritesBehind o wanted told j after written
        → Run P (told j.disk) (told after.disk)
    run_behind (Ok later) wanted written h = run_where (wanted later) written h
    run_behind (Err fault) wanted written same = run_same j s (ap (λ x. told x.disk) same)

-- ---- a call

some_err : (doubted : Option JournalRecord) (fault : EndFault) (e : End) → is_some doubted ≡ true → reread_by doubted (Unread fault) e ≡ Err fault
some_err None fault e h = absurd (both_ways _ refl h)
some_err (Some r) fault e h = refl

none_where : {A : Type 0} (o : Option A) → is_some o ≡ false → o ≡ None
none_where None h = refl
none_where (Some x) h = absurd (both_ways _ h refl)

module _ {D : Type 0} (appends : AppendsAreSafe) (told : D → Option DiskState) (before after : EndState D) (kb : IsKeptWhole told before)
    (ka : IsKeptWhole told after) (wanted : End → Option JournalRecord) (j : Journaled) (h : Journals told before.end before.journal after.journal wanted j) where
  abbrev Q : List ℕ → Type 0
  Q = IsBeforeOrAfter before.journal after.journal

  abbrev Whole : Type 0
  Whole = IsCrashSafe told before after

  here : Now Q (told before.journal.disk)
  here = before_now told before.journal after.journal kb.kept kb.each

  as_it_was : before.journal.failed ≡ false → IsSteady told before.journal after.journal before.journal
  as_it_was ready = record {
    may = known before.journal.octets before.journal.found before.journal.doubted;
    service = refl;
    filled = (kb.each before.journal.octets before.journal.found (known before.journal.octets before.journal.found before.journal.doubted)).filled;
    rest = at_rest before.journal.failed before.journal.octets before.journal.doubted (told before.journal.disk) ready kb.kept;
    failed = ready;
    doubted = none_where before.journal.doubted (sym kb.failed ∙ ready);
  }

  goes_on : IsSteady told before.journal after.journal h.ready → Run Q (told before.journal.disk) (told h.ready.disk) → Whole
  goes_on s first =
      run_then Q (told before.journal.disk) (told h.ready.disk) (told after.journal.disk) first
      (run_behind told before.journal after.journal appends ka.each h.ready s (reread j.reread before.end) wanted j.written h.wrote)

  read_again : IsReady told before.journal h.ready → Whole
  read_again ready =
      let s = steady_read told before.journal after.journal h.ready ready in
      goes_on s
      (run_reread Q before.journal.failed (told before.journal.disk) (told h.ready.disk) here (steady_now told before.journal after.journal h.ready s) ready.disk)

  by_found : (found : Reread) → before.journal.failed ≡ true → j.reread ≡ found → IsRereadWhere true told before.journal h.ready found → Whole
  unfolding reread
  by_found (Stands place) failed is read = read_again read.0
  by_found StandsNot failed is read = read_again read.0
  by_found (Unread fault) failed is read =
      let err = ap (λ x. reread x before.end) is ∙ some_err before.end.doubted fault before.end (ap is_some kb.doubted ∙ sym kb.failed ∙ failed) in
      let same : after.journal ≡ h.ready = subst (λ o. WritesBehind o wanted told h.ready after.journal j.written) err h.wrote in
      let now = after_now told before.journal after.journal ka.kept ka.each (ap (λ x. x.service) same ∙ read.0.journal.service) in
      run_unwritten Q (told before.journal.disk) (told after.journal.disk) here now
      (subst (λ x. Tells (told before.journal.disk) (told x.disk) IsUnwritten) (sym same) read.0.disk)

  by_failed : (failed : Bool) → before.journal.failed ≡ failed → IsRereadWhere failed told before.journal h.ready j.reread → Whole
  by_failed true failed read = by_found j.reread failed refl read
  by_failed false ready read =
      goes_on (subst (IsSteady told before.journal after.journal) (sym read) (as_it_was ready))
      (subst (λ x. Run Q (told before.journal.disk) (told x.disk)) (sym read) (run_none Q (told before.journal.disk) here))

  crash_safe : IsCrashSafe told before after
  crash_safe = by_failed before.journal.failed refl h.read

-- memory was wanted behind the reread
starved_journals : {A D : Type 0} (told : D → Option DiskState) (before after : EndState D) (said : Result A EndFault) (called : Journaled → End → Called A)
    → IsStarved told before after said called → (j : Journaled) × Journals told before.end before.journal after.journal nothing j
starved_journals told before after said called h = (
  record { reread = h.journaled.reread; written = StandsThere 0 },
  record {
    ready = after.journal;
    read = h.read;
    wrote = subst (λ o. WritesBehind o nothing told after.journal after.journal (StandsThere 0)) (sym h.end) refl;
  },
)

module _ {A D : Type 0} (appends : AppendsAreSafe) (told : D → Option DiskState) (before after : EndState D) (answer : Result A EndFault)
    (kb : IsKeptWhole told before) (ka : IsKeptWhole told after) where
  pub called_safe : (wanted : End → Option JournalRecord) (called : Journaled → End → Called A) → IsCalled told before after answer wanted called → IsCrashSafe told before after
  called_safe wanted called h = crash_safe appends told before after kb ka wanted h.journaled h.journal

  pub afresh_safe : (wanted : End → Option JournalRecord) (called : Journaled → End → Called A) → IsCalled told (afresh before) after answer wanted called
      → IsCrashSafe told before after
  afresh_safe wanted called h =
      crash_safe appends told (afresh before) after (record { kept = kb.kept; each = kb.each; failed = kb.failed; doubted = kb.doubted }) ka wanted h.journaled h.journal

  pub put_safe : (called : Journaled → End → Called A) → IsCalledOrStarved told before after answer called → IsCrashSafe told before after
  put_safe called (inl h) = called_safe nothing called h
  put_safe called (inr h) = let j = starved_journals told before after answer called h in crash_safe appends told before after kb ka nothing j.0 j.1

-- ---- a load

life_more : (found : Found) (place : ℕ) (rs : List JournalRecord) (life : ℕ)
    → with_records found place (rs ++ Life life ∷ []) ≡ record { life = life; standing = (with_records found place rs).standing }
life_more found place [] life = refl
life_more found place (r ∷ rs) life = life_more (with_record found place r) (place + length (record_octets r)) rs life

pub load_makes : OctetsStandForOneList → (service area : ℕ) (octets : List ℕ) (found : Found) (a b : Option DiskState) (e : End) → IsWithinArea area service octets found
    → IfSome b (IsAtRest octets) → Tells a b (LoadIsDone service) → e ≡ loaded service found → IfSome a (λ s. Makes service s.reads e)
load_makes one service area octets found None b e within rest done is = tt
load_makes one service area octets found (Some s) None e within rest done is = absurd done
load_makes one service area octets found (Some s) (Some t) e within rest done is = by done.held
  where
    same : within.filled.0 ≡ done.records ++ next_life done.records ∷ []
    same =
        one service t.reads within.filled.0 (done.records ++ next_life done.records ∷ [])
        (stands_from service octets t.reads found within.filled.0 within.filled.1 rest.stands) done.stands

    found_is : found ≡ record { life = (found_in done.records).life + 1; standing = (found_in done.records).standing }
    found_is = within.filled.1.found_is ∙ ap found_in same ∙ life_more _ _ done.records ((found_in done.records).life + 1)

    end_is : e ≡ restarted service (found_in done.records)
    end_is = is ∙ ap (loaded service) found_is

    by : Holds service s.reads done.records → Makes service s.reads e
    by (inl stand) = inl (record { records = done.records; stand = stand; end = end_is })
    by (inr fresh) = inr (fresh.0, end_is ∙ ap (λ rs. restarted service (found_in rs)) fresh.1)

-- one record more
pub restarts_tell_one_more : RestartsTellOneMore
restarts_tell_one_more service found place item cells =
    ap (restarted service) (cells_more found place item cells)
    ∙ loads_tell_one_more service (record found { life = found.life + 1 }) (record { place = place; item = item })
