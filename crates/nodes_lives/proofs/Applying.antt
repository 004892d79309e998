-- A node that is up runs on once a call went through, and what it has written.
use Rattle.std.proofs.Common.{◌≡◌, ◌≢◌, inl, ℕ, suc, ◌+◌, ◌<◌, ◌≤◌, ◌==◌, Bool, true, false, not, cond, nat_le, List, [], ◌∷◌, ◌++◌, length, drop, Contains, Option, Some, None, refl, sym, ap, subst, ◌∙◌, arith, append_assoc, length-append}
use Rattle.std.specs.Prelude.{IsTrue}
use Rattle.std.specs.List.{AllByRecursion, list_any}
use Rattle.std.proofs.lemmas.Bool.Decides.{nat_tests}
use Rattle.std.proofs.lemmas.List.Elements.{Contains-append_right}
use Rattle.ior_refs.specs.declared.key.ObjectKey.{ObjectKey}
use Rattle.ots_model.specs.declared.completion.Stood.{Stood}
use Rattle.ots_model.specs.declared.completion.Stood.TheVariants as answers
use Rattle.ots_outside.specs.Disk.{DiskState}
use Rattle.ots_outside.specs.MemDisk.{MemDiskState}
use Rattle.decision_journal.specs.Calls.{IsCurrent}
use Rattle.decision_journal.specs.Journal.{AreInTurn, AreRecords, Found, StandsFor, can_follow, first_gate, front, is_decision_at, nothing_found, with_record, with_records}
use Rattle.decision_journal.specs.Laws.{CanAppend, appended, behind_gate}
use Rattle.decision_journal.specs.Layout.{Fits, four, payload, record_octets}
use Rattle.decision_journal.specs.Limits.{area_limit}
use Rattle.decision_journal.specs.State.{IsAtRest, need, used}
use Rattle.decision_journal.specs.declared.record.JournalRecord.{JournalRecord}
use Rattle.decision_journal.specs.declared.record.JournalRecord.TheVariants.{Done}
use Rattle.decision_journal.proofs.Scans.{length_front}
use Rattle.recovery_coord.specs.Held.{without}
use Rattle.recovery_coord.specs.Laws.{CompletesOnce}
use Rattle.recovery_coord.specs.declared.held.Held.{Held}
use Rattle.coordinator.specs.declared.event.Event.{Event}
use Rattle.coordinator.specs.Node.{Node}
use Rattle.coordinator.specs.NodeCalls.{applies, call_wants, journaled}
use Rattle.coordinator.specs.Step.{Wanted, Appends, WritesDone, Rereads}
use Rattle.family_laws.specs.HeldRecords.{HeldRecordsStood, WasHeld}
use Rattle.family_laws.specs.OwnDecisions.{AppendsBetween, KeepsDecisions, NodesKeepDecisions, StandsAt}
use Rattle.family_step.specs.Asking.{IsAsked}
use Rattle.nodes_world.specs.Disks.{Stop, strikes}
use Rattle.nodes_world.specs.Journals.{Answers, answered_by, append_strokes, appends, asks, asks_by, records_on}
use Rattle.nodes_world.specs.Laws.{IsWanted, RecordsAreRead}
use Rattle.nodes_parts.specs.Gated.{place_behind}
use Rattle.nodes_parts.specs.Striking.{closed_over}
use Rattle.service_node.specs.Applying.{let_go, released}
use Rattle.service_node.specs.Journaling.{once_asked}
use Rattle.service_node.specs.NodeState.{NodeState}
use Rattle.nodes_lives.specs.Living.{Living}
use Rattle.nodes_lives.specs.Running.{AreStanding, IsRunning, end_from, told}
use Rattle.nodes_lives.specs.Writing.{HasWritten, Writes, asked_by, nothing, one}
use Rattle.nodes_lives.proofs.Asking as asking
use Rattle.nodes_lives.proofs.Closing.{appended_reads, closed_more}
use Rattle.nodes_lives.proofs.Ends.{end_moves, end_stays}
use Rattle.nodes_lives.proofs.Lasting.{still_standing}
use Rattle.nodes_lives.proofs.Naming as naming
use Rattle.nodes_lives.proofs.Standings.{standing_with}

-- records that none of these is at the place of stay
all_left : (place : ℕ) (xs : List Held) → ((h : Held) → Contains xs h → h.place ≢ place) → without place xs ≡ xs
all_left place [] none = refl
all_left place (x ∷ xs) none =
    ap (λ (b : Bool). cond (not b) (x ∷ without place xs) (without place xs)) (other x.place place (none x (0, omega arith, refl)))
    ∙ ap (λ (ys : List Held). x ∷ ys) (all_left place xs (λ h c. none h (Contains-append_right (x ∷ []) xs h c)))
  where
    other : (a b : ℕ) → a ≢ b → (a == b) ≡ false
    other a b is = grind (arith, nat_tests)

some_octets : (item : JournalRecord) → 0 < length (record_octets item)
some_octets item = let l : length (record_octets item) ≡ suc (length (four (length (payload item)) ++ payload item)) = refl in omega (arith, l)

-- the last of records
fits_last : (rs : List JournalRecord) (r : JournalRecord) → AllByRecursion Fits (rs ++ r ∷ []) → Fits r
fits_last [] r fit = fit.0
fits_last (x ∷ rs) r fit = fits_last rs r fit.1

follows_last : (found : Found) (place : ℕ) (rs : List JournalRecord) (r : JournalRecord) → AreInTurn found place (rs ++ r ∷ [])
    → IsTrue (can_follow (with_records found place rs) r)
follows_last found place [] r turn = turn.0
follows_last found place (x ∷ rs) r turn = follows_last (with_record found place x) (place + length (record_octets x)) rs r turn.1

module _ (counts : MemDiskState → ℕ) (read : RecordsAreRead) (keep : NodesKeepDecisions) (law : HeldRecordsStood) (once : CompletesOnce) (k : ObjectKey) (e : Event)
    (s t : NodeState MemDiskState) (loaded : List ℕ) (end : ℕ) (r : IsRunning s loaded end) (current : IsCurrent told s.journal) (stood : Option Stood)
    (asked : IsAsked told counts (call_wants k e s.node) s.journal t.journal stood) (works : t.journal.failed ≡ false)
    (node_is : t.node ≡ once_asked (call_wants k e s.node) s.journal.failed t.journal.found (released (call_wants k e s.node) stood (applies k e stood s.node).node)) where
  abbrev n : Node
  n = s.node

  abbrev w : Option Wanted
  w = call_wants k e n

  abbrev m : Node
  m = (applies k e stood n).node

  abbrev edge : ℕ
  edge = length s.journal.octets

  abbrev Comes : Type 0
  Comes = asking.Comes s.journal t.journal w stood

  due : (place : ℕ) → w ≡ Some (WritesDone place) → naming.IsDue k e n place
  due place wants = naming.is_due k e n once keep law edge r.keeps r.standing place wants

  comes : Comes
  comes = asking.comes s.journal r.failed r.sure counts w t.journal stood asked works
      (λ place wants. subst (λ (f : Found). IsTrue (list_any (is_decision_at place) f.standing)) r.found (due place wants).stands)

  -- ---- the node

  let_go_same : Comes → let_go w stood m.recovered ≡ m.recovered
  let_go_same (asking.unasked same wants said) = ap (λ (x : Option Wanted). let_go x stood m.recovered) wants
  let_go_same (asking.full item same wants said less) = ap (λ (x : Option Wanted). let_go x stood m.recovered) wants
  let_go_same (asking.added item more wants said room) = ap (λ (x : Option Wanted). let_go x stood m.recovered) wants
  let_go_same (asking.closed place more wants said) =
      ap (λ (x : Option Wanted). let_go x stood m.recovered) wants ∙ ap (λ (x : Option Stood). let_go (Some (WritesDone place)) x m.recovered) said
      ∙ all_left place m.recovered (λ h c. (due place wants).gone place h (subst (λ (x : Option Stood). Contains (applies k e x n).node.recovered h) said c))

  once_id : (x : Option Wanted) (f : Found) (y : Node) → once_asked x false f y ≡ y
  once_id None f y = refl
  once_id (Some x) f y = refl

  pub node_now : t.node ≡ m
  node_now =
      node_is ∙ ap (λ (b : Bool). once_asked w b t.journal.found (released w stood m)) r.failed ∙ once_id w t.journal.found (released w stood m)
      ∙ ap (λ (xs : List Held). record m { recovered = xs }) (let_go_same comes)

  has_found : naming.HasFound n (applies k e stood n) w stood
  has_found = naming.has_found k e n once stood

  found_by : Comes → journaled w stood n.found ≡ t.journal.found
  found_by (asking.unasked same wants said) = ap (λ (x : Option Wanted). journaled x stood n.found) wants ∙ r.found ∙ sym same.found
  found_by (asking.full item same wants said less) =
      ap (λ (x : Option Wanted). journaled x stood n.found) wants ∙ ap (λ (x : Option Stood). journaled (Some (Appends item)) x n.found) said ∙ r.found ∙ sym same.found
  found_by (asking.added item more wants said room) =
      ap (λ (x : Option Wanted). journaled x stood n.found) wants ∙ ap (λ (x : Option Stood). journaled (Some (Appends item)) x n.found) said
      ∙ ap (λ (f : Found). with_record f edge item) r.found ∙ sym more.found
  found_by (asking.closed place more wants said) =
      ap (λ (x : Option Wanted). journaled x stood n.found) wants ∙ ap (λ (x : Option Stood). journaled (Some (WritesDone place)) x n.found) said
      ∙ ap (λ (f : Found). with_record f edge (Done place)) r.found ∙ sym more.found

  found_now : m.found ≡ t.journal.found
  found_now = has_found.found ∙ found_by comes

  -- ---- its decisions

  abbrev later : ℕ
  later = length t.journal.octets

  grows : Comes → edge ≤ later
  grows (asking.unasked same wants said) = let l = ap length same.octets in omega (arith, l)
  grows (asking.full item same wants said less) = let l = ap length same.octets in omega (arith, l)
  grows (asking.added item more wants said room) = let l = ap length more.octets in omega (arith, l, length-append s.journal.octets (record_octets item))
  grows (asking.closed place more wants said) = let l = ap length more.octets in omega (arith, l, length-append s.journal.octets (record_octets (Done place)))

  between : Comes → AppendsBetween edge later w stood
  between (asking.unasked same wants said) item place is at = absurd (no (sym wants ∙ is))
    where
      no : None ≡ Some (Appends item) → ⊥
      no e = cc
  between (asking.full other same wants said less) item place is at = absurd (no (sym said ∙ at))
    where
      no : {u v : ℕ} → Some (answers.Full u v) ≡ Some (answers.Stands place) → ⊥
      no e = cc
  between (asking.added other more wants said room) item place is at =
      let here = inner (sym said ∙ at) in
      let l = ap length more.octets in
      let long = some_octets other in
      (omega (arith, here), omega (arith, here, l, long, length-append s.journal.octets (record_octets other)))
    where
      inner : {u v : ℕ} → Some (answers.Stands u) ≡ Some (answers.Stands v) → u ≡ v
      inner e = cc
  between (asking.closed other more wants said) item place is at = absurd (no (sym wants ∙ is))
    where
      no : Some (WritesDone other) ≡ Some (Appends item) → ⊥
      no e = cc

  no_reread : Comes → w ≡ Some Rereads → ⊥
  no_reread (asking.unasked same wants said) is = no (sym wants ∙ is)
    where
      no : None ≡ Some Rereads → ⊥
      no e = cc
  no_reread (asking.full item same wants said less) is = no (sym wants ∙ is)
    where
      no : Some (Appends item) ≡ Some Rereads → ⊥
      no e = cc
  no_reread (asking.added item more wants said room) is = no (sym wants ∙ is)
    where
      no : Some (Appends item) ≡ Some Rereads → ⊥
      no e = cc
  no_reread (asking.closed place more wants said) is = no (sym wants ∙ is)
    where
      no : Some (WritesDone place) ≡ Some Rereads → ⊥
      no e = cc

  keeps_now : KeepsDecisions later m
  keeps_now = keep.called edge later k e stood n (grows comes) (between comes) (λ f place family is at. absurd (no_reread comes is)) r.keeps

  -- ---- what it tells again

  was_held : (h : Held) → Contains m.recovered h → WasHeld n.recovered h
  was_held h c = law.called k e stood n h c

  still : t.journal.found ≡ s.journal.found → AreStanding t.journal.found m.recovered
  still same =
      subst (λ (f : Found). AreStanding f m.recovered) (r.found ∙ sym same)
      (still_standing n.found n.recovered m.recovered r.standing (λ h c. inl (was_held h c)))

  stands_with : (item : JournalRecord) → t.journal.found ≡ with_record s.journal.found edge item → AreStanding t.journal.found m.recovered
  stands_with item is =
      standing_with n.found t.journal.found edge item n.recovered m.recovered (is ∙ ap (λ (f : Found). with_record f edge item) (sym r.found))
      r.keeps.sound.order r.keeps.before r.standing was_held
      (λ h c. subst (λ (f : Found). StandsAt f.standing h.place) found_now (keeps_now.held h c))

  standing_by : Comes → AreStanding t.journal.found m.recovered
  standing_by (asking.unasked same wants said) = still same.found
  standing_by (asking.full item same wants said less) = still same.found
  standing_by (asking.added item more wants said room) = stands_with item more.found
  standing_by (asking.closed place more wants said) = stands_with (Done place) more.found

  -- ---- its journal

  record HasJournal : Type 0 where
    area : t.journal.area ≡ s.journal.area
    service : t.journal.service ≡ s.journal.service
    sure : t.journal.doubted ≡ None
    reads : t.journal.disk.disk.reads ≡ closed_over t.journal.octets loaded

  same_journal : asking.IsSame s.journal t.journal → HasJournal
  same_journal same = record {
    area = same.area;
    service = same.service;
    sure = same.sure;
    reads = ap (λ (d : DiskState). d.reads) same.disk ∙ r.reads ∙ ap (λ (xs : List ℕ). closed_over xs loaded) (sym same.octets);
  }

  more_journal : (item : JournalRecord) → asking.HasOneMore s.journal t.journal item → HasJournal
  more_journal item more = record {
    area = more.area;
    service = more.service;
    sure = more.sure;
    reads = ap (λ (d : DiskState). d.reads) more.disk ∙ closed_more s.journal.octets loaded item s.journal.disk.disk r.reads
        ∙ ap (λ (xs : List ℕ). closed_over xs loaded) (sym more.octets);
  }

  journal_by : Comes → HasJournal
  journal_by (asking.unasked same wants said) = same_journal same
  journal_by (asking.full item same wants said less) = same_journal same
  journal_by (asking.added item more wants said room) = more_journal item more
  journal_by (asking.closed place more wants said) = more_journal (Done place) more

  -- ---- its end

  abbrev now : ℕ
  now = end_from t.journal.disk.disk.reads end

  same_end : asking.IsSame s.journal t.journal → now ≡ length t.journal.octets
  same_end same =
      let edge_is : end ≡ length t.journal.octets = r.ends ∙ sym (ap length same.octets) in
      ap (end_from t.journal.disk.disk.reads) edge_is ∙ ap (λ (xs : List ℕ). end_from xs (length t.journal.octets)) (same_journal same).reads
      ∙ end_stays t.journal.octets (drop (length t.journal.octets + 1) loaded)

  moved_end : (item : JournalRecord) → asking.HasOneMore s.journal t.journal item → now ≡ length t.journal.octets
  moved_end item more =
      let is : t.journal.disk.disk.reads ≡ s.journal.octets ++ (record_octets item ++ 0 ∷ drop (length t.journal.octets + 1) loaded) =
      (more_journal item more).reads ∙ ap (λ (xs : List ℕ). xs ++ 0 ∷ drop (length t.journal.octets + 1) loaded) more.octets
      ∙ append_assoc s.journal.octets (record_octets item) (0 ∷ drop (length t.journal.octets + 1) loaded) in
      let less = more.are.within in
      let long = ap length more.are.octets_are in
      let all = ap length more.octets in
      ap (end_from t.journal.disk.disk.reads) r.ends ∙ ap (λ (xs : List ℕ). end_from xs edge) is
      ∙ end_moves s.journal.octets item (drop (length t.journal.octets + 1) loaded)
      (omega (arith, less, long, all, length-append s.journal.octets (record_octets item)))
      ∙ sym (all ∙ length-append s.journal.octets (record_octets item))

  end_by : Comes → now ≡ length t.journal.octets
  end_by (asking.unasked same wants said) = same_end same
  end_by (asking.full item same wants said less) = same_end same
  end_by (asking.added item more wants said room) = moved_end item more
  end_by (asking.closed place more wants said) = moved_end (Done place) more

  -- where nothing was written, it stays
  stays : asking.IsSame s.journal t.journal → now ≡ end
  stays same = same_end same ∙ ap length same.octets ∙ sym r.ends

  was_at : (rs : List JournalRecord) → AreRecords s.journal.service s.journal.octets s.journal.found rs → end ≡ place_behind rs
  was_at rs are = r.ends ∙ ap length are.octets_are ∙ length_front s.journal.service rs

  now_at : (rs : List JournalRecord) → AreRecords s.journal.service t.journal.octets t.journal.found rs → now ≡ place_behind rs
  now_at rs are = end_by comes ∙ ap length are.octets_are ∙ length_front s.journal.service rs

  pub runs_on : IsRunning t loaded now
  runs_on = record {
    service = ap (λ (x : Node). x.service) node_now ∙ has_found.service ∙ r.service ∙ sym (journal_by comes).service;
    found = ap (λ (x : Node). x.found) node_now ∙ found_now;
    area = (journal_by comes).area ∙ r.area;
    failed = works;
    sure = (journal_by comes).sure;
    reads = (journal_by comes).reads;
    ends = end_by comes;
    keeps = subst (KeepsDecisions later) (sym node_now) keeps_now;
    standing = subst (λ (x : Node). AreStanding x.found x.recovered) (sym node_now)
        (subst (λ (f : Found). AreStanding f m.recovered) (sym found_now) (standing_by comes));
  }

  -- ---- what it has written

  abbrev sv : ℕ
  sv = s.journal.service

  abbrev disk : DiskState
  disk = s.journal.disk.disk

  abbrev before : Living
  before = record { node = n; disk = disk }

  rest : IsAtRest s.journal.octets disk
  rest = current.rest

  module _ (rs : List JournalRecord) (are : AreRecords sv s.journal.octets s.journal.found rs) where
    place_is : length s.journal.octets ≡ place_behind rs
    place_is = ap length are.octets_are ∙ length_front sv rs

    stands : StandsFor sv disk.reads rs
    stands = record {
      gate = rest.stands.gate;
      behind = rest.stands.behind;
      octets_are = rest.stands.octets_are ∙ ap (λ (xs : List ℕ). xs ++ rest.stands.gate ∷ rest.stands.behind) are.octets_are;
      closed = rest.stands.closed;
      fit = are.fit;
      in_turn = are.in_turn;
      within = are.within;
    }

    stands_own : StandsFor n.service disk.reads rs
    stands_own = subst (λ (x : ℕ). StandsFor x disk.reads rs) (sym r.service) stands

    asks_is : (x : Option Wanted) → w ≡ x → (stop : Option Stop) → asked_by k e before stop ≡ asks_by x (Some rs) sv s.journal.found disk stop
    unfolding asks
    asks_is x wants stop =
        ap (λ (y : Option Wanted). asks_by y (records_on n.service disk) n.service n.found disk stop) wants
        ∙ ap (λ (y : ℕ). asks_by x (records_on y disk) y n.found disk stop) r.service
        ∙ ap (λ (y : Option (List JournalRecord)). asks_by x y sv n.found disk stop) (read sv disk.reads rs stands)
        ∙ ap (λ (f : Found). asks_by x (Some rs) sv f disk stop) r.found

    -- a decision is appended, or has no room
    appends_is : (item : JournalRecord) (stop : Option Stop) → asks_by (Some (Appends item)) (Some rs) sv s.journal.found disk stop
        ≡ appends s.journal.area item s.journal.found s.journal.octets disk stop
    appends_is item stop =
        ap (λ (xs : List ℕ). appends area_limit item s.journal.found xs disk stop) (sym are.octets_are)
        ∙ ap (λ (a : ℕ). appends a item s.journal.found s.journal.octets disk stop) (sym r.area)

    answered_at : (answer : Stood) (item : JournalRecord) (stop : Option Stop) → answered_by answer (strikes (append_strokes (length s.journal.octets) item) disk stop)
        ≡ answered_by answer (strikes (append_strokes (place_behind rs) item) disk stop)
    answered_at answer item stop = ap (λ (p : ℕ). answered_by answer (strikes (append_strokes p item) disk stop)) place_is

    written : (item : JournalRecord) → asking.HasOneMore s.journal t.journal item → HasWritten loaded disk t.journal.disk.disk rs item
    written item more = record {
      front = s.journal.octets;
      behind = behind;
      place = place_is;
      settled = rest.settled;
      were = r.reads;
      are = reads;
      disk = more.disk ∙ ap (λ (p : ℕ). appended p (behind_gate item) disk) place_is;
    }
      where
        behind : List ℕ
        behind = drop (length (behind_gate item)) (drop (length s.journal.octets + 1) loaded)

        reads : t.journal.disk.disk.reads ≡ s.journal.octets ++ (record_octets item ++ 0 ∷ behind)
        reads = ap (λ (d : DiskState). d.reads) more.disk ∙ appended_reads s.journal.octets 0 (drop (length s.journal.octets + 1) loaded) item disk r.reads

  can_append : (rs : List JournalRecord) (item : JournalRecord) → AreRecords sv t.journal.octets t.journal.found (rs ++ item ∷ []) → CanAppend n.service rs item
  can_append rs item are = record {
    fits = fits_last rs item are.fit;
    follows = follows_last nothing_found first_gate rs item are.in_turn;
    within = subst (λ (x : ℕ). length (front x (rs ++ item ∷ [])) < area_limit) (sym r.service) are.within;
  }

  at_least : (a b : ℕ) → a ≤ b → nat_le a b ≡ true
  at_least a b is = grind (arith, nat_tests)

  above : (a b : ℕ) → b < a → nat_le a b ≡ false
  above a b is = grind (arith, nat_tests)

  writes_by : Comes → Writes k e loaded before t.journal.disk.disk stood end now
  writes_by (asking.unasked same wants said) =
      let rs = current.within.filled.0 in
      let are = current.within.filled.1 in
      nothing same.disk (stays same)
      (λ stop. asks_is rs are None wants stop ∙ ap (λ (x : Option Stood). Answers x disk stop) (sym said))
  writes_by (asking.full item same wants said less) =
      let rs = current.within.filled.0 in
      let are = current.within.filled.1 in
      nothing same.disk (stays same)
      (λ stop. asks_is rs are (Some (Appends item)) wants stop ∙ appends_is rs are item stop
      ∙ ap (λ (b : Bool). cond b (answered_by (answers.Stands (length s.journal.octets)) (strikes (append_strokes (length s.journal.octets) item) disk stop))
      (Answers (Some (answers.Full (used s.journal.octets s.journal.found) (need s.journal.area s.journal.found item))) disk stop)) (above _ _ less)
      ∙ ap (λ (x : Option Stood). Answers x disk stop) (sym said))
  writes_by (asking.added item more wants said room) =
      let rs = more.records in
      let are = more.were in
      one rs item (length s.journal.octets) (subst (λ (x : Option Wanted). IsWanted x item) (sym wants) refl) (was_at rs are) (now_at (rs ++ item ∷ []) more.are) (stands_own rs are) (can_append rs item more.are) said (written rs are item more)
      (λ stop. asks_is rs are (Some (Appends item)) wants stop ∙ appends_is rs are item stop
      ∙ ap (λ (b : Bool). cond b (answered_by (answers.Stands (length s.journal.octets)) (strikes (append_strokes (length s.journal.octets) item) disk stop))
      (Answers (Some (answers.Full (used s.journal.octets s.journal.found) (need s.journal.area s.journal.found item))) disk stop)) (at_least _ _ room)
      ∙ answered_at rs are (answers.Stands (length s.journal.octets)) item stop)
  writes_by (asking.closed place more wants said) =
      let rs = more.records in
      let are = more.were in
      one rs (Done place) place (subst (λ (x : Option Wanted). IsWanted x (Done place)) (sym wants) refl) (was_at rs are) (now_at (rs ++ Done place ∷ []) more.are) (stands_own rs are) (can_append rs (Done place) more.are) said (written rs are (Done place) more)
      (λ stop. asks_is rs are (Some (WritesDone place)) wants stop
      ∙ ap (λ (xs : List ℕ). answered_by (answers.Stands place) (strikes (append_strokes (length xs) (Done place)) disk stop)) (sym are.octets_are)
      ∙ answered_at rs are (answers.Stands place) (Done place) stop)

  pub writes : Writes k e loaded before t.journal.disk.disk stood end now
  writes = writes_by comes
