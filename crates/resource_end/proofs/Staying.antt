-- A call of an end leaves on record what a load makes of it.
use Rattle.std.proofs.Common.{◌≡◌, ◌∙◌, inl, inr, ℕ, ◌<◌, ◌≤◌, Bool, true, false, cond, List, [], ◌∷◌, length, Option, Some, None, refl, sym, ap, subst, arith, length-append}
use Rattle.std.specs.Prelude.{find, IfSome, is_some, Result, Ok, Err, IfOk}
use Rattle.ior_refs.specs.declared.key.ObjectKey.{ObjectKey}
use Rattle.ots_model.specs.declared.line.Decision.{Decision}
use Rattle.ots_model.specs.declared.tree.Heard.{Heard}
use Rattle.ots_outside.specs.Disk.{DiskState}
use Rattle.decision_journal.specs.Calls.{HasAppended, IsReady}
use Rattle.decision_journal.specs.Journal.{Found, IsFilled, with_record}
use Rattle.decision_journal.specs.Layout.{record_octets}
use Rattle.decision_journal.specs.State.{JournalState, MayFind, cells_in}
use Rattle.decision_journal.specs.declared.journal.Standing.{Standing}
use Rattle.decision_journal.specs.declared.record.CellsEnd.{CellsEnd}
use Rattle.decision_journal.specs.declared.record.JournalRecord.{JournalRecord}
use Rattle.decision_journal.specs.declared.record.JournalRecord.TheVariants.{Life, Decision as Decided, Done, Prepared, CellsPrepared, CellsOutcome, CellsOnePhase}
use Rattle.resource_end.specs.declared.fault.EndFault.{EndFault}
use Rattle.resource_end.specs.declared.fault.EndFault.TheVariants as faults
use Rattle.resource_end.specs.declared.state.State.{State}
use Rattle.resource_end.specs.declared.state.Word.{Word}
use Rattle.resource_end.specs.Calls.{Called, Journaled, Written, StandsAt, Unwritten, InDoubt, behind, bind, changes_with, changing, choice, choose_heuristic, chooses, chosen_of, does, fresh, learn, learns_by, learns_in, learnt_of, obeys, on, put, puts, refuse, refused, refuses, told, unchanged, unmake, wanted, wanted_by_answer, wanted_by_choice, wanted_for, wanted_of}
use Rattle.resource_end.specs.End.{End, Resource, changes, named, record_for, with_place}
use Rattle.resource_end.specs.Inside.{numbered}
use Rattle.resource_end.specs.Journaling.{EndState, IsAlone, IsCalled, IsCalledOrStarved, IsMadeOrUnmade, IsRereadWhere, IsWrittenWhere, WritesBehind, afresh, nothing}
use Rattle.resource_end.specs.OnRecord.{AreOfEarlierLives, HasDrawn, IsOfDrawn, IsOnRecord}
use Rattle.resource_end.specs.Recall.{Reread, Stands, StandsNot, Unread, ends_as, is_recorded_at, loaded, new_end, recalls, recalls_all, reread, reread_by, sure, tells}
use Rattle.resource_end.specs.States.{is_prepared, learnt}
use Rattle.resource_end.specs.Table.{row}
use Rattle.resource_end.proofs.Moving.{by_record}
use Rattle.resource_end.proofs.Recalled.{records_tell_changes}
use Rattle.resource_end.proofs.Recorded.{is_of}
use Rattle.resource_end.proofs.Reloading.{drawn_cells, one_long, stays_at, stays_loaded, stays_more}
use Rattle.resource_end.proofs.Writing.{cells_more, doubts_nothing, doubts_one}
use Rattle.resource_end.proofs.Resting.{Rec, bound_rec, calm_rec, choice_goes, goes, has_drawn, learnt_goes, made_apart, made_rec, may_have, named_there, of_record, on_record_of, puts_rec, quiet, rec_changed, refused_rec, row_goes, stays_doubting, sure_rec, unmade_rec}

-- ---- the journal is read again

ended_doubts : (how : CellsEnd) (o : Option Resource) (e : End) → (ends_as how o e).doubted ≡ e.doubted
unfolding changes
ended_doubts how None e = refl
ended_doubts how (Some r) e = refl

told_doubts : (place : ℕ) (item : JournalRecord) (e : End) → (tells place item e).doubted ≡ e.doubted
unfolding changes
told_doubts place (Life life) e = refl
told_doubts place (Decided life slot generation key asked regs) e = refl
told_doubts place (Done named) e = refl
told_doubts place (Prepared life slot generation recovery regs) e = refl
told_doubts place (CellsPrepared life number recovery puts) e = refl
told_doubts place (CellsOutcome at how) e = ended_doubts how (find (is_recorded_at at) e.resources) e
told_doubts place (CellsOnePhase life number puts) e = refl

sure_still : (place : ℕ) (item : JournalRecord) (e : End) → e.doubted ≡ None → (recalls (record { place = place; item = item }) e).doubted ≡ None
unfolding recalls
sure_still place item e none = told_doubts place item e ∙ none

found_longer : (octets more : List ℕ) (found after : Found) (item : JournalRecord) → MayFind octets found (Some item) more after → length octets ≤ length more
found_longer octets more found after item (inl h) = omega (arith, ap length h.0)
found_longer octets more found after item (inr h) = omega (arith, ap length h.0, length-append octets (record_octets item))

found_behind : (octets more : List ℕ) (found after : Found) (item : JournalRecord) → cells_in item ≡ 1 → MayFind octets found (Some item) more after
    → after ≡ with_record found (length octets) item → length octets < length more
found_behind octets more found after item cells (inl h) is =
    absurd (omega (
      arith,
      ap (λ (f : Found). length f.standing) (sym h.1 ∙ is ∙ cells_more found (length octets) item cells),
      length-append found.standing (record { place = length octets; item = item } ∷ []),
    ))
found_behind octets more found after item cells (inr h) is =
    omega (arith, ap length h.0, length-append octets (record_octets item), one_long item)

module _ {D : Type 0} (says : D → Option DiskState) (e : End) (j ready : JournalState D) (rec : Rec e j) where
  -- what is known behind a reread, or where it was refused
  abbrev Then : Result End EndFault → Type 0
  Then (Ok later) = Rec later ready × (ready.doubted ≡ None)
  Then (Err fault) = Rec e ready

  module _ (item : JournalRecord) (failed : j.failed ≡ true) (doubted : j.doubted ≡ Some item) where
    of_drawn : IsOfDrawn e.life e.drawn item
    of_drawn = subst (λ d. IfSome d (IsOfDrawn e.life e.drawn)) doubted rec.of_drawn

    by_found : (found : Reread) → IsRereadWhere true says j ready found → Then (reread_by (Some item) found e)
    by_found (Stands place) h =
        let known = subst (λ d. MayFind j.octets j.found d ready.octets ready.found) doubted h.0.journal.known in
        let is : ready.found ≡ with_record j.found place item = subst (λ d. IfSome d (λ r. ready.found ≡ with_record j.found place r)) doubted h.1.1 in
        let at : ready.found ≡ with_record j.found (length j.octets) item = is ∙ ap (λ p. with_record j.found p item) h.1.0 in
        let lt = found_behind j.octets ready.octets j.found ready.found item (drawn_cells e.life e.drawn item of_drawn) known at in
        let more = stays_more j.service (sure e) j.found (length j.octets) (length ready.octets) item (stays_doubting j.service e j.found (length j.octets) None rec.stays) of_drawn lt in (
          subst (λ p. Rec (recalls (record { place = p; item = item }) (sure e)) ready) (sym h.1.0)
              (sure_rec (recalls (record { place = length j.octets; item = item }) (sure e)) ready
              (stays_at j.service ready.service (recalls (record { place = length j.octets; item = item }) (sure e)) (with_record j.found (length j.octets) item) ready.found
              (length ready.octets) (length ready.octets) (sym h.0.journal.service) (sym at) (omega arith) more)
              (sure_still (length j.octets) item (sure e) refl) h.0.journal.doubted h.0.journal.failed),
          h.0.journal.doubted,
        )
    by_found StandsNot h =
        let known = subst (λ d. MayFind j.octets j.found d ready.octets ready.found) doubted h.0.journal.known in (
          sure_rec (sure e) ready
              (stays_at j.service ready.service (sure e) j.found ready.found (length j.octets) (length ready.octets) (sym h.0.journal.service) (sym h.1)
              (found_longer j.octets ready.octets j.found ready.found item known)
              (stays_doubting j.service e j.found (length j.octets) None rec.stays)) refl h.0.journal.doubted h.0.journal.failed,
          h.0.journal.doubted,
        )
    by_found (Unread fault) h =
        let u = h.0.journal in
        record {
          stays = stays_at j.service ready.service e j.found ready.found (length j.octets) (length ready.octets) (sym u.service) (sym u.found)
              (omega (arith, ap length u.octets)) rec.stays;
          doubts = rec.doubts ∙ sym u.doubted;
          failed = u.failed ∙ sym (ap is_some (u.doubted ∙ doubted));
          of_drawn = subst (λ d. IfSome d (IsOfDrawn e.life e.drawn)) (sym u.doubted) rec.of_drawn;
        }

  reread_rec : (found : Reread) → IsRereadWhere j.failed says j ready found → Then (reread found e)
  unfolding reread
  reread_rec found = by j.failed refl
    where
      by : (f : Bool) → j.failed ≡ f → IsRereadWhere f says j ready found → Then (reread_by e.doubted found e)
      by true failed h =
          let it = doubts_one j.failed j.doubted failed rec.failed in
          subst (λ d. Then (reread_by d found e)) (sym (rec.doubts ∙ it.1)) (by_found it.0 failed it.1 found h)
      by false failed h =
          let none = doubts_nothing j.failed j.doubted failed rec.failed in
          subst (λ d. Then (reread_by d found e)) (sym (rec.doubts ∙ none))
          (subst (λ x. Rec e x × (x.doubted ≡ None)) (sym h) (rec, none))

-- ---- a record is written

module _ {D : Type 0} (says : D → Option DiskState) (later : End) (ready after : JournalState D) (rec : Rec later ready) (none : ready.doubted ≡ None) where
  -- a journal that is ready again has what it had
  same_octets : (k : JournalState D) → IsReady says ready k → (k.octets ≡ ready.octets) × (k.found ≡ ready.found)
  same_octets k h = subst (λ d. MayFind ready.octets ready.found d k.octets k.found) none h.journal.known

  sure_later : later.doubted ≡ None
  sure_later = rec.doubts ∙ none

  again_rec : (k : JournalState D) → IsReady says ready k → Rec later k
  again_rec k h =
      let same = same_octets k h in
      sure_rec later k
      (stays_at ready.service k.service later ready.found k.found (length ready.octets) (length k.octets) (sym h.journal.service) (sym same.1)
      (omega (arith, ap length same.0)) rec.stays)
      sure_later h.journal.doubted h.journal.failed

  same_rec : (e : End) → Rec e ready → after ≡ ready → Rec e after
  same_rec e h same = subst (Rec e) (sym same) h

  module _ (s : State) (r : Resource) (there : numbered (r.life, r.number) later.resources ≡ Some r) where
    drawn_item : (item : JournalRecord) → record_for s r ≡ Some item → IsOfDrawn later.life later.drawn item
    drawn_item item is =
        by_record s r item (IsOfDrawn later.life later.drawn) is (λ place how p. tt) (λ p w. mine) (λ p w. mine)
      where
        mine : HasDrawn later.life later.drawn r
        mine = has_drawn ready.service later ready.found (length ready.octets) rec.stays r there

    module _ (item : JournalRecord) (is : record_for s r ≡ Some item) where
      stood_rec : (place : ℕ) → HasAppended says ready item after place → Rec (changes s (with_place s place r) later) after
      stood_rec place h =
          let same = same_octets h.ready h.is_ready in
          let m = h.appended.journal in
          let at : place ≡ length ready.octets = m.place_is ∙ ap length same.0 in
          let found : with_record ready.found (length ready.octets) item ≡ after.found =
          (λ i. with_record (sym same.1 i) (length (sym same.0 i)) item) ∙ sym m.found_is in
          let longer : length ready.octets < length after.octets =
          omega (arith, ap length m.octets_are, ap length same.0, length-append h.ready.octets (record_octets item), one_long item) in
          let told_so : recalls (record { place = length ready.octets; item = item }) later ≡ changes s (with_place s (length ready.octets) r) later =
          records_tell_changes s r later (length ready.octets) item (is_of ready.found.standing later r rec.stays.in_place.sorted rec.stays.in_place.records there) is in
          let more = stays_more ready.service later ready.found (length ready.octets) (length after.octets) item rec.stays (drawn_item item is) longer in
          subst (λ p. Rec (changes s (with_place s p r) later) after) (sym at)
          (subst (λ x. Rec x after) told_so
          (sure_rec (recalls (record { place = length ready.octets; item = item }) later) after
          (stays_at ready.service after.service (recalls (record { place = length ready.octets; item = item }) later)
          (with_record ready.found (length ready.octets) item) after.found (length after.octets) (length after.octets)
          (sym (m.service ∙ h.is_ready.journal.service)) found (omega arith) more)
          (sure_still (length ready.octets) item later sure_later) m.doubted m.failed))

      doubt_rec : (fault : EndFault) → IsWrittenWhere (Some item) says ready after (InDoubt fault) → Rec (record later { doubted = Some item }) after
      doubt_rec fault h =
          let k = h.0.ready in
          let u = h.0.doubt.journal in
          let same = same_octets k h.0.is_ready in
          record {
            stays = stays_at ready.service after.service (record later { doubted = Some item }) ready.found after.found (length ready.octets) (length after.octets)
                (sym (u.service ∙ h.0.is_ready.journal.service)) (sym (u.found ∙ same.1)) (omega (arith, ap length u.octets, ap length same.0))
                (stays_doubting ready.service later ready.found (length ready.octets) (Some item) rec.stays);
            doubts = sym u.doubted;
            failed = u.failed ∙ sym (ap is_some u.doubted);
            of_drawn = subst (λ d. IfSome d (IsOfDrawn later.life later.drawn)) (sym u.doubted) (drawn_item item is);
          }

      unwritten_rec : (fault : EndFault) → IsWrittenWhere (Some item) says ready after (Unwritten fault) → Rec later after
      unwritten_rec fault (inl h) = subst (Rec later) (sym h.0) (roomy after.room)
        where
          roomy : (room : ℕ) → Rec later (record ready { room = room })
          roomy room = record { stays = rec.stays; doubts = rec.doubts; failed = rec.failed; of_drawn = rec.of_drawn }
      unwritten_rec fault (inr h) = again_rec after h.0

    quiet_rec : record_for s r ≡ None → goes r.state s ≡ true → Rec (changes s r later) ready
    quiet_rec is g =
        calm_rec later ready rec s r there (quiet s r is r.state refl (may_have ready.service later ready.found (length ready.octets) rec.stays r there) g)

    moved_rec : {A : Type 0} (w : Written) (said : Result A EndFault) → goes r.state s ≡ true → IsWrittenWhere (record_for s r) says ready after w
        → Rec (changing w said s r later).end after
    unfolding changing
    moved_rec {A = A} w said g = by (record_for s r) refl w
      where
        by : (o : Option JournalRecord) → record_for s r ≡ o → (w : Written) → IsWrittenWhere o says ready after w → Rec (changes_with {A = A} o w said s r later).end after
        by None is w h = same_rec (changes s r later) (quiet_rec is g) h
        by (Some item) is (StandsAt place) h = stood_rec item is place h
        by (Some item) is (Unwritten fault) h = unwritten_rec item is fault h
        by (Some item) is (InDoubt fault) h = doubt_rec item is fault h

  -- ---- behind the reread

  does_rec : (r : Resource) → numbered (r.life, r.number) later.resources ≡ Some r → (o : Option State) (said : Result Heard EndFault) (w : Written)
      → IfSome o (λ n. goes r.state n ≡ true) → IsWrittenWhere (wanted_for o r) says ready after w → Rec (does o said w later r).end after
  does_rec r there (Some n) said w g h =
      rec_changed (changing w said n r later).end after _ (moved_rec n r there w said g h)
  does_rec r there None said w g h = same_rec later rec h

  obeys_rec : (w : Word) (key : ObjectKey) (written : Written) → IsWrittenWhere (wanted w key later) says ready after written
      → Rec (on (named key later) later (obeys w written later)).end after
  unfolding wanted
  obeys_rec w key written = by (named key later) refl
    where
      by : (o : Option Resource) → named key later ≡ o → IsWrittenWhere (wanted_of w o) says ready after written → Rec (on o later (obeys w written later)).end after
      by (Some r) is h = does_rec r (named_there later ready rec key r is) (row w r.state).next (row w r.state).said written (row_goes w r.state) h
      by None is h = same_rec later rec h

  learns_rec : (r : Resource) → numbered (r.life, r.number) later.resources ≡ Some r → (o : Option State) (w : Written)
      → IfSome o (λ n. goes r.state n ≡ true) → IsWrittenWhere (wanted_for o r) says ready after w → Rec (learns_by o w later r).end after
  learns_rec r there (Some n) w g h =
      rec_changed (changing {A = Unit {0}} w (Ok tt) n r later).end after _ (moved_rec n r there {A = Unit {0}} w (Ok tt) g h)
  learns_rec r there None w g h = same_rec later rec h

  hears_rec : (h : Heard) (key : ObjectKey) (written : Written) → IsWrittenWhere (wanted_by_answer h key later) says ready after written
      → Rec (learns_in (named key later) h written later).end after
  unfolding wanted_by_answer
  hears_rec h key written = by (named key later) refl
    where
      by : (o : Option Resource) → named key later ≡ o → IsWrittenWhere (learnt_of h o) says ready after written → Rec (learns_in o h written later).end after
      by (Some r) is k = learns_rec r (named_there later ready rec key r is) (learnt r.state h) written (learnt_goes r.state h) k
      by None is k = same_rec later rec k

  chooses_rec : (d : Decision) (key : ObjectKey) (written : Written) → IsWrittenWhere (wanted_by_choice d key later) says ready after written
      → Rec (on (named key later) later (chooses d written later)).end after
  unfolding wanted_by_choice
  chooses_rec d key written = by (named key later) refl
    where
      at : (r : Resource) → numbered (r.life, r.number) later.resources ≡ Some r → (b : Bool) → is_prepared r.state ≡ b
          → IsWrittenWhere (cond b (record_for (choice d) r) None) says ready after written
          → Rec (cond b (changing {A = Unit {0}} written (Ok tt) (choice d) r later) (refused faults.Inactive later)).end after
      at r there true is h = moved_rec (choice d) r there {A = Unit {0}} written (Ok tt) (choice_goes r.state d is) h
      at r there false is h = same_rec later rec h

      by : (o : Option Resource) → named key later ≡ o → IsWrittenWhere (chosen_of d o) says ready after written → Rec (on o later (chooses d written later)).end after
      by (Some r) is h = at r (named_there later ready rec key r is) (is_prepared r.state) refl h
      by None is h = same_rec later rec h

-- ---- calls

module _ {A D : Type 0} (says : D → Option DiskState) (e : End) (j ready after : JournalState D) (rec : Rec e j) where
  behind_rec : (found : Reread) (written : Written) (wanted : End → Option JournalRecord) (act : End → Called A) → IsRereadWhere j.failed says j ready found
      → WritesBehind (reread found e) wanted says ready after written
      → ((later : End) → Rec later ready → ready.doubted ≡ None → IsWrittenWhere (wanted later) says ready after written → Rec (act later).end after)
      → Rec (behind (reread found e) e act).end after
  behind_rec found written wanted act read wrote acts = by (reread found e) (reread_rec says e j ready rec found read) wrote
    where
      by : (o : Result End EndFault) → Then says e j ready rec o → WritesBehind o wanted says ready after written → Rec (behind o e act).end after
      by (Ok later) h wrote = acts later h.0 h.1 wrote
      by (Err fault) h same = subst (Rec e) (sym same) h

module _ {D : Type 0} (says : D → Option DiskState) (before after : EndState D) where
  called_rec : {A : Type 0} (s : EndState D) (answer : Result A EndFault) (wanted : End → Option JournalRecord) (called : Journaled → End → Called A)
      → s.journal ≡ before.journal → Rec s.end before.journal → IsCalled says s after answer wanted called
      → ((j : Journaled) (ready : JournalState D) → IsRereadWhere before.journal.failed says before.journal ready j.reread
      → WritesBehind (reread j.reread s.end) wanted says ready after.journal j.written → Rec (called j s.end).end after.journal) → IsOnRecord after
  called_rec s answer wanted called same h is acts =
      on_record_of after
      (subst (λ e. Rec e after.journal) (sym is.comes.end)
      (acts is.journaled is.journal.ready (subst (λ x. IsRereadWhere x.failed says x is.journal.ready is.journaled.reread) same is.journal.read) is.journal.wrote))

  module _ (rec : IsOnRecord before) where
    abbrev mine : Rec before.end before.journal
    mine = of_record before rec

    abbrev anew : Rec (unchanged before.end) before.journal
    anew = rec_changed before.end before.journal None mine

    pub told_stays : (w : Word) (key : ObjectKey) (answer : Result Heard EndFault) → IsCalled says (afresh before) after answer (wanted w key) (told w key) → IsOnRecord after
    unfolding told
    told_stays w key answer is =
        called_rec (afresh before) answer (wanted w key) (told w key) refl anew is (λ j ready read wrote.
        behind_rec says (unchanged before.end) before.journal ready after.journal anew j.reread j.written (wanted w key)
        (λ later. on (named key later) later (obeys w j.written later)) read wrote
        (λ later h none k. obeys_rec says later ready after.journal h none w key j.written k))

    pub learnt_stays : (key : ObjectKey) (h : Heard) (answer : Result (Unit {0}) EndFault) → IsCalled says (afresh before) after answer (wanted_by_answer h key) (learn key h) → IsOnRecord after
    unfolding learn
    learnt_stays key h answer is =
        called_rec (afresh before) answer (wanted_by_answer h key) (learn key h) refl anew is (λ j ready read wrote.
        behind_rec says (unchanged before.end) before.journal ready after.journal anew j.reread j.written (wanted_by_answer h key)
        (λ later. learns_in (named key later) h j.written later) read wrote
        (λ later r none k. hears_rec says later ready after.journal r none h key j.written k))

    pub chosen_stays : (key : ObjectKey) (d : Decision) (answer : Result (Unit {0}) EndFault) → IsCalled says before after answer (wanted_by_choice d key) (choose_heuristic key d) → IsOnRecord after
    unfolding choose_heuristic
    chosen_stays key d answer is =
        called_rec before answer (wanted_by_choice d key) (choose_heuristic key d) refl mine is (λ j ready read wrote.
        behind_rec says before.end before.journal ready after.journal mine j.reread j.written (wanted_by_choice d key)
        (λ later. on (named key later) later (chooses d j.written later)) read wrote
        (λ later r none k. chooses_rec says later ready after.journal r none d key j.written k))

    pub refused_stays : (key : ObjectKey) (answer : Result (Unit {0}) EndFault) → IsCalled says before after answer nothing (refuse key) → IsOnRecord after
    unfolding refuse
    refused_stays key answer is =
        called_rec before answer nothing (refuse key) refl mine is (λ j ready read wrote.
        behind_rec says before.end before.journal ready after.journal mine j.reread j.written nothing
        (λ later. on (named key later) later (refuses later)) read wrote
        (λ later r none k. subst (Rec (on (named key later) later (refuses later)).end) (sym k) (refused_rec later ready r key)))

    pub put_stays : (key : ObjectKey) (cell value : ℕ) (answer : Result (Unit {0}) EndFault) → IsCalledOrStarved says before after answer (put key cell value) → IsOnRecord after
    unfolding put
    put_stays key cell value answer (inl is) =
        called_rec before answer nothing (put key cell value) refl mine is (λ j ready read wrote.
        behind_rec says before.end before.journal ready after.journal mine j.reread j.written nothing
        (λ later. on (named key later) later (puts cell value later)) read wrote
        (λ later r none k. subst (Rec (on (named key later) later (puts cell value later)).end) (sym k) (puts_rec later ready r key cell value)))
    put_stays key cell value answer (inr is) =
        on_record_of after
        (subst (Then says before.end before.journal after.journal mine) is.end
        (reread_rec says before.end before.journal after.journal mine is.journaled.reread is.read)).0

    alone_stays : {A : Type 0} (answer : Result A EndFault) (called : Called A) → IsAlone before after answer called → Rec called.end before.journal → IsOnRecord after
    alone_stays answer called is h = on_record_of after (subst (Rec after.end) (sym is.journal) (subst (λ e. Rec e before.journal) (sym is.comes.end) h))

    pub made_stays : (letter : ℕ) (answer : Result ObjectKey EndFault) → IsMadeOrUnmade letter before after answer → IsOnRecord after
    made_stays letter answer (inl is) = alone_stays answer (fresh letter before.end) is (made_rec before.end before.journal mine letter)
    made_stays letter answer (inr is) = subst IsOnRecord (sym is.same) rec

    pub made_has_none : (letter : ℕ) (answer : Result ObjectKey EndFault) → IsMadeOrUnmade letter before after answer
        → IfOk answer (λ key. named key before.end ≡ None)
    made_has_none letter answer (inl is) =
        subst (λ a. IfOk a (λ key. named key before.end ≡ None)) (sym is.comes.answer) (made_apart before.end before.journal mine letter)
    made_has_none letter answer (inr is) = subst (λ a. IfOk a (λ key. named key before.end ≡ None)) (sym is.answer) tt

    pub bound_stays : (key : ObjectKey) (given : List ℕ) (answer : Result (Unit {0}) EndFault) → IsAlone before after answer (bind key given before.end) → IsOnRecord after
    bound_stays key given answer is = alone_stays answer (bind key given before.end) is (bound_rec before.end before.journal mine key given)

    pub unmade_stays : (key : ObjectKey) → after ≡ record before { end = unmake key before.end } → IsOnRecord after
    unmade_stays key is =
        subst IsOnRecord (sym is) (on_record_of (record before { end = unmake key before.end }) (unmade_rec before.end before.journal mine key))

-- ---- a load

all_doubts : (xs : List Standing) (e : End) → e.doubted ≡ None → (recalls_all xs e).doubted ≡ None
unfolding recalls
all_doubts [] e none = none
all_doubts (s ∷ xs) e none = all_doubts xs (recalls s e) (told_doubts s.place s.item e ∙ none)

pub loaded_on_record : {D : Type 0} (s : EndState D) (service : ℕ) → s.end ≡ loaded service s.journal.found → s.journal.service ≡ service
    → IsFilled s.journal.service s.journal.octets s.journal.found → s.journal.doubted ≡ None → s.journal.failed ≡ false → AreOfEarlierLives s.end → IsOnRecord s
loaded_on_record s service is is_service filled none ready earlier =
    let e : s.end ≡ loaded s.journal.service s.journal.found = is ∙ ap (λ x. loaded x s.journal.found) (sym is_service) in
    on_record_of s
    (subst (λ x. Rec x s.journal) (sym e)
    (sure_rec (loaded s.journal.service s.journal.found) s.journal
    (stays_loaded s.journal.service s.journal.octets s.journal.found filled (subst AreOfEarlierLives e earlier))
    (all_doubts s.journal.found.standing (new_end s.journal.service s.journal.found.life) refl) none ready))
