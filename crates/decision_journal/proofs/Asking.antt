-- Which calls a disk was asked, once it was read.
use Rattle.std.proofs.Common.{◌≡◌, ◌⊎◌, ℕ, zero, suc, ◌+◌, ◌-◌, ◌<◌, ◌≤◌, inl, inr, Bool, true, false, cond, List, [], ◌∷◌, ◌++◌, length, min, Option, Some, None, Result, Ok, Err, refl, sym, ap, subst, ◌∙◌, arith, append_assoc, append-nil}
use Rattle.std.specs.Prelude.{IfOk, OnErr, OnOk, IfSome, is_ok}
use Rattle.ots_outside.specs.Disk.{DiskState, Tells, synced}
use Rattle.ots_outside.specs.Asked.{DiskCall, AskLength, AskRead, AskSync, AskWrite, HasAnswered, HasBegun, HasRefused, IsAsked}
use Rattle.decision_journal.specs.Limits.{piece_length}
use Rattle.decision_journal.specs.Asking.{AreReads, AsksBehind, AsksLoad, AsksLoadSome, AsksReads, AsksReady, AsksReread, AsksSome, AsksStart, AsksStartSome, AsksThen, append_calls, clear_calls, create_calls, done_calls, record_calls, start_calls, write_calls}
use Rattle.decision_journal.specs.declared.record.JournalRecord.TheVariants.{Done, Life}
use Rattle.decision_journal.specs.Journal.{AreRecords, Found, Holds, IsFilled, front, is_decision_at, is_fresh}
use Rattle.decision_journal.specs.Calls.{IsReady}
use Rattle.decision_journal.specs.Loading.{IsStarted, next_life}
use Rattle.std.specs.List.{list_any}
use Rattle.decision_journal.specs.Laws.{behind_gate, is_letter_due}
use Rattle.decision_journal.specs.declared.journal.JournalFault.{JournalFault}
use Rattle.decision_journal.specs.declared.record.JournalRecord.{JournalRecord}
use Rattle.decision_journal.specs.State.{HasMore, JournalState}

-- ---- there are such reads

reads_by : (place end more : ℕ) → place ≤ end → more ≡ end - place → ((next : ℕ) → next ≤ end → place < next → (calls : List DiskCall) × AreReads next end calls)
    → (calls : List DiskCall) × AreReads place end calls
reads_by place end zero le is rest = ([], omega (arith, le, is))
reads_by place end (suc more) le is rest =
    let count = min piece_length (end - place) in
    let others = rest (place + count) (omega (arith, le)) (omega (arith, is)) in
    (AskRead place count ∷ others.0, (omega (arith, is), refl, others.1))

reads_from : (fuel place end : ℕ) → place ≤ end → end ≤ place + fuel → (calls : List DiskCall) × AreReads place end calls
reads_from zero place end le far = ([], omega (arith, le, far))
reads_from (suc fuel) place end le far = reads_by place end (end - place) le refl (λ next within less. reads_from fuel next end within (omega (arith, far, less)))

-- ---- how much is read

pub size_synced : (size : ℕ) (before after : Option DiskState) → Tells before after (λ s t. t ≡ synced s) → IfSome after (λ t. size ≡ length t.reads) → IfSome before (λ s. size ≡ length s.reads)
size_synced size None after tells is = tt
size_synced size (Some s) None tells is = absurd tells
size_synced size (Some s) (Some t) tells is = is ∙ ap (λ (d : DiskState). length d.reads) tells

size_of : (told : Option DiskState) → (size : ℕ) × IfSome told (λ s. size ≡ length s.reads)
size_of None = (0, tt)
size_of (Some s) = (length s.reads, refl)

-- ---- the reads of a disk

module _ {D : Type 0} (asked : D → DiskCall → Bool → D → Type 0) where
  answered_more : (made more : List DiskCall) (before between after : D) → HasAnswered asked made before between → HasAnswered asked more between after → HasAnswered asked (made ++ more) before after
  answered_more [] more before between after is rest = subst (λ (d : D). HasAnswered asked more d after) is rest
  answered_more (call ∷ made) more before between after done rest = (done.0, (done.1.0, answered_more made more done.0 between after done.1.1 rest))

  -- a disk has answered the reads up to this place
  pub record HasReadTo (place end : ℕ) (before now : D) : Type 0 where
    pub made : List DiskCall
    pub answered : HasAnswered asked made before now
    pub first : (rest : List DiskCall) → AreReads place end rest → AreReads 0 end (made ++ rest)

  pub read_none : (end : ℕ) (before : D) → HasReadTo 0 end before before
  read_none end before = record { made = []; answered = refl; first = λ rest reads. reads }

  pub read_one : (place count to end : ℕ) (before now next : D) → HasReadTo place end before now → place < end → count ≡ min piece_length (end - place) → to ≡ place + count
      → asked now (AskRead place count) true next → HasReadTo to end before next
  read_one place count to end before now next read lt is at one = record {
    made = read.made ++ AskRead place count ∷ [];
    answered = answered_more read.made (AskRead place count ∷ []) before now next read.answered (next, (one, refl));
    first = λ rest reads. subst (λ (calls : List DiskCall). AreReads 0 end calls) (sym (append_assoc read.made (AskRead place count ∷ []) rest))
        (read.first (AskRead place count ∷ rest) (lt, ap (AskRead place) is, subst (λ (n : ℕ). AreReads n end rest) (at ∙ ap (λ (n : ℕ). place + n) is) reads));
  }

  pub read_all : (place end : ℕ) (before now : D) → HasReadTo place end before now → place ≡ end → AsksReads asked end true before now
  read_all place end before now to is = (to.made, subst (λ (calls : List DiskCall). AreReads 0 end calls) (append-nil to.made) (to.first [] is), to.answered)

  pub read_refused : (place count end : ℕ) (before now next : D) → HasReadTo place end before now → place < end → count ≡ min piece_length (end - place) → asked now (AskRead place count) false next → AsksReads asked end false before next
  read_refused place count end before now next to lt is one =
      let rest = reads_from end (place + count) end (omega (arith, is, lt)) (omega arith) in (
        to.made ++ AskRead place count ∷ rest.0,
        to.first (AskRead place count ∷ rest.0) (lt, ap (AskRead place) is, subst (λ (n : ℕ). AreReads (place + n) end rest.0) is rest.1),
        record { made = to.made; left = AskRead place count ∷ rest.0; calls_are = refl; between = now; answered = to.answered; last = inr one },
      )

  -- ---- a reread

  module _ (told : D → Option DiskState) (before synced_disk : D) where
    pub sync_refused : asked before AskSync false synced_disk → AsksReread asked told false before synced_disk
    sync_refused one =
        let size = size_of (told before) in
        let reads = reads_from size.0 0 size.0 (omega arith) (omega arith) in
        (size.0, size.1, (AskSync ∷ AskLength ∷ reads.0, (reads.0, reads.1, refl), record { made = []; left = AskSync ∷ AskLength ∷ reads.0; calls_are = refl; between = before; answered = refl; last = inr one }))

    pub length_refused : (after : D) → asked before AskSync true synced_disk → asked synced_disk AskLength false after → AsksReread asked told false before after
    length_refused after one two =
        let size = size_of (told before) in
        let reads = reads_from size.0 0 size.0 (omega arith) (omega arith) in
        (size.0, size.1, (AskSync ∷ AskLength ∷ reads.0, (reads.0, reads.1, refl), record { made = AskSync ∷ []; left = AskLength ∷ reads.0; calls_are = refl; between = synced_disk; answered = (synced_disk, (one, refl)); last = inr two }))

    module _ (size : ℕ) (measured : D) (is : IfSome (told before) (λ s. size ≡ length s.reads)) (one : asked before AskSync true synced_disk) (two : asked synced_disk AskLength true measured) where
      pub reads_left : AsksReread asked told false before measured
      reads_left =
          let reads = reads_from size 0 size (omega arith) (omega arith) in
          (size, is, (AskSync ∷ AskLength ∷ reads.0, (reads.0, reads.1, refl), record { made = AskSync ∷ AskLength ∷ []; left = reads.0; calls_are = refl; between = measured; answered = (synced_disk, (one, (measured, (two, refl)))); last = inl refl }))

      pub reads_refused : (after : D) → AsksReads asked size false measured after → AsksReread asked told false before after
      reads_refused after rest =
          let begun = rest.2 in (
            size,
            is,
            (
              AskSync ∷ AskLength ∷ rest.0,
              (rest.0, rest.1, refl),
              record {
                made = AskSync ∷ AskLength ∷ begun.made;
                left = begun.left;
                calls_are = ap (λ (calls : List DiskCall). AskSync ∷ AskLength ∷ calls) begun.calls_are;
                between = begun.between;
                answered = (synced_disk, (one, (measured, (two, begun.answered))));
                last = begun.last;
              },
            ),
          )

      pub all_reread : (after : D) → AsksReads asked size true measured after → AsksReread asked told true before after
      all_reread after rest = (size, is, (AskSync ∷ AskLength ∷ rest.0, (rest.0, rest.1, refl), (synced_disk, (one, (measured, (two, rest.2))))))

      pub reread_rest : (answered : Bool) (after : D) → AsksReads asked size answered measured after → AsksReread asked told answered before after
      reread_rest true after rest = all_reread after rest
      reread_rest false after rest = reads_refused after rest

-- ---- where a disk tells nothing

pub for_told : (told : Option DiskState) (X : Type 0) → X → IfSome told (λ _. X)
for_told None X x = tt
for_told (Some s) X x = x

pub none_begun : (told later : Option DiskState) (R : DiskState → DiskState → Type 0) (X : Type 0) → Tells told later R → later ≡ None → IfSome told (λ _. X)
none_begun None later R X tells none = tt
none_begun (Some s) None R X tells none = absurd tells
none_begun (Some s) (Some t) R X tells none = absurd cc

pub told_weaker : (told : Option DiskState) (X Y : Type 0) → (X → Y) → IfSome told (λ _. X) → IfSome told (λ _. Y)
told_weaker None X Y f x = tt
told_weaker (Some s) X Y f x = f x

-- ---- calls one after another

module _ {D : Type 0} (asked : D → DiskCall → Bool → D → Type 0) where
  pub begun_none : (calls : List DiskCall) (disk : D) → HasBegun asked calls disk disk
  begun_none calls disk = record { made = []; left = calls; calls_are = refl; between = disk; answered = refl; last = inl refl }

  pub begun_first : (call : DiskCall) (calls : List DiskCall) (before after : D) → asked before call false after → HasBegun asked (call ∷ calls) before after
  begun_first call calls before after one = record { made = []; left = call ∷ calls; calls_are = refl; between = before; answered = refl; last = inr one }

  more_left : (left more : List DiskCall) (between after : D) → HasRefused asked left between after → HasRefused asked (left ++ more) between after
  more_left [] more between after r = absurd r
  more_left (call ∷ left) more between after r = r

  more_last : (left more : List DiskCall) (between after : D) → ((after ≡ between) ⊎ HasRefused asked left between after) → (after ≡ between) ⊎ HasRefused asked (left ++ more) between after
  more_last left more between after (inl is) = inl is
  more_last left more between after (inr r) = inr (more_left left more between after r)

  -- the first of some calls are the first of these and more
  pub begun_more : (calls more : List DiskCall) (before after : D) → HasBegun asked calls before after → HasBegun asked (calls ++ more) before after
  begun_more calls more before after b = record {
    made = b.made;
    left = b.left ++ more;
    calls_are = ap (λ (l : List DiskCall). l ++ more) b.calls_are ∙ append_assoc b.made b.left more;
    between = b.between;
    answered = b.answered;
    last = more_last b.left more b.between after b.last;
  }

  -- calls behind calls that were answered
  pub asked_more : (answered : Bool) (calls more : List DiskCall) (before between after : D) → HasAnswered asked calls before between → IsAsked asked answered more between after → IsAsked asked answered (calls ++ more) before after
  asked_more true calls more before between after done rest = answered_more asked calls more before between after done rest
  asked_more false calls more before between after done rest = record {
    made = calls ++ rest.made;
    left = rest.left;
    calls_are = ap (λ (l : List DiskCall). calls ++ l) rest.calls_are ∙ sym (append_assoc calls rest.made rest.left);
    between = rest.between;
    answered = answered_more asked calls rest.made before between rest.between done rest.answered;
    last = rest.last;
  }

  pub asked_one : (answered : Bool) (call : DiskCall) (before after : D) → asked before call answered after → IsAsked asked answered (call ∷ []) before after
  asked_one true call before after one = (after, (one, refl))
  asked_one false call before after one = begun_first call [] before after one

  -- a write and a sync
  pub asked_write : (answered : Bool) (place : ℕ) (octets : List ℕ) (before between after : D) → asked before (AskWrite place octets) true between → asked between AskSync answered after → IsAsked asked answered (write_calls place octets) before after
  asked_write answered place octets before between after one two =
      asked_more answered (AskWrite place octets ∷ []) (AskSync ∷ []) before between after (between, (one, refl)) (asked_one answered AskSync between after two)

  -- the same append at a place, and of octets, that are known
  pub asked_as : (answered : Bool) (g h : ℕ) (b d : List ℕ) (before after : D) → g ≡ h → b ≡ d → IsAsked asked answered (append_calls g b) before after → IsAsked asked answered (append_calls h d) before after
  asked_as answered g h b d before after gate behind a =
      subst (λ (d : List ℕ). IsAsked asked answered (append_calls h d) before after) behind (subst (λ (h : ℕ). IsAsked asked answered (append_calls h b) before after) gate a)

  module _ (told : D → Option DiskState) (failed : Bool) (before : D) where
    pub ready_again : (between : D) → failed ≡ true → AsksReread asked told true before between → AsksReady asked told failed before between
    ready_again between is reread = subst (λ (b : Bool). AsksReady asked told b before between) (sym is) reread

    pub ready_at_once : failed ≡ false → AsksReady asked told failed before before
    ready_at_once is = subst (λ (b : Bool). AsksReady asked told b before before) (sym is) refl

    -- an append, whose gate its answer tells
    module _ (behind : List ℕ) (gate : ℕ) (between after : D) (ready : AsksReady asked told failed before between) where
      pub append_asked : (r : Result ℕ JournalFault) → IfOk r (λ place. place ≡ gate) → IsAsked asked (is_ok r) (append_calls gate behind) between after
          → IfOk r (λ place. AsksBehind asked told failed (append_calls place behind) true before after)
      append_asked (Ok place) is a = (between, ready, subst (λ (n : ℕ). HasAnswered asked (append_calls n behind) between after) (sym is) a)
      append_asked (Err fault) is a = tt

  -- a refused call
  module _ (told : D → Option DiskState) (before : JournalState D) (calls : JournalState D → List DiskCall) where
    pub some_reread : (after : D) → before.failed ≡ true → IfSome (told before.disk) (λ _. AsksReread asked told false before.disk after) → AsksSome asked told calls before after
    some_reread after is begun =
        told_weaker (told before.disk) (AsksReread asked told false before.disk after) ((before.failed ≡ true) × AsksReread asked told false before.disk after ⊎ AsksThen asked told calls false before after) (λ b. inl (is, b)) begun

    module _ (ready : JournalState D) (after : D) (is : IsReady told before ready) (asks : AsksReady asked told before.failed before.disk ready.disk) where
      pub some_then : HasBegun asked (calls ready) ready.disk after → AsksSome asked told calls before after
      some_then begun =
          for_told (told before.disk) ((before.failed ≡ true) × AsksReread asked told false before.disk after ⊎ AsksThen asked told calls false before after) (inr (ready, is, asks, begun))

      pub append_begun : (r : Result ℕ JournalFault) → IsAsked asked (is_ok r) (calls ready) ready.disk after → OnErr r (AsksSome asked told calls before after)
      append_begun (Ok place) a = tt
      append_begun (Err fault) a = some_then a

  -- the calls of a Done, by whether the record stands
  pub done_asked : (answered : Bool) (place : ℕ) (ready : JournalState D) (after : D) → list_any (is_decision_at place) ready.found.standing ≡ true
      → IsAsked asked answered (record_calls (Done place) ready) ready.disk after → IsAsked asked answered (done_calls place ready) ready.disk after
  done_asked answered place ready after is a = subst (λ (b : Bool). IsAsked asked answered (cond b (record_calls (Done place) ready) []) ready.disk after) (sym is) a

  pub done_unasked : (place : ℕ) (ready : JournalState D) → list_any (is_decision_at place) ready.found.standing ≡ false → HasAnswered asked (done_calls place ready) ready.disk ready.disk
  done_unasked place ready is = subst (λ (b : Bool). HasAnswered asked (cond b (record_calls (Done place) ready) []) ready.disk ready.disk) (sym is) refl

pub place_of : {D : Type 0} (before after : JournalState D) (item : JournalRecord) (r : Result ℕ JournalFault) → IfOk r (HasMore before after item) → IfOk r (λ place. place ≡ length before.octets)
place_of before after item (Ok place) more = more.place_is
place_of before after item (Err fault) more = tt

-- ---- a creation and a load

pub octets_synced : (octets : List ℕ) (before after : Option DiskState) → Tells before after (λ s t. t ≡ synced s) → IfSome after (λ t. octets ≡ t.reads) → IfSome before (λ s. octets ≡ s.reads)
octets_synced octets None after tells is = tt
octets_synced octets (Some s) None tells is = absurd tells
octets_synced octets (Some s) (Some t) tells is = is ∙ ap (λ (d : DiskState). d.reads) tells

told_earlier : (told later : Option DiskState) (R : DiskState → DiskState → Type 0) (X Y : Type 0) → Tells told later R → (X → Y) → IfSome later (λ _. X) → IfSome told (λ _. Y)
told_earlier None later R X Y tells f x = tt
told_earlier (Some s) None R X Y tells f x = absurd tells
told_earlier (Some s) (Some t) R X Y tells f x = f x

module _ {D : Type 0} (asked : D → DiskCall → Bool → D → Type 0) where
  pub begun_all : (calls : List DiskCall) (before after : D) → HasAnswered asked calls before after → HasBegun asked calls before after
  begun_all calls before after all = record { made = calls; left = []; calls_are = sym (append-nil calls); between = after; answered = all; last = inl refl }

  pub asked_octets : (answered : Bool) (place : ℕ) (b d : List ℕ) (before after : D) → b ≡ d → IsAsked asked answered (write_calls place b) before after → IsAsked asked answered (write_calls place d) before after
  asked_octets answered place b d before after is a = subst (λ (o : List ℕ). IsAsked asked answered (write_calls place o) before after) is a

  pub clear_none : (due : Bool) (disk : D) → due ≡ false → HasAnswered asked (clear_calls due) disk disk
  clear_none due disk is = subst (λ (b : Bool). HasAnswered asked (clear_calls b) disk disk) (sym is) refl

  pub clear_asked : (answered due : Bool) (before after : D) → due ≡ true → IsAsked asked answered (write_calls 0 (0 ∷ [])) before after → IsAsked asked answered (clear_calls due) before after
  clear_asked answered due before after is a = subst (λ (b : Bool). IsAsked asked answered (clear_calls b) before after) (sym is) a

  module _ (told : D → Option DiskState) (service : ℕ) (octets : List ℕ) (before between : D) (reads : IfSome (told before) (λ s. octets ≡ s.reads)) (reread : AsksReread asked told true before between) where
    start_asked : (answered : Bool) (after : D) → IsAsked asked answered (start_calls service octets) between after → AsksStart asked told service answered before after
    start_asked answered after a = (octets, reads, (between, reread, a))

    fresh_asked : (answered : Bool) (after : D) → is_fresh octets ≡ true → IsAsked asked answered (create_calls service (is_letter_due octets)) between after → IsAsked asked answered (start_calls service octets) between after
    fresh_asked answered after fresh a = subst (λ (b : Bool). IsAsked asked answered (cond b (create_calls service (is_letter_due octets)) []) between after) (sym fresh) a

    module _ {T F : Type 0} (after : D) (fresh : is_fresh octets ≡ true) where
      pub made_asked : (r : Result T F) → IsAsked asked (is_ok r) (create_calls service (is_letter_due octets)) between after → OnOk r (AsksStart asked told service true before after)
      made_asked (Ok x) a = start_asked true after (fresh_asked true after fresh a)
      made_asked (Err f) a = tt

      pub made_begun_asked : (r : Result T F) → IsAsked asked (is_ok r) (create_calls service (is_letter_due octets)) between after → OnErr r (AsksStartSome asked told service before after)
      made_begun_asked (Ok x) a = tt
      made_begun_asked (Err f) a = inr (start_asked false after (fresh_asked false after fresh a))

    pub read_asked : is_fresh octets ≡ false → AsksStart asked told service true before between
    read_asked old = start_asked true between (subst (λ (b : Bool). HasAnswered asked (cond b (create_calls service (is_letter_due octets)) []) between between) (sym old) refl)

    pub read_left : AsksStartSome asked told service before between
    read_left = inr (start_asked false between (begun_none asked (start_calls service octets) between))

  pub start_left : (told : D → Option DiskState) (service : ℕ) (before after : D) → AsksStart asked told service true before after → AsksStartSome asked told service before after
  start_left told service before after start = inr (start.0, start.1, (start.2.0, start.2.1, begun_all (start_calls service start.0) start.2.0 after start.2.2))

  -- a load, of which the append was answered, or not
  module _ (told : D → Option DiskState) (service : ℕ) (octets : List ℕ) (found : Found) (before between after : D) (start : AsksStart asked told service true before between)
      (rs : List JournalRecord) (held : IfSome (told before) (λ s. Holds service s.reads rs)) (are : AreRecords service octets found rs) (life : ℕ) (next : life ≡ found.life + 1) where
    same_append : (answered : Bool) (gate : ℕ) → gate ≡ length octets → IsAsked asked answered (append_calls gate (behind_gate (Life life))) between after
        → IsAsked asked answered (append_calls (length (front service rs)) (behind_gate (next_life rs))) between after
    same_append answered gate is a =
        asked_as asked answered gate (length (front service rs)) (behind_gate (Life life)) (behind_gate (next_life rs)) between after (is ∙ ap length are.octets_are)
        (ap (λ (n : ℕ). behind_gate (Life n)) (next ∙ ap (λ (f : Found). f.life + 1) are.found_is)) a

    pub load_asked : (gate : ℕ) → gate ≡ length octets → AsksBehind asked told false (append_calls gate (behind_gate (Life life))) true between after → AsksLoad asked told service true before after
    load_asked gate is a = (between, start, (rs, held, same_append true gate is (subst (λ (d : D). HasAnswered asked (append_calls gate (behind_gate (Life life))) d after) a.1 a.2)))

    module _ (area room : ℕ) where
      -- the journal before the append
      abbrev loading : JournalState D
      loading = record { disk = between; area = area; service = service; octets = octets; found = found; failed = false; doubted = None; room = room }

      append_left : ((false ≡ true) × AsksReread asked told false between after ⊎ AsksThen asked told (record_calls (Life life)) false loading after)
          → AsksStartSome asked told service before after ⊎ AsksLoad asked told service false before after
      append_left (inl never) = absurd cc
      append_left (inr a) =
          inr (
            between,
            start,
            (
              rs,
              held,
              same_append false (length a.0.octets) (ap length a.1.journal.known.0)
                  (subst (λ (d : D). HasBegun asked (append_calls (length a.0.octets) (behind_gate (Life life))) d after) a.2 a.3),
            ),
          )

      pub load_begun : (R : DiskState → DiskState → Type 0) → Tells (told before) (told between) R → AsksSome asked told (record_calls (Life life)) loading after → AsksLoadSome asked told service before after
      load_begun R tells some = told_earlier (told before) (told between) R _ (AsksStartSome asked told service before after ⊎ AsksLoad asked told service false before after) tells append_left some

-- the records that a load read
pub start_records : (service : ℕ) (octets : List ℕ) (found : Found) (before between : Option DiskState) → IsFilled service octets found → Tells before between (IsStarted service octets found)
    → (rs : List JournalRecord) × IfSome before (λ s. Holds service s.reads rs) × AreRecords service octets found rs
start_records service octets found None between filled started = (filled.0, tt, filled.1)
start_records service octets found (Some s) None filled started = absurd started
start_records service octets found (Some s) (Some t) filled started = (started.records, started.held, started.are)
