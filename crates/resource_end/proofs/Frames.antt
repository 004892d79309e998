-- What holds of an end stays where a resource is made, bound, forgotten or changed.
use Rattle.std.proofs.Common.{◌≡◌, ◌∙◌, ℕ, ◌+◌, Bool, true, false, cond, List, Option, Some, None, refl, sym, ap, subst, arith}
use Rattle.std.specs.Prelude.{◌==◌, ◌&&◌, IfSome, is_some}
use Rattle.std.proofs.lemmas.Bool.{and_parts, both_ways, eqb-true}
use Rattle.decision_journal.specs.Layout.{FitsReference}
use Rattle.decision_journal.specs.State.{JournalState}
use Rattle.decision_journal.specs.declared.record.JournalRecord.{JournalRecord}
use Rattle.decision_journal.specs.declared.record.JournalRecord.TheVariants.{Life, Decision, Done, Prepared, CellsPrepared, CellsOutcome, CellsOnePhase}
use Rattle.decision_journal.specs.declared.record.Put.{Put}
use Rattle.resource_end.specs.declared.state.State.{State}
use Rattle.resource_end.specs.declared.state.State.TheVariants as states
use Rattle.resource_end.specs.Calls.{bound, is_fresh, is_open}
use Rattle.resource_end.specs.End.{Resource, is_numbered, kept, moved, with_resource}
use Rattle.resource_end.specs.Inside.{CanPrepare, HasUnrecorded, Id, IsRecallable, IsRecorded, IsSomeSo, IsUnrecordedWith, IsWhole, IsWritable, fresh_one, numbered, without}
use Rattle.resource_end.proofs.Claims.{at_known, itself, its_number}
use Rattle.resource_end.proofs.Finding.{found_with, found_without}
use Rattle.resource_end.proofs.Named.{one_number}
use Rattle.resource_end.proofs.Told.{all_kept, all_with, all_without}

-- ---- the record in doubt can be recalled still

module _ (recovery : List ℕ) (rs : List Resource) where
  with_by : (s : Resource) (id : Id) (puts : List Put) (b : Bool) (o : Option Resource) → is_numbered id.0 id.1 s ≡ b → numbered id rs ≡ o
      → ((r : Resource) → numbered (s.life, s.number) rs ≡ Some r → IsUnrecordedWith puts r → IsUnrecordedWith puts s)
      → IsSomeSo o (IsUnrecordedWith puts) → IsSomeSo (cond b (Some s) o) (IsUnrecordedWith puts)
  with_by s id puts true None n is f h = absurd h
  with_by s id puts true (Some r) n is f h = f r (ap (λ k. numbered k rs) (one_number (s.life, s.number) id s (itself s) n) ∙ is) h
  with_by s id puts false o n is f h = h

  has_with : (s : Resource) (id : Id) (puts : List Put)
      → ((r : Resource) → numbered (s.life, s.number) rs ≡ Some r → IsUnrecordedWith puts r → IsUnrecordedWith puts s)
      → HasUnrecorded id puts rs → HasUnrecorded id puts (with_resource s rs)
  has_with s id puts f h =
      subst (λ o. IsSomeSo o (IsUnrecordedWith puts)) (sym (found_with id s rs))
      (with_by s id puts (is_numbered id.0 id.1 s) (numbered id rs) refl refl f h)

  pub recall_with : (s : Resource) (item : JournalRecord)
      → ((puts : List Put) (r : Resource) → numbered (s.life, s.number) rs ≡ Some r → IsUnrecordedWith puts r → IsUnrecordedWith puts s)
      → IsRecallable item recovery rs → IsRecallable item recovery (with_resource s rs)
  recall_with s (Life life) f h = absurd h
  recall_with s (Decision life slot generation key asked regs) f h = absurd h
  recall_with s (Done done) f h = absurd h
  recall_with s (Prepared life slot generation superior regs) f h = absurd h
  recall_with s (CellsPrepared life number said puts) f h = (h.0, has_with s (life, number) puts (f puts) h.1)
  recall_with s (CellsOutcome done how) f h = tt
  recall_with s (CellsOnePhase life number puts) f h = has_with s (life, number) puts (f puts) h

  without_by : (k id : Id) (puts : List Put) (b : Bool) (o : Option Resource) → (id.0 == k.0 && id.1 == k.1) ≡ b → numbered id rs ≡ o
      → ((r : Resource) → numbered k rs ≡ Some r → IsUnrecordedWith puts r → ⊥)
      → IsSomeSo o (IsUnrecordedWith puts) → IsSomeSo (cond b None o) (IsUnrecordedWith puts)
  without_by k id puts true None n is f h = absurd h
  without_by k id puts true (Some r) n is f h =
      let p = and_parts (id.0 == k.0) (id.1 == k.1) n in
      absurd (f r ((λ i. numbered (sym (eqb-true id.0 k.0 p.0) i, sym (eqb-true id.1 k.1 p.1) i) rs) ∙ is) h)
  without_by k id puts false o n is f h = h

  has_without : (k id : Id) (puts : List Put) → ((r : Resource) → numbered k rs ≡ Some r → IsUnrecordedWith puts r → ⊥)
      → HasUnrecorded id puts rs → HasUnrecorded id puts (without k rs)
  has_without k id puts f h =
      subst (λ o. IsSomeSo o (IsUnrecordedWith puts)) (sym (found_without id k rs))
      (without_by k id puts (id.0 == k.0 && id.1 == k.1) (numbered id rs) refl refl f h)

  pub recall_without : (k : Id) (item : JournalRecord) → ((puts : List Put) (r : Resource) → numbered k rs ≡ Some r → IsUnrecordedWith puts r → ⊥)
      → IsRecallable item recovery rs → IsRecallable item recovery (without k rs)
  recall_without k (Life life) f h = absurd h
  recall_without k (Decision life slot generation key asked regs) f h = absurd h
  recall_without k (Done done) f h = absurd h
  recall_without k (Prepared life slot generation superior regs) f h = absurd h
  recall_without k (CellsPrepared life number said puts) f h = (h.0, has_without k (life, number) puts (f puts) h.1)
  recall_without k (CellsOutcome done how) f h = tt
  recall_without k (CellsOnePhase life number puts) f h = has_without k (life, number) puts (f puts) h

pub if_each : {A : Type 0} (o : Option A) (P Q : A → Type 0) → ((x : A) → P x → Q x) → IfSome o P → IfSome o Q
if_each None P Q f h = tt
if_each (Some x) P Q f h = f x h

-- ---- what may be written fits a record still

more_drawn : (drawn : ℕ) (s : State) (r : Resource) → IsWritable drawn s r → IsWritable (drawn + 1) s r
more_drawn drawn states.Fresh r h = (record { fits = h.0.fits; number = omega (arith, h.0.number) }, h.1)
more_drawn drawn states.Working r h = record { fits = h.fits; number = omega (arith, h.number) }
more_drawn drawn states.Refused r h = tt
more_drawn drawn states.Prepared r h = tt
more_drawn drawn states.Applied r h = tt
more_drawn drawn states.Undone r h = tt
more_drawn drawn states.ChoseCommit r h = tt
more_drawn drawn states.ChoseRollback r h = tt
more_drawn drawn states.Forgotten r h = tt

-- one that can't put
pub closed_writable : (drawn : ℕ) (s : State) (r : Resource) → is_open s ≡ false → IsWritable drawn s r
closed_writable drawn states.Fresh r h = absurd (both_ways _ h refl)
closed_writable drawn states.Working r h = absurd (both_ways _ h refl)
closed_writable drawn states.Refused r h = tt
closed_writable drawn states.Prepared r h = tt
closed_writable drawn states.Applied r h = tt
closed_writable drawn states.Undone r h = tt
closed_writable drawn states.ChoseCommit r h = tt
closed_writable drawn states.ChoseRollback r h = tt
closed_writable drawn states.Forgotten r h = tt

-- one with another recovery coordinator
rebound : (drawn : ℕ) (s : State) (recovery : List ℕ) (r : Resource) → FitsReference recovery → IsWritable drawn s r → IsWritable drawn s (record r { recovery = recovery })
rebound drawn states.Fresh recovery r fits h = (record { fits = (h.0.fits.0, h.0.fits.1, fits, h.0.fits.3); number = h.0.number }, h.1)
rebound drawn states.Working recovery r fits h = record { fits = (h.fits.0, h.fits.1, fits, h.fits.3); number = h.number }
rebound drawn states.Refused recovery r fits h = tt
rebound drawn states.Prepared recovery r fits h = tt
rebound drawn states.Applied recovery r fits h = tt
rebound drawn states.Undone recovery r fits h = tt
rebound drawn states.ChoseCommit recovery r fits h = tt
rebound drawn states.ChoseRollback recovery r fits h = tt
rebound drawn states.Forgotten recovery r fits h = tt

-- ---- an end stays whole

module _ {D : Type 0} (journal : JournalState D) (drawn : ℕ) (recovery : List ℕ) (rs : List Resource) (whole : IsWhole journal drawn recovery rs) where
  -- a resource is made
  pub whole_made : (life letter : ℕ) → CanPrepare (drawn + 1) (fresh_one (life, drawn + 1) letter)
      → IsWhole journal (drawn + 1) recovery (with_resource (fresh_one (life, drawn + 1) letter) rs)
  whole_made life letter can = record {
    recorded = all_with (IsRecorded journal.found.standing) rs (fresh_one (life, drawn + 1) letter) whole.recorded tt;
    writable = all_with (λ id r. IsWritable (drawn + 1) r.state r) rs (fresh_one (life, drawn + 1) letter)
        (λ id. if_each (numbered id rs) (λ r. IsWritable drawn r.state r) (λ r. IsWritable (drawn + 1) r.state r) (λ r. more_drawn drawn r.state r) (whole.writable id))
        (can, refl);
    recallable = if_each journal.doubted (λ item. IsRecallable item recovery rs) (λ item. IsRecallable item recovery (with_resource (fresh_one (life, drawn + 1) letter) rs))
        (λ item. recall_with recovery rs (fresh_one (life, drawn + 1) letter) item
        (λ puts r there so. absurd (unmade r there so.unrecorded.works))) whole.recallable;
    failed = whole.failed;
  }
    where
      unmade : (r : Resource) → numbered (life, drawn + 1) rs ≡ Some r → r.state ≡ states.Working → ⊥
      unmade r there works =
          let can = subst (λ s. IsWritable drawn s r) works (at_known (numbered (life, drawn + 1) rs) r (λ r. IsWritable drawn r.state r) there (whole.writable (life, drawn + 1))) in
          let number = eqb-true r.number (drawn + 1) (and_parts (r.life == life) (r.number == drawn + 1) (its_number (life, drawn + 1) rs r there)).1 in
          omega (arith, can.number, number)

  -- a number alone is drawn
  pub whole_drawn : IsWhole journal (drawn + 1) recovery rs
  whole_drawn = record {
    recorded = whole.recorded;
    writable = (λ id. if_each (numbered id rs) (λ r. IsWritable drawn r.state r) (λ r. IsWritable (drawn + 1) r.state r) (λ r. more_drawn drawn r.state r) (whole.writable id));
    recallable = whole.recallable;
    failed = whole.failed;
  }

  -- a resource is bound
  pub whole_bound : (id : Id) (r : Resource) (given : List ℕ) → numbered id rs ≡ Some r → FitsReference given
      → IsWhole journal drawn recovery (with_resource (bound given r) rs)
  whole_bound id r given there fits = by (is_some r.record_place) refl
    where
      own : numbered (r.life, r.number) rs ≡ Some r
      own = ap (λ k. numbered k rs) (one_number (r.life, r.number) id r (itself r) (its_number id rs r there)) ∙ there

      is_recorded : IsRecorded journal.found.standing (r.life, r.number) r
      is_recorded = at_known (numbered (r.life, r.number) rs) r (IsRecorded journal.found.standing (r.life, r.number)) own (whole.recorded (r.life, r.number))

      is_writable : IsWritable drawn r.state r
      is_writable = at_known (numbered (r.life, r.number) rs) r (λ s. IsWritable drawn s.state s) own (whole.writable (r.life, r.number))

      stays : (s : Resource) → s.life ≡ r.life → s.number ≡ r.number → IsRecorded journal.found.standing (s.life, s.number) s → IsWritable drawn s.state s
          → ((puts : List Put) → IsUnrecordedWith puts r → IsUnrecordedWith puts s) → IsWhole journal drawn recovery (with_resource s rs)
      stays s life number recorded writable so = record {
        recorded = all_with (IsRecorded journal.found.standing) rs s whole.recorded recorded;
        writable = all_with (λ id r. IsWritable drawn r.state r) rs s whole.writable writable;
        recallable = if_each journal.doubted (λ item. IsRecallable item recovery rs) (λ item. IsRecallable item recovery (with_resource s rs))
            (λ item. recall_with recovery rs s item (λ puts x at h. so puts (same puts x at h))) whole.recallable;
        failed = whole.failed;
      }
        where
          same : (puts : List Put) (x : Resource) → numbered (s.life, s.number) rs ≡ Some x → IsUnrecordedWith puts x → IsUnrecordedWith puts r
          same puts x at h =
              subst (λ o. IfSome o (IsUnrecordedWith puts)) (sym at ∙ (λ i. numbered (life i, number i) rs) ∙ own) h

      by : (b : Bool) → is_some r.record_place ≡ b → IsWhole journal drawn recovery (with_resource (cond b r (record r { recovery = given })) rs)
      by true p = stays r refl refl is_recorded is_writable (λ puts h. h)
      by false p =
          stays (record r { recovery = given }) refl refl is_recorded (rebound drawn r.state given r fits is_writable)
          (λ puts h. record { unrecorded = record { works = h.unrecorded.works; unrecorded = h.unrecorded.unrecorded }; puts_are = h.puts_are })

  -- one that has put nothing is forgotten
  pub whole_unmade : (id : Id) (r : Resource) → numbered id rs ≡ Some r → r.state ≡ states.Fresh → IsWhole journal drawn recovery (without id rs)
  whole_unmade id r there fresh = record {
    recorded = all_without (IsRecorded journal.found.standing) rs id whole.recorded;
    writable = all_without (λ id r. IsWritable drawn r.state r) rs id whole.writable;
    recallable = if_each journal.doubted (λ item. IsRecallable item recovery rs) (λ item. IsRecallable item recovery (without id rs))
        (λ item. recall_without recovery rs id item (λ puts x at h. works x at h.unrecorded.works)) whole.recallable;
    failed = whole.failed;
  }
    where
      works : (x : Resource) → numbered id rs ≡ Some x → x.state ≡ states.Working → ⊥
      works x at is =
          let state = sym fresh ∙ subst (λ o. IfSome o (λ (y : Resource). r.state ≡ y.state)) (sym there ∙ at) refl ∙ is in
          both_ways _ (ap is_fresh state) refl

  -- one changes while nothing is in doubt
  pub whole_moved : (id : Id) (r : Resource) (next : State) → numbered id rs ≡ Some r → is_open next ≡ false → journal.doubted ≡ None
      → IsWhole journal drawn recovery (kept (moved next r) rs)
  whole_moved id r next there closed none = record {
    recorded = all_kept (IsRecorded journal.found.standing) rs (moved next r) whole.recorded
        (at_known (numbered (r.life, r.number) rs) r (IsRecorded journal.found.standing (r.life, r.number)) own (whole.recorded (r.life, r.number)));
    writable = all_kept (λ id s. IsWritable drawn s.state s) rs (moved next r) whole.writable (closed_writable drawn next (moved next r) closed);
    recallable = subst (λ d. IfSome d (λ item. IsRecallable item recovery (kept (moved next r) rs))) (sym none) tt;
    failed = whole.failed;
  }
    where
      own : numbered (r.life, r.number) rs ≡ Some r
      own = ap (λ k. numbered k rs) (one_number (r.life, r.number) id r (itself r) (its_number id rs r there)) ∙ there
