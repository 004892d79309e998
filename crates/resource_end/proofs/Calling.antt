-- A call of an end, put together: a reread, and what happens behind it.
use Rattle.std.proofs.Common.{◌≡◌, ◌∙◌, inl, inr, ℕ, ◌≤◌, Bool, true, false, Option, Some, None, refl, sym, ap, subst, arith}
use Rattle.std.specs.Prelude.{IfSome, IfErr, Result, Ok, Err}
use Rattle.std.specs.Result.{IsOk}
use Rattle.std.proofs.lemmas.Bool.{both_ways, cases_lt}
use Rattle.ior_refs.specs.declared.key.ObjectKey.{ObjectKey}
use Rattle.ots_model.specs.declared.line.Decision.{Decision}
use Rattle.ots_model.specs.declared.line.Decision.TheVariants as decision
use Rattle.ots_model.specs.declared.service.Status.{Status}
use Rattle.ots_model.specs.declared.service.Status.TheVariants as status
use Rattle.ots_model.specs.declared.tree.Heard.{Heard}
use Rattle.ots_model.specs.declared.completion.Heard.TheVariants as phase_hears
use Rattle.ots_model.specs.declared.tree.Heard.TheVariants as heard
use Rattle.ots_outside.specs.Disk.{DiskState}
use Rattle.ots_outside.specs.Source.{HasRisen}
use Rattle.decision_journal.specs.State.{JournalState}
use Rattle.decision_journal.specs.declared.record.JournalRecord.{JournalRecord}
use Rattle.resource_end.specs.declared.fault.EndFault.{EndFault}
use Rattle.resource_end.specs.declared.fault.EndFault.TheVariants as faults
use Rattle.resource_end.specs.declared.state.State.{State}
use Rattle.resource_end.specs.declared.state.State.TheVariants as states
use Rattle.resource_end.specs.declared.state.Word.{Word}
use Rattle.resource_end.specs.declared.state.Word.TheVariants as words
use Rattle.resource_end.specs.States.{is_unfinished, learnt, made, outcome_heard, outcome_told}
use Rattle.resource_end.specs.Table.{row}
use Rattle.resource_end.specs.Calls.{Called, Written, StandsAt, Unwritten, InDoubt, behind, changes_with, changing, choice, does, is_open, learn, learns_by, learns_in, learnt_of, obeys, on, shown_by, showing, told, wanted, wanted_by_answer, wanted_for, wanted_of}
use Rattle.resource_end.specs.End.{End, Resource, named, record_for}
use Rattle.resource_end.specs.Recall.{reread}
use Rattle.resource_end.specs.Inside.{AnswersSo, CanMove, HasMoved, HasReadAgain}
use Rattle.resource_end.proofs.Again.{over_may}
use Rattle.resource_end.specs.Journaling.{Comes, EndState, IsCalled, afresh, IsCause, IsStarved, IsWrittenWhere, WritesBehind}

abbrev failing : EndFault → Result (Unit {0}) EndFault
failing fault = Err fault

err_is : (a b : EndFault) → failing a ≡ failing b → a ≡ b
err_is a b same = subst (λ r. IfErr r (λ x. a ≡ x)) same refl

abbrev is_ok : {A E : Type 0} → Result A E → Bool
is_ok (Ok x) = true
is_ok (Err x) = false

module _ {A D : Type 0} (tells : D → Option DiskState) (before : EndState D) where
  -- the reread was refused
  pub unread_called : (after : EndState D) (fault : EndFault) (needs : End → Option JournalRecord) (act : Written → End → Called A)
      → HasReadAgain tells before after (Err fault)
      → IsCalled tells before after (Err fault) needs (λ j e. behind (reread j.reread e) e (act j.written))
  unread_called after fault needs act h = by (reread h.found before.end) refl h.answers
    where
      by : (o : Result End EndFault) → reread h.found before.end ≡ o → AnswersSo o before after (Err fault)
          → IsCalled tells before after (Err fault) needs (λ j e. behind (reread j.reread e) e (act j.written))
      by (Ok later) is k = absurd (both_ways _ refl (ap is_ok k.1))
      by (Err f) is k = record {
        journaled = record { reread = h.found; written = StandsAt 0 };
        journal = record {
          ready = after.journal;
          read = h.read;
          wrote = subst (λ o. WritesBehind o needs tells after.journal after.journal (StandsAt 0)) (sym is) refl;
        };
        comes = subst (λ o. Comes after (Err fault) (behind o before.end (act (StandsAt 0)))) (sym is)
            (record { end = k.0; answer = ap (λ x. Err x) (err_is fault f k.1) });
      }

  -- it was not, and what happens behind it is the definition's
  pub behind_called : (ready after : EndState D) (answer : Result A EndFault) (needs : End → Option JournalRecord) (act : Written → End → Called A)
      → HasReadAgain tells before ready (Ok tt) → (w : Written) → IsWrittenWhere (needs ready.end) tells ready.journal after.journal w
      → Comes after answer (act w ready.end) → IsCalled tells before after answer needs (λ j e. behind (reread j.reread e) e (act j.written))
  behind_called ready after answer needs act h w wrote comes = by (reread h.found before.end) refl h.answers
    where
      by : (o : Result End EndFault) → reread h.found before.end ≡ o → AnswersSo o before ready (Ok tt)
          → IsCalled tells before after answer needs (λ j e. behind (reread j.reread e) e (act j.written))
      by (Err f) is k = absurd (both_ways _ (ap is_ok k.1) refl)
      by (Ok later) is k = record {
        journaled = record { reread = h.found; written = w };
        journal = record {
          ready = ready.journal;
          read = h.read;
          wrote = subst (λ o. WritesBehind o needs tells ready.journal after.journal w) (sym is)
              (subst (λ e. IsWrittenWhere (needs e) tells ready.journal after.journal w) k.0 wrote);
        };
        comes = subst (λ o. Comes after answer (behind o before.end (act w))) (sym is) (subst (λ e. Comes after answer (act w e)) k.0 comes);
      }

  -- memory was wanted behind it
  pub behind_starved : (ready : EndState D) (act : Written → End → Called A) → HasReadAgain tells before ready (Ok tt) → IsOk (act (StandsAt 0) ready.end).answer
      → IsStarved tells before ready (Err faults.Memory) (λ j e. behind (reread j.reread e) e (act j.written))
  behind_starved ready act h granted = by (reread h.found before.end) refl h.answers
    where
      by : (o : Result End EndFault) → reread h.found before.end ≡ o → AnswersSo o before ready (Ok tt)
          → IsStarved tells before ready (Err faults.Memory) (λ j e. behind (reread j.reread e) e (act j.written))
      by (Err f) is k = absurd (both_ways _ (ap is_ok k.1) refl)
      by (Ok later) is k = record {
        journaled = record { reread = h.found; written = StandsAt 0 };
        read = h.read;
        end = is ∙ ap (λ e. Ok e) (sym k.0);
        granted = subst (λ o. IsOk (behind o before.end (act (StandsAt 0))).answer) (sym is) (subst (λ e. IsOk (act (StandsAt 0) e).answer) k.0 granted);
        answer = refl;
      }

-- ---- the cause of a fault

pub later_risen : (a b c : ℕ) → a ≤ b → b ≤ c → HasRisen b c → HasRisen a c
later_risen a b c ab bc (inl h) = inl (omega (arith, ab, h))
later_risen a b c ab bc (inr h) = elim (cases_lt a b) [
  | inl less ↦ inl (omega (arith, less, bc))
  | inr more ↦ let same : a ≡ b = omega (arith, ab, more) in inr (same ∙ h)
]

pub later_cause : {D : Type 0} (wants : Bool) (tells : D → Option DiskState) (count : D → ℕ) (a b c : JournalState D) (fault : EndFault)
    → count a.disk ≤ count b.disk → count b.disk ≤ count c.disk → b.failed ≡ false → IsCause wants tells count b c fault → IsCause wants tells count a c fault
later_cause wants tells count a b c (faults.Transient number) ab bc ready h = tt
later_cause wants tells count a b c faults.Inactive ab bc ready h = tt
later_cause wants tells count a b c faults.ObjectNotExist ab bc ready h = tt
later_cause wants tells count a b c faults.PersistStore ab bc ready (inl h) = inl (later_risen (count a.disk) (count b.disk) (count c.disk) ab bc h)
later_cause wants tells count a b c faults.PersistStore ab bc ready (inr h) = absurd (both_ways b.failed ready h.0)
later_cause wants tells count a b c faults.NoResources ab bc ready h = tt
later_cause wants tells count a b c (faults.Start fault) ab bc ready h = tt
later_cause wants tells count a b c faults.Memory ab bc ready h = h

-- ---- where a change may lead

closes : (before after : State) → is_open after ≡ false → is_unfinished after ≡ false → CanMove before after
closes before after closed over = record { closed = closed; follows = over_may after before over }

pub row_can : (w : Word) (s : State) → IfSome (row w s).next (CanMove s)
row_can words.Prepare states.Fresh = closes states.Fresh states.Forgotten refl refl
row_can words.Prepare states.Working = record { closed = refl; follows = record { holding = λ h. refl; unfinished = λ h. refl } }
row_can words.Prepare states.Refused = closes states.Refused states.Undone refl refl
row_can words.Prepare states.Prepared = tt
row_can words.Prepare states.Applied = tt
row_can words.Prepare states.Undone = tt
row_can words.Prepare states.ChoseCommit = tt
row_can words.Prepare states.ChoseRollback = tt
row_can words.Prepare states.Forgotten = tt
row_can words.Commit states.Prepared = closes states.Prepared states.Applied refl refl
row_can words.Commit states.ChoseCommit = closes states.ChoseCommit states.Applied refl refl
row_can words.Commit _ = tt
row_can words.Rollback states.Fresh = closes states.Fresh states.Undone refl refl
row_can words.Rollback states.Working = closes states.Working states.Undone refl refl
row_can words.Rollback states.Refused = closes states.Refused states.Undone refl refl
row_can words.Rollback states.Prepared = closes states.Prepared states.Undone refl refl
row_can words.Rollback states.ChoseRollback = closes states.ChoseRollback states.Undone refl refl
row_can words.Rollback _ = tt
row_can words.CommitOnePhase states.Fresh = closes states.Fresh states.Forgotten refl refl
row_can words.CommitOnePhase states.Working = closes states.Working states.Applied refl refl
row_can words.CommitOnePhase states.Refused = closes states.Refused states.Undone refl refl
row_can words.CommitOnePhase states.Prepared = closes states.Prepared states.Applied refl refl
row_can words.CommitOnePhase states.ChoseCommit = closes states.ChoseCommit states.Applied refl refl
row_can words.CommitOnePhase _ = tt
row_can words.Forget states.ChoseCommit = closes states.ChoseCommit states.Forgotten refl refl
row_can words.Forget states.ChoseRollback = closes states.ChoseRollback states.Forgotten refl refl
row_can words.Forget _ = tt

-- a change by a word is shown
pub row_shown : (w : Word) (s : State) → IfSome (row w s).next (λ n. shown_by (row w s).said n ≡ made n)
row_shown words.Prepare states.Fresh = refl
row_shown words.Prepare states.Working = refl
row_shown words.Prepare states.Refused = refl
row_shown words.Prepare _ = tt
row_shown words.Commit states.Prepared = refl
row_shown words.Commit states.ChoseCommit = refl
row_shown words.Commit _ = tt
row_shown words.Rollback states.Fresh = refl
row_shown words.Rollback states.Working = refl
row_shown words.Rollback states.Refused = refl
row_shown words.Rollback states.Prepared = refl
row_shown words.Rollback states.ChoseRollback = refl
row_shown words.Rollback _ = tt
row_shown words.CommitOnePhase states.Fresh = refl
row_shown words.CommitOnePhase states.Working = refl
row_shown words.CommitOnePhase states.Refused = refl
row_shown words.CommitOnePhase states.Prepared = refl
row_shown words.CommitOnePhase states.ChoseCommit = refl
row_shown words.CommitOnePhase _ = tt
row_shown words.Forget states.ChoseCommit = refl
row_shown words.Forget states.ChoseRollback = refl
row_shown words.Forget _ = tt

told_can : (s : Status) → IfSome (outcome_told s) (CanMove states.Prepared)
told_can status.Committing = closes states.Prepared states.Applied refl refl
told_can status.Committed = closes states.Prepared states.Applied refl refl
told_can status.RollingBack = closes states.Prepared states.Undone refl refl
told_can status.RolledBack = closes states.Prepared states.Undone refl refl
told_can _ = tt

heard_can : (h : Heard) → IfSome (outcome_heard h) (CanMove states.Prepared)
heard_can (heard.Told s) = told_can s
heard_can (heard.Phase phase_hears.NoObject) = closes states.Prepared states.Undone refl refl
heard_can _ = tt

pub learnt_can : (s : State) (h : Heard) → IfSome (learnt s h) (CanMove s)
learnt_can states.Prepared h = heard_can h
learnt_can _ h = tt

pub choice_can : (d : Decision) → CanMove states.Prepared (choice d)
choice_can decision.Commit = closes states.Prepared states.ChoseCommit refl refl
choice_can decision.Rollback = closes states.Prepared states.ChoseRollback refl refl

-- ---- a change that is shown

abbrev plain : Result (Unit {0}) EndFault
plain = Ok tt

-- what a change answers in place of a plain Ok
abbrev instead : {A : Type 0} → Result A EndFault → Result (Unit {0}) EndFault → Result A EndFault
instead said (Ok done) = said
instead said (Err fault) = Err fault

said_by : {A : Type 0} (said : Result A EndFault) (w : Written) (o : Option JournalRecord) (s : State) (r : Resource) (e : End)
    → changes_with o w said s r e ≡ record { end = (changes_with o w plain s r e).end; answer = instead said (changes_with o w plain s r e).answer }
said_by said (StandsAt place) (Some item) s r e = refl
said_by said (Unwritten fault) (Some item) s r e = refl
said_by said (InDoubt fault) (Some item) s r e = refl
said_by said w None s r e = refl

module _ {A D : Type 0} (tells : D → Option DiskState) (ready after : EndState D) (said : Result A EndFault) (s : State) (r : Resource) where
  shown_so : (w : Written) (a : Result (Unit {0}) EndFault) → a ≡ (changing w plain s r ready.end).answer
      → showing s (changing w said s r ready.end)
      ≡ record { end = record (changing w plain s r ready.end).end { changed = shown_by (instead said a) s }; answer = instead said a }
  unfolding changing
  shown_so w a is =
      ap (λ c. showing s c) (said_by said w (record_for s r) s r ready.end)
      ∙ ap (λ b. record { end = record (changing w plain s r ready.end).end { changed = shown_by (instead said b) s }; answer = instead said b }) (sym is)

  pub moved_shown : (h : HasMoved tells ready after (Ok tt) s r) → shown_by said s ≡ made s
      → Comes (record after { end = record after.end { changed = made s } }) said (showing s (changing h.written said s r ready.end))
  moved_shown h same = record {
    end = (λ i. record (h.comes.end i) { changed = sym same i }) ∙ ap (λ c. c.end) (sym (shown_so h.written (Ok tt) h.comes.answer));
    answer = ap (λ c. c.answer) (sym (shown_so h.written (Ok tt) h.comes.answer));
  }

  pub unmoved_shown : (fault : EndFault) (h : HasMoved tells ready after (Err fault) s r) → after.end.changed ≡ None
      → Comes after (Err fault) (showing s (changing h.written said s r ready.end))
  unmoved_shown fault h none = record {
    end = (λ i. record after.end { changed = none i }) ∙ (λ i. record (h.comes.end i) { changed = None })
        ∙ ap (λ c. c.end) (sym (shown_so h.written (Err fault) h.comes.answer));
    answer = ap (λ c. c.answer) (sym (shown_so h.written (Err fault) h.comes.answer));
  }

-- ---- a word

module _ {D : Type 0} (tells : D → Option DiskState) (s : EndState D) (w : Word) (key : ObjectKey) where
  abbrev act : Written → End → Called Heard
  act written later = on (named key later) later (obeys w written later)

  as_told : (after : EndState D) (answer : Result Heard EndFault)
      → IsCalled tells (afresh s) after answer (wanted w key) (λ j e. behind (reread j.reread e) e (act j.written))
      → IsCalled tells (afresh s) after answer (wanted w key) (told w key)
  unfolding told
  as_told after answer h = record { journaled = h.journaled; journal = h.journal; comes = h.comes }

  pub told_unread : (after : EndState D) (fault : EndFault) → HasReadAgain tells (afresh s) after (Err fault)
      → IsCalled tells (afresh s) after (Err fault) (wanted w key) (told w key)
  told_unread after fault h = as_told after (Err fault) (unread_called tells (afresh s) after fault (wanted w key) act h)

  module _ (ready : EndState D) (h : HasReadAgain tells (afresh s) ready (Ok tt)) where
    pub told_nobody : named key ready.end ≡ None → IsCalled tells (afresh s) ready (Err faults.ObjectNotExist) (wanted w key) (told w key)
    unfolding wanted
    told_nobody none =
        as_told ready (Err faults.ObjectNotExist)
        (behind_called tells (afresh s) ready ready (Err faults.ObjectNotExist) (wanted w key) act h (StandsAt 0)
        (subst (λ o. IsWrittenWhere (wanted_of w o) tells ready.journal ready.journal (StandsAt 0)) (sym none) refl)
        (subst (λ o. Comes ready (Err faults.ObjectNotExist) (on o ready.end (obeys w (StandsAt 0) ready.end))) (sym none) (record { end = refl; answer = refl })))

    module _ (r : Resource) (is : named key ready.end ≡ Some r) where
      pub told_stays : (row w r.state).next ≡ None → IsCalled tells (afresh s) ready (row w r.state).said (wanted w key) (told w key)
      unfolding wanted
      told_stays none =
          as_told ready (row w r.state).said
          (behind_called tells (afresh s) ready ready (row w r.state).said (wanted w key) act h (StandsAt 0)
          (subst (λ o. IsWrittenWhere (wanted_of w o) tells ready.journal ready.journal (StandsAt 0)) (sym is)
          (subst (λ x. IsWrittenWhere (wanted_for x r) tells ready.journal ready.journal (StandsAt 0)) (sym none) refl))
          (subst (λ o. Comes ready (row w r.state).said (on o ready.end (obeys w (StandsAt 0) ready.end))) (sym is)
          (subst (λ x. Comes ready (row w r.state).said (does x (row w r.state).said (StandsAt 0) ready.end r)) (sym none) (record { end = refl; answer = refl }))))

      module _ (after : EndState D) (n : State) (next : (row w r.state).next ≡ Some n) where
        pub told_moved : HasMoved tells ready after (Ok tt) n r
            → IsCalled tells (afresh s) (record after { end = record after.end { changed = made n } }) (row w r.state).said (wanted w key) (told w key)
        unfolding wanted
        told_moved m =
            let later : EndState D = record after { end = record after.end { changed = made n } } in
            as_told later (row w r.state).said
            (behind_called tells (afresh s) ready later (row w r.state).said (wanted w key) act h m.written
            (subst (λ o. IsWrittenWhere (wanted_of w o) tells ready.journal after.journal m.written) (sym is)
            (subst (λ x. IsWrittenWhere (wanted_for x r) tells ready.journal after.journal m.written) (sym next) m.wrote))
            (subst (λ o. Comes later (row w r.state).said (on o ready.end (obeys w m.written ready.end))) (sym is)
            (subst (λ x. Comes later (row w r.state).said (does x (row w r.state).said m.written ready.end r)) (sym next)
            (moved_shown tells ready after (row w r.state).said n r m
            (subst (λ o. IfSome o (λ x. shown_by (row w r.state).said x ≡ made x)) next (row_shown w r.state))))))

        pub told_unmoved : (fault : EndFault) → HasMoved tells ready after (Err fault) n r → after.end.changed ≡ None
            → IsCalled tells (afresh s) after (Err fault) (wanted w key) (told w key)
        unfolding wanted
        told_unmoved fault m none =
            as_told after (Err fault)
            (behind_called tells (afresh s) ready after (Err fault) (wanted w key) act h m.written
            (subst (λ o. IsWrittenWhere (wanted_of w o) tells ready.journal after.journal m.written) (sym is)
            (subst (λ x. IsWrittenWhere (wanted_for x r) tells ready.journal after.journal m.written) (sym next) m.wrote))
            (subst (λ o. Comes after (Err fault) (on o ready.end (obeys w m.written ready.end))) (sym is)
            (subst (λ x. Comes after (Err fault) (does x (row w r.state).said m.written ready.end r)) (sym next)
            (unmoved_shown tells ready after (row w r.state).said n r fault m none))))

-- ---- an answer to an ask

module _ {D : Type 0} (tells : D → Option DiskState) (s : EndState D) (key : ObjectKey) (h : Heard) where
  abbrev hears : Written → End → Called (Unit {0})
  hears written later = learns_in (named key later) h written later

  as_learnt : (after : EndState D) (answer : Result (Unit {0}) EndFault)
      → IsCalled tells (afresh s) after answer (wanted_by_answer h key) (λ j e. behind (reread j.reread e) e (hears j.written))
      → IsCalled tells (afresh s) after answer (wanted_by_answer h key) (learn key h)
  unfolding learn
  as_learnt after answer k = record { journaled = k.journaled; journal = k.journal; comes = k.comes }

  pub learnt_unread : (after : EndState D) (fault : EndFault) → HasReadAgain tells (afresh s) after (Err fault)
      → IsCalled tells (afresh s) after (Err fault) (wanted_by_answer h key) (learn key h)
  learnt_unread after fault k = as_learnt after (Err fault) (unread_called tells (afresh s) after fault (wanted_by_answer h key) hears k)

  module _ (ready : EndState D) (k : HasReadAgain tells (afresh s) ready (Ok tt)) where
    pub learnt_nobody : named key ready.end ≡ None → IsCalled tells (afresh s) ready (Ok tt) (wanted_by_answer h key) (learn key h)
    unfolding wanted_by_answer
    learnt_nobody none =
        as_learnt ready (Ok tt)
        (behind_called tells (afresh s) ready ready (Ok tt) (wanted_by_answer h key) hears k (StandsAt 0)
        (subst (λ o. IsWrittenWhere (learnt_of h o) tells ready.journal ready.journal (StandsAt 0)) (sym none) refl)
        (subst (λ o. Comes ready (Ok tt) (learns_in o h (StandsAt 0) ready.end)) (sym none) (record { end = refl; answer = refl })))

    module _ (r : Resource) (is : named key ready.end ≡ Some r) where
      pub learnt_nothing : learnt r.state h ≡ None → IsCalled tells (afresh s) ready (Ok tt) (wanted_by_answer h key) (learn key h)
      unfolding wanted_by_answer
      learnt_nothing none =
          as_learnt ready (Ok tt)
          (behind_called tells (afresh s) ready ready (Ok tt) (wanted_by_answer h key) hears k (StandsAt 0)
          (subst (λ o. IsWrittenWhere (learnt_of h o) tells ready.journal ready.journal (StandsAt 0)) (sym is)
          (subst (λ x. IsWrittenWhere (wanted_for x r) tells ready.journal ready.journal (StandsAt 0)) (sym none) refl))
          (subst (λ o. Comes ready (Ok tt) (learns_in o h (StandsAt 0) ready.end)) (sym is)
          (subst (λ x. Comes ready (Ok tt) (learns_by x (StandsAt 0) ready.end r)) (sym none) (record { end = refl; answer = refl }))))

      module _ (after : EndState D) (n : State) (next : learnt r.state h ≡ Some n) where
        pub learnt_moved : HasMoved tells ready after (Ok tt) n r
            → IsCalled tells (afresh s) (record after { end = record after.end { changed = made n } }) (Ok tt) (wanted_by_answer h key) (learn key h)
        unfolding wanted_by_answer
        learnt_moved m =
            let later : EndState D = record after { end = record after.end { changed = made n } } in
            as_learnt later (Ok tt)
            (behind_called tells (afresh s) ready later (Ok tt) (wanted_by_answer h key) hears k m.written
            (subst (λ o. IsWrittenWhere (learnt_of h o) tells ready.journal after.journal m.written) (sym is)
            (subst (λ x. IsWrittenWhere (wanted_for x r) tells ready.journal after.journal m.written) (sym next) m.wrote))
            (subst (λ o. Comes later (Ok tt) (learns_in o h m.written ready.end)) (sym is)
            (subst (λ x. Comes later (Ok tt) (learns_by x m.written ready.end r)) (sym next) (moved_shown tells ready after (Ok tt) n r m refl))))

        pub learnt_unmoved : (fault : EndFault) → HasMoved tells ready after (Err fault) n r → after.end.changed ≡ None
            → IsCalled tells (afresh s) after (Err fault) (wanted_by_answer h key) (learn key h)
        unfolding wanted_by_answer
        learnt_unmoved fault m none =
            as_learnt after (Err fault)
            (behind_called tells (afresh s) ready after (Err fault) (wanted_by_answer h key) hears k m.written
            (subst (λ o. IsWrittenWhere (learnt_of h o) tells ready.journal after.journal m.written) (sym is)
            (subst (λ x. IsWrittenWhere (wanted_for x r) tells ready.journal after.journal m.written) (sym next) m.wrote))
            (subst (λ o. Comes after (Err fault) (learns_in o h m.written ready.end)) (sym is)
            (subst (λ x. Comes after (Err fault) (learns_by x m.written ready.end r)) (sym next)
            (unmoved_shown tells ready after (Ok tt) n r fault m none))))
