-- What the journal answers, or a reread finds, makes of where the record of a family stands, and of its Done.
use Rattle.std.proofs.Common.{◌≡◌, ◌&&◌, ℕ, List, Bool, true, false, if◌then◌else◌, Option, Some, None, is_some, is_none, refl, ap, sym, subst, ◌∙◌}
use Rattle.std.specs.Option.{option_map}
use Rattle.ots_model.specs.declared.completion.CallNumber.{CallNumber}
use Rattle.ots_model.specs.declared.completion.Stood.{Stood}
use Rattle.ots_model.specs.declared.completion.Stood.TheVariants as answers
use Rattle.ots_model.specs.declared.service.Status.TheVariants as status
use Rattle.ots_model.specs.declared.tree.Heard.{Heard}
use Rattle.ots_model.specs.declared.tree.Reason.{Reason}
use Rattle.two_phase.specs.Course.{same_number}
use Rattle.decision_journal.specs.declared.record.JournalRecord.{JournalRecord}
use Rattle.two_phase.specs.Course as course
use Rattle.two_phase.specs.Course.{Course}
use Rattle.two_phase.specs.LawsOfReached.{IsReached, TreeBecomes, TreeOutcomeStays}
use Rattle.two_phase.specs.LawsOfReached.IsReached.{begins, rolls_back, goes_on as reached_on}
use Rattle.two_phase.specs.LawsOfReached.TreeBecomes.{by_word, by_answer, by_record, by_reread, by_rollback}
use Rattle.two_phase.specs.Stages as stages
use Rattle.two_phase.specs.Stages.{Standing, Waiting, Going as UnderWay}
use Rattle.two_phase.specs.declared.party.Errand.{Errand}
use Rattle.coordinator.specs.declared.event.Act.{Act}
use Rattle.coordinator.specs.declared.event.Act.TheVariants as acts
use Rattle.coordinator.specs.declared.event.Event.{Event}
use Rattle.coordinator.specs.declared.said.Said.{Said}
use Rattle.coordinator.specs.declared.said.Said.TheVariants as said
use Rattle.coordinator.specs.Family.{Family, waiting_for}
use Rattle.coordinator.specs.Laws.{IsThere}
use Rattle.coordinator.specs.Moves.{Moved, only, completes_as}
use Rattle.coordinator.specs.Hearing.{decision_record, wants_done, decided, closes, settles}
use Rattle.coordinator.specs.History.{kept_for}
use Rattle.coordinator.specs.Phases.{column}
use Rattle.coordinator.specs.Table.{Acted, does, says, on_branch, on_terminator, registers_resource, registers_aware, registers_synchronization, gets_terminator, commits, rolls_back_asked, creates_subtransaction, replays}
use Rattle.coordinator.specs.Step.{Stepped, hears, goes_on_at, answered, ticks, found_at, rereads, acts_on, acted, is_silent_act, quiet, entered, step_by, family_step, Wanted, Appends, WritesDone, Rereads, wanted_act, wanted, wanted_by}
use Rattle.family_laws.proofs.Journal.{agrees, both_left, both_right}
use Rattle.family_laws.proofs.Telling.{either_course}
use Rattle.family_laws.proofs.Places.{Still, goes_on_still, goes_on_at_still, hears_still, commits_in_still, rolls_back_in_still, registers_still, marks_only_still, ticks_still, creates_in_still, on_branch_still, on_terminator_still, doubts_by_still}
use Rattle.family_laws.proofs.Votes.{hears_is}

-- ---- completions that there are

-- one that was rolled back from outside has not asked the journal, and only one that has asked it reads again
pub record IsOrderly (c : Course) : Type 0 where
  pub reread : c.stood ≡ None → c.reread ≡ None
  pub overtaken : (reason : Reason) → c.overtaken ≡ Some reason → c.stood ≡ None

unsure_stood : (o : Option Stood) → course.is_unsure o ≡ true → o ≡ None → ⊥
unsure_stood None h e = absurd (cc h)
unsure_stood (Some x) h e = absurd (cc e)

is_nothing : {A : Type 0} (o : Option A) → is_none o ≡ true → o ≡ None
is_nothing None h = refl
is_nothing (Some x) h = absurd (cc h)

step_orderly : (c later : Course) → TreeBecomes c later → IsOrderly c → IsOrderly later
step_orderly _ _ (by_word c) h = either_course IsOrderly (is_some c.out) c (record c { out = course.errand c }) h (record { reread = h.reread; overtaken = h.overtaken })
step_orderly _ _ (by_answer c number heard) h = go c.out
  where
    test : (e : Errand) (t : Bool) → IsOrderly (if t then course.answered heard c e else c)
    test e true = record { reread = h.reread; overtaken = h.overtaken }
    test e false = h

    go : (o : Option Errand) → IsOrderly (elim o [ Some e ↦ if same_number number c.number then course.answered heard c e else c | None ↦ c ])
    go (Some e) = test e (same_number number c.number)
    go None = h
step_orderly _ _ (by_record c stood) h = go (course.wants_decision c) refl
  where
    go : (t : Bool) → course.wants_decision c ≡ t → IsOrderly (if t then record c { stood = Some stood } else c)
    go true e = record { reread = λ none. absurd (cc none); overtaken = λ reason over. absurd (cc (sym over ∙ (agrees c e).overtaken)) }
    go false e = h
step_orderly _ _ (by_reread c found) h = go (course.is_doubtful c) refl
  where
    go : (t : Bool) → course.is_doubtful c ≡ t → IsOrderly (if t then record c { reread = Some found } else c)
    go true e = record { reread = λ none. absurd (unsure_stood c.stood (both_left (course.is_unsure c.stood) (is_none c.reread) e) none); overtaken = h.overtaken }
    go false e = h
step_orderly _ _ (by_rollback c reason) h = go (course.is_outside reason && course.may_roll_back c) refl
  where
    open_first : course.may_roll_back c ≡ true → c.stood ≡ None
    open_first e = is_nothing c.stood
        (both_right (is_none (course.outcome c)) (is_none c.stood) (both_left (is_none (course.outcome c) && is_none c.stood) _ e))

    go : (t : Bool) → (course.is_outside reason && course.may_roll_back c) ≡ t → IsOrderly (if t then record c { overtaken = Some reason; out = None; number = course.overtaken_number c } else c)
    go true e = record { reread = h.reread; overtaken = λ r over. open_first (both_right (course.is_outside reason) (course.may_roll_back c) e) }
    go false e = h

pub orderly : (c : Course) → IsReached c → IsOrderly c
orderly _ (begins some asked first one) = record { reread = λ none. refl; overtaken = λ reason over. refl }
orderly _ (rolls_back some asked first one reason) = record { reread = λ none. refl; overtaken = λ r over. refl }
orderly _ (reached_on c later r b) = step_orderly c later b (orderly c r)

-- ---- where a record stands then

-- it stood there before, or was appended there, or is found there again
pub data Comes (was : Option ℕ) (w : Option Wanted) (stood : Option Stood) (place : ℕ) : Type 0 where
  before : was ≡ Some place → Comes was w stood place
  appended : (item : JournalRecord) → w ≡ Some (Appends item) → stood ≡ Some (answers.Stands place) → Comes was w stood place
  again : w ≡ Some Rereads → stood ≡ Some (answers.Stands place) → Comes was w stood place

pub record IsAnswered (was : Option ℕ) (closed : Option Stood) (w : Option Wanted) (stood : Option Stood) (now : Option ℕ) (later : Option Stood) : Type 0 where
  pub place : (p : ℕ) → now ≡ Some p → Comes was w stood p
  pub unasked : later ≡ None → closed ≡ None
  pub done : (q : ℕ) (x : Stood) → w ≡ Some (WritesDone q) → stood ≡ Some x → later ≡ Some x

abbrev pub Answers : Family → Option Wanted → Option Stood → Family → Type 0
Answers f w stood g = IsAnswered (stages.record_place f.completion) f.closed w stood (stages.record_place g.completion) g.closed

no_done : {w : Wanted} → ((q : ℕ) → w ≡ WritesDone q → ⊥) → (q : ℕ) → Some w ≡ Some (WritesDone q) → ⊥
no_done other q e = other q (cc e)

-- where the journal is asked for nothing
still_answers : (f : Family) (stood : Option Stood) (m : Moved) → Still f m → Answers f None stood m.family
still_answers f stood m h = record {
  place = λ p e. before (sym h.1 ∙ e);
  unasked = λ e. sym h.0 ∙ e;
  done = λ q x a b. absurd (cc a);
}

-- between two parts that leave it as it is
carried : (f g k j : Family) (w : Option Wanted) (stood : Option Stood) → (g.closed ≡ f.closed) × (stages.record_place g.completion ≡ stages.record_place f.completion) → Answers g w stood k
    → (j.closed ≡ k.closed) × (stages.record_place j.completion ≡ stages.record_place k.completion) → Answers f w stood j
carried f g k j w stood first h last = record {
  place = λ p e. subst (λ (o : Option ℕ). Comes o w stood p) first.1 (h.place p (sym last.1 ∙ e));
  unasked = λ e. sym first.0 ∙ h.unasked (sym last.0 ∙ e);
  done = λ q x a b. last.0 ∙ h.done q x a b;
}

-- the journal was asked for the decision
decided_stands : (s : Standing) (x : Stood) (p : ℕ) → IsThere s → stages.wants_decision s ≡ true → stages.record_place (stages.after_decided x s) ≡ Some p → Some x ≡ Some (answers.Stands p)
decided_stands (Waiting room) x p there h e = absurd (cc h)
decided_stands (UnderWay c) x p there h e =
    go x (sym (ap (λ (t : Bool). stages.record_place (UnderWay (if t then record c { stood = Some x } else c))) h) ∙ e)
  where
    unread : c.reread ≡ None
    unread = (orderly c there).reread (agrees c h).stood

    go : (y : Stood) → course.record_place (Some y) c.reread ≡ Some p → Some y ≡ Some (answers.Stands p)
    go (answers.Stands q) i = ap (λ (k : ℕ). Some (answers.Stands k)) (same i)
      where
        same : Some q ≡ Some p → q ≡ p
        same j = cc j
    go (answers.Full used need) i = absurd (cc i)
    go (answers.Unsure why) i = absurd (none (sym (ap (λ (r : Option (Option ℕ)). course.record_place (Some (answers.Unsure why)) r) unread) ∙ i))
      where
        none : ◌≡◌ {A = Option ℕ} None (Some p) → ⊥
        none j = cc j

settled_answers : (g : Family) (stood : Option Stood) → IsThere g.completion → Answers g (wanted_by g) stood (settles stood g).family
unfolding settles decided completes_as closes
settled_answers g None there = record { place = λ p e. before e; unasked = λ e. e; done = λ q x a b. absurd (cc b) }
settled_answers g (Some x) there = by_decision (stages.wants_decision g.completion) refl
  where
    decides : stages.wants_decision g.completion ≡ true → Answers g (Some (Appends (decision_record g))) (Some x) (decided x g).family
    decides h =
        let last = doubts_by_still x (completes_as (stages.after_decided x g.completion) g).family in
        record {
          place = λ p e. appended (decision_record g) refl (decided_stands g.completion x p there h (sym last.1 ∙ e));
          unasked = λ e. sym last.0 ∙ e;
          done = λ q y a b. absurd (cc a);
        }

    closing : Answers g (option_map WritesDone (stages.record_place g.completion)) (Some x) (closes x g).family
    closing = record { place = λ p e. before e; unasked = λ e. absurd (cc e); done = λ q y a b. b }

    by_done : (t : Bool) → Answers g (if t then option_map WritesDone (stages.record_place g.completion) else None) (Some x) (if t then closes x g else only g).family
    by_done true = closing
    by_done false = still_answers g (Some x) (only g) (refl, refl)

    by_decision : (t : Bool) → stages.wants_decision g.completion ≡ t
        → Answers g (if t then Some (Appends (decision_record g)) else if wants_done g then option_map WritesDone (stages.record_place g.completion) else None) (Some x)
        (if t then decided x g else if wants_done g then closes x g else only g).family
    by_decision true h = decides h
    by_decision false h = by_done (wants_done g)

answer_answers : TreeOutcomeStays → (f : Family) (n : CallNumber) (h : Heard) (stood : Option Stood) → IsThere f.completion → Answers f (wanted_by (hears n h f).family) stood (answered n h stood f).family
unfolding answered
answer_answers law f n h stood there =
    let g : Family = (hears n h f).family in
    let k : Family = (settles stood g).family in
    carried f g k (goes_on_at (waiting_for f n) k).family (wanted_by g) stood (hears_still n h f)
    (settled_answers g stood ((hears_is n h f).told.outcomes law there).0.there) (goes_on_at_still (waiting_for f n) k)

-- it was read again
reread_stands : (s : Standing) (stood : Option Stood) (p : ℕ) → stages.record_place (stages.after_reread (found_at stood) s) ≡ Some p
    → Comes (stages.record_place s) (Some Rereads) stood p
reread_stands (Waiting room) stood p e = before e
reread_stands (UnderWay c) stood p e = go (course.is_doubtful c) refl e
  where
    found : (o : Option Stood) → found_at o ≡ Some p → o ≡ Some (answers.Stands p)
    found (Some (answers.Stands q)) i = ap (λ (k : ℕ). Some (answers.Stands k)) (same i)
      where
        same : Some q ≡ Some p → q ≡ p
        same j = cc j
    found (Some (answers.Full used need)) i = absurd (cc i)
    found (Some (answers.Unsure why)) i = absurd (cc i)
    found None i = absurd (cc i)

    doubtful : (o : Option Stood) → course.is_unsure o ≡ true → course.record_place o (Some (found_at stood)) ≡ Some p → found_at stood ≡ Some p
    doubtful None h i = absurd (cc h)
    doubtful (Some (answers.Stands q)) h i = absurd (cc h)
    doubtful (Some (answers.Full used need)) h i = absurd (cc h)
    doubtful (Some (answers.Unsure why)) h i = i

    go : (t : Bool) → course.is_doubtful c ≡ t → stages.record_place (UnderWay (if t then record c { reread = Some (found_at stood) } else c)) ≡ Some p
        → Comes (stages.record_place (UnderWay c)) (Some Rereads) stood p
    go true h i = again refl (found stood (doubtful c.stood (both_left (course.is_unsure c.stood) (is_none c.reread) h) i))
    go false h i = before i

reread_answers : (f : Family) (stood : Option Stood) → Answers f (Some Rereads) stood (rereads stood f).family
unfolding rereads completes_as
reread_answers f stood =
    let last = goes_on_still 0 (completes_as (stages.after_reread (found_at stood) f.completion) f).family in
    record {
      place = λ p e. reread_stands f.completion stood p (sym last.1 ∙ e);
      unasked = λ e. sym last.0 ∙ e;
      done = λ q x a b. absurd (cc a);
    }

-- ---- a step

record ActStays (f : Family) (a : Acted) : Type 0 where
  still : Still f a.moved

record StepAnswers (f : Family) (w : Option Wanted) (stood : Option Stood) (s : Stepped) : Type 0 where
  so : Answers f w stood s.family

module _ (law : TreeOutcomeStays) (f : Family) (e : Event) (stood : Option Stood) (there : IsThere f.completion) where
  says_stays : (answer : Said) → ActStays f (says answer f)
  says_stays answer = record { still = (refl, refl) }

  on_branch_stays : (a : Acted) → ActStays f a → ActStays f (on_branch e.branch f a)
  on_branch_stays a k = record { still = on_branch_still e.branch f a k.still }

  on_terminator_stays : (a : Acted) → ActStays f a → ActStays f (on_terminator e.branch f a)
  on_terminator_stays a k = record { still = on_terminator_still e.branch f a k.still }

  commits_stays : (position : ℕ) (asked : Bool) → ActStays f (commits e.branch position asked f)
  unfolding commits
  commits_stays position asked = record { still = commits_in_still (column f e.branch) e.branch position asked f }

  rolls_back_stays : (position : ℕ) → ActStays f (rolls_back_asked e.branch position f)
  unfolding rolls_back_asked
  rolls_back_stays position = record { still = rolls_back_in_still (column f e.branch) e.branch position f }

  resource_stays : (to : List ℕ) (aware : Bool) → ActStays f (registers_resource e.branch to aware f)
  unfolding registers_resource
  resource_stays to aware = record { still = registers_still _ _ _ f }

  synchronization_stays : (to : List ℕ) → ActStays f (registers_synchronization e.branch to f)
  unfolding registers_synchronization
  synchronization_stays to = record { still = registers_still _ _ _ f }

  aware_stays : (to : List ℕ) → ActStays f (registers_aware e.branch to f)
  unfolding registers_aware
  aware_stays to = record { still = registers_still _ _ _ f }

  creates_stays : ActStays f (creates_subtransaction e.branch f)
  unfolding creates_subtransaction
  creates_stays = record { still = creates_in_still (column f e.branch) e.branch f }

  quiet_answers : (answer : Said) → StepAnswers f None stood (quiet answer f)
  quiet_answers answer = record { so = still_answers f stood (only f) (refl, refl) }

  enters : (a : Acted) → ActStays f a → StepAnswers f None stood (entered f e stood a)
  unfolding entered
  enters a k = record { so = still_answers f stood a.moved k.still }

  enters_with : (w : Option Wanted) (a : Acted) → Answers f w stood a.moved.family → StepAnswers f w stood (entered f e stood a)
  unfolding entered
  enters_with w a k = record { so = k }

  either_step : (t : Bool) (x y : Stepped) → StepAnswers f None stood x → StepAnswers f None stood y → StepAnswers f None stood (if t then x else y)
  either_step true x y k l = k
  either_step false x y k l = l

  by_act : (act : Act) → StepAnswers f (wanted_act act f) stood (if is_silent_act act e.now f then quiet said.Plain f else entered f e stood (acts_on act e.branch e.now stood f))
  unfolding gets_terminator replays
  by_act acts.GetTerminator = enters _ (on_branch_stays _ (says_stays _))
  by_act acts.GetCoordinator = enters _ (on_branch_stays _ (says_stays _))
  by_act (acts.Commit asked) = enters _ (on_terminator_stays _ (commits_stays _ asked))
  by_act acts.Rollback = enters _ (on_terminator_stays _ (rolls_back_stays _))
  by_act acts.GetStatus = enters _ (says_stays _)
  by_act acts.GetParentStatus = enters _ (says_stays _)
  by_act acts.GetTopLevelStatus = enters _ (on_branch_stays _ (says_stays _))
  by_act (acts.IsSameTransaction other) = enters _ (on_branch_stays _ (says_stays _))
  by_act (acts.IsRelatedTransaction other) = enters _ (on_branch_stays _ (says_stays _))
  by_act (acts.IsAncestorTransaction other) = enters _ (on_branch_stays _ (says_stays _))
  by_act (acts.IsDescendantTransaction other) = enters _ (on_branch_stays _ (says_stays _))
  by_act acts.IsTopLevelTransaction = enters _ (on_branch_stays _ (says_stays _))
  by_act acts.HashTransaction = enters _ (on_branch_stays _ (says_stays _))
  by_act acts.HashTopLevelTran = enters _ (on_branch_stays _ (says_stays _))
  by_act (acts.RegisterResource to aware) = enters _ (on_branch_stays _ (resource_stays _ aware))
  by_act (acts.RegisterSynchronization to) = enters _ (on_branch_stays _ (synchronization_stays _))
  by_act (acts.RegisterSubtranAware to) = enters _ (on_branch_stays _ (aware_stays _))
  by_act acts.RollbackOnly = enters _ (on_branch_stays _ (record { still = marks_only_still e.branch f }))
  by_act acts.GetTransactionName = enters _ (on_branch_stays _ (says_stays _))
  by_act acts.CreateSubtransaction = enters _ (on_branch_stays _ creates_stays)
  by_act acts.GetTxcontext = enters _ (on_branch_stays _ (says_stays _))
  by_act (acts.Replay g resource) = enters _ (says_stays _)
  by_act (acts.Superior word) = enters _ (says_stays _)
  by_act (acts.Answer n h) = by_waiting (waiting_for f n)
    where
      by_waiting : (o : Option ℕ) → StepAnswers f (if is_some o then wanted_by (hears n h f).family else None) stood
          (if is_none o then quiet said.Plain f else entered f e stood (acts_on (acts.Answer n h) e.branch e.now stood f))
      by_waiting None = quiet_answers said.Plain
      by_waiting (Some b) = enters_with (wanted_by (hears n h f).family) (acts_on (acts.Answer n h) e.branch e.now stood f) (answer_answers law f n h stood there)
  by_act acts.Tick = either_step (is_silent_act acts.Tick e.now f) _ _ (quiet_answers said.Plain) (enters (does said.Plain (ticks e.now f)) (record { still = ticks_still e.now f }))
  by_act (acts.Reread stands) = enters_with (Some Rereads) (does said.Plain (rereads stood f)) (reread_answers f stood)
  by_act (acts.Opened deadline) = enters (says (said.State status.Active) (record f { deadline = deadline })) (record { still = (refl, refl) })

  by_kept : (o : Option Said) → StepAnswers f (if is_some o then None else wanted_act e.act f) stood (step_by o f e stood)
  unfolding acted
  by_kept (Some answer) = quiet_answers _
  by_kept None = by_act e.act

  step_so : StepAnswers f (wanted f e) stood (family_step f e stood)
  unfolding family_step wanted
  step_so = by_kept (kept_for f.entries e.key)

  pub step_answers : Answers f (wanted f e) stood (family_step f e stood).family
  step_answers = step_so.so
