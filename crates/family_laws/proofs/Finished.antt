-- A finished family that was decided by a record stays finished, and asks the journal for nothing more.
use Rattle.std.proofs.Common.{◌≡◌, ◌&&◌, inl, inr, ℕ, zero, suc, List, [], ◌∷◌, position, get_or, Bool, true, false, if◌then◌else◌, Option, Some, None, is_some, is_none, refl, ap, sym, subst, ◌∙◌}
use Rattle.std.proofs.lemmas.List.Folds.{list_all_at}
use Rattle.std.proofs.lemmas.List.Quantifiers.{position-Some}
use Rattle.std.specs.List.{list_all, slice_get}
use Rattle.std.specs.Option.{option_and_then}
use Rattle.ots_model.specs.declared.completion.CallNumber.{CallNumber}
use Rattle.ots_model.specs.declared.completion.Stood.{Stood}
use Rattle.txn_tree.specs.declared.row.Row.{Row}
use Rattle.resource_votes.specs.Ballots.{Ballots}
use Rattle.resource_votes.specs.declared.registration.VoteFault.{VoteFault}
use Rattle.two_phase.specs.Course as course
use Rattle.two_phase.specs.Stages as stages
use Rattle.two_phase.specs.Stages.{Standing, Waiting, Going as UnderWay}
use Rattle.coordinator.specs.declared.call.Stage.{Stage}
use Rattle.coordinator.specs.declared.call.Stage.TheVariants.{Going, Finishing, Completing, Over}
use Rattle.coordinator.specs.declared.event.Act.{Act}
use Rattle.coordinator.specs.declared.event.Act.TheVariants as acts
use Rattle.coordinator.specs.declared.event.Event.{Event}
use Rattle.coordinator.specs.declared.phase.Column.{Column}
use Rattle.coordinator.specs.declared.phase.Column.TheVariants as columns
use Rattle.coordinator.specs.declared.said.Said.{Said}
use Rattle.coordinator.specs.declared.said.Said.TheVariants as said
use Rattle.coordinator.specs.Family.{Family, Call, call_at, has_out, is_own_number, waiting_for}
use Rattle.coordinator.specs.Moves.{Moved, only, completes_as}
use Rattle.coordinator.specs.Running.{runs_call, goes_on}
use Rattle.coordinator.specs.Hearing.{is_markable, marks, wants_done}
use Rattle.coordinator.specs.History.{kept_for}
use Rattle.coordinator.specs.Phases.{column, is_open}
use Rattle.coordinator.specs.Table.{Acted, does, says, has_branch, has_terminator, on_branch, on_terminator, registers, creates_in, marks_only, commits_in, rolls_back_in, registers_resource, registers_aware, registers_synchronization, gets_terminator, commits, rolls_back_asked, creates_subtransaction, replays}
use Rattle.coordinator.specs.Step.{Stepped, hears, has_timed_out, times_out, ticks, found_at, rereads, acts_on, acted, is_silent_act, quiet, entered, step_by, family_step, is_ended, is_finished, WritesDone, wanted}
use Rattle.family_laws.specs.OwnDecisions.{IsUnclosed}
use Rattle.family_laws.specs.Sound.{NoneLive, IsSoundCompletion, IsSoundFamily}
use Rattle.family_laws.proofs.Answered.{orderly}
use Rattle.family_laws.proofs.Closing.{IsDoneWanted, done_by}
use Rattle.family_laws.proofs.Journal.{both_left, both_right, IsWantedBy, wanted_is}
use Rattle.family_laws.proofs.Places.{hears_still}
use Rattle.family_laws.proofs.Steps.{IsUp, top_going, sub_live}
use Rattle.family_laws.proofs.Sweeping.{positive}
use Rattle.family_laws.proofs.Trees.{same_or_not}

-- ---- no call is under way

none_at : (calls : List (Option Call)) → list_all is_none calls ≡ true → (b : ℕ) → option_and_then (λ (c : Option Call). c) (slice_get calls b) ≡ None
none_at [] h b = refl
none_at (None ∷ calls) h zero = refl
none_at (Some c ∷ calls) h b = absurd (cc h)
none_at (None ∷ calls) h (suc b) = none_at calls h b

none_waits : (serial : ℕ) (calls : List (Option Call)) → list_all is_none calls ≡ true → position (has_out serial) calls ≡ None
none_waits serial calls h = go (position (has_out serial) calls) refl
  where
    some_call : (o : Option Call) → has_out serial o ≡ true → is_none o ≡ false
    some_call None e = absurd (cc e)
    some_call (Some c) e = refl

    go : (o : Option ℕ) → position (has_out serial) calls ≡ o → o ≡ None
    go None e = refl
    go (Some i) e =
        let at = position-Some (has_out serial) calls i None e in
        absurd (cc (sym h ∙ list_all_at is_none calls i None at.0 (some_call (get_or calls i None) at.1)))

-- it is over, and no call is under way
pub record HasEnded (f : Family) : Type 0 where
  pub over : f.stage ≡ Over
  pub none : list_all is_none f.calls ≡ true

pub has_ended : (f : Family) → is_finished f ≡ true → HasEnded f
unfolding is_finished
has_ended f h = record { over = ended f.stage (both_left (is_ended f.stage) (list_all is_none f.calls) h); none = both_right (is_ended f.stage) (list_all is_none f.calls) h }
  where
    ended : (s : Stage) → is_ended s ≡ true → s ≡ Over
    ended Going e = absurd (cc e)
    ended Finishing e = absurd (cc e)
    ended Completing e = absurd (cc e)
    ended Over e = refl

finished_by : (f : Family) → f.stage ≡ Over → list_all is_none f.calls ≡ true → is_finished f ≡ true
unfolding is_finished
finished_by f over none = ap (λ (s : Stage). is_ended s && list_all is_none f.calls) over ∙ none

nobody_waits : (f : Family) (n : CallNumber) → HasEnded f → waiting_for f n ≡ None
unfolding waiting_for
nobody_waits f n h = go (is_own_number f n)
  where
    go : (t : Bool) → (if t then position (has_out n.serial) f.calls else None) ≡ None
    go true = none_waits n.serial f.calls h.none
    go false = refl

-- ---- and none begins

none_live : (stage : Stage) (rs : List Row) (some : Ballots) (s : Standing) (p : ℕ) → IsSoundCompletion stage rs some s → stages.record_place s ≡ Some p → NoneLive rs
none_live stage rs some (Waiting room) p h at = absurd (cc at)
none_live stage rs some (UnderWay c) p h at = h.asking (go c.overtaken refl)
  where
    no_place : (o : Option Stood) (r : Option (Option ℕ)) → o ≡ None → course.record_place o r ≡ Some p → ⊥
    no_place None r e i = absurd (cc i)
    no_place (Some x) r e i = absurd (cc e)

    go : (o : Option _) → c.overtaken ≡ o → c.overtaken ≡ None
    go None e = e
    go (Some reason) e = absurd (no_place c.stood c.reread ((orderly c h.there).overtaken reason e) at)

not_up : (f : Family) → f.stage ≡ Over → NoneLive f.rows → (b : ℕ) → IsUp (column f b) → ⊥
not_up f over none b up =
    elim (same_or_not b 0) [
      | inl z ↦ cc (sym over ∙ top_going f (rw z at up))
      | inr n ↦ none b (positive b n) (sub_live f b n up)
    ]

-- ---- an act leaves it so

record Ends (m : Moved) : Type 0 where
  stage : m.family.stage ≡ Over
  calls : list_all is_none m.family.calls ≡ true

record ActEnds (a : Acted) : Type 0 where
  stage : a.moved.family.stage ≡ Over
  calls : list_all is_none a.moved.family.calls ≡ true

record StepEnds (s : Stepped) : Type 0 where
  stage : s.family.stage ≡ Over
  calls : list_all is_none s.family.calls ≡ true

either_ends : (t : Bool) (x y : Moved) → Ends x → Ends y → Ends (if t then x else y)
either_ends true x y h k = h
either_ends false x y h k = k

either_acted : (t : Bool) (x y : Acted) → ActEnds x → ActEnds y → ActEnds (if t then x else y)
either_acted true x y h k = h
either_acted false x y h k = k

does_ends : (answer : Said) (m : Moved) → Ends m → ActEnds (does answer m)
does_ends answer m h = record { stage = h.stage; calls = h.calls }

module _ (f : Family) (h : HasEnded f) where
  only_ends : Ends (only f)
  only_ends = record { stage = h.over; calls = h.none }

  says_ends : (answer : Said) → ActEnds (says answer f)
  says_ends answer = record { stage = h.over; calls = h.none }

  marks_ends : (b : ℕ) → Ends (marks b f)
  unfolding marks
  marks_ends b = either_ends (is_markable f b) _ _ (record { stage = h.over; calls = h.none }) only_ends

  times_out_ends : (s : Stage) → s ≡ Over → Ends (times_out s f)
  times_out_ends Going e = absurd (cc e)
  times_out_ends Finishing e = absurd (cc e)
  times_out_ends Completing e = absurd (cc e)
  times_out_ends Over e = marks_ends 0

  ticks_ends : (now : ℕ) → Ends (ticks now f)
  unfolding ticks
  ticks_ends now = either_ends (has_timed_out f now) _ _ (times_out_ends f.stage h.over) only_ends

  registers_ends : (fault : Option VoteFault) (answer : Said) (later : Ballots) → ActEnds (registers fault answer later f)
  registers_ends None answer later = record { stage = h.over; calls = h.none }
  registers_ends (Some fault) answer later = says_ends _

  marks_only_ends : (b : ℕ) → ActEnds (marks_only b f)
  unfolding marks_only
  marks_only_ends b = either_acted (is_open (column f b)) _ _ (does_ends _ _ (marks_ends b)) (says_ends _)

  goes_on_ends : Ends (goes_on 0 f)
  unfolding goes_on
  goes_on_ends = go (call_at f 0) (none_at f.calls h.none 0)
    where
      go : (o : Option Call) → o ≡ None → Ends (runs_call o 0 f)
      go None e = only_ends
      go (Some c) e = absurd (cc e)

reread_ends : (f : Family) (later : Standing) → HasEnded f → HasEnded (completes_as later f).family
unfolding completes_as
reread_ends f later h = record { over = h.over; none = h.none }

rereads_ends : (stood : Option Stood) (f : Family) → HasEnded f → Ends (rereads stood f)
unfolding rereads
rereads_ends stood f h =
    let g : Family = (completes_as (stages.after_reread (found_at stood) f.completion) f).family in
    let last = goes_on_ends g (reread_ends f (stages.after_reread (found_at stood) f.completion) h) in
    record { stage = last.stage; calls = last.calls }

module _ (f : Family) (h : HasEnded f) (never : (b : ℕ) → IsUp (column f b) → ⊥) where
  commits_ends : (place : Column) (b position : ℕ) (asked : Bool) → column f b ≡ place → ActEnds (commits_in place b position asked f)
  commits_ends columns.Active b position asked e = absurd (never b (subst IsUp (sym e) tt))
  commits_ends columns.Marked b position asked e = absurd (never b (subst IsUp (sym e) tt))
  commits_ends columns.Finishing b position asked e = says_ends f h _
  commits_ends columns.RolledBack b position asked e = says_ends f h _
  commits_ends columns.Past b position asked e = says_ends f h _

  rolls_back_ends : (place : Column) (b position : ℕ) → column f b ≡ place → ActEnds (rolls_back_in place b position f)
  rolls_back_ends columns.Active b position e = absurd (never b (subst IsUp (sym e) tt))
  rolls_back_ends columns.Marked b position e = absurd (never b (subst IsUp (sym e) tt))
  rolls_back_ends columns.Finishing b position e = says_ends f h _
  rolls_back_ends columns.RolledBack b position e = says_ends f h _
  rolls_back_ends columns.Past b position e = says_ends f h _

  creates_ends : (place : Column) (b : ℕ) → column f b ≡ place → ActEnds (creates_in place b f)
  creates_ends columns.Active b e = absurd (never b (subst IsUp (sym e) tt))
  creates_ends columns.Marked b e = says_ends f h _
  creates_ends columns.Finishing b e = says_ends f h _
  creates_ends columns.RolledBack b e = says_ends f h _
  creates_ends columns.Past b e = says_ends f h _

  on_branch_ends : (b : ℕ) (a : Acted) → ActEnds a → ActEnds (on_branch b f a)
  on_branch_ends b a k = either_acted (has_branch f b) a _ k (says_ends f h _)

  on_terminator_ends : (b : ℕ) (a : Acted) → ActEnds a → ActEnds (on_terminator b f a)
  on_terminator_ends b a k = either_acted (has_terminator f b) a _ k (says_ends f h _)

  module _ (e : Event) (stood : Option Stood) (waits : (n : CallNumber) → waiting_for f n ≡ None) where
    quiet_ends : (answer : Said) → StepEnds (quiet answer f)
    quiet_ends answer = record { stage = h.over; calls = h.none }

    enters : (a : Acted) → ActEnds a → StepEnds (entered f e stood a)
    unfolding entered
    enters a k = record { stage = k.stage; calls = k.calls }

    either_step : (t : Bool) (x y : Stepped) → StepEnds x → StepEnds y → StepEnds (if t then x else y)
    either_step true x y k l = k
    either_step false x y k l = l

    says_so : (answer : Said) → ActEnds (on_branch e.branch f (says answer f))
    says_so answer = on_branch_ends e.branch (says answer f) (says_ends f h answer)

    by_act : (act : Act) → StepEnds (if is_silent_act act e.now f then quiet said.Plain f else entered f e stood (acts_on act e.branch e.now stood f))
    unfolding gets_terminator commits rolls_back_asked registers_resource registers_synchronization registers_aware creates_subtransaction replays
    by_act acts.GetTerminator = enters _ (says_so _)
    by_act acts.GetCoordinator = enters _ (says_so _)
    by_act (acts.Commit asked) = enters _ (on_terminator_ends e.branch _ (commits_ends (column f e.branch) e.branch _ asked refl))
    by_act acts.Rollback = enters _ (on_terminator_ends e.branch _ (rolls_back_ends (column f e.branch) e.branch _ refl))
    by_act acts.GetStatus = enters _ (says_ends f h _)
    by_act acts.GetParentStatus = enters _ (says_ends f h _)
    by_act acts.GetTopLevelStatus = enters _ (says_so _)
    by_act (acts.IsSameTransaction other) = enters _ (says_so _)
    by_act (acts.IsRelatedTransaction other) = enters _ (says_so _)
    by_act (acts.IsAncestorTransaction other) = enters _ (says_so _)
    by_act (acts.IsDescendantTransaction other) = enters _ (says_so _)
    by_act acts.IsTopLevelTransaction = enters _ (says_so _)
    by_act acts.HashTransaction = enters _ (says_so _)
    by_act acts.HashTopLevelTran = enters _ (says_so _)
    by_act (acts.RegisterResource to aware) = enters _ (on_branch_ends e.branch _ (registers_ends f h _ _ _))
    by_act (acts.RegisterSynchronization to) = enters _ (on_branch_ends e.branch _ (registers_ends f h _ _ _))
    by_act (acts.RegisterSubtranAware to) = enters _ (on_branch_ends e.branch _ (registers_ends f h _ _ _))
    by_act acts.RollbackOnly = enters _ (on_branch_ends e.branch _ (marks_only_ends f h e.branch))
    by_act acts.GetTransactionName = enters _ (says_so _)
    by_act acts.CreateSubtransaction = enters _ (on_branch_ends e.branch _ (creates_ends (column f e.branch) e.branch refl))
    by_act acts.GetTxcontext = enters _ (says_so _)
    by_act (acts.Replay g resource) = enters _ (says_ends f h _)
    by_act (acts.Superior word) = enters _ (says_ends f h _)
    by_act (acts.Answer n heard) = go (waiting_for f n) (waits n)
      where
        go : (o : Option ℕ) → o ≡ None → StepEnds (if is_none o then quiet said.Plain f else entered f e stood (acts_on (acts.Answer n heard) e.branch e.now stood f))
        go None i = quiet_ends said.Plain
        go (Some b) i = absurd (cc i)
    by_act acts.Tick = either_step (is_silent_act acts.Tick e.now f) _ _ (quiet_ends said.Plain) (enters _ (does_ends said.Plain _ (ticks_ends f h e.now)))
    by_act (acts.Reread stands) = enters _ (does_ends said.Plain _ (rereads_ends stood f h))
    by_act (acts.Opened deadline) = enters _ (record { stage = h.over; calls = h.none })

    step_ends : StepEnds (family_step f e stood)
    unfolding family_step acted
    step_ends = by_kept (kept_for f.entries e.key)
      where
        by_kept : (o : Option Said) → StepEnds (step_by o f e stood)
        by_kept (Some answer) = quiet_ends _
        by_kept None = by_act e.act

-- ---- it stays finished

pub stays_finished : (f : Family) (e : Event) (stood : Option Stood) (p : ℕ) → IsSoundFamily f → stages.record_place f.completion ≡ Some p → is_finished f ≡ true
    → is_finished (family_step f e stood).family ≡ true
stays_finished f e stood p sound at h =
    let ended = has_ended f h in
    let later = step_ends f ended (not_up f ended.over (none_live f.stage f.rows f.ballots f.completion p sound.completion at)) e stood (λ n. nobody_waits f n ended) in
    finished_by (family_step f e stood).family later.stage later.calls

-- so one that is not, was not
pub was_open : (f : Family) (e : Event) (stood : Option Stood) (p : ℕ) → IsSoundFamily f → stages.record_place f.completion ≡ Some p → is_finished (family_step f e stood).family ≡ false
    → is_finished f ≡ false
was_open f e stood p sound at h = go (is_finished f) refl
  where
    go : (t : Bool) → is_finished f ≡ t → t ≡ false
    go true i = absurd (cc (sym (stays_finished f e stood p sound at i) ∙ h))
    go false i = refl

-- ---- a Done is asked for before

nothing : {A : Type 0} (o : Option A) → is_none o ≡ true → o ≡ None
nothing None h = refl
nothing (Some x) h = absurd (cc h)

unclosed : (g : Family) → wants_done g ≡ true → g.closed ≡ None
unfolding wants_done
unclosed g h = nothing g.closed (both_left (is_none g.closed) _ (both_left (is_none g.closed && is_some (stages.record_place g.completion)) _
    (both_left (is_none g.closed && is_some (stages.record_place g.completion) && is_none (stages.next_word g.completion)) (stages.is_settled g.completion) h)))

pub done_open : (f : Family) (e : Event) (place : ℕ) → wanted f e ≡ Some (WritesDone place) → IsUnclosed f place
done_open f e place w =
    let x : IsWantedBy f e (WritesDone place) = wanted_is f e (WritesDone place) tt w in
    let d : IsDoneWanted (hears x.number x.heard f).family place = done_by (hears x.number x.heard f).family place x.by in
    let still = hears_still x.number x.heard f in
    record {
      decided = sym still.1 ∙ d.at;
      unasked = sym still.0 ∙ unclosed (hears x.number x.heard f).family d.wanted_now;
      going = by_end (is_finished f) refl x.number x.waited;
    }
  where
    by_end : (t : Bool) → is_finished f ≡ t → (n : CallNumber) → is_some (waiting_for f n) ≡ true → t ≡ false
    by_end true i n waited = absurd (cc (sym (ap (λ (o : Option ℕ). is_some o) (nobody_waits f n (has_ended f i))) ∙ waited))
    by_end false i n waited = refl
