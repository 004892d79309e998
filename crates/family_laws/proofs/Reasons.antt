-- What stands behind the outcome of a family: in its completion, and in its history.
use Rattle.std.proofs.Common.{◌≡◌, ◌⊎◌, ◌&&◌, inl, inr, ℕ, List, [], ◌∷◌, ◌++◌, length, Bool, true, false, if◌then◌else◌, Option, Some, None, refl, ap, sym, subst, ◌∙◌}
use Rattle.ior_refs.specs.declared.key.ObjectKey.{ObjectKey}
use Rattle.ots_model.specs.Numbered.{Outcome}
use Rattle.ots_model.specs.declared.completion.CallNumber.{CallNumber}
use Rattle.ots_model.specs.declared.completion.Heard.{Heard as ParticipantHeard}
use Rattle.ots_model.specs.declared.completion.Heard.TheVariants as phase_hears
use Rattle.ots_model.specs.declared.completion.Outcome.TheVariants as outcomes
use Rattle.ots_model.specs.declared.completion.Reason.TheVariants as phase_reasons
use Rattle.ots_model.specs.declared.completion.Stood.{Stood}
use Rattle.ots_model.specs.declared.completion.Stood.TheVariants as answers
use Rattle.ots_model.specs.declared.completion.Vote.TheVariants.{VoteRollback}
use Rattle.ots_model.specs.declared.tree.Heard.{Heard}
use Rattle.ots_model.specs.declared.tree.Heard.TheVariants as hears
use Rattle.ots_model.specs.declared.tree.Reason.{Reason}
use Rattle.ots_model.specs.declared.tree.Reason.TheVariants as reasons
use Rattle.txn_tree.specs.Calls.{creating, created, is_marked as has_mark}
use Rattle.txn_tree.specs.Rows.{state}
use Rattle.txn_tree.specs.declared.row.Row.{Row}
use Rattle.txn_tree.specs.declared.row.TreeFault.{TreeFault}
use Rattle.resource_votes.specs.Ballots.{Ballots}
use Rattle.resource_votes.specs.declared.registration.VoteFault.{VoteFault}
use Rattle.two_phase.specs.Course.{Course, decides_alone}
use Rattle.two_phase.specs.LawsOfOutcomes.{HasAnswered, HasCause, OutcomesHaveCauses}
use Rattle.two_phase.specs.Stages as stages
use Rattle.two_phase.specs.Stages.{Standing, Waiting, Going as UnderWay}
use Rattle.two_phase.specs.declared.party.Party.{Party}
use Rattle.coordinator.specs.declared.call.Stage.{Stage}
use Rattle.coordinator.specs.declared.call.Stage.TheVariants.{Going, Finishing, Completing, Over}
use Rattle.coordinator.specs.declared.event.Act.{Act}
use Rattle.coordinator.specs.declared.event.Act.TheVariants as acts
use Rattle.coordinator.specs.declared.event.Event.{Event}
use Rattle.coordinator.specs.declared.phase.Column.{Column}
use Rattle.coordinator.specs.declared.phase.Column.TheVariants as columns
use Rattle.coordinator.specs.declared.phase.Phase.TheVariants as phases
use Rattle.coordinator.specs.declared.said.Entry.{Entry}
use Rattle.coordinator.specs.declared.said.Said.{Said}
use Rattle.coordinator.specs.declared.said.Said.TheVariants as said
use Rattle.coordinator.specs.Family.{Family}
use Rattle.coordinator.specs.Hearing.{is_plain, marks, reason_of}
use Rattle.coordinator.specs.History.{kept_for}
use Rattle.coordinator.specs.Laws.{IsThere}
use Rattle.coordinator.specs.Moves.{Moved, only}
use Rattle.coordinator.specs.Phases.{column, has_parent_ended, is_marked, is_open, phase, phase_by, top_column}
use Rattle.coordinator.specs.Table.{Acted, commits, commits_in, creates_by, creates_in, creates_subtransaction, gets_terminator, has_branch, has_terminator, marks_only, on_branch, on_terminator, registers, registers_aware, registers_resource, registers_synchronization, replays, rolls_back_asked, rolls_back_in, unless_orphan}
use Rattle.coordinator.specs.Step.{acted, acts_on, entered, entry_of, family_step, has_timed_out, is_over, is_silent, quiet, said_later, said_now, step_by, ticks, ticks_in, times_out}
use Rattle.family_laws.specs.Reasons.{Came, ComesFor, Fact, FamiliesHaveCauses, HasCome, HasEvent, HasEvents, IsAsked, IsFounded, IsHeard, IsMark, IsOf, IsOver, IsReread, Keeps, OutcomeIsCaused, StandsIn, dated}
use Rattle.family_laws.specs.Reasons.HasCome.{earlier, last}
use Rattle.family_laws.specs.Sound.{IsSoundFamily}
use Rattle.family_laws.proofs.Lists.{any_there}
use Rattle.family_laws.proofs.Steps.{IsUp, top_going}
use Rattle.family_laws.proofs.Tracing.{IsBrought, IsTraced, Traced, answered_traced, begins_commit_traced, either, itself, marks_traced, rereads_traced, rolls_back_top_traced, rolls_back_traced, still}

-- ---- an answer that isn't plain

refused : (deadline : Option ℕ) (e : Event) (stood : Option Stood) (n : CallNumber) (h : Heard) → e.act ≡ acts.Answer n h → is_plain h ≡ false → IsMark deadline e stood
refused deadline e stood n h is not_so = inr (inr (record { number = n; heard = h; answer = is; says = not_so }))

-- it is starved, or any other one
given : (deadline : Option ℕ) (e : Event) (stood : Option Stood) (n : CallNumber) (h : Heard) → e.act ≡ acts.Answer n h → (called : ℕ) → is_plain h ≡ false
    → ComesFor (reason_of called h) deadline e stood
given deadline e stood n (hears.Phase phase_hears.Done) is called not_so = absurd (cc not_so)
given deadline e stood n (hears.Phase (phase_hears.Voted vote)) is called not_so = record { number = n; heard = hears.Phase (phase_hears.Voted vote); answer = is; says = (not_so, refl) }
given deadline e stood n (hears.Phase (phase_hears.Heuristic d)) is called not_so = record { number = n; heard = hears.Phase (phase_hears.Heuristic d); answer = is; says = (not_so, refl) }
given deadline e stood n (hears.Phase phase_hears.RolledBack) is called not_so = record { number = n; heard = hears.Phase phase_hears.RolledBack; answer = is; says = (not_so, refl) }
given deadline e stood n (hears.Phase phase_hears.NotPrepared) is called not_so = record { number = n; heard = hears.Phase phase_hears.NotPrepared; answer = is; says = (not_so, refl) }
given deadline e stood n (hears.Phase phase_hears.NoObject) is called not_so = record { number = n; heard = hears.Phase phase_hears.NoObject; answer = is; says = (not_so, refl) }
given deadline e stood n (hears.Phase phase_hears.Other) is called not_so = record { number = n; heard = hears.Phase phase_hears.Other; answer = is; says = (not_so, refl) }
given deadline e stood n (hears.Phase phase_hears.Lost) is called not_so = record { number = n; heard = hears.Phase phase_hears.Lost; answer = is; says = (not_so, refl) }
given deadline e stood n (hears.Phase phase_hears.Starved) is called not_so = record { number = n; heard = hears.Phase phase_hears.Starved; answer = is; says = refl }
given deadline e stood n (hears.Told status) is called not_so = record { number = n; heard = hears.Told status; answer = is; says = (not_so, refl) }
given deadline e stood n (hears.Enlisted reference) is called not_so = record { number = n; heard = hears.Enlisted reference; answer = is; says = (not_so, refl) }

-- ---- a transaction that is marked

by_mark : (t : Bool) → top_column (if t then phases.Marked else phases.Active) ≡ columns.Marked → t ≡ true
by_mark true e = refl
by_mark false e = absurd (cc e)

top_marked : (f : Family) → column f 0 ≡ columns.Marked → is_marked f 0 ≡ true
unfolding column phase
top_marked f e =
    let going : f.stage ≡ Going = top_going f (subst IsUp (sym e) tt) in
    by_mark (is_marked f 0) (subst (λ (s : Stage). top_column (phase_by s f) ≡ columns.Marked) going e)

created_mark : (rs : List Row) (b : ℕ) → has_mark (state (created rs b) 0) ≡ true → has_mark (state rs 0) ≡ true
created_mark [] b e = absurd (cc e)
created_mark (x ∷ rs) b e = e

and_left : (a b : Bool) → (a && b) ≡ true → a ≡ true
and_left true b h = refl
and_left false b h = absurd (cc h)

-- ---- an act

module _ (f : Family) (e : Event) (stood : Option Stood) where
  abbrev R : Fact → Type 0
  R x = IsOf x f.deadline e stood

  abbrev M : Type 0
  M = IsMark f.deadline e stood

  abbrev Does : Acted → Type 0
  Does a = Traced R M f a.moved

  either_does : (t : Bool) (x y : Acted) → Does x → Does y → Does (if t then x else y)
  either_does true x y h k = h
  either_does false x y h k = k

  on_branch_does : (a : Acted) → Does a → Does (on_branch e.branch f a)
  on_branch_does a h = either_does (has_branch f e.branch) a _ h (itself R M f)

  on_terminator_does : (a : Acted) → Does a → Does (on_terminator e.branch f a)
  on_terminator_does a h = either_does (has_terminator f e.branch) a _ h (itself R M f)

  registers_does : (fault : Option VoteFault) (answer : Said) (later : Ballots) → Does (registers fault answer later f)
  registers_does None answer later = still R M f _ refl refl refl
  registers_does (Some fault) answer later = itself R M f

  creates_by_does : (fault : Option TreeFault) → Does (creates_by fault e.branch f)
  creates_by_does None = record { dated = refl; marks = λ x. inl (created_mark f.rows e.branch x); brought = λ r x. inl x }
  creates_by_does (Some fault) = itself R M f

  creates_in_does : (place : Column) → Does (creates_in place e.branch f)
  creates_in_does columns.Active = creates_by_does (creating f.rows e.branch)
  creates_in_does columns.Marked = itself R M f
  creates_in_does columns.Finishing = itself R M f
  creates_in_does columns.RolledBack = itself R M f
  creates_in_does columns.Past = itself R M f

  marks_only_does : e.act ≡ acts.RollbackOnly → Does (marks_only e.branch f)
  unfolding marks_only
  marks_only_does is = either_does (is_open (column f e.branch)) _ _ (marks_traced R M e.branch f (λ z. inl (is, z))) (itself R M f)

  unless_orphan_does : (m : Moved) → Traced R M f m → Does (unless_orphan e.branch f m)
  unless_orphan_does m h = either_does (has_parent_ended f e.branch) _ _ (itself R M f) h

  commits_in_does : (place : Column) → column f e.branch ≡ place → (position : ℕ) (asked : Bool) → Does (commits_in place e.branch position asked f)
  commits_in_does columns.Active is position asked = unless_orphan_does _ (begins_commit_traced R M e.branch position asked f)
  commits_in_does columns.Marked is position asked = unless_orphan_does _
      (rolls_back_traced R M e.branch reasons.Marked (Some position) said.TransactionRolledBack f
      (λ z. inr (inr (refl, inl (top_marked f (subst (λ (b : ℕ). column f b ≡ columns.Marked) z is))))))
  commits_in_does columns.Finishing is position asked = itself R M f
  commits_in_does columns.RolledBack is position asked = itself R M f
  commits_in_does columns.Past is position asked = itself R M f

  rolls_back_in_does : e.act ≡ acts.Rollback → (place : Column) (position : ℕ) → Does (rolls_back_in place e.branch position f)
  rolls_back_in_does is columns.Active position = rolls_back_traced R M e.branch reasons.Asked (Some position) said.Plain f (λ z. inr (inl (is, z)))
  rolls_back_in_does is columns.Marked position = rolls_back_traced R M e.branch reasons.Asked (Some position) said.Plain f (λ z. inr (inl (is, z)))
  rolls_back_in_does is columns.Finishing position = itself R M f
  rolls_back_in_does is columns.RolledBack position = itself R M f
  rolls_back_in_does is columns.Past position = itself R M f

  times_out_traced : e.act ≡ acts.Tick → is_over f.deadline e.now ≡ true → (stage : Stage) → Traced R M f (times_out stage f)
  times_out_traced is over Going = rolls_back_top_traced R M reasons.Timeout None said.Plain f (inr (inl (is, over)))
  times_out_traced is over Finishing = marks_traced R M 0 f (λ z. inr (inl (is, over)))
  times_out_traced is over Completing = marks_traced R M 0 f (λ z. inr (inl (is, over)))
  times_out_traced is over Over = marks_traced R M 0 f (λ z. inr (inl (is, over)))

  ticks_traced : e.act ≡ acts.Tick → Traced R M f (ticks e.now f)
  unfolding ticks has_timed_out
  ticks_traced is = go (is_over f.deadline e.now && ticks_in f.stage (is_marked f 0)) refl
    where
      go : (t : Bool) → (is_over f.deadline e.now && ticks_in f.stage (is_marked f 0)) ≡ t → Traced R M f (if t then times_out f.stage f else only f)
      go true x = times_out_traced is (and_left _ _ x) f.stage
      go false x = itself R M f

  by_act : (act : Act) → e.act ≡ act → IsTraced R M (dated act f.deadline) f (acts_on act e.branch e.now stood f).moved.family
  unfolding gets_terminator commits rolls_back_asked registers_resource registers_synchronization registers_aware creates_subtransaction replays
  by_act acts.GetTerminator is = on_branch_does _ (itself R M f)
  by_act acts.GetCoordinator is = on_branch_does _ (itself R M f)
  by_act (acts.Commit asked) is = on_terminator_does _ (commits_in_does (column f e.branch) refl (length f.entries) asked)
  by_act acts.Rollback is = on_terminator_does _ (rolls_back_in_does is (column f e.branch) (length f.entries))
  by_act acts.GetStatus is = itself R M f
  by_act acts.GetParentStatus is = itself R M f
  by_act acts.GetTopLevelStatus is = on_branch_does _ (itself R M f)
  by_act (acts.IsSameTransaction other) is = on_branch_does _ (itself R M f)
  by_act (acts.IsRelatedTransaction other) is = on_branch_does _ (itself R M f)
  by_act (acts.IsAncestorTransaction other) is = on_branch_does _ (itself R M f)
  by_act (acts.IsDescendantTransaction other) is = on_branch_does _ (itself R M f)
  by_act acts.IsTopLevelTransaction is = on_branch_does _ (itself R M f)
  by_act acts.HashTransaction is = on_branch_does _ (itself R M f)
  by_act acts.HashTopLevelTran is = on_branch_does _ (itself R M f)
  by_act (acts.RegisterResource to aware) is = on_branch_does _ (registers_does _ _ _)
  by_act (acts.RegisterSynchronization to) is = on_branch_does _ (registers_does _ _ _)
  by_act (acts.RegisterSubtranAware to) is = on_branch_does _ (registers_does _ _ _)
  by_act acts.RollbackOnly is = on_branch_does _ (marks_only_does is)
  by_act acts.GetTransactionName is = on_branch_does _ (itself R M f)
  by_act acts.CreateSubtransaction is = on_branch_does _ (creates_in_does (column f e.branch))
  by_act acts.GetTxcontext is = on_branch_does _ (itself R M f)
  by_act (acts.Replay g resource) is = itself R M f
  by_act (acts.Superior word) is = itself R M f
  by_act (acts.Answer n h) is = answered_traced R M n h stood f (refused f.deadline e stood n h is) (given f.deadline e stood n h is)
      (record { number = n; heard = h; answer = is; says = refl }) (λ answer x. x)
  by_act acts.Tick is = ticks_traced is
  by_act (acts.Reread stands) is = rereads_traced R M stood f ((stands, is), refl)
  by_act (acts.Opened moment) is = record { dated = refl; marks = λ x. inl x; brought = λ r x. inl x }

  -- ---- a step

  -- with the entry of its event a family is founded
  founded_by : (later : Family) (entry : Entry) → entry.event ≡ e → entry.stood ≡ stood → later.entries ≡ f.entries ++ entry ∷ [] → IsTraced R M (dated e.act f.deadline) f later
      → IsFounded f → IsFounded later
  founded_by later entry is so grown t h = record { marked = λ x. mark (t.marks x); kept = λ x k. bring x (t.brought x k) }
    where
      place : (P : Option ℕ → Event → Option Stood → Type 0) → HasCome P (dated entry.event.act f.deadline) (f.entries ++ entry ∷ []) → HasCome P later.deadline later.entries
      place P c = subst (λ (es : List Entry). HasCome P later.deadline es) (sym grown)
          (subst (λ (d : Option ℕ). HasCome P d (f.entries ++ entry ∷ [])) (ap (λ (x : Event). dated x.act f.deadline) is ∙ sym t.dated) c)

      stays : (P : Option ℕ → Event → Option Stood → Type 0) → HasCome P f.deadline f.entries → HasCome P later.deadline later.entries
      stays P c = place P (earlier f.deadline f.entries entry c)

      comes : (P : Option ℕ → Event → Option Stood → Type 0) → P f.deadline e stood → HasCome P later.deadline later.entries
      comes P k = place P (last f.deadline f.entries entry
          (subst (λ (x : Event). P f.deadline x entry.stood) (sym is) (subst (λ (x : Option Stood). P f.deadline e x) (sym so) k)))

      mark : (is_marked f 0 ≡ true) ⊎ M → Came (IsOver reasons.Marked) later
      mark (inl x) = stays (IsOf (IsOver reasons.Marked)) (h.marked x)
      mark (inr m) = comes (IsOf (IsOver reasons.Marked)) m

      bring : (x : Fact) → IsBrought R M f x → Came x later
      bring x (inl k) = stays (IsOf x) (h.kept x k)
      bring x (inr (inl k)) = comes (IsOf x) k
      bring x (inr (inr m)) = subst (λ (y : Fact). Came y later) (sym m.0) (mark m.1)

  entered_founded : (a : Acted) → IsTraced R M (dated e.act f.deadline) f a.moved.family → IsFounded f → IsFounded (entered f e stood a).family
  unfolding entered
  entered_founded a t h = founded_by (entered f e stood a).family (entry_of e stood (said_now (length f.entries) a.moved.finished a.said) (said_later (length f.entries) a.moved.finished)) refl refl refl (record { dated = t.dated; marks = t.marks; brought = t.brought }) h

  step_by_founded : (o : Option Said) → IsFounded f → IsFounded (step_by o f e stood).family
  unfolding acted
  step_by_founded (Some answer) h = h
  step_by_founded None h = go (is_silent e f)
    where
      go : (t : Bool) → IsFounded (if t then quiet said.Plain f else entered f e stood (acted e stood f)).family
      go true = h
      go false = entered_founded (acted e stood f) (by_act e.act refl) h

  step_founded : IsFounded f → IsFounded (family_step f e stood).family
  unfolding family_step
  step_founded h = step_by_founded (kept_for f.entries e.key) h

-- ---- the outcome

stands_in : OutcomesHaveCauses → (s : Standing) → IsThere s → (fixed : Outcome) → stages.outcome s ≡ Some fixed → StandsIn fixed s
stands_in law (Waiting room) there fixed e = absurd (cc e)
stands_in law (UnderWay c) there fixed e = law c fixed there e

-- who has answered so is among the participants
is_heard : (c : Course) (number : ℕ) (h : ParticipantHeard) → HasAnswered number h c → Keeps (UnderWay c) (IsHeard h)
is_heard c number h a = any_there (λ (p : Party). p.ballot ≡ Some h) c.parties a.place a.party a.there a.ballot

has_event : (f : Family) → ((x : Fact) → Keeps f.completion x → Came x f) → (s : Standing) → f.completion ≡ s → (reason : Reason) → StandsIn (outcomes.Rollback reason) s → HasEvent reason f
has_event f h (Waiting room) is reason x = absurd x
has_event f h (UnderWay c) is reason x = by_reason reason x
  where
    so : (y : Fact) → Keeps (UnderWay c) y → Came y f
    so y k = h y (subst (λ (s : Standing). Keeps s y) (sym is) k)

    by_vote : (number : ℕ) → HasAnswered number (phase_hears.Voted VoteRollback) c ⊎ ((decides_alone c ≡ true) × HasAnswered number phase_hears.RolledBack c)
        → Came (IsHeard (phase_hears.Voted VoteRollback)) f ⊎ Came (IsHeard phase_hears.RolledBack) f
    by_vote number (inl a) = inl (so (IsHeard (phase_hears.Voted VoteRollback)) (is_heard c number _ a))
    by_vote number (inr a) = inr (so (IsHeard phase_hears.RolledBack) (is_heard c number _ a.1))

    by_reason : (reason : Reason) → HasCause reason c → HasEvent reason f
    by_reason reasons.Asked x = so (IsOver reasons.Asked) x
    by_reason reasons.Marked x = so (IsOver reasons.Marked) x
    by_reason reasons.Timeout x = so (IsOver reasons.Timeout) x
    by_reason (reasons.SyncLost sync) x = so (IsOver (reasons.SyncLost sync)) x
    by_reason (reasons.SyncStarved sync) x = so (IsOver (reasons.SyncStarved sync)) x
    by_reason reasons.Superior x = so (IsOver reasons.Superior) x
    by_reason reasons.NotEnlisted x = so (IsOver reasons.NotEnlisted) x
    by_reason reasons.NotStored x = so (IsReread None) x.1
    by_reason (reasons.Phase (phase_reasons.Vote number)) x = by_vote number x
    by_reason (reasons.Phase (phase_reasons.PrepareLost number)) x = so (IsHeard phase_hears.Lost) (is_heard c number _ x)
    by_reason (reasons.Phase (phase_reasons.PrepareStarved number)) x = so (IsHeard phase_hears.Starved) (is_heard c number _ x)
    by_reason (reasons.Phase (phase_reasons.PrepareFault number)) x = (x.heard, x.fault, so (IsHeard x.heard) (is_heard c number _ x.answer))
    by_reason (reasons.Phase (phase_reasons.JournalFull used need)) x = so (IsAsked (answers.Full used need)) x

has_events : (f : Family) → IsFounded f → (fixed : Outcome) → StandsIn fixed f.completion → HasEvents fixed f
has_events f h (outcomes.Commit basis) x = tt
has_events f h (outcomes.Rollback reason) x = has_event f h.kept f.completion refl reason x
has_events f h outcomes.Unknown x = tt

outcome_caused : OutcomesHaveCauses → (f : Family) → IsSoundFamily f → IsFounded f → OutcomeIsCaused f
outcome_caused law f sound h fixed e =
    let x : StandsIn fixed f.completion = stands_in law f.completion sound.completion.there fixed e in
    (x, has_events f h fixed x)

pub families_have_causes : OutcomesHaveCauses → FamiliesHaveCauses
families_have_causes law = record {
  new = λ key deadline. record { marked = λ e. absurd (cc e); kept = λ x e. absurd e };
  steps = step_founded;
  caused = outcome_caused law;
}
