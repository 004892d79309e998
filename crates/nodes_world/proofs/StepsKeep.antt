-- What a step of a family keeps that answers no word, makes nothing and reads no journal: who is registered and who is listed, and how
-- far its completion is decided by a record.
use Rattle.std.proofs.Common.{◌≡◌, ◌==◌, ℕ, [], ◌∷◌, Bool, true, false, if◌then◌else◌, Option, Some, None, refl}
use Rattle.std.specs.List.{AllByRecursion}
use Rattle.ots_model.specs.declared.completion.Stood.{Stood}
use Rattle.ots_model.specs.declared.tree.Outward.{Outward}
use Rattle.ots_model.specs.declared.tree.Reason.{Reason}
use Rattle.ots_model.specs.declared.tree.Reason.TheVariants as reasons
use Rattle.txn_tree.specs.Calls.{ended, marked}
use Rattle.resource_votes.specs.declared.registration.Registration.{Registration}
use Rattle.coordinator.specs.declared.call.Stage.{Stage}
use Rattle.coordinator.specs.declared.call.Stage.TheVariants.{Going, Finishing, Completing, Over}
use Rattle.coordinator.specs.declared.effect.Effect.TheVariants as effects
use Rattle.coordinator.specs.declared.event.Act.{Act}
use Rattle.coordinator.specs.declared.event.Act.TheVariants as acts
use Rattle.coordinator.specs.declared.event.Event.{Event}
use Rattle.coordinator.specs.declared.phase.Column.{Column}
use Rattle.coordinator.specs.declared.phase.Column.TheVariants as columns
use Rattle.coordinator.specs.declared.said.Said.{Said}
use Rattle.coordinator.specs.declared.said.Said.TheVariants as said
use Rattle.coordinator.specs.Family.{Family, Commits, RollsBack}
use Rattle.coordinator.specs.Moves.{Moved, only, shows}
use Rattle.coordinator.specs.Closing.{begins, rolling_back}
use Rattle.coordinator.specs.Hearing.{is_markable, marks}
use Rattle.coordinator.specs.History.{kept_for, repeated}
use Rattle.coordinator.specs.Phases.{column, is_open, has_parent_ended}
use Rattle.coordinator.specs.Running.{runs}
use Rattle.coordinator.specs.Table.{Acted, new_call, on_branch, on_terminator, has_terminator, has_branch, gets_terminator, marks_only, rolls_back_top, rolls_back_sub, rolls_back, begins_commit, unless_orphan, commits_in, commits, rolls_back_in, rolls_back_asked, replays}
use Rattle.coordinator.specs.Step.{has_timed_out, times_out, ticks, acts_on, acted, is_silent, Stepped, quiet, entered, step_by, family_step}
use Rattle.family_laws.specs.LawsOfTelling.{rows_told}
use Rattle.family_laws.specs.Sound.{IsListed}
use Rattle.nodes_world.proofs.RulesKeep.{IsKept, IsPlainReason, IsRegisteredTo, IsTidy, Rule, either_keeps, only_keeps, rolls_keep, runs_keep, shows_keep, then_keeps}

-- ---- what begins

rolls_back_top_keep : (reason : Reason) (caller : Option ℕ) (answer : Said) (f : Family) → IsPlainReason reason → Rule f (rolls_back_top reason caller answer f)
unfolding rolls_back_top
rolls_back_top_keep reason caller answer f plain =
    then_keeps f (begins (rolling_back false reason f) f) (runs 0 (new_call caller (RollsBack answer))) (rolls_keep false reason f plain)
    (runs_keep 0 (new_call caller (RollsBack answer)) (begins (rolling_back false reason f) f).family (tt, tt))

rolls_back_sub_keep : (b : ℕ) (caller : Option ℕ) (answer : Said) (f : Family) → Rule f (rolls_back_sub b caller answer f)
unfolding rolls_back_sub
rolls_back_sub_keep b caller answer f =
    let g : Family = record f { rows = ended f.rows b false } in
    then_keeps f (shows (effects.SubtransactionEnded b false ∷ []) g) (runs b (new_call caller (RollsBack answer)))
    (shows_keep (effects.SubtransactionEnded b false) f g refl refl refl refl) (runs_keep b (new_call caller (RollsBack answer)) g (tt, tt))

rolls_back_keep : (b : ℕ) (reason : Reason) (caller : Option ℕ) (answer : Said) (f : Family) → IsPlainReason reason → Rule f (rolls_back b reason caller answer f)
rolls_back_keep b reason caller answer f plain =
    either_keeps f (b == 0) _ _ (rolls_back_top_keep reason caller answer f plain) (rolls_back_sub_keep b caller answer f)

begins_commit_keep : (b position : ℕ) (asked : Bool) (f : Family) → Rule f (begins_commit b position asked f)
unfolding begins_commit
begins_commit_keep b position asked f = by (b == 0)
  where
    by : (t : Bool) → Rule f (runs b (new_call (Some position) (Commits asked)) (if t then record f { stage = Finishing } else f))
    by true = runs_keep b (new_call (Some position) (Commits asked)) (record f { stage = Finishing }) (tt, tt)
    by false = runs_keep b (new_call (Some position) (Commits asked)) f (tt, tt)

pub marks_keep : (b : ℕ) (f : Family) → Rule f (marks b f)
unfolding marks
marks_keep b f = either_keeps f (is_markable f b) _ _ (shows_keep (effects.Marked b) f (record f { rows = marked f.rows b }) refl refl refl refl) (only_keeps f)

-- ---- acts

abbrev ActRule : Family → Acted → Type 0
ActRule f a = Rule f a.moved

either_act : (f : Family) (t : Bool) (x y : Acted) → ActRule f x → ActRule f y → ActRule f (if t then x else y)
either_act f true x y one other = one
either_act f false x y one other = other

on_branch_keeps : (b : ℕ) (f : Family) (a : Acted) → ActRule f a → ActRule f (on_branch b f a)
on_branch_keeps b f a rule = either_act f (has_branch f b) a _ rule (only_keeps f)

on_terminator_keeps : (b : ℕ) (f : Family) (a : Acted) → ActRule f a → ActRule f (on_terminator b f a)
on_terminator_keeps b f a rule = either_act f (has_terminator f b) a _ rule (only_keeps f)

unless_orphan_keeps : (b : ℕ) (f : Family) (m : Moved) → Rule f m → ActRule f (unless_orphan b f m)
unless_orphan_keeps b f m rule = either_act f (has_parent_ended f b) _ _ (only_keeps f) rule

commits_in_keep : (place : Column) (b position : ℕ) (asked : Bool) (f : Family) → ActRule f (commits_in place b position asked f)
commits_in_keep columns.Active b position asked f = unless_orphan_keeps b f _ (begins_commit_keep b position asked f)
commits_in_keep columns.Marked b position asked f = unless_orphan_keeps b f _ (rolls_back_keep b reasons.Marked (Some position) said.TransactionRolledBack f tt)
commits_in_keep columns.Finishing b position asked f = only_keeps f
commits_in_keep columns.RolledBack b position asked f = only_keeps f
commits_in_keep columns.Past b position asked f = only_keeps f

rolls_back_in_keep : (place : Column) (b position : ℕ) (f : Family) → ActRule f (rolls_back_in place b position f)
rolls_back_in_keep columns.Active b position f = rolls_back_keep b reasons.Asked (Some position) said.Plain f tt
rolls_back_in_keep columns.Marked b position f = rolls_back_keep b reasons.Asked (Some position) said.Plain f tt
rolls_back_in_keep columns.Finishing b position f = only_keeps f
rolls_back_in_keep columns.RolledBack b position f = only_keeps f
rolls_back_in_keep columns.Past b position f = only_keeps f

marks_only_keeps : (b : ℕ) (f : Family) → ActRule f (marks_only b f)
unfolding marks_only
marks_only_keeps b f = either_act f (is_open (column f b)) _ _ (marks_keep b f) (only_keeps f)

times_out_keeps : (stage : Stage) (f : Family) → Rule f (times_out stage f)
times_out_keeps Going f = rolls_back_top_keep reasons.Timeout None said.Plain f tt
times_out_keeps Finishing f = marks_keep 0 f
times_out_keeps Completing f = marks_keep 0 f
times_out_keeps Over f = marks_keep 0 f

ticks_keep : (now : ℕ) (f : Family) → Rule f (ticks now f)
unfolding ticks
ticks_keep now f = either_keeps f (has_timed_out f now) _ _ (times_out_keeps f.stage f) (only_keeps f)

opened_keeps : (deadline : Option ℕ) (f : Family) → Rule f (only (record f { deadline = deadline }))
opened_keeps deadline f = only_keeps (record f { deadline = deadline })

-- an act that makes no branch and no registration, hears no answer, and is told nothing of the journal
abbrev pub is_steady : Act → Bool
is_steady (acts.RegisterResource to aware) = false
is_steady (acts.RegisterSynchronization to) = false
is_steady (acts.RegisterSubtranAware to) = false
is_steady acts.CreateSubtransaction = false
is_steady (acts.Answer n h) = false
is_steady (acts.Reread stands) = false
is_steady _ = true

by_act : (act : Act) (b now : ℕ) (stood : Option Stood) (f : Family) → is_steady act ≡ true → ActRule f (acts_on act b now stood f)
unfolding gets_terminator commits rolls_back_asked replays
by_act acts.GetTerminator b now stood f is = on_branch_keeps b f _ (only_keeps f)
by_act acts.GetCoordinator b now stood f is = on_branch_keeps b f _ (only_keeps f)
by_act (acts.Commit asked) b now stood f is = on_terminator_keeps b f _ (commits_in_keep (column f b) b _ asked f)
by_act acts.Rollback b now stood f is = on_terminator_keeps b f _ (rolls_back_in_keep (column f b) b _ f)
by_act acts.GetStatus b now stood f is = only_keeps f
by_act acts.GetParentStatus b now stood f is = only_keeps f
by_act acts.GetTopLevelStatus b now stood f is = on_branch_keeps b f _ (only_keeps f)
by_act (acts.IsSameTransaction other) b now stood f is = on_branch_keeps b f _ (only_keeps f)
by_act (acts.IsRelatedTransaction other) b now stood f is = on_branch_keeps b f _ (only_keeps f)
by_act (acts.IsAncestorTransaction other) b now stood f is = on_branch_keeps b f _ (only_keeps f)
by_act (acts.IsDescendantTransaction other) b now stood f is = on_branch_keeps b f _ (only_keeps f)
by_act acts.IsTopLevelTransaction b now stood f is = on_branch_keeps b f _ (only_keeps f)
by_act acts.HashTransaction b now stood f is = on_branch_keeps b f _ (only_keeps f)
by_act acts.HashTopLevelTran b now stood f is = on_branch_keeps b f _ (only_keeps f)
by_act (acts.RegisterResource to aware) b now stood f is = absurd cc
by_act (acts.RegisterSynchronization to) b now stood f is = absurd cc
by_act (acts.RegisterSubtranAware to) b now stood f is = absurd cc
by_act acts.RollbackOnly b now stood f is = on_branch_keeps b f _ (marks_only_keeps b f)
by_act acts.GetTransactionName b now stood f is = on_branch_keeps b f _ (only_keeps f)
by_act acts.CreateSubtransaction b now stood f is = absurd cc
by_act acts.GetTxcontext b now stood f is = on_branch_keeps b f _ (only_keeps f)
by_act (acts.Replay g resource) b now stood f is = only_keeps f
by_act (acts.Superior word) b now stood f is = only_keeps f
by_act (acts.Answer n h) b now stood f is = absurd cc
by_act acts.Tick b now stood f is = ticks_keep now f
by_act (acts.Reread stands) b now stood f is = absurd cc
by_act (acts.Opened deadline) b now stood f is = opened_keeps deadline f

-- ---- a step

-- what it keeps
pub record StepKeeps (f : Family) (s : Stepped) : Type 0 where
  pub tidy : IsTidy s.family
  pub rows : s.family.rows ≡ rows_told s.effects f.rows
  pub registrations : s.family.ballots.registrations ≡ f.ballots.registrations
  pub on : (r : Registration) → IsListed f.ballots r → IsListed s.family.ballots r
  pub back : (r : Registration) → IsListed s.family.ballots r → IsListed f.ballots r
  pub words : AllByRecursion (λ (o : Outward). IsRegisteredTo f.ballots.registrations o.to) s.words
  pub kept : IsKept f.completion s.family.completion

pub quiet_keeps : (answer : Said) (f : Family) → IsTidy f → StepKeeps f (quiet answer f)
quiet_keeps answer f tidy =
    let x = only_keeps f tidy in
    record { tidy = x.tidy; rows = x.rows; registrations = x.registrations; on = x.on; back = x.back; words = x.words; kept = x.kept }

pub entered_keeps : (f : Family) (e : Event) (stood : Option Stood) (a : Acted) → ActRule f a → IsTidy f → StepKeeps f (entered f e stood a)
unfolding entered
entered_keeps f e stood a rule tidy =
    let x = rule tidy in
    record {
      tidy = x.tidy;
      rows = x.rows;
      registrations = x.registrations;
      on = x.on;
      back = x.back;
      words = x.words;
      kept = x.kept;
    }

either_step : (f : Family) (t : Bool) (x y : Stepped) → StepKeeps f x → StepKeeps f y → StepKeeps f (if t then x else y)
either_step f true x y one other = one
either_step f false x y one other = other

step_by_keeps : (o : Option Said) (f : Family) (e : Event) (stood : Option Stood) → is_steady e.act ≡ true → IsTidy f → StepKeeps f (step_by o f e stood)
unfolding acted
step_by_keeps (Some answer) f e stood steady tidy = quiet_keeps (repeated answer) f tidy
step_by_keeps None f e stood steady tidy =
    either_step f (is_silent e f) _ _ (quiet_keeps said.Plain f tidy)
    (entered_keeps f e stood (acted e stood f) (by_act e.act e.branch e.now stood f steady) tidy)

pub step_keeps : (f : Family) (e : Event) (stood : Option Stood) → is_steady e.act ≡ true → IsTidy f → StepKeeps f (family_step f e stood)
unfolding family_step
step_keeps f e stood steady tidy = step_by_keeps (kept_for f.entries e.key) f e stood steady tidy
