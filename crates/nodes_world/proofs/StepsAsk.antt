-- For which words the call of the top-level transaction waits at the decision, once a step of the family has come.
use Rattle.std.proofs.Common.{◌≡◌, ◌⊎◌, ◌==◌, ◌&&◌, ◌||◌, inl, inr, ℕ, zero, suc, List, [], ◌∷◌, ◌++◌, slice_set, Bool, true, false, is_none, if◌then◌else◌, Option, Some, None, refl, ap, sym, subst, ◌∙◌, arith}
use Rattle.std.specs.Option.{option_and_then}
use Rattle.ots_model.specs.Heard.{of_participant}
use Rattle.ots_model.specs.declared.completion.CallNumber.{CallNumber}
use Rattle.ots_model.specs.declared.completion.Doubted.{Doubted}
use Rattle.ots_model.specs.declared.completion.Heard.{Heard as ParticipantHeard}
use Rattle.ots_model.specs.declared.completion.Stood.{Stood}
use Rattle.ots_model.specs.declared.completion.Stood.TheVariants as answers
use Rattle.ots_model.specs.declared.tree.Heard.{Heard}
use Rattle.ots_model.specs.declared.tree.Outward.{Outward}
use Rattle.ots_model.specs.declared.tree.Reason.{Reason}
use Rattle.ots_model.specs.declared.tree.Reason.TheVariants as reasons
use Rattle.resource_votes.specs.Ballots.{Ballots}
use Rattle.resource_votes.specs.declared.registration.VoteFault.{VoteFault}
use Rattle.txn_tree.specs.declared.row.TreeFault.{TreeFault}
use Rattle.txn_tree.specs.Calls.{creating, ended, marked}
use Rattle.txn_tree.specs.Rows.{parent}
use Rattle.two_phase.specs.Course as course
use Rattle.two_phase.specs.Course.{Course}
use Rattle.two_phase.specs.Stages as stages
use Rattle.two_phase.specs.Stages.{Standing, Waiting, Going as UnderWay}
use Rattle.two_phase.specs.declared.party.Errand.{Errand}
use Rattle.coordinator.specs.declared.call.Leg.{Leg}
use Rattle.coordinator.specs.declared.call.Leg.TheVariants.{Below, Own, Before, Deciding, After}
use Rattle.coordinator.specs.declared.call.Stage.{Stage}
use Rattle.coordinator.specs.declared.call.Stage.TheVariants.{Going, Finishing, Completing, Over}
use Rattle.coordinator.specs.declared.effect.Effect.TheVariants as effects
use Rattle.coordinator.specs.declared.event.Act.{Act}
use Rattle.coordinator.specs.declared.event.Act.TheVariants as acts
use Rattle.coordinator.specs.declared.event.Event.{Event}
use Rattle.coordinator.specs.declared.phase.Column.{Column}
use Rattle.coordinator.specs.declared.phase.Column.TheVariants as columns
use Rattle.coordinator.specs.declared.said.Said.{Said}
use Rattle.coordinator.specs.declared.said.Said.TheVariants as said
use Rattle.coordinator.specs.Family.{Family, Aim, Call, Commits, RollsBack, call_at, waiting_for, with_call}
use Rattle.coordinator.specs.Closing.{begins, rolling_back}
use Rattle.coordinator.specs.Hearing.{answers_doubt, closes, decided, done_effects, doubts_by, hears_at, inner_number, is_markable, is_plain, marks, marks_parent, settles, told, told_commit, told_end, told_participant, vote_effects, wants_done}
use Rattle.coordinator.specs.History.{kept_for, repeated}
use Rattle.coordinator.specs.Moves.{Moved, only, ◌▹◌, shows, completes_as}
use Rattle.coordinator.specs.Phases.{column, is_open, has_parent_ended}
use Rattle.coordinator.specs.Running.{runs}
use Rattle.coordinator.specs.Table.{Acted, new_call, on_branch, on_terminator, has_terminator, has_branch, creates_by, creates_in, creates_subtransaction, gets_terminator, marks_only, registers, registers_aware, registers_resource, registers_synchronization, with_sub, rolls_back_top, rolls_back_sub, rolls_back, begins_commit, unless_orphan, commits_in, commits, rolls_back_in, rolls_back_asked, replays}
use Rattle.coordinator.specs.Step.{has_timed_out, times_out, ticks, acts_on, acted, answered, goes_on_at, hears, hears_call, hears_for, is_silent, Stepped, quiet, entered, step_by, family_step}
use Rattle.family_laws.specs.Sound.{called}
use Rattle.nodes_world.specs.AgreementInside.{AreReady, Awaited, IsBare, IsNotBefore, IsWithin, decides_out, notice_at, notice_out}
use Rattle.nodes_world.specs.Deliveries.{answer_event, heard_in}
use Rattle.nodes_world.proofs.RulesAsk.{AskRule, HasWord, IsIdle, completes_ask, either_asks, goes_on_ask, only_asks, rolls_ask, runs_ask, same_asks, set_asks, shows_ask, then_asks}
use Rattle.nodes_world.proofs.RulesKeep.{called_set}
use Rattle.nodes_world.proofs.StepsKeep.{is_steady}

-- what a step leaves
pub record StepAsks (f : Family) (s : Stepped) : Type 0 where
  pub ready : AreReady s.family.serial s.family.calls
  pub out : (number : ℕ) (n : Awaited) → decides_out (called s.family.calls 0) ≡ Some number → notice_out s.family.completion ≡ Some n
      → ((decides_out (called f.calls 0) ≡ Some number) × (notice_out f.completion ≡ Some n)) ⊎ HasWord s.words number n

-- ---- what begins

new_idle : (caller : Option ℕ) (aim : Aim) → IsIdle (new_call caller aim)
new_idle caller aim = record { out = refl; bare = tt }

rolls_back_top_ask : (reason : Reason) (caller : Option ℕ) (answer : Said) (f : Family) → AskRule f (rolls_back_top reason caller answer f)
unfolding rolls_back_top
rolls_back_top_ask reason caller answer f =
    then_asks f (begins (rolling_back false reason f) f) (runs 0 (new_call caller (RollsBack answer))) (rolls_ask false reason f)
    (runs_ask 0 (new_call caller (RollsBack answer)) (begins (rolling_back false reason f) f).family (new_idle caller (RollsBack answer)))

rolls_back_sub_ask : (b : ℕ) (caller : Option ℕ) (answer : Said) (f : Family) → AskRule f (rolls_back_sub b caller answer f)
unfolding rolls_back_sub
rolls_back_sub_ask b caller answer f =
    let g : Family = record f { rows = ended f.rows b false } in
    then_asks f (shows (effects.SubtransactionEnded b false ∷ []) g) (runs b (new_call caller (RollsBack answer)))
    (shows_ask (effects.SubtransactionEnded b false) f g refl refl refl) (runs_ask b (new_call caller (RollsBack answer)) g (new_idle caller (RollsBack answer)))

rolls_back_ask : (b : ℕ) (reason : Reason) (caller : Option ℕ) (answer : Said) (f : Family) → AskRule f (rolls_back b reason caller answer f)
rolls_back_ask b reason caller answer f = either_asks f (b == 0) _ _ (rolls_back_top_ask reason caller answer f) (rolls_back_sub_ask b caller answer f)

begins_commit_ask : (b position : ℕ) (asked : Bool) (f : Family) → AskRule f (begins_commit b position asked f)
unfolding begins_commit
begins_commit_ask b position asked f = by (b == 0)
  where
    by : (t : Bool) → AskRule f (runs b (new_call (Some position) (Commits asked)) (if t then record f { stage = Finishing } else f))
    by true = runs_ask b (new_call (Some position) (Commits asked)) (record f { stage = Finishing }) (new_idle (Some position) (Commits asked))
    by false = runs_ask b (new_call (Some position) (Commits asked)) f (new_idle (Some position) (Commits asked))

marks_ask : (b : ℕ) (f : Family) → AskRule f (marks b f)
unfolding marks
marks_ask b f = either_asks f (is_markable f b) _ _ (shows_ask (effects.Marked b) f (record f { rows = marked f.rows b }) refl refl refl) (only_asks f)

-- ---- acts

abbrev ActAsks : Family → Acted → Type 0
ActAsks f a = AskRule f a.moved

either_act : (f : Family) (t : Bool) (x y : Acted) → ActAsks f x → ActAsks f y → ActAsks f (if t then x else y)
either_act f true x y one other = one
either_act f false x y one other = other

on_branch_ask : (b : ℕ) (f : Family) (a : Acted) → ActAsks f a → ActAsks f (on_branch b f a)
on_branch_ask b f a rule = either_act f (has_branch f b) a _ rule (only_asks f)

on_terminator_ask : (b : ℕ) (f : Family) (a : Acted) → ActAsks f a → ActAsks f (on_terminator b f a)
on_terminator_ask b f a rule = either_act f (has_terminator f b) a _ rule (only_asks f)

unless_orphan_ask : (b : ℕ) (f : Family) (m : Moved) → AskRule f m → ActAsks f (unless_orphan b f m)
unless_orphan_ask b f m rule = either_act f (has_parent_ended f b) _ _ (only_asks f) rule

commits_in_ask : (place : Column) (b position : ℕ) (asked : Bool) (f : Family) → ActAsks f (commits_in place b position asked f)
commits_in_ask columns.Active b position asked f = unless_orphan_ask b f _ (begins_commit_ask b position asked f)
commits_in_ask columns.Marked b position asked f = unless_orphan_ask b f _ (rolls_back_ask b reasons.Marked (Some position) said.TransactionRolledBack f)
commits_in_ask columns.Finishing b position asked f = only_asks f
commits_in_ask columns.RolledBack b position asked f = only_asks f
commits_in_ask columns.Past b position asked f = only_asks f

rolls_back_in_ask : (place : Column) (b position : ℕ) (f : Family) → ActAsks f (rolls_back_in place b position f)
rolls_back_in_ask columns.Active b position f = rolls_back_ask b reasons.Asked (Some position) said.Plain f
rolls_back_in_ask columns.Marked b position f = rolls_back_ask b reasons.Asked (Some position) said.Plain f
rolls_back_in_ask columns.Finishing b position f = only_asks f
rolls_back_in_ask columns.RolledBack b position f = only_asks f
rolls_back_in_ask columns.Past b position f = only_asks f

marks_only_ask : (b : ℕ) (f : Family) → ActAsks f (marks_only b f)
unfolding marks_only
marks_only_ask b f = either_act f (is_open (column f b)) _ _ (marks_ask b f) (only_asks f)

times_out_ask : (stage : Stage) (f : Family) → AskRule f (times_out stage f)
times_out_ask Going f = rolls_back_top_ask reasons.Timeout None said.Plain f
times_out_ask Finishing f = marks_ask 0 f
times_out_ask Completing f = marks_ask 0 f
times_out_ask Over f = marks_ask 0 f

ticks_ask : (now : ℕ) (f : Family) → AskRule f (ticks now f)
unfolding ticks
ticks_ask now f = either_asks f (has_timed_out f now) _ _ (times_out_ask f.stage f) (only_asks f)

registers_ask : (o : Option VoteFault) (answer : Said) (later : Ballots) (f : Family) → ActAsks f (registers o answer later f)
registers_ask (Some fault) answer later f = only_asks f
registers_ask None answer later f = only_asks (record f { ballots = later })

called_more : (calls : List (Option Call)) (b : ℕ) (c : Call) → called (calls ++ None ∷ []) b ≡ Some c → called calls b ≡ Some c
called_more [] zero c is = is
called_more [] (suc b) c is = is
called_more (x ∷ calls) zero c is = is
called_more (x ∷ calls) (suc b) c is = called_more calls b c is

-- no call on a new branch is under way
pub first_call : (calls : List (Option Call)) → decides_out (called (calls ++ None ∷ []) 0) ≡ decides_out (called calls 0)
first_call [] = refl
first_call (x ∷ calls) = refl

with_sub_ask : (b : ℕ) (f : Family) → AskRule f (only (with_sub b f))
with_sub_ask b f ready = record {
  ready = λ d c is. ready d c (called_more f.calls d c is);
  grows = omega arith;
  out = λ number n waits asks. inl (sym (first_call f.calls) ∙ waits, asks);
}

creates_by_ask : (o : Option TreeFault) (b : ℕ) (f : Family) → ActAsks f (creates_by o b f)
creates_by_ask (Some fault) b f = only_asks f
creates_by_ask None b f = with_sub_ask b f

creates_in_ask : (place : Column) (b : ℕ) (f : Family) → ActAsks f (creates_in place b f)
creates_in_ask columns.Active b f = creates_by_ask (creating f.rows b) b f
creates_in_ask columns.Marked b f = only_asks f
creates_in_ask columns.Finishing b f = only_asks f
creates_in_ask columns.RolledBack b f = only_asks f
creates_in_ask columns.Past b f = only_asks f

-- an act that hears no answer, and is told nothing of the journal
abbrev pub is_called : Act → Bool
is_called (acts.Answer n h) = false
is_called (acts.Reread stands) = false
is_called _ = true

pub steady_called : (act : Act) → is_steady act ≡ true → is_called act ≡ true
steady_called (acts.RegisterResource to aware) steady = refl
steady_called (acts.RegisterSynchronization to) steady = refl
steady_called (acts.RegisterSubtranAware to) steady = refl
steady_called acts.CreateSubtransaction steady = refl
steady_called (acts.Answer n h) steady = absurd cc
steady_called (acts.Reread stands) steady = absurd cc
steady_called _ steady = refl

by_act : (act : Act) (b now : ℕ) (stood : Option Stood) (f : Family) → is_called act ≡ true → ActAsks f (acts_on act b now stood f)
unfolding gets_terminator commits rolls_back_asked replays registers_resource registers_synchronization registers_aware creates_subtransaction
by_act acts.GetTerminator b now stood f is = on_branch_ask b f _ (only_asks f)
by_act acts.GetCoordinator b now stood f is = on_branch_ask b f _ (only_asks f)
by_act (acts.Commit asked) b now stood f is = on_terminator_ask b f _ (commits_in_ask (column f b) b _ asked f)
by_act acts.Rollback b now stood f is = on_terminator_ask b f _ (rolls_back_in_ask (column f b) b _ f)
by_act acts.GetStatus b now stood f is = only_asks f
by_act acts.GetParentStatus b now stood f is = only_asks f
by_act acts.GetTopLevelStatus b now stood f is = on_branch_ask b f _ (only_asks f)
by_act (acts.IsSameTransaction other) b now stood f is = on_branch_ask b f _ (only_asks f)
by_act (acts.IsRelatedTransaction other) b now stood f is = on_branch_ask b f _ (only_asks f)
by_act (acts.IsAncestorTransaction other) b now stood f is = on_branch_ask b f _ (only_asks f)
by_act (acts.IsDescendantTransaction other) b now stood f is = on_branch_ask b f _ (only_asks f)
by_act acts.IsTopLevelTransaction b now stood f is = on_branch_ask b f _ (only_asks f)
by_act acts.HashTransaction b now stood f is = on_branch_ask b f _ (only_asks f)
by_act acts.HashTopLevelTran b now stood f is = on_branch_ask b f _ (only_asks f)
by_act (acts.RegisterResource to aware) b now stood f is = on_branch_ask b f _ (registers_ask _ _ _ f)
by_act (acts.RegisterSynchronization to) b now stood f is = on_branch_ask b f _ (registers_ask _ _ _ f)
by_act (acts.RegisterSubtranAware to) b now stood f is = on_branch_ask b f _ (registers_ask _ _ _ f)
by_act acts.RollbackOnly b now stood f is = on_branch_ask b f _ (marks_only_ask b f)
by_act acts.GetTransactionName b now stood f is = on_branch_ask b f _ (only_asks f)
by_act acts.CreateSubtransaction b now stood f is = on_branch_ask b f _ (creates_in_ask (column f b) b f)
by_act acts.GetTxcontext b now stood f is = on_branch_ask b f _ (only_asks f)
by_act (acts.Replay g resource) b now stood f is = only_asks f
by_act (acts.Superior word) b now stood f is = only_asks f
by_act (acts.Answer n h) b now stood f is = absurd cc
by_act acts.Tick b now stood f is = ticks_ask now f
by_act (acts.Reread stands) b now stood f is = absurd cc
by_act (acts.Opened deadline) b now stood f is = only_asks (record f { deadline = deadline })

-- ---- a step of one of these acts

quiet_asks : (answer : Said) (f : Family) → AreReady f.serial f.calls → StepAsks f (quiet answer f)
quiet_asks answer f ready = record { ready = ready; out = λ number n waits asks. inl (waits, asks) }

entered_asks : (f : Family) (e : Event) (stood : Option Stood) (a : Acted) → ActAsks f a → AreReady f.serial f.calls → StepAsks f (entered f e stood a)
unfolding entered
entered_asks f e stood a rule ready = let x = rule ready in record { ready = x.ready; out = x.out }

either_step : (f : Family) (t : Bool) (x y : Stepped) → StepAsks f x → StepAsks f y → StepAsks f (if t then x else y)
either_step f true x y one other = one
either_step f false x y one other = other

step_by_asks : (o : Option Said) (f : Family) (e : Event) (stood : Option Stood) → is_called e.act ≡ true → AreReady f.serial f.calls → StepAsks f (step_by o f e stood)
unfolding acted
step_by_asks (Some answer) f e stood is ready = quiet_asks (repeated answer) f ready
step_by_asks None f e stood is ready =
    either_step f (is_silent e f) _ _ (quiet_asks said.Plain f ready)
    (entered_asks f e stood (acted e stood f) (by_act e.act e.branch e.now stood f is) ready)

pub called_asks : (f : Family) (e : Event) (stood : Option Stood) → is_called e.act ≡ true → AreReady f.serial f.calls → StepAsks f (family_step f e stood)
unfolding family_step
called_asks f e stood is ready = step_by_asks (kept_for f.entries e.key) f e stood is ready

-- ---- an answer is heard

-- for its own number a completion has no word out then
own_number : (n : CallNumber) → (n.life == n.life && n.slot == n.slot && n.generation == n.generation && n.serial == n.serial) ≡ true
own_number n = all (n.life == n.life) (n.slot == n.slot) (n.generation == n.generation) (n.serial == n.serial) (itself n.life) (itself n.slot) (itself n.generation) (itself n.serial)
  where
    itself : (x : ℕ) → (x == x) ≡ true
    itself x = grind arith

    all : (a b c d : Bool) → a ≡ true → b ≡ true → c ≡ true → d ≡ true → (a && b && c && d) ≡ true
    all a b c d e f g h = rw (e, f, g, h) refl

pub heard_quiet : (h : ParticipantHeard) (f : Family) (n : CallNumber) (s : Standing) → notice_out (stages.after_answer (inner_number f s n) h s) ≡ None
heard_quiet h f n (Waiting room) = refl
heard_quiet h f n (UnderWay k) = by k.out refl
  where
    own : (e : Errand) (t : Bool) → t ≡ true → notice_out (UnderWay (if t then course.answered h k e else k)) ≡ None
    own e true is = refl
    own e false is = absurd cc

    by : (o : Option Errand) → k.out ≡ o
        → notice_out (UnderWay (elim o as (λ _. Course) [ Some e ↦ if k.number.life == k.number.life && k.number.slot == k.number.slot && k.number.generation == k.number.generation && k.number.serial == k.number.serial then course.answered h k e else k | None ↦ k ])) ≡ None
    by (Some e) out = own e _ (own_number k.number)
    by None out = ap (λ (o : Option Errand). option_and_then (notice_at k) o) out

participant_ask : (n : CallNumber) (h : Heard) (f : Family) → AskRule f (told_participant n h f)
unfolding told_participant
participant_ask n h f =
    then_asks f (shows (vote_effects (of_participant h) (stages.voter f.completion)) f)
    (λ g. completes_as (stages.after_answer (inner_number f f.completion n) (of_participant h) f.completion) g)
    (same_asks f (shows (vote_effects (of_participant h) (stages.voter f.completion)) f) refl refl refl)
    (completes_ask (stages.after_answer (inner_number f f.completion n) (of_participant h) f.completion) f (inl (heard_quiet (of_participant h) f n f.completion)))

marks_parent_ask : (o : Option ℕ) (f : Family) → AskRule f (marks_parent o f)
marks_parent_ask (Some above) f = marks_ask above f
marks_parent_ask None f = only_asks f

told_end_ask : (aim : Aim) (b : ℕ) (h : Heard) (f : Family) → AskRule f (told_end aim b h f)
unfolding told_commit
told_end_ask (Commits asks) b h f = either_asks f (is_plain h || has_parent_ended f b) _ _ (only_asks f) (marks_parent_ask (parent f.rows b) f)
told_end_ask (RollsBack says) b h f = only_asks f

told_ask : (leg : Leg) (n : CallNumber) (b : ℕ) (c : Call) (h : Heard) (f : Family) → IsNotBefore leg → AskRule f (told leg n b c h f)
told_ask Below n b c h f never = only_asks f
told_ask Own n b c h f never = told_end_ask c.aim b h f
told_ask (Before so_many) n b c h f never = absurd never
told_ask Deciding n b c h f never = participant_ask n h f
told_ask (After so_many) n b c h f never = only_asks f

-- the calls are as they were, but for the one that has heard
marked_calls : (b : ℕ) (f : Family) → (marks b f).family.calls ≡ f.calls
unfolding marks
marked_calls b f = by (is_markable f b)
  where
    by : (t : Bool) → (if t then shows (effects.Marked b ∷ []) (record f { rows = marked f.rows b }) else only f).family.calls ≡ f.calls
    by true = refl
    by false = refl

marked_parent_calls : (o : Option ℕ) (f : Family) → (marks_parent o f).family.calls ≡ f.calls
marked_parent_calls (Some above) f = marked_calls above f
marked_parent_calls None f = refl

told_end_calls : (aim : Aim) (b : ℕ) (h : Heard) (f : Family) → (told_end aim b h f).family.calls ≡ f.calls
unfolding told_commit
told_end_calls (Commits asks) b h f = by (is_plain h || has_parent_ended f b)
  where
    by : (t : Bool) → (if t then only f else marks_parent (parent f.rows b) f).family.calls ≡ f.calls
    by true = refl
    by false = marked_parent_calls (parent f.rows b) f
told_end_calls (RollsBack says) b h f = refl

told_calls : (leg : Leg) (n : CallNumber) (b : ℕ) (c : Call) (h : Heard) (f : Family) → IsNotBefore leg → (told leg n b c h f).family.calls ≡ f.calls
unfolding told_participant completes_as
told_calls Below n b c h f never = refl
told_calls Own n b c h f never = told_end_calls c.aim b h f
told_calls (Before so_many) n b c h f never = absurd never
told_calls Deciding n b c h f never = refl
told_calls (After so_many) n b c h f never = refl

abbrev quiet_call : Call → Call
quiet_call c = record c { out = None }

hears_at_ask : (n : CallNumber) (b : ℕ) (c : Call) (h : Heard) (f : Family) → call_at f b ≡ Some c → IsNotBefore c.leg → AskRule f (hears_at n b c h f)
unfolding hears_at
hears_at_ask n b c h f at never ready =
    let set : Moved = only (with_call b (quiet_call c) f) in
    let first = set_asks f set b (Some (quiet_call c)) refl (omega arith) refl ((ready b c at).0, tt) (none_out c.leg) ready in
    let later = told_ask c.leg n b (quiet_call c) h (with_call b (quiet_call c) f) never first.ready in
    let low = first.grows in
    let high = later.grows in
    record {
      ready = later.ready;
      grows = omega (arith, low, high);
      out = λ number m waits asks. elim (later.out number m waits asks) [
        | inl (waited, asked) ↦ elim (first.out number m waited asked) [
          | inl was ↦ inl was
          | inr (o, among, numbered, is) ↦ let l = among.1 in absurd (omega (arith, l))
        ]
        | inr has ↦ inr has
      ];
    }
  where
    none_out : (leg : Leg) → decides_out (Some (record c { leg = leg; out = None })) ≡ None
    none_out Below = refl
    none_out Own = refl
    none_out (Before so_many) = refl
    none_out Deciding = refl
    none_out (After so_many) = refl

-- no call of the branch waits then
abbrev IsSilentAt : ℕ → List (Option Call) → Type 0
IsSilentAt b calls = (c : Call) → called calls b ≡ Some c → c.out ≡ None

set_silent : (calls : List (Option Call)) (b : ℕ) (x : Call) → x.out ≡ None → IsSilentAt b (slice_set calls b (Some x))
set_silent [] b x none c is = absurd cc
set_silent (z ∷ calls) zero x none c is = ap (λ (y : Call). y.out) (sym (inner is)) ∙ none
  where
    inner : {y z : Call} → Some y ≡ Some z → y ≡ z
    inner e = cc
set_silent (z ∷ calls) (suc b) x none c is = set_silent calls b x none c is

hears_at_silent : (n : CallNumber) (b : ℕ) (c : Call) (h : Heard) (f : Family) → IsNotBefore c.leg → IsSilentAt b (hears_at n b c h f).family.calls
unfolding hears_at
hears_at_silent n b c h f never =
    subst (IsSilentAt b) (sym (told_calls c.leg n b (quiet_call c) h (with_call b (quiet_call c) f) never)) (set_silent f.calls b (quiet_call c) refl)

-- ---- what the journal answers

answers_doubt_ask : (why : Doubted) (o : Option Call) (f : Family) → call_at f 0 ≡ o → AskRule f (answers_doubt why o f)
unfolding answers_doubt
answers_doubt_ask why (Some c) f at ready = record {
  ready = λ d x is. elim (called_set f.calls 0 d (Some (record c { caller = None })) x is) [
    | inl new ↦ subst (λ (y : Call). IsBare y.leg y.left × IsWithin f.serial y.out) (inner new) (ready 0 c at)
    | inr was ↦ ready d x was
  ];
  grows = omega arith;
  out = λ number n waits asks. inl (same_out f.calls at ∙ waits, asks);
}
  where
    inner : {y z : Call} → Some y ≡ Some z → y ≡ z
    inner e = cc

    same_out : (calls : List (Option Call)) → called calls 0 ≡ Some c
        → decides_out (called calls 0) ≡ decides_out (called (slice_set calls 0 (Some (record c { caller = None }))) 0)
    same_out [] is = absurd cc
    same_out (z ∷ calls) is = ap decides_out is
answers_doubt_ask why None f at ready = only_asks f ready

answers_doubt_silent : (why : Doubted) (o : Option Call) (b : ℕ) (f : Family) → call_at f 0 ≡ o → IsSilentAt b f.calls → IsSilentAt b (answers_doubt why o f).family.calls
unfolding answers_doubt
answers_doubt_silent why (Some c) b f at silent x is = by b f.calls at silent is
  where
    inner : {y z : Call} → Some y ≡ Some z → y ≡ z
    inner e = cc

    by : (b : ℕ) (calls : List (Option Call)) → called calls 0 ≡ Some c → IsSilentAt b calls → called (slice_set calls 0 (Some (record c { caller = None }))) b ≡ Some x → x.out ≡ None
    by b [] at silent is = absurd cc
    by zero (z ∷ calls) at silent is = ap (λ (y : Call). y.out) (sym (inner is)) ∙ silent c at
    by (suc b) (z ∷ calls) at silent is = silent x is
answers_doubt_silent why None b f at silent x is = silent x is

doubts_by_ask : (stood : Stood) (f : Family) → AskRule f (doubts_by stood f)
doubts_by_ask (answers.Stands place) f = only_asks f
doubts_by_ask (answers.Full used need) f = only_asks f
doubts_by_ask (answers.Unsure why) f =
    then_asks f (shows (effects.Doubted ∷ []) f) (λ g. answers_doubt why (call_at g 0) g) (shows_ask effects.Doubted f f refl refl refl) (answers_doubt_ask why (call_at f 0) f refl)

doubts_by_silent : (stood : Stood) (b : ℕ) (f : Family) → IsSilentAt b f.calls → IsSilentAt b (doubts_by stood f).family.calls
doubts_by_silent (answers.Stands place) b f silent = silent
doubts_by_silent (answers.Full used need) b f silent = silent
doubts_by_silent (answers.Unsure why) b f silent = answers_doubt_silent why (call_at f 0) b f refl silent

decided_notice : (stood : Stood) (s : Standing) → notice_out (stages.after_decided stood s) ≡ notice_out s
decided_notice stood (Waiting room) = refl
decided_notice stood (UnderWay k) = by (course.wants_decision k)
  where
    by : (t : Bool) → notice_out (UnderWay (if t then record k { stood = Some stood } else k)) ≡ notice_out (UnderWay k)
    by true = refl
    by false = refl

settles_ask : (o : Option Stood) (f : Family) → AskRule f (settles o f)
unfolding settles decided closes
settles_ask None f = only_asks f
settles_ask (Some stood) f =
    either_asks f (stages.wants_decision f.completion) _ _
    (then_asks f (completes_as (stages.after_decided stood f.completion) f) (doubts_by stood)
    (completes_ask (stages.after_decided stood f.completion) f (inr (decided_notice stood f.completion)))
    (doubts_by_ask stood (completes_as (stages.after_decided stood f.completion) f).family))
    (either_asks f (wants_done f) _ _ (same_asks f (shows (done_effects stood) (record f { closed = Some stood })) refl refl refl) (only_asks f))

settles_silent : (o : Option Stood) (b : ℕ) (f : Family) → IsSilentAt b f.calls → IsSilentAt b (settles o f).family.calls
unfolding settles decided closes completes_as
settles_silent None b f silent = silent
settles_silent (Some stood) b f silent = by (stages.wants_decision f.completion) (wants_done f)
  where
    by : (t u : Bool) → IsSilentAt b (if t then completes_as (stages.after_decided stood f.completion) f ▹ doubts_by stood
        else if u then shows (done_effects stood) (record f { closed = Some stood }) else only f).family.calls
    by true u = doubts_by_silent stood b (record f { completion = stages.after_decided stood f.completion }) silent
    by false true = silent
    by false false = silent

-- ---- a step that hears an answer

module _ (f : Family) (n : CallNumber) (h : Heard) (b : ℕ) (waits : waiting_for f n ≡ Some b) (never : (c : Call) → call_at f b ≡ Some c → IsNotBefore c.leg) where
  call_asks : (o : Option Call) → call_at f b ≡ o → AskRule f (hears_call o b n h f)
  call_asks (Some c) at = hears_at_ask n b c h f at (never c at)
  call_asks None at = only_asks f

  call_silent : (o : Option Call) → call_at f b ≡ o → IsSilentAt b (hears_call o b n h f).family.calls
  call_silent (Some c) at = hears_at_silent n b c h f (never c at)
  call_silent None at = λ c is. absurd (no c (sym at ∙ is))
    where
      no : (c : Call) → None ≡ Some c → ⊥
      no c e = cc

  hears_ask : AskRule f (hears n h f)
  unfolding hears
  hears_ask = subst (λ (o : Option ℕ). AskRule f (hears_for o n h f)) (sym waits) (call_asks (call_at f b) refl)

  hears_silent : IsSilentAt b (hears n h f).family.calls
  unfolding hears
  hears_silent = subst (λ (o : Option ℕ). IsSilentAt b (hears_for o n h f).family.calls) (sym waits) (call_silent (call_at f b) refl)

  answered_ask : (stood : Option Stood) → AskRule f (answered n h stood f)
  unfolding answered
  answered_ask stood =
      then_asks f (hears n h f ▹ settles stood) (goes_on_at (waiting_for f n))
      (then_asks f (hears n h f) (settles stood) hears_ask (settles_ask stood (hears n h f).family))
      (subst (λ (o : Option ℕ). AskRule (hears n h f ▹ settles stood).family (goes_on_at o (hears n h f ▹ settles stood).family)) (sym waits)
      (goes_on_ask b (hears n h f ▹ settles stood).family (settles_silent stood b (hears n h f).family hears_silent)))

pub answer_asks : (f : Family) (o : Outward) (answer : Said) (now b : ℕ) (stood : Option Stood) → waiting_for f o.number ≡ Some b
    → ((c : Call) → call_at f b ≡ Some c → IsNotBefore c.leg) → AreReady f.serial f.calls → StepAsks f (family_step f (answer_event o answer now) stood)
unfolding family_step acted
answer_asks f o answer now b stood waits never ready =
    subst (λ (x : Option ℕ). StepAsks f (if is_none x then quiet_step else entered f (answer_event o answer now) stood (acted (answer_event o answer now) stood f))) (sym waits)
    (entered_asks f (answer_event o answer now) stood (acted (answer_event o answer now) stood f) (answered_ask f o.number (heard_in answer) b waits never stood) ready)
  where
    quiet_step : Stepped
    quiet_step = record { family = f; said = said.Plain; words = []; finished = []; effects = [] }

-- nobody waits for it
pub stale_asks : (f : Family) (o : Outward) (answer : Said) (now : ℕ) (stood : Option Stood) → waiting_for f o.number ≡ None → AreReady f.serial f.calls
    → StepAsks f (family_step f (answer_event o answer now) stood)
unfolding family_step acted
stale_asks f o answer now stood waits ready =
    subst (λ (x : Option ℕ). StepAsks f (if is_none x then quiet said.Plain f else entered f (answer_event o answer now) stood (acted (answer_event o answer now) stood f))) (sym waits)
    (quiet_asks said.Plain f ready)
