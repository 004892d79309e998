-- What happens in a family by an answer that it hears is neither a Done, nor, where its outcome is open then, an outcome.
use Rattle.std.proofs.Common.{◌≡◌, ◌||◌, ℕ, Bool, true, false, cond, List, [], ◌∷◌, Option, Some, None, refl}
use Rattle.std.specs.List.{AllByRecursion}
use Rattle.ots_model.specs.Heard.{of_participant}
use Rattle.ots_model.specs.declared.completion.CallNumber.{CallNumber}
use Rattle.ots_model.specs.declared.completion.Heard.{Heard as ParticipantHeard}
use Rattle.ots_model.specs.declared.completion.Heard.TheVariants as phase_hears
use Rattle.ots_model.specs.declared.tree.Heard.{Heard}
use Rattle.ots_model.specs.Numbered.{Outcome}
use Rattle.txn_tree.specs.Rows.{parent}
use Rattle.two_phase.specs.Stages as stages
use Rattle.two_phase.specs.Stages.{Standing as Completion}
use Rattle.coordinator.specs.Closing.{asked_of, begins, begun, gives_up, rolling_back}
use Rattle.coordinator.specs.Family.{Family, Call, Aim, Commits, RollsBack, call_at, waiting_for, with_call}
use Rattle.coordinator.specs.Hearing.{hears_at, is_markable, is_plain, inner_number, marks, marks_parent, reason_of, told, told_before, told_commit, told_end, told_participant, vote_effects}
use Rattle.coordinator.specs.Moves.{Moved, completes_as, fixed_now, only, shows}
use Rattle.coordinator.specs.Phases.{has_parent_ended}
use Rattle.coordinator.specs.Step.{hears, hears_call, hears_for}
use Rattle.coordinator.specs.declared.call.Leg.{Leg}
use Rattle.coordinator.specs.declared.call.Leg.TheVariants.{Below, Own, Before, Deciding, After}
use Rattle.coordinator.specs.declared.effect.Effect.{Effect}
use Rattle.coordinator.specs.declared.effect.Effect.TheVariants as effects
use Rattle.family_laws.proofs.Lists.{all_joined}
use Rattle.nodes_lives.specs.First.{is_decided, is_done}

-- none of these effects is such
abbrev pub No : (Effect → Bool) → List Effect → Type 0
No p some = AllByRecursion (λ (x : Effect). p x ≡ false) some

pub record IsQuiet (m : Moved) : Type 0 where
  pub undone : No is_done m.effects
  pub undecided : stages.outcome m.family.completion ≡ None → No is_decided m.effects

quiet_only : (f : Family) → IsQuiet (only f)
quiet_only f = record { undone = tt; undecided = λ is. tt }

quiet_marked : (b : ℕ) (f g : Family) (t : Bool) → IsQuiet (cond t (shows (effects.Marked b ∷ []) g) (only f))
quiet_marked b f g true = record { undone = (refl, tt); undecided = λ is. (refl, tt) }
quiet_marked b f g false = quiet_only f

quiet_marks : (b : ℕ) (f : Family) → IsQuiet (marks b f)
unfolding marks
quiet_marks b f = quiet_marked b f _ (is_markable f b)

quiet_parent : (o : Option ℕ) (f : Family) → IsQuiet (marks_parent o f)
quiet_parent None f = quiet_only f
quiet_parent (Some above) f = quiet_marks above f

quiet_or : (t : Bool) (m n : Moved) → IsQuiet m → IsQuiet n → IsQuiet (cond t m n)
quiet_or true m n first other = first
quiet_or false m n first other = other

quiet_commit : (b : ℕ) (h : Heard) (f : Family) → IsQuiet (told_commit b h f)
unfolding told_commit
quiet_commit b h f = quiet_or (is_plain h || has_parent_ended f b) (only f) (marks_parent (parent f.rows b) f) (quiet_only f) (quiet_parent (parent f.rows b) f)

quiet_end : (aim : Aim) (b : ℕ) (h : Heard) (f : Family) → IsQuiet (told_end aim b h f)
quiet_end (Commits asked) b h f = quiet_commit b h f
quiet_end (RollsBack says) b h f = quiet_only f

fixed_undone : (a b : Option Outcome) → No is_done (fixed_now a b)
fixed_undone None None = tt
fixed_undone None (Some fixed) = (refl, tt)
fixed_undone (Some was) None = tt
fixed_undone (Some was) (Some fixed) = tt

fixed_undecided : (a b : Option Outcome) → b ≡ None → No is_decided (fixed_now a b)
fixed_undecided None None is = tt
fixed_undecided None (Some fixed) is = absurd cc
fixed_undecided (Some was) None is = tt
fixed_undecided (Some was) (Some fixed) is = tt

quiet_completes : (later : Completion) (f : Family) → IsQuiet (completes_as later f)
unfolding completes_as
quiet_completes later f = record {
  undone = fixed_undone (stages.outcome f.completion) (stages.outcome later);
  undecided = fixed_undecided (stages.outcome f.completion) (stages.outcome later);
}

quiet_before : (b called : ℕ) (c : Call) (h : Heard) (f : Family) → IsQuiet (told_before b called c h f)
unfolding told_before begins
quiet_before b called c h f =
    let g : Family = with_call b (record c { leg = Deciding }) f in
    quiet_or (is_plain h) (only f) (gives_up (reason_of called h) c g) (quiet_only f)
    (quiet_completes (begun g.completion (rolling_back (asked_of c.aim) (reason_of called h) g)) _)

vote_undone : (x : ParticipantHeard) (o : Option ℕ) → No is_done (vote_effects x o)
vote_undone (phase_hears.Voted vote) (Some registration) = (refl, tt)
vote_undone (phase_hears.Voted vote) None = tt
vote_undone phase_hears.Done o = tt
vote_undone (phase_hears.Heuristic d) o = tt
vote_undone phase_hears.RolledBack o = tt
vote_undone phase_hears.NotPrepared o = tt
vote_undone phase_hears.NoObject o = tt
vote_undone phase_hears.Other o = tt
vote_undone phase_hears.Lost o = tt
vote_undone phase_hears.Starved o = tt

vote_undecided : (x : ParticipantHeard) (o : Option ℕ) → No is_decided (vote_effects x o)
vote_undecided (phase_hears.Voted vote) (Some registration) = (refl, tt)
vote_undecided (phase_hears.Voted vote) None = tt
vote_undecided phase_hears.Done o = tt
vote_undecided (phase_hears.Heuristic d) o = tt
vote_undecided phase_hears.RolledBack o = tt
vote_undecided phase_hears.NotPrepared o = tt
vote_undecided phase_hears.NoObject o = tt
vote_undecided phase_hears.Other o = tt
vote_undecided phase_hears.Lost o = tt
vote_undecided phase_hears.Starved o = tt

quiet_participant : (n : CallNumber) (h : Heard) (f : Family) → IsQuiet (told_participant n h f)
unfolding told_participant
quiet_participant n h f =
    let votes = vote_effects (of_participant h) (stages.voter f.completion) in
    let m : Moved = completes_as (stages.after_answer (inner_number f f.completion n) (of_participant h) f.completion) f in
    let later = quiet_completes (stages.after_answer (inner_number f f.completion n) (of_participant h) f.completion) f in
    record {
      undone = all_joined (λ (x : Effect). is_done x ≡ false) votes m.effects (vote_undone (of_participant h) (stages.voter f.completion)) later.undone;
      undecided = λ is. all_joined (λ (x : Effect). is_decided x ≡ false) votes m.effects (vote_undecided (of_participant h) (stages.voter f.completion)) (later.undecided is);
    }

quiet_told : (leg : Leg) (n : CallNumber) (b : ℕ) (c : Call) (h : Heard) (f : Family) → IsQuiet (told leg n b c h f)
quiet_told Below n b c h f = quiet_only f
quiet_told Own n b c h f = quiet_end c.aim b h f
quiet_told (Before called) n b c h f = quiet_before b called c h f
quiet_told Deciding n b c h f = quiet_participant n h f
quiet_told (After called) n b c h f = quiet_only f

quiet_call : (o : Option Call) (b : ℕ) (n : CallNumber) (h : Heard) (f : Family) → IsQuiet (hears_call o b n h f)
unfolding hears_at
quiet_call None b n h f = quiet_only f
quiet_call (Some c) b n h f = quiet_told c.leg n b (record c { out = None }) h (with_call b (record c { out = None }) f)

quiet_for : (o : Option ℕ) (n : CallNumber) (h : Heard) (f : Family) → IsQuiet (hears_for o n h f)
quiet_for None n h f = quiet_only f
quiet_for (Some b) n h f = quiet_call (call_at f b) b n h f

pub quiet_hears : (n : CallNumber) (h : Heard) (f : Family) → IsQuiet (hears n h f)
unfolding hears
quiet_hears n h f = quiet_for (waiting_for f n) n h f
