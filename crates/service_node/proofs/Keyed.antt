-- A step of a family keeps its key.
use Rattle.std.proofs.Common.{◌≡◌, ◌∙◌, ℕ, zero, suc, Bool, true, false, cond, List, [], ◌∷◌, length, Option, Some, None, refl}
use Rattle.std.specs.Prelude.{◌==◌}
use Rattle.ots_model.specs.declared.completion.Receipt.{Receipt}
use Rattle.ots_model.specs.Numbered.{Outcome}
use Rattle.ots_model.specs.declared.tree.Outward.{Outward}
use Rattle.ots_model.specs.declared.tree.Reason.{Reason}
use Rattle.ots_model.specs.declared.tree.Reason.TheVariants as reasons
use Rattle.resource_votes.specs.declared.registration.Registration.{Registration}
use Rattle.two_phase.specs.Stages as stages
use Rattle.two_phase.specs.Stages.{Standing}
use Rattle.coordinator.specs.declared.said.Said.{Said}
use Rattle.coordinator.specs.declared.said.Said.TheVariants as said
use Rattle.coordinator.specs.declared.call.Leg.{Leg}
use Rattle.coordinator.specs.declared.call.Leg.TheVariants.{Below, Own, Before, Deciding, After}
use Rattle.coordinator.specs.declared.call.Stage.{Stage}
use Rattle.coordinator.specs.declared.call.Stage.TheVariants.{Going, Finishing, Completing, Over}
use Rattle.coordinator.specs.Family.{Family, Call, Duty, Aim, Commits, RollsBack}
use Rattle.coordinator.specs.Moves.{Moved, Notice, ◌▹◌, sends, ends_call, completes_as, only}
use Rattle.coordinator.specs.Closing.{afterwards, asking, asked_of, before, begins, begun, calls_next, decides, decides_by, finishes, gives_up, next_synchronization, next_told, rests, rolling_back, tells_next, waits}
use Rattle.coordinator.specs.Phases.{is_marked}
use Rattle.coordinator.specs.Running.{by_leg, commits_up, duties_below, ends_below, is_held, own_duties, own_ends, passes, passes_top, runs, sweeps, sweeps_next, tells_after, tells_first, tells_own}
use Rattle.coordinator.specs.Hearing.{marks, is_markable}
use Rattle.coordinator.specs.History.{has_room}
use Rattle.coordinator.specs.NodeTick.{tick_at, tick_of}
use Rattle.coordinator.specs.Step.{acted, entered, family_step, has_timed_out, is_silent, quiet, ticks, times_out}
use Rattle.coordinator.specs.Table.{new_call, rolls_back_top}

by_test : (b : Bool) (x y : Moved) (f : Family) → x.family.key ≡ f.key → y.family.key ≡ f.key → (cond b x y).family.key ≡ f.key
by_test true x y f ex ey = ex
by_test false x y f ex ey = ey

-- ---- words, answers and the completion

sends_key : (b : ℕ) (c : Call) (n : Notice) (r : Option Receipt) (f : Family) → (sends b c n r f).family.key ≡ f.key
unfolding sends
sends_key b c n r f = refl

ends_call_key : (b : ℕ) (c : Call) (answer : Said) (f : Family) → (ends_call b c answer f).family.key ≡ f.key
unfolding ends_call
ends_call_key b c answer f = refl

completes_key : (later : Standing) (f : Family) → (completes_as later f).family.key ≡ f.key
unfolding completes_as
completes_key later f = refl

finishes_key : (c : Call) (fixed : Outcome) (f : Family) → (finishes c fixed f).family.key ≡ f.key
unfolding finishes
finishes_key c fixed f = ends_call_key 0 c _ (record f { stage = Over })

tells_next_key : (o : Option Registration) (called : ℕ) (c : Call) (fixed : Outcome) (f : Family) → (tells_next o called c fixed f).family.key ≡ f.key
tells_next_key (Some s) called c fixed f = sends_key 0 _ _ None f
tells_next_key None called c fixed f = finishes_key c fixed f

afterwards_key : (called : ℕ) (c : Call) (fixed : Outcome) (f : Family) → (afterwards called c fixed f).family.key ≡ f.key
unfolding afterwards
afterwards_key called c fixed f = tells_next_key (next_told f fixed called) called c fixed f

rests_key : (c : Call) (o : Option Outcome) (f : Family) → (rests c o f).family.key ≡ f.key
rests_key c (Some fixed) f = afterwards_key 0 c fixed f
rests_key c None f = refl

decides_by_key : (o : Option Outward) (c : Call) (f : Family) → (decides_by o c f).family.key ≡ f.key
decides_by_key (Some o) c f = sends_key 0 c _ o.receipt (record f { completion = stages.after_next f.completion })
decides_by_key None c f = rests_key c (stages.outcome f.completion) f

decides_key : (c : Call) (f : Family) → (decides c f).family.key ≡ f.key
unfolding decides
decides_key c f = decides_by_key (stages.next_word f.completion) (record c { leg = Deciding }) f

begins_key : (first : Standing) (f : Family) → (begins first f).family.key ≡ f.key
unfolding begins
begins_key first f = completes_key (begun f.completion first) (record f { stage = Completing })

calls_next_key : (o : Option Registration) (called : ℕ) (c : Call) (f : Family) → (calls_next o called c f).family.key ≡ f.key
calls_next_key (Some s) called c f = sends_key 0 _ _ None f
calls_next_key None called c f =
    decides_key c (begins (asking (asked_of c.aim) f) f).family ∙ begins_key (asking (asked_of c.aim) f) f

before_key : (called : ℕ) (c : Call) (f : Family) → (before called c f).family.key ≡ f.key
unfolding before
before_key called c f =
    by_test (is_marked f 0) (gives_up reasons.Marked c f ▹ decides c) (calls_next (next_synchronization f called) called c f) f
    (decides_key c (gives_up reasons.Marked c f).family ∙ begins_key (rolling_back (asked_of c.aim) reasons.Marked f) f)
    (calls_next_key (next_synchronization f called) called c f)

-- ---- calls that go on

tells_first_key : (ds : List Duty) (b : ℕ) (c : Call) (next : Family → Moved) → ((g : Family) → (next g).family.key ≡ g.key) → (f : Family) → (tells_first ds b c next f).family.key ≡ f.key
tells_first_key [] b c next keeps f = keeps f
tells_first_key (d ∷ others) b c next keeps f = sends_key b _ _ None f

commits_up_key : (b : ℕ) (o : Option ℕ) (c : Call) (f : Family) → (commits_up b o c f).family.key ≡ f.key
unfolding commits_up
commits_up_key b (Some above) c f = ends_call_key b c said.Plain _
commits_up_key b None c f = refl

own_ends_key : (aim : Aim) (b : ℕ) (c : Call) (f : Family) → (own_ends aim b c f).family.key ≡ f.key
own_ends_key (Commits asked) b c f = commits_up_key b _ c f
own_ends_key (RollsBack says) b c f = ends_call_key b c says f

tells_own_key : (b : ℕ) (c : Call) (f : Family) → (tells_own b c f).family.key ≡ f.key
unfolding tells_own
tells_own_key b c f = tells_first_key (own_duties c.aim b f) b (record c { leg = Own }) (own_ends c.aim b (record c { leg = Own })) (own_ends_key c.aim b (record c { leg = Own })) f

passes_top_key : (s : Stage) (c : Call) (f : Family) → (passes_top s c f).family.key ≡ f.key
passes_top_key Going c f = decides_key c f
passes_top_key Finishing c f = before_key 0 c f
passes_top_key Completing c f = decides_key c f
passes_top_key Over c f = decides_key c f

passes_key : (b : ℕ) (c : Call) (f : Family) → (passes b c f).family.key ≡ f.key
unfolding passes
passes_key b c f = by_test (b == 0) (passes_top f.stage c f) (tells_own b c f) f (passes_top_key f.stage c f) (tells_own_key b c f)

ends_below_key : (d : ℕ) (f : Family) → (ends_below d f).family.key ≡ f.key
unfolding ends_below
ends_below_key d f = refl

sweeps_next_key : (o : Option ℕ) (b : ℕ) (c : Call) (next : Family → Moved) → ((g : Family) → (next g).family.key ≡ g.key) → (f : Family) → (sweeps_next o b c next f).family.key ≡ f.key
sweeps_next_key (Some d) b c next keeps f =
    tells_first_key (duties_below d f) b c next keeps (ends_below d f).family ∙ ends_below_key d f
sweeps_next_key None b c next keeps f = passes_key b c f

sweeps_key : (n b : ℕ) (c : Call) (f : Family) → (sweeps n b c f).family.key ≡ f.key
unfolding sweeps
sweeps_key zero b c f = passes_key b c f
sweeps_key (suc n) b c f = sweeps_next_key _ b c (sweeps n b c) (sweeps_key n b c) f

tells_after_key : (o : Option Outcome) (called : ℕ) (c : Call) (f : Family) → (tells_after o called c f).family.key ≡ f.key
tells_after_key (Some fixed) called c f = afterwards_key called c fixed f
tells_after_key None called c f = refl

by_leg_key : (leg : Leg) (b : ℕ) (c : Call) (f : Family) → (by_leg leg b c f).family.key ≡ f.key
by_leg_key Below b c f = sweeps_key (length f.rows) b c f
by_leg_key Own b c f = own_ends_key c.aim b c f
by_leg_key (Before called) b c f = before_key called c f
by_leg_key Deciding b c f = decides_key c f
by_leg_key (After called) b c f = tells_after_key (stages.outcome f.completion) called c f

runs_key : (b : ℕ) (c : Call) (f : Family) → (runs b c f).family.key ≡ f.key
unfolding runs
runs_key b c f =
    by_test (is_held b c f) (waits b c f) (tells_first c.left b c (by_leg c.leg b c) f) f refl
    (tells_first_key c.left b c (by_leg c.leg b c) (by_leg_key c.leg b c) f)

-- ---- a tick

marks_key : (b : ℕ) (f : Family) → (marks b f).family.key ≡ f.key
unfolding marks
marks_key b f = by_test (is_markable f b) _ (only f) f refl refl

rolls_back_top_key : (reason : Reason) (caller : Option ℕ) (answer : Said) (f : Family) → (rolls_back_top reason caller answer f).family.key ≡ f.key
unfolding rolls_back_top
rolls_back_top_key reason caller answer f =
    runs_key 0 (new_call caller (RollsBack answer)) (begins (rolling_back false reason f) f).family ∙ begins_key (rolling_back false reason f) f

times_out_key : (s : Stage) (f : Family) → (times_out s f).family.key ≡ f.key
times_out_key Going f = rolls_back_top_key reasons.Timeout None said.Plain f
times_out_key Finishing f = marks_key 0 f
times_out_key Completing f = marks_key 0 f
times_out_key Over f = marks_key 0 f

ticks_key : (now : ℕ) (f : Family) → (ticks now f).family.key ≡ f.key
unfolding ticks
ticks_key now f = by_test (has_timed_out f now) (times_out f.stage f) (only f) f (times_out_key f.stage f) refl

pub tick_key : (now : ℕ) (f : Family) → (tick_of now f).family.key ≡ f.key
unfolding acted entered family_step
tick_key now f = by_room (has_room f.entries (tick_at now)) (by_silence (is_silent (tick_at now) f))
  where
    by_silence : (b : Bool) → (cond b (quiet said.Plain f) (entered f (tick_at now) None (acted (tick_at now) None f))).family.key ≡ f.key
    by_silence true = refl
    by_silence false = ticks_key now f

    by_room : (b : Bool) → (family_step f (tick_at now) None).family.key ≡ f.key → (cond b (family_step f (tick_at now) None) (quiet said.Plain f)).family.key ≡ f.key
    by_room true keeps = keeps
    by_room false keeps = refl
