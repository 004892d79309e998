-- The rules by which the top-level transaction ends, by their cases.
use Rattle.std.proofs.Common.{◌≡◌, ◌∙◌, refl, ap, sym, ℕ, Bool, true, false, not, List, [], ◌++◌, Option, Some, None, is_some, if◌then◌else◌}
use Rattle.std.proofs.lemmas.List.{append-nil}
use Rattle.ots_model.specs.Numbered.{Outcome}
use Rattle.ots_model.specs.declared.tree.Outward.{Outward}
use Rattle.ots_model.specs.declared.tree.Reason.TheVariants as reasons
use Rattle.resource_votes.specs.declared.registration.Registration.{Registration}
use Rattle.two_phase.specs.Course.{Course}
use Rattle.two_phase.specs.Stages as stages
use Rattle.two_phase.specs.Stages.{Standing, Waiting, Going as UnderWay}
use Rattle.coordinator.specs.declared.effect.Effect.{Effect}
use Rattle.family_rules.specs.Changes.{DraftParts, so_far}
use Rattle.coordinator.specs.Closing.{gives_up, decides, decides_by, rests, before, calls_next, next_synchronization, afterwards, next_told, tells_next, begins, begun, finishes, end_answer}
use Rattle.coordinator.specs.Family.{Family, Call}
use Rattle.coordinator.specs.declared.call.Leg.TheVariants.{Deciding}
use Rattle.coordinator.specs.declared.call.Stage.TheVariants.{Completing, Over}
use Rattle.coordinator.specs.Moves.{after, ◌▹◌, fixed_now, completes_as, ends_call}
use Rattle.coordinator.specs.Phases.{is_marked}
use Rattle.family_rules.specs.StateInside.{unroomed}
use Rattle.family_rules.proofs.Moving.{brings_effects}
use Rattle.family_rules.proofs.Unroomed.{begun_stays}

pub before_marked : (called : ℕ) (c : Call) (f : Family) → is_marked f 0 ≡ true → (gives_up reasons.Marked c f ▹ decides c) ≡ before called c f
unfolding before
before_marked called c f h =
    sym (ap (λ (b : Bool). if b then gives_up reasons.Marked c f ▹ decides c else calls_next (next_synchronization f called) called c f) h)

pub before_unmarked : (called : ℕ) (c : Call) (f : Family) → is_marked f 0 ≡ false → calls_next (next_synchronization f called) called c f ≡ before called c f
unfolding before
before_unmarked called c f h =
    sym (ap (λ (b : Bool). if b then gives_up reasons.Marked c f ▹ decides c else calls_next (next_synchronization f called) called c f) h)

pub next_called : (o p : Option Registration) (called : ℕ) (c : Call) (f : Family) → o ≡ p → calls_next o called c f ≡ calls_next p called c f
next_called o p called c f h = ap (λ (x : Option Registration). calls_next x called c f) h

pub told_next : (o : Option Registration) (called : ℕ) (c : Call) (fixed : Outcome) (f : Family) → o ≡ next_told f fixed called
    → tells_next o called c fixed f ≡ afterwards called c fixed f
unfolding afterwards
told_next o called c fixed f h = ap (λ (x : Option Registration). tells_next x called c fixed f) h

pub decided_by : (o : Option Outward) (c : Call) (f : Family) → o ≡ stages.next_word f.completion → decides_by o (record c { leg = Deciding }) f ≡ decides c f
unfolding decides
decided_by o c f h = ap (λ (x : Option Outward). decides_by x (record c { leg = Deciding }) f) h

pub rested : (o : Option Outcome) (c : Call) (f : Family) → o ≡ stages.outcome f.completion → rests c o f ≡ rests c (stages.outcome f.completion) f
rested o c f h = ap (λ (x : Option Outcome). rests c x f) h

pub finished : (c : Call) (fixed : Outcome) (f : Family) → finishes c fixed f ≡ ends_call 0 c (end_answer c.aim f.completion fixed) (record f { stage = Over })
unfolding finishes
finished c fixed f = refl

pub nothing_fixed : (o : Option Outcome) → fixed_now o o ≡ []
nothing_fixed None = refl
nothing_fixed (Some fixed) = refl

-- a completion that has begun stays as it is
pub begins_no_more : (f : Family) (d : DraftParts) (s first : Standing) → f.completion ≡ unroomed s → is_some (stages.number s) ≡ true
    → so_far (record f { stage = Completing }) d ≡ after (so_far f d) (begins first f)
unfolding begins completes_as
begins_no_more f d s first is there =
    let same : begun f.completion first ≡ f.completion =
    ap (λ (x : Standing). begun x first) is ∙ begun_stays s first there ∙ sym is in
    brings_effects f (record f { stage = Completing }) (record f { stage = Completing; completion = begun f.completion first }) d d
    (fixed_now (stages.outcome f.completion) (stages.outcome (begun f.completion first)))
    (ap (λ (x : Standing). record f { stage = Completing; completion = x }) (sym same))
    (ap (λ (x : List Effect). record d.changes { effects = x })
    (sym (append-nil d.changes.effects)
    ∙ ap (λ (x : List Effect). d.changes.effects ++ x)
    (sym (ap (λ (x : Standing). fixed_now (stages.outcome f.completion) (stages.outcome x)) same ∙ nothing_fixed (stages.outcome f.completion)))))

-- one that hasn't begun does
pub begins_now : (f g : Family) (d e : DraftParts) (s : Standing) (first : Course) (later : Standing) (fixed : Option Outcome) → f.completion ≡ unroomed s
    → is_some (stages.number s) ≡ false → later ≡ UnderWay first → g ≡ record f { stage = Completing; completion = unroomed later }
    → fixed ≡ stages.outcome later → e.changes ≡ record d.changes { effects = d.changes.effects ++ fixed_now None fixed }
    → so_far g e ≡ after (so_far f d) (begins (UnderWay first) f)
unfolding begins completes_as
begins_now f g d e (Waiting room) first later fixed is none starts to fix shown =
    let began : Standing = begun f.completion (UnderWay first) in
    let now : began ≡ UnderWay first = ap (λ (x : Standing). begun x (UnderWay first)) is in
    let goes : unroomed later ≡ began = ap unroomed starts ∙ sym now in
    let told : fixed_now None fixed ≡ fixed_now (stages.outcome f.completion) (stages.outcome began) =
    ap (λ (x : Option Outcome). fixed_now None x) fix
    ∙ (ap (λ (x : Standing). fixed_now None (stages.outcome x)) (starts ∙ sym now)
    ∙ ap (λ (x : Standing). fixed_now (stages.outcome x) (stages.outcome began)) (sym is)) in
    brings_effects f g (record f { stage = Completing; completion = began }) d e
    (fixed_now (stages.outcome f.completion) (stages.outcome began))
    (to ∙ ap (λ (x : Standing). record f { stage = Completing; completion = x }) goes)
    (shown ∙ ap (λ (x : List Effect). record d.changes { effects = d.changes.effects ++ x }) told)
begins_now f g d e (UnderWay c) first later fixed is none starts to fix shown = absurd (cc (none))

-- there is none where there isn't some
pub is_not : (a b : Bool) → a ≡ not b → b ≡ not a
is_not a true h = ap not (sym h)
is_not a false h = ap not (sym h)
