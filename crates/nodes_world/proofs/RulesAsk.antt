-- For which words the call of the top-level transaction waits at the decision, while the rules of a family go on: for those alone by
-- which its completion asks.
use Rattle.std.proofs.Common.{◌≡◌, ◌⊎◌, ◌==◌, inl, inr, ℕ, zero, suc, ◌+◌, ◌≤◌, List, [], ◌∷◌, slice_get, slice_set, Bool, true, false, if◌then◌else◌, Option, Some, None, is_some, Contains, refl, ap, sym, subst, ◌∙◌, arith}
use Rattle.std.proofs.lemmas.List.Elements.{Contains-append_left, Contains-append_right}
use Rattle.std.specs.Option.{option_and_then, option_map}
use Rattle.ots_model.specs.declared.completion.Receipt.{Receipt}
use Rattle.ots_model.specs.Numbered.{Outcome}
use Rattle.ots_model.specs.declared.completion.Outcome.TheVariants as outcomes
use Rattle.ots_model.specs.declared.tree.Outward.{Outward}
use Rattle.ots_model.specs.declared.tree.Reason.{Reason}
use Rattle.ots_model.specs.declared.tree.Reason.TheVariants as reasons
use Rattle.resource_votes.specs.Ballots.{adopted}
use Rattle.resource_votes.specs.declared.registration.Registration.{Registration}
use Rattle.txn_tree.specs.Calls.{ended, live_under}
use Rattle.two_phase.specs.Course as course
use Rattle.two_phase.specs.Course.{Course}
use Rattle.two_phase.specs.Stages as stages
use Rattle.two_phase.specs.Stages.{Standing, Waiting, Going as UnderWay}
use Rattle.two_phase.specs.declared.party.Errand.{Errand}
use Rattle.two_phase.specs.declared.party.Party.{Party}
use Rattle.two_phase.specs.declared.party.Stage.{Stage as Round}
use Rattle.two_phase.specs.declared.party.Stage.TheVariants as rounds
use Rattle.coordinator.specs.declared.call.Leg.{Leg}
use Rattle.coordinator.specs.declared.call.Leg.TheVariants.{Below, Own, Before, Deciding, After}
use Rattle.coordinator.specs.declared.call.Stage.{Stage}
use Rattle.coordinator.specs.declared.call.Stage.TheVariants.{Going, Finishing, Completing, Over}
use Rattle.coordinator.specs.declared.effect.Effect.{Effect}
use Rattle.coordinator.specs.declared.effect.Effect.TheVariants as effects
use Rattle.coordinator.specs.declared.said.Said.{Said}
use Rattle.coordinator.specs.declared.said.Said.TheVariants as said
use Rattle.coordinator.specs.Family.{Family, Aim, Call, Commits, RollsBack, Duty, call_at}
use Rattle.coordinator.specs.Moves.{Moved, Notice, only, ◌▹◌, outward, shows, sends, ends_call, completes_as}
use Rattle.coordinator.specs.Closing.{asked_of, asking, rolling_back, begun, begins, decides, decides_by, rests, afterwards, tells_next, next_told, notice_of, finishes, next_synchronization, calls_next, gives_up, before, waits}
use Rattle.coordinator.specs.Running.{duty_notice, tells_first, commits_up, adopter, own_ends, own_duties, tells_own, passes_top, passes, ends_below, duties_below, sweeps_next, sweeps, is_held, tells_after, by_leg, runs, runs_call, goes_on}
use Rattle.coordinator.specs.Phases.{is_marked}
use Rattle.family_laws.specs.Sound.{called}
use Rattle.nodes_world.specs.AgreementInside.{AreReady, AsksOne, Awaited, IsAwaited, IsBare, IsOutcomeWord, IsWithin, TellsOne, decides_out, notice_at, notice_out, out_at}
use Rattle.nodes_world.proofs.RulesKeep.{called_set}

-- a word with this serial number, and of which that is the notice
abbrev pub HasWord : List Outward → ℕ → Awaited → Type 0
HasWord words serial a = (o : Outward) × Contains words o × (o.number.serial ≡ serial) × IsAwaited a o

-- The calls are ready to go on. Where the call of the top-level transaction then waits at the decision, and the completion asks, it
-- did so before, for the same word, or that goes out now.
pub record AreAsked (serial : ℕ) (calls : List (Option Call)) (s : Standing) (m : Moved) : Type 0 where
  pub ready : AreReady m.family.serial m.family.calls
  pub grows : serial ≤ m.family.serial
  pub out : (number : ℕ) (n : Awaited) → decides_out (called m.family.calls 0) ≡ Some number → notice_out m.family.completion ≡ Some n
      → ((decides_out (called calls 0) ≡ Some number) × (notice_out s ≡ Some n)) ⊎ HasWord m.words number n

abbrev pub Asks : Family → Moved → Type 0
Asks f m = AreAsked f.serial f.calls f.completion m

-- a rule does so of a family whose calls are ready
abbrev pub AskRule : Family → Moved → Type 0
AskRule f m = AreReady f.serial f.calls → Asks f m

-- ---- one thing after another

pub then_asks : (f : Family) (first : Moved) (next : Family → Moved) → AskRule f first → AskRule first.family (next first.family) → AskRule f (first ▹ next)
then_asks f first next one other ready =
    let a = one ready in
    let b = other a.ready in
    let low = a.grows in
    let high = b.grows in
    record {
      ready = b.ready;
      grows = omega (arith, low, high);
      out = λ number n waits asks. elim (b.out number n waits asks) [
        | inl (waited, asked) ↦ elim (a.out number n waited asked) [
          | inl was ↦ inl was
          | inr (o, among, numbered, is) ↦ inr (o, Contains-append_left first.words (next first.family).words o among, numbered, is)
        ]
        | inr (o, among, numbered, is) ↦ inr (o, Contains-append_right first.words (next first.family).words o among, numbered, is)
      ];
    }

pub either_asks : (f : Family) (t : Bool) (x y : Moved) → AskRule f x → AskRule f y → AskRule f (if t then x else y)
either_asks f true x y one other = one
either_asks f false x y one other = other

-- ---- the simple rules

-- calls and completion are as they were
pub same_asks : (f : Family) (m : Moved) → m.family.calls ≡ f.calls → m.family.serial ≡ f.serial → m.family.completion ≡ f.completion → AskRule f m
same_asks f m calls serial completion ready = record {
  ready = subst (λ (x : ℕ). AreReady x m.family.calls) (sym serial) (subst (λ (cs : List (Option Call)). AreReady f.serial cs) (sym calls) ready);
  grows = omega (arith, serial);
  out = λ number n waits asks. inl (
    sym (ap (λ (cs : List (Option Call)). decides_out (called cs 0)) calls) ∙ waits,
    sym (ap notice_out completion) ∙ asks,
  );
}

pub only_asks : (f : Family) → AskRule f (only f)
only_asks f = same_asks f (only f) refl refl refl

-- a call is put in its place, or taken away
abbrev IsFree : ℕ → Option Call → Type 0
IsFree serial (Some c) = IsBare c.leg c.left × IsWithin serial c.out
IsFree serial None = Unit {0}

within_more : (out : Option ℕ) (serial later : ℕ) → serial ≤ later → IsWithin serial out → IsWithin later out
within_more (Some x) serial later grows within = let low : x ≤ serial = within in omega (arith, grows, low)
within_more None serial later grows within = tt

ready_set : (serial later : ℕ) (calls : List (Option Call)) (b : ℕ) (o : Option Call) → serial ≤ later → IsFree later o → AreReady serial calls → AreReady later (slice_set calls b o)
ready_set serial later calls b o grows free ready d c is = elim (called_set calls b d o c is) [
  | inl new ↦ subst (IsFree later) new free
  | inr was ↦ ((ready d c was).0, within_more c.out serial later grows (ready d c was).1)
]

first_set : (calls : List (Option Call)) (b : ℕ) (o : Option Call) → (called (slice_set calls b o) 0 ≡ called calls 0) ⊎ (called (slice_set calls b o) 0 ≡ o)
first_set [] b o = inl refl
first_set (z ∷ calls) zero o = inr refl
first_set (z ∷ calls) (suc b) o = inl refl

-- one that waits for no word of the completion
pub set_asks : (f : Family) (m : Moved) (b : ℕ) (o : Option Call) → m.family.calls ≡ slice_set f.calls b o → f.serial ≤ m.family.serial
    → m.family.completion ≡ f.completion → IsFree m.family.serial o → decides_out o ≡ None → AskRule f m
set_asks f m b o calls grows completion free waits_not ready = record {
  ready = subst (λ (cs : List (Option Call)). AreReady m.family.serial cs) (sym calls) (ready_set f.serial m.family.serial f.calls b o grows free ready);
  grows = grows;
  out = λ number n waits asks.
      let waits_so = sym (ap (λ (cs : List (Option Call)). decides_out (called cs 0)) calls) ∙ waits in
      elim (first_set f.calls b o) [
        | inl same ↦ inl (sym (ap decides_out same) ∙ waits_so, sym (ap notice_out completion) ∙ asks)
        | inr new ↦ absurd (no number (sym waits_not ∙ sym (ap decides_out new) ∙ waits_so))
      ];
}
  where
    no : (number : ℕ) → None ≡ Some number → ⊥
    no number e = cc

bare_of : (leg : Leg) (left : List Duty) → left ≡ [] → IsBare leg left
bare_of Below left none = tt
bare_of Own left none = tt
bare_of (Before so_many) left none = none
bare_of Deciding left none = none
bare_of (After so_many) left none = tt

nothing_out : (leg : Leg) (out : Option ℕ) → out ≡ None → out_at leg out ≡ None
nothing_out Below out none = refl
nothing_out Own out none = refl
nothing_out (Before so_many) out none = refl
nothing_out Deciding out none = none
nothing_out (After so_many) out none = refl

within_none : (serial : ℕ) (out : Option ℕ) → out ≡ None → IsWithin serial out
within_none serial None none = tt
within_none serial (Some x) none = absurd cc

-- a call that none of its words keeps waiting
pub record IsIdle (c : Call) : Type 0 where
  pub out : c.out ≡ None
  pub bare : IsBare c.leg c.left

waits_ask : (b : ℕ) (c : Call) (f : Family) → IsIdle c → AskRule f (waits b c f)
waits_ask b c f idle = set_asks f (waits b c f) b (Some c) refl (omega arith) refl (idle.bare, within_none f.serial c.out idle.out) (nothing_out c.leg c.out idle.out)

ends_ask : (b : ℕ) (c : Call) (answer : Said) (f : Family) → AskRule f (ends_call b c answer f)
unfolding ends_call
ends_ask b c answer f = set_asks f (ends_call b c answer f) b None refl (omega arith) refl tt refl

at_most : (n : ℕ) → n ≤ n
at_most n = omega arith

-- a word goes out that isn't the completion's
abbrev IsElsewhere : Leg → Type 0
IsElsewhere Deciding = ⊥
IsElsewhere _ = Unit {0}

elsewhere_out : (leg : Leg) (out : Option ℕ) → IsElsewhere leg → out_at leg out ≡ None
elsewhere_out Below out other = refl
elsewhere_out Own out other = refl
elsewhere_out (Before so_many) out other = refl
elsewhere_out Deciding out other = absurd other
elsewhere_out (After so_many) out other = refl

sends_ask : (b : ℕ) (c : Call) (n : Notice) (receipt : Option Receipt) (f : Family) → IsBare c.leg c.left → IsElsewhere c.leg → AskRule f (sends b c n receipt f)
unfolding sends
sends_ask b c n receipt f bare other =
    set_asks f (sends b c n receipt f) b (Some (record c { out = Some (f.serial + 1) })) refl (omega arith) refl (bare, at_most (f.serial + 1)) (elsewhere_out c.leg (Some (f.serial + 1)) other)

-- the completion goes on, and asks nobody then, or as it did
pub completes_ask : (later : Standing) (f : Family) → (notice_out later ≡ None) ⊎ (notice_out later ≡ notice_out f.completion) → AskRule f (completes_as later f)
unfolding completes_as
completes_ask later f (inl none) ready = record {
  ready = ready;
  grows = omega arith;
  out = λ number n waits asks. absurd (no n (sym none ∙ asks));
}
  where
    no : (n : Awaited) → None ≡ Some n → ⊥
    no n e = cc
completes_ask later f (inr same) ready = record {
  ready = ready;
  grows = omega arith;
  out = λ number n waits asks. inl (waits, sym same ∙ asks);
}

-- ---- a completion begins

begun_asks : (s first : Standing) → notice_out first ≡ None → (notice_out (begun s first) ≡ None) ⊎ (notice_out (begun s first) ≡ notice_out s)
begun_asks (Waiting room) first none = inl none
begun_asks (UnderWay k) first none = inr refl

begins_ask : (first : Standing) (f : Family) → notice_out first ≡ None → AskRule f (begins first f)
unfolding begins
begins_ask first f none = completes_ask (begun f.completion first) (record f { stage = Completing }) (begun_asks f.completion first none)

pub rolls_ask : (asked : Bool) (reason : Reason) (f : Family) → AskRule f (begins (rolling_back asked reason f) f)
rolls_ask asked reason f = begins_ask (rolling_back asked reason f) f refl

-- ---- the top-level transaction ends

finishes_ask : (c : Call) (fixed : Outcome) (f : Family) → AskRule f (finishes c fixed f)
unfolding finishes
finishes_ask c fixed f = ends_ask 0 c _ (record f { stage = Over })

tells_next_ask : (o : Option Registration) (so_many : ℕ) (c : Call) (fixed : Outcome) (f : Family) → AskRule f (tells_next o so_many c fixed f)
tells_next_ask (Some s) so_many c fixed f = sends_ask 0 (record c { leg = After (so_many + 1) }) _ None f tt tt
tells_next_ask None so_many c fixed f = finishes_ask c fixed f

afterwards_ask : (so_many : ℕ) (c : Call) (fixed : Outcome) (f : Family) → AskRule f (afterwards so_many c fixed f)
unfolding afterwards
afterwards_ask so_many c fixed f = tells_next_ask (next_told f fixed so_many) so_many c fixed f

rests_ask : (c : Call) (o : Option Outcome) (f : Family) → IsIdle c → AskRule f (rests c o f)
rests_ask c (Some fixed) f idle = afterwards_ask 0 c fixed f
rests_ask c None f idle = waits_ask 0 c f idle

-- the next word of a completion is the one that it has out then
next_asks : (k : Course) (o : Outward) → course.next_word k ≡ Some o → (a : Awaited) → notice_out (UnderWay (course.after_next k)) ≡ Some a → IsAwaited a o
unfolding course.next_word
next_asks k o next a waits = by (is_some k.out) next waits
  where
    inner : {A : Type 0} {x y : A} → Some x ≡ Some y → x ≡ y
    inner e = cc

    asked : (p : Option Party) → option_map (course.outward k (course.first_word (course.decides_alone k))) p ≡ Some o
        → option_map (λ (x : Party). AsksOne (record { word = course.first_word (course.decides_alone k); registration = x.index; to = x.to })) p ≡ Some a → IsAwaited a o
    asked (Some p) goes is = subst (λ (x : Awaited). IsAwaited x o) (inner is) (ap notice_of (inner goes))
    asked None goes is = absurd cc

    outcome_word : (x : Option Outcome) → IsOutcomeWord (course.outcome_word x)
    outcome_word (Some (outcomes.Commit basis)) = tt
    outcome_word (Some (outcomes.Rollback reason)) = tt
    outcome_word (Some outcomes.Unknown) = tt
    outcome_word None = tt

    told : (p : Option Party) → option_map (course.outward k (course.outcome_word (course.outcome k))) p ≡ Some o
        → option_map (λ (x : Party). TellsOne x.index x.to) p ≡ Some a → IsAwaited a o
    told (Some p) goes is = subst (λ (x : Awaited). IsAwaited x o) (inner is) (
      ap (λ (x : Outward). x.registration) (inner goes),
      ap (λ (x : Outward). x.to) (inner goes),
      subst (λ (x : Outward). IsOutcomeWord x.word) (inner goes) (outcome_word (course.outcome k)),
    )
    told None goes is = absurd cc

    by_round : (round : Round) (place : ℕ) → option_map (course.outward k (course.word_of k round)) (slice_get k.parties place) ≡ Some o
        → notice_at (record k { out = course.errand k }) (record { stage = round; place = place }) ≡ Some a → IsAwaited a o
    by_round rounds.Asking place goes is = asked (slice_get k.parties place) goes is
    by_round rounds.Telling place goes is = told (slice_get k.parties place) goes is
    by_round rounds.Forgetting place goes is = absurd cc

    by_errand : (e : Option Errand) → option_and_then (course.outward_of k) e ≡ Some o → option_and_then (notice_at (record k { out = course.errand k })) e ≡ Some a
        → IsAwaited a o
    by_errand (Some e) goes is = by_round e.stage e.place goes is
    by_errand None goes is = absurd cc

    by : (t : Bool) → (if t then None else option_and_then (course.outward_of k) (course.errand k)) ≡ Some o
        → notice_out (UnderWay (if t then k else record k { out = course.errand k })) ≡ Some a → IsAwaited a o
    by true goes is = absurd cc
    by false goes is = by_errand (course.errand k) goes is

-- the word that a family sends so is awaited as that of its completion
awaited_so : (a : Awaited) (o p : Outward) → notice_of p ≡ notice_of o → IsAwaited a o → IsAwaited a p
awaited_so (AsksOne notice) o p same is = is ∙ sym same
awaited_so (TellsOne registration to) o p same (index, reference, word) = (
  index ∙ sym (ap (λ (n : Notice). n.registration) same),
  reference ∙ sym (ap (λ (n : Notice). n.to) same),
  subst IsOutcomeWord (sym (ap (λ (n : Notice). n.word) same)) word,
)

sent_asks : (k : Course) (o : Outward) → course.next_word k ≡ Some o → (c : Call) (f : Family) → IsBare c.leg c.left
    → AskRule (record f { completion = UnderWay k }) (sends 0 c (notice_of o) o.receipt (record f { completion = UnderWay (course.after_next k) }))
unfolding sends
sent_asks k o next c f bare ready = record {
  ready = ready_set f.serial (f.serial + 1) f.calls 0 (Some (record c { out = Some (f.serial + 1) })) (omega arith) (bare, at_most (f.serial + 1)) ready;
  grows = omega arith;
  out = λ number n waits asks. elim (first_or_none f.calls) [
    | inl none ↦ absurd (no number (sym (ap decides_out none) ∙ waits))
    | inr new ↦ inr (sent, (0, omega arith, refl), serial_of c.leg number (sym (ap decides_out new) ∙ waits), awaited_so n o sent refl (next_asks k o next n asks))
  ];
}
  where
    sent : Outward
    sent = outward (record f { completion = UnderWay (course.after_next k) }) (notice_of o) o.receipt

    no : (number : ℕ) → None ≡ Some number → ⊥
    no number e = cc

    first_or_none : (calls : List (Option Call)) → (called (slice_set calls 0 (Some (record c { out = Some (f.serial + 1) }))) 0 ≡ None)
        ⊎ (called (slice_set calls 0 (Some (record c { out = Some (f.serial + 1) }))) 0 ≡ Some (record c { out = Some (f.serial + 1) }))
    first_or_none [] = inl refl
    first_or_none (z ∷ calls) = inr refl

    serial_of : (leg : Leg) (number : ℕ) → out_at leg (Some (f.serial + 1)) ≡ Some number → f.serial + 1 ≡ number
    serial_of Deciding number is = inner is
      where
        inner : {x y : ℕ} → Some x ≡ Some y → x ≡ y
        inner e = cc
    serial_of Below number is = absurd cc
    serial_of Own number is = absurd cc
    serial_of (Before so_many) number is = absurd cc
    serial_of (After so_many) number is = absurd cc

decides_from : (s : Standing) (c : Call) (f : Family) → c.out ≡ None → c.left ≡ [] → AskRule (record f { completion = s }) (decides c (record f { completion = s }))
unfolding decides
decides_from (Waiting room) c f out left = rests_ask (record c { leg = Deciding }) None (record f { completion = Waiting room }) (record { out = out; bare = left })
decides_from (UnderWay k) c f out left = by (course.next_word k) refl
  where
    by : (o : Option Outward) → course.next_word k ≡ o → AskRule (record f { completion = UnderWay k }) (decides_by o (record c { leg = Deciding }) (record f { completion = UnderWay k }))
    by (Some o) next = sent_asks k o next (record c { leg = Deciding }) f left
    by None next = rests_ask (record c { leg = Deciding }) (course.outcome k) (record f { completion = UnderWay k }) (record { out = out; bare = left })

decides_ask : (c : Call) (f : Family) → c.out ≡ None → c.left ≡ [] → AskRule f (decides c f)
decides_ask c f out left = decides_from f.completion c f out left

calls_next_ask : (o : Option Registration) (so_many : ℕ) (c : Call) (f : Family) → c.out ≡ None → c.left ≡ [] → AskRule f (calls_next o so_many c f)
calls_next_ask (Some r) so_many c f out left = sends_ask 0 (record c { leg = Before (so_many + 1) }) _ None f left tt
calls_next_ask None so_many c f out left =
    then_asks f (begins (asking (asked_of c.aim) f) f) (decides c) (begins_ask (asking (asked_of c.aim) f) f refl)
    (decides_ask c (begins (asking (asked_of c.aim) f) f).family out left)

gives_up_ask : (reason : Reason) (c : Call) (f : Family) → c.out ≡ None → c.left ≡ [] → AskRule f (gives_up reason c f ▹ decides c)
gives_up_ask reason c f out left =
    then_asks f (gives_up reason c f) (decides c) (rolls_ask (asked_of c.aim) reason f) (decides_ask c (gives_up reason c f).family out left)

before_ask : (so_many : ℕ) (c : Call) (f : Family) → c.out ≡ None → c.left ≡ [] → AskRule f (before so_many c f)
unfolding before
before_ask so_many c f out left =
    either_asks f (is_marked f 0) _ _ (gives_up_ask reasons.Marked c f out left) (calls_next_ask (next_synchronization f so_many) so_many c f out left)

-- ---- a call goes on

tells_first_ask : (some : List Duty) (b : ℕ) (c : Call) (next : Family → Moved) (f : Family) → ((left : List Duty) → IsBare c.leg left) → IsElsewhere c.leg → AskRule f (next f)
    → AskRule f (tells_first some b c next f)
tells_first_ask [] b c next f bare other rule = rule
tells_first_ask (d ∷ others) b c next f bare other rule = sends_ask b (record c { left = others }) (duty_notice d) None f (bare others) other

pub shows_ask : (x : Effect) (f g : Family) → g.calls ≡ f.calls → g.serial ≡ f.serial → g.completion ≡ f.completion → AskRule f (shows (x ∷ []) g)
shows_ask x f g calls serial completion = same_asks f (shows (x ∷ []) g) calls serial completion

joined : ℕ → ℕ → Family → Family
joined b p f = record f { rows = ended f.rows b true; ballots = adopted b p f.ballots }

commits_up_ask : (b : ℕ) (o : Option ℕ) (c : Call) (f : Family) → IsIdle c → AskRule f (commits_up b o c f)
unfolding commits_up joined
commits_up_ask b (Some p) c f idle =
    then_asks f (shows (effects.SubtransactionEnded b true ∷ []) (joined b p f)) (ends_call b c said.Plain)
    (shows_ask (effects.SubtransactionEnded b true) f (joined b p f) refl refl refl) (ends_ask b c said.Plain (joined b p f))
commits_up_ask b None c f idle = waits_ask b c f idle

own_ends_ask : (aim : Aim) (b : ℕ) (c : Call) (f : Family) → IsIdle c → AskRule f (own_ends aim b c f)
own_ends_ask (Commits asked) b c f idle = commits_up_ask b (adopter f.rows b) c f idle
own_ends_ask (RollsBack says) b c f idle = ends_ask b c says f

tells_own_ask : (b : ℕ) (c : Call) (f : Family) → c.out ≡ None → AskRule f (tells_own b c f)
unfolding tells_own
tells_own_ask b c f out =
    tells_first_ask (own_duties c.aim b f) b (record c { leg = Own }) _ f (λ left. tt) tt (own_ends_ask c.aim b (record c { leg = Own }) f (record { out = out; bare = tt }))

passes_top_ask : (stage : Stage) (c : Call) (f : Family) → c.out ≡ None → c.left ≡ [] → AskRule f (passes_top stage c f)
passes_top_ask Going c f out left = decides_ask c f out left
passes_top_ask Finishing c f out left = before_ask 0 c f out left
passes_top_ask Completing c f out left = decides_ask c f out left
passes_top_ask Over c f out left = decides_ask c f out left

passes_ask : (b : ℕ) (c : Call) (f : Family) → c.out ≡ None → c.left ≡ [] → AskRule f (passes b c f)
unfolding passes
passes_ask b c f out left = either_asks f (b == 0) _ _ (passes_top_ask f.stage c f out left) (tells_own_ask b c f out)

ends_below_ask : (d : ℕ) (f : Family) → AskRule f (ends_below d f)
unfolding ends_below
ends_below_ask d f = set_asks f (ends_below d f) d None refl (omega arith) refl tt refl

bare_below : (leg : Leg) → leg ≡ Below → (left : List Duty) → IsBare leg left
bare_below leg is left = subst (λ (x : Leg). IsBare x left) (sym is) tt

below_elsewhere : (leg : Leg) → leg ≡ Below → IsElsewhere leg
below_elsewhere leg is = subst IsElsewhere (sym is) tt

sweeps_next_ask : (o : Option ℕ) (b : ℕ) (c : Call) (next : Family → Moved) → ((g : Family) → AskRule g (next g)) → (f : Family)
    → c.leg ≡ Below → c.out ≡ None → c.left ≡ [] → AskRule f (sweeps_next o b c next f)
sweeps_next_ask (Some d) b c next all f leg out left =
    then_asks f (ends_below d f) (tells_first (duties_below d f) b c next) (ends_below_ask d f)
    (tells_first_ask (duties_below d f) b c next (ends_below d f).family (bare_below c.leg leg) (below_elsewhere c.leg leg) (all (ends_below d f).family))
sweeps_next_ask None b c next all f leg out left = passes_ask b c f out left

sweeps_ask : (n b : ℕ) (c : Call) (f : Family) → c.leg ≡ Below → c.out ≡ None → c.left ≡ [] → AskRule f (sweeps n b c f)
unfolding sweeps
sweeps_ask zero b c f leg out left = passes_ask b c f out left
sweeps_ask (suc n) b c f leg out left =
    sweeps_next_ask (live_under f.rows b) b c (sweeps n b c) (λ g. sweeps_ask n b c g leg out left) f leg out left

tells_after_ask : (o : Option Outcome) (so_many : ℕ) (c : Call) (f : Family) → IsIdle c → AskRule f (tells_after o so_many c f)
tells_after_ask (Some fixed) so_many c f idle = afterwards_ask so_many c fixed f
tells_after_ask None so_many c f idle = waits_ask 0 c f idle

by_leg_ask : (leg : Leg) (b : ℕ) (c : Call) (f : Family) → c.leg ≡ leg → c.out ≡ None → c.left ≡ [] → AskRule f (by_leg leg b c f)
by_leg_ask Below b c f is out left = sweeps_ask _ b c f is out left
by_leg_ask Own b c f is out left = own_ends_ask c.aim b c f (record { out = out; bare = bare_of c.leg c.left left })
by_leg_ask (Before so_many) b c f is out left = before_ask so_many c f out left
by_leg_ask Deciding b c f is out left = decides_ask c f out left
by_leg_ask (After so_many) b c f is out left = tells_after_ask (stages.outcome f.completion) so_many c f (record { out = out; bare = bare_of c.leg c.left left })

-- a call at the decision has nothing left to tell
left_elsewhere : (leg : Leg) (d : Duty) (others : List Duty) → IsBare leg (d ∷ others) → IsElsewhere leg
left_elsewhere Below d others bare = tt
left_elsewhere Own d others bare = tt
left_elsewhere (Before so_many) d others bare = tt
left_elsewhere Deciding d others bare = absurd cc
left_elsewhere (After so_many) d others bare = tt

left_bare : (leg : Leg) (d : Duty) (others : List Duty) → IsBare leg (d ∷ others) → IsBare leg others
left_bare Below d others bare = tt
left_bare Own d others bare = tt
left_bare (Before so_many) d others bare = absurd cc
left_bare Deciding d others bare = absurd cc
left_bare (After so_many) d others bare = tt

pub runs_ask : (b : ℕ) (c : Call) (f : Family) → IsIdle c → AskRule f (runs b c f)
unfolding runs
runs_ask b c f idle = either_asks f (is_held b c f) _ _ (waits_ask b c f idle) (by_left c.left refl)
  where
    by_left : (left : List Duty) → c.left ≡ left → AskRule f (tells_first left b c (by_leg c.leg b c) f)
    by_left [] is = by_leg_ask c.leg b c f refl idle.out is
    by_left (d ∷ others) is =
        let bare : IsBare c.leg (d ∷ others) = subst (IsBare c.leg) is idle.bare in
        sends_ask b (record c { left = others }) (duty_notice d) None f (left_bare c.leg d others bare) (left_elsewhere c.leg d others bare)

-- the call of a branch goes on, for whose word nobody waits
pub goes_on_ask : (b : ℕ) (f : Family) → ((c : Call) → call_at f b ≡ Some c → c.out ≡ None) → AskRule f (goes_on b f)
unfolding goes_on
goes_on_ask b f out ready = by (call_at f b) refl
  where
    by : (o : Option Call) → call_at f b ≡ o → Asks f (runs_call o b f)
    by (Some c) at = runs_ask b c f (record { out = out c at; bare = (ready b c at).0 }) ready
    by None at = only_asks f ready
