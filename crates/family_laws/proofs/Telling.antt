-- What the rules of a family tell: rows, outcomes and numbers of words follow, and votes and the Done are told where they are
-- heard alone.
use Rattle.std.proofs.Common.{◌≡◌, ◌==◌, ℕ, ◌+◌, ◌<◌, zero, suc, List, [], ◌∷◌, ◌++◌, length, map, get_or, Bool, true, false, if◌then◌else◌, Option, Some, None, is_some, is_none, Any, refl, ap, sym, subst, ◌∙◌, arith}
use Rattle.std.proofs.lemmas.Grind.{common_steps}
use Rattle.std.proofs.lemmas.List.Elements.{filter_map-append}
use Rattle.std.specs.List.{AllByRecursion, filter_map, cons_option}
use Rattle.ior_refs.specs.declared.key.ObjectKey.{ObjectKey}
use Rattle.ots_model.specs.declared.completion.CallNumber.{CallNumber}
use Rattle.ots_model.specs.declared.completion.Heard.{Heard}
use Rattle.ots_model.specs.declared.completion.Receipt.{Receipt}
use Rattle.ots_model.specs.declared.completion.Vote.{Vote}
use Rattle.ots_model.specs.Numbered.{Outcome}
use Rattle.ots_model.specs.declared.tree.Outward.{Outward}
use Rattle.ots_model.specs.declared.tree.Reason.{Reason}
use Rattle.ots_model.specs.declared.tree.Reason.TheVariants as reasons
use Rattle.txn_tree.specs.Calls.{ended, live_under}
use Rattle.txn_tree.specs.declared.row.Row.{Row}
use Rattle.resource_votes.specs.Ballots.{adopted}
use Rattle.resource_votes.specs.declared.registration.Registration.{Registration}
use Rattle.two_phase.specs.Course as course
use Rattle.two_phase.specs.Course.{Course}
use Rattle.two_phase.specs.LawsOfReached.{TreeBecomes, TreeOutcomeStays}
use Rattle.two_phase.specs.LawsOfReached.IsReached.{begins as reached, rolls_back as reached_by_rollback, goes_on as reached_on}
use Rattle.two_phase.specs.LawsOfReached.TreeBecomes.{by_word}
use Rattle.two_phase.specs.Parties.{party_of}
use Rattle.two_phase.specs.Stages as stages
use Rattle.two_phase.specs.Stages.{Standing, Waiting, Going as UnderWay}
use Rattle.two_phase.specs.declared.party.Party.{Party}
use Rattle.coordinator.specs.declared.call.Leg.{Leg}
use Rattle.coordinator.specs.declared.call.Leg.TheVariants.{Below, Own, Before, Deciding, After}
use Rattle.coordinator.specs.declared.call.Stage.{Stage}
use Rattle.coordinator.specs.declared.call.Stage.TheVariants.{Going, Finishing, Completing, Over}
use Rattle.coordinator.specs.declared.effect.Effect.{Effect}
use Rattle.coordinator.specs.declared.effect.Effect.TheVariants as effects
use Rattle.coordinator.specs.declared.said.Said.{Said}
use Rattle.coordinator.specs.declared.said.Said.TheVariants as said
use Rattle.coordinator.specs.Family.{Family, Aim, Call, Commits, RollsBack, Duty, call_at, number_of}
use Rattle.coordinator.specs.Laws.{IsThere}
use Rattle.coordinator.specs.Moves.{Moved, Notice, only, ◌▹◌, shows, sends, ends_call, fixed_now, completes_as}
use Rattle.coordinator.specs.Closing.{asked_of, asking, asked_ones, rolling_back, begun, begins, decides, decides_by, rests, afterwards, tells_next, next_told, finishes, next_synchronization, calls_next, gives_up, before, waits}
use Rattle.coordinator.specs.Running.{duty_notice, tells_first, commits_up, adopter, own_ends, own_duties, tells_own, passes_top, passes, ends_below, duties_below, sweeps_next, sweeps, is_held, tells_after, by_leg, runs, runs_call, goes_on}
use Rattle.coordinator.specs.Phases.{is_marked}
use Rattle.family_laws.specs.LawsOfTelling.{rows_told, AreNumberedFrom, decided_in, HasAnswered, HasVote, IsAnswered, IsVoted}
use Rattle.family_laws.proofs.Lists.{all_joined}
use Rattle.family_laws.proofs.Turns.{told_joined, fixed_rows}

-- ---- what becomes of a completion

-- it is there still, and its outcome stays
pub record Stays (s t : Standing) : Type 0 where
  pub there : IsThere t
  pub same : (fixed : Outcome) → stages.outcome s ≡ Some fixed → stages.outcome t ≡ Some fixed

-- where outcomes stay, one that is new is told
abbrev pub TellsNew : Standing → Standing → List Effect → Type 0
TellsNew s t some = TreeOutcomeStays → IsThere s → Stays s t × (filter_map decided_in some ≡ filter_map decided_in (fixed_now (stages.outcome s) (stages.outcome t)))

fixed_joined : (a b c : Option Outcome) → ((x : Outcome) → a ≡ Some x → b ≡ Some x) → ((x : Outcome) → b ≡ Some x → c ≡ Some x)
    → filter_map decided_in (fixed_now a b) ++ filter_map decided_in (fixed_now b c) ≡ filter_map decided_in (fixed_now a c)
fixed_joined None None c m n = refl
fixed_joined None (Some y) c m n = rw (n y refl) refl
fixed_joined (Some x) b c m n = rw (m x refl) refl

new_joined : (s t u : Standing) (some others : List Effect) → TellsNew s t some → TellsNew t u others → TellsNew s u (some ++ others)
new_joined s t u some others h k law there =
    let first = h law there in
    let second = k law first.0.there in (
      record { there = second.0.there; same = λ x e. second.0.same x (first.0.same x e) },
      filter_map-append decided_in some others
          ∙ ap (λ (xs : List Outcome). xs ++ filter_map decided_in others) first.1
          ∙ ap (λ (xs : List Outcome). filter_map decided_in (fixed_now (stages.outcome s) (stages.outcome t)) ++ xs) second.1
          ∙ fixed_joined (stages.outcome s) (stages.outcome t) (stages.outcome u) first.0.same second.0.same,
    )

same_new : (a : Option Outcome) → [] ≡ filter_map decided_in (fixed_now a a)
same_new None = refl
same_new (Some x) = refl

pub nothing_new : (s : Standing) (some : List Effect) → filter_map decided_in some ≡ [] → TellsNew s s some
nothing_new s some e law there = (record { there = there; same = λ x i. i }, e ∙ same_new (stages.outcome s))

-- ---- numbers

numbers_joined : (key : ObjectKey) (n : ℕ) (some others : List Outward) → AreNumberedFrom key n some → AreNumberedFrom key (n + length some) others → AreNumberedFrom key n (some ++ others)
numbers_joined key n [] others h k = let e : n + 0 ≡ n = omega arith in subst (λ (m : ℕ). AreNumberedFrom key m others) e k
numbers_joined key n (o ∷ some) others h k =
    let e : n + length (o ∷ some) ≡ (n + 1) + length some = omega arith in
    (h.0, numbers_joined key (n + 1) some others h.1 (subst (λ (m : ℕ). AreNumberedFrom key m others) e k))

length_joined : (some others : List Outward) → length (some ++ others) ≡ length some + length others
length_joined some others = grind (arith, common_steps)

-- ---- what a rule tells

pub record IsTold (key : ObjectKey) (serial : ℕ) (rs : List Row) (s : Standing) (m : Moved) : Type 0 where
  pub key_stays : m.family.key ≡ key
  pub counts : m.family.serial ≡ serial + length m.words
  pub numbers : AreNumberedFrom key serial m.words
  pub follows : m.family.rows ≡ rows_told m.effects rs
  pub outcomes : TellsNew s m.family.completion m.effects

abbrev pub Told : Family → Moved → Type 0
Told f m = IsTold f.key f.serial f.rows f.completion m

pub told_next : (f : Family) (first : Moved) (next : Family → Moved) → Told f first → Told first.family (next first.family) → Told f (first ▹ next)
told_next f first next h k =
    let second : Moved = next first.family in
    record {
      key_stays = k.key_stays ∙ h.key_stays;
      counts = k.counts ∙ ap (λ (n : ℕ). n + length second.words) h.counts ∙ (let l = length_joined first.words second.words in omega (arith, l));
      numbers = numbers_joined f.key f.serial first.words second.words h.numbers
          (subst (λ (n : ℕ). AreNumberedFrom f.key n second.words) h.counts (subst (λ (x : ObjectKey). AreNumberedFrom x first.family.serial second.words) h.key_stays k.numbers));
      follows = k.follows ∙ ap (λ (xs : List Row). rows_told second.effects xs) h.follows ∙ sym (told_joined f.rows first.effects second.effects);
      outcomes = new_joined f.completion first.family.completion second.family.completion first.effects second.effects h.outcomes k.outcomes;
    }

-- no vote is told, and no Done; votes that count stay, and a record that stands
abbrev pub IsOther : Effect → Type 0
IsOther (effects.Voted g vote) = ⊥
IsOther (effects.Decided fixed) = Unit {0}
IsOther (effects.SubtransactionEnded b committed) = Unit {0}
IsOther (effects.Marked b) = Unit {0}
IsOther effects.Doubted = Unit {0}
IsOther effects.Done = ⊥

pub record IsKept (s t : Standing) : Type 0 where
  pub voted : (g : ℕ) (vote : Vote) → IsVoted s g vote → IsVoted t g vote
  pub votes : (g : ℕ) (vote : Vote) → IsVoted t g vote → IsVoted s g vote
  pub place : (p : ℕ) → stages.record_place s ≡ Some p → stages.record_place t ≡ Some p
  pub alone : stages.decides_alone t ≡ false → stages.decides_alone s ≡ false
  pub answers : (g : ℕ) (heard : Heard) → IsAnswered t g heard → IsAnswered s g heard

pub kept_itself : (s : Standing) → IsKept s s
kept_itself s = record { voted = λ g v h. h; votes = λ g v h. h; place = λ p e. e; alone = λ e. e; answers = λ g x h. h }

pub kept_further : (s t u : Standing) → IsKept s t → IsKept t u → IsKept s u
kept_further s t u h k = record {
  voted = λ g v x. k.voted g v (h.voted g v x);
  votes = λ g v x. h.votes g v (k.votes g v x);
  place = λ p e. k.place p (h.place p e);
  alone = λ e. h.alone (k.alone e);
  answers = λ g x i. h.answers g x (k.answers g x i);
}

-- a rule tells what it does, and has nothing of votes or of the Done
pub record IsPlain (key : ObjectKey) (serial : ℕ) (rs : List Row) (s : Standing) (m : Moved) : Type 0 where
  pub told : IsTold key serial rs s m
  pub others : AllByRecursion IsOther m.effects
  pub kept : IsKept s m.family.completion

abbrev pub Plain : Family → Moved → Type 0
Plain f m = IsPlain f.key f.serial f.rows f.completion m

pub plain_next : (f : Family) (first : Moved) (next : Family → Moved) → Plain f first → Plain first.family (next first.family) → Plain f (first ▹ next)
plain_next f first next h k = record {
  told = told_next f first next h.told k.told;
  others = all_joined IsOther first.effects (next first.family).effects h.others k.others;
  kept = kept_further f.completion first.family.completion (next first.family).family.completion h.kept k.kept;
}

pub either_plain : (f : Family) (t : Bool) (x y : Moved) → Plain f x → Plain f y → Plain f (if t then x else y)
either_plain f true x y h k = h
either_plain f false x y h k = k

-- ---- the simple rules

pub only_plain : (f : Family) → Plain f (only f)
only_plain f = record {
  told = record { key_stays = refl; counts = omega arith; numbers = tt; follows = refl; outcomes = nothing_new f.completion [] refl };
  others = tt;
  kept = kept_itself f.completion;
}

-- a call waits, or ends
pub waits_plain : (b : ℕ) (c : Call) (f : Family) → Plain f (waits b c f)
waits_plain b c f = record {
  told = record { key_stays = refl; counts = omega arith; numbers = tt; follows = refl; outcomes = nothing_new f.completion [] refl };
  others = tt;
  kept = kept_itself f.completion;
}

pub ends_plain : (b : ℕ) (c : Call) (answer : Said) (f : Family) → Plain f (ends_call b c answer f)
unfolding ends_call
ends_plain b c answer f = record {
  told = record { key_stays = refl; counts = omega arith; numbers = tt; follows = refl; outcomes = nothing_new f.completion [] refl };
  others = tt;
  kept = kept_itself f.completion;
}

-- a word goes out
pub sends_plain : (b : ℕ) (c : Call) (n : Notice) (r : Option Receipt) (f : Family) → Plain f (sends b c n r f)
unfolding sends
sends_plain b c n r f = record {
  told = record { key_stays = refl; counts = refl; numbers = (refl, tt); follows = refl; outcomes = nothing_new f.completion [] refl };
  others = tt;
  kept = kept_itself f.completion;
}

-- something else happened, and the rows are as it says
pub shows_plain : (x : Effect) (f g : Family) → IsOther x → decided_in x ≡ None → g.key ≡ f.key → g.serial ≡ f.serial → g.rows ≡ rows_told (x ∷ []) f.rows → g.completion ≡ f.completion
    → Plain f (shows (x ∷ []) g)
shows_plain x f g other none a b c d = record {
  told = record {
    key_stays = a;
    counts = b ∙ omega arith;
    numbers = tt;
    follows = c;
    outcomes = subst (λ (s : Standing). TellsNew f.completion s (x ∷ [])) (sym d) (nothing_new f.completion (x ∷ []) (ap (λ (o : Option Outcome). cons_option o []) none));
  };
  others = (other, tt);
  kept = subst (λ (s : Standing). IsKept f.completion s) (sym d) (kept_itself f.completion);
}

pub fixed_others : (a b : Option Outcome) → AllByRecursion IsOther (fixed_now a b)
fixed_others None None = tt
fixed_others None (Some x) = (tt, tt)
fixed_others (Some x) b = tt

-- a completion goes on
pub completes_told : (later : Standing) (f : Family) → (TreeOutcomeStays → IsThere f.completion → Stays f.completion later) → Told f (completes_as later f)
unfolding completes_as
completes_told later f h = record {
  key_stays = refl;
  counts = omega arith;
  numbers = tt;
  follows = fixed_rows f.rows (stages.outcome f.completion) (stages.outcome later);
  outcomes = λ law there. (h law there, refl);
}

pub completes_plain : (later : Standing) (f : Family) → (TreeOutcomeStays → IsThere f.completion → Stays f.completion later) → IsKept f.completion later → Plain f (completes_as later f)
unfolding completes_as
completes_plain later f h k = record { told = completes_told later f h; others = fixed_others (stages.outcome f.completion) (stages.outcome later); kept = k }

-- by one step of a completion under way
pub stays_by : (c later : Course) → TreeBecomes c later → TreeOutcomeStays → IsThere (UnderWay c) → Stays (UnderWay c) (UnderWay later)
stays_by c later b law there = record { there = reached_on c later there b; same = λ x e. law c later x there b e }

-- ---- the top-level transaction ends

finishes_plain : (c : Call) (fixed : Outcome) (f : Family) → Plain f (finishes c fixed f)
unfolding finishes
finishes_plain c fixed f = ends_plain 0 c _ (record f { stage = Over })

tells_next_plain : (o : Option Registration) (called : ℕ) (c : Call) (fixed : Outcome) (f : Family) → Plain f (tells_next o called c fixed f)
tells_next_plain (Some r) called c fixed f = sends_plain 0 _ _ None f
tells_next_plain None called c fixed f = finishes_plain c fixed f

afterwards_plain : (called : ℕ) (c : Call) (fixed : Outcome) (f : Family) → Plain f (afterwards called c fixed f)
unfolding afterwards
afterwards_plain called c fixed f = tells_next_plain (next_told f fixed called) called c fixed f

rests_plain : (c : Call) (o : Option Outcome) (f : Family) → Plain f (rests c o f)
rests_plain c (Some fixed) f = afterwards_plain 0 c fixed f
rests_plain c None f = waits_plain 0 c f

-- the next word of a completion leaves the same outcome, so nothing is told
pub either_course : (P : Course → Type 0) (t : Bool) (x y : Course) → P x → P y → P (if t then x else y)
either_course P true x y p q = p
either_course P false x y p q = q

next_outcome : (k : Course) → course.outcome (course.after_next k) ≡ course.outcome k
unfolding course.outcome course.all_consent course.some_commit
next_outcome k = either_course (λ d. course.outcome d ≡ course.outcome k) (is_some k.out) k (record k { out = course.errand k }) refl refl

next_kept : (k : Course) → IsKept (UnderWay k) (UnderWay (course.after_next k))
next_kept k = either_course (λ d. IsKept (UnderWay k) (UnderWay d)) (is_some k.out) k (record k { out = course.errand k }) (kept_itself (UnderWay k))
    (record { voted = λ g v h. h; votes = λ g v h. h; place = λ p e. e; alone = λ e. e; answers = λ g x h. h })

next_new : (k : Course) → TellsNew (UnderWay k) (UnderWay (course.after_next k)) []
next_new k law there = (
  stays_by k (course.after_next k) (by_word k) law there,
  subst (λ (o : Option Outcome). [] ≡ filter_map decided_in (fixed_now (course.outcome k) o)) (sym (next_outcome k)) (same_new (course.outcome k)),
)

sent_plain : (k : Course) (o : Option Outward) (c : Call) (f : Family) → Plain (record f { completion = UnderWay k }) (decides_by o c (record f { completion = UnderWay k }))
unfolding sends
sent_plain k (Some w) c f = record {
  told = record { key_stays = refl; counts = refl; numbers = (refl, tt); follows = refl; outcomes = next_new k };
  others = tt;
  kept = next_kept k;
}
sent_plain k None c f = rests_plain c (course.outcome k) (record f { completion = UnderWay k })

decides_from : (s : Standing) (c : Call) (f : Family) → Plain (record f { completion = s }) (decides c (record f { completion = s }))
unfolding decides
decides_from (Waiting room) c f = rests_plain (record c { leg = Deciding }) None (record f { completion = Waiting room })
decides_from (UnderWay k) c f = sent_plain k (course.next_word k) (record c { leg = Deciding }) f

pub decides_plain : (c : Call) (f : Family) → Plain f (decides c f)
decides_plain c f = decides_from f.completion c f

-- nobody has voted in a completion that begins
none_voted : (rs : List Registration) (g : ℕ) (vote : Vote) → Any (HasVote g vote) (map party_of rs) → ⊥
none_voted rs g vote h = go rs h.0 h.2 h.3
  where
    go : (rs : List Registration) (k : ℕ) → k < length (map party_of rs) → get_or (map party_of rs) k h.1 ≡ h.1 → ⊥
    go [] k l e = absurd (omega (arith, l))
    go (r ∷ rs) zero l e = absurd (cc (ap (λ (p : Party). p.ballot) e ∙ h.4.1))
    go (r ∷ rs) (suc k) l e = go rs k (omega (arith, l)) e

-- nor answered
none_answered : (rs : List Registration) (g : ℕ) (heard : Heard) → Any (HasAnswered g heard) (map party_of rs) → ⊥
none_answered rs g heard h = go rs h.0 h.2 h.3
  where
    go : (rs : List Registration) (k : ℕ) → k < length (map party_of rs) → get_or (map party_of rs) k h.1 ≡ h.1 → ⊥
    go [] k l e = absurd (omega (arith, l))
    go (r ∷ rs) zero l e = absurd (cc (ap (λ (p : Party). p.told) e ∙ h.4.1))
    go (r ∷ rs) (suc k) l e = go rs k (omega (arith, l)) e

begun_asking : (s : Standing) (some : List Registration) (asked : Bool) (n : CallNumber) (one : Bool) → (TreeOutcomeStays → IsThere s → Stays s (begun s (stages.started some asked n one)))
begun_asking (Waiting room) some asked n one law there = record { there = reached some asked n one; same = λ x e. absurd (cc e) }
begun_asking (UnderWay k) some asked n one law there = record { there = there; same = λ x e. e }

begun_rolling : (s : Standing) (some : List Registration) (asked : Bool) (n : CallNumber) (one : Bool) (reason : Reason)
    → (TreeOutcomeStays → IsThere s → Stays s (begun s (stages.started_rollback some asked n one reason)))
begun_rolling (Waiting room) some asked n one reason law there = record { there = reached_by_rollback some asked n one reason; same = λ x e. absurd (cc e) }
begun_rolling (UnderWay k) some asked n one reason law there = record { there = there; same = λ x e. e }

kept_asking : (s : Standing) (some : List Registration) (asked : Bool) (n : CallNumber) (one : Bool) → IsKept s (begun s (stages.started some asked n one))
kept_asking (Waiting room) some asked n one = record { voted = λ g v h. absurd h; votes = λ g v h. none_voted some g v h; place = λ p e. absurd (cc e); alone = λ e. refl; answers = λ g x h. none_answered some g x h }
kept_asking (UnderWay k) some asked n one = kept_itself (UnderWay k)

kept_rolling : (s : Standing) (some : List Registration) (asked : Bool) (n : CallNumber) (one : Bool) (reason : Reason) → IsKept s (begun s (stages.started_rollback some asked n one reason))
kept_rolling (Waiting room) some asked n one reason = record { voted = λ g v h. absurd h; votes = λ g v h. none_voted some g v h; place = λ p e. absurd (cc e); alone = λ e. refl; answers = λ g x h. none_answered some g x h }
kept_rolling (UnderWay k) some asked n one reason = kept_itself (UnderWay k)

asks_plain : (asked : Bool) (f : Family) → Plain f (begins (asking asked f) f)
unfolding begins
asks_plain asked f = completes_plain (begun f.completion (asking asked f)) (record f { stage = Completing })
    (begun_asking f.completion (asked_ones f) asked (number_of f 1) (is_none f.superior))
    (kept_asking f.completion (asked_ones f) asked (number_of f 1) (is_none f.superior))

pub rolls_plain : (asked : Bool) (reason : Reason) (f : Family) → Plain f (begins (rolling_back asked reason f) f)
unfolding begins
rolls_plain asked reason f = completes_plain (begun f.completion (rolling_back asked reason f)) (record f { stage = Completing })
    (begun_rolling f.completion (asked_ones f) asked (number_of f 1) (is_none f.superior) reason)
    (kept_rolling f.completion (asked_ones f) asked (number_of f 1) (is_none f.superior) reason)

calls_next_plain : (o : Option Registration) (called : ℕ) (c : Call) (f : Family) → Plain f (calls_next o called c f)
calls_next_plain (Some r) called c f = sends_plain 0 _ _ None f
calls_next_plain None called c f =
    plain_next f (begins (asking (asked_of c.aim) f) f) (decides c) (asks_plain (asked_of c.aim) f) (decides_plain c (begins (asking (asked_of c.aim) f) f).family)

before_plain : (called : ℕ) (c : Call) (f : Family) → Plain f (before called c f)
unfolding before
before_plain called c f = either_plain f (is_marked f 0) _ _
    (plain_next f (gives_up reasons.Marked c f) (decides c) (rolls_plain (asked_of c.aim) reasons.Marked f) (decides_plain c (gives_up reasons.Marked c f).family))
    (calls_next_plain (next_synchronization f called) called c f)

-- ---- a call goes on

tells_first_plain : (some : List Duty) (b : ℕ) (c : Call) (next : Family → Moved) (f : Family) → Plain f (next f) → Plain f (tells_first some b c next f)
tells_first_plain [] b c next f h = h
tells_first_plain (d ∷ others) b c next f h = sends_plain b _ (duty_notice d) None f

joined : ℕ → ℕ → Family → Family
joined b p f = record f { rows = ended f.rows b true; ballots = adopted b p f.ballots }

commits_up_plain : (b : ℕ) (o : Option ℕ) (c : Call) (f : Family) → Plain f (commits_up b o c f)
unfolding commits_up joined
commits_up_plain b (Some p) c f =
    plain_next f (shows (effects.SubtransactionEnded b true ∷ []) (joined b p f)) (ends_call b c said.Plain)
    (shows_plain (effects.SubtransactionEnded b true) f (joined b p f) tt refl refl refl refl refl) (ends_plain b c said.Plain (joined b p f))
commits_up_plain b None c f = waits_plain b c f

own_ends_plain : (aim : Aim) (b : ℕ) (c : Call) (f : Family) → Plain f (own_ends aim b c f)
own_ends_plain (Commits asked) b c f = commits_up_plain b (adopter f.rows b) c f
own_ends_plain (RollsBack says) b c f = ends_plain b c says f

tells_own_plain : (b : ℕ) (c : Call) (f : Family) → Plain f (tells_own b c f)
unfolding tells_own
tells_own_plain b c f = tells_first_plain (own_duties c.aim b f) b _ _ f (own_ends_plain c.aim b _ f)

passes_top_plain : (stage : Stage) (c : Call) (f : Family) → Plain f (passes_top stage c f)
passes_top_plain Going c f = decides_plain c f
passes_top_plain Finishing c f = before_plain 0 c f
passes_top_plain Completing c f = decides_plain c f
passes_top_plain Over c f = decides_plain c f

passes_plain : (b : ℕ) (c : Call) (f : Family) → Plain f (passes b c f)
unfolding passes
passes_plain b c f = either_plain f (b == 0) _ _ (passes_top_plain f.stage c f) (tells_own_plain b c f)

ends_below_plain : (d : ℕ) (f : Family) → Plain f (ends_below d f)
unfolding ends_below
ends_below_plain d f = record {
  told = record { key_stays = refl; counts = omega arith; numbers = tt; follows = refl; outcomes = nothing_new f.completion (effects.SubtransactionEnded d false ∷ []) refl };
  others = (tt, tt);
  kept = kept_itself f.completion;
}

sweeps_next_plain : (o : Option ℕ) (b : ℕ) (c : Call) (next : Family → Moved) → ((g : Family) → Plain g (next g)) → (f : Family) → Plain f (sweeps_next o b c next f)
sweeps_next_plain (Some d) b c next all f =
    plain_next f (ends_below d f) (tells_first (duties_below d f) b c next) (ends_below_plain d f)
    (tells_first_plain (duties_below d f) b c next (ends_below d f).family (all (ends_below d f).family))
sweeps_next_plain None b c next all f = passes_plain b c f

sweeps_plain : (n b : ℕ) (c : Call) (f : Family) → Plain f (sweeps n b c f)
unfolding sweeps
sweeps_plain zero b c f = passes_plain b c f
sweeps_plain (suc n) b c f = sweeps_next_plain (live_under f.rows b) b c (sweeps n b c) (sweeps_plain n b c) f

tells_after_plain : (o : Option Outcome) (called : ℕ) (c : Call) (f : Family) → Plain f (tells_after o called c f)
tells_after_plain (Some fixed) called c f = afterwards_plain called c fixed f
tells_after_plain None called c f = waits_plain 0 c f

by_leg_plain : (leg : Leg) (b : ℕ) (c : Call) (f : Family) → Plain f (by_leg leg b c f)
by_leg_plain Below b c f = sweeps_plain (length f.rows) b c f
by_leg_plain Own b c f = own_ends_plain c.aim b c f
by_leg_plain (Before called) b c f = before_plain called c f
by_leg_plain Deciding b c f = decides_plain c f
by_leg_plain (After called) b c f = tells_after_plain (stages.outcome f.completion) called c f

pub runs_plain : (b : ℕ) (c : Call) (f : Family) → Plain f (runs b c f)
unfolding runs
runs_plain b c f = either_plain f (is_held b c f) _ _ (waits_plain b c f) (tells_first_plain c.left b c _ f (by_leg_plain c.leg b c f))

runs_call_plain : (o : Option Call) (b : ℕ) (f : Family) → Plain f (runs_call o b f)
runs_call_plain (Some c) b f = runs_plain b c f
runs_call_plain None b f = only_plain f

pub goes_on_plain : (b : ℕ) (f : Family) → Plain f (goes_on b f)
unfolding goes_on
goes_on_plain b f = runs_call_plain (call_at f b) b f
