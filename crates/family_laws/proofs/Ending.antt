-- The end of the top-level transaction leaves sound families.
use Rattle.std.proofs.Common.{◌≡◌, ◌≢◌, ◌⊎◌, ◌==◌, inl, inr, ℕ, ◌+◌, ◌<◌, zero, suc, List, [], ◌∷◌, length, map, get_or, ◌&&◌, not, Bool, true, false, if◌then◌else◌, Option, Some, None, is_none, is_some, Contains, Any, refl, sym, subst, ◌∙◌, arith}
use Rattle.std.specs.List.{AllByRecursion, slice_get}
use Rattle.std.proofs.lemmas.Option.{slice_get_within}
use Rattle.ots_model.specs.declared.completion.Heard.{Heard as ParticipantHeard}
use Rattle.ots_model.specs.declared.completion.Heard.TheVariants as phase_hears
use Rattle.ots_model.specs.declared.completion.Vote.TheVariants.{VoteCommit, VoteRollback, VoteReadOnly}
use Rattle.ots_model.specs.Numbered.{Outcome}
use Rattle.ots_model.specs.declared.completion.Outcome.TheVariants as outcomes
use Rattle.ots_model.specs.declared.tree.Outward.{Outward}
use Rattle.ots_model.specs.declared.tree.Reason.{Reason}
use Rattle.ots_model.specs.declared.tree.Reason.TheVariants as reasons
use Rattle.ots_model.specs.declared.tree.Word.{Word}
use Rattle.ots_model.specs.declared.completion.Word.TheVariants as phase_words
use Rattle.ots_model.specs.declared.tree.Word.TheVariants as words
use Rattle.txn_tree.specs.declared.row.Row.{Row}
use Rattle.resource_votes.specs.Ballots.{Ballots}
use Rattle.resource_votes.specs.Ballots as ballots
use Rattle.resource_votes.specs.declared.registration.Registration.{Registration}
use Rattle.two_phase.specs.Course as course
use Rattle.two_phase.specs.Course.{Course}
use Rattle.two_phase.specs.Parties.{hears_rollback}
use Rattle.two_phase.specs.LawsOfCourses.{GoesRightly, RestsOn, IsRollback}
use Rattle.two_phase.specs.LawsOfReached.IsReached.{begins as reached, rolls_back as reached_by_rollback, goes_on as reached_on}
use Rattle.two_phase.specs.LawsOfReached.TreeBecomes.{by_word}
use Rattle.two_phase.specs.Stages as stages
use Rattle.two_phase.specs.Stages.{Standing, Waiting, Going as UnderWay}
use Rattle.two_phase.specs.declared.party.Party.{Party}
use Rattle.coordinator.specs.declared.call.Leg.{Leg}
use Rattle.coordinator.specs.declared.call.Leg.TheVariants.{Before, Deciding, After}
use Rattle.coordinator.specs.declared.call.Stage.{Stage}
use Rattle.coordinator.specs.declared.call.Stage.TheVariants.{Finishing, Completing, Over}
use Rattle.coordinator.specs.Family.{Family, Aim, Call, Duty, Commits}
use Rattle.coordinator.specs.Moves.{completes_as}
use Rattle.coordinator.specs.Closing.{asked_of, asking, asked_ones, rolling_back, begun, begins, decides, decides_by, notice_of, rests, afterwards, tells_next, next_told, finishes, next_synchronization, calls_next, before}
use Rattle.coordinator.specs.Phases.{is_before, is_marked}
use Rattle.family_laws.specs.LawsOfSteps.{GoesBack, GoesToParticipant, Rests, IsNotAlone, IsRolledBack}
use Rattle.family_laws.specs.Trees.{IsCutOff}
use Rattle.family_laws.specs.LawsOfTelling.{HasVote}
use Rattle.family_laws.specs.Sound.{NoneLive, HasParties, IsAsking, IsWaiting, IsSoundCompletion, IsInStage, IsDue, IsSoundCall}
use Rattle.family_laws.specs.LawsBelow.{Laws}
use Rattle.family_laws.proofs.Changes.{completion_staged, has_begun}
use Rattle.family_laws.proofs.Lists.{has_at, any_there, all_there}
use Rattle.family_laws.proofs.Seats.{IsBut, But, call_staged}
use Rattle.family_laws.proofs.Turns.{IsFine, Fine, Quiet, chained, either, fixed_rows, fixed_turn, waits_fine, sends_fine, ends_fine, soft_rests}

-- the top-level transaction's call is sound in a leg, where its duties are
pub top_call : (stage : Stage) (rs : List Row) (some : Ballots) (aim : Aim) (leg : Leg) (left : List Duty) → IsInStage stage aim leg → NoneLive rs → AllByRecursion (IsDue rs some) left
    → IsSoundCall stage rs some 0 aim leg left
top_call stage rs some aim leg left e n dues = record {
  top = λ z. record { in_stage = e; alone = λ past. n };
  sub = λ p. absurd (omega (arith, p));
  dues = dues;
}

-- what goes on with the top-level transaction's call once no subtransaction is live
pub record IsAlone (f : Family) (c : Call) : Type 0 where
  pub but : But 0 f
  pub none : NoneLive f.rows
  pub dues : AllByRecursion (IsDue f.rows f.ballots) c.left

-- another stage, and another completion
pub but_staged : (f : Family) (next : Stage) (s : Standing) → IsSoundCompletion next f.rows f.ballots s → But 0 f → But 0 (record f { stage = next; completion = s })
but_staged f next s k h = record {
  lists = h.lists;
  completion = k;
  as_many = h.as_many;
  others = λ d c o e. call_staged f.stage next f.rows f.ballots d c.aim c.leg c.left o (h.others d c o e);
  finishing = λ n. absurd (n refl);
}

-- ---- it has ended

not_before : (stage : Stage) → stage ≡ Completing → is_before stage ≡ false
not_before stage e = rw e refl

finishes_fine : (early : Bool) (rs : List Row) (c : Call) (fixed : Outcome) (f : Family) → f.stage ≡ Completing → IsAlone f c → IsFine early rs (finishes c fixed f)
unfolding finishes
finishes_fine early rs c fixed f e a =
    ends_fine early rs 0 c _ (record f { stage = Over })
    (but_staged f Over f.completion (completion_staged f.stage Over f.rows f.ballots f.completion (not_before f.stage e) refl a.but.completion) a.but)
    (λ z n. absurd (cc n))

tells_next_fine : (early : Bool) (rs : List Row) (o : Option Registration) (called : ℕ) (c : Call) (fixed : Outcome) (f : Family) → f.stage ≡ Completing → IsAlone f c
    → IsFine early rs (tells_next o called c fixed f)
tells_next_fine early rs (Some r) called c fixed f e a =
    sends_fine early rs 0 (record c { leg = After (called + 1) }) _ None f a.but
    (top_call f.stage f.rows f.ballots c.aim (After (called + 1)) c.left e a.none a.dues)
    (soft_rests f.completion f.ballots f.rows _ tt)
tells_next_fine early rs None called c fixed f e a = finishes_fine early rs c fixed f e a

pub afterwards_fine : (early : Bool) (rs : List Row) (called : ℕ) (c : Call) (fixed : Outcome) (f : Family) → f.stage ≡ Completing → IsAlone f c → IsFine early rs (afterwards called c fixed f)
unfolding afterwards
afterwards_fine early rs called c fixed f e a = tells_next_fine early rs (next_told f fixed called) called c fixed f e a

-- ---- its completion goes on

-- the registration of a participant
pub record IsOf (some : List Registration) (p : Party) : Type 0 where
  pub r : Registration
  pub there : Contains some r
  pub number : r.index ≡ p.index
  pub reference : r.to ≡ p.to

pub of_party : (parties : List Party) (some : List Registration) → map (λ (p : Party). p.index) parties ≡ map (λ (r : Registration). r.index) some
    → map (λ (p : Party). p.to) parties ≡ map (λ (r : Registration). r.to) some → (k : ℕ) (p : Party) → slice_get parties k ≡ Some p → IsOf some p
of_party parties some e g k p is = go parties some e g k is (λ r j. j)
  where
    go : (ps : List Party) (rs : List Registration) → map (λ (p : Party). p.index) ps ≡ map (λ (r : Registration). r.index) rs
        → map (λ (p : Party). p.to) ps ≡ map (λ (r : Registration). r.to) rs → (k : ℕ) → slice_get ps k ≡ Some p
        → ((r : Registration) → Contains rs r → Contains some r) → IsOf some p
    go [] rs e g k is there = absurd (cc is)
    go (q ∷ ps) [] e g k is there = absurd (cc e)
    go (q ∷ ps) (r ∷ rs) e g zero is there =
        let i : q ≡ p = cc is in
        record { r = r; there = there r (has_at (r ∷ rs) 0 r refl); number = cc (e, i); reference = cc (g, i) }
    go (q ∷ ps) (r ∷ rs) e g (suc k) is there = go ps rs (cc e) (cc g) k is (λ s h. there s (later r rs s h))
      where
        later : (r : Registration) (rs : List Registration) (s : Registration) → Contains rs s → Contains (r ∷ rs) s
        later r rs s h = (suc h.0, omega (arith, h.1), h.2)

-- a word that goes out changes neither the outcome nor the participants
next_either : (P : Course → Type 0) (c : Course) → P c → P (record c { out = course.errand c }) → P (course.after_next c)
next_either P c h k = go (is_some c.out)
  where
    go : (t : Bool) → P (if t then c else record c { out = course.errand c })
    go true = h
    go false = k

same_outcome : (c : Course) → course.outcome (course.after_next c) ≡ course.outcome c
unfolding course.outcome course.all_consent course.some_commit
same_outcome c = next_either (λ (d : Course). course.outcome d ≡ course.outcome c) c refl refl

completion_next : (stage : Stage) (rs : List Row) (some : Ballots) (s : Standing) → IsSoundCompletion stage rs some s → IsSoundCompletion stage rs some (stages.after_next s)
completion_next stage rs some (Waiting room) h = h
completion_next stage rs some (UnderWay c) h = record {
  begun = h.begun;
  there = reached_on c (course.after_next c) h.there (by_word c);
  parties = next_either (λ (d : Course). HasParties (UnderWay d) (ballots.participants 0 some)) c h.parties h.parties;
  asking = next_either (λ (d : Course). IsAsking (UnderWay d) → NoneLive rs) c h.asking h.asking;
}

pub all_at : {A : Type 0} (P : A → Type 0) (xs : List A) (x : A) → AllByRecursion P xs → Contains xs x → P x
all_at {A = A} P xs x h c = go xs c.0 h c.1 c.2
  where
    go : (ys : List A) (k : ℕ) → AllByRecursion P ys → k < length ys → get_or ys k x ≡ x → P x
    go [] k h l e = absurd (omega (arith, l))
    go (y ∷ ys) zero h l e = subst P e h.0
    go (y ∷ ys) (suc k) h l e = go ys k h.1 (omega (arith, l)) e

taken : (alone : Bool) → alone ≡ true → not alone ≡ true → ⊥
taken true a h = absurd (cc h)
taken false a h = absurd (cc a)

hears_unasked : (alone : Bool) (b : Option ParticipantHeard) → alone ≡ true → hears_rollback alone b ≡ true → b ≡ None
hears_unasked alone None a h = refl
hears_unasked alone (Some (phase_hears.Voted VoteCommit)) a h = absurd (taken alone a h)
hears_unasked alone (Some (phase_hears.Voted VoteRollback)) a h = absurd (cc h)
hears_unasked alone (Some (phase_hears.Voted VoteReadOnly)) a h = absurd (cc h)
hears_unasked alone (Some phase_hears.Done) a h = absurd (taken alone a h)
hears_unasked alone (Some (phase_hears.Heuristic d)) a h = absurd (taken alone a h)
hears_unasked alone (Some phase_hears.RolledBack) a h = absurd (taken alone a h)
hears_unasked alone (Some phase_hears.NotPrepared) a h = absurd (taken alone a h)
hears_unasked alone (Some phase_hears.NoObject) a h = absurd (taken alone a h)
hears_unasked alone (Some phase_hears.Other) a h = absurd (taken alone a h)
hears_unasked alone (Some phase_hears.Lost) a h = absurd (taken alone a h)
hears_unasked alone (Some phase_hears.Starved) a h = absurd (taken alone a h)

no_rollback : (o : Option Outcome) → o ≡ None → IsRollback o → ⊥
no_rollback None e h = h
no_rollback (Some fixed) e h = absurd (cc e)

only_place : (ps : List Party) (one : Bool) (k : ℕ) (p : Party) → (one && length ps == 1) ≡ true → slice_get ps k ≡ Some p → slice_get ps 0 ≡ Some p
only_place ps one zero p a e = e
only_place ps one (suc k) p a e =
    let l : suc k < length ps = slice_get_within ps (suc k) p e in
    absurd (many (length ps) one a (omega (arith, l)))
  where
    many : (n : ℕ) (one : Bool) → (one && n == 1) ≡ true → 1 < n → ⊥
    many n true a l = go (n == 1) refl a
      where
        go : (t : Bool) → (n == 1) ≡ t → t ≡ true → ⊥
        go t e f = let i : n ≡ 1 = grind (arith, e, f) in omega (arith, i, l)
    many n false a l = absurd (cc a)

alone_outcome : (c : Course) → c.overtaken ≡ None → course.decides_alone c ≡ true → course.outcome c ≡ course.by_one (slice_get c.parties 0)
unfolding course.outcome
alone_outcome c e a = rw (e, a) refl

not_alone : (c : Course) (k : ℕ) (p : Party) → IsRollback (course.outcome c) → slice_get c.parties k ≡ Some p → hears_rollback (course.decides_alone c) p.ballot ≡ true
    → (t : Bool) → course.decides_alone c ≡ t → (o : Option Reason) → c.overtaken ≡ o → (course.decides_alone c ≡ false) ⊎ (c.overtaken ≢ None)
not_alone c k p back is hears false a o e = inl a
not_alone c k p back is hears true a (Some reason) e = inr (λ n. absurd (cc (sym e ∙ n)))
not_alone c k p back is hears true a None e =
    let first : slice_get c.parties 0 ≡ Some p = only_place c.parties c.one_phase k p a is in
    let unasked : p.ballot ≡ None = hears_unasked (course.decides_alone c) p.ballot a hears in
    let none : course.outcome c ≡ None = alone_outcome c e a ∙ rw (first, unasked) refl in
    absurd (no_rollback (course.outcome c) none back)

-- where it is rolled back, its words rest on that, and else on its open outcome, or on its record
goes_back : (c : Course) (some : Ballots) (rs : List Row) (o : Outward) → HasParties (UnderWay c) (ballots.participants 0 some) → (k : ℕ) (p : Party) → slice_get c.parties k ≡ Some p
    → o.registration ≡ p.index → o.to ≡ p.to → IsRollback (course.outcome c) → hears_rollback (course.decides_alone c) p.ballot ≡ true → GoesBack (UnderWay c) some rs o
goes_back c some rs o h k p is number reference back hears =
    let one : IsOf (ballots.participants 0 some) p = of_party c.parties (ballots.participants 0 some) h.0 h.1 k p is in
    record {
      r = one.r;
      there = all_at (Contains some.registrations) (ballots.participants 0 some) one.r (all_there 0 some) one.there;
      listed = record { branch = 0; there = one.there };
      number = one.number ∙ sym number;
      reference = one.reference ∙ sym reference;
      over = inl (rolled (course.outcome c) back, not_alone c k p back is hears (course.decides_alone c) refl c.overtaken refl, one.there);
    }
  where
    rolled : (x : Option Outcome) → IsRollback x → IsRolledBack x
    rolled None b = b
    rolled (Some (outcomes.Rollback reason)) b = tt
    rolled (Some (outcomes.Commit ground)) b = b
    rolled (Some outcomes.Unknown) b = b

goes_to : (c : Course) (some : Ballots) (o : Outward) → HasParties (UnderWay c) (ballots.participants 0 some) → (k : ℕ) (p : Party) → slice_get c.parties k ≡ Some p
    → o.registration ≡ p.index → o.to ≡ p.to → GoesToParticipant some o
goes_to c some o h k p is number reference =
    let one : IsOf (ballots.participants 0 some) p = of_party c.parties (ballots.participants 0 some) h.0 h.1 k p is in
    record { r = one.r; there = one.there; number = one.number ∙ sym number; reference = one.reference ∙ sym reference }

-- before it goes out
rests_before : Laws → (c : Course) (some : Ballots) (rs : List Row) (w o : Outward) → HasParties (UnderWay c) (ballots.participants 0 some) → course.next_word c ≡ Some w
    → o.word ≡ w.word → o.registration ≡ w.registration → o.to ≡ w.to → Rests (UnderWay c) some rs o
rests_before law c some rs w o h next word number reference =
    let g : GoesRightly w c = law.words c w next in
    let n : o.registration ≡ g.party.index = number ∙ g.registration in
    let t : o.to ≡ g.party.to = reference ∙ g.reference in
    let on : (x : Word) → o.word ≡ x → RestsOn x g.place g.party c = λ x e. subst (λ (y : Word). RestsOn y g.place g.party c) (sym word ∙ e) g.rests in
    let to : GoesToParticipant some o = goes_to c some o h g.place g.party g.there n t in
    record {
      back = λ e. let b = on (words.Phase phase_words.Rollback) e in goes_back c some rs o h g.place g.party g.there n t b.fixed b.hears;
      asks = record {
        prepare = λ e. (to, (on (words.Phase phase_words.Prepare) e).0.undecided);
        alone = λ e. (to, (on (words.Phase phase_words.CommitOnePhase) e).0.undecided, (on (words.Phase phase_words.CommitOnePhase) e).1);
        commit = λ e. (to, (on (words.Phase phase_words.Commit) e).fixed, any_there (HasVote o.registration VoteCommit) c.parties g.place g.party g.there (sym n, (on (words.Phase phase_words.Commit) e).voted));
      };
    }

-- and once it has
rests_alike : (c d : Course) (some : Ballots) (rs : List Row) (o : Outward) → d.parties ≡ c.parties → course.outcome d ≡ course.outcome c → course.decides_alone d ≡ course.decides_alone c → d.overtaken ≡ c.overtaken
    → Rests (UnderWay c) some rs o → Rests (UnderWay d) some rs o
rests_alike c d some rs o parties same alone over h = record {
  back = λ e. back (h.back e);
  asks = record {
    prepare = λ e. ((h.asks.prepare e).0, same ∙ (h.asks.prepare e).1);
    alone = λ e. ((h.asks.alone e).0, same ∙ (h.asks.alone e).1, alone ∙ (h.asks.alone e).2);
    commit = λ e. (
      (h.asks.commit e).0,
      same ∙ (h.asks.commit e).1,
      subst (λ (ps : List Party). Any (HasVote o.registration VoteCommit) ps) (sym parties) (h.asks.commit e).2,
    );
  };
}
  where
    not_alone_either : IsNotAlone (UnderWay c) → IsNotAlone (UnderWay d)
    not_alone_either (inl a) = inl (alone ∙ a)
    not_alone_either (inr n) = inr (λ e. n (sym over ∙ e))

    over_either : (r : Registration) → (IsRolledBack (course.outcome c) × IsNotAlone (UnderWay c) × Contains (ballots.participants 0 some) r) ⊎ IsCutOff rs r.branch
        → (IsRolledBack (course.outcome d) × IsNotAlone (UnderWay d) × Contains (ballots.participants 0 some) r) ⊎ IsCutOff rs r.branch
    over_either r (inl a) = inl (rw same a.0, not_alone_either a.1, a.2)
    over_either r (inr k) = inr k

    back : GoesBack (UnderWay c) some rs o → GoesBack (UnderWay d) some rs o
    back g = record { r = g.r; there = g.there; listed = g.listed; number = g.number; reference = g.reference; over = over_either g.r g.over }

rests_after : Laws → (c : Course) (some : Ballots) (rs : List Row) (w o : Outward) → HasParties (UnderWay c) (ballots.participants 0 some) → course.next_word c ≡ Some w
    → o.word ≡ w.word → o.registration ≡ w.registration → o.to ≡ w.to → Rests (UnderWay (course.after_next c)) some rs o
rests_after law c some rs w o h next word number reference =
    rests_alike c (course.after_next c) some rs o (next_either (λ (d : Course). d.parties ≡ c.parties) c refl refl) (same_outcome c)
    (next_either (λ (d : Course). course.decides_alone d ≡ course.decides_alone c) c refl refl)
    (next_either (λ (d : Course). d.overtaken ≡ c.overtaken) c refl refl)
    (rests_before law c some rs w o h next word number reference)

-- the completion goes on
but_completed : (f : Family) (s : Standing) → IsSoundCompletion f.stage f.rows f.ballots s → But 0 f → But 0 (record f { completion = s })
but_completed f s k h = record { lists = h.lists; completion = k; as_many = h.as_many; others = h.others; finishing = h.finishing }

rests_fine : (c : Call) (o : Option Outcome) (f : Family) → f.stage ≡ Completing → c.leg ≡ Deciding → IsAlone f c → Fine f (rests c o f)
rests_fine c (Some fixed) f e l a = afterwards_fine (is_before f.stage) f.rows 0 c fixed f e a
rests_fine c None f e l a =
    waits_fine 0 c f a.but (top_call f.stage f.rows f.ballots c.aim c.leg c.left (rw l e) a.none a.dues)

sent_fine : Laws → (k : Course) (o : Option Outward) → course.next_word k ≡ o → (c : Call) (f : Family) → f.stage ≡ Completing → c.leg ≡ Deciding → IsAlone (record f { completion = UnderWay k }) c
    → Fine f (decides_by o c (record f { completion = UnderWay k }))
sent_fine law k (Some w) next c f e l a =
    let g : Family = record f { completion = UnderWay (course.after_next k) } in
    sends_fine (is_before f.stage) f.rows 0 c (notice_of w) w.receipt g
    (but_completed (record f { completion = UnderWay k }) (UnderWay (course.after_next k)) (completion_next f.stage f.rows f.ballots (UnderWay k) a.but.completion) a.but)
    (top_call f.stage f.rows f.ballots c.aim c.leg c.left (rw l e) a.none a.dues)
    (rests_after law k f.ballots f.rows w _ a.but.completion.parties next refl refl refl)
sent_fine law k None next c f e l a = rests_fine c (course.outcome k) (record f { completion = UnderWay k }) e l a

decides_from : Laws → (s : Standing) (c : Call) (f : Family) → f.stage ≡ Completing → IsAlone (record f { completion = s }) c → Fine f (decides c (record f { completion = s }))
unfolding decides
decides_from law (Waiting room) c f e a =
    rests_fine (record c { leg = Deciding }) None (record f { completion = Waiting room }) e refl (record { but = a.but; none = a.none; dues = a.dues })
decides_from law (UnderWay k) c f e a =
    sent_fine law k (course.next_word k) refl (record c { leg = Deciding }) f e refl (record { but = a.but; none = a.none; dues = a.dues })

pub decides_fine : Laws → (c : Call) (f : Family) → f.stage ≡ Completing → IsAlone f c → Fine f (decides c f)
decides_fine law c f e a = decides_from law f.completion c f e a

-- ---- its completion begins

pub begun_first : (s first : Standing) → IsWaiting s → begun s first ≡ first
begun_first (Waiting room) first w = refl
begun_first (UnderWay c) first w = absurd w

pub begins_quiet : (first : Standing) (f : Family) → Quiet f (begins first f)
unfolding begins completes_as
begins_quiet first f = record {
  stage = λ e. absurd (cc e);
  rows = fixed_rows f.rows (stages.outcome f.completion) (stages.outcome (begun f.completion first));
  turn = fixed_turn (is_before f.stage) f.rows (stages.outcome f.completion) (stages.outcome (begun f.completion first));
  silent = refl;
}

-- what it leaves, but for the completion's effects
pub begins_family : (first : Standing) (f : Family) → (begins first f).family ≡ record f { stage = Completing; completion = begun f.completion first }
unfolding begins completes_as
begins_family first f = refl

pub begins_but : (first : Standing) (f : Family) → is_before f.stage ≡ true → IsSoundCompletion Completing f.rows f.ballots first → But 0 f → But 0 (begins first f).family
unfolding begins completes_as
begins_but first f e k h =
    subst (λ (s : Standing). IsBut 0 Completing f.rows f.ballots s f.calls) (sym (begun_first f.completion first (h.completion.begun.0 e)))
    (but_staged f Completing first k h)

asking_sound : (asked : Bool) (f : Family) → NoneLive f.rows → IsSoundCompletion Completing f.rows f.ballots (asking asked f)
asking_sound asked f none = record {
  begun = ((λ e. absurd (cc e)), (λ w. absurd w));
  there = reached (asked_ones f) asked _ (is_none f.superior);
  parties = has_begun (ballots.participants 0 f.ballots);
  asking = λ a. none;
}

pub rolling_sound : (asked : Bool) (reason : Reason) (f : Family) → (IsAsking (rolling_back asked reason f) → NoneLive f.rows) → IsSoundCompletion Completing f.rows f.ballots (rolling_back asked reason f)
rolling_sound asked reason f none = record {
  begun = ((λ e. absurd (cc e)), (λ w. absurd w));
  there = reached_by_rollback (asked_ones f) asked _ (is_none f.superior) reason;
  parties = has_begun (ballots.participants 0 f.ballots);
  asking = none;
}

begins_alone : (first : Standing) (f : Family) (c : Call) → is_before f.stage ≡ true → IsSoundCompletion Completing f.rows f.ballots first → IsAlone f c → IsAlone (begins first f).family c
unfolding begins completes_as
begins_alone first f c e k a = record { but = begins_but first f e k a.but; none = a.none; dues = a.dues }

begins_stage : (first : Standing) (f : Family) → (begins first f).family.stage ≡ Completing
unfolding begins completes_as
begins_stage first f = refl

pub early : (stage : Stage) → stage ≡ Finishing → is_before stage ≡ true
early stage e = rw e refl

-- ---- its commit goes on

calls_next_fine : Laws → (o : Option Registration) (called : ℕ) (c : Call) (f : Family) → f.stage ≡ Finishing → (asked : Bool) → c.aim ≡ Commits asked → IsAlone f c → Fine f (calls_next o called c f)
calls_next_fine law (Some r) called c f e asked aim a =
    sends_fine (is_before f.stage) f.rows 0 (record c { leg = Before (called + 1) }) _ None f a.but
    (top_call f.stage f.rows f.ballots c.aim (Before (called + 1)) c.left (rw aim e) a.none a.dues)
    (soft_rests f.completion f.ballots f.rows _ tt)
calls_next_fine law None called c f e asked aim a =
    let first : Standing = asking (asked_of c.aim) f in
    chained (is_before f.stage) f.rows (begins first f) (decides c) (begins_quiet first f)
    (decides_fine law c (begins first f).family (begins_stage first f) (begins_alone first f c (early f.stage e) (asking_sound (asked_of c.aim) f a.none) a))

pub before_fine : Laws → (called : ℕ) (c : Call) (f : Family) → f.stage ≡ Finishing → (asked : Bool) → c.aim ≡ Commits asked → IsAlone f c → Fine f (before called c f)
unfolding before
before_fine law called c f e asked aim a =
    let first : Standing = rolling_back (asked_of c.aim) reasons.Marked f in
    either (is_before f.stage) f.rows (is_marked f 0) _ _
    (λ m. chained (is_before f.stage) f.rows (begins first f) (decides c) (begins_quiet first f)
    (decides_fine law c (begins first f).family (begins_stage first f)
    (begins_alone first f c (early f.stage e) (rolling_sound (asked_of c.aim) reasons.Marked f (λ x. a.none)) a)))
    (λ m. calls_next_fine law (next_synchronization f called) called c f e asked aim a)
