-- What a step keeps of a family that is decided: its outcome, its record, and its participants, each of them named and told.
use Rattle.std.proofs.Common.{◌≡◌, ◌≢◌, ◌⊎◌, inl, inr, ℕ, List, [], ◌∷◌, map, filter, cond, Bool, true, false, if◌then◌else◌, Option, Some, None, Contains, refl, ap, sym, subst, ◌∙◌}
use Rattle.std.specs.List.{AllByRecursion}
use Rattle.std.specs.Option.{option_map_or}
use Rattle.ots_model.specs.declared.completion.Ground.TheVariants.{Record}
use Rattle.ots_model.specs.declared.completion.Heard.{Heard}
use Rattle.ots_model.specs.declared.completion.Heard.TheVariants as phase_hears
use Rattle.ots_model.specs.declared.completion.Stood.{Stood}
use Rattle.ots_model.specs.declared.completion.Vote.TheVariants.{VoteCommit}
use Rattle.ots_model.specs.Numbered.{Outcome}
use Rattle.ots_model.specs.declared.completion.Outcome.TheVariants.{Commit}
use Rattle.two_phase.specs.Course as course
use Rattle.two_phase.specs.Course.{Course}
use Rattle.two_phase.specs.LawsOfAnswers.{WordsWaitForAnswers}
use Rattle.two_phase.specs.LawsOfOutcomes.{IsRecorded, OutcomesHaveCauses}
use Rattle.two_phase.specs.LawsOfReached.{IsReached, TreeOutcomeStays}
use Rattle.two_phase.specs.LawsOfSettling.{SettledIsThrough}
use Rattle.two_phase.specs.Parties.{has_voted_commit, is_commit_vote}
use Rattle.two_phase.specs.Stages as stages
use Rattle.two_phase.specs.Stages.{Standing as Completion, Waiting, Going as UnderWay}
use Rattle.two_phase.specs.declared.party.Errand.{Errand}
use Rattle.two_phase.specs.declared.party.Party.{Party}
use Rattle.decision_journal.specs.declared.journal.Standing.{Standing}
use Rattle.decision_journal.specs.declared.record.JournalRecord.{JournalRecord}
use Rattle.decision_journal.specs.declared.record.JournalRecord.TheVariants.{Life, Decision, Done, Prepared, CellsPrepared, CellsOutcome, CellsOnePhase}
use Rattle.decision_journal.specs.declared.record.Registration.{Registration}
use Rattle.coordinator.specs.declared.event.Event.{Event}
use Rattle.coordinator.specs.declared.said.Said.TheVariants as said
use Rattle.coordinator.specs.Family.{Family}
use Rattle.coordinator.specs.Hearing.{commit_key, decision_record, named, recorded}
use Rattle.coordinator.specs.History.{has_room}
use Rattle.coordinator.specs.Laws.{FamiliesStepRightly, FamilyOutcomesStay, IsThere, Proceeds, still, asks, rolls_back, goes_on, further}
use Rattle.coordinator.specs.NodeTick.{tick_at, tick_of}
use Rattle.coordinator.specs.Step.{family_step, quiet, hears, wanted, Appends}
use Rattle.family_laws.specs.LawsOfJournal.{AppendsOwn, CompletesAll, FamiliesAppendOwn, FamiliesCloseLast, HasCompleted, IsAgreed}
use Rattle.family_laws.specs.LawsOfTelling.{FamiliesNumberWords}
use Rattle.family_laws.specs.Sound.{IsSoundFamily}
use Rattle.node_laws.specs.Rules.{HasToldAll, NamesVoters, NamesVotersOf, named_as}
use Rattle.node_laws.proofs.Courses.{AreLater, Follows, follows_itself, follows_step, follows_further}
use Rattle.node_laws.proofs.Lists.{all_each, all_on, inner, into_filter, into_map}
use Rattle.node_laws.proofs.Sending.{ClosesNow, HasParties, IsSame, done_settled, step_parties, step_sends}

-- the laws on families and completions that this follows from
pub record Facts : Type 0 where
  pub append : FamiliesAppendOwn
  pub close : FamiliesCloseLast
  pub words : FamiliesNumberWords
  pub rightly : FamiliesStepRightly
  pub outcomes : FamilyOutcomesStay
  pub stays : TreeOutcomeStays
  pub waits : WordsWaitForAnswers
  pub causes : OutcomesHaveCauses
  pub settled : SettledIsThrough

-- ---- a completion whose outcome is fixed

pub record IsAhead (c : Course) (fixed : Outcome) (s : Completion) : Type 0 where
  pub d : Course
  pub is : s ≡ UnderWay d
  pub follows : Follows c fixed d

ahead : Facts → (s t : Completion) (fixed : Outcome) → Proceeds s t → (c : Course) → s ≡ UnderWay c → IsReached c → course.outcome c ≡ Some fixed → IsAhead c fixed t
ahead law _ _ fixed (still s) c e r o = record { d = c; is = e; follows = follows_itself c fixed r o }
ahead law _ _ fixed (asks room some asked first one) c e r o = absurd (cc e)
ahead law _ _ fixed (rolls_back room some asked first one reason) c e r o = absurd (cc e)
ahead law _ _ fixed (goes_on k later b) c e r o =
    let is : k ≡ c = cc e in
    record {
      d = later;
      is = refl;
      follows = subst (λ (x : Course). Follows x fixed later) is
          (follows_step law.waits law.stays k later fixed b (subst IsReached (sym is) r) (subst (λ (x : Course). course.outcome x ≡ Some fixed) (sym is) o));
    }
ahead law _ _ fixed (further s between later p q) c e r o =
    let x = ahead law s between fixed p c e r o in
    let y = ahead law between later fixed q x.d x.is x.follows.reached x.follows.same in
    record { d = y.d; is = y.is; follows = follows_further c x.d y.d fixed x.follows y.follows }

-- what becomes of a family in a step
pub record Goes (f g : Family) : Type 0 where
  pub key : g.key ≡ f.key
  pub outcome : (fixed : Outcome) → stages.outcome f.completion ≡ Some fixed → stages.outcome g.completion ≡ Some fixed
  pub ahead : (c : Course) (fixed : Outcome) → f.completion ≡ UnderWay c → course.outcome c ≡ Some fixed → IsAhead c fixed g.completion

reached_of : (s : Completion) (c : Course) → IsThere s → s ≡ UnderWay c → IsReached c
reached_of s c there e = subst IsThere e there

pub step_goes : Facts → (f : Family) (e : Event) (stood : Option Stood) → IsThere f.completion → Goes f (family_step f e stood).family
step_goes law f e stood there = record {
  key = law.words.key f e stood;
  outcome = λ fixed o. law.outcomes f e stood fixed there o;
  ahead = λ c fixed i o. ahead law f.completion (family_step f e stood).family.completion fixed (law.rightly f e stood).proceeds c i (reached_of f.completion c there i) o;
}

pub goes_itself : (f : Family) → IsThere f.completion → Goes f f
goes_itself f there = record {
  key = refl;
  outcome = λ fixed o. o;
  ahead = λ c fixed i o. record { d = c; is = i; follows = follows_itself c fixed (reached_of f.completion c there i) o };
}

pub tick_goes : Facts → (now : ℕ) (f : Family) → IsThere f.completion → Goes f (tick_of now f).family
tick_goes law now f there = go (has_room f.entries (tick_at now))
  where
    go : (t : Bool) → Goes f (if t then family_step f (tick_at now) None else quiet said.Plain f).family
    go true = step_goes law f (tick_at now) None there
    go false = goes_itself f there

-- ---- whom its record names

-- those that have voted are the same later
voters_later : (ps qs : List Party) → AreLater ps qs → map recorded (filter has_voted_commit ps) ≡ map recorded (filter has_voted_commit qs)
voters_later [] [] h = refl
voters_later [] (q ∷ qs) h = absurd h
voters_later (p ∷ ps) [] h = absurd h
voters_later (p ∷ ps) (q ∷ qs) h =
    go (has_voted_commit p) (has_voted_commit q) (ap (λ (b : Option Heard). option_map_or is_commit_vote b false) (sym h.0.ballot)) (voters_later ps qs h.1)
  where
    same : named_as p.index p.to ≡ named_as q.index q.to
    same = ap (λ (i : ℕ). named_as i p.to) (sym h.0.index) ∙ ap (λ (to : List ℕ). named_as q.index to) (sym h.0.to)

    go : (a b : Bool) → a ≡ b → map recorded (filter has_voted_commit ps) ≡ map recorded (filter has_voted_commit qs)
        → map recorded (cond a (p ∷ filter has_voted_commit ps) (filter has_voted_commit ps)) ≡ map recorded (cond b (q ∷ filter has_voted_commit qs) (filter has_voted_commit qs))
    go true true i rest =
        ap (λ (r : Registration). r ∷ map recorded (filter has_voted_commit ps)) same ∙ ap (λ (rs : List Registration). named_as q.index q.to ∷ rs) rest
    go false false i rest = rest
    go true false i rest = absurd (cc i)
    go false true i rest = absurd (cc i)

names_on : (r : JournalRecord) (c d : Course) → AreLater c.parties d.parties → NamesVotersOf r (UnderWay c) → NamesVotersOf r (UnderWay d)
names_on (Decision l slot generation by asked some) c d h k = k ∙ voters_later c.parties d.parties h
names_on (Life l) c d h k = absurd k
names_on (Done some) c d h k = absurd k
names_on (Prepared l slot generation recovery some) c d h k = absurd k
names_on (CellsPrepared l number recovery puts) c d h k = absurd k
names_on (CellsOutcome some end) c d h k = absurd k
names_on (CellsOnePhase l number puts) c d h k = absurd k

-- one that is committed by a record stays decided by it, and named in it
pub still_named : Facts → (f g : Family) (s : Standing) → Goes f g → IsThere f.completion → stages.outcome f.completion ≡ Some (Commit Record)
    → (stages.record_place f.completion ≡ Some s.place → NamesVotersOf s.item f.completion) → stages.record_place g.completion ≡ Some s.place → NamesVotersOf s.item g.completion
still_named law f g s goes there fixed was at = go f.completion refl there fixed was
  where
    go : (o : Completion) → f.completion ≡ o → IsThere o → stages.outcome o ≡ Some (Commit Record) → (stages.record_place o ≡ Some s.place → NamesVotersOf s.item o) → NamesVotersOf s.item g.completion
    go (Waiting room) i there fixed was = absurd (cc fixed)
    go (UnderWay c) i there fixed was =
        let behind : IsRecorded c = law.causes c (Commit Record) there fixed in
        let x = goes.ahead c (Commit Record) i fixed in
        let place : stages.record_place g.completion ≡ Some behind.place = ap (λ (t : Completion). stages.record_place t) x.is ∙ x.follows.place behind.place behind.stands in
        let same : behind.place ≡ s.place = inner (sym place ∙ at) in
        subst (λ (t : Completion). NamesVotersOf s.item t) (sym x.is)
        (names_on s.item c x.d x.follows.parties (was (behind.stands ∙ ap (λ (p : ℕ). Some p) same)))

-- ---- a decision that is appended names those that have voted, and nobody else

voted_is : (p : Party) → p.ballot ≡ Some (phase_hears.Voted VoteCommit) → has_voted_commit p ≡ true
voted_is p e = rw e refl

-- so each of them
pub voters_named : (some : List Registration) (ps : List Party) → NamesVoters some ps
    → AllByRecursion (λ (p : Party). p.ballot ≡ Some (phase_hears.Voted VoteCommit) → Contains some (named_as p.index p.to)) ps
voters_named some ps names =
    all_each (λ (p : Party). p.ballot ≡ Some (phase_hears.Voted VoteCommit) → Contains some (named_as p.index p.to)) ps
    (λ p c voted. subst (λ (rs : List Registration). Contains rs (named_as p.index p.to)) (sym names)
    (into_map recorded (filter has_voted_commit ps) p (into_filter has_voted_commit ps p c (voted_is p voted))))

record_names : (h : Family) (g : Family) → IsAgreed h.completion → HasParties h.completion g.completion → NamesVotersOf (decision_record h) g.completion
unfolding decision_record
record_names h g agreed same = go h.completion refl agreed same
  where
    go : (o : Completion) → h.completion ≡ o → IsAgreed o → HasParties o g.completion
        → NamesVotersOf (Decision h.key.life h.key.slot h.key.generation (commit_key h) (stages.asked h.completion) (named h.completion)) g.completion
    go (Waiting room) i agreed same = absurd agreed
    go (UnderWay c) i agreed same =
        let x = same c refl in
        subst (λ (t : Completion). NamesVotersOf (Decision h.key.life h.key.slot h.key.generation (commit_key h) (stages.asked h.completion) (named h.completion)) t) (sym x.1)
        (subst (λ (t : Completion). NamesVoters (named t) x.0.parties) (sym i) (subst (λ (ps : List Party). NamesVoters (map recorded (filter has_voted_commit c.parties)) ps) (sym x.2) refl))

pub newly_named : FamiliesAppendOwn → (f : Family) (e : Event) (stood : Option Stood) (item : JournalRecord) → wanted f e ≡ Some (Appends item)
    → NamesVotersOf item (family_step f e stood).family.completion
newly_named law f e stood item w =
    let a : AppendsOwn f e item = law f e item w in
    subst (λ (r : JournalRecord). NamesVotersOf r (family_step f e stood).family.completion) (sym a.is_record)
    (record_names (hears a.number a.heard f).family (family_step f e stood).family a.agreed (step_parties f e stood (Appends item) a.number a.heard w a.answer))

-- ---- each was told

abbrev WasTold : Party → Type 0
WasTold p = p.ballot ≡ Some (phase_hears.Voted VoteCommit) → p.told ≢ None

told_later : (ps qs : List Party) → AreLater ps qs → AllByRecursion WasTold ps → AllByRecursion WasTold qs
told_later [] [] h k = tt
told_later [] (q ∷ qs) h k = absurd h
told_later (p ∷ ps) [] h k = absurd h
told_later (p ∷ ps) (q ∷ qs) h k = ((λ voted. h.0.told (k.0 (sym h.0.ballot ∙ voted))), told_later ps qs h.1 k.1)

still_told : (f g : Family) → Goes f g → HasToldAll f.completion → HasToldAll g.completion
still_told f g goes all = go f.completion refl all
  where
    go : (o : Completion) → f.completion ≡ o → HasToldAll o → HasToldAll g.completion
    go (Waiting room) i all = absurd all
    go (UnderWay c) i (fixed, is, told) =
        let x = goes.ahead c fixed i is in
        subst HasToldAll (sym x.is) (fixed, x.follows.same, told_later c.parties x.d.parties x.follows.parties told)

completed_told : (p : Party) → HasCompleted p → p.told ≢ None
completed_told p (inl e) n = absurd (cc (sym e ∙ n))
completed_told p (inr (inl e)) n = absurd (cc (sym e ∙ n))
completed_told p (inr (inr (d, e, let_go))) n = absurd (cc (sym e ∙ n))

same_outcome : (c : Course) (o : Option Errand) → course.outcome (record c { out = o }) ≡ course.outcome c
unfolding course.outcome course.all_consent course.some_commit
same_outcome c o = refl

told_out : (c : Course) (o : Option Errand) → HasToldAll (UnderWay c) → HasToldAll (UnderWay (record c { out = o }))
told_out c o (fixed, is, told) = (fixed, same_outcome c o ∙ is, told)

closed_told : Facts → (s t : Completion) → IsSame s t → CompletesAll s → stages.is_settled s ≡ true → HasToldAll t
closed_told law (Waiting room) t same all settled = absurd all
closed_told law (UnderWay c) t same all settled =
    let x = same c refl in
    let through = (law.settled c).0 settled in
    subst HasToldAll (sym x.1)
    (told_out c x.0 (through.0, through.1, all_on (λ (p : Party). p.ballot ≡ Some (phase_hears.Voted VoteCommit) → HasCompleted p) WasTold (λ p h voted. completed_told p (h voted)) c.parties all))

-- once the Done was asked for
pub step_told : Facts → (f : Family) (e : Event) (stood : Option Stood) → IsSoundFamily f → (f.closed ≢ None → HasToldAll f.completion) → (family_step f e stood).family.closed ≢ None
    → HasToldAll (family_step f e stood).family.completion
step_told law f e stood sound was asked = go (step_sends f e stood).closed
  where
    g : Family
    g = (family_step f e stood).family

    go : (g.closed ≡ f.closed) ⊎ ClosesNow f e g → HasToldAll g.completion
    go (inl same) = still_told f g (step_goes law f e stood sound.completion.there) (was (λ n. asked (same ∙ n)))
    go (inr x) =
        closed_told law (hears x.number x.heard f).family.completion g.completion x.closes.same
        (law.close.completed f e x.place x.number x.heard sound x.wants x.answer).0 (done_settled (hears x.number x.heard f).family x.closes.wants)

pub tick_told : Facts → (now : ℕ) (f : Family) → IsSoundFamily f → (f.closed ≢ None → HasToldAll f.completion) → (tick_of now f).family.closed ≢ None → HasToldAll (tick_of now f).family.completion
tick_told law now f sound was asked = go (has_room f.entries (tick_at now)) asked
  where
    go : (t : Bool) → (if t then family_step f (tick_at now) None else quiet said.Plain f).family.closed ≢ None
        → HasToldAll (if t then family_step f (tick_at now) None else quiet said.Plain f).family.completion
    go true x = step_told law f (tick_at now) None sound was x
    go false x = was x
