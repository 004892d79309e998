-- What is heard of a word, and of the journal, leaves a sound family.
use Rattle.std.proofs.Common.{◌≡◌, ◌≢◌, ◌==◌, ◌||◌, not, inl, inr, ℕ, zero, suc, List, [], ◌∷◌, map, Bool, true, false, if◌then◌else◌, Option, Some, None, refl, ap, sym, subst, ◌∙◌, arith}
use Rattle.std.specs.Prelude.{slice_set}
use Rattle.std.specs.List.{slice_get}
use Rattle.std.specs.Option.{option_map, option_map_or}
use Rattle.ots_model.specs.Heard.{of_participant}
use Rattle.ots_model.specs.declared.completion.CallNumber.{CallNumber}
use Rattle.ots_model.specs.declared.completion.Doubted.{Doubted}
use Rattle.ots_model.specs.declared.completion.Heard.{Heard as ParticipantHeard}
use Rattle.ots_model.specs.declared.completion.Heard.TheVariants as phase_hears
use Rattle.ots_model.specs.declared.completion.Stood.{Stood}
use Rattle.ots_model.specs.declared.completion.Stood.TheVariants as answers
use Rattle.ots_model.specs.declared.tree.Heard.{Heard}
use Rattle.ots_model.specs.Numbered.{Outcome}
use Rattle.ots_model.specs.declared.completion.Outcome.TheVariants as outcomes
use Rattle.txn_tree.specs.Calls.{marked}
use Rattle.txn_tree.specs.Calls as tree
use Rattle.txn_tree.specs.Rows.{parent, is_live, is_live_branch}
use Rattle.txn_tree.specs.declared.row.Row.{Row}
use Rattle.txn_tree.specs.declared.row.State.{State}
use Rattle.txn_tree.specs.declared.row.State.TheVariants.{Active, Marked, Committed, RolledBack}
use Rattle.txn_tree.specs.Rows as rows
use Rattle.resource_votes.specs.Ballots.{Ballots}
use Rattle.resource_votes.specs.Ballots as ballots
use Rattle.resource_votes.specs.declared.registration.Registration.{Registration}
use Rattle.two_phase.specs.Course as course
use Rattle.two_phase.specs.Course.{Course}
use Rattle.two_phase.specs.LawsOfReached.IsReached.{goes_on as reached_on}
use Rattle.two_phase.specs.LawsOfReached.TreeBecomes.{by_answer, by_record, by_reread}
use Rattle.two_phase.specs.Course.{same_number}
use Rattle.two_phase.specs.Stages as stages
use Rattle.two_phase.specs.Stages.{Standing, Waiting, Going as UnderWay}
use Rattle.two_phase.specs.declared.party.Errand.{Errand}
use Rattle.two_phase.specs.declared.party.Party.{Party}
use Rattle.two_phase.specs.declared.party.Stage.{Stage as Asked}
use Rattle.two_phase.specs.declared.party.Stage.TheVariants as asks
use Rattle.coordinator.specs.declared.call.Leg.{Leg}
use Rattle.coordinator.specs.declared.call.Leg.TheVariants.{Below, Own, Before, Deciding, After}
use Rattle.coordinator.specs.declared.call.Stage.{Stage}
use Rattle.coordinator.specs.declared.call.Stage.TheVariants.{Going, Finishing, Completing, Over}
use Rattle.coordinator.specs.declared.effect.Effect.TheVariants as effects
use Rattle.coordinator.specs.declared.phase.Column.TheVariants as columns
use Rattle.coordinator.specs.declared.phase.Phase.TheVariants as phases
use Rattle.coordinator.specs.Family.{Family, Aim, Call, Commits, RollsBack, call_at, with_call, waiting_for}
use Rattle.coordinator.specs.Moves.{Moved, ◌▹◌, shows, completes_as}
use Rattle.coordinator.specs.Closing.{asked_of, rolling_back, begun, begins, gives_up}
use Rattle.coordinator.specs.Phases.{is_before, is_marked, has_parent_ended, column, is_ending, live_column, top_column, phase, phase_by, ending_phase, ended_phase}
use Rattle.coordinator.specs.Hearing.{is_markable_in, is_markable, marks, marks_parent, is_plain, told_commit, told_end, reason_of, told_before, vote_effects, inner_number, told_participant, told, hears_at, wants_done, answers_doubt, doubts_by, decided, done_effects, closes, settles}
use Rattle.coordinator.specs.Running.{goes_on}
use Rattle.coordinator.specs.Step.{hears_call, hears_for, hears, goes_on_at, answered, found_at, rereads}
use Rattle.family_laws.specs.LawsOfSteps.{EndInTurn}
use Rattle.family_laws.specs.LawsOfTelling.{rows_told}
use Rattle.family_laws.specs.Sound.{NoneLive, HasParties, IsAsking, IsInStage, IsSoundCompletion, IsSoundFamily}
use Rattle.family_laws.specs.LawsBelow.{Laws}
use Rattle.family_laws.proofs.Changes.{lists_with, completion_rows}
use Rattle.family_laws.proofs.Ending.{IsAlone, top_call, but_staged, begins_quiet, rolling_sound, begun_first, early}
use Rattle.family_laws.proofs.Seats.{But, Takes, taken_up, put_back, call_kept, none_live_kept}
use Rattle.family_laws.proofs.Sweeping.{is_top, top_alone, goes_on_fine}
use Rattle.family_laws.proofs.Trees.{same_or_not, live_marked, live_before, cut_stays}
use Rattle.family_laws.proofs.Turns.{IsCalm, Calm, Fine, calmly, chained, either_calm, only_calm, only_fine, completes_quiet}

-- ---- a mark

is_live_in : (ending : Bool) (o : Option State) (already : Bool) → is_markable_in (if ending then columns.Past else live_column (option_map rows.shown o)) already ≡ true → option_map_or is_live o false ≡ true
is_live_in true o already h = absurd (cc h)
is_live_in false None already h = absurd (cc h)
is_live_in false (Some Active) already h = refl
is_live_in false (Some Marked) already h = refl
is_live_in false (Some Committed) already h = absurd (cc h)
is_live_in false (Some RolledBack) already h = absurd (cc h)

-- nor is a transaction whose completion has begun
past_open : (doubtful alone already : Bool) → is_markable_in (top_column (if doubtful then phases.Doubt else if alone then phases.OnePhase else phases.Preparing)) already ≡ true → ⊥
past_open true alone already h = absurd (cc h)
past_open false true already h = absurd (cc h)
past_open false false already h = absurd (cc h)

is_unmarked_in : (ending : Bool) (o : Option State) → is_markable_in (if ending then columns.Past else live_column (option_map rows.shown o)) (tree.is_marked o) ≡ true → tree.is_marked o ≡ false
is_unmarked_in true o h = absurd (cc h)
is_unmarked_in false None h = absurd (cc h)
is_unmarked_in false (Some Active) h = refl
is_unmarked_in false (Some Marked) h = absurd (cc h)
is_unmarked_in false (Some Committed) h = absurd (cc h)
is_unmarked_in false (Some RolledBack) h = absurd (cc h)

zero_not : (b : ℕ) → b ≢ 0 → (b == 0) ≡ false
zero_not b n = grind arith

live_markable : (f : Family) (b : ℕ) → is_live_branch f.rows 0 ≡ true → is_markable f b ≡ true → is_live_branch f.rows b ≡ true
unfolding is_markable column
live_markable f b top h =
    elim (same_or_not b 0) [
      | inl z ↦ rw z top
      | inr n ↦ is_live_in (is_ending f b) (rows.state f.rows b) (is_marked f b) (rw (zero_not b n) at h)
    ]

top_unmarked : (stage : Stage) (f : Family) → is_markable_in (top_column (phase_by stage f)) (is_marked f 0) ≡ true → is_marked f 0 ≡ false
top_unmarked Going f h = going (is_marked f 0) h
  where
    going : (t : Bool) → is_markable_in (top_column (if t then phases.Marked else phases.Active)) t ≡ true → t ≡ false
    going true h = absurd (cc h)
    going false h = refl
top_unmarked Finishing f h = finishing (is_marked f 0) h
  where
    finishing : (t : Bool) → not t ≡ true → t ≡ false
    finishing true h = absurd (cc h)
    finishing false h = refl
top_unmarked Completing f h = absurd (completing (stages.outcome f.completion) h)
  where
    completing : (o : Option Outcome) → is_markable_in (top_column (ending_phase f.completion o)) (is_marked f 0) ≡ true → ⊥
    completing None h = past_open (stages.is_doubtful f.completion) (stages.decides_alone f.completion) (is_marked f 0) h
    completing (Some (outcomes.Commit basis)) h = absurd (cc h)
    completing (Some (outcomes.Rollback reason)) h = absurd (cc h)
    completing (Some outcomes.Unknown) h = absurd (cc h)
top_unmarked Over f h = absurd (over (stages.outcome f.completion) h)
  where
    over : (o : Option Outcome) → is_markable_in (top_column (ended_phase f.completion o)) (is_marked f 0) ≡ true → ⊥
    over None h = past_open (stages.is_doubtful f.completion) (stages.decides_alone f.completion) (is_marked f 0) h
    over (Some (outcomes.Commit basis)) h = absurd (cc h)
    over (Some (outcomes.Rollback reason)) h = absurd (cc h)
    over (Some outcomes.Unknown) h = absurd (cc h)

-- nor was it marked
unmarked : (f : Family) (b : ℕ) → is_markable f b ≡ true → is_marked f b ≡ false
unfolding is_markable column phase
unmarked f b h =
    elim (same_or_not b 0) [
      | inl z ↦ rw z (top_unmarked f.stage f (rw z at h))
      | inr n ↦ is_unmarked_in (is_ending f b) (rows.state f.rows b) (rw (zero_not b n) at h)
    ]

marked_sound : Laws → (f : Family) (b : ℕ) → is_live_branch f.rows b ≡ true → IsSoundFamily f → IsSoundFamily (record f { rows = marked f.rows b })
marked_sound law f b live h =
    let more : List Row = marked f.rows b in
    let fewer : NoneLive f.rows → NoneLive more = none_live_kept f.rows more (live_before f.rows b Marked live) in
    record {
      lists = lists_with law f.rows f.ballots b Marked live (λ e. absurd (cc e)) (live_marked f.rows b live 0 h.lists.top) h.lists;
      completion = completion_rows f.stage f.rows more f.ballots f.completion fewer h.completion;
      as_many = h.as_many ∙ sym (((law.keep f.rows b).with_a_state Marked).count);
      under_way = λ d c e. call_kept f.stage f.rows more f.ballots f.ballots d c.aim c.leg c.left
          (live_marked f.rows b live d) (cut_stays law f.rows b Marked live) fewer (λ r k. k) (h.under_way d c e);
      finishing = h.finishing;
    }

pub marks_calm : Laws → (b : ℕ) (f : Family) → IsSoundFamily f → Calm f (marks b f)
unfolding marks
marks_calm law b f h = either_calm (is_before f.stage) f.rows (is_markable f b) _ _
    (λ e. record {
      sound = marked_sound law f b (live_markable f b h.lists.top e) h;
      quiet = record { stage = λ x. x; rows = refl; turn = ((live_markable f b h.lists.top e, unmarked f b e), tt); silent = refl };
    })
    (λ e. only_calm f h)

marks_parent_calm : Laws → (o : Option ℕ) (f : Family) → IsSoundFamily f → Calm f (marks_parent o f)
marks_parent_calm law (Some above) f h = marks_calm law above f h
marks_parent_calm law None f h = only_calm f h

told_end_calm : Laws → (aim : Aim) (b : ℕ) (heard : Heard) (f : Family) → IsSoundFamily f → Calm f (told_end aim b heard f)
unfolding told_commit
told_end_calm law (Commits asked) b heard f h =
    either_calm (is_before f.stage) f.rows (is_plain heard || has_parent_ended f b) _ _ (λ e. only_calm f h) (λ e. marks_parent_calm law (parent f.rows b) f h)
told_end_calm law (RollsBack says) b heard f h = only_calm f h

-- ---- a commit is given up

given_up : (called : ℕ) (b : ℕ) (c : Call) (heard : Heard) (f : Family) → b ≡ 0 → f.stage ≡ Finishing → IsAlone f c → IsSoundFamily f
    → IsSoundFamily (gives_up (reason_of called heard) c (with_call b (record c { leg = Deciding }) f)).family
unfolding begins completes_as
given_up called b c heard f z e a h =
    let first : Standing = rolling_back (asked_of c.aim) (reason_of called heard) f in
    let g : Family = record f { stage = Completing; completion = begun f.completion first } in
    let sound : IsSoundCompletion Completing f.rows f.ballots (begun f.completion first) =
    subst (λ (s : Standing). IsSoundCompletion Completing f.rows f.ballots s) (sym (begun_first f.completion first (h.completion.begun.0 (early f.stage e))))
    (rolling_sound (asked_of c.aim) (reason_of called heard) f (λ x. a.none)) in
    rw z (put_back 0 (record c { leg = Deciding }) g (but_staged f Completing (begun f.completion first) sound a.but)
    (top_call Completing f.rows f.ballots c.aim Deciding c.left refl a.none a.dues))

told_before_calm : (b called : ℕ) (c : Call) (heard : Heard) (f : Family) → b ≡ 0 → f.stage ≡ Finishing → IsAlone f c → IsSoundFamily f → Calm f (told_before b called c heard f)
unfolding told_before
told_before_calm b called c heard f z e a h = either_calm (is_before f.stage) f.rows (is_plain heard) _ _
    (λ p. only_calm f h)
    (λ p. record {
      sound = given_up called b c heard f z e a h;
      quiet = begins_quiet (rolling_back (asked_of c.aim) (reason_of called heard) f) (with_call b (record c { leg = Deciding }) f);
    })

-- ---- a completion goes on

with_completion : (f : Family) (s : Standing) → IsSoundCompletion f.stage f.rows f.ballots s → IsSoundFamily f → IsSoundFamily (record f { completion = s })
with_completion f s k h = record { lists = h.lists; completion = k; as_many = h.as_many; under_way = h.under_way; finishing = h.finishing }

completes_calm : (f : Family) (s : Standing) → IsSoundCompletion f.stage f.rows f.ballots s → IsSoundFamily f → Calm f (completes_as s f)
unfolding completes_as
completes_calm f s k h = record { sound = with_completion f s k h; quiet = completes_quiet s f }

map_set : {A B : Type 0} (g : A → B) (xs : List A) (k : ℕ) (x y : A) → slice_get xs k ≡ Some x → g y ≡ g x → map g (slice_set xs k y) ≡ map g xs
map_set g [] k x y e i = refl
map_set g (z ∷ xs) zero x y e i = let j : z ≡ x = cc e in ap (λ w. w ∷ map g xs) (i ∙ ap g (sym j))
map_set g (z ∷ xs) (suc k) x y e i = ap (λ ws. g z ∷ ws) (map_set g xs k x y e i)

heard_index : (s : Asked) (heard : ParticipantHeard) (p : Party) → (course.heard_at s heard p).index ≡ p.index
heard_index asks.Asking heard p = refl
heard_index asks.Telling heard p = refl
heard_index asks.Forgetting heard p = refl

heard_to : (s : Asked) (heard : ParticipantHeard) (p : Party) → (course.heard_at s heard p).to ≡ p.to
heard_to asks.Asking heard p = refl
heard_to asks.Telling heard p = refl
heard_to asks.Forgetting heard p = refl

heard_parties : {B : Type 0} (g : Party → B) (ps : List Party) (e : Errand) (heard : ParticipantHeard) → ((p : Party) → g (course.heard_at e.stage heard p) ≡ g p)
    → (o : Option Party) → slice_get ps e.place ≡ o → map g (elim o [ Some p ↦ slice_set ps e.place (course.heard_at e.stage heard p) | None ↦ ps ]) ≡ map g ps
heard_parties g ps e heard same (Some p) is = map_set g ps e.place p (course.heard_at e.stage heard p) is (same p)
heard_parties g ps e heard same None is = refl

answered_parties : (c : Course) (e : Errand) (heard : ParticipantHeard) (some : List Registration) → HasParties (UnderWay c) some → HasParties (UnderWay (course.answered heard c e)) some
answered_parties c e heard some h = (
  heard_parties (λ (p : Party). p.index) c.parties e heard (heard_index e.stage heard) (slice_get c.parties e.place) refl ∙ h.0,
  heard_parties (λ (p : Party). p.to) c.parties e heard (heard_to e.stage heard) (slice_get c.parties e.place) refl ∙ h.1,
)

-- what a completion under way becomes, with the same participants and the same rollback from outside
answer_parties : (n : CallNumber) (heard : ParticipantHeard) (c : Course) (some : List Registration) → HasParties (UnderWay c) some → HasParties (UnderWay (course.after_answer n heard c)) some
answer_parties n heard c some h = go c.out
  where
    test : (e : Errand) (t : Bool) → HasParties (UnderWay (if t then course.answered heard c e else c)) some
    test e true = answered_parties c e heard some h
    test e false = h

    go : (o : Option Errand) → HasParties (UnderWay (elim o [ Some e ↦ if same_number n c.number then course.answered heard c e else c | None ↦ c ])) some
    go (Some e) = test e (same_number n c.number)
    go None = h

answer_overtaken : (n : CallNumber) (heard : ParticipantHeard) (c : Course) → (course.after_answer n heard c).overtaken ≡ c.overtaken
answer_overtaken n heard c = go c.out
  where
    test : (e : Errand) (t : Bool) → (if t then course.answered heard c e else c).overtaken ≡ c.overtaken
    test e true = refl
    test e false = refl

    go : (o : Option Errand) → (elim o as (λ x. Course) [ Some e ↦ if same_number n c.number then course.answered heard c e else c | None ↦ c ]).overtaken ≡ c.overtaken
    go (Some e) = test e (same_number n c.number)
    go None = refl

completion_answered : (stage : Stage) (rs : List Row) (some : Ballots) (s : Standing) (n : CallNumber) (heard : ParticipantHeard) → IsSoundCompletion stage rs some s → IsSoundCompletion stage rs some (stages.after_answer n heard s)
completion_answered stage rs some (Waiting room) n heard h = h
completion_answered stage rs some (UnderWay c) n heard h = record {
  begun = h.begun;
  there = reached_on c (course.after_answer n heard c) h.there (by_answer c n heard);
  parties = answer_parties n heard c (ballots.participants 0 some) h.parties;
  asking = λ a. h.asking (sym (answer_overtaken n heard c) ∙ a);
}

-- one of two courses
one_of : (P : Course → Type 0) (t : Bool) (x y : Course) → P x → P y → P (if t then x else y)
one_of P true x y p q = p
one_of P false x y p q = q

completion_decided : (stage : Stage) (rs : List Row) (some : Ballots) (s : Standing) (stood : Stood) → IsSoundCompletion stage rs some s → IsSoundCompletion stage rs some (stages.after_decided stood s)
completion_decided stage rs some (Waiting room) stood h = h
completion_decided stage rs some (UnderWay c) stood h = record {
  begun = h.begun;
  there = reached_on c (course.after_decided stood c) h.there (by_record c stood);
  parties = one_of (λ d. HasParties (UnderWay d) (ballots.participants 0 some)) (course.wants_decision c) (record c { stood = Some stood }) c h.parties h.parties;
  asking = one_of (λ d. IsAsking (UnderWay d) → NoneLive rs) (course.wants_decision c) (record c { stood = Some stood }) c h.asking h.asking;
}

completion_reread : (stage : Stage) (rs : List Row) (some : Ballots) (s : Standing) (found : Option ℕ) → IsSoundCompletion stage rs some s → IsSoundCompletion stage rs some (stages.after_reread found s)
completion_reread stage rs some (Waiting room) found h = h
completion_reread stage rs some (UnderWay c) found h = record {
  begun = h.begun;
  there = reached_on c (course.after_reread found c) h.there (by_reread c found);
  parties = one_of (λ d. HasParties (UnderWay d) (ballots.participants 0 some)) (course.is_doubtful c) (record c { reread = Some found }) c h.parties h.parties;
  asking = one_of (λ d. IsAsking (UnderWay d) → NoneLive rs) (course.is_doubtful c) (record c { reread = Some found }) c h.asking h.asking;
}

-- ---- what is told of votes and of the journal has nothing of rows

votes_turn : (early : Bool) (rs : List Row) (heard : ParticipantHeard) (o : Option ℕ) → EndInTurn early (vote_effects heard o) rs
votes_turn early rs (phase_hears.Voted vote) (Some g) = tt
votes_turn early rs (phase_hears.Voted vote) None = tt
votes_turn early rs phase_hears.Done o = tt
votes_turn early rs (phase_hears.Heuristic d) o = tt
votes_turn early rs phase_hears.RolledBack o = tt
votes_turn early rs phase_hears.NotPrepared o = tt
votes_turn early rs phase_hears.NoObject o = tt
votes_turn early rs phase_hears.Other o = tt
votes_turn early rs phase_hears.Lost o = tt
votes_turn early rs phase_hears.Starved o = tt

pub votes_rows : (rs : List Row) (heard : ParticipantHeard) (o : Option ℕ) → rs ≡ rows_told (vote_effects heard o) rs
votes_rows rs (phase_hears.Voted vote) (Some g) = refl
votes_rows rs (phase_hears.Voted vote) None = refl
votes_rows rs phase_hears.Done o = refl
votes_rows rs (phase_hears.Heuristic d) o = refl
votes_rows rs phase_hears.RolledBack o = refl
votes_rows rs phase_hears.NotPrepared o = refl
votes_rows rs phase_hears.NoObject o = refl
votes_rows rs phase_hears.Other o = refl
votes_rows rs phase_hears.Lost o = refl
votes_rows rs phase_hears.Starved o = refl

told_participant_calm : (n : CallNumber) (heard : Heard) (f : Family) → IsSoundFamily f → Calm f (told_participant n heard f)
unfolding told_participant
told_participant_calm n heard f h =
    let later : Standing = stages.after_answer (inner_number f f.completion n) (of_participant heard) f.completion in
    calmly (is_before f.stage) f.rows (shows (vote_effects (of_participant heard) (stages.voter f.completion)) f) (completes_as later)
    (record {
      stage = λ e. e;
      rows = votes_rows f.rows (of_participant heard) (stages.voter f.completion);
      turn = votes_turn (is_before f.stage) f.rows (of_participant heard) (stages.voter f.completion);
      silent = refl;
    })
    (completes_calm f later (completion_answered f.stage f.rows f.ballots f.completion (inner_number f f.completion n) (of_participant heard) h.completion) h)

-- ---- the answer to a word

in_before : (stage : Stage) (aim : Aim) (called : ℕ) → IsInStage stage aim (Before called) → stage ≡ Finishing
in_before stage (Commits asked) called h = h
in_before stage (RollsBack says) called h = absurd h

told_calm : Laws → (leg : Leg) (n : CallNumber) (b : ℕ) (c : Call) (heard : Heard) (f : Family) → c.leg ≡ leg → But b f → Takes b c f → IsSoundFamily f → Calm f (told leg n b c heard f)
told_calm law Below n b c heard f l k t h = only_calm f h
told_calm law Own n b c heard f l k t h = told_end_calm law c.aim b heard f h
told_calm law (Before called) n b c heard f l k t h =
    let z : b ≡ 0 = is_top b c f (Before called) l tt t in
    let stage : f.stage ≡ Finishing = in_before f.stage c.aim called (subst (λ (x : Leg). IsInStage f.stage c.aim x) l (t.top z).in_stage) in
    told_before_calm b called c heard f z stage (top_alone b c f (Before called) l tt k t z) h
told_calm law Deciding n b c heard f l k t h = told_participant_calm n heard f h
told_calm law (After called) n b c heard f l k t h = only_calm f h

hears_at_calm : Laws → (n : CallNumber) (b : ℕ) (c : Call) (heard : Heard) (f : Family) → call_at f b ≡ Some c → IsSoundFamily f → Calm f (hears_at n b c heard f)
unfolding hears_at
hears_at_calm law n b c heard f e h =
    let quiet : Call = record c { out = None } in
    let g : Family = with_call b quiet f in
    let t : Takes b quiet g = h.under_way b c e in
    let sound : IsSoundFamily g = put_back b quiet f (taken_up b f h) t in
    told_calm law c.leg n b quiet heard g refl (taken_up b g sound) t sound

hears_call_calm : Laws → (o : Option Call) (b : ℕ) (n : CallNumber) (heard : Heard) (f : Family) → call_at f b ≡ o → IsSoundFamily f → Calm f (hears_call o b n heard f)
hears_call_calm law (Some c) b n heard f e h = hears_at_calm law n b c heard f e h
hears_call_calm law None b n heard f e h = only_calm f h

hears_for_calm : Laws → (o : Option ℕ) (n : CallNumber) (heard : Heard) (f : Family) → IsSoundFamily f → Calm f (hears_for o n heard f)
hears_for_calm law (Some b) n heard f h = hears_call_calm law (call_at f b) b n heard f refl h
hears_for_calm law None n heard f h = only_calm f h

pub hears_calm : Laws → (n : CallNumber) (heard : Heard) (f : Family) → IsSoundFamily f → Calm f (hears n heard f)
unfolding hears
hears_calm law n heard f h = hears_for_calm law (waiting_for f n) n heard f h

-- ---- the journal

answers_doubt_calm : (why : Doubted) (o : Option Call) (f : Family) → call_at f 0 ≡ o → IsSoundFamily f → Calm f (answers_doubt why o f)
unfolding answers_doubt
answers_doubt_calm why (Some c) f e h = record {
  sound = put_back 0 (record c { caller = None }) f (taken_up 0 f h) (h.under_way 0 c e);
  quiet = record { stage = λ x. x; rows = refl; turn = tt; silent = refl };
}
answers_doubt_calm why None f e h = only_calm f h

doubts_by_calm : (stood : Stood) (f : Family) → IsSoundFamily f → Calm f (doubts_by stood f)
doubts_by_calm (answers.Stands place) f h = only_calm f h
doubts_by_calm (answers.Full used need) f h = only_calm f h
doubts_by_calm (answers.Unsure why) f h =
    calmly (is_before f.stage) f.rows (shows (effects.Doubted ∷ []) f) (λ g. answers_doubt why (call_at g 0) g)
    (record { stage = λ x. x; rows = refl; turn = tt; silent = refl }) (answers_doubt_calm why (call_at f 0) f refl h)

decided_calm : (stood : Stood) (f : Family) → IsSoundFamily f → Calm f (decided stood f)
unfolding decided
decided_calm stood f h =
    let k : IsCalm (is_before f.stage) f.rows (completes_as (stages.after_decided stood f.completion) f) =
    completes_calm f (stages.after_decided stood f.completion) (completion_decided f.stage f.rows f.ballots f.completion stood h.completion) h in
    calmly (is_before f.stage) f.rows (completes_as (stages.after_decided stood f.completion) f) (doubts_by stood) k.quiet
    (doubts_by_calm stood (completes_as (stages.after_decided stood f.completion) f).family k.sound)

done_turn : (early : Bool) (rs : List Row) (stood : Stood) → EndInTurn early (done_effects stood) rs
done_turn early rs (answers.Stands place) = tt
done_turn early rs (answers.Full used need) = tt
done_turn early rs (answers.Unsure why) = tt

pub done_rows : (rs : List Row) (stood : Stood) → rs ≡ rows_told (done_effects stood) rs
done_rows rs (answers.Stands place) = refl
done_rows rs (answers.Full used need) = refl
done_rows rs (answers.Unsure why) = refl

closes_calm : (stood : Stood) (f : Family) → IsSoundFamily f → Calm f (closes stood f)
unfolding closes
closes_calm stood f h = record {
  sound = h;
  quiet = record { stage = λ e. e; rows = done_rows f.rows stood; turn = done_turn (is_before f.stage) f.rows stood; silent = refl };
}

pub settles_calm : (stood : Option Stood) (f : Family) → IsSoundFamily f → Calm f (settles stood f)
unfolding settles
settles_calm None f h = only_calm f h
settles_calm (Some stood) f h = either_calm (is_before f.stage) f.rows (stages.wants_decision f.completion) _ _
    (λ e. decided_calm stood f h)
    (λ e. either_calm (is_before f.stage) f.rows (wants_done f) _ _ (λ d. closes_calm stood f h) (λ d. only_calm f h))

-- ---- and then its call goes on

goes_on_at_fine : Laws → (o : Option ℕ) (f : Family) → IsSoundFamily f → Fine f (goes_on_at o f)
goes_on_at_fine law (Some b) f h = goes_on_fine law b f h
goes_on_at_fine law None f h = only_fine f h

pub answered_fine : Laws → (n : CallNumber) (heard : Heard) (stood : Option Stood) (f : Family) → IsSoundFamily f → Fine f (answered n heard stood f)
unfolding answered
answered_fine law n heard stood f h =
    let first : Moved = hears n heard f in
    let k : IsCalm (is_before f.stage) f.rows first = hears_calm law n heard f h in
    let settled : IsCalm (is_before f.stage) f.rows (first ▹ settles stood) =
    calmly (is_before f.stage) f.rows first (settles stood) k.quiet (settles_calm stood first.family k.sound) in
    chained (is_before f.stage) f.rows (first ▹ settles stood) (goes_on_at (waiting_for f n)) settled.quiet
    (goes_on_at_fine law (waiting_for f n) (first ▹ settles stood).family settled.sound)

pub rereads_fine : Laws → (stood : Option Stood) (f : Family) → IsSoundFamily f → Fine f (rereads stood f)
unfolding rereads
rereads_fine law stood f h =
    let later : Standing = stages.after_reread (found_at stood) f.completion in
    let k : IsCalm (is_before f.stage) f.rows (completes_as later f) =
    completes_calm f later (completion_reread f.stage f.rows f.ballots f.completion (found_at stood) h.completion) h in
    chained (is_before f.stage) f.rows (completes_as later f) (goes_on 0) k.quiet (goes_on_fine law 0 (completes_as later f).family k.sound)
