-- Whom a completion asks: an answer that is heard changes nothing of that.
use Rattle.std.proofs.Common.{◌≡◌, ◌∙◌, refl, sym, ap, ℕ, zero, suc, Bool, true, false, List, [], ◌∷◌, map, Option, Some, None, if◌then◌else◌}
use Rattle.std.specs.Prelude.{slice_set}
use Rattle.std.specs.List.{slice_get}
use Rattle.ots_model.specs.declared.completion.CallNumber.{CallNumber}
use Rattle.ots_model.specs.declared.completion.Heard.{Heard as ParticipantHeard}
use Rattle.ots_model.specs.declared.tree.Heard.{Heard}
use Rattle.ots_model.specs.declared.tree.Reason.{Reason}
use Rattle.resource_votes.specs.Ballots.{participants}
use Rattle.resource_votes.specs.declared.registration.Registration.{Registration}
use Rattle.two_phase.specs.Course.{same_number}
use Rattle.two_phase.specs.Course as course
use Rattle.two_phase.specs.Course.{Course}
use Rattle.two_phase.specs.Parties.{party_of}
use Rattle.two_phase.specs.Stages as stages
use Rattle.two_phase.specs.Stages.{Standing, Waiting, Going as UnderWay}
use Rattle.two_phase.specs.declared.party.Errand.{Errand}
use Rattle.two_phase.specs.declared.party.Party.{Party}
use Rattle.two_phase.specs.declared.party.Stage.{Stage}
use Rattle.two_phase.specs.declared.party.Stage.TheVariants.{Asking, Telling, Forgetting}
use Rattle.coordinator.specs.declared.call.Leg.{Leg}
use Rattle.coordinator.specs.declared.call.Leg.TheVariants.{Below, Own, Before, Deciding, After}
use Rattle.coordinator.specs.declared.event.Act.{Act}
use Rattle.coordinator.specs.declared.event.Act.TheVariants as acts
use Rattle.coordinator.specs.Closing.{asked_of, begins, begun, gives_up, rolling_back}
use Rattle.coordinator.specs.Family.{Family, Aim, Call, Commits, RollsBack, call_at, with_call}
use Rattle.coordinator.specs.Hearing.{hears_at, inner_number, is_markable, is_plain, marks, marks_parent, reason_of, told, told_before, told_commit, told_end, told_participant}
use Rattle.coordinator.specs.Moves.{Moved, completes_as}
use Rattle.coordinator.specs.Step.{hears_call}
use Rattle.txn_tree.specs.Rows.{parent}
use Rattle.family_laws.specs.Sound.{HasParties}
use Rattle.family_step.specs.Asking.{hears_act}

-- ---- an answer changes no number and no reference

set_same : {A : Type 0} (v : Party → A) (ps : List Party) (i : ℕ) (p q : Party) → slice_get ps i ≡ Some p → v q ≡ v p → map v (slice_set ps i q) ≡ map v ps
set_same v [] i p q there same = refl
set_same v (x ∷ ps) zero p q there same =
    let is : x ≡ p = cc (there) in
    ap (λ (y : _). y ∷ map v ps) (same ∙ ap v (sym is))
set_same v (x ∷ ps) (suc i) p q there same = ap (λ (vs : List _). v x ∷ vs) (set_same v ps i p q there same)

heard_number : (s : Stage) (h : ParticipantHeard) (p : Party) → (course.heard_at s h p).index ≡ p.index
heard_number Asking h p = refl
heard_number Telling h p = refl
heard_number Forgetting h p = refl

heard_to : (s : Stage) (h : ParticipantHeard) (p : Party) → (course.heard_at s h p).to ≡ p.to
heard_to Asking h p = refl
heard_to Telling h p = refl
heard_to Forgetting h p = refl

by_errand : {A : Type 0} (v : Party → A) (ps : List Party) (e : Errand) (h : ParticipantHeard) → ((p : Party) → v (course.heard_at e.stage h p) ≡ v p)
    → map v (course.heard_by ps e h) ≡ map v ps
by_errand v ps e h same = by_place (slice_get ps e.place) refl
  where
    by_place : (o : Option Party) → slice_get ps e.place ≡ o → map v (elim o [ Some p ↦ slice_set ps e.place (course.heard_at e.stage h p) | None ↦ ps ]) ≡ map v ps
    by_place (Some p) is = set_same v ps e.place p (course.heard_at e.stage h p) is (same p)
    by_place None is = refl

abbrev Has : List Registration → Course → Type 0
Has rs c = HasParties (UnderWay c) rs

by_number : (b : Bool) (rs : List Registration) (h : ParticipantHeard) (c : Course) (e : Errand) → Has rs c → Has rs (if b then course.answered h c e else c)
by_number true rs h c e has =
    (by_errand (λ (p : Party). p.index) c.parties e h (heard_number e.stage h) ∙ has.0, by_errand (λ (p : Party). p.to) c.parties e h (heard_to e.stage h) ∙ has.1)
by_number false rs h c e has = has

answered_has : (rs : List Registration) (n : CallNumber) (h : ParticipantHeard) (s : Standing) → HasParties s rs → HasParties (stages.after_answer n h s) rs
answered_has rs n h (Waiting room) has = tt
answered_has rs n h (UnderWay c) has = by_out c.out
  where
    by_out : (o : Option Errand) → Has rs (elim o [ Some e ↦ if same_number n c.number then course.answered h c e else c | None ↦ c ])
    by_out (Some e) = by_number (same_number n c.number) rs h c e has
    by_out None = has

-- ---- what is heard

abbrev Keeps : Family → Moved → Type 0
Keeps f m = HasParties m.family.completion (participants 0 f.ballots)

either : (f : Family) (x : Bool) (m n : Moved) → Keeps f m → Keeps f n → Keeps f (if x then m else n)
either f true m n p q = p
either f false m n p q = q

parties_of : (rs : List Registration) → HasParties (UnderWay (course.begun rs false (record { life = 0; slot = 0; generation = 0; serial = 0 }) false)) rs
parties_of rs = (numbers rs, references rs)
  where
    numbers : (xs : List Registration) → map (λ (p : Party). p.index) (map party_of xs) ≡ map (λ (r : Registration). r.index) xs
    numbers [] = refl
    numbers (x ∷ xs) = ap (λ (ns : List ℕ). x.index ∷ ns) (numbers xs)

    references : (xs : List Registration) → map (λ (p : Party). p.to) (map party_of xs) ≡ map (λ (r : Registration). r.to) xs
    references [] = refl
    references (x ∷ xs) = ap (λ (ts : List (List ℕ)). x.to ∷ ts) (references xs)

begun_has : (s : Standing) (asked : Bool) (reason : Reason) (f : Family) → HasParties s (participants 0 f.ballots) → HasParties (begun s (rolling_back asked reason f)) (participants 0 f.ballots)
begun_has (Waiting room) asked reason f has = parties_of (participants 0 f.ballots)
begun_has (UnderWay c) asked reason f has = has

begins_keeps : (asked : Bool) (reason : Reason) (f : Family) → HasParties f.completion (participants 0 f.ballots) → Keeps f (begins (rolling_back asked reason f) f)
unfolding begins completes_as
begins_keeps asked reason f has = begun_has f.completion asked reason f has

marks_keeps : (b : ℕ) (f : Family) → HasParties f.completion (participants 0 f.ballots) → Keeps f (marks b f)
unfolding marks
marks_keeps b f has = either f (is_markable f b) _ _ has has

parent_keeps : (o : Option ℕ) (f : Family) → HasParties f.completion (participants 0 f.ballots) → Keeps f (marks_parent o f)
parent_keeps (Some above) f has = marks_keeps above f has
parent_keeps None f has = has

commit_keeps : (b : ℕ) (h : Heard) (f : Family) → HasParties f.completion (participants 0 f.ballots) → Keeps f (told_commit b h f)
unfolding told_commit
commit_keeps b h f has = either f _ _ _ has (parent_keeps (parent f.rows b) f has)

end_keeps : (aim : Aim) (b : ℕ) (h : Heard) (f : Family) → HasParties f.completion (participants 0 f.ballots) → Keeps f (told_end aim b h f)
end_keeps (Commits asked) b h f has = commit_keeps b h f has
end_keeps (RollsBack says) b h f has = has

before_keeps : (b called : ℕ) (c : Call) (h : Heard) (f : Family) → HasParties f.completion (participants 0 f.ballots) → Keeps f (told_before b called c h f)
unfolding told_before
before_keeps b called c h f has = either f (is_plain h) _ (gives_up (reason_of called h) c (with_call b (record c { leg = Deciding }) f)) has
    (begins_keeps (asked_of c.aim) (reason_of called h) (with_call b (record c { leg = Deciding }) f) has)

participant_keeps : (n : CallNumber) (h : Heard) (f : Family) → HasParties f.completion (participants 0 f.ballots) → Keeps f (told_participant n h f)
unfolding told_participant completes_as
participant_keeps n h f has = answered_has (participants 0 f.ballots) (inner_number f f.completion n) _ f.completion has

told_keeps : (leg : Leg) (n : CallNumber) (b : ℕ) (c : Call) (h : Heard) (f : Family) → HasParties f.completion (participants 0 f.ballots) → Keeps f (told leg n b c h f)
told_keeps Below n b c h f has = has
told_keeps Own n b c h f has = end_keeps c.aim b h f has
told_keeps (Before called) n b c h f has = before_keeps b called c h f has
told_keeps Deciding n b c h f has = participant_keeps n h f has
told_keeps (After called) n b c h f has = has

call_keeps : (o : Option Call) (b : ℕ) (n : CallNumber) (h : Heard) (f : Family) → HasParties f.completion (participants 0 f.ballots) → Keeps f (hears_call o b n h f)
unfolding hears_at
call_keeps (Some c) b n h f has = told_keeps c.leg n b _ h _ has
call_keeps None b n h f has = has

pub heard_keeps : (act : Act) (b : ℕ) (f : Family) → HasParties f.completion (participants 0 f.ballots) → Keeps f (hears_act act b f)
heard_keeps (acts.Answer n h) b f has = call_keeps (call_at f b) b n h f has
heard_keeps _ b f has = has
