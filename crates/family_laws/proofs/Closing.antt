-- The Done is wanted once all have completed, and is told where it stands.
use Rattle.std.proofs.Common.{◌≡◌, ◌⊎◌, ◌&&◌, ◌||◌, not, inl, inr, ℕ, suc, List, [], ◌∷◌, ◌++◌, Bool, true, false, if◌then◌else◌, Option, Some, None, is_some, is_none, Contains, refl, ap, sym, subst, ◌∙◌, arith}
use Rattle.std.proofs.lemmas.List.Elements.{Contains-append_left, Contains-append_right}
use Rattle.std.specs.List.{AllByRecursion, slice_get}
use Rattle.std.specs.Option.{option_map, option_map_or}
use Rattle.ots_model.specs.declared.completion.CallNumber.{CallNumber}
use Rattle.ots_model.specs.declared.completion.Disposition.{Disposition}
use Rattle.ots_model.specs.declared.completion.Ground.TheVariants.{Nobody}
use Rattle.ots_model.specs.declared.completion.Heard.{Heard as ParticipantHeard}
use Rattle.ots_model.specs.declared.completion.Heard.TheVariants as phase_hears
use Rattle.ots_model.specs.declared.completion.Stood.{Stood}
use Rattle.ots_model.specs.declared.completion.Stood.TheVariants as answers
use Rattle.ots_model.specs.declared.completion.Vote.TheVariants.{VoteCommit}
use Rattle.ots_model.specs.declared.tree.Heard.{Heard}
use Rattle.ots_model.specs.Numbered.{Outcome}
use Rattle.ots_model.specs.declared.completion.Outcome.TheVariants as outcomes
use Rattle.ots_model.specs.declared.tree.Reason.{Reason}
use Rattle.two_phase.specs.Course as course
use Rattle.two_phase.specs.Course.{Course}
use Rattle.two_phase.specs.LawsOfReached.{IsReached, TreeBecomes}
use Rattle.two_phase.specs.LawsOfReached.IsReached.{begins, rolls_back, goes_on}
use Rattle.two_phase.specs.LawsOfReached.TreeBecomes.{by_word, by_answer, by_record, by_reread, by_rollback}
use Rattle.two_phase.specs.LawsOfSettling.{IsThrough}
use Rattle.two_phase.specs.Parties.{completes, has_raised, is_told, lets_go, is_heuristic}
use Rattle.two_phase.specs.Course.{same_number}
use Rattle.two_phase.specs.Reports as reports
use Rattle.two_phase.specs.Stages as stages
use Rattle.two_phase.specs.Stages.{Standing, Waiting, Going as UnderWay}
use Rattle.two_phase.specs.declared.party.Errand.{Errand}
use Rattle.two_phase.specs.declared.party.Party.{Party}
use Rattle.coordinator.specs.declared.effect.Effect.{Effect}
use Rattle.coordinator.specs.declared.effect.Effect.TheVariants as effects
use Rattle.coordinator.specs.declared.event.Act.{Act}
use Rattle.coordinator.specs.declared.event.Act.TheVariants as acts
use Rattle.coordinator.specs.declared.event.Event.{Event}
use Rattle.coordinator.specs.declared.said.Said.{Said}
use Rattle.coordinator.specs.declared.said.Said.TheVariants as said
use Rattle.coordinator.specs.Family.{Family, waiting_for}
use Rattle.coordinator.specs.Moves.{Moved, only}
use Rattle.coordinator.specs.Hearing.{decision_record, wants_done, decided, closes, settles}
use Rattle.coordinator.specs.History.{kept_for}
use Rattle.coordinator.specs.Laws.{IsThere}
use Rattle.coordinator.specs.Step.{Appends, WritesDone, wanted_by, wanted_act, wanted, hears, answered, goes_on_at, acts_on, acted, is_silent, is_silent_act, Stepped, quiet, entered, step_by, family_step}
use Rattle.family_laws.specs.LawsOfJournal.{HasForgotten, HasCompleted, CompletesAll, FamiliesCloseLast}
use Rattle.family_laws.specs.Sound.{IsSoundFamily}
use Rattle.family_laws.specs.LawsBelow.{Laws}
use Rattle.family_laws.proofs.Telling.{either_course, IsOther, IsKept}
use Rattle.family_laws.proofs.Votes.{answered_alone, IsNoDone, other_no_done}
use Rattle.family_laws.proofs.Hearing.{hears_calm}
use Rattle.family_laws.proofs.Lists.{all_map, has_at}
use Rattle.family_laws.proofs.StepsTell.{answered_is, IsStep, IsAnswer, step_is, no_done_among}
use Rattle.family_laws.proofs.Journal.{IsWantedBy, wanted_is, wanted_step, both_left, both_right}

-- ---- where one decides alone no journal is asked

abbrev Together : Course → Type 0
Together c = (c.stood ≡ None) ⊎ (course.decides_alone c ≡ false)

wanted_together : (c : Course) → course.wants_decision c ≡ true → course.decides_alone c ≡ false
wanted_together c h = go (course.decides_alone c) (is_none c.overtaken) (is_none c.stood) (course.all_consent c) (course.some_commit c) h
  where
    go : (a b c d e : Bool) → (not a && b && c && d && e) ≡ true → a ≡ false
    go false b c d e h = refl
    go true b c d e h = absurd (cc h)

step_together : (c later : Course) → TreeBecomes c later → Together c → Together later
step_together _ _ (by_word c) h = either_course Together (is_some c.out) c (record c { out = course.errand c }) h h
step_together _ _ (by_answer c number heard) h = go c.out
  where
    answered_together : (e : Errand) → Together c → Together (course.answered heard c e)
    answered_together e (inl n) = inl n
    answered_together e (inr a) = inr (answered_alone c e heard ∙ a)

    test : (e : Errand) (t : Bool) → Together (if t then course.answered heard c e else c)
    test e true = answered_together e h
    test e false = h

    go : (o : Option Errand) → Together (elim o [ Some e ↦ if same_number number c.number then course.answered heard c e else c | None ↦ c ])
    go (Some e) = test e (same_number number c.number)
    go None = h
step_together _ _ (by_record c stood) h = go (course.wants_decision c) refl
  where
    go : (t : Bool) → course.wants_decision c ≡ t → Together (if t then record c { stood = Some stood } else c)
    go true e = inr (wanted_together c e)
    go false e = h
step_together _ _ (by_reread c found) h = either_course Together (course.is_doubtful c) (record c { reread = Some found }) c h h
step_together _ _ (by_rollback c reason) h =
    either_course Together (course.is_outside reason && course.may_roll_back c) (record c { overtaken = Some reason; out = None; number = course.overtaken_number c }) c h h

together : (c : Course) → IsReached c → Together c
together _ (begins some asked first one) = inl refl
together _ (rolls_back some asked first one reason) = inl refl
together _ (goes_on c later r b) = step_together c later b (together c r)

-- ---- an outcome that nobody knows is that of one that decides alone

known_by_refusal : (p : Party) (o : Option ParticipantHeard) → p.ballot ≡ o → course.by_refusal p ≡ Some outcomes.Unknown → ⊥
known_by_refusal p None e h = absurd (cc (rw e at h))
known_by_refusal p (Some heard) e h = absurd (cc (rw e at h))

known_by_record : (stood : Option Stood) (reread : Option (Option ℕ)) → course.by_record stood reread ≡ Some outcomes.Unknown → ⊥
known_by_record None reread h = absurd (cc h)
known_by_record (Some (answers.Stands place)) reread h = absurd (cc h)
known_by_record (Some (answers.Full used need)) reread h = absurd (cc h)
known_by_record (Some (answers.Unsure why)) None h = absurd (cc h)
known_by_record (Some (answers.Unsure why)) (Some None) h = absurd (cc h)
known_by_record (Some (answers.Unsure why)) (Some (Some place)) h = absurd (cc h)

known_by_votes : (c : Course) → course.by_votes c ≡ Some outcomes.Unknown → ⊥
known_by_votes c h = go (course.first_refuser c.parties) h
  where
    by_all : (a b : Bool) → (if not a then None else if b then course.by_record c.stood c.reread else Some (outcomes.Commit Nobody)) ≡ Some outcomes.Unknown → ⊥
    by_all false b h = absurd (cc h)
    by_all true true h = known_by_record c.stood c.reread h
    by_all true false h = absurd (cc h)

    go : (o : Option Party) → (elim o as (λ x. Option Outcome) [
      | Some p ↦ course.by_refusal p
      | None ↦ if not (course.all_consent c) then None else if course.some_commit c then course.by_record c.stood c.reread else Some (outcomes.Commit Nobody)
    ]) ≡ Some outcomes.Unknown → ⊥
    go (Some p) h = known_by_refusal p p.ballot refl h
    go None h = by_all (course.all_consent c) (course.some_commit c) h

overtaken_is : (c : Course) (reason : Reason) → c.overtaken ≡ Some reason → course.outcome c ≡ Some (outcomes.Rollback reason)
unfolding course.outcome
overtaken_is c reason e = rw e refl

known : Laws → (c : Course) → course.decides_alone c ≡ false → course.outcome c ≡ Some outcomes.Unknown → ⊥
known law c a h = go c.overtaken refl
  where
    go : (o : Option Reason) → c.overtaken ≡ o → ⊥
    go None e = known_by_votes c (sym (law.votes c e a) ∙ h)
    go (Some reason) e = absurd (cc (sym (overtaken_is c reason e) ∙ h))

-- ---- all have completed

-- each of these, by its place
each_at : (P : Party → Type 0) (ps : List Party) → ((place : ℕ) (p : Party) → slice_get ps place ≡ Some p → P p) → AllByRecursion P ps
each_at P [] each = tt
each_at P (p ∷ ps) each = (each 0 p refl, each_at P ps (λ place q there. each (suc place) q there))

let_go : (o : Option ParticipantHeard) → option_map_or lets_go o false ≡ true → HasForgotten o
let_go None h = absurd (cc h)
let_go (Some phase_hears.Done) h = inl refl
let_go (Some phase_hears.NoObject) h = inr refl
let_go (Some (phase_hears.Voted vote)) h = absurd (cc h)
let_go (Some (phase_hears.Heuristic d)) h = absurd (cc h)
let_go (Some phase_hears.RolledBack) h = absurd (cc h)
let_go (Some phase_hears.NotPrepared) h = absurd (cc h)
let_go (Some phase_hears.Other) h = absurd (cc h)
let_go (Some phase_hears.Lost) h = absurd (cc h)
let_go (Some phase_hears.Starved) h = absurd (cc h)

-- one that has raised a heuristic exception has let go of it
abbrev LetsGo : Party → Type 0
LetsGo p = has_raised p ≡ true → option_map_or lets_go p.forgot false ≡ true

forgotten : (p : Party) (d : Disposition) → p.told ≡ Some (phase_hears.Heuristic d) → LetsGo p → HasForgotten p.forgot
forgotten p d e lets = let_go p.forgot (lets (ap (λ (o : Option ParticipantHeard). option_map_or is_heuristic p.ballot false || option_map_or is_heuristic o false) e ∙ or_true (option_map_or is_heuristic p.ballot false)))
  where
    or_true : (a : Bool) → (a || true) ≡ true
    or_true true = refl
    or_true false = refl

completed_by : (p : Party) (o : Option ParticipantHeard) → p.told ≡ o → option_map_or completes o false ≡ true → LetsGo p → HasCompleted p
completed_by p None e h lets = absurd (cc h)
completed_by p (Some phase_hears.Done) e h lets = inl e
completed_by p (Some phase_hears.NoObject) e h lets = inr (inl e)
completed_by p (Some (phase_hears.Heuristic d)) e h lets = inr (inr (d, e, forgotten p d e lets))
completed_by p (Some (phase_hears.Voted vote)) e h lets = absurd (cc h)
completed_by p (Some phase_hears.RolledBack) e h lets = absurd (cc h)
completed_by p (Some phase_hears.NotPrepared) e h lets = absurd (cc h)
completed_by p (Some phase_hears.Other) e h lets = absurd (cc h)
completed_by p (Some phase_hears.Lost) e h lets = absurd (cc h)
completed_by p (Some phase_hears.Starved) e h lets = absurd (cc h)

told_commit : (fixed : Outcome) (p : Party) → (fixed ≡ outcomes.Unknown → ⊥) → p.ballot ≡ Some (phase_hears.Voted VoteCommit) → is_told false fixed p ≡ true
told_commit (outcomes.Commit basis) p n e = rw e refl
told_commit (outcomes.Rollback reason) p n e = rw e refl
told_commit outcomes.Unknown p n e = absurd (n refl)

-- a settled completion is through with each that has voted commit
settled_all : Laws → (c : Course) → course.decides_alone c ≡ false → reports.is_settled c ≡ true → CompletesAll (UnderWay c)
settled_all law c a h = through ((law.settled c).0 h)
  where
    through : IsThrough c → CompletesAll (UnderWay c)
    through (fixed, is, complete, lets) =
        each_at (λ (p : Party). p.ballot ≡ Some (phase_hears.Voted VoteCommit) → HasCompleted p) c.parties
        (λ place p there voted. completed_by p p.told refl
        (complete place p there (ap (λ (alone : Bool). is_told alone fixed p) a ∙ told_commit fixed p (λ u. known law c a (rw u at is)) voted))
        (lets place p there))

-- ---- the Done is wanted

pub record IsDoneWanted (f : Family) (place : ℕ) : Type 0 where
  pub undecided : stages.wants_decision f.completion ≡ false
  pub wanted_now : wants_done f ≡ true
  pub at : stages.record_place f.completion ≡ Some place

pub done_by : (f : Family) (place : ℕ) → wanted_by f ≡ Some (WritesDone place) → IsDoneWanted f place
done_by f place h = go (stages.wants_decision f.completion) refl h
  where
    at : (o : Option ℕ) → option_map WritesDone o ≡ Some (WritesDone place) → o ≡ Some place
    at None x = absurd (cc x)
    at (Some p) x = cc x

    by_done : (t : Bool) → wants_done f ≡ t → stages.wants_decision f.completion ≡ false → (if t then option_map WritesDone (stages.record_place f.completion) else None) ≡ Some (WritesDone place) → IsDoneWanted f place
    by_done true d e x = record { undecided = e; wanted_now = d; at = at (stages.record_place f.completion) x }
    by_done false d e x = absurd (cc x)

    go : (t : Bool) → stages.wants_decision f.completion ≡ t
        → (if t then Some (Appends (decision_record f)) else if wants_done f then option_map WritesDone (stages.record_place f.completion) else None) ≡ Some (WritesDone place) → IsDoneWanted f place
    go true e x = absurd (cc x)
    go false e x = by_done (wants_done f) refl e x

done_settled : (f : Family) → wants_done f ≡ true → stages.is_settled f.completion ≡ true
unfolding wants_done
done_settled f h = both_right (is_none f.closed && is_some (stages.record_place f.completion) && is_none (stages.next_word f.completion)) (stages.is_settled f.completion) h

done_placed : (f : Family) → wants_done f ≡ true → is_some (stages.record_place f.completion) ≡ true
unfolding wants_done
done_placed f h =
    let first = both_left (is_none f.closed && is_some (stages.record_place f.completion) && is_none (stages.next_word f.completion)) (stages.is_settled f.completion) h in
    let second = both_left (is_none f.closed && is_some (stages.record_place f.completion)) (is_none (stages.next_word f.completion)) first in
    both_right (is_none f.closed) (is_some (stages.record_place f.completion)) second

no_record : (stood : Option Stood) (reread : Option (Option ℕ)) (place : ℕ) → stood ≡ None → course.record_place stood reread ≡ Some place → ⊥
no_record None reread place e h = absurd (cc h)
no_record (Some x) reread place e h = absurd (cc e)

completes_all : Laws → (s : Standing) (place : ℕ) → IsThere s → stages.record_place s ≡ Some place → stages.is_settled s ≡ true → CompletesAll s
completes_all law (Waiting room) place there at h = absurd (cc h)
completes_all law (UnderWay c) place there at h = go (together c there)
  where
    go : Together c → CompletesAll (UnderWay c)
    go (inl n) = absurd (no_record c.stood c.reread place n at)
    go (inr a) = settled_all law c a h

done_completed : Laws → (f : Family) (e : Event) (place : ℕ) (number : CallNumber) (heard : Heard) → IsSoundFamily f → wanted f e ≡ Some (WritesDone place) → e.act ≡ acts.Answer number heard
    → CompletesAll (hears number heard f).family.completion × (stages.record_place (hears number heard f).family.completion ≡ Some place)
done_completed law f e place number heard sound w is =
    let x : IsWantedBy f e (WritesDone place) = wanted_is f e (WritesDone place) tt w in
    let n : x.number ≡ number = cc (x.answer, is) in
    let h : x.heard ≡ heard = cc (x.answer, is) in
    let by : wanted_by (hears number heard f).family ≡ Some (WritesDone place) =
    subst (λ (k : CallNumber). wanted_by (hears k heard f).family ≡ Some (WritesDone place)) n
    (subst (λ (k : Heard). wanted_by (hears x.number k f).family ≡ Some (WritesDone place)) h x.by) in
    let d = done_by (hears number heard f).family place by in
    (completes_all law (hears number heard f).family.completion place (hears_calm law number heard f sound).sound.completion.there d.at (done_settled (hears number heard f).family d.wanted_now), d.at)

-- ---- and told

-- a step that tells something is new, and no silent one
record IsLoud (f : Family) (e : Event) : Type 0 where
  new : kept_for f.entries e.key ≡ None
  loud : is_silent e f ≡ false

loud : (f : Family) (e : Event) (stood : Option Stood) (x : Effect) → Contains (family_step f e stood).effects x → IsLoud f e
unfolding family_step
loud f e stood x h = by_kept (kept_for f.entries e.key) refl h
  where
    by_silent : kept_for f.entries e.key ≡ None → (t : Bool) → is_silent e f ≡ t → Contains (if t then quiet said.Plain f else entered f e stood (acted e stood f)).effects x → IsLoud f e
    by_silent n true i c = let l = c.1 in absurd (omega (arith, l))
    by_silent n false i c = record { new = n; loud = i }

    by_kept : (o : Option Said) → kept_for f.entries e.key ≡ o → Contains (step_by o f e stood).effects x → IsLoud f e
    by_kept (Some answer) i c = let l = c.1 in absurd (omega (arith, l))
    by_kept None i c = by_silent i (is_silent e f) refl c

some_place : (o : Option ℕ) → is_some o ≡ true → (place : ℕ) × (o ≡ Some place)
some_place None h = absurd (cc h)
some_place (Some place) h = (place, refl)

waited_for : (o : Option ℕ) → is_none o ≡ false → is_some o ≡ true
waited_for None h = absurd (cc h)
waited_for (Some b) h = refl

wanted_done : (f : Family) (e : Event) (n : CallNumber) (h : Heard) (place : ℕ) → IsLoud f e → e.act ≡ acts.Answer n h → stages.wants_decision (hears n h f).family.completion ≡ false → wants_done (hears n h f).family ≡ true
    → stages.record_place (hears n h f).family.completion ≡ Some place → wanted f e ≡ Some (WritesDone place)
unfolding wanted
wanted_done f e n h place l is undecided done at =
    ap (λ (o : Option Said). if is_some o then None else wanted_act e.act f) l.new
    ∙ ap (λ (a : Act). wanted_act a f) is
    ∙ ap (λ (t : Bool). if t then wanted_by (hears n h f).family else None) (waited_for (waiting_for f n) (sym (ap (λ (a : Act). is_silent_act a e.now f) is) ∙ l.loud))
    ∙ ap (λ (t : Bool). if t then Some (Appends (decision_record (hears n h f).family)) else if wants_done (hears n h f).family then option_map WritesDone (stages.record_place (hears n h f).family.completion) else None) undecided
    ∙ ap (λ (t : Bool). if t then option_map WritesDone (stages.record_place (hears n h f).family.completion) else None) done
    ∙ ap (λ (o : Option ℕ). option_map WritesDone o) at

done_told : (f : Family) (e : Event) (stood : Option Stood) (s : Stepped) → IsStep f e stood s → IsLoud f e → Contains s.effects effects.Done
    → (place : ℕ) × (at : ℕ) × (wanted f e ≡ Some (WritesDone place)) × (stood ≡ Some (answers.Stands at))
done_told f e stood s h l c = go h.acted.rest
  where
    among : Contains h.moved.effects effects.Done
    among = subst (λ (xs : List Effect). Contains xs effects.Done) h.effects_are c

    go : (AllByRecursion IsOther h.moved.effects × IsKept f.completion h.moved.family.completion) ⊎ IsAnswer f e.act stood h.moved
        → (place : ℕ) × (at : ℕ) × (wanted f e ≡ Some (WritesDone place)) × (stood ≡ Some (answers.Stands at))
    go (inl o) = absurd (no_done_among h.moved.effects (all_map IsOther IsNoDone other_no_done h.moved.effects o.0) among)
    go (inr a) =
        let d = (answered_is a.number a.heard stood f).done (subst (λ (m : Moved). Contains m.effects effects.Done) a.same among) in
        let p = some_place (stages.record_place (hears a.number a.heard f).family.completion) (done_placed (hears a.number a.heard f).family d.1) in
        (p.0, d.2.0, wanted_done f e a.number a.heard p.0 l a.is d.0 d.1 p.1, d.2.1)

closing_effects : (f : Family) (at : ℕ) → stages.wants_decision f.completion ≡ false → wants_done f ≡ true → (settles (Some (answers.Stands at)) f).effects ≡ effects.Done ∷ []
unfolding settles closes
closing_effects f at u d =
    ap (λ (t : Bool). (if t then decided (answers.Stands at) f else if wants_done f then closes (answers.Stands at) f else only f).effects) u
    ∙ ap (λ (t : Bool). (if t then closes (answers.Stands at) f else only f).effects) d

answer_tells : (n : CallNumber) (h : Heard) (f : Family) (at place : ℕ) → IsDoneWanted (hears n h f).family place → Contains (answered n h (Some (answers.Stands at)) f).effects effects.Done
unfolding answered
answer_tells n h f at place d =
    let m : Moved = hears n h f in
    let k : Moved = settles (Some (answers.Stands at)) m.family in
    let j : Moved = goes_on_at (waiting_for f n) k.family in
    Contains-append_left (m.effects ++ k.effects) j.effects effects.Done (Contains-append_right m.effects k.effects effects.Done
    (subst (λ (xs : List Effect). Contains xs effects.Done) (sym (closing_effects m.family at d.undecided d.wanted_now)) (has_at (effects.Done ∷ []) 0 effects.Done refl)))

entered_effects : (f : Family) (e : Event) (stood : Option Stood) (n : CallNumber) (h : Heard) → (entered f e stood (acts_on (acts.Answer n h) e.branch e.now stood f)).effects ≡ (answered n h stood f).effects
unfolding entered
entered_effects f e stood n h = refl

done_tells : (f : Family) (e : Event) (place at : ℕ) → wanted f e ≡ Some (WritesDone place) → Contains (family_step f e (Some (answers.Stands at))).effects effects.Done
done_tells f e place at w =
    let x : IsWantedBy f e (WritesDone place) = wanted_is f e (WritesDone place) tt w in
    subst (λ (xs : List Effect). Contains xs effects.Done)
    (sym (ap (λ (s : Stepped). s.effects) (wanted_step f e (Some (answers.Stands at)) (WritesDone place) x) ∙ entered_effects f e (Some (answers.Stands at)) x.number x.heard))
    (answer_tells x.number x.heard f at place (done_by (hears x.number x.heard f).family place x.by))

pub families_close_last : Laws → FamiliesCloseLast
families_close_last law = record {
  completed = done_completed law;
  told = λ f e stood c. done_told f e stood (family_step f e stood) (step_is f e stood) (loud f e stood effects.Done c) c;
  tells = done_tells;
}
