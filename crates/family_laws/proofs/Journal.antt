-- What a step asks of the journal, and what stands behind it.
use Rattle.std.proofs.Common.{◌≡◌, ◌&&◌, not, ℕ, List, [], ◌∷◌, Bool, true, false, if◌then◌else◌, Option, Some, None, is_some, is_none, find, cond, refl, ap, sym, subst, ◌∙◌}
use Rattle.std.specs.List.{list_all}
use Rattle.std.specs.Option.{option_map}
use Rattle.ots_model.specs.declared.completion.CallNumber.{CallNumber}
use Rattle.ots_model.specs.declared.completion.Ground.TheVariants.{Record, Nobody}
use Rattle.ots_model.specs.declared.completion.Heard.{Heard as ParticipantHeard}
use Rattle.ots_model.specs.declared.completion.Stood.{Stood}
use Rattle.ots_model.specs.declared.completion.Stood.TheVariants as answers
use Rattle.ots_model.specs.declared.tree.Heard.{Heard}
use Rattle.ots_model.specs.Numbered.{Outcome}
use Rattle.ots_model.specs.declared.completion.Outcome.TheVariants as outcomes
use Rattle.two_phase.specs.Course as course
use Rattle.two_phase.specs.Course.{Course}
use Rattle.two_phase.specs.Parties.{has_consented, has_refused}
use Rattle.two_phase.specs.LawsOfReached.{TreeOutcomeStays}
use Rattle.two_phase.specs.Stages as stages
use Rattle.two_phase.specs.Stages.{Standing, Waiting, Going as UnderWay}
use Rattle.two_phase.specs.declared.party.Party.{Party}
use Rattle.decision_journal.specs.declared.record.JournalRecord.{JournalRecord}
use Rattle.coordinator.specs.declared.event.Act.{Act}
use Rattle.coordinator.specs.declared.event.Act.TheVariants as acts
use Rattle.coordinator.specs.declared.event.Event.{Event}
use Rattle.coordinator.specs.declared.said.Said.{Said}
use Rattle.coordinator.specs.declared.said.Said.TheVariants as said
use Rattle.coordinator.specs.Family.{Family, waiting_for}
use Rattle.coordinator.specs.Moves.{only, completes_as}
use Rattle.coordinator.specs.Hearing.{decision_record, wants_done, decided, closes, settles}
use Rattle.coordinator.specs.History.{kept_for}
use Rattle.coordinator.specs.Laws.{IsThere}
use Rattle.coordinator.specs.Step.{Wanted, Appends, WritesDone, Rereads, wanted_by, wanted_act, wanted, hears, answered, goes_on_at, acts_on, acted, is_silent_act, Stepped, quiet, entered, step_by, family_step}
use Rattle.family_laws.specs.LawsOfJournal.{FamiliesAppendOwn, IsAgreed}
use Rattle.family_laws.specs.LawsBelow.{Laws}
use Rattle.family_laws.proofs.Telling.{Stays, Plain}
use Rattle.family_laws.proofs.Votes.{hears_is}
use Rattle.family_laws.proofs.StepsTell.{settles_is, goes_on_at_plain}

-- ---- a completion that agrees

pub record Agrees (c : Course) : Type 0 where
  pub together : course.decides_alone c ≡ false
  pub overtaken : c.overtaken ≡ None
  pub stood : c.stood ≡ None
  pub consent : course.all_consent c ≡ true
  pub several : course.some_commit c ≡ true

pub agrees : (c : Course) → course.wants_decision c ≡ true → Agrees c
agrees c h = record {
  together = one (course.decides_alone c) (is_none c.overtaken) (is_none c.stood) (course.all_consent c) (course.some_commit c) h;
  overtaken = none c.overtaken (two (not (course.decides_alone c)) (is_none c.overtaken) (is_none c.stood) (course.all_consent c) (course.some_commit c) h);
  stood = none c.stood (three (not (course.decides_alone c)) (is_none c.overtaken) (is_none c.stood) (course.all_consent c) (course.some_commit c) h);
  consent = four (not (course.decides_alone c)) (is_none c.overtaken) (is_none c.stood) (course.all_consent c) (course.some_commit c) h;
  several = five (not (course.decides_alone c)) (is_none c.overtaken) (is_none c.stood) (course.all_consent c) (course.some_commit c) h;
}
  where
    right : (a b : Bool) → (a && b) ≡ true → b ≡ true
    right true b h = h
    right false b h = absurd (cc h)

    left : (a b : Bool) → (a && b) ≡ true → a ≡ true
    left true b h = refl
    left false b h = absurd (cc h)

    one : (a b c d e : Bool) → (not a && b && c && d && e) ≡ true → a ≡ false
    one false b c d e h = refl
    one true b c d e h = absurd (cc h)

    two : (a b c d e : Bool) → (a && b && c && d && e) ≡ true → b ≡ true
    two a b c d e h = right a b (left (a && b) c (left (a && b && c) d (left (a && b && c && d) e h)))

    three : (a b c d e : Bool) → (a && b && c && d && e) ≡ true → c ≡ true
    three a b c d e h = right (a && b) c (left (a && b && c) d (left (a && b && c && d) e h))

    four : (a b c d e : Bool) → (a && b && c && d && e) ≡ true → d ≡ true
    four a b c d e h = right (a && b && c) d (left (a && b && c && d) e h)

    five : (a b c d e : Bool) → (a && b && c && d && e) ≡ true → e ≡ true
    five a b c d e h = right (a && b && c && d) e h

    none : {A : Type 0} (o : Option A) → is_none o ≡ true → o ≡ None
    none None h = refl
    none (Some x) h = absurd (cc h)

pub both_left : (a b : Bool) → (a && b) ≡ true → a ≡ true
both_left true b h = refl
both_left false b h = absurd (cc h)

pub both_right : (a b : Bool) → (a && b) ≡ true → b ≡ true
both_right true b h = h
both_right false b h = absurd (cc h)

-- what is meant by these words
consented : (c : Course) → course.all_consent c ≡ true → list_all has_consented c.parties ≡ true
unfolding course.all_consent
consented c h = h

same_consent : (c : Course) (place : ℕ) → course.all_consent (record c { stood = Some (answers.Stands place) }) ≡ course.all_consent c
unfolding course.all_consent
same_consent c place = refl

same_several : (c : Course) (place : ℕ) → course.some_commit (record c { stood = Some (answers.Stands place) }) ≡ course.some_commit c
unfolding course.some_commit
same_several c place = refl

consenting : (p : Party) (o : Option ParticipantHeard) → p.ballot ≡ o → has_consented p ≡ true → has_refused p ≡ false
consenting p None e h = absurd (cc (rw e at h))
consenting p (Some heard) e h = rw (e, (rw e at h)) refl

no_refuser : (ps : List Party) → list_all has_consented ps ≡ true → find has_refused ps ≡ None
no_refuser [] h = refl
no_refuser (p ∷ ps) h =
    ap (λ (t : Bool). cond t (Some p) (find has_refused ps)) (consenting p p.ballot refl (both_left (has_consented p) (list_all has_consented ps) h))
    ∙ no_refuser ps (both_right (has_consented p) (list_all has_consented ps) h)

first_none : (ps : List Party) → list_all has_consented ps ≡ true → course.first_refuser ps ≡ None
unfolding course.first_refuser
first_none ps h = no_refuser ps h

-- its outcome is what the record says
agreed_outcome : Laws → (c : Course) → c.overtaken ≡ None → course.decides_alone c ≡ false → course.all_consent c ≡ true → course.some_commit c ≡ true → course.outcome c ≡ course.by_record c.stood c.reread
agreed_outcome below c over together consent several = below.votes c over together ∙ by_votes
  where
    refuser : course.first_refuser c.parties ≡ None
    refuser = first_none c.parties (consented c consent)

    by_consent : (a b : Bool) → a ≡ true → b ≡ true → (if not a then None else if b then course.by_record c.stood c.reread else Some (outcomes.Commit Nobody)) ≡ course.by_record c.stood c.reread
    by_consent a b i j = rw (i, j) refl

    by_votes : course.by_votes c ≡ course.by_record c.stood c.reread
    by_votes = ap (λ (o : Option Party). elim o as (λ x. Option Outcome) [
      | Some p ↦ course.by_refusal p
      | None ↦ if not (course.all_consent c) then None else if course.some_commit c then course.by_record c.stood c.reread else Some (outcomes.Commit Nobody)
    ]) refuser ∙ by_consent (course.all_consent c) (course.some_commit c) consent several

-- none before the journal has answered
open_before : Laws → (c : Course) → course.wants_decision c ≡ true → course.outcome c ≡ None
open_before below c h = let a = agrees c h in agreed_outcome below c a.overtaken a.together a.consent a.several ∙ rw a.stood refl

-- and then commit by the record
decided_outcome : Laws → (c : Course) (place : ℕ) → course.wants_decision c ≡ true → course.outcome (record c { stood = Some (answers.Stands place) }) ≡ Some (outcomes.Commit Record)
decided_outcome below c place h =
    let a = agrees c h in
    let d : Course = record c { stood = Some (answers.Stands place) } in
    agreed_outcome below d a.overtaken a.together (same_consent c place ∙ a.consent) (same_several c place ∙ a.several)

-- ---- what is wanted

pub record IsWantedBy (f : Family) (e : Event) (w : Wanted) : Type 0 where
  pub new : kept_for f.entries e.key ≡ None
  pub number : CallNumber
  pub heard : Heard
  pub answer : e.act ≡ acts.Answer number heard
  pub waited : is_some (waiting_for f number) ≡ true
  pub by : wanted_by (hears number heard f).family ≡ Some w

-- all but a reread is wanted by an answer
abbrev pub IsOfAnswer : Wanted → Type 0
IsOfAnswer (Appends item) = Unit {0}
IsOfAnswer (WritesDone place) = Unit {0}
IsOfAnswer Rereads = ⊥

not_wanted : (f : Family) (e : Event) (w : Wanted) → ◌≡◌ {A = Option Wanted} None (Some w) → IsWantedBy f e w
not_wanted f e w h = absurd (cc h)

by_act : (f : Family) (e : Event) (w : Wanted) → IsOfAnswer w → kept_for f.entries e.key ≡ None → (act : Act) → e.act ≡ act → wanted_act act f ≡ Some w → IsWantedBy f e w
by_act f e w o k (acts.Answer n h) a x = go (is_some (waiting_for f n)) refl x
  where
    go : (t : Bool) → is_some (waiting_for f n) ≡ t → (if t then wanted_by (hears n h f).family else None) ≡ Some w → IsWantedBy f e w
    go true i x = record { new = k; number = n; heard = h; answer = a; waited = i; by = x }
    go false i x = absurd (cc x)
by_act f e w o k (acts.Reread stands) a x = absurd (subst IsOfAnswer (let i : Rereads ≡ w = cc x in sym i) o)
by_act f e w o k acts.GetTerminator a x = not_wanted f e w x
by_act f e w o k acts.GetCoordinator a x = not_wanted f e w x
by_act f e w o k (acts.Commit asked) a x = not_wanted f e w x
by_act f e w o k acts.Rollback a x = not_wanted f e w x
by_act f e w o k acts.GetStatus a x = not_wanted f e w x
by_act f e w o k acts.GetParentStatus a x = not_wanted f e w x
by_act f e w o k acts.GetTopLevelStatus a x = not_wanted f e w x
by_act f e w o k (acts.IsSameTransaction other) a x = not_wanted f e w x
by_act f e w o k (acts.IsRelatedTransaction other) a x = not_wanted f e w x
by_act f e w o k (acts.IsAncestorTransaction other) a x = not_wanted f e w x
by_act f e w o k (acts.IsDescendantTransaction other) a x = not_wanted f e w x
by_act f e w o k acts.IsTopLevelTransaction a x = not_wanted f e w x
by_act f e w o k acts.HashTransaction a x = not_wanted f e w x
by_act f e w o k acts.HashTopLevelTran a x = not_wanted f e w x
by_act f e w o k (acts.RegisterResource to aware) a x = not_wanted f e w x
by_act f e w o k (acts.RegisterSynchronization to) a x = not_wanted f e w x
by_act f e w o k (acts.RegisterSubtranAware to) a x = not_wanted f e w x
by_act f e w o k acts.RollbackOnly a x = not_wanted f e w x
by_act f e w o k acts.GetTransactionName a x = not_wanted f e w x
by_act f e w o k acts.CreateSubtransaction a x = not_wanted f e w x
by_act f e w o k acts.GetTxcontext a x = not_wanted f e w x
by_act f e w o k (acts.Replay g resource) a x = not_wanted f e w x
by_act f e w o k (acts.Superior word) a x = not_wanted f e w x
by_act f e w o k acts.Tick a x = not_wanted f e w x
by_act f e w o k (acts.Opened deadline) a x = not_wanted f e w x

pub wanted_is : (f : Family) (e : Event) (w : Wanted) → IsOfAnswer w → wanted f e ≡ Some w → IsWantedBy f e w
unfolding wanted
wanted_is f e w o h = go (kept_for f.entries e.key) refl h
  where
    go : (k : Option Said) → kept_for f.entries e.key ≡ k → (if is_some k then None else wanted_act e.act f) ≡ Some w → IsWantedBy f e w
    go None i x = by_act f e w o i e.act refl x
    go (Some answer) i x = absurd (cc x)

-- such a step is that of an answer
pub wanted_step : (f : Family) (e : Event) (stood : Option Stood) (w : Wanted) (x : IsWantedBy f e w) → family_step f e stood ≡ entered f e stood (acts_on (acts.Answer x.number x.heard) e.branch e.now stood f)
unfolding family_step acted
wanted_step f e stood w x =
    ap (λ (o : Option Said). step_by o f e stood) x.new
    ∙ ap (λ (a : Act). if is_silent_act a e.now f then quiet said.Plain f else entered f e stood (acts_on a e.branch e.now stood f)) x.answer
    ∙ loud (waiting_for f x.number) x.waited
  where
    loud : (o : Option ℕ) → is_some o ≡ true
        → (if is_none o then quiet said.Plain f else entered f e stood (acts_on (acts.Answer x.number x.heard) e.branch e.now stood f))
        ≡ entered f e stood (acts_on (acts.Answer x.number x.heard) e.branch e.now stood f)
    loud (Some b) h = refl
    loud None h = absurd (cc h)

-- ---- a decision is appended

appends_by : (f : Family) (item : JournalRecord) → wanted_by f ≡ Some (Appends item) → (stages.wants_decision f.completion ≡ true) × (item ≡ decision_record f)
appends_by f item h = go (stages.wants_decision f.completion) refl h
  where
    other : (t : Bool) (o : Option ℕ) → (if t then option_map WritesDone o else None) ≡ Some (Appends item) → ⊥
    other true None x = absurd (cc x)
    other true (Some p) x = absurd (cc x)
    other false o x = absurd (cc x)

    go : (t : Bool) → stages.wants_decision f.completion ≡ t
        → (if t then Some (Appends (decision_record f)) else if wants_done f then option_map WritesDone (stages.record_place f.completion) else None) ≡ Some (Appends item)
        → (stages.wants_decision f.completion ≡ true) × (item ≡ decision_record f)
    go true e x = (e, cc x)
    go false e x = absurd (other (wants_done f) (stages.record_place f.completion) x)

agreed_by : (s : Standing) → stages.wants_decision s ≡ true → IsAgreed s
agreed_by (Waiting room) h = absurd (cc h)
agreed_by (UnderWay c) h = let a = agrees c h in (a.consent, a.several)

open_by : Laws → (s : Standing) → stages.wants_decision s ≡ true → stages.outcome s ≡ None
open_by below (Waiting room) h = absurd (cc h)
open_by below (UnderWay c) h = open_before below c h

decided_place : (s : Standing) (place : ℕ) → stages.wants_decision s ≡ true → stages.record_place (stages.after_decided (answers.Stands place) s) ≡ Some place
decided_place (Waiting room) place h = absurd (cc h)
decided_place (UnderWay c) place h = ap (λ (t : Bool). stages.record_place (UnderWay (if t then record c { stood = Some (answers.Stands place) } else c))) h

decided_commit : Laws → (s : Standing) (place : ℕ) → stages.wants_decision s ≡ true → stages.outcome (stages.after_decided (answers.Stands place) s) ≡ Some (outcomes.Commit Record)
decided_commit below (Waiting room) place h = absurd (cc h)
decided_commit below (UnderWay c) place h =
    ap (λ (t : Bool). stages.outcome (UnderWay (if t then record c { stood = Some (answers.Stands place) } else c))) h ∙ decided_outcome below c place h

settled_completion : (f : Family) (place : ℕ) → stages.wants_decision f.completion ≡ true
    → (settles (Some (answers.Stands place)) f).family.completion ≡ stages.after_decided (answers.Stands place) f.completion
unfolding settles decided completes_as
settled_completion f place h =
    ap (λ (t : Bool). (if t then decided (answers.Stands place) f else if wants_done f then closes (answers.Stands place) f else only f).family.completion) h

-- what was open before
still_open : (s t : Standing) → Stays s t → stages.outcome t ≡ None → (o : Option Outcome) → stages.outcome s ≡ o → o ≡ None
still_open s t h none None e = refl
still_open s t h none (Some x) e = absurd (cc (sym none ∙ h.same x e))

entered_completion : (f : Family) (e : Event) (stood : Option Stood) (n : CallNumber) (h : Heard) → (entered f e stood (acts_on (acts.Answer n h) e.branch e.now stood f)).family.completion ≡ (answered n h stood f).family.completion
unfolding entered
entered_completion f e stood n h = refl

-- the record stands, once the call has gone on
answered_placed : (n : CallNumber) (h : Heard) (f : Family) (place : ℕ) → stages.wants_decision (hears n h f).family.completion ≡ true
    → stages.record_place (answered n h (Some (answers.Stands place)) f).family.completion ≡ Some place
unfolding answered
answered_placed n h f place wants =
    let g : Family = (hears n h f).family in
    let k : Family = (settles (Some (answers.Stands place)) g).family in
    let last : Plain k (goes_on_at (waiting_for f n) k) = goes_on_at_plain (waiting_for f n) k in
    last.kept.place place (ap (λ (s : Standing). stages.record_place s) (settled_completion g place wants) ∙ decided_place g.completion place wants)

-- and decides
answered_decided : Laws → TreeOutcomeStays → (n : CallNumber) (h : Heard) (f : Family) (place : ℕ) → IsThere f.completion → stages.wants_decision (hears n h f).family.completion ≡ true
    → stages.outcome (answered n h (Some (answers.Stands place)) f).family.completion ≡ Some (outcomes.Commit Record)
unfolding answered
answered_decided below law n h f place there wants =
    let g : Family = (hears n h f).family in
    let k : Family = (settles (Some (answers.Stands place)) g).family in
    let first = ((hears_is n h f).told.outcomes law there).0 in
    let second = ((settles_is (Some (answers.Stands place)) g).told.outcomes law first.there).0 in
    let last : Plain k (goes_on_at (waiting_for f n) k) = goes_on_at_plain (waiting_for f n) k in
    (last.told.outcomes law second.there).0.same (outcomes.Commit Record)
    (ap (λ (s : Standing). stages.outcome s) (settled_completion g place wants) ∙ decided_commit below g.completion place wants)

step_completion : (f : Family) (e : Event) (stood : Option Stood) (w : Wanted) (x : IsWantedBy f e w) → (family_step f e stood).family.completion ≡ (answered x.number x.heard stood f).family.completion
step_completion f e stood w x = ap (λ (s : Stepped). s.family.completion) (wanted_step f e stood w x) ∙ entered_completion f e stood x.number x.heard

pub families_append_own : Laws → TreeOutcomeStays → FamiliesAppendOwn
families_append_own below law f e item w =
    let x : IsWantedBy f e (Appends item) = wanted_is f e (Appends item) tt w in
    let g : Family = (hears x.number x.heard f).family in
    let by = appends_by g item x.by in
    record {
      number = x.number;
      heard = x.heard;
      answer = x.answer;
      is_record = by.1;
      agreed = agreed_by g.completion by.0;
      undecided = λ there. still_open f.completion g.completion ((hears_is x.number x.heard f).told.outcomes law there).0 (open_by below g.completion by.0) (stages.outcome f.completion) refl;
      stands = λ place. ap (λ (s : Standing). stages.record_place s) (step_completion f e (Some (answers.Stands place)) (Appends item) x)
          ∙ answered_placed x.number x.heard f place by.0;
      decides = λ there place. ap (λ (s : Standing). stages.outcome s) (step_completion f e (Some (answers.Stands place)) (Appends item) x)
          ∙ answered_decided below law x.number x.heard f place there by.0;
    }
