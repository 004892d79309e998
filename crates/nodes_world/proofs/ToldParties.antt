-- Whom a family has told the outcome: a step tells one more only by the answer to the word that went to that participant.
use Rattle.std.proofs.Common.{◌≡◌, ◌⊎◌, inl, inr, ℕ, zero, suc, ◌+◌, ◌&&◌, Bool, true, false, is_some, if◌then◌else◌, List, [], ◌∷◌, map, slice_get, slice_set, Contains, Option, Some, None, refl, sym, ap, subst, ◌∙◌, arith}
use Rattle.std.proofs.lemmas.Option.{slice_get-get_or}
use Rattle.std.specs.List.{AllByRecursion}
use Rattle.std.specs.Option.{option_and_then, option_map}
use Rattle.ots_model.specs.Heard.{of_participant}
use Rattle.ots_model.specs.declared.completion.CallNumber.{CallNumber}
use Rattle.ots_model.specs.declared.completion.Heard.{Heard as ParticipantHeard}
use Rattle.ots_model.specs.declared.completion.Stood.{Stood}
use Rattle.ots_model.specs.declared.tree.Heard.{Heard}
use Rattle.resource_votes.specs.Ballots.{participants}
use Rattle.resource_votes.specs.declared.registration.Registration.{Registration}
use Rattle.two_phase.specs.Course as course
use Rattle.two_phase.specs.Course.{Course}
use Rattle.two_phase.specs.LawsOfReached.{TreeBecomes}
use Rattle.two_phase.specs.LawsOfReached.TreeBecomes.{by_word, by_answer, by_record, by_reread, by_rollback}
use Rattle.two_phase.specs.Stages.{Standing, Waiting, Going as UnderWay}
use Rattle.two_phase.specs.declared.party.Errand.{Errand}
use Rattle.two_phase.specs.declared.party.Party.{Party}
use Rattle.two_phase.specs.declared.party.Stage.{Stage as Round}
use Rattle.two_phase.specs.declared.party.Stage.TheVariants as rounds
use Rattle.coordinator.specs.Family.{Family, waiting_for}
use Rattle.coordinator.specs.Laws.{FamiliesStepRightly, Proceeds, asks, further, goes_on, rolls_back, still}
use Rattle.coordinator.specs.Step.{family_step}
use Rattle.coordinator.specs.declared.event.Act.{Act}
use Rattle.coordinator.specs.declared.event.Act.TheVariants as acts
use Rattle.coordinator.specs.declared.event.Event.{Event}
use Rattle.family_laws.specs.LawsOfTelling.{FamiliesHearOutcomesAnswered, IsAnswered, told_at, told_now}
use Rattle.family_laws.specs.Sound.{HasParties, IsSoundFamily}
use Rattle.nodes_world.proofs.AskedCounts.{IsRegisteredAs}
use Rattle.nodes_world.proofs.DecisionFits.{all_registered, map_set, same_index}
use Rattle.nodes_world.proofs.RulesKeep.{registered_of}

-- ---- who takes part stays so

-- the same ones take part, in order
abbrev pub TakeSame : Course → Course → Type 0
TakeSame c d = (map (λ (p : Party). p.index) d.parties ≡ map (λ (p : Party). p.index) c.parties)
    × (map (λ (p : Party). p.to) d.parties ≡ map (λ (p : Party). p.to) c.parties)

abbrev pub SameParties : Standing → Standing → Type 0
SameParties (Waiting room) t = Unit {0}
SameParties (UnderWay c) (Waiting room) = ⊥
SameParties (UnderWay c) (UnderWay d) = TakeSame c d

either_same : (t : Bool) (c x y : Course) → TakeSame c x → TakeSame c y → TakeSame c (if t then x else y)
either_same true c x y one other = one
either_same false c x y one other = other

same_to : (round : Round) (h : ParticipantHeard) (p : Party) → (course.heard_at round h p).to ≡ p.to
same_to rounds.Asking h p = refl
same_to rounds.Telling h p = refl
same_to rounds.Forgetting h p = refl

heard_same : (c : Course) (e : Errand) (h : ParticipantHeard) → TakeSame c (course.answered h c e)
heard_same c e h = by (slice_get c.parties e.place) refl
  where
    by : (o : Option Party) → slice_get c.parties e.place ≡ o
        → (map (λ (p : Party). p.index) (elim o as (λ _. List Party) [ Some p ↦ slice_set c.parties e.place (course.heard_at e.stage h p) | None ↦ c.parties ])
        ≡ map (λ (p : Party). p.index) c.parties)
        × (map (λ (p : Party). p.to) (elim o as (λ _. List Party) [ Some p ↦ slice_set c.parties e.place (course.heard_at e.stage h p) | None ↦ c.parties ])
        ≡ map (λ (p : Party). p.to) c.parties)
    by (Some p) there = (
      map_set (λ (x : Party). x.index) c.parties e.place p (course.heard_at e.stage h p) there (same_index e.stage h p),
      map_set (λ (x : Party). x.to) c.parties e.place p (course.heard_at e.stage h p) there (same_to e.stage h p),
    )
    by None there = (refl, refl)

out_same : (c : Course) (h : ParticipantHeard) (t : Bool) (o : Option Errand)
    → TakeSame c (elim o as (λ _. Course) [ Some e ↦ if t then course.answered h c e else c | None ↦ c ])
out_same c h t (Some e) = either_same t c (course.answered h c e) c (heard_same c e h) (refl, refl)
out_same c h t None = (refl, refl)

pub becomes_same : (c d : Course) → TreeBecomes c d → TakeSame c d
becomes_same _ _ (by_word c) = either_same (is_some c.out) c c (record c { out = course.errand c }) (refl, refl) (refl, refl)
becomes_same _ _ (by_answer c n h) = out_same c h _ c.out
becomes_same _ _ (by_record c stood) = either_same (course.wants_decision c) c (record c { stood = Some stood }) c (refl, refl) (refl, refl)
becomes_same _ _ (by_reread c found) = either_same (course.is_doubtful c) c (record c { reread = Some found }) c (refl, refl) (refl, refl)
becomes_same _ _ (by_rollback c reason) =
    either_same (course.is_outside reason && course.may_roll_back c) c
    (record c { overtaken = Some reason; out = None; number = course.overtaken_number c }) c (refl, refl) (refl, refl)

further_same : (s t u : Standing) → SameParties s t → SameParties t u → SameParties s u
further_same (Waiting room) t u one other = tt
further_same (UnderWay c) (Waiting room) u one other = absurd one
further_same (UnderWay c) (UnderWay d) (Waiting room) one other = absurd other
further_same (UnderWay c) (UnderWay d) (UnderWay e) one other = (other.0 ∙ one.0, other.1 ∙ one.1)

pub itself_same : (s : Standing) → SameParties s s
itself_same (Waiting room) = tt
itself_same (UnderWay c) = (refl, refl)

pub proceeds_same : (s t : Standing) → Proceeds s t → SameParties s t
proceeds_same _ _ (still s) = itself_same s
proceeds_same _ _ (asks room participants asked first one_phase) = tt
proceeds_same _ _ (rolls_back room participants asked first one_phase reason) = tt
proceeds_same _ _ (goes_on c d is) = becomes_same c d is
proceeds_same _ _ (further s between later one other) = further_same s between later (proceeds_same s between one) (proceeds_same between later other)

-- ---- one of them

-- one of two lists that are alike is one of the other, with the same number and reference
pub same_at : (ps qs : List Party) → map (λ (p : Party). p.index) ps ≡ map (λ (p : Party). p.index) qs → map (λ (p : Party). p.to) ps ≡ map (λ (p : Party). p.to) qs
    → (p : Party) → Contains ps p → (q : Party) × Contains qs q × (q.index ≡ p.index) × (q.to ≡ p.to)
same_at [] qs numbers references p among = let l = among.1 in absurd (omega (arith, l))
same_at (x ∷ ps) [] numbers references p among = absurd cc
same_at (x ∷ ps) (y ∷ qs) numbers references p (zero, less, is) =
    (y, (0, omega arith, refl), sym (head_of numbers) ∙ ap (λ (z : Party). z.index) is, sym (head_of references) ∙ ap (λ (z : Party). z.to) is)
  where
    head_of : {A : Type 0} {a b : A} {xs ys : List A} → a ∷ xs ≡ b ∷ ys → a ≡ b
    head_of e = cc
same_at (x ∷ ps) (y ∷ qs) numbers references p (suc i, less, is) =
    let at = same_at ps qs (tail_of numbers) (tail_of references) p (i, omega (arith, less), is) in
    let place = at.1 in
    let within = place.1 in
    (at.0, (suc place.0, omega (arith, within), place.2), at.2, at.3)
  where
    tail_of : {A : Type 0} {a b : A} {xs ys : List A} → a ∷ xs ≡ b ∷ ys → xs ≡ ys
    tail_of e = cc

-- registrations are numbered from 1
abbrev pub AreNumbered : List Registration → Type 0
AreNumbered rs = (i : ℕ) (r : Registration) → slice_get rs i ≡ Some r → r.index ≡ i + 1

-- so a number is that of one of them
pub one_registered : (rs : List Registration) → AreNumbered rs → (p q : Party) → IsRegisteredAs rs p → IsRegisteredAs rs q → p.index ≡ q.index → p.to ≡ q.to
one_registered rs numbered p q one other same =
    sym one.reference ∙ ap (λ (r : Registration). r.to) (inner (sym first ∙ ap (slice_get rs) places ∙ second)) ∙ other.reference
  where
    inner : {A : Type 0} {x y : A} → Some x ≡ Some y → x ≡ y
    inner e = cc

    first : slice_get rs one.there.0 ≡ Some one.r
    first = slice_get-get_or rs one.there.0 one.r one.there.1 ∙ ap (λ (x : Registration). Some x) one.there.2

    second : slice_get rs other.there.0 ≡ Some other.r
    second = slice_get-get_or rs other.there.0 other.r other.there.1 ∙ ap (λ (x : Registration). Some x) other.there.2

    places : one.there.0 ≡ other.there.0
    places =
        let a = numbered one.there.0 one.r first in
        let b = numbered other.there.0 other.r second in
        let c = one.index in
        let d = other.index in
        omega (arith, a, b, c, d, same)

pub each_of : (P : Party → Type 0) (ps : List Party) → AllByRecursion P ps → (p : Party) → Contains ps p → P p
each_of P [] all p among = let l = among.1 in absurd (omega (arith, l))
each_of P (x ∷ ps) (one, all) p (zero, less, is) = subst P is one
each_of P (x ∷ ps) (one, all) p (suc i, less, is) = each_of P ps all p (i, omega (arith, less), is)

-- ---- who has been told

-- one with this reference has answered so the word that told it the outcome
abbrev pub IsTold : Standing → List ℕ → ParticipantHeard → Type 0
IsTold (Waiting room) to heard = ⊥
IsTold (UnderWay c) to heard = (p : Party) × Contains c.parties p × (p.told ≡ Some heard) × (p.to ≡ to)

-- the word that is out tells the outcome to it
abbrev pub TellsAt : Course → List ℕ → Type 0
TellsAt c to = (e : Errand) × (p : Party) × (c.out ≡ Some e) × (e.stage ≡ rounds.Telling) × (slice_get c.parties e.place ≡ Some p) × (p.to ≡ to)

abbrev pub IsTelling : Standing → List ℕ → Type 0
IsTelling (Waiting room) to = ⊥
IsTelling (UnderWay c) to = TellsAt c to

-- and it answers
pub record AnswersNow (f : Family) (act : Act) (to : List ℕ) (heard : ParticipantHeard) : Type 0 where
  pub number : CallNumber
  pub answer : Heard
  pub is : act ≡ acts.Answer number answer
  pub says : of_participant answer ≡ heard
  pub waited : waiting_for f number ≡ Some 0
  pub telling : IsTelling f.completion to

telling_party : (c : Course) (g : ℕ) → told_now (UnderWay c) ≡ Some g
    → (e : Errand) × (p : Party) × (c.out ≡ Some e) × (e.stage ≡ rounds.Telling) × (slice_get c.parties e.place ≡ Some p) × (p.index ≡ g)
telling_party c g is = by_out c.out refl is
  where
    inner : {A : Type 0} {x y : A} → Some x ≡ Some y → x ≡ y
    inner e = cc

    by_party : (e : Errand) → c.out ≡ Some e → e.stage ≡ rounds.Telling → (o : Option Party) → slice_get c.parties e.place ≡ o → option_map (λ (p : Party). p.index) o ≡ Some g
        → (e : Errand) × (p : Party) × (c.out ≡ Some e) × (e.stage ≡ rounds.Telling) × (slice_get c.parties e.place ≡ Some p) × (p.index ≡ g)
    by_party e out round (Some p) there number = (e, p, out, round, there, inner number)
    by_party e out round None there number = absurd cc

    by_round : (e : Errand) → c.out ≡ Some e → (round : Round) → e.stage ≡ round
        → elim round as (λ _. Option ℕ) [
          | rounds.Asking ↦ None
          | rounds.Telling ↦ option_map (λ (p : Party). p.index) (slice_get c.parties e.place)
          | rounds.Forgetting ↦ None
        ] ≡ Some g
        → (e : Errand) × (p : Party) × (c.out ≡ Some e) × (e.stage ≡ rounds.Telling) × (slice_get c.parties e.place ≡ Some p) × (p.index ≡ g)
    by_round e out rounds.Asking round number = absurd cc
    by_round e out rounds.Telling round number = by_party e out round (slice_get c.parties e.place) refl number
    by_round e out rounds.Forgetting round number = absurd cc

    by_out : (o : Option Errand) → c.out ≡ o → option_and_then (told_at c) o ≡ Some g
        → (e : Errand) × (p : Party) × (c.out ≡ Some e) × (e.stage ≡ rounds.Telling) × (slice_get c.parties e.place ≡ Some p) × (p.index ≡ g)
    by_out (Some e) out number = by_round e out e.stage refl number
    by_out None out number = absurd cc

has_at : (ps : List Party) (i : ℕ) (p : Party) → slice_get ps i ≡ Some p → Contains ps p
has_at [] i p is = absurd cc
has_at (x ∷ ps) zero p is = (0, omega arith, inner is)
  where
    inner : {x y : Party} → Some x ≡ Some y → x ≡ y
    inner e = cc
has_at (x ∷ ps) (suc i) p is =
    let at = has_at ps i p is in
    let within = at.1 in
    (suc at.0, omega (arith, within), at.2)

module _ (rightly : FamiliesStepRightly) (answered : FamiliesHearOutcomesAnswered) (f : Family) (e : Event) (stood : Option Stood) (sound : IsSoundFamily f)
    (numbered : AreNumbered f.ballots.registrations) where
  -- before, or now
  step_parties : (s t : Standing) → f.completion ≡ s → (family_step f e stood).family.completion ≡ t → HasParties s (participants 0 f.ballots) → SameParties s t
      → (to : List ℕ) (x : ParticipantHeard) → IsTold t to x → IsTold s to x ⊎ AnswersNow f e.act to x
  step_parties s (Waiting room) was now parties same to x told = absurd told
  step_parties (Waiting room) (UnderWay d) was now parties same to x (p, among, told, is) =
      elim (answered f e stood p.index x sound (subst (λ (y : Standing). IsAnswered y p.index x) (sym now) (among.0, p, among.1, among.2, (refl, told)))) [
        | inl before ↦ absurd (subst (λ (y : Standing). IsAnswered y p.index x) was before)
        | inr here ↦ absurd (no p.index (sym (ap told_now was) ∙ here.told))
      ]
    where
      no : (g : ℕ) → None ≡ Some g → ⊥
      no g e = cc
  step_parties (UnderWay c) (UnderWay d) was now parties same to x (p, among, told, is) =
      elim (answered f e stood p.index x sound (subst (λ (y : Standing). IsAnswered y p.index x) (sym now) (among.0, p, among.1, among.2, (refl, told)))) [
        | inl before ↦
            let at = subst (λ (y : Standing). IsAnswered y p.index x) was before in
            inl (at.1, (at.0, at.2, at.3), at.4.1, reference at.1 (at.0, at.2, at.3) at.4.0)
        | inr here ↦
            let at = telling_party c p.index (sym (ap told_now was) ∙ here.told) in
            inr (record {
              number = here.number;
              answer = here.answer;
              is = here.is;
              says = here.says;
              waited = here.waited;
              telling = subst (λ (y : Standing). IsTelling y to) (sym was) (at.0, at.1, at.2, at.3, at.4, reference at.1 (has_at c.parties at.0.place at.1 at.4) at.5);
            })
      ]
    where
      registered : AllByRecursion (IsRegisteredAs f.ballots.registrations) c.parties
      registered = all_registered f.ballots.registrations c.parties (participants 0 f.ballots) parties.0 parties.1 (registered_of f 0)

      -- a participant of before with its number has its reference
      reference : (q : Party) → Contains c.parties q → q.index ≡ p.index → q.to ≡ to
      reference q there number =
          let before = same_at d.parties c.parties same.0 same.1 p among in
          one_registered f.ballots.registrations numbered q before.0 (each_of (IsRegisteredAs f.ballots.registrations) c.parties registered q there)
          (each_of (IsRegisteredAs f.ballots.registrations) c.parties registered before.0 before.1) (number ∙ sym before.2)
          ∙ before.3 ∙ is

  pub told_by_step : (to : List ℕ) (x : ParticipantHeard) → IsTold (family_step f e stood).family.completion to x → IsTold f.completion to x ⊎ AnswersNow f e.act to x
  told_by_step to x told =
      step_parties f.completion (family_step f e stood).family.completion refl refl sound.completion.parties
      (proceeds_same f.completion (family_step f e stood).family.completion (rightly f e stood).proceeds) to x told
