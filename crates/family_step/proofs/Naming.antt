-- Whom the decision record may name that a step asks for, was made ready.
use Rattle.std.proofs.Common.{◌≡◌, ◌∙◌, ◌≤◌, refl, sym, ap, subst, ℕ, ◌&&◌, Bool, true, false, List, map, Option, Some, None, is_some, if◌then◌else◌}
use Rattle.std.specs.Option.{IfSome}
use Rattle.decision_journal.specs.Layout.{FitsRegistrations}
use Rattle.decision_journal.specs.declared.record.Registration.{Registration as Recorded}
use Rattle.resource_votes.specs.Ballots.{participants}
use Rattle.resource_votes.specs.History.{times}
use Rattle.two_phase.specs.LawsOfDeciding.{LastAnswerDecides}
use Rattle.two_phase.specs.Stages as stages
use Rattle.coordinator.specs.Family.{Family}
use Rattle.coordinator.specs.declared.event.Event.{Event}
use Rattle.family_laws.specs.Sound.{IsSoundFamily}
use Rattle.family_rules.specs.Recording.{recorded}
use Rattle.family_step.specs.Asking.{AreReady, HasVoters, HaveVoters, hearer, hears_act, may_name}
use Rattle.family_step.proofs.Heard.{waits}
use Rattle.family_step.proofs.LastVotes.{heard_may_want}
use Rattle.family_step.proofs.Parties.{heard_keeps}
use Rattle.family_step.proofs.Voters.{voters_named}

named_where : (wanted waiting : Bool) (rs : List Recorded) → wanted ≡ true → waiting ≡ true → (if wanted && waiting then Some rs else None) ≡ Some rs
named_where true true rs w u = refl
named_where true false rs w u = absurd (cc (u))
named_where false waiting rs w u = absurd (cc (w))

some_are : (o : Option (List Recorded)) (rs : List Recorded) (h : Family) → o ≡ Some rs → IfSome o (λ xs. (i : ℕ) → times i (map (λ (r : Recorded). r.index) xs) ≤ 1)
    → IfSome o FitsRegistrations
    → (((i : ℕ) → times i (map (λ (r : Recorded). r.index) rs) ≤ 1) → FitsRegistrations rs → HaveVoters rs h) → HasVoters o h
some_are None rs h is once fits make = absurd (cc (is))
some_are (Some xs) rs h is once fits make =
    let same : xs ≡ rs = cc (is) in
    subst (λ (ys : List Recorded). HaveVoters ys h) (sym same)
    (make (λ i. subst (λ (ys : List Recorded). times i (map (λ (r : Recorded). r.index) ys) ≤ 1) same (once i)) (subst (λ (ys : List Recorded). FitsRegistrations ys) same fits))

module _ (e : Event) (f : Family) (b : ℕ) (is : hearer e f ≡ Some b) (sound : IsSoundFamily f) (last : LastAnswerDecides) where
  abbrev h : Family
  h = (hears_act e.act b f).family

  names_all : stages.wants_decision h.completion ≡ true → may_name e f ≡ Some (map recorded (participants 0 f.ballots))
  names_all wants =
      named_where _ _ _ (heard_may_want last e.act b f wants) (ap (λ (o : Option ℕ). is_some o) (waits e f b is))

  pub has_voters : (some : Option (List Recorded)) → AreReady some e f → stages.wants_decision h.completion ≡ true → HasVoters some h
  has_voters some ready wants =
      some_are some (map recorded (participants 0 f.ballots)) h (ready.named ∙ names_all wants) ready.once ready.fits
      (λ once fits. record {
        voters = voters_named h.completion (participants 0 f.ballots) (heard_keeps e.act b f sound.completion.parties) wants once;
        fits = fits;
      })
