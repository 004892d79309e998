-- The outcome of a completion that wants a decision: none before its record stands, and commit then.
use Rattle.std.proofs.Common.{◌≡◌, ◌&&◌, Bool, true, false, not, is_none, find, cond, if◌then◌else◌, ℕ, List, [], ◌∷◌, slice_get, Option, Some, None, refl, sym, ap, subst, ◌∙◌}
use Rattle.std.specs.List.{list_all}
use Rattle.ots_model.specs.declared.completion.Ground.TheVariants.{Nobody, Record}
use Rattle.ots_model.specs.declared.completion.Heard.{Heard as ParticipantHeard}
use Rattle.ots_model.specs.declared.completion.Stood.{Stood}
use Rattle.ots_model.specs.declared.completion.Stood.TheVariants as answers
use Rattle.ots_model.specs.Numbered.{Outcome}
use Rattle.ots_model.specs.declared.completion.Outcome.TheVariants as outcomes
use Rattle.ots_model.specs.declared.tree.Reason.{Reason}
use Rattle.two_phase.specs.Course as course
use Rattle.two_phase.specs.Course.{Course}
use Rattle.two_phase.specs.Parties.{has_consented, has_refused}
use Rattle.two_phase.specs.Stages as stages
use Rattle.two_phase.specs.Stages.{Standing as Completion, Waiting, Going as UnderWay}
use Rattle.two_phase.specs.declared.party.Party.{Party}

refused_not : (p : Party) (b : Option ParticipantHeard) → p.ballot ≡ b → has_consented p ≡ true → has_refused p ≡ false
refused_not p (Some h) is consents =
    ap (λ (b : Option ParticipantHeard). has_refused (record p { ballot = b })) is
    ∙ ap not (sym (ap (λ (b : Option ParticipantHeard). has_consented (record p { ballot = b })) is) ∙ consents)
refused_not p None is consents = absurd (no (sym (ap (λ (b : Option ParticipantHeard). has_consented (record p { ballot = b })) is) ∙ consents))
  where
    no : false ≡ true → ⊥
    no e = cc

nobody_refuses : (ps : List Party) → list_all has_consented ps ≡ true → find has_refused ps ≡ None
nobody_refuses [] all = refl
nobody_refuses (p ∷ ps) all =
    ap (λ (t : Bool). cond t (Some p) (find has_refused ps)) (refused_not p p.ballot refl (first_of (has_consented p) (list_all has_consented ps) all))
    ∙ nobody_refuses ps (second_of (has_consented p) (list_all has_consented ps) all)
  where
    first_of : (a b : Bool) → (a && b) ≡ true → a ≡ true
    first_of true b is = refl
    first_of false b is = absurd cc

    second_of : (a b : Bool) → (a && b) ≡ true → b ≡ true
    second_of true b is = is
    second_of false b is = absurd cc

record Wants (c : Course) : Type 0 where
  alone : course.decides_alone c ≡ false
  overtaken : c.overtaken ≡ None
  stood : c.stood ≡ None
  consent : list_all has_consented c.parties ≡ true
  waits : course.some_commit c ≡ true

none_is : {A : Type 0} (o : Option A) → is_none o ≡ true → o ≡ None
none_is None is = refl
none_is (Some x) is = absurd cc

all_five : (a b d e f : Bool) → (not a && b && d && e && f) ≡ true → (a ≡ false) × (b ≡ true) × (d ≡ true) × (e ≡ true) × (f ≡ true)
all_five false true true true true is = (refl, refl, refl, refl, refl)
all_five false true true true false is = absurd cc
all_five false true true false f is = absurd cc
all_five false true false e f is = absurd cc
all_five false false d e f is = absurd cc
all_five true b d e f is = absurd cc

wants_all : (c : Course) → course.wants_decision c ≡ true → Wants c
unfolding course.all_consent
wants_all c wants =
    let five = all_five (course.decides_alone c) (is_none c.overtaken) (is_none c.stood) (list_all has_consented c.parties) (course.some_commit c) wants in
    record { alone = five.0; overtaken = none_is c.overtaken five.1; stood = none_is c.stood five.2; consent = five.3; waits = five.4 }

outcome_by : (overtaken : Option Reason) (alone all some : Bool) (refuser : Option Party) (one by : Option Outcome) → overtaken ≡ None → alone ≡ false → refuser ≡ None → all ≡ true
    → some ≡ true
    → (elim overtaken as (λ _. Option Outcome) [
      | Some reason ↦ Some (outcomes.Rollback reason)
      | None ↦ if alone then one else elim refuser as (λ _. Option Outcome) [
        | Some p ↦ course.by_refusal p
        | None ↦ if not all then None else if some then by else Some (outcomes.Commit Nobody)
      ]
    ]) ≡ by
outcome_by None false true true None one by o a r l s = refl
outcome_by (Some reason) alone all some refuser one by o a r l s = absurd cc
outcome_by None true all some refuser one by o a r l s = absurd cc
outcome_by None false all some (Some p) one by o a r l s = absurd cc
outcome_by None false false some None one by o a r l s = absurd cc
outcome_by None false true false None one by o a r l s = absurd cc

-- the outcome is then what the journal answers
outcome_then : (stood : Option Stood) (c : Course) → course.wants_decision c ≡ true → course.outcome (record c { stood = stood }) ≡ course.by_record stood c.reread
unfolding course.outcome course.all_consent course.some_commit course.first_refuser
outcome_then stood c wants =
    let all = wants_all c wants in
    outcome_by c.overtaken (course.decides_alone c) (course.all_consent c) (course.some_commit c) (find has_refused c.parties) (course.by_one (slice_get c.parties 0))
    (course.by_record stood c.reread) all.overtaken all.alone (nobody_refuses c.parties all.consent) all.consent all.waits

pub not_yet : (s : Completion) → stages.wants_decision s ≡ true → stages.outcome s ≡ None
not_yet (Waiting room) wants = absurd cc
not_yet (UnderWay c) wants = outcome_then c.stood c wants ∙ ap (λ (x : Option Stood). course.by_record x c.reread) (wants_all c wants).stood

pub commits_then : (s : Completion) (at : ℕ) → stages.wants_decision s ≡ true → stages.outcome (stages.after_decided (answers.Stands at) s) ≡ Some (outcomes.Commit Record)
commits_then (Waiting room) at wants = absurd cc
commits_then (UnderWay c) at wants =
    subst (λ (t : Bool). course.outcome (if t then record c { stood = Some (answers.Stands at) } else c) ≡ Some (outcomes.Commit Record)) (sym wants)
    (outcome_then (Some (answers.Stands at)) c wants)
