-- A completion whose last vote is heard, before anyone knows whether the record stands: its outcome is open still.
use Rattle.std.proofs.Common.{◌≡◌, ◌&&◌, Bool, true, false, not, is_none, is_some, find, cond, if◌then◌else◌, List, [], ◌∷◌, slice_get, Option, Some, None, refl, sym, ap, ◌∙◌}
use Rattle.std.specs.List.{list_all}
use Rattle.ots_model.specs.declared.completion.Doubted.TheVariants as doubts
use Rattle.ots_model.specs.declared.completion.Heard.{Heard as ParticipantHeard}
use Rattle.ots_model.specs.declared.completion.Ground.TheVariants.{Nobody}
use Rattle.ots_model.specs.declared.completion.Stood.{Stood}
use Rattle.ots_model.specs.declared.completion.Stood.TheVariants as answers
use Rattle.ots_model.specs.Numbered.{Outcome}
use Rattle.ots_model.specs.declared.completion.Outcome.TheVariants as outcomes
use Rattle.ots_model.specs.declared.tree.Reason.{Reason}
use Rattle.two_phase.specs.Course as course
use Rattle.two_phase.specs.Course.{Course}
use Rattle.two_phase.specs.LawsOfReached.{IsReached, TreeBecomes}
use Rattle.two_phase.specs.LawsOfReached.IsReached.{begins, rolls_back, goes_on}
use Rattle.two_phase.specs.LawsOfReached.TreeBecomes.{by_word, by_answer, by_record, by_reread, by_rollback}
use Rattle.two_phase.specs.Parties.{has_consented, has_refused}
use Rattle.two_phase.specs.declared.party.Errand.{Errand}
use Rattle.two_phase.specs.declared.party.Party.{Party}

-- the journal isn't read again before it was asked
abbrev IsUnread : Course → Type 0
IsUnread c = c.stood ≡ None → c.reread ≡ None

either_unread : (t : Bool) (x c : Course) → (t ≡ true → IsUnread x) → IsUnread c → IsUnread (if t then x else c)
either_unread true x c then_so so = then_so refl
either_unread false x c then_so so = so

heard_unread : (c : Course) (h : ParticipantHeard) (its_own : Bool) (o : Option Errand) → IsUnread c
    → IsUnread (elim o as (λ _. Course) [ Some e ↦ if its_own then course.answered h c e else c | None ↦ c ])
heard_unread c h its_own (Some e) so = either_unread its_own (course.answered h c e) c (λ _. so) so
heard_unread c h its_own None so = so

not_doubtful : (stood : Option Stood) (b : Bool) → stood ≡ None → (course.is_unsure stood && b) ≡ true → ⊥
not_doubtful None b none is = cc
not_doubtful (Some x) b none is = cc

unread_becomes : (c later : Course) → TreeBecomes c later → IsUnread c → IsUnread later
unread_becomes _ _ (by_word c) so = either_unread (is_some c.out) c (record c { out = course.errand c }) (λ _. so) so
unread_becomes _ _ (by_answer c n h) so = heard_unread c h _ c.out so
unread_becomes _ _ (by_record c stood) so = either_unread (course.wants_decision c) (record c { stood = Some stood }) c (λ _ none. absurd (no none)) so
  where
    no : {x : Stood} → Some x ≡ None → ⊥
    no e = cc
unread_becomes _ _ (by_reread c found) so =
    either_unread (course.is_doubtful c) (record c { reread = Some found }) c (λ doubts none. absurd (not_doubtful c.stood (is_none c.reread) none doubts)) so
unread_becomes _ _ (by_rollback c reason) so = either_unread (course.is_outside reason && course.may_roll_back c) _ c (λ _. so) so

pub unread : (c : Course) → IsReached c → IsUnread c
unread _ (begins participants asked first one_phase) = λ _. refl
unread _ (rolls_back participants asked first one_phase reason) = λ _. refl
unread _ (goes_on c later reached becomes) = unread_becomes c later becomes (unread c reached)

-- nobody refuses where each consents
refused_not : (p : Party) (b : Option ParticipantHeard) → p.ballot ≡ b → has_consented p ≡ true → has_refused p ≡ false
refused_not p (Some h) is consents =
    ap (λ (b : Option ParticipantHeard). has_refused (record p { ballot = b })) is
    ∙ ap not (sym (ap (λ (b : Option ParticipantHeard). has_consented (record p { ballot = b })) is) ∙ consents)
refused_not p None is consents = absurd (no (sym (ap (λ (b : Option ParticipantHeard). has_consented (record p { ballot = b })) is) ∙ consents))
  where
    no : false ≡ true → ⊥
    no e = cc

nobody_refuses : (ps : List Party) → list_all has_consented ps ≡ true → find has_refused ps ≡ None
nobody_refuses [] all = refl
nobody_refuses (p ∷ ps) all =
    ap (λ (t : Bool). cond t (Some p) (find has_refused ps)) (refused_not p p.ballot refl (first_of (has_consented p) (list_all has_consented ps) all))
    ∙ nobody_refuses ps (second_of (has_consented p) (list_all has_consented ps) all)
  where
    first_of : (a b : Bool) → (a && b) ≡ true → a ≡ true
    first_of true b is = refl
    first_of false b is = absurd cc

    second_of : (a b : Bool) → (a && b) ≡ true → b ≡ true
    second_of true b is = is
    second_of false b is = absurd cc

-- ---- where a decision is wanted

pub record Wants (c : Course) : Type 0 where
  pub alone : course.decides_alone c ≡ false
  pub overtaken : c.overtaken ≡ None
  pub stood : c.stood ≡ None
  pub consent : list_all has_consented c.parties ≡ true
  pub waits : course.some_commit c ≡ true

none_is : {A : Type 0} (o : Option A) → is_none o ≡ true → o ≡ None
none_is None is = refl
none_is (Some x) is = absurd cc

all_five : (a b d e f : Bool) → (not a && b && d && e && f) ≡ true → (a ≡ false) × (b ≡ true) × (d ≡ true) × (e ≡ true) × (f ≡ true)
all_five false true true true true is = (refl, refl, refl, refl, refl)
all_five false true true true false is = absurd cc
all_five false true true false f is = absurd cc
all_five false true false e f is = absurd cc
all_five false false d e f is = absurd cc
all_five true b d e f is = absurd cc

pub wants_all : (c : Course) → course.wants_decision c ≡ true → Wants c
unfolding course.all_consent
wants_all c wants =
    let five = all_five (course.decides_alone c) (is_none c.overtaken) (is_none c.stood) (list_all has_consented c.parties) (course.some_commit c) wants in
    record { alone = five.0; overtaken = none_is c.overtaken five.1; stood = none_is c.stood five.2; consent = five.3; waits = five.4 }

-- nobody knows whether the record stands
abbrev pub unsure : Stood
unsure = answers.Unsure doubts.Starved

abbrev pub unknown : Course → Course
unknown c = record c { stood = Some unsure }

outcome_by : (overtaken : Option Reason) (alone all some : Bool) (refuser : Option Party) (one by : Option Outcome) → overtaken ≡ None → alone ≡ false → refuser ≡ None → all ≡ true
    → some ≡ true
    → (elim overtaken as (λ _. Option Outcome) [
      | Some reason ↦ Some (outcomes.Rollback reason)
      | None ↦ if alone then one else elim refuser as (λ _. Option Outcome) [
        | Some p ↦ course.by_refusal p
        | None ↦ if not all then None else if some then by else Some (outcomes.Commit Nobody)
      ]
    ]) ≡ by
outcome_by None false true true None one by o a r l s = refl
outcome_by (Some reason) alone all some refuser one by o a r l s = absurd cc
outcome_by None true all some refuser one by o a r l s = absurd cc
outcome_by None false all some (Some p) one by o a r l s = absurd cc
outcome_by None false false some None one by o a r l s = absurd cc
outcome_by None false true false None one by o a r l s = absurd cc

-- the outcome is then what the journal answers
pub outcome_then : (stood : Option Stood) (c : Course) → course.wants_decision c ≡ true → course.outcome (record c { stood = stood }) ≡ course.by_record stood c.reread
unfolding course.outcome course.all_consent course.some_commit course.first_refuser
outcome_then stood c wants =
    let all = wants_all c wants in
    outcome_by c.overtaken (course.decides_alone c) (course.all_consent c) (course.some_commit c) (find has_refused c.parties) (course.by_one (slice_get c.parties 0))
    (course.by_record stood c.reread) all.overtaken all.alone (nobody_refuses c.parties all.consent) all.consent all.waits

pub unanswered_open : (c : Course) → course.wants_decision c ≡ true → course.outcome c ≡ None
unanswered_open c wants = outcome_then c.stood c wants ∙ ap (λ (x : Option Stood). course.by_record x c.reread) (wants_all c wants).stood

pub unknown_open : (c : Course) → IsReached c → course.wants_decision c ≡ true → course.outcome (unknown c) ≡ None
unknown_open c reached wants = outcome_then (Some unsure) c wants ∙ ap (course.by_record (Some unsure)) (unread c reached (wants_all c wants).stood)
