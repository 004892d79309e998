-- The journal is asked for no decision before each participant has consented; so while one is asked, it has answered nothing.
use Rattle.std.proofs.Common.{◌≡◌, ◌⊎◌, inl, inr, zero, suc, ◌&&◌, Bool, true, false, not, is_none, is_some, List, [], ◌∷◌, slice_get, slice_set, ℕ, Option, Some, None, refl, sym, ap, subst, ◌∙◌, if◌then◌else◌}
use Rattle.std.specs.List.{list_all}
use Rattle.ots_model.specs.declared.completion.Heard.{Heard as ParticipantHeard}
use Rattle.two_phase.specs.Course as course
use Rattle.two_phase.specs.Course.{Course}
use Rattle.two_phase.specs.CourseInside.{IsOpen, OpenAt}
use Rattle.two_phase.specs.LawsOfReached.{IsReached, TreeBecomes}
use Rattle.two_phase.specs.LawsOfReached.IsReached.{begins, rolls_back, goes_on}
use Rattle.two_phase.specs.LawsOfReached.TreeBecomes.{by_word, by_answer, by_record, by_reread, by_rollback}
use Rattle.two_phase.specs.Parties.{has_consented}
use Rattle.two_phase.specs.declared.party.Errand.{Errand}
use Rattle.two_phase.specs.declared.party.Party.{Party}
use Rattle.two_phase.specs.declared.party.Stage.{Stage as Round}
use Rattle.two_phase.specs.declared.party.Stage.TheVariants as rounds
use Rattle.nodes_world.specs.CompletionLaws.{CompletionLaws}
use Rattle.nodes_world.specs.AgreementInside.{is_asking_round}
use Rattle.nodes_world.proofs.AnswersKeep.{other_answer, same_gathered}
use Rattle.nodes_world.proofs.AskedCalls.{IsAskedOf}

-- the journal has answered nothing, or each has consented
abbrev IsLate : Course → Type 0
IsLate c = (c.stood ≡ None) ⊎ (list_all has_consented c.parties ≡ true)

either_late : (t : Bool) (x c : Course) → (t ≡ true → IsLate x) → IsLate c → IsLate (if t then x else c)
either_late true x c then_late late = then_late refl
either_late false x c then_late late = late

-- one that hasn't answered hasn't consented
pub not_yet : (p : Party) → p.ballot ≡ None → has_consented p ≡ false
not_yet p unheard = ap (λ (b : Option ParticipantHeard). has_consented (record p { ballot = b })) unheard

pub some_not : (ps : List Party) (i : ℕ) (p : Party) → slice_get ps i ≡ Some p → has_consented p ≡ false → list_all has_consented ps ≡ false
some_not [] i p there never = absurd cc
some_not (x ∷ ps) zero p there never = ap (λ (t : Bool). t && list_all has_consented ps) (ap has_consented (inner there) ∙ never)
  where
    inner : {a b : Party} → Some a ≡ Some b → a ≡ b
    inner e = cc
some_not (x ∷ ps) (suc i) p there never = ap (λ (t : Bool). has_consented x && t) (some_not ps i p there never) ∙ and_false (has_consented x)
  where
    and_false : (t : Bool) → (t && false) ≡ false
    and_false true = refl
    and_false false = refl

-- to a word that tells an outcome one answers that has consented before
told_later : (c : Course) (e : Errand) (h : ParticipantHeard) → is_asking_round e.stage ≡ false → list_all has_consented (course.answered h c e).parties ≡ list_all has_consented c.parties
told_later c e h later = by (slice_get c.parties e.place) refl
  where
    by : (o : Option Party) → slice_get c.parties e.place ≡ o
        → list_all has_consented (elim o as (λ _. List Party) [ Some p ↦ slice_set c.parties e.place (course.heard_at e.stage h p) | None ↦ c.parties ]) ≡ list_all has_consented c.parties
    by (Some p) there =
        same_gathered (list_all has_consented) (λ (x : Party) (rest : Bool). has_consented x && rest) (λ x xs. refl) c.parties e.place p (course.heard_at e.stage h p) there
        (λ rest. ap (λ (b : Option ParticipantHeard). has_consented (record p { ballot = b }) && rest) (other_answer h e.stage p later).2)
    by None there = refl

-- one that is asked has not consented
asked_not : (c : Course) (e : Errand) (o : Option Party) → slice_get c.parties e.place ≡ o → OpenAt rounds.Asking o → list_all has_consented c.parties ≡ false
asked_not c e None there unheard = absurd unheard
asked_not c e (Some p) there unheard = some_not c.parties e.place p there (not_yet p unheard)

true_not_false : {t : Bool} → t ≡ true → t ≡ false → ⊥
true_not_false is not = no (sym is ∙ not)
  where
    no : true ≡ false → ⊥
    no e = cc

late_answered : (c : Course) (e : Errand) (h : ParticipantHeard) → IsOpen c.parties (Some e) → IsLate c → IsLate (course.answered h c e)
late_answered c e h unheard (inl none) = inl none
late_answered c e h unheard (inr all) = by e.stage refl
  where
    by : (round : Round) → e.stage ≡ round → IsLate (course.answered h c e)
    by rounds.Asking round =
        absurd (true_not_false all (asked_not c e (slice_get c.parties e.place) refl (subst (λ (r : Round). OpenAt r (slice_get c.parties e.place)) round unheard)))
    by rounds.Telling round = inr (told_later c e h (ap is_asking_round round) ∙ all)
    by rounds.Forgetting round = inr (told_later c e h (ap is_asking_round round) ∙ all)

late_heard : (c : Course) (h : ParticipantHeard) (its_own : Bool) (o : Option Errand) → IsOpen c.parties o → IsLate c
    → IsLate (elim o as (λ _. Course) [ Some e ↦ if its_own then course.answered h c e else c | None ↦ c ])
late_heard c h its_own (Some e) unheard late = either_late its_own (course.answered h c e) c (λ _. late_answered c e h unheard late) late
late_heard c h its_own None unheard late = late

all_wanted : (a b d e f : Bool) → (a && b && d && e && f) ≡ true → e ≡ true
all_wanted true true true true f is = refl
all_wanted true true true false f is = absurd cc
all_wanted true true false e f is = absurd cc
all_wanted true false d e f is = absurd cc
all_wanted false b d e f is = absurd cc

late_becomes : CompletionLaws → (c later : Course) → TreeBecomes c later → IsReached c → IsLate c → IsLate later
unfolding course.all_consent course.some_commit
late_becomes completions _ _ (by_word c) reached late = either_late (is_some c.out) c (record c { out = course.errand c }) (λ _. late) late
late_becomes completions _ _ (by_answer c n h) reached late = late_heard c h _ c.out (completions.waits c reached).unheard late
late_becomes completions _ _ (by_record c stood) reached late =
    either_late (course.wants_decision c) (record c { stood = Some stood }) c (λ wants. inr (all_wanted (not (course.decides_alone c)) (is_none c.overtaken) (is_none c.stood) (course.all_consent c) (course.some_commit c) wants)) late
late_becomes completions _ _ (by_reread c found) reached late = either_late (course.is_doubtful c) (record c { reread = Some found }) c (λ _. late) late
late_becomes completions _ _ (by_rollback c reason) reached late = either_late (course.is_outside reason && course.may_roll_back c) _ c (λ _. late) late

reached_late : CompletionLaws → (c : Course) → IsReached c → IsLate c
reached_late completions _ (begins participants asked first one_phase) = inl refl
reached_late completions _ (rolls_back participants asked first one_phase reason) = inl refl
reached_late completions _ (goes_on c later reached becomes) = late_becomes completions c later becomes reached (reached_late completions c reached)

-- the journal has answered nothing while a participant is asked
pub not_stood : CompletionLaws → (c : Course) → IsReached c → IsAskedOf c → c.stood ≡ None
not_stood completions c reached asked = by (reached_late completions c reached)
  where
    by : IsLate c → c.stood ≡ None
    by (inl none) = none
    by (inr all) = absurd (true_not_false all (some_not c.parties asked.errand.place asked.party asked.there (not_yet asked.party asked.unheard)))
