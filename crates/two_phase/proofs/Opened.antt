-- Whoever is sent a word next hasn't answered it.
use Rattle.std.proofs.Common.{◌≡◌, ℕ, List, [], position, refl, Option, Some, None, sym, subst, ◌&&◌, is_none, Bool, true, false, if◌then◌else◌}
use Rattle.std.specs.List.{slice_get}
use Rattle.std.proofs.lemmas.List.Quantifiers.{position-Some}
use Rattle.std.proofs.lemmas.Option.{slice_get-get_or, same_Some}
use Rattle.ots_model.specs.declared.completion.Heard.{Heard}
use Rattle.ots_model.specs.Numbered.{Outcome}
use Rattle.two_phase.specs.Course.{Course, decides_alone, outcome, errand, asking, telling, forgetting, may_forget, errand_at, next_asked, next_told, next_forgetting}
use Rattle.two_phase.specs.CourseInside.{answer_at, OpenAt, IsOpen}
use Rattle.two_phase.specs.Parties.{is_unasked, is_untold, is_told, is_unforgotten, has_raised}
use Rattle.two_phase.specs.declared.party.Party.{Party}
use Rattle.two_phase.specs.declared.party.Stage.{Stage}
use Rattle.two_phase.specs.declared.party.Stage.TheVariants as stages
use Rattle.two_phase.specs.declared.party.Errand.{Errand}

-- any participant, which is read where there is none
pub nobody : Party
nobody = record { index = 0; to = []; ballot = None; told = None; forgot = None }

pub none_is : (o : Option Heard) → is_none o ≡ true → o ≡ None
none_is None e = refl
none_is (Some h) e = absurd (cc (e))

left_of : (a b : Bool) → (a && b) ≡ true → a ≡ true
left_of true b e = refl
left_of false b e = absurd (cc (e))

-- a participant found by a test, which says that it hasn't answered
found_open : (stage : Stage) (test : Party → Bool) (ps : List Party) → ((p : Party) → test p ≡ true → answer_at stage p ≡ None)
    → (i : ℕ) → position test ps ≡ Some i → OpenAt stage (slice_get ps i)
found_open stage test ps says i e =
    let at = position-Some test ps i nobody e in
    subst (OpenAt stage) (sym (slice_get-get_or ps i nobody at.0)) (says _ at.1)

asked_open : (ps : List Party) (i : ℕ) → next_asked ps ≡ Some i → OpenAt stages.Asking (slice_get ps i)
unfolding next_asked
asked_open ps i e = found_open stages.Asking is_unasked ps (λ p t. none_is p.ballot t) i e

told_open : (alone : Bool) (fixed : Outcome) (ps : List Party) (i : ℕ) → next_told alone fixed ps ≡ Some i → OpenAt stages.Telling (slice_get ps i)
unfolding next_told
told_open alone fixed ps i e =
    found_open stages.Telling (is_untold alone fixed) ps (λ p t. none_is p.told (left_of (is_none p.told) (is_told alone fixed p) t)) i e

forgetting_open : (ps : List Party) (i : ℕ) → next_forgetting ps ≡ Some i → OpenAt stages.Forgetting (slice_get ps i)
unfolding next_forgetting
forgetting_open ps i e =
    found_open stages.Forgetting is_unforgotten ps (λ p t. none_is p.forgot (left_of (is_none p.forgot) (has_raised p) t)) i e

at_open : (ps : List Party) (stage : Stage) (o : Option ℕ) → ((i : ℕ) → o ≡ Some i → OpenAt stage (slice_get ps i))
    → (e : Errand) → errand_at stage o ≡ Some e → IsOpen ps (Some e)
at_open ps stage None says e h = absurd (cc (h))
at_open ps stage (Some i) says e h =
    subst (λ x. IsOpen ps (Some x)) (same_Some (record { stage = stage; place = i }) e h) (says i refl)

may_open : (ps : List Party) (b : Bool) (e : Errand) → (if b then errand_at stages.Forgetting (next_forgetting ps) else None) ≡ Some e → IsOpen ps (Some e)
may_open ps true e h = at_open ps stages.Forgetting (next_forgetting ps) (forgetting_open ps) e h
may_open ps false e h = absurd (cc (h))

telling_open : (c : Course) (fixed : Outcome) (o : Option ℕ) → ((i : ℕ) → o ≡ Some i → OpenAt stages.Telling (slice_get c.parties i)) → (e : Errand)
    → elim o [ Some place ↦ Some (record { stage = stages.Telling; place = place }) | None ↦ forgetting c fixed ] ≡ Some e → IsOpen c.parties (Some e)
telling_open c fixed None says e h = may_open c.parties (may_forget c fixed) e h
telling_open c fixed (Some i) says e h = at_open c.parties stages.Telling (Some i) says e h

by_outcome : (c : Course) (o : Option Outcome) (e : Errand) → elim o [ Some fixed ↦ telling c fixed | None ↦ asking c ] ≡ Some e → IsOpen c.parties (Some e)
by_outcome c None e h = at_open c.parties stages.Asking (next_asked c.parties) (asked_open c.parties) e h
by_outcome c (Some fixed) e h =
    telling_open c fixed (next_told (decides_alone c) fixed c.parties) (told_open (decides_alone c) fixed c.parties) e h

pub errand_open : (c : Course) (e : Errand) → errand c ≡ Some e → IsOpen c.parties (Some e)
unfolding errand
errand_open c e h = by_outcome c (outcome c) e h
