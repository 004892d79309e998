-- When no word goes out.
use Rattle.std.proofs.Common.{◌≡◌, refl, ℕ, ◌+◌, zero, suc, ◌<◌, cond, List, [], ◌∷◌, length, get_or, position, find, Option, Some, None, ap, sym, ◌∙◌, ◌&&◌, is_none, is_some, not, arith, Bool, true, false, if◌then◌else◌, ◌⊎◌, inl, inr}
use Rattle.std.specs.List.{slice_get, list_all, position_from}
use Rattle.std.specs.Option.{option_map, option_map_or, option_and_then}
use Rattle.std.proofs.lemmas.Iterator.Adapters.{position_from-zero}
use Rattle.std.proofs.lemmas.Option.{slice_get-get_or, same_Some}
use Rattle.ots_model.specs.declared.completion.Heard.{Heard}
use Rattle.ots_model.specs.declared.completion.Ground.TheVariants.{Nobody}
use Rattle.ots_model.specs.declared.completion.Stood.{Stood}
use Rattle.ots_model.specs.declared.completion.Stood.TheVariants as answers
use Rattle.ots_model.specs.Numbered.{Outcome}
use Rattle.ots_model.specs.declared.completion.Outcome.TheVariants as outcomes
use Rattle.ots_model.specs.declared.tree.Reason.{Reason}
use Rattle.two_phase.specs.Parties.{consents}
use Rattle.two_phase.specs.Course.{Course, decides_alone, all_consent, some_commit, first_refuser, by_refusal, by_record, by_one, outcome, errand, asking, telling, forgetting, may_forget, waits_for_superior, some_incomplete, errand_at, next_asked, next_told, next_forgetting, word_of, outward, outward_of, next_word}
use Rattle.two_phase.specs.CourseInside.{OpenAt}
use Rattle.two_phase.specs.LawsOfSilence.{AllTold, AllForgot, ForgetWaits, IsSilent}
use Rattle.two_phase.specs.LawsOfSilence.IsSilent.{is_out, wants_record, doubts, forget_waits, all_told}
use Rattle.two_phase.specs.Parties.{has_consented, has_refused, is_unasked, is_untold, is_told, is_unforgotten, has_raised, by_answer, reason_of}
use Rattle.two_phase.specs.declared.party.Party.{Party}
use Rattle.two_phase.specs.declared.party.Stage.{Stage}
use Rattle.two_phase.specs.declared.party.Stage.TheVariants as stages
use Rattle.two_phase.specs.declared.party.Errand.{Errand}
use Rattle.two_phase.proofs.Opened.{nobody, errand_open}
use Rattle.two_phase.proofs.Overtaken.{overtaken_ends}
use Rattle.two_phase.proofs.Rests.{alone_is, votes_is, one_alone}

-- where no place is found, each one fails the test
fails : (b : Bool) (i : ℕ) (o : Option ℕ) → cond b (Some i) o ≡ None → (b ≡ false) × (o ≡ None)
fails true i o e = absurd (cc (e))
fails false i o e = (refl, e)

none_from : (test : Party → Bool) (ps : List Party) (i : ℕ) → position_from test i ps ≡ None → (place : ℕ) (p : Party) → slice_get ps place ≡ Some p → test p ≡ false
none_from test [] i e place p there = absurd (cc (there))
none_from test (x ∷ xs) i e zero p there = ap test (sym (same_Some x p there)) ∙ (fails (test x) i _ e).0
none_from test (x ∷ xs) i e (suc place) p there = none_from test xs (i + 1) (fails (test x) i _ e).1 place p there

none_passes : (test : Party → Bool) (ps : List Party) → position test ps ≡ None → (place : ℕ) (p : Party) → slice_get ps place ≡ Some p → test p ≡ false
none_passes test ps e = none_from test ps 0 (sym (position_from-zero test ps) ∙ e)

-- one that needs an answer has given it
has_answered : (o : Option Heard) (b : Bool) → (is_none o && b) ≡ false → b ≡ true → is_some o ≡ true
has_answered (Some h) b e needs = refl
has_answered None true e needs = absurd (cc (e))
has_answered None false e needs = absurd (cc (needs))

told_all : (c : Course) (fixed : Outcome) → next_told (decides_alone c) fixed c.parties ≡ None → AllTold fixed c
unfolding next_told
told_all c fixed e place p there =
    has_answered p.told (is_told (decides_alone c) fixed p) (none_passes (is_untold (decides_alone c) fixed) c.parties e place p there)

forgot_all : (c : Course) → next_forgetting c.parties ≡ None → AllForgot c
unfolding next_forgetting
forgot_all c e place p there = has_answered p.forgot (has_raised p) (none_passes is_unforgotten c.parties e place p there)

asked_all : (c : Course) → next_asked c.parties ≡ None → (place : ℕ) (p : Party) → slice_get c.parties place ≡ Some p → is_unasked p ≡ false
unfolding next_asked
asked_all c e = none_passes is_unasked c.parties e

no_place : (stage : Stage) (o : Option ℕ) → errand_at stage o ≡ None → o ≡ None
no_place stage None e = refl
no_place stage (Some i) e = absurd (cc (e))

-- why forget may not go out
either : (a b : Bool) → (not a && not b) ≡ false → (a ≡ true) ⊎ (b ≡ true)
either true b e = inl refl
either false true e = inr refl
either false false e = absurd (cc (e))

not_not : (b : Bool) → not b ≡ false → b ≡ true
not_not true e = refl
not_not false e = absurd (cc (e))

why_waits : (c : Course) (fixed : Outcome) → may_forget c fixed ≡ false → ForgetWaits fixed c
why_waits c (outcomes.Commit basis) e = either (waits_for_superior c) (some_incomplete c) e
why_waits c (outcomes.Rollback reason) e = not_not (waits_for_superior c) e
why_waits c outcomes.Unknown e = not_not (waits_for_superior c) e

-- once the outcome is fixed
forget_silent : (c : Course) (fixed : Outcome) → outcome c ≡ Some fixed → AllTold fixed c → (b : Bool) → may_forget c fixed ≡ b
    → ◌≡◌ {A = Option Errand} (if b then errand_at stages.Forgetting (next_forgetting c.parties) else None) None → IsSilent c
forget_silent c fixed is told true may e = all_told fixed is told (forgot_all c (no_place stages.Forgetting (next_forgetting c.parties) e))
forget_silent c fixed is told false may e = forget_waits fixed is told (why_waits c fixed may)

telling_silent : (c : Course) (fixed : Outcome) → outcome c ≡ Some fixed → (o : Option ℕ) → next_told (decides_alone c) fixed c.parties ≡ o
    → ◌≡◌ {A = Option Errand} (elim o [ Some place ↦ Some (record { stage = stages.Telling; place = place }) | None ↦ forgetting c fixed ]) None → IsSilent c
telling_silent c fixed is None next e = forget_silent c fixed is (told_all c fixed next) (may_forget c fixed) refl e
telling_silent c fixed is (Some i) next e = absurd (cc (e))

-- an answer that was given and is no refusal is a consent
consented : (o : Option Heard) → is_none o ≡ false → option_map_or (λ h. not (consents h)) o false ≡ false → option_map_or consents o false ≡ true
consented None asked kept = absurd (cc (asked))
consented (Some h) asked kept = not_not (consents h) kept

not_found : (b : Bool) (x : Party) (o : Option Party) → (if b then Some x else o) ≡ None → (b ≡ false) × (o ≡ None)
not_found true x o e = absurd (cc (e))
not_found false x o e = (refl, e)

consent_of : (ps : List Party) → ((place : ℕ) (p : Party) → slice_get ps place ≡ Some p → is_unasked p ≡ false) → find has_refused ps ≡ None → list_all has_consented ps ≡ true
consent_of [] asked e = refl
consent_of (x ∷ xs) asked e =
    let kept = not_found (has_refused x) x (find has_refused xs) e in
    let behind = consent_of xs (λ place p there. asked (suc place) p there) kept.1 in
    rw (consented x.ballot (asked 0 x refl) kept.0, behind) refl

consent_all : (c : Course) → next_asked c.parties ≡ None → first_refuser c.parties ≡ None → all_consent c ≡ true
unfolding all_consent first_refuser
consent_all c asked kept = consent_of c.parties (asked_all c asked) kept

-- while it is open: by the record
record_silent : (c : Course) → c.overtaken ≡ None → decides_alone c ≡ false → all_consent c ≡ true → some_commit c ≡ true
    → (s : Option Stood) → c.stood ≡ s → (r : Option (Option ℕ)) → c.reread ≡ r → by_record s r ≡ None → IsSilent c
record_silent c free several all some None stood r read e = wants_record (rw (all, some, several, free, stood) refl)
record_silent c free several all some (Some (answers.Stands place)) stood r read e = absurd (cc (e))
record_silent c free several all some (Some (answers.Full used need)) stood r read e = absurd (cc (e))
record_silent c free several all some (Some (answers.Unsure why)) stood None read e = doubts (rw (stood, read) refl)
record_silent c free several all some (Some (answers.Unsure why)) stood (Some None) read e = absurd (cc (e))
record_silent c free several all some (Some (answers.Unsure why)) stood (Some (Some place)) read e = absurd (cc (e))

consent_silent : (c : Course) → c.overtaken ≡ None → decides_alone c ≡ false → all_consent c ≡ true → (b : Bool) → some_commit c ≡ b
    → (if b then by_record c.stood c.reread else Some (outcomes.Commit Nobody)) ≡ None → IsSilent c
consent_silent c free several all true some e = record_silent c free several all some c.stood refl c.reread refl e
consent_silent c free several all false some e = absurd (cc (e))

-- a participant that has refused fixes it
refusal_is : (g : ℕ) (o : Option Heard) → option_map_or (λ h. not (consents h)) o false ≡ true → ◌≡◌ {A = Option Outcome} (option_map (λ h. outcomes.Rollback (reason_of g h)) o) None → ⊥
refusal_is g None refused e = cc (refused)
refusal_is g (Some h) refused e = cc (e)

found_refuses : (ps : List Party) (p : Party) → find has_refused ps ≡ Some p → has_refused p ≡ true
found_refuses [] p e = absurd (cc (e))
found_refuses (x ∷ xs) p e = by_head (λ h. found_refuses xs p h) (has_refused x) refl e
  where
    by_head : (find has_refused xs ≡ Some p → has_refused p ≡ true) → (b : Bool) → has_refused x ≡ b → (if b then Some x else find has_refused xs) ≡ Some p → has_refused p ≡ true
    by_head behind true is h = ap has_refused (sym (same_Some x p h)) ∙ is
    by_head behind false is h = behind h

refuser_refuses : (ps : List Party) (p : Party) → first_refuser ps ≡ Some p → has_refused p ≡ true
unfolding first_refuser
refuser_refuses ps p e = found_refuses ps p e

votes_silent : (c : Course) → c.overtaken ≡ None → decides_alone c ≡ false → next_asked c.parties ≡ None → (o : Option Party) → first_refuser c.parties ≡ o
    → ◌≡◌ {A = Option Outcome} (elim o [ Some p ↦ by_refusal p | None ↦ if not (all_consent c) then None else if some_commit c then by_record c.stood c.reread else Some (outcomes.Commit Nobody) ]) None
    → IsSilent c
votes_silent c free several asked (Some p) is e = absurd (refusal_is p.index p.ballot (refuser_refuses c.parties p is) e)
votes_silent c free several asked None is e =
    let all = consent_all c asked is in
    let left : (if some_commit c then by_record c.stood c.reread else Some (outcomes.Commit Nobody)) ≡ None =
    sym (ap (λ b. if not b then None else if some_commit c then by_record c.stood c.reread else Some (outcomes.Commit Nobody)) all) ∙ e in
    consent_silent c free several all (some_commit c) refl left

-- the only participant has answered, and that fixes it
one_answered : (p : Party) (o : Option Heard) → is_none o ≡ false → option_map (by_answer p.index) o ≡ None → ⊥
one_answered p None asked e = cc (asked)
one_answered p (Some h) asked e = cc (e)

alone_open : (c : Course) → decides_alone c ≡ true → next_asked c.parties ≡ None → by_one (slice_get c.parties 0) ≡ None → ⊥
alone_open c alone asked e =
    let one = one_alone c alone in
    let within : 0 < length c.parties = omega (arith, one) in
    let there = slice_get-get_or c.parties 0 nobody within in
    let p = get_or c.parties 0 nobody in
    one_answered p p.ballot (asked_all c asked 0 p there) (sym (ap by_one there) ∙ e)

open_silent : (c : Course) → outcome c ≡ None → next_asked c.parties ≡ None → c.overtaken ≡ None → (b : Bool) → decides_alone c ≡ b → IsSilent c
open_silent c is asked free true alone = absurd (alone_open c alone asked (sym (alone_is c free alone) ∙ is))
open_silent c is asked free false several = votes_silent c free several asked (first_refuser c.parties) refl (sym (votes_is c free several) ∙ is)

asking_silent : (c : Course) → outcome c ≡ None → next_asked c.parties ≡ None → (o : Option Reason) → c.overtaken ≡ o → IsSilent c
asking_silent c is asked (Some r) over = let never : Some (outcomes.Rollback r) ≡ None = sym (overtaken_ends c r over) ∙ is in absurd (cc (never))
asking_silent c is asked None free = open_silent c is asked free (decides_alone c) refl

outcome_silent : (c : Course) (o : Option Outcome) → outcome c ≡ o → ◌≡◌ {A = Option Errand} (elim o [ Some fixed ↦ telling c fixed | None ↦ asking c ]) None → IsSilent c
outcome_silent c (Some fixed) is e = telling_silent c fixed is (next_told (decides_alone c) fixed c.parties) refl e
outcome_silent c None is e = asking_silent c is (no_place stages.Asking (next_asked c.parties) e) c.overtaken refl

errand_silent : (c : Course) → errand c ≡ None → IsSilent c
unfolding errand
errand_silent c e = outcome_silent c (outcome c) refl e

-- whoever is to be sent a word is there
party_there : (c : Course) (e : Errand) (o : Option Party) → OpenAt e.stage o → option_map (outward c (word_of c e.stage)) o ≡ None → ⊥
party_there c e None there h = there
party_there c e (Some p) there h = cc (h)

by_errand : (c : Course) (o : Option Errand) → errand c ≡ o → option_and_then (outward_of c) o ≡ None → IsSilent c
by_errand c None is h = errand_silent c is
by_errand c (Some e) is h = absurd (party_there c e (slice_get c.parties e.place) (errand_open c e is) h)

by_out : (c : Course) (b : Bool) → is_some c.out ≡ b → (if b then None else option_and_then (outward_of c) (errand c)) ≡ None → IsSilent c
by_out c true is h = is_out is
by_out c false is h = by_errand c (errand c) refl h

pub silent : (c : Course) → next_word c ≡ None → IsSilent c
unfolding next_word
silent c h = by_out c (is_some c.out) refl h
