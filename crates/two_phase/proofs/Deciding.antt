-- A decision begins to be wanted by the answer to the last word that asks.
use Rattle.std.proofs.Common.{◌≡◌, refl, arith, ℕ, zero, suc, ◌+◌, ◌<◌, ◌≤◌, List, [], ◌∷◌, length, take, drop, slice_set, Option, Some, None, ap, sym, subst, ◌∙◌, ◌&&◌, is_none, is_some, not, Bool, true, false, if◌then◌else◌}
use Rattle.std.specs.Prelude.{◌==◌}
use Rattle.std.specs.List.{slice_get, list_all}
use Rattle.std.proofs.lemmas.Bool.Decides.{nat_tests}
use Rattle.std.specs.Option.{option_map_or}
use Rattle.std.proofs.lemmas.List.{length-set, take-set, drop-set, take-append-drop}
use Rattle.std.proofs.lemmas.List.Folds.{list_all-append}
use Rattle.std.proofs.lemmas.Option.{slice_get_within}
use Rattle.ots_model.specs.declared.completion.CallNumber.{CallNumber}
use Rattle.ots_model.specs.declared.completion.Heard.{Heard}
use Rattle.two_phase.specs.Course.{same_number}
use Rattle.two_phase.specs.CourseInside.{AsksAt, IsAskedAt}
use Rattle.two_phase.specs.Parties.{consents}
use Rattle.two_phase.specs.Course.{Course, decides_alone, all_consent, some_commit, wants_decision, others_have_answered, asks_last, is_last_asked, answered, heard_at, heard_by, errand, is_doubtful, is_outside, may_roll_back, overtaken_number}
use Rattle.two_phase.specs.LawsOfReached.{TreeBecomes}
use Rattle.two_phase.specs.LawsOfReached.TreeBecomes.{by_word, by_answer, by_record, by_reread, by_rollback}
use Rattle.two_phase.specs.Parties.{has_consented, has_voted_commit, has_answered, is_unasked}
use Rattle.two_phase.specs.declared.party.Party.{Party}
use Rattle.two_phase.specs.declared.party.Stage.{Stage}
use Rattle.two_phase.specs.declared.party.Stage.TheVariants as stages
use Rattle.two_phase.specs.declared.party.Errand.{Errand}
use Rattle.two_phase.proofs.Answered.{heard_is}
use Rattle.two_phase.proofs.Behind.{drop_none}
use Rattle.two_phase.proofs.Rests.{and_left, and_right}
use Rattle.two_phase.proofs.Stays.{alike_all, alike_any, alike_of, if_case}

-- one that has consented has answered
consent_answers : (o : Option Heard) → option_map_or consents o false ≡ true → is_some o ≡ true
consent_answers None e = absurd (cc (e))
consent_answers (Some h) e = refl

all_answered : (ps : List Party) → list_all has_consented ps ≡ true → list_all has_answered ps ≡ true
all_answered [] e = refl
all_answered (p ∷ ps) e =
    rw (consent_answers p.ballot (and_left (has_consented p) (list_all has_consented ps) e), all_answered ps (and_right (has_consented p) (list_all has_consented ps) e)) refl

-- a test of all but for one, which is set
set_all : (f : Party → Bool) (ps : List Party) (i : ℕ) (y : Party) → i < length ps
    → list_all f (slice_set ps i y) ≡ (list_all f (take i ps) && list_all f (y ∷ drop (i + 1) ps))
set_all f ps i y within =
    ap (list_all f) (sym (take-append-drop i (slice_set ps i y)))
    ∙ list_all-append f (take i (slice_set ps i y)) (drop i (slice_set ps i y))
    ∙ ap (λ qs. list_all f qs && list_all f (drop i (slice_set ps i y))) (take-set ps i y)
    ∙ ap (λ qs. list_all f (take i ps) && list_all f qs) (drop-set ps i y within)

others_answered : (ps : List Party) (i : ℕ) (y : Party) → i < length ps → list_all has_consented (slice_set ps i y) ≡ true → others_have_answered i ps ≡ true
unfolding others_have_answered
others_answered ps i y within all =
    let both = sym (set_all has_consented ps i y within) ∙ all in
    let before = all_answered (take i ps) (and_left (list_all has_consented (take i ps)) _ both) in
    let rest = and_right (list_all has_consented (take i ps)) _ both in
    let behind = all_answered (drop (i + 1) ps) (and_right (has_consented y) (list_all has_consented (drop (i + 1) ps)) rest) in
    rw (before, behind) refl

wants_all : (a b d e f : Bool) → (a && b && d && e && f) ≡ true → e ≡ true
wants_all a b d e f h = and_right (a && b && d) e (and_left (a && b && d && e) f h)

-- an answer to the outcome or to forget changes no vote
alike_wants : (c : Course) (e : Errand) (h : Heard) (x : Party) → slice_get c.parties e.place ≡ Some x → (e.stage ≡ stages.Asking → ⊥)
    → wants_decision (answered h c e) ≡ wants_decision c
unfolding all_consent some_commit
alike_wants c e h x at never =
    let a = alike_of e.stage h x never in
    let y = heard_at e.stage h x in
    rw (heard_is c.parties e h x at, length-set c.parties e.place y, alike_all has_consented c.parties e.place x y at a.consents, alike_any has_voted_commit c.parties e.place x y at a.votes) refl

stays_so : (a b : Bool) → a ≡ b → b ≡ false → a ≡ true → ⊥
stays_so a b same unwanted wanted = cc (same, unwanted, wanted)

asked_last : (c : Course) (place : ℕ) (h : Heard) (x : Party) → slice_get c.parties place ≡ Some x
    → wants_decision (answered h c (record { stage = stages.Asking; place = place })) ≡ true → others_have_answered place c.parties ≡ true
unfolding all_consent
asked_last c place h x at wants =
    let later = answered h c (record { stage = stages.Asking; place = place }) in
    let all = wants_all (not (decides_alone later)) (is_none later.overtaken) (is_none later.stood) (all_consent later) (some_commit later) wants in
    let set = sym (ap (list_all has_consented) (heard_is c.parties (record { stage = stages.Asking; place = place }) h x at)) ∙ all in
    others_answered c.parties place (heard_at stages.Asking h x) (slice_get_within c.parties place x at) set

by_stage : (c : Course) (stage : Stage) (place : ℕ) (h : Heard) (x : Party) → slice_get c.parties place ≡ Some x → wants_decision c ≡ false
    → wants_decision (answered h c (record { stage = stage; place = place })) ≡ true → asks_last c.parties (record { stage = stage; place = place }) ≡ true
by_stage c stages.Asking place h x at unwanted wants = asked_last c place h x at wants
by_stage c stages.Telling place h x at unwanted wants =
    absurd (stays_so _ (wants_decision c) (alike_wants c (record { stage = stages.Telling; place = place }) h x at (λ e. cc (e))) unwanted wants)
by_stage c stages.Forgetting place h x at unwanted wants =
    absurd (stays_so _ (wants_decision c) (alike_wants c (record { stage = stages.Forgetting; place = place }) h x at (λ e. cc (e))) unwanted wants)

-- where nobody is at the place, nothing is heard
nobody_heard : (ps : List Party) (e : Errand) (h : Heard) → slice_get ps e.place ≡ None → heard_by ps e h ≡ ps
nobody_heard ps e h at = rw (heard_by, at) refl

nobody_wants : (c : Course) (e : Errand) (h : Heard) → slice_get c.parties e.place ≡ None → wants_decision (answered h c e) ≡ wants_decision c
unfolding all_consent some_commit
nobody_wants c e h at = rw (nobody_heard c.parties e h at) refl

by_party : (c : Course) (e : Errand) (h : Heard) (o : Option Party) → slice_get c.parties e.place ≡ o → wants_decision c ≡ false
    → wants_decision (answered h c e) ≡ true → asks_last c.parties e ≡ true
by_party c e h None at unwanted wants = absurd (stays_so _ (wants_decision c) (nobody_wants c e h at) unwanted wants)
by_party c e h (Some x) at unwanted wants = by_stage c e.stage e.place h x at unwanted wants

unchanged : (c : Course) → wants_decision c ≡ false → (A : Type 0) → wants_decision c ≡ true → A
unchanged c unwanted A wants = absurd (stays_so (wants_decision c) (wants_decision c) refl unwanted wants)

heard_decides : (c : Course) (n : CallNumber) (h : Heard) → wants_decision c ≡ false → (o : Option Errand)
    → wants_decision (elim o [ Some e ↦ if same_number n c.number then answered h c e else c | None ↦ c ]) ≡ true
    → elim o [ Some e ↦ asks_last c.parties e | None ↦ false ] ≡ true
heard_decides c n h unwanted None wants = unchanged c unwanted _ wants
heard_decides c n h unwanted (Some e) wants =
    if_case (λ x. wants_decision x ≡ true → asks_last c.parties e ≡ true) (same_number n c.number) (answered h c e) c (λ _ w. by_party c e h (slice_get c.parties e.place) refl unwanted w)
    (λ w. unchanged c unwanted _ w) wants

-- where it was overtaken none is wanted
second_is : (a b d e f : Bool) → (a && b && d && e && f) ≡ true → b ≡ true
second_is a b d e f h = and_right a b (and_left (a && b) d (and_left (a && b && d) e (and_left (a && b && d && e) f h)))

out_wants : (c : Course) (o : Option Errand) → wants_decision (record c { out = o }) ≡ wants_decision c
unfolding all_consent some_commit
out_wants c o = refl

reread_wants : (c : Course) (found : Option ℕ) → wants_decision (record c { reread = Some found }) ≡ wants_decision c
unfolding all_consent some_commit
reread_wants c found = refl

pub last_answer_decides : (c later : Course) → TreeBecomes c later → wants_decision c ≡ false → wants_decision later ≡ true → is_last_asked c ≡ true
last_answer_decides _ _ (by_word c) unwanted wants =
    if_case (λ x. wants_decision x ≡ true → is_last_asked c ≡ true) (is_some c.out) c (record c { out = errand c }) (λ _ w. unchanged c unwanted _ w)
    (λ w. absurd (stays_so _ (wants_decision c) (out_wants c (errand c)) unwanted w)) wants
last_answer_decides _ _ (by_answer c n h) unwanted wants = heard_decides c n h unwanted c.out wants
last_answer_decides _ _ (by_record c stood) unwanted wants =
    if_case (λ x. wants_decision x ≡ true → is_last_asked c ≡ true) (wants_decision c) (record c { stood = Some stood }) c (λ wanted _. unchanged c unwanted _ wanted)
    (λ w. unchanged c unwanted _ w) wants
last_answer_decides _ _ (by_reread c found) unwanted wants =
    if_case (λ x. wants_decision x ≡ true → is_last_asked c ≡ true) (is_doubtful c) (record c { reread = Some found }) c
    (λ _ w. absurd (stays_so _ (wants_decision c) (reread_wants c found) unwanted w)) (λ w. unchanged c unwanted _ w) wants
last_answer_decides _ _ (by_rollback c reason) unwanted wants =
    if_case (λ x. wants_decision x ≡ true → is_last_asked c ≡ true) (is_outside reason && may_roll_back c) _ c
    (λ _ w. absurd (overtaken_wants w)) (λ w. unchanged c unwanted _ w) wants
  where
    overtaken_wants : wants_decision (record c { overtaken = Some reason; out = None; number = overtaken_number c }) ≡ true → ⊥
    overtaken_wants w = cc (second_is _ false _ _ _ w)

-- ---- whoever is asked last

unasked_quiet : (o : Option Heard) → is_none o ≡ true → is_some o ≡ false
unasked_quiet None e = refl
unasked_quiet (Some h) e = absurd (cc (e))

some_quiet : (qs : List Party) → 0 < length qs → list_all is_unasked qs ≡ true → list_all has_answered qs ≡ false
some_quiet [] some e = absurd (omega (arith, some))
some_quiet (q ∷ qs) some e = rw (unasked_quiet q.ballot (and_left (is_unasked q) (list_all is_unasked qs) e)) refl

some_behind : (n : ℕ) (ps : List Party) → n < length ps → 0 < length (drop n ps)
some_behind zero ps within = within
some_behind (suc n) [] within = absurd (omega (arith, within))
some_behind (suc n) (p ∷ ps) within = some_behind n ps (omega (arith, within))

and_no : (a : Bool) → (a && false) ≡ false
and_no true = refl
and_no false = refl

quiet_behind : (n : ℕ) (ps : List Party) → n + 1 < length ps → list_all is_unasked (drop (n + 1) ps) ≡ true → others_have_answered n ps ≡ false
unfolding others_have_answered
quiet_behind n ps within unasked = rw (some_quiet (drop (n + 1) ps) (some_behind (n + 1) ps within) unasked) (and_no (list_all has_answered (take n ps)))

none_behind : (n : ℕ) (ps : List Party) → length ps ≤ n + 1 → list_all has_consented (take n ps) ≡ true → others_have_answered n ps ≡ true
unfolding others_have_answered
none_behind n ps within consented = rw (all_answered (take n ps) consented, sym (drop_none (n + 1) ps within)) refl

-- it is the last one: those in front have consented, and behind nobody was asked
last_by : (n : ℕ) (ps : List Party) (last : Bool) → n < length ps → list_all has_consented (take n ps) ≡ true → list_all is_unasked (drop (suc n) ps) ≡ true
    → (n + 1 == length ps) ≡ last → last ≡ others_have_answered n ps
last_by n ps true within consented unasked is = sym (none_behind n ps (grind (arith, nat_tests, is)) consented)
last_by n ps false within consented unasked is =
    let next : suc n ≡ n + 1 = omega arith in
    sym (quiet_behind n ps (grind (arith, nat_tests, is, within)) (subst (λ (i : ℕ). list_all is_unasked (drop i ps) ≡ true) next unasked))

pub last_is_asked : (n : ℕ) (ps : List Party) → n < length ps → list_all has_consented (take n ps) ≡ true → list_all is_unasked (drop (suc n) ps) ≡ true
    → (n + 1 == length ps) ≡ others_have_answered n ps
last_is_asked n ps within consented unasked = last_by n ps (n + 1 == length ps) within consented unasked refl

-- a word that is out and asks goes to the one behind those that have consented
asked_place : (o : Option Errand) (e : Errand) (n : ℕ) → o ≡ Some e → e.stage ≡ stages.Asking → IsAskedAt o n → n ≡ e.place
asked_place o e n is asks at = sym (subst (λ (s : Stage). AsksAt s e.place n) asks (subst (λ (x : Option Errand). IsAskedAt x n) is at))

pub in_front : (o : Option Errand) (e : Errand) (n : ℕ) (ps : List Party) → o ≡ Some e → e.stage ≡ stages.Asking → IsAskedAt o n
    → list_all has_consented (take n ps) ≡ true → list_all has_consented (take e.place ps) ≡ true
in_front o e n ps is asks at all = subst (λ (i : ℕ). list_all has_consented (take i ps) ≡ true) (asked_place o e n is asks at) all

pub not_behind : (o : Option Errand) (e : Errand) (n : ℕ) (ps : List Party) → o ≡ Some e → e.stage ≡ stages.Asking → IsAskedAt o n
    → list_all is_unasked (drop (suc n) ps) ≡ true → list_all is_unasked (drop (suc e.place) ps) ≡ true
not_behind o e n ps is asks at all = subst (λ (i : ℕ). list_all is_unasked (drop (suc i) ps) ≡ true) (asked_place o e n is asks at) all
