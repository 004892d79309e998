-- The first so many have consented, so a look begins behind them.
use Rattle.std.proofs.Common.{◌≡◌, refl, ℕ, zero, suc, ◌+◌, ◌<◌, ◌≤◌, List, [], ◌∷◌, ◌++◌, length, get_or, map, take, drop, slice_set, find, position, Option, Some, None, ap, sym, subst, ◌∙◌, ◌||◌, is_none, not, Bool, true, false, if◌then◌else◌, arith}
use Rattle.std.specs.List.{slice_get, list_any, list_all}
use Rattle.std.specs.Option.{option_map, option_map_or}
use Rattle.std.proofs.lemmas.List.{length-map}
use Rattle.std.proofs.lemmas.List.Quantifiers.{position-Some}
use Rattle.std.proofs.lemmas.Option.{same_Some}
use Rattle.ots_model.specs.declared.completion.Heard.{Heard}
use Rattle.ots_model.specs.Numbered.{Outcome}
use Rattle.ots_model.specs.declared.completion.Outcome.TheVariants as outcomes
use Rattle.ots_model.specs.declared.tree.Reason.{Reason}
use Rattle.two_phase.specs.Course.{Course, decides_alone, outcome, first_refuser, by_refusal, by_votes, errand, heard_at, next_asked}
use Rattle.resource_votes.specs.declared.registration.Registration.{Registration}
use Rattle.two_phase.specs.CourseInside.{answer_at, ConsentedBefore, passed, AsksAt}
use Rattle.two_phase.specs.Parties.{party_of, consents, has_consented, has_refused, is_unasked, reason_of}
use Rattle.two_phase.specs.declared.party.Party.{Party}
use Rattle.two_phase.specs.declared.party.Stage.{Stage}
use Rattle.two_phase.specs.declared.party.Stage.TheVariants as stages
use Rattle.two_phase.specs.declared.party.Errand.{Errand}
use Rattle.two_phase.proofs.Answered.{opened}
use Rattle.two_phase.proofs.Opened.{nobody, errand_open}
use Rattle.two_phase.proofs.Overtaken.{overtaken_ends}
use Rattle.two_phase.proofs.Stays.{alike_all}
use Rattle.two_phase.proofs.Behind.{front, rest, found_behind, found_within, set_all}
use Rattle.two_phase.proofs.Rests.{and_left, and_right, one_alone, votes_is, Says, errand_tells}

-- ---- what stands in front plays no part

consent_asked : (o : Option Heard) → option_map_or consents o false ≡ true → is_none o ≡ false
consent_asked None e = absurd (cc (e))
consent_asked (Some h) e = refl

consent_kept : (o : Option Heard) → option_map_or consents o false ≡ true → option_map_or (λ h. not (consents h)) o false ≡ false
consent_kept None e = absurd (cc (e))
consent_kept (Some h) e = ap not e

unasked_kept : (o : Option Heard) → is_none o ≡ true → option_map_or (λ h. not (consents h)) o false ≡ false
unasked_kept None e = refl
unasked_kept (Some h) e = absurd (cc (e))

none_refused : (ps : List Party) → list_all is_unasked ps ≡ true → find has_refused ps ≡ None
none_refused [] all = refl
none_refused (p ∷ ps) all =
    rw (unasked_kept p.ballot (and_left (is_unasked p) (list_all is_unasked ps) all)) (none_refused ps (and_right (is_unasked p) (list_all is_unasked ps) all))

-- only the first behind them may have refused
pub refuser_at : (n : ℕ) (ps : List Party) (p : Party) → slice_get ps n ≡ Some p → list_all has_consented (take n ps) ≡ true
    → list_all is_unasked (drop (suc n) ps) ≡ true → find has_refused ps ≡ (if has_refused p then Some p else None)
refuser_at n [] p at all unasked = absurd (cc (at))
refuser_at zero (q ∷ ps) p at all unasked =
    subst (λ x. find has_refused (q ∷ ps) ≡ (if has_refused x then Some x else None)) (same_Some q p at)
    (ap (λ o. if has_refused q then Some q else o) (none_refused ps unasked))
refuser_at (suc n) (q ∷ ps) p at all unasked =
    rw (consent_kept q.ballot (front has_consented q n ps all)) (refuser_at n ps p at (rest has_consented q n ps all) unasked)

pub no_refuser_at : (n : ℕ) (ps : List Party) → slice_get ps n ≡ None → list_all has_consented (take n ps) ≡ true → find has_refused ps ≡ None
no_refuser_at n [] at all = refl
no_refuser_at zero (q ∷ ps) at all = absurd (cc (at))
no_refuser_at (suc n) (q ∷ ps) at all =
    rw (consent_kept q.ballot (front has_consented q n ps all)) (no_refuser_at n ps at (rest has_consented q n ps all))

pub all_behind : (n : ℕ) (ps : List Party) → list_all has_consented (take n ps) ≡ true → list_all has_consented (drop n ps) ≡ list_all has_consented ps
all_behind zero ps all = refl
all_behind (suc n) [] all = refl
all_behind (suc n) (p ∷ ps) all = rw (front has_consented p n ps all) (all_behind n ps (rest has_consented p n ps all))

pub asked_behind : (n : ℕ) (ps : List Party) → list_all has_consented (take n ps) ≡ true
    → position is_unasked ps ≡ option_map (λ i. n + i) (position is_unasked (drop n ps))
asked_behind n ps all = found_behind has_consented is_unasked (λ p e. consent_asked p.ballot e) n ps all

pub asked_within : (n : ℕ) (ps : List Party) (i : ℕ) (d : Party) → position is_unasked (drop n ps) ≡ Some i → n + i < length ps
asked_within n ps i d is = found_within is_unasked n ps i d is

-- ---- an answer leaves them so

stays_so : (stage : Stage) (h : Heard) (x : Party) → answer_at stage x ≡ None → has_consented x ≡ true → has_consented (heard_at stage h x) ≡ true
stays_so stages.Asking h x quiet so = let never : false ≡ true = sym (ap (λ o. option_map_or consents o false) quiet) ∙ so in absurd (cc (never))
stays_so stages.Telling h x quiet so = so
stays_so stages.Forgetting h x quiet so = so

pub heard_consented : (n : ℕ) (ps : List Party) (e : Errand) (h : Heard) (x : Party) → slice_get ps e.place ≡ Some x → answer_at e.stage x ≡ None
    → list_all has_consented (take n ps) ≡ true → list_all has_consented (take n (slice_set ps e.place (heard_at e.stage h x))) ≡ true
heard_consented n ps e h x at quiet all = set_all has_consented n ps e.place x (heard_at e.stage h x) at (stays_so e.stage h x quiet) all

-- so it leaves those unasked that come behind the one that it asked
set_before : (f : Party → Bool) (n : ℕ) (ps : List Party) (x y : Party) → slice_get ps n ≡ Some x → list_all f (drop (suc n) (slice_set ps n y)) ≡ list_all f (drop (suc n) ps)
set_before f n [] x y at = absurd (cc (at))
set_before f zero (p ∷ ps) x y at = refl
set_before f (suc n) (p ∷ ps) x y at = set_before f n ps x y at

set_alike : (f : Party → Bool) (n : ℕ) (ps : List Party) (i : ℕ) (x y : Party) → slice_get ps i ≡ Some x → f y ≡ f x
    → list_all f (drop n (slice_set ps i y)) ≡ list_all f (drop n ps)
set_alike f n [] i x y at e = absurd (cc (at))
set_alike f zero (p ∷ ps) i x y at e = alike_all f (p ∷ ps) i x y at e
set_alike f (suc n) (p ∷ ps) zero x y at e = refl
set_alike f (suc n) (p ∷ ps) (suc i) x y at e = set_alike f n ps i x y at e

heard_by_stage : (n : ℕ) (ps : List Party) (stage : Stage) (place : ℕ) (h : Heard) (x : Party) → slice_get ps place ≡ Some x → AsksAt stage place n
    → list_all is_unasked (drop (suc n) (slice_set ps place (heard_at stage h x))) ≡ list_all is_unasked (drop (suc n) ps)
heard_by_stage n ps stages.Asking place h x at is =
    rw is (set_before is_unasked n ps x (record x { ballot = Some h }) (subst (λ i. slice_get ps i ≡ Some x) is at))
heard_by_stage n ps stages.Telling place h x at is = set_alike is_unasked (suc n) ps place x (record x { told = Some h }) at refl
heard_by_stage n ps stages.Forgetting place h x at is = set_alike is_unasked (suc n) ps place x (record x { forgot = Some h }) at refl

pub heard_unasked : (n : ℕ) (ps : List Party) (e : Errand) (h : Heard) (x : Party) → slice_get ps e.place ≡ Some x → AsksAt e.stage e.place n
    → list_all is_unasked (drop (suc n) ps) ≡ true → list_all is_unasked (drop (suc n) (slice_set ps e.place (heard_at e.stage h x))) ≡ true
heard_unasked n ps e h x at is all = heard_by_stage n ps e.stage e.place h x at is ∙ all

-- ---- whoever is asked comes behind those that have consented

none_before : (f : Party → Bool) (n : ℕ) (ps : List Party) (d : Party) → n ≤ length ps → ((k : ℕ) → k < n → f (get_or ps k d) ≡ false)
    → list_any f (take n ps) ≡ false
none_before f zero ps d few none = refl
none_before f (suc n) [] d few none = absurd (omega (arith, few))
none_before f (suc n) (p ∷ ps) d few none =
    rw (none 0 (omega arith), none_before f n ps d (omega (arith, few)) (λ k h. none (suc k) (omega (arith, h)))) refl

none_found : (f : Party → Bool) (ps : List Party) → find f ps ≡ None → (n : ℕ) → list_any f (take n ps) ≡ false
none_found f ps none zero = refl
none_found f [] none (suc n) = refl
none_found f (p ∷ ps) none (suc n) = by_head (λ h. none_found f ps h n) (f p) refl none
  where
    by_head : (find f ps ≡ None → list_any f (take n ps) ≡ false) → (b : Bool) → f p ≡ b → (if b then Some p else find f ps) ≡ None
        → list_any f (take (suc n) (p ∷ ps)) ≡ false
    by_head behind true is h = absurd (cc (h))
    by_head behind false is h = rw (is, behind h) refl

one_consents : (o : Option Heard) → is_none o ≡ false → option_map_or (λ h. not (consents h)) o false ≡ false → option_map_or consents o false ≡ true
one_consents None asked kept = absurd (cc (asked))
one_consents (Some h) asked kept = by_vote (consents h) kept
  where
    by_vote : (b : Bool) → not b ≡ false → b ≡ true
    by_vote true e = refl
    by_vote false e = absurd (cc (e))

or_left : (a b : Bool) → (a || b) ≡ false → a ≡ false
or_left true b e = absurd (cc (e))
or_left false b e = refl

or_right : (a b : Bool) → (a || b) ≡ false → b ≡ false
or_right true b e = absurd (cc (e))
or_right false b e = e

all_consents : (qs : List Party) → list_any is_unasked qs ≡ false → list_any has_refused qs ≡ false → list_all has_consented qs ≡ true
all_consents [] asked kept = refl
all_consents (q ∷ qs) asked kept =
    rw (
      one_consents q.ballot (or_left (is_unasked q) (list_any is_unasked qs) asked) (or_left (has_refused q) (list_any has_refused qs) kept),
      all_consents qs (or_right (is_unasked q) (list_any is_unasked qs) asked) (or_right (has_refused q) (list_any has_refused qs) kept),
    ) refl

find_passes : (f : Party → Bool) (ps : List Party) (p : Party) → find f ps ≡ Some p → f p ≡ true
find_passes f [] p is = absurd (cc (is))
find_passes f (x ∷ xs) p is = by_head (λ h. find_passes f xs p h) (f x) refl is
  where
    by_head : (find f xs ≡ Some p → f p ≡ true) → (b : Bool) → f x ≡ b → (if b then Some x else find f xs) ≡ Some p → f p ≡ true
    by_head behind true first h = ap f (sym (same_Some x p h)) ∙ first
    by_head behind false first h = behind h

-- while the outcome is open nobody has refused
refusal_known : (g : ℕ) (o : Option Heard) (r : ℕ → Heard → Outcome) → option_map_or (λ h. not (consents h)) o false ≡ true → option_map (r g) o ≡ None → ⊥
refusal_known g None r refused none = cc (refused)
refusal_known g (Some h) r refused none = cc (none)

no_refuser : (ps : List Party) (o : Option Party) (other : Option Outcome) → find has_refused ps ≡ o → ◌≡◌ {A = Option Outcome} (elim o [ Some p ↦ by_refusal p | None ↦ other ]) None → ◌≡◌ {A = Option Party} o None
no_refuser ps None other is quiet = refl
no_refuser ps (Some p) other is quiet = absurd (refusal_known p.index p.ballot (λ g h. outcomes.Rollback (reason_of g h)) (find_passes has_refused ps p is) quiet)

votes_open : (c : Course) → by_votes c ≡ None → find has_refused c.parties ≡ None
unfolding first_refuser
votes_open c quiet = no_refuser c.parties (find has_refused c.parties) _ refl quiet

asks_behind : (c : Course) (place : ℕ) → next_asked c.parties ≡ Some place → find has_refused c.parties ≡ None → list_all has_consented (take place c.parties) ≡ true
unfolding next_asked
asks_behind c place is none =
    let at = position-Some is_unasked c.parties place nobody is in
    all_consents (take place c.parties) (none_before is_unasked place c.parties nobody (omega (arith, at.0)) at.2) (none_found has_refused c.parties none place)

asks_first : (c : Course) (place : ℕ) → next_asked c.parties ≡ Some place → length c.parties ≡ 1 → list_all has_consented (take place c.parties) ≡ true
unfolding next_asked
asks_first c place is one =
    let at = position-Some is_unasked c.parties place nobody is in
    let zero_is : 0 ≡ place = omega (arith, at.0, one) in
    subst (λ n. list_all has_consented (take n c.parties) ≡ true) zero_is refl

asks_by : (c : Course) (place : ℕ) → next_asked c.parties ≡ Some place → outcome c ≡ None → c.overtaken ≡ None → (b : Bool) → decides_alone c ≡ b
    → list_all has_consented (take place c.parties) ≡ true
asks_by c place is quiet free true alone = asks_first c place is (one_alone c alone)
asks_by c place is quiet free false alone = asks_behind c place is (votes_open c (sym (votes_is c free alone) ∙ quiet))

asks_consented : (c : Course) (place : ℕ) → next_asked c.parties ≡ Some place → outcome c ≡ None → (o : Option Reason) → c.overtaken ≡ o
    → list_all has_consented (take place c.parties) ≡ true
asks_consented c place is quiet None free = asks_by c place is quiet free (decides_alone c) refl
asks_consented c place is quiet (Some r) over = let never : None ≡ Some (outcomes.Rollback r) = sym quiet ∙ overtaken_ends c r over in absurd (cc (never))

by_stage : (c : Course) (stage : Stage) (place : ℕ) (p : Party) → Says c stage place p → ConsentedBefore stage place c.parties
by_stage c stages.Asking place p says = asks_consented c place says.first says.undecided c.overtaken refl
by_stage c stages.Telling place p says = tt
by_stage c stages.Forgetting place p says = tt

pub errand_consented : (c : Course) (e : Errand) → errand c ≡ Some e → ConsentedBefore e.stage e.place c.parties
errand_consented c e is =
    let o = opened c.parties e (slice_get c.parties e.place) refl (errand_open c e is) in
    by_stage c e.stage e.place o.0 (errand_tells c e is o.0 o.1)

-- a word that goes out is behind them
pub passed_consented : (stage : Stage) (place n : ℕ) (ps : List Party) → ConsentedBefore stage place ps → list_all has_consented (take n ps) ≡ true
    → list_all has_consented (take (passed stage place n) ps) ≡ true
passed_consented stages.Asking place n ps before all = before
passed_consented stages.Telling place n ps before all = all
passed_consented stages.Forgetting place n ps before all = all

-- then nobody was asked behind it
later_all : (f : Party → Bool) (n m : ℕ) (ps : List Party) → n ≤ m → list_all f (drop n ps) ≡ true → list_all f (drop m ps) ≡ true
later_all f zero zero ps few all = all
later_all f (suc n) zero ps few all = absurd (omega (arith, few))
later_all f zero (suc m) [] few all = refl
later_all f zero (suc m) (p ∷ ps) few all = later_all f zero m ps (omega arith) (and_right (f p) (list_all f ps) all)
later_all f (suc n) (suc m) [] few all = refl
later_all f (suc n) (suc m) (p ∷ ps) few all = later_all f n m ps (omega (arith, few)) all

comes_behind : (n place : ℕ) (ps : List Party) (x : Party) → slice_get ps place ≡ Some x → has_consented x ≡ false → list_all has_consented (take n ps) ≡ true → n ≤ place
comes_behind zero place ps x at silent all = omega arith
comes_behind (suc n) place [] x at silent all = absurd (cc (at))
comes_behind (suc n) zero (p ∷ ps) x at silent all =
    let never : false ≡ true = sym silent ∙ ap has_consented (sym (same_Some p x at)) ∙ front has_consented p n ps all in absurd (cc (never))
comes_behind (suc n) (suc place) (p ∷ ps) x at silent all =
    let k = comes_behind n place ps x at silent (rest has_consented p n ps all) in omega (arith, k)

pub passed_unasked : (stage : Stage) (place n : ℕ) (ps : List Party) (x : Party) → slice_get ps place ≡ Some x → answer_at stage x ≡ None
    → list_all has_consented (take n ps) ≡ true → list_all is_unasked (drop (suc n) ps) ≡ true
    → list_all is_unasked (drop (suc (passed stage place n)) ps) ≡ true
passed_unasked stages.Asking place n ps x at quiet all unasked =
    let few = comes_behind n place ps x at (ap (λ o. option_map_or consents o false) quiet) all in
    later_all is_unasked (suc n) (suc place) ps (omega (arith, few)) unasked
passed_unasked stages.Telling place n ps x at quiet all unasked = unasked
passed_unasked stages.Forgetting place n ps x at quiet all unasked = unasked

pub passed_at : (stage : Stage) (place n : ℕ) → AsksAt stage place (passed stage place n)
passed_at stages.Asking place n = refl
passed_at stages.Telling place n = tt
passed_at stages.Forgetting place n = tt

-- at first nobody was asked
all_unasked : (rs : List Registration) → list_all is_unasked (map party_of rs) ≡ true
all_unasked [] = refl
all_unasked (r ∷ rs) = all_unasked rs

begun_unasked : (rs : List Registration) → list_all is_unasked (drop 1 (map party_of rs)) ≡ true
begun_unasked rs = later_all is_unasked 0 1 (map party_of rs) (omega arith) (all_unasked rs)

pub entered_unasked : (rs : List Registration) (before now : List Party) → now ≡ before ++ map party_of rs → before ≡ [] → list_all is_unasked (drop 1 now) ≡ true
entered_unasked rs before now is none = rw (is, none) (begun_unasked rs)

pub entered_length : (rs : List Registration) (before now : List Party) → now ≡ before ++ map party_of rs → before ≡ [] → length now ≡ length rs
entered_length rs before now is none = rw (is, none) (length-map rs party_of)
