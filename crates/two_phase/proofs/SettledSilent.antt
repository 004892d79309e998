-- A completion that is settled has no word to send.
use Rattle.std.proofs.Common.{◌≡◌, ◌∙◌, refl, ap, sym, ℕ, ◌+◌, ◌&&◌, ◌||◌, Bool, true, false, not, cond, List, [], ◌∷◌, length, position, Option, Some, None, is_some, is_none, arith, if◌then◌else◌}
use Rattle.std.specs.Prelude.{nat_lt}
use Rattle.std.specs.List.{list_all, list_any, position_or_len, prefix_len}
use Rattle.std.specs.Option.{option_map_or, option_and_then}
use Rattle.std.proofs.lemmas.Bool.Decides.{nat_tests}
use Rattle.ots_model.specs.declared.completion.Heard.{Heard}
use Rattle.ots_model.specs.Numbered.{Outcome}
use Rattle.two_phase.specs.Course.{Course, decides_alone, errand, errand_at, forgetting, may_forget, next_forgetting, next_told, next_word, outcome, outward_of, telling, asking}
use Rattle.two_phase.specs.Parties.{has_raised, is_owed, is_through, is_told, is_unforgotten, is_untold, lets_go, completes}
use Rattle.two_phase.specs.Reports.{all_completed, all_through, is_settled, some_owed}
use Rattle.two_phase.specs.declared.party.Errand.{Errand}
use Rattle.two_phase.specs.declared.party.Party.{Party}
use Rattle.two_phase.specs.declared.party.Stage.TheVariants as words

left_of : (a b : Bool) → (a && b) ≡ true → a ≡ true
left_of true b e = refl
left_of false b e = absurd (cc (e))

right_of : (a b : Bool) → (a && b) ≡ true → b ≡ true
right_of true b e = e
right_of false b e = absurd (cc (e))

-- where no element passes a test, none is found
passed_all : (q : Party → Bool) (x : Party) (ps : List Party) → q x ≡ false → prefix_len (λ y. not (q y)) ps ≡ length ps
    → prefix_len (λ y. not (q y)) (x ∷ ps) ≡ length (x ∷ ps)
passed_all q x ps fails rest =
    ap (λ (b : Bool). cond (not b) (1 + prefix_len (λ y. not (q y)) ps) 0) fails ∙ (ap (λ (n : ℕ). 1 + n) rest ∙ omega arith)

none_passes : (p q : Party → Bool) (ps : List Party) → ((x : Party) → p x ≡ true → q x ≡ false) → list_all p ps ≡ true
    → prefix_len (λ y. not (q y)) ps ≡ length ps
none_passes p q [] says all = refl
none_passes p q (x ∷ ps) says all =
    passed_all q x ps (says x (left_of (p x) (list_all p ps) all)) (none_passes p q ps says (right_of (p x) (list_all p ps) all))

nowhere : (n count : ℕ) → n ≡ count → cond (nat_lt n count) (Some n) None ≡ None
nowhere n count is = grind (arith, nat_tests)

none_found : (p q : Party → Bool) (ps : List Party) → ((x : Party) → p x ≡ true → q x ≡ false) → list_all p ps ≡ true → position q ps ≡ None
none_found p q ps says all = nowhere (position_or_len q ps) (length ps) (none_passes p q ps says all)

-- one that is through is not to be told
through_by : (t d : Bool) (o : Option Heard) → (not t || option_map_or completes o false) ≡ true → (is_none o && t) ≡ false
through_by true d None h = absurd (cc (h))
through_by false d None h = refl
through_by t d (Some x) h = refl

through_is_told : (alone : Bool) (fixed : Outcome) (p : Party) → is_through alone fixed p ≡ true → is_untold alone fixed p ≡ false
through_is_told alone fixed p h = through_by (is_told alone fixed p) true p.told h

-- one that is owed no forget is not to be told it
owed_by : (o : Option Heard) (r : Bool) → not (r && not (option_map_or lets_go o false)) ≡ true → (is_none o && r) ≡ false
owed_by None true h = absurd (cc (h))
owed_by None false h = refl
owed_by (Some x) r h = refl

owed_is_forgotten : (p : Party) → not (is_owed words.Forgetting p) ≡ true → is_unforgotten p ≡ false
owed_is_forgotten p h = owed_by p.forgot (has_raised p) h

not_any : (a b : Bool) → not (a || b) ≡ true → (not a && not b) ≡ true
not_any true b h = h
not_any false b h = h

none_owed : (p : Party → Bool) (ps : List Party) → not (list_any p ps) ≡ true → list_all (λ x. not (p x)) ps ≡ true
none_owed p [] h = refl
none_owed p (x ∷ ps) h =
    let both = not_any (p x) (list_any p ps) h in
    ap (λ (b : Bool). b && list_all (λ y. not (p y)) ps) (left_of (not (p x)) (not (list_any p ps)) both)
    ∙ none_owed p ps (right_of (not (p x)) (not (list_any p ps)) both)

if_none : (b : Bool) (o : Option ℕ) → o ≡ None → (if b then errand_at words.Forgetting o else None) ≡ None
if_none true o h = ap (λ (x : Option ℕ). errand_at words.Forgetting x) h
if_none false o h = refl

forgets_nobody : (c : Course) (fixed : Outcome) → not (some_owed words.Forgetting c.parties) ≡ true → forgetting c fixed ≡ None
unfolding some_owed next_forgetting
forgets_nobody c fixed h =
    let none : next_forgetting c.parties ≡ None =
    none_found (λ p. not (is_owed words.Forgetting p)) is_unforgotten c.parties owed_is_forgotten (none_owed (is_owed words.Forgetting) c.parties h) in
    if_none (may_forget c fixed) (next_forgetting c.parties) none

tells_nobody : (c : Course) (fixed : Outcome) → all_through (decides_alone c) fixed c.parties ≡ true → not (some_owed words.Forgetting c.parties) ≡ true
    → telling c fixed ≡ None
unfolding all_through next_told
tells_nobody c fixed through owed =
    let none : next_told (decides_alone c) fixed c.parties ≡ None =
    none_found (is_through (decides_alone c) fixed) (is_untold (decides_alone c) fixed) c.parties (through_is_told (decides_alone c) fixed) through in
    ap (λ (o : Option ℕ). elim o [ Some place ↦ Some (record { stage = words.Telling; place = place }) | None ↦ forgetting c fixed ]) none
    ∙ forgets_nobody c fixed owed

no_errand : (c : Course) (o : Option Outcome) → outcome c ≡ o → is_settled c ≡ true → errand c ≡ None
unfolding errand
no_errand c None is settled =
    let wrong : false ≡ true =
    sym (ap (λ (o : Option Outcome). elim o [ Some fixed ↦ all_through (decides_alone c) fixed c.parties | None ↦ false ]) is)
    ∙ left_of (all_completed c) (not (some_owed words.Forgetting c.parties)) settled in
    absurd (cc (wrong))
no_errand c (Some fixed) is settled =
    ap (λ (o : Option Outcome). elim o [ Some x ↦ telling c x | None ↦ asking c ]) is
    ∙ tells_nobody c fixed
    (sym (ap (λ (o : Option Outcome). elim o [ Some x ↦ all_through (decides_alone c) x c.parties | None ↦ false ]) is)
    ∙ left_of (all_completed c) (not (some_owed words.Forgetting c.parties)) settled)
    (right_of (all_completed c) (not (some_owed words.Forgetting c.parties)) settled)

unless_out : (c : Course) (o : Option Errand) → errand c ≡ None → (if is_some o then None else option_and_then (outward_of c) (errand c)) ≡ None
unless_out c None h = ap (λ (e : Option Errand). option_and_then (outward_of c) e) h
unless_out c (Some x) h = refl

pub settled_is_silent : (c : Course) → is_settled c ≡ true → next_word c ≡ None
unfolding next_word
settled_is_silent c h = unless_out c c.out (no_errand c (outcome c) refl h)
