-- An outcome that is fixed stays.
use Rattle.std.proofs.Common.{◌≡◌, refl, ℕ, zero, suc, List, [], ◌∷◌, slice_set, Option, Some, None, ap, sym, subst, ◌∙◌, ◌&&◌, is_none, is_some, not, Bool, true, false, if◌then◌else◌, find}
use Rattle.std.specs.List.{slice_get, list_any, list_all}
use Rattle.std.specs.Option.{option_map, option_map_or}
use Rattle.std.proofs.lemmas.Option.{same_Some}
use Rattle.std.proofs.lemmas.List.{length-set}
use Rattle.ots_model.specs.declared.completion.Heard.{Heard}
use Rattle.ots_model.specs.declared.completion.CallNumber.{CallNumber}
use Rattle.ots_model.specs.declared.completion.Ground.TheVariants.{Nobody}
use Rattle.ots_model.specs.declared.completion.Stood.{Stood}
use Rattle.ots_model.specs.declared.completion.Stood.TheVariants as answers
use Rattle.ots_model.specs.Numbered.{Outcome}
use Rattle.ots_model.specs.declared.completion.Outcome.TheVariants as outcomes
use Rattle.ots_model.specs.declared.tree.Reason.{Reason}
use Rattle.two_phase.specs.Course.{same_number}
use Rattle.two_phase.specs.Parties.{consents}
use Rattle.two_phase.specs.Course.{Course, decides_alone, all_consent, some_commit, first_refuser, by_refusal, by_record, by_one, outcome, errand, after_next, answered, heard_at, wants_decision, after_decided, is_unsure, is_doubtful, after_reread, is_outside, may_roll_back, after_rollback}
use Rattle.two_phase.specs.CourseInside.{IsOpen, answer_at}
use Rattle.two_phase.specs.LawsOfAnswers.{WaitsForAnswer}
use Rattle.two_phase.specs.LawsOfReached.{TreeBecomes, IsReached}
use Rattle.two_phase.specs.LawsOfReached.TreeBecomes.{by_word, by_answer, by_record as by_stood, by_reread as by_found, by_rollback}
use Rattle.two_phase.specs.LawsOfReached.IsReached.{begins, rolls_back, goes_on}
use Rattle.two_phase.specs.Parties.{has_consented, has_refused, has_voted_commit}
use Rattle.two_phase.specs.declared.party.Party.{Party}
use Rattle.two_phase.specs.declared.party.Stage.{Stage}
use Rattle.two_phase.specs.declared.party.Stage.TheVariants as stages
use Rattle.two_phase.specs.declared.party.Errand.{Errand}
use Rattle.two_phase.proofs.Answered.{opened, heard_is}
use Rattle.two_phase.proofs.Opened.{errand_open}
use Rattle.two_phase.proofs.Rests.{and_right, Says, errand_tells}

-- the outcome, by what it follows from
abbrev value : Option Reason → Bool → Option Outcome → Option (Option Outcome) → Bool → Bool → Option Outcome → Option Outcome
value (Some reason) alone one refusal all some rec = Some (outcomes.Rollback reason)
value None true one refusal all some rec = one
value None false one (Some x) all some rec = x
value None false one None false some rec = None
value None false one None true true rec = rec
value None false one None true false rec = Some (outcomes.Commit Nobody)

valued_votes : (r : Option Party) (all some : Bool) (rec : Option Outcome) (one : Option Outcome)
    → elim r [ Some p ↦ by_refusal p | None ↦ if not all then None else if some then rec else Some (outcomes.Commit Nobody) ]
    ≡ value None false one (option_map by_refusal r) all some rec
valued_votes (Some p) all some rec one = refl
valued_votes None false some rec one = refl
valued_votes None true true rec one = refl
valued_votes None true false rec one = refl

valued_by : (o : Option Reason) (alone : Bool) (one : Option Outcome) (r : Option Party) (all some : Bool) (rec : Option Outcome)
    → elim o [
      | Some reason ↦ Some (outcomes.Rollback reason)
      | None ↦ if alone then one
          else elim r [ Some p ↦ by_refusal p | None ↦ if not all then None else if some then rec else Some (outcomes.Commit Nobody) ]
    ]
    ≡ value o alone one (option_map by_refusal r) all some rec
valued_by (Some reason) alone one r all some rec = refl
valued_by None true one r all some rec = refl
valued_by None false one r all some rec = valued_votes r all some rec one

value_of : Course → Option Outcome
value_of c = value c.overtaken (decides_alone c) (by_one (slice_get c.parties 0)) (option_map by_refusal (first_refuser c.parties)) (all_consent c) (some_commit c) (by_record c.stood c.reread)

valued : (c : Course) → outcome c ≡ value_of c
unfolding outcome value_of
valued c = valued_by c.overtaken (decides_alone c) (by_one (slice_get c.parties 0)) (first_refuser c.parties) (all_consent c) (some_commit c) (by_record c.stood c.reread)

-- a record that is told where none was known changes no outcome that is fixed
rec_stays : (o : Option Reason) (alone : Bool) (one : Option Outcome) (r : Option (Option Outcome)) (all some : Bool) (rec : Option Outcome) (fixed : Outcome)
    → value o alone one r all some None ≡ Some fixed → value o alone one r all some rec ≡ Some fixed
rec_stays (Some x) alone one r all some rec fixed e = e
rec_stays None true one r all some rec fixed e = e
rec_stays None false one (Some x) all some rec fixed e = e
rec_stays None false one None false some rec fixed e = absurd (cc (e))
rec_stays None false one None true true rec fixed e = absurd (cc (e))
rec_stays None false one None true false rec fixed e = e

-- while one hasn't answered, the record bears on nothing
rec_nothing : (o : Option Reason) (alone : Bool) (one : Option Outcome) (r : Option (Option Outcome)) (all some : Bool) (rec other : Option Outcome)
    → all ≡ false → value o alone one r all some rec ≡ value o alone one r all some other
rec_nothing (Some x) alone one r all some rec other e = refl
rec_nothing None true one r all some rec other e = refl
rec_nothing None false one (Some x) all some rec other e = refl
rec_nothing None false one None false some rec other e = refl
rec_nothing None false one None true some rec other e = absurd (cc (e))

-- a participant in a list, which is set to one that is alike
pub alike_any : (f : Party → Bool) (ps : List Party) (i : ℕ) (x y : Party) → slice_get ps i ≡ Some x → f y ≡ f x → list_any f (slice_set ps i y) ≡ list_any f ps
alike_any f [] i x y at e = absurd (cc (at))
alike_any f (p ∷ ps) zero x y at e = rw (e, same_Some p x at) refl
alike_any f (p ∷ ps) (suc i) x y at e = rw (alike_any f ps i x y at e) refl

pub alike_all : (f : Party → Bool) (ps : List Party) (i : ℕ) (x y : Party) → slice_get ps i ≡ Some x → f y ≡ f x → list_all f (slice_set ps i y) ≡ list_all f ps
alike_all f [] i x y at e = absurd (cc (at))
alike_all f (p ∷ ps) zero x y at e = rw (e, same_Some p x at) refl
alike_all f (p ∷ ps) (suc i) x y at e = rw (alike_all f ps i x y at e) refl

-- what an answer to the outcome or to forget leaves as it is
pub record Alike (x y : Party) : Type 0 where
  pub consents : has_consented y ≡ has_consented x
  pub refuses : has_refused y ≡ has_refused x
  pub votes : has_voted_commit y ≡ has_voted_commit x
  pub refusal : by_refusal y ≡ by_refusal x
  pub alone : by_one (Some y) ≡ by_one (Some x)

pub alike_of : (stage : Stage) (h : Heard) (x : Party) → (stage ≡ stages.Asking → ⊥) → Alike x (heard_at stage h x)
alike_of stages.Asking h x never = absurd (never refl)
alike_of stages.Telling h x never = record { consents = refl; refuses = refl; votes = refl; refusal = refl; alone = refl }
alike_of stages.Forgetting h x never = record { consents = refl; refuses = refl; votes = refl; refusal = refl; alone = refl }

first_alike : (b : Bool) (x y : Party) (rest : Option Party) → by_refusal y ≡ by_refusal x
    → option_map by_refusal (if b then Some y else rest) ≡ option_map by_refusal (if b then Some x else rest)
first_alike true x y rest e = ap (λ o. Some o) e
first_alike false x y rest e = refl

alike_find : (ps : List Party) (i : ℕ) (x y : Party) → slice_get ps i ≡ Some x → Alike x y
    → option_map by_refusal (find has_refused (slice_set ps i y)) ≡ option_map by_refusal (find has_refused ps)
alike_find [] i x y at a = absurd (cc (at))
alike_find (p ∷ ps) zero x y at a = rw (same_Some p x at, a.refuses) (first_alike (has_refused x) x y (find has_refused ps) a.refusal)
alike_find (p ∷ ps) (suc i) x y at a = by_head (has_refused p) (alike_find ps i x y at a)
  where
    by_head : (b : Bool) → option_map by_refusal (find has_refused (slice_set ps i y)) ≡ option_map by_refusal (find has_refused ps)
        → option_map by_refusal (if b then Some p else find has_refused (slice_set ps i y)) ≡ option_map by_refusal (if b then Some p else find has_refused ps)
    by_head true e = refl
    by_head false e = e

alike_one : (ps : List Party) (i : ℕ) (x y : Party) → slice_get ps i ≡ Some x → Alike x y → by_one (slice_get (slice_set ps i y) 0) ≡ by_one (slice_get ps 0)
alike_one [] i x y at a = absurd (cc (at))
alike_one (p ∷ ps) zero x y at a = a.alone ∙ ap (λ q. by_one (Some q)) (sym (same_Some p x at))
alike_one (p ∷ ps) (suc i) x y at a = refl

-- an answer to the outcome or to forget changes no outcome
alike_value : (c : Course) (e : Errand) (h : Heard) (x : Party) → slice_get c.parties e.place ≡ Some x → (e.stage ≡ stages.Asking → ⊥)
    → value_of (answered h c e) ≡ value_of c
unfolding value_of first_refuser all_consent some_commit
alike_value c e h x at never =
    let a = alike_of e.stage h x never in
    let y = heard_at e.stage h x in
    rw (heard_is c.parties e h x at, length-set c.parties e.place y, alike_one c.parties e.place x y at a, alike_find c.parties e.place x y at a, alike_all has_consented c.parties e.place x y at a.consents, alike_any has_voted_commit c.parties e.place x y at a.votes) refl

pub if_case : (P : Course → Type 0) (b : Bool) (x c : Course) → (b ≡ true → P x) → P c → P (if b then x else c)
if_case P true x c f g = f refl
if_case P false x c f g = g

same_out : (c : Course) (o : Option Errand) → outcome (record c { out = o }) ≡ outcome c
unfolding outcome all_consent some_commit
same_out c o = refl

open_errand : (c : Course) (x : Option Errand) → errand c ≡ x → IsOpen c.parties x
open_errand c None is = tt
open_errand c (Some e) is = errand_open c e is

pub undecided : (c : Course) (e : Errand) → errand c ≡ Some e → e.stage ≡ stages.Asking → outcome c ≡ None
undecided c e is asks =
    let o = opened c.parties e (slice_get c.parties e.place) refl (errand_open c e is) in
    (subst (λ stage. Says c stage e.place o.0) asks (errand_tells c e is o.0 o.1)).undecided

goes_word : (c : Course) → WaitsForAnswer c → WaitsForAnswer (after_next c)
goes_word c g = if_case WaitsForAnswer (is_some c.out) c (record c { out = errand c }) (λ _. g) (record {
  unheard = open_errand c (errand c) refl;
  asking = λ e is asks. same_out c (errand c) ∙ undecided c e is asks;
})

-- one that hasn't answered has not consented
one_open : (ps : List Party) (i : ℕ) (x : Party) → slice_get ps i ≡ Some x → has_consented x ≡ false → list_all has_consented ps ≡ false
one_open [] i x at never = absurd (cc (at))
one_open (p ∷ ps) zero x at never = rw (same_Some p x at, never) refl
one_open (p ∷ ps) (suc i) x at never = rw (one_open ps i x at never) (and_false (has_consented p))
  where
    and_false : (b : Bool) → (b && false) ≡ false
    and_false true = refl
    and_false false = refl

not_all : (c : Course) (e : Errand) → WaitsForAnswer c → c.out ≡ Some e → e.stage ≡ stages.Asking → all_consent c ≡ false
unfolding all_consent
not_all c e g is asks =
    let o = opened c.parties e (slice_get c.parties e.place) refl (subst (IsOpen c.parties) is g.unheard) in
    let silent : o.0.ballot ≡ None = subst (λ stage. answer_at stage o.0 ≡ None) asks o.2 in
    one_open c.parties e.place o.0 o.1 (ap (λ b. option_map_or consents b false) silent)

goes_decided : (c : Course) (stood : Stood) → WaitsForAnswer c → WaitsForAnswer (after_decided stood c)
goes_decided c stood g = if_case WaitsForAnswer (wants_decision c) (record c { stood = Some stood }) c (λ wants. record {
  unheard = g.unheard;
  asking = λ e is asks. absurd (true_or_false (all_consent c) (wants_all (not (decides_alone c)) (is_none c.overtaken) (is_none c.stood) (all_consent c) (some_commit c) wants) (not_all c e g is asks));
}) g
  where
    true_or_false : (b : Bool) → b ≡ true → b ≡ false → ⊥
    true_or_false b t f = cc (t, f)

    wants_all : (a b d e f : Bool) → (a && b && d && e && f) ≡ true → e ≡ true
    wants_all true true true true true h = refl
    wants_all true true true true false h = refl
    wants_all true true true false f h = absurd (cc (h))
    wants_all true true false e f h = absurd (cc (h))
    wants_all true false d e f h = absurd (cc (h))
    wants_all false b d e f h = absurd (cc (h))

reread_value : (c : Course) (found : Option ℕ) → value_of (record c { reread = Some found }) ≡ value c.overtaken (decides_alone c) (by_one (slice_get c.parties 0)) (option_map by_refusal (first_refuser c.parties)) (all_consent c) (some_commit c) (by_record c.stood (Some found))
unfolding value_of all_consent some_commit
reread_value c found = refl

stood_value : (c : Course) (stood : Stood) → value_of (record c { stood = Some stood }) ≡ value c.overtaken (decides_alone c) (by_one (slice_get c.parties 0)) (option_map by_refusal (first_refuser c.parties)) (all_consent c) (some_commit c) (by_record (Some stood) c.reread)
unfolding value_of all_consent some_commit
stood_value c stood = refl

goes_reread : (c : Course) (found : Option ℕ) → WaitsForAnswer c → WaitsForAnswer (after_reread found c)
unfolding value_of
goes_reread c found g = if_case WaitsForAnswer (is_doubtful c) (record c { reread = Some found }) c (λ doubts. record {
  unheard = g.unheard;
  asking = λ e is asks.
      valued (record c { reread = Some found }) ∙ reread_value c found
      ∙ rec_nothing c.overtaken (decides_alone c) (by_one (slice_get c.parties 0)) (option_map by_refusal (first_refuser c.parties)) (all_consent c) (some_commit c) (by_record c.stood (Some found)) (by_record c.stood c.reread) (not_all c e g is asks)
      ∙ sym (valued c) ∙ g.asking e is asks;
}) g

nothing_out : (e : Errand) (A : Type 0) → None ≡ Some e → A
nothing_out e A h = absurd (cc (h))

goes_rollback : (c : Course) (reason : Reason) → WaitsForAnswer c → WaitsForAnswer (after_rollback reason c)
goes_rollback c reason g = if_case WaitsForAnswer (is_outside reason && may_roll_back c) _ c (λ may. record {
  unheard = tt;
  asking = λ e is asks. nothing_out e _ is;
}) g

goes_heard : (c : Course) (n : CallNumber) (h : Heard) → WaitsForAnswer c → (o : Option Errand) → WaitsForAnswer (elim o [ Some e ↦ if same_number n c.number then answered h c e else c | None ↦ c ])
goes_heard c n h g None = g
goes_heard c n h g (Some e) = if_case WaitsForAnswer (same_number n c.number) (answered h c e) c (λ _. record {
  unheard = tt;
  asking = λ x is asks. nothing_out x _ is;
}) g

pub goes_becomes : (c later : Course) → TreeBecomes c later → WaitsForAnswer c → WaitsForAnswer later
goes_becomes _ _ (by_word c) g = goes_word c g
goes_becomes _ _ (by_answer c n h) g = goes_heard c n h g c.out
goes_becomes _ _ (by_stood c stood) g = goes_decided c stood g
goes_becomes _ _ (by_found c found) g = goes_reread c found g
goes_becomes _ _ (by_rollback c reason) g = goes_rollback c reason g

pub goes : (c : Course) → IsReached c → WaitsForAnswer c
goes _ (begins participants asked first one_phase) = record { unheard = tt; asking = λ e is asks. nothing_out e _ is }
goes _ (rolls_back participants asked first one_phase reason) = record { unheard = tt; asking = λ e is asks. nothing_out e _ is }
goes _ (goes_on c later r b) = goes_becomes c later b (goes c r)

stays_heard : (c : Course) (fixed : Outcome) → WaitsForAnswer c → outcome c ≡ Some fixed → (n : CallNumber) (h : Heard) (o : Option Errand) → c.out ≡ o
    → outcome (elim o [ Some e ↦ if same_number n c.number then answered h c e else c | None ↦ c ]) ≡ Some fixed
stays_heard c fixed g is n h None out = is
stays_heard c fixed g is n h (Some e) out = if_case (λ x. outcome x ≡ Some fixed) (same_number n c.number) (answered h c e) c (λ _. heard_stays) is
  where
    not_asked : e.stage ≡ stages.Asking → ⊥
    not_asked asks = let never : None ≡ Some fixed = sym (g.asking e out asks) ∙ is in cc (never)

    heard_stays : outcome (answered h c e) ≡ Some fixed
    heard_stays =
        let o = opened c.parties e (slice_get c.parties e.place) refl (subst (IsOpen c.parties) out g.unheard) in
        valued (answered h c e) ∙ alike_value c e h o.0 o.1 not_asked ∙ sym (valued c) ∙ is

-- where nothing is known of the record
unknown_record : (s : Option Stood) (r : Option (Option ℕ)) → (is_unsure s && is_none r) ≡ true → by_record s r ≡ None
unknown_record None r h = absurd (cc (h))
unknown_record (Some (answers.Stands place)) r h = absurd (cc (h))
unknown_record (Some (answers.Full used need)) r h = absurd (cc (h))
unknown_record (Some (answers.Unsure why)) None h = refl
unknown_record (Some (answers.Unsure why)) (Some found) h = absurd (cc (h))

stays_known : (c : Course) (fixed : Outcome) (rec : Option Outcome) → by_record c.stood c.reread ≡ None → outcome c ≡ Some fixed
    → value c.overtaken (decides_alone c) (by_one (slice_get c.parties 0)) (option_map by_refusal (first_refuser c.parties)) (all_consent c) (some_commit c) rec ≡ Some fixed
unfolding value_of
stays_known c fixed rec none is =
    rec_stays c.overtaken (decides_alone c) (by_one (slice_get c.parties 0)) (option_map by_refusal (first_refuser c.parties)) (all_consent c) (some_commit c) rec fixed
    (subst (λ r. value c.overtaken (decides_alone c) (by_one (slice_get c.parties 0)) (option_map by_refusal (first_refuser c.parties)) (all_consent c) (some_commit c) r ≡ Some fixed) none (sym (valued c) ∙ is))

third_none : (a b : Bool) (s : Option Stood) (d e : Bool) → (a && b && is_none s && d && e) ≡ true → s ≡ None
third_none true true None d e h = refl
third_none true true (Some s) d e h = absurd (cc (h))
third_none true false s d e h = absurd (cc (h))
third_none false b s d e h = absurd (cc (h))

stays_decided : (c : Course) (fixed : Outcome) (stood : Stood) → outcome c ≡ Some fixed → outcome (after_decided stood c) ≡ Some fixed
stays_decided c fixed stood is = if_case (λ x. outcome x ≡ Some fixed) (wants_decision c) (record c { stood = Some stood }) c (λ wants.
    let none = third_none (not (decides_alone c)) (is_none c.overtaken) c.stood (all_consent c) (some_commit c) wants in
    valued (record c { stood = Some stood }) ∙ stood_value c stood
    ∙ stays_known c fixed (by_record (Some stood) c.reread) (ap (λ s. by_record s c.reread) none) is) is

stays_reread : (c : Course) (fixed : Outcome) (found : Option ℕ) → outcome c ≡ Some fixed → outcome (after_reread found c) ≡ Some fixed
stays_reread c fixed found is = if_case (λ x. outcome x ≡ Some fixed) (is_doubtful c) (record c { reread = Some found }) c (λ doubts.
    valued (record c { reread = Some found }) ∙ reread_value c found
    ∙ stays_known c fixed (by_record c.stood (Some found)) (unknown_record c.stood c.reread doubts) is) is

pub first_true : (a b d : Bool) → (a && b && d) ≡ true → a ≡ true
first_true true b d h = refl
first_true false b d h = absurd (cc (h))

stays_rollback : (c : Course) (fixed : Outcome) (reason : Reason) → outcome c ≡ Some fixed → outcome (after_rollback reason c) ≡ Some fixed
stays_rollback c fixed reason is = if_case (λ x. outcome x ≡ Some fixed) (is_outside reason && may_roll_back c) _ c (λ both.
    let may = and_right (is_outside reason) (may_roll_back c) both in
    let open_still : is_none (outcome c) ≡ true = first_true (is_none (outcome c)) _ _ may in
    let never : false ≡ true = ap is_none (sym is) ∙ open_still in
    absurd (cc (never))) is

stays_word : (c : Course) (fixed : Outcome) → outcome c ≡ Some fixed → outcome (after_next c) ≡ Some fixed
stays_word c fixed is = if_case (λ x. outcome x ≡ Some fixed) (is_some c.out) c (record c { out = errand c }) (λ _. is) (same_out c (errand c) ∙ is)

stays_by : (c later : Course) (fixed : Outcome) → TreeBecomes c later → WaitsForAnswer c → outcome c ≡ Some fixed → outcome later ≡ Some fixed
stays_by _ _ fixed (by_word c) g is = stays_word c fixed is
stays_by _ _ fixed (by_answer c n h) g is = stays_heard c fixed g is n h c.out refl
stays_by _ _ fixed (by_stood c stood) g is = stays_decided c fixed stood is
stays_by _ _ fixed (by_found c found) g is = stays_reread c fixed found is
stays_by _ _ fixed (by_rollback c reason) g is = stays_rollback c fixed reason is

pub outcome_stays : (c later : Course) (fixed : Outcome) → IsReached c → TreeBecomes c later → outcome c ≡ Some fixed → outcome later ≡ Some fixed
outcome_stays c later fixed r b is = stays_by c later fixed b (goes c r) is
