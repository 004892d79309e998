-- No word goes out to a participant twice.
use Rattle.std.proofs.Common.{◌≡◌, refl, ℕ, ◌≤◌, ◌==◌, zero, suc, List, [], ◌∷◌, map, slice_set, Option, Some, None, ap, sym, subst, ◌∙◌, ◌&&◌, is_none, is_some, Bool, true, false, if◌then◌else◌, ◌⊎◌, inl, inr, arith}
use Rattle.std.specs.List.{slice_get}
use Rattle.std.specs.Option.{option_map}
use Rattle.std.proofs.lemmas.Option.{same_Some, slice_get-map}
use Rattle.std.proofs.lemmas.List.Sums.{sum_by-cons}
use Rattle.ots_model.specs.declared.completion.Heard.{Heard}
use Rattle.ots_model.specs.declared.completion.CallNumber.{CallNumber}
use Rattle.ots_model.specs.declared.tree.Word.{Word}
use Rattle.ots_model.specs.declared.completion.Word.TheVariants as phases
use Rattle.ots_model.specs.declared.tree.Word.TheVariants as words
use Rattle.ots_model.specs.declared.tree.Outward.{Outward}
use Rattle.ots_model.specs.Numbered.{Outcome}
use Rattle.ots_model.specs.declared.completion.Outcome.TheVariants as outcomes
use Rattle.ots_model.specs.declared.tree.Reason.{Reason}
use Rattle.resource_votes.specs.History.{times}
use Rattle.two_phase.specs.Course.{same_number}
use Rattle.two_phase.specs.Course.{Course, decides_alone, outcome, outcome_word, first_word, errand, next_word, word_of, after_next, answered, heard_at, wants_decision, is_doubtful, is_outside, may_roll_back, after_rollback}
use Rattle.two_phase.specs.CourseInside.{IsOpen, OpenAt, answer_at}
use Rattle.two_phase.specs.LawsOfAnswers.{WaitsForAnswer}
use Rattle.two_phase.specs.LawsOfReached.{TreeBecomes, IsReached, TreeGoesOn, HaveOwnNumbers, numbers}
use Rattle.two_phase.specs.LawsOfReached.TreeBecomes.{by_word, by_answer, by_record as by_stood, by_reread as by_found, by_rollback}
use Rattle.two_phase.specs.LawsOfReached.IsReached.{goes_on}
use Rattle.two_phase.specs.LawsOfReached.TreeGoesOn.{still, further}
use Rattle.two_phase.specs.declared.party.Party.{Party}
use Rattle.two_phase.specs.declared.party.Stage.{Stage}
use Rattle.two_phase.specs.declared.party.Stage.TheVariants as stages
use Rattle.two_phase.specs.declared.party.Errand.{Errand}
use Rattle.two_phase.proofs.Answered.{opened, heard_is}
use Rattle.two_phase.proofs.Opened.{errand_open}
use Rattle.two_phase.proofs.OneWay.{Sent, sent, same_next}
use Rattle.two_phase.proofs.Overtaken.{overtaken_ends}
use Rattle.two_phase.proofs.Rests.{and_right, Says, errand_tells}
use Rattle.two_phase.proofs.Stays.{goes, if_case, outcome_stays, undecided, first_true}

-- the participant at this place has answered the word of this stage
record HasHeard (e : Errand) (ps : List Party) : Type 0 where
  party : Party
  heard : Heard
  there : slice_get ps e.place ≡ Some party
  answer : answer_at e.stage party ≡ Some heard

-- an answer to one word takes no other away
keeps_answer : (at : Stage) (now : Heard) (x : Party) → answer_at at x ≡ None → (stage : Stage) (h : Heard) → answer_at stage x ≡ Some h → answer_at stage (heard_at at now x) ≡ Some h
keeps_answer stages.Asking now x none stages.Asking h is = let never : None ≡ Some h = sym none ∙ is in absurd (cc (never))
keeps_answer stages.Asking now x none stages.Telling h is = is
keeps_answer stages.Asking now x none stages.Forgetting h is = is
keeps_answer stages.Telling now x none stages.Asking h is = is
keeps_answer stages.Telling now x none stages.Telling h is = let never : None ≡ Some h = sym none ∙ is in absurd (cc (never))
keeps_answer stages.Telling now x none stages.Forgetting h is = is
keeps_answer stages.Forgetting now x none stages.Asking h is = is
keeps_answer stages.Forgetting now x none stages.Telling h is = is
keeps_answer stages.Forgetting now x none stages.Forgetting h is = let never : None ≡ Some h = sym none ∙ is in absurd (cc (never))

-- a participant of a list in which one is set
set_at : (ps : List Party) (k : ℕ) (x y : Party) → slice_get ps k ≡ Some x → (i : ℕ) (p : Party) → slice_get ps i ≡ Some p
    → ((x ≡ p) × (slice_get (slice_set ps k y) i ≡ Some y)) ⊎ (slice_get (slice_set ps k y) i ≡ Some p)
set_at [] k x y at i p there = absurd (cc (at))
set_at (q ∷ ps) zero x y at zero p there = inl (same_Some x p (sym at ∙ there), refl)
set_at (q ∷ ps) zero x y at (suc i) p there = inr there
set_at (q ∷ ps) (suc k) x y at zero p there = inr there
set_at (q ∷ ps) (suc k) x y at (suc i) p there = set_at ps k x y at i p there

set_itself : (ps : List Party) (k : ℕ) (x y : Party) → slice_get ps k ≡ Some x → slice_get (slice_set ps k y) k ≡ Some y
set_itself [] k x y at = absurd (cc (at))
set_itself (p ∷ ps) zero x y at = refl
set_itself (p ∷ ps) (suc k) x y at = set_itself ps k x y at

answer_of : (stage : Stage) (h : Heard) (x : Party) → answer_at stage (heard_at stage h x) ≡ Some h
answer_of stages.Asking h x = refl
answer_of stages.Telling h x = refl
answer_of stages.Forgetting h x = refl

-- what was answered stays so
heard_stays : (c : Course) → WaitsForAnswer c → (now : Heard) (e : Errand) → c.out ≡ Some e → (f : Errand) → HasHeard f c.parties → HasHeard f (answered now c e).parties
heard_stays c g now e out f k =
    let o = opened c.parties e (slice_get c.parties e.place) refl (subst (IsOpen c.parties) out g.unheard) in
    let y = heard_at e.stage now o.0 in
    subst (HasHeard f) (sym (heard_is c.parties e now o.0 o.1)) (by_set o.0 o.2 y refl (set_at c.parties e.place o.0 y o.1 f.place k.party k.there))
  where
    by_set : (x : Party) → answer_at e.stage x ≡ None → (y : Party) → y ≡ heard_at e.stage now x
        → ((x ≡ k.party) × (slice_get (slice_set c.parties e.place y) f.place ≡ Some y)) ⊎ (slice_get (slice_set c.parties e.place y) f.place ≡ Some k.party)
        → HasHeard f (slice_set c.parties e.place y)
    by_set x none y is (inl same) = record {
      party = y;
      heard = k.heard;
      there = same.1;
      answer = ap (answer_at f.stage) is ∙ keeps_answer e.stage now x none f.stage k.heard (ap (answer_at f.stage) same.0 ∙ k.answer);
    }
    by_set x none y is (inr there) = record { party = k.party; heard = k.heard; there = there; answer = k.answer }

-- the word of an errand is out, was answered, or was overtaken
data IsPast (e : Errand) (c : Course) : Type 0 where
  is_out : c.out ≡ Some e → IsPast e c
  has_heard : HasHeard e c.parties → IsPast e c
  is_overtaken : e.stage ≡ stages.Asking → (fixed : Outcome) → outcome c ≡ Some fixed → IsPast e c

-- it asks, or it goes out once the outcome is fixed
abbrev IsDue : Errand → Course → Type 0
IsDue e c = (e.stage ≡ stages.Asking) ⊎ ((fixed : Outcome) × (outcome c ≡ Some fixed))

now_heard : (c : Course) → WaitsForAnswer c → (now : Heard) (e : Errand) → c.out ≡ Some e → HasHeard e (answered now c e).parties
now_heard c g now e out =
    let o = opened c.parties e (slice_get c.parties e.place) refl (subst (IsOpen c.parties) out g.unheard) in
    let y = heard_at e.stage now o.0 in
    subst (HasHeard e) (sym (heard_is c.parties e now o.0 o.1)) (record {
      party = y;
      heard = now;
      there = set_itself c.parties e.place o.0 y o.1;
      answer = answer_of e.stage now o.0;
    })

-- the outcome that is fixed, where a step leads on
fixed_on : (e : Errand) (c later : Course) → IsReached c → TreeBecomes c later → IsDue e c → IsDue e later
fixed_on e c later r step (inl asks) = inl asks
fixed_on e c later r step (inr fixed) = inr (fixed.0, outcome_stays c later fixed.0 r step fixed.1)

out_word : (e : Errand) (c : Course) → c.out ≡ Some e → IsPast e (after_next c)
out_word e c is = subst (IsPast e) (sym (same_next c e is)) (is_out is)

out_heard : (e : Errand) (c : Course) → WaitsForAnswer c → c.out ≡ Some e → (n : CallNumber) (now : Heard) (o : Option Errand) → c.out ≡ o
    → IsPast e (elim o [ Some f ↦ if same_number n c.number then answered now c f else c | None ↦ c ])
out_heard e c g is n now None out = is_out is
out_heard e c g is n now (Some f) out =
    if_case (IsPast e) (same_number n c.number) (answered now c f) c
    (λ _. has_heard (subst (λ x. HasHeard x (answered now c f).parties) (same_Some f e (sym out ∙ is)) (now_heard c g now f out))) (is_out is)

unfixed : (c : Course) (reason : Reason) (fixed : Outcome) (A : Type 0) → (is_outside reason && may_roll_back c) ≡ true → outcome c ≡ Some fixed → A
unfixed c reason fixed A both is =
    let open_still : is_none (outcome c) ≡ true = first_true (is_none (outcome c)) _ _ (and_right (is_outside reason) (may_roll_back c) both) in
    let never : false ≡ true = ap is_none (sym is) ∙ open_still in
    absurd (cc (never))

out_back : (e : Errand) (c : Course) (reason : Reason) → IsDue e c → c.out ≡ Some e → IsPast e (after_rollback reason c)
out_back e c reason (inl asks) is =
    if_case (IsPast e) (is_outside reason && may_roll_back c) _ c (λ _. is_overtaken asks (outcomes.Rollback reason) (overtaken_ends _ reason refl)) (is_out is)
out_back e c reason (inr fixed) is =
    if_case (IsPast e) (is_outside reason && may_roll_back c) _ c (λ both. unfixed c reason fixed.0 _ both fixed.1) (is_out is)

out_past : (e : Errand) (c later : Course) → WaitsForAnswer c → TreeBecomes c later → IsDue e c → c.out ≡ Some e → IsPast e later
out_past e _ _ g (by_word c) due is = out_word e c is
out_past e _ _ g (by_answer c n now) due is = out_heard e c g is n now c.out refl
out_past e _ _ g (by_stood c stood) due is = if_case (IsPast e) (wants_decision c) (record c { stood = Some stood }) c (λ _. is_out is) (is_out is)
out_past e _ _ g (by_found c found) due is = if_case (IsPast e) (is_doubtful c) (record c { reread = Some found }) c (λ _. is_out is) (is_out is)
out_past e _ _ g (by_rollback c reason) due is = out_back e c reason due is

still_heard : (e : Errand) (c : Course) → WaitsForAnswer c → HasHeard e c.parties → (n : CallNumber) (now : Heard) (o : Option Errand) → c.out ≡ o
    → IsPast e (elim o [ Some f ↦ if same_number n c.number then answered now c f else c | None ↦ c ])
still_heard e c g k n now None out = has_heard k
still_heard e c g k n now (Some f) out = if_case (IsPast e) (same_number n c.number) (answered now c f) c (λ _. has_heard (heard_stays c g now f out e k)) (has_heard k)

heard_past : (e : Errand) (c later : Course) → WaitsForAnswer c → TreeBecomes c later → HasHeard e c.parties → IsPast e later
heard_past e _ _ g (by_word c) k = if_case (IsPast e) (is_some c.out) c (record c { out = errand c }) (λ _. has_heard k) (has_heard k)
heard_past e _ _ g (by_answer c n now) k = still_heard e c g k n now c.out refl
heard_past e _ _ g (by_stood c stood) k = if_case (IsPast e) (wants_decision c) (record c { stood = Some stood }) c (λ _. has_heard k) (has_heard k)
heard_past e _ _ g (by_found c found) k = if_case (IsPast e) (is_doubtful c) (record c { reread = Some found }) c (λ _. has_heard k) (has_heard k)
heard_past e _ _ g (by_rollback c reason) k = if_case (IsPast e) (is_outside reason && may_roll_back c) _ c (λ _. has_heard k) (has_heard k)

past_by : (e : Errand) (c later : Course) → IsReached c → TreeBecomes c later → IsDue e c → IsPast e c → IsPast e later
past_by e c later r step due (is_out is) = out_past e c later (goes c r) step due is
past_by e c later r step due (has_heard k) = heard_past e c later (goes c r) step k
past_by e c later r step due (is_overtaken asks fixed is) = is_overtaken asks fixed (outcome_stays c later fixed r step is)

-- numbers stay
set_number : (ps : List Party) (k : ℕ) (x y : Party) → slice_get ps k ≡ Some x → y.index ≡ x.index → map (λ (p : Party). p.index) (slice_set ps k y) ≡ map (λ (p : Party). p.index) ps
set_number [] k x y at same = absurd (cc (at))
set_number (p ∷ ps) zero x y at same = ap (λ i. i ∷ map (λ (p : Party). p.index) ps) (same ∙ ap (λ (q : Party). q.index) (sym (same_Some p x at)))
set_number (p ∷ ps) (suc k) x y at same = ap (λ is. p.index ∷ is) (set_number ps k x y at same)

same_index : (stage : Stage) (h : Heard) (x : Party) → (heard_at stage h x).index ≡ x.index
same_index stages.Asking h x = refl
same_index stages.Telling h x = refl
same_index stages.Forgetting h x = refl

heard_number : (c : Course) (now : Heard) (e : Errand) (o : Option Party) → slice_get c.parties e.place ≡ o
    → map (λ (p : Party). p.index) (elim o [ Some p ↦ slice_set c.parties e.place (heard_at e.stage now p) | None ↦ c.parties ]) ≡ numbers c
heard_number c now e None there = refl
heard_number c now e (Some p) there = set_number c.parties e.place p (heard_at e.stage now p) there (same_index e.stage now p)

answered_number : (c : Course) (n : CallNumber) (now : Heard) (o : Option Errand)
    → numbers (elim o [ Some e ↦ if same_number n c.number then answered now c e else c | None ↦ c ]) ≡ numbers c
answered_number c n now None = refl
answered_number c n now (Some e) =
    if_case (λ x. numbers x ≡ numbers c) (same_number n c.number) (answered now c e) c (λ _. heard_number c now e (slice_get c.parties e.place) refl) refl

pub numbers_by : (c later : Course) → TreeBecomes c later → numbers later ≡ numbers c
numbers_by _ _ (by_word c) = if_case (λ x. numbers x ≡ numbers c) (is_some c.out) c (record c { out = errand c }) (λ _. refl) refl
numbers_by _ _ (by_answer c n now) = answered_number c n now c.out
numbers_by _ _ (by_stood c stood) = if_case (λ x. numbers x ≡ numbers c) (wants_decision c) (record c { stood = Some stood }) c (λ _. refl) refl
numbers_by _ _ (by_found c found) = if_case (λ x. numbers x ≡ numbers c) (is_doubtful c) (record c { reread = Some found }) c (λ _. refl) refl
numbers_by _ _ (by_rollback c reason) = if_case (λ x. numbers x ≡ numbers c) (is_outside reason && may_roll_back c) _ c (λ _. refl) refl

-- what holds from then on
record Later (e : Errand) (c later : Course) : Type 0 where
  reached : IsReached later
  due : IsDue e later
  past : IsPast e later
  same : numbers later ≡ numbers c

past_on : (e : Errand) (c later : Course) → IsReached c → TreeGoesOn c later → IsDue e c → IsPast e c → Later e c later
past_on e c _ r still due past = record { reached = r; due = due; past = past; same = refl }
past_on e c later r (further between _ on step) due past =
    let b = past_on e c between r on due past in
    record {
      reached = goes_on between later b.reached step;
      due = fixed_on e between later b.reached step b.due;
      past = past_by e between later b.reached step b.due b.past;
      same = numbers_by between later step ∙ b.same;
    }

-- the stage of a word
stage_of : Word → Stage
stage_of (words.Phase phases.Prepare) = stages.Asking
stage_of (words.Phase phases.CommitOnePhase) = stages.Asking
stage_of (words.Phase phases.Commit) = stages.Telling
stage_of (words.Phase phases.Rollback) = stages.Telling
stage_of _ = stages.Forgetting

is_stage : (c : Course) (stage : Stage) → stage_of (word_of c stage) ≡ stage
unfolding stage_of
is_stage c stages.Asking = by_alone (decides_alone c)
  where
    by_alone : (b : Bool) → stage_of (first_word b) ≡ stages.Asking
    by_alone true = refl
    by_alone false = refl
is_stage c stages.Telling = by_end (outcome c)
  where
    by_end : (o : Option Outcome) → stage_of (outcome_word o) ≡ stages.Telling
    by_end None = refl
    by_end (Some (outcomes.Commit basis)) = refl
    by_end (Some (outcomes.Rollback reason)) = refl
    by_end (Some outcomes.Unknown) = refl
is_stage c stages.Forgetting = refl

-- a number that comes once stands at one place
is_same : (a : ℕ) → (a == a) ≡ true
is_same a = grind arith

found_times : (x y : ℕ) (ys : List ℕ) → y ≡ x → times x (y ∷ ys) ≡ suc (times x ys)
found_times x y ys same = sum_by-cons _ y ys ∙ rw (same, is_same x) (omega arith)

more_times : (x y : ℕ) (ys : List ℕ) → times x ys ≤ times x (y ∷ ys)
more_times x y ys = let s : times x (y ∷ ys) ≡ _ = sum_by-cons _ y ys in omega (arith, s)

some_times : (xs : List ℕ) (x j : ℕ) → slice_get xs j ≡ Some x → 1 ≤ times x xs
some_times [] x j at = absurd (cc (at))
some_times (y ∷ ys) x zero at = let f = found_times x y ys (same_Some y x at) in omega (arith, f)
some_times (y ∷ ys) x (suc j) at = let s = some_times ys x j at in let m = more_times x y ys in omega (arith, s, m)

one_place : (xs : List ℕ) (x i j : ℕ) → slice_get xs i ≡ Some x → slice_get xs j ≡ Some x → times x xs ≤ 1 → i ≡ j
one_place [] x i j first second once = absurd (cc (first))
one_place (y ∷ ys) x zero zero first second once = refl
one_place (y ∷ ys) x zero (suc j) first second once =
    let f = found_times x y ys (same_Some y x first) in let s = some_times ys x j second in absurd (omega (arith, f, s, once))
one_place (y ∷ ys) x (suc i) zero first second once =
    let f = found_times x y ys (same_Some y x second) in let s = some_times ys x i first in absurd (omega (arith, f, s, once))
one_place (y ∷ ys) x (suc i) (suc j) first second once =
    let m = more_times x y ys in ap suc (one_place ys x i j first second (omega (arith, m, once)))

-- what goes out again hasn't gone out before
never_again : (e : Errand) (c : Course) → IsPast e c → c.out ≡ None → (f : Errand) → errand c ≡ Some f → f.stage ≡ e.stage → f.place ≡ e.place → ⊥
never_again e c (is_out is) free f next stage place = let never : None ≡ Some e = sym free ∙ is in cc (never)
never_again e c (has_heard k) free f next stage place =
    let at_place = subst (λ i. OpenAt f.stage (slice_get c.parties i)) place (errand_open c f next) in
    let silent : answer_at e.stage k.party ≡ None = subst (λ s. OpenAt s (Some k.party)) stage (subst (OpenAt f.stage) k.there at_place) in
    let never : None ≡ Some k.heard = sym silent ∙ k.answer in
    cc (never)
never_again e c (is_overtaken asks fixed is) free f next stage place =
    let never : None ≡ Some fixed = sym (undecided c f next (stage ∙ asks)) ∙ is in
    cc (never)

due_by : (c : Course) (e : Errand) (p : Party) (stage : Stage) → e.stage ≡ stage → Says c stage e.place p → IsDue e c
due_by c e p stages.Asking is says = inl is
due_by c e p stages.Telling is says = inr (says.fixed, says.ends)
due_by c e p stages.Forgetting is says = inr (says.fixed, says.ends)

now_out : (c : Course) (e : Errand) → c.out ≡ None → errand c ≡ Some e → IsPast e (after_next c)
now_out c e free is = by_free c.out free
  where
    by_free : (o : Option Errand) → o ≡ None → IsPast e (if is_some o then c else record c { out = errand c })
    by_free None never = is_out is
    by_free (Some f) never = absurd (cc (never))

number_at : (c : Course) (o : Outward) (s : Sent c o) → slice_get (numbers c) s.task.place ≡ Some o.registration
number_at c o s = slice_get-map (λ (p : Party). p.index) c.parties s.task.place ∙ ap (option_map (λ (p : Party). p.index)) s.there ∙ ap (λ i. Some i) (sym s.registration)

pub no_word_twice : (c later : Course) (first second : Outward) → IsReached c → HaveOwnNumbers c → next_word c ≡ Some first
    → TreeGoesOn (after_next c) later → next_word later ≡ Some second → second.word ≡ first.word → second.registration ≡ first.registration → ⊥
no_word_twice c later first second r once out on out_later word registration =
    let s = sent c first out in
    let t = sent later second out_later in
    let e = s.task in
    let start = goes_on c (after_next c) r (by_word c) in
    let due = fixed_on e c (after_next c) r (by_word c) (due_by c e s.party e.stage refl (errand_tells c e s.next s.party s.there)) in
    let end = past_on e (after_next c) later start on due (now_out c e s.free s.next) in
    let same : numbers later ≡ numbers c = end.same ∙ numbers_by c (after_next c) (by_word c) in
    let stage : t.task.stage ≡ e.stage = sym (is_stage later t.task.stage) ∙ ap stage_of (sym t.word ∙ word ∙ s.word) ∙ is_stage c e.stage in
    let again : slice_get (numbers c) t.task.place ≡ Some first.registration =
    subst (λ ns. slice_get ns t.task.place ≡ Some first.registration) same (number_at later second t ∙ ap (λ i. Some i) registration) in
    let place = one_place (numbers c) first.registration t.task.place e.place again (number_at c first s) (once first.registration) in
    never_again e later end.past t.free t.task t.next stage place
