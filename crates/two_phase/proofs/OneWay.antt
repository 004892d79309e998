-- Once a commit word has gone out, no rollback goes out.
use Rattle.std.proofs.Common.{◌≡◌, refl, ℕ, zero, suc, List, [], ◌∷◌, length, slice_set, Option, Some, None, ap, sym, subst, ◌∙◌, ◌&&◌, is_none, is_some, not, Bool, true, false, if◌then◌else◌, ◌⊎◌, inl, inr, arith, ◌==◌}
use Rattle.std.specs.List.{slice_get}
use Rattle.std.specs.Option.{option_map, option_and_then}
use Rattle.std.proofs.lemmas.Option.{same_Some}
use Rattle.std.proofs.lemmas.List.{length-set}
use Rattle.ots_model.specs.declared.completion.Heard.{Heard}
use Rattle.ots_model.specs.declared.completion.Heard.TheVariants as hears
use Rattle.ots_model.specs.declared.completion.Vote.TheVariants.{VoteCommit, VoteRollback, VoteReadOnly}
use Rattle.ots_model.specs.declared.completion.CallNumber.{CallNumber}
use Rattle.ots_model.specs.declared.completion.Ground.TheVariants.{Record}
use Rattle.ots_model.specs.declared.completion.Stood.{Stood}
use Rattle.ots_model.specs.declared.tree.Word.{Word}
use Rattle.ots_model.specs.declared.completion.Word.TheVariants as phases
use Rattle.ots_model.specs.declared.tree.Word.TheVariants as words
use Rattle.ots_model.specs.declared.tree.Outward.{Outward}
use Rattle.ots_model.specs.Numbered.{Outcome}
use Rattle.ots_model.specs.declared.completion.Outcome.TheVariants as outcomes
use Rattle.ots_model.specs.declared.tree.Reason.{Reason}
use Rattle.two_phase.specs.Course.{same_number}
use Rattle.two_phase.specs.Course.{Course, decides_alone, all_consent, some_commit, outcome_word, by_one, outcome, errand, next_word, word_of, outward_of, outward, after_next, answered, heard_at, heard_by, wants_decision, after_decided, is_doubtful, after_reread, is_outside, may_roll_back, after_rollback}
use Rattle.two_phase.specs.CourseInside.{IsOpen}
use Rattle.two_phase.specs.LawsOfCourses.{MayBeTold, MayBeAsked, MayBeRolledBack, IsRollback, RestsOn}
use Rattle.two_phase.specs.LawsOfAnswers.{WaitsForAnswer}
use Rattle.two_phase.specs.LawsOfReached.{TreeBecomes, IsReached, TreeGoesOn, IsCommitWord}
use Rattle.two_phase.specs.LawsOfReached.TreeBecomes.{by_word, by_answer, by_record as by_stood, by_reread as by_found, by_rollback}
use Rattle.two_phase.specs.LawsOfReached.IsReached.{goes_on}
use Rattle.two_phase.specs.LawsOfReached.TreeGoesOn.{still, further}
use Rattle.two_phase.specs.Parties.{is_told, hears_rollback, by_answer as ends_by}
use Rattle.two_phase.specs.declared.party.Party.{Party}
use Rattle.two_phase.specs.declared.party.Stage.{Stage}
use Rattle.two_phase.specs.declared.party.Stage.TheVariants as stages
use Rattle.two_phase.specs.declared.party.Errand.{Errand}
use Rattle.two_phase.proofs.Answered.{opened, heard_is}
use Rattle.two_phase.proofs.Rests.{and_right, Says, errand_tells, words_rest, alone_is, alone_first, one_alone}
use Rattle.two_phase.proofs.Overtaken.{overtaken_ends}
use Rattle.two_phase.proofs.Stays.{goes, if_case, outcome_stays}

-- the word that goes out is that of an errand
pub record Sent (c : Course) (o : Outward) : Type 0 where
  pub free : c.out ≡ None
  pub task : Errand
  pub next : errand c ≡ Some task
  pub party : Party
  pub there : slice_get c.parties task.place ≡ Some party
  pub word : o.word ≡ word_of c task.stage
  pub registration : o.registration ≡ party.index

to_sent : (c : Course) (o : Outward) → c.out ≡ None → (e : Errand) → errand c ≡ Some e → (x : Option Party) → slice_get c.parties e.place ≡ x
    → option_map (outward c (word_of c e.stage)) x ≡ Some o → Sent c o
to_sent c o free e is None there h = absurd (cc (h))
to_sent c o free e is (Some p) there h = record {
  free = free;
  task = e;
  next = is;
  party = p;
  there = there;
  word = ap (λ (q : Outward). q.word) (sym (same_Some (outward c (word_of c e.stage) p) o h));
  registration = ap (λ (q : Outward). q.registration) (sym (same_Some (outward c (word_of c e.stage) p) o h));
}

errand_sent : (c : Course) (o : Outward) → c.out ≡ None → (x : Option Errand) → errand c ≡ x → option_and_then (outward_of c) x ≡ Some o → Sent c o
errand_sent c o free None is h = absurd (cc (h))
errand_sent c o free (Some e) is h = to_sent c o free e is (slice_get c.parties e.place) refl h

out_sent : (c : Course) (o : Outward) → (x : Option Errand) → c.out ≡ x → (if is_some x then None else option_and_then (outward_of c) (errand c)) ≡ Some o → Sent c o
out_sent c o None is h = errand_sent c o is (errand c) refl h
out_sent c o (Some e) is h = absurd (cc (h))

pub sent : (c : Course) (o : Outward) → next_word c ≡ Some o → Sent c o
unfolding next_word
sent c o h = out_sent c o c.out refl h

-- what holds from then on: an outcome is fixed and stays
stays_on : (c later : Course) (fixed : Outcome) → IsReached c → TreeGoesOn c later → outcome c ≡ Some fixed → (IsReached later) × (outcome later ≡ Some fixed)
stays_on c _ fixed r still is = (r, is)
stays_on c later fixed r (further between _ on step) is =
    let b = stays_on c between fixed r on is in
    (goes_on between later b.0 step, outcome_stays between later fixed b.0 step b.1)

-- a rollback word goes out only where the outcome is rollback
rolls_back : (c : Course) (o : Outward) → next_word c ≡ Some o → o.word ≡ words.Phase phases.Rollback → IsRollback (outcome c)
rolls_back c o h w =
    let g = words_rest c o h in
    let told : MayBeRolledBack g.party c = subst (λ word. RestsOn word g.place g.party c) w g.rests in
    told.fixed

after_commit : (c later : Course) (first second : Outward) → IsReached c → next_word c ≡ Some first → first.word ≡ words.Phase phases.Commit
    → TreeGoesOn (after_next c) later → next_word later ≡ Some second → second.word ≡ words.Phase phases.Rollback → ⊥
after_commit c later first second r h w on later_word back =
    let g = words_rest c first h in
    let told : MayBeTold g.party c = subst (λ word. RestsOn word g.place g.party c) w g.rests in
    let out = outcome_stays c (after_next c) (outcomes.Commit Record) r (by_word c) told.fixed in
    let end = stays_on (after_next c) later (outcomes.Commit Record) (goes_on c (after_next c) r (by_word c)) on out in
    subst IsRollback end.1 (rolls_back later second later_word back)

-- the single participant was asked to decide: its word is out, or it has answered
data IsAskedOne (c : Course) : Type 0 where
  waits : (e : Errand) → c.out ≡ Some e → e.stage ≡ stages.Asking → IsAskedOne c
  has_answered : (p : Party) (h : Heard) → slice_get c.parties 0 ≡ Some p → p.ballot ≡ Some h → IsAskedOne c

record Keeps (c : Course) : Type 0 where
  alone : decides_alone c ≡ true
  free : c.overtaken ≡ None
  one : IsAskedOne c

decided_outcome : (c : Course) → Keeps c → (p : Party) (h : Heard) → slice_get c.parties 0 ≡ Some p → p.ballot ≡ Some h → outcome c ≡ Some (ends_by p.index h)
decided_outcome c d p h at ballot = alone_is c d.free d.alone ∙ ap by_one at ∙ ap (option_map (ends_by p.index)) ballot

pub same_next : (c : Course) (e : Errand) → c.out ≡ Some e → after_next c ≡ c
same_next c e is = same_if c (record c { out = errand c }) c.out is
  where
    same_if : (x y : Course) (o : Option Errand) → o ≡ Some e → (if is_some o then x else y) ≡ x
    same_if x y None h = absurd (cc (h))
    same_if x y (Some f) h = refl

word_keeps : (c : Course) → Keeps c → IsAskedOne c → Keeps (after_next c)
word_keeps c k (waits e is asks) = subst Keeps (sym (same_next c e is)) k
word_keeps c k (has_answered p h at ballot) =
    if_case Keeps (is_some c.out) c (record c { out = errand c }) (λ _. k) (record { alone = k.alone; free = k.free; one = has_answered p h at ballot })

-- the only one of a list is the first one
set_first : (ps : List Party) (i : ℕ) (x y : Party) → length ps ≡ 1 → slice_get ps i ≡ Some x → slice_get (slice_set ps i y) 0 ≡ Some y
set_first [] i x y one at = absurd (cc (at))
set_first (p ∷ ps) zero x y one at = refl
set_first (p ∷ []) (suc i) x y one at = absurd (cc (at))
set_first (p ∷ q ∷ ps) (suc i) x y one at = absurd (omega (arith, one))

still_answered : (stage : Stage) (now : Heard) (x : Party) → (stage ≡ stages.Asking) ⊎ ((h : Heard) × (x.ballot ≡ Some h)) → (h : Heard) × ((heard_at stage now x).ballot ≡ Some h)
still_answered stages.Asking now x k = (now, refl)
still_answered stages.Telling now x (inl asks) = absurd (cc (asks))
still_answered stages.Telling now x (inr k) = (k.0, k.1)
still_answered stages.Forgetting now x (inl asks) = absurd (cc (asks))
still_answered stages.Forgetting now x (inr k) = (k.0, k.1)

one_by : (c : Course) → Keeps c → (e : Errand) → c.out ≡ Some e → (x : Party) → slice_get c.parties e.place ≡ Some x → IsAskedOne c
    → (e.stage ≡ stages.Asking) ⊎ ((h : Heard) × (x.ballot ≡ Some h))
one_by c k e out x there (waits f is asks) = inl (ap (λ (y : Errand). y.stage) (same_Some e f (sym out ∙ is)) ∙ asks)
one_by c k e out x there (has_answered p h at ballot) =
    let same : x ≡ p = same_Some x p (sym (alone_first c e.place x k.alone there) ∙ at) in
    inr (h, ap (λ (y : Party). y.ballot) same ∙ ballot)

answered_keeps : (c : Course) → WaitsForAnswer c → Keeps c → (now : Heard) (e : Errand) → c.out ≡ Some e → Keeps (answered now c e)
answered_keeps c g k now e out =
    let o = opened c.parties e (slice_get c.parties e.place) refl (subst (IsOpen c.parties) out g.unheard) in
    let y = heard_at e.stage now o.0 in
    let parties : heard_by c.parties e now ≡ slice_set c.parties e.place y = heard_is c.parties e now o.0 o.1 in
    let same : length (heard_by c.parties e now) ≡ length c.parties = ap (λ ps. length ps) parties ∙ length-set c.parties e.place y in
    let known = still_answered e.stage now o.0 (one_by c k e out o.0 o.1 k.one) in
    let first : slice_get (heard_by c.parties e now) 0 ≡ Some y = ap (λ ps. slice_get ps 0) parties ∙ set_first c.parties e.place o.0 y (one_alone c k.alone) o.1 in
    record {
      alone = ap (λ n. c.one_phase && n == 1) same ∙ k.alone;
      free = k.free;
      one = has_answered y known.0 first known.1;
    }

heard_keeps : (c : Course) → WaitsForAnswer c → Keeps c → (n : CallNumber) (h : Heard) (o : Option Errand) → c.out ≡ o → Keeps (elim o [ Some e ↦ if same_number n c.number then answered h c e else c | None ↦ c ])
heard_keeps c g k n h None out = k
heard_keeps c g k n h (Some e) out = if_case Keeps (same_number n c.number) (answered h c e) c (λ _. answered_keeps c g k h e out) k

never_wanted : (a b d e f : Bool) → a ≡ true → (not a && b && d && e && f) ≡ true → ⊥
never_wanted true true true true true a h = cc (h)
never_wanted true b d e f a h = four b d e f h
  where
    four : (b d e f : Bool) → (false && b && d && e && f) ≡ true → ⊥
    four b d e f h = cc (h)
never_wanted false b d e f a h = cc (a)

decided_keeps : (c : Course) (stood : Stood) → Keeps c → Keeps (after_decided stood c)
decided_keeps c stood k = if_case Keeps (wants_decision c) (record c { stood = Some stood }) c
    (λ wants. absurd (never_wanted (decides_alone c) (is_none c.overtaken) (is_none c.stood) (all_consent c) (some_commit c) k.alone wants)) k

reread_one : (c : Course) (found : Option ℕ) → IsAskedOne c → IsAskedOne (record c { reread = Some found })
reread_one c found (waits e is asks) = waits e is asks
reread_one c found (has_answered p h at ballot) = has_answered p h at ballot

reread_keeps : (c : Course) (found : Option ℕ) → Keeps c → Keeps (after_reread found c)
reread_keeps c found k = if_case Keeps (is_doubtful c) (record c { reread = Some found }) c (λ _. record { alone = k.alone; free = k.free; one = reread_one c found k.one }) k

parts_of : (a b d : Bool) → (a && b && not d) ≡ true → (a ≡ true) × (d ≡ false)
parts_of true true true h = absurd (cc (h))
parts_of true true false h = (refl, refl)
parts_of true false d h = absurd (cc (h))
parts_of false b d h = absurd (cc (h))

no_rollback : (c : Course) → Keeps c → may_roll_back c ≡ true → IsAskedOne c → ⊥
no_rollback c k may (waits e is asks) =
    let clear = (parts_of (is_none (outcome c)) (is_none c.stood) (decides_alone c && is_some c.out) may).1 in
    let both : (decides_alone c && is_some c.out) ≡ true = rw (k.alone, is) refl in
    let contrary : true ≡ false = sym both ∙ clear in
    cc (contrary)
no_rollback c k may (has_answered p h at ballot) =
    let unfixed = (parts_of (is_none (outcome c)) (is_none c.stood) (decides_alone c && is_some c.out) may).0 in
    let contrary : false ≡ true = ap is_none (sym (decided_outcome c k p h at ballot)) ∙ unfixed in
    cc (contrary)

rollback_keeps : (c : Course) (reason : Reason) → Keeps c → Keeps (after_rollback reason c)
rollback_keeps c reason k =
    if_case Keeps (is_outside reason && may_roll_back c) _ c (λ may. absurd (no_rollback c k (and_right (is_outside reason) (may_roll_back c) may) k.one)) k

keeps_by : (c later : Course) → TreeBecomes c later → WaitsForAnswer c → Keeps c → Keeps later
keeps_by _ _ (by_word c) g k = word_keeps c k k.one
keeps_by _ _ (by_answer c n h) g k = heard_keeps c g k n h c.out refl
keeps_by _ _ (by_stood c stood) g k = decided_keeps c stood k
keeps_by _ _ (by_found c found) g k = reread_keeps c found k
keeps_by _ _ (by_rollback c reason) g k = rollback_keeps c reason k

keeps_on : (c later : Course) → IsReached c → TreeGoesOn c later → Keeps c → (IsReached later) × Keeps later
keeps_on c _ r still k = (r, k)
keeps_on c later r (further between _ on step) k =
    let b = keeps_on c between r on k in
    (goes_on between later b.0 step, keeps_by between later step (goes between b.0) b.1)

-- one that was to decide alone and has answered isn't told rollback
not_told : (h : Heard) → hears_rollback true (Some h) ≡ true → ⊥
not_told hears.Done e = cc (e)
not_told (hears.Voted VoteCommit) e = cc (e)
not_told (hears.Voted VoteRollback) e = cc (e)
not_told (hears.Voted VoteReadOnly) e = cc (e)
not_told (hears.Heuristic d) e = cc (e)
not_told hears.RolledBack e = cc (e)
not_told hears.NotPrepared e = cc (e)
not_told hears.NoObject e = cc (e)
not_told hears.Other e = cc (e)
not_told hears.Lost e = cc (e)
not_told hears.Starved e = cc (e)

told_back : (c : Course) → Keeps c → (q : Party) (h : Heard) → q.ballot ≡ Some h → (fixed : Outcome) → outcome c ≡ Some fixed → is_told (decides_alone c) fixed q ≡ true
    → IsRollback (outcome c) → ⊥
told_back c k q h ballot (outcomes.Commit basis) is told back = subst IsRollback is back
told_back c k q h ballot (outcomes.Rollback reason) is told back =
    not_told h (ap (λ b. hears_rollback b (Some h)) (sym k.alone) ∙ ap (hears_rollback (decides_alone c)) (sym ballot) ∙ told)
told_back c k q h ballot outcomes.Unknown is told back = cc (told)

stage_back : (c : Course) → Keeps c → (q : Party) (h : Heard) → q.ballot ≡ Some h → (stage : Stage) (i : ℕ) → Says c stage i q → word_of c stage ≡ words.Phase phases.Rollback → IsRollback (outcome c) → ⊥
stage_back c k q h ballot stages.Asking i says w back = subst IsRollback says.undecided back
stage_back c k q h ballot stages.Telling i says w back = told_back c k q h ballot says.fixed says.ends says.told back
stage_back c k q h ballot stages.Forgetting i says w back = cc (w)

one_back : (c : Course) (o : Outward) → Keeps c → IsAskedOne c → Sent c o → o.word ≡ words.Phase phases.Rollback → IsRollback (outcome c) → ⊥
one_back c o k (waits e is asks) s w back = let contrary : None ≡ Some e = sym s.free ∙ is in cc (contrary)
one_back c o k (has_answered p h at ballot) s w back =
    let same : s.party ≡ p = same_Some s.party p (sym (alone_first c s.task.place s.party k.alone s.there) ∙ at) in
    stage_back c k s.party h (ap (λ (y : Party). y.ballot) same ∙ ballot) s.task.stage s.task.place (errand_tells c s.task s.next s.party s.there) (sym s.word ∙ w) back

-- the word that asks one to decide is that of the stage of asking
asks_one : (c : Course) (stage : Stage) → word_of c stage ≡ words.Phase phases.CommitOnePhase → stage ≡ stages.Asking
asks_one c stages.Asking w = refl
asks_one c stages.Telling w = absurd (tells_other (outcome c) w)
  where
    tells_other : (o : Option Outcome) → outcome_word o ≡ words.Phase phases.CommitOnePhase → ⊥
    tells_other (Some (outcomes.Commit basis)) w = cc (w)
    tells_other (Some (outcomes.Rollback reason)) w = cc (w)
    tells_other (Some outcomes.Unknown) w = cc (w)
    tells_other None w = cc (w)
asks_one c stages.Forgetting w = absurd (cc (w))

begins_alone : (c : Course) (o : Outward) → next_word c ≡ Some o → o.word ≡ words.Phase phases.CommitOnePhase → Keeps (after_next c)
begins_alone c o h w =
    let g = words_rest c o h in
    let rests : MayBeAsked g.place g.party c × (decides_alone c ≡ true) = subst (λ word. RestsOn word g.place g.party c) w g.rests in
    let s = sent c o h in
    let stage = asks_one c s.task.stage (sym s.word ∙ w) in
    free_keeps (c.out) s.free rests.1 (not_before c c.overtaken refl rests.0.undecided) s.task s.next stage
  where
    not_before : (c : Course) (r : Option Reason) → c.overtaken ≡ r → outcome c ≡ None → c.overtaken ≡ None
    not_before c None is open_still = is
    not_before c (Some r) is open_still = let contrary : Some (outcomes.Rollback r) ≡ None = sym (overtaken_ends c r is) ∙ open_still in absurd (cc (contrary))

    free_keeps : (x : Option Errand) → x ≡ None → decides_alone c ≡ true → c.overtaken ≡ None → (e : Errand) → errand c ≡ Some e → e.stage ≡ stages.Asking
        → Keeps (if is_some x then c else record c { out = errand c })
    free_keeps None never alone free e is asks = record { alone = alone; free = free; one = waits e is asks }
    free_keeps (Some f) never alone free e is asks = absurd (cc (never))

after_one : (c later : Course) (first second : Outward) → IsReached c → next_word c ≡ Some first → first.word ≡ words.Phase phases.CommitOnePhase
    → TreeGoesOn (after_next c) later → next_word later ≡ Some second → second.word ≡ words.Phase phases.Rollback → ⊥
after_one c later first second r h w on later_word back =
    let k = keeps_on (after_next c) later (goes_on c (after_next c) r (by_word c)) on (begins_alone c first h w) in
    one_back later second k.1 k.1.one (sent later second later_word) back (rolls_back later second later_word back)

by_first_word : (c later : Course) (first second : Outward) → IsReached c → next_word c ≡ Some first → (w : Word) → first.word ≡ w → IsCommitWord w
    → TreeGoesOn (after_next c) later → next_word later ≡ Some second → second.word ≡ words.Phase phases.Rollback → ⊥
by_first_word c later first second r h (words.Phase phases.Commit) is commits on later_word back = after_commit c later first second r h is on later_word back
by_first_word c later first second r h (words.Phase phases.CommitOnePhase) is commits on later_word back = after_one c later first second r h is on later_word back
by_first_word c later first second r h _ is commits on later_word back = absurd commits

pub one_way : (c later : Course) (first second : Outward) → IsReached c → next_word c ≡ Some first → IsCommitWord first.word
    → TreeGoesOn (after_next c) later → next_word later ≡ Some second → second.word ≡ words.Phase phases.Rollback → ⊥
one_way c later first second r h commits on later_word back = by_first_word c later first second r h first.word refl commits on later_word back

-- no commit word rests on a rollback
rests_back : (c : Course) (i : ℕ) (p : Party) (w : Word) → RestsOn w i p c → IsCommitWord w → (reason : Reason) → outcome c ≡ Some (outcomes.Rollback reason) → ⊥
rests_back c i p (words.Phase phases.Commit) told commits reason is =
    let contrary : Some (outcomes.Commit Record) ≡ Some (outcomes.Rollback reason) = sym told.fixed ∙ is in
    cc (contrary)
rests_back c i p (words.Phase phases.CommitOnePhase) asked commits reason is =
    let contrary : None ≡ Some (outcomes.Rollback reason) = sym asked.0.undecided ∙ is in
    cc (contrary)
rests_back c i p _ rests commits reason is = commits

by_outcome : (c later : Course) (second : Outward) → IsReached c → TreeGoesOn (after_next c) later → next_word later ≡ Some second → IsCommitWord second.word
    → (o : Option Outcome) → outcome c ≡ o → IsRollback o → ⊥
by_outcome c later second r on later_word commits None is back = back
by_outcome c later second r on later_word commits (Some (outcomes.Commit basis)) is back = back
by_outcome c later second r on later_word commits (Some outcomes.Unknown) is back = back
by_outcome c later second r on later_word commits (Some (outcomes.Rollback reason)) is back =
    let fixed = outcomes.Rollback reason in
    let out = outcome_stays c (after_next c) fixed r (by_word c) is in
    let end = stays_on (after_next c) later fixed (goes_on c (after_next c) r (by_word c)) on out in
    let g = words_rest later second later_word in
    rests_back later g.place g.party second.word g.rests commits reason end.1

pub other_way : (c later : Course) (first second : Outward) → IsReached c → next_word c ≡ Some first → first.word ≡ words.Phase phases.Rollback
    → TreeGoesOn (after_next c) later → next_word later ≡ Some second → IsCommitWord second.word → ⊥
other_way c later first second r h back on later_word commits =
    by_outcome c later second r on later_word commits (outcome c) refl (rolls_back c first h back)
