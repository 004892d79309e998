-- What each word of a completion of a tree rests on.
use Rattle.std.proofs.Common.{◌≡◌, refl, ℕ, List, length, position, Option, Some, None, ap, sym, subst, ◌∙◌, ◌&&◌, is_none, is_some, not, arith, Bool, true, false, if◌then◌else◌, eqb-true}
use Rattle.std.specs.List.{slice_get}
use Rattle.std.specs.Option.{option_map, option_map_or, option_and_then}
use Rattle.std.proofs.lemmas.List.Quantifiers.{position-Some}
use Rattle.std.proofs.lemmas.List.Folds.{list_any_at}
use Rattle.std.proofs.lemmas.Option.{slice_get_within, get_or_from_slice_get, same_Some}
use Rattle.ots_model.specs.declared.completion.Heard.{Heard}
use Rattle.ots_model.specs.declared.completion.Heard.TheVariants as hears
use Rattle.ots_model.specs.declared.completion.Vote.TheVariants.{VoteCommit, VoteRollback, VoteReadOnly}
use Rattle.ots_model.specs.declared.completion.Ground.TheVariants.{Record, Nobody}
use Rattle.ots_model.specs.declared.completion.Stood.{Stood}
use Rattle.ots_model.specs.declared.completion.Stood.TheVariants as answers
use Rattle.ots_model.specs.declared.tree.Outward.{Outward}
use Rattle.ots_model.specs.Numbered.{Outcome}
use Rattle.ots_model.specs.declared.completion.Outcome.TheVariants as outcomes
use Rattle.ots_model.specs.declared.tree.Reason.{Reason}
use Rattle.two_phase.specs.Course.{Course, decides_alone, all_consent, some_commit, first_refuser, by_refusal, by_record, by_one, by_votes, record_place, outcome, errand, asking, telling, forgetting, may_forget, errand_at, next_asked, next_told, next_forgetting, first_word, outcome_word, word_of, outward, outward_of, next_word}
use Rattle.two_phase.specs.LawsOfCourses.{MayBeTold, MayBeAsked, MayForget, IsRollback, RestsOn, GoesRightly}
use Rattle.two_phase.specs.Parties.{has_voted_commit, is_unasked, is_untold, is_told, is_unforgotten, has_raised, by_answer, reason_of}
use Rattle.two_phase.specs.declared.party.Party.{Party}
use Rattle.two_phase.specs.declared.party.Stage.{Stage}
use Rattle.two_phase.specs.declared.party.Stage.TheVariants as stages
use Rattle.two_phase.specs.declared.party.Errand.{Errand}
use Rattle.two_phase.specs.Parties.{is_commit_vote}
use Rattle.two_phase.proofs.Opened.{nobody, none_is}
use Rattle.two_phase.proofs.Overtaken.{overtaken_ends}

pub and_left : (a b : Bool) → (a && b) ≡ true → a ≡ true
and_left true b e = refl
and_left false b e = absurd (cc (e))

pub and_right : (a b : Bool) → (a && b) ≡ true → b ≡ true
and_right true b e = e
and_right false b e = absurd (cc (e))

-- what is known of a participant that is sent a word of this stage
pub record IsUntold (p : Party) (c : Course) : Type 0 where
  pub fixed : Outcome
  pub ends : outcome c ≡ Some fixed
  pub told : is_told (decides_alone c) fixed p ≡ true
  pub untold : p.told ≡ None

abbrev pub Says : Course → Stage → ℕ → Party → Type 0
Says c stages.Asking i p = MayBeAsked i p c
Says c stages.Telling i p = IsUntold p c
Says c stages.Forgetting i p = MayForget p c

-- a participant that is found by a test passes it
passes : (test : Party → Bool) (ps : List Party) (i : ℕ) (p : Party) → position test ps ≡ Some i → slice_get ps i ≡ Some p → test p ≡ true
passes test ps i p e there =
    let at = position-Some test ps i nobody e in
    ap test (sym (get_or_from_slice_get ps i p nobody there)) ∙ at.1

asked_says : (c : Course) (i : ℕ) (p : Party) → outcome c ≡ None → next_asked c.parties ≡ Some i → slice_get c.parties i ≡ Some p → Says c stages.Asking i p
unfolding next_asked
asked_says c i p none e there = record { undecided = none; unanswered = none_is p.ballot (passes is_unasked c.parties i p e there); first = e }

told_says : (c : Course) (fixed : Outcome) (i : ℕ) (p : Party) → outcome c ≡ Some fixed → next_told (decides_alone c) fixed c.parties ≡ Some i → slice_get c.parties i ≡ Some p → Says c stages.Telling i p
unfolding next_told
told_says c fixed i p is e there =
    let both = passes (is_untold (decides_alone c) fixed) c.parties i p e there in
    record {
      fixed = fixed;
      ends = is;
      told = and_right (is_none p.told) (is_told (decides_alone c) fixed p) both;
      untold = none_is p.told (and_left (is_none p.told) (is_told (decides_alone c) fixed p) both);
    }

forgetting_says : (c : Course) (fixed : Outcome) → outcome c ≡ Some fixed → next_told (decides_alone c) fixed c.parties ≡ None → may_forget c fixed ≡ true
    → (i : ℕ) (p : Party) → next_forgetting c.parties ≡ Some i → slice_get c.parties i ≡ Some p → Says c stages.Forgetting i p
unfolding next_forgetting
forgetting_says c fixed is told may i p e there =
    let both = passes is_unforgotten c.parties i p e there in
    record {
      fixed = fixed;
      ends = is;
      all_told = told;
      may = may;
      raised = and_right (is_none p.forgot) (has_raised p) both;
      untold = none_is p.forgot (and_left (is_none p.forgot) (has_raised p) both);
    }

-- the same of the errand that it is
abbrev pub Tells : Course → Errand → Type 0
Tells c e = (p : Party) → slice_get c.parties e.place ≡ Some p → Says c e.stage e.place p

at_tells : (c : Course) (stage : Stage) (o : Option ℕ) → ((i : ℕ) → o ≡ Some i → (p : Party) → slice_get c.parties i ≡ Some p → Says c stage i p)
    → (e : Errand) → errand_at stage o ≡ Some e → Tells c e
at_tells c stage None says e h = absurd (cc (h))
at_tells c stage (Some i) says e h = subst (Tells c) (same_Some (record { stage = stage; place = i }) e h) (says i refl)

may_tells : (c : Course) (fixed : Outcome) → outcome c ≡ Some fixed → next_told (decides_alone c) fixed c.parties ≡ None
    → (b : Bool) → may_forget c fixed ≡ b → (e : Errand) → (if b then errand_at stages.Forgetting (next_forgetting c.parties) else None) ≡ Some e → Tells c e
may_tells c fixed is told true may e h = at_tells c stages.Forgetting (next_forgetting c.parties) (λ i next p. forgetting_says c fixed is told may i p next) e h
may_tells c fixed is told false may e h = absurd (cc (h))

telling_tells : (c : Course) (fixed : Outcome) → outcome c ≡ Some fixed → (o : Option ℕ) → next_told (decides_alone c) fixed c.parties ≡ o → (e : Errand)
    → elim o [ Some place ↦ Some (record { stage = stages.Telling; place = place }) | None ↦ forgetting c fixed ] ≡ Some e → Tells c e
telling_tells c fixed is None next e h = may_tells c fixed is next (may_forget c fixed) refl e h
telling_tells c fixed is (Some i) next e h =
    at_tells c stages.Telling (Some i) (λ j same p. told_says c fixed j p is (next ∙ same)) e h

outcome_tells : (c : Course) (o : Option Outcome) → outcome c ≡ o → (e : Errand) → elim o [ Some fixed ↦ telling c fixed | None ↦ asking c ] ≡ Some e → Tells c e
outcome_tells c None is e h = at_tells c stages.Asking (next_asked c.parties) (λ i next p. asked_says c i p is next) e h
outcome_tells c (Some fixed) is e h = telling_tells c fixed is (next_told (decides_alone c) fixed c.parties) refl e h

pub errand_tells : (c : Course) (e : Errand) → errand c ≡ Some e → Tells c e
unfolding errand
errand_tells c e h = outcome_tells c (outcome c) refl e h

-- an outcome is commit
abbrev IsCommit : Option Outcome → Type 0
IsCommit (Some (outcomes.Commit basis)) = Unit {0}
IsCommit _ = ⊥

-- a record that stands
record Stands (stood : Option Stood) (reread : Option (Option ℕ)) : Type 0 where
  place : ℕ
  stands : record_place stood reread ≡ Some place
  fixed : by_record stood reread ≡ Some (outcomes.Commit Record)

stands_by : (stood : Option Stood) (reread : Option (Option ℕ)) → IsCommit (by_record stood reread) → Stands stood reread
stands_by None reread h = absurd h
stands_by (Some (answers.Stands place)) reread h = record { place = place; stands = refl; fixed = refl }
stands_by (Some (answers.Full used need)) reread h = absurd h
stands_by (Some (answers.Unsure why)) None h = absurd h
stands_by (Some (answers.Unsure why)) (Some None) h = absurd h
stands_by (Some (answers.Unsure why)) (Some (Some place)) h = record { place = place; stands = refl; fixed = refl }

commit_vote_is : (h : Heard) → is_commit_vote h ≡ true → h ≡ hears.Voted VoteCommit
commit_vote_is (hears.Voted VoteCommit) e = refl
commit_vote_is (hears.Voted VoteRollback) e = absurd (cc)
commit_vote_is (hears.Voted VoteReadOnly) e = absurd (cc)
commit_vote_is hears.Done e = absurd (cc)
commit_vote_is (hears.Heuristic d) e = absurd (cc)
commit_vote_is hears.RolledBack e = absurd (cc)
commit_vote_is hears.NotPrepared e = absurd (cc)
commit_vote_is hears.NoObject e = absurd (cc)
commit_vote_is hears.Other e = absurd (cc)
commit_vote_is hears.Lost e = absurd (cc)
commit_vote_is hears.Starved e = absurd (cc)

voted_by : (o : Option Heard) → option_map_or is_commit_vote o false ≡ true → o ≡ Some (hears.Voted VoteCommit)
voted_by None h = absurd (cc (h))
voted_by (Some x) h = ap (λ y. Some y) (commit_vote_is x h)

pub alone_is : (c : Course) → c.overtaken ≡ None → decides_alone c ≡ true → outcome c ≡ by_one (slice_get c.parties 0)
unfolding outcome
alone_is c e a = rw (e, a) refl

pub votes_is : (c : Course) → c.overtaken ≡ None → decides_alone c ≡ false → outcome c ≡ by_votes c
unfolding outcome
votes_is c e a = rw (e, a) refl

pub one_alone : (c : Course) → decides_alone c ≡ true → length c.parties ≡ 1
one_alone c a = eqb-true (length c.parties) 1 (and_right c.one_phase _ a)

-- a single participant is the first one
pub alone_first : (c : Course) (place : ℕ) (p : Party) → decides_alone c ≡ true → slice_get c.parties place ≡ Some p → slice_get c.parties 0 ≡ Some p
alone_first c place p a there =
    let one = one_alone c a in
    let within = slice_get_within c.parties place p there in
    let zero : place ≡ 0 = omega (arith, one, within) in
    subst (λ i. slice_get c.parties i ≡ Some p) zero there

refuses_commit : (g : ℕ) (o : Option Heard) → IsCommit (option_map (λ h. outcomes.Rollback (reason_of g h)) o) → ⊥
refuses_commit g None h = absurd h
refuses_commit g (Some x) h = absurd h

some_votes : (c : Course) (place : ℕ) (p : Party) → slice_get c.parties place ≡ Some p → has_voted_commit p ≡ true → some_commit c ≡ true
unfolding some_commit
some_votes c place p there votes =
    list_any_at has_voted_commit c.parties place nobody (slice_get_within c.parties place p there)
    (ap has_voted_commit (get_or_from_slice_get c.parties place p nobody there) ∙ votes)

by_all : (c : Course) → (b : Bool) → all_consent c ≡ b → some_commit c ≡ true
    → IsCommit (if not b then None else if some_commit c then by_record c.stood c.reread else Some (outcomes.Commit Nobody))
    → (all_consent c ≡ true) × Stands c.stood c.reread
by_all c true is some h =
    (is, stands_by c.stood c.reread (subst (λ b. IsCommit (if b then by_record c.stood c.reread else Some (outcomes.Commit Nobody))) some h))
by_all c false is some h = absurd h

by_first : (c : Course) → some_commit c ≡ true → (o : Option Party) → first_refuser c.parties ≡ o
    → IsCommit (elim o [ Some p ↦ by_refusal p | None ↦ if not (all_consent c) then None else if some_commit c then by_record c.stood c.reread else Some (outcomes.Commit Nobody) ])
    → (first_refuser c.parties ≡ None) × (all_consent c ≡ true) × Stands c.stood c.reread
by_first c some None is h = let all = by_all c (all_consent c) refl some h in (is, all.0, all.1)
by_first c some (Some q) is h = absurd (refuses_commit q.index q.ballot h)

votes_rest : (c : Course) (place : ℕ) (p : Party) → IsCommit (outcome c) → slice_get c.parties place ≡ Some p → has_voted_commit p ≡ true → p.told ≡ None
    → c.overtaken ≡ None → (b : Bool) → decides_alone c ≡ b → MayBeTold p c
votes_rest c place p h there votes untold e true a =
    let unknown : outcome c ≡ Some outcomes.Unknown =
    alone_is c e a ∙ ap by_one (alone_first c place p a there) ∙ ap (option_map (by_answer p.index)) (voted_by p.ballot votes) in
    absurd (subst IsCommit unknown h)
votes_rest c place p h there votes untold e false a =
    let some = some_votes c place p there votes in
    let known = by_first c some (first_refuser c.parties) refl (subst IsCommit (votes_is c e a) h) in
    let stands = known.2 in
    record {
      consent = known.1;
      voted = voted_by p.ballot votes;
      place = stands.place;
      stands = stands.stands;
      fixed = votes_is c e a ∙ rw (by_votes, known.0, known.1, some) stands.fixed;
      untold = untold;
    }

over_rest : (c : Course) (place : ℕ) (p : Party) → IsCommit (outcome c) → slice_get c.parties place ≡ Some p → has_voted_commit p ≡ true → p.told ≡ None
    → (o : Option Reason) → c.overtaken ≡ o → MayBeTold p c
over_rest c place p h there votes untold (Some r) e = absurd (subst IsCommit (overtaken_ends c r e) h)
over_rest c place p h there votes untold None e = votes_rest c place p h there votes untold e (decides_alone c) refl

-- what the word that tells an outcome rests on
told_rests : (c : Course) (place : ℕ) (p : Party) (fixed : Outcome) → outcome c ≡ Some fixed → is_told (decides_alone c) fixed p ≡ true → p.told ≡ None → slice_get c.parties place ≡ Some p
    → RestsOn (outcome_word (Some fixed)) place p c
told_rests c place p (outcomes.Commit basis) is told untold there = over_rest c place p (subst IsCommit (sym is) tt) there told untold c.overtaken refl
told_rests c place p (outcomes.Rollback reason) is told untold there = record { fixed = subst IsRollback (sym is) tt; hears = told; untold = untold }
told_rests c place p outcomes.Unknown is told untold there = absurd (cc (told))

asked_rests : (c : Course) (place : ℕ) (p : Party) → MayBeAsked place p c → (b : Bool) → decides_alone c ≡ b → RestsOn (first_word b) place p c
asked_rests c place p may true a = (may, a)
asked_rests c place p may false a = (may, a)

rests : (c : Course) (place : ℕ) (p : Party) (stage : Stage) → Says c stage place p → slice_get c.parties place ≡ Some p → RestsOn (word_of c stage) place p c
rests c place p stages.Asking says there = asked_rests c place p says (decides_alone c) refl
rests c place p stages.Telling says there =
    subst (λ o. RestsOn (outcome_word o) place p c) (sym says.ends) (told_rests c place p says.fixed says.ends says.told says.untold there)
rests c place p stages.Forgetting says there = says

to_party : (c : Course) (e : Errand) → Tells c e → (x : Option Party) → slice_get c.parties e.place ≡ x → (o : Outward)
    → option_map (outward c (word_of c e.stage)) x ≡ Some o → GoesRightly o c
to_party c e tells None there o h = absurd (cc (h))
to_party c e tells (Some p) there o h = subst (λ q. GoesRightly q c) (same_Some (outward c (word_of c e.stage) p) o h) (record {
  place = e.place;
  party = p;
  there = there;
  registration = refl;
  reference = refl;
  number = refl;
  receipt = refl;
  rests = rests c e.place p e.stage (tells p there) there;
})

by_errand : (c : Course) (x : Option Errand) → errand c ≡ x → (o : Outward) → option_and_then (outward_of c) x ≡ Some o → GoesRightly o c
by_errand c None is o h = absurd (cc (h))
by_errand c (Some e) is o h = to_party c e (errand_tells c e is) (slice_get c.parties e.place) refl o h

if_out : (c : Course) (b : Bool) (o : Outward) → (if b then None else option_and_then (outward_of c) (errand c)) ≡ Some o → GoesRightly o c
if_out c true o h = absurd (cc (h))
if_out c false o h = by_errand c (errand c) refl o h

pub words_rest : (c : Course) (o : Outward) → next_word c ≡ Some o → GoesRightly o c
unfolding next_word
words_rest c o h = if_out c (is_some c.out) o h
