-- What is heard of a word, and what of it is told: votes where they are counted, and the Done where the journal has it.
use Rattle.std.proofs.Common.{◌≡◌, ◌⊎◌, ◌==◌, ◌&&◌, ◌||◌, not, inl, inr, ℕ, ◌<◌, zero, suc, List, [], ◌∷◌, ◌++◌, length, get_or, Bool, true, false, if◌then◌else◌, Option, Some, None, is_none, Contains, Any, refl, ap, sym, subst, ◌∙◌, arith}
use Rattle.std.proofs.lemmas.Grind.{common_steps}
use Rattle.std.proofs.lemmas.List.Elements.{Contains-append_cases, Contains-append_left}
use Rattle.std.proofs.lemmas.List.Quantifiers.{any-set}
use Rattle.std.proofs.lemmas.Option.{slice_get_within}
use Rattle.std.specs.Prelude.{slice_set}
use Rattle.std.specs.List.{AllByRecursion, filter_map, slice_get}
use Rattle.std.specs.Option.{option_and_then, option_map}
use Rattle.ots_model.specs.Heard.{of_participant}
use Rattle.ots_model.specs.declared.completion.CallNumber.{CallNumber}
use Rattle.ots_model.specs.declared.completion.Doubted.{Doubted}
use Rattle.ots_model.specs.declared.completion.Heard.{Heard as ParticipantHeard}
use Rattle.ots_model.specs.declared.completion.Heard.TheVariants as phase_hears
use Rattle.ots_model.specs.declared.completion.Stood.{Stood}
use Rattle.ots_model.specs.declared.completion.Stood.TheVariants as answers
use Rattle.ots_model.specs.declared.completion.Vote.{Vote}
use Rattle.ots_model.specs.declared.tree.Heard.{Heard}
use Rattle.txn_tree.specs.Rows.{parent}
use Rattle.txn_tree.specs.Calls.{marked}
use Rattle.two_phase.specs.Course as course
use Rattle.two_phase.specs.Course.{Course}
use Rattle.two_phase.specs.LawsOfReached.{TreeOutcomeStays}
use Rattle.two_phase.specs.LawsOfReached.TreeBecomes.{by_answer, by_record, by_reread}
use Rattle.two_phase.specs.Course.{same_number}
use Rattle.two_phase.specs.Stages as stages
use Rattle.two_phase.specs.Stages.{Standing, Waiting, Going as UnderWay}
use Rattle.two_phase.specs.declared.party.Errand.{Errand}
use Rattle.two_phase.specs.declared.party.Party.{Party}
use Rattle.two_phase.specs.declared.party.Stage.{Stage as Asked}
use Rattle.two_phase.specs.declared.party.Stage.TheVariants as asks
use Rattle.coordinator.specs.declared.call.Leg.{Leg}
use Rattle.coordinator.specs.declared.call.Leg.TheVariants.{Below, Own, Before, Deciding, After}
use Rattle.coordinator.specs.declared.effect.Effect.{Effect}
use Rattle.coordinator.specs.declared.effect.Effect.TheVariants as effects
use Rattle.coordinator.specs.Family.{Family, Aim, Call, Commits, RollsBack, call_at, with_call, waiting_for}
use Rattle.coordinator.specs.Laws.{IsThere}
use Rattle.coordinator.specs.Moves.{Moved, only, shows, completes_as, fixed_now}
use Rattle.coordinator.specs.Closing.{asked_of}
use Rattle.coordinator.specs.Phases.{has_parent_ended}
use Rattle.coordinator.specs.Hearing.{is_markable, marks, marks_parent, is_plain, told_commit, told_end, reason_of, told_before, vote_effects, inner_number, told_participant, told, hears_at, answers_doubt, doubts_by, decided}
use Rattle.coordinator.specs.Step.{hears_call, hears_for, hears, found_at}
use Rattle.family_laws.specs.LawsOfTelling.{decided_in, HasVote, IsVoted}
use Rattle.family_laws.specs.Sound.{IsSoundFamily}
use Rattle.family_laws.proofs.Ending.{all_at}
use Rattle.family_laws.proofs.Lists.{all_joined, all_map, has_at, any_there}
use Rattle.family_laws.proofs.Sweeping.{is_top}
use Rattle.family_laws.proofs.Telling.{Stays, Told, IsTold, told_next, IsOther, IsKept, kept_itself, Plain, plain_next, either_plain, nothing_new, only_plain, shows_plain, completes_told, completes_plain, stays_by, rolls_plain, fixed_others}
use Rattle.family_laws.proofs.Hearing.{votes_rows}

-- ---- what is plain

pub marks_plain : (b : ℕ) (f : Family) → Plain f (marks b f)
unfolding marks
marks_plain b f = either_plain f (is_markable f b) _ _ (shows_plain (effects.Marked b) f (record f { rows = marked f.rows b }) tt refl refl refl refl refl) (only_plain f)

marks_parent_plain : (o : Option ℕ) (f : Family) → Plain f (marks_parent o f)
marks_parent_plain (Some above) f = marks_plain above f
marks_parent_plain None f = only_plain f

pub told_end_plain : (aim : Aim) (b : ℕ) (heard : Heard) (f : Family) → Plain f (told_end aim b heard f)
unfolding told_commit
told_end_plain (Commits asked) b heard f = either_plain f (is_plain heard || has_parent_ended f b) _ _ (only_plain f) (marks_parent_plain (parent f.rows b) f)
told_end_plain (RollsBack says) b heard f = only_plain f

pub told_before_plain : (b called : ℕ) (c : Call) (heard : Heard) (f : Family) → Plain f (told_before b called c heard f)
unfolding told_before
told_before_plain b called c heard f = either_plain f (is_plain heard) _ _ (only_plain f)
    (rolls_plain (asked_of c.aim) (reason_of called heard) (with_call b (record c { leg = Deciding }) f))

answers_doubt_plain : (why : Doubted) (o : Option Call) (f : Family) → Plain f (answers_doubt why o f)
unfolding answers_doubt
answers_doubt_plain why (Some c) f = record {
  told = record { key_stays = refl; counts = omega arith; numbers = tt; follows = refl; outcomes = nothing_new f.completion [] refl };
  others = tt;
  kept = kept_itself f.completion;
}
answers_doubt_plain why None f = only_plain f

doubts_by_plain : (stood : Stood) (f : Family) → Plain f (doubts_by stood f)
doubts_by_plain (answers.Stands place) f = only_plain f
doubts_by_plain (answers.Full used need) f = only_plain f
doubts_by_plain (answers.Unsure why) f =
    plain_next f (shows (effects.Doubted ∷ []) f) (λ g. answers_doubt why (call_at g 0) g)
    (shows_plain effects.Doubted f f tt refl refl refl refl refl) (answers_doubt_plain why (call_at f 0) f)

-- what the journal answers, and what a reread finds, leaves votes as they are, and a record that stands
and_last : (a b c d e : Bool) → (a && b && c && d && e) ≡ true → c ≡ true
and_last true true true d e h = refl
and_last true true false d e h = absurd (cc h)
and_last true false c d e h = absurd (cc h)
and_last false b c d e h = absurd (cc h)

none_is : {A : Type 0} (o : Option A) → is_none o ≡ true → o ≡ None
none_is None h = refl
none_is (Some x) h = absurd (cc h)

no_place : (stood : Option Stood) (reread : Option (Option ℕ)) (p : ℕ) → stood ≡ None → course.record_place stood reread ≡ Some p → ⊥
no_place None reread p e h = absurd (cc h)
no_place (Some x) reread p e h = absurd (cc e)

decided_kept : (s : Standing) (stood : Stood) → IsKept s (stages.after_decided stood s)
decided_kept (Waiting room) stood = kept_itself (Waiting room)
decided_kept (UnderWay c) stood = go (course.wants_decision c) refl
  where
    go : (t : Bool) → course.wants_decision c ≡ t → IsKept (UnderWay c) (UnderWay (if t then record c { stood = Some stood } else c))
    go true e = record {
      voted = λ g v h. h;
      votes = λ g v h. h;
      place = λ p h. absurd (no_place c.stood c.reread p (none_is c.stood (and_last (not (course.decides_alone c)) (is_none c.overtaken) (is_none c.stood) (course.all_consent c) (course.some_commit c) e)) h);
      alone = λ e. e;
      answers = λ g x h. h;
    }
    go false e = kept_itself (UnderWay c)

pub decided_plain : (stood : Stood) (f : Family) → Plain f (decided stood f)
unfolding decided
decided_plain stood f =
    plain_next f (completes_as (stages.after_decided stood f.completion) f) (doubts_by stood)
    (completes_plain (stages.after_decided stood f.completion) f (stays f.completion) (decided_kept f.completion stood))
    (doubts_by_plain stood (completes_as (stages.after_decided stood f.completion) f).family)
  where
    stays : (s : Standing) → TreeOutcomeStays → IsThere s → Stays s (stages.after_decided stood s)
    stays (Waiting room) law there = record { there = there; same = λ x e. e }
    stays (UnderWay c) law there = stays_by c (course.after_decided stood c) (by_record c stood) law there

doubtful_place : (stood : Option Stood) (reread : Option (Option ℕ)) (p : ℕ) → (course.is_unsure stood && is_none reread) ≡ true → course.record_place stood reread ≡ Some p → ⊥
doubtful_place None reread p e h = absurd (cc h)
doubtful_place (Some (answers.Stands place)) reread p e h = absurd (cc e)
doubtful_place (Some (answers.Full used need)) reread p e h = absurd (cc e)
doubtful_place (Some (answers.Unsure why)) None p e h = absurd (cc h)
doubtful_place (Some (answers.Unsure why)) (Some found) p e h = absurd (cc e)

reread_kept : (s : Standing) (found : Option ℕ) → IsKept s (stages.after_reread found s)
reread_kept (Waiting room) found = kept_itself (Waiting room)
reread_kept (UnderWay c) found = go (course.is_doubtful c) refl
  where
    go : (t : Bool) → course.is_doubtful c ≡ t → IsKept (UnderWay c) (UnderWay (if t then record c { reread = Some found } else c))
    go true e = record { voted = λ g v h. h; votes = λ g v h. h; place = λ p h. absurd (doubtful_place c.stood c.reread p e h); alone = λ e. e; answers = λ g x h. h }
    go false e = kept_itself (UnderWay c)

pub reread_plain : (stood : Option Stood) (f : Family) → Plain f (completes_as (stages.after_reread (found_at stood) f.completion) f)
reread_plain stood f = completes_plain (stages.after_reread (found_at stood) f.completion) f (stays f.completion) (reread_kept f.completion (found_at stood))
  where
    stays : (s : Standing) → TreeOutcomeStays → IsThere s → Stays s (stages.after_reread (found_at stood) s)
    stays (Waiting room) law there = record { there = there; same = λ x e. e }
    stays (UnderWay c) law there = stays_by c (course.after_reread (found_at stood) c) (by_reread c (found_at stood)) law there

-- ---- the answer to the word that asked

same_itself : (n : CallNumber) → same_number n n ≡ true
same_itself n = all (n.life == n.life) (n.slot == n.slot) (n.generation == n.generation) (n.serial == n.serial) (itself n.life) (itself n.slot) (itself n.generation) (itself n.serial)
  where
    itself : (x : ℕ) → (x == x) ≡ true
    itself x = grind arith

    all : (a b c d : Bool) → a ≡ true → b ≡ true → c ≡ true → d ≡ true → (a && b && c && d) ≡ true
    all a b c d e f g h = rw (e, f, g, h) refl

pub after_out : (k : Course) (e : Errand) (heard : ParticipantHeard) → k.out ≡ Some e → course.after_answer k.number heard k ≡ course.answered heard k e
after_out k e heard o = rw (o, same_itself k.number) refl

pub after_none : (k : Course) (heard : ParticipantHeard) → k.out ≡ None → course.after_answer k.number heard k ≡ k
after_none k heard o = rw o refl

-- the word that is out asks for the vote of this registration
record IsAsked (k : Course) (g : ℕ) : Type 0 where
  errand : Errand
  party : Party
  out : k.out ≡ Some errand
  stage : errand.stage ≡ asks.Asking
  there : slice_get k.parties errand.place ≡ Some party
  number : party.index ≡ g

asked_by : (k : Course) (g : ℕ) (o : Option Errand) → k.out ≡ o → option_and_then (course.voter_at k) o ≡ Some g → IsAsked k g
asked_by k g None e h = absurd (cc h)
asked_by k g (Some x) e h = by_stage x.stage refl (course.decides_alone k) h
  where
    by_party : (o : Option Party) → slice_get k.parties x.place ≡ o → x.stage ≡ asks.Asking → option_map (λ (p : Party). p.index) o ≡ Some g → IsAsked k g
    by_party None i s h = absurd (cc h)
    by_party (Some p) i s h = record { errand = x; party = p; out = e; stage = s; there = i; number = cc h }

    by_alone : (t : Bool) → x.stage ≡ asks.Asking → (if t then None else option_map (λ (p : Party). p.index) (slice_get k.parties x.place)) ≡ Some g → IsAsked k g
    by_alone true s h = absurd (cc h)
    by_alone false s h = by_party (slice_get k.parties x.place) refl s h

    by_stage : (s : Asked) → x.stage ≡ s → (t : Bool)
        → (elim s [ asks.Asking ↦ if t then None else option_map (λ (p : Party). p.index) (slice_get k.parties x.place) | asks.Telling ↦ None | asks.Forgetting ↦ None ]) ≡ Some g → IsAsked k g
    by_stage asks.Asking s t h = by_alone t s h
    by_stage asks.Telling s t h = absurd (cc h)
    by_stage asks.Forgetting s t h = absurd (cc h)

pub placed : (k : Course) (e : Errand) (heard : ParticipantHeard) (o : Option Party) → slice_get k.parties e.place ≡ o
    → (course.answered heard k e).parties ≡ elim o as (λ x. List Party) [ Some p ↦ slice_set k.parties e.place (course.heard_at e.stage heard p) | None ↦ k.parties ]
placed k e heard o i = ap (λ (y : Option Party). elim y as (λ x. List Party) [ Some p ↦ slice_set k.parties e.place (course.heard_at e.stage heard p) | None ↦ k.parties ]) i

pub heard_there : (k : Course) (e : Errand) (p : Party) (heard : ParticipantHeard) → slice_get k.parties e.place ≡ Some p → (course.answered heard k e).parties ≡ slice_set k.parties e.place (course.heard_at e.stage heard p)
heard_there k e p heard i = placed k e heard (Some p) i

-- its vote counts from then on
vote_counted : (k : Course) (g : ℕ) (vote : Vote) → course.voter k ≡ Some g → IsVoted (UnderWay (course.after_answer k.number (phase_hears.Voted vote) k)) g vote
vote_counted k g vote h =
    let a : IsAsked k g = asked_by k g k.out refl h in
    let heard : ParticipantHeard = phase_hears.Voted vote in
    subst (λ (d : Course). Any (HasVote g vote) d.parties) (sym (after_out k a.errand heard a.out))
    (subst (λ (ps : List Party). Any (HasVote g vote) ps) (sym (heard_there k a.errand a.party heard a.there ∙ ap (λ (s : Asked). slice_set k.parties a.errand.place (course.heard_at s heard a.party)) a.stage))
    (any-set (HasVote g vote) k.parties a.errand.place (record a.party { ballot = Some heard }) (slice_get_within k.parties a.errand.place a.party a.there) (a.number, refl)))

-- a vote that counts then counted before, or was heard now
pub any_set_cases : {A : Type 0} (P : A → Type 0) (xs : List A) (i : ℕ) (y : A) → Any P (slice_set xs i y) → Any P xs ⊎ P y
any_set_cases {A = A} P xs i y h = go xs i h.0 h.1 h.2 h.3 h.4
  where
    here : (x : A) (ys : List A) → P x → Any P (x ∷ ys)
    here x ys p = (0, x, omega arith, refl, p)

    later : (x : A) (ys : List A) → Any P ys ⊎ P y → Any P (x ∷ ys) ⊎ P y
    later x ys (inl a) = inl (suc a.0, a.1, omega (arith, a.2), a.3, a.4)
    later x ys (inr p) = inr p

    at : (ys : List A) (k : ℕ) (x : A) → k < length ys → get_or ys k x ≡ x → P x → Any P ys
    at ys k x l e p = (k, x, l, e, p)

    go : (xs : List A) (i k : ℕ) (x : A) → k < length (slice_set xs i y) → get_or (slice_set xs i y) k x ≡ x → P x → Any P xs ⊎ P y
    go [] i k x l e p = absurd (omega (arith, l))
    go (z ∷ xs) zero zero x l e p = inr (subst P (sym e) p)
    go (z ∷ xs) zero (suc k) x l e p = inl (suc k, x, l, e, p)
    go (z ∷ xs) (suc i) zero x l e p = inl (here z xs (subst P (sym e) p))
    go (z ∷ xs) (suc i) (suc k) x l e p = later z xs (go xs i k x (omega (arith, l)) e p)

abbrev IsHeardNow : Course → ParticipantHeard → ℕ → Vote → Type 0
IsHeardNow k heard g vote = (heard ≡ phase_hears.Voted vote) × (course.voter k ≡ Some g)

voter_is : (k : Course) (e : Errand) (p : Party) → k.out ≡ Some e → e.stage ≡ asks.Asking → course.decides_alone k ≡ false → slice_get k.parties e.place ≡ Some p → course.voter k ≡ Some p.index
voter_is k e p o s a i = rw o (rw (s, a, i) refl)

heard_vote : (k : Course) (e : Errand) (p : Party) (heard : ParticipantHeard) (g : ℕ) (vote : Vote) → k.out ≡ Some e → course.decides_alone k ≡ false → slice_get k.parties e.place ≡ Some p
    → (s : Asked) → e.stage ≡ s → HasVote g vote (course.heard_at s heard p) → HasVote g vote p ⊎ IsHeardNow k heard g vote
heard_vote k e p heard g vote o a i asks.Asking s h = inr (cc h.1, voter_is k e p o s a i ∙ ap (λ (x : ℕ). Some x) h.0)
heard_vote k e p heard g vote o a i asks.Telling s h = inl h
heard_vote k e p heard g vote o a i asks.Forgetting s h = inl h

vote_before : (k : Course) (heard : ParticipantHeard) (g : ℕ) (vote : Vote) → course.decides_alone k ≡ false → IsVoted (UnderWay (course.after_answer k.number heard k)) g vote
    → IsVoted (UnderWay k) g vote ⊎ IsHeardNow k heard g vote
vote_before k heard g vote a h = by_out k.out refl
  where
    by_place : (e : Errand) → k.out ≡ Some e → (o : Option Party) → slice_get k.parties e.place ≡ o → Any (HasVote g vote) (course.answered heard k e).parties → IsVoted (UnderWay k) g vote ⊎ IsHeardNow k heard g vote
    by_place e i None j x = inl (subst (λ (ps : List Party). Any (HasVote g vote) ps) (placed k e heard None j) x)
    by_place e i (Some p) j x = sort p j (any_set_cases (HasVote g vote) k.parties e.place (course.heard_at e.stage heard p) (subst (λ (ps : List Party). Any (HasVote g vote) ps) (heard_there k e p heard j) x))
      where
        settle : (p : Party) → slice_get k.parties e.place ≡ Some p → HasVote g vote p ⊎ IsHeardNow k heard g vote → IsVoted (UnderWay k) g vote ⊎ IsHeardNow k heard g vote
        settle p j (inl v) = inl (any_there (HasVote g vote) k.parties e.place p j v)
        settle p j (inr v) = inr v

        sort : (p : Party) → slice_get k.parties e.place ≡ Some p → Any (HasVote g vote) k.parties ⊎ HasVote g vote (course.heard_at e.stage heard p) → IsVoted (UnderWay k) g vote ⊎ IsHeardNow k heard g vote
        sort p j (inl v) = inl v
        sort p j (inr v) = settle p j (heard_vote k e p heard g vote i a j e.stage refl v)

    by_out : (o : Option Errand) → k.out ≡ o → IsVoted (UnderWay k) g vote ⊎ IsHeardNow k heard g vote
    by_out None i = inl (subst (λ (d : Course). Any (HasVote g vote) d.parties) (after_none k heard i) h)
    by_out (Some e) i = by_place e i (slice_get k.parties e.place) refl (subst (λ (d : Course). Any (HasVote g vote) d.parties) (after_out k e heard i) h)

-- ---- what is told of an answer

abbrev pub IsNoDone : Effect → Type 0
IsNoDone effects.Done = ⊥
IsNoDone _ = Unit {0}

abbrev pub IsNoVote : Effect → Type 0
IsNoVote (effects.Voted g vote) = ⊥
IsNoVote _ = Unit {0}

pub other_no_done : (x : Effect) → IsOther x → IsNoDone x
other_no_done (effects.Voted g vote) h = absurd h
other_no_done (effects.Decided fixed) h = tt
other_no_done (effects.SubtransactionEnded b committed) h = tt
other_no_done (effects.Marked b) h = tt
other_no_done effects.Doubted h = tt
other_no_done effects.Done h = h

pub other_no_vote : (x : Effect) → IsOther x → IsNoVote x
other_no_vote (effects.Voted g vote) h = h
other_no_vote (effects.Decided fixed) h = tt
other_no_vote (effects.SubtransactionEnded b committed) h = tt
other_no_vote (effects.Marked b) h = tt
other_no_vote effects.Doubted h = tt
other_no_vote effects.Done h = absurd h

-- the votes that are told were heard, and count from then on; and a vote that counts then counted before, or is told
pub record IsHeard (s : Standing) (heard : ParticipantHeard) (m : Moved) : Type 0 where
  pub votes : (g : ℕ) (vote : Vote) → Contains m.effects (effects.Voted g vote)
      → (heard ≡ phase_hears.Voted vote) × (stages.voter s ≡ Some g) × IsVoted m.family.completion g vote
  pub before : (g : ℕ) (vote : Vote) → stages.decides_alone m.family.completion ≡ false → IsVoted m.family.completion g vote
      → IsVoted s g vote ⊎ Contains m.effects (effects.Voted g vote)
  pub no_done : AllByRecursion IsNoDone m.effects
  pub place : (p : ℕ) → stages.record_place s ≡ Some p → stages.record_place m.family.completion ≡ Some p

pub record IsHearing (f : Family) (heard : ParticipantHeard) (m : Moved) : Type 0 where
  pub told : IsTold f.key f.serial f.rows f.completion m
  pub hears : IsHeard f.completion heard m

pub no_vote_among : (some : List Effect) → AllByRecursion IsNoVote some → (g : ℕ) (vote : Vote) → Contains some (effects.Voted g vote) → ⊥
no_vote_among some all g vote h = all_at IsNoVote some (effects.Voted g vote) all h

pub plain_heard : (f : Family) (heard : ParticipantHeard) (m : Moved) → Plain f m → IsHeard f.completion heard m
plain_heard f heard m h = record {
  votes = λ g vote c. absurd (no_vote_among m.effects (all_map IsOther IsNoVote other_no_vote m.effects h.others) g vote c);
  before = λ g vote a v. inl (h.kept.votes g vote v);
  no_done = all_map IsOther IsNoDone other_no_done m.effects h.others;
  place = h.kept.place;
}

plainly : (f : Family) (heard : ParticipantHeard) (m : Moved) → Plain f m → IsHearing f heard m
plainly f heard m h = record { told = h.told; hears = plain_heard f heard m h }

-- a vote that is told
record IsVoteOf (heard : ParticipantHeard) (o : Option ℕ) (g : ℕ) (vote : Vote) : Type 0 where
  is : heard ≡ phase_hears.Voted vote
  by : o ≡ Some g

vote_among : (heard : ParticipantHeard) (o : Option ℕ) (g : ℕ) (vote : Vote) → Contains (vote_effects heard o) (effects.Voted g vote) → IsVoteOf heard o g vote
vote_among (phase_hears.Voted v) (Some p) g vote h = one h.0 h.1 h.2
  where
    one : (k : ℕ) → k < 1 → get_or (effects.Voted p v ∷ []) k (effects.Voted g vote) ≡ effects.Voted g vote → IsVoteOf (phase_hears.Voted v) (Some p) g vote
    one zero l e = record { is = cc e; by = cc e }
    one (suc k) l e = absurd (omega (arith, l))
vote_among (phase_hears.Voted v) None g vote h = let l = h.1 in absurd (omega (arith, l))
vote_among phase_hears.Done o g vote h = let l = h.1 in absurd (omega (arith, l))
vote_among (phase_hears.Heuristic d) o g vote h = let l = h.1 in absurd (omega (arith, l))
vote_among phase_hears.RolledBack o g vote h = let l = h.1 in absurd (omega (arith, l))
vote_among phase_hears.NotPrepared o g vote h = let l = h.1 in absurd (omega (arith, l))
vote_among phase_hears.NoObject o g vote h = let l = h.1 in absurd (omega (arith, l))
vote_among phase_hears.Other o g vote h = let l = h.1 in absurd (omega (arith, l))
vote_among phase_hears.Lost o g vote h = let l = h.1 in absurd (omega (arith, l))
vote_among phase_hears.Starved o g vote h = let l = h.1 in absurd (omega (arith, l))

votes_new : (s : Standing) (heard : ParticipantHeard) (o : Option ℕ) → filter_map decided_in (vote_effects heard o) ≡ []
votes_new s (phase_hears.Voted v) (Some p) = refl
votes_new s (phase_hears.Voted v) None = refl
votes_new s phase_hears.Done o = refl
votes_new s (phase_hears.Heuristic d) o = refl
votes_new s phase_hears.RolledBack o = refl
votes_new s phase_hears.NotPrepared o = refl
votes_new s phase_hears.NoObject o = refl
votes_new s phase_hears.Other o = refl
votes_new s phase_hears.Lost o = refl
votes_new s phase_hears.Starved o = refl

votes_no_done : (heard : ParticipantHeard) (o : Option ℕ) → AllByRecursion IsNoDone (vote_effects heard o)
votes_no_done (phase_hears.Voted v) (Some p) = (tt, tt)
votes_no_done (phase_hears.Voted v) None = tt
votes_no_done phase_hears.Done o = tt
votes_no_done (phase_hears.Heuristic d) o = tt
votes_no_done phase_hears.RolledBack o = tt
votes_no_done phase_hears.NotPrepared o = tt
votes_no_done phase_hears.NoObject o = tt
votes_no_done phase_hears.Other o = tt
votes_no_done phase_hears.Lost o = tt
votes_no_done phase_hears.Starved o = tt

shows_votes : (heard : ParticipantHeard) (f : Family) → Told f (shows (vote_effects heard (stages.voter f.completion)) f)
shows_votes heard f = record {
  key_stays = refl;
  counts = omega arith;
  numbers = tt;
  follows = votes_rows f.rows heard (stages.voter f.completion);
  outcomes = nothing_new f.completion (vote_effects heard (stages.voter f.completion)) (votes_new f.completion heard (stages.voter f.completion));
}

-- the completion once it has heard
abbrev hearing : Family → CallNumber → ParticipantHeard → Standing
hearing f n heard = stages.after_answer (inner_number f f.completion n) heard f.completion

answer_stays : (f : Family) (n : CallNumber) (heard : ParticipantHeard) (s : Standing) → TreeOutcomeStays → IsThere s → Stays s (stages.after_answer (inner_number f s n) heard s)
answer_stays f n heard (Waiting room) law there = record { there = there; same = λ x e. e }
answer_stays f n heard (UnderWay k) law there = stays_by k (course.after_answer k.number heard k) (by_answer k k.number heard) law there

counted_now : (f : Family) (n : CallNumber) (s : Standing) (heard : ParticipantHeard) (g : ℕ) (vote : Vote) → IsVoteOf heard (stages.voter s) g vote → IsVoted (stages.after_answer (inner_number f s n) heard s) g vote
counted_now f n (Waiting room) heard g vote h = absurd (cc h.by)
counted_now f n (UnderWay k) heard g vote h = rw h.is (vote_counted k g vote h.by)

voted_now : (heard : ParticipantHeard) (o : Option ℕ) (g : ℕ) (vote : Vote) → heard ≡ phase_hears.Voted vote → o ≡ Some g → Contains (vote_effects heard o) (effects.Voted g vote)
voted_now heard o g vote e i = rw (e, i) (has_at (effects.Voted g vote ∷ []) 0 (effects.Voted g vote) refl)

parties_set : (xs : List Party) (k : ℕ) (y : Party) → length (slice_set xs k y) ≡ length xs
parties_set xs k y = grind (arith, common_steps)

pub answered_alone : (k : Course) (e : Errand) (heard : ParticipantHeard) → course.decides_alone (course.answered heard k e) ≡ course.decides_alone k
answered_alone k e heard = go (slice_get k.parties e.place) refl
  where
    go : (o : Option Party) → slice_get k.parties e.place ≡ o → course.decides_alone (course.answered heard k e) ≡ course.decides_alone k
    go (Some p) i = ap (λ (ps : List Party). k.one_phase && length ps == 1) (heard_there k e p heard i)
        ∙ ap (λ (n : ℕ). k.one_phase && n == 1) (parties_set k.parties e.place (course.heard_at e.stage heard p))
    go None i = ap (λ (ps : List Party). k.one_phase && length ps == 1) (placed k e heard None i)

still_alone : (k : Course) (heard : ParticipantHeard) → course.decides_alone (course.after_answer k.number heard k) ≡ course.decides_alone k
still_alone k heard = go k.out refl
  where
    go : (o : Option Errand) → k.out ≡ o → course.decides_alone (course.after_answer k.number heard k) ≡ course.decides_alone k
    go None i = ap (λ (d : Course). course.decides_alone d) (after_none k heard i)
    go (Some e) i = ap (λ (d : Course). course.decides_alone d) (after_out k e heard i) ∙ answered_alone k e heard

before_now : (f : Family) (n : CallNumber) (s : Standing) (heard : ParticipantHeard) (g : ℕ) (vote : Vote) → stages.decides_alone (stages.after_answer (inner_number f s n) heard s) ≡ false
    → IsVoted (stages.after_answer (inner_number f s n) heard s) g vote → IsVoted s g vote ⊎ Contains (vote_effects heard (stages.voter s)) (effects.Voted g vote)
before_now f n (Waiting room) heard g vote a h = absurd h
before_now f n (UnderWay k) heard g vote a h = go (vote_before k heard g vote (sym (still_alone k heard) ∙ a) h)
  where
    go : IsVoted (UnderWay k) g vote ⊎ IsHeardNow k heard g vote → IsVoted (UnderWay k) g vote ⊎ Contains (vote_effects heard (course.voter k)) (effects.Voted g vote)
    go (inl v) = inl v
    go (inr v) = inr (voted_now heard (course.voter k) g vote v.0 v.1)

place_now : (f : Family) (n : CallNumber) (s : Standing) (heard : ParticipantHeard) (p : ℕ) → stages.record_place s ≡ Some p → stages.record_place (stages.after_answer (inner_number f s n) heard s) ≡ Some p
place_now f n (Waiting room) heard p e = e
place_now f n (UnderWay k) heard p e = go k.out refl
  where
    go : (o : Option Errand) → k.out ≡ o → stages.record_place (UnderWay (course.after_answer k.number heard k)) ≡ Some p
    go None i = ap (λ (d : Course). course.record_place d.stood d.reread) (after_none k heard i) ∙ e
    go (Some x) i = ap (λ (d : Course). course.record_place d.stood d.reread) (after_out k x heard i) ∙ e

told_participant_hears : (n : CallNumber) (h : Heard) (f : Family) → IsHearing f (of_participant h) (told_participant n h f)
unfolding told_participant completes_as
told_participant_hears n h f =
    let heard : ParticipantHeard = of_participant h in
    let later : Standing = hearing f n heard in
    let new : List Effect = fixed_now (stages.outcome f.completion) (stages.outcome later) in
    let votes : List Effect = vote_effects heard (stages.voter f.completion) in
    record {
      told = told_next f (shows votes f) (completes_as later) (shows_votes heard f) (completes_told later f (answer_stays f n heard f.completion));
      hears = record {
        votes = λ g vote c. sort g vote (Contains-append_cases votes new (effects.Voted g vote) c);
        before = λ g vote a v. place g vote (before_now f n f.completion heard g vote a v);
        no_done = all_joined IsNoDone votes new (votes_no_done heard (stages.voter f.completion))
            (all_map IsOther IsNoDone other_no_done new (fixed_others (stages.outcome f.completion) (stages.outcome later)));
        place = λ p e. place_now f n f.completion heard p e;
      };
    }
  where
    place : (g : ℕ) (vote : Vote) → IsVoted f.completion g vote ⊎ Contains (vote_effects (of_participant h) (stages.voter f.completion)) (effects.Voted g vote)
        → IsVoted f.completion g vote ⊎ Contains (vote_effects (of_participant h) (stages.voter f.completion) ++ fixed_now (stages.outcome f.completion) (stages.outcome (hearing f n (of_participant h)))) (effects.Voted g vote)
    place g vote (inl v) = inl v
    place g vote (inr c) = inr (Contains-append_left (vote_effects (of_participant h) (stages.voter f.completion)) (fixed_now (stages.outcome f.completion) (stages.outcome (hearing f n (of_participant h)))) (effects.Voted g vote) c)

    sort : (g : ℕ) (vote : Vote) → Contains (vote_effects (of_participant h) (stages.voter f.completion)) (effects.Voted g vote)
        ⊎ Contains (fixed_now (stages.outcome f.completion) (stages.outcome (hearing f n (of_participant h)))) (effects.Voted g vote)
        → (of_participant h ≡ phase_hears.Voted vote) × (stages.voter f.completion ≡ Some g) × IsVoted (hearing f n (of_participant h)) g vote
    sort g vote (inl c) =
        let v = vote_among (of_participant h) (stages.voter f.completion) g vote c in
        (v.is, v.by, counted_now f n f.completion (of_participant h) g vote v)
    sort g vote (inr c) =
        absurd (no_vote_among (fixed_now (stages.outcome f.completion) (stages.outcome (hearing f n (of_participant h))))
        (all_map IsOther IsNoVote other_no_vote _ (fixed_others (stages.outcome f.completion) (stages.outcome (hearing f n (of_participant h))))) g vote c)

told_hears : (leg : Leg) (n : CallNumber) (b : ℕ) (c : Call) (h : Heard) (f : Family) → IsHearing f (of_participant h) (told leg n b c h f)
told_hears Below n b c h f = plainly f (of_participant h) (only f) (only_plain f)
told_hears Own n b c h f = plainly f (of_participant h) (told_end c.aim b h f) (told_end_plain c.aim b h f)
told_hears (Before called) n b c h f = plainly f (of_participant h) (told_before b called c h f) (told_before_plain b called c h f)
told_hears Deciding n b c h f = told_participant_hears n h f
told_hears (After called) n b c h f = plainly f (of_participant h) (only f) (only_plain f)

-- votes are told in one leg alone
told_votes : (leg : Leg) (n : CallNumber) (b : ℕ) (c : Call) (h : Heard) (f : Family) (g : ℕ) (vote : Vote) → Contains (told leg n b c h f).effects (effects.Voted g vote) → leg ≡ Deciding
told_votes Below n b c h f g vote v = let l = v.1 in absurd (omega (arith, l))
told_votes Own n b c h f g vote v = absurd (no_vote_among (told_end c.aim b h f).effects (all_map IsOther IsNoVote other_no_vote _ (told_end_plain c.aim b h f).others) g vote v)
told_votes (Before called) n b c h f g vote v = absurd (no_vote_among (told_before b called c h f).effects (all_map IsOther IsNoVote other_no_vote _ (told_before_plain b called c h f).others) g vote v)
told_votes Deciding n b c h f g vote v = refl
told_votes (After called) n b c h f g vote v = let l = v.1 in absurd (omega (arith, l))

hears_call_is : (o : Option Call) (b : ℕ) (n : CallNumber) (h : Heard) (f : Family) → IsHearing f (of_participant h) (hears_call o b n h f)
unfolding hears_at
hears_call_is (Some c) b n h f = let x = told_hears c.leg n b (record c { out = None }) h (with_call b (record c { out = None }) f) in record { told = x.told; hears = x.hears }
hears_call_is None b n h f = plainly f (of_participant h) (only f) (only_plain f)

hears_for_is : (o : Option ℕ) (n : CallNumber) (h : Heard) (f : Family) → IsHearing f (of_participant h) (hears_for o n h f)
hears_for_is (Some b) n h f = hears_call_is (call_at f b) b n h f
hears_for_is None n h f = plainly f (of_participant h) (only f) (only_plain f)

pub hears_is : (n : CallNumber) (h : Heard) (f : Family) → IsHearing f (of_participant h) (hears n h f)
unfolding hears
hears_is n h f = hears_for_is (waiting_for f n) n h f

-- and of the top-level transaction's call alone
call_votes : (o : Option Call) (b : ℕ) (n : CallNumber) (h : Heard) (f : Family) (g : ℕ) (vote : Vote) → call_at f b ≡ o → IsSoundFamily f → Contains (hears_call o b n h f).effects (effects.Voted g vote) → b ≡ 0
unfolding hears_at
call_votes (Some c) b n h f g vote e sound v =
    is_top b c f Deciding (told_votes c.leg n b (record c { out = None }) h (with_call b (record c { out = None }) f) g vote v) tt (sound.under_way b c e)
call_votes None b n h f g vote e sound v = let l = v.1 in absurd (omega (arith, l))

for_votes : (o : Option ℕ) (n : CallNumber) (h : Heard) (f : Family) (g : ℕ) (vote : Vote) → IsSoundFamily f → Contains (hears_for o n h f).effects (effects.Voted g vote) → o ≡ Some 0
for_votes (Some b) n h f g vote sound v = ap (λ (x : ℕ). Some x) (call_votes (call_at f b) b n h f g vote refl sound v)
for_votes None n h f g vote sound v = let l = v.1 in absurd (omega (arith, l))

pub hears_votes : (n : CallNumber) (h : Heard) (f : Family) (g : ℕ) (vote : Vote) → IsSoundFamily f → Contains (hears n h f).effects (effects.Voted g vote) → waiting_for f n ≡ Some 0
unfolding hears
hears_votes n h f g vote sound v = for_votes (waiting_for f n) n h f g vote sound v
