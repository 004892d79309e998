-- What a step makes a completion keep, and how it comes to mark the top-level transaction: by its event.
use Rattle.std.proofs.Common.{◌≡◌, ◌⊎◌, ◌==◌, ◌||◌, inl, inr, ℕ, zero, suc, List, [], ◌∷◌, length, Bool, true, false, if◌then◌else◌, Option, Some, None, is_none, is_some, map, get_or, slice_set, Any, ◌<◌, refl, ap, sym, subst, ◌∙◌, arith}
use Rattle.std.proofs.lemmas.Option.{same_Some}
use Rattle.std.specs.List.{slice_get}
use Rattle.ots_model.specs.Heard.{of_participant}
use Rattle.ots_model.specs.Numbered.{Outcome}
use Rattle.ots_model.specs.declared.completion.CallNumber.{CallNumber}
use Rattle.ots_model.specs.declared.completion.Doubted.{Doubted}
use Rattle.ots_model.specs.declared.completion.Heard.{Heard as ParticipantHeard}
use Rattle.ots_model.specs.declared.completion.Receipt.{Receipt}
use Rattle.ots_model.specs.declared.completion.Stood.{Stood}
use Rattle.ots_model.specs.declared.completion.Stood.TheVariants as answers
use Rattle.ots_model.specs.declared.tree.Heard.{Heard}
use Rattle.ots_model.specs.declared.tree.Outward.{Outward}
use Rattle.ots_model.specs.declared.tree.Reason.{Reason}
use Rattle.ots_model.specs.declared.tree.Reason.TheVariants as reasons
use Rattle.txn_tree.specs.Calls.{ended, live_under, marked, is_marked as has_mark}
use Rattle.txn_tree.specs.Rows.{parent, state}
use Rattle.txn_tree.specs.declared.row.Row.{Row}
use Rattle.resource_votes.specs.Ballots.{adopted}
use Rattle.resource_votes.specs.declared.registration.Registration.{Registration}
use Rattle.two_phase.specs.Course as course
use Rattle.two_phase.specs.Course.{Course, is_outside}
use Rattle.two_phase.specs.Stages as stages
use Rattle.two_phase.specs.Stages.{Standing, Waiting, Going as UnderWay}
use Rattle.two_phase.specs.Parties.{party_of}
use Rattle.two_phase.specs.declared.party.Errand.{Errand}
use Rattle.two_phase.specs.declared.party.Party.{Party}
use Rattle.two_phase.specs.declared.party.Stage.{Stage as Asked}
use Rattle.two_phase.specs.declared.party.Stage.TheVariants as asks
use Rattle.coordinator.specs.declared.call.Leg.{Leg}
use Rattle.coordinator.specs.declared.call.Leg.TheVariants.{Below, Own, Before, Deciding, After}
use Rattle.coordinator.specs.declared.call.Stage.{Stage}
use Rattle.coordinator.specs.declared.call.Stage.TheVariants.{Going, Finishing, Completing, Over}
use Rattle.coordinator.specs.declared.effect.Effect.TheVariants as effects
use Rattle.coordinator.specs.declared.said.Said.{Said}
use Rattle.coordinator.specs.declared.said.Said.TheVariants as said
use Rattle.coordinator.specs.Family.{Family, Aim, Call, Commits, RollsBack, Duty, call_at, number_of, waiting_for, with_call}
use Rattle.coordinator.specs.Moves.{Moved, Notice, only, ◌▹◌, shows, sends, ends_call, completes_as}
use Rattle.coordinator.specs.Closing.{asked_of, asking, asked_ones, rolling_back, begun, begins, decides, decides_by, rests, afterwards, tells_next, next_told, finishes, next_synchronization, calls_next, gives_up, before, waits}
use Rattle.coordinator.specs.Running.{adopter, duty_notice, tells_first, commits_up, own_ends, own_duties, tells_own, passes_top, passes, ends_below, duties_below, sweeps_next, sweeps, is_held, tells_after, by_leg, runs, runs_call, goes_on}
use Rattle.coordinator.specs.Phases.{is_marked, has_parent_ended}
use Rattle.coordinator.specs.Hearing.{is_markable, marks, marks_parent, is_plain, told_commit, told_end, reason_of, told_before, vote_effects, inner_number, told_participant, told, hears_at, wants_done, answers_doubt, doubts_by, decided, closes, settles}
use Rattle.coordinator.specs.Table.{new_call, rolls_back_top, rolls_back_sub, rolls_back, begins_commit}
use Rattle.coordinator.specs.Step.{hears_call, hears_for, hears, goes_on_at, answered, found_at, rereads}
use Rattle.family_laws.specs.Reasons.{Fact, IsAsked, IsHeard, IsOver, IsReread, Keeps}
use Rattle.family_laws.proofs.Lists.{any_there}
use Rattle.family_laws.proofs.Votes.{any_set_cases}

-- ---- the mark of the top-level transaction

ended_mark : (rs : List Row) (b : ℕ) (committed : Bool) → has_mark (state (ended rs b committed) 0) ≡ true → has_mark (state rs 0) ≡ true
ended_mark [] b committed e = absurd (cc e)
ended_mark (x ∷ rs) zero true e = absurd (cc e)
ended_mark (x ∷ rs) zero false e = absurd (cc e)
ended_mark (x ∷ rs) (suc b) committed e = e

marked_mark : (rs : List Row) (b : ℕ) → has_mark (state (marked rs b) 0) ≡ true → (has_mark (state rs 0) ≡ true) ⊎ (b ≡ 0)
marked_mark [] b e = absurd (cc e)
marked_mark (x ∷ rs) zero e = inr refl
marked_mark (x ∷ rs) (suc b) e = inl e

zero_is : (b : ℕ) → (b == 0) ≡ true → b ≡ 0
zero_is b e = grind arith

-- ---- what a completion keeps

-- nothing that it didn't keep before
abbrev Stays : Standing → Standing → Type 0
Stays s t = (x : Fact) → Keeps t x → Keeps s x

-- or else this
abbrev StaysBut : Fact → Standing → Standing → Type 0
StaysBut y s t = (x : Fact) → Keeps t x → Keeps s x ⊎ (x ≡ y)

same_kept : (k l : Course) → l.overtaken ≡ k.overtaken → l.parties ≡ k.parties → l.stood ≡ k.stood → l.reread ≡ k.reread → Stays (UnderWay k) (UnderWay l)
same_kept k l over parties stood reread (IsOver reason) e = sym over ∙ e
same_kept k l over parties stood reread (IsHeard heard) e = subst (λ (ps : List Party). Any (λ (p : Party). p.ballot ≡ Some heard) ps) parties e
same_kept k l over parties stood reread (IsAsked answer) e = sym stood ∙ e
same_kept k l over parties stood reread (IsReread found) e = sym reread ∙ e

either_course : (P : Course → Type 0) (t : Bool) (x y : Course) → P x → P y → P (if t then x else y)
either_course P true x y h i = h
either_course P false x y h i = i

next_stays : (k : Course) → Stays (UnderWay k) (UnderWay (course.after_next k))
next_stays k = either_course (λ d. Stays (UnderWay k) (UnderWay d)) (is_some k.out) k (record k { out = course.errand k }) (same_kept k k refl refl refl refl) (same_kept k (record k { out = course.errand k }) refl refl refl refl)

either_way : (y : Fact) (s t : Standing) → Stays s t → StaysBut y s t
either_way y s t h x e = inl (h x e)

heard_kept : (k : Course) (e : Errand) (h g : ParticipantHeard) → Any (λ (p : Party). p.ballot ≡ Some g) (course.heard_by k.parties e h)
    → Any (λ (p : Party). p.ballot ≡ Some g) k.parties ⊎ (IsHeard g ≡ IsHeard h)
heard_kept k e h g a = by_place (slice_get k.parties e.place) refl a
  where
    by_stage : (p : Party) → slice_get k.parties e.place ≡ Some p → (s : Asked) → Any (λ (p : Party). p.ballot ≡ Some g) k.parties ⊎ ((course.heard_at s h p).ballot ≡ Some g)
        → Any (λ (p : Party). p.ballot ≡ Some g) k.parties ⊎ (IsHeard g ≡ IsHeard h)
    by_stage p j s (inl v) = inl v
    by_stage p j asks.Asking (inr v) = inr (ap (λ (y : ParticipantHeard). IsHeard y) (sym (same_Some h g v)))
    by_stage p j asks.Telling (inr v) = inl (any_there (λ (p : Party). p.ballot ≡ Some g) k.parties e.place p j v)
    by_stage p j asks.Forgetting (inr v) = inl (any_there (λ (p : Party). p.ballot ≡ Some g) k.parties e.place p j v)

    by_place : (o : Option Party) → slice_get k.parties e.place ≡ o
        → Any (λ (p : Party). p.ballot ≡ Some g) (elim o [ Some p ↦ slice_set k.parties e.place (course.heard_at e.stage h p) | None ↦ k.parties ])
        → Any (λ (p : Party). p.ballot ≡ Some g) k.parties ⊎ (IsHeard g ≡ IsHeard h)
    by_place None j a = inl a
    by_place (Some p) j a = by_stage p j e.stage (any_set_cases (λ (p : Party). p.ballot ≡ Some g) k.parties e.place (course.heard_at e.stage h p) a)

answered_stays : (k : Course) (e : Errand) (h : ParticipantHeard) → StaysBut (IsHeard h) (UnderWay k) (UnderWay (course.answered h k e))
answered_stays k e h (IsOver reason) i = inl i
answered_stays k e h (IsHeard heard) i = heard_kept k e h heard i
answered_stays k e h (IsAsked stood) i = inl i
answered_stays k e h (IsReread found) i = inl i

answer_stays : (s : Standing) (n : CallNumber) (h : ParticipantHeard) → StaysBut (IsHeard h) s (stages.after_answer n h s)
answer_stays (Waiting room) n h = λ x e. inl e
answer_stays (UnderWay k) n h = by_out k.out
  where
    itself : StaysBut (IsHeard h) (UnderWay k) (UnderWay k)
    itself = either_way (IsHeard h) (UnderWay k) (UnderWay k) (same_kept k k refl refl refl refl)

    by_out : (o : Option Errand) → StaysBut (IsHeard h) (UnderWay k) (UnderWay (elim o [ Some e ↦ if course.same_number n k.number then course.answered h k e else k | None ↦ k ]))
    by_out None = itself
    by_out (Some e) = either_course (λ d. StaysBut (IsHeard h) (UnderWay k) (UnderWay d)) (course.same_number n k.number) (course.answered h k e) k (answered_stays k e h) itself

some_stood : (k : Course) (stood : Stood) → StaysBut (IsAsked stood) (UnderWay k) (UnderWay (record k { stood = Some stood }))
some_stood k stood (IsOver reason) i = inl i
some_stood k stood (IsHeard heard) i = inl i
some_stood k stood (IsAsked answer) i = inr (ap (λ (y : Stood). IsAsked y) (sym (same_Some stood answer i)))
some_stood k stood (IsReread found) i = inl i

decided_stays : (s : Standing) (stood : Stood) → StaysBut (IsAsked stood) s (stages.after_decided stood s)
decided_stays (Waiting room) stood = λ x e. inl e
decided_stays (UnderWay k) stood = either_course (λ d. StaysBut (IsAsked stood) (UnderWay k) (UnderWay d)) (course.wants_decision k) (record k { stood = Some stood }) k (some_stood k stood) (λ x e. inl e)

some_reread : (k : Course) (found : Option ℕ) → StaysBut (IsReread found) (UnderWay k) (UnderWay (record k { reread = Some found }))
some_reread k found (IsOver reason) i = inl i
some_reread k found (IsHeard heard) i = inl i
some_reread k found (IsAsked answer) i = inl i
some_reread k found (IsReread place) i = inr (ap (λ (y : Option ℕ). IsReread y) (sym (same_Some found place i)))

reread_stays : (s : Standing) (found : Option ℕ) → StaysBut (IsReread found) s (stages.after_reread found s)
reread_stays (Waiting room) found = λ x e. inl e
reread_stays (UnderWay k) found = either_course (λ d. StaysBut (IsReread found) (UnderWay k) (UnderWay d)) (course.is_doubtful k) (record k { reread = Some found }) k (some_reread k found) (λ x e. inl e)

-- nobody has answered in a completion that begins
none_heard : (rs : List Registration) (g : ParticipantHeard) → Any (λ (p : Party). p.ballot ≡ Some g) (map party_of rs) → ⊥
none_heard rs g h = go rs h.0 h.2 h.3
  where
    go : (rs : List Registration) (k : ℕ) → k < length (map party_of rs) → get_or (map party_of rs) k h.1 ≡ h.1 → ⊥
    go [] k l e = absurd (omega (arith, l))
    go (r ∷ rs) zero l e = absurd (cc (ap (λ (p : Party). p.ballot) e ∙ h.4))
    go (r ∷ rs) (suc k) l e = go rs k (omega (arith, l)) e

asking_stays : (s : Standing) (some : List Registration) (asked : Bool) (n : CallNumber) (one : Bool) → Stays s (begun s (stages.started some asked n one))
asking_stays (Waiting room) some asked n one (IsOver reason) e = absurd (cc e)
asking_stays (Waiting room) some asked n one (IsHeard heard) e = absurd (none_heard some heard e)
asking_stays (Waiting room) some asked n one (IsAsked stood) e = absurd (cc e)
asking_stays (Waiting room) some asked n one (IsReread found) e = absurd (cc e)
asking_stays (UnderWay k) some asked n one x e = e

back_by : (reason : Reason) (t : Bool) (r : Reason) → (if t then Some reason else None) ≡ Some r → r ≡ reason
back_by reason true r e = cc e
back_by reason false r e = absurd (cc e)

back_stays : (s : Standing) (some : List Registration) (asked : Bool) (n : CallNumber) (one : Bool) (reason : Reason)
    → StaysBut (IsOver reason) s (begun s (stages.started_rollback some asked n one reason))
back_stays (Waiting room) some asked n one reason (IsOver r) e = inr (ap (λ (y : Reason). IsOver y) (back_by reason (is_outside reason) r e))
back_stays (Waiting room) some asked n one reason (IsHeard heard) e = absurd (none_heard some heard e)
back_stays (Waiting room) some asked n one reason (IsAsked stood) e = absurd (cc e)
back_stays (Waiting room) some asked n one reason (IsReread found) e = absurd (cc e)
back_stays (UnderWay k) some asked n one reason x e = inl e

-- ---- what a rule does, where its event may bring this, and a mark

module _ (R : Fact → Type 0) (M : Type 0) where
  -- marked before, or by this
  abbrev pub IsMarkedBy : Family → Type 0
  IsMarkedBy f = (is_marked f 0 ≡ true) ⊎ M

  -- the completion kept it before, the event brings it, or it is rolled back since the transaction is marked
  abbrev pub IsBrought : Family → Fact → Type 0
  IsBrought f x = Keeps f.completion x ⊎ (R x ⊎ ((x ≡ IsOver reasons.Marked) × IsMarkedBy f))

  pub record IsTraced (deadline : Option ℕ) (f : Family) (later : Family) : Type 0 where
    pub dated : later.deadline ≡ deadline
    pub marks : is_marked later 0 ≡ true → IsMarkedBy f
    pub brought : (x : Fact) → Keeps later.completion x → IsBrought f x

  abbrev pub Traced : Family → Moved → Type 0
  Traced f m = IsTraced f.deadline f m.family

  pub chained : (f : Family) (first : Moved) (next : Family → Moved) → Traced f first → Traced first.family (next first.family) → Traced f (first ▹ next)
  chained f first next h k = record {
    dated = k.dated ∙ h.dated;
    marks = λ e. mark (k.marks e);
    brought = λ r e. bring r (k.brought r e);
  }
    where
      mark : IsMarkedBy first.family → IsMarkedBy f
      mark (inl e) = h.marks e
      mark (inr m) = inr m

      bring : (r : Fact) → IsBrought first.family r → IsBrought f r
      bring r (inl e) = h.brought r e
      bring r (inr (inl b)) = inr (inl b)
      bring r (inr (inr m)) = inr (inr (m.0, mark m.1))

  pub either : (f : Family) (t : Bool) (x y : Moved) → Traced f x → Traced f y → Traced f (if t then x else y)
  either f true x y h k = h
  either f false x y h k = k

  -- its mark, its time and its completion stay
  pub still : (f later : Family) → later.deadline ≡ f.deadline → later.rows ≡ f.rows → later.completion ≡ f.completion → IsTraced f.deadline f later
  still f later d r c = record {
    dated = d;
    marks = λ e. inl (subst (λ (rs : List Row). has_mark (state rs 0) ≡ true) r e);
    brought = λ x e. inl (subst (λ (s : Standing). Keeps s x) c e);
  }

  pub itself : (f : Family) → Traced f (only f)
  itself f = still f f refl refl refl

  sends_traced : (b : ℕ) (c : Call) (n : Notice) (r : Option Receipt) (f : Family) → Traced f (sends b c n r f)
  unfolding sends
  sends_traced b c n r f = still f _ refl refl refl

  ends_call_traced : (b : ℕ) (c : Call) (answer : Said) (f : Family) → Traced f (ends_call b c answer f)
  unfolding ends_call
  ends_call_traced b c answer f = still f _ refl refl refl

  waits_traced : (b : ℕ) (c : Call) (f : Family) → Traced f (waits b c f)
  waits_traced b c f = still f _ refl refl refl

  -- but for what is brought
  brought_but : (y : Fact) (f : Family) (later : Standing) → StaysBut y f.completion later → IsBrought f y → (x : Fact) → Keeps later x → IsBrought f x
  brought_but y f later h b x e = go (h x e)
    where
      go : Keeps f.completion x ⊎ (x ≡ y) → IsBrought f x
      go (inl k) = inl k
      go (inr i) = subst (λ (z : Fact). IsBrought f z) (sym i) b

  completes_traced : (y : Fact) (later : Standing) (f : Family) → StaysBut y f.completion later → R y → Traced f (completes_as later f)
  unfolding completes_as
  completes_traced y later f h r = record { dated = refl; marks = λ e. inl e; brought = brought_but y f later h (inr (inl r)) }

  -- ---- the top-level transaction ends

  finishes_traced : (c : Call) (fixed : Outcome) (f : Family) → Traced f (finishes c fixed f)
  unfolding finishes ends_call
  finishes_traced c fixed f = still f _ refl refl refl

  tells_next_traced : (o : Option Registration) (called : ℕ) (c : Call) (fixed : Outcome) (f : Family) → Traced f (tells_next o called c fixed f)
  tells_next_traced (Some r) called c fixed f = sends_traced 0 _ _ None f
  tells_next_traced None called c fixed f = finishes_traced c fixed f

  afterwards_traced : (called : ℕ) (c : Call) (fixed : Outcome) (f : Family) → Traced f (afterwards called c fixed f)
  unfolding afterwards
  afterwards_traced called c fixed f = tells_next_traced (next_told f fixed called) called c fixed f

  rests_traced : (c : Call) (o : Option Outcome) (f : Family) → Traced f (rests c o f)
  rests_traced c (Some fixed) f = afterwards_traced 0 c fixed f
  rests_traced c None f = waits_traced 0 c f

  sent_traced : (k : Course) (o : Option Outward) (c : Call) (f : Family) → IsTraced f.deadline (record f { completion = UnderWay k }) (decides_by o c (record f { completion = UnderWay k })).family
  unfolding sends
  sent_traced k (Some w) c f = record { dated = refl; marks = λ e. inl e; brought = λ r e. inl (next_stays k r e) }
  sent_traced k None c f = rests_traced c (course.outcome k) (record f { completion = UnderWay k })

  decides_from : (s : Standing) (c : Call) (f : Family) → IsTraced f.deadline (record f { completion = s }) (decides c (record f { completion = s })).family
  unfolding decides
  decides_from (Waiting room) c f = rests_traced (record c { leg = Deciding }) None (record f { completion = Waiting room })
  decides_from (UnderWay k) c f = sent_traced k (course.next_word k) (record c { leg = Deciding }) f

  decides_traced : (c : Call) (f : Family) → Traced f (decides c f)
  decides_traced c f = decides_from f.completion c f

  asks_traced : (asked : Bool) (f : Family) → Traced f (begins (asking asked f) f)
  unfolding begins completes_as
  asks_traced asked f = record {
    dated = refl;
    marks = λ e. inl e;
    brought = λ r e. inl (asking_stays f.completion (asked_ones f) asked (number_of f 1) (is_none f.superior) r e);
  }

  -- a rollback for a reason that is brought
  pub rolls_traced : (asked : Bool) (reason : Reason) (f : Family) → IsBrought f (IsOver reason) → Traced f (begins (rolling_back asked reason f) f)
  unfolding begins completes_as
  rolls_traced asked reason f b = record {
    dated = refl;
    marks = λ e. inl e;
    brought = brought_but (IsOver reason) f _ (back_stays f.completion (asked_ones f) asked (number_of f 1) (is_none f.superior) reason) b;
  }

  calls_next_traced : (o : Option Registration) (called : ℕ) (c : Call) (f : Family) → Traced f (calls_next o called c f)
  calls_next_traced (Some r) called c f = sends_traced 0 _ _ None f
  calls_next_traced None called c f =
      chained f (begins (asking (asked_of c.aim) f) f) (decides c) (asks_traced (asked_of c.aim) f) (decides_traced c (begins (asking (asked_of c.aim) f) f).family)

  before_traced : (called : ℕ) (c : Call) (f : Family) → Traced f (before called c f)
  unfolding before
  before_traced called c f = go (is_marked f 0) refl
    where
      go : (t : Bool) → is_marked f 0 ≡ t → Traced f (if t then gives_up reasons.Marked c f ▹ decides c else calls_next (next_synchronization f called) called c f)
      go true e = chained f (gives_up reasons.Marked c f) (decides c) (rolls_traced (asked_of c.aim) reasons.Marked f (inr (inr (refl, inl e))))
          (decides_traced c (gives_up reasons.Marked c f).family)
      go false e = calls_next_traced (next_synchronization f called) called c f

  -- ---- a call goes on

  tells_first_traced : (some : List Duty) (b : ℕ) (c : Call) (next : Family → Moved) (f : Family) → Traced f (next f) → Traced f (tells_first some b c next f)
  tells_first_traced [] b c next f h = h
  tells_first_traced (d ∷ others) b c next f h = sends_traced b _ (duty_notice d) None f

  ended_traced : (f later : Family) (b : ℕ) (committed : Bool) → later.deadline ≡ f.deadline → later.rows ≡ ended f.rows b committed → later.completion ≡ f.completion
      → IsTraced f.deadline f later
  ended_traced f later b committed d r c = record {
    dated = d;
    marks = λ e. inl (ended_mark f.rows b committed (subst (λ (rs : List Row). has_mark (state rs 0) ≡ true) r e));
    brought = λ x e. inl (subst (λ (s : Standing). Keeps s x) c e);
  }

  commits_up_traced : (b : ℕ) (o : Option ℕ) (c : Call) (f : Family) → Traced f (commits_up b o c f)
  unfolding commits_up
  commits_up_traced b (Some p) c f =
      let g : Family = record f { rows = ended f.rows b true; ballots = adopted b p f.ballots } in
      chained f (shows (effects.SubtransactionEnded b true ∷ []) g) (ends_call b c said.Plain) (ended_traced f g b true refl refl refl) (ends_call_traced b c said.Plain g)
  commits_up_traced b None c f = waits_traced b c f

  own_ends_traced : (aim : Aim) (b : ℕ) (c : Call) (f : Family) → Traced f (own_ends aim b c f)
  own_ends_traced (Commits asked) b c f = commits_up_traced b (adopter f.rows b) c f
  own_ends_traced (RollsBack says) b c f = ends_call_traced b c says f

  tells_own_traced : (b : ℕ) (c : Call) (f : Family) → Traced f (tells_own b c f)
  unfolding tells_own
  tells_own_traced b c f = tells_first_traced (own_duties c.aim b f) b _ _ f (own_ends_traced c.aim b _ f)

  passes_top_traced : (stage : Stage) (c : Call) (f : Family) → Traced f (passes_top stage c f)
  passes_top_traced Going c f = decides_traced c f
  passes_top_traced Finishing c f = before_traced 0 c f
  passes_top_traced Completing c f = decides_traced c f
  passes_top_traced Over c f = decides_traced c f

  passes_traced : (b : ℕ) (c : Call) (f : Family) → Traced f (passes b c f)
  unfolding passes
  passes_traced b c f = either f (b == 0) _ _ (passes_top_traced f.stage c f) (tells_own_traced b c f)

  ends_below_traced : (d : ℕ) (f : Family) → Traced f (ends_below d f)
  unfolding ends_below
  ends_below_traced d f = ended_traced f _ d false refl refl refl

  sweeps_next_traced : (o : Option ℕ) (b : ℕ) (c : Call) (next : Family → Moved) → ((g : Family) → Traced g (next g)) → (f : Family) → Traced f (sweeps_next o b c next f)
  sweeps_next_traced (Some d) b c next all f =
      chained f (ends_below d f) (tells_first (duties_below d f) b c next) (ends_below_traced d f)
      (tells_first_traced (duties_below d f) b c next (ends_below d f).family (all (ends_below d f).family))
  sweeps_next_traced None b c next all f = passes_traced b c f

  sweeps_traced : (n b : ℕ) (c : Call) (f : Family) → Traced f (sweeps n b c f)
  unfolding sweeps
  sweeps_traced zero b c f = passes_traced b c f
  sweeps_traced (suc n) b c f = sweeps_next_traced (live_under f.rows b) b c (sweeps n b c) (sweeps_traced n b c) f

  tells_after_traced : (o : Option Outcome) (called : ℕ) (c : Call) (f : Family) → Traced f (tells_after o called c f)
  tells_after_traced (Some fixed) called c f = afterwards_traced called c fixed f
  tells_after_traced None called c f = waits_traced 0 c f

  by_leg_traced : (leg : Leg) (b : ℕ) (c : Call) (f : Family) → Traced f (by_leg leg b c f)
  by_leg_traced Below b c f = sweeps_traced (length f.rows) b c f
  by_leg_traced Own b c f = own_ends_traced c.aim b c f
  by_leg_traced (Before called) b c f = before_traced called c f
  by_leg_traced Deciding b c f = decides_traced c f
  by_leg_traced (After called) b c f = tells_after_traced (stages.outcome f.completion) called c f

  pub runs_traced : (b : ℕ) (c : Call) (f : Family) → Traced f (runs b c f)
  unfolding runs
  runs_traced b c f = either f (is_held b c f) _ _ (waits_traced b c f) (tells_first_traced c.left b c _ f (by_leg_traced c.leg b c f))

  runs_call_traced : (o : Option Call) (b : ℕ) (f : Family) → Traced f (runs_call o b f)
  runs_call_traced (Some c) b f = runs_traced b c f
  runs_call_traced None b f = itself f

  goes_on_traced : (b : ℕ) (f : Family) → Traced f (goes_on b f)
  unfolding goes_on
  goes_on_traced b f = runs_call_traced (call_at f b) b f

  goes_on_at_traced : (o : Option ℕ) (f : Family) → Traced f (goes_on_at o f)
  goes_on_at_traced (Some b) f = goes_on_traced b f
  goes_on_at_traced None f = itself f

  -- ---- marks

  pub marks_traced : (b : ℕ) (f : Family) → (b ≡ 0 → M) → Traced f (marks b f)
  unfolding marks
  marks_traced b f m = either f (is_markable f b) _ _
      (record { dated = refl; marks = λ e. go (marked_mark f.rows b e); brought = λ r e. inl e }) (itself f)
    where
      go : (is_marked f 0 ≡ true) ⊎ (b ≡ 0) → IsMarkedBy f
      go (inl e) = inl e
      go (inr e) = inr (m e)

  marks_parent_traced : (o : Option ℕ) (f : Family) → M → Traced f (marks_parent o f)
  marks_parent_traced (Some above) f m = marks_traced above f (λ e. m)
  marks_parent_traced None f m = itself f

  -- ---- an answer

  module _ (h : Heard) (refused : is_plain h ≡ false → M) (given : (called : ℕ) → is_plain h ≡ false → R (IsOver (reason_of called h))) (heard_so : R (IsHeard (of_participant h))) where
    told_commit_traced : (b : ℕ) (f : Family) → Traced f (told_commit b h f)
    unfolding told_commit
    told_commit_traced b f = go (is_plain h) refl
      where
        go : (t : Bool) → is_plain h ≡ t → Traced f (if t || has_parent_ended f b then only f else marks_parent (parent f.rows b) f)
        go true e = itself f
        go false e = either f (has_parent_ended f b) _ _ (itself f) (marks_parent_traced (parent f.rows b) f (refused e))

    told_end_traced : (aim : Aim) (b : ℕ) (f : Family) → Traced f (told_end aim b h f)
    told_end_traced (Commits asked) b f = told_commit_traced b f
    told_end_traced (RollsBack says) b f = itself f

    told_before_traced : (b called : ℕ) (c : Call) (f : Family) → Traced f (told_before b called c h f)
    unfolding told_before
    told_before_traced b called c f = go (is_plain h) refl
      where
        g : Family
        g = with_call b (record c { leg = Deciding }) f

        go : (t : Bool) → is_plain h ≡ t → Traced f (if t then only f else gives_up (reason_of called h) c g)
        go true e = itself f
        go false e = let t = rolls_traced (asked_of c.aim) (reason_of called h) g (inr (inl (given called e))) in record { dated = t.dated; marks = t.marks; brought = t.brought }

    told_participant_traced : (n : CallNumber) (f : Family) → Traced f (told_participant n h f)
    unfolding told_participant
    told_participant_traced n f =
        let later : Standing = stages.after_answer (inner_number f f.completion n) (of_participant h) f.completion in
        chained f (shows (vote_effects (of_participant h) (stages.voter f.completion)) f) (completes_as later) (itself f)
        (completes_traced (IsHeard (of_participant h)) later f (answer_stays f.completion (inner_number f f.completion n) (of_participant h)) heard_so)

    told_traced : (leg : Leg) (n : CallNumber) (b : ℕ) (c : Call) (f : Family) → Traced f (told leg n b c h f)
    told_traced Below n b c f = itself f
    told_traced Own n b c f = told_end_traced c.aim b f
    told_traced (Before called) n b c f = told_before_traced b called c f
    told_traced Deciding n b c f = told_participant_traced n f
    told_traced (After called) n b c f = itself f

    hears_at_traced : (n : CallNumber) (b : ℕ) (c : Call) (f : Family) → Traced f (hears_at n b c h f)
    unfolding hears_at
    hears_at_traced n b c f = let t = told_traced c.leg n b (record c { out = None }) (with_call b (record c { out = None }) f) in record { dated = t.dated; marks = t.marks; brought = t.brought }

    hears_call_traced : (o : Option Call) (b : ℕ) (n : CallNumber) (f : Family) → Traced f (hears_call o b n h f)
    hears_call_traced (Some c) b n f = hears_at_traced n b c f
    hears_call_traced None b n f = itself f

    hears_for_traced : (o : Option ℕ) (n : CallNumber) (f : Family) → Traced f (hears_for o n h f)
    hears_for_traced (Some b) n f = hears_call_traced (call_at f b) b n f
    hears_for_traced None n f = itself f

  -- ---- the journal

  answers_doubt_traced : (why : Doubted) (o : Option Call) (f : Family) → Traced f (answers_doubt why o f)
  unfolding answers_doubt
  answers_doubt_traced why (Some c) f = still f _ refl refl refl
  answers_doubt_traced why None f = itself f

  doubts_by_traced : (stood : Stood) (f : Family) → Traced f (doubts_by stood f)
  doubts_by_traced (answers.Stands place) f = itself f
  doubts_by_traced (answers.Full used need) f = itself f
  doubts_by_traced (answers.Unsure why) f =
      chained f (shows (effects.Doubted ∷ []) f) (λ g. answers_doubt why (call_at g 0) g) (itself f) (answers_doubt_traced why (call_at f 0) f)

  decided_traced : (stood : Stood) (f : Family) → R (IsAsked stood) → Traced f (decided stood f)
  unfolding decided
  decided_traced stood f r =
      chained f (completes_as (stages.after_decided stood f.completion) f) (doubts_by stood)
      (completes_traced (IsAsked stood) (stages.after_decided stood f.completion) f (decided_stays f.completion stood) r)
      (doubts_by_traced stood (completes_as (stages.after_decided stood f.completion) f).family)

  closes_traced : (stood : Stood) (f : Family) → Traced f (closes stood f)
  unfolding closes
  closes_traced stood f = still f _ refl refl refl

  settles_traced : (stood : Option Stood) (f : Family) → ((answer : Stood) → stood ≡ Some answer → R (IsAsked answer)) → Traced f (settles stood f)
  unfolding settles
  settles_traced None f r = itself f
  settles_traced (Some stood) f r = either f (stages.wants_decision f.completion) _ _ (decided_traced stood f (r stood refl))
      (either f (wants_done f) _ _ (closes_traced stood f) (itself f))

  pub answered_traced : (n : CallNumber) (h : Heard) (stood : Option Stood) (f : Family) → (is_plain h ≡ false → M) → ((called : ℕ) → is_plain h ≡ false → R (IsOver (reason_of called h)))
      → R (IsHeard (of_participant h)) → ((answer : Stood) → stood ≡ Some answer → R (IsAsked answer)) → Traced f (answered n h stood f)
  unfolding answered hears
  answered_traced n h stood f refused given heard_now asked_now =
      let heard : Moved = hears_for (waiting_for f n) n h f in
      let settled : Moved = heard ▹ settles stood in
      chained f settled (goes_on_at (waiting_for f n))
      (chained f heard (settles stood) (hears_for_traced h refused given heard_now (waiting_for f n) n f) (settles_traced stood heard.family asked_now))
      (goes_on_at_traced (waiting_for f n) settled.family)

  pub rereads_traced : (stood : Option Stood) (f : Family) → R (IsReread (found_at stood)) → Traced f (rereads stood f)
  unfolding rereads
  rereads_traced stood f r =
      let found : Moved = completes_as (stages.after_reread (found_at stood) f.completion) f in
      chained f found (goes_on 0) (completes_traced (IsReread (found_at stood)) (stages.after_reread (found_at stood) f.completion) f (reread_stays f.completion (found_at stood)) r)
      (goes_on_traced 0 found.family)

  -- ---- a call begins

  pub rolls_back_top_traced : (reason : Reason) (caller : Option ℕ) (answer : Said) (f : Family) → IsBrought f (IsOver reason) → Traced f (rolls_back_top reason caller answer f)
  unfolding rolls_back_top
  rolls_back_top_traced reason caller answer f b =
      let first : Moved = begins (rolling_back false reason f) f in
      chained f first (runs 0 (new_call caller (RollsBack answer))) (rolls_traced false reason f b) (runs_traced 0 (new_call caller (RollsBack answer)) first.family)

  rolls_back_sub_traced : (b : ℕ) (caller : Option ℕ) (answer : Said) (f : Family) → Traced f (rolls_back_sub b caller answer f)
  unfolding rolls_back_sub
  rolls_back_sub_traced b caller answer f =
      let g : Family = record f { rows = ended f.rows b false } in
      chained f (shows (effects.SubtransactionEnded b false ∷ []) g) (runs b (new_call caller (RollsBack answer))) (ended_traced f g b false refl refl refl)
      (runs_traced b (new_call caller (RollsBack answer)) g)

  pub rolls_back_traced : (b : ℕ) (reason : Reason) (caller : Option ℕ) (answer : Said) (f : Family) → (b ≡ 0 → IsBrought f (IsOver reason)) → Traced f (rolls_back b reason caller answer f)
  rolls_back_traced b reason caller answer f brought = go (b == 0) refl
    where
      go : (t : Bool) → (b == 0) ≡ t → Traced f (if t then rolls_back_top reason caller answer f else rolls_back_sub b caller answer f)
      go true e = rolls_back_top_traced reason caller answer f (brought (zero_is b e))
      go false e = rolls_back_sub_traced b caller answer f

  pub begins_commit_traced : (b position : ℕ) (asked : Bool) (f : Family) → Traced f (begins_commit b position asked f)
  unfolding begins_commit
  begins_commit_traced b position asked f = go (b == 0)
    where
      staged : Traced f (runs b (new_call (Some position) (Commits asked)) (record f { stage = Finishing }))
      staged = let t = runs_traced b (new_call (Some position) (Commits asked)) (record f { stage = Finishing }) in record { dated = t.dated; marks = t.marks; brought = t.brought }

      go : (t : Bool) → Traced f (runs b (new_call (Some position) (Commits asked)) (if t then record f { stage = Finishing } else f))
      go true = staged
      go false = runs_traced b (new_call (Some position) (Commits asked)) f
