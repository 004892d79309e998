-- Where a family asks for its own Done, each resource that its decision names has answered commit, and has stored its updates.
use Rattle.std.proofs.Common.{◌≡◌, ◌⊎◌, inl, inr, ℕ, zero, suc, ◌+◌, ◌==◌, ◌&&◌, ◌||◌, Bool, true, false, IsTrue, is_some, if◌then◌else◌, List, [], ◌∷◌, slice_get, slice_set, Contains, Option, Some, None, refl, sym, ap, subst, ◌∙◌, arith}
use Rattle.std.specs.List.{Any, list_any}
use Rattle.std.specs.Option.{option_map, option_map_or}
use Rattle.std.proofs.lemmas.Bool.Decides.{nat_tests}
use Rattle.std.proofs.lemmas.List.Folds.{Any-from_list_any, list_any-from_Any}
use Rattle.std.proofs.lemmas.Option.{slice_get-get_or}
use Rattle.ior_refs.specs.declared.key.ObjectKey.{ObjectKey}
use Rattle.ots_model.specs.Heard.{of_participant}
use Rattle.ots_model.specs.Safe.{Stands, TakesPart}
use Rattle.ots_model.specs.declared.completion.CallNumber.{CallNumber}
use Rattle.ots_model.specs.declared.completion.Ground.TheVariants.{Record}
use Rattle.ots_model.specs.declared.completion.Heard.{Heard as ParticipantHeard}
use Rattle.ots_model.specs.declared.completion.Heard.TheVariants as phase_hears
use Rattle.ots_model.specs.declared.completion.Vote.TheVariants.{VoteCommit}
use Rattle.ots_model.specs.declared.completion.Word.TheVariants as phase_words
use Rattle.ots_model.specs.declared.line.Line.TheVariants as lines
use Rattle.ots_model.specs.declared.tree.Heard.{Heard}
use Rattle.ots_model.specs.declared.completion.Outcome.TheVariants as outcomes
use Rattle.ots_model.specs.declared.tree.Outward.{Outward}
use Rattle.ots_model.specs.declared.tree.Word.TheVariants as words
use Rattle.resource_end.specs.declared.state.State.{State}
use Rattle.resource_end.specs.declared.state.State.TheVariants as states
use Rattle.resource_votes.specs.Ballots.{participants}
use Rattle.resource_votes.specs.declared.registration.Registration.{Registration}
use Rattle.two_phase.specs.Course as course
use Rattle.two_phase.specs.Course.{Course}
use Rattle.two_phase.specs.LawsOfReached.TreeBecomes.{by_answer}
use Rattle.two_phase.specs.Stages as stages
use Rattle.two_phase.specs.Stages.{Standing, Room, Waiting, Going as UnderWay}
use Rattle.two_phase.specs.declared.party.Errand.{Errand}
use Rattle.two_phase.specs.declared.party.Party.{Party}
use Rattle.two_phase.specs.declared.party.Stage.{Stage as Round}
use Rattle.two_phase.specs.declared.party.Stage.TheVariants as rounds
use Rattle.decision_journal.specs.declared.record.JournalRecord.{JournalRecord}
use Rattle.decision_journal.specs.declared.record.JournalRecord.TheVariants.{Life, Decision, Done, Prepared, CellsPrepared, CellsOutcome, CellsOnePhase}
use Rattle.coordinator.specs.Family.{Family, Aim, Call, Commits, RollsBack, call_at, waiting_for, with_call}
use Rattle.coordinator.specs.Hearing.{decision_record, hears_at, inner_number, is_markable, is_plain, marks, marks_parent, record_place, told, told_commit, told_end, told_participant, wants_done}
use Rattle.coordinator.specs.Laws.{FamiliesStepRightly}
use Rattle.coordinator.specs.Moves.{completes_as, only, shows}
use Rattle.coordinator.specs.Names.{coordinator_kind}
use Rattle.coordinator.specs.Node.{Node, family_in}
use Rattle.coordinator.specs.Phases.{has_parent_ended}
use Rattle.coordinator.specs.Step.{Appends, WritesDone, hears, hears_call, hears_for, wanted, wanted_by}
use Rattle.coordinator.specs.declared.call.Leg.{Leg}
use Rattle.coordinator.specs.declared.call.Leg.TheVariants.{Below, Own, Before, Deciding, After}
use Rattle.coordinator.specs.declared.effect.Effect.TheVariants as effects
use Rattle.coordinator.specs.declared.event.Event.{Event}
use Rattle.coordinator.specs.declared.said.Said.{Said}
use Rattle.txn_tree.specs.Calls.{marked}
use Rattle.txn_tree.specs.Rows.{parent}
use Rattle.family_laws.specs.LawsOfJournal.{CompletesAll, FamiliesCloseLast, HasCompleted}
use Rattle.family_laws.specs.LawsOfTelling.{FamiliesHearOutcomesAnswered, FamiliesNumberWords, IsVoted}
use Rattle.family_laws.specs.Sound.{HasParties, IsOfSub}
use Rattle.nodes_world.specs.CompletionLaws.{CompletionLaws}
use Rattle.nodes_world.specs.declared.message.Content.TheVariants as contents
use Rattle.nodes_world.specs.Agreement.{IsTransaction, IsWord, has_record, is_decision_of, is_registration_of, names_object, recorded_key, records_at}
use Rattle.nodes_world.specs.AgreementInside.{FamilyIsKnown, IsBack, IsNotBefore, Known, phase_of, is_asking}
use Rattle.nodes_world.specs.AgreementSteps.{StepsStayKnown}
use Rattle.nodes_world.specs.Deliveries.{answer_event, heard_in}
use Rattle.nodes_world.specs.Objects.{place_of, service_at}
use Rattle.nodes_world.specs.OverForGood.{ClosedFamiliesAreStored, IsAt}
use Rattle.nodes_world.specs.Told.{Told, known}
use Rattle.nodes_world.specs.World.{World, NamedKey, family_at, node_at, referred}
use Rattle.nodes_world.proofs.AnsweredCommits.{HasAnsweredCommit, answered_stored, replied_commit}
use Rattle.nodes_world.proofs.AnswersKeep.{hears_keeps}
use Rattle.nodes_world.proofs.AskedCalls.{NobodyVotes, call_cases, deaf_wants, nobody_hears, nothing_fixed}
use Rattle.nodes_world.proofs.AskedCounts.{IsRegisteredAs, any_set_cases}
use Rattle.nodes_world.proofs.AskedKeeps.{asked_no_done, without_out}
use Rattle.nodes_world.proofs.CallKnown.{tidy_of}
use Rattle.nodes_world.proofs.CanTell.{part_back}
use Rattle.nodes_world.proofs.DecisionFits.{all_registered}
use Rattle.nodes_world.proofs.KnownFamilies.{all_at, participant_there}
use Rattle.nodes_world.proofs.KnownLines.{among_turned, lines_of, part_among}
use Rattle.nodes_world.proofs.KnownWords.{sent_of}
use Rattle.nodes_world.proofs.MessagesGo.{HasContent}
use Rattle.nodes_world.proofs.NamedVotes.{one_reference}
use Rattle.nodes_world.proofs.Reaching.{known_reached}
use Rattle.nodes_world.proofs.RulesKeep.{registered_of}
use Rattle.nodes_world.proofs.StoredAnswers.{stored_reached}
use Rattle.nodes_world.proofs.ToldParties.{AreNumbered, IsTelling, IsTold, SameParties, TellsAt, becomes_same, each_of, itself_same, same_at}
use Rattle.nodes_world.proofs.ToldReplied.{IsReplied, ToldReplied, decides, slot_found, slot_place, slot_service}
use Rattle.nodes_world.proofs.ToldStored.{outcome_cases, replied_reached, stored_at}

inner : {A : Type 0} {x y : A} → Some x ≡ Some y → x ≡ y
inner e = cc

-- ---- what a completion is once an answer was heard

same_marks : (b : ℕ) (f : Family) → (marks b f).family.completion ≡ f.completion
unfolding marks
same_marks b f = by (is_markable f b)
  where
    by : (t : Bool) → (if t then shows (effects.Marked b ∷ []) (record f { rows = marked f.rows b }) else only f).family.completion ≡ f.completion
    by true = refl
    by false = refl

same_parent : (o : Option ℕ) (f : Family) → (marks_parent o f).family.completion ≡ f.completion
same_parent (Some above) f = same_marks above f
same_parent None f = refl

same_end : (aim : Aim) (b : ℕ) (h : Heard) (f : Family) → (told_end aim b h f).family.completion ≡ f.completion
unfolding told_commit
same_end (Commits asked) b h f = ended (is_plain h || has_parent_ended f b)
  where
    ended : (t : Bool) → (if t then only f else marks_parent (parent f.rows b) f).family.completion ≡ f.completion
    ended true = refl
    ended false = same_parent (parent f.rows b) f
same_end (RollsBack says) b h f = refl

-- it is as it was, or the call at the decision has heard the answer
abbrev pub HeardAs : Family → CallNumber → Heard → ℕ → Standing → Type 0
HeardAs f n h b s = (s ≡ f.completion)
    ⊎ ((c : Call) × (call_at f b ≡ Some c) × (c.leg ≡ Deciding) × (s ≡ stages.after_answer (inner_number f f.completion n) (of_participant h) f.completion))

heard_leg : (leg : Leg) (n : CallNumber) (b : ℕ) (c : Call) (h : Heard) (f : Family) → IsNotBefore leg
    → ((told leg n b (without_out c) h (with_call b (without_out c) f)).family.completion ≡ f.completion)
    ⊎ ((leg ≡ Deciding) × ((told leg n b (without_out c) h (with_call b (without_out c) f)).family.completion
    ≡ stages.after_answer (inner_number f f.completion n) (of_participant h) f.completion))
unfolding told_participant completes_as
heard_leg Below n b c h f never = inl refl
heard_leg Own n b c h f never = inl (same_end c.aim b h (with_call b (without_out c) f))
heard_leg (Before so_many) n b c h f never = absurd never
heard_leg Deciding n b c h f never = inr (refl, refl)
heard_leg (After so_many) n b c h f never = inl refl

heard_call : (o : Option Call) (n : CallNumber) (b : ℕ) (h : Heard) (f : Family) → call_at f b ≡ o → ((c : Call) → call_at f b ≡ Some c → IsNotBefore c.leg)
    → HeardAs f n h b (hears_call o b n h f).family.completion
unfolding hears_at
heard_call (Some c) n b h f at legs = elim (heard_leg c.leg n b c h f (legs c at)) [
  | inl same ↦ inl same
  | inr now ↦ inr (c, at, now.0, now.1)
]
heard_call None n b h f at legs = inl refl

pub heard_as : (f : Family) (n : CallNumber) (h : Heard) (b : ℕ) → waiting_for f n ≡ Some b → ((c : Call) → call_at f b ≡ Some c → IsNotBefore c.leg)
    → HeardAs f n h b (hears n h f).family.completion
unfolding hears
heard_as f n h b waits legs = subst (λ (o : Option ℕ). HeardAs f n h b (hears_for o n h f).family.completion) (sym waits) (heard_call (call_at f b) n b h f refl legs)

-- one that has been told then was so before, or is told by the word that is out
abbrev IsToldSo : List ℕ → ParticipantHeard → Party → Type 0
IsToldSo to y p = (p.told ≡ Some y) × (p.to ≡ to)

round_told : (round : Round) (h : ParticipantHeard) (p : Party) (to : List ℕ) (y : ParticipantHeard) → IsToldSo to y (course.heard_at round h p)
    → IsToldSo to y p ⊎ ((round ≡ rounds.Telling) × (p.to ≡ to))
round_told rounds.Asking h p to y is = inl is
round_told rounds.Telling h p to y is = inr (refl, is.1)
round_told rounds.Forgetting h p to y is = inl is

has_party : (ps : List Party) (i : ℕ) (p : Party) (P : Party → Type 0) → slice_get ps i ≡ Some p → P p → Any P ps
has_party [] i p P is so = absurd cc
has_party (x ∷ ps) zero p P is so = (0, x, omega arith, refl, subst P (sym (inner is)) so)
has_party (x ∷ ps) (suc i) p P is so =
    let at = has_party ps i p P is so in
    let within = at.2 in
    (suc at.0, at.1, omega (arith, within), at.3, at.4)

told_before : (k : Course) (h : ParticipantHeard) (to : List ℕ) (y : ParticipantHeard) (t : Bool) (o : Option Errand) → k.out ≡ o
    → Any (IsToldSo to y) (elim o as (λ _. Course) [ Some e ↦ if t then course.answered h k e else k | None ↦ k ]).parties → Any (IsToldSo to y) k.parties ⊎ TellsAt k to
told_before k h to y t None out any = inl any
told_before k h to y false (Some e) out any = inl any
told_before k h to y true (Some e) out any = by (slice_get k.parties e.place) refl any
  where
    sort : (p : Party) → slice_get k.parties e.place ≡ Some p → Any (IsToldSo to y) k.parties ⊎ IsToldSo to y (course.heard_at e.stage h p)
        → Any (IsToldSo to y) k.parties ⊎ TellsAt k to
    sort p there (inl was) = inl was
    sort p there (inr now) = elim (round_told e.stage h p to y now) [
      | inl was ↦ inl (has_party k.parties e.place p (IsToldSo to y) there was)
      | inr tells ↦ inr (e, p, out, tells.0, there, tells.1)
    ]

    by : (o : Option Party) → slice_get k.parties e.place ≡ o
        → Any (IsToldSo to y) (elim o as (λ _. List Party) [ Some p ↦ slice_set k.parties e.place (course.heard_at e.stage h p) | None ↦ k.parties ])
        → Any (IsToldSo to y) k.parties ⊎ TellsAt k to
    by (Some p) there any = sort p there (any_set_cases (IsToldSo to y) k.parties e.place (course.heard_at e.stage h p) any)
    by None there any = inl any

is_told : (c : Course) (to : List ℕ) (y : ParticipantHeard) → Any (IsToldSo to y) c.parties → IsTold (UnderWay c) to y
is_told c to y (i, p, less, at, (told_so, own)) = (p, (i, less, at), told_so, own)

-- ---- the records of a family

both : (a b : Bool) → (a && b) ≡ true → (a ≡ true) × (b ≡ true)
both true b is = (refl, is)
both false b is = absurd cc

same_parts : (a b c x y z : ℕ) → (a == x && b == y && c == z) ≡ true → (a ≡ x) × (b ≡ y) × (c ≡ z)
same_parts a b c x y z is = grind (arith, nat_tests)

key_is : (key : ObjectKey) (service life slot generation : ℕ) → key.kind ≡ coordinator_kind → service ≡ key.service → life ≡ key.life → slot ≡ key.slot
    → generation ≡ key.generation → key.index ≡ 0
    → ◌≡◌ {A = ObjectKey} (record { kind = coordinator_kind; service = service; life = life; slot = slot; generation = generation; index = 0 })
    (record { kind = key.kind; service = key.service; life = key.life; slot = key.slot; generation = key.generation; index = key.index })
key_is key service life slot generation kind one two three four first = cc

-- a record that is the decision of a family, and names an object
abbrev DecidesFor : JournalRecord → ObjectKey → List ℕ → Type 0
DecidesFor (Decision life slot generation retry asked regs) key to =
    (life ≡ key.life) × (slot ≡ key.slot) × (generation ≡ key.generation) × IsTrue (list_any (is_registration_of to) regs)
DecidesFor _ key to = ⊥

decides_for : (r : JournalRecord) (key : ObjectKey) (to : List ℕ) → (is_decision_of key r && names_object to r) ≡ true → DecidesFor r key to
decides_for (Life life) key to is = absurd cc
decides_for (Decision life slot generation retry asked regs) key to is =
    let so = both (life == key.life && slot == key.slot && generation == key.generation) (list_any (is_registration_of to) regs) is in
    let parts = same_parts life slot generation key.life key.slot key.generation so.0 in
    (parts.0, parts.1, parts.2, so.1)
decides_for (Done place) key to is = absurd cc
decides_for (Prepared life slot generation recovery regs) key to is = absurd cc
decides_for (CellsPrepared life number recovery puts) key to is = absurd cc
decides_for (CellsOutcome place how) key to is = absurd cc
decides_for (CellsOnePhase life number puts) key to is = absurd cc

one_number : (rs : List Registration) → AreNumbered rs → (a b : Registration) → Contains rs a → Contains rs b → a.index ≡ b.index → a ≡ b
one_number rs numbered a b (i, less, at) (j, below, here) same =
    inner (sym first ∙ ap (slice_get rs) places ∙ second)
  where
    first : slice_get rs i ≡ Some a
    first = slice_get-get_or rs i a less ∙ ap (λ (x : Registration). Some x) at

    second : slice_get rs j ≡ Some b
    second = slice_get-get_or rs j b below ∙ ap (λ (x : Registration). Some x) here

    places : i ≡ j
    places = let x = numbered i a first in let y = numbered j b second in omega (arith, x, y, same)

-- a decision, where one is wanted; else a Done, where that is
done_wanted : (t u : Bool) (x : Option ℕ) (r : JournalRecord) (done : ℕ)
    → (if t then Some (Appends r) else if u then option_map WritesDone x else None) ≡ Some (WritesDone done) → u ≡ true
done_wanted true u x r done is = absurd cc
done_wanted false true x r done is = refl
done_wanted false false x r done is = absurd cc

-- ---- the family's own Done

module _ (completions : CompletionLaws) (close : FamiliesCloseLast) (rightly : FamiliesStepRightly) (answered : FamiliesHearOutcomesAnswered) (numbers : FamiliesNumberWords)
    (w : World) (told_so : List Told) (k : Known w told_so) (replied : ToldReplied w)
    (place : ℕ) (n : Node) (up : node_at w place ≡ Some n) (nth reply now : ℕ) (o : Outward) (answer : Said) (word : IsWord w nth place o)
    (back : HasContent w reply (contents.Reply (nth + 1) answer)) (slot : ℕ) (f : Family) (there : family_in n.families slot ≡ Some f)
    (b done : ℕ) (waits : waiting_for f o.number ≡ Some b) (wants : wanted f (answer_event o answer now) ≡ Some (WritesDone done)) where
  abbrev e : Event
  e = answer_event o answer now

  abbrev h : Family
  h = (hears o.number (heard_in answer) f).family

  found : family_at w f.key ≡ Some f
  found = slot_found w told_so k place n up slot f there

  abbrev known_f : FamilyIsKnown w (lines_of told_so) f
  known_f = k.families f.key f found

  wanted_is : wanted f e ≡ wanted_by h
  unfolding wanted
  wanted_is = ap (λ (x : Option ℕ). if is_some x then wanted_by h else None) waits

  -- nobody votes by that answer
  nobody : NobodyVotes f b
  nobody = by (is_asking f.completion) refl b refl
    where
      never : true ≡ false → ⊥
      never same = cc

      none : None ≡ Some (WritesDone done) → ⊥
      none same = cc

      by : (t : Bool) → is_asking f.completion ≡ t → (i : ℕ) → b ≡ i → NobodyVotes f b
      by false not_asked i equal = inl not_asked
      by true asking (suc i) equal = inr (omega (arith, equal))
      by true asking zero equal =
          let first : waiting_for f o.number ≡ Some 0 = waits ∙ ap (λ (i : ℕ). Some i) equal in
          elim (call_cases f known_f.sound (known_f.legs 0)) [
            | inl deaf ↦ absurd (none (sym (deaf_wants f o answer now first deaf known_f.settled (nothing_fixed completions f.completion known_f.sound.completion.there asking)) ∙ sym wanted_is ∙ wants))
            | inr at ↦ absurd (never (sym (done_wanted (stages.wants_decision h.completion) (wants_done h) (record_place h.completion) (decision_record h) done (sym wanted_is ∙ wants))
                ∙ asked_no_done completions f o.number (heard_in answer) at.0 first at.1 at.2 known_f.sound.completion.there asking))
          ]

  complete : CompletesAll h.completion
  complete = (close.completed f e done o.number (heard_in answer) known_f.sound wants refl).0

  -- who has been told then has replied
  replied_then : (to : List ℕ) (y : ParticipantHeard) → (d : Course) → h.completion ≡ UnderWay d → Any (IsToldSo to y) d.parties → IsReplied w to
  replied_then to y d now_is any = by (heard_as f o.number (heard_in answer) b waits (known_f.legs b))
    where
      before : IsTold f.completion to y → IsReplied w to
      before is = replied place n slot f to y up there is

      same_course : {x z : Course} → UnderWay x ≡ UnderWay z → x ≡ z
      same_course same = cc

      no_course : {room : Room} {x : Course} → Waiting room ≡ UnderWay x → ⊥
      no_course same = cc

      -- the call at the decision is that of the top-level transaction
      first_call : (c : Call) → call_at f b ≡ Some c → c.leg ≡ Deciding → b ≡ 0
      first_call c at deciding = go b refl
        where
          go : (i : ℕ) → b ≡ i → b ≡ 0
          go zero equal = equal
          go (suc i) equal = absurd (subst IsOfSub deciding (((known_f.sound.under_way b c at).sub (omega (arith, equal))).of_sub))

      hearing : (c : Call) → call_at f b ≡ Some c → c.leg ≡ Deciding → (s : Standing) → f.completion ≡ s
          → stages.after_answer (inner_number f s o.number) (of_participant (heard_in answer)) s ≡ UnderWay d → IsReplied w to
      hearing c at deciding (Waiting room) was is = absurd (no_course is)
      hearing c at deciding (UnderWay g) was is =
          let zero_call = first_call c at deciding in
          elim (told_before g (of_participant (heard_in answer)) to y _ g.out refl (subst (λ (x : Course). Any (IsToldSo to y) x.parties) (sym (same_course is)) any)) [
            | inl old ↦ before (subst (λ (s : Standing). IsTold s to y) (sym was) (is_told g to y old))
            | inr tells ↦
                decides rightly answered numbers w told_so k replied place n up nth reply now o answer None word back slot f there to y
                (waits ∙ ap (λ (i : ℕ). Some i) zero_call) (subst (λ (s : Standing). IsTelling s to) (sym was) tells) c (ap (call_at f) (sym zero_call) ∙ at) deciding
          ]

      by : HeardAs f o.number (heard_in answer) b h.completion → IsReplied w to
      by (inl same) = before (subst (λ (s : Standing). IsTold s to y) (sym now_is ∙ same) (is_told d to y any))
      by (inr (c, at, deciding, is)) = hearing c at deciding f.completion refl (sym is ∙ now_is)

  -- the same ones take part
  same_ones : SameParties f.completion h.completion
  same_ones = by (heard_as f o.number (heard_in answer) b waits (known_f.legs b))
    where
      hearing : (s : Standing) → SameParties s (stages.after_answer (inner_number f s o.number) (of_participant (heard_in answer)) s)
      hearing (Waiting room) = tt
      hearing (UnderWay g) = becomes_same g (course.after_answer (inner_number f (UnderWay g) o.number) (of_participant (heard_in answer)) g) (by_answer g _ _)

      by : HeardAs f o.number (heard_in answer) b h.completion → SameParties f.completion h.completion
      by (inl same) = subst (SameParties f.completion) (sym same) (itself_same f.completion)
      by (inr (c, at, deciding, is)) = subst (SameParties f.completion) (sym is) (hearing f.completion)

  -- one that has this number then has the reference of the registration with that
  reference : (s : Standing) → f.completion ≡ s → (d : Course) → SameParties s (UnderWay d) → (q : Party) → Contains d.parties q → (r : Registration)
      → Contains f.ballots.registrations r → q.index ≡ r.index → q.to ≡ r.to
  reference (Waiting room) was d same q among r listed number = absurd (by (heard_as f o.number (heard_in answer) b waits (known_f.legs b)))
    where
      none : CompletesAll (Waiting room) → ⊥
      none all = all

      by : HeardAs f o.number (heard_in answer) b h.completion → ⊥
      by (inl is) = none (subst CompletesAll (is ∙ was) complete)
      by (inr (c, at, deciding, is)) =
          none (subst CompletesAll (is ∙ ap (λ (x : Standing). stages.after_answer (inner_number f x o.number) (of_participant (heard_in answer)) x) was) complete)
  reference (UnderWay g) was d same q among r listed number =
      let parties : HasParties (UnderWay g) (participants 0 f.ballots) = subst (λ (x : Standing). HasParties x (participants 0 f.ballots)) was known_f.sound.completion.parties in
      let as_before = same_at d.parties g.parties same.0 same.1 q among in
      let registered = each_of (IsRegisteredAs f.ballots.registrations) g.parties
      (all_registered f.ballots.registrations g.parties (participants 0 f.ballots) parties.0 parties.1 (registered_of f 0)) as_before.0 as_before.1 in
      let one = one_number f.ballots.registrations known_f.numbered registered.r r registered.there listed (registered.index ∙ as_before.2 ∙ number) in
      sym as_before.3 ∙ sym registered.reference ∙ ap (λ (x : Registration). x.to) one

  has_told : (q : Party) → HasCompleted q → (y : ParticipantHeard) × (q.told ≡ Some y)
  has_told q (inl plain) = (phase_hears.Done, plain)
  has_told q (inr (inl gone)) = (phase_hears.NoObject, gone)
  has_told q (inr (inr (disposition, is, forgot))) = (phase_hears.Heuristic disposition, is)

  -- one that has voted commit has replied
  voter_replied : (r : Registration) → Contains f.ballots.registrations r → IsVoted h.completion r.index VoteCommit → IsReplied w r.to
  voter_replied r listed voted = by h.completion refl voted
    where
      by : (s : Standing) → h.completion ≡ s → IsVoted s r.index VoteCommit → IsReplied w r.to
      by (Waiting room) is voted = absurd voted
      by (UnderWay d) is (i, q, less, at, (number, ballot)) =
          let all : CompletesAll (UnderWay d) = subst CompletesAll is complete in
          let completed = each_of (λ (p : Party). p.ballot ≡ Some (phase_hears.Voted VoteCommit) → HasCompleted p) d.parties all q (i, less, at) ballot in
          let told_it = has_told q completed in
          let own = reference f.completion refl d (subst (SameParties f.completion) is same_ones) q (i, less, at) r listed number in
          subst (IsReplied w) own (replied_then q.to told_it.0 d is (i, q, less, at, (told_it.1, refl)))

  -- to commit, where the family is decided by a record
  module _ (commits : stages.outcome f.completion ≡ Some (outcomes.Commit Record)) where
    voter_answered : (r : Registration) (x : NamedKey) → Contains (participants 0 f.ballots) r → referred w r.to ≡ Some x
        → Stands (lines.Voted x.name VoteCommit) (lines_of told_so) → HasAnsweredCommit w r.to
    voter_answered r x among refers line = by (outcome_cases is.word.word is.outcome)
      where
        listed : Contains f.ballots.registrations r
        listed = all_at (Contains f.ballots.registrations) (participants 0 f.ballots) r (registered_of f 0) among

        is : IsReplied w r.to
        is =
            let rule = hears_keeps o.number (heard_in answer) b f waits (nobody_hears f b nobody known_f.sound (known_f.legs b)) (tidy_of w told_so k f.key f found) in
            voter_replied r listed (rule.kept.voted r.index VoteCommit ((known_f.votes r.index VoteCommit r x listed refl refers).1 line))

        by : (is.word.word ≡ words.Phase phase_words.Commit) ⊎ (is.word.word ≡ words.Phase phase_words.Rollback) → HasAnsweredCommit w r.to
        by (inl commit) = replied_commit w r.to is commit
        by (inr rolled) =
            let sent = sent_of w told_so k is.place is.word phase_words.Rollback x (is.nth, is.sent) (ap phase_of rolled) (ap (referred w) is.own ∙ refers) in
            absurd (subst IsBack commits (part_back w told_so k f.key f found r x among refers sent))

  -- each one that a decision of the family names has
  named_answered : (rs : List JournalRecord) → records_at w place ≡ Some rs → (item : JournalRecord) → Contains rs item → (to : List ℕ) → DecidesFor item f.key to
      → stages.outcome f.completion ≡ Some (outcomes.Commit Record) → HasAnsweredCommit w to
  named_answered rs held (Decision life slot_number generation retry asked regs) among to (same_life, same_slot, same_generation, named) commits =
      let rests = k.records place life slot_number generation retry asked regs rs held among in
      let of_name : IsTransaction w rests.name f.key = subst (IsTransaction w rests.name) own_key rests.of_name in
      let one_name : rests.name ≡ known_f.name = k.names.keys rests.name known_f.name _ of_name known_f.of_name in
      let x = is_there (referred w to) (rests.named to named) in
      let voter = (rests.voters to x.0 x.1).0 named in
      let part = subst (λ (t : List ℕ). TakesPart x.0.name t (lines_of told_so)) one_name
      (part_among (known told_so) (lines_of told_so) x.0.name rests.name (among_turned (known told_so)) voter.0) in
      let at = participant_there w told_so k f.key f found x.0.name part in
      let line = subst (λ (t : List ℕ). Stands (lines.Voted t VoteCommit) (lines_of told_so)) (sym at.4) (among_turned (known told_so) _ voter.1) in
      subst (HasAnsweredCommit w) (one_reference w told_so k at.0.to to at.1 x.0 at.3 x.1 at.4) (voter_answered commits at.0 at.1 at.2 at.3 line)
    where
      is_there : {A : Type 0} (o : Option A) → IsTrue (is_some o) → (x : A) × (o ≡ Some x)
      is_there (Some x) is = (x, refl)
      is_there None is = absurd cc

      own_key : recorded_key place life slot_number generation ≡ f.key
      own_key = key_is f.key (service_at place) life slot_number generation
          (k.names.kinds known_f.name f.key known_f.of_name) (sym (slot_service w told_so k place n up slot f there)) same_life same_slot same_generation known_f.top
  named_answered rs held (Life life) among to so commits = absurd so
  named_answered rs held (Done named) among to so commits = absurd so
  named_answered rs held (Prepared life slot_number generation recovery regs) among to so commits = absurd so
  named_answered rs held (CellsPrepared life number recovery puts) among to so commits = absurd so
  named_answered rs held (CellsOutcome named how) among to so commits = absurd so
  named_answered rs held (CellsOnePhase life number puts) among to so commits = absurd so

  -- so the Done for which it asks is complete
  pub closes_answered : (rs : List JournalRecord) → records_at w place ≡ Some rs → (to : List ℕ)
      → list_any (λ (item : JournalRecord). is_decision_of f.key item && names_object to item) rs ≡ true → HasAnsweredCommit w to
  closes_answered rs held to named =
      let at = Any-from_list_any (λ (item : JournalRecord). is_decision_of f.key item && names_object to item) rs named in
      let item_so = both (is_decision_of f.key at.1) (names_object to at.1) at.4 in
      named_answered rs held at.1 (at.0, at.2, at.3) to (decides_for at.1 f.key to at.4) (known_f.recorded.0 (recorded_here rs held (at.0, at.1, at.2, at.3, item_so.0)))
    where
      recorded_here : (rs : List JournalRecord) → records_at w place ≡ Some rs → Any (λ (item : JournalRecord). is_decision_of f.key item ≡ true) rs
          → IsTrue (has_record w (place_of f.key) (is_decision_of f.key))
      recorded_here rs held any =
          ap (λ (i : ℕ). has_record w i (is_decision_of f.key)) (slot_place w told_so k place n up slot f there)
          ∙ ap (λ (o : Option (List JournalRecord)). option_map_or (λ (xs : List JournalRecord). list_any (is_decision_of f.key) xs) o false) held
          ∙ list_any-from_Any (is_decision_of f.key) rs any

-- ---- in each world that is reached

module _ (completions : CompletionLaws) (close : FamiliesCloseLast) (rightly : FamiliesStepRightly) (answered : FamiliesHearOutcomesAnswered) (numbers : FamiliesNumberWords)
    (keeps : StepsStayKnown) where
  pub closed_are_stored : ClosedFamiliesAreStored
  unfolding wanted
  closed_are_stored w told_so place n nth reply now o m answer slot f done rs to r reached up word at says there wants held named refers = by (waiting_for f o.number) refl
    where
      k : Known w told_so
      k = known_reached keeps w told_so reached

      none : None ≡ Some (WritesDone done) → ⊥
      none same = cc

      by : (x : Option ℕ) → waiting_for f o.number ≡ x → IsAt (λ (s : State). s ≡ states.Applied) w r.key
      by (Some b) waits =
          stored_at w told_so k to r
          (answered_stored w told_so (stored_reached keeps w told_so reached) to
          (closes_answered completions close rightly answered numbers w told_so k (replied_reached rightly answered numbers keeps w told_so reached)
          place n up nth reply now o answer word (m, at, says) slot f there b done waits wants rs held to named)) refers
      by None waits =
          absurd (none (sym (ap (λ (x : Option ℕ). if is_some x then wanted_by (hears o.number (heard_in answer) f).family else None) waits) ∙ wants))
