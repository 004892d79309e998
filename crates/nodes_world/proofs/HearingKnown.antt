-- What is known of a world is known once an answer was heard for which nobody waits, or that is for a record.
use Rattle.std.proofs.Common.{◌≡◌, inl, inr, ℕ, zero, suc, ◌+◌, ◌-◌, ◌==◌, Bool, true, false, is_none, is_some, if◌then◌else◌, List, [], ◌∷◌, ◌++◌, map, append-nil, slice_get, slice_set, Contains, Option, Some, None, refl, sym, ap, subst, ◌∙◌, arith}
use Rattle.std.specs.Prelude.{Ok}
use Rattle.std.specs.Option.{option_and_then, option_map}
use Rattle.ior_refs.specs.declared.key.ObjectKey.{ObjectKey}
use Rattle.ots_model.specs.declared.completion.Stood.{Stood}
use Rattle.ots_model.specs.declared.completion.Stood.TheVariants as answers
use Rattle.ots_model.specs.declared.completion.Word.TheVariants as phase_words
use Rattle.ots_model.specs.declared.tree.Word.TheVariants as words
use Rattle.ots_model.specs.declared.service.RetryKey.{RetryKey}
use Rattle.ots_model.specs.declared.tree.Outward.{Outward}
use Rattle.recovery_coord.specs.Held.{is_held}
use Rattle.recovery_coord.specs.Hearing.{completed, records_after}
use Rattle.recovery_coord.specs.Limits.{retold_slot}
use Rattle.recovery_coord.specs.declared.held.Held.{Held}
use Rattle.ots_model.specs.declared.completion.CallNumber.{CallNumber}
use Rattle.ots_model.specs.declared.completion.Vote.{Vote}
use Rattle.ots_model.specs.declared.tree.Heard.{Heard}
use Rattle.ots_model.specs.declared.tree.Heard.TheVariants as hears_words
use Rattle.ots_model.specs.Heard.{of_participant}
use Rattle.ots_model.specs.declared.completion.Heard.TheVariants as phase_hears
use Rattle.family_laws.specs.LawsOfTelling.{IsHeardVote}
use Rattle.family_laws.specs.Sound.{IsSoundFamily}
use Rattle.coordinator.specs.declared.event.Act.TheVariants as acts
use Rattle.coordinator.specs.declared.call.Leg.TheVariants.{Deciding}
use Rattle.coordinator.specs.declared.effect.Effect.{Effect}
use Rattle.coordinator.specs.declared.effect.Effect.TheVariants as effects
use Rattle.coordinator.specs.declared.event.Event.{Event}
use Rattle.coordinator.specs.declared.node.NodeFault.TheVariants as faults
use Rattle.coordinator.specs.declared.said.Said.{Said}
use Rattle.coordinator.specs.declared.said.Said.TheVariants as said
use Rattle.coordinator.specs.Family.{Family, Call, call_at, waiting_for}
use Rattle.coordinator.specs.History.{has_room}
use Rattle.coordinator.specs.Node.{Node, family_of, life, family_in}
use Rattle.coordinator.specs.NodeCalls.{Applied, RetoldAnswer, alone, answers_recovered, applied_by, applies, by_records, call_wants, done_told, done_wanted, family_for, hears_record, journaled, records_hear, records_want, records_with, refuses, replies, retold_answer, steps_to, wanted_by}
use Rattle.coordinator.specs.NodeRecords.{record_of, record_says}
use Rattle.coordinator.specs.Step.{Stepped, Wanted, Appends, WritesDone, acted, entered, family_step, hears, wanted, wanted_by as wanted_after}
use Rattle.family_laws.specs.HeldRecords.{HeldRecordsStood, WasHeld}
use Rattle.family_laws.specs.OwnDecisions.{KeepsDecisions, NodesKeepDecisions}
use Rattle.nodes_world.specs.declared.message.Content.TheVariants as contents
use Rattle.nodes_world.specs.declared.message.Message.{Message}
use Rattle.nodes_world.specs.Agreement.{IsWord}
use Rattle.nodes_world.specs.AgreementInside.{Known, HasMessage, FamilyIsKnown, edge_at, IsNumberedBy, is_asking}
use Rattle.nodes_world.specs.AgreementSteps.{StaysKnown, kept_message}
use Rattle.nodes_world.specs.Deliveries.{answer_event, heard_in, hears_answer, is_waited_for}
use Rattle.nodes_world.specs.Happenings.{changes}
use Rattle.nodes_world.specs.Journals.{Asked, asks, Answers, records_on}
use Rattle.nodes_world.specs.Nodes.{Stepping, cast_by, effects_told, no_step, steps, steps_by, steps_node}
use Rattle.nodes_world.specs.Objects.{family_key, place_of}
use Rattle.nodes_world.specs.Told.{Told}
use Rattle.nodes_world.specs.World.{World, Seat, OfNode, node_in, with_message, with_seat, family_at}
use Rattle.nodes_world.proofs.Going.{get_set, node_up}
use Rattle.nodes_world.proofs.KnownAlike.{known_alike}
use Rattle.nodes_world.proofs.KnownRecoveries.{recoveries_known}
use Rattle.nodes_world.proofs.KnownSeats.{set_at}
use Rattle.two_phase.specs.Stages as stages
use Rattle.decision_journal.specs.declared.record.JournalRecord.{JournalRecord}
use Rattle.coordinator.specs.Hearing.{decision_record, record_place, wants_done, settles}
use Rattle.nodes_world.proofs.AnswersKeep.{NoVoteAt, answer_by, answer_keeps, hears_keeps, no_voter}
use Rattle.nodes_world.proofs.KnownFamilies.{family_found, same_parts}
use Rattle.nodes_world.proofs.KnownLines.{lines_of}
use Rattle.nodes_world.proofs.CallKnown as call
use Rattle.nodes_world.proofs.ClosesKeep.{closing_keeps, hears_alone}
use Rattle.nodes_world.proofs.ClosesKnown.{closed_known}
use Rattle.nodes_world.proofs.CompletesKnown as complete
use Rattle.nodes_world.proofs.CompletesKnown.{JournalLaws}
use Rattle.nodes_world.proofs.CallKnown.{for_key, nothing_asked, tidy_of}
use Rattle.nodes_world.proofs.AskedKeeps.{IsNoVote, asked_keeps, asked_no_done, vote_or_not}
use Rattle.nodes_world.proofs.AskedCalls.{NobodyVotes, nobody_hears, call_cases, deaf_no_vote, deaf_tells_no_vote, deaf_wants, nothing_fixed}
use Rattle.nodes_world.proofs.RulesKeep.{IsTidy, Rule}
use Rattle.nodes_world.proofs.StepIs.{FamilyLaws, keeps_is, StepIs}
use Rattle.nodes_world.proofs.StepsKeep.{StepKeeps, quiet_keeps}
use Rattle.nodes_world.proofs.SubKnown.{stays_then}
use Rattle.nodes_world.proofs.StepsAsk.{answer_asks, stale_asks}
use Rattle.nodes_world.proofs.AskedWords.{own_number}
use Rattle.nodes_world.proofs.VotedStep.{voted_is, none_wanted, settles_nothing, vote_heard}
use Rattle.nodes_world.proofs.FullKnown.{asked_cases, full_known}
use Rattle.nodes_world.proofs.FullStep.{settled_full, full_decides}
use Rattle.nodes_world.proofs.DecidedKnown.{decided_known}
use Rattle.nodes_world.proofs.DecisionFits.{heard_fits}

-- ---- a stale answer

-- nobody waits for it: the family stays as it is
abbrev as_it_was : Family → Stepped
as_it_was f = record { family = f; said = said.Plain; words = []; finished = []; effects = [] }

stale_step : (f : Family) (o : Outward) (answer : Said) (now : ℕ) → waiting_for f o.number ≡ None → family_step f (answer_event o answer now) None ≡ as_it_was f
unfolding family_step
stale_step f o answer now none =
    ap (λ (x : Option ℕ). if is_none x then as_it_was f else entered f (answer_event o answer now) None (acted (answer_event o answer now) None f)) none

stale_wants : (f : Family) (o : Outward) (answer : Said) (now : ℕ) → waiting_for f o.number ≡ None → wanted f (answer_event o answer now) ≡ None
unfolding wanted
stale_wants f o answer now none =
    ap (λ (x : Option ℕ). if is_some x then wanted_after (hears o.number (heard_in answer) f).family else None) none

-- ---- an answer that comes to a node

module _ (laws : FamilyLaws) (journals : JournalLaws) (nodes : NodesKeepDecisions) (stood : HeldRecordsStood) (w : World) (nth place reply now : ℕ) (o : Outward) (back : Message)
    (answer : Said) (s : Seat) (n : Node) (word : IsWord w nth place o) (replied : slice_get w.messages reply ≡ Some back)
    (says : back.content ≡ contents.Reply (nth + 1) answer) (there : slice_get w.seats place ≡ Some s) (up : s.server ≡ OfNode (Some n)) where
  abbrev key : ObjectKey
  key = family_key place o.number

  abbrev e : Event
  e = answer_event o answer now

  abbrev Ends : Applied → Type 0
  Ends a = call.Stays w place s n there up key e a

  -- where the journal is asked for nothing
  by_nothing : call_wants key e n ≡ None → Ends (applies key e None n) → StaysKnown w (steps_node (Some n) s place key e w).done
  by_nothing none ends =
      subst (λ (a : Asked). StaysKnown w (steps_by a place key e n w).done)
      (sym (ap (λ (x : Option Wanted). asks x n.service n.found s.disk s.stop) none ∙ nothing_asked n.service n.found s.disk s.stop)) ends

  -- ---- to a family

  module _ (family : o.number.slot == retold_slot ≡ false) where
    retold : retold_answer e.act ≡ None
    retold = ap (λ (b : Bool). if b then Some (record { number = o.number; heard = heard_in answer }) else None) family

    for_family : family_for key e n ≡ family_of key n
    for_family = for_key key e n retold

    applied_is : (x : Option Family) → family_of key n ≡ x → applies key e None n ≡ applied_by x key e None n
    unfolding applies
    applied_is x is = ap (λ (y : Option Family). applied_by y key e None n) (for_family ∙ is)

    wants_is : (x : Option Family) → family_of key n ≡ x → call_wants key e n ≡ wanted_by x e n
    unfolding call_wants
    wants_is x is = ap (λ (y : Option Family). wanted_by y e n) (for_family ∙ is)

    no_retry : (r : RetryKey) → None ≡ Some r → HasMessage w r
    no_retry r is = absurd cc

    own_place : place_of key ≡ place
    own_place = omega arith

    -- it has no room for an answer
    full : (f : Family) → family_of key n ≡ Some f → has_room f.entries e ≡ false → StaysKnown w (steps_node (Some n) s place key e w).done
    full f is room =
        by_nothing (wants_is (Some f) is ∙ ap (λ (b : Bool). if b then wanted f e else None) room)
        (subst Ends
        (sym (applied_is (Some f) is ∙ ap (λ (b : Bool). if b then steps_to n f e None (family_step f e None) else refuses faults.NoResources n) room))
        (call.refused_stays w place s n there up key e faults.NoResources))

    -- nobody waits for the answer
    stale : (f : Family) → family_of key n ≡ Some f → has_room f.entries e ≡ true → waiting_for f o.number ≡ None
        → StaysKnown w (steps_node (Some n) s place key e w).done
    stale f is room waits =
        let none = stale_wants f o answer now waits in
        let same : applies key e None n ≡ steps_to n f e None (family_step f e None) =
        applied_is (Some f) is ∙ ap (λ (b : Bool). if b then steps_to n f e None (family_step f e None) else refuses faults.NoResources n) room in
        by_nothing (wants_is (Some f) is ∙ ap (λ (b : Bool). if b then wanted f e else None) room ∙ none)
        (subst Ends (sym same) (λ told k.
        let found = call.found w place s n there up laws nodes key own_place e retold no_retry f none is told k in
        let step = stale_step f o answer now waits in
        call.step_stays w place s n there up laws nodes key own_place e retold no_retry f none is told k
        (keeps_is laws f e None (λ number vote among. nothing_in (subst (λ (x : Stepped). Contains x.effects (effects.Voted number vote)) step among))
        (k.families key f found).sound (subst (StepKeeps f) (sym step) (quiet_keeps said.Plain f (tidy_of w told k key f found)))
        (stale_asks f o answer now None waits (k.families key f found).ready)) same))
      where
        nothing_in : {x : Effect} → Contains [] x → ⊥
        nothing_in among = let l = among.1 in omega (arith, l)

    -- a call waits for it, and nobody votes by it
    module _ (f : Family) (is : family_of key n ≡ Some f) (room : has_room f.entries e ≡ true) (b : ℕ) (waits : waiting_for f o.number ≡ Some b) where
      same_answer : (number : CallNumber) (h : Heard) → e.act ≡ acts.Answer number h → o.number ≡ number
      same_answer number h same = cc

      inner : {x y : ℕ} → Some x ≡ Some y → x ≡ y
      inner same = cc

      no_votes : NobodyVotes f b → IsSoundFamily f → (stood : Option Stood) (number : ℕ) (vote : Vote) → Contains (family_step f e stood).effects (effects.Voted number vote) → ⊥
      no_votes (inl not_asked) sound stood number vote among =
          let heard = laws.votes.told f e stood number vote sound among in
          no (sym (no_voter f.completion not_asked) ∙ heard.asked)
        where
          no : None ≡ Some number → ⊥
          no same = cc
      no_votes (inr less) sound stood number vote among =
          let heard = laws.votes.told f e stood number vote sound among in
          let first = inner (sym waits ∙ ap (waiting_for f) (same_answer heard.number _ heard.answer) ∙ heard.waited) in
          omega (arith, less, first)

      found_here : family_at w key ≡ Some f
      found_here =
          let slot = call.key_slot key n f is in
          family_found w key f (record { seat = s; node = n; there = ap (slice_get w.seats) own_place ∙ there; up = up; slotted = slot.0; own = slot.1 })

      no_vote_at : NobodyVotes f b → (told : List Told) → Known w told → NoVoteAt f (call_at f b)
      no_vote_at nobody told k =
          let known = k.families key f found_here in
          nobody_hears f b nobody known.sound (known.legs b)

      -- nothing is asked of the journal, and nobody votes
      hears_by : wanted f e ≡ None → (IsSoundFamily f → (number : ℕ) (vote : Vote) → Contains (family_step f e None).effects (effects.Voted number vote) → ⊥)
          → (IsTidy f → (told : List Told) → Known w told → StepKeeps f (family_step f e None)) → StaysKnown w (steps_node (Some n) s place key e w).done
      hears_by none votes_none keeps =
          let same : applies key e None n ≡ steps_to n f e None (family_step f e None) =
          applied_is (Some f) is ∙ ap (λ (t : Bool). if t then steps_to n f e None (family_step f e None) else refuses faults.NoResources n) room in
          by_nothing (wants_is (Some f) is ∙ ap (λ (t : Bool). if t then wanted f e else None) room ∙ none)
          (subst Ends (sym same) (λ told k.
          let sound = (k.families key f found_here).sound in
          call.step_stays w place s n there up laws nodes key own_place e retold no_retry f none is told k
          (keeps_is laws f e None (votes_none sound) sound (keeps (tidy_of w told k key f found_here) told k)
          (answer_asks f o answer now b None waits (λ c at. (k.families key f found_here).legs b c at) (k.families key f found_here).ready)) same))

      hears_on : NobodyVotes f b → wanted f e ≡ None → StaysKnown w (steps_node (Some n) s place key e w).done
      hears_on nobody none =
          hears_by none (λ whole. no_votes nobody whole None) (λ tidy told k. answer_keeps f o answer now b waits (no_vote_at nobody told k) tidy)

      abbrev heard_family : Family
      heard_family = (hears o.number (heard_in answer) f).family

      wanted_is : wanted f e ≡ wanted_after heard_family
      unfolding wanted
      wanted_is = ap (λ (x : Option ℕ). if is_some x then wanted_after heard_family else None) waits

      -- the family's own Done is wanted
      closes_own : NobodyVotes f b → (done : ℕ) → wanted f e ≡ Some (WritesDone done) → StaysKnown w (steps_node (Some n) s place key e w).done
      closes_own nobody done wants told k =
          let known = k.families key f found_here in
          let so = no_vote_at nobody told k in
          closed_known laws journals nodes w place now o answer s n f done there up family is room wants told k
          (λ stood. closing_keeps f o answer now stood b waits so known.settled (tidy_of w told k key f found_here))
          (λ stood. answer_asks f o answer now b stood waits (λ c at. known.legs b c at) known.ready) (no_votes nobody known.sound) (hears_alone o.number (heard_in answer) b f waits so)

      -- no decision is wanted, so it is the family's own Done
      own_done : (t u : Bool) (x : Option ℕ) (r : JournalRecord) (item : Wanted) → t ≡ false
          → (if t then Some (Appends r) else if u then option_map WritesDone x else None) ≡ Some item → (done : ℕ) × (item ≡ WritesDone done)
      own_done true u x r item none asks_for = absurd cc
      own_done false true (Some done) r item none asks_for = (done, cc)
      own_done false true None r item none asks_for = absurd cc
      own_done false false x r item none asks_for = absurd cc

      by_wanted : NobodyVotes f b → (x : Option Wanted) → wanted f e ≡ x → StaysKnown w (steps_node (Some n) s place key e w).done
      by_wanted nobody None none = hears_on nobody none
      by_wanted nobody (Some item) asks_for = λ told k.
          let rule = hears_keeps o.number (heard_in answer) b f waits (no_vote_at nobody told k) (tidy_of w told k key f found_here) in
          let done = own_done (stages.wants_decision heard_family.completion) (wants_done heard_family) (record_place heard_family.completion) (decision_record heard_family) item
          (rule.kept.wants (k.families key f found_here).settled) (sym wanted_is ∙ asks_for) in
          closes_own nobody done.0 (asks_for ∙ ap (λ (x : Wanted). Some x) done.1) told k

      -- a participant is asked, and its answer is no vote
      asked_by_none : waiting_for f o.number ≡ Some 0 → is_asking f.completion ≡ true → (c : Call) → call_at f 0 ≡ Some c → c.leg ≡ Deciding
          → IsNoVote (of_participant (heard_in answer)) → StaysKnown w (steps_node (Some n) s place key e w).done
      asked_by_none first asking c at decides no_vote told k =
          let known : FamilyIsKnown w (lines_of told) f = k.families key f found_here in
          let rule = asked_keeps laws.completions f o.number (heard_in answer) c first at decides known.sound.completion.there asking no_vote in
          hears_by
          (wanted_is ∙ neither (stages.wants_decision heard_family.completion) (wants_done heard_family)
          ((rule (tidy_of w told k key f found_here)).kept.wants known.settled)
          (asked_no_done laws.completions f o.number (heard_in answer) c first at decides known.sound.completion.there asking))
          (λ whole number vote among. no_vote vote (heard_so number vote (laws.votes.told f e None number vote whole among)))
          (λ tidy others_told others_known. answer_by f o answer now 0 first rule tidy) told k
        where
          neither : (t u : Bool) → t ≡ false → u ≡ false
              → (if t then Some (Appends (decision_record heard_family)) else if u then option_map WritesDone (record_place heard_family.completion) else None) ≡ None
          neither true u is not_done = absurd cc
          neither false true is not_done = absurd cc
          neither false false is not_done = refl

          heard_so : (number : ℕ) (vote : Vote) → IsHeardVote f (family_step f e None).family e.act number vote
              → of_participant (heard_in answer) ≡ phase_hears.Voted vote
          heard_so number vote heard = ap of_participant (same_heard heard.number vote heard.answer)
            where
              same_heard : (x : CallNumber) (vote : Vote) → acts.Answer o.number (heard_in answer) ≡ acts.Answer x (hears_words.Phase (phase_hears.Voted vote)) → heard_in answer ≡ hears_words.Phase (phase_hears.Voted vote)
              same_heard x vote is = cc

      -- one that is to decide alone answers no vote
      word_numbered : waiting_for f o.number ≡ Some 0 → (told : List Told) (k : Known w told) → IsNumberedBy f o
      word_numbered first told k =
          let own = own_number f o.number first in
          let parts = same_parts key.service key.life key.slot key.generation f.key.service f.key.life f.key.slot f.key.generation (call.key_slot key n f is).1 in
          k.words.serials place o f key (nth, word) found_here own.0 own.1 own.2 (ap (λ (x : ℕ). x - 1) (sym parts.0) ∙ own_place)

      -- what a step is then that hears a vote
      prepared : (vote : Vote) → answer ≡ said.Voted vote → (told : List Told) → Known w told → o.word ≡ words.Phase phase_words.Prepare
      prepared vote votes told k = k.words.voters reply nth place back vote o replied (says ∙ ap (λ (x : Said). contents.Reply (nth + 1) x) votes) word

      voted_then : waiting_for f o.number ≡ Some 0 → is_asking f.completion ≡ true → (c : Call) → call_at f 0 ≡ Some c → c.leg ≡ Deciding
          → (vote : Vote) → answer ≡ said.Voted vote → (told : List Told) → Known w told → (x : Option Stood) → Rule heard_family (settles x heard_family)
          → stages.wants_decision (family_step f e x).family.completion ≡ false
          → StepIs w f (family_step f e x).family (family_step f e x).effects (family_step f e x).words
      voted_then first asking c at decides vote votes told k x settled undecided =
          let known = k.families key f found_here in
          voted_is laws w nth place reply now o back answer f c vote word replied says votes known.sound (tidy_of w told k key f found_here) (word_numbered first told k)
          first at decides asking (prepared vote votes told k) x settled
          (answer_asks f o answer now 0 x first (λ d under. known.legs 0 d under) known.ready) undecided

      -- a vote comes, and no decision is wanted
      asked_by_vote : waiting_for f o.number ≡ Some 0 → is_asking f.completion ≡ true → (c : Call) → call_at f 0 ≡ Some c → c.leg ≡ Deciding
          → (vote : Vote) → answer ≡ said.Voted vote → wanted f e ≡ None → StaysKnown w (steps_node (Some n) s place key e w).done
      asked_by_vote first asking c at decides vote votes none told k =
          let same : applies key e None n ≡ steps_to n f e None (family_step f e None) =
          applied_is (Some f) is ∙ ap (λ (t : Bool). if t then steps_to n f e None (family_step f e None) else refuses faults.NoResources n) room in
          by_nothing (wants_is (Some f) is ∙ ap (λ (t : Bool). if t then wanted f e else None) room ∙ none)
          (subst Ends (sym same) (λ told k.
          let known = k.families key f found_here in
          call.step_stays w place s n there up laws nodes key own_place e retold no_retry f none is told k
          (voted_then first asking c at decides vote votes told k None (settles_nothing heard_family)
          (none_wanted laws w nth place reply now o back answer f c vote word replied says votes known.sound (tidy_of w told k key f found_here) (word_numbered first told k)
          first at decides asking (prepared vote votes told k) None (settles_nothing heard_family)
          (answer_asks f o answer now 0 None first (λ d under. known.legs 0 d under) known.ready) (sym wanted_is ∙ none))) same)) told k

      -- a decision is wanted, where it is asked for
      a_decision_wanted : (t u : Bool) (x : Option ℕ) (r item : JournalRecord)
          → (if t then Some (Appends r) else if u then option_map WritesDone x else None) ≡ Some (Appends item) → t ≡ true
      a_decision_wanted true u x r item is = refl
      a_decision_wanted false true (Some done) r item is = absurd cc
      a_decision_wanted false true None r item is = absurd cc
      a_decision_wanted false false x r item is = absurd cc

      -- the last vote comes, and there is no room for the decision
      asked_by_full : waiting_for f o.number ≡ Some 0 → is_asking f.completion ≡ true → (c : Call) → call_at f 0 ≡ Some c → c.leg ≡ Deciding
          → (vote : Vote) → answer ≡ said.Voted vote → (item : JournalRecord) → wanted f e ≡ Some (Appends item) → (used need : ℕ)
          → asks (Some (Appends item)) n.service n.found s.disk s.stop ≡ Answers (Some (answers.Full used need)) s.disk s.stop
          → StaysKnown w (steps_node (Some n) s place key e w).done
      asked_by_full first asking c at decides vote votes item wants used need full told k =
          let known : FamilyIsKnown w (lines_of told) f = k.families key f found_here in
          let decides_now = a_decision_wanted (stages.wants_decision heard_family.completion) (wants_done heard_family) (record_place heard_family.completion) (decision_record heard_family) item
          (sym wanted_is ∙ wants) in
          full_known laws nodes w place now o answer s n f item used need there up family is room wants told k full
          (voted_then first asking c at decides vote votes told k (Some (answers.Full used need))
          (settled_full laws.completions f o answer now c first at decides known.sound.completion.there asking vote (vote_heard answer vote votes) used need decides_now)
          (full_decides laws.completions f o answer now c first at decides known.sound.completion.there asking vote (vote_heard answer vote votes) used need decides_now
          (tidy_of w told k key f found_here)))

      -- what is asked of the journal is the decision, where it isn't the Done
      a_decision : (item : Wanted) (t u : Bool) (x : Option ℕ) (r : JournalRecord) → u ≡ false
          → (if t then Some (Appends r) else if u then option_map WritesDone x else None) ≡ Some item → item ≡ Appends r
      a_decision item true u x r never is = cc
      a_decision item false true x r never is = absurd cc
      a_decision item false false x r never is = absurd cc

      -- a participant is asked: the call is at the decision, or hears nothing of the answer
      while_asked : waiting_for f o.number ≡ Some 0 → is_asking f.completion ≡ true → StaysKnown w (steps_node (Some n) s place key e w).done
      while_asked first asking told k = elim (call_cases f known.sound (λ c at. known.legs 0 c at)) [
        | inl deaf ↦ hears_by (wanted_is ∙ deaf_wants f o answer now first deaf known.settled (nothing_fixed laws.completions f.completion known.sound.completion.there asking))
            (deaf_tells_no_vote f o answer now first deaf laws)
            (λ tidy others_told others_known. answer_keeps f o answer now 0 first (deaf_no_vote f (call_at f 0) deaf) tidy) told k
        | inr at ↦ elim (vote_or_not answer) [
          | inl vote ↦ by_decision vote.0 vote.1 at.0 at.1 at.2 (wanted f e) refl
          | inr no_vote ↦ asked_by_none first asking at.0 at.1 at.2 no_vote told k
        ]
      ]
        where
          known : FamilyIsKnown w (lines_of told) f
          known = k.families key f found_here

          -- the journal is asked for the decision, or for nothing
          by_decision : (vote : Vote) → answer ≡ said.Voted vote → (c : Call) → call_at f 0 ≡ Some c → c.leg ≡ Deciding → (x : Option Wanted) → wanted f e ≡ x
              → Known (steps_node (Some n) s place key e w).done.world (told ++ (steps_node (Some n) s place key e w).done.lines)
          by_decision vote votes c at decides None none = asked_by_vote first asking c at decides vote votes none told k
          by_decision vote votes c at decides (Some item) asks_for =
              let item_is = a_decision item (stages.wants_decision heard_family.completion) (wants_done heard_family) (record_place heard_family.completion) (decision_record heard_family)
              (asked_no_done laws.completions f o.number (heard_in answer) c first at decides known.sound.completion.there asking) (sym wanted_is ∙ asks_for) in
              let wants = asks_for ∙ ap (λ (x : Wanted). Some x) item_is in
              let slot = call.key_slot key n f is in
              let parts = same_parts key.service key.life key.slot key.generation f.key.service f.key.life f.key.slot f.key.generation slot.1 in
              let can = heard_fits laws.completions f o.number (heard_in answer) c first at decides known.sound.completion.there asking w told k key found_here known.sound.completion.parties
              place s n there up (subst (λ (x : ℕ). family_in n.families x ≡ Some f) parts.2 slot.0) in
              let follows = k.disks.follows place s n there up in
              elim (asked_cases (decision_record heard_family) n.service follows.records n.found s.disk s.stop (ap (λ (x : ℕ). records_on x s.disk) follows.service ∙ follows.held)) [
                | inl written ↦
                    decided_known laws journals nodes w nth place reply now o back answer s n f c vote (decision_record heard_family) word replied says votes there up family is room first at decides
                    asking wants
                    (a_decision_wanted (stages.wants_decision heard_family.completion) (wants_done heard_family) (record_place heard_family.completion) (decision_record heard_family)
                    (decision_record heard_family) (sym wanted_is ∙ wants)) refl can told k (word_numbered first told k) (prepared vote votes told k) written
                | inr (used, need, full) ↦ asked_by_full first asking c at decides vote votes (decision_record heard_family) wants used need full told k
              ]

      -- whoever waits for it
      waited : StaysKnown w (steps_node (Some n) s place key e w).done
      waited = by_asking (is_asking f.completion) refl b refl
        where
          by_asking : (t : Bool) → is_asking f.completion ≡ t → (i : ℕ) → b ≡ i → StaysKnown w (steps_node (Some n) s place key e w).done
          by_asking false not_asked i equal = by_wanted (inl not_asked) (wanted f e) refl
          by_asking true asking zero equal =
              while_asked (waits ∙ ap (λ (i : ℕ). Some i) equal) asking
          by_asking true asking (suc i) equal = by_wanted (inr (omega (arith, equal))) (wanted f e) refl

    -- no family is there
    gone : family_of key n ≡ None → StaysKnown w (steps_node (Some n) s place key e w).done
    unfolding answers_recovered
    gone is =
        by_nothing (wants_is None is ∙ ap (λ (x : Option RetoldAnswer). records_want x n) retold)
        (subst Ends (sym (applied_is None is ∙ ap (λ (x : Option RetoldAnswer). by_records x key e None n) retold)) (by_record_of (record_of key n)))
      where
        by_record_of : (x : Option Held) → Ends (replies (option_and_then (record_says key e.key e.act) x) n)
        by_record_of (Some r) = call.refused_stays w place s n there up key e faults.ObjectNotExist
        by_record_of None = call.refused_stays w place s n there up key e faults.ObjectNotExist

    to_family : (x : Option Family) → family_of key n ≡ x → StaysKnown w (steps_node (Some n) s place key e w).done
    to_family None is = gone is
    to_family (Some f) is = by_room (has_room f.entries e) refl
      where
        by_waiting : has_room f.entries e ≡ true → (x : Option ℕ) → waiting_for f o.number ≡ x → StaysKnown w (steps_node (Some n) s place key e w).done
        by_waiting room None waits = stale f is room waits
        by_waiting room (Some b) waits = waited f is room b waits

        by_room : (b : Bool) → has_room f.entries e ≡ b → StaysKnown w (steps_node (Some n) s place key e w).done
        by_room true room = by_waiting room (waiting_for f o.number) refl
        by_room false room = full f is room

  -- ---- to a record that is told again

  module _ (again : o.number.slot == retold_slot ≡ true) where
    abbrev heard : RetoldAnswer
    heard = record { number = o.number; heard = heard_in answer }

    applied_again : applies key e None n ≡ hears_record o.number (heard_in answer) None n
    applied_again = complete.applied_again place now o answer n again None

    wants_again : call_wants key e n ≡ done_wanted o.number (heard_in answer) n
    wants_again = complete.wants_again place now o answer n again

    -- what it holds then
    abbrev m : Node
    m = record n { recovered = records_after (life n) o.number (heard_in answer) n.recovered }

    abbrev quiet_answer : Applied
    quiet_answer = record { node = m; answer = Ok (alone said.Plain []); words = [] }

    hears_quietly : completed (life n) o.number (heard_in answer) n.recovered ≡ None → records_hear o.number (heard_in answer) None n ≡ quiet_answer
    hears_quietly none = ap (λ (c : Option ℕ). record {
      node = record n {
        found = journaled (option_map WritesDone c) None n.found;
        recovered = records_with c None (records_after (life n) o.number (heard_in answer) n.recovered);
      };
      answer = Ok (alone said.Plain (done_told c None));
      words = [];
    }) none

    sound_then : (told : List Told) (k : Known w told) → applies key e None n ≡ quiet_answer → KeepsDecisions (edge_at w place) m
    sound_then told k same =
        subst (KeepsDecisions (edge_at w place)) (ap (λ (a : Applied). a.node) same)
        (nodes.called (edge_at w place) (edge_at w place) key e None n (omega arith) (λ item at asked stood. absurd (no stood)) (λ x at called asked stood. absurd (no stood)) (call.node_sound w place s n there up told k))
      where
        no : {x : Stood} → None ≡ Some x → ⊥
        no is = cc

    held_before : applies key e None n ≡ quiet_answer → (h : Held) → Contains m.recovered h → WasHeld n.recovered h
    held_before same h among = stood.called key e None n h (subst (λ (a : Applied). Contains a.node.recovered h) (sym same) among)

    quiet_stays : applies key e None n ≡ quiet_answer → Ends quiet_answer
    quiet_stays same told k =
        subst (λ (x : World). Known x (told ++ (([] ++ (effects_told w (cast_by (family_for key e m) e n) [] ++ [])) ++ [])))
        (sym (call.seated w place s n there up m))
        (subst (λ (ls : List Told). Known (with_seat place (record s { server = OfNode (Some m) }) w) (told ++ (([] ++ (ls ++ [])) ++ [])))
        (sym (call.nothing_told w place s n there up (cast_by (family_for key e m) e n)))
        (subst (Known (with_seat place (record s { server = OfNode (Some m) }) w)) (sym (append-nil told))
        (recoveries_known w place s n m told there up k refl refl refl refl (sound_then told k same) (λ h among. inl (held_before same h among)))))

    by_held : (b : Bool) → is_held o.number.generation n.recovered ≡ b → completed (life n) o.number (heard_in answer) n.recovered ≡ None → Ends (applies key e None n)
    unfolding hears_record
    by_held true held none =
        let same : applies key e None n ≡ quiet_answer =
        applied_again ∙ ap (λ (b : Bool). if b then records_hear o.number (heard_in answer) None n else refuses faults.ObjectNotExist n) held ∙ hears_quietly none in
        subst Ends (sym same) (quiet_stays same)
    by_held false held none =
        subst Ends (sym (applied_again ∙ ap (λ (b : Bool). if b then records_hear o.number (heard_in answer) None n else refuses faults.ObjectNotExist n) held))
        (call.refused_stays w place s n there up key e faults.ObjectNotExist)

    to_record : (c : Option ℕ) → completed (life n) o.number (heard_in answer) n.recovered ≡ c → StaysKnown w (steps_node (Some n) s place key e w).done
    to_record None none = by_nothing (wants_again ∙ ap (λ (c : Option ℕ). option_map WritesDone c) none) (by_held (is_held o.number.generation n.recovered) refl none)
    to_record (Some done) is = complete.known_completes journals nodes stood w place now o answer s n done there up again is

  -- to either
  heard_known : StaysKnown w (steps_node (Some n) s place key e w).done
  heard_known = by (o.number.slot == retold_slot) refl
    where
      by : (b : Bool) → o.number.slot == retold_slot ≡ b → StaysKnown w (steps_node (Some n) s place key e w).done
      by true again = to_record again (completed (life n) o.number (heard_in answer) n.recovered) refl
      by false family = to_family family (family_of key n) refl

-- ---- the sender hears an answer

map_set : {A B : Type 0} (g : A → B) (xs : List A) (i : ℕ) (x y : A) → slice_get xs i ≡ Some x → g y ≡ g x → map g (slice_set xs i y) ≡ map g xs
map_set g [] i x y there same = refl
map_set g (z ∷ xs) zero x y there same = ap (λ u. u ∷ map g xs) (same ∙ sym (ap g (inner there)))
  where
    inner : {A : Type 0} {a b : A} → Some a ≡ Some b → a ≡ b
    inner e = cc
map_set g (z ∷ xs) (suc i) x y there same = ap (λ us. g z ∷ us) (map_set g xs i x y there same)

pub known_hearing : (laws : FamilyLaws) (journals : JournalLaws) (nodes : NodesKeepDecisions) (stood : HeldRecordsStood) (w : World) (request from reply : ℕ) (o : Outward)
    (m back : Message) (answer : Said) (s : Seat) → slice_get w.messages (request - 1) ≡ Some m → m.content ≡ contents.Request from o
    → slice_get w.messages reply ≡ Some back → back.content ≡ contents.Reply request answer → slice_get w.seats from ≡ Some s → is_waited_for w m from o ≡ true
    → StaysKnown w (hears_answer (request - 1) m from o answer s w)
unfolding steps
known_hearing laws journals nodes stood w request from reply o m back answer s at is replied says there waits told k =
    stays_then w (changes u) (λ (x : World). (steps from (family_key from o.number) (answer_event o answer s.clock) x).done) alike came told k
  where
    taken : Message
    taken = record m { answered = true }

    u : World
    u = with_message (request - 1) (record m { answered = true }) w

    alike : StaysKnown w (changes u)
    alike = known_alike w u [] (record { names = refl; seats = refl; messages = map_set kept_message w.messages (request - 1) m (record m { answered = true }) at refl }) tt

    asked : (nth : ℕ) × (p : ℕ) × (q : Outward) × IsWord w nth p q × (request ≡ nth + 1)
    asked = k.words.asked reply request back answer replied says

    number : request ≡ (request - 1) + 1
    number = let e = asked.4 in omega (arith, e)

    word : IsWord u (request - 1) from o
    word = (record m { answered = true }, get_set w.messages (request - 1) m (record m { answered = true }) at, is)

    replied_then : (x : Message) × (slice_get u.messages reply ≡ Some x) × (x.content ≡ contents.Reply ((request - 1) + 1) answer)
    replied_then = elim (set_at w.messages (request - 1) m (record m { answered = true }) reply at) [
      | inl here ↦ absurd (no (sym is ∙ ap (λ (x : Message). x.content) (inner (sym at ∙ sym (ap (slice_get w.messages) here.0) ∙ replied)) ∙ says))
      | inr other ↦ (back, other ∙ replied, says ∙ ap (λ (x : ℕ). contents.Reply x answer) number)
    ]
      where
        no : contents.Request from o ≡ contents.Reply request answer → ⊥
        no e = cc

        inner : {a b : Message} → Some a ≡ Some b → a ≡ b
        inner e = cc

    nothing_came : StaysKnown u (no_step u).done
    nothing_came told_then known = subst (Known u) (sym (append-nil told_then)) known

    at_node : (x : Option Node) → node_in s.server ≡ x → StaysKnown u (steps_node x s from (family_key from o.number) (answer_event o answer s.clock) u).done
    at_node (Some n) up =
        heard_known laws journals nodes stood u (request - 1) from reply s.clock o replied_then.0 answer s n word replied_then.1 replied_then.2 there (node_up s.server n up)
    at_node None up = nothing_came

    came : StaysKnown u (steps from (family_key from o.number) (answer_event o answer s.clock) u).done
    came = subst (λ (x : Option Seat). StaysKnown u (elim x as (λ _. Stepping) [
      | Some y ↦ steps_node (node_in y.server) y from (family_key from o.number) (answer_event o answer s.clock) u
      | None ↦ no_step u
    ]).done) (sym there) (at_node (node_in s.server) refl)
