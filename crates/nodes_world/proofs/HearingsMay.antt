-- What a node asks of its journal when it hears an answer may be asked: a decision fits, and is of this life; a Done is of a decision
-- that stands.
use Rattle.std.proofs.Common.{◌≡◌, inl, inr, ℕ, zero, suc, ◌-◌, ◌==◌, Bool, true, false, is_some, IsTrue, if◌then◌else◌, List, slice_get, Contains, Option, Some, None, refl, sym, ap, subst, ◌∙◌, arith}
use Rattle.std.specs.Option.{option_and_then, option_map}
use Rattle.ior_refs.specs.declared.key.ObjectKey.{ObjectKey}
use Rattle.ots_model.specs.declared.tree.Outward.{Outward}
use Rattle.decision_journal.specs.Journal.{Found}
use Rattle.decision_journal.specs.declared.record.JournalRecord.{JournalRecord}
use Rattle.recovery_coord.specs.Hearing.{completed}
use Rattle.recovery_coord.specs.Limits.{retold_slot}
use Rattle.two_phase.specs.Stages as stages
use Rattle.coordinator.specs.Family.{Family, Call, call_at, waiting_for}
use Rattle.coordinator.specs.Hearing.{decision_record, record_place, wants_done}
use Rattle.coordinator.specs.History.{has_room}
use Rattle.coordinator.specs.Node.{Node, family_in, family_of, is_of, life}
use Rattle.coordinator.specs.NodeCalls.{RetoldAnswer, call_wants, records_want, retold_answer, wanted_by}
use Rattle.coordinator.specs.NodeParts.{IsInSlot}
use Rattle.coordinator.specs.Step.{Wanted, Appends, Rereads, WritesDone, hears, wanted, wanted_by as wanted_after}
use Rattle.coordinator.specs.declared.call.Leg.TheVariants.{Deciding}
use Rattle.coordinator.specs.declared.event.Event.{Event}
use Rattle.coordinator.specs.declared.said.Said.{Said}
use Rattle.family_laws.specs.HeldRecords.{HeldRecordsStood}
use Rattle.family_laws.specs.OwnDecisions.{HasDecision, NodesKeepDecisions}
use Rattle.nodes_world.specs.CompletionLaws.{CompletionLaws}
use Rattle.nodes_world.specs.declared.message.Content.TheVariants as contents
use Rattle.nodes_world.specs.declared.message.Message.{Message}
use Rattle.nodes_world.specs.Agreement.{FollowsDisk, records_at}
use Rattle.nodes_world.specs.AgreementInside.{Known, FamilyIsKnown, NodeIsKnown, edge_at, is_asking}
use Rattle.nodes_world.specs.AgreementSteps.{StepsStayKnown}
use Rattle.nodes_world.specs.Asking.{HearingsMayAsk, IsOfLife, MayAsk}
use Rattle.nodes_world.specs.Deliveries.{answer_event, heard_in, is_waited_for}
use Rattle.nodes_world.specs.Journals.{records_on}
use Rattle.nodes_world.specs.Laws.{CanAsk}
use Rattle.nodes_world.specs.Objects.{family_key, place_of, service_at}
use Rattle.nodes_world.specs.Told.{Told}
use Rattle.nodes_world.specs.World.{World, Seat, OfNode, family_at}
use Rattle.nodes_world.proofs.AnswersKeep.{hears_keeps}
use Rattle.nodes_world.proofs.AskedCalls.{NobodyVotes, call_cases, deaf_wants, nobody_hears, nothing_fixed}
use Rattle.nodes_world.proofs.CallKnown.{for_key, key_slot, tidy_of}
use Rattle.nodes_world.proofs.ClosesShut.{own_decision}
use Rattle.nodes_world.proofs.CompletesKnown as complete
use Rattle.nodes_world.proofs.CompletesKnown.{JournalLaws}
use Rattle.nodes_world.proofs.DecisionFits.{heard_fits, heard_key}
use Rattle.nodes_world.proofs.KnownFamilies.{family_found, same_parts}
use Rattle.nodes_world.proofs.KnownLines.{lines_of}
use Rattle.nodes_world.proofs.KnownWorlds.{node_there}
use Rattle.nodes_world.proofs.Reaching.{known_reached}

-- where what is known of a world holds, what a node asks that hears an answer may be asked
abbrev pub KnownMayAsk : Type 0
KnownMayAsk = (w : World) (told : List Told) (request from reply : ℕ) (o : Outward) (m back : Message) (answer : Said) (s : Seat) (n : Node)
    → Known w told → slice_get w.messages (request - 1) ≡ Some m → m.content ≡ contents.Request from o → slice_get w.messages reply ≡ Some back
    → back.content ≡ contents.Reply request answer → slice_get w.seats from ≡ Some s → s.server ≡ OfNode (Some n) → is_waited_for w m from o ≡ true
    → MayAsk (call_wants (family_key from o.number) (answer_event o answer s.clock) n) n

may_nothing : (x : Option Wanted) (n : Node) → x ≡ None → MayAsk x n
may_nothing (Some item) n none = absurd cc
may_nothing None n none = record { can = tt; own = λ item is. absurd cc; once = λ is. absurd cc }

may_close : (done : ℕ) (n : Node) → CanAsk (Some (WritesDone done)) n.found → MayAsk (Some (WritesDone done)) n
may_close done n can = record { can = can; own = λ item is. absurd cc; once = λ is. absurd cc }

-- ---- what is wanted once an answer was heard

-- a decision, where one is wanted; else a Done, where that is
abbrev either_wanted : Bool → Bool → Option ℕ → JournalRecord → Option Wanted
either_wanted t u x r = if t then Some (Appends r) else if u then option_map WritesDone x else None

pub appended : (t u : Bool) (x : Option ℕ) (r item : JournalRecord) → either_wanted t u x r ≡ Some (Appends item) → (t ≡ true) × (item ≡ r)
appended true u x r item is = (refl, cc)
appended false true (Some done) r item is = absurd cc
appended false true None r item is = absurd cc
appended false false x r item is = absurd cc

no_reread : (t u : Bool) (x : Option ℕ) (r : JournalRecord) → either_wanted t u x r ≡ Some Rereads → ⊥
no_reread true u x r is = absurd cc
no_reread false true (Some done) r is = absurd cc
no_reread false true None r is = absurd cc
no_reread false false x r is = absurd cc

of_own_life : (now : ℕ) (g : Family) → g.key.life ≡ now → IsOfLife now (decision_record g)
unfolding decision_record
of_own_life now g is = is

-- ---- an answer that comes to a node

module _ (completions : CompletionLaws) (journals : JournalLaws) (nodes : NodesKeepDecisions) (stood : HeldRecordsStood) (w : World) (place now : ℕ) (o : Outward) (answer : Said)
    (s : Seat) (n : Node) (there : slice_get w.seats place ≡ Some s) (up : s.server ≡ OfNode (Some n)) (told : List Told) (k : Known w told) where
  abbrev key : ObjectKey
  key = family_key place o.number

  abbrev e : Event
  e = answer_event o answer now

  abbrev May : Type 0
  May = MayAsk (call_wants key e n) n

  may_by : (x : Option Wanted) → call_wants key e n ≡ x → MayAsk x n → May
  may_by x is may = subst (λ (y : Option Wanted). MayAsk y n) (sym is) may

  -- ---- to a family

  module _ (family : o.number.slot == retold_slot ≡ false) where
    retold : retold_answer e.act ≡ None
    retold = ap (λ (b : Bool). if b then Some (record { number = o.number; heard = heard_in answer }) else None) family

    wants_is : (x : Option Family) → family_of key n ≡ x → call_wants key e n ≡ wanted_by x e n
    unfolding call_wants
    wants_is x is = ap (λ (y : Option Family). wanted_by y e n) (for_key key e n retold ∙ is)

    own_place : place_of key ≡ place
    own_place = omega arith

    module _ (f : Family) (is : family_of key n ≡ Some f) (b : ℕ) (waits : waiting_for f o.number ≡ Some b) where
      slot : (family_in n.families key.slot ≡ Some f) × IsTrue (is_of key f)
      slot = key_slot key n f is

      slotted : family_in n.families f.key.slot ≡ Some f
      slotted =
          let parts = same_parts key.service key.life key.slot key.generation f.key.service f.key.life f.key.slot f.key.generation slot.1 in
          subst (λ (x : ℕ). family_in n.families x ≡ Some f) parts.2 slot.0

      found_here : family_at w key ≡ Some f
      found_here =
          family_found w key f (record { seat = s; node = n; there = ap (slice_get w.seats) own_place ∙ there; up = up; slotted = slot.0; own = slot.1 })

      known : FamilyIsKnown w (lines_of told) f
      known = k.families key f found_here

      -- its own Done
      closes : (done : ℕ) → wanted f e ≡ Some (WritesDone done) → CanAsk (Some (WritesDone done)) n.found
      closes done wants = subst (CanAsk (Some (WritesDone done))) (sym follows.found)
          (complete.can_close place follows.records s.disk (at.order s follows.records there held) decision.stood
          (subst (λ (x : Found). Contains x.standing decision.stood) follows.found decision.there) (own_decision f decision.stood.item decision.own) done decision.at)
        where
          at : NodeIsKnown w told place n
          at = k.nodes place n (node_there w place s n there up)

          follows : FollowsDisk place s n
          follows = k.disks.follows place s n there up

          held : records_at w place ≡ Some follows.records
          held = ap (λ (x : Option Seat). option_and_then (λ (y : Seat). records_on (service_at place) y.disk) x) there ∙ follows.held

          decision : HasDecision n f done
          decision = nodes.closes (edge_at w place) f.key.slot done f e n at.sound slotted wants

      -- its decision
      abbrev g : Family
      g = (hears o.number (heard_in answer) f).family

      wanted_is : wanted f e ≡ wanted_after g
      unfolding wanted
      wanted_is = ap (λ (x : Option ℕ). if is_some x then wanted_after g else None) waits

      module _ (item : JournalRecord) (wants : wanted f e ≡ Some (Appends item)) where
        is_decision : (stages.wants_decision g.completion ≡ true) × (item ≡ decision_record g)
        is_decision = appended (stages.wants_decision g.completion) (wants_done g) (record_place g.completion) (decision_record g) item (sym wanted_is ∙ wants)

        -- somebody votes
        no_voter : NobodyVotes f b → ⊥
        no_voter nobody =
            let rule = hears_keeps o.number (heard_in answer) b f waits (nobody_hears f b nobody known.sound (known.legs b)) (tidy_of w told k key f found_here) in
            no (sym (rule.kept.wants known.settled) ∙ is_decision.0)
          where
            no : false ≡ true → ⊥
            no is = cc

        decides : (c : Call) → call_at f 0 ≡ Some c → c.leg ≡ Deciding → b ≡ 0 → is_asking f.completion ≡ true → MayAsk (Some (Appends item)) n
        decides c at leg first asking = record {
          can = subst (λ (x : JournalRecord). CanAsk (Some (Appends x)) n.found) (sym is_decision.1)
              (heard_fits completions f o.number (heard_in answer) c waits_first at leg known.sound.completion.there asking w told k key found_here known.sound.completion.parties
              place s n there up slotted);
          own = λ x same. subst (IsOfLife (life n)) (sym is_decision.1 ∙ inner same) (of_own_life (life n) g (ap (λ (x : ObjectKey). x.life) same_key ∙ in_slot.of_life));
          once = λ same. absurd cc;
        }
          where
            waits_first : waiting_for f o.number ≡ Some 0
            waits_first = waits ∙ ap (λ (i : ℕ). Some i) first

            same_key : g.key ≡ f.key
            same_key = heard_key completions f o.number (heard_in answer) c waits_first at leg known.sound.completion.there asking

            in_slot : IsInSlot n f.key.slot f
            in_slot = (k.disks.whole place s n there up).families f.key.slot f slotted

            inner : {x y : JournalRecord} → Some (Appends x) ≡ Some (Appends y) → x ≡ y
            inner same = cc

        may_append : MayAsk (Some (Appends item)) n
        may_append = by (is_asking f.completion) refl b refl
          where
            by : (t : Bool) → is_asking f.completion ≡ t → (i : ℕ) → b ≡ i → MayAsk (Some (Appends item)) n
            by false not_asked i equal = absurd (no_voter (inl not_asked))
            by true asking (suc i) equal = absurd (no_voter (inr (omega (arith, equal))))
            by true asking zero equal = elim (call_cases f known.sound (known.legs 0)) [
              | inl deaf ↦ absurd (no (sym (deaf_wants f o answer now (waits ∙ ap (λ (i : ℕ). Some i) equal) deaf known.settled
                  (nothing_fixed completions f.completion known.sound.completion.there asking)) ∙ sym wanted_is ∙ wants))
              | inr at ↦ decides at.0 at.1 at.2 equal asking
            ]
              where
                no : None ≡ Some (Appends item) → ⊥
                no is = cc

      may_family : (x : Option Wanted) → wanted f e ≡ x → MayAsk x n
      may_family None none = may_nothing None n refl
      may_family (Some (WritesDone done)) wants = may_close done n (closes done wants)
      may_family (Some (Appends item)) wants = may_append item wants
      may_family (Some Rereads) wants =
          absurd (no_reread (stages.wants_decision g.completion) (wants_done g) (record_place g.completion) (decision_record g) (sym wanted_is ∙ wants))

    -- nobody waits for the answer
    stale : (f : Family) → waiting_for f o.number ≡ None → wanted f e ≡ None
    unfolding wanted
    stale f none = ap (λ (x : Option ℕ). if is_some x then wanted_after (hears o.number (heard_in answer) f).family else None) none

    to_family : (x : Option Family) → family_of key n ≡ x → May
    to_family None is = may_by None (wants_is None is ∙ ap (λ (x : Option RetoldAnswer). records_want x n) retold) (may_nothing None n refl)
    to_family (Some f) is = may_by (wanted_by (Some f) e n) (wants_is (Some f) is) (by_room (has_room f.entries e))
      where
        by_waiting : (x : Option ℕ) → waiting_for f o.number ≡ x → MayAsk (wanted f e) n
        by_waiting None none = may_nothing (wanted f e) n (stale f none)
        by_waiting (Some b) waits = may_family f is b waits (wanted f e) refl

        by_room : (t : Bool) → MayAsk (if t then wanted f e else None) n
        by_room true = by_waiting (waiting_for f o.number) refl
        by_room false = may_nothing None n refl

  -- ---- to a record that is told again

  to_record : o.number.slot == retold_slot ≡ true → (c : Option ℕ) → completed (life n) o.number (heard_in answer) n.recovered ≡ c → May
  to_record again None none =
      may_by None (complete.wants_again place now o answer n again ∙ ap (λ (c : Option ℕ). option_map WritesDone c) none) (may_nothing None n refl)
  to_record again (Some done) is =
      may_by (Some (WritesDone done)) (complete.wants_again place now o answer n again ∙ ap (λ (c : Option ℕ). option_map WritesDone c) is)
      (may_close done n (complete.can_now journals nodes stood w place now o answer s n done there up again is told k))

  -- to either
  pub may_ask : May
  may_ask = by (o.number.slot == retold_slot) refl
    where
      by : (t : Bool) → o.number.slot == retold_slot ≡ t → May
      by true again = to_record again (completed (life n) o.number (heard_in answer) n.recovered) refl
      by false family = to_family family (family_of key n) refl

-- so it is where what is known of a world holds
pub known_may_ask : CompletionLaws → JournalLaws → NodesKeepDecisions → HeldRecordsStood → KnownMayAsk
known_may_ask completions journals nodes stood w told request from reply o m back answer s n k there is replied says seated up waits =
    may_ask completions journals nodes stood w from s.clock o answer s n seated up told k

-- and in each world that a script reaches
pub hearings_may_ask : CompletionLaws → JournalLaws → NodesKeepDecisions → HeldRecordsStood → StepsStayKnown → HearingsMayAsk
hearings_may_ask completions journals nodes stood keeps w told request from reply o m back answer s n reached =
    known_may_ask completions journals nodes stood w told request from reply o m back answer s n (known_reached keeps w told reached)
