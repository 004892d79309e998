-- A decision record that stands names exactly the registrations that have voted commit: as a call leaves it, and as long as its family is there.
use Rattle.std.proofs.Common.{◌≡◌, ◌==◌, ℕ, zero, List, [], ◌∷◌, map, filter, true, false, Option, Some, None, Contains, refl, sym, subst, ap, ◌∙◌, inl, inr, ◌<◌, ◌≤◌, arith}
use Rattle.std.specs.List.{AllByRecursion, list_any}
use Rattle.std.specs.Option.{option_map_or}
use Rattle.std.proofs.lemmas.List.Elements.{Contains-append_right}
use Rattle.ior_refs.specs.declared.key.ObjectKey.{ObjectKey}
use Rattle.ots_model.specs.declared.completion.CallNumber.{CallNumber}
use Rattle.ots_model.specs.declared.completion.Heard.{Heard}
use Rattle.ots_model.specs.declared.completion.Heard.TheVariants as phase_hears
use Rattle.ots_model.specs.declared.completion.Stood.{Stood}
use Rattle.ots_model.specs.declared.completion.Stood.TheVariants as answers
use Rattle.ots_model.specs.declared.completion.Vote.TheVariants.{VoteCommit, VoteRollback, VoteReadOnly}
use Rattle.ots_model.specs.declared.tree.Outward.{Outward}
use Rattle.resource_votes.specs.Ballots.{participants}
use Rattle.two_phase.specs.Parties.{has_voted_commit, is_commit_vote}
use Rattle.two_phase.specs.Stages as stages
use Rattle.two_phase.specs.Stages.{Standing as Completion, Waiting, Going as UnderWay}
use Rattle.two_phase.specs.declared.party.Party.{Party}
use Rattle.decision_journal.specs.Journal.{Found, with_record}
use Rattle.decision_journal.specs.declared.journal.Standing.{Standing}
use Rattle.decision_journal.specs.declared.record.JournalRecord.{JournalRecord}
use Rattle.decision_journal.specs.declared.record.JournalRecord.TheVariants.{Life, Decision, Done, Prepared, CellsPrepared, CellsOutcome, CellsOnePhase}
use Rattle.decision_journal.specs.declared.record.Registration.{Registration}
use Rattle.recovery_coord.specs.Hearing.{completed}
use Rattle.recovery_coord.specs.Laws.{registrations_of}
use Rattle.coordinator.specs.declared.event.Event.{Event}
use Rattle.coordinator.specs.Family.{Family}
use Rattle.coordinator.specs.Hearing.{decision_record, recorded}
use Rattle.coordinator.specs.Node.{Node, life, load}
use Rattle.coordinator.specs.NodeCalls.{applies, call_wants, family_for, journaled}
use Rattle.coordinator.specs.NodeSlots.{creates}
use Rattle.coordinator.specs.NodeTick.{ticks}
use Rattle.coordinator.specs.Step.{Appends, Rereads, Wanted, family_step, hears, wanted}
use Rattle.family_laws.specs.LawsOfJournal.{AppendsOwn, FamiliesAppendOwn}
use Rattle.family_laws.specs.LawsOfSteps.{FamiliesStaySound}
use Rattle.family_laws.specs.LawsOfTelling.{FamiliesNumberWords}
use Rattle.family_laws.specs.OwnDecisions.{AppendsBetween, FindsOwn}
use Rattle.family_laws.specs.Sound.{HasParties, IsSoundFamily}
use Rattle.node_laws.specs.Commits.{CommitsRest, GoesByDecision, IsOfStanding}
use Rattle.node_laws.specs.Rules.{GoesOn, KeepsRules, NamesVotersOf, NodesKeepRules, named_as}
use Rattle.node_laws.specs.Rules.GoesOn.{still, made, called, ticked as passes, loaded as begins}
use Rattle.node_laws.specs.Voters.{DecisionsNameVoters, HasVoted, IsKept, LeavesDecision, NamesExactly}
use Rattle.node_laws.proofs.Dones.{made_found, stood_or_new, ticked_found}
use Rattle.node_laws.proofs.Families.{newly_named, voters_named}
use Rattle.node_laws.proofs.Lists.{all_each, all_map, all_on, of_filter, passes_filter}
use Rattle.node_laws.proofs.Named.{named_by}
use Rattle.node_laws.proofs.Rules.{loaded_so, now_there}
use Rattle.node_laws.proofs.Stands.{Called, called_is, never_appends, once}
use Rattle.node_laws.proofs.Stands.Called.{by_answer, by_nothing, by_step}

-- ---- those that are named have voted

is_voter : (o : Option Heard) → option_map_or is_commit_vote o false ≡ true → o ≡ Some (phase_hears.Voted VoteCommit)
is_voter (Some (phase_hears.Voted VoteCommit)) h = refl
is_voter (Some (phase_hears.Voted VoteRollback)) h = absurd (cc h)
is_voter (Some (phase_hears.Voted VoteReadOnly)) h = absurd (cc h)
is_voter (Some phase_hears.Done) h = absurd (cc h)
is_voter (Some (phase_hears.Heuristic d)) h = absurd (cc h)
is_voter (Some phase_hears.RolledBack) h = absurd (cc h)
is_voter (Some phase_hears.NotPrepared) h = absurd (cc h)
is_voter (Some phase_hears.NoObject) h = absurd (cc h)
is_voter (Some phase_hears.Other) h = absurd (cc h)
is_voter (Some phase_hears.Lost) h = absurd (cc h)
is_voter (Some phase_hears.Starved) h = absurd (cc h)
is_voter None h = absurd (cc h)

all_voted : (ps : List Party) → AllByRecursion (HasVoted ps) (map recorded (filter has_voted_commit ps))
all_voted ps =
    all_map (HasVoted ps) recorded (filter has_voted_commit ps) (all_each (λ (p : Party). HasVoted ps (recorded p)) (filter has_voted_commit ps) (λ p c. record {
      party = p;
      there = of_filter has_voted_commit ps p c;
      voted = is_voter p.ballot (passes_filter has_voted_commit ps p c);
      number = refl;
      reference = refl;
    }))

names_exactly : (item : JournalRecord) (f : Family) → HasParties f.completion (participants 0 f.ballots) → NamesVotersOf item f.completion → NamesExactly item f
names_exactly item f take_part names = go item f.completion refl names
  where
    go : (r : JournalRecord) (s : Completion) → f.completion ≡ s → NamesVotersOf r s → NamesExactly r f
    go (Decision l slot generation by asked some) (UnderWay c) i k = record {
      course = c;
      under_way = i;
      take_part = take_part;
      each = voters_named some c.parties k;
      alone = subst (λ (rs : List Registration). AllByRecursion (HasVoted c.parties) rs) (sym k) (all_voted c.parties);
      in_order = k;
      by_number = λ g. ap (λ (rs : List Registration). list_any (λ (r : Registration). r.index == g) rs) k ∙ named_by g c.parties
          ∙ ap (λ (s : Completion). stages.is_named s g) (sym i);
    }
    go (Decision l slot generation by asked some) (Waiting room) i k = absurd k
    go (Life l) s i k = absurd k
    go (Done named) s i k = absurd k
    go (Prepared l slot generation recovery some) s i k = absurd k
    go (CellsPrepared l number recovery puts) s i k = absurd k
    go (CellsOutcome named end) s i k = absurd k
    go (CellsOnePhase l number puts) s i k = absurd k

-- ---- a call that asks for a decision

pub record Laws : Type 0 where
  pub append : FamiliesAppendOwn
  pub words : FamiliesNumberWords
  pub sound : FamiliesStaySound
  pub nodes : NodesKeepRules
  pub rest : CommitsRest

appended_there : (found : Found) (place : ℕ) (h : Family) → Contains (with_record found place (decision_record h)).standing (record { place = place; item = decision_record h })
unfolding decision_record
appended_there found place h = Contains-append_right found.standing (record { place = place; item = decision_record h } ∷ []) _ (zero, omega arith, refl)

stands_then : (w : Option Wanted) (found : Found) (place : ℕ) (item : JournalRecord) (h : Family) → w ≡ Some (Appends item) → item ≡ decision_record h
    → Contains (journaled w (Some (answers.Stands place)) found).standing (record { place = place; item = item })
stands_then w found place item h wants is =
    subst (λ (x : Option Wanted). Contains (journaled x (Some (answers.Stands place)) found).standing (record { place = place; item = item })) (sym wants)
    (subst (λ (r : JournalRecord). Contains (with_record found place r).standing (record { place = place; item = r })) (sym is) (appended_there found place h))

no_append : {item : JournalRecord} → ◌≡◌ {A = Option Wanted} None (Some (Appends item)) → ⊥
no_append e = cc e

leaves_decision : Laws → (edge place : ℕ) (n : Node) (k : ObjectKey) (e : Event) (item : JournalRecord) (w : Option Wanted) (later : Node) (some : List Outward)
    → Called n k e (Some (answers.Stands place)) w later some → KeepsRules edge n → w ≡ Some (Appends item) → LeavesDecision k e n later item place
leaves_decision law edge place n k e item _ _ _ (by_step f there) h wants =
    let stood : Option Stood = Some (answers.Stands place) in
    let sound : IsSoundFamily f = (h.decisions.sound.families k.slot f there).1 in
    let own : AppendsOwn f e item = law.append f e item wants in
    record {
      family = f;
      came_to = there;
      left = (family_step f e stood).family;
      there = now_there law.words edge n h.decisions f e stood k.slot there;
      number = own.number;
      heard = own.heard;
      brought = own.answer;
      draft = own.is_record;
      stands = stands_then (wanted f e) n.found place item (hears own.number own.heard f).family wants own.is_record;
      decided = own.stands place;
      names = names_exactly item (family_step f e stood).family (law.sound.steps f e stood sound).completion.parties (newly_named law.append f e stood item wants);
    }
leaves_decision law edge place n k e item _ _ _ (by_answer number heard) h wants = absurd (never_appends (completed n.found.life number heard n.recovered) item wants)
leaves_decision law edge place n k e item _ _ _ (by_nothing w none) h wants = absurd (no_append (sym none ∙ wants))

-- ---- it is kept

-- what stands at the place of a record, before the edge, is that record
record IsThere (edge : ℕ) (n : Node) (item : JournalRecord) (place : ℕ) : Type 0 where
  low : place < edge
  same : (s : Standing) → Contains n.found.standing s → s.place ≡ place → s.item ≡ item

same_there : (edge end : ℕ) (n later : Node) (item : JournalRecord) (place : ℕ) → edge ≤ end → later.found.standing ≡ n.found.standing → IsThere edge n item place → IsThere end later item place
same_there edge end n later item place grows alike h = record {
  low = let l = h.low in omega (arith, l, grows);
  same = λ s c at. h.same s (subst (λ (xs : List Standing). Contains xs s) alike c) at;
}

there_on : (edge : ℕ) (n : Node) (item : JournalRecord) (place : ℕ) → IsThere edge n item place → (reached : ℕ) (later : Node) → GoesOn edge n reached later → IsThere reached later item place
there_on edge n item place h _ _ still = h
there_on edge n item place h _ _ (made now seconds reached later on) =
    same_there reached reached later (creates now seconds later).node item place (omega arith) (ap (λ (x : Found). x.standing) (made_found now seconds later)) (there_on edge n item place h reached later on)
there_on edge n item place h _ _ (called k e stood reached end later on grows appends finds) =
    let x = there_on edge n item place h reached later on in
    record {
      low = let l = x.low in omega (arith, l, grows);
      same = λ s c at. elim (stood_or_new later k e stood (call_wants k e later) (applies k e stood later).node (applies k e stood later).words (called_is later k e stood) s c) [
        | inl old ↦ x.same s old at
        | inr new ↦
            let l = x.low in
            let b = (appends new.item new.place new.wanted new.stands).0 in
            let is = ap (λ (t : Standing). t.place) new.is in
            absurd (omega (arith, l, b, is, at))
      ];
    }
there_on edge n item place h _ _ (passes now reached later on) =
    same_there reached reached later (ticks now later).node item place (omega arith) (ap (λ (x : Found). x.standing) (ticked_found now later)) (there_on edge n item place h reached later on)
there_on edge n item place h _ _ (begins records reached end later on grows is standing) =
    same_there reached end later (load later.service records) item place grows (ap (λ (x : Found). x.standing) (loaded_so records) ∙ sym (ap (λ (x : Found). x.standing) is)) (there_on edge n item place h reached later on)

-- one that is told again under its number
told_named : (lives : ℕ) (standing : List Standing) (item : JournalRecord) (place : ℕ) → ((s : Standing) → Contains standing s → s.place ≡ place → s.item ≡ item)
    → (o : Outward) → IsOfStanding lives standing o → o.number.generation ≡ place → Contains (registrations_of item) (named_as o.registration o.to)
told_named lives standing item place same o x at =
    let d : GoesByDecision standing o = x.decision in
    let is : d.place ≡ place = sym (ap (λ (n : CallNumber). n.generation) x.number) ∙ at in
    subst (λ (r : JournalRecord). Contains (registrations_of r) (named_as o.registration o.to)) (same _ d.stands is) d.names

is_kept : NodesKeepRules → CommitsRest → (edge : ℕ) (m : Node) (item : JournalRecord) (place : ℕ) → KeepsRules edge m → IsThere edge m item place → IsKept m item place
is_kept nodes rest edge m item place h there = record {
  same = there.same;
  told = λ now.
      all_on (IsOfStanding (life m) m.found.standing) (λ (o : Outward). o.number.generation ≡ place → Contains (registrations_of item) (named_as o.registration o.to))
      (told_named (life m) m.found.standing item place there.same) (ticks now m).words (rest.told_again now m (nodes.ticked edge now m h).held);
}

same_place : {a b : ℕ} → Some (answers.Stands a) ≡ Some (answers.Stands b) → a ≡ b
same_place e = cc e

no_reread : {item : JournalRecord} → Some (Appends item) ≡ Some Rereads → ⊥
no_reread e = cc e

keeps_decision : Laws → (edge more place : ℕ) (k : ObjectKey) (e : Event) (n : Node) (item : JournalRecord) → KeepsRules edge n → call_wants k e n ≡ Some (Appends item) → edge ≤ place → place < more
    → (reached : ℕ) (m : Node) → GoesOn more (applies k e (Some (answers.Stands place)) n).node reached m → IsKept m item place
keeps_decision law edge more place k e n item h wants behind low reached m on =
    let x : LeavesDecision k e n later item place = leaves_decision law edge place n k e item (call_wants k e n) later (applies k e (Some (answers.Stands place)) n).words (called_is n k e (Some (answers.Stands place))) h wants in
    let there : IsThere more later item place = record {
      low = low;
      same = λ s c at. ap (λ (t : Standing). t.item) (once later.found.standing s (record { place = place; item = item }) rules.decisions.sound.order c x.stands at);
    } in
    is_kept law.nodes law.rest reached m item place (law.nodes.goes_on more reached later m rules on) (there_on more later item place there reached m on)
  where
    later : Node
    later = (applies k e (Some (answers.Stands place)) n).node

    appends : AppendsBetween edge more (call_wants k e n) (Some (answers.Stands place))
    appends other at i j = subst (λ (p : ℕ). (edge ≤ p) × (p < more)) (same_place j) (behind, low)

    finds : FindsOwn (family_for k e n) (call_wants k e n) (Some (answers.Stands place)) n
    finds f at i j l = absurd (no_reread (sym wants ∙ j))

    rules : KeepsRules more later
    rules = law.nodes.called edge more k e (Some (answers.Stands place)) n (omega (arith, behind, low)) appends finds h

pub decisions_name_voters : Laws → DecisionsNameVoters
decisions_name_voters law = record {
  called = λ edge place k e n item h wants.
      let stood : Option Stood = Some (answers.Stands place) in
      leaves_decision law edge place n k e item (call_wants k e n) (applies k e stood n).node (applies k e stood n).words (called_is n k e stood) h wants;
  stands = λ edge slot n f s h there c at. names_exactly s.item f (h.decisions.sound.families slot f there).1.completion.parties (h.named slot f s there c at);
  kept = keeps_decision law;
}
