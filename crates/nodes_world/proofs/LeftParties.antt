-- The record that a finished family leaves: whom it isn't to be told again, its family has told its commit, and that one has answered.
use Rattle.std.proofs.Common.{◌≡◌, ℕ, ◌==◌, ◌&&◌, ◌||◌, not, Bool, true, false, cond, is_some, if◌then◌else◌, IsTrue, List, [], ◌∷◌, map, filter, Contains, Option, Some, None, refl, sym, ap, subst, ◌∙◌, arith}
use Rattle.std.specs.List.{AllByRecursion, list_any}
use Rattle.std.specs.Option.{option_and_then, option_map_or}
use Rattle.std.proofs.lemmas.Bool.Decides.{nat_tests}
use Rattle.std.proofs.lemmas.List.Folds.{list_any-from_Any}
use Rattle.std.proofs.lemmas.Slice.Eq.{bytes_eq-Decides}
use Rattle.ots_model.specs.Safe.{Stands}
use Rattle.ots_model.specs.declared.completion.Ground.TheVariants.{Record}
use Rattle.ots_model.specs.declared.completion.Heard.{Heard}
use Rattle.ots_model.specs.declared.completion.Heard.TheVariants as phase_hears
use Rattle.ots_model.specs.declared.completion.Vote.TheVariants.{VoteCommit}
use Rattle.ots_model.specs.declared.line.Line.TheVariants as lines
use Rattle.ots_model.specs.Numbered.{Outcome}
use Rattle.ots_model.specs.declared.completion.Outcome.TheVariants as outcomes
use Rattle.resource_votes.specs.Ballots.{participants}
use Rattle.two_phase.specs.Course as course
use Rattle.two_phase.specs.Course.{Course}
use Rattle.two_phase.specs.Parties.{completes, has_voted_commit, is_owed}
use Rattle.two_phase.specs.Reports as reports
use Rattle.two_phase.specs.Stages as stages
use Rattle.two_phase.specs.Stages.{Standing as Completion, Waiting, Going as UnderWay}
use Rattle.two_phase.specs.declared.party.Party.{Party}
use Rattle.two_phase.specs.declared.party.Stage.TheVariants as rounds
use Rattle.decision_journal.specs.Journal.{Found}
use Rattle.decision_journal.specs.declared.journal.Standing.{Standing}
use Rattle.decision_journal.specs.declared.record.JournalRecord.{JournalRecord}
use Rattle.decision_journal.specs.declared.record.JournalRecord.TheVariants.{Life, Decision, Done, Prepared, CellsPrepared, CellsOutcome, CellsOnePhase}
use Rattle.decision_journal.specs.declared.record.Registration.{Registration as Named}
use Rattle.recovery_coord.specs.Laws.{registrations_of}
use Rattle.coordinator.specs.Family.{Family}
use Rattle.coordinator.specs.Node.{Node, family_in}
use Rattle.coordinator.specs.NodeSlots.{left_record}
use Rattle.family_laws.specs.LawsOfTelling.{IsVoted}
use Rattle.family_laws.specs.Sound.{HasParties}
use Rattle.family_laws.specs.SoundNode.{IsDecisionOf}
use Rattle.nodes_world.specs.Agreement.{FollowsDisk, RestsOnVotes, has_record, is_decision_of, is_registration_of, recorded_key, records_at}
use Rattle.nodes_world.specs.AgreementInside.{FamilyIsKnown, Known, is_prepared}
use Rattle.nodes_world.specs.Journals.{records_on}
use Rattle.nodes_world.specs.Objects.{service_at}
use Rattle.nodes_world.specs.Told.{Told, known}
use Rattle.nodes_world.specs.World.{World, NamedKey, Seat, node_at, referred}
use Rattle.nodes_world.proofs.AnsweredCommits.{HasAnsweredCommit}
use Rattle.nodes_world.proofs.AskedCounts.{IsRegisteredAs}
use Rattle.nodes_world.proofs.Deeds.{NodeIsUp, node_is_up}
use Rattle.nodes_world.proofs.DecisionFits.{all_registered}
use Rattle.nodes_world.proofs.DuesHeard.{AreLeft, left_stands}
use Rattle.nodes_world.proofs.KnownLines.{among_turned, lines_of}
use Rattle.nodes_world.proofs.LoadedNodes.{standing_record}
use Rattle.nodes_world.proofs.NamedParties.{HasParty, RecordsNameParties}
use Rattle.nodes_world.proofs.RetoldWords.{IsDecision, decision_of}
use Rattle.nodes_world.proofs.RulesKeep.{registered_of}
use Rattle.nodes_world.proofs.ToldParties.{each_of, one_registered}
use Rattle.nodes_world.proofs.ToldReplied.{ToldReplied, slot_found, slot_known, slot_place}
use Rattle.nodes_world.proofs.ToldStored.{told_answered}

inner : {A : Type 0} {x y : A} → Some x ≡ Some y → x ≡ y
inner e = cc

-- ---- who isn't owed the commit

first_of : (a b : Bool) → (a || b) ≡ false → a ≡ false
first_of true b is = absurd cc
first_of false b is = refl

second_of : (a b : Bool) → (a || b) ≡ false → b ≡ false
second_of true b is = absurd cc
second_of false b is = is

-- a participant of a number that isn't owed is not owed
not_owed : (ps : List Party) (index : ℕ) → list_any (λ k. k == index) (map (λ (p : Party). p.index) (filter (is_owed rounds.Telling) ps)) ≡ false
    → AllByRecursion (λ (p : Party). p.index ≡ index → is_owed rounds.Telling p ≡ false) ps
not_owed [] index none = tt
not_owed (p ∷ ps) index none = by (is_owed rounds.Telling p) refl none (not_owed ps index)
  where
    rest : List ℕ
    rest = map (λ (q : Party). q.index) (filter (is_owed rounds.Telling) ps)

    Free : Party → Type 0
    Free q = q.index ≡ index → is_owed rounds.Telling q ≡ false

    other : (p.index == index) ≡ false → p.index ≡ index → ⊥
    other is same = grind (arith, nat_tests, is, same)

    by : (t : Bool) → is_owed rounds.Telling p ≡ t
        → list_any (λ k. k == index) (map (λ (q : Party). q.index) (cond t (p ∷ filter (is_owed rounds.Telling) ps) (filter (is_owed rounds.Telling) ps))) ≡ false
        → (list_any (λ k. k == index) rest ≡ false → AllByRecursion Free ps) → Free p × AllByRecursion Free ps
    by true owed none more =
        (λ same. absurd (other (first_of (p.index == index) (list_any (λ k. k == index) rest) none) same), more (second_of (p.index == index) (list_any (λ k. k == index) rest) none))
    by false owed none more = (λ same. owed, more none)

-- one that has voted commit and isn't owed it has been told
told_unowed : (p : Party) → p.ballot ≡ Some (phase_hears.Voted VoteCommit) → is_owed rounds.Telling p ≡ false → IsTrue (is_some p.told)
told_unowed p ballot free = by p.told (has_voted_commit p) (ap (λ (o : Option Heard). has_voted_commit (record p { ballot = o })) ballot) free
  where
    by : (o : Option Heard) (v : Bool) → v ≡ true → (v && not (option_map_or completes o false)) ≡ false → is_some o ≡ true
    by (Some h) v is none = refl
    by None true is none = absurd cc
    by None false is none = absurd cc

free_of : (c : Course) (index : ℕ) → course.outcome c ≡ Some (outcomes.Commit Record) → list_any (λ k. k == index) (reports.pending_commits c) ≡ false
    → AllByRecursion (λ (p : Party). p.index ≡ index → is_owed rounds.Telling p ≡ false) c.parties
unfolding reports.owed_numbers
free_of c index commits none =
    not_owed c.parties index
    (ap (λ (t : Bool). list_any (λ k. k == index) (if t then reports.owed_numbers rounds.Telling c.parties else [])) (sym (ap (λ (x : Option Outcome). reports.is_commit x) commits)) ∙ none)

-- ---- the record of a family

own_of : (f : Family) (item : JournalRecord) → IsDecisionOf f item → is_decision_of f.key item ≡ true
own_of f (Decision life slot generation retry asked regs) own = three f.key.life f.key.slot f.key.generation life slot generation own.0 own.1 own.2
  where
    three : (a b c p q r : ℕ) → a ≡ p → b ≡ q → c ≡ r → (p == a && q == b && r == c) ≡ true
    three a b c p q r one two same = grind (arith, nat_tests)
own_of f (Life life) own = absurd own
own_of f (Done named) own = absurd own
own_of f (Prepared life slot generation recovery regs) own = absurd own
own_of f (CellsPrepared life number recovery puts) own = absurd own
own_of f (CellsOutcome named how) own = absurd own
own_of f (CellsOnePhase life number puts) own = absurd own

-- what stands in the journal of a node that is up is a record of its disk, and no tree has a superior
module _ (w : World) (told : List Told) (k : Known w told) (place : ℕ) (n : Node) (up : node_at w place ≡ Some n) where
  pub at_seat : NodeIsUp w place n
  at_seat = node_is_up w place n up

  pub follows : FollowsDisk place at_seat.seat n
  follows = k.disks.follows place at_seat.seat n at_seat.there at_seat.up

  pub held_records : records_at w place ≡ Some follows.records
  held_records = ap (λ (x : Option Seat). option_and_then (λ (s : Seat). records_on (service_at place) s.disk) x) at_seat.there ∙ follows.held

  pub stands_recorded : (s : Standing) → Contains n.found.standing s → Contains follows.records s.item
  stands_recorded s among = standing_record follows.records s (subst (λ (x : Found). Contains x.standing s) follows.found among)

  pub stands_bare : (s : Standing) → Contains n.found.standing s → is_prepared s.item ≡ false
  stands_bare s among = k.disks.no_superior place follows.records s.item held_records (stands_recorded s among)

module _ (w : World) (told : List Told) (k : Known w told) (replied : ToldReplied w) (named : RecordsNameParties w) (place : ℕ) (n : Node) (up : node_at w place ≡ Some n)
    (slot : ℕ) (f : Family) (there : family_in n.families slot ≡ Some f) (s : Standing) (left : left_record n.found f ≡ Some s) where
  known_f : FamilyIsKnown w (lines_of told) f
  known_f = slot_known w told k place n up slot f there

  stands : Contains n.found.standing s
  stands = (left_stands n.found f s left).0

  abbrev rs : List JournalRecord
  rs = (follows w told k place n up).records

  held : records_at w place ≡ Some rs
  held = held_records w told k place n up

  among : Contains rs s.item
  among = stands_recorded w told k place n up s stands

  bare : is_prepared s.item ≡ false
  bare = stands_bare w told k place n up s stands

  own : is_decision_of f.key s.item ≡ true
  own = own_of f s.item ((k.nodes place n up).sound.own slot f s there stands (left_stands n.found f s left).1)

  commits : stages.outcome f.completion ≡ Some (outcomes.Commit Record)
  commits = known_f.recorded.0
      (ap (λ (i : ℕ). has_record w i (is_decision_of f.key)) (slot_place w told k place n up slot f there)
      ∙ ap (λ (o : Option (List JournalRecord)). option_map_or (λ (xs : List JournalRecord). list_any (is_decision_of f.key) xs) o false) held
      ∙ list_any-from_Any (is_decision_of f.key) rs (among.0, s.item, among.1, among.2, own))

  module _ (r : Named) (one : Contains (registrations_of s.item) r) (unowed : list_any (λ k. k == r.index) (stages.pending_commits f.completion) ≡ false) where
    decision : IsDecision s.item
    decision = decision_of s.item r bare one

    -- it leads to an object, of which a line tells the vote
    record IsVoter : Type 0 where
      object : NamedKey
      leads : referred w r.reference ≡ Some object
      line : Stands (lines.Voted object.name VoteCommit) (lines_of told)

    voter : IsVoter
    voter = by (referred w r.reference) refl (rests.named r.reference is_named)
      where
        regs : List Named
        regs = registrations_of s.item

        rests : RestsOnVotes w told (recorded_key place decision.of_life decision.slot decision.generation) regs
        rests = k.records place decision.of_life decision.slot decision.generation decision.retry decision.asked regs rs held (subst (Contains rs) decision.is among)

        is_named : IsTrue (list_any (is_registration_of r.reference) regs)
        is_named = list_any-from_Any (is_registration_of r.reference) regs (one.0, r, one.1, one.2, (bytes_eq-Decides r.reference r.reference).1 refl)

        by : (o : Option NamedKey) → referred w r.reference ≡ o → IsTrue (is_some o) → IsVoter
        by (Some x) leads is = record { object = x; leads = leads; line = among_turned (known told) _ ((rests.voters r.reference x leads).0 is_named).1 }
        by None leads is = absurd cc

    by_course : (c : Course) → f.completion ≡ UnderWay c → HasParty (UnderWay c) r.index r.reference → HasAnsweredCommit w r.reference
    by_course c course_is (p, there_p, number, reference) =
        subst (HasAnsweredCommit w) same_reference
        (told_answered w told k replied f.key f (slot_found w told k place n up slot f there) commits c course_is q among_q
        (told_unowed q ballot (each_of (λ (x : Party). x.index ≡ r.index → is_owed rounds.Telling x ≡ false) c.parties
        (free_of c r.index (sym (ap stages.outcome course_is) ∙ commits) (ap (λ (x : Completion). list_any (λ k. k == r.index) (stages.pending_commits x)) (sym course_is) ∙ unowed))
        q among_q (same_number ∙ number)))
        voter.object (ap (referred w) same_reference ∙ voter.leads))
      where
        parties : HasParties (UnderWay c) (participants 0 f.ballots)
        parties = subst (λ (x : Completion). HasParties x (participants 0 f.ballots)) course_is known_f.sound.completion.parties

        registered : AllByRecursion (IsRegisteredAs f.ballots.registrations) c.parties
        registered = all_registered f.ballots.registrations c.parties (participants 0 f.ballots) parties.0 parties.1 (registered_of f 0)

        as_one : IsRegisteredAs f.ballots.registrations p
        as_one = each_of (IsRegisteredAs f.ballots.registrations) c.parties registered p there_p

        -- so it has voted commit
        voted : IsVoted (UnderWay c) p.index VoteCommit
        voted =
            subst (λ (x : Completion). IsVoted x p.index VoteCommit) course_is
            ((known_f.votes p.index VoteCommit as_one.r voter.object as_one.there as_one.index (ap (referred w) (as_one.reference ∙ reference) ∙ voter.leads)).1 voter.line)

        q : Party
        q = voted.1

        among_q : Contains c.parties q
        among_q = (voted.0, voted.2, voted.3)

        same_number : q.index ≡ p.index
        same_number = voted.4.0

        ballot : q.ballot ≡ Some (phase_hears.Voted VoteCommit)
        ballot = voted.4.1

        same_reference : q.to ≡ r.reference
        same_reference =
            one_registered f.ballots.registrations known_f.numbered q p (each_of (IsRegisteredAs f.ballots.registrations) c.parties registered q among_q) as_one same_number
            ∙ reference

    answered : HasAnsweredCommit w r.reference
    answered = by f.completion refl (named place n slot f rs s.item r up there held among own one)
      where
        by : (x : Completion) → f.completion ≡ x → HasParty x r.index r.reference → HasAnsweredCommit w r.reference
        by (Waiting room) is party = absurd party
        by (UnderWay c) is party = by_course c is party

  pub left_parties : AreLeft (HasAnsweredCommit w) f s
  left_parties = (bare, answered)
