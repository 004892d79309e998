-- By what is known, a family's words may go out: commit by a record, to decide alone, and rollback.
use Rattle.std.proofs.Common.{◌≡◌, inl, inr, ℕ, true, List, Contains, Option, Some, None, sym, ap, subst, ◌∙◌, true≢false, ⊎_elim}
use Rattle.ior_refs.specs.declared.key.ObjectKey.{ObjectKey}
use Rattle.ots_model.specs.Safe as safe
use Rattle.ots_model.specs.Safe.{Stands, IsToldCommit, IsToldRollback, HasConsented, TakesPart}
use Rattle.ots_model.specs.SafeByLine.{IsCommittedBy, IsTold, CanCommit, CanCommitAlone, CanRollBack}
use Rattle.ots_model.specs.declared.completion.Ground.TheVariants.{Record}
use Rattle.ots_model.specs.declared.completion.Vote.TheVariants.{VoteCommit}
use Rattle.ots_model.specs.declared.line.Line.TheVariants as lines
use Rattle.ots_model.specs.declared.line.ResourceState.TheVariants as shown
use Rattle.ots_model.specs.Numbered.{Outcome}
use Rattle.ots_model.specs.declared.completion.Outcome.TheVariants as outcomes
use Rattle.ots_model.specs.declared.tree.Outward.{Outward}
use Rattle.resource_votes.specs.Ballots.{participants}
use Rattle.resource_votes.specs.declared.registration.Registration.{Registration}
use Rattle.two_phase.specs.Stages as stages
use Rattle.two_phase.specs.Stages.{Standing, Waiting, Going as UnderWay}
use Rattle.resource_end.specs.declared.state.State.{State}
use Rattle.coordinator.specs.Family.{Family}
use Rattle.family_laws.specs.LawsOfSteps.{GoesBack, GoesToParticipant, IsNotAlone, IsRolledBack}
use Rattle.family_laws.specs.Sound.{IsAsking}
use Rattle.family_laws.specs.Trees as trees
use Rattle.nodes_world.specs.Agreement.{IsTransaction, IsClosed, StatesFollow, recorded_key}
use Rattle.nodes_world.specs.AgreementInside.{Known, IsBack, HasVotedCommit}
use Rattle.nodes_world.specs.Told.{Told, known}
use Rattle.nodes_world.specs.World.{World, NamedKey, family_at, referred, thing}
use Rattle.nodes_world.proofs.KnownLines.{among_back, among_turned, closed_cut_off, joined_among, joined_of, joined_up, lines_of, not_both_kinds, of_family, part_among, referred_named, registered_among, same_key, top_of, up_same}
use Rattle.nodes_world.proofs.KnownFamilies.{can_ask, closed_back, cut_branch, participant_of, takes_part}
use Rattle.nodes_world.proofs.KnownWords.{IsDecisionAt, back_is_closed, decided_not_back, resource_of, rests_of, told_commit, voter_stands}

not_back : (o : Option Outcome) → o ≡ None → IsBack o → ⊥
not_back None is back = back
not_back (Some fixed) is back = absurd cc

commits_not_back : (o : Option Outcome) → o ≡ Some (outcomes.Commit Record) → IsRolledBack o → ⊥
commits_not_back None is back = back
commits_not_back (Some (outcomes.Commit basis)) is back = back
commits_not_back (Some (outcomes.Rollback reason)) is back = absurd cc
commits_not_back (Some outcomes.Unknown) is back = back

-- what decides alone, and asks, isn't told to roll back
not_alone_asking : (s : Standing) → IsNotAlone s → IsAsking s → stages.decides_alone s ≡ true → ⊥
not_alone_asking (Waiting room) other asking alone = asking
not_alone_asking (UnderWay c) (inl other) asking alone = true≢false (sym alone ∙ other)
not_alone_asking (UnderWay c) (inr overtaken) asking alone = overtaken asking

module _ (w : World) (told : List Told) (k : Known w told) where
  -- ---- commit

  consented_told : (g : List ℕ) → HasConsented g (known told) → HasConsented g (lines_of told)
  consented_told g (inl voted) = inl (among_turned (known told) _ voted)
  consented_told g (inr voted) = inr (among_turned (known told) _ voted)

  voted_not_undone : (to : List ℕ) (x : NamedKey) → referred w to ≡ Some x → Stands (lines.Voted x.name VoteCommit) (known told)
      → (IsToldRollback x.name (lines_of told) → ⊥) → Stands (lines.State x.name shown.Undone) (lines_of told) → ⊥
  voted_not_undone to x refers voted not_back shows =
      let at = resource_of w told k to x refers in
      let undone = at.2.undone.0 shows in
      not_back (subst (λ (s : State). HasVotedCommit s x.name (lines_of told)) undone (voter_stands w told k x.name at.0 at.2 voted))

  -- commit may be told to one that a decision names, once a line tells the decision
  pub can_commit : (place : ℕ) (to : List ℕ) (x : NamedKey) (d : IsDecisionAt w place to) (family : List ℕ) → referred w to ≡ Some x
      → IsTransaction w family (recorded_key place d.decision.life d.decision.slot d.decision.generation)
      → Stands (lines.Decide family (outcomes.Commit Record)) (lines_of told) → CanCommit x.name (lines_of told)
  can_commit place to x d family refers of_name decided =
      let rests = rests_of w told k place to d in
      let voter = (rests.voters to x refers).0 d.decision.named in
      let same : rests.name ≡ family = k.names.keys rests.name family _ rests.of_name of_name in
      let part : TakesPart x.name family (lines_of told) =
      subst (λ (f : List ℕ). TakesPart x.name f (lines_of told)) same (part_among (known told) (lines_of told) x.name rests.name (among_turned (known told)) voter.0) in
      let joined = part.2 in
      let top = top_of w told k family (of_family (lines_of told) family part.0 (joined_of (lines_of told) family part.0 joined)) in
      let no_back = decided_not_back w told k x.name family part decided in
      record {
        one_way = no_back;
        not_undone = voted_not_undone to x refers voter.1 no_back;
        family = family;
        decider = family;
        under = record {
          transaction = part.0;
          registered = part.1;
          of_family = joined_of (lines_of told) family part.0 joined;
          decided = safe.alone (inl top);
        };
        decided = record {
          recorded = decided;
          consented = λ f p up below takes.
              let own : f ≡ rests.name = up_same w told k family f up ∙ sym same in
              consented_told p (rests.consented p (part_among (lines_of told) (known told) p rests.name (among_back (known told))
              (subst (λ (g : List ℕ). TakesPart p g (lines_of told)) own takes)));
        };
        committed = (part.0, part.1, joined_up (lines_of told) family part.0 joined);
      }

  -- ---- of a family that is there

  module _ (key : ObjectKey) (f : Family) (there : family_at w key ≡ Some f) where
    -- a resource is no family
    not_told_in : (to : List ℕ) (x : NamedKey) → referred w to ≡ Some x → IsTold x.name (lines_of told) → ⊥
    not_told_in to x refers told_in =
        let same : x.name ≡ told_in.family = up_same w told k told_in.family x.name told_in.up in
        let top = top_of w told k told_in.family (of_family (lines_of told) told_in.family told_in.under.transaction told_in.under.of_family) in
        let at = k.names.tops told_in.family top.0 top.1 in
        not_both_kinds (thing w x.name) at.0 x.key (ap (thing w) same ∙ at.1) (referred_named w told k to x refers)

    -- one that takes part in it was told rollback only where that is its outcome
    pub part_back : (r : Registration) (x : NamedKey) → Contains (participants 0 f.ballots) r → referred w r.to ≡ Some x
        → IsToldRollback x.name (lines_of told) → IsBack (stages.outcome f.completion)
    part_back r x among refers back =
        let known_family = k.families key f there in
        let at = back_is_closed w told k x.name known_family.name (takes_part w told k key f there r x among refers) back in
        let same = same_key (thing w known_family.name) at.0 f.key at.1 known_family.of_name in
        closed_back w told k key f there known_family.name known_family.of_name (subst (λ (y : ObjectKey). IsClosed w told y known_family.name) same at.3)

    -- prepare may go to a participant
    pub can_prepare : (o : Outward) (x : NamedKey) → GoesToParticipant f.ballots o → referred w o.to ≡ Some x → IsCommittedBy x.name (lines_of told)
    can_prepare o x goes refers = can_ask w told k key f there goes.r x goes.there (ap (referred w) goes.reference ∙ refers)

    -- commit_one_phase may, where the outcome is open
    pub can_go_alone : (o : Outward) (x : NamedKey) → GoesToParticipant f.ballots o → stages.outcome f.completion ≡ None → referred w o.to ≡ Some x
        → CanCommitAlone x.name (lines_of told)
    can_go_alone o x goes undecided refers =
        let to_it = ap (referred w) goes.reference ∙ refers in
        record {
          one_way = λ back. not_back (stages.outcome f.completion) undecided (part_back goes.r x goes.there to_it back);
          in_time = not_told_in o.to x refers;
          committed = can_ask w told k key f there goes.r x goes.there to_it;
        }

    -- a commit word was told to none that is cut off
    cut_off_part : (r : Registration) (x : NamedKey) (family : List ℕ) → Contains f.ballots.registrations r → referred w r.to ≡ Some x
        → trees.IsCutOff f.rows r.branch → TakesPart x.name family (known told) → ⊥
    cut_off_part r x family among refers off (t, registered, joined) =
        let in_lines = registered_among (known told) (lines_of told) x.name t (among_turned (known told)) registered in
        let branch = (k.families key f there).own r x t among refers in_lines in
        let up = joined_up (lines_of told) family t (joined_among (known told) (lines_of told) family t (among_turned (known told)) joined) in
        closed_cut_off w told k t (cut_branch w told k key f there r.branch t off branch) up

    cut_off_one_way : (r : Registration) (x : NamedKey) → Contains f.ballots.registrations r → referred w r.to ≡ Some x
        → trees.IsCutOff f.rows r.branch → IsToldCommit x.name (lines_of told) → ⊥
    cut_off_one_way r x among refers off (inl sent) =
        let at = told_commit w told k x.name sent in
        cut_off_part r x at.0 among refers off at.1
    cut_off_one_way r x among refers off (inr (number, s)) =
        let at = k.one_phase x.name (number, among_back (known told) _ s) in
        cut_off_part r x at.family among refers off at.participant

    -- nor to one of a family that is rolled back, and where none decides alone
    back_one_way : (r : Registration) (x : NamedKey) → Contains (participants 0 f.ballots) r → referred w r.to ≡ Some x
        → IsRolledBack (stages.outcome f.completion) → IsNotAlone f.completion → IsToldCommit x.name (lines_of told) → ⊥
    back_one_way r x among refers back other (inl sent) =
        let at = participant_of w told k key f there r x among refers in
        commits_not_back (stages.outcome f.completion) (k.open_words.commit x.name at.0 r.branch key f sent at.2 there at.1) back
    back_one_way r x among refers back other (inr sent) =
        let at = participant_of w told k key f there r x among refers in
        let alone = k.open_words.one_phase x.name at.0 r.branch key f sent at.2 there at.1 in
        not_alone_asking f.completion other alone.0 alone.1

    goes_back_one_way : (o : Outward) (x : NamedKey) → GoesBack f.completion f.ballots f.rows o → referred w o.to ≡ Some x
        → IsToldCommit x.name (lines_of told) → ⊥
    goes_back_one_way o x goes refers commit =
        let to_it = ap (referred w) goes.reference ∙ refers in
        ⊎_elim (λ (back : IsRolledBack (stages.outcome f.completion) × IsNotAlone f.completion × Contains (participants 0 f.ballots) goes.r).
        back_one_way goes.r x back.2 to_it back.0 back.1 commit)
        (λ (off : trees.IsCutOff f.rows goes.r.branch). cut_off_one_way goes.r x goes.there to_it off commit) goes.over

    -- rollback may go where it goes by the family
    pub can_roll_back : (o : Outward) (x : NamedKey) → GoesBack f.completion f.ballots f.rows o → referred w o.to ≡ Some x
        → CanRollBack x.name (lines_of told)
    can_roll_back o x goes refers = record {
      one_way = goes_back_one_way o x goes refers;
      not_applied = λ shows.
          let at = resource_of w told k o.to x refers in
          goes_back_one_way o x goes refers (subst (λ (s : State). StatesFollow s x.name (lines_of told)) (at.2.applied.0 shows) at.2.follows);
    }
