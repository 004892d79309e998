-- What is known of a family as a step leaves it.
use Rattle.std.proofs.Common.{◌≡◌, ◌⊎◌, ◌↔◌, inl, inr, ℕ, ◌<◌, Bool, is_some, IsTrue, List, ◌++◌, length, slice_get, Contains, Option, Some, None, refl, sym, ap, subst, ◌∙◌}
use Rattle.ior_refs.specs.declared.key.ObjectKey.{ObjectKey}
use Rattle.ots_model.specs.Safe.{Stands, IsRegistered}
use Rattle.ots_model.specs.declared.completion.Ground.{Ground}
use Rattle.ots_model.specs.declared.completion.Ground.TheVariants.{Record}
use Rattle.ots_model.specs.Numbered.{LineOutcome}
use Rattle.ots_model.specs.declared.completion.Reason.{Reason as ToldReason}
use Rattle.ots_model.specs.declared.completion.Vote.{Vote}
use Rattle.ots_model.specs.declared.line.Line.{Line}
use Rattle.ots_model.specs.declared.line.Line.TheVariants as lines
use Rattle.ots_model.specs.declared.service.RetryKey.{RetryKey}
use Rattle.ots_model.specs.Numbered.{Outcome}
use Rattle.ots_model.specs.declared.completion.Outcome.TheVariants as outcomes
use Rattle.ots_model.specs.declared.tree.Outward.{Outward}
use Rattle.txn_tree.specs.Rows.{state}
use Rattle.txn_tree.specs.declared.row.Row.{Row}
use Rattle.resource_votes.specs.declared.registration.Registration.{Registration}
use Rattle.two_phase.specs.Stages as stages
use Rattle.decision_journal.specs.declared.record.JournalRecord.{JournalRecord}
use Rattle.coordinator.specs.declared.effect.Effect.{Effect}
use Rattle.coordinator.specs.declared.effect.Effect.TheVariants as effects
use Rattle.coordinator.specs.declared.said.Entry.{Entry}
use Rattle.coordinator.specs.declared.said.Finished.{Finished}
use Rattle.coordinator.specs.Family.{Family}
use Rattle.coordinator.specs.Phases.{is_before}
use Rattle.family_laws.specs.LawsOfTelling.{IsVoted, rows_told}
use Rattle.nodes_world.specs.Agreement.{has_record, is_decision_of}
use Rattle.nodes_world.specs.AgreementInside.{Known, FamilyIsKnown, HasMessage, IsBranch, IsListed, OutcomeIsTold}
use Rattle.nodes_world.specs.Happenings.{Cast, all_effect_lines, all_finished_lines, branch_name, registered}
use Rattle.nodes_world.specs.Objects.{place_of}
use Rattle.nodes_world.specs.Told as tell
use Rattle.nodes_world.specs.Told.{Told, known}
use Rattle.nodes_world.specs.World.{World, NamedKey, family_at, referred}
use Rattle.nodes_world.proofs.KnownLines.{among_back, among_turned, lines_of}
use Rattle.nodes_world.proofs.KnownFamilies.{is_own}
use Rattle.nodes_world.proofs.EffectsTold.{TellsEffects, effects_told_on}
use Rattle.nodes_world.proofs.EffectsSay.{IsSaidAs, Says, commit_told, voted_told}
use Rattle.nodes_world.proofs.BranchNames.{named_branch}
use Rattle.nodes_world.proofs.StepBranches as branches
use Rattle.nodes_world.proofs.StepEnds.{ends_now, line_cases, new_stands}
use Rattle.nodes_world.proofs.StepIs.{IsCastOf, StepIs, decided_new, new_decided}
use Rattle.nodes_world.proofs.NamedVotes.{is_named, one_reference, who_is}

module _ (w v : World) (told : List Told) (k : Known w told) (key : ObjectKey) (f g : Family) (there : family_at w key ≡ Some f) (c : Cast) (cast : IsCastOf f c)
    (some : List Effect) (words : List Outward) (is : StepIs w f g some words) (entries : List Entry) (done : List Finished) (names : v.names ≡ w.names)
    (refers : (to : List ℕ) → referred v to ≡ referred w to)
    (has : (place : ℕ) (is_so : JournalRecord → Bool) → has_record v place is_so ≡ has_record w place is_so) where
  abbrev more : List Told
  more = told ++ (all_effect_lines w c some ++ all_finished_lines entries done)

  abbrev early : Bool
  early = is_before f.stage

  own : c.key ≡ f.key
  own = cast.key

  tells : TellsEffects told more
  tells = effects_told_on w told k key f there c own early some is.turn entries done

  abbrev old : FamilyIsKnown w (lines_of told) f
  old = k.families key f there

  branch_on : (t : List ℕ) (b : ℕ) → IsBranch w f t b → IsBranch v g t b
  branch_on t b branch = branches.branch_on w v told more k names tells key f g there is.key some is.rows t b branch

  branch_back : (t : List ℕ) (b : ℕ) → IsBranch v g t b → IsBranch w f t b
  branch_back t b branch = branches.branch_back w v told more k names tells key f g there is.key some is.rows t b branch

  on : (line : Line) → Stands line (lines_of told) → Stands line (lines_of more)
  on line s = among_turned _ _ (tells.on line (among_back _ _ s))

  cases : (line : Line) → Stands line (lines_of more) → Stands line (known told) ⊎ ((e : Effect) × Contains some e × Says w c e (tell.Known line))
  cases line s = line_cases w told k key f there c own early some is.turn entries done line (among_back _ _ s)

  -- ---- registrations and votes

  was_registered : (r : Registration) → Contains g.ballots.registrations r → Contains f.ballots.registrations r
  was_registered r among = subst (λ (rs : List Registration). Contains rs r) is.registrations among

  registrations_now : (x t : List ℕ) (b : ℕ) → IsBranch v g t b → IsRegistered x t (lines_of more) ↔ IsListed v g x b
  registrations_now x t b branch =
      let was = old.registrations x t b (branch_back t b branch) in (
        λ s.
            let l = was.0 (s.0, among_turned _ _ (tells.back _ refl (among_back _ _ s.1))) in
            let at = is.on l.1 (record { branch = l.0; there = l.3 }) in
            (at.branch, l.1, l.2, at.there, l.4, refers l.1.to ∙ l.5, l.6),
        λ l.
            let at = is.back l.1 (record { branch = l.0; there = l.3 }) in
            let s = was.1 (at.branch, l.1, l.2, at.there, l.4, sym (refers l.1.to) ∙ l.5, l.6) in
            (s.0, on _ s.1),
      )

  votes_now : (number : ℕ) (vote : Vote) (r : Registration) (object : NamedKey) → Contains g.ballots.registrations r → r.index ≡ number
      → referred v r.to ≡ Some object → IsVoted g.completion number vote ↔ Stands (lines.Voted object.name vote) (lines_of more)
  votes_now number vote r object among at leads =
      let was = old.votes number vote r object (was_registered r among) at (sym (refers r.to) ∙ leads) in (
        λ voted. elim (is.kept.votes number vote voted) [
          | inl before ↦ on _ (was.0 before)
          | inr happened ↦ among_turned _ _ (new_stands w told k key f there c own early some is.turn entries done _
              (voted_told w c some number vote object.name happened
              (subst (λ (x : ℕ). registered w c x ≡ Some object.name) at
              (is_named w told k key f there c cast r object (was_registered r among) (sym (refers r.to) ∙ leads)))))
        ],
        λ s. elim (cases (lines.Voted object.name vote) s) [
          | inl before ↦ is.kept.voted number vote (was.1 (among_turned _ _ before))
          | inr (e, happened, (other, same, named)) ↦
              let who = who_is w told k key f there c cast other object.name named in
              let one = one_reference w told k who.r.to r.to who.object object who.leads (sym (refers r.to) ∙ leads) who.named in
              let this = old.apart who.r r who.there (was_registered r among) one in
              let equal : other ≡ number = sym who.index ∙ ap (λ (x : Registration). x.index) this ∙ at in
              subst (λ (x : ℕ). IsVoted g.completion x vote) equal (is.heard other vote (subst (λ (x : Effect). Contains some x) same happened)).counted
        ],
      )

  -- ---- outcomes

  own_branch : branch_name w c 0 ≡ Some old.name
  own_branch = named_branch w told k f c own old.name 0 (f.key, old.of_name, is_own f, old.top)

  -- commit is told where it is fixed
  commits_now : (basis : Ground) → stages.outcome g.completion ≡ Some (outcomes.Commit basis) → Stands (lines.Decide old.name (outcomes.Commit basis)) (lines_of more)
  commits_now basis now = by (stages.outcome f.completion) refl old.outcome
    where
      inner : {a b : Outcome} → Some a ≡ Some b → a ≡ b
      inner e = cc

      by : (o : Option Outcome) → stages.outcome f.completion ≡ o → OutcomeIsTold o old.name (lines_of told)
          → Stands (lines.Decide old.name (outcomes.Commit basis)) (lines_of more)
      by None before line =
          among_turned _ _ (new_stands w told k key f there c own early some is.turn entries done _
          (commit_told w c some basis old.name (new_decided w f g some words is (outcomes.Commit basis) before now) own_branch))
      by (Some fixed) before line = on _ (told_so fixed (inner (sym (is.stays fixed before) ∙ now)) line)
        where
          told_so : (x : Outcome) → x ≡ outcomes.Commit basis → OutcomeIsTold (Some x) old.name (lines_of told)
              → Stands (lines.Decide old.name (outcomes.Commit basis)) (lines_of told)
          told_so x same line = subst (λ (y : Outcome). OutcomeIsTold (Some y) old.name (lines_of told)) same line

  no_commit : (stages.outcome g.completion ≡ Some (outcomes.Commit Record) → ⊥) → Stands (lines.Decide old.name (outcomes.Commit Record)) (lines_of more) → ⊥
  no_commit other s = elim (cases (lines.Decide old.name (outcomes.Commit Record)) s) [
    | inl before ↦ other (is.stays (outcomes.Commit Record) (old.recorded.0 (k.recorded old.name f.key old.of_name old.top before)))
    | inr (e, among, (fixed, same, named, said)) ↦ new fixed said (subst (λ (x : Effect). Contains some x) same among)
  ]
    where
      same_basis : (x : LineOutcome) (a b : Ground) → x ≡ outcomes.Commit a → x ≡ outcomes.Commit b → a ≡ b
      same_basis x a b e d = cc

      no : (x : LineOutcome) (why : ToldReason (List ℕ)) → x ≡ outcomes.Commit Record → x ≡ outcomes.Rollback why → ⊥
      no x why e d = cc

      new : (fixed : Outcome) → IsSaidAs fixed (outcomes.Commit Record) → Contains some (effects.Decided fixed) → ⊥
      new (outcomes.Commit basis) said among =
          other ((decided_new w f g some words is (outcomes.Commit basis) among).1 ∙ ap (λ (x : Ground). Some (outcomes.Commit x)) (sym (same_basis _ Record basis refl said)))
      new (outcomes.Rollback reason) said among = absurd (no _ said.0 refl said.1)
      new outcomes.Unknown said among = absurd cc

  outcome_now : (o : Option Outcome) → stages.outcome g.completion ≡ o → OutcomeIsTold o old.name (lines_of more)
  outcome_now None now = no_commit (λ e. absurd (no (sym now ∙ e)))
    where
      no : ◌≡◌ {A = Option Outcome} None (Some (outcomes.Commit Record)) → ⊥
      no e = cc
  outcome_now (Some (outcomes.Commit basis)) now = commits_now basis now
  outcome_now (Some (outcomes.Rollback reason)) now = no_commit (λ e. absurd (no (sym now ∙ e)))
    where
      no : ◌≡◌ {A = Option Outcome} (Some (outcomes.Rollback reason)) (Some (outcomes.Commit Record)) → ⊥
      no e = cc
  outcome_now (Some outcomes.Unknown) now = no_commit (λ e. absurd (no (sym now ∙ e)))
    where
      no : ◌≡◌ {A = Option Outcome} (Some outcomes.Unknown) (Some (outcomes.Commit Record)) → ⊥
      no e = cc

  recorded_now : IsTrue (has_record v (place_of g.key) (is_decision_of g.key)) ↔ (stages.outcome g.completion ≡ Some (outcomes.Commit Record))
  recorded_now =
      let same : has_record v (place_of g.key) (is_decision_of g.key) ≡ has_record w (place_of f.key) (is_decision_of f.key)
      = has (place_of g.key) (is_decision_of g.key) ∙ ap (λ (x : ObjectKey). has_record w (place_of x) (is_decision_of x)) is.key in
      (λ yes. is.stays (outcomes.Commit Record) (old.recorded.0 (sym same ∙ yes)), λ now. same ∙ old.recorded.1 (is.kept.commits now))

  as_many : length g.rows ≡ length f.rows
  as_many = ap length is.rows ∙ branches.rows_length some f.rows

  -- ---- the family

  pub family_now : ((e : Entry) (r : RetryKey) → Contains g.entries e → e.event.key ≡ Some r → HasMessage v r) → FamilyIsKnown v (lines_of more) g
  family_now came = record {
    sound = is.sound;
    name = old.name;
    of_name = branches.step_of_name w v told more k names tells key f g there is.key some is.rows;
    top = branches.step_top w v told more k names tells key f g there is.key some is.rows;
    branches = branches.step_branches w v told more k names tells key f g there is.key some is.rows;
    no_further = branches.step_no_further w v told more k names tells key f g there is.key some is.rows;
    parents = branches.step_parents w v told more k names tells key f g there is.key some is.rows;
    ends = λ t b how branch below.
        let now = ends_now w told k key f there c own early some is.turn entries done t b how (branch_back t b branch) below in
        let same : state g.rows b ≡ state (rows_told some f.rows) b = ap (λ (rs : List Row). state rs b) is.rows in
        (λ s. same ∙ now.0 s, λ e. now.1 (sym same ∙ e));
    registrations = registrations_now;
    own = branches.step_own w v told more k names tells key f g there is.key some is.rows is.registrations refers;
    numbered = λ i r at. old.numbered i r (subst (λ (rs : List Registration). slice_get rs i ≡ Some r) is.registrations at);
    unsynchronized = is.tidy.alone;
    named = λ r among. ap is_some (refers r.to) ∙ old.named r (was_registered r among);
    apart = λ r other one two same. old.apart r other (was_registered r one) (was_registered other two) same;
    within = λ r among. subst (λ (x : ℕ). r.branch < x) (sym as_many) (old.within r (was_registered r among));
    came = came;
    dues = λ b c at. (is.tidy.dues b c at).0;
    legs = λ b c at. (is.tidy.dues b c at).1;
    ready = is.ready;
    few = is.tidy.few;
    settled = is.kept.wants old.settled;
    votes = votes_now;
    outcome = outcome_now (stages.outcome g.completion) refl;
    recorded = recorded_now;
  }
