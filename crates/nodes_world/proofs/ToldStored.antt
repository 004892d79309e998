-- Each participant that a family has told its commit has stored its updates.
use Rattle.std.proofs.Common.{◌≡◌, ◌⊎◌, inl, inr, ℕ, ◌+◌, IsTrue, is_some, List, [], ◌++◌, Contains, Option, Some, None, refl, sym, ap, subst, ◌∙◌, append_assoc, append-nil}
use Rattle.ior_refs.specs.declared.key.ObjectKey.{ObjectKey}
use Rattle.ots_model.specs.Safe.{Stands}
use Rattle.ots_model.specs.declared.completion.Ground.TheVariants.{Record}
use Rattle.ots_model.specs.declared.completion.Heard.{Heard as ParticipantHeard}
use Rattle.ots_model.specs.declared.completion.Word.TheVariants as phase_words
use Rattle.ots_model.specs.declared.line.Line.TheVariants as lines
use Rattle.ots_model.specs.declared.line.ResourceState.TheVariants as shown
use Rattle.ots_model.specs.declared.completion.Outcome.TheVariants as outcomes
use Rattle.ots_model.specs.declared.tree.Word.{Word}
use Rattle.ots_model.specs.declared.tree.Word.TheVariants as words
use Rattle.resource_votes.specs.Ballots.{participants}
use Rattle.resource_end.specs.declared.state.State.{State}
use Rattle.resource_end.specs.declared.state.State.TheVariants as states
use Rattle.two_phase.specs.Course.{Course}
use Rattle.two_phase.specs.Stages as stages
use Rattle.two_phase.specs.Stages.{Standing, Going as UnderWay}
use Rattle.two_phase.specs.declared.party.Party.{Party}
use Rattle.coordinator.specs.Family.{Family}
use Rattle.coordinator.specs.Laws.{FamiliesStepRightly}
use Rattle.coordinator.specs.Node.{Node, family_of}
use Rattle.family_laws.specs.LawsOfTelling.{FamiliesHearOutcomesAnswered, FamiliesNumberWords}
use Rattle.family_laws.specs.Sound.{HasParties}
use Rattle.nodes_world.specs.declared.message.Content.{Content}
use Rattle.nodes_world.specs.Agreement.{Reaches, nothing, further}
use Rattle.nodes_world.specs.AgreementInside.{FamilyIsKnown, IsBack, IsOutcomeWord, Known, phase_of}
use Rattle.nodes_world.specs.AgreementSteps.{GoesOn, StepsStayKnown, still, further as and_further}
use Rattle.nodes_world.specs.Happenings.{Done}
use Rattle.nodes_world.specs.Objects.{place_of}
use Rattle.nodes_world.specs.OverForGood.{IsAt, ToldParticipantsAreStored}
use Rattle.nodes_world.specs.Step.{carried_out}
use Rattle.nodes_world.specs.Told.{Told}
use Rattle.nodes_world.specs.World.{World, NamedKey, family_at, node_at, referred}
use Rattle.nodes_world.proofs.AnsweredCommits.{HasAnsweredCommit, answered_stored, replied_commit}
use Rattle.nodes_world.proofs.AskedCounts.{IsRegisteredAs}
use Rattle.nodes_world.proofs.CallKnown.{key_slot}
use Rattle.nodes_world.proofs.CanTell.{part_back}
use Rattle.nodes_world.proofs.DecisionFits.{all_registered}
use Rattle.nodes_world.proofs.Deeds.{some_of}
use Rattle.nodes_world.proofs.Delivered.{reached_delivered}
use Rattle.nodes_world.proofs.GoingOn.{deeds_go}
use Rattle.nodes_world.proofs.KnownLines.{lines_of}
use Rattle.nodes_world.proofs.KnownWords.{resource_of, sent_of}
use Rattle.nodes_world.proofs.MessagesGo.{HasContent, MessagesStep, goes, messages_step, obeys_answers, obeys_one}
use Rattle.nodes_world.proofs.NodesGo.{nodes_go}
use Rattle.nodes_world.proofs.NumberedWords.{all_themselves}
use Rattle.nodes_world.proofs.Reaching.{goes_known, known_reached}
use Rattle.nodes_world.proofs.StoredAnswers.{IsStored, stored_reached}
use Rattle.nodes_world.proofs.ToldParties.{IsTold, each_of}
use Rattle.nodes_world.proofs.ToldReplied.{IsReplied, ToldReplied, replied_step}

inner : {A : Type 0} {x y : A} → Some x ≡ Some y → x ≡ y
inner e = cc

some_heard : (o : Option ParticipantHeard) → IsTrue (is_some o) → (x : ParticipantHeard) × (o ≡ Some x)
some_heard (Some x) is = (x, refl)
some_heard None is = absurd cc

pub outcome_cases : (word : Word) → IsOutcomeWord word → (word ≡ words.Phase phase_words.Commit) ⊎ (word ≡ words.Phase phase_words.Rollback)
outcome_cases (words.Phase phase_words.Commit) is = inl refl
outcome_cases (words.Phase phase_words.Rollback) is = inr refl
outcome_cases _ is = absurd is

-- what the reference of a stored one leads to has stored its updates
pub stored_at : (w : World) (told : List Told) (k : Known w told) (to : List ℕ) (r : NamedKey) → IsStored w told to → referred w to ≡ Some r
    → IsAt (λ (s : State). s ≡ states.Applied) w r.key
stored_at w told k to r is refers =
    let here = resource_of w told k to r refers in
    let same : is.object ≡ r = inner (sym is.refers ∙ refers) in
    record {
      resource = here.0;
      there = here.1;
      so = here.2.applied.0 (subst (λ (x : NamedKey). Stands (lines.State x.name shown.Applied) (lines_of told)) same is.line);
    }

module _ (w : World) (told : List Told) (k : Known w told) (replied : ToldReplied w) (key : ObjectKey) (f : Family)
    (there : family_at w key ≡ Some f) (commits : stages.outcome f.completion ≡ Some (outcomes.Commit Record)) where
  known : FamilyIsKnown w (lines_of told) f
  known = k.families key f there

  -- none of its participants was told rollback
  not_back : (c : Course) → f.completion ≡ UnderWay c → (p : Party) → Contains c.parties p → (r : NamedKey) → referred w p.to ≡ Some r
      → (x : IsReplied w p.to) → x.word.word ≡ words.Phase phase_words.Rollback → ⊥
  not_back c course p among r refers x back =
      let parties : HasParties (UnderWay c) (participants 0 f.ballots) = subst (λ (s : Standing). HasParties s (participants 0 f.ballots)) course known.sound.completion.parties in
      let as_one : IsRegisteredAs (participants 0 f.ballots) p =
      each_of (IsRegisteredAs (participants 0 f.ballots)) c.parties
      (all_registered (participants 0 f.ballots) c.parties (participants 0 f.ballots) parties.0 parties.1 (all_themselves (participants 0 f.ballots))) p among in
      let sent = sent_of w told k x.place x.word phase_words.Rollback r (x.nth, x.sent) (ap phase_of back) (ap (referred w) x.own ∙ refers) in
      subst IsBack commits (part_back w told k key f there as_one.r r as_one.there (ap (referred w) as_one.reference ∙ refers) sent)

  -- each one that counts as told has answered commit
  pub told_answered : (c : Course) → f.completion ≡ UnderWay c → (p : Party) → Contains c.parties p → IsTrue (is_some p.told) → (r : NamedKey)
      → referred w p.to ≡ Some r → HasAnsweredCommit w p.to
  told_answered c course p among told_so r refers = by (outcome_cases is.word.word is.outcome)
    where
      heard : (x : ParticipantHeard) × (p.told ≡ Some x)
      heard = some_heard p.told told_so

      at : (n : Node) × (node_at w (place_of key) ≡ Some n) × (family_of key n ≡ Some f)
      at = some_of (family_of key) (node_at w (place_of key)) f there

      is : IsReplied w p.to
      is = replied (place_of key) at.0 key.slot f p.to heard.0 at.1 (key_slot key at.0 f at.2).0
          (subst (λ (s : Standing). IsTold s p.to heard.0) (sym course) (p, among, heard.1, refl))

      by : (is.word.word ≡ words.Phase phase_words.Commit) ⊎ (is.word.word ≡ words.Phase phase_words.Rollback) → HasAnsweredCommit w p.to
      by (inl commit) = replied_commit w p.to is commit
      by (inr back) = absurd (not_back c course p among r refers is back)

-- ---- any number of steps

pub messages_on : (w : World) (d : Done) → MessagesStep w d → (nth : ℕ) (content : Content) → HasContent w nth content → HasContent d.world nth content
messages_on w _ (goes d go) = go.on
messages_on w _ (obeys_one nth place o word) = (obeys_answers (nth + 1) o w).on

pub nobody_told : ToldReplied (record { seats = []; messages = []; names = [] })
unfolding node_at
nobody_told place n slot f to x up there is = absurd cc

module _ (rightly : FamiliesStepRightly) (answered : FamiliesHearOutcomesAnswered) (numbers : FamiliesNumberWords) (keeps : StepsStayKnown) where
  replied_so_far : (w : World) (d : Done) → GoesOn w d → (told : List Told) → Known w told → ToldReplied w
      → Known d.world (told ++ d.lines) × ToldReplied d.world
  replied_so_far w d still told k are = (subst (Known w) (sym (append-nil told)) k, are)
  replied_so_far w d (and_further between last before step) told k are =
      let first = replied_so_far w between before told k are in
      let later = goes_known keeps between.world last step (told ++ between.lines) first.0 in
      let on = messages_on between.world last (messages_step between.world last step) in
      let now = replied_step rightly answered numbers between.world (told ++ between.lines) first.0 first.1 last.world
      (nodes_go between.world (told ++ between.lines) first.0 last step) on in
      (subst (Known last.world) (append_assoc told between.lines last.lines) later, now)

  pub replied_reached : (w : World) (told : List Told) → Reaches w told → ToldReplied w
  replied_reached w told nothing = nobody_told
  replied_reached w told (further before earlier event deed reached few fit is limit) =
      (replied_so_far before (carried_out deed before) (deeds_go event deed before (reached_delivered before earlier reached) few fit is limit) earlier
      (known_reached keeps before earlier reached) (replied_reached before earlier reached)).1

  pub told_are_stored : ToldParticipantsAreStored
  told_are_stored w told key f c p r reached there course commits among told_so refers =
      let k = known_reached keeps w told reached in
      stored_at w told k p.to r
      (answered_stored w told (stored_reached keeps w told reached) p.to
      (told_answered w told k (replied_reached w told reached) key f there commits c course p among told_so r refers)) refers
