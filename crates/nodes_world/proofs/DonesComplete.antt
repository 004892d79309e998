-- In each world that a script reaches a Done names a decision that is over for all whom it names.
use Rattle.std.proofs.Common.{◌≡◌, ℕ, List, ◌++◌, Some, None, sym, ap, subst, ◌∙◌, append_assoc, append-nil}
use Rattle.resource_end.specs.declared.state.State.{State}
use Rattle.resource_end.specs.declared.state.State.TheVariants as states
use Rattle.decision_journal.specs.Growing.{JournalsGrow}
use Rattle.decision_journal.specs.Loading.{LoadsAreSafe}
use Rattle.recovery_coord.specs.Laws.{CompletesOnce}
use Rattle.coordinator.specs.Laws.{FamiliesStepRightly}
use Rattle.family_laws.specs.LawsOfJournal.{FamiliesCloseLast}
use Rattle.family_laws.specs.LawsOfTelling.{FamiliesHearOutcomesAnswered, FamiliesNumberWords}
use Rattle.family_laws.specs.OwnDecisions.{NodesKeepDecisions}
use Rattle.nodes_world.specs.CompletionLaws.{CompletionLaws}
use Rattle.nodes_world.specs.declared.message.Content.{Content}
use Rattle.nodes_world.specs.Agreement.{IsOver, ReachedDonesAreComplete, Reaches, further, nothing}
use Rattle.nodes_world.specs.AgreementInside.{Known}
use Rattle.nodes_world.specs.AgreementSteps.{Goes, GoesOn, StepsStayKnown, still, further as and_further}
use Rattle.nodes_world.specs.Happenings.{Done}
use Rattle.nodes_world.specs.Laws.{AskedJournalsKeep, AskedJournalsStop, RecordsAreRead}
use Rattle.nodes_world.specs.OverForGood.{DonesAreStored, IsAt}
use Rattle.nodes_world.specs.Step.{carried_out}
use Rattle.nodes_world.specs.Told.{Told}
use Rattle.nodes_world.specs.ToldAgain.{HasAnsweredCommit, HeldWaitOrAnswered}
use Rattle.nodes_world.specs.World.{World, FlatResource, empty, node_at}
use Rattle.nodes_world.proofs.AnsweredCommits.{answered_stored}
use Rattle.nodes_world.proofs.Delivered.{reached_delivered}
use Rattle.nodes_world.proofs.DonesAnswered.{DonesAnswered, dones_step}
use Rattle.nodes_world.proofs.DuesHeard.{AreDueOr, IsDueOr}
use Rattle.nodes_world.proofs.GoingOn.{deeds_go}
use Rattle.nodes_world.proofs.HearingsMay.{KnownMayAsk}
use Rattle.nodes_world.proofs.HeldAnswered.{HeldAnswered, RetoldAnswered, held_step}
use Rattle.nodes_world.proofs.KnownFamilies.{all_at}
use Rattle.nodes_world.proofs.MessagesGo.{HasContent, messages_step}
use Rattle.nodes_world.proofs.NamedParties.{RecordsNameParties, named_step}
use Rattle.nodes_world.proofs.NodesGo.{NodesGo, nodes_go}
use Rattle.nodes_world.proofs.Reaching.{goes_known, known_reached}
use Rattle.nodes_world.proofs.RecordsGo.{RecordsGo, records_go}
use Rattle.nodes_world.proofs.RetoldAnswered.{retold_step}
use Rattle.nodes_world.proofs.SentWords.{words_come}
use Rattle.nodes_world.proofs.StoredAnswers.{stored_reached}
use Rattle.nodes_world.proofs.ToldReplied.{ToldReplied, replied_step}
use Rattle.nodes_world.proofs.ToldStored.{messages_on, nobody_told, stored_at}

-- the laws on which this rests
pub record DoneLaws : Type 0 where
  pub grow : JournalsGrow
  pub safe : LoadsAreSafe
  pub read : RecordsAreRead
  pub keep : AskedJournalsKeep
  pub stop : AskedJournalsStop
  pub complete : CompletesOnce
  pub nodes : NodesKeepDecisions
  pub rightly : FamiliesStepRightly
  pub answered : FamiliesHearOutcomesAnswered
  pub numbers : FamiliesNumberWords
  pub close : FamiliesCloseLast
  pub completions : CompletionLaws
  pub may : KnownMayAsk
  pub known : StepsStayKnown

-- who has answered, in one world
record AreAnswered (w : World) : Type 0 where
  replied : ToldReplied w
  named : RecordsNameParties w
  held : HeldAnswered w
  retold : RetoldAnswered w
  dones : DonesAnswered w

-- in the first world nobody is up, and nothing was sent
none_answered : AreAnswered empty
unfolding node_at
none_answered = record {
  replied = nobody_told;
  named = λ place n slot f rs item r up there held among decides one. absurd (no_records held);
  held = nobody_up;
  retold = λ nth place o word again. absurd (no_message word.1);
  dones = λ place rs key to held named done. absurd (no_records held);
}
  where
    no_records : {A : Type 0} {x : A} → None ≡ Some x → ⊥
    no_records e = cc

    no_message : {A : Type 0} {x : A} → None ≡ Some x → ⊥
    no_message e = cc

    nobody_up : HeldAnswered empty
    nobody_up place n up = absurd cc

module _ (laws : DoneLaws) where
  -- ---- one step

  answered_step : (w : World) (d : Done) (told : List Told) → Goes w d → Known w told → Known d.world (told ++ d.lines) → AreAnswered w → AreAnswered d.world
  answered_step w d told goes k later is = record {
    replied = replied_then;
    named = named_then;
    held = held_then;
    retold = retold_step laws.numbers w told k is.retold d.world (words_come w d goes) on held_then;
    dones = dones_step laws.grow laws.complete laws.nodes laws.completions laws.close laws.rightly laws.answered laws.numbers w told k is.replied is.named is.held is.retold is.dones
        d.world records on;
  }
    where
      on : (nth : ℕ) (content : Content) → HasContent w nth content → HasContent d.world nth content
      on = messages_on w d (messages_step w d goes)

      nodes : NodesGo w d.world
      nodes = nodes_go w told k d goes

      records : RecordsGo w d.world
      records = records_go laws.grow laws.safe laws.keep laws.stop laws.read laws.may w told d k goes

      replied_then : ToldReplied d.world
      replied_then = replied_step laws.rightly laws.answered laws.numbers w told k is.replied d.world nodes on

      named_then : RecordsNameParties d.world
      named_then = named_step laws.rightly laws.numbers w told k is.named d.world (told ++ d.lines) later nodes records

      held_then : HeldAnswered d.world
      held_then = held_step w told k is.replied is.named is.held is.retold d.world (told ++ d.lines) later on replied_then named_then nodes

  -- ---- any number of steps

  answered_so_far : (w : World) (d : Done) → GoesOn w d → (told : List Told) → Known w told → AreAnswered w → Known d.world (told ++ d.lines) × AreAnswered d.world
  answered_so_far w d still told k is = (subst (Known w) (sym (append-nil told)) k, is)
  answered_so_far w d (and_further between last before step) told k is =
      let first = answered_so_far w between before told k is in
      let later = goes_known laws.known between.world last step (told ++ between.lines) first.0 in
      let now = answered_step between.world last (told ++ between.lines) step first.0 later first.1 in
      (subst (Known last.world) (append_assoc told between.lines last.lines) later, now)

  answered_reached : (w : World) (told : List Told) → Reaches w told → AreAnswered w
  answered_reached w told nothing = none_answered
  answered_reached w told (further before earlier event deed reached few fit is limit) =
      (answered_so_far before (carried_out deed before) (deeds_go event deed before (reached_delivered before earlier reached) few fit is limit) earlier
      (known_reached laws.known before earlier reached) (answered_reached before earlier reached)).1

  pub dones_are_stored : DonesAreStored
  dones_are_stored w told place rs key to r reached held named done refers =
      stored_at w told (known_reached laws.known w told reached) to r
      (answered_stored w told (stored_reached laws.known w told reached) to ((answered_reached w told reached).dones place rs key to held named done)) refers

  pub dones_are_complete : ReachedDonesAreComplete
  dones_are_complete w told reached place rs key to name r held named done refers there =
      subst (λ (s : State). IsOver s) (sym (ap (λ (x : FlatResource). x.state) (inner (sym there ∙ at.there)) ∙ at.so)) tt
    where
      inner : {x y : FlatResource} → Some x ≡ Some y → x ≡ y
      inner e = cc

      at : IsAt (λ (s : State). s ≡ states.Applied) w name.key
      at = dones_are_stored w told place rs key to name reached held named done refers

  -- a registration that a node holds waits for commit, or has answered one
  pub held_wait_or_answered : HeldWaitOrAnswered
  held_wait_or_answered w told place n h p reached up among one =
      all_at (IsDueOr (HasAnsweredCommit w)) h.parties p
      (all_at (AreDueOr (HasAnsweredCommit w)) n.recovered h ((answered_reached w told reached).held place n up) among) one
