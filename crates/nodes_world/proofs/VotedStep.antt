-- What a step of a family is that hears a vote of one that is asked, unless a record comes to stand then.
use Rattle.std.proofs.Common.{◌≡◌, ℕ, ◌+◌, Bool, true, false, if◌then◌else◌, slice_get, Contains, Option, Some, None, refl, sym, ap, ◌∙◌}
use Rattle.std.specs.Option.{option_map}
use Rattle.ots_model.specs.Heard.{of_participant}
use Rattle.ots_model.specs.declared.completion.CallNumber.{CallNumber}
use Rattle.ots_model.specs.declared.completion.Heard.TheVariants as phase_hears
use Rattle.ots_model.specs.declared.completion.Stood.{Stood}
use Rattle.ots_model.specs.declared.completion.Vote.{Vote}
use Rattle.ots_model.specs.declared.tree.Heard.TheVariants as hears_words
use Rattle.ots_model.specs.declared.tree.Outward.{Outward}
use Rattle.ots_model.specs.declared.completion.Word.TheVariants as phase_words
use Rattle.ots_model.specs.declared.tree.Word.TheVariants as words
use Rattle.resource_votes.specs.Ballots.{participants}
use Rattle.resource_votes.specs.declared.registration.Registration.{Registration}
use Rattle.two_phase.specs.Stages as stages
use Rattle.two_phase.specs.Stages.{Standing, Waiting, Going as UnderWay}
use Rattle.decision_journal.specs.declared.record.JournalRecord.{JournalRecord}
use Rattle.coordinator.specs.declared.call.Leg.TheVariants.{Deciding}
use Rattle.coordinator.specs.declared.event.Act.TheVariants as acts
use Rattle.coordinator.specs.declared.event.Event.{Event}
use Rattle.coordinator.specs.declared.said.Said.{Said}
use Rattle.coordinator.specs.declared.said.Said.TheVariants as said
use Rattle.coordinator.specs.Family.{Family, Call, call_at, waiting_for}
use Rattle.coordinator.specs.Hearing.{decision_record, record_place, settles, wants_done}
use Rattle.coordinator.specs.Laws.{IsThere}
use Rattle.coordinator.specs.Moves.{Notice}
use Rattle.coordinator.specs.Step.{Stepped, Appends, WritesDone, family_step, hears, wanted_by}
use Rattle.family_laws.specs.LawsOfTelling.{IsHeardVote}
use Rattle.family_laws.specs.Sound.{HasParties, IsSoundFamily}
use Rattle.nodes_world.specs.CompletionLaws.{CompletionLaws}
use Rattle.nodes_world.specs.declared.message.Content.TheVariants as contents
use Rattle.nodes_world.specs.declared.message.Message.{Message}
use Rattle.nodes_world.specs.Agreement.{IsWord}
use Rattle.nodes_world.specs.AgreementInside.{IsNumberedBy, is_asking}
use Rattle.nodes_world.specs.Deliveries.{answer_event, heard_in}
use Rattle.nodes_world.specs.World.{World, referred}
use Rattle.nodes_world.proofs.AskedCalls.{asked_of, nothing_fixed}
use Rattle.nodes_world.proofs.AskedCounts.{party_registered, step_counts, step_kept, voter_asked}
use Rattle.nodes_world.proofs.AskedKeeps.{completion_then}
use Rattle.nodes_world.proofs.AskedWords.{asked_word, vote_not_alone}
use Rattle.nodes_world.proofs.RulesKeep.{IsTidy, Rule, only_keeps}
use Rattle.nodes_world.proofs.StepIs.{FamilyLaws, StepIs, VoteIsHeard, speaks_of}
use Rattle.nodes_world.proofs.StepsAsk.{StepAsks}

-- where the journal says nothing
pub settles_nothing : (g : Family) → Rule g (settles None g)
unfolding settles
settles_nothing g = only_keeps g

pub vote_heard : (answer : Said) (vote : Vote) → answer ≡ said.Voted vote → of_participant (heard_in answer) ≡ phase_hears.Voted vote
unfolding heard_in
vote_heard answer vote votes = ap (λ (x : Said). of_participant (heard_in x)) votes

-- the registration that is asked, to which the word went that is answered
pub record IsAskedAs (f : Family) (o : Outward) : Type 0 where
  pub r : Registration
  pub there : Contains (participants 0 f.ballots) r
  pub voter : stages.voter f.completion ≡ Some r.index
  pub reference : r.to ≡ o.to

pub asked_as : CompletionLaws → (f : Family) (o : Outward) (c : Call) → IsNumberedBy f o → waiting_for f o.number ≡ Some 0 → call_at f 0 ≡ Some c → c.leg ≡ Deciding
    → stages.decides_alone f.completion ≡ false → (s : Standing) → f.completion ≡ s → IsThere s → is_asking s ≡ true → HasParties s (participants 0 f.ballots) → IsAskedAs f o
asked_as completions f o c numbered waits at decides alone (Waiting room) going there asks parties = absurd cc
asked_as completions f o c numbered waits at decides alone (UnderWay k) going there asks parties =
    let asked = asked_of completions k there asks in
    let as_one = party_registered k.parties (participants 0 f.ballots) asked.errand.place asked.party parties.0 parties.1 asked.there in
    record {
      r = as_one.r;
      there = as_one.there;
      voter = ap stages.voter going ∙ voter_asked k asked (sym (ap stages.decides_alone going) ∙ alone) ∙ ap (λ (x : ℕ). Some x) (sym as_one.index);
      reference = as_one.reference ∙ ap (λ (x : Notice). x.to) (asked_word f o c numbered waits at decides k going asked);
    }

module _ (laws : FamilyLaws) (w : World) (nth place reply now : ℕ) (o : Outward) (back : Message) (answer : Said) (f : Family) (c : Call) (vote : Vote)
    (word : IsWord w nth place o) (replied : slice_get w.messages reply ≡ Some back) (says : back.content ≡ contents.Reply (nth + 1) answer)
    (votes : answer ≡ said.Voted vote) (sound : IsSoundFamily f) (tidy : IsTidy f) (numbered : IsNumberedBy f o) (waits : waiting_for f o.number ≡ Some 0)
    (at : call_at f 0 ≡ Some c) (decides : c.leg ≡ Deciding) (asks : is_asking f.completion ≡ true) (prepare : o.word ≡ words.Phase phase_words.Prepare)
    (stood : Option Stood) (settled : Rule (hears o.number (heard_in answer) f).family (settles stood (hears o.number (heard_in answer) f).family))
    (waiting : StepAsks f (family_step f (answer_event o answer now) stood)) where
  abbrev e : Event
  e = answer_event o answer now

  abbrev step : Stepped
  step = family_step f e stood

  heard_vote : heard_in answer ≡ hears_words.Phase (phase_hears.Voted vote)
  unfolding heard_in
  heard_vote = ap heard_in votes

  heard_so : of_participant (heard_in answer) ≡ phase_hears.Voted vote
  heard_so = ap of_participant heard_vote

  alone : stages.decides_alone f.completion ≡ false
  alone = vote_not_alone laws.completions f o c numbered waits at decides sound.completion.there asks prepare

  asked : IsAskedAs f o
  asked = asked_as laws.completions f o c numbered waits at decides alone f.completion refl sound.completion.there asks sound.completion.parties

  heard_of : (number : ℕ) (other : Vote) → IsHeardVote f step.family e.act number other → VoteIsHeard w f step.family number other
  heard_of number other told = record {
    r = asked.r;
    there = asked.there;
    index = inner (sym asked.voter ∙ told.asked);
    undecided = nothing_fixed laws.completions f.completion sound.completion.there asks;
    counted = told.counted;
    given = λ x leads. record {
      request = nth;
      from = place;
      asked = o;
      sent = word;
      prepare = prepare;
      resource = x;
      object = ap (referred w) (sym asked.reference) ∙ leads;
      same_name = refl;
      reply = reply;
      answer = back;
      answered = replied;
      says = says ∙ ap (λ (y : Said). contents.Reply (nth + 1) y) (votes ∙ ap (λ (y : Vote). said.Voted y) (same_vote (sym heard_vote ∙ same_heard told.number told.answer)));
    };
  }
    where
      inner : {a b : ℕ} → Some a ≡ Some b → a ≡ b
      inner is = cc

      same_vote : {a b : Vote} → (hears_words.Phase (phase_hears.Voted a)) ≡ hears_words.Phase (phase_hears.Voted b) → a ≡ b
      same_vote is = cc

      same_heard : (m : CallNumber) → acts.Answer o.number (heard_in answer) ≡ acts.Answer m (hears_words.Phase (phase_hears.Voted other)) → heard_in answer ≡ hears_words.Phase (phase_hears.Voted other)
      same_heard m is = cc

  -- where the journal was asked for nothing, no decision is wanted then
  pub none_wanted : wanted_by (hears o.number (heard_in answer) f).family ≡ None → stages.wants_decision step.family.completion ≡ false
  none_wanted none =
      (step_counts laws.completions f o answer now c waits at decides sound.completion.there asks vote heard_so stood settled tidy).kept.wants
      (sym (ap stages.wants_decision (completion_then laws.completions f o.number (heard_in answer) c waits at decides sound.completion.there asks))
      ∙ not_wanted (stages.wants_decision g.completion) (wants_done g) (decision_record g) (record_place g.completion) none)
    where
      g : Family
      g = (hears o.number (heard_in answer) f).family

      not_wanted : (t u : Bool) (r : JournalRecord) (x : Option ℕ) → (if t then Some (Appends r) else if u then option_map WritesDone x else None) ≡ None → t ≡ false
      not_wanted true u r x is = absurd cc
      not_wanted false u r x is = refl

  pub voted_is : stages.wants_decision step.family.completion ≡ false → StepIs w f step.family step.effects step.words
  voted_is undecided =
      let x = step_counts laws.completions f o answer now c waits at decides sound.completion.there asks vote heard_so stood settled tidy in
      record {
        key = laws.numbers.key f e stood;
        sound = laws.sound.steps f e stood sound;
        tidy = x.tidy;
        turn = laws.turns f e stood sound;
        rows = x.rows;
        registrations = x.registrations;
        on = x.on;
        back = x.back;
        kept = step_kept laws.completions f o answer now c waits at decides sound.completion.there asks vote heard_so stood settled tidy alone undecided;
        speaks = speaks_of laws.completions step.family (laws.sound.steps f e stood sound);
        heard = λ number other among. heard_of number other (laws.votes.told f e stood number other sound among);
        outcomes = laws.outcomes f e stood sound.completion.there;
        stays = λ fixed is. laws.stay f e stood fixed sound.completion.there is;
        serial = laws.numbers.serial f e stood;
        numbered = laws.numbers.numbers f e stood;
        rest = laws.rest f e stood sound;
        leads = x.words;
        ready = waiting.ready;
        asks = waiting.out;
      }
