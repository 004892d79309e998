-- A flow where no message waits, and one that begins as the messages are.
use Rattle.std.proofs.Common.{◌≡◌, ℕ, zero, suc, List, Option, Some, None, Result, Ok, refl, sym, ap, subst, ◌∙◌}
use Rattle.std.specs.Prelude.{position}
use Rattle.std.proofs.lemmas.List.{append-nil}
use Rattle.ots_world.specs.declared.fault.WorldFault.{WorldFault}
use Rattle.nodes_parts.specs.Sending.{is_waiting}
use Rattle.nodes_world.specs.Deliveries.{delivers, flows, lowest}
use Rattle.nodes_world.specs.Happenings.{Done, ◌▹◌, nothing}
use Rattle.nodes_world.specs.World.{World}
use Rattle.nodes_world.specs.declared.message.Message.{Message}
use Rattle.nodes_ready.specs.Ready.{IsReady}
use Rattle.nodes_state.specs.Does.{Does}
use Rattle.nodes_state.specs.Shown.{shown}
use Rattle.nodes_state.specs.declared.state.State.{State}

pub lowest_is : (w : World) → lowest w ≡ position is_waiting w.messages
unfolding lowest
lowest_is w = refl

-- nothing comes of a flow then
none_flows : (count : ℕ) (w : World) → lowest w ≡ None → flows count w ≡ nothing w
unfolding flows
none_flows zero w none = refl
none_flows (suc n) w none =
    ap (λ (o : Option ℕ). elim o as (λ _. Done) [ Some place ↦ delivers place w ▹ flows n | None ↦ nothing w ]) none

-- one that waits is found
pub none_waits : (s : State) (found : Option ℕ) (place : ℕ) → found ≡ position is_waiting s.messages → found ≡ Some place
    → lowest (shown s) ≡ None → ⊥
none_waits s found place at is none = let here = lowest_is (shown s) in absurd cc

module _ (s : State) (messages : List Message) (same : messages ≡ s.messages) where
  -- the state that has looked for a message
  looked : s ≡ record s { messages = messages }
  looked = ap (λ (ms : List Message). record s { messages = ms }) (sym same)

  pub looked_ready : IsReady s → IsReady (record s { messages = messages })
  looked_ready ready = subst (λ (t : State). IsReady t) looked ready

  pub looked_nothing : (count : ℕ) (text : List ℕ) → position is_waiting s.messages ≡ None
      → Does (flows count (shown s)) (shown (record s { messages = messages })) text text (Ok tt)
  looked_nothing count text none =
      subst (λ (t : State). Does (flows count (shown s)) (shown t) text text (Ok tt)) looked
      (subst (λ (d : Done). Does d (shown s) text text (Ok tt)) (sym (none_flows count (shown s) (lowest_is (shown s) ∙ none))) (refl, sym (append-nil text)))

  pub looked_flows : (count : ℕ) (new : World) (before after : List ℕ) (r : Result (Unit {0}) WorldFault)
      → Does (flows count (shown (record s { messages = messages }))) new before after r → Does (flows count (shown s)) new before after r
  looked_flows count new before after r does =
      subst (λ (t : State). Does (flows count (shown t)) new before after r) (sym looked) does
