-- Messages that are delivered one after another.
use Rattle.std.proofs.Common.{◌≡◌, ℕ, suc, ◌-◌, ◌<◌, List, Option, Some, None, Result, Ok, Err, refl, sym, ap, subst, ◌∙◌, arith}
use Rattle.std.specs.Prelude.{position}
use Rattle.ots_world.specs.declared.fault.WorldFault.{WorldFault}
use Rattle.nodes_parts.specs.Sending.{is_waiting}
use Rattle.nodes_world.specs.Deliveries.{delivers, flows, lowest}
use Rattle.nodes_world.specs.Happenings.{Done, nothing, ◌▹◌}
use Rattle.nodes_world.specs.World.{World}
use Rattle.nodes_world.specs.declared.message.Message.{Message}
use Rattle.nodes_state.specs.Does.{BreaksOff, Does}
use Rattle.nodes_state.specs.Shown.{shown}
use Rattle.nodes_state.specs.declared.state.State.{State}
use Rattle.nodes_state.proofs.Failing.{does_fail}
use Rattle.nodes_state.proofs.Progress.{IsDoing, doing_breaks, doing_ends, doing_goes_on}
use Rattle.nodes_ready.proofs.FlowsGrow.{flows_grow}

pub lowest_is : (w : World) → lowest w ≡ position is_waiting w.messages
unfolding lowest
lowest_is w = refl

abbrev flows_by : ℕ → World → Option ℕ → Done
flows_by n w o = elim o as (λ _. Done) [ Some place ↦ delivers place w ▹ flows n | None ↦ nothing w ]

flows_more : (left : ℕ) (w : World) (o : Option ℕ) → 0 < left → lowest w ≡ o → flows left w ≡ flows_by (left - 1) w o
unfolding flows
flows_more left w o more low =
    let e : left ≡ suc (left - 1) = omega arith in
    ap (λ n. flows n w) e ∙ ap (flows_by (left - 1) w) low

flows_none : (left : ℕ) (w : World) → left ≡ 0 → flows left w ≡ nothing w
unfolding flows
flows_none left w e = ap (λ n. flows n w) e

module _ (total : Done) (before : List ℕ) (left : ℕ) (w : World) (now : List ℕ) (going : IsDoing total before (flows left w) now) where
  as_is : (d : Done) → flows left w ≡ d → IsDoing total before d now
  as_is d e = subst (λ (x : Done). IsDoing total before x now) e going

  pub flow_goes_on : (place next : ℕ) (v : World) (later : List ℕ) → 0 < left → next ≡ left - 1 → lowest w ≡ Some place
      → Does (delivers place w) v now later (Ok tt) → IsDoing total before (flows next v) later
  flow_goes_on place next v later more e low d =
      subst (λ n. IsDoing total before (flows n v) later) (sym e)
      (doing_goes_on total (delivers place w) (flows (left - 1)) v before now later (as_is (delivers place w ▹ flows (left - 1)) (flows_more left w (Some place) more low)) d.0 d.1)

  pub flow_breaks : (place : ℕ) (v : World) (later : List ℕ) (result : Result (Unit {0}) WorldFault) (fault : WorldFault) → result ≡ Err fault
      → 0 < left → lowest w ≡ Some place → BreaksOff (delivers place w) fault now later → Does total v before later result
  flow_breaks place v later result fault e more low b =
      does_fail total v before later result fault e
      (doing_breaks total (delivers place w) (flows (left - 1)) fault before now later
      (as_is (delivers place w ▹ flows (left - 1)) (flows_more left w (Some place) more low)) (flows_grow (left - 1)) b)

  pub flow_ends : 0 < left → lowest w ≡ None → Does total w before now (Ok tt)
  flow_ends more low = doing_ends total w before now (as_is (nothing w) (flows_more left w None more low))

  pub flow_ended : left ≡ 0 → Does total w before now (Ok tt)
  flow_ended none = doing_ends total w before now (as_is (nothing w) (flows_none left w none))

pub same_world : (s : State) (messages : List Message) → messages ≡ s.messages → shown (record s { messages = messages }) ≡ shown s
same_world s messages e = ap (λ (ms : List Message). record (shown s) { messages = ms }) e
