-- A client's call that comes again.
use Rattle.std.proofs.Common.{◌≡◌, ℕ, List, slice_get, Option, Some, None, Result, Ok, Err, refl, sym, ap, subst, ◌∙◌}
use Rattle.std.specs.Option.{option_map}
use Rattle.ior_refs.specs.declared.key.ObjectKey.{ObjectKey}
use Rattle.ots_world.specs.declared.fault.WorldFault.{WorldFault}
use Rattle.ots_world.specs.declared.fault.WorldFault.TheVariants as faults
use Rattle.coordinator.specs.History.{is_later}
use Rattle.coordinator.specs.declared.event.Act.{Act}
use Rattle.coordinator.specs.declared.event.Event.{Event}
use Rattle.coordinator.specs.declared.node.NodeFault.{NodeFault}
use Rattle.coordinator.specs.declared.said.StepAnswer.{StepAnswer}
use Rattle.nodes_world.specs.Clients.{acts_at, answer_only, answered_with, call_event, said_in, said_lines, then_answers}
use Rattle.nodes_world.specs.Happenings.{Done, nothing}
use Rattle.nodes_world.specs.Nodes.{Stepping, steps}
use Rattle.nodes_world.specs.Objects.{place_of}
use Rattle.nodes_world.specs.World.{Seat, World}
use Rattle.nodes_state.specs.Does.{BreaksOff, Does}
use Rattle.nodes_state.specs.Telling.{Tells}
use Rattle.nodes_state.proofs.Doing.{Grows, breaks_first, breaks_later, does_then, part_none, tells_none}
use Rattle.nodes_state.proofs.Failing.{does_fail}
use Rattle.nodes_ready.proofs.CallsGrow.{answer_keeps}
use Rattle.nodes_deliveries.proofs.Heard.{clock_seat, no_clock}

module _ (message : ℕ) (to : ObjectKey) (act : Act) (w : World) where
  abbrev acts_by : Option Seat → Done
  acts_by o = elim o as (λ _. Done) [
    | Some s ↦ then_answers message answer_only (steps (place_of to) to (call_event message to act s.clock) w)
    | None ↦ nothing w
  ]

  pub acts_nowhere : slice_get w.seats (place_of to) ≡ None → acts_at message to act answer_only w ≡ nothing w
  unfolding acts_at
  acts_nowhere none = ap acts_by none

  pub acts_there : (now : ℕ) → option_map (λ (s : Seat). s.clock) (slice_get w.seats (place_of to)) ≡ Some now
      → acts_at message to act answer_only w ≡ then_answers message answer_only (steps (place_of to) to (call_event message to act now) w)
  unfolding acts_at
  acts_there now clock =
      let seat = clock_seat (slice_get w.seats (place_of to)) now clock in
      ap acts_by seat.1 ∙ ap (λ t. then_answers message answer_only (steps (place_of to) to (call_event message to act t) w)) seat.2

-- so it is by the step that was made
module _ (message : ℕ) (to : ObjectKey) (act : Act) (w v : World) (place now : ℕ) (event : Event) (before after : List ℕ) (result : Result (Unit {0}) WorldFault)
    (there : place ≡ place_of to) (called : event ≡ call_event message to act now) where
  clock_there : (o : Option ℕ) → option_map (λ (s : Seat). s.clock) (slice_get w.seats place) ≡ o
      → option_map (λ (s : Seat). s.clock) (slice_get w.seats (place_of to)) ≡ o
  clock_there o clock = ap (λ p. option_map (λ (s : Seat). s.clock) (slice_get w.seats p)) (sym there) ∙ clock

  pub again_does : option_map (λ (s : Seat). s.clock) (slice_get w.seats place) ≡ Some now
      → Does (then_answers message answer_only (steps place to event w)) v before after result
      → Does (acts_at message to act answer_only w) v before after result
  again_does clock does =
      let e : acts_at message to act answer_only w ≡ then_answers message answer_only (steps place to event w) =
      acts_there message to act w now (clock_there (Some now) clock)
      ∙ ap (λ p. then_answers message answer_only (steps p to (call_event message to act now) w)) (sym there)
      ∙ ap (λ x. then_answers message answer_only (steps place to x w)) (sym called) in
      subst (λ (d : Done). Does d v before after result) (sym e) does

pub again_nowhere : (message : ℕ) (to : ObjectKey) (act : Act) (w : World) (place : ℕ) → place ≡ place_of to
    → option_map (λ (s : Seat). s.clock) (slice_get w.seats place) ≡ None → acts_at message to act answer_only w ≡ nothing w
again_nowhere message to act w place there none =
    acts_nowhere message to act w (ap (λ p. slice_get w.seats p) (sym there) ∙ no_clock (slice_get w.seats place) none)

-- what was stepped is told by its answer
module _ (message : ℕ) (stepped : Stepping) (v : World) (before mid after : List ℕ) (result : Result (Unit {0}) WorldFault) where
  answers_grow : (o : Option (Result StepAnswer NodeFault)) → Grows (answered_with message answer_only o)
  answers_grow o = λ w. (answer_keeps message o w).longer

  pub step_broke : (fault : WorldFault) → result ≡ Err fault → BreaksOff stepped.done fault before after
      → Does (then_answers message answer_only stepped) v before after result
  step_broke fault e b =
      does_fail (then_answers message answer_only stepped) v before after result fault e
      (breaks_first stepped.done (answered_with message answer_only stepped.answer) fault before after (answers_grow stepped.answer) b)

  pub step_told : (answer : Result StepAnswer NodeFault) → Some answer ≡ stepped.answer → Does stepped.done v before mid (Ok tt)
      → Tells (said_lines message (is_later (said_in answer)) (said_in answer)) mid after → result ≡ Ok tt
      → Does (then_answers message answer_only stepped) v before after result
  step_told answer is done told e =
      does_then stepped.done (answered_with message answer_only stepped.answer) v v before mid after result done.0 done.1
      (subst (λ (r : Result (Unit {0}) WorldFault). Does (answered_with message answer_only stepped.answer v) v mid after r) (sym e)
      (subst (λ (o : Option (Result StepAnswer NodeFault)). Does (answered_with message answer_only o v) v mid after (Ok tt)) is (refl, told)))

  pub step_untold : (answer : Result StepAnswer NodeFault) (fault : WorldFault) → Some answer ≡ stepped.answer → Does stepped.done v before mid (Ok tt)
      → result ≡ Err fault → fault ≡ faults.Memory → after ≡ mid → Does (then_answers message answer_only stepped) v before after result
  step_untold answer fault is done e memory same =
      does_fail (then_answers message answer_only stepped) v before after result faults.Memory (e ∙ ap Err memory)
      (breaks_later stepped.done (answered_with message answer_only stepped.answer) faults.Memory before mid after done.1
      (part_none (answered_with message answer_only stepped.answer stepped.done.world).lines mid after same))

pub step_silent : (message : ℕ) (stepped : Stepping) (v : World) (before after : List ℕ) → None ≡ stepped.answer → Does stepped.done v before after (Ok tt)
    → Does (then_answers message answer_only stepped) v before after (Ok tt)
step_silent message stepped v before after is done =
    does_then stepped.done (answered_with message answer_only stepped.answer) v v before after after (Ok tt) done.0 done.1
    (subst (λ (o : Option (Result StepAnswer NodeFault)). Does (answered_with message answer_only o v) v after after (Ok tt)) is (refl, tells_none after))
