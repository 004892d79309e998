-- A client's call, and then what comes of its answer.
use Rattle.std.proofs.Common.{◌≡◌, ℕ, List, [], ◌++◌, slice_get, Option, Some, None, Result, Ok, Err, refl, sym, ap, subst, ◌∙◌, arith, append_assoc}
use Rattle.std.specs.Option.{option_map}
use Rattle.ior_refs.specs.declared.key.ObjectKey.{ObjectKey}
use Rattle.ots_world.specs.declared.fault.WorldFault.{WorldFault}
use Rattle.ots_world.specs.declared.fault.WorldFault.TheVariants as faults
use Rattle.coordinator.specs.History.{is_later}
use Rattle.coordinator.specs.declared.event.Act.{Act}
use Rattle.coordinator.specs.declared.node.NodeFault.{NodeFault}
use Rattle.coordinator.specs.declared.said.Said.{Said}
use Rattle.coordinator.specs.declared.said.StepAnswer.{StepAnswer}
use Rattle.nodes_world.specs.Clients.{acts_at, answered_with, call_event, calls, said_in, said_lines, then_answers}
use Rattle.nodes_world.specs.Happenings.{Done, ◌▹◌, nothing, tells}
use Rattle.nodes_world.specs.Nodes.{Stepping, no_step, steps}
use Rattle.nodes_world.specs.Objects.{place_of}
use Rattle.nodes_world.specs.Told.{Told}
use Rattle.nodes_world.specs.World.{Seat, World, next_message}
use Rattle.nodes_state.specs.Does.{BreaksOff, Does}
use Rattle.nodes_state.specs.Telling.{Tells}
use Rattle.nodes_state.proofs.Doing.{Grows, breaks_first, breaks_later, does_then, part_none}
use Rattle.nodes_clients.specs.Calling.{sends_call}
use Rattle.nodes_clients.specs.Called.{HasMade, acts_in, called, comes_of, made_lines}
use Rattle.nodes_clients.specs.declared.called.Made.{Made}

-- ---- a call is what goes out and acts, and then what comes of its answer

abbrev acts_by : Option Seat → ℕ → ObjectKey → Act → World → Stepping
acts_by o message to act w = elim o as (λ _. Stepping) [ Some s ↦ steps (place_of to) to (call_event message to act s.clock) w | None ↦ no_step w ]

acts_is : (message : ℕ) (to : ObjectKey) (act : Act) (behind : Said → World → Done) (w : World)
    → acts_at message to act behind w ≡ then_answers message behind (acts_in message to act w)
unfolding acts_at
acts_is message to act behind w = by_seat (slice_get w.seats (place_of to))
  where
    by_seat : (o : Option Seat)
        → (elim o as (λ _. Done) [ Some s ↦ then_answers message behind (steps (place_of to) to (call_event message to act s.clock) w) | None ↦ nothing w ])
        ≡ then_answers message behind (acts_by o message to act w)
    by_seat (Some s) = refl
    by_seat None = refl

-- the lines that tell an answer
abbrev answer_lines : ℕ → Option Said → List Told
answer_lines message o = elim o [ Some answer ↦ said_lines message (is_later answer) answer | None ↦ [] ]

answered_is : (message : ℕ) (behind : Said → World → Done) (o : Option (Result StepAnswer NodeFault)) (w : World)
    → answered_with message behind o w ≡ comes_of behind (option_map said_in o) w ▹ tells (answer_lines message (option_map said_in o))
answered_is message behind (Some answer) w = refl
answered_is message behind None w = refl

module _ (to : ObjectKey) (act : Act) (behind : Said → World → Done) (w : World) where
  abbrev said : Option Said
  said = option_map said_in (called to act w).answer

  abbrev first : Done
  first = (called to act w).done

  abbrev last : World → Done
  last = tells (answer_lines (next_message w) said)

  abbrev total : Done
  total = first ▹ (λ (v : World). comes_of behind said v ▹ last)

  pub calls_is : calls to act behind w ≡ total
  unfolding calls
  calls_is =
      let sent = (sends_call to act w).world in
      let acted = acts_in (next_message w) to act sent in
      ap (λ (d : Done). record { world = d.world; lines = (sends_call to act w).lines ++ d.lines }) (acts_is (next_message w) to act behind sent)
      ∙ ap (λ ls. record { world = (then_answers (next_message w) behind acted).world; lines = ls })
      (sym (append_assoc (sends_call to act w).lines acted.done.lines (answered_with (next_message w) behind acted.answer acted.done.world).lines))
      ∙ ap (λ (d : Done). record { world = d.world; lines = first.lines ++ d.lines }) (answered_is (next_message w) behind (called to act w).answer first.world)

  whole : (v : World) (before after : List ℕ) (result : Result (Unit {0}) WorldFault) → Does total v before after result
      → Does (calls to act behind w) v before after result
  whole v before after result d = subst (λ (x : Done). Does x v before after result) (sym calls_is) d

  failed : (v : World) (before after : List ℕ) (result : Result (Unit {0}) WorldFault) (fault : WorldFault) → result ≡ Err fault
      → BreaksOff total fault before after → Does (calls to act behind w) v before after result
  failed v before after result fault e b = whole v before after result (subst (λ (r : Result (Unit {0}) WorldFault). Does total v before after r) (sym e) b)

  module _ (grows : (o : Option Said) → Grows (comes_of behind o)) where
    -- the call broke off
    pub call_breaks : (v : World) (before after : List ℕ) (result : Result (Unit {0}) WorldFault) (fault : WorldFault) → result ≡ Err fault
        → BreaksOff first fault before after → Does (calls to act behind w) v before after result
    call_breaks v before after result fault e b =
        failed v before after result fault e
        (breaks_first first (λ (u : World). comes_of behind said u ▹ last) fault before after (λ u. grows said u) b)

    module _ (u : World) (before mid : List ℕ) (made : Made) (h : HasMade (next_message w) (called to act w) u before mid made) where
      -- what comes of its answer broke off
      pub behind_breaks : (v : World) (after : List ℕ) (result : Result (Unit {0}) WorldFault) (fault : WorldFault) → result ≡ Err fault
          → BreaksOff (comes_of behind made.said u) fault mid after → Does (calls to act behind w) v before after result
      behind_breaks v after result fault e b =
          failed v before after result fault e
          (breaks_later first (λ (x : World). comes_of behind said x ▹ last) fault before mid after h.done.1
          (breaks_first (comes_of behind said first.world) last fault mid after (λ x. omega arith)
          (subst (λ (x : World). BreaksOff (comes_of behind said x) fault mid after) h.done.0
          (subst (λ (o : Option Said). BreaksOff (comes_of behind o u) fault mid after) h.said b))))

      module _ (v : World) (later after : List ℕ) (d : Does (comes_of behind made.said u) v mid later (Ok tt)) where
        there : Does (comes_of behind said first.world) v mid later (Ok tt)
        there = subst (λ (x : World). Does (comes_of behind said x) v mid later (Ok tt)) h.done.0
            (subst (λ (o : Option Said). Does (comes_of behind o u) v mid later (Ok tt)) h.said d)

        -- and its line was told
        pub call_ends : Tells (made_lines made) later after → Does (calls to act behind w) v before after (Ok tt)
        call_ends t =
            whole v before after (Ok tt)
            (does_then first (λ (x : World). comes_of behind said x ▹ last) first.world v before mid after (Ok tt) refl h.done.1
            (does_then (comes_of behind said first.world) last v v mid later after (Ok tt) there.0 there.1
            (refl, subst (λ (ls : List Told). Tells ls later after) lines_are t)))
          where
            lines_are : made_lines made ≡ answer_lines (next_message w) said
            lines_are = ap (λ (o : Option Said). answer_lines made.message o) h.said ∙ ap (λ n. answer_lines n said) h.message

        -- or memory ran out for it
        pub call_starves : (result : Result (Unit {0}) WorldFault) (fault : WorldFault) → result ≡ Err fault → fault ≡ faults.Memory → after ≡ later
            → Does (calls to act behind w) v before after result
        call_starves result fault e is same =
            failed v before after result faults.Memory (e ∙ ap Err is)
            (breaks_later first (λ (x : World). comes_of behind said x ▹ last) faults.Memory before mid after h.done.1
            (breaks_later (comes_of behind said first.world) last faults.Memory mid later after there.1
            (part_none (answer_lines (next_message w) said) later after same)))
