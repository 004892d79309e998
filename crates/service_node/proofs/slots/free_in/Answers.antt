use Rattle.std.proofs.Common.{◌∙◌, ℕ, ◌+◌, Option, sym, ap}
use Rattle.std.specs.Prelude.{position}
use Rattle.std.specs.Option.{option_map, option_or}
use Rattle.coordinator.specs.NodeSlots.{free_up_to, is_free}
use Rattle.std.proofs.Common.{map}
use Rattle.service_node.specs.NodeState.{shown}
use Rattle.service_node.proofs.Free.{behind_shown, rest_is, up_to_shown}
use Rattle.service_node.proofs.slots.free_in.Goals as goal

pub returns-in-Some-clause-slot : goal.returns-in-Some-clause-slot
returns-in-Some-clause-slot c =
    sym (ap (λ (o : Option ℕ). option_or o (free_up_to c.args.last (map shown c.args.items.now)))
    (behind_shown c.args.last c.args.items.now ∙ ap (option_map (λ (i : ℕ). c.args.last + 1 + i)) (ap (position (λ place. is_free (shown place))) (sym (rest_is (c.args.last + 1) c.args.items.now)) ∙ sym c.in-Some.ensures.index)))

pub returns-in-None-clause-slot : goal.returns-in-None-clause-slot
returns-in-None-clause-slot c =
    c.free_before.ensures.slot ∙ sym (up_to_shown c.args.last c.args.items.now)
    ∙ sym (ap (λ (o : Option ℕ). option_or o (free_up_to c.args.last (map shown c.args.items.now)))
    (behind_shown c.args.last c.args.items.now ∙ ap (option_map (λ (i : ℕ). c.args.last + 1 + i)) (ap (position (λ place. is_free (shown place))) (sym (rest_is (c.args.last + 1) c.args.items.now)) ∙ sym c.in-None.ensures.index)))
