use Rattle.std.proofs.Common.{◌≡◌, List, Some, sym, ap, subst, ◌∙◌}
use Rattle.std.specs.Option.{option_copied, option_map}
use Rattle.coordinator.specs.Family.{Family, FamilyParts}
use Rattle.coordinator.specs.Node.{Node, family_of}
use Rattle.coordinator.specs.declared.effect.Effect.{Effect}
use Rattle.coordinator.specs.declared.said.Entry.{Entry}
use Rattle.coordinator.specs.declared.said.Finished.{Finished}
use Rattle.nodes_world.specs.Happenings.{all_effect_lines, all_finished_lines, cast_of}
use Rattle.nodes_world.specs.Told.{Told}
use Rattle.nodes_state.specs.Seated.{node_of}
use Rattle.nodes_state.specs.Shown.{shown}
use Rattle.nodes_state.specs.Telling.{Tells, TellsPart, TellsSome}
use Rattle.nodes_state.proofs.Doing.{part_first}
use Rattle.nodes_state.proofs.Failing.{some_failed}
use Rattle.nodes_seats.specs.Ticking.{happening_lines}
use Rattle.nodes_seats.proofs.Ticks.{happening_there, some_then}
use Rattle.nodes_seats.proofs.ticking.tell_happening.Goals as goal

pub returns-in_err-tell_effects : goal.returns-in_err-tell_effects
returns-in_err-tell_effects c = λ later up.
    let w = shown c.args.state.now in
    let h = c.args.happening.now in
    let f : Family = c.in-Some-family.family.now.family in
    let before = c.args.lines.now.items in
    let after = c.tell_effects.new.lines.items in
    let one : Some c.in-Some.node.now.node ≡ Some later = sym (ap (λ o. option_map node_of (option_copied o)) c.in-Some.is) ∙ c.node.ensures ∙ up in
    let same : c.in-Some.node.now.node ≡ later = cc in
    let there : family_of h.key later ≡ Some f =
    sym (ap (λ (x : Node). family_of h.key x) same) ∙ sym c.family.ensures ∙ ap (λ o. option_map (λ (p : FamilyParts). p.family) (option_copied o)) c.in-Some-family.is in
    let told : TellsPart (all_effect_lines w (cast_of f) h.effects) before after =
    subst (λ (some : List Effect). TellsPart (all_effect_lines w (cast_of f) some) before after) c.items-effects.ensures.same
    (c.in_err-tell_effects.ensures w (cast_of f) c.requires.names (c.of.ensures w)) in
    some_failed (happening_lines w later h) before after c.from_residual.result c.from_residual.ensures.0
    (subst (λ (some : List Told). TellsPart some before after) (sym (happening_there w later h f there))
    (part_first (all_effect_lines w (cast_of f) h.effects) (all_finished_lines f.entries h.finished) before after told))

pub returns : goal.returns
returns c = λ later up.
    let w = shown c.args.state.now in
    let h = c.args.happening.now in
    let f : Family = c.in-Some-family.family.now.family in
    let before = c.args.lines.now.items in
    let mid = c.tell_effects.new.lines.items in
    let after = c.tell_finished.new.lines.items in
    let one : Some c.in-Some.node.now.node ≡ Some later = sym (ap (λ o. option_map node_of (option_copied o)) c.in-Some.is) ∙ c.node.ensures ∙ up in
    let same : c.in-Some.node.now.node ≡ later = cc in
    let there : family_of h.key later ≡ Some f =
    sym (ap (λ (x : Node). family_of h.key x) same) ∙ sym c.family.ensures ∙ ap (λ o. option_map (λ (p : FamilyParts). p.family) (option_copied o)) c.in-Some-family.is in
    let told : Tells (all_effect_lines w (cast_of f) h.effects) before mid =
    subst (λ (some : List Effect). Tells (all_effect_lines w (cast_of f) some) before mid) c.items-effects.ensures.same
    (c.in_ok-tell_effects.ensures w (cast_of f) c.requires.names (c.of.ensures w)) in
    subst (λ (some : List Told). TellsSome some before after c.tell_finished.result) (sym (happening_there w later h f there))
    (some_then (all_effect_lines w (cast_of f) h.effects) (all_finished_lines f.entries h.finished) before mid after c.tell_finished.result told
    (subst (λ (entries : List Entry). TellsSome (all_finished_lines entries h.finished) mid after c.tell_finished.result) c.entries.ensures.entries
    (subst (λ (some : List Finished). TellsSome (all_finished_lines c.entries.result.now some) mid after c.tell_finished.result) c.items.ensures.same c.tell_finished.ensures)))
