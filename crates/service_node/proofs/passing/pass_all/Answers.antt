use Rattle.std.proofs.Common.{◌∙◌, ◌++◌, ◌<◌, ◌⊎◌, List, Option, length, map, take, sym, ap, subst, arith}
use Rattle.std.specs.List.{filter_map}
use Rattle.std.specs.Option.{option_map, option_to_list}
use Rattle.std.proofs.lemmas.List.{append_assoc, length-map}
use Rattle.ots_model.specs.declared.tree.Outward.{Outward}
use Rattle.coordinator.specs.Family.{FamilyParts}
use Rattle.coordinator.specs.NodeSlots.{takes_over}
use Rattle.coordinator.specs.NodeTick.{happens_in, ticked}
use Rattle.recovery_coord.specs.Held.{Recoveries}
use Rattle.service_node.specs.declared.passing.Happening.{Happening}
use Rattle.service_node.specs.NodeState.{shown}
use Rattle.service_node.specs.Ticking.{HasPassedIn, IsStill, told, words_in, words_of}
use Rattle.service_node.proofs.Keeping.{same_others}
use Rattle.service_node.proofs.Passed.{on_err, part_passed, passed_more, there, told_more, words_more}
use Rattle.service_node.proofs.Stands.{over_ticked}
use Rattle.service_node.proofs.passing.pass_all.Goals as goal

pub returns-in_err-pass_on-clause-part : goal.returns-in_err-pass_on-clause-part
returns-in_err-pass_on-clause-part g c =
    on_err c.from_residual.result
    (part_passed c.args.now c.args.journal.now.found c.args.places.now c.loop-place.places c.loop-place.place-index c.place-item.result c.pass_on.new.place (omega arith) (omega arith)
    c.loop-place.invariant.passed c.place-item.is c.args.recovered.now.records c.pass_on.new.recovered.records
    (ap (λ (x : Recoveries). x.records) c.in_err-pass_on.ensures.same ∙ c.loop-place.invariant.taken) c.args.out.now.words c.loop-place.out.words c.pass_on.new.out.words
    c.loop-place.invariant.words
    (subst (λ (o : Option FamilyParts). HasPassedIn c.args.now (shown o) (shown c.pass_on.new.place) c.loop-place.out.words c.pass_on.new.out.words
    ⊎ IsStill (shown o) (shown c.pass_on.new.place) c.loop-place.out.words c.pass_on.new.out.words) (sym c.place-item.is) c.in_err-pass_on.ensures.part))

pub loop-place-preserved : goal.loop-place-preserved
loop-place-preserved g c =
    let now = c.args.now in
    let found = c.args.journal.now.found in
    let i = c.loop-place.place-index in
    let zs = map shown c.args.places.now in
    let z = shown c.place-item.result in
    let at = there now c.args.places.now c.loop-place.places i c.place-item.result (omega arith) (omega arith) c.loop-place.invariant.passed c.place-item.is in
    let size = length-map c.args.places.now shown in
    let within : i < length zs = omega (arith, size) in
    record {
      passed = passed_more now c.args.places.now c.loop-place.places i c.place-item.result (omega arith) (omega arith) c.loop-place.invariant.passed c.place-item.is
          c.pass_on.new.place (c.in_ok-pass_on.ensures.place.family ∙ ap (λ (x : Option FamilyParts). ticked now (shown x)) (sym c.place-item.is));
      words =
          c.in_ok-pass_on.ensures.place.words_are
          ∙ ap (λ (x : Option FamilyParts). c.loop-place.out.words ++ words_of (happens_in now (shown x))) (sym c.place-item.is)
          ∙ ap (λ (ws : List Outward). ws ++ words_of (happens_in now z)) c.loop-place.invariant.words
          ∙ append_assoc c.args.out.now.words (words_in (filter_map (happens_in now) (take i zs))) (words_of (happens_in now z))
          ∙ ap (λ (ws : List Outward). c.args.out.now.words ++ ws) (sym (words_more now zs i z within at));
      happened =
          c.in_ok-pass_on.ensures.happened
          ∙ ap (λ (x : Option FamilyParts). c.loop-place.happened.items ++ option_to_list (option_map told (happens_in now (shown x)))) (sym c.place-item.is)
          ∙ ap (λ (hs : List Happening). hs ++ option_to_list (option_map told (happens_in now z))) c.loop-place.invariant.happened
          ∙ append_assoc c.args.happened.now.items (map told (filter_map (happens_in now) (take i zs))) (option_to_list (option_map told (happens_in now z)))
          ∙ ap (λ (hs : List Happening). c.args.happened.now.items ++ hs) (sym (told_more now zs i z within at));
      others = same_others c.pass_on.new.recovered c.loop-place.recovered c.args.recovered.now _ c.in_ok-pass_on.ensures.records c.loop-place.invariant.others;
      taken =
          ap (λ (x : Recoveries). x.records) c.in_ok-pass_on.ensures.records
          ∙ ap (λ (x : Option FamilyParts). takes_over found (ticked now (shown x)) c.loop-place.recovered.records) (sym c.place-item.is)
          ∙ ap (takes_over found (ticked now z)) c.loop-place.invariant.taken
          ∙ sym (over_ticked found now zs i z c.args.recovered.now.records within at);
    }
