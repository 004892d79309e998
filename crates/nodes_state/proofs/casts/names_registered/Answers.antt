use Rattle.std.proofs.Common.{ℕ, List, [], ◌∷◌, ◌++◌, Option, sym, ap, ◌∙◌}
use Rattle.nodes_state.proofs.Registered.{all_kept, one_more}
use Rattle.nodes_state.proofs.casts.names_registered.Goals as goal

pub returns-in-None : goal.returns-in-None
returns-in-None c = λ w names.
    all_kept w c.args.family.now.family.ballots.registrations c.loop-place.place c.loop-place.found.items (sym c.in-None.ensures) (c.loop-place.invariant w names)

pub loop-place-preserved : goal.loop-place-preserved
loop-place-preserved c = λ w names.
    c.in_ok-push-in-Some.ensures.items
    ∙ ap (λ (x : Option (List ℕ)). c.loop-place.found.items ++ x ∷ []) (c.name_of.ensures w names)
    ∙ one_more w c.args.family.now.family.ballots.registrations c.loop-place.place c.in-Some.registration.now c.loop-place.found.items (sym c.in-Some.ensures)
    (c.loop-place.invariant w names)
