use Rattle.std.proofs.Common.{◌≡◌, ◌∙◌, ℕ, List, length, Some, refl, sym, ap}
use Rattle.std.specs.List.{slice_get}
use Rattle.std.specs.Option.{option_and_then}
use Rattle.std.proofs.lemmas.Option.{slice_get_read}
use Rattle.coordinator.specs.History.{answer_among}
use Rattle.coordinator.specs.declared.said.Finished.{Finished}
use Rattle.family_step.specs.Callers.{answer_in}
use Rattle.family_step.proofs.ready.answered_later.Goals as goal

pub returns : goal.returns
returns c =
    let at = c.args.call.entry in
    let entries = c.args.entries.now in
    let entry = c.in_ok-entry.entry.now in
    let place = c.in_ok-call.field-0 in
    let is : slice_get entries place ≡ Some entry = slice_get_read entries (length entries) place entry refl c.in_ok-entry.ensures.lookup.3.0 c.in_ok-entry.ensures.lookup.1 in
    c.answer_for.ensures ∙ ap (λ (xs : List Finished). answer_among at xs) c.items.ensures.same
    ∙ ap (answer_in at) (sym is)
    ∙ ap (option_and_then (λ (n : ℕ). answer_in at (slice_get entries n))) (sym c.in_ok-call.was)
