use Rattle.std.proofs.Common.{◌≡◌, ◌∙◌, ℕ, Option, Some, ap, sym}
use Rattle.std.specs.Option.{option_map}
use Rattle.coordinator.specs.Family.{FamilyParts}
use Rattle.family_step.specs.Callers.{answered_at}
use Rattle.family_step.proofs.Indexed.{answered_is, place_of}
use Rattle.family_step.proofs.family.Family.answered_at.Goals as goal

pub returns-in_err-call : goal.returns-in_err-call
returns-in_err-call c =
    let key = c.args.key.now in
    c.from_residual.ensures
    ∙ ap (option_map place_of) (sym c.in_err-call.was ∙ c.find.ensures)
    ∙ answered_is c.self.inside.callers.places c.self.inside.state.family.entries c.self.invariant.index key
    ∙ ap (λ (p : FamilyParts). answered_at p.family.entries key) c.self.view_is

pub returns : goal.returns
returns c =
    let key = c.args.key.now in
    ap (λ (x : ℕ). Some x) c.answering.ensures
    ∙ ap (option_map place_of) (sym c.in_ok-call.was ∙ c.find.ensures)
    ∙ answered_is c.self.inside.callers.places c.self.inside.state.family.entries c.self.invariant.index key
    ∙ ap (λ (p : FamilyParts). answered_at p.family.entries key) c.self.view_is
