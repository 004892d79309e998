use Rattle.std.proofs.Common.{◌≡◌, ◌∙◌, ℕ, List, Option, Some, None, sym, subst}
use Rattle.std.specs.Prelude.{◌==◌}
use Rattle.std.proofs.lemmas.Bool.{and_parts, eqb-true}
use Rattle.resource_end.specs.declared.state.State.{State}
use Rattle.resource_end.specs.declared.state.State.TheVariants.{Forgotten}
use Rattle.resource_end.specs.End.{Resource, kept, moved}
use Rattle.resource_end.specs.Inside.{Id, placed, without}
use Rattle.resource_end.proofs.Named.{of_found}
use Rattle.resource_end.proofs.kept.Resources.change.Goals as goal

forgets : (place : Option ℕ) (r : Resource) (rs : List Resource) (id : Id) → r.life ≡ id.0 → r.number ≡ id.1
    → without id rs ≡ kept (moved Forgotten (placed Forgotten place r)) rs
forgets None r rs id p q = (λ i. without (sym p i, sym q i) rs)
forgets (Some place) r rs id p q = (λ i. without (sym p i, sym q i) rs)

pub returns-in-Forgotten-clause-after : goal.returns-in-Forgotten-clause-after
returns-in-Forgotten-clause-after c =
    of_found c.args.id c.args.self.now (λ r. c.remove.new.self ≡ kept (moved c.args.next (placed c.args.next c.args.place r)) c.args.self.now) (λ r h.
    let p = and_parts (r.life == c.args.id.0) (r.number == c.args.id.1) h in
    c.remove.ensures
    ∙ subst (λ (s : State). without c.args.id c.args.self.now ≡ kept (moved s (placed s c.args.place r)) c.args.self.now) (sym c.in-Forgotten.is)
    (forgets c.args.place r c.args.self.now c.args.id (eqb-true r.life c.args.id.0 p.0) (eqb-true r.number c.args.id.1 p.1)))
