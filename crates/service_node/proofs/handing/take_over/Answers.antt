use Rattle.std.proofs.Common.{◌∙◌, ℕ, List, sym, ap}
use Rattle.recovery_coord.specs.Held.{is_held}
use Rattle.recovery_coord.specs.declared.held.Held.{Held}
use Rattle.service_node.proofs.Stands.{over_held}
use Rattle.service_node.proofs.handing.take_over.Goals as goal

pub returns-then-holds-clause-ok : goal.returns-then-holds-clause-ok
returns-then-holds-clause-ok g c =
    let held = c.args.recovered.now in
    ap (λ (rs : List Held). record held { records = rs })
    (sym (over_held c.args.journal.now.found c.args.family.now.family held.records c.in-Some.place (sym c.in-Some.ensures) (ap (λ (k : ℕ). is_held k held.records) (sym c.from.ensures) ∙ sym c.holds.ensures ∙ c.if-holds.true)))
