use Rattle.std.proofs.Common.{◌==◌, ◌∙◌, ap, sym, List, Option}
use Rattle.std.specs.List.{find}
use Rattle.std.specs.Option.{option_map_or}
use Rattle.coordinator.specs.Step.{said_now}
use Rattle.family_rules.specs.Calls.{said_of}
use Rattle.family_rules.specs.Changes.{DraftParts}
use Rattle.family_rules.specs.declared.draft.Told.{Told}
use Rattle.family_rules.specs.declared.parts.Parts.{Parts}
use Rattle.family_rules.proofs.Handed.{said_by}
use Rattle.family_rules.proofs.draft.Draft.said_now.Goals as goal

pub returns-in-Some-clause-said : goal.returns-in-Some-clause-said
returns-in-Some-clause-said c =
    let at = c.args.position in
    let otherwise = c.args.otherwise in
    c.said.ensures
    ∙ (ap (λ (o : Option Told). option_map_or (λ (t : Told). said_of t.reply) o otherwise)
    (c.in-Some.ensures ∙ ap (λ (ys : List Told). find (λ (t : Told). t.position == at) ys) (c.deref-2.ensures.value ∙ ap (λ (p : Parts). p.finished.items) c.deref.ensures))
    ∙ (sym (said_by at c.self.inside.parts.value.finished.items otherwise)
    ∙ ap (λ (d : DraftParts). said_now at d.changes.finished otherwise) c.self.view_is))
