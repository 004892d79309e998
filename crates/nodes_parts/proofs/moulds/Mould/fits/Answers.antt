use Rattle.std.proofs.Common.{◌∙◌, ap, sym}
use Rattle.std.proofs.lemmas.Slice.Eq.{bytes_eq-Decides}
use Rattle.nodes_parts.specs.Moulded.{numbered_as}
use Rattle.nodes_parts.proofs.NameLemmas.{same_padded-same}
use Rattle.nodes_parts.proofs.moulds.Mould.fits.Goals as goal

pub returns-then-eq : goal.returns-then-eq
returns-then-eq c is =
    let name = c.self.inside.name in
    let other = c.args.name.now in
    let named = (bytes_eq-Decides name other).0 (sym (same_padded-same name other) ∙ sym c.eq.ensures ∙ c.if-eq.true) in
    (sym named ∙ ap (λ v. v.0) c.self.view_is, c.has_key_but_number.ensures is ∙ ap (λ v. numbered_as v.1 c.args.key.now.generation) c.self.view_is)
