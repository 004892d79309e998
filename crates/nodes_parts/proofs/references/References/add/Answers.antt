use Rattle.std.proofs.Common.{◌≡◌, ℕ, List, ◌++◌, ◌∷◌, [], length, map, None, Some, ap, subst, sym, ◌∙◌, arith}
use Rattle.std.specs.Bool.{if◌then◌else◌}
use Rattle.std.specs.Option.{option_or}
use Rattle.std.specs.Str.{bytes_eq}
use Rattle.nodes_parts.specs.Referring.{LeadThere, digest_of, entry_of, first_so, named, referred_in}
use Rattle.nodes_parts.specs.declared.references.NamedKey.{NamedKey as Kept}
use Rattle.nodes_parts.proofs.Referred.{finds_more, lead_there_too, leads_too, none_is}
use Rattle.nodes_parts.proofs.references.References.add.Goals as goal

pub invariant_of-self-2 : goal.invariant_of-self-2
invariant_of-self-2 c =
    let added : List ℕ × Kept = (c.in_ok-shared.shared, c.args.to) in
    let pushed : c.push_reserved.new.self.items ≡ c.self.inside.entries.items ++ added ∷ [] =
    c.push_reserved.ensures.items ∙ ap (λ items. items ++ added ∷ []) c.reserve.ensures.items in
    let counted : c.len-2.result ≡ length c.self.inside.entries.items =
    omega (arith, c.reserve.new.self.ok.0, c.len-2.ensures, ap length c.reserve.ensures.items) in
    let octets : added.0 ≡ c.deref.result.now =
    c.in_ok-shared.ensures ∙ c.deref-4.ensures.value ∙ sym c.deref.ensures.value in
    let nowhere : referred_in (map entry_of c.self.inside.entries.items) added.0 ≡ None =
    ap (referred_in (map entry_of c.self.inside.entries.items)) octets
    ∙ ap (λ entries. referred_in entries c.deref.result.now) c.self.view_is
    ∙ sym c.referred.ensures.referred
    ∙ none_is c.referred.result (sym c.is_some.ensures ∙ c.if-is_some.false) in
    record {
      first = λ digest.
          finds_more c.self.inside.firsts.entries c.note.new.firsts.entries c.self.inside.entries.items added c.digest_of-digest.result
          c.len-2.result c.self.invariant.first (c.digest_of-digest.ensures ∙ ap digest_of (c.deref-2.ensures.value ∙ sym (c.in_ok-shared.ensures ∙ c.deref-4.ensures.value))) counted
          c.in_ok-note.ensures.ok digest
          ∙ ap (first_so digest) (sym pushed);
      there = subst LeadThere (sym pushed) (lead_there_too c.self.inside.entries.items added c.self.invariant.there nowhere);
    }

pub returns-clause-ok : goal.returns-clause-ok
returns-clause-ok c = λ octets.
    let added : List ℕ × Kept = (c.in_ok-shared.shared, c.args.to) in
    let pushed : c.push_reserved.new.self.items ≡ c.self.inside.entries.items ++ added ∷ [] =
    c.push_reserved.ensures.items ∙ ap (λ items. items ++ added ∷ []) c.reserve.ensures.items in
    ap (λ entries. referred_in (map entry_of entries) octets) pushed
    ∙ leads_too c.self.inside.entries.items added octets
    ∙ ap (λ reference. if bytes_eq reference octets then option_or (referred_in (map entry_of c.self.inside.entries.items) octets) (Some (named c.args.to))
    else referred_in (map entry_of c.self.inside.entries.items) octets) (c.in_ok-shared.ensures ∙ c.deref-4.ensures.value)
    ∙ ap (λ entries. if bytes_eq c.args.reference.items octets then option_or (referred_in entries octets) (Some (named c.args.to)) else referred_in entries octets)
    c.self.view_is
