use Rattle.std.proofs.Common.{◌≡◌, ◌==◌, None, Some, drop, map, ap, sym, ◌∙◌, rules}
use Rattle.std.specs.Map.{lookup}
use Rattle.std.specs.Option.{option_copied, option_map}
use Rattle.nodes_parts.specs.Referring.{entry_of, led_at, named, referred_in}
use Rattle.nodes_parts.proofs.Referred.{leads_at, leads_from, leads_nowhere}
use Rattle.nodes_parts.proofs.references.References.referred.Goals as goal

pub returns-in_err-place : goal.returns-in_err-place
returns-in_err-place c =
    let none : lookup (λ k. c.digest_of.result == k) c.self.inside.firsts.entries ≡ None = sym c.get-2.ensures.value ∙ ap option_copied c.in_err-place.was in
    let gone : c.from_residual.result ≡ None = search rules in
    record {
      referred = ap (option_map named) gone
          ∙ sym (leads_nowhere c.self.inside.firsts.entries c.self.inside.entries.items c.args.to.now c.digest_of.result c.self.invariant.first c.digest_of.ensures none)
          ∙ ap (λ entries. referred_in entries c.args.to.now) c.self.view_is;
    }

pub returns-2 : goal.returns-2
returns-2 c =
    let place = c.in_ok-place.field-0.now in
    let some : lookup (λ k. c.digest_of.result == k) c.self.inside.firsts.entries ≡ Some place = sym c.get-2.ensures.value ∙ ap option_copied c.in_ok-place.was in
    record {
      referred = c.led_from.ensures
          ∙ ap (λ entries. referred_in (map entry_of (drop place entries)) c.args.to.now) c.deref-2.ensures.value
          ∙ sym (leads_from c.self.inside.firsts.entries c.self.inside.entries.items c.args.to.now c.digest_of.result place c.self.invariant.first c.digest_of.ensures some)
          ∙ ap (λ entries. referred_in entries c.args.to.now) c.self.view_is;
    }

pub returns : goal.returns
returns c =
    let place = c.in-Some-get.place in
    let leads = named c.in-Some-led_at.resource in
    let found : led_at c.self.inside.entries.items place c.args.to.now ≡ Some leads =
    ap (λ entries. led_at entries place c.args.to.now) (sym c.deref.ensures.value) ∙ sym c.in-Some-led_at.ensures in
    record {
      referred = sym (leads_at c.self.inside.entries.items place c.args.to.now leads c.self.invariant.there found)
          ∙ ap (λ entries. referred_in entries c.args.to.now) c.self.view_is;
    }
