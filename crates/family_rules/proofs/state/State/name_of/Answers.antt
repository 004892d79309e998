use Rattle.std.proofs.Common.{◌≡◌, ◌∙◌, ap, Option, None}
use Rattle.std.specs.Option.{option_map_or}
use Rattle.std.proofs.lemmas.Result.{IfOk-weaker}
use Rattle.otid_names.specs.Name.{name}
use Rattle.otid_names.specs.Otid.{OtidParts}
use Rattle.otid_names.specs.Own.{own}
use Rattle.otid_names.specs.declared.otid.OwnNumbers.{OwnNumbers}
use Rattle.coordinator.specs.Names.{given_otid, otid_of, name_of, numbers_of}
use Rattle.family_rules.proofs.state.State.name_of.Goals as goal

pub returns-in_ok-otid-in-None : goal.returns-in_ok-otid-in-None
unfolding name_of otid_of
returns-in_ok-otid-in-None c =
    let f = c.args.self.now.family in
    let none : None ≡ given_otid f c.args.branch = c.in-None.ensures in
    let same : name c.in_ok-otid-in-None.otid ≡ name (otid_of f c.args.branch) =
    ap name (c.in_ok-otid-in-None.ensures.made
    ∙ (ap (λ (n : OwnNumbers). own n) c.numbers_of.ensures
    ∙ ap (λ (o : Option OtidParts). option_map_or (λ x. x) o (own (numbers_of f c.args.branch))) none)) in
    IfOk-weaker c.name_of-in-None.result _ _ (λ octets h. h ∙ same) c.name_of-in-None.ensures
