use Rattle.std.proofs.Common.{◌≡◌, ◌∙◌, ap, Option, None}
use Rattle.std.specs.Option.{option_map_or}
use Rattle.otid_names.specs.Name.{hash}
use Rattle.otid_names.specs.Otid.{OtidParts}
use Rattle.otid_names.specs.Own.{own}
use Rattle.otid_names.specs.declared.otid.OwnNumbers.{OwnNumbers}
use Rattle.coordinator.specs.Names.{given_otid, otid_of, hash_of, numbers_of}
use Rattle.family_rules.proofs.state.State.hash_of.Goals as goal

pub returns-in-None : goal.returns-in-None
unfolding hash_of otid_of
returns-in-None c =
    let f = c.args.self.now.family in
    let none : None ≡ given_otid f c.args.branch = c.in-None.ensures in
    c.own_hash.ensures
    ∙ (ap (λ (n : OwnNumbers). hash (own n)) c.numbers_of.ensures
    ∙ ap (λ (o : Option OtidParts). hash (option_map_or (λ x. x) o (own (numbers_of f c.args.branch)))) none)
