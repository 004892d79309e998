use Rattle.std.proofs.Common.{ap, sym, ◌≡◌, ◌∙◌, Option, Some, None, Bor}
use Rattle.std.specs.List.{slice_get}
use Rattle.std.specs.Option.{option_copied}
use Rattle.two_phase.specs.Course.{first_refuser}
use Rattle.two_phase.specs.declared.party.Party.{Party}
use Rattle.two_phase.proofs.Consented.{refuser_at, no_refuser_at}
use Rattle.two_phase.proofs.parties.first_refuser.Goals as goal

pub returns-in-Some : goal.returns-in-Some
unfolding first_refuser
returns-in-Some c =
    let n = c.args.consented in
    let ps = c.args.parties.now in
    let there : slice_get ps n ≡ Some c.in-Some.party.now = sym c.party_at.ensures ∙ ap (λ (o : Option (Bor Party)). option_copied o) c.in-Some.is in
    c.refusing.ensures ∙ sym (refuser_at n ps c.in-Some.party.now there c.requires.consented c.requires.unasked)

pub returns-in-None : goal.returns-in-None
unfolding first_refuser
returns-in-None c =
    let n = c.args.consented in
    let ps = c.args.parties.now in
    let past : slice_get ps n ≡ None = sym c.party_at.ensures ∙ ap (λ (o : Option (Bor Party)). option_copied o) c.in-None.is in
    sym (no_refuser_at n ps past c.requires.consented)
