use Rattle.std.proofs.Common.{sym, subst}
use Rattle.ior_refs.specs.Key.{SpellsKey}
use Rattle.ots_sessions.specs.Sessions.{IsLocated}
use Rattle.ots_sessions.proofs.Located.{located_key}
use Rattle.ots_sessions.proofs.session.locate_object.Goals as goal

pub returns-in-Some-clause-located : goal.returns-in-Some-clause-located
returns-in-Some-clause-located g c =
    let spelled = subst (λ octets. SpellsKey octets c.in-Some.key) c.bytes.ensures.same c.in-Some.ensures.found in
    subst (λ reply. IsLocated g.S.Servant.finds c.args.servant.now c.args.locate.now reply c.is_there-here.new.self) (sym c.located-in-Some.ensures)
    (located_key g.S.Servant.finds c.args.servant.now c.args.locate.now c.same_octets_same_key.ensures c.in-Key.octets c.in-Some.key
    c.is_there-here.result c.is_there-here.new.self c.in-Key.is spelled c.is_there-here.ensures.there)
