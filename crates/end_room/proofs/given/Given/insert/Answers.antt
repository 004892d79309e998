use Rattle.std.proofs.Common.{subst}
use Rattle.end_room.specs.Inside.{names_in}
use Rattle.end_room.specs.Own.{IsNamed}
use Rattle.end_room.proofs.Names.{is_named}
use Rattle.end_room.proofs.given.Given.insert.Goals as goal

pub returns-clause-named : goal.returns-clause-named
returns-clause-named c =
    subst (λ before. IsNamed c.args.tid.items c.args.enlisted before (names_in c.insert.new.self)) c.self.view_is
    (is_named c.args.tid.items c.args.enlisted c.self.inside.map c.insert.new.self c.in_ok-insert.ensures.updates)
