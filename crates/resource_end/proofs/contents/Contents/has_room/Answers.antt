use Rattle.std.proofs.Common.{◌≡◌, Some, sym, subst}
use Rattle.resource_end.specs.Calls.{has_room}
use Rattle.resource_end.specs.Inside.{numbered, resource_at}
use Rattle.resource_end.proofs.Again.{if_there}
use Rattle.resource_end.proofs.contents.Contents.has_room.Goals as goal

pub returns-in-Some : goal.returns-in-Some
returns-in-Some c =
    if_there (numbered c.args.id c.args.self.now.resources) (resource_at c.args.id c.in-Some.kept.now) (λ r. c.has_room.result ≡ has_room c.args.cell r)
    (subst (λ s. numbered c.args.id s.resources ≡ Some (resource_at c.args.id c.in-Some.kept.now)) c.self.view_is (sym c.in-Some.ensures.found))
    (c.has_room.ensures c.args.id)
