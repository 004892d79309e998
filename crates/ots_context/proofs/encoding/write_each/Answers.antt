use Rattle.std.proofs.Common.{arith, ap, length, subst}
use Rattle.std.proofs.lemmas.List.Elements.{All-more}
use Rattle.cdr_values.specs.Writing.{Writing}
use Rattle.ots_context.specs.Identity.{IsIdentity}
use Rattle.ots_context.proofs.Room.{goes_on, identity_room}
use Rattle.ots_context.proofs.encoding.write_each.Goals as goal

pub loop-parent-preserved : goal.loop-parent-preserved
loop-parent-preserved c =
    let x = c.parent-item.result in
    let i = c.loop-parent.parent-index in
    let all = c.args.parents.now in
    record {
      written = goes_on c.args.writer.now c.loop-parent.writer c.write_identity.new.writer all i x c.loop-parent-test.true c.parent-item.is c.loop-parent.invariant.written c.in_ok-write_identity.ensures.ok;
      parents = All-more IsIdentity all i x c.loop-parent-test.true c.loop-parent.invariant.parents (subst IsIdentity c.parent-item.is c.in_ok-write_identity.ensures.identity);
      room = omega (arith, c.loop-parent.invariant.room, ap (λ (w : Writing). length w.octets) c.in_ok-write_identity.ensures.ok, identity_room c.loop-parent.writer x c.in_ok-write_identity.ensures.identity);
    }
