use Rattle.std.proofs.Common.{◌≡◌, ap, ◌∙◌, arith}
use Rattle.cdr_values.specs.Values.{with_values}
use Rattle.cdr_values.specs.Writing.{Writing}
use Rattle.ots_context.specs.Identity.{identity_values}
use Rattle.ots_context.specs.Writing.{behind_current}
use Rattle.ots_context.proofs.Room.{map_ok, timeout_room}
use Rattle.ots_context.proofs.encoding.write_current.Goals as goal

pub write_identity-requires : goal.write_identity-requires
write_identity-requires c =
    omega (arith, timeout_room c.args.writer.now c.ulong.new.self c.args.c.now.timeout c.requires.front c.in_ok-ulong.ensures.ok)

pub returns-clause-ok : goal.returns-clause-ok
unfolding behind_current
returns-clause-ok c =
    map_ok c.write_identity.result (λ (e : c.write_identity.new.writer ≡ with_values c.ulong.new.self (identity_values c.args.c.now.current)). e ∙ ap (λ (x : Writing). with_values x (identity_values c.args.c.now.current)) c.in_ok-ulong.ensures.ok) c.write_identity.ensures.ok
