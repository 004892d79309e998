use Rattle.std.proofs.Common.{arith, refl}
use Rattle.std.proofs.lemmas.Grind.{common_steps}
use Rattle.ots_outside.proofs.Sent.{HasSent-more, HasSent-kept, HasSent-part, OnErr-always}
use Rattle.ots_outside.proofs.streams.write_whole.Goals as goal

pub returns-in-Err-clause-part : goal.returns-in-Err-clause-part
returns-in-Err-clause-part g c =
    HasSent-part _ _ _ _ (HasSent-kept _ _ _ _ _ c.loop-rest.invariant c.in-Err.ensures.bytes)

pub returns-in-Ok-eq0-clause-part : goal.returns-in-Ok-eq0-clause-part
returns-in-Ok-eq0-clause-part g c =
    HasSent-part _ _ _ _ (HasSent-more _ _ _ _ _ _ _ c.loop-rest.invariant c.in-Ok-eq0.ensures.bytes refl)

pub loop-rest-preserved : goal.loop-rest-preserved
loop-rest-preserved g c =
    HasSent-more _ _ _ _ _ _ _ c.loop-rest.invariant c.in-Ok.ensures.bytes (grind (arith, common_steps))

pub returns-clause-part : goal.returns-clause-part
returns-clause-part g c =
    OnErr-always _ (HasSent-part _ _ _ _ (HasSent-kept _ _ _ _ _ c.loop-rest.invariant c.flush.ensures.bytes))
