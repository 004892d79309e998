use Rattle.std.proofs.Common.{◌≡◌, false, sym, arith}
use Rattle.std.specs.Prelude.{◌==◌}
use Rattle.std.proofs.lemmas.Bool.Decides.{nat_tests}
use Rattle.recovery_coord.specs.Limits.{recovery_kind}
use Rattle.recovery_coord.proofs.Treed.{other_kind}
use Rattle.recovery_coord.proofs.recovered.Recovered.record_named.Goals as goal

pub returns-then-key-ne-RECOVERY_KIND : goal.returns-then-key-ne-RECOVERY_KIND
returns-then-key-ne-RECOVERY_KIND c =
    let other : (c.args.key.now.kind == recovery_kind) ≡ false = grind (arith, nat_tests, c.if-key-ne-RECOVERY_KIND.true) in
    sym (other_kind c.args.self.now.service recovery_kind c.args.key.now other c.args.self.now.records)
