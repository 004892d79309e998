use Rattle.std.proofs.Common.{arith}
use Rattle.std.proofs.lemmas.List.Edits.{map_over_more}
use Rattle.recovery_coord.specs.Hearing.{party_after}
use Rattle.recovery_coord.proofs.Waited.{waiting_over_more}
use Rattle.recovery_coord.proofs.parties.hear_all.Goals as goal

pub loop-party-preserved : goal.loop-party-preserved
loop-party-preserved c = record {
  after =
      let step = map_over_more (party_after c.args.serial c.args.h.now) c.args.parties.now c.loop-party.parties c.loop-party.party-index c.party-item.result (omega arith) c.loop-party.invariant.after c.party-item.is in
      cc;
  waiting =
      let step = waiting_over_more (party_after c.args.serial c.args.h.now) c.args.parties.now c.loop-party.parties c.loop-party.party-index c.party-item.result (omega arith) c.loop-party.invariant.after c.party-item.is in
      cc;
}
