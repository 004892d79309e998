use Rattle.std.proofs.Common.{arith}
use Rattle.recovery_coord.specs.Telling.{word_to}
use Rattle.recovery_coord.proofs.Pieces.{one_more}
use Rattle.recovery_coord.proofs.telling.Teller.tell.Goals as goal

pub loop-party-preserved : goal.loop-party-preserved
loop-party-preserved c = record {
  so_far = one_more (word_to c.args.self.life c.args.self.place c.args.self.decided) c.args.parties.now c.loop-party.party-index c.party-item.result
      c.args.out.now.words c.loop-party.out.words c.tell_one.new.out.words (omega arith) c.party-item.is c.loop-party.invariant.so_far c.in_ok-tell_one.ensures.ok;
  room = cc;
}
