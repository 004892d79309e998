use Rattle.std.proofs.Common.{◌-◌, length, sym, subst}
use Rattle.std.specs.Prelude.{IfSome}
use Rattle.std.proofs.lemmas.Option.{get_or_from_slice_get, slice_get_within}
use Rattle.resource_end.specs.Inside.{IsRecallable, IsToldBy}
use Rattle.resource_end.proofs.contents.Contents.recall_last.Goals as goal

pub recall-requires : goal.recall-requires
recall-requires c =
    let last = length c.args.standing.now - 1 in
    record {
      order = c.requires.order;
      among = (
        last,
        slice_get_within c.args.standing.now last c.in-Some.last.now (sym c.in-Some.ensures.value),
        get_or_from_slice_get c.args.standing.now last c.in-Some.last.now c.in-Some.last.now (sym c.in-Some.ensures.value),
      );
      recorded = c.requires.recorded;
      recallable = subst (λ o. IfSome o (λ s. IsRecallable s.item c.args.recovery c.args.self.now.resources)) (sym c.in-Some.ensures.value) c.requires.last;
    }

pub returns-in-Some : goal.returns-in-Some
returns-in-Some c = record {
  told = subst (λ o. IfSome o (λ s. IsToldBy s c.args.self.now c.recall.new.self)) c.in-Some.ensures.value c.recall.ensures.told;
  recorded = c.recall.ensures.recorded;
  writable = c.recall.ensures.writable;
}

pub returns-in_default : goal.returns-in_default
returns-in_default c = record {
  told = subst (λ o. IfSome o (λ s. IsToldBy s c.args.self.now c.args.self.now)) c.in_default.ensures.value tt;
  recorded = c.requires.recorded;
  writable = λ drawn all. all;
}
