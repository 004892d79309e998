use Rattle.std.proofs.Common.{◌∙◌, ◌++◌, sym, ap, arith}
use Rattle.std.proofs.lemmas.List.Edits.{map_over_more}
use Rattle.recovery_coord.specs.declared.held.Held.{Held}
use Rattle.recovery_coord.specs.Telling.{retold, words_of}
use Rattle.recovery_coord.proofs.Pieces.{as_before, both_ok, more_still, one_changed}
use Rattle.recovery_coord.proofs.telling.tell_all.Goals as goal

pub loop-held-preserved : goal.loop-held-preserved
loop-held-preserved c =
    let init = c.args.records.now in
    let i = c.loop-held.held-index in
    let old = c.held-item.result in
    let same = as_before retold init c.loop-held.records i old (omega arith) c.loop-held.invariant.records_are c.held-item.is in
    let step = map_over_more retold init c.loop-held.records i old (omega arith) c.loop-held.invariant.records_are c.held-item.is in
    record {
      records_are = cc;
      so_far = both_ok c.loop-held.told c.tell_record-told.result c.loop-held.invariant.so_far c.tell_record-told.ensures.before c.tell_record-told.ensures.ok
          (λ so_far one. one_changed retold (words_of c.args.life) init i old c.args.out.now.words c.loop-held.out.words c.tell_record-told.new.out.words (omega arith) same so_far
          (one ∙ ap (λ (r : Held). c.loop-held.out.words ++ words_of c.args.life r) (c.tell_record-told.ensures.retold ∙ ap retold (sym c.held-item.is))));
      more = more_still c.args.out.now.words c.loop-held.out.words c.tell_record-told.new.out.words c.loop-held.invariant.more c.tell_record-told.ensures.more;
      room = cc;
    }
