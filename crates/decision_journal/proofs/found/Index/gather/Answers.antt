use Rattle.std.proofs.Common.{◌∙◌, ◌+◌, List, ap, sym, subst, arith}
use Rattle.decision_journal.specs.declared.journal.Standing.{Standing}
use Rattle.decision_journal.specs.Journal.{Found, with_record}
use Rattle.decision_journal.specs.Index.{AreBefore, left}
use Rattle.decision_journal.specs.Room.{Stock}
use Rattle.decision_journal.proofs.Below.{one_more}
use Rattle.decision_journal.proofs.Left.{add_left, not_done}
use Rattle.decision_journal.proofs.found.Index.gather.Goals as goal

pub returns-in-Ok : goal.returns-in-Ok
returns-in-Ok c =
    let same = ap (λ (s : Stock). s.found) c.self.view_is in
    let added = c.add.ensures.found ∙ ap (λ (xs : List Standing). with_record (record { life = c.self.inside.life; standing = xs }) c.args.place c.args.item) c.reserve.ensures.same ∙ ap (λ (f : Found). with_record f c.args.place c.args.item) same in
    record {
      ok = ap left added ∙ add_left c.args.self.now.found c.args.place c.args.item (not_done c.args.item c.in_default.not-Done);
      before = subst (λ (f : Found). AreBefore (c.args.place + 1) f.standing) (sym added) (one_more c.args.self.now.found c.args.place (c.args.place + 1) c.args.item (omega arith) c.requires.behind);
    }
