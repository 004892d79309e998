use Rattle.std.proofs.Common.{sym}
use Rattle.nodes_state.proofs.Saying.{no_done, no_doubt, no_mark, no_outcome, no_vote, says_done, says_doubt, says_ended, says_marked, says_outcome, says_vote}
use Rattle.nodes_state.proofs.telling.tell_effect.Goals as goal

pub returns-in-Some : goal.returns-in-Some
returns-in-Some c = λ w k names stands.
    says_vote w k c.args.effect c.args.lines.now.items c.tell_known.new.lines.items c.tell_known.result c.in-Voted.number c.in-Voted.vote
    c.in-Some.registration c.in-Voted.is (sym (c.in-Some.ensures w k names stands)) c.tell_known.ensures

pub returns-in-None : goal.returns-in-None
returns-in-None c = λ w k names stands.
    no_vote w k c.args.effect c.args.lines.now.items c.in-Voted.number c.in-Voted.vote c.in-Voted.is (sym (c.in-None.ensures w k names stands))

pub returns-in_Some-name-in-Decided : goal.returns-in_Some-name-in-Decided
returns-in_Some-name-in-Decided c = λ w k names stands.
    says_outcome w k c.args.effect c.args.lines.now.items c.tell_outcome.new.lines.items c.tell_outcome.result c.in-Decided.outcome
    c.in_Some-name-in-Decided.name c.in-Decided.is (sym (c.in_Some-name-in-Decided.ensures w k names stands)) (c.tell_outcome.ensures w k names stands)

pub returns-in_None-name-in-Decided : goal.returns-in_None-name-in-Decided
returns-in_None-name-in-Decided c = λ w k names stands.
    no_outcome w k c.args.effect c.args.lines.now.items c.in-Decided.outcome c.in-Decided.is (sym (c.in_None-name-in-Decided.ensures w k names stands))

pub returns-in-SubtransactionEnded : goal.returns-in-SubtransactionEnded
returns-in-SubtransactionEnded c = λ w k names stands.
    says_ended w k c.args.effect c.args.lines.now.items c.tell_ended.new.lines.items c.tell_ended.result c.in-SubtransactionEnded.branch
    c.in-SubtransactionEnded.committed c.branch-cast.result c.in-SubtransactionEnded.is (sym (c.branch-cast.ensures w k names stands)) c.tell_ended.ensures

pub returns-in_Some-name-in-Marked : goal.returns-in_Some-name-in-Marked
returns-in_Some-name-in-Marked c = λ w k names stands.
    says_marked w k c.args.effect c.args.lines.now.items c.tell_marked.new.lines.items c.tell_marked.result c.in-Marked.branch
    c.in_Some-name-in-Marked.name c.in-Marked.is (sym (c.in_Some-name-in-Marked.ensures w k names stands)) c.tell_marked.ensures

pub returns-in_None-name-in-Marked : goal.returns-in_None-name-in-Marked
returns-in_None-name-in-Marked c = λ w k names stands.
    no_mark w k c.args.effect c.args.lines.now.items c.in-Marked.branch c.in-Marked.is (sym (c.in_None-name-in-Marked.ensures w k names stands))

pub returns-in_Some-name-in-Doubted : goal.returns-in_Some-name-in-Doubted
returns-in_Some-name-in-Doubted c = λ w k names stands.
    says_doubt w k c.args.effect c.args.lines.now.items c.tell_doubted.new.lines.items c.tell_doubted.result
    c.in_Some-name-in-Doubted.name c.in-Doubted.is (sym (c.in_Some-name-in-Doubted.ensures w k names stands)) c.tell_doubted.ensures

pub returns-in_None-name-in-Doubted : goal.returns-in_None-name-in-Doubted
returns-in_None-name-in-Doubted c = λ w k names stands.
    no_doubt w k c.args.effect c.args.lines.now.items c.in-Doubted.is (sym (c.in_None-name-in-Doubted.ensures w k names stands))

pub returns-in_Some-transaction-in-Done : goal.returns-in_Some-transaction-in-Done
returns-in_Some-transaction-in-Done c = λ w k names stands.
    says_done w k c.args.effect c.args.lines.now.items c.tell_known-in_Some-transaction-in-Done.new.lines.items
    c.tell_known-in_Some-transaction-in-Done.result c.in_Some-transaction-in-Done.transaction c.in-Done.is (sym (c.in_Some-transaction-in-Done.ensures w k names stands))
    c.tell_known-in_Some-transaction-in-Done.ensures

pub returns-in_None-transaction-in-Done : goal.returns-in_None-transaction-in-Done
returns-in_None-transaction-in-Done c = λ w k names stands.
    no_done w k c.args.effect c.args.lines.now.items c.in-Done.is (sym (c.in_None-transaction-in-Done.ensures w k names stands))
