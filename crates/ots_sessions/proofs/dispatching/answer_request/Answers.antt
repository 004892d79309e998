use Rattle.ots_sessions.proofs.Calls.{id_of_reply}
use Rattle.ots_sessions.proofs.Unfit.{answered_foreign}
use Rattle.ots_sessions.proofs.dispatching.answer_request.Goals as goal

pub returns-in-Ok-clause-id : goal.returns-in-Ok-clause-id
returns-in-Ok-clause-id g c = id_of_reply c.args.id c.in_ok-answer.answer c.in-Ok.reply c.in-Ok.ensures.exact

pub returns-in-Err-BadParam-clause-reply : goal.returns-in-Err-BadParam-clause-reply
returns-in-Err-BadParam-clause-reply g c =
    answered_foreign g.S.Servant.finds g.S.Servant.answers c.args.id c.args.servant.now c.args.called.now
    c.in_ok-reply-in-Err-BadParam.reply c.answer_call.new.servant c.in_ok-answer.answer
    c.in_ok-answer.ensures.answer c.in-Err-BadParam.field-0 c.in-Err-BadParam.field-0-is c.in-Err-BadParam.ensures.refused
    c.in_ok-reply-in-Err-BadParam.ensures.reply
