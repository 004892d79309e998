use Rattle.std.proofs.Common.{refl, sym}
use Rattle.ots_sessions.proofs.Calls.{refused_is}
use Rattle.ots_sessions.proofs.dispatching.dispatch.Goals as goal

pub returns-in_ok-reply-in-Err-2-clause-reply : goal.returns-in_ok-reply-in-Err-2-clause-reply
returns-in_ok-reply-in-Err-2-clause-reply g c =
    refused_is g.S.Servant.finds g.S.Servant.answers c.args.servant.now c.args.request.now
    c.in-Err.fault c.in_ok-reply-in-Err-2.reply (c.if-not-is_key.ensures.key refl) c.in-Err.ensures.refused (sym c.if-is_memory.ensures) c.in_ok-reply-in-Err-2.ensures.reply
