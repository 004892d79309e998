use Rattle.std.proofs.Common.{List, ap, ◌∙◌, arith}
use Rattle.giop_frames.specs.declared.message.ServiceContext.{ServiceContext}
use Rattle.ots_calls.specs.Writing.{service_context, size_of_contexts}
use Rattle.ots_calls.proofs.Sizes.{size_more}
use Rattle.ots_context.specs.Finding.{first_context}
use Rattle.ots_calls.proofs.Contexts.{not_first, then_first}
use Rattle.ots_calls.proofs.writing.push_retry.Goals as goal

pub returns-in_ok-push-clause-transaction : goal.returns-in_ok-push-clause-transaction
returns-in_ok-push-clause-transaction c =
    ap first_context c.in_ok-push.ensures.items ∙ not_first c.in_ok-bytes.bytes c.args.contexts.now.items

pub returns-in_ok-push-clause-retry : goal.returns-in_ok-push-clause-retry
returns-in_ok-push-clause-retry c =
    rw (c.in-Some.is, c.in_ok-push.ensures.items, then_first c.in_ok-bytes.bytes c.args.contexts.now.items c.requires.none) c.in_ok-bytes.ensures.retry

pub returns-in_ok-push-clause-short : goal.returns-in_ok-push-clause-short
returns-in_ok-push-clause-short c =
    let same = ap (λ (contexts : List ServiceContext). size_of_contexts contexts) c.in_ok-push.ensures.items in
    omega (arith, same, size_more c.args.contexts.now.items (service_context 1330926080 c.in_ok-bytes.bytes), c.in_ok-bytes.ensures.short)
