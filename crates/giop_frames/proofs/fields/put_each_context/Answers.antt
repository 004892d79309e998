use Rattle.std.proofs.Common.{length, ap, arith}
use Rattle.std.proofs.lemmas.List.Sums.{sum_by_more}
use Rattle.giop_frames.specs.declared.message.ServiceContext.{ServiceContext}
use Rattle.giop_frames.specs.Layout.{context_values}
use Rattle.giop_frames.proofs.Putting.{put_more, put_two}
use Rattle.giop_frames.proofs.fields.put_each_context.Goals as goal

pub loop-context-preserved : goal.loop-context-preserved
loop-context-preserved c =
    let contexts = c.args.contexts.now in
    let i = c.loop-context.context-index in
    let one = c.context-item.result in
    let both = put_two c.loop-context.sink c.put.new.self c.put-in-loop-context.new.self one c.bytes.result.now c.bytes.ensures.same c.put.ensures.put c.put-in-loop-context.ensures.put in
    record {
      put = put_more context_values c.args.sink.now c.loop-context.sink c.put-in-loop-context.new.self contexts i one c.loop-context-test.true c.context-item.is c.loop-context.invariant.put both;
      most = omega (arith, c.loop-context.invariant.most, c.put.ensures.within, c.put-in-loop-context.ensures.within, ap length c.bytes.ensures.same, sum_by_more (λ (x : ServiceContext). length x.bytes) contexts i one c.loop-context-test.true, ap (λ (x : ServiceContext). length x.bytes) c.context-item.is);
    }
