use Rattle.std.proofs.Common.{sym, ◌∙◌}
use Rattle.giop_frames.specs.Content.{message_by}
use Rattle.giop_streams.proofs.SoFar.{message_fails, so_far_fails, so_far_wants, so_far_done}
use Rattle.giop_streams.proofs.unfinished.walk_so_far.Goals as goal

pub returns-in-Err-clause-refused : goal.returns-in-Err-clause-refused
returns-in-Err-clause-refused c =
    let h = c.args.header in
    let octets = c.args.content.now in
    let fault = c.in-Err.fault in
    so_far_fails (message_by h octets) fault (message_fails h octets fault c.in-Err.ensures.fault) (sym c.wants_octets.ensures ∙ c.if-not-wants_octets.true)

pub returns-in-Err-clause-memory : goal.returns-in-Err-clause-memory
returns-in-Err-clause-memory c e =
    let near = rw c.in-Err.ensures.fault at c.in-Err.ensures.far.0 in
    rw e at near

pub returns-in_default-clause-says : goal.returns-in_default-clause-says
returns-in_default-clause-says c =
    let h = c.args.header in
    let octets = c.args.content.now in
    let fault = c.in-Err.fault in
    so_far_wants (message_by h octets) fault (message_fails h octets fault c.in-Err.ensures.fault) (sym c.wants_octets.ensures ∙ c.if-not-wants_octets.false)

pub returns-in_default-2-clause-says : goal.returns-in_default-2-clause-says
returns-in_default-2-clause-says c =
    so_far_done c.args.header c.args.content.now c.requires.first c.in_default.ensures.whole
