use Rattle.giop_streams.proofs.FramedContent.{framed_found, framed_only}
use Rattle.giop_streams.proofs.laws.a_framed_message_is_its_content.Goals as goal

pub returns : goal.returns
returns c =
    let is = c.a_message_is_its_content.ensures in
    record { found = framed_found is.found is.start; only = framed_only is.only is.start }
