use Rattle.giop_frames.proofs.Walking.{profile_told}
use Rattle.giop_frames.proofs.walk.pass_only_profile.Goals as goal

pub returns : goal.returns
returns c = profile_told c.args.found.now c.args.reader.now c.read_tagged.new.reader c.in_ok-read_tagged.field-0.0 c.in_ok-read_tagged.field-0.1 c.in_ok-read_tagged.ensures
