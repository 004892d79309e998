use Rattle.ots_outside.proofs.Disks.{IsImage-written}
use Rattle.ots_outside.proofs.laws.writes_read_images.Goals as goal

pub returns : goal.returns
returns c = IsImage-written
