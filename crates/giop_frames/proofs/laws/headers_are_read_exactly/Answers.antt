use Rattle.giop_frames.proofs.Further.{header_same, header_short, header_stays}
use Rattle.giop_frames.proofs.Headers.{header_found, header_long, header_only, header_small}
use Rattle.giop_frames.proofs.laws.headers_are_read_exactly.Goals as goal

pub returns : goal.returns
returns c = record {
  found = header_found;
  only = header_only;
  same = header_same;
  stays = header_stays;
  long = header_long;
  small = header_small;
  short = header_short;
}
