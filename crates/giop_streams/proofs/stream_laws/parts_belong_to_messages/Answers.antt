use Rattle.std.proofs.Common.{List, sym, subst, ap}
use Rattle.giop_streams.specs.Stream.{Unfinished, judged, offset}
use Rattle.giop_streams.proofs.Ending.{ended_once}
use Rattle.giop_streams.specs.declared.framed.Framed.{Framed}
use Rattle.giop_streams.specs.SeveralParts.{AreEnded}
use Rattle.giop_streams.proofs.Belonging.{all_ends, belongs_to_one, earliest_told, few, opens}
use Rattle.giop_streams.proofs.stream_laws.parts_belong_to_messages.Goals as goal

pub returns-clause-one : goal.returns-clause-one
returns-clause-one c versions octets rest messages newer older p s f = belongs_to_one newer older p s.taken f

pub returns-clause-ended : goal.returns-clause-ended
returns-clause-ended c versions octets rest parts messages s =
    let Ends : List Framed → Type 0 = λ ms. AreEnded parts ms in
    subst Ends (sym s.messages_are) (all_ends parts s.taken)

pub returns-clause-once : goal.returns-clause-once
returns-clause-once c versions octets rest messages since older first s begun = ended_once first older since begun

pub returns-clause-says : goal.returns-clause-says
returns-clause-says c versions octets rest parts messages s p = ap (λ (us : List Unfinished). judged us (offset parts) p) (opens parts s.taken)

pub returns-clause-unended : goal.returns-clause-unended
returns-clause-unended c versions octets rest parts messages s = opens parts s.taken

pub returns-clause-few : goal.returns-clause-few
returns-clause-few c versions octets rest parts messages s = few parts s.taken

pub returns-clause-earliest : goal.returns-clause-earliest
returns-clause-earliest c versions octets rest parts messages s = earliest_told parts s.taken
