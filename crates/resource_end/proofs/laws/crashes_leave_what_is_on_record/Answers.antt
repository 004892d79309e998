use Rattle.resource_end.proofs.Leaving.{crashes_leave}
use Rattle.resource_end.proofs.laws.crashes_leave_what_is_on_record.Goals as goal

pub returns : goal.returns
returns g c = crashes_leave c.octets_stand_for_one_list.ensures g.D.Disk.told
