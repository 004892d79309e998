use Rattle.std.proofs.Common.{refl}
use Rattle.server_rows.proofs.rooms.play.Goals as goal

pub open-requires-clause-named : goal.open-requires-clause-named
open-requires-clause-named g c κs within = record { service_is = refl; life_is = refl }
