use Rattle.coordinator.specs.History.{has_room, limit_of}
use Rattle.service_node.proofs.Placed.{no_room, room_left}
use Rattle.service_node.proofs.applying.step_family.Goals as goal

pub returns-in-Err-History-clause-fault : goal.returns-in-Err-History-clause-fault
returns-in-Err-History-clause-fault g c =
    no_room (has_room c.args.family.now.family.entries c.args.event.now) c.in-Err-History.field-0 c.in-Err-History.field-0-0 c.in-Err-History.field-0-is
    c.in-Err-History.ensures.memory

pub returns-in-Err-Memory-clause-fault : goal.returns-in-Err-Memory-clause-fault
returns-in-Err-Memory-clause-fault g c =
    room_left (has_room c.args.family.now.family.entries c.args.event.now) c.in-Err-Memory.field-0 (limit_of c.args.event.now.act) c.in-Err-Memory.field-0-is
    c.in-Err-Memory.ensures.history
