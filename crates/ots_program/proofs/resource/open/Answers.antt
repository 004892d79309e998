use Rattle.std.proofs.Common.{◌≡◌, subst}
use Rattle.ots_outside.specs.Source.{HasRisen}
use Rattle.ots_outside.specs.Spawning.{refused, started}
use Rattle.ots_program.specs.Serve.{HasServed}
use Rattle.ots_program.specs.declared.status.Status.TheVariants.{Done, DoorFault, WriteFault}
use Rattle.ots_program.proofs.resource.open.Goals as goal

pub returns-clause-door_fault : goal.returns-clause-door_fault
returns-clause-door_fault g c =
    subst (λ devices. c.attend.result ≡ DoorFault → HasRisen (g.O.Door.faults devices.door) (g.O.Door.faults c.attend.new.devices.door))
    c.take_workers-links.ensures.others c.attend.ensures.door_fault

pub returns-clause-write_fault : goal.returns-clause-write_fault
returns-clause-write_fault g c =
    subst (λ devices. c.attend.result ≡ WriteFault → HasRisen (g.K.Sink.faults devices.sink) (g.K.Sink.faults c.attend.new.devices.sink))
    c.take_workers-links.ensures.others c.attend.ensures.write_fault

pub returns-clause-done : goal.returns-clause-done
returns-clause-done g c =
    subst (λ devices. c.attend.result ≡ Done → HasServed (g.O.Door.ended c.attend.new.devices.door)
    (g.O.Door.given devices.door) (g.O.Door.given c.attend.new.devices.door)
    (started devices.spawner) (started c.attend.new.devices.spawner)
    (refused devices.spawner) (refused c.attend.new.devices.spawner))
    c.take_workers-links.ensures.others c.attend.ensures.done
