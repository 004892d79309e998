-- What contracts see of the adapters over the network and the system's clock (our profile).
use Rattle.std.specs.Prelude.{ℕ}
use Rattle.ots_outside.specs.declared.tcp_link.TcpLink.{TcpLink}
use Rattle.ots_outside.specs.declared.tcp_door.TcpDoor.{TcpDoor}
use Rattle.ots_outside.specs.declared.system_clock.SystemClock.{SystemClock}

-- how many calls of a link have failed
abbrev pub tcp_faults : {R : Type 0} → TcpLink R → ℕ
tcp_faults link = link.faults

-- how many calls of a door have failed
abbrev pub door_faults : {R : Type 0} → TcpDoor R → ℕ
door_faults door = door.faults

-- how many connections it gave
abbrev pub door_given : {R : Type 0} → TcpDoor R → ℕ
door_given door = door.given

-- the greatest moment that the system's clock has told
abbrev pub clock_moment : {R : Type 0} → SystemClock R → ℕ
clock_moment clock = clock.moment
