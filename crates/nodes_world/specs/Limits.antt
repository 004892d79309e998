-- How much there may be of each thing in a world, and the numbers of a script's client and servers (our profile).
use Rattle.std.specs.Prelude.{ℕ}
pub use Rattle.ots_world.specs.Limits.{message_limit}
pub use Rattle.decision_journal.specs.Limits.{area_limit}

-- how many nodes and ends there are at most, together
abbrev pub seat_limit : ℕ
seat_limit = 64

-- the number of the client in the keys of its calls
abbrev pub script_client : ℕ
script_client = 1

-- the port at which each node and each end listens
abbrev pub script_port : ℕ
script_port = 1

-- the life of an end, as long as ends don't crash
abbrev pub only_life : ℕ
only_life = 1
