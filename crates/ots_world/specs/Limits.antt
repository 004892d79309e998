-- How much there may be of each thing in a script (our profile).
use Rattle.std.specs.Prelude.{ℕ}

-- how many octets a line has at most, its line feed not counted
abbrev pub line_limit : ℕ
line_limit = 65_536

-- how many messages one line delivers at most
abbrev pub flow_limit : ℕ
flow_limit = 1_000_000

-- how many octets the image of a crash has at most
abbrev pub image_limit : ℕ
image_limit = 30_000

-- how many messages a script sends at most
abbrev pub message_limit : ℕ
message_limit = 1_000_000
