-- The limits of a family's history (our profile).
use Rattle.std.specs.Prelude.{ℕ}

-- how many entries there may be before a client's call, an ask of a participant, or a superior's word that changes nothing
abbrev pub call_limit : ℕ
call_limit = 12288

-- how many there may be before anything else
abbrev pub history_limit : ℕ
history_limit = 16384

-- how many families a node has at once: each has a slot of its own
abbrev pub slot_limit : ℕ
slot_limit = 256

-- the last of the slots, which are numbered from 0
abbrev pub last_slot : ℕ
last_slot = 255

-- how many families a node makes in one life at most: 2 ^ 48
abbrev pub generation_limit : ℕ
generation_limit = 281474976710656

-- the last moment that a clock tells
abbrev pub last_moment : ℕ
last_moment = 18446744073709551615
