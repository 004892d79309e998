-- How much a stream of messages has at most (our profile).
use Rattle.std.specs.Prelude.{ℕ}

-- the octets of a part, its header included, of which one octet is still to come
abbrev pub partial_limit : ℕ
partial_limit = 65547

-- the octets for which a stream has memory in its buffer once it gave all that is whole
abbrev pub memory_limit : ℕ
memory_limit = 262188

-- the unfinished messages of a stream
abbrev pub unfinished_limit : ℕ
unfinished_limit = 8

-- the octets for which there is memory to join those of an unfinished message: twice as many as it may have
abbrev pub joined_memory_limit : ℕ
joined_memory_limit = 131072
