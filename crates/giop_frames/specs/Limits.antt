-- How much a message has at most (our profile).
use Rattle.std.specs.Prelude.{ℕ}

-- the octets behind a header, and the joined octets of a message in parts
abbrev pub size_limit : ℕ
size_limit = 65536

-- the service contexts of a message
abbrev pub context_limit : ℕ
context_limit = 16

-- the octets of an object key
abbrev pub key_limit : ℕ
key_limit = 256

-- the profiles of a reference
abbrev pub profile_limit : ℕ
profile_limit = 65536
