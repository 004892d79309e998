-- References that differ in the numbers of their objects alone (our profile).
use Rattle.std.specs.Prelude.{ℕ, ◌-◌, List, ◌++◌, length, take, drop}
use Rattle.byteorder.specs.Endian.{big_bytes}
use Rattle.ior_refs.specs.declared.key.ObjectKey.{ObjectKey}

-- the key of the object with another number
abbrev pub numbered_as : ObjectKey → ℕ → ObjectKey
numbered_as key number = record key { generation = number }

-- the octets of a reference with another number
abbrev pub with_number : ℕ → List ℕ → List ℕ
with_number number octets =
    take (length octets - 16) octets ++ (big_bytes 8 number ++ drop (length octets - 8) octets)
