-- Our own otids, each made of four numbers (our profile).
use Rattle.std.specs.Prelude.{ℕ, pos, ◌==◌, Bool, ◌&&◌, List, ◌++◌, length, drop, IsTrue}
use Rattle.std.specs.Ordering.{int_eq}
use Rattle.byteorder.specs.Endian.{big_bytes, big_number}
use Rattle.otid_names.specs.Limits.{own_format, own_length, own_bqual}
use Rattle.otid_names.specs.Otid.{OtidParts}
use Rattle.otid_names.specs.declared.otid.OwnNumbers.{OwnNumbers}

-- an otid is our own: it has our formatID, as many octets, and such a branch qualifier
abbrev pub is_own : OtidParts → Bool
is_own o = int_eq o.format (pos own_format) && (length o.tid == own_length) && (o.bqual == own_bqual)

abbrev pub IsOwn : OtidParts → Type 0
IsOwn o = IsTrue (is_own o)

-- the octets of the four numbers, each big endian
abbrev pub tid_of : OwnNumbers → List ℕ
tid_of n = big_bytes 8 n.service ++ big_bytes 4 n.life ++ big_bytes 8 n.generation ++ big_bytes 4 n.branch

-- our own otid of four numbers
abbrev pub own : OwnNumbers → OtidParts
own n = record { format = pos own_format; bqual = own_bqual; tid = tid_of n }

-- the four numbers of a tid
abbrev pub numbers_in : List ℕ → OwnNumbers
numbers_in tid = record {
  service = big_number 8 tid;
  life = big_number 4 (drop 8 tid);
  generation = big_number 8 (drop 12 tid);
  branch = big_number 4 (drop 20 tid);
}
