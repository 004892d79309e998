-- What a crash inside a write leaves of a disk, worked out behind the append (our profile).
use Rattle.std.specs.Prelude.{◌≡◌, ℕ, ◌+◌, ◌<◌, List, [], ◌∷◌, ◌++◌, drop, length, slice_range, take}
use Rattle.ots_outside.specs.Disk.{DiskState, at_first, written}
use Rattle.nodes_parts.specs.declared.disks.Appended.{Appended}

-- octets before a closed gate, and what stood behind it when the disk was loaded
abbrev pub closed_over : List ℕ → List ℕ → List ℕ
closed_over octets loaded = octets ++ 0 ∷ drop (length octets + 1) loaded

-- what the disk read before the append
abbrev pub reads_before : Appended → List ℕ
reads_before a = closed_over (take a.gates.last a.reads.now) a.loaded.now

-- the octets of the record behind its gate, and a closed gate
abbrev pub behind_last : Appended → List ℕ
behind_last a = slice_range a.reads.now (a.gates.last + 1) (a.gates.end + 1)

-- the disk behind the first write of the append
abbrev pub in_first : Appended → DiskState
in_first a = written (a.gates.last + 1) (behind_last a) (at_first (reads_before a))

-- and behind the second, which came after a sync
abbrev pub in_second : Appended → DiskState
in_second a = written a.gates.last (1 ∷ []) (at_first (in_first a).reads)

-- an append went through: the disk reads what its writes left
pub record HasGone (a : Appended) : Type 0 where
  pub gates : a.gates.last < a.gates.end
  pub within : a.gates.end < length a.reads.now
  pub reads : a.reads.now ≡ (in_second a).reads
