-- What is done to a disk between two calls of its owner, and what a crash inside one of its writes leaves (our profile).
use Rattle.std.specs.Prelude.{ℕ, ◌+◌, ◌-◌, ◌&&◌, ◌||◌, Bool, true, false, nat_le, nat_lt, List, [], ◌∷◌, length, Option, Some, None, if◌then◌else◌}
use Rattle.ots_outside.specs.Disk.{DiskState, Write, written, synced}
use Rattle.ots_world.specs.declared.script.Image.{Image}
use Rattle.ots_world.specs.declared.script.Image.TheVariants as images

-- one thing that is done to a disk
pub data Stroke : Type 0 where
  Writes : (place : ℕ) (octets : List ℕ) → Stroke
  Syncs : Stroke

-- a crash inside a write: inside which one from now, counted from 1, and what it leaves
pub record Stop : Type 0 where
  pub write : ℕ
  pub image : Image

-- ---- what a crash leaves

-- one of these writes has an octet at this place
abbrev pub is_written : List Write → ℕ → Bool
is_written [] place = false
is_written (w ∷ others) place = (nat_le w.place place && nat_lt place (w.place + length w.octets)) || is_written others place

-- what stands at this place isn't synced: it was written since the last sync, or stands past the old end
abbrev pub is_unsynced : DiskState → ℕ → Bool
is_unsynced disk place = is_written disk.present.writes place || nat_le (length disk.present.synced) place

-- the octets that come next, where these are left: all of them come over and over
abbrev pub left_over : List ℕ → List ℕ → List ℕ
left_over all [] = all
left_over all (octet ∷ others) = octet ∷ others

-- the first of these stands in place of an octet, and the others are left
abbrev pub with_first : List ℕ → (List ℕ → List ℕ) → ℕ → List ℕ
with_first [] next octet = octet ∷ next []
with_first (first ∷ others) next octet = first ∷ next others

-- an octet that isn't synced gives way to the next of those that are given, another one stays
abbrev pub dealt : Bool → (List ℕ → List ℕ) → List ℕ → List ℕ → ℕ → List ℕ
dealt true next all left octet = with_first (left_over all left) next octet
dealt false next all left octet = octet ∷ next left

-- octets from a place on, where in place of each that isn't synced stands the next of those that are given
unfoldable pub filled : (ℕ → Bool) → List ℕ → List ℕ → ℕ → List ℕ → List ℕ
filled unsynced all left place [] = []
filled unsynced all left place (octet ∷ others) =
    dealt (unsynced place) (λ (rest : List ℕ). filled unsynced all rest (place + 1) others) all left octet

-- what a crash leaves inside the write that the disk has just got: what stood at the last sync; or what was written; or, at
-- each place that isn't synced, these octets in rising order of place
unfoldable pub left_by : Image → DiskState → List ℕ
left_by images.Old disk = disk.present.synced
left_by images.New disk = disk.reads
left_by (images.Octets octets) disk = filled (is_unsynced disk) octets [] 0 disk.reads

-- ---- strokes, one after another

-- what comes of some strokes: all were made, and this is the disk, and the stop that is still to come; or a crash left these octets
pub data Struck : Type 0 where
  Whole : (disk : DiskState) (stop : Option Stop) → Struck
  Broken : (image : List ℕ) → Struck

-- a write of a disk that isn't to stop, or at a later one, goes through
abbrev pub strikes_write : (DiskState → Option Stop → Struck) → DiskState → Option Stop → Struck
strikes_write next disk None = next disk None
strikes_write next disk (Some s) =
    if nat_le s.write 1 then Broken (left_by s.image disk) else next disk (Some (record s { write = s.write - 1 }))

-- one stroke, and then the others
abbrev pub strikes_one : (DiskState → Option Stop → Struck) → Stroke → DiskState → Option Stop → Struck
strikes_one next (Writes place octets) disk stop = strikes_write next (written place octets disk) stop
strikes_one next Syncs disk stop = next (synced disk) stop

unfoldable pub strikes : List Stroke → DiskState → Option Stop → Struck
strikes [] disk stop = Whole disk stop
strikes (s ∷ others) disk stop = strikes_one (strikes others) s disk stop
