-- Laws on disks (our profile).
use Rattle.std.specs.Prelude.{ℕ, ◌≤◌, List, length}
use Rattle.ots_outside.specs.Disk.{DiskState, IsImage, written}

-- a disk that reads one of its images reads one of them after a write that leaves no gap
abbrev pub WritesReadImages : Type 0
WritesReadImages = (disk : DiskState) (place : ℕ) (octets : List ℕ) → place ≤ length disk.reads → IsImage disk.present disk.reads
    → IsImage (written place octets disk).present (written place octets disk).reads
