-- What a disk reads, and what a crash may leave of it (our profile).
use Rattle.std.specs.Prelude.{◌≡◌, ℕ, ◌<◌, ◌≤◌, ◌+◌, ◌⊎◌, List, [], ◌∷◌, ◌++◌, length, max, take, drop, slice_index, Option, Some, None, IfSome}

-- octets that were written from a place on
pub record Write : Type 0 where
  pub place : ℕ
  pub octets : List ℕ

-- a moment of a disk: what stood at the last sync that succeeded, and what was written since, newest first
pub record Moment : Type 0 where
  pub synced : List ℕ
  pub writes : List Write

-- one of these writes has an octet at this place
abbrev pub IsWritten : List Write → ℕ → Type 0
IsWritten [] i = ⊥
IsWritten (write ∷ writes) i = ((write.place ≤ i) × (i < write.place + length write.octets)) ⊎ IsWritten writes i

-- how long the octets are after these writes
abbrev pub length_after : List Write → ℕ → ℕ
length_after [] n = n
length_after (write ∷ writes) n = max (write.place + length write.octets) (length_after writes n)

-- what a crash at this moment may leave. Places that were written since the last sync, and those past the old end, may hold
-- anything. The length is any from the old to the new. All other places are as they were
pub record IsImage (moment : Moment) (image : List ℕ) : Type 0 where
  pub no_shorter : length moment.synced ≤ length image
  pub no_longer : length image ≤ length_after moment.writes (length moment.synced)
  pub kept : (i : ℕ) → i < length moment.synced → (IsWritten moment.writes i → ⊥)
      → slice_index image i ≡ slice_index moment.synced i

-- a disk: what it reads, the moment now, and the earlier moments, newest first
pub record DiskState : Type 0 where
  pub reads : List ℕ
  pub present : Moment
  pub earlier : List Moment

-- all moments of a disk, newest first
abbrev pub moments : DiskState → List Moment
moments disk = disk.present ∷ disk.earlier

-- a disk of these octets, all of them synced, at its first moment
abbrev pub at_first : List ℕ → DiskState
at_first octets = record { reads = octets; present = record { synced = octets; writes = [] }; earlier = [] }

-- old with these octets from a place on
abbrev pub overwritten : List ℕ → ℕ → List ℕ → List ℕ
overwritten old place octets = take place old ++ octets ++ drop (place + length octets) old

-- a disk after these octets were written from a place on
abbrev pub written : ℕ → List ℕ → DiskState → DiskState
written place octets disk = record {
  reads = overwritten disk.reads place octets;
  present = record {
    synced = disk.present.synced;
    writes = record { place = place; octets = octets } ∷ disk.present.writes;
  };
  earlier = moments disk;
}

-- a disk after a sync
abbrev pub synced : DiskState → DiskState
synced disk = record { reads = disk.reads; present = record { synced = disk.reads; writes = [] }; earlier = moments disk }

-- a disk after a refused call that would have left it as done: the call came to a moment, or it didn't
pub record IsAfterRefusal (before done after : DiskState) : Type 0 where
  pub moments : (moments after ≡ moments before) ⊎ (moments after ≡ moments done)
  pub image : IsImage after.present after.reads

-- a disk that told its state before a call tells it after, and the two stand in this relation
abbrev pub Tells : Option DiskState → Option DiskState → (DiskState → DiskState → Type 0) → Type 0
Tells None None R = Unit {0}
Tells None (Some after) R = ⊥
Tells (Some before) None R = ⊥
Tells (Some before) (Some after) R = R before after

-- where a disk tells its state, it reads one of its images
abbrev pub ReadsImage : Option DiskState → Type 0
ReadsImage told = IfSome told (λ disk. IsImage disk.present disk.reads)

-- a crash at this moment leaves octets that have P, whichever it leaves
abbrev pub LeavesOnly : (List ℕ → Type 0) → Moment → Type 0
LeavesOnly P moment = (image : List ℕ) → IsImage moment image → P image

-- the same of each of these moments
abbrev pub EachLeavesOnly : (List ℕ → Type 0) → List Moment → Type 0
EachLeavesOnly P [] = Unit {0}
EachLeavesOnly P (moment ∷ moments) = LeavesOnly P moment × EachLeavesOnly P moments

-- a crash at any moment from the start of a run of calls to its end leaves octets that have P
pub record LeavesOnlySince (P : List ℕ → Type 0) (start end : DiskState) : Type 0 where
  pub more : List Moment
  pub moments : moments end ≡ more ++ moments start
  pub at_start : LeavesOnly P start.present
  pub later : EachLeavesOnly P more
