-- Walking over the octets of a header as they come: what a walk knows of those that it has taken (our profile).
use Rattle.std.specs.Prelude.{◌≡◌, ◌≢◌, ℕ, ◌<◌, ◌≤◌, nat_eq, true, List, length, take, drop, slice_index, Option, None, IfSome, Result, Ok, Err}
use Rattle.std.specs.List.{starts_with}
use Rattle.giop_frames.specs.declared.fault.FrameFault.{FrameFault}
use Rattle.giop_frames.specs.declared.fault.FrameFault.TheVariants.{Memory, Short}
use Rattle.giop_frames.specs.declared.header_walk.HeaderWalk.{HeaderWalk}
use Rattle.giop_frames.specs.declared.layout.Version.{Version}
use Rattle.giop_frames.specs.Header.{header_at, magic, version_at}

-- the octets that a walk has taken
abbrev pub taken : HeaderWalk → List ℕ
taken w = take w.count w.octets

-- octets stand as the front of a header does, and behind its magic those of this version
pub record IsFront (versions : List Version) (octets : List ℕ) (version : Option Version) : Type 0 where
  pub marked : starts_with nat_eq magic (take 4 octets) ≡ true
  pub version_is : 4 < length octets → version_at versions (take 2 (drop 4 octets)) ≡ version
  pub known : 4 < length octets → version ≢ None
  pub typed : slice_index octets 7 ≤ 7

-- what a walk has taken is as the front of a header, or the whole header, which it then knows
pub record IsSound (versions : List Version) (w : HeaderWalk) : Type 0 where
  pub sized : length w.octets ≡ 12
  pub few : w.count ≤ 12
  pub front : IsFront versions (taken w) w.version
  pub whole : IfSome w.header (λ header. header_at versions (taken w) ≡ Ok header)
  pub partial : w.header ≡ None → w.count < 12

-- a fault for which octets are refused
abbrev pub IsRefusal : FrameFault → Type 0
IsRefusal fault = (fault ≢ Short) × (fault ≢ Memory)

-- the octets are as the front of a header, of the version that is told; or they are refused
abbrev pub Judges : List Version → List ℕ → Result (Option Version) FrameFault → Type 0
Judges versions octets (Ok version) = IsFront versions octets version
Judges versions octets (Err fault) = (header_at versions octets ≡ Err fault) × IsRefusal fault
