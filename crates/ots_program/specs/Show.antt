-- What `ots show` answers, and what its sink has taken (our profile).
use Rattle.std.specs.Prelude.{◌≡◌, ◌⊎◌, ℕ, List, ◌++◌, take, Option, Some, IfSome}
use Rattle.giop_frames.specs.declared.fault.FrameFault.{FrameFault}
use Rattle.giop_frames.specs.declared.fault.FrameFault.TheVariants.{Short}
use Rattle.giop_streams.specs.declared.framed.Framed.{Framed}
use Rattle.giop_frames.specs.Header.{profile_versions}
use Rattle.giop_streams.specs.Stream.{IsBegun, IsCut, IsRefused, IsWhole}
use Rattle.ots_program.specs.declared.status.Status.{Status}
use Rattle.ots_program.specs.declared.status.Status.TheVariants as statuses
use Rattle.ots_program.specs.MessageLine.{message_lines}

-- a status of a show
abbrev pub OfShow : Status → Type 0
OfShow statuses.Done = Unit {0}
OfShow statuses.ReadFault = Unit {0}
OfShow statuses.WriteFault = Unit {0}
OfShow (statuses.BadMessage place fault) = Unit {0}
OfShow statuses.Memory = Unit {0}
OfShow _ = ⊥

-- behind these messages there is no further one: a part is refused, or the octets end inside a message
abbrev pub EndsBadly : List Framed → ℕ → FrameFault → List ℕ → Type 0
EndsBadly messages place fault octets =
    IsRefused profile_versions messages place fault octets ⊎ ((fault ≡ Short) × IsCut profile_versions messages place octets)

-- how a show of the octets ends, by its status, behind the messages whose lines were written
abbrev pub Ends : Status → List Framed → List ℕ → Type 0
Ends statuses.Done messages octets = IsWhole profile_versions messages octets
Ends (statuses.BadMessage place fault) messages octets = EndsBadly messages place fault octets
Ends _ messages octets = IsBegun profile_versions messages octets

-- the lines of these messages went out, whole; or, where writing failed, from the front
abbrev pub WritesMessageLines : Status → List Framed → List ℕ → Option (List ℕ) → Type 0
WritesMessageLines statuses.WriteFault messages before after =
    (n : ℕ) × (after ≡ Some (before ++ take n (message_lines messages)))
WritesMessageLines _ messages before after = after ≡ Some (before ++ message_lines messages)

-- a show of these octets with this status: it ended so behind some messages, whose lines went out, where the sink tells
-- what it has taken
pub record ShowsOctets (status : Status) (octets : List ℕ) (before after : Option (List ℕ)) : Type 0 where
  pub messages : List Framed
  pub ends : Ends status messages octets
  pub writes : IfSome before (λ taken. WritesMessageLines status messages taken after)

-- A show with this status: the source had these octets left, and the sink had taken the octets before and has taken
-- those after.
pub record Shows (status : Status) (left before after : Option (List ℕ)) : Type 0 where
  -- no other command's status is answered
  pub of_show : OfShow status
  -- where the source tells its octets, the show went up to their end or to the first fault, and wrote the lines of their
  -- messages
  pub shows : IfSome left (λ octets. ShowsOctets status octets before after)
