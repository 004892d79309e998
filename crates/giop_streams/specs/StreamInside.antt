-- How the code finds a part and an unfinished message, and what its calls do.
use Rattle.std.specs.Prelude.{◌≡◌, ℕ, ◌+◌, ◌≤◌, ◌<◌, ◌==◌, nat_lt, Bool, true, false, List, ◌++◌, length, take, drop, Option, Some, None, Result, Ok, Err, if◌then◌else◌}
use Rattle.std.specs.List.{position_or_len}
use Rattle.cdr_values.specs.declared.order.Order.{Order}
use Rattle.cdr_values.specs.declared.fault.CdrFault.TheVariants as cdr
use Rattle.cdr_values.specs.Value.{number_in}
use Rattle.giop_frames.specs.declared.fault.FrameFault.{FrameFault}
use Rattle.giop_frames.specs.declared.fault.FrameFault.TheVariants.{Body, Short, TooLarge}
use Rattle.giop_frames.specs.declared.header.Header.{Header}
use Rattle.giop_frames.specs.declared.header_walk.HeaderWalk.{HeaderWalk}
use Rattle.giop_frames.specs.declared.layout.Version.{Version}
use Rattle.giop_frames.specs.Limits.{size_limit}
use Rattle.giop_frames.specs.Header.{content_behind}
use Rattle.giop_frames.specs.HeaderWalk.{IsSound, taken}
use Rattle.giop_frames.specs.Content.{message_by}
use Rattle.giop_streams.specs.Stream.{Judgement, Unfinished, part_at, part_of, so_far, whole_by, without_id}

-- a whole part with this header stands in front
pub record IsInFront (versions : List Version) (header : Header) (octets : List ℕ) : Type 0 where
  pub part : part_at versions octets ≡ Ok (part_of header (content_behind header octets), drop (12 + header.size) octets)
  pub whole : 12 + header.size ≤ length octets
  pub few : header.size ≤ size_limit

-- a walk over a header has taken the octets in front, or some of them
pub record Follows (versions : List Version) (octets : List ℕ) (w : HeaderWalk) : Type 0 where
  pub sound : IsSound versions w
  pub within : w.count ≤ length octets
  pub front : taken w ≡ take w.count octets

-- a call found the header of the whole part in front, or less than a part
abbrev pub FindsPart : List Version → List ℕ → Option Header → Type 0
FindsPart versions octets None = part_at versions octets ≡ Err Short
FindsPart versions octets (Some header) = IsInFront versions header octets

-- a call read the request_id in front of a content, or there is none
abbrev pub ReadsId : Order → List ℕ → Result ℕ FrameFault → Type 0
ReadsId order content (Ok id) = (4 ≤ length content) × (id ≡ number_in order 4 (take 4 content))
ReadsId order content (Err fault) = (fault ≡ without_id) × (length content < 4)

-- a message may have the octets with more behind them, for which so much memory is too little. No octets need none.
abbrev pub WantsRoom : ℕ → List ℕ → List ℕ → Type 0
WantsRoom memory content octets =
    (length (content ++ octets) ≤ size_limit) × (0 < length octets) × (memory < length (content ++ octets))

-- a field is cut off
abbrev pub wants_octets : FrameFault → Bool
wants_octets (Body place (cdr.Short at)) = true
wants_octets fault = false

-- what the joined octets of a message whose last part hasn't come say; they have a limit
abbrev pub limited_so_far : Header → List ℕ → Judgement
limited_so_far header content =
    if nat_lt size_limit (length content) then Err (TooLarge (length content)) else so_far (message_by header content)

-- what they say once its last part has come
abbrev pub limited_whole : ℕ → Header → List ℕ → Judgement
limited_whole place header content =
    if nat_lt size_limit (length content) then Err (TooLarge (length content)) else whole_by place header content

-- the unfinished message of this request_id is at this index, the first one that has it
pub record IsAt (id : ℕ) (messages : List Unfinished) (index : ℕ) : Type 0 where
  pub within : index < length messages
  pub first : position_or_len (λ u. u.id == id) messages ≡ index
