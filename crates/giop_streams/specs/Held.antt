-- What a stream holds back between two calls, of a stream of messages (CORBA, GIOP Message Formats, Fragment Message).
use Rattle.std.specs.Prelude.{◌≡◌, ◌≢◌, ◌⊎◌, ◌<◌, ◌≤◌, ◌+◌, ◌-◌, min, ℕ, Bool, true, false, List, [], ◌∷◌, ◌++◌, length, drop, Option, Some, None, IfSome, IsSome, IsSomeAnd, Result, Ok, Err, IfOk, OnErr, OnOk}
use Rattle.std.specs.List.{AllByRecursion}
use Rattle.giop_frames.specs.declared.fault.FrameFault.{FrameFault}
use Rattle.giop_frames.specs.declared.fault.FrameFault.TheVariants.{Short, Memory}
use Rattle.giop_streams.specs.declared.framed.Framed.{Framed}
use Rattle.giop_frames.specs.declared.header.Header.{Header}
use Rattle.giop_frames.specs.declared.layout.Version.{Version}
use Rattle.giop_frames.specs.declared.message.Message.{Message}
use Rattle.giop_frames.specs.Limits.{size_limit}
use Rattle.giop_streams.specs.Limits.{memory_limit, partial_limit, unfinished_limit}
use Rattle.giop_frames.specs.Fault.{IfRefused}
use Rattle.giop_frames.specs.Header.{is_fragment}
use Rattle.giop_frames.specs.Content.{GivesKept, message_by}
use Rattle.giop_streams.specs.Stream.{Part, Unfinished, IsRefused, IsStream, Splits, Refuses, earliest, id_of, numbered, offset, part_at, so_far, unfinished}

-- the versions that it admits, the unfinished messages, the octets of no whole part yet and their offset in the stream,
-- how many of these octets it has looked at, the refusal that is answered for good, how many octets its buffer has, for
-- how many it has memory, and for how many it keeps memory beside its buffer
pub record Held : Type 0 where
  pub versions : List Version
  pub unfinished : List Unfinished
  pub place : ℕ
  pub rest : List ℕ
  pub looked : ℕ
  pub refused : Option FrameFault
  pub kept : ℕ
  pub memory : ℕ
  pub spare : ℕ

-- for how many more octets it has memory
abbrev pub room : Held → ℕ
room h = h.memory - h.kept

-- what a stream of these versions holds of which nothing has come
abbrev pub nothing_of : List Version → Held
nothing_of versions = record {
  versions = versions;
  unfinished = [];
  place = 0;
  rest = [];
  looked = 0;
  refused = None;
  kept = 0;
  memory = 0;
  spare = 0;
}

-- the same behind a look at the header of the part at its place, as far as that has come
abbrev pub looking : Held → Held
looking h = record h { looked = min 12 (length h.rest) }

-- no unfinished message is longer than a message may be, and there are at most 8
pub record AreShort (messages : List Unfinished) : Type 0 where
  pub few : length messages ≤ unfinished_limit
  pub short : AllByRecursion (λ u. length u.content ≤ size_limit) messages

-- what a stream holds is bounded: its unfinished messages, and in its buffer the octets of parts that were taken, of
-- which it has at most as many as of no whole part; and the memory beside it (our profile)
pub record IsBounded (h : Held) : Type 0 where
  pub unfinished_are : AreShort h.unfinished
  pub held : length h.rest ≤ h.kept
  pub taken : h.kept ≤ length h.rest + length h.rest
  pub beside : h.spare ≤ partial_limit

-- Of a stream of these versions and octets these messages were given, and this is held back.
pub record Holds (versions : List Version) (octets : List ℕ) (messages : List Framed) (h : Held) : Type 0 where
  pub parts : List Part
  pub versions_are : h.versions ≡ versions
  pub splits : Splits versions octets parts messages h.rest
  pub unfinished_are : h.unfinished ≡ unfinished parts
  pub place_is : h.place ≡ offset parts
  pub refused : IfSome h.refused (Refuses versions parts h.rest)

-- the offset of the earliest message that isn't given; after a refusal, of the part that is refused
abbrev pub place_by : ℕ → Option FrameFault → List Unfinished → ℕ
place_by place (Some fault) messages = place
place_by place None messages = earliest place messages

abbrev pub place_of : Held → ℕ
place_of h = place_by h.place h.refused h.unfinished

-- octets are held that were not given as a message yet
abbrev pub IsUnfinished : Held → Type 0
IsUnfinished h = (h.unfinished ≢ []) ⊎ (h.rest ≢ [])

-- these octets came to a stream
abbrev pub HasCome : List ℕ → Held → Held → Type 0
HasCome piece old new =
    (versions : List Version) (octets : List ℕ) (messages : List Framed) → Holds versions octets messages old
    → Holds versions (octets ++ piece) messages new

-- a stream gave this message, with what the header of its first part says
abbrev pub HasGivenFramed : Framed → Held → Held → Type 0
HasGivenFramed framed old new =
    (versions : List Version) (octets : List ℕ) (messages : List Framed) → Holds versions octets messages old
    → Holds versions octets (messages ++ framed ∷ []) new

-- a stream gave this message
abbrev pub HasGiven : Message → Held → Held → Type 0
HasGiven m old new = (framed : Framed) × (framed.message ≡ m) × HasGivenFramed framed old new

-- a stream gave no message, and lost nothing
abbrev pub HasKept : Held → Held → Type 0
HasKept old new = (versions : List Version) (octets : List ℕ) (messages : List Framed) → Holds versions octets messages old
    → Holds versions octets messages new

-- a stream gave no message, since there is none but what it gave
abbrev pub HasGivenAll : Held → Held → Type 0
HasGivenAll old new =
    (versions : List Version) (octets : List ℕ) (messages : List Framed) → Holds versions octets messages old
    → Holds versions octets messages new × IsStream versions messages new.rest octets

-- the part at a stream's place is refused
abbrev pub IsRefusedAtPlace : Held → Held → FrameFault → Type 0
IsRefusedAtPlace old new fault =
    (versions : List Version) (octets : List ℕ) (messages : List Framed) → Holds versions octets messages old
    → IsRefused versions messages new.place fault octets

-- memory may be wanted to join octets with those of a message: there are some, and not too many in all
abbrev pub MayJoin : List ℕ → List ℕ → Type 0
MayJoin content octets = (length (content ++ octets) ≤ size_limit) × (0 < length octets)

-- memory may be wanted to end a message by octets: to join them, or for what the message keeps
abbrev pub MayEnd : Header → List ℕ → List ℕ → Type 0
MayEnd header content octets =
    (length (content ++ octets) ≤ size_limit) × ((0 < length octets) ⊎ GivesKept (message_by header (content ++ octets)))

-- memory may be wanted for the octets of a Fragment of this message, behind which more of them come or not
abbrev pub MayGoOn : Bool → List ℕ → Unfinished → Type 0
MayGoOn true octets first = MayJoin first.content octets
MayGoOn false octets first = MayEnd first.header first.content octets

-- beside these unfinished messages memory may be wanted for this part: for a message in one part in which no fault is
-- found, and which keeps something; for a first part whose request_id is free, for whose message there is room, and in
-- which no fault is found; and for a Fragment of a message
pub record MayWantMemory (messages : List Unfinished) (p : Part) : Type 0 where
  pub whole : is_fragment p.header.kind ≡ false → p.header.more ≡ false → GivesKept (message_by p.header p.content)
  pub room : is_fragment p.header.kind ≡ false → p.header.more ≡ true → length messages < unfinished_limit
  pub free : is_fragment p.header.kind ≡ false → p.header.more ≡ true → numbered (id_of p) messages ≡ None
  pub sound : is_fragment p.header.kind ≡ false → p.header.more ≡ true → so_far (message_by p.header p.content) ≡ Ok None
  pub goes_on : is_fragment p.header.kind ≡ true → IsSomeAnd (numbered (id_of p) messages) (MayGoOn p.header.more (drop 4 p.content))

-- memory may be wanted for the whole part at a stream's place
abbrev pub WantsMemory : Held → Type 0
WantsMemory h = (p : Part) × (behind : List ℕ) × (part_at h.versions h.rest ≡ Ok (p, behind)) × MayWantMemory h.unfinished p

-- A call asked for the next message: it was given so, or there is none, or a part is refused. A refusal is answered for
-- good, and loses nothing. Want of memory is answered only where memory may be wanted. Where there is none, all that is
-- there of a header was looked at. Its buffer grows in no way; memory is given back where there is none and it was more
-- than the limit, and then down to that.
pub record GivesNext {X : Type 0} (Gave : X → Held → Held → Type 0) (result : Result (Option X) FrameFault)
    (old new : Held) : Type 0 where
  pub message : IfOk result (λ found. IfSome found (λ m. Gave m old new))
  pub nothing : result ≡ Ok None → HasGivenAll old new
  pub refused : IfRefused result (IsRefusedAtPlace old new)
  pub keeps : OnErr result (HasKept old new)
  pub memory : old.refused ≡ None → result ≡ Err Memory → WantsMemory new
  pub remembered : IfRefused result (λ fault. new.refused ≡ Some fault)
  pub again : IfSome old.refused (λ fault. (result ≡ Err fault) × (new ≡ old))
  pub accepts : OnOk result (new.refused ≡ None)
  pub partial : result ≡ Ok None → part_at new.versions new.rest ≡ Err Short
  pub shorter : IfOk result (λ found. IsSome found → length new.rest < length old.rest)
  pub looked : result ≡ Ok None → new.looked ≡ min 12 (length new.rest)
  pub kept : new.kept ≤ old.kept
  pub given_back : result ≡ Ok None → (new.memory ≤ memory_limit) × (new.spare ≡ 0)
  pub stays : (result ≢ Ok None) ⊎ (old.memory ≤ memory_limit) → new.memory ≡ old.memory
