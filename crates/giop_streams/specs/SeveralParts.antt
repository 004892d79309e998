-- Messages in several parts (CORBA, GIOP Message Formats, Fragment Message), said of all parts of a stream at once: no
-- list of what is unfinished is kept. As in the definition of streams the newest part stands first in a list.
use Rattle.std.specs.Prelude.{◌≡◌, ◌⊎◌, ℕ, ◌≤◌, ◌==◌, Bool, true, false, ◌&&◌, not, List, [], ◌∷◌, ◌++◌, length, drop, Some, Ok, if◌then◌else◌}
use Rattle.std.specs.List.{list_any}
use Rattle.giop_streams.specs.declared.framed.Framed.{Framed}
use Rattle.giop_frames.specs.declared.layout.Version.{Version}
use Rattle.giop_streams.specs.Limits.{unfinished_limit}
use Rattle.giop_frames.specs.Header.{is_fragment}
use Rattle.giop_streams.specs.Stream.{Part, Unfinished, Splits, earliest, id_of, judged, offset, says, unfinished, whole_by}

-- ---- parts and the messages that they are parts of

-- the first part of a message in several parts
abbrev pub is_first : Part → Bool
is_first p = not (is_fragment p.header.kind) && p.header.more

-- a Fragment of this request_id
abbrev pub is_fragment_of : ℕ → Part → Bool
is_fragment_of id p = is_fragment p.header.kind && (id_of p == id)

-- the last part of a message of this request_id
abbrev pub is_last_of : ℕ → Part → Bool
is_last_of id p = is_fragment_of id p && not p.header.more

-- a message in several parts was begun by this part and not ended by a part since
abbrev pub is_open : Part → List Part → Bool
is_open first since = is_first first && not (list_any (is_last_of (id_of first)) since)

-- A Fragment behind these older parts is a part of the message that this first part began. Between them there may be
-- further Fragments of that message, but not its last one, and parts of other messages.
pub record IsPartOf (fragment : Part) (older : List Part) (first : Part) (before between : List Part) : Type 0 where
  pub stand : older ≡ between ++ first ∷ before
  pub unended : is_open first between ≡ true
  pub numbered : id_of first ≡ id_of fragment

-- The last of a message's Fragments is among the parts since the first part, with some later ones and some between.
pub record IsEndedBy (first : Part) (older since later : List Part) (last : Part) (between : List Part) : Type 0 where
  pub stand : since ≡ later ++ last ∷ between
  pub is_last : is_last_of (id_of first) last ≡ true
  pub belongs : IsPartOf last (between ++ first ∷ older) first older between

-- the message that a first part, behind older parts, began was ended since, and by one Fragment alone
pub record IsEndedOnce (first : Part) (older since : List Part) : Type 0 where
  pub later : List Part
  pub last : Part
  pub between : List Part
  pub ended : IsEndedBy first older since later last between
  pub closed : is_open first since ≡ false
  pub alone :
      (l : List Part) (p : Part) (b : List Part) → IsEndedBy first older since l p b
      → (l ≡ later) × (p ≡ last) × (b ≡ between)

-- what the Fragments of this request_id have behind it, in their order
abbrev pub octets_of : ℕ → List Part → List ℕ
octets_of id [] = []
octets_of id (p ∷ older) = octets_of id older ++ (if is_fragment_of id p then drop 4 p.content else [])

-- the joined octets of a message: the content of its first part, and what its Fragments since have behind the request_id
abbrev pub joined_octets : Part → List Part → List ℕ
joined_octets first since = first.content ++ octets_of (id_of first) since

-- ---- whole messages

-- The message whose last part is a Fragment, behind these older parts: its joined octets are read as the header of its
-- first part says, in that part's byte order.
pub record EndsSeveral (last : Part) (older : List Part) (framed : Framed) : Type 0 where
  pub first : Part
  pub before : List Part
  pub between : List Part
  pub belongs : IsPartOf last older first before between
  pub reads : whole_by (offset before) first.header (joined_octets first (last ∷ between)) ≡ Ok (Some framed)

-- the message in one part, behind these older parts
abbrev pub IsAlone : Part → List Part → Framed → Type 0
IsAlone p older framed = whole_by (offset older) p.header p.content ≡ Ok (Some framed)

-- the message whose last part this is, behind these older parts
abbrev pub EndsMessage : Part → List Part → Framed → Type 0
EndsMessage p older framed =
    ((is_fragment p.header.kind ≡ false) × IsAlone p older framed)
    ⊎ ((is_fragment p.header.kind ≡ true) × EndsSeveral p older framed)

-- a list with one more message behind it, which this part ends
pub record EndsNext (p : Part) (older : List Part) (messages earlier : List Framed) : Type 0 where
  pub framed : Framed
  pub ends : EndsMessage p older framed
  pub messages_are : messages ≡ earlier ++ framed ∷ []

-- the messages of the parts, in the order of their last parts: one for each part without the bit "more fragments"
abbrev pub AreEnded : List Part → List Framed → Type 0
AreEnded [] messages = messages ≡ []
AreEnded (p ∷ older) messages = (earlier : List Framed) × AreEnded older earlier
    × (((p.header.more ≡ true) × (messages ≡ earlier)) ⊎ ((p.header.more ≡ false) × EndsNext p older messages earlier))

-- ---- messages whose last part isn't there

-- the message that this first part, behind older ones, began, with what came of it since
abbrev pub begun_at : Part → List Part → List Part → Unfinished
begun_at first before since = record {
  id = id_of first;
  place = offset before;
  header = first.header;
  content = joined_octets first since;
}

-- the messages that were begun and not ended, in the order of their first parts: each part is looked at with those since
abbrev pub open_messages : List Part → List Part → List Unfinished
open_messages since [] = []
open_messages since (p ∷ before) =
    open_messages (since ++ p ∷ []) before ++ (if is_open p since then begun_at p before since ∷ [] else [])

-- The earliest part whose message isn't ended: there is none open before it. Where no part's is, the place behind all.
pub record IsEarliest (parts : List Part) (place : ℕ) (first : Part) (before since : List Part) : Type 0 where
  pub stand : parts ≡ since ++ first ∷ before
  pub unended : is_open first since ≡ true
  pub none_before : open_messages (since ++ first ∷ []) before ≡ []
  pub place_is : place ≡ offset before

abbrev pub IsEarliestPlace : List Part → ℕ → Type 0
IsEarliestPlace parts place =
    ((first : Part) × (before : List Part) × (since : List Part) × IsEarliest parts place first before since)
    ⊎ ((open_messages [] parts ≡ []) × (place ≡ offset parts))

-- ---- what holds of each stream

-- each Fragment is a part of exactly one message
abbrev pub BelongsToOne : Type 0
BelongsToOne =
    (versions : List Version) (octets rest : List ℕ) (messages : List Framed) (newer older : List Part) (p : Part)
    → Splits versions octets (newer ++ p ∷ older) messages rest → is_fragment p.header.kind ≡ true
    → (first : Part) × (before : List Part) × (between : List Part) × IsPartOf p older first before between
    × ((f : Part) (b c : List Part) → IsPartOf p older f b c → (f ≡ first) × (b ≡ before) × (c ≡ between))

-- the message that a first part began is open, or ended by exactly one Fragment
abbrev pub EndsOnce : Type 0
EndsOnce =
    (versions : List Version) (octets rest : List ℕ) (messages : List Framed) (since older : List Part) (first : Part)
    → Splits versions octets (since ++ first ∷ older) messages rest → is_first first ≡ true
    → (is_open first since ≡ true) ⊎ IsEndedOnce first older since

-- what one more part says follows from the messages that were begun and not ended
abbrev pub SaysByOpen : Type 0
SaysByOpen =
    (versions : List Version) (octets rest : List ℕ) (parts : List Part) (messages : List Framed)
    → Splits versions octets parts messages rest
    → (p : Part) → says parts p ≡ judged (open_messages [] parts) (offset parts) p

-- the messages given are those whose last part is there, in the order of their last parts
abbrev pub GivesEnded : Type 0
GivesEnded =
    (versions : List Version) (octets rest : List ℕ) (parts : List Part) (messages : List Framed)
    → Splits versions octets parts messages rest
    → AreEnded parts messages

-- the unfinished messages are those that were begun and not ended, in the order of their first parts
abbrev pub KeepsOpen : Type 0
KeepsOpen =
    (versions : List Version) (octets rest : List ℕ) (parts : List Part) (messages : List Framed)
    → Splits versions octets parts messages rest
    → unfinished parts ≡ open_messages [] parts

-- there are few of them (our profile)
abbrev pub AreFew : Type 0
AreFew =
    (versions : List Version) (octets rest : List ℕ) (parts : List Part) (messages : List Framed)
    → Splits versions octets parts messages rest
    → length (open_messages [] parts) ≤ unfinished_limit

-- the place that a stream tells is that of the earliest of them
abbrev pub TellsEarliest : Type 0
TellsEarliest =
    (versions : List Version) (octets rest : List ℕ) (parts : List Part) (messages : List Framed)
    → Splits versions octets parts messages rest
    → IsEarliestPlace parts (earliest (offset parts) (unfinished parts))
