-- A completion of a tree of transactions, from its making on.
use Rattle.std.specs.Prelude.{◌≡◌, ℕ, ◌≤◌, ◌⊎◌, max, min, Bool, false, List, [], ◌∷◌, length, Option, Some, None}
use Rattle.ots_model.specs.Limits.{reference_limit}
use Rattle.ots_model.specs.declared.completion.CallNumber.{CallNumber}
use Rattle.ots_model.specs.declared.completion.Disposition.{Disposition}
use Rattle.ots_model.specs.declared.completion.Heard.{Heard}
use Rattle.ots_model.specs.declared.completion.Stood.{Stood}
use Rattle.ots_model.specs.declared.service.Join.{Join}
use Rattle.ots_model.specs.declared.service.Join.TheVariants as joins
use Rattle.ots_model.specs.declared.tree.Reason.{Reason}
use Rattle.ots_model.specs.Numbered.{Outcome}
use Rattle.ots_model.specs.declared.tree.Outward.{Outward}
use Rattle.resource_votes.specs.declared.registration.Registration.{Registration}
use Rattle.two_phase.specs.Course as course
use Rattle.two_phase.specs.Reports as reports
use Rattle.two_phase.specs.Course.{Course}

-- room for so many participants, whose references have at most so many octets, and for all words to them
pub record Room : Type 0 where
  pub places : ℕ
  pub octets : ℕ

abbrev pub no_room : Room
no_room = record { places = 0; octets = 0 }

-- it hasn't started, and has that room; or it is under way
pub data Standing : Type 0 where
  Waiting : (room : Room) → Standing
  Going : (c : Course) → Standing

-- it begins
abbrev pub started : List Registration → Bool → CallNumber → Bool → Standing
started participants asked first one_phase = Going (course.begun participants asked first one_phase)

-- it begins with a rollback from outside
abbrev pub started_rollback : List Registration → Bool → CallNumber → Bool → Reason → Standing
started_rollback participants asked first one_phase reason = Going (course.begun_rollback participants asked first one_phase reason)

-- how long the longest of their references is
abbrev pub longest : List Registration → ℕ
longest [] = 0
longest (r ∷ rs) = max (length r.to) (longest rs)

-- a room has place for these participants, and for their longest reference, of which no more than the limit counts
abbrev pub Holds : Room → List Registration → Type 0
Holds room participants = (length participants ≤ room.places) × (min (longest participants) reference_limit ≤ room.octets)

-- a room has place for so many participants, whose references have at most so many octets
abbrev pub HoldsFor : Room → ℕ → ℕ → Type 0
HoldsFor room participants octets = (participants ≤ room.places) × ((room.places ≡ 0) ⊎ (octets ≤ room.octets))

-- it hasn't started, and has room for these participants
abbrev pub HasRoom : Standing → List Registration → Type 0
HasRoom (Waiting room) participants = Holds room participants
HasRoom (Going c) participants = ⊥

-- it hasn't started, and has room for so many participants, whose references have at most so many octets; for nobody there is room anyway
abbrev pub HasRoomFor : Standing → ℕ → ℕ → Type 0
HasRoomFor (Waiting room) participants octets = HoldsFor room participants octets
HasRoomFor (Going c) participants octets = ⊥

-- it is under way
abbrev pub IsGoing : Standing → Type 0
IsGoing (Waiting room) = ⊥
IsGoing (Going c) = Unit {0}

-- room for so many participants, whose references have at most so many octets, was taken beside what there was
abbrev pub widened : ℕ → ℕ → Room → Room
widened participants octets room = record { places = max room.places participants; octets = max room.octets octets }

-- the same, where it hasn't started
abbrev pub after_reserve : ℕ → ℕ → Standing → Standing
after_reserve participants octets (Waiting room) = Waiting (widened participants octets room)
after_reserve participants octets (Going c) = Going c

-- from here on: what `Course` says of a completion under way
abbrev pub next_word : Standing → Option Outward
next_word (Waiting room) = None
next_word (Going c) = course.next_word c

abbrev pub after_next : Standing → Standing
after_next (Waiting room) = Waiting room
after_next (Going c) = Going (course.after_next c)

abbrev pub after_answer : CallNumber → Heard → Standing → Standing
after_answer n h (Waiting room) = Waiting room
after_answer n h (Going c) = Going (course.after_answer n h c)

abbrev pub wants_decision : Standing → Bool
wants_decision (Waiting room) = false
wants_decision (Going c) = course.wants_decision c

abbrev pub after_decided : Stood → Standing → Standing
after_decided stood (Waiting room) = Waiting room
after_decided stood (Going c) = Going (course.after_decided stood c)

abbrev pub is_doubtful : Standing → Bool
is_doubtful (Waiting room) = false
is_doubtful (Going c) = course.is_doubtful c

abbrev pub after_reread : Option ℕ → Standing → Standing
after_reread found (Waiting room) = Waiting room
after_reread found (Going c) = Going (course.after_reread found c)

abbrev pub after_rollback : Reason → Standing → Standing
after_rollback reason (Waiting room) = Waiting room
after_rollback reason (Going c) = Going (course.after_rollback reason c)

-- there is a single participant, which is to decide alone
abbrev pub decides_alone : Standing → Bool
decides_alone (Waiting room) = false
decides_alone (Going c) = course.decides_alone c

-- the number of the word that is out, or else of the next one
abbrev pub number : Standing → Option CallNumber
number (Waiting room) = None
number (Going c) = Some c.number

-- the registration whose vote the word that is out asks for
abbrev pub voter : Standing → Option ℕ
voter (Waiting room) = None
voter (Going c) = course.voter c

-- the word that is out is the last that asks
abbrev pub is_last_asked : Standing → Bool
is_last_asked (Waiting room) = false
is_last_asked (Going c) = course.is_last_asked c

-- nobody knew at some time whether the record stands
abbrev pub was_doubtful : Standing → Bool
was_doubtful (Waiting room) = false
was_doubtful (Going c) = course.is_unsure c.stood

-- the place at which the record stands
abbrev pub record_place : Standing → Option ℕ
record_place (Waiting room) = None
record_place (Going c) = course.record_place c.stood c.reread

abbrev pub outcome : Standing → Option Outcome
outcome (Waiting room) = None
outcome (Going c) = course.outcome c

abbrev pub is_named : Standing → ℕ → Bool
is_named (Waiting room) g = false
is_named (Going c) g = course.is_named c g

-- whether the client asked for reports of heuristic outcomes
abbrev pub asked : Standing → Bool
asked (Waiting room) = false
asked (Going c) = c.asked

-- from here on: what `Reports` says of a completion under way
abbrev pub dispositions : Standing → List Disposition
dispositions (Waiting room) = []
dispositions (Going c) = reports.dispositions c

abbrev pub root_join : Standing → Join
root_join (Waiting room) = joins.Nothing
root_join (Going c) = reports.root_join c

abbrev pub sub_join : Standing → Join
sub_join (Waiting room) = joins.Nothing
sub_join (Going c) = reports.sub_join c

abbrev pub all_completed : Standing → Bool
all_completed (Waiting room) = false
all_completed (Going c) = reports.all_completed c

abbrev pub is_settled : Standing → Bool
is_settled (Waiting room) = false
is_settled (Going c) = reports.is_settled c

abbrev pub pending_commits : Standing → List ℕ
pending_commits (Waiting room) = []
pending_commits (Going c) = reports.pending_commits c

abbrev pub pending_forgets : Standing → List ℕ
pending_forgets (Waiting room) = []
pending_forgets (Going c) = reports.pending_forgets c
