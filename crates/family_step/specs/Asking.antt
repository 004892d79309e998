-- What a step of a family asks the journal, and what that answers (our profile).
use Rattle.std.specs.Prelude.{◌≡◌, ◌≤◌, ◌⊎◌, ℕ, Bool, true, false, ◌&&◌, ◌||◌, List, [], ◌∷◌, ◌++◌, map, filter, Option, Some, None, IfSome, IsTrue, is_some, if◌then◌else◌}
use Rattle.ots_model.specs.declared.completion.Doubted.{Doubted}
use Rattle.ots_model.specs.declared.completion.Doubted.TheVariants.{Counted, Damaged, Starved}
use Rattle.ots_model.specs.declared.completion.Stood.{Stood}
use Rattle.ots_model.specs.declared.completion.Stood.TheVariants as answers
use Rattle.ots_model.specs.declared.tree.Outward.{Outward}
use Rattle.ots_outside.specs.Disk.{DiskState}
use Rattle.ots_outside.specs.Source.{HasRisen}
use Rattle.resource_votes.specs.Ballots.{participants}
use Rattle.resource_votes.specs.History.{times}
use Rattle.two_phase.specs.Stages as stages
use Rattle.two_phase.specs.Stages.{Standing}
use Rattle.decision_journal.specs.Calls.{HasAppended, IsAfterDone, IsRefusedAppend}
use Rattle.decision_journal.specs.Layout.{FitsRegistrations}
use Rattle.decision_journal.specs.State.{JournalState}
use Rattle.decision_journal.specs.declared.journal.JournalFault.{JournalFault}
use Rattle.decision_journal.specs.declared.journal.JournalFault.TheVariants.{Full, BadHeader, BadRecord, Memory}
use Rattle.decision_journal.specs.declared.record.JournalRecord.{JournalRecord}
use Rattle.decision_journal.specs.declared.record.JournalRecord.TheVariants.{Done}
use Rattle.decision_journal.specs.declared.record.Registration.{Registration}
use Rattle.coordinator.specs.declared.event.Act.{Act}
use Rattle.coordinator.specs.declared.event.Act.TheVariants as acts
use Rattle.coordinator.specs.declared.event.Event.{Event}
use Rattle.coordinator.specs.declared.said.Entry.{Entry}
use Rattle.coordinator.specs.declared.said.StepAnswer.{StepAnswer}
use Rattle.coordinator.specs.Family.{Family, call_at, waiting_for}
use Rattle.coordinator.specs.Hearing.{named}
use Rattle.coordinator.specs.History.{kept_for}
use Rattle.coordinator.specs.Moves.{Moved, only}
use Rattle.coordinator.specs.NodeCalls.{answer_of}
use Rattle.coordinator.specs.Step.{Wanted, Appends, WritesDone, Rereads, family_step, hears_call, wanted}
use Rattle.family_rules.specs.Recording.{recorded}

-- ---- what is asked

-- the event tells that the journal was read again
abbrev pub is_reread : Act → Bool
is_reread (acts.Reread stands) = true
is_reread _ = false

-- the transaction whose call waits for the answer that an event brings
abbrev pub waits_for : Act → Family → Option ℕ
waits_for (acts.Answer n h) f = waiting_for f n
waits_for _ f = None

abbrev pub hearer : Event → Family → Option ℕ
hearer e f = if is_some (kept_for f.entries e.key) then None else waits_for e.act f

-- it is heard by that call
abbrev pub hears_act : Act → ℕ → Family → Moved
hears_act (acts.Answer n h) b f = hears_call (call_at f b) b n h f
hears_act _ b f = only f

-- a decision may be wanted once an answer is heard: it is the last vote, or a decision is wanted already
abbrev pub may_want : Standing → Bool
may_want s = stages.is_last_asked s || stages.wants_decision s

abbrev pub may_decide : Event → Family → Bool
may_decide e f = may_want f.completion && is_some (waits_for e.act f)

-- whom the decision record of its step may name
abbrev pub may_name : Event → Family → Option (List Registration)
may_name e f = if may_decide e f then Some (map recorded (participants 0 f.ballots)) else None

-- these were made ready for a record: each is there once, and fits
pub record AreReady (some : Option (List Registration)) (e : Event) (f : Family) : Type 0 where
  pub named : some ≡ may_name e f
  pub once : IfSome some (λ rs. (i : ℕ) → times i (map (λ (r : Registration). r.index) rs) ≤ 1)
  pub fits : IfSome some FitsRegistrations

-- those of them that take part and have voted commit are whom the decision record of a family names
pub record HaveVoters (rs : List Registration) (f : Family) : Type 0 where
  pub voters : filter (λ (r : Registration). stages.is_named f.completion r.index) rs ≡ named f.completion
  pub fits : FitsRegistrations rs

abbrev pub HasVoters : Option (List Registration) → Family → Type 0
HasVoters None f = ⊥
HasVoters (Some rs) f = HaveVoters rs f

-- ---- what is answered

-- why nobody knows whether a record stands, where the disk's count of faults was and is so
abbrev pub doubt_by : JournalFault → ℕ → ℕ → Doubted
doubt_by Memory before after = Starved
doubt_by (BadHeader place) before after = Damaged place
doubt_by (BadRecord place) before after = Damaged place
doubt_by _ before after = Counted before after

-- what a refusal of the journal says of a record
abbrev pub stood_by : JournalFault → ℕ → ℕ → Stood
stood_by (Full used need) before after = answers.Full used need
stood_by fault before after = answers.Unsure (doubt_by fault before after)

-- a record was refused
pub record IsRefused {D : Type 0} (told : D → Option DiskState) (faults : D → ℕ) (r : JournalRecord) (before after : JournalState D) (stood : Stood) : Type 0 where
  pub fault : JournalFault
  pub left : IsRefusedAppend told before r after fault
  pub stood_is : stood ≡ stood_by fault (faults before.disk) (faults after.disk)

-- the cause of a doubt, where the disk tells this after it, and its count of faults was and is so: the disk failed, it no longer
-- tells what it holds, or it may want memory
abbrev pub HasCause : Bool → Option DiskState → ℕ → ℕ → Doubted → Type 0
HasCause wants told before after (Counted was is) = HasRisen before after
HasCause wants told before after (Damaged place) = told ≡ None
HasCause wants told before after Starved = IsTrue wants

abbrev pub IsCaused : Bool → Option DiskState → ℕ → ℕ → Stood → Type 0
IsCaused wants told before after (answers.Unsure why) = HasCause wants told before after why
IsCaused wants told before after _ = Unit {0}

-- what the entry of a step says that the journal answered has its cause, where the step makes one
abbrev pub EntryIsCaused : Bool → Option DiskState → ℕ → ℕ → List Entry → List Entry → Type 0
EntryIsCaused wants told before after entries later =
    (entry : Entry) → later ≡ entries ++ entry ∷ [] → IfSome entry.stood (IsCaused wants told before after)

-- want of room is a fault of an append
abbrev pub is_full : JournalFault → Bool
is_full (Full used need) = true
is_full _ = false

-- the Done of the record at this place was refused, but not for want of room: its decision left some
pub record IsRefusedDone {D : Type 0} (told : D → Option DiskState) (faults : D → ℕ) (place : ℕ) (before after : JournalState D) (stood : Stood) : Type 0 where
  pub fault : JournalFault
  pub left : IsRefusedAppend told before (Done place) after fault
  pub stood_is : stood ≡ stood_by fault (faults before.disk) (faults after.disk)
  pub roomy : is_full fault ≡ false

-- it was appended, and stands at this place
pub record IsRecorded {D : Type 0} (told : D → Option DiskState) (r : JournalRecord) (before after : JournalState D) (stood : Stood) : Type 0 where
  pub place : ℕ
  pub appended : HasAppended told before r after place
  pub stood_is : stood ≡ answers.Stands place

-- the record at this place is done
pub record IsClosed {D : Type 0} (told : D → Option DiskState) (place : ℕ) (before after : JournalState D) (stood : Stood) : Type 0 where
  pub done : IsAfterDone told before after place
  pub stood_is : stood ≡ answers.Stands place

-- the journal was asked for this
abbrev pub IsAnswered : {D : Type 0} → (D → Option DiskState) → (D → ℕ) → Wanted → JournalState D → JournalState D → Stood → Type 0
IsAnswered told faults (Appends item) before after stood = IsRecorded told item before after stood ⊎ IsRefused told faults item before after stood
IsAnswered told faults (WritesDone place) before after stood = IsClosed told place before after stood ⊎ IsRefusedDone told faults place before after stood
IsAnswered told faults Rereads before after stood = ⊥

-- it was asked for what is wanted, and for nothing else
abbrev pub IsAsked : {D : Type 0} → (D → Option DiskState) → (D → ℕ) → Option Wanted → JournalState D → JournalState D → Option Stood → Type 0
IsAsked told faults None before after stood = (after ≡ before) × (stood ≡ None)
IsAsked told faults (Some asked) before after None = ⊥
IsAsked told faults (Some asked) before after (Some stood) = IsAnswered told faults asked before after stood

-- a step was made with an answer of the journal that has its cause
pub record HasCausedStep (wants : Bool) (told : Option DiskState) (before after : ℕ) (f : Family) (e : Event) (later : Family) : Type 0 where
  pub stood : Option Stood
  pub family_is : later ≡ (family_step f e stood).family
  pub caused : IfSome stood (IsCaused wants told before after)

-- a step was made, in which the journal was asked for what is wanted in it
pub record HasStepped {D : Type 0} (told : D → Option DiskState) (faults : D → ℕ) (f : Family) (e : Event) (before after : JournalState D)
    (later : Family) (answer : StepAnswer) (words more : List Outward) : Type 0 where
  pub stood : Option Stood
  pub asked : IsAsked told faults (wanted f e) before after stood
  pub family_is : later ≡ (family_step f e stood).family
  pub answer_is : answer ≡ answer_of f (family_step f e stood)
  pub words_are : more ≡ words ++ (family_step f e stood).words
