-- What a call makes of a node and its journal (our profile).
use Rattle.std.specs.Prelude.{◌≡◌, ℕ, Bool, true, false, List, ◌++◌, slice_set, Option, Some, None, Result, Err}
use Rattle.std.specs.List.{list_any}
use Rattle.ior_refs.specs.declared.key.ObjectKey.{ObjectKey}
use Rattle.ots_model.specs.declared.completion.Stood.{Stood}
use Rattle.ots_model.specs.declared.completion.Stood.TheVariants as answers
use Rattle.ots_model.specs.declared.tree.Outward.{Outward}
use Rattle.ots_outside.specs.Disk.{DiskState}
use Rattle.decision_journal.specs.State.{JournalState}
use Rattle.decision_journal.specs.declared.journal.Standing.{Standing}
use Rattle.recovery_coord.specs.Held.{Recoveries, stands_at, without}
use Rattle.recovery_coord.specs.declared.held.Held.{Held}
use Rattle.coordinator.specs.declared.effect.Effect.{Effect}
use Rattle.coordinator.specs.declared.effect.Effect.TheVariants as effects
use Rattle.coordinator.specs.declared.event.Event.{Event}
use Rattle.coordinator.specs.declared.node.NodeFault.{NodeFault}
use Rattle.coordinator.specs.declared.node.NodeFault.TheVariants as faults
use Rattle.coordinator.specs.declared.said.StepAnswer.{StepAnswer}
use Rattle.coordinator.specs.Family.{Family}
use Rattle.coordinator.specs.History.{has_room}
use Rattle.coordinator.specs.Node.{Node, family_in}
use Rattle.coordinator.specs.NodeCalls.{answer_of, applies, call_wants, family_for, retold_answer}
use Rattle.coordinator.specs.Step.{Wanted, WritesDone, family_step, wanted}
use Rattle.family_step.specs.Asking.{IsAsked}
use Rattle.service_node.specs.Journaling.{IsCausedIn, kept_once, once_asked, records_take}
use Rattle.service_node.specs.NodeState.{NodeState}

-- the records that are held once this was asked: the one whose Done stands is held no more
abbrev pub let_go : Option Wanted → Option Stood → List Held → List Held
let_go (Some (WritesDone place)) (Some (answers.Stands at)) records = without place records
let_go asked stood records = records

-- a family has made its step; what stands in the journal then, and what is held
pub record HasSteppedIn {D : Type 0} (wants : Bool) (told : D → Option DiskState) (counts : D → ℕ) (f : Family) (e : Event) (before after : JournalState D) (held later : Recoveries)
    (g : Family) (answer : StepAnswer) (words more : List Outward) : Type 0 where
  pub stood : Option Stood
  pub asked : IsAsked told counts (wanted f e) before after stood
  pub caused : IsCausedIn wants told counts before after stood
  pub family_is : g ≡ (family_step f e stood).family
  pub answer_is : answer ≡ answer_of f (family_step f e stood)
  pub words_are : more ≡ words ++ (family_step f e stood).words
  pub held_is : later ≡ record held { records = kept_once (wanted f e) before.failed after.found (let_go (wanted f e) stood held.records) }

-- nothing happened in it
pub record IsUnmoved {D : Type 0} (f g : Family) (before after : JournalState D) (held later : Recoveries) (words more : List Outward) : Type 0 where
  pub family : g ≡ f
  pub journal : after ≡ before
  pub recovered : later ≡ held
  pub unsaid : more ≡ words

-- why it made none: its history has no room, or memory was wanted
abbrev pub IsStepFault : Family → Event → NodeFault → Type 0
IsStepFault f e faults.NoResources = has_room f.entries e ≡ false
IsStepFault f e faults.Memory = has_room f.entries e ≡ true
IsStepFault f e _ = ⊥

abbrev pub is_done : Effect → Bool
is_done effects.Done = true
is_done _ = false

-- the records without the one at the place where another stands
abbrev pub records_without : Option Stood → List Held → List Held
records_without (Some (answers.Stands place)) records = without place records
records_without _ records = records

-- where effects tell a Done, none stands any more at the place that the journal answered
abbrev pub IsGoneWhere : List Effect → Option Stood → List Standing → Type 0
IsGoneWhere effects stood standing =
    list_any is_done effects ≡ true → (place : ℕ) → stood ≡ Some (answers.Stands place) → stands_at place standing ≡ false

-- the family in a slot has made its step
pub record HasSteppedAt {D : Type 0} (wants : Bool) (told : D → Option DiskState) (counts : D → ℕ) (slot : ℕ) (e : Event) (families later : List (Option Family)) (before after : JournalState D)
    (held kept : Recoveries) (answer : StepAnswer) (words more : List Outward) : Type 0 where
  pub family : Family
  pub next : Family
  pub there : family_in families slot ≡ Some family
  pub placed : later ≡ slice_set families slot (Some next)
  pub key : next.key ≡ family.key
  pub fits : has_room family.entries e ≡ true
  pub stepped : HasSteppedIn wants told counts family e before after held kept next answer words more

-- it has made none
pub record IsUnmovedAt {D : Type 0} (slot : ℕ) (e : Event) (families later : List (Option Family)) (before after : JournalState D) (held kept : Recoveries)
    (fault : NodeFault) (words more : List Outward) : Type 0 where
  pub family : Family
  pub there : family_in families slot ≡ Some family
  pub cause : IsStepFault family e fault
  pub families_are : later ≡ families
  pub journal : after ≡ before
  pub recovered : kept ≡ held
  pub unsaid : more ≡ words

-- the node of the definition, without what is held no more
abbrev pub released : Option Wanted → Option Stood → Node → Node
released asked stood n = record n { recovered = let_go asked stood n.recovered }

-- a call is the definition's, with what the journal answered in it
pub record IsApplied {D : Type 0} (wants : Bool) (told : D → Option DiskState) (counts : D → ℕ) (k : ObjectKey) (e : Event) (before after : NodeState D)
    (said : Result StepAnswer NodeFault) (words more : List Outward) : Type 0 where
  pub stood : Option Stood
  pub asked : IsAsked told counts (call_wants k e before.node) before.journal after.journal stood
  pub caused : IsCausedIn wants told counts before.journal after.journal stood
  pub node_is : after.node ≡ once_asked (call_wants k e before.node) before.journal.failed after.journal.found
      (released (call_wants k e before.node) stood (applies k e stood before.node).node)
  pub answer_is : said ≡ (applies k e stood before.node).answer
  pub words_are : more ≡ words ++ (applies k e stood before.node).words

-- memory is wanted for the step of a family whose history has room, and where the records want it
abbrev pub takes_by : Option Family → Event → Node → Bool
takes_by (Some f) e n = has_room f.entries e
takes_by None e n = records_take (retold_answer e.act) n

abbrev pub call_takes : ObjectKey → Event → Node → Bool
call_takes k e n = takes_by (family_for k e n) e n

-- memory was wanted, where it is, and nothing happened
pub record IsUnapplied {D : Type 0} (k : ObjectKey) (e : Event) (before after : NodeState D) (said : Result StepAnswer NodeFault)
    (words more : List Outward) : Type 0 where
  pub wanted : call_takes k e before.node ≡ true
  pub same : after ≡ before
  pub fault : said ≡ Err faults.Memory
  pub unsaid : more ≡ words
