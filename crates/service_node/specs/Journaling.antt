-- What an answer to a word that was told again asks of the journal, and what that makes of a node (our profile).
use Rattle.std.specs.Prelude.{◌≡◌, ◌⊎◌, ℕ, Bool, true, false, List, filter, Option, Some, None, IfSome, Result, Err, if◌then◌else◌}
use Rattle.std.specs.List.{list_any}
use Rattle.std.specs.Option.{option_map}
use Rattle.ots_model.specs.declared.completion.Stood.{Stood}
use Rattle.ots_outside.specs.Disk.{DiskState}
use Rattle.decision_journal.specs.Journal.{Found, is_decision_at}
use Rattle.decision_journal.specs.State.{JournalState}
use Rattle.recovery_coord.specs.Held.{Recoveries, is_held}
use Rattle.recovery_coord.specs.declared.held.Held.{Held}
use Rattle.recovery_coord.specs.Hearing.{completed}
use Rattle.coordinator.specs.declared.effect.Effect.{Effect}
use Rattle.coordinator.specs.declared.node.NodeFault.{NodeFault}
use Rattle.coordinator.specs.declared.node.NodeFault.TheVariants as faults
use Rattle.coordinator.specs.declared.said.StepAnswer.{StepAnswer}
use Rattle.coordinator.specs.Node.{Node, life}
use Rattle.coordinator.specs.NodeCalls.{Applied, RetoldAnswer, done_told, records_with}
use Rattle.coordinator.specs.Step.{Wanted, WritesDone}
use Rattle.family_step.specs.Asking.{IsAsked, IsCaused}
use Rattle.service_node.specs.NodeState.{NodeState}

-- the decision or prepared record of one that is held stands
abbrev pub still_stands : Found → Held → Bool
still_stands found r = list_any (is_decision_at r.place) found.standing

-- where the journal was asked and had to be read again, what stands no more is held no more
abbrev pub kept_after : Bool → Found → List Held → List Held
kept_after failed found records = if failed then filter (still_stands found) records else records

abbrev pub kept_once : Option Wanted → Bool → Found → List Held → List Held
kept_once None failed found records = records
kept_once (Some asked) failed found records = kept_after failed found records

-- the Done of a record that is complete
abbrev pub done_of : Option ℕ → Option Wanted
done_of complete = option_map WritesDone complete

-- what the journal answered has its cause, of a disk that may want memory or not
abbrev pub IsCausedIn : {D : Type 0} → Bool → (D → Option DiskState) → (D → ℕ) → JournalState D → JournalState D → Option Stood → Type 0
IsCausedIn wants told counts before after stood =
    IfSome stood (IsCaused wants (told after.disk) (counts before.disk) (counts after.disk))

-- the records and effects once the journal was asked for the Done of a record that is complete
pub record HasConcluded {D : Type 0} (wants : Bool) (told : D → Option DiskState) (counts : D → ℕ) (complete : Option ℕ)
    (before after : JournalState D) (held later : Recoveries) (happened : List Effect) : Type 0 where
  pub stood : Option Stood
  pub caused : IsCausedIn wants told counts before after stood
  pub asked : IsAsked told counts (done_of complete) before after stood
  pub later_is : later ≡ record held { records = kept_once (done_of complete) before.failed after.found (records_with complete stood held.records) }
  pub happened_is : happened ≡ done_told complete stood

-- the node once the journal was asked, and may have been read again
abbrev pub reread_where : Bool → Found → Node → Node
reread_where false found n = n
reread_where true found n = record n { found = found; recovered = filter (still_stands found) n.recovered }

abbrev pub once_asked : Option Wanted → Bool → Found → Node → Node
once_asked None failed found n = n
once_asked (Some asked) failed found n = reread_where failed found n

-- a call is the definition's, with what the journal answered in it to the Done of a record
pub record IsAnswered {D : Type 0} (wants : Bool) (told : D → Option DiskState) (counts : D → ℕ) (before after : NodeState D)
    (said : Result StepAnswer NodeFault) (complete : Option ℕ) (applied : Option Stood → Node → Applied) : Type 0 where
  pub stood : Option Stood
  pub caused : IsCausedIn wants told counts before.journal after.journal stood
  pub asked : IsAsked told counts (done_of complete) before.journal after.journal stood
  pub node : after.node ≡ once_asked (done_of complete) before.journal.failed after.journal.found (applied stood before.node).node
  pub answer : said ≡ (applied stood before.node).answer

-- memory was wanted, where it is, and nothing happened
pub record IsUnanswered {D : Type 0} (before after : NodeState D) (said : Result StepAnswer NodeFault) (takes : Bool) : Type 0 where
  pub wanted : takes ≡ true
  pub same : after ≡ before
  pub answer : said ≡ Err faults.Memory

abbrev pub IsAnsweredOrStarved : {D : Type 0} → Bool → (D → Option DiskState) → (D → ℕ) → NodeState D → NodeState D → Result StepAnswer NodeFault
    → Bool → Option ℕ → (Option Stood → Node → Applied) → Type 0
IsAnsweredOrStarved wants told counts before after said takes complete applied =
    IsAnswered wants told counts before after said complete applied ⊎ IsUnanswered before after said takes

-- memory is wanted for an answer to a word of a record that is held, and for nothing else
abbrev pub records_take : Option RetoldAnswer → Node → Bool
records_take (Some a) n = is_held a.number.generation n.recovered
records_take None n = false

-- the place of the record that a call completes, if it does
abbrev pub completed_by : Option RetoldAnswer → Node → Option ℕ
completed_by (Some a) n = completed (life n) a.number a.heard n.recovered
completed_by None n = None
