-- What an end that doesn't crash does: its objects, what is put and refused by a script, and what a resource answers to each word
-- (Transaction Service, the operations of interfaces Resource and SubtransactionAwareResource; the states are our profile, and
-- the table by states is that of a resource end).
use Rattle.std.specs.Prelude.{ℕ, ◌+◌, true, false, List, [], ◌∷◌, ◌++◌, codes, map, Option, Some, None, Result, Ok, Err, if◌then◌else◌}
use Rattle.ior_refs.specs.declared.key.ObjectKey.{ObjectKey}
use Rattle.ots_model.specs.declared.completion.Disposition.{Disposition}
use Rattle.ots_model.specs.declared.completion.Disposition.TheVariants as dispositions
use Rattle.ots_model.specs.declared.line.Line.TheVariants as lines
use Rattle.ots_model.specs.declared.line.ResourceState.{ResourceState}
use Rattle.ots_model.specs.declared.line.ResourceState.TheVariants as shown_states
use Rattle.ots_model.specs.declared.tree.Heard.{Heard}
use Rattle.ots_model.specs.declared.completion.Heard.TheVariants as phase_hears
use Rattle.ots_model.specs.declared.tree.Heard.TheVariants as hears
use Rattle.ots_model.specs.declared.tree.Outward.{Outward}
use Rattle.ots_model.specs.declared.tree.Word.{Word}
use Rattle.ots_model.specs.declared.completion.Word.TheVariants as phase_words
use Rattle.ots_model.specs.declared.tree.Word.TheVariants as words
use Rattle.resource_end.specs.declared.fault.EndFault.{EndFault}
use Rattle.resource_end.specs.declared.fault.EndFault.TheVariants as faults
use Rattle.resource_end.specs.declared.state.Row.{Row}
use Rattle.resource_end.specs.declared.state.State.{State}
use Rattle.resource_end.specs.declared.state.State.TheVariants as states
use Rattle.resource_end.specs.declared.state.Word.{Word as Told}
use Rattle.resource_end.specs.declared.state.Word.TheVariants as tolds
use Rattle.resource_end.specs.States.{is_forgotten}
use Rattle.resource_end.specs.Table.{row}
use Rattle.coordinator.specs.declared.said.Said.{Said}
use Rattle.coordinator.specs.declared.said.Said.TheVariants as said
use Rattle.nodes_world.specs.Objects.{place_of}
use Rattle.nodes_world.specs.Told.{Known, Refused}
use Rattle.nodes_world.specs.World.{World, FlatResource, FlatEnd, NamedKey, OfEnd, end_at, has_number, resource_at, referred, with_server}
use Rattle.nodes_world.specs.Happenings.{Done, nothing, tells, changes, ◌▹◌, replies}

-- ---- an end

-- the end at a place, where one is up, becomes another
abbrev pub with_end : ℕ → (FlatEnd → FlatEnd) → World → World
with_end place change w = elim (end_at w place) [ Some e ↦ with_server place (OfEnd (Some (change e))) w | None ↦ w ]

-- it has made one more object
abbrev pub drawn_once : FlatEnd → FlatEnd
drawn_once e = record e { drawn = e.drawn + 1 }

-- a resource that was made, of which nothing was put
abbrev pub fresh : ObjectKey → FlatResource
fresh key = record { key = key; state = states.Fresh; put = None; refused = false }

abbrev pub with_fresh : ObjectKey → FlatEnd → FlatEnd
with_fresh key e = record e { resources = e.resources ++ fresh key ∷ [] }

-- a resource in place of the one with its number
abbrev pub in_place_of : FlatResource → FlatResource → FlatResource
in_place_of r s = if has_number r.key s then r else s

abbrev pub with_resource : FlatResource → FlatEnd → FlatEnd
with_resource r e = record e { resources = map (in_place_of r) e.resources }

-- so it is at the end of a key, which has its number
unfoldable pub with_resource_at : ObjectKey → FlatResource → World → World
with_resource_at key r w = with_end (place_of key) (with_resource r) w

-- ---- what a script does with a resource

-- a line with this first word is refused by the end
abbrev pub refuses : List ℕ → Said → World → Done
refuses word answer w = tells (Refused word answer ∷ []) w

-- why nothing can be put for a resource, nor refused by it, in this state
abbrev pub closed_by : State → Option Said
closed_by states.Fresh = None
closed_by states.Working = None
closed_by states.Forgotten = Some said.ObjectNotExist
closed_by _ = Some said.Inactive

-- a resource as a script leaves it, where its state lets the script do so
abbrev pub does_by : Option Said → List ℕ → ObjectKey → FlatResource → World → Done
does_by None word key r w = changes (with_resource_at key r w)
does_by (Some answer) word key r w = refuses word answer w

-- a value was put
abbrev pub put_into : ℕ → ℕ → FlatResource → FlatResource
put_into cell value r = record r { state = states.Working; put = Some (record { cell = cell; value = value }) }

-- it is to vote rollback
abbrev pub refusing : FlatResource → FlatResource
refusing r = record r { state = states.Refused; refused = true }

-- `put G C V`
unfoldable pub puts : ObjectKey → ℕ → ℕ → World → Done
puts key cell value w = elim (resource_at w key) [
  | Some r ↦ does_by (closed_by r.state) (codes "put") key (put_into cell value r) w
  | None ↦ nothing w
]

-- `refuse G`
unfoldable pub refuses_to : ObjectKey → World → Done
refuses_to key w = elim (resource_at w key) [
  | Some r ↦ does_by (closed_by r.state) (codes "refuse") key (refusing r) w
  | None ↦ nothing w
]

-- ---- what a resource does by a word

-- the words that a resource's table has
abbrev pub told_word : Word → Option Told
told_word (words.Phase phase_words.Prepare) = Some tolds.Prepare
told_word (words.Phase phase_words.Commit) = Some tolds.Commit
told_word (words.Phase phase_words.CommitOnePhase) = Some tolds.CommitOnePhase
told_word (words.Phase phase_words.Rollback) = Some tolds.Rollback
told_word words.Forget = Some tolds.Forget
told_word _ = None

-- a heuristic exception, by what became of the updates
abbrev pub heuristic : Disposition → Said
heuristic dispositions.Committed = said.HeuristicCommit
heuristic dispositions.RolledBack = said.HeuristicRollback
heuristic dispositions.Mixed = said.HeuristicMixed
heuristic dispositions.Unknown = said.HeuristicHazard

-- what is answered, by what its caller hears; no resource answers so that any other thing is heard
abbrev pub answer_heard : Heard → Option Said
answer_heard (hears.Phase phase_hears.Done) = Some said.Plain
answer_heard (hears.Phase (phase_hears.Voted vote)) = Some (said.Voted vote)
answer_heard (hears.Phase (phase_hears.Heuristic d)) = Some (heuristic d)
answer_heard (hears.Phase phase_hears.RolledBack) = Some said.TransactionRolledBack
answer_heard (hears.Phase phase_hears.NotPrepared) = Some said.NotPrepared
answer_heard (hears.Phase phase_hears.NoObject) = Some said.ObjectNotExist
answer_heard _ = None

-- or by why a word is refused: nobody knows of the resource
abbrev pub answer_fault : EndFault → Option Said
answer_fault faults.ObjectNotExist = Some said.ObjectNotExist
answer_fault _ = None

abbrev pub answer_of_row : Result Heard EndFault → Option Said
answer_of_row (Ok h) = answer_heard h
answer_of_row (Err fault) = answer_fault fault

-- the states that are told when a resource comes into them
abbrev pub shown_state : State → Option ResourceState
shown_state states.Prepared = Some shown_states.Prepared
shown_state states.Applied = Some shown_states.Applied
shown_state states.Undone = Some shown_states.Undone
shown_state states.Forgotten = Some shown_states.Forgotten
shown_state _ = None

abbrev pub state_lines : List ℕ → Option ResourceState → World → Done
state_lines name (Some s) w = tells (Known (lines.State name s) ∷ []) w
state_lines name None w = nothing w

-- it comes into another state, or stays as it is
abbrev pub moves : NamedKey → FlatResource → Option State → World → Done
moves named r (Some s) w = changes (with_resource_at named.key (record r { state = s }) w) ▹ state_lines named.name (shown_state s)
moves named r None w = nothing w

abbrev pub answers : ℕ → Option Said → World → Done
answers request (Some answer) w = replies request answer w
answers request None w = nothing w

abbrev pub obeys_row : ℕ → NamedKey → FlatResource → Row → World → Done
obeys_row request named r by w = moves named r by.next w ▹ answers request (answer_of_row by.said)

-- the other words change nothing there
abbrev pub hears_only : ℕ → FlatResource → World → Done
hears_only request r w = replies request (if is_forgotten r.state then said.ObjectNotExist else said.Plain) w

abbrev pub obeys_word : Option Told → ℕ → NamedKey → FlatResource → World → Done
obeys_word (Some word) request named r w = obeys_row request named r (row word r.state) w
obeys_word None request named r w = hears_only request r w

-- a resource is told a word by a request, and answers; nobody else knows of it
abbrev pub obeys_as : Option FlatResource → ℕ → NamedKey → Word → World → Done
obeys_as (Some r) request named word w = obeys_word (told_word word) request named r w
obeys_as None request named word w = replies request said.ObjectNotExist w

unfoldable pub obeys : ℕ → Outward → World → Done
obeys request o w = elim (referred w o.to) [
  | Some named ↦ obeys_as (resource_at w named.key) request named o.word w
  | None ↦ nothing w
]
