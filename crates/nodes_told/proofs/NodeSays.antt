-- What a node answers can be read, for each family and for each record.
use Rattle.std.proofs.Common.{ℕ, zero, suc, Bool, true, false, List, [], ◌∷◌, map, slice_get, Option, Some, None, Result, Ok, Err}
use Rattle.std.specs.Prelude.{◌==◌, nat_lt, replicate, filter_map, is_some, bytes_eq, if◌then◌else◌}
use Rattle.std.specs.List.{AllByRecursion, cons_option}
use Rattle.std.specs.Option.{option_and_then}
use Rattle.ior_refs.specs.declared.key.ObjectKey.{ObjectKey}
use Rattle.ots_model.specs.declared.completion.CallNumber.{CallNumber}
use Rattle.ots_model.specs.declared.completion.Stood.{Stood}
use Rattle.ots_model.specs.declared.service.RetryKey.{RetryKey}
use Rattle.ots_model.specs.declared.tree.Heard.{Heard}
use Rattle.ots_model.specs.declared.tree.Word.{Word}
use Rattle.ots_model.specs.declared.completion.Word.TheVariants as phase_words
use Rattle.ots_model.specs.declared.tree.Word.TheVariants as words
use Rattle.decision_journal.specs.declared.record.JournalRecord.{JournalRecord}
use Rattle.recovery_coord.specs.Limits.{recovery_kind}
use Rattle.recovery_coord.specs.Held.{is_held}
use Rattle.recovery_coord.specs.Replay.{party_named}
use Rattle.recovery_coord.specs.declared.held.Held.{Held}
use Rattle.recovery_coord.specs.declared.held.Kind.{Kind}
use Rattle.recovery_coord.specs.declared.held.Kind.TheVariants as kinds
use Rattle.recovery_coord.specs.declared.held.Party.{Party}
use Rattle.coordinator.specs.declared.event.Act.{Act}
use Rattle.coordinator.specs.declared.event.Act.TheVariants as acts
use Rattle.coordinator.specs.declared.event.Event.{Event}
use Rattle.coordinator.specs.declared.node.NodeFault.{NodeFault}
use Rattle.coordinator.specs.declared.node.NodeFault.TheVariants as faults
use Rattle.coordinator.specs.declared.said.Said.{Said}
use Rattle.coordinator.specs.declared.said.Said.TheVariants as said
use Rattle.coordinator.specs.declared.said.StepAnswer.{StepAnswer}
use Rattle.coordinator.specs.Family.{Family}
use Rattle.coordinator.specs.History.{has_room}
use Rattle.coordinator.specs.Limits.{generation_limit, slot_limit}
use Rattle.coordinator.specs.Node.{Node, family_of, is_of, load, only_of}
use Rattle.coordinator.specs.NodeCalls.{Applied, RetoldAnswer, answers_recovered, applied_by, applies, by_family, by_record, by_records, family_for, hears_record, records_hear, refuses, replies, retold_answer, steps_to}
use Rattle.coordinator.specs.NodeRecords.{is_commit_again, is_only, record_of, record_says, recovery_says, repeat_said, resource_says, subordinate_kind, terminator_kind, terminator_says, word_said}
use Rattle.coordinator.specs.NodeSlots.{creates, free_slot, makes, makes_in, makes_no_family, next_key, with_new}
use Rattle.coordinator.specs.NodeTick.{Happening, happening, happens_in, tick_at, tick_of, ticked, ticks}
use Rattle.coordinator.specs.Step.{Stepped, family_step, is_silent, quiet}
use Rattle.nodes_told.specs.Reading.{IsAnswer}
use Rattle.nodes_told.proofs.FamilySays.{FamilyReads, FinishedReads, IfSo, StepReads, got, new_reads, quiet_reads, set_all, step_reads}

-- ---- the families of a node

abbrev pub PlaceReads : Option Family → Type 0
PlaceReads place = IfSo FamilyReads place

pub record NodeReads (n : Node) : Type 0 where
  pub families : AllByRecursion PlaceReads n.families

where_so : {A : Type 0} (P : A → Type 0) (t : Bool) (x : A) → P x → IfSo P (if t then Some x else None)
where_so P true x is = is
where_so P false x is = tt

family_reads : (k : ObjectKey) (n : Node) → NodeReads n → IfSo FamilyReads (family_of k n)
unfolding family_of
family_reads k n reads = by (slice_get n.families k.slot) (got PlaceReads n.families k.slot reads.families)
  where
    by : (o : Option (Option Family)) → IfSo PlaceReads o → IfSo FamilyReads (option_and_then (only_of k) (option_and_then (λ (f : Option Family). f) o))
    by (Some (Some f)) is = where_so FamilyReads (is_of k f) f is
    by (Some None) is = tt
    by None is = tt

pub for_reads : (k : ObjectKey) (e : Event) (n : Node) → NodeReads n → IfSo FamilyReads (family_for k e n)
for_reads k e n reads = by (is_some (retold_answer e.act)) (family_reads k n reads)
  where
    by : (t : Bool) → IfSo FamilyReads (family_of k n) → IfSo FamilyReads (if t then None else family_of k n)
    by true is = tt
    by false is = is

-- ---- a call

abbrev pub StepAnswerReads : Result StepAnswer NodeFault → Type 0
StepAnswerReads (Ok a) = IsAnswer a.said × AllByRecursion FinishedReads a.finished
StepAnswerReads (Err fault) = Unit {0}

pub record AppliedReads (a : Applied) : Type 0 where
  pub node : NodeReads a.node
  pub answer : StepAnswerReads a.answer

if_applied : (t : Bool) (x y : Applied) → AppliedReads x → AppliedReads y → AppliedReads (if t then x else y)
if_applied true x y one other = one
if_applied false x y one other = other

refuses_reads : (fault : NodeFault) (n : Node) → NodeReads n → AppliedReads (refuses fault n)
refuses_reads fault n reads = record { node = reads; answer = tt }

steps_to_reads : (n : Node) (f : Family) (e : Event) (stood : Option Stood) (s : Stepped) → StepReads s → NodeReads n → AppliedReads (steps_to n f e stood s)
steps_to_reads n f e stood s is reads = record {
  node = record { families = set_all PlaceReads n.families s.family.key.slot (Some s.family) reads.families is.family };
  answer = (is.said, is.finished);
}

by_family_reads : (f : Family) (e : Event) (stood : Option Stood) (n : Node) → FamilyReads f → NodeReads n → AppliedReads (by_family f e stood n)
by_family_reads f e stood n is reads =
    if_applied (has_room f.entries e) (steps_to n f e stood (family_step f e stood)) (refuses faults.NoResources n)
    (steps_to_reads n f e stood (family_step f e stood) (step_reads f e stood is) reads) (refuses_reads faults.NoResources n reads)

-- by the records alone
if_said : (t : Bool) (x : Said) (y : Said) → IsAnswer x → IsAnswer y → IsAnswer (if t then x else y)
if_said true x y one other = one
if_said false x y one other = other

if_option : (t : Bool) (o : Option Said) → IfSo IsAnswer o → IfSo IsAnswer (if t then o else None)
if_option true o is = is
if_option false o is = tt

terminator_reads : (kind : Kind) (by : Option RetryKey) → IfSo IsAnswer (terminator_says kind by)
terminator_reads (kinds.Decision called asked) by =
    if_said (is_commit_again called by) (repeat_said asked) said.InvalidTransaction (if_said asked said.Transient said.Plain tt tt) tt
terminator_reads (kinds.Prepared recovery) by = tt

recovery_reads : (r : Held) (resource : List ℕ) (o : Option Party) → IfSo IsAnswer (recovery_says r resource o)
recovery_reads r resource (Some p) = if_said (bytes_eq p.to resource) (said.State r.status) said.NotPrepared tt tt
recovery_reads r resource None = tt

word_reads : (word : Word) → IsAnswer (word_said word)
word_reads (words.Phase phase_words.Prepare) = tt
word_reads (words.Phase phase_words.Rollback) = tt
word_reads _ = tt

resource_reads : (kind : Kind) (word : Word) → IfSo IsAnswer (resource_says kind word)
resource_reads (kinds.Decision called asked) word = word_reads word
resource_reads (kinds.Prepared recovery) word = tt

record_reads : (k : ObjectKey) (by : Option RetryKey) (act : Act) (r : Held) → IfSo IsAnswer (record_says k by act r)
record_reads k by (acts.Commit asked) r = if_option (is_only terminator_kind k) (terminator_says r.kind by) (terminator_reads r.kind by)
record_reads k by acts.Rollback r = if_option (is_only terminator_kind k) (terminator_says r.kind by) (terminator_reads r.kind by)
record_reads k by (acts.Replay g resource) r =
    if_option (k.kind == recovery_kind) (recovery_says r resource (party_named k r)) (recovery_reads r resource (party_named k r))
record_reads k by (acts.Superior word) r = if_option (is_only subordinate_kind k) (resource_says r.kind word) (resource_reads r.kind word)
record_reads k by _ r = tt

replies_reads : (o : Option Said) (n : Node) → IfSo IsAnswer o → NodeReads n → AppliedReads (replies o n)
replies_reads (Some answer) n is reads = record { node = reads; answer = (is, tt) }
replies_reads None n is reads = refuses_reads faults.ObjectNotExist n reads

by_record_reads : (k : ObjectKey) (e : Event) (n : Node) → NodeReads n → AppliedReads (by_record k e n)
by_record_reads k e n reads = replies_reads (option_and_then (record_says k e.key e.act) (record_of k n)) n (by (record_of k n)) reads
  where
    by : (o : Option Held) → IfSo IsAnswer (option_and_then (record_says k e.key e.act) o)
    by (Some r) = record_reads k e.key e.act r
    by None = tt

hears_record_reads : (n : CallNumber) (h : Heard) (stood : Option Stood) (node : Node) → NodeReads node → AppliedReads (hears_record n h stood node)
unfolding hears_record
hears_record_reads n h stood node reads =
    if_applied (is_held n.generation node.recovered) (records_hear n h stood node) (refuses faults.ObjectNotExist node)
    (record { node = record { families = reads.families }; answer = (tt, tt) }) (refuses_reads faults.ObjectNotExist node reads)

by_records_reads : (o : Option RetoldAnswer) (k : ObjectKey) (e : Event) (stood : Option Stood) (n : Node) → NodeReads n → AppliedReads (by_records o k e stood n)
by_records_reads (Some a) k e stood n reads = hears_record_reads a.number a.heard stood n reads
by_records_reads None k e stood n reads = by_record_reads k e n reads

applied_by_reads : (o : Option Family) (k : ObjectKey) (e : Event) (stood : Option Stood) (n : Node) → IfSo FamilyReads o → NodeReads n → AppliedReads (applied_by o k e stood n)
unfolding answers_recovered
applied_by_reads (Some f) k e stood n is reads = by_family_reads f e stood n is reads
applied_by_reads None k e stood n is reads = by_records_reads (retold_answer e.act) k e stood n reads

pub applies_reads : (k : ObjectKey) (e : Event) (stood : Option Stood) (n : Node) → NodeReads n → AppliedReads (applies k e stood n)
unfolding applies
applies_reads k e stood n reads = applied_by_reads (family_for k e n) k e stood n (for_reads k e n reads) reads

-- ---- a family is made

makes_in_reads : (slot : Option ℕ) (make : ObjectKey → Family) (n : Node) → ((key : ObjectKey) → FamilyReads (make key)) → NodeReads n → NodeReads (makes_in slot make n).node
makes_in_reads None make n new reads = reads
makes_in_reads (Some slot) make n new reads = by (nat_lt n.generation generation_limit)
  where
    by : (t : Bool) → NodeReads (if t then record { node = with_new make slot n; answer = Ok (next_key n slot) } else makes_no_family n).node
    by true = record { families = set_all PlaceReads n.families slot (Some (make (next_key n slot))) reads.families (new (next_key n slot)) }
    by false = reads

pub creates_reads : (now seconds : ℕ) (n : Node) → NodeReads n → NodeReads (creates now seconds n).node
unfolding creates makes
creates_reads now seconds n reads = makes_in_reads (free_slot n) _ n (λ key. new_reads key _) reads

-- ---- time passes

tick_reads : (now : ℕ) (f : Family) → FamilyReads f → StepReads (tick_of now f)
tick_reads now f is = by (has_room f.entries (tick_at now))
  where
    by : (t : Bool) → StepReads (if t then family_step f (tick_at now) None else quiet said.Plain f)
    by true = step_reads f (tick_at now) None is
    by false = quiet_reads said.Plain f tt is

ticked_reads : (now : ℕ) (some : List (Option Family)) → AllByRecursion PlaceReads some → AllByRecursion PlaceReads (map (ticked now) some)
ticked_reads now [] all = tt
ticked_reads now (Some f ∷ some) all = ((tick_reads now f all.0).family, ticked_reads now some all.1)
ticked_reads now (None ∷ some) all = (tt, ticked_reads now some all.1)

abbrev pub HappeningReads : Happening → Type 0
HappeningReads h = AllByRecursion FinishedReads h.finished

happenings_read : (now : ℕ) (some : List (Option Family)) → AllByRecursion PlaceReads some → AllByRecursion HappeningReads (filter_map (happens_in now) some)
happenings_read now [] all = tt
happenings_read now (None ∷ some) all = happenings_read now some all.1
happenings_read now (Some f ∷ some) all = by (is_silent (tick_at now) f) (happenings_read now some all.1)
  where
    by : (t : Bool) → AllByRecursion HappeningReads (filter_map (happens_in now) some)
        → AllByRecursion HappeningReads (cons_option (if t then None else Some (happening f (tick_of now f))) (filter_map (happens_in now) some))
    by true more = more
    by false more = ((tick_reads now f all.0).finished, more)

pub record TickedReads (now : ℕ) (n : Node) : Type 0 where
  pub node : NodeReads (ticks now n).node
  pub happened : AllByRecursion HappeningReads (ticks now n).happened

ticked_node : (now : ℕ) (n : Node) → NodeReads n → NodeReads (ticks now n).node
unfolding ticks
ticked_node now n reads = record { families = ticked_reads now n.families reads.families }

ticked_happened : (now : ℕ) (n : Node) → NodeReads n → AllByRecursion HappeningReads (ticks now n).happened
unfolding ticks
ticked_happened now n reads = happenings_read now n.families reads.families

pub ticks_reads : (now : ℕ) (n : Node) → NodeReads n → TickedReads now n
ticks_reads now n reads = record { node = ticked_node now n reads; happened = ticked_happened now n reads }

-- ---- a node comes up

none_there : (many : ℕ) → AllByRecursion PlaceReads (replicate many None)
none_there zero = tt
none_there (suc many) = (tt, none_there many)

pub load_reads : (service : ℕ) (rs : List JournalRecord) → NodeReads (load service rs)
load_reads service rs = record { families = none_there slot_limit }
