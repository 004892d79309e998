-- What is answered for a family that is gone, by its record alone (Transaction Service, interfaces Terminator,
-- RecoveryCoordinator and Resource; that a record answers for its family, and that the key of its commit tells a repeat, are
-- our profile).
use Rattle.std.specs.Prelude.{ℕ, ◌==◌, ◌&&◌, Bool, false, List, find, bytes_eq, Option, Some, None, if◌then◌else◌}
use Rattle.ior_refs.specs.declared.key.ObjectKey.{ObjectKey}
use Rattle.ots_model.specs.declared.completion.Vote.TheVariants.{VoteCommit}
use Rattle.ots_model.specs.declared.service.RetryKey.{RetryKey}
use Rattle.ots_model.specs.declared.service.Status.{Status}
use Rattle.ots_model.specs.declared.tree.Word.{Word}
use Rattle.ots_model.specs.declared.completion.Word.TheVariants as phase_words
use Rattle.ots_model.specs.declared.tree.Word.TheVariants as words
use Rattle.recovery_coord.specs.Limits.{recovery_kind}
use Rattle.recovery_coord.specs.Replay.{is_of_tree, party_named}
use Rattle.recovery_coord.specs.declared.held.Held.{Held}
use Rattle.recovery_coord.specs.declared.held.Kind.{Kind}
use Rattle.recovery_coord.specs.declared.held.Kind.TheVariants as kinds
use Rattle.recovery_coord.specs.declared.held.Party.{Party}
use Rattle.coordinator.specs.declared.event.Act.{Act}
use Rattle.coordinator.specs.declared.event.Act.TheVariants as acts
use Rattle.coordinator.specs.declared.said.Said.{Said}
use Rattle.coordinator.specs.declared.said.Said.TheVariants as said
use Rattle.coordinator.specs.History.{same_key}
use Rattle.coordinator.specs.Node.{Node}

-- the letters of the keys of a terminator and of a subordinate's resource: T and U
abbrev pub terminator_kind : ℕ
terminator_kind = 84

abbrev pub subordinate_kind : ℕ
subordinate_kind = 85

-- the record of the family that a key names
abbrev pub record_of : ObjectKey → Node → Option Held
record_of k n = find (is_of_tree n.service k) n.recovered

-- a call has the key by which the commit was called
abbrev pub is_commit_again : Option RetryKey → Option RetryKey → Bool
is_commit_again (Some k) (Some other) = same_key k other
is_commit_again _ _ = false

-- what a repeat of the commit is answered, and any other commit or rollback
abbrev pub repeat_said : Bool → Said
repeat_said asked = if asked then said.Transient else said.Plain

abbrev pub end_said : Option RetryKey → Option RetryKey → Bool → Said
end_said called by asked = if is_commit_again called by then repeat_said asked else said.InvalidTransaction

-- commit and rollback on the terminator of the top-level transaction. A prepared subordinate has no terminator.
abbrev pub terminator_says : Kind → Option RetryKey → Option Said
terminator_says (kinds.Decision called asked) by = Some (end_said called by asked)
terminator_says (kinds.Prepared recovery) by = None

-- replay_completion, of a registration that the record names
abbrev pub party_says : Status → List ℕ → Party → Said
party_says s resource p = if bytes_eq p.to resource then said.State s else said.NotPrepared

abbrev pub recovery_says : Held → List ℕ → Option Party → Option Said
recovery_says r resource (Some p) = Some (party_says r.status resource p)
recovery_says r resource None = None

-- a superior's word, of a subordinate that was told to decide for itself and has decided to commit
abbrev pub word_said : Word → Said
word_said (words.Phase phase_words.Prepare) = said.Voted VoteCommit
word_said (words.Phase phase_words.Rollback) = said.HeuristicCommit
word_said _ = said.Transient

abbrev pub resource_says : Kind → Word → Option Said
resource_says (kinds.Decision called asked) word = Some (word_said word)
resource_says (kinds.Prepared recovery) word = None

-- the key is that of the family's only object of a kind
abbrev pub is_only : ℕ → ObjectKey → Bool
is_only kind k = k.kind == kind && k.index == 0

-- what a record answers to a call on one of its objects; it has no other
abbrev pub record_says : ObjectKey → Option RetryKey → Act → Held → Option Said
record_says k by (acts.Commit asked) r = if is_only terminator_kind k then terminator_says r.kind by else None
record_says k by acts.Rollback r = if is_only terminator_kind k then terminator_says r.kind by else None
record_says k by (acts.Replay g resource) r = if k.kind == recovery_kind then recovery_says r resource (party_named k r) else None
record_says k by (acts.Superior word) r = if is_only subordinate_kind k then resource_says r.kind word else None
record_says k by _ r = None
