-- Who is answered a name: a call that asks for one.
use Rattle.std.proofs.Common.{◌≡◌, ◌==◌, ◌&&◌, inl, inr, refl, sym, subst, ℕ, Bool, true, false, List, Option, Some, None, if◌then◌else◌}
use Rattle.std.specs.Option.{IfSome}
use Rattle.ior_refs.specs.declared.key.ObjectKey.{ObjectKey}
use Rattle.ots_model.specs.declared.completion.Stood.{Stood}
use Rattle.ots_model.specs.declared.service.Status.{Status}
use Rattle.resource_votes.specs.Ballots.{Ballots, registered, registered_aware, registered_sync, registering}
use Rattle.resource_votes.specs.declared.registration.VoteFault.{VoteFault}
use Rattle.resource_votes.specs.declared.registration.VoteFault.TheVariants as vote_faults
use Rattle.txn_tree.specs.Calls.{creating}
use Rattle.txn_tree.specs.declared.row.TreeFault.{TreeFault}
use Rattle.txn_tree.specs.declared.row.TreeFault.TheVariants as tree_faults
use Rattle.two_phase.specs.Stages as stages
use Rattle.coordinator.specs.Family.{Family}
use Rattle.coordinator.specs.Moves.{Moved}
use Rattle.coordinator.specs.Names.{related_by, is_of_family}
use Rattle.coordinator.specs.Hearing.{marks}
use Rattle.coordinator.specs.Phases.{column, is_open, has_parent_ended, parent_status_of, phase, status_of, top_status}
use Rattle.coordinator.specs.Step.{acted, acts_on}
use Rattle.coordinator.specs.Table.{Acted, aware_refusal, commits, commits_in, creates_by, creates_in, creates_subtransaction, does, gets_terminator, has_branch, has_registration, has_terminator, marks_only, next_registration, on_branch, on_terminator, registers, registers_aware, registers_resource, registers_synchronization, replay_by, replays, rolls_back_asked, rolls_back_in, says, status_said, sync_refusal, tree_refusal, unless_orphan, unless_past, vote_refusal}
use Rattle.coordinator.specs.declared.event.Act.{Act}
use Rattle.coordinator.specs.declared.event.Act.TheVariants as acts
use Rattle.coordinator.specs.declared.event.Event.{Event}
use Rattle.coordinator.specs.declared.phase.Column.{Column}
use Rattle.coordinator.specs.declared.phase.Column.TheVariants as columns
use Rattle.coordinator.specs.declared.phase.Phase.{Phase}
use Rattle.coordinator.specs.declared.phase.Phase.TheVariants as phases
use Rattle.coordinator.specs.declared.said.Said.{Said}
use Rattle.coordinator.specs.declared.said.Said.TheVariants as said
use Rattle.family_rules.specs.Changes.{IsReplied}
use Rattle.family_rules.specs.Calls.{said_of}
use Rattle.family_rules.specs.declared.call.Reply.{Reply}
use Rattle.family_rules.specs.declared.call.Reply.TheVariants as replies
use Rattle.family_step.specs.Acting.{name_in, name_of_said}

-- a name that is said is this one
pub record Fits (x : Said) (name : Option (List ℕ)) : Type 0 where
  pub fits : IfSome (name_of_said x) (λ n. name ≡ Some n)

-- no name is said
record NoName (x : Said) : Type 0 where
  none : name_of_said x ≡ None

fits : (x : Said) (name : Option (List ℕ)) → NoName x → Fits x name
fits x name bare = record { fits = subst (λ (o : Option (List ℕ)). IfSome o (λ n. name ≡ Some n)) (sym bare.none) tt }

either : (t : Bool) (x y : Said) → NoName x → NoName y → NoName (if t then x else y)
either true x y p q = p
either false x y p q = q

one_of : (t : Bool) (a b : Acted) → NoName a.said → NoName b.said → NoName (if t then a else b).said
one_of true a b p q = p
one_of false a b p q = q

on_branch_none : (b : ℕ) (f : Family) (a : Acted) → NoName a.said → NoName (on_branch b f a).said
on_branch_none b f a p = one_of (has_branch f b) a (says said.ObjectNotExist f) p (record { none = refl })

on_terminator_none : (b : ℕ) (f : Family) (a : Acted) → NoName a.said → NoName (on_terminator b f a).said
on_terminator_none b f a p = one_of (has_terminator f b) a (says said.ObjectNotExist f) p (record { none = refl })

status_none : (o : Option Status) → NoName (status_said o)
status_none None = record { none = refl }
status_none (Some s) = record { none = refl }

related_none : (relation : ℕ → Bool) (f : Family) (other : Option ObjectKey) → NoName (related_by relation f other)
related_none relation f None = record { none = refl }
related_none relation f (Some k) = either (k.service == f.key.service) (said.Flag (is_of_family f k && relation k.index)) said.NoImplement (record { none = refl }) (record { none = refl })

replay_none : (p : Phase) (voted : Bool) (s : Status) → NoName (replay_by p voted s)
replay_none phases.Joining voted s = record { none = refl }
replay_none phases.Active voted s = record { none = refl }
replay_none phases.Marked voted s = record { none = refl }
replay_none phases.Finishing voted s = record { none = refl }
replay_none phases.Preparing voted s = either voted (said.State s) said.NotPrepared (record { none = refl }) (record { none = refl })
replay_none phases.OnePhase voted s = record { none = refl }
replay_none phases.Doubt voted s = record { none = refl }
replay_none phases.Prepared voted s = record { none = refl }
replay_none phases.Committing voted s = record { none = refl }
replay_none phases.RollingBack voted s = record { none = refl }
replay_none (phases.Ended fixed) voted s = record { none = refl }

vote_none : (fault : VoteFault) → NoName (vote_refusal fault)
vote_none vote_faults.Inactive = record { none = refl }
vote_none vote_faults.MarkedAlready = record { none = refl }
vote_none vote_faults.NotSubtransaction = record { none = refl }
vote_none vote_faults.SynchronizationUnavailable = record { none = refl }
vote_none vote_faults.NoResources = record { none = refl }
vote_none vote_faults.Memory = record { none = refl }

registers_none : (fault : Option VoteFault) (answer : Said) (later : Ballots) (f : Family) → NoName answer → NoName (registers fault answer later f).said
registers_none None answer later f p = p
registers_none (Some fault) answer later f p = vote_none fault

tree_none : (fault : TreeFault) → NoName (tree_refusal fault)
tree_none tree_faults.Inactive = record { none = refl }
tree_none tree_faults.MarkedAlready = record { none = refl }
tree_none tree_faults.SubtransactionsUnavailable = record { none = refl }
tree_none tree_faults.Memory = record { none = refl }

creates_by_none : (fault : Option TreeFault) (b : ℕ) (f : Family) → NoName (creates_by fault b f).said
creates_by_none None b f = record { none = refl }
creates_by_none (Some fault) b f = tree_none fault

creates_in_none : (place : Column) (b : ℕ) (f : Family) → NoName (creates_in place b f).said
creates_in_none columns.Active b f = creates_by_none (creating f.rows b) b f
creates_in_none columns.Marked b f = record { none = refl }
creates_in_none columns.Finishing b f = record { none = refl }
creates_in_none columns.RolledBack b f = record { none = refl }
creates_in_none columns.Past b f = record { none = refl }

marks_only_none : (b : ℕ) (f : Family) → NoName (marks_only b f).said
unfolding marks_only
marks_only_none b f = one_of (is_open (column f b)) (does said.Plain (marks b f)) (says said.Inactive f) (record { none = refl }) (record { none = refl })

orphan_none : (b : ℕ) (f : Family) (m : Moved) → NoName (unless_orphan b f m).said
orphan_none b f m = one_of (has_parent_ended f b) (says said.TransactionRolledBack f) (does said.Later m) (record { none = refl }) (record { none = refl })

commits_in_none : (place : Column) (b position : ℕ) (asked : Bool) (f : Family) → NoName (commits_in place b position asked f).said
commits_in_none columns.Active b position asked f = orphan_none b f _
commits_in_none columns.Marked b position asked f = orphan_none b f _
commits_in_none columns.Finishing b position asked f = record { none = refl }
commits_in_none columns.RolledBack b position asked f = record { none = refl }
commits_in_none columns.Past b position asked f = record { none = refl }

rolls_back_in_none : (place : Column) (b position : ℕ) (f : Family) → NoName (rolls_back_in place b position f).said
rolls_back_in_none columns.Active b position f = record { none = refl }
rolls_back_in_none columns.Marked b position f = record { none = refl }
rolls_back_in_none columns.Finishing b position f = record { none = refl }
rolls_back_in_none columns.RolledBack b position f = record { none = refl }
rolls_back_in_none columns.Past b position f = record { none = refl }

named_by : (there : Bool) (name : List ℕ) (x : Said) → NoName x → Fits (if there then said.Name name else x) (Some name)
named_by true name x p = record { fits = refl }
named_by false name x p = fits x (Some name) p

on_branch_said : (b : ℕ) (f : Family) (a : Acted) (x : Said) → a.said ≡ x → (on_branch b f a).said ≡ (if has_branch f b then x else said.ObjectNotExist)
on_branch_said b f a x is = by (has_branch f b)
  where
    by : (t : Bool) → (if t then a else says said.ObjectNotExist f).said ≡ (if t then x else said.ObjectNotExist)
    by true = is
    by false = refl

by_act : (act : Act) (b now : ℕ) (stood : Option Stood) (f : Family) → Fits (acts_on act b now stood f).said (name_in act b f)
unfolding gets_terminator commits rolls_back_asked registers_resource registers_synchronization registers_aware creates_subtransaction replays
by_act acts.GetTerminator b now stood f = fits _ _ (on_branch_none b f _ (either (has_terminator f b) said.Plain said.Unavailable (record { none = refl }) (record { none = refl })))
by_act acts.GetCoordinator b now stood f = fits _ _ (on_branch_none b f _ (record { none = refl }))
by_act (acts.Commit asked) b now stood f = fits _ _ (on_terminator_none b f _ (commits_in_none (column f b) b _ asked f))
by_act acts.Rollback b now stood f = fits _ _ (on_terminator_none b f _ (rolls_back_in_none (column f b) b _ f))
by_act acts.GetStatus b now stood f = fits _ _ (status_none (status_of f b))
by_act acts.GetParentStatus b now stood f = fits _ _ (status_none (parent_status_of f b))
by_act acts.GetTopLevelStatus b now stood f = fits _ _ (on_branch_none b f _ (record { none = refl }))
by_act (acts.IsSameTransaction other) b now stood f = fits _ _ (on_branch_none b f _ (related_none _ f other))
by_act (acts.IsRelatedTransaction other) b now stood f = fits _ _ (on_branch_none b f _ (related_none _ f other))
by_act (acts.IsAncestorTransaction other) b now stood f = fits _ _ (on_branch_none b f _ (related_none _ f other))
by_act (acts.IsDescendantTransaction other) b now stood f = fits _ _ (on_branch_none b f _ (related_none _ f other))
by_act acts.IsTopLevelTransaction b now stood f = fits _ _ (on_branch_none b f _ (record { none = refl }))
by_act acts.HashTransaction b now stood f = fits _ _ (on_branch_none b f _ (record { none = refl }))
by_act acts.HashTopLevelTran b now stood f = fits _ _ (on_branch_none b f _ (record { none = refl }))
by_act (acts.RegisterResource to aware) b now stood f = fits _ _ (on_branch_none b f _ (registers_none (unless_past (column f b) (registering f.rows b f.ballots)) (said.Made (next_registration f)) (registered b to aware f.ballots) f (record { none = refl })))
by_act (acts.RegisterSynchronization to) b now stood f = fits _ _ (on_branch_none b f _ (registers_none (sync_refusal f b) said.Plain (registered_sync b to f.ballots) f (record { none = refl })))
by_act (acts.RegisterSubtranAware to) b now stood f = fits _ _ (on_branch_none b f _ (registers_none (aware_refusal f b) said.Plain (registered_aware b to f.ballots) f (record { none = refl })))
by_act acts.RollbackOnly b now stood f = fits _ _ (on_branch_none b f _ (marks_only_none b f))
by_act acts.GetTransactionName b now stood f =
    subst (λ (x : Said). Fits x (name_in acts.GetTransactionName b f)) (sym (on_branch_said b f _ _ refl)) (named_by (has_branch f b) _ said.ObjectNotExist (record { none = refl }))
by_act acts.CreateSubtransaction b now stood f = fits _ _ (on_branch_none b f _ (creates_in_none (column f b) b f))
by_act acts.GetTxcontext b now stood f = fits _ _ (on_branch_none b f _ (record { none = refl }))
by_act (acts.Replay g resource) b now stood f = fits _ _ (either (has_registration f g) (replay_by (phase f) (stages.is_named f.completion g) (top_status f)) said.ObjectNotExist (replay_none (phase f) _ _) (record { none = refl }))
by_act (acts.Superior word) b now stood f = fits _ _ (record { none = refl })
by_act (acts.Answer n h) b now stood f = fits _ _ (record { none = refl })
by_act acts.Tick b now stood f = fits _ _ (record { none = refl })
by_act (acts.Reread stands) b now stood f = fits _ _ (record { none = refl })
by_act (acts.Opened deadline) b now stood f = fits _ _ (record { none = refl })

reply_none : (r : Reply) → NoName (said_of r)
reply_none replies.Plain = record { none = refl }
reply_none replies.RolledBack = record { none = refl }
reply_none replies.Mixed = record { none = refl }
reply_none replies.Hazard = record { none = refl }
reply_none replies.CommFailure = record { none = refl }
reply_none replies.PersistStore = record { none = refl }
reply_none replies.NoMemory = record { none = refl }

by_reply : (x y : Said) (name : Option (List ℕ)) → Fits x name → IsReplied x y → Fits y name
by_reply x y name is (inl same) = subst (λ (z : Said). Fits z name) (sym same) is
by_reply x y name is (inr replied) = fits y name (subst (λ (z : Said). NoName z) (sym replied.1) (reply_none replied.0))

-- the name that is said at once in a step is the one that was asked for
pub name_fits : (e : Event) (stood : Option Stood) (f : Family) (x y : Said) → x ≡ (acted e stood f).said → IsReplied x y
    → IfSome (name_of_said y) (λ n. name_in e.act e.branch f ≡ Some n)
unfolding acted
name_fits e stood f x y is replied = (
    by_reply x y (name_in e.act e.branch f)
    (subst (λ (z : Said). Fits z (name_in e.act e.branch f)) (sym is) (by_act e.act e.branch e.now stood f)) replied).fits
