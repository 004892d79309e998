-- The lines of every world that a script reaches can be read.
use Rattle.std.proofs.Common.{◌≡◌, ℕ, Bool, true, false, List, Option, Some, None, subst}
use Rattle.std.specs.Prelude.{◌&&◌}
use Rattle.std.specs.Option.{option_map, option_and_then}
use Rattle.ior_refs.specs.declared.key.ObjectKey.{ObjectKey}
use Rattle.ots_model.specs.Name.{IsName}
use Rattle.ots_world.specs.declared.script.ScriptEvent.{ScriptEvent}
use Rattle.ots_world.specs.declared.script.ScriptEvent.TheVariants as events
use Rattle.coordinator.specs.declared.event.Act.TheVariants as acts
use Rattle.nodes_world.specs.declared.deed.Deed.{Deed}
use Rattle.nodes_world.specs.declared.deed.Deed.TheVariants as deeds
use Rattle.nodes_world.specs.declared.deed.Manner.{Manner}
use Rattle.nodes_world.specs.declared.deed.Manner.TheVariants as manners
use Rattle.nodes_world.specs.Agreement.{GivesName, Reaches, further, nothing}
use Rattle.nodes_world.specs.Lives.{last_lines}
use Rattle.nodes_world.specs.Resolve.{asks_for, begins_named, calls_named, commits_as, commits_named, creates_named, end_named, ends_by, if_free, may_commit, may_register, node_named, only_if, puts_named, refuses_named, registers_named, registers_with, relates_named, relation_act, resolve, status_act, transaction_named}
use Rattle.nodes_world.specs.Step.{carried_out}
use Rattle.nodes_world.specs.Told.{Told}
use Rattle.nodes_world.specs.World.{World, is_free}
use Rattle.nodes_told.specs.Reached.{ReachedLinesAreTold}
use Rattle.nodes_told.specs.Reading.{IsTold}
use Rattle.nodes_told.proofs.FamilySays.{append_all}
use Rattle.nodes_told.proofs.LinesTold.{AllTold, WorldReads}
use Rattle.nodes_told.proofs.WorldTells.{DeedNamed, carried_reads, carried_told, empty_reads, last_told}

-- ---- the deed of a line gives the name that the line gives

only_named : (so : Bool) (made deed : Deed) → only_if so made ≡ Some deed → DeedNamed made → DeedNamed deed
only_named true made deed is named = subst DeedNamed (inner is) named
  where
    inner : {x y : Deed} → Some x ≡ Some y → x ≡ y
    inner is = cc
only_named false made deed is named = absurd cc

mapped_named : {A : Type 0} (make : A → Deed) (o : Option A) (deed : Deed) → option_map make o ≡ Some deed → ((x : A) → DeedNamed (make x)) → DeedNamed deed
mapped_named make (Some x) deed is named = only_named true (make x) deed is (named x)
mapped_named make None deed is named = absurd cc

then_named : {A : Type 0} (make : A → Option Deed) (o : Option A) (deed : Deed) → option_and_then make o ≡ Some deed
    → ((x : A) → make x ≡ Some deed → DeedNamed deed) → DeedNamed deed
then_named make (Some x) deed is named = named x is
then_named make None deed is named = absurd cc

registers_deed : (w : World) (manner : Manner) (transaction end name : List ℕ) (deed : Deed) → registers_named w manner transaction end name ≡ Some deed → IsName name
    → DeedNamed deed
unfolding registers_named
registers_deed w manner transaction end name deed is named =
    then_named (λ (key : ObjectKey). option_and_then (registers_with w manner name key) (end_named w end)) (transaction_named w transaction) deed is
    (λ key at. then_named (registers_with w manner name key) (end_named w end) deed at
    (λ place there. only_named (is_free w name && may_register manner w key) (deeds.Register manner key place name) deed there named))

call_named : (w : World) (name : List ℕ) (make : ObjectKey → Deed) (deed : Deed) → calls_named w name make ≡ Some deed → ((key : ObjectKey) → DeedNamed (make key)) → DeedNamed deed
call_named w name make deed is named = mapped_named make (transaction_named w name) deed is named

resolved : (event : ScriptEvent) (deed : Deed) (w : World) → resolve event w ≡ Some deed → GivesName event → DeedNamed deed
unfolding resolve begins_named creates_named puts_named refuses_named commits_named relates_named
resolved (events.Node name) deed w is named = only_named (is_free w name) (deeds.MakeNode name) deed is named
resolved (events.End name) deed w is named = only_named (is_free w name) (deeds.MakeEnd name) deed is named
resolved (events.Begin node name seconds) deed w is named =
    then_named (λ (place : ℕ). if_free w name (deeds.Begin place name seconds)) (node_named w node) deed is
    (λ place at. only_named (is_free w name) (deeds.Begin place name seconds) deed at named)
resolved (events.Sub parent name) deed w is named =
    then_named (λ (key : ObjectKey). if_free w name (deeds.Create key name)) (transaction_named w parent) deed is
    (λ key at. only_named (is_free w name) (deeds.Create key name) deed at named)
resolved (events.Register transaction end resource) deed w is named = registers_deed w manners.Resource transaction end resource deed is named
resolved (events.Aware transaction end resource) deed w is named = registers_deed w manners.Aware transaction end resource deed is named
resolved (events.Double transaction end resource) deed w is named = registers_deed w manners.Double transaction end resource deed is named
resolved (events.Put resource cell value) deed w is named = mapped_named (λ (key : ObjectKey). deeds.Put key cell value) _ deed is (λ key. tt)
resolved (events.Refuse resource) deed w is named = mapped_named deeds.Refuse _ deed is (λ key. tt)
resolved (events.Commit transaction reports) deed w is named =
    then_named (commits_as w reports) (transaction_named w transaction) deed is
    (λ key at. only_named (may_commit w key reports) (ends_by (acts.Commit reports) key) deed at tt)
resolved (events.Rollback transaction) deed w is named = call_named w transaction (ends_by acts.Rollback) deed is (λ key. tt)
resolved (events.Mark transaction) deed w is named = call_named w transaction (asks_for acts.RollbackOnly) deed is (λ key. tt)
resolved (events.Status transaction whose) deed w is named = call_named w transaction (asks_for (status_act whose)) deed is (λ key. tt)
resolved (events.Relate relation transaction other) deed w is named =
    then_named (λ (key : ObjectKey). calls_named w transaction (asks_for (relation_act relation key))) (transaction_named w other) deed is
    (λ key at. call_named w transaction (asks_for (relation_act relation key)) deed at (λ k. tt))
resolved (events.NameOf transaction) deed w is named = call_named w transaction (asks_for acts.GetTransactionName) deed is (λ key. tt)
resolved (events.Hash transaction) deed w is named = call_named w transaction (asks_for acts.HashTransaction) deed is (λ key. tt)
resolved (events.Flow count) deed w is named = only_named true (deeds.Flow count) deed is tt
resolved (events.Tick server seconds) deed w is named = mapped_named (λ (place : ℕ). deeds.Tick place seconds) _ deed is (λ place. tt)
resolved (events.Crash server) deed w is named = mapped_named deeds.Crash _ deed is (λ place. tt)
resolved (events.Restart server) deed w is named = mapped_named deeds.Restart _ deed is (λ place. tt)
resolved (events.Stop server write image) deed w is named = mapped_named (λ (place : ℕ). deeds.Stop place write image) _ deed is (λ place. tt)
resolved _ deed w is named = absurd cc

-- ---- worlds

reached : (w : World) (told : List Told) → Reaches w told → WorldReads w
reached w told nothing = empty_reads
reached w told (further before earlier event deed there few named is limit) =
    carried_reads deed before (resolved event deed before is named) (reached before earlier there)

told_well : (w : World) (told : List Told) → Reaches w told → AllTold told
told_well w told nothing = tt
told_well w told (further before earlier event deed there few named is limit) =
    append_all IsTold earlier (carried_out deed before).lines (told_well before earlier there)
    (carried_told deed before (resolved event deed before is named) (reached before earlier there))

pub reached_lines_are_told : ReachedLinesAreTold
reached_lines_are_told w told there = append_all IsTold told (last_lines w) (told_well w told there) (last_told w (reached w told there))
