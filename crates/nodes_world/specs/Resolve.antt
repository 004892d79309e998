-- What a line of a script names: the deed that it is in a world, or none, and then the line is refused (our profile). Nothing that
-- is down can be named but in a restart. Some lines are refused until what they need is there.
use Rattle.std.specs.Prelude.{ℕ, ◌==◌, ◌&&◌, ◌||◌, Bool, true, false, not, List, length, slice_get, Option, Some, None, is_none, is_some}
use Rattle.std.specs.List.{list_all, list_any}
use Rattle.std.specs.Option.{option_map, option_map_or, option_and_then}
use Rattle.ior_refs.specs.declared.key.ObjectKey.{ObjectKey}
use Rattle.ots_world.specs.declared.script.Relation.{Relation}
use Rattle.ots_world.specs.declared.script.Relation.TheVariants as relations
use Rattle.ots_world.specs.declared.script.ScriptEvent.{ScriptEvent}
use Rattle.ots_world.specs.declared.script.ScriptEvent.TheVariants as events
use Rattle.ots_world.specs.declared.script.Whose.{Whose}
use Rattle.ots_world.specs.declared.script.Whose.TheVariants as whoses
use Rattle.decision_journal.specs.declared.record.Put.{Put}
use Rattle.resource_votes.specs.Ballots.{participants}
use Rattle.resource_votes.specs.declared.registration.Registration.{Registration}
use Rattle.coordinator.specs.declared.event.Act.{Act}
use Rattle.coordinator.specs.declared.event.Act.TheVariants as acts
use Rattle.coordinator.specs.declared.phase.Phase.{Phase}
use Rattle.coordinator.specs.declared.phase.Phase.TheVariants as phases
use Rattle.coordinator.specs.Family.{Family}
use Rattle.coordinator.specs.NodeRecords.{terminator_kind}
use Rattle.coordinator.specs.Phases.{phase}
use Rattle.nodes_world.specs.declared.deed.Deed.{Deed}
use Rattle.nodes_world.specs.declared.deed.Deed.TheVariants as deeds
use Rattle.nodes_world.specs.declared.deed.Manner.{Manner}
use Rattle.nodes_world.specs.declared.deed.Manner.TheVariants as manners
use Rattle.nodes_world.specs.declared.thing.Thing.{Thing}
use Rattle.nodes_world.specs.declared.thing.Thing.TheVariants as things
use Rattle.nodes_world.specs.Objects.{place_of}
use Rattle.nodes_world.specs.World.{World, Seat, Server, OfNode, OfEnd, FlatEnd, FlatResource, NamedKey, end_at, family_at, is_free, is_up, node_at, resource_at, referred, thing}

-- ---- what a name names

abbrev pub as_seat : Thing → Option ℕ
as_seat (things.Seat place) = Some place
as_seat _ = None

abbrev pub as_transaction : Thing → Option ObjectKey
as_transaction (things.Transaction key) = Some key
as_transaction _ = None

abbrev pub as_resource : Thing → Option ObjectKey
as_resource (things.Resource key) = Some key
as_resource _ = None

-- it is so, or nothing is named
abbrev pub only_if : {A : Type 0} → Bool → A → Option A
only_if true x = Some x
only_if false x = None

abbrev pub where_so : {A : Type 0} → (A → Bool) → A → Option A
where_so is_so x = only_if (is_so x) x

-- the place of the node, and of the end, that has this name and is up
abbrev pub node_named : World → List ℕ → Option ℕ
node_named w name = option_and_then (where_so (λ (place : ℕ). is_some (node_at w place))) (option_and_then as_seat (thing w name))

abbrev pub end_named : World → List ℕ → Option ℕ
end_named w name = option_and_then (where_so (λ (place : ℕ). is_some (end_at w place))) (option_and_then as_seat (thing w name))

-- of a node that is down
abbrev pub is_down_node : Server → Bool
is_down_node (OfNode up) = is_none up
is_down_node (OfEnd up) = false

abbrev pub is_down_at : World → ℕ → Bool
is_down_at w place = option_map_or (λ (s : Seat). is_down_node s.server) (slice_get w.seats place) false

abbrev pub down_named : World → List ℕ → Option ℕ
down_named w name = option_and_then (where_so (is_down_at w)) (option_and_then as_seat (thing w name))

-- the key of the transaction, and of the resource, that has this name; its node or end is up
abbrev pub is_key_up : World → ObjectKey → Bool
is_key_up w key = is_up w (place_of key)

abbrev pub transaction_named : World → List ℕ → Option ObjectKey
transaction_named w name = option_and_then (where_so (is_key_up w)) (option_and_then as_transaction (thing w name))

abbrev pub resource_named : World → List ℕ → Option ObjectKey
resource_named w name = option_and_then (where_so (is_key_up w)) (option_and_then as_resource (thing w name))

-- a deed that makes something of this name: it is free
abbrev pub if_free : World → List ℕ → Deed → Option Deed
if_free w name deed = only_if (is_free w name) deed

-- ---- lines that are refused so far

-- the top-level transaction of a key is in this phase, in the family that its slot holds
abbrev pub is_finishing_in : Phase → Bool
is_finishing_in phases.Finishing = true
is_finishing_in _ = false

abbrev pub is_active_in : Phase → Bool
is_active_in phases.Active = true
is_active_in _ = false

-- it is to commit, and nobody was asked yet
abbrev pub is_finishing : World → ObjectKey → Bool
is_finishing w key = key.index == 0 && option_map_or (λ (f : Family). is_finishing_in (phase f)) (family_at w key) false

-- a resource that takes part in the two phases isn't registered then
abbrev pub may_register : Manner → World → ObjectKey → Bool
may_register manners.Aware w key = true
may_register _ w key = not (is_finishing w key)

-- a put or a refuse of it was accepted
abbrev pub is_touched : FlatResource → Bool
is_touched r = is_some r.put || r.refused

-- so it is of the resource that is registered so
abbrev pub is_touched_one : World → Registration → Bool
is_touched_one w r =
    option_map_or is_touched (option_and_then (λ (x : NamedKey). resource_at w x.key) (referred w r.to)) false

-- nobody takes part, or several do, and each was put or refused something
abbrev pub may_ask : World → List Registration → Bool
may_ask w some = not (length some == 1) && list_all (is_touched_one w) some

-- the top-level transaction of a family that is going on asks its participants
abbrev pub may_commit_top : World → Family → ObjectKey → Bool
may_commit_top w f key = not (key.index == 0 && is_active_in (phase f)) || may_ask w (participants 0 f.ballots)

-- reports are asked for only where the transaction has no list
abbrev pub may_report : Family → ObjectKey → Bool → Bool
may_report f key reports = not reports || length (participants key.index f.ballots) == 0

abbrev pub may_commit : World → ObjectKey → Bool → Bool
may_commit w key reports =
    option_map_or (λ (f : Family). may_commit_top w f key && may_report f key reports) (family_at w key) true

-- the resource has a put of the cell
abbrev pub has_put : ℕ → FlatResource → Bool
has_put cell r = option_map_or (λ (p : Put). p.cell == cell) r.put false

-- no other resource of its end names the cell, and nothing was put or refused for it
abbrev pub is_cell_free : World → ObjectKey → ℕ → Bool
is_cell_free w key cell = option_map_or (λ (e : FlatEnd). not (list_any (has_put cell) e.resources)) (end_at w (place_of key)) false

abbrev pub may_put : World → ℕ → ObjectKey → Bool
may_put w cell key = not (option_map_or is_touched (resource_at w key) true) && is_cell_free w key cell

-- it doesn't refuse yet
abbrev pub may_refuse : World → ObjectKey → Bool
may_refuse w key = option_map_or (λ (r : FlatResource). not r.refused) (resource_at w key) false

-- ---- the calls of clients

-- commit and rollback are those of a transaction's terminator
abbrev pub terminator_of : ObjectKey → ObjectKey
terminator_of key = record key { kind = terminator_kind }

abbrev pub ends_by : Act → ObjectKey → Deed
ends_by act key = deeds.Call (terminator_of key) act

-- all else is asked of its coordinator
abbrev pub asks_for : Act → ObjectKey → Deed
asks_for act key = deeds.Call key act

abbrev pub status_act : Whose → Act
status_act whoses.Own = acts.GetStatus
status_act whoses.Parent = acts.GetParentStatus
status_act whoses.Top = acts.GetTopLevelStatus

abbrev pub relation_act : Relation → ObjectKey → Act
relation_act relations.Same other = acts.IsSameTransaction (Some other)
relation_act relations.Ancestor other = acts.IsAncestorTransaction (Some other)
relation_act relations.Descendant other = acts.IsDescendantTransaction (Some other)
relation_act relations.Related other = acts.IsRelatedTransaction (Some other)

abbrev pub calls_named : World → List ℕ → (ObjectKey → Deed) → Option Deed
calls_named w name deed = option_map deed (transaction_named w name)

-- ---- each line

unfoldable pub begins_named : World → List ℕ → List ℕ → ℕ → Option Deed
begins_named w node name seconds =
    option_and_then (λ (place : ℕ). if_free w name (deeds.Begin place name seconds)) (node_named w node)

unfoldable pub creates_named : World → List ℕ → List ℕ → Option Deed
creates_named w parent name =
    option_and_then (λ (key : ObjectKey). if_free w name (deeds.Create key name)) (transaction_named w parent)

abbrev pub registers_with : World → Manner → List ℕ → ObjectKey → ℕ → Option Deed
registers_with w manner name key place =
    only_if (is_free w name && may_register manner w key) (deeds.Register manner key place name)

unfoldable pub registers_named : World → Manner → List ℕ → List ℕ → List ℕ → Option Deed
registers_named w manner transaction end name =
    option_and_then (λ (key : ObjectKey). option_and_then (registers_with w manner name key) (end_named w end)) (transaction_named w transaction)

unfoldable pub puts_named : World → List ℕ → ℕ → ℕ → Option Deed
puts_named w resource cell value =
    option_map (λ (key : ObjectKey). deeds.Put key cell value) (option_and_then (where_so (may_put w cell)) (resource_named w resource))

unfoldable pub refuses_named : World → List ℕ → Option Deed
refuses_named w resource = option_map deeds.Refuse (option_and_then (where_so (may_refuse w)) (resource_named w resource))

abbrev pub commits_as : World → Bool → ObjectKey → Option Deed
commits_as w reports key = only_if (may_commit w key reports) (ends_by (acts.Commit reports) key)

unfoldable pub commits_named : World → List ℕ → Bool → Option Deed
commits_named w name reports = option_and_then (commits_as w reports) (transaction_named w name)

unfoldable pub relates_named : World → Relation → List ℕ → List ℕ → Option Deed
relates_named w relation name other =
    option_and_then (λ (key : ObjectKey). calls_named w name (asks_for (relation_act relation key))) (transaction_named w other)

-- the deed that a line is; the lines that aren't here are refused so far
unfoldable pub resolve : ScriptEvent → World → Option Deed
resolve (events.Node name) w = if_free w name (deeds.MakeNode name)
resolve (events.End name) w = if_free w name (deeds.MakeEnd name)
resolve (events.Begin node transaction seconds) w = begins_named w node transaction seconds
resolve (events.Sub parent transaction) w = creates_named w parent transaction
resolve (events.Register transaction end resource) w = registers_named w manners.Resource transaction end resource
resolve (events.Aware transaction end resource) w = registers_named w manners.Aware transaction end resource
resolve (events.Double transaction end resource) w = registers_named w manners.Double transaction end resource
resolve (events.Put resource cell value) w = puts_named w resource cell value
resolve (events.Refuse resource) w = refuses_named w resource
resolve (events.Commit transaction reports) w = commits_named w transaction reports
resolve (events.Rollback transaction) w = calls_named w transaction (ends_by acts.Rollback)
resolve (events.Mark transaction) w = calls_named w transaction (asks_for acts.RollbackOnly)
resolve (events.Status transaction whose) w = calls_named w transaction (asks_for (status_act whose))
resolve (events.Relate relation transaction other) w = relates_named w relation transaction other
resolve (events.NameOf transaction) w = calls_named w transaction (asks_for acts.GetTransactionName)
resolve (events.Hash transaction) w = calls_named w transaction (asks_for acts.HashTransaction)
resolve (events.Flow count) w = Some (deeds.Flow count)
resolve (events.Tick server seconds) w = option_map (λ (place : ℕ). deeds.Tick place seconds) (node_named w server)
resolve (events.Crash server) w = option_map deeds.Crash (node_named w server)
resolve (events.Restart server) w = option_map deeds.Restart (down_named w server)
resolve (events.Stop server write image) w = option_map (λ (place : ℕ). deeds.Stop place write image) (node_named w server)
resolve _ w = None
