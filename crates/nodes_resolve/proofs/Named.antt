-- The deed that a line is in a world has what it needs there.
use Rattle.std.proofs.Common.{◌≡◌, ◌⊎◌, inl, inr, ℕ, ◌&&◌, Bool, true, false, List, Option, Some, None, Result, IfOk, is_none, is_some, refl, sym, ap, subst, ◌∙◌}
use Rattle.std.specs.Option.{ok_or, option_and_then, option_map}
use Rattle.ior_refs.specs.declared.key.ObjectKey.{ObjectKey}
use Rattle.coordinator.specs.declared.event.Act.TheVariants as acts
use Rattle.service_node.specs.Given.{node_makes}
use Rattle.ots_world.specs.declared.fault.WorldFault.{WorldFault}
use Rattle.ots_world.specs.declared.fault.WorldFault.TheVariants as faults
use Rattle.ots_world.specs.declared.script.Relation.{Relation}
use Rattle.ots_world.specs.declared.script.Relation.TheVariants as relations
use Rattle.ots_world.specs.declared.script.ScriptEvent.{ScriptEvent}
use Rattle.ots_world.specs.declared.script.ScriptEvent.TheVariants as events
use Rattle.ots_world.specs.declared.script.Whose.{Whose}
use Rattle.ots_world.specs.declared.script.Whose.TheVariants as whoses
use Rattle.nodes_world.specs.declared.deed.Deed.{Deed}
use Rattle.nodes_world.specs.declared.deed.Deed.TheVariants as deeds
use Rattle.nodes_world.specs.declared.deed.Manner.{Manner}
use Rattle.nodes_world.specs.declared.deed.Manner.TheVariants as manners
use Rattle.nodes_world.specs.Resolve.{as_seat, asks_for, begins_named, calls_named, commits_as, commits_named, creates_named, down_named, end_named, ends_by, if_free, is_down_at, may_commit, may_put, may_refuse, may_register, node_named, only_if, puts_named, refuses_named, registers_named, registers_with, relates_named, relation_act, resolve, resource_named, status_act, transaction_named, where_so}
use Rattle.nodes_world.specs.World.{World, end_at, is_free, node_at, thing}
use Rattle.nodes_resolve.specs.Lines.{IsAnswered, making_line}
use Rattle.nodes_resolve.specs.Named.{IsEndUp, IsFree, IsNamed, IsNodeUp}

-- ---- what an option gives

found_of : {A B : Type 0} (f : A → Option B) (o : Option A) (y : B) → option_and_then f o ≡ Some y → (x : A) × (o ≡ Some x) × (f x ≡ Some y)
found_of f (Some x) y is = (x, refl, is)
found_of f None y is = absurd cc

mapped_of : {A B : Type 0} (f : A → B) (o : Option A) (y : B) → option_map f o ≡ Some y → (x : A) × (o ≡ Some x) × (y ≡ f x)
mapped_of f (Some x) y is = (x, refl, cc)
mapped_of f None y is = absurd cc

only_of : {A : Type 0} (so : Bool) (x y : A) → only_if so x ≡ Some y → (so ≡ true) × (y ≡ x)
only_of true x y is = (refl, cc)
only_of false x y is = absurd cc

none_of : {A : Type 0} (o : Option A) → is_none o ≡ true → o ≡ None
none_of (Some x) is = absurd cc
none_of None is = refl

left_of : (a b : Bool) → (a && b) ≡ true → a ≡ true
left_of true b is = refl
left_of false b is = absurd cc

-- what is found where it is so, is so
so_of : {A : Type 0} (is_so : A → Bool) (o : Option A) (y : A) → option_and_then (where_so is_so) o ≡ Some y → is_so y ≡ true
so_of is_so o y is =
    let at = found_of (where_so is_so) o y is in
    let only = only_of (is_so at.0) at.0 y at.2 in
    ap is_so only.1 ∙ only.0

-- ---- what a name names

node_up : (w : World) (name : List ℕ) (place : ℕ) → node_named w name ≡ Some place → IsNodeUp w place
node_up w name place is = so_of (λ (x : ℕ). is_some (node_at w x)) (option_and_then as_seat (thing w name)) place is

end_up : (w : World) (name : List ℕ) (place : ℕ) → end_named w name ≡ Some place → IsEndUp w place
end_up w name place is = so_of (λ (x : ℕ). is_some (end_at w x)) (option_and_then as_seat (thing w name)) place is

node_down : (w : World) (name : List ℕ) (place : ℕ) → down_named w name ≡ Some place → is_down_at w place ≡ true
node_down w name place is = so_of (is_down_at w) (option_and_then as_seat (thing w name)) place is

-- ---- kinds of lines

-- a line that makes something of a name
free_named : (w : World) (name : List ℕ) (made deed : Deed) → if_free w name made ≡ Some deed → (IsFree w name → IsNamed made w) → IsNamed deed w
free_named w name made deed is named =
    let only = only_of (is_free w name) made deed is in
    subst (λ (d : Deed). IsNamed d w) (sym only.1) (named (none_of (thing w name) only.0))

-- one whose deed is about what was found
found_named : {A : Type 0} (make : A → Deed) (o : Option A) (w : World) (deed : Deed) → option_map make o ≡ Some deed
    → ((x : A) → o ≡ Some x → IsNamed (make x) w) → IsNamed deed w
found_named make o w deed is named =
    let at = mapped_of make o deed is in
    subst (λ (d : Deed). IsNamed d w) (sym at.2) (named at.0 at.1)

begin_named : (w : World) (node name : List ℕ) (seconds : ℕ) (deed : Deed) → begins_named w node name seconds ≡ Some deed → IsNamed deed w
unfolding begins_named
begin_named w node name seconds deed is =
    let at = found_of (λ (place : ℕ). if_free w name (deeds.Begin place name seconds)) (node_named w node) deed is in
    free_named w name (deeds.Begin at.0 name seconds) deed at.2 (λ free. (node_up w node at.0 at.1, free))

create_named : (w : World) (parent name : List ℕ) (deed : Deed) → creates_named w parent name ≡ Some deed → IsNamed deed w
unfolding creates_named
create_named w parent name deed is =
    let at = found_of (λ (key : ObjectKey). if_free w name (deeds.Create key name)) (transaction_named w parent) deed is in
    free_named w name (deeds.Create at.0 name) deed at.2 (λ free. free)

register_named : (w : World) (manner : Manner) (transaction end name : List ℕ) (deed : Deed) → registers_named w manner transaction end name ≡ Some deed
    → IsNamed deed w
unfolding registers_named
register_named w manner transaction end name deed is =
    let key = found_of (λ (key : ObjectKey). option_and_then (registers_with w manner name key) (end_named w end)) (transaction_named w transaction) deed is in
    let place = found_of (registers_with w manner name key.0) (end_named w end) deed key.2 in
    let only = only_of (is_free w name && may_register manner w key.0) (deeds.Register manner key.0 place.0 name) deed place.2 in
    let free = none_of (thing w name) (left_of (is_free w name) (may_register manner w key.0) only.0) in
    subst (λ (d : Deed). IsNamed d w) (sym only.1) (end_up w end place.0 place.1, free)

put_named : (w : World) (name : List ℕ) (cell value : ℕ) (deed : Deed) → puts_named w name cell value ≡ Some deed → IsNamed deed w
unfolding puts_named
put_named w name cell value deed is =
    found_named (λ (key : ObjectKey). deeds.Put key cell value) (option_and_then (where_so (may_put w cell)) (resource_named w name)) w deed is
    (λ key at. so_of (may_put w cell) (resource_named w name) key at)

refuse_named : (w : World) (name : List ℕ) (deed : Deed) → refuses_named w name ≡ Some deed → IsNamed deed w
unfolding refuses_named
refuse_named w name deed is =
    found_named deeds.Refuse (option_and_then (where_so (may_refuse w)) (resource_named w name)) w deed is (λ key at. tt)

-- ---- the calls of clients

call_named : (w : World) (name : List ℕ) (make : ObjectKey → Deed) (deed : Deed) → calls_named w name make ≡ Some deed
    → ((key : ObjectKey) → IsNamed (make key) w) → IsNamed deed w
call_named w name make deed is named = found_named make (transaction_named w name) w deed is (λ key at. named key)

commit_named : (w : World) (name : List ℕ) (reports : Bool) (deed : Deed) → commits_named w name reports ≡ Some deed → IsNamed deed w
unfolding commits_named
commit_named w name reports deed is =
    let at = found_of (commits_as w reports) (transaction_named w name) deed is in
    let only = only_of (may_commit w at.0 reports) (ends_by (acts.Commit reports) at.0) deed at.2 in
    subst (λ (d : Deed). IsNamed d w) (sym only.1) refl

no_status_made : (whose : Whose) → node_makes (status_act whose) ≡ false
no_status_made whoses.Own = refl
no_status_made whoses.Parent = refl
no_status_made whoses.Top = refl

no_relation_made : (relation : Relation) (key : ObjectKey) → node_makes (relation_act relation key) ≡ false
no_relation_made relations.Same key = refl
no_relation_made relations.Ancestor key = refl
no_relation_made relations.Descendant key = refl
no_relation_made relations.Related key = refl

relate_named : (w : World) (relation : Relation) (name other : List ℕ) (deed : Deed) → relates_named w relation name other ≡ Some deed → IsNamed deed w
unfolding relates_named
relate_named w relation name other deed is =
    let at = found_of (λ (key : ObjectKey). calls_named w name (asks_for (relation_act relation key))) (transaction_named w other) deed is in
    call_named w name (asks_for (relation_act relation at.0)) deed at.2 (λ key. no_relation_made relation at.0)

-- ---- a line

flow_named : (count : ℕ) (w : World) (deed : Deed) → Some (deeds.Flow count) ≡ Some deed → IsNamed deed w
flow_named count w deed is = subst (λ (d : Deed). IsNamed d w) (same is) tt
  where
    same : {x y : Deed} → Some x ≡ Some y → x ≡ y
    same is = cc

pub line_named : (event : ScriptEvent) (deed : Deed) (w : World) → resolve event w ≡ Some deed → IsNamed deed w
unfolding resolve
line_named (events.Node name) deed w is = free_named w name (deeds.MakeNode name) deed is (λ free. free)
line_named (events.End name) deed w is = free_named w name (deeds.MakeEnd name) deed is (λ free. free)
line_named (events.Begin node name seconds) deed w is = begin_named w node name seconds deed is
line_named (events.Sub parent name) deed w is = create_named w parent name deed is
line_named (events.Register transaction end name) deed w is = register_named w manners.Resource transaction end name deed is
line_named (events.Aware transaction end name) deed w is = register_named w manners.Aware transaction end name deed is
line_named (events.Double transaction end name) deed w is = register_named w manners.Double transaction end name deed is
line_named (events.Put name cell value) deed w is = put_named w name cell value deed is
line_named (events.Refuse name) deed w is = refuse_named w name deed is
line_named (events.Commit name reports) deed w is = commit_named w name reports deed is
line_named (events.Rollback name) deed w is = call_named w name (ends_by acts.Rollback) deed is (λ key. refl)
line_named (events.Mark name) deed w is = call_named w name (asks_for acts.RollbackOnly) deed is (λ key. refl)
line_named (events.Status name whose) deed w is = call_named w name (asks_for (status_act whose)) deed is (λ key. no_status_made whose)
line_named (events.Relate relation name other) deed w is = relate_named w relation name other deed is
line_named (events.NameOf name) deed w is = call_named w name (asks_for acts.GetTransactionName) deed is (λ key. refl)
line_named (events.Hash name) deed w is = call_named w name (asks_for acts.HashTransaction) deed is (λ key. refl)
line_named (events.Flow count) deed w is = flow_named count w deed is
line_named (events.Tick server seconds) deed w is =
    found_named (λ (place : ℕ). deeds.Tick place seconds) (node_named w server) w deed is (λ place at. node_up w server place at)
line_named (events.Crash server) deed w is = found_named deeds.Crash (node_named w server) w deed is (λ place at. node_up w server place at)
line_named (events.Restart server) deed w is = found_named deeds.Restart (down_named w server) w deed is (λ place at. node_down w server place at)
line_named (events.Stop server write image) deed w is =
    found_named (λ (place : ℕ). deeds.Stop place write image) (node_named w server) w deed is (λ place at. node_up w server place at)
line_named _ deed w is = absurd cc

-- so what is answered to a line is a deed that has what it needs
pub answer_named : (event : ScriptEvent) (w : World) (keeps : Bool) (result : Result Deed WorldFault) → IsAnswered keeps (resolve event w) result
    → IfOk result (λ deed. IsNamed deed w)
answer_named event w keeps result answered = by keeps (resolve event w) refl answered
  where
    by : (keeps : Bool) (found : Option Deed) → resolve event w ≡ found → IsAnswered keeps found result → IfOk result (λ deed. IsNamed deed w)
    by keeps None is answered = subst (λ (r : Result Deed WorldFault). IfOk r (λ deed. IsNamed deed w)) (sym answered) tt
    by false (Some deed) is answered = subst (λ (r : Result Deed WorldFault). IfOk r (λ deed. IsNamed deed w)) (sym answered) (line_named event deed w is)
    by true (Some deed) is (inl answered) = subst (λ (r : Result Deed WorldFault). IfOk r (λ deed. IsNamed deed w)) (sym answered) (line_named event deed w is)
    by true (Some deed) is (inr answered) = subst (λ (r : Result Deed WorldFault). IfOk r (λ deed. IsNamed deed w)) (sym answered) tt

-- all lines but `stop`
making_resolves : (event : ScriptEvent) (w : World) → (making_line event w ≡ None) ⊎ (resolve event w ≡ making_line event w)
unfolding resolve
making_resolves (events.Stop server write image) w = inl refl
making_resolves _ w = inr refl

-- what is answered to these
pub making_named : (event : ScriptEvent) (w : World) (result : Result Deed WorldFault) → result ≡ ok_or (making_line event w) faults.Names
    → IfOk result (λ deed. IsNamed deed w)
making_named event w result answered = subst (λ (r : Result Deed WorldFault). IfOk r (λ deed. IsNamed deed w)) (sym answered) (by (making_line event w) refl)
  where
    named : (deed : Deed) → making_line event w ≡ Some deed → (making_line event w ≡ None) ⊎ (resolve event w ≡ making_line event w) → IsNamed deed w
    named deed is (inl none) = absurd cc
    named deed is (inr same) = line_named event deed w (same ∙ is)

    by : (found : Option Deed) → making_line event w ≡ found → IfOk (ok_or found faults.Names) (λ deed. IsNamed deed w)
    by None is = tt
    by (Some deed) is = named deed is (making_resolves event w)
