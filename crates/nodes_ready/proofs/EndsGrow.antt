-- What is done with the ends of a world and their resources adds no client's call.
use Rattle.std.proofs.Common.{◌≡◌, ℕ, List, Option, Some, None, codes, refl, ◌∙◌}
use Rattle.ior_refs.specs.declared.key.ObjectKey.{ObjectKey}
use Rattle.ots_model.specs.declared.line.ResourceState.{ResourceState}
use Rattle.ots_model.specs.declared.tree.Outward.{Outward}
use Rattle.ots_model.specs.declared.tree.Word.{Word}
use Rattle.resource_end.specs.Table.{row}
use Rattle.resource_end.specs.declared.state.Row.{Row}
use Rattle.resource_end.specs.declared.state.State.{State as Stage}
use Rattle.resource_end.specs.declared.state.Word.{Word as Told}
use Rattle.coordinator.specs.declared.said.Said.{Said}
use Rattle.nodes_world.specs.Ends.{answer_of_row, answers, closed_by, does_by, moves, obeys, obeys_as, obeys_row, obeys_word, put_into, puts, refuses_to, refusing, shown_state, state_lines, told_word, with_end, with_resource, with_resource_at}
use Rattle.nodes_world.specs.Happenings.{Done, nothing}
use Rattle.nodes_world.specs.Objects.{place_of}
use Rattle.nodes_world.specs.World.{FlatEnd, FlatResource, NamedKey, OfEnd, Seat, World, end_at, referred, resource_at, with_server}
use Rattle.nodes_ready.proofs.Growing.{Keeps, KeepsCalls, calls_same, calls_stay, calls_then, reply_keeps, seat_messages}

pub end_messages : (place : ℕ) (change : FlatEnd → FlatEnd) (w : World) → (with_end place change w).messages ≡ w.messages
end_messages place change w = by_end (end_at w place)
  where
    by_end : (o : Option FlatEnd) → (elim o as (λ _. World) [ Some e ↦ with_server place (OfEnd (Some (change e))) w | None ↦ w ]).messages ≡ w.messages
    by_end (Some e) = seat_messages place (λ (s : Seat). record s { server = OfEnd (Some (change e)) }) w
    by_end None = refl

resource_messages : (key : ObjectKey) (r : FlatResource) (w : World) → (with_resource_at key r w).messages ≡ w.messages
unfolding with_resource_at
resource_messages key r w = end_messages (place_of key) (with_resource r) w

-- ---- what a script does with a resource

does_keeps : (o : Option Said) (word : List ℕ) (key : ObjectKey) (r : FlatResource) → Keeps (does_by o word key r)
does_keeps None word key r w = calls_same w.messages (with_resource_at key r w).messages (resource_messages key r w)
does_keeps (Some answer) word key r w = calls_stay w.messages

pub puts_keep : (key : ObjectKey) (cell value : ℕ) → Keeps (puts key cell value)
unfolding puts
puts_keep key cell value w = by_resource (resource_at w key)
  where
    by_resource : (o : Option FlatResource)
        → KeepsCalls w.messages (elim o as (λ _. Done) [
          | Some r ↦ does_by (closed_by r.state) (codes "put") key (put_into cell value r) w
          | None ↦ nothing w
        ]).world.messages
    by_resource (Some r) = does_keeps (closed_by r.state) (codes "put") key (put_into cell value r) w
    by_resource None = calls_stay w.messages

pub refuses_keep : (key : ObjectKey) → Keeps (refuses_to key)
unfolding refuses_to
refuses_keep key w = by_resource (resource_at w key)
  where
    by_resource : (o : Option FlatResource)
        → KeepsCalls w.messages (elim o as (λ _. Done) [
          | Some r ↦ does_by (closed_by r.state) (codes "refuse") key (refusing r) w
          | None ↦ nothing w
        ]).world.messages
    by_resource (Some r) = does_keeps (closed_by r.state) (codes "refuse") key (refusing r) w
    by_resource None = calls_stay w.messages

-- ---- a word that comes to a resource

state_messages : (name : List ℕ) (o : Option ResourceState) (w : World) → (state_lines name o w).world.messages ≡ w.messages
state_messages name (Some s) w = refl
state_messages name None w = refl

moves_keep : (named : NamedKey) (r : FlatResource) (next : Option Stage) → Keeps (moves named r next)
moves_keep named r (Some s) w =
    let v : World = with_resource_at named.key (record r { state = s }) w in
    calls_same w.messages (moves named r (Some s) w).world.messages
    (state_messages named.name (shown_state s) v ∙ resource_messages named.key (record r { state = s }) w)
moves_keep named r None w = calls_stay w.messages

answers_keep : (request : ℕ) (o : Option Said) → Keeps (answers request o)
answers_keep request (Some answer) w = reply_keeps request answer w
answers_keep request None w = calls_stay w.messages

row_keeps : (request : ℕ) (named : NamedKey) (r : FlatResource) (by : Row) → Keeps (obeys_row request named r by)
row_keeps request named r by w =
    let v : World = (moves named r by.next w).world in
    calls_then w.messages v.messages (answers request (answer_of_row by.said) v).world.messages
    (moves_keep named r by.next w) (answers_keep request (answer_of_row by.said) v)

word_keeps : (o : Option Told) (request : ℕ) (named : NamedKey) (r : FlatResource) → Keeps (obeys_word o request named r)
word_keeps (Some word) request named r w = row_keeps request named r (row word r.state) w
word_keeps None request named r w = reply_keeps request _ w

pub obeys_as_keeps : (there : Option FlatResource) (request : ℕ) (named : NamedKey) (word : Word) → Keeps (obeys_as there request named word)
obeys_as_keeps (Some r) request named word w = word_keeps (told_word word) request named r w
obeys_as_keeps None request named word w = reply_keeps request _ w

pub obeys_keep : (request : ℕ) (o : Outward) → Keeps (obeys request o)
unfolding obeys
obeys_keep request o w = by_named (referred w o.to)
  where
    by_named : (n : Option NamedKey)
        → KeepsCalls w.messages (elim n as (λ _. Done) [ Some named ↦ obeys_as (resource_at w named.key) request named o.word w | None ↦ nothing w ]).world.messages
    by_named (Some named) = obeys_as_keeps (resource_at w named.key) request named o.word w
    by_named None = calls_stay w.messages
