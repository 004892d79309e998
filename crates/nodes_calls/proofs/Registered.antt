-- The end of a name makes an object, and a client registers it.
use Rattle.std.proofs.Common.{◌≡◌, ℕ, ◌+◌, Bool, true, false, List, length, slice_get, Option, Some, None, Result, Ok, Err, refl, sym, ap, subst, ◌∙◌, arith}
use Rattle.std.specs.Option.{option_and_then, option_map}
use Rattle.ior_refs.specs.declared.key.ObjectKey.{ObjectKey}
use Rattle.ots_world.specs.declared.fault.WorldFault.{WorldFault}
use Rattle.ots_world.specs.declared.fault.WorldFault.TheVariants as faults
use Rattle.coordinator.specs.declared.event.Act.{Act}
use Rattle.coordinator.specs.declared.said.Said.{Said}
use Rattle.nodes_world.specs.declared.deed.Manner.{Manner}
use Rattle.nodes_world.specs.Clients.{registered, registered_if, registers, registers_at, registers_object}
use Rattle.nodes_world.specs.Ends.{drawn_once, with_end, with_fresh}
use Rattle.nodes_world.specs.Happenings.{Done, changes, nothing, ◌▹◌}
use Rattle.nodes_world.specs.Objects.{place_of, resource_key}
use Rattle.nodes_world.specs.World.{FlatEnd, Seat, World, end_at, end_in, seat_name}
use Rattle.nodes_state.specs.Does.{Does}
use Rattle.nodes_state.specs.Shown.{shown}
use Rattle.nodes_state.specs.declared.state.State.{State}
use Rattle.nodes_state.proofs.Doing.{Grows}
use Rattle.nodes_clients.specs.Keeping.{KeepsSeats}
use Rattle.nodes_calls.specs.Registered.{was_registered}
use Rattle.nodes_clients.specs.Called.{called, comes_of}
use Rattle.nodes_calls.specs.Drawing.{HasMadeObject, IsOfEnd}
use Rattle.nodes_calls.specs.declared.objects.Object.{Object}
use Rattle.nodes_calls.proofs.Ends.{called_kept}
use Rattle.nodes_ready.proofs.EndsGrow.{end_messages}
use Rattle.nodes_ready.proofs.Keeping.{named_kept}

-- ---- the end at a place

module _ (manner : Manner) (transaction : ObjectKey) (place : ℕ) (name : List ℕ) (w : World) where
  abbrev registers_by : Option Seat → Done
  registers_by o = elim o as (λ _. Done) [ Some s ↦ registers_at manner transaction place s (end_in s.server) name w | None ↦ nothing w ]

  registers_seat : (o : Option Seat) → slice_get w.seats place ≡ o → registers manner transaction place name w ≡ registers_by o
  unfolding registers
  registers_seat o e = ap registers_by e

  none_by : (o : Option Seat) → option_and_then (λ (s : Seat). end_in s.server) o ≡ None → registers_by o ≡ nothing w
  none_by (Some s) none = ap (λ (e : Option FlatEnd). registers_at manner transaction place s e name w) none
  none_by None none = refl

  pub registers_nothing : end_at w place ≡ None → registers manner transaction place name w ≡ nothing w
  unfolding end_at
  registers_nothing none = registers_seat (slice_get w.seats place) refl ∙ none_by (slice_get w.seats place) none

  abbrev object_done : ℕ → List ℕ → Done
  object_done drawn end =
      changes (with_end place drawn_once w) ▹ registers_object manner (resource_key manner place (drawn + 1)) end transaction name

  some_by : (o : Option Seat) (e : FlatEnd) (end : List ℕ) → option_and_then (λ (s : Seat). end_in s.server) o ≡ Some e
      → option_map (λ (s : Seat). s.name) o ≡ Some end → registers_by o ≡ object_done e.drawn end
  some_by (Some s) e end there named =
      ap (λ (x : Option FlatEnd). registers_at manner transaction place s x name w) there
      ∙ ap (λ (x : Option (List ℕ)). elim x as (λ _. Done) [ Some n ↦ object_done e.drawn n | None ↦ nothing w ]) named
  some_by None e end there named = absurd cc

  registers_there : (e : FlatEnd) (end : List ℕ) → end_at w place ≡ Some e → seat_name w place ≡ Some end
      → registers manner transaction place name w ≡ object_done e.drawn end
  unfolding end_at
  registers_there e end there named = registers_seat (slice_get w.seats place) refl ∙ some_by (slice_get w.seats place) e end there named

  after_change : (f : World → Done) (u v : World) (before after : List ℕ) (result : Result (Unit {0}) WorldFault) → Does (f u) v before after result
      → Does (changes u ▹ f) v before after result
  after_change f u v before after (Ok x) d = d
  after_change f u v before after (Err faults.Memory) d = d
  after_change f u v before after (Err (faults.Limit n)) d = d
  after_change f u v before after (Err faults.Names) d = d

  pub registers_does : (o : Object) (u v : World) (before after : List ℕ) (result : Result (Unit {0}) WorldFault) → HasMadeObject manner place w u o
      → Does (registers_object o.manner o.key o.end transaction name u) v before after result
      → Does (registers manner transaction place name w) v before after result
  registers_does o u v before after result h d =
      let made = h.end in
      let object_is : registers_object o.manner o.key o.end transaction name u
      ≡ registers_object manner (resource_key manner place (made.drawn + 1)) o.end transaction name (with_end place drawn_once w)
      = ap (λ m. registers_object m o.key o.end transaction name u) h.manner
      ∙ ap (λ k. registers_object manner k o.end transaction name u) h.key
      ∙ ap (λ x. registers_object manner (resource_key manner place (made.drawn + 1)) o.end transaction name x) h.later in
      subst (λ (x : Done). Does x v before after result) (sym (registers_there made o.end h.there h.named))
      (after_change (registers_object manner (resource_key manner place (made.drawn + 1)) o.end transaction name) (with_end place drawn_once w) v before after result
      (subst (λ (x : Done). Does x v before after result) object_is d))

-- ---- what comes of the answer

module _ (manner : Manner) (key : ObjectKey) (end : List ℕ) (transaction : ObjectKey) (name : List ℕ) where
  if_grows : (b : Bool) → Grows (registered_if b manner key end transaction name)
  if_grows true = λ w. let e = ap (λ ms. length ms) (end_messages (place_of key) (with_fresh key) w) in omega arith
  if_grows false = λ w. omega arith

  pub registered_grows : (o : Option Said) → Grows (comes_of (registered manner key end transaction name) o)
  registered_grows (Some answer) = if_grows (was_registered manner (Some answer))
  registered_grows None = λ w. omega arith

  pub registered_by : (o : Option Said) (w : World) → comes_of (registered manner key end transaction name) o w
      ≡ registered_if (was_registered manner o) manner key end transaction name w
  registered_by (Some answer) w = refl
  registered_by None w = refl

-- ---- what stays

-- a client's call leaves the object that an end made last
pub object_kept : (old new : State) (o : Object) (to : ObjectKey) (act : Act) → shown new ≡ (called to act (shown old)).done.world → KeepsSeats old new
    → IsOfEnd o (shown old) → IsOfEnd o (shown new)
object_kept old new o to act world keeps made = record {
  end = made.end;
  there = ap (λ (w : World). end_at w (place_of o.key)) world ∙ called_kept to act (shown old) (place_of o.key) ∙ made.there;
  last = made.last;
  named = named_kept old new keeps (place_of o.key) ∙ made.named;
}
