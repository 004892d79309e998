-- Objects that ends make (our profile).
use Rattle.std.specs.Prelude.{◌≡◌, ℕ, ◌+◌, ◌<◌, Option, Some, None}
use Rattle.ior_refs.specs.declared.key.ObjectKey.{ObjectKey}
use Rattle.nodes_parts.specs.Kept.{resource_numbered}
use Rattle.nodes_world.specs.declared.deed.Manner.{Manner}
use Rattle.nodes_world.specs.Ends.{drawn_once, with_end}
use Rattle.nodes_world.specs.Objects.{place_of, resource_key}
use Rattle.nodes_world.specs.World.{FlatEnd, World, end_at, seat_name}
use Rattle.nodes_state.specs.declared.seats.Server.{Server}
use Rattle.nodes_state.specs.declared.seats.Server.TheVariants as servers
use Rattle.nodes_calls.specs.declared.objects.Object.{Object}

-- what stands at a seat, where it is an end, has made an object with this number, which is no resource
abbrev pub HasDrawn : Server → Server → Option ℕ → Type 0
HasDrawn (servers.End e) after (Some number) =
    (number ≡ e.drawn + 1) × (resource_numbered number e ≡ None) × (after ≡ servers.End (drawn_once e))
HasDrawn (servers.End e) after None = ⊥
HasDrawn other after (Some number) = ⊥
HasDrawn other after None = after ≡ other

-- the object that an end made last has this key, and is no resource
pub record IsLast (key : ObjectKey) (e : FlatEnd) : Type 0 where
  pub number : key.generation ≡ e.drawn
  pub some : 0 < e.drawn
  pub free : resource_numbered e.drawn e ≡ None

abbrev pub IsLastIn : ObjectKey → Server → Type 0
IsLastIn key (servers.End e) = IsLast key e
IsLastIn key other = Unit {0}

-- at its place there is an end of this name, which made it last
pub record IsOfEnd (o : Object) (w : World) : Type 0 where
  pub end : FlatEnd
  pub there : end_at w (place_of o.key) ≡ Some end
  pub last : IsLast o.key end
  pub named : seat_name w (place_of o.key) ≡ Some o.end

-- the end at a place has made an object with the next number
pub record HasMadeObject (called : Manner) (place : ℕ) (before after : World) (o : Object) : Type 0 where
  pub end : FlatEnd
  pub there : end_at before place ≡ Some end
  pub named : seat_name before place ≡ Some o.end
  pub manner : o.manner ≡ called
  pub key : o.key ≡ resource_key called place (end.drawn + 1)
  pub later : after ≡ with_end place drawn_once before

-- or there is no end
abbrev pub DrawsObject : Manner → ℕ → World → World → Option Object → Type 0
DrawsObject manner place before after (Some o) = HasMadeObject manner place before after o × IsOfEnd o after
DrawsObject manner place before after None = (end_at before place ≡ None) × (after ≡ before)
