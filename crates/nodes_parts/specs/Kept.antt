-- The resources of an end, as the code keeps them (our profile).
use Rattle.std.specs.Prelude.{◌≡◌, ℕ, ◌+◌, ◌-◌, Bool, List, ◌==◌, find, length, slice_get, Option, Some, None, if◌then◌else◌}
use Rattle.std.specs.List.{filter_map, list_any}
use Rattle.std.specs.Option.{option_map}
use Rattle.nodes_world.specs.World.{FlatEnd, FlatResource}
use Rattle.nodes_world.specs.Resolve.{has_put}
use Rattle.nodes_parts.specs.declared.ends.Resource.{Resource}

-- a resource as it is defined
abbrev pub flat : Resource → FlatResource
flat r = record { key = r.key; state = r.state; put = r.put; refused = r.refused }

-- an object that is a resource
abbrev pub flat_object : Option Resource → Option FlatResource
flat_object o = option_map flat o

-- the resources among the objects
abbrev pub flat_all : List (Option Resource) → List FlatResource
flat_all objects = filter_map flat_object objects

-- the end of these objects
abbrev pub end_of : List (Option Resource) → FlatEnd
end_of objects = record { drawn = length objects; resources = flat_all objects }

-- each resource has the number of its place
abbrev pub AreNumbered : List (Option Resource) → Type 0
AreNumbered objects = (i : ℕ) (r : Resource) → slice_get objects i ≡ Some (Some r) → r.key.generation ≡ i + 1

-- the resource with a number
abbrev pub numbered : ℕ → FlatResource → Bool
numbered number r = r.key.generation == number

abbrev pub resource_numbered : ℕ → FlatEnd → Option FlatResource
resource_numbered number e = find (numbered number) e.resources

-- a cell is one that a resource names
abbrev pub names_cell : ℕ → FlatEnd → Bool
names_cell cell e = list_any (has_put cell) e.resources

-- the place of the object with a number
abbrev pub place_numbered : ℕ → Option ℕ
place_numbered number = if number == 0 then None else Some (number - 1)
