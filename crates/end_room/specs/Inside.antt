-- How the resources of transactions are kept, and what is said of registering one.
use Rattle.std.specs.Prelude.{◌≡◌, ℕ, true, map, List, Option, Some, None}
use Rattle.std.specs.Global.{Vec}
use Rattle.std.specs.BTreeMap.{BTreeMap}
use Rattle.end_room.specs.Own.{IsNamed, Names}
use Rattle.end_room.specs.declared.ends.Enlisted.{Enlisted}

abbrev pub names_in : BTreeMap (Vec ℕ) Enlisted → Names
names_in m = map (λ e. (e.0.items, e.1)) m.entries

-- the resource of this transaction is registered, where it has one
abbrev pub IsBoundIn : Option Enlisted → List ℕ → Names → Names → Type 0
IsBoundIn None tid before after = after ≡ before
IsBoundIn (Some r) tid before after = IsNamed tid (record r { bound = true }) before after
