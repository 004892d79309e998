-- What has a name keeps it, since names are added behind those that are there.
use Rattle.std.proofs.Common.{◌≡◌, ℕ, List, [], ◌∷◌, ◌++◌, Some, Bool, true, false, cond, bytes_eq}
use Rattle.nodes_world.specs.declared.thing.Thing.{Thing}
use Rattle.nodes_world.specs.Changes.{WorldBecomes, by_new_seat, by_seat, by_sending, by_message, by_name, WorldGoesOn, still, further}
use Rattle.nodes_world.specs.World.{World, thing, thing_in}

thing_more : (some others : List (List ℕ × Thing)) (name : List ℕ) (named : Thing) → thing_in some name ≡ Some named
    → thing_in (some ++ others) name ≡ Some named
unfolding thing_in
thing_more [] others name named is = absurd cc
thing_more (entry ∷ some) others name named is = by (bytes_eq name entry.0) is (thing_more some others name named)
  where
    by : (b : Bool) → cond b (Some entry.1) (thing_in some name) ≡ Some named → (thing_in some name ≡ Some named → thing_in (some ++ others) name ≡ Some named)
        → cond b (Some entry.1) (thing_in (some ++ others) name) ≡ Some named
    by true there more = there
    by false there more = more there

named_becomes : (w later : World) (name : List ℕ) (named : Thing) → WorldBecomes w later → thing w name ≡ Some named → thing later name ≡ Some named
named_becomes w later name named (by_new_seat s new) is = is
named_becomes w later name named (by_seat place s next there change) is = is
named_becomes w later name named (by_sending m delivered) is = is
named_becomes w later name named (by_message place m next there change) is = is
named_becomes w later name named (by_name other thing free) is = thing_more w.names ((other, thing) ∷ []) name named is

pub named_goes : (w later : World) (name : List ℕ) (named : Thing) → WorldGoesOn w later → thing w name ≡ Some named → thing later name ≡ Some named
named_goes w later name named still is = is
named_goes w later name named (further between last before change) is =
    named_becomes between last name named change (named_goes w between name named before is)
