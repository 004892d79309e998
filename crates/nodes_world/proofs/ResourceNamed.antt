-- What names and references say once an end has made an object and it has its name.
use Rattle.std.proofs.Common.{◌≡◌, ◌≢◌, ◌⊎◌, inl, inr, ℕ, ◌+◌, ◌^◌, ◌<◌, ◌≤◌, ◌==◌, Bool, true, false, cond, is_some, IsTrue, List, [], ◌∷◌, ◌++◌, length, find, bytes_eq, slice_get, Option, Some, None, refl, sym, ap, subst, ◌∙◌, arith}
use Rattle.std.specs.List.{AllByRecursion}
use Rattle.std.specs.Option.{option_map, option_map_or, option_and_then}
use Rattle.std.proofs.lemmas.Bool.Decides.{nat_tests}
use Rattle.std.proofs.lemmas.List.Elements.{Contains-push_cases, filter_map-append}
use Rattle.std.proofs.lemmas.Slice.Eq.{bytes_eq-Decides}
use Rattle.ior_refs.specs.declared.key.ObjectKey.{ObjectKey}
use Rattle.ior_refs.specs.Key.{AreNumbers}
use Rattle.ior_refs.specs.Laws.{SameOctetsSameKey}
use Rattle.nodes_world.specs.declared.deed.Manner.{Manner}
use Rattle.nodes_world.specs.declared.deed.Manner.TheVariants as manners
use Rattle.nodes_world.specs.declared.thing.Thing.{Thing}
use Rattle.nodes_world.specs.declared.thing.Thing.TheVariants as things
use Rattle.nodes_world.specs.Agreement.{IsTransaction, KeysAreOnce}
use Rattle.nodes_world.specs.AgreementInside.{Known}
use Rattle.nodes_world.specs.Ends.{drawn_once, fresh, with_fresh}
use Rattle.nodes_world.specs.Limits.{message_limit, seat_limit}
use Rattle.nodes_world.specs.Objects.{kind_of, place_of, reference, resource_key}
use Rattle.nodes_world.specs.Told.{Told}
use Rattle.nodes_world.specs.World.{World, Seat, OfEnd, FlatEnd, FlatResource, NamedKey, end_at, end_in, has_number, is_referred_to, referred, resource_at, resource_in, resources, seat_name, thing, with_name, with_seat}
use Rattle.nodes_world.proofs.Going.{end_is_up, get_set}
use Rattle.nodes_world.proofs.KnownAlike.{each_same, found_same}
use Rattle.nodes_world.proofs.KnownFrames.{place_within}
use Rattle.nodes_world.proofs.KnownLines.{not_free, referred_named}
use Rattle.nodes_world.proofs.KnownMakings.{thing_cases, thing_given, thing_kept}
use Rattle.nodes_world.proofs.KnownSeats.{seat_names_kept}
use Rattle.nodes_world.proofs.KnownTouch.{end_of, set_other}
use Rattle.nodes_world.proofs.KnownWorlds.{NamedOnce}
use Rattle.nodes_world.proofs.ReferenceTail.{same_reference_key}

same_or_not : (a b : ℕ) → (a ≡ b) ⊎ (a ≢ b)
same_or_not a b = grind arith

inner : {A : Type 0} (x y : A) → Some x ≡ Some y → x ≡ y
inner x y e = cc

-- ---- one more element

found_kept : {A : Type 0} (p : A → Bool) (xs : List A) (y r : A) → find p xs ≡ Some r → find p (xs ++ y ∷ []) ≡ Some r
found_kept p [] y r is = absurd cc
found_kept p (x ∷ xs) y r is = by (p x) (found_kept p xs y r) is
  where
    by : (b : Bool) → (find p xs ≡ Some r → find p (xs ++ y ∷ []) ≡ Some r) → cond b (Some x) (find p xs) ≡ Some r → cond b (Some x) (find p (xs ++ y ∷ [])) ≡ Some r
    by true later is = is
    by false later is = later is

found_last : {A : Type 0} (p : A → Bool) (xs : List A) (y : A) → find p xs ≡ None → p y ≡ true → find p (xs ++ y ∷ []) ≡ Some y
found_last p [] y none is = ap (λ (b : Bool). cond b (Some y) None) is
found_last p (x ∷ xs) y none is = by (p x) (λ later. found_last p xs y later is) none
  where
    by : (b : Bool) → (find p xs ≡ None → find p (xs ++ y ∷ []) ≡ Some y) → cond b (Some x) (find p xs) ≡ None → cond b (Some x) (find p (xs ++ y ∷ [])) ≡ Some y
    by true later none = absurd cc
    by false later none = later none

found_cases : {A : Type 0} (p : A → Bool) (xs : List A) (y r : A) → find p (xs ++ y ∷ []) ≡ Some r → (find p xs ≡ Some r) ⊎ (r ≡ y)
found_cases p [] y r is = by (p y) is
  where
    by : (b : Bool) → cond b (Some y) None ≡ Some r → (None ≡ Some r) ⊎ (r ≡ y)
    by true e = inr (sym (inner y r e))
    by false e = inl e
found_cases p (x ∷ xs) y r is = by (p x) (found_cases p xs y r) is
  where
    by : (b : Bool) → (find p (xs ++ y ∷ []) ≡ Some r → (find p xs ≡ Some r) ⊎ (r ≡ y)) → cond b (Some x) (find p (xs ++ y ∷ [])) ≡ Some r
        → (cond b (Some x) (find p xs) ≡ Some r) ⊎ (r ≡ y)
    by true later is = inl is
    by false later is = later is

found_passes : {A : Type 0} (p : A → Bool) (xs : List A) (r : A) → find p xs ≡ Some r → p r ≡ true
found_passes p [] r is = absurd cc
found_passes p (x ∷ xs) r is = by (p x) refl (found_passes p xs r) is
  where
    by : (b : Bool) → p x ≡ b → (find p xs ≡ Some r → p r ≡ true) → cond b (Some x) (find p xs) ≡ Some r → p r ≡ true
    by true so later is = ap p (sym (inner x r is)) ∙ so
    by false so later is = later is

found_all : {A : Type 0} (P : A → Type 0) (p : A → Bool) (xs : List A) (r : A) → AllByRecursion P xs → find p xs ≡ Some r → P r
found_all P p [] r all is = absurd cc
found_all P p (x ∷ xs) r (one, all) is = by (p x) (found_all P p xs r all) is
  where
    by : (b : Bool) → (find p xs ≡ Some r → P r) → cond b (Some x) (find p xs) ≡ Some r → P r
    by true later is = subst P (inner x r is) one
    by false later is = later is

-- no object has a number that wasn't drawn
none_drawn : (drawn : ℕ) (xs : List FlatResource) (key : ObjectKey) → key.generation ≡ drawn + 1
    → AllByRecursion (λ (r : FlatResource). r.key.generation ≤ drawn) xs → find (has_number key) xs ≡ None
none_drawn drawn [] key is all = refl
none_drawn drawn (x ∷ xs) key is (one, all) =
    ap (λ (b : Bool). cond b (Some x) (find (has_number key) xs)) (not_same x.key.generation key.generation (omega (arith, is, one))) ∙ none_drawn drawn xs key is all
  where
    not_same : (a b : ℕ) → a < b → (a == b) ≡ false
    not_same a b less = grind (arith, nat_tests)

kind_fits : (manner : Manner) → kind_of manner < 2 ^ 8
kind_fits manners.Resource = omega arith
kind_fits manners.Aware = omega arith
kind_fits manners.Double = omega arith

key_fits : (manner : Manner) (place number : ℕ) → place < seat_limit → number ≤ message_limit + 1 → AreNumbers (resource_key manner place number)
key_fits manner place number low few = record {
  kind = kind_fits manner;
  service = omega (arith, low);
  life = omega arith;
  slot = omega arith;
  generation = omega (arith, few);
  index = omega arith;
}

found_referred : (w : World) (to : List ℕ) (r : NamedKey) → referred w to ≡ Some r → is_referred_to w to r ≡ true
unfolding referred
found_referred w to r is = found_passes (is_referred_to w to) (resources w) r is

-- ---- an end makes an object, and it has its name

module _ (law : SameOctetsSameKey) (w : World) (place : ℕ) (name : List ℕ) (manner : Manner) (s : Seat) (e : FlatEnd) (told : List Told)
    (there : slice_get w.seats place ≡ Some s) (up : s.server ≡ OfEnd (Some e)) (free : thing w name ≡ None) (k : Known w told)
    (room : e.drawn + 1 ≤ length w.messages) (few : length w.messages ≤ message_limit + 1) where
  abbrev pub key : ObjectKey
  key = resource_key manner place (e.drawn + 1)

  abbrev pub own : Thing
  own = things.Resource key

  abbrev pub mine : NamedKey
  mine = record { name = name; key = key }

  abbrev pub made : FlatEnd
  made = with_fresh key (drawn_once e)

  abbrev pub left : Seat
  left = record s { server = OfEnd (Some made) }

  abbrev pub v : World
  v = with_name name own (with_seat place left w)

  abbrev pub new_reference : List ℕ
  new_reference = reference s.name key

  pub key_place : place_of key ≡ place
  key_place = omega arith

  pub end_up : end_at w place ≡ Some e
  unfolding end_at
  end_up = ap (λ (o : Option Seat). option_and_then (λ (x : Seat). end_in x.server) o) there ∙ ap end_in up

  pub end_now : end_at v place ≡ Some made
  unfolding end_at
  end_now = ap (λ (o : Option Seat). option_and_then (λ (x : Seat). end_in x.server) o) (get_set w.seats place s left there)

  pub end_other : (p : ℕ) → p ≢ place → end_at v p ≡ end_at w p
  unfolding end_at
  end_other p other = ap (λ (o : Option Seat). option_and_then (λ (x : Seat). end_in x.server) o) (set_other w.seats place p left other)

  low : AllByRecursion (λ (r : FlatResource). r.key.generation ≤ e.drawn) e.resources
  low = k.counted.numbers place e end_up

  -- ---- resources

  at_end : (u : World) (kk : ObjectKey) (p : ℕ) (x : FlatEnd) → place_of kk ≡ p → end_at u p ≡ Some x → resource_at u kk ≡ find (has_number kk) x.resources
  unfolding resource_at
  at_end u kk p x at is = ap (λ (o : Option FlatEnd). option_and_then (λ (y : FlatEnd). find (has_number kk) y.resources) o) (ap (end_at u) at ∙ is)

  elsewhere : (kk : ObjectKey) → place_of kk ≢ place → resource_at v kk ≡ resource_at w kk
  unfolding resource_at
  elsewhere kk other = ap (λ (o : Option FlatEnd). option_and_then (λ (y : FlatEnd). find (has_number kk) y.resources) o) (end_other (place_of kk) other)

  pub resource_on : (kk : ObjectKey) (r : FlatResource) → resource_at w kk ≡ Some r → resource_at v kk ≡ Some r
  resource_on kk r is = elim (same_or_not (place_of kk) place) [
    | inl here ↦ at_end v kk place made here end_now ∙ found_kept (has_number kk) e.resources (fresh key) r (sym (at_end w kk place e here end_up) ∙ is)
    | inr other ↦ elsewhere kk other ∙ is
  ]

  pub resource_back : (kk : ObjectKey) (r : FlatResource) → resource_at v kk ≡ Some r → (resource_at w kk ≡ Some r) ⊎ (r ≡ fresh key)
  resource_back kk r is = elim (same_or_not (place_of kk) place) [
    | inl here ↦ elim (found_cases (has_number kk) e.resources (fresh key) r (sym (at_end v kk place made here end_now) ∙ is)) [
      | inl was ↦ inl (at_end w kk place e here end_up ∙ was)
      | inr new ↦ inr new
    ]
    | inr other ↦ inl (sym (elsewhere kk other) ∙ is)
  ]

  none_was : resource_at w key ≡ None
  none_was = at_end w key place e key_place end_up ∙ none_drawn e.drawn e.resources key refl low

  pub resource_new : resource_at v key ≡ Some (fresh key)
  resource_new =
      at_end v key place made key_place end_now
      ∙ found_last (has_number key) e.resources (fresh key) (none_drawn e.drawn e.resources key refl low) (own_number key.generation)
    where
      own_number : (a : ℕ) → (a == a) ≡ true
      own_number a = grind (arith, nat_tests)

  -- ---- names

  -- no name had its key
  pub fresh_key : (other : List ℕ) → thing w other ≡ Some own → ⊥
  fresh_key other named = let at = k.names.resources other key named in no at.0 (sym at.1 ∙ none_was)
    where
      no : (r : FlatResource) → Some r ≡ None → ⊥
      no r is = cc

  pub thing_on : (t : List ℕ) (x : Thing) → thing w t ≡ Some x → thing v t ≡ Some x
  thing_on t x is = thing_kept w.names ((name, own) ∷ []) t x is

  pub given : thing v name ≡ Some own
  given = thing_given w.names name own free

  pub trans_back : (t : List ℕ) (x : ObjectKey) → IsTransaction v t x → IsTransaction w t x
  trans_back t x is = elim (thing_cases w.names name own t (things.Transaction x) is) [
    | inl was ↦ was
    | inr new ↦ absurd (no new.1)
  ]
    where
      no : own ≡ things.Transaction x → ⊥
      no e = cc

  pub seat_back : (t : List ℕ) (p : ℕ) → thing v t ≡ Some (things.Seat p) → thing w t ≡ Some (things.Seat p)
  seat_back t p is = elim (thing_cases w.names name own t (things.Seat p) is) [
    | inl was ↦ was
    | inr new ↦ absurd (no new.1)
  ]
    where
      no : own ≡ things.Seat p → ⊥
      no e = cc

  pub object_cases : (t : List ℕ) (x : ObjectKey) → thing v t ≡ Some (things.Resource x) → (thing w t ≡ Some (things.Resource x)) ⊎ ((t ≡ name) × (key ≡ x))
  object_cases t x is = elim (thing_cases w.names name own t (things.Resource x) is) [
    | inl was ↦ inl was
    | inr new ↦ inr (new.0, key_is new.1)
  ]
    where
      key_is : own ≡ things.Resource x → key ≡ x
      key_is e = cc

  pub unnamed : (t : List ℕ) (x : Thing) → thing w t ≡ Some x → t ≡ name → ⊥
  unnamed t x named is = not_free (thing w name) x (subst (λ (y : List ℕ). thing w y ≡ Some x) is named) free

  pub keys_now : KeysAreOnce v
  keys_now t other x is also = elim (thing_cases w.names name own t x is) [
    | inl was ↦ elim (thing_cases w.names name own other x also) [
      | inl too ↦ k.names.keys t other x was too
      | inr new ↦ absurd (fresh_key t (was ∙ ap (λ (y : Thing). Some y) (sym new.1)))
    ]
    | inr new ↦ elim (thing_cases w.names name own other x also) [
      | inl too ↦ absurd (fresh_key other (too ∙ ap (λ (y : Thing). Some y) (sym new.1)))
      | inr both ↦ new.0 ∙ sym both.0
    ]
  ]

  pub once_now : NamedOnce v
  once_now t x among = elim (Contains-push_cases w.names (name, own) (t, x) among) [
    | inl was ↦ thing_on t x (k.names.once t x was)
    | inr new ↦ subst (λ (y : List ℕ × Thing). thing v y.0 ≡ Some y.1) new given
  ]

  -- ---- references

  pub seat_names : (p : ℕ) → seat_name v p ≡ seat_name w p
  seat_names p = seat_names_kept w place s left there refl p

  tests_same : (to : List ℕ) (r : NamedKey) → is_referred_to v to r ≡ is_referred_to w to r
  tests_same to r = ap (λ (o : Option (List ℕ)). option_map_or (λ (octets : List ℕ). bytes_eq octets to) (option_map (λ (x : List ℕ). reference x r.key) o) false) (seat_names (place_of r.key))

  all_resources : resources v ≡ resources w ++ mine ∷ []
  all_resources = filter_map-append (λ (entry : List ℕ × Thing). resource_in entry.0 entry.1) w.names ((name, own) ∷ [])

  referred_is : (to : List ℕ) → referred v to ≡ find (is_referred_to w to) (resources w ++ mine ∷ [])
  unfolding referred
  referred_is to =
      ap (find (is_referred_to v to)) all_resources
      ∙ found_same (is_referred_to v to) (is_referred_to w to) (resources w ++ mine ∷ []) (each_same (is_referred_to v to) (is_referred_to w to) (resources w ++ mine ∷ []) (tests_same to))

  pub refers_on : (to : List ℕ) (r : NamedKey) → referred w to ≡ Some r → referred v to ≡ Some r
  unfolding referred
  refers_on to r is = referred_is to ∙ found_kept (is_referred_to w to) (resources w) mine r is

  pub refers_back : (to : List ℕ) (r : NamedKey) → referred v to ≡ Some r → (referred w to ≡ Some r) ⊎ (r ≡ mine)
  unfolding referred
  refers_back to r is = found_cases (is_referred_to w to) (resources w) mine r (sym (referred_is to) ∙ is)

  -- what led somewhere leads there
  pub refers_kept : (to : List ℕ) (r : NamedKey) → IsTrue (is_some (referred w to)) → referred v to ≡ Some r → referred w to ≡ Some r
  refers_kept to r named is = by (referred w to) refl named
    where
      by : (o : Option NamedKey) → referred w to ≡ o → is_some o ≡ true → referred w to ≡ Some r
      by (Some x) at some = at ∙ sym (refers_on to x at) ∙ is
      by None at some = absurd cc

  own_place : place < seat_limit
  own_place = let within = place_within w.seats place s there in let many = k.seats.few in omega (arith, within, many)

  own_fits : AreNumbers key
  own_fits = key_fits manner place (e.drawn + 1) own_place (omega (arith, room, few))

  other_fits : (r : NamedKey) → thing w r.name ≡ Some (things.Resource r.key) → AreNumbers r.key
  other_fits r named =
      let object = k.names.objects r.name r.key named in
      let at = k.names.resources r.name r.key named in
      let x = end_of w r.key at.0 at.1 in
      let seat = end_is_up w (place_of r.key) x.0 x.1 in
      let within = place_within w.seats (place_of r.key) seat.seat seat.there in
      let seats = k.seats.few in
      let drawn = found_all (λ (y : FlatResource). y.key.generation ≤ x.0.drawn) (has_number r.key) x.0.resources at.0 (k.counted.numbers (place_of r.key) x.0 x.1)
      (sym (at_end w r.key (place_of r.key) x.0 refl x.1) ∙ at.1) in
      let messages = k.counted.messages (place_of r.key) x.0 x.1 in
      let number = ap (λ (y : ObjectKey). y.generation) at.2 in
      let own_generation = ap (λ (y : ObjectKey). y.generation) object.3 in
      let own_service = ap place_of object.3 in
      subst AreNumbers (sym object.3)
      (key_fits object.0 object.1 object.2 (omega (arith, within, seats, own_service)) (omega (arith, drawn, messages, few, number, own_generation)))

  -- no reference led to it
  pub unreferred : referred w new_reference ≡ None
  unreferred = by (referred w new_reference) refl
    where
      same_name : (r : NamedKey) (o : Option (List ℕ)) → thing w r.name ≡ Some (things.Resource r.key)
          → option_map_or (λ (octets : List ℕ). bytes_eq octets new_reference) (option_map (λ (x : List ℕ). reference x r.key) o) false ≡ true → r.key ≡ key
      same_name r (Some x) named is =
          same_reference_key law x s.name r.key key (other_fits r named) own_fits ((bytes_eq-Decides (reference x r.key) new_reference).0 is)
      same_name r None named is = absurd cc

      by : (o : Option NamedKey) → referred w new_reference ≡ o → o ≡ None
      by None is = refl
      by (Some r) is =
          let named = referred_named w told k new_reference r is in
          let same = same_name r (seat_name w (place_of r.key)) named (found_referred w new_reference r is) in
          absurd (fresh_key r.name (named ∙ ap (λ (x : ObjectKey). Some (things.Resource x)) same))

  pub refers_new : referred v new_reference ≡ Some mine
  unfolding referred
  refers_new =
      referred_is new_reference
      ∙ found_last (is_referred_to w new_reference) (resources w) mine unreferred
      (ap (λ (o : Option (List ℕ)). option_map_or (λ (octets : List ℕ). bytes_eq octets new_reference) (option_map (λ (x : List ℕ). reference x key) o) false)
      (ap (seat_name w) key_place ∙ ap (option_map (λ (x : Seat). x.name)) there)
      ∙ (bytes_eq-Decides new_reference new_reference).1 refl)
