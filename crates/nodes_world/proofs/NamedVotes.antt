-- Whom a vote is from that a family tells: a number is that of one registration, and a name that of one resource.
use Rattle.std.proofs.Common.{◌≡◌, inl, inr, ℕ, ◌==◌, Bool, true, false, cond, find, bytes_eq, List, [], ◌∷◌, slice_get, Contains, Option, Some, None, refl, sym, ap, ◌∙◌, arith}
use Rattle.std.proofs.lemmas.Bool.Decides.{nat_tests}
use Rattle.std.proofs.lemmas.List.Elements.{Contains-append_right}
use Rattle.std.proofs.lemmas.Option.{slice_get-get_or}
use Rattle.std.proofs.lemmas.Slice.Eq.{bytes_eq-Decides}
use Rattle.std.specs.Option.{option_and_then, option_map, option_map_or}
use Rattle.ior_refs.specs.declared.key.ObjectKey.{ObjectKey}
use Rattle.resource_votes.specs.declared.registration.Registration.{Registration}
use Rattle.coordinator.specs.Family.{Family}
use Rattle.nodes_world.specs.declared.thing.Thing.TheVariants as things
use Rattle.nodes_world.specs.AgreementInside.{Known, FamilyIsKnown}
use Rattle.nodes_world.specs.Happenings.{Cast, name_numbered, registered}
use Rattle.nodes_world.specs.Told.{Told}
use Rattle.nodes_world.specs.World.{World, NamedKey, family_at, is_referred_to, reference_to_object, referred, resources, thing}
use Rattle.nodes_world.proofs.KnownLines.{lines_of, referred_named}
use Rattle.nodes_world.proofs.RowsEnd.{first_or_later}
use Rattle.nodes_world.proofs.StepIs.{IsCastOf}

-- a registration with this number, of a resource with this name
pub record IsNumbered (w : World) (rs : List Registration) (number : ℕ) (name : List ℕ) : Type 0 where
  pub r : Registration
  pub there : Contains rs r
  pub index : r.index ≡ number
  pub object : NamedKey
  pub leads : referred w r.to ≡ Some object
  pub named : object.name ≡ name

-- whom a number names is registered with it
numbered_as_named : (w : World) (rs : List Registration) (number : ℕ) (name : List ℕ) → name_numbered w rs number ≡ Some name → IsNumbered w rs number name
numbered_as_named w [] number name is = absurd cc
numbered_as_named w (x ∷ rs) number name is = by (λ later. numbered_as_named w rs number name later) (x.index == number) refl is
  where
    equal : x.index == number ≡ true → x.index ≡ number
    equal same = grind (arith, nat_tests, same)

    here : (o : Option NamedKey) → referred w x.to ≡ o → x.index ≡ number → option_map (λ (y : NamedKey). y.name) o ≡ Some name → IsNumbered w (x ∷ rs) number name
    here (Some y) leads index is = record { r = x; there = (0, omega arith, refl); index = index; object = y; leads = leads; named = inner is }
      where
        inner : {a b : List ℕ} → Some a ≡ Some b → a ≡ b
        inner e = cc
    here None leads index is = absurd cc

    behind : IsNumbered w rs number name → IsNumbered w (x ∷ rs) number name
    behind one = record { r = one.r; there = Contains-append_right (x ∷ []) rs one.r one.there; index = one.index; object = one.object; leads = one.leads; named = one.named }

    by : (name_numbered w rs number ≡ Some name → IsNumbered w rs number name) → (t : Bool) → x.index == number ≡ t
        → option_map (λ (y : NamedKey). y.name) (option_and_then (λ (y : Registration). referred w y.to) (cond t (Some x) (find (λ (y : Registration). y.index == number) rs))) ≡ Some name
        → IsNumbered w (x ∷ rs) number name
    by rest true same is = here (referred w x.to) refl (equal same) is
    by rest false other is = behind (rest is)

-- where its numbers are those of single ones, the number of one names it
named_as_numbered : (w : World) (rs : List Registration) (r : Registration) (object : NamedKey) → ((s : Registration) → Contains rs s → s.index ≡ r.index → s ≡ r)
    → Contains rs r → referred w r.to ≡ Some object → name_numbered w rs r.index ≡ Some object.name
named_as_numbered w [] r object once among leads = let l = among.1 in absurd (omega (arith, l))
named_as_numbered w (x ∷ rs) r object once among leads =
    by (λ later. named_as_numbered w rs r object (λ s c. once s (Contains-append_right (x ∷ []) rs s c)) later leads) (x.index == r.index) refl
  where
    equal : x.index == r.index ≡ true → x.index ≡ r.index
    equal same = grind (arith, nat_tests, same)

    not_equal : x.index ≡ r.index → x.index == r.index ≡ false → ⊥
    not_equal a b = grind (arith, nat_tests)

    by : (Contains rs r → name_numbered w rs r.index ≡ Some object.name) → (t : Bool) → x.index == r.index ≡ t
        → option_map (λ (y : NamedKey). y.name) (option_and_then (λ (y : Registration). referred w y.to) (cond t (Some x) (find (λ (y : Registration). y.index == r.index) rs))) ≡ Some object.name
    by rest true same =
        ap (λ (o : Option NamedKey). option_map (λ (y : NamedKey). y.name) o)
        (ap (λ (y : Registration). referred w y.to) (once x (0, omega arith, refl) (equal same)) ∙ leads)
    by rest false other = elim (first_or_later x r rs among) [
      | inl here ↦ absurd (not_equal (ap (λ (y : Registration). y.index) here) other)
      | inr later ↦ rest later
    ]

-- what is found passes
found_passes : (p : NamedKey → Bool) (xs : List NamedKey) (x : NamedKey) → find p xs ≡ Some x → p x ≡ true
found_passes p [] x is = absurd cc
found_passes p (y ∷ xs) x is = by (λ later. found_passes p xs x later) (p y) refl is
  where
    by : (find p xs ≡ Some x → p x ≡ true) → (t : Bool) → p y ≡ t → cond t (Some y) (find p xs) ≡ Some x → p x ≡ true
    by rest true passes is = ap p (sym (inner is)) ∙ passes
      where
        inner : {a b : NamedKey} → Some a ≡ Some b → a ≡ b
        inner e = cc
    by rest false passes is = rest is

-- the reference that leads to an object
reference_of : (w : World) (to : List ℕ) (x : NamedKey) → referred w to ≡ Some x → reference_to_object w x.key ≡ Some to
unfolding referred
reference_of w to x is = by (reference_to_object w x.key) refl (found_passes (is_referred_to w to) (resources w) x is)
  where
    by : (o : Option (List ℕ)) → reference_to_object w x.key ≡ o → option_map_or (λ (octets : List ℕ). bytes_eq octets to) o false ≡ true → o ≡ Some to
    by (Some octets) at passes = ap (λ (y : List ℕ). Some y) ((bytes_eq-Decides octets to).0 passes)
    by None at passes = absurd cc

module _ (w : World) (told : List Told) (k : Known w told) where
  -- by one name goes one object, to which one reference leads
  pub one_reference : (to also : List ℕ) (x y : NamedKey) → referred w to ≡ Some x → referred w also ≡ Some y → x.name ≡ y.name → to ≡ also
  one_reference to also x y leads others same =
      inner (sym (reference_of w to x leads) ∙ ap (reference_to_object w) same_key ∙ reference_of w also y others)
    where
      inner : {a b : List ℕ} → Some a ≡ Some b → a ≡ b
      inner e = cc

      inner_key : {a b : ObjectKey} → Some (things.Resource a) ≡ Some (things.Resource b) → a ≡ b
      inner_key e = cc

      same_key : x.key ≡ y.key
      same_key = inner_key (sym (referred_named w told k to x leads) ∙ ap (thing w) same ∙ referred_named w told k also y others)

module _ (w : World) (told : List Told) (k : Known w told) (key : ObjectKey) (f : Family) (found : family_at w key ≡ Some f) (c : Cast) (cast : IsCastOf f c) where
  known : FamilyIsKnown w (lines_of told) f
  known = k.families key f found

  -- a number is that of one
  pub one_index : (r s : Registration) → Contains f.ballots.registrations r → Contains f.ballots.registrations s → r.index ≡ s.index → r ≡ s
  one_index r s (i, less, is) (j, lower, also) same =
      let at = slice_get-get_or f.ballots.registrations i r less ∙ ap (λ (x : Registration). Some x) is in
      let at_other = slice_get-get_or f.ballots.registrations j s lower ∙ ap (λ (x : Registration). Some x) also in
      let first = known.numbered i r at in
      let second = known.numbered j s at_other in
      let equal : i ≡ j = omega (arith, first, second, same) in
      inner (sym at ∙ ap (slice_get f.ballots.registrations) equal ∙ at_other)
    where
      inner : {a b : Registration} → Some a ≡ Some b → a ≡ b
      inner e = cc

  -- whom the lines name
  pub who_is : (number : ℕ) (name : List ℕ) → registered w c number ≡ Some name → IsNumbered w f.ballots.registrations number name
  who_is number name is = numbered_as_named w f.ballots.registrations number name (sym (ap (λ (rs : List Registration). name_numbered w rs number) cast.registrations) ∙ is)

  pub is_named : (r : Registration) (object : NamedKey) → Contains f.ballots.registrations r → referred w r.to ≡ Some object → registered w c r.index ≡ Some object.name
  is_named r object among leads =
      ap (λ (rs : List Registration). name_numbered w rs r.index) cast.registrations
      ∙ named_as_numbered w f.ballots.registrations r object (λ s there same. one_index s r there among same) among leads
