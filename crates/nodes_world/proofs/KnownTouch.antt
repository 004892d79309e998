-- A script puts something for a resource, or has it refuse: what is known stays known.
use Rattle.std.proofs.Common.{◌≡◌, ◌≢◌, ◌⊎◌, inl, inr, ℕ, zero, suc, ◌==◌, Bool, true, false, cond, List, [], ◌∷◌, map, find, slice_get, slice_set, append-nil, Option, Some, None, refl, sym, ap, ap₂, subst, ◌∙◌, arith, true≢false, ◌≤◌, length}
use Rattle.std.specs.Option.{option_map, option_map_or, option_and_then}
use Rattle.std.specs.Prelude.{bytes_eq}
use Rattle.std.proofs.lemmas.Bool.Decides.{nat_tests}
use Rattle.ior_refs.specs.declared.key.ObjectKey.{ObjectKey}
use Rattle.ots_model.specs.declared.completion.Vote.{Vote}
use Rattle.resource_end.specs.declared.state.State.{State}
use Rattle.resource_end.specs.declared.state.State.TheVariants as states
use Rattle.coordinator.specs.Node.{Node, family_of}
use Rattle.nodes_world.specs.declared.message.Message.{Message}
use Rattle.nodes_world.specs.declared.thing.Thing.TheVariants as things
use Rattle.nodes_world.specs.Agreement.{StatesFollow, records_at}
use Rattle.nodes_world.specs.AgreementInside.{Known, HasAnswered, HasNotVoted, HasVotedCommit, ResourceIsKnown, EndsHaveCounted}
use Rattle.nodes_world.specs.Ends.{closed_by, in_place_of, with_resource, with_resource_at}
use Rattle.nodes_world.specs.Journals.{records_on}
use Rattle.nodes_world.specs.Objects.{place_of, reference, service_at}
use Rattle.nodes_world.specs.Told.{Told}
use Rattle.nodes_world.specs.World.{World, Seat, OfNode, OfEnd, FlatEnd, FlatResource, end_at, end_in, family_at, has_number, is_referred_to, node_at, node_in, referred, resource_at, resources, seat_name, thing, with_server}
use Rattle.ots_model.specs.Limits.{name_limit}
use Rattle.nodes_world.proofs.Going.{EndIsUp, end_is_up, get_set, on_seat_there}
use Rattle.nodes_world.proofs.KnownLines.{lines_of}
use Rattle.nodes_world.proofs.KnownTelling.{TellsOn, tells_on}
use Rattle.nodes_world.proofs.KnownTurns.{Turns, is_state, turned_known}
use Rattle.std.specs.List.{AllByRecursion}
use Rattle.nodes_world.proofs.KnownSeats.{as_long}

-- ---- one element of a list in place of another

pub set_cases : {A : Type 0} (xs : List A) (i k : ℕ) (y u : A) → slice_get (slice_set xs i y) k ≡ Some u → ((k ≡ i) × (u ≡ y)) ⊎ (slice_get xs k ≡ Some u)
set_cases [] i k y u e = inr e
set_cases (z ∷ xs) zero zero y u e = inl (refl, inner e)
  where
    inner : {A : Type 0} {x y : A} → Some x ≡ Some y → y ≡ x
    inner e = cc
set_cases (z ∷ xs) zero (suc k) y u e = inr e
set_cases (z ∷ xs) (suc i) zero y u e = inr e
set_cases (z ∷ xs) (suc i) (suc k) y u e =
    elim (set_cases xs i k y u e) [
      | inl here ↦ inl (ap suc here.0, here.1)
      | inr there ↦ inr there
    ]

pub set_other : {A : Type 0} (xs : List A) (i k : ℕ) (y : A) → (k ≡ i → ⊥) → slice_get (slice_set xs i y) k ≡ slice_get xs k
set_other [] i k y other = refl
set_other (z ∷ xs) zero zero y other = absurd (other refl)
set_other (z ∷ xs) zero (suc k) y other = refl
set_other (z ∷ xs) (suc i) zero y other = refl
set_other (z ∷ xs) (suc i) (suc k) y other = set_other xs i k y (λ e. other (ap suc e))

-- what is the same of both is the same of each place
pub and_set : {A B : Type 0} (f : A → Option B) (xs : List A) (i : ℕ) (x y : A) → slice_get xs i ≡ Some x → f y ≡ f x → (k : ℕ)
    → option_and_then f (slice_get (slice_set xs i y) k) ≡ option_and_then f (slice_get xs k)
and_set f [] i x y at same k = refl
and_set f (z ∷ xs) zero x y at same zero = same ∙ ap f (sym (inner at))
  where
    inner : {A : Type 0} {x y : A} → Some x ≡ Some y → x ≡ y
    inner e = cc
and_set f (z ∷ xs) zero x y at same (suc k) = refl
and_set f (z ∷ xs) (suc i) x y at same zero = refl
and_set f (z ∷ xs) (suc i) x y at same (suc k) = and_set f xs i x y at same k

map_is : {A B : Type 0} (f : A → B) (o : Option A) → option_and_then (λ (z : A). Some (f z)) o ≡ option_map f o
map_is f None = refl
map_is f (Some z) = refl

find_same : {A : Type 0} (p q : A → Bool) (xs : List A) → ((z : A) → p z ≡ q z) → find p xs ≡ find q xs
find_same p q [] same = refl
find_same p q (z ∷ xs) same = ap₂ (λ (b : Bool) (o : _). cond b (Some z) o) (same z) (find_same p q xs same)

find_passes : {A : Type 0} (p : A → Bool) (xs : List A) (z : A) → find p xs ≡ Some z → p z ≡ true
find_passes p [] z e = absurd cc
find_passes p (y ∷ xs) z e = by (p y) refl (find_passes p xs z) e
  where
    by : (b : Bool) → p y ≡ b → (find p xs ≡ Some z → p z ≡ true) → cond b (Some y) (find p xs) ≡ Some z → p z ≡ true
    by true is later e = ap p (inner (sym e)) ∙ is
      where
        inner : {A : Type 0} {x y : A} → Some x ≡ Some y → x ≡ y
        inner e = cc
    by false is later e = later e

-- ---- the resources of an end

inner_resource : {a b : FlatResource} → Some a ≡ Some b → a ≡ b
inner_resource e = cc

numbers_apart : (a b c : ℕ) → a == b ≡ true → b == c ≡ false → a == c ≡ false
numbers_apart a b c is other = grind (arith, nat_tests)

same_number : (a b : ℕ) → a == b ≡ true → a ≡ b
same_number a b is = grind (arith, nat_tests)

own_number : (a : ℕ) → a == a ≡ true
own_number a = grind (arith, nat_tests)

-- the one that is found is not the one that changed, or it is that one as it is now
abbrev FoundTurned : ObjectKey → FlatResource → List FlatResource → FlatResource → Type 0
FoundTurned key next xs q = ((find (has_number key) xs ≡ Some q) × (has_number next.key q ≡ false)) ⊎ ((q ≡ next) × (next.key.generation ≡ key.generation))

found_head : (key : ObjectKey) (next z : FlatResource) (xs : List FlatResource) (q : FlatResource) (a : Bool) → has_number next.key z ≡ a
    → (find (has_number key) (map (in_place_of next) xs) ≡ Some q → FoundTurned key next xs q)
    → find (has_number key) (cond a next z ∷ map (in_place_of next) xs) ≡ Some q → FoundTurned key next (z ∷ xs) q
found_head key next z xs q true is later e = by (has_number key next) refl e
  where
    by : (b : Bool) → has_number key next ≡ b → cond b (Some next) (find (has_number key) (map (in_place_of next) xs)) ≡ Some q → FoundTurned key next (z ∷ xs) q
    by true same e = inr (inner_resource (sym e), same_number next.key.generation key.generation same)
    by false other e =
        elim (later e) [
          | inl behind ↦ inl (
            ap (λ (b : Bool). cond b (Some z) (find (has_number key) xs)) (numbers_apart z.key.generation next.key.generation key.generation is other)
                ∙ behind.0,
            behind.1,
          )
          | inr here ↦ inr here
        ]
found_head key next z xs q false is later e = by (has_number key z) refl e
  where
    by : (b : Bool) → has_number key z ≡ b → cond b (Some z) (find (has_number key) (map (in_place_of next) xs)) ≡ Some q → FoundTurned key next (z ∷ xs) q
    by true same e =
        let is_z = inner_resource e in
        inl (ap (λ (b : Bool). cond b (Some z) (find (has_number key) xs)) same ∙ e, ap (has_number next.key) (sym is_z) ∙ is)
    by false other e =
        elim (later e) [
          | inl behind ↦ inl (ap (λ (b : Bool). cond b (Some z) (find (has_number key) xs)) other ∙ behind.0, behind.1)
          | inr here ↦ inr here
        ]

found_turned : (key : ObjectKey) (next : FlatResource) (xs : List FlatResource) (q : FlatResource) → find (has_number key) (map (in_place_of next) xs) ≡ Some q
    → FoundTurned key next xs q
found_turned key next [] q e = absurd cc
found_turned key next (z ∷ xs) q e = found_head key next z xs q (has_number next.key z) refl (found_turned key next xs q) e

-- and one that was found is found, or that one is in its place
place_number : (key : ObjectKey) (next z : FlatResource) (a : Bool) → has_number next.key z ≡ a → has_number key (cond a next z) ≡ has_number key z
place_number key next z true is = ap (λ (n : ℕ). n == key.generation) (sym (same_number z.key.generation next.key.generation is))
place_number key next z false is = refl

pub found_kept : (key : ObjectKey) (next : FlatResource) (xs : List FlatResource) (q : FlatResource) → find (has_number key) xs ≡ Some q
    → find (has_number key) (map (in_place_of next) xs) ≡ Some (in_place_of next q)
found_kept key next [] q e = absurd cc
found_kept key next (z ∷ xs) q e =
    ap (λ (b : Bool). cond b (Some (in_place_of next z)) (find (has_number key) (map (in_place_of next) xs))) (place_number key next z (has_number next.key z) refl)
    ∙ by (has_number key z) (found_kept key next xs q) e
  where
    by : (b : Bool) → (find (has_number key) xs ≡ Some q → find (has_number key) (map (in_place_of next) xs) ≡ Some (in_place_of next q))
        → cond b (Some z) (find (has_number key) xs) ≡ Some q
        → cond b (Some (in_place_of next z)) (find (has_number key) (map (in_place_of next) xs)) ≡ Some (in_place_of next q)
    by true later e = ap (λ (y : FlatResource). Some (in_place_of next y)) (inner_resource e)
    by false later e = later e

-- ---- a world in which one resource of an end is another

abbrev pub replaced : World → ℕ → Seat → FlatEnd → FlatResource → List Message → World
replaced w place s e next ms = record w { seats = slice_set w.seats place (record s { server = OfEnd (Some (with_resource next e)) }); messages = ms }

same_or_not : (a b : ℕ) → (a ≡ b) ⊎ (a ≢ b)
same_or_not a b = grind arith

not_node : (e : FlatEnd) (up : Option Node) → OfEnd (Some e) ≡ OfNode up → ⊥
not_node e up is = absurd cc

module _ (w : World) (place : ℕ) (s : Seat) (e : FlatEnd) (next : FlatResource) (ms : List Message) (there : slice_get w.seats place ≡ Some s)
    (up : s.server ≡ OfEnd (Some e)) where
  name_same : (p : ℕ) → seat_name (replaced w place s e next ms) p ≡ seat_name w p
  name_same p =
      sym (map_is (λ (z : Seat). z.name) (slice_get (replaced w place s e next ms).seats p))
      ∙ and_set (λ (z : Seat). Some z.name) w.seats place s (record s { server = OfEnd (Some (with_resource next e)) }) there refl p
      ∙ map_is (λ (z : Seat). z.name) (slice_get w.seats p)

  pub refers_same : (to : List ℕ) → referred (replaced w place s e next ms) to ≡ referred w to
  unfolding referred
  refers_same to =
      find_same (is_referred_to (replaced w place s e next ms) to) (is_referred_to w to) (resources w)
      (λ z. ap (λ (o : Option (List ℕ)). option_map_or (λ (octets : List ℕ). bytes_eq octets to) (option_map (λ (name : List ℕ). reference name z.key) o) false)
      (name_same (place_of z.key)))

  node_same : (p : ℕ) → node_at (replaced w place s e next ms) p ≡ node_at w p
  unfolding node_at
  node_same p =
      and_set (λ (z : Seat). node_in z.server) w.seats place s (record s { server = OfEnd (Some (with_resource next e)) }) there (sym (ap node_in up)) p

  pub family_same : (key : ObjectKey) → family_at (replaced w place s e next ms) key ≡ family_at w key
  family_same key = ap (λ (o : Option Node). option_and_then (family_of key) o) (node_same (place_of key))

  pub records_same : (p : ℕ) → records_at (replaced w place s e next ms) p ≡ records_at w p
  records_same p =
      and_set (λ (z : Seat). records_on (service_at p) z.disk) w.seats place s (record s { server = OfEnd (Some (with_resource next e)) }) there refl p

  pub nodes_same : (p : ℕ) (z : Seat) (o : Option Node) → slice_get (replaced w place s e next ms).seats p ≡ Some z → z.server ≡ OfNode o → slice_get w.seats p ≡ Some z
  nodes_same p z o at runs =
      elim (set_cases w.seats place p (record s { server = OfEnd (Some (with_resource next e)) }) z at) [
        | inl here ↦ absurd (not_node (with_resource next e) o (sym (ap (λ (y : Seat). y.server) here.1) ∙ runs))
        | inr was ↦ was
      ]

  pub seats_were : (p : ℕ) (z : Seat) → slice_get (replaced w place s e next ms).seats p ≡ Some z → (old : Seat) × (slice_get w.seats p ≡ Some old) × (old.name ≡ z.name)
  seats_were p z at =
      elim (set_cases w.seats place p (record s { server = OfEnd (Some (with_resource next e)) }) z at) [
        | inl here ↦ (s, ap (slice_get w.seats) here.0 ∙ there, sym (ap (λ (y : Seat). y.name) here.1))
        | inr was ↦ (z, was, refl)
      ]

  pub seats_are : (p : ℕ) (z : Seat) → slice_get w.seats p ≡ Some z → (one : Seat) × (slice_get (replaced w place s e next ms).seats p ≡ Some one) × (one.name ≡ z.name)
  seats_are p z at =
      elim (same_or_not p place) [
        | inl here ↦ (
          record s { server = OfEnd (Some (with_resource next e)) },
          ap (slice_get (replaced w place s e next ms).seats) here ∙ get_set w.seats place s (record s { server = OfEnd (Some (with_resource next e)) }) there,
          ap (λ (y : Seat). y.name) (seat_inner (sym there ∙ ap (slice_get w.seats) (sym here) ∙ at)),
        )
        | inr other ↦ (z, set_other w.seats place p (record s { server = OfEnd (Some (with_resource next e)) }) other ∙ at, refl)
      ]
    where
      seat_inner : {a b : Seat} → Some a ≡ Some b → a ≡ b
      seat_inner x = cc

  end_was : (p : ℕ) → p ≡ place → end_at w p ≡ Some e
  unfolding end_at
  end_was p is =
      ap (λ (q : ℕ). option_and_then (λ (z : Seat). end_in z.server) (slice_get w.seats q)) is
      ∙ ap (λ (o : Option Seat). option_and_then (λ (z : Seat). end_in z.server) o) there ∙ ap end_in up

  end_is : (p : ℕ) → p ≡ place → end_at (replaced w place s e next ms) p ≡ Some (with_resource next e)
  unfolding end_at
  end_is p is =
      ap (λ (q : ℕ). option_and_then (λ (z : Seat). end_in z.server) (slice_get (replaced w place s e next ms).seats q)) is
      ∙ ap (λ (o : Option Seat). option_and_then (λ (z : Seat). end_in z.server) o)
      (get_set w.seats place s (record s { server = OfEnd (Some (with_resource next e)) }) there)

  end_other : (p : ℕ) → p ≢ place → end_at (replaced w place s e next ms) p ≡ end_at w p
  unfolding end_at
  end_other p other =
      ap (λ (o : Option Seat). option_and_then (λ (z : Seat). end_in z.server) o) (set_other w.seats place p (record s { server = OfEnd (Some (with_resource next e)) }) other)

  -- where its resources are found
  here_w : (k : ObjectKey) → place_of k ≡ place → resource_at w k ≡ find (has_number k) e.resources
  unfolding resource_at
  here_w k is = ap (λ (o : Option FlatEnd). option_and_then (λ (z : FlatEnd). find (has_number k) z.resources) o) (end_was (place_of k) is)

  here_v : (k : ObjectKey) → place_of k ≡ place → resource_at (replaced w place s e next ms) k ≡ find (has_number k) (map (in_place_of next) e.resources)
  unfolding resource_at
  here_v k is = ap (λ (o : Option FlatEnd). option_and_then (λ (z : FlatEnd). find (has_number k) z.resources) o) (end_is (place_of k) is)

  elsewhere : (k : ObjectKey) → place_of k ≢ place → resource_at (replaced w place s e next ms) k ≡ resource_at w k
  unfolding resource_at
  elsewhere k other = ap (λ (o : Option FlatEnd). option_and_then (λ (z : FlatEnd). find (has_number k) z.resources) o) (end_other (place_of k) other)

  -- its objects keep their numbers
  number_kept : (q : FlatResource) (b : Bool) → has_number next.key q ≡ b → (cond b next q).key.generation ≡ q.key.generation
  number_kept q true is = sym (same_number q.key.generation next.key.generation is)
  number_kept q false is = refl

  all_counted : (drawn : ℕ) (xs : List FlatResource) → AllByRecursion (λ (q : FlatResource). q.key.generation ≤ drawn) xs
      → AllByRecursion (λ (q : FlatResource). q.key.generation ≤ drawn) (map (in_place_of next) xs)
  all_counted drawn [] all = tt
  all_counted drawn (q ∷ xs) (one, all) =
      (subst (λ (g : ℕ). g ≤ drawn) (sym (number_kept q (has_number next.key q) refl)) one, all_counted drawn xs all)

  numbers_same : EndsHaveCounted w → (p : ℕ) (d : FlatEnd) → end_at (replaced w place s e next ms) p ≡ Some d
      → AllByRecursion (λ (q : FlatResource). q.key.generation ≤ d.drawn) d.resources
  numbers_same all p d is =
      elim (same_or_not p place) [
        | inl here ↦ subst (λ (x : FlatEnd). AllByRecursion (λ (q : FlatResource). q.key.generation ≤ x.drawn) x.resources)
            (same_end (sym (end_is p here) ∙ is)) (all_counted e.drawn e.resources (all.numbers p e (end_was p here)))
        | inr other ↦ all.numbers p d (sym (end_other p other) ∙ is)
      ]
    where
      same_end : {a b : FlatEnd} → Some a ≡ Some b → a ≡ b
      same_end e = cc

  messages_same : length w.messages ≤ length ms → EndsHaveCounted w → (p : ℕ) (d : FlatEnd) → end_at (replaced w place s e next ms) p ≡ Some d → d.drawn ≤ length ms
  messages_same more all p d is =
      elim (same_or_not p place) [
        | inl here ↦
            let low = all.messages p e (end_was p here) in
            let own = ap (λ (x : FlatEnd). x.drawn) (one_end (sym (end_is p here) ∙ is)) in
            omega (arith, more, low, own)
        | inr other ↦ let low = all.messages p d (sym (end_other p other) ∙ is) in omega (arith, more, low)
      ]
    where
      one_end : {a b : FlatEnd} → Some a ≡ Some b → a ≡ b
      one_end e = cc

  short_same : EndsHaveCounted w → (p : ℕ) (d : FlatEnd) (name : List ℕ) → end_at (replaced w place s e next ms) p ≡ Some d
      → seat_name (replaced w place s e next ms) p ≡ Some name → length name ≤ name_limit
  short_same all p d name is named =
      elim (same_or_not p place) [
        | inl here ↦ all.short p e name (end_was p here) (sym (name_same p) ∙ named)
        | inr other ↦ all.short p d name (sym (end_other p other) ∙ is) (sym (name_same p) ∙ named)
      ]

  -- where no message is lost
  pub counted_same : length w.messages ≤ length ms → EndsHaveCounted w → EndsHaveCounted (replaced w place s e next ms)
  counted_same more all = record {
    numbers = λ p d is. numbers_same all p d is;
    messages = λ p d is. messages_same more all p d is;
    short = λ p d name is named. short_same all p d name is named;
  }

  module _ (key : ObjectKey) (r : FlatResource) (at : place_of key ≡ place) (was : resource_at w key ≡ Some r) (same : next.key ≡ r.key) where
    found_r : find (has_number key) e.resources ≡ Some r
    found_r = sym (here_w key at) ∙ was

    r_number : r.key.generation ≡ key.generation
    r_number = same_number r.key.generation key.generation (find_passes (has_number key) e.resources r found_r)

    found_by : (k : ObjectKey) → next.key.generation ≡ k.generation → find (has_number k) e.resources ≡ Some r
    found_by k is =
        ap (λ (g : ℕ). find (λ (z : FlatResource). z.key.generation == g) e.resources)
        (sym is ∙ ap (λ (z : ObjectKey). z.generation) same ∙ r_number) ∙ found_r

    turned_here : (k : ObjectKey) (q : FlatResource) → place_of k ≡ place → FoundTurned k next e.resources q
        → ((k ≡ key → ⊥) × (resource_at w k ≡ Some q)) ⊎ ((q ≡ next) × (resource_at w k ≡ Some r))
    turned_here k q is (inl found) =
        inl (
          (λ own. true≢false (sym (own_number next.key.generation)
              ∙ ap (λ (n : ℕ). n == next.key.generation)
              (ap (λ (z : ObjectKey). z.generation) same
              ∙ ap (λ (z : FlatResource). z.key.generation) (inner_resource (sym found_r ∙ ap (λ (z : ObjectKey). find (has_number z) e.resources) (sym own) ∙ found.0)))
              ∙ found.1)),
          here_w k is ∙ found.0,
        )
    turned_here k q is (inr here) = inr (here.0, here_w k is ∙ found_by k here.1)

    pub turned_one : (k : ObjectKey) (q : FlatResource) → resource_at (replaced w place s e next ms) k ≡ Some q
        → ((k ≡ key → ⊥) × (resource_at w k ≡ Some q)) ⊎ ((q ≡ next) × (resource_at w k ≡ Some r))
    turned_one k q is =
        elim (same_or_not (place_of k) place) [
          | inl here ↦ turned_here k q here (found_turned k next e.resources q (sym (here_v k here) ∙ is))
          | inr other ↦ inl ((λ own. other (ap place_of own ∙ at)), sym (elsewhere k other) ∙ is)
        ]

    key_kept : (k : ObjectKey) (q : FlatResource) (a : Bool) → has_number next.key q ≡ a → find (has_number k) e.resources ≡ Some q → (cond a next q).key ≡ q.key
    key_kept k q true is found =
        let number = same_number q.key.generation k.generation (find_passes (has_number k) e.resources q found) in
        let of_next = same_number q.key.generation next.key.generation is in
        same ∙ ap (λ (z : FlatResource). z.key) (inner_resource (sym (found_by k (sym of_next ∙ number)) ∙ found))
    key_kept k q false is found = refl

    pub turned_still : (k : ObjectKey) (q : FlatResource) → resource_at w k ≡ Some q
        → (one : FlatResource) × (resource_at (replaced w place s e next ms) k ≡ Some one) × (one.key ≡ q.key)
    turned_still k q is =
        elim (same_or_not (place_of k) place) [
          | inl here ↦
              let found = sym (here_w k here) ∙ is in
              (in_place_of next q, here_v k here ∙ found_kept k next e.resources q found, key_kept k q (has_number next.key q) refl found)
          | inr other ↦ (q, elsewhere k other ∙ is, refl)
        ]

-- ---- what a script does with a resource

pub replaced_is : (w : World) (key : ObjectKey) (next : FlatResource) (e : FlatEnd) (at : EndIsUp w (place_of key) e) → end_at w (place_of key) ≡ Some e
    → with_resource_at key next w ≡ replaced w (place_of key) at.seat e next w.messages
unfolding with_resource_at
replaced_is w key next e at is =
    ap (λ (o : Option FlatEnd). elim o as (λ _. World) [ Some z ↦ with_server (place_of key) (OfEnd (Some (with_resource next z))) w | None ↦ w ]) is
    ∙ on_seat_there (place_of key) (λ (z : Seat). record z { server = OfEnd (Some (with_resource next e)) }) w at.seat at.there

-- its end is up
pub end_of : (w : World) (key : ObjectKey) (r : FlatResource) → resource_at w key ≡ Some r → (e : FlatEnd) × (end_at w (place_of key) ≡ Some e)
unfolding resource_at
end_of w key r is = by (end_at w (place_of key)) is
  where
    by : (o : Option FlatEnd) → option_and_then (λ (z : FlatEnd). find (has_number key) z.resources) o ≡ Some r → (e : FlatEnd) × (o ≡ Some e)
    by (Some e) found = (e, refl)
    by None found = absurd cc

unvoted_open : (s : State) (name : List ℕ) (h : _) → closed_by s ≡ None → HasVotedCommit s name h → ⊥
unvoted_open states.Fresh name h open_now voted = voted
unvoted_open states.Working name h open_now voted = voted
unvoted_open _ name h open_now voted = absurd cc

closed_end : (s t : State) → closed_by s ≡ None → (closed_by t ≡ None → ⊥) → s ≡ t → ⊥
closed_end s t open_now closed e = closed (subst (λ (z : State). closed_by z ≡ None) e open_now)

-- it works from then on, or is to refuse
abbrev pub IsTouchedState : State → Type 0
IsTouchedState s = (s ≡ states.Working) ⊎ (s ≡ states.Refused)

touched_unvoted : (s : State) (name : List ℕ) (h : _) → IsTouchedState s → HasNotVoted s name h
touched_unvoted s name h (inl is) = subst (λ (z : State). HasNotVoted z name h) (sym is) tt
touched_unvoted s name h (inr is) = subst (λ (z : State). HasNotVoted z name h) (sym is) tt

touched_follows : (s : State) (name : List ℕ) (h : _) → IsTouchedState s → StatesFollow s name h
touched_follows s name h (inl is) = subst (λ (z : State). StatesFollow z name h) (sym is) tt
touched_follows s name h (inr is) = subst (λ (z : State). StatesFollow z name h) (sym is) tt

touched_not : (s t : State) → IsTouchedState s → (states.Working ≡ t → ⊥) → (states.Refused ≡ t → ⊥) → s ≡ t → ⊥
touched_not s t (inl is) working refused e = working (sym is ∙ e)
touched_not s t (inr is) working refused e = refused (sym is ∙ e)

module _ (w : World) (told : List Told) (k : Known w told) (name : List ℕ) (key : ObjectKey) (r next : FlatResource)
    (named : thing w name ≡ Some (things.Resource key)) (was : resource_at w key ≡ Some r) (same : next.key ≡ r.key) (open_now : closed_by r.state ≡ None)
    (touched : IsTouchedState next.state) where
  touched_known : (e : FlatEnd) (at : EndIsUp w (place_of key) e)
      → ResourceIsKnown (replaced w (place_of key) at.seat e next w.messages) (lines_of told) name next
  touched_known e at =
      let old = k.resources name key r named was in
      let answered : (vote : Vote) → HasAnswered (replaced w (place_of key) at.seat e next w.messages) name vote → HasAnswered w name vote =
      λ vote a. (
        a.0,
        a.1,
        a.2,
        a.3,
        a.4,
        a.5,
        a.6,
        a.7,
        sym (refers_same w (place_of key) at.seat e next w.messages at.there at.up a.3.to) ∙ a.8,
        a.9,
        a.10,
        a.11,
      ) in
      record {
        commit = λ a. absurd (unvoted_open r.state name (lines_of told) open_now (old.commit (answered _ a)));
        read_only = λ a. absurd (closed_end r.state states.Forgotten open_now (λ (no : closed_by states.Forgotten ≡ None). absurd cc) (old.read_only (answered _ a)));
        rollback = λ a. absurd (closed_end r.state states.Undone open_now (λ (no : closed_by states.Undone ≡ None). absurd cc) (old.rollback (answered _ a)));
        none = λ no. touched_unvoted next.state name (lines_of told) touched;
        applied = (
          λ s. absurd (closed_end r.state states.Applied open_now (λ (no : closed_by states.Applied ≡ None). absurd cc) (old.applied.0 s)),
          λ is. absurd (touched_not next.state states.Applied touched (λ no. absurd cc) (λ no. absurd cc) is),
        );
        undone = (
          λ s. absurd (closed_end r.state states.Undone open_now (λ (no : closed_by states.Undone ≡ None). absurd cc) (old.undone.0 s)),
          λ is. absurd (touched_not next.state states.Undone touched (λ no. absurd cc) (λ no. absurd cc) is),
        );
        follows = touched_follows next.state name (lines_of told) touched;
      }

  touches : (e : FlatEnd) (at : EndIsUp w (place_of key) e)
      → Turns w (replaced w (place_of key) at.seat e next w.messages) told told (record { name = name; key = key }) r next
  touches e at = record {
    tells = subst (TellsOn is_state told) (append-nil told) (tells_on is_state told [] tt);
    shows = λ other s stands. inl stands;
    allowed = k.allowed;
    names = refl;
    refers = refers_same w (place_of key) at.seat e next w.messages at.there at.up;
    families = family_same w (place_of key) at.seat e next w.messages at.there at.up;
    records = records_same w (place_of key) at.seat e next w.messages at.there at.up;
    nodes = nodes_same w (place_of key) at.seat e next w.messages at.there at.up;
    seats_back = seats_were w (place_of key) at.seat e next w.messages at.there at.up;
    seats_on = seats_are w (place_of key) at.seat e next w.messages at.there at.up;
    named = named;
    was = was;
    turned = turned_one w (place_of key) at.seat e next w.messages at.there at.up key r refl was same;
    turned_on = turned_still w (place_of key) at.seat e next w.messages at.there at.up key r refl was same;
    messages = λ i m there. there;
    words_back = λ nth p q word. word;
    calls = λ nth m to act there says. there;
    replies = λ reply request m answer there says. inl there;
    counted = counted_same w (place_of key) at.seat e next w.messages at.there at.up (omega arith);
    many = as_long w.seats (place_of key) (record at.seat { server = OfEnd (Some (with_resource next e)) });
    known_next = touched_known e at;
  }

  pub touch_known : Known (with_resource_at key next w) told
  touch_known =
      let e = end_of w key r was in
      let at = end_is_up w (place_of key) e.0 e.1 in
      subst (λ (v : World). Known v told) (sym (replaced_is w key next e.0 at e.1))
      (turned_known w (replaced w (place_of key) at.seat e.0 next w.messages) told told k (record { name = name; key = key }) r next (touches e.0 at))
