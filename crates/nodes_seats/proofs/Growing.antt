-- A world that has one more seat is whole.
use Rattle.std.proofs.Common.{◌≡◌, ◌⊎◌, inl, inr, ℕ, zero, suc, ◌+◌, ◌<◌, Bool, cond, false, find, bytes_eq, List, [], ◌∷◌, ◌++◌, length, map, filter_map, slice_get, Contains, Option, Some, refl, sym, ap, subst, ◌∙◌, append-nil, arith}
use Rattle.std.specs.Option.{option_map, option_map_or}
use Rattle.std.proofs.lemmas.List.{length_push, length-map, map-append}
use Rattle.std.proofs.lemmas.List.Elements.{Contains-append_right, filter_map-append}
use Rattle.ior_refs.specs.declared.key.ObjectKey.{ObjectKey}
use Rattle.nodes_world.specs.Limits.{seat_limit}
use Rattle.nodes_world.specs.Objects.{place_of, reference}
use Rattle.nodes_world.specs.World.{NamedKey, Seat, World, is_referred_to, referred, resource_in, resources, transaction_name, with_name, with_new_seat}
use Rattle.nodes_world.specs.declared.message.Message.{Message}
use Rattle.nodes_world.specs.declared.thing.Thing.{Thing}
use Rattle.nodes_world.specs.declared.thing.Thing.TheVariants as things
use Rattle.nodes_parts.specs.Naming.{IsNamedToo, name_of_key}
use Rattle.nodes_parts.specs.Referring.{referred_in}
use Rattle.nodes_state.specs.Seated.{seat_of}
use Rattle.nodes_state.specs.Shown.{shown}
use Rattle.nodes_state.specs.declared.seats.Seat.{Seat as Kept}
use Rattle.nodes_state.specs.declared.state.State.{State}
use Rattle.nodes_seats.specs.Whole.{ArePlaced, IsServed, IsWhole}

pub at_front : {A : Type 0} (xs : List A) (y : A) (k : ℕ) → k < length xs → slice_get (xs ++ y ∷ []) k ≡ slice_get xs k
at_front [] y k less = absurd (omega arith)
at_front (x ∷ xs) y zero less = refl
at_front (x ∷ xs) y (suc k) less = at_front xs y k (omega arith)

pub push_cases : {A : Type 0} (xs : List A) (y u : A) (k : ℕ) → slice_get (xs ++ y ∷ []) k ≡ Some u → ((k ≡ length xs) × (u ≡ y)) ⊎ (slice_get xs k ≡ Some u)
push_cases [] y u zero e = inl (refl, cc)
push_cases [] y u (suc k) e = inr e
push_cases (x ∷ xs) y u zero e = inr e
push_cases (x ∷ xs) y u (suc k) e = elim (push_cases xs y u k e) [
  | inl here ↦ inl (ap suc here.0, here.1)
  | inr there ↦ inr there
]

pub find_alike : {A : Type 0} (p q : A → Bool) (xs : List A) → ((x : A) → Contains xs x → p x ≡ q x) → find p xs ≡ find q xs
find_alike p q [] h = refl
find_alike p q (x ∷ xs) h =
    ap (λ b. cond b (Some x) (find p xs)) (h x (0, omega arith, refl))
    ∙ ap (λ o. cond (q x) (Some x) o) (find_alike p q xs (λ y c. h y (Contains-append_right (x ∷ []) xs y c)))

-- whom a reference finds depends on the names of seats alone
pub refers : List ℕ → ObjectKey → Option (List ℕ) → Bool
refers to key o = option_map_or (λ (octets : List ℕ). bytes_eq octets to) (option_map (λ (name : List ℕ). reference name key) o) false

abbrev resource_of : List ℕ × Thing → Option NamedKey
resource_of entry = resource_in entry.0 entry.1

resources_more : (some : List (List ℕ × Thing)) (name : List ℕ) (n : ℕ) → filter_map resource_of (some ++ (name, things.Seat n) ∷ []) ≡ filter_map resource_of some
resources_more some name n = filter_map-append resource_of some ((name, things.Seat n) ∷ []) ∙ append-nil (filter_map resource_of some)

abbrev pub grown : List ℕ → ℕ → Seat → World → World
grown name n s w = with_name name (things.Seat n) (with_new_seat s w)

referred_more : (w : World) (s : Seat) (name : List ℕ) (n : ℕ) (to : List ℕ) → ArePlaced w → referred (grown name n s w) to ≡ referred w to
unfolding referred
referred_more w s name n to placed =
    ap (λ (rs : List NamedKey). find (is_referred_to (grown name n s w) to) rs) (resources_more w.names name n)
    ∙ find_alike (is_referred_to (grown name n s w) to) (is_referred_to w to) (resources w)
    (λ r c. ap (λ (o : Option Seat). option_map_or (λ (octets : List ℕ). bytes_eq octets to) (option_map (λ (name : List ℕ). reference name r.key) (option_map (λ (x : Seat). x.name) o)) false)
    (at_front w.seats s (place_of r.key) (placed r c)))

pub name_is : (some : List (List ℕ × Thing)) (w : World) (key : ObjectKey) → w.names ≡ some → name_of_key some key ≡ transaction_name w key
unfolding transaction_name
name_is some w key e = ap (λ (xs : List (List ℕ × Thing)). name_of_key xs key) (sym e)

module _ (old new : State) (name : List ℕ) (s : Kept) (seats : new.seats.items ≡ old.seats.items ++ s ∷ []) (messages : new.messages ≡ old.messages)
    (named : IsNamedToo old.names new.names name (things.Seat (length old.seats.items))) where
  pub world_grows : shown new ≡ grown name (length old.seats.items) (seat_of s) (shown old)
  world_grows =
      ap (λ (xs : List Kept). record { seats = map seat_of xs; messages = new.messages; names = new.names.things }) seats
      ∙ ap (λ (xs : List Seat). record { seats = xs; messages = new.messages; names = new.names.things }) (map-append seat_of old.seats.items (s ∷ []))
      ∙ ap (λ (m : List Message). record { seats = map seat_of old.seats.items ++ seat_of s ∷ []; messages = m; names = new.names.things }) messages
      ∙ ap (λ (ns : List (List ℕ × Thing)). record { seats = map seat_of old.seats.items ++ seat_of s ∷ []; messages = old.messages; names = ns }) named

  pub world_grows_by : shown new ≡ with_name name (things.Seat (length (shown old).seats)) (with_new_seat (seat_of s) (shown old))
  world_grows_by = world_grows ∙ ap (λ n. grown name n (seat_of s) (shown old)) (sym (length-map old.seats.items seat_of))

  pub whole_grows : IsWhole old → length old.seats.items < seat_limit → IsServed (length old.seats.items) s.server → new.names.referred ≡ old.names.referred → IsWhole new
  whole_grows whole room served same = record {
    few = let e = ap (λ (xs : List Kept). length xs) seats ∙ length_push old.seats.items s in omega arith;
    served = λ place seat there. elim (push_cases old.seats.items s seat place (sym (ap (λ (xs : List Kept). slice_get xs place) seats) ∙ there)) [
      | inl here ↦ subst (λ (u : Kept). IsServed place u.server) (sym here.1) (subst (λ n. IsServed n s.server) (sym here.0) served)
      | inr there ↦ whole.served place seat there
    ];
    names = record {
      things = refl;
      transactions = λ key. name_is new.names.things (shown new) key refl;
      references = λ to. ap (λ xs. referred_in xs to) same ∙ whole.names.references to
          ∙ sym (ap (λ (w : World). referred w to) world_grows ∙ referred_more (shown old) (seat_of s) name (length old.seats.items) to whole.placed);
    };
    placed = λ r c.
        let e = length-map new.seats.items seat_of in
        let f = length-map old.seats.items seat_of in
        let g = ap (λ (xs : List Kept). length xs) seats ∙ length_push old.seats.items s in
        let less = whole.placed r (subst (λ (rs : List NamedKey). Contains rs r) (ap (λ (ns : List (List ℕ × Thing)). filter_map resource_of ns) named ∙ resources_more old.names.things name (length old.seats.items)) c) in
        omega arith;
  }
