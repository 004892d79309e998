-- The names of a world are found where a seat keeps its name, and where a transaction is named too.
use Rattle.std.proofs.Common.{◌≡◌, ℕ, zero, suc, Bool, false, cond, List, [], ◌∷◌, ◌++◌, map, find, filter_map, slice_get, slice_set, Option, Some, refl, sym, ap, ◌∙◌}
use Rattle.std.specs.Option.{option_map, option_map_or}
use Rattle.std.proofs.lemmas.List.{append-nil, map-set}
use Rattle.std.proofs.lemmas.List.Elements.{filter_map-append}
use Rattle.std.proofs.lemmas.Option.{slice_get-map}
use Rattle.std.specs.Prelude.{bytes_eq}
use Rattle.ior_refs.specs.declared.key.ObjectKey.{ObjectKey}
use Rattle.nodes_world.specs.declared.message.Message.{Message}
use Rattle.nodes_world.specs.declared.thing.Thing.{Thing}
use Rattle.nodes_world.specs.declared.thing.Thing.TheVariants as things
use Rattle.nodes_world.specs.Objects.{place_of, reference}
use Rattle.nodes_world.specs.World.{NamedKey, Seat, World, is_referred_to, referred, resource_in, resources, transaction_name}
use Rattle.nodes_parts.specs.Naming.{Names, IsNamedToo, name_of_key}
use Rattle.nodes_parts.specs.Referring.{referred_in}
use Rattle.nodes_state.specs.Seated.{seat_of}
use Rattle.nodes_state.specs.Telling.{AreNamesOf}
use Rattle.nodes_state.specs.declared.seats.Seat.{Seat as Kept}

-- a transaction's name is found among the names alone
name_is : (things : List (List ℕ × Thing)) (w : World) (key : ObjectKey) → w.names ≡ things → name_of_key things key ≡ transaction_name w key
unfolding transaction_name
name_is things w key e = ap (λ (xs : List (List ℕ × Thing)). name_of_key xs key) (sym e)

find_alike : {A : Type 0} (p q : A → Bool) → ((x : A) → p x ≡ q x) → (xs : List A) → find p xs ≡ find q xs
find_alike p q e [] = refl
find_alike p q e (x ∷ xs) =
    ap (λ b. cond b (Some x) (find p xs)) (e x) ∙ ap (λ o. cond (q x) (Some x) o) (find_alike p q e xs)

-- a seat's name, whatever else becomes of it
seat_keeps : (xs : List Seat) (place i : ℕ) (s x : Seat) → slice_get xs place ≡ Some s → x.name ≡ s.name
    → option_map (λ (y : Seat). y.name) (slice_get (slice_set xs place x) i) ≡ option_map (λ (y : Seat). y.name) (slice_get xs i)
seat_keeps [] place i s x there same = refl
seat_keeps (y ∷ xs) zero zero s x there same = let e : y ≡ s = cc in ap (λ n. Some n) (same ∙ ap (λ (z : Seat). z.name) (sym e))
seat_keeps (y ∷ xs) zero (suc i) s x there same = refl
seat_keeps (y ∷ xs) (suc place) zero s x there same = refl
seat_keeps (y ∷ xs) (suc place) (suc i) s x there same = seat_keeps xs place i s x there same

pub referred_keeps : (xs : List Seat) (m : List Message) (names : List (List ℕ × Thing)) (place : ℕ) (s x : Seat) (to : List ℕ)
    → slice_get xs place ≡ Some s → x.name ≡ s.name
    → referred (record { seats = slice_set xs place x; messages = m; names = names }) to ≡ referred (record { seats = xs; messages = m; names = names }) to
unfolding referred
referred_keeps xs m names place s x to there same =
    let after : World = record { seats = slice_set xs place x; messages = m; names = names } in
    let before : World = record { seats = xs; messages = m; names = names } in
    find_alike (is_referred_to after to) (is_referred_to before to)
    (λ (r : NamedKey). ap (λ (o : Option (List ℕ)). option_map_or (λ (octets : List ℕ). bytes_eq octets to) (option_map (λ (name : List ℕ). reference name r.key) o) false)
    (seat_keeps xs place (place_of r.key) s x there same))
    (resources before)

-- no resource is named where a transaction is
pub resources_more : (names : List (List ℕ × Thing)) (name : List ℕ) (key : ObjectKey)
    → filter_map (λ (entry : List ℕ × Thing). resource_in entry.0 entry.1) (names ++ (name, things.Transaction key) ∷ [])
    ≡ filter_map (λ (entry : List ℕ × Thing). resource_in entry.0 entry.1) names
resources_more names name key =
    filter_map-append (λ (entry : List ℕ × Thing). resource_in entry.0 entry.1) names ((name, things.Transaction key) ∷ [])
    ∙ append-nil (filter_map (λ (entry : List ℕ × Thing). resource_in entry.0 entry.1) names)

pub resources_named : (n later : Names) (name : List ℕ) (key : ObjectKey) → IsNamedToo n later name (things.Transaction key)
    → filter_map (λ (entry : List ℕ × Thing). resource_in entry.0 entry.1) later.things
    ≡ filter_map (λ (entry : List ℕ × Thing). resource_in entry.0 entry.1) n.things
resources_named n later name key named =
    ap (λ (some : List (List ℕ × Thing)). filter_map (λ (entry : List ℕ × Thing). resource_in entry.0 entry.1) some) named
    ∙ resources_more n.things name key

referred_more : (xs : List Seat) (m : List Message) (names : List (List ℕ × Thing)) (name : List ℕ) (key : ObjectKey) (to : List ℕ)
    → referred (record { seats = xs; messages = m; names = names ++ (name, things.Transaction key) ∷ [] }) to
    ≡ referred (record { seats = xs; messages = m; names = names }) to
unfolding referred
referred_more xs m names name key to =
    ap (λ (rs : List NamedKey). find (is_referred_to (record { seats = xs; messages = m; names = names }) to) rs) (resources_more names name key)

-- a seat in place of another one with its name
pub names_keep : (n : Names) (xs : List Kept) (m : List Message) (place : ℕ) (k x : Kept) → slice_get xs place ≡ Some k → (seat_of x).name ≡ (seat_of k).name
    → AreNamesOf n (record { seats = map seat_of xs; messages = m; names = n.things })
    → AreNamesOf n (record { seats = map seat_of (slice_set xs place x); messages = m; names = n.things })
names_keep n xs m place k x there same h = record {
  things = refl;
  transactions = λ key. name_is n.things (record { seats = map seat_of (slice_set xs place x); messages = m; names = n.things }) key refl;
  references = λ to. h.references to
      ∙ sym (referred_keeps (map seat_of xs) m n.things place (seat_of k) (seat_of x) to (slice_get-map seat_of xs place ∙ ap (λ o. option_map seat_of o) there) same)
      ∙ sym (ap (λ ss. referred (record { seats = ss; messages = m; names = n.things }) to) (map-set seat_of xs place x));
}

-- a transaction is named too
pub names_more : (n later : Names) (xs : List Seat) (m : List Message) (name : List ℕ) (key : ObjectKey) → IsNamedToo n later name (things.Transaction key)
    → later.referred ≡ n.referred → AreNamesOf n (record { seats = xs; messages = m; names = n.things })
    → AreNamesOf later (record { seats = xs; messages = m; names = later.things })
names_more n later xs m name key named same h = record {
  things = refl;
  transactions = λ key. name_is later.things (record { seats = xs; messages = m; names = later.things }) key refl;
  references = λ to. ap (λ rs. referred_in rs to) same ∙ h.references to ∙ sym (referred_more xs m n.things name key to)
      ∙ sym (ap (λ ns. referred (record { seats = xs; messages = m; names = ns }) to) named);
}
