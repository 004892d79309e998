-- A resource that has a name too is found, and the world stays ready.
use Rattle.std.proofs.Common.{◌≡◌, inl, inr, ℕ, ◌<◌, Bool, true, false, cond, List, [], ◌∷◌, ◌++◌, length, map, find, filter_map, slice_get, Contains, Option, Some, None, refl, sym, ap, subst, ◌∙◌}
use Rattle.std.specs.Option.{option_map, option_map_or, option_or}
use Rattle.std.specs.Prelude.{bytes_eq}
use Rattle.std.proofs.lemmas.List.Elements.{Contains-push_cases, filter_map-append}
use Rattle.std.proofs.lemmas.List.Folds.{find-append}
use Rattle.std.proofs.lemmas.Option.{slice_get_within}
use Rattle.ior_refs.specs.declared.key.ObjectKey.{ObjectKey}
use Rattle.nodes_world.specs.declared.message.Message.{Message}
use Rattle.nodes_world.specs.declared.thing.Thing.{Thing}
use Rattle.nodes_world.specs.declared.thing.Thing.TheVariants as things
use Rattle.nodes_world.specs.Objects.{place_of, reference}
use Rattle.nodes_world.specs.World.{NamedKey, Seat, World, is_referred_to, referred, resource_in, resources, seat_name}
use Rattle.nodes_parts.specs.Naming.{Names, IsNamedToo, IsReferredToo}
use Rattle.nodes_state.specs.Seated.{seat_of}
use Rattle.nodes_state.specs.Shown.{shown}
use Rattle.nodes_state.specs.declared.state.State.{State}
use Rattle.nodes_state.proofs.Named.{name_is}
use Rattle.nodes_ready.specs.Ready.{IsReady}

abbrev resource_of : List ℕ × Thing → Option NamedKey
resource_of entry = resource_in entry.0 entry.1

abbrev world : List Seat → List Message → List (List ℕ × Thing) → World
world xs m names = record { seats = xs; messages = m; names = names }

one_more : {A : Type 0} (p : A → Bool) (xs : List A) (x : A) (b : Bool) → p x ≡ b
    → find p (xs ++ x ∷ []) ≡ (cond b (option_or (find p xs) (Some x)) (find p xs))
one_more {A = A} p xs x b e = find-append p xs (x ∷ []) ∙ ap (λ c. option_or (find p xs) (cond c (Some x) None)) e ∙ chosen b (find p xs)
  where
    chosen : (c : Bool) (o : Option A) → option_or o (cond c (Some x) None) ≡ cond c (option_or o (Some x)) o
    chosen true o = refl
    chosen false (Some y) = refl
    chosen false None = refl

named_within : (xs : List Seat) (place : ℕ) (name : List ℕ) → option_map (λ (x : Seat). x.name) (slice_get xs place) ≡ Some name → place < length xs
named_within xs place name e = by_seat (slice_get xs place) refl e
  where
    by_seat : (o : Option Seat) → slice_get xs place ≡ o → option_map (λ (x : Seat). x.name) o ≡ Some name → place < length xs
    by_seat (Some x) there is = slice_get_within xs place x there
    by_seat None there is = absurd cc

module _ (s : State) (n : Names) (name : List ℕ) (key : ObjectKey) (octets end : List ℕ) (there : seat_name (shown s) (place_of key) ≡ Some end)
    (is : octets ≡ reference end key) where
  abbrev one : NamedKey
  one = record { name = name; key = key }

  resources_too : filter_map resource_of (s.names.things ++ (name, things.Resource key) ∷ []) ≡ filter_map resource_of s.names.things ++ one ∷ []
  resources_too = filter_map-append resource_of s.names.things ((name, things.Resource key) ∷ [])

  leads : (to : List ℕ) → is_referred_to (shown s) to one ≡ bytes_eq octets to
  leads to =
      ap (λ (o : Option (List ℕ)). option_map_or (λ (os : List ℕ). bytes_eq os to) (option_map (λ (nm : List ℕ). reference nm key) o) false) there
      ∙ ap (λ os. bytes_eq os to) (sym is)

  referred_too : (to : List ℕ) → referred (world (shown s).seats s.messages (s.names.things ++ (name, things.Resource key) ∷ [])) to
      ≡ cond (bytes_eq octets to) (option_or (referred (shown s) to) (Some one)) (referred (shown s) to)
  unfolding referred
  referred_too to =
      ap (λ (rs : List NamedKey). find (is_referred_to (shown s) to) rs) resources_too
      ∙ one_more (is_referred_to (shown s) to) (resources (shown s)) one (bytes_eq octets to) (leads to)

  pub ready_resource : IsNamedToo s.names n name (things.Resource key) → IsReferredToo s.names n octets name key → IsReady s → IsReady (record s { names = n })
  ready_resource named leads_to ready = record {
    whole = record {
      few = ready.whole.few;
      served = ready.whole.served;
      names = record {
        things = refl;
        transactions = λ key. name_is n.things (shown (record s { names = n })) key refl;
        references = λ to. leads_to to
            ∙ ap (λ (o : Option NamedKey). cond (bytes_eq octets to) (option_or o (Some one)) o) (ready.whole.names.references to)
            ∙ sym (referred_too to)
            ∙ sym (ap (λ ns. referred (world (map seat_of s.seats.items) s.messages ns) to) named);
      };
      placed = λ r c. elim (Contains-push_cases (filter_map resource_of s.names.things) one r
          (subst (λ (rs : List NamedKey). Contains rs r) (ap (λ ns. filter_map resource_of ns) named ∙ resources_too) c)) [
            | inl old ↦ ready.whole.placed r old
            | inr new ↦ subst (λ (k : NamedKey). place_of k.key < length (shown s).seats) new (named_within (shown s).seats (place_of key) end there)
          ];
    };
    clients = ready.clients;
  }
