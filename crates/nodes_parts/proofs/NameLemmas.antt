-- What names name, as a map has it, and how a transaction is found that has a name.
use Rattle.std.proofs.Common.{◌≡◌, ℕ, ◌==◌, ◌&&◌, Bool, true, false, List, [], ◌∷◌, ◌++◌, length, take, Option, Some, None, refl, sym, ap, ◌∙◌}
use Rattle.std.specs.Bool.{if◌then◌else◌}
use Rattle.std.specs.List.{filter_map, find}
use Rattle.std.specs.Map.{lookup}
use Rattle.std.specs.Option.{option_map, option_or}
use Rattle.std.specs.Str.{bytes_eq}
use Rattle.std.proofs.Math.Seq.{take-append_seam}
use Rattle.std.proofs.lemmas.Bool.Decides.{same_from_decides, Decides-and, Decides-like, Decides-eqb}
use Rattle.std.proofs.lemmas.List.Elements.{filter_map-append}
use Rattle.std.proofs.lemmas.List.Folds.{find-append}
use Rattle.std.proofs.lemmas.Slice.Eq.{bytes_eq-Decides}
use Rattle.ior_refs.specs.declared.key.ObjectKey.{ObjectKey}
use Rattle.ots_model.specs.NameInside.{padded}
use Rattle.nodes_world.specs.declared.thing.Thing.{Thing}
use Rattle.nodes_world.specs.declared.thing.Thing.TheVariants as things
use Rattle.nodes_world.specs.Objects.{same_transaction}
use Rattle.nodes_world.specs.World.{NamedKey, thing_in, transaction_in}
use Rattle.nodes_parts.specs.Naming.{name_of_key}

-- what the derived comparison of two names computes
abbrev pub same_padded : List ℕ → List ℕ → Bool
same_padded xs ys = bytes_eq (padded xs).octets (padded ys).octets && length xs == length ys

-- octets in front of as many zeros are read back
front_of : (xs ys zs ws : List ℕ) → length xs ≡ length ys → xs ++ zs ≡ ys ++ ws → xs ≡ ys
front_of xs ys zs ws n e =
    sym (take-append_seam xs zs) ∙ ap (λ l. take (length xs) l) e ∙ ap (λ k. take k (ys ++ ws)) n ∙ take-append_seam ys ws

-- two names are equal where their octets are
pub same_padded-same : (xs ys : List ℕ) → same_padded xs ys ≡ bytes_eq xs ys
same_padded-same xs ys =
    same_from_decides (same_padded xs ys) (bytes_eq xs ys)
    (Decides-like (same_padded xs ys)
    (λ both. front_of xs ys _ _ both.1 both.0)
    (λ same. (ap (λ l. (padded l).octets) same, ap length same))
    (Decides-and _ _ (bytes_eq-Decides (padded xs).octets (padded ys).octets) (Decides-eqb (length xs) (length ys))))
    (bytes_eq-Decides xs ys)

-- a map's look-up of a name
pub lookup-thing : (entries : List (List ℕ × Thing)) (name : List ℕ) → lookup (same_padded name) entries ≡ thing_in entries name
unfolding thing_in
lookup-thing [] name = refl
lookup-thing (entry ∷ entries) name = let e = same_padded-same name entry.0 in let rest = lookup-thing entries name in cc

-- ---- transactions

abbrev pub transaction_of : List ℕ × Thing → Option NamedKey
transaction_of entry = transaction_in entry.0 entry.1

abbrev pub is_key : ObjectKey → NamedKey → Bool
is_key key t = same_transaction t.key key

abbrev pub name_in_key : NamedKey → List ℕ
name_in_key t = t.name

or_nothing : {A : Type 0} (m : Option A) → option_or m None ≡ m
or_nothing None = refl
or_nothing (Some x) = refl

map_or : {A B : Type 0} (f : A → B) (m n : Option A) → option_map f (option_or m n) ≡ option_or (option_map f m) (option_map f n)
map_or f None n = refl
map_or f (Some x) n = refl

-- the name of a key, of those that have one and a further one
name_behind : (some : List (List ℕ × Thing)) (entry : List ℕ × Thing) (key : ObjectKey)
    → name_of_key (some ++ entry ∷ []) key
    ≡ option_or (name_of_key some key) (option_map name_in_key (find (is_key key) (filter_map transaction_of (entry ∷ []))))
name_behind some entry key =
    ap (λ keys. option_map name_in_key (find (is_key key) keys)) (filter_map-append transaction_of some (entry ∷ []))
    ∙ ap (option_map name_in_key) (find-append (is_key key) (filter_map transaction_of some) (filter_map transaction_of (entry ∷ [])))
    ∙ map_or name_in_key _ _

-- what isn't a transaction changes nothing
pub seat_named : (some : List (List ℕ × Thing)) (name : List ℕ) (place : ℕ) (key : ObjectKey)
    → name_of_key (some ++ (name, things.Seat place) ∷ []) key ≡ name_of_key some key
seat_named some name place key = name_behind some (name, things.Seat place) key ∙ or_nothing _

pub resource_named : (some : List (List ℕ × Thing)) (name : List ℕ) (k key : ObjectKey)
    → name_of_key (some ++ (name, things.Resource k) ∷ []) key ≡ name_of_key some key
resource_named some name k key = name_behind some (name, things.Resource k) key ∙ or_nothing _

picked : (b : Bool) (m : Option (List ℕ)) (t : NamedKey) → option_or m (option_map name_in_key (if b then Some t else None)) ≡ (if b then option_or m (Some t.name) else m)
picked true m t = refl
picked false m t = or_nothing m

-- a transaction has this name, where its key had none
pub transaction_named : (some : List (List ℕ × Thing)) (name : List ℕ) (k key : ObjectKey)
    → name_of_key (some ++ (name, things.Transaction k) ∷ []) key
    ≡ (if same_transaction k key then option_or (name_of_key some key) (Some name) else name_of_key some key)
transaction_named some name k key = name_behind some (name, things.Transaction k) key ∙ picked (same_transaction k key) _ (record { name = name; key = k })
