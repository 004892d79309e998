-- The otids, names, hashes and relations of a family's transactions (Transaction Service, interface Coordinator; the numbers
-- of our own otids, and how another coordinator is known by its key, are our profile).
use Rattle.std.specs.Prelude.{ℕ, ◌==◌, ◌&&◌, Bool, nat_lt, List, length, Option, Some, None, if◌then◌else◌}
use Rattle.std.specs.Option.{option_map, option_map_or}
use Rattle.ior_refs.specs.declared.key.ObjectKey.{ObjectKey}
use Rattle.otid_names.specs.Otid.{OtidParts}
use Rattle.otid_names.specs.Own.{own}
use Rattle.otid_names.specs.Name.{name, hash}
use Rattle.otid_names.specs.declared.otid.OwnNumbers.{OwnNumbers}
use Rattle.txn_tree.specs.Rows.{is_ancestor, are_related}
use Rattle.coordinator.specs.declared.said.Said.{Said}
use Rattle.coordinator.specs.declared.said.Said.TheVariants as said
use Rattle.coordinator.specs.Family.{Family, Superior}

-- the numbers of a branch's own otid
abbrev pub numbers_of : Family → ℕ → OwnNumbers
numbers_of f b = record { service = f.key.service; life = f.key.life; generation = f.key.generation; branch = b }

-- a subordinate's branch 0 has the otid that its superior gave
abbrev pub given_otid : Family → ℕ → Option OtidParts
given_otid f b = if b == 0 then option_map (λ (s : Superior). s.otid) f.superior else None

unfoldable pub otid_of : Family → ℕ → OtidParts
otid_of f b = option_map_or (λ o. o) (given_otid f b) (own (numbers_of f b))

unfoldable pub name_of : Family → ℕ → List ℕ
name_of f b = name (otid_of f b)

unfoldable pub hash_of : Family → ℕ → ℕ
hash_of f b = hash (otid_of f b)

-- the letter of a coordinator's key
abbrev pub coordinator_kind : ℕ
coordinator_kind = 75

-- a key is that of a coordinator of this family
abbrev pub is_of_family : Family → ObjectKey → Bool
is_of_family f k =
    k.kind == coordinator_kind && k.service == f.key.service && k.life == f.key.life && k.slot == f.key.slot
    && k.generation == f.key.generation && nat_lt k.index (length f.rows)

-- a relation to the transaction of another coordinator: none to one that isn't of this family, and nothing is said of
-- another service's
abbrev pub related_by : (ℕ → Bool) → Family → Option ObjectKey → Said
related_by relation f None = said.NoImplement
related_by relation f (Some k) =
    if k.service == f.key.service then said.Flag (is_of_family f k && relation k.index) else said.NoImplement

abbrev pub is_same : Family → ℕ → Option ObjectKey → Said
is_same f b other = related_by (λ c. b == c) f other

abbrev pub is_related : Family → ℕ → Option ObjectKey → Said
is_related f b other = related_by (are_related f.rows b) f other

abbrev pub is_ancestor_of : Family → ℕ → Option ObjectKey → Said
is_ancestor_of f b other = related_by (is_ancestor f.rows b) f other

abbrev pub is_descendant_of : Family → ℕ → Option ObjectKey → Said
is_descendant_of f b other = related_by (λ c. is_ancestor f.rows c b) f other
