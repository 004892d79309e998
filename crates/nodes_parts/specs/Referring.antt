-- Resources by their references, as the code finds them (our profile).
use Rattle.std.specs.Prelude.{◌≡◌, ◌==◌, ◌+◌, ◌-◌, ◌*◌, ◌%◌, ◌^◌, ℕ, suc, List, [], ◌∷◌, bytes_eq, drop, length, map, nat_lt, slice_get, Option, None, Some, if◌then◌else◌}
use Rattle.std.specs.Map.{lookup}
use Rattle.std.specs.Option.{option_and_then, option_map, option_or}
use Rattle.byteorder.specs.Endian.{big_number}
use Rattle.nodes_world.specs.World.{NamedKey}
use Rattle.nodes_parts.specs.declared.places.Numbers.{Numbers}
use Rattle.nodes_parts.specs.declared.references.NamedKey.{NamedKey as Kept}

-- as it is defined
abbrev pub named : Kept → NamedKey
named k = record { name = k.name; key = k.key }

abbrev pub entry_of : List ℕ × Kept → List ℕ × NamedKey
entry_of e = (e.0, named e.1)

-- the resource to which a reference leads
abbrev pub referred_in : List (List ℕ × NamedKey) → List ℕ → Option NamedKey
referred_in entries to = lookup (bytes_eq to) entries

-- a reference that led nowhere leads to this resource
abbrev pub LeadsTo : List ℕ → NamedKey → List (List ℕ × NamedKey) → List (List ℕ × NamedKey) → Type 0
LeadsTo reference to before after =
    (octets : List ℕ) → referred_in after octets
    ≡ (if bytes_eq reference octets then option_or (referred_in before octets) (Some to) else referred_in before octets)

-- the numbers in a reference that is long enough: the low half of that of its service, and that of its object
abbrev pub numbers_in : List ℕ → Option Numbers
numbers_in r =
    if nat_lt (length r) 28 then None
    else Some (record { service = big_number 4 (drop (length r - 28) r); object = big_number 8 (drop (length r - 16) r) })

-- the digest of a reference: the number of its object, and that of its service above it
abbrev pub digest_of : List ℕ → ℕ
digest_of r =
    if nat_lt (length r) 28 then 0
    else (big_number 8 (drop (length r - 16) r) + big_number 4 (drop (length r - 28) r) * 2 ^ 32) % 2 ^ 64

-- the place of the first reference that has a digest
abbrev pub first_so : ℕ → List (List ℕ × Kept) → Option ℕ
first_so digest [] = None
first_so digest (e ∷ es) = if digest == digest_of e.0 then Some 0 else option_map suc (first_so digest es)

-- the place of the first reference is found by its digest
abbrev pub FindsFirst : List (ℕ × ℕ) → List (List ℕ × Kept) → Type 0
FindsFirst firsts entries = (digest : ℕ) → lookup (λ k. digest == k) firsts ≡ first_so digest entries

-- the resource to which the reference at a place leads, where it is this one
abbrev pub led_at : List (List ℕ × Kept) → ℕ → List ℕ → Option NamedKey
led_at entries place to = option_and_then (λ (e : List ℕ × Kept). if bytes_eq to e.0 then Some (named e.1) else None) (slice_get entries place)

-- each reference leads to the resource that stands beside it
abbrev pub LeadThere : List (List ℕ × Kept) → Type 0
LeadThere entries =
    (place : ℕ) (e : List ℕ × Kept) → slice_get entries place ≡ Some e → referred_in (map entry_of entries) e.0 ≡ Some (named e.1)

-- the first reference with a digest is found by it, and each leads to its own resource
pub record Finds (firsts : List (ℕ × ℕ)) (entries : List (List ℕ × Kept)) : Type 0 where
  pub first : FindsFirst firsts entries
  pub there : LeadThere entries
