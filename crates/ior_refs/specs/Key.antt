-- The object keys of this service's own objects (our profile).
use Rattle.std.specs.Prelude.{◌≡◌, ◌^◌, ◌<◌, ℕ, ◌==◌, Bool, List, [], ◌∷◌, ◌++◌, drop, codes, IsTrue}
use Rattle.std.specs.List.{list_any}
use Rattle.byteorder.specs.Endian.{big_bytes, big_number}
use Rattle.ior_refs.specs.declared.key.ObjectKey.{ObjectKey}

-- the letters of kinds
abbrev pub kinds : List ℕ
kinds = codes "FCTKVRUYAD"

-- an octet is the letter of a kind
abbrev pub is_kind : ℕ → Bool
is_kind octet = list_any (λ kind. kind == octet) kinds

-- the letters OTS, the kind, and the numbers, each big endian
abbrev pub octets_of_key : ObjectKey → List ℕ
octets_of_key k =
    codes "OTS" ++ k.kind ∷ [] ++ big_bytes 8 k.service ++ big_bytes 4 k.life ++ big_bytes 4 k.slot
    ++ big_bytes 8 k.generation ++ big_bytes 4 k.index

-- the key of a kind and the octets of its numbers
abbrev pub key_in : ℕ → List ℕ → ObjectKey
key_in kind numbers = record {
  kind = kind;
  service = big_number 8 numbers;
  life = big_number 4 (drop 8 numbers);
  slot = big_number 4 (drop 12 numbers);
  generation = big_number 8 (drop 16 numbers);
  index = big_number 4 (drop 24 numbers);
}

-- numbers that fit their octets
pub record AreNumbers (k : ObjectKey) : Type 0 where
  pub kind : k.kind < 2 ^ 8
  pub service : k.service < 2 ^ 64
  pub life : k.life < 2 ^ 32
  pub slot : k.slot < 2 ^ 32
  pub generation : k.generation < 2 ^ 64
  pub index : k.index < 2 ^ 32

-- the octets are those of this key, whose numbers fit them, and its kind is one of ours
pub record SpellsKey (spelled : List ℕ) (key : ObjectKey) : Type 0 where
  pub octets : spelled ≡ octets_of_key key
  pub numbers : AreNumbers key
  pub kind : IsTrue (is_kind key.kind)
