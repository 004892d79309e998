-- Object references (CORBA, ORB Interoperability Architecture, Interoperable Object References). That equal references
-- are those with the same canonical octets, and how many of these there are, is our profile.
use Rattle.std.specs.Prelude.{ℕ, ◌<◌, ◌≤◌, Bool, nat_le, List, [], length, slice_index}
use Rattle.ots_model.specs.Limits.{reference_limit}
use Rattle.cdr_values.specs.declared.order.Order.TheVariants.{Big}
use Rattle.cdr_values.specs.Values.{canonical_all}
use Rattle.cdr_values.specs.Again.{AllFit}
use Rattle.cdr_values.specs.Tagged.{reference_values}

-- octets with a tag: a profile of a reference, or a component of a profile
abbrev pub Tagged : Type 0
Tagged = ℕ × List ℕ

-- a reference: its type_id, and its profiles
abbrev pub Reference : Type 0
Reference = List ℕ × List Tagged

-- the reference to no object
abbrev pub nil : Reference
nil = ([], [])

-- the big endian spelling of a reference at offset 0, with padding 0, and with the octets of each profile as they are
unfoldable pub canonical_octets : Reference → List ℕ
canonical_octets reference = canonical_all Big 0 (reference_values reference)

-- it has no more octets than a reference has
abbrev pub is_short : Reference → Bool
is_short reference = nat_le (length (canonical_octets reference)) reference_limit

-- every element is an octet
abbrev pub AreOctets : List ℕ → Type 0
AreOctets octets = (i : ℕ) → slice_index octets i < 256

-- what an object reference can be
pub record IsReference (reference : Reference) : Type 0 where
  pub fits : AllFit (reference_values reference)
  pub short : length (canonical_octets reference) ≤ reference_limit
  pub octets : AreOctets (canonical_octets reference)
