-- What reading and writing references and keys have to do with each other.
use Rattle.std.specs.Prelude.{◌≡◌, ℕ, ◌+◌, ◌^◌, ◌<◌, ◌↔◌, nat_le, List, ◌++◌, length, IsTrue, None, Ok}
use Rattle.cdr_values.specs.declared.order.Order.{Order}
use Rattle.cdr_values.specs.Again.{standing}
use Rattle.cdr_values.specs.Reading.{Reading}
use Rattle.cdr_values.specs.Values.{ReadsAll, canonical_all, with_values}
use Rattle.cdr_values.specs.Writing.{Writing, place_of}
use Rattle.cdr_values.specs.Sequence.{IsExact}
use Rattle.cdr_values.specs.Tagged.{reference_values}
use Rattle.ots_model.specs.declared.service.Endpoint.{Endpoint}
use Rattle.ior_refs.specs.Limits.{count_limit}
use Rattle.ior_refs.specs.Reference.{Reference, Tagged, IsReference, is_short, canonical_octets}
use Rattle.ior_refs.specs.Reading.{short_reference_at}
use Rattle.ior_refs.specs.Text.{IsTextOf, reference_in_text, text_of}
use Rattle.ior_refs.specs.Iiop.{IsProfile, iiop_at, iiop_in, iiop_in_octets, iiop_values}
use Rattle.ior_refs.specs.Making.{iiop_to, reference_to, refusal_to}
use Rattle.ior_refs.specs.Key.{octets_of_key, AreNumbers}
use Rattle.ior_refs.specs.declared.key.ObjectKey.{ObjectKey}
use Rattle.ior_refs.specs.declared.profile.Iiop.{Iiop}

-- a reference is read exactly where its values stand and it is not too long
abbrev pub ReferencesAreReadExactly : Type 0
ReferencesAreReadExactly = IsExact short_reference_at reference_values is_short

-- a reference that was written is read again, in either byte order, at any offset, whatever follows it
abbrev pub ReferencesAreReadAgain : Type 0
ReferencesAreReadAgain =
    (order : Order) (at : ℕ) (reference : Reference) (more : List ℕ) → IsReference reference
    → short_reference_at (standing order at (canonical_all order at (reference_values reference) ++ more))
    ≡ Ok (reference, standing order (at + length (canonical_all order at (reference_values reference))) more)

-- and so where a writer wrote it, behind what that writer had
abbrev pub ReferencesAreReadWhereWritten : Type 0
ReferencesAreReadWhereWritten =
    (w : Writing) (reference : Reference) (more : List ℕ) → IsReference reference
    → (spelled : List ℕ) × ((with_values w (reference_values reference)).octets ≡ w.octets ++ spelled)
    × (short_reference_at (standing w.order (place_of w) (spelled ++ more))
    ≡ Ok (reference, standing w.order (place_of w + length spelled) more))

-- references with the same canonical octets are the same
abbrev pub SameOctetsSameReference : Type 0
SameOctetsSameReference = (a b : Reference) → IsReference a → IsReference b
    → canonical_octets a ≡ canonical_octets b → a ≡ b

-- a text has a reference exactly where it is one of its stringified forms, and the text that is written is one
pub record TextLaws : Type 0 where
  pub exact : (text : List ℕ) (reference : Reference)
      → (reference_in_text text ≡ Ok reference) ↔ IsTextOf text reference
  pub again : (reference : Reference) → IsReference reference → reference_in_text (text_of reference) ≡ Ok reference

-- an IIOP profile is read exactly where its values stand, with some components; octets are read as a profile exactly
-- where they are that one; and a reference that was made says where its object is
pub record IiopLaws : Type 0 where
  pub found : (r : Reading) (i : Iiop) (behind : Reading) → iiop_at r ≡ Ok (i, behind)
      → (components : List Tagged) × IsTrue (nat_le (length components) count_limit)
      × ReadsAll r (iiop_values i components) behind
  pub only : (r : Reading) (i : Iiop) (components : List Tagged) (behind : Reading)
      → ReadsAll r (iiop_values i components) behind → IsTrue (nat_le (length components) count_limit)
      → iiop_at r ≡ Ok (i, behind)
  pub whole : (octets : List ℕ) (i : Iiop) → (iiop_in_octets octets ≡ Ok i) ↔ IsProfile i octets
  pub made : (type_id : List ℕ) (at : Endpoint) (key : ObjectKey) → at.port < 2 ^ 16
      → refusal_to type_id at key ≡ None → iiop_in (reference_to type_id at key) ≡ Ok (iiop_to at key)

-- keys with the same octets are the same
abbrev pub SameOctetsSameKey : Type 0
SameOctetsSameKey = (a b : ObjectKey) → AreNumbers a → AreNumbers b → octets_of_key a ≡ octets_of_key b → a ≡ b
