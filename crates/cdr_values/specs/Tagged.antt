-- Octets with a tag, and references (CORBA, ORB Interoperability Architecture, Interoperable Object References and
-- Service Context).
use Rattle.std.specs.Prelude.{ℕ, true, Bool, nat_le, List, [], ◌∷◌, length, Ok}
use Rattle.cdr_values.specs.declared.fault.CdrFault.{CdrFault}
use Rattle.cdr_values.specs.Value.{Value, ULong, OctetSequence, Text}
use Rattle.cdr_values.specs.Reading.{◌>>=◌, ulong_at, octets_at, string_at}
use Rattle.cdr_values.specs.Sequence.{Read, IsExact, fault_as, sequence_at, sequence_values}

-- a TaggedProfile, TaggedComponent or ServiceContext: its number, and its octets
abbrev pub tagged_values : ℕ × List ℕ → List Value
tagged_values tagged = ULong tagged.0 ∷ OctetSequence tagged.1 ∷ []

unfoldable pub tagged_at : {F : Type 0} → (CdrFault → F) → Read (ℕ × List ℕ) F
tagged_at as_fault r = do
  tag ← fault_as as_fault (ulong_at r)
  octets ← fault_as as_fault (octets_at tag.1)
  Ok ((tag.0, octets.0), octets.1)

-- a reference (IOR): its type_id, a string, and its profiles
abbrev pub reference_values : List ℕ × List (ℕ × List ℕ) → List Value
reference_values reference = Text reference.0 ∷ sequence_values tagged_values reference.1

-- a reference, whose number of profiles has a limit of the user's
unfoldable pub reference_at : {F : Type 0} → ℕ → (CdrFault → F) → (ℕ → ℕ → F) → Read (List ℕ × List (ℕ × List ℕ)) F
reference_at limit as_fault too_many r = do
  type_id ← fault_as as_fault (string_at r)
  profiles ← sequence_at limit as_fault too_many (tagged_at as_fault) type_id.1
  Ok ((type_id.0, profiles.0), profiles.1)

-- it has no more profiles than the limit
abbrev pub allows_reference : ℕ → List ℕ × List (ℕ × List ℕ) → Bool
allows_reference limit reference = nat_le (length reference.1) limit

-- both are read exactly where their values stand, with each kind of fault
pub record TaggedLaws (F : Type 0) : Type 0 where
  pub tagged : (as_fault : CdrFault → F) → IsExact (tagged_at as_fault) tagged_values (λ tagged. true)
  pub reference : (limit : ℕ) (as_fault : CdrFault → F) (too_many : ℕ → ℕ → F)
      → IsExact (reference_at limit as_fault too_many) reference_values (allows_reference limit)
