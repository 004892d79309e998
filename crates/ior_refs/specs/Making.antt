-- References to this service's own objects (CORBA, IIOP IOR Profiles, version 1.2, with no components).
use Rattle.std.specs.Prelude.{ℕ, nat_lt, List, [], ◌∷◌, length, Option, Some, None, if◌then◌else◌}
use Rattle.std.specs.Option.{option_or}
use Rattle.ots_model.specs.Limits.{reference_limit}
use Rattle.ots_model.specs.declared.service.Endpoint.{Endpoint}
use Rattle.cdr_values.specs.declared.order.Order.TheVariants.{Big}
use Rattle.cdr_values.specs.declared.fault.CdrFault.TheVariants.{BadString}
use Rattle.cdr_values.specs.Value.{has_nul}
use Rattle.cdr_values.specs.Values.{with_values}
use Rattle.cdr_values.specs.Encapsulation.{begun}
use Rattle.ior_refs.specs.Limits.{iiop_tag}
use Rattle.ior_refs.specs.Reference.{Reference, canonical_octets}
use Rattle.ior_refs.specs.Key.{octets_of_key}
use Rattle.ior_refs.specs.Iiop.{iiop_values}
use Rattle.ior_refs.specs.declared.fault.IorFault.{IorFault}
use Rattle.ior_refs.specs.declared.fault.IorFault.TheVariants.{Cdr, TooLong}
use Rattle.ior_refs.specs.declared.profile.Iiop.{Iiop}
use Rattle.ior_refs.specs.declared.key.ObjectKey.{ObjectKey}

-- where an object of this service is
abbrev pub iiop_to : Endpoint → ObjectKey → Iiop
iiop_to at key =
    record { major = 1; minor = 2; host = at.host; port = at.port; key = octets_of_key key }

-- the octets of its profile, an encapsulation
unfoldable pub profile_to : Endpoint → ObjectKey → List ℕ
profile_to at key = (with_values (begun Big) (iiop_values (iiop_to at key) [])).octets

-- the reference to it
abbrev pub reference_to : List ℕ → Endpoint → ObjectKey → Reference
reference_to type_id at key = (type_id, (iiop_tag, profile_to at key) ∷ [])

-- a text holds a NUL: the type_id, or the host. It is told with the place of the text in the reference or in the
-- profile.
abbrev pub nul_in : List ℕ → List ℕ → Option IorFault
nul_in type_id host =
    if has_nul type_id then Some (Cdr (BadString 0)) else if has_nul host then Some (Cdr (BadString 3)) else None

-- the reference would be too long
abbrev pub too_long_to : List ℕ → Endpoint → ObjectKey → Option IorFault
too_long_to type_id at key =
    if nat_lt reference_limit (length (canonical_octets (reference_to type_id at key))) then Some (TooLong 0) else None

-- why there is none
abbrev pub refusal_to : List ℕ → Endpoint → ObjectKey → Option IorFault
refusal_to type_id at key = option_or (nul_in type_id at.host) (too_long_to type_id at key)
