-- IIOP profiles (CORBA, General Inter-ORB Protocol, IIOP IOR Profiles). What a profile's minor version above 2 has is
-- read as that of 1.2 (our profile).
use Rattle.std.specs.Prelude.{ℕ, ◌==◌, Bool, true, false, ◌&&◌, ◌||◌, nat_le, nat_lt, IsTrue, List, [], ◌∷◌, length, Option, Some, None, find, Result, Ok, Err}
use Rattle.std.specs.Option.{option_map}
use Rattle.cdr_values.specs.Value.{Value, Octet, UShort, OctetSequence, Text}
use Rattle.cdr_values.specs.Reading.{Reading, ◌>>=◌, octet_at, ushort_at, octets_at, string_at}
use Rattle.cdr_values.specs.Sequence.{Read, fault_as, sequence_values}
use Rattle.cdr_values.specs.Encapsulation.{IsEncapsulation, opened}
use Rattle.cdr_values.specs.Tagged.{tagged_values}
use Rattle.ior_refs.specs.Reference.{Reference, Tagged}
use Rattle.ior_refs.specs.Fault.{fault_of}
use Rattle.ior_refs.specs.Limits.{count_limit, iiop_tag}
use Rattle.ior_refs.specs.Reading.{IsWhole, each_tagged_at, whole}
use Rattle.ior_refs.specs.declared.fault.IorFault.{IorFault}
use Rattle.ior_refs.specs.declared.fault.IorFault.TheVariants.{NoIiop}
use Rattle.ior_refs.specs.declared.profile.Iiop.{Iiop}

-- a profile is one of IIOP
abbrev pub is_iiop : Tagged → Bool
is_iiop tagged = tagged.0 == iiop_tag

-- a profile of this version has components: from 1.1 on
abbrev pub has_components : ℕ → ℕ → Bool
has_components major minor = nat_lt 1 major || ((major == 1) && nat_le 1 minor)

-- the values of a profile's components, where it has them
abbrev pub components_values : Bool → List Tagged → List Value
components_values true components = sequence_values tagged_values components
components_values false components = []

-- the values of a profile (ProfileBody), behind the octet that tells its byte order
abbrev pub iiop_values : Iiop → List Tagged → List Value
iiop_values i components =
    Octet i.major ∷ Octet i.minor ∷ Text i.host ∷ UShort i.port ∷ OctetSequence i.key
    ∷ components_values (has_components i.major i.minor) components

-- what was read is passed over
abbrev pub passed : {A : Type 0} → Result (A × Reading) IorFault → Result (Unit {0} × Reading) IorFault
passed read = read >>= λ found. Ok (tt, found.1)

-- passes over the components, where there are some
unfoldable pub components_at : Bool → Read (Unit {0}) IorFault
components_at true r = passed (each_tagged_at r)
components_at false r = Ok (tt, r)

-- a profile of this version that says these
abbrev pub iiop_said : ℕ × ℕ → List ℕ → ℕ → List ℕ → Iiop
iiop_said version host port key = record { major = version.0; minor = version.1; host = host; port = port; key = key }

-- what a profile says
unfoldable pub iiop_at : Read Iiop IorFault
iiop_at r = do
  major ← fault_as fault_of (octet_at r)
  minor ← fault_as fault_of (octet_at major.1)
  host ← fault_as fault_of (string_at minor.1)
  port ← fault_as fault_of (ushort_at host.1)
  key ← fault_as fault_of (octets_at port.1)
  components ← components_at (has_components major.0 minor.0) key.1
  Ok (record { major = major.0; minor = minor.0; host = host.0; port = port.0; key = key.0 }, components.1)

-- what the profile in an encapsulation says, which is the whole of the octets
unfoldable pub iiop_in_octets : List ℕ → Result Iiop IorFault
iiop_in_octets octets = do
  reader ← fault_as fault_of (opened octets)
  whole iiop_at reader

-- the octets are a profile that says this, with some components and nothing behind them
pub record IsProfile (i : Iiop) (octets : List ℕ) : Type 0 where
  pub components : List Tagged
  pub few : IsTrue (nat_le (length components) count_limit)
  pub reader : Reading
  pub opened : IsEncapsulation octets reader
  pub whole : IsWhole (iiop_values i components) reader

-- the octets of the first profile with that tag
abbrev pub first_iiop : Reference → Option (List ℕ)
first_iiop reference = option_map (λ tagged. tagged.1) (find is_iiop reference.1)

-- what it says
abbrev pub iiop_in_first : Option (List ℕ) → Result Iiop IorFault
iiop_in_first None = Err NoIiop
iiop_in_first (Some octets) = iiop_in_octets octets

abbrev pub iiop_in : Reference → Result Iiop IorFault
iiop_in reference = iiop_in_first (first_iiop reference)
