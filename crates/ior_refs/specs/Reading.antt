-- Reading references from the front, and their first fault (CORBA, Interoperable Object References; the limit and the
-- faults are our profile).
use Rattle.std.specs.Prelude.{◌≡◌, ℕ, ◌==◌, nat_lt, List, [], length, Result, Ok, Err, if◌then◌else◌}
use Rattle.ots_model.specs.Limits.{reference_limit}
use Rattle.cdr_values.specs.Value.{Value}
use Rattle.cdr_values.specs.Values.{ReadsAll}
use Rattle.cdr_values.specs.Reading.{Reading, ◌>>=◌, ulong_at}
use Rattle.cdr_values.specs.Sequence.{Read, fault_as, sequence_at}
use Rattle.cdr_values.specs.Tagged.{tagged_at, reference_at}
use Rattle.ior_refs.specs.Limits.{count_limit}
use Rattle.ior_refs.specs.Reference.{Reference, Tagged, canonical_octets}
use Rattle.ior_refs.specs.Fault.{fault_of, too_many}
use Rattle.ior_refs.specs.declared.fault.IorFault.{IorFault}
use Rattle.ior_refs.specs.declared.fault.IorFault.TheVariants.{TooLong, Rest}

-- how many profiles or components there are. A count above the limit is refused with its place.
unfoldable pub count_at : Read ℕ IorFault
count_at r = do
  count ← fault_as fault_of (ulong_at r)
  if nat_lt count_limit count.0 then Err (too_many r.place count.0) else Ok count

-- the profiles of a reference, or the components of a profile
unfoldable pub each_tagged_at : Read (List Tagged) IorFault
each_tagged_at r = sequence_at count_limit fault_of too_many (tagged_at fault_of) r

-- the reference that begins at this place, if it isn't too long
unfoldable pub if_short : ℕ → Reference → Result Reference IorFault
if_short place reference =
    if nat_lt reference_limit (length (canonical_octets reference)) then Err (TooLong place) else Ok reference

-- a reference. One that is whole and too long is refused with the place where it begins.
unfoldable pub short_reference_at : Read Reference IorFault
short_reference_at r = do
  found ← reference_at count_limit fault_of too_many r
  reference ← if_short r.place found.0
  Ok (reference, found.1)

-- what is read, where nothing stands behind it
abbrev pub whole : {A : Type 0} → Read A IorFault → Reading → Result A IorFault
whole read r = do
  found ← read r
  if length found.1.rest == 0 then Ok found.0 else Err (Rest found.1.place)

-- the values are what a reader has left: nothing stands behind them
pub record IsWhole (values : List Value) (reader : Reading) : Type 0 where
  pub behind : Reading
  pub reads : ReadsAll reader values behind
  pub nothing : behind.rest ≡ []
