-- The identity of a transaction (Transaction Service 1.4, module CosTransactions, struct TransIdentity, and struct otid_t
-- in it).
use Rattle.std.specs.Prelude.{ℕ, Bool, ◌&&◌, nat_le, nat_lt, List, [], ◌∷◌, ◌++◌, length}
use Rattle.std.specs.Int.{w32, cast_signed, cast_unsigned}
use Rattle.cdr_values.specs.Value.{Value, ULong, OctetSequence}
use Rattle.cdr_values.specs.Tagged.{reference_values}
use Rattle.ior_refs.specs.Reference.{Reference, IsReference, is_short}
use Rattle.otid_names.specs.Limits.{tid_limit}
use Rattle.otid_names.specs.Otid.{OtidParts, IsOtid}
use Rattle.ots_context.specs.declared.context.Identity.{Identity}

-- its fields as they stand. A long stands as the number of its two's complement.
pub record Fields : Type 0 where
  pub coord : Reference
  pub term : Reference
  pub format : ℕ
  pub bqual : ℕ
  pub tid : List ℕ

-- the values of an otid
abbrev pub otid_values : ℕ → ℕ → List ℕ → List Value
otid_values format bqual tid = ULong format ∷ ULong bqual ∷ OctetSequence tid ∷ []

-- the values of these fields
abbrev pub fields_values : Fields → List Value
fields_values f = reference_values f.coord ++ (reference_values f.term ++ otid_values f.format f.bqual f.tid)

-- a tid has octets, up to the limit, and the branch qualifier is some of them (our profile)
abbrev pub has_lengths : ℕ → List ℕ → Bool
has_lengths bqual tid = nat_lt 0 (length tid) && (nat_le (length tid) tid_limit && nat_le bqual (length tid))

-- its references are not too long (our profile), and its otid has such lengths
abbrev pub allows_fields : Fields → Bool
allows_fields f = is_short f.coord && (is_short f.term && has_lengths f.bqual f.tid)

-- the otid of these numbers and this tid
abbrev pub otid_of : ℕ → ℕ → List ℕ → OtidParts
otid_of format bqual tid = record { format = cast_signed w32 format; bqual = bqual; tid = tid }

-- the identity of these fields
abbrev pub identity_of : Fields → Identity
identity_of f = record { coord = f.coord; term = f.term; otid = otid_of f.format f.bqual f.tid }

-- the fields of an identity
abbrev pub fields_of : Identity → Fields
fields_of i = record {
  coord = i.coord;
  term = i.term;
  format = cast_unsigned w32 i.otid.format;
  bqual = i.otid.bqual;
  tid = i.otid.tid;
}

-- the values of an identity
abbrev pub identity_values : Identity → List Value
identity_values i = fields_values (fields_of i)

-- what an identity can be
pub record IsIdentity (i : Identity) : Type 0 where
  pub coord : IsReference i.coord
  pub term : IsReference i.term
  pub otid : IsOtid i.otid
