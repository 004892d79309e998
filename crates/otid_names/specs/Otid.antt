-- Otids (Transaction Service 1.4, module CosTransactions, struct otid_t: formatID, bqual_length and tid). How long a tid
-- can be is our profile.
use Rattle.std.specs.Prelude.{ℕ, ℤ, ◌-◌, ◌<◌, ◌≤◌, List, length, take, slice_index}
use Rattle.std.specs.Int.{w32}
use Rattle.std.specs.Int.RustNames.{FitsSigned}
use Rattle.otid_names.specs.Limits.{tid_limit}

-- an otid: its formatID, its bqual_length and its tid
pub record OtidParts : Type 0 where
  pub format : ℤ
  pub bqual : ℕ
  pub tid : List ℕ

-- a tid has octets, up to the limit, and the branch qualifier is some of them
abbrev pub HasLengths : ℕ → List ℕ → Type 0
HasLengths bqual tid = (0 < length tid) × (length tid ≤ tid_limit) × (bqual ≤ length tid)

-- what an otid can be: it has such lengths, its formatID is a long, and its tid is octets
pub record IsOtid (o : OtidParts) : Type 0 where
  pub lengths : HasLengths o.bqual o.tid
  pub format : FitsSigned w32 o.format
  pub octets : (i : ℕ) → slice_index o.tid i < 256

-- the global transaction identifier: the tid without the branch qualifier, which stands behind it
abbrev pub global : OtidParts → List ℕ
global o = take (length o.tid - o.bqual) o.tid
