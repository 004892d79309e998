-- Profiles and components are a count, and then so many.
use Rattle.std.proofs.Common.{◌≡◌, ℕ, Bool, true, false, cond, ltb, List, Result, Ok, Err, refl, ap, ◌∙◌}
use Rattle.cdr_values.specs.declared.fault.CdrFault.{CdrFault}
use Rattle.cdr_values.specs.Reading.{Reading, ◌>>=◌, ulong_at}
use Rattle.cdr_values.specs.Sequence.{each_at, sequence_at}
use Rattle.cdr_values.specs.Tagged.{tagged_at}
use Rattle.ior_refs.specs.Fault.{fault_of, too_many}
use Rattle.ior_refs.specs.Limits.{count_limit}
use Rattle.ior_refs.specs.Reading.{count_at, each_tagged_at}
use Rattle.ior_refs.specs.Reference.{Tagged}
use Rattle.ior_refs.specs.declared.fault.IorFault.{IorFault}

-- so many are read
abbrev behind_count : ℕ × Reading → Result (List Tagged × Reading) IorFault
behind_count count = each_at (tagged_at fault_of) count.0 count.1

if_few : (b : Bool) (fault : IorFault) (count : ℕ × Reading) → cond b (Err fault) (behind_count count) ≡ (cond b (Err fault) (Ok count) >>= behind_count)
if_few true fault count = refl
if_few false fault count = refl

by_count : (r : Reading) (read : Result (ℕ × Reading) CdrFault) → ulong_at r ≡ read → each_tagged_at r ≡ (count_at r >>= behind_count)
unfolding each_tagged_at sequence_at count_at
by_count r (Ok count) e = rw e (if_few (ltb count_limit count.0) (too_many r.place count.0) count)
by_count r (Err fault) e = rw e refl

-- a count that is read, and one that isn't
pub counted : (r middle : Reading) (count : ℕ) → count_at r ≡ Ok (count, middle) → each_tagged_at r ≡ each_at (tagged_at fault_of) count middle
counted r middle count e = by_count r (ulong_at r) refl ∙ ap (λ (read : Result (ℕ × Reading) IorFault). read >>= behind_count) e

pub not_counted : (r : Reading) (fault : IorFault) → count_at r ≡ Err fault → each_tagged_at r ≡ Err fault
not_counted r fault e = by_count r (ulong_at r) refl ∙ ap (λ (read : Result (ℕ × Reading) IorFault). read >>= behind_count) e
