-- Few contexts of few octets each have few octets together.
use Rattle.std.proofs.Common.{◌+◌, ◌<◌, ◌≤◌, ◌^◌, All, List, length, arith}
use Rattle.std.proofs.lemmas.List.Sums.{sum_by-le}
use Rattle.giop_frames.specs.Encode.{octets_in_contexts}
use Rattle.giop_frames.specs.declared.message.ServiceContext.{ServiceContext}

pub each_short : (contexts : List ServiceContext) → All (λ context. length context.bytes ≤ 1000000) contexts → All (λ context. length context.bytes < 2 ^ 31) contexts
each_short contexts h k d within = omega (arith, h k d within)

pub few_octets : (contexts : List ServiceContext) → length contexts ≤ 16 → All (λ context. length context.bytes ≤ 1000000) contexts → length contexts + octets_in_contexts contexts ≤ 2 ^ 28
few_octets contexts few h = omega (arith, few, sum_by-le (λ (context : ServiceContext). length context.bytes) 1000000 contexts h)
