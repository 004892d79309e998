-- Faults of steps as faults of the whole.
use Rattle.std.proofs.Common.{◌≡◌, ◌∙◌, sym, refl, Result, Ok, Err}
use Rattle.std.specs.Prelude.{MatchResult}
use Rattle.ots_context.specs.declared.fault.ContextFault.{ContextFault}
use Rattle.ots_context.specs.declared.fault.ContextFault.TheVariants.{Cdr, Ior, Otid, TooMany, TailPlace, Memory}
use Rattle.ots_context.specs.Fault.{Fails, Finds}
use Rattle.ots_context.proofs.Given.{ok_is}

-- a fault of a step is the fault of the whole
pub fails_on : {X Y : Type 0} (fault : ContextFault) (step : Result X ContextFault) (whole : Result Y ContextFault) → (step ≡ Err fault → whole ≡ Err fault) → Fails fault step → Fails fault whole
fails_on (Cdr f) step whole on h = on h
fails_on (Ior f) step whole on h = on h
fails_on Otid step whole on h = on h
fails_on (TooMany n) step whole on h = on h
fails_on TailPlace step whole on h = on h
fails_on Memory step whole on h = tt

-- where reading gives something, only want of memory is answered in its place
only_memory : {Y : Type 0} (fault : ContextFault) (read : Result Y ContextFault) (y : Y) → read ≡ Ok y → Fails fault read → fault ≡ Memory
only_memory (Cdr f) read y e h = absurd cc
only_memory (Ior f) read y e h = absurd cc
only_memory Otid read y e h = absurd cc
only_memory (TooMany n) read y e h = absurd cc
only_memory TailPlace read y e h = absurd cc
only_memory Memory read y e h = refl

pub finds_only : {Y : Type 0} (result read : Result Y ContextFault) (y : Y) → read ≡ Ok y → Finds (λ (x : Y). x) result read → MatchResult result (λ found. found ≡ y) (λ fault. fault ≡ Memory)
finds_only {Y = Y} (Ok x) read y e h = ok_is {F = ContextFault} x y (sym h ∙ e)
finds_only (Err fault) read y e h = only_memory fault read y e h
