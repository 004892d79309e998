-- A link at a moment (our profile).
use Rattle.std.specs.Prelude.{ℕ, List, Option}
use Rattle.ots_outside.specs.declared.link.Exchange.{Exchange}

-- how often it has failed, and its exchanges so far, where it tells them
pub record LinkMoment : Type 0 where
  pub faults : ℕ
  pub exchanged : Option (List Exchange)

abbrev pub moment : ℕ → Option (List Exchange) → LinkMoment
moment faults exchanged = record { faults = faults; exchanged = exchanged }
