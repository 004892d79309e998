-- How the jobs that were started are counted (our profile).
use Rattle.std.specs.Prelude.{◌≡◌, ℕ, Bool, true, false}
use Rattle.ots_outside.specs.Source.{HasRisen, raised}
use Rattle.ots_outside.specs.declared.spawner.Spawner.{Spawner}

-- how many jobs it has started
abbrev pub started : {R : Type 0} → Spawner R → ℕ
started spawner = spawner.started

-- how many it couldn't start
abbrev pub refused : {R : Type 0} → Spawner R → ℕ
refused spawner = spawner.refused

-- a job that was started counts as one more, and one that wasn't as a refusal
abbrev pub CountsStart : Bool → ℕ → ℕ → ℕ → ℕ → Type 0
CountsStart true started_before started_after refused_before refused_after =
    (started_after ≡ raised started_before) × (refused_after ≡ refused_before)
CountsStart false started_before started_after refused_before refused_after =
    (started_after ≡ started_before) × HasRisen refused_before refused_after
