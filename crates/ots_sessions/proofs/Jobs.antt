-- How the jobs of a service are counted.
use Rattle.std.proofs.Common.{◌≡◌, ◌≤◌, ℕ, Bool, true, false, arith}
use Rattle.ots_outside.specs.Source.{raised}
use Rattle.ots_outside.specs.Spawning.{CountsStart}
use Rattle.ots_sessions.specs.Sessions.{HasJobs}

-- the job for ticks
pub first_job : (b : Bool) (given s s' r r' : ℕ) → CountsStart b s s' r r' → r ≤ r' → HasJobs given given s s' r r'
first_job true given s s' r r' counts later = grind arith
first_job false given s s' r r' counts later = grind arith

-- one connection more, and its job
pub next_job : (b : Bool) (g0 g g' s0 s s' r0 r r' : ℕ) → HasJobs g0 g s0 s r0 r → g' ≡ raised g
    → CountsStart b s s' r r' → r ≤ r' → HasJobs g0 g' s0 s' r0 r'
next_job true g0 g g' s0 s s' r0 r r' jobs given counts later = grind arith
next_job false g0 g g' s0 s s' r0 r r' jobs given counts later = grind arith
