-- A source and a sink in memory, of which chosen calls fail (our profile).
use Rattle.std.specs.Prelude.{◌≡◌, ℕ, ◌<◌, ◌+◌, ◌==◌, ◌⊎◌, List, ◌++◌, length, take, find, Option, Some, None, option_map}
use Rattle.ots_outside.specs.declared.memory.Failure.{Failure}

-- an in-memory source: the octets left, the calls that are to fail, the number of the next call, and how often it failed
pub record SourceState : Type 0 where
  pub left : List ℕ
  pub failing : List ℕ
  pub calls : ℕ
  pub faults : ℕ

-- an in-memory sink: the octets taken, how many more it takes without memory, the failures to come, the number of the next
-- call, and how often it failed
pub record SinkState : Type 0 where
  pub octets : List ℕ
  pub room : ℕ
  pub failing : List Failure
  pub calls : ℕ
  pub faults : ℕ

-- how many octets the sink holds without more memory
abbrev pub capacity : SinkState → ℕ
capacity sink = length sink.octets + sink.room

-- how many octets still go out at this call, where it is to fail
abbrev pub cut_at : List Failure → ℕ → Option ℕ
cut_at failing call = option_map (λ failure. failure.taken) (find (λ failure. failure.call == call) failing)

-- how many octets still go out at the next call, where it is to fail
abbrev pub next_cut : SinkState → Option ℕ
next_cut sink = cut_at sink.failing sink.calls

-- there was no room for all of these octets, and none of them was taken
abbrev pub LacksRoom : SinkState → List ℕ → List ℕ → Type 0
LacksRoom before octets after = (before.room < length octets) × (after ≡ before.octets)

-- what a call that failed took of its piece. Not listed, it lacked room for the piece; listed, it took the front that is
-- listed, or lacked room for that
abbrev pub TakesCut : Option ℕ → SinkState → List ℕ → List ℕ → Type 0
TakesCut None before piece after = LacksRoom before piece after
TakesCut (Some n) before piece after = (after ≡ before.octets ++ take n piece) ⊎ LacksRoom before (take n piece) after
