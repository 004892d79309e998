-- Which lines can be read in what a replay writes (our profile).
use Rattle.std.specs.Prelude.{◌≡◌, ℕ, List, ◌++◌, Option, Some}
use Rattle.std.specs.List.{AllByRecursion}
use Rattle.ots_model.specs.Safe.{AreSafe}
use Rattle.nodes_world.specs.Told.{Told, known, text}
use Rattle.nodes_told.specs.Reading.{HasNumbers, IsTold}
use Rattle.ots_program.specs.Replay.{replay}

-- each line that a replay tells can be read: its names are names, and its words are those of the tables
abbrev pub ReplaysAreTold : Type 0
ReplaysAreTold = (octets : List ℕ) → AllByRecursion IsTold ((replay octets).lines ++ (replay octets).further)

-- so whichever lines are read in the text of a replay, or in a front of it, they are safe
abbrev pub WhatIsReadIsSafe : Type 0
WhatIsReadIsSafe = (octets : List ℕ) (some : List Told) (behind : List ℕ) → AllByRecursion IsTold some
    → AllByRecursion HasNumbers some → text ((replay octets).lines ++ (replay octets).further) ≡ text some ++ behind
    → AreSafe (known some)

-- The same of what a sink has taken: whichever lines are read in a front of that, they are safe.
abbrev pub ReadsSafely : List ℕ → Option (List ℕ) → Type 0
ReadsSafely before after = (some : List Told) (behind : List ℕ) → AllByRecursion IsTold some
    → AllByRecursion HasNumbers some → after ≡ Some (before ++ (text some ++ behind)) → AreSafe (known some)
