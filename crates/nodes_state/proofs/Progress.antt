-- A walk over things to tell, or to do, on its way.
use Rattle.std.proofs.Common.{◌≡◌, ℕ, List, [], ◌++◌, Result, Ok, Err}
use Rattle.ots_world.specs.declared.fault.WorldFault.{WorldFault}
use Rattle.nodes_world.specs.Told.{Told}
use Rattle.nodes_world.specs.World.{World}
use Rattle.nodes_world.specs.Happenings.{Done, ◌▹◌, nothing}
use Rattle.nodes_state.specs.Telling.{Tells, TellsPart}
use Rattle.nodes_state.specs.Does.{BreaksOff, Does}
use Rattle.nodes_state.proofs.Doing.{Grows, breaks_first, does_nothing, does_then, part_none, tells_none, tells_part_then, tells_then}

-- these lines are still to be told of all
pub record IsTelling (total : List Told) (before : List ℕ) (rest : List Told) (now : List ℕ) : Type 0 where
  pub whole : (after : List ℕ) → Tells rest now after → Tells total before after
  pub part : (after : List ℕ) → TellsPart rest now after → TellsPart total before after

pub telling_goes_on : (total some rest : List Told) (before now next : List ℕ) → IsTelling total before (some ++ rest) now → Tells some now next
    → IsTelling total before rest next
telling_goes_on total some rest before now next i t = record {
  whole = λ after u. i.whole after (tells_then some rest now next after t u);
  part = λ after u. i.part after (tells_part_then some rest now next after t u);
}

pub telling_breaks : (total rest : List Told) (before now next : List ℕ) → IsTelling total before rest now → next ≡ now → TellsPart total before next
telling_breaks total rest before now next i e = i.part next (part_none rest now next e)

pub telling_ends : (total : List Told) (before now : List ℕ) → IsTelling total before [] now → Tells total before now
telling_ends total before now i = i.whole now (tells_none now)

-- this is still to be done of all
pub record IsDoing (total : Done) (before : List ℕ) (rest : Done) (now : List ℕ) : Type 0 where
  pub goes : (w : World) (after : List ℕ) (result : Result (Unit {0}) WorldFault) → Does rest w now after result → Does total w before after result

pub doing_goes_on : (total first : Done) (next : World → Done) (v : World) (before now later : List ℕ) → IsDoing total before (first ▹ next) now
    → v ≡ first.world → Tells first.lines now later → IsDoing total before (next v) later
doing_goes_on total first next v before now later i e t = record {
  goes = λ w after result d. i.goes w after result (does_then first next v w now later after result e t d);
}

pub doing_breaks : (total first : Done) (next : World → Done) (fault : WorldFault) (before now after : List ℕ) → IsDoing total before (first ▹ next) now
    → Grows next → BreaksOff first fault now after → BreaksOff total fault before after
doing_breaks total first next fault before now after i grows b =
    i.goes first.world after (Err fault) (breaks_first first next fault now after grows b)

pub doing_ends : (total : Done) (w : World) (before now : List ℕ) → IsDoing total before (nothing w) now → Does total w before now (Ok tt)
doing_ends total w before now i = i.goes w now (Ok tt) (does_nothing w now)
