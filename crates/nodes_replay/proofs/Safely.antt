-- Lines stay safe, from what a step says of the world and the lines.
use Rattle.std.proofs.Common.{◌≡◌, ℕ, List, [], ◌++◌, take, drop, Result, Ok, Err, refl, sym, ap, subst, ◌∙◌, append_assoc, ⊎_elim}
use Rattle.std.specs.Prelude.{IfErr, IsErrOf, OnOk}
use Rattle.std.proofs.lemmas.List.{append-nil, take-append-drop}
use Rattle.ots_model.specs.Safe.{AreSafe}
use Rattle.ots_world.specs.declared.fault.WorldFault.{WorldFault}
use Rattle.ots_world.specs.declared.fault.WorldFault.TheVariants as faults
use Rattle.ots_world.specs.declared.script.ScriptEvent.{ScriptEvent}
use Rattle.nodes_world.specs.Agreement.{GivesName}
use Rattle.nodes_world.specs.Lives.{last_lines}
use Rattle.nodes_world.specs.Step.{Stepped, Moves, Passes, Names, step}
use Rattle.nodes_world.specs.Told.{Told, known}
use Rattle.nodes_world.specs.World.{World}
use Rattle.nodes_steps.specs.Steps.{Keeps, LinesKeepAgreement, lines_by}
use Rattle.nodes_replay.specs.Agreement.{AreOf, AreOfStep, EndsSafely, GoesOnSafely, HasTold}
use Rattle.nodes_replay.specs.Going.{GoesOn}
use Rattle.nodes_replay.specs.Standing.{Standing}
use Rattle.nodes_replay.specs.Stands.{HasFinished, HasStepped, IsRefusal, MayTell, Moved, Refused, Spent, Stopped}

-- ---- lines

-- some from the front of lines that are safe
part_safe : LinesKeepAgreement → (told some : List Told) (k : ℕ) → AreSafe (known (told ++ some)) → AreSafe (known (told ++ take k some))
part_safe law told some k safe =
    let whole : told ++ some ≡ (told ++ take k some) ++ drop k some =
    ap (λ xs. told ++ xs) (sym (take-append-drop k some)) ∙ sym (append_assoc told (take k some) (drop k some)) in
    law.fronts (told ++ take k some) (drop k some) (subst (λ (all : List Told). AreSafe (known all)) whole safe)

-- what has told lines has told safe ones
safe_so_far : LinesKeepAgreement → (s : Standing) (told : List Told) → HasTold s told → AreSafe (known told)
safe_so_far law (Ok w) told h = law.fronts told (last_lines w) (law.ends w told h)
safe_so_far law (Err fault) told h = h

none_safe : (told : List Told) → AreSafe (known told) → AreSafe (known (told ++ []))
none_safe told safe = subst (λ (all : List Told). AreSafe (known all)) (sym (append-nil told)) safe

-- ---- the lines of a line

pub own_moved : (old : Standing) (event : ScriptEvent) (new : Standing) (before after : List ℕ) → (m : Moved old event new before after)
    → AreOf old event new m.to.lines
own_moved old event new before after m =
    subst (λ (x : Standing). AreOf x event new m.to.lines) (sym m.was)
    (subst (λ (x : Stepped). AreOfStep x new m.to.lines) (sym m.moves)
    (subst (λ (x : Standing). AreOfStep (Moves m.to) x m.to.lines) (sym m.now) refl))

may_front : (s : Stepped) (fault : WorldFault) (lines : List Told) (k : ℕ) → MayTell s lines → AreOfStep s (Err fault) (take k lines)
may_front (Moves to) fault lines k may = (k, ap (λ (ls : List Told). take k ls) may)
may_front (Passes limit some) fault lines k may = (k, ap (λ (ls : List Told). take k ls) may)
may_front Names fault lines k may = absurd may

own_stopped : (old : Standing) (event : ScriptEvent) (fault : WorldFault) (new : Standing) (before after : List ℕ)
    → (s : Stopped old event fault new before after) → AreOf old event new (take s.told.0 s.lines)
own_stopped old event fault new before after s =
    subst (λ (x : Standing). AreOf x event new (take s.told.0 s.lines)) (sym s.was)
    (subst (λ (x : Standing). AreOfStep (step event s.world) x (take s.told.0 s.lines)) (sym s.now)
    (may_front (step event s.world) fault s.lines s.told.0 s.may))

own_refused : (old : Standing) (event : ScriptEvent) (new : Standing) (before after : List ℕ) → Refused old event new before after
    → AreOf old event new []
own_refused old event new before after r =
    subst (λ (x : Standing). AreOf x event new []) (sym r.was) (subst (λ (x : Stepped). AreOfStep x new []) (sym r.refused) refl)

own_spent : (old : Standing) (event : ScriptEvent) (fault : WorldFault) (new : Standing) (before after : List ℕ)
    → Spent old fault new before after → AreOf old event new []
own_spent old event fault new before after s = subst (λ (x : Standing). AreOf x event new []) (sym s.was) refl

-- ---- a line of a script

-- nothing more was told
stays : LinesKeepAgreement → (old : Standing) (event : ScriptEvent) (new : Standing) (told : List Told) (before after : List ℕ) → HasTold old told
    → AreOf old event new [] → new ≡ old → after ≡ before → GoesOnSafely old event told new before after
stays law old event new told before after h own same text = record {
  further = [];
  own = own;
  told = text ∙ sym (append-nil before);
  has_told = subst (λ (x : List Told). HasTold new x) (sym (append-nil told)) (subst (λ (s : Standing). HasTold s told) (sym same) h);
  safe = none_safe told (safe_so_far law old told h);
}

-- what the line keeps
pub line_keeps : LinesKeepAgreement → (old : Standing) (event : ScriptEvent) (told : List Told) (w : World) → old ≡ Ok w → GoesOn old
    → GivesName event → HasTold old told → Keeps event w told
line_keeps law old event told w was goes fit h =
    law.keeps event w told fit
    (record { reached = subst (λ (s : Standing). HasTold s told) was h; few = subst (λ (s : Standing). GoesOn s) was goes })

moves_on : LinesKeepAgreement → (old : Standing) (event : ScriptEvent) (new : Standing) (told : List Told) (before after : List ℕ) → GoesOn old
    → GivesName event → HasTold old told → Moved old event new before after → GoesOnSafely old event told new before after
moves_on law old event new told before after goes fit h m =
    let k = line_keeps law old event told m.world m.was goes fit h in record {
      further = m.to.lines;
      own = own_moved old event new before after m;
      told = m.told;
      has_told = subst (λ (s : Standing). HasTold s (told ++ m.to.lines)) (sym m.now) (k.goes_on m.to m.moves).reached;
      safe = subst (λ (s : Stepped). AreSafe (known (told ++ lines_by s))) m.moves k.safe;
    }

may_are : (s : Stepped) (lines : List Told) → MayTell s lines → lines_by s ≡ lines
may_are (Moves to) lines may = sym may
may_are (Passes limit some) lines may = sym may
may_are Names lines may = absurd may

-- the world stopped in the midst of the line
stops_midway : LinesKeepAgreement → (old : Standing) (event : ScriptEvent) (fault : WorldFault) (new : Standing) (told : List Told) (before after : List ℕ)
    → GoesOn old → GivesName event → HasTold old told → Stopped old event fault new before after → GoesOnSafely old event told new before after
stops_midway law old event fault new told before after goes fit h s =
    let safe = part_safe law told s.lines s.told.0
    (subst (λ (lines : List Told). AreSafe (known (told ++ lines))) (may_are (step event s.world) s.lines s.may)
    (line_keeps law old event told s.world s.was goes fit h).safe) in record {
      further = take s.told.0 s.lines;
      own = own_stopped old event fault new before after s;
      told = s.told.1;
      has_told = subst (λ (x : Standing). HasTold x (told ++ take s.told.0 s.lines)) (sym s.now) safe;
      safe = safe;
    }

-- whatever a step answers
goes_on_by : LinesKeepAgreement → (old : Standing) (event : ScriptEvent) (new : Standing) (told : List Told) (before after : List ℕ)
    → (r : Result (Unit {0}) WorldFault) → GoesOn old → GivesName event → HasTold old told → OnOk r (Moved old event new before after)
    → (IsErrOf r faults.Names → Refused old event new before after)
    → IfErr r (λ fault. IsRefusal old event fault new before after) → GoesOnSafely old event told new before after
goes_on_by law old event new told before after (Ok _) goes fit h moved names stopped = moves_on law old event new told before after goes fit h moved
goes_on_by law old event new told before after (Err fault) goes fit h moved names stopped =
    ⊎_elim (λ is. let r = names (ap Err is) in stays law old event new told before after h (own_refused old event new before after r) r.now r.told)
    (λ rest. ⊎_elim (λ s. stops_midway law old event fault new told before after goes fit h s)
    (λ s. stays law old event new told before after h (own_spent old event fault new before after s) s.now s.told) rest) stopped

pub goes_on_safely : LinesKeepAgreement → (old : Standing) (event : ScriptEvent) (new : Standing) (told : List Told) (before after : List ℕ)
    → (r : Result (Unit {0}) WorldFault) → GoesOn old → GivesName event → HasTold old told → HasStepped old event new before after r
    → GoesOnSafely old event told new before after
goes_on_safely law old event new told before after r goes fit h s =
    goes_on_by law old event new told before after r goes fit h s.moved s.names s.stopped

-- ---- the end of a script

pub ends_safely : LinesKeepAgreement → (old : Standing) (told : List Told) (before after : List ℕ) (r : Result (Unit {0}) WorldFault) → HasTold old told
    → HasFinished old before after r → EndsSafely old told before after r
ends_safely law (Ok w) told before after (Ok _) h f =
    record { further = last_lines w; own = refl; told = f; safe = law.ends w told h }
ends_safely law (Ok w) told before after (Err fault) h f = record {
  further = take f.1.0 (last_lines w);
  own = (f.1.0, refl);
  told = f.1.1;
  safe = part_safe law told (last_lines w) f.1.0 (law.ends w told h);
}
ends_safely law (Err fault) told before after r h f =
    record { further = []; own = refl; told = f.1 ∙ sym (append-nil before); safe = none_safe told h }
