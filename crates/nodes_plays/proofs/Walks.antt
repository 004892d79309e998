-- A script walks from world to world. Where its walk has told some lines, it plays them.
use Rattle.std.proofs.Common.{◌≡◌, List, [], ◌∷◌, ◌++◌, Option, Some, None, refl, sym, ap, subst, append_assoc, append-nil, arith}
use Rattle.std.proofs.lemmas.Option.{same_Some}
use Rattle.std.specs.List.{AllByRecursion}
use Rattle.std.specs.Option.{option_map}
use Rattle.ots_world.specs.declared.script.ScriptEvent.{ScriptEvent}
use Rattle.nodes_world.specs.Agreement.{GivesName, GoesOnFrom, further, nothing}
use Rattle.nodes_world.specs.Happenings.{Done, after}
use Rattle.nodes_world.specs.Lives.{last_lines}
use Rattle.nodes_world.specs.Step.{Stepped, Moves, Passes, Names, step}
use Rattle.nodes_world.specs.Told.{Told}
use Rattle.nodes_world.specs.World.{empty}
use Rattle.nodes_steps.specs.Steps.{CanGoOn, IsDone, LinesKeepAgreement}
use Rattle.nodes_plays.specs.Plays.{Plays, PlaysTo, events_of}

-- ---- a walk

abbrev pub walk_by : (Done → Option Done) → Done → Stepped → Option Done
walk_by next d (Moves to) = next (after d to)
walk_by next d (Passes limit lines) = None
walk_by next d Names = None

-- the world to which a script comes from a world, and the lines that are told then
unfoldable pub walk : List ScriptEvent → Done → Option Done
walk [] d = Some d
walk (event ∷ others) d = walk_by (walk others) d (step event d.world)

-- nothing was made or told yet
abbrev pub start : Done
start = record { world = empty; lines = [] }

abbrev pub told_by : List ScriptEvent → Option (List Told)
told_by script = option_map (λ (d : Done). d.lines) (walk script start)

abbrev pub all_told_by : List ScriptEvent → Option (List Told × List Told)
all_told_by script = option_map (λ (d : Done). (d.lines, last_lines d.world)) (walk script start)

-- ---- what is reached

-- by these lines a world was reached, and a script can go on there
record Stood (before : List ScriptEvent) (d : Done) : Type 0 where
  goes_on : CanGoOn d.world d.lines
  by : events_of d.world d.lines goes_on.reached ≡ before

Stood-done : (before : List ScriptEvent) (event : ScriptEvent) (d to : Done) → GivesName event → Stood before d → IsDone event d.world to → GoesOnFrom to.world
    → Stood (before ++ event ∷ []) (after d to)
Stood-done before event d to gives s is =
    subst (λ (x : Done). GoesOnFrom x.world → Stood (before ++ event ∷ []) (after d x)) (sym is.is)
    (λ few. record {
      goes_on = record {
        reached = further d.world d.lines event is.deed s.goes_on.reached s.goes_on.few gives is.named is.unlimited;
        few = few;
      };
      by = ap (λ (events : List ScriptEvent). events ++ event ∷ []) s.by;
    })

Stood-moved : LinesKeepAgreement → (before : List ScriptEvent) (event : ScriptEvent) (d to : Done) → GivesName event → Stood before d
    → step event d.world ≡ Moves to → Stood (before ++ event ∷ []) (after d to)
Stood-moved law before event d to gives s moves =
    Stood-done before event d to gives s (law.moves event d.world to moves)
    ((law.keeps event d.world d.lines gives s.goes_on).goes_on to moves).few

Stood-by : LinesKeepAgreement → (before : List ScriptEvent) (event : ScriptEvent) (others : List ScriptEvent) (d e : Done) (s : Stepped)
    → step event d.world ≡ s → GivesName event → Stood before d
    → ((later : Done) → Stood (before ++ event ∷ []) later → walk others later ≡ Some e → Stood ((before ++ event ∷ []) ++ others) e)
    → walk_by (walk others) d s ≡ Some e → Stood (before ++ event ∷ others) e
Stood-by law before event others d e (Moves to) moves gives stood more is =
    subst (λ (events : List ScriptEvent). Stood events e) (append_assoc before (event ∷ []) others)
    (more (after d to) (Stood-moved law before event d to gives stood moves) is)
Stood-by law before event others d e (Passes limit lines) moves gives stood more is = absurd cc
Stood-by law before event others d e Names moves gives stood more is = absurd cc

Stood-behind : LinesKeepAgreement → (before events : List ScriptEvent) (d e : Done) → AllByRecursion GivesName events → Stood before d → walk events d ≡ Some e
    → Stood (before ++ events) e
unfolding walk
Stood-behind law before [] d e all s is =
    let same : d ≡ e = cc in
    subst (λ (x : Done). Stood (before ++ []) x) same (subst (λ (events : List ScriptEvent). Stood events d) (sym (append-nil before)) s)
Stood-behind law before (event ∷ others) d e (own, all) s is =
    Stood-by law before event others d e (step event d.world) refl own s
    (λ later stood there. Stood-behind law (before ++ event ∷ []) others later e all stood there) is

Stood-walked : LinesKeepAgreement → (script : List ScriptEvent) (e : Done) → AllByRecursion GivesName script → walk script start ≡ Some e → Stood script e
Stood-walked law script e all is =
    Stood-behind law [] script start e all (record { goes_on = record { reached = nothing; few = omega arith }; by = refl }) is

-- ---- a script

pub plays : LinesKeepAgreement → (script : List ScriptEvent) (told : List Told) → AllByRecursion GivesName script → told_by script ≡ Some told
    → Plays script told
plays law script told all is = by (walk script start) refl is
  where
    by : (o : Option Done) → walk script start ≡ o → option_map (λ (d : Done). d.lines) o ≡ Some told → Plays script told
    by (Some e) walks so =
        let s = Stood-walked law script e all walks in
        subst (λ (lines : List Told). Plays script lines) (same_Some e.lines told so)
        (record { world = e.world; goes_on = s.goes_on; by = s.by })
    by None walks so = absurd cc

pub plays_to : LinesKeepAgreement → (script : List ScriptEvent) (told journals : List Told) → AllByRecursion GivesName script
    → all_told_by script ≡ Some (told, journals) → PlaysTo script told journals
plays_to law script told journals all is = by (walk script start) refl is
  where
    by : (o : Option Done) → walk script start ≡ o → option_map {U = List Told × List Told} (λ (d : Done). (d.lines, last_lines d.world)) o ≡ Some (told, journals)
        → PlaysTo script told journals
    by (Some e) walks so =
        let both = same_Some (e.lines, last_lines e.world) (told, journals) so in
        let s = Stood-walked law script e all walks in
        subst (λ (lines : List Told). PlaysTo script lines journals) (ap (λ (p : List Told × List Told). p.0) both)
        (record { plays = record { world = e.world; goes_on = s.goes_on; by = s.by }; last = ap (λ (p : List Told × List Told). p.1) both })
    by None walks so = absurd cc
