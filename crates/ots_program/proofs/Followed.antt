-- What one line of a script tells is told on the way to a world that a script can reach; it is safe, and can be read.
use Rattle.std.proofs.Common.{◌≡◌, ◌⊎◌, inl, inr, ℕ, ◌+◌, Bool, true, false, cond, leb, ltb, List, [], ◌∷◌, ◌++◌, refl, sym, ap, subst, ◌∙◌, append-nil}
use Rattle.std.specs.List.{AllByRecursion}
use Rattle.ots_model.specs.Safe.{AreSafe}
use Rattle.ots_world.specs.declared.script.ScriptEvent.{ScriptEvent}
use Rattle.ots_world.specs.Script.{Reading, Blank, Says, Bad, reading}
use Rattle.nodes_world.specs.Agreement.{GivesName, Reaches}
use Rattle.nodes_world.specs.Happenings.{Done}
use Rattle.nodes_world.specs.Lives.{last_lines}
use Rattle.nodes_world.specs.Step.{Stepped, Moves, Passes, Names, step}
use Rattle.nodes_world.specs.Told.{Told, known}
use Rattle.nodes_world.specs.World.{World}
use Rattle.nodes_told.specs.Reading.{IsTold}
use Rattle.nodes_steps.specs.Steps.{CanGoOn, IsDone, Keeps, Lasts, lines_by}
use Rattle.ots_program.specs.Laws.{WorldsAgree}
use Rattle.ots_program.specs.Limits.{lines_limit, octets_limit}
use Rattle.ots_program.specs.Replay.{Row, size, Ending, Completed, Refused, Limited, Place, Turn, Goes, Stops, turn, turn_by, turn_of}
use Rattle.ots_program.proofs.Lasting.{Lasts-still}

-- these lines are safe, and each of them can be read
pub record AreRight (all : List Told) : Type 0 where
  pub safe : AreSafe (known all)
  pub read : AllByRecursion IsTold all

-- an ending inside a script
abbrev pub IsStop : Ending → Type 0
IsStop Completed = ⊥
IsStop (Refused line) = Unit {0}
IsStop (Limited line number) = Unit {0}

-- What a turn tells behind lines is right. Where the turn goes on, a script can go on in its world, and what was so for good
-- is so still.
abbrev pub Follows : World → List Told → Turn → Type 0
Follows w told (Goes world lines) = CanGoOn world (told ++ lines) × Lasts w world told (told ++ lines)
Follows w told (Stops ending further) = IsStop ending × AreRight (told ++ further)

-- ---- a turn that tells nothing

pub CanGoOn-still : (w : World) (told : List Told) → CanGoOn w told → CanGoOn w (told ++ [])
CanGoOn-still w told h = subst (CanGoOn w) (sym (append-nil told)) h

pub Lasts-nothing : (w : World) (told : List Told) → Lasts w w told (told ++ [])
Lasts-nothing w told = subst (Lasts w w told) (sym (append-nil told)) (Lasts-still w told)

pub front_told : (some more : List Told) → AllByRecursion IsTold (some ++ more) → AllByRecursion IsTold some
front_told [] more all = tt
front_told (line ∷ some) more all = (all.0, front_told some more all.1)

-- with the journals too
pub AreRight-last : WorldsAgree → (w : World) (told : List Told) → CanGoOn w told → AreRight (told ++ last_lines w)
AreRight-last law w told h = record { safe = law.lines.ends w told h.reached; read = law.told w told h.reached }

read_still : WorldsAgree → (w : World) (told some : List Told) → Reaches w told → some ≡ [] → AllByRecursion IsTold (told ++ some)
read_still law w told some reached none =
    subst (AllByRecursion IsTold) (sym (ap (λ lines. told ++ lines) none ∙ append-nil told))
    (front_told told (last_lines w) (law.told w told reached))

AreRight-still : WorldsAgree → (w : World) (told : List Told) → CanGoOn w told → AreRight (told ++ [])
AreRight-still law w told h = record {
  safe = subst (λ (all : List Told). AreSafe (known all)) (sym (append-nil told)) (law.lines.fronts told (last_lines w) (law.lines.ends w told h.reached));
  read = read_still law w told [] h.reached refl;
}

-- ---- an event

read_passed : WorldsAgree → (w : World) (event : ScriptEvent) (told lines : List Told) → Reaches w told → Keeps event w told
    → (lines ≡ []) ⊎ ((to : Done) × IsDone event w to × (lines ≡ to.lines)) → AllByRecursion IsTold (told ++ lines)
read_passed law w event told lines reached k (inl none) = read_still law w told lines reached none
read_passed law w event told lines reached k (inr d) =
    subst (λ (some : List Told). AllByRecursion IsTold (told ++ some)) (sym d.2)
    (front_told (told ++ d.0.lines) (last_lines d.0.world) (law.told d.0.world (told ++ d.0.lines) (k.reached d.0 d.1)))

Follows-stepped : WorldsAgree → (p : Place) (event : ScriptEvent) (told : List Told) → GivesName event → CanGoOn p.world told
    → Follows p.world told (turn_by p (step event p.world))
Follows-stepped law p event told gives h = by (step event p.world) refl
  where
    k : Keeps event p.world told
    k = law.lines.keeps event p.world told gives h

    by : (s : Stepped) → step event p.world ≡ s → Follows p.world told (turn_by p s)
    by (Moves to) is = (k.goes_on to is, k.lasts to is)
    by (Passes limit lines) is = (
      tt,
      record {
        safe = subst (λ (s : Stepped). AreSafe (known (told ++ lines_by s))) is k.safe;
        read = read_passed law p.world event told lines h.reached k (law.lines.passes event p.world limit lines is);
      },
    )
    by Names is = (tt, AreRight-still law p.world told h)

-- ---- a line

Follows-read : WorldsAgree → (p : Place) (text : List ℕ) (told : List Told) (read : Reading) → reading text ≡ read → CanGoOn p.world told → Follows p.world told (turn_of p read)
Follows-read law p text told Blank is h = (CanGoOn-still p.world told h, Lasts-nothing p.world told)
Follows-read law p text told Bad is h = (tt, AreRight-still law p.world told h)
Follows-read law p text told (Says event) is h = Follows-stepped law p event told (law.named text event is) h

Follows-within : (b c : Bool) (p : Place) (told : List Told) (one other line many : ℕ) (t : Turn) → AreRight (told ++ []) → Follows p.world told t
    → Follows p.world told (cond b (Stops (Limited line one) []) (cond c (Stops (Limited many other) []) t))
Follows-within true c p told one other line many t right h = (tt, right)
Follows-within false true p told one other line many t right h = (tt, right)
Follows-within false false p told one other line many t right h = h

pub Follows-turn : WorldsAgree → (p : Place) (row : Row) (told : List Told) → CanGoOn p.world told → Follows p.world told (turn p row)
unfolding turn
Follows-turn law p row told h =
    Follows-within (leb lines_limit p.lines) (ltb octets_limit (p.octets + size row)) p told lines_limit octets_limit (p.lines + 1) (p.lines + 1) (turn_of p (reading row.text))
    (AreRight-still law p.world told h) (Follows-read law p row.text told (reading row.text) refl h)
