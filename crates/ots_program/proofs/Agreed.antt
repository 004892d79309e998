-- The world in which a replay stands agrees with what it has told, and all that it tells is right.
use Rattle.std.proofs.Common.{◌≡◌, ℕ, List, [], ◌∷◌, ◌++◌, refl, sym, ap, subst, ◌∙◌, append_assoc, append-nil, arith}
use Rattle.nodes_world.specs.Agreement as agreement
use Rattle.nodes_world.specs.Lives.{last_lines}
use Rattle.nodes_world.specs.Told.{Told}
use Rattle.nodes_world.specs.World.{World}
use Rattle.nodes_steps.specs.Steps.{CanGoOn, Lasts}
use Rattle.ots_program.specs.Answers.{Agrees, DecisionsAreToldAgain, OutcomesStay, journals_by}
use Rattle.ots_program.specs.Laws.{WorldsAgree}
use Rattle.ots_program.specs.Replay.{Row, Replay, Ending, Completed, Refused, Limited, Place, Turn, Goes, Stops, turn, ahead_of, behind, completed, stopped, replay_from, replay, rows, start}
use Rattle.ots_program.proofs.Followed.{AreRight, AreRight-last, CanGoOn-still, Follows, Follows-turn, IsStop, Lasts-nothing}
use Rattle.ots_program.proofs.Lasting.{Lasts-still, Lasts-then}
use Rattle.ots_program.proofs.Replays.{replay-ended, replay-goes, replay-stops}

-- behind lines, a replay stands in a world that a script can reach and go on from, where what was so for good is so still; and what
-- it tells is right
record ComesTo (w : World) (told : List Told) (r : Replay) : Type 0 where
  lines : r.lines ≡ r.told ++ journals_by r.ending r.world
  goes_on : CanGoOn r.world (told ++ r.told)
  lasts : Lasts w r.world told (told ++ r.told)
  right : AreRight (told ++ (r.lines ++ r.further))

ComesTo-completed : WorldsAgree → (w : World) (told : List Told) → CanGoOn w told → ComesTo w told (completed w)
ComesTo-completed law w told h = record {
  lines = refl;
  goes_on = CanGoOn-still w told h;
  lasts = Lasts-nothing w told;
  right = subst (λ (some : List Told). AreRight (told ++ some)) (sym (append-nil (last_lines w))) (AreRight-last law w told h);
}

journals_by-stop : (ending : Ending) (w : World) → IsStop ending → journals_by ending w ≡ []
journals_by-stop Completed w stop = absurd stop
journals_by-stop (Refused line) w stop = refl
journals_by-stop (Limited line number) w stop = refl

ComesTo-stopped : (w : World) (told : List Told) (ending : Ending) (further : List Told) → CanGoOn w told → IsStop ending → AreRight (told ++ further)
    → ComesTo w told (stopped w ending further)
ComesTo-stopped w told ending further h stop right = record {
  lines = sym (journals_by-stop ending w stop);
  goes_on = CanGoOn-still w told h;
  lasts = Lasts-nothing w told;
  right = right;
}

ComesTo-ahead : (w world : World) (told lines : List Told) (r : Replay) → Lasts w world told (told ++ lines) → ComesTo world (told ++ lines) r → ComesTo w told (ahead_of lines r)
ComesTo-ahead w world told lines r lasts h = record {
  lines = ap (λ all. lines ++ all) h.lines ∙ sym (append_assoc lines r.told (journals_by r.ending r.world));
  goes_on = subst (CanGoOn r.world) (append_assoc told lines r.told) h.goes_on;
  lasts = subst (Lasts w r.world told) (append_assoc told lines r.told) (Lasts-then w world r.world told (told ++ lines) ((told ++ lines) ++ r.told) lasts h.lasts);
  right = subst AreRight (append_assoc told lines (r.lines ++ r.further) ∙ ap (λ all. told ++ all) (sym (append_assoc lines r.lines r.further))) h.right;
}

ComesTo-row : (p : Place) (row : Row) (others : List Row) (told : List Told) (t : Turn) → turn p row ≡ t → CanGoOn p.world told → Follows p.world told t
    → ((world : World) (lines : List Told) → CanGoOn world (told ++ lines) → ComesTo world (told ++ lines) (replay_from (behind p row world) others))
    → ComesTo p.world told (replay_from p (row ∷ others))
ComesTo-row p row others told (Goes world lines) e h follows more =
    subst (ComesTo p.world told) (sym (replay-goes p row others world lines e))
    (ComesTo-ahead p.world world told lines (replay_from (behind p row world) others) follows.1 (more world lines follows.0))
ComesTo-row p row others told (Stops ending further) e h follows more =
    subst (ComesTo p.world told) (sym (replay-stops p row others ending further e)) (ComesTo-stopped p.world told ending further h follows.0 follows.1)

ComesTo-rows : WorldsAgree → (p : Place) (some : List Row) (told : List Told) → CanGoOn p.world told → ComesTo p.world told (replay_from p some)
ComesTo-rows law p [] told h = subst (ComesTo p.world told) (sym (replay-ended p)) (ComesTo-completed law p.world told h)
ComesTo-rows law p (row ∷ others) told h =
    ComesTo-row p row others told (turn p row) refl h (Follows-turn law p row told h)
    (λ world lines later. ComesTo-rows law (behind p row world) others (told ++ lines) later)

-- ---- from a front of the lines to the end

-- what was so for good behind lines and a replay is so behind these and another one
abbrev Stays : List Told → Replay → Replay → Type 0
Stays told r s = Lasts r.world s.world (told ++ r.told) (told ++ s.told)

Stays-ahead : (told lines : List Told) (r s : Replay) → Stays (told ++ lines) r s → Stays told (ahead_of lines r) (ahead_of lines s)
Stays-ahead told lines r s h = rw (← append_assoc told lines r.told, ← append_assoc told lines s.told) h

Stays-row : WorldsAgree → (p : Place) (row : Row) (front others : List Row) (told : List Told) (t : Turn) → turn p row ≡ t → Follows p.world told t
    → ((world : World) (lines : List Told) → CanGoOn world (told ++ lines)
    → Stays (told ++ lines) (replay_from (behind p row world) front) (replay_from (behind p row world) (front ++ others)))
    → Stays told (replay_from p (row ∷ front)) (replay_from p (row ∷ (front ++ others)))
Stays-row law p row front others told (Goes world lines) e follows more =
    rw (replay-goes p row front world lines e, replay-goes p row (front ++ others) world lines e)
    (Stays-ahead told lines (replay_from (behind p row world) front) (replay_from (behind p row world) (front ++ others)) (more world lines follows.0))
Stays-row law p row front others told (Stops ending further) e follows more =
    rw (replay-stops p row front ending further e, replay-stops p row (front ++ others) ending further e) (Lasts-still p.world (told ++ []))

Stays-front : WorldsAgree → (p : Place) (front others : List Row) (told : List Told) → CanGoOn p.world told
    → Stays told (replay_from p front) (replay_from p (front ++ others))
Stays-front law p [] others told h = rw (replay-ended p, append-nil told) (ComesTo-rows law p others told h).lasts
Stays-front law p (row ∷ front) others told h =
    Stays-row law p row front others told (turn p row) refl (Follows-turn law p row told h)
    (λ world lines later. Stays-front law (behind p row world) front others (told ++ lines) later)

-- ---- scripts

CanGoOn-start : CanGoOn start.world []
CanGoOn-start = record { reached = agreement.nothing; few = omega arith }

ComesTo-script : WorldsAgree → (octets : List ℕ) → ComesTo start.world [] (replay octets)
ComesTo-script law octets = ComesTo-rows law start (rows octets) [] CanGoOn-start

-- what a replay tells is safe, and can be read
pub replay-right : WorldsAgree → (octets : List ℕ) → AreRight ((replay octets).lines ++ (replay octets).further)
replay-right law octets = (ComesTo-script law octets).right

-- its world agrees with that
pub replay-agrees : WorldsAgree → (octets : List ℕ) → Agrees (replay octets)
replay-agrees law octets =
    let h = ComesTo-script law octets in
    record {
      lines = h.lines;
      reached = h.goes_on.reached;
      is_known = law.known (replay octets).world (replay octets).told h.goes_on.reached;
      standing = λ place n up. law.standing (replay octets).world (replay octets).told place n h.goes_on.reached up;
      dones = law.dones (replay octets).world (replay octets).told h.goes_on.reached;
    }

-- and what is decided or closed on the way stays so
pub replay-lasts : WorldsAgree → (octets : List ℕ) → OutcomesStay octets
replay-lasts law octets front others is = rw is (Stays-front law start front others [] CanGoOn-start).outcomes

-- and wherever a script stands, a decision that stood is told again
pub replay-tells_again : WorldsAgree → (octets : List ℕ) → DecisionsAreToldAgain octets
replay-tells_again law octets front others is =
    let h = ComesTo-rows law start front [] CanGoOn-start in
    law.again (replay_from start front).world (replay_from start front).told h.goes_on.reached h.goes_on.few
