-- What a world keeps by the laws of its definition.
use Rattle.std.proofs.Common.{◌≡◌, ℕ, List, Some, Result, Ok, Err, sym, ap, subst, ◌∙◌}
use Rattle.std.specs.Prelude.{OnOk}
use Rattle.ior_refs.specs.declared.key.ObjectKey.{ObjectKey}
use Rattle.resource_end.specs.declared.state.State.{State}
use Rattle.resource_end.specs.declared.state.State.TheVariants.{Applied, Undone}
use Rattle.decision_journal.specs.Journal.{found_in}
use Rattle.decision_journal.specs.declared.record.JournalRecord.{JournalRecord}
use Rattle.ots_world.specs.declared.fault.WorldFault.{WorldFault}
use Rattle.ots_world.specs.declared.script.ScriptEvent.{ScriptEvent}
use Rattle.nodes_world.specs.declared.deed.Deed.TheVariants.{Restart}
use Rattle.nodes_world.specs.Agreement.{GivesName, IsOver, ReachedDonesAreComplete, ReachedIsKnown, records_at}
use Rattle.nodes_world.specs.Happenings.{Done}
use Rattle.nodes_world.specs.OverForGood.{AnsweredCommitsAreStored, IsAt, ResourcesStay}
use Rattle.nodes_world.specs.Resolve.{resolve}
use Rattle.nodes_world.specs.StandingDecisions.{AreToldDecided, RestartsTellAgain, StandingIsTold}
use Rattle.nodes_world.specs.Step.{carried_out}
use Rattle.nodes_world.specs.Told.{Told}
use Rattle.nodes_world.specs.World.{World}
use Rattle.nodes_steps.specs.Steps.{LinesKeepAgreement}
use Rattle.nodes_replay.specs.Agreement.{CommitsAreKept, DecisionsAreTold, GoesOnLasting, HasTold, ResourcesStayOver, RestartTellsAgain, StandsComplete, StandsKnown, TellsAgain}
use Rattle.nodes_replay.specs.Going.{GoesOn}
use Rattle.nodes_replay.specs.Standing.{Standing}
use Rattle.nodes_replay.specs.Stands.{Moved}
use Rattle.nodes_replay.proofs.Safely.{line_keeps, own_moved}

-- ---- of a world that is reached

pub stands_known : ReachedIsKnown → (s : Standing) (told : List Told) → HasTold s told → StandsKnown s told
stands_known law (Ok w) told h = law w told h
stands_known law (Err fault) told h = tt

pub stands_complete : ReachedDonesAreComplete → (s : Standing) (told : List Told) → HasTold s told → StandsComplete s
stands_complete law (Ok w) told h = law w told h
stands_complete law (Err fault) told h = tt

pub decisions_told : StandingIsTold → (s : Standing) (told : List Told) → HasTold s told → DecisionsAreTold s told
decisions_told law (Ok w) told h = λ place n up. law w told place n h up
decisions_told law (Err fault) told h = tt

pub commits_kept : AnsweredCommitsAreStored → (s : Standing) (told : List Told) → HasTold s told → CommitsAreKept s
commits_kept law (Ok w) told h =
    λ nth place reply o m answer r word commit there says named. law w told nth place reply o m answer r h word commit there says named
commits_kept law (Err fault) told h = tt

-- ---- of a line that moves it on

staying : LinesKeepAgreement → ResourcesStay → (old : Standing) (event : ScriptEvent) (new : Standing) (before after : List ℕ)
    → Moved old event new before after → ResourcesStayOver old new
staying lines law old event new before after m =
    let d = lines.moves event m.world m.to m.moves in
    let there : (P : State → Type 0) (key : ObjectKey) → IsAt P (carried_out d.deed m.world).world key → IsAt P m.to.world key =
    λ P key at. subst (λ (x : Done). IsAt P x.world key) (sym d.is) at in
    record {
      world = m.world;
      was = m.was;
      later = m.to.world;
      now = m.now;
      stored = λ key at. there (λ (s : State). s ≡ Applied) key (law.stored event d.deed m.world key d.named at);
      dropped = λ key at. there (λ (s : State). s ≡ Undone) key (law.dropped event d.deed m.world key d.named at);
      over = λ key at. there IsOver key (law.over event d.deed m.world key d.named at);
    }

pub resources_stay : LinesKeepAgreement → ResourcesStay → (old : Standing) (event : ScriptEvent) (new : Standing) (before after : List ℕ)
    (r : Result (Unit {0}) WorldFault) → OnOk r (Moved old event new before after) → OnOk r (ResourcesStayOver old new)
resources_stay lines law old event new before after (Ok _) m = staying lines law old event new before after m
resources_stay lines law old event new before after (Err fault) m = tt

lasting : LinesKeepAgreement → (old : Standing) (event : ScriptEvent) (new : Standing) (told : List Told) (before after : List ℕ) → GoesOn old
    → GivesName event → HasTold old told → Moved old event new before after → GoesOnLasting old event told new before after
lasting law old event new told before after goes fit h m = record {
  world = m.world;
  was = m.was;
  later = m.to.world;
  now = m.now;
  further = m.to.lines;
  own = own_moved old event new before after m;
  told = m.told;
  last = ((line_keeps law old event told m.world m.was goes fit h).lasts m.to m.moves).outcomes;
}

pub goes_on_lasting : LinesKeepAgreement → (old : Standing) (event : ScriptEvent) (new : Standing) (told : List Told) (before after : List ℕ)
    (r : Result (Unit {0}) WorldFault) → GoesOn old → GivesName event → HasTold old told → OnOk r (Moved old event new before after)
    → OnOk r (GoesOnLasting old event told new before after)
goes_on_lasting law old event new told before after (Ok _) goes fit h m = lasting law old event new told before after goes fit h m
goes_on_lasting law old event new told before after (Err fault) goes fit h m = tt

tells_again : LinesKeepAgreement → RestartsTellAgain → (w : World) (event : ScriptEvent) (new : Standing) (told : List Told) (before after : List ℕ) (place : ℕ)
    (rs : List JournalRecord) → HasTold (Ok w) told → Moved (Ok w) event new before after → resolve event w ≡ Some (Restart place)
    → records_at w place ≡ Some rs → TellsAgain w event new place rs before after
tells_again lines law w event new told before after place rs h m named on_disk =
    let here : m.world ≡ w = cc (m.was) in
    let d = lines.moves event m.world m.to m.moves in
    let restart : d.deed ≡ Restart place = let one = d.named in let other = ap (resolve event) here ∙ named in cc (one, other) in
    let is : m.to ≡ carried_out (Restart place) w = d.is ∙ ap (λ x. carried_out x m.world) restart ∙ ap (carried_out (Restart place)) here in
    record {
      further = m.to.lines;
      own = own_moved (Ok w) event new before after m;
      told = m.told;
      again = subst (λ (x : Done). AreToldDecided w x.lines place (found_in rs).standing) (sym is) (law w told event place rs h named on_disk);
    }

restarted : LinesKeepAgreement → RestartsTellAgain → (old : Standing) (event : ScriptEvent) (new : Standing) (told : List Told) (before after : List ℕ) → HasTold old told
    → Moved old event new before after → RestartTellsAgain old event new before after
restarted lines law (Ok w) event new told before after h m =
    λ place rs named on_disk. tells_again lines law w event new told before after place rs h m named on_disk
restarted lines law (Err fault) event new told before after h m = tt

pub restart_tells_again : LinesKeepAgreement → RestartsTellAgain → (old : Standing) (event : ScriptEvent) (new : Standing) (told : List Told) (before after : List ℕ)
    (r : Result (Unit {0}) WorldFault) → HasTold old told → OnOk r (Moved old event new before after)
    → OnOk r (RestartTellsAgain old event new before after)
restart_tells_again lines law old event new told before after (Ok _) h m = restarted lines law old event new told before after h m
restart_tells_again lines law old event new told before after (Err fault) h m = tt
