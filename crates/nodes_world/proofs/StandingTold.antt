-- Each decision that stands is told, and a restart tells it again.
use Rattle.std.proofs.Common.{◌≡◌, ◌+◌, ℕ, List, [], inr, Contains, Option, Some, None, refl, sym, ap, subst, ◌∙◌, slice_get}
use Rattle.std.specs.Option.{option_and_then}
use Rattle.ots_outside.specs.Disk.{DiskState}
use Rattle.decision_journal.specs.Growing.{JournalsGrow}
use Rattle.decision_journal.specs.Journal.{Found, found_in}
use Rattle.decision_journal.specs.Loading as loading
use Rattle.decision_journal.specs.declared.journal.Standing.{Standing}
use Rattle.decision_journal.specs.declared.record.JournalRecord.{JournalRecord}
use Rattle.decision_journal.specs.declared.record.JournalRecord.TheVariants.{Life}
use Rattle.recovery_coord.specs.Held.{held_of}
use Rattle.recovery_coord.specs.declared.held.Held.{Held}
use Rattle.coordinator.specs.Node.{Node, in_next_life, load}
use Rattle.nodes_world.specs.Agreement.{FollowsDisk, recorded_key, records_at}
use Rattle.nodes_world.specs.AgreementInside.{Known}
use Rattle.nodes_world.specs.AgreementSteps.{StepsStayKnown}
use Rattle.nodes_world.specs.Happenings.{Done, nothing}
use Rattle.nodes_world.specs.Journals.{records_on}
use Rattle.nodes_world.specs.Lives.{loads, restarts, up_lines}
use Rattle.nodes_world.specs.Nodes.{key_of_record}
use Rattle.nodes_world.specs.Objects.{service_at}
use Rattle.nodes_world.specs.StandingDecisions.{AreToldDecided, RestartsTellAgain, StandingIsTold, ToldIsRecorded}
use Rattle.nodes_world.specs.Step.{carried_out}
use Rattle.nodes_world.specs.Told.{Told}
use Rattle.nodes_world.specs.World.{World, OfNode, Seat, node_at, transaction_name}
use Rattle.nodes_world.proofs.Deeds.{NodeIsUp, node_is_up}
use Rattle.nodes_world.proofs.Going.{on_seat_twice}
use Rattle.nodes_world.proofs.HeldLines.{stood_told}
use Rattle.nodes_world.proofs.LoadedLines.{told_standing, transaction_found}
use Rattle.nodes_world.proofs.LoadedNodes.{decision_held, decision_held_as, recovered_in, standing_record}
use Rattle.nodes_world.proofs.Reaching.{known_reached}

-- a node that is up was told of, decision by decision
up_told : (w : World) (told : List Told) → Known w told → (place : ℕ) (n : Node) → node_at w place ≡ Some n → AreToldDecided w told place n.found.standing
up_told w told k place n up stood life slot generation by asked regs among is =
    let is_told = stood_told w told k place n up follows.records held stood among life slot generation by asked regs is in
    record { name = is_told.0; of_name = is_told.1; line = is_told.2 }
  where
    at : NodeIsUp w place n
    at = node_is_up w place n up

    follows : FollowsDisk place at.seat n
    follows = k.disks.follows place at.seat n at.there at.up

    held : records_at w place ≡ Some follows.records
    held = ap (λ (o : Option Seat). option_and_then (λ (s : Seat). records_on (service_at place) s.disk) o) at.there ∙ follows.held

module _ (grow : JournalsGrow) (w : World) (told : List Told) (k : Known w told) (place : ℕ) (rs : List JournalRecord) (held : records_at w place ≡ Some rs) where
  abbrev n : Node
  n = load (service_at place) rs

  -- a load begins a life, and leaves what stands
  same_standing : (found_in (in_next_life rs)).standing ≡ (found_in rs).standing
  same_standing = ap (λ (found : Found). found.standing) (grow.added (service_at place) rs (Life ((found_in rs).life + 1)))

  load_told : (name : List ℕ) → AreToldDecided w (up_lines w name n) place (found_in rs).standing
  load_told name stood life slot generation by asked regs among is =
      let h = decision_held stood life slot generation by asked regs is in
      let stands = subst (λ (ss : List Standing). Contains ss stood) (sym same_standing) among in
      let there = recovered_in (found_in (in_next_life rs)).standing stood h.0 stands h.1 in
      let so = decision_held_as stood.place life slot generation by asked regs h.0 (ap (λ (x : JournalRecord). held_of stood.place x [] []) (sym is) ∙ h.1) in
      let rests = k.records place life slot generation by asked regs rs held (subst (Contains rs) is (standing_record rs stood among)) in
      let named = ap (transaction_name w) (same_record h.0 so.1 so.2 so.3) ∙ transaction_found w told k (recorded_key place life slot generation) rests.name rests.of_name in
      record { name = rests.name; of_name = rests.of_name; line = inr (told_standing w (service_at place) n.recovered h.0 rests.name there so.0 named) }
    where
      same_record : (h : Held) {a b c : ℕ} → h.life ≡ a → h.slot ≡ b → h.generation ≡ c → key_of_record (service_at place) h ≡ recorded_key place a b c
      same_record h e f g = cc

  seat_told : (s : Seat) → slice_get w.seats place ≡ Some s → AreToldDecided w (loads place s (Some rs) w).lines place (found_in rs).standing
  unfolding transaction_name
  seat_told s there =
      let disk : DiskState = loading.loaded (service_at place) rs s.disk in
      let is = on_seat_twice place (λ (x : Seat). record x { disk = disk; stop = None }) (λ (x : Seat). record x { server = OfNode (Some n) }) w s there in
      subst (λ (x : World). AreToldDecided w (up_lines x s.name n) place (found_in rs).standing) (sym is) (load_told s.name)

  restart_told : AreToldDecided w (restarts place w).lines place (found_in rs).standing
  unfolding restarts
  restart_told = by (slice_get w.seats place) refl held
    where
      by : (o : Option Seat) → slice_get w.seats place ≡ o → option_and_then (λ (s : Seat). records_on (service_at place) s.disk) o ≡ Some rs
          → AreToldDecided w (elim o as (λ _. Done) [ Some s ↦ loads place s (records_on (service_at place) s.disk) w | None ↦ nothing w ]).lines place (found_in rs).standing
      by (Some s) there reads =
          subst (λ (o : Option (List JournalRecord)). AreToldDecided w (loads place s o w).lines place (found_in rs).standing) (sym reads) (seat_told s there)
      by None there reads = absurd cc

module _ (keeps : StepsStayKnown) where
  pub standing_is_told : StandingIsTold
  standing_is_told w told place n reached up = up_told w told (known_reached keeps w told reached) place n up

  pub restarts_tell_again : JournalsGrow → RestartsTellAgain
  unfolding carried_out
  restarts_tell_again grow w told event place rs reached is held = restart_told grow w told (known_reached keeps w told reached) place rs held

  pub told_is_recorded : ToldIsRecorded
  told_is_recorded w told reached = (known_reached keeps w told reached).recorded
