-- What each step keeps is known of every world that a script reaches; from it agreement follows.
use Rattle.std.proofs.Common.{List, ◌++◌, reverse, sym, subst, append_assoc, append-nil}
use Rattle.std.proofs.lemmas.List.{reverse-reverse}
use Rattle.ots_model.specs.Safe.{AreSafe}
use Rattle.ots_model.specs.SafeByLine.{AllowedIsSafe}
use Rattle.nodes_world.specs.Told.{Told, known}
use Rattle.nodes_world.specs.World.{World}
use Rattle.nodes_world.specs.Happenings.{Done}
use Rattle.nodes_world.specs.Step.{carried_out}
use Rattle.nodes_world.specs.Agreement.{Agreement, Reaches, nothing, further}
use Rattle.nodes_world.specs.AgreementInside.{Known}
use Rattle.nodes_world.specs.AgreementSteps.{Goes, by_alike, by_receipt, by_node, by_end, by_load, by_crash, by_begin, by_calling, by_call, by_sub, by_register, by_touch, by_word, by_hearing, by_tick, GoesOn, still, further as and_further, StaysKnown, StepsStayKnown}
use Rattle.nodes_world.proofs.Delivered.{reached_delivered}
use Rattle.nodes_world.proofs.GoingOn.{deeds_go}
use Rattle.nodes_world.proofs.NothingKnown.{nothing_known}

-- ---- steps

module _ (keeps : StepsStayKnown) where
  pub goes_known : (w : World) (d : Done) → Goes w d → StaysKnown w d
  goes_known w d (by_alike v quiet alike all) = keeps.alike w v quiet alike all
  goes_known w d (by_receipt number) = keeps.receipt w number
  goes_known w d (by_node name free room) = keeps.node w name free room
  goes_known w d (by_end name free room short) = keeps.end w name free room short
  goes_known w d (by_load place s rs there down held room) = keeps.load w place s rs there down held room
  goes_known w d (by_crash place s n there up) = keeps.crash w place s n there up
  goes_known w d (by_begin place name seconds s n there up free) = keeps.begin w place name seconds s n there up free
  goes_known w d (by_calling to act named few) = keeps.calling w to act named few
  goes_known w d (by_call nth now to act m there is asked) = keeps.call w nth now to act m there is asked
  goes_known w d (by_sub parent name free few) = keeps.sub w parent name free few
  goes_known w d (by_register manner transaction place name s e there up free may few) =
      keeps.register w manner transaction place name s e there up free may few
  goes_known w d (by_touch name key r later named there touched) = keeps.touch w name key r later named there touched
  goes_known w d (by_word nth place o is) = keeps.word w nth place o is
  goes_known w d (by_hearing request from reply o m back answer s there is replied says seated waits) =
      keeps.hearing w request from reply o m back answer s there is replied says seated waits
  goes_known w d (by_tick place s n there up) = keeps.tick w place s n there up

  goes_on_known : (w : World) (d : Done) → GoesOn w d → StaysKnown w d
  goes_on_known w d still told is = subst (Known w) (sym (append-nil told)) is
  goes_on_known w d (and_further between later before last) told is =
      subst (Known later.world) (append_assoc told between.lines later.lines)
      (goes_known between.world later last (told ++ between.lines) (goes_on_known w between before told is))

  pub known_reached : (w : World) (told : List Told) → Reaches w told → Known w told
  known_reached w told nothing = nothing_known
  known_reached w told (further before earlier event deed reached few fit is limit) =
      goes_on_known before (carried_out deed before) (deeds_go event deed before (reached_delivered before earlier reached) few fit is limit) earlier (known_reached before earlier reached)

  pub agreement : AllowedIsSafe → Agreement
  agreement safe w told reached =
      subst AreSafe (reverse-reverse (known told)) (safe (reverse (known told)) (known_reached w told reached).allowed)
