-- Each step keeps what is known of a world.
use Rattle.std.proofs.Common.{◌≡◌, inl, inr, ℕ, List, append-nil, Some, refl, sym, subst}
use Rattle.ior_refs.specs.declared.key.ObjectKey.{ObjectKey}
use Rattle.ots_model.specs.SafeByLine.{AllowedIsSafe}
use Rattle.decision_journal.specs.Loading.{LoadsAreSafe}
use Rattle.nodes_world.specs.declared.thing.Thing.TheVariants as things
use Rattle.nodes_world.proofs.CompletesKnown.{JournalLaws}
use Rattle.nodes_world.specs.World.{World, FlatResource, resource_at, thing}
use Rattle.nodes_world.specs.Happenings.{changes}
use Rattle.nodes_world.specs.Ends.{put_into, refusing, with_resource_at}
use Rattle.nodes_world.specs.AgreementInside.{Known}
use Rattle.nodes_world.specs.AgreementSteps.{IsTouched, by_put, by_refusal, StaysKnown, StepsStayKnown}
use Rattle.nodes_world.proofs.KnownAlike.{known_alike, known_receipt}
use Rattle.nodes_world.proofs.KnownCalling.{known_calling}
use Rattle.nodes_world.proofs.KnownMakings.{known_end, known_node}
use Rattle.nodes_world.proofs.KnownSeats.{known_crash}
use Rattle.nodes_world.proofs.KnownTouch.{touch_known}
use Rattle.nodes_world.proofs.LoadedLives.{known_loading}
use Rattle.nodes_world.proofs.WordKnown.{word_known}
use Rattle.family_laws.specs.OwnDecisions.{NodesKeepDecisions}
use Rattle.family_laws.specs.HeldRecords.{HeldRecordsStood}
use Rattle.nodes_world.proofs.KnownBeginWhole.{known_begin}
use Rattle.nodes_world.proofs.CallKnown.{known_call}
use Rattle.nodes_world.proofs.KnownTick.{known_tick}
use Rattle.nodes_world.proofs.StepIs.{FamilyLaws}
use Rattle.nodes_world.proofs.SubKnown.{known_sub}
use Rattle.ior_refs.specs.Laws.{SameOctetsSameKey}
use Rattle.nodes_world.proofs.RegisterKnown.{known_register}
use Rattle.nodes_world.proofs.HearingKnown.{known_hearing}

known_touch : (w : World) (name : List ℕ) (key : ObjectKey) (r later : FlatResource) → thing w name ≡ Some (things.Resource key)
    → resource_at w key ≡ Some r → IsTouched r later → StaysKnown w (changes (with_resource_at key later w))
known_touch w name key r _ named was (by_put cell value may) told k =
    subst (Known (with_resource_at key (put_into cell value r) w)) (sym (append-nil told))
    (touch_known w told k name key r (put_into cell value r) named was refl may (inl refl))
known_touch w name key r _ named was (by_refusal may) told k =
    subst (Known (with_resource_at key (refusing r) w)) (sym (append-nil told))
    (touch_known w told k name key r (refusing r) named was refl may (inr refl))

pub steps_stay_known : AllowedIsSafe → JournalLaws → LoadsAreSafe → NodesKeepDecisions → HeldRecordsStood → SameOctetsSameKey → FamilyLaws → StepsStayKnown
steps_stay_known allowed journals safe sound stood keys families = record {
  alike = known_alike;
  receipt = known_receipt;
  node = known_node;
  end = known_end;
  load = known_loading journals.grow safe journals.read sound;
  crash = known_crash;
  begin = known_begin sound stood;
  calling = known_calling;
  call = known_call families sound;
  sub = known_sub families sound;
  register = λ w manner transaction place name s e at up free may few. known_register families sound keys w manner transaction place name s e at up free few;
  touch = known_touch;
  word = λ w nth place o is told k. word_known w told k allowed nth place o is;
  hearing = known_hearing families journals sound stood;
  tick = known_tick families sound stood;
}
