-- What is known of a world is known once a family has gone on by a step that reads no journal, and its words have gone out.
use Rattle.std.proofs.Common.{◌≡◌, ◌≤◌, ℕ, is_some, IsTrue, List, [], ◌∷◌, ◌++◌, slice_get, Contains, Some, refl, sym, ap, subst, ◌∙◌, arith}
use Rattle.std.specs.List.{AllByRecursion}
use Rattle.ior_refs.specs.declared.key.ObjectKey.{ObjectKey}
use Rattle.ots_model.specs.declared.service.RetryKey.{RetryKey}
use Rattle.ots_model.specs.declared.tree.Outward.{Outward}
use Rattle.coordinator.specs.declared.effect.Effect.{Effect}
use Rattle.coordinator.specs.declared.said.Entry.{Entry}
use Rattle.coordinator.specs.declared.said.Finished.{Finished}
use Rattle.coordinator.specs.Family.{Family}
use Rattle.coordinator.specs.Node.{Node, family_in, with_family}
use Rattle.coordinator.specs.Phases.{is_before}
use Rattle.family_laws.specs.LawsOfTelling.{AreNumberedFrom}
use Rattle.family_laws.specs.OwnDecisions.{KeepsDecisions}
use Rattle.nodes_world.specs.Agreement.{HasSent}
use Rattle.nodes_world.specs.AgreementInside.{Known, HasMessage, edge_at, IsNumberedBy}
use Rattle.nodes_world.specs.Happenings.{Cast, all_effect_lines, all_finished_lines, requests_all}
use Rattle.nodes_world.specs.Objects.{place_of}
use Rattle.nodes_world.specs.Told.{Told}
use Rattle.nodes_world.specs.World.{World, Seat, OfNode, family_at, referred}
use Rattle.nodes_world.proofs.KnownFamilies.{is_own}
use Rattle.nodes_world.proofs.WordsGo.{HaveNumbersUpTo, IsNamed, words_known}
use Rattle.nodes_world.proofs.EffectsTold.{TellsEffects, effects_allowed}
use Rattle.nodes_world.proofs.RulesKeep.{IsRegisteredTo}
use Rattle.nodes_world.proofs.StepDisks.{counted_now, disks_now, nodes_now}
use Rattle.nodes_world.proofs.StepIs.{IsCastOf, StepIs}
use Rattle.nodes_world.proofs.StepKnown as step
use Rattle.nodes_world.proofs.StepOutcomes as outcome
use Rattle.nodes_world.proofs.StepSeats as seats
use Rattle.nodes_world.proofs.NumberedWords.{all_themselves, newly_numbered, numbered_within}

module _ (w : World) (place : ℕ) (s : Seat) (n : Node) (f g : Family) (there : slice_get w.seats place ≡ Some s) (up : s.server ≡ OfNode (Some n))
    (slotted : family_in n.families f.key.slot ≡ Some f) (at_place : place_of f.key ≡ place) (told : List Told) (k : Known w told) (key : ObjectKey)
    (found : family_at w key ≡ Some f) (c : Cast) (cast : IsCastOf f c) (some : List Effect) (words : List Outward) (is : StepIs w f g some words)
    (entries : List Entry) (done : List Finished) (sound : KeepsDecisions (edge_at w place) (with_family g n))
    (came : (e : Entry) (r : RetryKey) → Contains g.entries e → e.event.key ≡ Some r → HasMessage w r) where
  abbrev v : World
  v = seats.v w place s n f g there up is.key slotted at_place

  abbrev more : List Told
  more = told ++ (all_effect_lines w c some ++ all_finished_lines entries done)

  own : c.key ≡ f.key
  own = cast.key

  tells : TellsEffects told more
  tells = step.tells w place s n f g there up slotted at_place told k key found c cast some words is entries done

  pub step_known : Known v more
  step_known = record {
    names = step.names_now w place s n f g there up slotted at_place told k key found c cast some words is entries done;
    seats = step.seats_now w place s n f g there up slotted at_place told k key found c cast some words is entries done;
    disks = disks_now w place s n f g there up is.key slotted at_place told more k tells;
    words = step.words_now w place s n f g there up slotted at_place told k key found c cast some words is entries done;
    votes = step.votes_given w place s n f g there up slotted at_place told k key found c cast some words is entries done;
    resources = step.resources_now w place s n f g there up slotted at_place told k key found c cast some words is entries done;
    families = step.families_now w place s n f g there up slotted at_place told k key found c cast some words is entries done came;
    open_words = outcome.open_now w place s n f g there up slotted at_place told k key found c cast some words is entries done;
    records = outcome.records_rest w place s n f g there up slotted at_place told k key found c cast some words is entries done;
    recorded = outcome.recorded_now w place s n f g there up slotted at_place told k key found c cast some words is entries done;
    ends = outcome.ends_once w place s n f g there up slotted at_place told k key found c cast some words is entries done;
    one_outcome = outcome.one_outcome_now w place s n f g there up slotted at_place told k key found c cast some words is entries done;
    commits = outcome.commits_now w place s n f g there up slotted at_place told k key found c cast some words is entries done;
    one_phase = outcome.one_phase_now w place s n f g there up slotted at_place told k key found c cast some words is entries done;
    rollbacks = outcome.rollbacks_now w place s n f g there up slotted at_place told k key found c cast some words is entries done;
    rolled_back = outcome.rolled_back_now w place s n f g there up slotted at_place told k key found c cast some words is entries done;
    told_back = outcome.told_back_now w place s n f g there up slotted at_place told k key found c cast some words is entries done;
    transactions = outcome.transactions_now w place s n f g there up slotted at_place told k key found c cast some words is entries done;
    nodes = nodes_now w place s n f g there up is.key slotted at_place told more k tells sound;
    counted = counted_now w place s n f g there up is.key slotted at_place told more k tells;
    allowed = effects_allowed w told k key f found c own (is_before f.stage) some is.turn entries done;
  }

  -- ---- its words

  own_now : family_at v g.key ≡ Some g
  own_now = seats.there_now w place s n f g there up is.key slotted at_place g.key (is_own g)

  same_place : place_of g.key ≡ place
  same_place = ap place_of is.key ∙ at_place

  all_named : (some : List Outward) → AllByRecursion (λ (o : Outward). IsRegisteredTo f.ballots.registrations o.to) some → AllByRecursion (IsNamed v) some
  all_named [] all = tt
  all_named (o ∷ others) (one, all) = (
    ap is_some (step.refers w place s n f g there up slotted at_place told k key found c cast some words is entries done o.to)
        ∙ subst (λ (to : List ℕ). IsTrue (is_some (referred w to))) one.leads ((k.families key f found).named one.r one.there),
    all_named others all,
  )

  -- they are numbered by the family
  are_numbered : (some : List Outward) → AllByRecursion (λ (o : Outward). Contains words o) some → AllByRecursion (IsNumberedBy g) some
  are_numbered [] all = tt
  are_numbered (o ∷ others) (one, all) = (newly_numbered f g words o is.asks is.numbered (k.families key f found).ready is.ready one (at_most o one), are_numbered others all)
    where
      at_most : (o : Outward) → Contains words o → o.number.serial ≤ g.serial
      at_most o one = let most = numbered_within f.key f.serial words o is.numbered one in let many = is.serial in omega (arith, most, many)

  numbers : HaveNumbersUpTo v g.key f.serial
  numbers o sent life_is slot_is generation_is =
      within (k.words.serials (place_of f.key) o f key (subst (λ (x : ℕ). HasSent w x o) (ap place_of is.key) sent) found (life_is ∙ ap (λ (x : ObjectKey). x.life) is.key)
      (slot_is ∙ ap (λ (x : ObjectKey). x.slot) is.key) (generation_is ∙ ap (λ (x : ObjectKey). x.generation) is.key) refl)
    where
      within : IsNumberedBy f o → o.number.serial ≤ f.serial
      within was = was.within

  pub words_gone : Known (requests_all place words v).world (more ++ (requests_all place words v).lines)
  words_gone =
      subst (λ (x : ℕ). Known (requests_all x words v).world (more ++ (requests_all x words v).lines)) same_place
      (words_known words v more step_known g.key g own_now f.serial (all_named words is.leads) is.rest
      (subst (λ (x : ObjectKey). AreNumberedFrom x f.serial words) (sym is.key) is.numbered) (are_numbered words (all_themselves words)) numbers)
