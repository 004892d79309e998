-- What is known of the lines, words and resources of a world once a family has gone on by a step.
use Rattle.std.proofs.Common.{◌≡◌, ◌⊎◌, inl, inr, ℕ, ◌<◌, ◌≤◌, Bool, true, false, IsTrue, is_some, List, ◌++◌, slice_get, Contains, Option, Some, None, refl, sym, ap, subst, ◌∙◌, arith}
use Rattle.ior_refs.specs.declared.key.ObjectKey.{ObjectKey}
use Rattle.ots_model.specs.Safe.{Stands, IsRegistered}
use Rattle.ots_model.specs.declared.completion.Ground.{Ground}
use Rattle.ots_model.specs.declared.completion.Ground.TheVariants.{Record}
use Rattle.ots_model.specs.declared.completion.Vote.{Vote}
use Rattle.ots_model.specs.declared.line.Line.{Line}
use Rattle.ots_model.specs.declared.line.Line.TheVariants as lines
use Rattle.ots_model.specs.declared.service.RetryKey.{RetryKey}
use Rattle.ots_model.specs.Numbered.{Outcome}
use Rattle.ots_model.specs.declared.completion.Outcome.TheVariants as outcomes
use Rattle.ots_model.specs.declared.tree.Outward.{Outward}
use Rattle.txn_tree.specs.Rows.{is_live_branch}
use Rattle.txn_tree.specs.declared.row.Row.{Row}
use Rattle.two_phase.specs.Stages as stages
use Rattle.coordinator.specs.declared.effect.Effect.{Effect}
use Rattle.coordinator.specs.declared.said.Entry.{Entry}
use Rattle.coordinator.specs.declared.said.Finished.{Finished}
use Rattle.coordinator.specs.Family.{Family}
use Rattle.recovery_coord.specs.Limits.{retold_slot}
use Rattle.coordinator.specs.Node.{Node, family_in, is_of, life}
use Rattle.coordinator.specs.Phases.{is_before}
use Rattle.family_laws.specs.LawsOfTelling.{rows_told}
use Rattle.nodes_world.specs.declared.thing.Thing.TheVariants as things
use Rattle.nodes_world.specs.Agreement.{HasSent, IsTransaction, VotesWereGiven, is_decision_of, HasGiven}
use Rattle.nodes_world.specs.AgreementInside.{Known, FamiliesAreKnown, FamilyIsKnown, HasMessage, IsBranch, IsMade, NamesAreTold, OutcomeIsTold, ResourcesAreKnown, SeatsAreNamed, WordsAreTold, IsNumberedBy}
use Rattle.nodes_world.specs.Happenings.{Cast, all_effect_lines, all_finished_lines}
use Rattle.nodes_world.specs.Objects.{place_of}
use Rattle.nodes_world.specs.Told as tell
use Rattle.nodes_world.specs.Told.{Told, known}
use Rattle.nodes_world.specs.World.{World, Seat, OfNode, family_at, referred, resource_at, NamedKey}
use Rattle.nodes_world.proofs.KnownLines.{AreAmong, among_back, among_turned, lines_of}
use Rattle.nodes_world.proofs.KnownFamilies.{is_own, same_of_branch, participant_of, all_at}
use Rattle.nodes_world.proofs.KnownSeats.{seats_kept, set_cases}
use Rattle.nodes_world.proofs.SeatKept.{family_kept, is_of_others, resources_kept}
use Rattle.nodes_world.proofs.EffectsTold.{TellsEffects, branch_named, effects_told_on, is_effect}
use Rattle.nodes_world.proofs.EffectsSay.{Says}
use Rattle.nodes_world.proofs.StepEnds.{line_cases, not_top}
use Rattle.nodes_world.proofs.StepFamily.{family_now}
use Rattle.nodes_world.proofs.StepIs.{IsCastOf, StepIs}
use Rattle.nodes_world.proofs.StepSeats as seats
use Rattle.nodes_world.proofs.NumberedWords.{still_numbered}
use Rattle.nodes_world.proofs.NamedVotes.{one_index, who_is}
use Rattle.nodes_world.proofs.RulesKeep.{registered_of}
use Rattle.resource_votes.specs.Ballots.{participants}
use Rattle.resource_votes.specs.declared.registration.Registration.{Registration}

no_effect : (line : Line) → is_of_others line ≡ true → is_effect line ≡ false
no_effect (lines.Reg resource transaction end) is = refl
no_effect (lines.Sub transaction above) is = refl
no_effect (lines.Send message word resource) is = refl
no_effect (lines.State resource state) is = refl
no_effect _ is = absurd cc

module _ (w : World) (place : ℕ) (s : Seat) (n : Node) (f g : Family) (there : slice_get w.seats place ≡ Some s) (up : s.server ≡ OfNode (Some n))
    (slotted : family_in n.families f.key.slot ≡ Some f) (at_place : place_of f.key ≡ place) (told : List Told) (k : Known w told) (key : ObjectKey)
    (found : family_at w key ≡ Some f) (c : Cast) (cast : IsCastOf f c) (some : List Effect) (words : List Outward) (is : StepIs w f g some words)
    (entries : List Entry) (done : List Finished) where
  abbrev pub v : World
  v = seats.v w place s n f g there up is.key slotted at_place

  abbrev pub more : List Told
  more = told ++ (all_effect_lines w c some ++ all_finished_lines entries done)

  abbrev early : Bool
  early = is_before f.stage

  own : c.key ≡ f.key
  own = cast.key

  pub tells : TellsEffects told more
  tells = effects_told_on w told k key f found c own early some is.turn entries done

  abbrev old : FamilyIsKnown w (lines_of told) f
  old = k.families key f found

  pub on : AreAmong (lines_of told) (lines_of more)
  on line x = among_turned _ _ (tells.on line (among_back _ _ x))

  pub back : (line : Line) → is_effect line ≡ false → Stands line (lines_of more) → Stands line (lines_of told)
  back line other x = among_turned _ _ (tells.back line other (among_back _ _ x))

  pub cases : (line : Line) → Stands line (known more) → Stands line (known told) ⊎ ((e : Effect) × Contains some e × Says w c e (tell.Known line))
  cases line x = line_cases w told k key f found c own early some is.turn entries done line x

  pub refers : (to : List ℕ) → referred v to ≡ referred w to
  refers to = seats.refers_now w place s n f g there up is.key slotted at_place to

  pub resources : (of : ObjectKey) → resource_at v of ≡ resource_at w of
  resources of = seats.resources_now w place s n f g there up is.key slotted at_place of

  -- the row of the top-level transaction stays live
  pub top_live : IsTrue (is_live_branch (rows_told some f.rows) 0)
  top_live = subst (λ (rs : List Row). IsTrue (is_live_branch rs 0)) is.rows is.sound.lists.top

  -- ---- names

  made_on : (name : List ℕ) (of : ObjectKey) → IsMade w (lines_of told) name of → IsMade v (lines_of more) name of
  made_on name of (named, inl (node, x)) = (named, inl (node, on _ x))
  made_on name of (named, inr (above, x)) = (named, inr (above, on _ x))

  ended_now : (t : List ℕ) (how : Bool) → Stands (lines.SubDone t how) (lines_of more) → (of : ObjectKey) × IsTransaction w t of × (0 < of.index)
  ended_now t how x = elim (cases (lines.SubDone t how) (among_back _ _ x)) [
    | inl was ↦ k.names.ended t how (among_turned _ _ was)
    | inr (e, among, (b, same, named)) ↦
        let branch = branch_named w told k key f found c own b t named in
        let below = not_top w told k key f found c own early some is.turn entries done top_live b how (subst (λ (y : Effect). Contains some y) same among) in
        (branch.0, branch.1, subst (λ (y : ℕ). 0 < y) (sym branch.3) below)
  ]

  pub names_now : NamesAreTold v (lines_of more)
  names_now = record {
    keys = k.names.keys;
    once = k.names.once;
    transactions = λ name of named. made_on name of (k.names.transactions name of named);
    kinds = k.names.kinds;
    services = k.names.services;
    tops = λ name node x. k.names.tops name node (back _ refl x);
    subs = λ name above x. k.names.subs name above (back _ refl x);
    ended = ended_now;
    one_parent = λ name above other x y. k.names.one_parent name above other (back _ refl x) (back _ refl y);
    resources = λ name of named. let was = k.names.resources name of named in (was.0, resources of ∙ was.1, was.2);
    registered = λ name t x. k.names.registered name t (x.0, back _ refl x.1);
    one_transaction = λ name t other x y. k.names.one_transaction name t other (x.0, back _ refl x.1) (y.0, back _ refl y.1);
    no_import = λ name above node x. k.names.no_import name above node (back _ refl x);
    objects = k.names.objects;
    shown = λ name state x. k.names.shown name state (back _ refl x);
  }

  pub seats_now : SeatsAreNamed v (lines_of more)
  seats_now = seats_kept w place s (seats.left w place s n f g there up is.key slotted at_place) there refl (lines_of told) (lines_of more) k.seats
      (λ name life x. k.seats.up name life (back _ refl x))

  -- ---- words and votes

  given_now : (p : ℕ) (x : Seat) (m : Node) (o : Outward) → slice_get v.seats p ≡ Some x → x.server ≡ OfNode (Some m) → HasSent v p o
      → o.number.life ≡ life m → (o.number.slot ≡ retold_slot) ⊎ (o.number.generation ≤ m.generation)
  given_now p x m o at is_up sent same = elim (set_cases w.seats place s (seats.left w place s n f g there up is.key slotted at_place) p x there at) [
    | inl here ↦
        let node = server_of (ap (λ (y : Seat). y.server) here.1 ∙ is_up) in
        subst (λ (y : Node). (o.number.slot ≡ retold_slot) ⊎ (o.number.generation ≤ y.generation)) node
        (k.words.given place s n o there up (subst (λ (y : ℕ). HasSent w y o) here.0 sent) (same ∙ ap life (sym node)))
    | inr was ↦ k.words.given p x m o was is_up sent same
  ]
    where
      server_of : {a b : Node} → OfNode (Some a) ≡ OfNode (Some b) → a ≡ b
      server_of e = cc

  serials_now : (p : ℕ) (o : Outward) (h : Family) (of : ObjectKey) → HasSent v p o → family_at v of ≡ Some h → o.number.life ≡ h.key.life
      → o.number.slot ≡ h.key.slot → o.number.generation ≡ h.key.generation → place_of h.key ≡ p → IsNumberedBy h o
  serials_now p o h of sent at life_is slot_is generation_is place_is = elim (seats.families_now w place s n f g there up is.key slotted at_place of h at) [
    | inl this ↦
        let same : h.key ≡ f.key = ap (λ (x : Family). x.key) this.0 ∙ is.key in
        let was = k.words.serials p o f key sent found (life_is ∙ ap (λ (x : ObjectKey). x.life) same) (slot_is ∙ ap (λ (x : ObjectKey). x.slot) same)
        (generation_is ∙ ap (λ (x : ObjectKey). x.generation) same) (sym (ap place_of same) ∙ place_is) in
        let more_words = is.serial in
        subst (λ (x : Family). IsNumberedBy x o) (sym this.0) (still_numbered f g words o is.asks is.numbered (omega (arith, more_words)) was)
    | inr that ↦ k.words.serials p o h of sent that.0 life_is slot_is generation_is place_is
  ]

  pub words_now : WordsAreTold v (lines_of more)
  words_now = record {
    named = λ p o sent. ap is_some (refers o.to) ∙ k.words.named p o sent;
    once = record { one_object = k.words.once.one_object; one_word = k.words.once.one_word };
    told = λ nth p o phase r word phased leads. on _ (k.words.told nth p o phase r word phased (sym (refers o.to) ∙ leads));
    sent = λ number phase name x.
        let was = k.words.sent number phase name (back _ refl x) in
        (was.0, was.1, was.2, was.3, was.4, was.5, was.6, refers was.2.to ∙ was.7, was.8);
    replied = k.words.replied;
    asked = k.words.asked;
    voters = k.words.voters;
    lives = λ p o rs sent held. k.words.lives p o rs sent (sym (seats.records_now w place s n f g there up is.key slotted at_place p) ∙ held);
    given = given_now;
    told_again = λ p o rs sent again held. k.words.told_again p o rs sent again (sym (seats.records_now w place s n f g there up is.key slotted at_place p) ∙ held);
    serials = serials_now;
  }

  given_on : (name : List ℕ) (vote : Vote) → HasGiven w name vote → HasGiven v name vote
  given_on name vote given = record {
    request = given.request;
    from = given.from;
    asked = given.asked;
    sent = given.sent;
    prepare = given.prepare;
    resource = given.resource;
    object = refers given.asked.to ∙ given.object;
    same_name = given.same_name;
    reply = given.reply;
    answer = given.answer;
    answered = given.answered;
    says = given.says;
  }

  -- a participant is registered
  participant_registered : (r : Registration) → Contains (participants 0 f.ballots) r → Contains f.ballots.registrations r
  participant_registered r among = all_at (Contains f.ballots.registrations) (participants 0 f.ballots) r (registered_of f 0) among

  pub votes_given : VotesWereGiven v more
  votes_given name vote x = elim (cases (lines.Voted name vote) x) [
    | inl was ↦ given_on name vote (k.votes name vote was)
    | inr (e, among, (number, same, named)) ↦
        let who = who_is w told k key f found c cast number name named in
        let heard = is.heard number vote (subst (λ (y : Effect). Contains some y) same among) in
        let this = one_index w told k key f found c cast who.r heard.r who.there (participant_registered heard.r heard.there) (who.index ∙ sym heard.index) in
        subst (λ (y : List ℕ). HasGiven v y vote) who.named
        (given_on who.object.name vote (heard.given who.object (ap (λ (y : Registration). referred w y.to) (sym this) ∙ who.leads)))
  ]

  -- ---- resources

  back_others : (line : Line) → is_of_others line ≡ true → Stands line (lines_of more) → Stands line (lines_of told)
  back_others line other x = back line (no_effect line other) x

  pub resources_now : ResourcesAreKnown v (lines_of more)
  resources_now = resources_kept w place (seats.left w place s n f g there up is.key slotted at_place) told more refers resources on back_others k.resources

  -- ---- families

  -- another family, whose lines these aren't
  module _ (h : Family) (of : ObjectKey) (at : family_at w of ≡ Some h) (other : IsTrue (is_of h.key f) → ⊥) where
    theirs : FamilyIsKnown w (lines_of told) h
    theirs = k.families of h at

    not_both : (t : List ℕ) (b d : ℕ) → IsBranch w h t b → IsBranch w f t d → ⊥
    not_both t b d (own_key, named, of_h, first) (same_key, also, of_f, second) =
        let one : same_key ≡ own_key = inner (sym also ∙ named) in
        let same : f ≡ h = same_of_branch w key of own_key f h found at (subst (λ (x : ObjectKey). IsTrue (is_of x f)) one of_f) of_h in
        other (subst (λ (x : Family). IsTrue (is_of x.key f)) same (is_own f))
      where
        inner : {x y : ObjectKey} → Some (things.Transaction x) ≡ Some (things.Transaction y) → x ≡ y
        inner e = cc

    own_top : IsBranch w h theirs.name 0
    own_top = (h.key, theirs.of_name, is_own h, theirs.top)

    end_was : (t : List ℕ) (b : ℕ) (how : Bool) → IsBranch w h t b → Stands (lines.SubDone t how) (lines_of more) → Stands (lines.SubDone t how) (lines_of told)
    end_was t b how branch x = elim (cases (lines.SubDone t how) (among_back _ _ x)) [
      | inl was ↦ among_turned _ _ was
      | inr (e, among, (d, same, named)) ↦ absurd (not_both t b d branch (branch_named w told k key f found c own d t named))
    ]

    -- who votes in this family isn't registered with that one
    vote_was : (name : List ℕ) (vote : Vote) (r : Registration) (object : NamedKey) → Contains h.ballots.registrations r → referred w r.to ≡ Some object
        → object.name ≡ name → Stands (lines.Voted name vote) (lines_of more) → Stands (lines.Voted name vote) (lines_of told)
    vote_was name vote r object registered leads is_name x = elim (cases (lines.Voted name vote) (among_back _ _ x)) [
      | inl was ↦ among_turned _ _ was
      | inr (e, among, (number, same, named)) ↦
          let who = who_is w told k key f found c cast number name named in
          let heard = is.heard number vote (subst (λ (y : Effect). Contains some y) same among) in
          let this = one_index w told k key f found c cast heard.r who.r (participant_registered heard.r heard.there) who.there (heard.index ∙ sym who.index) in
          let at = participant_of w told k key f found heard.r who.object heard.there (ap (λ (y : Registration). referred w y.to) this ∙ who.leads) in
          let same_object = subst (λ (y : List ℕ). IsRegistered y at.0 (lines_of told)) (who.named ∙ sym is_name) at.2 in
          absurd (not_both at.0 r.branch heard.r.branch (theirs.own r object at.0 registered leads same_object) at.1)
    ]

    outcome_was : (basis : Ground) → Stands (lines.Decide theirs.name (outcomes.Commit basis)) (lines_of more)
        → Stands (lines.Decide theirs.name (outcomes.Commit basis)) (lines_of told)
    outcome_was basis x = elim (cases (lines.Decide theirs.name (outcomes.Commit basis)) (among_back _ _ x)) [
      | inl was ↦ among_turned _ _ was
      | inr (e, among, (fixed, same, named, said)) ↦ absurd (not_both theirs.name 0 0 own_top (branch_named w told k key f found c own 0 theirs.name named))
    ]

    outcome_stays : (o : Option Outcome) → OutcomeIsTold o theirs.name (lines_of told) → OutcomeIsTold o theirs.name (lines_of more)
    outcome_stays None was = λ x. was (outcome_was Record x)
    outcome_stays (Some (outcomes.Commit basis)) was = on _ was
    outcome_stays (Some (outcomes.Rollback reason)) was = λ x. was (outcome_was Record x)
    outcome_stays (Some outcomes.Unknown) was = λ x. was (outcome_was Record x)

    other_family : FamilyIsKnown v (lines_of more) h
    other_family =
        family_kept w place (seats.left w place s n f g there up is.key slotted at_place) told more refers resources on back_others h h.completion theirs
        (record {
          sound = theirs.sound;
          settled = theirs.settled;
          ends = end_was;
          votes = λ number vote r object among numbered leads.
              let was = theirs.votes number vote r object among numbered leads in
              (λ e. on _ (was.0 e), λ x. was.1 (vote_was object.name vote r object among leads refl x));
          outcome = outcome_stays (stages.outcome h.completion) theirs.outcome;
          recorded =
              let same = seats.has_now w place s n f g there up is.key slotted at_place (place_of h.key) (is_decision_of h.key) in
              (λ has. theirs.recorded.0 (sym same ∙ has), λ e. same ∙ theirs.recorded.1 e);
        })

  pub families_now : ((e : Entry) (r : RetryKey) → Contains g.entries e → e.event.key ≡ Some r → HasMessage w r) → FamiliesAreKnown v (lines_of more)
  families_now came of h at = elim (seats.families_now w place s n f g there up is.key slotted at_place of h at) [
    | inl this ↦
        subst (FamilyIsKnown v (lines_of more)) (sym this.0)
        (family_now w v told k key f g found c cast some words is entries done refl refers (seats.has_now w place s n f g there up is.key slotted at_place) came)
    | inr that ↦ other_family h of that.0 that.1
  ]
