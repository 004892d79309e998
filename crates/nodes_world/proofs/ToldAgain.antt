-- What a decision of an earlier life owes goes out at each tick of its node; and a restart leaves it owed.
use Rattle.std.proofs.Common.{◌≡◌, ◌⊎◌, inl, inr, ℕ, ◌+◌, ◌<◌, ◌≤◌, ◌==◌, min, Bool, true, false, is_some, IsTrue, List, [], ◌∷◌, ◌++◌, length, map, slice_get, Contains, Option, Some, None, refl, sym, ap, subst, ◌∙◌, arith}
use Rattle.std.specs.Prelude.{◌&&◌}
use Rattle.std.specs.Option.{option_and_then, option_map_or}
use Rattle.std.proofs.lemmas.Bool.Decides.{nat_tests}
use Rattle.std.proofs.lemmas.List.Elements.{Contains-append_cases, Contains-append_right}
use Rattle.std.proofs.lemmas.List.Folds.{Any-from_list_any}
use Rattle.ots_outside.specs.Disk.{DiskState}
use Rattle.ior_refs.specs.declared.key.ObjectKey.{ObjectKey}
use Rattle.ots_model.specs.declared.completion.Word.TheVariants as phase_words
use Rattle.ots_model.specs.declared.line.Line.TheVariants as lines
use Rattle.ots_model.specs.declared.service.RetryKey.{RetryKey}
use Rattle.ots_model.specs.declared.tree.Outward.{Outward}
use Rattle.ots_world.specs.declared.script.ScriptEvent.{ScriptEvent}
use Rattle.ots_world.specs.declared.script.ScriptEvent.TheVariants as script
use Rattle.decision_journal.specs.Growing.{JournalsGrow}
use Rattle.decision_journal.specs.Journal.{Found, first_gate, found_in}
use Rattle.decision_journal.specs.Loading as loading
use Rattle.decision_journal.specs.declared.journal.Standing.{Standing}
use Rattle.decision_journal.specs.declared.record.JournalRecord.{JournalRecord}
use Rattle.decision_journal.specs.declared.record.JournalRecord.TheVariants.{Life, Decision}
use Rattle.decision_journal.specs.declared.record.Registration.{Registration}
use Rattle.recovery_coord.specs.Laws.{registrations_of}
use Rattle.recovery_coord.specs.Telling.{number_of}
use Rattle.recovery_coord.specs.declared.held.Due.TheVariants as due
use Rattle.recovery_coord.specs.declared.held.Held.{Held}
use Rattle.recovery_coord.specs.declared.held.Party.{Party}
use Rattle.coordinator.specs.Limits.{last_moment}
use Rattle.coordinator.specs.Node.{Node, in_next_life, life, load}
use Rattle.coordinator.specs.NodeTick as node_tick
use Rattle.coordinator.specs.NodeTick.{Happening, Ticked}
use Rattle.family_laws.specs.SoundNode.{HasFamilyOf, IsDecisionOf, IsSoundNode, is_family_decision}
use Rattle.recovery_coord.specs.Held.{is_held}
use Rattle.nodes_world.specs.declared.deed.Deed.{Deed}
use Rattle.nodes_world.specs.declared.deed.Deed.TheVariants as deeds
use Rattle.nodes_world.specs.declared.deed.Manner.{Manner}
use Rattle.nodes_world.specs.declared.deed.Manner.TheVariants as manners
use Rattle.nodes_world.specs.declared.message.Content.TheVariants as contents
use Rattle.nodes_world.specs.declared.message.Message.{Message}
use Rattle.nodes_world.specs.Agreement.{GivesName, GoesOnFrom, IsWord, Reaches, further, recorded_key, records_at}
use Rattle.nodes_world.specs.AgreementInside.{IsHeldAs, Known}
use Rattle.nodes_world.specs.AgreementSteps.{StepsStayKnown}
use Rattle.nodes_world.specs.Happenings.{Done, new_message, nothing, requests, requests_all}
use Rattle.nodes_world.specs.Journals.{records_on}
use Rattle.nodes_world.specs.Lives.{loads, restarts, ticks, ticks_seat, ticks_to}
use Rattle.nodes_world.specs.Nodes.{happens, happens_all, ticks_node}
use Rattle.nodes_world.specs.Objects.{place_of, service_at}
use Rattle.nodes_world.specs.Resolve.{begins_named, creates_named, end_named, if_free, is_down_node, may_register, node_named, only_if, registers_named, registers_with, resolve, transaction_named}
use Rattle.nodes_world.specs.StandingDecisions.{RestartsTellAgain}
use Rattle.nodes_world.specs.Step.{carried_out}
use Rattle.nodes_world.specs.ToldAgain.{ComesUpOwing, HasAnsweredCommit, HeldWaitOrAnswered, Owes, ReachedTellAgain, TellsCommit}
use Rattle.nodes_world.specs.Told.{Told, known}
use Rattle.nodes_world.specs.World.{World, NamedKey, OfNode, Seat, Server, is_free, node_at, node_in, on_seat, referred, with_clock, with_seat, with_server}
use Rattle.nodes_world.proofs.Deeds.{NodeIsUp, down, may_be_done, node_is_up}
use Rattle.nodes_world.proofs.Going.{get_last, get_set, on_seat_twice}
use Rattle.nodes_world.proofs.HeldLines.{placed_once}
use Rattle.nodes_world.proofs.KnownFrames.{push_kept}
use Rattle.nodes_world.proofs.KnownLines.{among_back}
use Rattle.nodes_world.proofs.LeftParties.{follows, held_records}
use Rattle.nodes_world.proofs.LoadedNodes.{one_of, standing_placed, standing_record}
use Rattle.nodes_world.proofs.Reaching.{known_reached}
use Rattle.nodes_world.proofs.RetoldTicks.{commit_word, tick_tells}

-- ---- a word goes out behind all that was sent

record GoesOut (w v : World) (place : ℕ) (o : Outward) : Type 0 where
  nth : ℕ
  new : length w.messages ≤ nth
  sent : IsWord v nth place o

abbrev IsLonger : World → World → Type 0
IsLonger w v = length w.messages ≤ length v.messages

behind_longer : (w v u : World) (place : ℕ) (o : Outward) → IsLonger w v → GoesOut v u place o → GoesOut w u place o
behind_longer w v u place o more is = let new = is.new in record { nth = is.nth; new = omega (arith, more, new); sent = is.sent }

one_longer : (xs : List Message) (m : Message) → length xs ≤ length (xs ++ m ∷ [])
one_longer [] m = omega arith
one_longer (x ∷ xs) m = let rest = one_longer xs m in omega (arith, rest)

request_longer : (place : ℕ) (o : Outward) (v : World) → IsLonger v (requests place o v).world
unfolding requests
request_longer place o v = one_longer v.messages (new_message (contents.Request place o))

requests_longer : (place : ℕ) (some : List Outward) (v : World) → IsLonger v (requests_all place some v).world
requests_longer place [] v = omega arith
requests_longer place (o ∷ some) v =
    let first = request_longer place o v in
    let rest = requests_longer place some (requests place o v).world in
    omega (arith, first, rest)

happens_longer : (place : ℕ) (later : Node) (some : List Happening) (v : World) → IsLonger v (happens_all place later some v).world
happens_longer place later [] v = omega arith
happens_longer place later (h ∷ some) v =
    let first = requests_longer place h.words v in
    let rest = happens_longer place later some (happens place later h v).world in
    omega (arith, first, rest)

seat_longer : (place : ℕ) (change : Seat → Seat) (v : World) → IsLonger v (on_seat place change v)
seat_longer place change v = by (slice_get v.seats place)
  where
    by : (o : Option Seat) → IsLonger v (elim o as (λ _. World) [ Some s ↦ with_seat place (change s) v | None ↦ v ])
    by (Some s) = omega arith
    by None = omega arith

request_keeps : (place : ℕ) (o : Outward) (v : World) (nth at : ℕ) (x : Outward) → IsWord v nth at x → IsWord (requests place o v).world nth at x
unfolding requests
request_keeps place o v nth at x is = (is.0, push_kept v.messages nth (new_message (contents.Request place o)) is.0 is.1, is.2)

requests_keep : (place : ℕ) (some : List Outward) (v : World) (nth at : ℕ) (x : Outward) → IsWord v nth at x
    → IsWord (requests_all place some v).world nth at x
requests_keep place [] v nth at x is = is
requests_keep place (o ∷ some) v nth at x is = requests_keep place some (requests place o v).world nth at x (request_keeps place o v nth at x is)

request_sent : (place : ℕ) (o : Outward) (v : World) → IsWord (requests place o v).world (length v.messages) place o
unfolding requests
request_sent place o v = (new_message (contents.Request place o), get_last v.messages (new_message (contents.Request place o)), refl)

requests_go_out : (place : ℕ) (some : List Outward) (v : World) (o : Outward) → Contains some o → GoesOut v (requests_all place some v).world place o
requests_go_out place [] v o (i, less, is) = absurd (omega (arith, less))
requests_go_out place (x ∷ some) v o c = elim (Contains-append_cases (x ∷ []) some o c) [
  | inl first ↦
      let sent = subst (IsWord (requests place x v).world (length v.messages) place) (one_of x o first) (request_sent place x v) in
      record {
        nth = length v.messages;
        new = omega arith;
        sent = requests_keep place some (requests place x v).world (length v.messages) place o sent;
      }
  | inr later ↦
      behind_longer v (requests place x v).world _ place o (request_longer place x v) (requests_go_out place some (requests place x v).world o later)
]

-- ---- at a tick

node_goes_out : (w : World) (place now : ℕ) (n : Node) (o : Outward) → Contains (node_tick.ticks now n).words o
    → GoesOut w (ticks_node place now n w).world place o
unfolding ticks_node
node_goes_out w place now n o among =
    let t : Ticked = node_tick.ticks now n in
    let seated = with_server place (OfNode (Some t.node)) w in
    let told = (happens_all place t.node t.happened seated).world in
    behind_longer w seated _ place o (seat_longer place (λ (s : Seat). record s { server = OfNode (Some t.node) }) w)
    (behind_longer seated told _ place o (happens_longer place t.node t.happened seated) (requests_go_out place t.words told o among))

tick_goes_out : (w : World) (place seconds : ℕ) (n : Node) → node_at w place ≡ Some n → (o : Outward)
    → ((now : ℕ) → Contains (node_tick.ticks now n).words o) → GoesOut w (carried_out (deeds.Tick place seconds) w).world place o
unfolding carried_out ticks
tick_goes_out w place seconds n up o among =
    subst (λ (x : Option Seat). GoesOut w (elim x as (λ _. Done) [ Some s ↦ ticks_seat place seconds s w | None ↦ nothing w ]).world place o) (sym at.there)
    (subst (λ (server : Server). GoesOut w (ticks_to place now (node_in server) w).world place o) (sym at.up)
    (behind_longer w (with_clock place now w) _ place o (seat_longer place (λ (s : Seat). record s { clock = now }) w)
    (node_goes_out (with_clock place now w) place now n o (among now))))
  where
    at : NodeIsUp w place n
    at = node_is_up w place n up

    now : ℕ
    now = min (at.seat.clock + seconds) last_moment

-- ---- who waits for it

-- a registration of a record is one of those to whom it is held
party_for : (ps : List Party) (regs : List Registration) (r : Registration) → map (λ (x : Party). x.index) ps ≡ map (λ (x : Registration). x.index) regs
    → map (λ (x : Party). x.to) ps ≡ map (λ (x : Registration). x.reference) regs → Contains regs r
    → (p : Party) × Contains ps p × (p.index ≡ r.index) × (p.to ≡ r.reference)
party_for ps [] r numbers tos (i, less, is) = absurd (omega (arith, less))
party_for [] (q ∷ regs) r numbers tos c = absurd cc
party_for (p ∷ ps) (q ∷ regs) r numbers tos c = elim (Contains-append_cases (q ∷ []) regs r c) [
  | inl first ↦
      let same = one_of q r first in (
        p,
        (0, omega arith, refl),
        head_of _ _ _ _ numbers ∙ ap (λ (x : Registration). x.index) same,
        head_of _ _ _ _ tos ∙ ap (λ (x : Registration). x.reference) same,
      )
  | inr later ↦
      let at = party_for ps regs r (tail_of _ _ _ _ numbers) (tail_of _ _ _ _ tos) later in
      (at.0, Contains-append_right (p ∷ []) ps at.0 at.1, at.2, at.3)
]
  where
    head_of : {A : Type 0} (a b : A) (xs ys : List A) → a ∷ xs ≡ b ∷ ys → a ≡ b
    head_of a b xs ys e = cc

    tail_of : {A : Type 0} (a b : A) (xs ys : List A) → a ∷ xs ≡ b ∷ ys → xs ≡ ys
    tail_of a b xs ys e = cc

-- such a registration of a decision that a node owes
record IsHeldTo (n : Node) (stood : Standing) (r : Registration) : Type 0 where
  held : Held
  among : Contains n.recovered held
  place : held.place ≡ stood.place
  party : Party
  one : Contains held.parties party
  index : party.index ≡ r.index
  to : party.to ≡ r.reference

module _ (w : World) (told : List Told) (k : Known w told) (place : ℕ) (n : Node) (up : node_at w place ≡ Some n) (stood : Standing) (r : Registration)
    (owes : Owes n stood r) where
  sound : IsSoundNode n
  sound = (k.nodes place n up).sound.sound

  -- no family of an earlier life is there
  not_there : HasFamilyOf n.families stood → ⊥
  not_there f =
      let own : IsDecisionOf f.family (Decision owes.of_life owes.slot owes.generation owes.by owes.asked owes.named) =
      subst (IsDecisionOf f.family) owes.decision f.own in
      let decided = own.0 in
      let of_node = (sound.families f.slot f.family f.there).0.of_life in
      let earlier = owes.earlier in
      omega (arith, decided, of_node, earlier)

  is_there : IsTrue (is_held stood.place n.recovered)
  is_there = elim (sound.decisions stood owes.stands (ap is_family_decision owes.decision)) [ inl held ↦ held | inr f ↦ absurd (not_there f) ]

  same_number : (a b : ℕ) → (a == b) ≡ true → a ≡ b
  same_number a b is = grind (arith, nat_tests)

  held_to : IsHeldTo n stood r
  held_to =
      let some = Any-from_list_any (λ (h : Held). h.place == stood.place) n.recovered is_there in
      let at = same_number some.1.place stood.place some.4 in
      let p = by some.1 (some.0, some.2, some.3) at in
      record { held = some.1; among = (some.0, some.2, some.3); place = at; party = p.0; one = p.1; index = p.2; to = p.3 }
    where
      rs : List JournalRecord
      rs = (follows w told k place n up).records

      by : (h : Held) → Contains n.recovered h → h.place ≡ stood.place
          → (p : Party) × Contains h.parties p × (p.index ≡ r.index) × (p.to ≡ r.reference)
      by h among at =
          let old : IsHeldAs w told place rs h = (k.nodes place n up).held rs h (held_records w told k place n up) among in
          let there = standing_placed rs stood (subst (λ (found : Found). Contains found.standing stood) (follows w told k place n up).found owes.stands) in
          let same : old.stood ≡ stood = placed_once first_gate rs old.stood stood old.there there (old.same_place ∙ at) in
          let named = ap (λ (x : Standing). registrations_of x.item) same ∙ ap registrations_of owes.decision in
          party_for h.parties (registrations_of old.stood.item) r old.numbers old.references
          (subst (λ (some : List Registration). Contains some r) (sym named) owes.names)

-- ---- a tick

free_alone : (free : Bool) (deed : Deed) (place seconds : ℕ) → only_if free deed ≡ Some (deeds.Tick place seconds) → deed ≡ deeds.Tick place seconds
free_alone true deed place seconds is = cc
free_alone false deed place seconds is = absurd cc

none_then : {A : Type 0} (make : A → Option Deed) (found : Option A) (deed : Deed) → option_and_then make found ≡ Some deed
    → ((x : A) → make x ≡ Some deed → ⊥) → ⊥
none_then make (Some x) deed is none = none x is
none_then make None deed is none = absurd cc

none_registers : (w : World) (manner : Manner) (transaction end name : List ℕ) (place seconds : ℕ)
    → registers_named w manner transaction end name ≡ Some (deeds.Tick place seconds) → ⊥
unfolding registers_named
none_registers w manner transaction end name place seconds is =
    none_then (λ (key : ObjectKey). option_and_then (registers_with w manner name key) (end_named w end)) (transaction_named w transaction) _ is
    (λ key at. none_then (registers_with w manner name key) (end_named w end) _ at
    (λ of_end there. differs (free_alone (is_free w name && may_register manner w key) (deeds.Register manner key of_end name) place seconds there)))
  where
    differs : {key : ObjectKey} {of_end : ℕ} → deeds.Register manner key of_end name ≡ deeds.Tick place seconds → ⊥
    differs is = cc

-- only a line that gives no name ticks
ticks_name_none : (event : ScriptEvent) (w : World) (place seconds : ℕ) → resolve event w ≡ Some (deeds.Tick place seconds) → GivesName event
unfolding resolve begins_named creates_named
ticks_name_none (script.Node name) w place seconds is = absurd (by (free_alone (is_free w name) (deeds.MakeNode name) place seconds is))
  where
    by : deeds.MakeNode name ≡ deeds.Tick place seconds → ⊥
    by is = cc
ticks_name_none (script.End name) w place seconds is = absurd (by (free_alone (is_free w name) (deeds.MakeEnd name) place seconds is))
  where
    by : deeds.MakeEnd name ≡ deeds.Tick place seconds → ⊥
    by is = cc
ticks_name_none (script.Begin node name timeout) w place seconds is =
    absurd (none_then (λ (at : ℕ). if_free w name (deeds.Begin at name timeout)) (node_named w node) _ is
    (λ at there. by (free_alone (is_free w name) (deeds.Begin at name timeout) place seconds there)))
  where
    by : {at : ℕ} → deeds.Begin at name timeout ≡ deeds.Tick place seconds → ⊥
    by is = cc
ticks_name_none (script.Sub parent name) w place seconds is =
    absurd (none_then (λ (key : ObjectKey). if_free w name (deeds.Create key name)) (transaction_named w parent) _ is
    (λ key there. by (free_alone (is_free w name) (deeds.Create key name) place seconds there)))
  where
    by : {key : ObjectKey} → deeds.Create key name ≡ deeds.Tick place seconds → ⊥
    by is = cc
ticks_name_none (script.Register transaction end name) w place seconds is = absurd (none_registers w manners.Resource transaction end name place seconds is)
ticks_name_none (script.Aware transaction end name) w place seconds is = absurd (none_registers w manners.Aware transaction end name place seconds is)
ticks_name_none (script.Double transaction end name) w place seconds is = absurd (none_registers w manners.Double transaction end name place seconds is)
ticks_name_none _ w place seconds is = tt

module _ (keeps : StepsStayKnown) (waits : HeldWaitOrAnswered) (w : World) (told : List Told) (reached : Reaches w told) (few : GoesOnFrom w) where
  k : Known w told
  k = known_reached keeps w told reached

  module _ (event : ScriptEvent) (place seconds : ℕ) (named : resolve event w ≡ Some (deeds.Tick place seconds)) (n : Node)
      (up : node_at w place ≡ Some n) (stood : Standing) (r : Registration) (owes : Owes n stood r) where
    abbrev d : Done
    d = carried_out (deeds.Tick place seconds) w

    later : Known d.world (told ++ d.lines)
    later = known_reached keeps d.world (told ++ d.lines)
        (further w told event (deeds.Tick place seconds) reached few (ticks_name_none event w place seconds named) named refl)

    at : IsHeldTo n stood r
    at = held_to w told k place n up stood r owes

    abbrev o : Outward
    o = commit_word (life n) at.held.place at.party

    goes_out : at.party.due ≡ due.Commit → GoesOut w d.world place o
    goes_out due = tick_goes_out w place seconds n up o (λ now. tick_tells now n at.held at.party at.among at.one due)

    object_of : (x : Option NamedKey) → IsTrue (is_some x) → (resource : NamedKey) × (x ≡ Some resource)
    object_of (Some resource) so = (resource, refl)
    object_of None so = absurd cc

    tells : GoesOut w d.world place o → TellsCommit w told place n stood r d
    tells out =
        let object = object_of (referred d.world at.party.to) (later.words.named place o (out.nth, out.sent)) in
        record {
          nth = out.nth;
          new = out.new;
          word = o;
          sent = out.sent;
          commit = refl;
          to = at.to;
          number = ap (λ (i : ℕ). number_of (life n) i at.party.index) at.place ∙ ap (number_of (life n) stood.place) at.index;
          receipt = ap (λ (i : ℕ). Some (record { place = i; registration = at.party.index })) at.place
              ∙ ap (λ (i : ℕ). Some (record { place = stood.place; registration = i })) at.index;
          resource = object.0;
          object = subst (λ (to : List ℕ). referred d.world to ≡ Some object.0) at.to object.1;
          line = among_back (known (told ++ d.lines)) _ (later.words.told out.nth place o phase_words.Commit object.0 out.sent refl object.1);
        }

    tick_tells_again : HasAnsweredCommit w r.reference ⊎ TellsCommit w told place n stood r d
    tick_tells_again = elim (waits w told place n at.held at.party reached up at.among at.one) [
      | inl due ↦ inr (tells (goes_out due))
      | inr answered ↦ inl (subst (HasAnsweredCommit w) at.to answered)
    ]

  -- ---- a restart

  module _ (grow : JournalsGrow) (again : RestartsTellAgain) (event : ScriptEvent) (place : ℕ) (named : resolve event w ≡ Some (deeds.Restart place)) where
    module _ (rs : List JournalRecord) (held : records_at w place ≡ Some rs) where
      abbrev n : Node
      n = load (service_at place) rs

      -- a load begins a life, and leaves what stands
      found_then : (found_in (in_next_life rs)).standing ≡ (found_in rs).standing
      found_then = ap (λ (found : Found). found.standing) (grow.added (service_at place) rs (Life ((found_in rs).life + 1)))

      life_then : life n ≡ (found_in rs).life + 1
      life_then = ap (λ (found : Found). found.life) (grow.added (service_at place) rs (Life ((found_in rs).life + 1)))

      owes_all : (stood : Standing) (of_life slot generation : ℕ) (by : Option RetryKey) (asked : Bool) (regs : List Registration) (r : Registration)
          → Contains (found_in rs).standing stood → stood.item ≡ Decision of_life slot generation by asked regs → Contains regs r → Owes n stood r
      owes_all stood of_life slot generation by asked regs r among is one = record {
        of_life = of_life;
        slot = slot;
        generation = generation;
        by = by;
        asked = asked;
        named = regs;
        stands = subst (λ (ss : List Standing). Contains ss stood) (sym found_then) among;
        decision = is;
        earlier = earlier;
        names = one;
      }
        where
          place_is : place_of (recorded_key place of_life slot generation) ≡ place
          place_is = omega arith

          earlier : of_life < life n
          earlier =
              let rests = k.records place of_life slot generation by asked regs rs held (subst (Contains rs) is (standing_record rs stood among)) in
              let past = k.transactions.lives rests.name (recorded_key place of_life slot generation) rs rests.of_name (ap (records_at w) place_is ∙ held) in
              let then = life_then in
              omega (arith, past, then)

      up_in : (s : Seat) → slice_get w.seats place ≡ Some s → node_at (loads place s (Some rs) w).world place ≡ Some n
      unfolding node_at
      up_in s there =
          let disk : DiskState = loading.loaded (service_at place) rs s.disk in
          let up : Seat = record s { disk = disk; stop = None; server = OfNode (Some n) } in
          ap (λ (v : World). option_and_then (λ (x : Seat). node_in x.server) (slice_get v.seats place))
          (on_seat_twice place (λ (x : Seat). record x { disk = disk; stop = None }) (λ (x : Seat). record x { server = OfNode (Some n) }) w s there)
          ∙ ap (option_and_then (λ (x : Seat). node_in x.server)) (get_set w.seats place s up there)

      up_at : (s : Seat) → slice_get w.seats place ≡ Some s → node_at (carried_out (deeds.Restart place) w).world place ≡ Some n
      unfolding carried_out restarts
      up_at s there =
          subst (λ (x : Option Seat). node_at (elim x as (λ _. Done) [ Some s ↦ loads place s (records_on (service_at place) s.disk) w | None ↦ nothing w ]).world place ≡ Some n)
          (sym there)
          (subst (λ (x : Option (List JournalRecord)). node_at (loads place s x w).world place ≡ Some n) (sym (reads s there)) (up_in s there))
        where
          reads : (s : Seat) → slice_get w.seats place ≡ Some s → records_on (service_at place) s.disk ≡ Some rs
          reads s there = ap (λ (x : Option Seat). option_and_then (λ (s : Seat). records_on (service_at place) s.disk) x) (sym there) ∙ held

      comes_up : (s : Seat) → slice_get w.seats place ≡ Some s → ComesUpOwing w place (carried_out (deeds.Restart place) w)
      comes_up s there = record {
        records = rs;
        held = held;
        node = n;
        up = up_at s there;
        owes = owes_all;
        told = again w told event place rs reached named held;
      }

    restart_owes : ComesUpOwing w place (carried_out (deeds.Restart place) w)
    restart_owes = by (slice_get w.seats place) refl (may_be_done event (deeds.Restart place) w named)
      where
        by : (o : Option Seat) → slice_get w.seats place ≡ o → option_map_or (λ (s : Seat). is_down_node s.server) o false ≡ true
            → ComesUpOwing w place (carried_out (deeds.Restart place) w)
        by (Some s) there is =
            let held = k.disks.held place s None there (down s.server is) in
            comes_up held.0 held.2 s there
        by None there is = absurd cc

pub tell_again : StepsStayKnown → HeldWaitOrAnswered → JournalsGrow → RestartsTellAgain → ReachedTellAgain
tell_again keeps waits grow again w told reached few = record {
  restarts = restart_owes keeps waits w told reached few grow again;
  ticks = λ event place seconds n stood r named up owes. tick_tells_again keeps waits w told reached few event place seconds named n up stood r owes;
}
