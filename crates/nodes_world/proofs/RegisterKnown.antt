-- What is known of a world is known once a client has registered a resource, which an end has made.
use Rattle.std.proofs.Common.{◌≡◌, ◌≢◌, inl, inr, ℕ, zero, suc, ◌+◌, ◌<◌, ◌≤◌, ◌==◌, ◌&&◌, Bool, true, false, is_some, IsTrue, if◌then◌else◌, List, [], ◌∷◌, ◌++◌, length, length-append, slice_get, slice_set, append_assoc, append-nil, Contains, Option, Some, None, refl, sym, ap, subst, ◌∙◌, arith}
use Rattle.std.proofs.lemmas.Bool.Decides.{nat_tests}
use Rattle.std.proofs.lemmas.List.Elements.{Contains-append_left}
use Rattle.std.specs.List.{AllByRecursion}
use Rattle.std.specs.Option.{option_and_then}
use Rattle.ior_refs.specs.declared.key.ObjectKey.{ObjectKey}
use Rattle.ior_refs.specs.Laws.{SameOctetsSameKey}
use Rattle.ots_model.specs.Safe.{Stands, IsRegistered, IsSent}
use Rattle.ots_model.specs.declared.completion.CallNumber.{CallNumber}
use Rattle.ots_model.specs.declared.tree.Heard.{Heard}
use Rattle.ots_model.specs.declared.completion.Vote.{Vote}
use Rattle.ots_model.specs.declared.completion.Word.{Word as Phase}
use Rattle.ots_model.specs.declared.line.Line.TheVariants as lines
use Rattle.ots_model.specs.declared.service.RetryKey.{RetryKey}
use Rattle.resource_votes.specs.declared.registration.Registration.{Registration}
use Rattle.coordinator.specs.declared.event.Act.{Act}
use Rattle.coordinator.specs.declared.event.Act.TheVariants as acts
use Rattle.coordinator.specs.declared.event.Event.{Event}
use Rattle.coordinator.specs.declared.node.NodeFault.TheVariants as faults
use Rattle.coordinator.specs.declared.said.Entry.{Entry}
use Rattle.coordinator.specs.declared.said.Said.{Said}
use Rattle.coordinator.specs.declared.said.Said.TheVariants as said
use Rattle.coordinator.specs.Family.{Call, Duty, Family, call_at}
use Rattle.coordinator.specs.History.{has_room, is_later, kept_for}
use Rattle.coordinator.specs.Node.{Node, family_in, family_of, is_of, with_family}
use Rattle.coordinator.specs.NodeCalls.{Applied, RetoldAnswer, answers_recovered, applied_by, applies, by_records, family_for, refuses, replies, steps_to}
use Rattle.coordinator.specs.NodeRecords.{record_of, record_says}
use Rattle.coordinator.specs.Phases.{column, is_open}
use Rattle.coordinator.specs.Step.{Stepped, Wanted, family_step, wanted}
use Rattle.decision_journal.specs.Journal.{Found}
use Rattle.recovery_coord.specs.declared.held.Held.{Held}
use Rattle.family_laws.specs.Sound.{IsSoundFamily}
use Rattle.family_laws.specs.OwnDecisions.{KeepsDecisions, NodesKeepDecisions}
use Rattle.nodes_world.specs.declared.deed.Manner.{Manner}
use Rattle.nodes_world.specs.declared.deed.Manner.TheVariants as manners
use Rattle.nodes_world.specs.declared.message.Content.TheVariants as contents
use Rattle.nodes_world.specs.declared.message.Message.{Message}
use Rattle.nodes_world.specs.declared.thing.Thing.{Thing}
use Rattle.nodes_world.specs.declared.thing.Thing.TheVariants as things
use Rattle.nodes_world.specs.AgreementInside.{Known, HasMessage, IsBranch, edge_at}
use Rattle.nodes_world.specs.AgreementSteps.{StaysKnown}
use Rattle.nodes_world.specs.Clients.{acts_at, answered_with, call_event, called_line, calls, is_registered, registered, registered_if, registered_line, registering, registers_at, registers_object, said_in, said_lines, then_answers}
use Rattle.nodes_world.specs.Ends.{drawn_once, with_end, with_fresh}
use Rattle.nodes_world.specs.Happenings.{Done, ◌▹◌, changes, client_message, naming, nothing}
use Rattle.nodes_world.specs.Journals.{Asked}
use Rattle.nodes_world.specs.Limits.{message_limit, script_client}
use Rattle.nodes_world.specs.Nodes.{Stepping, applied_at, cast_by, no_step, steps, steps_by, steps_node}
use Rattle.nodes_world.specs.Objects.{place_of, reference, resource_key}
use Rattle.nodes_world.specs.Told.{Told, known, operation_of}
use Rattle.nodes_world.specs.World.{World, Seat, OfEnd, OfNode, FlatEnd, NamedKey, end_at, end_in, family_at, next_message, node_in, referred, thing, transaction_name, with_name, with_seat, with_sent, with_server}
use Rattle.nodes_world.proofs.BranchNames.{named_key}
use Rattle.nodes_world.proofs.CallKnown as call
use Rattle.nodes_world.proofs.CallKnown.{answers_nothing, for_key, tidy_of}
use Rattle.nodes_world.proofs.DrawnKnown as drawn
use Rattle.nodes_world.proofs.Going.{get_set, node_up}
use Rattle.nodes_world.proofs.KnownCalling.{called_known, called_one}
use Rattle.nodes_world.proofs.KnownFamilies.{same_parts}
use Rattle.nodes_world.proofs.KnownFrames.{place_within, push_last}
use Rattle.nodes_world.proofs.KnownLines.{lines_of, not_free, referred_named}
use Rattle.nodes_world.proofs.KnownTouch.{set_other}
use Rattle.nodes_world.proofs.RegisteredLists.{has_list}
use Rattle.nodes_world.proofs.RegisterSteps.{Registers, answer_to, is_aware, is_listed, line_is, listed_before, listed_new, listed_then, none_retold, registered_step, registering_event, registering_step, registrations_then, synchronizations_then, was_registered, registering_called, HasPlace, registered_few}
use Rattle.nodes_world.proofs.ResourceNamed as made
use Rattle.nodes_world.proofs.ResourceNamedKnown as named
use Rattle.nodes_world.proofs.ResourceRegistered.{line_of, registered_known}
use Rattle.nodes_world.proofs.RulesKeep.{IsTidy}
use Rattle.nodes_world.proofs.StepIs.{FamilyLaws, keeps_is}
use Rattle.nodes_world.proofs.StepSeats as seats
use Rattle.nodes_world.proofs.StepsKeep.{StepKeeps}
use Rattle.nodes_world.proofs.SubKnown.{answer_stays, not_kept}
use Rattle.nodes_world.proofs.StepsAsk.{called_asks}

inner : {A : Type 0} {x y : A} → Some x ≡ Some y → x ≡ y
inner e = cc

-- ---- two places of a list are written

written_twice : {A : Type 0} (xs : List A) (p t : ℕ) (a b c : A) → t ≢ p
    → slice_set (slice_set (slice_set xs p a) t b) p c ≡ slice_set (slice_set xs p c) t b
written_twice [] p t a b c other = refl
written_twice (x ∷ xs) zero zero a b c other = absurd (other refl)
written_twice (x ∷ xs) zero (suc t) a b c other = refl
written_twice (x ∷ xs) (suc p) zero a b c other = ap (λ ys. b ∷ ys) (twice xs p a c)
  where
    twice : {A : Type 0} (xs : List A) (i : ℕ) (x y : A) → slice_set (slice_set xs i x) i y ≡ slice_set xs i y
    twice [] i x y = refl
    twice (z ∷ xs) zero x y = refl
    twice (z ∷ xs) (suc i) x y = ap (λ ys. z ∷ ys) (twice xs i x y)
written_twice (x ∷ xs) (suc p) (suc t) a b c other = ap (λ ys. x ∷ ys) (written_twice xs p t a b c (λ e. other (ap suc e)))

-- ---- an end changes

end_changes : (p : ℕ) (x : Seat) (e : FlatEnd) (change : FlatEnd → FlatEnd) (w : World) → slice_get w.seats p ≡ Some x → x.server ≡ OfEnd (Some e)
    → with_end p change w ≡ with_seat p (record x { server = OfEnd (Some (change e)) }) w
unfolding end_at
end_changes p x e change w there up =
    ap (λ (o : Option FlatEnd). elim o as (λ _. World) [ Some y ↦ with_server p (OfEnd (Some (change y))) w | None ↦ w ])
    (ap (λ (o : Option Seat). option_and_then (λ (y : Seat). end_in y.server) o) there ∙ ap end_in up)
    ∙ ap (λ (o : Option Seat). elim o as (λ _. World) [ Some y ↦ with_seat p (record y { server = OfEnd (Some (change e)) }) w | None ↦ w ]) there

-- ---- what such a call asks

either_none : (t : Bool) (o : Option Wanted) → o ≡ None → (if t then None else o) ≡ None
either_none true o is = refl
either_none false o is = is

registering_wants : (m : Manner) (to : List ℕ) (f : Family) (by : Option RetryKey) (b now : ℕ) → wanted f (registering_event by m to b now) ≡ None
unfolding wanted
registering_wants manners.Resource to f by b now = either_none (is_some (kept_for f.entries by)) None refl
registering_wants manners.Aware to f by b now = either_none (is_some (kept_for f.entries by)) None refl
registering_wants manners.Double to f by b now = either_none (is_some (kept_for f.entries by)) None refl

none_recorded : (m : Manner) (to : List ℕ) (key : ObjectKey) (by : Option RetryKey) (r : Held) → record_says key by (registering m to) r ≡ None
none_recorded manners.Resource to key by r = refl
none_recorded manners.Aware to key by r = refl
none_recorded manners.Double to key by r = refl

not_object : (m : Manner) → is_registered m said.ObjectNotExist ≡ false
not_object manners.Resource = refl
not_object manners.Aware = refl
not_object manners.Double = refl

not_room : (m : Manner) → is_registered m said.NoResources ≡ false
not_room manners.Resource = refl
not_room manners.Aware = refl
not_room manners.Double = refl

same_five : (a b c d e p q r s t x y z u : ℕ) → a ≡ x → b ≡ y → c ≡ z → d ≡ u → p ≡ x → q ≡ y → r ≡ z → s ≡ u → e ≡ t
    → (a == p && b == q && c == r && d == s && e == t) ≡ true
same_five a b c d e p q r s t x y z u one two three four five six seven eight nine = grind (arith, nat_tests)

still_due : (xs ys : List Registration) (ds : List Duty) → AllByRecursion (λ (d : Duty). Contains xs d.resource) ds
    → AllByRecursion (λ (d : Duty). Contains (xs ++ ys) d.resource) ds
still_due xs ys [] all = tt
still_due xs ys (d ∷ ds) (one, all) = (Contains-append_left xs ys d.resource one, still_due xs ys ds all)

not_answer : (m : Manner) (to : List ℕ) (number : CallNumber) (heard : Heard) → registering m to ≡ acts.Answer number heard → ⊥
not_answer manners.Resource to number heard is = cc
not_answer manners.Aware to number heard is = cc
not_answer manners.Double to number heard is = cc

-- ---- the deed

module _ (laws : FamilyLaws) (nodes : NodesKeepDecisions) (law : SameOctetsSameKey) (w : World) (manner : Manner) (transaction : ObjectKey) (place : ℕ) (name : List ℕ)
    (s : Seat) (e : FlatEnd) (there : slice_get w.seats place ≡ Some s) (up : s.server ≡ OfEnd (Some e)) (free : thing w name ≡ None)
    (few : length w.messages ≤ message_limit) (told : List Told) (k : Known w told) where
  abbrev key : ObjectKey
  key = resource_key manner place (e.drawn + 1)

  abbrev to : List ℕ
  to = reference s.name key

  abbrev act : Act
  act = registering manner to

  abbrev sent : Message
  sent = client_message (contents.Call transaction act)

  abbrev u : World
  u = with_sent sent w

  abbrev message : ℕ
  message = next_message w

  abbrev lines_then : List Told
  lines_then = called_line message (operation_of act) (transaction_name w transaction)

  abbrev later : List Told
  later = told ++ lines_then

  k_sent : Known u later
  k_sent = called_known w told lines_then transaction act few k (λ flag. called_one flag message (operation_of act) (transaction_name w transaction))

  end_up : end_at w place ≡ Some e
  unfolding end_at
  end_up = ap (λ (o : Option Seat). option_and_then (λ (x : Seat). end_in x.server) o) there ∙ ap end_in up

  room : e.drawn + 1 ≤ length u.messages
  room = let low = k.counted.messages place e end_up in let many = length-append w.messages (sent ∷ []) in omega (arith, low, many)

  few_then : length u.messages ≤ message_limit + 1
  few_then = let many = length-append w.messages (sent ∷ []) in omega (arith, few, many)

  -- it has drawn a number
  abbrev d : World
  d = drawn.v u place s e later there up k_sent room

  k_drawn : Known d later
  k_drawn = drawn.drawn_known u place s e later there up k_sent room

  abbrev drawn_seat : Seat
  drawn_seat = drawn.left u place s e later there up k_sent room

  -- and it has made an object, which has its name
  abbrev v : World
  v = made.v law u place name manner s e later there up free k_sent room few_then

  k_named : Known v later
  k_named = named.resource_named law u place name manner s e later there up free k_sent room few_then

  abbrev made_seat : Seat
  made_seat = made.left law u place name manner s e later there up free k_sent room few_then

  unnamed : (x : Thing) (t : List ℕ) → thing w t ≡ Some x → t ≡ name → ⊥
  unnamed x t is same = not_free (thing w name) x (subst (λ (y : List ℕ). thing w y ≡ Some x) same is) free

  unregistered : (t : List ℕ) → IsRegistered name t (lines_of later) → ⊥
  unregistered t registered = let at = k_sent.names.registered name t registered in unnamed (things.Resource at.0) name at.2 refl

  unsent : (phase : Phase) → IsSent phase name (lines_of later) → ⊥
  unsent phase (number, stands) =
      let at = k_sent.words.sent number phase name stands in
      unnamed (things.Resource at.3.key) at.3.name (referred_named u later k_sent at.2.to at.3 at.7) at.8

  unvoted : (vote : Vote) → Stands (lines.Voted name vote) (known later) → ⊥
  unvoted vote stands =
      let at = k_sent.votes name vote stands in
      unnamed (things.Resource at.resource.key) at.resource.name (referred_named u later k_sent at.asked.to at.resource at.object) at.same_name

  unled : (x : ObjectKey) (h : Family) → family_at v x ≡ Some h → (r : Registration) (y : NamedKey) → Contains h.ballots.registrations r
      → referred v r.to ≡ Some y → y.name ≡ name → ⊥
  unled x h at r y among leads is =
      let was = k_sent.families x h (named.family_back law u place name manner s e later there up free k_sent room few_then x h at) in
      let led = made.refers_kept law u place name manner s e later there up free k_sent room few_then r.to y (was.named r among) leads in
      unnamed (things.Resource y.key) y.name (referred_named u later k_sent r.to y led) is

  abbrev retry : RetryKey
  retry = record { client = script_client; number = message }

  -- the call is no repeat
  new_call : (f : Family) → ((x : Entry) (r : RetryKey) → Contains f.entries x → x.event.key ≡ Some r → HasMessage w r) → kept_for f.entries (Some retry) ≡ None
  new_call f came = not_kept f.entries retry (λ x r among is same.
      let at = came x r among is in
      let less = place_within w.messages at.0 at.1 at.2 in
      let number = at.3 in
      omega (arith, less, number, same))

  has_come : (r : RetryKey) → Some retry ≡ Some r → HasMessage u r
  has_come r is = (length w.messages, sent, push_last w.messages sent, sym (ap (λ (x : RetryKey). x.number) (inner is)), few, sym (ap (λ (x : RetryKey). x.client) (inner is)))

  abbrev behind : Said → World → Done
  behind = registered manner key s.name transaction name

  behind_not : (answer : Said) → is_registered manner answer ≡ false → (x : World) → behind answer x ≡ nothing x
  behind_not answer none x = ap (λ (b : Bool). registered_if b manner key s.name transaction name x) none

  -- ---- it comes to a node

  module _ (seat : Seat) (n : Node) (there_d : slice_get d.seats (place_of transaction) ≡ Some seat) (up_n : seat.server ≡ OfNode (Some n)) (now : ℕ) where
    abbrev home : ℕ
    home = place_of transaction

    abbrev ev : Event
    ev = registering_event (Some retry) manner to transaction.index now

    other : home ≢ place
    other same = not_both (ap (λ (x : Seat). x.server) (inner (sym (get_set w.seats place s drawn_seat there) ∙ ap (slice_get d.seats) (sym same) ∙ there_d)) ∙ up_n)
      where
        not_both : OfEnd (Some (drawn_once e)) ≡ OfNode (Some n) → ⊥
        not_both is = cc

    there_w : slice_get w.seats home ≡ Some seat
    there_w = sym (set_other w.seats place home drawn_seat other) ∙ there_d

    there_v : slice_get v.seats home ≡ Some seat
    there_v = set_other w.seats place home made_seat other ∙ there_w

    abbrev done_by : Applied → Done
    done_by a = (applied_at home transaction ev n seat.disk seat.stop a d).done

    abbrev Ends : Applied → Type 0
    Ends a = Known (done_by a ▹ answered_with message behind (Some a.answer)).world
        (later ++ (done_by a ▹ answered_with message behind (Some a.answer)).lines)

    -- nothing was registered
    nothing_more : (a : Applied) → Known (done_by a).world (later ++ (done_by a).lines) → is_registered manner (said_in a.answer) ≡ false → Ends a
    nothing_more a known none =
        let answer : Said = said_in a.answer in
        let x : World = (done_by a).world in
        let told_then = answer_stays x message answer (later ++ (done_by a).lines) known in
        subst (λ (y : Done). Known y.world (later ++ ((done_by a).lines ++ (y.lines ++ said_lines message (is_later answer) answer)))) (sym (behind_not answer none x))
        (subst (Known x) (append_assoc later (done_by a).lines (said_lines message (is_later answer) answer)) told_then)

    -- ---- a family's step

    module _ (f : Family) (of : family_of transaction n ≡ Some f) where
      unwanted : wanted f ev ≡ None
      unwanted = registering_wants manner to f (Some retry) transaction.index now

      found_d : family_at d transaction ≡ Some f
      found_d = call.found d home seat n there_d up_n laws nodes transaction refl ev (none_retold manner to) has_come f unwanted of later k_drawn

      found_v : family_at v transaction ≡ Some f
      found_v = call.found v home seat n there_v up_n laws nodes transaction refl ev (none_retold manner to) has_come f unwanted of later k_named

      -- it registers nothing
      not_made : (IsTidy f → StepKeeps f (family_step f ev None)) → is_registered manner (family_step f ev None).said ≡ false
          → applies transaction ev None n ≡ steps_to n f ev None (family_step f ev None) → Ends (steps_to n f ev None (family_step f ev None))
      not_made keeps none same =
          nothing_more (steps_to n f ev None (family_step f ev None))
          (call.step_stays d home seat n there_d up_n laws nodes transaction refl ev (none_retold manner to) has_come f unwanted of later k_drawn
          (keeps_is laws f ev None (λ number vote among. let heard = laws.votes.told f ev None number vote (k_drawn.families transaction f found_d).sound among in not_answer manner to heard.number _ heard.answer) (k_drawn.families transaction f found_d).sound
          (keeps (tidy_of d later k_drawn transaction f found_d)) (called_asks f ev None (registering_called manner to) (k_drawn.families transaction f found_d).ready)) same) none

      -- it registers it
      module _ (inside : transaction.index < length f.rows) (may : IsTrue (is_open (column f transaction.index))) (left : HasPlace f) (entry : Entry)
          (is : family_step f ev None ≡ registered_step f manner transaction.index to entry)
          (same : applies transaction ev None n ≡ steps_to n f ev None (family_step f ev None)) where
        abbrev step : Stepped
        step = registered_step f manner transaction.index to entry

        abbrev g : Family
        g = step.family

        at_place : place_of f.key ≡ home
        at_place = call.at_place v home seat n there_v up_n laws nodes transaction refl ev (none_retold manner to) has_come f unwanted of later k_named

        slotted : family_in n.families f.key.slot ≡ Some f
        slotted = call.slotted v home seat n there_v up_n laws nodes transaction refl ev (none_retold manner to) has_come f unwanted of later k_named

        own_of : IsTrue (is_of transaction f)
        own_of = call.own_of v home seat n there_v up_n laws nodes transaction refl ev (none_retold manner to) has_come f unwanted of later k_named

        sound_family : IsSoundFamily g
        sound_family = subst (λ (t : Stepped). IsSoundFamily t.family) is (laws.sound.steps f ev None (k_named.families transaction f found_v).sound)

        sound_node : KeepsDecisions (edge_at v home) (with_family g n)
        sound_node = subst (λ (t : Stepped). KeepsDecisions (edge_at v home) (with_family t.family n)) is
            (call.sound_now v home seat n there_v up_n laws nodes transaction refl ev (none_retold manner to) has_come f unwanted of later k_named same)

        entries_came : (x : Entry) (r : RetryKey) → Contains g.entries x → x.event.key ≡ Some r → HasMessage v r
        entries_came x r among by =
            call.entries_came v home seat n there_v up_n laws nodes transaction refl ev (none_retold manner to) has_come f unwanted of later k_named x r
            (subst (λ (t : Stepped). Contains t.family.entries x) (sym is) among) by

        named_d : (t : List ℕ) × IsBranch d f t transaction.index
        named_d = (k_drawn.families transaction f found_d).branches transaction.index inside

        abbrev above : List ℕ
        above = named_d.0

        branch_v : IsBranch v f above transaction.index
        branch_v = let b = named_d.1 in
            (b.0, made.thing_on law u place name manner s e later there up free k_sent room few_then above (things.Transaction b.0) b.1, b.2, b.3)

        own_name : transaction_name d transaction ≡ Some above
        own_name =
            let b = named_d.1 in
            let x = same_parts b.0.service b.0.life b.0.slot b.0.generation f.key.service f.key.life f.key.slot f.key.generation b.2 in
            let y = same_parts transaction.service transaction.life transaction.slot transaction.generation f.key.service f.key.life f.key.slot f.key.generation own_of in
            named_key d later k_drawn above b.0 transaction b.1
            (same_five b.0.service b.0.life b.0.slot b.0.generation b.0.index transaction.service transaction.life transaction.slot transaction.generation transaction.index
            f.key.service f.key.life f.key.slot f.key.generation x.0 x.1 x.2 x.3 y.0 y.1 y.2 y.3 b.3)

        list_there : transaction.index < length f.ballots.lists
        list_there = has_list f transaction.index (k_named.families transaction f found_v).sound inside

        dues_now : (b : ℕ) (c : Call) → call_at g b ≡ Some c → AllByRecursion (λ (x : Duty). Contains g.ballots.registrations x.resource) c.left
        dues_now b c under =
            subst (λ (rs : List Registration). AllByRecursion (λ (x : Duty). Contains rs x.resource) c.left) (sym (registrations_then manner transaction.index to f.ballots))
            (still_due f.ballots.registrations _ c.left ((k_named.families transaction f found_v).dues b c under))

        registered_world : Known (seats.v v home seat n f g there_v up_n refl slotted at_place) (later ++ line_of (is_listed manner) name above s.name ∷ [])
        registered_world =
            registered_known v home seat n f g there_v up_n refl slotted at_place later k_named transaction found_v name key
            (made.given law u place name manner s e later there up free k_sent room few_then) to
            (made.refers_new law u place name manner s e later there up free k_sent room few_then) unregistered unsent unvoted unled
            above transaction.index branch_v may (is_aware manner) (is_listed manner) s.name refl (registrations_then manner transaction.index to f.ballots)
            (synchronizations_then manner transaction.index to f.ballots)
            (listed_then manner transaction.index to f.ballots list_there (k_named.families transaction f found_v).sound.lists.numbers)
            (listed_before manner transaction.index to f.ballots list_there (k_named.families transaction f found_v).sound.lists.numbers)
            (listed_new manner transaction.index to f.ballots list_there (k_named.families transaction f found_v).sound.lists.numbers)
            refl (record { serial = refl; waits = refl; asks = refl; ready = λ ready. ready })
            (registered_few manner transaction.index to f.ballots left (k_named.families transaction f found_v).few) sound_family dues_now (k_named.families transaction f found_v).legs entries_came sound_node

        abbrev a : Applied
        a = steps_to n f ev None step

        abbrev node_left : Seat
        node_left = record seat { server = OfNode (Some (with_family g n)) }

        abbrev x_d : World
        x_d = with_seat home node_left d

        node_now : a.node ≡ with_family g n
        node_now = ap (λ (x : Found). with_family g (record n { found = x })) (call.none_journaled d home seat n there_d up_n (wanted f ev) unwanted n.found)

        world_now : call.put d home seat n there_d up_n a.node ≡ x_d
        world_now = ap (call.put d home seat n there_d up_n) node_now ∙ call.seated d home seat n there_d up_n (with_family g n)

        abbrev answer : Said
        answer = answer_to manner f

        -- the world in which the object has its name
        abbrev final_of : World → World
        final_of x = with_name name (things.Resource key) (with_end (place_of key) (with_fresh key) x)

        final_is : final_of x_d ≡ seats.v v home seat n f g there_v up_n refl slotted at_place
        final_is =
            ap (λ (p : ℕ). with_name name (things.Resource key) (with_end p (with_fresh key) x_d))
            (made.key_place law u place name manner s e later there up free k_sent room few_then)
            ∙ ap (with_name name (things.Resource key)) (end_changes place drawn_seat (drawn_once e) (with_fresh key) x_d
            (set_other d.seats home place node_left (λ same. other (sym same)) ∙ get_set w.seats place s drawn_seat there) refl)
            ∙ ap (λ (xs : List Seat). with_name name (things.Resource key) (record u { seats = xs })) (written_twice w.seats place home drawn_seat node_left made_seat other)

        -- what is told, in the world in which it is
        abbrev told_in : World → List Told → List Told
        told_in x some = (([] ++ (some ++ [])) ++ []) ++ ((naming (registered_line manner name s.name) (transaction_name x transaction)) ++ said_lines message (is_later answer) answer)

        name_there : transaction_name x_d transaction ≡ Some above
        unfolding transaction_name
        name_there = own_name

        told_last : Known (final_of x_d) (later ++ told_in x_d [])
        told_last =
            subst (λ (x : World). Known x (later ++ told_in x_d [])) (sym final_is)
            (let x = seats.v v home seat n f g there_v up_n refl slotted at_place in
            subst (λ (o : Option (List ℕ)). Known x (later ++ ((naming (registered_line manner name s.name) o) ++ said_lines message (is_later answer) answer)))
            (sym name_there)
            (subst (Known x) (append_assoc later (registered_line manner name s.name above ∷ []) (said_lines message (is_later answer) answer))
            (answer_stays x message answer (later ++ registered_line manner name s.name above ∷ [])
            (subst (λ (line : Told). Known x (later ++ line ∷ [])) (line_is manner name above s.name) registered_world))))

        -- so it ends, where it is one that was registered
        abbrev EndsAs : Bool → Type 0
        EndsAs b = Known (registered_if b manner key s.name transaction name (done_by a).world).world
            (later ++ ((done_by a).lines ++ ((registered_if b manner key s.name transaction name (done_by a).world).lines ++ said_lines message (is_later answer) answer)))

        ends_registered : EndsAs true
        ends_registered =
            subst (λ (some : List Told). Known (final_of (call.put d home seat n there_d up_n a.node))
            (later ++ told_in (call.put d home seat n there_d up_n a.node) some)) (sym (call.nothing_told d home seat n there_d up_n (cast_by (family_for transaction ev a.node) ev n)))
            (subst (λ (x : World). Known (final_of x) (later ++ told_in x [])) (sym world_now) told_last)

        made_ends : Ends a
        made_ends = subst EndsAs (sym (was_registered manner f)) ends_registered

        made_so : Ends (steps_to n f ev None (family_step f ev None))
        made_so = subst (λ (t : Stepped). Ends (steps_to n f ev None t)) (sym is) made_ends

      -- it is one or the other
      by_step : Registers f manner transaction.index to (family_step f ev None) → applies transaction ev None n ≡ steps_to n f ev None (family_step f ev None)
          → Ends (steps_to n f ev None (family_step f ev None))
      by_step (inl kept) same = not_made kept.0 kept.1 same
      by_step (inr (inside, may, left, (entry, is))) same = made_so inside may left entry is same

      by_room : (b : Bool) → (b ≡ true → Ends (steps_to n f ev None (family_step f ev None)))
          → Ends (if b then steps_to n f ev None (family_step f ev None) else refuses faults.NoResources n)
      by_room true goes = goes refl
      by_room false goes = nothing_more (refuses faults.NoResources n) (call.refused_stays d home seat n there_d up_n transaction ev faults.NoResources later k_drawn) (not_room manner)

    -- ---- any node

    refused_ends : Ends (refuses faults.ObjectNotExist n)
    refused_ends = nothing_more (refuses faults.ObjectNotExist n) (call.refused_stays d home seat n there_d up_n transaction ev faults.ObjectNotExist later k_drawn) (not_object manner)

    by_family_for : (o : Option Family) → family_for transaction ev n ≡ o → Ends (applied_by o transaction ev None n)
    unfolding answers_recovered applies
    by_family_for (Some f) is =
        let of : family_of transaction n ≡ Some f = sym (for_key transaction ev n (none_retold manner to)) ∙ is in
        by_room f of (has_room f.entries ev)
        (λ room. by_step f of (registering_step f manner to (Some retry) transaction.index now (new_call f (k_drawn_came f of)))
        (ap (λ (o : Option Family). applied_by o transaction ev None n) is
        ∙ ap (λ (b : Bool). if b then steps_to n f ev None (family_step f ev None) else refuses faults.NoResources n) room))
      where
        k_drawn_came : (f : Family) → family_of transaction n ≡ Some f → (x : Entry) (r : RetryKey) → Contains f.entries x → x.event.key ≡ Some r → HasMessage w r
        k_drawn_came f of = (k.families transaction f (call.found w home seat n there_w up_n laws nodes transaction refl (record ev { key = None }) (none_retold manner to)
            (λ r no. absurd cc) f (registering_wants manner to f None transaction.index now) of told k)).came
    by_family_for None is =
        subst (λ (o : Option RetoldAnswer). Ends (by_records o transaction ev None n)) (sym (none_retold manner to)) (by_record_of (record_of transaction n))
      where
        by_record_of : (o : Option Held) → Ends (replies (option_and_then (record_says transaction ev.key ev.act) o) n)
        by_record_of (Some r) = subst (λ (o : Option Said). Ends (replies o n)) (sym (none_recorded manner to transaction ev.key r)) refused_ends
        by_record_of None = refused_ends

    node_ends : Ends (applies transaction ev None n)
    unfolding applies
    node_ends = by_family_for (family_for transaction ev n) refl

    -- what is known once it has come to that node
    abbrev AfterStep : Stepping → Type 0
    AfterStep st = Known (then_answers message behind st).world (later ++ (then_answers message behind st).lines)

    stepped : AfterStep (steps_node (Some n) seat home transaction ev d)
    stepped =
        subst (λ (x : Asked). AfterStep (steps_by x home transaction ev n d))
        (sym (answers_nothing transaction ev n seat.disk seat.stop (none_retold manner to) (λ f. registering_wants manner to f (Some retry) transaction.index now))) node_ends

  -- ---- it is registered, if its node is up

  came_to : Known (acts_at message transaction act behind d).world (later ++ (acts_at message transaction act behind d).lines)
  unfolding acts_at steps
  came_to = by (slice_get d.seats (place_of transaction)) refl
    where
      nothing_came : Known d (later ++ [])
      nothing_came = subst (Known d) (sym (append-nil later)) k_drawn

      at_node : (x : Seat) → slice_get d.seats (place_of transaction) ≡ Some x → (o : Option Node) → node_in x.server ≡ o
          → Known (then_answers message behind (steps_node o x (place_of transaction) transaction (call_event message transaction act x.clock) d)).world
          (later ++ (then_answers message behind (steps_node o x (place_of transaction) transaction (call_event message transaction act x.clock) d)).lines)
      at_node x at (Some n) is = stepped x n at (node_up x.server n is) x.clock
      at_node x at None is = nothing_came

      by : (o : Option Seat) → slice_get d.seats (place_of transaction) ≡ o
          → Known (elim o as (λ _. Done) [
            | Some x ↦ then_answers message behind (elim o as (λ _. Stepping) [
              | Some y ↦ steps_node (node_in y.server) y (place_of transaction) transaction (call_event message transaction act x.clock) d
              | None ↦ no_step d
            ])
            | None ↦ nothing d
          ]).world
          (later ++ (elim o as (λ _. Done) [
            | Some x ↦ then_answers message behind (elim o as (λ _. Stepping) [
              | Some y ↦ steps_node (node_in y.server) y (place_of transaction) transaction (call_event message transaction act x.clock) d
              | None ↦ no_step d
            ])
            | None ↦ nothing d
          ]).lines)
      by (Some x) at = at_node x at (node_in x.server) refl
      by None at = nothing_came

  known_then : Known (changes (with_end place drawn_once w) ▹ registers_object manner key s.name transaction name).world
      (told ++ (changes (with_end place drawn_once w) ▹ registers_object manner key s.name transaction name).lines)
  unfolding calls transaction_name
  known_then =
      subst (λ (x : World). Known (registers_object manner key s.name transaction name x).world (told ++ (registers_object manner key s.name transaction name x).lines))
      (sym (end_changes place s e drawn_once w there up))
      (let acted = acts_at message transaction act behind d in
      subst (Known acted.world) (append_assoc told lines_then acted.lines) came_to)

-- a client has a resource registered
pub known_register : FamilyLaws → NodesKeepDecisions → SameOctetsSameKey → (w : World) (manner : Manner) (transaction : ObjectKey) (place : ℕ) (name : List ℕ) (s : Seat) (e : FlatEnd)
    → slice_get w.seats place ≡ Some s → s.server ≡ OfEnd (Some e) → thing w name ≡ None → length w.messages ≤ message_limit
    → StaysKnown w (registers_at manner transaction place s (Some e) name w)
known_register laws nodes law w manner transaction place name s e there up free few told k =
    known_then laws nodes law w manner transaction place name s e there up free few told k
