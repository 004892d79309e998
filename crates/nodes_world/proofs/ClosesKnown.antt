-- What is known of a world is known once an answer was heard by which nobody votes, and the family's own Done was asked of the journal.
use Rattle.std.proofs.Common.{◌≡◌, inl, inr, ℕ, ◌≤◌, ◌==◌, true, false, IsTrue, List, [], ◌∷◌, ◌++◌, append_assoc, append-nil, slice_get, slice_set, Contains, Option, Some, None, refl, sym, ap, subst, ◌∙◌, arith}
use Rattle.std.specs.Prelude.{Ok}
use Rattle.std.specs.List.{AllByRecursion, filter_map}
use Rattle.std.specs.Option.{option_and_then}
use Rattle.ior_refs.specs.declared.key.ObjectKey.{ObjectKey}
use Rattle.ots_model.specs.declared.completion.Stood.{Stood}
use Rattle.ots_model.specs.declared.completion.Vote.{Vote}
use Rattle.ots_model.specs.declared.service.RetryKey.{RetryKey}
use Rattle.ots_model.specs.Numbered.{Outcome}
use Rattle.ots_model.specs.declared.tree.Outward.{Outward}
use Rattle.ots_outside.specs.Disk.{DiskState, at_first}
use Rattle.decision_journal.specs.Journal.{Found, found_in}
use Rattle.decision_journal.specs.declared.record.JournalRecord.{JournalRecord}
use Rattle.recovery_coord.specs.Limits.{retold_slot}
use Rattle.recovery_coord.specs.declared.held.Held.{Held}
use Rattle.two_phase.specs.Stages as stages
use Rattle.coordinator.specs.declared.effect.Effect.{Effect}
use Rattle.coordinator.specs.declared.effect.Effect.TheVariants as effects
use Rattle.coordinator.specs.declared.event.Event.{Event}
use Rattle.coordinator.specs.declared.said.Entry.{Entry}
use Rattle.coordinator.specs.declared.said.Said.{Said}
use Rattle.coordinator.specs.Family.{Family}
use Rattle.coordinator.specs.Moves.{fixed_now}
use Rattle.coordinator.specs.History.{has_room}
use Rattle.coordinator.specs.Node.{Node, family_in, family_of, is_of, with_family}
use Rattle.coordinator.specs.NodeCalls.{Applied, answer_of, applies, call_wants, family_for, journaled, steps_to}
use Rattle.coordinator.specs.Step.{Stepped, Wanted, Appends, WritesDone, Rereads, family_step, hears, wanted}
use Rattle.family_laws.specs.HeldRecords.{IsOfStanding, WasHeld}
use Rattle.family_laws.specs.LawsOfTelling.{decided_in}
use Rattle.family_laws.specs.OwnDecisions.{HasDecision, KeepsDecisions, NodesKeepDecisions}
use Rattle.nodes_world.specs.Agreement.{records_at}
use Rattle.nodes_world.specs.AgreementInside.{Known, FamilyIsKnown, HasMessage, edge_at, journal_end}
use Rattle.nodes_world.specs.Deliveries.{answer_event, heard_in}
use Rattle.nodes_world.specs.Disks.{Stop}
use Rattle.nodes_world.specs.Happenings as happen
use Rattle.nodes_world.specs.Happenings.{Cast, all_effect_lines, all_finished_lines, branch_name, cast_of, effect_lines, requests_all}
use Rattle.nodes_world.specs.Journals.{Asked, Answers, Stops, asks, records_on}
use Rattle.nodes_world.specs.Laws.{AskingLeaves, CanAsk, CrashLeaves, IsInOrder}
use Rattle.nodes_world.specs.Nodes.{answer_told, applied_at, cast_by, crashes, crashes_seat, entries_of, heard_lines, steps_by, steps_node, stopped_at}
use Rattle.nodes_world.specs.Objects.{family_key, service_at}
use Rattle.nodes_world.specs.Told as tell
use Rattle.nodes_world.specs.Told.{Told}
use Rattle.nodes_world.specs.World.{World, Seat, OfNode, family_at, referred, with_disk, with_seat, with_server}
use Rattle.nodes_world.proofs.CallKnown.{for_key, slot_key, tidy_of}
use Rattle.nodes_world.proofs.ClosesKeep.{IsMark, MarkAlone}
use Rattle.nodes_world.proofs.ClosesShut.{is_standing, own_decision, shut, shut_node, shut_keeps, written_keeps}
use Rattle.nodes_world.proofs.ComesTo.{ComesTo, comes_to}
use Rattle.nodes_world.proofs.CompletesKnown.{JournalLaws, can_close, wanted_more}
use Rattle.nodes_world.proofs.DoneKnown.{GoesOn, added, gone_on_known, is_done_line}
use Rattle.nodes_world.proofs.Edges.{edge_held, edge_is, end_grows}
use Rattle.nodes_world.proofs.EffectsSame.{effects_same}
use Rattle.nodes_world.proofs.Going.{get_set, on_seat_twice, set_twice}
use Rattle.nodes_world.proofs.KnownAlike.{referred_by}
use Rattle.nodes_world.proofs.KnownFamilies.{family_found}
use Rattle.nodes_world.proofs.KnownLines.{lines_of}
use Rattle.nodes_world.proofs.KnownSeats.{seat_names_kept}
use Rattle.nodes_world.proofs.KnownTelling.{IsOne}
use Rattle.nodes_world.proofs.LoadedLines.{all_both}
use Rattle.nodes_world.proofs.RulesKeep.{kept_itself}
use Rattle.nodes_world.proofs.StepIs.{FamilyLaws, StepIs, entry_cases, keeps_is, kept_step, speaks_of}
use Rattle.nodes_world.proofs.StepSeats as seats
use Rattle.nodes_world.proofs.StepWhole.{step_known, words_gone}
use Rattle.nodes_world.proofs.StepsKeep.{StepKeeps}
use Rattle.nodes_world.proofs.StepsAsk.{StepAsks}

-- ---- the line of a mark

mark_line : (w : World) (c : Cast) (e : Effect) → IsMark e → AllByRecursion (IsOne is_done_line) (effect_lines w c e)
unfolding effect_lines
mark_line w c (effects.Marked b) is = by (branch_name w c b)
  where
    by : (x : Option (List ℕ)) → AllByRecursion (IsOne is_done_line) (happen.naming tell.Marked x)
    by (Some name) = (tt, tt)
    by None = tt
mark_line w c (effects.Voted g vote) is = absurd is
mark_line w c (effects.Decided fixed) is = absurd is
mark_line w c (effects.SubtransactionEnded b committed) is = absurd is
mark_line w c effects.Doubted is = absurd is
mark_line w c effects.Done is = absurd is

mark_lines : (w : World) (c : Cast) (some : List Effect) → AllByRecursion IsMark some → AllByRecursion (IsOne is_done_line) (all_effect_lines w c some)
mark_lines w c [] all = tt
mark_lines w c (e ∷ others) (one, all) = all_both (IsOne is_done_line) (effect_lines w c e) (all_effect_lines w c others) (mark_line w c e one) (mark_lines w c others all)

-- ---- an answer to a family

module _ (laws : FamilyLaws) (journals : JournalLaws) (nodes : NodesKeepDecisions) (w : World) (place now : ℕ) (o : Outward) (answer : Said)
    (s : Seat) (n : Node) (f : Family) (done : ℕ) (there : slice_get w.seats place ≡ Some s) (up : s.server ≡ OfNode (Some n))
    (family : o.number.slot == retold_slot ≡ false) (of : family_of (family_key place o.number) n ≡ Some f)
    (room : has_room f.entries (answer_event o answer now) ≡ true) (wants : wanted f (answer_event o answer now) ≡ Some (WritesDone done))
    (told : List Told) (k : Known w told)
    (keeps : (stood : Option Stood) → StepKeeps f (family_step f (answer_event o answer now) stood))
    (goes_asking : (stood : Option Stood) → StepAsks f (family_step f (answer_event o answer now) stood))
    (no_votes : (stood : Option Stood) (number : ℕ) (vote : Vote) → Contains (family_step f (answer_event o answer now) stood).effects (effects.Voted number vote) → ⊥)
    (marks : MarkAlone (hears o.number (heard_in answer) f)) where
  abbrev key : ObjectKey
  key = family_key place o.number

  abbrev e : Event
  e = answer_event o answer now

  abbrev asked : Option Wanted
  asked = Some (WritesDone done)

  comes : ComesTo w place now o answer s n f (WritesDone done)
  comes = comes_to w place now o answer s n f (WritesDone done) there up family of room wants told k

  abbrev rs : List JournalRecord
  rs = comes.rs

  -- its decision stands, and isn't told again
  decision : HasDecision n f done
  decision = nodes.closes (edge_at w place) f.key.slot done f e n comes.sound comes.slotted wants

  can : CanAsk asked (found_in rs)
  can = can_close place rs s.disk comes.order decision.stood (subst (λ (x : Found). Contains x.standing decision.stood) comes.found decision.there)
      (own_decision f decision.stood.item decision.own) done decision.at

  -- ---- the family remembers that it asked

  known_f : FamilyIsKnown w (lines_of told) f
  known_f = k.families key f comes.there

  asks_is : StepIs w f (shut f) [] []
  asks_is = record {
    key = refl;
    sound = known_f.sound;
    tidy = tidy_of w told k key f comes.there;
    turn = tt;
    rows = refl;
    registrations = refl;
    on = λ r listed. listed;
    back = λ r listed. listed;
    kept = kept_step f.completion f.completion [] (kept_itself f.completion);
    speaks = speaks_of laws.completions f known_f.sound;
    heard = λ number vote among. let l = among.1 in absurd (omega (arith, l));
    outcomes = nothing_new (stages.outcome f.completion);
    stays = λ fixed is. is;
    serial = omega arith;
    numbered = tt;
    rest = tt;
    leads = tt;
    ready = known_f.ready;
    asks = λ number notice waits asking. inl (waits, asking);
  }
    where
      nothing_new : (o : Option Outcome) → [] ≡ filter_map decided_in (fixed_now o o)
      nothing_new None = refl
      nothing_new (Some fixed) = refl

  -- the node in which it does
  abbrev n1 : Node
  n1 = shut_node n f comes.slotted (edge_at w place) comes.sound

  abbrev s1 : Seat
  s1 = record s { server = OfNode (Some n1) }

  abbrev w1 : World
  w1 = with_seat place s1 w

  known_1 : Known w1 told
  known_1 = subst (Known w1) (append-nil told)
      (step_known w place s n f (shut f) there up comes.slotted comes.at_place told k key comes.there (cast_of f) (record { key = refl; registrations = refl }) [] [] asks_is [] [] (shut_keeps n f comes.slotted (edge_at w place) comes.sound) known_f.came)

  there_1 : slice_get w1.seats place ≡ Some s1
  there_1 = get_set w.seats place s s1 there

  held_1 : records_at w1 place ≡ Some rs
  held_1 = ap (λ (x : Option Seat). option_and_then (λ (y : Seat). records_on (service_at place) y.disk) x) there_1 ∙ comes.reads

  -- ---- it answers

  module _ (stood : Option Stood) (disk : DiskState) (stop : Option Stop)
      (answered_so : asks asked (service_at place) (found_in rs) s.disk s.stop ≡ Answers stood disk stop) where
    abbrev step : Stepped
    step = family_step f e stood

    abbrev g : Family
    g = step.family

    leaves : AskingLeaves (service_at place) rs asked stood disk
    leaves = journals.keep asked (service_at place) rs s.disk s.stop stood disk stop comes.order can answered_so

    more : (x : Option ℕ) × (leaves.more ≡ added x)
    more = wanted_more done leaves.more leaves.asked

    order_then : IsInOrder (service_at place) disk (rs ++ added more.0)
    order_then = subst (λ (x : List JournalRecord). IsInOrder (service_at place) disk (rs ++ x)) more.1 leaves.order

    -- the node with what its journal has then
    abbrev m : Node
    m = record n { found = journaled asked stood n.found }

    found_then : m.found ≡ found_in (rs ++ added more.0)
    found_then = ap (journaled asked stood) comes.found ∙ leaves.found ∙ ap (λ (x : List JournalRecord). found_in (rs ++ x)) more.1

    whole : (h : Held) → Contains n.recovered h → IsOfStanding n.found.standing h
    whole h c = (k.disks.decisions place s n there up).whole h c

    was : (h : Held) → Contains n.recovered h → WasHeld n.recovered h
    was h c = record { before = h; there = c; same_place = refl; numbers = refl; references = refl }

    node_now : (steps_to n f e stood step).node ≡ with_family g m
    node_now = ap (λ (x : Option Wanted). with_family g (record n { found = journaled x stood n.found })) wants

    abbrev edge : ℕ
    edge = journal_end (rs ++ added more.0)

    grows : edge_at w place ≤ edge
    grows = subst (λ (i : ℕ). i ≤ edge) (sym (edge_is w place rs comes.held)) (end_grows rs (added more.0))

    sound_now : KeepsDecisions edge (with_family g m)
    sound_now =
        subst (KeepsDecisions edge) (ap (λ (a : Applied). a.node) (comes.applied stood) ∙ node_now)
        (nodes.called (edge_at w place) edge key e stood n grows (λ item at is so. absurd (not_appended (sym comes.wants ∙ is)))
        (λ x at called is so. absurd (not_read (sym comes.wants ∙ is))) comes.sound)
      where
        not_appended : {item : JournalRecord} → asked ≡ Some (Appends item) → ⊥
        not_appended same = cc

        not_read : asked ≡ Some Rereads → ⊥
        not_read same = cc

    -- the node in which the Done is written, and the family remembers that it asked
    abbrev m1 : Node
    m1 = record n1 { found = journaled asked stood n.found }

    whole_now : (h : Held) → Contains n.recovered h → IsOfStanding m1.found.standing h
    whole_now h c =
        let old = whole h c in
        record {
          stood = old.stood;
          there = is_standing done stood n.found old.stood (λ same. decision.untold h c (sym old.same_place ∙ same)) old.there;
          same_place = old.same_place;
          numbers = old.numbers;
          references = old.references;
        }

    goes : (c : Node) → Some m1 ≡ Some c → GoesOn n1 c rs more.0
    goes c is = subst (λ (x : Node). GoesOn n1 x rs more.0) (some_same is)
        (record {
          service = refl;
          generation = refl;
          families = refl;
          found = found_then;
          sound = written_keeps n f comes.slotted (edge_at w place) comes.sound done stood decision sound_now.sound.order edge grows;
          was = was;
          whole = whole_now;
        })
      where
        some_same : {a b : Node} → Some a ≡ Some b → a ≡ b
        some_same same = cc

    abbrev left : Seat
    left = record s1 { disk = disk; stop = stop; server = OfNode (Some m1) }

    abbrev v : World
    v = with_seat place left w1

    written : Known v (told ++ [])
    written = gone_on_known journals.grow journals.read w1 place s1 n1 told there_1 refl known_1 rs held_1 more.0 disk order_then stop (Some m1) goes [] tt

    known_v : Known v told
    known_v = subst (Known v) (append-nil told) written

    there_v : slice_get v.seats place ≡ Some left
    there_v = get_set w1.seats place s1 left there_1

    records_v : records_at v place ≡ Some (rs ++ added more.0)
    records_v = ap (λ (x : Option Seat). option_and_then (λ (y : Seat). records_on (service_at place) y.disk) x) there_v
        ∙ journals.read (service_at place) disk.reads (rs ++ added more.0) order_then.stands

    slotted_v : family_in m1.families f.key.slot ≡ Some (shut f)
    slotted_v = seats.in_own_slot n f (shut f) refl comes.slotted

    found_v : family_at v key ≡ Some (shut f)
    found_v = family_found v key (shut f) (record {
      seat = left;
      node = m1;
      there = ap (slice_get v.seats) comes.own_place ∙ there_v;
      up = refl;
      slotted = ap (family_in m1.families) comes.same_slot ∙ slotted_v;
      own = comes.slot.1;
    })

    same_key : g.key ≡ f.key
    same_key = laws.numbers.key f e stood

    entries_came : (x : Entry) (r : RetryKey) → Contains g.entries x → x.event.key ≡ Some r → HasMessage v r
    entries_came x r among by = elim (entry_cases laws f e stood x among) [
      | inl was ↦ known_f.came x r was by
      | inr new ↦ absurd (no (ap (λ (y : Event). y.key) (sym new) ∙ by))
    ]
      where
        no : None ≡ Some r → ⊥
        no same = cc

    abbrev lines : List Told
    lines = all_effect_lines v (cast_of g) step.effects ++ all_finished_lines g.entries step.finished

    -- what the family goes on as, from there
    step_is : StepIs v (shut f) g step.effects step.words
    step_is =
        let x : StepIs v f g step.effects step.words = keeps_is laws f e stood (no_votes stood) known_f.sound (keeps stood) (goes_asking stood) in
        record {
          key = x.key;
          sound = x.sound;
          tidy = x.tidy;
          turn = x.turn;
          rows = x.rows;
          registrations = x.registrations;
          on = x.on;
          back = x.back;
          kept = x.kept;
          speaks = x.speaks;
          heard = λ number vote among. absurd (no_votes stood number vote among);
          outcomes = x.outcomes;
          stays = x.stays;
          serial = x.serial;
          numbered = x.numbered;
          rest = x.rest;
          leads = x.leads;
          ready = x.ready;
          asks = x.asks;
        }

    one_node : with_family g m1 ≡ with_family g m
    one_node = ap (λ (fs : List (Option Family)). record m { families = fs })
        (ap (λ (i : ℕ). slice_set (slice_set n.families i (Some (shut f))) g.key.slot (Some g)) (ap (λ (x : ObjectKey). x.slot) (sym same_key))
        ∙ set_twice n.families g.key.slot (Some (shut f)) (Some g))

    abbrev then_with : Node → World
    then_with c = with_seat place (record left { server = OfNode (Some c) }) v

    abbrev u : World
    u = then_with (with_family g m)

    gone : Known (requests_all place step.words u).world ((told ++ lines) ++ (requests_all place step.words u).lines)
    gone =
        subst (λ (c : Node). Known (requests_all place step.words (then_with c)).world ((told ++ lines) ++ (requests_all place step.words (then_with c)).lines)) one_node
        (words_gone v place left m1 (shut f) g there_v refl slotted_v comes.at_place told known_v key found_v (cast_of g)
        (record { key = same_key; registrations = (keeps stood).registrations }) step.effects step.words
        step_is g.entries step.finished (edge_held v place (rs ++ added more.0) (with_family g m1) records_v (subst (KeepsDecisions edge) (sym one_node) sound_now)) entries_came)

    -- ---- that is what comes of the answer

    for_now : family_for key e (steps_to n f e stood step).node ≡ Some g
    for_now =
        for_key key e (steps_to n f e stood step).node comes.retold
        ∙ ap (family_of key) node_now
        ∙ slot_key key (with_family g m) g
        (ap (family_in (with_family g m).families) (comes.same_slot ∙ ap (λ (x : ObjectKey). x.slot) (sym same_key)) ∙ seats.in_own_slot m f g same_key comes.slotted)
        (subst (λ (x : ObjectKey). IsTrue (is_of key (record g { key = x }))) (sym same_key) comes.slot.1)

    refers : (to : List ℕ) → referred v to ≡ referred w to
    refers to = referred_by w1 v to refl (seat_names_kept w1 place s1 left there_1 refl) ∙ referred_by w w1 to refl (seat_names_kept w place s s1 there refl)

    abbrev said_lines : List Told
    said_lines = answer_told w (cast_by (family_for key e (steps_to n f e stood step).node) e n) (entries_of (family_for key e (steps_to n f e stood step).node)) (Ok (answer_of f step))

    lines_now : said_lines ≡ lines
    lines_now =
        ap (λ (x : Option Family). answer_told w (cast_by x e n) (entries_of x) (Ok (answer_of f step))) for_now
        ∙ ap (λ (ls : List Told). ls ++ all_finished_lines g.entries step.finished) (sym (effects_same w v refl refers (cast_of g) step.effects))

    abbrev put : Node → World
    put c = with_server place (OfNode (Some c)) (with_disk place disk stop w)

    world_now : put (steps_to n f e stood step).node ≡ u
    world_now =
        ap put node_now
        ∙ on_seat_twice place (λ (x : Seat). record x { disk = disk; stop = stop }) (λ (x : Seat). record x { server = OfNode (Some (with_family g m)) }) w s there
        ∙ sym (ap (λ (xs : List Seat). record w { seats = xs })
        (set_twice (slice_set w.seats place s1) place left final ∙ set_twice w.seats place s1 final))
      where
        final : Seat
        final = record left { server = OfNode (Some (with_family g m)) }

    answered_known : Known (applied_at place key e n disk stop (applies key e stood n) w).done.world (told ++ (applied_at place key e n disk stop (applies key e stood n) w).done.lines)
    answered_known =
        let here : Known (requests_all place step.words u).world (told ++ (([] ++ lines) ++ (requests_all place step.words u).lines)) =
        subst (Known (requests_all place step.words u).world) (append_assoc told lines (requests_all place step.words u).lines) gone in
        subst (λ (a : Applied). Known (applied_at place key e n disk stop a w).done.world (told ++ (applied_at place key e n disk stop a w).done.lines)) (sym (comes.applied stood))
        (subst (λ (x : World). Known (requests_all place step.words x).world (told ++ (([] ++ said_lines) ++ (requests_all place step.words x).lines))) (sym world_now)
        (subst (λ (ls : List Told). Known (requests_all place step.words u).world (told ++ (([] ++ ls) ++ (requests_all place step.words u).lines))) (sym lines_now) here))

  -- ---- the node goes down inside the write

  module _ (image : List ℕ) (stops : asks asked (service_at place) (found_in rs) s.disk s.stop ≡ Stops image) where
    crash : CrashLeaves (service_at place) rs asked image
    crash = journals.stop asked (service_at place) rs s.disk s.stop image comes.order can stops

    left_more : (x : Option ℕ) × IsInOrder (service_at place) (at_first image) (rs ++ added x)
    left_more = elim crash.leaves [
      | inl before ↦ (None, subst (IsInOrder (service_at place) (at_first image)) (sym (append-nil rs)) before)
      | inr and_one ↦ (Some done, subst (λ (x : JournalRecord). IsInOrder (service_at place) (at_first image) (rs ++ x ∷ [])) crash.asked and_one)
    ]

    crash_is : crashes place image w ≡ crashes_seat place image s w
    unfolding crashes
    crash_is = ap (λ (x : Option Seat). elim x as (λ _. happen.Done) [ Some y ↦ crashes_seat place image y w | None ↦ happen.nothing w ]) there

    nothing_up : (c : Node) → None ≡ Some c → GoesOn n c rs left_more.0
    nothing_up c is = absurd cc

    abbrev heard_then : List Told
    heard_then = all_effect_lines w (cast_of f) (hears o.number (heard_in answer) f).effects

    down_lines : AllByRecursion (IsOne is_done_line) (heard_then ++ tell.Down s.name ∷ [])
    down_lines = all_both (IsOne is_done_line) heard_then (tell.Down s.name ∷ []) (mark_lines w (cast_of f) (hears o.number (heard_in answer) f).effects marks) (tt, tt)

    stopped_known : Known (stopped_at place key e n image w).done.world (told ++ (stopped_at place key e n image w).done.lines)
    stopped_known =
        subst (λ (x : Option Family). Known (crashes place image w).world (told ++ (heard_lines w x e ++ (crashes place image w).lines))) (sym (for_key key e n comes.retold ∙ of))
        (subst (λ (d : happen.Done). Known d.world (told ++ (heard_then ++ d.lines))) (sym crash_is)
        (subst (λ (x : World). Known x (told ++ (heard_then ++ tell.Down s.name ∷ [])))
        (sym (on_seat_twice place (λ (x : Seat). record x { disk = at_first image; stop = None }) (λ (x : Seat). record x { server = OfNode None }) w s there))
        (gone_on_known journals.grow journals.read w place s n told there up k rs comes.held left_more.0 (at_first image) left_more.1 None None nothing_up
        (heard_then ++ tell.Down s.name ∷ []) down_lines)))

  by_asked : (a : Asked) → asks asked (service_at place) (found_in rs) s.disk s.stop ≡ a
      → Known (steps_by a place key e n w).done.world (told ++ (steps_by a place key e n w).done.lines)
  by_asked (Answers stood disk stop) is = answered_known stood disk stop is
  by_asked (Stops image) is = stopped_known image is

  pub closed_known : Known (steps_node (Some n) s place key e w).done.world (told ++ (steps_node (Some n) s place key e w).done.lines)
  closed_known = by_asked (asks (call_wants key e n) n.service n.found s.disk s.stop) (sym comes.asks_so)
