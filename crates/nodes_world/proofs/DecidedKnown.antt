-- What is known of a world is known once a node has heard the last vote of a family, and its journal was asked for the decision and has
-- written it, or the node went down meanwhile.
use Rattle.std.proofs.Common.{◌≡◌, inl, inr, ℕ, ◌<◌, ◌≤◌, ◌⊎◌, ◌+◌, ◌==◌, Bool, true, false, length, IsTrue, List, [], ◌∷◌, ◌++◌, append_assoc, append-nil, slice_get, slice_set, Contains, Option, Some, None, refl, sym, ap, subst, ◌∙◌, arith}
use Rattle.std.specs.Prelude.{Ok}
use Rattle.std.specs.List.{AllByRecursion}
use Rattle.std.specs.Option.{option_and_then}
use Rattle.std.proofs.lemmas.List.{length-append}
use Rattle.ior_refs.specs.declared.key.ObjectKey.{ObjectKey}
use Rattle.ots_model.specs.Safe.{Stands}
use Rattle.ots_model.specs.declared.completion.Ground.TheVariants.{Record}
use Rattle.ots_model.specs.declared.completion.Stood.{Stood}
use Rattle.ots_model.specs.declared.completion.Stood.TheVariants as answers
use Rattle.ots_model.specs.declared.completion.Vote.{Vote}
use Rattle.ots_model.specs.declared.line.Line.{Line}
use Rattle.ots_model.specs.declared.line.Line.TheVariants as lines
use Rattle.ots_model.specs.declared.service.RetryKey.{RetryKey}
use Rattle.ots_model.specs.declared.completion.Outcome.TheVariants as outcomes
use Rattle.ots_model.specs.declared.tree.Outward.{Outward}
use Rattle.ots_model.specs.declared.completion.Word.TheVariants as phase_words
use Rattle.ots_model.specs.declared.tree.Word.TheVariants as words
use Rattle.ots_outside.specs.Disk.{DiskState, at_first}
use Rattle.two_phase.specs.Stages as stages
use Rattle.two_phase.specs.Stages.{Standing as Completion}
use Rattle.decision_journal.specs.Journal.{Found, found_in, front, with_record}
use Rattle.decision_journal.specs.declared.record.JournalRecord.{JournalRecord}
use Rattle.decision_journal.specs.declared.record.JournalRecord.TheVariants.{Decision}
use Rattle.decision_journal.specs.declared.record.Registration.{Registration as Named}
use Rattle.recovery_coord.specs.Limits.{retold_slot}
use Rattle.coordinator.specs.declared.call.Leg.TheVariants.{Deciding}
use Rattle.coordinator.specs.declared.effect.Effect.{Effect}
use Rattle.coordinator.specs.declared.effect.Effect.TheVariants as effects
use Rattle.coordinator.specs.declared.event.Event.{Event}
use Rattle.coordinator.specs.declared.said.Entry.{Entry}
use Rattle.coordinator.specs.declared.said.Said.{Said}
use Rattle.coordinator.specs.declared.said.Said.TheVariants as said
use Rattle.coordinator.specs.Family.{Family, Call, call_at, waiting_for}
use Rattle.coordinator.specs.Hearing.{commit_key, decision_record, named}
use Rattle.coordinator.specs.History.{has_room}
use Rattle.coordinator.specs.Node.{Node, family_in, family_of, is_of, with_family}
use Rattle.coordinator.specs.NodeCalls.{Applied, answer_of, applies, call_wants, family_for, journaled, steps_to}
use Rattle.coordinator.specs.Step.{Stepped, Wanted, Appends, Rereads, family_step, hears, wanted}
use Rattle.family_laws.specs.OwnDecisions.{KeepsDecisions, NodesKeepDecisions}
use Rattle.nodes_world.specs.declared.message.Content.TheVariants as contents
use Rattle.nodes_world.specs.declared.message.Message.{Message}
use Rattle.nodes_world.specs.Agreement.{IsWord, RestsOnVotes, records_at}
use Rattle.nodes_world.specs.AgreementInside.{Known, FamilyIsKnown, HasMessage, IsNumberedBy, edge_at, journal_end, is_asking}
use Rattle.nodes_world.specs.Deliveries.{answer_event, heard_in}
use Rattle.nodes_world.specs.Disks.{Stop}
use Rattle.nodes_world.specs.Happenings as happen
use Rattle.nodes_world.specs.Happenings.{Cast, all_effect_lines, all_finished_lines, cast_of, decided_lines, effect_lines, requests_all}
use Rattle.nodes_world.specs.Journals.{Asked, Answers, Stops, asks, records_on}
use Rattle.nodes_world.specs.Laws.{AreWanted, AskingLeaves, CanAsk, CrashLeaves, IsInOrder}
use Rattle.nodes_world.specs.Nodes.{answer_told, applied_at, cast_by, crashes, crashes_seat, entries_of, heard_lines, steps_by, steps_node, stopped_at}
use Rattle.nodes_world.specs.Objects.{family_key, service_at}
use Rattle.nodes_world.specs.Told as tell
use Rattle.nodes_world.specs.Told.{Told, known}
use Rattle.nodes_world.specs.World.{World, Seat, OfNode, family_at, referred, with_disk, with_seat, with_server}
use Rattle.nodes_world.proofs.Appended as append
use Rattle.nodes_world.proofs.AppendedAt.{asked_at, end_behind, end_is, one_more}
use Rattle.nodes_world.proofs.AskedKeeps.{asked_late}
use Rattle.nodes_world.proofs.BranchNames.{named_branch}
use Rattle.nodes_world.proofs.CallKnown.{for_key, slot_key, tidy_of}
use Rattle.nodes_world.proofs.ComesTo.{ComesTo, comes_to}
use Rattle.nodes_world.proofs.CompletesKnown.{JournalLaws}
use Rattle.nodes_world.proofs.DecidedNode.{decided_keeps}
use Rattle.nodes_world.proofs.DecisionRests.{decision_rests}
use Rattle.nodes_world.proofs.DoneKnown.{GoesOn, gone_on_known}
use Rattle.nodes_world.proofs.Edges.{edge_held, edge_is}
use Rattle.nodes_world.proofs.EffectsSame.{effects_same}
use Rattle.nodes_world.proofs.FullKnown.{IsWritten}
use Rattle.nodes_world.proofs.Going.{get_set, on_seat_twice, set_twice}
use Rattle.nodes_world.proofs.KnownAlike.{referred_by}
use Rattle.nodes_world.proofs.KnownFamilies.{family_found, is_own}
use Rattle.nodes_world.proofs.KnownFrames.{known_phase, last_cases, newest_phase}
use Rattle.nodes_world.proofs.KnownLines.{among_back, lines_of}
use Rattle.nodes_world.proofs.KnownSeats.{seat_names_kept}
use Rattle.nodes_world.proofs.KnownTelling.{IsOne, unknown_same}
use Rattle.nodes_world.proofs.OpenStep as opening
use Rattle.nodes_world.proofs.RulesKeep.{IsTidy}
use Rattle.nodes_world.proofs.SameRecords.{as_far_keeps}
use Rattle.nodes_world.proofs.StepIs.{FamilyLaws, IsCastOf, StepIs, entry_cases}
use Rattle.nodes_world.proofs.StepSeats as seats
use Rattle.nodes_world.proofs.StepWhole.{step_known, words_gone}

inner : {A : Type 0} {x y : A} → Some x ≡ Some y → x ≡ y
inner e = cc

module _ (laws : FamilyLaws) (journals : JournalLaws) (nodes : NodesKeepDecisions) (w : World) (nth place reply now : ℕ) (o : Outward) (back : Message) (answer : Said)
    (s : Seat) (n : Node) (f : Family) (c : Call) (vote : Vote) (item : JournalRecord)
    (word : IsWord w nth place o) (replied : slice_get w.messages reply ≡ Some back) (says : back.content ≡ contents.Reply (nth + 1) answer) (votes : answer ≡ said.Voted vote)
    (there : slice_get w.seats place ≡ Some s) (up : s.server ≡ OfNode (Some n)) (family : o.number.slot == retold_slot ≡ false)
    (of : family_of (family_key place o.number) n ≡ Some f) (room : has_room f.entries (answer_event o answer now) ≡ true) (waits : waiting_for f o.number ≡ Some 0)
    (at : call_at f 0 ≡ Some c) (decides : c.leg ≡ Deciding) (asking : is_asking f.completion ≡ true) (wants : wanted f (answer_event o answer now) ≡ Some (Appends item))
    (wants_now : stages.wants_decision (hears o.number (heard_in answer) f).family.completion ≡ true) (item_is : decision_record (hears o.number (heard_in answer) f).family ≡ item)
    (can : CanAsk (Some (Appends item)) n.found) (told : List Told) (k : Known w told) (numbered : IsNumberedBy f o) (prepare : o.word ≡ words.Phase phase_words.Prepare) where
  abbrev key : ObjectKey
  key = family_key place o.number

  abbrev e : Event
  e = answer_event o answer now

  abbrev asked : Option Wanted
  asked = Some (Appends item)

  comes : ComesTo w place now o answer s n f (Appends item)
  comes = comes_to w place now o answer s n f (Appends item) there up family of room wants told k

  abbrev rs : List JournalRecord
  rs = comes.rs

  can_now : CanAsk asked (found_in rs)
  can_now = subst (CanAsk asked) comes.found can

  -- ---- the vote is heard

  known_f : FamilyIsKnown w (lines_of told) f
  known_f = k.families key f comes.there

  tidy : IsTidy f
  tidy = tidy_of w told k key f comes.there

  abbrev later : Completion
  later = opening.later laws w nth place reply now o back answer f c vote word replied says votes known_f.sound tidy numbered waits at decides asking prepare wants_now known_f.ready

  abbrev f1 : Family
  f1 = opening.opened laws w nth place reply now o back answer f c vote word replied says votes known_f.sound tidy numbered waits at decides asking prepare wants_now known_f.ready

  abbrev told_one : Effect
  told_one = opening.told_one laws w nth place reply now o back answer f c vote word replied says votes known_f.sound tidy numbered waits at decides asking prepare wants_now known_f.ready

  opens : StepIs w f f1 (told_one ∷ []) []
  opens = opening.open_is laws w nth place reply now o back answer f c vote word replied says votes known_f.sound tidy numbered waits at decides asking prepare wants_now known_f.ready

  no_record : stages.record_place f1.completion ≡ None
  no_record = opening.open_place laws w nth place reply now o back answer f c vote word replied says votes known_f.sound tidy numbered waits at decides asking prepare wants_now known_f.ready

  keeps_1 : KeepsDecisions (edge_at w place) (with_family f1 n)
  keeps_1 = as_far_keeps n f f1 comes.slotted (edge_at w place) comes.sound (record {
    key = refl;
    sound = opens.sound;
    places = no_record ∙ sym (asked_late laws.completions f.completion known_f.sound.completion.there asking);
    unclosed = λ record_at u. absurd (none_not (sym no_record ∙ u.decided));
  })
    where
      none_not : {x : ℕ} → None ≡ Some x → ⊥
      none_not is = cc

  abbrev stands : ℕ → Completion
  stands = opening.stands laws w nth place reply now o back answer f c vote word replied says votes known_f.sound tidy numbered waits at decides asking prepare wants_now known_f.ready

  stands_is : (at_record : ℕ) → append.IsDecidedNow f1 (stands at_record)
  stands_is = opening.stands_is laws w nth place reply now o back answer f c vote word replied says votes known_f.sound tidy numbered waits at decides asking prepare wants_now known_f.ready

  stands_at : (at_record : ℕ) → stages.record_place (stands at_record) ≡ Some at_record
  stands_at = opening.stands_at laws w nth place reply now o back answer f c vote word replied says votes known_f.sound tidy numbered waits at decides asking prepare wants_now known_f.ready

  -- its record
  abbrev by : Option RetryKey
  by = commit_key (hears o.number (heard_in answer) f).family

  abbrev reports : Bool
  reports = stages.asked (hears o.number (heard_in answer) f).family.completion

  abbrev regs : List Named
  regs = named later

  abbrev decision : JournalRecord
  decision = Decision f.key.life f.key.slot f.key.generation by reports regs

  record_is : item ≡ decision
  record_is = opening.record_is laws w nth place reply now o back answer f c vote word replied says votes known_f.sound tidy numbered waits at decides asking prepare wants_now known_f.ready item item_is

  heard_tells : (hears o.number (heard_in answer) f).effects ≡ told_one ∷ []
  heard_tells = opening.heard_tells laws w nth place reply now o back answer f c vote word replied says votes known_f.sound tidy numbered waits at decides asking prepare wants_now known_f.ready

  -- ---- the world in which it waits to know whether its record stands

  abbrev n1 : Node
  n1 = with_family f1 n

  abbrev s1 : Seat
  s1 = record s { server = OfNode (Some n1) }

  abbrev w1 : World
  w1 = with_seat place s1 w

  there_1 : slice_get w1.seats place ≡ Some s1
  there_1 = get_set w.seats place s s1 there

  held_1 : records_at w1 place ≡ Some rs
  held_1 = ap (λ (x : Option Seat). option_and_then (λ (y : Seat). records_on (service_at place) y.disk) x) there_1 ∙ comes.reads

  slotted_1 : family_in n1.families f.key.slot ≡ Some f1
  slotted_1 = seats.in_own_slot n f f1 refl comes.slotted

  found_1 : family_at w1 key ≡ Some f1
  found_1 = seats.there_now w place s n f f1 there up refl comes.slotted comes.at_place key comes.slot.1

  module _ (cast : Cast) (cast_is : IsCastOf f cast) where
    abbrev told_1 : List Told
    told_1 = told ++ (all_effect_lines w cast (told_one ∷ []) ++ [])

    known_1 : Known w1 told_1
    known_1 = step_known w place s n f f1 there up comes.slotted comes.at_place told k key comes.there cast cast_is (told_one ∷ []) [] opens [] [] keeps_1 known_f.came

    abbrev old_1 : FamilyIsKnown w1 (lines_of told_1) f1
    old_1 = known_1.families key f1 found_1

    rests : RestsOnVotes w1 told_1 f1.key regs
    rests =
        let agreed = opening.open_agreed laws w nth place reply now o back answer f c vote word replied says votes known_f.sound tidy numbered waits at decides asking prepare wants_now known_f.ready in
        subst (λ (xs : List Named). RestsOnVotes w1 told_1 f1.key xs) (sym agreed.same) (decision_rests w1 told_1 known_1 key f1 found_1 agreed.c agreed.going agreed.all)

    -- the decision is appended, and the node is up with it, or down
    appended : (disk : DiskState) → IsInOrder (service_at place) disk (rs ++ decision ∷ []) → (stop : Option Stop) (at_record : ℕ) (up_then : Option Node) (some : List Told)
        → AllByRecursion (IsOne append.is_recorded_line) some
        → ((name : List ℕ) → Stands (lines.Decide name (outcomes.Commit Record)) (known (told_1 ++ some))
        → Stands (lines.Decide name (outcomes.Commit Record)) (known told_1) ⊎ (name ≡ old_1.name))
        → (up_then ≡ None) ⊎ ((up_then ≡ Some (with_family (record f1 { completion = stands at_record }) (record n1 { found = found_in (rs ++ decision ∷ []) })))
        × KeepsDecisions (journal_end (rs ++ decision ∷ [])) (with_family (record f1 { completion = stands at_record }) (record n1 { found = found_in (rs ++ decision ∷ []) }))
        × Stands (lines.Decide old_1.name (outcomes.Commit Record)) (known (told_1 ++ some)))
        → Known (with_seat place (record s1 { disk = disk; stop = stop; server = OfNode up_then }) w1) (told_1 ++ some)
    appended disk order_then stop at_record up_then some bare only goes =
        append.appended_known journals.grow journals.read w1 place s1 n1 told_1 there_1 refl known_1 key f1 found_1 comes.at_place slotted_1
        (opening.open_outcome laws w nth place reply now o back answer f c vote word replied says votes known_f.sound tidy numbered waits at decides asking prepare wants_now known_f.ready)
        (opening.open_alone laws w nth place reply now o back answer f c vote word replied says votes known_f.sound tidy numbered waits at decides asking prepare wants_now known_f.ready)
        by reports regs rests rs held_1 disk order_then stop (stands at_record) (stands_is at_record) up_then some bare only goes

  -- ---- the node goes down inside the write

  module _ (image : List ℕ) (stops : asks asked (service_at place) (found_in rs) s.disk s.stop ≡ Stops image) where
    crash : CrashLeaves (service_at place) rs asked image
    crash = journals.stop asked (service_at place) rs s.disk s.stop image comes.order can_now stops

    abbrev told_down : List Told
    told_down = told ++ (all_effect_lines w (cast_of f) (told_one ∷ []) ++ [])

    same_cast : IsCastOf f (cast_of f)
    same_cast = record { key = refl; registrations = refl }

    nothing_up : (x : Node) → None ≡ Some x → GoesOn n1 x rs None
    nothing_up x is = absurd cc

    abbrev down : Seat
    down = record s1 { disk = at_first image; stop = None; server = OfNode None }

    -- the records of before are left
    down_before : IsInOrder (service_at place) (at_first image) rs → Known (with_seat place down w1) (told_down ++ tell.Down s.name ∷ [])
    down_before left =
        gone_on_known journals.grow journals.read w1 place s1 n1 told_down there_1 refl (known_1 (cast_of f) same_cast) rs held_1 None (at_first image)
        (subst (IsInOrder (service_at place) (at_first image)) (sym (append-nil rs)) left) None None nothing_up (tell.Down s.name ∷ []) (tt, tt)

    -- or these and the decision
    down_decided : IsInOrder (service_at place) (at_first image) (rs ++ crash.item ∷ []) → Known (with_seat place down w1) (told_down ++ tell.Down s.name ∷ [])
    down_decided left =
        appended (cast_of f) same_cast (at_first image) (subst (λ (x : JournalRecord). IsInOrder (service_at place) (at_first image) (rs ++ x ∷ [])) (crash.asked ∙ record_is) left)
        None 0 None (tell.Down s.name ∷ []) (tt, tt)
        (λ name stands_line. inl (subst (Stands (lines.Decide name (outcomes.Commit Record))) (unknown_same told_down (tell.Down s.name) refl) stands_line))
        (inl refl)

    down_known : Known (with_seat place down w1) (told_down ++ tell.Down s.name ∷ [])
    down_known = elim crash.leaves [ inl before ↦ down_before before | inr and_one ↦ down_decided and_one ]

    crash_is : crashes place image w ≡ crashes_seat place image s w
    unfolding crashes
    crash_is = ap (λ (x : Option Seat). elim x as (λ _. happen.Done) [ Some y ↦ crashes_seat place image y w | None ↦ happen.nothing w ]) there

    abbrev heard_then : List Told
    heard_then = all_effect_lines w (cast_of f) (hears o.number (heard_in answer) f).effects

    lines_then : told_down ++ tell.Down s.name ∷ [] ≡ told ++ (heard_then ++ tell.Down s.name ∷ [])
    lines_then =
        append_assoc told (all_effect_lines w (cast_of f) (told_one ∷ []) ++ []) (tell.Down s.name ∷ [])
        ∙ ap (λ (ls : List Told). told ++ (ls ++ tell.Down s.name ∷ []))
        (append-nil (all_effect_lines w (cast_of f) (told_one ∷ [])) ∙ ap (all_effect_lines w (cast_of f)) (sym heard_tells))

    world_down : with_seat place down w1 ≡ with_server place (OfNode None) (with_disk place (at_first image) None w)
    world_down =
        ap (λ (xs : List Seat). record w { seats = xs }) (set_twice w.seats place s1 down)
        ∙ sym (on_seat_twice place (λ (x : Seat). record x { disk = at_first image; stop = None }) (λ (x : Seat). record x { server = OfNode None }) w s there)

    stopped_known : Known (stopped_at place key e n image w).done.world (told ++ (stopped_at place key e n image w).done.lines)
    stopped_known =
        subst (λ (x : Option Family). Known (crashes place image w).world (told ++ (heard_lines w x e ++ (crashes place image w).lines))) (sym (for_key key e n comes.retold ∙ of))
        (subst (λ (d : happen.Done). Known d.world (told ++ (heard_then ++ d.lines))) (sym crash_is)
        (subst (λ (x : World). Known x (told ++ (heard_then ++ tell.Down s.name ∷ []))) world_down
        (subst (Known (with_seat place down w1)) lines_then down_known)))

  -- ---- the record stands

  module _ (at_record : ℕ) (disk : DiskState) (stop : Option Stop)
      (answered_so : asks asked (service_at place) (found_in rs) s.disk s.stop ≡ Answers (Some (answers.Stands at_record)) disk stop) where
    abbrev stood : Option Stood
    stood = Some (answers.Stands at_record)

    abbrev step : Stepped
    step = family_step f e stood

    abbrev g : Family
    g = step.family

    leaves : AskingLeaves (service_at place) rs asked stood disk
    leaves = journals.keep asked (service_at place) rs s.disk s.stop stood disk stop comes.order can_now answered_so

    more_is : leaves.more ≡ decision ∷ []
    more_is = only_item leaves.more leaves.asked (λ none. one_more decision at_record rs leaves.more (length-append (found_in rs).standing (_ ∷ []))
        (ap (λ (x : JournalRecord). journaled (Some (Appends x)) stood (found_in rs)) (sym record_is) ∙ leaves.found) none)
      where
        only_item : (more : List JournalRecord) → AreWanted asked more → (more ≡ [] → ⊥) → more ≡ decision ∷ []
        only_item [] wanted none = absurd (none refl)
        only_item (r ∷ []) is none = ap (λ (x : JournalRecord). x ∷ []) (is ∙ record_is)
        only_item (r ∷ x ∷ others) wanted none = absurd wanted

    abbrev rs_then : List JournalRecord
    rs_then = rs ++ decision ∷ []

    order_then : IsInOrder (service_at place) disk rs_then
    order_then = subst (λ (xs : List JournalRecord). IsInOrder (service_at place) disk (rs ++ xs)) more_is leaves.order

    at_front : at_record ≡ length (front (service_at place) rs)
    at_front = asked_at item (service_at place) rs (found_in rs) s.disk s.stop comes.reads at_record disk stop answered_so

    at_end : at_record ≡ journal_end rs
    at_end = at_front ∙ sym (end_is (service_at place) rs)

    found_then : with_record n.found at_record decision ≡ found_in rs_then
    found_then =
        ap (λ (x : Found). with_record x at_record decision) comes.found
        ∙ ap (λ (i : ℕ). with_record (found_in rs) i decision) at_front
        ∙ sym (journals.grow.added (service_at place) rs decision)

    abbrev edge : ℕ
    edge = journal_end rs_then

    behind : edge_at w place ≤ at_record
    behind = let is = edge_is w place rs comes.held in let same = at_end in omega (arith, is, same)

    before : at_record < edge
    before = let same = at_end in let less = end_behind rs decision in omega (arith, same, less)

    -- ---- the world in which the family knows that

    abbrev g2 : Family
    g2 = record f1 { completion = stands at_record }

    abbrev recorded : Node
    recorded = record n1 { found = found_in rs_then }

    abbrev n2 : Node
    n2 = with_family g2 recorded

    keeps_2 : KeepsDecisions edge n2
    keeps_2 =
        subst (λ (x : Found). KeepsDecisions edge (with_family g2 (record n1 { found = x }))) found_then
        (decided_keeps n1 f1 (stands at_record) slotted_1 (edge_at w place) edge keeps_1 (stands_is at_record).sound no_record at_record (stands_at at_record) behind before by reports regs)

    abbrev later_step : Stepped
    later_step =
        opening.later_step laws w nth place reply now o back answer f c vote word replied says votes known_f.sound tidy numbered waits at decides asking prepare wants_now known_f.ready at_record

    same_key : g.key ≡ f.key
    same_key = laws.numbers.key f e stood

    same_family : g ≡ record later_step.family { entries = g.entries }
    same_family =
        opening.same_family laws w nth place reply now o back answer f c vote word replied says votes known_f.sound tidy numbered waits at decides asking prepare wants_now known_f.ready at_record

    same_words : step.words ≡ later_step.words
    same_words =
        opening.same_words laws w nth place reply now o back answer f c vote word replied says votes known_f.sound tidy numbered waits at decides asking prepare wants_now known_f.ready at_record

    abbrev fixed : Effect
    fixed = effects.Decided (outcomes.Commit Record)

    more_effects : step.effects ≡ told_one ∷ fixed ∷ later_step.effects
    more_effects =
        opening.more_effects laws w nth place reply now o back answer f c vote word replied says votes known_f.sound tidy numbered waits at decides asking prepare wants_now known_f.ready at_record

    goes_on : {v : World} → StepIs v g2 later_step.family later_step.effects later_step.words
    goes_on =
        opening.goes_on_is laws w nth place reply now o back answer f c vote word replied says votes known_f.sound tidy numbered waits at decides asking prepare wants_now known_f.ready at_record

    abbrev cast : Cast
    cast = cast_of g

    cast_is : IsCastOf f cast
    cast_is = record { key = same_key; registrations = ap (λ (x : Family). x.ballots.registrations) same_family ∙ (goes_on {v = w}).registrations }

    abbrev told_then : List Told
    told_then = told ++ (all_effect_lines w cast (told_one ∷ []) ++ [])

    abbrev own_name : List ℕ
    own_name = ((known_1 cast cast_is).families key f1 found_1).name

    abbrev line : Line
    line = lines.Decide own_name (outcomes.Commit Record)

    abbrev told_2 : List Told
    told_2 = told_then ++ tell.Known line ∷ []

    line_there : Stands line (known told_2)
    line_there = among_back _ _ (subst (Stands line) (sym (newest_phase told_then line)) (inl refl))

    only_line : (name : List ℕ) → Stands (lines.Decide name (outcomes.Commit Record)) (known told_2)
        → Stands (lines.Decide name (outcomes.Commit Record)) (known told_then) ⊎ (name ≡ own_name)
    only_line name x =
        elim (last_cases (known told_then) (lines.Decide name (outcomes.Commit Record)) line (subst (Stands (lines.Decide name (outcomes.Commit Record))) (known_phase told_then line) x)) [
          | inl was ↦ inl was
          | inr same ↦ inr (sym (name_of same))
        ]
      where
        name_of : {a b : List ℕ} → lines.Decide a (outcomes.Commit Record) ≡ lines.Decide b (outcomes.Commit Record) → a ≡ b
        name_of is = cc

    abbrev left : Seat
    left = record s1 { disk = disk; stop = stop; server = OfNode (Some n2) }

    abbrev w2 : World
    w2 = with_seat place left w1

    known_2 : Known w2 told_2
    known_2 = appended cast cast_is disk order_then stop at_record (Some n2) (tell.Known line ∷ []) (refl, tt) only_line (inr (refl, keeps_2, line_there))

    there_2 : slice_get w2.seats place ≡ Some left
    there_2 = get_set w1.seats place s1 left there_1

    records_2 : records_at w2 place ≡ Some rs_then
    records_2 = ap (λ (x : Option Seat). option_and_then (λ (y : Seat). records_on (service_at place) y.disk) x) there_2
        ∙ journals.read (service_at place) disk.reads rs_then order_then.stands

    slotted_2 : family_in n2.families f.key.slot ≡ Some g2
    slotted_2 = seats.in_own_slot recorded f1 g2 refl slotted_1

    found_2 : family_at w2 key ≡ Some g2
    found_2 = family_found w2 key g2 (record {
      seat = left;
      node = n2;
      there = ap (slice_get w2.seats) comes.own_place ∙ there_2;
      up = refl;
      slotted = ap (family_in n2.families) comes.same_slot ∙ slotted_2;
      own = comes.slot.1;
    })

    -- ---- it goes on

    with_entries : (h : Family) (some : List Effect) (out : List Outward) (es : List Entry) → StepIs w2 g2 h some out → StepIs w2 g2 (record h { entries = es }) some out
    with_entries h some out es x = record {
      key = x.key;
      sound = x.sound;
      tidy = x.tidy;
      turn = x.turn;
      rows = x.rows;
      registrations = x.registrations;
      on = x.on;
      back = x.back;
      kept = x.kept;
      speaks = x.speaks;
      heard = λ number other among. let was = x.heard number other among in
          record { r = was.r; there = was.there; index = was.index; undecided = was.undecided; counted = was.counted; given = was.given };
      outcomes = x.outcomes;
      stays = x.stays;
      serial = x.serial;
      numbered = x.numbered;
      rest = x.rest;
      leads = x.leads;
      ready = x.ready;
      asks = x.asks;
    }

    step_is : StepIs w2 g2 g later_step.effects step.words
    step_is =
        subst (λ (x : Family). StepIs w2 g2 x later_step.effects step.words) (sym same_family)
        (subst (λ (out : List Outward). StepIs w2 g2 (record later_step.family { entries = g.entries }) later_step.effects out) (sym same_words)
        (with_entries later_step.family later_step.effects later_step.words g.entries goes_on))

    -- the node with what its journal has then
    abbrev m : Node
    m = record n { found = journaled asked stood n.found }

    found_now : journaled asked stood n.found ≡ found_in rs_then
    found_now = ap (λ (x : JournalRecord). with_record n.found at_record x) record_is ∙ found_then

    node_now : (steps_to n f e stood step).node ≡ with_family g m
    node_now = ap (λ (x : Option Wanted). with_family g (record n { found = journaled x stood n.found })) wants

    sound_now : KeepsDecisions edge (with_family g m)
    sound_now =
        subst (KeepsDecisions edge) (ap (λ (a : Applied). a.node) (comes.applied stood) ∙ node_now)
        (nodes.called (edge_at w place) edge key e stood n grows (λ other other_place is so. between other_place so)
        (λ x other_place called is so. absurd (not_read (sym comes.wants ∙ is))) comes.sound)
      where
        grows : edge_at w place ≤ edge
        grows = let b = behind in let l = before in omega (arith, b, l)

        between : (other_place : ℕ) → stood ≡ Some (answers.Stands other_place) → (edge_at w place ≤ other_place) × (other_place < edge)
        between other_place so = subst (λ (i : ℕ). (edge_at w place ≤ i) × (i < edge)) (place_is so) (behind, before)
          where
            place_is : {i : ℕ} → stood ≡ Some (answers.Stands i) → at_record ≡ i
            place_is same = cc

        not_read : asked ≡ Some Rereads → ⊥
        not_read same = cc

    one_node : with_family g n2 ≡ with_family g m
    one_node =
        ap (λ (fs : List (Option Family)). record n { found = found_in rs_then; families = fs })
        (ap (λ (i : ℕ). slice_set (slice_set (slice_set n.families i (Some f1)) i (Some g2)) g.key.slot (Some g)) (ap (λ (x : ObjectKey). x.slot) (sym same_key))
        ∙ set_twice (slice_set n.families g.key.slot (Some f1)) g.key.slot (Some g2) (Some g)
        ∙ set_twice n.families g.key.slot (Some f1) (Some g))
        ∙ ap (λ (x : Found). record n { found = x; families = slice_set n.families g.key.slot (Some g) }) (sym found_now)

    entries_came : (x : Entry) (r : RetryKey) → Contains g.entries x → x.event.key ≡ Some r → HasMessage w2 r
    entries_came x r among retry = elim (entry_cases laws f e stood x among) [
      | inl was ↦ known_f.came x r was retry
      | inr new ↦ absurd (no (ap (λ (y : Event). y.key) (sym new) ∙ retry))
    ]
      where
        no : None ≡ Some r → ⊥
        no same = cc

    abbrev done_lines : List Told
    done_lines = all_finished_lines g.entries step.finished

    abbrev then_with : Node → World
    then_with x = with_seat place (record left { server = OfNode (Some x) }) w2

    abbrev u : World
    u = then_with (with_family g m)

    abbrev lines_2 : List Told
    lines_2 = all_effect_lines w2 cast later_step.effects ++ done_lines

    gone : Known (requests_all place step.words u).world ((told_2 ++ lines_2) ++ (requests_all place step.words u).lines)
    gone =
        subst (λ (x : Node). Known (requests_all place step.words (then_with x)).world ((told_2 ++ lines_2) ++ (requests_all place step.words (then_with x)).lines)) one_node
        (words_gone w2 place left n2 g2 g there_2 refl slotted_2 comes.at_place told_2 known_2 key found_2 cast (record { key = cast_is.key; registrations = cast_is.registrations })
        later_step.effects step.words step_is g.entries step.finished (edge_held w2 place rs_then (with_family g n2) records_2 (subst (KeepsDecisions edge) (sym one_node) sound_now)) entries_came)

    -- ---- that is what comes of the answer

    for_now : family_for key e (steps_to n f e stood step).node ≡ Some g
    for_now =
        for_key key e (steps_to n f e stood step).node comes.retold
        ∙ ap (family_of key) node_now
        ∙ slot_key key (with_family g m) g
        (ap (family_in (with_family g m).families) (comes.same_slot ∙ ap (λ (x : ObjectKey). x.slot) (sym same_key)) ∙ seats.in_own_slot m f g same_key comes.slotted)
        (subst (λ (x : ObjectKey). IsTrue (is_of key (record g { key = x }))) (sym same_key) comes.slot.1)

    refers : (to : List ℕ) → referred w2 to ≡ referred w to
    refers to = referred_by w1 w2 to refl (seat_names_kept w1 place s1 left there_1 refl) ∙ referred_by w w1 to refl (seat_names_kept w place s s1 there refl)

    line_is : effect_lines w cast fixed ≡ tell.Known line ∷ []
    unfolding effect_lines
    line_is =
        let old = (known_1 cast cast_is).families key f1 found_1 in
        ap (decided_lines w cast (outcomes.Commit Record)) (named_branch w told k f cast cast_is.key own_name 0 (f.key, old.of_name, is_own f, old.top))

    all_lines : told_2 ++ lines_2 ≡ told ++ (all_effect_lines w cast step.effects ++ done_lines)
    all_lines =
        ap (λ (xs : List Told). told_2 ++ (xs ++ done_lines)) (effects_same w w2 refl refers cast later_step.effects)
        ∙ ap (λ (xs : List Told). (told_then ++ xs) ++ (all_effect_lines w cast later_step.effects ++ done_lines)) (sym line_is)
        ∙ in_line told (effect_lines w cast told_one) (effect_lines w cast fixed) (all_effect_lines w cast later_step.effects) done_lines
        ∙ ap (λ (xs : List Effect). told ++ (all_effect_lines w cast xs ++ done_lines)) (sym more_effects)
      where
        in_line : (t x d a z : List Told) → ((t ++ ((x ++ []) ++ [])) ++ d) ++ (a ++ z) ≡ t ++ ((x ++ (d ++ a)) ++ z)
        in_line t x d a z =
            ap (λ (y : List Told). ((t ++ y) ++ d) ++ (a ++ z)) (append-nil (x ++ []) ∙ append-nil x)
            ∙ append_assoc (t ++ x) d (a ++ z)
            ∙ append_assoc t x (d ++ (a ++ z))
            ∙ ap (λ (y : List Told). t ++ (x ++ y)) (sym (append_assoc d a z))
            ∙ ap (λ (y : List Told). t ++ y) (sym (append_assoc x (d ++ a) z))

    abbrev said_lines : List Told
    said_lines = answer_told w (cast_by (family_for key e (steps_to n f e stood step).node) e n) (entries_of (family_for key e (steps_to n f e stood step).node)) (Ok (answer_of f step))

    lines_now : said_lines ≡ all_effect_lines w cast step.effects ++ done_lines
    lines_now = ap (λ (x : Option Family). answer_told w (cast_by x e n) (entries_of x) (Ok (answer_of f step))) for_now

    abbrev put : Node → World
    put x = with_server place (OfNode (Some x)) (with_disk place disk stop w)

    world_now : put (steps_to n f e stood step).node ≡ u
    world_now =
        ap put node_now
        ∙ on_seat_twice place (λ (x : Seat). record x { disk = disk; stop = stop }) (λ (x : Seat). record x { server = OfNode (Some (with_family g m)) }) w s there
        ∙ sym (ap (λ (xs : List Seat). record w { seats = xs })
        (set_twice (slice_set w.seats place s1) place left final ∙ set_twice w.seats place s1 final))
      where
        final : Seat
        final = record left { server = OfNode (Some (with_family g m)) }

    stands_known : Known (applied_at place key e n disk stop (applies key e stood n) w).done.world (told ++ (applied_at place key e n disk stop (applies key e stood n) w).done.lines)
    stands_known =
        let here : Known (requests_all place step.words u).world (told ++ (([] ++ (all_effect_lines w cast step.effects ++ done_lines)) ++ (requests_all place step.words u).lines)) =
        subst (Known (requests_all place step.words u).world)
        (ap (λ (xs : List Told). xs ++ (requests_all place step.words u).lines) all_lines
        ∙ append_assoc told (all_effect_lines w cast step.effects ++ done_lines) (requests_all place step.words u).lines) gone in
        subst (λ (a : Applied). Known (applied_at place key e n disk stop a w).done.world (told ++ (applied_at place key e n disk stop a w).done.lines)) (sym (comes.applied stood))
        (subst (λ (x : World). Known (requests_all place step.words x).world (told ++ (([] ++ said_lines) ++ (requests_all place step.words x).lines))) (sym world_now)
        (subst (λ (ls : List Told). Known (requests_all place step.words u).world (told ++ (([] ++ ls) ++ (requests_all place step.words u).lines))) (sym lines_now) here))

  -- ---- whatever comes of the write

  by_asked : (a : Asked) → asks asked (service_at place) (found_in rs) s.disk s.stop ≡ a → IsWritten a
      → Known (steps_by a place key e n w).done.world (told ++ (steps_by a place key e n w).done.lines)
  by_asked (Answers (Some (answers.Stands at_record)) disk stop) is written = stands_known at_record disk stop is
  by_asked (Answers (Some (answers.Full used need)) disk stop) is written = absurd written
  by_asked (Answers (Some (answers.Unsure why)) disk stop) is written = absurd written
  by_asked (Answers None disk stop) is written = absurd written
  by_asked (Stops image) is written = stopped_known image is

  pub decided_known : IsWritten (asks asked n.service n.found s.disk s.stop) → Known (steps_node (Some n) s place key e w).done.world (told ++ (steps_node (Some n) s place key e w).done.lines)
  decided_known written =
      by_asked (asks (call_wants key e n) n.service n.found s.disk s.stop) (sym comes.asks_so)
      (subst (λ (x : Option Wanted). IsWritten (asks x n.service n.found s.disk s.stop)) (sym comes.wants) written)
