-- What is known of a world is known once an answer was heard that completes a record, of which its Done is asked of the journal; so it is
-- where the node goes down inside the write.
use Rattle.std.proofs.Common.{◌≡◌, ◌≢◌, inl, inr, ℕ, zero, suc, ◌^◌, ◌<◌, ◌≤◌, ◌==◌, ◌&&◌, Bool, true, false, not, cond, is_some, if◌then◌else◌, List, [], ◌∷◌, ◌++◌, map, length, append-nil, get_or, slice_get, length-append, Any, Contains, Option, Some, None, refl, sym, ap, subst, ◌∙◌, arith}
use Rattle.std.specs.List.{AllByRecursion, flat_map, list_any}
use Rattle.std.specs.Option.{option_and_then, option_map}
use Rattle.std.proofs.lemmas.Bool.Decides.{nat_tests}
use Rattle.std.proofs.lemmas.List.Folds.{list_any-from_Any}
use Rattle.ior_refs.specs.declared.key.ObjectKey.{ObjectKey}
use Rattle.ots_model.specs.declared.completion.CallNumber.{CallNumber}
use Rattle.ots_model.specs.declared.completion.Stood.{Stood}
use Rattle.ots_model.specs.declared.completion.Stood.TheVariants as answers
use Rattle.ots_model.specs.declared.tree.Heard.{Heard}
use Rattle.ots_model.specs.declared.tree.Outward.{Outward}
use Rattle.ots_outside.specs.Disk.{DiskState, at_first}
use Rattle.decision_journal.specs.Growing.{JournalsGrow}
use Rattle.decision_journal.specs.Journal.{Found, first_gate, found_in, header, is_decision, is_decision_at}
use Rattle.decision_journal.specs.Layout.{record_octets}
use Rattle.decision_journal.specs.declared.journal.Standing.{Standing}
use Rattle.decision_journal.specs.declared.record.JournalRecord.{JournalRecord}
use Rattle.decision_journal.specs.declared.record.JournalRecord.TheVariants.{Life, Decision, Done, Prepared, CellsPrepared, CellsOutcome, CellsOnePhase}
use Rattle.decision_journal.specs.declared.record.Registration.{Registration}
use Rattle.recovery_coord.specs.Held.{are_done, is_complete, is_decided, is_held, without}
use Rattle.recovery_coord.specs.Hearing.{completed, held_after, record_after, records_after}
use Rattle.recovery_coord.specs.Laws.{CompletesOnce, registrations_of}
use Rattle.recovery_coord.specs.Limits.{retold_slot}
use Rattle.recovery_coord.specs.declared.held.Held.{Held}
use Rattle.recovery_coord.specs.declared.held.Party.{Party}
use Rattle.coordinator.specs.declared.effect.Effect.TheVariants as effects
use Rattle.coordinator.specs.declared.event.Event.{Event}
use Rattle.coordinator.specs.declared.node.NodeFault.TheVariants as faults
use Rattle.coordinator.specs.declared.said.Said.{Said}
use Rattle.coordinator.specs.Family.{Family}
use Rattle.coordinator.specs.Node.{Node, family_of, life}
use Rattle.coordinator.specs.NodeCalls.{Applied, RetoldAnswer, answers_recovered, applied_by, applies, by_records, call_wants, done_told, done_wanted, family_for, hears_record, journaled, records_hear, records_want, records_with, refuses, retold_answer, wanted_by}
use Rattle.coordinator.specs.Step.{Wanted, Appends, WritesDone, Rereads}
use Rattle.family_laws.specs.HeldRecords.{HeldRecordsStood, IsOfStanding, WasHeld}
use Rattle.family_laws.specs.OwnDecisions.{KeepsDecisions, NodesKeepDecisions}
use Rattle.nodes_world.specs.Agreement.{FollowsDisk, records_at}
use Rattle.nodes_world.specs.AgreementInside.{Known, edge_at, journal_end}
use Rattle.nodes_world.specs.AgreementSteps.{StaysKnown}
use Rattle.nodes_world.specs.Deliveries.{answer_event, heard_in}
use Rattle.nodes_world.specs.Disks.{Stop}
use Rattle.nodes_world.specs.Happenings.{Cast, branch_name, effect_lines}
use Rattle.ots_model.specs.declared.line.Line.TheVariants as lines
use Rattle.nodes_world.specs.Journals.{Asked, Answers, Stops, asks, records_on}
use Rattle.nodes_world.specs.Laws.{AreWanted, AskedJournalsKeep, AskedJournalsStop, AskingLeaves, CanAsk, CrashLeaves, IsInOrder, RecordsAreRead}
use Rattle.nodes_world.specs.Nodes.{applied_at, cast_by, crashes, crashes_seat, effects_told, heard_lines, steps_by, steps_node, stopped_at}
use Rattle.nodes_world.specs.Happenings as happen
use Rattle.nodes_world.specs.Objects.{family_key, service_at}
use Rattle.nodes_world.specs.Told as tell
use Rattle.nodes_world.specs.Told.{Told}
use Rattle.nodes_world.specs.World.{World, Seat, OfNode, node_at}
use Rattle.nodes_world.proofs.DoneKnown.{GoesOn, added, gone_on_known, is_done_line, stands_still}
use Rattle.nodes_world.proofs.Edges.{edge_is, end_grows, places_end}
use Rattle.nodes_world.proofs.Going.{on_seat_twice}
use Rattle.nodes_world.proofs.KnownTelling.{IsOne}
use Rattle.nodes_world.proofs.KnownWorlds.{node_there}
use Rattle.nodes_world.proofs.LoadedLines.{all_both}
use Rattle.nodes_world.proofs.LoadedNodes.{standing_placed}
use Rattle.nodes_world.proofs.SoundNodes.{held_whole}

-- the laws of journals on which this rests
pub record JournalLaws : Type 0 where
  pub grow : JournalsGrow
  pub read : RecordsAreRead
  pub keep : AskedJournalsKeep
  pub stop : AskedJournalsStop
  pub complete : CompletesOnce

-- ---- the record that is completed

module _ (number : CallNumber) (heard : Heard) (r : Held) (not_before : is_complete r ≡ false) (later : is_complete (record_after number heard r) ≡ true) where
  -- the answer is for it
  pub own_number : r.place == number.generation ≡ true
  own_number = by (r.place == number.generation) refl
    where
      no : false ≡ true → ⊥
      no e = cc

      by : (b : Bool) → r.place == number.generation ≡ b → b ≡ true
      by true is = refl
      by false is = absurd (no (sym not_before ∙ sym (ap (λ (b : Bool). is_complete (if b then held_after number.serial heard r else r)) is) ∙ later))

  -- and it has registrations
  pub some_party : r.parties ≡ [] → ⊥
  some_party none =
      no (sym not_before ∙ ap (λ (ps : List Party). is_decided r.kind && are_done ps) none
      ∙ sym (ap (λ (ps : List Party). is_complete (held_after number.serial heard (record r { parties = ps }))) none)
      ∙ sym (ap (λ (b : Bool). is_complete (if b then held_after number.serial heard r else r)) own_number) ∙ later)
    where
      no : false ≡ true → ⊥
      no e = cc

none_mapped : {A B : Type 0} (g : A → B) (xs : List A) → map g xs ≡ [] → xs ≡ []
none_mapped g [] is = refl
none_mapped g (x ∷ xs) is = absurd cc

decision_named : (item : JournalRecord) → (registrations_of item ≡ [] → ⊥) → is_decision item ≡ true
decision_named (Life in_life) some = absurd (some refl)
decision_named (Decision in_life slot generation by asked regs) some = refl
decision_named (Done place) some = absurd (some refl)
decision_named (Prepared in_life slot generation recovery regs) some = refl
decision_named (CellsPrepared in_life number recovery puts) some = absurd (some refl)
decision_named (CellsOutcome place how) some = absurd (some refl)
decision_named (CellsOnePhase in_life number puts) some = absurd (some refl)

equal_places : (a b : ℕ) → a ≡ b → (a == b) ≡ true
equal_places a b is = grind (arith, nat_tests)

both_true : (a b : Bool) → a ≡ true → b ≡ true → (a && b) ≡ true
both_true true true one other = refl
both_true false b one other = absurd cc
both_true true false one other = absurd cc

-- a journal can be asked for the Done of a decision that stands
pub can_close : (place : ℕ) (rs : List JournalRecord) (disk : DiskState) → IsInOrder (service_at place) disk rs → (stood : Standing) → Contains (found_in rs).standing stood
    → is_decision stood.item ≡ true → (done : ℕ) → stood.place ≡ done → CanAsk (Some (WritesDone done)) (found_in rs)
can_close place rs disk order stood stands decision done at = (fits, so)
  where
    so : list_any (is_decision_at done) (found_in rs).standing ≡ true
    so = list_any-from_Any (is_decision_at done) (found_in rs).standing
        (stands.0, stood, stands.1, stands.2, both_true _ _ (equal_places stood.place done at) decision)

    fits : done < 2 ^ 32
    fits =
        let end = places_end first_gate rs stood (standing_placed rs stood stands) in
        let both = length-append (header (service_at place)) (flat_map record_octets rs) in
        let within = order.stands.within in
        omega (arith, end, both, within, at)

-- what is left of records isn't at the place of the one that went
not_left : (place : ℕ) (xs : List Held) (y : Held) → Contains (without place xs) y → y.place ≢ place
not_left place [] y c = let l = c.1 in absurd (omega (arith, l))
not_left place (x ∷ xs) y c = go (not (x.place == place)) refl c (not_left place xs y)
  where
    other : (a b : ℕ) → not (a == b) ≡ true → a ≢ b
    other a b is = grind (arith, nat_tests)

    first : not (x.place == place) ≡ true → (i : ℕ) → i < suc (length (without place xs)) → get_or (x ∷ without place xs) i y ≡ y
        → (Contains (without place xs) y → y.place ≢ place) → y.place ≢ place
    first is zero l e rest = subst (λ (z : Held). z.place ≢ place) e (other x.place place is)
    first is (suc i) l e rest = rest (i, omega (arith, l), e)

    go : (t : Bool) → not (x.place == place) ≡ t → Contains (cond t (x ∷ without place xs) (without place xs)) y
        → (Contains (without place xs) y → y.place ≢ place) → y.place ≢ place
    go true is d rest = first is d.0 d.1 d.2 rest
    go false is d rest = rest d

-- ---- what was asked for, and its line

pub wanted_more : (done : ℕ) (more : List JournalRecord) → AreWanted (Some (WritesDone done)) more → (x : Option ℕ) × (more ≡ added x)
wanted_more done [] is = (None, refl)
wanted_more done (r ∷ []) is = (Some done, ap (λ (y : JournalRecord). y ∷ []) is)
wanted_more done (r ∷ s ∷ others) is = absurd is

done_line : (w : World) (c : Cast) → AllByRecursion (IsOne is_done_line) (effect_lines w c effects.Done)
unfolding effect_lines
done_line w c = by (branch_name w c 0)
  where
    by : (o : Option (List ℕ)) → AllByRecursion (IsOne is_done_line) (happen.naming (λ (name : List ℕ). tell.Known (lines.Done name)) o)
    by (Some name) = (refl, tt)
    by None = tt

done_lines : (w : World) (c : Option Cast) (x : Option ℕ) (stood : Option Stood) → AllByRecursion (IsOne is_done_line) (effects_told w c (done_told x stood))
done_lines w (Some c) (Some place) (Some (answers.Stands at)) = all_both (IsOne is_done_line) (effect_lines w c effects.Done) [] (done_line w c) tt
done_lines w (Some c) (Some place) (Some (answers.Full used need)) = tt
done_lines w (Some c) (Some place) (Some (answers.Unsure doubt)) = tt
done_lines w (Some c) (Some place) None = tt
done_lines w (Some c) None stood = tt
done_lines w None x stood = tt

-- ---- an answer to a word that was told again

module _ (place now : ℕ) (o : Outward) (answer : Said) (n : Node) (again : o.number.slot == retold_slot ≡ true) where
  abbrev pub record_key : ObjectKey
  record_key = family_key place o.number

  abbrev pub record_event : Event
  record_event = answer_event o answer now

  retold_so : retold_answer record_event.act ≡ Some (record { number = o.number; heard = heard_in answer })
  retold_so = ap (λ (b : Bool). if b then Some (record { number = o.number; heard = heard_in answer }) else None) again

  pub for_none : family_for record_key record_event n ≡ None
  for_none = ap (λ (x : Option RetoldAnswer). if is_some x then None else family_of record_key n) retold_so

  pub applied_again : (stood : Option Stood) → applies record_key record_event stood n ≡ hears_record o.number (heard_in answer) stood n
  unfolding applies answers_recovered
  applied_again stood =
      ap (λ (x : Option Family). applied_by x record_key record_event stood n) for_none
      ∙ ap (λ (x : Option RetoldAnswer). by_records x record_key record_event stood n) retold_so

  pub wants_again : call_wants record_key record_event n ≡ done_wanted o.number (heard_in answer) n
  unfolding call_wants
  wants_again = ap (λ (x : Option Family). wanted_by x record_event n) for_none ∙ ap (λ (x : Option RetoldAnswer). records_want x n) retold_so

module _ (laws : JournalLaws) (nodes : NodesKeepDecisions) (stood_law : HeldRecordsStood) (w : World) (place now : ℕ) (o : Outward) (answer : Said) (s : Seat) (n : Node) (done : ℕ)
    (there : slice_get w.seats place ≡ Some s) (up : s.server ≡ OfNode (Some n)) (again : o.number.slot == retold_slot ≡ true)
    (completes : completed (life n) o.number (heard_in answer) n.recovered ≡ Some done) (told : List Told) (k : Known w told) where
  abbrev key : ObjectKey
  key = family_key place o.number

  abbrev e : Event
  e = answer_event o answer now

  abbrev wanted : Option Wanted
  wanted = Some (WritesDone done)

  wants : done_wanted o.number (heard_in answer) n ≡ wanted
  wants = ap (option_map WritesDone) completes

  call_wants_it : call_wants key e n ≡ wanted
  call_wants_it = wants_again place now o answer n again ∙ wants

  turns : Any (λ (r : Held). (r.place ≡ done) × (is_complete r ≡ false) × (is_complete (record_after o.number (heard_in answer) r) ≡ true)) n.recovered
  turns = laws.complete (life n) o.number (heard_in answer) n.recovered done completes

  abbrev r : Held
  r = turns.1

  among : Contains n.recovered r
  among = (turns.0, turns.2, turns.3)

  is_there : is_held o.number.generation n.recovered ≡ true
  is_there = list_any-from_Any (λ (x : Held). x.place == o.number.generation) n.recovered
      (turns.0, r, turns.2, turns.3, own_number o.number (heard_in answer) r turns.4.1 turns.4.2)

  whole : (h : Held) → Contains n.recovered h → IsOfStanding n.found.standing h
  whole h c = (k.disks.decisions place s n there up).whole h c

  stands : IsOfStanding n.found.standing r
  stands = whole r among

  decision : is_decision stands.stood.item ≡ true
  decision = decision_named stands.stood.item (λ none. some_party o.number (heard_in answer) r turns.4.1 turns.4.2
      (none_mapped (λ (p : Party). p.to) r.parties (stands.references ∙ ap (map (λ (g : Registration). g.reference)) none)))

  at_done : stands.stood.place ≡ done
  at_done = stands.same_place ∙ turns.4.0

  -- ---- its journal

  node_up : node_at w place ≡ Some n
  node_up = node_there w place s n there up

  disk_follows : FollowsDisk place s n
  disk_follows = k.disks.follows place s n there up

  abbrev rs : List JournalRecord
  rs = disk_follows.records

  held : records_at w place ≡ Some rs
  held = ap (λ (x : Option Seat). option_and_then (λ (y : Seat). records_on (service_at place) y.disk) x) there ∙ disk_follows.held

  order : IsInOrder (service_at place) s.disk rs
  order = (k.nodes place n node_up).order s rs there held

  found : n.found ≡ found_in rs
  found = disk_follows.found

  can : CanAsk wanted (found_in rs)
  can = can_close place rs s.disk order stands.stood (subst (λ (f : Found). Contains f.standing stands.stood) found stands.there) decision done at_done

  pub can_now : CanAsk wanted n.found
  can_now = subst (CanAsk wanted) (sym found) can

  asked_is : asks (call_wants key e n) n.service n.found s.disk s.stop ≡ asks wanted (service_at place) (found_in rs) s.disk s.stop
  asked_is =
      ap (λ (x : Option Wanted). asks x n.service n.found s.disk s.stop) call_wants_it
      ∙ ap (λ (x : ℕ). asks wanted x n.found s.disk s.stop) disk_follows.service
      ∙ ap (λ (f : Found). asks wanted (service_at place) f s.disk s.stop) found

  -- ---- it answers

  module _ (stood : Option Stood) (disk : DiskState) (stop : Option Stop)
      (asked : asks wanted (service_at place) (found_in rs) s.disk s.stop ≡ Answers stood disk stop) where
    abbrev hears : Applied
    hears = records_hear o.number (heard_in answer) stood n

    abbrev m : Node
    m = hears.node

    applied_is : applies key e stood n ≡ hears
    unfolding hears_record
    applied_is =
        applied_again place now o answer n again stood
        ∙ ap (λ (b : Bool). if b then records_hear o.number (heard_in answer) stood n else refuses faults.ObjectNotExist n) is_there

    leaves : AskingLeaves (service_at place) rs wanted stood disk
    leaves = laws.keep wanted (service_at place) rs s.disk s.stop stood disk stop order can asked

    more : (x : Option ℕ) × (leaves.more ≡ added x)
    more = wanted_more done leaves.more leaves.asked

    order_then : IsInOrder (service_at place) disk (rs ++ added more.0)
    order_then = subst (λ (x : List JournalRecord). IsInOrder (service_at place) disk (rs ++ x)) more.1 leaves.order

    found_m : m.found ≡ journaled wanted stood n.found
    found_m = ap (λ (x : Option Wanted). journaled x stood n.found) wants

    found_then : m.found ≡ found_in (rs ++ added more.0)
    found_then =
        found_m ∙ ap (journaled wanted stood) found ∙ leaves.found ∙ ap (λ (x : List JournalRecord). found_in (rs ++ x)) more.1

    abbrev after : List Held
    after = records_after (life n) o.number (heard_in answer) n.recovered

    recovered_m : m.recovered ≡ records_with (Some done) stood after
    recovered_m = ap (λ (x : Option ℕ). records_with x stood after) completes

    was_held : (h : Held) → Contains m.recovered h → WasHeld n.recovered h
    was_held h c = stood_law.called key e stood n h (subst (λ (a : Applied). Contains a.node.recovered h) (sym applied_is) c)

    whole_by : (x : Option Stood) (h : Held) → m.found ≡ journaled wanted x n.found → Contains (records_with (Some done) x after) h → WasHeld n.recovered h → IsOfStanding m.found.standing h
    whole_by (Some (answers.Stands at)) h is c was =
        let old = whole was.before was.there in
        let same : old.stood.place ≡ h.place = old.same_place ∙ was.same_place in
        record {
          stood = old.stood;
          there = subst (λ (f : Found). Contains f.standing old.stood) (sym is)
              (stands_still done n.found.standing old.stood old.there (λ e. not_left done after h c (sym same ∙ e)));
          same_place = same;
          numbers = was.numbers ∙ old.numbers;
          references = was.references ∙ old.references;
        }
    whole_by (Some (answers.Full used need)) h is c was = held_whole n m is whole h (inl was)
    whole_by (Some (answers.Unsure doubt)) h is c was = held_whole n m is whole h (inl was)
    whole_by None h is c was = held_whole n m is whole h (inl was)

    goes : GoesOn n m rs more.0
    goes = record {
      service = refl;
      generation = refl;
      families = refl;
      found = found_then;
      sound = subst (λ (a : Applied). KeepsDecisions (journal_end (rs ++ added more.0)) a.node) applied_is
          (nodes.called (edge_at w place) (journal_end (rs ++ added more.0)) key e stood n
          (subst (λ (i : ℕ). i ≤ journal_end (rs ++ added more.0)) (sym (edge_is w place rs held)) (end_grows rs (added more.0)))
          (λ item at is so. absurd (not_appended (sym call_wants_it ∙ is))) (λ x at called is so. absurd (not_read (sym call_wants_it ∙ is)))
          (k.nodes place n node_up).sound);
      was = was_held;
      whole = λ h c. whole_by stood h found_m (subst (λ (x : List Held). Contains x h) recovered_m c) (was_held h c);
    }
      where
        not_appended : {item : JournalRecord} → wanted ≡ Some (Appends item) → ⊥
        not_appended e = cc

        not_read : wanted ≡ Some Rereads → ⊥
        not_read e = cc

    goes_by : (c : Node) → Some m ≡ Some c → GoesOn n c rs more.0
    goes_by c is = subst (λ (x : Node). GoesOn n x rs more.0) (some_same is) goes
      where
        some_same : {a b : Node} → Some a ≡ Some b → a ≡ b
        some_same e = cc

    abbrev some : List Told
    some = ([] ++ (effects_told w (cast_by (family_for key e m) e n) (done_told (completed (life n) o.number (heard_in answer) n.recovered) stood) ++ [])) ++ []

    dones : AllByRecursion (IsOne is_done_line) some
    dones = all_both (IsOne is_done_line) _ [] (all_both (IsOne is_done_line) _ []
        (done_lines w (cast_by (family_for key e m) e n) (completed (life n) o.number (heard_in answer) n.recovered) stood) tt) tt

    answered : Known (applied_at place key e n disk stop (applies key e stood n) w).done.world (told ++ (applied_at place key e n disk stop (applies key e stood n) w).done.lines)
    answered =
        subst (λ (a : Applied). Known (applied_at place key e n disk stop a w).done.world (told ++ (applied_at place key e n disk stop a w).done.lines)) (sym applied_is)
        (subst (λ (x : World). Known x (told ++ some))
        (sym (on_seat_twice place (λ (x : Seat). record x { disk = disk; stop = stop }) (λ (x : Seat). record x { server = OfNode (Some m) }) w s there))
        (gone_on_known laws.grow laws.read w place s n told there up k rs held more.0 disk order_then stop (Some m) goes_by some dones))

  -- ---- the node goes down inside the write

  module _ (image : List ℕ) (asked : asks wanted (service_at place) (found_in rs) s.disk s.stop ≡ Stops image) where
    left : CrashLeaves (service_at place) rs wanted image
    left = laws.stop wanted (service_at place) rs s.disk s.stop image order can asked

    left_more : (x : Option ℕ) × IsInOrder (service_at place) (at_first image) (rs ++ added x)
    left_more = elim left.leaves [
      | inl before ↦ (None, subst (IsInOrder (service_at place) (at_first image)) (sym (append-nil rs)) before)
      | inr and_one ↦ (Some done, subst (λ (x : JournalRecord). IsInOrder (service_at place) (at_first image) (rs ++ x ∷ [])) left.asked and_one)
    ]

    crash_is : crashes place image w ≡ crashes_seat place image s w
    unfolding crashes
    crash_is = ap (λ (x : Option Seat). elim x as (λ _. happen.Done) [ Some y ↦ crashes_seat place image y w | None ↦ happen.nothing w ]) there

    nothing_up : (c : Node) → None ≡ Some c → GoesOn n c rs left_more.0
    nothing_up c is = absurd cc

    stopped : Known (stopped_at place key e n image w).done.world (told ++ (stopped_at place key e n image w).done.lines)
    stopped =
        subst (λ (f : Option Family). Known (crashes place image w).world (told ++ (heard_lines w f e ++ (crashes place image w).lines))) (sym (for_none place now o answer n again))
        (subst (λ (d : happen.Done). Known d.world (told ++ ([] ++ d.lines))) (sym crash_is)
        (subst (λ (x : World). Known x (told ++ tell.Down s.name ∷ []))
        (sym (on_seat_twice place (λ (x : Seat). record x { disk = at_first image; stop = None }) (λ (x : Seat). record x { server = OfNode None }) w s there))
        (gone_on_known laws.grow laws.read w place s n told there up k rs held left_more.0 (at_first image) left_more.1 None None nothing_up (tell.Down s.name ∷ []) (tt, tt))))

  by_asked : (a : Asked) → asks wanted (service_at place) (found_in rs) s.disk s.stop ≡ a
      → Known (steps_by a place key e n w).done.world (told ++ (steps_by a place key e n w).done.lines)
  by_asked (Answers stood disk stop) is = answered stood disk stop is
  by_asked (Stops image) is = stopped image is

  pub completed_known : Known (steps_node (Some n) s place key e w).done.world (told ++ (steps_node (Some n) s place key e w).done.lines)
  completed_known = by_asked (asks (call_wants key e n) n.service n.found s.disk s.stop) (sym asked_is)

pub known_completes : (laws : JournalLaws) (nodes : NodesKeepDecisions) (stood : HeldRecordsStood) (w : World) (place now : ℕ) (o : Outward) (answer : Said) (s : Seat) (n : Node)
    (done : ℕ) → slice_get w.seats place ≡ Some s → s.server ≡ OfNode (Some n) → o.number.slot == retold_slot ≡ true
    → completed (life n) o.number (heard_in answer) n.recovered ≡ Some done
    → StaysKnown w (steps_node (Some n) s place (family_key place o.number) (answer_event o answer now) w).done
known_completes laws nodes stood w place now o answer s n done there up again completes told k =
    completed_known laws nodes stood w place now o answer s n done there up again completes told k
