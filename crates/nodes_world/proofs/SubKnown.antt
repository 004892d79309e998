-- What is known of a world is known once a client has a subtransaction made.
use Rattle.std.proofs.Common.{◌≡◌, inl, inr, ℕ, suc, ◌+◌, ◌<◌, ◌==◌, ◌&&◌, Bool, true, false, cond, is_some, IsTrue, if◌then◌else◌, List, [], ◌∷◌, ◌++◌, length, nat_lt, not, position, slice_get, append_assoc, append-nil, Contains, Option, Some, None, refl, sym, ap, subst, ◌∙◌, arith}
use Rattle.std.proofs.lemmas.Bool.Decides.{nat_tests}
use Rattle.std.proofs.lemmas.List.Elements.{Contains-append_right}
use Rattle.std.specs.List.{AllByRecursion, prefix_len}
use Rattle.std.specs.Option.{option_map_or, option_and_then}
use Rattle.ior_refs.specs.declared.key.ObjectKey.{ObjectKey}
use Rattle.ots_model.specs.declared.line.Line.TheVariants as lines
use Rattle.ots_model.specs.declared.completion.CallNumber.{CallNumber}
use Rattle.ots_model.specs.declared.service.RetryKey.{RetryKey}
use Rattle.ots_model.specs.declared.tree.Heard.{Heard}
use Rattle.coordinator.specs.declared.event.Act.TheVariants as acts
use Rattle.coordinator.specs.declared.event.Event.{Event}
use Rattle.coordinator.specs.declared.node.NodeFault.TheVariants as faults
use Rattle.coordinator.specs.declared.said.Entry.{Entry}
use Rattle.coordinator.specs.declared.said.Said.{Said}
use Rattle.coordinator.specs.declared.said.Said.TheVariants as said
use Rattle.coordinator.specs.Family.{Family}
use Rattle.coordinator.specs.History.{answer_at, has_key, has_room, is_later, kept, kept_for, same_key}
use Rattle.coordinator.specs.Node.{Node, family_in, family_of, is_of, with_family}
use Rattle.coordinator.specs.NodeCalls.{Applied, answers_recovered, applied_by, applies, family_for, refuses, replies, steps_to}
use Rattle.coordinator.specs.NodeRecords.{record_of, record_says}
use Rattle.coordinator.specs.Step.{Stepped, Wanted, family_step, wanted}
use Rattle.decision_journal.specs.Journal.{Found}
use Rattle.recovery_coord.specs.declared.held.Held.{Held}
use Rattle.family_laws.specs.Sound.{IsSoundFamily}
use Rattle.family_laws.specs.OwnDecisions.{KeepsDecisions, NodesKeepDecisions}
use Rattle.nodes_world.specs.declared.message.Content.TheVariants as contents
use Rattle.nodes_world.specs.declared.message.Message.{Message}
use Rattle.nodes_world.specs.declared.thing.Thing.TheVariants as things
use Rattle.nodes_world.specs.Agreement.{GoesOnFrom}
use Rattle.nodes_world.specs.AgreementInside.{Known, HasMessage, IsBranch, edge_at}
use Rattle.nodes_world.specs.AgreementSteps.{IsQuiet, StaysKnown}
use Rattle.nodes_world.specs.Clients.{acts_at, answered_with, call_event, called_line, calls, created, creates_sub, said_in, said_lines, then_answers}
use Rattle.nodes_world.specs.Happenings.{Done, ◌▹◌, client_message, naming, nothing}
use Rattle.nodes_world.specs.Journals.{Asked}
use Rattle.nodes_world.specs.Limits.{script_client}
use Rattle.nodes_world.specs.Nodes.{Stepping, applied_at, cast_by, no_step, steps, steps_by, steps_node}
use Rattle.nodes_world.specs.Objects.{branch_of, place_of}
use Rattle.nodes_world.specs.Told as tell
use Rattle.nodes_world.specs.Told.{Told, operation_of}
use Rattle.nodes_world.specs.World.{World, Seat, OfNode, family_at, next_message, node_at, node_in, thing, transaction_name, with_name, with_sent}
use Rattle.nodes_world.proofs.Going.{node_up}
use Rattle.nodes_world.proofs.KnownAlike.{known_alike}
use Rattle.nodes_world.proofs.BranchNames.{named_key}
use Rattle.nodes_world.proofs.KnownCalling.{called_known, called_one}
use Rattle.nodes_world.proofs.KnownFamilies.{same_parts}
use Rattle.nodes_world.proofs.KnownFrames.{place_within, push_last}
use Rattle.nodes_world.proofs.CallKnown as call
use Rattle.nodes_world.proofs.CallKnown.{answers_nothing, for_key, tidy_of}
use Rattle.nodes_world.proofs.StepIs.{FamilyLaws, keeps_is}
use Rattle.nodes_world.proofs.StepsKeep.{StepKeeps}
use Rattle.nodes_world.proofs.RulesKeep.{IsTidy}
use Rattle.nodes_world.proofs.SubSteps.{Makes, call_was, creating_event, creating_step, made_step}
use Rattle.nodes_world.proofs.SubWhole.{sub_known}
use Rattle.nodes_world.proofs.StepSeats as seats
use Rattle.nodes_world.proofs.StepsAsk.{called_asks, first_call}

-- ---- one thing after another

pub stays_then : (w : World) (first : Done) (next : World → Done) → StaysKnown w first → StaysKnown first.world (next first.world) → StaysKnown w (first ▹ next)
stays_then w first next one other told k =
    subst (Known (next first.world).world) (append_assoc told first.lines (next first.world).lines) (other (told ++ first.lines) (one told k))

said_quietly : (message : ℕ) (later : Bool) (answer : Said) → AllByRecursion IsQuiet (said_lines message later answer)
said_quietly message true answer = tt
said_quietly message false answer = (tt, tt)

-- its answer is told
pub answer_stays : (w : World) (message : ℕ) (answer : Said) → StaysKnown w (record { world = w; lines = said_lines message (is_later answer) answer })
answer_stays w message answer =
    known_alike w w (said_lines message (is_later answer) answer) (record { names = refl; seats = refl; messages = refl }) (said_quietly message (is_later answer) answer)

-- ---- a call that is no repeat

all_before : {A : Type 0} (test : A → Bool) (xs : List A) → ((x : A) → Contains xs x → test x ≡ false) → prefix_len (λ (x : A). not (test x)) xs ≡ length xs
all_before test [] none = refl
all_before {A = A} test (x ∷ xs) none = by (test x) (none x (0, omega arith, refl)) (all_before test xs (λ y c. none y (Contains-append_right (x ∷ []) xs y c)))
  where
    by : (b : Bool) → b ≡ false → prefix_len (λ (y : A). not (test y)) xs ≡ length xs
        → cond (not b) (1 + prefix_len (λ (y : A). not (test y)) xs) 0 ≡ suc (length xs)
    by true is rest = absurd cc
    by false is rest = omega (arith, rest)

not_less : (n : ℕ) → nat_lt n n ≡ false
not_less n = grind (arith, nat_tests)

none_there : {A : Type 0} (test : A → Bool) (xs : List A) → ((x : A) → Contains xs x → test x ≡ false) → position test xs ≡ None
none_there test xs none =
    ap (λ (n : ℕ). cond (nat_lt n (length xs)) (Some n) None) (all_before test xs none) ∙ ap (λ (b : Bool). cond b (Some (length xs)) None) (not_less (length xs))

not_its : (key : RetryKey) (o : Option RetryKey) → ((r : RetryKey) → o ≡ Some r → r.number ≡ key.number → ⊥) → option_map_or (same_key key) o false ≡ false
not_its key (Some r) other = by (key.number == r.number) refl
  where
    equal : key.number == r.number ≡ true → r.number ≡ key.number
    equal is = grind (arith, nat_tests, is)

    both : (a b : Bool) → b ≡ false → a && b ≡ false
    both true b is = is
    both false b is = refl

    by : (b : Bool) → key.number == r.number ≡ b → (key.client == r.client && key.number == r.number) ≡ false
    by true is = absurd (other r refl (equal is))
    by false is = both (key.client == r.client) (key.number == r.number) is
not_its key None other = refl

pub not_kept : (entries : List Entry) (key : RetryKey) → ((e : Entry) (r : RetryKey) → Contains entries e → e.event.key ≡ Some r → r.number ≡ key.number → ⊥)
    → kept_for entries (Some key) ≡ None
unfolding kept
not_kept entries key other =
    ap (λ (o : Option ℕ). option_and_then (answer_at entries) o)
    (none_there (has_key key) entries (λ e among. not_its key e.event.key (λ r is same. other e r among is same)))

-- it asks nothing of the journal
either_none : (t : Bool) (o : Option Wanted) → o ≡ None → (if t then None else o) ≡ None
either_none true o is = refl
either_none false o is = is

creating_wants : (f : Family) (by : Option RetryKey) (b now : ℕ) → wanted f (creating_event by b now) ≡ None
unfolding wanted
creating_wants f by b now = either_none (is_some (kept_for f.entries by)) None refl

not_answer : (number : CallNumber) (h : Heard) → acts.CreateSubtransaction ≡ acts.Answer number h → ⊥
not_answer number h is = cc

-- ---- the deed

same_five : (a b c d e p q r s t x y z u : ℕ) → a ≡ x → b ≡ y → c ≡ z → d ≡ u → p ≡ x → q ≡ y → r ≡ z → s ≡ u → e ≡ t
    → (a == p && b == q && c == r && d == s && e == t) ≡ true
same_five a b c d e p q r s t x y z u one two three four five six seven eight nine = grind (arith, nat_tests)

module _ (laws : FamilyLaws) (nodes : NodesKeepDecisions) (w : World) (parent : ObjectKey) (name : List ℕ) (free : thing w name ≡ None) (few : GoesOnFrom w) (told : List Told)
    (k : Known w told) where
  abbrev sent : Message
  sent = client_message (contents.Call parent acts.CreateSubtransaction)

  abbrev u : World
  u = with_sent sent w

  abbrev message : ℕ
  message = next_message w

  abbrev lines_then : List Told
  lines_then = called_line message (operation_of acts.CreateSubtransaction) (transaction_name w parent)

  abbrev later : List Told
  later = told ++ lines_then

  k_sent : Known u later
  k_sent = called_known w told lines_then parent acts.CreateSubtransaction few k (λ flag. called_one flag message (operation_of acts.CreateSubtransaction) (transaction_name w parent))

  abbrev retry : RetryKey
  retry = record { client = script_client; number = message }

  family_was : (key : ObjectKey) (f : Family) → family_at u key ≡ Some f → family_at w key ≡ Some f
  unfolding node_at
  family_was key f there = there

  -- the call is no repeat
  new_call : (key : ObjectKey) (f : Family) → family_at u key ≡ Some f → kept_for f.entries (Some retry) ≡ None
  new_call key f there = not_kept f.entries retry (λ e r among is same.
      let at = (k.families key f (family_was key f there)).came e r among is in
      let less = place_within w.messages at.0 at.1 at.2 in
      let number = at.3 in
      omega (arith, less, number, same))

  has_come : (r : RetryKey) → Some retry ≡ Some r → HasMessage u r
  has_come r is = (length w.messages, sent, push_last w.messages sent, sym (ap (λ (x : RetryKey). x.number) (inner is)), few, sym (ap (λ (x : RetryKey). x.client) (inner is)))
    where
      inner : {x y : RetryKey} → Some x ≡ Some y → x ≡ y
      inner e = cc

  NoBranch : Said → Type 0
  NoBranch answer = (x : ℕ) → answer ≡ said.Made x → ⊥

  created_not : (answer : Said) → ((x : ℕ) → answer ≡ said.Made x → ⊥) → (x : World) → created parent name answer x ≡ nothing x
  created_not (said.Made branch) none x = absurd (none branch refl)
  created_not _ none x = refl

  -- ---- it comes to a node

  module _ (s : Seat) (n : Node) (there : slice_get w.seats (place_of parent) ≡ Some s) (up : s.server ≡ OfNode (Some n)) (now : ℕ) where
    abbrev place : ℕ
    place = place_of parent

    abbrev e : Event
    e = creating_event (Some retry) parent.index now

    abbrev done_by : Applied → Done
    done_by a = (applied_at place parent e n s.disk s.stop a u).done

    abbrev Ends : Applied → Type 0
    Ends a = Known (done_by a ▹ answered_with message (created parent name) (Some a.answer)).world
        (later ++ (done_by a ▹ answered_with message (created parent name) (Some a.answer)).lines)

    -- no branch comes of it
    no_branch : (a : Applied) → Known (done_by a).world (later ++ (done_by a).lines) → ((x : ℕ) → said_in a.answer ≡ said.Made x → ⊥) → Ends a
    no_branch a known none =
        let answer : Said = said_in a.answer in
        let x : World = (done_by a).world in
        let told_then = answer_stays x message answer (later ++ (done_by a).lines) known in
        subst (λ (d : Done). Known d.world (later ++ ((done_by a).lines ++ (d.lines ++ said_lines message (is_later answer) answer)))) (sym (created_not answer none x))
        (subst (Known x) (append_assoc later (done_by a).lines (said_lines message (is_later answer) answer)) told_then)

    -- ---- a family's step

    module _ (f : Family) (of : family_of parent n ≡ Some f) where
      unwanted : wanted f e ≡ None
      unwanted = creating_wants f (Some retry) parent.index now

      found : family_at u parent ≡ Some f
      found = call.found u place s n there up laws nodes parent refl e refl has_come f unwanted of later k_sent

      -- it makes none
      not_made : (IsTidy f → StepKeeps f (family_step f e None)) → ((x : ℕ) → (family_step f e None).said ≡ said.Made x → ⊥)
          → applies parent e None n ≡ steps_to n f e None (family_step f e None) → Ends (steps_to n f e None (family_step f e None))
      not_made keeps none same =
          no_branch (steps_to n f e None (family_step f e None))
          (call.step_stays u place s n there up laws nodes parent refl e refl has_come f unwanted of later k_sent
          (keeps_is laws f e None (λ number vote among. let heard = laws.votes.told f e None number vote (k_sent.families parent f found).sound among in not_answer heard.number _ heard.answer) (k_sent.families parent f found).sound (keeps (tidy_of u later k_sent parent f found))
          (called_asks f e None refl (k_sent.families parent f found).ready)) same) none

      -- it makes one
      module _ (inside : parent.index < length f.rows) (entry : Entry) (is : family_step f e None ≡ made_step f parent.index entry)
          (same : applies parent e None n ≡ steps_to n f e None (family_step f e None)) where
        abbrev step : Stepped
        step = made_step f parent.index entry

        abbrev g : Family
        g = step.family

        abbrev own_key : ObjectKey
        own_key = branch_of parent (length f.rows)

        at_place : place_of f.key ≡ place
        at_place = call.at_place u place s n there up laws nodes parent refl e refl has_come f unwanted of later k_sent

        slotted : family_in n.families f.key.slot ≡ Some f
        slotted = call.slotted u place s n there up laws nodes parent refl e refl has_come f unwanted of later k_sent

        own_of : IsTrue (is_of parent f)
        own_of = call.own_of u place s n there up laws nodes parent refl e refl has_come f unwanted of later k_sent

        sound_family : IsSoundFamily g
        sound_family = subst (λ (t : Stepped). IsSoundFamily t.family) is (laws.sound.steps f e None (k_sent.families parent f found).sound)

        sound_node : KeepsDecisions (edge_at u place) (with_family g n)
        sound_node = subst (λ (t : Stepped). KeepsDecisions (edge_at u place) (with_family t.family n)) is
            (call.sound_now u place s n there up laws nodes parent refl e refl has_come f unwanted of later k_sent same)

        entries_came : (x : Entry) (r : RetryKey) → Contains g.entries x → x.event.key ≡ Some r → HasMessage u r
        entries_came x r among by =
            call.entries_came u place s n there up laws nodes parent refl e refl has_come f unwanted of later k_sent x r
            (subst (λ (t : Stepped). Contains t.family.entries x) (sym is) among) by

        parent_named : (t : List ℕ) × IsBranch u f t parent.index
        parent_named = (k_sent.families parent f found).branches parent.index inside

        abbrev above : List ℕ
        above = parent_named.0

        parent_name : transaction_name u parent ≡ Some above
        parent_name =
            let b = parent_named.1 in
            let x = same_parts b.0.service b.0.life b.0.slot b.0.generation f.key.service f.key.life f.key.slot f.key.generation b.2 in
            let y = same_parts parent.service parent.life parent.slot parent.generation f.key.service f.key.life f.key.slot f.key.generation own_of in
            named_key u later k_sent above b.0 parent b.1
            (same_five b.0.service b.0.life b.0.slot b.0.generation b.0.index parent.service parent.life parent.slot parent.generation parent.index f.key.service
            f.key.life f.key.slot f.key.generation x.0 x.1 x.2 x.3 y.0 y.1 y.2 y.3 b.3)

        v : World
        v = seats.v u place s n f g there up refl slotted at_place

        named_world : Known (with_name name (things.Transaction own_key) (seats.v u place s n f g there up refl slotted at_place))
            (later ++ tell.Known (lines.Sub name above) ∷ [])
        named_world =
            sub_known u place s n f g there up refl slotted at_place later k_sent parent found name free above parent.index parent_named.1 own_key refl own_of refl inside
            (record { serial = refl; waits = first_call f.calls; asks = refl; ready = λ ready b c is. ready b c (call_was f.calls b c is) })
            refl refl refl sound_family (λ b c under. ((k_sent.families parent f found).dues b c (call_was f.calls b c under), (k_sent.families parent f found).legs b c (call_was f.calls b c under))) entries_came sound_node

        abbrev a : Applied
        a = steps_to n f e None step

        node_now : a.node ≡ with_family g n
        node_now = ap (λ (x : Found). with_family g (record n { found = x })) (call.none_journaled u place s n there up (wanted f e) unwanted n.found)

        world_now : call.put u place s n there up a.node ≡ seats.v u place s n f g there up refl slotted at_place
        world_now = ap (call.put u place s n there up) node_now ∙ call.seated u place s n there up (with_family g n)

        name_there : transaction_name (seats.v u place s n f g there up refl slotted at_place) parent ≡ Some above
        unfolding transaction_name
        name_there = parent_name

        abbrev answer : Said
        answer = said.Made (length f.rows)

        -- what is told, in the world in which it is
        abbrev told_in : World → List Told → List Told
        told_in x some = (([] ++ (some ++ [])) ++ []) ++ ((naming (λ (higher : List ℕ). tell.Known (lines.Sub name higher)) (transaction_name x parent)) ++ said_lines message false answer)

        told_last : Known (with_name name (things.Transaction own_key) (seats.v u place s n f g there up refl slotted at_place))
            (later ++ told_in (seats.v u place s n f g there up refl slotted at_place) [])
        told_last =
            let x = with_name name (things.Transaction own_key) (seats.v u place s n f g there up refl slotted at_place) in
            subst (λ (o : Option (List ℕ)). Known x (later ++ ((naming (λ (higher : List ℕ). tell.Known (lines.Sub name higher)) o) ++ said_lines message false answer)))
            (sym name_there)
            (subst (Known x) (append_assoc later (tell.Known (lines.Sub name above) ∷ []) (said_lines message false answer))
            (answer_stays x message answer (later ++ tell.Known (lines.Sub name above) ∷ []) named_world))

        made_ends : Ends a
        made_ends =
            subst (λ (some : List Told). Known (with_name name (things.Transaction own_key) (call.put u place s n there up a.node))
            (later ++ told_in (call.put u place s n there up a.node) some)) (sym (call.nothing_told u place s n there up (cast_by (family_for parent e a.node) e n)))
            (subst (λ (x : World). Known (with_name name (things.Transaction own_key) x) (later ++ told_in x [])) (sym world_now) told_last)

        made : Ends (steps_to n f e None (family_step f e None))
        made = subst (λ (t : Stepped). Ends (steps_to n f e None t)) (sym is) made_ends

      -- it is one or the other
      by_step : Makes f parent.index (family_step f e None) → applies parent e None n ≡ steps_to n f e None (family_step f e None)
          → Ends (steps_to n f e None (family_step f e None))
      by_step (inl kept) same = not_made kept.0 kept.1 same
      by_step (inr (inside, (entry, is))) same = made inside entry is same

      by_room : (b : Bool) → (b ≡ true → Ends (steps_to n f e None (family_step f e None)))
          → Ends (if b then steps_to n f e None (family_step f e None) else refuses faults.NoResources n)
      by_room true goes = goes refl
      by_room false goes = no_branch (refuses faults.NoResources n) (call.refused_stays u place s n there up parent e faults.NoResources later k_sent) (λ x is. absurd cc)

    -- ---- any node

    by_family_for : (o : Option Family) → family_for parent e n ≡ o → Ends (applied_by o parent e None n)
    unfolding answers_recovered applies
    by_family_for (Some f) is =
        let of : family_of parent n ≡ Some f = sym (for_key parent e n refl) ∙ is in
        by_room f of (has_room f.entries e)
        (λ room. by_step f of (creating_step f (Some retry) parent.index now (new_call parent f (found f of)))
        (ap (λ (o : Option Family). applied_by o parent e None n) is
        ∙ ap (λ (b : Bool). if b then steps_to n f e None (family_step f e None) else refuses faults.NoResources n) room))
    by_family_for None is = by_record_of (record_of parent n)
      where
        by_record_of : (o : Option Held) → Ends (replies (option_and_then (record_says parent e.key e.act) o) n)
        by_record_of (Some r) = no_branch (refuses faults.ObjectNotExist n) (call.refused_stays u place s n there up parent e faults.ObjectNotExist later k_sent) (λ x is. absurd cc)
        by_record_of None = no_branch (refuses faults.ObjectNotExist n) (call.refused_stays u place s n there up parent e faults.ObjectNotExist later k_sent) (λ x is. absurd cc)

    node_ends : Ends (applies parent e None n)
    unfolding applies
    node_ends = by_family_for (family_for parent e n) refl

    -- what is known once it has come to that node
    abbrev AfterStep : Stepping → Type 0
    AfterStep st = Known (then_answers message (created parent name) st).world (later ++ (then_answers message (created parent name) st).lines)

    stepped : AfterStep (steps_node (Some n) s place parent e u)
    stepped =
        subst (λ (x : Asked). AfterStep (steps_by x place parent e n u)) (sym (answers_nothing parent e n s.disk s.stop refl (λ f. creating_wants f (Some retry) parent.index now))) node_ends

  -- ---- it is made, if its node is up

  came_to : Known (acts_at message parent acts.CreateSubtransaction (created parent name) u).world
      (later ++ (acts_at message parent acts.CreateSubtransaction (created parent name) u).lines)
  unfolding acts_at steps
  came_to = by (slice_get w.seats (place_of parent)) refl
    where
      nothing_came : Known u (later ++ [])
      nothing_came = subst (Known u) (sym (append-nil later)) k_sent

      at_node : (s : Seat) → slice_get w.seats (place_of parent) ≡ Some s → (o : Option Node) → node_in s.server ≡ o
          → Known (then_answers message (created parent name) (steps_node o s (place_of parent) parent (call_event message parent acts.CreateSubtransaction s.clock) u)).world
          (later ++ (then_answers message (created parent name) (steps_node o s (place_of parent) parent (call_event message parent acts.CreateSubtransaction s.clock) u)).lines)
      at_node s there (Some n) is = stepped s n there (node_up s.server n is) s.clock
      at_node s there None is = nothing_came

      by : (o : Option Seat) → slice_get w.seats (place_of parent) ≡ o
          → Known (elim o as (λ _. Done) [
            | Some s ↦ then_answers message (created parent name) (elim o as (λ _. Stepping) [
              | Some t ↦ steps_node (node_in t.server) t (place_of parent) parent (call_event message parent acts.CreateSubtransaction s.clock) u
              | None ↦ no_step u
            ])
            | None ↦ nothing u
          ]).world
          (later ++ (elim o as (λ _. Done) [
            | Some s ↦ then_answers message (created parent name) (elim o as (λ _. Stepping) [
              | Some t ↦ steps_node (node_in t.server) t (place_of parent) parent (call_event message parent acts.CreateSubtransaction s.clock) u
              | None ↦ no_step u
            ])
            | None ↦ nothing u
          ]).lines)
      by (Some s) there = at_node s there (node_in s.server) refl
      by None there = nothing_came

-- a client has a subtransaction made
pub known_sub : FamilyLaws → NodesKeepDecisions → (w : World) (parent : ObjectKey) (name : List ℕ) → thing w name ≡ None → GoesOnFrom w → StaysKnown w (creates_sub parent name w)
unfolding creates_sub calls
known_sub laws nodes w parent name free few told k =
    let lines_then = called_line (next_message w) (operation_of acts.CreateSubtransaction) (transaction_name w parent) in
    let acted = acts_at (next_message w) parent acts.CreateSubtransaction (created parent name) (with_sent (client_message (contents.Call parent acts.CreateSubtransaction)) w) in
    subst (Known acted.world) (append_assoc told lines_then acted.lines) (came_to laws nodes w parent name free few told k)
