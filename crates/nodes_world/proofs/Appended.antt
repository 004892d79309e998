-- What is known of a world is known once the decision of one of a node's families is appended to its disk: the family knows it, and a
-- line tells it; or the node went down meanwhile.
use Rattle.std.proofs.Common.{◌≡◌, ◌≢◌, ◌⊎◌, inl, inr, ℕ, ◌+◌, ◌-◌, ◌==◌, ◌<◌, ◌≤◌, ◌&&◌, ◌||◌, Bool, true, false, IsTrue, is_some, List, [], ◌∷◌, ◌++◌, slice_get, slice_set, Any, Contains, Option, Some, None, refl, sym, ap, subst, ◌∙◌, arith}
use Rattle.std.specs.List.{AllByRecursion, list_any}
use Rattle.std.specs.Option.{option_and_then, option_map_or}
use Rattle.std.proofs.lemmas.Bool.Decides.{nat_tests}
use Rattle.std.proofs.lemmas.List.Elements.{Contains-append_left, Contains-push_cases}
use Rattle.std.proofs.lemmas.List.Folds.{list_any-append}
use Rattle.ior_refs.specs.declared.key.ObjectKey.{ObjectKey}
use Rattle.ots_model.specs.Safe.{Stands, HasConsented, IsSent, TakesPart}
use Rattle.ots_model.specs.declared.completion.Ground.TheVariants.{Record}
use Rattle.ots_model.specs.Numbered.{LineOutcome}
use Rattle.ots_model.specs.declared.completion.Vote.{Vote}
use Rattle.ots_model.specs.declared.completion.Word.TheVariants as phase_words
use Rattle.ots_model.specs.declared.line.Line.{Line}
use Rattle.ots_model.specs.declared.line.Line.TheVariants as lines
use Rattle.ots_model.specs.declared.service.RetryKey.{RetryKey}
use Rattle.ots_model.specs.Numbered.{Outcome}
use Rattle.ots_model.specs.declared.completion.Outcome.TheVariants as outcomes
use Rattle.ots_model.specs.declared.tree.Outward.{Outward}
use Rattle.ots_outside.specs.Disk.{DiskState}
use Rattle.two_phase.specs.Stages as stages
use Rattle.two_phase.specs.Stages.{Standing as Completion}
use Rattle.decision_journal.specs.Growing.{JournalsGrow}
use Rattle.decision_journal.specs.Journal.{Found, Holds, first_gate, found_in}
use Rattle.decision_journal.specs.Laws.{IsSettled}
use Rattle.decision_journal.specs.declared.journal.Standing.{Standing}
use Rattle.decision_journal.specs.declared.record.JournalRecord.{JournalRecord}
use Rattle.decision_journal.specs.declared.record.JournalRecord.TheVariants.{Decision}
use Rattle.decision_journal.specs.declared.record.Registration.{Registration as Named}
use Rattle.recovery_coord.specs.Limits.{retold_slot}
use Rattle.recovery_coord.specs.declared.held.Held.{Held}
use Rattle.coordinator.specs.Family.{Family}
use Rattle.coordinator.specs.Node.{Node, family_in, is_of, life, with_family}
use Rattle.coordinator.specs.NodeParts.{IsWhole}
use Rattle.family_laws.specs.LawsOfTelling.{IsVoted}
use Rattle.family_laws.specs.OwnDecisions.{KeepsDecisions}
use Rattle.family_laws.specs.Sound.{IsSoundFamily}
use Rattle.family_laws.specs.HeldRecords.{IsOfStanding}
use Rattle.nodes_world.specs.declared.thing.Thing.TheVariants as things
use Rattle.nodes_world.specs.Disks.{Stop}
use Rattle.nodes_world.specs.Agreement as agreed
use Rattle.nodes_world.specs.Agreement.{CommitsAreRecorded, DecisionsAreRecorded, FollowsDisk, HasSent, HoldsDecisions, IsAlone, IsClosed, IsCutOff, IsDecided, IsRolledBack, IsTransaction, NoneIsBoth, OnePhaseIsAlone, RecordsRestOnVotes, RestsOnVotes, RollbacksAreClosed, VotesWereGiven, has_record, is_decision_of, names_object, recorded_key, records_at}
use Rattle.nodes_world.specs.AgreementInside.{Known, DisksAreKnown, EndsHaveCounted, FamiliesAreKnown, FamilyIsKnown, IsBack, IsBranch, IsHeldAs, IsMade, IsNamed, IsNamedBy, IsNumberedBy, NamesAreTold, NodeIsKnown, NodesAreKnown, OutcomeIsTold, ResourcesAreKnown, RollbacksAreOutcomes, RollbacksAreTold, ToldIsOpen, TransactionsAreKnown, WordsAreTold, is_prepared, journal_end, notice_out, placed}
use Rattle.nodes_world.specs.Journals.{records_on}
use Rattle.nodes_world.specs.Laws.{IsInOrder, RecordsAreRead}
use Rattle.nodes_world.specs.Objects.{place_of, service_at}
use Rattle.nodes_world.specs.Told.{Told, known}
use Rattle.nodes_world.specs.World.{World, Seat, OfNode, end_at, end_in, family_at, node_at, referred, resource_at, thing, with_seat}
use Rattle.nodes_world.proofs.Deeds.{node_is_up}
use Rattle.nodes_world.proofs.DoneKnown.{any_more, more_placed}
use Rattle.nodes_world.proofs.Edges.{edge_held, edge_kept}
use Rattle.nodes_world.proofs.Going.{get_set}
use Rattle.nodes_world.proofs.HeldLines.{key_is}
use Rattle.nodes_world.proofs.KnownAlike.{referred_by, resources_by}
use Rattle.nodes_world.proofs.KnownFamilies.{branch_joined, family_found, found_by_own, is_own, not_outlived, same_parts, seated, IsSeated}
use Rattle.nodes_world.proofs.KnownLines.{AreAmong, among_back, among_turned, cut_among, family_key, joined_of, lines_of, of_family, part_among, registered_among, same_key}
use Rattle.nodes_world.proofs.KnownSeats.{ends_kept, seat_names_kept, seats_kept, set_at}
use Rattle.nodes_world.proofs.KnownTelling.{IsOne, TellsOn, allowed_on, each_as, is_bare, is_recorded, tells_on}
use Rattle.nodes_world.proofs.KnownWorlds.{node_there, part_bare, recorded_is}
use Rattle.nodes_world.proofs.SeatKept.{family_kept, is_of_others, resources_kept}
use Rattle.nodes_world.proofs.SoundNodes.{node_holds, node_whole}
use Rattle.nodes_world.proofs.StepSeats as seats

-- what a completion is by which a record was decided, where it asked before
pub record IsDecidedNow (f : Family) (later : Completion) : Type 0 where
  pub sound : IsSoundFamily (record f { completion = later })
  pub commits : stages.outcome later ≡ Some (outcomes.Commit Record)
  pub voted : (number : ℕ) (vote : Vote) → IsVoted f.completion number vote → IsVoted later number vote
  pub votes : (number : ℕ) (vote : Vote) → IsVoted later number vote → IsVoted f.completion number vote
  pub wants : stages.wants_decision later ≡ false
  pub notice : notice_out later ≡ None

-- a line of a decision that is recorded
abbrev pub is_recorded_line : Line → Bool
is_recorded_line (lines.Decide name outcome) = is_recorded outcome
is_recorded_line _ = false

not_recorded : (line : Line) → is_bare line ≡ false → is_recorded_line line ≡ false
not_recorded (lines.Decide name outcome) bare = bare
not_recorded _ bare = refl

recorded_bare : (line : Line) → is_recorded_line line ≡ true → is_bare line ≡ true
recorded_bare (lines.Decide name outcome) is = is
recorded_bare _ is = absurd cc

no_decision : (line : Line) → is_of_others line ≡ true → is_recorded_line line ≡ false
no_decision (lines.Reg resource transaction end) is = refl
no_decision (lines.Sub transaction above) is = refl
no_decision (lines.Send message word resource) is = refl
no_decision (lines.State resource state) is = refl
no_decision _ is = absurd cc

same_or_not : (a b : ℕ) → (a ≡ b) ⊎ (a ≢ b)
same_or_not a b = grind arith

inner : {A : Type 0} {x y : A} → Some x ≡ Some y → x ≡ y
inner e = cc

either_true : (a b : Bool) → (a || b) ≡ true → (a ≡ true) ⊎ (b ≡ true)
either_true true b is = inl refl
either_true false b is = inr is

or_first : {a : Bool} (b : Bool) → a ≡ true → (a || b) ≡ true
or_first b is = ap (λ (t : Bool). t || b) is

or_second : {b : Bool} (a : Bool) → b ≡ true → (a || b) ≡ true
or_second true is = refl
or_second false is = is

or_none : (b : Bool) → (b || false) ≡ b
or_none true = refl
or_none false = refl

module _ (grow : JournalsGrow) (read : RecordsAreRead) (w : World) (place : ℕ) (s : Seat) (n : Node) (told : List Told) (there : slice_get w.seats place ≡ Some s)
    (up : s.server ≡ OfNode (Some n)) (k : Known w told) (key : ObjectKey) (f : Family) (found : family_at w key ≡ Some f) (at_place : place_of f.key ≡ place)
    (slotted : family_in n.families f.key.slot ≡ Some f) (undecided_yet : stages.outcome f.completion ≡ None) (alone : stages.decides_alone f.completion ≡ false)
    (by : Option RetryKey) (asked : Bool) (regs : List Named) (rests : RestsOnVotes w told f.key regs) (rs : List JournalRecord) (held : records_at w place ≡ Some rs)
    (disk : DiskState) (order : IsInOrder (service_at place) disk (rs ++ Decision f.key.life f.key.slot f.key.generation by asked regs ∷ [])) (stop : Option Stop)
    (decided : Completion) (decides : IsDecidedNow f decided) where
  abbrev item : JournalRecord
  item = Decision f.key.life f.key.slot f.key.generation by asked regs

  abbrev pub rs_then : List JournalRecord
  rs_then = rs ++ item ∷ []

  abbrev pub g : Family
  g = record f { completion = decided }

  -- the node with its record
  abbrev pub recorded : Node
  recorded = record n { found = found_in rs_then }

  abbrev pub m : Node
  m = with_family g recorded

  abbrev old : FamilyIsKnown w (lines_of told) f
  old = k.families key f found

  -- the line of the decision stands where the node is up
  module _ (then : Option Node) (some : List Told) (told_so : AllByRecursion (IsOne is_recorded_line) some)
      (only : (name : List ℕ) → Stands (lines.Decide name (outcomes.Commit Record)) (known (told ++ some))
      → Stands (lines.Decide name (outcomes.Commit Record)) (known told) ⊎ (name ≡ old.name))
      (goes : (then ≡ None) ⊎ ((then ≡ Some m) × KeepsDecisions (journal_end rs_then) m × Stands (lines.Decide old.name (outcomes.Commit Record)) (known (told ++ some)))) where
    abbrev left : Seat
    left = record s { disk = disk; stop = stop; server = OfNode then }

    abbrev v : World
    v = with_seat place left w

    abbrev more : List Told
    more = told ++ some

    node_up : node_at w place ≡ Some n
    node_up = node_there w place s n there up

    of_server : {x y : Option Node} → OfNode x ≡ OfNode y → x ≡ y
    of_server e = cc

    no_node : {x : Node} → None ≡ Some x → ⊥
    no_node e = cc

    -- what a node is that is up there then
    record IsUpThen (c : Node) : Type 0 where
      same : m ≡ c
      keeps : KeepsDecisions (journal_end rs_then) m
      line : Stands (lines.Decide old.name (outcomes.Commit Record)) (known more)

    up_then : (c : Node) → OfNode then ≡ OfNode (Some c) → IsUpThen c
    up_then c is = by_goes goes
      where
        by_goes : (then ≡ None) ⊎ ((then ≡ Some m) × KeepsDecisions (journal_end rs_then) m × Stands (lines.Decide old.name (outcomes.Commit Record)) (known more)) → IsUpThen c
        by_goes (inl down) = absurd (no_node (sym down ∙ of_server is))
        by_goes (inr (node, keeps, line)) = record { same = inner (sym node ∙ of_server is); keeps = keeps; line = line }

    tells : TellsOn is_recorded_line told more
    tells = tells_on is_recorded_line told some told_so

    on : AreAmong (lines_of told) (lines_of more)
    on line x = among_turned _ _ (tells.on line (among_back _ _ x))

    back : (line : Line) → is_recorded_line line ≡ false → Stands line (lines_of more) → Stands line (lines_of told)
    back line other x = among_turned _ _ (tells.back line other (among_back _ _ x))

    part_back : (x t : List ℕ) → TakesPart x t (known more) → TakesPart x t (known told)
    part_back x t part = part_bare (known more) (known told) x t (λ line bare. tells.back line (not_recorded line bare)) part

    -- ---- its records

    life_same : (found_in rs_then).life ≡ (found_in rs).life
    life_same = ap (λ (x : Found). x.life) (grow.added (service_at place) rs item)

    found_is : n.found ≡ found_in rs
    found_is =
        let follows = k.disks.follows place s n there up in
        follows.found ∙ ap found_in (inner (sym (ap (λ (o : Option Seat). option_and_then (λ (x : Seat). records_on (service_at place) x.disk) o) there ∙ follows.held) ∙ held))

    still_stands : (x : Standing) → Contains n.found.standing x → Contains (found_in rs_then).standing x
    still_stands x c =
        subst (λ (y : Found). Contains y.standing x) (sym (grow.added (service_at place) rs item))
        (Contains-append_left (found_in rs).standing _ x (subst (λ (y : Found). Contains y.standing x) found_is c))

    records_there : records_at v place ≡ Some rs_then
    records_there =
        ap (λ (o : Option Seat). option_and_then (λ (x : Seat). records_on (service_at place) x.disk) o) (get_set w.seats place s left there)
        ∙ read (service_at place) disk.reads rs_then order.stands

    records_other : (p : ℕ) → slice_get (slice_set w.seats place left) p ≡ slice_get w.seats p → records_at v p ≡ records_at w p
    records_other p same = ap (λ (o : Option Seat). option_and_then (λ (x : Seat). records_on (service_at p) x.disk) o) same

    records_by : (p : ℕ) (ps : List JournalRecord) → records_at v p ≡ Some ps → ((p ≡ place) × (rs_then ≡ ps)) ⊎ (records_at w p ≡ Some ps)
    records_by p ps is = elim (set_at w.seats place s left p there) [
      | inl here ↦ inl (here.0, inner (sym records_there ∙ ap (records_at v) (sym here.0) ∙ is))
      | inr same ↦ inr (sym (records_other p same) ∙ is)
    ]

    has_in : (is_so : JournalRecord → Bool) (o : Option (List JournalRecord)) (ps : List JournalRecord) → o ≡ Some ps
        → option_map_or (λ (xs : List JournalRecord). list_any is_so xs) o false ≡ list_any is_so ps
    has_in is_so o ps is = ap (λ (x : Option (List JournalRecord)). option_map_or (λ (xs : List JournalRecord). list_any is_so xs) x false) is

    has_cases : (p : ℕ) (is_so : JournalRecord → Bool) → (has_record v p is_so ≡ has_record w p is_so) ⊎ ((p ≡ place) × (has_record v p is_so ≡ (has_record w p is_so || is_so item)))
    has_cases p is_so = elim (set_at w.seats place s left p there) [
      | inl here ↦ inr (
        here.0,
        ap (λ (i : ℕ). has_record v i is_so) here.0 ∙ has_in is_so (records_at v place) rs_then records_there ∙ list_any-append is_so rs (item ∷ [])
            ∙ ap (λ (b : Bool). list_any is_so rs || b) (or_none (is_so item))
            ∙ ap (λ (b : Bool). b || is_so item) (sym (ap (λ (i : ℕ). has_record w i is_so) here.0 ∙ has_in is_so (records_at w place) rs held)),
      )
      | inr same ↦ inl (ap (λ (x : Option (List JournalRecord)). option_map_or (λ (xs : List JournalRecord). list_any is_so xs) x false) (records_other p same))
    ]

    has_on : (p : ℕ) (is_so : JournalRecord → Bool) → IsTrue (has_record w p is_so) → IsTrue (has_record v p is_so)
    has_on p is_so has = elim (has_cases p is_so) [
      | inl same ↦ same ∙ has
      | inr here ↦ here.1 ∙ or_first (is_so item) has
    ]

    own_three : (a b c : ℕ) → (a == a && b == b && c == c) ≡ true
    own_three a b c = grind (arith, nat_tests)

    has_item : IsTrue (has_record v (place_of f.key) (is_decision_of f.key))
    has_item =
        ap (λ (p : ℕ). has_record v p (is_decision_of f.key)) at_place
        ∙ has_in (is_decision_of f.key) (records_at v place) rs_then records_there
        ∙ list_any-append (is_decision_of f.key) rs (item ∷ [])
        ∙ or_second (list_any (is_decision_of f.key) rs) (or_first false (own_three f.key.life f.key.slot f.key.generation))

    -- ---- whose decision it is

    three : (a b c p q r : ℕ) → (a == p && b == q && c == r) ≡ true → (a ≡ p) × (b ≡ q) × (c ≡ r)
    three a b c p q r is = grind (arith, nat_tests)

    four : (a b c d p q r t : ℕ) → a ≡ p → b ≡ q → c ≡ r → d ≡ t → IsTrue (a == p && b == q && c == r && d == t)
    four a b c d p q r t x y z u = grind (arith, nat_tests)

    same_service : (a b : ℕ) → 0 < a → 0 < b → a - 1 ≡ b - 1 → a ≡ b
    same_service a b one two same = omega (arith, one, two, same)

    f_service : 0 < f.key.service
    f_service = k.names.services old.name f.key old.of_name

    -- one of its place of whom the record is the decision is it
    own_of : (of : ObjectKey) → 0 < of.service → place_of of ≡ place → is_decision_of of item ≡ true → IsTrue (is_of of f)
    own_of of positive here is =
        let parts = three f.key.life f.key.slot f.key.generation of.life of.slot of.generation is in
        four of.service of.life of.slot of.generation f.key.service f.key.life f.key.slot f.key.generation
        (same_service of.service f.key.service positive f_service (here ∙ sym at_place)) (sym parts.0) (sym parts.1) (sym parts.2)

    found_of : (of : ObjectKey) → IsTrue (is_of of f) → family_at w of ≡ Some f
    found_of of own =
        let parts = same_parts of.service of.life of.slot of.generation f.key.service f.key.life f.key.slot f.key.generation own in
        family_found w of f (record {
          seat = s;
          node = n;
          there = ap (slice_get w.seats) (ap (λ (x : ℕ). x - 1) parts.0 ∙ at_place) ∙ there;
          up = up;
          slotted = ap (family_in n.families) parts.2 ∙ slotted;
          own = own;
        })

    own_key : (name : List ℕ) (of : ObjectKey) → IsTransaction w name of → of.index ≡ 0 → IsTrue (is_of of f) → f.key ≡ of
    own_key name of named top own = key_is w told k of f (found_of of own) (k.names.kinds name of named) top

    decided_back : (name : List ℕ) (of : ObjectKey) → IsTransaction w name of → of.index ≡ 0 → IsDecided v more of name → IsDecided w told of name ⊎ (f.key ≡ of)
    decided_back name of named top (inl line) = elim (only name line) [
      | inl was ↦ inl (inl was)
      | inr this ↦ inr (same_key (thing w name) f.key of (ap (thing w) this ∙ old.of_name) named)
    ]
    decided_back name of named top (inr has) = elim (has_cases (place_of of) (is_decision_of of)) [
      | inl same ↦ inl (inr (sym same ∙ has))
      | inr here ↦ elim (either_true (has_record w (place_of of) (is_decision_of of)) (is_decision_of of item) (sym here.1 ∙ has)) [
        | inl was ↦ inl (inr was)
        | inr new ↦ inr (own_key name of named top (own_of of (k.names.services name of named) here.0 new))
      ]
    ]

    -- ---- names, messages and resources

    refers : (to : List ℕ) → referred v to ≡ referred w to
    refers to = referred_by w v to refl (seat_names_kept w place s left there refl)

    ends_same : (p : ℕ) → end_at v p ≡ end_at w p
    ends_same p = ends_kept w place s left there refl (sym (ap end_in up)) p

    resources : (of : ObjectKey) → resource_at v of ≡ resource_at w of
    resources of = resources_by w v of (ends_same (place_of of))

    made_on : (name : List ℕ) (of : ObjectKey) → IsMade w (lines_of told) name of → IsMade v (lines_of more) name of
    made_on name of (named, inl (node, x)) = (named, inl (node, on _ x))
    made_on name of (named, inr (above, x)) = (named, inr (above, on _ x))

    names_then : NamesAreTold v (lines_of more)
    names_then = record {
      keys = k.names.keys;
      once = k.names.once;
      transactions = λ name of named. made_on name of (k.names.transactions name of named);
      kinds = k.names.kinds;
      services = k.names.services;
      tops = λ name node x. k.names.tops name node (back _ refl x);
      subs = λ name above x. k.names.subs name above (back _ refl x);
      ended = λ name how x. k.names.ended name how (back _ refl x);
      one_parent = λ name above other x y. k.names.one_parent name above other (back _ refl x) (back _ refl y);
      resources = λ name of named. let was = k.names.resources name of named in (was.0, resources of ∙ was.1, was.2);
      registered = λ name t x. k.names.registered name t (x.0, back _ refl x.1);
      one_transaction = λ name t other x y. k.names.one_transaction name t other (x.0, back _ refl x.1) (y.0, back _ refl y.1);
      no_import = λ name above node x. k.names.no_import name above node (back _ refl x);
      objects = k.names.objects;
      shown = λ name state x. k.names.shown name state (back _ refl x);
    }

    given_on : VotesWereGiven v more
    given_on name vote x =
        let was = k.votes name vote (tells.back _ refl x) in
        record {
          request = was.request;
          from = was.from;
          asked = was.asked;
          sent = was.sent;
          prepare = was.prepare;
          resource = was.resource;
          object = refers was.asked.to ∙ was.object;
          same_name = was.same_name;
          reply = was.reply;
          answer = was.answer;
          answered = was.answered;
          says = was.says;
        }

    back_others : (line : Line) → is_of_others line ≡ true → Stands line (lines_of more) → Stands line (lines_of told)
    back_others line other x = back line (no_decision line other) x

    resources_then : ResourcesAreKnown v (lines_of more)
    resources_then = resources_kept w place left told more refers resources on back_others k.resources

    -- ---- families

    -- one that is there then is that one, and its decision is told; or it was there, and is another one
    families_then : (of : ObjectKey) (h : Family) → family_at v of ≡ Some h
        → ((h ≡ g) × Stands (lines.Decide old.name (outcomes.Commit Record)) (known more)) ⊎ ((family_at w of ≡ Some h) × (IsTrue (is_of h.key f) → ⊥))
    families_then of h is = by_place (seated v of h is)
      where
        not_here : place_of of ≢ place → IsSeated v of h → (family_at w of ≡ Some h) × (IsTrue (is_of h.key f) → ⊥)
        not_here other at = (
          family_found w of h (record {
            seat = at.seat;
            node = at.node;
            there = sym (seats.other_place w.seats place (place_of of) left other) ∙ at.there;
            up = at.up;
            slotted = at.slotted;
            own = at.own;
          }),
          λ own.
              let mine = same_parts of.service of.life of.slot of.generation h.key.service h.key.life h.key.slot h.key.generation at.own in
              let his = same_parts h.key.service h.key.life h.key.slot h.key.generation f.key.service f.key.life f.key.slot f.key.generation own in
              other (ap (λ (x : ℕ). x - 1) (mine.0 ∙ his.0) ∙ at_place),
        )

        here : place_of of ≡ place → IsSeated v of h
            → ((h ≡ g) × Stands (lines.Decide old.name (outcomes.Commit Record)) (known more)) ⊎ ((family_at w of ≡ Some h) × (IsTrue (is_of h.key f) → ⊥))
        here this at =
            let is_left : left ≡ at.seat = inner (sym (ap (slice_get v.seats) this ∙ get_set w.seats place s left there) ∙ at.there) in
            let node = up_then at.node (ap (λ (x : Seat). x.server) is_left ∙ at.up) in
            elim (seats.slot_cases recorded f g refl slotted of.slot h (ap (λ (x : Node). family_in x.families of.slot) node.same ∙ at.slotted)) [
              | inl own ↦ inl (own.1, node.line)
              | inr that ↦ inr (
                family_found w of h (record { seat = s; node = n; there = ap (slice_get w.seats) this ∙ there; up = up; slotted = that.1; own = at.own }),
                λ own.
                    let mine = same_parts of.service of.life of.slot of.generation h.key.service h.key.life h.key.slot h.key.generation at.own in
                    let his = same_parts h.key.service h.key.life h.key.slot h.key.generation f.key.service f.key.life f.key.slot f.key.generation own in
                    that.0 (mine.2 ∙ his.2),
              )
            ]

        by_place : IsSeated v of h
            → ((h ≡ g) × Stands (lines.Decide old.name (outcomes.Commit Record)) (known more)) ⊎ ((family_at w of ≡ Some h) × (IsTrue (is_of h.key f) → ⊥))
        by_place at = elim (same_or_not (place_of of) place) [
          | inl this ↦ here this at
          | inr other ↦ inr (not_here other at)
        ]

    -- that one
    module _ (line : Stands (lines.Decide old.name (outcomes.Commit Record)) (known more)) where
      outcome_told : (o : Option Outcome) → o ≡ Some (outcomes.Commit Record) → OutcomeIsTold o old.name (lines_of more)
      outcome_told o is = subst (λ (x : Option Outcome). OutcomeIsTold x old.name (lines_of more)) (sym is) (among_turned _ _ line)

      family_then : FamilyIsKnown v (lines_of more) g
      family_then = family_kept w place left told more refers resources on back_others f decided old (record {
        sound = decides.sound;
        settled = decides.wants;
        ends = λ t b how branch x. back _ refl x;
        votes = λ number vote r object among numbered leads.
            let was = old.votes number vote r object among numbered leads in
            (λ e. on _ (was.0 (decides.votes number vote e)), λ x. decides.voted number vote (was.1 (back _ refl x)));
        outcome = outcome_told (stages.outcome decided) decides.commits;
        recorded = (λ has. decides.commits, λ e. has_item);
      })

    -- another one
    module _ (h : Family) (of : ObjectKey) (at : family_at w of ≡ Some h) (other : IsTrue (is_of h.key f) → ⊥) where
      theirs : FamilyIsKnown w (lines_of told) h
      theirs = k.families of h at

      not_theirs : (place_of h.key ≡ place) → is_decision_of h.key item ≡ false
      not_theirs here = by_test (is_decision_of h.key item) refl
        where
          by_test : (b : Bool) → is_decision_of h.key item ≡ b → is_decision_of h.key item ≡ false
          by_test true is = absurd (other (own_of h.key (k.names.services theirs.name h.key theirs.of_name) here is))
          by_test false is = is

      has_same : has_record v (place_of h.key) (is_decision_of h.key) ≡ has_record w (place_of h.key) (is_decision_of h.key)
      has_same = elim (has_cases (place_of h.key) (is_decision_of h.key)) [
        | inl same ↦ same
        | inr here ↦ here.1 ∙ ap (λ (b : Bool). has_record w (place_of h.key) (is_decision_of h.key) || b) (not_theirs here.0)
            ∙ or_none (has_record w (place_of h.key) (is_decision_of h.key))
      ]

      line_was : Stands (lines.Decide theirs.name (outcomes.Commit Record)) (lines_of more) → Stands (lines.Decide theirs.name (outcomes.Commit Record)) (lines_of told)
      line_was x = elim (only theirs.name (among_back _ _ x)) [
        | inl was ↦ among_turned _ _ was
        | inr this ↦
            let same : f.key ≡ h.key = same_key (thing w theirs.name) f.key h.key (ap (thing w) this ∙ old.of_name) theirs.of_name in
            absurd (other (subst (λ (x : ObjectKey). IsTrue (is_of x f)) same (is_own f)))
      ]

      outcome_stays : (o : Option Outcome) → OutcomeIsTold o theirs.name (lines_of told) → OutcomeIsTold o theirs.name (lines_of more)
      outcome_stays None was = λ x. was (line_was x)
      outcome_stays (Some (outcomes.Commit basis)) was = on _ was
      outcome_stays (Some (outcomes.Rollback reason)) was = λ x. was (line_was x)
      outcome_stays (Some outcomes.Unknown) was = λ x. was (line_was x)

      other_then : FamilyIsKnown v (lines_of more) h
      other_then = family_kept w place left told more refers resources on back_others h h.completion theirs (record {
        sound = theirs.sound;
        settled = theirs.settled;
        ends = λ t b how branch x. back _ refl x;
        votes = λ number vote r object among numbered leads.
            let was = theirs.votes number vote r object among numbered leads in
            (λ e. on _ (was.0 e), λ x. was.1 (back _ refl x));
        outcome = outcome_stays (stages.outcome h.completion) theirs.outcome;
        recorded = (λ has. theirs.recorded.0 (sym has_same ∙ has), λ e. has_same ∙ theirs.recorded.1 e);
      })

    all_families : FamiliesAreKnown v (lines_of more)
    all_families of h at = elim (families_then of h at) [
      | inl this ↦ subst (FamilyIsKnown v (lines_of more)) (sym this.0) (family_then this.1)
      | inr that ↦ other_then h of that.0 that.1
    ]

    this_branch : (h : Family) (t : List ℕ) (b : ℕ) → h ≡ g → IsBranch v h t b → IsBranch w f t b
    this_branch h t b same (branch, named, own, first) = (branch, named, subst (λ (x : Family). IsTrue (is_of branch x)) same own, first)

    open_then : ToldIsOpen v (lines_of more)
    open_then = record {
      commit = λ x t b of h sent registered at branch. elim (families_then of h at) [
        | inl this ↦ ap (λ (y : Family). stages.outcome y.completion) this.0 ∙ decides.commits
        | inr that ↦ k.open_words.commit x t b of h (sent.0, back _ refl sent.1) (registered.0, back _ refl registered.1) that.0 branch
      ];
      one_phase = λ x t b of h sent registered at branch. elim (families_then of h at) [
        | inl this ↦ absurd (not_alone
            (k.open_words.one_phase x t b key f (sent.0, back _ refl sent.1) (registered.0, back _ refl registered.1) found (this_branch h t b this.0 branch)).1)
        | inr that ↦ k.open_words.one_phase x t b of h (sent.0, back _ refl sent.1) (registered.0, back _ refl registered.1) that.0 branch
      ];
    }
      where
        not_alone : stages.decides_alone f.completion ≡ true → ⊥
        not_alone is = no (sym alone ∙ is)
          where
            no : false ≡ true → ⊥
            no e = cc

    -- ---- words

    serials_then : (p : ℕ) (o : Outward) (h : Family) (of : ObjectKey) → HasSent v p o → family_at v of ≡ Some h → o.number.life ≡ h.key.life
        → o.number.slot ≡ h.key.slot → o.number.generation ≡ h.key.generation → place_of h.key ≡ p → IsNumberedBy h o
    serials_then p o h of sent at one two three_is here = elim (families_then of h at) [
      | inl this ↦ subst (λ (x : Family). IsNumberedBy x o) (sym this.0)
          (of_this (k.words.serials p o f key sent found
          (one ∙ ap (λ (x : Family). x.key.life) this.0) (two ∙ ap (λ (x : Family). x.key.slot) this.0) (three_is ∙ ap (λ (x : Family). x.key.generation) this.0)
          (sym (ap (λ (x : Family). place_of x.key) this.0) ∙ here)))
      | inr that ↦ k.words.serials p o h of sent that.0 one two three_is here
    ]
      where
        none_not : {A : Type 0} {x : A} → None ≡ Some x → ⊥
        none_not e = cc

        of_this : IsNumberedBy f o → IsNumberedBy g o
        of_this was = record { within = was.within; out = λ notice waits asks. absurd (none_not (sym decides.notice ∙ asks)) }

    life_is : (c : Node) → IsUpThen c → life c ≡ life n
    life_is c this = sym (ap life this.same) ∙ life_same ∙ sym (ap (λ (x : Found). x.life) found_is)

    -- a seat then is that one, or is as it was
    seats_by : (P : ℕ → Seat → Type 0) → P place left
        → ((p : ℕ) (x : Seat) → slice_get w.seats p ≡ Some x → slice_get (slice_set w.seats place left) p ≡ slice_get w.seats p → P p x)
        → (p : ℕ) (x : Seat) → slice_get (slice_set w.seats place left) p ≡ Some x → P p x
    seats_by P new was p x at = elim (set_at w.seats place s left p there) [
      | inl here ↦ subst (λ (i : ℕ). P i x) (sym here.0) (subst (P place) (inner (sym here.1 ∙ at)) new)
      | inr same ↦ was p x (sym same ∙ at) same
    ]

    given_then : (p : ℕ) (x : Seat) (c : Node) (o : Outward) → slice_get v.seats p ≡ Some x → x.server ≡ OfNode (Some c) → HasSent w p o
        → o.number.life ≡ life c → (o.number.slot ≡ retold_slot) ⊎ (o.number.generation ≤ c.generation)
    given_then p x c o = seats_by (λ (p : ℕ) (x : Seat). x.server ≡ OfNode (Some c) → HasSent w p o → o.number.life ≡ life c → (o.number.slot ≡ retold_slot) ⊎ (o.number.generation ≤ c.generation))
        (λ is sent same. let this = up_then c is in
        subst (λ (y : Node). (o.number.slot ≡ retold_slot) ⊎ (o.number.generation ≤ y.generation)) this.same
        (k.words.given place s n o there up sent (same ∙ life_is c this)))
        (λ p x was same is sent in_life. k.words.given p x c o was is sent in_life) p x

    again_then : (p : ℕ) (o : Outward) (ps : List JournalRecord) → HasSent w p o → o.number.slot ≡ retold_slot
        → ((p ≡ place) × (rs_then ≡ ps)) ⊎ (records_at w p ≡ Some ps) → Any (IsNamedBy o) (placed first_gate ps)
    again_then p o ps sent again (inl here) =
        let at = more_placed first_gate rs (item ∷ []) in
        subst (λ (xs : List JournalRecord). Any (IsNamedBy o) (placed first_gate xs)) here.1
        (subst (Any (IsNamedBy o)) (sym at.1)
        (any_more (IsNamedBy o) (placed first_gate rs) at.0 (k.words.told_again p o rs sent again (ap (records_at w) here.0 ∙ held))))
    again_then p o ps sent again (inr was) = k.words.told_again p o ps sent again was

    lives_then : (p in_life : ℕ) (ps : List JournalRecord) → ((qs : List JournalRecord) → records_at w p ≡ Some qs → in_life ≤ (found_in qs).life)
        → ((p ≡ place) × (rs_then ≡ ps)) ⊎ (records_at w p ≡ Some ps) → in_life ≤ (found_in ps).life
    lives_then p in_life ps before (inl here) =
        subst (λ (xs : List JournalRecord). in_life ≤ (found_in xs).life) here.1
        (subst (λ (i : ℕ). in_life ≤ i) (sym life_same) (before rs (ap (records_at w) here.0 ∙ held)))
    lives_then p in_life ps before (inr was) = before ps was

    words_then : WordsAreTold v (lines_of more)
    words_then = record {
      named = λ p o sent. ap is_some (refers o.to) ∙ k.words.named p o sent;
      once = record { one_object = k.words.once.one_object; one_word = k.words.once.one_word };
      told = λ nth p o phase r word phased leads. on _ (k.words.told nth p o phase r word phased (sym (refers o.to) ∙ leads));
      sent = λ number phase name x.
          let was = k.words.sent number phase name (back _ refl x) in
          (was.0, was.1, was.2, was.3, was.4, was.5, was.6, refers was.2.to ∙ was.7, was.8);
      replied = k.words.replied;
      asked = k.words.asked;
      voters = k.words.voters;
      lives = λ p o ps sent has. lives_then p o.number.life ps (λ qs was. k.words.lives p o qs sent was) (records_by p ps has);
      given = given_then;
      told_again = λ p o ps sent again has. again_then p o ps sent again (records_by p ps has);
      serials = serials_then;
    }

    -- ---- records and outcomes

    consented_on : (p : List ℕ) → HasConsented p (known told) → HasConsented p (known more)
    consented_on p (inl x) = inl (tells.on _ x)
    consented_on p (inr x) = inr (tells.on _ x)

    rests_on : (of : ObjectKey) (some_regs : List Named) → RestsOnVotes w told of some_regs → RestsOnVotes v more of some_regs
    rests_on of some_regs was = record {
      name = was.name;
      of_name = was.of_name;
      consented = λ p part. consented_on p (was.consented p (part_back p was.name part));
      named = λ to among. ap is_some (refers to) ∙ was.named to among;
      voters = λ to r leads.
          let before = was.voters to r (sym (refers to) ∙ leads) in (
            λ among. (part_among _ _ r.name was.name tells.on (before.0 among).0, tells.on _ (before.0 among).1),
            λ voter. before.1 (part_back r.name was.name voter.0, tells.back _ refl voter.1),
          );
      once = was.once;
    }

    item_key : f.key ≡ recorded_key place f.key.life f.key.slot f.key.generation
    item_key =
        let of : ObjectKey = recorded_key place f.key.life f.key.slot f.key.generation in
        key_is w told k of f
        (found_of of (four of.service of.life of.slot of.generation f.key.service f.key.life f.key.slot f.key.generation
        (same_service of.service f.key.service (omega arith) f_service (again place ∙ sym at_place)) refl refl refl)) refl refl
      where
        again : (p : ℕ) → (p + 1) - 1 ≡ p
        again p = omega arith

    records_then : RecordsRestOnVotes v more
    records_then p in_life slot generation retry was_asked some_regs ps has among = elim (records_by p ps has) [
      | inl here ↦ of_these here.0 (Contains-push_cases rs item _ (subst (λ (xs : List JournalRecord). Contains xs (Decision in_life slot generation retry was_asked some_regs)) (sym here.1) among))
      | inr was ↦ rests_on (recorded_key p in_life slot generation) some_regs (k.records p in_life slot generation retry was_asked some_regs ps was among)
    ]
      where
        four_same : {a b d : ℕ} {e : Option RetryKey} {x : Bool} {xs : List Named} → Decision f.key.life f.key.slot f.key.generation by asked regs ≡ Decision a b d e x xs
            → (f.key.life ≡ a) × (f.key.slot ≡ b) × (f.key.generation ≡ d) × (regs ≡ xs)
        four_same e = (life_of e, slot_of e, generation_of e, regs_of e)
          where
            life_of : {a b d : ℕ} {e : Option RetryKey} {x : Bool} {xs : List Named} → Decision f.key.life f.key.slot f.key.generation by asked regs ≡ Decision a b d e x xs → f.key.life ≡ a
            life_of is = cc

            slot_of : {a b d : ℕ} {e : Option RetryKey} {x : Bool} {xs : List Named} → Decision f.key.life f.key.slot f.key.generation by asked regs ≡ Decision a b d e x xs → f.key.slot ≡ b
            slot_of is = cc

            generation_of : {a b d : ℕ} {e : Option RetryKey} {x : Bool} {xs : List Named} → Decision f.key.life f.key.slot f.key.generation by asked regs ≡ Decision a b d e x xs → f.key.generation ≡ d
            generation_of is = cc

            regs_of : {a b d : ℕ} {e : Option RetryKey} {x : Bool} {xs : List Named} → Decision f.key.life f.key.slot f.key.generation by asked regs ≡ Decision a b d e x xs → regs ≡ xs
            regs_of is = cc

        key_then : p ≡ place → (f.key.life ≡ in_life) → (f.key.slot ≡ slot) → (f.key.generation ≡ generation) → f.key ≡ recorded_key p in_life slot generation
        key_then here a b d =
            item_key ∙ ap (λ (x : ℕ). recorded_key x f.key.life f.key.slot f.key.generation) (sym here) ∙ ap (λ (x : ℕ). recorded_key p x f.key.slot f.key.generation) a
            ∙ ap (λ (x : ℕ). recorded_key p in_life x f.key.generation) b ∙ ap (λ (x : ℕ). recorded_key p in_life slot x) d

        of_these : p ≡ place → Contains rs (Decision in_life slot generation retry was_asked some_regs) ⊎ (item ≡ Decision in_life slot generation retry was_asked some_regs)
            → RestsOnVotes v more (recorded_key p in_life slot generation) some_regs
        of_these here (inl was) =
            rests_on (recorded_key p in_life slot generation) some_regs (k.records p in_life slot generation retry was_asked some_regs rs (ap (records_at w) here ∙ held) was)
        of_these here (inr new) =
            let parts = four_same new in
            subst (λ (x : ObjectKey). RestsOnVotes v more x some_regs) (key_then here parts.0 parts.1 parts.2)
            (subst (λ (xs : List Named). RestsOnVotes v more f.key xs) parts.3 (rests_on f.key regs rests))

    recorded_then : DecisionsAreRecorded v more
    recorded_then name of named top x = elim (only name x) [
      | inl was ↦ has_on (place_of of) (is_decision_of of) (k.recorded name of named top was)
      | inr this ↦
          let same : f.key ≡ of = same_key (thing w name) f.key of (ap (thing w) this ∙ old.of_name) named in
          subst (λ (y : ObjectKey). IsTrue (has_record v (place_of y) (is_decision_of y))) same has_item
    ]

    rolled_back_back : (name : List ℕ) → IsRolledBack more name → IsRolledBack told name
    rolled_back_back name (agreed.IsRolledBack.by_known reason x) = agreed.IsRolledBack.by_known reason (tells.back _ refl x)
    rolled_back_back name (agreed.IsRolledBack.by_other reason c) = agreed.IsRolledBack.by_other reason (tells.reasons_back _ tt c)
    rolled_back_back name (agreed.IsRolledBack.by_synchronization reason synchronization c) =
        agreed.IsRolledBack.by_synchronization reason synchronization (tells.reasons_back _ tt c)

    rolled_back_on : (name : List ℕ) → IsRolledBack told name → IsRolledBack more name
    rolled_back_on name (agreed.IsRolledBack.by_known reason x) = agreed.IsRolledBack.by_known reason (tells.on _ x)
    rolled_back_on name (agreed.IsRolledBack.by_other reason c) = agreed.IsRolledBack.by_other reason (tells.reasons_on _ c)
    rolled_back_on name (agreed.IsRolledBack.by_synchronization reason synchronization c) =
        agreed.IsRolledBack.by_synchronization reason synchronization (tells.reasons_on _ c)

    -- it wasn't rolled back
    not_back : (name : List ℕ) (of : ObjectKey) → IsTransaction w name of → f.key ≡ of → IsRolledBack told name → ⊥
    not_back name of named same was =
        subst IsBack undecided_yet
        (k.rolled_back name f.key f (subst (IsTransaction w name) (sym same) named) old.top (found_by_own w key f found) was)

    one_outcome_then : NoneIsBoth v more
    one_outcome_then name of named top is (agreed.IsClosed.rolled_back x) = elim (decided_back name of named top is) [
      | inl was ↦ k.one_outcome name of named top was (agreed.IsClosed.rolled_back (rolled_back_back name x))
      | inr this ↦ not_back name of named this (rolled_back_back name x)
    ]
    one_outcome_then name of named top is (agreed.IsClosed.outlived l undecided) = undecided is

    closed_on : (name : List ℕ) (of : ObjectKey) → IsTransaction w name of → of.index ≡ 0 → IsClosed w told of name → IsClosed v more of name
    closed_on name of named top (agreed.IsClosed.rolled_back x) = agreed.IsClosed.rolled_back (rolled_back_on name x)
    closed_on name of named top (agreed.IsClosed.outlived l undecided) =
        agreed.IsClosed.outlived
        (record { server = l.server; named = seat_names_kept w place s left there refl (place_of of) ∙ l.named; life = l.life; later = l.later; up = tells.on _ l.up })
        (λ is. elim (decided_back name of named top is) [
          | inl was ↦ undecided was
          | inr this ↦ not_outlived w told k key f found (subst (λ (x : ObjectKey). agreed.IsOutlived w told x) (sym this) l)
        ])

    commits_then : CommitsAreRecorded v
    commits_then p o sent commit = has_on p (names_object o.to) (k.commits p o sent commit)

    -- ---- words of the second phase

    -- one that takes part in it wasn't told to commit alone
    not_one_phase : (name : List ℕ) → IsSent phase_words.CommitOnePhase name (known told) → TakesPart name old.name (known told) → ⊥
    not_one_phase name sent part =
        let turned = part_among (known told) (lines_of told) name old.name (among_turned (known told)) part in
        let at = branch_joined w told k key f found turned.0 turned.2 in
        no (sym alone ∙ (k.open_words.one_phase name turned.0 at.0 key f (sent.0, among_turned _ _ sent.1) turned.1 found at.1).1)
      where
        no : false ≡ true → ⊥
        no e = cc

    alone_on : (name : List ℕ) → IsSent phase_words.CommitOnePhase name (known told) → IsAlone w told name → IsAlone v more name
    alone_on name sent was =
        let turned = part_among (known told) (lines_of told) name was.family (among_turned (known told)) was.participant in
        let first = family_key w told k was.family (of_family (lines_of told) was.family turned.0 (joined_of (lines_of told) was.family turned.0 turned.2)) in
        let top = ap (λ (x : ObjectKey). x.index) (same_key (thing w was.family) was.key first.0 was.of_name first.1) ∙ first.2 in
        record {
          family = was.family;
          key = was.key;
          of_name = was.of_name;
          participant = part_among _ _ name was.family tells.on was.participant;
          only = λ p part. was.only p (part_back p was.family part);
          unrecorded = λ is. elim (decided_back was.family was.key was.of_name top is) [
            | inl before ↦ was.unrecorded before
            | inr this ↦
                let same_name : was.family ≡ old.name = k.names.keys was.family old.name _ was.of_name (old.of_name ∙ ap (λ (x : ObjectKey). Some (things.Transaction x)) this) in
                not_one_phase name sent (subst (λ (x : List ℕ). TakesPart name x (known told)) same_name was.participant)
          ];
        }

    one_phase_then : OnePhaseIsAlone v more
    one_phase_then name sent = let before : IsSent phase_words.CommitOnePhase name (known told) = (sent.0, tells.back _ refl sent.1) in alone_on name before (k.one_phase name before)

    over_on : (t top : List ℕ) (of : ObjectKey) → IsTransaction w top of → of.index ≡ 0 → IsClosed w told of top ⊎ IsCutOff (known told) t
        → IsClosed v more of top ⊎ IsCutOff (known more) t
    over_on t top of named first (inl closed) = inl (closed_on top of named first closed)
    over_on t top of named first (inr off) = inr (cut_among _ _ t tells.on off)

    rollbacks_then : RollbacksAreClosed v more
    rollbacks_then p o r sent rollback leads =
        let was = k.rollbacks p o r sent rollback (sym (refers o.to) ∙ leads) in
        record {
          transaction = was.transaction;
          key = was.key;
          named = was.named;
          registered = registered_among _ _ r.name was.transaction tells.on was.registered;
          top = was.top;
          family = was.family;
          over = over_on was.transaction was.top (record was.key { index = 0 }) was.family refl was.over;
        }

    rolled_back_then : RollbacksAreOutcomes v more
    rolled_back_then name of h named top at is = elim (families_then of h at) [
      | inl this ↦ absurd (by_this (seated v of h at) this.0)
      | inr that ↦ k.rolled_back name of h named top that.0 (rolled_back_back name is)
    ]
      where
        by_this : IsSeated v of h → h ≡ g → ⊥
        by_this at_seat same =
            not_back name of named (own_key name of named top (subst (λ (x : Family). IsTrue (is_of of x)) same at_seat.own)) (rolled_back_back name is)

    told_back_then : RollbacksAreTold v more
    told_back_then name of h at named is = elim (families_then of h at) [
      | inl this ↦ absurd (subst IsBack (ap (λ (x : Family). stages.outcome x.completion) this.0 ∙ decides.commits) is)
      | inr that ↦ rolled_back_on name (k.told_back name of h that.0 named is)
    ]

    -- ---- transactions, nodes and ends

    decided_named : (name : List ℕ) (outcome : LineOutcome) (b : Bool) → is_recorded outcome ≡ b → Stands (lines.Decide name outcome) (known more) → IsNamed v name
    decided_named name outcome true is x =
        elim (only name (subst (λ (y : LineOutcome). Stands (lines.Decide name y) (known more)) (recorded_is outcome is) x)) [
          | inl was ↦ k.transactions.decided name (outcomes.Commit Record) was
          | inr this ↦ (f.key, ap (thing w) this ∙ old.of_name)
        ]
    decided_named name outcome false is x = k.transactions.decided name outcome (tells.back (lines.Decide name outcome) is x)

    transactions_then : TransactionsAreKnown v more
    transactions_then = record {
      seated = λ name of named. elim (set_at w.seats place s left (place_of of) there) [
        | inl here ↦ ap is_some here.1
        | inr same ↦ ap is_some same ∙ k.transactions.seated name of named
      ];
      lives = λ name of ps named has. lives_then (place_of of) of.life ps (λ qs was. k.transactions.lives name of qs named was) (records_by (place_of of) ps has);
      decided = λ name outcome x. decided_named name outcome (is_recorded outcome) refl x;
      rolled_back = λ name x. k.transactions.rolled_back name (rolled_back_back name x);
    }

    was_held : (h : Held) → Contains n.recovered h → IsHeldAs w told place rs h
    was_held h c = (k.nodes place n node_up).held rs h held c

    held_here : (h : Held) → Contains n.recovered h → IsHeldAs v more place rs_then h
    held_here h among =
        let now = was_held h among in
        let at = more_placed first_gate rs (item ∷ []) in
        record {
          stood = now.stood;
          there = subst (λ (ss : List Standing). Contains ss now.stood) (sym at.1) (Contains-append_left (placed first_gate rs) at.0 now.stood now.there);
          same_place = now.same_place;
          numbers = now.numbers;
          references = now.references;
          line = λ of_life slot generation retry was_asked some_regs is.
              let was = now.line of_life slot generation retry was_asked some_regs is in
              (was.0, was.1, tells.on _ was.2);
        }

    held_there : (p : ℕ) (ps : List JournalRecord) (h : Held) → IsHeldAs w told p ps h → IsHeldAs v more p ps h
    held_there p ps h was = record {
      stood = was.stood;
      there = was.there;
      same_place = was.same_place;
      numbers = was.numbers;
      references = was.references;
      line = λ of_life slot generation retry was_asked some_regs is. let at = was.line of_life slot generation retry was_asked some_regs is in (at.0, at.1, tells.on _ at.2);
    }

    node_here : (c : Node) → IsUpThen c → NodeIsKnown v more place c
    node_here c this = subst (NodeIsKnown v more place) this.same (record {
      sound = edge_held v place rs_then m records_there this.keeps;
      given = λ name of named at in_life. old_node.given name of named at (in_life ∙ life_same ∙ sym (ap (λ (x : Found). x.life) found_is));
      order = λ x ps at has.
          subst (λ (y : List JournalRecord). IsInOrder (service_at place) x.disk y) (inner (sym records_there ∙ has))
          (subst (λ (y : Seat). IsInOrder (service_at place) y.disk rs_then) (inner (sym (get_set w.seats place s left there) ∙ at)) order);
      held = λ ps h has among. subst (λ (y : List JournalRecord). IsHeldAs v more place y h) (inner (sym records_there ∙ has)) (held_here h among);
    })
      where
        old_node : NodeIsKnown w told place n
        old_node = k.nodes place n node_up

    node_other : (p : ℕ) (c : Node) → slice_get (slice_set w.seats place left) p ≡ slice_get w.seats p → NodeIsKnown w told p c → NodeIsKnown v more p c
    node_other p c same was = record {
      sound = edge_kept v w p c (records_other p same) was.sound;
      given = was.given;
      order = λ x ps at has. was.order x ps (sym same ∙ at) (sym (records_other p same) ∙ has);
      held = λ ps h has among. held_there p ps h (was.held ps h (sym (records_other p same) ∙ has) among);
    }

    nodes_then : NodesAreKnown v more
    nodes_then p c is =
        let at = node_is_up v p c is in
        elim (set_at w.seats place s left p there) [
          | inl here ↦
              let same : left ≡ at.seat = inner (sym here.1 ∙ at.there) in
              subst (λ (i : ℕ). NodeIsKnown v more i c) (sym here.0) (node_here c (up_then c (ap (λ (x : Seat). x.server) same ∙ at.up)))
          | inr same ↦ node_other p c same (k.nodes p c (node_there w p at.seat c (sym same ∙ at.there) at.up))
        ]

    counted_then : EndsHaveCounted v
    counted_then = record {
      numbers = λ p e is. k.counted.numbers p e (sym (ends_same p) ∙ is);
      messages = λ p e is. k.counted.messages p e (sym (ends_same p) ∙ is);
      short = λ p e name is named. k.counted.short p e name (sym (ends_same p) ∙ is) (sym (seat_names_kept w place s left there refl p) ∙ named);
    }

    -- ---- its disk

    m_service : m.service ≡ service_at place
    m_service = (k.disks.follows place s n there up).service

    m_whole : (h : Held) → Contains m.recovered h → IsOfStanding m.found.standing h
    m_whole h c =
        let was = (k.disks.decisions place s n there up).whole h c in
        record {
          stood = was.stood;
          there = still_stands was.stood was.there;
          same_place = was.same_place;
          numbers = was.numbers;
          references = was.references;
        }

    disks_then : DisksAreKnown v more
    disks_then = record {
      held = λ p x o. seats_by (λ (p : ℕ) (x : Seat). x.server ≡ OfNode o → (ps : List JournalRecord) × Holds (service_at p) x.disk.reads ps × (records_at v p ≡ Some ps))
          (λ is. (rs_then, inl order.stands, records_there))
          (λ p x was same is. let at = k.disks.held p x o was is in (at.0, at.1, records_other p same ∙ at.2)) p x;
      whole = λ p x c. seats_by (λ (p : ℕ) (x : Seat). x.server ≡ OfNode (Some c) → IsWhole c)
          (λ is. let this = up_then c is in subst IsWhole this.same (node_whole place m m_service this.keeps.sound m_whole))
          (λ p x was same is. k.disks.whole p x c was is) p x;
      follows = λ p x c. seats_by (λ (p : ℕ) (x : Seat). x.server ≡ OfNode (Some c) → FollowsDisk p x c)
          (λ is. let this = up_then c is in subst (FollowsDisk place left) this.same
          (record { service = m_service; records = rs_then; held = read (service_at place) disk.reads rs_then order.stands; found = refl; settled = order.settled }))
          (λ p x was same is. k.disks.follows p x c was is) p x;
      decisions = λ p x c. seats_by (λ (p : ℕ) (x : Seat). x.server ≡ OfNode (Some c) → HoldsDecisions p c)
          (λ is. let this = up_then c is in subst (HoldsDecisions place) this.same (node_holds place m m_service this.keeps.sound m_whole))
          (λ p x was same is. k.disks.decisions p x c was is) p x;
      rise = λ before behind server in_life earlier e stands.
          let was = tells.split (lines.Up server in_life) before behind refl e in
          k.disks.rise before was.0 server in_life earlier was.1 stands;
      lives = λ p x o l ps. seats_by (λ (p : ℕ) (x : Seat). x.server ≡ OfNode o → Stands (lines.Up x.name l) (known more) → records_at v p ≡ Some ps → l ≤ (found_in ps).life)
          (λ is stands has. subst (λ (y : List JournalRecord). l ≤ (found_in y).life) (inner (sym records_there ∙ has))
          (subst (λ (i : ℕ). l ≤ i) (sym life_same) (k.disks.lives place s (Some n) l rs there up (tells.back _ refl stands) held)))
          (λ p x was same is stands has. k.disks.lives p x o l ps was is (tells.back _ refl stands) (sym (records_other p same) ∙ has)) p x;
      no_superior = λ p ps r is among. elim (records_by p ps is) [
        | inl here ↦ elim (Contains-push_cases rs item r (subst (λ (y : List JournalRecord). Contains y r) (sym here.1) among)) [
          | inl was ↦ k.disks.no_superior place rs r held was
          | inr new ↦ sym (ap is_prepared new)
        ]
        | inr was ↦ k.disks.no_superior p ps r was among
      ];
      rests = seats_by (λ (p : ℕ) (x : Seat). x.server ≡ OfNode None → IsSettled x.disk) (λ is. order.settled) (λ p x was same is. k.disks.rests p x was is);
    }

    pub appended_known : Known v more
    appended_known = record {
      names = names_then;
      seats = seats_kept w place s left there refl (lines_of told) (lines_of more) k.seats (λ name in_life x. k.seats.up name in_life (back _ refl x));
      disks = disks_then;
      words = words_then;
      votes = given_on;
      resources = resources_then;
      families = all_families;
      open_words = open_then;
      records = records_then;
      recorded = recorded_then;
      ends = λ before behind t how earlier e x.
          let at = tells.split (lines.SubDone t how) before behind refl e in
          k.ends before at.0 t how earlier at.1 x;
      one_outcome = one_outcome_then;
      commits = commits_then;
      one_phase = one_phase_then;
      rollbacks = rollbacks_then;
      rolled_back = rolled_back_then;
      told_back = told_back_then;
      transactions = transactions_then;
      nodes = nodes_then;
      counted = counted_then;
      allowed = allowed_on told some (each_as is_recorded_line is_bare recorded_bare some told_so) k.allowed;
    }
