-- What is known of a world is known once a node's disk has one more Done, or as many records as before, and the node is up with what it
-- held, or down.
use Rattle.std.proofs.Common.{◌≡◌, ◌≢◌, ◌⊎◌, inl, inr, ℕ, zero, suc, ◌+◌, ◌==◌, ◌<◌, ◌≤◌, ◌&&◌, ◌||◌, Bool, true, false, List, [], ◌∷◌, ◌++◌, append-nil, get_or, length, position, slice_get, slice_set, Any, Contains, Option, Some, None, refl, sym, ap, subst, ◌∙◌, arith}
use Rattle.std.specs.List.{AllByRecursion, list_any, remove}
use Rattle.std.specs.Option.{option_and_then, option_map_or}
use Rattle.std.proofs.lemmas.Bool.Decides.{nat_tests}
use Rattle.std.proofs.lemmas.List.Elements.{Contains-append_cases, Contains-append_left}
use Rattle.std.proofs.lemmas.List.Folds.{list_any-append}
use Rattle.std.proofs.lemmas.List.Quantifiers.{position-Some}
use Rattle.ior_refs.specs.declared.key.ObjectKey.{ObjectKey}
use Rattle.ots_model.specs.Safe.{Stands}
use Rattle.ots_model.specs.declared.line.Line.{Line}
use Rattle.ots_model.specs.declared.line.Line.TheVariants as lines
use Rattle.ots_model.specs.declared.tree.Outward.{Outward}
use Rattle.ots_outside.specs.Disk.{DiskState}
use Rattle.decision_journal.specs.Growing.{JournalsGrow}
use Rattle.decision_journal.specs.Journal.{Found, Holds, first_gate, found_in, is_decision_at, taken_away}
use Rattle.decision_journal.specs.Laws.{IsSettled}
use Rattle.decision_journal.specs.Layout.{record_octets}
use Rattle.decision_journal.specs.declared.journal.Standing.{Standing}
use Rattle.decision_journal.specs.declared.record.JournalRecord.{JournalRecord}
use Rattle.decision_journal.specs.declared.record.JournalRecord.TheVariants.{Done}
use Rattle.recovery_coord.specs.Limits.{retold_slot}
use Rattle.recovery_coord.specs.declared.held.Held.{Held}
use Rattle.coordinator.specs.Family.{Family}
use Rattle.coordinator.specs.Node.{Node, family_in, family_of, life, only_of}
use Rattle.coordinator.specs.NodeParts.{IsWhole}
use Rattle.family_laws.specs.HeldRecords.{IsOfStanding, WasHeld}
use Rattle.family_laws.specs.OwnDecisions.{KeepsDecisions}
use Rattle.nodes_world.specs.Disks.{Stop}
use Rattle.nodes_world.specs.Agreement.{FollowsDisk, HasSent, HoldsDecisions, has_record, records_at}
use Rattle.nodes_world.specs.AgreementInside.{Known, DisksAreKnown, IsHeldAs, IsNamedBy, NodeIsKnown, is_prepared, placed, journal_end}
use Rattle.nodes_world.specs.Journals.{records_on}
use Rattle.nodes_world.specs.Laws.{IsInOrder, RecordsAreRead}
use Rattle.nodes_world.specs.Objects.{place_of, service_at}
use Rattle.nodes_world.specs.Told.{Told, known}
use Rattle.nodes_world.specs.World.{World, Seat, Server, OfNode, end_in, family_at, node_at, node_in, with_seat}
use Rattle.nodes_world.proofs.Deeds.{node_is_up}
use Rattle.nodes_world.proofs.Edges.{edge_held}
use Rattle.nodes_world.proofs.Going.{get_set}
use Rattle.nodes_world.proofs.KnownLines.{among_back, among_turned, lines_of}
use Rattle.nodes_world.proofs.KnownTelling.{IsOne, TellsOn, allowed_on, each_as, is_bare, tells_on}
use Rattle.nodes_world.proofs.KnownWorlds.{Follows, Frame, WasUp, follows_self, framed_known, is_mark, node_there}
use Rattle.nodes_world.proofs.KnownAlike.{referred_by, resources_by}
use Rattle.nodes_world.proofs.KnownSeats.{ends_kept, seat_names_kept, seats_kept, set_at}
use Rattle.nodes_world.proofs.HeldLines.{found_is, held_as}
use Rattle.nodes_world.proofs.SoundNodes.{node_holds, node_whole}

-- ---- one more Done

-- no further record, or the Done of the decision at a place
abbrev pub added : Option ℕ → List JournalRecord
added None = []
added (Some named) = Done named ∷ []

pub more_placed : (gate : ℕ) (rs more : List JournalRecord) → (further : List Standing) × (placed gate (rs ++ more) ≡ placed gate rs ++ further)
more_placed gate [] more = (placed gate more, refl)
more_placed gate (x ∷ rs) more =
    let at = more_placed (gate + length (record_octets x)) rs more in
    (at.0, ap (λ (ss : List Standing). record { place = gate; item = x } ∷ ss) at.1)

pub any_more : (P : Standing → Type 0) (xs ys : List Standing) → Any P xs → Any P (xs ++ ys)
any_more P xs ys (i, x, within, at, is) = let there = Contains-append_left xs ys x (i, within, at) in (there.0, x, there.1, there.2, is)

only_done : (more : Option ℕ) (r : JournalRecord) → Contains (added more) r → (named : ℕ) × (Done named ≡ r)
only_done None r (i, less, is) = absurd (omega (arith, less))
only_done (Some named) r (zero, less, is) = (named, is)
only_done (Some named) r (suc i, less, is) = absurd (omega (arith, less))

none_of_them : (is_so : JournalRecord → Bool) → ((named : ℕ) → is_so (Done named) ≡ false) → (more : Option ℕ) → list_any is_so (added more) ≡ false
none_of_them is_so none None = refl
none_of_them is_so none (Some named) = ap (λ (b : Bool). b || false) (none named)

or_none : (b : Bool) → (b || false) ≡ b
or_none true = refl
or_none false = refl

same_any : (is_so : JournalRecord → Bool) → ((named : ℕ) → is_so (Done named) ≡ false) → (rs : List JournalRecord) (more : Option ℕ)
    → list_any is_so (rs ++ added more) ≡ list_any is_so rs
same_any is_so none rs more =
    list_any-append is_so rs (added more) ∙ ap (λ (b : Bool). list_any is_so rs || b) (none_of_them is_so none more) ∙ or_none (list_any is_so rs)

pub same_life : JournalsGrow → (service : ℕ) (rs : List JournalRecord) (more : Option ℕ) → (found_in (rs ++ added more)).life ≡ (found_in rs).life
same_life grow service rs None = ap (λ (x : List JournalRecord). (found_in x).life) (append-nil rs)
same_life grow service rs (Some named) = ap (λ (f : Found). f.life) (grow.added service rs (Done named))

not_done : (more : Option ℕ) (r : JournalRecord) → is_mark r ≡ false → Contains (added more) r → ⊥
not_done more r other among = let at = only_done more r among in no (ap is_mark at.1 ∙ other)
  where
    no : true ≡ false → ⊥
    no e = cc

pub done_follows : JournalsGrow → (service : ℕ) (rs : List JournalRecord) (more : Option ℕ) → Follows rs (rs ++ added more)
done_follows grow service rs more = record {
  life = let is = same_life grow service rs more in omega (arith, is);
  places = λ o any. let at = more_placed first_gate rs (added more) in subst (Any (IsNamedBy o)) (sym at.1) (any_more (IsNamedBy o) (placed first_gate rs) at.0 any);
  others = λ r other among. elim (Contains-append_cases rs (added more) r among) [
    | inl was ↦ was
    | inr new ↦ absurd (not_done more r other new)
  ];
  some = λ is_so never none. same_any is_so none rs more;
}

-- ---- what stands still

still_in : {A : Type 0} (xs : List A) (i j : ℕ) (x : A) → j < length xs → get_or xs j x ≡ x → j ≢ i → Contains (remove xs i) x
still_in [] i j x less is other = absurd (omega (arith, less))
still_in (y ∷ xs) zero zero x less is other = absurd (other refl)
still_in (y ∷ xs) zero (suc j) x less is other = (j, omega (arith, less), is)
still_in (y ∷ xs) (suc i) zero x less is other = (0, omega arith, is)
still_in (y ∷ xs) (suc i) (suc j) x less is other =
    let at = still_in xs i j x (omega (arith, less)) is (λ e. other (ap suc e)) in
    let l = at.1 in
    (suc at.0, omega (arith, l), at.2)

first_of_both : (a b : Bool) → (a && b) ≡ true → a ≡ true
first_of_both true b is = refl
first_of_both false b is = absurd cc

equal_places : (a b : ℕ) → (a == b) ≡ true → a ≡ b
equal_places a b is = grind (arith, nat_tests, is)

-- a Done leaves what stands at another place
pub stands_still : (named : ℕ) (standing : List Standing) (x : Standing) → Contains standing x → x.place ≢ named
    → Contains (taken_away (position (is_decision_at named) standing) standing) x
stands_still named standing x among other = by (position (is_decision_at named) standing) refl
  where
    by : (o : Option ℕ) → position (is_decision_at named) standing ≡ o → Contains (taken_away o standing) x
    by None is = among
    by (Some i) is =
        let at = position-Some (is_decision_at named) standing i x is in
        still_in standing i among.0 x among.1 among.2
        (λ same. other (equal_places x.place named (first_of_both (x.place == named) _ (sym (ap (λ (y : Standing). is_decision_at named y) (ap (λ (j : ℕ). get_or standing j x) (sym same) ∙ among.2)) ∙ at.1))))

-- ---- the world

-- a line of a Done
abbrev pub is_done_line : Line → Bool
is_done_line (lines.Done name) = true
is_done_line _ = false

done_bare : (line : Line) → is_done_line line ≡ true → is_bare line ≡ true
done_bare (lines.Done name) is = refl
done_bare _ is = absurd cc

each_bare : (some : List Told) → AllByRecursion (IsOne is_done_line) some → AllByRecursion (IsOne is_bare) some
each_bare = each_as is_done_line is_bare done_bare

inner : {A : Type 0} (x y : A) → Some x ≡ Some y → x ≡ y
inner x y e = cc

same_or_not : (a b : ℕ) → (a ≡ b) ⊎ (a ≢ b)
same_or_not a b = grind arith

down : {A : Type 0} {x : A} → None ≡ Some x → ⊥
down e = cc

-- what a node is, with which one goes on whose journal has these records and perhaps one more Done
pub record GoesOn (n m : Node) (rs : List JournalRecord) (more : Option ℕ) : Type 0 where
  pub service : m.service ≡ n.service
  pub generation : m.generation ≡ n.generation
  pub families : m.families ≡ n.families
  pub found : m.found ≡ found_in (rs ++ added more)
  pub sound : KeepsDecisions (journal_end (rs ++ added more)) m
  pub was : (h : Held) → Contains m.recovered h → WasHeld n.recovered h
  pub whole : (h : Held) → Contains m.recovered h → IsOfStanding m.found.standing h

module _ (grow : JournalsGrow) (read : RecordsAreRead) (w : World) (place : ℕ) (s : Seat) (n : Node) (told : List Told) (there : slice_get w.seats place ≡ Some s)
    (up : s.server ≡ OfNode (Some n)) (k : Known w told) (rs : List JournalRecord) (held : records_at w place ≡ Some rs) (more : Option ℕ) (disk : DiskState)
    (order : IsInOrder (service_at place) disk (rs ++ added more)) (stop : Option Stop) (then : Option Node)
    (goes : (m : Node) → then ≡ Some m → GoesOn n m rs more) (some : List Told) (dones : AllByRecursion (IsOne is_done_line) some) where
  abbrev rs_then : List JournalRecord
  rs_then = rs ++ added more

  abbrev left : Seat
  left = record s { disk = disk; stop = stop; server = OfNode then }

  abbrev v : World
  v = with_seat place left w

  abbrev later : List Told
  later = told ++ some

  node_up : node_at w place ≡ Some n
  node_up = node_there w place s n there up

  of_server : {x y : Option Node} → OfNode x ≡ OfNode y → x ≡ y
  of_server e = cc

  goes_by : (c : Node) → OfNode then ≡ OfNode (Some c) → GoesOn n c rs more
  goes_by c is = goes c (of_server is)

  tells : TellsOn is_done_line told later
  tells = tells_on is_done_line told some dones

  follows : Follows rs rs_then
  follows = done_follows grow (service_at place) rs more

  found : n.found ≡ found_in rs
  found = found_is w told k place n node_up rs held

  life_is : (c : Node) → GoesOn n c rs more → life c ≡ life n
  life_is c on = ap (λ (x : Found). x.life) on.found ∙ same_life grow (service_at place) rs more ∙ sym (ap (λ (x : Found). x.life) found)

  -- ---- its records

  records_there : records_at v place ≡ Some rs_then
  records_there =
      ap (λ (o : Option Seat). option_and_then (λ (x : Seat). records_on (service_at place) x.disk) o) (get_set w.seats place s left there)
      ∙ read (service_at place) disk.reads rs_then order.stands

  records_other : (p : ℕ) → slice_get (slice_set w.seats place left) p ≡ slice_get w.seats p → records_at v p ≡ records_at w p
  records_other p same = ap (λ (o : Option Seat). option_and_then (λ (x : Seat). records_on (service_at p) x.disk) o) same

  records_by : (p : ℕ) (ps : List JournalRecord) → records_at v p ≡ Some ps
      → ((p ≡ place) × (rs_then ≡ ps)) ⊎ (records_at w p ≡ Some ps)
  records_by p ps is = elim (set_at w.seats place s left p there) [
    | inl here ↦ inl (here.0, inner rs_then ps (sym records_there ∙ ap (records_at v) (sym here.0) ∙ is))
    | inr same ↦ inr (sym (records_other p same) ∙ is)
  ]

  -- a seat then is that one, or is as it was
  seats_by : (P : ℕ → Seat → Type 0) → P place left
      → ((p : ℕ) (x : Seat) → slice_get w.seats p ≡ Some x → slice_get (slice_set w.seats place left) p ≡ slice_get w.seats p → P p x)
      → (p : ℕ) (x : Seat) → slice_get (slice_set w.seats place left) p ≡ Some x → P p x
  seats_by P new old p x at = elim (set_at w.seats place s left p there) [
    | inl here ↦ subst (λ (i : ℕ). P i x) (sym here.0) (subst (P place) (inner left x (sym here.1 ∙ at)) new)
    | inr same ↦ old p x (sym same ∙ at) same
  ]

  -- ---- its families are as before

  family_same : (key : ObjectKey) (m : Node) → m.families ≡ n.families → family_of key m ≡ family_of key n
  unfolding family_of
  family_same key m same = ap (λ (fs : List (Option Family)). option_and_then (only_of key) (family_in fs key.slot)) same

  family_was : (key : ObjectKey) (f : Family) (o : Option Node) → then ≡ o → option_and_then (family_of key) o ≡ Some f → option_and_then (family_of key) (Some n) ≡ Some f
  family_was key f (Some m) is there_is = sym (family_same key m (goes m is).families) ∙ there_is
  family_was key f None is there_is = absurd (down there_is)

  family_back : (key : ObjectKey) (f : Family) → family_at v key ≡ Some f → family_at w key ≡ Some f
  unfolding node_at
  family_back key f is = elim (set_at w.seats place s left (place_of key) there) [
    | inl here ↦
        ap (λ (i : ℕ). option_and_then (family_of key) (option_and_then (λ (x : Seat). node_in x.server) (slice_get w.seats i))) here.0
        ∙ ap (λ (o : Option Seat). option_and_then (family_of key) (option_and_then (λ (x : Seat). node_in x.server) o)) there
        ∙ ap (λ (x : Server). option_and_then (family_of key) (node_in x)) up
        ∙ family_was key f then refl
        (sym (ap (λ (o : Option Seat). option_and_then (family_of key) (option_and_then (λ (x : Seat). node_in x.server) o)) here.1) ∙ is)
    | inr other ↦ sym (ap (λ (o : Option Seat). option_and_then (family_of key) (option_and_then (λ (x : Seat). node_in x.server) o)) other) ∙ is
  ]

  -- ---- the node

  held_then : (m : Node) → GoesOn n m rs more → (h : Held) → Contains m.recovered h → IsHeldAs v later place rs_then h
  held_then m on h among =
      let now = held_as w told k place n node_up rs held h (inl (on.was h among)) in
      let at = more_placed first_gate rs (added more) in
      record {
        stood = now.stood;
        there = subst (λ (ss : List Standing). Contains ss now.stood) (sym at.1) (Contains-append_left (placed first_gate rs) at.0 now.stood now.there);
        same_place = now.same_place;
        numbers = now.numbers;
        references = now.references;
        line = λ of_life slot generation by asked regs is.
            let was = now.line of_life slot generation by asked regs is in
            (was.0, was.1, tells.on _ was.2);
      }

  node_then : (m : Node) → GoesOn n m rs more → NodeIsKnown v later place m
  node_then m on =
      let old = k.nodes place n node_up in
      record {
        sound = edge_held v place rs_then m records_there on.sound;
        given = λ name key named at in_life.
            let less = old.given name key named at (in_life ∙ life_is m on) in
            subst (λ (g : ℕ). key.generation ≤ g) (sym on.generation) less;
        order = λ x ps at has.
            subst (λ (y : List JournalRecord). IsInOrder (service_at place) x.disk y) (inner rs_then ps (sym records_there ∙ has))
            (subst (λ (y : Seat). IsInOrder (service_at place) y.disk rs_then) (inner left x (sym (get_set w.seats place s left there) ∙ at)) order);
        held = λ ps h has among. subst (λ (y : List JournalRecord). IsHeldAs v later place y h) (inner rs_then ps (sym records_there ∙ has)) (held_then m on h among);
      }

  nodes_then : (p : ℕ) (c : Node) → node_at v p ≡ Some c → WasUp w v p c ⊎ NodeIsKnown v later p c
  nodes_then p c is =
      let at = node_is_up v p c is in
      elim (set_at w.seats place s left p there) [
        | inl here ↦
            let same = inner left at.seat (sym here.1 ∙ at.there) in
            inr (subst (λ (i : ℕ). NodeIsKnown v later i c) (sym here.0) (node_then c (goes_by c (ap (λ (x : Seat). x.server) same ∙ at.up))))
        | inr same ↦ inl (record {
          up = node_there w p at.seat c (sym same ∙ at.there) at.up;
          records = records_other p same;
          disks = λ x now. (x, sym same ∙ now, refl);
        })
      ]

  frame : Frame w v told later
  frame = record {
    tells = tells_on is_bare told some (each_bare some dones);
    allowed = allowed_on told some (each_bare some dones);
    decided = λ name key named stands. inl (tells.back _ refl stands);
    commits = λ name key f at named stands. among_turned _ _ (tells.back _ refl (among_back _ _ stands));
    named = λ name stands. inl (tells.back _ refl stands);
    transaction_on = λ name key is. is;
    transaction_back = λ name key is. is;
    resource_on = λ name key is. is;
    resource_back = λ name key is. is;
    refers = λ to. referred_by w v to refl (seat_names_kept w place s left there refl);
    resources = λ key. resources_by w v key (ends_kept w place s left there refl (sym (ap end_in up)) (place_of key));
    messages_on = λ nth x at. (x, at, refl);
    messages_back = λ nth x at heard. (x, at, refl);
    families = family_back;
    records = λ p ps is. elim (records_by p ps is) [
      | inl here ↦ inl (rs, ap (records_at w) here.0 ∙ held, subst (Follows rs) here.1 follows)
      | inr was ↦ inl (ps, was, follows_self ps)
    ];
    has = λ p is_so never other. elim (set_at w.seats place s left p there) [
      | inl here ↦ ap (λ (i : ℕ). has_record v i is_so) here.0
          ∙ ap (λ (o : Option (List JournalRecord)). option_map_or (λ (ps : List JournalRecord). list_any is_so ps) o false) records_there
          ∙ follows.some is_so never other
          ∙ sym (ap (λ (o : Option (List JournalRecord)). option_map_or (λ (ps : List JournalRecord). list_any is_so ps) o false) held)
          ∙ ap (λ (i : ℕ). has_record w i is_so) (sym here.0)
      | inr same ↦ ap (λ (o : Option (List JournalRecord)). option_map_or (λ (ps : List JournalRecord). list_any is_so ps) o false) (records_other p same)
    ];
    seats = λ p server is. seat_names_kept w place s left there refl p ∙ is;
    nodes = nodes_then;
    counted = λ was. record {
      numbers = λ p e is. was.numbers p e (sym (ends_kept w place s left there refl (sym (ap end_in up)) p) ∙ is);
      messages = λ p e is. was.messages p e (sym (ends_kept w place s left there refl (sym (ap end_in up)) p) ∙ is);
      short = λ p e name is named. was.short p e name (sym (ends_kept w place s left there refl (sym (ap end_in up)) p) ∙ is) (sym (seat_names_kept w place s left there refl p) ∙ named);
    };
  }

  -- ---- its disk

  of_service : (m : Node) → GoesOn n m rs more → m.service ≡ service_at place
  of_service m on = on.service ∙ (k.disks.follows place s n there up).service

  disks_then : DisksAreKnown v later
  disks_then = record {
    held = λ p x o. seats_by (λ (p : ℕ) (x : Seat). x.server ≡ OfNode o → (ps : List JournalRecord) × Holds (service_at p) x.disk.reads ps × (records_at v p ≡ Some ps))
        (λ is. (rs_then, inl order.stands, records_there))
        (λ p x old same is. let was = k.disks.held p x o old is in (was.0, was.1, records_other p same ∙ was.2)) p x;
    whole = λ p x c. seats_by (λ (p : ℕ) (x : Seat). x.server ≡ OfNode (Some c) → IsWhole c)
        (λ is. let on = goes_by c is in node_whole place c (of_service c on) on.sound.sound on.whole)
        (λ p x old same is. k.disks.whole p x c old is) p x;
    follows = λ p x c. seats_by (λ (p : ℕ) (x : Seat). x.server ≡ OfNode (Some c) → FollowsDisk p x c)
        (λ is. let on = goes_by c is in
        record { service = of_service c on; records = rs_then; held = read (service_at place) disk.reads rs_then order.stands; found = on.found; settled = order.settled })
        (λ p x old same is. k.disks.follows p x c old is) p x;
    decisions = λ p x c. seats_by (λ (p : ℕ) (x : Seat). x.server ≡ OfNode (Some c) → HoldsDecisions p c)
        (λ is. let on = goes_by c is in node_holds place c (of_service c on) on.sound.sound on.whole)
        (λ p x old same is. k.disks.decisions p x c old is) p x;
    rise = λ before behind server in_life earlier e stands.
        let was = tells.split (lines.Up server in_life) before behind refl e in
        k.disks.rise before was.0 server in_life earlier was.1 stands;
    lives = λ p x o l ps. seats_by (λ (p : ℕ) (x : Seat). x.server ≡ OfNode o → Stands (lines.Up x.name l) (known later) → records_at v p ≡ Some ps → l ≤ (found_in ps).life)
        (λ is stands has. subst (λ (y : List JournalRecord). l ≤ (found_in y).life) (inner rs_then ps (sym records_there ∙ has))
        (subst (λ (i : ℕ). l ≤ i) (sym (same_life grow (service_at place) rs more)) (k.disks.lives place s (Some n) l rs there up (tells.back _ refl stands) held)))
        (λ p x old same is stands has. k.disks.lives p x o l ps old is (tells.back _ refl stands) (sym (records_other p same) ∙ has)) p x;
    no_superior = λ p ps r is among. elim (records_by p ps is) [
      | inl here ↦ own r (Contains-append_cases rs (added more) r (subst (λ (y : List JournalRecord). Contains y r) (sym here.1) among))
      | inr was ↦ k.disks.no_superior p ps r was among
    ];
    rests = seats_by (λ (p : ℕ) (x : Seat). x.server ≡ OfNode None → IsSettled x.disk) (λ is. order.settled) (λ p x old same is. k.disks.rests p x old is);
  }
    where
      own : (r : JournalRecord) → Contains rs r ⊎ Contains (added more) r → is_prepared r ≡ false
      own r (inl was) = k.disks.no_superior place rs r held was
      own r (inr new) = let at = only_done more r new in sym (ap is_prepared at.1)

  given_then : (p : ℕ) (x : Seat) (c : Node) (o : Outward) → slice_get v.seats p ≡ Some x → x.server ≡ OfNode (Some c) → HasSent w p o
      → o.number.life ≡ life c → (o.number.slot ≡ retold_slot) ⊎ (o.number.generation ≤ c.generation)
  given_then p x c o = seats_by (λ (p : ℕ) (x : Seat). x.server ≡ OfNode (Some c) → HasSent w p o → o.number.life ≡ life c → (o.number.slot ≡ retold_slot) ⊎ (o.number.generation ≤ c.generation))
      (λ is sent same. let on = goes_by c is in
      subst (λ (g : ℕ). (o.number.slot ≡ retold_slot) ⊎ (o.number.generation ≤ g)) (sym on.generation)
      (k.words.given place s n o there up sent (same ∙ life_is c on)))
      (λ p x old same is sent life. k.words.given p x c o old is sent life) p x

  pub gone_on_known : Known v later
  gone_on_known =
      framed_known w v told later frame k k.names.keys k.names.once
      (seats_kept w place s left there refl (lines_of told) (lines_of later) k.seats
      (λ name in_life stands. k.seats.up name in_life (among_turned _ _ (tells.back _ refl (among_back _ _ stands)))))
      disks_then given_then
