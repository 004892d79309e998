-- What is known of a world is known once a node has come up.
use Rattle.std.proofs.Common.{◌≡◌, ◌⊎◌, inl, inr, ℕ, ◌+◌, ◌^◌, ◌<◌, ◌≤◌, ◌==◌, ◌&&◌, Bool, true, false, IsTrue, List, [], ◌∷◌, ◌++◌, slice_get, slice_set, Contains, Option, Some, None, refl, sym, ap, subst, ◌∙◌, arith, append_assoc, nat_lt}
use Rattle.std.specs.List.{AllByRecursion, flat_map, list_any}
use Rattle.std.specs.Option.{option_map_or, option_and_then}
use Rattle.std.proofs.lemmas.Bool.Decides.{nat_tests}
use Rattle.std.proofs.lemmas.List.Elements.{Contains-push_cases, filter_map-append}
use Rattle.std.proofs.lemmas.List.Folds.{list_any-from_Any}
use Rattle.ior_refs.specs.declared.key.ObjectKey.{ObjectKey}
use Rattle.ots_model.specs.Safe.{Stands}
use Rattle.ots_model.specs.declared.completion.Ground.TheVariants.{Record}
use Rattle.ots_model.specs.declared.completion.Outcome.TheVariants as told_outcomes
use Rattle.ots_model.specs.declared.line.Line.{Line}
use Rattle.ots_model.specs.declared.line.Line.TheVariants as lines
use Rattle.decision_journal.specs.Journal.{Holds, StandsFor, found_in}
use Rattle.decision_journal.specs.Laws.{IsSettled}
use Rattle.decision_journal.specs.Loading.{LoadsAreSafe, loaded, next_life}
use Rattle.decision_journal.specs.declared.journal.Standing.{Standing}
use Rattle.decision_journal.specs.declared.record.JournalRecord.{JournalRecord}
use Rattle.decision_journal.specs.declared.record.JournalRecord.TheVariants.{Life, Decision, Done, Prepared, CellsPrepared, CellsOutcome, CellsOnePhase}
use Rattle.recovery_coord.specs.Held.{held_of, is_decided}
use Rattle.recovery_coord.specs.Limits.{retold_slot}
use Rattle.recovery_coord.specs.declared.held.Held.{Held}
use Rattle.coordinator.specs.Family.{Family}
use Rattle.coordinator.specs.Limits.{slot_limit}
use Rattle.coordinator.specs.Node.{Node, family_of, in_next_life, life, load, only_of}
use Rattle.coordinator.specs.NodeParts.{IsWhole}
use Rattle.nodes_world.specs.declared.thing.Thing.TheVariants as things
use Rattle.nodes_world.specs.Journals.{records_on}
use Rattle.nodes_world.specs.Laws.{RecordsAreRead, IsInOrder}
use Rattle.decision_journal.specs.Growing.{JournalsGrow}
use Rattle.nodes_world.specs.Objects.{place_of, service_at}
use Rattle.nodes_world.specs.Told as tell
use Rattle.nodes_world.specs.Told.{Told, known, known_in}
use Rattle.nodes_world.specs.World.{World, Seat, OfNode, end_in, family_at, node_at, node_in, thing, transaction_name, with_seat}
use Rattle.nodes_world.specs.Nodes.{key_of_record}
use Rattle.nodes_world.specs.Lives.{loads, standing_lines, up_lines}
use Rattle.nodes_world.specs.Step.{lacks_life}
use Rattle.nodes_world.specs.Agreement.{FollowsDisk, HasSent, HoldsDecisions, IsTransaction, has_record, is_decision_of, records_at, recorded_key}
use Rattle.nodes_world.specs.AgreementInside.{Known, DisksAreKnown, SeatsAreNamed, is_prepared, IsHeldAs, IsNamed, NodeIsKnown, journal_end}
use Rattle.nodes_world.proofs.Edges.{before_end, edge_held}
use Rattle.nodes_world.proofs.Going.{get_set, on_seat_twice}
use Rattle.nodes_world.proofs.KnownLines.{among_back, among_turned, lines_of}
use Rattle.nodes_world.proofs.KnownFamilies.{seated}
use Rattle.nodes_world.proofs.KnownTelling.{IsOne, TellsOn, allowed_on, is_bare, tells_on}
use Rattle.nodes_world.proofs.KnownWorlds.{Follows, Frame, follows_self, framed_known, is_mark, WasUp, node_there}
use Rattle.nodes_world.proofs.KnownAlike.{referred_by, resources_by}
use Rattle.nodes_world.proofs.KnownSeats.{ends_kept, families_kept, seat_names_kept, seats_kept, set_at}
use Rattle.nodes_world.proofs.KnownMakings.{split_cases}
use Rattle.nodes_world.proofs.LoadedNodes.{load_holds, load_whole, no_family, recovered_of, standing_record, decision_held_as, held_so, standing_placed}
use Rattle.nodes_world.proofs.LoadedDisks.{life_follows, load_leaves, next_found}
use Rattle.nodes_world.proofs.LoadedLines.{IsTold, is_recorded_decision, name_is, standing_one, standing_told, stands_both, told_standing, transaction_found, stands_behind}
use Rattle.nodes_world.proofs.KnownFrames.{known_phase}
use Rattle.family_laws.specs.OwnDecisions.{NodesKeepDecisions}
use Rattle.nodes_world.proofs.Deeds.{node_is_up}
use Rattle.nodes_world.proofs.EffectsTold.{name_named}
use Rattle.decision_journal.specs.declared.record.Registration.{Registration as Named}
use Rattle.decision_journal.specs.Limits.{area_limit}
use Rattle.ots_model.specs.declared.service.RetryKey.{RetryKey}

inner : {A : Type 0} (x y : A) → Some x ≡ Some y → x ≡ y
inner x y e = cc

node_of : (x y : Node) → OfNode (Some x) ≡ OfNode (Some y) → x ≡ y
node_of x y e = cc

not_down : (x : Node) → OfNode (Some x) ≡ OfNode None → ⊥
not_down x e = cc

-- the parts of a key that goes by that of a record
same_five : (a b c d i p q r s : ℕ) → IsTrue (a == p && b == q && c == r && d == s && i == 0) → (a ≡ p) × (b ≡ q) × (c ≡ r) × (d ≡ s)
same_five a b c d i p q r s is = grind (arith, nat_tests)

same_three : (a b c p q r : ℕ) → a ≡ p → b ≡ q → c ≡ r → IsTrue (a == p && b == q && c == r)
same_three a b c p q r e f g = grind (arith, nat_tests)

-- what is held as a decision is one, of the family that it says
decision_is : (place : ℕ) (item : JournalRecord) (h : Held) (key : ObjectKey) → held_of place item [] [] ≡ Some h → is_decided h.kind ≡ true
    → h.life ≡ key.life → h.slot ≡ key.slot → h.generation ≡ key.generation → (is_decision_of key item ≡ true) × (is_mark item ≡ false)
decision_is place (Life life) h key is so a b c = absurd cc
decision_is place (Decision life slot generation retry asked regs) h key is so a b c =
    let same = inner _ h is in (
      same_three life slot generation key.life key.slot key.generation (ap (λ (x : Held). x.life) same ∙ a) (ap (λ (x : Held). x.slot) same ∙ b)
          (ap (λ (x : Held). x.generation) same ∙ c),
      refl,
    )
decision_is place (Done named) h key is so a b c = absurd cc
decision_is place (Prepared life slot generation recovery regs) h key is so a b c =
    absurd (no (ap (λ (x : Held). is_decided x.kind) (inner _ h is) ∙ so))
  where
    no : false ≡ true → ⊥
    no e = cc
decision_is place (CellsPrepared life number recovery ps) h key is so a b c = absurd cc
decision_is place (CellsOutcome named how) h key is so a b c = absurd cc
decision_is place (CellsOnePhase life number ps) h key is so a b c = absurd cc

-- the records that its disk reads are those that it holds
pub held_as : (w : World) (place : ℕ) (s : Seat) (rs : List JournalRecord) (told : List Told) → slice_get w.seats place ≡ Some s → s.server ≡ OfNode None
    → records_on (service_at place) s.disk ≡ Some rs → Known w told → Holds (service_at place) s.disk.reads rs
held_as w place s rs told there down held k =
    let was = k.disks.held place s None there down in
    subst (Holds (service_at place) s.disk.reads)
    (inner was.0 rs (sym was.2 ∙ ap (λ (o : Option Seat). option_and_then (λ (x : Seat). records_on (service_at place) x.disk) o) there ∙ held)) was.1

module _ (grow : JournalsGrow) (safe : LoadsAreSafe) (read : RecordsAreRead) (sound : NodesKeepDecisions) (w : World) (place : ℕ) (s : Seat) (rs : List JournalRecord) (told : List Told)
    (there : slice_get w.seats place ≡ Some s) (down : s.server ≡ OfNode None) (held : records_on (service_at place) s.disk ≡ Some rs)
    (lacks : lacks_life (service_at place) rs ≡ false) (fits : (found_in rs).life + 1 < 2 ^ 32) (k : Known w told) where
  abbrev n : Node
  n = load (service_at place) rs

  abbrev rs_then : List JournalRecord
  rs_then = rs ++ next_life rs ∷ []

  abbrev up_seat : Seat
  up_seat = record s { disk = loaded (service_at place) rs s.disk; stop = None; server = OfNode (Some n) }

  abbrev v : World
  v = with_seat place up_seat w

  abbrev decides : List Told
  decides = flat_map (standing_lines w (service_at place)) n.recovered

  abbrev up_line : Line
  up_line = lines.Up s.name (life n)

  abbrev later : List Told
  later = told ++ (tell.Known up_line ∷ decides)

  -- ---- its disk

  records_was : records_at w place ≡ Some rs
  records_was = ap (λ (o : Option Seat). option_and_then (λ (x : Seat). records_on (service_at place) x.disk) o) there ∙ held

  holds : Holds (service_at place) s.disk.reads rs
  holds = held_as w place s rs told there down held k

  left : StandsFor (service_at place) (loaded (service_at place) rs s.disk).reads rs_then × IsSettled (loaded (service_at place) rs s.disk)
  left = load_leaves grow safe (service_at place) rs s.disk (k.disks.rests place s there down) holds fits lacks

  records_new : records_on (service_at place) up_seat.disk ≡ Some rs_then
  records_new = read (service_at place) up_seat.disk.reads rs_then left.0

  records_there : records_at v place ≡ Some rs_then
  records_there =
      ap (λ (o : Option Seat). option_and_then (λ (x : Seat). records_on (service_at place) x.disk) o) (get_set w.seats place s up_seat there) ∙ records_new

  records_other : (p : ℕ) → slice_get (slice_set w.seats place up_seat) p ≡ slice_get w.seats p → records_at v p ≡ records_at w p
  records_other p same = ap (λ (o : Option Seat). option_and_then (λ (x : Seat). records_on (service_at p) x.disk) o) same

  follows : Follows rs rs_then
  follows = life_follows grow (service_at place) rs

  -- a seat then is the one that came up, or is as it was
  seats_by : (P : ℕ → Seat → Type 0) → P place up_seat
      → ((p : ℕ) (x : Seat) → slice_get w.seats p ≡ Some x → slice_get (slice_set w.seats place up_seat) p ≡ slice_get w.seats p → P p x)
      → (p : ℕ) (x : Seat) → slice_get (slice_set w.seats place up_seat) p ≡ Some x → P p x
  seats_by P new old p x at = elim (set_at w.seats place s up_seat p there) [
    | inl here ↦ subst (λ (i : ℕ). P i x) (sym here.0) (subst (P place) (inner up_seat x (sym here.1 ∙ at)) new)
    | inr same ↦ old p x (sym same ∙ at) same
  ]

  records_by : (p : ℕ) (ps : List JournalRecord) → records_at v p ≡ Some ps
      → ((p ≡ place) × (rs_then ≡ ps)) ⊎ (records_at w p ≡ Some ps)
  records_by p ps is = elim (set_at w.seats place s up_seat p there) [
    | inl here ↦ inl (here.0, inner rs_then ps (sym records_there ∙ ap (records_at v) (sym here.0) ∙ is))
    | inr same ↦ inr (sym (records_other p same) ∙ is)
  ]

  -- ---- the lines

  all_bare : AllByRecursion (IsOne is_bare) (tell.Known up_line ∷ decides)
  all_bare = (refl, standing_one is_bare (λ name. refl) w (service_at place) n.recovered)

  after_up : TellsOn is_recorded_decision (told ++ tell.Known up_line ∷ []) later
  after_up =
      subst (TellsOn is_recorded_decision (told ++ tell.Known up_line ∷ [])) (append_assoc told (tell.Known up_line ∷ []) decides)
      (tells_on is_recorded_decision (told ++ tell.Known up_line ∷ []) decides (standing_one is_recorded_decision (λ name. refl) w (service_at place) n.recovered))

  up_parts : (name : List ℕ) (l : ℕ) → up_line ≡ lines.Up name l → (s.name ≡ name) × (life n ≡ l)
  up_parts name l e = (cc, cc)

  ups : (name : List ℕ) (l : ℕ) → Stands (lines.Up name l) (known later) → Stands (lines.Up name l) (known told) ⊎ ((s.name ≡ name) × (life n ≡ l))
  ups name l stands =
      elim (stands_both (known told) (up_line ∷ []) (lines.Up name l) (subst (Stands (lines.Up name l)) (known_phase told up_line) (after_up.back _ refl stands))) [
        | inl was ↦ inl was
        | inr (inl new) ↦ inr (up_parts name l new)
        | inr (inr none) ↦ absurd none
      ]

  not_up : (name : List ℕ) → up_line ≡ lines.Decide name (told_outcomes.Commit Record) → ⊥
  not_up name e = cc

  decisions_told : (name : List ℕ) → Stands (lines.Decide name (told_outcomes.Commit Record)) (known later)
      → Stands (lines.Decide name (told_outcomes.Commit Record)) (known told) ⊎ IsTold w (service_at place) n.recovered name
  decisions_told name stands =
      elim (stands_both (known told) (up_line ∷ known decides) (lines.Decide name (told_outcomes.Commit Record))
      (subst (Stands (lines.Decide name (told_outcomes.Commit Record))) (filter_map-append known_in told (tell.Known up_line ∷ decides)) stands)) [
        | inl was ↦ inl was
        | inr (inl e) ↦ absurd (not_up name e)
        | inr (inr new) ↦ inr (standing_told w (service_at place) n.recovered name new)
      ]

  parts_of : (name : List ℕ) (key : ObjectKey) (t : IsTold w (service_at place) n.recovered name) → IsTransaction w name key
      → (key.service ≡ service_at place) × (key.life ≡ t.held.life) × (key.slot ≡ t.held.slot) × (key.generation ≡ t.held.generation)
  parts_of name key t named =
      same_five key.service key.life key.slot key.generation key.index (service_at place) t.held.life t.held.slot t.held.generation
      (name_is w told k (key_of_record (service_at place) t.held) key name t.named named)

  has_decision : (name : List ℕ) (key : ObjectKey) → IsTold w (service_at place) n.recovered name → IsTransaction w name key
      → IsTrue (has_record w (place_of key) (is_decision_of key))
  has_decision name key t named =
      let parts = parts_of name key t named in
      let at = recovered_of (found_in (in_next_life rs)).standing t.held t.among in
      let so = decision_is at.0.place at.0.item t.held key at.2 t.decided (sym parts.1) (sym parts.2) (sym parts.3) in
      let among = follows.others at.0.item so.1 (standing_record rs_then at.0 at.1) in
      let same : place_of key ≡ place = let service = parts.0 in omega (arith, service) in
      ap (λ (o : Option (List JournalRecord)). option_map_or (λ (ps : List JournalRecord). list_any (is_decision_of key) ps) o false) (ap (records_at w) same ∙ records_was)
      ∙ list_any-from_Any (is_decision_of key) rs (among.0, at.0.item, among.1, among.2, so.0)

  -- no family is there
  none_there : (key : ObjectKey) (f : Family) → option_and_then (family_of key) (Some n) ≡ Some f → ⊥
  unfolding family_of
  none_there key f is = no (sym is ∙ ap (option_and_then (only_of key)) (no_family slot_limit key.slot))
    where
      no : Some f ≡ None → ⊥
      no e = cc

  at_place : (key : ObjectKey) (f : Family) → family_at v key ≡ Some f → place_of key ≡ place → ⊥
  unfolding node_at
  at_place key f is here =
      let at = ap (slice_get (slice_set w.seats place up_seat)) here ∙ get_set w.seats place s up_seat there in
      none_there key f (sym (ap (λ (o : Option Seat). option_and_then (family_of key) (option_and_then (λ (x : Seat). node_in x.server) o)) at) ∙ is)

  other_place : (name : List ℕ) (key : ObjectKey) (f : Family) → family_at v key ≡ Some f → IsTransaction w name f.key
      → IsTold w (service_at place) n.recovered name → ⊥
  other_place name key f is named t =
      let parts = parts_of name f.key t named in
      let own = same_own key.service key.life key.slot key.generation f.key.service f.key.life f.key.slot f.key.generation (seated v key f is).own in
      let service = parts.0 in
      at_place key f is (omega (arith, service, own))
    where
      same_own : (a b c d p q r s : ℕ) → IsTrue (a == p && b == q && c == r && d == s) → a ≡ p
      same_own a b c d p q r s e = grind (arith, nat_tests)

  -- ---- what is known of the node that came up

  is_named : (name : List ℕ) → IsTold w (service_at place) n.recovered name → IsNamed w name
  is_named name t =
      let at = name_named w told k (key_of_record (service_at place) t.held) name t.named in
      (at.0, at.1)

  -- its decisions are told
  line_of : (s : Standing) (h : Held) → Contains (found_in rs_then).standing s → held_of s.place s.item [] [] ≡ Some h → Contains n.recovered h
      → (of_life slot generation : ℕ) (retry : Option RetryKey) (asked : Bool) (regs : List Named) → s.item ≡ Decision of_life slot generation retry asked regs
      → (name : List ℕ) × IsTransaction w name (recorded_key place of_life slot generation)
      × Stands (lines.Decide name (told_outcomes.Commit Record)) (known later)
  line_of s h stands is among of_life slot generation retry asked regs decision =
      let item : JournalRecord = Decision of_life slot generation retry asked regs in
      let so = decision_held_as s.place of_life slot generation retry asked regs h (ap (λ (x : JournalRecord). held_of s.place x [] []) (sym decision) ∙ is) in
      let there = follows.others item refl (subst (Contains rs_then) decision (standing_record rs_then s stands)) in
      let rests = k.records place of_life slot generation retry asked regs rs records_was there in
      let same : key_of_record (service_at place) h ≡ recorded_key place of_life slot generation = same_record so.1 so.2 so.3 in
      let named = ap (transaction_name w) same ∙ transaction_found w told k (recorded_key place of_life slot generation) rests.name rests.of_name in
      let line = told_standing w (service_at place) n.recovered h rests.name among so.0 named in (
        rests.name,
        rests.of_name,
        subst (Stands (lines.Decide rests.name (told_outcomes.Commit Record))) (sym (filter_map-append known_in told (tell.Known up_line ∷ decides)))
            (stands_behind (known told) (up_line ∷ known decides) (lines.Decide rests.name (told_outcomes.Commit Record)) (inr line)),
      )
    where
      same_record : {a b c : ℕ} → h.life ≡ a → h.slot ≡ b → h.generation ≡ c → key_of_record (service_at place) h ≡ recorded_key place a b c
      same_record e f g = cc

  held_up : (h : Held) → Contains n.recovered h → IsHeldAs v later place rs_then h
  held_up h among =
      let at = recovered_of (found_in rs_then).standing h among in
      let so = held_so at.0.place at.0.item h at.2 in
      record {
        stood = at.0;
        there = standing_placed rs_then at.0 at.1;
        same_place = so.0;
        numbers = so.2;
        references = so.1;
        line = line_of at.0 h at.1 at.2 among;
      }

  order_up : IsInOrder (service_at place) up_seat.disk rs_then
  order_up = record { settled = left.1; stands = left.0; room = grow.room area_limit (service_at place) rs (next_life rs) (at_most _ area_limit lacks) }
    where
      at_most : (a b : ℕ) → nat_lt b a ≡ false → a ≤ b
      at_most a b is = grind (arith, nat_tests)

  node_up_known : NodeIsKnown v later place n
  node_up_known = record {
    sound = edge_held v place rs_then n records_there (sound.loaded (journal_end rs_then) (service_at place) rs (before_end rs_then));
    given = λ name key named at in_life.
        let low = k.transactions.lives name key rs named (ap (records_at w) at ∙ records_was) in
        let next = next_found grow (service_at place) rs in
        absurd (omega (arith, low, next, in_life));
    order = λ x ps at has.
        subst (λ (y : List JournalRecord). IsInOrder (service_at place) x.disk y) (inner rs_then ps (sym records_there ∙ has))
        (subst (λ (y : Seat). IsInOrder (service_at place) y.disk rs_then) (inner up_seat x (sym (get_set w.seats place s up_seat there) ∙ at)) order_up);
    held = λ ps h has among. subst (λ (y : List JournalRecord). IsHeldAs v later place y h) (inner rs_then ps (sym records_there ∙ has)) (held_up h among);
  }

  nodes_up : (p : ℕ) (m : Node) → node_at v p ≡ Some m → WasUp w v p m ⊎ NodeIsKnown v later p m
  nodes_up p m is =
      let at = node_is_up v p m is in
      elim (set_at w.seats place s up_seat p there) [
        | inl here ↦
            let same = inner up_seat at.seat (sym here.1 ∙ at.there) in
            let own = node_of n m (ap (λ (x : Seat). x.server) same ∙ at.up) in
            inr (subst (λ (i : ℕ). NodeIsKnown v later i m) (sym here.0) (subst (NodeIsKnown v later place) own node_up_known))
        | inr same ↦ inl (record {
          up = node_there w p at.seat m (sym same ∙ at.there) at.up;
          records = records_other p same;
          disks = λ x now. (x, sym same ∙ now, refl);
        })
      ]

  load_frame : Frame w v told later
  load_frame = record {
    tells = tells_on is_bare told (tell.Known up_line ∷ decides) all_bare;
    allowed = allowed_on told (tell.Known up_line ∷ decides) all_bare;
    decided = λ name key named stands. elim (decisions_told name stands) [
      | inl was ↦ inl was
      | inr new ↦ inr (has_decision name key new named)
    ];
    commits = λ name key f at named stands. elim (decisions_told name (among_back _ _ stands)) [
      | inl was ↦ among_turned _ _ was
      | inr new ↦ absurd (other_place name key f at named new)
    ];
    named = λ name stands. elim (decisions_told name stands) [
      | inl was ↦ inl was
      | inr new ↦ inr (is_named name new)
    ];
    transaction_on = λ name key is. is;
    transaction_back = λ name key is. is;
    resource_on = λ name key is. is;
    resource_back = λ name key is. is;
    refers = λ to. referred_by w v to refl (seat_names_kept w place s up_seat there refl);
    resources = λ key. resources_by w v key (ends_kept w place s up_seat there refl (sym (ap end_in down)) (place_of key));
    messages_on = λ nth m at. (m, at, refl);
    messages_back = λ nth m at heard. (m, at, refl);
    families = families_kept w place s up_seat there refl none_there;
    records = λ p ps is. elim (records_by p ps is) [
      | inl here ↦ inl (rs, ap (records_at w) here.0 ∙ records_was, subst (Follows rs) here.1 follows)
      | inr was ↦ inl (ps, was, follows_self ps)
    ];
    has = λ p is_so never other. elim (set_at w.seats place s up_seat p there) [
      | inl here ↦ ap (λ (i : ℕ). has_record v i is_so) here.0
          ∙ ap (λ (o : Option (List JournalRecord)). option_map_or (λ (ps : List JournalRecord). list_any is_so ps) o false) records_there
          ∙ follows.some is_so never other
          ∙ sym (ap (λ (o : Option (List JournalRecord)). option_map_or (λ (ps : List JournalRecord). list_any is_so ps) o false) records_was)
          ∙ ap (λ (i : ℕ). has_record w i is_so) (sym here.0)
      | inr same ↦ ap (λ (o : Option (List JournalRecord)). option_map_or (λ (ps : List JournalRecord). list_any is_so ps) o false) (records_other p same)
    ];
    seats = λ p server is. seat_names_kept w place s up_seat there refl p ∙ is;
    nodes = nodes_up;
    counted = λ was. record {
      numbers = λ p e is. was.numbers p e (sym (ends_kept w place s up_seat there refl (sym (ap end_in down)) p) ∙ is);
      messages = λ p e is. was.messages p e (sym (ends_kept w place s up_seat there refl (sym (ap end_in down)) p) ∙ is);
      short = λ p e name is named. was.short p e name (sym (ends_kept w place s up_seat there refl (sym (ap end_in down)) p) ∙ is) (sym (seat_names_kept w place s up_seat there refl p) ∙ named);
    };
  }

  -- ---- its seat

  seats_up : SeatsAreNamed v (lines_of later)
  seats_up = seats_kept w place s up_seat there refl (lines_of told) (lines_of later) k.seats
      (λ name l stands. elim (ups name l (among_back _ _ stands)) [
        | inl was ↦ k.seats.up name l (among_turned _ _ was)
        | inr new ↦ (place, subst (λ (x : List ℕ). thing w x ≡ Some (things.Seat place)) new.0 (k.seats.named place s there))
      ])

  place_same : (a b : ℕ) → Some (things.Seat a) ≡ Some (things.Seat b) → a ≡ b
  place_same a b e = cc

  -- another seat has another name
  not_other : (p : ℕ) (x : Seat) → slice_get w.seats p ≡ Some x → slice_get (slice_set w.seats place up_seat) p ≡ slice_get w.seats p → s.name ≡ x.name → ⊥
  not_other p x old same name =
      let is : p ≡ place = place_same p place (sym (k.seats.named p x old) ∙ ap (thing w) (sym name) ∙ k.seats.named place s there) in
      let new = sym (get_set w.seats place s up_seat there) ∙ ap (slice_get (slice_set w.seats place up_seat)) (sym is) ∙ same ∙ ap (slice_get w.seats) is ∙ there in
      not_down n (ap (λ (y : Seat). y.server) (inner up_seat s new) ∙ down)

  life_new : (l : ℕ) → Stands (lines.Up s.name l) (known later) → l ≤ (found_in rs_then).life
  life_new l stands = elim (ups s.name l stands) [
    | inl was ↦ let low = k.disks.lives place s None l rs there down was records_was in let next = next_found grow (service_at place) rs in omega (arith, low, next)
    | inr new ↦ let same = new.1 in omega (arith, same)
  ]

  disks_up : DisksAreKnown v later
  disks_up = record {
    held = λ p x o. seats_by (λ (p : ℕ) (x : Seat). x.server ≡ OfNode o → (ps : List JournalRecord) × Holds (service_at p) x.disk.reads ps × (records_at v p ≡ Some ps))
        (λ is. (rs_then, inl left.0, records_there))
        (λ p x old same is. let was = k.disks.held p x o old is in (was.0, was.1, records_other p same ∙ was.2)) p x;
    whole = λ p x m. seats_by (λ (p : ℕ) (x : Seat). x.server ≡ OfNode (Some m) → IsWhole m)
        (λ is. subst IsWhole (node_of n m is) (load_whole (service_at place) rs)) (λ p x old same is. k.disks.whole p x m old is) p x;
    follows = λ p x m. seats_by (λ (p : ℕ) (x : Seat). x.server ≡ OfNode (Some m) → FollowsDisk p x m)
        (λ is. subst (FollowsDisk place up_seat) (node_of n m is)
        (record { service = refl; records = rs_then; held = records_new; found = refl; settled = left.1 }))
        (λ p x old same is. k.disks.follows p x m old is) p x;
    decisions = λ p x m. seats_by (λ (p : ℕ) (x : Seat). x.server ≡ OfNode (Some m) → HoldsDecisions p m)
        (λ is. subst (HoldsDecisions place) (node_of n m is) (load_holds place (service_at place) rs)) (λ p x old same is. k.disks.decisions p x m old is) p x;
    rise = rise;
    lives = λ p x o l ps. seats_by (λ (p : ℕ) (x : Seat). x.server ≡ OfNode o → Stands (lines.Up x.name l) (known later) → records_at v p ≡ Some ps → l ≤ (found_in ps).life)
        (λ is stands has. subst (λ (y : List JournalRecord). l ≤ (found_in y).life) (inner rs_then ps (sym records_there ∙ has)) (life_new l stands))
        (λ p x old same is stands has. elim (ups x.name l stands) [
          | inl was ↦ k.disks.lives p x o l ps old is was (sym (records_other p same) ∙ has)
          | inr new ↦ absurd (not_other p x old same new.0)
        ]) p x;
    no_superior = λ p ps r is among. elim (records_by p ps is) [
      | inl here ↦ own r (Contains-push_cases rs (next_life rs) r (subst (λ (y : List JournalRecord). Contains y r) (sym here.1) among))
      | inr was ↦ k.disks.no_superior p ps r was among
    ];
    rests = seats_by (λ (p : ℕ) (x : Seat). x.server ≡ OfNode None → IsSettled x.disk) (λ is. absurd (not_down n is)) (λ p x old same is. k.disks.rests p x old is);
  }
    where
      own : (r : JournalRecord) → Contains rs r ⊎ (next_life rs ≡ r) → is_prepared r ≡ false
      own r (inl was) = k.disks.no_superior place rs r records_was was
      own r (inr new) = ap is_prepared (sym new)

      rise : (before behind : List Line) (server : List ℕ) (l earlier : ℕ) → known later ≡ before ++ (lines.Up server l ∷ behind)
          → Stands (lines.Up server earlier) before → earlier < l
      rise before behind server l earlier e stands =
          let at = after_up.split (lines.Up server l) before behind refl e in
          elim (split_cases (known told) before at.0 (lines.Up server l) up_line (sym (known_phase told up_line) ∙ at.1)) [
            | inl here ↦ let same = up_parts server l here.0 in
                let low = k.disks.lives place s None earlier rs there down
                (subst (λ (x : List ℕ). Stands (lines.Up x earlier) (known told)) (sym same.0) (subst (Stands (lines.Up server earlier)) here.1 stands)) records_was in
                let next = next_found grow (service_at place) rs in
                let is = same.1 in
                omega (arith, low, next, is)
            | inr rest ↦ k.disks.rise before rest.0 server l earlier rest.1 stands
          ]

  loaded_known : Known v later
  loaded_known =
      framed_known w v told later load_frame k k.names.keys k.names.once seats_up disks_up
      (λ p x m q. seats_by (λ (p : ℕ) (x : Seat). x.server ≡ OfNode (Some m) → HasSent w p q → q.number.life ≡ m.found.life
      → (q.number.slot ≡ retold_slot) ⊎ (q.number.generation ≤ m.generation))
      (λ is sent same.
      let low = k.words.lives place q rs sent records_was in
      let next = next_found grow (service_at place) rs in
      let of = ap (λ (y : Node). y.found.life) (node_of n m is) in
      absurd (omega (arith, low, next, of, same)))
      (λ p x old same is sent life. k.words.given p x m q old is sent life) p x)

  -- so it is of what a load does
  pub known_load : Known (loads place s (Some rs) w).world (told ++ (loads place s (Some rs) w).lines)
  unfolding transaction_name
  known_load =
      let is = on_seat_twice place (λ (x : Seat). record x { disk = loaded (service_at place) rs s.disk; stop = None }) (λ (x : Seat). record x { server = OfNode (Some n) }) w s there in
      subst (λ (x : World). Known x (told ++ up_lines x s.name n)) (sym is) loaded_known
