-- What is known of a world is known once a seat has changed, its name apart; so it is when a node goes down.
use Rattle.std.proofs.Common.{◌≡◌, ◌⊎◌, inl, inr, ℕ, ◌≤◌, zero, suc, Bool, false, is_some, IsTrue, List, [], ◌∷◌, ◌++◌, slice_get, slice_set, Option, Some, None, refl, sym, ap, subst, ◌∙◌, length}
use Rattle.std.specs.List.{list_any}
use Rattle.std.specs.Option.{option_map_or, option_and_then}
use Rattle.ior_refs.specs.declared.key.ObjectKey.{ObjectKey}
use Rattle.ots_model.specs.Safe.{Stands}
use Rattle.ots_model.specs.declared.line.Line.{Line}
use Rattle.ots_model.specs.declared.line.Line.TheVariants as lines
use Rattle.ots_outside.specs.Disk.{at_first}
use Rattle.decision_journal.specs.Journal.{Holds, found_in}
use Rattle.decision_journal.specs.Laws.{IsSettled}
use Rattle.decision_journal.specs.declared.record.JournalRecord.{JournalRecord}
use Rattle.coordinator.specs.Family.{Family}
use Rattle.coordinator.specs.Node.{Node, family_of}
use Rattle.nodes_world.specs.declared.thing.Thing.TheVariants as things
use Rattle.nodes_world.specs.Journals.{records_in, records_on}
use Rattle.nodes_world.specs.Objects.{place_of, service_at}
use Rattle.nodes_world.specs.Told as tell
use Rattle.nodes_world.specs.Told.{Told, known}
use Rattle.nodes_world.specs.World.{World, Seat, OfNode, FlatEnd, end_at, end_in, family_at, node_at, node_in, seat_name, thing, with_seat}
use Rattle.nodes_world.specs.Nodes.{crashes_seat}
use Rattle.nodes_world.specs.Agreement.{records_at}
use Rattle.nodes_world.specs.AgreementInside.{Known, DisksAreKnown, SeatsAreNamed}
use Rattle.nodes_world.specs.AgreementSteps.{StaysKnown}
use Rattle.nodes_world.specs.Changes.{left_with}
use Rattle.nodes_world.proofs.Going.{on_seat_twice}
use Rattle.nodes_world.proofs.KnownLines.{among_back, among_turned, lines_of}
use Rattle.nodes_world.proofs.KnownTelling.{TellsOn, allowed_on, is_bare, is_plain, tells_on}
use Rattle.nodes_world.proofs.KnownWorlds.{Frame, follows_self, framed_known, node_there}
use Rattle.nodes_world.proofs.KnownAlike.{mapped_through, referred_by, resources_by}
use Rattle.nodes_world.proofs.Deeds.{node_is_up}
use Rattle.nodes_world.specs.Limits.{seat_limit}

-- ---- one place of a list is written

pub set_at : {A : Type 0} (xs : List A) (i : ℕ) (x y : A) (k : ℕ) → slice_get xs i ≡ Some x
    → ((k ≡ i) × (slice_get (slice_set xs i y) k ≡ Some y)) ⊎ (slice_get (slice_set xs i y) k ≡ slice_get xs k)
set_at [] i x y k there = inr refl
set_at (z ∷ xs) zero x y zero there = inl (refl, refl)
set_at (z ∷ xs) zero x y (suc k) there = inr refl
set_at (z ∷ xs) (suc i) x y zero there = inr refl
set_at (z ∷ xs) (suc i) x y (suc k) there = elim (set_at xs i x y k there) [
  | inl here ↦ inl (ap suc here.0, here.1)
  | inr there ↦ inr there
]

pub read_set : {A C : Type 0} (read : A → Option C) (xs : List A) (i : ℕ) (x y : A) (k : ℕ) → slice_get xs i ≡ Some x → read y ≡ read x
    → option_and_then read (slice_get (slice_set xs i y) k) ≡ option_and_then read (slice_get xs k)
read_set read xs i x y k there same = elim (set_at xs i x y k there) [
  | inl here ↦ ap (option_and_then read) here.1 ∙ same ∙ sym (ap (option_and_then read) (ap (slice_get xs) here.0 ∙ there))
  | inr other ↦ ap (option_and_then read) other
]

inner_of : {A : Type 0} (x y : A) → Some x ≡ Some y → x ≡ y
inner_of x y e = cc

-- what stands at a place then was written there, or stood there
pub set_cases : {A : Type 0} (xs : List A) (i : ℕ) (x y : A) (k : ℕ) (u : A) → slice_get xs i ≡ Some x → slice_get (slice_set xs i y) k ≡ Some u
    → ((k ≡ i) × (y ≡ u)) ⊎ (slice_get xs k ≡ Some u)
set_cases xs i x y k u there is = elim (set_at xs i x y k there) [
  | inl here ↦ inl (here.0, inner_of y u (sym here.1 ∙ is))
  | inr other ↦ inr (sym other ∙ is)
]

pub as_long : {A : Type 0} (xs : List A) (i : ℕ) (y : A) → length (slice_set xs i y) ≡ length xs
as_long [] i y = refl
as_long (z ∷ xs) zero y = refl
as_long (z ∷ xs) (suc i) y = ap suc (as_long xs i y)

-- no line is one of these
abbrev pub is_none : Line → Bool
is_none line = false

-- ---- a seat changes

module _ (w : World) (place : ℕ) (s later : Seat) (there : slice_get w.seats place ≡ Some s) (name : later.name ≡ s.name) where
  pub seat_names_kept : (k : ℕ) → seat_name (with_seat place later w) k ≡ seat_name w k
  seat_names_kept k =
      let read : Seat → Option (List ℕ) = λ x. Some x.name in
      mapped_through (λ (x : Seat). x.name) (slice_get (slice_set w.seats place later) k)
      ∙ read_set read w.seats place s later k there (ap (λ (x : List ℕ). Some x) name)
      ∙ sym (mapped_through (λ (x : Seat). x.name) (slice_get w.seats k))

  pub ends_kept : end_in later.server ≡ end_in s.server → (k : ℕ) → end_at (with_seat place later w) k ≡ end_at w k
  unfolding end_at
  ends_kept same k =
      let read : Seat → Option FlatEnd = λ x. end_in x.server in
      read_set read w.seats place s later k there same

  pub disks_kept : later.disk.reads ≡ s.disk.reads → (k : ℕ) → records_at (with_seat place later w) k ≡ records_at w k
  disks_kept same k =
      let read : Seat → Option (List JournalRecord) = λ x. records_on (service_at k) x.disk in
      read_set read w.seats place s later k there (ap (λ (octets : List ℕ). records_in (service_at k) octets) same)

  -- where no family comes to be
  pub families_kept : ((key : ObjectKey) (f : Family) → option_and_then (family_of key) (node_in later.server) ≡ Some f → ⊥) → (key : ObjectKey) (f : Family)
      → family_at (with_seat place later w) key ≡ Some f → family_at w key ≡ Some f
  unfolding node_at
  families_kept none key f is = elim (set_at w.seats place s later (place_of key) there) [
    | inl here ↦ absurd (none key f (sym (ap (λ (o : Option Seat). option_and_then (family_of key) (option_and_then (λ (x : Seat). node_in x.server) o)) here.1) ∙ is))
    | inr other ↦ sym (ap (λ (o : Option Seat). option_and_then (family_of key) (option_and_then (λ (x : Seat). node_in x.server) o)) other) ∙ is
  ]

  pub seats_kept : (h j : List Line) → SeatsAreNamed w h → ((name : List ℕ) (life : ℕ) → Stands (lines.Up name life) j → (at : ℕ) × (thing w name ≡ Some (things.Seat at)))
      → SeatsAreNamed (with_seat place later w) j
  seats_kept h j k up = record {
    named = λ p x at. named p x (set_cases w.seats place s later p x there at);
    there = λ other p is. let was = k.there other p is in by other p was.0 was.1 was.2;
    up = up;
    senders = λ p o sent. seated p (k.senders p o sent);
    few = subst (λ (many : ℕ). many ≤ seat_limit) (sym (as_long w.seats place later)) k.few;
    calls = k.calls;
  }
    where
      named : (p : ℕ) (x : Seat) → ((p ≡ place) × (later ≡ x)) ⊎ (slice_get w.seats p ≡ Some x) → thing w x.name ≡ Some (things.Seat p)
      named p x (inl here) =
          subst (λ (y : Seat). thing w y.name ≡ Some (things.Seat p)) here.1
          (subst (λ (n : List ℕ). thing w n ≡ Some (things.Seat p)) (sym name) (k.named p s (ap (slice_get w.seats) here.0 ∙ there)))
      named p x (inr at) = k.named p x at

      by : (other : List ℕ) (p : ℕ) (x : Seat) → slice_get w.seats p ≡ Some x → x.name ≡ other
          → (y : Seat) × (slice_get (slice_set w.seats place later) p ≡ Some y) × (y.name ≡ other)
      by other p x at is = elim (set_at w.seats place s later p there) [
        | inl here ↦ (later, here.1, name ∙ ap (λ (y : Seat). y.name) (inner_of s x (sym there ∙ sym (ap (slice_get w.seats) here.0) ∙ at)) ∙ is)
        | inr same ↦ (x, same ∙ at, is)
      ]

      seated : (p : ℕ) → IsTrue (is_some (slice_get w.seats p)) → IsTrue (is_some (slice_get (slice_set w.seats place later) p))
      seated p is = elim (set_at w.seats place s later p there) [
        | inl here ↦ ap is_some here.1
        | inr same ↦ ap is_some same ∙ is
      ]

-- ---- a node goes down

module _ (w : World) (place : ℕ) (s : Seat) (n : Node) (told : List Told) (there : slice_get w.seats place ≡ Some s) (up : s.server ≡ OfNode (Some n)) (k : Known w told) where
  abbrev left : Seat
  left = left_with s.disk.reads s

  abbrev v : World
  v = with_seat place left w

  abbrev more : List Told
  more = told ++ tell.Down s.name ∷ []

  plain : TellsOn is_plain told more
  plain = tells_on is_plain told (tell.Down s.name ∷ []) (tt, tt)

  ends_left : (p : ℕ) → end_at v p ≡ end_at w p
  ends_left p = ends_kept w place s left there refl (sym (ap end_in up)) p

  records_left : (p : ℕ) → records_at v p ≡ records_at w p
  records_left p = disks_kept w place s left there refl refl p

  -- a node that is up is one that was
  up_before : (P : Type 0) (p : ℕ) (x : Seat) (m : Node) → slice_get v.seats p ≡ Some x → x.server ≡ OfNode (Some m)
      → (slice_get w.seats p ≡ Some x → P) → P
  up_before P p x m at is then = elim (set_cases w.seats place s left p x there at) [
    | inl here ↦ absurd (down (ap (λ (y : Seat). y.server) here.1 ∙ is))
    | inr was ↦ then was
  ]
    where
      down : OfNode None ≡ OfNode (Some m) → ⊥
      down e = cc

  down_frame : Frame w v told more
  down_frame = record {
    tells = tells_on is_bare told (tell.Down s.name ∷ []) (tt, tt);
    allowed = allowed_on told (tell.Down s.name ∷ []) (tt, tt);
    decided = λ name key named stands. inl (plain.back _ refl stands);
    named = λ name stands. inl (plain.back _ refl stands);
    commits = λ name key f at named stands. among_turned _ _ (plain.back _ refl (among_back _ _ stands));
    transaction_on = λ name key is. is;
    transaction_back = λ name key is. is;
    resource_on = λ name key is. is;
    resource_back = λ name key is. is;
    refers = λ to. referred_by w v to refl (seat_names_kept w place s left there refl);
    resources = λ key. resources_by w v key (ends_left (place_of key));
    messages_on = λ nth m at. (m, at, refl);
    messages_back = λ nth m at heard. (m, at, refl);
    families = families_kept w place s left there refl (λ key f is. absurd cc);
    records = λ p rs held. inl (rs, sym (records_left p) ∙ held, follows_self rs);
    has = λ p is_so none other. ap (λ (o : Option (List JournalRecord)). option_map_or (λ (rs : List JournalRecord). list_any is_so rs) o false) (records_left p);
    seats = λ p server is. seat_names_kept w place s left there refl p ∙ is;
    nodes = λ p m is.
        let at = node_is_up v p m is in
        up_before _ p at.seat m at.there at.up (λ was. inl (record {
          up = node_there w p at.seat m was at.up;
          records = records_left p;
          disks = λ x now. (at.seat, was, ap (λ (y : Seat). y.disk) (inner_of at.seat x (sym at.there ∙ now)));
        }));
    counted = λ was. record {
      numbers = λ p e is. was.numbers p e (sym (ends_left p) ∙ is);
      messages = λ p e is. was.messages p e (sym (ends_left p) ∙ is);
      short = λ p e name is named. was.short p e name (sym (ends_left p) ∙ is) (sym (seat_names_kept w place s left there refl p) ∙ named);
    };
  }

  disks_left : DisksAreKnown v more
  disks_left = record {
    held = λ p x o at is. held p x o (set_cases w.seats place s left p x there at) is;
    whole = λ p x m at is. up_before _ p x m at is (λ was. k.disks.whole p x m was is);
    follows = λ p x m at is. up_before _ p x m at is (λ was. k.disks.follows p x m was is);
    decisions = λ p x m at is. up_before _ p x m at is (λ was. k.disks.decisions p x m was is);
    rise = λ before behind server life earlier e stands.
        let was = plain_up before behind server life e in
        k.disks.rise before was.0 server life earlier was.1 stands;
    lives = λ p x o life rs at is stands has. lives p x o life rs (set_cases w.seats place s left p x there at) is stands has;
    no_superior = λ p rs r has among. k.disks.no_superior p rs r (sym (records_left p) ∙ has) among;
    rests = λ p x at is. rests p x (set_cases w.seats place s left p x there at) is;
  }
    where
      held : (p : ℕ) (x : Seat) (o : Option Node) → ((p ≡ place) × (left ≡ x)) ⊎ (slice_get w.seats p ≡ Some x) → x.server ≡ OfNode o
          → (rs : List JournalRecord) × Holds (service_at p) x.disk.reads rs × (records_at v p ≡ Some rs)
      held p x o (inl here) is =
          let was = k.disks.held p s (Some n) (ap (slice_get w.seats) here.0 ∙ there) up in
          (was.0, subst (λ (y : Seat). Holds (service_at p) y.disk.reads was.0) here.1 was.1, records_left p ∙ was.2)
      held p x o (inr at) is =
          let was = k.disks.held p x o at is in
          (was.0, was.1, records_left p ∙ was.2)

      plain_up : (before behind : List Line) (server : List ℕ) (life : ℕ) → known more ≡ before ++ (lines.Up server life ∷ behind)
          → (others : List Line) × (known told ≡ before ++ (lines.Up server life ∷ others))
      plain_up before behind server life e = (tells_on is_none told (tell.Down s.name ∷ []) (tt, tt)).split _ before behind refl e

      rests : (p : ℕ) (x : Seat) → ((p ≡ place) × (left ≡ x)) ⊎ (slice_get w.seats p ≡ Some x) → x.server ≡ OfNode None → IsSettled x.disk
      rests p x (inl here) is = subst (λ (y : Seat). IsSettled y.disk) here.1 refl
      rests p x (inr at) is = k.disks.rests p x at is

      lives : (p : ℕ) (x : Seat) (o : Option Node) (life : ℕ) (rs : List JournalRecord) → ((p ≡ place) × (left ≡ x)) ⊎ (slice_get w.seats p ≡ Some x)
          → x.server ≡ OfNode o → Stands (lines.Up x.name life) (known more) → records_at v p ≡ Some rs → life ≤ (found_in rs).life
      lives p x o life rs (inl here) is stands has =
          k.disks.lives p s (Some n) life rs (ap (slice_get w.seats) here.0 ∙ there) up
          ((tells_on is_none told (tell.Down s.name ∷ []) (tt, tt)).back _ refl
          (subst (λ (y : Seat). Stands (lines.Up y.name life) (known more)) (sym here.1) stands)) (sym (records_left p) ∙ has)
      lives p x o life rs (inr at) is stands has =
          k.disks.lives p x o life rs at is ((tells_on is_none told (tell.Down s.name ∷ []) (tt, tt)).back _ refl stands) (sym (records_left p) ∙ has)

  pub left_known : Known v more
  left_known =
      framed_known w v told more down_frame k k.names.keys k.names.once
      (seats_kept w place s left there refl (lines_of told) (lines_of more) k.seats
      (λ name life stands. k.seats.up name life (among_turned _ _ ((tells_on is_none told (tell.Down s.name ∷ []) (tt, tt)).back _ refl (among_back _ _ stands)))))
      disks_left
      (λ p x m q at is sent same. up_before _ p x m at is (λ was. k.words.given p x m q was is sent same))

pub known_crash : (w : World) (place : ℕ) (s : Seat) (n : Node) → slice_get w.seats place ≡ Some s → s.server ≡ OfNode (Some n)
    → StaysKnown w (crashes_seat place s.disk.reads s w)
known_crash w place s n there up told k =
    let is = on_seat_twice place (λ (x : Seat). record x { disk = at_first s.disk.reads; stop = None }) (λ (x : Seat). record x { server = OfNode None }) w s there in
    subst (λ (x : World). Known x (told ++ tell.Down s.name ∷ [])) (sym is) (left_known w place s n told there up k)
