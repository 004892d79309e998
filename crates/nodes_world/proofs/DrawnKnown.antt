-- What is known of a world is known once an end has drawn one more number.
use Rattle.std.proofs.Common.{◌≡◌, ◌≢◌, ◌⊎◌, inl, inr, ℕ, ◌+◌, ◌≤◌, List, length, slice_get, Option, Some, None, refl, sym, ap, subst, ◌∙◌, arith, find, append-nil, [], ◌∷◌, false}
use Rattle.std.specs.List.{AllByRecursion, list_any}
use Rattle.std.specs.Option.{option_map_or, option_and_then}
use Rattle.ior_refs.specs.declared.key.ObjectKey.{ObjectKey}
use Rattle.decision_journal.specs.declared.record.JournalRecord.{JournalRecord}
use Rattle.coordinator.specs.Family.{Family}
use Rattle.coordinator.specs.Node.{Node, family_of}
use Rattle.nodes_world.specs.Agreement.{records_at}
use Rattle.nodes_world.specs.AgreementInside.{Known, DisksAreKnown, EndsHaveCounted}
use Rattle.nodes_world.specs.Ends.{drawn_once}
use Rattle.nodes_world.specs.Objects.{place_of}
use Rattle.nodes_world.specs.Told.{Told}
use Rattle.nodes_world.specs.World.{World, Seat, OfEnd, OfNode, FlatEnd, FlatResource, end_at, end_in, has_number, family_at, node_at, resource_at, with_seat}
use Rattle.nodes_world.proofs.Deeds.{node_is_up}
use Rattle.nodes_world.proofs.Going.{get_set}
use Rattle.nodes_world.proofs.KnownAlike.{referred_by}
use Rattle.nodes_world.proofs.KnownLines.{lines_of}
use Rattle.nodes_world.proofs.KnownSeats.{disks_kept, seat_names_kept, seats_kept, set_cases}
use Rattle.nodes_world.proofs.KnownTelling.{TellsOn, is_bare, tells_on}
use Rattle.nodes_world.proofs.KnownTouch.{set_other}
use Rattle.nodes_world.proofs.KnownWorlds.{Frame, follows_self, framed_known, node_there}

same_or_not : (a b : ℕ) → (a ≡ b) ⊎ (a ≢ b)
same_or_not a b = grind arith

inner : {A : Type 0} (x y : A) → Some x ≡ Some y → x ≡ y
inner x y e = cc

module _ (w : World) (place : ℕ) (s : Seat) (e : FlatEnd) (told : List Told) (there : slice_get w.seats place ≡ Some s) (up : s.server ≡ OfEnd (Some e))
    (k : Known w told) (room : e.drawn + 1 ≤ length w.messages) where
  abbrev pub left : Seat
  left = record s { server = OfEnd (Some (drawn_once e)) }

  abbrev pub v : World
  v = with_seat place left w

  end_up : end_at w place ≡ Some e
  unfolding end_at
  end_up = ap (λ (o : Option Seat). option_and_then (λ (x : Seat). end_in x.server) o) there ∙ ap end_in up

  end_now : end_at v place ≡ Some (drawn_once e)
  unfolding end_at
  end_now = ap (λ (o : Option Seat). option_and_then (λ (x : Seat). end_in x.server) o) (get_set w.seats place s left there)

  end_other : (p : ℕ) → p ≢ place → end_at v p ≡ end_at w p
  unfolding end_at
  end_other p other = ap (λ (o : Option Seat). option_and_then (λ (x : Seat). end_in x.server) o) (set_other w.seats place p left other)

  resources : (key : ObjectKey) → resource_at v key ≡ resource_at w key
  unfolding resource_at
  resources key = elim (same_or_not (place_of key) place) [
    | inl here ↦
        ap (λ (o : Option FlatEnd). option_and_then (λ (y : FlatEnd). find (has_number key) y.resources) o) (ap (end_at v) here ∙ end_now)
        ∙ sym (ap (λ (o : Option FlatEnd). option_and_then (λ (y : FlatEnd). find (has_number key) y.resources) o) (ap (end_at w) here ∙ end_up))
    | inr other ↦ ap (λ (o : Option FlatEnd). option_and_then (λ (y : FlatEnd). find (has_number key) y.resources) o) (end_other (place_of key) other)
  ]

  not_node : (o : Option Node) → OfEnd (Some (drawn_once e)) ≡ OfNode o → ⊥
  not_node o is = cc

  seat_was : (p : ℕ) (x : Seat) (o : Option Node) → slice_get v.seats p ≡ Some x → x.server ≡ OfNode o → slice_get w.seats p ≡ Some x
  seat_was p x o at is = elim (set_cases w.seats place s left p x there at) [
    | inl here ↦ absurd (not_node o (ap (λ (y : Seat). y.server) here.1 ∙ is))
    | inr was ↦ was
  ]

  records : (p : ℕ) → records_at v p ≡ records_at w p
  records p = disks_kept w place s left there refl refl p

  node_back : (p : ℕ) (n : Node) → node_at v p ≡ Some n → node_at w p ≡ Some n
  node_back p n is = let at = node_is_up v p n is in node_there w p at.seat n (seat_was p at.seat (Some n) at.there at.up) at.up

  family_back : (x : ObjectKey) (f : Family) → family_at v x ≡ Some f → family_at w x ≡ Some f
  family_back x f is = by (node_at v (place_of x)) refl is
    where
      by : (o : Option Node) → node_at v (place_of x) ≡ o → option_and_then (family_of x) o ≡ Some f → family_at w x ≡ Some f
      by (Some n) at found = ap (option_and_then (family_of x)) (node_back (place_of x) n at) ∙ found
      by None at found = absurd cc

  end_same : (p : ℕ) (x : FlatEnd) → p ≡ place → end_at v p ≡ Some x → drawn_once e ≡ x
  end_same p x here is = inner (drawn_once e) x (sym end_now ∙ ap (end_at v) (sym here) ∙ is)

  weaker : (a b : ℕ) (xs : List FlatResource) → a ≤ b → AllByRecursion (λ (r : FlatResource). r.key.generation ≤ a) xs
      → AllByRecursion (λ (r : FlatResource). r.key.generation ≤ b) xs
  weaker a b [] less all = tt
  weaker a b (x ∷ xs) less (one, all) = (omega (arith, one, less), weaker a b xs less all)

  counted_now : EndsHaveCounted v
  counted_now = record {
    numbers = λ p x is. elim (same_or_not p place) [
      | inl here ↦ subst (λ (y : FlatEnd). AllByRecursion (λ (r : FlatResource). r.key.generation ≤ y.drawn) y.resources) (end_same p x here is)
          (weaker e.drawn (e.drawn + 1) e.resources (omega arith) (k.counted.numbers place e end_up))
      | inr other ↦ k.counted.numbers p x (sym (end_other p other) ∙ is)
    ];
    messages = λ p x is. elim (same_or_not p place) [
      | inl here ↦ subst (λ (y : FlatEnd). y.drawn ≤ length w.messages) (end_same p x here is) room
      | inr other ↦ k.counted.messages p x (sym (end_other p other) ∙ is)
    ];
    short = λ p x name is named. elim (same_or_not p place) [
      | inl here ↦ k.counted.short p e name (ap (end_at w) here ∙ end_up) (sym (seat_names_kept w place s left there refl p) ∙ named)
      | inr other ↦ k.counted.short p x name (sym (end_other p other) ∙ is) (sym (seat_names_kept w place s left there refl p) ∙ named)
    ];
  }

  drawn_frame : Frame w v told told
  drawn_frame = record {
    tells = subst (TellsOn is_bare told) (append-nil told) (tells_on is_bare told [] tt);
    allowed = λ a. a;
    decided = λ name key is stands. inl stands;
    named = λ name stands. inl stands;
    commits = λ name key f at is stands. stands;
    transaction_on = λ name key is. is;
    transaction_back = λ name key is. is;
    resource_on = λ name key is. is;
    resource_back = λ name key is. is;
    refers = λ to. referred_by w v to refl (seat_names_kept w place s left there refl);
    resources = resources;
    messages_on = λ nth m at. (m, at, refl);
    messages_back = λ nth m at heard. (m, at, refl);
    families = family_back;
    records = λ p rs held. inl (rs, sym (records p) ∙ held, follows_self rs);
    has = λ p is_so never done. ap (λ (o : Option (List JournalRecord)). option_map_or (λ (rs : List JournalRecord). list_any is_so rs) o false) (records p);
    seats = λ p server is. seat_names_kept w place s left there refl p ∙ is;
    nodes = λ p n is. inl (record {
      up = node_back p n is;
      records = records p;
      disks = λ x at. by_disk p n x is at;
    });
    counted = λ was. counted_now;
  }
    where
      by_disk : (p : ℕ) (n : Node) (x : Seat) → node_at v p ≡ Some n → slice_get v.seats p ≡ Some x → (y : Seat) × (slice_get w.seats p ≡ Some y) × (y.disk ≡ x.disk)
      by_disk p n x is at = elim (set_cases w.seats place s left p x there at) [
        | inl here ↦ (s, ap (slice_get w.seats) here.0 ∙ there, ap (λ (y : Seat). y.disk) here.1)
        | inr was ↦ (x, was, refl)
      ]

  disks_now : DisksAreKnown v told
  disks_now = record {
    held = λ p x o at is. let was = k.disks.held p x o (seat_was p x o at is) is in (was.0, was.1, records p ∙ was.2);
    whole = λ p x n at is. k.disks.whole p x n (seat_was p x (Some n) at is) is;
    follows = λ p x n at is. k.disks.follows p x n (seat_was p x (Some n) at is) is;
    decisions = λ p x n at is. k.disks.decisions p x n (seat_was p x (Some n) at is) is;
    rise = k.disks.rise;
    lives = λ p x o in_life rs at is stands held. k.disks.lives p x o in_life rs (seat_was p x o at is) is stands (sym (records p) ∙ held);
    no_superior = λ p rs r held among. k.disks.no_superior p rs r (sym (records p) ∙ held) among;
    rests = λ p x at is. k.disks.rests p x (seat_was p x None at is) is;
  }

  pub drawn_known : Known v told
  drawn_known =
      framed_known w v told told drawn_frame k k.names.keys k.names.once
      (seats_kept w place s left there refl (lines_of told) (lines_of told) k.seats k.seats.up) disks_now
      (λ p x n o at is sent same. k.words.given p x n o (seat_was p x (Some n) at is) is sent same)
