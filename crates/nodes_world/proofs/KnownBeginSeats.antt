-- What is known of seats, resources and records once a node has made a top-level transaction.
use Rattle.std.proofs.Common.{◌≡◌, inl, inr, ℕ, ◌≤◌, List, [], ◌∷◌, ◌++◌, slice_get, find, append-nil, Bool, false, Option, Some, None, refl, sym, ap, subst, ◌∙◌}
use Rattle.std.specs.List.{list_any}
use Rattle.std.specs.Option.{option_map_or}
use Rattle.std.proofs.lemmas.List.Elements.{filter_map-append}
use Rattle.ior_refs.specs.declared.key.ObjectKey.{ObjectKey}
use Rattle.ots_model.specs.Safe.{Stands}
use Rattle.ots_model.specs.declared.line.Line.{Line}
use Rattle.ots_model.specs.declared.line.Line.TheVariants as lines
use Rattle.decision_journal.specs.Journal.{Holds, found_in}
use Rattle.decision_journal.specs.Laws.{IsSettled}
use Rattle.decision_journal.specs.declared.record.JournalRecord.{JournalRecord}
use Rattle.coordinator.specs.Node.{Node}
use Rattle.coordinator.specs.NodeParts.{IsWhole}
use Rattle.nodes_world.specs.declared.thing.Thing.{Thing}
use Rattle.nodes_world.specs.declared.thing.Thing.TheVariants as things
use Rattle.nodes_world.specs.Objects.{place_of, service_at}
use Rattle.nodes_world.specs.Told as tell
use Rattle.nodes_world.specs.Told.{Told, known}
use Rattle.nodes_world.specs.World.{World, Seat, OfNode, end_at, end_in, is_referred_to, referred, resource_at, resource_in, resources, thing, with_name, with_seat}
use Rattle.nodes_world.specs.Agreement.{FollowsDisk, HoldsDecisions, has_record, records_at}
use Rattle.nodes_world.specs.AgreementInside.{Known, DisksAreKnown, SeatsAreNamed}
use Rattle.nodes_world.proofs.KnownLines.{lines_of}
use Rattle.nodes_world.proofs.KnownFrames.{known_phase, last_cases, newest_phase, split_last}
use Rattle.nodes_world.proofs.KnownMakings.{thing_cases, thing_kept}
use Rattle.nodes_world.proofs.KnownAlike.{referred_by, resources_by}
use Rattle.nodes_world.proofs.KnownSeats.{disks_kept, ends_kept, seat_names_kept, seats_kept, set_cases}

-- a node that is up at a place becomes another, and a name that was free is given to a transaction
module _ (w : World) (place : ℕ) (name : List ℕ) (key : ObjectKey) (s : Seat) (n c : Node) (told : List Told)
    (there : slice_get w.seats place ≡ Some s) (up : s.server ≡ OfNode (Some n)) (free : thing w name ≡ None) (k : Known w told) where
  abbrev own : Thing
  own = things.Transaction key

  abbrev left : Seat
  left = record s { server = OfNode (Some c) }

  abbrev u : World
  u = with_seat place left w

  abbrev v : World
  v = with_name name own u

  abbrev line : Line
  line = lines.Top name s.name

  abbrev later : List Told
  later = told ++ tell.Known line ∷ []

  -- ---- seats and objects

  pub seats_begun : SeatsAreNamed v (lines_of later)
  seats_begun =
      let was = seats_kept w place s left there refl (lines_of told) (lines_of told) k.seats (λ x life stands. k.seats.up x life stands) in
      subst (SeatsAreNamed v) (sym (newest_phase told line)) (record {
        named = λ p x at. thing_kept w.names ((name, own) ∷ []) x.name (things.Seat p) (was.named p x at);
        there = λ other p is. elim (thing_cases w.names name own other (things.Seat p) is) [
          | inl old ↦ was.there other p old
          | inr new ↦ absurd (no p new.1)
        ];
        up = λ x life stands. let at = was.up x life (was_up x life stands) in (at.0, thing_kept w.names ((name, own) ∷ []) x (things.Seat at.0) at.1);
        senders = was.senders;
        few = was.few;
        calls = was.calls;
      })
    where
      no : (p : ℕ) → own ≡ things.Seat p → ⊥
      no p e = cc

      was_up : (x : List ℕ) (life : ℕ) → Stands (lines.Up x life) (line ∷ lines_of told) → Stands (lines.Up x life) (lines_of told)
      was_up x life (inl e) = absurd cc
      was_up x life (inr stands) = stands

  pub resources_begun : (r : ObjectKey) → resource_at v r ≡ resource_at w r
  unfolding end_at
  resources_begun r = resources_by w v r (ends_kept w place s left there refl (sym (ap end_in up)) (place_of r))

  pub refers_begun : (to : List ℕ) → referred v to ≡ referred w to
  unfolding referred
  refers_begun to =
      let same : resources v ≡ resources w
      = filter_map-append (λ (entry : List ℕ × Thing). resource_in entry.0 entry.1) w.names ((name, own) ∷ []) ∙ append-nil (resources w) in
      ap (find (is_referred_to v to)) same ∙ referred_by w u to refl (seat_names_kept w place s left there refl)

  -- ---- records

  pub records_begun : (p : ℕ) → records_at v p ≡ records_at w p
  records_begun p = disks_kept w place s left there refl refl p

  pub has_begun : (p : ℕ) (is_so : JournalRecord → Bool) → has_record v p is_so ≡ has_record w p is_so
  has_begun p is_so = ap (λ (o : Option (List JournalRecord)). option_map_or (λ (rs : List JournalRecord). list_any is_so rs) o false) (records_begun p)

  -- a seat then is the one of the node, or was there
  by_seat : (P : ℕ → Seat → Type 0) → P place left → ((p : ℕ) (x : Seat) → slice_get w.seats p ≡ Some x → P p x) → (p : ℕ) (x : Seat)
      → slice_get v.seats p ≡ Some x → P p x
  by_seat P new old p x at = elim (set_cases w.seats place s left p x there at) [
    | inl here ↦ subst (λ (i : ℕ). P i x) (sym here.0) (subst (P place) here.1 new)
    | inr was ↦ old p x was
  ]

  node_of : (m : Node) → OfNode (Some c) ≡ OfNode (Some m) → c ≡ m
  node_of m e = cc

  was_life : (x : List ℕ) (life : ℕ) → Stands (lines.Up x life) (known later) → Stands (lines.Up x life) (known told)
  was_life x life stands = elim (last_cases (known told) (lines.Up x life) line (subst (Stands (lines.Up x life)) (known_phase told line) stands)) [
    | inl was ↦ was
    | inr new ↦ absurd (no new)
  ]
    where
      no : line ≡ lines.Up x life → ⊥
      no e = cc

  -- what is known of disks, where the node that it has become is whole, and is the same to its journal
  pub disks_begun : IsWhole c → FollowsDisk place left c → HoldsDecisions place c → DisksAreKnown v later
  disks_begun whole follows holds = record {
    held = λ p x o. by_seat (λ p x. x.server ≡ OfNode o → (rs : List JournalRecord) × Holds (service_at p) x.disk.reads rs × (records_at v p ≡ Some rs))
        (λ is. let was = k.disks.held place s (Some n) there up in (was.0, was.1, records_begun place ∙ was.2))
        (λ p x at is. let was = k.disks.held p x o at is in (was.0, was.1, records_begun p ∙ was.2)) p x;
    whole = λ p x m. by_seat (λ p x. x.server ≡ OfNode (Some m) → IsWhole m) (λ is. subst IsWhole (node_of m is) whole)
        (λ p x at is. k.disks.whole p x m at is) p x;
    follows = λ p x m. by_seat (λ p x. x.server ≡ OfNode (Some m) → FollowsDisk p x m) (λ is. subst (FollowsDisk place left) (node_of m is) follows)
        (λ p x at is. k.disks.follows p x m at is) p x;
    decisions = λ p x m. by_seat (λ p x. x.server ≡ OfNode (Some m) → HoldsDecisions p m) (λ is. subst (HoldsDecisions place) (node_of m is) holds)
        (λ p x at is. k.disks.decisions p x m at is) p x;
    rise = λ before behind server life earlier e stands.
        let was = split_last (known told) before behind (lines.Up server life) line (no_up server life) (sym (known_phase told line) ∙ e) in
        k.disks.rise before was.0 server life earlier was.1 stands;
    lives = λ p x o life rs. by_seat (λ p x. x.server ≡ OfNode o → Stands (lines.Up x.name life) (known later) → records_at v p ≡ Some rs → life ≤ (found_in rs).life)
        (λ is stands has. k.disks.lives place s (Some n) life rs there up (was_life s.name life stands) (sym (records_begun place) ∙ has))
        (λ p x at is stands has. k.disks.lives p x o life rs at is (was_life x.name life stands) (sym (records_begun p) ∙ has)) p x;
    no_superior = λ p rs r has among. k.disks.no_superior p rs r (sym (records_begun p) ∙ has) among;
    rests = by_seat (λ p x. x.server ≡ OfNode None → IsSettled x.disk) (λ is. absurd (up_still is)) (λ p x at is. k.disks.rests p x at is);
  }
    where
      no_up : (server : List ℕ) (life : ℕ) → line ≡ lines.Up server life → ⊥
      no_up server life e = cc

      up_still : OfNode (Some c) ≡ OfNode None → ⊥
      up_still e = cc
