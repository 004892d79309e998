-- What is known of disks and nodes once a family has gone on by a step that reads no journal.
use Rattle.std.proofs.Common.{◌≡◌, ◌⊎◌, inl, inr, ℕ, ◌≤◌, List, slice_get, Option, Some, None, refl, sym, ap, subst, ◌∙◌}
use Rattle.std.specs.Option.{option_and_then}
use Rattle.ots_model.specs.Safe.{Stands}
use Rattle.ots_model.specs.declared.line.Line.TheVariants as lines
use Rattle.decision_journal.specs.Journal.{Holds, found_in}
use Rattle.decision_journal.specs.Laws.{IsSettled}
use Rattle.decision_journal.specs.declared.record.JournalRecord.{JournalRecord}
use Rattle.recovery_coord.specs.declared.held.Held.{Held}
use Rattle.coordinator.specs.Family.{Family}
use Rattle.coordinator.specs.Node.{Node, family_in}
use Rattle.coordinator.specs.NodeParts.{IsWhole}
use Rattle.family_laws.specs.OwnDecisions.{KeepsDecisions}
use Rattle.nodes_world.specs.Agreement.{FollowsDisk, HoldsDecisions, records_at}
use Rattle.nodes_world.specs.AgreementInside.{Known, DisksAreKnown, EndsHaveCounted, IsHeldAs, NodeIsKnown, NodesAreKnown, edge_at}
use Rattle.nodes_world.specs.Objects.{place_of, service_at}
use Rattle.nodes_world.specs.Told.{Told, known}
use Rattle.nodes_world.specs.Laws.{IsInOrder}
use Rattle.nodes_world.specs.World.{World, Seat, OfNode, node_at, node_in}
use Rattle.nodes_world.proofs.Edges.{edge_kept}
use Rattle.nodes_world.proofs.KnownFamilies.{some_of}
use Rattle.nodes_world.proofs.KnownSeats.{seat_names_kept, set_cases}
use Rattle.nodes_world.proofs.EffectsTold.{TellsEffects}
use Rattle.nodes_world.proofs.StepSeats as seats

module _ (w : World) (place : ℕ) (s : Seat) (n : Node) (f g : Family) (there : slice_get w.seats place ≡ Some s) (up : s.server ≡ OfNode (Some n))
    (same : g.key ≡ f.key) (slotted : family_in n.families f.key.slot ≡ Some f) (own : place_of f.key ≡ place) (told more : List Told) (k : Known w told)
    (tells : TellsEffects told more) where
  abbrev m : Node
  m = seats.m n f g same slotted

  abbrev left : Seat
  left = seats.left w place s n f g there up same slotted own

  abbrev v : World
  v = seats.v w place s n f g there up same slotted own

  records : (p : ℕ) → records_at v p ≡ records_at w p
  records p = seats.records_now w place s n f g there up same slotted own p

  -- a seat then is the one of the node, or was there
  by_seat : (P : ℕ → Seat → Type 0) → P place left → ((p : ℕ) (x : Seat) → slice_get w.seats p ≡ Some x → P p x) → (p : ℕ) (x : Seat)
      → slice_get v.seats p ≡ Some x → P p x
  by_seat P new old p x at = elim (set_cases w.seats place s left p x there at) [
    | inl here ↦ subst (λ (i : ℕ). P i x) (sym here.0) (subst (P place) here.1 new)
    | inr was ↦ old p x was
  ]

  node_of : (a : Node) → OfNode (Some m) ≡ OfNode (Some a) → m ≡ a
  node_of a e = cc

  was_life : (x : List ℕ) (life : ℕ) → Stands (lines.Up x life) (known more) → Stands (lines.Up x life) (known told)
  was_life x life stands = tells.back _ refl stands

  pub disks_now : DisksAreKnown v more
  disks_now = record {
    held = λ p x o. by_seat (λ p x. x.server ≡ OfNode o → (rs : List JournalRecord) × Holds (service_at p) x.disk.reads rs × (records_at v p ≡ Some rs))
        (λ is. let was = k.disks.held place s (Some n) there up in (was.0, was.1, records place ∙ was.2))
        (λ p x at is. let was = k.disks.held p x o at is in (was.0, was.1, records p ∙ was.2)) p x;
    whole = λ p x a. by_seat (λ p x. x.server ≡ OfNode (Some a) → IsWhole a)
        (λ is. subst IsWhole (node_of a is) (seats.whole_now n f g same slotted (k.disks.whole place s n there up)))
        (λ p x at is. k.disks.whole p x a at is) p x;
    follows = λ p x a. by_seat (λ p x. x.server ≡ OfNode (Some a) → FollowsDisk p x a)
        (λ is. subst (FollowsDisk place left) (node_of a is) (seats.follows_now n f g same slotted place s (k.disks.follows place s n there up)))
        (λ p x at is. k.disks.follows p x a at is) p x;
    decisions = λ p x a. by_seat (λ p x. x.server ≡ OfNode (Some a) → HoldsDecisions p a)
        (λ is. subst (HoldsDecisions place) (node_of a is) (seats.holds_now n f g same slotted place (k.disks.decisions place s n there up)))
        (λ p x at is. k.disks.decisions p x a at is) p x;
    rise = λ before behind server life earlier e stands.
        let was = tells.split (lines.Up server life) before behind refl e in
        k.disks.rise before was.0 server life earlier was.1 stands;
    lives = λ p x o life rs. by_seat (λ p x. x.server ≡ OfNode o → Stands (lines.Up x.name life) (known more) → records_at v p ≡ Some rs → life ≤ (found_in rs).life)
        (λ is stands has. k.disks.lives place s (Some n) life rs there up (was_life s.name life stands) (sym (records place) ∙ has))
        (λ p x at is stands has. k.disks.lives p x o life rs at is (was_life x.name life stands) (sym (records p) ∙ has)) p x;
    no_superior = λ p rs r has among. k.disks.no_superior p rs r (sym (records p) ∙ has) among;
    rests = by_seat (λ p x. x.server ≡ OfNode None → IsSettled x.disk) (λ is. absurd (up_still is)) (λ p x at is. k.disks.rests p x at is);
  }
    where
      up_still : OfNode (Some m) ≡ OfNode None → ⊥
      up_still e = cc

  -- ---- nodes and ends

  held_now : (p : ℕ) (rs : List JournalRecord) (h : Held) → IsHeldAs w told p rs h → IsHeldAs v more p rs h
  held_now p rs h was = record {
    stood = was.stood;
    there = was.there;
    same_place = was.same_place;
    numbers = was.numbers;
    references = was.references;
    line = λ life slot generation by asked regs is. let at = was.line life slot generation by asked regs is in (at.0, at.1, tells.on _ at.2);
  }

  order_now : (p : ℕ) (a : Node) → NodeIsKnown w told p a → (x : Seat) (rs : List JournalRecord) → slice_get v.seats p ≡ Some x → records_at v p ≡ Some rs
      → IsInOrder (service_at p) x.disk rs
  order_now p a was x rs at has = elim (set_cases w.seats place s left p x there at) [
    | inl here ↦ subst (λ (y : Seat). IsInOrder (service_at p) y.disk rs) here.1 (was.order s rs (ap (slice_get w.seats) here.0 ∙ there) (sym (records p) ∙ has))
    | inr old ↦ was.order x rs old (sym (records p) ∙ has)
  ]

  pub nodes_now : KeepsDecisions (edge_at w place) m → NodesAreKnown v more
  unfolding node_at
  nodes_now sound p a is =
      let at = some_of (λ (x : Seat). node_in x.server) (slice_get v.seats p) a is in
      by at.0 (set_cases w.seats place s left p at.0 there at.1) at.2
    where
      node_is : (y : Seat) → left ≡ y → node_in y.server ≡ Some a → m ≡ a
      node_is y same at = inner (ap (λ (x : Seat). node_in x.server) same ∙ at)
        where
          inner : {x y : Node} → Some x ≡ Some y → x ≡ y
          inner e = cc

      own_now : NodeIsKnown w told place n → NodeIsKnown v more place m
      own_now was = record {
        sound = edge_kept v w place m (records place) sound;
        given = was.given;
        order = order_now place n was;
        held = λ rs h has among. held_now place rs h (was.held rs h (sym (records place) ∙ has) among);
      }

      other_now : NodeIsKnown w told p a → NodeIsKnown v more p a
      other_now was = record {
        sound = edge_kept v w p a (records p) was.sound;
        given = was.given;
        order = order_now p a was;
        held = λ rs h has among. held_now p rs h (was.held rs h (sym (records p) ∙ has) among);
      }

      by : (x : Seat) → ((p ≡ place) × (left ≡ x)) ⊎ (slice_get w.seats p ≡ Some x) → node_in x.server ≡ Some a → NodeIsKnown v more p a
      by x (inl here) at =
          subst (λ (i : ℕ). NodeIsKnown v more i a) (sym here.0)
          (subst (NodeIsKnown v more place) (node_is x here.1 at)
          (own_now (k.nodes place n (ap (λ (o : Option Seat). option_and_then (λ (y : Seat). node_in y.server) o) there ∙ ap node_in up))))
      by x (inr old) at = other_now (k.nodes p a (ap (λ (o : Option Seat). option_and_then (λ (y : Seat). node_in y.server) o) old ∙ at))

  pub counted_now : EndsHaveCounted v
  counted_now = record {
    numbers = λ p e is. k.counted.numbers p e (sym (seats.ends_now w place s n f g there up same slotted own p) ∙ is);
    messages = λ p e is. k.counted.messages p e (sym (seats.ends_now w place s n f g there up same slotted own p) ∙ is);
    short = λ p e name is named. k.counted.short p e name (sym (seats.ends_now w place s n f g there up same slotted own p) ∙ is) (sym (seat_names_kept w place s left there refl p) ∙ named);
  }
