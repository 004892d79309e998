-- The world in which a node has one of its families as a step leaves it.
use Rattle.std.proofs.Common.{◌≡◌, ◌≢◌, ◌⊎◌, inl, inr, ℕ, zero, suc, ◌-◌, ◌≤◌, ◌||◌, Bool, true, false, cond, is_some, IsTrue, List, [], ◌∷◌, length, slice_get, slice_set, Option, Some, None, refl, sym, ap, subst, ◌∙◌, arith}
use Rattle.std.specs.List.{list_any}
use Rattle.std.specs.Option.{option_map_or, option_and_then}
use Rattle.ior_refs.specs.declared.key.ObjectKey.{ObjectKey}
use Rattle.decision_journal.specs.declared.record.JournalRecord.{JournalRecord}
use Rattle.recovery_coord.specs.Held.{is_held}
use Rattle.coordinator.specs.Family.{Family}
use Rattle.coordinator.specs.Node.{Node, family_in, family_of, is_of, only_of, with_family}
use Rattle.coordinator.specs.NodeParts.{IsInSlot, IsWhole}
use Rattle.nodes_world.specs.Objects.{place_of}
use Rattle.nodes_world.specs.World.{World, Seat, OfNode, end_at, end_in, family_at, referred, resource_at, with_seat}
use Rattle.nodes_world.specs.Agreement.{FollowsDisk, HoldsDecisions, has_record, records_at}
use Rattle.nodes_world.proofs.Going.{get_set}
use Rattle.nodes_world.proofs.KnownAlike.{referred_by, resources_by}
use Rattle.nodes_world.proofs.KnownFamilies.{IsSeated, family_found, same_parts, seated}
use Rattle.nodes_world.proofs.KnownSeats.{disks_kept, ends_kept, seat_names_kept}

-- ---- one place of a list is written

same_or_not : (a b : ℕ) → (a ≡ b) ⊎ (a ≢ b)
same_or_not a b = grind arith

pub other_place : {A : Type 0} (xs : List A) (i j : ℕ) (y : A) → j ≢ i → slice_get (slice_set xs i y) j ≡ slice_get xs j
other_place [] i j y other = refl
other_place (z ∷ xs) zero zero y other = absurd (other refl)
other_place (z ∷ xs) zero (suc j) y other = refl
other_place (z ∷ xs) (suc i) zero y other = refl
other_place (z ∷ xs) (suc i) (suc j) y other = other_place xs i j y (λ e. other (ap suc e))

as_long : {A : Type 0} (xs : List A) (i : ℕ) (y : A) → length (slice_set xs i y) ≡ length xs
as_long [] i y = refl
as_long (z ∷ xs) zero y = refl
as_long (z ∷ xs) (suc i) y = ap suc (as_long xs i y)

some_slot : (o : Option (Option Family)) (f : Family) → option_and_then (λ (x : Option Family). x) o ≡ Some f → o ≡ Some (Some f)
some_slot (Some x) f is = ap (λ (y : Option Family). Some y) is
some_slot None f is = absurd cc

inner : {A : Type 0} {x y : A} → Some x ≡ Some y → x ≡ y
inner e = cc

-- ---- a node with that family

module _ (n : Node) (f g : Family) (same : g.key ≡ f.key) (slotted : family_in n.families f.key.slot ≡ Some f) where
  abbrev pub m : Node
  m = with_family g n

  own_slot : family_in n.families g.key.slot ≡ Some f
  own_slot = ap (λ (x : ObjectKey). family_in n.families x.slot) same ∙ slotted

  pub in_own_slot : family_in m.families g.key.slot ≡ Some g
  in_own_slot = ap (λ (o : Option (Option Family)). option_and_then (λ (x : Option Family). x) o)
      (get_set n.families g.key.slot (Some f) (Some g) (some_slot (slice_get n.families g.key.slot) f own_slot))

  pub in_other_slot : (slot : ℕ) → slot ≢ g.key.slot → family_in m.families slot ≡ family_in n.families slot
  in_other_slot slot other = ap (λ (o : Option (Option Family)). option_and_then (λ (x : Option Family). x) o) (other_place n.families g.key.slot slot (Some g) other)

  -- a family then is that one, or was there in another slot
  pub slot_cases : (slot : ℕ) (h : Family) → family_in m.families slot ≡ Some h → ((slot ≡ g.key.slot) × (h ≡ g)) ⊎ ((slot ≢ g.key.slot) × (family_in n.families slot ≡ Some h))
  slot_cases slot h is = elim (same_or_not slot g.key.slot) [
    | inl here ↦ inl (here, sym (inner (sym in_own_slot ∙ ap (family_in m.families) (sym here) ∙ is)))
    | inr other ↦ inr (other, sym (in_other_slot slot other) ∙ is)
  ]

  in_slot : (slot : ℕ) → slot ≡ g.key.slot → IsInSlot n f.key.slot f → IsInSlot m slot g
  in_slot slot at was = record {
    of_service = ap (λ (x : ObjectKey). x.service) same ∙ was.of_service;
    of_life = ap (λ (x : ObjectKey). x.life) same ∙ was.of_life;
    own_slot = sym at;
    given = subst (λ (x : ObjectKey). x.generation ≤ n.generation) (sym same) was.given;
  }

  pub whole_now : IsWhole n → IsWhole m
  whole_now whole = record {
    slots = as_long n.families g.key.slot (Some g) ∙ whole.slots;
    families = λ slot h is. elim (slot_cases slot h is) [
      | inl here ↦ subst (IsInSlot m slot) (sym here.1) (in_slot slot here.0 (whole.families f.key.slot f slotted))
      | inr other ↦ let was = whole.families slot h other.1 in
          record { of_service = was.of_service; of_life = was.of_life; own_slot = was.own_slot; given = was.given }
    ];
    last = whole.last;
    numbers = whole.numbers;
    held = whole.held;
  }

  pub follows_now : (place : ℕ) (s : Seat) → FollowsDisk place s n → FollowsDisk place (record s { server = OfNode (Some m) }) m
  follows_now place s follows = record { service = follows.service; records = follows.records; held = follows.held; found = follows.found; settled = follows.settled }

  either_some : (b : Bool) (x y : Family) → is_some (cond b (Some x) None) ≡ is_some (cond b (Some y) None)
  either_some true x y = refl
  either_some false x y = refl

  -- a key is of a family then where it was
  pub of_now : (key : ObjectKey) → is_some (family_of key m) ≡ is_some (family_of key n)
  unfolding family_of
  of_now key = elim (same_or_not key.slot g.key.slot) [
    | inl here ↦
        ap (λ (o : Option Family). is_some (option_and_then (only_of key) o)) (ap (family_in m.families) here ∙ in_own_slot)
        ∙ ap (λ (x : ObjectKey). is_some (cond (is_of key (record g { key = x })) (Some g) None)) same
        ∙ either_some (is_of key f) g f
        ∙ sym (ap (λ (o : Option Family). is_some (option_and_then (only_of key) o)) (ap (family_in n.families) here ∙ own_slot))
    | inr other ↦ ap (λ (o : Option Family). is_some (option_and_then (only_of key) o)) (in_other_slot key.slot other)
  ]

  pub holds_now : (place : ℕ) → HoldsDecisions place n → HoldsDecisions place m
  holds_now place holds = record {
    whole = holds.whole;
    held = λ stood life slot generation by asked regs among is.
        ap (λ (b : Bool). is_held stood.place n.recovered || b) (of_now _) ∙ holds.held stood life slot generation by asked regs among is;
  }

-- ---- its world

module _ (w : World) (place : ℕ) (s : Seat) (n : Node) (f g : Family) (there : slice_get w.seats place ≡ Some s) (up : s.server ≡ OfNode (Some n))
    (same : g.key ≡ f.key) (slotted : family_in n.families f.key.slot ≡ Some f) (own : place_of f.key ≡ place) where
  abbrev pub left : Seat
  left = record s { server = OfNode (Some (with_family g n)) }

  abbrev pub v : World
  v = with_seat place left w

  pub refers_now : (to : List ℕ) → referred v to ≡ referred w to
  refers_now to = referred_by w v to refl (seat_names_kept w place s left there refl)

  pub ends_now : (p : ℕ) → end_at v p ≡ end_at w p
  unfolding end_at
  ends_now p = ends_kept w place s left there refl (sym (ap end_in up)) p

  pub resources_now : (key : ObjectKey) → resource_at v key ≡ resource_at w key
  resources_now key = resources_by w v key (ends_now (place_of key))

  pub records_now : (p : ℕ) → records_at v p ≡ records_at w p
  records_now p = disks_kept w place s left there refl refl p

  pub has_now : (p : ℕ) (is_so : JournalRecord → Bool) → has_record v p is_so ≡ has_record w p is_so
  has_now p is_so = ap (λ (o : Option (List JournalRecord)). option_map_or (λ (rs : List JournalRecord). list_any is_so rs) o false) (records_now p)

  -- a family that is there then is that one, or was there, and is another one
  pub families_now : (key : ObjectKey) (h : Family) → family_at v key ≡ Some h
      → ((h ≡ g) × IsTrue (is_of key g)) ⊎ ((family_at w key ≡ Some h) × (IsTrue (is_of h.key f) → ⊥))
  families_now key h is = by (seated v key h is)
    where
      server_of : {x y : Node} → OfNode (Some x) ≡ OfNode (Some y) → x ≡ y
      server_of e = cc

      not_here : place_of key ≢ place → IsSeated v key h → (family_at w key ≡ Some h) × (IsTrue (is_of h.key f) → ⊥)
      not_here other at = (
        family_found w key h (record { seat = at.seat; node = at.node; there = sym (other_place w.seats place (place_of key) left other) ∙ at.there; up = at.up; slotted = at.slotted; own = at.own }),
        λ of.
            let mine = same_parts key.service key.life key.slot key.generation h.key.service h.key.life h.key.slot h.key.generation at.own in
            let his = same_parts h.key.service h.key.life h.key.slot h.key.generation f.key.service f.key.life f.key.slot f.key.generation of in
            other (ap (λ (x : ℕ). x - 1) (mine.0 ∙ his.0) ∙ own),
      )

      in_node : (seat : Seat) (node : Node) → left ≡ seat → seat.server ≡ OfNode (Some node) → with_family g n ≡ node
      in_node seat node is_left is_up = server_of (ap (λ (x : Seat). x.server) is_left ∙ is_up)

      here : place_of key ≡ place → IsSeated v key h → ((h ≡ g) × IsTrue (is_of key g)) ⊎ ((family_at w key ≡ Some h) × (IsTrue (is_of h.key f) → ⊥))
      here at_place at =
          let is_left : left ≡ at.seat = inner (sym (ap (slice_get v.seats) at_place ∙ get_set w.seats place s left there) ∙ at.there) in
          let node = in_node at.seat at.node is_left at.up in
          elim (slot_cases n f g same slotted key.slot h (ap (λ (x : Node). family_in x.families key.slot) node ∙ at.slotted)) [
            | inl this ↦ inl (this.1, subst (λ (x : Family). IsTrue (is_of key x)) this.1 at.own)
            | inr that ↦ inr (
              family_found w key h (record { seat = s; node = n; there = ap (slice_get w.seats) at_place ∙ there; up = up; slotted = that.1; own = at.own }),
              λ of.
                  let mine = same_parts key.service key.life key.slot key.generation h.key.service h.key.life h.key.slot h.key.generation at.own in
                  let his = same_parts h.key.service h.key.life h.key.slot h.key.generation f.key.service f.key.life f.key.slot f.key.generation of in
                  that.0 (mine.2 ∙ his.2 ∙ sym (ap (λ (x : ObjectKey). x.slot) same)),
            )
          ]

      by : IsSeated v key h → ((h ≡ g) × IsTrue (is_of key g)) ⊎ ((family_at w key ≡ Some h) × (IsTrue (is_of h.key f) → ⊥))
      by at = elim (same_or_not (place_of key) place) [
        | inl at_place ↦ here at_place at
        | inr other ↦ inr (not_here other at)
      ]

  -- it is there by its key
  pub there_now : (key : ObjectKey) → IsTrue (is_of key g) → family_at v key ≡ Some g
  there_now key of =
      let parts = same_parts key.service key.life key.slot key.generation g.key.service g.key.life g.key.slot g.key.generation of in
      family_found v key g (record {
        seat = left;
        node = with_family g n;
        there = ap (slice_get v.seats) (ap (λ (x : ℕ). x - 1) parts.0 ∙ ap place_of same ∙ own) ∙ get_set w.seats place s left there;
        up = refl;
        slotted = ap (family_in (with_family g n).families) parts.2 ∙ in_own_slot n f g same slotted;
        own = of;
      })
