-- A world in which something else stands at a seat is whole.
use Rattle.std.proofs.Common.{◌≡◌, ◌⊎◌, inl, inr, ℕ, zero, suc, ◌<◌, ◌≤◌, false, bytes_eq, List, [], ◌∷◌, length, map, get_or, slice_get, slice_set, Option, Some, None, refl, sym, ap, subst, ◌∙◌, arith, Bor, MatchOption}
use Rattle.std.specs.List.{HoldsAt}
use Rattle.std.specs.Option.{option_copied, option_map, option_map_or}
use Rattle.std.proofs.lemmas.List.{length-set, map-set}
use Rattle.std.proofs.lemmas.Option.{slice_get-map, slice_get_past, slice_get_read}
use Rattle.ior_refs.specs.declared.key.ObjectKey.{ObjectKey}
use Rattle.ots_outside.specs.Disk.{DiskState}
use Rattle.nodes_world.specs.Disks.{Stop}
use Rattle.nodes_world.specs.Objects.{place_of, reference}
use Rattle.nodes_world.specs.World.{Seat, Server, World, is_referred_to, on_seat, referred, resources, transaction_name, with_disk, with_seat, with_server}
use Rattle.nodes_parts.specs.Naming.{Names}
use Rattle.nodes_state.specs.Seated.{seat_of}
use Rattle.nodes_state.specs.Shown.{shown}
use Rattle.nodes_state.specs.Telling.{AreNamesOf}
use Rattle.nodes_state.specs.declared.seats.Seat.{Seat as Kept}
use Rattle.nodes_state.specs.declared.state.State.{State}
use Rattle.nodes_seats.specs.Whole.{ArePlaced, IsServed, IsWhole}
use Rattle.nodes_seats.proofs.Growing.{find_alike}

-- what `get` found
abbrev Finds : {A : Type 0} → List A → ℕ → Option (Bor A) → Type 0
Finds {A} xs i found = MatchOption found (length xs ≤ i) (λ x. (i < length xs) × HoldsAt {X = A} (λ y. x.now ≡ y) xs i)

pub read_at : {A : Type 0} (xs ys : List A) (i : ℕ) (found : Option (Bor A)) → xs ≡ ys → Finds xs i found → slice_get ys i ≡ option_copied found
read_at xs ys i None same past = ap (λ zs. slice_get zs i) (sym same) ∙ slice_get_past xs i past
read_at xs ys i (Some x) same at = ap (λ zs. slice_get zs i) (sym same) ∙ slice_get_read xs (length xs) i x.now refl at.0 (at.1 x.now)

pub seat_shown : (s : State) (place : ℕ) (o : Option Kept) → slice_get s.seats.items place ≡ o → slice_get (shown s).seats place ≡ option_map seat_of o
seat_shown s place o e = slice_get-map seat_of s.seats.items place ∙ ap (λ x. option_map seat_of x) e

-- ---- one is put in place of another

pub get_set : {A : Type 0} (xs : List A) (i : ℕ) (s x : A) → slice_get xs i ≡ Some s → slice_get (slice_set xs i x) i ≡ Some x
get_set [] i s x e = absurd (cc e)
get_set (y ∷ xs) zero s x e = refl
get_set (y ∷ xs) (suc i) s x e = get_set xs i s x e

pub set_twice : {A : Type 0} (xs : List A) (i : ℕ) (x y : A) → slice_set (slice_set xs i x) i y ≡ slice_set xs i y
set_twice [] i x y = refl
set_twice (z ∷ xs) zero x y = refl
set_twice (z ∷ xs) (suc i) x y = ap (λ zs. z ∷ zs) (set_twice xs i x y)

pub set_cases : {A : Type 0} (xs : List A) (i k : ℕ) (y u : A) → slice_get (slice_set xs i y) k ≡ Some u → ((k ≡ i) × (u ≡ y)) ⊎ (slice_get xs k ≡ Some u)
set_cases [] i k y u e = inr e
set_cases (x ∷ xs) zero zero y u e = inl (refl, cc)
set_cases (x ∷ xs) zero (suc k) y u e = inr e
set_cases (x ∷ xs) (suc i) zero y u e = inr e
set_cases (x ∷ xs) (suc i) (suc k) y u e = elim (set_cases xs i k y u e) [
  | inl here ↦ inl (ap suc here.0, here.1)
  | inr there ↦ inr there
]

name_kept : (xs : List Seat) (i : ℕ) (s x : Seat) → slice_get xs i ≡ Some s → x.name ≡ s.name → (k : ℕ)
    → option_map (λ (y : Seat). y.name) (slice_get (slice_set xs i x) k) ≡ option_map (λ (y : Seat). y.name) (slice_get xs k)
name_kept [] i s x e n k = refl
name_kept (y ∷ xs) zero s x e n zero = let same : y ≡ s = cc in ap (λ (z : List ℕ). Some z) (n ∙ sym (ap (λ (z : Seat). z.name) same))
name_kept (y ∷ xs) zero s x e n (suc k) = refl
name_kept (y ∷ xs) (suc i) s x e n zero = refl
name_kept (y ∷ xs) (suc i) s x e n (suc k) = name_kept xs i s x e n k

referred_kept : (w : World) (place : ℕ) (s x : Seat) (to : List ℕ) → slice_get w.seats place ≡ Some s → x.name ≡ s.name
    → referred (with_seat place x w) to ≡ referred w to
unfolding referred
referred_kept w place s x to there same =
    find_alike (is_referred_to (with_seat place x w) to) (is_referred_to w to) (resources w)
    (λ r c. ap (λ (o : Option (List ℕ)). option_map_or (λ (octets : List ℕ). bytes_eq octets to) (option_map (λ (name : List ℕ). reference name r.key) o) false)
    (name_kept w.seats place s x there same (place_of r.key)))

transaction_kept : (w : World) (place : ℕ) (x : Seat) (key : ObjectKey) → transaction_name w key ≡ transaction_name (with_seat place x w) key
unfolding transaction_name
transaction_kept w place x key = refl

pub names_kept : (n : Names) (w : World) (place : ℕ) (s x : Seat) → AreNamesOf n w → slice_get w.seats place ≡ Some s → x.name ≡ s.name
    → AreNamesOf n (with_seat place x w)
names_kept n w place s x names there same = record {
  things = names.things;
  transactions = λ key. names.transactions key ∙ transaction_kept w place x key;
  references = λ to. names.references to ∙ sym (referred_kept w place s x to there same);
}

placed_kept : (w : World) (place : ℕ) (x : Seat) → ArePlaced w → ArePlaced (with_seat place x w)
placed_kept w place x placed = λ r c.
    let n : length (slice_set w.seats place x) ≡ length w.seats = length-set w.seats place x in
    let less = placed r c in
    omega arith

module _ (old new : State) (place : ℕ) (s x : Kept) (there : slice_get old.seats.items place ≡ Some s)
    (seats : new.seats.items ≡ slice_set old.seats.items place x) (messages : new.messages ≡ old.messages) (names : new.names ≡ old.names) where
  pub world_changes : shown new ≡ with_seat place (seat_of x) (shown old)
  world_changes =
      ap (λ (xs : List Kept). record { seats = map seat_of xs; messages = new.messages; names = new.names.things }) seats
      ∙ ap (λ (ys : List Seat). record { seats = ys; messages = new.messages; names = new.names.things }) (map-set seat_of old.seats.items place x)
      ∙ ap (λ m. record { seats = slice_set (map seat_of old.seats.items) place (seat_of x); messages = m; names = new.names.things }) messages
      ∙ ap (λ (n : Names). record { seats = slice_set (map seat_of old.seats.items) place (seat_of x); messages = old.messages; names = n.things }) names

  pub whole_changes : IsWhole old → x.name ≡ s.name → IsServed place x.server → IsWhole new
  whole_changes whole same served = record {
    few = let n : length (slice_set old.seats.items place x) ≡ length old.seats.items = length-set old.seats.items place x in
        let m = ap (λ (xs : List Kept). length xs) seats in
        let few = whole.few in
        omega arith;
    served = λ k seat is. elim (set_cases old.seats.items place k x seat (sym (ap (λ (xs : List Kept). slice_get xs k) seats) ∙ is)) [
      | inl here ↦ subst (λ (u : Kept). IsServed k u.server) (sym here.1) (subst (λ n. IsServed n x.server) (sym here.0) served)
      | inr other ↦ whole.served k seat other
    ];
    names = subst (λ (n : Names). AreNamesOf n (shown new)) (sym names)
        (subst (λ (w : World). AreNamesOf old.names w) (sym world_changes)
        (names_kept old.names (shown old) place (seat_of s) (seat_of x) whole.names (seat_shown old place (Some s) there) same));
    placed = subst ArePlaced (sym world_changes) (placed_kept (shown old) place (seat_of x) whole.placed);
  }

-- ---- the changes of a seat that is there

pub on_seat_there : (place : ℕ) (change : Seat → Seat) (w : World) (s : Seat) → slice_get w.seats place ≡ Some s
    → on_seat place change w ≡ with_seat place (change s) w
on_seat_there place change w s there =
    ap (λ (o : Option Seat). elim o as (λ _. World) [ Some x ↦ with_seat place (change x) w | None ↦ w ]) there

pub no_seat : (place : ℕ) (change : Seat → Seat) (w : World) → slice_get w.seats place ≡ None → on_seat place change w ≡ w
no_seat place change w none = ap (λ (o : Option Seat). elim o as (λ _. World) [ Some x ↦ with_seat place (change x) w | None ↦ w ]) none

pub server_there : (place : ℕ) (server : Server) (disk : DiskState) (stop : Option Stop) (w : World) (s : Seat) → slice_get w.seats place ≡ Some s
    → with_server place server (with_disk place disk stop w) ≡ with_seat place (record s { server = server; disk = disk; stop = stop }) w
server_there place server disk stop w s there =
    let first : Seat = record s { disk = disk; stop = stop } in
    ap (λ (v : World). with_server place server v) (on_seat_there place (λ (x : Seat). record x { disk = disk; stop = stop }) w s there)
    ∙ on_seat_there place (λ (x : Seat). record x { server = server }) (with_seat place first w) first (get_set w.seats place s first there)
    ∙ ap (λ (ys : List Seat). record w { seats = ys }) (set_twice w.seats place first (record first { server = server }))

pub no_server : (place : ℕ) (server : Server) (disk : DiskState) (stop : Option Stop) (w : World) → slice_get w.seats place ≡ None
    → with_server place server (with_disk place disk stop w) ≡ w
no_server place server disk stop w none =
    ap (λ (v : World). with_server place server v) (no_seat place (λ (x : Seat). record x { disk = disk; stop = stop }) w none)
    ∙ no_seat place (λ (x : Seat). record x { server = server }) w none

-- ---- what stands at a place in the code

pub at_place : (xs : List Kept) (place : ℕ) (k : Kept) → place < length xs → k ≡ get_or xs place k → slice_get xs place ≡ Some k
at_place xs place k within has = slice_get_read xs (length xs) place k refl within has

pub past_places : (s : State) (place : ℕ) → length s.seats.items ≤ place → slice_get (shown s).seats place ≡ None
past_places s place past = seat_shown s place None (slice_get_past s.seats.items place past)
