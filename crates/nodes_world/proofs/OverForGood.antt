-- What is over for a resource stays so, whatever is done in a world.
use Rattle.std.proofs.Common.{◌≡◌, ◌⊎◌, inl, inr, ℕ, ◌==◌, Bool, true, false, cond, List, [], ◌∷◌, ◌++◌, map, find, slice_get, slice_set, Option, Some, None, refl, sym, ap, subst, ◌∙◌, arith}
use Rattle.std.specs.Option.{option_and_then}
use Rattle.std.proofs.lemmas.Bool.Decides.{nat_tests}
use Rattle.ior_refs.specs.declared.key.ObjectKey.{ObjectKey}
use Rattle.resource_end.specs.Table.{row}
use Rattle.resource_end.specs.declared.state.State.{State}
use Rattle.resource_end.specs.declared.state.State.TheVariants as states
use Rattle.resource_end.specs.declared.state.Word.{Word}
use Rattle.resource_end.specs.declared.state.Word.TheVariants as words
use Rattle.coordinator.specs.Node.{Node}
use Rattle.coordinator.specs.declared.said.Said.{Said}
use Rattle.nodes_world.specs.Agreement.{IsOver}
use Rattle.nodes_world.specs.Changes.{EndBecomes, ResourceBecomes, SeatBecomes, WorldBecomes, WorldGoesOn, by_call, by_change, by_clock, by_crash, by_crash_inside, by_drawing, by_end, by_family, by_load, by_making, by_message, by_name, by_new_seat, by_put, by_refusal, by_seat, by_sending, by_stop, by_tick, by_word, still, further}
use Rattle.nodes_world.specs.Ends.{closed_by, in_place_of}
use Rattle.nodes_world.specs.Objects.{place_of}
use Rattle.nodes_world.specs.OverForGood.{IsAt, ResourcesStay, StaysAt}
use Rattle.nodes_world.specs.Step.{carried_out}
use Rattle.nodes_world.specs.World.{World, Seat, Server, OfNode, OfEnd, FlatEnd, FlatResource, end_at, end_in, has_number, resource_at}
use Rattle.nodes_world.proofs.Deeds.{deeds_are_changes}
use Rattle.nodes_world.proofs.Going.{EndIsUp, end_is_up, get_set}
use Rattle.nodes_world.proofs.KnownFrames.{push_kept}
use Rattle.nodes_world.proofs.KnownTouch.{found_kept, set_other}

-- ---- states

no_state : {s : State} → None ≡ Some s → ⊥
no_state e = cc

inner_state : {s t : State} → Some s ≡ Some t → s ≡ t
inner_state e = cc

over_row : (word : Word) (s next : State) → IsOver s → (row word s).next ≡ Some next → IsOver next
over_row word states.Fresh next so is = absurd so
over_row word states.Working next so is = absurd so
over_row word states.Refused next so is = absurd so
over_row word states.Prepared next so is = absurd so
over_row words.Prepare states.Applied next so is = absurd (no_state is)
over_row words.Commit states.Applied next so is = absurd (no_state is)
over_row words.Rollback states.Applied next so is = absurd (no_state is)
over_row words.CommitOnePhase states.Applied next so is = absurd (no_state is)
over_row words.Forget states.Applied next so is = absurd (no_state is)
over_row words.Prepare states.Undone next so is = absurd (no_state is)
over_row words.Commit states.Undone next so is = absurd (no_state is)
over_row words.Rollback states.Undone next so is = absurd (no_state is)
over_row words.CommitOnePhase states.Undone next so is = absurd (no_state is)
over_row words.Forget states.Undone next so is = absurd (no_state is)
over_row words.Prepare states.ChoseCommit next so is = absurd (no_state is)
over_row words.Commit states.ChoseCommit next so is = subst IsOver (inner_state is) tt
over_row words.Rollback states.ChoseCommit next so is = absurd (no_state is)
over_row words.CommitOnePhase states.ChoseCommit next so is = subst IsOver (inner_state is) tt
over_row words.Forget states.ChoseCommit next so is = subst IsOver (inner_state is) tt
over_row words.Prepare states.ChoseRollback next so is = absurd (no_state is)
over_row words.Commit states.ChoseRollback next so is = absurd (no_state is)
over_row words.Rollback states.ChoseRollback next so is = subst IsOver (inner_state is) tt
over_row words.CommitOnePhase states.ChoseRollback next so is = absurd (no_state is)
over_row words.Forget states.ChoseRollback next so is = subst IsOver (inner_state is) tt
over_row words.Prepare states.Forgotten next so is = absurd (no_state is)
over_row words.Commit states.Forgotten next so is = absurd (no_state is)
over_row words.Rollback states.Forgotten next so is = absurd (no_state is)
over_row words.CommitOnePhase states.Forgotten next so is = absurd (no_state is)
over_row words.Forget states.Forgotten next so is = absurd (no_state is)

still_applied : (word : Word) → (row word states.Applied).next ≡ None
still_applied words.Prepare = refl
still_applied words.Commit = refl
still_applied words.Rollback = refl
still_applied words.CommitOnePhase = refl
still_applied words.Forget = refl

still_undone : (word : Word) → (row word states.Undone).next ≡ None
still_undone words.Prepare = refl
still_undone words.Commit = refl
still_undone words.Rollback = refl
still_undone words.CommitOnePhase = refl
still_undone words.Forget = refl

none_open : {a : Said} → Some a ≡ None → ⊥
none_open e = cc

over_closed : (s : State) → IsOver s → closed_by s ≡ None → ⊥
over_closed states.Fresh so is = so
over_closed states.Working so is = so
over_closed states.Refused so is = so
over_closed states.Prepared so is = so
over_closed states.Applied so is = none_open is
over_closed states.Undone so is = none_open is
over_closed states.ChoseCommit so is = none_open is
over_closed states.ChoseRollback so is = none_open is
over_closed states.Forgotten so is = none_open is

-- ---- ends

found_more : {A : Type 0} (p : A → Bool) (xs ys : List A) (x : A) → find p xs ≡ Some x → find p (xs ++ ys) ≡ Some x
found_more p [] ys x is = absurd cc
found_more p (z ∷ xs) ys x is = by (p z) (found_more p xs ys x) is
  where
    by : (b : Bool) → (find p xs ≡ Some x → find p (xs ++ ys) ≡ Some x) → cond b (Some z) (find p xs) ≡ Some x → cond b (Some z) (find p (xs ++ ys)) ≡ Some x
    by true later is = is
    by false later is = later is

inner_found : {a b : FlatResource} → Some a ≡ Some b → a ≡ b
inner_found e = cc

same_number : (a b : ℕ) → a == b ≡ true → a ≡ b
same_number a b is = grind (arith, nat_tests)

found_number : (key : ObjectKey) (xs : List FlatResource) (r : FlatResource) → find (has_number key) xs ≡ Some r → r.key.generation ≡ key.generation
found_number key [] r is = absurd cc
found_number key (z ∷ xs) r is = by (has_number key z) refl (found_number key xs r) is
  where
    by : (b : Bool) → has_number key z ≡ b → (find (has_number key) xs ≡ Some r → r.key.generation ≡ key.generation)
        → cond b (Some z) (find (has_number key) xs) ≡ Some r → r.key.generation ≡ key.generation
    by true has later is = ap (λ (x : FlatResource). x.key.generation) (sym (inner_found is)) ∙ same_number z.key.generation key.generation has
    by false has later is = later is

becomes_key : (r later : FlatResource) → ResourceBecomes r later → later.key ≡ r.key
becomes_key _ _ (by_put r cell value open_still) = refl
becomes_key _ _ (by_refusal r open_still) = refl
becomes_key _ _ (by_word r word next is) = refl

-- what holds of a state that is closed, and of each that follows it
module _ (P : State → Type 0) (closed : (s : State) → P s → closed_by s ≡ None → ⊥)
    (follows : (word : Word) (s next : State) → P s → (row word s).next ≡ Some next → P next) where
  becomes_so : (r later : FlatResource) → ResourceBecomes r later → P r.state → P later.state
  becomes_so _ _ (by_put r cell value is_open) so = absurd (closed r.state so is_open)
  becomes_so _ _ (by_refusal r is_open) so = absurd (closed r.state so is_open)
  becomes_so _ _ (by_word r word next is) so = follows word r.state next so is

  abbrev Found : ObjectKey → List FlatResource → Type 0
  Found key xs = (r : FlatResource) × (find (has_number key) xs ≡ Some r) × P r.state

  -- the one that changes is the one of this key, or another
  changed_so : (key other : ObjectKey) (xs : List FlatResource) (r one next : FlatResource) → find (has_number key) xs ≡ Some r → P r.state
      → find (has_number other) xs ≡ Some one → ResourceBecomes one next → Found key (map (in_place_of next) xs)
  changed_so key other xs r one next is so found becomes = by (has_number next.key r) refl (found_kept key next xs r is)
    where
      own : next.key.generation ≡ other.generation
      own = ap (λ (k : ObjectKey). k.generation) (becomes_key one next becomes) ∙ found_number other xs one found

      by : (b : Bool) → has_number next.key r ≡ b → find (has_number key) (map (in_place_of next) xs) ≡ Some (cond b next r)
          → Found key (map (in_place_of next) xs)
      by true has there =
          let number : other.generation ≡ key.generation =
          sym own ∙ sym (same_number r.key.generation next.key.generation has) ∙ found_number key xs r is in
          let same : r ≡ one =
          inner_found (sym is ∙ ap (λ (n : ℕ). find (λ (x : FlatResource). x.key.generation == n) xs) (sym number) ∙ found) in
          (next, there, becomes_so one next becomes (subst (λ (x : FlatResource). P x.state) same so))
      by false has there = (r, there, so)

  end_so : (e later : FlatEnd) (key : ObjectKey) → EndBecomes e later → Found key e.resources → Found key later.resources
  end_so _ _ key (by_drawing e) found = found
  end_so _ _ key (by_making e made) (r, is, so) = (r, found_more (has_number key) e.resources _ r is, so)
  end_so _ _ key (by_change e other one next found becomes) (r, is, so) = changed_so key other e.resources r one next is so found becomes

  -- ---- worlds

  of_end : (o : Option Node) (e : FlatEnd) → OfNode o ≡ OfEnd (Some e) → ⊥
  of_end o e is = cc

  end_same : (e f : FlatEnd) → OfEnd (Some e) ≡ OfEnd (Some f) → e ≡ f
  end_same e f is = cc

  abbrev EndHas : ObjectKey → Server → Type 0
  EndHas key server = (e : FlatEnd) × (server ≡ OfEnd (Some e)) × Found key e.resources

  seat_so : (place : ℕ) (s later : Seat) (key : ObjectKey) → SeatBecomes place s later → EndHas key s.server → EndHas key later.server
  seat_so place _ _ key (by_clock s seconds) has = has
  seat_so place _ _ key (by_stop s stop) has = has
  seat_so place _ _ key (by_family s n seconds up) has = absurd (of_end (Some n) has.0 (sym up ∙ has.1))
  seat_so place _ _ key (by_call s n k e stood disk stop up asked) has = absurd (of_end (Some n) has.0 (sym up ∙ has.1))
  seat_so place _ _ key (by_tick s n now up) has = absurd (of_end (Some n) has.0 (sym up ∙ has.1))
  seat_so place _ _ key (by_crash s n up) has = absurd (of_end (Some n) has.0 (sym up ∙ has.1))
  seat_so place _ _ key (by_crash_inside s n k e image up asked) has = absurd (of_end (Some n) has.0 (sym up ∙ has.1))
  seat_so place _ _ key (by_load s rs down held) has = absurd (of_end None has.0 (sym down ∙ has.1))
  seat_so place _ _ key (by_end s e later up becomes) has =
      (later, refl, end_so e later key becomes (subst (λ (x : FlatEnd). Found key x.resources) (end_same has.0 e (sym has.1 ∙ up)) has.2))

  -- a resource is at the seat of its end
  abbrev HasSeat : World → ObjectKey → Type 0
  HasSeat w key = (s : Seat) × (slice_get w.seats (place_of key) ≡ Some s) × EndHas key s.server

  seated : (w : World) (key : ObjectKey) → IsAt P w key → HasSeat w key
  unfolding resource_at
  seated w key at = by (end_at w (place_of key)) refl at.there
    where
      by : (o : Option FlatEnd) → end_at w (place_of key) ≡ o → option_and_then (λ (e : FlatEnd). find (has_number key) e.resources) o ≡ Some at.resource
          → HasSeat w key
      by (Some e) up is =
          let end : EndIsUp w (place_of key) e = end_is_up w (place_of key) e up in
          (end.seat, end.there, (e, end.up, (at.resource, is, at.so)))
      by None up is = absurd cc

  at_seat : (w : World) (key : ObjectKey) → HasSeat w key → IsAt P w key
  unfolding resource_at end_at
  at_seat w key (s, there, (e, up, (r, is, so))) = record {
    resource = r;
    there = ap (λ (o : Option Seat). option_and_then (λ (x : FlatEnd). find (has_number key) x.resources) (option_and_then (λ (x : Seat). end_in x.server) o)) there
        ∙ ap (λ (x : Server). option_and_then (λ (y : FlatEnd). find (has_number key) y.resources) (end_in x)) up
        ∙ is;
    so = so;
  }

  same_or_not : (a b : ℕ) → (a ≡ b) ⊎ (a ≡ b → ⊥)
  same_or_not a b = grind arith

  inner_seat : {a b : Seat} → Some a ≡ Some b → a ≡ b
  inner_seat e = cc

  once_so : (w v : World) (key : ObjectKey) → WorldBecomes w v → HasSeat w key → HasSeat v key
  once_so w _ key (by_new_seat new is) (s, there, has) = (s, push_kept w.seats (place_of key) new s there, has)
  once_so w _ key (by_seat place old later is becomes) (s, there, has) = elim (same_or_not (place_of key) place) [
    | inl here ↦
        let same : s ≡ old = inner_seat (sym there ∙ ap (slice_get w.seats) here ∙ is) in (
          later,
          ap (slice_get (slice_set w.seats place later)) here ∙ get_set w.seats place old later is,
          seat_so place old later key becomes (subst (λ (x : Seat). EndHas key x.server) same has),
        )
    | inr other ↦ (s, set_other w.seats place (place_of key) later other ∙ there, has)
  ]
  once_so w _ key (by_sending m delivered) has = has
  once_so w _ key (by_message place m later is becomes) has = has
  once_so w _ key (by_name name named free) has = has

  goes_so : (w v : World) (key : ObjectKey) → WorldGoesOn w v → HasSeat w key → HasSeat v key
  goes_so w _ key still has = has
  goes_so w _ key (further between later before last) has = once_so between later key last (goes_so w between key before has)

  stays_at : StaysAt P
  stays_at event deed w key is at =
      at_seat (carried_out deed w).world key (goes_so w (carried_out deed w).world key (deeds_are_changes event deed w is) (seated w key at))

-- a state that no word changes, and that is closed
state_follows : (fixed : State) → ((word : Word) → (row word fixed).next ≡ None) → (word : Word) (s next : State) → s ≡ fixed → (row word s).next ≡ Some next
    → next ≡ fixed
state_follows fixed none word s next so is = absurd (no_state (sym (ap (λ (x : State). (row word x).next) so ∙ none word) ∙ is))

state_closed : (fixed : State) → (closed_by fixed ≡ None → ⊥) → (s : State) → s ≡ fixed → closed_by s ≡ None → ⊥
state_closed fixed never s so is = never (ap closed_by (sym so) ∙ is)

pub resources_stay : ResourcesStay
resources_stay = record {
  stored = stays_at (λ (s : State). s ≡ states.Applied) (state_closed states.Applied none_open) (state_follows states.Applied still_applied);
  dropped = stays_at (λ (s : State). s ≡ states.Undone) (state_closed states.Undone none_open) (state_follows states.Undone still_undone);
  over = stays_at IsOver over_closed over_row;
}
