-- What a script does with a resource, and what a resource does by a word.
use Rattle.std.proofs.Common.{◌≡◌, ℕ, Bool, true, false, cond, eqb, List, [], ◌∷◌, map, find, slice_get, Option, Some, None, Result, Ok, Err, refl, sym, ap, subst, ◌∙◌, arith, length-append}
use Rattle.std.specs.Prelude.{◌==◌, codes, OnOk}
use Rattle.std.specs.Option.{option_and_then}
use Rattle.std.proofs.lemmas.Bool.Decides.{eqb_tells}
use Rattle.std.proofs.lemmas.Option.{same_Some, slice_get-map}
use Rattle.ior_refs.specs.declared.key.ObjectKey.{ObjectKey}
use Rattle.ots_model.specs.declared.line.Line.TheVariants as lines
use Rattle.ots_model.specs.declared.line.ResourceState.{ResourceState}
use Rattle.ots_world.specs.declared.fault.WorldFault.{WorldFault}
use Rattle.resource_end.specs.declared.state.Row.{Row}
use Rattle.resource_end.specs.declared.state.State.{State as Stage}
use Rattle.coordinator.specs.declared.said.Said.{Said}
use Rattle.nodes_world.specs.Ends.{answer_of_row, answers, closed_by, does_by, moves, obeys_row, put_into, puts, refuses_to, refusing, shown_state, state_lines, with_end, with_resource, with_resource_at}
use Rattle.nodes_world.specs.Happenings.{◌▹◌, changes, nothing, replies}
use Rattle.nodes_world.specs.Objects.{place_of}
use Rattle.nodes_world.specs.Told.{Known}
use Rattle.nodes_world.specs.World.{FlatEnd, FlatResource, NamedKey, World, end_at, end_in, has_number, resource_at}
use Rattle.nodes_world.specs.World as world
use Rattle.nodes_world.specs.declared.message.Message.{Message}
use Rattle.nodes_world.specs.declared.thing.Thing.{Thing}
use Rattle.nodes_parts.specs.Kept.{resource_numbered}
use Rattle.nodes_state.specs.Does.{BreaksOff, Does, StaysSo}
use Rattle.nodes_ends.specs.Ending.{HasResource, HasThere, IsRefused, KeepsNodes, with_end_in}
use Rattle.nodes_ends.proofs.EndChanged.{end_changed}
use Rattle.nodes_state.specs.Shown.{shown}
use Rattle.nodes_state.specs.declared.state.State.{State}
use Rattle.std.specs.Global.{Vec}
use Rattle.nodes_state.specs.Seated.{seat_of}
use Rattle.nodes_state.specs.declared.seats.Seat.{Seat}
use Rattle.nodes_state.specs.declared.seats.Server.{Server}
use Rattle.nodes_state.specs.declared.seats.Server.TheVariants as servers
use Rattle.nodes_state.specs.Telling.{Tells}
use Rattle.nodes_state.proofs.Doing.{Grows, breaks_first, does_then, tells_none}

-- ---- by a script

module _ (key : ObjectKey) (w v : World) (before after : List ℕ) where
  by_open : (word : List ℕ) (r later : FlatResource) → closed_by r.state ≡ None → v ≡ with_end (place_of key) (with_resource later) w → after ≡ before
      → Does (does_by (closed_by r.state) word key later w) v before after (Ok tt)
  unfolding with_resource_at
  by_open word r later opened is same =
      subst (λ (o : Option Said). Does (does_by o word key later w) v before after (Ok tt)) (sym opened) (is, same ∙ tells_none before)

  by_refusal : (word : List ℕ) (f : FlatResource → FlatResource) (o : Option FlatResource) → v ≡ w → IsRefused word o before after
      → Does (elim o [ Some r ↦ does_by (closed_by r.state) word key (f r) w | None ↦ nothing w ]) v before after (Ok tt)
  by_refusal word f None same none = (same, none ∙ tells_none before)
  by_refusal word f (Some r) same told =
      subst (λ (o : Option Said). Does (does_by o word key (f r) w) v before after (Ok tt)) (sym told.1) (same, told.2)

  pub put_open : (cell value : ℕ) (r : FlatResource) → resource_at w key ≡ Some r → closed_by r.state ≡ None
      → v ≡ with_end (place_of key) (with_resource (put_into cell value r)) w → after ≡ before → Does (puts key cell value w) v before after (Ok tt)
  unfolding puts
  put_open cell value r there opened is same =
      subst (λ (o : Option FlatResource). Does (elim o [
        | Some x ↦ does_by (closed_by x.state) (codes "put") key (put_into cell value x) w
        | None ↦ nothing w
      ]) v before after (Ok tt)) (sym there) (by_open (codes "put") r (put_into cell value r) opened is same)

  pub put_refused : (cell value : ℕ) → v ≡ w → IsRefused (codes "put") (resource_at w key) before after → Does (puts key cell value w) v before after (Ok tt)
  unfolding puts
  put_refused cell value same told = by_refusal (codes "put") (put_into cell value) (resource_at w key) same told

  pub refuse_open : (r : FlatResource) → resource_at w key ≡ Some r → closed_by r.state ≡ None
      → v ≡ with_end (place_of key) (with_resource (refusing r)) w → after ≡ before → Does (refuses_to key w) v before after (Ok tt)
  unfolding refuses_to
  refuse_open r there opened is same =
      subst (λ (o : Option FlatResource). Does (elim o [
        | Some x ↦ does_by (closed_by x.state) (codes "refuse") key (refusing x) w
        | None ↦ nothing w
      ]) v before after (Ok tt)) (sym there) (by_open (codes "refuse") r (refusing r) opened is same)

  pub refuse_refused : v ≡ w → IsRefused (codes "refuse") (resource_at w key) before after → Does (refuses_to key w) v before after (Ok tt)
  unfolding refuses_to
  refuse_refused same told = by_refusal (codes "refuse") refusing (resource_at w key) same told

-- ---- by a word

pub reply_grows : (request : ℕ) (answer : Said) → Grows (replies request answer)
unfolding replies
reply_grows request answer = λ w. omega (arith, length-append w.messages)

pub answer_grows : (request : ℕ) (o : Option Said) → Grows (answers request o)
answer_grows request (Some answer) = reply_grows request answer
answer_grows request None = λ w. omega arith

module _ (request : ℕ) (w u : World) (before after : List ℕ) (result : Result (Unit {0}) WorldFault) where
  answered : (o : Option Said) (answer : Said) → o ≡ Some answer → Does (replies request answer w) u before after result
      → Does (answers request o w) u before after result
  answered o answer e d = subst (λ (x : Option Said). Does (answers request x w) u before after result) (sym e) d

-- a resource has moved, or not, and then it answers, or not
module _ (request : ℕ) (named : NamedKey) (r : FlatResource) (by : Row) (w : World) (before : List ℕ) where
  pub row_answered : (o : Option Stage) (answer : Said) (v u : World) (mid after : List ℕ) (result : Result (Unit {0}) WorldFault) → by.next ≡ o
      → v ≡ (moves named r o w).world → Tells (moves named r o w).lines before mid
      → answer_of_row by.said ≡ Some answer → Does (replies request answer v) u mid after result → Does (obeys_row request named r by w) u before after result
  row_answered o answer v u mid after result e is told says d =
      does_then (moves named r by.next w) (answers request (answer_of_row by.said)) v u before mid after result
      (is ∙ ap (λ (x : Option Stage). (moves named r x w).world) (sym e))
      (subst (λ (x : Option Stage). Tells (moves named r x w).lines before mid) (sym e) told)
      (answered request v u mid after result (answer_of_row by.said) answer says d)

  pub row_broken : (s : Stage) (fault : WorldFault) (after : List ℕ) → by.next ≡ Some s
      → BreaksOff (moves named r (Some s) w) fault before after → BreaksOff (obeys_row request named r by w) fault before after
  row_broken s fault after e b =
      breaks_first (moves named r by.next w) (answers request (answer_of_row by.said)) fault before after (answer_grows request (answer_of_row by.said))
      (subst (λ (x : Option Stage). BreaksOff (moves named r x w) fault before after) (sym e) b)

-- a resource comes into a state
module _ (named : NamedKey) (r : FlatResource) (s : Stage) (w v : World) (before after : List ℕ) where
  shows : (x : World) (o : Option ResourceState) (shown : ResourceState) → o ≡ Some shown → Tells (Known (lines.State named.name shown) ∷ []) before after
      → Does (changes x ▹ state_lines named.name o) x before after (Ok tt)
  shows x o shown e told =
      subst (λ (y : Option ResourceState). Does (changes x ▹ state_lines named.name y) x before after (Ok tt)) (sym e) (refl, told)

  shows_none : (x : World) (o : Option ResourceState) → o ≡ None → after ≡ before → Does (changes x ▹ state_lines named.name o) x before after (Ok tt)
  shows_none x o e same =
      subst (λ (y : Option ResourceState). Does (changes x ▹ state_lines named.name y) x before after (Ok tt)) (sym e) (refl, same ∙ tells_none before)

  pub moved_shown : (shown : ResourceState) → shown_state s ≡ Some shown → v ≡ with_end (place_of named.key) (with_resource (record r { state = s })) w
      → Tells (Known (lines.State named.name shown) ∷ []) before after → Does (moves named r (Some s) w) v before after (Ok tt)
  unfolding with_resource_at
  moved_shown shown e is told =
      let d = shows (with_resource_at named.key (record r { state = s }) w) (shown_state s) shown e told in
      (is ∙ d.0, d.1)

  pub moved_unshown : shown_state s ≡ None → v ≡ with_end (place_of named.key) (with_resource (record r { state = s })) w
      → after ≡ before → Does (moves named r (Some s) w) v before after (Ok tt)
  unfolding with_resource_at
  moved_unshown e is same =
      let d = shows_none (with_resource_at named.key (record r { state = s }) w) (shown_state s) e same in
      (is ∙ d.0, d.1)

-- ---- a resource of an end is there by its number

eqb_is : (a b : ℕ) → eqb a b ≡ true → a ≡ b
eqb_is a b t = grind (arith, eqb_tells)

number_is : (rs : List FlatResource) (n : ℕ) (r : FlatResource) → find (λ (x : FlatResource). x.key.generation == n) rs ≡ Some r → r.key.generation ≡ n
number_is [] n r e = absurd cc
number_is (x ∷ rs) n r e = by_test (eqb x.key.generation n) refl (number_is rs n r)
  where
    by_test : (b : Bool) → eqb x.key.generation n ≡ b → (find (λ (y : FlatResource). y.key.generation == n) rs ≡ Some r → r.key.generation ≡ n) → r.key.generation ≡ n
    by_test true t others =
        let same : x ≡ r = same_Some x r (sym (ap (λ c. cond c (Some x) (find (λ (y : FlatResource). y.key.generation == n) rs)) t) ∙ e) in
        ap (λ (y : FlatResource). y.key.generation) (sym same) ∙ eqb_is x.key.generation n t
    by_test false t others = others (sym (ap (λ c. cond c (Some x) (find (λ (y : FlatResource). y.key.generation == n) rs)) t) ∙ e)

-- the end at a place has the resource that a key finds there
pub has_resource : (seats : List Seat) (messages : List Message) (names : List (List ℕ × Thing)) (key : ObjectKey) (r : FlatResource)
    → resource_at (record { seats = map seat_of seats; messages = messages; names = names }) key ≡ Some r → HasResource seats (place_of key) r
unfolding resource_at end_at
has_resource seats messages names key r found s there = by_server s.server s there
  where
    by_server : (v : Server) (x : Seat) → slice_get seats (place_of key) ≡ Some (record x { server = v }) → HasThere r v
    by_server (servers.Up y) x e = tt
    by_server (servers.Down y) x e = tt
    by_server (servers.End y) x e =
        let at : slice_get (map seat_of seats) (place_of key) ≡ Some (seat_of (record x { server = servers.End y })) =
        slice_get-map seat_of seats (place_of key) ∙ ap (λ o. elim o [ Some z ↦ Some (seat_of z) | None ↦ None ]) e in
        let is : find (has_number key) y.resources ≡ Some r =
        sym (ap (λ o. option_and_then (λ (z : FlatEnd). find (has_number key) z.resources) (option_and_then (λ (z : world.Seat). end_in z.server) o)) at) ∙ found in
        ap (λ n. resource_numbered n y) (number_is y.resources key.generation r is) ∙ is

-- the same where the place was worked out
pub has_at : (s : State) (key : ObjectKey) (p : ℕ) (r : FlatResource) → p ≡ place_of key → resource_at (shown s) key ≡ Some r → HasResource s.seats.items p r
has_at s key p r e found = subst (λ k. HasResource s.seats.items k r) (sym e) (has_resource s.seats.items s.messages s.names.things key r found)

-- the world is changed as the seats are
pub world_changed : (s : State) (items : List Seat) (p : ℕ) (key : ObjectKey) (change : FlatEnd → FlatEnd) → p ≡ place_of key
    → items ≡ with_end_in p change s.seats.items
    → record { seats = map seat_of items; messages = s.messages; names = s.names.things } ≡ with_end (place_of key) change (shown s)
world_changed s items p key change e is =
    ap (λ (xs : List Seat). record { seats = map seat_of xs; messages = s.messages; names = s.names.things }) is
    ∙ end_changed s.seats.items s.messages s.names.things p change ∙ ap (λ k. with_end k change (shown s)) e

pub keeps_then : (a b c : State) → KeepsNodes a b → StaysSo b c → KeepsNodes a c
keeps_then a b c k s = record {
  names = s.names ∙ k.names;
  seat_names = ap (λ (v : Vec Seat). map (λ (x : Seat). x.name) v.items) s.seats ∙ k.seat_names;
  seats = λ p t e. k.seats p t (ap (λ (v : Vec Seat). slice_get v.items p) (sym s.seats) ∙ e);
}

pub on_ok : {T E : Type 0} (result : Result T E) (P : Type 0) → P → OnOk result P
on_ok (Ok x) P p = p
on_ok (Err fault) P p = tt
