-- A tick of a node, in the world.
use Rattle.std.proofs.Common.{◌≡◌, ℕ, zero, suc, ◌+◌, ◌<◌, ◌≤◌, min, List, [], ◌∷◌, ◌++◌, length, map, filter_map, drop, get_or, slice_get, Contains, Option, Some, None, Result, Ok, Err, refl, sym, ap, subst, ◌∙◌, arith, append_assoc, length-append}
use Rattle.std.specs.Option.{option_and_then}
use Rattle.std.specs.Result.{OnOk}
use Rattle.std.proofs.lemmas.List.{at_drop_all, length-map}
use Rattle.ots_model.specs.declared.tree.Outward.{Outward}
use Rattle.ots_outside.specs.Disk.{DiskState}
use Rattle.ots_world.specs.declared.fault.WorldFault.{WorldFault}
use Rattle.coordinator.specs.Family.{Family}
use Rattle.coordinator.specs.Limits.{last_moment}
use Rattle.coordinator.specs.Node.{Node, family_of}
use Rattle.coordinator.specs.NodeTick as clock
use Rattle.coordinator.specs.NodeTick.{Happening, Ticked}
use Rattle.family_laws.specs.LawsOfTelling.{FamiliesNumberWords}
use Rattle.family_laws.specs.SoundNode.{IsSoundNode}
use Rattle.service_node.specs.Ticking.{told, words_in}
use Rattle.service_node.specs.declared.passing.Happening.{Happening as ToldHappening}
use Rattle.nodes_lives.specs.Living.{Living}
use Rattle.nodes_lives.specs.Ticking.{HasTicked}
use Rattle.nodes_lives.specs.declared.ticking.Ticked.{Ticked as LiveTicked}
use Rattle.nodes_parts.specs.Naming.{Names}
use Rattle.nodes_world.specs.declared.thing.Thing.{Thing}
use Rattle.nodes_world.specs.Happenings.{Done, ◌▹◌, all_effect_lines, all_finished_lines, cast_of, nothing, requests, requests_all, tells}
use Rattle.nodes_world.specs.Limits.{seat_limit}
use Rattle.nodes_world.specs.Objects.{place_of, service_at}
use Rattle.nodes_world.specs.Lives.{ticks, ticks_seat, ticks_to}
use Rattle.nodes_world.specs.Nodes.{happens, happens_all, ticks_node}
use Rattle.nodes_world.specs.Told.{Told}
use Rattle.nodes_world.specs.World.{OfNode, Seat, Server, World, node_at, node_in, resource_in, with_clock, with_seat, with_server}
use Rattle.nodes_state.specs.Does.{BreaksOff, Does, StaysSo}
use Rattle.nodes_state.specs.Seated.{disk_of, seat_of, server_of}
use Rattle.nodes_state.specs.Shown.{shown}
use Rattle.nodes_state.specs.declared.seats.Seat.{Seat as KeptSeat}
use Rattle.nodes_state.specs.declared.seats.Server.{Server as Kept}
use Rattle.nodes_state.specs.declared.seats.Server.TheVariants as servers
use Rattle.nodes_state.specs.declared.state.State.{State}
use Rattle.nodes_state.specs.Telling.{Tells, TellsPart, TellsSome}
use Rattle.nodes_state.proofs.Doing.{Grows, does_then, part_first, tells_part_then, tells_then}
use Rattle.nodes_state.proofs.Named.{names_stay}
use Rattle.nodes_state.proofs.Progress.{IsDoing, doing_breaks, doing_goes_on}
use Rattle.nodes_seats.specs.Ticking.{AreBySlot, HasTickedAt, IsNext, clock_after, happening_lines, tells_tick}
use Rattle.nodes_seats.specs.Waiting.{waiting_words}
use Rattle.nodes_seats.specs.Whole.{IsServed, IsWhole}
use Rattle.nodes_seats.specs.declared.ticking.Due.{Due}
use Rattle.nodes_seats.specs.declared.waiting.Waiting.{Waiting}
use Rattle.nodes_seats.proofs.BySlot.{by_slot, words_more}
use Rattle.nodes_seats.proofs.Changing.{get_set, on_seat_there, set_twice}

-- ---- at a seat

pub ticks_none : (place seconds : ℕ) (w : World) → slice_get w.seats place ≡ None → ticks place seconds w ≡ nothing w
unfolding ticks
ticks_none place seconds w none = ap (λ (o : Option Seat). elim o as (λ _. Done) [ Some x ↦ ticks_seat place seconds x w | None ↦ nothing w ]) none

module _ (place seconds : ℕ) (w : World) (s : Seat) (there : slice_get w.seats place ≡ Some s) where
  ticks_there : ticks place seconds w ≡ ticks_to place (clock_after seconds s) (node_in s.server) w
  unfolding ticks
  ticks_there = ap (λ (o : Option Seat). elim o as (λ _. Done) [ Some x ↦ ticks_seat place seconds x w | None ↦ nothing w ]) there

  clock_there : (n : ℕ) → with_clock place n w ≡ with_seat place (record s { clock = n }) w
  clock_there n = on_seat_there place (λ (x : Seat). record x { clock = n }) w s there

  -- no node is up
  pub clock_only : node_in s.server ≡ None → ticks place seconds w ≡ nothing (with_seat place (record s { clock = clock_after seconds s }) w)
  clock_only none =
      ticks_there ∙ ap (λ (o : Option Node). ticks_to place (clock_after seconds s) o w) none
      ∙ ap (λ (v : World). nothing v) (clock_there (clock_after seconds s))

  -- time passes for the node
  server_later : (n : ℕ) (server : Server) → with_server place server (with_clock place n w) ≡ with_seat place (record s { clock = n; server = server }) w
  server_later n server =
      let first : Seat = record s { clock = n } in
      ap (λ (v : World). with_server place server v) (clock_there n)
      ∙ on_seat_there place (λ (x : Seat). record x { server = server }) (with_seat place first w) first (get_set w.seats place s first there)
      ∙ ap (λ (ys : List Seat). record w { seats = ys }) (set_twice w.seats place first (record first { server = server }))

  ticked_so : (n : ℕ) (node : Node) (v : World) → ticks_node place n node v
      ≡ tells_tick place (clock.ticks n node).node (clock.ticks n node).happened (clock.ticks n node).words (with_server place (OfNode (Some (clock.ticks n node).node)) v)
  unfolding ticks_node
  ticked_so n node v = refl

  pub node_ticked : (node : Node) → node_in s.server ≡ Some node
      → (let t : Ticked = clock.ticks (clock_after seconds s) node in
      ticks place seconds w ≡ tells_tick place t.node t.happened t.words (with_seat place (record s { clock = clock_after seconds s; server = OfNode (Some t.node) }) w))
  node_ticked node up =
      let t : Ticked = clock.ticks (clock_after seconds s) node in
      ticks_there ∙ ap (λ (o : Option Node). ticks_to place (clock_after seconds s) o w) up
      ∙ ticked_so (clock_after seconds s) node (with_clock place (clock_after seconds s) w)
      ∙ ap (λ (v : World). tells_tick place t.node t.happened t.words v) (server_later (clock_after seconds s) (OfNode (Some t.node)))

-- ---- what happened, family by family

request_grows : (place : ℕ) (o : Outward) → Grows (requests place o)
unfolding requests
request_grows place o = λ w. omega (arith, length-append w.messages)

pub requests_grow : (place : ℕ) (words : List Outward) → Grows (requests_all place words)
requests_grow place [] = λ w. omega arith
requests_grow place (o ∷ words) = λ w.
    let first = request_grows place o w in
    let others = requests_grow place words (requests place o w).world in
    omega arith

all_grow : (place : ℕ) (later : Node) (happened : List Happening) → Grows (happens_all place later happened)
all_grow place later [] = λ w. omega arith
all_grow place later (h ∷ happened) = λ w.
    let first = requests_grow place h.words w in
    let others = all_grow place later happened (happens place later h w).world in
    omega arith

pub tick_grows : (place : ℕ) (later : Node) (happened : List Happening) (words : List Outward) → Grows (tells_tick place later happened words)
tick_grows place later happened words = λ w.
    let first = all_grow place later happened w in
    let others = requests_grow place words (happens_all place later happened w).world in
    omega arith

-- one family, and then the others
pub tick_splits : (place : ℕ) (later : Node) (h : Happening) (others : List Happening) (words : List Outward) (w : World)
    → tells_tick place later (h ∷ others) words w ≡ (happens place later h w ▹ tells_tick place later others words)
tick_splits place later h others words w =
    let v : World = (happens place later h w).world in
    let u : World = (happens_all place later others v).world in
    ap (λ (ls : List Told). record { world = (requests_all place words u).world; lines = ls })
    (append_assoc (happens place later h w).lines (happens_all place later others v).lines (requests_all place words u).lines)

-- its lines, and then its words
pub happened_so : (place : ℕ) (later : Node) (h : Happening) (happening : ToldHappening) (w v : World) (before mid after : List ℕ) (result : Result (Unit {0}) WorldFault)
    → told h ≡ happening → Tells (happening_lines w later happening) before mid → Does (requests_all place h.words w) v mid after result
    → Does (happens place later h w) v before after result
happened_so place later h happening w v before mid after result same lines words =
    does_then (tells (happening_lines w later (told h)) w) (requests_all place h.words) w v before mid after result refl
    (subst (λ (x : ToldHappening). Tells (happening_lines w later x) before mid) (sym same) lines) words

pub half_happened : (place : ℕ) (later : Node) (h : Happening) (happening : ToldHappening) (w : World) (before after : List ℕ)
    → told h ≡ happening → TellsPart (happening_lines w later happening) before after → TellsPart (happens place later h w).lines before after
half_happened place later h happening w before after same lines =
    part_first (happening_lines w later (told h)) (requests_all place h.words w).lines before after
    (subst (λ (x : ToldHappening). TellsPart (happening_lines w later x) before after) (sym same) lines)

-- ---- some families were passed

-- these are still to be told, and their words wait
pub record IsPassing (t : Ticked) (place : ℕ) (first : World) (before : List ℕ) (rest : List Happening) (words : List Outward) (w : World) (now : List ℕ) : Type 0 where
  pub doing : IsDoing (tells_tick place t.node t.happened t.words first) before (tells_tick place t.node rest t.words w) now
  pub words_are : words ≡ words_in rest ++ t.words
  pub by_slot : AreBySlot rest t.words

-- the next one of these
pub record IsAt (all : List Happening) (i : ℕ) (item : ToldHappening) : Type 0 where
  pub happening : Happening
  pub told_so : told happening ≡ item
  pub splits : drop i all ≡ happening ∷ drop (i + 1) all

pub at_index : (all : List Happening) (i : ℕ) (d : ToldHappening) → i < length (map told all) → IsAt all i (get_or (map told all) i d)
at_index [] i d less = absurd (omega arith)
at_index (h ∷ all) zero d less = record { happening = h; told_so = refl; splits = refl }
at_index (h ∷ all) (suc i) d less =
    let r = at_index all i d (omega arith) in
    let e : suc i + 1 ≡ suc (i + 1) = omega arith in
    record {
      happening = r.happening;
      told_so = r.told_so;
      splits = r.splits ∙ ap (λ n. r.happening ∷ drop n (h ∷ all)) (sym e);
    }

module _ (t : Ticked) (place : ℕ) (first : World) (before : List ℕ) (i : ℕ) (item : ToldHappening) (words : Waiting) (w : World) (now : List ℕ)
    (at : IsAt t.happened i item) (passing : IsPassing t place first before (drop i t.happened) (waiting_words words) w now) where
  here : IsPassing t place first before (at.happening ∷ drop (i + 1) t.happened) (waiting_words words) w now
  here = subst (λ rest. IsPassing t place first before rest (waiting_words words) w now) at.splits passing

  pub left : List Outward
  left = words_in (drop (i + 1) t.happened) ++ t.words

  pub next_is : IsNext at.happening left item words
  unfolding left
  next_is = record {
    told_so = at.told_so;
    split = record {
      words = here.words_are ∙ words_more at.happening (drop (i + 1) t.happened) t.words;
      all_own = here.by_slot.0;
      others = here.by_slot.1;
    };
  }

  doing_next : IsDoing (tells_tick place t.node t.happened t.words first) before (happens place t.node at.happening w ▹ tells_tick place t.node (drop (i + 1) t.happened) t.words) now
  doing_next = subst (λ (d : Done). IsDoing (tells_tick place t.node t.happened t.words first) before d now)
      (tick_splits place t.node at.happening (drop (i + 1) t.happened) t.words w) here.doing

  pub passes_on : (more : Waiting) (v : World) (later : List ℕ) → Does (happens place t.node at.happening w) v now later (Ok tt) → waiting_words more ≡ left
      → IsPassing t place first before (drop (i + 1) t.happened) (waiting_words more) v later
  unfolding left
  passes_on more v later does same = record {
    doing = doing_goes_on (tells_tick place t.node t.happened t.words first) (happens place t.node at.happening w)
        (tells_tick place t.node (drop (i + 1) t.happened) t.words) v before now later doing_next does.0 does.1;
    words_are = same;
    by_slot = here.by_slot.2;
  }

  pub passing_breaks : (fault : WorldFault) (later : List ℕ) → BreaksOff (happens place t.node at.happening w) fault now later
      → BreaksOff (tells_tick place t.node t.happened t.words first) fault before later
  passing_breaks fault later broken =
      doing_breaks (tells_tick place t.node t.happened t.words first) (happens place t.node at.happening w)
      (tells_tick place t.node (drop (i + 1) t.happened) t.words) fault before now later doing_next
      (tick_grows place t.node (drop (i + 1) t.happened) t.words) broken

-- all were passed, and the words that are told again go out
pub passing_ends : (t : Ticked) (place : ℕ) (first : World) (before : List ℕ) (i : ℕ) (words : Waiting) (w : World) (now : List ℕ)
    → length (map told t.happened) ≤ i → IsPassing t place first before (drop i t.happened) (waiting_words words) w now
    → (v : World) (after : List ℕ) (result : Result (Unit {0}) WorldFault) → Does (requests_all place (waiting_words words) w) v now after result
    → Does (tells_tick place t.node t.happened t.words first) v before after result
passing_ends t place first before i words w now past passing v after result does =
    let many : length (map told t.happened) ≡ length t.happened = length-map t.happened told in
    let ended : IsPassing t place first before [] (waiting_words words) w now =
    subst (λ rest. IsPassing t place first before rest (waiting_words words) w now) (at_drop_all (λ (ys : List Happening). ys) t.happened i (omega arith)) passing in
    ended.doing.goes v after result (subst (λ ws. Does (requests_all place ws w) v now after result) ended.words_are does)

-- ---- one family

pub happening_there : (w : World) (later : Node) (h : ToldHappening) (f : Family) → family_of h.key later ≡ Some f
    → happening_lines w later h ≡ all_effect_lines w (cast_of f) h.effects ++ all_finished_lines f.entries h.finished
happening_there w later h f there =
    ap (λ (o : Option Family). elim o as (λ _. List Told) [
      | Some x ↦ all_effect_lines w (cast_of x) h.effects ++ all_finished_lines x.entries h.finished
      | None ↦ []
    ]) there

pub some_then : {E : Type 0} (some more : List Told) (before mid after : List ℕ) (result : Result (Unit {0}) E) → Tells some before mid → TellsSome more mid after result
    → TellsSome (some ++ more) before after result
some_then some more before mid after (Ok u) first rest = tells_then some more before mid after first rest
some_then some more before mid after (Err fault) first rest = tells_part_then some more before mid after first rest

-- ---- the node at a seat

service_stays : (now : ℕ) (n : Node) → (clock.ticks now n).node.service ≡ n.service
unfolding clock.ticks
service_stays now n = refl

pub still_served : (now place : ℕ) (old new : Kept) (n : Living) (t : LiveTicked) → old ≡ servers.Up n → new ≡ servers.Up t.node → HasTicked now n t
    → IsServed place old → IsServed place new
still_served now place old new n t was is ticked served =
    let before : n.node.service ≡ service_at place = subst (λ (v : Kept). IsServed place v) was served in
    let after : t.node.node.service ≡ service_at place = ap (λ (x : Node). x.service) ticked.node ∙ service_stays now n.node ∙ before in
    subst (λ (v : Kept). IsServed place v) (sym is) after

pub ticked_at : (seconds now : ℕ) (old new : KeptSeat) (n : Living) (t : LiveTicked) (due : Due) → FamiliesNumberWords → IsSoundNode n.node
    → old.server ≡ servers.Up n → now ≡ min (old.clock + seconds) last_moment → HasTicked now n t → new ≡ record old { clock = now; server = servers.Up t.node }
    → due.happened ≡ t.happened → due.words.words ≡ t.words.words → HasTickedAt seconds (seat_of old) (seat_of new) due
ticked_at seconds now old new n t due law sound was e ticked same happened words =
    let at : ℕ = clock_after seconds (seat_of old) in
    let is : HasTicked at n t = subst (λ (k : ℕ). HasTicked k n t) e ticked in
    record {
      node = n.node;
      up = ap (λ (v : Kept). node_in (server_of v)) was;
      later = ap seat_of (same ∙ ap (λ (k : ℕ). record old { clock = k; server = servers.Up t.node }) e)
          ∙ ap (λ (d : DiskState). record (seat_of old) { clock = at; disk = d; server = OfNode (Some t.node.node) }) (is.disk ∙ sym (ap (λ (v : Kept). disk_of v) was))
          ∙ ap (λ (x : Node). record (seat_of old) { clock = at; server = OfNode (Some x) }) is.node;
      tells = record {
        happened_is = happened ∙ is.happened;
        words_are = words ∙ is.words;
        by_slot = by_slot law at n.node sound;
      };
    }

-- ---- a state of which seats and names stay

pub node_stays : (old new : State) (place : ℕ) → StaysSo old new → node_at (shown new) place ≡ node_at (shown old) place
unfolding node_at
node_stays old new place same =
    ap (λ v. option_and_then (λ (s : Seat). node_in s.server) (slice_get (map seat_of v.items) place)) same.seats

pub whole_stays : (old new : State) → StaysSo old new → IsWhole old → IsWhole new
whole_stays old new same whole = record {
  few = subst (λ v. length v.items ≤ seat_limit) (sym same.seats) whole.few;
  served = λ place seat is. whole.served place seat (sym (ap (λ v. slice_get v.items place) same.seats) ∙ is);
  names = names_stay old new same whole.names;
  placed = λ r c. subst (λ v. place_of r.key < length (map seat_of v.items)) (sym same.seats)
      (whole.placed r (subst (λ (n : Names). Contains (filter_map (λ (entry : List ℕ × Thing). resource_in entry.0 entry.1) n.things) r) same.names c));
}

pub on_ok : (r : Result (Unit {0}) WorldFault) (P : Type 0) → P → OnOk r P
on_ok (Ok u) P p = p
on_ok (Err fault) P p = tt
