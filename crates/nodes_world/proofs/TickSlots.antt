-- Time passes for the families of a node, one slot after another: what is known stays known, where each step of a family keeps it.
use Rattle.std.proofs.Common.{◌≡◌, ℕ, zero, suc, Bool, true, false, cond, IsTrue, List, [], ◌∷◌, ◌++◌, length, map, filter_map, slice_get, slice_set, Option, Some, None, refl, sym, ap, subst, ◌∙◌, append-nil, append_assoc}
use Rattle.std.specs.List.{cons_option}
use Rattle.std.specs.Option.{option_and_then}
use Rattle.ior_refs.specs.declared.key.ObjectKey.{ObjectKey}
use Rattle.coordinator.specs.declared.effect.Effect.{Effect}
use Rattle.coordinator.specs.declared.said.Finished.{Finished}
use Rattle.coordinator.specs.Family.{Family}
use Rattle.coordinator.specs.History.{has_room}
use Rattle.coordinator.specs.Node.{Node, family_in, family_of, is_of, only_of, with_family}
use Rattle.coordinator.specs.NodeTick.{Happening, happening, happens_in, tick_at, tick_of, ticked}
use Rattle.coordinator.specs.Step.{Stepped, acted, entered, family_step, is_silent, quiet}
use Rattle.coordinator.specs.declared.said.Said.TheVariants as said
use Rattle.family_laws.specs.LawsOfTelling.{FamiliesNumberWords}
use Rattle.nodes_world.specs.AgreementInside.{Known}
use Rattle.nodes_world.specs.Happenings.{Done, after, all_effect_lines, all_finished_lines, cast_of, nothing, requests_all}
use Rattle.nodes_world.specs.Nodes.{happens, happens_all}
use Rattle.nodes_world.specs.Told.{Told}
use Rattle.nodes_world.specs.World.{World, Seat, OfNode, with_seat}
use Rattle.nodes_world.proofs.Going.{get_set}
use Rattle.nodes_world.proofs.KnownFamilies.{is_own}
use Rattle.nodes_world.proofs.KnownWorlds.{node_there}
use Rattle.nodes_world.proofs.SeatSwaps.{HasName, happens_swap, requests_seats, requests_swap, swapped}

-- ---- one element of a list

pub set_same : {A : Type 0} (xs : List A) (i : ℕ) (x : A) → slice_get xs i ≡ Some x → slice_set xs i x ≡ xs
set_same [] i x there = refl
set_same (z ∷ xs) zero x there = ap (λ y. y ∷ xs) (sym (inner there))
  where
    inner : {A : Type 0} {x y : A} → Some x ≡ Some y → x ≡ y
    inner e = cc
set_same (z ∷ xs) (suc i) x there = ap (λ ys. z ∷ ys) (set_same xs i x there)

pub set_twice : {A : Type 0} (xs : List A) (i : ℕ) (x y : A) → slice_set (slice_set xs i x) i y ≡ slice_set xs i y
set_twice [] i x y = refl
set_twice (z ∷ xs) zero x y = refl
set_twice (z ∷ xs) (suc i) x y = ap (λ ys. z ∷ ys) (set_twice xs i x y)

get_middle : {A : Type 0} (xs ys : List A) (y : A) → slice_get (xs ++ y ∷ ys) (length xs) ≡ Some y
get_middle [] ys y = refl
get_middle (x ∷ xs) ys y = get_middle xs ys y

set_middle : {A : Type 0} (xs ys : List A) (y z : A) → slice_set (xs ++ y ∷ ys) (length xs) z ≡ xs ++ z ∷ ys
set_middle [] ys y z = refl
set_middle (x ∷ xs) ys y z = ap (λ zs. x ∷ zs) (set_middle xs ys y z)

map_length : {A B : Type 0} (f : A → B) (xs : List A) → length (map f xs) ≡ length xs
map_length f [] = refl
map_length f (x ∷ xs) = ap suc (map_length f xs)

map_shift : {A B : Type 0} (f : A → B) (xs : List A) (x : A) (ys : List B) → map f (xs ++ x ∷ []) ++ ys ≡ map f xs ++ f x ∷ ys
map_shift f [] x ys = refl
map_shift f (z ∷ xs) x ys = ap (λ zs. f z ∷ zs) (map_shift f xs x ys)

map_middle : {A B : Type 0} (f : A → B) (xs : List A) (x : A) (ys : List A) → map f (xs ++ x ∷ ys) ≡ map f xs ++ f x ∷ map f ys
map_middle f [] x ys = refl
map_middle f (z ∷ xs) x ys = ap (λ zs. f z ∷ zs) (map_middle f xs x ys)

-- ---- a tick of one family

-- one that is silent stays as it is
silent_step : (now : ℕ) (f : Family) → is_silent (tick_at now) f ≡ true → family_step f (tick_at now) None ≡ quiet said.Plain f
unfolding family_step
silent_step now f silent =
    ap (λ (b : Bool). cond b (quiet said.Plain f) (entered f (tick_at now) None (acted (tick_at now) None f))) silent

silent_stays : (now : ℕ) (f : Family) → is_silent (tick_at now) f ≡ true → (tick_of now f).family ≡ f
silent_stays now f silent = by (has_room f.entries (tick_at now))
  where
    by : (b : Bool) → (cond b (family_step f (tick_at now) None) (quiet said.Plain f)).family ≡ f
    by true = ap (λ (s : Stepped). s.family) (silent_step now f silent)
    by false = refl

-- a step of a family keeps what is known
abbrev pub TickKeeps : ℕ → ℕ → Type 0
TickKeeps place now = (u : World) (told : List Told) (s : Seat) (n : Node) (f : Family) → Known u told → slice_get u.seats place ≡ Some s
    → s.server ≡ OfNode (Some n) → family_in n.families f.key.slot ≡ Some f → has_room f.entries (tick_at now) ≡ true
    → Known (requests_all place (family_step f (tick_at now) None).words
    (with_seat place (record s { server = OfNode (Some (with_family (family_step f (tick_at now) None).family n)) }) u)).world
    ((told ++ (all_effect_lines u (cast_of (family_step f (tick_at now) None).family) (family_step f (tick_at now) None).effects
    ++ all_finished_lines (family_step f (tick_at now) None).family.entries (family_step f (tick_at now) None).finished))
    ++ (requests_all place (family_step f (tick_at now) None).words
    (with_seat place (record s { server = OfNode (Some (with_family (family_step f (tick_at now) None).family n)) }) u)).lines)

-- ---- all of them

module _ (place now : ℕ) (n later : Node) (families : later.families ≡ map (ticked now) n.families) (numbers : FamiliesNumberWords) (keeps : TickKeeps place now) where
  -- the families of the slots up to some one are ticked, and the others aren't yet
  abbrev pub midway : List (Option Family) → List (Option Family) → Node
  midway before behind = record n { families = map (ticked now) before ++ behind }

  abbrev pub at_seat : Node → Seat → Seat
  at_seat m s = record s { server = OfNode (Some m) }

  -- what happens to the families of the slots behind
  abbrev pub passes : List (Option Family) → World → Done
  passes behind u = happens_all place later (filter_map (happens_in now) behind) u

  abbrev KnownBehind : Node → Seat → List Told → Done → Type 0
  KnownBehind m s told d = Known (with_seat place (at_seat m s) d.world) (told ++ d.lines)

  Goes : List (Option Family) → List (Option Family) → Type 0
  Goes before behind = (u : World) (told : List Told) (s : Seat) → Known u told → slice_get u.seats place ≡ Some s
      → s.server ≡ OfNode (Some (midway before behind)) → n.families ≡ before ++ behind
      → KnownBehind (midway (before ++ behind) []) s told (passes behind u)

  -- nothing is behind
  none_behind : (before : List (Option Family)) → Goes before []
  unfolding Goes
  none_behind before u told s k there up all =
      let same : with_seat place (at_seat (midway (before ++ []) []) s) u ≡ u
      = ap (λ (xs : List (Option Family)). with_seat place (at_seat (midway xs []) s) u) (append-nil before)
      ∙ ap (λ (x : _). with_seat place (record s { server = x }) u) (sym up)
      ∙ ap (λ (xs : List Seat). record u { seats = xs }) (set_same u.seats place s there) in
      subst (λ (v : World). Known v (told ++ [])) (sym same) (subst (Known u) (sym (append-nil told)) k)

  -- a slot in which nothing happens
  stays_so : (before : List (Option Family)) (slot : Option Family) (others : List (Option Family)) → ticked now slot ≡ slot
      → Goes (before ++ slot ∷ []) others → (u : World) (told : List Told) (s : Seat) → Known u told → slice_get u.seats place ≡ Some s
      → s.server ≡ OfNode (Some (midway before (slot ∷ others))) → n.families ≡ before ++ (slot ∷ others)
      → KnownBehind (midway (before ++ (slot ∷ others)) []) s told (passes others u)
  unfolding Goes
  stays_so before slot others same goes u told s k there up all =
      let shift : map (ticked now) before ++ (slot ∷ others) ≡ map (ticked now) (before ++ slot ∷ []) ++ others
      = ap (λ (x : Option Family). map (ticked now) before ++ (x ∷ others)) (sym same) ∙ sym (map_shift (ticked now) before slot others) in
      subst (λ (xs : List (Option Family)). KnownBehind (midway xs []) s told (passes others u)) (append_assoc before (slot ∷ []) others)
      (goes u told s k there (up ∙ ap (λ (xs : List (Option Family)). OfNode (Some (record n { families = xs }))) shift)
      (all ∙ sym (append_assoc before (slot ∷ []) others)))

  -- a family of which nothing is told
  nothing_told : (u : World) (h : Happening) (o : Option Family) → h.effects ≡ [] → h.finished ≡ []
      → (elim o as (λ _. List Told) [ Some f ↦ all_effect_lines u (cast_of f) h.effects ++ all_finished_lines f.entries h.finished | None ↦ [] ]) ≡ []
  nothing_told u h (Some f) none no_more =
      ap (λ (es : List Effect). all_effect_lines u (cast_of f) es ++ all_finished_lines f.entries h.finished) none
      ∙ ap (λ (fs : List Finished). all_finished_lines f.entries fs) no_more
  nothing_told u h None none no_more = refl

  full_step : (u : World) (f : Family) → happens place later (happening f (quiet said.Plain f)) u ≡ nothing u
  full_step u f = ap (λ (ls : List Told). record { world = u; lines = ls ++ [] }) (nothing_told u (happening f (quiet said.Plain f)) (family_of f.key later) refl refl)

  -- a family that goes on
  module _ (before others : List (Option Family)) (f : Family) (goes : Goes (before ++ Some f ∷ []) others) (room : has_room f.entries (tick_at now) ≡ true)
      (u : World) (told : List Told) (s : Seat) (k : Known u told) (there : slice_get u.seats place ≡ Some s)
      (up : s.server ≡ OfNode (Some (midway before (Some f ∷ others)))) (all : n.families ≡ before ++ (Some f ∷ others)) where
    abbrev st : Stepped
    st = family_step f (tick_at now) None

    abbrev g : Family
    g = st.family

    tick_is : tick_of now f ≡ st
    tick_is = ap (λ (b : Bool). cond b st (quiet said.Plain f)) room

    key : g.key ≡ f.key
    key = numbers.key f (tick_at now) None

    at_middle : family_in (midway before (Some f ∷ others)).families (length before) ≡ Some f
    at_middle = ap (option_and_then (λ (x : Option Family). x))
        (ap (slice_get (map (ticked now) before ++ (Some f ∷ others))) (sym (map_length (ticked now) before)) ∙ get_middle (map (ticked now) before) others (Some f))

    own_slot : f.key.slot ≡ length before
    own_slot = ((k.nodes place (midway before (Some f ∷ others)) (node_there u place s _ there up)).sound.sound.families (length before) f at_middle).0.own_slot

    slotted : family_in (midway before (Some f ∷ others)).families f.key.slot ≡ Some f
    slotted = ap (family_in (midway before (Some f ∷ others)).families) own_slot ∙ at_middle

    abbrev first : World
    first = with_seat place (at_seat (with_family g (midway before (Some f ∷ others))) s) u

    stepped : Known (requests_all place st.words first).world
        ((told ++ (all_effect_lines u (cast_of g) st.effects ++ all_finished_lines g.entries st.finished)) ++ (requests_all place st.words first).lines)
    stepped = keeps u told s (midway before (Some f ∷ others)) f k there up slotted room

    -- the node then
    node_is : with_family g (midway before (Some f ∷ others)) ≡ midway (before ++ Some f ∷ []) others
    node_is = ap (λ (xs : List (Option Family)). record n { families = xs })
        (ap (λ (i : ℕ). slice_set (map (ticked now) before ++ (Some f ∷ others)) i (Some g))
        (ap (λ (x : ObjectKey). x.slot) key ∙ own_slot ∙ sym (map_length (ticked now) before))
        ∙ set_middle (map (ticked now) before) others (Some f) (Some g)
        ∙ ap (λ (x : Family). map (ticked now) before ++ (Some x ∷ others)) (sym (ap (λ (x : Stepped). x.family) tick_is))
        ∙ sym (map_shift (ticked now) before (Some f) others))

    -- the family in the node behind all of them
    later_has : family_of f.key later ≡ Some g
    unfolding family_of
    later_has =
        ap (λ (xs : List (Option Family)). option_and_then (only_of f.key) (family_in xs f.key.slot))
        (families ∙ ap (map (ticked now)) all ∙ map_middle (ticked now) before (Some f) others)
        ∙ ap (λ (i : ℕ). option_and_then (only_of f.key) (family_in (map (ticked now) before ++ (ticked now (Some f) ∷ map (ticked now) others)) i))
        (own_slot ∙ sym (map_length (ticked now) before))
        ∙ ap (λ (o : Option (Option Family)). option_and_then (only_of f.key) (option_and_then (λ (x : Option Family). x) o))
        (get_middle (map (ticked now) before) (map (ticked now) others) (ticked now (Some f)))
        ∙ ap (λ (x : Stepped). only_of f.key x.family) tick_is
        ∙ ap (λ (b : Bool). cond b (Some g) None) (subst (λ (x : ObjectKey). IsTrue (is_of x g)) key (is_own g))

    abbrev told_of : List Told
    told_of = all_effect_lines u (cast_of g) st.effects ++ all_finished_lines g.entries st.finished

    happens_is : happens place later (happening f st) u ≡ after (record { world = u; lines = told_of }) (requests_all place st.words u)
    happens_is = ap (λ (o : Option Family). after (record {
      world = u;
      lines = elim o as (λ _. List Told) [ Some x ↦ all_effect_lines u (cast_of x) st.effects ++ all_finished_lines x.entries st.finished | None ↦ [] ];
    }) (requests_all place st.words u)) later_has

    -- the seat of the node then, and in the end
    abbrev seat : Seat
    seat = at_seat (midway (before ++ Some f ∷ []) others) s

    first_is : first ≡ with_seat place seat u
    first_is = ap (λ (m : Node). with_seat place (at_seat m s) u) node_is

    u_name : HasName place seat u
    u_name = record { seat = s; there = there; same = refl }

    abbrev next : World
    next = (requests_all place st.words u).world

    next_there : slice_get next.seats place ≡ Some s
    next_there = ap (λ (ss : List Seat). slice_get ss place) (requests_seats place st.words u) ∙ there

    next_name : HasName place seat next
    next_name = record { seat = s; there = next_there; same = refl }

    words_are : requests_all place st.words first ≡ swapped place seat (requests_all place st.words u)
    words_are = ap (requests_all place st.words) first_is ∙ requests_swap place seat place st.words u u_name

    abbrev lines_then : List Told
    lines_then = (told ++ told_of) ++ (requests_all place st.words u).lines

    known_then : Known (with_seat place seat next) lines_then
    known_then = subst (λ (d : Done). Known d.world ((told ++ told_of) ++ d.lines)) words_are stepped

    there_then : slice_get (with_seat place seat next).seats place ≡ Some seat
    there_then = get_set next.seats place s seat next_there

    behind_is : passes others (with_seat place seat next) ≡ swapped place seat (passes others next)
    behind_is = happens_swap place seat place later (filter_map (happens_in now) others) next next_name

    abbrev final : Node
    final = midway (before ++ (Some f ∷ others)) []

    -- all that happens from here on
    whole_is : after (happens place later (happening f (tick_of now f)) u) (passes others (happens place later (happening f (tick_of now f)) u).world)
        ≡ record { world = (passes others next).world; lines = (told_of ++ (requests_all place st.words u).lines) ++ (passes others next).lines }
    whole_is = ap (λ (d : Done). after d (passes others d.world)) (ap (λ (x : Stepped). happens place later (happening f x) u) tick_is ∙ happens_is)

    goes_on : KnownBehind final s told (after (happens place later (happening f (tick_of now f)) u) (passes others (happens place later (happening f (tick_of now f)) u).world))
    unfolding Goes
    goes_on =
        let rest = goes (with_seat place seat next) lines_then seat known_then there_then refl (all ∙ sym (append_assoc before (Some f ∷ []) others)) in
        let moved = subst (λ (d : Done). KnownBehind (midway ((before ++ Some f ∷ []) ++ others) []) seat lines_then d) behind_is rest in
        let of_all = subst (λ (xs : List (Option Family)). KnownBehind (midway xs []) seat lines_then (swapped place seat (passes others next))) (append_assoc before (Some f ∷ []) others) moved in
        let once = ap (λ (xs : List Seat). record (passes others next).world { seats = xs }) (set_twice (passes others next).world.seats place seat (at_seat final s)) in
        let lines_are = ap (λ (ls : List Told). ls ++ (passes others next).lines) (append_assoc told told_of (requests_all place st.words u).lines)
        ∙ append_assoc told (told_of ++ (requests_all place st.words u).lines) (passes others next).lines in
        subst (KnownBehind final s told) (sym whole_is)
        (subst (λ (v : World). Known v (told ++ ((told_of ++ (requests_all place st.words u).lines) ++ (passes others next).lines))) once
        (subst (Known (with_seat place (at_seat final s) (with_seat place seat (passes others next).world))) lines_are of_all))

  -- a slot
  slot_goes : (before : List (Option Family)) (slot : Option Family) (others : List (Option Family)) → Goes (before ++ slot ∷ []) others → Goes before (slot ∷ others)
  unfolding Goes
  slot_goes before None others goes u told s k there up all = stays_so before None others refl goes u told s k there up all
  slot_goes before (Some f) others goes u told s k there up all = by (is_silent (tick_at now) f) refl
    where
      full : has_room f.entries (tick_at now) ≡ false
          → KnownBehind (midway (before ++ (Some f ∷ others)) []) s told
          (after (happens place later (happening f (tick_of now f)) u) (passes others (happens place later (happening f (tick_of now f)) u).world))
      full none =
          let quietly : tick_of now f ≡ quiet said.Plain f = ap (λ (b : Bool). cond b (family_step f (tick_at now) None) (quiet said.Plain f)) none in
          subst (λ (d : Done). KnownBehind (midway (before ++ (Some f ∷ others)) []) s told (after d (passes others d.world)))
          (sym (ap (λ (x : Stepped). happens place later (happening f x) u) quietly ∙ full_step u f))
          (stays_so before (Some f) others (ap (λ (x : Stepped). Some x.family) quietly) goes u told s k there up all)

      loud : (b : Bool) → has_room f.entries (tick_at now) ≡ b
          → KnownBehind (midway (before ++ (Some f ∷ others)) []) s told
          (after (happens place later (happening f (tick_of now f)) u) (passes others (happens place later (happening f (tick_of now f)) u).world))
      loud true room = goes_on before others f goes room u told s k there up all
      loud false none = full none

      by : (b : Bool) → is_silent (tick_at now) f ≡ b
          → KnownBehind (midway (before ++ (Some f ∷ others)) []) s told
          (happens_all place later (cons_option (cond b None (Some (happening f (tick_of now f)))) (filter_map (happens_in now) others)) u)
      by true silent = stays_so before (Some f) others (ap (λ (x : Family). Some x) (silent_stays now f silent)) goes u told s k there up all
      by false heard = loud (has_room f.entries (tick_at now)) refl

  slots_go : (behind before : List (Option Family)) → Goes before behind
  slots_go [] before = none_behind before
  slots_go (slot ∷ others) before = slot_goes before slot others (slots_go others (before ++ slot ∷ []))

  -- time has passed for all of them
  pub families_ticked : (u : World) (told : List Told) (s : Seat) → Known u told → slice_get u.seats place ≡ Some s → s.server ≡ OfNode (Some n)
      → Known (with_seat place (at_seat (record n { families = map (ticked now) n.families }) s) (passes n.families u).world) (told ++ (passes n.families u).lines)
  unfolding Goes
  families_ticked u told s k there up =
      subst (λ (xs : List (Option Family)). KnownBehind (record n { families = xs }) s told (passes n.families u)) (append-nil (map (ticked now) n.families))
      (slots_go n.families [] u told s k there up refl)
