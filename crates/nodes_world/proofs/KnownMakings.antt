-- What is known of a world is known once a node that is still to be loaded, or an end, is made.
use Rattle.std.proofs.Common.{◌≡◌, ◌⊎◌, inl, inr, ℕ, ◌<◌, ◌≤◌, zero, suc, Bool, true, false, cond, find, bytes_eq, is_some, List, [], ◌∷◌, ◌++◌, length, filter_map, slice_get, Contains, Option, Some, None, refl, sym, ap, subst, ◌∙◌, append-nil, arith, nat_le, length-append}
use Rattle.std.specs.List.{AllByRecursion, list_any}
use Rattle.std.specs.Option.{option_map, option_map_or, option_and_then}
use Rattle.std.proofs.lemmas.List.Elements.{Contains-append_right, Contains-push_cases, filter_map-append}
use Rattle.std.proofs.lemmas.Slice.Eq.{bytes_eq-Decides}
use Rattle.ior_refs.specs.declared.key.ObjectKey.{ObjectKey}
use Rattle.ots_model.specs.Safe.{Stands}
use Rattle.ots_model.specs.declared.line.Line.{Line}
use Rattle.ots_model.specs.declared.line.Line.TheVariants as lines
use Rattle.decision_journal.specs.Journal.{Holds, found_in}
use Rattle.decision_journal.specs.Laws.{IsSettled}
use Rattle.decision_journal.specs.declared.record.JournalRecord.{JournalRecord}
use Rattle.coordinator.specs.Node.{Node, family_of}
use Rattle.coordinator.specs.NodeParts.{IsWhole}
use Rattle.recovery_coord.specs.Limits.{retold_slot}
use Rattle.nodes_world.specs.declared.thing.Thing.{Thing}
use Rattle.nodes_world.specs.declared.thing.Thing.TheVariants as things
use Rattle.nodes_world.specs.Journals.{records_in, records_on}
use Rattle.nodes_world.specs.Limits.{only_life, seat_limit}
use Rattle.ots_model.specs.Limits.{name_limit}
use Rattle.nodes_world.specs.Objects.{place_of, reference, service_at}
use Rattle.nodes_world.specs.Told as tell
use Rattle.nodes_world.specs.Told.{Told, known}
use Rattle.nodes_world.specs.World.{World, Seat, Server, OfNode, OfEnd, FlatEnd, FlatResource, NamedKey, end_at, end_in, has_number, is_referred_to, node_at, node_in, referred, resource_at, resource_in, resources, seat_name, thing, thing_in}
use Rattle.nodes_world.specs.Happenings.{changes}
use Rattle.nodes_world.specs.Lives.{makes_end, new_end, new_seat, with_named_seat}
use Rattle.nodes_world.specs.Step.{is_full}
use Rattle.nodes_world.specs.Agreement.{FollowsDisk, HoldsDecisions, HasSent, KeysAreOnce, has_record, records_at}
use Rattle.nodes_world.specs.AgreementInside.{Known, DisksAreKnown, SeatsAreNamed, EndsHaveCounted}
use Rattle.nodes_world.specs.AgreementSteps.{StaysKnown}
use Rattle.nodes_world.proofs.KnownLines.{among_back, among_turned, lines_of}
use Rattle.nodes_world.proofs.KnownFrames.{known_phase, last_cases, push_cases, push_kept, push_last}
use Rattle.nodes_world.proofs.KnownTelling.{IsOne, TellsOn, allowed_on, each_bare, is_bare, is_plain, tells_on}
use Rattle.nodes_world.proofs.KnownWorlds.{Frame, NamedOnce, follows_self, framed_known, WasUp}
use Rattle.nodes_world.proofs.KnownAlike.{found_same}
use Rattle.std.proofs.lemmas.Bool.Decides.{nat_tests}

-- ---- names

same_bytes : (a b : List ℕ) → bytes_eq a b ≡ true → a ≡ b
same_bytes a b = (bytes_eq-Decides a b).0

own_bytes : (a : List ℕ) → bytes_eq a a ≡ true
own_bytes a = (bytes_eq-Decides a a).1 refl

-- what has a name keeps it
pub thing_kept : (names more : List (List ℕ × Thing)) (name : List ℕ) (x : Thing) → thing_in names name ≡ Some x → thing_in (names ++ more) name ≡ Some x
unfolding thing_in
thing_kept [] more name x is = absurd cc
thing_kept (e ∷ names) more name x is = by (bytes_eq name e.0) (thing_kept names more name x) is
  where
    by : (b : Bool) → (thing_in names name ≡ Some x → thing_in (names ++ more) name ≡ Some x) → cond b (Some e.1) (thing_in names name) ≡ Some x
        → cond b (Some e.1) (thing_in (names ++ more) name) ≡ Some x
    by true later is = is
    by false later is = later is

-- a name that was free names what it was given to
pub thing_given : (names : List (List ℕ × Thing)) (name : List ℕ) (x : Thing) → thing_in names name ≡ None → thing_in (names ++ (name, x) ∷ []) name ≡ Some x
unfolding thing_in
thing_given [] name x is = ap (λ (b : Bool). cond b (Some x) None) (own_bytes name)
thing_given (e ∷ names) name x is = by (bytes_eq name e.0) (thing_given names name x) is
  where
    by : (b : Bool) → (thing_in names name ≡ None → thing_in (names ++ (name, x) ∷ []) name ≡ Some x) → cond b (Some e.1) (thing_in names name) ≡ None
        → cond b (Some e.1) (thing_in (names ++ (name, x) ∷ []) name) ≡ Some x
    by true later is = absurd cc
    by false later is = later is

-- what has a name then had it, or was given it
pub thing_cases : (names : List (List ℕ × Thing)) (name : List ℕ) (x : Thing) (other : List ℕ) (y : Thing) → thing_in (names ++ (name, x) ∷ []) other ≡ Some y
    → (thing_in names other ≡ Some y) ⊎ ((other ≡ name) × (x ≡ y))
unfolding thing_in
thing_cases [] name x other y is = by (bytes_eq other name) refl is
  where
    by : (b : Bool) → bytes_eq other name ≡ b → cond b (Some x) None ≡ Some y → (None ≡ Some y) ⊎ ((other ≡ name) × (x ≡ y))
    by true same is = inr (same_bytes other name same, cc)
    by false same is = absurd cc
thing_cases (e ∷ names) name x other y is = by (bytes_eq other e.0) (thing_cases names name x other y) is
  where
    by : (b : Bool) → (thing_in (names ++ (name, x) ∷ []) other ≡ Some y → (thing_in names other ≡ Some y) ⊎ ((other ≡ name) × (x ≡ y)))
        → cond b (Some e.1) (thing_in (names ++ (name, x) ∷ []) other) ≡ Some y → (cond b (Some e.1) (thing_in names other) ≡ Some y) ⊎ ((other ≡ name) × (x ≡ y))
    by true later is = inl is
    by false later is = later is

-- each resource of a world is one that a name was given to
pub each_resource : (P : NamedKey → Type 0) (names : List (List ℕ × Thing))
    → ((n : List ℕ) (key : ObjectKey) → Contains names (n, things.Resource key) → P (record { name = n; key = key }))
    → AllByRecursion P (filter_map (λ (entry : List ℕ × Thing). resource_in entry.0 entry.1) names)
each_resource P [] all = tt
each_resource P ((n, things.Seat p) ∷ names) all = each_resource P names (λ m key c. all m key (Contains-append_right ((n, things.Seat p) ∷ []) names _ c))
each_resource P ((n, things.Transaction t) ∷ names) all =
    each_resource P names (λ m key c. all m key (Contains-append_right ((n, things.Transaction t) ∷ []) names _ c))
each_resource P ((n, things.Resource r) ∷ names) all =
    (all n r (0, omega arith, refl), each_resource P names (λ m key c. all m key (Contains-append_right ((n, things.Resource r) ∷ []) names _ c)))

-- ---- one more seat

pub push_at : {A : Type 0} (xs : List A) (y : A) (k : ℕ)
    → ((k ≡ length xs) × (slice_get xs k ≡ None) × (slice_get (xs ++ y ∷ []) k ≡ Some y)) ⊎ (slice_get (xs ++ y ∷ []) k ≡ slice_get xs k)
push_at [] y zero = inl (refl, refl, refl)
push_at [] y (suc k) = inr refl
push_at (x ∷ xs) y zero = inr refl
push_at (x ∷ xs) y (suc k) = elim (push_at xs y k) [
  | inl here ↦ inl (ap suc here.0, here.1, here.2)
  | inr same ↦ inr same
]

pub read_push : {A C : Type 0} (read : A → Option C) (xs : List A) (y : A) (k : ℕ) → read y ≡ None
    → option_and_then read (slice_get (xs ++ y ∷ []) k) ≡ option_and_then read (slice_get xs k)
read_push read xs y k none = elim (push_at xs y k) [
  | inl here ↦ ap (option_and_then read) here.2 ∙ none ∙ sym (ap (option_and_then read) here.1)
  | inr same ↦ ap (option_and_then read) same
]

pub then_twice : {A B C : Type 0} (f : B → Option C) (g : A → Option B) (o : Option A)
    → option_and_then f (option_and_then g o) ≡ option_and_then (λ (x : A). option_and_then f (g x)) o
then_twice f g (Some x) = refl
then_twice f g None = refl

abbrev finds : ObjectKey → FlatEnd → Option FlatResource
finds key e = find (has_number key) e.resources

-- a seat of this name is made, at which no node is up and which has no resource
module _ (w : World) (name : List ℕ) (server : Server) (told more : List Told) (free : thing w name ≡ None) (k : Known w told)
    (nodeless : node_in server ≡ None) (barren : (key : ObjectKey) → option_and_then (finds key) (end_in server) ≡ None)
    (room : is_full w ≡ false) (empty : (e : FlatEnd) → end_in server ≡ Some e → (e.resources ≡ []) × (e.drawn ≡ 0) × (length name ≤ name_limit))
    (plain : AllByRecursion (IsOne is_plain) more) where
  abbrev seat : Seat
  seat = new_seat name server

  abbrev v : World
  v = with_named_seat name server w

  abbrev later : List Told
  later = told ++ more

  abbrev own : Thing
  own = things.Seat (length w.seats)

  on : (n : List ℕ) (t : Thing) → thing w n ≡ Some t → thing v n ≡ Some t
  on n t is = thing_kept w.names ((name, own) ∷ []) n t is

  back : (n : List ℕ) (t : Thing) → thing v n ≡ Some t → (own ≡ t → ⊥) → thing w n ≡ Some t
  back n t is other = elim (thing_cases w.names name own n t is) [
    | inl was ↦ was
    | inr new ↦ absurd (other new.1)
  ]

  not_transaction : (key : ObjectKey) → own ≡ things.Transaction key → ⊥
  not_transaction key e = cc

  not_resource : (key : ObjectKey) → own ≡ things.Resource key → ⊥
  not_resource key e = cc

  nodes_kept : (p : ℕ) → node_at v p ≡ node_at w p
  unfolding node_at
  nodes_kept p = let read : Seat → Option Node = λ s. node_in s.server in read_push read w.seats seat p nodeless

  resources_kept : (key : ObjectKey) → resource_at v key ≡ resource_at w key
  unfolding resource_at end_at
  resources_kept key =
      let read : Seat → Option FlatEnd = λ s. end_in s.server in
      let found : Seat → Option FlatResource = λ s. option_and_then (finds key) (end_in s.server) in
      then_twice (finds key) read (slice_get (w.seats ++ seat ∷ []) (place_of key))
      ∙ read_push found w.seats seat (place_of key) (barren key)
      ∙ sym (then_twice (finds key) read (slice_get w.seats (place_of key)))

  -- where a resource is, the seat was there
  resource_seat : (key : ObjectKey) (r : FlatResource) → resource_at w key ≡ Some r → slice_get w.seats (place_of key) ≡ None → ⊥
  unfolding resource_at end_at
  resource_seat key r is none =
      no (sym is ∙ ap (λ (o : Option Seat). option_and_then (finds key) (option_and_then (λ (s : Seat). end_in s.server) o)) none)
    where
      no : {x : FlatResource} → Some x ≡ None → ⊥
      no e = cc

  one_referred : (to : List ℕ) (n : List ℕ) (key : ObjectKey) → Contains w.names (n, things.Resource key)
      → is_referred_to v to (record { name = n; key = key }) ≡ is_referred_to w to (record { name = n; key = key })
  one_referred to n key among =
      let at = k.names.resources n key (k.names.once n (things.Resource key) among) in
      elim (push_at w.seats seat (place_of key)) [
        | inl here ↦ absurd (resource_seat key at.0 at.1 here.1)
        | inr same ↦ ap (λ (o : Option Seat). option_map_or (λ (octets : List ℕ). bytes_eq octets to)
            (option_map (λ (m : List ℕ). reference m key) (option_map (λ (s : Seat). s.name) o)) false) same
      ]

  refers_kept : (to : List ℕ) → referred v to ≡ referred w to
  unfolding referred
  refers_kept to =
      let same : resources v ≡ resources w
      = filter_map-append (λ (entry : List ℕ × Thing). resource_in entry.0 entry.1) w.names ((name, own) ∷ []) ∙ append-nil (resources w) in
      ap (find (is_referred_to v to)) same
      ∙ found_same (is_referred_to v to) (is_referred_to w to) (resources w)
      (each_resource (λ (r : NamedKey). is_referred_to v to r ≡ is_referred_to w to r) w.names (one_referred to))

  -- its disk holds nothing
  no_records : (p : ℕ) → records_on (service_at p) seat.disk ≡ Some []
  unfolding records_in
  no_records p = refl

  records_new : (p : ℕ) (rs : List JournalRecord) → slice_get (w.seats ++ seat ∷ []) p ≡ Some seat → records_at v p ≡ Some rs → rs ≡ []
  records_new p rs at held =
      inner (sym held ∙ ap (λ (o : Option Seat). option_and_then (λ (s : Seat). records_on (service_at p) s.disk) o) at ∙ no_records p)
    where
      inner : {xs ys : List JournalRecord} → Some xs ≡ Some ys → xs ≡ ys
      inner e = cc

  records_old : (p : ℕ) → slice_get (w.seats ++ seat ∷ []) p ≡ slice_get w.seats p → records_at v p ≡ records_at w p
  records_old p same = ap (λ (o : Option Seat). option_and_then (λ (s : Seat). records_on (service_at p) s.disk) o) same

  has_kept : (p : ℕ) (is_so : JournalRecord → Bool) → has_record v p is_so ≡ has_record w p is_so
  has_kept p is_so = elim (push_at w.seats seat p) [
    | inl here ↦
        ap (λ (o : Option Seat). option_map_or (λ (rs : List JournalRecord). list_any is_so rs) (option_and_then (λ (s : Seat). records_on (service_at p) s.disk) o) false) here.2
        ∙ ap (λ (o : Option (List JournalRecord)). option_map_or (λ (rs : List JournalRecord). list_any is_so rs) o false) (no_records p)
        ∙ sym (ap (λ (o : Option Seat). option_map_or (λ (rs : List JournalRecord). list_any is_so rs) (option_and_then (λ (s : Seat). records_on (service_at p) s.disk) o) false) here.1)
    | inr same ↦ ap (λ (o : Option (List JournalRecord)). option_map_or (λ (rs : List JournalRecord). list_any is_so rs) o false) (records_old p same)
  ]

  no_node : (p : ℕ) (n : Node) → node_at w p ≡ Some n → slice_get w.seats p ≡ None → ⊥
  unfolding node_at
  no_node p n is none = no (sym is ∙ ap (λ (o : Option Seat). option_and_then (λ (s : Seat). node_in s.server) o) none)
    where
      no : {x : Node} → Some x ≡ None → ⊥
      no e = cc

  was_up : (p : ℕ) (n : Node) → node_at v p ≡ Some n → WasUp w v p n
  was_up p n is = elim (push_at w.seats seat p) [
    | inl here ↦ absurd (no_node p n (sym (nodes_kept p) ∙ is) here.1)
    | inr same ↦ record { up = sym (nodes_kept p) ∙ is; records = records_old p same; disks = λ s there. (s, sym same ∙ there, refl) }
  ]

  ends_then : (p : ℕ) (e : FlatEnd) → end_at v p ≡ Some e → (end_at w p ≡ Some e) ⊎ (end_in server ≡ Some e)
  unfolding end_at
  ends_then p e is = elim (push_at w.seats seat p) [
    | inl here ↦ inr (sym (ap (λ (o : Option Seat). option_and_then (λ (s : Seat). end_in s.server) o) here.2) ∙ is)
    | inr same ↦ inl (sym (ap (λ (o : Option Seat). option_and_then (λ (s : Seat). end_in s.server) o) same) ∙ is)
  ]

  short_then : EndsHaveCounted w → (p : ℕ) (e : FlatEnd) (n : List ℕ) → end_at v p ≡ Some e → seat_name v p ≡ Some n → length n ≤ name_limit
  unfolding end_at
  short_then was p e n is named = elim (push_at w.seats seat p) [
    | inl here ↦
        subst (λ (x : List ℕ). length x ≤ name_limit) (same_name (sym (ap (option_map (λ (s : Seat). s.name)) here.2) ∙ named))
        (empty e (sym (ap (λ (o : Option Seat). option_and_then (λ (s : Seat). end_in s.server) o) here.2) ∙ is)).2
    | inr same ↦ was.short p e n (sym (ap (λ (o : Option Seat). option_and_then (λ (s : Seat). end_in s.server) o) same) ∙ is)
        (sym (ap (option_map (λ (s : Seat). s.name)) same) ∙ named)
  ]
    where
      same_name : {x : List ℕ} → Some name ≡ Some x → name ≡ x
      same_name e = cc

  counted_then : EndsHaveCounted w → EndsHaveCounted v
  counted_then was = record {
    numbers = λ p e is. elim (ends_then p e is) [
      | inl old ↦ was.numbers p e old
      | inr new ↦ subst (λ (xs : List FlatResource). AllByRecursion (λ (r : FlatResource). r.key.generation ≤ e.drawn) xs) (sym (empty e new).0) tt
    ];
    messages = λ p e is. elim (ends_then p e is) [
      | inl old ↦ was.messages p e old
      | inr new ↦ let none = (empty e new).1 in omega (arith, none)
    ];
    short = short_then was;
  }

  plain_tells : TellsOn is_plain told later
  plain_tells = tells_on is_plain told more plain

  made_frame : Frame w v told later
  made_frame = record {
    tells = tells_on is_bare told more (each_bare more plain);
    allowed = allowed_on told more (each_bare more plain);
    decided = λ n key named stands. inl (plain_tells.back _ refl stands);
    named = λ n stands. inl (plain_tells.back _ refl stands);
    commits = λ n key f there named stands. among_turned _ _ (plain_tells.back _ refl (among_back _ _ stands));
    transaction_on = λ n key is. on n (things.Transaction key) is;
    transaction_back = λ n key is. back n (things.Transaction key) is (not_transaction key);
    resource_on = λ n key is. on n (things.Resource key) is;
    resource_back = λ n key is. back n (things.Resource key) is (not_resource key);
    refers = refers_kept;
    resources = resources_kept;
    messages_on = λ nth m at. (m, at, refl);
    messages_back = λ nth m at heard. (m, at, refl);
    families = λ key f there. sym (ap (option_and_then (family_of key)) (nodes_kept (place_of key))) ∙ there;
    records = λ p rs held. elim (push_at w.seats seat p) [
      | inl here ↦ inr (records_new p rs here.2 held, here.1)
      | inr same ↦ inl (rs, sym (records_old p same) ∙ held, follows_self rs)
    ];
    has = λ p is_so none other. has_kept p is_so;
    seats = λ p n is. elim (push_at w.seats seat p) [
      | inl here ↦ absurd (no (sym is ∙ ap (option_map (λ (s : Seat). s.name)) here.1))
      | inr same ↦ ap (option_map (λ (s : Seat). s.name)) same ∙ is
    ];
    nodes = λ p n is. inl (was_up p n is);
    counted = counted_then;
  }
    where
      no : {x : List ℕ} → Some x ≡ None → ⊥
      no e = cc

  -- ---- what is said of seats

  more_seats : length (w.seats ++ seat ∷ []) ≤ seat_limit
  more_seats =
      let many = length-append w.seats (seat ∷ []) in
      let less = not_full (length w.seats) seat_limit room in
      omega (arith, many, less)
    where
      not_full : (many limit : ℕ) → nat_le limit many ≡ false → many < limit
      not_full many limit is = grind (arith, nat_tests)

  no_such : (n : List ℕ) → thing w n ≡ Some own → ⊥
  no_such n is =
      let at = k.seats.there n (length w.seats) is in
      past w.seats at.0 at.1
    where
      past : (xs : List Seat) (x : Seat) → slice_get xs (length xs) ≡ Some x → ⊥
      past [] x e = absurd cc
      past (y ∷ xs) x e = past xs x e

  keys_once : KeysAreOnce v
  keys_once n other t is also = elim (thing_cases w.names name own n t is) [
    | inl was ↦ elim (thing_cases w.names name own other t also) [
      | inl too ↦ k.names.keys n other t was too
      | inr new ↦ absurd (no_such n (was ∙ ap (λ (x : Thing). Some x) (sym new.1)))
    ]
    | inr new ↦ elim (thing_cases w.names name own other t also) [
      | inl too ↦ absurd (no_such other (too ∙ ap (λ (x : Thing). Some x) (sym new.1)))
      | inr both ↦ new.0 ∙ sym both.0
    ]
  ]

  once : NamedOnce v
  once n t among = elim (Contains-push_cases w.names (name, own) (n, t) among) [
    | inl was ↦ on n t (k.names.once n t was)
    | inr new ↦ subst (λ (e : List ℕ × Thing). thing v e.0 ≡ Some e.1) new (thing_given w.names name own free)
  ]

  -- a seat then is the new one, or was there
  seats_then : (P : Seat → ℕ → Type 0) → P seat (length w.seats) → ((p : ℕ) (s : Seat) → slice_get w.seats p ≡ Some s → P s p)
      → (p : ℕ) (s : Seat) → slice_get (w.seats ++ seat ∷ []) p ≡ Some s → P s p
  seats_then P new old p s there = elim (push_cases w.seats p seat s there) [
    | inl was ↦ old p s was
    | inr here ↦ subst (λ (i : ℕ). P s i) (sym here.0) (subst (λ (x : Seat). P x (length w.seats)) (sym here.1) new)
  ]

  -- the lines of lives that are new are those of the name
  module _ (ups : (n : List ℕ) (life : ℕ) → Stands (lines.Up n life) (known later) → Stands (lines.Up n life) (known told) ⊎ (n ≡ name))
      (rise : (before behind : List Line) (server : List ℕ) (life earlier : ℕ) → known later ≡ before ++ (lines.Up server life ∷ behind)
      → Stands (lines.Up server earlier) before → earlier < life)
      (lives : (up : Option Node) (life : ℕ) → server ≡ OfNode up → Stands (lines.Up name life) (known later) → life ≤ 0) where
    seats_made : SeatsAreNamed v (lines_of later)
    seats_made = record {
      named = seats_then (λ (s : Seat) (p : ℕ). thing v s.name ≡ Some (things.Seat p)) (thing_given w.names name own free)
          (λ p s there. on s.name (things.Seat p) (k.seats.named p s there));
      there = λ n p is. elim (thing_cases w.names name own n (things.Seat p) is) [
        | inl was ↦ let at = k.seats.there n p was in (at.0, push_kept w.seats p seat at.0 at.1, at.2)
        | inr new ↦ (seat, subst (λ (i : ℕ). slice_get (w.seats ++ seat ∷ []) i ≡ Some seat) (place_is new.1) (push_last w.seats seat), sym new.0)
      ];
      up = λ n life stands. elim (ups n life (among_back _ _ stands)) [
        | inl was ↦ let at = k.seats.up n life (among_turned _ _ was) in (at.0, on n (things.Seat at.0) at.1)
        | inr new ↦ (length w.seats, subst (λ (x : List ℕ). thing v x ≡ Some own) (sym new) (thing_given w.names name own free))
      ];
      senders = λ p o sent. elim (push_at w.seats seat p) [
        | inl here ↦ ap is_some here.2
        | inr same ↦ ap is_some same ∙ k.seats.senders p o sent
      ];
      few = more_seats;
      calls = k.seats.calls;
    }
      where
        place_is : {p : ℕ} → own ≡ things.Seat p → length w.seats ≡ p
        place_is e = cc

    -- the new seat has no node that is up
    not_up : (P : Type 0) (n : Node) → server ≡ OfNode (Some n) → P
    not_up P n is = absurd (no (sym (ap node_in is) ∙ nodeless))
      where
        no : {x : Node} → Some x ≡ None → ⊥
        no e = cc

    held_at : (p : ℕ) (s : Seat) → slice_get w.seats p ≡ Some s → records_at v p ≡ records_at w p
    held_at p s there = elim (push_at w.seats seat p) [
      | inl here ↦ absurd (no (sym there ∙ here.1))
      | inr same ↦ records_old p same
    ]
      where
        no : {x : Seat} → Some x ≡ None → ⊥
        no e = cc

    disks_made : DisksAreKnown v later
    disks_made = record {
      held = λ p s up there. seats_then (λ (s : Seat) (p : ℕ). s.server ≡ OfNode up
          → (rs : List JournalRecord) × Holds (service_at p) s.disk.reads rs × (records_at v p ≡ Some rs))
          (λ is. (
            [],
            inr (inl (omega arith), refl),
            ap (λ (o : Option Seat). option_and_then (λ (s : Seat). records_on (service_at (length w.seats)) s.disk) o) (push_last w.seats seat) ∙ no_records (length w.seats),
          ))
          (λ p s there is. let was = k.disks.held p s up there is in (was.0, was.1, held_at p s there ∙ was.2)) p s there;
      whole = λ p s n there. seats_then (λ (s : Seat) (p : ℕ). s.server ≡ OfNode (Some n) → IsWhole n) (λ is. not_up _ n is)
          (λ p s was is. k.disks.whole p s n was is) p s there;
      follows = λ p s n there. seats_then (λ (s : Seat) (p : ℕ). s.server ≡ OfNode (Some n) → FollowsDisk p s n) (λ is. not_up _ n is)
          (λ p s was is. k.disks.follows p s n was is) p s there;
      decisions = λ p s n there. seats_then (λ (s : Seat) (p : ℕ). s.server ≡ OfNode (Some n) → HoldsDecisions p n) (λ is. not_up _ n is)
          (λ p s was is. k.disks.decisions p s n was is) p s there;
      rise = rise;
      lives = λ p s up life rs there. seats_then (λ (s : Seat) (p : ℕ). s.server ≡ OfNode up → Stands (lines.Up s.name life) (known later) → records_at v p ≡ Some rs
          → life ≤ (found_in rs).life)
          (λ is stands held. let none = lives up life is stands in omega (arith, none))
          (λ p s was is stands held. k.disks.lives p s up life rs was is (old_line p s was life stands) (sym (held_at p s was) ∙ held)) p s there;
      no_superior = λ p rs r held among. elim (push_at w.seats seat p) [
        | inl here ↦ absurd (none_of r (subst (λ (x : List JournalRecord). Contains x r) (records_new p rs here.2 held) among))
        | inr same ↦ k.disks.no_superior p rs r (sym (records_old p same) ∙ held) among
      ];
      rests = seats_then (λ (s : Seat) (p : ℕ). s.server ≡ OfNode None → IsSettled s.disk) (λ is. refl) (λ p s was is. k.disks.rests p s was is);
    }
      where
        no : {x : Thing} → None ≡ Some x → ⊥
        no e = cc

        none_of : (r : JournalRecord) → Contains [] r → ⊥
        none_of r (i, less, is) = omega (arith, less)

        old_line : (p : ℕ) (s : Seat) → slice_get w.seats p ≡ Some s → (life : ℕ) → Stands (lines.Up s.name life) (known later) → Stands (lines.Up s.name life) (known told)
        old_line p s was life stands = elim (ups s.name life stands) [
          | inl line ↦ line
          | inr new ↦ absurd (no (sym free ∙ subst (λ (x : List ℕ). thing w x ≡ Some (things.Seat p)) new (k.seats.named p s was)))
        ]

    pub made_known : Known v later
    made_known =
        framed_known w v told later made_frame k keys_once once seats_made disks_made
        (λ p s n q there. seats_then (λ (s : Seat) (p : ℕ). s.server ≡ OfNode (Some n) → HasSent w p q → q.number.life ≡ n.found.life
        → (q.number.slot ≡ retold_slot) ⊎ (q.number.generation ≤ n.generation)) (λ is. not_up _ n is)
        (λ p s was is sent same. k.words.given p s n q was is sent same) p s there)

-- ---- a node, or an end

pub known_node : (w : World) (name : List ℕ) → thing w name ≡ None → is_full w ≡ false → StaysKnown w (changes (with_named_seat name (OfNode None) w))
known_node w name free room told k =
    let same = append-nil told in
    made_known w name (OfNode None) told [] free k refl (λ key. refl) room (λ e is. absurd cc) tt
    (λ n life stands. inl (subst (λ (x : List Told). Stands (lines.Up n life) (known x)) same stands))
    (λ before behind server life earlier e stands. k.disks.rise before behind server life earlier (sym (ap known same) ∙ e) stands)
    (λ up life is stands. absurd (unnamed life (subst (λ (x : List Told). Stands (lines.Up name life) (known x)) same stands)))
  where
    no : {x : Thing} → None ≡ Some x → ⊥
    no e = cc

    unnamed : (life : ℕ) → Stands (lines.Up name life) (known told) → ⊥
    unnamed life stands = no (sym free ∙ (k.seats.up name life (among_turned _ _ stands)).1)

-- a line stands at the end, or before it
pub split_cases : (xs before behind : List Line) (line last : Line) → xs ++ last ∷ [] ≡ before ++ (line ∷ behind)
    → ((last ≡ line) × (before ≡ xs)) ⊎ ((more : List Line) × (xs ≡ before ++ (line ∷ more)))
split_cases [] [] behind line last e = inl (head_of last line [] behind e, refl)
  where
    head_of : (x y : Line) (xs ys : List Line) → x ∷ xs ≡ y ∷ ys → x ≡ y
    head_of x y xs ys e = cc
split_cases [] (b ∷ []) behind line last e = absurd cc
split_cases [] (b ∷ c ∷ before) behind line last e = absurd cc
split_cases (x ∷ xs) [] behind line last e = inr (xs, ap (λ (y : Line). y ∷ xs) (head_of x line (xs ++ last ∷ []) behind e))
  where
    head_of : (x y : Line) (xs ys : List Line) → x ∷ xs ≡ y ∷ ys → x ≡ y
    head_of x y xs ys e = cc
split_cases (x ∷ xs) (b ∷ before) behind line last e =
    elim (split_cases xs before behind line last (tail_of x b _ _ e)) [
      | inl here ↦ inl (here.0, ap (λ ys. b ∷ ys) here.1 ∙ ap (λ (y : Line). y ∷ xs) (sym (head_of x b _ _ e)))
      | inr rest ↦ inr (rest.0, ap (λ (y : Line). y ∷ xs) (head_of x b _ _ e) ∙ ap (λ ys. b ∷ ys) rest.1)
    ]
  where
    head_of : (x y : Line) (xs ys : List Line) → x ∷ xs ≡ y ∷ ys → x ≡ y
    head_of x y xs ys e = cc

    tail_of : (x y : Line) (xs ys : List Line) → x ∷ xs ≡ y ∷ ys → xs ≡ ys
    tail_of x y xs ys e = cc

abbrev pub end_line : List ℕ → Line
end_line name = lines.Up name only_life

pub known_end : (w : World) (name : List ℕ) → thing w name ≡ None → is_full w ≡ false → length name ≤ name_limit → StaysKnown w (makes_end name w)
unfolding makes_end
known_end w name free room short told k =
    made_known w name (OfEnd (Some new_end)) told (tell.Known (end_line name) ∷ []) free k refl (λ key. refl) room
    (λ e is. (ap (λ (x : FlatEnd). x.resources) (sym (own_end e is)), ap (λ (x : FlatEnd). x.drawn) (sym (own_end e is)), short)) (refl, tt) ups rise
    (λ up life is stands. absurd (no_node up is))
  where
    own_end : (e : FlatEnd) → Some new_end ≡ Some e → new_end ≡ e
    own_end e is = cc

    no_node : (up : Option Node) → OfEnd (Some new_end) ≡ OfNode up → ⊥
    no_node up e = cc

    no : {x : Thing} → None ≡ Some x → ⊥
    no e = cc

    name_of : {n : List ℕ} {life : ℕ} → (end_line name) ≡ lines.Up n life → n ≡ name
    name_of e = cc

    unnamed : (n : List ℕ) (life : ℕ) → n ≡ name → Stands (lines.Up n life) (known told) → ⊥
    unnamed n life is stands =
        let at = k.seats.up n life (among_turned _ _ stands) in
        no (sym free ∙ subst (λ (x : List ℕ). thing w x ≡ Some (things.Seat at.0)) is at.1)

    ups : (n : List ℕ) (life : ℕ) → Stands (lines.Up n life) (known (told ++ tell.Known (end_line name) ∷ [])) → Stands (lines.Up n life) (known told) ⊎ (n ≡ name)
    ups n life stands = elim (last_cases (known told) (lines.Up n life) (end_line name) (subst (Stands (lines.Up n life)) (known_phase told (end_line name)) stands)) [
      | inl was ↦ inl was
      | inr new ↦ inr (name_of new)
    ]

    rise : (before behind : List Line) (server : List ℕ) (life earlier : ℕ) → known (told ++ tell.Known (end_line name) ∷ []) ≡ before ++ (lines.Up server life ∷ behind)
        → Stands (lines.Up server earlier) before → earlier < life
    rise before behind server life earlier e stands = elim (split_cases (known told) before behind (lines.Up server life) (end_line name) (sym (known_phase told (end_line name)) ∙ e)) [
      | inl here ↦ absurd (unnamed server earlier (name_of here.0) (subst (Stands (lines.Up server earlier)) here.1 stands))
      | inr rest ↦ k.disks.rise before rest.0 server life earlier rest.1 stands
    ]
