-- What is known of a world is known of one that differs from it in clocks, in stops to come and in what became of messages alone.
use Rattle.std.proofs.Common.{◌≡◌, inl, ℕ, ◌<◌, zero, suc, Bool, true, false, cond, find, is_some, IsTrue, List, [], ◌∷◌, ◌++◌, map, slice_get, Contains, Option, Some, None, refl, sym, ap, ap₂, subst, ◌∙◌, bytes_eq, ◌&&◌, length, ◌≤◌}
use Rattle.std.specs.List.{AllByRecursion, list_any}
use Rattle.std.specs.Option.{option_map, option_map_or, option_and_then}
use Rattle.ior_refs.specs.declared.key.ObjectKey.{ObjectKey}
use Rattle.ots_model.specs.Safe.{Stands}
use Rattle.ots_model.specs.declared.line.Line.{Line}
use Rattle.ots_model.specs.declared.line.Line.TheVariants as lines
use Rattle.ots_model.specs.declared.tree.Outward.{Outward}
use Rattle.ots_outside.specs.Disk.{DiskState}
use Rattle.decision_journal.specs.Journal.{Holds}
use Rattle.decision_journal.specs.Laws.{IsSettled}
use Rattle.decision_journal.specs.declared.record.JournalRecord.{JournalRecord}
use Rattle.coordinator.specs.Node.{Node, family_of}
use Rattle.nodes_world.specs.declared.message.Message.{Message}
use Rattle.nodes_world.specs.declared.thing.Thing.{Thing}
use Rattle.nodes_world.specs.declared.thing.Thing.TheVariants as things
use Rattle.nodes_world.specs.Journals.{records_on}
use Rattle.nodes_world.specs.Objects.{place_of, reference, service_at}
use Rattle.nodes_world.specs.Told as tell
use Rattle.nodes_world.specs.Told.{Told, known}
use Rattle.nodes_world.specs.World.{World, Seat, OfNode, FlatEnd, NamedKey, end_at, end_in, family_at, has_number, is_referred_to, node_at, node_in, referred, resource_at, resources, seat_name, thing, thing_in}
use Rattle.nodes_world.specs.Agreement.{HasSent, has_record, records_at}
use Rattle.nodes_world.specs.AgreementInside.{Known, DisksAreKnown, SeatsAreNamed}
use Rattle.nodes_world.specs.AgreementSteps.{IsAlike, IsQuiet, StaysKnown, kept_seat, is_call, kept_message}
use Rattle.nodes_world.specs.Happenings.{tells}
use Rattle.nodes_world.proofs.KnownLines.{among_back, among_turned, lines_of}
use Rattle.nodes_world.proofs.KnownTelling.{IsOne, TellsOn, allowed_on, each_bare, is_bare, is_plain, tells_on}
use Rattle.nodes_world.proofs.KnownWorlds.{Frame, follows_self, framed_known, sent_back}
use Rattle.nodes_world.specs.Limits.{seat_limit}

-- ---- lists of which the same is kept

some_inner : {A : Type 0} (x y : A) → Some x ≡ Some y → x ≡ y
some_inner x y e = cc

-- what stands at a place stands there in the other list, and the same is kept of both
pub map_get : {A B : Type 0} (g : A → B) (xs ys : List A) (i : ℕ) (x : A) → map g xs ≡ map g ys → slice_get xs i ≡ Some x
    → (y : A) × (slice_get ys i ≡ Some y) × (g y ≡ g x)
map_get g [] ys i x same there = absurd cc
map_get g (u ∷ xs) [] i x same there = absurd cc
map_get g (u ∷ xs) (z ∷ ys) zero x same there = (z, refl, sym (head_of (g u) (g z) (map g xs) (map g ys) same) ∙ ap g (some_inner u x there))
  where
    head_of : {C : Type 0} (a b : C) (xs ys : List C) → a ∷ xs ≡ b ∷ ys → a ≡ b
    head_of a b xs ys e = cc
map_get g (u ∷ xs) (z ∷ ys) (suc i) x same there = map_get g xs ys i x (tail_of (g u) (g z) (map g xs) (map g ys) same) there
  where
    tail_of : {C : Type 0} (a b : C) (xs ys : List C) → a ∷ xs ≡ b ∷ ys → xs ≡ ys
    tail_of a b xs ys e = cc

pub as_many : {A B : Type 0} (g : A → B) (xs ys : List A) → map g xs ≡ map g ys → length xs ≡ length ys
as_many g xs ys same = sym (map_length g xs) ∙ ap length same ∙ map_length g ys
  where
    map_length : {A B : Type 0} (g : A → B) (xs : List A) → length (map g xs) ≡ length xs
    map_length g [] = refl
    map_length g (x ∷ xs) = ap suc (map_length g xs)

-- what is read of an element through what is kept of it
pub read_through : {A B C : Type 0} (g : A → B) (read : A → Option C) (kept : B → Option C) → ((x : A) → kept (g x) ≡ read x)
    → (xs : List A) (i : ℕ) → option_and_then kept (slice_get (map g xs) i) ≡ option_and_then read (slice_get xs i)
read_through g read kept so [] i = refl
read_through g read kept so (x ∷ xs) zero = so x
read_through g read kept so (x ∷ xs) (suc i) = read_through g read kept so xs i

pub read_same : {A B C : Type 0} (g : A → B) (read : A → Option C) (kept : B → Option C) → ((x : A) → kept (g x) ≡ read x)
    → (xs ys : List A) (i : ℕ) → map g xs ≡ map g ys → option_and_then read (slice_get xs i) ≡ option_and_then read (slice_get ys i)
read_same g read kept so xs ys i same =
    sym (read_through g read kept so xs i) ∙ ap (λ zs. option_and_then kept (slice_get zs i)) same ∙ read_through g read kept so ys i

pub mapped_through : {A B : Type 0} (f : A → B) (o : Option A) → option_map f o ≡ option_and_then (λ (x : A). Some (f x)) o
mapped_through f (Some x) = refl
mapped_through f None = refl

pub found_same : {A : Type 0} (p q : A → Bool) (xs : List A) → AllByRecursion (λ (x : A). p x ≡ q x) xs → find p xs ≡ find q xs
found_same p q [] all = refl
found_same p q (x ∷ xs) (same, all) = ap₂ (λ (b : Bool) (o : Option _). cond b (Some x) o) same (found_same p q xs all)

pub each_same : {A : Type 0} (p q : A → Bool) (xs : List A) → ((x : A) → p x ≡ q x) → AllByRecursion (λ (x : A). p x ≡ q x) xs
each_same p q [] same = tt
each_same p q (x ∷ xs) same = (same x, each_same p q xs same)

-- ---- what is read of seats

module _ (w v : World) (same : map kept_seat v.seats ≡ map kept_seat w.seats) where
  pub records_same : (place : ℕ) → records_at v place ≡ records_at w place
  records_same place =
      let read : Seat → Option (List JournalRecord) = λ s. records_on (service_at place) s.disk in
      read_same kept_seat read read (λ s. refl) v.seats w.seats place same

  pub named_same : (place : ℕ) → seat_name v place ≡ seat_name w place
  named_same place =
      let read : Seat → Option (List ℕ) = λ s. Some s.name in
      mapped_through (λ (s : Seat). s.name) (slice_get v.seats place) ∙ read_same kept_seat read read (λ s. refl) v.seats w.seats place same
      ∙ sym (mapped_through (λ (s : Seat). s.name) (slice_get w.seats place))

  nodes_same : (place : ℕ) → node_at v place ≡ node_at w place
  unfolding node_at
  nodes_same place =
      let read : Seat → Option Node = λ s. node_in s.server in
      read_same kept_seat read read (λ s. refl) v.seats w.seats place same

  ends_same : (place : ℕ) → end_at v place ≡ end_at w place
  unfolding end_at
  ends_same place =
      let read : Seat → Option FlatEnd = λ s. end_in s.server in
      read_same kept_seat read read (λ s. refl) v.seats w.seats place same

  pub families_same : (key : ObjectKey) → family_at v key ≡ family_at w key
  families_same key = ap (option_and_then (family_of key)) (nodes_same (place_of key))

-- resources are found by their ends
pub resources_by : (w v : World) (key : ObjectKey) → end_at v (place_of key) ≡ end_at w (place_of key) → resource_at v key ≡ resource_at w key
unfolding resource_at
resources_by w v key same = ap (option_and_then (λ (e : FlatEnd). find (has_number key) e.resources)) same

-- a reference leads to the same by the names of seats
pub referred_by : (w v : World) (to : List ℕ) → v.names ≡ w.names → ((place : ℕ) → seat_name v place ≡ seat_name w place)
    → referred v to ≡ referred w to
unfolding referred
referred_by w v to names seats =
    let one : (r : NamedKey) → is_referred_to v to r ≡ is_referred_to w to r
    = λ r. ap (λ (o : Option (List ℕ)). option_map_or (λ (octets : List ℕ). bytes_eq octets to) (option_map (λ (name : List ℕ). reference name r.key) o) false)
    (seats (place_of r.key)) in
    found_same (is_referred_to v to) (is_referred_to w to) (resources v) (each_same (is_referred_to v to) (is_referred_to w to) (resources v) one)
    ∙ ap (find (is_referred_to w to)) (same_resources names)
  where
    same_resources : v.names ≡ w.names → resources v ≡ resources w
    same_resources e = ap (λ (names : List (List ℕ × Thing)). resources (record w { names = names })) e

-- ---- worlds that are alike

quiet_one : (flag : Line → Bool) (some : List Told) → AllByRecursion IsQuiet some → AllByRecursion (IsOne flag) some
quiet_one flag [] all = tt
quiet_one flag (t ∷ others) (one, all) = (by t one, quiet_one flag others all)
  where
    by : (t : Told) → IsQuiet t → IsOne flag t
    by (tell.Known line) one = absurd one
    by (tell.RolledBack transaction reason) one = one
    by (tell.RolledBackBy transaction reason synchronization) one = one
    by (tell.Down server) one = tt
    by (tell.Aware resource transaction end) one = tt
    by (tell.Called message operation transaction) one = tt
    by (tell.Answered message answer) one = tt
    by (tell.Sent message operation registration) one = tt
    by (tell.Back message request answer) one = tt
    by (tell.Dropped message) one = tt
    by (tell.Marked transaction) one = tt
    by (tell.Doubted transaction) one = tt
    by (tell.Refused word answer) one = tt
    by (tell.Journal server octets) one = tt

-- the frame of worlds that are alike, by plain lines
module _ (w v : World) (told some : List Told) (alike : IsAlike w v) (plain : AllByRecursion (IsOne is_plain) some) where
  things_same : (name : List ℕ) → thing v name ≡ thing w name
  things_same name = ap (λ (names : List (List ℕ × Thing)). thing_in names name) alike.names

  has_same : (place : ℕ) (is_so : JournalRecord → Bool) → has_record v place is_so ≡ has_record w place is_so
  has_same place is_so =
      ap (λ (o : Option (List JournalRecord)). option_map_or (λ (rs : List JournalRecord). list_any is_so rs) o false) (records_same w v alike.seats place)

  plain_tells : TellsOn is_plain told (told ++ some)
  plain_tells = tells_on is_plain told some plain

  alike_frame : Frame w v told (told ++ some)
  alike_frame = record {
    tells = tells_on is_bare told some (each_bare some plain);
    allowed = allowed_on told some (each_bare some plain);
    decided = λ name key named s. inl (plain_tells.back _ refl s);
    named = λ name s. inl (plain_tells.back _ refl s);
    commits = λ name key f there named s. among_turned _ _ (plain_tells.back _ refl (among_back _ _ s));
    transaction_on = λ name key is. things_same name ∙ is;
    transaction_back = λ name key is. sym (things_same name) ∙ is;
    resource_on = λ name key is. things_same name ∙ is;
    resource_back = λ name key is. sym (things_same name) ∙ is;
    refers = λ to. referred_by w v to alike.names (named_same w v alike.seats);
    resources = λ key. resources_by w v key (ends_same w v alike.seats (place_of key));
    messages_on = λ nth m there.
        let was = map_get kept_message w.messages v.messages nth m (sym alike.messages) there in
        (was.0, was.1, ap (λ (x : Message). x.content) was.2);
    messages_back = λ nth m there heard.
        let was = map_get kept_message v.messages w.messages nth m alike.messages there in
        (was.0, was.1, ap (λ (x : Message). x.content) was.2);
    families = λ key f there. sym (families_same w v alike.seats key) ∙ there;
    records = λ place rs held. inl (rs, sym (records_same w v alike.seats place) ∙ held, follows_self rs);
    has = λ place is_so none other. has_same place is_so;
    seats = λ place server is. named_same w v alike.seats place ∙ is;
    nodes = λ place n is. inl (record {
      up = sym (nodes_same w v alike.seats place) ∙ is;
      records = records_same w v alike.seats place;
      disks = λ s there.
          let was = map_get kept_seat v.seats w.seats place s alike.seats there in
          (was.0, was.1, ap (λ (x : Seat). x.disk) was.2);
    });
    counted = λ was. record {
      numbers = λ place e is. was.numbers place e (sym (ends_same w v alike.seats place) ∙ is);
      messages = λ place e is.
          subst (λ (many : ℕ). e.drawn ≤ many) (as_many kept_message w.messages v.messages (sym alike.messages)) (was.messages place e (sym (ends_same w v alike.seats place) ∙ is));
      short = λ place e name is named. was.short place e name (sym (ends_same w v alike.seats place) ∙ is) (sym (named_same w v alike.seats place) ∙ named);
    };
  }

  -- ---- seats and disks

  module _ (k : Known w told) where
    kept_disk : (s t : Seat) → kept_seat t ≡ kept_seat s → t.disk ≡ s.disk
    kept_disk s t same = ap (λ (x : Seat). x.disk) same

    seat_up : (s t : Seat) (n : Node) → kept_seat t ≡ kept_seat s → s.server ≡ OfNode (Some n) → t.server ≡ OfNode (Some n)
    seat_up s t n same up = ap (λ (x : Seat). x.server) same ∙ up

    word_by : (p : ℕ) (q : Outward) → HasSent v p q → HasSent w p q
    word_by p q sent = sent_back w v told (told ++ some) alike_frame k p q sent

    delivered_so : {a : Bool} (b : Bool) → a ≡ true → (a && b) ≡ b
    delivered_so b is = ap (λ x. x && b) is

    seat_there : (p : ℕ) → IsTrue (is_some (slice_get w.seats p)) → IsTrue (is_some (slice_get v.seats p))
    seat_there p is = by (slice_get w.seats p) refl is
      where
        by : (o : Option Seat) → slice_get w.seats p ≡ o → is_some o ≡ true → is_some (slice_get v.seats p) ≡ true
        by (Some s) there is = let now = map_get kept_seat w.seats v.seats p s (sym alike.seats) there in ap is_some now.1
        by None there is = absurd cc

    seats_alike : ((name : List ℕ) (life : ℕ) → Stands (lines.Up name life) (lines_of (told ++ some)) → (place : ℕ) × (thing w name ≡ Some (things.Seat place)))
        → SeatsAreNamed v (lines_of (told ++ some))
    seats_alike up = record {
      named = λ place s there.
          let was = map_get kept_seat v.seats w.seats place s alike.seats there in
          things_same s.name ∙ subst (λ (x : Seat). thing w x.name ≡ Some (things.Seat place)) was.2 (k.seats.named place was.0 was.1);
      there = λ name place is.
          let was = k.seats.there name place (sym (things_same name) ∙ is) in
          let now = map_get kept_seat w.seats v.seats place was.0 (sym alike.seats) was.1 in
          (now.0, now.1, ap (λ (x : Seat). x.name) now.2 ∙ was.2);
      up = λ name life s. let at = up name life s in (at.0, things_same name ∙ at.1);
      senders = λ p q sent. seat_there p (k.seats.senders p q (word_by p q sent));
      few = subst (λ (many : ℕ). many ≤ seat_limit) (as_many kept_seat w.seats v.seats (sym alike.seats)) k.seats.few;
      calls = λ nth m to act there says.
          let was = map_get kept_message v.messages w.messages nth m alike.messages there in
          let so = ap (λ (x : Message). x.content) was.2 ∙ says in
          let old = k.seats.calls nth was.0 to act was.1 so in (
            sym (delivered_so m.delivered (ap is_call says)) ∙ sym (ap (λ (x : Message). x.delivered) was.2)
                ∙ delivered_so was.0.delivered (ap is_call so) ∙ old.0,
            old.1,
          );
    }

    disks_alike : ((before behind : List Line) (server : List ℕ) (life earlier : ℕ) → known (told ++ some) ≡ before ++ (lines.Up server life ∷ behind)
        → Stands (lines.Up server earlier) before → earlier < life)
        → ((server : List ℕ) (life : ℕ) → Stands (lines.Up server life) (known (told ++ some)) → Stands (lines.Up server life) (known told))
        → DisksAreKnown v (told ++ some)
    disks_alike rise up = record {
      held = λ place s n there is.
          let was = map_get kept_seat v.seats w.seats place s alike.seats there in
          let h = k.disks.held place was.0 n was.1 (ap (λ (x : Seat). x.server) was.2 ∙ is) in
          (h.0, subst (λ (x : DiskState). Holds (service_at place) x.reads h.0) (kept_disk s was.0 was.2) h.1, records_same w v alike.seats place ∙ h.2);
      whole = λ place s n there is.
          let was = map_get kept_seat v.seats w.seats place s alike.seats there in
          k.disks.whole place was.0 n was.1 (seat_up s was.0 n was.2 is);
      follows = λ place s n there is.
          let was = map_get kept_seat v.seats w.seats place s alike.seats there in
          let follows = k.disks.follows place was.0 n was.1 (seat_up s was.0 n was.2 is) in
          let disk = kept_disk s was.0 was.2 in
          record {
            service = follows.service;
            records = follows.records;
            held = ap (records_on (service_at place)) (sym disk) ∙ follows.held;
            found = follows.found;
            settled = subst IsSettled disk follows.settled;
          };
      decisions = λ place s n there is.
          let was = map_get kept_seat v.seats w.seats place s alike.seats there in
          k.disks.decisions place was.0 n was.1 (seat_up s was.0 n was.2 is);
      rise = rise;
      lives = λ place s n life rs there is stands held.
          let was = map_get kept_seat v.seats w.seats place s alike.seats there in
          k.disks.lives place was.0 n life rs was.1 (ap (λ (x : Seat). x.server) was.2 ∙ is)
          (subst (λ (x : List ℕ). Stands (lines.Up x life) (known told)) (sym (ap (λ (x : Seat). x.name) was.2)) (up s.name life stands))
          (sym (records_same w v alike.seats place) ∙ held);
      no_superior = λ place rs r held among. k.disks.no_superior place rs r (sym (records_same w v alike.seats place) ∙ held) among;
      rests = λ place s there is.
          let was = map_get kept_seat v.seats w.seats place s alike.seats there in
          subst IsSettled (kept_disk s was.0 was.2) (k.disks.rests place was.0 was.1 (ap (λ (x : Seat). x.server) was.2 ∙ is));
    }

    -- what is known of alike worlds, where the lines of lives are given
    alike_by : ((name : List ℕ) (life : ℕ) → Stands (lines.Up name life) (known (told ++ some)) → Stands (lines.Up name life) (known told))
        → ((before behind : List Line) (server : List ℕ) (life : ℕ) → known (told ++ some) ≡ before ++ (lines.Up server life ∷ behind)
        → (more : List Line) × (known told ≡ before ++ (lines.Up server life ∷ more)))
        → Known v (told ++ some)
    alike_by up split =
        framed_known w v told (told ++ some) alike_frame k
        (λ name other named is also. k.names.keys name other named (sym (things_same name) ∙ is) (sym (things_same other) ∙ also))
        (λ name named among. things_same name ∙ k.names.once name named (subst (λ (names : List (List ℕ × Thing)). Contains names (name, named)) alike.names among))
        (seats_alike (λ name life s. k.seats.up name life (among_turned _ _ (up name life (among_back _ _ s)))))
        (disks_alike (λ before behind server life earlier e s. let at = split before behind server life e in k.disks.rise before at.0 server life earlier at.1 s) up)
        (λ place s n q there is sent same.
        let was = map_get kept_seat v.seats w.seats place s alike.seats there in
        k.words.given place was.0 n q was.1 (seat_up s was.0 n was.2 is) (word_by place q sent) same)

-- nothing but a receipt, or lines that aren't known
abbrev is_receipt : Line → Bool
is_receipt (lines.Recv number) = true
is_receipt _ = false

pub known_alike : (w v : World) (quiet : List Told) → IsAlike w v → AllByRecursion IsQuiet quiet → StaysKnown w (record { world = v; lines = quiet })
known_alike w v quiet alike all told k =
    let goes_on = tells_on is_receipt told quiet (quiet_one is_receipt quiet all) in
    alike_by w v told quiet alike (quiet_one is_plain quiet all) k (λ name life s. goes_on.back _ refl s)
    (λ before behind server life e. goes_on.split _ before behind refl e)

pub known_receipt : (w : World) (number : ℕ) → StaysKnown w (tells (tell.Known (lines.Recv number) ∷ []) w)
known_receipt w number told k =
    let some = tell.Known (lines.Recv number) ∷ [] in
    let goes_on = tells_on is_receipt told some (refl, tt) in
    alike_by w w told some (record { names = refl; seats = refl; messages = refl }) (refl, tt) k (λ name life s. goes_on.back _ refl s)
    (λ before behind server life e. goes_on.split _ before behind refl e)
