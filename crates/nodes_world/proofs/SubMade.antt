-- What is known of lines, names and seats once a subtransaction is made and has its name.
use Rattle.std.proofs.Common.{◌≡◌, ◌⊎◌, inl, inr, ℕ, ◌-◌, ◌<◌, ◌≤◌, Bool, true, false, is_some, IsTrue, List, [], ◌∷◌, ◌++◌, length, slice_get, Some, None, refl, sym, ap, subst, ◌∙◌, arith}
use Rattle.std.proofs.lemmas.List.Elements.{Contains-push_cases}
use Rattle.ior_refs.specs.declared.key.ObjectKey.{ObjectKey}
use Rattle.ots_model.specs.Safe as safe
use Rattle.ots_model.specs.Safe.{Stands, IsFamily, IsJoined, TakesPart}
use Rattle.ots_model.specs.SafeByLine.{AreAllowed}
use Rattle.ots_model.specs.declared.completion.Vote.{Vote}
use Rattle.ots_model.specs.declared.line.Line.{Line}
use Rattle.ots_model.specs.declared.line.Line.TheVariants as lines
use Rattle.ots_model.specs.declared.tree.Outward.{Outward}
use Rattle.decision_journal.specs.Journal.{Holds, found_in}
use Rattle.decision_journal.specs.Laws.{IsSettled}
use Rattle.decision_journal.specs.declared.record.JournalRecord.{JournalRecord}
use Rattle.recovery_coord.specs.Limits.{retold_slot}
use Rattle.coordinator.specs.Family.{Family}
use Rattle.coordinator.specs.Names.{coordinator_kind}
use Rattle.coordinator.specs.Node.{Node, family_in, is_of, life, with_family}
use Rattle.coordinator.specs.NodeParts.{IsWhole}
use Rattle.nodes_world.specs.declared.thing.Thing.{Thing}
use Rattle.nodes_world.specs.declared.thing.Thing.TheVariants as things
use Rattle.nodes_world.specs.Agreement.{FollowsDisk, HasSent, HoldsDecisions, IsTransaction, KeysAreOnce, StatesFollow, VotesWereGiven, has_record, records_at}
use Rattle.nodes_world.specs.AgreementInside.{Known, DisksAreKnown, HasAnswered, IsBranch, IsMade, NamesAreTold, ResourceIsKnown, ResourcesAreKnown, SeatsAreNamed, WordsAreTold, IsNumberedBy}
use Rattle.nodes_world.specs.Objects.{place_of, service_at}
use Rattle.nodes_world.specs.Told as tell
use Rattle.nodes_world.specs.Told.{Told, known}
use Rattle.nodes_world.specs.World.{World, FlatResource, Seat, OfNode, family_at, node_at, referred, resource_at, thing, with_name}
use Rattle.nodes_world.proofs.KnownLines.{AreAmong, among_back, among_turned, lines_of, not_free}
use Rattle.nodes_world.proofs.KnownFamilies.{family_found, same_parts}
use Rattle.nodes_world.proofs.KnownFrames.{newest_phase}
use Rattle.nodes_world.proofs.KnownTelling.{TellsOn, tells_on}
use Rattle.nodes_world.proofs.KnownWorlds.{NamedOnce}
use Rattle.nodes_world.proofs.KnownMakings.{thing_cases, thing_given, thing_kept}
use Rattle.nodes_world.proofs.KnownRequests.{follows_kept, unvoted_kept, voted_kept}
use Rattle.nodes_world.proofs.KnownSeats.{seats_kept, set_cases}
use Rattle.nodes_world.proofs.KnownBeginSeats.{has_begun, records_begun, refers_begun, resources_begun}
use Rattle.nodes_world.proofs.CanRegister.{can_make}
use Rattle.nodes_world.proofs.StepSeats as seats
use Rattle.nodes_world.proofs.NumberedWords.{IsNumberedAs, numbered_as}

-- it tells of a subtransaction
abbrev pub is_sub_line : Line → Bool
is_sub_line (lines.Sub t above) = true
is_sub_line _ = false

module _ (w : World) (place : ℕ) (s : Seat) (n : Node) (f g : Family) (there : slice_get w.seats place ≡ Some s) (up : s.server ≡ OfNode (Some n))
    (same : g.key ≡ f.key) (slotted : family_in n.families f.key.slot ≡ Some f) (at_place : place_of f.key ≡ place) (told : List Told) (k : Known w told)
    (key : ObjectKey) (found : family_at w key ≡ Some f) (name : List ℕ) (free : thing w name ≡ None) (above : List ℕ) (p : ℕ) (branch : IsBranch w f above p)
    (own_key : ObjectKey) (kind : own_key.kind ≡ coordinator_kind) (of : IsTrue (is_of own_key f)) (last : own_key.index ≡ length f.rows) (inside : p < length f.rows)
    (serial : IsNumberedAs f g) where
  abbrev pub own : Thing
  own = things.Transaction own_key

  abbrev pub c : Node
  c = with_family g n

  abbrev pub left : Seat
  left = seats.left w place s n f g there up same slotted at_place

  abbrev pub u : World
  u = seats.v w place s n f g there up same slotted at_place

  abbrev pub v : World
  v = with_name name own u

  abbrev pub line : Line
  line = lines.Sub name above

  abbrev pub later : List Told
  later = told ++ tell.Known line ∷ []

  pub tells : TellsOn is_sub_line told later
  tells = tells_on is_sub_line told (tell.Known line ∷ []) (refl, tt)

  pub on : AreAmong (lines_of told) (lines_of later)
  on l x = among_turned _ l (tells.on l (among_back _ l x))

  pub back : (l : Line) → is_sub_line l ≡ false → Stands l (lines_of later) → Stands l (lines_of told)
  back l other x = among_turned _ l (tells.back l other (among_back _ l x))

  -- a line of a subtransaction is this one, or stood
  pub sub_cases : (t higher : List ℕ) → Stands (lines.Sub t higher) (lines_of later) → ((t ≡ name) × (higher ≡ above)) ⊎ Stands (lines.Sub t higher) (lines_of told)
  sub_cases t higher x = by (subst (Stands (lines.Sub t higher)) (newest_phase told line) x)
    where
      name_is : line ≡ lines.Sub t higher → t ≡ name
      name_is e = cc

      above_is : line ≡ lines.Sub t higher → higher ≡ above
      above_is e = cc

      by : Stands (lines.Sub t higher) (line ∷ lines_of told) → ((t ≡ name) × (higher ≡ above)) ⊎ Stands (lines.Sub t higher) (lines_of told)
      by (inl e) = inl (name_is e, above_is e)
      by (inr was) = inr was

  pub stands_now : Stands line (lines_of later)
  stands_now = subst (Stands line) (sym (newest_phase told line)) (inl refl)

  -- ---- names

  pub thing_on : (t : List ℕ) (x : Thing) → thing w t ≡ Some x → thing v t ≡ Some x
  thing_on t x is = thing_kept w.names ((name, own) ∷ []) t x is

  pub given : thing v name ≡ Some own
  given = thing_given w.names name own free

  pub trans_cases : (t : List ℕ) (other : ObjectKey) → IsTransaction v t other → IsTransaction w t other ⊎ ((t ≡ name) × (own_key ≡ other))
  trans_cases t other is = elim (thing_cases w.names name own t (things.Transaction other) is) [
    | inl was ↦ inl was
    | inr new ↦ inr (new.0, key_is new.1)
  ]
    where
      key_is : own ≡ things.Transaction other → own_key ≡ other
      key_is e = cc

  pub unnamed : (t : List ℕ) (x : Thing) → thing w t ≡ Some x → t ≡ name → ⊥
  unnamed t x named is = not_free (thing w name) x (subst (λ (y : List ℕ). thing w y ≡ Some x) is named) free

  -- it is below the top
  pub below : 0 < own_key.index
  below = omega (arith, last, inside)

  -- a top-level transaction then was one
  pub top_was : (t : List ℕ) (other : ObjectKey) → IsTransaction v t other → other.index ≡ 0 → IsTransaction w t other
  top_was t other is first = elim (trans_cases t other is) [
    | inl was ↦ was
    | inr new ↦
        let high = ap (λ (x : ObjectKey). x.index) new.1 in
        let low = below in
        absurd (omega (arith, high, low, first))
  ]

  -- no other name has its key
  pub fresh : (t : List ℕ) → IsTransaction w t own_key → ⊥
  fresh t named = let less = (k.families key f found).no_further t own_key.index (own_key, named, of, refl) in omega (arith, less, last)

  resource_was : (t : List ℕ) (r : ObjectKey) → thing v t ≡ Some (things.Resource r) → thing w t ≡ Some (things.Resource r)
  resource_was t r is = elim (thing_cases w.names name own t (things.Resource r) is) [
    | inl was ↦ was
    | inr new ↦ absurd (no new.1)
  ]
    where
      no : own ≡ things.Resource r → ⊥
      no e = cc

  keys_now : KeysAreOnce v
  keys_now t other x is also = elim (thing_cases w.names name own t x is) [
    | inl was ↦ elim (thing_cases w.names name own other x also) [
      | inl too ↦ k.names.keys t other x was too
      | inr new ↦ absurd (fresh t (was ∙ ap (λ (y : Thing). Some y) (sym new.1)))
    ]
    | inr new ↦ elim (thing_cases w.names name own other x also) [
      | inl too ↦ absurd (fresh other (too ∙ ap (λ (y : Thing). Some y) (sym new.1)))
      | inr both ↦ new.0 ∙ sym both.0
    ]
  ]

  once_now : NamedOnce v
  once_now t x among = elim (Contains-push_cases w.names (name, own) (t, x) among) [
    | inl was ↦ thing_on t x (k.names.once t x was)
    | inr new ↦ subst (λ (e : List ℕ × Thing). thing v e.0 ≡ Some e.1) new given
  ]

  made_on : (t : List ℕ) (x : ObjectKey) → IsTransaction v t x → IsMade w (lines_of told) t x → IsMade v (lines_of later) t x
  made_on t x is (named, inl (node, stands)) = (is, inl (node, on _ stands))
  made_on t x is (named, inr (higher, stands)) = (is, inr (higher, on _ stands))

  transactions_now : (t : List ℕ) (x : ObjectKey) → IsTransaction v t x → IsMade v (lines_of later) t x
  transactions_now t x is = elim (trans_cases t x is) [
    | inl was ↦ made_on t x is (k.names.transactions t x was)
    | inr new ↦ (is, inr (above, subst (λ (y : List ℕ). Stands (lines.Sub y above) (lines_of later)) (sym new.0) stands_now))
  ]

  kinds_now : (t : List ℕ) (x : ObjectKey) → IsTransaction v t x → x.kind ≡ coordinator_kind
  kinds_now t x is = elim (trans_cases t x is) [
    | inl was ↦ k.names.kinds t x was
    | inr new ↦ ap (λ (y : ObjectKey). y.kind) (sym new.1) ∙ kind
  ]

  services_now : (t : List ℕ) (x : ObjectKey) → IsTransaction v t x → 0 < x.service
  services_now t x is = elim (trans_cases t x is) [
    | inl was ↦ k.names.services t x was
    | inr new ↦
        let own_parts = same_parts own_key.service own_key.life own_key.slot own_key.generation f.key.service f.key.life f.key.slot f.key.generation of in
        let theirs = k.families key f found in
        subst (λ (y : ObjectKey). 0 < y.service) new.1 (subst (λ (y : ℕ). 0 < y) (sym own_parts.0) (k.names.services theirs.name f.key theirs.of_name))
  ]

  -- the key of its parent is its own, but for the index
  parent_key : record own_key { index = branch.0.index } ≡ branch.0
  parent_key =
      let a = same_parts own_key.service own_key.life own_key.slot own_key.generation f.key.service f.key.life f.key.slot f.key.generation of in
      let b = same_parts branch.0.service branch.0.life branch.0.slot branch.0.generation f.key.service f.key.life f.key.slot f.key.generation branch.2 in
      ap (λ (x : ℕ). record own_key { index = branch.0.index; kind = x }) (kind ∙ sym (k.names.kinds above branch.0 branch.1))
      ∙ ap (λ (x : ℕ). record own_key { index = branch.0.index; kind = branch.0.kind; service = x }) (a.0 ∙ sym b.0)
      ∙ ap (λ (x : ℕ). record own_key { index = branch.0.index; kind = branch.0.kind; service = branch.0.service; life = x }) (a.1 ∙ sym b.1)
      ∙ ap (λ (x : ℕ). record branch.0 { slot = x; generation = own_key.generation }) (a.2 ∙ sym b.2)
      ∙ ap (λ (x : ℕ). record branch.0 { generation = x }) (a.3 ∙ sym b.3)

  subs_now : (t higher : List ℕ) → Stands (lines.Sub t higher) (lines_of later)
      → (x : ObjectKey) × (y : ObjectKey) × IsTransaction v t x × IsTransaction v higher y × (0 < x.index) × (record x { index = y.index } ≡ y)
  subs_now t higher x = elim (sub_cases t higher x) [
    | inl new ↦ (
      own_key,
      branch.0,
      subst (λ (y : List ℕ). thing v y ≡ Some own) (sym new.0) given,
      thing_on higher (things.Transaction branch.0) (subst (λ (y : List ℕ). IsTransaction w y branch.0) (sym new.1) branch.1),
      below,
      parent_key,
    )
    | inr was ↦ let at = k.names.subs t higher was in
        (at.0, at.1, thing_on t (things.Transaction at.0) at.2, thing_on higher (things.Transaction at.1) at.3, at.4, at.5)
  ]

  one_parent_now : (t higher other : List ℕ) → Stands (lines.Sub t higher) (lines_of later) → Stands (lines.Sub t other) (lines_of later) → higher ≡ other
  one_parent_now t higher other x y = elim (sub_cases t higher x) [
    | inl new ↦ elim (sub_cases t other y) [
      | inl too ↦ new.1 ∙ sym too.1
      | inr was ↦ let at = k.names.subs t other was in absurd (unnamed t (things.Transaction at.0) at.2 new.0)
    ]
    | inr was ↦ elim (sub_cases t other y) [
      | inl new ↦ let at = k.names.subs t higher was in absurd (unnamed t (things.Transaction at.0) at.2 new.0)
      | inr too ↦ k.names.one_parent t higher other was too
    ]
  ]

  pub resources : (r : ObjectKey) → resource_at v r ≡ resource_at w r
  resources r = resources_begun w place name own_key s n c told there up free k r

  pub refers : (to : List ℕ) → referred v to ≡ referred w to
  refers to = refers_begun w place name own_key s n c told there up free k to

  pub records : (q : ℕ) → records_at v q ≡ records_at w q
  records q = records_begun w place name own_key s n c told there up free k q

  pub has : (q : ℕ) (is_so : JournalRecord → Bool) → has_record v q is_so ≡ has_record w q is_so
  has q is_so = has_begun w place name own_key s n c told there up free k q is_so

  pub names_now : NamesAreTold v (lines_of later)
  names_now = record {
    keys = keys_now;
    once = once_now;
    transactions = transactions_now;
    kinds = kinds_now;
    services = services_now;
    tops = λ t node x. let at = k.names.tops t node (back _ refl x) in (at.0, thing_on t (things.Transaction at.0) at.1, at.2);
    subs = subs_now;
    ended = λ t how x. let at = k.names.ended t how (back _ refl x) in (at.0, thing_on t (things.Transaction at.0) at.1, at.2);
    one_parent = one_parent_now;
    resources = λ t r named. let at = k.names.resources t r (resource_was t r named) in (at.0, resources r ∙ at.1, at.2);
    registered = λ r t x.
        let at = k.names.registered r t (x.0, back _ refl x.1) in
        (at.0, at.1, thing_on r (things.Resource at.0) at.2, thing_on t (things.Transaction at.1) at.3);
    one_transaction = λ r t other x y. k.names.one_transaction r t other (x.0, back _ refl x.1) (y.0, back _ refl y.1);
    no_import = λ t higher node x. k.names.no_import t higher node (back _ refl x);
    objects = λ t r named. k.names.objects t r (resource_was t r named);
    shown = λ r state x. let at = k.names.shown r state (back _ refl x) in (at.0, thing_on r (things.Resource at.0) at.1);
  }

  pub allowed_now : AreAllowed (lines_of later)
  allowed_now = subst AreAllowed (sym (newest_phase told line)) (can_make w told k name free, k.allowed)

  -- ---- seats

  pub seats_now : SeatsAreNamed v (lines_of later)
  seats_now =
      let was = seats_kept w place s left there refl (lines_of told) (lines_of told) k.seats (λ x in_life stands. k.seats.up x in_life stands) in
      record {
        named = λ q x at. thing_on x.name (things.Seat q) (was.named q x at);
        there = λ other q is. elim (thing_cases w.names name own other (things.Seat q) is) [
          | inl old ↦ was.there other q old
          | inr new ↦ absurd (no q new.1)
        ];
        up = λ x in_life stands. let at = was.up x in_life (back _ refl stands) in (at.0, thing_on x (things.Seat at.0) at.1);
        senders = was.senders;
        few = was.few;
        calls = was.calls;
      }
    where
      no : (q : ℕ) → own ≡ things.Seat q → ⊥
      no q e = cc

  -- a seat then is the one of the node, or was there
  by_seat : (P : ℕ → Seat → Type 0) → P place left → ((q : ℕ) (x : Seat) → slice_get w.seats q ≡ Some x → P q x) → (q : ℕ) (x : Seat)
      → slice_get v.seats q ≡ Some x → P q x
  by_seat P new old q x at = elim (set_cases w.seats place s left q x there at) [
    | inl here ↦ subst (λ (i : ℕ). P i x) (sym here.0) (subst (P place) here.1 new)
    | inr was ↦ old q x was
  ]

  node_of : (a : Node) → OfNode (Some c) ≡ OfNode (Some a) → c ≡ a
  node_of a e = cc

  was_life : (x : List ℕ) (in_life : ℕ) → Stands (lines.Up x in_life) (known later) → Stands (lines.Up x in_life) (known told)
  was_life x in_life stands = tells.back _ refl stands

  pub disks_now : DisksAreKnown v later
  disks_now = record {
    held = λ q x o. by_seat (λ q x. x.server ≡ OfNode o → (rs : List JournalRecord) × Holds (service_at q) x.disk.reads rs × (records_at v q ≡ Some rs))
        (λ is. let was = k.disks.held place s (Some n) there up in (was.0, was.1, records place ∙ was.2))
        (λ q x at is. let was = k.disks.held q x o at is in (was.0, was.1, records q ∙ was.2)) q x;
    whole = λ q x a. by_seat (λ q x. x.server ≡ OfNode (Some a) → IsWhole a)
        (λ is. subst IsWhole (node_of a is) (seats.whole_now n f g same slotted (k.disks.whole place s n there up)))
        (λ q x at is. k.disks.whole q x a at is) q x;
    follows = λ q x a. by_seat (λ q x. x.server ≡ OfNode (Some a) → FollowsDisk q x a)
        (λ is. subst (FollowsDisk place left) (node_of a is) (seats.follows_now n f g same slotted place s (k.disks.follows place s n there up)))
        (λ q x at is. k.disks.follows q x a at is) q x;
    decisions = λ q x a. by_seat (λ q x. x.server ≡ OfNode (Some a) → HoldsDecisions q a)
        (λ is. subst (HoldsDecisions place) (node_of a is) (seats.holds_now n f g same slotted place (k.disks.decisions place s n there up)))
        (λ q x at is. k.disks.decisions q x a at is) q x;
    rise = λ before behind server in_life earlier e stands.
        let was = tells.split (lines.Up server in_life) before behind refl e in
        k.disks.rise before was.0 server in_life earlier was.1 stands;
    lives = λ q x o in_life rs. by_seat (λ q x. x.server ≡ OfNode o → Stands (lines.Up x.name in_life) (known later) → records_at v q ≡ Some rs → in_life ≤ (found_in rs).life)
        (λ is stands held. k.disks.lives place s (Some n) in_life rs there up (was_life s.name in_life stands) (sym (records place) ∙ held))
        (λ q x at is stands held. k.disks.lives q x o in_life rs at is (was_life x.name in_life stands) (sym (records q) ∙ held)) q x;
    no_superior = λ q rs r held among. k.disks.no_superior q rs r (sym (records q) ∙ held) among;
    rests = by_seat (λ q x. x.server ≡ OfNode None → IsSettled x.disk) (λ is. absurd (up_still is)) (λ q x at is. k.disks.rests q x at is);
  }
    where
      up_still : OfNode (Some c) ≡ OfNode None → ⊥
      up_still e = cc

  -- ---- families that are there

  pub families : (x : ObjectKey) (h : Family) → family_at v x ≡ Some h
      → ((h ≡ g) × IsTrue (is_of x g)) ⊎ ((family_at w x ≡ Some h) × (IsTrue (is_of h.key f) → ⊥))
  unfolding node_at
  families x h is = seats.families_now w place s n f g there up same slotted at_place x h is

  -- ---- words, votes and resources

  given_now : (q : ℕ) (x : Seat) (m : Node) (o : Outward) → slice_get v.seats q ≡ Some x → x.server ≡ OfNode (Some m) → HasSent v q o
      → o.number.life ≡ life m → (o.number.slot ≡ retold_slot) ⊎ (o.number.generation ≤ m.generation)
  given_now q x m o at is_up sent in_life = elim (set_cases w.seats place s left q x there at) [
    | inl here ↦
        let node = node_of m (ap (λ (y : Seat). y.server) here.1 ∙ is_up) in
        subst (λ (y : Node). (o.number.slot ≡ retold_slot) ⊎ (o.number.generation ≤ y.generation)) node
        (k.words.given place s n o there up (subst (λ (y : ℕ). HasSent w y o) here.0 sent) (in_life ∙ ap life (sym node)))
    | inr was ↦ k.words.given q x m o was is_up sent in_life
  ]

  serials_now : (q : ℕ) (o : Outward) (h : Family) (x : ObjectKey) → HasSent v q o → family_at v x ≡ Some h → o.number.life ≡ h.key.life
      → o.number.slot ≡ h.key.slot → o.number.generation ≡ h.key.generation → place_of h.key ≡ q → IsNumberedBy h o
  serials_now q o h x sent at in_life at_slot numbered place_is = elim (families x h at) [
    | inl this ↦
        let key_is : h.key ≡ f.key = ap (λ (y : Family). y.key) this.0 ∙ same in
        let was = k.words.serials q o f key sent found (in_life ∙ ap (λ (y : ObjectKey). y.life) key_is) (at_slot ∙ ap (λ (y : ObjectKey). y.slot) key_is)
        (numbered ∙ ap (λ (y : ObjectKey). y.generation) key_is) (sym (ap place_of key_is) ∙ place_is) in
        subst (λ (y : Family). IsNumberedBy y o) (sym this.0) (numbered_as f g o serial was)
    | inr that ↦ k.words.serials q o h x sent that.0 in_life at_slot numbered place_is
  ]

  pub words_now : WordsAreTold v (lines_of later)
  words_now = record {
    named = λ q o sent. ap is_some (refers o.to) ∙ k.words.named q o sent;
    once = record { one_object = k.words.once.one_object; one_word = k.words.once.one_word };
    told = λ nth q o phase r word phased leads. on _ (k.words.told nth q o phase r word phased (sym (refers o.to) ∙ leads));
    sent = λ number phase r x.
        let was = k.words.sent number phase r (back _ refl x) in
        (was.0, was.1, was.2, was.3, was.4, was.5, was.6, refers was.2.to ∙ was.7, was.8);
    replied = k.words.replied;
    asked = k.words.asked;
    voters = k.words.voters;
    lives = λ q o rs sent held. k.words.lives q o rs sent (sym (records q) ∙ held);
    given = given_now;
    told_again = λ q o rs sent again held. k.words.told_again q o rs sent again (sym (records q) ∙ held);
    serials = serials_now;
  }

  pub votes_given : VotesWereGiven v later
  votes_given voter vote x =
      let was = k.votes voter vote (tells.back _ refl x) in
      record {
        request = was.request;
        from = was.from;
        asked = was.asked;
        sent = was.sent;
        prepare = was.prepare;
        resource = was.resource;
        object = refers was.asked.to ∙ was.object;
        same_name = was.same_name;
        reply = was.reply;
        answer = was.answer;
        answered = was.answered;
        says = was.says;
      }

  answered_on : (r : List ℕ) (vote : Vote) → HasAnswered w r vote → HasAnswered v r vote
  answered_on r vote (nth, from, reply, o, x, m, word, prepare, leads, named, at, says) = (nth, from, reply, o, x, m, word, prepare, refers o.to ∙ leads, named, at, says)

  answered_back : (r : List ℕ) (vote : Vote) → HasAnswered v r vote → HasAnswered w r vote
  answered_back r vote (nth, from, reply, o, x, m, word, prepare, leads, named, at, says) =
      (nth, from, reply, o, x, m, word, prepare, sym (refers o.to) ∙ leads, named, at, says)

  resource_now : (r : List ℕ) (x : FlatResource) → ResourceIsKnown w (lines_of told) r x → ResourceIsKnown v (lines_of later) r x
  resource_now r x was = record {
    commit = λ a. voted_kept x.state r _ _ on (was.commit (answered_back r _ a));
    read_only = λ a. was.read_only (answered_back r _ a);
    rollback = λ a. was.rollback (answered_back r _ a);
    none = λ no. unvoted_kept x.state r _ _ on (was.none (λ vote a. no vote (answered_on r vote a)));
    applied = (λ y. was.applied.0 (back _ refl y), λ e. on _ (was.applied.1 e));
    undone = (λ y. was.undone.0 (back _ refl y), λ e. on _ (was.undone.1 e));
    follows = follows_kept x.state r _ _ on
        (λ undone sent. (subst (λ y. StatesFollow y r (lines_of told)) undone was.follows) (sent.0, back _ refl sent.1)) was.follows;
  }

  pub resources_now : ResourcesAreKnown v (lines_of later)
  resources_now r x y named at = resource_now r y (k.resources r x y (resource_was r x named) (sym (resources x) ∙ at))

  -- ---- who takes part

  family_back : (t : List ℕ) → IsFamily t (known later) → IsFamily t (known told)
  family_back t (inl (node, x)) = inl (node, tells.back _ refl x)
  family_back t (inr (higher, (node, x))) = inr (higher, (node, tells.back _ refl x))

  -- the new one hasn't ended, so nobody joins a family by it
  joined_back : (t x : List ℕ) → IsJoined (known later) t x → IsJoined (known told) t x
  joined_back t _ (safe.IsJoined.own family) = safe.IsJoined.own (family_back t family)
  joined_back t _ (safe.IsJoined.committed x higher ended sub up_to) = elim (sub_cases x higher (among_turned _ _ sub)) [
    | inl new ↦
        let at = k.names.ended x true (among_turned _ _ (tells.back _ refl ended)) in
        absurd (unnamed x (things.Transaction at.0) at.1 new.0)
    | inr was ↦ safe.IsJoined.committed x higher (tells.back _ refl ended) (among_back _ _ was) (joined_back t higher up_to)
  ]

  pub part_back : (r t : List ℕ) → TakesPart r t (known later) → TakesPart r t (known told)
  part_back r t (x, registered, joined) = (x, (registered.0, tells.back _ refl registered.1), joined_back t x joined)

  -- ---- its key

  own_parts : (own_key.service ≡ f.key.service) × (own_key.life ≡ f.key.life) × (own_key.slot ≡ f.key.slot) × (own_key.generation ≡ f.key.generation)
  own_parts = same_parts own_key.service own_key.life own_key.slot own_key.generation f.key.service f.key.life f.key.slot f.key.generation of

  pub own_place : place_of own_key ≡ place
  own_place = ap (λ (x : ℕ). x - 1) own_parts.0 ∙ at_place

  pub own_life : own_key.life ≡ f.key.life
  own_life = own_parts.1

  pub own_generation : own_key.generation ≡ f.key.generation
  own_generation = own_parts.3

  -- the family is found by each key of its own
  pub found_of : (x : ObjectKey) → IsTrue (is_of x f) → family_at w x ≡ Some f
  found_of x is =
      let parts = same_parts x.service x.life x.slot x.generation f.key.service f.key.life f.key.slot f.key.generation is in
      family_found w x f (record {
        seat = s;
        node = n;
        there = ap (slice_get w.seats) (ap (λ (y : ℕ). y - 1) parts.0 ∙ at_place) ∙ there;
        up = up;
        slotted = ap (family_in n.families) parts.2 ∙ slotted;
        own = is;
      })
