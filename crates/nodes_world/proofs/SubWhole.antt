-- What is known of a world is known once a subtransaction is made and has its name.
use Rattle.std.proofs.Common.{◌≡◌, ◌⊎◌, inl, inr, ℕ, ◌<◌, ◌≤◌, Bool, true, false, is_some, IsTrue, List, [], ◌∷◌, ◌++◌, length, slice_get, slice_set, Contains, Option, Some, None, refl, sym, ap, subst, ◌∙◌, arith}
use Rattle.std.specs.List.{AllByRecursion}
use Rattle.std.specs.Option.{option_and_then}
use Rattle.ior_refs.specs.declared.key.ObjectKey.{ObjectKey}
use Rattle.ots_model.specs.Safe.{Stands, HasConsented, IsRegistered, IsSent, TakesPart}
use Rattle.ots_model.specs.declared.completion.Ground.TheVariants.{Record}
use Rattle.ots_model.specs.declared.completion.Word.TheVariants as phase_words
use Rattle.ots_model.specs.declared.line.Line.{Line}
use Rattle.ots_model.specs.declared.line.Line.TheVariants as lines
use Rattle.ots_model.specs.declared.service.RetryKey.{RetryKey}
use Rattle.ots_model.specs.declared.completion.Outcome.TheVariants as outcomes
use Rattle.txn_tree.specs.Calls.{created}
use Rattle.two_phase.specs.Stages as stages
use Rattle.two_phase.specs.Stages.{Standing}
use Rattle.decision_journal.specs.declared.record.JournalRecord.{JournalRecord}
use Rattle.decision_journal.specs.declared.record.Registration.{Registration as Named}
use Rattle.recovery_coord.specs.declared.held.Held.{Held}
use Rattle.coordinator.specs.declared.said.Entry.{Entry}
use Rattle.coordinator.specs.Family.{Call, Duty, Family, call_at}
use Rattle.coordinator.specs.Names.{coordinator_kind}
use Rattle.coordinator.specs.Node.{Node, family_in, is_of, life, with_family}
use Rattle.family_laws.specs.Sound.{IsAsking, IsSoundFamily}
use Rattle.family_laws.specs.OwnDecisions.{KeepsDecisions}
use Rattle.nodes_world.specs.declared.thing.Thing.{Thing}
use Rattle.nodes_world.specs.declared.thing.Thing.TheVariants as things
use Rattle.nodes_world.specs.Agreement as agreed
use Rattle.nodes_world.specs.Agreement.{CommitsAreRecorded, DecisionsAreRecorded, IsAlone, IsClosed, IsCutOff, IsDecided, IsRolledBack, IsTransaction, NoneIsBoth, OnePhaseIsAlone, RecordsRestOnVotes, RestsOnVotes, RollbacksAreClosed, SubtransactionsEndOnce, has_record, is_decision_of, names_object, recorded_key, records_at}
use Rattle.nodes_world.specs.AgreementInside.{Known, EndsHaveCounted, HasMessage, IsBack, IsBranch, IsHeldAs, IsNamed, NodeIsKnown, NodesAreKnown, RollbacksAreOutcomes, RollbacksAreTold, ToldIsOpen, TransactionsAreKnown, IsNotBefore, edge_at}
use Rattle.nodes_world.specs.Laws.{IsInOrder}
use Rattle.nodes_world.specs.Objects.{place_of, service_at}
use Rattle.nodes_world.specs.Told as tell
use Rattle.nodes_world.specs.Told.{Told, known}
use Rattle.nodes_world.specs.World.{World, Seat, OfNode, end_at, end_in, family_at, node_at, node_in, referred, thing}
use Rattle.nodes_world.proofs.Edges.{edge_kept}
use Rattle.nodes_world.proofs.KnownLines.{cut_among, lines_of, part_among, registered_among}
use Rattle.nodes_world.proofs.KnownFamilies.{some_of}
use Rattle.nodes_world.proofs.KnownSeats.{ends_kept, seat_names_kept, set_at, set_cases}
use Rattle.nodes_world.proofs.KnownTelling.{TellsOn}
use Rattle.nodes_world.proofs.KnownWorlds.{node_there}
use Rattle.nodes_world.proofs.HeldLines.{found_is}
use Rattle.nodes_world.proofs.SubFamily as family
use Rattle.nodes_world.proofs.SubMade as made
use Rattle.nodes_world.proofs.SubMade.{is_sub_line}
use Rattle.nodes_world.proofs.NumberedWords.{IsNumberedAs}

module _ (w : World) (place : ℕ) (s : Seat) (n : Node) (f g : Family) (there : slice_get w.seats place ≡ Some s) (up : s.server ≡ OfNode (Some n))
    (same : g.key ≡ f.key) (slotted : family_in n.families f.key.slot ≡ Some f) (at_place : place_of f.key ≡ place) (told : List Told) (k : Known w told)
    (key : ObjectKey) (found : family_at w key ≡ Some f) (name : List ℕ) (free : thing w name ≡ None) (above : List ℕ) (p : ℕ) (branch : IsBranch w f above p)
    (own_key : ObjectKey) (kind : own_key.kind ≡ coordinator_kind) (of : IsTrue (is_of own_key f)) (last : own_key.index ≡ length f.rows) (inside : p < length f.rows)
    (serial : IsNumberedAs f g) (more : g.rows ≡ created f.rows p) (ballots : g.ballots ≡ f.ballots) (completion : g.completion ≡ f.completion)
    (sound : IsSoundFamily g) (dues : (b : ℕ) (c : Call) → call_at g b ≡ Some c → AllByRecursion (λ (d : Duty). Contains f.ballots.registrations d.resource) c.left × IsNotBefore c.leg)
    (came : (e : Entry) (r : RetryKey) → Contains g.entries e → e.event.key ≡ Some r → HasMessage w r)
    (sound_now : KeepsDecisions (edge_at w place) (with_family g n)) where
  abbrev v : World
  v = made.v w place s n f g there up same slotted at_place told k key found name free above p branch own_key kind of last inside serial

  abbrev left : Seat
  left = made.left w place s n f g there up same slotted at_place told k key found name free above p branch own_key kind of last inside serial

  abbrev c : Node
  c = with_family g n

  abbrev later : List Told
  later = told ++ tell.Known (lines.Sub name above) ∷ []

  tells : TellsOn is_sub_line told later
  tells = made.tells w place s n f g there up same slotted at_place told k key found name free above p branch own_key kind of last inside serial

  back : (l : Line) → is_sub_line l ≡ false → Stands l (lines_of later) → Stands l (lines_of told)
  back l other x = made.back w place s n f g there up same slotted at_place told k key found name free above p branch own_key kind of last inside serial l other x

  thing_on : (t : List ℕ) (x : Thing) → thing w t ≡ Some x → thing v t ≡ Some x
  thing_on t x is = made.thing_on w place s n f g there up same slotted at_place told k key found name free above p branch own_key kind of last inside serial t x is

  trans_on : (t : List ℕ) (x : ObjectKey) → IsTransaction w t x → IsTransaction v t x
  trans_on t x is = thing_on t (things.Transaction x) is

  trans_cases : (t : List ℕ) (other : ObjectKey) → IsTransaction v t other → IsTransaction w t other ⊎ ((t ≡ name) × (own_key ≡ other))
  trans_cases t other is = made.trans_cases w place s n f g there up same slotted at_place told k key found name free above p branch own_key kind of last inside serial t other is

  top_was : (t : List ℕ) (other : ObjectKey) → IsTransaction v t other → other.index ≡ 0 → IsTransaction w t other
  top_was t other is first = made.top_was w place s n f g there up same slotted at_place told k key found name free above p branch own_key kind of last inside serial t other is first

  unnamed : (t : List ℕ) (x : Thing) → thing w t ≡ Some x → t ≡ name → ⊥
  unnamed t x named is = made.unnamed w place s n f g there up same slotted at_place told k key found name free above p branch own_key kind of last inside serial t x named is

  refers : (to : List ℕ) → referred v to ≡ referred w to
  refers to = made.refers w place s n f g there up same slotted at_place told k key found name free above p branch own_key kind of last inside serial to

  has_same : (q : ℕ) (is_so : JournalRecord → Bool) → has_record v q is_so ≡ has_record w q is_so
  has_same q is_so = made.has w place s n f g there up same slotted at_place told k key found name free above p branch own_key kind of last inside serial q is_so

  records : (q : ℕ) → records_at v q ≡ records_at w q
  records q = made.records w place s n f g there up same slotted at_place told k key found name free above p branch own_key kind of last inside serial q

  families : (x : ObjectKey) (h : Family) → family_at v x ≡ Some h
      → ((h ≡ g) × IsTrue (is_of x g)) ⊎ ((family_at w x ≡ Some h) × (IsTrue (is_of h.key f) → ⊥))
  families x h is = made.families w place s n f g there up same slotted at_place told k key found name free above p branch own_key kind of last inside serial x h is

  -- ---- what was told to participants

  -- a transaction of which a line tells that one is registered with it had its name
  branch_was : (r t : List ℕ) (b : ℕ) (h : Family) → IsRegistered r t (lines_of told) → IsBranch v h t b → IsBranch w h t b
  branch_was r t b h registered (x, named, own, first) = elim (trans_cases t x named) [
    | inl was ↦ (x, was, own, first)
    | inr new ↦ let at = k.names.registered r t registered in absurd (unnamed t (things.Transaction at.1) at.3 new.0)
  ]

  this_branch : (t : List ℕ) (b : ℕ) (h : Family) → h ≡ g → IsBranch w h t b → IsBranch w f t b
  this_branch t b h is (x, named, own, first) =
      (x, named, subst (λ (y : ObjectKey). IsTrue (is_of x (record g { key = y }))) same (subst (λ (y : Family). IsTrue (is_of x y)) is own), first)

  registered_was : (r t : List ℕ) → IsRegistered r t (lines_of later) → IsRegistered r t (lines_of told)
  registered_was r t (end, x) = (end, back _ refl x)

  commit_of : (r t : List ℕ) (b : ℕ) (x : ObjectKey) (h : Family) → IsSent phase_words.Commit r (lines_of told) → IsRegistered r t (lines_of told)
      → ((h ≡ g) × IsTrue (is_of x g)) ⊎ ((family_at w x ≡ Some h) × (IsTrue (is_of h.key f) → ⊥)) → IsBranch v h t b
      → stages.outcome h.completion ≡ Some (outcomes.Commit Record)
  commit_of r t b x h sent registered (inl this) one =
      ap (λ (y : Family). stages.outcome y.completion) this.0 ∙ ap (λ (y : Standing). stages.outcome y) completion
      ∙ k.open_words.commit r t b key f sent registered found (this_branch t b h this.0 (branch_was r t b h registered one))
  commit_of r t b x h sent registered (inr that) one = k.open_words.commit r t b x h sent registered that.0 (branch_was r t b h registered one)

  one_of : (r t : List ℕ) (b : ℕ) (x : ObjectKey) (h : Family) → IsSent phase_words.CommitOnePhase r (lines_of told) → IsRegistered r t (lines_of told)
      → ((h ≡ g) × IsTrue (is_of x g)) ⊎ ((family_at w x ≡ Some h) × (IsTrue (is_of h.key f) → ⊥)) → IsBranch v h t b
      → IsAsking h.completion × (stages.decides_alone h.completion ≡ true)
  one_of r t b x h sent registered (inl this) one =
      subst (λ (y : Family). IsAsking y.completion × (stages.decides_alone y.completion ≡ true)) (sym this.0)
      (subst (λ (y : Standing). IsAsking y × (stages.decides_alone y ≡ true)) (sym completion)
      (k.open_words.one_phase r t b key f sent registered found (this_branch t b h this.0 (branch_was r t b h registered one))))
  one_of r t b x h sent registered (inr that) one = k.open_words.one_phase r t b x h sent registered that.0 (branch_was r t b h registered one)

  open_now : ToldIsOpen v (lines_of later)
  open_now = record {
    commit = λ r t b x h sent registered at one. commit_of r t b x h (sent.0, back _ refl sent.1) (registered_was r t registered) (families x h at) one;
    one_phase = λ r t b x h sent registered at one. one_of r t b x h (sent.0, back _ refl sent.1) (registered_was r t registered) (families x h at) one;
  }

  -- ---- records

  part_back : (r t : List ℕ) → TakesPart r t (known later) → TakesPart r t (known told)
  part_back r t part = made.part_back w place s n f g there up same slotted at_place told k key found name free above p branch own_key kind of last inside serial r t part

  consented_on : (r : List ℕ) → HasConsented r (known told) → HasConsented r (known later)
  consented_on r (inl x) = inl (tells.on _ x)
  consented_on r (inr x) = inr (tells.on _ x)

  rests_on : (x : ObjectKey) (regs : List Named) → RestsOnVotes w told x regs → RestsOnVotes v later x regs
  rests_on x regs was = record {
    name = was.name;
    of_name = trans_on was.name x was.of_name;
    consented = λ r part. consented_on r (was.consented r (part_back r was.name part));
    named = λ to some. ap is_some (refers to) ∙ was.named to some;
    voters = λ to r leads.
        let before = was.voters to r (sym (refers to) ∙ leads) in (
          λ among. (part_among _ _ r.name was.name tells.on (before.0 among).0, tells.on _ (before.0 among).1),
          λ voter. before.1 (part_back r.name was.name voter.0, tells.back _ refl voter.1),
        );
    once = was.once;
  }

  rests_now : RecordsRestOnVotes v later
  rests_now q in_life at_slot numbered retry asked regs rs held among =
      rests_on (recorded_key q in_life at_slot numbered) regs (k.records q in_life at_slot numbered retry asked regs rs (sym (records q) ∙ held) among)

  ends_once : SubtransactionsEndOnce later
  ends_once before behind t committed earlier e x =
      let at = tells.split (lines.SubDone t committed) before behind refl e in
      k.ends before at.0 t committed earlier at.1 x

  -- ---- outcomes

  decided_back : (t : List ℕ) (x : ObjectKey) → IsDecided v later x t → IsDecided w told x t
  decided_back t x (inl line) = inl (tells.back _ refl line)
  decided_back t x (inr stands) = inr (sym (has_same (place_of x) (is_decision_of x)) ∙ stands)

  rolled_back : (t : List ℕ) → IsRolledBack later t → IsRolledBack told t
  rolled_back t (agreed.IsRolledBack.by_known reason x) = agreed.IsRolledBack.by_known reason (tells.back _ refl x)
  rolled_back t (agreed.IsRolledBack.by_other reason x) = agreed.IsRolledBack.by_other reason (tells.reasons_back _ tt x)
  rolled_back t (agreed.IsRolledBack.by_synchronization reason synchronization x) = agreed.IsRolledBack.by_synchronization reason synchronization (tells.reasons_back _ tt x)

  rolled_on : (t : List ℕ) → IsRolledBack told t → IsRolledBack later t
  rolled_on t (agreed.IsRolledBack.by_known reason x) = agreed.IsRolledBack.by_known reason (tells.on _ x)
  rolled_on t (agreed.IsRolledBack.by_other reason x) = agreed.IsRolledBack.by_other reason (tells.reasons_on _ x)
  rolled_on t (agreed.IsRolledBack.by_synchronization reason synchronization x) = agreed.IsRolledBack.by_synchronization reason synchronization (tells.reasons_on _ x)

  recorded_now : DecisionsAreRecorded v later
  recorded_now t x named first line = has_same (place_of x) (is_decision_of x) ∙ k.recorded t x (top_was t x named first) first (tells.back _ refl line)

  one_outcome_now : NoneIsBoth v later
  one_outcome_now t x named first decided (agreed.IsClosed.rolled_back rolled) =
      k.one_outcome t x (top_was t x named first) first (decided_back t x decided) (agreed.IsClosed.rolled_back (rolled_back t rolled))
  one_outcome_now t x named first decided (agreed.IsClosed.outlived l undecided) = undecided decided

  back_now : (h : Family) → h ≡ g → IsBack (stages.outcome f.completion) → IsBack (stages.outcome h.completion)
  back_now h is rolled = subst (λ (y : Family). IsBack (stages.outcome y.completion)) (sym is) (subst (λ (y : Standing). IsBack (stages.outcome y)) (sym completion) rolled)

  back_was : (h : Family) → h ≡ g → IsBack (stages.outcome h.completion) → IsBack (stages.outcome f.completion)
  back_was h is rolled = subst (λ (y : Standing). IsBack (stages.outcome y)) completion (subst (λ (y : Family). IsBack (stages.outcome y.completion)) is rolled)

  rolled_back_now : RollbacksAreOutcomes v later
  rolled_back_now t x h named first at rolled = elim (families x h at) [
    | inl this ↦
        back_now h this.0
        (k.rolled_back t x f (top_was t x named first) first
        (made.found_of w place s n f g there up same slotted at_place told k key found name free above p branch own_key kind of last inside serial x (subst (λ (y : ObjectKey). IsTrue (is_of x (record g { key = y }))) same this.1)) (rolled_back t rolled))
    | inr that ↦ k.rolled_back t x h (top_was t x named first) first that.0 (rolled_back t rolled)
  ]

  told_back_now : RollbacksAreTold v later
  told_back_now t x h at named rolled = elim (families x h at) [
    | inl this ↦
        let key_is : h.key ≡ f.key = ap (λ (y : Family). y.key) this.0 ∙ same in
        let first : h.key.index ≡ 0 = ap (λ (y : ObjectKey). y.index) key_is ∙ (k.families key f found).top in
        rolled_on t (k.told_back t key f found (subst (IsTransaction w t) key_is (top_was t h.key named first)) (back_was h this.0 rolled))
    | inr that ↦ rolled_on t (k.told_back t x h that.0 (top_was t h.key named (k.families x h that.0).top) rolled)
  ]

  -- ---- words of the second phase

  closed_on : (t : List ℕ) (x : ObjectKey) → IsClosed w told x t → IsClosed v later x t
  closed_on t x (agreed.IsClosed.rolled_back rolled) = agreed.IsClosed.rolled_back (rolled_on t rolled)
  closed_on t x (agreed.IsClosed.outlived l undecided) =
      agreed.IsClosed.outlived (record {
        server = l.server;
        named = seat_names_kept w place s left there refl (place_of x) ∙ l.named;
        life = l.life;
        later = l.later;
        up = tells.on _ l.up;
      }) (λ decided. undecided (decided_back t x decided))

  commits_now : CommitsAreRecorded v
  commits_now q o sent commit = has_same q (names_object o.to) ∙ k.commits q o sent commit

  alone_on : (r : List ℕ) → IsAlone w told r → IsAlone v later r
  alone_on r was = record {
    family = was.family;
    key = was.key;
    of_name = trans_on was.family was.key was.of_name;
    participant = part_among _ _ r was.family tells.on was.participant;
    only = λ x part. was.only x (part_back x was.family part);
    unrecorded = λ decided. was.unrecorded (decided_back was.family was.key decided);
  }

  one_phase_now : OnePhaseIsAlone v later
  one_phase_now r (message, x) = alone_on r (k.one_phase r (message, tells.back _ refl x))

  over_on : (t top : List ℕ) (x : ObjectKey) → (IsClosed w told x top ⊎ IsCutOff (known told) t) → (IsClosed v later x top ⊎ IsCutOff (known later) t)
  over_on t top x (inl closed) = inl (closed_on top x closed)
  over_on t top x (inr off) = inr (cut_among _ _ t tells.on off)

  rollbacks_now : RollbacksAreClosed v later
  rollbacks_now q o r sent rollback leads =
      let was = k.rollbacks q o r sent rollback (sym (refers o.to) ∙ leads) in
      record {
        transaction = was.transaction;
        key = was.key;
        named = trans_on was.transaction was.key was.named;
        registered = registered_among _ _ r.name was.transaction tells.on was.registered;
        top = was.top;
        family = trans_on was.top (record was.key { index = 0 }) was.family;
        over = over_on was.transaction was.top (record was.key { index = 0 }) was.over;
      }

  -- ---- transactions, nodes and ends

  own_place : place_of own_key ≡ place
  own_place = made.own_place w place s n f g there up same slotted at_place told k key found name free above p branch own_key kind of last inside serial

  own_life : own_key.life ≡ f.key.life
  own_life = made.own_life w place s n f g there up same slotted at_place told k key found name free above p branch own_key kind of last inside serial

  own_generation : own_key.generation ≡ f.key.generation
  own_generation = made.own_generation w place s n f g there up same slotted at_place told k key found name free above p branch own_key kind of last inside serial

  seat_on : (q : ℕ) → IsTrue (is_some (slice_get w.seats q)) → IsTrue (is_some (slice_get (slice_set w.seats place left) q))
  seat_on q is = elim (set_at w.seats place s left q there) [
    | inl here ↦ ap is_some here.1
    | inr still ↦ ap is_some still ∙ is
  ]

  named_on : (t : List ℕ) → IsNamed w t → IsNamed v t
  named_on t (x, named) = (x, trans_on t x named)

  node_up : node_at w place ≡ Some n
  node_up = node_there w place s n there up

  family_life : f.key.life ≡ life n
  family_life = ((k.disks.whole place s n there up).families f.key.slot f slotted).of_life

  transactions_now : TransactionsAreKnown v later
  transactions_now = record {
    seated = λ t x named. elim (trans_cases t x named) [
      | inl was ↦ seat_on (place_of x) (k.transactions.seated t x was)
      | inr new ↦ subst (λ (y : ObjectKey). IsTrue (is_some (slice_get (slice_set w.seats place left) (place_of y)))) new.1
          (seat_on (place_of own_key) (ap is_some (ap (slice_get w.seats) own_place ∙ there)))
    ];
    lives = λ t x rs named held. elim (trans_cases t x named) [
      | inl was ↦ k.transactions.lives t x rs was (sym (records (place_of x)) ∙ held)
      | inr new ↦
          let in_life = ap (λ (y : ObjectKey). y.life) (sym new.1) ∙ own_life ∙ family_life in
          let at = ap place_of (sym new.1) ∙ own_place in
          let now = ap (λ (y : _). y.life) (found_is w told k place n node_up rs (ap (records_at w) (sym at) ∙ sym (records (place_of x)) ∙ held)) in
          omega (arith, in_life, now)
    ];
    decided = λ t outcome x. named_on t (k.transactions.decided t outcome (tells.back _ refl x));
    rolled_back = λ t rolled. named_on t (k.transactions.rolled_back t (rolled_back t rolled));
  }

  held_on : (q : ℕ) (rs : List JournalRecord) (h : Held) → IsHeldAs w told q rs h → IsHeldAs v later q rs h
  held_on q rs h was = record {
    stood = was.stood;
    there = was.there;
    same_place = was.same_place;
    numbers = was.numbers;
    references = was.references;
    line = λ of_life at_slot numbered retry asked regs is.
        let at = was.line of_life at_slot numbered retry asked regs is in
        (at.0, trans_on at.0 (recorded_key q of_life at_slot numbered) at.1, tells.on _ at.2);
  }

  order_now : (q : ℕ) (a : Node) → NodeIsKnown w told q a → (x : Seat) (rs : List JournalRecord) → slice_get v.seats q ≡ Some x → records_at v q ≡ Some rs
      → IsInOrder (service_at q) x.disk rs
  order_now q a was x rs at held = elim (set_cases w.seats place s left q x there at) [
    | inl here ↦ subst (λ (y : Seat). IsInOrder (service_at q) y.disk rs) here.1 (was.order s rs (ap (slice_get w.seats) here.0 ∙ there) (sym (records q) ∙ held))
    | inr still ↦ was.order x rs still (sym (records q) ∙ held)
  ]

  -- what has its numbers given has them still
  given_now : (q : ℕ) (a : Node) → NodeIsKnown w told q a → (q ≡ place → a ≡ n) → (t : List ℕ) (x : ObjectKey) → IsTransaction v t x → place_of x ≡ q → x.life ≡ life a
      → x.generation ≤ a.generation
  given_now q a was here t x named at in_life = elim (trans_cases t x named) [
    | inl before ↦ was.given t x before at in_life
    | inr new ↦
        let node : a ≡ n = here (sym at ∙ ap place_of (sym new.1) ∙ own_place) in
        let low = ((k.disks.whole place s n there up).families f.key.slot f slotted).given in
        let own = ap (λ (y : ObjectKey). y.generation) (sym new.1) ∙ own_generation in
        let high = ap (λ (y : Node). y.generation) node in
        omega (arith, low, own, high)
  ]

  nodes_now : NodesAreKnown v later
  unfolding node_at
  nodes_now q a is =
      let at = some_of (λ (x : Seat). node_in x.server) (slice_get v.seats q) a is in
      by at.0 (set_cases w.seats place s left q at.0 there at.1) at.2
    where
      inner : {x y : Node} → Some x ≡ Some y → x ≡ y
      inner e = cc

      own_now : NodeIsKnown w told place n → NodeIsKnown v later place c
      own_now was = record {
        sound = edge_kept v w place c (records place) sound_now;
        given = given_now place n was (λ e. refl);
        order = order_now place n was;
        held = λ rs h held among. held_on place rs h (was.held rs h (sym (records place) ∙ held) among);
      }

      other_now : NodeIsKnown w told q a → (q ≡ place → a ≡ n) → NodeIsKnown v later q a
      other_now was here = record {
        sound = edge_kept v w q a (records q) was.sound;
        given = given_now q a was here;
        order = order_now q a was;
        held = λ rs h held among. held_on q rs h (was.held rs h (sym (records q) ∙ held) among);
      }

      by : (x : Seat) → ((q ≡ place) × (left ≡ x)) ⊎ (slice_get w.seats q ≡ Some x) → node_in x.server ≡ Some a → NodeIsKnown v later q a
      by x (inl here) at =
          subst (λ (i : ℕ). NodeIsKnown v later i a) (sym here.0)
          (subst (NodeIsKnown v later place) (inner (ap (λ (y : Seat). node_in y.server) here.1 ∙ at)) (own_now (k.nodes place n node_up)))
      by x (inr still) at =
          let up_at = ap (λ (o : Option Seat). option_and_then (λ (y : Seat). node_in y.server) o) still ∙ at in
          other_now (k.nodes q a up_at) (λ e. inner (sym up_at ∙ ap (node_at w) e ∙ node_up))

  ends_same : (q : ℕ) → end_at v q ≡ end_at w q
  unfolding end_at
  ends_same q = ends_kept w place s left there refl (sym (ap end_in up)) q

  counted_now : EndsHaveCounted v
  counted_now = record {
    numbers = λ q e is. k.counted.numbers q e (sym (ends_same q) ∙ is);
    messages = λ q e is. k.counted.messages q e (sym (ends_same q) ∙ is);
    short = λ q e server is named. k.counted.short q e server (sym (ends_same q) ∙ is) (sym (seat_names_kept w place s left there refl q) ∙ named);
  }

  pub sub_known : Known v later
  sub_known = record {
    names = made.names_now w place s n f g there up same slotted at_place told k key found name free above p branch own_key kind of last inside serial;
    seats = made.seats_now w place s n f g there up same slotted at_place told k key found name free above p branch own_key kind of last inside serial;
    disks = made.disks_now w place s n f g there up same slotted at_place told k key found name free above p branch own_key kind of last inside serial;
    words = made.words_now w place s n f g there up same slotted at_place told k key found name free above p branch own_key kind of last inside serial;
    votes = made.votes_given w place s n f g there up same slotted at_place told k key found name free above p branch own_key kind of last inside serial;
    resources = made.resources_now w place s n f g there up same slotted at_place told k key found name free above p branch own_key kind of last inside serial;
    families = family.families_now w place s n f g there up same slotted at_place told k key found name free above p branch own_key kind of last inside serial more ballots completion sound dues came;
    open_words = open_now;
    records = rests_now;
    recorded = recorded_now;
    ends = ends_once;
    one_outcome = one_outcome_now;
    commits = commits_now;
    one_phase = one_phase_now;
    rollbacks = rollbacks_now;
    rolled_back = rolled_back_now;
    told_back = told_back_now;
    transactions = transactions_now;
    nodes = nodes_now;
    counted = counted_now;
    allowed = made.allowed_now w place s n f g there up same slotted at_place told k key found name free above p branch own_key kind of last inside serial;
  }
