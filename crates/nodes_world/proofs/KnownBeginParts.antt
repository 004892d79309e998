-- What is known once a node has made the family of a top-level transaction.
use Rattle.std.proofs.Common.{◌≡◌, ◌≢◌, ◌⊎◌, inl, inr, ℕ, ◌+◌, ◌<◌, ◌≤◌, ◌==◌, ◌&&◌, Bool, true, false, is_some, IsTrue, List, [], ◌∷◌, ◌++◌, slice_get, slice_set, Contains, Option, Some, None, refl, sym, ap, subst, ◌∙◌, arith}
use Rattle.std.specs.List.{list_any}
use Rattle.std.specs.Option.{option_and_then, option_map_or}
use Rattle.std.proofs.lemmas.Bool.Decides.{nat_tests}
use Rattle.std.proofs.lemmas.List.Folds.{Any-from_list_any}
use Rattle.ior_refs.specs.declared.key.ObjectKey.{ObjectKey}
use Rattle.ots_model.specs.Safe.{Stands, HasConsented, IsRegistered, TakesPart}
use Rattle.ots_model.specs.declared.completion.Ground.TheVariants.{Record}
use Rattle.ots_model.specs.declared.line.Line.{Line}
use Rattle.ots_model.specs.declared.line.Line.TheVariants as lines
use Rattle.ots_model.specs.declared.service.RetryKey.{RetryKey}
use Rattle.ots_model.specs.Numbered.{Outcome}
use Rattle.ots_model.specs.declared.completion.Outcome.TheVariants as outcomes
use Rattle.ots_model.specs.declared.tree.Outward.{Outward}
use Rattle.two_phase.specs.Stages as stages
use Rattle.decision_journal.specs.declared.record.JournalRecord.{JournalRecord}
use Rattle.decision_journal.specs.declared.record.JournalRecord.TheVariants.{Life, Decision, Done, Prepared, CellsPrepared, CellsOutcome, CellsOnePhase}
use Rattle.decision_journal.specs.declared.record.Registration.{Registration as Named}
use Rattle.recovery_coord.specs.Limits.{retold_slot}
use Rattle.recovery_coord.specs.declared.held.Held.{Held}
use Rattle.coordinator.specs.Family.{Family, new_family}
use Rattle.coordinator.specs.Limits.{slot_limit}
use Rattle.coordinator.specs.Node.{Node, family_in, is_of, life}
use Rattle.coordinator.specs.NodeSlots.{next_key}
use Rattle.family_laws.specs.HeldRecords.{IsOfStanding, WasHeld}
use Rattle.family_laws.specs.Sound.{IsSoundFamily}
use Rattle.family_laws.specs.OwnDecisions.{KeepsDecisions}
use Rattle.nodes_world.specs.declared.thing.Thing.{Thing}
use Rattle.nodes_world.specs.declared.thing.Thing.TheVariants as things
use Rattle.nodes_world.specs.Agreement as agreed
use Rattle.nodes_world.specs.Agreement.{FollowsDisk, HasSent, IsAlone, IsClosed, IsCutOff, IsDecided, IsRolledBack, IsTransaction, MayBeRolledBack, RecordsRestOnVotes, RestsOnVotes, VotesWereGiven, CommitsAreRecorded, DecisionsAreRecorded, NoneIsBoth, OnePhaseIsAlone, RollbacksAreClosed, SubtransactionsEndOnce, has_record, is_decision_of, recorded_key, records_at}
use Rattle.nodes_world.specs.AgreementInside.{Known, EndsHaveCounted, FamiliesAreKnown, FamilyIsKnown, IsBack, IsBranch, IsHeldAs, IsListed, IsNamed, NodeIsKnown, NodesAreKnown, OutcomeIsTold, RollbacksAreOutcomes, RollbacksAreTold, ToldIsOpen, TransactionsAreKnown, edge_at, IsNumberedBy}
use Rattle.nodes_world.specs.Laws.{IsInOrder}
use Rattle.nodes_world.specs.Journals.{records_on}
use Rattle.nodes_world.specs.Objects.{place_of, service_at}
use Rattle.nodes_world.specs.Told as tell
use Rattle.nodes_world.specs.Told.{Told, known}
use Rattle.nodes_world.specs.World.{World, Seat, OfNode, end_at, end_in, family_at, node_at, referred, thing, with_name, with_seat}
use Rattle.nodes_world.proofs.Deeds.{node_is_up}
use Rattle.nodes_world.proofs.Edges.{edge_kept}
use Rattle.nodes_world.proofs.Going.{get_set}
use Rattle.nodes_world.proofs.KnownLines.{AreAmong, among_back, among_turned, cut_among, lines_of, not_free, part_among, registered_among, same_key}
use Rattle.nodes_world.proofs.KnownFamilies.{IsSeated, family_found, is_own, same_parts, seated}
use Rattle.nodes_world.proofs.KnownFrames.{known_phase, last_cases, place_within}
use Rattle.nodes_world.proofs.KnownTelling.{TellsOn, tells_on}
use Rattle.nodes_world.proofs.KnownWorlds.{node_there}
use Rattle.nodes_world.proofs.KnownSeats.{ends_kept, seat_names_kept, set_at}
use Rattle.nodes_world.proofs.KnownMakings.{thing_cases, thing_kept}
use Rattle.nodes_world.proofs.KnownTouch.{set_cases, set_other}
use Rattle.nodes_world.proofs.HeldLines.{found_is, held_as}
use Rattle.nodes_world.proofs.KnownBeginFamily.{family_begun}
use Rattle.nodes_world.proofs.KnownBeginLines.{is_top_line, part_before}
use Rattle.nodes_world.proofs.KnownBeginSeats.{has_begun, records_begun, refers_begun}

same_or_not : (a b : ℕ) → (a ≡ b) ⊎ (a ≢ b)
same_or_not a b = grind arith

inner : {A : Type 0} (x y : A) → Some x ≡ Some y → x ≡ y
inner x y e = cc

same_three : (a b c p q r : ℕ) → IsTrue (a == p && b == q && c == r) → (a ≡ p) × (b ≡ q) × (c ≡ r)
same_three a b c p q r is = grind (arith, nat_tests)

four_equal : (a b c d p q r s : ℕ) → a ≡ p → b ≡ q → c ≡ r → d ≡ s → IsTrue (a == p && b == q && c == r && d == s)
four_equal a b c d p q r s one two three four = grind (arith, nat_tests)

-- a record is the decision of a key's family
record IsOwn (key : ObjectKey) (r : JournalRecord) : Type 0 where
  retry : Option RetryKey
  asked : Bool
  regs : List Named
  is : r ≡ Decision key.life key.slot key.generation retry asked regs

own_decision : (key : ObjectKey) (r : JournalRecord) → is_decision_of key r ≡ true → IsOwn key r
own_decision key (Life l) so = absurd cc
own_decision key (Decision l slot generation retry asked regs) so =
    let same = same_three l slot generation key.life key.slot key.generation so in
    record {
      retry = retry;
      asked = asked;
      regs = regs;
      is = ap (λ (x : ℕ). Decision x slot generation retry asked regs) same.0
          ∙ ap (λ (x : ℕ). Decision key.life x generation retry asked regs) same.1
          ∙ ap (λ (x : ℕ). Decision key.life key.slot x retry asked regs) same.2;
    }
own_decision key (Done named) so = absurd cc
own_decision key (Prepared l slot generation recovery regs) so = absurd cc
own_decision key (CellsPrepared l number recovery puts) so = absurd cc
own_decision key (CellsOutcome named how) so = absurd cc
own_decision key (CellsOnePhase l number puts) so = absurd cc

-- a node makes a family in a slot, and its name is given to its top-level transaction
module _ (w : World) (place : ℕ) (name : List ℕ) (deadline : Option ℕ) (slot : ℕ) (s : Seat) (n c : Node) (told : List Told)
    (there : slice_get w.seats place ≡ Some s) (up : s.server ≡ OfNode (Some n)) (free : thing w name ≡ None) (k : Known w told)
    (found_same : c.found ≡ n.found) (families : c.families ≡ slice_set n.families slot (Some (new_family (next_key n slot) deadline)))
    (generation : c.generation ≡ n.generation + 1) (sound : KeepsDecisions (edge_at w place) c)
    (holds : (h : Held) → Contains c.recovered h → WasHeld n.recovered h ⊎ IsOfStanding n.found.standing h) where
  abbrev key : ObjectKey
  key = next_key n slot

  abbrev f : Family
  f = new_family key deadline

  abbrev own : Thing
  own = things.Transaction key

  abbrev left : Seat
  left = record s { server = OfNode (Some c) }

  abbrev v : World
  v = with_name name own (with_seat place left w)

  abbrev line : Line
  line = lines.Top name s.name

  abbrev later : List Told
  later = told ++ tell.Known line ∷ []

  node_up : node_at w place ≡ Some n
  node_up = node_there w place s n there up

  follows : FollowsDisk place s n
  follows = k.disks.follows place s n there up

  key_place : place_of key ≡ place
  key_place = let is = follows.service in omega (arith, is)

  -- ---- lines

  tells : TellsOn is_top_line told later
  tells = tells_on is_top_line told (tell.Known line ∷ []) (refl, tt)

  on : AreAmong (lines_of told) (lines_of later)
  on l stands = among_turned (known later) l (tells.on l (among_back (known told) l stands))

  back : (l : Line) → is_top_line l ≡ false → Stands l (lines_of later) → Stands l (lines_of told)
  back l other stands = among_turned (known told) l (tells.back l other (among_back (known later) l stands))

  tops : (t node : List ℕ) → Stands (lines.Top t node) (known later) → Stands (lines.Top t node) (known told) ⊎ (t ≡ name)
  tops t node stands = elim (last_cases (known told) (lines.Top t node) line (subst (Stands (lines.Top t node)) (known_phase told line) stands)) [
    | inl was ↦ inl was
    | inr new ↦ inr (name_of new)
  ]
    where
      name_of : line ≡ lines.Top t node → t ≡ name
      name_of e = cc

  registered_then : (g t : List ℕ) → IsRegistered g t (lines_of later) → IsRegistered g t (lines_of told)
  registered_then g t (end, stands) = (end, back _ refl stands)

  -- ---- names

  trans_on : (t : List ℕ) (other : ObjectKey) → IsTransaction w t other → IsTransaction v t other
  trans_on t other is = thing_kept w.names ((name, own) ∷ []) t (things.Transaction other) is

  trans_cases : (t : List ℕ) (other : ObjectKey) → IsTransaction v t other → IsTransaction w t other ⊎ ((t ≡ name) × (key ≡ other))
  trans_cases t other is = elim (thing_cases w.names name own t (things.Transaction other) is) [
    | inl was ↦ inl was
    | inr new ↦ inr (new.0, own_key new.1)
  ]
    where
      own_key : own ≡ things.Transaction other → key ≡ other
      own_key e = cc

  -- what had a name has another one
  unnamed : (t : List ℕ) (x : Thing) → thing w t ≡ Some x → t ≡ name → ⊥
  unnamed t x named is = not_free (thing w name) x (subst (λ (y : List ℕ). thing w y ≡ Some x) is named) free

  undecided : Stands (lines.Decide name (outcomes.Commit Record)) (lines_of told) → ⊥
  undecided stands =
      let at = k.transactions.decided name (outcomes.Commit Record) (among_back (known told) _ stands) in
      unnamed name (things.Transaction at.0) at.1 refl

  part_then : (g t : List ℕ) (x : Thing) → thing w t ≡ Some x → TakesPart g t (known later) → TakesPart g t (known told)
  part_then g t x named part = part_before (known later) (known told) name tells.back tops g t (unnamed t x named) part

  -- ---- the new family

  fresh : (other : List ℕ) (branch : ObjectKey) → IsTransaction w other branch → IsTrue (is_of branch f) → ⊥
  fresh other branch named of =
      let parts = same_parts branch.service branch.life branch.slot branch.generation key.service key.life key.slot key.generation of in
      let service = follows.service in
      let own_service = parts.0 in
      let at : place_of branch ≡ place = omega (arith, own_service, service) in
      let less = (k.nodes place n node_up).given other branch named at parts.1 in
      let is = parts.3 in
      omega (arith, less, is)

  pub fresh_key : (other : List ℕ) → IsTransaction w other key → ⊥
  fresh_key other named = fresh other key named (is_own f)

  -- no family that was there has its key
  not_of : (of : ObjectKey) (g : Family) → family_at w of ≡ Some g → IsTrue (is_of key g) → ⊥
  not_of of g at is =
      let old = k.families of g at in
      let parts = same_parts key.service key.life key.slot key.generation g.key.service g.key.life g.key.slot g.key.generation is in
      fresh old.name g.key old.of_name (four_equal _ _ _ _ _ _ _ _ (sym parts.0) (sym parts.1) (sym parts.2) (sym parts.3))

  record IsNew (g : Family) : Type 0 where
    is : g ≡ f
    is_sound : IsSoundFamily g
    slots : slot < slot_limit

  some_node : (m : Node) → OfNode (Some c) ≡ OfNode (Some m) → c ≡ m
  some_node m e = cc

  flat : (o : Option (Option Family)) (g : Family) → option_and_then (λ (x : Option Family). x) o ≡ Some g → o ≡ Some (Some g)
  flat None g e = absurd cc
  flat (Some None) g e = absurd cc
  flat (Some (Some h)) g e = ap (λ (x : Option Family). Some x) e

  -- a family then is the new one, or was there
  family_cases : (of : ObjectKey) (g : Family) → family_at v of ≡ Some g → IsNew g ⊎ (family_at w of ≡ Some g)
  family_cases of g is = by (seated v of g is) (same_or_not (place_of of) place)
    where
      in_slot : (at : IsSeated v of g) → place_of of ≡ place → c ≡ at.node → ((of.slot ≡ slot) × (Some g ≡ Some f)) ⊎ (slice_get n.families of.slot ≡ Some (Some g))
          → IsNew g ⊎ (family_at w of ≡ Some g)
      in_slot at here node (inl new) =
          let slotted : family_in c.families of.slot ≡ Some g = ap (λ (x : Node). family_in x.families of.slot) node ∙ at.slotted in
          let within = place_within c.families of.slot (Some g) (flat (slice_get c.families of.slot) g slotted) in
          let many = sound.sound.slots in
          let same = new.0 in
          inl (record { is = inner g f new.1; is_sound = (sound.sound.families of.slot g slotted).1; slots = omega (arith, within, many, same) })
      in_slot at here node (inr was) =
          inr (family_found w of g (record {
            seat = s;
            node = n;
            there = ap (slice_get w.seats) here ∙ there;
            up = up;
            slotted = ap (λ (o : Option (Option Family)). option_and_then (λ (x : Option Family). x) o) was;
            own = at.own;
          }))

      by : (at : IsSeated v of g) → ((place_of of ≡ place) ⊎ (place_of of ≢ place)) → IsNew g ⊎ (family_at w of ≡ Some g)
      by at (inl here) =
          let seat = inner left at.seat (sym (get_set w.seats place s left there) ∙ ap (slice_get (slice_set w.seats place left)) (sym here) ∙ at.there) in
          let node = some_node at.node (ap (λ (x : Seat). x.server) seat ∙ at.up) in
          let slotted : family_in (slice_set n.families slot (Some f)) of.slot ≡ Some g
          = ap (λ (fs : List (Option Family)). family_in fs of.slot) (sym families) ∙ ap (λ (x : Node). family_in x.families of.slot) node ∙ at.slotted in
          in_slot at here node (set_cases n.families slot of.slot (Some f) (Some g) (flat (slice_get (slice_set n.families slot (Some f)) of.slot) g slotted))
      by at (inr other) =
          inr (family_found w of g (record {
            seat = at.seat;
            node = at.node;
            there = sym (set_other w.seats place (place_of of) left other) ∙ at.there;
            up = at.up;
            slotted = at.slotted;
            own = at.own;
          }))

  -- ---- what a crash keeps

  refers : (to : List ℕ) → referred v to ≡ referred w to
  refers to = refers_begun w place name key s n c told there up free k to

  records_same : (p : ℕ) → records_at v p ≡ records_at w p
  records_same p = records_begun w place name key s n c told there up free k p

  has_same : (p : ℕ) (is_so : JournalRecord → Bool) → has_record v p is_so ≡ has_record w p is_so
  has_same p is_so = has_begun w place name key s n c told there up free k p is_so

  -- no record decides for the new family
  not_own : (rs : List JournalRecord) (r : JournalRecord) → records_at w place ≡ Some rs → Contains rs r → IsOwn key r → ⊥
  not_own rs r held among item =
      let rests = k.records place key.life key.slot key.generation item.retry item.asked item.regs rs held (subst (Contains rs) item.is among) in
      fresh_key rests.name (subst (IsTransaction w rests.name) (ap (λ (x : ℕ). record key { service = x }) (sym follows.service)) rests.of_name)

  unrecorded : IsTrue (has_record v (place_of key) (is_decision_of key)) → ⊥
  unrecorded has =
      let held : records_at w place ≡ Some follows.records
      = ap (λ (o : Option Seat). option_and_then (λ (x : Seat). records_on (service_at place) x.disk) o) there ∙ follows.held in
      let some = Any-from_list_any (is_decision_of key) follows.records
      (sym (ap (λ (o : Option (List JournalRecord)). option_map_or (λ (rs : List JournalRecord). list_any (is_decision_of key) rs) o false)
      (ap (records_at w) key_place ∙ held)) ∙ sym (has_same (place_of key) (is_decision_of key)) ∙ has) in
      not_own follows.records some.1 held (some.0, some.2, some.3) (own_decision key some.1 some.4)

  -- ---- families

  branch_on : (g : Family) (t : List ℕ) (b : ℕ) → IsBranch w g t b → IsBranch v g t b
  branch_on g t b (other, named, of, is) = (other, trans_on t other named, of, is)

  branch_back : (of : ObjectKey) (g : Family) → family_at w of ≡ Some g → (t : List ℕ) (b : ℕ) → IsBranch v g t b → IsBranch w g t b
  branch_back of g at t b (other, named, own_of, is) = elim (trans_cases t other named) [
    | inl was ↦ (other, was, own_of, is)
    | inr new ↦ absurd (not_of of g at (subst (λ (x : ObjectKey). IsTrue (is_of x g)) (sym new.1) own_of))
  ]

  listed_on : (g : Family) (t : List ℕ) (b : ℕ) → IsListed w g t b → IsListed v g t b
  listed_on g t b (d, r, object, among, is, leads, named) = (d, r, object, among, is, refers r.to ∙ leads, named)

  listed_back : (g : Family) (t : List ℕ) (b : ℕ) → IsListed v g t b → IsListed w g t b
  listed_back g t b (d, r, object, among, is, leads, named) = (d, r, object, among, is, sym (refers r.to) ∙ leads, named)

  outcome_on : (o : Option Outcome) (t : List ℕ) → OutcomeIsTold o t (lines_of told) → OutcomeIsTold o t (lines_of later)
  outcome_on None t is = λ stands. is (back _ refl stands)
  outcome_on (Some (outcomes.Commit basis)) t is = on _ is
  outcome_on (Some (outcomes.Rollback reason)) t is = λ stands. is (back _ refl stands)
  outcome_on (Some outcomes.Unknown) t is = λ stands. is (back _ refl stands)

  family_on : (of : ObjectKey) (g : Family) → family_at w of ≡ Some g → FamilyIsKnown w (lines_of told) g → FamilyIsKnown v (lines_of later) g
  family_on of g at old = record {
    sound = old.sound;
    name = old.name;
    of_name = trans_on old.name g.key old.of_name;
    top = old.top;
    branches = λ b less. let was = old.branches b less in (was.0, branch_on g was.0 b was.1);
    no_further = λ t b branch. old.no_further t b (branch_back of g at t b branch);
    parents = λ t above b p branch higher.
        let was = old.parents t above b p (branch_back of g at t b branch) (branch_back of g at above p higher) in
        (λ stands. was.0 (back _ refl stands), λ e. on _ (was.1 e));
    ends = λ t b committed branch below.
        let was = old.ends t b committed (branch_back of g at t b branch) below in
        (λ stands. was.0 (back _ refl stands), λ e. on _ (was.1 e));
    registrations = λ r t b branch.
        let was = old.registrations r t b (branch_back of g at t b branch) in
        (λ stands. listed_on g r b (was.0 (registered_then r t stands)), λ l. registered_among _ _ r t on (was.1 (listed_back g r b l)));
    own = λ r object t among leads registered.
        branch_on g t r.branch (old.own r object t among (sym (refers r.to) ∙ leads) (registered_then object.name t registered));
    numbered = old.numbered;
    unsynchronized = old.unsynchronized;
    named = λ r among. ap is_some (refers r.to) ∙ old.named r among;
    apart = old.apart;
    within = old.within;
    came = old.came;
    dues = old.dues;
    legs = old.legs;
    ready = old.ready;
    few = old.few;
    settled = old.settled;
    votes = λ number vote r object among is leads.
        let was = old.votes number vote r object among is (sym (refers r.to) ∙ leads) in
        (λ e. on _ (was.0 e), λ stands. was.1 (back _ refl stands));
    outcome = outcome_on (stages.outcome g.completion) old.name old.outcome;
    recorded =
        let same = has_same (place_of g.key) (is_decision_of g.key) in
        (λ has. old.recorded.0 (sym same ∙ has), λ e. same ∙ old.recorded.1 e);
  }

  family_new : (g : Family) → IsNew g → FamilyIsKnown v (lines_of later) g
  family_new g new =
      subst (FamilyIsKnown v (lines_of later)) (sym new.is)
      (family_begun w name s.name key deadline (slice_set w.seats place left) told free k refl fresh undecided (subst IsSoundFamily new.is new.is_sound) unrecorded)

  pub families_begun : FamiliesAreKnown v (lines_of later)
  families_begun of g is = elim (family_cases of g is) [
    | inl new ↦ family_new g new
    | inr was ↦ family_on of g was (k.families of g was)
  ]

  -- nothing was told to a participant of the new family
  no_registration : (r t : List ℕ) (b : ℕ) (g : Family) → IsNew g → IsRegistered r t (lines_of told) → IsBranch v g t b → ⊥
  no_registration r t b g new registered (other, named, of, is) =
      let at = k.names.registered r t registered in
      fresh t at.1 at.3 (subst (λ (x : ObjectKey). IsTrue (is_of x f)) (same_named at.1 at.3) (subst (λ (x : Family). IsTrue (is_of other x)) new.is of))
    where
      same_named : (x : ObjectKey) → IsTransaction w t x → other ≡ x
      same_named x was = elim (trans_cases t other named) [
        | inl old ↦ same_key (thing w t) other x old was
        | inr now ↦ absurd (unnamed t (things.Transaction x) was now.0)
      ]

  pub open_begun : ToldIsOpen v (lines_of later)
  open_begun = record {
    commit = λ r t b of g sent registered is branch. elim (family_cases of g is) [
      | inl new ↦ absurd (no_registration r t b g new (registered_then r t registered) branch)
      | inr was ↦ k.open_words.commit r t b of g (sent.0, back _ refl sent.1) (registered_then r t registered) was (branch_back of g was t b branch)
    ];
    one_phase = λ r t b of g sent registered is branch. elim (family_cases of g is) [
      | inl new ↦ absurd (no_registration r t b g new (registered_then r t registered) branch)
      | inr was ↦ k.open_words.one_phase r t b of g (sent.0, back _ refl sent.1) (registered_then r t registered) was (branch_back of g was t b branch)
    ];
  }

  -- ---- votes and records

  pub votes_begun : VotesWereGiven v later
  votes_begun voter vote stands =
      let g = k.votes voter vote (tells.back _ refl stands) in
      record {
        request = g.request;
        from = g.from;
        asked = g.asked;
        sent = g.sent;
        prepare = g.prepare;
        resource = g.resource;
        object = refers g.asked.to ∙ g.object;
        same_name = g.same_name;
        reply = g.reply;
        answer = g.answer;
        answered = g.answered;
        says = g.says;
      }

  consented_on : (g : List ℕ) → HasConsented g (known told) → HasConsented g (known later)
  consented_on g (inl stands) = inl (tells.on _ stands)
  consented_on g (inr stands) = inr (tells.on _ stands)

  rests_on : (family : ObjectKey) (regs : List Named) → RestsOnVotes w told family regs → RestsOnVotes v later family regs
  rests_on family regs old = record {
    name = old.name;
    of_name = trans_on old.name family old.of_name;
    consented = λ p part. consented_on p (old.consented p (part_then p old.name (things.Transaction family) old.of_name part));
    named = λ to some. ap is_some (refers to) ∙ old.named to some;
    voters = λ to r leads.
        let was = old.voters to r (sym (refers to) ∙ leads) in (
          λ among. (part_among _ _ r.name old.name tells.on (was.0 among).0, tells.on _ (was.0 among).1),
          λ voter. was.1 (part_then r.name old.name (things.Transaction family) old.of_name voter.0, tells.back _ refl voter.1),
        );
    once = old.once;
  }

  pub rests_begun : RecordsRestOnVotes v later
  rests_begun p in_life at_slot numbered retry asked regs rs held among =
      rests_on (recorded_key p in_life at_slot numbered) regs
      (k.records p in_life at_slot numbered retry asked regs rs (sym (records_same p) ∙ held) among)

  pub ends_begun : SubtransactionsEndOnce later
  ends_begun before behind t committed earlier e stands =
      let at = tells.split (lines.SubDone t committed) before behind refl e in
      k.ends before at.0 t committed earlier at.1 stands

  -- ---- outcomes

  not_decided : (outcome : _) → Stands (lines.Decide name outcome) (known told) → ⊥
  not_decided outcome stands = let at = k.transactions.decided name outcome stands in unnamed name (things.Transaction at.0) at.1 refl

  decided_back : (t : List ℕ) (other : ObjectKey) → IsDecided v later other t → IsDecided w told other t
  decided_back t other (inl stands) = inl (tells.back _ refl stands)
  decided_back t other (inr has) = inr (sym (has_same (place_of other) (is_decision_of other)) ∙ has)

  rolled_back_back : (t : List ℕ) → IsRolledBack later t → IsRolledBack told t
  rolled_back_back t (agreed.IsRolledBack.by_known reason stands) = agreed.IsRolledBack.by_known reason (tells.back _ refl stands)
  rolled_back_back t (agreed.IsRolledBack.by_other reason among) = agreed.IsRolledBack.by_other reason (tells.reasons_back _ tt among)
  rolled_back_back t (agreed.IsRolledBack.by_synchronization reason synchronization among) =
      agreed.IsRolledBack.by_synchronization reason synchronization (tells.reasons_back _ tt among)

  rolled_back_on : (t : List ℕ) → IsRolledBack told t → IsRolledBack later t
  rolled_back_on t (agreed.IsRolledBack.by_known reason stands) = agreed.IsRolledBack.by_known reason (tells.on _ stands)
  rolled_back_on t (agreed.IsRolledBack.by_other reason among) = agreed.IsRolledBack.by_other reason (tells.reasons_on _ among)
  rolled_back_on t (agreed.IsRolledBack.by_synchronization reason synchronization among) =
      agreed.IsRolledBack.by_synchronization reason synchronization (tells.reasons_on _ among)

  not_rolled_back : IsRolledBack told name → ⊥
  not_rolled_back rolled = let at = k.transactions.rolled_back name rolled in unnamed name (things.Transaction at.0) at.1 refl

  pub recorded_begun : DecisionsAreRecorded v later
  recorded_begun t other named top stands = elim (trans_cases t other named) [
    | inl was ↦ has_same (place_of other) (is_decision_of other) ∙ k.recorded t other was top (tells.back _ refl stands)
    | inr new ↦ absurd (not_decided _ (subst (λ (x : List ℕ). Stands (lines.Decide x (outcomes.Commit Record)) (known told)) new.0 (tells.back _ refl stands)))
  ]

  pub one_outcome_begun : NoneIsBoth v later
  one_outcome_begun t other named top decided closed = by (trans_cases t other named) decided closed
    where
      new_key : key ≡ other → IsDecided v later other t → t ≡ name → ⊥
      new_key same (inl stands) is =
          not_decided _ (subst (λ (x : List ℕ). Stands (lines.Decide x (outcomes.Commit Record)) (known told)) is (tells.back _ refl stands))
      new_key same (inr has) is = unrecorded (subst (λ (x : ObjectKey). IsTrue (has_record v (place_of x) (is_decision_of x))) (sym same) has)

      by : IsTransaction w t other ⊎ ((t ≡ name) × (key ≡ other)) → IsDecided v later other t → IsClosed v later other t → ⊥
      by (inl was) decided (agreed.IsClosed.rolled_back rolled) =
          k.one_outcome t other was top (decided_back t other decided) (agreed.IsClosed.rolled_back (rolled_back_back t rolled))
      by (inl was) decided (agreed.IsClosed.outlived l undecided) = undecided decided
      by (inr new) decided closed = new_key new.1 decided new.0

  pub rolled_back_begun : RollbacksAreOutcomes v later
  rolled_back_begun t other g named top is rolled = elim (trans_cases t other named) [
    | inl was ↦ elim (family_cases other g is) [
      | inl new ↦ absurd (fresh t other was (subst (λ (x : Family). IsTrue (is_of other x)) new.is (seated v other g is).own))
      | inr there ↦ k.rolled_back t other g was top there (rolled_back_back t rolled)
    ]
    | inr new ↦ absurd (not_rolled_back (subst (IsRolledBack told) new.0 (rolled_back_back t rolled)))
  ]

  pub told_back_begun : RollbacksAreTold v later
  told_back_begun t of g is named rolled = elim (family_cases of g is) [
    | inl new ↦ absurd (subst (λ (x : Family). IsBack (stages.outcome x.completion)) new.is rolled)
    | inr was ↦ elim (trans_cases t g.key named) [
      | inl old ↦ rolled_back_on t (k.told_back t of g was old rolled)
      | inr new ↦ absurd (not_of of g was (subst (λ (x : ObjectKey). IsTrue (is_of x g)) (sym new.1) (is_own g)))
    ]
  ]

  -- ---- words of the second phase

  closed_on : (t : List ℕ) (other : ObjectKey) → IsClosed w told other t → IsClosed v later other t
  closed_on t other (agreed.IsClosed.rolled_back rolled) = agreed.IsClosed.rolled_back (rolled_back_on t rolled)
  closed_on t other (agreed.IsClosed.outlived l undecided) =
      agreed.IsClosed.outlived (record {
        server = l.server;
        named = seat_names_kept w place s left there refl (place_of other) ∙ l.named;
        life = l.life;
        later = l.later;
        up = tells.on _ l.up;
      }) (λ decided. undecided (decided_back t other decided))

  pub commits_begun : CommitsAreRecorded v
  commits_begun p o sent commit = has_same p _ ∙ k.commits p o sent commit

  alone_on : (g : List ℕ) → IsAlone w told g → IsAlone v later g
  alone_on g old = record {
    family = old.family;
    key = old.key;
    of_name = trans_on old.family old.key old.of_name;
    participant = part_among _ _ g old.family tells.on old.participant;
    only = λ p part. old.only p (part_then p old.family (things.Transaction old.key) old.of_name part);
    unrecorded = λ decided. old.unrecorded (decided_back old.family old.key decided);
  }

  pub one_phase_begun : OnePhaseIsAlone v later
  one_phase_begun g (message, stands) = alone_on g (k.one_phase g (message, tells.back _ refl stands))

  over_on : (transaction top : List ℕ) (other : ObjectKey) → (IsClosed w told other top ⊎ IsCutOff (known told) transaction)
      → (IsClosed v later other top ⊎ IsCutOff (known later) transaction)
  over_on transaction top other (inl closed) = inl (closed_on top other closed)
  over_on transaction top other (inr off) = inr (cut_among _ _ transaction tells.on off)

  may_be_on : (g : List ℕ) → MayBeRolledBack w told g → MayBeRolledBack v later g
  may_be_on g old = record {
    transaction = old.transaction;
    key = old.key;
    named = trans_on old.transaction old.key old.named;
    registered = registered_among _ _ g old.transaction tells.on old.registered;
    top = old.top;
    family = trans_on old.top (record old.key { index = 0 }) old.family;
    over = over_on old.transaction old.top (record old.key { index = 0 }) old.over;
  }

  pub rollbacks_begun : RollbacksAreClosed v later
  rollbacks_begun p o r sent rollback leads = may_be_on r.name (k.rollbacks p o r sent rollback (sym (refers o.to) ∙ leads))

  -- ---- words

  life_same : life c ≡ life n
  life_same = ap (λ (x : _). x.life) found_same

  rises : n.generation ≤ c.generation
  rises = omega (arith, generation)

  pub given_begun : (p : ℕ) (x : Seat) (m : Node) (o : Outward) → slice_get v.seats p ≡ Some x → x.server ≡ OfNode (Some m) → HasSent v p o
      → o.number.life ≡ life m → (o.number.slot ≡ retold_slot) ⊎ (o.number.generation ≤ m.generation)
  given_begun p x m o at is sent same = by (same_or_not p place)
    where
      further : (m : Node) → c ≡ m → o.number.generation ≤ n.generation → o.number.generation ≤ m.generation
      further m own less = let more = rises in let as_many = ap (λ (y : Node). y.generation) own in omega (arith, less, more, as_many)

      by : (p ≡ place) ⊎ (p ≢ place) → (o.number.slot ≡ retold_slot) ⊎ (o.number.generation ≤ m.generation)
      by (inl here) =
          let seat = inner left x (sym (get_set w.seats place s left there) ∙ ap (slice_get (slice_set w.seats place left)) (sym here) ∙ at) in
          let own = some_node m (ap (λ (y : Seat). y.server) seat ∙ is) in
          elim (k.words.given place s n o there up (subst (λ (i : ℕ). HasSent w i o) here sent) (same ∙ ap life (sym own) ∙ life_same)) [
            | inl again ↦ inl again
            | inr less ↦ inr (further m own less)
          ]
      by (inr other) = k.words.given p x m o (sym (set_other w.seats place p left other) ∙ at) is sent same

  pub serials_begun : (p : ℕ) (o : Outward) (g : Family) (of : ObjectKey) → HasSent v p o → family_at v of ≡ Some g → o.number.life ≡ g.key.life
      → o.number.slot ≡ g.key.slot → o.number.generation ≡ g.key.generation → place_of g.key ≡ p → IsNumberedBy g o
  serials_begun p o g of sent is in_life at_slot numbered at = elim (family_cases of g is) [
    | inl new ↦ absurd (no_word (new.slots) (in_life ∙ ap (λ (x : Family). x.key.life) new.is) (at_slot ∙ ap (λ (x : Family). x.key.slot) new.is)
        (numbered ∙ ap (λ (x : Family). x.key.generation) new.is) (sym at ∙ ap (λ (x : Family). place_of x.key) new.is ∙ key_place))
    | inr was ↦ k.words.serials p o g of sent was in_life at_slot numbered at
  ]
    where
      none : slot < slot_limit → o.number.slot ≡ slot → o.number.generation ≡ n.generation + 1
          → (o.number.slot ≡ retold_slot) ⊎ (o.number.generation ≤ n.generation) → ⊥
      none less same number (inl again) = omega (arith, less, same, again)
      none less same number (inr old) = omega (arith, number, old)

      no_word : slot < slot_limit → o.number.life ≡ life n → o.number.slot ≡ slot → o.number.generation ≡ n.generation + 1 → p ≡ place → ⊥
      no_word less life_is same number here =
          none less same number (k.words.given place s n o there up (subst (λ (i : ℕ). HasSent w i o) here sent) life_is)

  -- ---- transactions, nodes and ends

  seat_on : (p : ℕ) → IsTrue (is_some (slice_get w.seats p)) → IsTrue (is_some (slice_get (slice_set w.seats place left) p))
  seat_on p is = elim (set_at w.seats place s left p there) [
    | inl here ↦ ap is_some here.1
    | inr same ↦ ap is_some same ∙ is
  ]

  named_on : (t : List ℕ) → IsNamed w t → IsNamed v t
  named_on t (other, named) = (other, trans_on t other named)

  pub transactions_begun : TransactionsAreKnown v later
  transactions_begun = record {
    seated = λ t other named. elim (trans_cases t other named) [
      | inl was ↦ seat_on (place_of other) (k.transactions.seated t other was)
      | inr new ↦ subst (λ (x : ObjectKey). IsTrue (is_some (slice_get (slice_set w.seats place left) (place_of x)))) new.1
          (seat_on (place_of key) (ap is_some (ap (slice_get w.seats) key_place ∙ there)))
    ];
    lives = λ t other rs named held. elim (trans_cases t other named) [
      | inl was ↦ k.transactions.lives t other rs was (sym (records_same (place_of other)) ∙ held)
      | inr new ↦
          let own = ap (λ (x : ObjectKey). x.life) new.1 in
          let at = ap place_of (sym new.1) ∙ key_place in
          let found = ap (λ (x : _). x.life) (found_is w told k place n node_up rs (ap (records_at w) (sym at) ∙ sym (records_same (place_of other)) ∙ held)) in
          omega (arith, own, found)
    ];
    decided = λ t outcome stands. named_on t (k.transactions.decided t outcome (tells.back _ refl stands));
    rolled_back = λ t rolled. named_on t (k.transactions.rolled_back t (rolled_back_back t rolled));
  }

  held_on : (p : ℕ) (rs : List JournalRecord) (h : Held) → IsHeldAs w told p rs h → IsHeldAs v later p rs h
  held_on p rs h old = record {
    stood = old.stood;
    there = old.there;
    same_place = old.same_place;
    numbers = old.numbers;
    references = old.references;
    line = λ of_life at_slot numbered retry asked regs is.
        let was = old.line of_life at_slot numbered retry asked regs is in
        (was.0, trans_on was.0 (recorded_key p of_life at_slot numbered) was.1, tells.on _ was.2);
  }

  node_new : NodeIsKnown v later place c
  node_new = record {
    sound = edge_kept v w place c (records_same place) sound;
    given = λ t other named at in_life. elim (trans_cases t other named) [
      | inl was ↦
          let less = (k.nodes place n node_up).given t other was at (in_life ∙ life_same) in
          let more = rises in
          omega (arith, less, more)
      | inr new ↦ let own = ap (λ (x : ObjectKey). x.generation) new.1 in omega (arith, own, generation)
    ];
    order = λ x rs at held.
        let seat = inner left x (sym (get_set w.seats place s left there) ∙ at) in
        subst (λ (y : Seat). IsInOrder (service_at place) y.disk rs) seat
        ((k.nodes place n node_up).order s rs there (sym (records_same place) ∙ held));
    held = λ rs h held among. held_on place rs h (held_as w told k place n node_up rs (sym (records_same place) ∙ held) h (holds h among));
  }

  node_old : (p : ℕ) (m : Node) (x : Seat) → p ≢ place → slice_get w.seats p ≡ Some x → x.server ≡ OfNode (Some m) → NodeIsKnown v later p m
  node_old p m x other at is =
      let old = k.nodes p m (node_there w p x m at is) in
      record {
        sound = edge_kept v w p m (records_same p) old.sound;
        given = λ t key_of named here in_life. elim (trans_cases t key_of named) [
          | inl was ↦ old.given t key_of was here in_life
          | inr new ↦ absurd (other (sym here ∙ ap place_of (sym new.1) ∙ key_place))
        ];
        order = λ y rs now held. old.order y rs (sym (set_other w.seats place p left other) ∙ now) (sym (records_same p) ∙ held);
        held = λ rs h held among. held_on p rs h (old.held rs h (sym (records_same p) ∙ held) among);
      }

  pub nodes_begun : NodesAreKnown v later
  nodes_begun p m is =
      let at = node_is_up v p m is in
      elim (same_or_not p place) [
        | inl here ↦
            let seat = inner left at.seat (sym (get_set w.seats place s left there) ∙ ap (slice_get (slice_set w.seats place left)) (sym here) ∙ at.there) in
            subst (λ (i : ℕ). NodeIsKnown v later i m) (sym here)
            (subst (NodeIsKnown v later place) (some_node m (ap (λ (x : Seat). x.server) seat ∙ at.up)) node_new)
        | inr other ↦ node_old p m at.seat other (sym (set_other w.seats place p left other) ∙ at.there) at.up
      ]

  pub counted_begun : EndsHaveCounted v
  unfolding end_at
  counted_begun = record {
    numbers = λ p e is. k.counted.numbers p e (sym (ends_kept w place s left there refl (sym (ap end_in up)) p) ∙ is);
    messages = λ p e is. k.counted.messages p e (sym (ends_kept w place s left there refl (sym (ap end_in up)) p) ∙ is);
    short = λ p e n is named. k.counted.short p e n (sym (ends_kept w place s left there refl (sym (ap end_in up)) p) ∙ is) (sym (seat_names_kept w place s left there refl p) ∙ named);
  }
