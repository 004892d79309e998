-- What is known of a world is known once a resource that has its name is registered with a transaction.
use Rattle.std.proofs.Common.{◌≡◌, ◌⊎◌, ◌↔◌, inl, inr, ℕ, ◌+◌, ◌-◌, ◌<◌, ◌≤◌, ◌==◌, ◌&&◌, Bool, true, false, is_some, IsTrue, List, [], ◌∷◌, ◌++◌, length, map, reverse, slice_get, Contains, Option, Some, None, refl, sym, ap, subst, ◌∙◌, arith}
use Rattle.std.specs.List.{AllByRecursion, list_any}
use Rattle.std.specs.Option.{option_map_or}
use Rattle.std.proofs.lemmas.Bool.Decides.{nat_tests}
use Rattle.std.proofs.lemmas.List.Elements.{Contains-append_cases, Contains-append_right, Contains-push_cases}
use Rattle.std.proofs.lemmas.List.Folds.{list_any-from_Any}
use Rattle.std.proofs.lemmas.Option.{slice_get-get_or}
use Rattle.ior_refs.specs.declared.key.ObjectKey.{ObjectKey}
use Rattle.ots_model.specs.Safe as safe
use Rattle.ots_model.specs.Safe.{Stands, HasConsented, IsFamily, IsJoined, IsRegistered, IsSent, TakesPart}
use Rattle.ots_model.specs.SafeByLine.{AreAllowed, CanRegister}
use Rattle.ots_model.specs.declared.completion.Ground.TheVariants.{Record}
use Rattle.ots_model.specs.declared.completion.Vote.{Vote}
use Rattle.ots_model.specs.declared.completion.Word.{Word as Phase}
use Rattle.ots_model.specs.declared.completion.Word.TheVariants as phase_words
use Rattle.ots_model.specs.declared.line.Line.{Line}
use Rattle.ots_model.specs.declared.line.Line.TheVariants as lines
use Rattle.ots_model.specs.declared.service.RetryKey.{RetryKey}
use Rattle.ots_model.specs.Numbered.{Outcome}
use Rattle.ots_model.specs.declared.completion.Outcome.TheVariants as outcomes
use Rattle.ots_model.specs.declared.tree.Outward.{Outward}
use Rattle.decision_journal.specs.Journal.{Holds, found_in}
use Rattle.decision_journal.specs.Laws.{IsSettled}
use Rattle.decision_journal.specs.declared.record.JournalRecord.{JournalRecord}
use Rattle.decision_journal.specs.declared.record.JournalRecord.TheVariants.{Decision}
use Rattle.decision_journal.specs.declared.record.Registration.{Registration as Named}
use Rattle.recovery_coord.specs.Limits.{retold_slot}
use Rattle.recovery_coord.specs.declared.held.Held.{Held}
use Rattle.resource_votes.specs.Ballots.{participants}
use Rattle.resource_votes.specs.declared.registration.Registration.{Registration}
use Rattle.txn_tree.specs.Rows.{parent, state}
use Rattle.two_phase.specs.Stages as stages
use Rattle.two_phase.specs.Stages.{Standing as Completion, Waiting, Going as UnderWay}
use Rattle.two_phase.specs.declared.party.Party.{Party}
use Rattle.coordinator.specs.Family.{Call, Duty, Family, call_at}
use Rattle.coordinator.specs.Node.{Node, family_in, is_of, life, with_family}
use Rattle.coordinator.specs.NodeParts.{IsWhole}
use Rattle.coordinator.specs.Phases.{column, is_open}
use Rattle.coordinator.specs.declared.said.Entry.{Entry}
use Rattle.family_laws.specs.LawsOfTelling.{IsVoted}
use Rattle.family_laws.specs.Sound.{HasParties, IsAsking, IsSoundFamily}
use Rattle.family_laws.specs.OwnDecisions.{KeepsDecisions}
use Rattle.nodes_world.specs.declared.thing.Thing.TheVariants as things
use Rattle.nodes_world.specs.Agreement as agreed
use Rattle.nodes_world.specs.Agreement.{FollowsDisk, HasSent, HoldsDecisions, IsAlone, IsClosed, IsCutOff, IsDecided, IsRolledBack, IsTransaction, RecordsRestOnVotes, RestsOnVotes, StatesFollow, VotesWereGiven, NoneIsBoth, OnePhaseIsAlone, RollbacksAreClosed, has_record, is_decision_of, names_object, recorded_key, records_at}
use Rattle.nodes_world.specs.AgreementInside.{Known, DisksAreKnown, EndsHaveCounted, FamiliesAreKnown, FamilyIsKnown, HasAnswered, HasMessage, IsBack, IsBranch, IsHeldAs, IsListed, IsMade, NamesAreTold, NodeIsKnown, NodesAreKnown, OutcomeIsTold, ResourceIsKnown, ResourcesAreKnown, RollbacksAreOutcomes, RollbacksAreTold, SeatsAreNamed, ToldIsOpen, TransactionsAreKnown, WordsAreTold, IsNotBefore, edge_at, IsNumberedBy, AreFew}
use Rattle.nodes_world.specs.Laws.{IsInOrder}
use Rattle.nodes_world.specs.Objects.{place_of, service_at}
use Rattle.nodes_world.specs.Told as tell
use Rattle.nodes_world.specs.Told.{Told, known}
use Rattle.nodes_world.specs.World.{World, Seat, OfNode, FlatResource, NamedKey, family_at, referred, thing}
use Rattle.nodes_world.proofs.CanRegister.{not_asking, open_column, open_family}
use Rattle.nodes_world.proofs.CanGo.{first_key}
use Rattle.nodes_world.proofs.Deeds.{node_is_up}
use Rattle.nodes_world.proofs.Edges.{edge_kept}
use Rattle.nodes_world.proofs.KnownFamilies.{all_at, branch_joined, commits_asking, family_found, is_own, same_of_branch, same_parts}
use Rattle.nodes_world.proofs.KnownFrames.{newest_phase, push_cases}
use Rattle.nodes_world.proofs.KnownLines.{AreAmong, among_back, among_turned, cut_among, joined_among, joined_of, lines_of, of_key, part_among, registered_among, same_key}
use Rattle.nodes_world.proofs.KnownRequests.{follows_kept, unvoted_kept, voted_kept}
use Rattle.nodes_world.proofs.KnownSeats.{seat_names_kept, seats_kept, set_at, set_cases}
use Rattle.nodes_world.proofs.KnownTelling.{IsOne, TellsOn, tells_on, unknown_same}
use Rattle.nodes_world.proofs.KnownWorlds.{node_there}
use Rattle.nodes_world.proofs.RulesKeep.{registered_of}
use Rattle.nodes_world.proofs.StepSeats as seats
use Rattle.ots_model.specs.declared.completion.Vote.TheVariants.{VoteCommit}
use Rattle.nodes_world.proofs.NumberedWords.{IsNumberedAs, numbered_as}

inner : {A : Type 0} (x y : A) → Some x ≡ Some y → x ≡ y
inner x y e = cc

-- it tells of a registration
abbrev pub is_reg_line : Line → Bool
is_reg_line (lines.Reg g t end) = true
is_reg_line _ = false

-- the line of one that takes part, and of one that is told of a subtransaction's end alone
abbrev pub line_of : Bool → List ℕ → List ℕ → List ℕ → Told
line_of true name t end = tell.Known (lines.Reg name t end)
line_of false name t end = tell.Aware name t end

line_one : (listed : Bool) (name t end : List ℕ) → IsOne is_reg_line (line_of listed name t end)
line_one true name t end = refl
line_one false name t end = tt

-- a registration has no number that was not given
index_within : (xs : List Registration) → ((i : ℕ) (r : Registration) → slice_get xs i ≡ Some r → r.index ≡ i + 1) → (r : Registration) → Contains xs r
    → r.index ≤ length xs
index_within xs numbered r (i, less, is) =
    let at = numbered i r (slice_get-get_or xs i r less ∙ ap (λ (x : Registration). Some x) is) in
    omega (arith, at, less)

party_index : (ps : List Party) (rs : List Registration) (p : Party) → map (λ (x : Party). x.index) ps ≡ map (λ (r : Registration). r.index) rs → Contains ps p
    → (r : Registration) × Contains rs r × (r.index ≡ p.index)
party_index [] rs p same (i, less, is) = absurd (omega (arith, less))
party_index (q ∷ ps) [] p same c = absurd cc
party_index (q ∷ ps) (r ∷ rs) p same c = elim (Contains-append_cases (q ∷ []) ps p c) [
  | inl first ↦ (r, (0, omega arith, refl), sym (head_of _ _ _ _ same) ∙ ap (λ (x : Party). x.index) (first_of q p first))
  | inr later ↦ let at = party_index ps rs p (tail_of _ _ _ _ same) later in (at.0, Contains-append_right (r ∷ []) rs at.0 at.1, at.2)
]
  where
    head_of : (a b : ℕ) (xs ys : List ℕ) → a ∷ xs ≡ b ∷ ys → a ≡ b
    head_of a b xs ys e = cc

    tail_of : (a b : ℕ) (xs ys : List ℕ) → a ∷ xs ≡ b ∷ ys → xs ≡ ys
    tail_of a b xs ys e = cc

    first_of : (x y : Party) → Contains (x ∷ []) y → x ≡ y
    first_of x y d = elim (Contains-push_cases [] x y d) [
      | inl none ↦ absurd (no none)
      | inr is ↦ is
    ]
      where
        no : Contains [] y → ⊥
        no (i, less, at) = omega (arith, less)

-- one that isn't registered has not voted
unvoted_number : (s : Completion) (rs : List Registration) (number : ℕ) (vote : Vote) → HasParties s rs
    → ((r : Registration) → Contains rs r → r.index < number) → IsVoted s number vote → ⊥
unvoted_number (Waiting room) rs number vote parties low voted = voted
unvoted_number (UnderWay c) rs number vote parties low (i, p, less, at, (index, ballot)) =
    let r = party_index c.parties rs p parties.0 (i, less, at) in
    let under = low r.0 r.1 in
    let same = r.2 in
    omega (arith, under, same, index)

module _ (w : World) (place : ℕ) (s : Seat) (n : Node) (f g : Family) (there : slice_get w.seats place ≡ Some s) (up : s.server ≡ OfNode (Some n))
    (same : g.key ≡ f.key) (slotted : family_in n.families f.key.slot ≡ Some f) (at_place : place_of f.key ≡ place) (told : List Told) (k : Known w told)
    (key : ObjectKey) (found : family_at w key ≡ Some f) (name : List ℕ) (okey : ObjectKey) (named : thing w name ≡ Some (things.Resource okey)) (to : List ℕ)
    (leads : referred w to ≡ Some (record { name = name; key = okey })) (unregistered : (t : List ℕ) → IsRegistered name t (lines_of told) → ⊥)
    (unsent : (phase : Phase) → IsSent phase name (lines_of told) → ⊥) (unvoted : (vote : Vote) → Stands (lines.Voted name vote) (known told) → ⊥)
    (unled : (x : ObjectKey) (h : Family) → family_at w x ≡ Some h → (r : Registration) (y : NamedKey) → Contains h.ballots.registrations r
    → referred w r.to ≡ Some y → y.name ≡ name → ⊥)
    (t0 : List ℕ) (b0 : ℕ) (branch : IsBranch w f t0 b0) (may : IsTrue (is_open (column f b0))) (aware listed : Bool) (end : List ℕ)
    (rows : g.rows ≡ f.rows)
    (regs : g.ballots.registrations ≡ f.ballots.registrations ++ record { index = length f.ballots.registrations + 1; branch = b0; to = to; aware = aware } ∷ [])
    (alone : g.ballots.synchronizations ≡ f.ballots.synchronizations)
    (listed_on : (d : ℕ) (r : Registration) → Contains (participants d f.ballots) r → Contains (participants d g.ballots) r)
    (listed_cases : (d : ℕ) (r : Registration) → Contains (participants d g.ballots) r → Contains (participants d f.ballots) r
    ⊎ ((r ≡ record { index = length f.ballots.registrations + 1; branch = b0; to = to; aware = aware }) × (listed ≡ true)))
    (listed_new : listed ≡ true → Contains (participants b0 g.ballots) (record { index = length f.ballots.registrations + 1; branch = b0; to = to; aware = aware }))
    (completion : g.completion ≡ f.completion) (serial : IsNumberedAs f g) (few : AreFew g.ballots) (sound : IsSoundFamily g)
    (dues : (b : ℕ) (c : Call) → call_at g b ≡ Some c → AllByRecursion (λ (d : Duty). Contains g.ballots.registrations d.resource) c.left)
    (legs : (b : ℕ) (c : Call) → call_at g b ≡ Some c → IsNotBefore c.leg)
    (came : (e : Entry) (r : RetryKey) → Contains g.entries e → e.event.key ≡ Some r → HasMessage w r) (sound_now : KeepsDecisions (edge_at w place) (with_family g n)) where
  abbrev new_one : Registration
  new_one = record { index = length f.ballots.registrations + 1; branch = b0; to = to; aware = aware }

  abbrev mine : NamedKey
  mine = record { name = name; key = okey }

  abbrev c : Node
  c = with_family g n

  abbrev left : Seat
  left = seats.left w place s n f g there up same slotted at_place

  abbrev v : World
  v = seats.v w place s n f g there up same slotted at_place

  abbrev line : Told
  line = line_of listed name t0 end

  abbrev later : List Told
  later = told ++ line ∷ []

  abbrev old : FamilyIsKnown w (lines_of told) f
  old = k.families key f found

  -- ---- lines

  tells : TellsOn is_reg_line told later
  tells = tells_on is_reg_line told (line ∷ []) (line_one listed name t0 end, tt)

  on : AreAmong (lines_of told) (lines_of later)
  on l x = among_turned _ l (tells.on l (among_back _ l x))

  back : (l : Line) → is_reg_line l ≡ false → Stands l (lines_of later) → Stands l (lines_of told)
  back l other x = among_turned _ l (tells.back l other (among_back _ l x))

  reg_cases : (is : Bool) (r t : List ℕ) → IsRegistered r t (lines_of (told ++ line_of is name t0 end ∷ [])) → IsRegistered r t (lines_of told) ⊎ ((r ≡ name) × (t ≡ t0) × (is ≡ true))
  reg_cases true r t (of, x) = by (subst (Stands (lines.Reg r t of)) (newest_phase told (lines.Reg name t0 end)) x)
    where
      names_are : lines.Reg name t0 end ≡ lines.Reg r t of → (r ≡ name) × (t ≡ t0)
      names_are e = (cc, cc)

      by : Stands (lines.Reg r t of) (lines.Reg name t0 end ∷ lines_of told) → IsRegistered r t (lines_of told) ⊎ ((r ≡ name) × (t ≡ t0) × (true ≡ true))
      by (inl e) = let so = names_are e in inr (so.0, so.1, refl)
      by (inr was) = inl (of, was)
  reg_cases false r t (of, x) = inl (of, subst (Stands (lines.Reg r t of)) (ap reverse (unknown_same told (tell.Aware name t0 end) refl)) x)

  registered_cases : (r t : List ℕ) → IsRegistered r t (lines_of later) → IsRegistered r t (lines_of told) ⊎ ((r ≡ name) × (t ≡ t0) × (listed ≡ true))
  registered_cases r t x = reg_cases listed r t x

  reg_new : (is : Bool) → is ≡ true → IsRegistered name t0 (lines_of (told ++ line_of is name t0 end ∷ []))
  reg_new true so = (end, subst (Stands (lines.Reg name t0 end)) (sym (newest_phase told (lines.Reg name t0 end))) (inl refl))
  reg_new false so = absurd cc

  registered_new : listed ≡ true → IsRegistered name t0 (lines_of later)
  registered_new so = reg_new listed so

  registered_on : (r t : List ℕ) → IsRegistered r t (lines_of told) → IsRegistered r t (lines_of later)
  registered_on r t x = registered_among _ _ r t on x

  -- what asks has nothing open
  quiet : IsAsking f.completion → ⊥
  quiet asking = not_asking f f.completion b0 asking old.sound.completion.asking old.sound.completion.begun.0 (open_column f b0 may)

  can_now : CanRegister name t0 (lines_of told)
  can_now = record {
    of_one = λ u registered. absurd (unregistered u registered);
    in_time = open_family w told k t0 b0 key f found branch (open_column f b0 may);
  }

  allowed_by : (is : Bool) → AreAllowed (lines_of (told ++ line_of is name t0 end ∷ []))
  allowed_by true = subst AreAllowed (sym (newest_phase told (lines.Reg name t0 end))) (can_now, k.allowed)
  allowed_by false = subst AreAllowed (sym (ap reverse (unknown_same told (tell.Aware name t0 end) refl))) k.allowed

  -- ---- who takes part

  family_was : (t : List ℕ) → IsFamily t (known later) → IsFamily t (known told)
  family_was t (inl (node, x)) = inl (node, tells.back _ refl x)
  family_was t (inr (above, (node, x))) = inr (above, (node, tells.back _ refl x))

  joined_was : (x t : List ℕ) → IsJoined (known later) x t → IsJoined (known told) x t
  joined_was x _ (safe.IsJoined.own family) = safe.IsJoined.own (family_was x family)
  joined_was x _ (safe.IsJoined.committed t parent done sub above) =
      safe.IsJoined.committed t parent (tells.back _ refl done) (tells.back _ refl sub) (joined_was x parent above)

  in_order : (r t : List ℕ) → IsRegistered r t (known later) → IsRegistered r t (lines_of later)
  in_order r t (of, x) = (of, among_turned _ _ x)

  part_cases : (r x : List ℕ) → TakesPart r x (known later) → TakesPart r x (known told) ⊎ ((r ≡ name) × IsJoined (known told) x t0)
  part_cases r x (t, registered, joined) = elim (registered_cases r t (in_order r t registered)) [
    | inl was ↦ inl (t, (was.0, among_back _ _ was.1), joined_was x t joined)
    | inr new ↦ inr (new.0, subst (IsJoined (known told) x) new.1 (joined_was x t joined))
  ]

  -- it is the family to which its transaction is joined
  joined_key : (x : List ℕ) → IsJoined (known told) x t0 → IsTransaction w x f.key
  joined_key x joined =
      subst (IsTransaction w x) (first_key w told k key f found t0 b0 branch)
      (of_key w told k x t0 branch.0 (joined_of (lines_of told) x t0 (joined_among _ _ x t0 (among_turned (known told)) joined)) branch.1)

  -- ---- names

  names_now : NamesAreTold v (lines_of later)
  names_now = record {
    keys = k.names.keys;
    once = k.names.once;
    transactions = λ t x is. made_on t x (k.names.transactions t x is);
    kinds = k.names.kinds;
    services = k.names.services;
    tops = λ t node x. k.names.tops t node (back _ refl x);
    subs = λ t above x. k.names.subs t above (back _ refl x);
    ended = λ t how x. k.names.ended t how (back _ refl x);
    one_parent = λ t above other x y. k.names.one_parent t above other (back _ refl x) (back _ refl y);
    resources = λ t x is. let at = k.names.resources t x is in (at.0, seats.resources_now w place s n f g there up same slotted at_place x ∙ at.1, at.2);
    registered = λ r t x. elim (registered_cases r t x) [
      | inl was ↦ k.names.registered r t was
      | inr new ↦ (okey, branch.0, ap (thing w) new.0 ∙ named, ap (thing w) new.1 ∙ branch.1)
    ];
    one_transaction = λ r t other x y. one_of r t other (registered_cases r t x) (registered_cases r other y);
    no_import = λ t above node x. k.names.no_import t above node (back _ refl x);
    objects = k.names.objects;
    shown = λ r state x. k.names.shown r state (back _ refl x);
  }
    where
      made_on : (t : List ℕ) (x : ObjectKey) → IsMade w (lines_of told) t x → IsMade v (lines_of later) t x
      made_on t x (is, inl (node, stands)) = (is, inl (node, on _ stands))
      made_on t x (is, inr (above, stands)) = (is, inr (above, on _ stands))

      one_of : (r t other : List ℕ) → IsRegistered r t (lines_of told) ⊎ ((r ≡ name) × (t ≡ t0) × (listed ≡ true))
          → IsRegistered r other (lines_of told) ⊎ ((r ≡ name) × (other ≡ t0) × (listed ≡ true)) → t ≡ other
      one_of r t other (inl x) (inl y) = k.names.one_transaction r t other x y
      one_of r t other (inl x) (inr y) = absurd (unregistered t (subst (λ (z : List ℕ). IsRegistered z t (lines_of told)) y.0 x))
      one_of r t other (inr x) (inl y) = absurd (unregistered other (subst (λ (z : List ℕ). IsRegistered z other (lines_of told)) x.0 y))
      one_of r t other (inr x) (inr y) = x.1 ∙ sym y.1

  -- ---- seats and disks

  refers : (y : List ℕ) → referred v y ≡ referred w y
  refers y = seats.refers_now w place s n f g there up same slotted at_place y

  records : (q : ℕ) → records_at v q ≡ records_at w q
  records q = seats.records_now w place s n f g there up same slotted at_place q

  has_same : (q : ℕ) (is_so : JournalRecord → Bool) → has_record v q is_so ≡ has_record w q is_so
  has_same q is_so = seats.has_now w place s n f g there up same slotted at_place q is_so

  seats_now : SeatsAreNamed v (lines_of later)
  seats_now = seats_kept w place s left there refl (lines_of told) (lines_of later) k.seats (λ x in_life stands. k.seats.up x in_life (back _ refl stands))

  node_of : (m : Node) → OfNode (Some c) ≡ OfNode (Some m) → c ≡ m
  node_of m e = cc

  by_seat : (P : ℕ → Seat → Type 0) → P place left → ((q : ℕ) (x : Seat) → slice_get w.seats q ≡ Some x → P q x) → (q : ℕ) (x : Seat)
      → slice_get v.seats q ≡ Some x → P q x
  by_seat P new was q x at = elim (set_cases w.seats place s left q x there at) [
    | inl here ↦ subst (λ (i : ℕ). P i x) (sym here.0) (subst (P place) here.1 new)
    | inr still ↦ was q x still
  ]

  disks_now : DisksAreKnown v later
  disks_now = record {
    held = λ q x o. by_seat (λ q x. x.server ≡ OfNode o → (rs : List JournalRecord) × Holds (service_at q) x.disk.reads rs × (records_at v q ≡ Some rs))
        (λ is. let was = k.disks.held place s (Some n) there up in (was.0, was.1, records place ∙ was.2))
        (λ q x at is. let was = k.disks.held q x o at is in (was.0, was.1, records q ∙ was.2)) q x;
    whole = λ q x a. by_seat (λ q x. x.server ≡ OfNode (Some a) → IsWhole a)
        (λ is. subst IsWhole (node_of a is) (seats.whole_now n f g same slotted (k.disks.whole place s n there up)))
        (λ q x at is. k.disks.whole q x a at is) q x;
    follows = λ q x a. by_seat (λ q x. x.server ≡ OfNode (Some a) → FollowsDisk q x a)
        (λ is. subst (FollowsDisk place left) (node_of a is) (seats.follows_now n f g same slotted place s (k.disks.follows place s n there up)))
        (λ q x at is. k.disks.follows q x a at is) q x;
    decisions = λ q x a. by_seat (λ q x. x.server ≡ OfNode (Some a) → HoldsDecisions q a)
        (λ is. subst (HoldsDecisions place) (node_of a is) (seats.holds_now n f g same slotted place (k.disks.decisions place s n there up)))
        (λ q x at is. k.disks.decisions q x a at is) q x;
    rise = λ before behind server in_life earlier e stands.
        let was = tells.split (lines.Up server in_life) before behind refl e in
        k.disks.rise before was.0 server in_life earlier was.1 stands;
    lives = λ q x o in_life rs. by_seat (λ q x. x.server ≡ OfNode o → Stands (lines.Up x.name in_life) (known later) → records_at v q ≡ Some rs → in_life ≤ (found_in rs).life)
        (λ is stands held. k.disks.lives place s (Some n) in_life rs there up (tells.back _ refl stands) (sym (records place) ∙ held))
        (λ q x at is stands held. k.disks.lives q x o in_life rs at is (tells.back _ refl stands) (sym (records q) ∙ held)) q x;
    no_superior = λ q rs r held among. k.disks.no_superior q rs r (sym (records q) ∙ held) among;
    rests = by_seat (λ q x. x.server ≡ OfNode None → IsSettled x.disk) (λ is. absurd (up_still is)) (λ q x at is. k.disks.rests q x at is);
  }
    where
      up_still : OfNode (Some c) ≡ OfNode None → ⊥
      up_still e = cc

  families : (x : ObjectKey) (h : Family) → family_at v x ≡ Some h
      → ((h ≡ g) × IsTrue (is_of x g)) ⊎ ((family_at w x ≡ Some h) × (IsTrue (is_of h.key f) → ⊥))
  families x h is = seats.families_now w place s n f g there up same slotted at_place x h is

  -- ---- words, votes and resources

  given_now : (q : ℕ) (x : Seat) (m : Node) (o : Outward) → slice_get v.seats q ≡ Some x → x.server ≡ OfNode (Some m) → HasSent w q o
      → o.number.life ≡ life m → (o.number.slot ≡ retold_slot) ⊎ (o.number.generation ≤ m.generation)
  given_now q x m o = by_seat (λ q x. x.server ≡ OfNode (Some m) → HasSent w q o → o.number.life ≡ life m → (o.number.slot ≡ retold_slot) ⊎ (o.number.generation ≤ m.generation))
      (λ is sent in_life. subst (λ (y : Node). (o.number.slot ≡ retold_slot) ⊎ (o.number.generation ≤ y.generation)) (node_of m is)
      (k.words.given place s n o there up sent (in_life ∙ ap life (sym (node_of m is)))))
      (λ q x at is sent in_life. k.words.given q x m o at is sent in_life) q x

  serials_now : (q : ℕ) (o : Outward) (h : Family) (x : ObjectKey) → HasSent w q o → family_at v x ≡ Some h → o.number.life ≡ h.key.life
      → o.number.slot ≡ h.key.slot → o.number.generation ≡ h.key.generation → place_of h.key ≡ q → IsNumberedBy h o
  serials_now q o h x sent at in_life at_slot numbered here = elim (families x h at) [
    | inl this ↦
        let key_is : h.key ≡ f.key = ap (λ (y : Family). y.key) this.0 ∙ same in
        let was = k.words.serials q o f key sent found (in_life ∙ ap (λ (y : ObjectKey). y.life) key_is) (at_slot ∙ ap (λ (y : ObjectKey). y.slot) key_is)
        (numbered ∙ ap (λ (y : ObjectKey). y.generation) key_is) (ap place_of (sym key_is) ∙ here) in
        subst (λ (y : Family). IsNumberedBy y o) (sym this.0) (numbered_as f g o serial was)
    | inr that ↦ k.words.serials q o h x sent that.0 in_life at_slot numbered here
  ]

  words_now : WordsAreTold v (lines_of later)
  words_now = record {
    named = λ q o sent. ap is_some (refers o.to) ∙ k.words.named q o sent;
    once = record { one_object = k.words.once.one_object; one_word = k.words.once.one_word };
    told = λ nth q o phase r word is to_r. on _ (k.words.told nth q o phase r word is (sym (refers o.to) ∙ to_r));
    sent = λ number phase x stands.
        let was = k.words.sent number phase x (back _ refl stands) in
        (was.0, was.1, was.2, was.3, was.4, was.5, was.6, refers was.2.to ∙ was.7, was.8);
    replied = k.words.replied;
    asked = k.words.asked;
    voters = k.words.voters;
    lives = λ q o rs sent held. k.words.lives q o rs sent (sym (records q) ∙ held);
    given = given_now;
    told_again = λ q o rs sent slot held. k.words.told_again q o rs sent slot (sym (records q) ∙ held);
    serials = serials_now;
  }

  votes_now : VotesWereGiven v later
  votes_now voter vote stands =
      let x = k.votes voter vote (tells.back _ refl stands) in
      record {
        request = x.request;
        from = x.from;
        asked = x.asked;
        sent = x.sent;
        prepare = x.prepare;
        resource = x.resource;
        object = refers x.asked.to ∙ x.object;
        same_name = x.same_name;
        reply = x.reply;
        answer = x.answer;
        answered = x.answered;
        says = x.says;
      }

  answered_on : (x : List ℕ) (vote : Vote) → HasAnswered w x vote → HasAnswered v x vote
  answered_on x vote (nth, from, reply, o, r, m, word, prepare, to_r, is, at, says) =
      (nth, from, reply, o, r, m, word, prepare, refers o.to ∙ to_r, is, at, says)

  answered_back : (x : List ℕ) (vote : Vote) → HasAnswered v x vote → HasAnswered w x vote
  answered_back x vote (nth, from, reply, o, r, m, word, prepare, to_r, is, at, says) =
      (nth, from, reply, o, r, m, word, prepare, sym (refers o.to) ∙ to_r, is, at, says)

  resource_now : (x : List ℕ) (r : FlatResource) → ResourceIsKnown w (lines_of told) x r → ResourceIsKnown v (lines_of later) x r
  resource_now x r was = record {
    commit = λ a. voted_kept r.state x _ _ on (was.commit (answered_back x _ a));
    read_only = λ a. was.read_only (answered_back x _ a);
    rollback = λ a. was.rollback (answered_back x _ a);
    none = λ no. unvoted_kept r.state x _ _ on (was.none (λ vote a. no vote (answered_on x vote a)));
    applied = (λ y. was.applied.0 (back _ refl y), λ e. on _ (was.applied.1 e));
    undone = (λ y. was.undone.0 (back _ refl y), λ e. on _ (was.undone.1 e));
    follows = follows_kept r.state x _ _ on
        (λ undone sent. (subst (λ y. StatesFollow y x (lines_of told)) undone was.follows) (sent.0, back _ refl sent.1)) was.follows;
  }

  resources_now : ResourcesAreKnown v (lines_of later)
  resources_now x y r is at = resource_now x r (k.resources x y r is (sym (seats.resources_now w place s n f g there up same slotted at_place y) ∙ at))

  -- ---- the family

  of_now : (x : ObjectKey) → IsTrue (is_of x f) → IsTrue (is_of x g)
  of_now x is = subst (λ (y : ObjectKey). IsTrue (is_of x (record g { key = y }))) (sym same) is

  of_was : (x : ObjectKey) → IsTrue (is_of x g) → IsTrue (is_of x f)
  of_was x is = subst (λ (y : ObjectKey). IsTrue (is_of x (record g { key = y }))) same is

  branch_on : (t : List ℕ) (b : ℕ) → IsBranch w f t b → IsBranch v g t b
  branch_on t b (x, is, own, first) = (x, is, of_now x own, first)

  branch_was : (t : List ℕ) (b : ℕ) → IsBranch v g t b → IsBranch w f t b
  branch_was t b (x, is, own, first) = (x, is, of_was x own, first)

  as_many : length g.rows ≡ length f.rows
  as_many = ap length rows

  same_index : (t : List ℕ) (b d : ℕ) → IsBranch w f t b → IsBranch w f t d → b ≡ d
  same_index t b d (x, is, own, first) (y, also, own_also, first_also) = sym first ∙ ap (λ (z : ObjectKey). z.index) (same_key (thing w t) x y is also) ∙ first_also

  same_name : (t u : List ℕ) (b : ℕ) → IsBranch w f t b → IsBranch w f u b → t ≡ u
  same_name t u b (x, is, own, first) (y, also, own_also, first_also) =
      let a = same_parts x.service x.life x.slot x.generation f.key.service f.key.life f.key.slot f.key.generation own in
      let d = same_parts y.service y.life y.slot y.generation f.key.service f.key.life f.key.slot f.key.generation own_also in
      k.names.keys t u (things.Transaction y)
      (is ∙ ap (λ (z : ObjectKey). Some (things.Transaction z)) (equal_keys x y (k.names.kinds t x is ∙ sym (k.names.kinds u y also)) (a.0 ∙ sym d.0)
      (a.1 ∙ sym d.1) (a.2 ∙ sym d.2) (a.3 ∙ sym d.3) (first ∙ sym first_also))) also
    where
      equal_keys : (x y : ObjectKey) → x.kind ≡ y.kind → x.service ≡ y.service → x.life ≡ y.life → x.slot ≡ y.slot → x.generation ≡ y.generation → x.index ≡ y.index → x ≡ y
      equal_keys x y one two three four five six =
          ap (λ (z : ℕ). record x { kind = z }) one
          ∙ ap (λ (z : ℕ). record x { kind = y.kind; service = z }) two
          ∙ ap (λ (z : ℕ). record x { kind = y.kind; service = y.service; life = z }) three
          ∙ ap (λ (z : ℕ). record x { kind = y.kind; service = y.service; life = y.life; slot = z }) four
          ∙ ap (λ (z : ℕ). record y { index = x.index; generation = z }) five
          ∙ ap (λ (z : ℕ). record y { index = z }) six

  -- a registration then is the new one, or was there
  in_cases : (r : Registration) → Contains g.ballots.registrations r → Contains f.ballots.registrations r ⊎ (new_one ≡ r)
  in_cases r among = Contains-push_cases f.ballots.registrations new_one r (subst (λ (xs : List Registration). Contains xs r) regs among)

  own_object : (y : NamedKey) → referred w to ≡ Some y → mine ≡ y
  own_object y is = inner mine y (sym leads ∙ is)

  listed_in : (d : ℕ) (r : Registration) → Contains (participants d f.ballots) r → Contains f.ballots.registrations r
  listed_in d r among = all_at (Contains f.ballots.registrations) (participants d f.ballots) r (registered_of f d) among

  registrations_now : (x t : List ℕ) (b : ℕ) → IsBranch v g t b → IsRegistered x t (lines_of later) ↔ IsListed v g x b
  registrations_now x t b one = (forth, back_to)
    where
      before : IsRegistered x t (lines_of told) ↔ IsListed w f x b
      before = old.registrations x t b (branch_was t b one)

      forth : IsRegistered x t (lines_of later) → IsListed v g x b
      forth y = elim (registered_cases x t y) [
        | inl was ↦ let l = before.0 was in (l.0, l.1, l.2, listed_on l.0 l.1 l.3, l.4, refers l.1.to ∙ l.5, l.6)
        | inr new ↦ (
          b0,
          new_one,
          mine,
          listed_new new.2,
          same_index t b0 b (subst (λ (z : List ℕ). IsBranch w f z b0) (sym new.1) branch) (branch_was t b one),
          refers to ∙ leads,
          sym new.0,
        )
      ]

      back_to : IsListed v g x b → IsRegistered x t (lines_of later)
      back_to (d, r, object, among, is, to_r, of) = elim (listed_cases d r among) [
        | inl was ↦ registered_on x t (before.1 (d, r, object, was, is, sym (refers r.to) ∙ to_r, of))
        | inr new ↦
            let mine_is = own_object object (ap (λ (z : Registration). referred w z.to) (sym new.0) ∙ sym (refers r.to) ∙ to_r) in
            let at : b0 ≡ b = ap (λ (z : Registration). z.branch) (sym new.0) ∙ is in
            let named_t = same_name t0 t b (subst (IsBranch w f t0) at branch) (branch_was t b one) in
            subst (λ (z : List ℕ). IsRegistered x z (lines_of later)) named_t
            (subst (λ (z : List ℕ). IsRegistered z t0 (lines_of later)) (ap (λ (z : NamedKey). z.name) mine_is ∙ of) (registered_new new.1))
      ]

  own_now : (r : Registration) (object : NamedKey) (t : List ℕ) → Contains g.ballots.registrations r → referred v r.to ≡ Some object
      → IsRegistered object.name t (lines_of later) → IsBranch v g t r.branch
  own_now r object t among to_r registered = by (in_cases r among) (registered_cases object.name t registered)
    where
      to_w : referred w r.to ≡ Some object
      to_w = sym (refers r.to) ∙ to_r

      by : Contains f.ballots.registrations r ⊎ (new_one ≡ r) → IsRegistered object.name t (lines_of told) ⊎ ((object.name ≡ name) × (t ≡ t0) × (listed ≡ true))
          → IsBranch v g t r.branch
      by (inl was) (inl before) = branch_on t r.branch (old.own r object t was to_w before)
      by (inl was) (inr new) = absurd (unled key f found r object was to_w new.0)
      by (inr is) (inl before) =
          let mine_is = own_object object (ap (λ (z : Registration). referred w z.to) is ∙ to_w) in
          absurd (unregistered t (subst (λ (z : List ℕ). IsRegistered z t (lines_of told)) (ap (λ (z : NamedKey). z.name) (sym mine_is)) before))
      by (inr is) (inr new) =
          subst (λ (z : Registration). IsBranch v g t z.branch) is (subst (λ (z : List ℕ). IsBranch v g z b0) (sym new.1) (branch_on t0 b0 branch))

  numbered_now : (i : ℕ) (r : Registration) → slice_get g.ballots.registrations i ≡ Some r → r.index ≡ i + 1
  numbered_now i r at = elim (push_cases f.ballots.registrations i new_one r (ap (λ (xs : List Registration). slice_get xs i) (sym regs) ∙ at)) [
    | inl was ↦ old.numbered i r was
    | inr new ↦ ap (λ (z : Registration). z.index) new.1 ∙ ap (λ (z : ℕ). z + 1) (sym new.0)
  ]

  apart_now : (r u : Registration) → Contains g.ballots.registrations r → Contains g.ballots.registrations u → r.to ≡ u.to → r ≡ u
  apart_now r u one two is = by (in_cases r one) (in_cases u two)
    where
      not_new : (x : Registration) → Contains f.ballots.registrations x → x.to ≡ to → ⊥
      not_new x was at = unled key f found x mine was (ap (referred w) at ∙ leads) refl

      by : Contains f.ballots.registrations r ⊎ (new_one ≡ r) → Contains f.ballots.registrations u ⊎ (new_one ≡ u) → r ≡ u
      by (inl x) (inl y) = old.apart r u x y is
      by (inl x) (inr y) = absurd (not_new r x (is ∙ ap (λ (z : Registration). z.to) (sym y)))
      by (inr x) (inl y) = absurd (not_new u y (sym is ∙ ap (λ (z : Registration). z.to) (sym x)))
      by (inr x) (inr y) = sym x ∙ y

  low : (r : Registration) → Contains (participants 0 f.ballots) r → r.index < length f.ballots.registrations + 1
  low r among = let less = index_within f.ballots.registrations old.numbered r (listed_in 0 r among) in omega (arith, less)

  votes_of : (number : ℕ) (vote : Vote) (r : Registration) (object : NamedKey) → Contains g.ballots.registrations r → r.index ≡ number
      → referred v r.to ≡ Some object → IsVoted g.completion number vote ↔ Stands (lines.Voted object.name vote) (lines_of later)
  votes_of number vote r object among at to_r = by (in_cases r among)
    where
      to_w : referred w r.to ≡ Some object
      to_w = sym (refers r.to) ∙ to_r

      by : Contains f.ballots.registrations r ⊎ (new_one ≡ r) → IsVoted g.completion number vote ↔ Stands (lines.Voted object.name vote) (lines_of later)
      by (inl was) =
          let before = old.votes number vote r object was at to_w in (
            λ e. on _ (before.0 (subst (λ (x : Completion). IsVoted x number vote) completion e)),
            λ x. subst (λ (y : Completion). IsVoted y number vote) (sym completion) (before.1 (back _ refl x)),
          )
      by (inr is) =
          let mine_is = own_object object (ap (λ (z : Registration). referred w z.to) is ∙ to_w) in
          let own_number = ap (λ (z : Registration). z.index) is ∙ at in (
            λ e. absurd (unvoted_number f.completion (participants 0 f.ballots) (length f.ballots.registrations + 1) vote old.sound.completion.parties low
                (subst (λ (x : ℕ). IsVoted f.completion x vote) (sym own_number) (subst (λ (x : Completion). IsVoted x number vote) completion e))),
            λ x. absurd (unvoted vote (subst (λ (z : NamedKey). Stands (lines.Voted z.name vote) (known told)) (sym mine_is) (among_back _ _ (back _ refl x)))),
          )

  outcome_on : (o : Option Outcome) (t : List ℕ) → OutcomeIsTold o t (lines_of told) → OutcomeIsTold o t (lines_of later)
  outcome_on None t is = λ x. is (back _ refl x)
  outcome_on (Some (outcomes.Commit basis)) t is = on _ is
  outcome_on (Some (outcomes.Rollback reason)) t is = λ x. is (back _ refl x)
  outcome_on (Some outcomes.Unknown) t is = λ x. is (back _ refl x)

  family_now : FamilyIsKnown v (lines_of later) g
  family_now = record {
    sound = sound;
    name = old.name;
    of_name = subst (λ (x : ObjectKey). IsTransaction w old.name x) (sym same) old.of_name;
    top = ap (λ (x : ObjectKey). x.index) same ∙ old.top;
    branches = λ b less. let at = old.branches b (subst (λ (x : ℕ). b < x) as_many less) in (at.0, branch_on at.0 b at.1);
    no_further = λ t b is. subst (λ (x : ℕ). b < x) (sym as_many) (old.no_further t b (branch_was t b is));
    parents = λ t above b p one two.
        let was = old.parents t above b p (branch_was t b one) (branch_was above p two) in
        let at = ap (λ (rs : _). parent rs b) rows in
        (λ x. at ∙ was.0 (back _ refl x), λ e. on _ (was.1 (sym at ∙ e)));
    ends = λ t b how one below.
        let was = old.ends t b how (branch_was t b one) below in
        let at = ap (λ (rs : _). state rs b) rows in
        (λ x. at ∙ was.0 (back _ refl x), λ e. on _ (was.1 (sym at ∙ e)));
    registrations = registrations_now;
    own = own_now;
    numbered = numbered_now;
    unsynchronized = alone ∙ old.unsynchronized;
    named = λ r among. elim (in_cases r among) [
      | inl was ↦ ap is_some (refers r.to) ∙ old.named r was
      | inr is ↦ ap is_some (ap (λ (z : Registration). referred v z.to) (sym is) ∙ refers to ∙ leads)
    ];
    apart = apart_now;
    within = λ r among. elim (in_cases r among) [
      | inl was ↦ subst (λ (x : ℕ). r.branch < x) (sym as_many) (old.within r was)
      | inr is ↦ subst (λ (z : Registration). z.branch < length g.rows) is (subst (λ (x : ℕ). b0 < x) (sym as_many) (old.no_further t0 b0 branch))
    ];
    came = came;
    dues = dues;
    legs = legs;
    ready = serial.ready old.ready;
    few = few;
    settled = ap stages.wants_decision completion ∙ old.settled;
    votes = votes_of;
    outcome = subst (λ (x : Completion). OutcomeIsTold (stages.outcome x) old.name (lines_of later)) (sym completion) (outcome_on (stages.outcome f.completion) old.name old.outcome);
    recorded =
        let kept = has_same (place_of g.key) (is_decision_of g.key) ∙ ap (λ (x : ObjectKey). has_record w (place_of x) (is_decision_of x)) same in (
          λ y. ap (λ (x : Completion). stages.outcome x) completion ∙ old.recorded.0 (sym kept ∙ y),
          λ e. kept ∙ old.recorded.1 (sym (ap (λ (x : Completion). stages.outcome x) completion) ∙ e),
        );
  }

  -- another one
  other_branch : (h : Family) (x : ObjectKey) → family_at w x ≡ Some h → (IsTrue (is_of h.key f) → ⊥) → (t : List ℕ) (b : ℕ) → IsBranch w h t b → t ≡ t0 → ⊥
  other_branch h x at other t b (y, is, own, first) t_is =
      let key_is = same_key (thing w t) y branch.0 is (ap (thing w) t_is ∙ branch.1) in
      let one : f ≡ h = same_of_branch w key x branch.0 f h found at branch.2 (subst (λ (z : ObjectKey). IsTrue (is_of z h)) key_is own) in
      other (subst (λ (z : Family). IsTrue (is_of z.key f)) one (is_own f))

  other_family : (h : Family) (x : ObjectKey) → family_at w x ≡ Some h → (IsTrue (is_of h.key f) → ⊥) → FamilyIsKnown v (lines_of later) h
  other_family h x at other =
      let was = k.families x h at in
      record {
        sound = was.sound;
        name = was.name;
        of_name = was.of_name;
        top = was.top;
        branches = was.branches;
        no_further = was.no_further;
        parents = λ t above b p one two. let before = was.parents t above b p one two in (λ y. before.0 (back _ refl y), λ e. on _ (before.1 e));
        ends = λ t b how one below. let before = was.ends t b how one below in (λ y. before.0 (back _ refl y), λ e. on _ (before.1 e));
        registrations = λ r t b one.
            let before = was.registrations r t b one in (
              λ y. elim (registered_cases r t y) [
                | inl stood ↦ let l = before.0 stood in (l.0, l.1, l.2, l.3, l.4, refers l.1.to ∙ l.5, l.6)
                | inr new ↦ absurd (other_branch h x at other t b one new.1)
              ],
              λ l. registered_on r t (before.1 (l.0, l.1, l.2, l.3, l.4, sym (refers l.1.to) ∙ l.5, l.6)),
            );
        own = λ r object t among to_r registered. elim (registered_cases object.name t registered) [
          | inl stood ↦ was.own r object t among (sym (refers r.to) ∙ to_r) stood
          | inr new ↦ absurd (unled x h at r object among (sym (refers r.to) ∙ to_r) new.0)
        ];
        numbered = was.numbered;
        unsynchronized = was.unsynchronized;
        named = λ r among. ap is_some (refers r.to) ∙ was.named r among;
        apart = was.apart;
        within = was.within;
        came = was.came;
        dues = was.dues;
        legs = was.legs;
        ready = was.ready;
        few = was.few;
        settled = was.settled;
        votes = λ number vote r object among is to_r.
            let before = was.votes number vote r object among is (sym (refers r.to) ∙ to_r) in
            (λ e. on _ (before.0 e), λ y. before.1 (back _ refl y));
        outcome = outcome_on (stages.outcome h.completion) was.name was.outcome;
        recorded = let kept = has_same (place_of h.key) (is_decision_of h.key) in (λ y. was.recorded.0 (sym kept ∙ y), λ e. kept ∙ was.recorded.1 e);
      }

  families_now : FamiliesAreKnown v (lines_of later)
  families_now x h at = elim (families x h at) [
    | inl this ↦ subst (FamilyIsKnown v (lines_of later)) (sym this.0) family_now
    | inr that ↦ other_family h x that.0 that.1
  ]

  -- ---- what was told to participants

  this_branch : (t : List ℕ) (b : ℕ) (h : Family) → h ≡ g → IsBranch v h t b → IsBranch w f t b
  this_branch t b h is one = branch_was t b (subst (λ (y : Family). IsBranch v y t b) is one)

  sent_was : (phase : Phase) (r : List ℕ) → IsSent phase r (lines_of later) → IsSent phase r (lines_of told)
  sent_was phase r (message, x) = (message, back _ refl x)

  registered_was : (phase : Phase) (r t : List ℕ) → IsSent phase r (lines_of told) → IsRegistered r t (lines_of later) → IsRegistered r t (lines_of told)
  registered_was phase r t sent x = elim (registered_cases r t x) [
    | inl was ↦ was
    | inr new ↦ absurd (unsent phase (subst (λ (y : List ℕ). IsSent phase y (lines_of told)) new.0 sent))
  ]

  commit_of : (r t : List ℕ) (b : ℕ) (x : ObjectKey) (h : Family) → IsSent phase_words.Commit r (lines_of told) → IsRegistered r t (lines_of told)
      → ((h ≡ g) × IsTrue (is_of x g)) ⊎ ((family_at w x ≡ Some h) × (IsTrue (is_of h.key f) → ⊥)) → IsBranch v h t b
      → stages.outcome h.completion ≡ Some (outcomes.Commit Record)
  commit_of r t b x h sent registered (inl this) one =
      ap (λ (y : Family). stages.outcome y.completion) this.0 ∙ ap (λ (y : Completion). stages.outcome y) completion
      ∙ k.open_words.commit r t b key f sent registered found (this_branch t b h this.0 one)
  commit_of r t b x h sent registered (inr that) one = k.open_words.commit r t b x h sent registered that.0 one

  alone_of : (r t : List ℕ) (b : ℕ) (x : ObjectKey) (h : Family) → IsSent phase_words.CommitOnePhase r (lines_of told) → IsRegistered r t (lines_of told)
      → ((h ≡ g) × IsTrue (is_of x g)) ⊎ ((family_at w x ≡ Some h) × (IsTrue (is_of h.key f) → ⊥)) → IsBranch v h t b
      → IsAsking h.completion × (stages.decides_alone h.completion ≡ true)
  alone_of r t b x h sent registered (inl this) one =
      subst (λ (y : Family). IsAsking y.completion × (stages.decides_alone y.completion ≡ true)) (sym this.0)
      (subst (λ (y : Completion). IsAsking y × (stages.decides_alone y ≡ true)) (sym completion)
      (k.open_words.one_phase r t b key f sent registered found (this_branch t b h this.0 one)))
  alone_of r t b x h sent registered (inr that) one = k.open_words.one_phase r t b x h sent registered that.0 one

  open_now : ToldIsOpen v (lines_of later)
  open_now = record {
    commit = λ r t b x h sent registered at one.
        let was = sent_was phase_words.Commit r sent in
        commit_of r t b x h was (registered_was phase_words.Commit r t was registered) (families x h at) one;
    one_phase = λ r t b x h sent registered at one.
        let was = sent_was phase_words.CommitOnePhase r sent in
        alone_of r t b x h was (registered_was phase_words.CommitOnePhase r t was registered) (families x h at) one;
  }

  -- ---- records

  -- its family is not decided
  undecided : IsTrue (has_record w (place_of f.key) (is_decision_of f.key)) → ⊥
  undecided has = quiet (commits_asking f.completion (old.recorded.0 has))

  consented_on : (r : List ℕ) → HasConsented r (known told) → HasConsented r (known later)
  consented_on r (inl x) = inl (tells.on _ x)
  consented_on r (inr x) = inr (tells.on _ x)

  rests_on : (x : ObjectKey) (some : List Named) → IsTrue (has_record w (place_of x) (is_decision_of x)) → RestsOnVotes w told x some → RestsOnVotes v later x some
  rests_on x some has was = record {
    name = was.name;
    of_name = was.of_name;
    consented = λ r part. elim (part_cases r was.name part) [
      | inl before ↦ consented_on r (was.consented r before)
      | inr new ↦ absurd (undecided (subst (λ (y : ObjectKey). IsTrue (has_record w (place_of y) (is_decision_of y)))
          (same_key (thing w was.name) x f.key was.of_name (joined_key was.name new.1)) has))
    ];
    named = λ y among. ap is_some (refers y) ∙ was.named y among;
    voters = λ y r to_r.
        let before = was.voters y r (sym (refers y) ∙ to_r) in (
          λ among. (part_among _ _ r.name was.name tells.on (before.0 among).0, tells.on _ (before.0 among).1),
          λ voter. elim (part_cases r.name was.name voter.0) [
            | inl stood ↦ before.1 (stood, tells.back _ refl voter.1)
            | inr new ↦ absurd (unvoted VoteCommit (subst (λ (z : List ℕ). Stands (lines.Voted z VoteCommit) (known told)) new.0 (tells.back _ refl voter.1)))
          ],
        );
    once = was.once;
  }

  rests_now : RecordsRestOnVotes v later
  rests_now q in_life at_slot numbered retry asked some rs held among =
      let x : ObjectKey = recorded_key q in_life at_slot numbered in
      let at : place_of x ≡ q = omega arith in
      let was = sym (records q) ∙ held in
      let has = ap (λ (o : Option (List JournalRecord)). option_map_or (λ (ps : List JournalRecord). list_any (is_decision_of x) ps) o false) (ap (records_at w) at ∙ was)
      ∙ list_any-from_Any (is_decision_of x) rs (among.0, Decision in_life at_slot numbered retry asked some, among.1, among.2, own_three in_life at_slot numbered) in
      rests_on x some has (k.records q in_life at_slot numbered retry asked some rs was among)
    where
      own_three : (a b c : ℕ) → IsTrue (a == a && b == b && c == c)
      own_three a b c = grind (arith, nat_tests)

  -- ---- outcomes

  decided_back : (t : List ℕ) (x : ObjectKey) → IsDecided v later x t → IsDecided w told x t
  decided_back t x (inl stands) = inl (tells.back _ refl stands)
  decided_back t x (inr has) = inr (sym (has_same (place_of x) (is_decision_of x)) ∙ has)

  rolled_back : (t : List ℕ) → IsRolledBack later t → IsRolledBack told t
  rolled_back t (agreed.IsRolledBack.by_known reason x) = agreed.IsRolledBack.by_known reason (tells.back _ refl x)
  rolled_back t (agreed.IsRolledBack.by_other reason x) = agreed.IsRolledBack.by_other reason (tells.reasons_back _ tt x)
  rolled_back t (agreed.IsRolledBack.by_synchronization reason synchronization x) = agreed.IsRolledBack.by_synchronization reason synchronization (tells.reasons_back _ tt x)

  rolled_on : (t : List ℕ) → IsRolledBack told t → IsRolledBack later t
  rolled_on t (agreed.IsRolledBack.by_known reason x) = agreed.IsRolledBack.by_known reason (tells.on _ x)
  rolled_on t (agreed.IsRolledBack.by_other reason x) = agreed.IsRolledBack.by_other reason (tells.reasons_on _ x)
  rolled_on t (agreed.IsRolledBack.by_synchronization reason synchronization x) = agreed.IsRolledBack.by_synchronization reason synchronization (tells.reasons_on _ x)

  one_outcome_now : NoneIsBoth v later
  one_outcome_now t x is top decided (agreed.IsClosed.rolled_back rolled) =
      k.one_outcome t x is top (decided_back t x decided) (agreed.IsClosed.rolled_back (rolled_back t rolled))
  one_outcome_now t x is top decided (agreed.IsClosed.outlived l not_so) = not_so decided

  closed_on : (t : List ℕ) (x : ObjectKey) → IsClosed w told x t → IsClosed v later x t
  closed_on t x (agreed.IsClosed.rolled_back rolled) = agreed.IsClosed.rolled_back (rolled_on t rolled)
  closed_on t x (agreed.IsClosed.outlived l not_so) =
      agreed.IsClosed.outlived (record {
        server = l.server;
        named = seat_names_kept w place s left there refl (place_of x) ∙ l.named;
        life = l.life;
        later = l.later;
        up = tells.on _ l.up;
      }) (λ decided. not_so (decided_back t x decided))

  found_of : (x : ObjectKey) → IsTrue (is_of x f) → family_at w x ≡ Some f
  found_of x of =
      let parts = same_parts x.service x.life x.slot x.generation f.key.service f.key.life f.key.slot f.key.generation of in
      family_found w x f (record {
        seat = s;
        node = n;
        there = ap (λ (y : ℕ). slice_get w.seats (y - 1)) parts.0 ∙ ap (slice_get w.seats) at_place ∙ there;
        up = up;
        slotted = ap (family_in n.families) parts.2 ∙ slotted;
        own = of;
      })

  rolled_back_now : RollbacksAreOutcomes v later
  rolled_back_now t x h is top at rolled = elim (families x h at) [
    | inl this ↦
        subst (λ (y : Family). IsBack (stages.outcome y.completion)) (sym this.0)
        (subst (λ (y : Completion). IsBack (stages.outcome y)) (sym completion) (k.rolled_back t x f is top (found_of x (of_was x this.1)) (rolled_back t rolled)))
    | inr that ↦ k.rolled_back t x h is top that.0 (rolled_back t rolled)
  ]

  told_back_now : RollbacksAreTold v later
  told_back_now t x h at is rolled = elim (families x h at) [
    | inl this ↦
        let key_is : h.key ≡ f.key = ap (λ (y : Family). y.key) this.0 ∙ same in
        rolled_on t (k.told_back t key f found (subst (IsTransaction w t) key_is is)
        (subst (λ (y : Completion). IsBack (stages.outcome y)) completion (subst (λ (y : Family). IsBack (stages.outcome y.completion)) this.0 rolled)))
    | inr that ↦ rolled_on t (k.told_back t x h that.0 is rolled)
  ]

  -- ---- words of the second phase

  -- one that was told commit_one_phase is alone still
  alone_on : (r : List ℕ) → IsSent phase_words.CommitOnePhase r (known told) → IsAlone w told r → IsAlone v later r
  alone_on r sent was = record {
    family = was.family;
    key = was.key;
    of_name = was.of_name;
    participant = part_among _ _ r was.family tells.on was.participant;
    only = λ x part. elim (part_cases x was.family part) [
      | inl before ↦ was.only x before
      | inr new ↦ absurd (not_new new.1)
    ];
    unrecorded = λ decided. was.unrecorded (decided_back was.family was.key decided);
  }
    where
      not_new : IsJoined (known told) was.family t0 → ⊥
      not_new joined =
          let name_is = k.names.keys was.family old.name (things.Transaction f.key) (joined_key was.family joined) old.of_name in
          let part = was.participant in
          let of = branch_joined w told k key f found part.0
          (subst (λ (z : List ℕ). IsJoined (lines_of told) z part.0) name_is (joined_among _ _ was.family part.0 (among_turned (known told)) part.2)) in
          quiet (k.open_words.one_phase r part.0 of.0 key f (sent.0, among_turned _ _ sent.1) (part.1.0, among_turned _ _ part.1.1) found of.1).0

  one_phase_now : OnePhaseIsAlone v later
  one_phase_now r (message, x) = let was = tells.back _ refl x in alone_on r (message, was) (k.one_phase r (message, was))

  over_on : (t top : List ℕ) (x : ObjectKey) → (IsClosed w told x top ⊎ IsCutOff (known told) t) → (IsClosed v later x top ⊎ IsCutOff (known later) t)
  over_on t top x (inl closed) = inl (closed_on top x closed)
  over_on t top x (inr off) = inr (cut_among _ _ t tells.on off)

  rollbacks_now : RollbacksAreClosed v later
  rollbacks_now q o r sent rollback to_r =
      let was = k.rollbacks q o r sent rollback (sym (refers o.to) ∙ to_r) in
      record {
        transaction = was.transaction;
        key = was.key;
        named = was.named;
        registered = registered_among _ _ r.name was.transaction tells.on was.registered;
        top = was.top;
        family = was.family;
        over = over_on was.transaction was.top (record was.key { index = 0 }) was.over;
      }

  -- ---- transactions, nodes and ends

  seat_on : (q : ℕ) → IsTrue (is_some (slice_get w.seats q)) → IsTrue (is_some (slice_get v.seats q))
  seat_on q is = elim (set_at w.seats place s left q there) [
    | inl here ↦ ap is_some here.1
    | inr still ↦ ap is_some still ∙ is
  ]

  transactions_now : TransactionsAreKnown v later
  transactions_now = record {
    seated = λ t x is. seat_on (place_of x) (k.transactions.seated t x is);
    lives = λ t x rs is held. k.transactions.lives t x rs is (sym (records (place_of x)) ∙ held);
    decided = λ t outcome x. k.transactions.decided t outcome (tells.back _ refl x);
    rolled_back = λ t rolled. k.transactions.rolled_back t (rolled_back t rolled);
  }

  held_on : (q : ℕ) (rs : List JournalRecord) (x : Held) → IsHeldAs w told q rs x → IsHeldAs v later q rs x
  held_on q rs x was = record {
    stood = was.stood;
    there = was.there;
    same_place = was.same_place;
    numbers = was.numbers;
    references = was.references;
    line = λ in_life at_slot numbered retry asked some is.
        let at = was.line in_life at_slot numbered retry asked some is in
        (at.0, at.1, tells.on _ at.2);
  }

  order_now : (q : ℕ) (a : Node) → NodeIsKnown w told q a → (x : Seat) (rs : List JournalRecord) → slice_get v.seats q ≡ Some x → records_at v q ≡ Some rs
      → IsInOrder (service_at q) x.disk rs
  order_now q a was x rs at held = elim (set_cases w.seats place s left q x there at) [
    | inl here ↦ subst (λ (y : Seat). IsInOrder (service_at q) y.disk rs) here.1 (was.order s rs (ap (slice_get w.seats) here.0 ∙ there) (sym (records q) ∙ held))
    | inr still ↦ was.order x rs still (sym (records q) ∙ held)
  ]

  node_now : NodeIsKnown v later place c
  node_now =
      let was = k.nodes place n (node_there w place s n there up) in
      record {
        sound = edge_kept v w place c (records place) sound_now;
        given = was.given;
        order = order_now place n was;
        held = λ rs x held among. held_on place rs x (was.held rs x (sym (records place) ∙ held) among);
      }

  node_still : (q : ℕ) (a : Node) → NodeIsKnown w told q a → NodeIsKnown v later q a
  node_still q a was = record {
    sound = edge_kept v w q a (records q) was.sound;
    given = was.given;
    order = order_now q a was;
    held = λ rs x held among. held_on q rs x (was.held rs x (sym (records q) ∙ held) among);
  }

  nodes_now : NodesAreKnown v later
  nodes_now q a is =
      let at = node_is_up v q a is in
      elim (set_cases w.seats place s left q at.seat there at.there) [
        | inl here ↦ subst (λ (i : ℕ). NodeIsKnown v later i a) (sym here.0)
            (subst (NodeIsKnown v later place) (node_of a (ap (λ (x : Seat). x.server) here.1 ∙ at.up)) node_now)
        | inr still ↦ node_still q a (k.nodes q a (node_there w q at.seat a still at.up))
      ]

  counted_now : EndsHaveCounted v
  counted_now = record {
    numbers = λ q x is. k.counted.numbers q x (sym (seats.ends_now w place s n f g there up same slotted at_place q) ∙ is);
    messages = λ q x is. k.counted.messages q x (sym (seats.ends_now w place s n f g there up same slotted at_place q) ∙ is);
    short = λ q x server is named. k.counted.short q x server (sym (seats.ends_now w place s n f g there up same slotted at_place q) ∙ is) (sym (seat_names_kept w place s left there refl q) ∙ named);
  }

  pub registered_known : Known v later
  registered_known = record {
    names = names_now;
    seats = seats_now;
    disks = disks_now;
    words = words_now;
    votes = votes_now;
    resources = resources_now;
    families = families_now;
    open_words = open_now;
    records = rests_now;
    recorded = λ t x is top stands. has_same (place_of x) (is_decision_of x) ∙ k.recorded t x is top (tells.back _ refl stands);
    ends = λ before behind t how earlier e x. let at = tells.split (lines.SubDone t how) before behind refl e in k.ends before at.0 t how earlier at.1 x;
    one_outcome = one_outcome_now;
    commits = λ q o sent commit. has_same q (names_object o.to) ∙ k.commits q o sent commit;
    one_phase = one_phase_now;
    rollbacks = rollbacks_now;
    rolled_back = rolled_back_now;
    told_back = told_back_now;
    transactions = transactions_now;
    nodes = nodes_now;
    counted = counted_now;
    allowed = allowed_by listed;
  }
