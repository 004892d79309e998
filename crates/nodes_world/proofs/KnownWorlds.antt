-- What is known of a world is known of another one in which families may be gone and a record of a life may stand further, but for
-- what is said of its seats.
use Rattle.std.proofs.Common.{◌≡◌, ◌⊎◌, inl, inr, ℕ, ◌≤◌, Bool, true, false, is_some, IsTrue, List, [], slice_get, Any, Contains, Option, Some, None, refl, sym, ap, subst, ◌∙◌, arith}
use Rattle.std.specs.List.{list_any}
use Rattle.std.specs.Option.{option_map, option_and_then}
use Rattle.ior_refs.specs.declared.key.ObjectKey.{ObjectKey}
use Rattle.ots_model.specs.Safe as safe
use Rattle.ots_model.specs.Safe.{Stands, HasConsented, IsFamily, IsJoined, IsRegistered, IsTop, TakesPart}
use Rattle.ots_model.specs.SafeByLine.{AreAllowed}
use Rattle.ots_model.specs.declared.completion.Ground.TheVariants as grounds
use Rattle.ots_model.specs.declared.completion.Ground.TheVariants.{Record}
use Rattle.ots_model.specs.Numbered.{LineOutcome}
use Rattle.ots_model.specs.declared.completion.Vote.{Vote}
use Rattle.ots_model.specs.declared.line.Line.{Line}
use Rattle.ots_model.specs.declared.line.Line.TheVariants as lines
use Rattle.ots_model.specs.Numbered.{Outcome}
use Rattle.ots_model.specs.declared.completion.Outcome.TheVariants as outcomes
use Rattle.ots_model.specs.declared.tree.Outward.{Outward}
use Rattle.two_phase.specs.Stages as stages
use Rattle.decision_journal.specs.Journal.{first_gate, found_in}
use Rattle.decision_journal.specs.declared.record.JournalRecord.{JournalRecord}
use Rattle.decision_journal.specs.declared.record.JournalRecord.TheVariants.{Life, Decision, Done}
use Rattle.decision_journal.specs.declared.record.Registration.{Registration as Named}
use Rattle.recovery_coord.specs.Limits.{retold_slot}
use Rattle.recovery_coord.specs.declared.held.Held.{Held}
use Rattle.coordinator.specs.Family.{Family}
use Rattle.coordinator.specs.Node.{Node, life}
use Rattle.nodes_world.specs.declared.message.Message.{Message}
use Rattle.nodes_world.specs.declared.thing.Thing.{Thing}
use Rattle.nodes_world.specs.declared.thing.Thing.TheVariants as things
use Rattle.nodes_world.specs.Agreement as agreed
use Rattle.nodes_world.specs.Agreement.{HasSent, IsAlone, IsClosed, IsCutOff, IsDecided, IsRolledBack, IsTransaction, IsWord, KeysAreOnce, StatesFollow, MayBeRolledBack, RecordsRestOnVotes, RestsOnVotes, VotesWereGiven, CommitsAreRecorded, DecisionsAreRecorded, NoneIsBoth, OnePhaseIsAlone, RollbacksAreClosed, has_record, is_decision_of, names_object, recorded_key, records_at}
use Rattle.nodes_world.specs.AgreementInside.{Known, DisksAreKnown, FamiliesAreKnown, FamilyIsKnown, HasAnswered, IsBranch, IsListed, IsNamedBy, NamesAreTold, OutcomeIsTold, ResourceIsKnown, ResourcesAreKnown, RollbacksAreOutcomes, RollbacksAreTold, SeatsAreNamed, ToldIsOpen, WordsAreTold, placed, EndsHaveCounted, IsHeldAs, IsNamed, NodeIsKnown, NodesAreKnown, TransactionsAreKnown}
use Rattle.nodes_world.specs.Objects.{place_of, service_at}
use Rattle.nodes_world.specs.Told.{Told, known}
use Rattle.nodes_world.specs.World.{World, Seat, OfNode, FlatResource, NamedKey, family_at, referred, resource_at, seat_name, thing, node_at, node_in}
use Rattle.nodes_world.proofs.Edges.{edge_kept}
use Rattle.nodes_world.proofs.KnownLines.{AreAmong, among_back, among_turned, cut_among, lines_of, part_among, registered_among}
use Rattle.nodes_world.proofs.KnownTelling.{TellsOn, is_bare, is_recorded}
use Rattle.nodes_world.proofs.KnownRequests.{follows_kept, unvoted_kept, voted_kept}
use Rattle.nodes_world.specs.Laws.{IsInOrder}
use Rattle.nodes_world.specs.AgreementSteps.{is_call}
use Rattle.ots_outside.specs.Disk.{DiskState}

-- a life, or the Done of a decision
abbrev pub is_mark : JournalRecord → Bool
is_mark (Life life) = true
is_mark (Done named) = true
is_mark _ = false

-- records and those of before, where no decision is new
pub record Follows (earlier rs : List JournalRecord) : Type 0 where
  pub life : (found_in earlier).life ≤ (found_in rs).life
  pub places : (o : Outward) → Any (IsNamedBy o) (placed first_gate earlier) → Any (IsNamedBy o) (placed first_gate rs)
  pub others : (r : JournalRecord) → is_mark r ≡ false → Contains rs r → Contains earlier r
  pub some : (is_so : JournalRecord → Bool) → ((life : ℕ) → is_so (Life life) ≡ false) → ((named : ℕ) → is_so (Done named) ≡ false)
      → list_any is_so rs ≡ list_any is_so earlier

pub follows_self : (rs : List JournalRecord) → Follows rs rs
follows_self rs = record {
  life = omega arith;
  places = λ o any. any;
  others = λ r other among. among;
  some = λ is_so none other. refl;
}

-- a node was up before, with the same disk
pub record WasUp (w v : World) (place : ℕ) (n : Node) : Type 0 where
  pub up : node_at w place ≡ Some n
  pub records : records_at v place ≡ records_at w place
  pub disks : (s : Seat) → slice_get v.seats place ≡ Some s → (t : Seat) × (slice_get w.seats place ≡ Some t) × (t.disk ≡ s.disk)

pub node_there : (w : World) (place : ℕ) (s : Seat) (n : Node) → slice_get w.seats place ≡ Some s → s.server ≡ OfNode (Some n) → node_at w place ≡ Some n
unfolding node_at
node_there w place s n there up = ap (λ (o : Option Seat). option_and_then (λ (x : Seat). node_in x.server) o) there ∙ ap node_in up

-- a decision that is recorded is by a record
pub recorded_is : (outcome : LineOutcome) → is_recorded outcome ≡ true → outcome ≡ outcomes.Commit Record
recorded_is (outcomes.Commit grounds.Record) is = refl
recorded_is (outcomes.Commit grounds.OnePhase) is = absurd cc
recorded_is (outcomes.Commit grounds.Nobody) is = absurd cc
recorded_is (outcomes.Rollback reason) is = absurd cc
recorded_is outcomes.Unknown is = absurd cc

-- what is the same of two worlds, and of the lines that they have told
pub record Frame (w v : World) (told later : List Told) : Type 0 where
  pub tells : TellsOn is_bare told later
  pub allowed : AreAllowed (lines_of told) → AreAllowed (lines_of later)
  pub decided : (name : List ℕ) (key : ObjectKey) → IsTransaction w name key
      → Stands (lines.Decide name (outcomes.Commit Record)) (known later) → IsDecided w told key name
  pub commits : (name : List ℕ) (key : ObjectKey) (f : Family) → family_at v key ≡ Some f → IsTransaction w name f.key
      → Stands (lines.Decide name (outcomes.Commit Record)) (lines_of later) → Stands (lines.Decide name (outcomes.Commit Record)) (lines_of told)
  pub named : (name : List ℕ) → Stands (lines.Decide name (outcomes.Commit Record)) (known later)
      → Stands (lines.Decide name (outcomes.Commit Record)) (known told) ⊎ IsNamed w name
  pub transaction_on : (name : List ℕ) (key : ObjectKey) → IsTransaction w name key → IsTransaction v name key
  pub transaction_back : (name : List ℕ) (key : ObjectKey) → IsTransaction v name key → IsTransaction w name key
  pub resource_on : (name : List ℕ) (key : ObjectKey) → thing w name ≡ Some (things.Resource key) → thing v name ≡ Some (things.Resource key)
  pub resource_back : (name : List ℕ) (key : ObjectKey) → thing v name ≡ Some (things.Resource key) → thing w name ≡ Some (things.Resource key)
  pub refers : (to : List ℕ) → referred v to ≡ referred w to
  pub resources : (key : ObjectKey) → resource_at v key ≡ resource_at w key
  pub messages_on : (nth : ℕ) (m : Message) → slice_get w.messages nth ≡ Some m
      → (one : Message) × (slice_get v.messages nth ≡ Some one) × (one.content ≡ m.content)
  pub messages_back : (nth : ℕ) (m : Message) → slice_get v.messages nth ≡ Some m → is_call m.content ≡ false
      → (one : Message) × (slice_get w.messages nth ≡ Some one) × (one.content ≡ m.content)
  pub families : (key : ObjectKey) (f : Family) → family_at v key ≡ Some f → family_at w key ≡ Some f
  pub records : (place : ℕ) (rs : List JournalRecord) → records_at v place ≡ Some rs
      → ((earlier : List JournalRecord) × (records_at w place ≡ Some earlier) × Follows earlier rs)
      ⊎ ((rs ≡ []) × (slice_get w.seats place ≡ None))
  pub has : (place : ℕ) (is_so : JournalRecord → Bool) → ((life : ℕ) → is_so (Life life) ≡ false) → ((named : ℕ) → is_so (Done named) ≡ false)
      → has_record v place is_so ≡ has_record w place is_so
  pub seats : (place : ℕ) (server : List ℕ) → seat_name w place ≡ Some server → seat_name v place ≡ Some server
  pub nodes : (place : ℕ) (n : Node) → node_at v place ≡ Some n → WasUp w v place n ⊎ NodeIsKnown v later place n
  pub counted : EndsHaveCounted w → EndsHaveCounted v

-- what is said of names in one list of lines is said in another, where its lines are there, but for these
abbrev pub AreBareBack : List Line → List Line → Type 0
AreBareBack b a = (line : Line) → is_bare line ≡ false → Stands line b → Stands line a

family_bare : (b a : List Line) (t : List ℕ) → AreBareBack b a → IsFamily t b → IsFamily t a
family_bare b a t m (inl (node, s)) = inl (node, m _ refl s)
family_bare b a t m (inr (u, (node, s))) = inr (u, (node, m _ refl s))

joined_bare : (b a : List Line) (t u : List ℕ) → AreBareBack b a → IsJoined b t u → IsJoined a t u
joined_bare b a t _ m (safe.IsJoined.own family) = safe.IsJoined.own (family_bare b a t m family)
joined_bare b a t _ m (safe.IsJoined.committed u parent done sub above) =
    safe.IsJoined.committed u parent (m _ refl done) (m _ refl sub) (joined_bare b a t parent m above)

pub part_bare : (b a : List Line) (g t : List ℕ) → AreBareBack b a → TakesPart g t b → TakesPart g t a
part_bare b a g t m (u, registered, joined) = (u, (registered.0, m _ refl registered.1), joined_bare b a t u m joined)

abbrev pub NamedOnce : World → Type 0
NamedOnce v = (name : List ℕ) (named : Thing) → Contains v.names (name, named) → thing v name ≡ Some named

abbrev pub WereGiven : World → Type 0
WereGiven v = (place : ℕ) (s : Seat) (n : Node) (o : Outward) → slice_get v.seats place ≡ Some s → s.server ≡ OfNode (Some n)
    → HasSent v place o → o.number.life ≡ life n → (o.number.slot ≡ retold_slot) ⊎ (o.number.generation ≤ n.generation)

module _ (w v : World) (told later : List Told) (f : Frame w v told later) (k : Known w told) where
  on : AreAmong (lines_of told) (lines_of later)
  on line s = among_turned (known later) line (f.tells.on line (among_back (known told) line s))

  back : (line : Line) → is_bare line ≡ false → Stands line (lines_of later) → Stands line (lines_of told)
  back line other s = among_turned (known told) line (f.tells.back line other (among_back (known later) line s))

  -- ---- lines

  registered_then : (g t : List ℕ) → IsRegistered g t (lines_of later) → IsRegistered g t (lines_of told)
  registered_then g t (end, s) = (end, back _ refl s)

  part_then : (g t : List ℕ) → TakesPart g t (known later) → TakesPart g t (known told)
  part_then g t part = part_bare (known later) (known told) g t f.tells.back part

  -- ---- messages

  pub word_on : (nth p : ℕ) (q : Outward) → IsWord w nth p q → IsWord v nth p q
  word_on nth p q (one, at, says) = let there = f.messages_on nth one at in (there.0, there.1, there.2 ∙ says)

  pub word_back : (nth p : ℕ) (q : Outward) → IsWord v nth p q → IsWord w nth p q
  word_back nth p q (one, at, says) = let there = f.messages_back nth one at (ap is_call says) in (there.0, there.1, there.2 ∙ says)

  pub sent_back : (p : ℕ) (q : Outward) → HasSent v p q → HasSent w p q
  sent_back p q (nth, word) = (nth, word_back nth p q word)

  pub refers_back : (to : List ℕ) (r : NamedKey) → referred v to ≡ Some r → referred w to ≡ Some r
  refers_back to r is = sym (f.refers to) ∙ is

  pub refers_on : (to : List ℕ) (r : NamedKey) → referred w to ≡ Some r → referred v to ≡ Some r
  refers_on to r is = f.refers to ∙ is

  pub at_back : (key : ObjectKey) (r : FlatResource) → resource_at v key ≡ Some r → resource_at w key ≡ Some r
  at_back key r is = sym (f.resources key) ∙ is

  -- ---- names

  made_on : (name : List ℕ) → (IsTop name (lines_of told) ⊎ ((above : List ℕ) × Stands (lines.Sub name above) (lines_of told)))
      → (IsTop name (lines_of later) ⊎ ((above : List ℕ) × Stands (lines.Sub name above) (lines_of later)))
  made_on name (inl top) = inl (top.0, on _ top.1)
  made_on name (inr sub) = inr (sub.0, on _ sub.1)

  names_then : KeysAreOnce v → NamedOnce v → NamesAreTold v (lines_of later)
  names_then keys once = record {
    keys = keys;
    once = once;
    transactions = λ name key named. (named, made_on name (k.names.transactions name key (f.transaction_back name key named)).1);
    kinds = λ name key named. k.names.kinds name key (f.transaction_back name key named);
    services = λ name key named. k.names.services name key (f.transaction_back name key named);
    tops = λ name node s. let at = k.names.tops name node (back _ refl s) in (at.0, f.transaction_on name at.0 at.1, at.2);
    subs = λ name above s. let at = k.names.subs name above (back _ refl s) in
        (at.0, at.1, f.transaction_on name at.0 at.2, f.transaction_on above at.1 at.3, at.4, at.5);
    ended = λ name committed s. let at = k.names.ended name committed (back _ refl s) in (at.0, f.transaction_on name at.0 at.1, at.2);
    one_parent = λ name above other s u. k.names.one_parent name above other (back _ refl s) (back _ refl u);
    resources = λ name key named. let at = k.names.resources name key (f.resource_back name key named) in (at.0, f.resources key ∙ at.1, at.2);
    registered = λ name t r. let at = k.names.registered name t (registered_then name t r) in
        (at.0, at.1, f.resource_on name at.0 at.2, f.transaction_on t at.1 at.3);
    one_transaction = λ name t other r s. k.names.one_transaction name t other (registered_then name t r) (registered_then name other s);
    no_import = λ name above node s. k.names.no_import name above node (back _ refl s);
    objects = λ name key named. k.names.objects name key (f.resource_back name key named);
    shown = λ name state s. let at = k.names.shown name state (back _ refl s) in (at.0, f.resource_on name at.0 at.1);
  }

  -- ---- words and votes

  -- one that has sent a word has its seat
  pub seated : (p : ℕ) (q : Outward) (P : Type 0) → HasSent w p q → slice_get w.seats p ≡ None → P
  seated p q P sent none = absurd (no_some (sym (ap is_some none) ∙ k.seats.senders p q sent))
    where
      no_some : false ≡ true → ⊥
      no_some e = cc

  life_then : (p : ℕ) (q : Outward) (rs : List JournalRecord) → HasSent w p q
      → ((earlier : List JournalRecord) × (records_at w p ≡ Some earlier) × Follows earlier rs) ⊎ ((rs ≡ []) × (slice_get w.seats p ≡ None))
      → q.number.life ≤ (found_in rs).life
  life_then p q rs sent (inl (earlier, held, follows)) =
      let early = k.words.lives p q earlier sent held in
      omega (arith, early, follows.life)
  life_then p q rs sent (inr (none, gone)) = seated p q (q.number.life ≤ (found_in rs).life) sent gone

  again_then : (p : ℕ) (q : Outward) (rs : List JournalRecord) → HasSent w p q → q.number.slot ≡ retold_slot
      → ((earlier : List JournalRecord) × (records_at w p ≡ Some earlier) × Follows earlier rs) ⊎ ((rs ≡ []) × (slice_get w.seats p ≡ None))
      → Any (IsNamedBy q) (placed first_gate rs)
  again_then p q rs sent again (inl (earlier, held, follows)) = follows.places q (k.words.told_again p q earlier sent again held)
  again_then p q rs sent again (inr (none, gone)) = seated p q (Any (IsNamedBy q) (placed first_gate rs)) sent gone

  words_then : WereGiven v → WordsAreTold v (lines_of later)
  words_then given = record {
    named = λ p q sent. ap is_some (f.refers q.to) ∙ k.words.named p q (sent_back p q sent);
    once = record {
      one_object = λ p a b one other. k.words.once.one_object p a b (sent_back p a one) (sent_back p b other);
      one_word = λ first second p a b one other. k.words.once.one_word first second p a b (word_back first p a one) (word_back second p b other);
    };
    told = λ nth p q phase r word is to. on _ (k.words.told nth p q phase r (word_back nth p q word) is (refers_back q.to r to));
    sent = λ number phase name s. let at = k.words.sent number phase name (back _ refl s) in
        (at.0, at.1, at.2, at.3, word_on at.0 at.1 at.2 at.4, at.5, at.6, refers_on at.2.to at.3 at.7, at.8);
    replied = λ reply request m answer at says. let there = f.messages_back reply m at (ap is_call says) in
        k.words.replied reply request there.0 answer there.1 (there.2 ∙ says);
    asked = λ reply request m answer at says.
        let there = f.messages_back reply m at (ap is_call says) in
        let was = k.words.asked reply request there.0 answer there.1 (there.2 ∙ says) in
        (was.0, was.1, was.2, word_on was.0 was.1 was.2 was.3, was.4);
    voters = λ reply nth p m vote q at says word.
        let there = f.messages_back reply m at (ap is_call says) in
        k.words.voters reply nth p there.0 vote q there.1 (there.2 ∙ says) (word_back nth p q word);
    lives = λ p q rs sent held. life_then p q rs (sent_back p q sent) (f.records p rs held);
    given = given;
    told_again = λ p q rs sent again held. again_then p q rs (sent_back p q sent) again (f.records p rs held);
    serials = λ p q g key sent there. k.words.serials p q g key (sent_back p q sent) (f.families key g there);
  }

  votes_then : VotesWereGiven v later
  votes_then name vote s =
      let g = k.votes name vote (f.tells.back _ refl s) in
      let there = f.messages_on g.reply g.answer g.answered in
      record {
        request = g.request;
        from = g.from;
        asked = g.asked;
        sent = word_on g.request g.from g.asked g.sent;
        prepare = g.prepare;
        resource = g.resource;
        object = refers_on g.asked.to g.resource g.object;
        same_name = g.same_name;
        reply = g.reply;
        answer = there.0;
        answered = there.1;
        says = there.2 ∙ g.says;
      }

  -- ---- resources

  answered_on : (name : List ℕ) (vote : Vote) → HasAnswered w name vote → HasAnswered v name vote
  answered_on name vote (nth, from, reply, q, r, one, word, prepare, refers, named, at, says) =
      let there = f.messages_on reply one at in
      (nth, from, reply, q, r, there.0, word_on nth from q word, prepare, refers_on q.to r refers, named, there.1, there.2 ∙ says)

  answered_back : (name : List ℕ) (vote : Vote) → HasAnswered v name vote → HasAnswered w name vote
  answered_back name vote (nth, from, reply, q, r, one, word, prepare, refers, named, at, says) =
      let there = f.messages_back reply one at (ap is_call says) in
      (nth, from, reply, q, r, there.0, word_back nth from q word, prepare, refers_back q.to r refers, named, there.1, there.2 ∙ says)

  resource_then : (name : List ℕ) (r : FlatResource) → ResourceIsKnown w (lines_of told) name r → ResourceIsKnown v (lines_of later) name r
  resource_then name r old = record {
    commit = λ a. voted_kept r.state name _ _ on (old.commit (answered_back name _ a));
    read_only = λ a. old.read_only (answered_back name _ a);
    rollback = λ a. old.rollback (answered_back name _ a);
    none = λ no. unvoted_kept r.state name _ _ on (old.none (λ vote a. no vote (answered_on name vote a)));
    applied = (λ s. old.applied.0 (back _ refl s), λ e. on _ (old.applied.1 e));
    undone = (λ s. old.undone.0 (back _ refl s), λ e. on _ (old.undone.1 e));
    follows = follows_kept r.state name _ _ on
        (λ undone sent. (subst (λ s. StatesFollow s name (lines_of told)) undone old.follows) (sent.0, back _ refl sent.1)) old.follows;
  }

  resources_then : ResourcesAreKnown v (lines_of later)
  resources_then name key r named at = resource_then name r (k.resources name key r (f.resource_back name key named) (at_back key r at))

  -- ---- families

  branch_on : (g : Family) (t : List ℕ) (b : ℕ) → IsBranch w g t b → IsBranch v g t b
  branch_on g t b (key, named, of, is) = (key, f.transaction_on t key named, of, is)

  branch_back : (g : Family) (t : List ℕ) (b : ℕ) → IsBranch v g t b → IsBranch w g t b
  branch_back g t b (key, named, of, is) = (key, f.transaction_back t key named, of, is)

  listed_on : (g : Family) (name : List ℕ) (b : ℕ) → IsListed w g name b → IsListed v g name b
  listed_on g name b (c, r, object, among, is, refers, named) = (c, r, object, among, is, refers_on r.to object refers, named)

  listed_back : (g : Family) (name : List ℕ) (b : ℕ) → IsListed v g name b → IsListed w g name b
  listed_back g name b (c, r, object, among, is, refers, named) = (c, r, object, among, is, refers_back r.to object refers, named)

  outcome_then : (s : Option Outcome) (name : List ℕ)
      → (Stands (lines.Decide name (outcomes.Commit Record)) (lines_of later) → Stands (lines.Decide name (outcomes.Commit Record)) (lines_of told))
      → OutcomeIsTold s name (lines_of told) → OutcomeIsTold s name (lines_of later)
  outcome_then None name same is = λ s. is (same s)
  outcome_then (Some (outcomes.Commit basis)) name same is = on _ is
  outcome_then (Some (outcomes.Rollback reason)) name same is = λ s. is (same s)
  outcome_then (Some outcomes.Unknown) name same is = λ s. is (same s)

  family_then : (key : ObjectKey) (g : Family) → family_at v key ≡ Some g → FamilyIsKnown w (lines_of told) g → FamilyIsKnown v (lines_of later) g
  family_then key g there old = record {
    sound = old.sound;
    name = old.name;
    of_name = f.transaction_on old.name g.key old.of_name;
    top = old.top;
    branches = λ b less. let at = old.branches b less in (at.0, branch_on g at.0 b at.1);
    no_further = λ t b branch. old.no_further t b (branch_back g t b branch);
    parents = λ t above b p branch higher.
        let was = old.parents t above b p (branch_back g t b branch) (branch_back g above p higher) in
        (λ s. was.0 (back _ refl s), λ e. on _ (was.1 e));
    ends = λ t b committed branch below.
        let was = old.ends t b committed (branch_back g t b branch) below in
        (λ s. was.0 (back _ refl s), λ e. on _ (was.1 e));
    registrations = λ r t b branch.
        let was = old.registrations r t b (branch_back g t b branch) in
        (λ s. listed_on g r b (was.0 (registered_then r t s)), λ l. registered_among _ _ r t on (was.1 (listed_back g r b l)));
    own = λ r object t among refers registered.
        branch_on g t r.branch (old.own r object t among (refers_back r.to object refers) (registered_then object.name t registered));
    numbered = old.numbered;
    unsynchronized = old.unsynchronized;
    named = λ r among. ap is_some (f.refers r.to) ∙ old.named r among;
    apart = old.apart;
    within = old.within;
    came = λ e r among is.
        let at = old.came e r among is in
        let there = f.messages_on at.0 at.1 at.2 in
        (at.0, there.0, there.1, at.3, at.4, at.5);
    dues = old.dues;
    legs = old.legs;
    ready = old.ready;
    few = old.few;
    settled = old.settled;
    votes = λ number vote r object among is refers.
        let was = old.votes number vote r object among is (refers_back r.to object refers) in
        (λ e. on _ (was.0 e), λ s. was.1 (back _ refl s));
    outcome = outcome_then (stages.outcome g.completion) old.name (f.commits old.name key g there old.of_name) old.outcome;
    recorded =
        let same = f.has (place_of g.key) (is_decision_of g.key) (λ life. refl) (λ named. refl) in
        (λ has. old.recorded.0 (sym same ∙ has), λ e. same ∙ old.recorded.1 e);
  }

  families_then : FamiliesAreKnown v (lines_of later)
  families_then key g there = family_then key g there (k.families key g (f.families key g there))

  open_then : ToldIsOpen v (lines_of later)
  open_then = record {
    commit = λ g t b key h sent registered there branch.
        k.open_words.commit g t b key h (sent.0, back _ refl sent.1) (registered_then g t registered) (f.families key h there) (branch_back h t b branch);
    one_phase = λ g t b key h sent registered there branch.
        k.open_words.one_phase g t b key h (sent.0, back _ refl sent.1) (registered_then g t registered) (f.families key h there) (branch_back h t b branch);
  }

  -- ---- records and outcomes

  consented_on : (g : List ℕ) → HasConsented g (known told) → HasConsented g (known later)
  consented_on g (inl s) = inl (f.tells.on _ s)
  consented_on g (inr s) = inr (f.tells.on _ s)

  rests_then : (family : ObjectKey) (regs : List Named) → RestsOnVotes w told family regs → RestsOnVotes v later family regs
  rests_then family regs old = record {
    name = old.name;
    of_name = f.transaction_on old.name family old.of_name;
    consented = λ p part. consented_on p (old.consented p (part_then p old.name part));
    named = λ to some. ap is_some (f.refers to) ∙ old.named to some;
    voters = λ to r refers.
        let was = old.voters to r (refers_back to r refers) in (
          λ among. (part_among _ _ r.name old.name f.tells.on (was.0 among).0, f.tells.on _ (was.0 among).1),
          λ voter. was.1 (part_then r.name old.name voter.0, f.tells.back _ refl voter.1),
        );
    once = old.once;
  }

  records_then : RecordsRestOnVotes v later
  records_then p life slot generation by asked regs rs held among = at (f.records p rs held)
    where
      none_of : {A : Type 0} (x : A) → Contains [] x → ⊥
      none_of x (i, less, is) = omega (arith, less)

      at : ((earlier : List JournalRecord) × (records_at w p ≡ Some earlier) × Follows earlier rs) ⊎ ((rs ≡ []) × (slice_get w.seats p ≡ None))
          → RestsOnVotes v later (recorded_key p life slot generation) regs
      at (inl (earlier, was, follows)) =
          rests_then (recorded_key p life slot generation) regs
          (k.records p life slot generation by asked regs earlier was (follows.others (Decision life slot generation by asked regs) refl among))
      at (inr (none, gone)) = absurd (none_of _ (subst (λ (x : List JournalRecord). Contains x (Decision life slot generation by asked regs)) none among))

  decided_back : (name : List ℕ) (key : ObjectKey) → IsTransaction w name key → IsDecided v later key name → IsDecided w told key name
  decided_back name key named (inl s) = f.decided name key named s
  decided_back name key named (inr has) = inr (sym (f.has (place_of key) (is_decision_of key) (λ life. refl) (λ named. refl)) ∙ has)

  rolled_back_back : (name : List ℕ) → IsRolledBack later name → IsRolledBack told name
  rolled_back_back name (agreed.IsRolledBack.by_known reason s) = agreed.IsRolledBack.by_known reason (f.tells.back _ refl s)
  rolled_back_back name (agreed.IsRolledBack.by_other reason c) = agreed.IsRolledBack.by_other reason (f.tells.reasons_back _ tt c)
  rolled_back_back name (agreed.IsRolledBack.by_synchronization reason synchronization c) =
      agreed.IsRolledBack.by_synchronization reason synchronization (f.tells.reasons_back _ tt c)

  rolled_back_on : (name : List ℕ) → IsRolledBack told name → IsRolledBack later name
  rolled_back_on name (agreed.IsRolledBack.by_known reason s) = agreed.IsRolledBack.by_known reason (f.tells.on _ s)
  rolled_back_on name (agreed.IsRolledBack.by_other reason c) = agreed.IsRolledBack.by_other reason (f.tells.reasons_on _ c)
  rolled_back_on name (agreed.IsRolledBack.by_synchronization reason synchronization c) =
      agreed.IsRolledBack.by_synchronization reason synchronization (f.tells.reasons_on _ c)

  closed_on : (name : List ℕ) (key : ObjectKey) → IsTransaction w name key → IsClosed w told key name → IsClosed v later key name
  closed_on name key named (agreed.IsClosed.rolled_back r) = agreed.IsClosed.rolled_back (rolled_back_on name r)
  closed_on name key named (agreed.IsClosed.outlived l undecided) =
      agreed.IsClosed.outlived
      (record { server = l.server; named = f.seats (place_of key) l.server l.named; life = l.life; later = l.later; up = f.tells.on _ l.up })
      (λ d. undecided (decided_back name key named d))

  one_outcome_then : NoneIsBoth v later
  one_outcome_then name key named top decided (agreed.IsClosed.rolled_back r) =
      let was = f.transaction_back name key named in
      k.one_outcome name key was top (decided_back name key was decided) (agreed.IsClosed.rolled_back (rolled_back_back name r))
  one_outcome_then name key named top decided (agreed.IsClosed.outlived l undecided) = undecided decided

  recorded_then : DecisionsAreRecorded v later
  recorded_then name key named top s =
      let was = f.transaction_back name key named in
      f.has (place_of key) (is_decision_of key) (λ life. refl) (λ named. refl) ∙ by was (f.decided name key was s)
    where
      by : IsTransaction w name key → IsDecided w told key name → IsTrue (has_record w (place_of key) (is_decision_of key))
      by was (inl line) = k.recorded name key was top line
      by was (inr has) = has

  -- ---- words of the second phase

  commits_then : CommitsAreRecorded v
  commits_then p q sent commit = f.has p (names_object q.to) (λ life. refl) (λ named. refl) ∙ k.commits p q (sent_back p q sent) commit

  alone_on : (name : List ℕ) → IsAlone w told name → IsAlone v later name
  alone_on name old = record {
    family = old.family;
    key = old.key;
    of_name = f.transaction_on old.family old.key old.of_name;
    participant = part_among _ _ name old.family f.tells.on old.participant;
    only = λ p part. old.only p (part_then p old.family part);
    unrecorded = λ d. old.unrecorded (decided_back old.family old.key old.of_name d);
  }

  one_phase_then : OnePhaseIsAlone v later
  one_phase_then name (message, s) = alone_on name (k.one_phase name (message, f.tells.back _ refl s))

  over_on : (transaction top : List ℕ) (key : ObjectKey) → IsTransaction w top key → (IsClosed w told key top ⊎ IsCutOff (known told) transaction)
      → (IsClosed v later key top ⊎ IsCutOff (known later) transaction)
  over_on transaction top key named (inl closed) = inl (closed_on top key named closed)
  over_on transaction top key named (inr off) = inr (cut_among _ _ transaction f.tells.on off)

  may_be_on : (name : List ℕ) → MayBeRolledBack w told name → MayBeRolledBack v later name
  may_be_on name old = record {
    transaction = old.transaction;
    key = old.key;
    named = f.transaction_on old.transaction old.key old.named;
    registered = registered_among _ _ name old.transaction f.tells.on old.registered;
    top = old.top;
    family = f.transaction_on old.top (record old.key { index = 0 }) old.family;
    over = over_on old.transaction old.top (record old.key { index = 0 }) old.family old.over;
  }

  rollbacks_then : RollbacksAreClosed v later
  rollbacks_then p q r sent rollback refers = may_be_on r.name (k.rollbacks p q r (sent_back p q sent) rollback (refers_back q.to r refers))

  rolled_back_then : RollbacksAreOutcomes v later
  rolled_back_then name key g named top there back =
      k.rolled_back name key g (f.transaction_back name key named) top (f.families key g there) (rolled_back_back name back)

  told_back_then : RollbacksAreTold v later
  told_back_then name key g there named is =
      rolled_back_on name (k.told_back name key g (f.families key g there) (f.transaction_back name g.key named) is)

  -- ---- transactions, nodes and ends

  seated_then : (p : ℕ) → IsTrue (is_some (slice_get w.seats p)) → IsTrue (is_some (slice_get v.seats p))
  seated_then p is = by (slice_get w.seats p) refl is
    where
      named_one : (o : Option Seat) (name : List ℕ) → option_map (λ (s : Seat). s.name) o ≡ Some name → is_some o ≡ true
      named_one (Some s) name e = refl
      named_one None name e = absurd cc

      by : (o : Option Seat) → slice_get w.seats p ≡ o → is_some o ≡ true → is_some (slice_get v.seats p) ≡ true
      by (Some s) there is = named_one (slice_get v.seats p) s.name (f.seats p s.name (ap (option_map (λ (x : Seat). x.name)) there))
      by None there is = absurd cc

  made_then : (name : List ℕ) (key : ObjectKey) (rs : List JournalRecord) → IsTransaction w name key
      → ((earlier : List JournalRecord) × (records_at w (place_of key) ≡ Some earlier) × Follows earlier rs)
      ⊎ ((rs ≡ []) × (slice_get w.seats (place_of key) ≡ None))
      → key.life ≤ (found_in rs).life
  made_then name key rs named (inl (earlier, held, follows)) =
      let early = k.transactions.lives name key earlier named held in
      omega (arith, early, follows.life)
  made_then name key rs named (inr (none, gone)) = absurd (no_some (sym (ap is_some gone) ∙ k.transactions.seated name key named))
    where
      no_some : false ≡ true → ⊥
      no_some e = cc

  named_on : (name : List ℕ) → IsNamed w name → IsNamed v name
  named_on name (key, named) = (key, f.transaction_on name key named)

  outcome_named : (name : List ℕ) (outcome : LineOutcome) (b : Bool) → is_recorded outcome ≡ b → Stands (lines.Decide name outcome) (known later)
      → IsNamed v name
  outcome_named name outcome true is s =
      elim (f.named name (subst (λ (x : LineOutcome). Stands (lines.Decide name x) (known later)) (recorded_is outcome is) s)) [
        | inl was ↦ named_on name (k.transactions.decided name (outcomes.Commit Record) was)
        | inr new ↦ named_on name new
      ]
  outcome_named name outcome false is s = named_on name (k.transactions.decided name outcome (f.tells.back (lines.Decide name outcome) is s))

  transactions_then : TransactionsAreKnown v later
  transactions_then = record {
    seated = λ name key named. seated_then (place_of key) (k.transactions.seated name key (f.transaction_back name key named));
    lives = λ name key rs named held. made_then name key rs (f.transaction_back name key named) (f.records (place_of key) rs held);
    decided = λ name outcome s. outcome_named name outcome (is_recorded outcome) refl s;
    rolled_back = λ name back. named_on name (k.transactions.rolled_back name (rolled_back_back name back));
  }

  held_then : (p : ℕ) (rs : List JournalRecord) (held : Held) → IsHeldAs w told p rs held → IsHeldAs v later p rs held
  held_then p rs held old = record {
    stood = old.stood;
    there = old.there;
    same_place = old.same_place;
    numbers = old.numbers;
    references = old.references;
    line = λ life slot generation retry asked regs is.
        let was = old.line life slot generation retry asked regs is in
        (was.0, f.transaction_on was.0 (recorded_key p life slot generation) was.1, f.tells.on _ was.2);
  }

  node_then : (p : ℕ) (n : Node) → WasUp w v p n → NodeIsKnown w told p n → NodeIsKnown v later p n
  node_then p n was old = record {
    sound = edge_kept v w p n was.records old.sound;
    given = λ name key named at in_life. old.given name key (f.transaction_back name key named) at in_life;
    order = λ s rs there held.
        let t = was.disks s there in
        subst (λ (d : DiskState). IsInOrder (service_at p) d rs) t.2 (old.order t.0 rs t.1 (sym was.records ∙ held));
    held = λ rs held has among. held_then p rs held (old.held rs held (sym was.records ∙ has) among);
  }

  nodes_then : NodesAreKnown v later
  nodes_then p n is = elim (f.nodes p n is) [
    | inl was ↦ node_then p n was (k.nodes p n was.up)
    | inr new ↦ new
  ]

  -- what is known then, where it is known of the seats
  pub framed_known : KeysAreOnce v → NamedOnce v → SeatsAreNamed v (lines_of later) → DisksAreKnown v later → WereGiven v → Known v later
  framed_known keys once seats disks given = record {
    names = names_then keys once;
    seats = seats;
    disks = disks;
    words = words_then given;
    votes = votes_then;
    resources = resources_then;
    families = families_then;
    open_words = open_then;
    records = records_then;
    recorded = recorded_then;
    ends = λ before behind t committed earlier e s.
        let at = f.tells.split (lines.SubDone t committed) before behind refl e in
        k.ends before at.0 t committed earlier at.1 s;
    one_outcome = one_outcome_then;
    commits = commits_then;
    one_phase = one_phase_then;
    rollbacks = rollbacks_then;
    rolled_back = rolled_back_then;
    told_back = told_back_then;
    transactions = transactions_then;
    nodes = nodes_then;
    counted = f.counted k.counted;
    allowed = f.allowed k.allowed;
  }
