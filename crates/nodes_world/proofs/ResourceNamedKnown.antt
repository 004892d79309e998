-- What is known of a world is known once an end has made an object and it has its name; nothing is registered yet.
use Rattle.std.proofs.Common.{◌≡◌, ◌≢◌, ◌⊎◌, inl, inr, ℕ, ◌+◌, ◌≤◌, Bool, true, false, is_some, IsTrue, List, [], ◌∷◌, ◌++◌, length, slice_get, Contains, Option, Some, None, refl, sym, ap, subst, ◌∙◌, arith}
use Rattle.std.specs.List.{AllByRecursion, list_any}
use Rattle.std.specs.Option.{option_map_or, option_and_then}
use Rattle.ior_refs.specs.declared.key.ObjectKey.{ObjectKey}
use Rattle.ior_refs.specs.Laws.{SameOctetsSameKey}
use Rattle.ots_model.specs.Safe.{Stands, IsRegistered}
use Rattle.ots_model.specs.declared.completion.Vote.{Vote}
use Rattle.ots_model.specs.declared.line.Line.{Line}
use Rattle.ots_model.specs.declared.line.Line.TheVariants as lines
use Rattle.ots_model.specs.declared.line.ResourceState.{ResourceState}
use Rattle.ots_model.specs.declared.tree.Outward.{Outward}
use Rattle.decision_journal.specs.declared.record.JournalRecord.{JournalRecord}
use Rattle.decision_journal.specs.declared.record.Registration.{Registration as Named}
use Rattle.recovery_coord.specs.declared.held.Held.{Held}
use Rattle.resource_end.specs.declared.state.State.TheVariants as states
use Rattle.resource_votes.specs.Ballots.{participants}
use Rattle.coordinator.specs.Family.{Family}
use Rattle.coordinator.specs.Node.{Node, family_of}
use Rattle.nodes_world.specs.declared.deed.Manner.{Manner}
use Rattle.nodes_world.specs.declared.thing.Thing.{Thing}
use Rattle.nodes_world.specs.declared.thing.Thing.TheVariants as things
use Rattle.nodes_world.specs.Agreement as agreed
use Rattle.nodes_world.specs.Agreement.{HasSent, IsAlone, IsClosed, IsCutOff, IsDecided, IsTransaction, RecordsRestOnVotes, RestsOnVotes, VotesWereGiven, NoneIsBoth, RollbacksAreClosed, has_record, is_decision_of, names_object, recorded_key, records_at}
use Rattle.nodes_world.specs.AgreementInside.{Known, DisksAreKnown, EndsHaveCounted, FamiliesAreKnown, FamilyIsKnown, HasAnswered, IsBranch, IsHeldAs, IsListed, IsMade, IsNamed, NamesAreTold, NodesAreKnown, ResourceIsKnown, ResourcesAreKnown, SeatsAreNamed, ToldIsOpen, TransactionsAreKnown, WordsAreTold}
use Rattle.nodes_world.specs.Ends.{fresh}
use Rattle.nodes_world.specs.Limits.{message_limit, seat_limit}
use Rattle.nodes_world.specs.Objects.{place_of}
use Rattle.nodes_world.specs.Told.{Told, known}
use Rattle.nodes_world.specs.World.{World, Seat, OfEnd, OfNode, FlatEnd, FlatResource, NamedKey, end_at, family_at, node_at, referred, resource_at, seat_name, thing}
use Rattle.nodes_world.proofs.Deeds.{node_is_up}
use Rattle.nodes_world.proofs.Edges.{edge_kept}
use Rattle.nodes_world.proofs.KnownFamilies.{all_at}
use Rattle.nodes_world.proofs.KnownLines.{among_turned, lines_of, referred_named}
use Rattle.nodes_world.proofs.KnownSeats.{as_long, disks_kept, set_at, set_cases}
use Rattle.nodes_world.proofs.KnownWorlds.{node_there}
use Rattle.nodes_world.proofs.ResourceNamed as made
use Rattle.nodes_world.proofs.RulesKeep.{registered_of}

inner : {A : Type 0} (x y : A) → Some x ≡ Some y → x ≡ y
inner x y e = cc

same_or_not : (a b : ℕ) → (a ≡ b) ⊎ (a ≢ b)
same_or_not a b = grind arith

all_pushed : {A : Type 0} (P : A → Type 0) (xs : List A) (y : A) → AllByRecursion P xs → P y → AllByRecursion P (xs ++ y ∷ [])
all_pushed P [] y all one = (one, tt)
all_pushed P (x ∷ xs) y all one = (all.0, all_pushed P xs y all.1 one)

all_weaker : (a b : ℕ) (xs : List FlatResource) → a ≤ b → AllByRecursion (λ (r : FlatResource). r.key.generation ≤ a) xs
    → AllByRecursion (λ (r : FlatResource). r.key.generation ≤ b) xs
all_weaker a b [] less all = tt
all_weaker a b (x ∷ xs) less (one, all) = (omega (arith, one, less), all_weaker a b xs less all)

module _ (law : SameOctetsSameKey) (w : World) (place : ℕ) (name : List ℕ) (manner : Manner) (s : Seat) (e : FlatEnd) (told : List Told)
    (there : slice_get w.seats place ≡ Some s) (up : s.server ≡ OfEnd (Some e)) (free : thing w name ≡ None) (k : Known w told)
    (room : e.drawn + 1 ≤ length w.messages) (few : length w.messages ≤ message_limit + 1) where
  abbrev key : ObjectKey
  key = made.key law w place name manner s e told there up free k room few

  abbrev own : Thing
  own = made.own law w place name manner s e told there up free k room few

  abbrev left : Seat
  left = made.left law w place name manner s e told there up free k room few

  abbrev pub v : World
  v = made.v law w place name manner s e told there up free k room few

  abbrev h : List Line
  h = lines_of told

  thing_on : (t : List ℕ) (x : Thing) → thing w t ≡ Some x → thing v t ≡ Some x
  thing_on t x is = made.thing_on law w place name manner s e told there up free k room few t x is

  trans_on : (t : List ℕ) (x : ObjectKey) → IsTransaction w t x → IsTransaction v t x
  trans_on t x is = thing_on t (things.Transaction x) is

  trans_back : (t : List ℕ) (x : ObjectKey) → IsTransaction v t x → IsTransaction w t x
  trans_back t x is = made.trans_back law w place name manner s e told there up free k room few t x is

  object_cases : (t : List ℕ) (x : ObjectKey) → thing v t ≡ Some (things.Resource x) → (thing w t ≡ Some (things.Resource x)) ⊎ ((t ≡ name) × (key ≡ x))
  object_cases t x is = made.object_cases law w place name manner s e told there up free k room few t x is

  unnamed : (t : List ℕ) (x : Thing) → thing w t ≡ Some x → t ≡ name → ⊥
  unnamed t x named is = made.unnamed law w place name manner s e told there up free k room few t x named is

  resource_on : (x : ObjectKey) (r : FlatResource) → resource_at w x ≡ Some r → resource_at v x ≡ Some r
  resource_on x r is = made.resource_on law w place name manner s e told there up free k room few x r is

  resource_new : resource_at v key ≡ Some (fresh key)
  resource_new = made.resource_new law w place name manner s e told there up free k room few

  refers_on : (to : List ℕ) (r : NamedKey) → referred w to ≡ Some r → referred v to ≡ Some r
  refers_on to r is = made.refers_on law w place name manner s e told there up free k room few to r is

  refers_kept : (to : List ℕ) (r : NamedKey) → IsTrue (is_some (referred w to)) → referred v to ≡ Some r → referred w to ≡ Some r
  refers_kept to r named is = made.refers_kept law w place name manner s e told there up free k room few to r named is

  some_on : (to : List ℕ) → IsTrue (is_some (referred w to)) → IsTrue (is_some (referred v to))
  some_on to is = by (referred w to) refl is
    where
      by : (o : Option NamedKey) → referred w to ≡ o → is_some o ≡ true → is_some (referred v to) ≡ true
      by (Some r) at some = ap is_some (refers_on to r at)
      by None at some = absurd cc

  -- to what a word that was sent leads
  sent_leads : (p : ℕ) (o : Outward) (r : NamedKey) → HasSent w p o → referred v o.to ≡ Some r → referred w o.to ≡ Some r
  sent_leads p o r sent is = refers_kept o.to r (k.words.named p o sent) is

  -- ---- seats

  not_node : (o : Option Node) → OfEnd (Some (made.made law w place name manner s e told there up free k room few)) ≡ OfNode o → ⊥
  not_node o is = cc

  seat_was : (p : ℕ) (x : Seat) (o : Option Node) → slice_get v.seats p ≡ Some x → x.server ≡ OfNode o → slice_get w.seats p ≡ Some x
  seat_was p x o at is = elim (set_cases w.seats place s left p x there at) [
    | inl here ↦ absurd (not_node o (ap (λ (y : Seat). y.server) here.1 ∙ is))
    | inr was ↦ was
  ]

  records : (p : ℕ) → records_at v p ≡ records_at w p
  records p = disks_kept w place s left there refl refl p

  has_same : (p : ℕ) (is_so : JournalRecord → Bool) → has_record v p is_so ≡ has_record w p is_so
  has_same p is_so = ap (λ (o : Option (List JournalRecord)). option_map_or (λ (rs : List JournalRecord). list_any is_so rs) o false) (records p)

  node_back : (p : ℕ) (n : Node) → node_at v p ≡ Some n → node_at w p ≡ Some n
  node_back p n is = let at = node_is_up v p n is in node_there w p at.seat n (seat_was p at.seat (Some n) at.there at.up) at.up

  pub family_back : (x : ObjectKey) (f : Family) → family_at v x ≡ Some f → family_at w x ≡ Some f
  family_back x f is = by (node_at v (place_of x)) refl is
    where
      by : (o : Option Node) → node_at v (place_of x) ≡ o → option_and_then (family_of x) o ≡ Some f → family_at w x ≡ Some f
      by (Some n) at found = ap (option_and_then (family_of x)) (node_back (place_of x) n at) ∙ found
      by None at found = absurd cc

  seat_on : (p : ℕ) → IsTrue (is_some (slice_get w.seats p)) → IsTrue (is_some (slice_get v.seats p))
  seat_on p is = elim (set_at w.seats place s left p there) [
    | inl here ↦ ap is_some here.1
    | inr still ↦ ap is_some still ∙ is
  ]

  seat_name_same : (p : ℕ) → seat_name v p ≡ seat_name w p
  seat_name_same p = made.seat_names law w place name manner s e told there up free k room few p

  seats_now : SeatsAreNamed v h
  seats_now = record {
    named = λ p x at. elim (set_cases w.seats place s left p x there at) [
      | inl here ↦ thing_on x.name (things.Seat p) (subst (λ (y : Seat). thing w y.name ≡ Some (things.Seat p)) here.1
          (k.seats.named p s (ap (slice_get w.seats) here.0 ∙ there)))
      | inr was ↦ thing_on x.name (things.Seat p) (k.seats.named p x was)
    ];
    there = λ t p named. seat_there t p (k.seats.there t p (made.seat_back law w place name manner s e told there up free k room few t p named));
    up = λ t in_life stands. let at = k.seats.up t in_life stands in (at.0, thing_on t (things.Seat at.0) at.1);
    senders = λ p o sent. seat_on p (k.seats.senders p o sent);
    few = subst (λ (many : ℕ). many ≤ seat_limit) (sym (as_long w.seats place left)) k.seats.few;
    calls = k.seats.calls;
  }
    where
      seat_there : (t : List ℕ) (p : ℕ) → (x : Seat) × (slice_get w.seats p ≡ Some x) × (x.name ≡ t) → (x : Seat) × (slice_get v.seats p ≡ Some x) × (x.name ≡ t)
      seat_there t p (x, at, is) = elim (set_at w.seats place s left p there) [
        | inl here ↦ (left, here.1, ap (λ (y : Seat). y.name) (inner s x (sym there ∙ sym (ap (slice_get w.seats) here.0) ∙ at)) ∙ is)
        | inr still ↦ (x, still ∙ at, is)
      ]

  disks_now : DisksAreKnown v told
  disks_now = record {
    held = λ p x o at is. let was = k.disks.held p x o (seat_was p x o at is) is in (was.0, was.1, records p ∙ was.2);
    whole = λ p x n at is. k.disks.whole p x n (seat_was p x (Some n) at is) is;
    follows = λ p x n at is. k.disks.follows p x n (seat_was p x (Some n) at is) is;
    decisions = λ p x n at is. k.disks.decisions p x n (seat_was p x (Some n) at is) is;
    rise = k.disks.rise;
    lives = λ p x o in_life rs at is stands held. k.disks.lives p x o in_life rs (seat_was p x o at is) is stands (sym (records p) ∙ held);
    no_superior = λ p rs r held among. k.disks.no_superior p rs r (sym (records p) ∙ held) among;
    rests = λ p x at is. k.disks.rests p x (seat_was p x None at is) is;
  }

  -- ---- names

  made_on : (t : List ℕ) (x : ObjectKey) → IsTransaction v t x → IsMade w h t x → IsMade v h t x
  made_on t x is (named, so) = (is, so)

  names_now : NamesAreTold v h
  names_now = record {
    keys = made.keys_now law w place name manner s e told there up free k room few;
    once = made.once_now law w place name manner s e told there up free k room few;
    transactions = λ t x is. made_on t x is (k.names.transactions t x (trans_back t x is));
    kinds = λ t x is. k.names.kinds t x (trans_back t x is);
    services = λ t x is. k.names.services t x (trans_back t x is);
    tops = λ t node stands. let at = k.names.tops t node stands in (at.0, trans_on t at.0 at.1, at.2);
    subs = λ t above stands. let at = k.names.subs t above stands in (at.0, at.1, trans_on t at.0 at.2, trans_on above at.1 at.3, at.4, at.5);
    ended = λ t committed stands. let at = k.names.ended t committed stands in (at.0, trans_on t at.0 at.1, at.2);
    one_parent = k.names.one_parent;
    resources = λ t x is. elim (object_cases t x is) [
      | inl was ↦ let at = k.names.resources t x was in (at.0, resource_on x at.0 at.1, at.2)
      | inr new ↦ (fresh key, ap (resource_at v) (sym new.1) ∙ resource_new, new.1)
    ];
    registered = λ r t stands.
        let at = k.names.registered r t stands in
        (at.0, at.1, thing_on r (things.Resource at.0) at.2, trans_on t at.1 at.3);
    one_transaction = k.names.one_transaction;
    no_import = k.names.no_import;
    objects = λ t x is. elim (object_cases t x is) [
      | inl was ↦ k.names.objects t x was
      | inr new ↦ (manner, place, e.drawn + 1, sym new.1)
    ];
    shown = λ t state stands. let at = k.names.shown t state stands in (at.0, thing_on t (things.Resource at.0) at.1);
  }

  -- ---- words and votes

  words_now : WordsAreTold v h
  words_now = record {
    named = λ p o sent. some_on o.to (k.words.named p o sent);
    once = record { one_object = k.words.once.one_object; one_word = k.words.once.one_word };
    told = λ nth p o phase r word is leads. k.words.told nth p o phase r word is (sent_leads p o r (nth, word) leads);
    sent = λ number phase g stands.
        let was = k.words.sent number phase g stands in
        (was.0, was.1, was.2, was.3, was.4, was.5, was.6, refers_on was.2.to was.3 was.7, was.8);
    replied = k.words.replied;
    asked = k.words.asked;
    voters = k.words.voters;
    lives = λ p o rs sent held. k.words.lives p o rs sent (sym (records p) ∙ held);
    given = λ p x n o at is sent same. k.words.given p x n o (seat_was p x (Some n) at is) is sent same;
    told_again = λ p o rs sent slot held. k.words.told_again p o rs sent slot (sym (records p) ∙ held);
    serials = λ p o f x sent at. k.words.serials p o f x sent (family_back x f at);
  }

  votes_now : VotesWereGiven v told
  votes_now voter vote stands =
      let g = k.votes voter vote stands in
      record {
        request = g.request;
        from = g.from;
        asked = g.asked;
        sent = g.sent;
        prepare = g.prepare;
        resource = g.resource;
        object = refers_on g.asked.to g.resource g.object;
        same_name = g.same_name;
        reply = g.reply;
        answer = g.answer;
        answered = g.answered;
        says = g.says;
      }

  -- ---- resources

  answered_on : (g : List ℕ) (vote : Vote) → HasAnswered w g vote → HasAnswered v g vote
  answered_on g vote (nth, from, reply, o, r, m, word, prepare, leads, named, at, says) =
      (nth, from, reply, o, r, m, word, prepare, refers_on o.to r leads, named, at, says)

  answered_back : (g : List ℕ) (vote : Vote) → HasAnswered v g vote → HasAnswered w g vote
  answered_back g vote (nth, from, reply, o, r, m, word, prepare, leads, named, at, says) =
      (nth, from, reply, o, r, m, word, prepare, sent_leads from o r (nth, word) leads, named, at, says)

  resource_still : (g : List ℕ) (r : FlatResource) → ResourceIsKnown w h g r → ResourceIsKnown v h g r
  resource_still g r old = record {
    commit = λ a. old.commit (answered_back g _ a);
    read_only = λ a. old.read_only (answered_back g _ a);
    rollback = λ a. old.rollback (answered_back g _ a);
    none = λ no. old.none (λ vote a. no vote (answered_on g vote a));
    applied = old.applied;
    undone = old.undone;
    follows = old.follows;
  }

  -- the new one has answered nothing
  unanswered : (vote : Vote) → HasAnswered v name vote → ⊥
  unanswered vote (nth, from, reply, o, r, m, word, prepare, leads, named, at, says) =
      unnamed r.name (things.Resource r.key) (referred_named w told k o.to r (sent_leads from o r (nth, word) leads)) named

  unshown : (state : ResourceState) → Stands (lines.State name state) h → ⊥
  unshown state stands = let at = k.names.shown name state stands in unnamed name (things.Resource at.0) at.1 refl

  resource_fresh : ResourceIsKnown v h name (fresh key)
  resource_fresh = record {
    commit = λ a. absurd (unanswered _ a);
    read_only = λ a. absurd (unanswered _ a);
    rollback = λ a. absurd (unanswered _ a);
    none = λ no. tt;
    applied = (λ stands. absurd (unshown _ stands), λ is. absurd (not_applied is));
    undone = (λ stands. absurd (unshown _ stands), λ is. absurd (not_undone is));
    follows = tt;
  }
    where
      not_applied : states.Fresh ≡ states.Applied → ⊥
      not_applied is = cc

      not_undone : states.Fresh ≡ states.Undone → ⊥
      not_undone is = cc

  resources_now : ResourcesAreKnown v h
  resources_now g x r named at = elim (object_cases g x named) [
    | inl was ↦
        let old = k.names.resources g x was in
        let same = inner old.0 r (sym (resource_on x old.0 old.1) ∙ at) in
        resource_still g r (k.resources g x r was (old.1 ∙ ap (λ (y : FlatResource). Some y) same))
    | inr new ↦
        let same = inner (fresh key) r (sym resource_new ∙ ap (resource_at v) new.1 ∙ at) in
        subst (λ (y : List ℕ). ResourceIsKnown v h y r) (sym new.0) (subst (ResourceIsKnown v h name) same resource_fresh)
  ]

  -- ---- families

  branch_on : (f : Family) (t : List ℕ) (b : ℕ) → IsBranch w f t b → IsBranch v f t b
  branch_on f t b (x, named, of, is) = (x, trans_on t x named, of, is)

  branch_back : (f : Family) (t : List ℕ) (b : ℕ) → IsBranch v f t b → IsBranch w f t b
  branch_back f t b (x, named, of, is) = (x, trans_back t x named, of, is)

  family_on : (f : Family) → FamilyIsKnown w h f → FamilyIsKnown v h f
  family_on f old = record {
    sound = old.sound;
    name = old.name;
    of_name = trans_on old.name f.key old.of_name;
    top = old.top;
    branches = λ b less. let was = old.branches b less in (was.0, branch_on f was.0 b was.1);
    no_further = λ t b branch. old.no_further t b (branch_back f t b branch);
    parents = λ t above b p branch higher. old.parents t above b p (branch_back f t b branch) (branch_back f above p higher);
    ends = λ t b committed branch below. old.ends t b committed (branch_back f t b branch) below;
    registrations = λ r t b branch.
        let was = old.registrations r t b (branch_back f t b branch) in
        (λ stands. listed_on r b (was.0 stands), λ l. was.1 (listed_back r b l));
    own = λ r object t among leads registered.
        branch_on f t r.branch (old.own r object t among (refers_kept r.to object (old.named r among) leads) registered);
    numbered = old.numbered;
    unsynchronized = old.unsynchronized;
    named = λ r among. some_on r.to (old.named r among);
    apart = old.apart;
    dues = old.dues;
    legs = old.legs;
    ready = old.ready;
    few = old.few;
    settled = old.settled;
    came = old.came;
    within = old.within;
    votes = λ number vote r object among is leads. old.votes number vote r object among is (refers_kept r.to object (old.named r among) leads);
    outcome = old.outcome;
    recorded =
        let same = has_same (place_of f.key) (is_decision_of f.key) in
        (λ has. old.recorded.0 (sym same ∙ has), λ e. same ∙ old.recorded.1 e);
  }
    where
      listed_on : (g : List ℕ) (b : ℕ) → IsListed w f g b → IsListed v f g b
      listed_on g b (c, r, object, among, is, leads, named) = (c, r, object, among, is, refers_on r.to object leads, named)

      listed_back : (g : List ℕ) (b : ℕ) → IsListed v f g b → IsListed w f g b
      listed_back g b (c, r, object, among, is, leads, named) =
          (c, r, object, among, is, refers_kept r.to object (old.named r (all_at (Contains f.ballots.registrations) (participants c f.ballots) r (registered_of f c) among)) leads, named)

  families_now : FamiliesAreKnown v h
  families_now x f at = family_on f (k.families x f (family_back x f at))

  open_now : ToldIsOpen v h
  open_now = record {
    commit = λ g t b x f sent registered at branch. k.open_words.commit g t b x f sent registered (family_back x f at) (branch_back f t b branch);
    one_phase = λ g t b x f sent registered at branch. k.open_words.one_phase g t b x f sent registered (family_back x f at) (branch_back f t b branch);
  }

  -- ---- records and outcomes

  unregistered : (t : List ℕ) → IsRegistered name t (known told) → ⊥
  unregistered t (end, stands) = let at = k.names.registered name t (end, among_turned (known told) _ stands) in unnamed name (things.Resource at.0) at.2 refl

  rests_on : (x : ObjectKey) (regs : List Named) → RestsOnVotes w told x regs → RestsOnVotes v told x regs
  rests_on x regs old = record {
    name = old.name;
    of_name = trans_on old.name x old.of_name;
    consented = old.consented;
    named = λ to some. some_on to (old.named to some);
    voters = λ to r leads. (
      λ among. (old.voters to r (refers_kept to r (old.named to among) leads)).0 among,
      λ voter. elim (made.refers_back law w place name manner s e told there up free k room few to r leads) [
        | inl was ↦ (old.voters to r was).1 voter
        | inr new ↦ absurd (unregistered voter.0.0 (subst (λ (y : NamedKey). IsRegistered y.name voter.0.0 (known told)) new voter.0.1))
      ],
    );
    once = old.once;
  }

  rests_now : RecordsRestOnVotes v told
  rests_now p in_life slot generation retry asked regs rs held among =
      rests_on (recorded_key p in_life slot generation) regs (k.records p in_life slot generation retry asked regs rs (sym (records p) ∙ held) among)

  decided_back : (t : List ℕ) (x : ObjectKey) → IsDecided v told x t → IsDecided w told x t
  decided_back t x (inl stands) = inl stands
  decided_back t x (inr has) = inr (sym (has_same (place_of x) (is_decision_of x)) ∙ has)

  closed_on : (t : List ℕ) (x : ObjectKey) → IsClosed w told x t → IsClosed v told x t
  closed_on t x (agreed.IsClosed.rolled_back rolled) = agreed.IsClosed.rolled_back rolled
  closed_on t x (agreed.IsClosed.outlived l undecided) =
      agreed.IsClosed.outlived
      (record { server = l.server; named = seat_name_same (place_of x) ∙ l.named; life = l.life; later = l.later; up = l.up })
      (λ decided. undecided (decided_back t x decided))

  one_outcome_now : NoneIsBoth v told
  one_outcome_now t x named top decided (agreed.IsClosed.rolled_back rolled) =
      k.one_outcome t x (trans_back t x named) top (decided_back t x decided) (agreed.IsClosed.rolled_back rolled)
  one_outcome_now t x named top decided (agreed.IsClosed.outlived l undecided) = undecided decided

  alone_on : (g : List ℕ) → IsAlone w told g → IsAlone v told g
  alone_on g old = record {
    family = old.family;
    key = old.key;
    of_name = trans_on old.family old.key old.of_name;
    participant = old.participant;
    only = old.only;
    unrecorded = λ decided. old.unrecorded (decided_back old.family old.key decided);
  }

  over_on : (transaction top : List ℕ) (x : ObjectKey) → (IsClosed w told x top ⊎ IsCutOff (known told) transaction)
      → (IsClosed v told x top ⊎ IsCutOff (known told) transaction)
  over_on transaction top x (inl closed) = inl (closed_on top x closed)
  over_on transaction top x (inr off) = inr off

  rollbacks_now : RollbacksAreClosed v told
  rollbacks_now p o r sent rollback leads =
      let old = k.rollbacks p o r sent rollback (sent_leads p o r sent leads) in
      record {
        transaction = old.transaction;
        key = old.key;
        named = trans_on old.transaction old.key old.named;
        registered = old.registered;
        top = old.top;
        family = trans_on old.top (record old.key { index = 0 }) old.family;
        over = over_on old.transaction old.top (record old.key { index = 0 }) old.over;
      }

  -- ---- transactions, nodes and ends

  named_on : (t : List ℕ) → IsNamed w t → IsNamed v t
  named_on t (x, named) = (x, trans_on t x named)

  transactions_now : TransactionsAreKnown v told
  transactions_now = record {
    seated = λ t x named. seat_on (place_of x) (k.transactions.seated t x (trans_back t x named));
    lives = λ t x rs named held. k.transactions.lives t x rs (trans_back t x named) (sym (records (place_of x)) ∙ held);
    decided = λ t outcome stands. named_on t (k.transactions.decided t outcome stands);
    rolled_back = λ t rolled. named_on t (k.transactions.rolled_back t rolled);
  }

  held_on : (p : ℕ) (rs : List JournalRecord) (x : Held) → IsHeldAs w told p rs x → IsHeldAs v told p rs x
  held_on p rs x old = record {
    stood = old.stood;
    there = old.there;
    same_place = old.same_place;
    numbers = old.numbers;
    references = old.references;
    line = λ in_life slot generation retry asked regs is.
        let was = old.line in_life slot generation retry asked regs is in
        (was.0, trans_on was.0 (recorded_key p in_life slot generation) was.1, was.2);
  }

  nodes_now : NodesAreKnown v told
  nodes_now p n is =
      let at = node_is_up v p n is in
      let was = seat_was p at.seat (Some n) at.there at.up in
      let old = k.nodes p n (node_there w p at.seat n was at.up) in
      record {
        sound = edge_kept v w p n (records p) old.sound;
        given = λ t x named here in_life. old.given t x (trans_back t x named) here in_life;
        order = λ y rs now held. old.order y rs (was ∙ sym at.there ∙ now) (sym (records p) ∙ held);
        held = λ rs x held among. held_on p rs x (old.held rs x (sym (records p) ∙ held) among);
      }

  counted_now : EndsHaveCounted v
  counted_now = record {
    numbers = λ p x is. elim (same_or_not p place) [
      | inl here ↦ subst (λ (y : FlatEnd). AllByRecursion (λ (r : FlatResource). r.key.generation ≤ y.drawn) y.resources) (end_same p x here is)
          (all_pushed (λ (r : FlatResource). r.key.generation ≤ e.drawn + 1) e.resources (fresh key)
          (all_weaker e.drawn (e.drawn + 1) e.resources (omega arith)
          (k.counted.numbers place e (made.end_up law w place name manner s e told there up free k room few))) (omega arith))
      | inr other ↦ k.counted.numbers p x (sym (made.end_other law w place name manner s e told there up free k room few p other) ∙ is)
    ];
    messages = λ p x is. elim (same_or_not p place) [
      | inl here ↦ subst (λ (y : FlatEnd). y.drawn ≤ length w.messages) (end_same p x here is) room
      | inr other ↦ k.counted.messages p x (sym (made.end_other law w place name manner s e told there up free k room few p other) ∙ is)
    ];
    short = λ p x server is named. elim (same_or_not p place) [
      | inl here ↦ k.counted.short p e server (ap (end_at w) here ∙ made.end_up law w place name manner s e told there up free k room few) (sym (seat_name_same p) ∙ named)
      | inr other ↦ k.counted.short p x server (sym (made.end_other law w place name manner s e told there up free k room few p other) ∙ is) (sym (seat_name_same p) ∙ named)
    ];
  }
    where
      end_same : (p : ℕ) (x : FlatEnd) → p ≡ place → end_at v p ≡ Some x → made.made law w place name manner s e told there up free k room few ≡ x
      end_same p x here is =
          inner (made.made law w place name manner s e told there up free k room few) x
          (sym (made.end_now law w place name manner s e told there up free k room few) ∙ ap (end_at v) (sym here) ∙ is)

  pub resource_named : Known v told
  resource_named = record {
    names = names_now;
    seats = seats_now;
    disks = disks_now;
    words = words_now;
    votes = votes_now;
    resources = resources_now;
    families = families_now;
    open_words = open_now;
    records = rests_now;
    recorded = λ t x named top stands. has_same (place_of x) (is_decision_of x) ∙ k.recorded t x (trans_back t x named) top stands;
    ends = k.ends;
    one_outcome = one_outcome_now;
    commits = λ p o sent commit. has_same p (names_object o.to) ∙ k.commits p o sent commit;
    one_phase = λ g sent. alone_on g (k.one_phase g sent);
    rollbacks = rollbacks_now;
    rolled_back = λ t x f named top at rolled. k.rolled_back t x f (trans_back t x named) top (family_back x f at) rolled;
    told_back = λ t x f at named rolled. k.told_back t x f (family_back x f at) (trans_back t f.key named) rolled;
    transactions = transactions_now;
    nodes = nodes_now;
    counted = counted_now;
    allowed = k.allowed;
  }
