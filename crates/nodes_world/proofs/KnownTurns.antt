-- A resource changes, and may answer: what is known of a world is known then, where it is of that resource.
use Rattle.std.proofs.Common.{◌≡◌, ◌⊎◌, inl, inr, ℕ, ◌+◌, ◌≤◌, Bool, true, false, is_some, IsTrue, List, slice_get, Contains, Option, Some, None, refl, sym, ap, subst, ◌∙◌, length}
use Rattle.std.specs.List.{list_any}
use Rattle.std.specs.Option.{option_map, option_map_or}
use Rattle.ior_refs.specs.declared.key.ObjectKey.{ObjectKey}
use Rattle.ots_model.specs.Safe as safe
use Rattle.ots_model.specs.Safe.{Stands, HasConsented, IsFamily, IsJoined, IsRegistered, IsSent, IsTop, TakesPart}
use Rattle.ots_model.specs.SafeByLine.{AreAllowed}
use Rattle.ots_model.specs.declared.completion.Vote.{Vote}
use Rattle.ots_model.specs.declared.completion.Word.TheVariants as phase_words
use Rattle.ots_model.specs.declared.line.Line.{Line}
use Rattle.ots_model.specs.declared.line.Line.TheVariants as lines
use Rattle.ots_model.specs.declared.line.ResourceState.{ResourceState}
use Rattle.ots_model.specs.Numbered.{Outcome}
use Rattle.ots_model.specs.declared.completion.Outcome.TheVariants as outcomes
use Rattle.ots_model.specs.declared.tree.Outward.{Outward}
use Rattle.ots_model.specs.declared.tree.Word.TheVariants as words
use Rattle.two_phase.specs.Stages as stages
use Rattle.decision_journal.specs.declared.record.JournalRecord.{JournalRecord}
use Rattle.decision_journal.specs.declared.record.Registration.{Registration as Named}
use Rattle.resource_end.specs.declared.state.State.{State}
use Rattle.resource_end.specs.declared.state.State.TheVariants as states
use Rattle.coordinator.specs.Family.{Family}
use Rattle.coordinator.specs.Node.{Node}
use Rattle.coordinator.specs.declared.event.Act.{Act}
use Rattle.coordinator.specs.declared.said.Said.{Said}
use Rattle.coordinator.specs.declared.said.Said.TheVariants as said
use Rattle.nodes_world.specs.declared.message.Content.TheVariants as contents
use Rattle.nodes_world.specs.declared.message.Message.{Message}
use Rattle.nodes_world.specs.declared.thing.Thing.{Thing}
use Rattle.nodes_world.specs.declared.thing.Thing.TheVariants as things
use Rattle.nodes_world.specs.Agreement as agreed
use Rattle.nodes_world.specs.Agreement.{HasSent, IsAlone, IsClosed, IsCutOff, IsDecided, IsRolledBack, IsWord, MayBeRolledBack, RecordsRestOnVotes, RestsOnVotes, VotesWereGiven, has_record, records_at}
use Rattle.nodes_world.specs.AgreementInside.{Known, DisksAreKnown, FamiliesAreKnown, FamilyIsKnown, HasAnswered, IsBranch, IsListed, NamesAreTold, OutcomeIsTold, ResourceIsKnown, ResourcesAreKnown, SeatsAreNamed, ToldIsOpen, WordsAreTold, EndsHaveCounted, IsHeldAs, NodesAreKnown, TransactionsAreKnown}
use Rattle.nodes_world.specs.Objects.{place_of}
use Rattle.nodes_world.specs.Told.{Told, known}
use Rattle.nodes_world.specs.World.{World, Seat, OfNode, FlatResource, NamedKey, family_at, referred, resource_at, seat_name, thing, thing_in}
use Rattle.nodes_world.proofs.Edges.{edge_kept}
use Rattle.nodes_world.proofs.KnownLines.{AreAmong, among_back, among_turned, cut_among, lines_of, part_among, registered_among, same_resource}
use Rattle.nodes_world.proofs.KnownTelling.{TellsOn}
use Rattle.nodes_world.proofs.KnownRequests.{follows_kept, unvoted_kept, voted_kept}
use Rattle.nodes_world.proofs.KnownWorlds.{node_there}
use Rattle.nodes_world.proofs.Deeds.{node_is_up}
use Rattle.recovery_coord.specs.declared.held.Held.{Held}
use Rattle.nodes_world.specs.Limits.{seat_limit}

-- the line of a resource's state
abbrev pub is_state : Line → Bool
is_state (lines.State name state) = true
is_state _ = false

-- a resource becomes another, and answers a word or none; all else is as before
pub record Turns (w v : World) (told later : List Told) (x : NamedKey) (r next : FlatResource) : Type 0 where
  pub tells : TellsOn is_state told later
  pub shows : (name : List ℕ) (s : ResourceState) → Stands (lines.State name s) (known later) → Stands (lines.State name s) (known told) ⊎ (name ≡ x.name)
  pub allowed : AreAllowed (lines_of later)
  pub names : v.names ≡ w.names
  pub refers : (to : List ℕ) → referred v to ≡ referred w to
  pub families : (key : ObjectKey) → family_at v key ≡ family_at w key
  pub records : (place : ℕ) → records_at v place ≡ records_at w place
  pub nodes : (place : ℕ) (s : Seat) (up : Option Node) → slice_get v.seats place ≡ Some s → s.server ≡ OfNode up → slice_get w.seats place ≡ Some s
  pub seats_back : (place : ℕ) (s : Seat) → slice_get v.seats place ≡ Some s → (old : Seat) × (slice_get w.seats place ≡ Some old) × (old.name ≡ s.name)
  pub seats_on : (place : ℕ) (s : Seat) → slice_get w.seats place ≡ Some s → (one : Seat) × (slice_get v.seats place ≡ Some one) × (one.name ≡ s.name)
  pub named : thing w x.name ≡ Some (things.Resource x.key)
  pub was : resource_at w x.key ≡ Some r
  pub turned : (key : ObjectKey) (q : FlatResource) → resource_at v key ≡ Some q
      → ((key ≡ x.key → ⊥) × (resource_at w key ≡ Some q)) ⊎ ((q ≡ next) × (resource_at w key ≡ Some r))
  pub turned_on : (key : ObjectKey) (q : FlatResource) → resource_at w key ≡ Some q → (one : FlatResource) × (resource_at v key ≡ Some one) × (one.key ≡ q.key)
  pub messages : (i : ℕ) (m : Message) → slice_get w.messages i ≡ Some m → slice_get v.messages i ≡ Some m
  pub words_back : (nth p : ℕ) (q : Outward) → IsWord v nth p q → IsWord w nth p q
  pub calls : (nth : ℕ) (m : Message) (to : ObjectKey) (act : Act) → slice_get v.messages nth ≡ Some m → m.content ≡ contents.Call to act
      → slice_get w.messages nth ≡ Some m
  pub replies : (reply request : ℕ) (m : Message) (answer : Said) → slice_get v.messages reply ≡ Some m → m.content ≡ contents.Reply request answer
      → (slice_get w.messages reply ≡ Some m)
      ⊎ ((request ≤ reply) × ((nth p : ℕ) × (q : Outward) × IsWord w nth p q × (request ≡ nth + 1))
      × ((nth p : ℕ) (q : Outward) → request ≡ nth + 1 → IsWord w nth p q
      → (referred w q.to ≡ Some x) × ((vote : Vote) → answer ≡ said.Voted vote → q.word ≡ words.Phase phase_words.Prepare)))
  pub counted : EndsHaveCounted w → EndsHaveCounted v
  pub many : length v.seats ≡ length w.seats
  pub known_next : ResourceIsKnown v (lines_of later) x.name next

-- what is said of names in one list of lines is said in another, where its lines are there, but for those of states
abbrev AreBack : List Line → List Line → Type 0
AreBack b a = (line : Line) → is_state line ≡ false → Stands line b → Stands line a

registered_back : (b a : List Line) (g t : List ℕ) → AreBack b a → IsRegistered g t b → IsRegistered g t a
registered_back b a g t m (end, s) = (end, m _ refl s)

family_back : (b a : List Line) (f : List ℕ) → AreBack b a → IsFamily f b → IsFamily f a
family_back b a f m (inl (node, s)) = inl (node, m _ refl s)
family_back b a f m (inr (t, (node, s))) = inr (t, (node, m _ refl s))

joined_back : (b a : List Line) (f t : List ℕ) → AreBack b a → IsJoined b f t → IsJoined a f t
joined_back b a f _ m (safe.IsJoined.own family) = safe.IsJoined.own (family_back b a f m family)
joined_back b a f _ m (safe.IsJoined.committed t parent done sub above) =
    safe.IsJoined.committed t parent (m _ refl done) (m _ refl sub) (joined_back b a f parent m above)

part_back : (b a : List Line) (g f : List ℕ) → AreBack b a → TakesPart g f b → TakesPart g f a
part_back b a g f m (t, registered, joined) = (t, registered_back b a g t m registered, joined_back b a f t m joined)

outcome_turned : (s : Option Outcome) (name : List ℕ) (a b : List Line) → AreAmong a b → AreBack b a → OutcomeIsTold s name a → OutcomeIsTold s name b
outcome_turned None name a b m back is = λ s. is (back _ refl s)
outcome_turned (Some (outcomes.Commit basis)) name a b m back is = m _ is
outcome_turned (Some (outcomes.Rollback reason)) name a b m back is = λ s. is (back _ refl s)
outcome_turned (Some outcomes.Unknown) name a b m back is = λ s. is (back _ refl s)

inner : {A : Type 0} {x y : A} → Some x ≡ Some y → x ≡ y
inner e = cc

module _ (w v : World) (told later : List Told) (k : Known w told) (x : NamedKey) (r next : FlatResource) (t : Turns w v told later x r next) where
  on : AreAmong (lines_of told) (lines_of later)
  on line s = among_turned (known later) line (t.tells.on line (among_back (known told) line s))

  back : AreBack (lines_of later) (lines_of told)
  back line other s = among_turned (known told) line (t.tells.back line other (among_back (known later) line s))

  to_v : (name : List ℕ) (y : Thing) → thing w name ≡ Some y → thing v name ≡ Some y
  to_v name y e = ap (λ ns. thing_in ns name) t.names ∙ e

  to_w : (name : List ℕ) (y : Thing) → thing v name ≡ Some y → thing w name ≡ Some y
  to_w name y e = sym (ap (λ ns. thing_in ns name) t.names) ∙ e

  refers_w : (to : List ℕ) (y : NamedKey) → referred v to ≡ Some y → referred w to ≡ Some y
  refers_w to y e = sym (t.refers to) ∙ e

  refers_v : (to : List ℕ) (y : NamedKey) → referred w to ≡ Some y → referred v to ≡ Some y
  refers_v to y e = t.refers to ∙ e

  family_w : (key : ObjectKey) (f : Family) → family_at v key ≡ Some f → family_at w key ≡ Some f
  family_w key f e = sym (t.families key) ∙ e

  records_w : (place : ℕ) (rs : List JournalRecord) → records_at v place ≡ Some rs → records_at w place ≡ Some rs
  records_w place rs e = sym (t.records place) ∙ e

  has_same : (place : ℕ) (is_so : JournalRecord → Bool) → has_record v place is_so ≡ has_record w place is_so
  has_same place is_so = ap (λ (o : Option (List JournalRecord)). option_map_or (λ (rs : List JournalRecord). list_any is_so rs) o false) (t.records place)

  has_w : (place : ℕ) (is_so : JournalRecord → Bool) → IsTrue (has_record v place is_so) → IsTrue (has_record w place is_so)
  has_w place is_so e = subst IsTrue (has_same place is_so) e

  has_v : (place : ℕ) (is_so : JournalRecord → Bool) → IsTrue (has_record w place is_so) → IsTrue (has_record v place is_so)
  has_v place is_so e = subst IsTrue (sym (has_same place is_so)) e

  word_v : (nth p : ℕ) (q : Outward) → IsWord w nth p q → IsWord v nth p q
  word_v nth p q (one, at, says) = (one, t.messages nth one at, says)

  sent_w : (p : ℕ) (q : Outward) → HasSent v p q → HasSent w p q
  sent_w p q (nth, word) = (nth, t.words_back nth p q word)

  -- ---- names, seats and disks

  made_on : (name : List ℕ) → (IsTop name (lines_of told) ⊎ ((above : List ℕ) × Stands (lines.Sub name above) (lines_of told)))
      → (IsTop name (lines_of later) ⊎ ((above : List ℕ) × Stands (lines.Sub name above) (lines_of later)))
  made_on name (inl top) = inl (top.0, on _ top.1)
  made_on name (inr sub) = inr (sub.0, on _ sub.1)

  names_turned : NamesAreTold v (lines_of later)
  names_turned = record {
    keys = λ name other named one two. k.names.keys name other named (to_w name _ one) (to_w other _ two);
    once = λ name named among. to_v name named (k.names.once name named (subst (λ ns. Contains ns (name, named)) t.names among));
    transactions = λ name key named. (named, made_on name (k.names.transactions name key (to_w name _ named)).1);
    kinds = λ name key named. k.names.kinds name key (to_w name _ named);
    services = λ name key named. k.names.services name key (to_w name _ named);
    tops = λ name node s. let at = k.names.tops name node (back _ refl s) in (at.0, to_v name _ at.1, at.2);
    subs = λ name above s.
        let at = k.names.subs name above (back _ refl s) in
        (at.0, at.1, to_v name _ at.2, to_v above _ at.3, at.4, at.5);
    ended = λ name committed s. let at = k.names.ended name committed (back _ refl s) in (at.0, to_v name _ at.1, at.2);
    one_parent = λ name above other s u. k.names.one_parent name above other (back _ refl s) (back _ refl u);
    resources = λ name key named.
        let at = k.names.resources name key (to_w name _ named) in
        let one = t.turned_on key at.0 at.1 in
        (one.0, one.1, one.2 ∙ at.2);
    registered = λ name u s. let at = k.names.registered name u (registered_back _ _ name u back s) in (at.0, at.1, to_v name _ at.2, to_v u _ at.3);
    one_transaction = λ name u other s z. k.names.one_transaction name u other (registered_back _ _ name u back s) (registered_back _ _ name other back z);
    no_import = λ name above node s. k.names.no_import name above node (back _ refl s);
    objects = λ name key named. k.names.objects name key (to_w name _ named);
    shown = λ name state s. elim (t.shows name state (among_back (known later) _ s)) [
      | inl was ↦ let at = k.names.shown name state (among_turned (known told) _ was) in (at.0, to_v name _ at.1)
      | inr own ↦ (x.key, to_v name _ (subst (λ (y : List ℕ). thing w y ≡ Some (things.Resource x.key)) (sym own) t.named))
    ];
  }

  some_on : (p : ℕ) (o : Option Seat) → slice_get w.seats p ≡ o → IsTrue (is_some o) → IsTrue (is_some (slice_get v.seats p))
  some_on p (Some s) at is = ap is_some (t.seats_on p s at).1
  some_on p None at is = absurd cc

  seats_turned : SeatsAreNamed v (lines_of later)
  seats_turned = record {
    named = λ place s at. let old = t.seats_back place s at in to_v s.name _ (ap (thing w) (sym old.2) ∙ k.seats.named place old.0 old.1);
    there = λ name place named.
        let old = k.seats.there name place (to_w name _ named) in
        let one = t.seats_on place old.0 old.1 in
        (one.0, one.1, one.2 ∙ old.2);
    up = λ name life s. let at = k.seats.up name life (back _ refl s) in (at.0, to_v name _ at.1);
    senders = λ p q sent. some_on p (slice_get w.seats p) refl (k.seats.senders p q (sent_w p q sent));
    few = subst (λ (many : ℕ). many ≤ seat_limit) (sym t.many) k.seats.few;
    calls = λ nth one to act at says. k.seats.calls nth one to act (t.calls nth one to act at says) says;
  }

  disks_turned : DisksAreKnown v later
  disks_turned = record {
    held = λ place s up there runs. let at = k.disks.held place s up (t.nodes place s up there runs) runs in (at.0, at.1, t.records place ∙ at.2);
    whole = λ place s n there runs. k.disks.whole place s n (t.nodes place s (Some n) there runs) runs;
    follows = λ place s n there runs. k.disks.follows place s n (t.nodes place s (Some n) there runs) runs;
    decisions = λ place s n there runs. k.disks.decisions place s n (t.nodes place s (Some n) there runs) runs;
    rise = λ before behind server life earlier e s.
        let at = t.tells.split (lines.Up server life) before behind refl e in
        k.disks.rise before at.0 server life earlier at.1 s;
    lives = λ p s up life rs there runs came held.
        k.disks.lives p s up life rs (t.nodes p s up there runs) runs (t.tells.back _ refl came) (records_w p rs held);
    no_superior = λ p rs r held among. k.disks.no_superior p rs r (records_w p rs held) among;
    rests = λ p s there runs. k.disks.rests p s (t.nodes p s None there runs) runs;
  }

  words_turned : WordsAreTold v (lines_of later)
  words_turned = record {
    named = λ p q sent. subst (λ (o : Option NamedKey). IsTrue (is_some o)) (sym (t.refers q.to)) (k.words.named p q (sent_w p q sent));
    once = record {
      one_object = λ p a b one two same. k.words.once.one_object p a b (sent_w p a one) (sent_w p b two) same;
      one_word = λ i j p a b one two same. k.words.once.one_word i j p a b (t.words_back i p a one) (t.words_back j p b two) same;
    };
    told = λ nth p q phase y word is refers. on _ (k.words.told nth p q phase y (t.words_back nth p q word) is (refers_w q.to y refers));
    sent = λ number phase name s.
        let at = k.words.sent number phase name (back _ refl s) in
        (at.0, at.1, at.2, at.3, word_v at.0 at.1 at.2 at.4, at.5, at.6, refers_v at.2.to at.3 at.7, at.8);
    replied = λ reply request m answer at says.
        elim (t.replies reply request m answer at says) [
          | inl there ↦ k.words.replied reply request m answer there says
          | inr new ↦ new.0
        ];
    asked = λ reply request m answer at says.
        elim (t.replies reply request m answer at says) [
          | inl there ↦ let was = k.words.asked reply request m answer there says in
              (was.0, was.1, was.2, word_v was.0 was.1 was.2 was.3, was.4)
          | inr new ↦ let was = new.1 in
              (was.0, was.1, was.2, word_v was.0 was.1 was.2 was.3, was.4)
        ];
    voters = λ reply nth p m vote q at says word.
        elim (t.replies reply (nth + 1) m (said.Voted vote) at says) [
          | inl there ↦ k.words.voters reply nth p m vote q there says (t.words_back nth p q word)
          | inr new ↦ (new.2 nth p q refl (t.words_back nth p q word)).1 vote refl
        ];
    lives = λ p q rs sent held. k.words.lives p q rs (sent_w p q sent) (records_w p rs held);
    given = λ p s n q there runs sent alike. k.words.given p s n q (t.nodes p s (Some n) there runs) runs (sent_w p q sent) alike;
    told_again = λ p q rs sent again held. k.words.told_again p q rs (sent_w p q sent) again (records_w p rs held);
    serials = λ p q f key sent there a b c d. k.words.serials p q f key (sent_w p q sent) (family_w key f there) a b c d;
  }

  votes_turned : VotesWereGiven v later
  votes_turned name vote s =
      let g = k.votes name vote (t.tells.back _ refl s) in
      record {
        request = g.request;
        from = g.from;
        asked = g.asked;
        sent = word_v g.request g.from g.asked g.sent;
        prepare = g.prepare;
        resource = g.resource;
        object = refers_v g.asked.to g.resource g.object;
        same_name = g.same_name;
        reply = g.reply;
        answer = g.answer;
        answered = t.messages g.reply g.answer g.answered;
        says = g.says;
      }

  -- ---- resources

  answered_on : (name : List ℕ) (vote : Vote) → HasAnswered w name vote → HasAnswered v name vote
  answered_on name vote (nth, from, reply, q, y, one, word, prepare, refers, named, at, says) =
      (nth, from, reply, q, y, one, word_v nth from q word, prepare, refers_v q.to y refers, named, t.messages reply one at, says)

  answered_back : (name : List ℕ) (vote : Vote) → (name ≡ x.name → ⊥) → HasAnswered v name vote → HasAnswered w name vote
  answered_back name vote other (nth, from, reply, q, y, one, word, prepare, refers, named, at, says) =
      elim (t.replies reply (nth + 1) one (said.Voted vote) at says) [
        | inl there ↦ (nth, from, reply, q, y, one, t.words_back nth from q word, prepare, refers_w q.to y refers, named, there, says)
        | inr new ↦
            let to_x = (new.2 nth from q refl (t.words_back nth from q word)).0 in
            let same : y ≡ x = inner (sym (refers_w q.to y refers) ∙ to_x) in
            absurd (other (sym named ∙ ap (λ (z : NamedKey). z.name) same))
      ]

  shown_back : (name : List ℕ) (s : ResourceState) → (name ≡ x.name → ⊥) → Stands (lines.State name s) (lines_of later) → Stands (lines.State name s) (lines_of told)
  shown_back name s other stands =
      elim (t.shows name s (among_back (known later) _ stands)) [
        | inl there ↦ among_turned (known told) _ there
        | inr here ↦ absurd (other here)
      ]

  other_turned : (name : List ℕ) (q : FlatResource) → (name ≡ x.name → ⊥) → ResourceIsKnown w (lines_of told) name q → ResourceIsKnown v (lines_of later) name q
  other_turned name q other old = record {
    commit = λ a. voted_kept q.state name _ _ on (old.commit (answered_back name _ other a));
    read_only = λ a. old.read_only (answered_back name _ other a);
    rollback = λ a. old.rollback (answered_back name _ other a);
    none = λ no. unvoted_kept q.state name _ _ on (old.none (λ vote a. no vote (answered_on name vote a)));
    applied = (λ s. old.applied.0 (shown_back name _ other s), λ e. on _ (old.applied.1 e));
    undone = (λ s. old.undone.0 (shown_back name _ other s), λ e. on _ (old.undone.1 e));
    follows = follows_kept q.state name _ _ on (λ undone commit. not_undone name q old undone commit) old.follows;
  }
    where
      not_undone : (name : List ℕ) (q : FlatResource) → ResourceIsKnown w (lines_of told) name q → q.state ≡ states.Undone → IsSent phase_words.Commit name (lines_of later) → ⊥
      not_undone name q old undone (number, s) = (subst (λ (z : State). agreed.StatesFollow z name (lines_of told)) undone old.follows) (number, back _ refl s)

  resources_turned : ResourcesAreKnown v (lines_of later)
  resources_turned name key q named at =
      elim (t.turned key q at) [
        | inl other ↦ other_turned name q
            (λ same. other.0 (same_resource (thing w name) key x.key (to_w name _ named) (ap (thing w) same ∙ t.named)))
            (k.resources name key q (to_w name _ named) other.1)
        | inr here ↦
            let own = k.names.resources name key (to_w name _ named) in
            let mine = k.names.resources x.name x.key t.named in
            let one_key : key ≡ x.key = sym own.2 ∙ ap (λ (z : FlatResource). z.key) (inner (sym own.1 ∙ here.1) ∙ inner (sym t.was ∙ mine.1)) ∙ mine.2 in
            let same : x.name ≡ name = k.names.keys x.name name (things.Resource x.key) t.named
            (subst (λ (z : ObjectKey). thing w name ≡ Some (things.Resource z)) one_key (to_w name _ named)) in
            subst (λ (z : FlatResource). ResourceIsKnown v (lines_of later) name z) (sym here.0)
            (subst (λ (z : List ℕ). ResourceIsKnown v (lines_of later) z next) same t.known_next)
      ]

  -- ---- families

  branch_w : (f : Family) (u : List ℕ) (b : ℕ) → IsBranch v f u b → IsBranch w f u b
  branch_w f u b (key, named, of, is) = (key, to_w u _ named, of, is)

  branch_v : (f : Family) (u : List ℕ) (b : ℕ) → IsBranch w f u b → IsBranch v f u b
  branch_v f u b (key, named, of, is) = (key, to_v u _ named, of, is)

  listed_w : (f : Family) (name : List ℕ) (b : ℕ) → IsListed v f name b → IsListed w f name b
  listed_w f name b (c, z, object, among, is, refers, named) = (c, z, object, among, is, refers_w z.to object refers, named)

  listed_v : (f : Family) (name : List ℕ) (b : ℕ) → IsListed w f name b → IsListed v f name b
  listed_v f name b (c, z, object, among, is, refers, named) = (c, z, object, among, is, refers_v z.to object refers, named)

  family_turned : (f : Family) → FamilyIsKnown w (lines_of told) f → FamilyIsKnown v (lines_of later) f
  family_turned f old = record {
    sound = old.sound;
    name = old.name;
    of_name = to_v old.name _ old.of_name;
    top = old.top;
    branches = λ b within. let at = old.branches b within in (at.0, branch_v f at.0 b at.1);
    no_further = λ u b branch. old.no_further u b (branch_w f u b branch);
    parents = λ u above b p branch higher.
        let known_one = old.parents u above b p (branch_w f u b branch) (branch_w f above p higher) in
        (λ s. known_one.0 (back _ refl s), λ e. on _ (known_one.1 e));
    ends = λ u b committed branch below.
        let known_one = old.ends u b committed (branch_w f u b branch) below in
        (λ s. known_one.0 (back _ refl s), λ e. on _ (known_one.1 e));
    registrations = λ g u b branch.
        let known_one = old.registrations g u b (branch_w f u b branch) in
        (λ s. listed_v f g b (known_one.0 (registered_back _ _ g u back s)), λ l. registered_among _ _ g u on (known_one.1 (listed_w f g b l)));
    own = λ z object u among refers s. branch_v f u z.branch (old.own z object u among (refers_w z.to object refers) (registered_back _ _ object.name u back s));
    numbered = old.numbered;
    unsynchronized = old.unsynchronized;
    named = λ z among. subst (λ (o : Option NamedKey). IsTrue (is_some o)) (sym (t.refers z.to)) (old.named z among);
    apart = old.apart;
    within = old.within;
    came = λ e r among is.
        let at = old.came e r among is in
        (at.0, at.1, t.messages at.0 at.1 at.2, at.3, at.4, at.5);
    dues = old.dues;
    legs = old.legs;
    ready = old.ready;
    few = old.few;
    settled = old.settled;
    votes = λ g vote z object among is refers.
        let known_one = old.votes g vote z object among is (refers_w z.to object refers) in
        (λ voted. on _ (known_one.0 voted), λ s. known_one.1 (back _ refl s));
    outcome = outcome_turned (stages.outcome f.completion) old.name _ _ on back old.outcome;
    recorded = (λ has. old.recorded.0 (has_w (place_of f.key) _ has), λ commits. has_v (place_of f.key) _ (old.recorded.1 commits));
  }

  families_turned : FamiliesAreKnown v (lines_of later)
  families_turned key f there = family_turned f (k.families key f (family_w key f there))

  open_turned : ToldIsOpen v (lines_of later)
  open_turned = record {
    commit = λ g u b key f sent registered there branch.
        k.open_words.commit g u b key f (sent.0, back _ refl sent.1) (registered_back _ _ g u back registered) (family_w key f there) (branch_w f u b branch);
    one_phase = λ g u b key f sent registered there branch.
        k.open_words.one_phase g u b key f (sent.0, back _ refl sent.1) (registered_back _ _ g u back registered) (family_w key f there) (branch_w f u b branch);
  }

  -- ---- records and outcomes

  consented_on : (g : List ℕ) → HasConsented g (known told) → HasConsented g (known later)
  consented_on g (inl s) = inl (t.tells.on _ s)
  consented_on g (inr s) = inr (t.tells.on _ s)

  rests_turned : (family : ObjectKey) (regs : List Named) → RestsOnVotes w told family regs → RestsOnVotes v later family regs
  rests_turned family regs old = record {
    name = old.name;
    of_name = to_v old.name _ old.of_name;
    consented = λ p part. consented_on p (old.consented p (part_back _ _ p old.name t.tells.back part));
    named = λ to among. subst (λ (o : Option NamedKey). IsTrue (is_some o)) (sym (t.refers to)) (old.named to among);
    voters = λ to z refers.
        let known_one = old.voters to z (refers_w to z refers) in (
          λ among. (part_among _ _ z.name old.name t.tells.on (known_one.0 among).0, t.tells.on _ (known_one.0 among).1),
          λ voter. known_one.1 (part_back _ _ z.name old.name t.tells.back voter.0, t.tells.back _ refl voter.1),
        );
    once = old.once;
  }

  records_turned : RecordsRestOnVotes v later
  records_turned p life slot generation retry asked regs rs held among =
      rests_turned _ regs (k.records p life slot generation retry asked regs rs (records_w p rs held) among)

  decided_back : (key : ObjectKey) (name : List ℕ) → IsDecided v later key name → IsDecided w told key name
  decided_back key name (inl s) = inl (t.tells.back _ refl s)
  decided_back key name (inr has) = inr (has_w (place_of key) _ has)

  decided_on : (key : ObjectKey) (name : List ℕ) → IsDecided w told key name → IsDecided v later key name
  decided_on key name (inl s) = inl (t.tells.on _ s)
  decided_on key name (inr has) = inr (has_v (place_of key) _ has)

  rolled_back_back : (name : List ℕ) → IsRolledBack later name → IsRolledBack told name
  rolled_back_back name (agreed.IsRolledBack.by_known reason s) = agreed.IsRolledBack.by_known reason (t.tells.back _ refl s)
  rolled_back_back name (agreed.IsRolledBack.by_other reason c) = agreed.IsRolledBack.by_other reason (t.tells.reasons_back _ tt c)
  rolled_back_back name (agreed.IsRolledBack.by_synchronization reason synchronization c) =
      agreed.IsRolledBack.by_synchronization reason synchronization (t.tells.reasons_back _ tt c)

  rolled_back_on : (name : List ℕ) → IsRolledBack told name → IsRolledBack later name
  rolled_back_on name (agreed.IsRolledBack.by_known reason s) = agreed.IsRolledBack.by_known reason (t.tells.on _ s)
  rolled_back_on name (agreed.IsRolledBack.by_other reason c) = agreed.IsRolledBack.by_other reason (t.tells.reasons_on _ c)
  rolled_back_on name (agreed.IsRolledBack.by_synchronization reason synchronization c) =
      agreed.IsRolledBack.by_synchronization reason synchronization (t.tells.reasons_on _ c)

  name_w : (place : ℕ) (server : List ℕ) (o : Option Seat) → slice_get v.seats place ≡ o → option_map (λ (s : Seat). s.name) o ≡ Some server → seat_name w place ≡ Some server
  name_w place server None at is = absurd cc
  name_w place server (Some s) at is =
      let old = t.seats_back place s at in
      ap (λ (o : Option Seat). option_map (λ (z : Seat). z.name) o) old.1 ∙ ap (λ (n : List ℕ). Some n) old.2 ∙ is

  name_v : (place : ℕ) (server : List ℕ) (o : Option Seat) → slice_get w.seats place ≡ o → option_map (λ (s : Seat). s.name) o ≡ Some server → seat_name v place ≡ Some server
  name_v place server None at is = absurd cc
  name_v place server (Some s) at is =
      let one = t.seats_on place s at in
      ap (λ (o : Option Seat). option_map (λ (z : Seat). z.name) o) one.1 ∙ ap (λ (n : List ℕ). Some n) one.2 ∙ is

  closed_back : (key : ObjectKey) (name : List ℕ) → IsClosed v later key name → IsClosed w told key name
  closed_back key name (agreed.IsClosed.rolled_back z) = agreed.IsClosed.rolled_back (rolled_back_back name z)
  closed_back key name (agreed.IsClosed.outlived l undecided) =
      agreed.IsClosed.outlived (record {
        server = l.server;
        named = name_w (place_of key) l.server (slice_get v.seats (place_of key)) refl l.named;
        life = l.life;
        later = l.later;
        up = t.tells.back _ refl l.up;
      }) (λ d. undecided (decided_on key name d))

  closed_on : (key : ObjectKey) (name : List ℕ) → IsClosed w told key name → IsClosed v later key name
  closed_on key name (agreed.IsClosed.rolled_back z) = agreed.IsClosed.rolled_back (rolled_back_on name z)
  closed_on key name (agreed.IsClosed.outlived l undecided) =
      agreed.IsClosed.outlived (record {
        server = l.server;
        named = name_v (place_of key) l.server (slice_get w.seats (place_of key)) refl l.named;
        life = l.life;
        later = l.later;
        up = t.tells.on _ l.up;
      }) (λ d. undecided (decided_back key name d))

  -- ---- commit words and rollback

  alone_on : (name : List ℕ) → IsAlone w told name → IsAlone v later name
  alone_on name old = record {
    family = old.family;
    key = old.key;
    of_name = to_v old.family _ old.of_name;
    participant = part_among _ _ name old.family t.tells.on old.participant;
    only = λ p part. old.only p (part_back _ _ p old.family t.tells.back part);
    unrecorded = λ d. old.unrecorded (decided_back old.key old.family d);
  }

  over_on : (transaction top : List ℕ) (key : ObjectKey) → (IsClosed w told key top ⊎ IsCutOff (known told) transaction)
      → (IsClosed v later key top ⊎ IsCutOff (known later) transaction)
  over_on transaction top key (inl closed) = inl (closed_on key top closed)
  over_on transaction top key (inr off) = inr (cut_among _ _ transaction t.tells.on off)

  may_be_on : (name : List ℕ) → MayBeRolledBack w told name → MayBeRolledBack v later name
  may_be_on name old = record {
    transaction = old.transaction;
    key = old.key;
    named = to_v old.transaction _ old.named;
    registered = registered_among _ _ name old.transaction t.tells.on old.registered;
    top = old.top;
    family = to_v old.top _ old.family;
    over = over_on old.transaction old.top (record old.key { index = 0 }) old.over;
  }

  -- ---- transactions and nodes

  transactions_turned : TransactionsAreKnown v later
  transactions_turned = record {
    seated = λ name key named. some_on (place_of key) (slice_get w.seats (place_of key)) refl (k.transactions.seated name key (to_w name _ named));
    lives = λ name key rs named held. k.transactions.lives name key rs (to_w name _ named) (records_w (place_of key) rs held);
    decided = λ name outcome s. let was = k.transactions.decided name outcome (t.tells.back _ refl s) in (was.0, to_v name _ was.1);
    rolled_back = λ name rolled. let was = k.transactions.rolled_back name (rolled_back_back name rolled) in (was.0, to_v name _ was.1);
  }

  held_turned : (p : ℕ) (rs : List JournalRecord) (held : Held) → IsHeldAs w told p rs held → IsHeldAs v later p rs held
  held_turned p rs held old = record {
    stood = old.stood;
    there = old.there;
    same_place = old.same_place;
    numbers = old.numbers;
    references = old.references;
    line = λ life slot generation retry asked regs is.
        let was = old.line life slot generation retry asked regs is in
        (was.0, to_v was.0 _ was.1, t.tells.on _ was.2);
  }

  nodes_turned : NodesAreKnown v later
  nodes_turned p n is =
      let at = node_is_up v p n is in
      let seat = t.nodes p at.seat (Some n) at.there at.up in
      let old = k.nodes p n (node_there w p at.seat n seat at.up) in
      record {
        sound = edge_kept v w p n (t.records p) old.sound;
        given = λ name key named here in_life. old.given name key (to_w name _ named) here in_life;
        order = λ s rs there held.
            old.order s rs (seat ∙ sym at.there ∙ there) (records_w p rs held);
        held = λ rs held has among. held_turned p rs held (old.held rs held (records_w p rs has) among);
      }

  -- what is known then
  pub turned_known : Known v later
  turned_known = record {
    names = names_turned;
    seats = seats_turned;
    disks = disks_turned;
    words = words_turned;
    votes = votes_turned;
    resources = resources_turned;
    families = families_turned;
    open_words = open_turned;
    records = records_turned;
    recorded = λ name key named first s. has_v (place_of key) _ (k.recorded name key (to_w name _ named) first (t.tells.back _ refl s));
    ends = λ before behind u committed earlier e s.
        let at = t.tells.split (lines.SubDone u committed) before behind refl e in
        k.ends before at.0 u committed earlier at.1 s;
    one_outcome = λ name key named first decided closed. k.one_outcome name key (to_w name _ named) first (decided_back key name decided) (closed_back key name closed);
    commits = λ p q sent commit. has_v p _ (k.commits p q (sent_w p q sent) commit);
    one_phase = λ name sent. alone_on name (k.one_phase name (sent.0, t.tells.back _ refl sent.1));
    rollbacks = λ p q z sent rollback refers. may_be_on z.name (k.rollbacks p q z (sent_w p q sent) rollback (refers_w q.to z refers));
    rolled_back = λ name key f named first there rolled. k.rolled_back name key f (to_w name _ named) first (family_w key f there) (rolled_back_back name rolled);
    told_back = λ name key f there named rolled. rolled_back_on name (k.told_back name key f (family_w key f there) (to_w name _ named) rolled);
    transactions = transactions_turned;
    nodes = nodes_turned;
    counted = t.counted k.counted;
    allowed = t.allowed;
  }
