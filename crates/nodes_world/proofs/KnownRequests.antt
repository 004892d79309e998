-- A word goes out: what is known of a world is known once it has.
use Rattle.std.proofs.Common.{◌≡◌, ◌⊎◌, inl, inr, ℕ, ◌+◌, ◌≤◌, true, is_some, IsTrue, List, [], ◌∷◌, ◌++◌, length, slice_get, Any, Option, Some, None, refl, sym, ap, subst, ◌∙◌, arith, length-append}
use Rattle.std.specs.Option.{option_map}
use Rattle.ior_refs.specs.declared.key.ObjectKey.{ObjectKey}
use Rattle.ots_model.specs.Safe.{Stands, HasConsented, IsRegistered, IsSent, IsTop, IsToldCommit}
use Rattle.ots_model.specs.SafeByLine.{AreAllowed, CanTell}
use Rattle.ots_model.specs.declared.completion.Ground.TheVariants.{Record}
use Rattle.ots_model.specs.declared.completion.Vote.{Vote}
use Rattle.ots_model.specs.declared.completion.Word.{Word as Phase}
use Rattle.ots_model.specs.declared.completion.Word.TheVariants as phase_words
use Rattle.ots_model.specs.declared.line.Line.{Line}
use Rattle.ots_model.specs.declared.line.Line.TheVariants as lines
use Rattle.ots_model.specs.declared.line.ResourceState.TheVariants as shown
use Rattle.ots_model.specs.Numbered.{Outcome}
use Rattle.ots_model.specs.declared.completion.Outcome.TheVariants as outcomes
use Rattle.ots_model.specs.declared.tree.Outward.{Outward}
use Rattle.ots_model.specs.declared.tree.Word.{Word}
use Rattle.ots_model.specs.declared.tree.Word.TheVariants as words
use Rattle.two_phase.specs.Stages as stages
use Rattle.decision_journal.specs.Journal.{first_gate, found_in}
use Rattle.decision_journal.specs.declared.record.JournalRecord.{JournalRecord}
use Rattle.decision_journal.specs.declared.record.Registration.{Registration as Named}
use Rattle.recovery_coord.specs.Limits.{retold_slot}
use Rattle.resource_end.specs.declared.state.State.{State}
use Rattle.resource_end.specs.declared.state.State.TheVariants as states
use Rattle.coordinator.specs.Family.{Family}
use Rattle.coordinator.specs.Node.{Node}
use Rattle.coordinator.specs.declared.event.Act.{Act}
use Rattle.coordinator.specs.declared.said.Said.{Said}
use Rattle.coordinator.specs.declared.said.Said.TheVariants as said
use Rattle.family_laws.specs.Sound.{IsAsking}
use Rattle.nodes_world.specs.declared.message.Content.TheVariants as contents
use Rattle.nodes_world.specs.declared.message.Message.{Message}
use Rattle.nodes_world.specs.Agreement as agreed
use Rattle.nodes_world.specs.Agreement.{HasSent, IsAlone, IsClosed, IsCutOff, IsDecided, IsRolledBack, IsWord, MayBeRolledBack, RecordsRestOnVotes, RestsOnVotes, StatesFollow, VotesWereGiven, CommitsAreRecorded, OnePhaseIsAlone, RollbacksAreClosed, has_record, names_object, records_at}
use Rattle.nodes_world.specs.AgreementInside.{Known, DisksAreKnown, FamiliesAreKnown, FamilyIsKnown, HasAnswered, HasNotVoted, HasVotedCommit, IsBranch, IsNamedBy, NamesAreTold, OutcomeIsTold, ResourceIsKnown, ResourcesAreKnown, SeatsAreNamed, ToldIsOpen, WordsAreTold, phase_of, placed, EndsHaveCounted, NodesAreKnown, TransactionsAreKnown, IsNumberedBy}
use Rattle.nodes_world.specs.Happenings.{naming, new_message, requests}
use Rattle.nodes_world.specs.Objects.{place_of}
use Rattle.nodes_world.specs.Told as tell
use Rattle.nodes_world.specs.Told.{Told, known, sent}
use Rattle.nodes_world.specs.World.{World, Seat, OfNode, FlatResource, NamedKey, end_at, family_at, next_message, node_at, referred, resource_at, with_sent}
use Rattle.nodes_world.proofs.KnownLines.{AreAmong, among_back, among_turned, cut_among, lines_of, part_among, registered_among}
use Rattle.nodes_world.proofs.KnownWords.{phase_only}
use Rattle.nodes_world.proofs.KnownFrames.{AreBack, Carries, carries, known_other, known_phase, last_cases, newest_other, newest_phase, part_back, place_within, push_cases, push_kept, push_last, registered_back, sent_of_word, turned_back, turned_on}

-- ---- what a word needs

pub record MayGo (w : World) (told : List Told) (place : ℕ) (o : Outward) : Type 0 where
  -- it goes to a resource that has a name, and its line is allowed
  pub resource : NamedKey
  pub refers : referred w o.to ≡ Some resource
  pub allowed : (phase : Phase) → phase_of o.word ≡ Some phase → CanTell phase resource.name (lines_of told)
  -- one that is there sends it
  pub seat : IsTrue (is_some (slice_get w.seats place))
  -- its number is of this object, and new, unless the word is told again
  pub object : (other : Outward) → HasSent w place other → other.number ≡ o.number → other.to ≡ o.to
  pub fresh : (other : Outward) → HasSent w place other → other.number ≡ o.number → o.number.slot ≡ retold_slot
  pub life : (rs : List JournalRecord) → records_at w place ≡ Some rs → o.number.life ≤ (found_in rs).life
  pub given : (s : Seat) (n : Node) → slice_get w.seats place ≡ Some s → s.server ≡ OfNode (Some n) → o.number.life ≡ n.found.life
      → (o.number.slot ≡ retold_slot) ⊎ (o.number.generation ≤ n.generation)
  pub told_again : (rs : List JournalRecord) → o.number.slot ≡ retold_slot → records_at w place ≡ Some rs → Any (IsNamedBy o) (placed first_gate rs)
  pub serial : (f : Family) (key : ObjectKey) → family_at w key ≡ Some f → o.number.life ≡ f.key.life → o.number.slot ≡ f.key.slot
      → o.number.generation ≡ f.key.generation → place_of f.key ≡ place → IsNumberedBy f o
  -- what it says rests on the record, on the family where that is there, and on what is closed
  pub recorded : o.word ≡ words.Phase phase_words.Commit → IsTrue (has_record w place (names_object o.to))
  pub commits : o.word ≡ words.Phase phase_words.Commit → (t : List ℕ) (b : ℕ) (key : ObjectKey) (f : Family) → IsRegistered resource.name t (lines_of told)
      → family_at w key ≡ Some f → IsBranch w f t b → stages.outcome f.completion ≡ Some (outcomes.Commit Record)
  pub asks : o.word ≡ words.Phase phase_words.CommitOnePhase → (t : List ℕ) (b : ℕ) (key : ObjectKey) (f : Family) → IsRegistered resource.name t (lines_of told)
      → family_at w key ≡ Some f → IsBranch w f t b → IsAsking f.completion × (stages.decides_alone f.completion ≡ true)
  pub alone : o.word ≡ words.Phase phase_words.CommitOnePhase → IsAlone w told resource.name
  pub back : o.word ≡ words.Phase phase_words.Rollback → MayBeRolledBack w told resource.name

-- the world and the lines then
abbrev pub world_with : ℕ → Outward → World → World
world_with place o w = with_sent (new_message (contents.Request place o)) w

abbrev pub lines_with : World → Outward → List ℕ → List Told → List Told
lines_with w o name told = told ++ sent (next_message w) o.word name ∷ []

-- ---- the line of a word

phase_line : (number : ℕ) (phase : Phase) (name : List ℕ) (message : ℕ) (other : Phase) (g : List ℕ)
    → lines.Send number phase name ≡ lines.Send message other g → (Some phase ≡ Some other) × (name ≡ g) × (message ≡ number)
phase_line number phase name message other g e = (cc, cc, cc)

by_phase : (told : List Told) (number : ℕ) (phase : Phase) (name : List ℕ) (message : ℕ) (other : Phase) (g : List ℕ)
    → Stands (lines.Send message other g) (known (told ++ tell.Known (lines.Send number phase name) ∷ []))
    → Stands (lines.Send message other g) (known told) ⊎ ((Some phase ≡ Some other) × (name ≡ g) × (message ≡ number))
by_phase told number phase name message other g s =
    elim (last_cases (known told) _ (lines.Send number phase name) (subst (Stands (lines.Send message other g)) (known_phase told (lines.Send number phase name)) s)) [
      | inl there ↦ inl there
      | inr here ↦ inr (phase_line number phase name message other g here)
    ]

by_other : (told : List Told) (number : ℕ) (operation name : List ℕ) (line : Line) (Q : Type 0) → Stands line (known (told ++ tell.Sent number operation name ∷ []))
    → Stands line (known told) ⊎ Q
by_other told number operation name line Q s = inl (subst (Stands line) (known_other told number operation name) s)

word_line : (told : List Told) (number : ℕ) (word : Word) (name : List ℕ) (message : ℕ) (phase : Phase) (g : List ℕ)
    → Stands (lines.Send message phase g) (known (told ++ sent number word name ∷ []))
    → Stands (lines.Send message phase g) (known told) ⊎ ((phase_of word ≡ Some phase) × (name ≡ g) × (message ≡ number))
word_line told number (words.Phase phase_words.Prepare) name message phase g s = by_phase told number phase_words.Prepare name message phase g s
word_line told number (words.Phase phase_words.Commit) name message phase g s = by_phase told number phase_words.Commit name message phase g s
word_line told number (words.Phase phase_words.CommitOnePhase) name message phase g s = by_phase told number phase_words.CommitOnePhase name message phase g s
word_line told number (words.Phase phase_words.Rollback) name message phase g s = by_phase told number phase_words.Rollback name message phase g s
word_line told number words.Forget name message phase g s = by_other told number _ name _ _ s
word_line told number words.BeforeCompletion name message phase g s = by_other told number _ name _ _ s
word_line told number (words.AfterCompletion status) name message phase g s = by_other told number _ name _ _ s
word_line told number (words.CommitSub above) name message phase g s = by_other told number _ name _ _ s
word_line told number words.RollbackSub name message phase g s = by_other told number _ name _ _ s
word_line told number words.ReplayCompletion name message phase g s = by_other told number _ name _ _ s
word_line told number words.RegisterResource name message phase g s = by_other told number _ name _ _ s

-- the newest line is that of the word
newest_stands : (told : List Told) (number : ℕ) (phase : Phase) (name : List ℕ)
    → Stands (lines.Send number phase name) (lines_of (told ++ tell.Known (lines.Send number phase name) ∷ []))
newest_stands told number phase name =
    subst (Stands (lines.Send number phase name)) (sym (newest_phase told (lines.Send number phase name))) (inl refl)

some_phase : {a b : Phase} → Some a ≡ Some b → a ≡ b
some_phase e = cc

word_stands : (told : List Told) (number : ℕ) (word : Word) (name : List ℕ) (phase : Phase) → phase_of word ≡ Some phase
    → Stands (lines.Send number phase name) (lines_of (told ++ sent number word name ∷ []))
word_stands told number (words.Phase phase_words.Prepare) name phase is =
    subst (λ (p : Phase). Stands (lines.Send number p name) (lines_of (told ++ sent number (words.Phase phase_words.Prepare) name ∷ []))) (some_phase is) (newest_stands told number phase_words.Prepare name)
word_stands told number (words.Phase phase_words.Commit) name phase is =
    subst (λ (p : Phase). Stands (lines.Send number p name) (lines_of (told ++ sent number (words.Phase phase_words.Commit) name ∷ []))) (some_phase is) (newest_stands told number phase_words.Commit name)
word_stands told number (words.Phase phase_words.CommitOnePhase) name phase is =
    subst (λ (p : Phase). Stands (lines.Send number p name) (lines_of (told ++ sent number (words.Phase phase_words.CommitOnePhase) name ∷ []))) (some_phase is) (newest_stands told number phase_words.CommitOnePhase name)
word_stands told number (words.Phase phase_words.Rollback) name phase is =
    subst (λ (p : Phase). Stands (lines.Send number p name) (lines_of (told ++ sent number (words.Phase phase_words.Rollback) name ∷ []))) (some_phase is) (newest_stands told number phase_words.Rollback name)
word_stands told number _ name phase is = absurd cc

allowed_phase : (told : List Told) (number : ℕ) (phase : Phase) (name : List ℕ) → CanTell phase name (lines_of told) → AreAllowed (lines_of told)
    → AreAllowed (lines_of (told ++ tell.Known (lines.Send number phase name) ∷ []))
allowed_phase told number phase name may all = subst AreAllowed (sym (newest_phase told (lines.Send number phase name))) (may, all)

allowed_other : (told : List Told) (number : ℕ) (operation name : List ℕ) → AreAllowed (lines_of told)
    → AreAllowed (lines_of (told ++ tell.Sent number operation name ∷ []))
allowed_other told number operation name all = subst AreAllowed (sym (newest_other told number operation name)) all

word_allowed : (told : List Told) (number : ℕ) (word : Word) (name : List ℕ) → ((phase : Phase) → phase_of word ≡ Some phase → CanTell phase name (lines_of told))
    → AreAllowed (lines_of told) → AreAllowed (lines_of (told ++ sent number word name ∷ []))
word_allowed told number (words.Phase phase_words.Prepare) name may all = allowed_phase told number phase_words.Prepare name (may phase_words.Prepare refl) all
word_allowed told number (words.Phase phase_words.Commit) name may all = allowed_phase told number phase_words.Commit name (may phase_words.Commit refl) all
word_allowed told number (words.Phase phase_words.CommitOnePhase) name may all = allowed_phase told number phase_words.CommitOnePhase name (may phase_words.CommitOnePhase refl) all
word_allowed told number (words.Phase phase_words.Rollback) name may all = allowed_phase told number phase_words.Rollback name (may phase_words.Rollback refl) all
word_allowed told number words.Forget name may all = allowed_other told number _ name all
word_allowed told number words.BeforeCompletion name may all = allowed_other told number _ name all
word_allowed told number (words.AfterCompletion status) name may all = allowed_other told number _ name all
word_allowed told number (words.CommitSub above) name may all = allowed_other told number _ name all
word_allowed told number words.RollbackSub name may all = allowed_other told number _ name all
word_allowed told number words.ReplayCompletion name may all = allowed_other told number _ name all
word_allowed told number words.RegisterResource name may all = allowed_other told number _ name all

-- ---- what is kept of states and outcomes

sent_among : (a b : List Line) (phase : Phase) (g : List ℕ) → AreAmong a b → IsSent phase g a → IsSent phase g b
sent_among a b phase g m (number, s) = (number, m _ s)

commit_among : (a b : List Line) (g : List ℕ) → AreAmong a b → IsToldCommit g a → IsToldCommit g b
commit_among a b g m (inl s) = inl (sent_among a b phase_words.Commit g m s)
commit_among a b g m (inr s) = inr (sent_among a b phase_words.CommitOnePhase g m s)

pub voted_kept : (s : State) (name : List ℕ) (a b : List Line) → AreAmong a b → HasVotedCommit s name a → HasVotedCommit s name b
voted_kept states.Fresh name a b m is = is
voted_kept states.Working name a b m is = is
voted_kept states.Refused name a b m is = is
voted_kept states.Prepared name a b m is = is
voted_kept states.Applied name a b m is = commit_among a b name m is
voted_kept states.Undone name a b m is = sent_among a b phase_words.Rollback name m is
voted_kept states.ChoseCommit name a b m is = is
voted_kept states.ChoseRollback name a b m is = is
voted_kept states.Forgotten name a b m is = is

pub unvoted_kept : (s : State) (name : List ℕ) (a b : List Line) → AreAmong a b → HasNotVoted s name a → HasNotVoted s name b
unvoted_kept states.Fresh name a b m is = is
unvoted_kept states.Working name a b m is = is
unvoted_kept states.Refused name a b m is = is
unvoted_kept states.Prepared name a b m is = is
unvoted_kept states.Applied name a b m is = sent_among a b phase_words.CommitOnePhase name m is
unvoted_kept states.Undone name a b m (inl s) = inl (sent_among a b phase_words.Rollback name m s)
unvoted_kept states.Undone name a b m (inr s) = inr (sent_among a b phase_words.CommitOnePhase name m s)
unvoted_kept states.ChoseCommit name a b m is = is
unvoted_kept states.ChoseRollback name a b m is = is
unvoted_kept states.Forgotten name a b m is = sent_among a b phase_words.CommitOnePhase name m is

pub follows_kept : (s : State) (name : List ℕ) (a b : List Line) → AreAmong a b → (s ≡ states.Undone → IsSent phase_words.Commit name b → ⊥) → StatesFollow s name a → StatesFollow s name b
follows_kept states.Fresh name a b m undone is = is
follows_kept states.Working name a b m undone is = is
follows_kept states.Refused name a b m undone is = is
follows_kept states.Prepared name a b m undone is = is
follows_kept states.Applied name a b m undone is = commit_among a b name m is
follows_kept states.Undone name a b m undone is = undone refl
follows_kept states.ChoseCommit name a b m undone is = is
follows_kept states.ChoseRollback name a b m undone is = is
follows_kept states.Forgotten name a b m undone is = is

pub outcome_kept : (s : Option Outcome) (name : List ℕ) (a b : List Line) → AreAmong a b → AreBack b a → OutcomeIsTold s name a → OutcomeIsTold s name b
outcome_kept None name a b m back is = λ s. is (back _ refl s)
outcome_kept (Some (outcomes.Commit basis)) name a b m back is = m _ is
outcome_kept (Some (outcomes.Rollback reason)) name a b m back is = λ s. is (back _ refl s)
outcome_kept (Some outcomes.Unknown) name a b m back is = λ s. is (back _ refl s)

content_of : (place p : ℕ) (o q : Outward) (m : Message) → m ≡ new_message (contents.Request place o) → m.content ≡ contents.Request p q → (place ≡ p) × (o ≡ q)
content_of place p o q m is says = inner (sym (ap (λ (x : Message). x.content) is) ∙ says)
  where
    inner : contents.Request place o ≡ contents.Request p q → (place ≡ p) × (o ≡ q)
    inner e = (cc, cc)

no_reply : (place request : ℕ) (o : Outward) (answer : Said) (m : Message) → m ≡ new_message (contents.Request place o) → m.content ≡ contents.Reply request answer → ⊥
no_reply place request o answer m is says = inner (sym (ap (λ (x : Message). x.content) is) ∙ says)
  where
    inner : contents.Request place o ≡ contents.Reply request answer → ⊥
    inner e = absurd cc

module _ (w : World) (told : List Told) (k : Known w told) (place : ℕ) (o : Outward) (m : MayGo w told place o) where
  carried : Carries told (lines_with w o m.resource.name told)
  carried = carries told _ (sent_of_word (next_message w) o.word m.resource.name)

  on : AreAmong (lines_of told) (lines_of (lines_with w o m.resource.name told))
  on = turned_on told (lines_with w o m.resource.name told) carried

  back : AreBack (lines_of (lines_with w o m.resource.name told)) (lines_of told)
  back = turned_back told (lines_with w o m.resource.name told) carried

  -- ---- messages

  word_on : (nth p : ℕ) (q : Outward) → IsWord w nth p q → IsWord (world_with place o w) nth p q
  word_on nth p q (one, at, says) = (one, push_kept w.messages nth (new_message (contents.Request place o)) one at, says)

  by_word : (P : ℕ → ℕ → Outward → Type 0) → ((nth p : ℕ) (q : Outward) → IsWord w nth p q → P nth p q) → P (length w.messages) place o
      → (nth p : ℕ) (q : Outward) → IsWord (world_with place o w) nth p q → P nth p q
  by_word P old new nth p q (one, at, says) =
      elim (push_cases w.messages nth (new_message (contents.Request place o)) one at) [
        | inl there ↦ old nth p q (one, there, says)
        | inr here ↦ let same = content_of place p o q one here.1 says in
            subst (λ (x : ℕ). P x p q) (sym here.0) (subst (λ (x : ℕ). P (length w.messages) x q) same.0 (subst (λ (x : Outward). P (length w.messages) place x) same.1 new))
      ]

  pub by_sent : (P : ℕ → Outward → Type 0) → ((p : ℕ) (q : Outward) → HasSent w p q → P p q) → P place o
      → (p : ℕ) (q : Outward) → HasSent (world_with place o w) p q → P p q
  by_sent P old new p q (nth, word) = by_word (λ x y z. P y z) (λ x y z is. old y z (x, is)) new nth p q word

  sent_cases : (phase : Phase) (g : List ℕ) → IsSent phase g (lines_of (lines_with w o m.resource.name told))
      → IsSent phase g (lines_of told) ⊎ ((phase_of o.word ≡ Some phase) × (m.resource.name ≡ g))
  sent_cases phase g (message, s) =
      elim (word_line told (next_message w) o.word m.resource.name message phase g (among_back (known (lines_with w o m.resource.name told)) _ s)) [
        | inl there ↦ inl (message, among_turned (known told) _ there)
        | inr here ↦ inr (here.0, here.1)
      ]

  -- ---- names and disks

  made_on : (name : List ℕ) → (IsTop name (lines_of told) ⊎ ((above : List ℕ) × Stands (lines.Sub name above) (lines_of told)))
      → (IsTop name (lines_of (lines_with w o m.resource.name told))
      ⊎ ((above : List ℕ) × Stands (lines.Sub name above) (lines_of (lines_with w o m.resource.name told))))
  made_on name (inl top) = inl (top.0, on _ top.1)
  made_on name (inr sub) = inr (sub.0, on _ sub.1)

  names_after : NamesAreTold (world_with place o w) (lines_of (lines_with w o m.resource.name told))
  unfolding resource_at end_at
  names_after = record {
    keys = k.names.keys;
    once = k.names.once;
    transactions = λ name key named. (named, made_on name (k.names.transactions name key named).1);
    kinds = k.names.kinds;
    services = k.names.services;
    tops = λ name node s. k.names.tops name node (back _ refl s);
    subs = λ name above s. k.names.subs name above (back _ refl s);
    ended = λ name committed s. k.names.ended name committed (back _ refl s);
    one_parent = λ name above other s u. k.names.one_parent name above other (back _ refl s) (back _ refl u);
    resources = k.names.resources;
    registered = λ name t r. k.names.registered name t (registered_back _ _ name t back r);
    one_transaction = λ name t other r s. k.names.one_transaction name t other (registered_back _ _ name t back r) (registered_back _ _ name other back s);
    no_import = λ name above node s. k.names.no_import name above node (back _ refl s);
    objects = k.names.objects;
    shown = λ name state s. k.names.shown name state (back _ refl s);
  }

  disks_after : DisksAreKnown (world_with place o w) (lines_with w o m.resource.name told)
  disks_after = record {
    held = k.disks.held;
    whole = k.disks.whole;
    follows = k.disks.follows;
    decisions = k.disks.decisions;
    rise = λ before behind server life earlier e s.
        let at = carried.split (lines.Up server life) before behind refl e in
        k.disks.rise before at.0 server life earlier at.1 s;
    lives = λ p s n life rs there is up. k.disks.lives p s n life rs there is (carried.back _ refl up);
    no_superior = k.disks.no_superior;
    rests = k.disks.rests;
  }

  no_call : (p : ℕ) (q : Outward) (to : ObjectKey) (act : Act) (one : Message) → one ≡ new_message (contents.Request p q) → one.content ≡ contents.Call to act → ⊥
  no_call p q to act one is says = inner (sym (ap (λ (x : Message). x.content) is) ∙ says)
    where
      inner : contents.Request p q ≡ contents.Call to act → ⊥
      inner e = absurd cc

  seats_after : SeatsAreNamed (world_with place o w) (lines_of (lines_with w o m.resource.name told))
  seats_after = record {
    named = k.seats.named;
    there = k.seats.there;
    up = λ name life s. k.seats.up name life (back _ refl s);
    senders = λ p q sent. by_sent (λ (x : ℕ) (y : Outward). IsTrue (is_some (slice_get w.seats x))) (λ x y early. k.seats.senders x y early) m.seat p q sent;
    few = k.seats.few;
    calls = λ nth one to act at says.
        elim (push_cases w.messages nth (new_message (contents.Request place o)) one at) [
          | inl there ↦ k.seats.calls nth one to act there says
          | inr here ↦ absurd (no_call place o to act one here.1 says)
        ];
  }

  -- ---- words and votes

  both_sent : (p : ℕ) (a b : Outward) → HasSent (world_with place o w) p a → HasSent (world_with place o w) p b → a.number ≡ b.number → a.to ≡ b.to
  both_sent p a b first second same =
      by_sent (λ (x : ℕ) (y : Outward). (c : Outward) → HasSent (world_with place o w) x c → y.number ≡ c.number → y.to ≡ c.to)
      (λ x y sent c other. by_sent (λ (u : ℕ) (d : Outward). HasSent w u y → y.number ≡ d.number → y.to ≡ d.to)
      (λ u d late early is. k.words.once.one_object u y d early late is) (λ early is. m.object y early is) x c other sent)
      (λ c other. by_sent (λ (u : ℕ) (d : Outward). u ≡ place → o.number ≡ d.number → o.to ≡ d.to)
      (λ u d late at is. sym (m.object d (subst (λ (y : ℕ). HasSent w y d) at late) (sym is))) (λ at is. refl) place c other refl)
      p a first b second same

  told_once : (first second p : ℕ) (a b : Outward) → IsWord (world_with place o w) first p a → IsWord (world_with place o w) second p b → a.number ≡ b.number
      → (first ≡ second) ⊎ (a.number.slot ≡ retold_slot)
  told_once first second p a b one other same =
      by_word (λ (i x : ℕ) (y : Outward). (j : ℕ) (c : Outward) → IsWord (world_with place o w) j x c → y.number ≡ c.number → (i ≡ j) ⊎ (y.number.slot ≡ retold_slot))
      (λ i x y early j c later. by_word (λ (l u : ℕ) (d : Outward). IsWord w i u y → y.number ≡ d.number → (i ≡ l) ⊎ (y.number.slot ≡ retold_slot))
      (λ l u d late was is. k.words.once.one_word i l u y d was late is)
      (λ was is. inr (ap (λ n. n.slot) is ∙ m.fresh y (i, was) is)) j x c later early)
      (λ j c later. by_word (λ (l u : ℕ) (d : Outward). u ≡ place → o.number ≡ d.number → (length w.messages ≡ l) ⊎ (o.number.slot ≡ retold_slot))
      (λ l u d late at is. inr (m.fresh d (subst (λ (y : ℕ). HasSent w y d) at (l, late)) (sym is))) (λ at is. inl refl) j place c later refl)
      first p a one second b other same

  same_named : (x y : NamedKey) (q : Option NamedKey) → q ≡ Some x → q ≡ Some y → x ≡ y
  same_named x y q e f = inner (sym e ∙ f)
    where
      inner : {a b : NamedKey} → Some a ≡ Some b → a ≡ b
      inner e = cc

  told_after : (nth p : ℕ) (q : Outward) (phase : Phase) (r : NamedKey) → IsWord (world_with place o w) nth p q → phase_of q.word ≡ Some phase
      → referred w q.to ≡ Some r → Stands (lines.Send (nth + 1) phase r.name) (lines_of (lines_with w o m.resource.name told))
  told_after nth p q phase r word is refers =
      by_word (λ (i x : ℕ) (y : Outward). phase_of y.word ≡ Some phase → referred w y.to ≡ Some r
      → Stands (lines.Send (i + 1) phase r.name) (lines_of (lines_with w o m.resource.name told)))
      (λ i x y early says to. on _ (k.words.told i x y phase r early says to))
      (λ says to. subst (λ (z : NamedKey). Stands (lines.Send (length w.messages + 1) phase z.name) (lines_of (lines_with w o m.resource.name told)))
      (same_named m.resource r (referred w o.to) m.refers to) (word_stands told (next_message w) o.word m.resource.name phase says))
      nth p q word is refers

  word_new : IsWord (world_with place o w) (length w.messages) place o
  word_new = (new_message (contents.Request place o), push_last w.messages (new_message (contents.Request place o)), refl)

  -- a reply is none to the new message
  no_answer : (reply nth : ℕ) (one : Message) (answer : Said) → slice_get w.messages reply ≡ Some one → one.content ≡ contents.Reply (nth + 1) answer
      → nth ≡ length w.messages → ⊥
  no_answer reply nth one answer at says is =
      let behind = k.words.replied reply (nth + 1) one answer at says in
      let within = place_within w.messages reply one at in
      omega (arith, behind, within, is)

  -- the answer to a word that was there comes in a message that was there
  old_answer : (P : ℕ → ℕ → Outward → Type 0) (nth p reply : ℕ) (q : Outward) (one : Message) (answer : Said) → IsWord (world_with place o w) nth p q
      → slice_get (world_with place o w).messages reply ≡ Some one → one.content ≡ contents.Reply (nth + 1) answer
      → (IsWord w nth p q → slice_get w.messages reply ≡ Some one → P nth p q) → P nth p q
  old_answer P nth p reply q one answer word at says then =
      elim (push_cases w.messages reply (new_message (contents.Request place o)) one at) [
        | inl there ↦
            by_word (λ (i x : ℕ) (y : Outward). one.content ≡ contents.Reply (i + 1) answer → (IsWord w i x y → slice_get w.messages reply ≡ Some one → P i x y) → P i x y)
            (λ i x y early reads so. so early there) (λ reads so. absurd (no_answer reply (length w.messages) one answer there reads refl)) nth p q word says then
        | inr here ↦ absurd (no_reply place (nth + 1) o answer one here.1 says)
      ]

  words_after : WordsAreTold (world_with place o w) (lines_of (lines_with w o m.resource.name told))
  unfolding referred node_at
  words_after = record {
    named = λ p q sent. by_sent (λ (x : ℕ) (y : Outward). IsTrue (is_some (referred w y.to))) (λ x y early. k.words.named x y early) (ap is_some m.refers) p q sent;
    once = record { one_object = both_sent; one_word = told_once };
    told = told_after;
    sent = λ number phase name s.
        elim (word_line told (next_message w) o.word m.resource.name number phase name (among_back (known (lines_with w o m.resource.name told)) _ s)) [
          | inl there ↦ let at = k.words.sent number phase name (among_turned (known told) _ there) in
              (at.0, at.1, at.2, at.3, word_on at.0 at.1 at.2 at.4, at.5, at.6, at.7, at.8)
          | inr here ↦ (length w.messages, place, o, m.resource, word_new, here.2, here.0, m.refers, here.1)
        ];
    replied = λ reply request one answer at says.
        elim (push_cases w.messages reply (new_message (contents.Request place o)) one at) [
          | inl there ↦ k.words.replied reply request one answer there says
          | inr here ↦ absurd (no_reply place request o answer one here.1 says)
        ];
    asked = λ reply request one answer at says.
        elim (push_cases w.messages reply (new_message (contents.Request place o)) one at) [
          | inl there ↦ let was = k.words.asked reply request one answer there says in
              (was.0, was.1, was.2, word_on was.0 was.1 was.2 was.3, was.4)
          | inr here ↦ absurd (no_reply place request o answer one here.1 says)
        ];
    voters = λ reply nth p one vote q at says word.
        old_answer (λ (i x : ℕ) (y : Outward). one.content ≡ contents.Reply (i + 1) (said.Voted vote) → y.word ≡ words.Phase phase_words.Prepare)
        nth p reply q one (said.Voted vote) word at says
        (λ early there reads. k.words.voters reply nth p one vote q there says early) says;
    lives = λ p q rs sent held. by_sent (λ (x : ℕ) (y : Outward). (rs : List JournalRecord) → records_at w x ≡ Some rs → y.number.life ≤ (found_in rs).life)
        (λ x y early rs held. k.words.lives x y rs early held) m.life p q sent rs held;
    given = λ p s n q there up sent alike.
        by_sent (λ (x : ℕ) (y : Outward). (s : Seat) (n : Node) → slice_get w.seats x ≡ Some s → s.server ≡ OfNode (Some n) → y.number.life ≡ n.found.life
        → (y.number.slot ≡ retold_slot) ⊎ (y.number.generation ≤ n.generation))
        (λ x y early s n there up alike. k.words.given x s n y there up early alike) m.given p q sent s n there up alike;
    told_again = λ p q rs sent again held.
        by_sent (λ (x : ℕ) (y : Outward). (rs : List JournalRecord) → y.number.slot ≡ retold_slot → records_at w x ≡ Some rs → Any (IsNamedBy y) (placed first_gate rs))
        (λ x y early rs again held. k.words.told_again x y rs early again held) m.told_again p q sent rs again held;
    serials = λ p q f key sent there same_life same_slot same_generation at.
        by_sent (λ (x : ℕ) (y : Outward). (f : Family) (key : ObjectKey) → family_at w key ≡ Some f → y.number.life ≡ f.key.life → y.number.slot ≡ f.key.slot
        → y.number.generation ≡ f.key.generation → place_of f.key ≡ x → IsNumberedBy f y)
        (λ x y early f key there a b c d. k.words.serials x y f key early there a b c d) m.serial p q sent f key there same_life same_slot same_generation at;
  }

  votes_after : VotesWereGiven (world_with place o w) (lines_with w o m.resource.name told)
  unfolding referred
  votes_after name vote s =
      let g = k.votes name vote (carried.back _ refl s) in
      record {
        request = g.request;
        from = g.from;
        asked = g.asked;
        sent = word_on g.request g.from g.asked g.sent;
        prepare = g.prepare;
        resource = g.resource;
        object = g.object;
        same_name = g.same_name;
        reply = g.reply;
        answer = g.answer;
        answered = push_kept w.messages g.reply (new_message (contents.Request place o)) g.answer g.answered;
        says = g.says;
      }

  -- ---- resources

  answered_back : (name : List ℕ) (vote : Vote) → HasAnswered (world_with place o w) name vote → HasAnswered w name vote
  unfolding referred
  answered_back name vote (nth, from, reply, q, r, one, word, prepare, refers, named, at, says) =
      old_answer (λ (i x : ℕ) (y : Outward). y.word ≡ words.Phase phase_words.Prepare → referred w y.to ≡ Some r → one.content ≡ contents.Reply (i + 1) (said.Voted vote) → HasAnswered w name vote)
      nth from reply q one (said.Voted vote) word at says
      (λ early there prepares to reads. (nth, from, reply, q, r, one, early, prepares, to, named, there, reads)) prepare refers says

  answered_on : (name : List ℕ) (vote : Vote) → HasAnswered w name vote → HasAnswered (world_with place o w) name vote
  unfolding referred
  answered_on name vote (nth, from, reply, q, r, one, word, prepare, refers, named, at, says) =
      (nth, from, reply, q, r, one, word_on nth from q word, prepare, refers, named, push_kept w.messages reply (new_message (contents.Request place o)) one at, says)

  not_undone_then : (name : List ℕ) (r : FlatResource) → ResourceIsKnown w (lines_of told) name r → r.state ≡ states.Undone
      → IsSent phase_words.Commit name (lines_of (lines_with w o m.resource.name told)) → ⊥
  not_undone_then name r old undone commit =
      elim (sent_cases phase_words.Commit name commit) [
        | inl early ↦ (subst (λ (s : State). StatesFollow s name (lines_of told)) undone old.follows) early
        | inr now ↦ (m.allowed phase_words.Commit now.0).not_undone (subst (λ (x : List ℕ). Stands (lines.State x shown.Undone) (lines_of told)) (sym now.1) (old.undone.1 undone))
      ]

  resource_after : (name : List ℕ) (r : FlatResource) → ResourceIsKnown w (lines_of told) name r
      → ResourceIsKnown (world_with place o w) (lines_of (lines_with w o m.resource.name told)) name r
  resource_after name r old = record {
    commit = λ a. voted_kept r.state name _ _ on (old.commit (answered_back name _ a));
    read_only = λ a. old.read_only (answered_back name _ a);
    rollback = λ a. old.rollback (answered_back name _ a);
    none = λ no. unvoted_kept r.state name _ _ on (old.none (λ vote a. no vote (answered_on name vote a)));
    applied = (λ s. old.applied.0 (back _ refl s), λ e. on _ (old.applied.1 e));
    undone = (λ s. old.undone.0 (back _ refl s), λ e. on _ (old.undone.1 e));
    follows = follows_kept r.state name _ _ on (not_undone_then name r old) old.follows;
  }

  resources_after : ResourcesAreKnown (world_with place o w) (lines_of (lines_with w o m.resource.name told))
  unfolding resource_at end_at
  resources_after name key r named at = resource_after name r (k.resources name key r named at)

  -- ---- families

  family_after : (f : Family) → FamilyIsKnown w (lines_of told) f → FamilyIsKnown (world_with place o w) (lines_of (lines_with w o m.resource.name told)) f
  unfolding referred
  family_after f old = record {
    sound = old.sound;
    name = old.name;
    of_name = old.of_name;
    top = old.top;
    branches = old.branches;
    no_further = old.no_further;
    parents = λ t above b p branch higher. (λ s. (old.parents t above b p branch higher).0 (back _ refl s), λ e. on _ ((old.parents t above b p branch higher).1 e));
    ends = λ t b committed branch below. (λ s. (old.ends t b committed branch below).0 (back _ refl s), λ e. on _ ((old.ends t b committed branch below).1 e));
    registrations = λ g t b branch.
        (λ r. (old.registrations g t b branch).0 (registered_back _ _ g t back r), λ l. registered_among _ _ g t on ((old.registrations g t b branch).1 l));
    own = λ r object t among refers registered. old.own r object t among refers (registered_back _ _ object.name t back registered);
    numbered = old.numbered;
    unsynchronized = old.unsynchronized;
    named = old.named;
    apart = old.apart;
    within = old.within;
    came = λ e r among is. let at = old.came e r among is in (at.0, at.1, push_kept w.messages at.0 (new_message (contents.Request place o)) at.1 at.2, at.3, at.4, at.5);
    dues = old.dues;
    legs = old.legs;
    ready = old.ready;
    few = old.few;
    settled = old.settled;
    votes = λ g vote r object among is refers. (λ v. on _ ((old.votes g vote r object among is refers).0 v), λ s. (old.votes g vote r object among is refers).1 (back _ refl s));
    outcome = outcome_kept (stages.outcome f.completion) old.name _ _ on back old.outcome;
    recorded = old.recorded;
  }

  families_after : FamiliesAreKnown (world_with place o w) (lines_of (lines_with w o m.resource.name told))
  unfolding node_at
  families_after key f there = family_after f (k.families key f there)

  open_after : ToldIsOpen (world_with place o w) (lines_of (lines_with w o m.resource.name told))
  unfolding node_at
  open_after = record {
    commit = λ g t b key f commit registered there branch.
        elim (sent_cases phase_words.Commit g commit) [
          | inl early ↦ k.open_words.commit g t b key f early (registered_back _ _ g t back registered) there branch
          | inr now ↦ m.commits (phase_only o.word phase_words.Commit now.0) t b key f
              (subst (λ (x : List ℕ). IsRegistered x t (lines_of told)) (sym now.1) (registered_back _ _ g t back registered)) there branch
        ];
    one_phase = λ g t b key f commit registered there branch.
        elim (sent_cases phase_words.CommitOnePhase g commit) [
          | inl early ↦ k.open_words.one_phase g t b key f early (registered_back _ _ g t back registered) there branch
          | inr now ↦ m.asks (phase_only o.word phase_words.CommitOnePhase now.0) t b key f
              (subst (λ (x : List ℕ). IsRegistered x t (lines_of told)) (sym now.1) (registered_back _ _ g t back registered)) there branch
        ];
  }

  -- ---- records and outcomes

  consented_on : (g : List ℕ) → HasConsented g (known told) → HasConsented g (known (lines_with w o m.resource.name told))
  consented_on g (inl s) = inl (carried.on _ s)
  consented_on g (inr s) = inr (carried.on _ s)

  rests_after : (family : ObjectKey) (regs : List Named) → RestsOnVotes w told family regs
      → RestsOnVotes (world_with place o w) (lines_with w o m.resource.name told) family regs
  unfolding referred
  rests_after family regs old = record {
    name = old.name;
    of_name = old.of_name;
    consented = λ p part. consented_on p (old.consented p (part_back _ _ p old.name carried.back part));
    named = old.named;
    voters = λ to r refers. (
      λ among. (part_among _ _ r.name old.name carried.on ((old.voters to r refers).0 among).0, carried.on _ ((old.voters to r refers).0 among).1),
      λ voter. (old.voters to r refers).1 (part_back _ _ r.name old.name carried.back voter.0, carried.back _ refl voter.1),
    );
    once = old.once;
  }

  records_after : RecordsRestOnVotes (world_with place o w) (lines_with w o m.resource.name told)
  records_after p life slot generation retry asked regs rs held among =
      rests_after _ regs (k.records p life slot generation retry asked regs rs held among)

  decided_back : (key : ObjectKey) (name : List ℕ) → IsDecided (world_with place o w) (lines_with w o m.resource.name told) key name → IsDecided w told key name
  decided_back key name (inl s) = inl (carried.back _ refl s)
  decided_back key name (inr has) = inr has

  decided_on : (key : ObjectKey) (name : List ℕ) → IsDecided w told key name → IsDecided (world_with place o w) (lines_with w o m.resource.name told) key name
  decided_on key name (inl s) = inl (carried.on _ s)
  decided_on key name (inr has) = inr has

  rolled_back_back : (name : List ℕ) → IsRolledBack (lines_with w o m.resource.name told) name → IsRolledBack told name
  rolled_back_back name (agreed.IsRolledBack.by_known reason s) = agreed.IsRolledBack.by_known reason (carried.back _ refl s)
  rolled_back_back name (agreed.IsRolledBack.by_other reason c) = agreed.IsRolledBack.by_other reason (carried.reasons_back _ tt c)
  rolled_back_back name (agreed.IsRolledBack.by_synchronization reason synchronization c) =
      agreed.IsRolledBack.by_synchronization reason synchronization (carried.reasons_back _ tt c)

  rolled_back_on : (name : List ℕ) → IsRolledBack told name → IsRolledBack (lines_with w o m.resource.name told) name
  rolled_back_on name (agreed.IsRolledBack.by_known reason s) = agreed.IsRolledBack.by_known reason (carried.on _ s)
  rolled_back_on name (agreed.IsRolledBack.by_other reason c) = agreed.IsRolledBack.by_other reason (carried.reasons_on _ c)
  rolled_back_on name (agreed.IsRolledBack.by_synchronization reason synchronization c) =
      agreed.IsRolledBack.by_synchronization reason synchronization (carried.reasons_on _ c)

  closed_back_then : (key : ObjectKey) (name : List ℕ) → IsClosed (world_with place o w) (lines_with w o m.resource.name told) key name → IsClosed w told key name
  closed_back_then key name (agreed.IsClosed.rolled_back r) = agreed.IsClosed.rolled_back (rolled_back_back name r)
  closed_back_then key name (agreed.IsClosed.outlived l undecided) =
      agreed.IsClosed.outlived (record { server = l.server; named = l.named; life = l.life; later = l.later; up = carried.back _ refl l.up })
      (λ d. undecided (decided_on key name d))

  closed_on : (key : ObjectKey) (name : List ℕ) → IsClosed w told key name → IsClosed (world_with place o w) (lines_with w o m.resource.name told) key name
  closed_on key name (agreed.IsClosed.rolled_back r) = agreed.IsClosed.rolled_back (rolled_back_on name r)
  closed_on key name (agreed.IsClosed.outlived l undecided) =
      agreed.IsClosed.outlived (record { server = l.server; named = l.named; life = l.life; later = l.later; up = carried.on _ l.up })
      (λ d. undecided (decided_back key name d))

  -- ---- commit words and rollback

  commits_after : CommitsAreRecorded (world_with place o w)
  commits_after p q sent commit =
      by_sent (λ (x : ℕ) (y : Outward). y.word ≡ words.Phase phase_words.Commit → IsTrue (has_record w x (names_object y.to))) (λ x y early says. k.commits x y early says) m.recorded p q sent commit

  alone_on : (name : List ℕ) → IsAlone w told name → IsAlone (world_with place o w) (lines_with w o m.resource.name told) name
  alone_on name old = record {
    family = old.family;
    key = old.key;
    of_name = old.of_name;
    participant = part_among _ _ name old.family carried.on old.participant;
    only = λ p part. old.only p (part_back _ _ p old.family carried.back part);
    unrecorded = λ d. old.unrecorded (decided_back old.key old.family d);
  }

  one_phase_after : OnePhaseIsAlone (world_with place o w) (lines_with w o m.resource.name told)
  one_phase_after name (message, s) =
      elim (word_line told (next_message w) o.word m.resource.name message phase_words.CommitOnePhase name s) [
        | inl there ↦ alone_on name (k.one_phase name (message, there))
        | inr here ↦ alone_on name (subst (IsAlone w told) here.1 (m.alone (phase_only o.word phase_words.CommitOnePhase here.0)))
      ]

  over_on : (transaction top : List ℕ) (key : ObjectKey) → (IsClosed w told key top ⊎ IsCutOff (known told) transaction)
      → (IsClosed (world_with place o w) (lines_with w o m.resource.name told) key top ⊎ IsCutOff (known (lines_with w o m.resource.name told)) transaction)
  over_on transaction top key (inl closed) = inl (closed_on key top closed)
  over_on transaction top key (inr off) = inr (cut_among _ _ transaction carried.on off)

  may_be_on : (name : List ℕ) → MayBeRolledBack w told name → MayBeRolledBack (world_with place o w) (lines_with w o m.resource.name told) name
  may_be_on name old = record {
    transaction = old.transaction;
    key = old.key;
    named = old.named;
    registered = registered_among _ _ name old.transaction carried.on old.registered;
    top = old.top;
    family = old.family;
    over = over_on old.transaction old.top (record old.key { index = 0 }) old.over;
  }

  rollbacks_after : RollbacksAreClosed (world_with place o w) (lines_with w o m.resource.name told)
  unfolding referred
  rollbacks_after p q r sent rollback refers =
      by_sent (λ (x : ℕ) (y : Outward). y.word ≡ words.Phase phase_words.Rollback → referred w y.to ≡ Some r → MayBeRolledBack (world_with place o w) (lines_with w o m.resource.name told) r.name)
      (λ x y early says to. may_be_on r.name (k.rollbacks x y r early says to))
      (λ says to. may_be_on r.name (subst (λ (z : NamedKey). MayBeRolledBack w told z.name) (same_named m.resource r (referred w o.to) m.refers to) (m.back says)))
      p q sent rollback refers

  -- ---- transactions, nodes and ends

  transactions_after : TransactionsAreKnown (world_with place o w) (lines_with w o m.resource.name told)
  transactions_after = record {
    seated = k.transactions.seated;
    lives = k.transactions.lives;
    decided = λ name outcome s. k.transactions.decided name outcome (carried.back _ refl s);
    rolled_back = λ name back. k.transactions.rolled_back name (rolled_back_back name back);
  }

  nodes_after : NodesAreKnown (world_with place o w) (lines_with w o m.resource.name told)
  unfolding node_at
  nodes_after p n is =
      let old = k.nodes p n is in
      record {
        sound = old.sound;
        given = old.given;
        order = old.order;
        held = λ rs held has among.
            let was = old.held rs held has among in
            record {
              stood = was.stood;
              there = was.there;
              same_place = was.same_place;
              numbers = was.numbers;
              references = was.references;
              line = λ life slot generation retry asked regs at.
                  let line = was.line life slot generation retry asked regs at in
                  (line.0, line.1, carried.on _ line.2);
            };
      }

  counted_after : EndsHaveCounted (world_with place o w)
  unfolding end_at
  counted_after = record {
    numbers = k.counted.numbers;
    messages = λ p e is.
        let low = k.counted.messages p e is in
        let many = length-append w.messages (new_message (contents.Request place o) ∷ []) in
        omega (arith, low, many);
    short = k.counted.short;
  }

  -- what is known once the word is sent
  pub request_known : Known (world_with place o w) (lines_with w o m.resource.name told)
  unfolding node_at
  request_known = record {
    names = names_after;
    seats = seats_after;
    disks = disks_after;
    words = words_after;
    votes = votes_after;
    resources = resources_after;
    families = families_after;
    open_words = open_after;
    records = records_after;
    recorded = λ name key named first s. k.recorded name key named first (carried.back _ refl s);
    ends = λ before behind t committed earlier e s.
        let at = carried.split (lines.SubDone t committed) before behind refl e in
        k.ends before at.0 t committed earlier at.1 s;
    one_outcome = λ name key named first decided closed. k.one_outcome name key named first (decided_back key name decided) (closed_back_then key name closed);
    commits = commits_after;
    one_phase = one_phase_after;
    rollbacks = rollbacks_after;
    rolled_back = λ name key f named first there back. k.rolled_back name key f named first there (rolled_back_back name back);
    told_back = λ name key f there named back. rolled_back_on name (k.told_back name key f there named back);
    transactions = transactions_after;
    nodes = nodes_after;
    counted = counted_after;
    allowed = word_allowed told (next_message w) o.word m.resource.name m.allowed k.allowed;
  }

  -- so it is of what `requests` does
  pub requests_known : Known (requests place o w).world (told ++ (requests place o w).lines)
  unfolding requests
  requests_known =
      subst (λ (x : Option NamedKey). Known (world_with place o w) (told ++ naming (sent (next_message w) o.word) (option_map (λ (r : NamedKey). r.name) x))) (sym m.refers) request_known
