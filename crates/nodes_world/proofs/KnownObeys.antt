-- A resource is told a word, and answers: what is known stays known.
use Rattle.std.proofs.Common.{◌≡◌, ◌⊎◌, inl, inr, ℕ, ◌+◌, ◌≤◌, List, [], ◌∷◌, ◌++◌, length, slice_get, reverse, append-nil, Option, Some, None, refl, sym, ap, subst, ◌∙◌, arith}
use Rattle.std.specs.List.{AllByRecursion}
use Rattle.std.proofs.lemmas.List.{reverse-append}
use Rattle.std.proofs.lemmas.List.Elements.{filter_map-append}
use Rattle.ior_refs.specs.declared.key.ObjectKey.{ObjectKey}
use Rattle.ots_model.specs.Safe.{Stands, IsSent}
use Rattle.ots_model.specs.SafeByLine.{AreAllowed, CanChange}
use Rattle.ots_model.specs.declared.completion.Vote.{Vote}
use Rattle.ots_model.specs.declared.completion.Vote.TheVariants.{VoteCommit, VoteReadOnly, VoteRollback}
use Rattle.ots_model.specs.declared.completion.Word.TheVariants as phase_words
use Rattle.ots_model.specs.declared.line.Line.{Line}
use Rattle.ots_model.specs.declared.line.Line.TheVariants as lines
use Rattle.ots_model.specs.declared.line.ResourceState.{ResourceState}
use Rattle.ots_model.specs.declared.line.ResourceState.TheVariants as shown
use Rattle.ots_model.specs.declared.tree.Outward.{Outward}
use Rattle.ots_model.specs.declared.tree.Word.{Word}
use Rattle.ots_model.specs.declared.tree.Word.TheVariants as words
use Rattle.resource_end.specs.declared.state.State.{State}
use Rattle.resource_end.specs.declared.state.State.TheVariants as states
use Rattle.coordinator.specs.Node.{Node}
use Rattle.coordinator.specs.declared.event.Act.{Act}
use Rattle.coordinator.specs.declared.said.Said.{Said}
use Rattle.coordinator.specs.declared.said.Said.TheVariants as said
use Rattle.nodes_world.specs.declared.message.Content.TheVariants as contents
use Rattle.nodes_world.specs.declared.message.Message.{Message}
use Rattle.nodes_world.specs.Agreement.{IsWord, StatesFollow, records_at}
use Rattle.nodes_world.specs.AgreementInside.{Known, HasAnswered, HasNotVoted, HasVotedCommit, ResourceIsKnown, EndsHaveCounted}
use Rattle.nodes_world.specs.Happenings.{new_message}
use Rattle.nodes_world.specs.Told as tell
use Rattle.nodes_world.specs.Told.{Told, known, known_in}
use Rattle.nodes_world.specs.World.{World, Seat, OfNode, FlatResource, NamedKey, family_at, referred, resource_at}
use Rattle.nodes_world.proofs.KnownLines.{AreAmong, among_back, among_turned, lines_of, referred_named}
use Rattle.nodes_world.proofs.KnownFrames.{last_cases, place_within, push_cases, push_kept, push_last}
use Rattle.nodes_world.proofs.KnownRequests.{follows_kept, unvoted_kept, voted_kept}
use Rattle.nodes_world.proofs.KnownTelling.{IsOne, TellsOn, tells_on}
use Rattle.nodes_world.proofs.KnownTurns.{Turns, is_state, turned_known}

-- ---- the lines

abbrev pub shown_told : List ℕ → Option ResourceState → List Told
shown_told name (Some s) = tell.Known (lines.State name s) ∷ []
shown_told name None = []

abbrev shown_lines : List ℕ → Option ResourceState → List Line
shown_lines name (Some s) = lines.State name s ∷ []
shown_lines name None = []

-- the state is told, where it is, and then the reply
abbrev pub obeyed_lines : List ℕ → Option ResourceState → ℕ → ℕ → Said → List Told
obeyed_lines name shows number request answer = shown_told name shows ++ tell.Back number request answer ∷ []

all_state : (name : List ℕ) (shows : Option ResourceState) (number request : ℕ) (answer : Said) → AllByRecursion (IsOne is_state) (obeyed_lines name shows number request answer)
all_state name (Some s) number request answer = (refl, (tt, tt))
all_state name None number request answer = (tt, tt)

known_obeyed : (told : List Told) (name : List ℕ) (shows : Option ResourceState) (number request : ℕ) (answer : Said)
    → known (told ++ obeyed_lines name shows number request answer) ≡ known told ++ shown_lines name shows
known_obeyed told name (Some s) number request answer = filter_map-append known_in told (obeyed_lines name (Some s) number request answer)
known_obeyed told name None number request answer = filter_map-append known_in told (obeyed_lines name None number request answer)

state_of : (name other : List ℕ) (s t : ResourceState) → lines.State name s ≡ lines.State other t → (name ≡ other) × (s ≡ t)
state_of name other s t e = (cc, cc)

-- a state's line is one of before, or the one that is told
shown_cases : (told : List Told) (name : List ℕ) (shows : Option ResourceState) (number request : ℕ) (answer : Said) (other : List ℕ) (t : ResourceState)
    → Stands (lines.State other t) (known (told ++ obeyed_lines name shows number request answer))
    → Stands (lines.State other t) (known told) ⊎ ((name ≡ other) × (shows ≡ Some t))
shown_cases told name (Some s) number request answer other t stands =
    elim (last_cases (known told) (lines.State other t) (lines.State name s) (subst (Stands (lines.State other t)) (known_obeyed told name (Some s) number request answer) stands)) [
      | inl there ↦ inl there
      | inr here ↦ let same = state_of name other s t here in inr (same.0, ap (λ (z : ResourceState). Some z) same.1)
    ]
shown_cases told name None number request answer other t stands =
    inl (subst (Stands (lines.State other t)) (known_obeyed told name None number request answer ∙ append-nil (known told)) stands)

newest_is : (told : List Told) (name : List ℕ) (s : ResourceState) (number request : ℕ) (answer : Said)
    → lines_of (told ++ obeyed_lines name (Some s) number request answer) ≡ lines.State name s ∷ lines_of told
newest_is told name s number request answer =
    ap reverse (known_obeyed told name (Some s) number request answer) ∙ reverse-append (known told) (lines.State name s ∷ [])

shown_stands : (told : List Told) (name : List ℕ) (shows : Option ResourceState) (number request : ℕ) (answer : Said) (t : ResourceState) → shows ≡ Some t
    → Stands (lines.State name t) (lines_of (told ++ obeyed_lines name shows number request answer))
shown_stands told name (Some s) number request answer t is =
    subst (Stands (lines.State name t)) (sym (newest_is told name s number request answer)) (inl (ap (lines.State name) (inner is)))
  where
    inner : {a b : ResourceState} → Some a ≡ Some b → a ≡ b
    inner e = cc
shown_stands told name None number request answer t is = absurd cc

shown_allowed : (told : List Told) (name : List ℕ) (shows : Option ResourceState) (number request : ℕ) (answer : Said)
    → ((t : ResourceState) → shows ≡ Some t → CanChange t name (lines_of told)) → AreAllowed (lines_of told)
    → AreAllowed (lines_of (told ++ obeyed_lines name shows number request answer))
shown_allowed told name (Some s) number request answer may all = subst AreAllowed (sym (newest_is told name s number request answer)) (may s refl, all)
shown_allowed told name None number request answer may all =
    subst AreAllowed (sym (ap reverse (known_obeyed told name None number request answer ∙ append-nil (known told)))) all

-- ---- the world

abbrev pub reply_of : ℕ → Said → Message
reply_of request answer = new_message (contents.Reply request answer)

-- a resource is another one, and its reply is the last message
pub record Replies (w v : World) (x : NamedKey) (r next : FlatResource) (reply : Message) : Type 0 where
  pub names : v.names ≡ w.names
  pub sends : v.messages ≡ w.messages ++ reply ∷ []
  pub refers : (to : List ℕ) → referred v to ≡ referred w to
  pub families : (key : ObjectKey) → family_at v key ≡ family_at w key
  pub records : (place : ℕ) → records_at v place ≡ records_at w place
  pub nodes : (place : ℕ) (s : Seat) (up : Option Node) → slice_get v.seats place ≡ Some s → s.server ≡ OfNode up → slice_get w.seats place ≡ Some s
  pub seats_back : (place : ℕ) (s : Seat) → slice_get v.seats place ≡ Some s → (old : Seat) × (slice_get w.seats place ≡ Some old) × (old.name ≡ s.name)
  pub seats_on : (place : ℕ) (s : Seat) → slice_get w.seats place ≡ Some s → (one : Seat) × (slice_get v.seats place ≡ Some one) × (one.name ≡ s.name)
  pub turned : (key : ObjectKey) (q : FlatResource) → resource_at v key ≡ Some q
      → ((key ≡ x.key → ⊥) × (resource_at w key ≡ Some q)) ⊎ ((q ≡ next) × (resource_at w key ≡ Some r))
  pub turned_on : (key : ObjectKey) (q : FlatResource) → resource_at w key ≡ Some q → (one : FlatResource) × (resource_at v key ≡ Some one) × (one.key ≡ q.key)
  pub counted : EndsHaveCounted w → EndsHaveCounted v
  pub many : length v.seats ≡ length w.seats

-- what a word and its answer make of what is known of a resource
pub record Obeys (h : List Line) (name : List ℕ) (s n : State) (word : Word) (answer : Said) (shows : Option ResourceState) : Type 0 where
  pub commit : HasVotedCommit s name h → HasVotedCommit n name h
  pub commit_now : word ≡ words.Phase phase_words.Prepare → answer ≡ said.Voted VoteCommit → HasVotedCommit n name h
  pub read_only : s ≡ states.Forgotten → n ≡ states.Forgotten
  pub read_only_now : word ≡ words.Phase phase_words.Prepare → answer ≡ said.Voted VoteReadOnly → n ≡ states.Forgotten
  pub rollback : s ≡ states.Undone → n ≡ states.Undone
  pub rollback_now : word ≡ words.Phase phase_words.Prepare → answer ≡ said.Voted VoteRollback → n ≡ states.Undone
  pub none : (word ≡ words.Phase phase_words.Prepare → (vote : Vote) → answer ≡ said.Voted vote → ⊥) → HasNotVoted s name h → HasNotVoted n name h
  pub follows : StatesFollow n name h
  pub voter : (vote : Vote) → answer ≡ said.Voted vote → word ≡ words.Phase phase_words.Prepare
  pub applied_on : s ≡ states.Applied → n ≡ states.Applied
  pub applied_shown : shows ≡ Some shown.Applied → n ≡ states.Applied
  pub applied_now : n ≡ states.Applied → (s ≡ states.Applied) ⊎ (shows ≡ Some shown.Applied)
  pub undone_shown : shows ≡ Some shown.Undone → n ≡ states.Undone
  pub undone_now : n ≡ states.Undone → (s ≡ states.Undone) ⊎ (shows ≡ Some shown.Undone)
  pub may : (t : ResourceState) → shows ≡ Some t → CanChange t name h

reply_says : (request number : ℕ) (answer other : Said) (m : Message) → m ≡ reply_of request answer → m.content ≡ contents.Reply number other → (number ≡ request) × (other ≡ answer)
reply_says request number answer other m is says = inner (sym (ap (λ (z : Message). z.content) is) ∙ says)
  where
    inner : contents.Reply request answer ≡ contents.Reply number other → (number ≡ request) × (other ≡ answer)
    inner e = (cc, cc)

no_request : (request p : ℕ) (q : Outward) (answer : Said) (m : Message) → m ≡ reply_of request answer → m.content ≡ contents.Request p q → ⊥
no_request request p q answer m is says = inner (sym (ap (λ (z : Message). z.content) is) ∙ says)
  where
    inner : contents.Reply request answer ≡ contents.Request p q → ⊥
    inner e = absurd cc

no_call : (request : ℕ) (to : ObjectKey) (act : Act) (answer : Said) (m : Message) → m ≡ reply_of request answer → m.content ≡ contents.Call to act → ⊥
no_call request to act answer m is says = inner (sym (ap (λ (z : Message). z.content) is) ∙ says)
  where
    inner : contents.Reply request answer ≡ contents.Call to act → ⊥
    inner e = absurd cc

module _ (w v : World) (told : List Told) (k : Known w told) (nth place : ℕ) (o : Outward) (asked : IsWord w nth place o) (x : NamedKey)
    (refers_to : referred w o.to ≡ Some x) (r next : FlatResource) (was : resource_at w x.key ≡ Some r) (answer : Said) (shows : Option ResourceState) (number : ℕ)
    (c : Replies w v x r next (reply_of (nth + 1) answer)) (b : Obeys (lines_of told) x.name r.state next.state o.word answer shows) where
  tells : TellsOn is_state told (told ++ obeyed_lines x.name shows number (nth + 1) answer)
  tells = tells_on is_state told (obeyed_lines x.name shows number (nth + 1) answer) (all_state x.name shows number (nth + 1) answer)

  on : AreAmong (lines_of told) (lines_of (told ++ obeyed_lines x.name shows number (nth + 1) answer))
  on line s = among_turned _ line (tells.on line (among_back (known told) line s))

  message_on : (i : ℕ) (m : Message) → slice_get w.messages i ≡ Some m → slice_get v.messages i ≡ Some m
  message_on i m at = ap (λ ms. slice_get ms i) c.sends ∙ push_kept w.messages i (reply_of (nth + 1) answer) m at

  message_cases : (i : ℕ) (m : Message) → slice_get v.messages i ≡ Some m → (slice_get w.messages i ≡ Some m) ⊎ ((i ≡ length w.messages) × (m ≡ reply_of (nth + 1) answer))
  message_cases i m at = push_cases w.messages i (reply_of (nth + 1) answer) m (sym (ap (λ ms. slice_get ms i) c.sends) ∙ at)

  word_back : (i p : ℕ) (q : Outward) → IsWord v i p q → IsWord w i p q
  word_back i p q (m, at, says) =
      elim (message_cases i m at) [
        | inl there ↦ (m, there, says)
        | inr here ↦ absurd (no_request (nth + 1) p q answer m here.1 says)
      ]

  call_back : (i : ℕ) (m : Message) (to : ObjectKey) (act : Act) → slice_get v.messages i ≡ Some m → m.content ≡ contents.Call to act → slice_get w.messages i ≡ Some m
  call_back i m to act at says =
      elim (message_cases i m at) [
        | inl there ↦ there
        | inr here ↦ absurd (no_call (nth + 1) to act answer m here.1 says)
      ]

  same_word : (p : ℕ) (q : Outward) → IsWord w nth p q → q ≡ o
  same_word p q (m, at, says) = inner (sym says ∙ ap (λ (z : Message). z.content) (one (sym at ∙ asked.1)) ∙ asked.2)
    where
      one : {a b : Message} → Some a ≡ Some b → a ≡ b
      one e = cc

      inner : contents.Request p q ≡ contents.Request place o → q ≡ o
      inner e = cc

  word_at : (i p : ℕ) (q : Outward) → nth + 1 ≡ i + 1 → IsWord w i p q → q ≡ o
  word_at i p q same word = same_word p q (subst (λ (j : ℕ). IsWord w j p q) (let e : i ≡ nth = omega (arith, same) in e) word)

  reply_back : (reply request : ℕ) (m : Message) (other : Said) → slice_get v.messages reply ≡ Some m → m.content ≡ contents.Reply request other
      → (slice_get w.messages reply ≡ Some m)
      ⊎ ((request ≤ reply) × ((i p : ℕ) × (q : Outward) × IsWord w i p q × (request ≡ i + 1)) × ((i p : ℕ) (q : Outward) → request ≡ i + 1 → IsWord w i p q
      → (referred w q.to ≡ Some x) × ((vote : Vote) → other ≡ said.Voted vote → q.word ≡ words.Phase phase_words.Prepare)))
  reply_back reply request m other at says =
      elim (message_cases reply m at) [
        | inl there ↦ inl there
        | inr here ↦
            let is = (reply_says (nth + 1) request answer other m here.1 says).0 in
            let within = place_within w.messages nth asked.0 asked.1 in
            let place_is = here.0 in
            inr (
              omega (arith, is, within, place_is),
              (nth, place, o, asked, is),
              λ i p q same word.
                  let own = word_at i p q (sym is ∙ same) word in (
                    ap (λ (z : Outward). referred w z.to) own ∙ refers_to,
                    λ vote voted. ap (λ (z : Outward). z.word) own ∙ b.voter vote (sym (reply_says (nth + 1) request answer other m here.1 says).1 ∙ voted),
                  ),
            )
      ]

  -- ---- the resource

  answered_on : (vote : Vote) → HasAnswered w x.name vote → HasAnswered v x.name vote
  answered_on vote (i, from, reply, q, y, m, (one, at_one, asks), prepare, refers, named, at, says) =
      (i, from, reply, q, y, m, (one, message_on i one at_one, asks), prepare, c.refers q.to ∙ refers, named, message_on reply m at, says)

  answered_back : (vote : Vote) → HasAnswered v x.name vote → HasAnswered w x.name vote ⊎ ((o.word ≡ words.Phase phase_words.Prepare) × (answer ≡ said.Voted vote))
  answered_back vote (i, from, reply, q, y, m, word, prepare, refers, named, at, says) =
      elim (message_cases reply m at) [
        | inl there ↦ inl (i, from, reply, q, y, m, word_back i from q word, prepare, sym (c.refers q.to) ∙ refers, named, there, says)
        | inr here ↦
            let is = reply_says (nth + 1) (i + 1) answer (said.Voted vote) m here.1 says in
            let own = word_at i from q (sym is.0) (word_back i from q word) in
            inr (sym (ap (λ (z : Outward). z.word) own) ∙ prepare, sym is.1)
      ]

  -- it has voted so before, or does so now
  either_vote : {P : Type 0} (vote : Vote) → (HasAnswered w x.name vote → P) → (o.word ≡ words.Phase phase_words.Prepare → answer ≡ said.Voted vote → P) → HasAnswered v x.name vote → P
  either_vote vote before now a =
      elim (answered_back vote a) [
        | inl old ↦ before old
        | inr new ↦ now new.0 new.1
      ]

  shown_back : (old : ResourceIsKnown w (lines_of told) x.name r) (t : ResourceState) (s : State)
      → (Stands (lines.State x.name t) (lines_of told) → next.state ≡ s) → (shows ≡ Some t → next.state ≡ s)
      → Stands (lines.State x.name t) (lines_of (told ++ obeyed_lines x.name shows number (nth + 1) answer)) → next.state ≡ s
  shown_back old t s before now stands =
      elim (shown_cases told x.name shows number (nth + 1) answer x.name t (among_back _ _ stands)) [
        | inl there ↦ before (among_turned (known told) _ there)
        | inr here ↦ now here.1
      ]

  shown_on : (t : ResourceState) (s : State) → (s ≡ r.state → Stands (lines.State x.name t) (lines_of told)) → ((r.state ≡ s) ⊎ (shows ≡ Some t))
      → Stands (lines.State x.name t) (lines_of (told ++ obeyed_lines x.name shows number (nth + 1) answer))
  shown_on t s before (inl was) = on _ (before (sym was))
  shown_on t s before (inr now) = shown_stands told x.name shows number (nth + 1) answer t now

  obeyed_resource : ResourceIsKnown v (lines_of (told ++ obeyed_lines x.name shows number (nth + 1) answer)) x.name next
  obeyed_resource =
      let old = k.resources x.name x.key r (referred_named w told k o.to x refers_to) was in
      record {
        commit = λ a. voted_kept next.state x.name _ _ on (either_vote VoteCommit (λ z. b.commit (old.commit z)) b.commit_now a);
        read_only = either_vote VoteReadOnly (λ z. b.read_only (old.read_only z)) b.read_only_now;
        rollback = either_vote VoteRollback (λ z. b.rollback (old.rollback z)) b.rollback_now;
        none = λ unvoted. unvoted_kept next.state x.name _ _ on (b.none
            (λ prepare vote is. unvoted vote (new_vote vote prepare is)) (old.none (λ vote a. unvoted vote (answered_on vote a))));
        applied = (
          shown_back old shown.Applied states.Applied (λ s. b.applied_on (old.applied.0 s)) b.applied_shown,
          λ e. shown_on shown.Applied states.Applied (λ is. old.applied.1 (sym is)) (b.applied_now e),
        );
        undone = (
          shown_back old shown.Undone states.Undone (λ s. b.rollback (old.undone.0 s)) b.undone_shown,
          λ e. shown_on shown.Undone states.Undone (λ is. old.undone.1 (sym is)) (b.undone_now e),
        );
        follows = follows_kept next.state x.name _ _ on (λ undone commit. not_undone undone commit) b.follows;
      }
    where
      new_vote : (vote : Vote) → o.word ≡ words.Phase phase_words.Prepare → answer ≡ said.Voted vote → HasAnswered v x.name vote
      new_vote vote prepare is = (
        nth,
        place,
        length w.messages,
        o,
        x,
        reply_of (nth + 1) answer,
        (asked.0, message_on nth asked.0 asked.1, asked.2),
        prepare,
        c.refers o.to ∙ refers_to,
        refl,
        ap (λ ms. slice_get ms (length w.messages)) c.sends ∙ push_last w.messages (reply_of (nth + 1) answer),
        ap (contents.Reply (nth + 1)) is,
      )

      not_undone : next.state ≡ states.Undone → IsSent phase_words.Commit x.name (lines_of (told ++ obeyed_lines x.name shows number (nth + 1) answer)) → ⊥
      not_undone undone (i, s) =
          (subst (λ (z : State). StatesFollow z x.name (lines_of told)) undone b.follows) (i, among_turned (known told) _ (tells.back _ refl (among_back _ _ s)))

  obeyed_turns : Turns w v told (told ++ obeyed_lines x.name shows number (nth + 1) answer) x r next
  obeyed_turns = record {
    tells = tells;
    shows = λ name s stands. shown_else name s (shown_cases told x.name shows number (nth + 1) answer name s stands);
    allowed = shown_allowed told x.name shows number (nth + 1) answer b.may k.allowed;
    names = c.names;
    refers = c.refers;
    families = c.families;
    records = c.records;
    nodes = c.nodes;
    seats_back = c.seats_back;
    seats_on = c.seats_on;
    named = referred_named w told k o.to x refers_to;
    was = was;
    turned = c.turned;
    turned_on = c.turned_on;
    messages = message_on;
    words_back = word_back;
    calls = call_back;
    replies = reply_back;
    counted = c.counted;
    many = c.many;
    known_next = obeyed_resource;
  }
    where
      shown_else : (name : List ℕ) (s : ResourceState) → Stands (lines.State name s) (known told) ⊎ ((x.name ≡ name) × (shows ≡ Some s))
          → Stands (lines.State name s) (known told) ⊎ (name ≡ x.name)
      shown_else name s (inl there) = inl there
      shown_else name s (inr here) = inr (sym here.0)

  pub obeyed_known : Known v (told ++ obeyed_lines x.name shows number (nth + 1) answer)
  obeyed_known = turned_known w v told (told ++ obeyed_lines x.name shows number (nth + 1) answer) k x r next obeyed_turns
