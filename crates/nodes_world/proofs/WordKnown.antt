-- A word comes to a resource of an end: what is known stays known.
use Rattle.std.proofs.Common.{◌≡◌, ◌≢◌, ◌⊎◌, inl, inr, ℕ, ◌+◌, ◌==◌, is_some, IsTrue, List, [], ◌∷◌, ◌++◌, find, if◌then◌else◌, Option, Some, None, refl, sym, ap, ap₂, subst, ◌∙◌, arith, Bool, true, false, cond, length-append}
use Rattle.std.specs.Option.{option_and_then}
use Rattle.ior_refs.specs.declared.key.ObjectKey.{ObjectKey}
use Rattle.ots_model.specs.SafeByLine.{AllowedIsSafe, CanChange}
use Rattle.ots_model.specs.declared.completion.Vote.{Vote}
use Rattle.ots_model.specs.declared.completion.Vote.TheVariants.{VoteCommit, VoteReadOnly, VoteRollback}
use Rattle.ots_model.specs.declared.completion.Word.TheVariants as phase_words
use Rattle.ots_model.specs.declared.line.Line.{Line}
use Rattle.ots_model.specs.declared.line.ResourceState.{ResourceState}
use Rattle.ots_model.specs.declared.line.ResourceState.TheVariants as shown
use Rattle.ots_model.specs.declared.tree.Outward.{Outward}
use Rattle.ots_model.specs.declared.tree.Word.{Word}
use Rattle.ots_model.specs.declared.tree.Word.TheVariants as words
use Rattle.resource_end.specs.States.{is_forgotten}
use Rattle.resource_end.specs.Table.{row}
use Rattle.resource_end.specs.declared.state.State.{State}
use Rattle.resource_end.specs.declared.state.State.TheVariants as states
use Rattle.resource_end.specs.declared.state.Word.{Word as EndWord}
use Rattle.resource_end.specs.declared.state.Word.TheVariants as tolds
use Rattle.coordinator.specs.declared.said.Said.{Said}
use Rattle.coordinator.specs.declared.said.Said.TheVariants as said
use Rattle.nodes_world.specs.Agreement.{IsWord}
use Rattle.nodes_world.specs.AgreementInside.{Known, HasAnswered, HasNotVoted, HasVotedCommit, ResourceIsKnown}
use Rattle.nodes_world.specs.Ends.{answer_of_row, answers, moves, obeys, obeys_as, obeys_row, obeys_word, shown_state, state_lines, told_word, with_resource_at, with_resource}
use Rattle.nodes_world.specs.Happenings.{Done, nothing, replies, ◌▹◌}
use Rattle.nodes_world.specs.Objects.{place_of}
use Rattle.nodes_world.specs.Told as tell
use Rattle.nodes_world.specs.Told.{Told}
use Rattle.nodes_world.specs.World.{World, FlatEnd, FlatResource, NamedKey, end_at, next_message, node_at, referred, resource_at, with_sent, OfEnd}
use Rattle.nodes_world.proofs.Going.{EndIsUp, end_is_up}
use Rattle.nodes_world.proofs.KnownLines.{lines_of}
use Rattle.nodes_world.proofs.KnownWords.{resource_of, sent_of}
use Rattle.nodes_world.proofs.CanChange.{can_apply, can_undo, told_phase}
use Rattle.nodes_world.proofs.RowsMove.{WasTold, applied_stays, commit_now, follows_moves, forgotten_stays, moved, only_prepare_votes, read_only_now, rollback_now, row_answers, shown_applied, shown_undone, undone_stays, unvoted_moves, voted_moves}
use Rattle.nodes_world.proofs.KnownTouch.{end_of, family_same, nodes_same, records_same, refers_same, replaced, replaced_is, seats_are, seats_were, turned_one, turned_still, counted_same}
use Rattle.nodes_world.proofs.KnownObeys.{Obeys, Replies, obeyed_known, obeyed_lines, reply_of, shown_told}
use Rattle.nodes_world.proofs.KnownSeats.{as_long}

-- ---- the two worlds

same_or_not : (a b : ℕ) → (a ≡ b) ⊎ (a ≢ b)
same_or_not a b = grind arith

same_place_resource : (w : World) (k key : ObjectKey) → place_of k ≡ place_of key → k.generation ≡ key.generation → resource_at w k ≡ resource_at w key
unfolding resource_at
same_place_resource w k key at number =
    ap₂ (λ (p g : ℕ). option_and_then (λ (e : FlatEnd). find (λ (z : FlatResource). z.key.generation == g) e.resources) (end_at w p)) at number

-- it stays as it is
stays_replies : (w : World) (x : NamedKey) (r : FlatResource) (request : ℕ) (answer : Said) → resource_at w x.key ≡ Some r
    → Replies w (with_sent (reply_of request answer) w) x r r (reply_of request answer)
unfolding referred node_at resource_at end_at
stays_replies w x r request answer was = record {
  names = refl;
  sends = refl;
  refers = λ to. refl;
  families = λ key. refl;
  records = λ place. refl;
  nodes = λ place s up at runs. at;
  seats_back = λ place s at. (s, at, refl);
  seats_on = λ place s at. (s, at, refl);
  turned = λ key q at. by key q at (same_or_not (place_of key) (place_of x.key)) (same_or_not key.generation x.key.generation);
  turned_on = λ key q at. (q, at, refl);
  counted = λ all. record {
    numbers = all.numbers;
    messages = λ p e is.
        let low = all.messages p e is in
        let many = length-append w.messages (reply_of request answer ∷ []) in
        omega (arith, low, many);
    short = all.short;
  };
  many = refl;
}
  where
    inner : {a b : FlatResource} → Some a ≡ Some b → a ≡ b
    inner e = cc

    by : (key : ObjectKey) (q : FlatResource) → resource_at w key ≡ Some q → ((place_of key ≡ place_of x.key) ⊎ (place_of key ≢ place_of x.key))
        → ((key.generation ≡ x.key.generation) ⊎ (key.generation ≢ x.key.generation))
        → ((key ≡ x.key → ⊥) × (resource_at w key ≡ Some q)) ⊎ ((q ≡ r) × (resource_at w key ≡ Some r))
    by key q at (inl place) (inl number) =
        let is = same_place_resource w key x.key place number ∙ was in
        inr (inner (sym at ∙ is), is)
    by key q at (inr place) number = inl ((λ own. place (ap place_of own)), at)
    by key q at (inl place) (inr number) = inl ((λ own. number (ap (λ (z : ObjectKey). z.generation) own)), at)

-- it becomes another
becomes_replies : (w : World) (x : NamedKey) (r next : FlatResource) (request : ℕ) (answer : Said) (e : FlatEnd) (at : EndIsUp w (place_of x.key) e)
    → resource_at w x.key ≡ Some r → next.key ≡ r.key
    → Replies w (replaced w (place_of x.key) at.seat e next (w.messages ++ reply_of request answer ∷ [])) x r next (reply_of request answer)
becomes_replies w x r next request answer e at was same =
    let ms = w.messages ++ reply_of request answer ∷ [] in
    record {
      names = refl;
      sends = refl;
      refers = refers_same w (place_of x.key) at.seat e next ms at.there at.up;
      families = family_same w (place_of x.key) at.seat e next ms at.there at.up;
      records = records_same w (place_of x.key) at.seat e next ms at.there at.up;
      nodes = nodes_same w (place_of x.key) at.seat e next ms at.there at.up;
      seats_back = seats_were w (place_of x.key) at.seat e next ms at.there at.up;
      seats_on = seats_are w (place_of x.key) at.seat e next ms at.there at.up;
      turned = turned_one w (place_of x.key) at.seat e next ms at.there at.up x.key r refl was same;
      turned_on = turned_still w (place_of x.key) at.seat e next ms at.there at.up x.key r refl was same;
      counted = counted_same w (place_of x.key) at.seat e next ms at.there at.up
          (let many = length-append w.messages (reply_of request answer ∷ []) in omega (arith, many));
      many = as_long w.seats (place_of x.key) (record at.seat { server = OfEnd (Some (with_resource next e)) });
    }

-- ---- states

moved_applied : (n : Option State) (s : State) → option_and_then shown_state n ≡ Some shown.Applied → moved n s ≡ states.Applied
moved_applied None s is = absurd cc
moved_applied (Some m) s is = shown_applied m is

moved_undone : (n : Option State) (s : State) → option_and_then shown_state n ≡ Some shown.Undone → moved n s ≡ states.Undone
moved_undone None s is = absurd cc
moved_undone (Some m) s is = shown_undone m is

applied_by : (n : Option State) (s : State) → moved n s ≡ states.Applied → (s ≡ states.Applied) ⊎ (option_and_then shown_state n ≡ Some shown.Applied)
applied_by None s is = inl is
applied_by (Some m) s is = inr (ap shown_state is)

undone_by : (n : Option State) (s : State) → moved n s ≡ states.Undone → (s ≡ states.Undone) ⊎ (option_and_then shown_state n ≡ Some shown.Undone)
undone_by None s is = inl is
undone_by (Some m) s is = inr (ap shown_state is)

next_applied : (n : Option State) → option_and_then shown_state n ≡ Some shown.Applied → n ≡ Some states.Applied
next_applied None is = absurd cc
next_applied (Some m) is = ap (λ (z : State). Some z) (shown_applied m is)

next_undone : (n : Option State) → option_and_then shown_state n ≡ Some shown.Undone → n ≡ Some states.Undone
next_undone None is = absurd cc
next_undone (Some m) is = ap (λ (z : State). Some z) (shown_undone m is)

stays_at : (word : EndWord) (s t : State) → (row word t).next ≡ None → s ≡ t → moved (row word s).next s ≡ t
stays_at word s t stays is = ap (λ (z : State). moved (row word z).next z) is ∙ ap (λ (n : Option State). moved n t) stays

some_word : {a b : EndWord} → Some a ≡ Some b → a ≡ b
some_word e = cc

-- it never chose by itself
not_chosen : (w : World) (name : List ℕ) (h : List Line) (r : FlatResource) → ResourceIsKnown w h name r → r.state ≡ states.ChoseCommit → ⊥
not_chosen w name h r old is = subst (λ (z : State). HasNotVoted z name h) is (old.none by)
  where
    by : (vote : Vote) → HasAnswered w name vote → ⊥
    by VoteCommit a = subst (λ (z : State). HasVotedCommit z name h) is (old.commit a)
    by VoteReadOnly a = let e : states.ChoseCommit ≡ states.Forgotten = sym is ∙ old.read_only a in absurd cc
    by VoteRollback a = let e : states.ChoseCommit ≡ states.Undone = sym is ∙ old.rollback a in absurd cc

not_turned : (w : World) (name : List ℕ) (h : List Line) (r : FlatResource) → ResourceIsKnown w h name r → r.state ≡ states.ChoseRollback → ⊥
not_turned w name h r old is = subst (λ (z : State). HasNotVoted z name h) is (old.none by)
  where
    by : (vote : Vote) → HasAnswered w name vote → ⊥
    by VoteCommit a = subst (λ (z : State). HasVotedCommit z name h) is (old.commit a)
    by VoteReadOnly a = let e : states.ChoseRollback ≡ states.Forgotten = sym is ∙ old.read_only a in absurd cc
    by VoteRollback a = let e : states.ChoseRollback ≡ states.Undone = sym is ∙ old.rollback a in absurd cc

module _ (w : World) (told : List Told) (k : Known w told) (is_safe : AllowedIsSafe) (nth place : ℕ) (o : Outward) (asked : IsWord w nth place o) (x : NamedKey)
    (refers : referred w o.to ≡ Some x) (r : FlatResource) (was : resource_at w x.key ≡ Some r) (old : ResourceIsKnown w (lines_of told) x.name r) where
  -- ---- a word of its table

  module _ (word : EndWord) (means : told_word o.word ≡ Some word) (answer : Said) (says : answer_of_row (row word r.state).said ≡ Some answer) where
    was_told : WasTold word x.name (lines_of told)
    was_told = by word means
      where
        by : (word : EndWord) → told_word o.word ≡ Some word → WasTold word x.name (lines_of told)
        by tolds.Prepare is = tt
        by tolds.Commit is = sent_of w told k place o phase_words.Commit x (nth, asked) (told_phase o.word phase_words.Commit is) refers
        by tolds.Rollback is = sent_of w told k place o phase_words.Rollback x (nth, asked) (told_phase o.word phase_words.Rollback is) refers
        by tolds.CommitOnePhase is = sent_of w told k place o phase_words.CommitOnePhase x (nth, asked) (told_phase o.word phase_words.CommitOnePhase is) refers
        by tolds.Forget is = tt

    prepared : o.word ≡ words.Phase phase_words.Prepare → word ≡ tolds.Prepare
    prepared is = some_word (sym means ∙ ap told_word is)

    votes : (vote : Vote) → o.word ≡ words.Phase phase_words.Prepare → answer ≡ said.Voted vote → answer_of_row (row tolds.Prepare r.state).said ≡ Some (said.Voted vote)
    votes vote is voted = ap (λ (z : EndWord). answer_of_row (row z r.state).said) (sym (prepared is)) ∙ says ∙ ap (λ (z : Said). Some z) voted

    at_prepare : (P : State → Type 0) → o.word ≡ words.Phase phase_words.Prepare → P (moved (row tolds.Prepare r.state).next r.state) → P (moved (row word r.state).next r.state)
    at_prepare P is holds = subst (λ (z : EndWord). P (moved (row z r.state).next r.state)) (sym (prepared is)) holds

    changes_rightly : (t : ResourceState) → option_and_then shown_state (row word r.state).next ≡ Some t → CanChange t x.name (lines_of told)
    changes_rightly shown.Applied is = can_apply w told k is_safe place o x r word (nth, asked) refers was means (next_applied (row word r.state).next is)
    changes_rightly shown.Undone is = can_undo w told k is_safe place o x r word (nth, asked) refers was means (next_undone (row word r.state).next is)
    changes_rightly _ is = tt

    obeys_word_known : Obeys (lines_of told) x.name r.state (moved (row word r.state).next r.state) o.word answer (option_and_then shown_state (row word r.state).next)
    obeys_word_known = record {
      commit = voted_moves word r.state x.name (lines_of told) was_told;
      commit_now = λ is voted. at_prepare (λ (z : State). HasVotedCommit z x.name (lines_of told)) is
          (commit_now r.state x.name (lines_of told) (not_chosen w x.name (lines_of told) r old) (not_turned w x.name (lines_of told) r old) old.follows (votes VoteCommit is voted));
      read_only = stays_at word r.state states.Forgotten (forgotten_stays word);
      read_only_now = λ is voted. at_prepare (λ (z : State). z ≡ states.Forgotten) is (read_only_now r.state (votes VoteReadOnly is voted));
      rollback = stays_at word r.state states.Undone (undone_stays word);
      rollback_now = λ is voted. at_prepare (λ (z : State). z ≡ states.Undone) is (rollback_now r.state (votes VoteRollback is voted));
      none = λ unvoted not_before. unvoted_moves word r.state x.name (lines_of told) was_told not_before
          (λ vote voted. unvoted (is_prepare (only_prepare_votes word r.state vote voted)) vote (said_inner (sym says ∙ voted)));
      follows = follows_moves word r.state x.name (lines_of told) was_told old.follows
          (λ undo. (can_undo w told k is_safe place o x r word (nth, asked) refers was means undo).not_told);
      voter = λ vote voted. is_prepare (only_prepare_votes word r.state vote (says ∙ ap (λ (z : Said). Some z) voted));
      applied_on = stays_at word r.state states.Applied (applied_stays word);
      applied_shown = moved_applied (row word r.state).next r.state;
      applied_now = applied_by (row word r.state).next r.state;
      undone_shown = moved_undone (row word r.state).next r.state;
      undone_now = undone_by (row word r.state).next r.state;
      may = changes_rightly;
    }
      where
        said_inner : {a b : Said} → Some a ≡ Some b → a ≡ b
        said_inner e = cc

        is_prepare : word ≡ tolds.Prepare → o.word ≡ words.Phase phase_words.Prepare
        is_prepare is = by o.word (means ∙ ap (λ (z : EndWord). Some z) is)
          where
            by : (z : Word) → told_word z ≡ Some tolds.Prepare → z ≡ words.Phase phase_words.Prepare
            by (words.Phase phase_words.Prepare) e = refl
            by _ e = absurd cc

    -- the two ways that a row goes
    by_next : (n : Option State) → (row word r.state).next ≡ n
        → Known (moves x r n w ▹ answers (nth + 1) (Some answer)).world (told ++ (moves x r n w ▹ answers (nth + 1) (Some answer)).lines)
    unfolding replies
    by_next None is =
        obeyed_known w (with_sent (reply_of (nth + 1) answer) w) told k nth place o asked x refers r r was answer None (next_message w)
        (stays_replies w x r (nth + 1) answer was)
        (subst (λ (n : Option State). Obeys (lines_of told) x.name r.state (moved n r.state) o.word answer (option_and_then shown_state n)) is obeys_word_known)
    by_next (Some m) is =
        let e = end_of w x.key r was in
        let at = end_is_up w (place_of x.key) e.0 e.1 in
        let next : FlatResource = record r { state = m } in
        let number = next_message (state_lines x.name (shown_state m) (with_resource_at x.key next w)).world in
        let known_then = obeyed_known w (replaced w (place_of x.key) at.seat e.0 next (w.messages ++ reply_of (nth + 1) answer ∷ [])) told k nth place o asked x refers r next was
        answer (shown_state m) number (becomes_replies w x r next (nth + 1) answer e.0 at was refl)
        (subst (λ (n : Option State). Obeys (lines_of told) x.name r.state (moved n r.state) o.word answer (option_and_then shown_state n)) is obeys_word_known) in
        subst (λ (d : Done). Known (with_sent (reply_of (nth + 1) answer) d.world) (told ++ (d.lines ++ tell.Back number (nth + 1) answer ∷ [])))
        (sym (shown_done (shown_state m) x.name (with_resource_at x.key next w)))
        (subst (λ (v : World). Known (with_sent (reply_of (nth + 1) answer) v) (told ++ obeyed_lines x.name (shown_state m) number (nth + 1) answer))
        (sym (replaced_is w x.key next e.0 at e.1)) known_then)
      where
        shown_done : (shows : Option ResourceState) (name : List ℕ) (v : World) → state_lines name shows v ≡ record { world = v; lines = shown_told name shows }
        shown_done (Some s) name v = refl
        shown_done None name v = refl

    row_known : Known (obeys_row (nth + 1) x r (row word r.state) w).world (told ++ (obeys_row (nth + 1) x r (row word r.state) w).lines)
    row_known =
        subst (λ (z : Option Said). Known (moves x r (row word r.state).next w ▹ answers (nth + 1) z).world (told ++ (moves x r (row word r.state).next w ▹ answers (nth + 1) z).lines))
        (sym says) (by_next (row word r.state).next refl)

  -- ---- any other word

  obeys_plainly : told_word o.word ≡ None → (answer : Said) → ((vote : Vote) → answer ≡ said.Voted vote → ⊥)
      → Obeys (lines_of told) x.name r.state r.state o.word answer None
  obeys_plainly other answer no_vote = record {
    commit = λ voted. voted;
    commit_now = λ is voted. absurd (none_of (words.Phase phase_words.Prepare) tolds.Prepare is refl);
    read_only = λ is. is;
    read_only_now = λ is voted. absurd (none_of (words.Phase phase_words.Prepare) tolds.Prepare is refl);
    rollback = λ is. is;
    rollback_now = λ is voted. absurd (none_of (words.Phase phase_words.Prepare) tolds.Prepare is refl);
    none = λ unvoted before. before;
    follows = old.follows;
    voter = λ vote is. absurd (no_vote vote is);
    applied_on = λ is. is;
    applied_shown = λ is. absurd (no_state is);
    applied_now = λ is. inl is;
    undone_shown = λ is. absurd (no_state is);
    undone_now = λ is. inl is;
    may = λ t is. absurd (no_state is);
  }
    where
      none_of : (word : Word) (t : EndWord) → o.word ≡ word → told_word word ≡ Some t → ⊥
      none_of word t is some = no (sym (sym other ∙ ap told_word is ∙ some))
        where
          no : {a : EndWord} → Some a ≡ None → ⊥
          no e = absurd cc

      no_state : {t : ResourceState} → None ≡ Some t → ⊥
      no_state e = absurd cc

  plainly_known : told_word o.word ≡ None → (answer : Said) → ((vote : Vote) → answer ≡ said.Voted vote → ⊥) → Known (replies (nth + 1) answer w).world (told ++ (replies (nth + 1) answer w).lines)
  unfolding replies
  plainly_known other answer no_vote =
      obeyed_known w (with_sent (reply_of (nth + 1) answer) w) told k nth place o asked x refers r r was answer None (next_message w)
      (stays_replies w x r (nth + 1) answer was) (obeys_plainly other answer no_vote)

  answered_row : (word : EndWord) → told_word o.word ≡ Some word → (a : Option Said) → answer_of_row (row word r.state).said ≡ a → IsTrue (is_some a)
      → Known (obeys_row (nth + 1) x r (row word r.state) w).world (told ++ (obeys_row (nth + 1) x r (row word r.state) w).lines)
  answered_row word means (Some answer) says is = row_known word means answer says
  answered_row word means None says is = absurd cc

  by_word : (z : Option EndWord) → told_word o.word ≡ z → Known (obeys_word z (nth + 1) x r w).world (told ++ (obeys_word z (nth + 1) x r w).lines)
  by_word (Some word) means = answered_row word means (answer_of_row (row word r.state).said) refl (row_answers word r.state)
  by_word None other = plainly_known other (if is_forgotten r.state then said.ObjectNotExist else said.Plain) (no_vote (is_forgotten r.state))
    where
      no_vote : (b : Bool) (vote : Vote) → cond b said.ObjectNotExist said.Plain ≡ said.Voted vote → ⊥
      no_vote true vote is = absurd cc
      no_vote false vote is = absurd cc

-- a word comes to whom it goes
pub word_known : (w : World) (told : List Told) → Known w told → AllowedIsSafe → (nth place : ℕ) (o : Outward) → IsWord w nth place o
    → Known (obeys (nth + 1) o w).world (told ++ (obeys (nth + 1) o w).lines)
unfolding obeys
word_known w told k is_safe nth place o asked = by (referred w o.to) refl (k.words.named place o (nth, asked))
  where
    at_resource : (x : NamedKey) → referred w o.to ≡ Some x → Known (obeys_as (resource_at w x.key) (nth + 1) x o.word w).world (told ++ (obeys_as (resource_at w x.key) (nth + 1) x o.word w).lines)
    at_resource x refers =
        let at = resource_of w told k o.to x refers in
        subst (λ (q : Option FlatResource). Known (obeys_as q (nth + 1) x o.word w).world (told ++ (obeys_as q (nth + 1) x o.word w).lines)) (sym at.1)
        (by_word w told k is_safe nth place o asked x refers at.0 at.1 at.2 (told_word o.word) refl)

    by : (q : Option NamedKey) → referred w o.to ≡ q → IsTrue (is_some q)
        → Known (elim q as (λ _. Done) [ Some x ↦ obeys_as (resource_at w x.key) (nth + 1) x o.word w | None ↦ nothing w ]).world
        (told ++ (elim q as (λ _. Done) [ Some x ↦ obeys_as (resource_at w x.key) (nth + 1) x o.word w | None ↦ nothing w ]).lines)
    by (Some x) refers is = at_resource x refers
    by None refers is = absurd cc
