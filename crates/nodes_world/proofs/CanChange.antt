-- By what is known, a resource may store its updates, or drop them, where a word that came to it makes it do so.
use Rattle.std.proofs.Common.{◌≡◌, ◌⊎◌, inl, inr, ℕ, List, Some, refl, sym, ap, subst, ◌∙◌}
use Rattle.ots_model.specs.Safe.{IsSent, IsToldCommit}
use Rattle.ots_model.specs.SafeByLine.{AllowedIsSafe, CanApply, CanUndo}
use Rattle.ots_model.specs.declared.completion.Word.{Word as Phase}
use Rattle.ots_model.specs.declared.completion.Word.TheVariants as phase_words
use Rattle.ots_model.specs.declared.tree.Outward.{Outward}
use Rattle.ots_model.specs.declared.tree.Word.{Word}
use Rattle.ots_model.specs.declared.tree.Word.TheVariants as words
use Rattle.resource_end.specs.Table.{row}
use Rattle.resource_end.specs.declared.state.State.{State}
use Rattle.resource_end.specs.declared.state.State.TheVariants as states
use Rattle.resource_end.specs.declared.state.Word.{Word as EndWord}
use Rattle.resource_end.specs.declared.state.Word.TheVariants as tolds
use Rattle.nodes_world.specs.Agreement.{HasSent}
use Rattle.nodes_world.specs.AgreementInside.{Known, HasVotedCommit, phase_of}
use Rattle.nodes_world.specs.Ends.{told_word}
use Rattle.nodes_world.specs.Told.{Told}
use Rattle.nodes_world.specs.World.{World, FlatResource, NamedKey, referred, resource_at}
use Rattle.nodes_world.proofs.KnownLines.{lines_of, one_way}
use Rattle.nodes_world.proofs.KnownWords.{resource_of, sent_of, told_commit, voter_stands}

-- ---- the words that change a resource

applies_by : (word : EndWord) (s : State) → (row word s).next ≡ Some states.Applied → ((word ≡ tolds.Commit) ⊎ (word ≡ tolds.CommitOnePhase)) × (s ≡ states.Undone → ⊥)
applies_by tolds.Commit states.Prepared is = (inl refl, λ e. absurd cc)
applies_by tolds.Commit states.ChoseCommit is = (inl refl, λ e. absurd cc)
applies_by tolds.CommitOnePhase states.Working is = (inr refl, λ e. absurd cc)
applies_by tolds.CommitOnePhase states.Prepared is = (inr refl, λ e. absurd cc)
applies_by tolds.CommitOnePhase states.ChoseCommit is = (inr refl, λ e. absurd cc)
applies_by tolds.Prepare states.Fresh is = absurd cc
applies_by tolds.Rollback states.Fresh is = absurd cc
applies_by tolds.Forget states.Fresh is = absurd cc
applies_by _ _ is = absurd cc

undoes_by : (word : EndWord) (s : State) → (row word s).next ≡ Some states.Undone → ((word ≡ tolds.Rollback) ⊎ (s ≡ states.Refused)) × (s ≡ states.Applied → ⊥)
undoes_by tolds.Prepare states.Refused is = (inr refl, λ e. absurd cc)
undoes_by tolds.Rollback states.Fresh is = (inl refl, λ e. absurd cc)
undoes_by tolds.Rollback states.Working is = (inl refl, λ e. absurd cc)
undoes_by tolds.Rollback states.Refused is = (inl refl, λ e. absurd cc)
undoes_by tolds.Rollback states.Prepared is = (inl refl, λ e. absurd cc)
undoes_by tolds.Rollback states.ChoseRollback is = (inl refl, λ e. absurd cc)
undoes_by tolds.CommitOnePhase states.Refused is = (inr refl, λ e. absurd cc)
undoes_by tolds.Commit states.Fresh is = absurd cc
undoes_by tolds.Forget states.Fresh is = absurd cc
undoes_by _ _ is = absurd cc

-- a word of a resource's table is one of the two phases, but for forget
abbrev pub end_word : Phase → EndWord
end_word phase_words.Prepare = tolds.Prepare
end_word phase_words.Commit = tolds.Commit
end_word phase_words.CommitOnePhase = tolds.CommitOnePhase
end_word phase_words.Rollback = tolds.Rollback

some_word : {a b : EndWord} → Some a ≡ Some b → a ≡ b
some_word is = cc

pub told_phase : (word : Word) (phase : Phase) → told_word word ≡ Some (end_word phase) → phase_of word ≡ Some phase
told_phase (words.Phase phase_words.Prepare) phase_words.Prepare is = refl
told_phase (words.Phase phase_words.Commit) phase_words.Commit is = refl
told_phase (words.Phase phase_words.CommitOnePhase) phase_words.CommitOnePhase is = refl
told_phase (words.Phase phase_words.Rollback) phase_words.Rollback is = refl
told_phase words.Forget phase_words.Prepare is = absurd cc
told_phase _ _ is = absurd cc

module _ (w : World) (told : List Told) (k : Known w told) (is_safe : AllowedIsSafe) where
  module _ (place : ℕ) (o : Outward) (x : NamedKey) (r : FlatResource) (word : EndWord) (sent : HasSent w place o) (refers : referred w o.to ≡ Some x)
      (there : resource_at w x.key ≡ Some r) (means : told_word o.word ≡ Some word) where
    told_as : (phase : Phase) → word ≡ end_word phase → IsSent phase x.name (lines_of told)
    told_as phase is = sent_of w told k place o phase x sent (told_phase o.word phase (means ∙ ap (λ (e : EndWord). Some e) is)) refers

    same_resource : (q : FlatResource) → resource_at w x.key ≡ Some q → q ≡ r
    same_resource q e = inner (sym e ∙ there)
      where
        inner : {a b : FlatResource} → Some a ≡ Some b → a ≡ b
        inner e = cc

    told_commit_word : ((word ≡ tolds.Commit) ⊎ (word ≡ tolds.CommitOnePhase)) → IsToldCommit x.name (lines_of told)
    told_commit_word (inl is) = inl (told_as phase_words.Commit is)
    told_commit_word (inr is) = inr (told_as phase_words.CommitOnePhase is)

    -- it may store them where a commit word came
    pub can_apply : (row word r.state).next ≡ Some states.Applied → CanApply x.name (lines_of told)
    can_apply next =
        let by = applies_by word r.state next in
        let commit = told_commit_word by.0 in
        let at = resource_of w told k o.to x refers in
        let same : at.0.state ≡ r.state = ap (λ (q : FlatResource). q.state) (same_resource at.0 at.1) in
        record {
          not_undone = λ shows. by.1 (sym same ∙ at.2.undone.0 shows);
          not_told = one_way w told k is_safe x.name commit;
          told = inl commit;
        }

    committed_not_refused : IsSent phase_words.Commit x.name (lines_of told) → ((word ≡ tolds.Rollback) ⊎ (r.state ≡ states.Refused)) → ⊥
    committed_not_refused commit (inl is) = one_way w told k is_safe x.name (inl commit) (told_as phase_words.Rollback is)
    committed_not_refused commit (inr is) =
        let at = resource_of w told k o.to x refers in
        let same : at.0.state ≡ r.state = ap (λ (q : FlatResource). q.state) (same_resource at.0 at.1) in
        let voted = (told_commit w told k x.name commit).2 in
        subst (λ (s : State). HasVotedCommit s x.name (lines_of told)) (same ∙ is) (voter_stands w told k x.name at.0 at.2 voted)

    -- it may drop them where another word came, or it refuses
    pub can_undo : (row word r.state).next ≡ Some states.Undone → CanUndo x.name (lines_of told)
    can_undo next =
        let by = undoes_by word r.state next in
        let at = resource_of w told k o.to x refers in
        let same : at.0.state ≡ r.state = ap (λ (q : FlatResource). q.state) (same_resource at.0 at.1) in
        record { not_applied = λ shows. by.1 (sym same ∙ at.2.applied.0 shows); not_told = λ commit. committed_not_refused commit by.0 }
