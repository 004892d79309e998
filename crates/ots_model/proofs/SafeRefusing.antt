-- What makes a short list unsafe.
use Rattle.std.proofs.Common.{◌≡◌, ℕ, false, inl, inr, List, [], ◌∷◌, ◌++◌, Some, refl, sym, ⊎_elim}
use Rattle.std.proofs.lemmas.List.{append-nil}
use Rattle.ots_model.specs.declared.completion.Word.{Word}
use Rattle.ots_model.specs.declared.completion.Word.TheVariants as words
use Rattle.ots_model.specs.declared.line.Line.{Line}
use Rattle.ots_model.specs.declared.line.Line.TheVariants as lines
use Rattle.ots_model.specs.Safe as safe
use Rattle.ots_model.specs.Safe.{IsUpFrom, TakesPart, IsRegistered, IsUnder, IsDecided, IsCommittedUp, IsForParticipants, DoAgree, AreSafe}
use Rattle.ots_model.specs.SafeExamples.{node, one, tell, applied}
use Rattle.ots_model.proofs.SafeTests.{line_at, any, makes_family, ends, tells_commit, learns, decides, votes_for, not_family, not_ended, not_told_commit, not_learnt, not_recorded, not_consented, registered_at, top_at, imported_at}

pub agrees : (all : List Line) → AreSafe all → DoAgree all
agrees all s = s all [] (sym (append-nil all))

-- commit is told to the first resource, with those lines before it and these behind it
abbrev pub commits_one : List Line → List Line → List Line
commits_one before behind = before ++ (tell words.Commit ∷ behind)

pub undecided : (before behind : List Line) (f d : List ℕ) → IsUnder one f d (commits_one before behind)
    → ¬ (IsDecided f d before (commits_one before behind)) → ¬ (AreSafe (commits_one before behind))
undecided before behind f d under undone s =
    undone (((agrees (commits_one before behind) s).by_decision before behind 1 one refl).decided f d under)

-- without the decider's record
pub unrecorded : (before behind : List Line) (f d : List ℕ) → IsUnder one f d (commits_one before behind) → any (decides d) before ≡ false
    → ¬ (AreSafe (commits_one before behind))
unrecorded before behind f d under none = undecided before behind f d under (λ decided. not_recorded d before none decided.recorded)

-- with the vote of a participant open, of a family between
pub vote_open : (before behind : List Line) (f d k p : List ℕ) → IsUnder one f d (commits_one before behind)
    → IsUpFrom (commits_one before behind) f k → IsUpFrom (commits_one before behind) k d → TakesPart p k (commits_one before behind)
    → any (votes_for p) before ≡ false → ¬ (AreSafe (commits_one before behind))
vote_open before behind f d k p under up below takes none =
    undecided before behind f d under (λ decided. not_consented p before none (decided.consented k p up below takes))

-- who takes part
pub part_of_top : (n m : ℕ) (h : List Line) (g t at : List ℕ) → line_at n h ≡ Some (lines.Reg g t at) → line_at m h ≡ Some (lines.Top t node) → TakesPart g t h
part_of_top n m h g t at r e = (t, registered_at n h g t at r, safe.IsJoined.own (inl (top_at m h t node e)))

pub part_of_imported : (n m : ℕ) (h : List Line) (g t u at : List ℕ) → line_at n h ≡ Some (lines.Reg g t at) → line_at m h ≡ Some (lines.Imp t u node) → TakesPart g t h
part_of_imported n m h g t u at r e = (t, registered_at n h g t at r, safe.IsJoined.own (inr (u, imported_at m h t u node e)))

-- a word for participants that is told below what is active
pub unready : (before behind : List Line) (word : Word) (t : List ℕ) → IsForParticipants word → IsRegistered one t (before ++ (tell word ∷ behind))
    → ¬ (IsCommittedUp (before ++ (tell word ∷ behind)) before t) → ¬ (AreSafe (before ++ (tell word ∷ behind)))
unready before behind word t for registered active s =
    active (((agrees (before ++ (tell word ∷ behind)) s).to_participants before behind 1 word one for refl).up t registered)

pub still_active : (all before : List Line) (t : List ℕ) → any (makes_family t) all ≡ false → any (ends t) before ≡ false → ¬ (IsCommittedUp all before t)
still_active all before _ no_family none (safe.IsCommittedUp.own t family) = not_family t all no_family family
still_active all before _ no_family none (safe.IsCommittedUp.committed t parent done s up) = not_ended t before none done

-- a resource that applies untold
pub never_told : (before behind : List Line) → any (tells_commit one) before ≡ false → any (learns one) before ≡ false → ¬ (AreSafe (before ++ (applied ∷ behind)))
never_told before behind untold unlearnt s =
    ⊎_elim (not_told_commit one before untold) (not_learnt one before unlearnt) ((agrees (before ++ (applied ∷ behind)) s).kept.told_first before behind one refl)
