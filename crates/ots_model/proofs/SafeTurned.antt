-- What is allowed line by line, the newest first, is safe in the order of printing.
use Rattle.std.proofs.Common.{◌≡◌, ℕ, ◌⊎◌, inl, inr, List, [], ◌∷◌, ◌++◌, reverse, append_assoc, sym, ap, ◌∙◌, subst}
use Rattle.std.proofs.lemmas.List.{reverse-append, reverse-reverse}
use Rattle.ots_model.specs.declared.completion.Word.{Word}
use Rattle.ots_model.specs.declared.completion.Word.TheVariants as words
use Rattle.ots_model.specs.declared.line.ResourceState.TheVariants as states
use Rattle.ots_model.specs.declared.line.Decision.TheVariants as decisions
use Rattle.ots_model.specs.declared.line.Line.{Line}
use Rattle.ots_model.specs.declared.line.Line.TheVariants as lines
use Rattle.ots_model.specs.Safe.{Stands, IsToldCommit, IsForParticipants, IsByDecision, IsToParticipants, IsKept, DoAgree}
use Rattle.ots_model.specs.SafeByLine.{IsCommittedBy, AreAllowed, AllowedIsSafe}
use Rattle.ots_model.proofs.SafeCarried.{is_registered, is_committed_up}
use Rattle.ots_model.proofs.SafeNewest.{Any}
use Rattle.ots_model.proofs.SafeAlike.{AreAmong, AreAlike, alike_among, alike_back, under_alike, decided_alike}
use Rattle.ots_model.proofs.SafeAllowed.{stands_at, allowed_at, due_at, due_whole, committed_whole, one_way, one_state, not_undone, not_applied}

-- a list and its reverse have the same lines
turn_one : (x : Line) (xs : List Line) → reverse (x ∷ xs) ≡ reverse xs ++ (x ∷ [])
turn_one x xs = reverse-append (x ∷ []) xs

in_front : (a b : List Line) (line : Line) → Stands line a → Stands line (a ++ b)
in_front [] b line s = absurd s
in_front (x ∷ a) b line (inl e) = inl e
in_front (x ∷ a) b line (inr s) = inr (in_front a b line s)

among_turned : (xs : List Line) → AreAmong xs (reverse xs)
among_turned [] line s = absurd s
among_turned (x ∷ xs) line (inl e) = subst (Stands line) (sym (turn_one x xs)) (subst (λ (y : Line). Stands y (reverse xs ++ (x ∷ []))) e (stands_at (reverse xs) [] x))
among_turned (x ∷ xs) line (inr s) = subst (Stands line) (sym (turn_one x xs)) (in_front (reverse xs) (x ∷ []) line (among_turned xs line s))

among_back : (xs : List Line) → AreAmong (reverse xs) xs
among_back xs line s = subst (Stands line) (reverse-reverse xs) (among_turned (reverse xs) line s)

-- what stands before a line stands behind it in the reverse
turn_at : (before behind : List Line) (x : Line) → reverse (before ++ (x ∷ behind)) ≡ reverse behind ++ (x ∷ reverse before)
turn_at before behind x =
    let e = reverse-append before (x ∷ behind) in
    let f = ap (λ (l : List Line). l ++ reverse before) (turn_one x behind) in
    let k = append_assoc (reverse behind) (x ∷ []) (reverse before) in
    e ∙ f ∙ k

-- where the lines are split, the older are allowed and say what all of them say
record Split (all before : List Line) (x : Line) (h : List Line) : Type 0 where
  allowed : AreAllowed (h ++ (x ∷ reverse before))
  alike : AreAlike (h ++ (x ∷ reverse before)) all

split : (all before behind : List Line) (x : Line) → AreAllowed (reverse all) → all ≡ before ++ (x ∷ behind) → Split all before x (reverse behind)
split all before behind x a e =
    let turned : reverse all ≡ reverse behind ++ (x ∷ reverse before) = ap reverse e ∙ turn_at before behind x in
    record {
      allowed = subst AreAllowed turned a;
      alike = subst (λ (h : List Line). AreAlike h all) turned (alike_among (reverse all) all (among_back all) (among_turned all));
    }

by_decision : (all : List Line) → AreAllowed (reverse all) → IsByDecision all
by_decision all a before behind message g e =
    let x : Line = lines.Send message words.Commit g in
    let h = reverse behind ++ (x ∷ reverse before) in
    let s = split all before behind x a e in
    let due = due_whole h (reverse before) g s.allowed (due_at (reverse behind) (reverse before) message g s.allowed) in
    record {
      of_family = (due.of_family.0, due.of_family.1, under_alike h all g due.of_family.0 due.of_family.1 s.alike due.of_family.2);
      decided = λ f d u. decided_alike h all (reverse before) before f d s.alike (among_back before) (due.decided f d (under_alike all h g f d (alike_back h all s.alike) u));
    }

committed_by : (older : List Line) (message : ℕ) (word : Word) (g : List ℕ) → IsForParticipants word → AreAllowed (lines.Send message word g ∷ older) → IsCommittedBy g older
committed_by older message words.Prepare g for a = a.0
committed_by older message words.Commit g for a = a.0.committed
committed_by older message words.CommitOnePhase g for a = a.0.committed
committed_by older message words.Rollback g for a = absurd for

older_allowed : (later h : List Line) → AreAllowed (later ++ h) → AreAllowed h
older_allowed [] h a = a
older_allowed (x ∷ later) h a = older_allowed later h a.1

to_participants : (all : List Line) → AreAllowed (reverse all) → IsToParticipants all
to_participants all a before behind message word g for e =
    let x : Line = lines.Send message word g in
    let h = reverse behind ++ (x ∷ reverse before) in
    let s = split all before behind x a e in
    let by = committed_by (reverse before) message word g for (older_allowed (reverse behind) (x ∷ reverse before) s.allowed) in
    let c = committed_whole (reverse behind) (reverse before) x g s.allowed by in
    record {
      registered = (c.registered.0, is_registered h all g c.registered.0 s.alike.registrations_there c.registered.1);
      up = λ t registered. is_committed_up Any h all (reverse before) before t s.alike.there (λ u done. among_back before _ done) tt
          (c.up t (is_registered all h g t s.alike.registrations_back registered));
    }

told_back : (before : List Line) (g : List ℕ) → IsToldCommit g (reverse before) ⊎ Stands (lines.Learn g decisions.Commit) (reverse before) → IsToldCommit g before ⊎ Stands (lines.Learn g decisions.Commit) before
told_back before g (inl (inl (m, s))) = inl (inl (m, among_back before _ s))
told_back before g (inl (inr (m, s))) = inl (inr (m, among_back before _ s))
told_back before g (inr s) = inr (among_back before _ s)

kept : (all : List Line) → AreAllowed (reverse all) → IsKept all
kept all a = record {
  one_state = λ g s r. one_state (reverse all) g a (among_turned all _ s) (among_turned all _ r);
  not_undone = λ g (m, s) r. not_undone (reverse all) g a (m, among_turned all _ s) (among_turned all _ r);
  not_applied = λ g (m, s) r. not_applied (reverse all) g a (m, among_turned all _ s) (among_turned all _ r);
  told_first = λ before behind g e.
      let x : Line = lines.State g states.Applied in
      told_back before g ((allowed_at (reverse behind) (reverse before) x ((split all before behind x a e).allowed)).told);
}

told_turned : (all : List Line) (g : List ℕ) → IsToldCommit g all → IsToldCommit g (reverse all)
told_turned all g (inl (m, s)) = inl (m, among_turned all _ s)
told_turned all g (inr (m, s)) = inr (m, among_turned all _ s)

agree : (all : List Line) → AreAllowed (reverse all) → DoAgree all
agree all a = record {
  one_way = λ g s (m, r). one_way (reverse all) g a (told_turned all g s) (m, among_turned all _ r);
  by_decision = by_decision all a;
  to_participants = to_participants all a;
  kept = kept all a;
}

pub allowed_is_safe : AllowedIsSafe
allowed_is_safe h a front behind e =
    let turned : h ≡ reverse behind ++ reverse front = sym (reverse-reverse h) ∙ (ap reverse e ∙ reverse-append front behind) in
    agree front (older_allowed (reverse behind) (reverse front) (subst AreAllowed turned a))
