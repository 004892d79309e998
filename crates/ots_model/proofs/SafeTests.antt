-- What is plain to see in a short list of lines.
use Rattle.std.proofs.Common.{◌≡◌, ℕ, zero, suc, Bool, true, false, ◌||◌, eqb, inl, inr, List, [], ◌∷◌, Option, Some, None, refl, sym, ap, ◌∙◌, subst}
use Rattle.std.proofs.lemmas.Bool.{eq-eqb, or_left, or_right}
use Rattle.ots_model.specs.declared.completion.Vote.TheVariants.{VoteCommit, VoteReadOnly}
use Rattle.ots_model.specs.declared.completion.Word.TheVariants as words
use Rattle.ots_model.specs.declared.completion.Ground.TheVariants.{Record}
use Rattle.ots_model.specs.declared.completion.Outcome.TheVariants as outcomes
use Rattle.ots_model.specs.declared.line.ResourceState.TheVariants as states
use Rattle.ots_model.specs.declared.line.Decision.TheVariants as decisions
use Rattle.ots_model.specs.declared.line.Line.{Line}
use Rattle.ots_model.specs.declared.line.Line.TheVariants as lines
use Rattle.ots_model.specs.Safe as safe
use Rattle.ots_model.specs.Safe.{Stands, IsSent, IsToldCommit, IsToldRollback, IsRegistered, IsTop, IsImported, IsFamily, IsJoined, DecidesAlone, HasConsented, IsUpFrom}
use Rattle.ots_model.specs.SafeByLine.{IsTold, IsNew, CanRegister}

-- the line at a place
abbrev pub line_at : ℕ → List Line → Option Line
line_at n [] = None
line_at zero (x ∷ h) = Some x
line_at (suc n) (x ∷ h) = line_at n h

pub stands : (n : ℕ) (h : List Line) (line : Line) → line_at n h ≡ Some line → Stands line h
stands n [] line e = absurd (cc)
stands zero (x ∷ h) line e = inl (cc)
stands (suc n) (x ∷ h) line e = inr (stands n h line e)

-- names that begin alike; those of the examples have one letter
abbrev pub initial : List ℕ → ℕ
initial [] = 0
initial (x ∷ xs) = x

abbrev pub same : List ℕ → List ℕ → Bool
same a b = eqb (initial a) (initial b)

same_itself : (a : List ℕ) → same a a ≡ true
same_itself a = eq-eqb (initial a) (initial a) refl

-- some line passes the test
abbrev pub any : (Line → Bool) → List Line → Bool
any test [] = false
any test (x ∷ h) = test x || any test h

found : (test : Line → Bool) (line : Line) (h : List Line) → test line ≡ true → Stands line h → any test h ≡ true
found test line [] t s = absurd s
found test line (x ∷ h) t (inl e) = or_left (test x) (any test h) (ap test e ∙ t)
found test line (x ∷ h) t (inr s) = or_right (test x) (any test h) (found test line h t s)

pub absent : (test : Line → Bool) (line : Line) (h : List Line) → any test h ≡ false → test line ≡ true → ¬ (Stands line h)
absent test line h none t s = let no : false ≡ true = sym none ∙ found test line h t s in absurd (cc)

-- tests of a line
abbrev pub speaks : List ℕ → Line → Bool
speaks t (lines.Top u node) = same t u
speaks t (lines.Imp f u node) = same t f || same t u
speaks t (lines.Sub u parent) = same t u || same t parent
speaks t (lines.Reg g u end) = same t u
speaks t _ = false

abbrev pub makes_family : List ℕ → Line → Bool
makes_family t (lines.Top u node) = same t u
makes_family t (lines.Imp u superior node) = same t u
makes_family t _ = false

abbrev pub imports : List ℕ → Line → Bool
imports f (lines.Imp u superior node) = same f u
imports f _ = false

abbrev pub lets_decide : List ℕ → Line → Bool
lets_decide f (lines.Top t node) = same f t
lets_decide f (lines.Send message words.CommitOnePhase g) = same f g
lets_decide f _ = false

abbrev pub ends : List ℕ → Line → Bool
ends t (lines.SubDone u true) = same t u
ends t _ = false

abbrev pub registers : List ℕ → Line → Bool
registers g (lines.Reg k t end) = same g k
registers g _ = false

abbrev pub commits : Line → Bool
commits (lines.Send message words.Commit g) = true
commits _ = false

abbrev pub tells_commit : List ℕ → Line → Bool
tells_commit g (lines.Send message words.Commit k) = same g k
tells_commit g (lines.Send message words.CommitOnePhase k) = same g k
tells_commit g _ = false

abbrev pub tells_rollback : List ℕ → Line → Bool
tells_rollback g (lines.Send message words.Rollback k) = same g k
tells_rollback g _ = false

abbrev pub applies : List ℕ → Line → Bool
applies g (lines.State k states.Applied) = same g k
applies g _ = false

abbrev pub undoes : List ℕ → Line → Bool
undoes g (lines.State k states.Undone) = same g k
undoes g _ = false

abbrev pub learns : List ℕ → Line → Bool
learns g (lines.Learn k decisions.Commit) = same g k
learns g _ = false

abbrev pub decides : List ℕ → Line → Bool
decides d (lines.Decide t (outcomes.Commit Record)) = same d t
decides d _ = false

abbrev pub votes_for : List ℕ → Line → Bool
votes_for p (lines.Voted k VoteCommit) = same p k
votes_for p (lines.Voted k VoteReadOnly) = same p k
votes_for p _ = false

-- what such tests show
pub is_new : (t : List ℕ) (h : List Line) → any (speaks t) h ≡ false → IsNew t h
is_new t h none = record {
  no_top = λ (node, s). absent (speaks t) (lines.Top t node) h none (same_itself t) s;
  no_import = λ superior (node, s). absent (speaks t) (lines.Imp t superior node) h none (or_left (same t t) (same t superior) (same_itself t)) s;
  no_import_of = λ f (node, s). absent (speaks t) (lines.Imp f t node) h none (or_right (same t f) (same t t) (same_itself t)) s;
  no_sub = λ parent s. absent (speaks t) (lines.Sub t parent) h none (or_left (same t t) (same t parent) (same_itself t)) s;
  no_sub_of = λ u s. absent (speaks t) (lines.Sub u t) h none (or_right (same t u) (same t t) (same_itself t)) s;
  no_registration = λ g (end, s). absent (speaks t) (lines.Reg g t end) h none (same_itself t) s;
}

pub not_family : (t : List ℕ) (h : List Line) → any (makes_family t) h ≡ false → ¬ (IsFamily t h)
not_family t h none (inl (node, s)) = absent (makes_family t) (lines.Top t node) h none (same_itself t) s
not_family t h none (inr (superior, (node, s))) = absent (makes_family t) (lines.Imp t superior node) h none (same_itself t) s

pub waits : (f : List ℕ) (h : List Line) → any (lets_decide f) h ≡ false → ¬ (DecidesAlone f h)
waits f h none (inl (node, s)) = absent (lets_decide f) (lines.Top f node) h none (same_itself f) s
waits f h none (inr (message, s)) = absent (lets_decide f) (lines.Send message words.CommitOnePhase f) h none (same_itself f) s

pub not_ended : (t : List ℕ) (h : List Line) → any (ends t) h ≡ false → ¬ (Stands (lines.SubDone t true) h)
not_ended t h none s = absent (ends t) (lines.SubDone t true) h none (same_itself t) s

-- nobody else is joined to what didn't commit
pub joined_itself : (h : List Line) (f t : List ℕ) → any (ends t) h ≡ false → IsJoined h f t → f ≡ t
joined_itself h f _ none (safe.IsJoined.own family) = refl
joined_itself h f _ none (safe.IsJoined.committed t parent done s joined) = absurd (not_ended t h none done)

pub not_joined : (h : List Line) (f t : List ℕ) → any (makes_family t) h ≡ false → any (ends t) h ≡ false → ¬ (IsJoined h f t)
not_joined h f _ no_family none (safe.IsJoined.own family) = not_family f h no_family family
not_joined h f _ no_family none (safe.IsJoined.committed t parent done s joined) = not_ended t h none done

-- nobody stands above what isn't imported
pub up_itself : (h : List Line) (f x : List ℕ) → any (imports f) h ≡ false → IsUpFrom h f x → f ≡ x
up_itself h _ _ none (safe.itself f) = refl
up_itself h _ _ none (safe.above f t next x (node, s) of up) = absurd (absent (imports f) (lines.Imp f t node) h none (same_itself f) s)

pub not_registered : (g t : List ℕ) (h : List Line) → any (registers g) h ≡ false → ¬ (IsRegistered g t h)
not_registered g t h none (end, s) = absent (registers g) (lines.Reg g t end) h none (same_itself g) s

pub not_sent : (g : List ℕ) (h : List Line) → any commits h ≡ false → ¬ (IsSent words.Commit g h)
not_sent g h none (m, s) = absent commits (lines.Send m words.Commit g) h none refl s

pub nothing_told : (f : List ℕ) (h : List Line) → any commits h ≡ false → ¬ (IsTold f h)
nothing_told f h none told = not_sent told.registration h none told.sent

pub can_register : (g t : List ℕ) (h : List Line) → any (registers g) h ≡ false → any commits h ≡ false → CanRegister g t h
can_register g t h new untold = record {
  of_one = λ u registered. absurd (not_registered g u h new registered);
  in_time = λ f of told. nothing_told f h untold told;
}

pub not_told_commit : (g : List ℕ) (h : List Line) → any (tells_commit g) h ≡ false → ¬ (IsToldCommit g h)
not_told_commit g h none (inl (m, s)) = absent (tells_commit g) (lines.Send m words.Commit g) h none (same_itself g) s
not_told_commit g h none (inr (m, s)) = absent (tells_commit g) (lines.Send m words.CommitOnePhase g) h none (same_itself g) s

pub not_told_rollback : (g : List ℕ) (h : List Line) → any (tells_rollback g) h ≡ false → ¬ (IsToldRollback g h)
not_told_rollback g h none (m, s) = absent (tells_rollback g) (lines.Send m words.Rollback g) h none (same_itself g) s

pub not_applied : (g : List ℕ) (h : List Line) → any (applies g) h ≡ false → ¬ (Stands (lines.State g states.Applied) h)
not_applied g h none s = absent (applies g) (lines.State g states.Applied) h none (same_itself g) s

pub not_undone : (g : List ℕ) (h : List Line) → any (undoes g) h ≡ false → ¬ (Stands (lines.State g states.Undone) h)
not_undone g h none s = absent (undoes g) (lines.State g states.Undone) h none (same_itself g) s

pub not_learnt : (g : List ℕ) (h : List Line) → any (learns g) h ≡ false → ¬ (Stands (lines.Learn g decisions.Commit) h)
not_learnt g h none s = absent (learns g) (lines.Learn g decisions.Commit) h none (same_itself g) s

pub not_recorded : (d : List ℕ) (h : List Line) → any (decides d) h ≡ false → ¬ (Stands (lines.Decide d (outcomes.Commit Record)) h)
not_recorded d h none s = absent (decides d) (lines.Decide d (outcomes.Commit Record)) h none (same_itself d) s

pub not_consented : (p : List ℕ) (h : List Line) → any (votes_for p) h ≡ false → ¬ (HasConsented p h)
not_consented p h none (inl s) = absent (votes_for p) (lines.Voted p VoteCommit) h none (same_itself p) s
not_consented p h none (inr s) = absent (votes_for p) (lines.Voted p VoteReadOnly) h none (same_itself p) s

-- who is there
pub registered_at : (n : ℕ) (h : List Line) (g t end : List ℕ) → line_at n h ≡ Some (lines.Reg g t end) → IsRegistered g t h
registered_at n h g t end e = (end, stands n h (lines.Reg g t end) e)

pub top_at : (n : ℕ) (h : List Line) (t node : List ℕ) → line_at n h ≡ Some (lines.Top t node) → IsTop t h
top_at n h t node e = (node, stands n h (lines.Top t node) e)

pub imported_at : (n : ℕ) (h : List Line) (f t node : List ℕ) → line_at n h ≡ Some (lines.Imp f t node) → IsImported f t h
imported_at n h f t node e = (node, stands n h (lines.Imp f t node) e)

-- what holds of each registration
abbrev pub EachRegistration : (List ℕ → List ℕ → Type 0) → List Line → Type 0
EachRegistration P [] = Unit {0}
EachRegistration P (lines.Reg g t end ∷ h) = P g t × EachRegistration P h
EachRegistration P (_ ∷ h) = EachRegistration P h

others : (P : List ℕ → List ℕ → Type 0) (x : Line) (h : List Line) → EachRegistration P (x ∷ h) → EachRegistration P h
others P (lines.Reg g t end) h each = each.1
others P _ h each = each

pub of_each : (P : List ℕ → List ℕ → Type 0) (h : List Line) (g t end : List ℕ) → EachRegistration P h → Stands (lines.Reg g t end) h → P g t
of_each P [] g t end each s = absurd s
of_each P (x ∷ h) g t end each (inl e) = (subst (λ (y : Line). EachRegistration P (y ∷ h)) e each).0
of_each P (x ∷ h) g t end each (inr s) = of_each P h g t end (others P x h each) s
