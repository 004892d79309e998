-- What becomes of a sound family where one of its calls is taken up, and is put back or is over.
use Rattle.std.proofs.Common.{◌≡◌, ◌≢◌, inl, inr, ℕ, ◌<◌, zero, suc, List, [], ◌∷◌, length, true, Option, Some, None, is_some, IsTrue, refl, ap, sym, subst, ◌∙◌, arith}
use Rattle.std.proofs.lemmas.Grind.{common_steps}
use Rattle.std.specs.Prelude.{slice_set}
use Rattle.std.specs.List.{AllByRecursion}
use Rattle.resource_votes.specs.Ballots.{Ballots}
use Rattle.resource_votes.specs.declared.registration.Registration.{Registration}
use Rattle.txn_tree.specs.Rows.{is_live_branch}
use Rattle.txn_tree.specs.declared.row.Row.{Row}
use Rattle.two_phase.specs.Stages.{Standing}
use Rattle.coordinator.specs.Family.{Family, Aim, Call, Duty}
use Rattle.coordinator.specs.declared.call.Leg.{Leg}
use Rattle.coordinator.specs.declared.call.Stage.{Stage}
use Rattle.coordinator.specs.declared.call.Stage.TheVariants.{Finishing}
use Rattle.family_laws.specs.Trees.{IsCutOff}
use Rattle.family_laws.specs.Sound.{NoneLive, IsSoundLists, IsSoundCompletion, IsListed, IsDue, IsSoundCall, IsSound, IsSoundFamily, called}
use Rattle.family_laws.proofs.Trees.{same_or_not}
use Rattle.family_laws.proofs.Lists.{all_map}

-- ---- calls by their places

pub called_other : (calls : List (Option Call)) (b d : ℕ) (o : Option Call) → d ≢ b → called (slice_set calls b o) d ≡ called calls d
called_other [] b d o n = refl
called_other (x ∷ calls) zero zero o n = absurd (n refl)
called_other (x ∷ calls) zero (suc d) o n = refl
called_other (x ∷ calls) (suc b) zero o n = refl
called_other (x ∷ calls) (suc b) (suc d) o n = called_other calls b d o (λ e. n (ap (λ (k : ℕ). suc k) e))

pub called_same : (calls : List (Option Call)) (b : ℕ) (o : Option Call) (c : Call) → called (slice_set calls b o) b ≡ Some c → o ≡ Some c
called_same [] b o c e = absurd (cc e)
called_same (x ∷ calls) zero o c e = e
called_same (x ∷ calls) (suc b) o c e = called_same calls b o c e

first_called : (calls : List (Option Call)) (c : Call) → 0 < length calls → called (slice_set calls 0 (Some c)) 0 ≡ Some c
first_called [] c h = absurd (omega (arith, h))
first_called (x ∷ calls) c h = refl

pub set_length : (calls : List (Option Call)) (b : ℕ) (o : Option Call) → length (slice_set calls b o) ≡ length calls
set_length calls b o = grind (arith, common_steps)

-- ---- a family that is sound but for the call of one branch

pub record IsBut (b : ℕ) (stage : Stage) (rs : List Row) (some : Ballots) (s : Standing) (calls : List (Option Call)) : Type 0 where
  pub lists : IsSoundLists rs some
  pub completion : IsSoundCompletion stage rs some s
  pub as_many : length calls ≡ length rs
  pub others : (d : ℕ) (c : Call) → d ≢ b → called calls d ≡ Some c → IsSoundCall stage rs some d c.aim c.leg c.left
  pub finishing : b ≢ 0 → stage ≡ Finishing → IsTrue (is_some (called calls 0))

abbrev pub But : ℕ → Family → Type 0
But b f = IsBut b f.stage f.rows f.ballots f.completion f.calls

-- its call is sound
abbrev pub Takes : ℕ → Call → Family → Type 0
Takes b c f = IsSoundCall f.stage f.rows f.ballots b c.aim c.leg c.left

pub taken_up : (b : ℕ) (f : Family) → IsSoundFamily f → But b f
taken_up b f h = record {
  lists = h.lists;
  completion = h.completion;
  as_many = h.as_many;
  others = λ d c o e. h.under_way d c e;
  finishing = λ o. h.finishing;
}

put : (b : ℕ) (o : Option Call) (f : Family) → But b f → ((c : Call) → o ≡ Some c → Takes b c f) → (b ≡ 0 → f.stage ≡ Finishing → IsTrue (is_some (called (slice_set f.calls b o) 0)))
    → IsSound f.stage f.rows f.ballots f.completion (slice_set f.calls b o)
put b o f h sound there = record {
  lists = h.lists;
  completion = h.completion;
  as_many = set_length f.calls b o ∙ h.as_many;
  under_way = λ d c e.
      elim (same_or_not d b) [
        | inl i ↦ rw i (sound c (called_same f.calls b o c (rw i at e)))
        | inr n ↦ h.others d c n (sym (called_other f.calls b d o n) ∙ e)
      ];
  finishing = λ fin.
      elim (same_or_not b 0) [
        | inl i ↦ there i fin
        | inr n ↦ ap (λ (x : Option Call). is_some x) (called_other f.calls b 0 o (λ e. n (sym e))) ∙ h.finishing n fin
      ];
}

-- a call is under way
pub put_back : (b : ℕ) (c : Call) (f : Family) → But b f → Takes b c f → IsSound f.stage f.rows f.ballots f.completion (slice_set f.calls b (Some c))
put_back b c f h t =
    let some : 0 < length f.calls = rw (h.as_many) h.lists.tree.some in
    put b (Some c) f h (λ d e. let i : c ≡ d = cc e in subst (λ (x : Call). Takes b x f) i t)
    (λ i fin. rw i (ap (λ (x : Option Call). is_some x) (first_called f.calls c some)))

-- it is over
pub put_away : (b : ℕ) (f : Family) → But b f → (b ≡ 0 → f.stage ≢ Finishing) → IsSound f.stage f.rows f.ballots f.completion (slice_set f.calls b None)
put_away b f h n = put b None f h (λ d e. absurd (cc e)) (λ i fin. absurd (n i fin))

-- ---- a call stays sound

pub none_live_kept : (rs more : List Row) → ((q : ℕ) → is_live_branch more q ≡ true → is_live_branch rs q ≡ true) → NoneLive rs → NoneLive more
none_live_kept rs more m n q p live = n q p (m q live)

pub due_kept : (rs more : List Row) (some later : Ballots) → ((c : ℕ) → IsCutOff rs c → IsCutOff more c) → ((r : Registration) → IsListed some r → IsListed later r)
    → (left : List Duty) → AllByRecursion (IsDue rs some) left → AllByRecursion (IsDue more later) left
due_kept rs more some later cut there left all =
    all_map (IsDue rs some) (IsDue more later) (λ d due e. (there d.resource (due e).0, cut d.resource.branch (due e).1)) left all

pub call_kept : (stage : Stage) (rs more : List Row) (some later : Ballots) (b : ℕ) (aim : Aim) (leg : Leg) (left : List Duty)
    → (is_live_branch rs b ≡ true → is_live_branch more b ≡ true) → ((c : ℕ) → IsCutOff rs c → IsCutOff more c)
    → (NoneLive rs → NoneLive more) → ((r : Registration) → IsListed some r → IsListed later r)
    → IsSoundCall stage rs some b aim leg left → IsSoundCall stage more later b aim leg left
call_kept stage rs more some later b aim leg left live cut none there h = record {
  top = λ e. record { in_stage = (h.top e).in_stage; alone = λ past. none ((h.top e).alone past) };
  sub = λ p. record {
    of_sub = (h.sub p).of_sub;
    commits = λ asked e. live ((h.sub p).commits asked e);
    undoes = λ says e. cut b ((h.sub p).undoes says e);
  };
  dues = due_kept rs more some later cut there left h.dues;
}

-- that of a subtransaction has nothing of the stage
pub call_staged : (stage later : Stage) (rs : List Row) (some : Ballots) (b : ℕ) (aim : Aim) (leg : Leg) (left : List Duty)
    → b ≢ 0 → IsSoundCall stage rs some b aim leg left → IsSoundCall later rs some b aim leg left
call_staged stage later rs some b aim leg left n h = record { top = λ e. absurd (n e); sub = h.sub; dues = h.dues }
