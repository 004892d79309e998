-- An object that is made: its key, and what the end has then.
use Rattle.std.proofs.Common.{◌≡◌, ◌∙◌, ℕ, ◌+◌, ◌<◌, ◌≤◌, Bool, true, false, cond, refl, sym, ap, arith}
use Rattle.std.specs.Prelude.{◌==◌, ◌||◌, nat_le, find, List, Option, Some, None, Ok, Err}
use Rattle.std.proofs.lemmas.Bool.{both_ways}
use Rattle.std.proofs.lemmas.Bool.Decides.{nat_tests}
use Rattle.ior_refs.specs.declared.key.ObjectKey.{ObjectKey}
use Rattle.ots_model.specs.declared.service.Status.{Status}
use Rattle.decision_journal.specs.State.{JournalState}
use Rattle.resource_end.specs.declared.fault.EndFault.TheVariants as faults
use Rattle.resource_end.specs.declared.state.State.{State}
use Rattle.resource_end.specs.declared.state.State.TheVariants as states
use Rattle.resource_end.specs.Limits.{object_limit, synchronization_kind, unfinished_limit}
use Rattle.resource_end.specs.Calls.{answers, bind, bound, done, drawn, fresh, is_fresh, is_spent, key_of, on, refused, unmake, unmakes, with_object}
use Rattle.resource_end.specs.End.{End, Resource, changes, is_named, unfinished_count, with_resource}
use Rattle.resource_end.specs.Inside.{CanPrepare, ContentsState, changed, fresh_one}
use Rattle.resource_end.specs.Journaling.{IsAlone}
use Rattle.resource_end.proofs.Moving.{changes_seen}
use Rattle.resource_end.proofs.Writing.{seen}

pub fresh_spent : (letter : ℕ) (e : End) → is_spent letter e ≡ true → fresh letter e ≡ refused faults.NoResources e
unfolding fresh
fresh_spent letter e is = ap (λ b. cond b (refused faults.NoResources e) (answers (Ok (key_of letter (e.drawn + 1) e)) (with_object letter (e.drawn + 1) e))) is

pub fresh_made : (letter : ℕ) (e : End) → is_spent letter e ≡ false → fresh letter e ≡ answers (Ok (key_of letter (e.drawn + 1) e)) (with_object letter (e.drawn + 1) e)
unfolding fresh
fresh_made letter e is = ap (λ b. cond b (refused faults.NoResources e) (answers (Ok (key_of letter (e.drawn + 1) e)) (with_object letter (e.drawn + 1) e))) is

pub with_synchronization : (letter number : ℕ) (e : End) → (letter == synchronization_kind) ≡ true → with_object letter number e ≡ drawn e
with_synchronization letter number e is = ap (λ b. cond b (drawn e) (with_object_of letter number e)) is
  where
    with_object_of : ℕ → ℕ → End → End
    with_object_of letter number e = record (drawn e) { resources = with_resource (fresh_one (e.life, number) letter) e.resources }

pub with_made : (letter number : ℕ) (e : End) → (letter == synchronization_kind) ≡ false
    → with_object letter number e ≡ record (drawn e) { resources = with_resource (fresh_one (e.life, number) letter) e.resources }
with_made letter number e is = ap (λ b. cond b (drawn e) (record (drawn e) { resources = with_resource (fresh_one (e.life, number) letter) e.resources })) is

-- ---- whether one can be made

pub spent_objects : (letter : ℕ) (e : End) → object_limit ≤ e.drawn → is_spent letter e ≡ true
spent_objects letter e le =
    ap (λ b. b || cond (letter == synchronization_kind) false (nat_le unfinished_limit (unfinished_count e))) (is_le le)
  where
    is_le : object_limit ≤ e.drawn → nat_le object_limit e.drawn ≡ true
    is_le le = grind (arith, nat_tests, le)

left_objects : (e : End) → e.drawn < object_limit → nat_le object_limit e.drawn ≡ false
left_objects e lt = grind (arith, nat_tests, lt)

pub left_synchronization : (letter : ℕ) (e : End) → e.drawn < object_limit → (letter == synchronization_kind) ≡ true → is_spent letter e ≡ false
left_synchronization letter e lt is =
    (λ i. left_objects e lt i || cond (is i) false (nat_le unfinished_limit (unfinished_count e)))

pub by_unfinished : (letter : ℕ) (e : End) (b : Bool) → e.drawn < object_limit → (letter == synchronization_kind) ≡ false
    → nat_le unfinished_limit (unfinished_count e) ≡ b → is_spent letter e ≡ b
by_unfinished letter e b lt is of = (λ i. left_objects e lt i || cond (is i) false (of i))

-- ---- a new one can prepare

pub can_prepare : (life drawn letter : ℕ) → life < 4294967296 → drawn < object_limit → CanPrepare (drawn + 1) (fresh_one (life, drawn + 1) letter)
can_prepare life drawn letter fits left = record {
  fits = (fits, omega (arith, left), omega arith, (omega arith, tt, refl));
  number = omega arith;
}

-- ---- the call

module _ {D : Type 0} (j : JournalState D) (n : ℕ) (c : ContentsState) (shown : Option Status) (letter : ℕ) where
  abbrev before : End
  before = (seen j n c shown).end

  pub made_none : is_spent letter before ≡ true → IsAlone (seen j n c shown) (seen j n c shown) (Err faults.NoResources) (fresh letter before)
  made_none spent =
      let f = fresh_spent letter before spent in
      record { journal = refl; comes = record { end = ap (λ x. x.end) (sym f); answer = ap (λ x. x.answer) (sym f) } }

  pub made_synchronization : (key : ObjectKey) → is_spent letter before ≡ false → (letter == synchronization_kind) ≡ true → key ≡ key_of letter (n + 1) before
      → IsAlone (seen j n c shown) (seen j (n + 1) c shown) (Ok key) (fresh letter before)
  made_synchronization key left is same =
      let f = fresh_made letter before left in
      record {
        journal = refl;
        comes = record {
          end = sym (with_synchronization letter (n + 1) before is) ∙ ap (λ x. x.end) (sym f);
          answer = ap (λ k. Ok k) same ∙ ap (λ x. x.answer) (sym f);
        };
      }

  pub made_resource : (later : ContentsState) (key : ObjectKey) → is_spent letter before ≡ false → (letter == synchronization_kind) ≡ false → key ≡ key_of letter (n + 1) before
      → later ≡ record c { resources = with_resource (fresh_one (j.found.life, n + 1) letter) c.resources }
      → IsAlone (seen j n c shown) (seen j (n + 1) later shown) (Ok key) (fresh letter before)
  made_resource later key left is same has =
      let f = fresh_made letter before left in
      record {
        journal = refl;
        comes = record {
          end = ap (λ x. (seen j (n + 1) x shown).end) has ∙ sym (with_made letter (n + 1) before is) ∙ ap (λ x. x.end) (sym f);
          answer = ap (λ k. Ok k) same ∙ ap (λ x. x.answer) (sym f);
        };
      }

-- ---- one that is bound, and one that is forgotten

module _ {D : Type 0} (j : JournalState D) (n : ℕ) (c : ContentsState) (shown : Option Status) (key : ObjectKey) where
  abbrev at : End
  at = (seen j n c shown).end

  pub bound_none : (recovery : List ℕ) → find (is_named j.service key) c.resources ≡ None
      → IsAlone (seen j n c shown) (seen j n c shown) (Err faults.ObjectNotExist) (bind key recovery at)
  unfolding bind
  bound_none recovery none =
      let f = ap (λ o. on o at (λ r. done (record at { resources = with_resource (bound recovery r) c.resources }))) none in
      record { journal = refl; comes = record { end = ap (λ x. x.end) (sym f); answer = ap (λ x. x.answer) (sym f) } }

  pub bound_one : (recovery : List ℕ) (r : Resource) (later : ContentsState) → find (is_named j.service key) c.resources ≡ Some r
      → later ≡ record c { resources = with_resource (bound recovery r) c.resources }
      → IsAlone (seen j n c shown) (seen j n later shown) (Ok tt) (bind key recovery at)
  unfolding bind
  bound_one recovery r later is has =
      let f = ap (λ o. on o at (λ r. done (record at { resources = with_resource (bound recovery r) c.resources }))) is in
      record {
        journal = refl;
        comes = record { end = ap (λ x. (seen j n x shown).end) has ∙ ap (λ x. x.end) (sym f); answer = ap (λ x. x.answer) (sym f) };
      }

  pub unmade_none : find (is_named j.service key) c.resources ≡ None → seen j n c shown ≡ record (seen j n c shown) { end = unmake key at }
  unfolding unmake
  unmade_none none = ap (λ o. record (seen j n c shown) { end = unmakes o at }) (sym none)

  pub unmade_not : (r : Resource) → find (is_named j.service key) c.resources ≡ Some r → is_fresh r.state ≡ false
      → seen j n c shown ≡ record (seen j n c shown) { end = unmake key at }
  unfolding unmake
  unmade_not r is not_fresh =
      ap (λ b. record (seen j n c shown) { end = cond b (changes states.Forgotten r at) at }) (sym not_fresh)
      ∙ ap (λ o. record (seen j n c shown) { end = unmakes o at }) (sym is)

  pub unmade_one : (r : Resource) (later : ContentsState) → find (is_named j.service key) c.resources ≡ Some r → r.state ≡ states.Fresh
      → later ≡ changed states.Forgotten r c → seen j n later shown ≡ record (seen j n c shown) { end = unmake key at }
  unfolding unmake
  unmade_one r later is fresh has =
      ap (λ e. record (seen j n c shown) { end = e }) (changes_seen j n c later shown states.Forgotten r has)
      ∙ ap (λ b. record (seen j n c shown) { end = cond b (changes states.Forgotten r at) at }) (sym (ap is_fresh fresh))
      ∙ ap (λ o. record (seen j n c shown) { end = unmakes o at }) (sym is)

pub fresh_state : (s : State) → is_fresh s ≡ true → s ≡ states.Fresh
fresh_state states.Fresh h = refl
fresh_state states.Working h = absurd (both_ways _ refl h)
fresh_state states.Refused h = absurd (both_ways _ refl h)
fresh_state states.Prepared h = absurd (both_ways _ refl h)
fresh_state states.Applied h = absurd (both_ways _ refl h)
fresh_state states.Undone h = absurd (both_ways _ refl h)
fresh_state states.ChoseCommit h = absurd (both_ways _ refl h)
fresh_state states.ChoseRollback h = absurd (both_ways _ refl h)
fresh_state states.Forgotten h = absurd (both_ways _ refl h)
