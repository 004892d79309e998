-- What cells have once puts are stored, and that no puts are stored twice.
use Rattle.std.proofs.Common.{refl, ap, sym, ◌∙◌}
use Rattle.std.specs.Prelude.{◌≡◌, ℕ, ◌==◌, nat_lt, Bool, true, false, if◌then◌else◌, List, [], ◌∷◌, Option, Some}
use Rattle.std.specs.Option.{option_or}
use Rattle.std.proofs.lemmas.Bool.{eqb-true, eqb-false}
use Rattle.decision_journal.specs.declared.record.Put.{Put}
use Rattle.resource_end.specs.States.{stores}
use Rattle.resource_end.specs.Cells.{value_at, with_put, with_puts}
use Rattle.resource_end.specs.End.{End, Resource, changes}
use Rattle.resource_end.specs.Laws.{ChangesStoreOnce, ChoicesStay, PutsAreStored, stored_by}

-- a cell that was asked for isn't asked for again
again : (b : Bool) (x y z : Option ℕ) → (if b then x else z) ≡ (if b then x else (if b then y else z))
again true x y z = refl
again false x y z = refl

-- of two tests that don't both hold, either may be made first
swapped : (b c : Bool) (x y z : Option ℕ) → (b ≡ true → c ≡ true → ⊥) → (if b then x else (if c then y else z)) ≡ (if c then y else (if b then x else z))
swapped true true x y z h = absurd (h refl refl)
swapped true false x y z h = refl
swapped false true x y z h = refl
swapped false false x y z h = refl

-- behind the first put, once it is known whether that is of the same cell, and which comes first
at_order : (cell : ℕ) (p q : Put) (qs : List Put) → (p.cell == q.cell) ≡ false → (b : Bool)
    → value_at cell (with_put p qs) ≡ (if p.cell == cell then Some p.value else value_at cell qs)
    → value_at cell (if b then p ∷ q ∷ qs else q ∷ with_put p qs) ≡ (if p.cell == cell then Some p.value else value_at cell (q ∷ qs))
at_order cell p q qs e true rest = refl
at_order cell p q qs e false rest =
    ap (λ o. if q.cell == cell then Some q.value else o) rest
    ∙ swapped (q.cell == cell) (p.cell == cell) (Some q.value) (Some p.value) (value_at cell qs)
    (λ h k. eqb-false p.cell q.cell e (eqb-true p.cell cell k ∙ sym (eqb-true q.cell cell h)))

at_cell : (cell : ℕ) (p q : Put) (qs : List Put) (b : Bool) → (p.cell == q.cell) ≡ b
    → value_at cell (with_put p qs) ≡ (if p.cell == cell then Some p.value else value_at cell qs)
    → value_at cell (if b then p ∷ qs else (if nat_lt p.cell q.cell then p ∷ q ∷ qs else q ∷ with_put p qs))
    ≡ (if p.cell == cell then Some p.value else value_at cell (q ∷ qs))
at_cell cell p q qs true e rest =
    again (p.cell == cell) (Some p.value) (Some q.value) (value_at cell qs)
    ∙ ap (λ n. if p.cell == cell then Some p.value else (if n == cell then Some q.value else value_at cell qs)) (eqb-true p.cell q.cell e)
at_cell cell p q qs false e rest = at_order cell p q qs e (nat_lt p.cell q.cell) rest

-- what a cell has behind one more put
pub one_put : (cell : ℕ) (p : Put) (ps : List Put) → value_at cell (with_put p ps) ≡ (if p.cell == cell then Some p.value else value_at cell ps)
one_put cell p [] = refl
one_put cell p (q ∷ qs) = at_cell cell p q qs (p.cell == q.cell) refl (one_put cell p qs)

-- the first of several puts of a cell counts, in both
either : (b : Bool) (x : ℕ) (o later : Option ℕ) → (if b then Some x else option_or o later) ≡ option_or (if b then Some x else o) later
either true x o later = refl
either false x o later = refl

pub puts_are_stored : PutsAreStored
puts_are_stored cell [] cells = refl
puts_are_stored cell (p ∷ ps) cells =
    one_put cell p (with_puts ps cells) ∙ ap (λ o. if p.cell == cell then Some p.value else o) (puts_are_stored cell ps cells)
    ∙ either (p.cell == cell) p.value (value_at cell ps) (value_at cell cells)

stored_by_flag : (b : Bool) (cell : ℕ) (r : Resource) (e : End) → value_at cell (if b then with_puts r.puts e.cells else e.cells) ≡ stored_by b cell r e
stored_by_flag true cell r e = puts_are_stored cell r.puts e.cells
stored_by_flag false cell r e = refl

pub changes_store_once : ChangesStoreOnce
unfolding changes
changes_store_once s r e cell = stored_by_flag (stores r.state s) cell r e

pub choices_stay : ChoicesStay
choices_stay = record {
  commit_by_rollback = refl;
  commit_by_prepare = refl;
  commit_by_answers = λ h. refl;
  rollback_by_commit = refl;
  rollback_by_one_phase = refl;
  rollback_by_prepare = refl;
  rollback_by_answers = λ h. refl;
}
