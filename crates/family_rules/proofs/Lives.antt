-- The top stays live in its tree, and what may be ended or marked is live.
use Rattle.std.proofs.Common.{◌≡◌, ◌∙◌, refl, ap, sym, subst, ℕ, zero, suc, ◌==◌, ◌<◌, ◌&&◌, ◌||◌, not, Bool, true, false, List, [], ◌∷◌, ◌++◌, length, Option, Some, None, arith, if◌then◌else◌}
use Rattle.std.specs.Prelude.{MatchOption}
use Rattle.std.specs.List.{list_any}
use Rattle.std.specs.Option.{IfSome, option_map, option_map_or}
use Rattle.std.proofs.lemmas.Bool.Decides.{nat_tests}
use Rattle.std.proofs.lemmas.List.{length-set}
use Rattle.txn_tree.specs.Calls.{TreeParts, created, ended, is_live_below, live_under, marked}
use Rattle.txn_tree.specs.Laws.{IsNext}
use Rattle.txn_tree.specs.Rows.{ancestors, is_ancestor, is_live, is_live_branch, parent, shown, state}
use Rattle.txn_tree.specs.declared.row.Row.{Row}
use Rattle.txn_tree.specs.declared.row.State.{State}
use Rattle.txn_tree.specs.declared.row.State.TheVariants.{Active, Marked, Committed, RolledBack}
use Rattle.coordinator.specs.declared.phase.Column.{Column}
use Rattle.coordinator.specs.declared.phase.Column.TheVariants as columns
use Rattle.coordinator.specs.Family.{Family}
use Rattle.coordinator.specs.Hearing.{is_markable, is_markable_in}
use Rattle.family_rules.specs.StateInside.{IsSound}
use Rattle.family_rules.specs.declared.state.State.TheInside.{Inside}
use Rattle.coordinator.specs.Phases.{column, is_ending, is_marked, is_open, live_column, phase, sub_column, top_column}

-- ---- the top stays live

pub ended_top : (rows : List Row) (b : ℕ) (committed : Bool) → 0 < b → is_live_branch rows 0 ≡ true → is_live_branch (ended rows b committed) 0 ≡ true
ended_top [] b committed sub live = absurd (cc live)
ended_top (r ∷ rows) zero committed sub live = absurd (omega (arith, sub))
ended_top (r ∷ rows) (suc b) committed sub live = live

pub marked_top : (rows : List Row) (b : ℕ) → is_live_branch rows 0 ≡ true → is_live_branch (marked rows b) 0 ≡ true
marked_top [] b live = absurd (cc live)
marked_top (r ∷ rows) zero live = refl
marked_top (r ∷ rows) (suc b) live = live

pub created_top : (rows : List Row) (b : ℕ) → is_live_branch rows 0 ≡ true → is_live_branch (created rows b) 0 ≡ true
created_top [] b live = absurd (cc live)
created_top (r ∷ rows) b live = live

-- a state stays sound where one of its transactions stands otherwise, and the top stays live
sound_stood : (s : Inside) (t : TreeParts) → IsSound s → length t.rows ≡ length s.tree.rows → is_live_branch t.rows 0 ≡ true → IsSound (record s { tree = t })
sound_stood s t p same top = record {
  few = p.few;
  serial = p.serial;
  seats = p.seats ∙ sym same;
  synchronizations = p.synchronizations;
  order = p.order;
  synchronization_order = p.synchronization_order;
  lists = p.lists;
  once = p.once;
  tasks = p.tasks;
  places = p.places;
  tally = p.tally;
  outs = p.outs;
  outs_room = p.outs_room;
  top = top;
}

pub sound_ended : (s : Inside) (t : TreeParts) (b : ℕ) (committed : Bool) → IsSound s → 0 < b → t ≡ record s.tree { rows = ended s.tree.rows b committed } → IsSound (record s { tree = t })
sound_ended s t b committed p sub is =
    let rows : t.rows ≡ ended s.tree.rows b committed = ap (λ (x : TreeParts). x.rows) is in
    let kept : length (ended s.tree.rows b committed) ≡ length s.tree.rows = simp length-set in
    sound_stood s t p (ap (λ (xs : List Row). length xs) rows ∙ kept)
    (subst (λ (xs : List Row). is_live_branch xs 0 ≡ true) (sym rows) (ended_top s.tree.rows b committed sub p.top))

pub sound_marked : (s : Inside) (t : TreeParts) (b : ℕ) → IsSound s → t ≡ record s.tree { rows = marked s.tree.rows b } → IsSound (record s { tree = t })
sound_marked s t b p is =
    let rows : t.rows ≡ marked s.tree.rows b = ap (λ (x : TreeParts). x.rows) is in
    let kept : length (marked s.tree.rows b) ≡ length s.tree.rows = simp length-set in
    sound_stood s t p (ap (λ (xs : List Row). length xs) rows ∙ kept)
    (subst (λ (xs : List Row). is_live_branch xs 0 ≡ true) (sym rows) (marked_top s.tree.rows b p.top))

-- ---- what is open is live

live_of : (o : Option State) (ending : Bool) → is_open (if ending then columns.Past else live_column (option_map shown o)) ≡ true → option_map_or is_live o false ≡ true
live_of o true opened = absurd (cc opened)
live_of None false opened = absurd (cc opened)
live_of (Some Active) false opened = refl
live_of (Some Marked) false opened = refl
live_of (Some Committed) false opened = absurd (cc opened)
live_of (Some RolledBack) false opened = absurd (cc opened)

pub open_lives : (f : Family) (b : ℕ) → 0 < b → is_open (column f b) ≡ true → is_live_branch f.rows b ≡ true
unfolding column
open_lives f b sub opened =
    let below : (b == 0) ≡ false = grind (arith, nat_tests) in
    let is : column f b ≡ sub_column f b = ap (λ (x : Bool). if x then top_column (phase f) else sub_column f b) below in
    live_of (state f.rows b) (is_ending f b) (ap (λ (x : Column). is_open x) (sym is) ∙ opened)

markable_open : (x : Column) (marked : Bool) → is_markable_in x marked ≡ true → is_open x ≡ true
markable_open columns.Active marked may = refl
markable_open columns.Marked marked may = refl
markable_open columns.Finishing marked may = refl
markable_open columns.RolledBack marked may = absurd (cc may)
markable_open columns.Past marked may = absurd (cc may)

pub markable_lives : (f : Family) (b : ℕ) → is_live_branch f.rows 0 ≡ true → is_markable f b ≡ true → is_live_branch f.rows b ≡ true
unfolding is_markable
markable_lives f zero top may = top
markable_lives f (suc b) top may = open_lives f (suc b) (omega arith) (markable_open (column f (suc b)) (is_marked f (suc b)) may)

-- ---- the next one to be rolled back is live, and is not the top

first_of : (x y z : Bool) → (x && y && z) ≡ true → x ≡ true
first_of true y z is = refl
first_of false y z is = absurd (cc is)

not_itself : (x y : Bool) → (x && not y && y) ≡ false
not_itself true true = refl
not_itself true false = refl
not_itself false y = refl

or_none : (x : Bool) → (x || false) ≡ x
or_none true = refl
or_none false = refl

over_top : (rows : List Row) (b : ℕ) → is_ancestor rows b 0 ≡ (0 == b)
unfolding is_ancestor ancestors
over_top rows b = by_parent (parent rows 0)
  where
    by_parent : (o : Option ℕ) → list_any (λ (c : ℕ). c == b) (0 ∷ option_map_or (λ (p : ℕ). []) o []) ≡ (0 == b)
    by_parent None = or_none (0 == b)
    by_parent (Some p) = or_none (0 == b)

top_unswept : (rows : List Row) (b : ℕ) → is_live_below rows b 0 ≡ false
top_unswept rows b =
    ap (λ (x : Bool). is_live_branch rows 0 && not (0 == b) && x) (over_top rows b) ∙ not_itself (is_live_branch rows 0) (0 == b)

pub swept_sub : (rows : List Row) (b d : ℕ) → IsNext rows b d → 0 < d
swept_sub rows b zero next = absurd (cc (top_unswept rows b, next.live))
swept_sub rows b (suc d) next = omega arith

pub swept_live : (rows : List Row) (b d : ℕ) → IsNext rows b d → is_live_branch rows d ≡ true
swept_live rows b d next = first_of (is_live_branch rows d) (not (d == b)) (is_ancestor rows b d) next.live

module _ (rows : List Row) (b : ℕ) (P : ℕ → Type 0) (has : (d : ℕ) → IsNext rows b d → P d) where
  by_next : (o : Option ℕ) → MatchOption o ((q : ℕ) → q < length rows → is_live_below rows b q ≡ false) (IsNext rows b) → IfSome o P
  by_next None none = tt
  by_next (Some d) next = has d next

  pub next_has : (o : Option ℕ) → o ≡ live_under rows b
      → MatchOption (live_under rows b) ((q : ℕ) → q < length rows → is_live_below rows b q ≡ false) (IsNext rows b) → IfSome o P
  next_has o is next =
      by_next o (subst (λ (x : Option ℕ). MatchOption x ((q : ℕ) → q < length rows → is_live_below rows b q ≡ false) (IsNext rows b)) (sym is) next)
