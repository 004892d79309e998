-- A transaction that may be marked is there.
use Rattle.std.proofs.Common.{◌≡◌, ◌∙◌, refl, ap, sym, ℕ, ◌==◌, ◌<◌, ◌&&◌, Bool, true, false, length, Option, Some, None, is_some, arith, if◌then◌else◌}
use Rattle.std.specs.List.{slice_get}
use Rattle.std.specs.Option.{option_map, option_map_or}
use Rattle.std.proofs.lemmas.Bool.Decides.{nat_tests}
use Rattle.std.proofs.lemmas.Option.{slice_get_within}
use Rattle.txn_tree.specs.Rows.{is_live, shown}
use Rattle.txn_tree.specs.declared.row.Row.{Row}
use Rattle.coordinator.specs.declared.phase.Column.{Column}
use Rattle.coordinator.specs.declared.phase.Column.TheVariants as columns
use Rattle.coordinator.specs.Family.{Family, call_at}
use Rattle.coordinator.specs.Hearing.{is_markable, is_markable_in}
use Rattle.coordinator.specs.Phases.{column, is_marked, live_column, phase, sub_column, top_column}

sub_past : (f : Family) (b : ℕ) → slice_get f.rows b ≡ None → sub_column f b ≡ columns.Past
sub_past f b is =
    ap (λ (x : Option Row). if option_map_or is_live (option_map (λ (r : Row). r.state) x) false && is_some (call_at f b) then columns.Past
    else live_column (option_map shown (option_map (λ (r : Row). r.state) x))) is

past : (f : Family) (b : ℕ) → slice_get f.rows b ≡ None → (b == 0) ≡ false → column f b ≡ columns.Past
unfolding column
past f b is below = ap (λ (x : Bool). if x then top_column (phase f) else sub_column f b) below ∙ sub_past f b is

unmarkable : (f : Family) (b : ℕ) → column f b ≡ columns.Past → is_markable f b ≡ false
unfolding is_markable
unmarkable f b is = ap (λ (x : Column). is_markable_in x (is_marked f b)) is

by_row : (f : Family) (b : ℕ) (o : Option Row) (top : Bool) → slice_get f.rows b ≡ o → (b == 0) ≡ top → 0 < length f.rows → is_markable f b ≡ true → b < length f.rows
by_row f b (Some r) top is below some may = slice_get_within f.rows b r is
by_row f b None true is below some may = grind (arith, nat_tests)
by_row f b None false is below some may =
    let wrong : false ≡ true = sym (unmarkable f b (past f b is below)) ∙ may in
    absurd (cc (wrong))

pub markable_there : (f : Family) (b : ℕ) → 0 < length f.rows → is_markable f b ≡ true → b < length f.rows
markable_there f b some may = by_row f b (slice_get f.rows b) (b == 0) refl refl some may
