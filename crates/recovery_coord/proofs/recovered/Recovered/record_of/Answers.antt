use Rattle.std.proofs.Common.{◌≡◌, ◌∙◌, true, false, ℕ, List, None, Some, get_or, sym, ap, subst, arith}
use Rattle.std.specs.Prelude.{◌==◌, find}
use Rattle.std.specs.Option.{option_copied}
use Rattle.std.proofs.lemmas.Bool.Decides.{nat_tests}
use Rattle.recovery_coord.specs.declared.held.Held.{Held}
use Rattle.recovery_coord.specs.Held.{Recoveries}
use Rattle.recovery_coord.specs.Order.{IsAt, IsGap}
use Rattle.recovery_coord.specs.Replay.{is_of_tree}
use Rattle.recovery_coord.specs.Trees.{first_in, first_of, tree_named}
use Rattle.recovery_coord.proofs.Treed.{first_found, first_no_gap, first_none, named_find, other_service}
use Rattle.recovery_coord.proofs.recovered.Recovered.record_of.Goals as goal

pub returns-then-key-self : goal.returns-then-key-self
returns-then-key-self c =
    let key = c.args.key.now in
    let other : (key.service == c.self.inside.service) ≡ false = grind (arith, nat_tests, c.if-key-self.true) in
    subst (λ (v : Recoveries). None ≡ find (is_of_tree v.service key) v.records) c.self.view_is
    (sym (other_service c.self.inside.service key other c.self.inside.records))

pub returns-in_err-first : goal.returns-in_err-first
returns-in_err-first c =
    let key = c.args.key.now in
    let rs = c.self.inside.records in
    let own : (key.service == c.self.inside.service) ≡ true = grind (arith, nat_tests, c.if-key-self.false) in
    let none : first_of (tree_named key) rs ≡ None =
    sym (c.self.invariant.index (tree_named key)) ∙ ap (first_in c.self.inside.trees.firsts) (sym c.tree_named.ensures) ∙ sym c.first.ensures ∙ c.in_err-first.was in
    let gone : option_copied c.from_residual.result ≡ None = cc (c.from_residual.ensures) in
    gone
    ∙ subst (λ (v : Recoveries). None ≡ find (is_of_tree v.service key) v.records) c.self.view_is
    (sym (named_find c.self.inside.service key own rs ∙ first_none (tree_named key) rs none))

pub returns-in-Ok : goal.returns-in-Ok
returns-in-Ok c =
    let key = c.args.key.now in
    let rs = c.self.inside.records in
    let own : (key.service == c.self.inside.service) ≡ true = grind (arith, nat_tests, c.if-key-self.false) in
    let is : first_of (tree_named key) rs ≡ Some c.in_ok-first.first =
    sym (c.self.invariant.index (tree_named key)) ∙ ap (first_in c.self.inside.trees.firsts) (sym c.tree_named.ensures) ∙ sym c.first.ensures ∙ c.in_ok-first.was in
    let at = subst (λ (p : ℕ). IsAt p c.in-Ok.index c.as_slice.result.now) c.from.ensures c.in-Ok.ensures.found in
    let there = subst (λ (xs : List Held). IsAt c.in_ok-first.first.place c.in-Ok.index xs) c.as_slice.ensures at in
    ap Some (c.index-as_slice-index.is ∙ ap (λ (xs : List Held). get_or xs c.in-Ok.index c.index-as_slice-index.result) c.as_slice-in-Ok.ensures)
    ∙ subst (λ (v : Recoveries). Some (get_or rs c.in-Ok.index c.index-as_slice-index.result) ≡ find (is_of_tree v.service key) v.records) c.self.view_is
    (sym (named_find c.self.inside.service key own rs ∙ first_found (tree_named key) rs c.self.invariant.order c.in_ok-first.first is c.in-Ok.index c.index-as_slice-index.result there))

pub returns-in-Err : goal.returns-in-Err
returns-in-Err c =
    let key = c.args.key.now in
    let rs = c.self.inside.records in
    let is : first_of (tree_named key) rs ≡ Some c.in_ok-first.first =
    sym (c.self.invariant.index (tree_named key)) ∙ ap (first_in c.self.inside.trees.firsts) (sym c.tree_named.ensures) ∙ sym c.first.ensures ∙ c.in_ok-first.was in
    let none = subst (λ (p : ℕ). IsGap p c.in-Err.field-0 c.as_slice.result.now) c.from.ensures c.in-Err.ensures.none in
    let gap = subst (λ (xs : List Held). IsGap c.in_ok-first.first.place c.in-Err.field-0 xs) c.as_slice.ensures none in
    absurd (first_no_gap (tree_named key) rs c.in_ok-first.first is c.in-Err.field-0 gap)
