use Rattle.std.proofs.Common.{◌≡◌, ◌<◌, ◌∙◌, refl, Bool, None, Some, Result, sym, ap, subst, true, IsOk, is_ok, length, arith, if◌then◌else◌}
use Rattle.txn_tree.specs.Calls.{answer}
use Rattle.txn_tree.specs.Rows.{is_live_branch}
use Rattle.txn_tree.specs.declared.row.TreeFault.{TreeFault}
use Rattle.txn_tree.specs.declared.row.TreeFault.TheVariants as fault
use Rattle.coordinator.specs.Hearing.{is_markable}
use Rattle.family_rules.specs.Room.{StateParts}
use Rattle.family_rules.specs.StateInside.{shown}
use Rattle.family_rules.proofs.Lives.{markable_lives, sound_marked}
use Rattle.family_rules.proofs.Made.{at_ok}
use Rattle.family_rules.proofs.Marks.{markable_there}
use Rattle.family_rules.proofs.state.State.mark.Goals as goal

pub mark-requires : goal.mark-requires
mark-requires c =
    let f = c.args.self.now.family in
    let rows = ap (λ (v : StateParts). length v.family.rows) c.self.view_is in
    let within : c.args.branch < length f.rows = markable_there f c.args.branch c.requires.can.some (sym c.is_markable.ensures ∙ c.if-is_markable.true) in
    record { there = omega (arith, rows, within) }

pub unwrap-requires : goal.unwrap-requires
unwrap-requires c =
    let b = c.args.branch in
    let may = subst (λ (v : StateParts). is_markable v.family b ≡ true) (sym c.self.view_is) (sym c.is_markable.ensures ∙ c.if-is_markable.true) in
    let live : is_live_branch c.self.inside.tree.rows b ≡ true = markable_lives (shown c.self.inside).family b c.self.invariant.top may in
    subst (λ (r : Result (Unit {0}) TreeFault). IsOk r)
    (sym (c.mark.ensures.result ∙ ap (λ (x : Bool). answer (if x then None else Some fault.Inactive)) live)) refl

pub invariant_of-self : goal.invariant_of-self
invariant_of-self c =
    let is = ap (λ (r : Result (Unit {0}) TreeFault). is_ok r) c.unwrap.ensures in
    sound_marked c.self.inside c.mark.new.self c.args.branch c.self.invariant (at_ok c.mark.result is c.mark.ensures.ok)
