use Rattle.std.proofs.Common.{◌≡◌, ◌<◌, ℕ, true, length, subst}
use Rattle.std.specs.Option.{IfSome}
use Rattle.txn_tree.specs.Rows.{is_live_branch}
use Rattle.family_rules.specs.Room.{StateParts}
use Rattle.family_rules.proofs.Lives.{next_has, swept_live, swept_sub}
use Rattle.family_rules.proofs.state.State.live_under.Goals as goal

pub returns-clause-there : goal.returns-clause-there
returns-clause-there c =
    let rows = c.self.inside.tree.rows in
    subst (λ (v : StateParts). IfSome c.live_under.result (λ d. d < length v.family.rows)) c.self.view_is
    (next_has rows c.args.branch (λ (d : ℕ). d < length rows) (λ d next. next.there) c.live_under.result c.live_under.ensures (c.next_is_first.ensures rows c.args.branch))

pub returns-clause-below : goal.returns-clause-below
returns-clause-below c =
    let rows = c.self.inside.tree.rows in
    next_has rows c.args.branch (λ (d : ℕ). 0 < d) (swept_sub rows c.args.branch) c.live_under.result c.live_under.ensures (c.next_is_first.ensures rows c.args.branch)

pub returns-clause-live : goal.returns-clause-live
returns-clause-live c =
    let rows = c.self.inside.tree.rows in
    subst (λ (v : StateParts). IfSome c.live_under.result (λ d. is_live_branch v.family.rows d ≡ true)) c.self.view_is
    (next_has rows c.args.branch (λ (d : ℕ). is_live_branch rows d ≡ true) (swept_live rows c.args.branch) c.live_under.result c.live_under.ensures (c.next_is_first.ensures rows c.args.branch))
