use Rattle.std.proofs.Common.{◌≡◌, cond, Some, is_some, true, false, not, sym, ap, ◌∙◌}
use Rattle.nodes_parts.specs.Index.{name_in, number_of, same_number}
use Rattle.nodes_parts.proofs.Found.{name_added, name_kept, none_of}
use Rattle.nodes_parts.proofs.transactions.Transactions.add.Goals as goal

pub returns-in_ok-insert-clause-ok : goal.returns-in_ok-insert-clause-ok
returns-in_ok-insert-clause-ok c = λ k.
    let unnamed : is_some c.name.result ≡ false = c.is_none.ensures ∙ ap not c.if-is_none.true in
    let none = none_of (name_in c.args.self.now c.args.key.now) (ap is_some (sym c.name.ensures.name) ∙ unnamed) in
    let updated = c.in_ok-insert.ensures.updates.0 (number_of k) in
    let added = updated ∙ ap (λ n. cond (same_number n (number_of k)) (Some c.args.name.now) (name_in c.self.inside.names.entries k)) c.number_of.ensures
    ∙ ap (λ entries. cond (same_number (number_of c.args.key.now) (number_of k)) (Some c.args.name.now) (name_in entries k)) c.self.view_is in
    name_added c.args.self.now c.insert.new.self.entries c.args.key.now k c.args.name.now added none

pub returns-else-is_none-clause-ok : goal.returns-else-is_none-clause-ok
returns-else-is_none-clause-ok c = λ k.
    let there : is_some c.name.result ≡ true = c.is_none.ensures ∙ ap not c.if-is_none.false in
    name_kept c.args.self.now c.args.key.now k c.args.name.now (ap is_some (sym c.name.ensures.name) ∙ there)
