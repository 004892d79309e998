use Rattle.std.proofs.Common.{List, ℕ, [], ◌∷◌, ◌++◌, Err, map, refl, ap, subst, ◌∙◌}
use Rattle.std.proofs.lemmas.Result.{err_from_is_err_and}
use Rattle.ior_refs.specs.declared.key.ObjectKey.{ObjectKey}
use Rattle.ots_model.specs.declared.line.Line.TheVariants as lines
use Rattle.coordinator.specs.declared.said.Said.TheVariants as said
use Rattle.nodes_world.specs.declared.thing.Thing.{Thing}
use Rattle.nodes_world.specs.declared.thing.Thing.TheVariants as things
use Rattle.ots_world.specs.declared.fault.WorldFault.TheVariants as faults
use Rattle.nodes_world.specs.Clients.{created}
use Rattle.nodes_world.specs.Happenings.{naming}
use Rattle.nodes_world.specs.Told.{Known}
use Rattle.nodes_state.specs.Seated.{seat_of}
use Rattle.nodes_state.specs.Shown.{shown}
use Rattle.nodes_state.specs.Telling.{Tells}
use Rattle.nodes_state.proofs.Doing.{part_none}
use Rattle.nodes_state.proofs.Failing.{does_fail}
use Rattle.nodes_clients.proofs.Named.{names_more, resources_named}
use Rattle.nodes_clients.proofs.making.name_sub.Goals as goal

pub returns-in_err-name_transaction-clause-does : goal.returns-in_err-name_transaction-clause-does
returns-in_err-name_transaction-clause-does c =
    let s = c.args.state.now in
    let p = err_from_is_err_and c.from_residual.result c.from_residual.ensures.1 in
    let d = created c.args.parent.now c.args.name.now (said.Made c.args.branch) (shown s) in
    does_fail d (shown (record s { names = c.name_transaction.new.self })) c.args.lines.now.items c.args.lines.now.items c.from_residual.result faults.Memory
    (p.1 ∙ ap Err p.2) (part_none d.lines c.args.lines.now.items c.args.lines.now.items refl)

pub returns-in_err-tell_sub-clause-does : goal.returns-in_err-tell_sub-clause-does
returns-in_err-tell_sub-clause-does c =
    let s = c.args.state.now in
    let p = err_from_is_err_and c.from_residual-in_err-tell_sub.result c.from_residual-in_err-tell_sub.ensures.1 in
    let d = created c.args.parent.now c.args.name.now (said.Made c.args.branch) (shown s) in
    does_fail d (shown (record s { names = c.name_transaction.new.self })) c.args.lines.now.items c.tell_sub.new.lines.items
    c.from_residual-in_err-tell_sub.result faults.Memory (p.1 ∙ ap Err p.2)
    (part_none d.lines c.args.lines.now.items c.tell_sub.new.lines.items c.in_err-tell_sub.ensures)

pub returns-clause-does : goal.returns-clause-does
returns-clause-does c =
    let s = c.args.state.now in (
      ap (λ (ns : List (List ℕ × Thing)). record { seats = map seat_of s.seats.items; messages = s.messages; names = ns })
          (c.in_ok-name_transaction.ensures.things
          ∙ ap (λ (k : ObjectKey). s.names.things ++ (c.args.name.now, things.Transaction k) ∷ []) c.branch_of.ensures),
      subst (λ o. Tells (naming (λ (above : List ℕ). Known (lines.Sub c.args.name.now above)) o) c.args.lines.now.items c.tell_sub.new.lines.items)
          (c.transaction-above.ensures.name ∙ c.requires.names.transactions c.args.parent.now) c.in_ok-tell_sub.ensures,
    )

pub returns-clause-named : goal.returns-clause-named
returns-clause-named c =
    names_more c.args.state.now.names c.name_transaction.new.self (map seat_of c.args.state.now.seats.items) c.args.state.now.messages c.args.name.now
    c.branch_of.result c.in_ok-name_transaction.ensures.things c.name_transaction.ensures.referred c.requires.names

pub returns-clause-resources : goal.returns-clause-resources
returns-clause-resources c =
    resources_named c.args.state.now.names c.name_transaction.new.self c.args.name.now c.branch_of.result c.in_ok-name_transaction.ensures.things
